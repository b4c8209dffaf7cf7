-- A reader of the printer's own spelling of terms, by one byte of foresight. It answers the tree and the bytes after it, or nothing where
-- the bytes do not begin as the printer writes. That it is right is no matter of belief: laws say that it reads what was written, and
-- nothing else.
use Rattle.std.specs.Prelude.{ℕ, zero, suc, List, [], ◌∷◌, Bool, true, false, ◌||◌, not, eqb}
use Rattle.std.proofs.Math.Option.{Option, none, some}
use Rattle.lists.specs.Bytes.{bytes}
use Rattle.lists.specs.Tests.{same}
use Rattle.lists.specs.Build.{find_from}
use Rattle.reading.specs.Trees.{Name, Tree, variable, constant, apply, select, call, Trees, none as noTrees, more, Stores, base, store, Declarations}
use Rattle.smtlib.specs.Lexicon.{digit, binary_digit, value_from}
use Rattle.smtlib.specs.Readings.{bits_of}
use Rattle.echo_spec.specs.Render.{symbols, decimal}
use Rattle.readback.specs.Rebuild.{variable_number}

-- what was read, and the bytes after it
pub record Took (A : Type 0) : Type 0 where
  pub value : A
  pub rest : List ℕ

abbrev pub took : {A : Type 0} → A → List ℕ → Option (Took A)
took x r = some (record { value = x; rest = r })

-- one reader, and then another on the bytes after
unfoldable pub and_then : {A B : Type 0} → Option (Took A) → (A → List ℕ → Option (Took B)) → Option (Took B)
and_then none f = none
and_then (some t) f = f t.value t.rest

-- the bytes after the word
unfoldable pub expect : List ℕ → List ℕ → Option (Took (List ℕ))
expect [] b = took [] b
expect (c ∷ w) [] = none
expect (c ∷ w) (x ∷ b) = elim (eqb c x) [ true ↦ expect w b | false ↦ none ]

-- the bytes before the first that passes, and that one and those after it
unfoldable pub up_to : (ℕ → Bool) → List ℕ → Took (List ℕ)
up_to p [] = record { value = []; rest = [] }
up_to p (c ∷ b) = elim (p c) [ true ↦ record { value = []; rest = c ∷ b } | false ↦ record { value = c ∷ (up_to p b).value; rest = (up_to p b).rest } ]

-- ---------------------------------------------------------------- leaves and heads

-- a name after its first bar
unfoldable pub name_read : List ℕ → Option (Took Name)
name_read b = and_then (expect (bytes "|") (up_to (λ c. eqb c 124) b).rest) (λ _ r. took (up_to (λ c. eqb c 124) b).value r)

-- the rest of a constant after `#`
unfoldable pub read_constant : List ℕ → Option (Took Tree)
read_constant b =
    and_then (expect (bytes "b") b) (λ _ r. took (constant (bits_of (up_to (λ c. not (binary_digit c)) r).value)) (up_to (λ c. not (binary_digit c)) r).rest)

-- digits, as `decimal` writes them
unfoldable pub numeral_is : ℕ → Bool → List ℕ → Option (Took ℕ)
numeral_is k true r = took k r
numeral_is k false r = none

unfoldable pub numeral_from : Took (List ℕ) → Option (Took ℕ)
numeral_from t = numeral_is (value_from 0 t.value) (same t.value (decimal (value_from 0 t.value))) t.rest

unfoldable pub read_numeral : List ℕ → Option (Took ℕ)
read_numeral b = numeral_from (up_to (λ c. not (digit c)) b)

-- numerals, each after a blank, and the closing bracket
unfoldable pub read_numerals : ℕ → List ℕ → Option (Took (List ℕ))
read_numerals zero b = none
read_numerals (suc f) [] = none
read_numerals (suc f) (c ∷ b) =
    elim (eqb c 41) [
      | true ↦ took [] b
      | false ↦ elim (eqb c 32) [ true ↦ and_then (read_numeral b) (λ k r. and_then (read_numerals f r) (λ ks q. took (k ∷ ks) q)) | false ↦ none ]
    ]

-- the kind of a symbol
unfoldable pub kind_of : List ℕ → Option ℕ
kind_of w = find_from (λ s. same w (bytes s)) 0 symbols

-- a name by itself: a variable, or a call without arguments
unfoldable pub named_tree : Declarations → Name → Tree
named_tree D n = elim (variable_number D n) [ none ↦ call n noTrees | some k ↦ variable n ]

unfoldable pub applied : Option ℕ → List ℕ → Trees → List ℕ → Option (Took Tree)
applied none ks ts r = none
applied (some k) ks ts r = took (apply k ks ts) r

-- with one numeral or more
unfoldable pub applied_indexed : Option ℕ → List ℕ → Trees → List ℕ → Option (Took Tree)
applied_indexed o [] ts r = none
applied_indexed o (k ∷ ks) ts r = applied o (k ∷ ks) ts r

-- with one argument or more
unfoldable pub called : Name → Trees → List ℕ → Option (Took Tree)
called n noTrees r = none
called n (more t ts) r = took (call n (more t ts)) r

-- an array with the stores over it
pub record Stored : Type 0 where
  pub array : Name
  pub stores : Stores

-- the head of a term up to a blank or a closing bracket
abbrev pub word_end : ℕ → Bool
word_end c = eqb c 32 || eqb c 41

-- ---------------------------------------------------------------- terms

unfoldable mutual
  pub read_term : ℕ → Declarations → List ℕ → Option (Took Tree)
  read_term zero D b = none
  read_term (suc f) D [] = none
  read_term (suc f) D (c ∷ b) =
      elim (eqb c 35) [
        | true ↦ read_constant b
        | false ↦ elim (eqb c 124) [
          | true ↦ and_then (name_read b) (λ n r. took (named_tree D n) r)
          | false ↦ elim (eqb c 40) [ true ↦ read_open f D b | false ↦ none ]
        ]
      ]

  -- after the opening bracket
  pub read_open : ℕ → Declarations → List ℕ → Option (Took Tree)
  read_open zero D b = none
  read_open (suc f) D [] = none
  read_open (suc f) D (c ∷ b) =
      elim (eqb c 40) [
        | true ↦ and_then (expect (bytes "_ ") b) (λ _ q.
            and_then (read_numerals f (up_to word_end q).rest) (λ ks r.
            and_then (read_terms f D r) (λ ts z. applied_indexed (kind_of (up_to word_end q).value) ks ts z)))
        | false ↦ elim (eqb c 124) [
          | true ↦ and_then (name_read b) (λ n r. and_then (read_terms f D r) (λ ts z. called n ts z))
          | false ↦ elim (same (up_to word_end (c ∷ b)).value (bytes "select")) [
            | true ↦ and_then (expect (bytes " ") (up_to word_end (c ∷ b)).rest) (λ _ q.
                and_then (read_stored f D q) (λ a r.
                and_then (expect (bytes " ") r) (λ _ x.
                and_then (read_term f D x) (λ j y.
                and_then (expect (bytes ")") y) (λ _ z. took (select a.array j a.stores) z)))))
            | false ↦ and_then (read_terms f D (up_to word_end (c ∷ b)).rest) (λ ts z. applied (kind_of (up_to word_end (c ∷ b)).value) [] ts z)
          ]
        ]
      ]

  -- terms, each after a blank, and the closing bracket
  pub read_terms : ℕ → Declarations → List ℕ → Option (Took Trees)
  read_terms zero D b = none
  read_terms (suc f) D [] = none
  read_terms (suc f) D (c ∷ b) =
      elim (eqb c 41) [
        | true ↦ took noTrees b
        | false ↦ elim (eqb c 32) [ true ↦ and_then (read_term f D b) (λ t r. and_then (read_terms f D r) (λ ts q. took (more t ts) q)) | false ↦ none ]
      ]

  -- an array, or a store over one
  pub read_stored : ℕ → Declarations → List ℕ → Option (Took Stored)
  read_stored zero D b = none
  read_stored (suc f) D [] = none
  read_stored (suc f) D (c ∷ b) =
      elim (eqb c 124) [
        | true ↦ and_then (name_read b) (λ n r. took (record { array = n; stores = base }) r)
        | false ↦ elim (eqb c 40) [
          | true ↦ and_then (expect (bytes "store ") b) (λ _ q.
              and_then (read_stored f D q) (λ a r.
              and_then (expect (bytes " ") r) (λ _ x.
              and_then (read_term f D x) (λ i y.
              and_then (expect (bytes " ") y) (λ _ z.
              and_then (read_term f D z) (λ v p.
              and_then (expect (bytes ")") p) (λ _ e. took (record { array = a.array; stores = store i v a.stores }) e)))))))
          | false ↦ none
        ]
      ]
