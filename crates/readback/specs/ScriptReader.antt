-- A reader of whole scripts in the printer's own spelling, and the reading of which bytes are the text.
use Rattle.std.specs.Prelude.{ℕ, zero, suc, ◌+◌, ◌*◌, List, [], ◌∷◌, Bool, true, false, ◌&&◌, cond, eqb, length}
use Rattle.std.proofs.Math.Option.{Option, none, some}
use Rattle.lists.specs.Bytes.{bytes}
use Rattle.lists.specs.Tests.{same}
use Rattle.reading.specs.Trees.{Name, Tree, Trees, none as noTrees, more, Variable, Array, Function, Declarations, Reading}
use Rattle.echo_spec.specs.Render.{logic_of}
use Rattle.readback.specs.Printable.{printable}
use Rattle.readback.specs.Reader.{Took, took, and_then, expect, up_to, name_read, read_numeral, read_term}

-- (_ BitVec n)
unfoldable pub read_sort : List ℕ → Option (Took ℕ)
read_sort b = and_then (expect (bytes "(_ BitVec ") b) (λ _ q. and_then (read_numeral q) (λ w r. and_then (expect (bytes ")") r) (λ _ z. took w z)))

unfoldable pub read_variable : List ℕ → Option (Took Variable)
read_variable b =
    and_then (expect (bytes "(declare-const |") b) (λ _ q. and_then (name_read q) (λ n r. and_then (expect (bytes " ") r) (λ _ x.
    and_then (read_sort x) (λ w y. and_then (expect (bytes ")\n") y) (λ _ z. took (record { name = n; width = w }) z)))))

unfoldable pub read_array : List ℕ → Option (Took Array)
read_array b =
    and_then (expect (bytes "(declare-const |") b) (λ _ q. and_then (name_read q) (λ n r. and_then (expect (bytes " (Array ") r) (λ _ x.
    and_then (read_sort x) (λ i y. and_then (expect (bytes " ") y) (λ _ u. and_then (read_sort u) (λ v t.
    and_then (expect (bytes "))\n") t) (λ _ z. took (record { name = n; index = i; value = v }) z)))))))

unfoldable pub separator : Bool → List ℕ → Option (Took (List ℕ))
separator true b = took [] b
separator false b = expect (bytes " ") b

-- sorts with blanks between them, up to the closing bracket; `first` says that none came before
unfoldable pub read_sorts : ℕ → Bool → List ℕ → Option (Took (List ℕ))
read_sorts zero first b = none
read_sorts (suc f) first [] = none
read_sorts (suc f) first (c ∷ b) =
    elim (eqb c 41) [
      | true ↦ took [] b
      | false ↦ and_then (separator first (c ∷ b)) (λ _ q.
          and_then (read_sort q) (λ w r. and_then (read_sorts f false r) (λ ws z. took (w ∷ ws) z)))
    ]

unfoldable pub read_function : List ℕ → Option (Took Function)
read_function b =
    and_then (expect (bytes "(declare-fun |") b) (λ _ q. and_then (name_read q) (λ n r. and_then (expect (bytes " (") r) (λ _ x.
    and_then (read_sorts (suc (length x)) true x) (λ ws y. and_then (expect (bytes " ") y) (λ _ u. and_then (read_sort u) (λ w t.
    and_then (expect (bytes ")\n") t) (λ _ z. took (record { name = n; arguments = ws; width = w }) z)))))))

-- as many as there are
unfoldable pub many : {A : Type 0} → (List ℕ → Option (Took A)) → ℕ → List ℕ → Option (Took (List A))
many p zero b = none
many p (suc f) b = elim (p b) [ none ↦ took [] b | some t ↦ and_then (many p f t.rest) (λ xs r. took (t.value ∷ xs) r) ]

-- steps enough for a term of these bytes: a bracket and a blank can take three
abbrev pub term_steps : List ℕ → ℕ
term_steps b = 2 * length b + 2

unfoldable pub read_assertion : Declarations → List ℕ → Option (Took Tree)
read_assertion D b = and_then (expect (bytes "(assert ") b) (λ _ q. and_then (read_term (term_steps q) D q) (λ t r. and_then (expect (bytes ")\n") r) (λ _ z. took t z)))

unfoldable pub trees_from : List Tree → Trees
trees_from [] = noTrees
trees_from (t ∷ ts) = more t (trees_from ts)

unfoldable pub under_logic : Bool → Reading → List ℕ → Option (Took Reading)
under_logic true r z = took r z
under_logic false r z = none

abbrev pub is_empty : List ℕ → Bool
is_empty [] = true
is_empty (c ∷ b) = false

-- a script, and the bytes after it
unfoldable pub read_script : List ℕ → Option (Took Reading)
read_script b =
    and_then (expect (bytes "(set-logic ") b) (λ _ b₁.
    and_then (expect (bytes ")\n") (up_to (λ c. eqb c 41) b₁).rest) (λ _ b₂.
    and_then (many read_variable (suc (length b)) b₂) (λ vs b₃.
    and_then (many read_array (suc (length b)) b₃) (λ rs b₄.
    and_then (many read_function (suc (length b)) b₄) (λ fs b₅.
    and_then (many (read_assertion (record { variables = vs; arrays = rs; functions = fs })) (suc (length b)) b₅) (λ ts b₆.
    and_then (expect (bytes "(check-sat)\n") b₆) (λ _ z.
    under_logic (same (up_to (λ c. eqb c 41) b₁).value (logic_of fs rs))
    (record { declarations = record { variables = vs; arrays = rs; functions = fs }; assertions = trees_from ts }) z)))))))

-- nothing may follow, and the reading is one that has a script
unfoldable pub if_whole : Option (Took Reading) → Option Reading
if_whole none = none
if_whole (some t) = cond (is_empty t.rest && printable t.value) (some t.value) none

-- THE DECISION OF 13: the reading of which the bytes are the script, or nothing where they are no problem's script.
unfoldable pub reading_in : List ℕ → Option Reading
reading_in b = if_whole (read_script b)
