-- What keeps a formula to one reading: levels (phrases with the same tokens, of which one keeps to them), the longest token, and names
-- that are declared once (two readings without that). And a text that the printer does not write, but that reads.
use Rattle.std.specs.Prelude.{ℕ, ◌≡◌, refl, List, [], ◌∷◌, ◌++◌, Bool, true, false, ◌&&◌, T}
use Rattle.std.proofs.Common.{ap, sym, ◌∙◌, arith}
use Rattle.lists.specs.Bytes.{bytes}
use Rattle.lists.specs.Tests.{same, in_list, every, by-test, same_refl}
use Rattle.reading.specs.Kinds.{Eq}
use Rattle.reading.specs.Trees.{Name, Tree, variable, apply, call, Trees, none as noTrees, more as moreTrees, Declarations}
use Rattle.smtlib.specs.Readings.{operators, built_in, a_tree, Names, is_variable, is_constant, is_operator, Means, MeansIn}
use Rattle.formulas.specs.Tokens.{Token, open⁽, close⁾, comma, numeral, binary, name, word, name_byte, is_word, signs, Spells, Lex}
use Rattle.formulas.specs.TokensUnique.{lex-unique}
use Rattle.formulas.specs.TokensText.{put-end, put-blank, put-name, put-sign}
use Rattle.formulas.specs.Phrases.{infixes, prefixes, others, lookup, Phrase, reference, brackets, prefixed, infixed, Phrases, none, more, phrase_tokens, stands, phrase_term, Reads}
use Rattle.formula_theorems.specs.Written.{write, symbols_of, lex-phrase}
use Rattle.formula_theorems.specs.ReadsUnique.{lex-whole}
use Rattle.echo_spec.specs.Render.{quoted}

abbrev x : Phrase
x = reference (bytes "x")

abbrev y : Phrase
y = reference (bytes "y")

abbrev z : Phrase
z = reference (bytes "z")

abbrev infix₂ : Phrase → List ℕ → Phrase → Phrase
infix₂ p w q = infixed p w q

-- ---------------------------------------------------------------- levels

-- two phrases with the same tokens, of which the first keeps to the levels and the second does not
pub record Told (p q : Phrase) : Type 0 where
  pub tokens : phrase_tokens p ≡ phrase_tokens q
  pub first : T (stands 0 p)
  pub second : stands 0 q ≡ false

to-the-left : Told (infix₂ (infix₂ x (bytes "-") y) (bytes "-") z) (infix₂ x (bytes "-") (infix₂ y (bytes "-") z))
unfolding phrase_tokens stands lookup infixes bytes same
to-the-left = record { tokens = refl; first = tt; second = refl }

tighter-first : Told (infix₂ x (bytes "+") (infix₂ y (bytes "*") z)) (infix₂ (infix₂ x (bytes "+") y) (bytes "*") z)
unfolding phrase_tokens stands lookup infixes bytes same
tighter-first = record { tokens = refl; first = tt; second = refl }

-- `|x| band |y| == |z|`: by the levels, whatever the sorts
comparison-tighter : Told (infix₂ x (bytes "band") (infix₂ y (bytes "==") z)) (infix₂ (infix₂ x (bytes "band") y) (bytes "==") z)
unfolding phrase_tokens stands lookup infixes bytes same
comparison-tighter = record { tokens = refl; first = tt; second = refl }

prefix-tightest : Told (infix₂ (prefixed (bytes "-") x) (bytes "*") y) (prefixed (bytes "-") (infix₂ x (bytes "*") y))
unfolding phrase_tokens stands lookup infixes prefixes bytes same
prefix-tightest = record { tokens = refl; first = tt; second = refl }

-- one sign between operands, and before one
minus_minus : T (stands 0 (infix₂ x (bytes "-") (prefixed (bytes "-") (prefixed (bytes "-") y))))
unfolding stands lookup infixes prefixes bytes same
minus_minus = tt

-- ---------------------------------------------------------------- tokens

-- `<<` is one token, and `< <` are two
one_token : Lex (bytes "<<") (word (bytes "<<") ∷ []) × ((ts : List Token) → Lex (bytes "<<") ts → ts ≡ word (bytes "<<") ∷ [])
unfolding bytes signs same
one_token =
    let l : Lex (60 ∷ 60 ∷ []) (word (60 ∷ 60 ∷ []) ∷ []) = put-sign (60 ∷ 60 ∷ []) [] [] tt tt put-end in
    (l, λ ts k. lex-unique (60 ∷ 60 ∷ []) ts _ k l)

two-tokens : Lex (bytes "< <") (word (bytes "<") ∷ word (bytes "<") ∷ [])
unfolding bytes signs same
two-tokens = put-sign (60 ∷ []) (32 ∷ 60 ∷ []) _ tt tt (put-blank _ _ (put-sign (60 ∷ []) [] [] tt tt put-end))

-- two signs side by side of which none goes on the other: `--`, `!!`, `<-`
side_by_side : Lex (bytes "<--!~") (word (bytes "<") ∷ word (bytes "-") ∷ word (bytes "-") ∷ word (bytes "!") ∷ word (bytes "~") ∷ [])
unfolding bytes signs same
side_by_side =
    put-sign (60 ∷ []) _ _ tt tt (put-sign (45 ∷ []) _ _ tt tt (put-sign (45 ∷ []) _ _ tt tt (put-sign (33 ∷ []) _ _ tt tt (put-sign (126 ∷ []) [] [] tt tt put-end))))

-- ---------------------------------------------------------------- names

-- `f` both a variable and a function
twice : Declarations
twice = record { variables = record { name = bytes "f"; width = 8 } ∷ []; arrays = []; functions = record { name = bytes "f"; arguments = []; width = 8 } ∷ [] }

reads-name : (t : Tree) → Names twice (bytes "f") (a_tree t) → Reads twice (bytes "|f|") t
unfolding bytes phrase_tokens stands phrase_term MeansIn
reads-name t h =
    record {
      tokens = name (102 ∷ []) ∷ [];
      phrase = reference (102 ∷ []);
      lexed = put-name (102 ∷ []) [] [] (by-test name_byte (102 ∷ []) tt) put-end;
      parsed = refl;
      levels = tt;
      means = h;
    }

two-readings : Reads twice (bytes "|f|") (variable (bytes "f")) × Reads twice (bytes "|f|") (call (bytes "f") noTrees)
unfolding twice bytes same
two-readings = (reads-name (variable (102 ∷ [])) (is_variable tt refl), reads-name (call (102 ∷ []) noTrees) (is_constant tt refl))

-- ---------------------------------------------------------------- more brackets than are needed

pair : Declarations
pair = record { variables = record { name = bytes "x"; width = 8 } ∷ record { name = bytes "y"; width = 8 } ∷ []; arrays = []; functions = [] }

superfluous : Phrase
superfluous = brackets (infix₂ (brackets x) (bytes "==") y)

superfluous-text : write superfluous ≡ bytes "((|x|) == |y|)"
unfolding superfluous write quoted bytes
superfluous-text = refl

-- the grammar has texts that the printer does not write
reads-superfluous : Reads pair (bytes "((|x|) == |y|)") (apply Eq [] (moreTrees (variable (bytes "x")) (moreTrees (variable (bytes "y")) noTrees)))
unfolding pair superfluous phrase_tokens stands phrase_term MeansIn lookup infixes operators bytes same
reads-superfluous =
    record {
      tokens = phrase_tokens superfluous;
      phrase = superfluous;
      lexed = rw (← superfluous-text) (lex-whole superfluous (by-test name_byte (120 ∷ []) tt, tt, by-test name_byte (121 ∷ []) tt));
      parsed = refl;
      levels = tt;
      means = (
        a_tree (variable (120 ∷ [])),
        a_tree (variable (121 ∷ [])) ∷ [],
        is_variable tt refl,
        (is_variable tt refl, tt),
        is_operator Eq (moreTrees (variable (120 ∷ [])) (moreTrees (variable (121 ∷ [])) noTrees)) tt refl refl,
      );
    }
