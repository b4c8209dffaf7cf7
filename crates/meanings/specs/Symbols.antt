-- What each function symbol of the theories means, by its name. That a kind means what the standard's table of symbols says of its symbol is in proofs/Symbols.antt.
use Rattle.std.specs.Prelude.{List, [], ◌∷◌, ◌&&◌, ◌||◌, not, cond, eqb}
use Prim.Native.String.{String}
use Rattle.lists.specs.Bytes.{bytes}
use Rattle.lists.specs.Tests.{same}
use Rattle.reading.specs.Trees.{Name}
use Rattle.vectors.specs.Values.{Meaning, binary, unary, comparison, connective, negation, choice, concatenation, extraction, moved, unknown, longer, unchanged}
use Rattle.vectors.specs.Vectors as smt

pub record Symbol : Type 0 where
  pub name : String
  pub means : Meaning

abbrev pub symbol : String → Meaning → Symbol
symbol n m = record { name = n; means = m }

-- in the order of the standard's files: Core, FixedSizeBitVectors, QF_BV
unfoldable pub symbols : List Symbol
symbols =
    symbol "not" negation
    ∷ symbol "and" (connective ◌&&◌)
    ∷ symbol "or" (connective ◌||◌)
    ∷ symbol "=" (comparison (λ m s t. eqb s t))
    ∷ symbol "distinct" (comparison (λ m s t. not (eqb s t)))
    ∷ symbol "ite" choice
    ∷ symbol "concat" concatenation
    ∷ symbol "extract" extraction
    ∷ symbol "bvnot" (unary smt.bvnot)
    ∷ symbol "bvneg" (unary smt.bvneg)
    ∷ symbol "bvand" (binary smt.bvand)
    ∷ symbol "bvor" (binary smt.bvor)
    ∷ symbol "bvadd" (binary smt.bvadd)
    ∷ symbol "bvmul" (binary smt.bvmul)
    ∷ symbol "bvudiv" (binary smt.bvudiv)
    ∷ symbol "bvurem" (binary smt.bvurem)
    ∷ symbol "bvshl" (binary smt.bvshl)
    ∷ symbol "bvlshr" (binary smt.bvlshr)
    ∷ symbol "bvult" (comparison (λ m s t. smt.bvult s t))
    ∷ symbol "bvxor" (binary smt.bvxor)
    ∷ symbol "bvsub" (binary smt.bvsub)
    ∷ symbol "bvsdiv" (binary smt.bvsdiv)
    ∷ symbol "bvsrem" (binary smt.bvsrem)
    ∷ symbol "bvashr" (binary smt.bvashr)
    ∷ symbol "zero_extend" (moved smt.zero_extend longer)
    ∷ symbol "sign_extend" (moved smt.sign_extend longer)
    ∷ symbol "rotate_left" (moved smt.rotate_left unchanged)
    ∷ symbol "rotate_right" (moved smt.rotate_right unchanged)
    ∷ symbol "bvule" (comparison (λ m s t. smt.bvule s t))
    ∷ symbol "bvugt" (comparison (λ m s t. smt.bvugt s t))
    ∷ symbol "bvuge" (comparison (λ m s t. smt.bvuge s t))
    ∷ symbol "bvslt" (comparison smt.bvslt)
    ∷ symbol "bvsle" (comparison smt.bvsle)
    ∷ symbol "bvsgt" (comparison smt.bvsgt)
    ∷ symbol "bvsge" (comparison smt.bvsge)
    ∷ []

abbrev pub means_among : List Symbol → Name → Meaning
means_among [] n = unknown
means_among (s ∷ ss) n = cond (same n (bytes s.name)) s.means (means_among ss n)

-- what a symbol means
unfoldable pub symbol_meaning : Name → Meaning
symbol_meaning n = means_among symbols n
