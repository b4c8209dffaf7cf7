-- A kind means what the standard's table of symbols says of its symbol.
use Rattle.std.specs.Prelude.{ℕ, ◌≡◌, refl, List, [], ◌∷◌, ◌&&◌, T, eqb}
use Rattle.std.proofs.Common.{sym, ap, ◌∙◌, eqb→eq}
use Rattle.lists.specs.Bytes.{bytes}
use Rattle.lists.specs.Tests.{same, same→eq, and_0, and-1, or_elim}
use Rattle.reading.specs.Trees.{Name}
use Rattle.smtlib.specs.Readings.{Row, operators, listed}
use Rattle.vectors.specs.Values.{meanings, meaning}
use Rattle.meanings.specs.Symbols.{symbol_meaning, symbols}

-- ---------------------------------------------------------------- a kind means what its symbol means

abbrev RowsMean : List Row → Type 0
RowsMean [] = Unit {0}
RowsMean (r ∷ rs) = (meaning r.kind ≡ symbol_meaning (bytes r.name)) × RowsMean rs

rows-mean : RowsMean operators
unfolding operators symbol_meaning symbols meanings bytes same
rows-mean = (refl, (refl, (refl, (refl, (refl, (refl, (refl, (refl, (refl, (refl, (refl, (refl, (refl, (refl, (refl, (refl, (refl, (refl, (refl, (refl, (refl, (refl, (refl, (refl, (refl, (refl, (refl, (refl, (refl, (refl, (refl, (refl, (refl, (refl, (refl, tt)))))))))))))))))))))))))))))))))))

named-mean : (rs : List Row) → RowsMean rs → (n : Name) (k p a : ℕ) → T (listed n k p a rs) → meaning k ≡ symbol_meaning n
named-mean [] m n k p a h = absurd h
named-mean (r ∷ rs) m n k p a h =
    or_elim (same n (bytes r.name) && (eqb k r.kind && _)) (listed n k p a rs) h
    (λ t.
    let e : n ≡ bytes r.name = same→eq n (bytes r.name) (and_0 (same n (bytes r.name)) _ t) in
    let f : k ≡ r.kind = eqb→eq k r.kind (and_0 (eqb k r.kind) _ (and-1 (same n (bytes r.name)) _ t)) in
    ap meaning f ∙ m.0 ∙ ap symbol_meaning (sym e))
    (λ t. named-mean rs m.1 n k p a t)

-- Wherever the standard's table reads a symbol as a kind, the kind's meaning in the value of a tree is the symbol's.
pub kind-means : (n : Name) (k p a : ℕ) → T (listed n k p a operators) → meaning k ≡ symbol_meaning n
kind-means = named-mean operators rows-mean
