-- The sort of a term that is read, and the term that has a sort.
use Rattle.std.specs.Prelude.{ℕ, ◌≡◌, refl, List}
use Rattle.std.proofs.Common.{ap, ◌∙◌}
use Rattle.std.proofs.Math.Option.{Option, none, some}
use Rattle.reading.specs.Trees.{Tree, Declarations}
use Rattle.echo_spec.specs.TreeSorts.{TreeSort, tree_sort}
use Rattle.readback.specs.Reader.{took, and_then, read_term}
use Rattle.reader_laws.specs.TermsStrict.{impossible, and-then, took-both}
use Rattle.sort_reader.specs.Sorted.{of_sort, sorted}

pub of-sort : (o : Option TreeSort) (r : List ℕ) (σ : TreeSort) (z : List ℕ) → of_sort o r ≡ took σ z → (o ≡ some σ) × (r ≡ z)
unfolding of_sort
of-sort none r σ z e = absurd (impossible e)
of-sort (some τ) r σ z e = let (m, n) = took-both τ σ r z e in (ap (λ (x : TreeSort). some x) m, n)

-- a term that has a sort
pub sorted-term : (f : ℕ) (D : Declarations) (b : List ℕ) (σ : TreeSort) (z : List ℕ) → sorted f D b ≡ took σ z → (t : Tree) × (read_term f D b ≡ took t z) × (tree_sort D t ≡ some σ)
unfolding sorted
sorted-term f D b σ z e =
    let (t, r, q, g) = and-then (read_term f D b) _ σ z e in
    let (m, n) = of-sort (tree_sort D t) r σ z g in
    (t, q ∙ ap (λ (x : List ℕ). took t x) n, m)

-- the sort of a term that is read
pub term-sorted : (f : ℕ) (D : Declarations) (b : List ℕ) (t : Tree) (σ : TreeSort) (z : List ℕ) → read_term f D b ≡ took t z → tree_sort D t ≡ some σ → sorted f D b ≡ took σ z
unfolding sorted and_then of_sort
term-sorted f D b t σ z e q = rw (e, q) refl
