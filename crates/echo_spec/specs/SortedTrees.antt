-- Which sort the tree of a node has that the walk passes: the one that was wanted, of the node's width. The laws are in proofs/SortedTrees.antt.
use Prim.Native.Nat.{ℕ, ◌<◌}
use Rattle.std.specs.Prelude.{◌≡◌}
use Rattle.std.proofs.Math.Bool.{Bool, true, false}
use Rattle.std.proofs.Math.Option.{some}
use Rattle.reading.specs.Trees.{Tree, Declarations}
use Rattle.echo_spec.specs.Input.{Query}
use Rattle.echo_spec.specs.Widths.{width_at, widths_of}
use Rattle.echo_spec.specs.Tables.{declarations_of}
use Rattle.echo_spec.specs.TreeSorts.{TreeSort, bool, bits, BoundSorts, sort_under}

-- the sort of a node of this width
abbrev pub sort_as : Bool → ℕ → TreeSort
sort_as true w = bool
sort_as false w = bits w

abbrev pub declarations_in : Query → Declarations
declarations_in q = declarations_of q.dag (widths_of q)

-- the trees of the nodes below i have their sorts, where the walk passes them
abbrev pub SortedBelow : Query → BoundSorts → (ℕ → Bool → ℕ) → (ℕ → Tree) → ℕ → Type 0
SortedBelow q bound below trees i =
    (j : ℕ) (b : Bool) → j < i → below j b ≡ 0 → sort_under (declarations_in q) bound (trees j) ≡ some (sort_as b (width_at (widths_of q) j))
