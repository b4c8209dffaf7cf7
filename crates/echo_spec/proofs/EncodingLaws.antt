-- Laws of widths: every width that is worked out has 64 bits.
use Rattle.std.specs.Prelude.{ℕ, List, [], ◌∷◌, map, ◌&&◌, T, ltb, length, take, drop, get_or}
use Rattle.std.proofs.Math.Option.{Option, none, some}
use Rattle.std.proofs.Common.{le→leb, lt→ltb}
use Rattle.lists.specs.Tests.{every, and_T, places-every, place-bound}
use Rattle.echo_spec.specs.Input.{no_node, Query, largest, fits64}
use Rattle.echo_spec.specs.Widths.{array_widths_ok, width_at, widths_of}
use Rattle.echo_spec.specs.Tables.{find_call, argument_widths, signature}
use Rattle.echo_spec.proofs.NodeLaws.{node_wide}

-- whether or not every node is well formed, those whose widths are known have widths from 1 to the largest of 64 bits, where the array
-- table's are allowed
pub widths-wide : (q : Query) → T (array_widths_ok q.dag.array-widths) → T (every (λ w. ltb 0 w && fits64 w) (widths_of q))
widths-wide q ok =
    places-every (λ w. ltb 0 w && fits64 w) 0 (widths_of q)
    (λ i l.
    let w : ℕ = width_at (widths_of q) i in
    let (p, b) = node_wide (length q.bits) q.dag.array-widths q.dag.side q.dag.nodes ok i l in
    and_T (ltb 0 w) (fits64 w) (lt→ltb 0 w p) (le→leb w largest b))

-- of any number: past the nodes there is 0
pub width_fits : (q : Query) → T (array_widths_ok q.dag.array-widths) → (i : ℕ) → T (fits64 (width_at (widths_of q) i))
width_fits q ok i =
    let ws : List ℕ = widths_of q in
    le→leb (width_at ws i) largest (place-bound ws i largest (λ l. (node_wide (length q.bits) q.dag.array-widths q.dag.side q.dag.nodes ok i l).1))

-- and so of the arguments that a function is declared with
pub signature-fits : (q : Query) → T (array_widths_ok q.dag.array-widths) → (g : ℕ) → T (every fits64 (signature q.dag (widths_of q) g))
unfolding signature argument_widths
signature-fits q ok g = by_first (find_call q.dag.nodes g)
  where
    fit : (xs : List ℕ) → T (every fits64 (map (width_at (widths_of q)) xs))
    fit [] = tt
    fit (x ∷ xs) = and_T (fits64 (width_at (widths_of q) x)) _ (width_fits q ok x) (fit xs)

    by_first : (o : Option ℕ) → T (every fits64 (elim o [ none ↦ [] | some c ↦ argument_widths (widths_of q) q.dag.side (get_or q.dag.nodes c no_node) ]))
    by_first none = tt
    by_first (some c) = fit (take (get_or q.dag.nodes c no_node).d (drop (get_or q.dag.nodes c no_node).c q.dag.side))
