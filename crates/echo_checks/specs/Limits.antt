-- The columns of a problem, and what its limits say.
use Rattle.std.specs.Prelude.{ℕ, ◌≤◌, List, [], ◌∷◌, T, leb, length}
use Rattle.std.proofs.Common.{leb→le}
use Rattle.lists.specs.Tests.{every, by-test, and_0, and-1}
use Rattle.echo_spec.specs.Input.{Problem, nodes_within, column_within, within_limits}

abbrev pub columns : Problem → List (List ℕ)
columns p =
    p.name_start ∷ p.name_len ∷ p.var_node ∷ p.var_width ∷ p.aname_start ∷ p.aname_len ∷ p.index_width ∷ p.value_width ∷ p.fname_start ∷ p.fname_len ∷ p.func_width ∷ []

-- what later functions use of the limits
pub record Bounds (p : Problem) : Type 0 where
  pub nodes : length p.nodes ≤ 34816
  pub side : length p.side ≤ 8192
  pub functions : length p.fname_start ≤ 512

-- ---------------------------------------------------------------- laws

pub bounds : (p : Problem) → T (within_limits p) → Bounds p
unfolding within_limits nodes_within column_within
bounds p t =
    let nodes = leb (length p.nodes) 34816 in
    let bits = leb (length p.bits) 131072 in
    let n = and_0 (nodes_within p.nodes p.bits p.side) _ t in
    let r = and-1 (nodes_within p.nodes p.bits p.side) _ t in
    let c = by-test column_within (columns p) (and_0 (every column_within (columns p)) _ (and-1 (leb (length p.roots) 256) _ r)) in
    record {
      nodes = leb→le _ _ (and_0 nodes _ n);
      side = leb→le _ _ (and-1 bits _ (and-1 nodes _ n));
      functions = leb→le _ _ c.1.1.1.1.1.1.1.1.0;
    }
