-- Laws of what a problem encodes: a problem that passes 8 encodes an encodable query. (That every width has 64 bits is in proofs/EncodingLaws.antt.)
use Rattle.std.specs.Prelude.{◌%◌, Bool, T, leb, eqb, length}
use Rattle.lists.specs.Tests.{every, All, and_0, and-1, and_T, by-test}
use Rattle.echo_spec.specs.Input.{Problem, nodes_of, node_encoded, encoded, dag_of, Query, query_of, fits64, encodable}

-- The hypotheses on the columns hold of whatever is lent: they are lent as numbers of 64 bits.
pub encoded-encodable : (p : Problem) → T (encoded p.nodes p.bits) → T (every fits64 p.var_width) → T (every fits64 p.func_width)
    → T (every fits64 p.index_width) → T (every fits64 p.value_width) → T (encodable (query_of p))
unfolding encoded encodable dag_of
encoded-encodable p t v f i w =
    let nodes : Bool = every node_encoded (nodes_of p.nodes) in
    let bits : Bool = every (λ b. leb b 1) p.bits in
    let t₁ = and-1 (eqb (length p.nodes % 17) 0) _ t in
    and_T nodes _ (and_0 nodes bits t₁) (and_T bits _ (and-1 nodes bits t₁) (and_T (every fits64 p.var_width) _ v
    (and_T (every fits64 p.func_width) _ f (and_T (every fits64 p.index_width) (every fits64 p.value_width) i w))))

-- its bits are bits
pub encoded-binary : (p : Problem) → T (encoded p.nodes p.bits) → All (λ b. leb b 1) p.bits
unfolding encoded
encoded-binary p t =
    by-test (λ b. leb b 1) p.bits (and-1 (every node_encoded (nodes_of p.nodes)) (every (λ b. leb b 1) p.bits) (and-1 (eqb (length p.nodes % 17) 0) _ t))

-- what an encodable query has
pub record Encodable (q : Query) : Type 0 where
  pub nodes : T (every node_encoded q.dag.nodes)
  pub binary : All (λ b. leb b 1) q.bits
  pub variables : T (every fits64 q.dag.var_width)
  pub functions : T (every fits64 q.dag.func_width)
  pub indices : T (every fits64 q.dag.array-widths.index)
  pub values : T (every fits64 q.dag.array-widths.value)

pub encodable-has : (q : Query) → T (encodable q) → Encodable q
unfolding encodable
encodable-has q t =
    let t₁ = and-1 (every node_encoded q.dag.nodes) _ t in
    let t₂ = and-1 (every (λ b. leb b 1) q.bits) _ t₁ in
    let t₃ = and-1 (every fits64 q.dag.var_width) _ t₂ in
    let t₄ = and-1 (every fits64 q.dag.func_width) _ t₃ in
    record {
      nodes = and_0 (every node_encoded q.dag.nodes) _ t;
      binary = by-test (λ b. leb b 1) q.bits (and_0 (every (λ b. leb b 1) q.bits) _ t₁);
      variables = and_0 (every fits64 q.dag.var_width) _ t₂;
      functions = and_0 (every fits64 q.dag.func_width) _ t₃;
      indices = and_0 (every fits64 q.dag.array-widths.index) (every fits64 q.dag.array-widths.value) t₄;
      values = and-1 (every fits64 q.dag.array-widths.index) (every fits64 q.dag.array-widths.value) t₄;
    }
