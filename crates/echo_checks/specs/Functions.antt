-- Functions declared from their first calls.
use Rattle.std.specs.Prelude.{ℕ, ◌+◌, ◌-◌, ◌≤◌, ◌≡◌, List, Bool, false, ◌&&◌, ltb, length, get_or, take, drop, Option, Some, None}
use Rattle.std.proofs.Math.Path.{refl}
use Rattle.std.proofs.Common.{sym, ◌∙◌, arith}
use borrow.Author.Tests.{lt-ltb}
use Rattle.lists.specs.Tests.{every, every_map}
use Rattle.echo_spec.specs.Input.{Node, no_node, nodes_of, Dag}
use Rattle.echo_spec.specs.Widths.{width_at}
use Rattle.echo_spec.specs.Tables.{find_call, arguments_inside, argument_widths, signature, decl_func_ok}
use Rattle.lent.specs.declared.Problem.{Problem as Lent}
use Rattle.lent.specs.Lent.{problem_at}
use Rattle.echo_tables.specs.Steps.{CutOut}
use Rattle.echo_tables.specs.Found.{found_of, Calls, found_none, found_some}

-- has the node a width
abbrev pub has_width : List ℕ → ℕ → Bool
has_width ws x = ltb 0 (width_at ws x)

-- the table of first calls was filled from the problem, and has room for its functions
pub record FirstCalls (p : Lent) (first : List (Option ℕ)) : Type 0 where
  pub functions : length (problem_at p).fname_start ≤ 512
  pub calls : Calls (nodes_of (problem_at p).nodes) first

-- ---------------------------------------------------------------- laws

-- the part of the side entries is lent from its start to its end
pub arguments-have : (ws side : List ℕ) (f : Node) {b : Bool} → b ≡ every (has_width ws) (take (f.c + f.d - f.c) (drop f.c side))
    → b ≡ every (ltb 0) (argument_widths ws side f)
unfolding argument_widths
arguments-have ws side f e =
    let k : f.c + f.d - f.c ≡ f.d = omega arith in
    (rw k at e) ∙ sym (every_map (ltb 0) (width_at ws) (take f.d (drop f.c side)))

-- the arguments that are cut out
pub arguments-cut : (ws side : List ℕ) (f : Node) {xs : List ℕ} → CutOut side f (Some xs) → {b : Bool} → b ≡ every (has_width ws) xs
    → b ≡ (arguments_inside side f && every (ltb 0) (argument_widths ws side f))
unfolding argument_widths
arguments-cut ws side f cut e = rw cut.0 ((rw cut.1 at e) ∙ sym (every_map (ltb 0) (width_at ws) (take f.d (drop f.c side))))

-- function g has width w
module _ (d : Dag) (ws : List ℕ) (g : ℕ) {w : ℕ} (is : w ≡ width_at d.func_width g) where
  pub func-empty : w ≡ 0 → false ≡ decl_func_ok d ws g
  unfolding decl_func_ok
  func-empty z = rw (← is, z) refl

  -- and this is what was looked up of its first call
  module _ (has : w ≡ 0 → ⊥) where
    pub func-absent : None ≡ found_of (find_call d.nodes g) → false ≡ decl_func_ok d ws g
    unfolding decl_func_ok
    func-absent z = rw (← is, lt-ltb 0 w (omega arith), found_none (find_call d.nodes g) z) refl

    pub func-by : {c : ℕ} → Some c ≡ found_of (find_call d.nodes g) → {f : Node} {b : Bool} → f ≡ get_or d.nodes c no_node
        → b ≡ (arguments_inside d.side f && every (ltb 0) (argument_widths ws d.side f)) → b ≡ decl_func_ok d ws g
    unfolding decl_func_ok signature
    func-by z q e =
        let call = found_some (find_call d.nodes g) z in
        rw (← is, lt-ltb 0 w (omega arith), call, signature, call, ← q) e
