-- What is asked of a problem whose declarations are written, and how its checks come to it. Assumes nothing.
use Rattle.std.specs.Prelude.{ℕ, ◌+◌, ◌≤◌, ◌<◌, ◌≡◌, refl, ◌&&◌, List, T, ltb, length, Option, Some, None, IsSome}
use Rattle.std.proofs.Common.{sym, ◌∙◌, arith}
use Rattle.std.proofs.Math.Bool.{false}
use Rattle.std.proofs.Math.Option as math
use Rattle.std.proofs.Math.Option.{none, some}
use Rattle.std.proofs.Math.Dec.{leb→le}
use Rattle.std.proofs.Math.ListN.{get_or}
use Rattle.lists.specs.Tests.{every, every-at, and_0, and-1}
use Rattle.echo_spec.specs.Input.{Node, no_node, nodes_of, Dag, dag_of, fname_table}
use Rattle.echo_spec.specs.ColumnLaws.{names-counted}
use Rattle.echo_spec.specs.Tables.{find_call, arguments_inside, signature, decl_func_ok, decl_funcs_ok}
use Rattle.lent.specs.declared.Problem.{Problem as Lent}
use Rattle.lent.specs.Lent.{problem_at, dag_at}
use Rattle.echo_tables.specs.Found.{found_of, Calls, found_some}

-- each function has a first call, and its arguments lie inside the side entries
pub record EachCalled (d : Dag) : Type 0 where
  pub found : (g : ℕ) → g < length d.fname_start → find_call d.nodes g ≡ none → ⊥
  pub inside : (g : ℕ) → g < length d.fname_start → {c : ℕ} → find_call d.nodes g ≡ some c
      → (get_or d.nodes c no_node).c + (get_or d.nodes c no_node).d ≤ length d.side

-- the table of first calls was filled from the problem, and has room for its functions, which are all called
pub record Declarable (p : Lent) (first : List (Option ℕ)) : Type 0 where
  pub functions : length (problem_at p).fname_start ≤ 512
  pub calls : Calls (nodes_of (problem_at p).nodes) first
  pub called : EachCalled (dag_at p)

-- ---------------------------------------------------------------- laws

module _ (d : Dag) (ws : List ℕ) (h : T (decl_funcs_ok d ws)) (g : ℕ) (l : g < length d.fname_start) where
  func-ok : T (decl_func_ok d ws g)
  unfolding decl_funcs_ok
  func-ok = every-at (decl_func_ok d ws) 0 (length (fname_table d)) h g (omega arith)
      (omega (arith, names-counted d.fnames d.fname_start d.fname_len))

  has-call : find_call d.nodes g ≡ none → ⊥
  unfolding decl_func_ok
  has-call e = and-1 (ltb 0 (get_or d.func_width g 0)) false (rw e at func-ok)

  call-inside : {c : ℕ} → find_call d.nodes g ≡ some c → (get_or d.nodes c no_node).c + (get_or d.nodes c no_node).d ≤ length d.side
  unfolding decl_func_ok
  call-inside {c} e =
      let f = get_or d.nodes c no_node in
      leb→le _ _ (and_0 (arguments_inside d.side f) _ (and-1 (ltb 0 (get_or d.func_width g 0)) (arguments_inside d.side f && every (ltb 0) (signature d ws g)) (rw e at func-ok)))

-- by check 7
pub each-called : (d : Dag) (ws : List ℕ) → T (decl_funcs_ok d ws) → EachCalled d
each-called d ws h = record { found = has-call d ws h; inside = call-inside d ws h }

-- r is what was looked up of function g's first call
module _
    {p : Lent}
    {first : List (Option ℕ)}
    (h : Declarable p first)
    (g : ℕ)
    (l : g < length (problem_at p).fname_start)
    {r : Option ℕ}
    (looked : r ≡ get_or first g None)
  where
    call-is : r ≡ found_of (find_call (nodes_of (problem_at p).nodes) g)
    call-is =
        let few : g < 512 = omega (arith, h.functions) in
        looked ∙ h.calls.at g few

    pub some-call : IsSome r
    unfolding dag_of
    some-call = by_search (find_call (nodes_of (problem_at p).nodes) g) refl
      where
        by_search : (o : math.Option ℕ) → find_call (nodes_of (problem_at p).nodes) g ≡ o → IsSome r
        by_search none e = absurd (h.called.found g l e)
        by_search (some c) e = rw (call-is, e) refl

    pub call_at : {c : ℕ} → r ≡ Some c → find_call (nodes_of (problem_at p).nodes) g ≡ some c
    call_at z = found_some _ (sym z ∙ call-is)

    -- and f is its node
    pub arguments-in : {c : ℕ} → r ≡ Some c → {f : Node} → f ≡ get_or (nodes_of (problem_at p).nodes) c no_node
        → f.c + f.d ≤ length (problem_at p).side
    unfolding dag_of
    arguments-in z q = rw q (h.called.inside g l (call_at z))
