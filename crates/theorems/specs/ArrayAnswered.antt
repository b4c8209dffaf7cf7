-- The array table's widths (document 02, L5): where 12 is answered, and which widths the arrays of an accepted problem are declared with.
use Rattle.std.specs.Prelude.{ℕ, zero, suc, ◌≤◌, ◌<◌, ◌≡◌, refl, List, [], ◌∷◌, map, not, ◌↔◌, ◌≢◌, leb, eqb, length, get_or}
use Rattle.std.proofs.Common.{sym, subst, ◌∙◌, arith}
use Rattle.std.proofs.Math.Bool.{Bool, true, false}
use Rattle.std.proofs.Math.Dec.{T}
use Rattle.lists.specs.Tests.{among-every, T→true, not→false}
use Rattle.lists.specs.Build.{get_or-tabulate, upto_all}
use Rattle.reading.specs.Trees.{Array}
use Rattle.echo_spec.specs.Refusals.{unless, ◌or_else◌}
use Rattle.echo_spec.specs.Input.{Problem, ArrayWidths, array_widths, pass_within, within_limits, encoded, nodes_of, Dag, dag_of, query_of, aname_table}
use Rattle.echo_spec.specs.Widths.{index_width_of, value_width_of, array_width_limit, array_widths_ok, ext_wf_of, widths_of}
use Rattle.echo_spec.specs.Names.{names_ok}
use Rattle.echo_spec.specs.Sharing.{unshared}
use Rattle.echo_spec.specs.Tables.{one_length, columns_ok, decl_vars_ok, decl_funcs_ok, declarations_of}
use Rattle.echo_spec.specs.Trees.{reading_of}
use Rattle.echo_spec.specs.Walk.{formula, step_of_walk, walks_below, walk, walk_roots, table_checks, refusal_with, refusal}
use Rattle.echo_spec.specs.Answers.{width_refusal, refused_node, width_answer, ext_wf_answer, reading, endless_refusal, echo_ext_answer}
use Rattle.echo_spec.specs.Accepted.{in-or_else, in-unless, walk_number, WalkNumbers, all-number, step-number}
use Rattle.echo_spec.proofs.Accepted.{accepted}
use Rattle.echo_spec.proofs.NodeLaws.{index-bound, value-bound}
use Rattle.echo_spec.specs.ColumnLaws.{columns-aligned, names-counted}
use Rattle.theorems.specs.Answered.{text-told, endless-told, Whole, printed}

-- ---------------------------------------------------------------- 12 of a query

-- from the widths on no check tells a number above 7
module _ (d : Dag) (ws roots : List ℕ) where
  walk-number : WalkNumbers (walk d ws)
  unfolding walk walk_number
  walk-number i =
      step-number d ws (walks_below d ws i)
      (upto_all (λ (f : Bool → ℕ). (b : Bool) → T (walk_number (f b))) (step_of_walk d ws) (λ _. 1) (λ b. tt) (λ below h k. step-number d ws below h k) i) i

  abbrev small : ℕ → Bool
  small n = leb n 7

  roots-small : T (small (walk_roots d ws roots))
  unfolding walk_roots walk_number
  roots-small = among-every small (0 ∷ 1 ∷ 3 ∷ 4 ∷ 5 ∷ 7 ∷ []) tt (walk_roots d ws roots) (all-number (walk d ws) walk-number (map formula roots))

  abbrev sharing : ℕ
  sharing = unless (unshared d.nodes d.side roots) 6

  abbrev later : ℕ
  later = unless (eqb (length ws) (length d.nodes)) 1 or_else table_checks d ws sharing (walk_roots d ws roots)

  later-small : T (small later)
  later-small =
      in-or_else small (unless (eqb (length ws) (length d.nodes)) 1) _ (in-unless small (eqb (length ws) (length d.nodes)) 1 tt tt)
      (in-or_else small (unless (names_ok d) 2) _ (in-unless small (names_ok d) 2 tt tt)
      (in-or_else small sharing _ (in-unless small (unshared d.nodes d.side roots) 6 tt tt)
      (in-or_else small (unless (decl_vars_ok d) 4) _ (in-unless small (decl_vars_ok d) 4 tt tt)
      (in-or_else small (unless (decl_funcs_ok d ws) 7) (walk_roots d ws roots) (in-unless small (decl_funcs_ok d ws) 7 tt tt) roots-small))))

  -- 12 exactly where the columns are of one length and a width is not allowed
  pub array-query : (refusal_with d ws roots ≡ 12) ↔ (T (columns_ok d) × T (not (array_widths_ok d.array-widths)))
  unfolding refusal_with
  array-query = (λ e. there (columns_ok d) (array_widths_ok d.array-widths) e, λ h. back h.0 h.1)
    where
      there : (c a : Bool) → (unless c 1 or_else unless a 12 or_else later) ≡ 12 → T c × T (not a)
      there true true e = absurd (subst (λ (n : ℕ). T (small n)) e later-small)
      there true false e = (tt, tt)
      there false a e = absurd (omega arith)

      back : T (columns_ok d) → T (not (array_widths_ok d.array-widths)) → refusal_with d ws roots ≡ 12
      back c a = rw (T→true (columns_ok d) c, not→false (array_widths_ok d.array-widths) a)

-- ---------------------------------------------------------------- the printer

-- 12 is answered exactly where 9 and 8 are not, all columns are of one length, and a width of the table is 0 or above 65,536
pub array-refusal : (p : Problem) (lent : List ℕ) → ((echo_ext_answer p lent).number ≡ 12)
    ↔ (T (within_limits p) × T (encoded p.nodes p.bits) × T (columns_ok (dag_of p)) × T (not (array_widths_ok (array_widths p))))
unfolding echo_ext_answer endless_refusal dag_of
array-refusal p lent =
    let r : ℕ = refusal (dag_of p) (length p.bits) p.roots in
    let a = text-told (endless_refusal p) (printed p) lent 11 (λ e. omega arith) in
    let b = endless-told p r 11 (λ e. omega arith) (λ e. omega arith) in
    let q = array-query (dag_of p) (widths_of (query_of p)) p.roots in
    (λ e. let (l, n, h) = b.0 (a.0 e) in (l, n, (q.0 h).0, (q.0 h).1), λ (l, n, c, w). a.1 (b.1 (l, n, q.1 (c, w))))

-- the arrays of an accepted problem are declared with the table's widths, each from 1 to 65,536
pub array-declared : (p : Problem) → Whole p → (k : ℕ) → k < length p.aname_start → (past : Array)
    → (get_or (reading p).declarations.arrays k past ≡ record { name = get_or (aname_table (dag_of p)) k []; index = get_or p.index_width k 32; value = get_or p.value_width k 8 })
    × (k < length p.index_width) × (k < length p.value_width)
    × (0 < get_or p.index_width k 32) × (get_or p.index_width k 32 ≤ array_width_limit)
    × (0 < get_or p.value_width k 8) × (get_or p.value_width k 8 ≤ array_width_limit)
unfolding reading_of declarations_of dag_of index_width_of value_width_of
array-declared p w k l past =
    let ok = (accepted (dag_of p) (widths_of (query_of p)) p.roots w.query).checked in
    let al = columns-aligned (dag_of p) ok.columns in
    let (i, i') = index-bound (array_widths p) ok.arrays k in
    let (v, v') = value-bound (array_widths p) ok.arrays k in
    let m : k < length (aname_table (dag_of p)) = omega (arith, names-counted p.anames p.aname_start p.aname_len) in
    (get_or-tabulate (length (aname_table (dag_of p))) _ past k m, omega (arith, al.index_width), omega (arith, al.value_width), i, i', v, v')

-- ---------------------------------------------------------------- the width pass

width-number : (n at : ℕ) (ws lent : List ℕ) → (width_answer n at ws lent).number ≡ n
unfolding width_answer
width-number zero at ws lent = refl
width-number (suc zero) at ws lent = refl
width-number (suc (suc n)) at ws lent = refl

-- 12 likewise: of the columns the two alone are asked for their lengths
pub width-array-refusal : (nodes bits side : List ℕ) (arrays : ArrayWidths) (lent : List ℕ) → ((ext_wf_answer nodes bits side arrays lent).number ≡ 12)
    ↔ (T (pass_within nodes bits side arrays) × T (encoded nodes bits) × T (one_length (arrays.index ∷ arrays.value ∷ [])) × T (not (array_widths_ok arrays)))
unfolding ext_wf_answer width_refusal
width-array-refusal nodes bits side arrays lent =
    let ws : List ℕ = ext_wf_of (length bits) arrays side (nodes_of nodes) in
    let within : Bool = pass_within nodes bits side arrays in
    let even : Bool = one_length (arrays.index ∷ arrays.value ∷ []) in
    let n = width-number (width_refusal nodes bits side arrays ws (length lent)) (refused_node nodes arrays ws) ws lent in (
      λ e. there within (encoded nodes bits) even (array_widths_ok arrays) (eqb (length ws) (length (nodes_of nodes))) (leb (length ws) (length lent)) (sym n ∙ e),
      λ (a, b, c, o). n ∙ rw (T→true within a, T→true (encoded nodes bits) b, T→true even c, not→false (array_widths_ok arrays) o),
    )
  where
    there : (a b c o f r : Bool) → (unless a 9 or_else unless b 8 or_else unless c 1 or_else unless o 12 or_else unless f 1 or_else unless r 10) ≡ 12 → T a × T b × T c × T (not o)
    there true true true true true true e = absurd (omega arith)
    there true true true true true false e = absurd (omega arith)
    there true true true true false r e = absurd (omega arith)
    there true true true false f r e = (tt, tt, tt, tt)
    there true true false o f r e = absurd (omega arith)
    there true false c o f r e = absurd (omega arith)
    there false b c o f r e = absurd (omega arith)
