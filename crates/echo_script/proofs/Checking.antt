-- The checks in order: what each refusal answers, and what is known after the last. Assumes nothing.
use Rattle.std.specs.Prelude.{ℕ, ◌%◌, ◌≤◌, ◌≡◌, refl, Bool, true, ◌&&◌, List, T, leb, eqb, length, Option, Ok, Err, Result}
use Rattle.std.proofs.Common.{sym, ap, ◌∙◌, subst, arith, eq-eqb}
use Rattle.lists.specs.Tests.{every, and-1, true→T, T→true}
use Rattle.echo_spec.specs.Refusals.{unless}
use Rattle.echo_spec.specs.Input.{Problem, array_widths, within_limits, node_encoded, encoded, nodes_of, dag_of, query_of}
use Rattle.echo_spec.specs.Widths.{array_widths_ok, ext_wf_of}
use Rattle.echo_spec.specs.Sharing.{unshared}
use Rattle.echo_spec.specs.ColumnLaws.{columns-aligned}
use Rattle.echo_spec.specs.Tables.{columns_ok, decl_vars_ok, decl_funcs_ok}
use Rattle.echo_spec.specs.Trees.{reading_of}
use Rattle.echo_spec.specs.Walk.{walk_roots, table_checks, checks, refusal_with}
use Rattle.echo_spec.specs.Render.{render}
use Rattle.echo_spec.specs.Answers.{script, endless_with, endless_refusal}
use Rattle.refusals.specs.declared.EchoError.{EchoError}
use Rattle.refusals.specs.Numbers.{error_number}
use Rattle.lent.specs.declared.Problem.{Problem as Lent}
use Rattle.lent.specs.Lent.{problem_at, dag_at}
use Rattle.echo_bytes.specs.declared.Place.{Place}
use Rattle.echo_bytes.specs.Page.{Page, page, written}
use Rattle.sliver_kernel.specs.Pass.{Passed, ext-wf-short, passed-within}
use Rattle.echo_tables.specs.Found.{Entries, Calls}
use Rattle.echo_tables.specs.Filling.{Marked, Filled as Looked}
use Rattle.echo_checks.specs.Limits.{bounds}
use Rattle.echo_checks.specs.Functions.{FirstCalls}
use Rattle.echo_decls.specs.Declarable.{each-called}
use Rattle.echo_script.specs.declared.Tables.{Tables}
use Rattle.echo_script.specs.Scripts.{plain_script, tables_refusal}
use Rattle.echo_script.specs.Outcomes.{Wrote}
use Rattle.echo_script.specs.Prepared.{WellFormed, Filled, Filling, Measured, Measure}

pub bits-binary : (p : Problem) → T (encoded p.nodes p.bits) → T (every (λ b. leb b 1) p.bits)
unfolding encoded
bits-binary p h =
    let E : Bool = eqb (length p.nodes % 17) 0 in
    let F : Bool = every node_encoded (nodes_of p.nodes) in
    let B : Bool = every (λ b. leb b 1) p.bits in
    and-1 F B (and-1 E (F && B) h)

-- ---------------------------------------------------------------- what is written

module _ {n : ℕ} {text : List ℕ} {pg : Page} {l : List ℕ} where
  pub wrote-refused : {e : EchoError} → n ≡ error_number e → Wrote n text pg (Err e) l
  wrote-refused q = record { told = sym q }

  pub wrote-done : {q : Place} → n ≡ 0 → page q l ≡ written pg text → Wrote n text pg (Ok q) l
  wrote-done e w = record { told = (e, ap (λ (x : Page). x.place) w, ap (λ (x : Page). x.bytes) w) }

  pub wrote_as : {m : ℕ} {o : Result Place EchoError} → n ≡ m → Wrote n text pg o l → Wrote m text pg o l
  wrote_as {o = o} e w = subst (λ (k : ℕ). Wrote k text pg o l) e w

-- ---------------------------------------------------------------- what is declared

module _ {p : Lent} {ws : List ℕ} (h : WellFormed (problem_at p) ws) {first : List (Option ℕ)} (calls : Calls (nodes_of (problem_at p).nodes) first) where
  pub first-called : FirstCalls p first
  first-called = record { functions = (bounds (problem_at p) h.within).functions; calls = calls }

  module _ {entries : List (Option ℕ)} (entered : Entries (problem_at p).var_node entries) where
    pub looked : Looked p ws entries first
    unfolding dag_of
    looked = record {
      measured = record { widths = h.widths; counted = h.counted };
      nodes = (bounds (problem_at p) h.within).nodes;
      functions = (bounds (problem_at p) h.within).functions;
      entries = entered;
      calls = calls;
    }

    pub filled : {tables : Tables} → tables.entries ≡ entries → Marked (dag_at p) ws tables.marks → T (decl_funcs_ok (dag_at p) ws) → Filled p ws tables first
    filled e m f = record {
      formed = h;
      aligned = columns-aligned (dag_at p) h.columns;
      marked = m;
      entered = rw e entered;
      declarable = record { functions = (bounds (problem_at p) h.within).functions; calls = calls; called = each-called (dag_at p) ws f };
    }

pub filling-done : {p : Lent} {ws : List ℕ} {tables : Tables} {first : List (Option ℕ)}
    → decl_vars_ok (dag_at p) ≡ true → decl_funcs_ok (dag_at p) ws ≡ true → Filled p ws tables first → Filling p ws 0 tables first
filling-done v f h = record { refused = λ z. absurd (omega arith); passed = λ z w. rw (v, f) refl; filled = λ z. h }

-- ---------------------------------------------------------------- before the names

module _ (p : Problem) (w : within_limits p ≡ true) where
  pub few-nodes : length p.nodes ≤ 34816
  few-nodes = (bounds p (true→T w)).nodes

  -- the nodes are well formed and of these widths
  pub measured : encoded p.nodes p.bits ≡ true → columns_ok (dag_of p) ≡ true → array_widths_ok (array_widths p) ≡ true
      → {n : ℕ} {ws : List ℕ} → Passed (length p.bits) (array_widths p) p.side (nodes_of p.nodes) n ws → length (nodes_of p.nodes) ≤ n → Measured p n ws
  measured c k a {n} h m =
      let e : n ≡ length (nodes_of p.nodes) = omega (arith, h.count, ext-wf-short (length p.bits) (array_widths p) p.side (nodes_of p.nodes)) in
      record {
        count = e;
        within = passed-within h;
        formed = record { within = true→T w; encodes = true→T c; columns = true→T k; arrays = true→T a; widths = h.table; counted = ap length h.table ∙ sym h.count ∙ e };
      }

-- what is left of the checks once the nodes are well formed
pub measured-checks : (p : Problem) (ws : List ℕ) → WellFormed p ws → (s t : ℕ)
    → endless_with p (checks (dag_of p) (ext_wf_of (length p.bits) (array_widths p) p.side (nodes_of p.nodes)) s t) ≡ table_checks (dag_of p) ws s t
unfolding endless_with dag_of
measured-checks p ws h s t =
    rw (
      T→true (within_limits p) h.within,
      T→true (encoded p.nodes p.bits) h.encodes,
      T→true (columns_ok (dag_of p)) h.columns,
      T→true (array_widths_ok (array_widths p)) h.arrays,
      ← h.widths,
      eq-eqb (length ws) (length (nodes_of p.nodes)) h.counted,
    )

-- the plain script
module _ (p : Problem) where
  pub checked_refused : {e : EchoError} (ws : List ℕ) → Measure p (Err e) ws → {text : List ℕ} {pg : Page} {l : List ℕ} → Wrote (endless_refusal p) text pg (Err e) l
  unfolding endless_refusal refusal_with dag_of
  checked_refused ws m = wrote-refused (m (unless (unshared (dag_of p).nodes (dag_of p).side p.roots) 6) (walk_roots (dag_of p) (ext_wf_of (length p.bits) (array_widths p) p.side (nodes_of p.nodes)) p.roots))

  pub checked-passed : {ws : List ℕ} → WellFormed p ws → {pg : Page} {o : Result Place EchoError} {l : List ℕ} → Wrote (tables_refusal p ws) (plain_script p ws) pg o l
      → Wrote (endless_refusal p) (script (query_of p)) pg o l
  unfolding endless_refusal refusal_with tables_refusal script reading_of render dag_of
  checked-passed {ws} h {pg} {o} {l} w =
      subst (λ (z : List ℕ). Wrote (endless_refusal p) (plain_script p z) pg o l) h.widths (wrote_as (sym (measured-checks p ws h (unless (unshared (dag_of p).nodes (dag_of p).side p.roots) 6) (walk_roots (dag_of p) ws p.roots)) ∙ ap (λ (z : List ℕ). endless_with p (checks (dag_of p) (ext_wf_of (length p.bits) (array_widths p) p.side (nodes_of p.nodes)) (unless (unshared (dag_of p).nodes (dag_of p).side p.roots) 6) (walk_roots (dag_of p) z p.roots))) h.widths) w)
