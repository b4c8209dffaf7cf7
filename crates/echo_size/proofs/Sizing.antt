-- What each way out of `echo_size` answers. Assumes nothing.
use Rattle.std.specs.Prelude.{ℕ, zero, suc, ◌^◌, ◌<◌, ◌≡◌, refl, List, [], T, Ok, Err, length, get_or}
use Rattle.std.proofs.Common.{sym, ap, ◌∙◌, arith, le→leb}
use Rattle.lists.specs.Tests.{every, places-every, T→true}
use Rattle.echo_spec.specs.Refusals.{unless}
use Rattle.echo_spec.specs.Input.{Problem, array_widths, within_limits, nodes_of, dag_of, largest, fits64, Query, query_of}
use Rattle.echo_spec.specs.Widths.{ext_wf_of}
use Rattle.echo_spec.specs.Sharing.{unshared}
use Rattle.echo_spec.specs.Trees.{reading_of}
use Rattle.echo_spec.specs.Walk.{walk_roots, table_checks, refusal_with}
use Rattle.echo_spec.specs.Render.{render}
use Rattle.echo_spec.specs.Answers.{script, endless_refusal}
use Rattle.echo_bytes.specs.Page.{page, start, written}
use Rattle.echo_bytes.specs.Laws.{written-full}
use Rattle.refusals.specs.declared.EchoError.{EchoError}
use Rattle.refusals.specs.Numbers.{error_number, error-number}
use Rattle.echo_script.specs.Scripts.{plain_script, tables_refusal}
use Rattle.echo_script.specs.Prepared.{WellFormed, Measure}
use Rattle.echo_script.proofs.Checking.{few-nodes, measured-checks}
use Rattle.sizes.specs.Size.{SizeAnswer, size_with, echo_size_answer}
use Rattle.sizes.specs.Sums.{sum_over}
use Rattle.sizes.specs.Count.{counts_below}
use Rattle.sizes.proofs.Scripts.{terms-held, script-in-64}
use Rattle.echo_terms.specs.TermTable.{held, Countable}
use Rattle.echo_size.specs.Sized.{answered, FullWidths}

-- columns of numbers that each have 64 bits
column_fits : (xs : List ℕ) → ((i : ℕ) → get_or xs i 0 < 2 ^ 64) → T (every fits64 xs)
column_fits xs h = places-every fits64 0 xs (λ i l. let m = h i in le→leb (get_or xs i 0) largest (omega arith))

pub full-widths : (p : Problem) → ((i : ℕ) → get_or p.var_width i 0 < 2 ^ 64) → ((i : ℕ) → get_or p.func_width i 0 < 2 ^ 64) → FullWidths p
full-widths p v f = record { variables = column_fits p.var_width v; functions = column_fits p.func_width f }

-- the place that a text comes to in a buffer of no bytes
pub sized-place : (text : List ℕ) {n : ℕ} → n ≡ held (length text) → page (record { at = 0; need = n }) [] ≡ written (page start []) text
sized-place text {n} e = written-full start [] text n (omega arith) (omega arith)

none_told : (q : Query) (x : ℕ) → 0 < x → ◌≡◌ {A = SizeAnswer} (record { number = x; length = 0; terms = 0 }) (size_with x q)
unfolding size_with
none_told q zero h = absurd (omega arith)
none_told q (suc x) h = refl

module _ (p : Problem) where
  -- a refusal by its number
  size-refused : (e : EchoError) → endless_refusal p ≡ error_number e → answered (Err e) ≡ echo_size_answer p
  unfolding echo_size_answer
  size-refused e h = none_told (query_of p) (error_number e) (omega (arith, error-number e)) ∙ ap (λ (n : ℕ). size_with n (query_of p)) (sym h)

  pub measure-told : (e : EchoError) (ws : List ℕ) → Measure p (Err e) ws → answered (Err e) ≡ echo_size_answer p
  unfolding endless_refusal refusal_with dag_of
  measure-told e ws m =
      size-refused e
      (m (unless (unshared (dag_of p).nodes (dag_of p).side p.roots) 6) (walk_roots (dag_of p) (ext_wf_of (length p.bits) (array_widths p) p.side (nodes_of p.nodes)) p.roots))

  -- from the names on
  module _ {ws : List ℕ} (f : WellFormed p ws) where
    tables-left : endless_refusal p ≡ tables_refusal p ws
    unfolding endless_refusal refusal_with tables_refusal dag_of
    tables-left =
        let s : ℕ = unless (unshared (dag_of p).nodes (dag_of p).side p.roots) 6 in
        measured-checks p ws f s (walk_roots (dag_of p) (ext_wf_of (length p.bits) (array_widths p) p.side (nodes_of p.nodes)) p.roots)
        ∙ ap (λ (z : List ℕ). table_checks (dag_of p) ws s (walk_roots (dag_of p) z p.roots)) (sym f.widths)

    pub prepare-told : (e : EchoError) → (0 < error_number e → tables_refusal p ws ≡ error_number e) → answered (Err e) ≡ echo_size_answer p
    prepare-told e h = size-refused e (tables-left ∙ h (omega (arith, error-number e)))

    pub countable : Countable p.nodes p.side
    countable = record {
      within = few-nodes p (T→true (within_limits p) f.within);
      bits = length p.bits;
      arrays = array_widths p;
      formed = ap length (sym f.widths) ∙ f.counted;
    }

    module _ (z : tables_refusal p ws ≡ 0) (c : FullWidths p) where
      passed : endless_refusal p ≡ 0
      passed = tables-left ∙ z

      needed : {n : ℕ} → n ≡ held (length (plain_script p ws)) → n ≡ length (script (query_of p))
      unfolding script reading_of render dag_of
      needed e =
          let same : length (plain_script p ws) ≡ length (script (query_of p)) = ap (λ (y : List ℕ). length (plain_script p y)) f.widths in
          let s = script-in-64 p passed c.variables c.functions in
          omega arith

      pub size-told : {n t : ℕ} → n ≡ held (length (plain_script p ws))
          → t ≡ held (sum_over (counts_below p.side (nodes_of p.nodes) (length (nodes_of p.nodes))) p.roots)
          → answered (Ok (record { length = n; terms = t })) ≡ echo_size_answer p
      unfolding echo_size_answer size_with
      size-told e k =
          (λ i. record { number = 0; length = needed e i; terms = (k ∙ terms-held p passed) i }) ∙ ap (λ (m : ℕ). size_with m (query_of p)) (sym passed)
