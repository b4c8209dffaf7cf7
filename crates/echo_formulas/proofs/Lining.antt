-- The lines one after the other, and the checks before them. Assumes nothing.
use Prim.Native.Nat.{ℕ, ◌+◌, ◌<◌}
use mathlib.Core.Path.{◌≡◌, sym, ap, ◌∙◌, subst}
use mathlib.Core.List.{List, [], ◌∷◌, ◌++◌}
use native.Mathlib.Numerals.{add-one}
use lib.ListN.{length, get_or, drop}
use lib.Seq.{drop-cons, drop-length}
use Rattle.std.specs.Prelude.{Result}
use Rattle.echo_spec.specs.Refusals.{unless}
use Rattle.echo_spec.specs.Input.{Problem, array_widths, nodes_of, dag_of, query_of}
use Rattle.echo_spec.specs.Widths.{ext_wf_of}
use Rattle.echo_spec.specs.Sharing.{unshared}
use Rattle.echo_spec.specs.Trees.{reading_of}
use Rattle.echo_spec.specs.Walk.{walk_roots, checks, refusal_with}
use Rattle.echo_spec.specs.Answers.{endless_with, endless_refusal}
use Rattle.refusals.specs.declared.EchoError.{EchoError}
use Rattle.echo_bytes.specs.declared.Place.{Place}
use Rattle.echo_bytes.specs.Page.{Page}
use Rattle.echo_script.specs.Outcomes.{Wrote}
use Rattle.echo_script.specs.Scripts.{tables_refusal}
use Rattle.echo_script.specs.Prepared.{WellFormed}
use Rattle.echo_script.proofs.Checking.{wrote_as, measured-checks}
use Rattle.formula_answers.specs.Answers.{formula_lines}
use Rattle.echo_formulas.specs.Lines.{lines_text, lines_with}

pub line_step : (g : ℕ → List ℕ) (roots : List ℕ) (k : ℕ) → k < length roots
    → (g (get_or roots k 0) ++ (10 ∷ [])) ++ lines_text g (drop (k + 1) roots) ≡ lines_text g (drop k roots)
unfolding lines_text
line_step g roots k h =
    let d : drop k roots ≡ get_or roots k 0 ∷ drop (k + 1) roots = rw add-one (drop-cons roots k 0 h) in
    sym (ap (lines_text g) d)

pub lines_none : (g : ℕ → List ℕ) (roots : List ℕ) {k : ℕ} → k ≡ length roots → lines_text g (drop k roots) ≡ []
unfolding lines_text
lines_none g roots e = ap (lines_text g) (ap (λ (n : ℕ). drop n roots) e ∙ drop-length roots)

pub checked-passed : (p : Problem) {ws : List ℕ} → WellFormed p ws → {pg : Page} {o : Result Place EchoError} {l : List ℕ} → Wrote (tables_refusal p ws) (lines_with p ws) pg o l
    → Wrote (endless_refusal p) (formula_lines (query_of p)) pg o l
unfolding endless_refusal refusal_with tables_refusal formula_lines reading_of dag_of
checked-passed p {ws} h {pg} {o} {l} w =
    subst (λ (z : List ℕ). Wrote (endless_refusal p) (lines_with p z) pg o l) h.widths (wrote_as (sym (measured-checks p ws h (unless (unshared (dag_of p).nodes (dag_of p).side p.roots) 6) (walk_roots (dag_of p) ws p.roots)) ∙ ap (λ (z : List ℕ). endless_with p (checks (dag_of p) (ext_wf_of (length p.bits) (array_widths p) p.side (nodes_of p.nodes)) (unless (unshared (dag_of p).nodes (dag_of p).side p.roots) 6) (walk_roots (dag_of p) z p.roots))) h.widths) w)
