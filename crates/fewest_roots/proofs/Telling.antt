-- A problem whose nodes are well formed, with other roots. Assumes nothing.
use Rattle.std.specs.Prelude.{ℕ, ◌≤◌, ◌≡◌, List, true, false, length}
use Rattle.std.proofs.Common.{sym, ap, ◌∙◌}
use Rattle.lists.specs.Tests.{true→T, T→true}
use Rattle.echo_spec.specs.Refusals.{unless}
use Rattle.echo_spec.specs.Input.{Problem, array_widths, within_limits, nodes_of, dag_of}
use Rattle.echo_spec.specs.Names.{names_ok}
use Rattle.echo_spec.specs.Widths.{ext_wf_of}
use Rattle.echo_spec.specs.Sharing.{unshared}
use Rattle.echo_spec.specs.Walk.{walk_roots, table_checks, refusal_with}
use Rattle.echo_spec.specs.Answers.{endless_refusal}
use Rattle.echo_script.specs.Prepared.{WellFormed}
use Rattle.echo_script.proofs.Checking.{measured-checks}
use Rattle.fewest.specs.Fewest.{with_roots, fewest_roots_answer}
use Rattle.fewest.proofs.Refused.{shared-operands, shared-one, shared-two}
use Rattle.fewest_sharing.specs.declared.FewestRoots.{FewestRoots}
use Rattle.fewest_sharing.specs.declared.FewestRoots.TheVariants.{Empty, One, Two}
use Rattle.fewest_sharing.specs.Found.{Fewest}
use Rattle.fewest_roots.specs.Answered.{roots_positions}
use Rattle.fewest.specs.Refused.{told, roots_few, within-with, Numbered}

-- with other roots a problem is as well formed
formed-with : (p : Problem) (ws rs : List ℕ) → length rs ≤ 256 → WellFormed p ws → WellFormed (with_roots p rs) ws
unfolding dag_of
formed-with p ws rs l h = record {
  within = true→T (within-with p rs l (T→true (within_limits p) h.within));
  encodes = h.encodes;
  columns = h.columns;
  arrays = h.arrays;
  widths = h.widths;
  counted = h.counted;
}

pub numbered : (p : Problem) (ws : List ℕ) → WellFormed p ws → Numbered p ws
unfolding endless_refusal refusal_with dag_of
numbered p ws h = record {
  few = roots_few p h.within;
  with = λ rs l.
      let e : List ℕ = ext_wf_of (length p.bits) (array_widths p) p.side (nodes_of p.nodes) in
      let s : ℕ = unless (unshared (nodes_of p.nodes) p.side rs) 6 in
      measured-checks (with_roots p rs) ws (formed-with p ws rs l h) s (walk_roots (dag_of p) e rs)
      ∙ ap (λ (z : List ℕ). table_checks (dag_of p) ws s (walk_roots (dag_of p) z rs)) (sym h.widths);
}

-- the fewest roots that share an operator, where some do
pub shared-told : (p : Problem) (ws : List ℕ) → Numbered p ws → names_ok (dag_of p) ≡ true → (r : FewestRoots) → unshared (nodes_of p.nodes) p.side p.roots ≡ false
    → Fewest (nodes_of p.nodes) p.side p.roots r → told 6 (roots_positions r) ≡ fewest_roots_answer p
shared-told p ws n named Empty some h = shared-operands p ws n named some h
shared-told p ws n named (One k) some h = shared-one p ws n named some h
shared-told p ws n named (Two j k) some h = shared-two p ws n named some h
