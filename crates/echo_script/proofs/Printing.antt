-- The script of a problem that passed the checks: what its writers ask, and that their texts are the script's. Assumes nothing.
use Rattle.std.specs.Prelude.{ℕ, zero, suc, ◌≤◌, ◌<◌, ◌≡◌, Bool, true, List, [], ◌∷◌, ◌++◌, map, length, get_or, Option}
use Rattle.std.proofs.Common.{sym, ap, ◌∙◌, subst, append_assoc, arith, Bor}
use Rattle.std.proofs.Math.Decide.{dec_lt}
use Rattle.lists.specs.Bytes.{bytes}
use Rattle.echo_spec.specs.Refusals.{unless}
use Rattle.echo_spec.specs.Shapes.{is_bool}
use Rattle.echo_spec.specs.Input.{shape, no_node, dag_of}
use Rattle.echo_spec.specs.Tables.{declarations_of}
use Rattle.echo_spec.specs.Trees.{trees_over, tree_of}
use Rattle.echo_spec.specs.Render.{logic_text, declarations_text, assertions_text}
use Rattle.echo_spec.specs.Walk.{formula, sort_ok, walk_all, walk, walk_roots}
use Rattle.echo_spec.specs.Accepted.{or_else-passed}
use Rattle.lent.specs.declared.Problem.{Problem as Lent}
use Rattle.lent.specs.Lent.{problem_at}
use Rattle.lent.specs.Records.{nodes-length}
use Rattle.echo_bytes.specs.Page.{Page, page, start, written}
use Rattle.echo_bytes.specs.Laws.{at-written, written_then}
use Rattle.echo_tables.specs.Refused.{refused_at, walk-past, walk_is}
use Rattle.echo_checks.specs.Limits.{bounds}
use Rattle.echo_walk.specs.declared.Walk.{Walk}
use Rattle.echo_walk.specs.Ready.{Ready}
use Rattle.echo_walk.specs.Walks.{problem_in, dag_in, widths_in, text_at, Plain, Fine}
use Rattle.echo_walk.specs.StyleLaws.{text-plain}
use Rattle.echo_roots.specs.Roots.{roots_text, AllFine, roots-are}
use Rattle.echo_script.specs.declared.Tables.{Tables}
use Rattle.echo_script.specs.Scripts.{plain_script}
use Rattle.echo_script.specs.Prepared.{Filled}
use Rattle.echo_script.proofs.Checking.{bits-binary}

pub opened_inside : (l bs : List ℕ) {q : Page} → q ≡ written (page start l) bs → q.place.at ≤ length q.bytes
opened_inside l bs e = subst (λ (z : Page). z.place.at ≤ length z.bytes) (sym e) (at-written (page start l) bs (omega arith))

-- no root is refused
root-passes : (f : ℕ → Bool → ℕ) (roots : List ℕ) → walk_all f (map formula roots) ≡ 0 → (k : ℕ) → k < length roots → f (get_or roots k 0) true ≡ 0
unfolding walk_all
root-passes f [] e k l = absurd (omega arith)
root-passes f (r ∷ rs) e zero l = (or_else-passed (f r true) (walk_all f (map formula rs)) e).0
root-passes f (r ∷ rs) e (suc k) l = root-passes f rs (or_else-passed (f r true) (walk_all f (map formula rs)) e).1 k (omega arith)

-- the tables that were filled are the walk's
pub ready : {p : Lent} {ws : List ℕ} {tables : Tables} {first : List (Option ℕ)} → Filled p ws tables first → Ready p ws tables.entries tables.marks
unfolding dag_of
ready {p} {ws} h = record {
  widths = h.formed.widths;
  counted = h.formed.counted;
  entries = (bounds (problem_at p) h.formed.within).side;
  binary = bits-binary (problem_at p) h.formed.encodes;
  marked = λ i l. h.marked.at i (omega (arith, h.formed.counted));
  unnamed = λ i l. h.marked.unnamed i;
  entered = λ i l. h.entered.at i (omega (arith, h.formed.counted, nodes-length (problem_at p).nodes, (bounds (problem_at p) h.formed.within).nodes));
  aligned = h.aligned;
}

-- the walk over them
abbrev pub walk_over : (problem : Bor Lent) (ws : Bor (List ℕ)) (tables : Bor Tables) {first : List (Option ℕ)} → Filled problem.now ws.now tables.now first → Walk
walk_over problem ws tables h = record {
  problem = problem;
  widths = ws;
  entries = record { ref_ptr = tables.ref_ptr; now = tables.now.entries };
  marks = record { ref_ptr = tables.ref_ptr; now = tables.now.marks };
  ready = ready h;
}

-- a root that the walk passes is a node whose term is not refused
module _ (W : Walk) where
  fine-root : (r : ℕ) → walk (dag_in W) (widths_in W) r true ≡ 0 → Fine W r
  unfolding dag_of
  fine-root r e = by_place (dec_lt r (length (dag_in W).nodes))
    where
      by_place : Dec (r < length (dag_in W).nodes) → Fine W r
      by_place (no l) = let z : ◌≡◌ {A = ℕ} 1 0 = sym (walk-past (dag_in W) (widths_in W) r (omega arith) true) ∙ e in absurd (omega arith)
      by_place (yes l) =
          let w = walk_is (dag_in W) (widths_in W) (length (problem_in W).bits) W.ready.widths W.ready.counted r l true in
          record {
            here = omega (arith, W.ready.counted);
            free = (or_else-passed (unless (sort_ok true (is_bool (shape (get_or (dag_in W).nodes r no_node)))) 3) (refused_at (dag_in W) (widths_in W) r) (sym w ∙ e)).1;
          }

  module _ (walked : walk_roots (dag_in W) (widths_in W) (problem_in W).roots ≡ 0) where
    pub all-fine : AllFine W (problem_in W).roots
    unfolding walk_roots
    all-fine = record { at = λ k l. fine-root _ (root-passes (walk (dag_in W) (widths_in W)) (problem_in W).roots walked k l) }

    -- the lines before the roots, the roots, and the last line
    pub print-in : Plain W → (l₀ : List ℕ) {a b c : Page}
        → a ≡ written (page start l₀) (logic_text (declarations_of (dag_in W) (widths_in W)) ++ declarations_text (declarations_of (dag_in W) (widths_in W)))
        → b ≡ written a (roots_text (text_at W) (problem_in W).roots) → c ≡ written b (bytes "(check-sat)\n")
        → c ≡ written (page start l₀) (plain_script (problem_in W) (widths_in W))
    print-in plain l₀ {a} {b} {c} e f g =
        let L : List ℕ = logic_text (declarations_of (dag_in W) (widths_in W)) in
        let D : List ℕ = declarations_text (declarations_of (dag_in W) (widths_in W)) in
        let A : List ℕ = assertions_text (trees_over (tree_of (dag_in W) (widths_in W) (problem_in W).bits) (problem_in W).roots) in
        let C : List ℕ = bytes "(check-sat)\n" in
        let t : roots_text (text_at W) (problem_in W).roots ≡ A =
        roots-are (text_at W) (dag_in W) (widths_in W) (problem_in W).bits (problem_in W).roots
        (λ k l. text-plain W plain _ (all-fine.at k l).here) in
        let f' : b ≡ written a A = f ∙ ap (written a) t in
        written_then (page start l₀) (L ++ D) (A ++ C) e (written_then a A C f' g) ∙ ap (written (page start l₀)) (append_assoc L D (A ++ C))
