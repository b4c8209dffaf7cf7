-- The length of a node from its head and the lengths of its operands, and the table that has them. Assumes nothing.
use Rattle.std.specs.Prelude.{ℕ, ◌+◌, ◌*◌, ◌≡◌, refl, Bool, true, false, List, [], ◌∷◌, ◌++◌, length, get_or}
use Rattle.std.proofs.Common.{ap, arith, length-append}
use Rattle.lists.specs.Bytes.{bytes}
use Rattle.echo_spec.specs.Input.{shape, dag_of}
use Rattle.echo_spec.specs.Tables.{declarations_of}
use Rattle.echo_spec.specs.Render.{logic_text, declarations_text}
use Rattle.echo_spec.specs.Walk.{Operand, walk_roots}
use Rattle.echo_bytes.specs.declared.Place.{Place}
use Rattle.echo_bytes.specs.Page.{Page, page, start, saturated, written}
use Rattle.echo_tables.specs.declared.Form.{Form}
use Rattle.echo_tables.specs.declared.Form.TheVariants.{Leaf}
use Rattle.echo_tables.specs.Forms.{form_as, form_operands}
use Rattle.echo_tables.specs.Uses.{FormInside, node-inside}
use Rattle.echo_tables.specs.Refused.{Each, Passes, form-passes}
use Rattle.echo_walk.specs.declared.Walk.{Walk}
use Rattle.echo_walk.specs.Texts.{form_text, plain, planned}
use Rattle.echo_walk.specs.Walks.{problem_in, dag_in, widths_in, plan_in, node_within, style_at, text_at, Plain, Fine}
use Rattle.echo_walk.proofs.Laws.{node-text}
use Rattle.echo_terms.specs.TermTable.{held, entry, counted, form_sum}
use Rattle.echo_roots.specs.Roots.{roots_text, AllFine}
use Rattle.echo_script.specs.Scripts.{plain_script}
use Rattle.echo_script.proofs.Printing.{print-in}
use Rattle.echo_lengths.specs.LengthTable.{closings, Long, Longs, used, form-length, roots-length, operands-held, places-held}

-- how long a text is that was written where nothing was
pub start-need : {p : Place} → p ≡ start → (l : List ℕ) {q : Page} (text : List ℕ) → q ≡ written (page p l) text → q.place.need ≡ held (length text)
unfolding written
start-need {p} z l {q} text w =
    let a : q.place.need ≡ saturated p.need (length text) = ap (λ (x : Page). x.place.need) w in
    let b : p.need ≡ 0 = ap (λ (x : Place). x.need) z in
    omega arith

-- ---------------------------------------------------------------- a node that is not refused

module _ (W : Walk) {i : ℕ} (fine : Fine W i) {f : Form} (form : f ≡ (style_at W).form i) where
  -- the side entries that its form names are there, and its operands are not refused
  pub form-passing : FormInside (problem_in W).side f × Each (Passes (dag_in W) (widths_in W) i) (form_operands (problem_in W).side f)
  unfolding plain planned dag_of
  form-passing = rw form (by-plan (plan_in W i))
    where
      P : Form → Type 0
      P g = FormInside (problem_in W).side g × Each (Passes (dag_in W) (widths_in W) i) (form_operands (problem_in W).side g)

      by-plan : (b : Bool) → P (elim b [ true ↦ Leaf | false ↦ form_as (node_within W i) (shape (node_within W i)) ])
      by-plan true = (tt, tt)
      by-plan false = (
        node-inside (length (problem_in W).bits) (dag_in W).array-widths (problem_in W).side (dag_in W).nodes i (rw W.ready.widths at fine.here),
        form-passes (dag_in W) (widths_in W) (length (problem_in W).bits) W.ready.widths W.ready.counted i (omega (arith, W.ready.counted, fine.here)) fine.free refl,
      )

  each_long : {t : List ℕ} → Longs W t i → (os : List Operand) → Each (Passes (dag_in W) (widths_in W) i) os
      → Each (λ (o : Operand). entry t o.node ≡ held (used (text_at W) o.node)) os
  each_long h [] p = tt
  each_long h (o ∷ os) p = (
    (h.at o.node p.0.low).told (record { here = omega (arith, p.0.low, fine.here); free = p.0.passed }),
    each_long h os p.1,
  )

  -- the head's length and the brackets', and those of the operands
  pub node-long : {t : List ℕ} → Longs W t i → {h c : ℕ} → h ≡ held (length (32 ∷ (style_at W).head i)) → c ≡ held (h + closings f)
      → {r : ℕ} → r ≡ form_sum t c (problem_in W).side f → Long W i r
  unfolding form_sum
  node-long {t} longs {h} {c} w e {r} s = record {
    told = λ z.
        let g : (ℕ → List ℕ) = text_at W in
        let head : List ℕ = (style_at W).head i in
        let os : List Operand = form_operands (problem_in W).side f in
        let a = operands-held t (used g) c os (each_long longs os form-passing.1) in
        let b = form-length g (problem_in W).side f form-passing.0 in
        let k = length-append head (form_text g (problem_in W).side f) in
        let m : length (head ++ form_text g (problem_in W).side f) ≡ length (g i) = ap (length {A = ℕ}) (node-text W i fine.here form) in
        omega arith;
  }

-- ---------------------------------------------------------------- the table

-- the lines of the roots, by the table of all nodes
module _ {W : Walk} {t : List ℕ} {n : ℕ} (h : Longs W t n) (e : n ≡ length (widths_in W)) where
  pub roots-long : {roots : List ℕ} → AllFine W roots → (c : ℕ) {k r : ℕ}
      → k ≡ saturated c (9 * length roots) → r ≡ counted t k roots → r ≡ held (c + length (roots_text (text_at W) roots))
  unfolding counted
  roots-long {roots} fine c {k} d s =
      let a = places-held t (used (text_at W)) k roots (λ j l. (h.at (get_or roots j 0) (omega (arith, (fine.at j l).here))).told (fine.at j l)) in
      let b = roots-length (text_at W) roots in
      omega arith

-- ---------------------------------------------------------------- the script

module _ (W : Walk) (walked : walk_roots (dag_in W) (widths_in W) (problem_in W).roots ≡ 0) (plan : Plain W) where
  -- the lines before the roots and the last line, and those of the roots
  pub script-long : (l : List ℕ) {a : Page}
      → a ≡ written (page start l) (logic_text (declarations_of (dag_in W) (widths_in W)) ++ declarations_text (declarations_of (dag_in W) (widths_in W)))
      → (m : List ℕ) {b : Page} → b ≡ written (page a.place m) (bytes "(check-sat)\n")
      → {r : ℕ} → r ≡ held (b.place.need + length (roots_text (text_at W) (problem_in W).roots))
      → r ≡ held (length (plain_script (problem_in W) (widths_in W)))
  unfolding written
  script-long l {a} e m {b} f {r} s =
      let C : List ℕ = bytes "(check-sat)\n" in
      let R : List ℕ = roots_text (text_at W) (problem_in W).roots in
      let S : List ℕ = plain_script (problem_in W) (widths_in W) in
      let whole : saturated (saturated a.place.need (length R)) (length C) ≡ saturated 0 (length S) =
      ap (λ (z : Page). z.place.need) (print-in W walked plan l e refl refl) in
      let last : b.place.need ≡ saturated a.place.need (length C) = ap (λ (z : Page). z.place.need) f in
      omega arith
