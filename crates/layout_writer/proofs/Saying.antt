-- What is said, by what was read and written. Assumes nothing.
use Prim.Native.Nat.{ℕ, ◌^◌, ◌≤◌, ◌<◌}
use mathlib.Core.Bool.{true, false}
use mathlib.Core.List.{List}
use mathlib.Core.Path.{◌≡◌, refl, ap, sym, subst, ◌∙◌}
use native.Mathlib.Decide.{dec_le}
use native.Mathlib.Omega.{arith}
use borrow.Author.Tests.{le-leb, lt-leb}
use lib.ListN.{length}
use Rattle.echo_spec.specs.Input.{Problem}
use Rattle.echo_bytes.specs.declared.Place.{Place}
use Rattle.echo_bytes.specs.Page.{Page, page, start, written}
use Rattle.echo_bytes.specs.Laws.{need-exact, written-fits, length-written}
use Rattle.readback.specs.ScriptReader.{reading_in}
use Rattle.script_rebuild.specs.declared.Sizes.{Sizes}
use Rattle.problem_layout.proofs.Texts.{line-in}
use Rattle.problem_layout.specs.Telling.{Front}
use Rattle.std.specs.Prelude.{Result, Ok, Err}
use Rattle.problem_layout.specs.declared.Told.{Told}
use Rattle.problem_layout.specs.Telling.{shown, Shown}
use Rattle.script_rebuild.specs.declared.ReadError.TheVariants.{Room}
use Rattle.layout_writer.specs.declared.Unwritten.{Unwritten}
use Rattle.layout_writer.specs.declared.Unwritten.TheVariants.{Refused, TooLarge, TooDeep}
use Rattle.layout_bytes.specs.Encoding.{bytes_of_layout}
use Rattle.layout_writer.specs.Outputs.{first_of}
use Rattle.script_depth.specs.Nesting.{too_deep}
use Rattle.layout_writer.specs.Telling.{Script, too_large, nested, given, longest, rebuilt, script, said_of, written_to, line_of, Tells, Answers}
use Rattle.layout_writer.proofs.Reading.{ReadAs}

-- ---------------------------------------------------------------- the layout, written from the start

module _ (p : Problem) (lent out : List ℕ) {q : Place} (small : length lent < 2 ^ 63) (h : page q out ≡ written (page start lent) (bytes_of_layout p)) where
  same-long : length out ≡ length lent
  same-long = ap (λ (x : Page). length x.bytes) h ∙ length-written (page start lent) (bytes_of_layout p)

  need-is : q.need ≡ (written (page start lent) (bytes_of_layout p)).place.need
  need-is = ap (λ (x : Page). x.place.need) h

  as-far : out ≡ written_to (given p) lent
  as-far = ap (λ (x : Front). x.bytes) (line-in lent (bytes_of_layout p) h)

  says-written : q.need ≤ length out → Answers (given p) lent (Ok q.need) out
  says-written l =
      let f : length (bytes_of_layout p) ≤ length lent = (need-exact lent (bytes_of_layout p) small).0 (omega (arith, need-is, same-long)) in
      let n : q.need ≡ length (bytes_of_layout p) = need-is ∙ ap (λ (x : Page). x.place.need) (written-fits lent (bytes_of_layout p) small f) in
      record { said = ap (λ (z : ℕ). Ok z) n ∙ rw (said_of, le-leb (length (bytes_of_layout p)) (length lent) f) refl; output = as-far; known = l }

  says-room : length out < q.need → Answers (given p) lent (Err (Refused Room)) out
  says-room l =
      let f : length lent < length (bytes_of_layout p) = too_long in
      record { said = rw (said_of, lt-leb (length (bytes_of_layout p)) (length lent) f) refl; output = as-far; known = tt }
    where
      too_long : length lent < length (bytes_of_layout p)
      too_long = by_length (dec_le (length (bytes_of_layout p)) (length lent))
        where
          by_length : Dec (length (bytes_of_layout p) ≤ length lent) → length lent < length (bytes_of_layout p)
          by_length (yes f) = absurd (let g = (need-exact lent (bytes_of_layout p) small).1 f in omega (arith, g, need-is, same-long, l))
          by_length (no f) = omega arith

-- of other bytes that are known to be this problem's
pub answers-as : {s t : Script} {lent out : List ℕ} {r : Result ℕ Unwritten} → s ≡ t → Answers t lent r out → Answers s lent r out
answers-as {lent = lent} {out} {r} e a = subst (λ (x : Script). Answers x lent r out) (sym e) a

-- the problem that was read, written from where nothing was
module _ {b : List ℕ} {z : Sizes} {o x : Problem} (a : ReadAs b z o) (lent out : List ℕ) {q p : Place} (f : x ≡ first_of z o) (e : p ≡ start) (small : length lent < 2 ^ 63)
    (h : page q out ≡ written (page p lent) (bytes_of_layout x)) where
  from_start : page q out ≡ written (page start lent) (bytes_of_layout a.problem)
  from_start = h ∙ (λ i. written (page (e i) lent) (bytes_of_layout ((f ∙ a.first) i)))

  pub reads-written : q.need ≤ length out → Answers (rebuilt (reading_in b)) lent (Ok q.need) out
  reads-written l = answers-as a.is (says-written a.problem lent out small from_start l)

  pub reads-room : length out < q.need → Answers (rebuilt (reading_in b)) lent (Err (Refused Room)) out
  reads-room l = answers-as a.is (says-room a.problem lent out small from_start l)

-- ---------------------------------------------------------------- what is not read

pub says-too-large : (b lent : List ℕ) → longest < length b → Answers (script b) lent (Err TooLarge) lent
unfolding script
says-too-large b lent l = let e : script b ≡ too_large = rw (lt-leb (length b) longest l) refl in answers-as e (record { said = refl; output = refl; known = tt })

pub says-too-deep : (b lent : List ℕ) → length b ≤ longest → too_deep b ≡ true → Answers (script b) lent (Err TooDeep) lent
unfolding script
says-too-deep b lent l t = let e : script b ≡ nested = rw (le-leb (length b) longest l, t) refl in answers-as e (record { said = refl; output = refl; known = tt })

pub says-read : (b : List ℕ) {lent out : List ℕ} {r : Result ℕ Unwritten} → length b ≤ longest → too_deep b ≡ false → Answers (rebuilt (reading_in b)) lent r out → Answers (script b) lent r out
unfolding script
says-read b l t a = let e : script b ≡ rebuilt (reading_in b) = rw (le-leb (length b) longest l, t) refl in answers-as e a

-- ---------------------------------------------------------------- the line, and both

pub tells : {s lent out end : List ℕ} {said : Result ℕ Unwritten} {r : Told Unwritten} → Answers (script s) lent said out → r.said ≡ said → Shown line_of said out r.length end
    → Tells s lent r end
tells a e b =
    record {
      said = e ∙ a.said;
      front = b.front ∙ (λ i. shown line_of (a.said i) (a.output i));
      inside = b.inside;
    }
