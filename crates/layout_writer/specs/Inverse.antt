-- `read_problem` and `print_problem` are each other's inverse: printing the problem that a script was read as gives the script, byte for byte.
-- Assumes nothing.
use Rattle.std.specs.Prelude.{ℕ, ◌≤◌, min, Bool, true, false, not, List, ◌++◌, ◌≡◌, leb, length, take, drop}
use Rattle.std.proofs.Math.Option.{Option, none, some}
use Rattle.std.proofs.Math.Path.{refl, subst}
use Rattle.std.proofs.Common.{ap, sym, ◌∙◌, arith, le-leb}
use Rattle.std.proofs.Math.Decide.{dec_le}
use Rattle.std.proofs.lemmas.Bool.{lt-leb}
use Rattle.std.proofs.Math.Dec.{T}
use Rattle.std.proofs.Math.Seq.{take-append_seam, take-length}
use Rattle.lists.specs.Tests.{and-1, true→T, every}
use Rattle.reading.specs.Trees.{Reading}
use Rattle.echo_spec.specs.Input.{Problem, within_limits}
use Rattle.echo_spec.specs.Answers.{echo_ext_answer}
use Rattle.theorems.specs.Answered.{Whole, printed, acceptance, accepted-exactly}
use Rattle.readback.specs.Rebuild.{rebuild}
use Rattle.readback.specs.Records.{holdable, inputs}
use Rattle.readback.specs.ScriptReader.{reading_in}
use Rattle.readback.specs.ReadAnswers.{limits_passed}
use Rattle.readback_theorems.specs.Decided.{reading-in}
use Rattle.readback_theorems.specs.Answered.{inputs-whole, inputs-script}
use Rattle.layout_shape.specs.Layout as printer
use Rattle.problem_layout.specs.Telling as printing
use Rattle.problem_layout.specs.Telling.{Front, line_in}
use Rattle.std.specs.Prelude.{Result, Ok}
use Rattle.problem_layout.specs.declared.Told.{Told}
use Rattle.problem_layout.specs.declared.Unprinted.{Unprinted}
use Rattle.layout_writer.specs.declared.Unwritten.{Unwritten}
use Rattle.layout_bytes.specs.Encoding.{bytes_of_layout}
use Rattle.layout_writer.specs.Laws.{layout-back}
use Rattle.script_depth.specs.Nesting.{too_deep}
use Rattle.layout_writer.specs.Telling.{Script, too_large, nested, no_script, over_limit, given, unless, longest, rebuilt, script, said_of, written_to, line_of, Tells}

-- ---------------------------------------------------------------- a script that is read

-- what stands behind it
pub record GivenBy (b : List ℕ) (p : Problem) : Type 0 where
  pub reading : Reading
  pub read : reading_in b ≡ some reading
  pub limits : T (limits_passed (rebuild reading))
  pub problem : p ≡ inputs (rebuild reading)

module _ (b : List ℕ) (p : Problem) where
  by-checks : (x y : Bool) (s : Script) → unless x too_large (unless (not y) nested s) ≡ given p → s ≡ given p
  by-checks false y s e = absurd (let z : ◌≡◌ {A = ℕ} 0 1 = cc in omega arith)
  by-checks true true s e = absurd (let z : ◌≡◌ {A = ℕ} 0 1 = cc in omega arith)
  by-checks true false s e = e

  by-limits : (r : Reading) → reading_in b ≡ some r → (c : Bool) → limits_passed (rebuild r) ≡ c → unless c over_limit (given (inputs (rebuild r))) ≡ given p → GivenBy b p
  by-limits r q false l e = absurd (let z : ◌≡◌ {A = ℕ} 0 1 = cc in omega arith)
  by-limits r q true l e = record { reading = r; read = q; limits = true→T l; problem = cc }

  by-reading : (o : Option Reading) → reading_in b ≡ o → rebuilt o ≡ given p → GivenBy b p
  by-reading none q e = absurd (let z : ◌≡◌ {A = ℕ} 0 1 = cc in omega arith)
  by-reading (some r) q e = by-limits r q (limits_passed (rebuild r)) refl e

  pub given_by : script b ≡ given p → GivenBy b p
  unfolding script
  given_by e = by-reading (reading_in b) refl (by-checks (leb (length b) longest) (too_deep b) (rebuilt (reading_in b)) e)

  module _ (e : script b ≡ given p) where
    within-limits : T (within_limits p)
    unfolding limits_passed
    within-limits = let g = given_by e in subst (λ (x : Problem). T (within_limits x)) (sym g.problem) (and-1 (every holdable (rebuild g.reading).dag.nodes) _ g.limits)

    -- reading the layout of a problem gives that problem
    pub problem-back : printer.layout (bytes_of_layout p) ≡ printer.given p
    problem-back = layout-back p within-limits

    -- and printing it the script
    pub script-back : (out : List ℕ) → length b ≤ length out → echo_ext_answer p out ≡ record { number = 0; count = length b; output = b ++ drop (length b) out }
    script-back out l =
        let g = given_by e in
        let (h, t) = (reading-in b g.reading).0 g.read in
        let w : Whole p = subst (λ (x : Problem). Whole x) (sym g.problem) (inputs-whole g.reading h g.limits) in
        let s : printed p ≡ b = ap printed g.problem ∙ inputs-script g.reading h g.limits ∙ t in
        let a : (echo_ext_answer p out).number ≡ 0 = (accepted-exactly p out).1 (w, subst (λ (x : List ℕ). length x ≤ length out) (sym s) l) in
        acceptance p out a ∙ ap (λ (x : List ℕ). record { number = 0; count = length x; output = x ++ drop (length x) out }) s

-- ---------------------------------------------------------------- one command after the other

-- what is said of a script that is read
written-by : (s : Script) (lent : List ℕ) (n : ℕ) → said_of s lent ≡ Ok n → (p : Problem) × (s ≡ given p) × (length (bytes_of_layout p) ≤ length lent) × (n ≡ length (bytes_of_layout p))
written-by too_large lent n e = absurd (let z : ◌≡◌ {A = ℕ} 0 1 = cc in omega arith)
written-by nested lent n e = absurd (let z : ◌≡◌ {A = ℕ} 0 1 = cc in omega arith)
written-by no_script lent n e = absurd (let z : ◌≡◌ {A = ℕ} 0 1 = cc in omega arith)
written-by over_limit lent n e = absurd (let z : ◌≡◌ {A = ℕ} 0 1 = cc in omega arith)
written-by (given p) lent n e = by-room (dec_le (length (bytes_of_layout p)) (length lent))
  where
    by-room : Dec (length (bytes_of_layout p) ≤ length lent) → (q : Problem) × (given p ≡ given q) × (length (bytes_of_layout q) ≤ length lent) × (n ≡ length (bytes_of_layout q))
    by-room (yes l) = let f : ◌≡◌ {A = Result ℕ Unwritten} (Ok (length (bytes_of_layout p))) (Ok n) = rw (said_of, le-leb (length (bytes_of_layout p)) (length lent) l) at e in (p, refl, l, cc)
    by-room (no l) =
        let f = rw (said_of, lt-leb (length (bytes_of_layout p)) (length lent) (omega arith)) at e in
        absurd (let z : ◌≡◌ {A = ℕ} 0 1 = cc in omega arith)

abbrev front_of : ℕ → List ℕ → Front
front_of n o = record { count = n; bytes = o }

-- a text that fits, at the front
fits-front : (bs lent : List ℕ) → length bs ≤ length lent → line_in bs lent ≡ front_of (length bs) (bs ++ drop (length bs) lent)
unfolding line_in
fits-front bs lent l =
    let k : min (length bs) (length lent) ≡ length bs = omega arith in
    (λ i. record { count = k i; bytes = take (k i) bs ++ drop (k i) lent }) ∙ rw (take-length bs) refl

-- THE COMMANDS ARE EACH OTHER'S INVERSE: what `read_problem` shows of a script that it reads, `print_problem` shows as the script, where its
-- buffer is long enough; that of the program is.
pub piped : {b lent out lent₂ out₂ : List ℕ} {r : Told Unwritten} {r₂ : Told Unprinted} {n : ℕ} → Tells b lent r out → r.said ≡ Ok n
    → printing.Tells (take r.length out) lent₂ r₂ out₂ → length b ≤ length lent₂ → take r₂.length out₂ ≡ b
piped {b} {lent} {out} {lent₂} {out₂} {r} {r₂} {n} t e t₂ l =
    let (p, g, fits, m) = written-by (script b) lent n (sym t.said ∙ e) in
    let f : front_of r.length out ≡ front_of n (written_to (given p) lent) =
    t.front ∙ (λ i. printing.shown line_of ((sym t.said ∙ e) i) (written_to (g i) lent)) in
    let wide : written_to (given p) lent ≡ bytes_of_layout p ++ drop (length (bytes_of_layout p)) lent = ap (λ (x : Front). x.bytes) (fits-front (bytes_of_layout p) lent fits) in
    let s : take r.length out ≡ bytes_of_layout p =
    (λ i. take (f i).count (f i).bytes) ∙ (λ i. take (m i) (wide i)) ∙ take-append_seam (bytes_of_layout p) (drop (length (bytes_of_layout p)) lent) in
    let a = script-back b p g lent₂ l in
    let y : printer.layout (take r.length out) ≡ printer.given p = ap printer.layout s ∙ problem-back b p g in
    let f₂ : front_of r₂.length out₂ ≡ front_of (length b) (b ++ drop (length b) lent₂) =
    t₂.front ∙ (λ i. printing.shown printing.line_of (printing.said_of (y i) lent₂) (printing.printed_to (y i) lent₂))
    ∙ (λ i. printing.shown printing.line_of (printing.said_by (a i).number (a i).count) (a i).output) in
    (λ i. take (f₂ i).count (f₂ i).bytes) ∙ take-append_seam b (drop (length b) lent₂)
