-- The search for the first check-sat line, place by place and by blocks in which none can start: its laws by the line's definition.
use Rattle.std.specs.Prelude.{ℕ, zero, suc, ◌+◌, ◌≤◌, ◌<◌, ◌≡◌, List, [], ◌∷◌, true, false, cond, T, eqb, length, get_or, drop}
use Rattle.std.proofs.Math.Path.{refl}
use Rattle.std.proofs.Common.{ap, sym, ◌∙◌, arith, eqb→eq, get_or-drop}
use Rattle.std.proofs.Math.Option.{some}
use Rattle.std.proofs.Math.Numerals.{add-one}
use Rattle.std.proofs.Math.Seq.{drop-cons}
use Rattle.lists.specs.Bytes.{bytes}
use Rattle.lists.specs.Tests.{and_0, and-1, no→false}
use Rattle.script_lines.specs.Lines.{check_sat_line, begins, further, until_check}
use Rattle.script_lines.specs.Laws.{back, back_some, back-further}
use Rattle.script_lines.specs.Scanning.{fresh_at, starts_at, ahead, Without}

-- ---------------------------------------------------------------- one place further

module _ (f : List ℕ) (k : ℕ) where
  step : k < length f → ahead f k ≡ back k (cond (starts_at f k) (some 12) (further (until_check (fresh_at f (suc k)) (drop (suc k) f))))
  unfolding ahead until_check
  step l = rw (drop-cons f k 0 l) refl

  pub ahead-here : k < length f → starts_at f k ≡ true → ahead f k ≡ some (k + 12)
  ahead-here l e = step l ∙ rw e (back_some k 12)

  pub ahead-on : k < length f → starts_at f k ≡ false → ahead f k ≡ ahead f (k + 1)
  unfolding ahead
  ahead-on l e = step l ∙ rw (e, add-one k) (back-further k (until_check (fresh_at f (suc k)) (drop (suc k) f)))

-- ---------------------------------------------------------------- byte by byte

begins-at : (p s : List ℕ) → T (begins p s) → (j : ℕ) → j < length p → get_or s j 0 ≡ get_or p j 0
unfolding begins
begins-at [] s h j l = absurd (omega arith)
begins-at (x ∷ p) [] h j l = absurd h
begins-at (x ∷ p) (y ∷ s) h zero l = sym (eqb→eq x y (and_0 (eqb x y) _ h))
begins-at (x ∷ p) (y ∷ s) h (suc j) l = begins-at p s (and-1 (eqb x y) _ h) j (omega arith)

-- where the byte is missing that a check-sat line has m places on, none starts
without-start : (f : List ℕ) (k m : ℕ) → m < 12 → (get_or f (k + m) 0 ≡ get_or check_sat_line m 0 → ⊥) → starts_at f k ≡ false
unfolding bytes
without-start f k m l n =
    no→false (starts_at f k) λ t.
    n (sym (get_or-drop k f m 0) ∙ begins-at check_sat_line (drop k f) (and-1 (fresh_at f k) (begins check_sat_line (drop k f)) t) m l)

-- so a block of places is passed
pub block-passed : (f : List ℕ) (i m n : ℕ) → m < 12 → i + n ≤ length f → Without f (i + m) n (get_or check_sat_line m 0) → ahead f i ≡ ahead f (i + n)
block-passed f i m zero l h w = ap (ahead f) z
  where
    z : i ≡ i + 0
    z = omega arith
block-passed f i m (suc n) l h w =
    let e : i + suc n ≡ i + n + 1 = omega arith in
    let s : starts_at f (i + n) ≡ false = without-start f (i + n) m l (λ q. w.none_is n (omega arith) (ap (λ (x : ℕ). get_or f x 0) (omega (arith, e)) ∙ q)) in
    block-passed f i m n l (omega arith) (record { none_is = λ j d. w.none_is j (omega arith) }) ∙ ahead-on f (i + n) (omega arith) s ∙ ap (ahead f) (sym e)
