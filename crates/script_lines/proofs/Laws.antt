-- The first script of a file: found where the file begins with a script, and a script wherever one is found.
use Rattle.std.specs.Prelude.{ℕ, suc, ◌≤◌, refl, List, [], ◌∷◌, ◌++◌, Bool, true, false, ◌&&◌, not, cond, T, eqb, length, take, drop}
use Rattle.std.proofs.Math.Path.{◌≡◌}
use Rattle.std.proofs.Common.{ap, sym, ◌∙◌, subst, append_assoc, arith, eqb→eq, T_not, length-append, take-append-drop}
use Rattle.std.proofs.Math.Option.{Option, none, some}
use Rattle.std.proofs.Math.Dec.{not_T}
use Rattle.std.proofs.Math.Seq.{take-append_seam, drop-append_seam}
use Rattle.lists.specs.Bytes.{bytes}
use Rattle.lists.specs.Tests.{same, among, All, and_0, and-1, and_T, or_l, or_r, same→eq, same_refl, true→T, no→false}
use Rattle.script_lines.specs.Lines.{check_sat_line, other_line, lines_text, IsScript, begins, further, until_check, following_script}
use Rattle.script_lines.specs.Laws.{back, back_some, other-whole, begins-long, begins-take, begins-itself}

-- ---------------------------------------------------------------- lines

-- of two lines that hold no byte 10, the one is not the start of the other
begins-line : (m l g : List ℕ) → T (not (among m 10)) → T (not (among l 10)) → T (begins (m ++ (10 ∷ [])) (l ++ (10 ∷ g))) → l ≡ m
unfolding begins
begins-line [] [] g hm hl h = refl
begins-line [] (y ∷ l) g hm hl h =
    absurd (T_not (among (y ∷ l) 10) hl (or_l (eqb 10 y) (among l 10) (and_0 (eqb 10 y) _ h)))
begins-line (x ∷ m) [] g hm hl h =
    let e : x ≡ 10 = eqb→eq x 10 (and_0 (eqb x 10) _ h) in
    absurd (T_not (among (x ∷ m) 10) hm (or_l (eqb 10 x) (among m 10) (rw e tt)))
begins-line (x ∷ m) (y ∷ l) g hm hl h =
    let e : x ≡ y = eqb→eq x y (and_0 (eqb x y) _ h) in
    let r : l ≡ m =
    begins-line m l g (not_T (among m 10) (λ q. T_not (among (x ∷ m) 10) hm (or_r (eqb 10 x) (among m 10) q)))
    (not_T (among l 10) (λ q. T_not (among (y ∷ l) 10) hl (or_r (eqb 10 y) (among l 10) q))) (and-1 (eqb x y) _ h) in
    cc

-- no other line is the start of a check-sat line
other-begins : (l g : List ℕ) → T (other_line l) → begins check_sat_line (l ++ (10 ∷ g)) ≡ false
unfolding other_line bytes
other-begins l g h =
    no→false (begins check_sat_line (l ++ (10 ∷ g))) λ b.
    let e : l ≡ bytes "(check-sat)" = begins-line (bytes "(check-sat)") l g tt (and_0 (not (among l 10)) _ h) b in
    T_not (same l (bytes "(check-sat)")) (and-1 (not (among l 10)) _ h) (rw e (same_refl (bytes "(check-sat)")))

-- inside a line nothing is found up to its end
until-inside : (l g : List ℕ) → T (not (among l 10)) → until_check false (l ++ (10 ∷ g)) ≡ back (suc (length l)) (until_check true g)
unfolding until_check
until-inside [] g h = refl
until-inside (c ∷ l) g h =
    let n : eqb 10 c ≡ false = no→false (eqb 10 c) (λ q. T_not (among (c ∷ l) 10) h (or_l (eqb 10 c) (among l 10) q)) in
    rw n (ap further (until-inside l g (not_T (among l 10) (λ q. T_not (among (c ∷ l) 10) h (or_r (eqb 10 c) (among l 10) q)))))

until-line : (l g : List ℕ) → T (other_line l) → until_check true (l ++ (10 ∷ g)) ≡ back (suc (length l)) (until_check true g)
unfolding until_check
until-line [] g h = rw (other-begins [] g h) refl
until-line (c ∷ l) g h =
    let w = other-whole (c ∷ l) h in
    let n : eqb 10 c ≡ false = no→false (eqb 10 c) (λ q. T_not (among (c ∷ l) 10) w (or_l (eqb 10 c) (among l 10) q)) in
    rw (other-begins (c ∷ l) g h, n) (ap further (until-inside l g (not_T (among l 10) (λ q. T_not (among (c ∷ l) 10) w (or_r (eqb 10 c) (among l 10) q)))))

until-check : (g : List ℕ) → until_check true (check_sat_line ++ g) ≡ some 12
unfolding until_check begins bytes
until-check g = refl

until-lines : (ls : List (List ℕ)) (g : List ℕ) → All other_line ls → until_check true (lines_text ls ++ (check_sat_line ++ g)) ≡ some (length (lines_text ls ++ check_sat_line))
unfolding lines_text bytes
until-lines [] g h = until-check g
until-lines (l ∷ ls) g h =
    rw (append_assoc l (10 ∷ lines_text ls) (check_sat_line ++ g), append_assoc l (10 ∷ lines_text ls) check_sat_line)
    (until-line l (lines_text ls ++ (check_sat_line ++ g)) h.0 ∙ ap (back (suc (length l))) (until-lines ls g h.1)
    ∙ back_some (suc (length l)) (length (lines_text ls ++ check_sat_line))
    ∙ ap some (omega (arith, length-append l (10 ∷ (lines_text ls ++ check_sat_line)))))

-- ---------------------------------------------------------------- a file that begins with a script

pub next-of-script : (s : List ℕ) → IsScript s → (g : List ℕ) → following_script (s ++ g) ≡ some (length s)
unfolding following_script
next-of-script s h g =
    let e : s ≡ lines_text h.lines ++ check_sat_line = h.text in
    rw (e, append_assoc (lines_text h.lines) check_sat_line g) (until-lines h.lines g h.others)

-- Of two files that are equal and each begin with a script, the scripts are the same, and so is what follows.
pub scripts-apart : (s s' t t' : List ℕ) → IsScript s → IsScript s' → s ++ t ≡ s' ++ t' → (s ≡ s') × (t ≡ t')
scripts-apart s s' t t' h h' e =
    let n : some (length s) ≡ some (length s') = sym (next-of-script s h t) ∙ ap following_script e ∙ next-of-script s' h' t' in
    let l : length s ≡ length s' = cc in
    let a : take (length s) (s ++ t) ≡ take (length s') (s' ++ t') = λ i. take (l i) (e i) in
    let b : drop (length s) (s ++ t) ≡ drop (length s') (s' ++ t') = λ i. drop (l i) (e i) in
    (sym (take-append_seam s t) ∙ a ∙ take-append_seam s' t', sym (drop-append_seam s t) ∙ b ∙ drop-append_seam s' t')

-- ---------------------------------------------------------------- what is found is a script

-- the end of a line, and then a script
record Tail (s : List ℕ) : Type 0 where
  line : List ℕ
  whole : T (not (among line 10))
  lines : List (List ℕ)
  others : All other_line lines
  text : s ≡ line ++ (10 ∷ (lines_text lines ++ check_sat_line))

-- by whether a line starts at the place
abbrev Rest : Bool → List ℕ → Type 0
Rest true s = IsScript s
Rest false s = Tail s

-- one byte more in front
rest_more : (c : ℕ) (s : List ℕ) (b : Bool) → eqb 10 c ≡ b → Rest b s → Tail (c ∷ s)
rest_more c s true q h =
    let e : c ≡ 10 = sym (eqb→eq 10 c (true→T q)) in
    record { line = []; whole = tt; lines = h.lines; others = h.others; text = λ i. e i ∷ h.text i }
rest_more c s false q h = record {
  line = c ∷ h.line;
  whole = rw q h.whole;
  lines = h.lines;
  others = h.others;
  text = λ i. c ∷ h.text i;
}

-- where a line starts, the end of a line is a line
whole-line : (s g : List ℕ) → Tail s → begins check_sat_line (s ++ g) ≡ false → IsScript s
unfolding lines_text other_line bytes
whole-line s g h n = record {
  lines = h.line ∷ h.lines;
  others = (and_T (not (among h.line 10)) (not (same h.line (bytes "(check-sat)"))) h.whole (not_T (same h.line (bytes "(check-sat)")) other), h.others);
  text = h.text ∙ sym (append_assoc h.line (10 ∷ lines_text h.lines) check_sat_line);
}
  where
    other : T (same h.line (bytes "(check-sat)")) → ⊥
    other q =
        let e : h.line ≡ bytes "(check-sat)" = same→eq h.line (bytes "(check-sat)") q in
        let f : s ++ g ≡ check_sat_line ++ ((lines_text h.lines ++ check_sat_line) ++ g) =
        ap (λ (x : List ℕ). x ++ g) (h.text ∙ ap (λ (l : List ℕ). l ++ (10 ∷ (lines_text h.lines ++ check_sat_line))) e) in
        subst T n (subst (λ (x : List ℕ). T (begins check_sat_line x)) (sym f) (begins-itself check_sat_line ((lines_text h.lines ++ check_sat_line) ++ g)))

-- what is known where a check-sat line was found that ends k bytes on
record Reached (b : Bool) (s : List ℕ) (k : ℕ) : Type 0 where
  rest : Rest b (take k s)
  long : 12 ≤ k
  within : k ≤ length s

-- the line stands here
found_here : (b : Bool) (s : List ℕ) (k : ℕ) → T (b && begins check_sat_line s) → some 12 ≡ some k → Reached b s k
found_here false s k h e = absurd h
found_here true s k h e = rw (← q) (record { rest = record { lines = []; others = tt; text = unfold lines_text bytes in begins-take check_sat_line s h }; long = omega arith; within = unfold bytes in begins-long check_sat_line s h })
  where
    q : ◌≡◌ {A = ℕ} 12 k
    q = cc

-- it stands further on, j bytes after the next one
found-later : (b : Bool) (c : ℕ) (cs : List ℕ) (j : ℕ) → (b && begins check_sat_line (c ∷ cs)) ≡ false → Reached (eqb 10 c) cs j → Reached b (c ∷ cs) (suc j)
found-later b c cs j n h = record { rest = by-start b n (rest_more c (take j cs) (eqb 10 c) refl h.rest); long = omega (arith, h.long); within = omega (arith, h.within) }
  where
    by-start : (b : Bool) → (b && begins check_sat_line (c ∷ cs)) ≡ false → Tail (c ∷ take j cs) → Rest b (c ∷ take j cs)
    by-start false n t = t
    by-start true n t = whole-line (c ∷ take j cs) (drop j cs) t (rw (take-append-drop j cs) n)

until-found : (s : List ℕ) (b : Bool) (k : ℕ) → until_check b s ≡ some k → Reached b s k
unfolding until_check
until-found [] b k e = absurd (let z : ◌≡◌ {A = ℕ} 0 1 = cc in omega arith)
until-found (c ∷ cs) b k e = by-here (b && begins check_sat_line (c ∷ cs)) refl e (λ j q. until-found cs (eqb 10 c) j q)
  where
    by_place : (o : Option ℕ) → until_check (eqb 10 c) cs ≡ o → (b && begins check_sat_line (c ∷ cs)) ≡ false → further o ≡ some k
        → ((j : ℕ) → until_check (eqb 10 c) cs ≡ some j → Reached (eqb 10 c) cs j) → Reached b (c ∷ cs) k
    by_place none q n e later = absurd (let z : ◌≡◌ {A = ℕ} 0 1 = cc in omega arith)
    by_place (some j) q n e later =
        let f : suc j ≡ k = cc in
        rw (← f) (found-later b c cs j n (later j q))

    by-here : (h : Bool) → (b && begins check_sat_line (c ∷ cs)) ≡ h → cond h (some 12) (further (until_check (eqb 10 c) cs)) ≡ some k
        → ((j : ℕ) → until_check (eqb 10 c) cs ≡ some j → Reached (eqb 10 c) cs j) → Reached b (c ∷ cs) k
    by-here true q e later = found_here b (c ∷ cs) k (true→T q) e
    by-here false q e later = by_place (until_check (eqb 10 c) cs) refl q e later

-- What is found is a script, which the file begins with.
pub next-is-script : (f : List ℕ) (k : ℕ) → following_script f ≡ some k → IsScript (take k f) × (12 ≤ k) × (k ≤ length f)
unfolding following_script
next-is-script f k e =
    let h = until-found f true k e in
    (h.rest, h.long, h.within)
