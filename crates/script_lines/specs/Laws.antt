-- Laws of places and of beginnings. That the first script of a file is found is in proofs/Laws.antt.
use Rattle.std.specs.Prelude.{ℕ, zero, suc, ◌+◌, ◌≤◌, refl, List, [], ◌∷◌, ◌++◌, not, T, eqb, length, take}
use Rattle.std.proofs.Math.Path.{◌≡◌}
use Rattle.std.proofs.Common.{ap, sym, ◌∙◌, arith, eqb→eq, length-append}
use Rattle.std.proofs.Math.Option.{Option, none, some}
use Rattle.std.proofs.Math.Dec.{eqb_refl}
use Rattle.lists.specs.Bytes.{bytes}
use Rattle.lists.specs.Tests.{among, and_0, and-1, and_T}
use Rattle.script_lines.specs.Lines.{check_sat_line, other_line, lines_text, IsScript, begins, further}

-- ---------------------------------------------------------------- places further back

-- the place that was found, counted from n bytes further back
abbrev pub back : ℕ → Option ℕ → Option ℕ
back zero o = o
back (suc n) o = further (back n o)

pub back_some : (n k : ℕ) → back n (some k) ≡ some (n + k)
back_some zero k = ap some (omega arith)
back_some (suc n) k = ap further (back_some n k) ∙ ap some (omega arith)

pub back_none : (n : ℕ) → back n none ≡ none
back_none zero = refl
back_none (suc n) = ap further (back_none n)

pub back-further : (n : ℕ) (o : Option ℕ) → back n (further o) ≡ back (suc n) o
back-further zero o = refl
back-further (suc n) o = ap further (back-further n o)

further-none : (o : Option ℕ) → further o ≡ none → o ≡ none
further-none none e = refl
further-none (some k) e = absurd (let z : ◌≡◌ {A = ℕ} 0 1 = cc in omega arith)

-- ---------------------------------------------------------------- lines

pub other-whole : (l : List ℕ) → T (other_line l) → T (not (among l 10))
unfolding other_line
other-whole l h = and_0 (not (among l 10)) _ h

-- ---------------------------------------------------------------- a file that begins with a script

pub script-long : (s : List ℕ) → IsScript s → 12 ≤ length s
unfolding bytes
script-long s h = omega (arith, ap length h.text, length-append (lines_text h.lines) check_sat_line)

-- ---------------------------------------------------------------- what is found is a script

pub begins-long : (p s : List ℕ) → T (begins p s) → length p ≤ length s
unfolding begins
begins-long [] s h = omega arith
begins-long (x ∷ p) [] h = absurd h
begins-long (x ∷ p) (y ∷ s) h = let l = begins-long p s (and-1 (eqb x y) _ h) in omega arith

pub begins-take : (p s : List ℕ) → T (begins p s) → take (length p) s ≡ p
unfolding begins
begins-take [] s h = refl
begins-take (x ∷ p) [] h = absurd h
begins-take (x ∷ p) (y ∷ s) h =
    let e : y ≡ x = sym (eqb→eq x y (and_0 (eqb x y) _ h)) in
    let r = begins-take p s (and-1 (eqb x y) _ h) in
    λ i. e i ∷ r i

pub begins-itself : (p g : List ℕ) → T (begins p (p ++ g))
unfolding begins
begins-itself [] g = tt
begins-itself (x ∷ p) g = and_T (eqb x x) (begins p (p ++ g)) (eqb_refl x) (begins-itself p g)
