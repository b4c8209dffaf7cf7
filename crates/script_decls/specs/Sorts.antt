-- Laws of a sort as it is read step by step.
use Prim.Native.Nat.{ℕ, zero, suc, ◌≤◌, ◌<◌}
use Rattle.std.specs.Prelude.{◌≡◌, List, [], ◌∷◌, ◌++◌, Bool, true, false, ◌&&◌, not, T, eqb, ltb, leb, drop}
use Rattle.std.proofs.Math.Path.{refl}
use Rattle.std.proofs.Common.{ap, sym, ◌∙◌, subst, eqb→eq, le→leb, lt→ltb, T_not}
use Rattle.std.proofs.Math.Bool.{cond}
use Rattle.std.proofs.Math.Option.{Option, none, some}
use native.Mathlib.Omega.{arith}
use Rattle.std.proofs.Math.Dec.{leb→le, not_T}
use Rattle.lists.specs.Bytes.{bytes}
use Rattle.lists.specs.Tests.{every, every-all, all-weaken, and_0, and-1, T→true, true→T, no→false}
use Rattle.smtlib.specs.Lexicon.{digit}
use Rattle.echo_spec.specs.Input.{largest, fits64}
use Rattle.echo_spec.specs.Render.{decimal}
use Rattle.theorems.specs.Texts.{decimal-numeral}
use Rattle.readback.specs.Reader.{Took, took, and_then, expect, up_to, read_numeral}
use Rattle.readback.specs.ScriptReader.{read_sort}
use Rattle.reader_laws.specs.TermsStrict.{impossible, and-then, took-both, expected, numeral-strict}
use Rattle.script_tokens.specs.Reached.{numeral64, ends_name}
use Rattle.script_names.specs.Entries.{after_bar}
use Rattle.script_decls.specs.Lines.{sort_in}

-- ---------------------------------------------------------------- numerals of 64 bits

-- a numeral of 64 bits is a numeral
pub fits_read : (b : List ℕ) (k : ℕ) (r : List ℕ) → numeral64 b ≡ took k r → read_numeral b ≡ took k r
unfolding numeral64
fits_read b k r e =
    let (x, q, h, g) = and-then (read_numeral b) (λ k r. cond (fits64 k) (took k r) none) k r e in
    h ∙ by_fits x q (fits64 x) g
  where
    by_fits : (x : ℕ) (q : List ℕ) (y : Bool) → cond y (took x q) none ≡ took k r → took x q ≡ took k r
    by_fits x q true g = g
    by_fits x q false g = absurd (impossible g)

-- what is no numeral of 64 bits is none, or is above every limit
over-limit : (b : List ℕ) (limit : ℕ) → limit ≤ largest → numeral64 b ≡ none → (k : ℕ) (r : List ℕ) → read_numeral b ≡ took k r → leb k limit ≡ false
unfolding numeral64 and_then
over-limit b limit l e k r q = by_fits (fits64 k) refl (rw q at e)
  where
    by_fits : (y : Bool) → fits64 k ≡ y → cond (fits64 k) (took k r) none ≡ none → leb k limit ≡ false
    by_fits true p g = absurd (impossible (sym (rw p at g)))
    by_fits false p g = no→false (leb k limit) (λ h. subst T (sym (T→true (fits64 k) (le→leb k largest (let m = leb→le k limit h in omega arith))) ∙ p) tt)

-- ---------------------------------------------------------------- sorts

abbrev in_range : ℕ → ℕ → Bool
in_range limit w = ltb 0 w && leb w limit

sort_steps : (limit : ℕ) (b v q : List ℕ) (w : ℕ) (r : List ℕ) → expect (bytes "(_ BitVec ") b ≡ took v q → read_numeral q ≡ took w r
    → sort_in limit b ≡ and_then (expect (bytes ")") r) (λ _ z. cond (in_range limit w) (took w z) none)
unfolding sort_in read_sort and_then
sort_steps limit b v q w r e g = rw (e, g) (by-close (expect (bytes ")") r))
  where
    by-close : (o : Option (Took (List ℕ))) → and_then (and_then o (λ _ z. took w z)) (λ w r. cond (in_range limit w) (took w r) none) ≡ and_then o (λ _ z. cond (in_range limit w) (took w z) none)
    by-close none = refl
    by-close (some t) = refl

pub sort-no-head : (limit : ℕ) (b : List ℕ) → expect (bytes "(_ BitVec ") b ≡ none → sort_in limit b ≡ none
unfolding sort_in read_sort and_then
sort-no-head limit b e = rw e

and-false : (a : Bool) → (a && false) ≡ false
and-false true = refl
and-false false = refl

pub sort-no-number : (limit : ℕ) (b v q : List ℕ) → limit ≤ largest → expect (bytes "(_ BitVec ") b ≡ took v q → numeral64 q ≡ none → sort_in limit b ≡ none
unfolding sort_in read_sort and_then
sort-no-number limit b v q l e g = by_read (read_numeral q) refl
  where
    by-close : (w : ℕ) (o : Option (Took (List ℕ))) → leb w limit ≡ false → and_then o (λ _ z. cond (in_range limit w) (took w z) none) ≡ none
    by-close w none p = refl
    by-close w (some t) p = rw (p, and-false (ltb 0 w)) refl

    by_read : (o : Option (Took ℕ)) → read_numeral q ≡ o → sort_in limit b ≡ none
    by_read none p = rw (e, p)
    by_read (some t) p = sort_steps limit b v q t.value t.rest e p ∙ by-close t.value (expect (bytes ")") t.rest) (over-limit q limit l g t.value t.rest p)

module _ (limit : ℕ) (b v q : List ℕ) (w : ℕ) (r : List ℕ) (e : expect (bytes "(_ BitVec ") b ≡ took v q) (g : numeral64 q ≡ took w r) where
  pub sort-zero : w ≡ 0 → sort_in limit b ≡ none
  unfolding and_then
  sort-zero z = sort_steps limit b v q w r e (fits_read q w r g) ∙ by-close (expect (bytes ")") r)
    where
      by-close : (o : Option (Took (List ℕ))) → and_then o (λ _ z. cond (in_range limit w) (took w z) none) ≡ none
      by-close none = refl
      by-close (some t) = rw z refl

  pub sort-over : limit < w → sort_in limit b ≡ none
  unfolding and_then
  sort-over z = sort_steps limit b v q w r e (fits_read q w r g) ∙ by-close (expect (bytes ")") r)
    where
      by-close : (o : Option (Took (List ℕ))) → and_then o (λ _ z. cond (in_range limit w) (took w z) none) ≡ none
      by-close none = refl
      by-close (some t) = rw (no→false (leb w limit) (λ h. let m = leb→le w limit h in omega arith), and-false (ltb 0 w)) refl

  pub sort-open : expect (bytes ")") r ≡ none → sort_in limit b ≡ none
  unfolding and_then
  sort-open z = sort_steps limit b v q w r e (fits_read q w r g) ∙ rw z

  pub sort-whole : (u x : List ℕ) → (w ≡ 0 → ⊥) → w ≤ limit → expect (bytes ")") r ≡ took u x → sort_in limit b ≡ took w x
  unfolding and_then
  sort-whole u x z l h =
      sort_steps limit b v q w r e (fits_read q w r g)
      ∙ rw (h, T→true (ltb 0 w) (lt→ltb 0 w (above w z)), T→true (leb w limit) (le→leb w limit l))
    where
      above : (w : ℕ) → (w ≡ 0 → ⊥) → 0 < w
      above zero f = absurd (f refl)
      above (suc w) f = omega arith

-- ---------------------------------------------------------------- bytes without a bar

abbrev pub no_bar : ℕ → Bool
no_bar c = not (eqb c 124)

pub pass : (w r : List ℕ) → T (every no_bar w) → after_bar (w ++ r) ≡ after_bar r
unfolding after_bar up_to
pass [] r h = refl
pass (c ∷ w) r h = by_first (eqb c 124) refl (pass w r (and-1 (no_bar c) (every no_bar w) h))
  where
    by_first : (t : Bool) → eqb c 124 ≡ t → after_bar (w ++ r) ≡ after_bar r → after_bar (c ∷ (w ++ r)) ≡ after_bar r
    by_first true q f = absurd (T_not (eqb c 124) (and_0 (no_bar c) (every no_bar w) h) (true→T q))
    by_first false q f =
        let k : (up_to ends_name (c ∷ (w ++ r))).rest ≡ (up_to ends_name (w ++ r)).rest = rw (q, up_to) in
        ap (drop 1) k ∙ f

pub pass-word : (w b v r : List ℕ) → T (every no_bar w) → expect w b ≡ took v r → after_bar b ≡ after_bar r
pass-word w b v r h e = ap after_bar (expected w b v r e) ∙ pass w r h

digit-bar : (c : ℕ) → T (digit c) → T (no_bar c)
digit-bar c h = not_T (eqb c 124) (λ q. let e = eqb→eq c 124 q in subst (λ (x : ℕ). T (digit x)) e h)

pub pass-sort : (limit : ℕ) (b : List ℕ) (w : ℕ) (r : List ℕ) → sort_in limit b ≡ took w r → after_bar b ≡ after_bar r
unfolding sort_in read_sort bytes
pass-sort limit b w r e =
    let (x, q, h, g) = and-then (read_sort b) (λ w r. cond (in_range limit w) (took w r) none) w r e in
    let m : q ≡ r = in-range x q (in_range limit x) g in
    let (v₁, b₁, e₁, g₁) = and-then (expect (bytes "(_ BitVec ") b) (λ _ q. and_then (read_numeral q) (λ w r. and_then (expect (bytes ")") r) (λ _ z. took w z))) x q h in
    let (k, b₂, e₂, g₂) = and-then (read_numeral b₁) (λ w r. and_then (expect (bytes ")") r) (λ _ z. took w z)) x q g₁ in
    let (v₃, b₃, e₃, g₃) = and-then (expect (bytes ")") b₂) (λ _ z. took k z) x q g₂ in
    let n : b₃ ≡ q = (took-both k x b₃ q g₃).1 in
    pass-word (bytes "(_ BitVec ") b v₁ b₁ tt e₁
    ∙ (ap after_bar (numeral-strict b₁ k b₂ e₂) ∙ pass (decimal k) b₂ (every-all no_bar (decimal k) (all-weaken digit no_bar digit-bar (decimal k) (decimal-numeral k).digits)))
    ∙ pass-word (bytes ")") b₂ v₃ b₃ tt e₃ ∙ ap after_bar (n ∙ m)
  where
    in-range : (x : ℕ) (q : List ℕ) (y : Bool) → cond y (took x q) none ≡ took w r → q ≡ r
    in-range x q true g = (took-both x w q r g).1
    in-range x q false g = absurd (impossible g)
