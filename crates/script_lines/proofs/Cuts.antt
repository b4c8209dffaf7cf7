-- A file cut at its check-sat lines: a file that joins scripts gives them back, and the pieces of any file are scripts, then a rest that
-- has no check-sat line, and together the file.
use Rattle.std.specs.Prelude.{ℕ, zero, suc, ◌≤◌, ◌≡◌, refl, List, [], ◌∷◌, ◌++◌, ◌↔◌, length, take, drop}
use Rattle.std.proofs.Common.{ap, sym, ◌∙◌, subst, append_assoc, append-nil, arith, length-append, length-drop, take-append-drop}
use Rattle.std.proofs.Math.Option.{Option, none, some}
use Rattle.std.proofs.Math.Seq.{take-append_seam, drop-append_seam}
use Rattle.script_lines.specs.Lines.{IsScript, AllScripts, joined, until_check, following_script, Cut, uncut, with_first, cut_up_to, scripts_of}
use Rattle.script_lines.specs.Laws.{script-long}
use Rattle.script_lines.proofs.Laws.{next-of-script, next-is-script}
use Rattle.script_lines.specs.Cuts.{CutOf}

-- ---------------------------------------------------------------- one step

cut-none : (n : ℕ) (f : List ℕ) → following_script f ≡ none → cut_up_to n f ≡ uncut f
unfolding cut_up_to
cut-none zero f e = refl
cut-none (suc n) f e = rw (e, cut_up_to) refl

cut-some : (n : ℕ) (f : List ℕ) (k : ℕ) → following_script f ≡ some k → cut_up_to (suc n) f ≡ with_first (take k f) (cut_up_to n (drop k f))
unfolding cut_up_to
cut-some n f k e = rw (e, cut_up_to) refl

next-empty : (f : List ℕ) → length f ≤ 0 → following_script f ≡ none
next-empty f l = by_next (following_script f) refl
  where
    by_next : (o : Option ℕ) → following_script f ≡ o → o ≡ none
    by_next none e = refl
    by_next (some k) e = absurd (let h = next-is-script f k e in omega (arith, h.1, h.2))

-- as many steps as there are bytes are enough
cut-enough : (n m : ℕ) (f : List ℕ) → length f ≤ n → length f ≤ m → cut_up_to n f ≡ cut_up_to m f
cut-enough zero m f a b = cut-none zero f (next-empty f a) ∙ sym (cut-none m f (next-empty f a))
cut-enough (suc n) zero f a b = cut-none (suc n) f (next-empty f b) ∙ sym (cut-none zero f (next-empty f b))
cut-enough (suc n) (suc m) f a b = by_next (following_script f) refl (λ g x y. cut-enough n m g x y)
  where
    by_next : (o : Option ℕ) → following_script f ≡ o → ((g : List ℕ) → length g ≤ n → length g ≤ m → cut_up_to n g ≡ cut_up_to m g)
        → cut_up_to (suc n) f ≡ cut_up_to (suc m) f
    by_next none e rest = cut-none (suc n) f e ∙ sym (cut-none (suc m) f e)
    by_next (some k) e rest =
        let h = next-is-script f k e in
        cut-some n f k e ∙ ap (with_first (take k f)) (rest (drop k f) (omega (arith, h.1, length-drop k f)) (omega (arith, h.1, length-drop k f)))
        ∙ sym (cut-some m f k e)

-- ---------------------------------------------------------------- a file that joins scripts

pub cut-rest : (f : List ℕ) → following_script f ≡ none → scripts_of f ≡ uncut f
unfolding scripts_of
cut-rest f e = cut-none (length f) f e

-- where a file begins with a script, it is cut off, whatever follows
pub cut-first : (s : List ℕ) → IsScript s → (g : List ℕ) → scripts_of (s ++ g) ≡ with_first s (scripts_of g)
unfolding scripts_of
cut-first s h g = by_length (length (s ++ g)) refl
  where
    by_length : (n : ℕ) → length (s ++ g) ≡ n → cut_up_to n (s ++ g) ≡ with_first s (cut_up_to (length g) g)
    by_length zero e = absurd (omega (arith, script-long s h, length-append s g))
    by_length (suc n) e =
        cut-some n (s ++ g) (length s) (next-of-script s h g)
        ∙ rw (take-append_seam s g, drop-append_seam s g)
        (ap (with_first s) (cut-enough n (length g) g (omega (arith, script-long s h, length-append s g)) (omega arith)))

-- Cutting a file that joins scripts gives the scripts back, and what follows them where that has no check-sat line.
pub cut-joined : (ss : List (List ℕ)) (g : List ℕ) → AllScripts ss → following_script g ≡ none → scripts_of (joined ss ++ g) ≡ record { scripts = ss; rest = g }
unfolding joined
cut-joined [] g h e = cut-rest g e
cut-joined (s ∷ ss) g h e =
    rw (append_assoc s (joined ss) g) (cut-first s h.0 (joined ss ++ g) ∙ ap (with_first s) (cut-joined ss g h.1 e))

pub next-nothing : following_script [] ≡ none
unfolding following_script until_check
next-nothing = refl

pub cut-whole : (ss : List (List ℕ)) → AllScripts ss → scripts_of (joined ss) ≡ record { scripts = ss; rest = [] }
cut-whole ss h = ap scripts_of (sym (append-nil (joined ss))) ∙ cut-joined ss [] h next-nothing

-- Two files that join scripts are equal exactly where they join the same scripts in the same order.
pub joined-equal : (ss ss' : List (List ℕ)) → AllScripts ss → AllScripts ss' → (joined ss ≡ joined ss') ↔ (ss ≡ ss')
joined-equal ss ss' h h' = (
  λ e. ap (λ (c : Cut). c.scripts) (sym (cut-whole ss h) ∙ ap scripts_of e ∙ cut-whole ss' h'),
  λ e. ap joined e,
)

-- ---------------------------------------------------------------- any file

cut-up-to : (n : ℕ) (f : List ℕ) → length f ≤ n → CutOf f (cut_up_to n f)
unfolding joined
cut-up-to zero f l = rw (cut-none zero f (next-empty f l)) (record { scripts = tt; rest = next-empty f l; text = refl })
cut-up-to (suc n) f l = by_next (following_script f) refl (λ g x. cut-up-to n g x)
  where
    by_next : (o : Option ℕ) → following_script f ≡ o → ((g : List ℕ) → length g ≤ n → CutOf g (cut_up_to n g)) → CutOf f (cut_up_to (suc n) f)
    by_next none e rest = rw (cut-none (suc n) f e) (record { scripts = tt; rest = e; text = refl })
    by_next (some k) e rest =
        let h = next-is-script f k e in
        let c = rest (drop k f) (omega (arith, h.1, length-drop k f)) in
        rw (cut-some n f k e) (record {
          scripts = (h.0, c.scripts);
          rest = c.rest;
          text = append_assoc (take k f) (joined (cut_up_to n (drop k f)).scripts) (cut_up_to n (drop k f)).rest ∙ rw c.text (take-append-drop k f);
        })

-- A file has one cut, and `scripts_of` is it.
pub cut-exactly : (f : List ℕ) (c : Cut) → (scripts_of f ≡ c) ↔ CutOf f c
unfolding scripts_of
cut-exactly f c = (
  λ e. subst (CutOf f) e (cut-up-to (length f) f (omega arith)),
  λ h. ap scripts_of (sym h.text) ∙ cut-joined c.scripts c.rest h.scripts h.rest,
)
