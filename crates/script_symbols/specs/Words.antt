-- The longer symbols, word by word.
use Rattle.std.specs.Prelude.{ℕ, suc, ◌≤◌, ◌<◌, ◌≡◌, refl, List, [], ◌∷◌, map, Bool, true, false, ◌||◌, not, T, leb, length}
use Prim.Native.String.{String}
use Rattle.std.proofs.Common.{ap, sym, ◌∙◌, arith, leb→le}
use Rattle.std.proofs.Math.Option.{none, some}
use Rattle.lists.specs.Bytes.{bytes}
use Rattle.lists.specs.Tests.{same, in_list, every, every_in, and_0, and-1, and_T, or_elim, true→T, no→false, not→false, same→eq}
use Rattle.lists.specs.Build.{find_from}
use Rattle.echo_spec.specs.Render.{symbols}
use Rattle.readback.specs.Reader.{kind_of}

-- the symbols of more than seven bytes
abbrev pub long_words : List String
long_words = "distinct" ∷ "zero_extend" ∷ "sign_extend" ∷ "rotate_left" ∷ "rotate_right" ∷ []

-- a word that is the symbol
pub word-kind : (w x : List ℕ) (k : ℕ) (r : Bool) → r ≡ same w x → r ≡ true → some k ≡ kind_of x → some k ≡ kind_of w
word-kind w x k r e t h = h ∙ ap kind_of (sym (same→eq w x (true→T (sym e ∙ t))))

known : T (every (λ s. leb (length (bytes s)) 7 || in_list (bytes s) (map bytes long_words)) symbols)
unfolding symbols bytes same
known = tt

-- a word of another length
apart : (w x : List ℕ) → 7 < length w → length x ≤ 7 → same w x ≡ false
apart w x l h = no→false (same w x) (λ q. let e : length w ≡ length x = ap length (same→eq w x q) in omega arith)

none_found : (w : List ℕ) → 7 < length w → T (every (λ x. not (same w x)) (map bytes long_words)) → (k : ℕ) (ss : List String)
    → T (every (λ s. leb (length (bytes s)) 7 || in_list (bytes s) (map bytes long_words)) ss) → find_from (λ s. same w (bytes s)) k ss ≡ none
unfolding find_from
none_found w l h k [] t = refl
none_found w l h k (s ∷ ss) t =
    let short : Bool = leb (length (bytes s)) 7 in
    let long : Bool = in_list (bytes s) (map bytes long_words) in
    let far : same w (bytes s) ≡ false =
    or_elim short long (and_0 (short || long) _ t) (λ q. apart w (bytes s) l (leb→le (length (bytes s)) 7 q)) (λ q. not→false (same w (bytes s)) (every_in (λ x. not (same w x)) (map bytes long_words) (bytes s) h q)) in
    rw (far, find_from) (none_found w l h (suc k) ss (and-1 (short || long) _ t))

none_of : {r : Bool} → r ≡ false → T (not r)
none_of e = rw e tt

-- none of the five
pub no_word : (w : List ℕ) → 7 < length w → {a b c d e : Bool} → a ≡ same w (bytes "distinct") → b ≡ same w (bytes "zero_extend") → c ≡ same w (bytes "sign_extend") → d ≡ same w (bytes "rotate_left")
    → e ≡ same w (bytes "rotate_right") → a ≡ false → b ≡ false → c ≡ false → d ≡ false → e ≡ false → none ≡ kind_of w
unfolding kind_of
no_word w l p q r s t pa pb pc pd pe =
    let na : Bool = not (same w (bytes "distinct")) in
    let nb : Bool = not (same w (bytes "zero_extend")) in
    let nc : Bool = not (same w (bytes "sign_extend")) in
    let nd : Bool = not (same w (bytes "rotate_left")) in
    let ne : Bool = not (same w (bytes "rotate_right")) in
    sym (none_found w l (and_T na _ (none_of (sym p ∙ pa)) (and_T nb _ (none_of (sym q ∙ pb)) (and_T nc _ (none_of (sym r ∙ pc)) (and_T nd _ (none_of (sym s ∙ pd)) (and_T ne true (none_of (sym t ∙ pe)) tt))))) 0 symbols known)

pub kind-distinct : some 20 ≡ kind_of (bytes "distinct")
unfolding kind_of symbols bytes same find_from
kind-distinct = refl

pub kind-zero-extend : some 16 ≡ kind_of (bytes "zero_extend")
unfolding kind_of symbols bytes same find_from
kind-zero-extend = refl

pub kind-sign-extend : some 17 ≡ kind_of (bytes "sign_extend")
unfolding kind_of symbols bytes same find_from
kind-sign-extend = refl

pub kind-rotate-left : some 34 ≡ kind_of (bytes "rotate_left")
unfolding kind_of symbols bytes same find_from
kind-rotate-left = refl

pub kind-rotate-right : some 13 ≡ kind_of (bytes "rotate_right")
unfolding kind_of symbols bytes same find_from
kind-rotate-right = refl
