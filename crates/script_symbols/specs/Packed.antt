-- Words as numbers: a word of bytes is one number, and no other word is.
use Rattle.std.specs.Prelude.{ℕ, zero, suc, ◌+◌, ◌*◌, ◌-◌, ◌≤◌, ◌<◌, ◌≡◌, refl, List, [], ◌∷◌, map, Bool, true, false, ◌||◌, T, ltb, eqb, length, get_or, drop, reverse}
use Prim.Native.String.{String}
use Rattle.std.proofs.Common.{ap, sym, ◌∙◌, subst, arith, eqb→eq, ltb→lt, lt→ltb, drop_of_length-le, drop-cons}
use Rattle.std.specs.Prelude.{Option as Maybe, Some, None}
use Rattle.std.proofs.lemmas.List.{length-reverse, get_or-reverse, get_or_default}
use Rattle.std.proofs.Math.Option.{Option, none, some}
use Rattle.std.proofs.Math.Dec.{eqb_refl}
use Rattle.lists.specs.Bytes.{bytes}
use Rattle.lists.specs.Tests.{same, every, every_from, every-at, All, and_0, and-1, or_elim, T→true, true→T, no→false, same→eq, same_refl, by-test}
use Rattle.lists.specs.Build.{find_from}
use Rattle.echo_spec.specs.Render.{symbols}
use Rattle.readback.specs.Reader.{kind_of}

-- ---------------------------------------------------------------- definitions

-- the first byte the lowest, and a 1 above the last
unfoldable pub packed : List ℕ → ℕ
packed [] = 1
packed (c ∷ w) = c + 256 * packed w

-- the symbols of the kinds, packed
abbrev pub codes : List ℕ
codes =
    1 ∷ 1 ∷ 1530692466274 ∷ 1522388924002 ∷ 1565338203746 ∷ 411670005773922 ∷ 401757456135778 ∷ 1530860238434
    ∷ 6214874722 ∷ 1591008065122 ∷ 1565120493154 ∷ 407267915363938 ∷ 407267914643042 ∷ 115254640287677567706384854898
    ∷ 104817961519577189 ∷ 409436605542243 ∷ 430898923609644458004604282 ∷ 430898923609644457987107187 ∷ 23426153 ∷ 317
    ∷ 26833412404007889252 ∷ 1599547471458 ∷ 1535122962018 ∷ 1599463585378 ∷ 1535039075938 ∷ 1599547340386
    ∷ 1535122830946 ∷ 1599463454306 ∷ 1535038944866 ∷ 24407918 ∷ 23359073 ∷ 94831 ∷ 1599597344354 ∷ 1543594997346
    ∷ 450203957208118030876569458 ∷ 411670005642850 ∷ 401757456004706 ∷ []

-- the kind whose symbol is packed as v
unfoldable pub short_kind : ℕ → Option ℕ
short_kind v = find_from (λ n. eqb v n) 0 codes

-- the kind that was told
abbrev pub kind_in : Maybe ℕ → Option ℕ
kind_in None = none
kind_in (Some k) = some k

-- ---------------------------------------------------------------- packed words

abbrev pub byte : ℕ → Bool
byte c = ltb c 256

above : (w : List ℕ) → 0 < packed w
unfolding packed
above [] = omega arith
above (c ∷ w) = let h = above w in omega arith

pub packed-apart : (v w : List ℕ) → All byte v → All byte w → packed v ≡ packed w → v ≡ w
unfolding packed
packed-apart [] [] h k e = refl
packed-apart [] (d ∷ w) h k e = absurd (let l = above w in omega arith)
packed-apart (c ∷ v) [] h k e = absurd (let l = above v in omega arith)
packed-apart (c ∷ v) (d ∷ w) (h, hs) (k, ks) e =
    let a = ltb→lt c 256 h in
    let b = ltb→lt d 256 k in
    let p : c ≡ d = omega arith in
    let q = packed-apart v w hs ks (omega arith) in
    λ i. p i ∷ q i

-- comparing words is comparing numbers
same-packed : (v w : List ℕ) → All byte v → All byte w → same v w ≡ eqb (packed v) (packed w)
same-packed v w h k = by_number (eqb (packed v) (packed w)) refl
  where
    by_number : (t : Bool) → eqb (packed v) (packed w) ≡ t → same v w ≡ t
    by_number true e = T→true (same v w) (subst (λ (x : List ℕ). T (same v x)) (packed-apart v w h k (eqb→eq (packed v) (packed w) (true→T e))) (same_refl v))
    by_number false e = no→false (same v w) (λ q. subst T e (subst (λ (x : List ℕ). T (eqb (packed v) (packed x))) (same→eq v w q) (eqb_refl (packed v))))

-- ---------------------------------------------------------------- the table

codes-are : codes ≡ map (λ s. packed (bytes s)) symbols
unfolding packed symbols bytes
codes-are = refl

symbols-bytes : T (every (λ s. every byte (bytes s)) symbols)
unfolding symbols bytes
symbols-bytes = tt

find-same : (w : List ℕ) → All byte w → (k : ℕ) (ss : List String) → T (every (λ s. every byte (bytes s)) ss)
    → find_from (λ s. same w (bytes s)) k ss ≡ find_from (λ n. eqb (packed w) n) k (map (λ s. packed (bytes s)) ss)
unfolding find_from
find-same w h k [] t = refl
find-same w h k (s ∷ ss) t =
    let b : T (every byte (bytes s)) = and_0 (every byte (bytes s)) _ t in
    let e = same-packed w (bytes s) h (by-test byte (bytes s) b) in
    by_first (same w (bytes s)) (eqb (packed w) (packed (bytes s))) e (find-same w h (suc k) ss (and-1 (every byte (bytes s)) _ t))
  where
    by_first : (x y : Bool) → x ≡ y → find_from (λ s. same w (bytes s)) (suc k) ss ≡ find_from (λ n. eqb (packed w) n) (suc k) (map (λ s. packed (bytes s)) ss)
        → ◌≡◌ {A = Option ℕ} (elim x as (λ _. Option ℕ) [ true ↦ some k | false ↦ find_from (λ s. same w (bytes s)) (suc k) ss ]) (elim y as (λ _. Option ℕ) [ true ↦ some k | false ↦ find_from (λ n. eqb (packed w) n) (suc k) (map (λ s. packed (bytes s)) ss) ])
    by_first x y e r = λ i. elim (e i) as (λ _. Option ℕ) [ true ↦ some k | false ↦ r i ]

-- THE KIND of a word is that of its number.
pub kind-packed : (w : List ℕ) → All byte w → kind_of w ≡ short_kind (packed w)
unfolding kind_of short_kind
kind-packed w h = find-same w h 0 symbols symbols-bytes ∙ ap (find_from (λ n. eqb (packed w) n) 0) (sym codes-are)

-- ---------------------------------------------------------------- by number

is_kind : ℕ → Option ℕ → Bool
is_kind k none = false
is_kind k (some j) = eqb j k

is-kind : (k : ℕ) (o : Option ℕ) → T (is_kind k o) → o ≡ some k
unfolding is_kind
is-kind k none h = absurd h
is-kind k (some j) h = ap (λ (n : ℕ). some n) (eqb→eq j k h)

-- each symbol but the second empty one is the first of its number
codes-first : T (every_from (λ k. eqb k 1 || is_kind k (short_kind (get_or codes k 0))) 0 37)
unfolding short_kind find_from is_kind
codes-first = tt

pub code_at : (k : ℕ) → k < 37 → (k ≡ 1 → ⊥) → (v : ℕ) → v ≡ get_or codes k 0 → some k ≡ short_kind v
code_at k l f v e =
    let t = every-at (λ k. eqb k 1 || is_kind k (short_kind (get_or codes k 0))) 0 37 codes-first k (omega arith) (omega arith) in
    let s : short_kind (get_or codes k 0) ≡ some k = or_elim (eqb k 1) (is_kind k (short_kind (get_or codes k 0))) t (λ q. absurd (f (eqb→eq k 1 q))) (is-kind k (short_kind (get_or codes k 0))) in
    sym (ap short_kind e ∙ s)

-- a number that is none of these
abbrev pub NoneOf : ℕ → List ℕ → Type 0
NoneOf v [] = Unit
NoneOf v (n ∷ ns) = (v ≡ n → ⊥) × NoneOf v ns

none_found : (v k : ℕ) (ns : List ℕ) → NoneOf v ns → find_from (λ n. eqb v n) k ns ≡ none
unfolding find_from
none_found v k [] h = refl
none_found v k (n ∷ ns) (h, hs) = rw (no→false (eqb v n) (λ q. h (eqb→eq v n q)), find_from) (none_found v (suc k) ns hs)

pub no_code : (v : ℕ) → NoneOf v codes → none ≡ short_kind v
unfolding short_kind
no_code v h = sym (none_found v 0 codes h)

-- ---------------------------------------------------------------- packed byte by byte

pub packed-at : (w : List ℕ) (i : ℕ) → i < length w → packed (drop i w) ≡ get_or w i 0 + 256 * packed (drop (suc i) w)
unfolding packed
packed-at w i h = ap packed (drop-cons w i 0 h)

-- how large: seven bytes have 57 bits
unfoldable pub most : ℕ → ℕ
most zero = 2
most (suc k) = 256 * most k

pub packed-small : (w : List ℕ) → All byte w → (k : ℕ) → length w ≤ k → packed w < most k
unfolding packed most
packed-small [] h zero l = omega arith
packed-small [] h (suc k) l = let m = packed-small [] tt k (omega arith) in omega arith
packed-small (c ∷ w) h zero l = absurd (omega arith)
packed-small (c ∷ w) (h, hs) (suc k) l =
    let m = packed-small w hs k (omega arith) in
    let b = ltb→lt c 256 h in
    omega arith

pub most-six : (k : ℕ) → k ≤ 6 → most k ≤ 562949953421312
unfolding most
most-six k h = by-places k h
  where
    by-places : (k : ℕ) → k ≤ 6 → most k ≤ 562949953421312
    by-places zero h = omega arith
    by-places (suc zero) h = omega arith
    by-places (suc (suc zero)) h = omega arith
    by-places (suc (suc (suc zero))) h = omega arith
    by-places (suc (suc (suc (suc zero)))) h = omega arith
    by-places (suc (suc (suc (suc (suc zero))))) h = omega arith
    by-places (suc (suc (suc (suc (suc (suc zero)))))) h = omega arith
    by-places (suc (suc (suc (suc (suc (suc (suc k))))))) h = absurd (omega arith)

-- one byte more, from the last to the first
pack-step : (w : List ℕ) (i v : ℕ) → 1 ≤ i → i ≤ length w → v ≡ packed (drop i w) → v * 256 + get_or w (i - 1) 0 ≡ packed (drop (i - 1) w)
pack-step w i v h l e =
    let z : suc (i - 1) ≡ i = omega arith in
    let p = packed-at w (i - 1) (omega arith) in
    let q : packed (drop (suc (i - 1)) w) ≡ packed (drop i w) = ap (λ (k : ℕ). packed (drop k w)) z in
    omega arith

-- the last n bytes, packed
pub record Behind (w : List ℕ) (n v : ℕ) : Type 0 where
  pub room : n ≤ length w
  pub value : v ≡ packed (drop (length w - n) w)
  pub below : v < most n

pub behind-none : (w : List ℕ) → Behind w 0 1
unfolding packed most
behind-none w =
    let z : drop (length w - 0) w ≡ [] = drop_of_length-le w (omega arith) in
    record { room = omega arith; value = rw z refl; below = omega arith }

-- what a walk from the last byte back comes to, after n
behind-at : (w : List ℕ) (n c : ℕ) → (n < length (reverse w)) × (c ≡ get_or (reverse w) n c) → (n < length w) × (c ≡ get_or w (length w - n - 1) 0)
behind-at w n c t =
    let l : n < length w = omega (arith, t.0, length-reverse w) in
    let y : length w - 1 - n ≡ length w - n - 1 = omega arith in
    (l, t.1 ∙ get_or-reverse w n c l ∙ get_or_default w (length w - 1 - n) c 0 (omega arith) ∙ ap (λ (k : ℕ). get_or w k 0) y)

module _ (w : List ℕ) (n c v : ℕ) (t : (n < length (reverse w)) × (c ≡ get_or (reverse w) n c)) (d : (i : ℕ) → get_or w i 0 < 256) (b : Behind w n v) where
  behind-left : n < length w
  behind-left = (behind-at w n c t).0

  behind-byte : c ≡ get_or w (length w - n - 1) 0
  behind-byte = (behind-at w n c t).1

  -- seven bytes have 57 bits
  pub behind-fits : length w ≤ 7 → (v ≤ 562949953421312) × (c < 256)
  behind-fits h =
      let l = behind-left in
      let m = most-six n (omega arith) in
      (omega (arith, b.below), omega (arith, behind-byte, d (length w - n - 1)))

  pub behind-more : Behind w (n + 1) (v * 256 + c)
  unfolding most
  behind-more =
      let l = behind-left in
      let k : c < 256 = omega (arith, behind-byte, d (length w - n - 1)) in
      let y : length w - (n + 1) ≡ length w - n - 1 = omega arith in
      let p = pack-step w (length w - n) v (omega arith) (omega arith) b.value in
      let z : n + 1 ≡ suc n = omega arith in
      record { room = omega arith; value = rw y (ap (λ (x : ℕ). v * 256 + x) behind-byte ∙ p); below = rw z (omega (arith, b.below)) }

pub behind-all : (w : List ℕ) (n v : ℕ) → Behind w n v → length w ≤ n → v ≡ packed w
behind-all w n v b l = let z : length w - n ≡ 0 = omega arith in rw z at b.value

-- what is in a slice of bytes
pub all-bytes : (w : List ℕ) → ((i : ℕ) → get_or w i 0 < 256) → All byte w
all-bytes [] h = tt
all-bytes (c ∷ w) h = (lt→ltb c 256 (h 0), all-bytes w (λ i. h (suc i)))
