-- What callers use of `written`, in place of its text, and of the bits of a part. Assumes nothing.
use Prim.Native.Nat.{ℕ, zero, suc, ◌+◌, ◌-◌, ◌^◌, ◌<◌, ◌≤◌, min}
use Rattle.std.specs.Prelude.{Bool, ◌≡◌, refl, List, [], ◌∷◌, ◌++◌, ◌↔◌, T, take, drop}
use Rattle.std.proofs.Common.{sym, ap, ◌∙◌, append_assoc, append-nil, add_assoc, add-zero, length-append, length-drop, drop-drop}
use Rattle.std.proofs.Math.Decide.{dec_le}
use Rattle.std.proofs.Math.Nat.{zero-add}
use native.Mathlib.Omega.{arith}
use Rattle.std.proofs.Math.ListN.{length}
use Rattle.std.proofs.Math.Seq.{paste, paste-zero, take-append-add, take-length, drop-length}
use Rattle.std.proofs.lemmas.List.Edits.{length-paste, take-paste, drop-paste}
use Rattle.std.proofs.lemmas.List.{take-append-le}
use Rattle.lists.specs.Tests.{every, and_T, and_0, and-1}
use Rattle.echo_bytes.specs.declared.Place.{Place}
use Rattle.echo_bytes.specs.Page.{Page, page, start, saturated, written, after}

-- a page by its parts
same-page : {a a' n n' : ℕ} {o o' : List ℕ} → a ≡ a' → n ≡ n' → o ≡ o'
    → page (record { at = a; need = n }) o ≡ page (record { at = a'; need = n' }) o'
same-page p q r = λ i. page (record { at = p i; need = q i }) (r i)

-- ---------------------------------------------------------------- what the buffer becomes

-- how many bytes of the piece fit
abbrev fit : List ℕ → ℕ → List ℕ → ℕ
fit o at bs = min (length bs) (length o - at)

none-fits : (o bs : List ℕ) (at : ℕ) → fit o at bs ≡ 0 → paste o at bs (fit o at bs) ≡ o
none-fits o bs at e = rw e (sym (paste-zero o at bs))

length-pasted : (o bs : List ℕ) (at : ℕ) → length (paste o at bs (fit o at bs)) ≡ length o
length-pasted o bs at = go (dec_le at (length o))
  where
    go : Dec (at ≤ length o) → length (paste o at bs (fit o at bs)) ≡ length o
    go (yes h) = length-paste o at bs (fit o at bs) (omega arith) (omega arith)
    go (no h) = ap length (none-fits o bs at (omega arith))

-- two pieces, one behind the other
paste-paste : (o a b : List ℕ) (at i j : ℕ) → at + i ≤ length o → i ≤ length a
    → paste (paste o at a i) (at + i) b j ≡ take at o ++ (take i a ++ take j b) ++ drop (at + (i + j)) o
paste-paste o a b at i j h l = rw (t, d) (ap (λ (xs : List ℕ). xs ++ drop (at + (i + j)) o) (append_assoc (take at o) (take i a) (take j b)))
  where
    t : take (at + i) (paste o at a i) ≡ take at o ++ take i a
    t = take-paste o at a i (omega arith) l

    d : drop (at + i + j) (paste o at a i) ≡ drop (at + (i + j)) o
    d =
        sym (drop-drop j (at + i) (paste o at a i)) ∙ ap (drop j) (drop-paste o at a i (omega arith) l)
        ∙ drop-drop j (at + i) o ∙ ap (λ (n : ℕ). drop n o) (add_assoc at i j)

-- where the first piece is cut, nothing of the second fits
take-both : (a b : List ℕ) (i j : ℕ) → i ≤ length a → (i < length a → j ≡ 0) → take (i + j) (a ++ b) ≡ take i a ++ take j b
take-both a b i j h cut = go (dec_le (length a) i)
  where
    go : Dec (length a ≤ i) → take (i + j) (a ++ b) ≡ take i a ++ take j b
    go (yes l) =
        let e : i ≡ length a = omega arith in
        rw (e, take-length) (take-append-add a b j)
    go (no l) =
        let e : j ≡ 0 = cut (omega arith) in
        rw (e, add-zero, append-nil) (take-append-le i a b h)

pasted-append : (o a b : List ℕ) (at i j k : ℕ) → at + i ≤ length o → i ≤ length a → (i < length a → j ≡ 0) → k ≡ i + j
    → paste (paste o at a i) (at + i) b j ≡ paste o at (a ++ b) k
pasted-append o a b at i j k h l cut e =
    paste-paste o a b at i j h l ∙ rw (e, take-both a b i j l cut) refl

-- ---------------------------------------------------------------- laws of `written`

-- past the end nothing is stored
pub written-full : (p : Place) (o bs : List ℕ) (n : ℕ) → length o ≤ p.at → n ≡ saturated p.need (length bs)
    → page (record { at = p.at; need = n }) o ≡ written (page p o) bs
unfolding written
written-full p o bs n h f = same-page (omega arith) f (sym (none-fits o bs p.at (omega arith)))

pub length-written : (p : Page) (bs : List ℕ) → length (written p bs).bytes ≡ length p.bytes
unfolding written
length-written p bs = length-pasted p.bytes bs p.place.at

pub at-written : (p : Page) (bs : List ℕ) → p.place.at ≤ length p.bytes → (written p bs).place.at ≤ length (written p bs).bytes
unfolding written
at-written p bs h = omega (arith, length-pasted p.bytes bs p.place.at)

pub need-written : (p : Page) (bs : List ℕ) → (written p bs).place.need < 2 ^ 64
unfolding written
need-written p bs = omega arith

pub written-nil : (p : Page) → p.place.need < 2 ^ 64 → written p [] ≡ p
unfolding written
written-nil p h = same-page (omega arith) (omega arith) (none-fits p.bytes [] p.place.at (omega arith))

pub written-append : (p : Page) (a b : List ℕ) → written (written p a) b ≡ written p (a ++ b)
unfolding written
written-append p a b = go (dec_le p.place.at (length p.bytes))
  where
    go : Dec (p.place.at ≤ length p.bytes) → written (written p a) b ≡ written p (a ++ b)
    go (yes h) =
        let o : List ℕ = p.bytes in
        let at : ℕ = p.place.at in
        let i : ℕ = fit o at a in
        let s : length (paste o at a i) ≡ length o = length-pasted o a at in
        let l : length (a ++ b) ≡ length a + length b = length-append a b in
        let j : ℕ = fit (paste o at a i) (at + i) b in
        same-page (omega arith) (omega arith) (pasted-append o a b at i j (fit o at (a ++ b)) (omega arith) (omega arith) (λ c. omega arith) (omega arith))
    go (no h) =
        let o : List ℕ = p.bytes in
        let n : ℕ = saturated p.place.need (length a) in
        let q : Place = record { at = p.place.at; need = n } in
        let l : length (a ++ b) ≡ length a + length b = length-append a b in
        ap (λ (r : Page). written r b) (sym (written-full p.place o a n (omega arith) refl))
        ∙ sym (written-full q o b (saturated n (length b)) (omega arith) refl)
        ∙ written-full p.place o (a ++ b) (saturated n (length b)) (omega arith) (omega arith)

-- one piece after the other, as two calls have it
pub written_then : (p : Page) {q r : Page} (a b : List ℕ) → q ≡ written p a → r ≡ written q b → r ≡ written p (a ++ b)
written_then p a b e f = f ∙ ap (λ (x : Page). written x b) e ∙ written-append p a b

-- ---------------------------------------------------------------- a page from its start

-- (a slice holds fewer than 2 ^ 63 bytes: at a function's entry `c.good` has that of each slice parameter, as `.1` of the parameter's part)
module _ (o bs : List ℕ) (small : length o < 2 ^ 63) where
  -- `need` is exact wherever it is compared with the buffer's length
  pub need-exact : ((written (page start o) bs).place.need ≤ length o) ↔ (length bs ≤ length o)
  unfolding written
  need-exact = (λ h. omega arith, λ h. omega arith)

  -- a text that fits stands at the front, and the rest of the buffer is as it was
  pub written-fits : length bs ≤ length o → written (page start o) bs ≡ page (record { at = length bs; need = length bs }) (bs ++ drop (length bs) o)
  unfolding written
  written-fits h = same-page (omega arith) (omega arith) (rw (e, zero-add, take-length) refl)
    where
      e : min (length bs) (length o - 0) ≡ length bs
      e = omega arith

-- ---------------------------------------------------------------- through a part

-- writing from the start of a buffer's rest is writing at the place where the rest starts
pub written-part : (p : Place) (o bs : List ℕ) → p.at ≤ length o
    → let q : Page = written (page start (drop p.at o)) bs in
    page (after p q.place) (take p.at o ++ q.bytes) ≡ written (page p o) bs
unfolding written
written-part p o bs h = same-page (omega (arith, d)) (omega arith) (rw (e, zero-add, drop-drop, ← append_assoc) refl)
  where
    d : length (drop p.at o) ≡ length o - p.at
    d = length-drop p.at o

    e : min (length bs) (length (drop p.at o) - 0) ≡ min (length bs) (length o - p.at)
    e = omega (arith, d)

-- the same, as the borrow checker has what comes back of `&mut out[at..]`: q and ys are the place and the part after the call
module _ (p q : Place) (o ys bs : List ℕ) (h : p.at ≤ length o)
    (e : page q ys ≡ written (page start (take (length o - p.at) (drop p.at o))) bs) where
  pub written-lent : page (after p q) (take p.at o ++ (ys ++ drop (length o - p.at) (drop p.at o))) ≡ written (page p o) bs
  written-lent =
      let d : length (drop p.at o) ≡ length o - p.at = length-drop p.at o in
      let f : page q ys ≡ written (page start (drop p.at o)) bs = rw (← d, take-length) at e in
      rw (← d, drop-length, append-nil) (ap (λ (r : Page). page (after p r.place) (take p.at o ++ r.bytes)) f ∙ written-part p o bs h)

  -- so the sum of the two places does not wrap
  pub at-lent : p.at + q.at ≤ length o
  at-lent =
      let a : p.at + q.at ≡ (written (page p o) bs).place.at = ap (λ (r : Page). r.place.at) written-lent in
      omega (arith, at-written (page p o) bs h, length-written (page p o) bs)

-- ---------------------------------------------------------------- the bits of a part

every_take : {A : Type 0} (t : A → Bool) (n : ℕ) (xs : List A) → T (every t xs) → T (every t (take n xs))
every_take t zero xs h = tt
every_take t (suc n) [] h = tt
every_take t (suc n) (x ∷ xs) h =
    and_T (t x) (every t (take n xs)) (and_0 (t x) (every t xs) h) (every_take t n xs (and-1 (t x) (every t xs) h))

every_drop : {A : Type 0} (t : A → Bool) (n : ℕ) (xs : List A) → T (every t xs) → T (every t (drop n xs))
every_drop t zero xs h = h
every_drop t (suc n) [] h = tt
every_drop t (suc n) (x ∷ xs) h = every_drop t n xs (and-1 (t x) (every t xs) h)

-- what `constant` asks of `&bits[a..a + n]`, from what is known of all bits
pub every-part : {A : Type 0} (t : A → Bool) (xs : List A) (a n : ℕ) → T (every t xs) → T (every t (take n (drop a xs)))
every-part t xs a n h = every_take t n (drop a xs) (every_drop t a xs h)
