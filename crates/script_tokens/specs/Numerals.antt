-- Laws of numerals: digits read one by one are the decimal of their number, as long as none of them is a leading zero.
use Rattle.std.specs.Prelude.{ℕ, zero, suc, ◌+◌, ◌*◌, ◌-◌, ◌/◌, ◌%◌, ◌≤◌, ◌<◌, ◌≡◌, refl, List, [], ◌∷◌, ◌++◌, Bool, true, false, not, cond, T, ltb, length, take, drop, get_or}
use Rattle.std.proofs.Common.{ap, sym, ◌∙◌, subst, append_assoc, arith, ltb→lt, lt→ltb, leb→le, le→leb, nltb→le, length-append, take-append-drop, drop_of_length-le, drop-drop}
use Rattle.std.proofs.Math.Option.{Option, none, some}
use Rattle.std.proofs.Math.Dec.{nleb→lt}
use Rattle.std.proofs.Math.Seq.{take-append_seam}
use Rattle.lists.specs.Tests.{same, T→true, true→T, no→false, same→eq, same_refl}
use Rattle.smtlib.specs.Lexicon.{digit, value_from, NoLeadingZero}
use Rattle.echo_spec.specs.Input.{largest, fits64}
use Rattle.echo_spec.specs.Render.{decimal_digits, decimal}
use Rattle.theorems.specs.Texts.{decimal-numeral}
use Rattle.readback.specs.Reader.{Took, took, and_then, up_to, numeral_is, numeral_from, read_numeral}
use Rattle.reader_laws.specs.TermsStrict.{up-to-joins}
use Rattle.script_tokens.specs.Reached.{between, Stretch, numeral64}
use Rattle.script_tokens.specs.Bytes.{digit-bounds}
use Rattle.script_tokens.specs.Stretches.{bytes-at, front-is, Runs, runs-start, runs_on, stretch-ends, stretch-whole}

-- ---------------------------------------------------------------- decimals

-- fuel past the number is idle
digits-fuel : (f g n : ℕ) → n < f → n < g → decimal_digits f n ≡ decimal_digits g n
unfolding decimal_digits
digits-fuel zero g n h k = absurd (omega arith)
digits-fuel (suc f) zero n h k = absurd (omega arith)
digits-fuel (suc f) (suc g) n h k = by_size (ltb n 10) refl (λ l. digits-fuel f g (n / 10) (omega arith) (omega arith))
  where
    by_size : (t : Bool) → ltb n 10 ≡ t → (10 ≤ n → decimal_digits f (n / 10) ≡ decimal_digits g (n / 10)) → decimal_digits (suc f) n ≡ decimal_digits (suc g) n
    by_size true q rest = rw (q, decimal_digits)
    by_size false q rest = rw (q, decimal_digits) (ap (λ (ds : List ℕ). ds ++ ((48 + n % 10) ∷ [])) (rest (nltb→le n 10 (rw q tt))))

pub decimal-one : (d : ℕ) → d < 10 → decimal d ≡ (48 + d) ∷ []
unfolding decimal decimal_digits
decimal-one d h = rw (T→true (ltb d 10) (lt→ltb d 10 h), decimal_digits)

pub decimal-more : (v d : ℕ) → 0 < v → d < 10 → decimal (v * 10 + d) ≡ decimal v ++ ((48 + d) ∷ [])
unfolding decimal decimal_digits
decimal-more v d p h =
    let n : ℕ = v * 10 + d in
    let q : ltb n 10 ≡ false = no→false (ltb n 10) (λ t. let l = ltb→lt n 10 t in omega arith) in
    let a : n / 10 ≡ v = omega arith in
    let b : n % 10 ≡ d = omega arith in
    let e : decimal_digits n (n / 10) ≡ decimal_digits (suc v) v = ap (decimal_digits n) a ∙ digits-fuel n (suc v) v (omega arith) (omega arith) in
    rw (q, decimal_digits) (λ i. e i ++ ((48 + b i) ∷ []))

-- ---------------------------------------------------------------- digits so far

-- the digits from place a up to place e are the decimal of v, which is above 0
pub record Digits (s : List ℕ) (a e v : ℕ) : Type 0 where
  pub low : a ≤ e
  pub high : e ≤ length s
  pub positive : 0 < v
  pub runs : Runs (λ c. not (digit c)) s a e
  pub text : between s a e ≡ decimal v

-- bytes up to a place and those from it on
parts : (s : List ℕ) (a e : ℕ) → a ≤ e → e ≤ length s → between s a e ++ drop e s ≡ drop a s
parts s a e l h =
    let z : e ≡ a + (e - a) = omega arith in
    let d : drop (e - a) (drop a s) ≡ drop e s = drop-drop (e - a) a s ∙ ap (λ (k : ℕ). drop k s) (sym z) in
    ap (λ (x : List ℕ). between s a e ++ x) (sym d) ∙ take-append-drop (e - a) (drop a s)

-- one byte more
between_more : (s : List ℕ) (a e : ℕ) → a ≤ e → e < length s → between s a (e + 1) ≡ between s a e ++ (get_or s e 0 ∷ [])
between_more s a e l h =
    let v : List ℕ = between s a e ++ (get_or s e 0 ∷ []) in
    let q : v ++ drop (e + 1) s ≡ drop a s =
    append_assoc (between s a e) (get_or s e 0 ∷ []) (drop (e + 1) s) ∙ ap (λ (x : List ℕ). between s a e ++ x) (sym (bytes-at s e h)) ∙ parts s a e l (omega arith) in
    sym (front-is v s a (e + 1) (omega arith) (omega arith) q)

first_byte : (s : List ℕ) (a : ℕ) → a < length s → between s a (a + 1) ≡ get_or s a 0 ∷ []
first_byte s a h =
    let y : a - a ≡ 0 = omega arith in
    let z : between s a a ≡ [] = rw y in
    between_more s a a (omega arith) h ∙ ap (λ (x : List ℕ). x ++ (get_or s a 0 ∷ [])) z

digit-runs : (c : ℕ) → T (digit c) → not (digit c) ≡ false
digit-runs c h = rw (T→true (digit c) h) refl

above : (v : ℕ) → (v ≡ 0 → ⊥) → 0 < v
above zero f = absurd (f refl)
above (suc v) f = omega arith

pub digits-first : {s : List ℕ} {a v : ℕ} → a < length s → T (digit (get_or s a 0)) → get_or s a 0 ≡ 48 + v → v < 10 → (get_or s a 0 ≡ 48 → ⊥) → Digits s a (a + 1) v
digits-first {s} {a} {v} h t e k z = record {
  low = omega arith;
  high = omega arith;
  positive = above v (λ q. z (e ∙ ap (λ (n : ℕ). 48 + n) q));
  runs = runs_on runs-start h (digit-runs (get_or s a 0) t);
  text = first_byte s a h ∙ ap (λ (c : ℕ). c ∷ []) e ∙ sym (decimal-one v k);
}

pub digits_more : {s : List ℕ} {a e v d : ℕ} → Digits s a e v → e < length s → T (digit (get_or s e 0)) → get_or s e 0 ≡ 48 + d → d < 10 → Digits s a (e + 1) (v * 10 + d)
digits_more {s} {a} {e} {v} {d} g h t q k = record {
  low = omega (arith, g.low);
  high = omega arith;
  positive = omega (arith, g.positive);
  runs = runs_on g.runs h (digit-runs (get_or s e 0) t);
  text = between_more s a e g.low h ∙ (λ i. g.text i ++ (q i ∷ [])) ∙ sym (decimal-more v d g.positive k);
}

-- ---------------------------------------------------------------- the numeral

read_whole : (s : List ℕ) (a e v : ℕ) → Stretch (λ c. not (digit c)) s a e → between s a e ≡ decimal v → read_numeral (drop a s) ≡ took v (drop e s)
unfolding read_numeral numeral_from numeral_is
read_whole s a e v st t =
    let n = decimal-numeral v in
    let r : up_to (λ c. not (digit c)) (drop a s) ≡ record { value = decimal v; rest = drop e s } = st.read ∙ ap (λ (x : List ℕ). record { value = x; rest = drop e s }) t in
    let y : same (decimal v) (decimal v) ≡ true = T→true (same (decimal v) (decimal v)) (same_refl (decimal v)) in
    ap numeral_from r ∙ rw (n.value, y)

fitted : (b : List ℕ) (v : ℕ) (r : List ℕ) → read_numeral b ≡ took v r → T (fits64 v) → numeral64 b ≡ took v r
unfolding numeral64 and_then
fitted b v r e h = rw (e, T→true (fits64 v) h)

pub digits-end : {s : List ℕ} {a e v : ℕ} → Digits s a e v → v ≤ largest → e < length s → digit (get_or s e 0) ≡ false → numeral64 (drop a s) ≡ took v (drop e s)
digits-end {s} {a} {e} {v} g m h q =
    fitted (drop a s) v (drop e s) (read_whole s a e v (stretch-ends g.runs g.low h (rw q refl)) g.text) (le→leb v largest m)

pub digits-whole : {s : List ℕ} {a e v : ℕ} → Digits s a e v → v ≤ largest → e ≡ length s → numeral64 (drop a s) ≡ took v (drop e s)
digits-whole {s} {a} {e} {v} g m h =
    fitted (drop a s) v (drop e s) (read_whole s a e v (stretch-whole g.runs g.low h) g.text) (le→leb v largest m)

-- ---------------------------------------------------------------- what is no numeral of 64 bits

value_grows : (n : ℕ) (ds : List ℕ) → n ≤ value_from n ds
unfolding value_from
value_grows n [] = omega arith
value_grows n (d ∷ ds) = let h = value_grows (n * 10 + (d - 48)) ds in omega arith

value-append : (n : ℕ) (xs ys : List ℕ) → value_from n (xs ++ ys) ≡ value_from (value_from n xs) ys
unfolding value_from
value-append n [] ys = refl
value-append n (x ∷ xs) ys = value-append (n * 10 + (x - 48)) xs ys

-- a numeral that is read is the decimal of its number
read-value : (b : List ℕ) (k : ℕ) (r : List ℕ) → read_numeral b ≡ took k r → (k ≡ value_from 0 (up_to (λ c. not (digit c)) b).value) × ((up_to (λ c. not (digit c)) b).value ≡ decimal k)
unfolding read_numeral numeral_from numeral_is
read-value b k r e = by-same (same ds (decimal (value_from 0 ds))) refl e
  where
    ds : List ℕ
    ds = (up_to (λ c. not (digit c)) b).value

    by-same : (t : Bool) → same ds (decimal (value_from 0 ds)) ≡ t → numeral_is (value_from 0 ds) t (up_to (λ c. not (digit c)) b).rest ≡ took k r → (k ≡ value_from 0 ds) × (ds ≡ decimal k)
    by-same true q e =
        let v : value_from 0 ds ≡ k = ap (λ (o : Option (Took ℕ)). elim o as (λ _. ℕ) [ none ↦ 0 | some t ↦ t.value ]) e in
        (sym v, same→eq ds (decimal (value_from 0 ds)) (true→T q) ∙ ap decimal v)
    by-same false q e = absurd (let z : ◌≡◌ {A = ℕ} 0 1 = cc in omega arith)

none-fits : (b : List ℕ) → ((k : ℕ) (r : List ℕ) → read_numeral b ≡ took k r → largest < k) → numeral64 b ≡ none
unfolding numeral64 and_then
none-fits b f = by_read (read_numeral b) refl
  where
    by_read : (o : Option (Took ℕ)) → read_numeral b ≡ o → and_then o (λ k r. cond (fits64 k) (took k r) none) ≡ none
    by_read none e = refl
    by_read (some t) e =
        let l = f t.value t.rest e in
        rw (no→false (fits64 t.value) (λ q. let m = leb→le t.value largest q in omega arith))

cancel : (x y z : List ℕ) → x ++ z ≡ y ++ z → x ≡ y
cancel x y z e =
    let a = length-append x z in
    let b = length-append y z in
    let c : length (x ++ z) ≡ length (y ++ z) = ap length e in
    let l : length x ≡ length y = omega arith in
    sym (take-append_seam x z) ∙ (λ i. take (l i) (e i)) ∙ take-append_seam y z

-- the digits from a place on begin with those up to a later one
digits-begin : (s : List ℕ) (a e : ℕ) → a ≤ e → e ≤ length s → Runs (λ c. not (digit c)) s a e
    → (up_to (λ c. not (digit c)) (drop a s)).value ≡ between s a e ++ (up_to (λ c. not (digit c)) (drop e s)).value
digits-begin s a e l h r =
    let p : (ℕ → Bool) = λ c. not (digit c) in
    let z : List ℕ = (up_to p (drop e s)).rest in
    cancel (up_to p (drop a s)).value (between s a e ++ (up_to p (drop e s)).value) z
    (ap (λ (x : List ℕ). (up_to p (drop a s)).value ++ x) (sym r.rest) ∙ up-to-joins p (drop a s) ∙ sym (parts s a e l h)
    ∙ ap (λ (x : List ℕ). between s a e ++ x) (sym (up-to-joins p (drop e s))) ∙ sym (append_assoc (between s a e) (up_to p (drop e s)).value z))

pub digits-over : {s : List ℕ} {a e v d : ℕ} → Digits s a e v → e < length s → T (digit (get_or s e 0)) → get_or s e 0 ≡ 48 + d → d < 10 → fits64 (v * 10 + d) ≡ false → numeral64 (drop a s) ≡ none
digits-over {s} {a} {e} {v} {d} g h t q k f =
    let m = digits_more g h t q k in
    none-fits (drop a s) (λ n r x.
    (let ys : List ℕ = (up_to (λ c. not (digit c)) (drop (e + 1) s)).value in
    let w : (up_to (λ c. not (digit c)) (drop a s)).value ≡ decimal (v * 10 + d) ++ ys = digits-begin s a (e + 1) m.low m.high m.runs ∙ ap (λ (x : List ℕ). x ++ ys) m.text in
    let u : n ≡ value_from (v * 10 + d) ys = (read-value (drop a s) n r x).0 ∙ ap (value_from 0) w ∙ value-append 0 (decimal (v * 10 + d)) ys ∙ ap (λ (k : ℕ). value_from k ys) (decimal-numeral (v * 10 + d)).value in
    let y = value_grows (v * 10 + d) ys in
    let b = nleb→lt (v * 10 + d) largest (rw f tt) in
    omega arith))

pub digit-inside : (s : List ℕ) (a : ℕ) → T (digit (get_or s a 0)) → a < length s
digit-inside [] a h = absurd h
digit-inside (x ∷ s) zero h = omega arith
digit-inside (x ∷ s) (suc a) h = let l = digit-inside s a h in omega arith

-- no digit, no numeral
pub digits-none : (s : List ℕ) (a : ℕ) → a ≤ length s → digit (get_or s a 0) ≡ false → numeral64 (drop a s) ≡ none
unfolding up_to
digits-none s a h q = none-fits (drop a s) (λ k r e. absurd (by-inside (ltb a (length s)) refl k r e))
  where
    empty : (up_to (λ c. not (digit c)) (drop a s)).value ≡ [] → (k : ℕ) (r : List ℕ) → read_numeral (drop a s) ≡ took k r → ⊥
    empty z k r e = subst NoLeadingZero (sym (read-value (drop a s) k r e).1 ∙ z) (decimal-numeral k).leading

    by-inside : (t : Bool) → ltb a (length s) ≡ t → (k : ℕ) (r : List ℕ) → read_numeral (drop a s) ≡ took k r → ⊥
    by-inside true p k r e =
        let l = ltb→lt a (length s) (true→T p) in
        empty (ap (λ (b : List ℕ). (up_to (λ c. not (digit c)) b).value) (bytes-at s a l) ∙ rw (q, up_to)) k r e
    by-inside false p k r e =
        let z : drop a s ≡ [] = drop_of_length-le s {i = a} (nltb→le a (length s) (rw p tt)) in
        empty (ap (λ (b : List ℕ). (up_to (λ c. not (digit c)) b).value) z) k r e

-- one digit more, and too many
pub digits_on : {s : List ℕ} {a e v d n : ℕ} → Digits s a e v → e < length s → digit (get_or s e 0) ≡ true → d ≡ get_or s e 0 - 48 → n ≡ v * 10 + d → Digits s a (e + 1) n
digits_on {s} {a} {e} {v} {d} {n} g h q k z =
    let b = digit-bounds (get_or s e 0) (true→T q) in
    subst (Digits s a (e + 1)) (sym z) (digits_more g h (true→T q) (omega arith) (omega arith))

pub digits-past : {s : List ℕ} {a e v d : ℕ} → Digits s a e v → e < length s → digit (get_or s e 0) ≡ true → d ≡ get_or s e 0 - 48 → largest < v * 10 + d → numeral64 (drop a s) ≡ none
digits-past {s} {a} {e} {v} {d} g h q k l =
    let b = digit-bounds (get_or s e 0) (true→T q) in
    digits-over g h (true→T q) (omega arith) (omega arith) (no→false (fits64 (v * 10 + d)) (λ p. let m = leb→le (v * 10 + d) largest p in omega arith))

-- the digits go on to the end
pub digits-all : {s : List ℕ} {a e v : ℕ} → Digits s a e v → v ≤ largest → length s ≤ e → numeral64 (drop a s) ≡ took v (drop (length s) s)
digits-all {s} {a} {e} {v} g m h =
    let z : e ≡ length s = omega (arith, g.high) in
    subst (λ (k : ℕ). numeral64 (drop a s) ≡ took v (drop k s)) z (digits-whole g m z)

-- the first digit, no zero
pub digits-begun : {s : List ℕ} {a v : ℕ} → digit (get_or s a 0) ≡ true → (get_or s a 0 ≡ 48 → ⊥) → v ≡ get_or s a 0 - 48 → Digits s a (a + 1) v
digits-begun {s} {a} {v} q z k =
    let b = digit-bounds (get_or s a 0) (true→T q) in
    digits-first (digit-inside s a (true→T q)) (true→T q) (omega arith) (omega arith) z

-- a zero that stands alone
pub zero-alone : (s : List ℕ) (a : ℕ) → a < length s → get_or s a 0 ≡ 48 → digit (get_or s (a + 1) 0) ≡ false → numeral64 (drop a s) ≡ took 0 (drop (a + 1) s)
zero-alone s a h e q = fitted (drop a s) 0 (drop (a + 1) s) (read_whole s a (a + 1) 0 (by-inside (ltb (a + 1) (length s)) refl) text) tt
  where
    runs : Runs (λ c. not (digit c)) s a (a + 1)
    runs = runs_on runs-start h (digit-runs (get_or s a 0) (rw e tt))

    text : between s a (a + 1) ≡ decimal 0
    text = first_byte s a h ∙ ap (λ (c : ℕ). c ∷ []) e ∙ sym (decimal-one 0 (omega arith))

    by-inside : (t : Bool) → ltb (a + 1) (length s) ≡ t → Stretch (λ c. not (digit c)) s a (a + 1)
    by-inside true p = stretch-ends runs (omega arith) (ltb→lt (a + 1) (length s) (true→T p)) (rw q refl)
    by-inside false p = stretch-whole runs (omega arith) (omega (arith, nltb→le (a + 1) (length s) (rw p tt)))

-- a zero before another digit
pub zero-leads : (s : List ℕ) (a : ℕ) → a < length s → get_or s a 0 ≡ 48 → T (digit (get_or s (a + 1) 0)) → numeral64 (drop a s) ≡ none
zero-leads s a h e t =
    let l = digit-inside s (a + 1) t in
    let r : Runs (λ c. not (digit c)) s a (a + 1 + 1) = runs_on (runs_on runs-start h (digit-runs (get_or s a 0) (rw e tt))) l (digit-runs (get_or s (a + 1) 0) t) in
    let ys : List ℕ = (up_to (λ c. not (digit c)) (drop (a + 1 + 1) s)).value in
    let w : (up_to (λ c. not (digit c)) (drop a s)).value ≡ 48 ∷ get_or s (a + 1) 0 ∷ ys =
    digits-begin s a (a + 1 + 1) (omega arith) (omega arith) r
    ∙ ap (λ (x : List ℕ). x ++ ys) (between_more s a (a + 1) (omega arith) l ∙ ap (λ (x : List ℕ). x ++ (get_or s (a + 1) 0 ∷ [])) (first_byte s a h ∙ ap (λ (c : ℕ). c ∷ []) e)) in
    none-fits (drop a s) (λ k r x. absurd (subst NoLeadingZero (sym (read-value (drop a s) k r x).1 ∙ w) (decimal-numeral k).leading))
