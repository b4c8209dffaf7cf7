-- Laws of stretches: bytes read one by one up to the first that ends them.
use Rattle.std.specs.Prelude.{ℕ, suc, ◌+◌, ◌-◌, ◌≤◌, ◌<◌, ◌≡◌, refl, List, [], ◌∷◌, ◌++◌, Bool, true, false, T, eqb, length, take, drop, get_or, Some}
use Rattle.std.proofs.Common.{ap, sym, ◌∙◌, subst, arith, eqb→eq, ne_eqb, length-append, length-drop, drop_of_length-le, drop-cons}
use Rattle.std.proofs.Math.Dec.{eqb_refl}
use Rattle.std.proofs.Math.Option.{none}
use Rattle.std.proofs.Math.Seq.{take-append_seam}
use Rattle.lists.specs.Tests.{true→T, T→true}
use Rattle.readback.specs.Reader.{Took, took, and_then, expect, up_to, name_read}
use Rattle.lists.specs.Bytes.{bytes}
use Rattle.reader_laws.specs.TermsStrict.{up-to-joins}
use Rattle.script_tokens.specs.Reached.{between, NameTo, Stretch, ends_name}

-- ---------------------------------------------------------------- bytes by their places

pub bytes-at : (s : List ℕ) (i : ℕ) → i < length s → drop i s ≡ get_or s i 0 ∷ drop (i + 1) s
bytes-at s i h =
    let z : i + 1 ≡ suc i = omega arith in
    rw z (drop-cons s i 0 h)

-- what stands before a later place of the same bytes
pub front-is : (v s : List ℕ) (a e : ℕ) → a ≤ e → e ≤ length s → v ++ drop e s ≡ drop a s → v ≡ between s a e
front-is v s a e l h q =
    let n : length v + length (drop e s) ≡ length (drop a s) = sym (length-append v (drop e s)) ∙ ap length q in
    let x = length-drop e s in
    let y = length-drop a s in
    let z : e - a ≡ length v = omega arith in
    sym (ap (λ (k : ℕ). take k (drop a s)) z ∙ ap (take (length v)) (sym q) ∙ take-append_seam v (drop e s))

-- ---------------------------------------------------------------- a stretch, byte by byte

-- nothing before place e ends it
pub record Runs (ends : ℕ → Bool) (s : List ℕ) (a e : ℕ) : Type 0 where
  pub rest : (up_to ends (drop a s)).rest ≡ (up_to ends (drop e s)).rest

pub runs-start : {ends : ℕ → Bool} {s : List ℕ} {a : ℕ} → Runs ends s a a
runs-start = record { rest = refl }

pub runs_on : {ends : ℕ → Bool} {s : List ℕ} {a e : ℕ} → Runs ends s a e → e < length s → ends (get_or s e 0) ≡ false → Runs ends s a (e + 1)
unfolding up_to
runs_on {ends} {s} {a} {e} r h q = record { rest = r.rest ∙ ap (λ (b : List ℕ). (up_to ends b).rest) (bytes-at s e h) ∙ rw (q, up_to) }

-- and then on from there
pub runs-join : {ends : ℕ → Bool} {s : List ℕ} {a b c : ℕ} → Runs ends s a b → Runs ends s b c → Runs ends s a c
runs-join r q = record { rest = r.rest ∙ q.rest }

pub runs-at : {ends : ℕ → Bool} {s : List ℕ} {a e f : ℕ} → Runs ends s a e → e ≡ f → Runs ends s a f
runs-at {ends} {s} {a} r q = subst (λ (k : ℕ). Runs ends s a k) q r

-- a place that is reached
pub record Within (ends : ℕ → Bool) (s : List ℕ) (a e : ℕ) : Type 0 where
  pub low : a ≤ e
  pub high : e ≤ length s
  pub runs : Runs ends s a e

stretch : (ends : ℕ → Bool) (s : List ℕ) (a e : ℕ) → a ≤ e → e ≤ length s → Runs ends s a e → (up_to ends (drop e s)).rest ≡ drop e s → Stretch ends s a e
stretch ends s a e l h r q =
    let z : (up_to ends (drop a s)).rest ≡ drop e s = r.rest ∙ q in
    let v : (up_to ends (drop a s)).value ≡ between s a e = front-is (up_to ends (drop a s)).value s a e l h (ap (λ (x : List ℕ). (up_to ends (drop a s)).value ++ x) (sym z) ∙ up-to-joins ends (drop a s)) in
    record { low = l; high = h; read = λ i. record { value = v i; rest = z i } }

pub stretch-ends : {ends : ℕ → Bool} {s : List ℕ} {a e : ℕ} → Runs ends s a e → a ≤ e → e < length s → ends (get_or s e 0) ≡ true → Stretch ends s a e
unfolding up_to
stretch-ends {ends} {s} {a} {e} r l h q =
    stretch ends s a e l (omega arith) r (ap (λ (b : List ℕ). (up_to ends b).rest) (bytes-at s e h) ∙ rw (q, up_to) (sym (bytes-at s e h)))

pub stretch-whole : {ends : ℕ → Bool} {s : List ℕ} {a e : ℕ} → Runs ends s a e → a ≤ e → e ≡ length s → Stretch ends s a e
unfolding up_to
stretch-whole {ends} {s} {a} {e} r l h =
    let z : drop e s ≡ [] = drop_of_length-le s {i = e} (omega arith) in
    stretch ends s a e l (omega arith) r (ap (λ (b : List ℕ). (up_to ends b).rest) z ∙ sym z)

-- one byte more
pub within_on : {ends : ℕ → Bool} {s : List ℕ} {a e : ℕ} → Within ends s a e → e < length s → ends (get_or s e 0) ≡ false → Within ends s a (e + 1)
within_on w h q = record { low = omega (arith, w.low); high = omega arith; runs = runs_on w.runs h q }

pub within-ends : {ends : ℕ → Bool} {s : List ℕ} {a e : ℕ} → Within ends s a e → e < length s → ends (get_or s e 0) ≡ true → Stretch ends s a e
within-ends w h q = stretch-ends w.runs w.low h q

pub within-whole : {ends : ℕ → Bool} {s : List ℕ} {a e : ℕ} → Within ends s a e → length s ≤ e → Stretch ends s a (length s)
within-whole {ends} {s} {a} {e} w h =
    let z : e ≡ length s = omega (arith, w.high) in
    subst (Stretch ends s a) z (stretch-whole w.runs w.low z)

-- what follows a stretch begins with what ends it
rest-ends : (ends : ℕ → Bool) (b : List ℕ) (c : ℕ) (r : List ℕ) → (up_to ends b).rest ≡ c ∷ r → ends c ≡ false → ⊥
unfolding up_to
rest-ends ends [] c r e q = let z : ◌≡◌ {A = ℕ} 0 1 = cc in omega arith
rest-ends ends (x ∷ b) c r e q = by_first (ends x) refl e (λ f. rest-ends ends b c r f q)
  where
    by_first : (t : Bool) → ends x ≡ t → (up_to ends (x ∷ b)).rest ≡ c ∷ r → ((up_to ends b).rest ≡ c ∷ r → ⊥) → ⊥
    by_first true p e rest =
        let f : x ∷ b ≡ c ∷ r = rw (p, up_to) at e in
        let g : x ≡ c = cc in
        subst T (sym p ∙ ap ends g ∙ q) tt
    by_first false p e rest = rest (rw (p, up_to) at e)

-- ---------------------------------------------------------------- words

-- a word that is longer than what is left does not stand there
pub expect-short : (w b : List ℕ) → length b < length w → expect w b ≡ none
unfolding expect
expect-short [] b h = absurd (omega (arith, h))
expect-short (c ∷ w) [] h = refl
expect-short (c ∷ w) (x ∷ b) h = by_first (eqb c x) refl (expect-short w b (omega (arith, h)))
  where
    by_first : (t : Bool) → eqb c x ≡ t → expect w b ≡ none → expect (c ∷ w) (x ∷ b) ≡ none
    by_first true q e = rw (q, expect) e
    by_first false q e = rw (q, expect) refl

-- no word, which stands anywhere
pub expect-empty : (b : List ℕ) → expect [] b ≡ took [] b
unfolding expect
expect-empty b = refl

by-same : (c x : ℕ) (w b : List ℕ) → eqb c x ≡ true → expect (c ∷ w) (x ∷ b) ≡ expect w b
unfolding expect
by-same c x w b h = rw (h, expect) refl

by-other : (c x : ℕ) (w b : List ℕ) → eqb c x ≡ false → expect (c ∷ w) (x ∷ b) ≡ none
unfolding expect
by-other c x w b h = rw (h, expect) refl

-- a word goes on with the byte that stands there
pub expect-on : (w s : List ℕ) (at k : ℕ) → k < length w → at + k < length s → get_or s (at + k) 0 ≡ get_or w k 0 → expect (drop k w) (drop (at + k) s) ≡ expect (drop (k + 1) w) (drop (at + (k + 1)) s)
expect-on w s at k l m h =
    let z : at + (k + 1) ≡ at + k + 1 = omega arith in
    let c = get_or w k 0 in
    let e : eqb c (get_or s (at + k) 0) ≡ true = ap (eqb c) h ∙ T→true (eqb c c) (eqb_refl c) in
    rw (bytes-at w k l, bytes-at s (at + k) m, z) (by-same c (get_or s (at + k) 0) (drop (k + 1) w) (drop (at + k + 1) s) e)

-- or with another
pub expect-off : (w s : List ℕ) (at k : ℕ) → k < length w → at + k < length s → (get_or s (at + k) 0 ≡ get_or w k 0 → ⊥) → expect (drop k w) (drop (at + k) s) ≡ none
expect-off w s at k l m h =
    let c = get_or w k 0 in
    rw (bytes-at w k l, bytes-at s (at + k) m) (by-other c (get_or s (at + k) 0) (drop (k + 1) w) (drop (at + k + 1) s) (ne_eqb c (get_or s (at + k) 0) (λ q. h (sym q))))

-- ---------------------------------------------------------------- names

-- where a name's stretch ends before the end there is a bar
bar-there : (s : List ℕ) (a e : ℕ) → Stretch ends_name s a e → e < length s → get_or s e 0 ≡ 124
unfolding up_to
bar-there s a e st h = by_byte (eqb (get_or s e 0) 124) refl
  where
    ended : (up_to ends_name (drop a s)).rest ≡ drop e s
    ended = ap (λ (t : Took (List ℕ)). t.rest) st.read

    by_byte : (t : Bool) → eqb (get_or s e 0) 124 ≡ t → get_or s e 0 ≡ 124
    by_byte true q = eqb→eq (get_or s e 0) 124 (true→T q)
    by_byte false q = absurd (rest-ends ends_name (drop a s) (get_or s e 0) (drop (e + 1) s) (ended ∙ bytes-at s e h) q)

pub name-found : (s : List ℕ) (a e : ℕ) → Stretch ends_name s a e → e < length s → NameTo s a (name_read (drop a s)) (Some (e + 1))
unfolding name_read and_then expect bytes
name-found s a e st h =
    let q = bar-there s a e st h in
    let z : e + 1 - 1 ≡ e = omega arith in
    let l = st.low in
    (omega arith, omega arith, rw (st.read, bytes-at s e h, q, z))

pub name-open : (s : List ℕ) (a e : ℕ) → Stretch ends_name s a e → e ≡ length s → name_read (drop a s) ≡ none
unfolding name_read and_then expect bytes
name-open s a e st h =
    let z : drop e s ≡ [] = drop_of_length-le s {i = e} (omega arith) in
    rw (st.read, z)
