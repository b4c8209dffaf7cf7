-- Laws of the names between bars, and of their hashes.
use Rattle.std.specs.Prelude.{ℕ, zero, suc, ◌+◌, ◌*◌, ◌-◌, ◌%◌, ◌≤◌, ◌<◌, ◌≡◌, refl, List, [], ◌∷◌, ◌++◌, Bool, true, false, T, eqb, leb, ltb, length, take, drop, get_or, Some, None, unwrap_or}
use Rattle.std.specs.Prelude.{Option as Maybe}
use Rattle.std.proofs.Common.{drop_of_length-le, ap, sym, ◌∙◌, subst, append_assoc, arith, eqb→eq, ltb→lt, nltb→le, le-leb, length-drop, take-append-drop, drop-cons, length-take-le}
use Rattle.std.proofs.Math.Option.{Option, none}
use Rattle.std.proofs.lemmas.Bool.{eqb-false, lt-leb}
use Rattle.std.proofs.Math.Seq.{drop-length}
use Rattle.lists.specs.Bytes.{bytes}
use Rattle.lists.specs.Tests.{same, same→eq, same_refl, T→true, true→T, no→false}
use Rattle.reading.specs.Trees.{Name}
use Rattle.readback.specs.Reader.{Took, took, and_then, expect, up_to, name_read}
use Rattle.reader_laws.specs.TermsStrict.{impossible, took-both, name-strict}
use Rattle.script_tokens.specs.Reached.{between, NameTo, ends_name}
use Rattle.script_names.specs.declared.Measure.{Measure}
use Rattle.script_names.specs.declared.Table.{Table}
use Rattle.script_names.specs.Chains.{entered, entered-long, chains-more}
use Rattle.script_names.specs.Entries.{after_bar, entry_from, name_here, name_at, Named, Closed, hash_from, hash_of, hash_at, link_of, place_of, before_of, last_of, Chains, Sought, Empty, Tabled}

-- ---------------------------------------------------------------- a name and its bar

-- what follows the bytes before the first bar begins with a bar
bar-begins : (b : List ℕ) (c : ℕ) (r : List ℕ) → (up_to ends_name b).rest ≡ c ∷ r → eqb 124 c ≡ true
unfolding up_to
bar-begins [] c r e = let z : ◌≡◌ {A = ℕ} 0 1 = cc in absurd (omega arith)
bar-begins (x ∷ b) c r e = by_first (eqb x 124) refl e (λ f. bar-begins b c r f)
  where
    by_first : (t : Bool) → eqb x 124 ≡ t → (up_to ends_name (x ∷ b)).rest ≡ c ∷ r → ((up_to ends_name b).rest ≡ c ∷ r → eqb 124 c ≡ true) → eqb 124 c ≡ true
    by_first true p e rest =
        let f : x ∷ b ≡ c ∷ r = rw (p, up_to) at e in
        let g : x ≡ c = cc in
        let k : x ≡ 124 = eqb→eq x 124 (true→T p) in
        let m : c ≡ 124 = cc in
        rw m refl
    by_first false p e rest = rest (rw (p, up_to) at e)

-- a name is read, or there is no bar
read-or-open : (b : List ℕ) (o : List ℕ) → (up_to ends_name b).rest ≡ o → name_read b ≡ elim o as (λ _. Option (Took Name)) [ [] ↦ none | c ∷ r ↦ took (name_here b) r ]
unfolding name_read and_then expect bytes name_here
read-or-open b [] e = rw e
read-or-open b (c ∷ r) e = let q = bar-begins b c r e in rw (e, q, expect)

pub after_open : (b : List ℕ) → name_read b ≡ none → after_bar b ≡ []
unfolding after_bar
after_open b q = go (up_to ends_name b).rest refl
  where
    go : (o : List ℕ) → (up_to ends_name b).rest ≡ o → drop 1 (up_to ends_name b).rest ≡ []
    go [] e = rw e
    go (c ∷ r) e = absurd (impossible (sym q ∙ read-or-open b (c ∷ r) e))

pub record Taken (b : List ℕ) (n : Name) (r : List ℕ) : Type 0 where
  pub name : name_here b ≡ n
  pub after : after_bar b ≡ r
  pub whole : b ≡ n ++ (124 ∷ r)

pub taken : (b : List ℕ) (n : Name) (r : List ℕ) → name_read b ≡ took n r → Taken b n r
unfolding after_bar
taken b n r q = go (up_to ends_name b).rest refl
  where
    go : (o : List ℕ) → (up_to ends_name b).rest ≡ o → Taken b n r
    go [] e = absurd (impossible (sym (read-or-open b [] e) ∙ q))
    go (c ∷ x) e =
        let (m, k) = took-both (name_here b) n x r (sym (read-or-open b (c ∷ x) e) ∙ q) in
        record { name = m; after = rw e k; whole = name-strict b n r q }

-- the name does not depend on what follows its bar
front_same : (n r q : List ℕ) → name_here (n ++ (124 ∷ r)) ≡ n → name_here (n ++ (124 ∷ q)) ≡ n
unfolding name_here up_to
front_same [] r q e = refl
front_same (c ∷ n) r q e = by_first (eqb c 124) refl e (λ f. front_same n r q f)
  where
    by_first : (t : Bool) → eqb c 124 ≡ t → (up_to ends_name (c ∷ (n ++ (124 ∷ r)))).value ≡ c ∷ n → ((up_to ends_name (n ++ (124 ∷ r))).value ≡ n → (up_to ends_name (n ++ (124 ∷ q))).value ≡ n)
        → (up_to ends_name (c ∷ (n ++ (124 ∷ q)))).value ≡ c ∷ n
    by_first true p e rest = let f : [] ≡ c ∷ n = rw (p, up_to) at e in absurd (let z : ◌≡◌ {A = ℕ} 0 1 = cc in omega arith)
    by_first false p e rest =
        let f : c ∷ (up_to ends_name (n ++ (124 ∷ r))).value ≡ c ∷ n = rw (p, up_to) at e in
        let g : (up_to ends_name (n ++ (124 ∷ r))).value ≡ n = cc in
        rw (p, up_to) (ap (λ (x : List ℕ). c ∷ x) (rest g))

-- a name and its bar, as a beginning
front : (n r : List ℕ) → take (suc (length n)) (n ++ (124 ∷ r)) ≡ n ++ (124 ∷ [])
front [] r = refl
front (c ∷ n) r = ap (λ (x : List ℕ). c ∷ x) (front n r)

same-front : (x y n m r q : List ℕ) → Taken x n r → Taken y m q → same (take (suc (length n)) x) (take (suc (length n)) y) ≡ same n m
same-front x y n m r q tx ty = by-same (same n m) refl
  where
    by-same : (t : Bool) → same n m ≡ t → same (take (suc (length n)) x) (take (suc (length n)) y) ≡ t
    by-same true e =
        let g : n ≡ m = same→eq n m (true→T e) in
        let u : take (suc (length n)) x ≡ n ++ (124 ∷ []) = ap (take (suc (length n))) tx.whole ∙ front n r in
        let v : take (suc (length n)) y ≡ n ++ (124 ∷ []) = ap (take (suc (length n))) (ty.whole ∙ ap (λ (z : List ℕ). z ++ (124 ∷ q)) (sym g)) ∙ front n q in
        T→true (same (take (suc (length n)) x) (take (suc (length n)) y)) (rw (u, v) (same_refl (n ++ (124 ∷ []))))
    by-same false e = no→false (same (take (suc (length n)) x) (take (suc (length n)) y)) (λ h.
        (let u : take (suc (length n)) x ≡ n ++ (124 ∷ []) = ap (take (suc (length n))) tx.whole ∙ front n r in
        let v : take (suc (length n)) y ≡ n ++ (124 ∷ []) = sym (same→eq (take (suc (length n)) x) (take (suc (length n)) y) h) ∙ u in
        let d : List ℕ = drop (suc (length n)) y in
        let w : y ≡ n ++ (124 ∷ d) = sym (take-append-drop (suc (length n)) y) ∙ ap (λ (z : List ℕ). z ++ d) v ∙ append_assoc n (124 ∷ []) d in
        let k : name_here y ≡ n = ap name_here w ∙ front_same n r d (ap name_here (sym tx.whole) ∙ tx.name) in
        let g : n ≡ m = sym k ∙ ty.name in
        subst T (ap (λ (z : List ℕ). same n z) g ∙ e) (same_refl n)))

pub between-length : (s : List ℕ) (a e : ℕ) → a ≤ e → e ≤ length s → length (between s a e) ≡ e - a
between-length s a e l m = let d = length-drop a s in length-take-le (e - a) (drop a s) (omega arith)

pub name-same : (s : List ℕ) (a f p : ℕ) (y : List ℕ) → Named s a f → drop p s ≡ y → Closed y
    → same (between s a f) (take (f - a) (drop p s)) ≡ same (between s a (f - 1)) (name_here y)
name-same s a f p y h e c =
    let n : List ℕ = between s a (f - 1) in
    let l = length-take-le (f - 1 - a) (drop a s) (let d = length-drop a s in omega (arith, h.low, h.high)) in
    let z : f - a ≡ suc (length n) = omega (arith, h.low) in
    (λ i. same (take (z i) (drop a s)) (take (z i) (e i)))
    ∙ same-front (drop a s) y n (name_here y) (drop f s) c.rest (taken (drop a s) n (drop f s) h.read) (taken y (name_here y) c.rest c.read)

-- the same, of as many bytes as the name and its bar have
pub name-stands : (s : List ℕ) (a f p : ℕ) (y : List ℕ) → Named s a f → drop p s ≡ y → Closed y
    → same (between s a f) (take (length (between s a f)) (drop p s)) ≡ same (between s a (f - 1)) (name_here y)
name-stands s a f p y h e c = rw (between-length s a f (omega (arith, h.low)) h.high) (name-same s a f p y h e c)

-- ---------------------------------------------------------------- hashes

pub hash-more : (xs : List ℕ) (h i : ℕ) → i < length xs → hash_from h (drop i xs) ≡ hash_from ((h * 31 + get_or xs i 0) % 4096) (drop (i + 1) xs)
unfolding hash_from
hash-more xs h i l = let z : i + 1 ≡ suc i = omega arith in rw (z, drop-cons xs i 0 l, hash_from)

pub hash-end : (xs : List ℕ) (h i : ℕ) → length xs ≤ i → hash_from h (drop i xs) ≡ h
unfolding hash_from
hash-end xs h i l = rw (drop_of_length-le xs {i = i} l)

pub hash-whole : (n : Name) → length n ≤ 16 → hash_from 0 n ≡ hash_of n
unfolding hash_of
hash-whole n l = let z : leb (length n) 16 ≡ true = le-leb (length n) 16 l in rw (z, hash_of)

pub hash-ends : (n : Name) → 16 < length n → hash_from (hash_from 0 (take 16 n)) (drop (length n - 16) n) ≡ hash_of n
unfolding hash_of
hash-ends n l = let w : leb (length n) 16 ≡ false = lt-leb (length n) 16 l in rw (w, hash_of)

-- ---------------------------------------------------------------- chains

-- a line with another hash has another name
pub other-hash : (n m : Name) → (hash_of m ≡ hash_of n → ⊥) → same n m ≡ false
other-hash n m f = no→false (same n m) (λ h. f (ap hash_of (sym (same→eq n m h))))

-- ---------------------------------------------------------------- for the functions

pub after-place : (s : List ℕ) (at : ℕ) (r : Maybe ℕ) → NameTo s at (name_read (drop at s)) r → (unwrap_or r (length s) ≤ length s) × (drop (unwrap_or r (length s)) s ≡ after_bar (drop at s))
after-place s at None h = (omega arith, drop-length s ∙ sym (after_open (drop at s) h))
after-place s at (Some e) h = (h.1, sym (taken (drop at s) (between s at (e - 1)) (drop e s) h.2).after)

-- what holds of each number below k, and of k
pub all_more : (P : ℕ → Type 0) (k : ℕ) → ((j : ℕ) → j < k → P j) → P k → (j : ℕ) → j < k + 1 → P j
all_more P k f p j l = go (eqb j k) refl
  where
    go : (t : Bool) → eqb j k ≡ t → P j
    go true e = subst P (sym (eqb→eq j k (true→T e))) p
    go false e = let g = eqb-false j k e in f j (omega arith)

pub entry-start : (b y : List ℕ) → y ≡ after_bar b → y ≡ entry_from 0 b
unfolding entry_from
entry-start b y e = e

pub entry_next : (k : ℕ) (b x y z : List ℕ) → x ≡ entry_from k b → y ≡ after_bar x → z ≡ after_bar y → z ≡ entry_from (k + 1) b
unfolding entry_from
entry_next k b x y z e f g =
    let w : k + 1 ≡ suc k = omega arith in
    rw w (g ∙ ap after_bar (f ∙ ap after_bar e))

-- ---------------------------------------------------------------- walks along a chain

-- no line from c on has the name; and c is 0, or 1 and the number of a line with the name's hash
pub record Walked (b : List ℕ) (n : Name) (count c : ℕ) : Type 0 where
  pub past : (j : ℕ) → c ≤ j → j < count → same n (name_at b j) ≡ false
  pub own : (k : ℕ) → c ≡ suc k → (k < count) × (hash_at b k ≡ hash_of n)

pub walked-bound : {b : List ℕ} {n : Name} {count : ℕ} (c : ℕ) → Walked b n count c → c ≤ count
walked-bound zero w = omega arith
walked-bound (suc k) w = omega (arith, (w.own k refl).0)

pub walk_start : (s b : List ℕ) (t : Table) (count : ℕ) (n : Name) (h : ℕ) → Chains s b t count → h ≡ hash_of n → h < 4096 → Walked b n count (last_of t h)
walk_start s b t count n h x e l = record {
  past = λ j m q. other-hash n (name_at b j) (λ g. (let y = x.head_all j q in let z : last_of t (hash_at b j) ≡ last_of t h = ap (λ (i : ℕ). last_of t i) (g ∙ sym e) in omega arith));
  own = λ k q. (let r = x.head-own h l k q in (r.0, r.1 ∙ e));
}

pub walk-on : (s b : List ℕ) (t : Table) (count : ℕ) (n : Name) (k : ℕ) → Chains s b t count → Walked b n count (suc k) → same n (name_at b k) ≡ false → Walked b n count (before_of t k)
walk-on s b t count n k x w q =
    let o = w.own k refl in
    record {
      past = λ j m l. by_place j (ltb j k) refl (eqb j k) refl m l;
      own = λ j e. (let r = x.next_own k o.0 j e in (omega (arith, r.0, o.0), r.1 ∙ o.1));
    }
  where
    by_place : (j : ℕ) (t₁ : Bool) → ltb j k ≡ t₁ → (t₂ : Bool) → eqb j k ≡ t₂ → before_of t k ≤ j → j < count → same n (name_at b j) ≡ false
    by_place j true p t₂ r m l =
        let lower : j < k = ltb→lt j k (true→T p) in
        let o = w.own k refl in
        other-hash n (name_at b j) (λ g. (let y = x.next_all k o.0 j lower (g ∙ sym o.1) in omega arith))
    by_place j false p true r m l = subst (λ (i : ℕ). same n (name_at b i) ≡ false) (sym (eqb→eq j k (true→T r))) q
    by_place j false p false r m l =
        let upper : k ≤ j = nltb→le j k (rw p tt) in
        let apart = eqb-false j k r in
        w.past j (omega arith) l

-- a link to line k
pub walk-at : {b : List ℕ} {n : Name} {count k j : ℕ} {o : Maybe ℕ} → Walked b n count (link_of o) → o ≡ Some k → j ≡ k → Walked b n count (suc j)
walk-at {b} {n} {count} w e f = subst (λ (i : ℕ). Walked b n count (suc i)) (sym f) (subst (λ (o : Maybe ℕ). Walked b n count (link_of o)) e w)

module _ (s b : List ℕ) (t : Table) (count : ℕ) (n : Name) (k : ℕ) (x : Chains s b t count) (w : Walked b n count (suc k)) where
  pub walk_inside : k < count
  walk_inside = (w.own k refl).0

  pub walk_step : same n (name_at b k) ≡ false → Walked b n count (before_of t k)
  walk_step q = walk-on s b t count n k x w q

  pub walk-less : before_of t k < suc k
  walk-less = by_next (before_of t k) refl
    where
      by_next : (y : ℕ) → before_of t k ≡ y → y < suc k
      by_next zero e = omega arith
      by_next (suc j) e = let r = x.next_own k walk_inside j e in omega (arith, r.0)

-- the chain has ended
pub walk_end : {b : List ℕ} {n : Name} {count c : ℕ} → Walked b n count c → c ≤ 0 → (j : ℕ) → j < count → same n (name_at b j) ≡ false
walk_end w l j m = w.past j (omega arith) m

-- a line of the table whose name is compared
module _ {s : List ℕ} {first count a f : ℕ} {t : Table} (n : Named s a f) (x : Tabled s first t count) (few : count ≤ 1536) (k : ℕ) (inside : k < count) where
  pub line-same : same (between s a f) (take (length (between s a f)) (drop (place_of t k) s)) ≡ same (between s a (f - 1)) (name_at (drop first s) k)
  line-same = name-stands s a f (place_of t k) (entry_from k (drop first s)) n ((x.chains few).entry k inside) (x.closed k inside)

  pub line-found : same (between s a f) (take (length (between s a f)) (drop (place_of t k) s)) ≡ true → Sought s first count (between s a (f - 1)) (Some (record { line = k; place = place_of t k }))
  line-found e = (inside, (x.chains few).place k inside, (x.chains few).entry k inside, sym line-same ∙ e)

-- the name of a line that is entered
pub entered-name : (s : List ℕ) (a f : ℕ) (y : List ℕ) → Named s a f → drop a s ≡ y → name_here y ≡ between s a (f - 1)
entered-name s a f y h e = ap name_here (sym e) ∙ (taken (drop a s) (between s a (f - 1)) (drop f s) h.read).name

pub entered-closed : (s : List ℕ) (a f : ℕ) (y : List ℕ) → Named s a f → drop a s ≡ y → Closed y
entered-closed s a f y h e = record {
  rest = drop f s;
  read = ap name_read (sym e) ∙ h.read ∙ ap (λ (m : Name). took m (drop f s)) (sym (entered-name s a f y h e));
}

pub tabled-more : (s : List ℕ) (first : ℕ) (t : Table) (count a f h : ℕ) (m : Measure) → Tabled s first t count → Named s a f → drop a s ≡ entry_from count (drop first s)
    → count < 1536 → h ≡ hash_of (between s a (f - 1)) → Tabled s first (entered t count a h m) (count + 1)
tabled-more s first t count a f h m x n e room q =
    let y : List ℕ = entry_from count (drop first s) in
    let g : h ≡ hash_at (drop first s) count = q ∙ ap hash_of (sym (entered-name s a f y n e)) in
    record {
      long = entered-long t count a h m x.long;
      closed = all_more (λ k. Closed (entry_from k (drop first s))) count x.closed (entered-closed s a f y n e);
      chains = λ l. subst (λ (i : ℕ). Chains s (drop first s) (entered t count a i m) (count + 1)) (sym g)
          (chains-more s (drop first s) t count a m room x.long (x.chains (omega arith)) (omega (arith, n.low, n.high)) e);
    }

-- past the table's room
pub tabled-past : (s : List ℕ) (first : ℕ) (t : Table) (count a f : ℕ) → Tabled s first t count → Named s a f → drop a s ≡ entry_from count (drop first s)
    → 1536 ≤ count → Tabled s first t (count + 1)
tabled-past s first t count a f x n e l = record {
  long = x.long;
  closed = all_more (λ k. Closed (entry_from k (drop first s))) count x.closed (entered-closed s a f (entry_from count (drop first s)) n e);
  chains = λ m. absurd (omega arith);
}

-- the table before any line
pub tabled_start : (s : List ℕ) (first : ℕ) (t : Table) → Empty t → Tabled s first t 0
tabled_start s first t z = record {
  long = z.long;
  closed = λ k m. absurd (omega arith);
  chains = λ m. record {
    place = λ k q. absurd (omega arith);
    entry = λ k q. absurd (omega arith);
    head_all = λ k q. absurd (omega arith);
    head-own = λ h q k e. absurd (let y : 0 ≡ suc k = sym (z.zeros h q) ∙ e in omega arith);
    next_all = λ k q. absurd (omega arith);
    next_own = λ k q. absurd (omega arith);
  };
}
