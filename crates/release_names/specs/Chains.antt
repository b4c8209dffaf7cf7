-- The table keeps what is asked of it where a name is entered, and a walk along the entries of a hash.
use Rattle.std.specs.Prelude.{ℕ, zero, suc, ◌+◌, ◌-◌, ◌*◌, ◌/◌, ◌%◌, ◌≤◌, ◌<◌, ◌≡◌, refl, List, [], ◌∷◌, ◌++◌, Bool, true, false, ◌&&◌, eqb, ltb, length, take, drop, get_or, set}
use Rattle.std.proofs.Common.{ap, sym, ◌∙◌, subst, arith, eqb→eq, ltb→lt, nltb→le, eq-eqb, ne_eqb, length-set, length-append, get_or-set_same, get_or-set_other}
use Rattle.std.proofs.lemmas.Bool.{eqb-false}
use Rattle.std.proofs.Math.ListN.{get_or-append}
use Rattle.std.proofs.Math.Seq.{get_or-append_seam}
use Rattle.lists.specs.Tests.{same, same→eq, no→false, true→T}
use Rattle.reading.specs.Trees.{Name}
use Rattle.reader_laws.specs.TermsRead.{read_name}
use Rattle.script_tokens.specs.Reached.{between}
use Rattle.script_names.specs.Entries.{name_here, Named}
use Rattle.script_names.specs.Laws.{taken, name-stands}
use Rattle.releases.specs.Release.{Declared}
use Rattle.release_lines.specs.Lines.{meaning_text, LineAt}
use Rattle.release_names.specs.Marks.{chain_of, tag_of}
use Rattle.std.specs.Prelude.{Some, None}
use Rattle.release_names.specs.Table.{entry, name_in, Table, Sought}

-- two numbers are equal or not
pub by_equal : {P : Type 0} (k c : ℕ) → (k ≡ c → P) → ((k ≡ c → ⊥) → P) → P
by_equal {P} k c f g = go (eqb k c) refl
  where
    go : (t : Bool) → eqb k c ≡ t → P
    go true e = f (eqb→eq k c (true→T e))
    go false e = g (eqb-false k c e)

-- a name in another chain, or with another tag, is another name
other-chain : (m n : Name) → (chain_of n ≡ chain_of m → ⊥) → same m n ≡ false
other-chain m n f = no→false (same m n) (λ h. f (ap chain_of (sym (same→eq m n h))))

other_tag : (m n : Name) → (tag_of n ≡ tag_of m → ⊥) → same m n ≡ false
other_tag m n f = no→false (same m n) (λ h. f (ap tag_of (sym (same→eq m n h))))

-- ---------------------------------------------------------------- one entry more

pub entry_old : (xs : List Declared) (x : Declared) (k : ℕ) → k < length xs → entry (xs ++ (x ∷ [])) k ≡ entry xs k
entry_old xs x k l = get_or-append xs (x ∷ []) _ k l

pub entry_new : (xs : List Declared) (x : Declared) → entry (xs ++ (x ∷ [])) (length xs) ≡ x
entry_new xs x = get_or-append_seam xs x [] _

module _ (s p n h : List ℕ) (xs : List Declared) (x : Declared) (a i : ℕ) (t : Table s p n h xs) (room : length xs < 98304) (here : LineAt s a x) (hash : i ≡ chain_of x.name) where
  -- what the entry leads to, with its tag
  abbrev link : ℕ
  link = tag_of x.name * 131072 + get_or h i 0

  abbrev c : ℕ
  c = length xs

  abbrev ys : List Declared
  ys = xs ++ (x ∷ [])

  long : length ys ≡ suc c
  long = let e = length-append xs (x ∷ []) in omega (arith, e)

  small : i < 4096
  small = omega (arith, hash)

  name-old : (k : ℕ) → k < c → name_in ys k ≡ name_in xs k
  name-old k l = ap (λ (y : Declared). y.name) (entry_old xs x k l)

  name_new : name_in ys c ≡ x.name
  name_new = ap (λ (y : Declared). y.name) (entry_new xs x)

  -- an old number, or the new one
  old-or-new : {P : ℕ → Type 0} → ((k : ℕ) → k < c → P k) → P c → (k : ℕ) → k < length ys → P k
  old-or-new {P} f g k l = by_equal k c (λ e. subst P (sym e) g) (λ e. f k (omega (arith, l, long, e)))

  head-here : get_or (set h i (c + 1)) i 0 ≡ suc c
  head-here = get_or-set_same h i (c + 1) 0 (omega (arith, small, t.heads)) ∙ (let e : c + 1 ≡ suc c = omega arith in e)

  -- a number of an entry, and 1
  old-small : get_or h i 0 ≤ 98304
  old-small = by_old (get_or h i 0) refl
    where
      by_old : (y : ℕ) → get_or h i 0 ≡ y → y ≤ 98304
      by_old zero e = omega arith
      by_old (suc k) e = let r = t.head-own i small k e in omega (arith, r.0, t.few)

  link_here : get_or (set n c link) c 0 ≡ link
  link_here = get_or-set_same n c link 0 (omega (arith, t.nexts))

  next_here : get_or (set n c link) c 0 % 131072 ≡ get_or h i 0
  next_here = let q = old-small in ap (λ (y : ℕ). y % 131072) link_here ∙ omega arith

  tag-here : get_or (set n c link) c 0 / 131072 ≡ tag_of x.name
  tag-here = let q = old-small in ap (λ (y : ℕ). y / 131072) link_here ∙ omega arith

  head-all-new : (k : ℕ) → k < length ys → k < get_or (set h i (c + 1)) (chain_of (name_in ys k)) 0
  head-all-new = old-or-new {P = λ k. k < get_or (set h i (c + 1)) (chain_of (name_in ys k)) 0}
      (λ k l. rw (name-old k l) (by_equal (chain_of (name_in xs k)) i
      (λ e. rw (e, head-here) (omega arith))
      (λ e. rw (get_or-set_other h i (chain_of (name_in xs k)) (c + 1) 0 e) (t.head_all k l))))
      (rw (name_new, ← hash, head-here) (omega arith))

  head-own-new : (j : ℕ) → j < 4096 → (k : ℕ) → get_or (set h i (c + 1)) j 0 ≡ suc k → (k < length ys) × (chain_of (name_in ys k) ≡ j)
  head-own-new j l k q = by_equal j i
      (λ e. (let z : k ≡ c = omega (arith, sym q ∙ ap (λ (m : ℕ). get_or (set h i (c + 1)) m 0) e ∙ head-here) in
      (omega (arith, z, long), ap (λ (m : ℕ). chain_of (name_in ys m)) z ∙ ap chain_of name_new ∙ sym hash ∙ sym e)))
      (λ e. (let r = t.head-own j l k (sym (get_or-set_other h i j (c + 1) 0 e) ∙ q) in (omega (arith, r.0, long), ap chain_of (name-old k r.0) ∙ r.1)))

  next-all-new : (k : ℕ) → k < length ys → (j : ℕ) → j < k → chain_of (name_in ys j) ≡ chain_of (name_in ys k) → j < get_or (set n c link) k 0 % 131072
  next-all-new = old-or-new {P = λ k. (j : ℕ) → j < k → chain_of (name_in ys j) ≡ chain_of (name_in ys k) → j < get_or (set n c link) k 0 % 131072}
      (λ k l j m q. rw (get_or-set_other n c k link 0 (λ e. omega (arith, e, l)))
      (t.next_all k l j m (ap chain_of (sym (name-old j (omega (arith, l, m)))) ∙ q ∙ ap chain_of (name-old k l))))
      (λ j m q. (let w : chain_of (name_in xs j) ≡ i = ap chain_of (sym (name-old j m)) ∙ q ∙ ap chain_of name_new ∙ sym hash in
      rw next_here (subst (λ (y : ℕ). j < get_or h y 0) w (t.head_all j m))))

  next-own-new : (k : ℕ) → k < length ys → (j : ℕ) → get_or (set n c link) k 0 % 131072 ≡ suc j → (j < k) × (chain_of (name_in ys j) ≡ chain_of (name_in ys k))
  next-own-new = old-or-new {P = λ k. (j : ℕ) → get_or (set n c link) k 0 % 131072 ≡ suc j → (j < k) × (chain_of (name_in ys j) ≡ chain_of (name_in ys k))}
      (λ k l j q. (let r = t.next_own k l j (ap (λ (y : ℕ). y % 131072) (sym (get_or-set_other n c k link 0 (λ e. omega (arith, e, l)))) ∙ q) in
      (r.0, ap chain_of (name-old j (omega (arith, r.0, l))) ∙ r.1 ∙ ap chain_of (sym (name-old k l)))))
      (λ j q. (let r = t.head-own i small j (sym next_here ∙ q) in
      (r.0, ap chain_of (name-old j r.0) ∙ r.1 ∙ hash ∙ ap chain_of (sym name_new))))

  pub table_more : Table s (set p c a) (set n c link) (set h i (c + 1)) ys
  table_more = record {
    places = length-set p c a ∙ t.places;
    nexts = length-set n c link ∙ t.nexts;
    heads = length-set h i (c + 1) ∙ t.heads;
    few = omega (arith, long, room);
    line = old-or-new {P = λ k. LineAt s (get_or (set p c a) k 0) (entry ys k)}
        (λ k l. rw (get_or-set_other p c k a 0 (λ e. omega (arith, e, l)), entry_old xs x k l) (t.line k l))
        (rw (get_or-set_same p c a 0 (omega (arith, room, t.places)), entry_new xs x) here);
    tag = old-or-new {P = λ k. get_or (set n c link) k 0 / 131072 ≡ tag_of (name_in ys k)}
        (λ k l. rw (get_or-set_other n c k link 0 (λ e. omega (arith, e, l)), name-old k l) (t.tag k l))
        (tag-here ∙ ap tag_of (sym name_new));
    head_all = head-all-new;
    head-own = head-own-new;
    next_all = next-all-new;
    next_own = next-own-new;
  }

-- before any entry
pub table-start : (s p n h : List ℕ) → length p ≡ 98304 → length n ≡ 98304 → length h ≡ 4096 → ((i : ℕ) → i < 4096 → get_or h i 0 ≡ 0) → Table s p n h []
table-start s p n h a b c z = record {
  places = a;
  nexts = b;
  heads = c;
  few = omega arith;
  line = λ k l. absurd (omega arith);
  head_all = λ k l. absurd (omega arith);
  head-own = λ i l k e. absurd (let y : 0 ≡ suc k = sym (z i l) ∙ e in omega arith);
  tag = λ k l. absurd (omega arith);
  next_all = λ k l. absurd (omega arith);
  next_own = λ k l. absurd (omega arith);
}

-- ---------------------------------------------------------------- a walk

-- no entry from c on has the name; and c is 0, or 1 and the number of an entry with the name's hash
pub record Walked (xs : List Declared) (m : Name) (c : ℕ) : Type 0 where
  pub past : (j : ℕ) → c ≤ j → j < length xs → same m (name_in xs j) ≡ false
  pub own : (k : ℕ) → c ≡ suc k → (k < length xs) × (chain_of (name_in xs k) ≡ chain_of m)

module _ (s p n h : List ℕ) (xs : List Declared) (m : Name) (t : Table s p n h xs) where
  pub walk_start : (i : ℕ) → i ≡ chain_of m → i < 4096 → Walked xs m (get_or h i 0)
  walk_start i e l = record {
    past = λ j q b. other-chain m (name_in xs j) (λ g. (let y = t.head_all j b in let z : get_or h (chain_of (name_in xs j)) 0 ≡ get_or h i 0 = ap (λ (y : ℕ). get_or h y 0) (g ∙ sym e) in omega arith));
    own = λ k q. (let r = t.head-own i l k q in (r.0, r.1 ∙ e));
  }

  walk-on : (k : ℕ) → Walked xs m (suc k) → same m (name_in xs k) ≡ false → Walked xs m (get_or n k 0 % 131072)
  walk-on k w q =
      let o = w.own k refl in
      record {
        past = λ j b l. by_place j (ltb j k) refl (eqb j k) refl b l;
        own = λ j e. (let r = t.next_own k o.0 j e in (omega (arith, r.0, o.0), r.1 ∙ o.1));
      }
    where
      by_place : (j : ℕ) (t₁ : Bool) → ltb j k ≡ t₁ → (t₂ : Bool) → eqb j k ≡ t₂ → get_or n k 0 % 131072 ≤ j → j < length xs → same m (name_in xs j) ≡ false
      by_place j true f t₂ r b l =
          let lower : j < k = ltb→lt j k (true→T f) in
          let o = w.own k refl in
          other-chain m (name_in xs j) (λ g. (let y = t.next_all k o.0 j lower (g ∙ sym o.1) in omega arith))
      by_place j false f true r b l = subst (λ (i : ℕ). same m (name_in xs i) ≡ false) (sym (eqb→eq j k (true→T r))) q
      by_place j false f false r b l =
          let upper : k ≤ j = nltb→le j k (rw f tt) in
          let apart = eqb-false j k r in
          w.past j (omega arith) l

  module _ (c : ℕ) (w : Walked xs m c) (above : 0 < c) where
    at_entry : Walked xs m (suc (c - 1))
    at_entry = let z : c ≡ suc (c - 1) = omega arith in subst (Walked xs m) z w

    pub walk_inside : c - 1 < length xs
    walk_inside = (at_entry.own (c - 1) refl).0

    pub walk_step : same m (name_in xs (c - 1)) ≡ false → Walked xs m (get_or n (c - 1) 0 % 131072)
    walk_step q = walk-on (c - 1) at_entry q

    pub walk-less : get_or n (c - 1) 0 % 131072 < c
    walk-less = by_next (get_or n (c - 1) 0 % 131072) refl
      where
        by_next : (y : ℕ) → get_or n (c - 1) 0 % 131072 ≡ y → y < c
        by_next zero e = above
        by_next (suc j) e = let r = t.next_own (c - 1) walk_inside j e in omega (arith, r.0)

  pub walk_end : (c : ℕ) → Walked xs m c → c ≤ 0 → (k : ℕ) → k < length xs → same m (name_in xs k) ≡ false
  walk_end c w l k b = w.past k (omega arith) b

-- the comparison with a name and its bar tells whether an entry has the name
pub name-there : (s : List ℕ) (a f q : ℕ) (x : Declared) → Named s a f → LineAt s q x → same (between s a f) (take (length (between s a f)) (drop q s)) ≡ same (between s a (f - 1)) x.name
name-there s a f q x k l =
    let y : List ℕ = x.name ++ (124 ∷ (meaning_text x.meaning ++ l.rest)) in
    let r = read_name x.name l.plain (meaning_text x.meaning ++ l.rest) in
    let n : name_here y ≡ x.name = (taken y x.name _ r).name in
    name-stands s a f q y k l.text (record { rest = meaning_text x.meaning ++ l.rest; read = rw n r }) ∙ ap (same (between s a (f - 1))) n

-- ---------------------------------------------------------------- as the code has it

-- the walk, whatever the entries of the table are
abbrev pub Walks : List ℕ → List ℕ → List ℕ → List ℕ → Name → ℕ → Type 0
Walks s p n h m c = (xs : List Declared) → Table s p n h xs → Walked xs m c

module _ (s p n h : List ℕ) (a f : ℕ) (named : Named s a f) (c : ℕ) (w : Walks s p n h (between s a (f - 1)) c) (above : 0 < c) where
  pub walks-inside : ((xs : List Declared) × Table s p n h xs) → c - 1 < 98304
  walks-inside (xs, t) = let l = walk_inside s p n h xs (between s a (f - 1)) t c (w xs t) above in omega (arith, l, t.few)

  pub walks-place : ((xs : List Declared) × Table s p n h xs) → get_or p (c - 1) 0 ≤ length s
  walks-place (xs, t) = (t.line (c - 1) (walk_inside s p n h xs (between s a (f - 1)) t c (w xs t) above)).inside

  module _ (r : Bool) (told : r ≡ (eqb (get_or n (c - 1) 0 / 131072) (tag_of (between s a (f - 1))) && same (between s a f) (take (length (between s a f)) (drop (get_or p (c - 1) 0) s)))) (xs : List Declared) (t : Table s p n h xs) where
    inside : c - 1 < length xs
    inside = walk_inside s p n h xs (between s a (f - 1)) t c (w xs t) above

    told-name : same (between s a (f - 1)) (name_in xs (c - 1)) ≡ r
    told-name = by-tag (eqb (get_or n (c - 1) 0 / 131072) (tag_of (between s a (f - 1)))) refl told
      where
        by-tag : (b : Bool) → eqb (get_or n (c - 1) 0 / 131072) (tag_of (between s a (f - 1))) ≡ b → r ≡ (b && same (between s a f) (take (length (between s a f)) (drop (get_or p (c - 1) 0) s)))
            → same (between s a (f - 1)) (name_in xs (c - 1)) ≡ r
        by-tag true e q = sym (name-there s a f (get_or p (c - 1) 0) (entry xs (c - 1)) named (t.line (c - 1) inside)) ∙ sym q
        by-tag false e q = other_tag (between s a (f - 1)) (name_in xs (c - 1)) (λ g. eqb-false _ _ e (t.tag (c - 1) inside ∙ g)) ∙ sym q

    pub walks-found : r ≡ true → Sought p xs (between s a (f - 1)) (Some (get_or p (c - 1) 0))
    walks-found e = (c - 1, inside, refl, told-name ∙ e)

    pub walks-on : (d : ℕ) → d ≡ get_or n (c - 1) 0 % 131072 → r ≡ false → Walked xs (between s a (f - 1)) d
    walks-on d q e = subst (Walked xs (between s a (f - 1))) (sym q) (walk_step s p n h xs (between s a (f - 1)) t c (w xs t) above (told-name ∙ e))

  pub walks_less : ((xs : List Declared) × Table s p n h xs) → (d : ℕ) → d ≡ get_or n (c - 1) 0 % 131072 → d < c
  walks_less (xs, t) d q = let l = walk-less s p n h xs (between s a (f - 1)) t c (w xs t) above in omega (arith, q, l)

pub walks-start : (s p n h : List ℕ) (a f i c : ℕ) → i ≡ chain_of (between s a (f - 1)) → i < 4096 → c ≡ get_or h i 0 → Walks s p n h (between s a (f - 1)) c
walks-start s p n h a f i c e l q xs t = subst (Walked xs (between s a (f - 1))) (sym q) (walk_start s p n h xs (between s a (f - 1)) t i e l)

pub walks-end : (s p n h : List ℕ) (a f c : ℕ) → Walks s p n h (between s a (f - 1)) c → c ≤ 0 → (xs : List Declared) → Table s p n h xs → Sought p xs (between s a (f - 1)) None
walks-end s p n h a f c w l xs t = walk_end s p n h xs (between s a (f - 1)) t c (w xs t) l

pub tags-apart : (own tag : ℕ) (b : Bool) → (own ≡ tag → ⊥) → false ≡ (eqb own tag && b)
tags-apart own tag b f = rw (ne_eqb own tag f) refl

pub tags-same : (own tag : ℕ) {r b : Bool} → own ≡ tag → r ≡ b → r ≡ (eqb own tag && b)
tags-same own tag e q = rw (eq-eqb own tag e) q

pub told_at : (n : List ℕ) (k link tag : ℕ) (m : Name) {r : Bool} (b : Bool) → r ≡ (eqb (link / 131072) tag && b) → link ≡ get_or n k 0 → tag ≡ tag_of m → r ≡ (eqb (get_or n k 0 / 131072) (tag_of m) && b)
told_at n k _ tag m b e q w = e ∙ (λ i. eqb (q i / 131072) (w i) && b)
