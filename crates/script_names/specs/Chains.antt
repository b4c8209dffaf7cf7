-- The table keeps what is asked of it where a line is entered.
use Rattle.std.specs.Prelude.{ℕ, ◌+◌, ◌-◌, ◌*◌, ◌%◌, ◌≤◌, ◌<◌, ◌≡◌, refl, List, [], ◌∷◌, Bool, true, false, eqb, leb, length, take, drop, get_or, set, Some, None}
use Rattle.std.proofs.Common.{ap, sym, ◌∙◌, subst, arith, eqb→eq, length-set, get_or-set_same, get_or-set_other}
use Rattle.std.proofs.lemmas.Bool.{eqb-false}
use Rattle.lists.specs.Tests.{true→T}
use Rattle.script_names.specs.declared.Line.{Line}
use Rattle.script_names.specs.declared.Measure.{Measure}
use Rattle.script_names.specs.declared.Table.{Table}
use Rattle.script_names.specs.Entries.{entry_from, name_at, hash_from, hash_of, hash_at, no_line, link_of, place_of, before_of, last_of, Chains, Long, Noted}

hash-from-small : (h : ℕ) (w : List ℕ) → h < 4096 → hash_from h w < 4096
unfolding hash_from
hash-from-small h [] l = l
hash-from-small h (c ∷ w) l = hash-from-small ((h * 31 + c) % 4096) w (omega arith)

pub hash-small : (n : List ℕ) → hash_of n < 4096
unfolding hash_of
hash-small n = by_length (leb (length n) 16) refl
  where
    by_length : (b : Bool) → leb (length n) 16 ≡ b → hash_of n < 4096
    by_length true e = rw (e, hash_of) (hash-from-small 0 n (omega arith))
    by_length false e = rw (e, hash_of) (hash-from-small (hash_from 0 (take 16 n)) (drop (length n - 16) n) (hash-from-small 0 (take 16 n) (omega arith)))

-- two numbers are equal or not
by_equal : {P : Type 0} (k c : ℕ) → (k ≡ c → P) → ((k ≡ c → ⊥) → P) → P
by_equal {P} k c f g = go (eqb k c) refl
  where
    go : (t : Bool) → eqb k c ≡ t → P
    go true e = f (eqb→eq k c (true→T e))
    go false e = g (eqb-false k c e)

-- a line entered at place a, with hash h and numbers m
abbrev pub entered : Table → ℕ → ℕ → ℕ → Measure → Table
entered t c a h m = record { lines = set t.lines c (record { place = a; before = get_or t.last h None; measure = m }); last = set t.last h (Some c) }

pub entered-long : (t : Table) (c a h : ℕ) (m : Measure) → Long t → Long (entered t c a h m)
entered-long t c a h m l = record { lines = length-set _ _ _ ∙ l.lines; last = length-set _ _ _ ∙ l.last }

module _ (t : Table) (c a h : ℕ) (m : Measure) (room : c < 1536) (long : Long t) (small : h < 4096) where
  place_other : (k : ℕ) → (k ≡ c → ⊥) → place_of (entered t c a h m) k ≡ place_of t k
  place_other k f = ap (λ (x : Line). x.place) (get_or-set_other t.lines c k _ no_line f)

  place-own : place_of (entered t c a h m) c ≡ a
  place-own = ap (λ (x : Line). x.place) (get_or-set_same t.lines c _ no_line (omega (arith, long.lines)))

  next-other : (k : ℕ) → (k ≡ c → ⊥) → before_of (entered t c a h m) k ≡ before_of t k
  next-other k f = ap (λ (x : Line). link_of x.before) (get_or-set_other t.lines c k _ no_line f)

  next_here : before_of (entered t c a h m) c ≡ last_of t h
  next_here = ap (λ (x : Line). link_of x.before) (get_or-set_same t.lines c _ no_line (omega (arith, long.lines)))

  head-other : (j : ℕ) → (j ≡ h → ⊥) → last_of (entered t c a h m) j ≡ last_of t j
  head-other j f = ap link_of (get_or-set_other t.last h j (Some c) None f)

  pub entered_noted : Noted t (entered t c a h m) c m
  entered_noted = record {
    own = λ l. ap (λ (x : Line). x.measure) (get_or-set_same t.lines c _ no_line (omega (arith, long.lines)));
    others = λ j f. ap (λ (x : Line). x.measure) (get_or-set_other t.lines c j _ no_line f);
  }

  head-here : last_of (entered t c a h m) h ≡ c + 1
  head-here = ap link_of (get_or-set_same t.last h (Some c) None (omega (arith, long.last))) ∙ omega arith

module _ (s b : List ℕ) (t : Table) (c a : ℕ) (μ : Measure) (room : c < 1536) (long : Long t) (x : Chains s b t c) (low : a ≤ length s) (here : drop a s ≡ entry_from c b) where
  abbrev h : ℕ
  h = hash_at b c

  small : h < 4096
  small = hash-small (name_at b c)

  pub chains-more : Chains s b (entered t c a (hash_at b c) μ) (c + 1)
  chains-more = record {
    place = λ k l. by_equal k c (λ e. rw (e, place-own t c a h μ room long small) low)
        (λ f. rw (place_other t c a h μ room long small k f) (x.place k (omega arith)));
    entry = λ k l. by_equal k c (λ e. rw (e, place-own t c a h μ room long small) here)
        (λ f. rw (place_other t c a h μ room long small k f) (x.entry k (omega arith)));
    head_all = λ k l. by_equal (hash_at b k) h (λ e. rw (e, head-here t c a h μ room long small) l)
        (λ f. rw (head-other t c a h μ room long small (hash_at b k) f)
        (x.head_all k (by_equal k c (λ e. absurd (f (ap (hash_at b) e))) (λ g. omega arith))));
    head-own = λ j l k q. by_equal j h
        (λ e. (let z : k ≡ c = omega (arith, sym q ∙ ap (λ (i : ℕ). last_of (entered t c a h μ) i) e ∙ head-here t c a h μ room long small) in
        (omega arith, ap (hash_at b) z ∙ sym e)))
        (λ f. (let r = x.head-own j l k (sym (head-other t c a h μ room long small j f) ∙ q) in (omega (arith, r.0), r.1)));
    next_all = λ k l j m q. by_equal k c
        (λ e. (let w : hash_at b j ≡ h = q ∙ ap (hash_at b) e in
        let y : j < last_of t h = subst (λ (i : ℕ). j < last_of t i) w (x.head_all j (omega arith)) in
        rw (e, next_here t c a h μ room long small) y))
        (λ f. rw (next-other t c a h μ room long small k f) (x.next_all k (omega arith) j m q));
    next_own = λ k l j q. by_equal k c
        (λ e. (let r = x.head-own h small j (sym (next_here t c a h μ room long small) ∙ ap (λ (i : ℕ). before_of (entered t c a h μ) i) (sym e) ∙ q) in
        (omega (arith, r.0), r.1 ∙ ap (hash_at b) (sym e))))
        (λ f. x.next_own k (omega arith) j (sym (next-other t c a h μ room long small k f) ∙ q));
  }
