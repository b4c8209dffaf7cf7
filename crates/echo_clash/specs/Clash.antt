-- Which declared name is that of a shared node, by the number that is read from it.
use Prim.Native.Nat.{ℕ, zero, suc, ◌+◌, ◌-◌, ◌*◌, ◌/◌, ◌%◌, ◌≤◌, ◌<◌, min}
use Rattle.std.specs.Prelude.{◌≡◌, List, [], ◌∷◌, ◌++◌, Bool, ◌&&◌, ltb, length, get_or, slice_index_or, take, drop}
use Rattle.std.specs.List.{fold}
use Rattle.std.proofs.Math.Path.{refl, ap}
use Rattle.std.proofs.Common.{sym, ◌∙◌, subst, length-append, length-drop, take_all}
use Rattle.std.proofs.Math.Bool.{true, false, not, and-false}
use native.Mathlib.Omega.{arith}
use borrow.Author.Tests.{lt-ltb, ltb-false}
use Rattle.std.proofs.Math.Decide.{dec_lt}
use Rattle.std.proofs.Math.ListN.{get_or-eq_default}
use Rattle.std.proofs.Math.Dec.{T, ltb→lt, T_not, not_T}
use Rattle.std.proofs.lemmas.List.{take-append-le}
use Rattle.lists.specs.Bytes.{bytes}
use Rattle.lists.specs.Build.{get_or-tabulate}
use Rattle.chains.specs.Tests.{every-told}
use Rattle.lists.specs.Tests.{same, in_list, every, and_0, and-1, and_T, every-at, every-from, every_in, same→eq, same_refl, or_l, or_r, every_append, true→T, T→true}
use Rattle.reading.specs.Trees.{Name}
use Rattle.echo_spec.specs.Input.{Dag, part, names_of, name_table, aname_table, fname_table}
use Rattle.echo_spec.specs.Render.{decimal_digits, decimal}
use Rattle.lets.specs.Lets.{let_name, shared, names_clear}
use Rattle.echo_bytes.specs.declared.Place.{Place}
use Rattle.echo_bytes.specs.Page.{Page, page, start, written}
use Rattle.echo_bytes.specs.Laws.{written_then, written-fits}
use Rattle.echo_sharing.specs.Flags.{Flags}
use Rattle.echo_checks.specs.declared.Names.{Names}
use Rattle.echo_checks.specs.Tables.{names_in, NamesOf}
use Rattle.echo_names.specs.NameTables.{length-names_of}

-- one digit more, the number held at 2,048
unfoldable pub digit : ℕ → ℕ → ℕ
digit v c = min (10 * v + (c - 48)) 2048

unfoldable pub read_from : ℕ → List ℕ → ℕ
read_from v [] = v
read_from v (c ∷ cs) = read_from (digit v c) cs

-- the number that is read from a name
abbrev pub number_of : List ℕ → ℕ
number_of m = read_from 0 (drop 1 m)

-- by the table of the shared nodes
unfoldable pub clashes : List Bool → List ℕ → Bool
clashes table m = get_or table (number_of m) false && same m (let_name (number_of m))

-- ---------------------------------------------------------------- reading

-- one digit after the other
pub fold-read : (v : ℕ) (xs : List ℕ) → fold digit v xs ≡ read_from v xs
unfolding read_from
fold-read v [] = refl
fold-read v (c ∷ cs) = fold-read (digit v c) cs

read-last : (v : ℕ) (xs : List ℕ) (c : ℕ) → read_from v (xs ++ (c ∷ [])) ≡ digit (read_from v xs) c
unfolding read_from
read-last v [] c = refl
read-last v (x ∷ xs) c = read-last (digit v x) xs c

read-digits : (f n : ℕ) → n < f → n < 2048 → read_from 0 (decimal_digits f n) ≡ n
unfolding decimal_digits
read-digits zero n l h = absurd (omega arith)
read-digits (suc f) n l h = by_size (ltb n 10) refl (λ m k. read-digits f (n / 10) m k)
  where
    by_size : (b : Bool) → ltb n 10 ≡ b → (n / 10 < f → n / 10 < 2048 → read_from 0 (decimal_digits f (n / 10)) ≡ n / 10)
        → read_from 0 (elim b [ true ↦ (48 + n) ∷ [] | false ↦ decimal_digits f (n / 10) ++ ((48 + n % 10) ∷ []) ]) ≡ n
    by_size true e rest = unfold read_from digit in omega arith
    by_size false e rest =
        let m : 10 ≤ n = ltb-false n 10 e in
        read-last 0 (decimal_digits f (n / 10)) (48 + n % 10) ∙ ap (λ (v : ℕ). digit v (48 + n % 10)) (rest (omega arith) (omega arith)) ∙ unfold digit in omega arith

read_name : (i : ℕ) → i < 2048 → number_of (let_name i) ≡ i
unfolding let_name bytes decimal
read_name i h = read-digits (suc i) i (omega arith) h

-- ---------------------------------------------------------------- the name of a node is short

one-digit : (f n : ℕ) → n < 10 → length (decimal_digits f n) ≤ 1
unfolding decimal_digits
one-digit zero n h = omega arith
one-digit (suc f) n h = by_size (ltb n 10) (lt-ltb n 10 h)
  where
    by_size : (b : Bool) → b ≡ true → length {A = ℕ} (elim b [ true ↦ (48 + n) ∷ [] | false ↦ decimal_digits f (n / 10) ++ ((48 + n % 10) ∷ []) ]) ≤ 1
    by_size true e = omega arith
    by_size false e = absurd (subst T (sym e) tt)

more-digits : (f n m k : ℕ) → n < 10 * m → ((g : ℕ) → n / 10 < m → length (decimal_digits g (n / 10)) ≤ k) → length (decimal_digits f n) ≤ k + 1
unfolding decimal_digits
more-digits zero n m k h rest = omega arith
more-digits (suc f) n m k h rest = by_size (ltb n 10)
  where
    by_size : (b : Bool) → length {A = ℕ} (elim b [ true ↦ (48 + n) ∷ [] | false ↦ decimal_digits f (n / 10) ++ ((48 + n % 10) ∷ []) ]) ≤ k + 1
    by_size true = omega arith
    by_size false = omega (arith, length-append (decimal_digits f (n / 10)) ((48 + n % 10) ∷ []), rest f (omega arith))

pub name-short : (i : ℕ) → i < 2048 → length (let_name i) ≤ 8
unfolding let_name bytes decimal
name-short i h =
    let four = more-digits (suc i) i 1000 3 (omega arith) (λ a p. more-digits a (i / 10) 100 2 (omega arith) (λ b q. more-digits b (i / 10 / 10) 10 1 (omega arith) (λ c r. one-digit c (i / 10 / 10 / 10) (omega arith)))) in
    omega arith

front : (t x : List ℕ) (n : ℕ) {b : List ℕ} → n ≡ length t → b ≡ t ++ x → take n b ≡ t
front t x n e f = rw (e, f) (take-append-le (length t) t x (omega arith) ∙ take_all (length t) t (omega arith))

-- the name written into a buffer of eight bytes
pub name-written : (i : ℕ) → i < 2048 → (l : List ℕ) → length l ≡ 8 → {p q r : Place} {a b : List ℕ} → p ≡ start → page q a ≡ written (page p l) (100 ∷ []) → page r b ≡ written (page q a) (decimal i)
    → (r.at ≤ 8) × (length b ≡ 8) × (take r.at b ≡ let_name i)
unfolding let_name bytes
name-written i h l e {p} {q} {r} {a} {b} s x y =
    let z = name-short i h in
    let x' : page q a ≡ written (page start l) (100 ∷ []) = subst (λ (o : Place). page q a ≡ written (page o l) (100 ∷ [])) s x in
    let w : page r b ≡ page (record { at = length (let_name i); need = length (let_name i) }) (let_name i ++ drop (length (let_name i)) l) =
    written_then (page start l) (100 ∷ []) (decimal i) x' y ∙ written-fits l (let_name i) (omega arith) (omega arith) in
    let at : r.at ≡ length (let_name i) = ap (λ (o : Page). o.place.at) w in
    let is : b ≡ let_name i ++ drop (length (let_name i)) l = ap (λ (o : Page). o.bytes) w in
    (omega arith, ap length is ∙ rw (length-append (let_name i) (drop (length (let_name i)) l), length-drop (length (let_name i)) l) (omega arith), front (let_name i) (drop (length (let_name i)) l) r.at at is)

-- ---------------------------------------------------------------- a name

-- the bytes after the first, as they are lent
pub number-part : (m : List ℕ) {v : ℕ} → v ≡ read_from 0 (take (length m - 1) (drop 1 m)) → v ≡ number_of m
number-part m e = e ∙ ap (read_from 0) (take_all (length m - 1) (drop 1 m) (omega (arith, length-drop 1 m)))

-- a node whose flag is set is in the table
pub flag-inside : (table : List Bool) (v : ℕ) → get_or table v false ≡ true → v < length table
flag-inside table v e = by_place (dec_lt v (length table))
  where
    by_place : Dec (v < length table) → v < length table
    by_place (yes l) = l
    by_place (no l) = let z : get_or table v false ≡ false = get_or-eq_default table false (omega arith) in let y : false ≡ true = sym z ∙ e in absurd (subst T (sym y) tt)

module _ (table : List Bool) (m : List ℕ) where
  pub clash-empty : length m ≡ 0 → false ≡ clashes table m
  unfolding clashes same let_name bytes
  clash-empty e = by-list m e
    where
      by-list : (m : List ℕ) → length m ≡ 0 → false ≡ clashes table m
      by-list [] e = sym (and-false (get_or table (read_from 0 []) false))
      by-list (c ∷ m) e = absurd (omega arith)

  module _ {v : ℕ} (is : v ≡ number_of m) where
    pub clash-other : get_or table v false ≡ false → false ≡ clashes table m
    unfolding clashes
    clash-other h = rw (← is, h) refl

    pub clash-same : get_or table v false ≡ true → {r : Bool} → r ≡ same m (let_name v) → r ≡ clashes table m
    unfolding clashes
    clash-same h q = rw (← is, h) q

-- ---------------------------------------------------------------- a table of names

-- no name clashes, or that of a place does
pub clear-told : (table : List Bool) (arena starts lens : List ℕ) (r : Bool)
    → (r ≡ true → (k : ℕ) → k < length starts → (d : ℕ) → not (clashes table (part arena (slice_index_or starts k d) (slice_index_or lens k d))) ≡ true)
    → (r ≡ false → (k : ℕ) × (k < length starts) × ((d : ℕ) → not (clashes table (part arena (slice_index_or starts k d) (slice_index_or lens k d))) ≡ false))
    → r ≡ every (λ m. not (clashes table m)) (names_of arena starts lens)
unfolding names_of
clear-told table arena starts lens r h g =
    every-told (λ m. not (clashes table m)) (names_of arena starts lens) r
    (λ e k l d. let m : k < length starts = omega (arith, l, length-names_of arena starts lens) in
    rw (get_or-tabulate (length starts) (λ j. part arena (get_or starts j 0) (get_or lens j 0)) d k m) (h e k m 0))
    (λ e. let q = g e in (
      q.0,
      omega (arith, q.1, length-names_of arena starts lens),
      λ d. rw (get_or-tabulate (length starts) (λ j. part arena (get_or starts j 0) (get_or lens j 0)) d q.0 q.1) (q.2 0),
    ))

-- ---------------------------------------------------------------- all names

module _ (d : Dag) (us : List ℕ) (table : List Bool) (flags : Flags (shared d us) table) (few : length d.nodes ≤ 2048) where
  abbrev names : List Name
  names = name_table d ++ (aname_table d ++ fname_table d)

  abbrev pub clear : Name → Bool
  clear m = not (clashes table m)

  shared-here : (i : ℕ) → T (shared d us i) → i < length d.nodes
  unfolding shared
  shared-here i t = ltb→lt i (length d.nodes) (and_0 (ltb i (length d.nodes)) _ t)

  -- the name of a shared node clashes
  clash-name : (i : ℕ) → T (shared d us i) → T (clashes table (let_name i))
  unfolding clashes
  clash-name i t =
      let l = shared-here i t in
      rw (read_name i (omega arith)) (and_T (get_or table i false) _ (true→T (flags.at i ∙ T→true (shared d us i) t)) (same_refl (let_name i)))

  -- and no other name does
  clash-only : (m : Name) → T (clashes table m) → T (shared d us (number_of m)) × (m ≡ let_name (number_of m))
  unfolding clashes
  clash-only m t =
      let v : ℕ = number_of m in
      (subst T (flags.at v) (and_0 (get_or table v false) (same m (let_name v)) t), same→eq m (let_name v) (and-1 (get_or table v false) (same m (let_name v)) t))

  clear-there : T (every clear names) → T (names_clear d us)
  unfolding names_clear
  clear-there t =
      every-from (λ i. not (shared d us i && in_list (let_name i) names)) 0 (length d.nodes) λ i l h.
      not_T (shared d us i && in_list (let_name i) names) λ s.
      T_not (clashes table (let_name i)) (every_in clear names (let_name i) t (and-1 (shared d us i) (in_list (let_name i) names) s))
      (clash-name i (and_0 (shared d us i) (in_list (let_name i) names) s))

  clear-back : T (names_clear d us) → T (every clear names)
  unfolding names_clear
  clear-back t = all-names names (λ m h. h)
    where
      one : (m : Name) → T (in_list m names) → T (clear m)
      one m h =
          not_T (clashes table m) λ c.
          let (s, e) = clash-only m c in
          T_not (shared d us (number_of m) && in_list (let_name (number_of m)) names)
          (every-at (λ i. not (shared d us i && in_list (let_name i) names)) 0 (length d.nodes) t (number_of m) (omega arith) (let l = shared-here (number_of m) s in omega arith))
          (and_T (shared d us (number_of m)) (in_list (let_name (number_of m)) names) s (subst (λ (x : Name). T (in_list x names)) e h))

      all-names : (ns : List Name) → ((m : Name) → T (in_list m ns) → T (in_list m names)) → T (every clear ns)
      all-names [] f = tt
      all-names (m ∷ ns) f = and_T (clear m) (every clear ns) (one m (f m (or_l (same m m) (in_list m ns) (same_refl m)))) (all-names ns (λ x h. f x (or_r (same x m) (in_list x ns) h)))

  bool_same : (a b : Bool) → (T a → T b) → (T b → T a) → a ≡ b
  bool_same true true f g = refl
  bool_same true false f g = absurd (f tt)
  bool_same false true f g = absurd (g tt)
  bool_same false false f g = refl

  clear-is : every clear names ≡ names_clear d us
  clear-is = bool_same (every clear names) (names_clear d us) clear-there clear-back

  -- the three tables, one after the other
  pub parts : (every clear (name_table d) && (every clear (aname_table d) && every clear (fname_table d))) ≡ names_clear d us
  parts =
      ap (λ (x : Bool). every clear (name_table d) && x) (sym (every_append clear (aname_table d) (fname_table d))) ∙ sym (every_append clear (name_table d) (aname_table d ++ fname_table d)) ∙ clear-is

  pub clear-names : {n : Names} → NamesOf d n → (every clear (names_in n.variables) && (every clear (names_in n.arrays) && every clear (names_in n.functions))) ≡ names_clear d us
  clear-names n = rw (n.variables, n.arrays, n.functions) parts
