-- Parts of an arena and the names of a table.
use Rattle.std.specs.Prelude.{ℕ, ◌+◌, ◌-◌, ◌≤◌, ◌<◌, ◌≡◌, Bool, true, false, ◌&&◌, ◌||◌, not, eqb, take, drop}
use Rattle.std.proofs.Math.Path.{refl, sym}
use Rattle.std.proofs.Common.{ap, ◌∙◌, arith, le_of_eq, drop_of_length-le, length-take-le, take_all, le-leb, length-drop, get_or-drop}
use Rattle.std.proofs.Math.Decide.{dec_lt}
use mathlib.Core.List.{List, [], ◌∷◌, ◌++◌, append_assoc, append-nil}
use Rattle.std.proofs.Math.Bool.{and-false}
use Rattle.std.proofs.Math.ListN.{length, get_or}
use Rattle.std.proofs.Math.Seq.{get_or-take}
use Rattle.std.proofs.lemmas.Bool.{lt-leb, not-true, not-false}
use Rattle.lists.specs.Tests.{same, in_list, every}
use Rattle.lists.specs.Build.{length-tabulate, get_or-tabulate}
use Rattle.echo_spec.specs.Input.{part, names_of}
use Rattle.echo_spec.specs.Names.{byte_ok, first_ok, reserved, entry_ok, table_ok}
use Rattle.echo_names.specs.Steps.{same_not, drop-step, take_step, in_list-append}

-- ---------------------------------------------------------------- parts

pub part_out : (arena : List ℕ) (start len : ℕ) → length arena < start + len → part arena start len ≡ []
unfolding part
part_out arena start len h = rw (lt-leb (start + len) (length arena) h, part) refl

pub part_in : (arena : List ℕ) (start len : ℕ) → start + len ≤ length arena → part arena start len ≡ take len (drop start arena)
unfolding part
part_in arena start len h = rw (le-leb (start + len) (length arena) h, part) refl

-- the part that is lent
pub part-lent : (arena : List ℕ) (start len : ℕ) → start + len ≤ length arena → take (start + len - start) (drop start arena) ≡ part arena start len
part-lent arena start len h =
    let e : start + len - start ≡ len = omega arith in rw (part_in arena start len h, e) refl

-- the part as long as a name
pub part-named : (arena name : List ℕ) (start len : ℕ) → len ≡ length name → start + len ≤ length arena
    → take (start + length name - start) (drop start arena) ≡ part arena start len
part-named arena name start len e h = rw (← e) (part-lent arena start len h)

-- ---------------------------------------------------------------- a name beside a part, by its numbers

-- a name with a first byte is no part of another length
pub other-length : (arena name : List ℕ) (start len : ℕ) → (length name ≡ 0 → ⊥) → (len ≡ length name → ⊥) → same name (part arena start len) ≡ false
other-length arena name start len f g = same_not name (part arena start len) (apart (dec_lt (length arena) (start + len)))
  where
    apart : Dec (length arena < start + len) → name ≡ part arena start len → ⊥
    apart (yes h) e = f (ap length (e ∙ part_out arena start len h))
    apart (no h) e =
        let d = length-drop start arena in
        let t = length-take-le len (drop start arena) (omega arith) in
        let l = ap length (e ∙ part_in arena start len (omega arith)) in
        g (omega arith)

-- nor one that is not there
pub not-inside : (arena name : List ℕ) (start len : ℕ) → (length name ≡ 0 → ⊥) → length arena < start + len → same name (part arena start len) ≡ false
not-inside arena name start len f h = same_not name (part arena start len) (λ e. f (ap length (e ∙ part_out arena start len h)))

-- nor one with another last byte
pub other-last : (arena name : List ℕ) (start len : ℕ) → (length name ≡ 0 → ⊥) → len ≡ length name → start + len ≤ length arena
    → (get_or arena (start + (length name - 1)) 0 ≡ get_or name (length name - 1) 0 → ⊥) → same name (part arena start len) ≡ false
other-last arena name start len f l h g = same_not name (part arena start len) (λ e. g (sym (last e)))
  where
    last : name ≡ part arena start len → get_or name (length name - 1) 0 ≡ get_or arena (start + (length name - 1)) 0
    last e =
        let k : length name - 1 < len = omega arith in
        ap (λ (x : List ℕ). get_or x (length name - 1) 0) (e ∙ part_in arena start len h)
        ∙ get_or-take len (drop start arena) (length name - 1) 0 k ∙ get_or-drop start arena (length name - 1) 0

-- ---------------------------------------------------------------- the names of a table

pub length-names_of : (arena starts lens : List ℕ) → length (names_of arena starts lens) ≡ length starts
unfolding names_of
length-names_of arena starts lens = length-tabulate (length starts) (λ k. part arena (get_or starts k 0) (get_or lens k 0))

pub get_or-names_of : (arena starts lens : List ℕ) (k : ℕ) → k < length starts
    → get_or (names_of arena starts lens) k [] ≡ part arena (get_or starts k 0) (get_or lens k 0)
unfolding names_of
get_or-names_of arena starts lens k h = get_or-tabulate (length starts) (λ j. part arena (get_or starts j 0) (get_or lens j 0)) [] k h

-- all of a table
names-all : (arena starts lens : List ℕ) → take (length starts) (names_of arena starts lens) ≡ names_of arena starts lens
names-all arena starts lens = take_all (length starts) (names_of arena starts lens) (le_of_eq (length-names_of arena starts lens))

-- ---------------------------------------------------------------- one name further

-- is the name one of the names from j on, of the first `upto` names of a table
unfoldable pub has_from : List ℕ → List ℕ → List ℕ → List ℕ → ℕ → ℕ → Bool
has_from n arena starts lens upto j = in_list n (drop j (take upto (names_of arena starts lens)))

pub has_first : (n arena starts lens : List ℕ) (upto : ℕ) → has_from n arena starts lens upto 0 ≡ in_list n (take upto (names_of arena starts lens))
unfolding has_from
has_first n arena starts lens upto = refl

module _
    (n arena starts lens : List ℕ)
    (upto j : ℕ)
    (h : upto ≤ length starts)
    {whole : Bool}
    (e : has_from n arena starts lens upto j ≡ whole)
  where
    upto-length : length (take upto (names_of arena starts lens)) ≡ upto
    upto-length = length-take-le upto (names_of arena starts lens) (rw length-names_of h)

    -- the name at j is m; the comparison answers r
    has-step : {r : Bool} {m : List ℕ} → j < upto → m ≡ part arena (get_or starts j 0) (get_or lens j 0) → r ≡ same n m
        → r || has_from n arena starts lens upto (j + 1) ≡ whole
    unfolding has_from
    has-step {r} {m} l p q =
        let k : j < length (take upto (names_of arena starts lens)) = rw upto-length l in
        let f : get_or (take upto (names_of arena starts lens)) j [] ≡ m =
        get_or-take upto (names_of arena starts lens) j [] l ∙ get_or-names_of arena starts lens j (omega arith) ∙ sym p in
        rw q (rw (drop-step [] (take upto (names_of arena starts lens)) j k, f) at e)

    pub has-next : {r : Bool} {m : List ℕ} → j < upto → m ≡ part arena (get_or starts j 0) (get_or lens j 0) → r ≡ same n m → r ≡ false
        → has_from n arena starts lens upto (j + 1) ≡ whole
    has-next l p q t = rw t at (has-step l p q)

    pub has-found : {r : Bool} {m : List ℕ} → j < upto → m ≡ part arena (get_or starts j 0) (get_or lens j 0) → r ≡ same n m → r ≡ true → true ≡ whole
    has-found l p q t = rw t at (has-step l p q)

    pub has-none : upto ≤ j → false ≡ whole
    unfolding has_from
    has-none l =
        let k : length (take upto (names_of arena starts lens)) ≤ j = rw upto-length l in
        rw (drop_of_length-le (take upto (names_of arena starts lens)) k) at e

-- ---------------------------------------------------------------- a name's bytes

pub first-none : (s : List ℕ) → length s ≡ 0 → false ≡ first_ok s
unfolding first_ok
first-none [] h = refl
first-none (c ∷ s) h = absurd (omega arith)

pub first_of : (s : List ℕ) → (length s ≡ 0 → ⊥) → first_ok s ≡ not (eqb (get_or s 0 0) 64) && not (eqb (get_or s 0 0) 46)
unfolding first_ok
first_of [] h = absurd (h refl)
first_of (c ∷ s) h = refl

-- ---------------------------------------------------------------- one entry

-- entry k of a table, after the names of two tables and those before it in its own
unfoldable pub entry_at : List ℕ → List ℕ → List ℕ → List ℕ → List ℕ → List ℕ → List ℕ → List ℕ → List ℕ → ℕ → Bool
entry_at arena starts lens a1 s1 l1 a2 s2 l2 k =
    entry_ok ((names_of a1 s1 l1 ++ names_of a2 s2 l2) ++ take k (names_of arena starts lens)) (get_or (names_of arena starts lens) k [])

-- the tests of `entry_ok`, in its order
entry-tests : (before1 before2 own : List (List ℕ)) (n : List ℕ)
    → entry_ok ((before1 ++ before2) ++ own) n
    ≡ every byte_ok n && (first_ok n && (not (in_list n reserved) && (not (in_list n before1) && (not (in_list n before2) && not (in_list n own)))))
unfolding entry_ok
entry-tests before1 before2 own n =
    rw (in_list-append n (before1 ++ before2) own, in_list-append n before1 before2)
    (ap (λ (b : Bool). every byte_ok n && (first_ok n && (not (in_list n reserved) && b))) (split (in_list n before1) (in_list n before2) (in_list n own)))
  where
    split : (a b c : Bool) → not ((a || b) || c) ≡ not a && (not b && not c)
    split true b c = refl
    split false true c = refl
    split false false c = refl

-- the entry's name is n; each test answers r
module _
    (arena starts lens a1 s1 l1 a2 s2 l2 : List ℕ)
    (k : ℕ)
    (n : List ℕ)
    (h : k < length starts)
    (is : n ≡ part arena (get_or starts k 0) (get_or lens k 0))
  where
    pub tests : entry_at arena starts lens a1 s1 l1 a2 s2 l2 k
        ≡ every byte_ok n
        && (first_ok n
        && (not (in_list n reserved)
        && (not (in_list n (take (length s1) (names_of a1 s1 l1)))
        && (not (in_list n (take (length s2) (names_of a2 s2 l2))) && not (in_list n (take k (names_of arena starts lens)))))))
    unfolding entry_at
    tests =
        rw (names-all a1 s1 l1, names-all a2 s2 l2, is, ← get_or-names_of arena starts lens k h)
        (entry-tests (names_of a1 s1 l1) (names_of a2 s2 l2) (take k (names_of arena starts lens)) (get_or (names_of arena starts lens) k []))

    pub bytes-bad : {r : Bool} → r ≡ every byte_ok n → not r ≡ true → false ≡ entry_at arena starts lens a1 s1 l1 a2 s2 l2 k
    bytes-bad {r} e q = rw (tests, ← e, not-true r q) refl

    pub first-bad : {r : Bool} → r ≡ first_ok n → not r ≡ true → false ≡ entry_at arena starts lens a1 s1 l1 a2 s2 l2 k
    first-bad {r} e q = rw (tests, ← e, not-true r q, and-false) refl

    pub word-bad : {r : Bool} → r ≡ in_list n reserved → r ≡ true → false ≡ entry_at arena starts lens a1 s1 l1 a2 s2 l2 k
    word-bad {r} e q = rw (tests, ← e, q) (simp and-false)

    pub in-first : {r : Bool} → r ≡ in_list n (take (length s1) (names_of a1 s1 l1)) → r ≡ true → false ≡ entry_at arena starts lens a1 s1 l1 a2 s2 l2 k
    in-first {r} e q = rw (tests, ← e, q) (simp and-false)

    pub in-second : {r : Bool} → r ≡ in_list n (take (length s2) (names_of a2 s2 l2)) → r ≡ true → false ≡ entry_at arena starts lens a1 s1 l1 a2 s2 l2 k
    in-second {r} e q = rw (tests, ← e, q) (simp and-false)

    pub in-own : {r : Bool} → r ≡ in_list n (take k (names_of arena starts lens)) → r ≡ true → false ≡ entry_at arena starts lens a1 s1 l1 a2 s2 l2 k
    in-own {r} e q = rw (tests, ← e, q) (simp and-false)

    pub entry-good : {b f w i1 i2 i0 : Bool} → b ≡ every byte_ok n → not b ≡ false → f ≡ first_ok n → not f ≡ false
        → w ≡ in_list n reserved → w ≡ false → i1 ≡ in_list n (take (length s1) (names_of a1 s1 l1)) → i1 ≡ false
        → i2 ≡ in_list n (take (length s2) (names_of a2 s2 l2)) → i2 ≡ false → i0 ≡ in_list n (take k (names_of arena starts lens)) → i0 ≡ false
        → true ≡ entry_at arena starts lens a1 s1 l1 a2 s2 l2 k
    entry-good {b} {f} eb qb ef qf ew qw e1 q1 e2 q2 e0 q0 =
        rw (tests, ← eb, not-false b qb, ← ef, not-false f qf, ← ew, qw, ← e1, q1, ← e2, q2, ← e0, q0) refl

-- ---------------------------------------------------------------- one entry further

-- the entries from k on
unfoldable pub table_from : List ℕ → List ℕ → List ℕ → List ℕ → List ℕ → List ℕ → List ℕ → List ℕ → List ℕ → ℕ → Bool
table_from arena starts lens a1 s1 l1 a2 s2 l2 k =
    table_ok ((names_of a1 s1 l1 ++ names_of a2 s2 l2) ++ take k (names_of arena starts lens)) (drop k (names_of arena starts lens))

module _ (arena starts lens a1 s1 l1 a2 s2 l2 : List ℕ) where
  pub table-first : table_from arena starts lens a1 s1 l1 a2 s2 l2 0 ≡ table_ok (names_of a1 s1 l1 ++ names_of a2 s2 l2) (names_of arena starts lens)
  unfolding table_from
  table-first = rw append-nil refl

  module _ (k : ℕ) {whole : Bool} (e : table_from arena starts lens a1 s1 l1 a2 s2 l2 k ≡ whole) where
    open-entry : {r : Bool} → k < length starts → r ≡ entry_at arena starts lens a1 s1 l1 a2 s2 l2 k
        → r && table_from arena starts lens a1 s1 l1 a2 s2 l2 (k + 1) ≡ whole
    unfolding table_from entry_at table_ok
    open-entry h q =
        let names : List (List ℕ) = names_of arena starts lens in
        let l : k < length names = rw length-names_of h in
        rw (q, take_step [] names k l, ← append_assoc (names_of a1 s1 l1 ++ names_of a2 s2 l2) (take k names) (get_or names k [] ∷ []))
        (rw (drop-step [] names k l) at e)

    pub table-pass : {r : Bool} → k < length starts → r ≡ entry_at arena starts lens a1 s1 l1 a2 s2 l2 k → not r ≡ false
        → table_from arena starts lens a1 s1 l1 a2 s2 l2 (k + 1) ≡ whole
    table-pass {r} h q t = rw (not-false r t) at (open-entry h q)

    pub table-fail : {r : Bool} → k < length starts → r ≡ entry_at arena starts lens a1 s1 l1 a2 s2 l2 k → not r ≡ true → false ≡ whole
    table-fail {r} h q t = rw (not-true r t) at (open-entry h q)

    pub table-end : length starts ≤ k → true ≡ whole
    unfolding table_from table_ok
    table-end h =
        let l : length (names_of arena starts lens) ≤ k = rw length-names_of h in rw (drop_of_length-le (names_of arena starts lens) l) at e
