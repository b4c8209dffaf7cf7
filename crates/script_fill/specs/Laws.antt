-- Laws of outputs that are filled from the front, and of the names in them.
use Rattle.std.specs.Prelude.{ℕ, zero, suc, ◌+◌, ◌≤◌, ◌<◌, ◌≡◌, refl, List, [], ◌∷◌, ◌++◌, map, length, take, drop, get_or, set}
use Rattle.std.proofs.Common.{ap, sym, ◌∙◌, append_assoc, append-nil, arith, length-append, length-drop, length-set, take-suc, take_all, take_at, drop_at, drop-drop, drop-cons, length-take-le}
use Rattle.std.proofs.lemmas.List.{set_at}
use Rattle.std.proofs.Math.ListN.{get_or-map}
use Rattle.std.proofs.Math.Seq.{append_snoc, paste}
use Rattle.reading.specs.Trees.{Name}
use Rattle.echo_spec.specs.Answers.{at_front}
use Rattle.readback.specs.Rebuild.{starts_counted_from, count_from, arena}

-- ---------------------------------------------------------------- from the front on

pub front-none : (o : List ℕ) → o ≡ at_front [] o
front-none o = refl

pub front_long : (l o : List ℕ) → length l ≤ length o → length (at_front l o) ≡ length o
front_long l o h = let x = length-append l (drop (length l) o) in let y = length-drop (length l) o in omega arith

-- one element more
pub front-more : (l o : List ℕ) (i x : ℕ) → length l ≡ i → i < length o → set (at_front l o) i x ≡ at_front (l ++ (x ∷ [])) o
front-more l o i x e h =
    let k : length l < length o = omega arith in
    let n : suc (length l) ≡ length (l ++ (x ∷ [])) = (let y = length-append l (x ∷ []) in omega arith) in
    ap (λ (r : List ℕ). set (l ++ r) i x) (drop-cons o (length l) 0 k) ∙ set_at l (get_or o (length l) 0) (drop (suc (length l)) o) x i e
    ∙ sym (append_snoc l x (drop (suc (length l)) o)) ∙ ap (λ (j : ℕ). (l ++ (x ∷ [])) ++ drop j o) n

-- the elements of a list, one after the other
pub front-next : (l o : List ℕ) (i : ℕ) {x : ℕ} → get_or l i 0 ≡ x → i < length l → i < length o → set (at_front (take i l) o) i x ≡ at_front (take (i + 1) l) o
front-next l o i {x} e h k =
    let z : i + 1 ≡ suc i = omega arith in
    let y : take (suc i) l ≡ take i l ++ (x ∷ []) = take-suc l i 0 h ∙ ap (λ (v : ℕ). take i l ++ (v ∷ [])) e in
    front-more (take i l) o i x (length-take-le i l (omega arith)) k ∙ ap (λ (m : List ℕ). at_front m o) (sym y ∙ ap (λ (j : ℕ). take j l) (sym z))

pub front-whole : (l o : List ℕ) (i : ℕ) → length l ≤ i → at_front (take i l) o ≡ at_front l o
front-whole l o i h = ap (λ (m : List ℕ). at_front m o) (take_all i l h)

-- a list more
pub front-paste : (l o w : List ℕ) (at n : ℕ) → length l ≡ at → length w ≡ n → paste (at_front l o) at w n ≡ at_front (l ++ w) o
front-paste l o w at n e q =
    let a : take at (at_front l o) ≡ l = take_at l (drop (length l) o) at e in
    let b : take n w ≡ w = take_all n w (omega arith) in
    let c : drop at (at_front l o) ≡ drop (length l) o = drop_at l (drop (length l) o) at e in
    let m : length l + n ≡ length (l ++ w) = (let y = length-append l w in omega arith) in
    let d : drop (at + n) (at_front l o) ≡ drop (length (l ++ w)) o =
    sym (drop-drop n at (at_front l o)) ∙ ap (drop n) c ∙ drop-drop n (length l) o ∙ ap (λ (j : ℕ). drop j o) m in
    (λ i. (a i ++ b i) ++ d i)

-- the first n elements at once
pub front-part : (l o : List ℕ) (n : ℕ) → n ≤ length l → paste o 0 l n ≡ at_front (take n l) o
front-part l o n h =
    let x = length-take-le n l h in
    let y : 0 + n ≡ length (take n l) = omega arith in
    ap (λ (j : ℕ). take n l ++ drop j o) y

-- ---------------------------------------------------------------- numbers in order

count_long : (k n : ℕ) → length (count_from k n) ≡ n
unfolding count_from
count_long k zero = refl
count_long k (suc n) = ap suc (count_long (suc k) n)

pub counts-long : (n : ℕ) → length (count_from 0 n) ≡ n
counts-long n = count_long 0 n

count-from : (k n i : ℕ) → i < n → get_or (count_from k n) i 0 ≡ k + i
unfolding count_from
count-from k zero i h = absurd (omega arith)
count-from k (suc n) zero h = omega arith
count-from k (suc n) (suc i) h = let e = count-from (suc k) n i (omega arith) in omega arith

pub count_at : (n i : ℕ) → i < n → get_or (count_from 0 n) i 0 ≡ i
count_at n i h = let e = count-from 0 n i h in omega arith

-- ---------------------------------------------------------------- one name more

pub arena-more : (ns : List Name) (n : Name) → arena (ns ++ (n ∷ [])) ≡ arena ns ++ n
unfolding arena
arena-more [] n = append-nil n
arena-more (m ∷ ns) n = ap (λ (r : List ℕ). m ++ r) (arena-more ns n) ∙ sym (append_assoc m (arena ns) n)

starts_from : (k : ℕ) (ns : List Name) (n : Name) → starts_counted_from k (ns ++ (n ∷ [])) ≡ starts_counted_from k ns ++ ((k + length (arena ns)) ∷ [])
unfolding starts_counted_from arena
starts_from k [] n = let z : k ≡ k + 0 = omega arith in ap (λ (j : ℕ). j ∷ []) z
starts_from k (m ∷ ns) n =
    let x = length-append m (arena ns) in
    let z : k + length m + length (arena ns) ≡ k + length (m ++ arena ns) = omega arith in
    ap (λ (r : List ℕ). k ∷ r) (starts_from (k + length m) ns n ∙ ap (λ (j : ℕ). starts_counted_from (k + length m) ns ++ (j ∷ [])) z)

pub starts_more : (ns : List Name) (n : Name) → starts_counted_from 0 (ns ++ (n ∷ [])) ≡ starts_counted_from 0 ns ++ (length (arena ns) ∷ [])
starts_more ns n = let z : 0 + length (arena ns) ≡ length (arena ns) = omega arith in starts_from 0 ns n ∙ ap (λ (j : ℕ). starts_counted_from 0 ns ++ (j ∷ [])) z

starts-count : (k : ℕ) (ns : List Name) → length (starts_counted_from k ns) ≡ length ns
unfolding starts_counted_from
starts-count k [] = refl
starts-count k (n ∷ ns) = ap suc (starts-count (k + length n) ns)

pub starts-long : (ns : List Name) → length (starts_counted_from 0 ns) ≡ length ns
starts-long ns = starts-count 0 ns

pub lengths-more : (ns : List Name) (n : Name) → map length (ns ++ (n ∷ [])) ≡ map length ns ++ (length n ∷ [])
lengths-more [] n = refl
lengths-more (m ∷ ns) n = ap (λ (r : List ℕ). length m ∷ r) (lengths-more ns n)

-- ---------------------------------------------------------------- one element a turn

-- the first i elements of the list are written
pub record Going (l o out : List ℕ) (i : ℕ) : Type 0 where
  pub size : length out ≡ length o
  pub now : out ≡ at_front (take i l) o

pub going-none : (l o : List ℕ) → Going l o o 0
going-none l o = record { size = refl; now = front-none o }

pub going_next : {l o out : List ℕ} {i x : ℕ} → Going l o out i → get_or l i 0 ≡ x → i < length l → i < length o → Going l o (set out i x) (i + 1)
going_next {l} {o} {out} {i} {x} g e h k = record { size = length-set out i x ∙ g.size; now = ap (λ (r : List ℕ). set r i x) g.now ∙ front-next l o i e h k }

pub going_end : {l o out : List ℕ} {i : ℕ} → Going l o out i → length l ≤ i → out ≡ at_front l o
going_end {l} {o} {out} {i} g h = g.now ∙ front-whole l o i h

-- a column of a table
pub column_at : {A : Type 0} (f : A → ℕ) (d : A) → f d ≡ 0 → (xs : List A) (i : ℕ) → get_or (map f xs) i 0 ≡ f (get_or xs i d)
column_at f d e xs i = ap (λ (z : ℕ). get_or (map f xs) i z) (sym e) ∙ get_or-map f xs i d
