-- Use counts that saturate at two: after counting the nodes us from nothing, entry i is min (count i us) 2.
use Prim.Native.Nat.{ℕ, zero, suc, ◌+◌, ◌-◌, ◌≤◌, ◌<◌, min}
use Rattle.std.specs.Prelude.{◌≡◌, refl, List, [], ◌∷◌, ◌++◌, Bool, true, false, ◌&&◌, ◌||◌, leb, eqb, get_or, set, drop, replicate}
use Rattle.std.proofs.Common.{sym, ◌∙◌, length-set, drop_of_length-le, drop-cons, get_or-set_same, get_or-set_other, eqb-true, le-leb, leb-true, leb-false}
use native.Mathlib.Omega.{arith}
use Rattle.std.proofs.Math.Numerals.{add-one}
use Rattle.std.proofs.Math.ListN.{length}
use Rattle.std.proofs.lemmas.List.{length-replicate, get_or-replicate}
use Rattle.std.proofs.Math.Seq.{set_out}
use Rattle.std.proofs.lemmas.Bool.{eqb-false, lt-leb}
use Rattle.lists.specs.Tests.{every_from}
use Rattle.echo_spec.specs.Shapes.{is_leaf}
use Rattle.echo_spec.specs.Input.{Node, shape, no_node, node_at, nodes_of}
use Rattle.echo_spec.specs.Sharing.{uses_as, uses_of_all, count, used_once, unshared}
use Rattle.lent.specs.Records.{nodes-length, nodes-at}

-- ---------------------------------------------------------------- definitions

-- one use more, saturating at two
abbrev pub more : ℕ → ℕ
more c = min (c + 1) 2

-- one more use of node i; a node past the table is not counted
unfoldable pub bumped : List ℕ → ℕ → List ℕ
bumped uses i = set uses i (more (get_or uses i 0))

-- one more use of each of the nodes us
unfoldable pub counted : List ℕ → List ℕ → List ℕ
counted uses [] = uses
counted uses (i ∷ us) = counted (bumped uses i) us

-- `used_once`, by the counts
unfoldable pub once_in : List ℕ → List Node → ℕ → Bool
once_in uses ns i = is_leaf (shape (get_or ns i no_node)) || leb (get_or uses i 0) 1

-- ---------------------------------------------------------------- one use

pub bump-past : (uses : List ℕ) (i : ℕ) → length uses ≤ i → uses ≡ bumped uses i
unfolding bumped
bump-past uses i h = sym (set_out uses i (more (get_or uses i 0)) h)

length-bumped : (uses : List ℕ) (i : ℕ) → length (bumped uses i) ≡ length uses
unfolding bumped
length-bumped uses i = length-set uses i (more (get_or uses i 0))

bumped-same : (uses : List ℕ) (i : ℕ) → i < length uses → get_or (bumped uses i) i 0 ≡ min (get_or uses i 0 + 1) 2
unfolding bumped
bumped-same uses i h = get_or-set_same uses i (more (get_or uses i 0)) 0 h

bumped-other : (uses : List ℕ) (x i : ℕ) → (x ≡ i → ⊥) → get_or (bumped uses x) i 0 ≡ get_or uses i 0
unfolding bumped
bumped-other uses x i h = get_or-set_other uses x i (more (get_or uses x 0)) 0 (λ e. h (sym e))

-- ---------------------------------------------------------------- many uses

pub counted-append : (uses xs ys : List ℕ) → counted uses (xs ++ ys) ≡ counted (counted uses xs) ys
unfolding counted
counted-append uses [] ys = refl
counted-append uses (x ∷ xs) ys = counted-append (bumped uses x) xs ys

pub length-counted : (uses us : List ℕ) → length (counted uses us) ≡ length uses
unfolding counted
length-counted uses [] = refl
length-counted uses (x ∷ us) = length-counted (bumped uses x) us ∙ length-bumped uses x

pub counted-at : (uses us : List ℕ) (i : ℕ) → i < length uses → get_or uses i 0 ≤ 2 → get_or (counted uses us) i 0 ≡ min (get_or uses i 0 + count i us) 2
unfolding counted count
counted-at uses [] i h k = omega arith
counted-at uses (x ∷ us) i h k =
    go (eqb x i) refl (λ k'. counted-at (bumped uses x) us i (rw length-bumped h) k')
  where
    go : (b : Bool) → eqb x i ≡ b
        → (get_or (bumped uses x) i 0 ≤ 2 → get_or (counted (bumped uses x) us) i 0 ≡ min (get_or (bumped uses x) i 0 + count i us) 2)
        → get_or (counted (bumped uses x) us) i 0 ≡ min (get_or uses i 0 + (elim b [ true ↦ suc (count i us) | false ↦ count i us ])) 2
    go true e rest =
        let q : x ≡ i = eqb-true x i e in
        let s : get_or (bumped uses x) i 0 ≡ min (get_or uses i 0 + 1) 2 = rw q (bumped-same uses i h) in
        rest (omega arith) ∙ rw s (omega arith)
    go false e rest =
        let s : get_or (bumped uses x) i 0 ≡ get_or uses i 0 = bumped-other uses x i (eqb-false x i e) in
        rest (omega arith) ∙ rw s refl

pub counted_zeros : (n : ℕ) (us : List ℕ) (i : ℕ) → i < n → get_or (counted (replicate n 0) us) i 0 ≡ min (count i us) 2
counted_zeros n us i h =
    let z : ◌≡◌ {A = ℕ} (get_or (replicate n 0) i 0) 0 = get_or-replicate n i 0 0 h in
    let e : get_or (counted (replicate n 0) us) i 0 ≡ min (get_or (replicate n 0) i 0 + count i us) 2 =
    counted-at (replicate n 0) us i (rw length-replicate h) (omega arith) in
    rw e (rw z (omega arith))

-- ---------------------------------------------------------------- the nodes

at-node : (s : List ℕ) (i : ℕ) → i < length (nodes_of s) → get_or (nodes_of s) i no_node ≡ node_at s i
at-node s i h = nodes-at s no_node i (omega (arith, nodes-length s))

-- the uses of the nodes from i on
unfoldable pub counted_from : List ℕ → List ℕ → List ℕ → ℕ → List ℕ
counted_from uses side s i = counted uses (uses_of_all side (drop i (nodes_of s)))

module _ (uses side s : List ℕ) (i : ℕ) {whole : List ℕ} (e : counted_from uses side s i ≡ whole) where
  -- m is the record that was taken apart
  pub node-next : {uses' : List ℕ} {m : Node} → i < length (nodes_of s) → m ≡ node_at s i → uses' ≡ counted uses (uses_as side m (shape m))
      → counted_from uses' side s (i + 1) ≡ whole
  unfolding counted_from uses_of_all
  node-next h p q = rw (q, p, add-one, ← counted-append) (rw (drop-cons (nodes_of s) i no_node h, at-node s i h) at e)

  pub node_end : length (nodes_of s) ≤ i → uses ≡ whole
  unfolding counted_from uses_of_all counted
  node_end h = rw (drop_of_length-le (nodes_of s) h) at e

-- ---------------------------------------------------------------- the test

-- the tests from i on
unfoldable pub once_from : List ℕ → List ℕ → ℕ → Bool
once_from uses s i = every_from (once_in uses (nodes_of s)) i (length (nodes_of s) - i)

pub once-first : (uses s : List ℕ) → once_from uses s 0 ≡ every_from (once_in uses (nodes_of s)) 0 (length (nodes_of s))
unfolding once_from
once-first uses s = let z : length (nodes_of s) - 0 ≡ length (nodes_of s) = omega arith in rw (once_from, z) refl

-- the test of node i, by its record
pub once-here : (uses s : List ℕ) (i : ℕ) {r : Bool} {m : Node} → i < length (nodes_of s) → m ≡ node_at s i → r ≡ is_leaf (shape m) || leb (get_or uses i 0) 1
    → r ≡ once_in uses (nodes_of s) i
unfolding once_in
once-here uses s i h p q = rw (q, p, ← at-node s i h) refl

module _ (uses s : List ℕ) (i : ℕ) {whole : Bool} (e : once_from uses s i ≡ whole) where
  once-step : {r : Bool} {m : Node} → i < length (nodes_of s) → m ≡ node_at s i → r ≡ is_leaf (shape m) || leb (get_or uses i 0) 1
      → r && once_from uses s (i + 1) ≡ whole
  unfolding once_from
  once-step h p q =
      let a : length (nodes_of s) - i ≡ suc (length (nodes_of s) - (i + 1)) = omega arith in
      rw (once-here uses s i h p q, add-one) (rw (a, add-one) at e)

  pub once-pass : {r : Bool} {m : Node} → i < length (nodes_of s) → m ≡ node_at s i → r ≡ is_leaf (shape m) || leb (get_or uses i 0) 1
      → r ≡ true → once_from uses s (i + 1) ≡ whole
  once-pass h p q t = rw t at (once-step h p q)

  pub once-fail : {r : Bool} {m : Node} → i < length (nodes_of s) → m ≡ node_at s i → r ≡ is_leaf (shape m) || leb (get_or uses i 0) 1
      → r ≡ false → false ≡ whole
  once-fail h p q t = rw t at (once-step h p q)

  pub once-end : length (nodes_of s) ≤ i → true ≡ whole
  unfolding once_from
  once-end h = let a : length (nodes_of s) - i ≡ 0 = omega arith in rw a at e

pub every_from-same : (p q : ℕ → Bool) (a n : ℕ) → ((k : ℕ) → a ≤ k → k < a + n → p k ≡ q k) → every_from p a n ≡ every_from q a n
every_from-same p q a zero h = refl
every_from-same p q a (suc n) h =
    rw (h a (omega arith) (omega arith), every_from-same p q (suc a) n (λ k l m. h k (omega arith) (omega arith))) refl

pub leb-min : (n : ℕ) → leb (min n 2) 1 ≡ leb n 1
leb-min n = go (leb n 1) refl
  where
    go : (b : Bool) → leb n 1 ≡ b → leb (min n 2) 1 ≡ b
    go true e = let h : n ≤ 1 = leb-true n 1 e in le-leb (min n 2) 1 (omega arith)
    go false e = let h : 1 < n = leb-false n 1 e in lt-leb (min n 2) 1 (omega arith)

-- the counts of all uses, from nothing, and the test of them
module _ (s side roots : List ℕ) (small : length s ≤ 34816) {all : List ℕ}
    (e : all ≡ counted (replicate 2048 0) (uses_of_all side (nodes_of s) ++ roots)) where
  pub once_is : (j : ℕ) → j < length (nodes_of s) → once_in all (nodes_of s) j ≡ used_once (nodes_of s) (uses_of_all side (nodes_of s) ++ roots) j
  unfolding once_in used_once
  once_is j l =
      let us : List ℕ = uses_of_all side (nodes_of s) ++ roots in
      let n = nodes-length s in
      rw (e, counted_zeros 2048 us j (omega arith), leb-min) refl

  pub guard : {r : Bool} → r ≡ every_from (once_in all (nodes_of s)) 0 (length (nodes_of s)) → r ≡ unshared (nodes_of s) side roots
  unfolding unshared
  guard q =
      q
      ∙ every_from-same (once_in all (nodes_of s)) (used_once (nodes_of s) (uses_of_all side (nodes_of s) ++ roots)) 0 (length (nodes_of s))
      (λ k a b. once_is k (omega arith))
