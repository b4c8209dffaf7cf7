-- Laws of one record: its size in the new form, the words of its operands, and what of it is 0. Assumes nothing.
use Prim.Native.Nat.{ℕ, zero, suc, ◌+◌, ◌*◌, ◌-◌, ◌≤◌}
use Rattle.std.specs.Prelude.{◌≡◌, refl, Bool, ltb, eqb, length, take, get_or}
use Rattle.std.proofs.Common.{lit≤, ap, sym, ◌∙◌, eqb→eq, length-drop, length-take-le, drop-drop, get_or-drop, take-add, drop_at}
use mathlib.Core.List.{List, [], ◌∷◌, ◌++◌, append_assoc}
use native.Mathlib.Omega.{arith}
use Rattle.std.proofs.Math.Dec.{T}
use Rattle.std.proofs.Math.ListN.{drop, replicate}
use Rattle.std.proofs.lemmas.List.{replicate-append-replicate}
use Rattle.lists.specs.Tests.{every, and_0, and-1, and_T}
use Rattle.lists.specs.Build.{tabulate}
use Rattle.echo_spec.specs.Shapes.{
  Shape,
  var,
  const,
  binary,
  rotation,
  extraction,
  concat,
  extension,
  ite,
  comparison,
  negation,
  connective,
  unary,
  select,
  call,
  unknown,
  shape_of,
  operand_count,
}
use Rattle.echo_spec.specs.Input.{word32, node_at, node_encoded}
use Rattle.short_records.specs.Short.{operand_bytes, filled}

pub at-most-four : (s : Shape) → operand_count s ≤ 4
unfolding operand_count
at-most-four var = lit≤ tt
at-most-four const = lit≤ tt
at-most-four binary = lit≤ tt
at-most-four rotation = lit≤ tt
at-most-four extraction = lit≤ tt
at-most-four concat = lit≤ tt
at-most-four extension = lit≤ tt
at-most-four ite = lit≤ tt
at-most-four comparison = lit≤ tt
at-most-four negation = lit≤ tt
at-most-four connective = lit≤ tt
at-most-four unary = lit≤ tt
at-most-four select = lit≤ tt
at-most-four call = lit≤ tt
at-most-four unknown = lit≤ tt

pub operand-bytes : (k : ℕ) → operand_bytes k ≤ 16
operand-bytes k = omega (arith, at-most-four (shape_of k))

-- ---------------------------------------------------------------- records further on

word-drop : (m : ℕ) (s : List ℕ) (i : ℕ) → word32 (drop m s) i ≡ word32 s (m + i)
unfolding word32
word-drop m s i =
    let a : m + (i + 1) ≡ m + i + 1 = omega arith in
    let b : m + (i + 2) ≡ m + i + 2 = omega arith in
    let c : m + (i + 3) ≡ m + i + 3 = omega arith in
    rw (get_or-drop m s i 0, get_or-drop m s (i + 1) 0, get_or-drop m s (i + 2) 0, get_or-drop m s (i + 3) 0, a, b, c) refl

word_at : (s : List ℕ) (i j : ℕ) → i ≡ j → word32 s i ≡ word32 s j
word_at s i j e = ap (word32 s) e

pub node-drop : (s : List ℕ) (i : ℕ) → node_at s (suc i) ≡ node_at (drop 17 s) i
unfolding node_at
node-drop s i =
    let k : 17 + 17 * i ≡ 17 * suc i = omega arith in
    let a : 17 + (17 * i + 1) ≡ 17 * suc i + 1 = omega arith in
    let b : 17 + (17 * i + 5) ≡ 17 * suc i + 5 = omega arith in
    let c : 17 + (17 * i + 9) ≡ 17 * suc i + 9 = omega arith in
    let d : 17 + (17 * i + 13) ≡ 17 * suc i + 13 = omega arith in
    let ek = ap (λ (n : ℕ). get_or s n 0) (sym k) ∙ sym (get_or-drop 17 s (17 * i) 0) in
    let ea = ap (word32 s) (sym a) ∙ sym (word-drop 17 s (17 * i + 1)) in
    let eb = ap (word32 s) (sym b) ∙ sym (word-drop 17 s (17 * i + 5)) in
    let ec = ap (word32 s) (sym c) ∙ sym (word-drop 17 s (17 * i + 9)) in
    let ed = ap (word32 s) (sym d) ∙ sym (word-drop 17 s (17 * i + 13)) in
    λ j. record { kind = ek j; a = ea j; b = eb j; c = ec j; d = ed j }

tabulate-same : {A : Type 0} (n : ℕ) (f g : ℕ → A) → ((i : ℕ) → f i ≡ g i) → tabulate n f ≡ tabulate n g
tabulate-same n f g h = ap (tabulate n) (λ j i. h i j)

-- the nodes after the first
pub nodes-drop : (n : ℕ) (s : List ℕ) → tabulate n (λ i. node_at s (suc i)) ≡ tabulate n (node_at (drop 17 s))
nodes-drop n s = tabulate-same n (λ i. node_at s (suc i)) (node_at (drop 17 s)) (node-drop s)

-- ---------------------------------------------------------------- the words of a record

-- n words of 32 bits
unfoldable pub words : ℕ → List ℕ → List ℕ
words zero s = []
words (suc n) s = word32 s 0 ∷ words n (drop 4 s)

-- a record's operands are the four words behind its kind
pub operand-words : (k : ℕ) (s : List ℕ) → node_at (k ∷ s) 0 ≡ record { kind = k; a = word32 s 0; b = word32 s 4; c = word32 s 8; d = word32 s 12 }
unfolding node_at word32
operand-words k s = refl

pub four-words : (s : List ℕ) → words 4 s ≡ word32 s 0 ∷ word32 s 4 ∷ word32 s 8 ∷ word32 s 12 ∷ []
unfolding words
four-words s = simp (drop-drop, word-drop)

words-drop : (c n : ℕ) (s : List ℕ) → c ≤ n → drop c (words n s) ≡ words (n - c) (drop (4 * c) s)
unfolding words
words-drop zero n s h = let e : n - 0 ≡ n = omega arith in rw e refl
words-drop (suc c) zero s h = absurd (omega arith)
words-drop (suc c) (suc n) s h =
    let e : suc n - suc c ≡ n - c = omega arith in
    let f : 4 + 4 * c ≡ 4 * suc c = omega arith in
    words-drop c n (drop 4 s) (omega arith) ∙ rw (e, ← f, drop-drop) refl

-- ---------------------------------------------------------------- words that are 0

-- as `node_encoded` tests the operands that a kind does not have
abbrev is_zero : ℕ → Bool
is_zero x = eqb x 0

pub record Four (s : List ℕ) : Type 0 where
  pub a : ℕ
  pub b : ℕ
  pub c : ℕ
  pub d : ℕ
  pub rest : List ℕ
  pub is : s ≡ a ∷ b ∷ c ∷ d ∷ rest

pub four-first : (s : List ℕ) → 4 ≤ length s → Four s
four-first [] h = absurd (omega arith)
four-first (a ∷ []) h = absurd (omega arith)
four-first (a ∷ b ∷ []) h = absurd (omega arith)
four-first (a ∷ b ∷ c ∷ []) h = absurd (omega arith)
four-first (a ∷ b ∷ c ∷ d ∷ s) h = record { a = a; b = b; c = c; d = d; rest = s; is = refl }

zero_word : (a b c d : ℕ) (s : List ℕ) → word32 (a ∷ b ∷ c ∷ d ∷ s) 0 ≡ 0 → a ∷ b ∷ c ∷ d ∷ [] ≡ replicate 4 0
unfolding word32
zero_word a b c d s h =
    let ea : a ≡ 0 = omega arith in
    let eb : b ≡ 0 = omega arith in
    let ec : c ≡ 0 = omega arith in
    let ed : d ≡ 0 = omega arith in
    rw (ea, eb, ec, ed) refl

-- bytes whose words are 0 are 0
zero-words : (n : ℕ) (s : List ℕ) → 4 * n ≤ length s → T (every is_zero (words n s)) → take (4 * n) s ≡ replicate (4 * n) 0
unfolding words
zero-words zero s h t = refl
zero-words (suc n) s h t =
    let f = four-first s (omega arith) in
    let w : word32 s 0 ≡ 0 = eqb→eq (word32 s 0) 0 (and_0 (is_zero (word32 s 0)) (every is_zero (words n (drop 4 s))) t) in
    let u : T (every is_zero (words n (drop 4 s))) = and-1 (is_zero (word32 s 0)) (every is_zero (words n (drop 4 s))) t in
    let e : 4 * suc n ≡ 4 + 4 * n = omega arith in
    let l : 4 * n ≤ length (drop 4 s) = omega (arith, length-drop 4 s) in
    let z : take 4 s ≡ replicate 4 0 = ap (take 4) f.is ∙ zero_word f.a f.b f.c f.d f.rest (rw f.is at w) in
    let r : take (4 * n) (drop 4 s) ≡ replicate (4 * n) 0 = zero-words n (drop 4 s) l u in
    ap (λ (m : ℕ). take m s) e ∙ take-add 4 (4 * n) s ∙ (λ i. z i ++ r i) ∙ replicate-append-replicate {A = ℕ} 4 (4 * n) 0
    ∙ ap (λ (m : ℕ). replicate {A = ℕ} m 0) (sym e)

-- the words of bytes that are 0 are 0
words-zero : (n : ℕ) (s : List ℕ) → T (every is_zero (words n (replicate (4 * n) 0 ++ s)))
unfolding words word32
words-zero zero s = tt
words-zero (suc n) s =
    let e : 4 * suc n ≡ suc (suc (suc (suc (4 * n)))) = omega arith in
    rw e (words-zero n s)

-- ---------------------------------------------------------------- a record, cut and filled

-- a kind and the bytes behind it: cut to its size, and filled again, it is the record that it was, where it is encoded
module _ (k : ℕ) (s : List ℕ) where
  pub known : T (node_encoded (node_at (k ∷ s) 0)) → T (ltb k 39)
  unfolding node_encoded node_at
  known t = and_0 (ltb k 39) _ t

  spare : T (node_encoded (node_at (k ∷ s) 0)) → T (every is_zero (drop (operand_count (shape_of k)) (words 4 s)))
  unfolding node_encoded
  spare t = rw (four-words s) (and-1 (ltb k 39) _ (rw (operand-words k s) at t))

  pub cut-filled : T (node_encoded (node_at (k ∷ s) 0)) → 16 ≤ length s → filled (k ∷ take (operand_bytes k) s) ≡ k ∷ take 16 s
  cut-filled t l =
      let c : ℕ = operand_count (shape_of k) in
      let m : c ≤ 4 = at-most-four (shape_of k) in
      let size : length (take (4 * c) s) ≡ 4 * c = length-take-le (4 * c) s (omega arith) in
      let e : 17 - suc (length (take (4 * c) s)) ≡ 4 * (4 - c) = omega arith in
      let z : take (4 * (4 - c)) (drop (4 * c) s) ≡ replicate (4 * (4 - c)) 0 =
      zero-words (4 - c) (drop (4 * c) s) (omega (arith, length-drop (4 * c) s)) (rw (words-drop c 4 s m) at (spare t)) in
      let f : 16 ≡ 4 * c + 4 * (4 - c) = omega arith in
      rw (e, ← z) (ap (λ (r : List ℕ). k ∷ r) (sym (take-add (4 * c) (4 * (4 - c)) s) ∙ ap (λ (n : ℕ). take n s) (sym f)))

-- a record of the new form, filled, is encoded
module _ (k : ℕ) (x r : List ℕ) (l : T (ltb k 39)) (size : length x ≡ operand_bytes k) where
  pub filled-encoded : T (node_encoded (node_at (filled (k ∷ x) ++ r) 0))
  unfolding node_encoded
  filled-encoded =
      let c : ℕ = operand_count (shape_of k) in
      let m : c ≤ 4 = at-most-four (shape_of k) in
      let e : 17 - suc (length x) ≡ 4 * (4 - c) = omega arith in
      let s : List ℕ = (x ++ replicate (17 - suc (length x)) 0) ++ r in
      let f : drop (4 * c) s ≡ replicate (4 * (4 - c)) 0 ++ r = rw (append_assoc, e) (drop_at x (replicate (4 * (4 - c)) 0 ++ r) (4 * c) size) in
      let z : T (every is_zero (drop c (words 4 s))) = rw (words-drop c 4 s m, f) (words-zero (4 - c) r) in
      rw (operand-words k s) (and_T (ltb k 39) _ l (rw (four-words s) at z))
