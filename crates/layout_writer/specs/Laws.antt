-- The reader of `print_problem` gives back the problem whose layout it reads. Assumes nothing.
use Rattle.std.specs.Prelude.{ℕ, zero, suc, ◌+◌, ◌*◌, ◌/◌, ◌%◌, ◌≤◌, ◌<◌, List, [], ◌∷◌, ◌++◌, ◌≡◌, refl, T, leb, take, get_or}
use Rattle.std.proofs.Common.{append_assoc, append-nil, ap, sym, ◌∙◌, mul-le-mul_left, arith, le-leb, leb→le, length-append, get_or-append-add}
use Rattle.std.proofs.Math.ListN.{length}
use Rattle.std.proofs.Math.Seq.{take-append_seam, drop-append_seam}
use Rattle.lists.specs.Tests.{every, All, by-test, and_0, and-1}
use Rattle.lists.specs.Build.{tabulate, tabulate-places}
use Rattle.echo_spec.specs.Input.{Problem, nodes_within, column_within, arena_within, within_limits, word32}
use Rattle.lent.specs.Lent.{problem_of}
use Rattle.input_parts.specs.Parts.{sizes, size_of, word64, bytes_at, numbers_at}
use Rattle.layout_shape.specs.Layout.{inputs, input_at, place_of, count_of, bytes_of, numbers_of, problem_in, inputs_from, layout, given}
use Rattle.layout_shape.specs.LayoutLaws.{one_input, next_place, longest, longest-problem}
use Rattle.layout_bytes.specs.Encoding.{le64, numbers_bytes, Input, bytes, numbers, input_bytes, inputs_bytes, inputs_of, bytes_of_layout}

-- ---------------------------------------------------------------- a number

-- a number by its digits to the base 256
chain : (n a b c d e f g r₀ r₁ r₂ r₃ r₄ r₅ r₆ : ℕ) → n ≡ r₀ + 256 * a → a ≡ r₁ + 256 * b → b ≡ r₂ + 256 * c → c ≡ r₃ + 256 * d → d ≡ r₄ + 256 * e → e ≡ r₅ + 256 * f
    → f ≡ r₆ + 256 * g → r₀ + 256 * r₁ + 65536 * r₂ + 16777216 * r₃ + 4294967296 * (r₄ + 256 * r₅ + 65536 * r₆ + 16777216 * g) ≡ n
chain n a b c d e f g r₀ r₁ r₂ r₃ r₄ r₅ r₆ p₀ p₁ p₂ p₃ p₄ p₅ p₆ = omega arith

digit : (n : ℕ) → n ≡ n % 256 + 256 * (n / 256)
digit n = omega arith

digit-1 : (n : ℕ) → n / 256 ≡ n / 256 % 256 + 256 * (n / 65536)
digit-1 n = omega arith

digit-2 : (n : ℕ) → n / 65536 ≡ n / 65536 % 256 + 256 * (n / 16777216)
digit-2 n = omega arith

digit-3 : (n : ℕ) → n / 16777216 ≡ n / 16777216 % 256 + 256 * (n / 4294967296)
digit-3 n = omega arith

digit-4 : (n : ℕ) → n / 4294967296 ≡ n / 4294967296 % 256 + 256 * (n / 1099511627776)
digit-4 n = omega arith

digit-5 : (n : ℕ) → n / 1099511627776 ≡ n / 1099511627776 % 256 + 256 * (n / 281474976710656)
digit-5 n = omega arith

digit-6 : (n : ℕ) → n / 281474976710656 ≡ n / 281474976710656 % 256 + 256 * (n / 72057594037927936)
digit-6 n = omega arith

past : (pre r : List ℕ) (j i : ℕ) → i ≡ length pre + j → get_or (pre ++ r) i 0 ≡ get_or r j 0
past pre r j i e = rw e (get_or-append-add pre r j 0)

pub length-le64 : (n : ℕ) → length (le64 n) ≡ 8
unfolding le64
length-le64 n = refl

-- the bytes are those of n, and so is the number that is read there
number_is : (n : ℕ) → word64 (le64 n) 0 ≡ n
unfolding le64 word64 word32
number_is n =
    chain n (n / 256) (n / 65536) (n / 16777216) (n / 4294967296) (n / 1099511627776) (n / 281474976710656) (n / 72057594037927936) (n % 256) (n / 256 % 256) (n / 65536 % 256)
    (n / 16777216 % 256) (n / 4294967296 % 256) (n / 1099511627776 % 256) (n / 281474976710656 % 256) (digit n) (digit-1 n) (digit-2 n) (digit-3 n) (digit-4 n) (digit-5 n) (digit-6 n)

pub word_at : (pre rest : List ℕ) (n : ℕ) → word64 (pre ++ (le64 n ++ rest)) (length pre) ≡ n
unfolding le64 word64 word32
word_at pre rest n =
    let r : List ℕ = le64 n ++ rest in
    let a = past pre r 0 (length pre) (omega arith) in
    let b = past pre r 1 (length pre + 1) (omega arith) in
    let c = past pre r 2 (length pre + 2) (omega arith) in
    let d = past pre r 3 (length pre + 3) (omega arith) in
    let e = past pre r 4 (length pre + 4) (omega arith) in
    let f = past pre r 5 (length pre + 4 + 1) (omega arith) in
    let g = past pre r 6 (length pre + 4 + 2) (omega arith) in
    let h = past pre r 7 (length pre + 4 + 3) (omega arith) in
    (λ i. (a i + 256 * b i + 65536 * c i + 16777216 * d i) + 4294967296 * (e i + 256 * f i + 65536 * g i + 16777216 * h i)) ∙ number_is n

-- ---------------------------------------------------------------- numbers

pub length-numbers : (xs : List ℕ) → length (numbers_bytes xs) ≡ 8 * length xs
unfolding numbers_bytes
length-numbers [] = refl
length-numbers (x ∷ xs) =
    let a = length-append (le64 x) (numbers_bytes xs) in
    let b = length-le64 x in
    let c = length-numbers xs in
    omega arith

number_at : (pre rest xs : List ℕ) (j : ℕ) → j < length xs → word64 (pre ++ (numbers_bytes xs ++ rest)) (length pre + 8 * j) ≡ get_or xs j 0
unfolding numbers_bytes
number_at pre rest [] j h = absurd (omega arith)
number_at pre rest (x ∷ xs) zero h =
    let z : length pre + 8 * 0 ≡ length pre = omega arith in
    rw (z, append_assoc (le64 x) (numbers_bytes xs) rest) (word_at pre (numbers_bytes xs ++ rest) x)
number_at pre rest (x ∷ xs) (suc j) h =
    let l : length (pre ++ le64 x) ≡ length pre + 8 = length-append pre (le64 x) ∙ ap (λ (n : ℕ). length pre + n) (length-le64 x) in
    let z : length pre + 8 * suc j ≡ length (pre ++ le64 x) + 8 * j = omega arith in
    let e : pre ++ ((le64 x ++ numbers_bytes xs) ++ rest) ≡ (pre ++ le64 x) ++ (numbers_bytes xs ++ rest) =
    ap (λ (ys : List ℕ). pre ++ ys) (append_assoc (le64 x) (numbers_bytes xs) rest) ∙ sym (append_assoc pre (le64 x) (numbers_bytes xs ++ rest)) in
    rw (z, e) (number_at (pre ++ le64 x) rest xs j (omega arith))

tabulate-below : (n : ℕ) (f g : ℕ → ℕ) → ((i : ℕ) → i < n → f i ≡ g i) → tabulate n f ≡ tabulate n g
tabulate-below zero f g h = refl
tabulate-below (suc n) f g h =
    let a = h 0 (omega arith) in
    let b = tabulate-below n (λ i. f (suc i)) (λ i. g (suc i)) (λ i l. h (suc i) (omega arith)) in
    λ j. a j ∷ b j

numbers-are : (pre rest xs : List ℕ) → numbers_at (pre ++ (numbers_bytes xs ++ rest)) (length pre) (length xs) ≡ xs
numbers-are pre rest xs =
    tabulate-below (length xs) (λ j. word64 (pre ++ (numbers_bytes xs ++ rest)) (length pre + 8 * j)) (λ j. get_or xs j 0) (number_at pre rest xs)
    ∙ tabulate-places 0 xs

bytes-are : (pre rest xs : List ℕ) → bytes_at (pre ++ (xs ++ rest)) (length pre) (length xs) ≡ xs
bytes-are pre rest xs = ap (take (length xs)) (drop-append_seam pre (xs ++ rest)) ∙ take-append_seam xs rest

-- ---------------------------------------------------------------- an input

abbrev count : Input → ℕ
count (bytes xs) = length xs
count (numbers xs) = length xs

abbrev size : Input → ℕ
size (bytes xs) = 1
size (numbers xs) = 8

elements : Input → List ℕ
elements (bytes xs) = xs
elements (numbers xs) = numbers_bytes xs

input-parts : (x : Input) → input_bytes x ≡ le64 (count x) ++ elements x
unfolding input_bytes elements
input-parts (bytes xs) = refl
input-parts (numbers xs) = refl

length-elements : (x : Input) → length (elements x) ≡ size x * count x
unfolding elements
length-elements (bytes xs) = let n : ℕ = length xs in let e : n ≡ 1 * n = omega arith in e
length-elements (numbers xs) = length-numbers xs

-- what the reader has for input k
abbrev Given : List ℕ → ℕ → Input → Type 0
Given s k (bytes xs) = bytes_of s k ≡ xs
Given s k (numbers xs) = numbers_of s k ≡ xs

abbrev AllGiven : List ℕ → ℕ → List Input → Type 0
AllGiven s k [] = Unit
AllGiven s k (x ∷ xs) = Given s k x × AllGiven s (suc k) xs

-- an input has elements of its size, and within its limit
abbrev Fits : ℕ → List Input → Type 0
Fits k [] = Unit
Fits k (x ∷ xs) = (size_of k ≡ size x) × (count x ≤ (input_at k).limit) × Fits (suc k) xs

module _ (s pre rest : List ℕ) (k : ℕ) (x : Input) (e : s ≡ pre ++ (input_bytes x ++ rest)) (p : place_of s k ≡ length pre) where
  parted : s ≡ pre ++ (le64 (count x) ++ (elements x ++ rest))
  parted = e ∙ ap (λ (ys : List ℕ). pre ++ (ys ++ rest)) (input-parts x) ∙ ap (λ (ys : List ℕ). pre ++ ys) (append_assoc (le64 (count x)) (elements x) rest)

  count-is : count_of s k ≡ count x
  count-is = (λ i. word64 (parted i) (p i)) ∙ word_at pre (elements x ++ rest) (count x)

  abbrev before : List ℕ
  before = pre ++ le64 (count x)

  parted-2 : s ≡ before ++ (elements x ++ rest)
  parted-2 = parted ∙ sym (append_assoc pre (le64 (count x)) (elements x ++ rest))

  before-long : length before ≡ place_of s k + 8
  before-long = length-append pre (le64 (count x)) ∙ (λ i. sym p i + length-le64 (count x) i)

  all-long : length (pre ++ input_bytes x) ≡ place_of s k + 8 + size x * count x
  all-long =
      ap (λ (ys : List ℕ). length (pre ++ ys)) (input-parts x) ∙ ap length (sym (append_assoc pre (le64 (count x)) (elements x)))
      ∙ length-append before (elements x) ∙ (λ i. before-long i + length-elements x i)

  pub elements-are : Given s k x
  unfolding elements bytes_of numbers_of
  elements-are = by_kind x parted-2 before-long count-is
    where
      by_kind : (y : Input) → s ≡ (pre ++ le64 (count x)) ++ (elements y ++ rest) → length (pre ++ le64 (count x)) ≡ place_of s k + 8 → count_of s k ≡ count y → Given s k y
      by_kind (bytes xs) f l c = (λ i. bytes_at (f i) (sym l i) (c i)) ∙ bytes-are (pre ++ le64 (count x)) rest xs
      by_kind (numbers xs) f l c = (λ i. numbers_at (f i) (sym l i) (c i)) ∙ numbers-are (pre ++ le64 (count x)) rest xs

  pub next-is : size_of k ≡ size x → place_of s (suc k) ≡ length (pre ++ input_bytes x)
  next-is w = next_place s k ∙ (λ i. place_of s k + 8 + w i * count-is i) ∙ sym all-long

-- ---------------------------------------------------------------- all inputs

pub read-from : (s : List ℕ) (xs : List Input) (k : ℕ) (pre : List ℕ) → s ≡ pre ++ inputs_bytes xs → place_of s k ≡ length pre → Fits k xs
    → AllGiven s k xs × (inputs_from s k (length xs) ≡ given (problem_in s))
unfolding inputs_bytes inputs_from
read-from s [] k pre e p h =
    let l : length s ≤ place_of s k = omega (arith, ap length (e ∙ append-nil pre), p) in
    (tt, rw (le-leb (length s) (place_of s k) l) refl)
read-from s (x ∷ xs) k pre e p (w, l, h) =
    let c = count-is s pre (inputs_bytes xs) k x e p in
    let n = next-is s pre (inputs_bytes xs) k x e p w in
    let e₂ : s ≡ (pre ++ input_bytes x) ++ inputs_bytes xs = e ∙ sym (append_assoc pre (input_bytes x) (inputs_bytes xs)) in
    let m : length s ≡ length (pre ++ input_bytes x) + length (inputs_bytes xs) = ap length e₂ ∙ length-append (pre ++ input_bytes x) (inputs_bytes xs) in
    let (g, r) = read-from s xs (suc k) (pre ++ input_bytes x) e₂ n h in
    let inside : place_of s (suc k) ≤ length s = omega (arith, n, m) in
    ((elements-are s pre (inputs_bytes xs) k x e p, g), one_input s k (length xs) (omega (arith, next_place s k, inside)) (omega (arith, c, l)) inside ∙ r)

-- ---------------------------------------------------------------- a problem

-- how long its lists are at most
pub record Within (p : Problem) : Type 0 where
  pub nodes : T (leb (length p.nodes) 34816)
  pub bits : T (leb (length p.bits) 131072)
  pub side : T (leb (length p.side) 8192)
  pub roots : T (leb (length p.roots) 256)
  pub columns : All (λ (c : List ℕ). leb (length c) 512) (p.name_start ∷ p.name_len ∷ p.var_node ∷ p.var_width ∷ p.aname_start ∷ p.aname_len ∷ p.index_width ∷ p.value_width ∷ p.fname_start ∷ p.fname_len ∷ p.func_width ∷ [])
  pub arenas : All (λ (a : List ℕ). leb (length a) 16384) (p.names ∷ p.anames ∷ p.fnames ∷ [])

pub within : (p : Problem) → T (within_limits p) → Within p
unfolding within_limits nodes_within column_within arena_within
within p h =
    let columns : List (List ℕ) =
    p.name_start ∷ p.name_len ∷ p.var_node ∷ p.var_width ∷ p.aname_start ∷ p.aname_len ∷ p.index_width ∷ p.value_width ∷ p.fname_start ∷ p.fname_len
    ∷ p.func_width ∷ [] in
    let arenas : List (List ℕ) = p.names ∷ p.anames ∷ p.fnames ∷ [] in
    let n = and_0 (nodes_within p.nodes p.bits p.side) _ h in
    let h₁ = and-1 (nodes_within p.nodes p.bits p.side) _ h in
    let n₁ = and-1 (leb (length p.nodes) 34816) _ n in
    let h₂ = and-1 (leb (length p.roots) 256) _ h₁ in
    record {
      nodes = and_0 (leb (length p.nodes) 34816) _ n;
      bits = and_0 (leb (length p.bits) 131072) _ n₁;
      side = and-1 (leb (length p.bits) 131072) _ n₁;
      roots = and_0 (leb (length p.roots) 256) _ h₁;
      columns = by-test (λ (c : List ℕ). leb (length c) 512) columns (and_0 (every (λ (c : List ℕ). leb (length c) 512) columns) _ h₂);
      arenas = by-test (λ (a : List ℕ). leb (length a) 16384) arenas (and-1 (every (λ (c : List ℕ). leb (length c) 512) columns) _ h₂);
    }

at_most : (xs : List ℕ) (n : ℕ) → T (leb (length xs) n) → length xs ≤ n
at_most xs n t = leb→le (length xs) n t

problem-fits : (p : Problem) → Within p → Fits 0 (inputs_of p)
unfolding inputs input_at sizes size_of
problem-fits p w =
    let c = w.columns in
    let a = w.arenas in (
      refl,
      at_most p.nodes 34816 w.nodes,
      (
        refl,
        at_most p.bits 131072 w.bits,
        (
          refl,
          at_most p.side 8192 w.side,
          (
            refl,
            at_most p.roots 256 w.roots,
            (
              refl,
              at_most p.names 16384 a.0,
              (
                refl,
                at_most p.name_start 512 c.0,
                (
                  refl,
                  at_most p.name_len 512 c.1.0,
                  (
                    refl,
                    at_most p.var_node 512 c.1.1.0,
                    (
                      refl,
                      at_most p.var_width 512 c.1.1.1.0,
                      (
                        refl,
                        at_most p.anames 16384 a.1.0,
                        (
                          refl,
                          at_most p.aname_start 512 c.1.1.1.1.0,
                          (
                            refl,
                            at_most p.aname_len 512 c.1.1.1.1.1.0,
                            (
                              refl,
                              at_most p.index_width 512 c.1.1.1.1.1.1.0,
                              (
                                refl,
                                at_most p.value_width 512 c.1.1.1.1.1.1.1.0,
                                (
                                  refl,
                                  at_most p.fnames 16384 a.1.1.0,
                                  (
                                    refl,
                                    at_most p.fname_start 512 c.1.1.1.1.1.1.1.1.0,
                                    (
                                      refl,
                                      at_most p.fname_len 512 c.1.1.1.1.1.1.1.1.1.0,
                                      (
                                        refl,
                                        at_most p.func_width 512 c.1.1.1.1.1.1.1.1.1.1.0,
                                        tt,
                                      ),
                                    ),
                                  ),
                                ),
                              ),
                            ),
                          ),
                        ),
                      ),
                    ),
                  ),
                ),
              ),
            ),
          ),
        ),
      ),
    )

same-problem : (s : List ℕ) (p : Problem) → AllGiven s 0 (inputs_of p) → problem_in s ≡ p
unfolding problem_in
same-problem s p (e0, (e1, (e2, (e3, (e4, (e5, (e6, (e7, (e8, (e9, (e10, (e11, (e12, (e13, (e14, (e15, (e16, (e17, _)))))))))))))))))) = λ i.
    problem_of (e0 i) (e1 i) (e2 i) (e3 i) (e4 i) (e5 i) (e6 i) (e7 i) (e8 i) (e9 i) (e10 i) (e11 i) (e12 i) (e13 i) (e14 i) (e15 i) (e16 i) (e17 i)

-- THE READER GIVES BACK the problem whose layout it reads, where that is within the limits.
pub layout-back : (p : Problem) → T (within_limits p) → layout (bytes_of_layout p) ≡ given p
unfolding layout bytes_of_layout place_of
layout-back p h =
    let (g, r) = read-from (inputs_bytes (inputs_of p)) (inputs_of p) 0 [] refl refl (problem-fits p (within p h)) in
    r ∙ ap given (same-problem (inputs_bytes (inputs_of p)) p g)

-- ---------------------------------------------------------------- its length

next-longest : (k : ℕ) → longest (suc k) ≡ longest k + 8 + size_of k * (input_at k).limit
unfolding longest
next-longest k = refl

input-long : (x : Input) → length (input_bytes x) ≡ 8 + size x * count x
input-long x = ap length (input-parts x) ∙ length-append (le64 (count x)) (elements x) ∙ (λ i. length-le64 (count x) i + length-elements x i)

within-longest : (xs : List Input) (k : ℕ) → Fits k xs → longest k + length (inputs_bytes xs) ≤ longest (k + length xs)
unfolding inputs_bytes
within-longest [] k h =
    let z : k + 0 ≡ k = omega arith in
    let e : longest (k + 0) ≡ longest k = ap longest z in
    omega (arith, e)
within-longest (x ∷ xs) k (w, l, h) =
    let z : suc k + length xs ≡ k + suc (length xs) = omega arith in
    let e : longest (suc k + length xs) ≡ longest (k + suc (length xs)) = ap longest z in
    let m : size_of k * count x ≤ size_of k * (input_at k).limit = mul-le-mul_left (size_of k) l in
    let v : size_of k * count x ≡ size x * count x = ap (λ (n : ℕ). n * count x) w in
    omega (arith, within-longest xs (suc k) h, next-longest k, length-append (input_bytes x) (inputs_bytes xs), input-long x, m, v, e)

-- so a problem within the limits has no more than 327,824 bytes
pub layout-longest : (p : Problem) → T (within_limits p) → length (bytes_of_layout p) ≤ 327824
unfolding bytes_of_layout longest
layout-longest p h = omega (arith, within-longest (inputs_of p) 0 (problem-fits p (within p h)), longest-problem)
