-- Numbers and inputs by the pieces that are written one after the other. Assumes nothing.
use Prim.Native.Nat.{ℕ, ◌+◌, ◌/◌, ◌%◌, ◌^◌, ◌≤◌, ◌<◌}
use mathlib.Core.List.{List, [], ◌∷◌, ◌++◌, map, map-append, append_assoc, append-nil}
use mathlib.Core.Path.{◌≡◌, refl, ap, sym, ◌∙◌}
use native.Mathlib.Numerals.{add-one}
use native.Mathlib.Omega.{arith}
use lib.ListN.{length, take, get_or}
use lib.Seq.{take-suc, take_all}
use Rattle.echo_bytes.specs.Page.{Page, written}
use Rattle.echo_bytes.specs.Laws.{written_then, written-nil}
use Rattle.layout_bytes.specs.Encoding.{le64, numbers_bytes, Input, bytes, numbers, input_bytes, inputs_bytes}

-- ---------------------------------------------------------------- a number

pub number-bytes : (n : ℕ) {a b c d e f g h : ℕ} → n < 2 ^ 64 → a ≡ n % 256 → b ≡ n / 256 % 256 → c ≡ n / 65536 % 256 → d ≡ n / 16777216 % 256 → e ≡ n / 4294967296 % 256
    → f ≡ n / 1099511627776 % 256 → g ≡ n / 281474976710656 % 256 → h ≡ n / 72057594037927936 % 256 → a ∷ b ∷ c ∷ d ∷ e ∷ f ∷ g ∷ h ∷ [] ≡ le64 n
unfolding le64
number-bytes n {h = h} l pa pb pc pd pe pf pg ph =
    let z : h ≡ n / 72057594037927936 = omega arith in
    λ i. pa i ∷ pb i ∷ pc i ∷ pd i ∷ pe i ∷ pf i ∷ pg i ∷ z i ∷ []

-- ---------------------------------------------------------------- an input

pub bytes-written : (p : Page) (xs : List ℕ) {q r : Page} → q ≡ written p (le64 (length xs)) → r ≡ written q xs → r ≡ written p (input_bytes (bytes xs))
unfolding input_bytes
bytes-written p xs e f = written_then p (le64 (length xs)) xs e f

numbers-append : (xs ys : List ℕ) → numbers_bytes (xs ++ ys) ≡ numbers_bytes xs ++ numbers_bytes ys
unfolding numbers_bytes
numbers-append [] ys = refl
numbers-append (x ∷ xs) ys = ap (λ (l : List ℕ). le64 x ++ l) (numbers-append xs ys) ∙ sym (append_assoc (le64 x) (numbers_bytes xs) (numbers_bytes ys))

grown : (xs : List ℕ) (i : ℕ) → i < length xs → take i xs ++ (get_or xs i 0 ∷ []) ≡ take (i + 1) xs
grown xs i l = rw (add-one, take-suc xs i 0) refl

numbers_more : (xs : List ℕ) (i : ℕ) → i < length xs → numbers_bytes (take i xs) ++ le64 (get_or xs i 0) ≡ numbers_bytes (take (i + 1) xs)
unfolding numbers_bytes
numbers_more xs i l =
    ap (λ (ys : List ℕ). numbers_bytes (take i xs) ++ ys) (sym (append-nil (le64 (get_or xs i 0))))
    ∙ sym (numbers-append (take i xs) (get_or xs i 0 ∷ []))
    ∙ ap numbers_bytes (grown xs i l)

-- the loop over the numbers
pub loop-begins : (p : Page) (xs : List ℕ) → p.place.need < 2 ^ 64 → p ≡ written p (numbers_bytes (take 0 xs))
unfolding numbers_bytes
loop-begins p xs l = sym (written-nil p l)

pub loop-goes-on : (p : Page) (xs : List ℕ) (i : ℕ) {q r : Page} → i < length xs → q ≡ written p (numbers_bytes (take i xs)) → r ≡ written q (le64 (get_or xs i 0))
    → r ≡ written p (numbers_bytes (take (i + 1) xs))
loop-goes-on p xs i l e f = written_then p (numbers_bytes (take i xs)) (le64 (get_or xs i 0)) e f ∙ ap (written p) (numbers_more xs i l)

pub numbers-written : (p : Page) (xs : List ℕ) (i : ℕ) {q r : Page} → length xs ≤ i → q ≡ written p (le64 (length xs)) → r ≡ written q (numbers_bytes (take i xs))
    → r ≡ written p (input_bytes (numbers xs))
unfolding input_bytes
numbers-written p xs i l f g = rw (take_all i xs l) at (written_then p (le64 (length xs)) (numbers_bytes (take i xs)) f g)

-- ---------------------------------------------------------------- inputs

pub input_last : (p : Page) (x : Input) {q : Page} → q ≡ written p (input_bytes x) → q ≡ written p (inputs_bytes (x ∷ []))
unfolding inputs_bytes
input_last p x e = e ∙ ap (written p) (sym (append-nil (input_bytes x)))

pub input-then : (p : Page) (x : Input) (xs : List Input) {q r : Page} → q ≡ written p (input_bytes x) → r ≡ written q (inputs_bytes xs) → r ≡ written p (inputs_bytes (x ∷ xs))
unfolding inputs_bytes
input-then p x xs e f = written_then p (input_bytes x) (inputs_bytes xs) e f

inputs-append : (xs ys : List Input) → inputs_bytes xs ++ inputs_bytes ys ≡ inputs_bytes (xs ++ ys)
unfolding inputs_bytes
inputs-append [] ys = refl
inputs-append (x ∷ xs) ys = append_assoc (input_bytes x) (inputs_bytes xs) (inputs_bytes ys) ∙ ap (λ (l : List ℕ). input_bytes x ++ l) (inputs-append xs ys)

pub inputs-then : (p : Page) (xs ys : List Input) {q r : Page} → q ≡ written p (inputs_bytes xs) → r ≡ written q (inputs_bytes ys) → r ≡ written p (inputs_bytes (xs ++ ys))
inputs-then p xs ys e f = written_then p (inputs_bytes xs) (inputs_bytes ys) e f ∙ ap (written p) (inputs-append xs ys)

-- the loop over the columns of a table, the first i of which are written
module _ {A : Type 0} (p : Page) (x : Input) (f : A → Input) (xs : List A) where
  pub columns_begin : {q : Page} → q ≡ written p (input_bytes x) → q ≡ written p (inputs_bytes (x ∷ map f (take 0 xs)))
  columns_begin e = input_last p x e

  pub columns_go_on : (i : ℕ) (d : A) {q r : Page} → i < length xs → q ≡ written p (inputs_bytes (x ∷ map f (take i xs)))
      → r ≡ written q (input_bytes (f (get_or xs i d))) → r ≡ written p (inputs_bytes (x ∷ map f (take (i + 1) xs)))
  columns_go_on i d l e g =
      inputs-then p (x ∷ map f (take i xs)) (f (get_or xs i d) ∷ []) e (input_last _ (f (get_or xs i d)) g)
      ∙ ap (λ (ys : List Input). written p (inputs_bytes (x ∷ ys))) (sym (rw (add-one, take-suc xs i d) (map-append f (take i xs) (get_or xs i d ∷ []))))

  pub columns-end : (i : ℕ) {q : Page} → length xs ≤ i → q ≡ written p (inputs_bytes (x ∷ map f (take i xs))) → q ≡ written p (inputs_bytes (x ∷ map f xs))
  columns-end i l e = rw (take_all i xs l) at e
