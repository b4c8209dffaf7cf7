-- Laws of states: what is read from a state on, byte by byte.
use Prim.Native.Nat.{ℕ, zero, suc, ◌≤◌}
use Rattle.std.specs.Prelude.{◌≡◌, Bool, cond, eqb}
use Rattle.std.proofs.Math.Path.{refl, ap, sym}
use mathlib.Core.List.{List, [], ◌∷◌}
use Rattle.std.proofs.Math.Bool.{true, false}
use Rattle.std.proofs.Math.Option.{Option, none, some}
use Rattle.std.proofs.Common.{arith}
use Rattle.lists.specs.Bytes.{bytes}
use Rattle.reading.specs.Trees.{Declarations}
use Rattle.echo_spec.specs.TreeSorts.{TreeSort, bits, if_proper, has_sort, tree_sorts}
use Rattle.readback.specs.Reader.{Took, took, and_then, expect, read_terms}
use Rattle.sort_reader.specs.Waits.{Wait, stuck, close}
use Rattle.sort_reader.specs.WaitLaws.{stuck-finish}
use Rattle.sort_reader.specs.Sorted.{of_sort, sorted, operands, operands-none, operands_end, operands_next, operands-other}
use Rattle.sort_reader.specs.Selects.{operand_of, stores_then, and-nothing}
use Rattle.script_terms.specs.States.{State, done, waits, index, value, stored, own, widths, rest, after_index, after}

module _ (D : Declarations) where
  pub stuck-rest : (f : ℕ) (b : List ℕ) → rest f D (waits stuck) b ≡ none
  unfolding rest operands of_sort
  stuck-rest f b = and-nothing (read_terms f D b) _ (λ ts r. ap (λ (o : Option TreeSort). of_sort o r) (stuck-finish (tree_sorts D ts)))

  -- ---------------------------------------------------------------- a blank, and an operand

  -- the states that wait for one
  abbrev pub Asks : State → Type 0
  Asks (done σ) = ⊥
  Asks (waits w) = Unit
  Asks (index i v n) = Unit
  Asks (value i v n) = Unit
  Asks (stored i v n) = ⊥
  Asks (own v) = ⊥

  -- the steps that are left for the operand
  abbrev pub left : State → ℕ → ℕ
  left (done σ) g = g
  left (waits w) g = g
  left (index i v n) g = suc g
  left (value i v n) g = suc g
  left (stored i v n) g = suc g
  left (own v) g = suc g

  pub left-high : (q : State) (g : ℕ) → g ≤ left q g
  left-high (done σ) g = omega arith
  left-high (waits w) g = omega arith
  left-high (index i v n) g = omega arith
  left-high (value i v n) g = omega arith
  left-high (stored i v n) g = omega arith
  left-high (own v) g = omega arith

  operand-then : (g w : ℕ) (b : List ℕ) (L : List ℕ → Option (Took TreeSort)) (Q : State) → ((r : List ℕ) → rest g D Q r ≡ L r)
      → and_then (operand_of g D w (32 ∷ b)) (λ _ y. L y) ≡ and_then (sorted g D b) (λ σ r. rest g D (cond (has_sort (some σ) (bits w)) Q (waits stuck)) r)
  unfolding operand_of and_then expect bytes
  operand-then g w b L Q h = by_read (sorted g D b)
    where
      by-sort : (t : Bool) (y : List ℕ) → and_then {A = List ℕ} (cond t (took [] y) none) (λ _ y. L y) ≡ rest g D (cond t Q (waits stuck)) y
      by-sort true y = sym (h y)
      by-sort false y = sym (stuck-rest g y)

      by_read : (o : Option (Took TreeSort)) → and_then {A = List ℕ} (and_then o (λ σ y. cond (has_sort (some σ) (bits w)) (took [] y) none)) (λ _ y. L y) ≡ and_then o (λ σ r. rest g D (cond (has_sort (some σ) (bits w)) Q (waits stuck)) r)
      by_read none = refl
      by_read (some t) = by-sort (has_sort (some t.value) (bits w)) t.rest

  own-rest : (g v : ℕ) (r : List ℕ) → rest g D (own v) r ≡ and_then (expect (bytes ")") r) (λ _ z. of_sort (if_proper (bits v)) z)
  unfolding rest
  own-rest g v r = refl

  value-rest : (g i v n : ℕ) (r : List ℕ) → rest g D (value i v n) r ≡ and_then (operand_of g D v r) (λ _ x. and_then (expect (bytes ")") x) (λ _ z. stores_then (suc g) D (widths i v) n z))
  unfolding rest
  value-rest g i v n r = refl

  stored-rest : (g i v n : ℕ) (r : List ℕ) → rest g D (stored i v n) r ≡ and_then (expect (bytes ")") r) (λ _ z. stores_then (suc g) D (widths i v) n z)
  unfolding rest
  stored-rest g i v n r = refl

  index-next : (g i v n : ℕ) (b : List ℕ) → stores_then g D (widths i v) n (32 ∷ b) ≡ and_then (sorted g D b) (λ σ r. rest g D (cond (has_sort (some σ) (bits i)) (after_index i v n) (waits stuck)) r)
  unfolding stores_then after_index
  index-next g i v zero b = operand-then g i b (λ y. and_then (expect (bytes ")") y) (λ _ z. of_sort (if_proper (bits v)) z)) (own v) (own-rest g v)
  index-next g i v (suc n) b =
      operand-then g i b (λ y. and_then (operand_of g D v y) (λ _ x. and_then (expect (bytes ")") x) (λ _ z. stores_then (suc g) D (widths i v) n z))) (value i v n) (value-rest g i v n)

  -- THE STEP from an operand to the state after it
  pub rest-next : (q : State) → Asks q → (g : ℕ) (b : List ℕ) → rest (suc g) D q (32 ∷ b) ≡ and_then (sorted (left q g) D b) (λ σ r. rest (left q g) D (after q σ) r)
  unfolding rest after
  rest-next (done σ) h g b = absurd h
  rest-next (waits w) h g b = operands_next D g w b
  rest-next (index i v n) h g b = index-next (suc g) i v n b
  rest-next (value i v n) h g b = operand-then (suc g) v b (λ x. and_then (expect (bytes ")") x) (λ _ z. stores_then (suc (suc g)) D (widths i v) n z)) (stored i v n) (stored-rest (suc g) i v n)
  rest-next (stored i v n) h g b = absurd h
  rest-next (own v) h g b = absurd h

  -- ---------------------------------------------------------------- brackets

  pub close-rest : (w : Wait) (g : ℕ) (b : List ℕ) → rest (suc g) D (waits w) (41 ∷ b) ≡ of_sort (close w) b
  unfolding rest
  close-rest w g b = operands_end D g w b

  pub own-close : (g v : ℕ) (b : List ℕ) → rest g D (own v) (41 ∷ b) ≡ of_sort (if_proper (bits v)) b
  unfolding rest and_then expect bytes
  own-close g v b = refl

  pub stored-close : (g i v n : ℕ) (b : List ℕ) → rest g D (stored i v n) (41 ∷ b) ≡ rest (suc g) D (index i v n) b
  unfolding rest and_then expect bytes
  stored-close g i v n b = refl

  -- ---------------------------------------------------------------- anything else

  -- no byte, or another one than the state takes
  blank_none : (f w : ℕ) (b : List ℕ) (L : List ℕ → Option (Took TreeSort)) → expect (bytes " ") b ≡ none → and_then (operand_of f D w b) (λ _ y. L y) ≡ none
  unfolding operand_of and_then
  blank_none f w b L e = rw e

  bracket-none : (b : List ℕ) (L : List ℕ → Option (Took TreeSort)) → expect (bytes ")") b ≡ none → and_then (expect (bytes ")") b) (λ _ y. L y) ≡ none
  unfolding and_then
  bracket-none b L e = rw e

  index-none : (f i v n : ℕ) (b : List ℕ) → expect (bytes " ") b ≡ none → stores_then f D (widths i v) n b ≡ none
  unfolding stores_then
  index-none f i v zero b e = blank_none f i b (λ y. and_then (expect (bytes ")") y) (λ _ z. of_sort (if_proper (bits v)) z)) e
  index-none f i v (suc n) b e = blank_none f i b (λ y. and_then (operand_of f D v y) (λ _ x. and_then (expect (bytes ")") x) (λ _ z. stores_then (suc f) D (widths i v) n z))) e

  pub index-else : (f i v n : ℕ) (b : List ℕ) → expect (bytes " ") b ≡ none → rest f D (index i v n) b ≡ none
  unfolding rest
  index-else f i v n b e = index-none f i v n b e

  pub value-else : (f i v n : ℕ) (b : List ℕ) → expect (bytes " ") b ≡ none → rest f D (value i v n) b ≡ none
  unfolding rest
  value-else f i v n b e = blank_none f v b (λ x. and_then (expect (bytes ")") x) (λ _ z. stores_then (suc f) D (widths i v) n z)) e

  pub stored-else : (f i v n : ℕ) (b : List ℕ) → expect (bytes ")") b ≡ none → rest f D (stored i v n) b ≡ none
  unfolding rest
  stored-else f i v n b e = bracket-none b (λ z. stores_then (suc f) D (widths i v) n z) e

  pub own-else : (f v : ℕ) (b : List ℕ) → expect (bytes ")") b ≡ none → rest f D (own v) b ≡ none
  unfolding rest
  own-else f v b e = bracket-none b (λ z. of_sort (if_proper (bits v)) z) e

  pub waits-empty : (f : ℕ) (w : Wait) → rest f D (waits w) [] ≡ none
  unfolding rest
  waits-empty f w = operands-none D f w

  pub waits-else : (f : ℕ) (w : Wait) (c : ℕ) (b : List ℕ) → eqb c 41 ≡ false → eqb c 32 ≡ false → rest f D (waits w) (c ∷ b) ≡ none
  unfolding rest
  waits-else f w c b p q = operands-other D f w c b p q
