-- Laws of pieces: a piece by its place, what holds of each, and the text of a node's pieces as the formula of its tree.
use Prim.Native.Nat.{ℕ, zero, suc, ◌+◌, ◌-◌, ◌%◌, ◌≤◌, ◌<◌}
use Rattle.std.specs.Prelude.{◌≡◌, Bool, eqb, length, get_or, drop}
use Rattle.std.proofs.Math.Path.{refl}
use Rattle.std.proofs.Common.{ap, sym, ◌∙◌, add-one, length-append, drop-cons}
use Rattle.std.proofs.Math.Bool.{true, false}
use mathlib.Core.List.{List, [], ◌∷◌, ◌++◌, append_assoc}
use native.Mathlib.Omega.{arith}
use Rattle.std.proofs.Math.Dec.{ltb, ltb→lt}
use Rattle.lists.specs.Tests.{true→T}
use Rattle.echo_tables.specs.declared.Form.{Form}
use Rattle.echo_tables.specs.declared.Form.TheVariants.{Leaf, One, Two, Choice, Chain, Arguments}
use Rattle.echo_tables.specs.Refused.{Each}
use Rattle.echo_walk.specs.Operands.{Entries, OverForm}
use Rattle.echo_pieces.specs.declared.Behind.TheVariants.{Nothing, Sign, Comma, Close, CloseComma}
use Rattle.echo_pieces.specs.declared.Piece.{Piece}
use Rattle.echo_pieces.specs.Pieces.{piece, behind_text, one_pieces, two_pieces, choice_pieces, store_pieces, chain_pieces, arg_pieces, pieces_of, count_of, pieces_text}

-- where there is none
abbrev pub no_piece : Piece
no_piece = piece 0 0 Nothing

-- ---------------------------------------------------------------- by place

stores-count : (side : List ℕ) (s n : ℕ) → length (store_pieces side s n) ≡ n + n
unfolding store_pieces
stores-count side s zero = refl
stores-count side s (suc n) = let e = stores-count side s n in omega arith

args_count : (side : List ℕ) (s n : ℕ) → length (arg_pieces side s n) ≡ n
unfolding arg_pieces
args_count side s zero = refl
args_count side s (suc zero) = refl
args_count side s (suc (suc n)) = let e = args_count side (s + 1) (suc n) in omega arith

pub pieces-count : (l : ℕ) (side : List ℕ) (f : Form) → length (pieces_of l side f) ≡ count_of f
unfolding pieces_of count_of one_pieces two_pieces choice_pieces chain_pieces
pieces-count l side Leaf = refl
pieces-count l side (One a w) = by_level (eqb l 10)
  where
    by_level : (b : Bool) → length {A = Piece} (elim b [ true ↦ piece a 10 Nothing ∷ [] | false ↦ piece a 0 Close ∷ [] ]) ≡ 1
    by_level true = refl
    by_level false = refl
pieces-count l side (Two a b w) = by_level (ltb l 10)
  where
    by_level : (t : Bool) → length {A = Piece} (elim t [ true ↦ piece a l Sign ∷ piece b (l + 1) Nothing ∷ [] | false ↦ piece a 0 Comma ∷ piece b 0 Close ∷ [] ]) ≡ 2
    by_level true = refl
    by_level false = refl
pieces-count l side (Choice a b c) = refl
pieces-count l side (Chain j s n) = length-append (store_pieces side s n) (piece j 0 Close ∷ []) ∙ ap (λ (k : ℕ). k + 1) (stores-count side s n)
pieces-count l side (Arguments s n) = args_count side s n

-- a pair's index, and its value
pub store-index : (side : List ℕ) (j s n k : ℕ) → k < n + n → k % 2 ≡ 0 → get_or (chain_pieces side j s n) k no_piece ≡ piece (get_or side (s + (n + n - 2 - k)) 0) 0 Comma
unfolding chain_pieces store_pieces
store-index side j s zero k h e = absurd (omega arith)
store-index side j s (suc n) zero h e = let q : n + n ≡ suc n + suc n - 2 - 0 = omega arith in ap (λ (m : ℕ). piece (get_or side (s + m) 0) 0 Comma) q
store-index side j s (suc n) (suc zero) h e = absurd (omega arith)
store-index side j s (suc n) (suc (suc k)) h e =
    let q : n + n - 2 - k ≡ suc n + suc n - 2 - suc (suc k) = omega arith in
    store-index side j s n k (omega arith) (omega arith) ∙ ap (λ (m : ℕ). piece (get_or side (s + m) 0) 0 Comma) q

pub store-value : (side : List ℕ) (j s n k : ℕ) → k < n + n → (k % 2 ≡ 0 → ⊥) → get_or (chain_pieces side j s n) k no_piece ≡ piece (get_or side (s + (n + n - k)) 0) 0 CloseComma
unfolding chain_pieces store_pieces
store-value side j s zero k h e = absurd (omega arith)
store-value side j s (suc n) zero h e = absurd (e refl)
store-value side j s (suc n) (suc zero) h e = let q : n + n + 1 ≡ suc n + suc n - 1 = omega arith in ap (λ (m : ℕ). piece (get_or side (s + m) 0) 0 CloseComma) q
store-value side j s (suc n) (suc (suc k)) h e =
    let q : n + n - k ≡ suc n + suc n - suc (suc k) = omega arith in
    store-value side j s n k (omega arith) (λ z. e (omega arith)) ∙ ap (λ (m : ℕ). piece (get_or side (s + m) 0) 0 CloseComma) q

pub chain-last : (side : List ℕ) (j s n k : ℕ) → k ≡ n + n → get_or (chain_pieces side j s n) k no_piece ≡ piece j 0 Close
unfolding chain_pieces store_pieces
chain-last side j s zero k h = rw h refl
chain-last side j s (suc n) zero h = absurd (omega arith)
chain-last side j s (suc n) (suc zero) h = absurd (omega arith)
chain-last side j s (suc n) (suc (suc k)) h = chain-last side j s n k (omega arith)

pub arg-more : (side : List ℕ) (s n k : ℕ) → k + 1 < n → get_or (arg_pieces side s n) k no_piece ≡ piece (get_or side (s + k) 0) 0 Comma
unfolding arg_pieces
arg-more side s zero k h = absurd (omega arith)
arg-more side s (suc zero) k h = absurd (omega arith)
arg-more side s (suc (suc n)) zero h = let q : s ≡ s + 0 = omega arith in ap (λ (m : ℕ). piece (get_or side m 0) 0 Comma) q
arg-more side s (suc (suc n)) (suc k) h =
    let q : s + 1 + k ≡ s + suc k = omega arith in
    arg-more side (s + 1) (suc n) k (omega arith) ∙ ap (λ (m : ℕ). piece (get_or side m 0) 0 Comma) q

pub arg-last : (side : List ℕ) (s n k : ℕ) → k + 1 ≡ n → get_or (arg_pieces side s n) k no_piece ≡ piece (get_or side (s + k) 0) 0 Close
unfolding arg_pieces
arg-last side s zero k h = absurd (omega arith)
arg-last side s (suc zero) zero h = let q : s ≡ s + 0 = omega arith in ap (λ (m : ℕ). piece (get_or side m 0) 0 Close) q
arg-last side s (suc zero) (suc k) h = absurd (omega arith)
arg-last side s (suc (suc n)) zero h = absurd (omega arith)
arg-last side s (suc (suc n)) (suc k) h =
    let q : s + 1 + k ≡ s + suc k = omega arith in
    arg-last side (s + 1) (suc n) k (omega arith) ∙ ap (λ (m : ℕ). piece (get_or side m 0) 0 Close) q

-- ---------------------------------------------------------------- each

-- a level that a node may be asked for, and a node of which P holds
pub record Wanted (P : ℕ → Type 0) (x : Piece) : Type 0 where
  pub node_is : P x.node
  pub level_is : x.level ≤ 11

module _ (P : ℕ → Type 0) where
  stores-each : (side : List ℕ) (j s n : ℕ) → P j → Entries P side s (n + n) → Each (Wanted P) (chain_pieces side j s n)
  unfolding chain_pieces store_pieces
  stores-each side j s zero p h = (record { node_is = p; level_is = omega arith }, tt)
  stores-each side j s (suc n) p h =
      let e = h.inside in (
        record { node_is = h.each (s + (n + n)) (omega arith) (omega arith); level_is = omega arith },
        (
          record { node_is = h.each (s + (n + n + 1)) (omega arith) (omega arith); level_is = omega arith },
          stores-each side j s n p (record { inside = omega arith; each = λ k a b. h.each k a (omega arith) }),
        ),
      )

  args-each : (side : List ℕ) (s n : ℕ) → Entries P side s n → Each (Wanted P) (arg_pieces side s n)
  unfolding arg_pieces
  args-each side s zero h = tt
  args-each side s (suc zero) h = (record { node_is = h.each s (omega arith) (omega arith); level_is = omega arith }, tt)
  args-each side s (suc (suc n)) h =
      let e = h.inside in (
        record { node_is = h.each s (omega arith) (omega arith); level_is = omega arith },
        args-each side (s + 1) (suc n) (record { inside = omega arith; each = λ k a b. h.each k (omega arith) (omega arith) }),
      )

  -- what holds of each operand of a form holds of each piece
  pub pieces-each : (l : ℕ) → l ≤ 11 → (side : List ℕ) (f : Form) → OverForm P side f → Each (Wanted P) (pieces_of l side f)
  unfolding pieces_of one_pieces two_pieces choice_pieces
  pieces-each l m side Leaf h = tt
  pieces-each l m side (One a w) h = by_level (eqb l 10)
    where
      by_level : (b : Bool) → Each (Wanted P) (elim b [ true ↦ piece a 10 Nothing ∷ [] | false ↦ piece a 0 Close ∷ [] ])
      by_level true = (record { node_is = h; level_is = omega arith }, tt)
      by_level false = (record { node_is = h; level_is = omega arith }, tt)
  pieces-each l m side (Two a b w) h = by_level (ltb l 10) refl
    where
      by_level : (t : Bool) → ltb l 10 ≡ t → Each (Wanted P) (elim t [ true ↦ piece a l Sign ∷ piece b (l + 1) Nothing ∷ [] | false ↦ piece a 0 Comma ∷ piece b 0 Close ∷ [] ])
      by_level true e =
          let z : l < 10 = ltb→lt l 10 (true→T e) in
          (record { node_is = h.0; level_is = omega arith }, (record { node_is = h.1; level_is = omega arith }, tt))
      by_level false e = (record { node_is = h.0; level_is = omega arith }, (record { node_is = h.1; level_is = omega arith }, tt))
  pieces-each l m side (Choice a b c) h =
      (record { node_is = h.0; level_is = omega arith }, (record { node_is = h.1; level_is = omega arith }, (record { node_is = h.2; level_is = omega arith }, tt)))
  pieces-each l m side (Chain j s n) h = stores-each side j s n h.0 h.1
  pieces-each l m side (Arguments s n) h = args-each side s n h

pub each_at : (P : Piece → Type 0) (xs : List Piece) → Each P xs → (k : ℕ) → k < length xs → {x : Piece} → x ≡ get_or xs k no_piece → P x
each_at P [] h k l e = absurd (omega arith)
each_at P (x ∷ xs) h zero l e = rw e h.0
each_at P (x ∷ xs) h (suc k) l e = each_at P xs h.1 k (omega arith) e

-- ---------------------------------------------------------------- text

-- from piece k on: the piece, what is behind it, and the rest
pub text-step : (g : ℕ → ℕ → List ℕ) (s : List ℕ) (xs : List Piece) (k : ℕ) → k < length xs → {x : Piece} → x ≡ get_or xs k no_piece
    → (g x.level x.node ++ behind_text s x.behind) ++ pieces_text g s (drop (k + 1) xs) ≡ pieces_text g s (drop k xs)
unfolding pieces_text
text-step g s xs k h {x} e =
    let d : drop k xs ≡ x ∷ drop (k + 1) xs = rw (e, add-one) (drop-cons xs k no_piece h) in
    append_assoc (g x.level x.node) (behind_text s x.behind) (pieces_text g s (drop (k + 1) xs)) ∙ sym (ap (pieces_text g s) d)

-- over texts that agree on the nodes of the pieces
pub text_same : (g h : ℕ → ℕ → List ℕ) (s : List ℕ) (xs : List Piece) → Each (Wanted (λ j. (l : ℕ) → g l j ≡ h l j)) xs → pieces_text g s xs ≡ pieces_text h s xs
unfolding pieces_text
text_same g h s [] e = refl
text_same g h s (x ∷ xs) e = let a = e.0.node_is x.level in let b = text_same g h s xs e.1 in λ k. a k ++ (behind_text s x.behind ++ b k)
