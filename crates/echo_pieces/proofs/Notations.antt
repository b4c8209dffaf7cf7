-- What the table of notations has for each kind. Assumes nothing.
use Rattle.std.specs.Prelude.{◌≡◌, ◌⊎◌, ℕ, ◌+◌, ◌≤◌, ◌<◌, refl, Bool, true, false, ◌&&◌, not, List, T, ltb, eqb, length, get_or}
use Rattle.std.proofs.Common.{◌∙◌, sym, inl, inr, Bor, arith, zero-le, ltb→lt, nltb→le, eqb→eq}
use Rattle.std.proofs.Math.ListN.{get_or-eq_default}
use Rattle.lists.specs.Tests.{same, same→eq, every_from, every-at, and_0, and-1, true→T, no→false}
use Rattle.echo_spec.specs.Render.{symbols, symbol_of}
use Rattle.formula_text.specs.Notation as text
use Rattle.formula_text.specs.Notation.{notations}
use Rattle.echo_pieces.specs.declared.Notation.{Notation}
use Rattle.echo_pieces.specs.declared.Notation.TheVariants.{Between, Before, Named}
use Rattle.echo_pieces.specs.Signs.{sign_text, sign_of, level_of}
use Rattle.echo_pieces.specs.declared.Behind.TheVariants.{Nothing, Sign, Comma, Close}
use Rattle.echo_pieces.specs.declared.Piece.{Piece}
use Rattle.echo_pieces.specs.Pieces.{piece, one_pieces, two_pieces}
use Rattle.echo_pieces.specs.PieceLaws.{no_piece}
use Rattle.echo_pieces.specs.Notated.{level_in, sign_in, is_between, Notated}

abbrev agree : Bool → Bool → Bool
agree true b = b
agree false b = not b

agree→eq : (a b : Bool) → T (agree a b) → a ≡ b
agree→eq true true h = refl
agree→eq true false h = absurd h
agree→eq false true h = absurd h
agree→eq false false h = refl

abbrev pub fits : Notation → ℕ → Bool
fits n k = eqb (level_in n) (level_of k) && (same (sign_in n (symbol_of k)) (sign_of k) && agree (is_between n) (ltb (level_of k) 10))

notated : (n : Notation) (k : ℕ) → T (fits n k) → Notated k n
notated n k h =
    let L : Bool = eqb (level_in n) (level_of k) in
    let S : Bool = same (sign_in n (symbol_of k)) (sign_of k) in
    let B : Bool = agree (is_between n) (ltb (level_of k) 10) in
    record {
      level = eqb→eq (level_in n) (level_of k) (and_0 L (S && B) h);
      sign = same→eq (sign_in n (symbol_of k)) (sign_of k) (and_0 S B (and-1 L (S && B) h));
      between = agree→eq (is_between n) (ltb (level_of k) 10) (and-1 S B (and-1 L (S && B) h));
    }

-- past the last
past : (k : ℕ) → 37 ≤ k → Notated k Named
unfolding notations symbols symbol_of sign_of sign_text
past k h =
    let e : text.notation_of k ≡ text.named = get_or-eq_default notations text.named h in
    record { level = rw e refl; sign = rw e refl; between = rw e refl }

-- an element of the table, as a name for it
unfoldable pub entry : List Notation → ℕ → Notation
entry table k = get_or table k Named

pub entry-in : (table : List Notation) (k : ℕ) → get_or table k Named ≡ entry table k
unfolding entry
entry-in table k = refl

-- for a table that is written out: `tt`, with what it is compared with unfolded
pub notated-at : (table : List Notation) → length table ≡ 37 → T (every_from (λ k. fits (get_or table k Named) k) 0 37) → (k : ℕ) → Notated k (entry table k)
unfolding entry
notated-at table e h k = by_size (ltb k 37) refl
  where
    by_size : (b : Bool) → ltb k 37 ≡ b → Notated k (get_or table k Named)
    by_size true q = notated (get_or table k Named) k (every-at (λ i. fits (get_or table i Named) i) 0 37 h k zero-le (ltb→lt k 37 (true→T q)))
    by_size false q =
        let l : 37 ≤ k = nltb→le k 37 (rw q tt) in
        let m : length table ≤ k = omega arith in
        rw (get_or-eq_default table Named m) (past k l)

-- ---------------------------------------------------------------- what the others are not

module _ {k : ℕ} {n : Notation} (h : Notated k n) where
  low : (l : ℕ) → true ≡ ltb l 10 → l ≡ 10 → ⊥
  low l b e = let c : l < 10 = ltb→lt l 10 (true→T (sym b)) in omega arith

  -- a level that is not that of an operator before its operand
  pub not-before : ((l : ℕ) × (s : Bor (List ℕ)) × (n ≡ Between l s)) ⊎ (n ≡ Named) → level_of k ≡ 10 → ⊥
  not-before (inl (l, s, e)) f = low (level_of k) (rw e at h.between) f
  not-before (inr e) f = let g : 11 ≡ level_of k = rw e at h.level in omega arith

  pub not-between : ((s : Bor (List ℕ)) × (n ≡ Before s)) ⊎ (n ≡ Named) → false ≡ ltb (level_of k) 10
  not-between (inl (s, e)) = rw e at h.between
  not-between (inr e) = rw e at h.between

-- ---------------------------------------------------------------- pieces by the notation

module _ (l a b : ℕ) {x : Piece} where
  pub before-piece : 10 ≡ l → x ≡ piece a 10 Nothing → x ≡ get_or (one_pieces l a) 0 no_piece
  unfolding one_pieces
  before-piece e h = h ∙ rw (← e) refl

  pub other-piece : (l ≡ 10 → ⊥) → x ≡ piece a 0 Close → x ≡ get_or (one_pieces l a) 0 no_piece
  unfolding one_pieces
  other-piece e h = let f : eqb l 10 ≡ false = no→false (eqb l 10) (λ t. e (eqb→eq l 10 t)) in h ∙ rw (f, one_pieces) refl

  module _ {k : ℕ} where
    module _ (e : true ≡ ltb l 10) {m : ℕ} (f : m ≡ l) where
      pub left-piece : k ≡ 0 → x ≡ piece a m Sign → x ≡ get_or (two_pieces l a b) k no_piece
      unfolding two_pieces
      left-piece g h = h ∙ rw (f, g, ← e, two_pieces) refl

      pub right-piece : k ≡ 1 → x ≡ piece b (m + 1) Nothing → x ≡ get_or (two_pieces l a b) k no_piece
      unfolding two_pieces
      right-piece g h = h ∙ rw (f, g, ← e, two_pieces) refl

    module _ (e : false ≡ ltb l 10) where
      pub first-piece : k ≡ 0 → x ≡ piece a 0 Comma → x ≡ get_or (two_pieces l a b) k no_piece
      unfolding two_pieces
      first-piece g h = h ∙ rw (g, ← e, two_pieces) refl

      pub second-piece : k ≡ 1 → x ≡ piece b 0 Close → x ≡ get_or (two_pieces l a b) k no_piece
      unfolding two_pieces
      second-piece g h = h ∙ rw (g, ← e, two_pieces) refl
