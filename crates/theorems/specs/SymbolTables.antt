-- The printer's table from kind to symbol and the standard's table from symbol to kind are inverse; and the symbol of each
-- kind has the numerals, the operands and the rank of the kind's shape.
use Rattle.std.specs.Prelude.{ℕ, ◌≤◌, ◌<◌, ◌≡◌, refl, List, [], ◌∷◌, Bool, true, false, ◌&&◌, ◌||◌, ◌↔◌, ◌⊎◌, T, ltb, eqb}
use Rattle.std.proofs.Common.{ap, sym, ◌∙◌, subst, inl, inr, arith, eqb→eq, ltb→lt, nltb→le}
use Rattle.std.proofs.Math.Option.{Option, none, some}
use Rattle.std.proofs.Math.ListN.{get_or-eq_default}
use Rattle.lists.specs.Bytes.{bytes}
use Rattle.lists.specs.Tests.{same, every, every_from, every-at, and_0, and-1, or_elim, same→eq, true→T}
use Rattle.reading.specs.Trees.{Name}
use Rattle.smtlib.specs.Readings.{Row, operators, listed}
use Rattle.smtlib.specs.LexText.{simple_test}
use Rattle.smtlib.specs.Sorts.{Rank, Rank-discrete, ranks, rank_among}
use Rattle.echo_spec.specs.Shapes.{
  Shape,
  var,
  const,
  binary,
  rotation,
  extraction,
  concat,
  extension,
  ite,
  comparison,
  negation,
  connective,
  unary,
  select,
  call,
  unknown,
  shapes,
  shape_of,
}
use Rattle.echo_spec.specs.Render.{symbols, symbol_of}

-- ---------------------------------------------------------------- inverse

-- a row of the standard's table has this name and this kind
abbrev pub names : Name → ℕ → List Row → Bool
names n k [] = false
names n k (r ∷ rs) = (same n (bytes r.name) && eqb k r.kind) || names n k rs

symbol-named : T (every_from (λ k. names (symbol_of k) k operators) 2 35)
unfolding symbol_of symbols operators bytes same
symbol-named = tt

row-printed : T (every (λ (r : Row). same (bytes r.name) (symbol_of r.kind)) operators)
unfolding symbol_of symbols operators bytes same
row-printed = tt

named-printed : (rs : List Row) → T (every (λ (r : Row). same (bytes r.name) (symbol_of r.kind)) rs) → (n : Name) (k : ℕ) → T (names n k rs) → symbol_of k ≡ n
named-printed [] t n k h = absurd h
named-printed (r ∷ rs) t n k h =
    or_elim (same n (bytes r.name) && eqb k r.kind) (names n k rs) h
    (λ q.
    let e : n ≡ bytes r.name = same→eq n (bytes r.name) (and_0 (same n (bytes r.name)) (eqb k r.kind) q) in
    let f : k ≡ r.kind = eqb→eq k r.kind (and-1 (same n (bytes r.name)) (eqb k r.kind) q) in
    let g : bytes r.name ≡ symbol_of r.kind = same→eq (bytes r.name) (symbol_of r.kind) (and_0 (same (bytes r.name) (symbol_of r.kind)) _ t) in
    rw f (sym g ∙ sym e))
    (λ q. named-printed rs (and-1 (same (bytes r.name) (symbol_of r.kind)) _ t) n k q)

-- the operators' kinds are 2 to 36: such a kind is printed as n exactly where n means it by the standard
pub tables-inverse : (k : ℕ) → 2 ≤ k → k < 37 → (n : Name) → (symbol_of k ≡ n) ↔ T (names n k operators)
tables-inverse k l m n = (
  λ e. subst (λ (x : Name). T (names x k operators)) e (every-at (λ k. names (symbol_of k) k operators) 2 35 symbol-named k l (omega arith)),
  named-printed operators row-printed n k,
)

-- ---------------------------------------------------------------- the symbol of a kind, by shape

unfoldable pub is_rank : Rank → Option Rank → Bool
is_rank r none = false
is_rank r (some s) = elim (Rank-discrete s r) [ yes e ↦ true | no f ↦ false ]

is-rank : (r : Rank) (o : Option Rank) → T (is_rank r o) → o ≡ some r
unfolding is_rank
is-rank r none t = absurd t
is-rank r (some s) t = by-test (Rank-discrete s r) refl t
  where
    by-test : (d : Dec (s ≡ r)) → Rank-discrete s r ≡ d → T (elim d [ yes e ↦ true | no f ↦ false ]) → some s ≡ some r
    by-test (yes e) p t = ap some e
    by-test (no f) p t = absurd t

-- what the standard says of the symbol of kind k: so many numerals and operands, and this rank
abbrev pub symbol_is : ℕ → ℕ → ℕ → Rank → Bool
symbol_is k numerals operands r =
    simple_test (symbol_of k) && (listed (symbol_of k) k numerals operands operators && is_rank r (rank_among ranks (symbol_of k)))

pub record Symbol (k numerals operands : ℕ) (r : Rank) : Type 0 where
  pub simple : T (simple_test (symbol_of k))
  pub row : T (listed (symbol_of k) k numerals operands operators)
  pub ranked : rank_among ranks (symbol_of k) ≡ some r

symbol-is : (k numerals operands : ℕ) (r : Rank) → T (symbol_is k numerals operands r) → Symbol k numerals operands r
symbol-is k numerals operands r t =
    let t₁ = and-1 (simple_test (symbol_of k)) _ t in
    record {
      simple = and_0 (simple_test (symbol_of k)) _ t;
      row = and_0 (listed (symbol_of k) k numerals operands operators) _ t₁;
      ranked = is-rank r (rank_among ranks (symbol_of k)) (and-1 (listed (symbol_of k) k numerals operands operators) _ t₁);
    }

abbrev pub symbol_fits : ℕ → Shape → Bool
symbol_fits k var = true
symbol_fits k const = true
symbol_fits k binary = symbol_is k 0 2 Rank.binary
symbol_fits k rotation = symbol_is k 1 1 Rank.rotation
symbol_fits k extraction = symbol_is k 2 1 Rank.extraction
symbol_fits k concat = symbol_is k 0 2 Rank.concatenation
symbol_fits k extension = symbol_is k 1 1 Rank.extension
symbol_fits k ite = symbol_is k 0 3 Rank.choice
symbol_fits k comparison = symbol_is k 0 2 Rank.comparison || symbol_is k 0 2 Rank.equality
symbol_fits k negation = symbol_is k 0 1 Rank.negation
symbol_fits k connective = symbol_is k 0 2 Rank.connective
symbol_fits k unary = symbol_is k 0 1 Rank.unary
symbol_fits k select = true
symbol_fits k call = true
symbol_fits k unknown = true

symbols-fit : T (every_from (λ k. symbol_fits k (shape_of k)) 0 39)
unfolding symbol_of symbols operators shapes ranks bytes same simple_test is_rank
symbols-fit = tt

past-the-table : (k : ℕ) → 39 ≤ k → T (symbol_fits k (shape_of k))
unfolding shapes
past-the-table k h = subst (λ (s : Shape). T (symbol_fits k s)) (sym (get_or-eq_default shapes unknown h)) tt

symbol-fits : (k : ℕ) → T (symbol_fits k (shape_of k))
symbol-fits k = by_size (ltb k 39) refl
  where
    by_size : (b : Bool) → ltb k 39 ≡ b → T (symbol_fits k (shape_of k))
    by_size true e = every-at (λ k. symbol_fits k (shape_of k)) 0 39 symbols-fit k (omega arith) (omega (arith, ltb→lt k 39 (true→T e)))
    by_size false e = past-the-table k (nltb→le k 39 (rw e tt))

symbol-at : (k : ℕ) (s : Shape) → shape_of k ≡ s → T (symbol_fits k s)
symbol-at k s e = subst (λ (x : Shape). T (symbol_fits k x)) e (symbol-fits k)

-- the symbol of a kind of this shape: `symbol-of k 0 2 Rank.binary binary e refl`
pub symbol-of : (k numerals operands : ℕ) (r : Rank) (s : Shape) → shape_of k ≡ s → symbol_fits k s ≡ symbol_is k numerals operands r → Symbol k numerals operands r
symbol-of k numerals operands r s e f = symbol-is k numerals operands r (rw f at (symbol-at k s e))

-- an equation is ranked apart from the other comparisons
pub comparison-symbol : (k : ℕ) → shape_of k ≡ comparison → Symbol k 0 2 Rank.comparison ⊎ Symbol k 0 2 Rank.equality
comparison-symbol k e =
    or_elim (symbol_is k 0 2 Rank.comparison) (symbol_is k 0 2 Rank.equality) (symbol-at k comparison e)
    (λ t. inl (symbol-is k 0 2 Rank.comparison t)) (λ t. inr (symbol-is k 0 2 Rank.equality t))
