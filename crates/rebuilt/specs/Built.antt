-- What holds of each node of a rebuilt problem: its operands come before it, and it has a sort over theirs.
use Rattle.std.specs.Prelude.{ℕ, zero, suc, ◌+◌, ◌≤◌, ◌<◌, ◌≡◌, refl, List, [], ◌∷◌, ◌++◌, map, Bool, true, false, ◌&&◌, ◌⊎◌, T, leb, ltb, length, get_or}
use Rattle.std.proofs.Common.{ap, sym, ◌∙◌, subst, inl, inr, arith, ltb→lt, length-append}
use Rattle.std.proofs.Math.Option.{Option, none, some}
use Rattle.std.proofs.Math.ListN.{get_elem?}
use Rattle.std.proofs.Math.Seq.{get_or-append_seam}
use Rattle.lists.specs.Tests.{All, all_append}
use Rattle.lists.specs.Places.{at_less, at_snoc, Grows, grows_at, grows-get_or}
use Rattle.reading.specs.Trees.{Variable, Array, Function, Declarations}
use Rattle.echo_spec.specs.Shapes.{Shape, shape_of}
use Rattle.echo_spec.specs.TreeSorts.{TreeSort, bool, bits, proper, width_of, operator_sort}
use Rattle.readback.specs.Rebuild.{Pair, Item, a_variable, a_constant, an_operator, a_select, a_call, amounts}

-- ---------------------------------------------------------------- what is declared, by number

abbrev pub no-variable : Variable
no-variable = record { name = []; width = 0 }

abbrev pub no-array : Array
no-array = record { name = []; index = 0; value = 0 }

abbrev pub no-function : Function
no-function = record { name = []; arguments = []; width = 0 }

abbrev pub variable_at : Declarations → ℕ → Variable
variable_at D k = get_or D.variables k no-variable

abbrev pub array_at : Declarations → ℕ → Array
array_at D k = get_or D.arrays k no-array

abbrev pub function_at : Declarations → ℕ → Function
function_at D k = get_or D.functions k no-function

-- ---------------------------------------------------------------- one node

abbrev pub sort_at : List TreeSort → ℕ → TreeSort
sort_at ss i = get_or ss i bool

abbrev pub below : ℕ → ℕ → Bool
below i x = ltb x i

-- constants that stand below place i
abbrev pub ConstantsAt : List Item → ℕ → List ℕ → List (List ℕ) → Type 0
ConstantsAt s i [] [] = Unit
ConstantsAt s i [] (bs ∷ cs) = ⊥
ConstantsAt s i (m ∷ ms) [] = ⊥
ConstantsAt s i (m ∷ ms) (bs ∷ cs) = (m < i) × (get_elem? s m ≡ some (a_constant bs)) × ConstantsAt s i ms cs

-- pairs below place i of these widths
abbrev pub PairsAt : List TreeSort → ℕ → ℕ → ℕ → List (Pair ℕ) → Type 0
PairsAt ss i x v [] = Unit
PairsAt ss i x v (p ∷ ps) = (p.index < i) × (sort_at ss p.index ≡ bits x) × (p.value < i) × (sort_at ss p.value ≡ bits v) × PairsAt ss i x v ps

-- node i is fine after the nodes before it
abbrev pub Fine : Declarations → List Item → List TreeSort → ℕ → Item → Type 0
Fine D s ss i (a_variable w) = (i < length D.variables) × ((variable_at D i).width ≡ w) × (sort_at ss i ≡ bits w)
Fine D s ss i (a_constant bs) = All (λ b. leb b 1) bs × (sort_at ss i ≡ bits (length bs))
Fine D s ss i (an_operator k ks xs ms) =
    All (below i) xs × (operator_sort (shape_of k) ks (map some (map (sort_at ss) xs)) ≡ some (sort_at ss i)) × ConstantsAt s i ms (amounts (shape_of k) (width_of (some (sort_at ss i))) ks)
Fine D s ss i (a_select a j ps) =
    (a < length D.arrays) × (j < i) × (sort_at ss j ≡ bits (array_at D a).index) × PairsAt ss i (array_at D a).index (array_at D a).value ps
    × (sort_at ss i ≡ bits (array_at D a).value)
Fine D s ss i (a_call g w xs) =
    (g < length D.functions) × All (below i) xs × (map (sort_at ss) xs ≡ map bits (function_at D g).arguments) × ((function_at D g).width ≡ w) × (sort_at ss i ≡ bits w)

-- ss are the sorts of the nodes s
pub record Built (D : Declarations) (s : List Item) (ss : List TreeSort) : Type 0 where
  pub sized : length s ≡ length ss
  pub proper : All proper ss
  pub fine : (i : ℕ) (x : Item) → get_elem? s i ≡ some x → Fine D s ss i x

pub proper-at : (ss : List TreeSort) → All proper ss → (i : ℕ) → T (proper (sort_at ss i))
proper-at [] h i = tt
proper-at (s ∷ ss) h zero = h.0
proper-at (s ∷ ss) h (suc i) = proper-at ss h.1 i

-- ---------------------------------------------------------------- growing

pub sorts-grow : (ss us : List TreeSort) → Grows ss us → (i : ℕ) → i ≤ length ss → (xs : List ℕ) → All (below i) xs → map (sort_at us) xs ≡ map (sort_at ss) xs
sorts-grow ss us g i l [] h = refl
sorts-grow ss us g i l (x ∷ xs) h =
    let b : x < i = ltb→lt x i h.0 in
    let e : sort_at us x ≡ sort_at ss x = grows-get_or ss us g x bool (omega arith) in
    let f = sorts-grow ss us g i l xs h.1 in
    λ k. e k ∷ f k

pub constants-grow : (s t : List Item) → Grows s t → (i : ℕ) (ms : List ℕ) (cs : List (List ℕ)) → ConstantsAt s i ms cs → ConstantsAt t i ms cs
constants-grow s t g i [] [] h = tt
constants-grow s t g i [] (bs ∷ cs) h = absurd h
constants-grow s t g i (m ∷ ms) [] h = absurd h
constants-grow s t g i (m ∷ ms) (bs ∷ cs) (l, e, h) = (l, grows_at s t g m (a_constant bs) e, constants-grow s t g i ms cs h)

pub pairs-grow : (ss us : List TreeSort) → Grows ss us → (i x v : ℕ) → i ≤ length ss → (ps : List (Pair ℕ)) → PairsAt ss i x v ps → PairsAt us i x v ps
pairs-grow ss us g i x v l [] h = tt
pairs-grow ss us g i x v l (p ∷ ps) (a, b, c, d, h) = (
  a,
  grows-get_or ss us g p.index bool (omega arith) ∙ b,
  c,
  grows-get_or ss us g p.value bool (omega arith) ∙ d,
  pairs-grow ss us g i x v l ps h,
)

module _ (D : Declarations) (s t : List Item) (ss us : List TreeSort) (gi : Grows s t) (gs : Grows ss us) where
  pub fine-grow : (i : ℕ) → i < length ss → (x : Item) → Fine D s ss i x → Fine D t us i x
  fine-grow i l (a_variable w) (a, b, c) = (a, b, grows-get_or ss us gs i bool l ∙ c)
  fine-grow i l (a_constant bs) (b, c) = (b, grows-get_or ss us gs i bool l ∙ c)
  fine-grow i l (an_operator k ks xs ms) (a, b, d) =
      let e : sort_at us i ≡ sort_at ss i = grows-get_or ss us gs i bool l in
      let f = sorts-grow ss us gs i (omega arith) xs a in
      (a, rw (e, f) b, rw e (constants-grow s t gi i ms (amounts (shape_of k) (width_of (some (sort_at ss i))) ks) d))
  fine-grow i l (a_select a j ps) (p, q, r, u, v) = (
    p,
    q,
    grows-get_or ss us gs j bool (omega arith) ∙ r,
    pairs-grow ss us gs i (array_at D a).index (array_at D a).value (omega arith) ps u,
    grows-get_or ss us gs i bool l ∙ v,
  )
  fine-grow i l (a_call g w xs) (p, q, r, u, v) = (p, q, sorts-grow ss us gs i (omega arith) xs q ∙ r, u, grows-get_or ss us gs i bool l ∙ v)

-- one more node
pub built-snoc : (D : Declarations) (s : List Item) (ss : List TreeSort) (x : Item) (σ : TreeSort) → Built D s ss → T (proper σ)
    → Fine D (s ++ (x ∷ [])) (ss ++ (σ ∷ [])) (length s) x → Built D (s ++ (x ∷ [])) (ss ++ (σ ∷ []))
built-snoc D s ss x σ b h f = record {
  sized = length-append s (x ∷ []) ∙ ap (λ (n : ℕ). n + 1) b.sized ∙ sym (length-append ss (σ ∷ []));
  proper = all_append proper ss (σ ∷ []) b.proper (h, tt);
  fine = λ i y e. by_place i y e (at_snoc s x i y e);
}
  where
    by_place : (i : ℕ) (y : Item) → get_elem? (s ++ (x ∷ [])) i ≡ some y → (get_elem? s i ≡ some y) ⊎ ((i ≡ length s) × (x ≡ y)) → Fine D (s ++ (x ∷ [])) (ss ++ (σ ∷ [])) i y
    by_place i y e (inl q) =
        let l : i < length s = at_less s i y q in
        let m : length s ≡ length ss = b.sized in
        fine-grow D s (s ++ (x ∷ [])) ss (ss ++ (σ ∷ [])) (x ∷ [], refl) (σ ∷ [], refl) i (omega arith) y (b.fine i y q)
    by_place i y e (inr (p, q)) = rw p (subst (λ (z : Item). Fine D (s ++ (x ∷ [])) (ss ++ (σ ∷ [])) (length s) z) q f)

-- the sort of the last node
pub last-sort : (s : List Item) (ss : List TreeSort) (σ : TreeSort) → length s ≡ length ss → sort_at (ss ++ (σ ∷ [])) (length s) ≡ σ
last-sort s ss σ e = rw e (get_or-append_seam ss σ [] bool)
