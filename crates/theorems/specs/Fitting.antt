-- A tree that has a sort by the printer's rules fits the declarations with that sort, by the standard's ranks.
use Rattle.std.specs.Prelude.{ℕ, ◌≡◌, ◌⊎◌, ltb}
use Rattle.std.proofs.Math.Path.{refl}
use Rattle.std.proofs.Common.{ap, sym, ◌∙◌, subst, inl, inr, ltb→lt}
use mathlib.Core.List.{List, [], ◌∷◌, map, map-map}
use Rattle.std.proofs.Math.Bool.{Bool}
use Rattle.std.proofs.Math.Option.{Option, none as nothing, some}
use Rattle.std.proofs.Math.Dec.{T, leb}
use Rattle.std.proofs.Math.ListN.{length}
use Rattle.lists.specs.Tests.{same, every, and_0, and-1, and_T, by-test, same→eq}
use Rattle.lists.specs.Build.{find}
use Rattle.lists.specs.Member.{find-member}
use Rattle.reading.specs.Trees.{Name, Tree, variable, constant, apply, select, call, Trees, none, more, Stores, base, store, Variable, Array, Function, Declarations}
use Rattle.smtlib.specs.Scopes.{Scope, bound_to}
use Rattle.smtlib.specs.Sorts.{TermSort, bool, bits, sensible, Rank, rank}
use Rattle.echo_spec.specs.Shapes.{Shape, var, const, binary, rotation, extraction, concat, extension, ite, comparison, negation, connective, unary, unknown, shape_of}
use Rattle.echo_spec.specs.Input.{fits64}
use Rattle.echo_spec.specs.TreeSorts.{TreeSort, proper, has_sort, have_sorts, rule_of, rule_for, variable_sort, BoundSorts, sort_under, sorts_under, stores_have}
use Rattle.echo_spec.specs.TreeSortLaws.{cond-some, proper-if, has-eq, Met, operator-met, variable-declared, select-fits, call_fits, sorted-proper, operands-proper}
use Rattle.theorems.specs.Terms.{fits-unbound, fits_bound, FitsIn, FitsAllIn, FitsStoresIn}
use Rattle.theorems.specs.Sorting.{instance_at, result-sort}
use Rattle.theorems.specs.SymbolTables.{Symbol, symbol-of, comparison-symbol}

-- ---------------------------------------------------------------- sorts

-- a tree's sort as the standard has it
abbrev pub as_term : TreeSort → TermSort
as_term TreeSort.bool = bool
as_term (TreeSort.bits w) = bits w

-- the standard's scope binds the same names to the same sorts
abbrev pub SameScope : Scope TermSort → BoundSorts → Type 0
SameScope E bound = (n : Name) → bound_to E n ≡ elim (bound n) [ nothing ↦ nothing | some s ↦ some (as_term s) ]

sensible-one : (s : TreeSort) → T (proper s) → T (sensible (as_term s))
sensible-one TreeSort.bool h = tt
sensible-one (TreeSort.bits w) h = and_0 (ltb 0 w) (fits64 w) h

sensible-all : (ss : List TreeSort) → T (every proper ss) → T (every sensible (map as_term ss))
sensible-all [] h = tt
sensible-all (s ∷ ss) h =
    and_T (sensible (as_term s)) (every sensible (map as_term ss)) (sensible-one s (and_0 (proper s) (every proper ss) h)) (sensible-all ss (and-1 (proper s) (every proper ss) h))

as_bits : {w : ℕ} {s : TreeSort} → TreeSort.bits w ≡ s → as_term s ≡ bits w
as_bits e = ap as_term (sym e)

module _ (D : Declarations) (E : Scope TermSort) where
  -- an operator over trees that fit an instance of its rank
  operator-fits : {k p a : ℕ} {r : Rank} → Symbol k p a r → (ks : List ℕ) (ts : Trees) (u : TermSort) (us : List TermSort) → length ks ≡ p → length (u ∷ us) ≡ a
      → FitsAllIn D E ts (u ∷ us) → (instance_at r ks (u ∷ us)).numerals ≡ ks → (instance_at r ks (u ∷ us)).operands ≡ u ∷ us → T (every sensible (u ∷ us))
      → T (instance_at r ks (u ∷ us)).condition → FitsIn D E (apply k ks ts) (instance_at r ks (u ∷ us)).result
  unfolding rank
  operator-fits {k} {p} {a} {r} S ks ts u us e f h m o g c =
      (u, us, h, S.simple, rw (e, f) S.row, rw (S.ranked, rank) (result-sort r ks (u ∷ us) m o g c))

  -- an equation is ranked apart from the other comparisons
  comparison-fits : (k : ℕ) (ks : List ℕ) (ts : Trees) (w : ℕ) → Symbol k 0 2 Rank.comparison ⊎ Symbol k 0 2 Rank.equality → length ks ≡ 0 → [] ≡ ks
      → FitsAllIn D E ts (bits w ∷ bits w ∷ []) → T (every sensible (bits w ∷ bits w ∷ [])) → FitsIn D E (apply k ks ts) bool
  comparison-fits k ks ts w (inl S) l m f g = operator-fits S ks ts (bits w) (bits w ∷ []) l refl f m refl g tt
  comparison-fits k ks ts w (inr S) l m f g = operator-fits S ks ts (bits w) (bits w ∷ []) l refl f m refl g tt

  -- numerals and operands by the rule of a shape are an instance of the rank of its symbols
  rule_fits : (k : ℕ) (ks : List ℕ) (ts : Trees) (os : List (Option TreeSort)) (h : Shape) → shape_of k ≡ h
      → FitsAllIn D E ts (map as_term (rule_for h ks os).operands) → T (every sensible (map as_term (rule_for h ks os).operands))
      → (rule_for h ks os).numerals ≡ ks → T (rule_for h ks os).condition → FitsIn D E (apply k ks ts) (as_term (rule_for h ks os).result)
  unfolding rule_of
  rule_fits k ks ts os var e f g m c = absurd c
  rule_fits k ks ts os const e f g m c = absurd c
  rule_fits k ks ts os binary e f g m c = operator-fits (symbol-of k 0 2 Rank.binary binary e refl) ks ts _ _ (sym (ap length m)) refl f m refl g tt
  rule_fits k ks ts os rotation e f g m c = operator-fits (symbol-of k 1 1 Rank.rotation rotation e refl) ks ts _ _ (sym (ap length m)) refl f m refl g tt
  rule_fits k ks ts os extraction e f g m c = operator-fits (symbol-of k 2 1 Rank.extraction extraction e refl) ks ts _ _ (sym (ap length m)) refl f m refl g c
  rule_fits k ks ts os concat e f g m c = operator-fits (symbol-of k 0 2 Rank.concatenation concat e refl) ks ts _ _ (sym (ap length m)) refl f m refl g tt
  rule_fits k ks ts os extension e f g m c = operator-fits (symbol-of k 1 1 Rank.extension extension e refl) ks ts _ _ (sym (ap length m)) refl f m refl g tt
  rule_fits k ks ts os ite e f g m c = operator-fits (symbol-of k 0 3 Rank.choice ite e refl) ks ts _ _ (sym (ap length m)) refl f m refl g tt
  rule_fits k ks ts os comparison e f g m c = comparison-fits k ks ts _ (comparison-symbol k e) (sym (ap length m)) m f g
  rule_fits k ks ts os negation e f g m c = operator-fits (symbol-of k 0 1 Rank.negation negation e refl) ks ts _ _ (sym (ap length m)) refl f m refl g tt
  rule_fits k ks ts os connective e f g m c = operator-fits (symbol-of k 0 2 Rank.connective connective e refl) ks ts _ _ (sym (ap length m)) refl f m refl g tt
  rule_fits k ks ts os unary e f g m c = operator-fits (symbol-of k 0 1 Rank.unary unary e refl) ks ts _ _ (sym (ap length m)) refl f m refl g tt
  rule_fits k ks ts os Shape.select e f g m c = absurd c
  rule_fits k ks ts os Shape.call e f g m c = absurd c
  rule_fits k ks ts os unknown e f g m c = absurd c

-- ---------------------------------------------------------------- trees

module _ (D : Declarations) (bound : BoundSorts) (E : Scope TermSort) (agree : SameScope E bound) where
  fits-variable : (n : Name) (s : TreeSort) → variable_sort (bound n) (find (λ (v : Variable). same n v.name) D.variables) ≡ some s
      → FitsIn D E (variable n) (as_term s)
  unfolding variable_sort
  fits-variable n s e = by-bound (bound n) refl e
    where
      by-bound : (o : Option TreeSort) → bound n ≡ o → variable_sort o (find (λ (v : Variable). same n v.name) D.variables) ≡ some s → FitsIn D E (variable n) (as_term s)
      by-bound nothing q e =
          let (v, f, w) = variable-declared (find (λ (v : Variable). same n v.name) D.variables) s e in
          let (m, t) = find-member (λ (v : Variable). same n v.name) D.variables v f in
          let here : n ≡ v.name = same→eq n v.name t in
          fits-unbound D E n (as_term s) (agree n ∙ rw q) (rw here (v.width, m, as_bits w))
      by-bound (some u) q e = fits_bound D E n (as_term s) (as_term u) (agree n ∙ rw q) (ap as_term (sym (proper-if u s e).0))

  fits-operator : (k : ℕ) (ks : List ℕ) (ts : Trees) (s : TreeSort)
      → ((ss : List TreeSort) → T (have_sorts (sorts_under D bound ts) ss) → FitsAllIn D E ts (map as_term ss))
      → Met (shape_of k) ks (sorts_under D bound ts) s → FitsIn D E (apply k ks ts) (as_term s)
  fits-operator k ks ts s all m =
      let os : List (Option TreeSort) = sorts_under D bound ts in
      let ss : List TreeSort = (rule_for (shape_of k) ks os).operands in
      subst (λ (u : TreeSort). FitsIn D E (apply k ks ts) (as_term u)) m.result
      (rule_fits D E k ks ts os (shape_of k) refl (all ss m.operands) (sensible-all ss (operands-proper D bound ts ss m.operands)) m.numerals m.condition)

  fits-select : (a : Name) (j : Tree) (ss : Stores) (s : TreeSort) → ((i : ℕ) → sort_under D bound j ≡ some (TreeSort.bits i) → FitsIn D E j (bits i))
      → ((i v : ℕ) → T (stores_have D bound i v ss) → FitsStoresIn D E ss i v) → sort_under D bound (select a j ss) ≡ some s → FitsIn D E (select a j ss) (as_term s)
  unfolding sort_under
  fits-select a j ss s index stores e =
      let (r, f, t, w) = select-fits (find (λ (x : Array). same a x.name) D.arrays) _ s e in
      let (m, q) = find-member (λ (x : Array). same a x.name) D.arrays r f in
      let here : a ≡ r.name = same→eq a r.name q in
      let first : Bool = has_sort (sort_under D bound j) (TreeSort.bits r.index) in
      let i : sort_under D bound j ≡ some (TreeSort.bits r.index) = has-eq (sort_under D bound j) (TreeSort.bits r.index) (and_0 first _ t) in
      let iw : T (ltb 0 r.index) = sensible-one (TreeSort.bits r.index) (sorted-proper D bound j (TreeSort.bits r.index) i) in
      let vw : T (ltb 0 r.value) = sensible-one (TreeSort.bits r.value) (rw (← w) at (sorted-proper D bound (select a j ss) s e)) in
      rw here (r.index, r.value, m, and_T (ltb 0 r.index) (ltb 0 r.value) iw vw, index r.index i, stores r.index r.value (and-1 first _ t), as_bits w)

  fits-call : (n : Name) (ts : Trees) (s : TreeSort) → ((ss : List TreeSort) → T (have_sorts (sorts_under D bound ts) ss) → FitsAllIn D E ts (map as_term ss))
      → sort_under D bound (call n ts) ≡ some s → FitsIn D E (call n ts) (as_term s)
  unfolding sort_under
  fits-call n ts s all e =
      let (f, g, t, w) = call_fits (find (λ (f : Function). same n f.name) D.functions) (sorts_under D bound ts) s e in
      let (m, q) = find-member (λ (f : Function). same n f.name) D.functions f g in
      let here : n ≡ f.name = same→eq n f.name q in
      let args : FitsAllIn D E ts (map bits f.arguments) = rw map-map at (all (map TreeSort.bits f.arguments) t) in
      rw here (f.arguments, f.width, m, args, as_bits w)

  fits-constant : (bs : List ℕ) (s : TreeSort) → sort_under D bound (constant bs) ≡ some s → FitsIn D E (constant bs) (as_term s)
  unfolding sort_under
  fits-constant bs s e =
      let (b, f) = cond-some (every (λ b. leb b 1) bs) _ s e in
      let (w, p) = proper-if (TreeSort.bits (length bs)) s f in
      (ltb→lt 0 (length bs) (sensible-one (TreeSort.bits (length bs)) (rw (← w) at p)), by-test (λ b. leb b 1) bs b, as_bits w)

  mutual
    unfolding sort_under have_sorts

    pub fits : (t : Tree) (s : TreeSort) → sort_under D bound t ≡ some s → FitsIn D E t (as_term s)
    fits (variable n) s e = fits-variable n s e
    fits (constant bs) s e = fits-constant bs s e
    fits (apply k ks ts) s e = fits-operator k ks ts s (λ ss h. fits_all ts ss h) (operator-met (shape_of k) ks (sorts_under D bound ts) s e)
    fits (select a j ss) s e = fits-select a j ss s (λ i h. fits j (TreeSort.bits i) h) (λ i v h. fits-stores ss i v h) e
    fits (call n ts) s e = fits-call n ts s (λ ss h. fits_all ts ss h) e

    pub fits_all : (ts : Trees) (ss : List TreeSort) → T (have_sorts (sorts_under D bound ts) ss) → FitsAllIn D E ts (map as_term ss)
    fits_all none [] h = tt
    fits_all none (s ∷ ss) h = absurd h
    fits_all (more t ts) [] h = absurd h
    fits_all (more t ts) (s ∷ ss) h =
        let first : Bool = has_sort (sort_under D bound t) s in
        (fits t s (has-eq (sort_under D bound t) s (and_0 first _ h)), fits_all ts ss (and-1 first _ h))

    pub fits-stores : (ss : Stores) (i v : ℕ) → T (stores_have D bound i v ss) → FitsStoresIn D E ss i v
    fits-stores base i v h = tt
    fits-stores (store x y ss) i v h =
        let first : Bool = has_sort (sort_under D bound x) (TreeSort.bits i) in
        let second : Bool = has_sort (sort_under D bound y) (TreeSort.bits v) in
        let rest = and-1 first _ h in (
          fits x (TreeSort.bits i) (has-eq (sort_under D bound x) (TreeSort.bits i) (and_0 first _ h)),
          fits y (TreeSort.bits v) (has-eq (sort_under D bound y) (TreeSort.bits v) (and_0 second _ rest)),
          fits-stores ss i v (and-1 second _ rest),
        )
