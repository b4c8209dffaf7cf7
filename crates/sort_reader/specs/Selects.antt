-- The sort of a select as it is read: the stores that open before the array's name, and then an index and a value for each, the
-- innermost first.
use Prim.Native.Nat.{ℕ, zero, suc, ◌+◌}
use Rattle.std.proofs.Math.Path.{◌≡◌, refl, ap, sym, subst}
use Rattle.std.proofs.Common.{◌∙◌, arith}
use mathlib.Core.List.{List, [], ◌∷◌, ◌++◌, append_assoc}
use Rattle.std.specs.Prelude.{Bool, ◌&&◌, cond}
use Rattle.std.proofs.Math.Bool.{true, false}
use Rattle.std.proofs.Math.Option.{Option, none, some}
use Rattle.std.proofs.Math.Dec.{eqb}
use Rattle.lists.specs.Bytes.{bytes}
use Rattle.lists.specs.Tests.{same, same_refl, T→true}
use Rattle.reading.specs.Trees.{Name, Tree, select, Stores, base, store, Array, Declarations}
use Rattle.echo_spec.specs.TreeSorts.{TreeSort, bits, if_proper, has_sort, select_sort, sort_under, none_bound, array_named, tree_sort, stores_have}
use Rattle.readback.specs.Reader.{Took, took, and_then, expect, up_to, name_read, Stored, word_end, read_term, read_open, read_stored}
use Rattle.reader_laws.specs.TermsRead.{expect-word}
use Rattle.sort_reader.specs.Sorted.{of_sort, sorted}

-- ---------------------------------------------------------------- definitions

-- a blank, and a term of this width after it
unfoldable pub operand_of : ℕ → Declarations → ℕ → List ℕ → Option (Took (List ℕ))
operand_of f D w b = and_then (expect (bytes " ") b) (λ _ x. and_then (sorted f D x) (λ σ y. cond (has_sort (some σ) (bits w)) (took [] y) none))

-- the rest of a select after the array's name: n stores to close, and the select's own index
unfoldable pub stores_then : ℕ → Declarations → Array → ℕ → List ℕ → Option (Took TreeSort)
stores_then g D a zero b = and_then (operand_of g D a.index b) (λ _ y. and_then (expect (bytes ")") y) (λ _ z. of_sort (if_proper (bits a.value)) z))
stores_then g D a (suc n) b =
    and_then (operand_of g D a.index b) (λ _ y. and_then (operand_of g D a.value y) (λ _ x. and_then (expect (bytes ")") x) (λ _ z. stores_then (suc g) D a n z)))

-- n steps more
abbrev pub raised : ℕ → ℕ → ℕ
raised zero h = h
raised (suc n) h = suc (raised n h)

pub raised_by : (n h : ℕ) → raised n h ≡ n + h
raised_by zero h = omega arith
raised_by (suc n) h = let e = raised_by n h in omega arith

pub raised-suc : (n h : ℕ) → raised n (suc h) ≡ suc (raised n h)
raised-suc zero h = refl
raised-suc (suc n) h = ap suc (raised-suc n h)

-- n stores open
unfoldable pub opened : ℕ → List ℕ → List ℕ
opened zero b = b
opened (suc n) b = 40 ∷ (bytes "store " ++ opened n b)

-- ---------------------------------------------------------------- one reader after another

pub and_assoc : {A B C : Type 0} (o : Option (Took A)) (f : A → List ℕ → Option (Took B)) (g : B → List ℕ → Option (Took C))
    → and_then (and_then o f) g ≡ and_then o (λ x r. and_then (f x r) g)
unfolding and_then
and_assoc none f g = refl
and_assoc (some t) f g = refl

pub and_same : {A B : Type 0} (o : Option (Took A)) (f g : A → List ℕ → Option (Took B)) → ((x : A) (r : List ℕ) → f x r ≡ g x r) → and_then o f ≡ and_then o g
unfolding and_then
and_same none f g h = refl
and_same (some t) f g h = h t.value t.rest

pub and-nothing : {A B : Type 0} (o : Option (Took A)) (f : A → List ℕ → Option (Took B)) → ((x : A) (r : List ℕ) → f x r ≡ none) → and_then o f ≡ none
unfolding and_then
and-nothing none f h = refl
and-nothing (some t) f h = h t.value t.rest

took-then-any : {B : Type 0} (q : List ℕ) (f : List ℕ → Option (Took B)) → and_then {A = List ℕ} (took [] q) (λ _ q. f q) ≡ f q
unfolding and_then
took-then-any q f = refl

-- ---------------------------------------------------------------- the stores, the innermost first

module _ (D : Declarations) {C : Type 0} where
  -- an index and a value with their blanks and the bracket, and then what follows
  unfoldable pub one_store : ℕ → List ℕ → (Tree → Tree → List ℕ → Option (Took C)) → Option (Took C)
  one_store h r K =
      and_then (expect (bytes " ") r) (λ _ x. and_then (read_term h D x) (λ i y. and_then (expect (bytes " ") y) (λ _ z. and_then (read_term h D z) (λ v p. and_then (expect (bytes ")") p) (λ _ e. K i v e)))))

  -- n stores over those that were read
  unfoldable pub unwind : ℕ → ℕ → Name → Stores → List ℕ → (Stored → List ℕ → Option (Took C)) → Option (Took C)
  unwind zero h a ss r K = K (record { array = a; stores = ss }) r
  unwind (suc n) h a ss r K = one_store h r (λ i v e. unwind n (suc h) a (store i v ss) e K)

  pub one_same : (h : ℕ) (r : List ℕ) (K L : Tree → Tree → List ℕ → Option (Took C)) → ((i v : Tree) (e : List ℕ) → K i v e ≡ L i v e) → one_store h r K ≡ one_store h r L
  unfolding one_store
  one_same h r K L k =
      and_same (expect (bytes " ") r) _ _ (λ _ x. and_same (read_term h D x) _ _ (λ i y. and_same (expect (bytes " ") y) _ _ (λ _ z. and_same (read_term h D z) _ _ (λ v p. and_same (expect (bytes ")") p) _ _ (λ _ e. k i v e)))))

  -- the outermost store is read last
  unwind-last : (n h : ℕ) (a : Name) (ss : Stores) (r : List ℕ) (K : Stored → List ℕ → Option (Took C))
      → unwind n h a ss r (λ s q. one_store (raised n h) q (λ i v e. K (record { array = s.array; stores = store i v s.stores }) e)) ≡ unwind (suc n) h a ss r K
  unfolding unwind
  unwind-last zero h a ss r K = refl
  unwind-last (suc n) h a ss r K =
      let z : raised n (suc h) ≡ suc (raised n h) = raised-suc n h in
      one_same h r _ _ (λ i v e. subst (λ (m : ℕ). unwind n (suc h) a (store i v ss) e (λ s q. one_store m q (λ i v e. K (record { array = s.array; stores = store i v s.stores }) e)) ≡ unwind (suc n) (suc h) a (store i v ss) e K) z (unwind-last n (suc h) a (store i v ss) e K))

  took-then : {A : Type 0} (x : A) (e : List ℕ) (K : A → List ℕ → Option (Took C)) → and_then (took x e) K ≡ K x e
  unfolding and_then
  took-then x e K = refl

  store-assoc : (h : ℕ) (r : List ℕ) (s : Stored) (K : Stored → List ℕ → Option (Took C))
      → and_then
      (and_then (expect (bytes " ") r) (λ _ x. and_then (read_term h D x) (λ i y. and_then (expect (bytes " ") y) (λ _ z. and_then (read_term h D z) (λ v p.
      and_then (expect (bytes ")") p) (λ _ e. took (record { array = s.array; stores = store i v s.stores }) e)))))) K
      ≡ one_store h r (λ i v e. K (record { array = s.array; stores = store i v s.stores }) e)
  unfolding one_store
  store-assoc h r s K =
      and_assoc (expect (bytes " ") r) _ K ∙ and_same (expect (bytes " ") r) _ _ (λ _ x.
      and_assoc (read_term h D x) _ K ∙ and_same (read_term h D x) _ _ (λ i y.
      and_assoc (expect (bytes " ") y) _ K ∙ and_same (expect (bytes " ") y) _ _ (λ _ z.
      and_assoc (read_term h D z) _ K ∙ and_same (read_term h D z) _ _ (λ v p.
      and_assoc (expect (bytes ")") p) _ K ∙ and_same (expect (bytes ")") p) _ _ (λ _ e. took-then (record { array = s.array; stores = store i v s.stores }) e K)))))

  -- a store that opens, by what is read inside
  store-open : (f : ℕ) (q : List ℕ) (K : Stored → List ℕ → Option (Took C)) → and_then (read_stored (suc f) D (40 ∷ (bytes "store " ++ q))) K
      ≡ and_then (read_stored f D q) (λ s r. one_store f r (λ i v e. K (record { array = s.array; stores = store i v s.stores }) e))
  unfolding read_term
  store-open f q K =
      let w : expect (bytes "store ") (bytes "store " ++ q) ≡ took [] q = expect-word (bytes "store ") q in
      ap (λ (o : Option (Took (List ℕ))). and_then (and_then o (λ _ q. and_then (read_stored f D q) (λ s r. and_then (expect (bytes " ") r) (λ _ x. and_then (read_term f D x) (λ i y. and_then (expect (bytes " ") y) (λ _ z.
      and_then (read_term f D z) (λ v p. and_then (expect (bytes ")") p) (λ _ e. took (record { array = s.array; stores = store i v s.stores }) e)))))))) K) w
      ∙ ap (λ (o : Option (Took Stored)). and_then o K) (took-then-any q (λ q. and_then (read_stored f D q) (λ s r. and_then (expect (bytes " ") r) (λ _ x. and_then (read_term f D x) (λ i y. and_then (expect (bytes " ") y) (λ _ z.
      and_then (read_term f D z) (λ v p. and_then (expect (bytes ")") p) (λ _ e. took (record { array = s.array; stores = store i v s.stores }) e))))))))
      ∙ and_assoc (read_stored f D q) _ K ∙ and_same (read_stored f D q) _ _ (λ s r. store-assoc f r s K)

  name-read : (g : ℕ) (b : List ℕ) (a : Name) (r : List ℕ) (K : Stored → List ℕ → Option (Took C)) → name_read b ≡ took a r → and_then (read_stored (suc g) D (124 ∷ b)) K ≡ K (record { array = a; stores = base }) r
  unfolding read_term and_then
  name-read g b a r K e = rw e

  -- what is read of an array with n stores open, and its name
  pub stored-unwound : (n g : ℕ) (b : List ℕ) (a : Name) (r : List ℕ) (K : Stored → List ℕ → Option (Took C)) → name_read b ≡ took a r
      → and_then (read_stored (raised n (suc g)) D (opened n (124 ∷ b))) K ≡ unwind n (suc g) a base r K
  unfolding opened unwind
  stored-unwound zero g b a r K e = name-read g b a r K e
  stored-unwound (suc n) g b a r K e =
      store-open (raised n (suc g)) (opened n (124 ∷ b)) K
      ∙ stored-unwound n g b a r (λ s q. one_store (raised n (suc g)) q (λ i v e. K (record { array = s.array; stores = store i v s.stores }) e)) e
      ∙ unwind-last n (suc g) a base r K

-- ---------------------------------------------------------------- sorts

and-false : (a b : Bool) → b ≡ false → (a && b) ≡ false
and-false true b e = e
and-false false b e = refl

none_of : (z : List ℕ) → of_sort none z ≡ none
unfolding of_sort
none_of z = refl

-- what an operand of some sort comes to, if its width is asked for
taken : {C : Type 0} (w : ℕ) (o : Option TreeSort) (k : Option (Took C)) (L : List ℕ → Option (Took C)) (y : List ℕ) → (has_sort o (bits w) ≡ true → k ≡ L y) → (has_sort o (bits w) ≡ false → k ≡ none)
    → and_then (of_sort o y) (λ σ y. and_then {A = List ℕ} (cond (has_sort (some σ) (bits w)) (took [] y) none) (λ _ y. L y)) ≡ k
unfolding and_then of_sort has_sort
taken w none k L y good bad = sym (bad refl)
taken {C} w (some σ) k L y good bad = by-test (has_sort (some σ) (bits w)) refl
  where
    by-test : (t : Bool) → has_sort (some σ) (bits w) ≡ t → and_then {A = List ℕ} (cond t (took [] y) none) (λ _ y. L y) ≡ k
    by-test true e = sym (good e)
    by-test false e = sym (bad e)

module _ (D : Declarations) where
  -- the select's own index, after the array and its stores
  own_index : ℕ → Stored → List ℕ → Option (Took TreeSort)
  own_index f s r =
      and_then (expect (bytes " ") r) (λ _ x. and_then (read_term f D x) (λ j y. and_then (expect (bytes ")") y) (λ _ z. of_sort (tree_sort D (select s.array j s.stores)) z)))

  took-sort : (t : Tree) (z : List ℕ) → and_then (took t z) (λ t r. of_sort (tree_sort D t) r) ≡ of_sort (tree_sort D t) z
  unfolding and_then
  took-sort t z = refl

  select_read : (f : ℕ) (o : Option (Took Stored))
      → and_then (and_then o (λ s r. and_then (expect (bytes " ") r) (λ _ x. and_then (read_term f D x) (λ j y. and_then (expect (bytes ")") y) (λ _ z. took (select s.array j s.stores) z))))) (λ t r. of_sort (tree_sort D t) r)
      ≡ and_then o (own_index f)
  unfolding own_index
  select_read f o =
      let K : (Tree → List ℕ → Option (Took TreeSort)) = λ t r. of_sort (tree_sort D t) r in
      and_assoc o _ K ∙ and_same o _ _ (λ s r.
      and_assoc (expect (bytes " ") r) _ K ∙ and_same (expect (bytes " ") r) _ _ (λ _ x.
      and_assoc (read_term f D x) _ K ∙ and_same (read_term f D x) _ _ (λ j y.
      and_assoc (expect (bytes ")") y) _ K ∙ and_same (expect (bytes ")") y) _ _ (λ _ z. took-sort (select s.array j s.stores) z))))

  select-open : (f : ℕ) (q : List ℕ) → sorted (suc (suc f)) D (40 ∷ (bytes "select " ++ q)) ≡ and_then (read_stored f D q) (own_index f)
  unfolding sorted read_term bytes and_then expect up_to same
  select-open f q = select_read f (read_stored f D q)

  -- ---------------------------------------------------------------- what is no select

  store-fails : (f : ℕ) (q : List ℕ) → read_stored f D q ≡ none → read_stored (suc f) D (40 ∷ (bytes "store " ++ q)) ≡ none
  unfolding read_term and_then
  store-fails f q e =
      let w : expect (bytes "store ") (bytes "store " ++ q) ≡ took [] q = expect-word (bytes "store ") q in
      rw (w, e)

  stored-fails : (n f : ℕ) (b : List ℕ) → read_stored f D b ≡ none → read_stored (raised n f) D (opened n b) ≡ none
  unfolding opened
  stored-fails zero f b e = e
  stored-fails (suc n) f b e = store-fails (raised n f) (opened n b) (stored-fails n f b e)

  nothing_then : (f : ℕ) → and_then none (own_index f) ≡ none
  unfolding and_then
  nothing_then f = refl

  select-fails : (n f : ℕ) (b : List ℕ) → read_stored f D b ≡ none → sorted (suc (suc (raised n f))) D (40 ∷ (bytes "select " ++ opened n b)) ≡ none
  select-fails n f b e = select-open (raised n f) (opened n b) ∙ ap (λ (o : Option (Took Stored)). and_then o (own_index (raised n f))) (stored-fails n f b e) ∙ nothing_then (raised n f)

  -- neither a store nor a name
  no_store : (f c : ℕ) (b : List ℕ) → eqb c 124 ≡ false → (eqb c 40 ≡ true → expect (bytes "store ") b ≡ none) → read_stored f D (c ∷ b) ≡ none
  unfolding read_term and_then
  no_store zero c b p q = refl
  no_store (suc f) c b p q = rw (p, read_stored) (by-bracket (eqb c 40) refl)
    where
      by-bracket : (t : Bool) → eqb c 40 ≡ t → ◌≡◌ {A = Option (Took Stored)} (elim t as (λ _. Option (Took Stored)) [
        | true ↦ and_then (expect (bytes "store ") b) (λ _ q.
            and_then (read_stored f D q) (λ a r.
            and_then (expect (bytes " ") r) (λ _ x.
            and_then (read_term f D x) (λ i y.
            and_then (expect (bytes " ") y) (λ _ z.
            and_then (read_term f D z) (λ v p.
            and_then (expect (bytes ")") p) (λ _ e. took (record { array = a.array; stores = store i v a.stores }) e)))))))
        | false ↦ none
      ]) none
      by-bracket true e = rw (q e)
      by-bracket false e = refl

  nothing_stored : (f : ℕ) → read_stored f D [] ≡ none
  unfolding read_term
  nothing_stored zero = refl
  nothing_stored (suc f) = refl

  no_name : (f : ℕ) (b : List ℕ) → name_read b ≡ none → read_stored f D (124 ∷ b) ≡ none
  unfolding read_term and_then
  no_name zero b e = refl
  no_name (suc f) b e = rw e

  pub select-no-store : (n f c : ℕ) (b : List ℕ) → eqb c 124 ≡ false → (eqb c 40 ≡ true → expect (bytes "store ") b ≡ none)
      → sorted (suc (suc (raised n f))) D (40 ∷ (bytes "select " ++ opened n (c ∷ b))) ≡ none
  select-no-store n f c b p q = select-fails n f (c ∷ b) (no_store f c b p q)

  pub select-nothing : (n f : ℕ) → sorted (suc (suc (raised n f))) D (40 ∷ (bytes "select " ++ opened n [])) ≡ none
  select-nothing n f = select-fails n f [] (nothing_stored f)

  pub select-no-name : (n f : ℕ) (b : List ℕ) → name_read b ≡ none → sorted (suc (suc (raised n f))) D (40 ∷ (bytes "select " ++ opened n (124 ∷ b))) ≡ none
  select-no-name n f b e = select-fails n f (124 ∷ b) (no_name f b e)

  alone-open : (f c : ℕ) (b r : List ℕ) → eqb c 40 ≡ false → eqb c 124 ≡ false → up_to word_end (c ∷ b) ≡ record { value = bytes "select"; rest = r } → expect (bytes " ") r ≡ none → read_open (suc f) D (c ∷ b) ≡ none
  unfolding read_term and_then
  alone-open f c b r p q u n = rw (p, read_open, q, u, T→true (same (bytes "select") (bytes "select")) (same_refl (bytes "select")), u, n)

  none-sorted : and_then none (λ (t : Tree) r. of_sort (tree_sort D t) r) ≡ none
  unfolding and_then
  none-sorted = refl

  -- the word with no blank after it
  pub select-alone : (f : ℕ) (c : ℕ) (b r : List ℕ) → eqb c 40 ≡ false → eqb c 124 ≡ false → up_to word_end (c ∷ b) ≡ record { value = bytes "select"; rest = r } → expect (bytes " ") r ≡ none
      → sorted (suc (suc f)) D (40 ∷ c ∷ b) ≡ none
  unfolding sorted read_term
  select-alone f c b r p q u n = ap (λ (o : Option (Took Tree)). and_then o (λ t r. of_sort (tree_sort D t) r)) (alone-open f c b r p q u n) ∙ none-sorted

module _ (D : Declarations) (name : Name) (a : Array) (there : array_named D name ≡ some a) where
  abbrev have : Stores → Bool
  have ss = stores_have D none_bound a.index a.value ss

  select-sort : (j : Tree) (ss : Stores) (t : Bool) → (has_sort (tree_sort D j) (bits a.index) && have ss) ≡ t
      → tree_sort D (select name j ss) ≡ cond t (if_proper (bits a.value)) none
  unfolding sort_under select_sort
  select-sort j ss t e = rw (there, e)

  -- a term of the width, or nothing comes of it
  operand-as : {C : Type 0} (h w : ℕ) (r : List ℕ) (K : Tree → List ℕ → Option (Took C)) (L : List ℕ → Option (Took C))
      → ((t : Tree) (y : List ℕ) → has_sort (tree_sort D t) (bits w) ≡ true → K t y ≡ L y) → ((t : Tree) (y : List ℕ) → has_sort (tree_sort D t) (bits w) ≡ false → K t y ≡ none)
      → and_then (expect (bytes " ") r) (λ _ x. and_then (read_term h D x) (λ t y. K t y)) ≡ and_then (operand_of h D w r) (λ _ y. L y)
  unfolding operand_of sorted
  operand-as h w r K L good bad =
      sym (and_assoc (expect (bytes " ") r) _ (λ _ y. L y) ∙ and_same (expect (bytes " ") r) _ _ (λ _ x.
      and_assoc (and_then (read_term h D x) (λ t r. of_sort (tree_sort D t) r)) _ (λ _ y. L y) ∙ and_assoc (read_term h D x) _ _
      ∙ and_same (read_term h D x) _ _ (λ t y. taken w (tree_sort D t) (K t y) L y (good t y) (bad t y))))

  -- stores that do not fit stay so
  bad-unwound : (n h f : ℕ) (ss : Stores) (r : List ℕ) → have ss ≡ false → unwind D n h name ss r (own_index D f) ≡ none
  unfolding unwind one_store own_index sort_under
  bad-unwound zero h f ss r e =
      and-nothing (expect (bytes " ") r) _ (λ _ x. and-nothing (read_term f D x) _ (λ j y. and-nothing (expect (bytes ")") y) _ (λ _ z.
      ap (λ (s : Option TreeSort). of_sort s z) (select-sort j ss false (and-false (has_sort (tree_sort D j) (bits a.index)) (have ss) e)) ∙ none_of z)))
  bad-unwound (suc n) h f ss r e =
      and-nothing (expect (bytes " ") r) _ (λ _ x. and-nothing (read_term h D x) _ (λ i y. and-nothing (expect (bytes " ") y) _ (λ _ z. and-nothing (read_term h D z) _ (λ v p. and-nothing (expect (bytes ")") p) _ (λ _ q.
      bad-unwound n (suc h) f (store i v ss) q (and-false (has_sort (tree_sort D i) (bits a.index)) _ (and-false (has_sort (tree_sort D v) (bits a.value)) (have ss) e)))))))

  -- stores that fit so far, and the rest of them
  good-unwound : (n h : ℕ) (ss : Stores) (r : List ℕ) → have ss ≡ true → unwind D n h name ss r (own_index D (raised n h)) ≡ stores_then h D a n r
  unfolding unwind one_store own_index stores_then sort_under
  good-unwound zero h ss r e =
      operand-as h a.index r (λ j y. and_then (expect (bytes ")") y) (λ _ z. of_sort (tree_sort D (select name j ss)) z)) (λ y. and_then (expect (bytes ")") y) (λ _ z. of_sort (if_proper (bits a.value)) z))
      (λ j y q. and_same (expect (bytes ")") y) _ _ (λ _ z. ap (λ (s : Option TreeSort). of_sort s z) (select-sort j ss true (rw (q, e) refl))))
      (λ j y q. and-nothing (expect (bytes ")") y) _ (λ _ z. ap (λ (s : Option TreeSort). of_sort s z) (select-sort j ss false (rw q refl)) ∙ none_of z))
  good-unwound (suc n) h ss r e =
      operand-as h a.index r
      (λ i y. and_then (expect (bytes " ") y) (λ _ z. and_then (read_term h D z) (λ v p. and_then (expect (bytes ")") p) (λ _ q. unwind D n (suc h) name (store i v ss) q (own_index D (suc (raised n h)))))))
      (λ y. and_then (operand_of h D a.value y) (λ _ x. and_then (expect (bytes ")") x) (λ _ z. stores_then (suc h) D a n z)))
      (λ i y g. operand-as h a.value y (λ v p. and_then (expect (bytes ")") p) (λ _ q. unwind D n (suc h) name (store i v ss) q (own_index D (suc (raised n h))))) (λ p. and_then (expect (bytes ")") p) (λ _ z. stores_then (suc h) D a n z))
      (λ v p k. and_same (expect (bytes ")") p) _ _ (λ _ q. step-good i v q (λ m. good-unwound n (suc h) (store i v ss) q m) (rw (g, k, e) refl)))
      (λ v p k. and-nothing (expect (bytes ")") p) _ (λ _ q. bad-unwound n (suc h) (suc (raised n h)) (store i v ss) q (and-false (has_sort (tree_sort D i) (bits a.index)) _ (rw k refl)))))
      (λ i y g. and-nothing (expect (bytes " ") y) _ (λ _ z. and-nothing (read_term h D z) _ (λ v p. and-nothing (expect (bytes ")") p) _ (λ _ q. bad-unwound n (suc h) (suc (raised n h)) (store i v ss) q (rw g refl)))))
    where
      step-good : (i v : Tree) (q : List ℕ) → (have (store i v ss) ≡ true → unwind D n (suc h) name (store i v ss) q (own_index D (raised n (suc h))) ≡ stores_then (suc h) D a n q)
          → have (store i v ss) ≡ true → unwind D n (suc h) name (store i v ss) q (own_index D (suc (raised n h))) ≡ stores_then (suc h) D a n q
      step-good i v q rest t = subst (λ (m : ℕ). unwind D n (suc h) name (store i v ss) q (own_index D m) ≡ stores_then (suc h) D a n q) (raised-suc n h) (rest t)

  -- THE SORT of a select: n stores that open, the array's name, and the rest of them.
  pub select-sorted : (n g : ℕ) (b r : List ℕ) → name_read b ≡ took name r → sorted (suc (suc (raised n (suc g)))) D (40 ∷ (bytes "select " ++ opened n (124 ∷ b))) ≡ stores_then (suc g) D a n r
  unfolding sort_under
  select-sorted n g b r e =
      select-open D (raised n (suc g)) (opened n (124 ∷ b)) ∙ stored-unwound D n g b name r (own_index D (raised n (suc g))) e ∙ good-unwound n (suc g) base r refl

-- ---------------------------------------------------------------- an array that is not declared

module _ (D : Declarations) (name : Name) (gone : array_named D name ≡ none) where
  gone-sort : (j : Tree) (ss : Stores) → tree_sort D (select name j ss) ≡ none
  unfolding sort_under select_sort
  gone-sort j ss = rw gone

  gone-unwound : (n h f : ℕ) (ss : Stores) (r : List ℕ) → unwind D n h name ss r (own_index D f) ≡ none
  unfolding unwind one_store own_index
  gone-unwound zero h f ss r =
      and-nothing (expect (bytes " ") r) _ (λ _ x. and-nothing (read_term f D x) _ (λ j y. and-nothing (expect (bytes ")") y) _ (λ _ z. ap (λ (s : Option TreeSort). of_sort s z) (gone-sort j ss) ∙ none_of z)))
  gone-unwound (suc n) h f ss r =
      and-nothing (expect (bytes " ") r) _ (λ _ x. and-nothing (read_term h D x) _ (λ i y. and-nothing (expect (bytes " ") y) _ (λ _ z. and-nothing (read_term h D z) _ (λ v p. and-nothing (expect (bytes ")") p) _ (λ _ q.
      gone-unwound n (suc h) f (store i v ss) q)))))

  pub select-no-array : (n g : ℕ) (b r : List ℕ) → name_read b ≡ took name r → sorted (suc (suc (raised n (suc g)))) D (40 ∷ (bytes "select " ++ opened n (124 ∷ b))) ≡ none
  select-no-array n g b r e =
      select-open D (raised n (suc g)) (opened n (124 ∷ b)) ∙ stored-unwound D n g b name r (own_index D (raised n (suc g))) e ∙ gone-unwound n (suc g) (raised n (suc g)) base r
