-- Each node of a rebuilt problem: its encoding, its width, what the tables ask of it, its operands, its uses and its tree.
use Prim.Native.Nat.{ℕ, zero, suc, ◌+◌, ◌-◌, ◌*◌, ◌%◌, ◌≤◌, ◌<◌}
use Rattle.std.specs.Prelude.{◌≡◌, Bool, ◌&&◌, leb}
use Rattle.std.proofs.Math.Path.{refl, ap, sym, subst}
use Rattle.std.proofs.Common.{◌∙◌, mod-eq_of_lt, lt→ltb, length-take-le, get_or-take}
use mathlib.Core.List.{List, [], ◌∷◌, ◌++◌, map}
use Rattle.std.proofs.Math.Bool.{true, false}
use Rattle.std.proofs.Math.Option.{Option, none, some}
use native.Mathlib.Omega.{arith}
use Rattle.std.proofs.Math.Dec.{T, ltb, eqb, eqb→eq, eqb_refl, le→leb, ltb→lt}
use Rattle.std.proofs.Math.ListN.{length, get_or, get_elem?, take, drop, length-append, length-map, get_or-map}
use Rattle.std.proofs.Math.Seq.{take-append_seam, drop-append_seam}
use Rattle.lists.specs.Tests.{same, every, All, and_0, and-1, and_T, same_refl, T→true, no→false}
use Rattle.lists.specs.Build.{find_from}
use Rattle.lists.specs.Places.{at_less, at-exists, at-get_or, get_or-at, find_at, find-some}
use Rattle.reading.specs.Kinds.{Var, Const, Select, Call}
use Rattle.reading.specs.Trees.{Name, Tree, variable, constant, apply, select, call, Stores, base, store, Variable, Array, Function, Declarations}
use Rattle.echo_spec.specs.Refusals.{unless, ◌or_else◌}
use Rattle.echo_spec.specs.Shapes.{
  Shape,
  var,
  const,
  binary,
  rotation,
  extraction,
  concat,
  extension,
  ite,
  comparison,
  negation,
  connective,
  unary,
  unknown,
  shapes,
  shape_of,
  operand_count,
  is_bool,
}
use Rattle.echo_spec.specs.Input.{Node, no_node, largest, fits64, ArrayWidths, Dag, name_table, aname_table, fname_table}
use Rattle.echo_spec.specs.Widths.{
  index_width_of,
  value_width_of,
  width_at,
  earlier,
  earlier_of,
  un_wf,
  bin_wf,
  bool_bin_wf,
  extend_wf,
  chain_wf,
  args_wf,
  wf_as,
  width_as,
}
use Rattle.echo_spec.specs.Sharing.{uses_as}
use Rattle.echo_spec.specs.Tables.{find_node, find_call, call_of, arguments_inside, argument_widths}
use Rattle.echo_spec.specs.Trees.{constant_bits, bits_value, amount_of, variable_name, trees_over, stores_over, tree_as}
use Rattle.echo_spec.specs.Walk.{variable_ok, rotation_ok, args_match, call_ok, asked_as, Operand, vector, formula, levels, operands_as}
use Rattle.echo_spec.specs.TreeSorts.{TreeSort, bool, bits, proper, width_of, rule_of, rule_for, operator_sort}
use Rattle.echo_spec.specs.TreeSortLaws.{operator-met}
use Rattle.readback.specs.Printable.{variable_names_in, array_names_in, function_names_in, width_ok}
use Rattle.readback.specs.Rebuild.{
  Pair,
  Item,
  a_variable,
  a_constant,
  an_operator,
  a_select,
  a_call,
  low_bits,
  amounts,
  bits_in,
  flat,
  side_in,
  joined,
  fields,
  node_with,
  record_of,
  records_from,
  count_from,
  dag_for,
}
use Rattle.rebuilt.specs.Layout.{Laid, laid, length-records, names-back}
use Rattle.rebuilt.specs.Built.{no-variable, no-array, no-function, variable_at, array_at, function_at, sort_at, ConstantsAt, PairsAt, below, Built, Fine, proper-at}
use Rattle.rebuilt.specs.Constants.{low-bits-value, length-low-bits}
use Rattle.rebuilt.specs.Known.{have-eq}
use Rattle.rebuilt.specs.Puts.{some-injective}
use Rattle.rebuilt.specs.Start.{CalledBy}

-- the width that the width pass gives a term of the sort
abbrev pub node_width_of : TreeSort → ℕ
node_width_of bool = 1
node_width_of (bits m) = m

abbrev pub is_b : TreeSort → Bool
is_b bool = true
is_b (bits m) = false

abbrev pub OperandsOk : List TreeSort → ℕ → List Operand → Type 0
OperandsOk ss i [] = Unit
OperandsOk ss i (o ∷ os) = (o.node < i) × (is_b (sort_at ss o.node) ≡ o.bool) × OperandsOk ss i os

pub operands-append : (ss : List TreeSort) (i : ℕ) (os ps : List Operand) → OperandsOk ss i os → OperandsOk ss i ps → OperandsOk ss i (os ++ ps)
operands-append ss i [] ps h k = k
operands-append ss i (o ∷ os) ps (a, b, h) k = (a, b, operands-append ss i os ps h k)

unfoldable pub stores_from : (ℕ → Tree) → List (Pair ℕ) → Stores
stores_from f [] = base
stores_from f (p ∷ ps) = store (f p.index) (f p.value) (stores_from f ps)

-- ---------------------------------------------------------------- operands by their sorts

one_of : {A B : Type 0} (f : A → B) (xs : List A) (y : B) → map f xs ≡ y ∷ [] → (a : A) × (xs ≡ a ∷ []) × (f a ≡ y)
one_of f [] y e = absurd (let z : ◌≡◌ {A = ℕ} 0 1 = cc in omega arith)
one_of f (a ∷ []) y e = (a, refl, cc)
one_of f (a ∷ b ∷ xs) y e = absurd (let z : ◌≡◌ {A = ℕ} 0 1 = cc in omega arith)

two-of : {A B : Type 0} (f : A → B) (xs : List A) (y z : B) → map f xs ≡ y ∷ z ∷ [] → (a : A) × (b : A) × (xs ≡ a ∷ b ∷ []) × (f a ≡ y) × (f b ≡ z)
two-of f [] y z e = absurd (let z : ◌≡◌ {A = ℕ} 0 1 = cc in omega arith)
two-of f (a ∷ xs) y z e =
    let p : f a ≡ y = cc in
    let q : map f xs ≡ z ∷ [] = cc in
    let (b, r, t) = one_of f xs z q in
    (a, b, ap (λ (l : List _). a ∷ l) r, p, t)

three-of : {A B : Type 0} (f : A → B) (xs : List A) (y z w : B) → map f xs ≡ y ∷ z ∷ w ∷ []
    → (a : A) × (b : A) × (c : A) × (xs ≡ a ∷ b ∷ c ∷ []) × (f a ≡ y) × (f b ≡ z) × (f c ≡ w)
three-of f [] y z w e = absurd (let z : ◌≡◌ {A = ℕ} 0 1 = cc in omega arith)
three-of f (a ∷ xs) y z w e =
    let p : f a ≡ y = cc in
    let q : map f xs ≡ z ∷ w ∷ [] = cc in
    let (b, c, r, t, u) = two-of f xs z w q in
    (a, b, c, ap (λ (l : List _). a ∷ l) r, p, t, u)

-- an operator that has a sort over these has the numerals, operands and result of its rule
pub record Parts (h : Shape) (ks : List ℕ) (zs : List TreeSort) (σ : TreeSort) : Type 0 where
  pub numerals : ks ≡ (rule_for h ks (map some zs)).numerals
  pub operands : zs ≡ (rule_for h ks (map some zs)).operands
  pub condition : T (rule_for h ks (map some zs)).condition
  pub result : σ ≡ (rule_for h ks (map some zs)).result
  pub proper : T (proper σ)

pub parts : (h : Shape) (ks : List ℕ) (zs : List TreeSort) (σ : TreeSort) → operator_sort h ks (map some zs) ≡ some σ → Parts h ks zs σ
parts h ks zs σ e =
    let m = operator-met h ks (map some zs) σ e in
    let us : List TreeSort = (rule_for h ks (map some zs)).operands in
    record {
      numerals = sym m.numerals;
      operands = some-injective zs us (have-eq (map some zs) us m.operands);
      condition = m.condition;
      result = sym m.result;
      proper = m.proper;
    }

-- a place of a list that is there
pub map-place : {A : Type 0} (f : A → ℕ) (d : A) (e : ℕ) (xs : List A) (i : ℕ) → i < length xs → get_or (map f xs) i e ≡ f (get_or xs i d)
map-place f d e [] i l = absurd (omega arith)
map-place f d e (x ∷ xs) zero l = refl
map-place f d e (x ∷ xs) (suc i) l = map-place f d e xs i (omega arith)

-- ---------------------------------------------------------------- facts of a node

module _ (D : Declarations) (s : List Item) (ss : List TreeSort) (built : Built D s ss) where
  abbrev pub W : List ℕ
  W = map node_width_of ss

  abbrev pub B : List ℕ
  B = joined bits_in s

  abbrev pub S : List ℕ
  S = joined side_in s

  abbrev pub d : Dag
  d = dag_for D s

  abbrev pub A : ArrayWidths
  A = record { index = map (λ (a : Array). a.index) D.arrays; value = map (λ (a : Array). a.value) D.arrays }

  -- node n at place i has shape h: what it uses, and its tree over those of the nodes below
  pub record Facts (i : ℕ) (h : Shape) (n : Node) (us : List ℕ) (tree : (ℕ → Tree) → Tree) : Type 0 where
    pub encoding : T (every (λ x. eqb x 0) (drop (operand_count h) (n.a ∷ n.b ∷ n.c ∷ n.d ∷ [])))
    pub wf : T (wf_as (length B) A S (take i W) n h)
    pub width : width_as A (take i W) n h ≡ node_width_of (sort_at ss i)
    pub sort : is_bool h ≡ is_b (sort_at ss i)
    pub taken : asked_as d W i n h ≡ 0
    pub operands : OperandsOk ss i (operands_as S n h)
    pub uses : uses_as S n h ≡ us
    pub term : (f : ℕ → Tree) → tree_as d W B f i n h ≡ tree f

  widths-counted : length W ≡ length ss
  widths-counted = length-map ss node_width_of

  -- (past the nodes there is 0, and not a Bool's width)
  pub width-of : (j : ℕ) → j < length ss → width_at W j ≡ node_width_of (sort_at ss j)
  width-of j l = map-width ss j l
    where
      map-width : (us : List TreeSort) (j : ℕ) → j < length us → get_or (map node_width_of us) j 0 ≡ node_width_of (get_or us j bool)
      map-width [] j l = absurd (omega arith)
      map-width (u ∷ us) zero l = refl
      map-width (u ∷ us) (suc j) l = map-width us j (omega arith)

  -- a bit-vector's width is above 0 and has 64 bits
  vector-width : (j m : ℕ) → sort_at ss j ≡ bits m → T (width_ok m)
  vector-width j m e = subst (λ (σ : TreeSort). T (proper σ)) e (proper-at ss built.proper j)

  positive : (m : ℕ) → T (width_ok m) → 0 < m
  positive m h = ltb→lt 0 m (and_0 (ltb 0 m) (fits64 m) h)

  fitting : (m : ℕ) → T (width_ok m) → T (fits64 m)
  fitting m h = and-1 (ltb 0 m) (fits64 m) h

  module _ (i : ℕ) (here : i < length ss) where
    earlier-at : (a : ℕ) → a < i → T (earlier (take i W) a)
    earlier-at a l =
        let e : length (take i W) ≡ i = length-take-le i W (omega (arith, widths-counted)) in
        lt→ltb a (length (take i W)) (rw e l)

    width-at : (a : ℕ) → a < i → width_at (take i W) a ≡ node_width_of (sort_at ss a)
    width-at a l = get_or-take i W a 0 l ∙ width-of a (omega arith)

    un-at : (a m : ℕ) → a < i → sort_at ss a ≡ bits m → T (un_wf (take i W) a)
    unfolding un_wf
    un-at a m l e = and_T (earlier (take i W) a) _ (earlier-at a l) (rw (width-at a l, e) (and_0 (ltb 0 m) (fits64 m) (vector-width a m e)))

    bin_at : (a b m : ℕ) → a < i → b < i → sort_at ss a ≡ bits m → sort_at ss b ≡ bits m → T (bin_wf (take i W) a b)
    unfolding bin_wf
    bin_at a b m l k e f =
        and_T (earlier (take i W) a) _ (earlier-at a l)
        (and_T (earlier (take i W) b) _ (earlier-at b k)
        (rw (width-at a l, width-at b k, e, f) (and_T (ltb 0 m) (eqb m m) (and_0 (ltb 0 m) (fits64 m) (vector-width a m e)) (eqb_refl m))))

    of_at : (a : ℕ) (σ : TreeSort) → a < i → sort_at ss a ≡ σ → T (earlier_of (take i W) (node_width_of σ) a)
    of_at a σ l e = and_T (earlier (take i W) a) _ (earlier-at a l) (rw (width-at a l, e) (eqb_refl (node_width_of σ)))

    vector_ok : (a m : ℕ) → sort_at ss a ≡ bits m → is_b (sort_at ss a) ≡ false
    vector_ok a m e = ap is_b e

    formula-ok : (a : ℕ) → sort_at ss a ≡ bool → is_b (sort_at ss a) ≡ true
    formula-ok a e = ap is_b e

    -- ---------------------------------------------------------------- operators

    binary-facts : (k a b m : ℕ) → a < i → b < i → sort_at ss a ≡ bits m → sort_at ss b ≡ bits m → sort_at ss i ≡ bits m
        → Facts i binary (node_with k (a ∷ b ∷ [])) (a ∷ b ∷ []) (λ f. apply k [] (trees_over f (a ∷ b ∷ [])))
    unfolding operand_count wf_as width_as is_bool asked_as operands_as uses_as tree_as
    binary-facts k a b m l l' e e' r = record {
      encoding = tt;
      wf = bin_at a b m l l' e e';
      width = width-at a l ∙ ap node_width_of (e ∙ sym r);
      sort = sym (ap is_b r);
      taken = refl;
      operands = (l, vector_ok a m e, (l', vector_ok b m e', tt));
      uses = refl;
      term = λ f. refl;
    }

    concat-facts : (k a b m m' : ℕ) → a < i → b < i → sort_at ss a ≡ bits m → sort_at ss b ≡ bits m' → sort_at ss i ≡ bits (m + m')
        → Facts i concat (node_with k (a ∷ b ∷ [])) (a ∷ b ∷ []) (λ f. apply k [] (trees_over f (a ∷ b ∷ [])))
    unfolding operand_count wf_as width_as is_bool asked_as operands_as uses_as tree_as
    concat-facts k a b m m' l l' e e' r = record {
      encoding = tt;
      wf = and_T (un_wf (take i W) a) _ (un-at a m l e) (and_T (un_wf (take i W) b) _ (un-at b m' l' e') (rw (width-at a l, width-at b l', e, e') (fitting (m + m') (vector-width i (m + m') r))));
      width = rw (width-at a l, width-at b l', e, e', r);
      sort = sym (ap is_b r);
      taken = refl;
      operands = (l, vector_ok a m e, (l', vector_ok b m' e', tt));
      uses = refl;
      term = λ f. refl;
    }

    comparison-facts : (k a b m : ℕ) → a < i → b < i → sort_at ss a ≡ bits m → sort_at ss b ≡ bits m → sort_at ss i ≡ bool
        → Facts i comparison (node_with k (a ∷ b ∷ [])) (a ∷ b ∷ []) (λ f. apply k [] (trees_over f (a ∷ b ∷ [])))
    unfolding operand_count wf_as width_as is_bool asked_as operands_as uses_as tree_as
    comparison-facts k a b m l l' e e' r = record {
      encoding = tt;
      wf = bin_at a b m l l' e e';
      width = sym (ap node_width_of r);
      sort = sym (ap is_b r);
      taken = refl;
      operands = (l, vector_ok a m e, (l', vector_ok b m e', tt));
      uses = refl;
      term = λ f. refl;
    }

    connective-facts : (k a b : ℕ) → a < i → b < i → sort_at ss a ≡ bool → sort_at ss b ≡ bool → sort_at ss i ≡ bool
        → Facts i connective (node_with k (a ∷ b ∷ [])) (a ∷ b ∷ []) (λ f. apply k [] (trees_over f (a ∷ b ∷ [])))
    unfolding operand_count wf_as width_as is_bool asked_as operands_as uses_as tree_as bool_bin_wf
    connective-facts k a b l l' e e' r = record {
      encoding = tt;
      wf = and_T (earlier_of (take i W) 1 a) _ (of_at a bool l e) (of_at b bool l' e');
      width = sym (ap node_width_of r);
      sort = sym (ap is_b r);
      taken = refl;
      operands = (l, formula-ok a e, (l', formula-ok b e', tt));
      uses = refl;
      term = λ f. refl;
    }

    negation-facts : (k a : ℕ) → a < i → sort_at ss a ≡ bool → sort_at ss i ≡ bool
        → Facts i negation (node_with k (a ∷ [])) (a ∷ []) (λ f. apply k [] (trees_over f (a ∷ [])))
    unfolding operand_count wf_as width_as is_bool asked_as operands_as uses_as tree_as
    negation-facts k a l e r = record {
      encoding = tt;
      wf = of_at a bool l e;
      width = sym (ap node_width_of r);
      sort = sym (ap is_b r);
      taken = refl;
      operands = (l, formula-ok a e, tt);
      uses = refl;
      term = λ f. refl;
    }

    unary-facts : (k a m : ℕ) → a < i → sort_at ss a ≡ bits m → sort_at ss i ≡ bits m
        → Facts i unary (node_with k (a ∷ [])) (a ∷ []) (λ f. apply k [] (trees_over f (a ∷ [])))
    unfolding operand_count wf_as width_as is_bool asked_as operands_as uses_as tree_as
    unary-facts k a m l e r = record {
      encoding = tt;
      wf = un-at a m l e;
      width = width-at a l ∙ ap node_width_of (e ∙ sym r);
      sort = sym (ap is_b r);
      taken = refl;
      operands = (l, vector_ok a m e, tt);
      uses = refl;
      term = λ f. refl;
    }

    extension-facts : (k a by m : ℕ) → a < i → sort_at ss a ≡ bits m → sort_at ss i ≡ bits (m + by)
        → Facts i extension (node_with k (a ∷ by ∷ [])) (a ∷ []) (λ f. apply k (by ∷ []) (trees_over f (a ∷ [])))
    unfolding operand_count wf_as width_as is_bool asked_as operands_as uses_as tree_as extend_wf
    extension-facts k a by m l e r = record {
      encoding = tt;
      wf = and_T (un_wf (take i W) a) _ (un-at a m l e) (rw (width-at a l, e) (fitting (m + by) (vector-width i (m + by) r)));
      width = rw (width-at a l, e, r);
      sort = sym (ap is_b r);
      taken = refl;
      operands = (l, vector_ok a m e, tt);
      uses = refl;
      term = λ f. refl;
    }

    extraction-facts : (k hi lo c m : ℕ) → c < i → sort_at ss c ≡ bits m → T (leb lo hi && ltb hi m) → sort_at ss i ≡ bits (hi - lo + 1)
        → Facts i extraction (node_with k (hi ∷ lo ∷ c ∷ [])) (c ∷ []) (λ f. apply k (hi ∷ lo ∷ []) (trees_over f (c ∷ [])))
    unfolding operand_count wf_as width_as is_bool asked_as operands_as uses_as tree_as
    extraction-facts k hi lo c m l e t r = record {
      encoding = tt;
      wf = and_T (earlier (take i W) c) _ (earlier-at c l) (rw (width-at c l, e) t);
      width = sym (ap node_width_of r);
      sort = sym (ap is_b r);
      taken = refl;
      operands = (l, vector_ok c m e, tt);
      uses = refl;
      term = λ f. refl;
    }

    ite-facts : (k a b c m : ℕ) → a < i → b < i → c < i → sort_at ss a ≡ bool → sort_at ss b ≡ bits m → sort_at ss c ≡ bits m → sort_at ss i ≡ bits m
        → Facts i ite (node_with k (a ∷ b ∷ c ∷ [])) (a ∷ b ∷ c ∷ []) (λ f. apply k [] (trees_over f (a ∷ b ∷ c ∷ [])))
    unfolding operand_count wf_as width_as is_bool asked_as operands_as uses_as tree_as
    ite-facts k a b c m l l' l'' e e' e'' r = record {
      encoding = tt;
      wf = and_T (earlier_of (take i W) 1 a) _ (of_at a bool l e) (bin_at b c m l' l'' e' e'');
      width = width-at b l' ∙ ap node_width_of (e' ∙ sym r);
      sort = sym (ap is_b r);
      taken = refl;
      operands = (l, formula-ok a e, (l', vector_ok b m e', (l'', vector_ok c m e'', tt)));
      uses = refl;
      term = λ f. refl;
    }

    -- ---------------------------------------------------------------- constants and rotations

    pub constant-at : (m : ℕ) (bs : List ℕ) → get_elem? s m ≡ some (a_constant bs) → ((get_or (records_from 0 0 s) m no_node).kind ≡ Const) × (constant_bits B (get_or (records_from 0 0 s) m no_node) ≡ bs)
    unfolding record_of constant_bits bits_in
    constant-at m bs e =
        let l = laid s m (a_constant bs) e 0 0 in
        let z : 0 + length l.bits_before ≡ length l.bits_before = omega arith in (
          ap (λ (n : Node). n.kind) l.node,
          ap (constant_bits B) l.node ∙ rw (l.bits_split, z) (ap (take (length bs)) (drop-append_seam l.bits_before (bs ++ l.bits_after)) ∙ take-append_seam bs l.bits_after),
        )

    rotation-facts : (k a b j m : ℕ) → a < i → b < i → sort_at ss a ≡ bits m → sort_at ss b ≡ bits m → T (ltb j m && leb m 65536) → get_elem? s b ≡ some (a_constant (low_bits m j)) → sort_at ss i ≡ bits m
        → Facts i rotation (node_with k (a ∷ b ∷ [])) (a ∷ b ∷ []) (λ f. apply k (j ∷ []) (trees_over f (a ∷ [])))
    unfolding operand_count wf_as width_as is_bool asked_as operands_as uses_as tree_as rotation_ok dag_for amount_of
    rotation-facts k a b j m l l' e e' t at_b r =
        let (kind-b, bits-b) = constant-at b (low_bits m j) at_b in
        let p : 0 < m = positive m (vector-width a m e) in
        let wi : width_at W i ≡ m = width-of i here ∙ ap node_width_of r in
        let small : j < m = ltb→lt j m (and_0 (ltb j m) _ t) in
        let ok : T (ltb 0 m && (leb m 65536 && eqb Const Const)) = and_T (ltb 0 m) _ (lt→ltb 0 m p) (and_T (leb m 65536) (eqb Const Const) (and-1 (ltb j m) _ t) tt) in
        let amount : bits_value (constant_bits B (get_or (records_from 0 0 s) b no_node)) % width_at W i ≡ j = rw (bits-b, wi, low-bits-value m j (omega arith)) (mod-eq_of_lt small) in
        let asks : rotation_ok d W i (node_with k (a ∷ b ∷ [])) ≡ true = rw (wi, kind-b) (T→true (ltb 0 m && (leb m 65536 && eqb Const Const)) ok) in
        record {
          encoding = tt;
          wf = bin_at a b m l l' e e';
          width = width-at a l ∙ ap node_width_of (e ∙ sym r);
          sort = sym (ap is_b r);
          taken = rw asks;
          operands = (l, vector_ok a m e, tt);
          uses = refl;
          term = λ f. ap (λ (j : ℕ). apply k (j ∷ []) (trees_over f (a ∷ []))) amount;
        }

    -- ---------------------------------------------------------------- any operator

    rewritten : (h : Shape) (k : ℕ) (ks ks' xs xs' ms ms' : List ℕ) → ks ≡ ks' → xs ≡ xs' → ms ≡ ms'
        → Facts i h (node_with k (fields h ks' xs' ms')) (xs' ++ ms') (λ f. apply k ks' (trees_over f xs'))
        → Facts i h (node_with k (fields h ks xs ms)) (xs ++ ms) (λ f. apply k ks (trees_over f xs))
    rewritten h k ks ks' xs xs' ms ms' p q r x =
        let x₁ = subst (λ (l : List ℕ). Facts i h (node_with k (fields h l xs' ms')) (xs' ++ ms') (λ f. apply k l (trees_over f xs'))) (sym p) x in
        let x₂ = subst (λ (l : List ℕ). Facts i h (node_with k (fields h ks l ms')) (l ++ ms') (λ f. apply k ks (trees_over f l))) (sym q) x₁ in
        subst (λ (l : List ℕ). Facts i h (node_with k (fields h ks xs l)) (xs ++ l) (λ f. apply k ks (trees_over f xs))) (sym r) x₂

    no-amounts : (ms : List ℕ) → ConstantsAt s i ms [] → ms ≡ []
    no-amounts [] h = refl
    no-amounts (m ∷ ms) h = absurd h

    one-amount : (ms : List ℕ) (bs : List ℕ) → ConstantsAt s i ms (bs ∷ []) → (b : ℕ) × (ms ≡ b ∷ []) × (b < i) × (get_elem? s b ≡ some (a_constant bs))
    one-amount [] bs h = absurd h
    one-amount (m ∷ []) bs (l, e, h) = (m, refl, l, e)
    one-amount (m ∷ n ∷ ms) bs (l, e, h) = absurd h

    operator-facts : (h : Shape) (k : ℕ) (ks xs ms : List ℕ) → All (below i) xs → Parts h ks (map (sort_at ss) xs) (sort_at ss i) → ConstantsAt s i ms (amounts h (width_of (some (sort_at ss i))) ks)
        → Facts i h (node_with k (fields h ks xs ms)) (xs ++ ms) (λ f. apply k ks (trees_over f xs))
    unfolding rule_of amounts fields
    operator-facts var k ks xs ms lo p am = absurd p.condition
    operator-facts const k ks xs ms lo p am = absurd p.condition
    operator-facts Shape.select k ks xs ms lo p am = absurd p.condition
    operator-facts Shape.call k ks xs ms lo p am = absurd p.condition
    operator-facts unknown k ks xs ms lo p am = absurd p.condition
    operator-facts binary k ks xs ms lo p am =
        let zs : List TreeSort = map (sort_at ss) xs in
        let m : ℕ = width_of (get_or (map some zs) 0 none) in
        let (a, b, ex, ea, eb) = two-of (sort_at ss) xs (bits m) (bits m) p.operands in
        let lo' = subst (All (below i)) ex lo in
        rewritten binary k ks [] xs (a ∷ b ∷ []) ms [] p.numerals ex (no-amounts ms am)
        (binary-facts k a b m (ltb→lt a i lo'.0) (ltb→lt b i lo'.1.0) ea eb p.result)
    operator-facts rotation k ks xs ms lo p am =
        let zs : List TreeSort = map (sort_at ss) xs in
        let m : ℕ = width_of (get_or (map some zs) 0 none) in
        let j : ℕ = get_or ks 0 0 in
        let (a, ex, ea) = one_of (sort_at ss) xs (bits m) p.operands in
        let lo' = subst (All (below i)) ex lo in
        let am₁ = subst (λ (l : List ℕ). ConstantsAt s i ms (map (low_bits (width_of (some (sort_at ss i)))) l)) p.numerals am in
        let am₂ = subst (λ (σ : TreeSort). ConstantsAt s i ms (low_bits (width_of (some σ)) j ∷ [])) p.result am₁ in
        let (b, em, lb, at_b) = one-amount ms (low_bits m j) am₂ in
        let eb : sort_at ss b ≡ bits m = (built.fine b (a_constant (low_bits m j)) at_b).1 ∙ ap bits (length-low-bits m j) in
        rewritten rotation k ks (j ∷ []) xs (a ∷ []) ms (b ∷ []) p.numerals ex em
        (rotation-facts k a b j m (ltb→lt a i lo'.0) lb ea eb p.condition at_b p.result)
    operator-facts extraction k ks xs ms lo p am =
        let zs : List TreeSort = map (sort_at ss) xs in
        let m : ℕ = width_of (get_or (map some zs) 0 none) in
        let (a, ex, ea) = one_of (sort_at ss) xs (bits m) p.operands in
        let lo' = subst (All (below i)) ex lo in
        rewritten extraction k ks (get_or ks 0 0 ∷ get_or ks 1 0 ∷ []) xs (a ∷ []) ms [] p.numerals ex (no-amounts ms am)
        (extraction-facts k (get_or ks 0 0) (get_or ks 1 0) a m (ltb→lt a i lo'.0) ea p.condition p.result)
    operator-facts concat k ks xs ms lo p am =
        let zs : List TreeSort = map (sort_at ss) xs in
        let m : ℕ = width_of (get_or (map some zs) 0 none) in
        let n : ℕ = width_of (get_or (map some zs) 1 none) in
        let (a, b, ex, ea, eb) = two-of (sort_at ss) xs (bits m) (bits n) p.operands in
        let lo' = subst (All (below i)) ex lo in
        rewritten concat k ks [] xs (a ∷ b ∷ []) ms [] p.numerals ex (no-amounts ms am)
        (concat-facts k a b m n (ltb→lt a i lo'.0) (ltb→lt b i lo'.1.0) ea eb p.result)
    operator-facts extension k ks xs ms lo p am =
        let zs : List TreeSort = map (sort_at ss) xs in
        let m : ℕ = width_of (get_or (map some zs) 0 none) in
        let (a, ex, ea) = one_of (sort_at ss) xs (bits m) p.operands in
        let lo' = subst (All (below i)) ex lo in
        rewritten extension k ks (get_or ks 0 0 ∷ []) xs (a ∷ []) ms [] p.numerals ex (no-amounts ms am)
        (extension-facts k a (get_or ks 0 0) m (ltb→lt a i lo'.0) ea p.result)
    operator-facts ite k ks xs ms lo p am =
        let zs : List TreeSort = map (sort_at ss) xs in
        let n : ℕ = width_of (get_or (map some zs) 1 none) in
        let (a, b, c, ex, ea, eb, ec) = three-of (sort_at ss) xs bool (bits n) (bits n) p.operands in
        let lo' = subst (All (below i)) ex lo in
        rewritten ite k ks [] xs (a ∷ b ∷ c ∷ []) ms [] p.numerals ex (no-amounts ms am)
        (ite-facts k a b c n (ltb→lt a i lo'.0) (ltb→lt b i lo'.1.0) (ltb→lt c i lo'.1.1.0) ea eb ec p.result)
    operator-facts comparison k ks xs ms lo p am =
        let zs : List TreeSort = map (sort_at ss) xs in
        let m : ℕ = width_of (get_or (map some zs) 0 none) in
        let (a, b, ex, ea, eb) = two-of (sort_at ss) xs (bits m) (bits m) p.operands in
        let lo' = subst (All (below i)) ex lo in
        rewritten comparison k ks [] xs (a ∷ b ∷ []) ms [] p.numerals ex (no-amounts ms am)
        (comparison-facts k a b m (ltb→lt a i lo'.0) (ltb→lt b i lo'.1.0) ea eb p.result)
    operator-facts negation k ks xs ms lo p am =
        let (a, ex, ea) = one_of (sort_at ss) xs bool p.operands in
        let lo' = subst (All (below i)) ex lo in
        rewritten negation k ks [] xs (a ∷ []) ms [] p.numerals ex (no-amounts ms am)
        (negation-facts k a (ltb→lt a i lo'.0) ea p.result)
    operator-facts connective k ks xs ms lo p am =
        let (a, b, ex, ea, eb) = two-of (sort_at ss) xs bool bool p.operands in
        let lo' = subst (All (below i)) ex lo in
        rewritten connective k ks [] xs (a ∷ b ∷ []) ms [] p.numerals ex (no-amounts ms am)
        (connective-facts k a b (ltb→lt a i lo'.0) (ltb→lt b i lo'.1.0) ea eb p.result)
    operator-facts unary k ks xs ms lo p am =
        let zs : List TreeSort = map (sort_at ss) xs in
        let m : ℕ = width_of (get_or (map some zs) 0 none) in
        let (a, ex, ea) = one_of (sort_at ss) xs (bits m) p.operands in
        let lo' = subst (All (below i)) ex lo in
        rewritten unary k ks [] xs (a ∷ []) ms [] p.numerals ex (no-amounts ms am)
        (unary-facts k a m (ltb→lt a i lo'.0) ea p.result)

    -- the node of an operator
    pub operator-node : (k : ℕ) (ks xs ms : List ℕ) → Fine D s ss i (an_operator k ks xs ms)
        → Facts i (shape_of k) (node_with k (fields (shape_of k) ks xs ms)) (xs ++ ms) (λ f. apply k ks (trees_over f xs))
    operator-node k ks xs ms (lo, e, am) = operator-facts (shape_of k) k ks xs ms lo (parts (shape_of k) ks (map (sort_at ss) xs) (sort_at ss i) e) am

    -- ---------------------------------------------------------------- variables and constants

    count-found : (n k j c : ℕ) → j < n → find_from (λ x. eqb x (k + j)) c (count_from k n) ≡ some (c + j)
    unfolding find_from count_from
    count-found zero k j c l = absurd (omega arith)
    count-found (suc n) k zero c l =
        let z : k + 0 ≡ k = omega arith in
        let y : c + 0 ≡ c = omega arith in
        let t : eqb k (k + 0) ≡ true = rw z (T→true (eqb k k) (eqb_refl k)) in
        rw (t, find_from, y)
    count-found (suc n) k (suc j) c l =
        let z : k + suc j ≡ suc k + j = omega arith in
        let y : c + suc j ≡ suc c + j = omega arith in
        let far : eqb k (suc k + j) ≡ false = no→false (eqb k (suc k + j)) (λ q. let e : k ≡ suc k + j = eqb→eq k (suc k + j) q in omega arith) in
        let ih : find_from (λ x. eqb x (suc k + j)) c (count_from k (suc n)) ≡ some (c + suc j) = rw (far, find_from, y) (count-found n (suc k) j (suc c) (omega arith)) in
        subst (λ (q : ℕ). find_from (λ x. eqb x q) c (count_from k (suc n)) ≡ some (c + suc j)) (sym z) ih

    pub variable-node : (w : ℕ) → Fine D s ss i (a_variable w) → Facts i var (node_with Var (w ∷ [])) [] (λ f. variable (variable_at D i).name)
    unfolding operand_count wf_as width_as is_bool asked_as operands_as uses_as tree_as variable_ok variable_name find_node dag_for
    variable-node w (l, e, r) =
        let n : ℕ = length (variable_names_in D) in
        let z : 0 + i ≡ i = omega arith in
        let len : n ≡ length D.variables = length-map D.variables (λ (v : Variable). v.name) in
        let found : find_from (λ x. eqb x i) 0 (count_from 0 n) ≡ some i = subst (λ (q : ℕ). find_from (λ x. eqb x q) 0 (count_from 0 n) ≡ some q) z (count-found n 0 i 0 (omega arith)) in
        let wi : get_or (map (λ (v : Variable). v.width) D.variables) i 0 ≡ w = get_or-map (λ (v : Variable). v.width) D.variables i no-variable ∙ e in
        let ni : get_or (name_table d) i [] ≡ (variable_at D i).name = ap (λ (ns : List Name). get_or ns i []) (names-back (variable_names_in D)) ∙ get_or-map (λ (v : Variable). v.name) D.variables i no-variable in
        let ok : variable_ok d i (node_with Var (w ∷ [])) ≡ true =
        ap (λ (o : Option ℕ). elim o as (λ _. Bool) [ none ↦ false | some k ↦ eqb (get_or (map (λ (v : Variable). v.width) D.variables) k 0) w ]) found ∙ rw wi (T→true (eqb w w) (eqb_refl w)) in
        record {
          encoding = tt;
          wf = vector-width i w r;
          width = sym (ap node_width_of r);
          sort = sym (ap is_b r);
          taken = rw ok;
          operands = tt;
          uses = refl;
          term = λ f. ap variable (ap (λ (o : Option ℕ). elim o as (λ _. Name) [ none ↦ [] | some k ↦ get_or (name_table d) k [] ]) found ∙ ni);
        }

    pub constant-node : (bs : List ℕ) → get_elem? s i ≡ some (a_constant bs) → Fine D s ss i (a_constant bs) → (l : Laid 0 0 s i (a_constant bs))
        → Facts i const (node_with Const ((0 + length l.bits_before) ∷ length bs ∷ [])) [] (λ f. constant bs)
    unfolding operand_count wf_as width_as is_bool asked_as operands_as uses_as tree_as bits_in record_of
    constant-node bs e (q, r) l =
        let n : Node = node_with Const ((0 + length l.bits_before) ∷ length bs ∷ []) in
        let total : length B ≡ length l.bits_before + (length bs + length l.bits_after) =
        ap length l.bits_split ∙ length-append l.bits_before (bs ++ l.bits_after) ∙ ap (λ (k : ℕ). length l.bits_before + k) (length-append bs l.bits_after) in
        record {
          encoding = tt;
          wf =
              and_T (ltb 0 (length bs)) _ (lt→ltb 0 (length bs) (positive (length bs) (vector-width i (length bs) r)))
              (and_T (fits64 (length bs)) _ (fitting (length bs) (vector-width i (length bs) r)) (le→leb (0 + length l.bits_before + length bs) (length B) (omega arith)));
          width = sym (ap node_width_of r);
          sort = sym (ap is_b r);
          taken = refl;
          operands = tt;
          uses = refl;
          term = λ f. ap constant (sym (ap (constant_bits B) l.node) ∙ (constant-at i bs e).1);
        }

    -- ---------------------------------------------------------------- selects

    chain-at : (iw vw : ℕ) (ps : List (Pair ℕ)) (rest : List ℕ) → PairsAt ss i iw vw ps → T (chain_wf iw vw (take i W) (length ps) (flat ps ++ rest))
    unfolding chain_wf flat
    chain-at iw vw [] rest h = tt
    chain-at iw vw (p ∷ ps) rest (a, b, c, e, h) =
        and_T (earlier_of (take i W) iw p.index) _ (of_at p.index (bits iw) a b)
        (and_T (earlier_of (take i W) vw p.value) _ (of_at p.value (bits vw) c e) (chain-at iw vw ps rest h))

    levels-at : (iw vw : ℕ) (ps : List (Pair ℕ)) (rest : List ℕ) → PairsAt ss i iw vw ps → OperandsOk ss i (levels (length ps) (flat ps ++ rest))
    unfolding levels flat
    levels-at iw vw [] rest h = tt
    levels-at iw vw (p ∷ ps) rest (a, b, c, e, h) =
        operands-append ss i (levels (length ps) (flat ps ++ rest)) (vector p.index ∷ vector p.value ∷ []) (levels-at iw vw ps rest h)
        (a, vector_ok p.index iw b, (c, vector_ok p.value vw e, tt))

    stores_at : (f : ℕ → Tree) (ps : List (Pair ℕ)) (rest : List ℕ) → stores_over f (length ps) (flat ps ++ rest) ≡ stores_from f ps
    unfolding stores_over stores_from flat
    stores_at f [] rest = refl
    stores_at f (p ∷ ps) rest = ap (store (f p.index) (f p.value)) (stores_at f ps rest)

    flat-length : (ps : List (Pair ℕ)) → length (flat ps) ≡ 2 * length ps
    unfolding flat
    flat-length [] = refl
    flat-length (p ∷ ps) = let e = flat-length ps in omega arith

    pub select-node : (a j : ℕ) (ps : List (Pair ℕ)) → Fine D s ss i (a_select a j ps) → (l : Laid 0 0 s i (a_select a j ps))
        → Facts i Shape.select (node_with Select (a ∷ j ∷ (0 + length l.side_before) ∷ length ps ∷ [])) (j ∷ flat ps)
        (λ f. select (array_at D a).name (f j) (stores_from f ps))
    unfolding operand_count wf_as width_as is_bool asked_as operands_as uses_as tree_as side_in dag_for index_width_of value_width_of
    select-node a j ps (la, lj, ej, pr, r) l =
        let z : 0 + length l.side_before ≡ length l.side_before = omega arith in
        let there : drop (0 + length l.side_before) S ≡ flat ps ++ l.side_after = rw (z, l.side_split) (drop-append_seam l.side_before (flat ps ++ l.side_after)) in
        let len : length (aname_table d) ≡ length D.arrays = ap length (names-back (array_names_in D)) ∙ length-map D.arrays (λ (x : Array). x.name) in
        let inside : ltb a (length (aname_table d)) ≡ true = T→true (ltb a (length (aname_table d))) (lt→ltb a (length (aname_table d)) (omega arith)) in
        let ni : get_or (aname_table d) a [] ≡ (array_at D a).name = ap (λ (ns : List Name). get_or ns a []) (names-back (array_names_in D)) ∙ get_or-map (λ (x : Array). x.name) D.arrays a no-array in
        let iw : get_or A.index a 32 ≡ (array_at D a).index = map-place (λ (x : Array). x.index) no-array 32 D.arrays a la in
        let vw : get_or A.value a 8 ≡ (array_at D a).value = map-place (λ (x : Array). x.value) no-array 8 D.arrays a la in
        record {
          encoding = tt;
          wf =
              rw (iw, vw, there)
              (and_T (earlier_of (take i W) (array_at D a).index j) _ (of_at j (bits (array_at D a).index) lj ej) (chain-at (array_at D a).index (array_at D a).value ps l.side_after pr));
          width = vw ∙ sym (ap node_width_of r);
          sort = sym (ap is_b r);
          taken = rw inside;
          operands = rw there (operands-append ss i (levels (length ps) (flat ps ++ l.side_after)) (vector j ∷ []) (levels-at (array_at D a).index (array_at D a).value ps l.side_after pr) (lj, vector_ok j (array_at D a).index ej, tt));
          uses = rw (there, ← (flat-length ps)) (ap (λ (us : List ℕ). j ∷ us) (take-append_seam (flat ps) l.side_after));
          term = λ f. rw (there, ni, stores_at f ps l.side_after);
        }

  -- ---------------------------------------------------------------- calls

  pub record CallAt (g : ℕ) (xs : List ℕ) (n : Node) : Type 0 where
    pub inside : T (arguments_inside S n)
    pub counted : n.d ≡ length xs
    pub arguments : take n.d (drop n.c S) ≡ xs
    pub widths : argument_widths W S n ≡ (function_at D g).arguments
    pub rest : List ℕ
    pub after : drop n.c S ≡ xs ++ rest

  widths-of : (c : ℕ) → c ≤ length ss → (xs : List ℕ) → All (below c) xs → map (width_at W) xs ≡ map node_width_of (map (sort_at ss) xs)
  widths-of c l [] h = refl
  widths-of c l (x ∷ xs) (h, k) =
      let m : x < c = ltb→lt x c h in
      let a = width-of x (omega arith) in
      let b = widths-of c l xs k in
      λ i. a i ∷ b i

  widths-back : (ws : List ℕ) → map node_width_of (map bits ws) ≡ ws
  widths-back [] = refl
  widths-back (w ∷ ws) = ap (λ (l : List ℕ). w ∷ l) (widths-back ws)

  call-laid : (c g w : ℕ) (xs : List ℕ) → c ≤ length ss → Fine D s ss c (a_call g w xs) → (l : Laid 0 0 s c (a_call g w xs)) → CallAt g xs (node_with Call (g ∷ w ∷ (0 + length l.side_before) ∷ length xs ∷ []))
  unfolding side_in argument_widths
  call-laid c g w xs inside (p, lo, e, we, r) l =
      let z : 0 + length l.side_before ≡ length l.side_before = omega arith in
      let there : drop (0 + length l.side_before) S ≡ xs ++ l.side_after = rw (z, l.side_split) (drop-append_seam l.side_before (xs ++ l.side_after)) in
      let args : take (length xs) (drop (0 + length l.side_before) S) ≡ xs = rw there (take-append_seam xs l.side_after) in
      let total : length S ≡ length l.side_before + (length xs + length l.side_after) =
      ap length l.side_split ∙ length-append l.side_before (xs ++ l.side_after) ∙ ap (λ (k : ℕ). length l.side_before + k) (length-append xs l.side_after) in
      record {
        inside = le→leb (0 + length l.side_before + length xs) (length S) (omega arith);
        counted = refl;
        arguments = args;
        widths = ap (map (width_at W)) args ∙ widths-of c inside xs lo ∙ ap (map node_width_of) e ∙ widths-back (function_at D g).arguments;
        rest = l.side_after;
        after = there;
      }

  inside-sorts : (c : ℕ) (x : Item) → get_elem? s c ≡ some x → c ≤ length ss
  inside-sorts c x e =
      let l = at_less s c x e in
      let z : length s ≡ length ss = built.sized in
      omega arith

  pub call_at : (c g w : ℕ) (xs : List ℕ) → get_elem? s c ≡ some (a_call g w xs) → CallAt g xs (get_or (records_from 0 0 s) c no_node)
  unfolding record_of
  call_at c g w xs e =
      let l = laid s c (a_call g w xs) e 0 0 in
      rw l.node (call-laid c g w xs (inside-sorts c (a_call g w xs) e) (built.fine c (a_call g w xs) e) l)

  item-of-call : (g b c i : ℕ) (x : Item) → Fine D s ss i x → T (call_of g (record_of b c x)) → (w : ℕ) × (xs : List ℕ) × (x ≡ a_call g w xs)
  unfolding record_of shapes rule_of
  item-of-call g b c i (a_variable w) h t = absurd t
  item-of-call g b c i (a_constant bs) h t = absurd t
  item-of-call g b c i (an_operator k ks xs ms) (lo, e, am) t = no-operator (eqb→eq k Call (and_0 (eqb k Call) _ t))
    where
      no-operator : k ≡ Call → (w : ℕ) × (ys : List ℕ) × (an_operator k ks xs ms ≡ a_call g w ys)
      no-operator q =
          let z : List TreeSort = map (sort_at ss) xs in
          let p : operator_sort Shape.call ks (map some z) ≡ some (sort_at ss i) = subst (λ (k : ℕ). operator_sort (shape_of k) ks (map some z) ≡ some (sort_at ss i)) q e in
          absurd (parts Shape.call ks z (sort_at ss i) p).condition
  item-of-call g b c i (a_select a j ps) h t = absurd t
  item-of-call g b c i (a_call g' w xs) h t =
      let q : g' ≡ g = eqb→eq g' g (and-1 (eqb Call Call) (eqb g' g) t) in
      (w, xs, ap (λ (k : ℕ). a_call k w xs) q)

  pub found-call : (g c : ℕ) → find_call (records_from 0 0 s) g ≡ some c → (w : ℕ) × (xs : List ℕ) × (get_elem? s c ≡ some (a_call g w xs))
  unfolding find_call
  found-call g c e =
      let (j, n, p, q, t) = find_at (call_of g) 0 (records_from 0 0 s) c e in
      let z : c ≡ j = omega arith in
      let l : j < length s = rw (length-records s 0 0) at (at_less (records_from 0 0 s) j n q) in
      let (x, f) = at-exists s j l in
      let la = laid s j x f 0 0 in
      let m : n ≡ record_of (0 + length la.bits_before) (0 + length la.side_before) x = sym (at-get_or (records_from 0 0 s) j n no_node q) ∙ la.node in
      let (w, xs, y) = item-of-call g (0 + length la.bits_before) (0 + length la.side_before) j x (built.fine j x f) (subst (λ (n : Node). T (call_of g n)) m t) in
      (w, xs, subst (λ (q : ℕ). get_elem? s q ≡ some (a_call g w xs)) (sym z) (f ∙ ap some y))

  pub find-called : (g : ℕ) → CalledBy s g → (c : ℕ) × (find_call (records_from 0 0 s) g ≡ some c)
  unfolding find_call record_of
  find-called g (c, w, xs, e) =
      let l = laid s c (a_call g w xs) e 0 0 in
      let less : c < length (records_from 0 0 s) = rw (length-records s 0 0) (at_less s c (a_call g w xs) e) in
      let here : get_elem? (records_from 0 0 s) c ≡ some (record_of (0 + length l.bits_before) (0 + length l.side_before) (a_call g w xs)) =
      get_or-at (records_from 0 0 s) c no_node less ∙ ap some l.node in
      find-some (call_of g) 0 (records_from 0 0 s) c _ here (and_T (eqb Call Call) (eqb g g) tt (eqb_refl g))

  args_at : (i : ℕ) → i < length ss → (xs rest : List ℕ) → All (below i) xs → T (args_wf (take i W) (length xs) (xs ++ rest))
  unfolding args_wf
  args_at i here [] rest h = tt
  args_at i here (x ∷ xs) rest (h, k) = and_T (earlier (take i W) x) _ (earlier-at i here x (ltb→lt x i h)) (args_at i here xs rest k)

  vectors-at : (i : ℕ) (xs ws : List ℕ) → map (sort_at ss) xs ≡ map bits ws → All (below i) xs → OperandsOk ss i (map vector xs)
  vectors-at i [] ws e h = tt
  vectors-at i (x ∷ xs) [] e h = absurd (let z : ◌≡◌ {A = ℕ} 0 1 = cc in omega arith)
  vectors-at i (x ∷ xs) (w ∷ ws) e (h, k) =
      let p : sort_at ss x ≡ bits w = cc in
      let q : map (sort_at ss) xs ≡ map bits ws = cc in
      (ltb→lt x i h, ap is_b p, vectors-at i xs ws q k)

  same_length : (xs ys ws : List ℕ) → map (sort_at ss) xs ≡ map bits ws → map (sort_at ss) ys ≡ map bits ws → length xs ≡ length ys
  same_length xs ys ws e f =
      sym (length-map xs (sort_at ss)) ∙ ap length (e ∙ sym f) ∙ length-map ys (sort_at ss)

  first_matches : (i g w : ℕ) (xs : List ℕ) → get_elem? s i ≡ some (a_call g w xs) → (n : Node) → CallAt g xs n
      → T (elim (find_call (records_from 0 0 s) g) as (λ _. Bool) [ none ↦ false | some c ↦ args_match W S n (get_or (records_from 0 0 s) c no_node) ])
  unfolding args_match
  first_matches i g w xs at_i n c =
      let (j, f) = find-called g (i, w, xs, at_i) in
      let (w', ys, at_j) = found-call g j f in
      let k = call_at j g w' ys at_j in
      let m : Node = get_or (records_from 0 0 s) j no_node in
      let same_count : m.d ≡ n.d = k.counted ∙ sym (same_length xs ys (function_at D g).arguments (built.fine i (a_call g w xs) at_i).2 (built.fine j (a_call g w' ys) at_j).2) ∙ sym c.counted in
      let t : T (args_match W S n m) =
      and_T (eqb m.d n.d) _ (rw same_count (eqb_refl n.d))
      (and_T (arguments_inside S n) _ c.inside
      (and_T (arguments_inside S m) _ k.inside (rw (c.widths, k.widths) (same_refl (function_at D g).arguments)))) in
      subst (λ (o : Option ℕ). T (elim o as (λ _. Bool) [ none ↦ false | some c ↦ args_match W S n (get_or (records_from 0 0 s) c no_node) ])) (sym f) t

  pub call-node : (i g w : ℕ) (xs : List ℕ) → get_elem? s i ≡ some (a_call g w xs) → (l : Laid 0 0 s i (a_call g w xs))
      → Facts i Shape.call (node_with Call (g ∷ w ∷ (0 + length l.side_before) ∷ length xs ∷ [])) xs (λ f. call (function_at D g).name (trees_over f xs))
  unfolding operand_count wf_as width_as is_bool asked_as operands_as uses_as tree_as call_ok dag_for
  call-node i g w xs at_i l =
      let fine-i = built.fine i (a_call g w xs) at_i in
      let (lg, lo, e, we, r) = fine-i in
      let n : Node = node_with Call (g ∷ w ∷ (0 + length l.side_before) ∷ length xs ∷ []) in
      let len : length s ≡ length ss = built.sized in
      let here : i < length ss = rw (← len) (at_less s i (a_call g w xs) at_i) in
      let c = call-laid i g w xs (inside-sorts i (a_call g w xs) at_i) fine-i l in
      let there : drop (0 + length l.side_before) S ≡ xs ++ c.rest = c.after in
      let args : take (length xs) (drop (0 + length l.side_before) S) ≡ xs = c.arguments in
      let names : length (fname_table d) ≡ length D.functions = ap length (names-back (function_names_in D)) ∙ length-map D.functions (λ (f : Function). f.name) in
      let inside : ltb g (length (fname_table d)) ≡ true = T→true (ltb g (length (fname_table d))) (lt→ltb g (length (fname_table d)) (omega arith)) in
      let ni : get_or (fname_table d) g [] ≡ (function_at D g).name = ap (λ (ns : List Name). get_or ns g []) (names-back (function_names_in D)) ∙ get_or-map (λ (f : Function). f.name) D.functions g no-function in
      let wi : get_or (map (λ (f : Function). f.width) D.functions) g 0 ≡ w = get_or-map (λ (f : Function). f.width) D.functions g no-function ∙ we in
      let ok : T (call_ok d W n) = and_T (eqb (get_or (map (λ (f : Function). f.width) D.functions) g 0) w) _ (rw wi (eqb_refl w)) (first_matches i g w xs at_i n c) in
      record {
        encoding = tt;
        wf =
            and_T (ltb 0 w) _ (lt→ltb 0 w (positive w (vector-width i w r))) (and_T (fits64 w) _ (fitting w (vector-width i w r)) (rw there (args_at i here xs c.rest lo)));
        width = sym (ap node_width_of r);
        sort = sym (ap is_b r);
        taken = rw (inside, T→true (call_ok d W n) ok);
        operands = rw args (vectors-at i xs (function_at D g).arguments e lo);
        uses = args;
        term = λ f. rw (args, ni);
      }
