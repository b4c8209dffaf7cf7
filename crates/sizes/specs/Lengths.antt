-- The length of a tree's text: so many bytes for each term, its own text and five bytes of what stands around it.
use Prim.Native.Nat.{ℕ, zero, suc, ◌+◌, ◌*◌, ◌/◌, ◌%◌, ◌≤◌, ◌<◌}
use Rattle.std.specs.Prelude.{◌≡◌, refl, Bool, true, false, T, leb, ltb, take, drop}
use Rattle.std.proofs.Common.{nltb→le}
use mathlib.Core.List.{List, [], ◌∷◌, ◌++◌}
use Rattle.std.proofs.Math.Option.{Option, none as nothing, some}
use Rattle.std.proofs.Math.Decide.{dec_lt}
use Rattle.std.proofs.Math.Nat.{mod-lt}
use native.Mathlib.Omega.{arith}
use Rattle.std.proofs.Math.Dec.{leb→le, le→leb}
use Rattle.std.proofs.Math.ListN.{length, get_or, length-append, length-take, length-drop, get_or-eq_default}
use Rattle.lists.specs.Bytes.{bytes}
use Rattle.lists.specs.Tests.{All, by-test}
use Rattle.lists.specs.Build.{all-tabulate, upto_all}
use Rattle.reading.specs.Trees.{Name, Tree, variable, constant, apply, select, call, Trees, none, more, Stores}
use Rattle.echo_spec.specs.Shapes.{Shape, var, const, binary, rotation, extraction, concat, extension, ite, comparison, negation, connective, unary, unknown, shapes}
use Rattle.echo_spec.specs.Input.{Node, shape, no_node, largest, fits64, part, names_of, Dag, Query, name_table, aname_table, fname_table}
use Rattle.echo_spec.specs.Widths.{array_widths_ok, width_at, widths_of}
use Rattle.echo_spec.specs.NodeLaws.{Formed}
use Rattle.echo_spec.proofs.NodeLaws.{facts, node_wide}
use Rattle.echo_spec.proofs.EncodingLaws.{width_fits}
use Rattle.echo_spec.specs.Tables.{find_node}
use Rattle.echo_spec.specs.Trees.{constant_bits, bits_value, amount_of, variable_name, trees_over, stores_over, tree_as, tree_step, trees_below, tree_of}
use Rattle.echo_spec.specs.Render.{
  symbols,
  symbol_of,
  decimal_digits,
  decimal,
  binary_digits,
  quoted,
  numerals_text,
  operator_text,
  call_text,
  term,
  terms,
  stores,
}
use Rattle.sizes.specs.Size.{weigh, weigh_all, weigh_stores}

-- what holds of every element, and of the default, holds at every place
pub all_get_d : {A : Type 0} (p : A → Bool) (xs : List A) (d : A) → All p xs → T (p d) → (k : ℕ) → T (p (get_or xs k d))
all_get_d p [] d h t k = t
all_get_d p (x ∷ xs) d h t zero = h.0
all_get_d p (x ∷ xs) d h t (suc k) = all_get_d p xs d h.1 t k

-- ---------------------------------------------------------------- numerals, symbols, names

unfoldable tens : ℕ → ℕ
tens zero = 1
tens (suc k) = 10 * tens k

digits-few : (k f n : ℕ) → n < tens (suc k) → length (decimal_digits f n) ≤ suc k
unfolding decimal_digits tens
digits-few k zero n h = omega arith
digits-few k (suc f) n h = by_size (ltb n 10) refl k h (λ j l. digits-few j f (n / 10) l)
  where
    by_size : (b : Bool) → ltb n 10 ≡ b → (k : ℕ) → n < 10 * tens k → ((j : ℕ) → n / 10 < 10 * tens j → length (decimal_digits f (n / 10)) ≤ suc j)
        → length (decimal_digits (suc f) n) ≤ suc k
    by_size true e k h rest = rw (e, decimal_digits) (omega arith)
    by_size false e zero h rest = absurd (let l = nltb→le n 10 (rw e tt) in omega arith)
    by_size false e (suc k) h rest =
        let a = rest k (omega arith) in
        let b = length-append (decimal_digits f (n / 10)) ((48 + n % 10) ∷ []) in
        rw (e, decimal_digits) (omega arith)

pub decimal-few : (n : ℕ) → T (fits64 n) → length (decimal n) ≤ 20
unfolding decimal tens
decimal-few n t =
    let l = leb→le n largest t in
    digits-few 19 (suc n) n (omega arith)

symbol-short : (k : ℕ) → length (symbol_of k) ≤ 12
unfolding symbol_of symbols bytes
symbol-short k =
    leb→le (length (bytes (get_or symbols k ""))) 12
    (all_get_d (λ s. leb (length (bytes s)) 12) symbols "" (by-test (λ s. leb (length (bytes s)) 12) symbols tt) tt k)

numerals-few : (ks : List ℕ) → All fits64 ks → length (numerals_text ks) ≤ 21 * length ks
unfolding numerals_text bytes
numerals-few [] h = omega arith
numerals-few (k ∷ ks) h =
    let a = numerals-few ks h.1 in
    let b = decimal-few k h.0 in
    let c = length-append (decimal k) (numerals_text ks) in
    omega arith

operator-few : (symbol ks : List ℕ) → All fits64 ks → length (operator_text symbol ks) ≤ 4 + length symbol + 21 * length ks
unfolding operator_text bytes
operator-few symbol [] h = omega arith
operator-few symbol (k ∷ ks) h =
    let a = numerals-few (k ∷ ks) h in
    let b = length-append symbol (numerals_text (k ∷ ks) ++ bytes ")") in
    let c = length-append (numerals_text (k ∷ ks)) (bytes ")") in
    omega arith

binary-length : (bs : List ℕ) → length (binary_digits bs) ≡ length bs
unfolding binary_digits
binary-length [] = refl
binary-length (b ∷ bs) =
    let a = length-append (binary_digits bs) ((48 + b) ∷ []) in
    let c = binary-length bs in
    omega arith

pub quoted-length : (n : Name) → length (quoted n) ≡ 2 + length n
unfolding quoted bytes
quoted-length n = let a = length-append n (bytes "|") in omega arith

-- a name is no longer than its arena
part_length : (arena : List ℕ) (start len : ℕ) → length (part arena start len) ≤ length arena
unfolding part
part_length arena start len = by_place (leb (start + len) (length arena))
  where
    by_place : (b : Bool) → length {A = ℕ} (elim b [ true ↦ take len (drop start arena) | false ↦ [] ]) ≤ length arena
    by_place true =
        let a = length-take len (drop start arena) in
        let b = length-drop start arena in
        omega arith
    by_place false = omega arith

pub name-short : (arena starts lens : List ℕ) (k : ℕ) → length (get_or (names_of arena starts lens) k []) ≤ length arena
unfolding names_of
name-short arena starts lens k =
    let short : (Name → Bool) = λ n. leb (length n) (length arena) in
    leb→le (length (get_or (names_of arena starts lens) k [])) (length arena)
    (all_get_d short (names_of arena starts lens) []
    (all-tabulate short (length starts) (λ j. part arena (get_or starts j 0) (get_or lens j 0))
    (λ j l. le→leb (length (part arena (get_or starts j 0) (get_or lens j 0))) (length arena) (part_length arena (get_or starts j 0) (get_or lens j 0))))
    (le→leb 0 (length arena) (omega arith)) k)

-- ---------------------------------------------------------------- trees

-- k bytes for a term
module _ (k : ℕ) where
  abbrev pub Short : Tree → Type 0
  Short t = 5 + length (term t) ≤ weigh k k t

  module _ (below : ℕ → Tree) (short : (j : ℕ) → Short (below j)) where
    text-all : (xs : List ℕ) → length (terms (trees_over below xs)) ≤ weigh_all k k (trees_over below xs)
    unfolding terms weigh_all trees_over bytes
    text-all [] = omega arith
    text-all (x ∷ xs) =
        let a = text-all xs in
        let b = short x in
        let e = length-append (term (below x)) (terms (trees_over below xs)) in
        omega arith

    text-stores : (a : Name) (n : ℕ) (side : List ℕ) → length (stores a (stores_over below n side)) ≤ length (quoted a) + weigh_stores k k (stores_over below n side)
    unfolding stores weigh_stores stores_over bytes
    text-stores a zero side = omega arith
    text-stores a (suc n) [] = omega arith
    text-stores a (suc n) (x ∷ []) = omega arith
    text-stores a (suc n) (x ∷ v ∷ side) =
        let p = text-stores a n side in
        let b = short x in
        let c = short v in
        let g₁ = length-append (stores a (stores_over below n side)) (bytes " " ++ (term (below x) ++ (bytes " " ++ (term (below v) ++ bytes ")")))) in
        let g₂ = length-append (term (below x)) (bytes " " ++ (term (below v) ++ bytes ")")) in
        let g₃ = length-append (term (below v)) (bytes ")") in
        omega arith

    apply-short : (o : ℕ) (ks xs : List ℕ) → All fits64 ks → 24 + 21 * length ks ≤ k → Short (apply o ks (trees_over below xs))
    unfolding term weigh bytes
    apply-short o ks xs h l =
        let ts : Trees = trees_over below xs in
        let a = text-all xs in
        let b = operator-few (symbol_of o) ks h in
        let c = symbol-short o in
        let e = length-append (operator_text (symbol_of o) ks) (terms ts ++ bytes ")") in
        let f = length-append (terms ts) (bytes ")") in
        omega arith

    call-text : (n : Name) (ts : Trees) (arguments : List ℕ) → length (call_text n ts arguments) ≤ 4 + length n + length arguments
    unfolding call_text bytes
    call-text n none arguments = let a = quoted-length n in omega arith
    call-text n (more t ts) arguments =
        let a = quoted-length n in
        let b = length-append (quoted n) (arguments ++ bytes ")") in
        let c = length-append arguments (bytes ")") in
        omega arith

    call-short : (n : Name) (xs : List ℕ) → 9 + length n ≤ k → Short (call n (trees_over below xs))
    unfolding term weigh
    call-short n xs l =
        let ts : Trees = trees_over below xs in
        let a = text-all xs in
        let b = call-text n ts (terms ts) in
        omega arith

    select_short : (a : Name) (j n : ℕ) (side : List ℕ) → 17 + length a ≤ k → Short (select a (below j) (stores_over below n side))
    unfolding term weigh bytes
    select_short a j n side l =
        let ss : Stores = stores_over below n side in
        let p = text-stores a n side in
        let q = short j in
        let r = quoted-length a in
        let g₁ = length-append (stores a ss) (bytes " " ++ (term (below j) ++ bytes ")")) in
        let g₂ = length-append (term (below j)) (bytes ")") in
        omega arith

  constant-short : (bs : List ℕ) → 7 + length bs ≤ k → Short (constant bs)
  unfolding term weigh bytes
  constant-short bs l = let a = binary-length bs in omega arith

  variable-short : (n : Name) → 7 + length n ≤ k → Short (variable n)
  unfolding term weigh
  variable-short n l = let a = quoted-length n in omega arith

-- ---------------------------------------------------------------- the trees of a query whose nodes are all well formed

-- k bytes are enough for a term: names have b at most
module _ (q : Query) (k b : ℕ) (wide : 17 + b ≤ k) (long : 7 + length q.bits ≤ k) (least : 66 ≤ k)
    (names : length q.dag.names ≤ b) (anames : length q.dag.anames ≤ b) (fnames : length q.dag.fnames ≤ b)
    (arrays : T (array_widths_ok q.dag.array-widths)) (all : length (widths_of q) ≡ length q.dag.nodes) where
  abbrev d : Dag
  d = q.dag

  abbrev ws : List ℕ
  ws = widths_of q

  small : (i : ℕ) → width_at ws i ≤ largest
  small i = leb→le (width_at ws i) largest (width_fits q arrays i)

  amount-fits : (i : ℕ) (n : Node) → 0 < width_at ws i → T (fits64 (amount_of d ws q.bits i n))
  unfolding amount_of
  amount-fits i n p =
      let v : ℕ = bits_value (constant_bits q.bits (get_or d.nodes n.b no_node)) in
      let r : v % width_at ws i < width_at ws i = mod-lt v p in
      let e = small i in
      le→leb (v % width_at ws i) largest (omega arith)

  variable-name : (i : ℕ) → length (variable_name d i) ≤ b
  unfolding variable_name
  variable-name i = by-found (find_node d.var_node i)
    where
      by-found : (o : Option ℕ) → length {A = ℕ} (elim o [ nothing ↦ [] | some j ↦ get_or (name_table d) j [] ]) ≤ b
      by-found nothing = omega arith
      by-found (some j) = let a = name-short d.names d.name_start d.name_len j in omega arith

  module _ (below : ℕ → Tree) (short : (j : ℕ) → Short k (below j)) (i : ℕ) where
    plain : (kind : ℕ) (xs : List ℕ) → Short k (apply kind [] (trees_over below xs))
    plain kind xs = apply-short k below short kind [] xs tt (omega arith)

    node-short : (n : Node) (s : Shape) → 0 < width_at ws i → Formed ws i (length q.bits) d.array-widths d.side n s
        → Short k (tree_as d ws q.bits below i n s)
    unfolding tree_as
    node-short n var f g = variable-short k (variable_name d i) (let a = variable-name i in omega arith)
    node-short n const f g =
        constant-short k (constant_bits q.bits n)
        (unfold constant_bits in let p = length-take n.b (drop n.a q.bits) in let r = length-drop n.a q.bits in omega arith)
    node-short n binary f g = plain n.kind (n.a ∷ n.b ∷ [])
    node-short n rotation f g =
        apply-short k below short n.kind (amount_of d ws q.bits i n ∷ []) (n.a ∷ []) (amount-fits i n f, tt) (omega arith)
    node-short n extraction f (low, order, high, width) =
        let e = small n.c in
        apply-short k below short n.kind (n.a ∷ n.b ∷ []) (n.c ∷ []) (le→leb n.a largest (omega arith), (le→leb n.b largest (omega arith), tt)) (omega arith)
    node-short n concat f g = plain n.kind (n.a ∷ n.b ∷ [])
    node-short n extension f (low, positive, fits, width) =
        let e = leb→le (width_at ws n.a + n.b) largest fits in
        apply-short k below short n.kind (n.b ∷ []) (n.a ∷ []) (le→leb n.b largest (omega arith), tt) (omega arith)
    node-short n ite f g = plain n.kind (n.a ∷ n.b ∷ n.c ∷ [])
    node-short n comparison f g = plain n.kind (n.a ∷ n.b ∷ [])
    node-short n negation f g = plain n.kind (n.a ∷ [])
    node-short n connective f g = plain n.kind (n.a ∷ n.b ∷ [])
    node-short n unary f g = plain n.kind (n.a ∷ [])
    node-short n Shape.select f g =
        select_short k below short (get_or (aname_table d) n.a []) n.b n.d (drop n.c d.side)
        (let a = name-short d.anames d.aname_start d.aname_len n.a in omega arith)
    node-short n Shape.call f g =
        call-short k below short (get_or (fname_table d) n.a []) (take n.d (drop n.c d.side))
        (let a = name-short d.fnames d.fname_start d.fname_len n.a in omega arith)
    node-short n unknown f g = absurd g

    step-short : Short k (tree_step d ws q.bits below i)
    unfolding tree_step
    step-short = by_place (dec_lt i (length ws))
      where
        by_place : Dec (i < length ws) → Short k (tree_as d ws q.bits below i (get_or d.nodes i no_node) (shape (get_or d.nodes i no_node)))
        by_place (yes l) =
            let n : Node = get_or d.nodes i no_node in
            let f = facts (length q.bits) d.array-widths d.side d.nodes i l in
            node-short n (shape n) (node_wide (length q.bits) d.array-widths d.side d.nodes arrays i l).0 f.form
        by_place (no l) =
            let past : length d.nodes ≤ i = omega (arith, all) in
            rw (get_or-eq_default d.nodes no_node {n = i} past) (unfold tree_as trees_over shapes in plain 255 [])

  pub tree-short : (i : ℕ) → Short k (tree_of d ws q.bits i)
  unfolding tree_of
  tree-short i =
      step-short (trees_below d ws q.bits i)
      (upto_all (Short k) (tree_step d ws q.bits) (constant []) (constant-short k [] (omega arith)) (λ below short j. step-short below short j) i) i
