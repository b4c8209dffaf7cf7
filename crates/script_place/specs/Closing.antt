-- A term at its bracket: its node, by its head and the operands that wait.
use Rattle.std.specs.Prelude.{ℕ, zero, suc, ◌+◌, ◌*◌, ◌≤◌, ◌<◌, ◌≡◌, T, length, drop, get_or, Result, Ok, Err, unwrap_or}
use Rattle.std.proofs.Math.Path.{refl, ap}
use Rattle.std.proofs.Common.{sym, ◌∙◌, subst, arith, length-append}
use mathlib.Core.List.{List, [], ◌∷◌, ◌++◌, map}
use Rattle.std.proofs.Math.Option.{some}
use Rattle.reading.specs.Trees.{Name, Tree, apply, select, call, Trees, none as noTrees, more, Stores, Declarations}
use Rattle.echo_spec.specs.Shapes.{shape_of}
use Rattle.echo_spec.specs.TreeSorts.{TreeSort, proper, width_of, Rule, rule_of, tree_sort, tree_sorts}
use Rattle.echo_spec.specs.TreeSortLaws.{Met}
use Rattle.readback.specs.Rebuild.{Item, an_operator, a_select, a_call, Ref, Put, PutAll, ended, number_or0, low_bits, pendings, put, put_all, array_number, function_number}
use Rattle.readback.specs.Reader.{took, read_term}
use Rattle.rebuilt.specs.Built.{array_at, function_at}
use Rattle.rebuilt.specs.Known.{select-known, call_known}
use Rattle.heap_laws.specs.Heap.{pending_in, pairs_back}
use Rattle.heap_laws.specs.declared.Heap.{Heap}
use Rattle.heap_laws.specs.declared.OverLimit.{OverLimit}
use Rattle.heap_laws.specs.Within.{within-parts}
use Rattle.place_laws.specs.Ahead.{stored_then, stores_in}
use Rattle.place_laws.specs.Operands.{operands_of, amounts_of, put-operator, put-call, put-select, select-refs}
use Rattle.place_laws.specs.Widths.{result_width, first_width, second_width, apply_met, apply-width, no-amounts, rotation-amount}
use Rattle.place_laws.specs.Room.{over_none}
use Rattle.place_laws.specs.SoFar.{NoLeaf, so-far-end, node-low}
use Rattle.script_heads.specs.declared.Head.{Head}
use Rattle.script_heads.specs.declared.Head.TheVariants.{Operator, Call, Select}
use Rattle.script_heads.specs.Heads.{numerals_of, name_to, select_name, NullaryAt}
use Rattle.script_ends.specs.declared.Seen.{Seen}
use Rattle.script_ends.specs.Parts.{seen-first-width, seen-second-width}
use Rattle.script_ends.specs.Ends.{EndedAs, Ending, OperatorEnds, operator_item}
use Rattle.script_place.specs.declared.Unread.{Unread}
use Rattle.script_place.specs.declared.Unread.TheVariants.{Limit}
use Rattle.script_place.specs.declared.Placed.{Placed}
use Rattle.script_place.specs.Terms.{PlacedTo, Finished, Closing}
use Rattle.script_place.specs.Forms.{at_byte, leaf-form, operator-form, call-form, select-form}

-- ---------------------------------------------------------------- numerals

pub first-numeral : (m i j a : ℕ) → (1 ≤ m → a ≡ i) → (m < 1 → a ≡ 0) → a ≡ get_or (numerals_of m i j) 0 0
unfolding numerals_of
first-numeral zero i j a p q = q (omega arith)
first-numeral (suc zero) i j a p q = p (omega arith)
first-numeral (suc (suc m)) i j a p q = p (omega arith)

pub second-numeral : (m i j b : ℕ) → (2 ≤ m → b ≡ j) → (m < 2 → b ≡ 0) → b ≡ get_or (numerals_of m i j) 1 0
unfolding numerals_of
second-numeral zero i j b p q = q (omega arith)
second-numeral (suc zero) i j b p q = q (omega arith)
second-numeral (suc (suc m)) i j b p q = p (omega arith)

-- ---------------------------------------------------------------- a term that ends

-- the end of a term, as `place` answers it
module _ (s : List ℕ) (heap : Heap) (at : ℕ) (rest : List ℕ) (width : ℕ) (D : Declarations) (tree : Tree) (first : List Item) (refs : List Ref) (levels side : ℕ) where
  ended-placed : (r : Result ℕ OverLimit) (w e : ℕ) (p : Result Placed Unread) → at < e → e ≤ length s → rest ≡ drop e s → w ≡ width → NoLeaf tree → EndedAs s heap refs (put D tree first) r → Finished r w e p
      → PlacedTo s heap at rest width (put D tree first) refs levels side p
  ended-placed (Err _) w e p a b c d f h q =
      subst (PlacedTo s heap at rest width (put D tree first) refs levels side) (sym q) (λ r. over_none levels side (put D tree first).items h r)
  ended-placed (Ok i) w e p a b c d f (x, y, z) q =
      let l = node-low D tree first i f x in
      let k = (within-parts (put D tree first).items y.inside).nodes in
      subst (PlacedTo s heap at rest width (put D tree first) refs levels side) (sym q)
      (record { low = a; high = b; ends = c; wide = d; is = x; held = y; stacked = z }, omega arith)

module _ {s : List ℕ} {heap : Heap} {x : Head} {base : ℕ} {v : Seen} {e at : ℕ} {D : Declarations} {tree : Tree} {sort : TreeSort} {rest : List ℕ} {first : List Item} {refs : List Ref}
    (c : Closing s heap x base v e at D tree sort rest first refs) where
  pub ending : Ending s heap base c.now refs c.rs
  ending = record { held = c.held; stacked = c.stacked; below = c.below }

  pub bracket-low : e < length s
  bracket-low = (at_byte s e 41 rest c.bracket).0

  pub closed-placed : (heap' : Heap) (p : Put) → p ≡ put D tree first → NoLeaf tree → (r : Result ℕ OverLimit) (w : ℕ) (z : Result Placed Unread) → w ≡ width_of (some sort)
      → EndedAs s heap' refs p r → Finished r w (e + 1) z → (levels side : ℕ) → PlacedTo s heap' at rest (width_of (some sort)) (put D tree first) refs levels side z
  closed-placed heap' p q n r w z d h f levels side =
      let l = bracket-low in
      let k = c.low in
      ended-placed s heap' at rest (width_of (some sort)) D tree first refs levels side r w (e + 1) z (omega arith) (omega arith) (at_byte s e 41 rest c.bracket).1 d n
      (subst (λ (y : Put). EndedAs s heap' refs y r) q h) f

  -- by the term's head
  pub closing-as : {y : Head} → x ≡ y → Closing s heap y base v e at D tree sort rest first refs
  closing-as f = subst (λ (z : Head). Closing s heap z base v e at D tree sort rest first refs) f c

  -- no room for its node
  pub closed-over : (heap' : Heap) (p : Put) → p ≡ put D tree first → (u : OverLimit) → EndedAs s heap' refs p (Err u)
      → (levels side : ℕ) → PlacedTo s heap' at rest (width_of (some sort)) (put D tree first) refs levels side (Err Limit)
  closed-over heap' p q u h levels side = λ r. over_none levels side (put D tree first).items (subst (λ (y : Put). EndedAs s heap' refs y (Err u)) q h) r

  puts : (ts : Trees) → operands_of tree ≡ ts → put_all D ts first ≡ record { items = c.now; refs = c.rs }
  puts ts q = ap (λ (us : Trees). put_all D us first) (sym q) ∙ (so-far-end D (operands_of tree) first c.now c.rs c.os c.far).0

  sorts : (ts : Trees) → operands_of tree ≡ ts → tree_sorts D ts ≡ c.os
  sorts ts q = ap (tree_sorts D) (sym q) ∙ (so-far-end D (operands_of tree) first c.now c.rs c.os c.far).1

-- ---------------------------------------------------------------- operators

pub operands-of-apply : (k : ℕ) (ks : List ℕ) (ts : Trees) → operands_of (apply k ks ts) ≡ ts
unfolding operands_of
operands-of-apply k ks ts = refl

pub operands-of-call : (n : Name) (ts : Trees) → operands_of (call n ts) ≡ ts
unfolding operands_of
operands-of-call n ts = refl

pub operands-of-select : (a : Name) (j : Tree) (ss : Stores) → operands_of (select a j ss) ≡ stored_then ss (more j noTrees)
unfolding operands_of
operands-of-select a j ss = refl

module _ {s : List ℕ} {heap : Heap} {k m i j from base : ℕ} {v : Seen} {e at : ℕ} {D : Declarations} {tree : Tree} {sort : TreeSort} {rest : List ℕ} {first : List Item} {refs : List Ref}
    (c : Closing s heap (Operator k m i j from) base v e at D tree sort rest first refs) where
  abbrev pub numerals : List ℕ
  numerals = numerals_of m i j

  pub operator-trees : Trees
  operator-trees = (operator-form s D at c.steps tree rest c.read c.head).0

  operator-is : tree ≡ apply k numerals operator-trees
  unfolding operator-trees
  operator-is = (operator-form s D at c.steps tree rest c.read c.head).1

  operator-operands : operands_of tree ≡ operator-trees
  operator-operands = ap operands_of operator-is ∙ operands-of-apply k numerals operator-trees

  operator-sorted : tree_sort D (apply k numerals operator-trees) ≡ some sort
  operator-sorted = subst (λ (t : Tree). tree_sort D t ≡ some sort) operator-is c.sorted

  pub operator-leaf : NoLeaf tree
  operator-leaf = subst NoLeaf (sym operator-is) tt

  abbrev pub operator_amounts : List (List ℕ)
  operator_amounts = amounts_of D k numerals operator-trees

  pub operator-put : ended (operator_amounts ++ pending_in c.rs) (operator_item k numerals c.rs operator_amounts) c.now ≡ put D tree first
  operator-put =
      sym (ap (λ (t : Tree). put D t first) operator-is ∙ put-operator D k numerals operator-trees first
      ∙ ap (λ (o : PutAll). ended (operator_amounts ++ pending_in o.refs) (λ node. an_operator k numerals (map node o.refs) (pendings node operator_amounts)) o.items) (puts c operator-trees operator-operands))

  first-seen : unwrap_or v.first 0 ≡ first_width (tree_sorts D operator-trees)
  first-seen = ap (λ o. unwrap_or o 0) c.seen.first ∙ seen-first-width c.os ∙ ap first_width (sym (sorts c operator-trees operator-operands))

  second-seen : unwrap_or v.second 0 ≡ second_width (tree_sorts D operator-trees)
  second-seen = ap (λ o. unwrap_or o 0) c.seen.second ∙ seen-second-width c.os ∙ ap second_width (sym (sorts c operator-trees operator-operands))

  operator-met : Met (shape_of k) numerals (tree_sorts D operator-trees) sort
  operator-met = apply_met D k numerals operator-trees sort operator-sorted

  module _ (a b y : ℕ) (p : a ≡ get_or numerals 0 0) (q : b ≡ get_or numerals 1 0) (f : y ≡ unwrap_or v.first 0) where
    pub operator-ends : OperatorEnds k a b y numerals operator_amounts (length c.rs)
    operator-ends = record {
      operands = tree_sorts D operator-trees;
      sort = sort;
      met = operator-met;
      many = ap length (sorts c operator-trees operator-operands) ∙ c.far.count;
      first-numeral = p;
      second-numeral = q;
      turns = λ h. rotation-amount D k numerals operator-trees sort operator-sorted h ∙ (λ t. low_bits (sym (f ∙ first-seen) t) (sym p t) ∷ []);
      plain = λ h. no-amounts (shape_of k) (width_of (tree_sort D (apply k numerals operator-trees))) numerals h;
    }

    module _ (z : ℕ) (g : z ≡ unwrap_or v.second 0) where
      rule-is : rule_of (shape_of k) (get_or numerals 0 0) (get_or numerals 1 0) (first_width (tree_sorts D operator-trees)) (second_width (tree_sorts D operator-trees)) ≡ rule_of (shape_of k) a b y z
      rule-is = λ t. rule_of (shape_of k) (sym p t) (sym q t) (sym (f ∙ first-seen) t) (sym (g ∙ second-seen) t)

      pub operator-rule : T (proper (rule_of (shape_of k) a b y z).result) × T (rule_of (shape_of k) a b y z).condition
      operator-rule = (
        subst (λ (r : Rule). T (proper r.result)) rule-is (subst (λ (σ : TreeSort). T (proper σ)) (sym operator-met.result) operator-met.proper),
        subst (λ (r : Rule). T r.condition) rule-is operator-met.condition,
      )

      pub operator-width : (r : ℕ) → r ≡ result_width (shape_of k) a b y z → r ≡ width_of (some sort)
      operator-width r e =
          e ∙ ap (λ (y : Rule). width_of (some y.result)) (sym rule-is) ∙ sym (apply-width D k numerals operator-trees sort operator-sorted) ∙ ap width_of operator-sorted

-- ---------------------------------------------------------------- calls

module _ (D : Declarations) (n : Name) (g w : ℕ) (there : function_number D n ≡ some g) (wide : (function_at D g).width ≡ w) (ts : Trees) (sort : TreeSort) (sorted : tree_sort D (call n ts) ≡ some sort) where
  number_is : number_or0 (function_number D n) ≡ g
  number_is = ap number_or0 there

  pub call-wide : w ≡ width_of (some sort)
  call-wide =
      let (_, _, _, q) = call_known D n ts sort sorted in
      sym wide ∙ ap (λ (k : ℕ). (function_at D k).width) (sym number_is) ∙ ap (λ (σ : TreeSort). width_of (some σ)) q

  call-item : (rs : List Ref) (now first : List Item) → put_all D ts first ≡ record { items = now; refs = rs } → ended (pending_in rs) (λ node. a_call g w (map node rs)) now ≡ put D (call n ts) first
  call-item rs now first q =
      let z : width_of (tree_sort D (call n ts)) ≡ w = ap width_of sorted ∙ sym call-wide in
      sym (put-call D n ts first
      ∙ ap (λ (o : PutAll). ended (pending_in o.refs) (λ node. a_call (number_or0 (function_number D n)) (width_of (tree_sort D (call n ts))) (map node o.refs)) o.items) q
      ∙ (λ i. ended (pending_in rs) (λ node. a_call (number_is i) (z i) (map node rs)) now))

module _ {s : List ℕ} {heap : Heap} {g p w from base : ℕ} {v : Seen} {e at : ℕ} {D : Declarations} {tree : Tree} {sort : TreeSort} {rest : List ℕ} {first : List Item} {refs : List Ref}
    (c : Closing s heap (Call g p w from) base v e at D tree sort rest first refs) where
  call-trees : Trees
  call-trees = (call-form s D at c.steps tree rest c.read c.head).0

  call-is : tree ≡ call (name_to s (at + 2) from) call-trees
  unfolding call-trees
  call-is = (call-form s D at c.steps tree rest c.read c.head).1

  call-sorted : tree_sort D (call (name_to s (at + 2) from) call-trees) ≡ some sort
  call-sorted = subst (λ (t : Tree). tree_sort D t ≡ some sort) call-is c.sorted

  pub call-leaf : NoLeaf tree
  call-leaf = subst NoLeaf (sym call-is) tt

  pub call-width : w ≡ width_of (some sort)
  call-width = call-wide D (name_to s (at + 2) from) g w c.head.entry.numbers.function c.head.entry.width call-trees sort call-sorted

  pub call-put : ended (pending_in c.rs) (λ node. a_call g w (map node c.rs)) c.now ≡ put D tree first
  call-put =
      call-item D (name_to s (at + 2) from) g w c.head.entry.numbers.function c.head.entry.width call-trees sort call-sorted c.rs c.now first
      (puts c call-trees (ap operands_of call-is ∙ operands-of-call (name_to s (at + 2) from) call-trees))
      ∙ ap (λ (t : Tree). put D t first) (sym call-is)

-- a call without arguments
module _ {s : List ℕ} {D : Declarations} {at g w e : ℕ} (x : NullaryAt s D at g w e) (steps : ℕ) (tree : Tree) (sort : TreeSort) (rest : List ℕ) (read : read_term steps D (drop at s) ≡ took tree rest)
    (sorted : tree_sort D tree ≡ some sort) where
  alone-is : (call (name_to s (at + 1) e) noTrees ≡ tree) × (drop e s ≡ rest)
  alone-is = leaf-form s D at steps tree rest read (call (name_to s (at + 1) e) noTrees) e x.read

  alone-sorted : tree_sort D (call (name_to s (at + 1) e) noTrees) ≡ some sort
  alone-sorted = subst (λ (t : Tree). tree_sort D t ≡ some sort) (sym alone-is.0) sorted

  alone-put : (items : List Item) → ended (pending_in []) (λ node. a_call g w (map node [])) items ≡ put D tree items
  unfolding put
  alone-put items =
      call-item D (name_to s (at + 1) e) g w x.entry.numbers.function x.entry.width noTrees sort alone-sorted [] items items refl ∙ ap (λ (t : Tree). put D t items) alone-is.0

  pub alone-placed : (heap : Heap) (items : List Item) (refs : List Ref) (levels side : ℕ) (r : Result ℕ OverLimit) (p : Result Placed Unread)
      → EndedAs s heap refs (ended (pending_in []) (λ node. a_call g w (map node [])) items) r → Finished r w e p
      → PlacedTo s heap at rest (width_of (some sort)) (put D tree items) refs levels side p
  alone-placed heap items refs levels side r p h f =
      let l = x.low in
      ended-placed s heap at rest (width_of (some sort)) D tree items refs levels side r w e p (omega arith) x.high (sym alone-is.1)
      (call-wide D (name_to s (at + 1) e) g w x.entry.numbers.function x.entry.width noTrees sort alone-sorted) (subst NoLeaf alone-is.0 tt)
      (subst (λ (y : Put). EndedAs s heap refs y r) (alone-put items) h) f

-- ---------------------------------------------------------------- selects

module _ {s : List ℕ} {heap : Heap} {a i w n from base : ℕ} {v : Seen} {e at : ℕ} {D : Declarations} {tree : Tree} {sort : TreeSort} {rest : List ℕ} {first : List Item} {refs : List Ref}
    (c : Closing s heap (Select a i w n from) base v e at D tree sort rest first refs) where
  abbrev array : Name
  array = name_to s (select_name at n) from

  select-index : Tree
  select-index = (select-form s D at c.steps tree rest c.read c.head).0

  select-stores : Stores
  select-stores = (select-form s D at c.steps tree rest c.read c.head).1

  select-is : tree ≡ select array select-index select-stores
  unfolding select-index select-stores
  select-is = (select-form s D at c.steps tree rest c.read c.head).2

  select-count : stores_in select-stores ≡ n
  unfolding select-stores
  select-count = (select-form s D at c.steps tree rest c.read c.head).4

  select-sorted : tree_sort D (select array select-index select-stores) ≡ some sort
  select-sorted = subst (λ (t : Tree). tree_sort D t ≡ some sort) select-is c.sorted

  select-puts : put_all D (stored_then select-stores (more select-index noTrees)) first ≡ record { items = c.now; refs = c.rs }
  select-puts = puts c (stored_then select-stores (more select-index noTrees)) (ap operands_of select-is ∙ operands-of-select array select-index select-stores)

  pub select-leaf : NoLeaf tree
  select-leaf = subst NoLeaf (sym select-is) tt

  array-is : number_or0 (array_number D array) ≡ a
  array-is = ap number_or0 c.head.entry.numbers.array

  pub select-width : w ≡ width_of (some sort)
  select-width =
      let (_, _, _, _, q) = select-known D array select-index select-stores sort select-sorted in
      sym c.head.entry.value ∙ ap (λ (k : ℕ). (array_at D k).value) (sym array-is) ∙ ap (λ (σ : TreeSort). width_of (some σ)) q

  pub select-many : length c.rs ≡ 2 * n + 1
  select-many =
      ap (λ (o : PutAll). length o.refs) (sym select-puts) ∙ select-refs D select-index select-stores first ∙ ap (λ (k : ℕ). 2 * k + 1) select-count

  pub select-top : base + (2 * n + 1) ≡ heap.top
  select-top =
      let l = select-many in
      let k = length-append refs c.rs in
      let t = c.stacked.top in
      let b = c.below in
      omega arith

  pub select-put : ended (pending_in c.rs) (λ node. a_select a (get_or (map node c.rs) (2 * n) 0) (pairs_back n (map node c.rs))) c.now ≡ put D tree first
  select-put =
      sym (ap (λ (t : Tree). put D t first) select-is ∙ put-select D array select-index select-stores first
      ∙ ap (λ (o : PutAll). ended (pending_in o.refs) (λ node. a_select (number_or0 (array_number D array)) (get_or (map node o.refs) (2 * stores_in select-stores) 0) (pairs_back (stores_in select-stores) (map node o.refs))) o.items) select-puts
      ∙ (λ t. ended (pending_in c.rs) (λ node. a_select (array-is t) (get_or (map node c.rs) (2 * select-count t) 0) (pairs_back (select-count t) (map node c.rs))) c.now))
