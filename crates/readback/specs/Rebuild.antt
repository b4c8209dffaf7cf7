-- A reading as a problem: what reading a script back gives (document 02, L6), with no limit on anything.
--
-- Variables come first; then a call on zeros of each function that no assertion calls; then terms as their last operand ends.
-- Equal constants are one node, which stands just before the term that first uses it.
use Rattle.std.specs.Prelude.{ℕ, zero, suc, ◌+◌, ◌/◌, ◌%◌, List, [], ◌∷◌, ◌++◌, map, Bool, true, false, ◌||◌, length, get_or, replicate}
use Rattle.std.proofs.Math.Option.{Option, none, some}
use Rattle.lists.specs.Tests.{same}
use Rattle.lists.specs.Build.{find_from}
use Rattle.reading.specs.Kinds.{Var, Const, Select, Call}
use Rattle.reading.specs.Trees.{
  Name,
  Tree,
  variable,
  constant,
  apply,
  select,
  call,
  Trees,
  none as noTrees,
  more,
  Stores,
  base,
  store,
  Variable,
  Array,
  Function,
  Declarations,
  Reading,
}
use Rattle.echo_spec.specs.Shapes.{
  Shape,
  var,
  const,
  binary,
  rotation,
  extraction,
  concat,
  extension,
  ite,
  comparison,
  negation,
  connective,
  unary,
  unknown,
  shape_of,
}
use Rattle.echo_spec.specs.Input.{Node, array_columns, Dag, Query}
use Rattle.echo_spec.specs.TreeSorts.{width_of, tree_sort}
use Rattle.readback.specs.Printable.{variable_names_in, array_names_in, function_names_in}

-- ---------------------------------------------------------------- numbers of declared names

-- the place of the first entry of this name
abbrev pub variable_number : Declarations → Name → Option ℕ
variable_number D n = find_from (λ (v : Variable). same n v.name) 0 D.variables

abbrev pub array_number : Declarations → Name → Option ℕ
array_number D n = find_from (λ (a : Array). same n a.name) 0 D.arrays

abbrev pub function_number : Declarations → Name → Option ℕ
function_number D n = find_from (λ (f : Function). same n f.name) 0 D.functions

-- ---------------------------------------------------------------- nodes, before their bits and side entries have places

pub record Pair (A : Type 0) : Type 0 where
  pub index : A
  pub value : A

pub data Item : Type 0 where
  -- width
  a_variable : ℕ → Item
  -- bits, the lowest first
  a_constant : List ℕ → Item
  -- kind, numerals, operands, and of a rotation the node of its amount
  an_operator : ℕ → List ℕ → List ℕ → List ℕ → Item
  -- array number, index, stores, the outermost first
  a_select : ℕ → ℕ → List (Pair ℕ) → Item
  -- function number, width, arguments
  a_call : ℕ → ℕ → List ℕ → Item

-- ---------------------------------------------------------------- constants

unfoldable pub is_constant : List ℕ → Item → Bool
is_constant bs (a_variable w) = false
is_constant bs (a_constant cs) = same bs cs
is_constant bs (an_operator k ks xs ms) = false
is_constant bs (a_select a i ps) = false
is_constant bs (a_call g w xs) = false

abbrev pub find_constant : List ℕ → List Item → Option ℕ
find_constant bs s = find_from (is_constant bs) 0 s

-- the nodes, and the constant after them if it is new
unfoldable pub with_constant : List ℕ → List Item → List Item
with_constant bs s = elim (find_constant bs s) [ none ↦ s ++ (a_constant bs ∷ []) | some i ↦ s ]

unfoldable pub with_constants : List (List ℕ) → List Item → List Item
with_constants [] s = s
with_constants (bs ∷ cs) s = with_constants cs (with_constant bs s)

-- An operand: a node that is there, or a constant, which has its node once the term around it ends.
pub data Ref : Type 0 where
  here : ℕ → Ref
  pending : List ℕ → Ref

unfoldable pub node_of : List Item → Ref → ℕ
node_of s (here i) = i
node_of s (pending bs) = elim (find_constant bs s) [ none ↦ 0 | some i ↦ i ]

-- ---------------------------------------------------------------- terms

-- the nodes after a term, and the term
pub record Put : Type 0 where
  pub items : List Item
  pub ref : Ref

pub record PutAll : Type 0 where
  pub items : List Item
  pub refs : List Ref

pub record PutStores : Type 0 where
  pub items : List Item
  pub pairs : List (Pair Ref)

-- a term that ends: the constants cs, as far as they are new, and then the term over the nodes of its operands
unfoldable pub ended : List (List ℕ) → ((Ref → ℕ) → Item) → List Item → Put
ended cs term s =
    let s' : List Item = with_constants cs s in
    record { items = s' ++ (term (node_of s') ∷ []); ref = here (length s') }

-- the number k in w bits, the lowest first
unfoldable pub low_bits : ℕ → ℕ → List ℕ
low_bits zero k = []
low_bits (suc w) k = k % 2 ∷ low_bits w (k / 2)

-- the amount of a rotation as wide as w, as bits; no other shape has one
unfoldable pub amounts : Shape → ℕ → List ℕ → List (List ℕ)
amounts var w ks = []
amounts const w ks = []
amounts binary w ks = []
amounts rotation w ks = map (low_bits w) ks
amounts extraction w ks = []
amounts concat w ks = []
amounts extension w ks = []
amounts ite w ks = []
amounts comparison w ks = []
amounts negation w ks = []
amounts connective w ks = []
amounts unary w ks = []
amounts Shape.select w ks = []
amounts Shape.call w ks = []
amounts unknown w ks = []

-- an operand's bits, if it is a constant
unfoldable pub own_bits : Tree → List (List ℕ)
own_bits (variable n) = []
own_bits (constant bs) = bs ∷ []
own_bits (apply k ks ts) = []
own_bits (select a j ss) = []
own_bits (call n ts) = []

-- the constants among operands, in the order of the script
unfoldable pub constants_among : Trees → List (List ℕ)
constants_among noTrees = []
constants_among (more t ts) = own_bits t ++ constants_among ts

-- the innermost store comes first in the script
unfoldable pub constants_stored : Stores → List (List ℕ)
constants_stored base = []
constants_stored (store i v ss) = constants_stored ss ++ (own_bits i ++ own_bits v)

abbrev pub number_or0 : Option ℕ → ℕ
number_or0 none = 0
number_or0 (some k) = k

abbrev pub pair_of : (Ref → ℕ) → Pair Ref → Pair ℕ
pair_of node p = record { index = node p.index; value = node p.value }

abbrev pub pendings : (Ref → ℕ) → List (List ℕ) → List ℕ
pendings node cs = map (λ bs. node (pending bs)) cs

unfoldable mutual
  pub put : Declarations → Tree → List Item → Put
  put D (variable n) s = record { items = s; ref = here (number_or0 (variable_number D n)) }
  put D (constant bs) s = record { items = s; ref = pending bs }
  put D (apply k ks ts) s =
      let o : PutAll = put_all D ts s in
      let ms : List (List ℕ) = amounts (shape_of k) (width_of (tree_sort D (apply k ks ts))) ks in
      ended (ms ++ constants_among ts) (λ node. an_operator k ks (map node o.refs) (pendings node ms)) o.items
  put D (select a j ss) s =
      let o : PutStores = put_stores D ss s in
      let p : Put = put D j o.items in
      ended (constants_stored ss ++ own_bits j) (λ node. a_select (number_or0 (array_number D a)) (node p.ref) (map (pair_of node) o.pairs)) p.items
  put D (call n ts) s =
      let o : PutAll = put_all D ts s in
      ended (constants_among ts)
      (λ node. a_call (number_or0 (function_number D n)) (width_of (tree_sort D (call n ts))) (map node o.refs)) o.items

  -- one after the other
  pub put_all : Declarations → Trees → List Item → PutAll
  put_all D noTrees s = record { items = s; refs = [] }
  put_all D (more t ts) s =
      let p : Put = put D t s in
      let o : PutAll = put_all D ts p.items in
      record { items = o.items; refs = p.ref ∷ o.refs }

  -- in the order of the script, the innermost store first; the pairs with the outermost first
  pub put_stores : Declarations → Stores → List Item → PutStores
  put_stores D base s = record { items = s; pairs = [] }
  put_stores D (store i v ss) s =
      let o : PutStores = put_stores D ss s in
      let p : Put = put D i o.items in
      let q : Put = put D v p.items in
      record { items = q.items; pairs = record { index = p.ref; value = q.ref } ∷ o.pairs }

-- ---------------------------------------------------------------- functions that no assertion calls

unfoldable mutual
  pub calls : Name → Tree → Bool
  calls f (variable n) = false
  calls f (constant bs) = false
  calls f (apply k ks ts) = calls_any f ts
  calls f (select a j ss) = calls_stored f ss || calls f j
  calls f (call n ts) = same f n || calls_any f ts

  pub calls_any : Name → Trees → Bool
  calls_any f noTrees = false
  calls_any f (more t ts) = calls f t || calls_any f ts

  pub calls_stored : Name → Stores → Bool
  calls_stored f base = false
  calls_stored f (store i v ss) = calls_stored f ss || (calls f i || calls f v)

abbrev pub zeros : ℕ → List ℕ
zeros w = replicate w 0

-- a call of function g on zeros
unfoldable pub call_on_zeros : ℕ → Function → List Item → List Item
call_on_zeros g f s =
    (ended (map zeros f.arguments) (λ node. a_call g f.width (pendings node (map zeros f.arguments))) s).items

-- for each of the functions, from number g on, that the assertions do not call
unfoldable pub with_uncalled : Trees → ℕ → List Function → List Item → List Item
with_uncalled ts g [] s = s
with_uncalled ts g (f ∷ fs) s = with_uncalled ts (suc g) fs (elim (calls_any f.name ts) [ true ↦ s | false ↦ call_on_zeros g f s ])

-- ---------------------------------------------------------------- all nodes

abbrev pub variable_items : List Variable → List Item
variable_items vs = map (λ (v : Variable). a_variable v.width) vs

unfoldable pub placed : Reading → PutAll
placed r =
    put_all r.declarations r.assertions
    (with_uncalled r.assertions 0 r.declarations.functions (variable_items r.declarations.variables))

-- ---------------------------------------------------------------- bits and side entries, in node order without gaps

unfoldable pub bits_in : Item → List ℕ
bits_in (a_variable w) = []
bits_in (a_constant bs) = bs
bits_in (an_operator k ks xs ms) = []
bits_in (a_select a i ps) = []
bits_in (a_call g w xs) = []

unfoldable pub flat : List (Pair ℕ) → List ℕ
flat [] = []
flat (p ∷ ps) = p.index ∷ p.value ∷ flat ps

unfoldable pub side_in : Item → List ℕ
side_in (a_variable w) = []
side_in (a_constant bs) = []
side_in (an_operator k ks xs ms) = []
side_in (a_select a i ps) = flat ps
side_in (a_call g w xs) = xs

unfoldable pub joined : (Item → List ℕ) → List Item → List ℕ
joined f [] = []
joined f (x ∷ xs) = f x ++ joined f xs

-- the operands of an operator's record, in the Rust's order
unfoldable pub fields : Shape → List ℕ → List ℕ → List ℕ → List ℕ
fields var ks xs ms = xs
fields const ks xs ms = xs
fields binary ks xs ms = xs
fields rotation ks xs ms = xs ++ ms
fields extraction ks xs ms = ks ++ xs
fields concat ks xs ms = xs
fields extension ks xs ms = xs ++ ks
fields ite ks xs ms = xs
fields comparison ks xs ms = xs
fields negation ks xs ms = xs
fields connective ks xs ms = xs
fields unary ks xs ms = xs
fields Shape.select ks xs ms = xs
fields Shape.call ks xs ms = xs
fields unknown ks xs ms = xs

abbrev pub node_with : ℕ → List ℕ → Node
node_with k l = record { kind = k; a = get_or l 0 0; b = get_or l 1 0; c = get_or l 2 0; d = get_or l 3 0 }

-- the record of a node, after b bits and c side entries
unfoldable pub record_of : ℕ → ℕ → Item → Node
record_of b c (a_variable w) = node_with Var (w ∷ [])
record_of b c (a_constant bs) = node_with Const (b ∷ length bs ∷ [])
record_of b c (an_operator k ks xs ms) = node_with k (fields (shape_of k) ks xs ms)
record_of b c (a_select a i ps) = node_with Select (a ∷ i ∷ c ∷ length ps ∷ [])
record_of b c (a_call g w xs) = node_with Call (g ∷ w ∷ c ∷ length xs ∷ [])

unfoldable pub records_from : ℕ → ℕ → List Item → List Node
records_from b c [] = []
records_from b c (x ∷ s) = record_of b c x ∷ records_from (b + length (bits_in x)) (c + length (side_in x)) s

-- ---------------------------------------------------------------- tables

-- where each name starts, the names end to end
unfoldable pub starts_counted_from : ℕ → List Name → List ℕ
starts_counted_from k [] = []
starts_counted_from k (n ∷ ns) = k ∷ starts_counted_from (k + length n) ns

unfoldable pub count_from : ℕ → ℕ → List ℕ
count_from k zero = []
count_from k (suc n) = k ∷ count_from (suc k) n

-- names end to end
unfoldable pub arena : List Name → List ℕ
arena [] = []
arena (n ∷ ns) = n ++ arena ns

-- nodes laid out, with the tables of declarations
unfoldable pub dag_for : Declarations → List Item → Dag
dag_for D s = record {
  nodes = records_from 0 0 s;
  side = joined side_in s;
  names = arena (variable_names_in D);
  name_start = starts_counted_from 0 (variable_names_in D);
  name_len = map length (variable_names_in D);
  var_node = count_from 0 (length (variable_names_in D));
  var_width = map (λ (v : Variable). v.width) D.variables;
  anames = arena (array_names_in D);
  aname_start = starts_counted_from 0 (array_names_in D);
  aname_len = map length (array_names_in D);
  array-widths = array_columns (map (λ (a : Array). a.index) D.arrays) (map (λ (a : Array). a.value) D.arrays);
  fnames = arena (function_names_in D);
  fname_start = starts_counted_from 0 (function_names_in D);
  fname_len = map length (function_names_in D);
  func_width = map (λ (f : Function). f.width) D.functions;
}

-- the problem that a script of this reading is read back as: its operands may have more than 32 bits, and its lists any length
unfoldable pub rebuild : Reading → Query
rebuild r =
    let o : PutAll = placed r in
    record { dag = dag_for r.declarations o.items; bits = joined bits_in o.items; roots = map (node_of o.items) o.refs }
