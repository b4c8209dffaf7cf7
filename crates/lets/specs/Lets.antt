-- The second way to print: operators that are used twice or more are bound by `let` (request L4). What the plain printer says
-- of a node it says here too, by the same steps; only where a node is used, a bound one stands as its name.
use Rattle.std.specs.Prelude.{ℕ, zero, suc, List, [], ◌∷◌, ◌++◌, map, Bool, true, ◌&&◌, not, cond, ltb, length, get_or}
use Rattle.lists.specs.Bytes.{bytes}
use Rattle.lists.specs.Tests.{among, in_list, every_from}
use Rattle.lists.specs.Build.{upto}
use Rattle.reading.specs.Trees.{Name, Tree, variable, constant, Declarations}
use Rattle.echo_spec.specs.Refusals.{unless, ◌or_else◌}
use Rattle.echo_spec.specs.Shapes.{is_bool}
use Rattle.echo_spec.specs.Input.{Problem, Dag, Query, shape, no_node, dag_of, query_of, name_table, aname_table, fname_table}
use Rattle.echo_spec.specs.Widths.{ext_wf_of, widths_of}
use Rattle.echo_spec.specs.Sharing.{uses_of_all, used_once}
use Rattle.echo_spec.specs.Tables.{declarations_of}
use Rattle.echo_spec.specs.Trees.{tree_step}
use Rattle.echo_spec.specs.Walk.{Operand, operands_as, walk_all, sort_ok, step_of_walk, checks}
use Rattle.echo_spec.specs.Render.{decimal, quoted, term, frame}
use Rattle.echo_spec.specs.Answers.{Answer, endless_with, text_answer}

-- ---------------------------------------------------------------- which nodes are bound

-- every use: by operands, side entries and roots, as for 6
unfoldable pub uses_in : Dag → List ℕ → List ℕ
uses_in d roots = uses_of_all d.side d.nodes ++ roots

-- a node that 6 would be about: an operator with two uses or more, reached or not; `us` are all uses
unfoldable pub shared : Dag → List ℕ → ℕ → Bool
shared d us i = ltb i (length d.nodes) && not (used_once d.nodes us i)

-- the operands that a term is written with: a rotation's amount is none
unfoldable pub operands_of : Dag → ℕ → List ℕ
operands_of d i = map (λ o. o.node) (operands_as d.side (get_or d.nodes i no_node) (shape (get_or d.nodes i no_node)))

-- the marks, and with every marked node below n its operands: from the highest node down, since operands are lower
unfoldable pub reached_below : Dag → ℕ → List ℕ → List ℕ
reached_below d zero marks = marks
reached_below d (suc i) marks = reached_below d i (cond (among marks i) (marks ++ operands_of d i) marks)

-- the nodes reached from a root, by operands alone
unfoldable pub reached : Dag → ℕ → List ℕ
reached d root = reached_below d (length d.nodes) (root ∷ [])

-- is the node bound in a root's assertion
unfoldable pub binds : Dag → List ℕ → ℕ → ℕ → Bool
binds d us root i = shared d us i && among (reached d root) i

-- the numbers that pass the test, rising, out of the n from a on
unfoldable pub rising : (ℕ → Bool) → ℕ → ℕ → List ℕ
rising p a zero = []
rising p a (suc n) = cond (p a) (a ∷ rising p (suc a) n) (rising p (suc a) n)

-- the name of a bound node: `d` and its number
unfoldable pub let_name : ℕ → Name
let_name i = bytes "d" ++ decimal i

-- ---------------------------------------------------------------- terms in which bound nodes are names

-- a node where it is used; `bound` says which nodes are bound
unfoldable pub named : (ℕ → Bool) → (ℕ → Tree) → ℕ → Tree
named bound trees j = cond (bound j) (variable (let_name j)) (trees j)

-- node i over the uses of the nodes below it: the plain printer's step
unfoldable pub named_step : Dag → List ℕ → List ℕ → (ℕ → Bool) → (ℕ → Tree) → ℕ → Tree
named_step d ws bits bound below i = tree_step d ws bits (named bound below) i

abbrev pub named_below : Dag → List ℕ → List ℕ → (ℕ → Bool) → ℕ → ℕ → Tree
named_below d ws bits bound n = upto (named_step d ws bits bound) (constant []) n

unfoldable pub named_of : Dag → List ℕ → List ℕ → (ℕ → Bool) → ℕ → Tree
named_of d ws bits bound i = named_step d ws bits bound (named_below d ws bits bound i) i

-- ---------------------------------------------------------------- assertions

pub record Binding : Type 0 where
  pub name : Name
  pub tree : Tree

-- the bindings, the outermost first, and the term inside them
pub record Assertion : Type 0 where
  pub bindings : List Binding
  pub body : Tree

unfoldable pub binding_of : Dag → List ℕ → List ℕ → (ℕ → Bool) → ℕ → Binding
binding_of d ws bits bound i = record { name = let_name i; tree = named_of d ws bits bound i }

-- the bound nodes in rising order, then the root: its name if it is bound itself
unfoldable pub assertion_of : Dag → List ℕ → List ℕ → (ℕ → Bool) → ℕ → Assertion
assertion_of d ws bits bound root = record {
  bindings = map (binding_of d ws bits bound) (rising bound 0 (length d.nodes));
  body = named bound (named_of d ws bits bound) root;
}

unfoldable pub assertions_of : Dag → List ℕ → List ℕ → List ℕ → List ℕ → List Assertion
assertions_of d ws bits us roots = map (λ r. assertion_of d ws bits (binds d us r) r) roots

-- ---------------------------------------------------------------- text

-- (let ((|d2| T)) B)
unfoldable pub let_text : List Binding → List ℕ → List ℕ
let_text [] body = body
let_text (b ∷ bs) body = bytes "(let ((" ++ (quoted b.name ++ (bytes " " ++ (term b.tree ++ (bytes ")) " ++ (let_text bs body ++ bytes ")")))))

unfoldable pub let_assertions_text : List Assertion → List ℕ
let_assertions_text [] = []
let_assertions_text (a ∷ xs) = bytes "(assert " ++ (let_text a.bindings (term a.body) ++ (bytes ")\n" ++ let_assertions_text xs))

unfoldable pub render_let : Declarations → List Assertion → List ℕ
render_let D xs = frame D (let_assertions_text xs)

-- ---------------------------------------------------------------- refusals

abbrev pub bool_at : Dag → ℕ → Bool
bool_at d i = is_bool (shape (get_or d.nodes i no_node))

-- a node where it is used: of a bound one only its sort is asked
unfoldable pub used_as : Dag → (ℕ → Bool) → (ℕ → Bool → ℕ) → ℕ → Bool → ℕ
used_as d bound below j wanted = cond (bound j) (unless (sort_ok wanted (bool_at d j)) 3) (below j wanted)

unfoldable pub let_step : Dag → List ℕ → (ℕ → Bool) → (ℕ → Bool → ℕ) → ℕ → Bool → ℕ
let_step d ws bound below i wanted = step_of_walk d ws (used_as d bound below) i wanted

abbrev pub let_walks_below : Dag → List ℕ → (ℕ → Bool) → ℕ → ℕ → Bool → ℕ
let_walks_below d ws bound n = upto (let_step d ws bound) (λ _. 1) n

unfoldable pub let_walk : Dag → List ℕ → (ℕ → Bool) → ℕ → Bool → ℕ
let_walk d ws bound i = let_step d ws bound (let_walks_below d ws bound i) i

-- a bound term is wanted with the sort that it has
unfoldable pub own_sort : Dag → ℕ → Operand
own_sort d i = record { node = i; bool = bool_at d i }

-- the bound terms in rising order, then the root, of which a Bool is wanted
unfoldable pub assertion_refusal : Dag → List ℕ → (ℕ → Bool) → ℕ → ℕ
assertion_refusal d ws bound root =
    walk_all (let_walk d ws bound) (map (own_sort d) (rising bound 0 (length d.nodes))) or_else used_as d bound (let_walk d ws bound) root true

unfoldable pub let_roots : Dag → List ℕ → List ℕ → List ℕ → ℕ
let_roots d ws us [] = 0
let_roots d ws us (r ∷ rs) = assertion_refusal d ws (binds d us r) r or_else let_roots d ws us rs

-- 11: no declared name is that of a shared node, reached or not
unfoldable pub names_clear : Dag → List ℕ → Bool
names_clear d us = every_from (λ i. not (shared d us i && in_list (let_name i) (name_table d ++ (aname_table d ++ fname_table d)))) 0 (length d.nodes)

unfoldable pub let_refusal_with : Dag → List ℕ → List ℕ → ℕ
let_refusal_with d ws roots = checks d ws (unless (names_clear d (uses_in d roots)) 11) (let_roots d ws (uses_in d roots) roots)

-- ---------------------------------------------------------------- the answer

unfoldable pub let_script : Query → List ℕ
let_script q =
    let ws : List ℕ = widths_of q in
    render_let (declarations_of q.dag ws) (assertions_of q.dag ws q.bits (uses_in q.dag q.roots) q.roots)

abbrev pub let_refusal : Dag → ℕ → List ℕ → ℕ
let_refusal d nbits roots = let_refusal_with d (ext_wf_of nbits d.array-widths d.side d.nodes) roots

unfoldable pub endless_let : Problem → ℕ
endless_let p = endless_with p (let_refusal (dag_of p) (length p.bits) p.roots)

unfoldable pub echo_let_answer : Problem → List ℕ → Answer
echo_let_answer p lent = text_answer (endless_let p) (let_script (query_of p)) lent
