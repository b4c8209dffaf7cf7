-- A row's mask is that of the assertions' trees, with each declared variable as the row has it.
use Rattle.std.specs.Prelude.{ℕ, zero, suc, ◌≤◌, ◌<◌, ◌≡◌, refl, List, [], ◌∷◌, map, Bool, false, not, eqb, ltb, leb, None}
use Rattle.std.specs.Prelude.{Option as Found}
use Rattle.std.specs.Option.{is_some, unwrap_or}
use Rattle.std.proofs.Math.Path.{ap, subst}
use Rattle.std.proofs.Common.{sym, ◌∙◌, arith, T_not}
use Rattle.std.proofs.Math.Option.{Option, none, some}
use Rattle.std.proofs.Math.Dec.{T, eqb→eq, ltb→lt}
use Rattle.std.proofs.Math.ListN.{length, get_or}
use Rattle.lists.specs.Tests.{same, in_list, distinct, same→eq, same_refl, and_0, and-1, T→true, no→false, or_l, or_r}
use Rattle.lists.specs.Build.{tabulate, length-tabulate, get_or-tabulate}
use Rattle.reading.specs.Trees.{Name, Tree, Variable}
use Rattle.echo_spec.specs.Shapes.{var}
use Rattle.echo_spec.specs.Input.{Node, shape, no_node, nodes_of, Dag, name_table}
use Rattle.echo_spec.specs.Widths.{width_at}
use Rattle.echo_spec.specs.Tables.{find_node, variables_of}
use Rattle.echo_spec.specs.Trees.{variable_name, trees_over, tree_of}
use Rattle.echo_tables.specs.Found.{found_of}
use Rattle.vectors.specs.Values.{Value, vector, value_of, environment, holds, mask}
use Rattle.values.specs.NodeValues.{value_at, tree-value}
use Rattle.trace_tables.specs.Fixed.{place_in}
use Rattle.trace_terms.specs.Ready.{variable_ready, own_as, ready, ready_step, Agree}
use Rattle.trace_rows.specs.Masks.{Masked}
use Rattle.traces.specs.Trace.{holding_all}
use Rattle.trace_theorems.specs.Bridge.{Given}

-- ---------------------------------------------------------------- the environment

abbrev no-variable : Variable
no-variable = record { name = []; width = 0 }

abbrev pub name_of : Variable → Name
name_of v = v.name

name_in : (vs : List Variable) (k : ℕ) → k < length vs → T (in_list (get_or vs k no-variable).name (map name_of vs))
name_in [] k h = absurd (omega arith)
name_in (v ∷ vs) zero h = or_l (same v.name v.name) (in_list v.name (map name_of vs)) (same_refl v.name)
name_in (v ∷ vs) (suc k) h =
    or_r (same (get_or vs k no-variable).name v.name) (in_list (get_or vs k no-variable).name (map name_of vs)) (name_in vs k (omega arith))

-- of variables with distinct names, the row's value of the k-th is found by its name
pub environment-at : (vs : List Variable) (row : List ℕ) (k : ℕ) → T (distinct (map name_of vs)) → k < length vs → k < length row
    → environment vs row (get_or vs k no-variable).name ≡ vector (get_or vs k no-variable).width (get_or row k 0)
unfolding environment
environment-at [] row k t h l = absurd (omega arith)
environment-at (v ∷ vs) [] k t h l = absurd (omega arith)
environment-at (v ∷ vs) (x ∷ row) zero t h l = rw (T→true (same v.name v.name) (same_refl v.name)) refl
environment-at (v ∷ vs) (x ∷ row) (suc k) t h l =
    let i : T (in_list (get_or vs k no-variable).name (map name_of vs)) = name_in vs k (omega arith) in
    let apart : same (get_or vs k no-variable).name v.name ≡ false =
    no→false (same (get_or vs k no-variable).name v.name)
    (λ s. T_not (in_list v.name (map name_of vs)) (and_0 (not (in_list v.name (map name_of vs))) _ t)
    (subst (λ (m : Name). T (in_list m (map name_of vs))) (same→eq (get_or vs k no-variable).name v.name s) i)) in
    rw apart (environment-at vs row k (and-1 (not (in_list v.name (map name_of vs))) _ t) (omega arith) (omega arith))

pub holding-map : (env : Name → Value) (f : ℕ → Tree) (is : List ℕ) → holding_all env (trees_over f is) ≡ map (λ i. holds (value_of env (f i))) is
unfolding holding_all trees_over
holding-map env f [] = refl
holding-map env f (i ∷ is) = ap (λ (bs : List Bool). holds (value_of env (f i)) ∷ bs) (holding-map env f is)

-- what a search found, from what the table has
found_place : (o : Option ℕ) (x : Found ℕ) → x ≡ found_of o → T (is_some x) → o ≡ some (unwrap_or x 0)
found_place none x e t = absurd (subst (λ (y : Found ℕ). T (is_some y)) e t)
found_place (some k) x e t = rw e refl

-- ---------------------------------------------------------------- the variables of a dag

-- the names are distinct, and as many as the widths and the row's values
pub record Named (d : Dag) (ws row : List ℕ) : Type 0 where
  pub apart : T (distinct (map name_of (variables_of d)))
  pub names : length (name_table d) ≡ length row

module _ (d : Dag) (ws : List ℕ) (entry : List (Found ℕ)) (row : List ℕ) (g : Given d ws entry row) (m : Named d ws row) where
  at_place : (k : ℕ) → k < length row → environment (variables_of d) row (get_or (name_table d) k []) ≡ vector (get_or d.var_width k 0) (get_or row k 0)
  at_place k h =
      let f : ℕ → Variable = λ j. record { name = get_or (name_table d) j []; width = get_or d.var_width j 0 } in
      let vs : List Variable = tabulate (length (name_table d)) f in
      let n : length (name_table d) ≡ length row = m.names in
      let l : k < length (name_table d) = omega arith in
      let e : get_or vs k no-variable ≡ f k = get_or-tabulate (length (name_table d)) f no-variable k l in
      let len : length vs ≡ length (name_table d) = length-tabulate (length (name_table d)) f in
      let q : environment vs row (get_or vs k no-variable).name ≡ vector (get_or vs k no-variable).width (get_or row k 0) =
      environment-at vs row k m.apart (omega (arith, len)) h in
      subst (λ (v : Variable). environment vs row v.name ≡ vector v.width (get_or row k 0)) e q

  -- a variable that can be evaluated has its value from the row
  pub agrees : {nodes : List ℕ} → d.nodes ≡ nodes_of nodes → Agree nodes ws d.var_width entry row (λ i. environment (variables_of d) row (variable_name d i))
  unfolding ready ready_step own_as variable_ready variable_name
  agrees {nodes} ns = record { at = λ i t s. known i t s }
    where
      known : (i : ℕ) → T (ready (nodes_of nodes) ws d.var_width entry row i) → shape (get_or (nodes_of nodes) i no_node) ≡ var
          → environment (variables_of d) row (variable_name d i) ≡ vector (width_at ws i) (get_or row (place_in entry i) 0)
      known i t s =
          let n : Node = get_or (nodes_of nodes) i no_node in
          let inside : i < length (nodes_of nodes) = ltb→lt i (length (nodes_of nodes)) (and_0 (ltb i (length (nodes_of nodes))) _ t) in
          let t₁ = and-1 (leb (width_at ws i) 64) _ (and-1 (ltb i (length (nodes_of nodes))) _ t) in
          let o : T (own_as (nodes_of nodes) ws d.var_width entry row i n (shape n)) = and_0 (own_as (nodes_of nodes) ws d.var_width entry row i n (shape n)) _ t₁ in
          let o₀ : T (own_as (nodes_of nodes) ws d.var_width entry row i n var) = subst (λ x. T (own_as (nodes_of nodes) ws d.var_width entry row i n x)) s o in
          let w : get_or d.var_width (place_in entry i) 0 ≡ width_at ws i = eqb→eq (get_or d.var_width (place_in entry i) 0) (width_at ws i) (and_0 (eqb (get_or d.var_width (place_in entry i) 0) (width_at ws i)) _ o₀) in
          let o₁ = and-1 (eqb (get_or d.var_width (place_in entry i) 0) (width_at ws i)) _ o₀ in
          let p : T (is_some (get_or entry i None)) = and_0 (is_some (get_or entry i None)) _ o₁ in
          let r : place_in entry i < length row = ltb→lt (place_in entry i) (length row) (and_0 (ltb (place_in entry i) (length row)) _ (and-1 (is_some (get_or entry i None)) _ o₁)) in
          let few : length d.nodes ≤ 2048 = g.few in
          let len : length d.nodes ≡ length (nodes_of nodes) = ap length ns in
          let en : get_or entry i None ≡ found_of (find_node d.var_node i) = g.entries.at i (omega arith) in
          let f : find_node d.var_node i ≡ some (place_in entry i) = found_place (find_node d.var_node i) (get_or entry i None) en p in
          let place = at_place (place_in entry i) r in
          rw (f, variable_name) (place ∙ ap (λ (x : ℕ). vector x (get_or row (place_in entry i) 0)) w)

  -- the mask that was worked out is that of the trees
  pub mask-of-trees : {nodes bits roots : List ℕ} {x : ℕ} → d.nodes ≡ nodes_of nodes → Masked nodes bits ws d.var_width entry row roots x
      → x ≡ mask (holding_all (environment (variables_of d) row) (trees_over (tree_of d ws bits) roots))
  mask-of-trees {nodes} {bits} {roots} {x} ns k =
      let env : Name → Value = environment (variables_of d) row in
      let vars : ℕ → Value = λ i. env (variable_name d i) in
      k.value vars (agrees ns)
      ∙ ap (λ (f : ℕ → Bool). mask (map f roots))
      (λ z i. holds ((ap (λ ms. value_at ms ws bits vars i) (sym ns) ∙ sym (tree-value d ws bits env vars (λ j. refl) i)) z))
      ∙ ap mask (sym (holding-map env (tree_of d ws bits) roots))
