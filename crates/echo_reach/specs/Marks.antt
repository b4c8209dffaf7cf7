-- Marks of nodes in a table, from a root down: what the code does to the table, and that it ends with the bound nodes, those that are reached
-- and shared.
use Prim.Native.Nat.{ℕ, zero, suc, ◌+◌, ◌*◌, ◌≤◌, ◌<◌}
use Rattle.std.specs.Prelude.{◌≡◌, refl, List, [], ◌∷◌, ◌++◌, map, Bool, true, false, ◌&&◌, ◌||◌, ◌≢◌, T, cond, eqb, length, get_or, set, take, drop, replicate}
use Rattle.std.proofs.Math.Path.{sym, ap}
use Rattle.std.proofs.Common.{◌∙◌, arith, add-one, eqb-true, ne_eqb, le-ltb, length-set, get_or-set_same, get_or-set_other, take-suc, take_all}
use Rattle.std.proofs.Math.Bool.{or-false, or_assoc, and-false}
use Rattle.std.proofs.Math.Decide.{dec_lt}
use Rattle.std.proofs.Math.ListN.{get_or-eq_default}
use Rattle.std.proofs.lemmas.Bool.{eqb-false}
use Rattle.std.proofs.lemmas.List.{length-replicate, get_or-replicate}
use Rattle.lists.specs.Tests.{among, true→T}
use Rattle.echo_spec.specs.Input.{Node, shape, no_node, node_at, Dag, dag_of}
use Rattle.echo_spec.specs.Widths.{ext_wf_of}
use Rattle.echo_spec.proofs.NodeLaws.{facts}
use Rattle.echo_spec.specs.Walk.{Operand, vector, levels, operands_as}
use Rattle.lets.specs.Lets.{operands_of, reached_below, reached, shared, binds}
use Rattle.lets.specs.ReachedLaws.{low-among}
use Rattle.lent.specs.declared.Problem.{Problem}
use Rattle.lent.specs.Lent.{problem_at, dag_at}
use Rattle.lent.specs.Records.{nodes-length, nodes-at}
use Rattle.echo_tables.specs.declared.Form.{Form}
use Rattle.echo_tables.specs.declared.Form.TheVariants.{Chain}
use Rattle.echo_tables.specs.Forms.{form_as, form_operands, form-operands}
use Rattle.echo_tables.specs.Uses.{FormInside, node-inside}
use Rattle.echo_sharing.specs.Flags.{Flags}

-- the nodes that pass the test are marked, beside those that are
pub record Adds (p : ℕ → Bool) (t t' : List Bool) : Type 0 where
  pub size : length t' ≡ length t
  pub at : (j : ℕ) → j < length t → get_or t' j false ≡ (get_or t j false || p j)

-- the nodes of operands
abbrev pub nodes_in : List Operand → List ℕ
nodes_in os = map (λ (o : Operand). o.node) os

-- the nodes that both tables have
pub record Both (s t t' : List Bool) : Type 0 where
  pub at : (j : ℕ) → get_or t' j false ≡ (get_or s j false && get_or t j false)

-- of the first i nodes
pub record BothTo (s t : List Bool) (i : ℕ) (t' : List Bool) : Type 0 where
  pub size : length t' ≡ length t
  pub low : (j : ℕ) → j < i → get_or t' j false ≡ (get_or s j false && get_or t j false)
  pub high : (j : ℕ) → i ≤ j → get_or t' j false ≡ get_or t j false

-- every node is well formed, and there are no more than the limit
pub record Whole (p : Problem) : Type 0 where
  pub within : length (problem_at p).nodes ≤ 34816
  pub formed : length (ext_wf_of (length (problem_at p).bits) (dag_at p).array-widths (dag_at p).side (dag_at p).nodes) ≡ length (dag_at p).nodes

-- ---------------------------------------------------------------- tests

or-true : (b : Bool) → (b || true) ≡ true
or-true true = refl
or-true false = refl

or_swap : (a b : Bool) → (a || b) ≡ (b || a)
or_swap true true = refl
or_swap true false = refl
or_swap false true = refl
or_swap false false = refl

pub among-both : (xs ys : List ℕ) (j : ℕ) → among (xs ++ ys) j ≡ (among xs j || among ys j)
among-both [] ys j = refl
among-both (x ∷ xs) ys j = rw (among-both xs ys j) (sym (or_assoc (eqb j x) (among xs j) (among ys j)))

-- ---------------------------------------------------------------- marks that are added

pub adds_none : (t : List Bool) → Adds (among []) t t
adds_none t = record { size = refl; at = λ j l. sym (or-false (get_or t j false)) }

pub adds_one : (t : List Bool) (i : ℕ) → i < length t → Adds (among (i ∷ [])) t (set t i true)
adds_one t i l = record { size = length-set t i true; at = λ j m. by_place j (eqb j i) refl }
  where
    by_place : (j : ℕ) (b : Bool) → eqb j i ≡ b → get_or (set t i true) j false ≡ (get_or t j false || (eqb j i || false))
    by_place j true q = let z : j ≡ i = eqb-true j i q in rw (q, z) (get_or-set_same t i true false l ∙ sym (or-true (get_or t i false)))
    by_place j false q = let z : j ≢ i = eqb-false j i q in rw q (get_or-set_other t i j true false z ∙ sym (or-false (get_or t j false)))

pub adds-past : (t : List Bool) (i : ℕ) → length t ≤ i → Adds (among (i ∷ [])) t t
adds-past t i l = record { size = refl; at = λ j m. rw (ne_eqb j i (λ z. let y : j ≡ i = z in omega arith)) (sym (or-false (get_or t j false))) }

pub adds_then : {p q : ℕ → Bool} {t t' t'' : List Bool} → Adds p t t' → Adds q t' t'' → Adds (λ j. p j || q j) t t''
adds_then {p} {q} {t} a b = record {
  size = b.size ∙ a.size;
  at = λ j l. b.at j (omega (arith, a.size)) ∙ ap (λ (x : Bool). x || q j) (a.at j l) ∙ or_assoc (get_or t j false) (p j) (q j);
}

pub adds-as : (p q : ℕ → Bool) {t t' : List Bool} → Adds p t t' → ((j : ℕ) → p j ≡ q j) → Adds q t t'
adds-as p q {t} a h = record { size = a.size; at = λ j l. a.at j l ∙ ap (λ (x : Bool). get_or t j false || x) (h j) }

-- two lists, one after the other
pub adds-both : (xs ys : List ℕ) {t t' t'' : List Bool} → Adds (among xs) t t' → Adds (among ys) t' t'' → Adds (among (xs ++ ys)) t t''
adds-both xs ys a b = adds-as _ (among (xs ++ ys)) (adds_then a b) (λ j. sym (among-both xs ys j))

-- one element more of a list
pub adds-next : (xs : List ℕ) (k : ℕ) {t t' t'' : List Bool} → k < length xs → Adds (among (take k xs)) t t' → Adds (among (get_or xs k 0 ∷ [])) t' t'' → Adds (among (take (k + 1) xs)) t t''
adds-next xs k l a b = rw (add-one k, take-suc xs k 0 l) (adds-both (take k xs) (get_or xs k 0 ∷ []) a b)

pub adds-all : (xs : List ℕ) (k : ℕ) {t t' : List Bool} → length xs ≤ k → Adds (among (take k xs)) t t' → Adds (among xs) t t'
adds-all xs k l a = rw (take_all k xs l) at a

-- ---------------------------------------------------------------- forms

nodes-both : (os ps : List Operand) (j : ℕ) → among (nodes_in (os ++ ps)) j ≡ (among (nodes_in os) j || among (nodes_in ps) j)
nodes-both [] ps j = refl
nodes-both (o ∷ os) ps j = rw (nodes-both os ps j) (sym (or_assoc (eqb j o.node) (among (nodes_in os) j) (among (nodes_in ps) j)))

-- n pairs of entries, in whatever order
pairs-among : (n : ℕ) (side : List ℕ) (j : ℕ) → n + n ≤ length side → among (nodes_in (levels n side)) j ≡ among (take (n + n) side) j
unfolding levels
pairs-among zero side j l = refl
pairs-among (suc n) [] j l = absurd (omega arith)
pairs-among (suc n) (x ∷ []) j l = absurd (omega arith)
pairs-among (suc n) (x ∷ v ∷ side) j l =
    let e : suc n + suc n ≡ suc (suc (n + n)) = omega arith in
    nodes-both (levels n side) (vector x ∷ vector v ∷ []) j
    ∙ ap (λ (b : Bool). b || (eqb j x || (eqb j v || false))) (pairs-among n side j (omega arith))
    ∙ or_swap (among (take (n + n) side) j) (eqb j x || (eqb j v || false))
    ∙ three (eqb j x) (eqb j v) (among (take (n + n) side) j)
    ∙ ap (λ (m : ℕ). among (take m (x ∷ v ∷ side)) j) (sym e)
  where
    three : (a b c : Bool) → ((a || (b || false)) || c) ≡ (a || (b || c))
    three true b c = refl
    three false true c = refl
    three false false c = refl

-- the operands of a select
pub adds-chain : (side : List ℕ) (j s n : ℕ) {t t' t'' : List Bool} → FormInside side (Chain j s n) → Adds (among (j ∷ [])) t t'
    → Adds (among (take (2 * n) (drop s side))) t' t'' → Adds (among (nodes_in (form_operands side (Chain j s n)))) t t''
adds-chain side j s n l a b =
    let e : 2 * n ≡ n + n = omega arith in
    adds-as _ _ (adds_then a b) λ k.
    or_swap (among (j ∷ []) k) (among (take (2 * n) (drop s side)) k)
    ∙ ap (λ (m : ℕ). among (take m (drop s side)) k || among (j ∷ []) k) e
    ∙ ap (λ (x : Bool). x || among (j ∷ []) k) (sym (pairs-among n (drop s side) k l))
    ∙ sym (nodes-both (levels n (drop s side)) (vector j ∷ []) k)

-- of a call
pub vectors : (xs : List ℕ) → nodes_in (map vector xs) ≡ xs
vectors [] = refl
vectors (x ∷ xs) = ap (λ (ys : List ℕ). x ∷ ys) (vectors xs)

-- ---------------------------------------------------------------- a visit

-- the operands os of node i are marked where it is
module _ (os : List ℕ) (i : ℕ) {t : List Bool} where
  pub visited-free : get_or t i false ≡ false → Adds (λ j. get_or t i false && among os j) t t
  visited-free h = record { size = refl; at = λ j l. rw h (sym (or-false (get_or t j false))) }

  pub visited-marked : get_or t i false ≡ true → {t' : List Bool} → Adds (among os) t t' → Adds (λ j. get_or t i false && among os j) t t'
  visited-marked h a = record { size = a.size; at = λ j l. rw h (a.at j l) }

-- ---------------------------------------------------------------- nodes that are well formed

module _ {p : Problem} (w : Whole p) (i : ℕ) (l : i < length (dag_at p).nodes) where
  pub lower-operands : (j : ℕ) → T (among (operands_of (dag_at p) i) j) → j < i
  unfolding operands_of
  lower-operands j t =
      let d : Dag = dag_at p in
      let m : Node = get_or d.nodes i no_node in
      low-among i (operands_as d.side m (shape m)) (facts (length (problem_at p).bits) d.array-widths d.side d.nodes i (rw w.formed l)).low j t

  module _ {m : Node} (is : m ≡ get_or (dag_at p).nodes i no_node) {f : Form} (form : f ≡ form_as m (shape m)) where
    pub form-within : FormInside (dag_at p).side f
    form-within = rw (form, is) (node-inside (length (problem_at p).bits) (dag_at p).array-widths (dag_at p).side (dag_at p).nodes i (rw w.formed l))

    pub adds-operands : {t t' : List Bool} → Adds (among (nodes_in (form_operands (dag_at p).side f))) t t' → Adds (among (operands_of (dag_at p) i)) t t'
    unfolding operands_of
    adds-operands a =
        let d : Dag = dag_at p in
        let own : Node = get_or d.nodes i no_node in
        let e : nodes_in (form_operands d.side f) ≡ nodes_in (operands_as d.side own (shape own)) =
        ap (λ (g : Form). nodes_in (form_operands d.side g)) (form ∙ ap (λ (x : Node). form_as x (shape x)) is) ∙ ap nodes_in (form-operands d.side own (shape own)) in
        rw (← e) a

  -- record i is there
  pub record-within : 17 * i + 17 ≤ length (problem_at p).nodes
  unfolding dag_of
  record-within = omega (arith, nodes-length (problem_at p).nodes, l)

  pub record_is : {m : Node} → m ≡ node_at (problem_at p).nodes i → m ≡ get_or (dag_at p).nodes i no_node
  unfolding dag_of
  record_is e = e ∙ sym (nodes-at (problem_at p).nodes no_node i (omega (arith, nodes-length (problem_at p).nodes, l)))

pub few-nodes : {p : Problem} → Whole p → length (dag_at p).nodes ≤ 2048
unfolding dag_of
few-nodes {p} w = omega (arith, nodes-length (problem_at p).nodes, w.within)

-- ---------------------------------------------------------------- from the root down

-- The table with the marks of the nodes that are reached when node i comes.
pub record Reaching (d : Dag) (root i : ℕ) (t : List Bool) : Type 0 where
  pub size : length t ≡ 2048
  pub marks : List ℕ
  pub rest : reached_below d i marks ≡ reached d root
  pub at : (j : ℕ) → j < 2048 → get_or t j false ≡ among marks j

-- nodes above the root are not marked
skipped : (d : Dag) (root m : ℕ) → root < m → reached_below d m (root ∷ []) ≡ reached_below d (suc root) (root ∷ [])
unfolding reached_below
skipped d root zero l = absurd (omega arith)
skipped d root (suc m) l = by_place (eqb m root) refl (λ h. skipped d root m h)
  where
    by_place : (b : Bool) → eqb m root ≡ b → (root < m → reached_below d m (root ∷ []) ≡ reached_below d (suc root) (root ∷ []))
        → reached_below d (suc m) (root ∷ []) ≡ reached_below d (suc root) (root ∷ [])
    by_place true q rest = ap (λ (k : ℕ). reached_below d (suc k) (root ∷ [])) (eqb-true m root q)
    by_place false q rest = let y : m ≢ root = eqb-false m root q in rw q (rest (omega arith))

-- the root's mark alone, in a table that was cleared
pub reaching-root : (d : Dag) (root n : ℕ) {t t' : List Bool} → n ≡ 2048 → root < length d.nodes → t ≡ replicate n false → Adds (among (root ∷ [])) t t'
    → Reaching d root (root + 1) t'
unfolding reached
reaching-root d root n {t} e l z a =
    let s : length t ≡ 2048 = rw (z, length-replicate n false) e in
    record {
      size = a.size ∙ s;
      marks = root ∷ [];
      rest = rw add-one (sym (skipped d root (length d.nodes) l));
      at = λ j m. let o : get_or t j false ≡ false = rw z (get_or-replicate n j false false (omega arith)) in a.at j (omega arith) ∙ rw o refl;
    }

-- one node further down
pub reaching-down : (d : Dag) (root i : ℕ) {k : ℕ} {t t' : List Bool} → k ≡ i + 1 → i < 2048 → Reaching d root k t
    → Adds (λ j. get_or t i false && among (operands_of d i) j) t t' → Reaching d root i t'
unfolding reached_below
reaching-down d root i {k} {t} e l h a = record {
  size = a.size ∙ h.size;
  marks = cond (among h.marks i) (h.marks ++ operands_of d i) h.marks;
  rest = rw (e, add-one) at h.rest;
  at = λ j m.
      a.at j (omega (arith, h.size))
      ∙ ap (λ (b : Bool). get_or t j false || (b && among (operands_of d i) j)) (h.at i l)
      ∙ ap (λ (b : Bool). b || (among h.marks i && among (operands_of d i) j)) (h.at j m)
      ∙ by-mark (among h.marks i) j;
}
  where
    by-mark : (b : Bool) (j : ℕ) → (among h.marks j || (b && among (operands_of d i) j)) ≡ among (cond b (h.marks ++ operands_of d i) h.marks) j
    by-mark true j = sym (among-both h.marks (operands_of d i) j)
    by-mark false j = or-false (among h.marks j)

-- ---------------------------------------------------------------- above the root

-- No node above the root is marked.
pub record NoneAbove (root : ℕ) (t : List Bool) : Type 0 where
  pub above : (j : ℕ) → root < j → get_or t j false ≡ false

pub above-root : (root n : ℕ) {t t' : List Bool} → t ≡ replicate n false → Adds (among (root ∷ [])) t t' → NoneAbove root t'
above-root root n {t} {t'} z a = record { above = λ j m. by_place j m (dec_lt j (length t)) }
  where
    by_place : (j : ℕ) → root < j → Dec (j < length t) → get_or t' j false ≡ false
    by_place j m (yes l) =
        let s : length t ≡ n = rw (z, length-replicate n false) refl in
        let o : get_or t j false ≡ false = rw z (get_or-replicate n j false false (omega arith)) in
        a.at j l ∙ rw (o, ne_eqb j root (λ z. let y : j ≡ root = z in omega arith)) refl
    by_place j m (no l) = get_or-eq_default t' false (omega (arith, a.size))

-- operands are below their node
pub above-down : (os : List ℕ) (root i : ℕ) {t t' : List Bool} → i ≤ root → ((j : ℕ) → T (among os j) → j < i) → NoneAbove root t
    → Adds (λ j. get_or t i false && among os j) t t' → NoneAbove root t'
above-down os root i {t} {t'} r lower h a = record { above = λ j m. by_place j m (dec_lt j (length t)) }
  where
    by-operand : (j : ℕ) → root < j → (b : Bool) → among os j ≡ b → (get_or t i false && b) ≡ false
    by-operand j m true q = let k = lower j (true→T q) in absurd (omega arith)
    by-operand j m false q = and-false (get_or t i false)

    by_place : (j : ℕ) → root < j → Dec (j < length t) → get_or t' j false ≡ false
    by_place j m (yes k) = a.at j k ∙ rw (h.above j m) (by-operand j m (among os j) refl)
    by_place j m (no k) = get_or-eq_default t' false (omega (arith, a.size))

-- ---------------------------------------------------------------- the marks of shared nodes

pub both-none : (s t : List Bool) → BothTo s t 0 t
both-none s t = record { size = refl; low = λ j l. absurd (omega arith); high = λ j l. refl }

module _ {s t t' : List Bool} {i : ℕ} (h : BothTo s t i t') where
  pub both-more : i < length t' → {v : Bool} → v ≡ (get_or s i false && get_or t' i false) → BothTo s t (i + 1) (set t' i v)
  both-more l {v} e = record {
    size = length-set t' i v ∙ h.size;
    low = λ j k. by_place j k (eqb j i) refl;
    high = λ j k. get_or-set_other t' i j v false (λ z. let y : j ≡ i = z in omega arith) ∙ h.high j (omega arith);
  }
    where
      by_place : (j : ℕ) → j < i + 1 → (b : Bool) → eqb j i ≡ b → get_or (set t' i v) j false ≡ (get_or s j false && get_or t j false)
      by_place j k true q =
          let y : j ≡ i = eqb-true j i q in
          rw y (get_or-set_same t' i v false l ∙ e ∙ ap (λ (x : Bool). get_or s i false && x) (h.high i (omega arith)))
      by_place j k false q = let y : j ≢ i = eqb-false j i q in get_or-set_other t' i j v false y ∙ h.low j (omega arith)

  -- where the others have no mark
  pub both-all : ((j : ℕ) → i ≤ j → get_or t j false ≡ false) → Both s t t'
  both-all l = record { at = λ j. by_place j (dec_lt j i) }
    where
      by_place : (j : ℕ) → Dec (j < i) → get_or t' j false ≡ (get_or s j false && get_or t j false)
      by_place j (yes k) = h.low j k
      by_place j (no k) =
          let z = l j (omega arith) in
          h.high j (omega arith) ∙ rw z (sym (and-false (get_or s j false)))

-- at the end the table has the bound nodes
pub reaching-ends : {p : Problem} → Whole p → (us : List ℕ) (root i : ℕ) {s t t' : List Bool} → Flags (shared (dag_at p) us) s → Reaching (dag_at p) root i t → i ≤ 0
    → Both s t t' → Flags (binds (dag_at p) us root) t'
unfolding binds reached_below shared
reaching-ends w us root (suc i) f h z b = absurd (omega arith)
reaching-ends {p} w us root zero {s} {t} {t'} f h z b = record { at = λ j. b.at j ∙ ap (λ (x : Bool). x && get_or t j false) (f.at j) ∙ by_place j (dec_lt j (length (dag_at p).nodes)) }
  where
    by_place : (j : ℕ) → Dec (j < length (dag_at p).nodes) → (shared (dag_at p) us j && get_or t j false) ≡ (shared (dag_at p) us j && among (reached (dag_at p) root) j)
    by_place j (yes m) = ap (λ (x : Bool). shared (dag_at p) us j && x) (h.at j (omega (arith, few-nodes w)) ∙ ap (λ (ms : List ℕ). among ms j) h.rest)
    by_place j (no m) = let k : length (dag_at p).nodes ≤ j = omega arith in rw (le-ltb j (length (dag_at p).nodes) k) refl
