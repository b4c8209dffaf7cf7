-- The tables that are looked up, and the marks as they are made.
use Rattle.std.specs.Prelude.{ℕ, zero, suc, ◌+◌, ◌≤◌, ◌<◌, ◌≡◌, refl, List, Bool, true, false, eqb, length, get_or, set, replicate, Option}
use Rattle.std.proofs.Common.{arith, below_more, eqb-true, get_or-set_same, get_or-set_other}
use Rattle.std.proofs.lemmas.Bool.{eqb-false}
use Rattle.echo_tables.specs.declared.TheConstants.{BLANK}
use Rattle.echo_spec.specs.Input.{Node, no_node, nodes_of, Dag}
use Rattle.echo_spec.specs.Widths.{ext_wf_of}
use Rattle.lent.specs.declared.Problem.{Problem as Lent}
use Rattle.lent.specs.Lent.{problem_at, dag_at}
use Rattle.echo_tables.specs.declared.Mark.{Mark}
use Rattle.echo_tables.specs.Found.{Entries, Calls}
use Rattle.echo_tables.specs.Marks.{mark_at, Marks}

-- ws are the widths of all nodes, each well formed after those before it
pub record Measured (p : Lent) (ws : List ℕ) : Type 0 where
  pub widths : ws ≡ ext_wf_of (length (problem_at p).bits) (dag_at p).array-widths (dag_at p).side (dag_at p).nodes
  pub counted : length ws ≡ length (dag_at p).nodes

-- the tables that are looked up were filled from the problem, which is within the limits
pub record Filled (p : Lent) (ws : List ℕ) (e f : List (Option ℕ)) : Type 0 where
  pub measured : Measured p ws
  pub nodes : length (problem_at p).nodes ≤ 34816
  pub functions : length (problem_at p).fname_start ≤ 512
  pub entries : Entries (problem_at p).var_node e
  pub calls : Calls (nodes_of (problem_at p).nodes) f

-- the first n nodes have their marks, those past them are blank, and no node has a name
pub record MarkedTo (d : Dag) (ws : List ℕ) (n : ℕ) (t : List Mark) : Type 0 where
  pub at : (i : ℕ) → i < n → Marks d ws i (mark_at t i)
  pub past : (i : ℕ) → n ≤ i → mark_at t i ≡ BLANK
  pub unnamed : (i : ℕ) → (mark_at t i).named ≡ false

abbrev pub Marked : Dag → List ℕ → List Mark → Type 0
Marked d ws t = MarkedTo d ws (length d.nodes) t

-- as it is filled up to node i, which is m
pub record Marking (p : Lent) (ws : List ℕ) (t : List Mark) (i : ℕ) (m : Node) : Type 0 where
  pub filled : MarkedTo (dag_at p) ws i t
  pub here : i < length (dag_at p).nodes
  pub node : m ≡ get_or (dag_at p).nodes i no_node

-- once it is filled
pub record Refusable (p : Lent) (ws : List ℕ) (t : List Mark) : Type 0 where
  pub measured : Measured p ws
  pub marked : Marked (dag_at p) ws t

-- ---------------------------------------------------------------- laws

-- one node more
pub marked_more : (d : Dag) {ws : List ℕ} (t : List Mark) (i : ℕ) {m : Mark} → MarkedTo d ws i t → i < length t → Marks d ws i m → m.named ≡ false → MarkedTo d ws (i + 1) (set t i m)
marked_more d {ws} t i {m} h l own none =
    record {
      at = below_more (λ k. Marks d ws k (mark_at (set t i m) k)) i
          (λ k b. rw (get_or-set_other t i k m BLANK (λ z. let y : k ≡ i = z in omega arith)) (h.at k b))
          (rw (get_or-set_same t i m BLANK l) own);
      past = λ k b. rw (get_or-set_other t i k m BLANK (λ z. let y : k ≡ i = z in omega arith)) (h.past k (omega arith));
      unnamed = λ k. by-test k (eqb k i) refl;
    }
  where
    by-test : (k : ℕ) (b : Bool) → eqb k i ≡ b → (mark_at (set t i m) k).named ≡ false
    by-test k true e = let z : k ≡ i = eqb-true k i e in rw (z, get_or-set_same t i m BLANK l) none
    by-test k false e = rw (get_or-set_other t i k m BLANK (eqb-false k i e)) (h.unnamed k)

-- before the first
pub marked_none : (d : Dag) (ws : List ℕ) {t : List Mark} (n : ℕ) → t ≡ replicate n BLANK → MarkedTo d ws 0 t
marked_none d ws n e = record { at = λ i h. absurd (omega arith); past = λ i h. rw e (blank n i); unnamed = λ i. rw (e, blank n i) refl }
  where
    blank : (n i : ℕ) → mark_at (replicate n BLANK) i ≡ BLANK
    blank zero i = refl
    blank (suc n) zero = refl
    blank (suc n) (suc i) = blank n i
