-- What `reached` computes: the nodes that a root reaches by operands, no more and no fewer, where every operand is a lower node.
use Prim.Native.Nat.{ℕ, zero, suc, ◌≤◌, ◌<◌}
use Rattle.std.specs.Prelude.{◌≡◌, Bool, cond, ◌↔◌, ◌≢◌, eqb, length, get_or}
use Rattle.std.proofs.Math.Path.{refl}
use Rattle.std.proofs.Common.{sym, subst, arith, eqb→eq, ltb→lt}
use mathlib.Core.List.{List, [], ◌∷◌, ◌++◌, map}
use Rattle.std.proofs.Math.Bool.{true, false}
use Rattle.std.proofs.Math.Dec.{T, eqb_refl}
use Rattle.lists.specs.Tests.{among, among-left, among-right, among-append, or_l, or_elim, true→T}
use Rattle.echo_spec.specs.Input.{Node, shape, no_node, Dag}
use Rattle.echo_spec.specs.Widths.{ext_wf_of}
use Rattle.echo_spec.specs.Walk.{Operand, operands_as}
use Rattle.echo_spec.specs.NodeLaws.{Low}
use Rattle.echo_spec.proofs.NodeLaws.{facts}
use Rattle.lets.specs.Lets.{operands_of, reached_below, reached}

-- the root itself, and the operands of what it reaches
pub data Reaches (d : Dag) (root : ℕ) : ℕ → Type 0 where
  itself : (j : ℕ) → j ≡ root → Reaches d root j
  onward : (i j : ℕ) → Reaches d root i → i < length d.nodes → T (among (operands_of d i) j) → Reaches d root j

-- ---------------------------------------------------------------- marks

module _ (d : Dag) (lower : (i : ℕ) → i < length d.nodes → (j : ℕ) → T (among (operands_of d i) j) → j < i) where
  -- what the marks have, the marking keeps to
  only : (P : ℕ → Type 0) → ((i j : ℕ) → P i → i < length d.nodes → T (among (operands_of d i) j) → P j) → (n : ℕ) (marks : List ℕ) → n ≤ length d.nodes
      → ((j : ℕ) → T (among marks j) → P j) → (j : ℕ) → T (among (reached_below d n marks) j) → P j
  unfolding reached_below
  only P closed zero marks l h j t = h j t
  only P closed (suc i) marks l h j t =
      by-mark (among marks i) refl t (λ ms k u. only P closed i ms (omega arith) k j u)
    where
      by-mark : (b : Bool) → among marks i ≡ b → T (among (reached_below d i (cond b (marks ++ operands_of d i) marks)) j)
          → ((ms : List ℕ) → ((k : ℕ) → T (among ms k) → P k) → T (among (reached_below d i ms) j) → P j) → P j
      by-mark true e t rest =
          rest (marks ++ operands_of d i) (λ k u. among-append marks (operands_of d i) k u (h k) (λ v. closed i k (h i (true→T e)) (omega arith) v)) t
      by-mark false e t rest = rest marks h t

  -- marks stay
  stay : (n : ℕ) (marks : List ℕ) (j : ℕ) → T (among marks j) → T (among (reached_below d n marks) j)
  unfolding reached_below
  stay zero marks j t = t
  stay (suc i) marks j t = by-mark (among marks i) (λ ms u. stay i ms j u)
    where
      by-mark : (b : Bool) → ((ms : List ℕ) → T (among ms j) → T (among (reached_below d i ms) j)) → T (among (reached_below d i (cond b (marks ++ operands_of d i) marks)) j)
      by-mark true rest = rest (marks ++ operands_of d i) (among-left marks (operands_of d i) j t)
      by-mark false rest = rest marks t

  -- from n on, the operands of every mark are marked
  abbrev Closed : ℕ → List ℕ → Type 0
  Closed n marks = (i j : ℕ) → n ≤ i → i < length d.nodes → T (among marks i) → T (among (operands_of d i) j) → T (among marks j)

  closed_all : (n : ℕ) (marks : List ℕ) → n ≤ length d.nodes → Closed n marks → Closed 0 (reached_below d n marks)
  unfolding reached_below
  closed_all zero marks l h = h
  closed_all (suc i) marks l h = by-mark (among marks i) refl (λ ms k. closed_all i ms (omega arith) k)
    where
      -- a mark from i on is an old one
      old : (k : ℕ) → i ≤ k → T (among (marks ++ operands_of d i) k) → T (among marks k)
      old k m u =
          among-append marks (operands_of d i) k u (λ q. q)
          (λ q. absurd (let z : k < i = lower i (omega arith) k q in omega arith))

      by-mark : (b : Bool) → among marks i ≡ b → ((ms : List ℕ) → Closed i ms → Closed 0 (reached_below d i ms))
          → Closed 0 (reached_below d i (cond b (marks ++ operands_of d i) marks))
      by-mark true e rest =
          rest (marks ++ operands_of d i) λ k j m n t o. by_place k j m n (old k m t) o (eqb k i) refl
        where
          by_place : (k j : ℕ) → i ≤ k → k < length d.nodes → T (among marks k) → T (among (operands_of d k) j) → (b : Bool) → eqb k i ≡ b
              → T (among (marks ++ operands_of d i) j)
          by_place k j m n t o true q =
              among-right marks (operands_of d i) j (subst (λ (x : ℕ). T (among (operands_of d x) j)) (eqb→eq k i (true→T q)) o)
          by_place k j m n t o false q =
              let far : k ≢ i = λ z. subst T q (subst (λ (x : ℕ). T (eqb k x)) z (eqb_refl k)) in
              among-left marks (operands_of d i) j (h k j (omega arith) n t o)
      by-mark false e rest = rest marks λ k j m n t o. by_place k j m n t o (eqb k i) refl
        where
          by_place : (k j : ℕ) → i ≤ k → k < length d.nodes → T (among marks k) → T (among (operands_of d k) j) → (b : Bool) → eqb k i ≡ b → T (among marks j)
          by_place k j m n t o true q = absurd (subst T e (subst (λ (x : ℕ). T (among marks x)) (eqb→eq k i (true→T q)) t))
          by_place k j m n t o false q =
              let far : k ≢ i = λ z. subst T q (subst (λ (x : ℕ). T (eqb k x)) z (eqb_refl k)) in
              h k j (omega arith) n t o

  reached-only : (root j : ℕ) → T (among (reached d root) j) → Reaches d root j
  unfolding reached
  reached-only root j t =
      only (Reaches d root) (λ i k r l o. onward i k r l o) (length d.nodes) (root ∷ []) (omega arith)
      (λ k u. itself k (or_elim (eqb k root) false u (eqb→eq k root) (λ z. absurd z))) j t

  reached-all : (root j : ℕ) → Reaches d root j → T (among (reached d root) j)
  unfolding reached
  reached-all root _ (itself j e) = stay (length d.nodes) (root ∷ []) j (or_l (eqb j root) false (subst (λ (x : ℕ). T (eqb j x)) e (eqb_refl j)))
  reached-all root _ (onward i j r l o) =
      closed_all (length d.nodes) (root ∷ []) (omega arith) (λ i j m n t o. absurd (omega arith)) i j (omega arith) l (reached-all root i r) o

  pub reached-exactly : (root j : ℕ) → T (among (reached d root) j) ↔ Reaches d root j
  reached-exactly root j = (reached-only root j, reached-all root j)

-- ---------------------------------------------------------------- the operands of a well-formed node are lower

pub low-among : (i : ℕ) (os : List Operand) → Low i os → (j : ℕ) → T (among (map (λ o. o.node) os) j) → j < i
low-among i [] h j t = absurd t
low-among i (o ∷ os) h j t =
    or_elim (eqb j o.node) (among (map (λ o. o.node) os) j) t
    (λ e. subst (λ (x : ℕ). x < i) (sym (eqb→eq j o.node e)) (ltb→lt o.node i h.0)) (low-among i os h.1 j)

-- in a query whose nodes are all well formed, `reached` is what the root reaches
pub reached-is : (d : Dag) (nbits : ℕ) → length (ext_wf_of nbits d.array-widths d.side d.nodes) ≡ length d.nodes → (root j : ℕ)
    → T (among (reached d root) j) ↔ Reaches d root j
unfolding operands_of
reached-is d nbits e root j =
    reached-exactly d
    (λ i l k t.
    let n : Node = get_or d.nodes i no_node in
    low-among i (operands_as d.side n (shape n)) (facts nbits d.array-widths d.side d.nodes i (rw e l)).low k t)
    root j
