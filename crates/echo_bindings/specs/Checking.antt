-- What is asked of the bound nodes, by the marks that were made.
use Rattle.std.specs.Prelude.{ℕ, zero, suc, ◌+◌, ◌≤◌, ◌<◌, ◌≡◌, refl, List, [], ◌∷◌, Bool, true, false, cond, length, get_or, take, drop, Result, Ok, Err}
use Rattle.std.specs.Result.{is_ok}
use Rattle.std.proofs.Common.{sym, ◌∙◌, arith, add-one, le-ltb, drop_of_length-le, drop-cons}
use Rattle.std.proofs.Math.Decide.{dec_lt}
use Rattle.std.proofs.Math.ListN.{get_or-eq_default}
use Rattle.std.proofs.lemmas.List.{get_or-take, length-take, nil_from_length}
use Rattle.echo_spec.specs.Refusals.{◌or_else◌}
use Rattle.echo_spec.specs.Input.{Dag}
use Rattle.echo_spec.specs.Walk.{walk_all, walk, walk_roots}
use Rattle.lets.specs.Lets.{uses_in, shared, binds, assertion_refusal, let_roots}
use Rattle.refusals.specs.declared.EchoError.{EchoError}
use Rattle.refusals.specs.Numbers.{refused}
use Rattle.lent.specs.declared.Problem.{Problem as Lent}
use Rattle.lent.specs.Lent.{problem_at, dag_at}
use Rattle.echo_tables.specs.declared.Mark.{Mark}
use Rattle.echo_tables.specs.Marks.{mark_at}
use Rattle.echo_tables.specs.Refused.{refused_at}
use Rattle.echo_tables.specs.Filling.{Measured, Marked}
use Rattle.echo_tables.specs.Uses.{stops, goes_on}
use Rattle.echo_sharing.specs.Flags.{Flags}
use Rattle.echo_reach.specs.Marks.{Whole, few-nodes}
use Rattle.echo_bindings.specs.LetRefused.{first_from, of_bound, root_is, roots-free, none-bound}

-- all uses of the problem that is lent
abbrev pub uses_at : Lent → List ℕ
uses_at p = uses_in (dag_at p) (problem_at p).roots

-- what a table of flags says of each node
abbrev pub flagged : List Bool → ℕ → Bool
flagged t i = get_or t i false

-- these are the widths of the nodes, and these the flags of the shared ones
pub record Sharing (p : Lent) (ws : List ℕ) (s : List Bool) : Type 0 where
  pub whole : Whole p
  pub measured : Measured p ws
  pub flags : Flags (shared (dag_at p) (uses_at p)) s

-- by its mark: what a bound node is refused with, or 0
abbrev pub bound_refusal : List Mark → (ℕ → Bool) → ℕ → ℕ
bound_refusal t bound i = cond (bound i) (refused (mark_at t i).told) 0

-- ---------------------------------------------------------------- one after the other

-- by the marks and the flags of the nodes that are left
abbrev pub left_told : List Mark → List Bool → ℕ
left_told ms bs = first_from (bound_refusal ms (flagged bs)) 0 (length bs)

first-further : (f g : ℕ → ℕ) → ((i : ℕ) → f (suc i) ≡ g i) → (a n : ℕ) → first_from f (suc a) n ≡ first_from g a n
unfolding first_from
first-further f g h a zero = refl
first-further f g h a (suc n) = λ k. h a k or_else first-further f g h (suc a) n k

-- node 0 is told of before the others
module _ {ms ns : List Mark} {bs cs : List Bool} {m : Mark} {b : Bool} (p : ms ≡ m ∷ ns) (q : bs ≡ b ∷ cs) {whole : ℕ} (e : left_told ms bs ≡ whole) where
  left-opens : (cond b (refused m.told) 0 or_else left_told ns cs) ≡ whole
  unfolding first_from
  left-opens =
      sym (λ k. cond b (refused m.told) 0 or_else first-further (bound_refusal (m ∷ ns) (flagged (b ∷ cs))) (bound_refusal ns (flagged cs)) (λ i. refl) 0 (length cs) k)
      ∙ sym (λ k. left_told (p k) (q k)) ∙ e

  pub left-stops : b ≡ true → 0 < refused m.told → refused m.told ≡ whole
  left-stops t = stops (cond b (refused m.told) 0) (left_told ns cs) left-opens (rw t refl)

  pub left-passes : b ≡ true → refused m.told ≤ 0 → left_told ns cs ≡ whole
  left-passes t = goes_on (cond b (refused m.told) 0) (left_told ns cs) {r = refused m.told} left-opens (rw t refl)

  pub left-free : b ≡ false → left_told ns cs ≡ whole
  left-free t = goes_on (cond b (refused m.told) 0) (left_told ns cs) {r = 0} left-opens (rw t refl) (omega arith)

-- no flags are left, or no marks
pub flags-spent : (ms : List Mark) (bs : List Bool) {whole : ℕ} → length bs ≡ 0 → left_told ms bs ≡ whole → 0 ≡ whole
unfolding first_from
flags-spent ms bs z e = let n = nil_from_length bs z in sym (λ k. left_told ms (n k)) ∙ e

unmarked : (b : Bool) (i n : ℕ) → n ≡ 0 → (cond b (refused (mark_at [] i).told) 0 or_else n) ≡ 0
unmarked true i n z = z
unmarked false i n z = z

first-unmarked : (bs : List Bool) (a n : ℕ) → first_from (bound_refusal [] (flagged bs)) a n ≡ 0
unfolding first_from
first-unmarked bs a zero = refl
first-unmarked bs a (suc n) = unmarked (flagged bs a) a (first_from (bound_refusal [] (flagged bs)) (suc a) n) (first-unmarked bs (suc a) n)

pub marks-spent : (ms : List Mark) (bs : List Bool) {whole : ℕ} → length ms ≡ 0 → left_told ms bs ≡ whole → 0 ≡ whole
marks-spent ms bs z e = let n = nil_from_length ms z in sym (first-unmarked bs 0 (length bs)) ∙ sym (λ k. left_told (n k) bs) ∙ e

first-same : (f g : ℕ → ℕ) (a m : ℕ) → ((i : ℕ) → i < a + m → f i ≡ g i) → first_from f a m ≡ first_from g a m
unfolding first_from
first-same f g a zero h = refl
first-same f g a (suc m) h = λ k. h a (omega arith) k or_else first-same f g (suc a) m (λ i l. h i (omega arith)) k

-- ---------------------------------------------------------------- the marks say it

module _ {p : Lent} {ws : List ℕ} {s : List Bool} (h : Sharing p ws s) where
  abbrev d : Dag
  d = dag_at p

  pub few-widths : length ws ≤ 2048
  few-widths = omega (arith, h.measured.counted, few-nodes h.whole)

  -- the flags of the first nodes, as many as there are, say which are bound
  pub flags-front : (root n : ℕ) {t u : List Bool} → n ≡ length ws → Flags (binds d (uses_at p) root) t → u ≡ take n t → flagged u ≡ binds d (uses_at p) root
  unfolding binds shared
  flags-front root n {t} {u} e f q = λ k j. by_place j (dec_lt j n) k
    where
      by_place : (j : ℕ) → Dec (j < n) → flagged u j ≡ binds d (uses_at p) root j
      by_place j (yes l) = rw (q, get_or-take n t j false l) (f.at j)
      by_place j (no l) =
          let m : length d.nodes ≤ j = omega (arith, h.measured.counted) in
          rw (q, get_or-eq_default (take n t) false {n = j} (omega (arith, length-take n t)), le-ltb j (length d.nodes) m) refl

  -- by the marks, and the flags of the bound nodes
  pub by-marks : {t : List Mark} → Marked d ws t → (bound : ℕ → Bool) {b : ℕ → Bool} {n : ℕ} → b ≡ bound → n ≡ length ws
      → first_from (bound_refusal t b) 0 n ≡ first_from (of_bound bound (refused_at d ws)) 0 (length d.nodes)
  by-marks {t} m bound {b} {n} e q =
      let z : n ≡ length d.nodes = omega (arith, h.measured.counted) in
      rw (z, e) (first-same (bound_refusal t bound) (of_bound bound (refused_at d ws)) 0 (length d.nodes) (λ i l. λ k. cond (bound i) ((m.at i (omega arith)).refused k) 0))

  one-root : (root : ℕ) → walk_roots d ws (root ∷ []) ≡ walk d ws root true
  unfolding walk_roots walk_all
  one-root root = none-else (walk d ws root true)
    where
      none-else : (m : ℕ) → (m or_else 0) ≡ m
      none-else zero = refl
      none-else (suc m) = refl

  -- where every root's whole term passes
  pub whole-pass : (roots : List ℕ) (o : Result (Unit {0}) EchoError) → is_ok o ≡ true → refused o ≡ walk_roots d ws roots → 0 ≡ let_roots d ws (uses_at p) roots
  whole-pass roots (Ok x) q e = sym (roots-free d ws (length (problem_at p).bits) h.measured.widths h.measured.counted (uses_at p) roots (sym e))
  whole-pass roots (Err x) q e = cc

  -- a root that is no node
  pub past-nodes : (root : ℕ) → length ws ≤ root → 0 ≡ first_from (of_bound (binds d (uses_at p) root) (refused_at d ws)) 0 (length d.nodes)
  past-nodes root l = sym (none-bound d ws (length (problem_at p).bits) h.measured.widths h.measured.counted (uses_at p) root (omega (arith, h.measured.counted)))

  -- a root's assertion, by its bound nodes and then the root
  module _ (root : ℕ) {r : ℕ} (is : r ≡ first_from (of_bound (binds d (uses_at p) root) (refused_at d ws)) 0 (length d.nodes)) where
    opens : (first_from (of_bound (binds d (uses_at p) root) (refused_at d ws)) 0 (length d.nodes) or_else walk d ws root true) ≡ assertion_refusal d ws (binds d (uses_at p) root) root
    opens = sym (root_is d ws (length (problem_at p).bits) h.measured.widths h.measured.counted (uses_at p) root)

    pub assertion-stops : 0 < r → r ≡ assertion_refusal d ws (binds d (uses_at p) root) root
    assertion-stops = stops _ (walk d ws root true) opens is

    pub assertion-ends : r ≤ 0 → {v : ℕ} → v ≡ walk_roots d ws (root ∷ []) → v ≡ assertion_refusal d ws (binds d (uses_at p) root) root
    assertion-ends z q = q ∙ one-root root ∙ goes_on _ (walk d ws root true) opens is z

-- root after root
module _ (d : Dag) (ws us roots : List ℕ) (k : ℕ) {whole : ℕ} (e : let_roots d ws us (drop k roots) ≡ whole) where
  module _ (l : k < length roots) where
    roots-open : (assertion_refusal d ws (binds d us (get_or roots k 0)) (get_or roots k 0) or_else let_roots d ws us (drop (k + 1) roots)) ≡ whole
    unfolding let_roots
    roots-open = rw (add-one k) (rw (drop-cons roots k 0 l) at e)

    module _ {r : ℕ} (is : r ≡ assertion_refusal d ws (binds d us (get_or roots k 0)) (get_or roots k 0)) where
      pub roots-stop : 0 < r → r ≡ whole
      roots-stop = stops _ (let_roots d ws us (drop (k + 1) roots)) roots-open is

      pub roots-pass : r ≤ 0 → let_roots d ws us (drop (k + 1) roots) ≡ whole
      roots-pass = goes_on _ (let_roots d ws us (drop (k + 1) roots)) roots-open is

  pub roots-end : length roots ≤ k → 0 ≡ whole
  unfolding let_roots
  roots-end l = rw (drop_of_length-le roots l) at e
