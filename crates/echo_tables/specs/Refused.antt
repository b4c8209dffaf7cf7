-- What a node's whole term is refused with, where the sort that is wanted is the one that the node has.
use Prim.Native.Nat.{ℕ, ◌≤◌, ◌<◌}
use Rattle.std.specs.Prelude.{◌≡◌, refl, length}
use Rattle.std.proofs.Math.Path.{ap}
use Rattle.std.proofs.Common.{sym, ◌∙◌, arith, lt-ltb, le-ltb}
use Rattle.std.proofs.Math.Bool.{Bool, true}
use mathlib.Core.List.{List, [], ◌∷◌, ◌++◌, map}
use Rattle.std.proofs.Math.Dec.{T, leb, leb→le, ltb→lt}
use Rattle.std.proofs.Math.ListN.{get_or}
use Rattle.lists.specs.Tests.{among-every, T→true}
use Rattle.lists.specs.Build.{upto-below, upto_all}
use Rattle.echo_spec.specs.Refusals.{unless, ◌or_else◌}
use Rattle.echo_spec.specs.Shapes.{is_bool}
use Rattle.echo_spec.specs.Input.{Node, shape, no_node, Dag}
use Rattle.echo_spec.specs.Widths.{ext_wf_of}
use Rattle.echo_spec.specs.NodeLaws.{Low}
use Rattle.echo_spec.proofs.NodeLaws.{facts}
use Rattle.echo_spec.specs.Walk.{asked, Operand, formula, operands_as, walk_all, sort_ok, step_of_walk, walks_below, walk, walk_roots}
use Rattle.echo_spec.specs.Accepted.{unless-passed, or_else-passed, walk-passed, in-or_else, walk_number, WalkNumbers, asked-number, all-number, step-number}
use Rattle.echo_tables.specs.declared.Form.{Form}
use Rattle.echo_tables.specs.Forms.{form_as, form_operands, form-operands}

-- the operands of node i, in printing order
abbrev pub operands_of : Dag → ℕ → List Operand
operands_of d i = operands_as d.side (get_or d.nodes i no_node) (shape (get_or d.nodes i no_node))

-- what the tables ask of node i by itself, or else the first refusal among its operands
unfoldable pub refused_at : Dag → List ℕ → ℕ → ℕ
refused_at d ws i = asked d ws i or_else walk_all (walk d ws) (operands_of d i)

-- of each element
abbrev pub Each : {A : Type 0} → (A → Type 0) → List A → Type 0
Each P [] = Unit {0}
Each P (x ∷ xs) = P x × Each P xs

-- an operand of node i that is not refused: a lower node, of the sort that is wanted
pub record Passes (d : Dag) (ws : List ℕ) (i : ℕ) (o : Operand) : Type 0 where
  pub low : o.node < i
  pub sort : sort_ok o.bool (is_bool (shape (get_or d.nodes o.node no_node))) ≡ true
  pub passed : refused_at d ws o.node ≡ 0

-- ---------------------------------------------------------------- laws

-- answers that agree below i refuse operands below i alike
pub all_same : (f g : ℕ → Bool → ℕ) (i : ℕ) → ((j : ℕ) (b : Bool) → j < i → f j b ≡ g j b) → (os : List Operand) → Low i os → walk_all f os ≡ walk_all g os
unfolding walk_all
all_same f g i h [] l = refl
all_same f g i h (o ∷ os) l =
    let p = h o.node o.bool (ltb→lt o.node i l.0) in
    let q = all_same f g i h os l.1 in
    λ k. p k or_else q k

pub each_left : {A : Type 0} (P : A → Type 0) (xs ys : List A) → Each P (xs ++ ys) → Each P xs
each_left P [] ys h = tt
each_left P (x ∷ xs) ys h = (h.0, each_left P xs ys h.1)

pub each_right : {A : Type 0} (P : A → Type 0) (xs ys : List A) → Each P (xs ++ ys) → Each P ys
each_right P [] ys h = h
each_right P (x ∷ xs) ys h = each_right P xs ys h.1

module _ (d : Dag) (ws : List ℕ) where
  walk-number : WalkNumbers (walk d ws)
  unfolding walk walk_number
  walk-number i =
      step-number d ws (walks_below d ws i)
      (upto_all (λ (f : Bool → ℕ). (b : Bool) → T (walk_number (f b))) (step_of_walk d ws) (λ _. 1) (λ b. tt) (λ below h k. step-number d ws below h k) i) i

  pub refused-small : (i : ℕ) → refused_at d ws i ≤ 7
  unfolding refused_at asked walk_number
  refused-small i =
      let n : Node = get_or d.nodes i no_node in
      let t = in-or_else walk_number (asked d ws i) _ (asked-number d ws i n (shape n)) (all-number (walk d ws) walk-number (operands_of d i)) in
      leb→le (refused_at d ws i) 7 (among-every (λ m. leb m 7) (0 ∷ 1 ∷ 3 ∷ 4 ∷ 5 ∷ 7 ∷ []) tt (refused_at d ws i) t)

  pub walk-past : (i : ℕ) → length d.nodes ≤ i → (w : Bool) → walk d ws i w ≡ 1
  unfolding walk step_of_walk
  walk-past i h w = rw (le-ltb i (length d.nodes) h)

module _ (d : Dag) (ws : List ℕ) (nbits : ℕ) (widths : ws ≡ ext_wf_of nbits d.array-widths d.side d.nodes) (counted : length ws ≡ length d.nodes) where
  pub operands-low : (i : ℕ) → i < length d.nodes → Low i (operands_of d i)
  operands-low i h = (facts nbits d.array-widths d.side d.nodes i (rw (← widths, counted) h)).low

  pub walk_is : (i : ℕ) → i < length d.nodes → (w : Bool)
      → walk d ws i w ≡ (unless (sort_ok w (is_bool (shape (get_or d.nodes i no_node)))) 3 or_else refused_at d ws i)
  unfolding walk step_of_walk refused_at
  walk_is i h w =
      let sort : ℕ = unless (sort_ok w (is_bool (shape (get_or d.nodes i no_node)))) 3 in
      let below : (j : ℕ) (b : Bool) → j < i → walks_below d ws i j b ≡ walk d ws j b =
      λ j b l. ap (λ (f : Bool → ℕ). f b) (upto-below (step_of_walk d ws) (λ _. 1) i j l) in
      rw (lt-ltb i (length d.nodes) h) (ap (λ (x : ℕ). sort or_else asked d ws i or_else x) (all_same (walks_below d ws i) (walk d ws) i below (operands_of d i) (operands-low i h)))

  passes : (i : ℕ) (o : Operand) → o.node < i → o.node < length d.nodes → walk d ws o.node o.bool ≡ 0 → Passes d ws i o
  passes i o low exists e =
      let b : Bool = sort_ok o.bool (is_bool (shape (get_or d.nodes o.node no_node))) in
      let (sort, own) = or_else-passed (unless b 3) (refused_at d ws o.node) (sym (walk_is o.node exists o.bool) ∙ e) in
      record { low = low; sort = T→true b (unless-passed b 2 sort); passed = own }

  -- of roots that are not refused each exists, is a Bool, and is not refused
  pub roots-pass : (roots : List ℕ) → walk_roots d ws roots ≡ 0 → Each (Passes d ws (length d.nodes)) (map formula roots)
  unfolding walk_roots walk_all walk
  roots-pass [] e = tt
  roots-pass (x ∷ xs) e =
      let (first, rest) = or_else-passed (walk d ws x true) (walk_all (walk d ws) (map formula xs)) e in
      let exists = (walk-passed d ws (walks_below d ws x) x true first).exists in
      (passes (length d.nodes) (formula x) exists exists first, roots-pass xs rest)

  module _ (i : ℕ) (here : i < length d.nodes) where
    each-passes : (os : List Operand) → Low i os → walk_all (walk d ws) os ≡ 0 → Each (Passes d ws i) os
    unfolding walk_all
    each-passes [] l e = tt
    each-passes (o ∷ os) l e =
        let low = ltb→lt o.node i l.0 in
        let (first, rest) = or_else-passed (walk d ws o.node o.bool) (walk_all (walk d ws) os) e in
        (passes i o low (omega arith) first, each-passes os l.1 rest)

    -- of a node that is not refused nothing is asked, and its operands pass
    pub operands-pass : refused_at d ws i ≡ 0 → (asked d ws i ≡ 0) × Each (Passes d ws i) (operands_of d i)
    unfolding refused_at
    operands-pass e =
        let (own, rest) = or_else-passed (asked d ws i) (walk_all (walk d ws) (operands_of d i)) e in
        (own, each-passes (operands_of d i) (operands-low i here) rest)

    -- by its form
    pub form-passes : refused_at d ws i ≡ 0 → {f : Form} → f ≡ form_as (get_or d.nodes i no_node) (shape (get_or d.nodes i no_node)) → Each (Passes d ws i) (form_operands d.side f)
    form-passes e q = rw (q, form-operands d.side (get_or d.nodes i no_node) (shape (get_or d.nodes i no_node))) (operands-pass e).1
