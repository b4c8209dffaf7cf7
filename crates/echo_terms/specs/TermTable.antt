-- Counts of terms, held at the largest number of 64 bits, in a table that is filled node by node.
use Rattle.std.specs.Prelude.{ℕ, zero, suc, ◌+◌, ◌*◌, ◌≤◌, ◌<◌, min, ◌≡◌, refl, List, [], ◌∷◌, Bool, true, false, eqb, length, take, drop, get_or, set, replicate}
use Rattle.std.specs.List.{fold}
use Rattle.std.proofs.Common.{ap, sym, ◌∙◌, arith, add-one, eqb-true, length-set, get_or-set_same, get_or-set_other}
use Rattle.std.proofs.lemmas.Bool.{eqb-false}
use Rattle.std.proofs.lemmas.List.{length-replicate}
use Rattle.lists.specs.Build.{upto}
use Rattle.echo_spec.specs.Input.{ArrayWidths, Node, shape, no_node, largest, node_at, nodes_of}
use Rattle.echo_spec.specs.Widths.{ext_wf_of}
use Rattle.echo_spec.specs.Walk.{Operand, vector, levels, operands_as}
use Rattle.lent.specs.Records.{nodes-length, nodes-at}
use Rattle.echo_tables.specs.declared.Form.{Form}
use Rattle.echo_tables.specs.declared.Form.TheVariants.{Chain, Arguments}
use Rattle.echo_tables.specs.Forms.{form_as, form_operands, form-operands}
use Rattle.echo_tables.specs.Uses.{FormInside, node-inside}
use Rattle.sizes.specs.Sums.{sum_over, sum-append, sum-map}
use Rattle.sizes.specs.Count.{count_step, counts_below}

-- held at the largest number
abbrev pub held : ℕ → ℕ
held n = min n largest

-- entry x; 1 past the end
abbrev pub entry : List ℕ → ℕ → ℕ
entry t x = get_or t x 1

-- so many, and the entries of the nodes xs
unfoldable pub counted : List ℕ → ℕ → List ℕ → ℕ
counted t c xs = held (c + sum_over (entry t) xs)

-- so many, and the entries of the operands of a form
unfoldable pub form_sum : List ℕ → ℕ → List ℕ → Form → ℕ
form_sum t c side f = held (c + sum_over (λ (o : Operand). entry t o.node) (form_operands side f))

-- nodes within the limit, and well formed with these side entries, and with some bits and arrays
pub record Countable (nodes side : List ℕ) : Type 0 where
  pub within : length nodes ≤ 34816
  pub bits : ℕ
  pub arrays : ArrayWidths
  pub formed : length (ext_wf_of bits arrays side (nodes_of nodes)) ≡ length (nodes_of nodes)

-- ---------------------------------------------------------------- a list of nodes

-- as a loop over it has it
pub counted-fold : (t : List ℕ) (c : ℕ) (xs : List ℕ) → c ≤ largest → fold (λ s x. held (s + entry t x)) c xs ≡ counted t c xs
unfolding counted sum_over
counted-fold t c [] h = omega arith
counted-fold t c (x ∷ xs) h = let e = counted-fold t (held (c + entry t x)) xs (omega arith) in omega arith

-- ---------------------------------------------------------------- a form

-- the sum of the entries of n pairs, in the order of the side entries
pairs-sum : (f : ℕ → ℕ) (n : ℕ) (side : List ℕ) → n + n ≤ length side → sum_over (λ (o : Operand). f o.node) (levels n side) ≡ sum_over f (take (2 * n) side)
unfolding levels sum_over
pairs-sum f zero side h = refl
pairs-sum f (suc n) [] h = absurd (omega arith)
pairs-sum f (suc n) (x ∷ []) h = absurd (omega arith)
pairs-sum f (suc n) (x ∷ v ∷ side) h =
    let a = pairs-sum f n side (omega arith) in
    let b = sum-append (λ (o : Operand). f o.node) (levels n side) (vector x ∷ vector v ∷ []) in
    let e : 2 * suc n ≡ suc (suc (2 * n)) = omega arith in
    rw e (omega arith)

module _ (t : List ℕ) (c : ℕ) (side : List ℕ) (s n : ℕ) where
  -- a chain's index, and then its stores
  pub chain-sum : (j : ℕ) → n + n ≤ length (drop s side) → counted t (counted t c (j ∷ [])) (take (2 * n) (drop s side)) ≡ form_sum t c side (Chain j s n)
  unfolding form_sum counted sum_over
  chain-sum j h =
      let a = pairs-sum (entry t) n (drop s side) h in
      let b = sum-append (λ (o : Operand). entry t o.node) (levels n (drop s side)) (vector j ∷ []) in
      omega arith

  pub arguments-sum : counted t c (take n (drop s side)) ≡ form_sum t c side (Arguments s n)
  unfolding form_sum counted
  arguments-sum = let a = sum-map (λ (o : Operand). entry t o.node) vector (take n (drop s side)) in omega arith

-- ---------------------------------------------------------------- the table

-- the table has the counts of the nodes below n
pub record Filled (t side nodes : List ℕ) (n : ℕ) : Type 0 where
  pub long : length t ≡ 2048
  pub at : (j : ℕ) → entry t j ≡ held (counts_below side (nodes_of nodes) n j)

ones : (m j : ℕ) → get_or {A = ℕ} (replicate m 1) j 1 ≡ 1
ones zero j = refl
ones (suc m) zero = refl
ones (suc m) (suc j) = ones m j

pub filled_none : (side nodes : List ℕ) → Filled (replicate 2048 1) side nodes 0
unfolding upto
filled_none side nodes = record { long = length-replicate {A = ℕ} 2048 1; at = λ j. ones 2048 j }

-- sums of entries that are held
sums-held : {A : Type 0} (t : List ℕ) (f : ℕ → ℕ) → ((x : ℕ) → entry t x ≡ held (f x)) → (g : A → ℕ) (c : ℕ) (xs : List A)
    → held (c + sum_over (λ x. entry t (g x)) xs) ≡ held (c + sum_over (λ x. f (g x)) xs)
unfolding sum_over
sums-held t f h g c [] = refl
sums-held t f h g c (x ∷ xs) =
    let a = h (g x) in
    let b = sums-held t f h g c xs in
    omega arith

module _ {t side nodes : List ℕ} {i : ℕ} (c : Countable nodes side) (f : Filled t side nodes i) (h : i < length (nodes_of nodes)) where
  abbrev own : Node
  own = get_or (nodes_of nodes) i no_node

  here : own ≡ node_at nodes i
  here = nodes-at nodes no_node i (omega (arith, nodes-length nodes))

  module _ {m : Node} (e : m ≡ node_at nodes i) where
    pub node-within : FormInside side (form_as m (shape m))
    node-within = rw (e ∙ sym here) (node-inside c.bits c.arrays side (nodes_of nodes) i (omega (arith, c.formed)))

    step-held : {x : ℕ} → x ≡ form_sum t 1 side (form_as m (shape m)) → x ≡ held (count_step side (nodes_of nodes) (counts_below side (nodes_of nodes) i) i)
    unfolding form_sum count_step
    step-held q =
        q ∙ (λ k. held (1 + sum_over (λ (o : Operand). entry t o.node) (form-operands side ((e ∙ sym here) k) (shape ((e ∙ sym here) k)) k)))
        ∙ sums-held t (counts_below side (nodes_of nodes) i) f.at (λ (o : Operand). o.node) 1 (operands_as side own (shape own))

    pub filled_next : {x : ℕ} → x ≡ form_sum t 1 side (form_as m (shape m)) → Filled (set t i x) side nodes (i + 1)
    unfolding upto
    filled_next {x} q = record { long = length-set t i x ∙ f.long; at = λ j. rw add-one (by_place (step-held q) j (eqb j i) refl) }
      where
        by_place : x ≡ held (count_step side (nodes_of nodes) (counts_below side (nodes_of nodes) i) i) → (j : ℕ) (b : Bool) → eqb j i ≡ b
            → entry (set t i x) j ≡ held (counts_below side (nodes_of nodes) (suc i) j)
        by_place value j true p =
            let g : entry (set t i x) i ≡ x = get_or-set_same t i x 1 (omega (arith, f.long, c.within, nodes-length nodes)) in
            rw (p, upto) (ap (entry (set t i x)) (eqb-true j i p) ∙ g ∙ value)
        by_place value j false p = rw (p, upto) (get_or-set_other t i j x 1 (eqb-false j i p) ∙ f.at j)

pub filled-sum : {t side nodes : List ℕ} {n : ℕ} → Filled t side nodes n → n ≡ length (nodes_of nodes) → (roots : List ℕ) {r : ℕ} → r ≡ counted t 0 roots
    → r ≡ held (sum_over (counts_below side (nodes_of nodes) (length (nodes_of nodes))) roots)
unfolding counted
filled-sum {t} {side} {nodes} {n} f e roots q =
    let a = sums-held t (counts_below side (nodes_of nodes) n) f.at (λ (x : ℕ). x) 0 roots in
    rw (← e) (omega arith)
