-- What an operand is refused with, by the table that was filled as far as its node, and the tests of a list of operands one by one.
use Prim.Native.Nat.{ℕ, zero, suc, ◌+◌, ◌-◌, ◌≤◌, ◌<◌}
use Rattle.std.specs.Prelude.{◌≡◌, Bool, true, false, List, [], ◌∷◌, ◌++◌, map, length, take, drop}
use Rattle.std.proofs.Math.Path.{refl, ap, sym}
use Rattle.std.proofs.Common.{◌∙◌, add-one, length-drop, drop_of_length-le, drop-cons}
use native.Mathlib.Omega.{arith}
use Rattle.std.proofs.Math.ListN.{get_or}
use Rattle.std.proofs.Math.Seq.{get_or-drop}
use Rattle.echo_spec.specs.Refusals.{unless, ◌or_else◌}
use Rattle.refusals.specs.declared.EchoError.{EchoError}
use Rattle.refusals.specs.Numbers.{error_number, error-number}
use Rattle.echo_spec.specs.Shapes.{Shape, var, const, binary, rotation, extraction, concat, extension, ite, comparison, negation, connective, unary, select, call, unknown}
use Rattle.echo_spec.specs.Input.{ArrayWidths, Node, shape, no_node, Dag}
use Rattle.echo_spec.specs.Widths.{index_width_of, value_width_of, ext_wf_of}
use Rattle.echo_spec.specs.NodeLaws.{Pairs, Formed}
use Rattle.echo_spec.proofs.NodeLaws.{facts}
use Rattle.echo_spec.specs.Walk.{asked_as, asked, Operand, vector, levels, walk_all, walk}
use Rattle.echo_tables.specs.declared.Form.{Form}
use Rattle.echo_tables.specs.declared.Form.TheVariants.{Leaf, One, Two, Choice, Chain, Arguments}
use Rattle.echo_tables.specs.Forms.{call_form, form_as, form_operands, form-operands}
use Rattle.lent.specs.declared.Problem.{Problem as Lent}
use Rattle.lent.specs.Lent.{problem_at, dag_at}
use Rattle.echo_tables.specs.declared.Mark.{Mark}
use Rattle.echo_tables.specs.Marks.{use_of}
use Rattle.echo_tables.specs.Filling.{Measured, MarkedTo, Marking}
use Rattle.echo_tables.specs.Refused.{Each, operands_of, refused_at, all_same, operands-low, walk_is}

-- the side entries that a form names are there
abbrev pub FormInside : List ℕ → Form → Type 0
FormInside side Leaf = Unit {0}
FormInside side (One a w) = Unit {0}
FormInside side (Two a b w) = Unit {0}
FormInside side (Choice a b c) = Unit {0}
FormInside side (Chain j s n) = n + n ≤ length (drop s side)
FormInside side (Arguments s n) = s + n ≤ length side

-- ---------------------------------------------------------------- one refusal after the other

none-else : (m : ℕ) → (m or_else 0) ≡ m
none-else zero = refl
none-else (suc m) = refl

else-assoc : (a b c : ℕ) → (a or_else (b or_else c)) ≡ ((a or_else b) or_else c)
else-assoc zero b c = refl
else-assoc (suc a) b c = refl

pub first-is : {a b c d r : ℕ} → r ≡ (a or_else b) → a ≡ c → b ≡ d → r ≡ (c or_else d)
first-is e p q = e ∙ λ k. p k or_else q k

module _ (m n : ℕ) {r whole : ℕ} (e : (m or_else n) ≡ whole) (is : r ≡ m) where
  pub stops : 0 < r → r ≡ whole
  stops h = is ∙ go m (omega arith) ∙ e
    where
      go : (m : ℕ) → 0 < m → m ≡ (m or_else n)
      go zero h = absurd (omega arith)
      go (suc m) h = refl

  pub goes_on : r ≤ 0 → n ≡ whole
  goes_on h = let z : m ≡ 0 = omega arith in rw z at e

-- a check that refuses ends a list of checks, and one that passes leaves the rest
pub else_stops : (e : EchoError) (m n : ℕ) → error_number e ≡ m → error_number e ≡ (m or_else n)
else_stops e m n h = stops m n refl h (omega (arith, error-number e))

pub else_goes : (m n : ℕ) {r : ℕ} → 0 ≡ m → r ≡ n → r ≡ (m or_else n)
else_goes m n z e = rw (← z) e

-- what a test decides, which its refusal was told by
pub check-refused : (e : EchoError) (b : Bool) (m : ℕ) → error_number e ≡ unless b m → (b ≡ false) × (error_number e ≡ m)
check-refused e true m h = absurd (omega (arith, error-number e))
check-refused e false m h = (refl, h)

pub check-passed : (b : Bool) (m : ℕ) → 0 ≡ unless b (suc m) → b ≡ true
check-passed true m h = refl
check-passed false m h = absurd (omega arith)

pub walk-append : (below : ℕ → Bool → ℕ) (os ps : List Operand) → walk_all below (os ++ ps) ≡ (walk_all below os or_else walk_all below ps)
unfolding walk_all
walk-append below [] ps = refl
walk-append below (o ∷ os) ps = rw (walk-append below os ps) (else-assoc (below o.node o.bool) (walk_all below os) (walk_all below ps))

-- ---------------------------------------------------------------- operands in a list, and in pairs

-- the last of suc m pairs stands first
pub levels-last : (m : ℕ) (side : List ℕ) → suc m + suc m ≤ length side
    → levels (suc m) side ≡ vector (get_or side (m + m) 0) ∷ vector (get_or side (m + m + 1) 0) ∷ levels m side
unfolding levels
levels-last m [] h = absurd (omega arith)
levels-last m (x ∷ []) h = absurd (omega arith)
levels-last zero (x ∷ v ∷ side) h = refl
levels-last (suc m) (x ∷ v ∷ side) h =
    let a : suc m + suc m ≡ suc (suc (m + m)) = omega arith in
    let b : suc m + suc m + 1 ≡ suc (suc (m + m + 1)) = omega arith in
    ap (λ (ls : List Operand). ls ++ (vector x ∷ vector v ∷ [])) (levels-last m side (omega arith))
    ∙ λ i. vector (get_or (x ∷ v ∷ side) (sym a i) 0) ∷ vector (get_or (x ∷ v ∷ side) (sym b i) 0) ∷ (levels m side ++ (vector x ∷ vector v ∷ []))

-- what holds of each pair holds of the last one, and of those before it
pub each-pair : (P : Operand → Type 0) (side : List ℕ) (s m : ℕ) → suc m + suc m ≤ length (drop s side) → Each P (levels (suc m) (drop s side))
    → P (vector (get_or side (s + (m + m)) 0)) × P (vector (get_or side (s + (m + m + 1)) 0)) × Each P (levels m (drop s side))
each-pair P side s m h p =
    let (x, (v, rest)) = rw (levels-last m (drop s side) h) at p in
    (rw (get_or-drop s side (m + m) 0) at x, rw (get_or-drop s side (m + m + 1) 0) at v, rest)

-- what holds of each of some entries holds of the first, and of those after it
pub each-entry : (P : Operand → Type 0) (side : List ℕ) (s m : ℕ) → s < length side → Each P (map vector (take (suc m) (drop s side)))
    → P (vector (get_or side s 0)) × Each P (map vector (take m (drop (s + 1) side)))
each-entry P side s m h p = let (x, rest) = rw (drop-cons side s 0 h) at p in (x, rw (add-one s) rest)

module _ (below : ℕ → Bool → ℕ) where
  -- the operands from place k on decide the answer
  module _ (f : ℕ → Operand) (xs : List ℕ) (k : ℕ) {whole : ℕ} (e : walk_all below (map f (drop k xs)) ≡ whole) where
    entry-opens : k < length xs → (below (f (get_or xs k 0)).node (f (get_or xs k 0)).bool or_else walk_all below (map f (drop (k + 1) xs))) ≡ whole
    unfolding walk_all
    entry-opens h = rw (add-one k) (rw (drop-cons xs k 0 h) at e)

    module _ (h : k < length xs) {r : ℕ} (is : r ≡ below (f (get_or xs k 0)).node (f (get_or xs k 0)).bool) where
      pub entry-stops : 0 < r → r ≡ whole
      entry-stops = stops _ _ (entry-opens h) is

      pub entry-passes : r ≤ 0 → walk_all below (map f (drop (k + 1) xs)) ≡ whole
      entry-passes = goes_on _ _ (entry-opens h) is

    pub entries-end : length xs ≤ k → 0 ≡ whole
    unfolding walk_all
    entries-end h = rw (drop_of_length-le xs h) at e

  -- the first n pairs decide the answer
  module _ (side : List ℕ) (s n : ℕ) {whole : ℕ} (e : walk_all below (levels n (drop s side)) ≡ whole) where
    module _ (some : 0 < n) (inside : n + n ≤ length (drop s side)) where
      abbrev m : ℕ
      m = n - 1

      -- the last of them stands first, its index before its value
      pair-opens : ((below (get_or side (s + (m + m)) 0) false or_else below (get_or side (s + (m + m) + 1) 0) false) or_else walk_all below (levels m (drop s side))) ≡ whole
      unfolding walk_all
      pair-opens =
          let z : n ≡ suc m = omega arith in
          let o : levels n (drop s side) ≡ vector (get_or (drop s side) (m + m) 0) ∷ vector (get_or (drop s side) (m + m + 1) 0) ∷ levels m (drop s side) =
          ap (λ (k : ℕ). levels k (drop s side)) z ∙ levels-last m (drop s side) (omega arith) in
          let p : s + (m + m + 1) ≡ s + (m + m) + 1 = omega arith in
          sym (else-assoc (below (get_or side (s + (m + m)) 0) false) (below (get_or side (s + (m + m) + 1) 0) false) (walk_all below (levels m (drop s side))))
          ∙ (rw (o, get_or-drop s side (m + m) 0, get_or-drop s side (m + m + 1) 0, p) at e)

      -- its index, its value, and the pairs before it
      module _ {r : ℕ} (index : r ≡ below (get_or side (s + (m + m)) 0) false) where
        both : (r or_else below (get_or side (s + (m + m) + 1) 0) false or_else walk_all below (levels m (drop s side))) ≡ whole
        both = rw (index, else-assoc (below (get_or side (s + (m + m)) 0) false) (below (get_or side (s + (m + m) + 1) 0) false) (walk_all below (levels m (drop s side)))) pair-opens

        pub index-stops : 0 < r → r ≡ whole
        index-stops = stops r _ both refl

        module _ (z : r ≤ 0) {q : ℕ} (value : q ≡ below (get_or side (s + (m + m) + 1) 0) false) where
          pub value-stops : 0 < q → q ≡ whole
          value-stops = stops _ _ (goes_on r _ both refl z) value

          pub pair-passes : q ≤ 0 → walk_all below (levels (n - 1) (drop s side)) ≡ whole
          pair-passes = goes_on _ _ (goes_on r _ both refl z) value

    pub pairs_end : n ≤ 0 → 0 ≡ whole
    unfolding walk_all levels
    pairs_end h = let z : n ≡ 0 = omega arith in rw z at e

-- ---------------------------------------------------------------- operands by their form

-- the first refusal among the operands of a form
abbrev pub form_refused : (ℕ → Bool → ℕ) → List ℕ → Form → ℕ
form_refused below side Leaf = 0
form_refused below side (One a w) = below a w
form_refused below side (Two a b w) = below a w or_else below b w
form_refused below side (Choice a b c) = below a true or_else below b false or_else below c false
form_refused below side (Chain j s n) = walk_all below (levels n (drop s side)) or_else below j false
form_refused below side (Arguments s n) = walk_all below (map vector (take n (drop s side)))

form-first : (below : ℕ → Bool → ℕ) (side : List ℕ) (f : Form) → form_refused below side f ≡ walk_all below (form_operands side f)
unfolding walk_all
form-first below side Leaf = refl
form-first below side (One a w) = sym (none-else (below a w))
form-first below side (Two a b w) = rw (none-else (below b w)) refl
form-first below side (Choice a b c) = rw (none-else (below c false)) refl
form-first below side (Chain j s n) = rw (walk-append below (levels n (drop s side)) (vector j ∷ []), none-else (below j false)) refl
form-first below side (Arguments s n) = refl

-- in the arm of a match on a form
pub form-arm : (below : ℕ → Bool → ℕ) (side : List ℕ) {f : Form} (g : Form) {r : ℕ} → f ≡ g → r ≡ form_refused below side g → r ≡ walk_all below (form_operands side f)
form-arm below side g q e = rw q (e ∙ form-first below side g)

-- the part of the side entries is lent from its start to its end
pub form-arguments : (below : ℕ → Bool → ℕ) (side : List ℕ) {f : Form} (s n : ℕ) {r : ℕ} → f ≡ Arguments s n
    → r ≡ walk_all below (map vector (take (s + n - s) (drop s side))) → r ≡ walk_all below (form_operands side f)
form-arguments below side s n q e = let z : s + n - s ≡ n = omega arith in form-arm below side (Arguments s n) q (rw z at e)

-- ---------------------------------------------------------------- the side entries of a well-formed node

pairs-inside : (ws : List ℕ) (i iw vw n : ℕ) (side : List ℕ) → Pairs ws i iw vw n side → n + n ≤ length side
pairs-inside ws i iw vw zero side p = omega arith
pairs-inside ws i iw vw (suc n) [] p = absurd p
pairs-inside ws i iw vw (suc n) (x ∷ []) p = absurd p
pairs-inside ws i iw vw (suc n) (x ∷ v ∷ side) p = let rest = pairs-inside ws i iw vw n side p.2 in omega arith

call-inside : (side : List ℕ) (s n : ℕ) → n ≤ length (drop s side) → FormInside side (call_form s n)
unfolding call_form
call-inside side s zero h = tt
call-inside side s (suc n) h = omega (arith, length-drop s side)

pub form-inside : (ws : List ℕ) (i nbits : ℕ) (arrays : ArrayWidths) (side : List ℕ) (n : Node) (s : Shape) → Formed ws i nbits arrays side n s → FormInside side (form_as n s)
unfolding form_as
form-inside ws i nbits arrays side n var f = tt
form-inside ws i nbits arrays side n const f = tt
form-inside ws i nbits arrays side n binary f = tt
form-inside ws i nbits arrays side n rotation f = tt
form-inside ws i nbits arrays side n extraction f = tt
form-inside ws i nbits arrays side n concat f = tt
form-inside ws i nbits arrays side n extension f = tt
form-inside ws i nbits arrays side n ite f = tt
form-inside ws i nbits arrays side n comparison f = tt
form-inside ws i nbits arrays side n negation f = tt
form-inside ws i nbits arrays side n connective f = tt
form-inside ws i nbits arrays side n unary f = tt
form-inside ws i nbits arrays side n select f = pairs-inside ws i (index_width_of arrays.index n.a) (value_width_of arrays.value n.a) n.d (drop n.c side) f.1
form-inside ws i nbits arrays side n call f = call-inside side n.c n.d f.3
form-inside ws i nbits arrays side n unknown f = absurd f

pub node-inside : (nbits : ℕ) (arrays : ArrayWidths) (side : List ℕ) (ns : List Node) (i : ℕ) → i < length (ext_wf_of nbits arrays side ns)
    → FormInside side (form_as (get_or ns i no_node) (shape (get_or ns i no_node)))
node-inside nbits arrays side ns i h = form-inside (ext_wf_of nbits arrays side ns) i nbits arrays side (get_or ns i no_node) (shape (get_or ns i no_node)) (facts nbits arrays side ns i h).form

-- ---------------------------------------------------------------- node i, where the marks are made up to it

-- a node whose mark is made is refused as the walk refuses it
module _ (d : Dag) (ws : List ℕ) (nbits : ℕ) (widths : ws ≡ ext_wf_of nbits d.array-widths d.side d.nodes) (counted : length ws ≡ length d.nodes) where
  pub use-walks : (t : List Mark) (i : ℕ) → MarkedTo d ws i t → i ≤ length d.nodes → (j : ℕ) (w : Bool) → j < i → use_of t j w ≡ walk d ws j w
  unfolding use_of
  use-walks t i m l j w h =
      let k = m.at j h in
      rw (k.shaped, k.refused) (sym (walk_is d ws nbits widths counted j (omega arith) w))

module _ (p : Lent) {ws : List ℕ} {t : List Mark} {i : ℕ} {m : Node} (measured : Measured p ws) (h : Marking p ws t i m) {f : Form} (is : f ≡ form_as m (shape m)) where
  abbrev d : Dag
  d = dag_at p

  abbrev nbits : ℕ
  nbits = length (problem_at p).bits

  form-is : f ≡ form_as (get_or d.nodes i no_node) (shape (get_or d.nodes i no_node))
  form-is = is ∙ ap (λ (x : Node). form_as x (shape x)) h.node

  pub marking-inside : FormInside d.side f
  marking-inside = rw form-is (node-inside nbits d.array-widths d.side d.nodes i (rw (← measured.widths, measured.counted) h.here))

  module _ {a : ℕ} (asks : a ≡ asked_as d ws i m (shape m)) where
    asks-own : a ≡ asked d ws i
    unfolding asked
    asks-own = asks ∙ ap (λ (x : Node). asked_as d ws i x (shape x)) h.node

    pub marking-asked : 0 < a → a ≡ refused_at d ws i
    unfolding refused_at
    marking-asked = stops (asked d ws i) (walk_all (walk d ws) (operands_of d i)) refl asks-own

    pub marking-operands : a ≤ 0 → {r : ℕ} → r ≡ walk_all (use_of t) (form_operands d.side f) → r ≡ refused_at d ws i
    unfolding refused_at
    marking-operands z e =
        let own : Node = get_or d.nodes i no_node in
        let same = use-walks d ws nbits measured.widths measured.counted t i h.filled (omega (arith, h.here)) in
        e ∙ ap (λ (g : Form). walk_all (use_of t) (form_operands d.side g)) form-is
        ∙ ap (walk_all (use_of t)) (form-operands d.side own (shape own))
        ∙ all_same (use_of t) (walk d ws) i same (operands_of d i) (operands-low d ws nbits measured.widths measured.counted i h.here)
        ∙ goes_on (asked d ws i) (walk_all (walk d ws) (operands_of d i)) refl asks-own z
