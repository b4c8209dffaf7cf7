-- From the head of a term to its first state.
use Prim.Native.Nat.{ℕ, zero, suc, ◌+◌, ◌-◌, ◌≤◌, ◌<◌}
use Rattle.std.specs.Prelude.{◌≡◌, refl, ltb, length, drop}
use Rattle.std.proofs.Math.Path.{ap, sym, subst}
use Rattle.std.proofs.Common.{◌∙◌, ltb→lt}
use mathlib.Core.List.{List, [], ◌∷◌}
use Rattle.std.specs.Prelude.{Some, None}
use Rattle.std.proofs.Math.Option.{Option, none, some}
use native.Mathlib.Omega.{arith}
use Rattle.std.proofs.Math.ListN.{length-drop}
use Rattle.lists.specs.Bytes.{bytes}
use Rattle.lists.specs.Tests.{and_0}
use Rattle.reading.specs.Trees.{Name, Tree, apply, Array, Function, Declarations}
use Rattle.echo_spec.specs.Input.{fits64}
use Rattle.blast_kernel.specs.Kinds.{shape_in}
use Rattle.blast_kernel.specs.declared.Shape as code
use Rattle.echo_spec.specs.Shapes.{Shape, var, const, binary, rotation, extraction, concat, extension, ite, comparison, negation, connective, unary, unknown, shape_of}
use Rattle.echo_spec.specs.TreeSorts.{TreeSort, bool, bits, if_proper, none_bound, function_named, tree_sort, tree_sorts}
use Rattle.echo_spec.specs.TreeSortLaws.{sorted-proper}
use Rattle.readback.specs.Reader.{Took, took, and_then, expect, applied, called, read_term, read_terms}
use Rattle.rebuilt.specs.Built.{array_at, function_at}
use Rattle.sort_reader.specs.Waits.{first, arguments, stuck, after_vector, after_bool, step, close, finish}
use Rattle.sort_reader.specs.WaitLaws.{stuck-finish}
use Rattle.sort_reader.specs.Sorted.{of_sort, sorted, operands, operator-read}
use Rattle.sort_reader.specs.Leaves.{argued, called_by, call-read}
use Rattle.sort_reader.specs.Selects.{operand_of, stores_then, opened, raised, raised_by, and_same, and-nothing, select-sorted}
use Rattle.script_entries.specs.Entries.{ArgumentsAt}
use Rattle.script_entries.specs.Named.{array-named, function-named}
use Rattle.script_heads.specs.Heads.{numerals_of, name_to, NothingAt, ConstantAt, VariableAt, NullaryAt, OperatorAt, CallAt, select_name, SelectAt, HeadAt}
use Rattle.script_heads.specs.HeadLaws.{opened-long}
use Rattle.script_heads.specs.declared.Head.{Head}
use Rattle.script_heads.specs.declared.Head.TheVariants.{Constant, Variable, Nullary, Operator, Call, Select}
use Rattle.script_terms.specs.States.{sort_from, done, waits, index, widths, rest, state_of, enough, Going}
use Rattle.script_terms.specs.StateLaws.{stuck-rest}
use Rattle.script_terms.specs.Turns.{numeral_count, state_from, StateIs, OpenedIs}
use Rattle.script_terms.specs.declared.TermState.{TermState}
use Rattle.script_terms.specs.declared.TermState.TheVariants.{Failed, Done, Arguments, Index}
use Rattle.script_terms.specs.OperandLaws.{width-sort}

-- ---------------------------------------------------------------- nothing

pub nothing-open : {s : List ℕ} {D : Declarations} {a : ℕ} → NothingAt s D a → (f : ℕ) → enough s a ≤ f → sorted f D (drop a s) ≡ none
nothing-open x f l = x.unsorted f (omega arith)

-- ---------------------------------------------------------------- constants and names

module _ (s : List ℕ) (D : Declarations) (a e : ℕ) (t : Tree) (w : ℕ) (low : a < e) (high : e ≤ length s)
    (read : (f : ℕ) → read_term (suc f) D (drop a s) ≡ took t (drop e s)) (sort : tree_sort D t ≡ some (bits w)) where
  leaf-width : sort_from w ≡ bits w
  leaf-width = width-sort w (ltb→lt 0 w (and_0 (ltb 0 w) (fits64 w) (sorted-proper D none_bound t (bits w) sort)))

  leaf-sorted : (f : ℕ) → sorted (suc f) D (drop a s) ≡ took (sort_from w) (drop e s)
  unfolding sorted and_then of_sort
  leaf-sorted f = rw (read f, sort) (ap (λ (σ : TreeSort). took σ (drop e s)) (sym leaf-width))

  leaf-going : Going s D a (Done w) e
  unfolding state_of rest
  leaf-going = record {
    state = done (sort_from w);
    held = record { sorts = []; is = refl; call = λ p m k. absurd (let z : ⊥ = cc in z) };
    low = omega arith;
    moved = λ n k. low;
    high = high;
    reads = λ f l.
        let z : f ≡ suc (f - 1) = omega arith in
        let u = length-drop a s in
        let v = length-drop e s in
        (f, omega arith, ap (λ (k : ℕ). sorted k D (drop a s)) z ∙ leaf-sorted (f - 1));
  }

pub constant-going : {s : List ℕ} {D : Declarations} {a e : ℕ} → ConstantAt s D a e → Going s D a (Done (e - (a + 2))) e
constant-going {s} {D} {a} {e} x = leaf-going s D a e _ (e - (a + 2)) (let l = x.low in omega arith) x.high x.read x.sort

pub variable-going : {s : List ℕ} {D : Declarations} {a k w e : ℕ} → VariableAt s D a k w e → Going s D a (Done w) e
variable-going {s} {D} {a} {k} {w} {e} x = leaf-going s D a e _ w (let l = x.low in omega arith) x.high x.read x.sort

pub nullary-going : {s : List ℕ} {D : Declarations} {a g w e : ℕ} → NullaryAt s D a g w e → Going s D a (Done w) e
nullary-going {s} {D} {a} {g} {w} {e} x = leaf-going s D a e _ w (let l = x.low in omega arith) x.high x.read x.sort

-- ---------------------------------------------------------------- operators

-- no operator has the shape
abbrev Outside : Shape → Type 0
Outside var = Unit
Outside const = Unit
Outside binary = ⊥
Outside rotation = ⊥
Outside extraction = ⊥
Outside concat = ⊥
Outside extension = ⊥
Outside ite = ⊥
Outside comparison = ⊥
Outside negation = ⊥
Outside connective = ⊥
Outside unary = ⊥
Outside Shape.select = Unit
Outside Shape.call = Unit
Outside unknown = Unit

outside-bool : (h : Shape) → Outside h → (ks : List ℕ) (os : List (Option TreeSort)) → finish (after_bool h ks) os ≡ none
unfolding after_bool
outside-bool var p ks os = stuck-finish os
outside-bool const p ks os = stuck-finish os
outside-bool binary p ks os = absurd p
outside-bool rotation p ks os = absurd p
outside-bool extraction p ks os = absurd p
outside-bool concat p ks os = absurd p
outside-bool extension p ks os = absurd p
outside-bool ite p ks os = absurd p
outside-bool comparison p ks os = absurd p
outside-bool negation p ks os = absurd p
outside-bool connective p ks os = absurd p
outside-bool unary p ks os = absurd p
outside-bool Shape.select p ks os = stuck-finish os
outside-bool Shape.call p ks os = stuck-finish os
outside-bool unknown p ks os = stuck-finish os

outside-vector : (h : Shape) → Outside h → (ks : List ℕ) (m : ℕ) (os : List (Option TreeSort)) → finish (after_vector h ks m) os ≡ none
unfolding after_vector
outside-vector var p ks m os = stuck-finish os
outside-vector const p ks m os = stuck-finish os
outside-vector binary p ks m os = absurd p
outside-vector rotation p ks m os = absurd p
outside-vector extraction p ks m os = absurd p
outside-vector concat p ks m os = absurd p
outside-vector extension p ks m os = absurd p
outside-vector ite p ks m os = absurd p
outside-vector comparison p ks m os = absurd p
outside-vector negation p ks m os = absurd p
outside-vector connective p ks m os = absurd p
outside-vector unary p ks m os = absurd p
outside-vector Shape.select p ks m os = stuck-finish os
outside-vector Shape.call p ks m os = stuck-finish os
outside-vector unknown p ks m os = stuck-finish os

outside : (h : Shape) → Outside h → (ks : List ℕ) (os : List (Option TreeSort)) → finish (first h ks) os ≡ none
unfolding finish step close
outside h p ks [] = refl
outside h p ks (none ∷ os) = refl
outside h p ks (some bool ∷ os) = outside-bool h p ks os
outside h p ks (some (bits m) ∷ os) = outside-vector h p ks m os

-- as many numerals as no operator of the shape has
unfit-bool : (h : Shape) (m : ℕ) → (m ≡ numeral_count h → ⊥) → m ≤ 2 → (i j : ℕ) (os : List (Option TreeSort)) → finish (after_bool h (numerals_of m i j)) os ≡ none
unfolding after_bool numerals_of
unfit-bool var zero n l i j os = absurd (n refl)
unfit-bool var (suc zero) n l i j os = stuck-finish os
unfit-bool var (suc (suc zero)) n l i j os = stuck-finish os
unfit-bool var (suc (suc (suc m))) n l i j os = absurd (omega arith)
unfit-bool const zero n l i j os = absurd (n refl)
unfit-bool const (suc zero) n l i j os = stuck-finish os
unfit-bool const (suc (suc zero)) n l i j os = stuck-finish os
unfit-bool const (suc (suc (suc m))) n l i j os = absurd (omega arith)
unfit-bool binary zero n l i j os = absurd (n refl)
unfit-bool binary (suc zero) n l i j os = stuck-finish os
unfit-bool binary (suc (suc zero)) n l i j os = stuck-finish os
unfit-bool binary (suc (suc (suc m))) n l i j os = absurd (omega arith)
unfit-bool rotation zero n l i j os = stuck-finish os
unfit-bool rotation (suc zero) n l i j os = absurd (n refl)
unfit-bool rotation (suc (suc zero)) n l i j os = stuck-finish os
unfit-bool rotation (suc (suc (suc m))) n l i j os = absurd (omega arith)
unfit-bool extraction zero n l i j os = stuck-finish os
unfit-bool extraction (suc zero) n l i j os = stuck-finish os
unfit-bool extraction (suc (suc zero)) n l i j os = absurd (n refl)
unfit-bool extraction (suc (suc (suc m))) n l i j os = absurd (omega arith)
unfit-bool concat zero n l i j os = absurd (n refl)
unfit-bool concat (suc zero) n l i j os = stuck-finish os
unfit-bool concat (suc (suc zero)) n l i j os = stuck-finish os
unfit-bool concat (suc (suc (suc m))) n l i j os = absurd (omega arith)
unfit-bool extension zero n l i j os = stuck-finish os
unfit-bool extension (suc zero) n l i j os = absurd (n refl)
unfit-bool extension (suc (suc zero)) n l i j os = stuck-finish os
unfit-bool extension (suc (suc (suc m))) n l i j os = absurd (omega arith)
unfit-bool ite zero n l i j os = absurd (n refl)
unfit-bool ite (suc zero) n l i j os = stuck-finish os
unfit-bool ite (suc (suc zero)) n l i j os = stuck-finish os
unfit-bool ite (suc (suc (suc m))) n l i j os = absurd (omega arith)
unfit-bool comparison zero n l i j os = absurd (n refl)
unfit-bool comparison (suc zero) n l i j os = stuck-finish os
unfit-bool comparison (suc (suc zero)) n l i j os = stuck-finish os
unfit-bool comparison (suc (suc (suc m))) n l i j os = absurd (omega arith)
unfit-bool negation zero n l i j os = absurd (n refl)
unfit-bool negation (suc zero) n l i j os = stuck-finish os
unfit-bool negation (suc (suc zero)) n l i j os = stuck-finish os
unfit-bool negation (suc (suc (suc m))) n l i j os = absurd (omega arith)
unfit-bool connective zero n l i j os = absurd (n refl)
unfit-bool connective (suc zero) n l i j os = stuck-finish os
unfit-bool connective (suc (suc zero)) n l i j os = stuck-finish os
unfit-bool connective (suc (suc (suc m))) n l i j os = absurd (omega arith)
unfit-bool unary zero n l i j os = absurd (n refl)
unfit-bool unary (suc zero) n l i j os = stuck-finish os
unfit-bool unary (suc (suc zero)) n l i j os = stuck-finish os
unfit-bool unary (suc (suc (suc m))) n l i j os = absurd (omega arith)
unfit-bool Shape.select zero n l i j os = absurd (n refl)
unfit-bool Shape.select (suc zero) n l i j os = stuck-finish os
unfit-bool Shape.select (suc (suc zero)) n l i j os = stuck-finish os
unfit-bool Shape.select (suc (suc (suc m))) n l i j os = absurd (omega arith)
unfit-bool Shape.call zero n l i j os = absurd (n refl)
unfit-bool Shape.call (suc zero) n l i j os = stuck-finish os
unfit-bool Shape.call (suc (suc zero)) n l i j os = stuck-finish os
unfit-bool Shape.call (suc (suc (suc m))) n l i j os = absurd (omega arith)
unfit-bool unknown zero n l i j os = absurd (n refl)
unfit-bool unknown (suc zero) n l i j os = stuck-finish os
unfit-bool unknown (suc (suc zero)) n l i j os = stuck-finish os
unfit-bool unknown (suc (suc (suc m))) n l i j os = absurd (omega arith)

unfit-vector : (h : Shape) (m : ℕ) → (m ≡ numeral_count h → ⊥) → m ≤ 2 → (i j v : ℕ) (os : List (Option TreeSort)) → finish (after_vector h (numerals_of m i j) v) os ≡ none
unfolding after_vector numerals_of
unfit-vector var zero n l i j v os = absurd (n refl)
unfit-vector var (suc zero) n l i j v os = stuck-finish os
unfit-vector var (suc (suc zero)) n l i j v os = stuck-finish os
unfit-vector var (suc (suc (suc m))) n l i j v os = absurd (omega arith)
unfit-vector const zero n l i j v os = absurd (n refl)
unfit-vector const (suc zero) n l i j v os = stuck-finish os
unfit-vector const (suc (suc zero)) n l i j v os = stuck-finish os
unfit-vector const (suc (suc (suc m))) n l i j v os = absurd (omega arith)
unfit-vector binary zero n l i j v os = absurd (n refl)
unfit-vector binary (suc zero) n l i j v os = stuck-finish os
unfit-vector binary (suc (suc zero)) n l i j v os = stuck-finish os
unfit-vector binary (suc (suc (suc m))) n l i j v os = absurd (omega arith)
unfit-vector rotation zero n l i j v os = stuck-finish os
unfit-vector rotation (suc zero) n l i j v os = absurd (n refl)
unfit-vector rotation (suc (suc zero)) n l i j v os = stuck-finish os
unfit-vector rotation (suc (suc (suc m))) n l i j v os = absurd (omega arith)
unfit-vector extraction zero n l i j v os = stuck-finish os
unfit-vector extraction (suc zero) n l i j v os = stuck-finish os
unfit-vector extraction (suc (suc zero)) n l i j v os = absurd (n refl)
unfit-vector extraction (suc (suc (suc m))) n l i j v os = absurd (omega arith)
unfit-vector concat zero n l i j v os = absurd (n refl)
unfit-vector concat (suc zero) n l i j v os = stuck-finish os
unfit-vector concat (suc (suc zero)) n l i j v os = stuck-finish os
unfit-vector concat (suc (suc (suc m))) n l i j v os = absurd (omega arith)
unfit-vector extension zero n l i j v os = stuck-finish os
unfit-vector extension (suc zero) n l i j v os = absurd (n refl)
unfit-vector extension (suc (suc zero)) n l i j v os = stuck-finish os
unfit-vector extension (suc (suc (suc m))) n l i j v os = absurd (omega arith)
unfit-vector ite zero n l i j v os = absurd (n refl)
unfit-vector ite (suc zero) n l i j v os = stuck-finish os
unfit-vector ite (suc (suc zero)) n l i j v os = stuck-finish os
unfit-vector ite (suc (suc (suc m))) n l i j v os = absurd (omega arith)
unfit-vector comparison zero n l i j v os = absurd (n refl)
unfit-vector comparison (suc zero) n l i j v os = stuck-finish os
unfit-vector comparison (suc (suc zero)) n l i j v os = stuck-finish os
unfit-vector comparison (suc (suc (suc m))) n l i j v os = absurd (omega arith)
unfit-vector negation zero n l i j v os = absurd (n refl)
unfit-vector negation (suc zero) n l i j v os = stuck-finish os
unfit-vector negation (suc (suc zero)) n l i j v os = stuck-finish os
unfit-vector negation (suc (suc (suc m))) n l i j v os = absurd (omega arith)
unfit-vector connective zero n l i j v os = absurd (n refl)
unfit-vector connective (suc zero) n l i j v os = stuck-finish os
unfit-vector connective (suc (suc zero)) n l i j v os = stuck-finish os
unfit-vector connective (suc (suc (suc m))) n l i j v os = absurd (omega arith)
unfit-vector unary zero n l i j v os = absurd (n refl)
unfit-vector unary (suc zero) n l i j v os = stuck-finish os
unfit-vector unary (suc (suc zero)) n l i j v os = stuck-finish os
unfit-vector unary (suc (suc (suc m))) n l i j v os = absurd (omega arith)
unfit-vector Shape.select zero n l i j v os = absurd (n refl)
unfit-vector Shape.select (suc zero) n l i j v os = stuck-finish os
unfit-vector Shape.select (suc (suc zero)) n l i j v os = stuck-finish os
unfit-vector Shape.select (suc (suc (suc m))) n l i j v os = absurd (omega arith)
unfit-vector Shape.call zero n l i j v os = absurd (n refl)
unfit-vector Shape.call (suc zero) n l i j v os = stuck-finish os
unfit-vector Shape.call (suc (suc zero)) n l i j v os = stuck-finish os
unfit-vector Shape.call (suc (suc (suc m))) n l i j v os = absurd (omega arith)
unfit-vector unknown zero n l i j v os = absurd (n refl)
unfit-vector unknown (suc zero) n l i j v os = stuck-finish os
unfit-vector unknown (suc (suc zero)) n l i j v os = stuck-finish os
unfit-vector unknown (suc (suc (suc m))) n l i j v os = absurd (omega arith)

unfit : (h : Shape) (m : ℕ) → (m ≡ numeral_count h → ⊥) → m ≤ 2 → (i j : ℕ) (os : List (Option TreeSort)) → finish (first h (numerals_of m i j)) os ≡ none
unfolding finish step close
unfit h m n l i j [] = refl
unfit h m n l i j (none ∷ os) = refl
unfit h m n l i j (some bool ∷ os) = unfit-bool h m n l i j os
unfit h m n l i j (some (bits v) ∷ os) = unfit-vector h m n l i j v os

no-operands : (D : Declarations) (h : Shape) (ks : List ℕ) → ((os : List (Option TreeSort)) → finish (first h ks) os ≡ none) → (f : ℕ) (b : List ℕ) → operands f D (first h ks) b ≡ none
unfolding operands of_sort
no-operands D h ks n f b = and-nothing (read_terms f D b) _ (λ ts r. ap (λ (o : Option TreeSort). of_sort o r) (n (tree_sorts D ts)))

fits : (h : Shape) (m : ℕ) → m ≡ numeral_count h → (D : Declarations) (ws : List ℕ) (i j f : ℕ) (b : List ℕ) → operands f D (first h (numerals_of m i j)) b ≡ rest f D (state_of ws (state_from h i j)) b
unfolding state_of numerals_of rest
fits var m e D ws i j f b = no-operands D var (numerals_of m i j) (outside var tt (numerals_of m i j)) f b ∙ sym (stuck-rest D f b)
fits const m e D ws i j f b = no-operands D const (numerals_of m i j) (outside const tt (numerals_of m i j)) f b ∙ sym (stuck-rest D f b)
fits binary m e D ws i j f b = ap (λ (k : ℕ). operands f D (first binary (numerals_of k i j)) b) e
fits rotation m e D ws i j f b = ap (λ (k : ℕ). operands f D (first rotation (numerals_of k i j)) b) e
fits extraction m e D ws i j f b = ap (λ (k : ℕ). operands f D (first extraction (numerals_of k i j)) b) e
fits concat m e D ws i j f b = ap (λ (k : ℕ). operands f D (first concat (numerals_of k i j)) b) e
fits extension m e D ws i j f b = ap (λ (k : ℕ). operands f D (first extension (numerals_of k i j)) b) e
fits ite m e D ws i j f b = ap (λ (k : ℕ). operands f D (first ite (numerals_of k i j)) b) e
fits comparison m e D ws i j f b = ap (λ (k : ℕ). operands f D (first comparison (numerals_of k i j)) b) e
fits negation m e D ws i j f b = ap (λ (k : ℕ). operands f D (first negation (numerals_of k i j)) b) e
fits connective m e D ws i j f b = ap (λ (k : ℕ). operands f D (first connective (numerals_of k i j)) b) e
fits unary m e D ws i j f b = ap (λ (k : ℕ). operands f D (first unary (numerals_of k i j)) b) e
fits Shape.select m e D ws i j f b = no-operands D Shape.select (numerals_of m i j) (outside Shape.select tt (numerals_of m i j)) f b ∙ sym (stuck-rest D f b)
fits Shape.call m e D ws i j f b = no-operands D Shape.call (numerals_of m i j) (outside Shape.call tt (numerals_of m i j)) f b ∙ sym (stuck-rest D f b)
fits unknown m e D ws i j f b = no-operands D unknown (numerals_of m i j) (outside unknown tt (numerals_of m i j)) f b ∙ sym (stuck-rest D f b)

plain-state : (h : Shape) (i j p m : ℕ) → state_from h i j ≡ Arguments p m → ⊥
plain-state var i j p m q = cc
plain-state const i j p m q = cc
plain-state binary i j p m q = cc
plain-state rotation i j p m q = cc
plain-state extraction i j p m q = cc
plain-state concat i j p m q = cc
plain-state extension i j p m q = cc
plain-state ite i j p m q = cc
plain-state comparison i j p m q = cc
plain-state negation i j p m q = cc
plain-state connective i j p m q = cc
plain-state unary i j p m q = cc
plain-state Shape.select i j p m q = cc
plain-state Shape.call i j p m q = cc
plain-state unknown i j p m q = cc

other-state : (h : Shape) (i j n : ℕ) → state_from h i j ≡ Done n → ⊥
other-state var i j n q = cc
other-state const i j n q = cc
other-state binary i j n q = cc
other-state rotation i j n q = cc
other-state extraction i j n q = cc
other-state concat i j n q = cc
other-state extension i j n q = cc
other-state ite i j n q = cc
other-state comparison i j n q = cc
other-state negation i j n q = cc
other-state connective i j n q = cc
other-state unary i j n q = cc
other-state Shape.select i j n q = cc
other-state Shape.call i j n q = cc
other-state unknown i j n q = cc

module _ (k m i j : ℕ) (s : code.Shape) {n : ℕ} (e : shape_in s ≡ shape_of k) (g : n ≡ numeral_count (shape_in s)) where
  pub state-unfit : (m ≡ n → ⊥) → StateIs k m i j Failed
  unfolding state_of
  state-unfit d = record {
    state = λ l D ws f b. no-operands D (shape_of k) (numerals_of m i j) (unfit (shape_of k) m (λ q. d (q ∙ sym (g ∙ ap numeral_count e))) l i j) f b ∙ sym (stuck-rest D f b);
    plain = λ p m q. cc;
    other = λ n q. cc;
  }

  pub state_fits : m ≡ n → {r : TermState} → r ≡ state_from (shape_in s) i j → StateIs k m i j r
  state_fits d {r} q =
      let u : r ≡ state_from (shape_of k) i j = q ∙ ap (λ (h : Shape). state_from h i j) e in
      record {
        state = λ _ D ws f b. fits (shape_of k) m (d ∙ g ∙ ap numeral_count e) D ws i j f b ∙ ap (λ (o : TermState). rest f D (state_of ws o) b) (sym u);
        plain = λ p q v. plain-state (shape_of k) i j p q (sym u ∙ v);
        other = λ q v. other-state (shape_of k) i j q (sym u ∙ v);
      }

-- the term begins with what follows its head
operator-sorted : (D : Declarations) (f k : ℕ) (ks b r : List ℕ) → read_term (suc (suc f)) D b ≡ and_then (read_terms f D r) (λ ts z. took (apply k ks ts) z) → sorted (suc (suc f)) D b ≡ operands f D (first (shape_of k) ks) r
unfolding sorted operands applied
operator-sorted D f k ks b r e = ap (λ (o : Option (Took Tree)). and_then o (λ t r. of_sort (tree_sort D t) r)) e ∙ operator-read D (some k) ks (read_terms f D r)

pub operator-going : {s : List ℕ} {D : Declarations} {a k m i j e : ℕ} {w : TermState} → OperatorAt s D a k m i j e → StateIs k m i j w → Going s D a w e
operator-going {s} {D} {a} {k} {m} {i} {j} {e} {w} x y = record {
  state = state_of [] w;
  held = record { sorts = []; is = refl; call = λ p n q. absurd (y.plain p n q) };
  low = let l = x.low in omega arith;
  moved = λ n q. absurd (y.other n q);
  high = x.high;
  reads = λ f l.
      let z : f ≡ suc (suc (f - 2)) = omega arith in
      let u = length-drop a s in
      let v = length-drop e s in
      let n = x.room in
      let o = x.high in (
        f - 2,
        omega arith,
        ap (λ (k : ℕ). sorted k D (drop a s)) z ∙ operator-sorted D (f - 2) k (numerals_of m i j) (drop a s) (drop e s) (x.read (f - 2) (omega arith))
            ∙ y.state x.few D [] (f - 2) (drop e s),
      );
}

-- ---------------------------------------------------------------- calls

argued-is : (D : Declarations) (f : ℕ) (ws : List ℕ) (w : ℕ) (r : List ℕ) → 0 < length ws → argued D f ws w r ≡ operands f D (arguments ws w) r
unfolding argued
argued-is D f [] w r l = absurd (omega arith)
argued-is D f (v ∷ ws) w r l = refl

call-sorted-by : (D : Declarations) (f : ℕ) (n : Name) (g : Function) (b r : List ℕ) → function_named D n ≡ some g → 0 < length g.arguments
    → read_term (suc (suc f)) D b ≡ and_then (read_terms f D r) (λ ts z. called n ts z) → sorted (suc (suc f)) D b ≡ operands f D (arguments g.arguments g.width) r
unfolding sorted called_by
call-sorted-by D f n g b r e l q =
    ap (λ (o : Option (Took Tree)). and_then o (λ t r. of_sort (tree_sort D t) r)) q ∙ call-read D f n (some g) e r ∙ argued-is D f g.arguments g.width r l

pub call-going : {s : List ℕ} {D : Declarations} {a g p w e : ℕ} → CallAt s D a g p w e → Going s D a (Arguments p w) e
unfolding state_of rest
call-going {s} {D} {a} {g} {p} {w} {e} x = record {
  state = waits (arguments (function_at D g).arguments w);
  held = record { sorts = (function_at D g).arguments; is = refl; call = λ q m k. let z : p ≡ q = cc in subst (λ (u : ℕ). ArgumentsAt s u (function_at D g).arguments) z x.entry.arguments };
  low = let l = x.low in omega arith;
  moved = λ n q. absurd (let z : ⊥ = cc in z);
  high = x.high;
  reads = λ f l.
      let z : f ≡ suc (suc (f - 2)) = omega arith in
      let u = length-drop a s in
      let v = length-drop e s in
      let n = x.low in
      let o = x.high in (
        f - 2,
        omega arith,
        ap (λ (k : ℕ). sorted k D (drop a s)) z
            ∙ call-sorted-by D (f - 2) (name_to s (a + 2) e) (function_at D g) (drop a s) (drop e s) (function-named D (name_to s (a + 2) e) g x.entry.numbers.function) x.some_arguments (x.read (f - 2))
            ∙ ap (λ (k : ℕ). operands (f - 2) D (arguments (function_at D g).arguments k) (drop e s)) x.entry.width,
      );
}

-- ---------------------------------------------------------------- selects

-- only the widths of the array matter
same-widths : (D : Declarations) (a : Array) (i v : ℕ) → a.index ≡ i → a.value ≡ v → (n g : ℕ) (b : List ℕ) → stores_then g D a n b ≡ stores_then g D (widths i v) n b
unfolding stores_then
same-widths D a i v p q zero g b = (λ k. and_then (operand_of g D (p k) b) (λ _ y. and_then (expect (bytes ")") y) (λ _ z. of_sort (if_proper (bits (q k))) z)))
same-widths D a i v p q (suc n) g b =
    (λ k. and_then (operand_of g D (p k) b) (λ _ y. and_then (operand_of g D (q k) y) (λ _ x. and_then (expect (bytes ")") x) (λ _ z. stores_then (suc g) D a n z))))
    ∙ and_same (operand_of g D i b) _ _ (λ _ y. and_same (operand_of g D v y) _ _ (λ _ x. and_same (expect (bytes ")") x) _ _ (λ _ z. same-widths D a i v p q n (suc g) z)))

pub select-going : {s : List ℕ} {D : Declarations} {a k i v n e : ℕ} → SelectAt s D a k i v n e → Going s D a (Index (record { index = i; value = v; left = n })) e
unfolding state_of rest bytes
select-going {s} {D} {a} {k} {i} {v} {n} {e} x = record {
  state = index i v n;
  held = record { sorts = []; is = refl; call = λ p m q. absurd (let z : ⊥ = cc in z) };
  low = let l = x.name.low in omega arith;
  moved = λ n q. absurd (let z : ⊥ = cc in z);
  high = x.name.high;
  reads = λ f l.
      let o : length (drop a s) ≡ suc (suc (suc (suc (suc (suc (suc (suc (length (opened n (124 ∷ drop (select_name a n) s)))))))))) = ap length x.begins in
      let m = opened-long n (124 ∷ drop (select_name a n) s) in
      let j = raised_by n (suc (f - 3 - n)) in
      let z : f ≡ suc (suc (raised n (suc (f - 3 - n)))) = omega arith in
      let u = length-drop a s in
      let w = length-drop e s in
      let y = x.name.low in
      let t = x.name.high in (
        suc (f - 3 - n),
        omega arith,
        ap (λ (k : ℕ). sorted k D (drop a s)) z ∙ ap (sorted (suc (suc (raised n (suc (f - 3 - n))))) D) x.begins
            ∙ select-sorted D (name_to s (select_name a n) e) (array_at D k) (array-named D (name_to s (select_name a n) e) k x.entry.numbers.array) n (f - 3 - n) (drop (select_name a n) s) (drop e s) x.name.read
            ∙ same-widths D (array_at D k) i v x.entry.index x.entry.value n (suc (f - 3 - n)) (drop e s),
      );
}

-- ---------------------------------------------------------------- by the enum

module _ (s : List ℕ) (D : Declarations) (a : ℕ) {r : Head} (x : HeadAt s D a (Some r)) where
  told : {h : Head} → r ≡ h → HeadAt s D a (Some h)
  told q = subst (λ (h : Head). HeadAt s D a (Some h)) q x

  pub head-constant : {e : ℕ} → r ≡ Constant e → ConstantAt s D a e
  head-constant q = told q

  pub head-variable : {k w e : ℕ} → r ≡ Variable k w e → VariableAt s D a k w e
  head-variable q = told q

  pub head-nullary : {g w e : ℕ} → r ≡ Nullary g w e → NullaryAt s D a g w e
  head-nullary q = told q

  pub head-operator : {k m i j e : ℕ} → r ≡ Operator k m i j e → OperatorAt s D a k m i j e
  head-operator q = told q

  pub head-call : {g p w e : ℕ} → r ≡ Call g p w e → CallAt s D a g p w e
  head-call q = told q

  pub head-select : {k i v n e : ℕ} → r ≡ Select k i v n e → SelectAt s D a k i v n e
  head-select q = told q

-- ---------------------------------------------------------------- a term that is begun

pub failed-going : {s : List ℕ} {D : Declarations} {a : ℕ} → OpenedIs s D a None → a ≤ length s → Going s D a Failed a
unfolding state_of
failed-going {s} {D} {a} x l = record {
  state = waits stuck;
  held = record { sorts = []; is = refl; call = λ p m k. absurd (let z : ⊥ = cc in z) };
  low = omega arith;
  moved = λ n k. absurd (let z : ⊥ = cc in z);
  high = l;
  reads = λ g m. (g, omega arith, x g m ∙ sym (stuck-rest D g (drop a s)));
}
