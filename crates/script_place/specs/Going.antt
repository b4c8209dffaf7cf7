-- What the head of a term tells: the term is placed, or it is a call without arguments, or its operands begin.
use Rattle.std.specs.Prelude.{ℕ, suc, ◌+◌, ◌-◌, ◌≤◌, ◌<◌, ◌≡◌, refl, List, length, drop, Result, Ok, Err, Some, None}
use Rattle.std.proofs.Math.Path.{ap, sym, subst}
use Rattle.std.proofs.Common.{◌∙◌}
use Rattle.std.proofs.Math.Option.{Option, none, some}
use native.Mathlib.Omega.{arith}
use Rattle.reading.specs.Trees.{Tree, Trees, Declarations}
use Rattle.echo_spec.specs.TreeSorts.{TreeSort, bits as vector, width_of, tree_sort}
use Rattle.readback.specs.Rebuild.{here, pending, Put, number_or0, put, variable_number}
use Rattle.readback.specs.Reader.{Took, took}
use Rattle.reader_laws.specs.TermsStrict.{impossible, took-both}
use Rattle.sort_reader.specs.Sorted.{sorted}
use Rattle.sort_reader.specs.Selects.{raised, raised_by}
use Rattle.smtlib.specs.Readings.{bits_of}
use Rattle.script_tokens.specs.Reached.{between}
use Rattle.heap_laws.specs.Heap.{Held}
use Rattle.heap_laws.specs.declared.Heap.{Heap}
use Rattle.heap_laws.specs.declared.OverLimit.{OverLimit}
use Rattle.heap_laws.specs.Within.{within-parts}
use Rattle.place_laws.specs.Ahead.{Ahead}
use Rattle.place_laws.specs.Operands.{operands_of}
use Rattle.place_laws.specs.SoFar.{NoLeaf, open-room}
use Rattle.place_laws.specs.Steps.{more-steps}
use Rattle.script_entries.specs.Entries.{Known}
use Rattle.script_heads.specs.declared.Head.{Head}
use Rattle.script_heads.specs.declared.Head.TheVariants.{Constant, Variable, Nullary, Operator, Call, Select}
use Rattle.script_heads.specs.Heads.{numerals_of, name_to, HeadAt, NothingAt, ConstantAt, VariableAt}
use Rattle.script_names.specs.declared.Table.{Table}
use Rattle.script_header.specs.declared.Header.{Header}
use Rattle.script_terms.specs.declared.TermState.TheVariants as states
use Rattle.script_terms.specs.States.{sort_from, rest, state_of, enough, SortAt, Going as Reads}
use Rattle.script_terms.specs.SortLaws.{term-sorted}
use Rattle.script_terms.specs.Turns.{head_end}
use Rattle.script_terms.specs.OpenLaws.{nothing-open, constant-going, variable-going, nullary-going}
use Rattle.script_place.specs.declared.Unread.{Unread}
use Rattle.script_place.specs.declared.Unread.TheVariants.{NoScript, Limit}
use Rattle.script_place.specs.declared.Operand.TheVariants.{Node, Constant as Digits}
use Rattle.script_place.specs.declared.Placed.{Placed}
use Rattle.script_place.specs.declared.Begun.{Begun}
use Rattle.script_place.specs.declared.Begun.TheVariants.{Done, Nullary as Alone, Open}
use Rattle.script_place.specs.declared.Nullary.{Nullary as Applied}
use Rattle.script_place.specs.Terms.{Term, State, SortIs, PlacedAs, PlacedAt, BegunTo, Finished, Opening}
use Rattle.script_place.specs.Forms.{leaf-form, no-head, operator-form, call-form, select-form, constant-digits}
use Rattle.script_place.specs.Closing.{operands-of-apply, operands-of-call, operands-of-select}

-- ---------------------------------------------------------------- a term that is there, and the sort that is told

-- its sort, of enough steps
pub sorted-at : {s : List ℕ} {t : Table} {h : Header} {at : ℕ} (q : Term s t h at) → (f : ℕ) × (enough s at ≤ f) × (sorted f q.declarations (drop at s) ≡ took q.sort q.rest)
sorted-at {s} {t} {h} {at} q = (
  raised (enough s at) q.steps,
  (let z = raised_by (enough s at) q.steps in omega arith),
  term-sorted (raised (enough s at) q.steps) q.declarations (drop at s) q.tree q.sort q.rest
      (more-steps q.declarations (enough s at) q.steps (drop at s) q.tree q.rest q.read) q.sorted,
)

told : {s : List ℕ} {t : Table} {h : Header} {at : ℕ} (q : Term s t h at) (o : Option (Took TreeSort)) → ((f : ℕ) → enough s at ≤ f → sorted f q.declarations (drop at s) ≡ o) → o ≡ took q.sort q.rest
told q o k = let (f, l, e) = sorted-at q in sym (k f l) ∙ e

pub unsorted : {s : List ℕ} {t : Table} {h : Header} {at : ℕ} (q : Term s t h at) → SortAt s q.declarations at None → ⊥
unsorted q k = impossible (told q none k)

pub sorts-as : {s : List ℕ} {t : Table} {h : Header} {at : ℕ} (q : Term s t h at) (n e : ℕ) → SortAt s q.declarations at (Some (record { sort = n; end = e })) → (sort_from n ≡ q.sort) × (drop e s ≡ q.rest)
sorts-as {s} {t} {h} {at} q n e k = took-both (sort_from n) q.sort (drop e s) q.rest (told q (took (sort_from n) (drop e s)) k.2)

-- ---------------------------------------------------------------- by the head

-- a term that its head is
leaf-sort : {s : List ℕ} {D : Declarations} {a w e : ℕ} → Reads s D a (states.Done w) e → SortAt s D a (Some (record { sort = w; end = e }))
unfolding state_of rest
leaf-sort {s} {D} {a} {w} {e} x = (x.moved _ refl, x.high, λ f l. let (g, m, k) = x.reads f l in k ∙ ap (λ o. rest g D o (drop e s)) x.held.is)

module _ (s : List ℕ) (D : Declarations) (at : ℕ) where
  done-is : (a b : Placed) → SortIs s D at (Ok b) → ◌≡◌ {A = Begun} (Done a) (Done b) → SortIs s D at (Ok a)
  done-is a b k e = let f : a ≡ b = cc in subst (λ (z : Placed). SortIs s D at (Ok z)) (sym f) k

  -- ITS SORT, where its head places it.
  pub done-sorts : (x : Head) → HeadAt s D at (Some x) → (p : Placed) → BegunTo x at (Done p) → SortIs s D at (Ok p)
  done-sorts (Constant f) k p e = done-is p (record { operand = Digits (at + 2); width = f - (at + 2); end = f }) (leaf-sort (constant-going k)) e
  done-sorts (Variable i w f) k p e = done-is p (record { operand = Node i; width = w; end = f }) (leaf-sort (variable-going k)) e
  done-sorts (Nullary f w z) k p e = absurd (let y : ◌≡◌ {A = ℕ} 0 1 = cc in omega arith)
  done-sorts (Operator i m a b f) k p e = absurd (let y : ◌≡◌ {A = ℕ} 0 1 = cc in omega arith)
  done-sorts (Call f i w z) k p e = absurd (let y : ◌≡◌ {A = ℕ} 0 1 = cc in omega arith)
  done-sorts (Select a i v n f) k p e = absurd (let y : ◌≡◌ {A = ℕ} 0 1 = cc in omega arith)

pub alone-sorts : {s : List ℕ} {D : Declarations} {at g w e : ℕ} → HeadAt s D at (Some (Nullary g w e)) → (r : Result ℕ OverLimit) (p : Result Placed Unread) → Finished r w e p → SortIs s D at p
alone-sorts {s} {D} {at} k (Err _) p f = subst (SortIs s D at) (sym f) tt
alone-sorts {s} {D} {at} k (Ok i) p f = subst (SortIs s D at) (sym f) (leaf-sort (nullary-going k))

-- a call without arguments
pub alone-head : (at : ℕ) (x : Head) (c : Applied) → BegunTo x at (Alone c) → x ≡ Nullary c.function c.width c.end
alone-head at (Constant z) c k = absurd (let y : ◌≡◌ {A = ℕ} 0 1 = cc in omega arith)
alone-head at (Variable i v z) c k = absurd (let y : ◌≡◌ {A = ℕ} 0 1 = cc in omega arith)
alone-head at (Nullary i v z) c k =
    let f : c ≡ record { function = i; width = v; end = z } = cc in
    λ j. Nullary (sym f j).function (sym f j).width (sym f j).end
alone-head at (Operator i m a b z) c k = absurd (let y : ◌≡◌ {A = ℕ} 0 1 = cc in omega arith)
alone-head at (Call i p v z) c k = absurd (let y : ◌≡◌ {A = ℕ} 0 1 = cc in omega arith)
alone-head at (Select a i v n z) c k = absurd (let y : ◌≡◌ {A = ℕ} 0 1 = cc in omega arith)

-- a term with operands
pub open-opens : (at : ℕ) (x : Head) → BegunTo x at Open → Opening x
open-opens at (Constant z) k = absurd (let y : ◌≡◌ {A = ℕ} 0 1 = cc in omega arith)
open-opens at (Variable i v z) k = absurd (let y : ◌≡◌ {A = ℕ} 0 1 = cc in omega arith)
open-opens at (Nullary i v z) k = absurd (let y : ◌≡◌ {A = ℕ} 0 1 = cc in omega arith)
open-opens at (Operator i m a b z) k = tt
open-opens at (Call i p v z) k = tt
open-opens at (Select a i v n z) k = tt

-- a term whose operands begin at place e, with n stores to close
pub record Opened {s : List ℕ} {t : Table} {h : Header} {at : ℕ} (q : Term s t h at) (x : Head) (e n : ℕ) : Type 0 where
  pub low : at < e
  pub high : e ≤ length s
  pub leaf : NoLeaf q.tree
  pub opens : Opening x
  pub ahead : Ahead q.declarations n (drop e s) (operands_of q.tree) q.rest

module _ {s : List ℕ} {t : Table} {h : Header} {heap : Heap} {at levels : ℕ} (q : Term s t h at) (g : State q.declarations s heap levels) where
  abbrev D : Declarations
  D = q.declarations

  operator-opened : {k m i j e : ℕ} → HeadAt s D at (Some (Operator k m i j e)) → Opened q (Operator k m i j e) e 0
  operator-opened {k} {m} {i} {j} {e} x =
      let (ts, is, a) = operator-form s D at q.steps q.tree q.rest q.read x in
      record {
        low = x.low;
        high = x.high;
        leaf = subst NoLeaf (sym is) tt;
        opens = tt;
        ahead = subst (λ (us : Trees). Ahead D 0 (drop e s) us q.rest) (sym (ap operands_of is ∙ operands-of-apply k (numerals_of m i j) ts)) a;
      }

  call-opened : {k p w e : ℕ} → HeadAt s D at (Some (Call k p w e)) → Opened q (Call k p w e) e 0
  call-opened {k} {p} {w} {e} x =
      let (ts, is, a) = call-form s D at q.steps q.tree q.rest q.read x in
      record {
        low = (let l = x.low in omega arith);
        high = x.high;
        leaf = subst NoLeaf (sym is) tt;
        opens = tt;
        ahead = subst (λ (us : Trees). Ahead D 0 (drop e s) us q.rest) (sym (ap operands_of is ∙ operands-of-call (name_to s (at + 2) e) ts)) a;
      }

  select-opened : {a i v n e : ℕ} → HeadAt s D at (Some (Select a i v n e)) → Opened q (Select a i v n e) e n
  select-opened {a} {i} {v} {n} {e} x =
      let (j, ss, is, a₁, _) = select-form s D at q.steps q.tree q.rest q.read x in
      record {
        low = (let l = x.name.low in omega arith);
        high = x.name.high;
        leaf = subst NoLeaf (sym is) tt;
        opens = tt;
        ahead = subst (λ (us : Trees). Ahead D n (drop e s) us q.rest) (sym (ap operands_of is ∙ operands-of-select _ j ss)) a₁;
      }

  -- no node more fits
  too-deep : NoLeaf q.tree → 2048 ≤ heap.count + levels → PlacedAs q g heap (Err Limit)
  too-deep n l r =
      let k = open-room D levels g.side q.tree g.items n r in
      let c = g.held.count in
      omega arith

  constant-placed : (e : ℕ) → ConstantAt s D at e → PlacedAs q g heap (Ok (record { operand = Digits (at + 2); width = e - (at + 2); end = e }))
  unfolding put
  constant-placed e x =
      let (is, r) = leaf-form s D at q.steps q.tree q.rest q.read _ e x.read in
      let z : some (vector (e - (at + 2))) ≡ some q.sort = sym x.sort ∙ ap (tree_sort D) is ∙ q.sorted in
      let d = constant-digits s D at (suc q.steps) _ (drop e s) (x.read q.steps) in
      let l = x.low in
      let k = x.high in
      let counted : at + 2 + (e - (at + 2)) ≡ e = omega arith in
      let p : put D q.tree g.items ≡ record { items = g.items; ref = pending _ } = ap (λ (u : Tree). put D u g.items) (sym is) in (
        record {
          low = omega arith;
          high = k;
          ends = sym r;
          wide = ap width_of z;
          is = ap (λ (y : Put). y.ref) p ∙ ap pending (sym d);
          held = subst (λ (y : Put). Held heap y.items) (sym p) g.held;
          stacked = g.stacked;
        },
        (omega arith, ap (λ (j : ℕ). bits_of (between s (at + 2) j)) counted ∙ sym d),
      )

  variable-placed : (k w e : ℕ) → VariableAt s D at k w e → PlacedAs q g heap (Ok (record { operand = Node k; width = w; end = e }))
  unfolding put
  variable-placed k w e x =
      let (is, r) = leaf-form s D at q.steps q.tree q.rest q.read _ e x.read in
      let z : some (vector w) ≡ some q.sort = sym x.sort ∙ ap (tree_sort D) is ∙ q.sorted in
      let p : put D q.tree g.items ≡ record { items = g.items; ref = here (number_or0 (variable_number D (name_to s (at + 1) e))) } = ap (λ (u : Tree). put D u g.items) (sym is) in
      let l = x.low in
      let b = x.entry.low in
      let c = g.variables in
      let m = (within-parts g.items g.held.inside).nodes in (
        record {
          low = omega arith;
          high = x.high;
          ends = sym r;
          wide = ap width_of z;
          is = ap (λ (y : Put). y.ref) p ∙ ap (λ (o : Option ℕ). here (number_or0 o)) x.entry.numbers.variable;
          held = subst (λ (y : Put). Held heap y.items) (sym p) g.held;
          stacked = g.stacked;
        },
        omega arith,
      )

  done-as : (a b : Placed) → PlacedAs q g heap (Ok b) → ◌≡◌ {A = Begun} (Done a) (Done b) → PlacedAs q g heap (Ok a)
  done-as a b k e = let f : a ≡ b = cc in subst (λ (z : Placed). PlacedAs q g heap (Ok z)) (sym f) k

  -- A TERM THAT ITS HEAD PLACES.
  pub done-placed : (x : Head) → HeadAt s D at (Some x) → (p : Placed) → BegunTo x at (Done p) → PlacedAs q g heap (Ok p)
  done-placed (Constant f) k p e = done-as p (record { operand = Digits (at + 2); width = f - (at + 2); end = f }) (constant-placed f k) e
  done-placed (Variable i w f) k p e = done-as p (record { operand = Node i; width = w; end = f }) (variable-placed i w f k) e
  done-placed (Nullary f w z) k p e = absurd (let y : ◌≡◌ {A = ℕ} 0 1 = cc in omega arith)
  done-placed (Operator i m a b f) k p e = absurd (let y : ◌≡◌ {A = ℕ} 0 1 = cc in omega arith)
  done-placed (Call f i w z) k p e = absurd (let y : ◌≡◌ {A = ℕ} 0 1 = cc in omega arith)
  done-placed (Select a i v n f) k p e = absurd (let y : ◌≡◌ {A = ℕ} 0 1 = cc in omega arith)

  opened-same : (x : Head) (e n f : ℕ) → Opened q x e n → f ≡ e → Opened q x f n
  opened-same x e n f o a = subst (λ (y : ℕ). Opened q x y n) (sym a) o

  -- A TERM WITH OPERANDS.
  pub open-head : (x : Head) → HeadAt s D at (Some x) → Opening x → (f : ℕ) → f ≡ head_end x → (n : ℕ) × Opened q x f n
  open-head (Constant z) k o f e = absurd o
  open-head (Variable i v z) k o f e = absurd o
  open-head (Nullary i v z) k o f e = absurd o
  open-head (Operator i m a b z) k o f e = (0, opened-same _ z 0 f (operator-opened k) e)
  open-head (Call i p v z) k o f e = (0, opened-same _ z 0 f (call-opened k) e)
  open-head (Select a i v n z) k o f e = (n, opened-same _ z n f (select-opened k) e)

-- a term that its head places, told
pub done_at : {s : List ℕ} {t : Table} {h : Header} {heap : Heap} {at levels : ℕ} (x : Head) → ((D : Declarations) → Known s t h D → HeadAt s D at (Some x)) → (p : Placed) → BegunTo x at (Done p)
    → PlacedAt s t h heap at levels heap (Ok p)
done_at {s} {t} {h} {heap} {at} {levels} x k p b = record {
  sorted = λ D κ. done-sorts s D at x (k D κ) p b;
  placed = λ q g. done-placed q g x (k q.declarations q.known) p b;
}

-- nothing that begins, told
pub nothing-at : {s : List ℕ} {t : Table} {h : Header} {heap : Heap} {at levels : ℕ} → ((D : Declarations) → Known s t h D → NothingAt s D at) → PlacedAt s t h heap at levels heap (Err NoScript)
nothing-at {s} {at = at} k = record {
  sorted = λ D κ. nothing-open (k D κ);
  placed = λ q g. no-head s q.declarations at q.steps q.tree q.rest q.read q.sort q.sorted (k q.declarations q.known);
}

-- no node more fits, told
pub deep-at : {s : List ℕ} {t : Table} {h : Header} {heap : Heap} {at levels : ℕ} (x : Head) → ((D : Declarations) → Known s t h D → HeadAt s D at (Some x)) → Opening x → 2048 ≤ heap.count + levels
    → PlacedAt s t h heap at levels heap (Err Limit)
deep-at x k o l = record { sorted = λ D κ. tt; placed = λ q g. too-deep q g (open-head q g x (k q.declarations q.known) o (head_end x) refl).1.leaf l }
