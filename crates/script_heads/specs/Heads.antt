-- The head of a term at a place of a script: what stands there, and what the reader of the specification makes of it. Each is said of the
-- reading of the tree, so that the sorts and the nodes of a term are both taken from it.
use Rattle.std.specs.Prelude.{ℕ, zero, suc, ◌+◌, ◌*◌, ◌-◌, ◌≤◌, ◌<◌, ◌≡◌, List, [], ◌∷◌, ◌++◌, T, length, drop}
use Rattle.std.specs.Prelude.{Option as Maybe, Some, None}
use Rattle.std.proofs.Math.Option.{Option, none, some}
use Rattle.lists.specs.Bytes.{bytes}
use Rattle.reading.specs.Trees.{Name, Tree, variable, constant, apply, select, call, none as noTrees, Stores, store, Declarations}
use Rattle.smtlib.specs.Readings.{bits_of}
use Rattle.echo_spec.specs.TreeSorts.{bits, proper, tree_sort}
use Rattle.readback.specs.Reader.{Took, took, and_then, expect, called, read_term, read_terms}
use Rattle.sort_reader.specs.Sorted.{sorted}
use Rattle.sort_reader.specs.Selects.{opened}
use Rattle.rebuilt.specs.Built.{function_at}
use Rattle.script_tokens.specs.Reached.{between}
use Rattle.script_names.specs.Entries.{Named}
use Rattle.script_entries.specs.Entries.{VariableIs, ArrayIs, FunctionIs}
use Rattle.script_heads.specs.declared.Head.{Head}
use Rattle.script_heads.specs.declared.Head.TheVariants.{Constant, Variable, Nullary, Operator, Call, Select}

-- the first m of two numerals
unfoldable pub numerals_of : ℕ → ℕ → ℕ → List ℕ
numerals_of zero i j = []
numerals_of (suc zero) i j = i ∷ []
numerals_of (suc (suc m)) i j = i ∷ j ∷ []

-- The rest of a select after the array's name, and the select: n stores to close, over those that were read, and the select's own index.
unfoldable pub select_then : ℕ → Declarations → Name → ℕ → Stores → List ℕ → Option (Took Tree)
select_then f D a zero ss b =
    and_then (expect (bytes " ") b) (λ _ x. and_then (read_term f D x) (λ j y. and_then (expect (bytes ")") y) (λ _ z. took (select a j ss) z)))
select_then f D a (suc n) ss b =
    and_then (expect (bytes " ") b) (λ _ x. and_then (read_term f D x) (λ i y. and_then (expect (bytes " ") y) (λ _ u. and_then (read_term f D u) (λ v p.
    and_then (expect (bytes ")") p) (λ _ z. select_then (suc f) D a n (store i v ss) z)))))

-- the name that stands from place a on, with its bar before place e
abbrev pub name_to : List ℕ → ℕ → ℕ → Name
name_to s a e = between s a (e - 1)

-- no term that has a sort begins here
pub record NothingAt (s : List ℕ) (D : Declarations) (at : ℕ) : Type 0 where
  pub unsorted : (f : ℕ) → length (drop at s) < f → sorted f D (drop at s) ≡ none

-- a constant: its digits stand from two places on up to place e
pub record ConstantAt (s : List ℕ) (D : Declarations) (at e : ℕ) : Type 0 where
  pub low : at + 2 < e
  pub high : e ≤ length s
  pub read : (f : ℕ) → read_term (suc f) D (drop at s) ≡ took (constant (bits_of (between s (at + 2) e))) (drop e s)
  pub sort : tree_sort D (constant (bits_of (between s (at + 2) e))) ≡ some (bits (e - (at + 2)))

-- the name of variable k, of width w
pub record VariableAt (s : List ℕ) (D : Declarations) (at k w e : ℕ) : Type 0 where
  pub low : at + 1 < e
  pub high : e ≤ length s
  pub entry : VariableIs D (name_to s (at + 1) e) k w
  pub read : (f : ℕ) → read_term (suc f) D (drop at s) ≡ took (variable (name_to s (at + 1) e)) (drop e s)
  pub sort : tree_sort D (variable (name_to s (at + 1) e)) ≡ some (bits w)

-- the name of function g, which has no arguments, of width w
pub record NullaryAt (s : List ℕ) (D : Declarations) (at g w e : ℕ) : Type 0 where
  pub low : at + 1 < e
  pub high : e ≤ length s
  pub place : ℕ
  pub entry : FunctionIs s D (name_to s (at + 1) e) g place w
  pub read : (f : ℕ) → read_term (suc f) D (drop at s) ≡ took (call (name_to s (at + 1) e) noTrees) (drop e s)
  pub sort : tree_sort D (call (name_to s (at + 1) e) noTrees) ≡ some (bits w)

-- the head of an operator of kind k with the first m of the numerals i and j; its operands begin at place e
pub record OperatorAt (s : List ℕ) (D : Declarations) (at k m i j e : ℕ) : Type 0 where
  pub low : at < e
  pub room : at + m < e
  pub high : e ≤ length s
  pub few : m ≤ 2
  pub read : (f : ℕ) → m < f → read_term (suc (suc f)) D (drop at s) ≡ and_then (read_terms f D (drop e s)) (λ ts z. took (apply k (numerals_of m i j) ts) z)

-- a call of function g, which has arguments, of width w; their sorts stand at place p, and the arguments begin at place e
pub record CallAt (s : List ℕ) (D : Declarations) (at g p w e : ℕ) : Type 0 where
  pub low : at + 2 < e
  pub high : e ≤ length s
  pub entry : FunctionIs s D (name_to s (at + 2) e) g p w
  pub some_arguments : 0 < length (function_at D g).arguments
  pub width-proper : T (proper (bits w))
  pub read : (f : ℕ) → read_term (suc (suc f)) D (drop at s) ≡ and_then (read_terms f D (drop e s)) (λ ts z. called (name_to s (at + 2) e) ts z)

-- where the array's name begins in a select under n stores
abbrev pub select_name : ℕ → ℕ → ℕ
select_name at n = at + 9 + 7 * n

-- A select on array a, of index width i and value width v, under n stores that open before its name; after the name comes place e. What is
-- read of it is `select_then` (law `select-tree` of `HeadLaws`).
pub record SelectAt (s : List ℕ) (D : Declarations) (at a i v n e : ℕ) : Type 0 where
  pub begins : drop at s ≡ 40 ∷ (bytes "select " ++ opened n (124 ∷ drop (select_name at n) s))
  pub name : Named s (select_name at n) e
  pub entry : ArrayIs D (name_to s (select_name at n) e) a i v
  pub index_fits : (0 < i) × (i ≤ 65536)
  pub value_fits : (0 < v) × (v ≤ 65536)

-- WHAT STANDS at a place: nothing that is the head of a term that has a sort, or one of these.
abbrev pub HeadAt : List ℕ → Declarations → ℕ → Maybe Head → Type 0
HeadAt s D at None = NothingAt s D at
HeadAt s D at (Some (Constant e)) = ConstantAt s D at e
HeadAt s D at (Some (Variable k w e)) = VariableAt s D at k w e
HeadAt s D at (Some (Nullary g w e)) = NullaryAt s D at g w e
HeadAt s D at (Some (Operator k m i j e)) = OperatorAt s D at k m i j e
HeadAt s D at (Some (Call g p w e)) = CallAt s D at g p w e
HeadAt s D at (Some (Select a i v n e)) = SelectAt s D at a i v n e
