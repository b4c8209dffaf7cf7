-- 9 of a script's problem, part by part: its nodes, its roots, the entries and the names of each table.
use Rattle.std.specs.Prelude.{ℕ, suc, ◌≤◌, ◌≡◌, List, [], ◌∷◌, map, ◌&&◌, Option, Some, None}
use Rattle.std.proofs.Math.Path.{refl, subst}
use Rattle.std.proofs.Common.{ap, sym, arith}
use Rattle.std.proofs.Math.Bool.{Bool, true}
use Rattle.std.proofs.Math.Dec.{T, leb, leb→le, le→leb}
use Rattle.std.proofs.Math.ListN.{length}
use Rattle.std.proofs.lemmas.List.{length-map}
use Rattle.lists.specs.Tests.{every, by-test, and_T, and_0, and-1}
use Rattle.reading.specs.Trees.{Name, Tree, Variable, Array, Function, Declarations, Reading}
use Rattle.echo_spec.specs.Input.{nodes_within, column_within, arena_within, within_limits}
use Rattle.readback.specs.Printable.{variable_names_in, array_names_in, function_names_in}
use Rattle.readback.specs.ScriptReader.{trees_from}
use Rattle.readback.specs.Records.{records_bytes, holdable, inputs}
use Rattle.readback.specs.Rebuild.{Item, put, put_all, node_of, records_from, bits_in, side_in, joined, starts_counted_from, count_from, arena, dag_for, placed, rebuild}
use Rattle.readback.specs.ReadAnswers.{limits_passed}
use Rattle.rebuilt.specs.Layout.{length-starts, length-count}
use Rattle.heap_laws.specs.Heap.{within}
use Rattle.script_rebuild.specs.ArenaLengths.{ArenasAre}
use Rattle.script_rebuild.specs.declared.Arenas.{Arenas}

-- a table keeps to its limits
pub record TableWithin (ns : List Name) : Type 0 where
  pub entries : length ns ≤ 512
  pub names : length (arena ns) ≤ 16384

pub record Passes (r : Reading) : Type 0 where
  pub items : T (within (placed r).items)
  pub roots : length (placed r).refs ≤ 256
  pub variables : TableWithin (variable_names_in r.declarations)
  pub arrays : TableWithin (array_names_in r.declarations)
  pub functions : TableWithin (function_names_in r.declarations)

module _ (r : Reading) where
  abbrev D : Declarations
  D = r.declarations

  abbrev items : List Item
  items = (placed r).items

  abbrev roots : List ℕ
  roots = map (node_of (placed r).items) (placed r).refs

  -- the columns and arenas in the order of the limits' test
  abbrev columns : List (List ℕ)
  columns =
      starts_counted_from 0 (variable_names_in D)
      ∷ map length (variable_names_in D)
      ∷ count_from 0 (length (variable_names_in D))
      ∷ map (λ (v : Variable). v.width) D.variables
      ∷ starts_counted_from 0 (array_names_in D)
      ∷ map length (array_names_in D)
      ∷ map (λ (a : Array). a.index) D.arrays
      ∷ map (λ (a : Array). a.value) D.arrays
      ∷ starts_counted_from 0 (function_names_in D)
      ∷ map length (function_names_in D)
      ∷ map (λ (f : Function). f.width) D.functions
      ∷ []

  abbrev arenas : List (List ℕ)
  arenas = arena (variable_names_in D) ∷ arena (array_names_in D) ∷ arena (function_names_in D) ∷ []

  abbrev parts : Bool
  parts =
      every holdable (records_from 0 0 items)
      && (nodes_within (records_bytes (records_from 0 0 items)) (joined bits_in items) (joined side_in items)
      && (leb (length roots) 256 && (every column_within columns && every arena_within arenas)))

  limits-are : limits_passed (rebuild r) ≡ parts
  unfolding limits_passed rebuild dag_for inputs within_limits
  limits-are = refl

  short : {A B : Type 0} (f : A → B) (l : List A) (n : ℕ) → length l ≤ n → length (map f l) ≤ n
  short f l n h = let e = length-map l f in omega (arith, e, h)

  short_back : {A B : Type 0} (f : A → B) (l : List A) (n : ℕ) → length (map f l) ≤ n → length l ≤ n
  short_back f l n h = let e = length-map l f in omega (arith, e, h)

  column : (l : List ℕ) → length l ≤ 512 → T (column_within l)
  unfolding column_within
  column l h = le→leb (length l) 512 h

  arena-in : (l : List ℕ) → length l ≤ 16384 → T (arena_within l)
  unfolding arena_within
  arena-in l h = le→leb (length l) 16384 h

  all_three : (x y z : Bool) → T x → T y → T z → T (x && (y && (z && true)))
  all_three x y z a b c = and_T x (y && (z && true)) a (and_T y (z && true) b (and_T z true c tt))

  pub passed : Passes r → T (limits_passed (rebuild r))
  unfolding within
  passed p =
      let v = p.variables.entries in
      let a = p.arrays.entries in
      let f = p.functions.entries in
      let vn = length-starts 0 (variable_names_in D) in
      let an = length-starts 0 (array_names_in D) in
      let fn = length-starts 0 (function_names_in D) in
      let vc = length-count 0 (length (variable_names_in D)) in
      let v' = short_back (λ (x : Variable). x.name) D.variables 512 v in
      let a' = short_back (λ (x : Array). x.name) D.arrays 512 a in
      let f' = short_back (λ (x : Function). x.name) D.functions 512 f in
      let c : T (every column_within columns) =
      and_T (column_within (starts_counted_from 0 (variable_names_in D))) _ (column _ (omega (arith, vn, v)))
      (and_T (column_within (map length (variable_names_in D))) _ (column _ (short length (variable_names_in D) 512 v))
      (and_T (column_within (count_from 0 (length (variable_names_in D)))) _ (column _ (omega (arith, vc, v)))
      (and_T (column_within (map (λ (x : Variable). x.width) D.variables)) _ (column _ (short (λ (x : Variable). x.width) D.variables 512 v'))
      (and_T (column_within (starts_counted_from 0 (array_names_in D))) _ (column _ (omega (arith, an, a)))
      (and_T (column_within (map length (array_names_in D))) _ (column _ (short length (array_names_in D) 512 a))
      (and_T (column_within (map (λ (x : Array). x.index) D.arrays)) _ (column _ (short (λ (x : Array). x.index) D.arrays 512 a'))
      (and_T (column_within (map (λ (x : Array). x.value) D.arrays)) _ (column _ (short (λ (x : Array). x.value) D.arrays 512 a'))
      (and_T (column_within (starts_counted_from 0 (function_names_in D))) _ (column _ (omega (arith, fn, f)))
      (and_T (column_within (map length (function_names_in D))) _ (column _ (short length (function_names_in D) 512 f))
      (and_T (column_within (map (λ (x : Function). x.width) D.functions)) true (column _ (short (λ (x : Function). x.width) D.functions 512 f')) tt)))))))))) in
      let e : T (every arena_within arenas) =
      all_three (arena_within (arena (variable_names_in D))) (arena_within (arena (array_names_in D))) (arena_within (arena (function_names_in D)))
      (arena-in _ p.variables.names) (arena-in _ p.arrays.names) (arena-in _ p.functions.names) in
      let n : T (leb (length roots) 256) = le→leb (length roots) 256 (short (node_of items) (placed r).refs 256 p.roots) in
      let h : Bool = every holdable (records_from 0 0 items) in
      let w : Bool = nodes_within (records_bytes (records_from 0 0 items)) (joined bits_in items) (joined side_in items) in
      subst T (sym limits-are)
      (and_T h _ (and_0 h w p.items) (and_T w _ (and-1 h w p.items) (and_T (leb (length roots) 256) _ n (and_T (every column_within columns) (every arena_within arenas) c e))))

  column-back : (l : List ℕ) → T (column_within l) → length l ≤ 512
  unfolding column_within
  column-back l h = leb→le (length l) 512 h

  arena-back : (l : List ℕ) → T (arena_within l) → length l ≤ 16384
  unfolding arena_within
  arena-back l h = leb→le (length l) 16384 h

  pub passes : T (limits_passed (rebuild r)) → Passes r
  unfolding within
  passes t =
      let h : Bool = every holdable (records_from 0 0 items) in
      let w : Bool = nodes_within (records_bytes (records_from 0 0 items)) (joined bits_in items) (joined side_in items) in
      let n : Bool = leb (length roots) 256 in
      let c : Bool = every column_within columns in
      let e : Bool = every arena_within arenas in
      let t₀ : T (h && (w && (n && (c && e)))) = subst T limits-are t in
      let t₁ : T (w && (n && (c && e))) = and-1 h (w && (n && (c && e))) t₀ in
      let t₂ : T (n && (c && e)) = and-1 w (n && (c && e)) t₁ in
      let t₃ : T (c && e) = and-1 n (c && e) t₂ in
      let places = by-test column_within columns (and_0 c e t₃) in
      let bytes = by-test arena_within arenas (and-1 c e t₃) in
      record {
        items = and_T h w (and_0 h (w && (n && (c && e))) t₀) (and_0 w (n && (c && e)) t₁);
        roots = short_back (node_of items) (placed r).refs 256 (leb→le (length roots) 256 (and_0 n (c && e) t₂));
        variables = record { entries = short_back length (variable_names_in D) 512 (column-back _ places.1.0); names = arena-back _ bytes.0 };
        arrays = record { entries = short_back length (array_names_in D) 512 (column-back _ places.1.1.1.1.1.0); names = arena-back _ bytes.1.0 };
        functions = record { entries = short_back length (function_names_in D) 512 (column-back _ places.1.1.1.1.1.1.1.1.1.0); names = arena-back _ bytes.1.1.0 };
      }

-- ---------------------------------------------------------------- roots

refs-counted : (D : Declarations) (ts : List Tree) (s : List Item) → length (put_all D (trees_from ts) s).refs ≡ length ts
unfolding put trees_from
refs-counted D [] s = refl
refs-counted D (t ∷ ts) s = ap suc (refs-counted D ts (put D t s).items)

-- there are as many roots as assertions
pub roots-counted : (D : Declarations) (ts : List Tree) → length (placed (record { declarations = D; assertions = trees_from ts })).refs ≡ length ts
unfolding placed
roots-counted D ts = refs-counted D ts _

-- ---------------------------------------------------------------- tables

pub record TablesWithin (D : Declarations) : Type 0 where
  pub variables : TableWithin (variable_names_in D)
  pub arrays : TableWithin (array_names_in D)
  pub functions : TableWithin (function_names_in D)

-- the three tables keep to their limits, and so long are their names
abbrev pub Tables : Declarations → Option Arenas → Type 0
Tables D (Some a) = TablesWithin D × ArenasAre D a
Tables D None = TablesWithin D → ⊥
