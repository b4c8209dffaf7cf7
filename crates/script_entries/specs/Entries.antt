-- What a script's declarations are known by once its header is read, and what is told of a name by them.
use Rattle.std.specs.Prelude.{ℕ, ◌+◌, ◌-◌, ◌≤◌, ◌<◌, ◌≡◌, List, [], ◌∷◌, ◌++◌, Bool, T, length, drop}
use Rattle.std.specs.Prelude.{Option as Maybe, Some, None}
use Rattle.std.proofs.Math.Option.{Option, none, some}
use Rattle.reading.specs.Trees.{Name, Declarations}
use Rattle.readback.specs.Reader.{took}
use Rattle.readback.specs.Printable.{variable_names_in, array_names_in, function_names_in, declarable}
use Rattle.readback.specs.Rebuild.{variable_number, array_number, function_number}
use Rattle.rebuilt.specs.Built.{variable_at, array_at, function_at}
use Rattle.script_header.specs.declared.Header.{Header}
use Rattle.script_names.specs.declared.Table.{Table}
use Rattle.script_tokens.specs.declared.Number.{Number}
use Rattle.script_names.specs.Entries.{measure_of, Tabled}
use Rattle.script_decls.specs.Lines.{sorts_in, names_to}
use Rattle.script_header.specs.Header.{declared}
use Rattle.script_entries.specs.declared.Script.{Script}
use Rattle.script_entries.specs.declared.Entry.{Entry}
use Rattle.script_entries.specs.declared.Entry.TheVariants.{Variable as VariableEntry, Array as ArrayEntry, Function as FunctionEntry}

-- ---------------------------------------------------------------- the header's numbers

-- where the declarations begin; how many variables there are; how many variables and arrays; how many names in all
abbrev pub first_of : Header → ℕ
first_of h = h.first

abbrev pub variables_of : Header → ℕ
variables_of h = h.variables

abbrev pub arrays_of : Header → ℕ
arrays_of h = h.arrays

abbrev pub names_of : Header → ℕ
names_of h = h.names

-- ---------------------------------------------------------------- sorts of arguments

-- sorts of these widths and the closing bracket stand at place p
pub record ArgumentsAt (s : List ℕ) (p : ℕ) (ws : List ℕ) : Type 0 where
  pub begin : p ≤ length s
  -- no sort came before
  pub first : Bool
  pub end : ℕ
  pub inside : end ≤ length s
  pub read : (f : ℕ) → length s < f → sorts_in f first (drop p s) ≡ took ws (drop end s)

-- the next of the sorts that stand at place p, or that there is none
abbrev pub NextArgument : List ℕ → ℕ → List ℕ → Maybe Number → Type 0
NextArgument s p [] None = Unit
NextArgument s p [] (Some n) = ⊥
NextArgument s p (w ∷ ws) None = ⊥
NextArgument s p (w ∷ ws) (Some n) = (p < n.end) × (n.end ≤ length s) × (n.value ≡ w) × ArgumentsAt s n.end ws

-- ---------------------------------------------------------------- what is known

-- What line k declares, by two numbers x and y: a variable's width is x; an array's index width is x and its value width y; the sorts of a
-- function's arguments begin at place x, and y is its width.
pub record Measured (s : List ℕ) (h : Header) (D : Declarations) (k x y : ℕ) : Type 0 where
  pub variable : k < variables_of h → (variable_at D k).width ≡ x
  pub array : variables_of h ≤ k → k < arrays_of h → ((array_at D (k - variables_of h)).index ≡ x) × ((array_at D (k - variables_of h)).value ≡ y)
  pub function : arrays_of h ≤ k → ArgumentsAt s x (function_at D (k - arrays_of h)).arguments × ((function_at D (k - arrays_of h)).width ≡ y)

-- The script s declares D: the lines of D stand from the header's first place on, the numbers h count them and the table t has their names.
-- Where there are at most 1,536 lines, the table has what the first m of them declare.
pub record KnownTo (m : ℕ) (s : List ℕ) (t : Table) (h : Header) (D : Declarations) : Type 0 where
  pub begin : first_of h ≤ length s
  pub end : ℕ
  pub inside : end ≤ length s
  pub read : (f : ℕ) → length s < f → declared f (drop (first_of h) s) ≡ took D (drop end s)
  pub variables : variables_of h ≡ length D.variables
  pub arrays : arrays_of h ≡ variables_of h + length D.arrays
  pub functions : names_of h ≡ arrays_of h + length D.functions
  pub names : names_to (drop (first_of h) s) (names_of h) ≡ (variable_names_in D ++ array_names_in D) ++ function_names_in D
  pub tabled : Tabled s (first_of h) t (names_of h)
  pub declarable : T (declarable D)
  pub measured : names_of h ≤ 1536 → (k : ℕ) → k < m → Measured s h D k (measure_of t k).first (measure_of t k).second

-- once the header is read
abbrev pub Entered : List ℕ → Table → Header → Declarations → Type 0
Entered s t h D = KnownTo 0 s t h D

-- once the table has what every line declares
abbrev pub Known : List ℕ → Table → Header → Declarations → Type 0
Known s t h D = KnownTo (names_of h) s t h D

-- the script declares D
abbrev pub Declares : Script → Declarations → Type 0
Declares x D = Known x.text.now x.table.now x.header D

-- ---------------------------------------------------------------- what a name is

-- the numbers of a name in the three tables
pub record Numbers (D : Declarations) (n : Name) (v a f : Option ℕ) : Type 0 where
  pub variable : variable_number D n ≡ v
  pub array : array_number D n ≡ a
  pub function : function_number D n ≡ f

pub record VariableIs (D : Declarations) (n : Name) (k w : ℕ) : Type 0 where
  pub numbers : Numbers D n (some k) none none
  pub low : k < length D.variables
  pub width : (variable_at D k).width ≡ w

pub record ArrayIs (D : Declarations) (n : Name) (k i v : ℕ) : Type 0 where
  pub numbers : Numbers D n none (some k) none
  pub low : k < length D.arrays
  pub index : (array_at D k).index ≡ i
  pub value : (array_at D k).value ≡ v

-- place p is where the sorts of the arguments begin
pub record FunctionIs (s : List ℕ) (D : Declarations) (n : Name) (g p w : ℕ) : Type 0 where
  pub numbers : Numbers D n none none (some g)
  pub low : g < length D.functions
  pub arguments : ArgumentsAt s p (function_at D g).arguments
  pub width : (function_at D g).width ≡ w

abbrev pub EntryIs : List ℕ → Declarations → Name → Maybe Entry → Type 0
EntryIs s D n None = Numbers D n none none none
EntryIs s D n (Some (VariableEntry k w)) = VariableIs D n k w
EntryIs s D n (Some (ArrayEntry k x)) = ArrayIs D n k x.index x.value
EntryIs s D n (Some (FunctionEntry g x)) = FunctionIs s D n g x.arguments x.width

-- what line k declares, its name left aside
abbrev pub EntryOf : List ℕ → Header → Declarations → ℕ → Entry → Type 0
EntryOf s h D k (VariableEntry i w) = (k < variables_of h) × (i ≡ k) × ((variable_at D i).width ≡ w)
EntryOf s h D k (ArrayEntry i x) = (variables_of h ≤ k) × (k < arrays_of h) × (i ≡ k - variables_of h) × ((array_at D i).index ≡ x.index) × ((array_at D i).value ≡ x.value)
EntryOf s h D k (FunctionEntry g x) = (arrays_of h ≤ k) × (g ≡ k - arrays_of h) × ArgumentsAt s x.arguments (function_at D g).arguments × ((function_at D g).width ≡ x.width)
