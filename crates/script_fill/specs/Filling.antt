-- What the outputs of the tables of declarations become: the columns of the tables at their front.
use Rattle.std.specs.Prelude.{ℕ, zero, suc, ◌+◌, ◌≤◌, ◌<◌, ◌≡◌, List, [], ◌∷◌, ◌++◌, map, length, drop}
use Rattle.reading.specs.Trees.{Name, Variable, Array, Function, Declarations}
use Rattle.echo_spec.specs.Answers.{at_front}
use Rattle.readback.specs.Printable.{variable_names_in, array_names_in, function_names_in}
use Rattle.readback.specs.Rebuild.{starts_counted_from, count_from, arena}
use Rattle.script_names.specs.Entries.{name_here, place_of}
use Rattle.script_names.specs.declared.Table.{Table}
use Rattle.script_header.specs.declared.Header.{Header}
use Rattle.script_entries.specs.declared.Script.{Script}
use Rattle.script_entries.specs.Entries.{names_of, Known}

-- ---------------------------------------------------------------- names

-- the name at the place that the table has for line k
abbrev pub line_name : List ℕ → Table → ℕ → Name
line_name s t k = name_here (drop (place_of t k) s)

-- the names of `count` lines, from line `from` on
unfoldable pub line_names : List ℕ → Table → ℕ → ℕ → List Name
line_names s t from zero = []
line_names s t from (suc c) = line_names s t from c ++ (line_name s t (from + c) ∷ [])

-- the table has the places of these lines
pub record Lines (s : List ℕ) (t : Table) (from count : ℕ) : Type 0 where
  pub inside : from + count ≤ 7168
  pub place : (i : ℕ) → i < count → place_of t (from + i) ≤ length s

-- ---------------------------------------------------------------- tables

-- the declarations are known, and few enough for the table of names
pub record Few (s : List ℕ) (t : Table) (h : Header) (D : Declarations) : Type 0 where
  pub known : Known s t h D
  pub few : names_of h ≤ 1536

-- the same of a script whose header was read
abbrev pub FewOf : Script → Declarations → Type 0
FewOf script D = Few script.text.now script.table.now script.header D

-- the outputs have room for a table of names
pub record NamesFit (ns : List Name) (a b c : List ℕ) : Type 0 where
  pub names : length (arena ns) ≤ length a
  pub starts : length ns ≤ length b
  pub lengths : length ns ≤ length c

-- the three columns of names, before and after
pub record NamesFilled (ns : List Name) (a b c a' b' c' : List ℕ) : Type 0 where
  pub names : a' ≡ at_front (arena ns) a
  pub starts : b' ≡ at_front (starts_counted_from 0 ns) b
  pub lengths : c' ≡ at_front (map length ns) c

-- where variables stand among the nodes: they come first, in order
abbrev pub variable_nodes : Declarations → List ℕ
variable_nodes D = count_from 0 (length (variable_names_in D))

abbrev pub variable_widths : Declarations → List ℕ
variable_widths D = map (λ (v : Variable). v.width) D.variables

abbrev pub index_widths : Declarations → List ℕ
index_widths D = map (λ (a : Array). a.index) D.arrays

abbrev pub value_widths : Declarations → List ℕ
value_widths D = map (λ (a : Array). a.value) D.arrays

abbrev pub function_widths : Declarations → List ℕ
function_widths D = map (λ (f : Function). f.width) D.functions

-- the outputs have room for the variables
pub record VariablesFit (D : Declarations) (a b c d e : List ℕ) : Type 0 where
  pub named : NamesFit (variable_names_in D) a b c
  pub nodes : length D.variables ≤ length d
  pub widths : length D.variables ≤ length e

-- what they become
pub record VariablesFilled (D : Declarations) (a b c d e a' b' c' d' e' : List ℕ) : Type 0 where
  pub named : NamesFilled (variable_names_in D) a b c a' b' c'
  pub nodes : d' ≡ at_front (variable_nodes D) d
  pub widths : e' ≡ at_front (variable_widths D) e

pub record ArraysFit (D : Declarations) (a b c d e : List ℕ) : Type 0 where
  pub named : NamesFit (array_names_in D) a b c
  pub index : length D.arrays ≤ length d
  pub value : length D.arrays ≤ length e

pub record ArraysFilled (D : Declarations) (a b c d e a' b' c' d' e' : List ℕ) : Type 0 where
  pub named : NamesFilled (array_names_in D) a b c a' b' c'
  pub index : d' ≡ at_front (index_widths D) d
  pub value : e' ≡ at_front (value_widths D) e

pub record FunctionsFit (D : Declarations) (a b c d : List ℕ) : Type 0 where
  pub named : NamesFit (function_names_in D) a b c
  pub widths : length D.functions ≤ length d

pub record FunctionsFilled (D : Declarations) (a b c d a' b' c' d' : List ℕ) : Type 0 where
  pub named : NamesFilled (function_names_in D) a b c a' b' c'
  pub widths : d' ≡ at_front (function_widths D) d
