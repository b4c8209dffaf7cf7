-- What is known of a lent problem when its script is written.
use Rattle.std.specs.Prelude.{ℕ, ◌≤◌, ◌<◌, ◌≡◌, List, T, length, take, Option, Result, Ok, Err}
use Rattle.echo_spec.specs.Input.{Problem, array_widths, within_limits, encoded, nodes_of, dag_of}
use Rattle.echo_spec.specs.Widths.{array_widths_ok, ext_wf_of}
use Rattle.echo_spec.specs.Tables.{columns_ok}
use Rattle.echo_spec.specs.Walk.{walk_roots, checks}
use Rattle.echo_spec.specs.Answers.{endless_with}
use Rattle.echo_spec.specs.ColumnLaws.{Aligned}
use Rattle.refusals.specs.declared.EchoError.{EchoError}
use Rattle.refusals.specs.Numbers.{error_number}
use Rattle.lent.specs.declared.Problem.{Problem as Lent}
use Rattle.lent.specs.Lent.{problem_at, dag_at}
use Rattle.echo_tables.specs.Found.{Entries}
use Rattle.echo_tables.specs.Filling.{Marked}
use Rattle.echo_decls.specs.Declarable.{Declarable}
use Rattle.echo_script.specs.declared.Tables.{Tables}
use Rattle.echo_script.specs.Scripts.{declared_checks, tables_refusal}

-- within the limits and encoded, its columns of one length, its arrays' widths allowed, and its nodes well formed and of these widths
pub record WellFormed (p : Problem) (ws : List ℕ) : Type 0 where
  pub within : T (within_limits p)
  pub encodes : T (encoded p.nodes p.bits)
  pub columns : T (columns_ok (dag_of p))
  pub arrays : T (array_widths_ok (array_widths p))
  pub widths : ws ≡ ext_wf_of (length p.bits) (array_widths p) p.side (nodes_of p.nodes)
  pub counted : length ws ≡ length (nodes_of p.nodes)

-- the tables that were filled from it
pub record Filled (p : Lent) (ws : List ℕ) (tables : Tables) (first : List (Option ℕ)) : Type 0 where
  pub formed : WellFormed (problem_at p) ws
  pub aligned : Aligned (dag_at p)
  pub marked : Marked (dag_at p) ws tables.marks
  pub entered : Entries (problem_at p).var_node tables.entries
  pub declarable : Declarable p first

-- what the checks from the declared variables on are refused with here, and the tables where they are not
pub record Filling (p : Lent) (ws : List ℕ) (r : ℕ) (tables : Tables) (first : List (Option ℕ)) : Type 0 where
  pub refused : 0 < r → (walked : ℕ) → declared_checks (dag_at p) ws walked ≡ r
  pub passed : r ≤ 0 → (walked : ℕ) → declared_checks (dag_at p) ws walked ≡ walked
  pub filled : r ≤ 0 → Filled p ws tables first

-- a problem that passed every check but the one for room, its widths, and the tables that were filled
pub record Prepared (p : Lent) (ws : List ℕ) (tables : Tables) (first : List (Option ℕ)) : Type 0 where
  pub filled : Filled p ws tables first
  pub walked : walk_roots (dag_at p) ws (problem_at p).roots ≡ 0

-- what the checks from the names on are refused with, and the tables where they are not
pub record Preparing (p : Lent) (ws : List ℕ) (r : ℕ) (tables : Tables) (first : List (Option ℕ)) : Type 0 where
  pub refused : 0 < r → tables_refusal (problem_at p) ws ≡ r
  pub passed : r ≤ 0 → tables_refusal (problem_at p) ws ≡ 0
  pub prepared : r ≤ 0 → Prepared p ws tables first

-- a problem of n nodes that passed the checks before the names, with its widths at the front of ws
pub record Measured (p : Problem) (n : ℕ) (ws : List ℕ) : Type 0 where
  pub count : n ≡ length (nodes_of p.nodes)
  pub within : n ≤ length ws
  pub formed : WellFormed p (take n ws)

-- what the checks before the names are refused with, whatever the others are, or what they leave
abbrev pub Measure : Problem → Result ℕ EchoError → List ℕ → Type 0
Measure p (Ok n) ws = Measured p n ws
Measure p (Err e) ws =
    (sharing walked : ℕ)
    → endless_with p (checks (dag_of p) (ext_wf_of (length p.bits) (array_widths p) p.side (nodes_of p.nodes)) sharing walked) ≡ error_number e
