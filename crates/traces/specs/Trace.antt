-- What the replay of a trace answers (document 02, L9): refusals 14 and 15, their place among the others, and the masks. Definitions only.
use Rattle.std.specs.Prelude.{ℕ, zero, suc, ◌*◌, ◌/◌, ◌%◌, ◌^◌, List, [], ◌∷◌, Bool, true, false, ◌&&◌, ◌||◌, leb, ltb, eqb, length, take, drop, get_or}
use Rattle.lists.specs.Tests.{every, every_from}
use Rattle.lists.specs.Build.{upto, tabulate}
use Rattle.reading.specs.Trees.{Name, Trees, none, more, Reading}
use Rattle.echo_spec.specs.Refusals.{unless, ◌or_else◌}
use Rattle.echo_spec.specs.Shapes.{Shape, var, const, binary, rotation, extraction, concat, extension, ite, comparison, negation, connective, unary, select, call, unknown}
use Rattle.echo_spec.specs.Input.{Problem, shape, no_node, Dag, dag_of, query_of}
use Rattle.echo_spec.specs.Widths.{width_at, widths_of}
use Rattle.echo_spec.specs.Walk.{Operand, operands_as}
use Rattle.echo_spec.specs.Answers.{reading, endless_refusal, at_front, zeroed}
use Rattle.vectors.specs.Values.{Value, environment, value_of, holds, mask, count}

-- ---------------------------------------------------------------- 9

-- a mask has a bit for each root
abbrev pub mask_limit : ℕ
mask_limit = 64

-- ---------------------------------------------------------------- 14

-- no select and no call
unfoldable pub plain : Shape → Bool
plain var = true
plain const = true
plain binary = true
plain rotation = true
plain extraction = true
plain concat = true
plain extension = true
plain ite = true
plain comparison = true
plain negation = true
plain connective = true
plain unary = true
plain select = false
plain call = false
plain unknown = false

-- The term and all that is reached from it are at most 64 bits wide and no select or call. A rotation's amount is no operand. Nothing is
-- asked of sorts: what printing does not refuse is well sorted.
unfoldable pub narrow_step : Dag → List ℕ → (ℕ → Bool) → ℕ → Bool
narrow_step d ws below i =
    leb (width_at ws i) 64
    && (plain (shape (get_or d.nodes i no_node))
    && every (λ (o : Operand). below o.node) (operands_as d.side (get_or d.nodes i no_node) (shape (get_or d.nodes i no_node))))

abbrev pub narrow_below : Dag → List ℕ → ℕ → ℕ → Bool
narrow_below d ws n = upto (narrow_step d ws) false n

unfoldable pub narrow : Dag → List ℕ → ℕ → Bool
narrow d ws i = narrow_step d ws (narrow_below d ws i) i

-- ---------------------------------------------------------------- 15

-- a number of 64 bits fits the width
unfoldable pub fits : ℕ → ℕ → Bool
fits w x = leb 64 w || ltb x (2 ^ w)

-- the values are a whole number of rows; where there is no variable there are none
unfoldable pub whole_rows : ℕ → ℕ → Bool
whole_rows zero len = eqb len 0
whole_rows (suc v) len = eqb (len % suc v) 0

-- value k stands in column k % v
unfoldable pub values_fit : List ℕ → List ℕ → Bool
values_fit widths values =
    whole_rows (length widths) (length values)
    && every_from (λ k. fits (get_or widths (k % length widths) 0) (get_or values k 0)) 0 (length values)

-- how many rows there are: one where there is no variable
unfoldable pub row_count : ℕ → ℕ → ℕ
row_count zero len = 1
row_count (suc v) len = len / suc v

-- row j, of v values
abbrev pub row_of : ℕ → List ℕ → ℕ → List ℕ
row_of v values j = take v (drop (j * v) values)

-- ---------------------------------------------------------------- the answer

abbrev pub rows_of : Problem → List ℕ → ℕ
rows_of p values = row_count (length p.var_width) (length values)

-- 14 passes every root
unfoldable pub narrow_roots : Problem → Bool
narrow_roots p = every (narrow (dag_of p) (widths_of (query_of p))) p.roots

-- With lent outputs of these lengths. Of printing's own refusals the first is 9 too, so that more than 64 roots is refused at 9's place.
unfoldable pub trace_refusal : Problem → List ℕ → ℕ → ℕ → ℕ
trace_refusal p values masks counts =
    unless (leb (length p.roots) mask_limit) 9
    or_else endless_refusal p
    or_else unless (narrow_roots p) 14
    or_else unless (values_fit p.var_width values) 15
    or_else unless (leb (rows_of p values) masks && leb (rows_of p values) counts) 10

-- which of the trees hold where the variables have these values
unfoldable pub holding_all : (Name → Value) → Trees → List Bool
holding_all env none = []
holding_all env (more t ts) = holds (value_of env t) ∷ holding_all env ts

-- which assertions hold where the declared variables have the values of a row
unfoldable pub holding : Reading → List ℕ → List Bool
holding r row = holding_all (environment r.declarations.variables row) r.assertions

abbrev pub holding_in : Problem → List ℕ → ℕ → List Bool
holding_in p values j = holding (reading p) (row_of (length p.var_width) values j)

-- number 0 is an acceptance
pub record TraceAnswer : Type 0 where
  pub number : ℕ
  pub rows : ℕ
  pub masks : List ℕ
  pub counts : List ℕ

unfoldable pub trace_answer : ℕ → Problem → List ℕ → List ℕ → List ℕ → TraceAnswer
trace_answer zero p values masks counts = record {
  number = 0;
  rows = rows_of p values;
  masks = at_front (tabulate (rows_of p values) (λ j. mask (holding_in p values j))) masks;
  counts = at_front (tabulate (rows_of p values) (λ j. count (holding_in p values j))) counts;
}
trace_answer (suc n) p values masks counts = record { number = suc n; rows = 0; masks = zeroed masks; counts = zeroed counts }

unfoldable pub replay_trace_answer : Problem → List ℕ → List ℕ → List ℕ → TraceAnswer
replay_trace_answer p values masks counts = trace_answer (trace_refusal p values (length masks) (length counts)) p values masks counts
