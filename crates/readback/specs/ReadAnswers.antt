-- What `read_script` answers: the number, how many elements of each output are used, and every element of every output.
use Rattle.std.specs.Prelude.{ℕ, zero, suc, List, [], ◌∷◌, Bool, true, false, ◌&&◌, leb, length}
use Rattle.std.proofs.Math.Option.{Option, none, some}
use Rattle.lists.specs.Tests.{every}
use Rattle.reading.specs.Trees.{Reading}
use Rattle.echo_spec.specs.Refusals.{unless, ◌or_else◌}
use Rattle.echo_spec.specs.Input.{Problem, Query, within_limits}
use Rattle.echo_spec.specs.Answers.{at_front, zeroed}
use Rattle.readback.specs.Rebuild.{rebuild}
use Rattle.readback.specs.Records.{holdable, inputs}
use Rattle.readback.specs.ScriptReader.{reading_in}

-- ---------------------------------------------------------------- eighteen lists

-- each list of one problem with the list of another that stands in its place
abbrev pub each_with : (List ℕ → List ℕ → List ℕ) → Problem → Problem → Problem
each_with f p q = record {
  nodes = f p.nodes q.nodes;
  bits = f p.bits q.bits;
  side = f p.side q.side;
  roots = f p.roots q.roots;
  names = f p.names q.names;
  name_start = f p.name_start q.name_start;
  name_len = f p.name_len q.name_len;
  var_node = f p.var_node q.var_node;
  var_width = f p.var_width q.var_width;
  anames = f p.anames q.anames;
  aname_start = f p.aname_start q.aname_start;
  aname_len = f p.aname_len q.aname_len;
  index_width = f p.index_width q.index_width;
  value_width = f p.value_width q.value_width;
  fnames = f p.fnames q.fnames;
  fname_start = f p.fname_start q.fname_start;
  fname_len = f p.fname_len q.fname_len;
  func_width = f p.func_width q.func_width;
}

abbrev pub lists_of : Problem → List (List ℕ)
lists_of p =
    p.nodes ∷ p.bits ∷ p.side ∷ p.roots ∷ p.names ∷ p.name_start ∷ p.name_len ∷ p.var_node ∷ p.var_width ∷ p.anames ∷ p.aname_start ∷ p.aname_len
    ∷ p.index_width ∷ p.value_width ∷ p.fnames ∷ p.fname_start ∷ p.fname_len ∷ p.func_width ∷ []

-- each list is as long at most as the one in its place
unfoldable pub all_fit : List (List ℕ) → List (List ℕ) → Bool
all_fit [] ls = true
all_fit (x ∷ xs) [] = false
all_fit (x ∷ xs) (l ∷ ls) = leb (length x) (length l) && all_fit xs ls

-- ---------------------------------------------------------------- sizes

-- how many elements are used: of each output by itself, and of the columns of a table, which are of one length, once
pub record Sizes : Type 0 where
  pub nodes : ℕ
  pub bits : ℕ
  pub side : ℕ
  pub roots : ℕ
  pub names : ℕ
  pub variables : ℕ
  pub anames : ℕ
  pub arrays : ℕ
  pub fnames : ℕ
  pub functions : ℕ

unfoldable pub sizes_of : Problem → Sizes
sizes_of p = record {
  nodes = length p.nodes;
  bits = length p.bits;
  side = length p.side;
  roots = length p.roots;
  names = length p.names;
  variables = length p.name_start;
  anames = length p.anames;
  arrays = length p.aname_start;
  fnames = length p.fnames;
  functions = length p.fname_start;
}

abbrev pub no_sizes : Sizes
no_sizes = record { nodes = 0; bits = 0; side = 0; roots = 0; names = 0; variables = 0; anames = 0; arrays = 0; fnames = 0; functions = 0 }

-- ---------------------------------------------------------------- the answer

pub record ReadAnswer : Type 0 where
  pub number : ℕ
  pub sizes : Sizes
  pub output : Problem

-- 9: the problem is over a limit, or a record cannot hold a number of it
unfoldable pub limits_passed : Query → Bool
limits_passed q = every holdable q.dag.nodes && within_limits (inputs q)

-- and then 10: an output is shorter than what belongs there
unfoldable pub rebuilt_refusal : Query → Problem → ℕ
rebuilt_refusal q lent = unless (limits_passed q) 9 or_else unless (all_fit (lists_of (inputs q)) (lists_of lent)) 10

-- a refusal zeroes every output, all of it; an acceptance leaves what lies past each result as it was
unfoldable pub read_as : ℕ → Problem → Problem → ReadAnswer
read_as zero p lent = record { number = 0; sizes = sizes_of p; output = each_with at_front p lent }
read_as (suc n) p lent = record { number = suc n; sizes = no_sizes; output = each_with (λ _. zeroed) p lent }

-- the problem that is told of where there is none
abbrev pub nothing : Problem
nothing = record {
  nodes = [];
  bits = [];
  side = [];
  roots = [];
  names = [];
  name_start = [];
  name_len = [];
  var_node = [];
  var_width = [];
  anames = [];
  aname_start = [];
  aname_len = [];
  index_width = [];
  value_width = [];
  fnames = [];
  fname_start = [];
  fname_len = [];
  func_width = [];
}

-- 13 first
unfoldable pub read_from : Option Reading → Problem → ReadAnswer
read_from none lent = read_as 13 nothing lent
read_from (some r) lent = read_as (rebuilt_refusal (rebuild r) lent) (inputs (rebuild r)) lent

-- the script's bytes, and the eighteen outputs as they are lent
unfoldable pub read_script_answer : List ℕ → Problem → ReadAnswer
read_script_answer b lent = read_from (reading_in b) lent
