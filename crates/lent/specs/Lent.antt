-- The problem behind the slices that are lent: one by one to an entry point for C, by name to everything inside.
use Rattle.std.specs.Prelude.{ℕ, List}
use Rattle.echo_spec.specs.Input.{Problem, Dag, dag_of, Query, query_of}
use Rattle.lent.specs.declared.Problem.{Problem as Lent}

-- what the slices hold
abbrev pub problem_at : Lent → Problem
problem_at p = record {
  nodes = p.nodes.now;
  bits = p.bits.now;
  side = p.side.now;
  roots = p.roots.now;
  names = p.names.now;
  name_start = p.name_start.now;
  name_len = p.name_len.now;
  var_node = p.var_node.now;
  var_width = p.var_width.now;
  anames = p.anames.now;
  aname_start = p.aname_start.now;
  aname_len = p.aname_len.now;
  index_width = p.index_width.now;
  value_width = p.value_width.now;
  fnames = p.fnames.now;
  fname_start = p.fname_start.now;
  fname_len = p.fname_len.now;
  func_width = p.func_width.now;
}

abbrev pub dag_at : Lent → Dag
dag_at p = dag_of (problem_at p)

-- of the lists in the order in which an entry point takes them
abbrev pub problem_of : List ℕ → List ℕ → List ℕ → List ℕ → List ℕ → List ℕ → List ℕ → List ℕ
    → List ℕ → List ℕ → List ℕ → List ℕ → List ℕ → List ℕ
    → List ℕ → List ℕ → List ℕ → List ℕ → Problem
problem_of nodes bits side roots names ns nl vn vw anames an al ai av fnames fn fl fw = record {
  nodes = nodes;
  bits = bits;
  side = side;
  roots = roots;
  names = names;
  name_start = ns;
  name_len = nl;
  var_node = vn;
  var_width = vw;
  anames = anames;
  aname_start = an;
  aname_len = al;
  index_width = ai;
  value_width = av;
  fnames = fnames;
  fname_start = fn;
  fname_len = fl;
  func_width = fw;
}
