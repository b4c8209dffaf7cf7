-- The problem and the widths that assertions are written by.
use Rattle.std.specs.Prelude.{ℕ, List}
use Rattle.lent.specs.declared.Problem.{Problem as Lent}
use Rattle.echo_bindings.specs.declared.Assertions.{Assertions}

abbrev pub problem_in : Assertions → Lent
problem_in A = A.sharing.problem.now

abbrev pub widths_in : Assertions → List ℕ
widths_in A = A.sharing.widths.now
