-- `echo_lengths::script_length` meets its contract. Assumes nothing.
use Rattle.std.proofs.Common.{arith}
use Rattle.lent.specs.Lent.{problem_at}
use Rattle.lent.specs.Records.{nodes-length}
use Rattle.echo_checks.specs.Limits.{bounds}
use Rattle.echo_script.proofs.Printing.{ready, walk_over, all-fine}
use Rattle.echo_lengths.proofs.Lengths.{script-long}
use Rattle.echo_lengths.proofs.script_length.Goals as goal

pub invariant_of-walk : goal.invariant_of-walk
invariant_of-walk c = record { ready = ready c.requires.filled }

pub roots_length-requires : goal.roots_length-requires
roots_length-requires c =
    let formed = c.requires.filled.formed in
    let p = problem_at c.args.formed.now.problem.now in
    (all-fine _ c.requires.walked, omega (arith, formed.counted, nodes-length p.nodes, (bounds p formed.within).nodes))

pub returns : goal.returns
returns c =
    script-long (walk_over c.args.formed.now.problem c.args.formed.now.widths c.args.tables c.requires.filled) c.requires.walked (record { plan = λ i. c.requires.filled.marked.unnamed i })
    _ c.declare-declared.ensures _ c.check_sat-framed.ensures c.roots_length.ensures
