-- `place_script` meets its contract: the variables, then the functions that are not called, then the assertions.
use Rattle.std.proofs.lemmas.Result.{err_from_is_err_and}
use Rattle.place_script.specs.Scripts.{variables_only, before_assertions, variables-before, variables-over, uncalled-over, script-roots, asserted}
use Rattle.place_script.proofs.place_script.Goals as goal

pub returns-in_err-place_variables : goal.returns-in_err-place_variables
returns-in_err-place_variables c =
    let p = err_from_is_err_and c.from_residual.result c.from_residual.ensures.1 in
    rw (p.1, p.2) (record { reads = λ D κ. tt; placed = λ D ts r. variables-over r (c.in_err-place_variables.ensures D r.known r.held r.stacked) })

pub place_uncalled-requires : goal.place_uncalled-requires
place_uncalled-requires c =
    let a = c.in_ok-place_variables.ensures c.requires.0 c.requires.1 c.requires.4 c.requires.5 in
    (c.requires.0, variables_only c.requires.0, c.requires.1, c.requires.3, c.requires.2, a.0, a.1)

pub returns-in_err-place_uncalled : goal.returns-in_err-place_uncalled
returns-in_err-place_uncalled c =
    let p = err_from_is_err_and c.from_residual-in_err-place_uncalled.result c.from_residual-in_err-place_uncalled.ensures.1 in
    rw (p.1, p.2) (record {
      reads = λ D κ. tt;
      placed = λ D ts r.
          let a = c.in_ok-place_variables.ensures D r.known r.held r.stacked in
          uncalled-over r (c.in_err-place_uncalled.ensures D (variables_only D) r.known a.0 a.1);
    })

pub place_assertions-requires : goal.place_assertions-requires
place_assertions-requires c =
    let a = c.in_ok-place_variables.ensures c.requires.0 c.requires.1 c.requires.4 c.requires.5 in
    let b = c.in_ok-place_uncalled.ensures c.requires.0 (variables_only c.requires.0) c.requires.1 a.0 a.1 in
    (c.requires.0, before_assertions c.args.called.now c.requires.0, c.requires.1, b.0, b.1, variables-before c.args.called.now c.requires.0, c.requires.6)

pub returns : goal.returns
returns c = record {
  reads = c.place_assertions.ensures.reads;
  placed = λ D ts r.
      let a = c.in_ok-place_variables.ensures D r.known r.held r.stacked in
      let b = c.in_ok-place_uncalled.ensures D (variables_only D) r.known a.0 a.1 in
      script-roots r _ _ c.place_assertions.result (c.place_assertions.ensures.placed D ts (before_assertions c.args.called.now D) (asserted r _ b.0 b.1));
}
