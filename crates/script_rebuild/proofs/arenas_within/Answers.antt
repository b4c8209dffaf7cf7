-- `arenas_within` meets its contract: the entries of each table, and then its names.
use Rattle.std.proofs.Common.{arith}
use Rattle.script_fill.specs.Turns.{variable-lines, array-lines, function-lines}
use Rattle.script_rebuild.specs.Steps.{counts, few-entries}
use Rattle.script_rebuild.proofs.arenas_within.Goals as goal

pub returns-in_err-names : goal.returns-in_err-names
returns-in_err-names c = rw c.from_residual.ensures (λ D k w. c.in_err-names.ensures (rw (variable-lines (few-entries k c.if-v-gt-MAX_ENTRIES.false c.if-w-v-gt-MAX_ENTRIES.false c.if-c-w-gt-MAX_ENTRIES.false)) w.variables.names))

pub returns-in_err-anames : goal.returns-in_err-anames
returns-in_err-anames c = rw c.from_residual-in_err-anames.ensures (λ D k w. c.in_err-anames.ensures (rw (array-lines (few-entries k c.if-v-gt-MAX_ENTRIES.false c.if-w-v-gt-MAX_ENTRIES.false c.if-c-w-gt-MAX_ENTRIES.false)) w.arrays.names))

pub returns-in_err-fnames : goal.returns-in_err-fnames
returns-in_err-fnames c = rw c.from_residual-in_err-fnames.ensures (λ D k w. c.in_err-fnames.ensures (rw (function-lines (few-entries k c.if-v-gt-MAX_ENTRIES.false c.if-w-v-gt-MAX_ENTRIES.false c.if-c-w-gt-MAX_ENTRIES.false)) w.functions.names))

pub returns : goal.returns
returns c = λ D k.
    let x = few-entries k c.if-v-gt-MAX_ENTRIES.false c.if-w-v-gt-MAX_ENTRIES.false c.if-c-w-gt-MAX_ENTRIES.false in
    let e = counts c.args.script.now.text.now c.args.script.now.table.now c.args.script.now.header D k in (
      record {
        variables = record { entries = omega (arith, e.variables, c.if-v-gt-MAX_ENTRIES.false); names = rw (← variable-lines x) c.in_ok-names.ensures.0 };
        arrays = record { entries = omega (arith, e.arrays, c.if-w-v-gt-MAX_ENTRIES.false); names = rw (← array-lines x) c.in_ok-anames.ensures.0 };
        functions = record { entries = omega (arith, e.functions, c.if-c-w-gt-MAX_ENTRIES.false); names = rw (← function-lines x) c.in_ok-fnames.ensures.0 };
      },
      record {
        names = rw (← variable-lines x) c.in_ok-names.ensures.1;
        anames = rw (← array-lines x) c.in_ok-anames.ensures.1;
        fnames = rw (← function-lines x) c.in_ok-fnames.ensures.1;
      },
    )
