-- `fill_functions` meets its contract: the columns one after the other.
use Rattle.std.proofs.Common.{◌∙◌, refl, rules, arith}
use Rattle.std.proofs.lemmas.List.{length-map}
use Rattle.rebuilt.specs.Built.{no-function}
use Rattle.script_fill.specs.Filling.{function_widths}
use Rattle.script_fill.specs.Laws.{column_at}
use Rattle.script_fill.specs.Turns.{functions-fit, function-lines}
use Rattle.script_fill.proofs.fill_functions.Goals as goal

pub put_names-requires : goal.put_names-requires
put_names-requires c = let x = functions-fit c.requires.1 c.requires.2 in record { lines = x.0; room = x.1 }

pub returns : goal.returns
returns c = λ D f. record {
  named = rw (← function-lines f) c.put_names.ensures;
  widths = c.put_numbers.ensures (function_widths D) (length-map D.functions _ ∙ omega (arith, f.known.functions)) (λ i x h p. column_at _ no-function refl D.functions i ∙ search rules);
}
