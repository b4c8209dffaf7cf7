-- `fill_variables` meets its contract: the columns one after the other.
use Rattle.std.proofs.Common.{sym, ◌∙◌, refl, rules}
use Rattle.std.proofs.lemmas.List.{length-map}
use Rattle.rebuilt.specs.Built.{no-variable}
use Rattle.script_fill.specs.Filling.{variable_widths}
use Rattle.script_fill.specs.Laws.{column_at, count_at, counts-long}
use Rattle.script_fill.specs.Turns.{variables-fit, variable-lines, variable-count}
use Rattle.script_fill.proofs.fill_variables.Goals as goal

pub put_names-requires : goal.put_names-requires
put_names-requires c = let x = variables-fit c.requires.1 c.requires.2 in record { lines = x.0; room = x.1 }

pub returns : goal.returns
returns c = λ D f. record {
  named = rw (← variable-lines f) c.put_names.ensures;
  nodes = rw (← variable-count f) (c.put_numbers.ensures _ (counts-long _) (λ i x h p. count_at _ i h ∙ search rules));
  widths = c.put_numbers-2.ensures (variable_widths D) (length-map D.variables _ ∙ sym f.known.variables) (λ i x h p. column_at _ no-variable refl D.variables i ∙ search rules);
}
