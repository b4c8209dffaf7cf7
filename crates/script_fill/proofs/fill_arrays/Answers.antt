-- `fill_arrays` meets its contract: the columns one after the other.
use Rattle.std.proofs.Common.{◌∙◌, refl, rules, arith}
use Rattle.std.proofs.lemmas.List.{length-map}
use Rattle.rebuilt.specs.Built.{no-array}
use Rattle.script_fill.specs.Filling.{index_widths, value_widths}
use Rattle.script_fill.specs.Laws.{column_at}
use Rattle.script_fill.specs.Turns.{arrays-fit, array-lines}
use Rattle.script_fill.proofs.fill_arrays.Goals as goal

pub put_names-requires : goal.put_names-requires
put_names-requires c = let x = arrays-fit c.requires.1 c.requires.2 in record { lines = x.0; room = x.1 }

pub returns : goal.returns
returns c = λ D f. record {
  named = rw (← array-lines f) c.put_names.ensures;
  index = c.put_numbers.ensures (index_widths D) (length-map D.arrays _ ∙ omega (arith, f.known.arrays)) (λ i x h p. column_at _ no-array refl D.arrays i ∙ search rules);
  value = c.put_numbers-2.ensures (value_widths D) (length-map D.arrays _ ∙ omega (arith, f.known.arrays)) (λ i x h p. column_at _ no-array refl D.arrays i ∙ search rules);
}
