-- The two columns of the array table as the definitions have them.
use Rattle.echo_spec.specs.Input as input
use Rattle.sliver_kernel.specs.declared.ArrayWidths.{ArrayWidths}

abbrev pub columns_of : ArrayWidths → input.ArrayWidths
columns_of a = input.array_columns a.index.now a.value.now
