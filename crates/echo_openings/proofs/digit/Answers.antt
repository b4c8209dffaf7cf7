use Rattle.echo_bytes.proofs.Digits.{digit-fits, bits-digits}
use Rattle.echo_openings.proofs.digit.Goals as goal

pub overflow_add-result : goal.overflow_add-result
overflow_add-result c = digit-fits c.args.bits.now _ (bits-digits c.args.bits.now c.requires.1)
