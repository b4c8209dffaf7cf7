-- `echo_bytes::digit_count` meets its contract: by the power of ten that the number reaches. Assumes nothing.
use Rattle.echo_bytes.proofs.Numerals.{counted-digits}
use Rattle.echo_bytes.proofs.digit_count.Goals as goal

pub returns : goal.returns
returns c = counted-digits _ _ _ c.max.ensures c.ilog10.ensures.power_le c.ilog10.ensures.next_power_gt c.requires
