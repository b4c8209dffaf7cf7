use Rattle.std.proofs.Common.{◌∙◌, le-leb}
use Rattle.trace_values.specs.RowTests.{fits-wide, fits-narrow}
use Rattle.trace_values.proofs.fits.Goals as goal

pub returns-then-w-ge64 : goal.returns-then-w-ge64
returns-then-w-ge64 c = le-leb 64 c.args.w c.if-w-ge64.true ∙ fits-wide c.args.w c.args.x c.if-w-ge64.true

pub returns-else-w-ge64 : goal.returns-else-w-ge64
returns-else-w-ge64 c = fits-narrow c.args.w c.args.x c.if-w-ge64.false
