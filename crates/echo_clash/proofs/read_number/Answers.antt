-- `read_number` meets its contract: one digit after the other. Assumes nothing.
use Rattle.std.specs.Prelude.{◌≡◌}
use Rattle.std.specs.List.{fold}
use Rattle.std.proofs.Common.{rules, ◌∙◌}
use Rattle.echo_clash.specs.Clash.{digit, fold-read}
use Rattle.echo_clash.proofs.read_number.Goals as goal

pub returns : goal.returns
returns c =
    let e : c.fold.result ≡ fold digit 0 c.args.s.now = search rules in
    e ∙ fold-read 0 c.args.s.now
