-- `fewest_sharing::first_used` meets its contract: what `position` answers. Assumes nothing.
use Rattle.std.proofs.Common.{rules}
use Rattle.std.proofs.iter.runs.Made.{chains}
use Rattle.fewest_sharing.specs.Found.{used_too, first-told}
use Rattle.fewest_sharing.proofs.first_used.Goals as goal

pub returns : goal.returns
returns c =
    let t = used_too c.args.shared.now c.args.uses.now in
    first-told t c.args.roots.now c.position.result (search (rules, chains)) (search (rules, chains)) (search (rules, chains))
