-- `check_release` meets its contract: too many scripts first, and then what the file is told from its start on.
use mathlib.Core.Path.{sym, ◌∙◌}
use borrow.Author.Tests.{leb-true}
use Rattle.release.specs.Order.{read-start, told-many}
use Rattle.release.proofs.check_release.Goals as goal

pub returns-then-not-few_scripts : goal.returns-then-not-few_scripts
returns-then-not-few_scripts c =
    told-many c.args.file.now (sym c.few_scripts.ensures ∙ c.if-not-few_scripts.true)

pub check_from-requires : goal.check_from-requires
check_from-requires c =
    (read-start c.args.file.now, leb-true _ 64 (sym c.few_scripts.ensures ∙ c.if-not-few_scripts.false))
