-- `function` meets its contract: the arguments are those of the first call, which there is. Assumes nothing.
use Rattle.std.specs.Prelude.{ℕ, ◌+◌, ◌≤◌, ◌≡◌, List, true, false, length, Option, Some, None, IsSome, option_copied}
use Rattle.std.proofs.Common.{ap, sym, ◌∙◌, refl, le-leb, Bor}
use Rattle.echo_spec.specs.Input.{Node}
use Rattle.lent.specs.Records.{node_of}
use Rattle.echo_tables.specs.Steps.{CutOut}
use Rattle.echo_spec.specs.Input.{dag_of}
use Rattle.echo_bytes.specs.Page.{written}
use Rattle.lent.specs.Lent.{dag_at}
use Rattle.echo_decls.specs.Declarable.{some-call, call_at, arguments-in}
use Rattle.echo_decls.specs.DeclaredLines.{function-line}
use Rattle.echo_decls.proofs.Declarations.function.Goals as goal

pub unwrap-c-requires : goal.unwrap-c-requires
unwrap-c-requires c = some-call c.args.self.now.declarable c.args.g c.requires c.looked_up.ensures

-- arguments that lie inside are cut out
cut-out : (side : List ℕ) (f : Node) → f.c + f.d ≤ length side → (r : Option (Bor (List ℕ))) → CutOut side f (option_copied r) → IsSome r
cut-out side f l None h = let e : true ≡ false = sym (le-leb (f.c + f.d) (length side) l) ∙ h in cc
cut-out side f l (Some xs) h = refl

pub unwrap-xs-requires : goal.unwrap-xs-requires
unwrap-xs-requires c =
    cut-out _ (node_of c.node_of-call.result)
    (arguments-in c.args.self.now.declarable c.args.g c.requires c.looked_up.ensures c.unwrap-c.ensures c.node_of-call.ensures)
    c.arguments.result c.arguments.ensures

pub returns : goal.returns
unfolding dag_of
returns c =
    let d = dag_at c.args.self.now.problem.now in
    let call = call_at c.args.self.now.declarable c.args.g c.requires c.looked_up.ensures c.unwrap-c.ensures in
    let cut = rw c.unwrap-xs.ensures at c.arguments.ensures in
    c.decl_func.ensures
    ∙ ap (written _)
    (function-line d c.args.g c.args.self.now.widths.now call c.node_of-call.ensures cut.1 c.name_at-name.ensures c.get-width.ensures)
