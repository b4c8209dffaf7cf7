-- `echo_assertion` meets its contract. Assumes nothing.
use Rattle.std.proofs.Common.{arith, refl, ◌∙◌, length, ap, map}
use Rattle.std.proofs.lemmas.List.{length-take-le}
use Rattle.lists.specs.Bytes.{bytes}
use Rattle.echo_bindings.specs.Checking.{few-widths, flags-front}
use Rattle.echo_bindings.specs.Naming.{unnamed, told-over, same-unnamed, named-none, writes, root-bindable, root-here, assertion-written}
use Rattle.echo_bindings.proofs.Assertions.echo_assertion.Goals as goal

pub shared_ref_as_front-first : goal.shared_ref_as_front-first
shared_ref_as_front-first c = few-widths c.args.self.now.sharing.known

pub bindings-bindings-requires-clause-bindable : goal.bindings-bindings-requires-clause-bindable
bindings-bindings-requires-clause-bindable c =
    let s = c.args.self.now.sharing in
    let e = flags-front s.known c.args.root (length s.widths.now) refl c.bound_nodes.ensures refl in
    rw e (root-bindable s.known c.requires)

pub bindings-bindings-requires-clause-names : goal.bindings-bindings-requires-clause-names
bindings-bindings-requires-clause-names c = rw c.unname.ensures (named-none _ _)

pub term-body-requires : goal.term-body-requires
term-body-requires c =
    let s = c.args.self.now.sharing in
    let e = flags-front s.known c.args.root (length s.widths.now) refl c.bound_nodes.ensures refl in
    writes s.known c.bindings-bindings.ensures.names (rw e (root-bindable s.known c.requires))
    (told-over (c.bindings-bindings.ensures.told ∙ ap (map unnamed) c.unname.ensures ∙ same-unnamed c.args.marks.now) c.requires.told) c.args.root (root-here s.known c.requires) c.requires.free

pub returns-clause-text : goal.returns-clause-text
unfolding bytes
returns-clause-text c =
    let s = c.args.self.now.sharing in
    let e = flags-front s.known c.args.root (length s.widths.now) refl c.bound_nodes.ensures refl in
    assertion-written s.known c.requires _ e (length-take-le _ _ (omega (arith, few-widths s.known, c.bound_nodes.array_long))) c.bindings-bindings.ensures.names _
    (rw c.start.ensures at c.open_assert-opened.ensures) c.bindings-bindings.ensures.text c.term-body.ensures c.close_bindings-closed.ensures c.close_line.ensures

pub returns-clause-told : goal.returns-clause-told
returns-clause-told c = c.bindings-bindings.ensures.told ∙ ap (map unnamed) c.unname.ensures ∙ same-unnamed c.args.marks.now
