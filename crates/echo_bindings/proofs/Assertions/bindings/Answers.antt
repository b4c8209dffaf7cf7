-- `bindings` meets its contract: the bindings of the first nodes are written, and these nodes are named. Assumes nothing.
use Rattle.std.proofs.Common.{arith, refl, ◌∙◌}
use Rattle.echo_bindings.specs.LetLines.{open_text, none_yet, one_more, none_more, all-pieces}
use Rattle.echo_bindings.specs.Checking.{few-widths}
use Rattle.echo_bindings.specs.Naming.{told-over, same-size, same-named, named-more, named-skip, writes, text-own}
use Rattle.echo_bindings.proofs.Assertions.bindings.Goals as goal
use Rattle.echo_bindings.proofs.Assertions.bindings.Goals.{then-b, else-b}

pub loop-i-init : goal.loop-i-init
loop-i-init c = (refl, c.requires.names, none_yet _ _ _ (omega arith))

pub bind-q-requires : goal.bind-q-requires
bind-q-requires c =
    let b = c.requires.bindable in
    writes c.args.self.now.sharing.known c.loop-i.invariant.1 b (told-over c.loop-i.invariant.0 c.requires.told) c.loop-i.i (b.here c.loop-i.i c.if-b.true) (b.free c.loop-i.i c.if-b.true)

pub loop-i-preserved : goal.loop-i-preserved
unfolding open_text
loop-i-preserved c =
    elim c.if-b.branch [
      | then-b w ↦
          rw (w.marks-is, w.q-is, w.out-is, w.bind-q.ensures.names) (
            same-named c.loop-i.marks c.loop-i.i ∙ c.loop-i.invariant.0,
            named-more c.loop-i.invariant.1 (omega (arith, same-size c.args.marks.now c.loop-i.marks c.loop-i.invariant.0, c.requires.bindable.here c.loop-i.i w.if-b.true, few-widths c.args.self.now.sharing.known)) w.if-b.true,
            one_more c.loop-i.invariant.2 c.loop-i-test.true
                (rw (w.if-b.true, ← text-own c.args.self.now.sharing.known c.loop-i.invariant.1 c.requires.bindable w.if-b.true) w.bind-q.ensures.text),
          )
      | else-b w ↦
          rw (w.marks-is, w.q-is, w.out-is) (
            c.loop-i.invariant.0,
            named-skip c.loop-i.invariant.1 w.if-b.false,
            none_more c.loop-i.invariant.2 c.loop-i-test.true (rw w.if-b.false refl),
          )
    ]

pub returns-clause-text : goal.returns-clause-text
returns-clause-text c = all-pieces c.loop-i.invariant.2 c.loop-i-test.false
