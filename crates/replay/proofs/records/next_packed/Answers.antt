-- `replay::next_packed` meets its contract: the header is read, then the record. Assumes nothing.
use Rattle.std.proofs.Common.{arith, length-take-le}
use Rattle.replay.proofs.Recording.{header-cut, record-long, record-cut, record-read, record-left}
use Rattle.replay.proofs.records.next_packed.Goals as goal

pub returns-then-branch-lt4-clause-unpacked : goal.returns-then-branch-lt4-clause-unpacked
returns-then-branch-lt4-clause-unpacked g c =
    header-cut _ _ _ _ _ c.in_ok-read_full.ensures.bytes (c.in_ok-read_full.ensures.end (omega arith)) c.if-branch-lt4.true (omega arith)

pub returns-then-n-packed-clause-unpacked : goal.returns-then-n-packed-clause-unpacked
returns-then-n-packed-clause-unpacked g c = record-long _ _ _ (omega arith) c.if-branch-lt4.false _ _ c.in_ok-read_full.ensures.bytes (omega arith)

pub returns-then-branch-n-clause-unpacked : goal.returns-then-branch-n-clause-unpacked
returns-then-branch-n-clause-unpacked g c =
    record-cut _ _ _ (omega arith) c.if-branch-lt4.false (omega arith) _ (omega (arith, length-take-le c.word32-n.result c.args.packed.now (omega arith))) _ _ _
    c.in_ok-read_full.ensures.bytes c.in_ok-read_full-2.ensures.bytes
    (c.in_ok-read_full-2.ensures.end (omega (arith, length-take-le c.word32-n.result c.args.packed.now (omega arith)))) (omega arith)

pub returns-in-Some-clause-unpacked : goal.returns-in-Some-clause-unpacked
returns-in-Some-clause-unpacked g c =
    record-read _ _ _ (omega arith) c.if-branch-lt4.false (omega arith) _ (omega (arith, length-take-le c.word32-n.result c.args.packed.now (omega arith))) (omega arith) _ _ _
    c.in_ok-read_full.ensures.bytes c.in_ok-read_full-2.ensures.bytes c.in-Some.ensures.same

pub returns-in-Some-clause-left : goal.returns-in-Some-clause-left
returns-in-Some-clause-left g c = λ some.
    record-left c.word32-n.result 0 _ (omega arith) c.if-branch-lt4.false (omega arith) _ (omega (arith, length-take-le c.word32-n.result c.args.packed.now (omega arith)))
    (omega arith) _ _ _ c.in_ok-read_full.ensures.bytes c.in_ok-read_full-2.ensures.bytes

pub returns-in-None-clause-unpacked : goal.returns-in-None-clause-unpacked
returns-in-None-clause-unpacked g c =
    record-read _ _ _ (omega arith) c.if-branch-lt4.false (omega arith) _ (omega (arith, length-take-le c.word32-n.result c.args.packed.now (omega arith))) (omega arith) _ _ _
    c.in_ok-read_full.ensures.bytes c.in_ok-read_full-2.ensures.bytes c.in-None.ensures.same
