-- `check_from` meets its contract: what is left of the file tells the whole. The measure is the length that is left.
use mathlib.Core.Path.{refl}
use Rattle.std.specs.Prelude.{Some, None}
use Rattle.release.specs.Told.{reason-number}
use native.Mathlib.Omega.{arith}
use Rattle.release_meanings.specs.Cutting.{stepped, none_left}
use Rattle.release.specs.Order.{unread-rest, read-end, unread-here, read_more, told-unread, told-one, told-two}
use Rattle.release.proofs.+check_from.Goals as goal

pub slice_bounds-next_script-count : goal.slice_bounds-next_script-count
slice_bounds-next_script-count t c =
    omega (arith, c.requires.0.inside)

pub slice_bounds-next_script-start : goal.slice_bounds-next_script-start
slice_bounds-next_script-start t c =
    omega (arith, c.requires.0.inside)

pub slice_bounds-next_script-end : goal.slice_bounds-next_script-end
slice_bounds-next_script-end t c =
    omega (arith, c.requires.0.inside)

pub returns-then-at-file : goal.returns-then-at-file
returns-then-at-file t c =
    told-unread c.args.file.now c.requires.1 (unread-rest c.args.file.now c.args.at c.args.k c.requires.0 (none_left c.args.file.now c.args.at c.next_script.result c.next_script.ensures c.in_default.is) c.if-at-file.true)

pub earliest_clash-requires : goal.earliest_clash-requires
earliest_clash-requires t c =
    (c.requires.1, (read-end c.args.file.now c.args.at c.args.k c.requires.0 (none_left c.args.file.now c.args.at c.next_script.result c.next_script.ensures c.in_default.is) c.if-at-file.false).0)

pub returns-in-None : goal.returns-in-None
returns-in-None t c =
    told-one c.args.file.now c.requires.1 (read-end c.args.file.now c.args.at c.args.k c.requires.0 (none_left c.args.file.now c.args.at c.next_script.result c.next_script.ensures c.in_default.is) c.if-at-file.false) None c.in-None.ensures refl

pub returns-in-Some-earliest_clash : goal.returns-in-Some-earliest_clash
returns-in-Some-earliest_clash t c =
    told-two c.args.file.now c.requires.1 (read-end c.args.file.now c.args.at c.args.k c.requires.0 (none_left c.args.file.now c.args.at c.next_script.result c.next_script.ensures c.in_default.is) c.if-at-file.false) (Some c.in-Some-earliest_clash.j) c.in-Some-earliest_clash.ensures refl

pub overflow_add-at : goal.overflow_add-at
overflow_add-at t c =
    omega (arith, (stepped c.args.file.now c.args.at c.next_script.result c.requires.0.inside c.next_script.ensures c.in-Some.is).inside)

pub slice_bounds-read-count : goal.slice_bounds-read-count
slice_bounds-read-count t c =
    omega (arith, (stepped c.args.file.now c.args.at c.next_script.result c.requires.0.inside c.next_script.ensures c.in-Some.is).inside)

pub slice_bounds-read-start : goal.slice_bounds-read-start
slice_bounds-read-start t c =
    omega (arith, (stepped c.args.file.now c.args.at c.next_script.result c.requires.0.inside c.next_script.ensures c.in-Some.is).inside)

pub slice_bounds-read-end : goal.slice_bounds-read-end
slice_bounds-read-end t c =
    omega (arith, (stepped c.args.file.now c.args.at c.next_script.result c.requires.0.inside c.next_script.ensures c.in-Some.is).inside)

pub returns-in-Err : goal.returns-in-Err
returns-in-Err t c =
    told-unread c.args.file.now c.requires.1 (unread-here c.args.file.now c.args.at c.args.k c.requires.0 _ _ (stepped c.args.file.now c.args.at c.next_script.result c.requires.0.inside c.next_script.ensures c.in-Some.is) c.in-Err.ensures (reason-number c.in-Err.reason))

pub overflow_add-k : goal.overflow_add-k
overflow_add-k t c =
    let s = stepped c.args.file.now c.args.at c.next_script.result c.requires.0.inside c.next_script.ensures c.in-Some.is in
    omega (arith, c.requires.0.few, s.inside, s.long)

pub check_from-requires : goal.check_from-requires
check_from-requires t c =
    let s = stepped c.args.file.now c.args.at c.next_script.result c.requires.0.inside c.next_script.ensures c.in-Some.is in
    (omega (arith, c.decreases, s.inside, s.long), (read_more c.args.file.now c.args.at c.args.k c.requires.0 _ 0 s c.in-Ok.ensures (omega arith), c.requires.1))
