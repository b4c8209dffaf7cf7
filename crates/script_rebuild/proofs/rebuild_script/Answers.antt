-- `rebuild_script` meets its contract.
use Rattle.std.specs.Prelude.{Ok, Err}
use Rattle.std.proofs.Common.{refl, ap, subst}
use Rattle.script_check.specs.Check.{TopTo}
use Rattle.script_rebuild.specs.Steps.{few-names, few-functions, over-tables, over-items, whole, none-placed}
use Rattle.script_rebuild.proofs.rebuild_script.Goals as goal

pub arenas_within-requires : goal.arenas_within-requires
arenas_within-requires c = let x = subst (TopTo c.args.s.now c.check_header.new.t) c.in_ok-header.ensures.ok_part c.check_header.ensures in (x.declarations, x.known)

pub over_limit-requires : goal.over_limit-requires
over_limit-requires c = let x = subst (TopTo c.args.s.now c.check_header.new.t) c.in_ok-header.ensures.ok_part c.check_header.ensures in ((x.declarations, x.known), x.place)

pub returns-in_default : goal.returns-in_default
returns-in_default c =
    let x = subst (TopTo c.args.s.now c.check_header.new.t) c.in_ok-header.ensures.ok_part c.check_header.ensures in
    over-tables x c.args.heap.now c.args.roots.now (c.in_default.ensures x.declarations x.known) c.over_limit.result (c.over_limit.ensures x.declarations x.known)

pub called_in-called-requires : goal.called_in-called-requires
called_in-called-requires c = let x = subst (TopTo c.args.s.now c.check_header.new.t) c.in_ok-header.ensures.ok_part c.check_header.ensures in ((x.declarations, x.known), x.place)

pub place_script-requires : goal.place_script-requires
place_script-requires c =
    let x = subst (TopTo c.args.s.now c.check_header.new.t) c.in_ok-header.ensures.ok_part c.check_header.ensures in
    let w = (c.in-Some.ensures x.declarations x.known).0 in
    (x.declarations, x.known, few-functions x.declarations w, few-names x.known w, c.requires.1, c.requires.2, x.place)

pub returns-in-Err-NoScript : goal.returns-in-Err-NoScript
returns-in-Err-NoScript c =
    let x = subst (TopTo c.args.s.now c.check_header.new.t) c.in_ok-header.ensures.ok_part c.check_header.ensures in
    none-placed x {b = Err c.in-Err-NoScript.field-0} (c.in-Err-NoScript.ensures.reads x.declarations x.known) (ap Err c.in-Err-NoScript.field-0-is)

pub returns-in-Err-Limit : goal.returns-in-Err-Limit
returns-in-Err-Limit c =
    let x = subst (TopTo c.args.s.now c.check_header.new.t) c.in_ok-header.ensures.ok_part c.check_header.ensures in
    over-items x (c.in-Some.ensures x.declarations x.known).0 c.called_in-called.ensures c.requires.1 c.requires.2 c.requires.3 c.place_script.new.heap c.place_script.new.roots (Err c.in-Err-Limit.field-0) c.in-Err-Limit.ensures.placed (ap Err c.in-Err-Limit.field-0-is)
    c.over_limit-in-Err-Limit.result (c.over_limit-in-Err-Limit.ensures x.declarations x.known)

pub returns-in-Ok : goal.returns-in-Ok
returns-in-Ok c =
    let x = subst (TopTo c.args.s.now c.check_header.new.t) c.in_ok-header.ensures.ok_part c.check_header.ensures in
    whole x (c.in-Some.ensures x.declarations x.known).0 c.called_in-called.ensures c.requires.1 c.requires.2 c.requires.3 c.place_script.new.heap c.place_script.new.roots (Ok c.in-Ok.roots) c.in-Ok.ensures.placed (c.in-Some.ensures x.declarations x.known).1 refl (c.in-Ok.ensures.reads x.declarations x.known)
