-- `entry_of` meets its contract: the line that has the name tells the entry, and no other line has it.
use Rattle.std.proofs.Common.{◌-◌}
use Rattle.script_tokens.specs.Reached.{between}
use Rattle.script_entries.specs.Entries.{names_of}
use Rattle.script_entries.specs.Telling.{found_after, entry-none, entry-is}
use Rattle.script_entries.proofs.Script.entry_of.Goals as goal

pub returns-in_err-found : goal.returns-in_err-found
returns-in_err-found c = rw c.from_residual.ensures (λ D κ. entry-none κ (between c.args.self.now.text.now c.args.a (c.args.f - 1)) c.in_err-found.ensures)

pub measure_after-x-requires : goal.measure_after-x-requires
measure_after-x-requires c = let x = c.in_ok-found.ensures in (found_after c.requires.0.1.tabled c.in_ok-found.found.line c.in_ok-found.found.place x.0 x.2 c.args.a c.args.f c.requires.1 x.1 x.3).0

pub returns-then-lines-gt-LINES : goal.returns-then-lines-gt-LINES
returns-then-lines-gt-LINES c = λ D κ. (let x = c.in_ok-found.ensures in entry-is κ (between c.args.self.now.text.now c.args.a (c.args.f - 1)) c.in_ok-found.found.line x.0 x.3 c.entry_by.result (c.entry_by.ensures c.args.self.now.text.now D (c.measure_after-x.ensures (names_of c.args.self.now.header) c.args.self.now.table.now D κ x.0 (found_after κ.tabled c.in_ok-found.found.line c.in_ok-found.found.place x.0 x.2 c.args.a c.args.f c.requires.1 x.1 x.3).1)))

pub returns : goal.returns
returns c = λ D κ. (let x = c.in_ok-found.ensures in entry-is κ (between c.args.self.now.text.now c.args.a (c.args.f - 1)) c.in_ok-found.found.line x.0 x.3 c.entry_by-2.result (c.entry_by-2.ensures c.args.self.now.text.now D (κ.measured c.if-lines-gt-LINES.false c.in_ok-found.found.line x.0)))
