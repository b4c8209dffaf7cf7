-- `select_head` meets its contract: the stores that open, and the array's name.
use Prim.Native.Nat.{◌+◌, ◌*◌}
use mathlib.Core.Path.{sym, ◌∙◌}
use Rattle.script_heads.specs.HeadLaws.{told_array, no_array, select-no-bar, select-unnamed, select-unknown, select-head}
use Rattle.script_heads.specs.Heads.{name_to}
use Rattle.script_decls.specs.Going.{named-of}
use Rattle.script_entries.specs.Named.{known-declared}
use Rattle.script_heads.proofs.select_head.Goals as goal

pub returns-then-byte_at-ne124 : goal.returns-then-byte_at-ne124
returns-then-byte_at-ne124 c = λ D κ. select-no-bar c.args.script.now.text.now c.args.at c.stores_at-stores.result c.requires.2 c.stores_at-stores.ensures (λ q. c.if-byte_at-ne124.true (c.byte_at.ensures ∙ q)) D

pub returns-in_err-end : goal.returns-in_err-end
returns-in_err-end c = rw c.from_residual.ensures (λ D κ. select-unnamed c.args.script.now.text.now c.args.at c.stores_at-stores.result c.requires.2 c.stores_at-stores.ensures (sym c.byte_at.ensures ∙ c.if-byte_at-ne124.false) c.in_err-end.ensures D)

pub returns-in_err-number : goal.returns-in_err-number
returns-in_err-number c = rw c.from_residual-in_err-number.ensures (λ D κ. select-unknown c.args.script.now.text.now c.args.at c.stores_at-stores.result c.requires.2 c.stores_at-stores.ensures (sym c.byte_at.ensures ∙ c.if-byte_at-ne124.false) c.in_ok-end.end (named-of c.args.script.now.text.now ((c.args.at + 8 + 7 * c.stores_at-stores.result) + 1) c.in_ok-end.ensures) D (c.in_err-number.ensures D κ).array)

pub returns-in_default : goal.returns-in_default
returns-in_default c = λ D κ. select-unknown c.args.script.now.text.now c.args.at c.stores_at-stores.result c.requires.2 c.stores_at-stores.ensures (sym c.byte_at.ensures ∙ c.if-byte_at-ne124.false) c.in_ok-end.end (named-of c.args.script.now.text.now ((c.args.at + 8 + 7 * c.stores_at-stores.result) + 1) c.in_ok-end.ensures) D (no_array c.args.script.now.text.now D (name_to c.args.script.now.text.now ((c.args.at + 8 + 7 * c.stores_at-stores.result) + 1) c.in_ok-end.end) c.in_ok-number.field-0 (c.in_ok-number.ensures D κ) c.in_default.not-Array)

pub returns : goal.returns
returns c = λ D κ. select-head c.args.script.now.text.now c.args.at c.stores_at-stores.result c.requires.2 c.stores_at-stores.ensures (sym c.byte_at.ensures ∙ c.if-byte_at-ne124.false) c.in_ok-end.end (named-of c.args.script.now.text.now ((c.args.at + 8 + 7 * c.stores_at-stores.result) + 1) c.in_ok-end.ensures) D (known-declared κ) (told_array c.args.script.now.text.now D (name_to c.args.script.now.text.now ((c.args.at + 8 + 7 * c.stores_at-stores.result) + 1) c.in_ok-end.end) c.in_ok-number.field-0 (c.in_ok-number.ensures D κ) c.in-Array.is)
