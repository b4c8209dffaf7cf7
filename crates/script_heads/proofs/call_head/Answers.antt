-- `call_head` meets its contract, by what the name is declared as.
use Prim.Native.Nat.{◌+◌}
use Rattle.script_heads.specs.HeadLaws.{no-argument, an-argument, told-function, no-function, call-unnamed, call-unknown, call-plain, call-head}
use Rattle.script_heads.specs.Heads.{name_to}
use Rattle.rebuilt.specs.Built.{function_at}
use Rattle.script_decls.specs.Going.{named-of}
use Rattle.script_entries.specs.Named.{known-declared}
use Rattle.script_heads.proofs.call_head.Goals as goal

pub returns-in_err-end : goal.returns-in_err-end
returns-in_err-end c = rw c.from_residual.ensures (λ D κ. call-unnamed c.args.script.now.text.now c.args.at c.requires.1 c.requires.2 c.in_err-end.ensures D)

pub next_argument-requires : goal.next_argument-requires
next_argument-requires c = (told-function c.args.script.now.text.now c.requires.0.0 (name_to c.args.script.now.text.now (c.args.at + 2) c.in_ok-end.end) c.in_ok-number.field-0 (c.in_ok-number.ensures c.requires.0.0 c.requires.0.1) c.in-Function.is).arguments.begin

pub returns-in_err-number : goal.returns-in_err-number
returns-in_err-number c = rw c.from_residual-in_err-number.ensures (λ D κ. call-unknown c.args.script.now.text.now c.args.at c.requires.1 c.requires.2 c.in_ok-end.end (named-of c.args.script.now.text.now (c.args.at + 2) c.in_ok-end.ensures) D (c.in_err-number.ensures D κ).function)

pub returns-in_default : goal.returns-in_default
returns-in_default c = λ D κ. call-unknown c.args.script.now.text.now c.args.at c.requires.1 c.requires.2 c.in_ok-end.end (named-of c.args.script.now.text.now (c.args.at + 2) c.in_ok-end.ensures) D (no-function c.args.script.now.text.now D (name_to c.args.script.now.text.now (c.args.at + 2) c.in_ok-end.end) c.in_ok-number.field-0 (c.in_ok-number.ensures D κ) c.in_default.not-Function)

pub returns-in_err-next_argument : goal.returns-in_err-next_argument
returns-in_err-next_argument c = rw c.from_residual-in_err-next_argument.ensures (λ D κ. call-plain c.args.script.now.text.now c.args.at c.requires.1 c.requires.2 c.in_ok-end.end (named-of c.args.script.now.text.now (c.args.at + 2) c.in_ok-end.ensures) D (told-function c.args.script.now.text.now D (name_to c.args.script.now.text.now (c.args.at + 2) c.in_ok-end.end) c.in_ok-number.field-0 (c.in_ok-number.ensures D κ) c.in-Function.is) (no-argument c.args.script.now.text.now c.in-Function.x.arguments (function_at D c.in-Function.number).arguments (c.in_err-next_argument.ensures (function_at D c.in-Function.number).arguments (told-function c.args.script.now.text.now D (name_to c.args.script.now.text.now (c.args.at + 2) c.in_ok-end.end) c.in_ok-number.field-0 (c.in_ok-number.ensures D κ) c.in-Function.is).arguments)))

pub returns : goal.returns
returns c = λ D κ. call-head c.args.script.now.text.now c.args.at c.requires.1 c.requires.2 c.in_ok-end.end (named-of c.args.script.now.text.now (c.args.at + 2) c.in_ok-end.ensures) D (known-declared κ) (told-function c.args.script.now.text.now D (name_to c.args.script.now.text.now (c.args.at + 2) c.in_ok-end.end) c.in_ok-number.field-0 (c.in_ok-number.ensures D κ) c.in-Function.is) (an-argument c.args.script.now.text.now c.in-Function.x.arguments (function_at D c.in-Function.number).arguments _ (c.in_ok-next_argument.ensures (function_at D c.in-Function.number).arguments (told-function c.args.script.now.text.now D (name_to c.args.script.now.text.now (c.args.at + 2) c.in_ok-end.end) c.in_ok-number.field-0 (c.in_ok-number.ensures D κ) c.in-Function.is).arguments))
