-- `name_head` meets its contract, by what the name is declared as.
use Prim.Native.Nat.{◌+◌}
use Rattle.script_heads.specs.HeadLaws.{no-argument, an-argument, told-variable, told_array, told-function, no_name, name-unknown, variable-head, nullary-head, name-argued}
use Rattle.script_heads.specs.Heads.{name_to}
use Rattle.rebuilt.specs.Built.{function_at}
use Rattle.script_decls.specs.Going.{named-of}
use Rattle.script_entries.specs.Named.{known-declared}
use Rattle.script_heads.proofs.name_head.Goals as goal

pub returns-in_err-end : goal.returns-in_err-end
returns-in_err-end c = rw c.from_residual.ensures (λ D κ. no_name c.args.script.now.text.now c.args.at c.requires.1 c.in_err-end.ensures D)

pub next_argument-requires : goal.next_argument-requires
next_argument-requires c = (told-function c.args.script.now.text.now c.requires.0.0 (name_to c.args.script.now.text.now (c.args.at + 1) c.in_ok-end.end) c.in_ok-entry.entry (c.in_ok-entry.ensures c.requires.0.0 c.requires.0.1) c.in-Function.is).arguments.begin

pub returns-in_err-entry : goal.returns-in_err-entry
returns-in_err-entry c = rw c.from_residual-in_err-entry.ensures (λ D κ. name-unknown c.args.script.now.text.now c.args.at c.in_ok-end.end c.requires.1 (named-of c.args.script.now.text.now (c.args.at + 1) c.in_ok-end.ensures) D (c.in_err-entry.ensures D κ))

pub returns-in-Variable : goal.returns-in-Variable
returns-in-Variable c = λ D κ. variable-head c.args.script.now.text.now c.args.at c.in_ok-end.end c.requires.1 (named-of c.args.script.now.text.now (c.args.at + 1) c.in_ok-end.ensures) D (known-declared κ) (told-variable c.args.script.now.text.now D (name_to c.args.script.now.text.now (c.args.at + 1) c.in_ok-end.end) c.in_ok-entry.entry (c.in_ok-entry.ensures D κ) c.in-Variable.is)

pub returns-in-Array : goal.returns-in-Array
returns-in-Array c = λ D κ. name-unknown c.args.script.now.text.now c.args.at c.in_ok-end.end c.requires.1 (named-of c.args.script.now.text.now (c.args.at + 1) c.in_ok-end.ensures) D (told_array c.args.script.now.text.now D (name_to c.args.script.now.text.now (c.args.at + 1) c.in_ok-end.end) c.in_ok-entry.entry (c.in_ok-entry.ensures D κ) c.in-Array.is).numbers

pub returns-in-None : goal.returns-in-None
returns-in-None c = λ D κ. nullary-head c.args.script.now.text.now c.args.at c.in_ok-end.end c.requires.1 (named-of c.args.script.now.text.now (c.args.at + 1) c.in_ok-end.ensures) D (known-declared κ) (told-function c.args.script.now.text.now D (name_to c.args.script.now.text.now (c.args.at + 1) c.in_ok-end.end) c.in_ok-entry.entry (c.in_ok-entry.ensures D κ) c.in-Function.is) (no-argument c.args.script.now.text.now c.in-Function.x.arguments (function_at D c.in-Function.number).arguments (c.in-None.ensures (function_at D c.in-Function.number).arguments (told-function c.args.script.now.text.now D (name_to c.args.script.now.text.now (c.args.at + 1) c.in_ok-end.end) c.in_ok-entry.entry (c.in_ok-entry.ensures D κ) c.in-Function.is).arguments))

pub returns-in-Some : goal.returns-in-Some
returns-in-Some c = λ D κ. name-argued c.args.script.now.text.now c.args.at c.in_ok-end.end c.requires.1 (named-of c.args.script.now.text.now (c.args.at + 1) c.in_ok-end.ensures) D (told-function c.args.script.now.text.now D (name_to c.args.script.now.text.now (c.args.at + 1) c.in_ok-end.end) c.in_ok-entry.entry (c.in_ok-entry.ensures D κ) c.in-Function.is) (an-argument c.args.script.now.text.now c.in-Function.x.arguments (function_at D c.in-Function.number).arguments _ (c.in-Some.ensures (function_at D c.in-Function.number).arguments (told-function c.args.script.now.text.now D (name_to c.args.script.now.text.now (c.args.at + 1) c.in_ok-end.end) c.in_ok-entry.entry (c.in_ok-entry.ensures D κ) c.in-Function.is).arguments))
