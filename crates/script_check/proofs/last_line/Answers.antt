-- `last_line` meets its contract: no last line, bytes after it, or the end.
use Rattle.std.specs.Prelude.{Option as Maybe, Some, None}
use Rattle.std.specs.Option.{option_eq}
use Rattle.script_tokens.specs.Reached.{Reached}
use Rattle.std.proofs.Common.{sym, subst, ℕ, ◌≡◌, ◌≤◌, List, [], Bool, true, false, refl, eqb, eqb→eq, length, drop, arith}
use Rattle.std.proofs.lemmas.Bool.{eqb-false}
use Rattle.std.proofs.Math.Option.{none}
use Rattle.lists.specs.Bytes.{bytes}
use Rattle.lists.specs.Tests.{true→T}
use Rattle.reading.specs.Trees.{Declarations}
use Rattle.readback.specs.Reader.{took, expect}
use Rattle.readback.specs.ScriptReader.{read_assertion}
use Rattle.header_laws.specs.Body as body
use Rattle.script_check.specs.Check.{EndsTo}
use Rattle.script_check.specs.Steps.{Going, going-none, going-past}
use Rattle.script_check.specs.Turns.{turn_last}
use Rattle.script_check.proofs.last_line.Goals as goal

ends : {s : List ℕ} {D : Declarations} {from p n : ℕ} → Going s D from p n → from ≤ length s → read_assertion D (drop p s) ≡ none → (z : ℕ) → z ≤ length s → expect body.last_line (drop p s) ≡ took [] (drop z s)
    → (b : Bool) → eqb z (length s) ≡ b → EndsTo s D from n b
ends {s} g l e z h q true i = let k = eqb→eq z (length s) (true→T i) in turn_last g l e z q (omega arith)
ends {s} g l e z h q false i = let k = eqb-false z (length s) i in going-past g e z q (omega arith)

ended : {s : List ℕ} {D : Declarations} {from p n : ℕ} → Going s D from p n → from ≤ length s → read_assertion D (drop p s) ≡ none → (r : Maybe ℕ) → Reached s (expect body.last_line (drop p s)) r
    → EndsTo s D from n (option_eq eqb r (Some (length s)))
ended g l e None h = going-none g e h
ended {s} g l e (Some z) h = ends g l e z h.0 h.1 (eqb z (length s)) refl

pub returns : goal.returns
unfolding bytes
returns c = λ D from n l g e. subst (EndsTo c.args.s.now D from n) (sym c.eq.ensures) (ended g l e c.literal.result c.literal.ensures)
