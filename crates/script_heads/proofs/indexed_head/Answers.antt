-- `indexed_head` meets its contract: the word, and one numeral or two.
use Prim.Native.Nat.{◌+◌}
use mathlib.Core.Path.{sym, ◌∙◌}
use native.Mathlib.Omega.{arith}
use lib.Dec.{lit<}
use Rattle.lists.specs.Bytes.{bytes}
use Rattle.script_heads.specs.HeadLaws.{byte-there, past-word-there, blank-further, no-underscore, indexed-no-kind, no-first, one-numeral, no_second, two-numerals, no_third}
use Rattle.script_heads.proofs.indexed_head.Goals as goal

pub returns-in_err-a : goal.returns-in_err-a
unfolding bytes
returns-in_err-a c = rw c.from_residual.ensures (no-underscore c.args.s.now c.args.at c.requires.0 c.requires.1 c.in_err-a.ensures)

pub returns-in_err-kind : goal.returns-in_err-kind
unfolding bytes
returns-in_err-kind c = rw c.from_residual-in_err-kind.ensures (indexed-no-kind c.args.s.now c.args.at c.requires.0 c.requires.1 c.in_ok-a.a c.word_end-e.result c.in_ok-a.ensures.1 c.word_end-e.ensures c.in_err-kind.ensures)

pub returns-in_err-i : goal.returns-in_err-i
unfolding bytes
returns-in_err-i c = rw c.from_residual-in_err-i.ensures (no-first c.args.s.now c.args.at c.requires.0 c.requires.1 c.in_ok-a.a c.word_end-e.result c.in_ok-a.ensures.1 c.word_end-e.ensures c.in_err-i.ensures)

pub returns-then-byte_at-eq41 : goal.returns-then-byte_at-eq41
unfolding bytes
returns-then-byte_at-eq41 c = one-numeral c.args.s.now c.args.at c.requires.0 c.requires.1 c.in_ok-a.a c.word_end-e.result c.in_ok-a.ensures.1 c.word_end-e.ensures c.in_ok-i.i.value c.in_ok-i.i.end c.in_ok-i.ensures.1 c.in_ok-kind.ensures (omega (arith, past-word-there (bytes "_ ") c.args.s.now (c.args.at + 2) c.in_ok-a.a (omega (arith, byte-there c.args.s.now (c.args.at + 1) c.requires.1 (lit< tt))) c.in_ok-a.ensures.0 c.in_ok-a.ensures.1, c.word_end-e.ensures.low, blank-further c.args.s.now c.word_end-e.result c.in_ok-i.i.end c.word_end-e.ensures.high c.in_ok-i.ensures.0 c.in_ok-i.ensures.1)) (byte-there c.args.s.now c.in_ok-i.i.end (sym c.byte_at.ensures ∙ c.if-byte_at-eq41.true) (lit< tt)) (sym c.byte_at.ensures ∙ c.if-byte_at-eq41.true)

pub returns-in_err-j : goal.returns-in_err-j
unfolding bytes
returns-in_err-j c = rw c.from_residual-in_err-j.ensures (no_second c.args.s.now c.args.at c.requires.0 c.requires.1 c.in_ok-a.a c.word_end-e.result c.in_ok-a.ensures.1 c.word_end-e.ensures c.in_ok-i.i.value c.in_ok-i.i.end c.in_ok-i.ensures.1 (λ q. c.if-byte_at-eq41.false (c.byte_at.ensures ∙ q)) c.in_err-j.ensures)

pub returns-then-byte_at-eq41-2 : goal.returns-then-byte_at-eq41-2
unfolding bytes
returns-then-byte_at-eq41-2 c = two-numerals c.args.s.now c.args.at c.requires.0 c.requires.1 c.in_ok-a.a c.word_end-e.result c.in_ok-a.ensures.1 c.word_end-e.ensures c.in_ok-i.i.value c.in_ok-i.i.end c.in_ok-i.ensures.1 c.in_ok-j.j.value c.in_ok-j.j.end c.in_ok-j.ensures.1 c.in_ok-kind.ensures (omega (arith, past-word-there (bytes "_ ") c.args.s.now (c.args.at + 2) c.in_ok-a.a (omega (arith, byte-there c.args.s.now (c.args.at + 1) c.requires.1 (lit< tt))) c.in_ok-a.ensures.0 c.in_ok-a.ensures.1, c.word_end-e.ensures.low, blank-further c.args.s.now c.word_end-e.result c.in_ok-i.i.end c.word_end-e.ensures.high c.in_ok-i.ensures.0 c.in_ok-i.ensures.1, blank-further c.args.s.now c.in_ok-i.i.end c.in_ok-j.j.end c.in_ok-i.ensures.0 c.in_ok-j.ensures.0 c.in_ok-j.ensures.1)) (byte-there c.args.s.now c.in_ok-j.j.end (sym c.byte_at-2.ensures ∙ c.if-byte_at-eq41-2.true) (lit< tt)) (sym c.byte_at-2.ensures ∙ c.if-byte_at-eq41-2.true)

pub returns : goal.returns
unfolding bytes
returns c = no_third c.args.s.now c.args.at c.requires.0 c.requires.1 c.in_ok-a.a c.word_end-e.result c.in_ok-a.ensures.1 c.word_end-e.ensures c.in_ok-i.i.value c.in_ok-i.i.end c.in_ok-i.ensures.1 c.in_ok-j.j.value c.in_ok-j.j.end c.in_ok-j.ensures.1 (λ q. c.if-byte_at-eq41-2.false (c.byte_at-2.ensures ∙ q))
