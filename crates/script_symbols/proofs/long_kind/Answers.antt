-- `long_kind` meets its contract: one of the five longer symbols, or none.
use Rattle.lists.specs.Bytes.{bytes}
use Rattle.script_symbols.specs.Words.{word-kind, no_word, kind-distinct, kind-zero-extend, kind-sign-extend, kind-rotate-left, kind-rotate-right}
use Rattle.script_symbols.proofs.long_kind.Goals as goal

pub returns-then-same_bytes : goal.returns-then-same_bytes
unfolding bytes
returns-then-same_bytes c = word-kind c.args.w.now (bytes "distinct") 20 c.same_bytes.result c.same_bytes.ensures c.if-same_bytes.true kind-distinct

pub returns-then-same_bytes-2 : goal.returns-then-same_bytes-2
unfolding bytes
returns-then-same_bytes-2 c = word-kind c.args.w.now (bytes "zero_extend") 16 c.same_bytes-2.result c.same_bytes-2.ensures c.if-same_bytes-2.true kind-zero-extend

pub returns-then-same_bytes-3 : goal.returns-then-same_bytes-3
unfolding bytes
returns-then-same_bytes-3 c = word-kind c.args.w.now (bytes "sign_extend") 17 c.same_bytes-3.result c.same_bytes-3.ensures c.if-same_bytes-3.true kind-sign-extend

pub returns-then-same_bytes-4 : goal.returns-then-same_bytes-4
unfolding bytes
returns-then-same_bytes-4 c = word-kind c.args.w.now (bytes "rotate_left") 34 c.same_bytes-4.result c.same_bytes-4.ensures c.if-same_bytes-4.true kind-rotate-left

pub returns-then-same_bytes-5 : goal.returns-then-same_bytes-5
unfolding bytes
returns-then-same_bytes-5 c = word-kind c.args.w.now (bytes "rotate_right") 13 c.same_bytes-5.result c.same_bytes-5.ensures c.if-same_bytes-5.true kind-rotate-right

pub returns : goal.returns
unfolding bytes
returns c = no_word c.args.w.now c.requires c.same_bytes.ensures c.same_bytes-2.ensures c.same_bytes-3.ensures c.same_bytes-4.ensures c.same_bytes-5.ensures c.if-same_bytes.false c.if-same_bytes-2.false c.if-same_bytes-3.false c.if-same_bytes-4.false c.if-same_bytes-5.false
