-- `short_records::shorten_into` meets its contract. Each way out is one case of the answer. Assumes nothing.
use native.Mathlib.Omega.{arith}
use mathlib.Core.Path.{refl, sym, ◌∙◌}
use Rattle.refusals.specs.declared.EchoError.TheVariants.{Encoding, Limit}
use Rattle.short_records.specs.Short.{shorten_answer}
use Rattle.short_records.proofs.Answering.{refused, no_room, done, over-limit, ill-encoded, passed}
use Rattle.short_records.proofs.shorten_into.Goals as goal

pub returns-then-old-gt-MAX_NODE_BYTES : goal.returns-then-old-gt-MAX_NODE_BYTES
unfolding shorten_answer
returns-then-old-gt-MAX_NODE_BYTES c =
    refused _ _ _ Limit (over-limit c.args.old.now c.if-old-gt-MAX_NODE_BYTES.true) refl

pub returns-then-not-encoded : goal.returns-then-not-encoded
unfolding shorten_answer
returns-then-not-encoded c =
    refused _ _ _ Encoding (ill-encoded c.args.old.now c.if-old-gt-MAX_NODE_BYTES.false (sym c.encoded.ensures ∙ c.if-not-encoded.true)) refl

pub returns-then-n-out : goal.returns-then-n-out
unfolding shorten_answer
returns-then-n-out c =
    no_room _ _ _ (passed c.args.old.now c.if-old-gt-MAX_NODE_BYTES.false (sym c.encoded.ensures ∙ c.if-not-encoded.false)) (omega (arith, c.short_length-n.ensures, c.if-n-out.true)) refl

pub returns : goal.returns
unfolding shorten_answer
returns c =
    done _ _ _ (passed c.args.old.now c.if-old-gt-MAX_NODE_BYTES.false (sym c.encoded.ensures ∙ c.if-not-encoded.false)) c.short_length-n.ensures c.if-n-out.false c.write_short.ensures
