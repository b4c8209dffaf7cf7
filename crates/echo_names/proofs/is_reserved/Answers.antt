-- `is_reserved` meets its contract. The table's rule is one computed test: the words of the table are the reserved words.
use lib.Dec.{lit≤}
use Rattle.lists.specs.Bytes.{bytes}
use Rattle.lists.specs.Tests.{same}
use Rattle.echo_spec.specs.Names.{reserved, rust_words, smtlib27_words}
use Rattle.echo_names.specs.Groups.{chunks, groups, total, holds_exactly, table-holds}
use Rattle.echo_names.proofs.is_reserved.Goals as goal

pub find_word-requires : goal.find_word-requires
unfolding total
find_word-requires c = lit≤ tt

pub returns : goal.returns
unfolding bytes same reserved rust_words smtlib27_words chunks groups holds_exactly
returns c = table-holds _ _ _ reserved c.find_word.ensures tt
