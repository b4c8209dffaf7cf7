-- `find_word` meets its contract: the words of the groups from g on decide the answer, and inside a group those from word k on with the other groups'.
use Prim.Native.Nat.{◌+◌, ◌-◌, ◌*◌}
use mathlib.Core.Path.{◌≡◌}
use mathlib.Core.List.{◌++◌}
use lib.ListN.{drop, get_or}
use Rattle.lists.specs.Tests.{in_list}
use Rattle.echo_names.specs.Groups.{chunks, in_table, group_end, groups_left, GroupsInside}
use Rattle.echo_names.proofs.find_word.Given as goal

abbrev pub invariant-loop-g : goal.invariant-loop-g
invariant-loop-g l =
    GroupsInside l.words l.counts l.g l.start
    × (in_list l.name (groups_left l.words l.counts l.g l.start) ≡ in_table l.name l.words l.counts)

abbrev pub invariant-loop-k : goal.invariant-loop-k
invariant-loop-k l =
    in_list l.name (chunks l.n (get_or l.counts l.g 0 - l.k) (drop (l.start + l.k * l.n) l.words) ++ groups_left l.words l.counts (l.g + 1) (group_end l.counts l.g l.start))
    ≡ in_table l.name l.words l.counts
