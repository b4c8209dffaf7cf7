-- A record as the definitions have it, and the laws of the list of nodes.
use Rattle.std.specs.Prelude.{ℕ, ◌/◌, ◌<◌, ◌≡◌, List, length, get_or}
use Rattle.lists.specs.Build.{length-tabulate, get_or-tabulate}
use Rattle.echo_spec.specs.Input as input
use Rattle.echo_spec.specs.Input.{node_at, nodes_of}
use Rattle.lent.specs.declared.Node.{Node}

abbrev pub node_of : Node → input.Node
node_of n = record { kind = n.kind; a = n.a; b = n.b; c = n.c; d = n.d }

-- ---------------------------------------------------------------- laws

pub nodes-length : (s : List ℕ) → length (nodes_of s) ≡ length s / 17
unfolding nodes_of
nodes-length s = length-tabulate (length s / 17) (node_at s)

pub nodes-at : (s : List ℕ) (d : input.Node) (i : ℕ) → i < length s / 17 → get_or (nodes_of s) i d ≡ node_at s i
unfolding nodes_of
nodes-at s d i h = get_or-tabulate (length s / 17) (node_at s) d i h
