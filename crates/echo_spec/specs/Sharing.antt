-- Sharing: how often each node is used, reached or not.
use Rattle.std.specs.Prelude.{ℕ, suc, ◌*◌, List, [], ◌∷◌, ◌++◌, Bool, true, false, ◌||◌, leb, eqb, length, take, drop, get_or}
use Rattle.lists.specs.Tests.{every_from}
use Rattle.echo_spec.specs.Shapes.{
  Shape,
  var,
  const,
  binary,
  rotation,
  extraction,
  concat,
  extension,
  ite,
  comparison,
  negation,
  connective,
  unary,
  select,
  call,
  unknown,
  is_leaf,
}
use Rattle.echo_spec.specs.Input.{Node, shape, no_node}

-- the nodes that a node of this shape uses, each occurrence once; a rotation's amount is a use
unfoldable pub uses_as : List ℕ → Node → Shape → List ℕ
uses_as side n var = []
uses_as side n const = []
uses_as side n binary = n.a ∷ n.b ∷ []
uses_as side n rotation = n.a ∷ n.b ∷ []
uses_as side n extraction = n.c ∷ []
uses_as side n concat = n.a ∷ n.b ∷ []
uses_as side n extension = n.a ∷ []
uses_as side n ite = n.a ∷ n.b ∷ n.c ∷ []
uses_as side n comparison = n.a ∷ n.b ∷ []
uses_as side n negation = n.a ∷ []
uses_as side n connective = n.a ∷ n.b ∷ []
uses_as side n unary = n.a ∷ []
uses_as side n select = n.b ∷ take (2 * n.d) (drop n.c side)
uses_as side n call = take n.d (drop n.c side)
uses_as side n unknown = []

-- each node's uses, in node order
unfoldable pub uses_of_all : List ℕ → List Node → List ℕ
uses_of_all side [] = []
uses_of_all side (n ∷ ns) = uses_as side n (shape n) ++ uses_of_all side ns

-- how often i occurs
unfoldable pub count : ℕ → List ℕ → ℕ
count i [] = 0
count i (x ∷ xs) = elim (eqb x i) [ true ↦ suc (count i xs) | false ↦ count i xs ]

-- node i may be shared, or is used once at most
unfoldable pub used_once : List Node → List ℕ → ℕ → Bool
used_once ns us i = is_leaf (shape (get_or ns i no_node)) || leb (count i us) 1

-- `unshared`, over nodes, side entries and roots
unfoldable pub unshared : List Node → List ℕ → List ℕ → Bool
unshared ns side roots = every_from (used_once ns (uses_of_all side ns ++ roots)) 0 (length ns)
