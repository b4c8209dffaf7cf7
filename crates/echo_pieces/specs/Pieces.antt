-- A node's formula in pieces: for each operand in printing order its node, the level that is wanted there, and what is written behind it.
use Rattle.std.specs.Prelude.{ℕ, zero, suc, ◌+◌, List, [], ◌∷◌, ◌++◌, true, false, ltb, eqb, get_or}
use Rattle.lists.specs.Bytes.{bytes}
use Rattle.echo_tables.specs.declared.Form.{Form}
use Rattle.echo_tables.specs.declared.Form.TheVariants.{Leaf, One, Two, Choice, Chain, Arguments}
use Rattle.echo_pieces.specs.declared.Behind.{Behind}
use Rattle.echo_pieces.specs.declared.Behind.TheVariants.{Nothing, Sign, Comma, Close, CloseComma}
use Rattle.echo_pieces.specs.declared.Piece.{Piece}

abbrev pub piece : ℕ → ℕ → Behind → Piece
piece x l b = record { node = x; level = l; behind = b }

-- what is written behind an operand, s being the sign of the operator
unfoldable pub behind_text : List ℕ → Behind → List ℕ
behind_text s Nothing = []
behind_text s Sign = s
behind_text s Comma = bytes ", "
behind_text s Close = bytes ")"
behind_text s CloseComma = bytes "), "

-- by the level of the operator: 0 to 9 between, 10 before, 11 a name

unfoldable pub one_pieces : ℕ → ℕ → List Piece
one_pieces l a = elim (eqb l 10) [ true ↦ piece a 10 Nothing ∷ [] | false ↦ piece a 0 Close ∷ [] ]

unfoldable pub two_pieces : ℕ → ℕ → ℕ → List Piece
two_pieces l a b = elim (ltb l 10) [ true ↦ piece a l Sign ∷ piece b (l + 1) Nothing ∷ [] | false ↦ piece a 0 Comma ∷ piece b 0 Close ∷ [] ]

unfoldable pub choice_pieces : ℕ → ℕ → ℕ → List Piece
choice_pieces a b c = piece a 0 Comma ∷ piece b 0 Comma ∷ piece c 0 Close ∷ []

-- n pairs of side entries from place s on, the last pair first, each closing its store
unfoldable pub store_pieces : List ℕ → ℕ → ℕ → List Piece
store_pieces side s zero = []
store_pieces side s (suc n) = piece (get_or side (s + (n + n)) 0) 0 Comma ∷ piece (get_or side (s + (n + n + 1)) 0) 0 CloseComma ∷ store_pieces side s n

unfoldable pub chain_pieces : List ℕ → ℕ → ℕ → ℕ → List Piece
chain_pieces side j s n = store_pieces side s n ++ (piece j 0 Close ∷ [])

-- n side entries from place s on
unfoldable pub arg_pieces : List ℕ → ℕ → ℕ → List Piece
arg_pieces side s zero = []
arg_pieces side s (suc zero) = piece (get_or side s 0) 0 Close ∷ []
arg_pieces side s (suc (suc n)) = piece (get_or side s 0) 0 Comma ∷ arg_pieces side (s + 1) (suc n)

unfoldable pub pieces_of : ℕ → List ℕ → Form → List Piece
pieces_of l side Leaf = []
pieces_of l side (One a w) = one_pieces l a
pieces_of l side (Two a b w) = two_pieces l a b
pieces_of l side (Choice a b c) = choice_pieces a b c
pieces_of l side (Chain j s n) = chain_pieces side j s n
pieces_of l side (Arguments s n) = arg_pieces side s n

-- how many there are
unfoldable pub count_of : Form → ℕ
count_of Leaf = 0
count_of (One a w) = 1
count_of (Two a b w) = 2
count_of (Choice a b c) = 3
count_of (Chain j s n) = n + n + 1
count_of (Arguments s n) = n

-- the text of pieces, over the texts g of the nodes below by the level that is wanted
unfoldable pub pieces_text : (ℕ → ℕ → List ℕ) → List ℕ → List Piece → List ℕ
pieces_text g s [] = []
pieces_text g s (x ∷ xs) = g x.level x.node ++ (behind_text s x.behind ++ pieces_text g s xs)
