-- The brackets around a node's formula, and the text of a list of operands.
use Rattle.std.specs.Prelude.{ℕ, Bool, true, false, List, [], ◌∷◌}
use Rattle.echo_spec.specs.Input.{shape}
use Rattle.echo_tables.specs.declared.Form.{Form}
use Rattle.echo_tables.specs.Forms.{form_as}
use Rattle.echo_walk.specs.declared.Walk.{Walk}
use Rattle.echo_walk.specs.Walks.{node_within}
use Rattle.echo_pieces.specs.Signs.{sign_of}
use Rattle.echo_pieces.specs.Pieces.{pieces_text}
use Rattle.echo_pieces.specs.declared.Piece.{Piece}
use Rattle.echo_openings.specs.Placed.{placed_at}

-- a bracket where there is to be one
unfoldable pub bracket_text : Bool → ℕ → List ℕ
bracket_text true b = b ∷ []
bracket_text false b = []

-- the form of node i
abbrev pub form_at : Walk → ℕ → Form
form_at W i = form_as (node_within W i) (shape (node_within W i))

-- the text of operands that no sign parts
abbrev pub list_text : Walk → List Piece → List ℕ
list_text W xs = pieces_text (λ l j. placed_at W l j) [] xs

-- the text of an operator's operands, by its kind
abbrev pub operands_text : Walk → ℕ → List Piece → List ℕ
operands_text W k xs = pieces_text (λ l j. placed_at W l j) (sign_of k) xs
