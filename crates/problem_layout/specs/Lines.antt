-- The lines that are written where there is no script.
use Rattle.std.specs.Prelude.{ℕ, ◌+◌, List, ◌++◌}
use Rattle.lists.specs.Bytes.{bytes}
use Rattle.echo_spec.specs.Render.{decimal}
use Rattle.refusals.specs.declared.EchoError.{EchoError}
use Rattle.refusals.specs.declared.EchoError.TheVariants.{Malformed, Name, Sort, Var, Rotate, Shared, Signature, Encoding, Limit, Room, Clash, ArrayWidth, ShortRecord}
use Rattle.layout_shape.specs.Layout.{input_at}

unfoldable pub refused_line : EchoError → List ℕ
refused_line Malformed = bytes "refused: 1 Malformed: a node is not well formed, the columns of a table differ in length, or a root, array or function is not there\n"
refused_line Name = bytes "refused: 2 Name: a name is empty or outside its arena, reserved, given twice, starts with @ or ., or has a byte that no quoted symbol has\n"
refused_line Sort = bytes "refused: 3 Sort: a Bool stands where a bit-vector is wanted, or a bit-vector where a Bool is\n"
refused_line Var = bytes "refused: 4 Var: a variable has no table entry of its width, or an entry has width 0\n"
refused_line Rotate = bytes "refused: 5 Rotate: a rotation is by what is not a constant, or is wider than 65536\n"
refused_line Shared = bytes "refused: 6 Shared: an operator node is used more than once\n"
refused_line Signature = bytes "refused: 7 Signature: a function has width 0, is never called, or is called in another way than by its first call\n"
refused_line Encoding = bytes "refused: 8 Encoding: the node bytes are no whole records, a kind is unknown, an unused operand is not 0, or a bit is not 0 or 1\n"
refused_line Limit = bytes "refused: 9 Limit: an input is over its limit\n"
refused_line Room = bytes "refused: 10 Room: nothing is wrong with the problem, but its script is longer than the buffer for it\n"
refused_line Clash = bytes "refused: 11 Clash: a declared name is d and the number of an operator node that is used more than once\n"
refused_line ArrayWidth = bytes "refused: 12 ArrayWidth: a width in the array table is 0 or over 65536\n"
refused_line ShortRecord = bytes "refused: 16 ShortRecord: the shorter records end inside a record, or a kind is unknown\n"

-- input k by its number, from 1, and its name
unfoldable pub input_text : ℕ → List ℕ
input_text k = bytes "input " ++ (decimal (k + 1) ++ (bytes ", " ++ (input_at k).name))

unfoldable pub early_line : ℕ → List ℕ
early_line k = bytes "input: ends early in " ++ (input_text k ++ bytes "\n")

unfoldable pub too_large_line : ℕ → List ℕ
too_large_line k = bytes "input: too large: " ++ (input_text k ++ (bytes ", has more elements than its limit, " ++ (decimal (input_at k).limit ++ bytes "\n")))

unfoldable pub left_over_line : List ℕ
left_over_line = bytes "input: bytes are left over after input 18, func_width\n"
