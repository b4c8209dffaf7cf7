-- The lines that are written where there is no layout. They begin as those of `print_problem` do.
use Rattle.std.specs.Prelude.{ℕ, List}
use Rattle.lists.specs.Bytes.{bytes}

unfoldable pub no_script_line : List ℕ
no_script_line = bytes "refused: 13 NoScript: the bytes are no problem's script\n"

unfoldable pub limit_line : List ℕ
limit_line = bytes "refused: 9 Limit: an input is over its limit, or a number is too large for its record\n"

unfoldable pub room_line : List ℕ
room_line = bytes "refused: 10 Room: nothing is wrong with the script, but its problem is longer than the buffer for it\n"

unfoldable pub too_large_line : List ℕ
too_large_line = bytes "input: too large: the script has more bytes than its limit, 2097152\n"

unfoldable pub too_deep_line : List ℕ
too_deep_line = bytes "input: too deep: the script has more brackets open at once than its limit, 6146\n"
