-- A problem as bytes: the eighteen inputs of `echo_ext` in its order, each its count in 8 bytes and then its elements, which are bytes or
-- numbers of 8 bytes, the lowest byte first.
use Rattle.std.specs.Prelude.{ℕ, ◌/◌, ◌%◌, List, [], ◌∷◌, ◌++◌, length}
use Rattle.echo_spec.specs.Input.{Problem}

-- 64 bits, the lowest byte first
unfoldable pub le64 : ℕ → List ℕ
le64 n =
    n % 256 ∷ n / 256 % 256 ∷ n / 65536 % 256 ∷ n / 16777216 % 256 ∷ n / 4294967296 % 256 ∷ n / 1099511627776 % 256 ∷ n / 281474976710656 % 256
    ∷ n / 72057594037927936 ∷ []

unfoldable pub numbers_bytes : List ℕ → List ℕ
numbers_bytes [] = []
numbers_bytes (x ∷ xs) = le64 x ++ numbers_bytes xs

-- an input by its elements
pub data Input : Type 0 where
  bytes : List ℕ → Input
  numbers : List ℕ → Input

unfoldable pub input_bytes : Input → List ℕ
input_bytes (bytes xs) = le64 (length xs) ++ xs
input_bytes (numbers xs) = le64 (length xs) ++ numbers_bytes xs

unfoldable pub inputs_bytes : List Input → List ℕ
inputs_bytes [] = []
inputs_bytes (x ∷ xs) = input_bytes x ++ inputs_bytes xs

abbrev pub inputs_of : Problem → List Input
inputs_of p =
    bytes p.nodes ∷ bytes p.bits ∷ numbers p.side ∷ numbers p.roots
    ∷ bytes p.names ∷ numbers p.name_start ∷ numbers p.name_len ∷ numbers p.var_node ∷ numbers p.var_width
    ∷ bytes p.anames ∷ numbers p.aname_start ∷ numbers p.aname_len ∷ numbers p.index_width ∷ numbers p.value_width
    ∷ bytes p.fnames ∷ numbers p.fname_start ∷ numbers p.fname_len ∷ numbers p.func_width ∷ []

-- THE LAYOUT of a problem
unfoldable pub bytes_of_layout : Problem → List ℕ
bytes_of_layout p = inputs_bytes (inputs_of p)
