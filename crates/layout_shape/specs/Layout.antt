-- A problem in bytes: the eighteen inputs of `echo_ext` in its order, each a count of 8 bytes and then its elements. Nothing follows.
use Rattle.std.specs.Prelude.{ℕ, zero, suc, ◌+◌, ◌*◌, List, [], ◌∷◌, Bool, true, false, leb, length, get_or}
use Prim.Native.String.{String}
use Rattle.lists.specs.Bytes.{bytes}
use Rattle.echo_spec.specs.Input.{Problem}
use Rattle.lent.specs.Lent.{problem_of}
use Rattle.input_parts.specs.Parts.{size_of, word64, bytes_at, numbers_at}

-- ---------------------------------------------------------------- the inputs

-- what is fixed of an input beside the size of an element: its name and the largest count
pub record Input : Type 0 where
  pub name : List ℕ
  pub limit : ℕ

abbrev pub input : String → ℕ → Input
input name limit = record { name = bytes name; limit = limit }

unfoldable pub inputs : List Input
inputs =
    input "nodes" 34816
    ∷ input "bits" 131072
    ∷ input "side" 8192
    ∷ input "roots" 256
    ∷ input "names" 16384
    ∷ input "name_start" 512
    ∷ input "name_len" 512
    ∷ input "var_node" 512
    ∷ input "var_width" 512
    ∷ input "anames" 16384
    ∷ input "aname_start" 512
    ∷ input "aname_len" 512
    ∷ input "index_width" 512
    ∷ input "value_width" 512
    ∷ input "fnames" 16384
    ∷ input "fname_start" 512
    ∷ input "fname_len" 512
    ∷ input "func_width" 512
    ∷ []

-- input k, counted from 0
unfoldable pub input_at : ℕ → Input
input_at k = get_or inputs k (input "" 0)

-- ---------------------------------------------------------------- where they stand

-- where input k begins, with its count: behind the elements of the one before it
unfoldable pub place_of : List ℕ → ℕ → ℕ
place_of s zero = 0
place_of s (suc k) = place_of s k + 8 + size_of k * word64 s (place_of s k)

abbrev pub count_of : List ℕ → ℕ → ℕ
count_of s k = word64 s (place_of s k)

-- the elements of input k, where they are bytes and where they are numbers
unfoldable pub bytes_of : List ℕ → ℕ → List ℕ
bytes_of s k = bytes_at s (place_of s k + 8) (count_of s k)

unfoldable pub numbers_of : List ℕ → ℕ → List ℕ
numbers_of s k = numbers_at s (place_of s k + 8) (count_of s k)

unfoldable pub problem_in : List ℕ → Problem
problem_in s =
    problem_of (bytes_of s 0) (bytes_of s 1) (numbers_of s 2) (numbers_of s 3)
    (bytes_of s 4) (numbers_of s 5) (numbers_of s 6) (numbers_of s 7) (numbers_of s 8)
    (bytes_of s 9) (numbers_of s 10) (numbers_of s 11) (numbers_of s 12) (numbers_of s 13)
    (bytes_of s 14) (numbers_of s 15) (numbers_of s 16) (numbers_of s 17)

-- ---------------------------------------------------------------- the layout

-- a problem, or the first fault in reading order: with it, but for bytes left over, goes the input
pub data Layout : Type 0 where
  early : ℕ → Layout
  too_large : ℕ → Layout
  left_over : Layout
  given : Problem → Layout

abbrev pub unless : Bool → Layout → Layout → Layout
unless true fault rest = rest
unless false fault rest = fault

-- n inputs from k on, where those before k are there: the count is there, it is within the limit, the elements are there
unfoldable pub inputs_from : List ℕ → ℕ → ℕ → Layout
inputs_from s k zero = unless (leb (length s) (place_of s k)) left_over (given (problem_in s))
inputs_from s k (suc n) =
    unless (leb (place_of s k + 8) (length s)) (early k)
    (unless (leb (count_of s k) (input_at k).limit) (too_large k)
    (unless (leb (place_of s (suc k)) (length s)) (early k)
    (inputs_from s (suc k) n)))

unfoldable pub layout : List ℕ → Layout
layout s = inputs_from s 0 18
