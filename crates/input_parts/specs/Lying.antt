-- What is known of parts that were found: they lie within the bytes, and there is room for their elements.
use Rattle.std.specs.Prelude.{ℕ, ◌+◌, ◌*◌, ◌≤◌, ◌<◌, ◌≡◌, List, length}
use Rattle.input_parts.specs.declared.Part.{Part}
use Rattle.input_parts.specs.Parts.{size_of, room_of, part_at, numbers_part}

-- the elements of input k lie within the bytes, and there is room for them
pub record Lies (s : List ℕ) (at : List Part) (k : ℕ) : Type 0 where
  pub inside : (part_at at k).start + size_of k * (part_at at k).count ≤ length s
  pub fits : (part_at at k).count ≤ room_of k

-- those of all eighteen
abbrev pub Inside : List ℕ → List Part → Type 0
Inside s at = (k : ℕ) → k < 18 → Lies s at k

-- every column holds the numbers of its input, in the order of the inputs
pub record Filled (s : List ℕ) (at : List Part) (side roots name_start name_len var_node var_width aname_start aname_len index_width value_width fname_start fname_len func_width : List ℕ) : Type 0 where
  pub n2 : side ≡ numbers_part s at 2
  pub n3 : roots ≡ numbers_part s at 3
  pub n5 : name_start ≡ numbers_part s at 5
  pub n6 : name_len ≡ numbers_part s at 6
  pub n7 : var_node ≡ numbers_part s at 7
  pub n8 : var_width ≡ numbers_part s at 8
  pub n10 : aname_start ≡ numbers_part s at 10
  pub n11 : aname_len ≡ numbers_part s at 11
  pub n12 : index_width ≡ numbers_part s at 12
  pub n13 : value_width ≡ numbers_part s at 13
  pub n15 : fname_start ≡ numbers_part s at 15
  pub n16 : fname_len ≡ numbers_part s at 16
  pub n17 : func_width ≡ numbers_part s at 17
