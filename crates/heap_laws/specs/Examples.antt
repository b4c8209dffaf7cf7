-- The definitions at work on small values: each is computed.
use Rattle.std.specs.Prelude.{◌+◌, ◌*◌, ◌≡◌, refl, [], ◌∷◌, true, false}
use Rattle.lists.specs.Bytes.{bytes}
use Rattle.echo_spec.specs.Input.{nodes_within}
use Rattle.readback.specs.Reader.{up_to}
use Rattle.readback.specs.Records.{record_bytes, records_bytes}
use Rattle.readback.specs.Rebuild.{a_variable, here, pending, bits_in, side_in, joined, record_of, records_from}
use Rattle.heap_laws.specs.Heap.{within, bits_at, bits_spanned, ref_at, pending_in, pairs_back}

-- a width of 32 bits can be written, one of 33 cannot
widest : within (a_variable 4294967295 ∷ []) ≡ true
unfolding within nodes_within records_bytes record_bytes records_from record_of joined bits_in side_in
widest = refl

too_wide : within (a_variable 4294967296 ∷ []) ≡ false
unfolding within nodes_within records_bytes record_bytes records_from record_of joined bits_in side_in
too_wide = refl

-- an even number below 2^63 is a node
a-node : ref_at (bytes "#b110 #b0)") 6 ≡ here 3
unfolding ref_at
a-node = refl

-- an odd one is a constant, by the place of its digits; its lowest bit comes first
a-constant : ref_at (bytes "#b110 #b0)") 5 ≡ pending (0 ∷ 1 ∷ 1 ∷ [])
unfolding ref_at bits_at up_to bytes
a-constant = refl

-- so is one from 2^63 on, by the place of its digits and how many there are
a-span : ref_at (bytes "#b110 #b0)") (2 * (4611686018427387904 + (2 + 17592186044416 * 3))) ≡ pending (0 ∷ 1 ∷ 1 ∷ [])
unfolding ref_at bits_spanned bytes
a-span = refl

-- nodes that wait are no constants
waiting : pending_in (here 4 ∷ pending (1 ∷ []) ∷ here 5 ∷ pending (0 ∷ 1 ∷ []) ∷ []) ≡ (1 ∷ []) ∷ (0 ∷ 1 ∷ []) ∷ []
unfolding pending_in
waiting = refl

-- of two stores the outer one, which waits after the inner one, comes first
two-stores : pairs_back 2 (10 ∷ 11 ∷ 12 ∷ 13 ∷ 14 ∷ []) ≡ record { index = 12; value = 13 } ∷ record { index = 10; value = 11 } ∷ []
unfolding pairs_back
two-stores = refl
