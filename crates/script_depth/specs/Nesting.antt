-- Whether a script is nested more deeply than it is read: by the brackets that are open at once. Those between the bars of a name are none.
use Rattle.std.specs.Prelude.{ℕ, ◌+◌, ◌-◌, Bool, true, false, ◌||◌, not, List, [], ◌∷◌, eqb, ltb}

-- as many as a script of a problem within the limits has at most, by the header's count (`ECHO_MAX_SCRIPT_DEPTH`)
abbrev pub deepest : ℕ
deepest = 6146

-- does a name go on behind the byte
abbrev pub turns : Bool → ℕ → Bool
turns named b = elim (eqb b 124) [ true ↦ not named | false ↦ named ]

-- how many brackets are open behind it
abbrev pub opens : Bool → ℕ → ℕ → ℕ
opens true depth b = depth
opens false depth b = elim (eqb b 40) [ true ↦ depth + 1 | false ↦ elim (eqb b 41) [ true ↦ depth - 1 | false ↦ depth ] ]

unfoldable pub deep_from : Bool → ℕ → List ℕ → Bool
deep_from named depth [] = ltb deepest depth
deep_from named depth (b ∷ bs) = ltb deepest depth || deep_from (turns named b) (opens named depth b) bs

unfoldable pub too_deep : List ℕ → Bool
too_deep s = deep_from false 0 s
