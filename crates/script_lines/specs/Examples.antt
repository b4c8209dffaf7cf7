-- Files cut, computed.
use Rattle.std.specs.Prelude.{ℕ, ◌≡◌, refl, List, [], ◌∷◌, ◌++◌, map}
use Rattle.std.proofs.Math.Option.{Option, none, some}
use Rattle.lists.specs.Bytes.{bytes}
use Rattle.lists.specs.Tests.{same, by-test}
use Rattle.script_lines.specs.Lines.{other_line, lines_text, IsScript, begins, until_check, following_script, cut_up_to, scripts_of}

-- a definition for each: what is computed is written out
abbrev logic : List ℕ
logic = bytes "(set-logic QF_BV)\n(check-sat)\n"

-- a name between bars may hold the text of the line, and is no line
abbrev named : List ℕ
named = bytes "(set-logic QF_BV)\n(declare-const |(check-sat)| (_ BitVec 8))\n(check-sat)\n"

-- ---------------------------------------------------------------- the first script's length

-- a file, and what is answered of it
record Case : Type 0 where
  file : List ℕ
  first : Option ℕ

abbrev case : List ℕ → Option ℕ → Case
case f o = record { file = f; first = o }

abbrev cases : List Case
cases =
    -- nothing; a line by itself; the first of two
    case [] none
    ∷ case (bytes "(check-sat)\n") (some 12)
    ∷ case (bytes "\n(check-sat)\n") (some 13)
    ∷ case logic (some 30)
    ∷ case (logic ++ named) (some 30)
    ∷ case (named ++ logic) (some 73)
    -- no line: cut short, not at a line's start, with more on the line
    ∷ case (bytes "(check-sat)") none
    ∷ case (bytes "check-sat)\n") none
    ∷ case (bytes " (check-sat)\n") none
    ∷ case (bytes "(check-sat) \n") none
    ∷ case (bytes "(check-sat)\r\n") none
    ∷ case (bytes "x(check-sat)\n") none
    ∷ case (bytes "(check-sat)(check-sat)\n") none
    ∷ case (bytes "|(check-sat)|\n") none
    ∷ case (bytes "(check-saT)\n") none
    -- a line that is none, and then one
    ∷ case (bytes " (check-sat)\n(check-sat)\n") (some 25)
    ∷ case (bytes "(check-sat)\r\n(check-sat)\n") (some 25)
    ∷ []

firsts : map (λ (c : Case). following_script c.file) cases ≡ map (λ (c : Case). c.first) cases
unfolding following_script until_check begins bytes
firsts = refl

-- ---------------------------------------------------------------- whole files

two : scripts_of (logic ++ named) ≡ record { scripts = logic ∷ named ∷ []; rest = [] }
unfolding scripts_of cut_up_to following_script until_check begins bytes
two = refl

-- the same scripts in another order are another file
turned : scripts_of (named ++ logic) ≡ record { scripts = named ∷ logic ∷ []; rest = [] }
unfolding scripts_of cut_up_to following_script until_check begins bytes
turned = refl

nothing : scripts_of [] ≡ record { scripts = []; rest = [] }
unfolding scripts_of cut_up_to
nothing = refl

-- bytes after the last check-sat line are the rest
left_over : scripts_of (logic ++ bytes "(check-sat)\n(check-sat)") ≡ record { scripts = logic ∷ bytes "(check-sat)\n" ∷ []; rest = bytes "(check-sat)" }
unfolding scripts_of cut_up_to following_script until_check begins bytes
left_over = refl

no_line : scripts_of (bytes "(set-logic QF_BV)\n") ≡ record { scripts = []; rest = bytes "(set-logic QF_BV)\n" }
unfolding scripts_of cut_up_to following_script until_check begins bytes
no_line = refl

-- ---------------------------------------------------------------- a script by the law of lines

named-script : IsScript named
unfolding lines_text other_line bytes same
named-script = record {
  lines = bytes "(set-logic QF_BV)" ∷ bytes "(declare-const |(check-sat)| (_ BitVec 8))" ∷ [];
  others = by-test other_line (bytes "(set-logic QF_BV)" ∷ bytes "(declare-const |(check-sat)| (_ BitVec 8))" ∷ []) tt;
  text = refl;
}

logic-script : IsScript logic
unfolding lines_text other_line bytes same
logic-script = record { lines = bytes "(set-logic QF_BV)" ∷ []; others = by-test other_line (bytes "(set-logic QF_BV)" ∷ []) tt; text = refl }
