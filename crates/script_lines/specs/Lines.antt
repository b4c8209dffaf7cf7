-- Scripts by their lines: which bytes are those of a script, and how a file of scripts end to end is cut (requests L7 and L12). Nothing
-- here knows what the lines say, but for the last one.
use Rattle.std.specs.Prelude.{ℕ, zero, suc, ◌≡◌, List, [], ◌∷◌, ◌++◌, Bool, true, false, ◌&&◌, not, cond, eqb, length, take, drop}
use Rattle.std.proofs.Math.Option.{Option, none, some}
use Rattle.lists.specs.Bytes.{bytes}
use Rattle.lists.specs.Tests.{same, among, All}

-- the last line of a script, with its byte 10
abbrev pub check_sat_line : List ℕ
check_sat_line = bytes "(check-sat)\n"

-- ---------------------------------------------------------------- the law of lines

-- a line, without its byte 10, that no script ends with: it holds no byte 10, and is not `(check-sat)`
unfoldable pub other_line : List ℕ → Bool
other_line l = not (among l 10) && not (same l (bytes "(check-sat)"))

-- lines one after the other, each with its byte 10
unfoldable pub lines_text : List (List ℕ) → List ℕ
lines_text [] = []
lines_text (l ∷ ls) = l ++ (10 ∷ lines_text ls)

-- The bytes of a script are lines that end in byte 10 and hold none inside; the last is `(check-sat)`, and no other is.
pub record IsScript (s : List ℕ) : Type 0 where
  -- those before the last
  pub lines : List (List ℕ)
  pub others : All other_line lines
  pub text : s ≡ lines_text lines ++ check_sat_line

abbrev pub AllScripts : List (List ℕ) → Type 0
AllScripts [] = Unit
AllScripts (s ∷ ss) = IsScript s × AllScripts ss

-- ---------------------------------------------------------------- scripts end to end

-- a file: one script after the other, with nothing between them
unfoldable pub joined : List (List ℕ) → List ℕ
joined [] = []
joined (s ∷ ss) = s ++ joined ss

-- ---------------------------------------------------------------- where a file is cut

-- do the bytes begin with these
unfoldable pub begins : List ℕ → List ℕ → Bool
begins [] s = true
begins (x ∷ xs) [] = false
begins (x ∷ xs) (y ∷ ys) = eqb x y && begins xs ys

-- the same place, counted from one byte further back
abbrev pub further : Option ℕ → Option ℕ
further none = none
further (some n) = some (suc n)

-- How many bytes there are up to the end of the first check-sat line. Such a line is a whole line: `(check-sat)` and byte 10 where a line
-- starts, which `fresh` says of this place, and of every other place the byte before it.
unfoldable pub until_check : Bool → List ℕ → Option ℕ
until_check fresh [] = none
until_check fresh (c ∷ cs) = cond (fresh && begins check_sat_line (c ∷ cs)) (some 12) (further (until_check (eqb 10 c) cs))

-- the length of the first script of a file: the start of the file is the start of a line
unfoldable pub following_script : List ℕ → Option ℕ
following_script file = until_check true file

-- the scripts of a file, and what follows the last check-sat line
pub record Cut : Type 0 where
  pub scripts : List (List ℕ)
  pub rest : List ℕ

abbrev pub uncut : List ℕ → Cut
uncut file = record { scripts = []; rest = file }

abbrev pub with_first : List ℕ → Cut → Cut
with_first s c = record { scripts = s ∷ c.scripts; rest = c.rest }

-- at most n scripts cut off
unfoldable pub cut_up_to : ℕ → List ℕ → Cut
cut_up_to zero file = uncut file
cut_up_to (suc n) file = elim (following_script file) [ none ↦ uncut file | some k ↦ with_first (take k file) (cut_up_to n (drop k file)) ]

-- A file cut after each check-sat line. A script has twelve bytes or more, so that there are fewer of them than bytes.
unfoldable pub scripts_of : List ℕ → Cut
scripts_of file = cut_up_to (length file) file
