-- The claims on scripts end to end, at problems: one printed plainly, one hidden, one with `let`, one whose names are every permitted byte and the text
-- `(check-sat)`.
use Rattle.std.specs.Prelude.{ℕ, ◌+◌, ◌≡◌, refl, List, [], ◌∷◌, ◌++◌, length, take, get_or}
use Rattle.std.proofs.Common.{ap, ◌∙◌, arith}
use Rattle.lists.specs.Bytes.{bytes}
use Rattle.lists.specs.Build.{tabulate}
use Rattle.reading.specs.Kinds.{Var, Eq}
use Rattle.reading.specs.Trees.{Name}
use Rattle.script_lines.specs.Lines.{IsScript, joined, begins, until_check, following_script, scripts_of}
use Rattle.std.specs.Prelude.{Option as Found, Some, None}
use Rattle.echo_spec.specs.Input.{Problem}
use Rattle.echo_spec.specs.Answers.{echo_ext_answer}
use Rattle.hidden.specs.Hidden.{zeros, hidden, hidden_reading, hidden_script, echo_hidden_answer}
use Rattle.echo_spec.specs.Examples.{node, problem, lent, sum, all_meet}
use Rattle.lets.specs.LetExamples.{over, lets_meet}
use Rattle.claims.specs.JoinedScripts.{plain, with_zeros, with_let, PrintedScript, NextContract, printed-lines, equal-files, no-beginning, no-file-beginning, cut-gives-back, cut-tells-rest, next-of-file, next-of-nothing, bytes-are-script}

-- ---------------------------------------------------------------- four scripts

-- nothing at all
empty : PrintedScript (bytes "(set-logic QF_BV)\n(check-sat)\n")
unfolding all_meet
empty = plain (problem [] [] [] [] [] [] []) (lent 30) refl

-- x + 5 is used twice, and bound
shared : PrintedScript (bytes "(set-logic QF_BV)\n(declare-const |x| (_ BitVec 8))\n(assert (let ((|d2| (bvadd |x| #b00000101))) (= |d2| |d2|)))\n(check-sat)\n")
unfolding lets_meet
shared = with_let (over (sum ∷ node Eq 2 2 0 0 ∷ []) (3 ∷ []) "x") (lent 124) refl

-- x + 5 is x, the 5 hidden
covered : PrintedScript (bytes "(set-logic QF_BV)\n(declare-const |x| (_ BitVec 8))\n(assert (= (bvadd |x| #b00000000) |x|))\n(check-sat)\n")
unfolding lets_meet zeros hidden hidden_reading hidden_script echo_hidden_answer
covered = with_zeros (over (sum ∷ node Eq 2 0 0 0 ∷ []) (3 ∷ []) "x") (lent 124) refl

-- every byte that a name may have, those from 128 to 255 last
all_bytes : Name
all_bytes = bytes " !\"#$%&'()*+,-./0123456789:;<=>?@ABCDEFGHIJKLMNOPQRSTUVWXYZ[]^_`abcdefghijklmnopqrstuvwxyz{}~" ++ tabulate 128 (λ c. 128 + c)

-- two variables, one with the text of a check-sat line as its name, and that they are equal
two_names : Problem
two_names = record {
  nodes = node Var 8 0 0 0 ++ (node Var 8 0 0 0 ++ node Eq 0 1 0 0);
  bits = [];
  side = [];
  roots = 2 ∷ [];
  names = all_bytes ++ bytes "(check-sat)";
  name_start = 0 ∷ length all_bytes ∷ [];
  name_len = length all_bytes ∷ 11 ∷ [];
  var_node = 0 ∷ 1 ∷ [];
  var_width = 8 ∷ 8 ∷ [];
  anames = [];
  aname_start = [];
  aname_len = [];
  index_width = [];
  value_width = [];
  fnames = [];
  fname_start = [];
  fname_len = [];
  func_width = [];
}

third : List ℕ
third =
    bytes "(set-logic QF_BV)\n(declare-const |" ++ (all_bytes ++ (bytes "| (_ BitVec 8))\n(declare-const |(check-sat)| (_ BitVec 8))\n(assert (= |"
    ++ (all_bytes ++ bytes "| |(check-sat)|))\n(check-sat)\n")))

named : PrintedScript third
unfolding all_meet two_names all_bytes third
named = plain two_names (lent 700) refl

-- ---------------------------------------------------------------- files of them

abbrev first : List ℕ
first = bytes "(set-logic QF_BV)\n(check-sat)\n"

abbrev second : List ℕ
second = bytes "(set-logic QF_BV)\n(declare-const |x| (_ BitVec 8))\n(assert (let ((|d2| (bvadd |x| #b00000101))) (= |d2| |d2|)))\n(check-sat)\n"

lines : IsScript second
lines = printed-lines second shared

-- the two scripts in the other order are another file
turned : joined (first ∷ second ∷ []) ≡ joined (second ∷ first ∷ []) → ⊥
unfolding bytes
turned e =
    let q : first ∷ second ∷ [] ≡ second ∷ first ∷ [] = (equal-files (first ∷ second ∷ []) (second ∷ first ∷ []) (empty, (shared, tt)) (shared, (empty, tt))).0 e in
    let n : length first ≡ length second = ap (λ (ss : List (List ℕ)). length (get_or ss 0 [])) q in
    omega (arith, n)

-- and so is a file that has the second once more
longer : joined (first ∷ second ∷ []) ≡ joined (first ∷ second ∷ second ∷ []) → ⊥
longer e =
    let n = ap (λ (ss : List (List ℕ)). length ss) ((equal-files (first ∷ second ∷ []) (first ∷ second ∷ second ∷ []) (empty, (shared, tt)) (empty, (shared, (shared, tt)))).0 e) in
    omega (arith, n)

-- the first is not the beginning of the second, whatever is put between them
not-begun : (more : List ℕ) → second ≡ first ++ more → ⊥
unfolding bytes
not-begun more e =
    let n : second ≡ first ++ [] = e ∙ ap (λ (m : List ℕ). first ++ m) (no-beginning first second more empty shared e) in
    omega (arith, ap length n)

-- nor of a file that begins with the second
not-begun-file : (more more' : List ℕ) → first ++ more ≡ second ++ more' → ⊥
unfolding bytes
not-begun-file more more' e = omega (arith, ap length (no-file-beginning first second more more' empty shared e).0)

fourth : List ℕ
fourth = bytes "(set-logic QF_BV)\n(declare-const |x| (_ BitVec 8))\n(assert (= (bvadd |x| #b00000000) |x|))\n(check-sat)\n"

given_back : scripts_of (joined (second ∷ first ∷ fourth ∷ second ∷ [])) ≡ record { scripts = second ∷ first ∷ fourth ∷ second ∷ []; rest = [] }
unfolding fourth
given_back = cut-gives-back (second ∷ first ∷ fourth ∷ second ∷ []) (shared, (empty, (covered, (shared, tt))))

names-kept : scripts_of (joined (third ∷ first ∷ third ∷ [])) ≡ record { scripts = third ∷ first ∷ third ∷ []; rest = [] }
names-kept = cut-gives-back (third ∷ first ∷ third ∷ []) (named, (empty, (named, tt)))

told-apart : scripts_of (joined (second ∷ first ∷ []) ++ bytes "(check-sat)") ≡ record { scripts = second ∷ first ∷ []; rest = bytes "(check-sat)" }
unfolding following_script until_check begins bytes
told-apart = cut-tells-rest (second ∷ first ∷ []) (bytes "(check-sat)") (shared, (empty, tt)) refl

-- ---------------------------------------------------------------- calls of `next_script`

called : NextContract (Some 30) (first ++ second)
unfolding following_script until_check begins bytes
called = refl

its-length : Some 30 ≡ Some (length first)
its-length = next-of-file first second (Some 30) empty called

nothing_left : (r : Found ℕ) → NextContract r [] → r ≡ None
nothing_left = next-of-nothing

-- what the printer's code left in a buffer of 40 bytes
left : PrintedScript (take 30 (echo_ext_answer (problem [] [] [] [] [] [] []) (lent 40)).output)
unfolding all_meet
left = bytes-are-script (problem [] [] [] [] [] [] []) (lent 40) (echo_ext_answer (problem [] [] [] [] [] [] []) (lent 40)).output 30 refl
