-- What the project promises of scripts end to end: a file that joins scripts is read back as these scripts and no others. What a
-- script is by its lines, and how a file is cut, is defined in the crate `script_lines`.
use Rattle.std.specs.Prelude.{ℕ, ◌≡◌, refl, List, [], ◌∷◌, ◌++◌, ◌↔◌, length, take, Ok}
use Rattle.std.proofs.Common.{sym, ◌∙◌, append-nil}
use Rattle.std.proofs.Math.Option.{none, some}
use Rattle.echo_spec.specs.Input.{Problem}
use Rattle.echo_spec.specs.Answers.{echo_ext_answer}
use Rattle.lets.specs.Lets.{echo_let_answer}
use Rattle.hidden.specs.Hidden.{echo_hidden_answer}
use Rattle.script_lines.specs.Lines.{IsScript, AllScripts, joined, following_script, Cut, scripts_of}
use Rattle.script_lines.proofs.Laws.{next-of-script, scripts-apart}
use Rattle.script_lines.specs.Cuts.{CutOf}
use Rattle.script_lines.proofs.Cuts.{cut-joined, cut-whole, cut-exactly, joined-equal, next-nothing}
use Rattle.script_lines.specs.Scanning.{found_of}
use Rattle.std.specs.Prelude.{Option as Found, Some, None}
use Rattle.script_lines.proofs.next_script.Reads as next-code
use Rattle.theorems.specs.Answered.{printed, accepted-whole}
use Rattle.theorems.specs.LetPrinted.{let_printed}
use Rattle.theorems.specs.LetAnswered.{let-accepted-exactly}
use Rattle.theorems.specs.ScriptLines.{plain-script, let-script}
use Rattle.claims.specs.HiddenAnswers.{hidden-lines}
use Rattle.claims.specs.HiddenClaims.{hidden_printed, same-refusals}
use Rattle.claims.specs.Claims.{EchoContract, printer-prints, printed-bytes}

-- ---------------------------------------------------------------- the scripts that are meant

-- The bytes are the script of a problem that one of the printers accepts, with some lent buffer: a case for each printer. Names, widths and bits
-- are any that pass.
pub data PrintedScript : List ℕ → Type 0 where
  plain : (p : Problem) (lent : List ℕ) → (echo_ext_answer p lent).number ≡ 0 → PrintedScript (printed p)
  with_zeros : (p : Problem) (lent : List ℕ) → (echo_hidden_answer p lent).number ≡ 0 → PrintedScript (hidden_printed p)
  with_let : (p : Problem) (lent : List ℕ) → (echo_let_answer p lent).number ≡ 0 → PrintedScript (let_printed p)

-- any number of them, by any of the printers, mixed
abbrev pub AllPrinted : List (List ℕ) → Type 0
AllPrinted [] = Unit
AllPrinted (s ∷ ss) = PrintedScript s × AllPrinted ss

-- ---------------------------------------------------------------- lines

-- A script is lines that end in byte 10 and hold none inside; its last line is `(check-sat)`, and no other is.
pub printed-lines : (s : List ℕ) → PrintedScript s → IsScript s
printed-lines _ (plain p lent a) = plain-script p (accepted-whole p lent a).0
printed-lines _ (with_zeros p lent a) = hidden-lines p (accepted-whole p lent (sym (same-refusals p lent) ∙ a)).0
printed-lines _ (with_let p lent a) = let-script p ((let-accepted-exactly p lent).0 a).0

all_lines : (ss : List (List ℕ)) → AllPrinted ss → AllScripts ss
all_lines [] h = tt
all_lines (s ∷ ss) h = (printed-lines s h.0, all_lines ss h.1)

-- ---------------------------------------------------------------- files

-- Two files that join scripts are equal exactly when they join the same scripts in the same order.
pub equal-files : (ss ss' : List (List ℕ)) → AllPrinted ss → AllPrinted ss' → (joined ss ≡ joined ss') ↔ (ss ≡ ss')
equal-files ss ss' h h' = joined-equal ss ss' (all_lines ss h) (all_lines ss' h')

-- No script is the beginning of a longer one: where bytes follow it that make it another script, there are none.
pub no-beginning : (s s' more : List ℕ) → PrintedScript s → PrintedScript s' → s' ≡ s ++ more → more ≡ []
no-beginning s s' more h h' e = (scripts-apart s s' more [] (printed-lines s h) (printed-lines s' h') (sym e ∙ sym (append-nil s'))).1

-- Nor is it the beginning of a file that begins with another: of two files that are equal and each begin with a script, whatever follows,
-- the scripts are the same, and so is what follows.
pub no-file-beginning : (s s' more more' : List ℕ) → PrintedScript s → PrintedScript s' → s ++ more ≡ s' ++ more' → (s ≡ s') × (more ≡ more')
no-file-beginning s s' more more' h h' e = scripts-apart s s' more more' (printed-lines s h) (printed-lines s' h') e

-- Cutting a file that joins scripts gives the scripts back, in order, and nothing besides.
pub cut-gives-back : (ss : List (List ℕ)) → AllPrinted ss → scripts_of (joined ss) ≡ record { scripts = ss; rest = [] }
cut-gives-back ss h = cut-whole ss (all_lines ss h)

-- Where bytes follow in which there is no check-sat line, they are told as the rest.
pub cut-tells-rest : (ss : List (List ℕ)) (rest : List ℕ) → AllPrinted ss → following_script rest ≡ none → scripts_of (joined ss ++ rest) ≡ record { scripts = ss; rest = rest }
cut-tells-rest ss rest h e = cut-joined ss rest (all_lines ss h) e

-- Any file has one cut: into scripts by the law of lines and a rest without a check-sat line, which together are the file.
pub one-cut : (file : List ℕ) (c : Cut) → (scripts_of file ≡ c) ↔ CutOf file c
one-cut = cut-exactly

-- ---------------------------------------------------------------- the code that cuts

-- The contract of `next_script`: the length of the first script in a file, or that there is none. It asks nothing of the file.
abbrev pub NextContract : Found ℕ → List ℕ → Type 0
NextContract r file = found_of r ≡ following_script file

-- It is what the function is proved to ensure.
pub next-contract : (κs : _) (x : _) (r : _) (y : _) → next-code.Post κs x r y → NextContract r x.0.now
next-contract κs x r y h = h

-- Of a file that begins with a script it answers that script's length, whatever follows.
pub next-of-file : (s more : List ℕ) (r : Found ℕ) → PrintedScript s → NextContract r (s ++ more) → r ≡ Some (length s)
next-of-file s more r h c = by_answer r (c ∙ next-of-script s (printed-lines s h) more)
  where
    by_answer : (r : Found ℕ) → found_of r ≡ some (length s) → r ≡ Some (length s)
    by_answer (Some n) e = cc
    by_answer None e = cc

-- Of an empty file it finds nothing.
pub next-of-nothing : (r : Found ℕ) → NextContract r [] → r ≡ None
next-of-nothing r c = by_answer r (c ∙ next-nothing)
  where
    by_answer : (r : Found ℕ) → found_of r ≡ none → r ≡ None
    by_answer (Some n) e = cc
    by_answer None e = refl

-- The bytes that a call of the printer left in its buffer are a script in the sense of this page.
pub bytes-are-script : (p : Problem) (lent out : List ℕ) (n : ℕ) → EchoContract (Ok n) p lent out → PrintedScript (take n out)
bytes-are-script p lent out n c = rw (printed-bytes p lent out n c) (plain p lent (printer-prints p lent out n c).0)
