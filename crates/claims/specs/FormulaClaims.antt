-- Terms as formulas in the map file: what is promised of `echo_formulas`. The grammar of formulas is in `Tokens` and `Phrases`
-- of `formulas`, the text in `Notation` of `formula_text`, the answer in `Answers` of `formula_answers`.
use Rattle.std.specs.Prelude.{ℕ, suc, ◌-◌, ◌≤◌, ◌<◌, ◌≡◌, List, [], ◌∷◌, ◌++◌, false, ◌↔◌, ◌≢◌, length, take, drop, replicate, Result, Ok, Err}
use Rattle.std.proofs.Common.{sym, ap, ◌∙◌}
use Rattle.std.proofs.Math.Path.{subst}
use Rattle.std.proofs.Math.Dec.{T}
use Rattle.std.proofs.Math.Seq.{take-append_seam}
use Rattle.lists.specs.Tests.{among, among-every}
use Rattle.reading.specs.Trees.{Tree, Trees}
use Rattle.echo_spec.specs.Input.{Problem}
use Rattle.echo_spec.specs.Accepted.{endless_number}
use Rattle.echo_spec.proofs.Accepted.{endless-number}
use Rattle.echo_spec.specs.Answers.{Answer, reading, endless_refusal, echo_ext_answer}
use Rattle.refusals.specs.declared.EchoError.{EchoError}
use Rattle.refusals.specs.Numbers.{error_number, error-number}
use Rattle.lent.specs.Lent.{problem_at}
use Rattle.echo_kernel.specs.Answered.{answered}
use Rattle.echo_formulas.proofs.echo_formulas.Reads as echo-formulas-code
use Rattle.theorems.specs.Answered.{Whole, endless-whole, printed, text-acceptance, text-refused, text-accepted, text-room, text-told, text-listed}
use Rattle.formulas.specs.Phrases.{Reads, ReadsLines}
use Rattle.formula_text.specs.Notation.{formula}
use Rattle.formula_answers.specs.Answers.{formula_lines, echo_formulas_answer}
use Rattle.formula_theorems.specs.LeftOut.{parentheses, ends_inside}
use Rattle.formula_theorems.specs.MapLines.{declarations_in, map_lines, Among, one_map, one-formula, brackets-needed, brackets-fewest, equal-lines, equal-line}

abbrev pub FormulasAccepts : Problem → List ℕ → Type 0
FormulasAccepts p lent = (echo_formulas_answer p lent).number ≡ 0

-- ---------------------------------------------------------------- every answer

pub formulas-listed : (p : Problem) (lent : List ℕ) → T (among (0 ∷ 1 ∷ 2 ∷ 3 ∷ 4 ∷ 5 ∷ 6 ∷ 7 ∷ 8 ∷ 9 ∷ 10 ∷ 12 ∷ []) (echo_formulas_answer p lent).number)
unfolding echo_formulas_answer formula_lines endless_number
formulas-listed p lent =
    text-listed (among (0 ∷ 1 ∷ 2 ∷ 3 ∷ 4 ∷ 5 ∷ 6 ∷ 7 ∷ 8 ∷ 9 ∷ 10 ∷ 12 ∷ [])) (endless_refusal p) (map_lines p) lent tt tt
    (among-every (among (0 ∷ 1 ∷ 2 ∷ 3 ∷ 4 ∷ 5 ∷ 6 ∷ 7 ∷ 8 ∷ 9 ∷ 10 ∷ 12 ∷ [])) (0 ∷ 1 ∷ 2 ∷ 3 ∷ 4 ∷ 5 ∷ 6 ∷ 7 ∷ 8 ∷ 9 ∷ 12 ∷ []) tt (endless_refusal p) (endless-number p))

-- A refusal has length 0 and a zeroed output.
pub formulas-refusal-zeroes : (p : Problem) (lent : List ℕ) (n : ℕ) → (echo_formulas_answer p lent).number ≡ suc n
    → echo_formulas_answer p lent ≡ record { number = suc n; count = 0; output = replicate (length lent) 0 }
unfolding echo_formulas_answer formula_lines
formulas-refusal-zeroes p lent n e = text-refused (endless_refusal p) (map_lines p) lent n e

-- An acceptance has the lines at the front of the output, their length beside it, and the rest of the output as it was.
pub formulas-acceptance : (p : Problem) (lent : List ℕ) → FormulasAccepts p lent
    → echo_formulas_answer p lent ≡ record { number = 0; count = length (map_lines p); output = map_lines p ++ drop (length (map_lines p)) lent }
unfolding echo_formulas_answer formula_lines
formulas-acceptance p lent e = text-acceptance (endless_refusal p) (map_lines p) lent e

-- A problem is accepted exactly where every check passes and the lines fit; 10 is told exactly where they do not fit.
pub formulas-accepts-exactly : (p : Problem) (lent : List ℕ) → FormulasAccepts p lent ↔ (Whole p × (length (map_lines p) ≤ length lent))
unfolding echo_formulas_answer formula_lines
formulas-accepts-exactly p lent =
    let a = text-accepted (endless_refusal p) (map_lines p) lent in
    (λ e. let h = a.0 e in ((endless-whole p).0 h.0, h.1), λ h. a.1 ((endless-whole p).1 h.0, h.1))

pub formulas-room-only : (p : Problem) (lent : List ℕ) → ((echo_formulas_answer p lent).number ≡ 10) ↔ (Whole p × (length lent < length (map_lines p)))
unfolding echo_formulas_answer formula_lines
formulas-room-only p lent =
    let a = text-room (endless_refusal p) (map_lines p) lent (λ e. unfold endless_number in subst (λ (k : ℕ). T (endless_number k)) e (endless-number p)) in
    (λ e. let h = a.0 e in ((endless-whole p).0 h.0, h.1), λ h. a.1 ((endless-whole p).1 h.0, h.1))

-- Every other refusal is the printer's, whatever the two buffers.
pub printers-refusals : (p : Problem) (lent lent' : List ℕ) (k : ℕ) → suc k ≢ 10 → ((echo_formulas_answer p lent).number ≡ suc k) ↔ ((echo_ext_answer p lent').number ≡ suc k)
unfolding echo_formulas_answer formula_lines echo_ext_answer
printers-refusals p lent lent' k f =
    let a = text-told (endless_refusal p) (map_lines p) lent k f in
    let b = text-told (endless_refusal p) (printed p) lent' k f in
    (λ e. b.1 (a.0 e), λ e. a.1 (b.0 e))

-- ---------------------------------------------------------------- the lines

-- With the problem's declarations the lines have one reading: the assertions' trees, a line each.
pub formulas-one-reading : (p : Problem) (lent : List ℕ) → FormulasAccepts p lent → (ts : Trees) → ReadsLines (declarations_in p) (map_lines p) ts ↔ (ts ≡ (reading p).assertions)
formulas-one-reading p lent a = one_map p ((formulas-accepts-exactly p lent).0 a).0

-- A formula has a single reading, the assertion's tree.
pub formula-one-reading : (p : Problem) (lent : List ℕ) → FormulasAccepts p lent → (t : Tree) → Among t (reading p).assertions → (u : Tree) → Reads (declarations_in p) (formula t) u ↔ (u ≡ t)
formula-one-reading p lent a = one-formula p ((formulas-accepts-exactly p lent).0 a).0

-- Leaving out a pair of brackets outside names changes the tree, or leaves no formula.
pub bracket-pair-needed : (p : Problem) (lent : List ℕ) → FormulasAccepts p lent → (t : Tree) → Among t (reading p).assertions → (x y z : List ℕ)
    → formula t ≡ x ++ (40 ∷ (y ++ (41 ∷ z))) → ends_inside false x ≡ false → (u : Tree) → Reads (declarations_in p) (x ++ (y ++ z)) u → u ≢ t
bracket-pair-needed p lent a t b x y z e f u r q =
    brackets-needed p ((formulas-accepts-exactly p lent).0 a).0 t b x y z e f (subst (λ (v : Tree). Reads (declarations_in p) (x ++ (y ++ z)) v) q r)

-- No text that reads as the tree has fewer.
pub fewest-brackets : (p : Problem) (lent : List ℕ) → FormulasAccepts p lent → (t : Tree) → Among t (reading p).assertions → (b : List ℕ) → Reads (declarations_in p) b t
    → parentheses false (formula t) ≤ parentheses false b
fewest-brackets p lent a = brackets-fewest p ((formulas-accepts-exactly p lent).0 a).0

-- With the same declarations, equal lines mean equal trees: one line and another, of one problem or of two, ..
pub equal-line-equal-tree : (p p' : Problem) (lent lent' : List ℕ) → FormulasAccepts p lent → FormulasAccepts p' lent' → declarations_in p ≡ declarations_in p'
    → (t u : Tree) → Among t (reading p).assertions → Among u (reading p').assertions → formula t ≡ formula u → t ≡ u
equal-line-equal-tree p p' lent lent' a a' = equal-line p p' ((formulas-accepts-exactly p lent).0 a).0 ((formulas-accepts-exactly p' lent').0 a').0

-- .. and all lines of two problems.
pub equal-lines-equal-trees : (p p' : Problem) (lent lent' : List ℕ) → FormulasAccepts p lent → FormulasAccepts p' lent' → declarations_in p ≡ declarations_in p' → map_lines p ≡ map_lines p'
    → (reading p).assertions ≡ (reading p').assertions
equal-lines-equal-trees p p' lent lent' a a' = equal-lines p p' ((formulas-accepts-exactly p lent).0 a).0 ((formulas-accepts-exactly p' lent').0 a').0

-- ---------------------------------------------------------------- the code

-- The contract of `echo_formulas`: its answer and the whole output by the problem that was lent. It asks nothing of the caller.
abbrev pub FormulasContract : Result ℕ EchoError → Problem → List ℕ → List ℕ → Type 0
FormulasContract r p lent out = answered r out ≡ echo_formulas_answer p lent

-- It is what the function is proved to ensure: x are its arguments as they are passed, y as they are when it returns.
pub formulas-contract : (κs : _) (x : _) (r : _) (y : _) → echo-formulas-code.Post κs x r y
    → FormulasContract r (problem_at x.0.now) x.1.0.now y.1.0.now
formulas-contract κs x r y h = h

-- What it prints is the lines.
pub formulas-print : (p : Problem) (lent out : List ℕ) (n : ℕ) → FormulasContract (Ok n) p lent out → FormulasAccepts p lent × (take n out ≡ map_lines p)
formulas-print p lent out n c =
    let a : FormulasAccepts p lent = sym (ap (λ (x : Answer). x.number) c) in
    let e = c ∙ formulas-acceptance p lent a in
    (a, rw (ap (λ (x : Answer). x.count) e, ap (λ (x : Answer). x.output) e) (take-append_seam (map_lines p) (drop (length (map_lines p)) lent)))

-- The bytes of a call that prints read as the assertions.
pub formulas-bytes-read : (p : Problem) (lent out : List ℕ) (n : ℕ) → FormulasContract (Ok n) p lent out → (ts : Trees)
    → ReadsLines (declarations_in p) (take n out) ts ↔ (ts ≡ (reading p).assertions)
formulas-bytes-read p lent out n c ts = let h = formulas-print p lent out n c in rw h.1 (formulas-one-reading p lent h.0 ts)

-- With the same declarations, equal bytes of two calls that print mean equal trees.
pub formulas-bytes-equal : (p p' : Problem) (lent out lent' out' : List ℕ) (n n' : ℕ) → FormulasContract (Ok n) p lent out → FormulasContract (Ok n') p' lent' out'
    → declarations_in p ≡ declarations_in p' → take n out ≡ take n' out' → (reading p).assertions ≡ (reading p').assertions
formulas-bytes-equal p p' lent out lent' out' n n' c c' d e =
    let h = formulas-print p lent out n c in
    let h' = formulas-print p' lent' out' n' c' in
    equal-lines-equal-trees p p' lent lent' h.0 h'.0 d (sym h.1 ∙ (e ∙ h'.1))

pub formulas-refuse : (p : Problem) (lent out : List ℕ) (e : EchoError) → FormulasContract (Err e) p lent out
    → ((echo_formulas_answer p lent).number ≡ error_number e) × (out ≡ replicate (length lent) 0)
formulas-refuse p lent out e c =
    let n : (echo_formulas_answer p lent).number ≡ error_number e = sym (ap (λ (x : Answer). x.number) c) in
    (n, ap (λ (x : Answer). x.output) (c ∙ formulas-refusal-zeroes p lent (error_number e - 1) (n ∙ error-number e)))
