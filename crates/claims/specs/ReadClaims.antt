-- Scripts read back: what is promised of reading a script into a problem. Its definitions are those of crate `readback`:
-- `rebuild` is the placement, `limits_passed` is 9, `all_fit` is 10.
use Rattle.std.specs.Prelude.{ℕ, suc, ◌≤◌, ◌≡◌, List, [], ◌∷◌, ◌++◌, ◌↔◌, T, length, drop}
use Rattle.std.proofs.Common.{sym, ap, ◌∙◌, subst, arith}
use Rattle.lists.specs.Tests.{among, every}
use Rattle.reading.specs.Trees.{Reading}
use Rattle.smtlib.specs.Readings.{Reads}
use Rattle.echo_spec.specs.Input.{Problem, fits64, query_of}
use Rattle.echo_spec.specs.Answers.{at_front, zeroed, reading, echo_ext_answer}
use Rattle.echo_spec.specs.EncodingLaws.{encoded-encodable}
use Rattle.theorems.specs.Answered.{Whole, printed}
use Rattle.readback.specs.Rebuild.{rebuild}
use Rattle.readback.specs.Records.{inputs}
use Rattle.readback.specs.ReadAnswers.{each_with, lists_of, all_fit, sizes_of, no_sizes, limits_passed, rebuilt_refusal, ReadAnswer, read_script_answer}
use Rattle.std.specs.Prelude.{Result, Ok, Err}
use Rattle.script_rebuild.specs.Decided.{error_number}
use Rattle.script_rebuild.specs.declared.ReadError.{ReadError}
use Rattle.script_rebuild.specs.declared.ReadError.TheVariants.{NoScript, Limit, Room}
use Rattle.script_rebuild.specs.declared.Sizes.{Sizes as ReadSizes}
use Rattle.script_fill.specs.Outputs.{problem_in}
use Rattle.script_reader.specs.Outputs.{read_back}
use Rattle.script_reader.proofs.read_script.Reads as read-script-code
use Rattle.readback_theorems.specs.Printables.{ProblemScript}
use Rattle.readback_theorems.specs.Answered.{read-listed, read-refused, read-accepted, read-thirteen, printed-read, refusal-none}
use Rattle.claims.specs.Claims.{Accepts, acceptance-prints, accepts-exactly, one-reading}

-- The script is read into these lent outputs.
abbrev pub ReadsInto : List ℕ → Problem → Type 0
ReadsInto b lent = (read_script_answer b lent).number ≡ 0

-- ---------------------------------------------------------------- every answer

-- An answer is acceptance, 9, 10 or 13.
pub read_number : (b : List ℕ) (lent : Problem) → T (among (0 ∷ 9 ∷ 10 ∷ 13 ∷ []) (read_script_answer b lent).number)
read_number = read-listed

-- A refusal tells no sizes and zeroes every lent output, all of it.
pub read-refusal-zeroes : (b : List ℕ) (lent : Problem) (n : ℕ) → (read_script_answer b lent).number ≡ suc n
    → read_script_answer b lent ≡ record { number = suc n; sizes = no_sizes; output = each_with (λ _ l. zeroed l) lent lent }
read-refusal-zeroes = read-refused

-- 13 is answered exactly for bytes that are no problem's script: of no problem that passes the encoding and refusals 1 to 7 and 12, whatever
-- the number of its nodes, bits, entries and roots and whatever its operands, but with no width of 2^64 or more.
pub no-script : (b : List ℕ) (lent : Problem) → ((read_script_answer b lent).number ≡ 13) ↔ (ProblemScript b → ⊥)
no-script = read-thirteen

-- ---------------------------------------------------------------- what was read

-- An acceptance has the problem at the front of the outputs, the sizes beside it, and the rest of each output as it was. The problem
-- passes every check of the printer but the one for room.
pub read-acceptance : (b : List ℕ) (lent : Problem) → ReadsInto b lent
    → (p : Problem) × Whole p × (read_script_answer b lent ≡ record { number = 0; sizes = sizes_of p; output = each_with at_front p lent })
read-acceptance b lent e = let r = read-accepted b lent e in (r.problem, r.whole, r.answer)

-- Printing what was read gives the same script, byte for byte, in every buffer that is long enough.
pub same-script : (b : List ℕ) (lent : Problem) (e : ReadsInto b lent) (out : List ℕ) → length b ≤ length out
    → echo_ext_answer (read-accepted b lent e).problem out ≡ record { number = 0; count = length b; output = b ++ drop (length b) out }
same-script b lent e out l =
    let r = read-accepted b lent e in
    let a : Accepts r.problem out = (accepts-exactly r.problem out).1 (r.whole, subst (λ (x : List ℕ). length x ≤ length out) (sym r.prints) l) in
    acceptance-prints r.problem out a ∙ ap (λ (x : List ℕ). record { number = 0; count = length x; output = x ++ drop (length x) out }) r.prints

-- Its reading is the script's, by the standard, and the script has no other.
pub same-reading : (b : List ℕ) (lent : Problem) (e : ReadsInto b lent) (r : Reading) → Reads b r ↔ (r ≡ reading (read-accepted b lent e).problem)
same-reading b lent e r =
    let x = read-accepted b lent e in
    let a : Accepts x.problem b = (accepts-exactly x.problem b).1 (x.whole, subst (λ (y : List ℕ). length y ≤ length b) (sym x.prints) (let n : ℕ = length b in let l : n ≤ n = omega arith in l)) in
    subst (λ (y : List ℕ). Reads y r ↔ (r ≡ reading x.problem)) x.prints (one-reading x.problem b a r)

-- What was read is the problem that the script's reading is rebuilt as, node for node and name for name: the placement is that of `rebuild`.
pub read-placed : (b : List ℕ) (lent : Problem) (e : ReadsInto b lent) (r : Reading) → Reads b r → (read-accepted b lent e).problem ≡ inputs (rebuild r)
read-placed b lent e r h = (read-accepted b lent e).only ∙ ap (λ (x : Reading). inputs (rebuild x)) (sym ((same-reading b lent e r).0 h))

-- Read, printed and read again: the same answer, number, sizes and outputs, whatever was lent.
pub read_again : (b : List ℕ) (lent : Problem) (e : ReadsInto b lent) (again : Problem) → read_script_answer (printed (read-accepted b lent e).problem) again ≡ read_script_answer b again
read_again b lent e again = ap (λ (x : List ℕ). read_script_answer x again) (read-accepted b lent e).prints

-- ---------------------------------------------------------------- scripts of problems

-- what is lent to the printer has 64 bits a number
pub record Lent64 (p : Problem) : Type 0 where
  pub variables : T (every fits64 p.var_width)
  pub functions : T (every fits64 p.func_width)
  pub indices : T (every fits64 p.index_width)
  pub values : T (every fits64 p.value_width)

-- The script of a problem that is accepted is no 13. It is 9 where the problem that its reading is rebuilt as is over a limit or has a
-- number that its record cannot hold, and else 10 where an output is too short, and else it is read.
pub printed-is-read : (p : Problem) (out : List ℕ) (lent : Problem) → Accepts p out → Lent64 p → (read_script_answer (printed p) lent).number ≡ rebuilt_refusal (rebuild (reading p)) lent
printed-is-read p out lent a w =
    let h = ((accepts-exactly p out).0 a).0 in
    printed-read (query_of p) lent (record { encoding = encoded-encodable p h.encoding w.variables w.functions w.indices w.values; query = h.query })

pub printed-succeeds : (p : Problem) (out : List ℕ) (lent : Problem) → Accepts p out → Lent64 p
    → (ReadsInto (printed p) lent) ↔ (T (limits_passed (rebuild (reading p))) × T (all_fit (lists_of (inputs (rebuild (reading p)))) (lists_of lent)))
printed-succeeds p out lent a w =
    let e = printed-is-read p out lent a w in
    let n = refusal-none (rebuild (reading p)) lent in
    (λ z. n.0 (sym e ∙ z), λ h. e ∙ n.1 h)

-- ---------------------------------------------------------------- the code

-- The contract of `read_script`: its answer and the eighteen outputs afterwards. It asks nothing of the caller.
abbrev pub ReadContract : Result ReadSizes ReadError → List ℕ → Problem → Problem → Type 0
ReadContract q b lent o = read_back q o ≡ read_script_answer b lent

-- It is what the function is proved to ensure: x are its arguments as they are passed, y as they are when it returns.
pub read-contract : (κs : _) (x : _) (r : _) (y : _) → read-script-code.Post κs x r y
    → ReadContract r x.0.now (problem_in x.1.0.now) (problem_in y.1.0.now)
read-contract κs x r y h = h.1

-- A call that reads has read the script, and its outputs are those of the definition.
pub call-reads : (z : ReadSizes) (b : List ℕ) (lent o : Problem) → ReadContract (Ok z) b lent o → ReadsInto b lent × (o ≡ (read_script_answer b lent).output)
call-reads z b lent o h = (ap (λ (a : ReadAnswer). a.number) (sym h), ap (λ (a : ReadAnswer). a.output) h)

-- A call that refuses tells the definition's number, and leaves zeros in every output.
pub call-refuses : (e : ReadError) (b : List ℕ) (lent o : Problem) → ReadContract (Err e) b lent o
    → ((read_script_answer b lent).number ≡ error_number e) × (o ≡ each_with (λ _ l. zeroed l) lent lent)
call-refuses e b lent o h = by-error e h
  where
    by_number : (n : ℕ) → (read_script_answer b lent).number ≡ suc n → o ≡ (read_script_answer b lent).output → o ≡ each_with (λ _ l. zeroed l) lent lent
    by_number n q f = f ∙ ap (λ (a : ReadAnswer). a.output) (read-refusal-zeroes b lent n q)

    number : (n : ℕ) → n ≡ (read_script_answer b lent).number → (read_script_answer b lent).number ≡ n
    number n q = sym q

    by-error : (e : ReadError) → read_back (Err e) o ≡ read_script_answer b lent → ((read_script_answer b lent).number ≡ error_number e) × (o ≡ each_with (λ _ l. zeroed l) lent lent)
    by-error NoScript h = let q = number 13 (ap (λ (a : ReadAnswer). a.number) h) in (q, by_number 12 q (ap (λ (a : ReadAnswer). a.output) h))
    by-error Limit h = let q = number 9 (ap (λ (a : ReadAnswer). a.number) h) in (q, by_number 8 q (ap (λ (a : ReadAnswer). a.output) h))
    by-error Room h = let q = number 10 (ap (λ (a : ReadAnswer). a.number) h) in (q, by_number 9 q (ap (λ (a : ReadAnswer). a.output) h))
