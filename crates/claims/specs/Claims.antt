-- What the project promises of the printer's answers. A reader who believes the definitions (crate `echo_spec`: what is
-- printed and what is refused; crate `smtlib`: what bytes mean by the standard) can stop at this page.
--
-- The printer and the width pass stand here; `Lib` says where each other subject stands. The files of instances show that the claims are not
-- empty.
use Rattle.std.specs.Prelude.{ℕ, suc, ◌-◌, ◌≤◌, ◌<◌, ◌≡◌, List, [], ◌∷◌, ◌++◌, map, ◌↔◌, T, false, length, get_or, take, drop, replicate, Result, Ok, Err}
use Rattle.std.proofs.Common.{sym, ap, ◌∙◌}
use Rattle.std.proofs.Math.Seq.{take-append_seam}
use Rattle.lists.specs.Bytes.{bytes}
use Rattle.lists.specs.Tests.{among, in_list, in_right}
use Rattle.reading.specs.Trees.{Name, Reading}
use Rattle.smtlib.specs.Lexicon.{Token, Lex}
use Rattle.smtlib.specs.Grammar.{Script, script_tokens}
use Rattle.smtlib.proofs.LexUnique.{lex-unique}
use Rattle.smtlib.specs.Readings.{operators, Reads}
use Rattle.smtlib.specs.Sorts.{WellSorted}
use Rattle.echo_spec.specs.Input.{Problem, ArrayWidths, array_columns, nodes_of, no_node, dag_of}
use Rattle.echo_spec.specs.Widths.{node_wf, ext_wf_of}
use Rattle.echo_spec.specs.Names.{byte_ok, rust_words, smtlib27_words, reserved}
use Rattle.echo_spec.specs.NameLaws.{NameByte, all_names}
use Rattle.echo_spec.proofs.NameLaws.{name-byte, byte-named, word-refused, byte-refused}
use Rattle.echo_spec.specs.Render.{symbol_of}
use Rattle.echo_spec.specs.Answers.{Answer, ext_wf_answer, reading, echo_ext_answer}
use Rattle.sliver_kernel.specs.declared.WidthError.{WidthError}
use Rattle.sliver_kernel.specs.declared.WidthError.TheVariants.{Malformed}
use Rattle.sliver_kernel.proofs.ext_wf.Reads as ext-wf-code
use Rattle.sliver_kernel.specs.Outcomes as widths
use Rattle.refusals.specs.declared.EchoError.{EchoError}
use Rattle.refusals.specs.Numbers.{error_number, error-number}
use Rattle.echo_kernel.specs.Answered.{answered}
use Rattle.echo_kernel.proofs.echo_ext.Reads as echo-ext-code
use Rattle.lent.specs.Lent.{problem_at}
use Rattle.theorems.specs.Scripts.{script_of}
use Rattle.theorems.specs.SymbolTables as SymbolTables
use Rattle.theorems.specs.Answered.{
  Whole,
  printed,
  acceptance,
  refused,
  number-listed,
  accepted-exactly,
  accepted-whole,
  room-refusal,
  BeforeNames,
  named-refused,
  script-lexed,
  script-sorted,
  script-only,
  script-reads,
  script-reads-only,
  scripts-equal,
  width-accepted,
  width-refused,
}
use Rattle.claims.specs.WidthAnswers.{width-listed, width-count, width-refused-node, width-uneven}

-- The printer accepts the problem with this lent buffer.
abbrev pub Accepts : Problem → List ℕ → Type 0
Accepts p lent = (echo_ext_answer p lent).number ≡ 0

-- ---------------------------------------------------------------- every answer

-- An answer is acceptance, one of the numbers 1 to 10, or 12.
pub listed-number : (p : Problem) (lent : List ℕ) → T (among (0 ∷ 1 ∷ 2 ∷ 3 ∷ 4 ∷ 5 ∷ 6 ∷ 7 ∷ 8 ∷ 9 ∷ 10 ∷ 12 ∷ []) (echo_ext_answer p lent).number)
listed-number = number-listed

-- A refusal has length 0 and a zeroed output.
pub refusal-zeroes : (p : Problem) (lent : List ℕ) (n : ℕ) → (echo_ext_answer p lent).number ≡ suc n
    → echo_ext_answer p lent ≡ record { number = suc n; count = 0; output = replicate (length lent) 0 }
refusal-zeroes = refused

-- An acceptance has the script at the front of the output, its length beside it, and the rest of the output as it was.
pub acceptance-prints : (p : Problem) (lent : List ℕ) → Accepts p lent
    → echo_ext_answer p lent ≡ record { number = 0; count = length (printed p); output = printed p ++ drop (length (printed p)) lent }
acceptance-prints = acceptance

-- It is an acceptance exactly where every check passes and the script fits.
pub accepts-exactly : (p : Problem) (lent : List ℕ) → Accepts p lent ↔ (Whole p × (length (printed p) ≤ length lent))
accepts-exactly = accepted-exactly

-- 10 is answered only, and always, where every other check passes and the script is longer than the buffer.
pub room-only : (p : Problem) (lent : List ℕ) → ((echo_ext_answer p lent).number ≡ 10) ↔ (Whole p × (length lent < length (printed p)))
room-only = room-refusal

-- A word that SMT-LIB 2.7 added, declared in any of the tables, is 2, if no check before that of the names refuses the problem.
pub added-words-refused : (p : Problem) (lent : List ℕ) (n : Name) → T (in_list n (map bytes smtlib27_words)) → T (in_list n (all_names (dag_of p)))
    → BeforeNames p → (echo_ext_answer p lent).number ≡ 2
unfolding reserved
added-words-refused p lent n w h b = named-refused p lent n b (word-refused n (in_right n (map bytes rust_words) (map bytes smtlib27_words) w)) h

-- The bytes that a name may have are those from 32 to 255 but for 127, the bar (124) and the backslash (92): so each from 128 to 255.
pub name-bytes : (c : ℕ) → T (byte_ok c) ↔ NameByte c
name-bytes c = (name-byte c, byte-named c)

-- A name with any other byte, declared in any of the tables, is 2, if no check before that of the names refuses the problem.
pub other-bytes-refused : (p : Problem) (lent : List ℕ) (n : Name) (c : ℕ) → T (among n c) → (NameByte c → ⊥) → T (in_list n (all_names (dag_of p)))
    → BeforeNames p → (echo_ext_answer p lent).number ≡ 2
other-bytes-refused p lent n c a k h b = named-refused p lent n b (byte-refused n c a k) h

-- ---------------------------------------------------------------- each script is well sorted

-- An accepted problem's script holds the tokens of a script, of one alone, that is well sorted by the standard and declares
-- its symbols first.
pub well-sorted : (p : Problem) (lent : List ℕ) → Accepts p lent
    → (s : Script) × Lex (printed p) (script_tokens s) × WellSorted s × ((s' : Script) → Lex (printed p) (script_tokens s') → s' ≡ s)
well-sorted p lent a =
    let w = (accepted-whole p lent a).0 in
    (script_of (reading p), script-lexed p w, script-sorted p w, script-only p w)

-- Its bytes hold one list of tokens.
pub one-lexing : (p : Problem) (lent : List ℕ) → Accepts p lent → (ts : List Token) → Lex (printed p) ts ↔ (ts ≡ script_tokens (script_of (reading p)))
one-lexing p lent a ts =
    let l = script-lexed p (accepted-whole p lent a).0 in
    (λ h. lex-unique (printed p) ts (script_tokens (script_of (reading p))) h l, λ e. rw e l)

-- ---------------------------------------------------------------- each script has one reading: its problem's

pub one-reading : (p : Problem) (lent : List ℕ) → Accepts p lent → (r : Reading) → Reads (printed p) r ↔ (r ≡ reading p)
one-reading p lent a r =
    let w = (accepted-whole p lent a).0 in
    (script-reads-only p w r, λ e. rw e (script-reads p w))

-- Two accepted problems, whatever buffer each had, have equal scripts exactly when their declarations and their trees are
-- equal, each in order. (A rotation's amount is in its tree modulo the width.)
pub equal-scripts : (p p' : Problem) (lent lent' : List ℕ) → Accepts p lent → Accepts p' lent'
    → (printed p ≡ printed p') ↔ (((reading p).declarations ≡ (reading p').declarations) × ((reading p).assertions ≡ (reading p').assertions))
equal-scripts p p' lent lent' a a' =
    let e = scripts-equal p p' (accepted-whole p lent a).0 (accepted-whole p' lent' a').0 in (
      λ q. let r = e.0 q in (ap (λ (r : Reading). r.declarations) r, ap (λ (r : Reading). r.assertions) r),
      λ h. e.1 (λ i. record { declarations = h.0 i; assertions = h.1 i }),
    )

-- ---------------------------------------------------------------- the code of the printer

-- The contract of `echo_ext`: its answer and the buffer afterwards, by the problem and the buffer that were lent. It asks nothing of the caller.
abbrev pub EchoContract : Result ℕ EchoError → Problem → List ℕ → List ℕ → Type 0
EchoContract r p lent out = answered r out ≡ echo_ext_answer p lent

-- It is what the function is proved to ensure: x are its arguments as they are passed, y as they are when it returns.
pub echo-contract : (κs : _) (x : _) (r : _) (y : _) → echo-ext-code.Post κs x r y
    → EchoContract r (problem_at x.0.now) x.1.0.now y.1.0.now
echo-contract κs x r y h = h

-- What it answers by `Ok` is the script: its length, its bytes at the front of the buffer, and the rest of the buffer as it was.
pub printer-prints : (p : Problem) (lent out : List ℕ) (n : ℕ) → EchoContract (Ok n) p lent out
    → Accepts p lent × (n ≡ length (printed p)) × (out ≡ printed p ++ drop (length (printed p)) lent)
printer-prints p lent out n c =
    let a : Accepts p lent = sym (ap (λ (x : Answer). x.number) c) in
    let e = c ∙ acceptance-prints p lent a in
    (a, ap (λ (x : Answer). x.count) e, ap (λ (x : Answer). x.output) e)

-- What it refuses has the definitions' number, and the buffer is zeroed.
pub printer-refuses : (p : Problem) (lent out : List ℕ) (e : EchoError) → EchoContract (Err e) p lent out
    → ((echo_ext_answer p lent).number ≡ error_number e) × (out ≡ replicate (length lent) 0)
printer-refuses p lent out e c =
    let n : (echo_ext_answer p lent).number ≡ error_number e = sym (ap (λ (x : Answer). x.number) c) in
    (n, ap (λ (x : Answer). x.output) (c ∙ refusal-zeroes p lent (error_number e - 1) (n ∙ error-number e)))

-- The bytes that it printed are the script of the problem that was lent.
pub printed-bytes : (p : Problem) (lent out : List ℕ) (n : ℕ) → EchoContract (Ok n) p lent out → take n out ≡ printed p
printed-bytes p lent out n c = let h = printer-prints p lent out n c in rw (h.1, h.2) (take-append_seam (printed p) (drop (length (printed p)) lent))

-- They hold the tokens of one script alone, and it is well sorted and declares its symbols first.
pub bytes-well-sorted : (p : Problem) (lent out : List ℕ) (n : ℕ) → EchoContract (Ok n) p lent out
    → (s : Script) × Lex (take n out) (script_tokens s) × WellSorted s × ((s' : Script) → Lex (take n out) (script_tokens s') → s' ≡ s)
bytes-well-sorted p lent out n c = rw (printed-bytes p lent out n c) (well-sorted p lent (printer-prints p lent out n c).0)

-- They have one reading: the problem's.
pub bytes_read : (p : Problem) (lent out : List ℕ) (n : ℕ) → EchoContract (Ok n) p lent out → (r : Reading) → Reads (take n out) r ↔ (r ≡ reading p)
bytes_read p lent out n c r = rw (printed-bytes p lent out n c) (one-reading p lent (printer-prints p lent out n c).0 r)

-- Of two calls that print, the bytes are equal exactly when the problems' declarations and trees are.
pub bytes-equal : (p p' : Problem) (lent lent' out out' : List ℕ) (n n' : ℕ) → EchoContract (Ok n) p lent out → EchoContract (Ok n') p' lent' out'
    → (take n out ≡ take n' out') ↔ (((reading p).declarations ≡ (reading p').declarations) × ((reading p).assertions ≡ (reading p').assertions))
bytes-equal p p' lent lent' out out' n n' c c' =
    rw (printed-bytes p lent out n c, printed-bytes p' lent' out' n' c')
    (equal-scripts p p' lent lent' (printer-prints p lent out n c).0 (printer-prints p' lent' out' n' c').0)

-- ---------------------------------------------------------------- the width pass

-- Its answer is acceptance or 1, 8, 9, 10 or 12.
pub widths-listed : (nodes bits side : List ℕ) (arrays : ArrayWidths) (lent : List ℕ)
    → T (among (0 ∷ 1 ∷ 8 ∷ 9 ∷ 10 ∷ 12 ∷ []) (ext_wf_answer nodes bits side arrays lent).number)
widths-listed = width-listed

-- The contract of `ext_wf`.
abbrev pub WidthContract : Result ℕ WidthError → List ℕ → List ℕ → List ℕ → ArrayWidths → List ℕ → List ℕ → Type 0
WidthContract r nodes bits side arrays lent out = widths.answered r out ≡ ext_wf_answer nodes bits side arrays lent

-- It is what the function is proved to ensure.
pub width-contract : (κs : _) (x : _) (r : _) (y : _) → ext-wf-code.Post κs x r y
    → WidthContract r x.0.now x.1.0.now x.1.1.0.now (array_columns x.1.1.1.0.now x.1.1.1.1.0.now) x.1.1.1.1.1.0.now
    y.1.1.1.1.1.0.now
width-contract κs x r y h = h

-- What it accepts has a width for each node, in order, at the front of the slice.
pub widths-written : (nodes bits side : List ℕ) (arrays : ArrayWidths) (lent out : List ℕ) (n : ℕ) → WidthContract (Ok n) nodes bits side arrays lent out
    → (n ≡ length (ext_wf_of (length bits) arrays side (nodes_of nodes)))
    × (out ≡ ext_wf_of (length bits) arrays side (nodes_of nodes) ++ drop (length (ext_wf_of (length bits) arrays side (nodes_of nodes))) lent)
widths-written nodes bits side arrays lent out n c =
    let e = c ∙ width-accepted nodes bits side arrays lent (sym (ap (λ (x : Answer). x.number) c)) in (ap (λ (x : Answer). x.count) e, ap (λ (x : Answer). x.output) e)

-- The count of an acceptance is the node count, and every node has a width.
pub widths-count : (nodes bits side : List ℕ) (arrays : ArrayWidths) (lent out : List ℕ) (n : ℕ) → WidthContract (Ok n) nodes bits side arrays lent out
    → (n ≡ length (nodes_of nodes)) × (length (ext_wf_of (length bits) arrays side (nodes_of nodes)) ≡ length (nodes_of nodes))
widths-count nodes bits side arrays lent out n c = width-count nodes bits side arrays lent (ap (λ (x : Answer). x.number) c) (ap (λ (x : Answer). x.count) c)

-- Where the two columns of the array table are of one length, the node that is told with 1 is there, and it is not well formed after the
-- widths of those before it, which all have one.
pub widths-node : (nodes bits side : List ℕ) (arrays : ArrayWidths) (lent out : List ℕ) (k : ℕ) → WidthContract (Err (Malformed k)) nodes bits side arrays lent out
    → length arrays.index ≡ length arrays.value → (k < length (nodes_of nodes)) × (k ≡ length (ext_wf_of (length bits) arrays side (nodes_of nodes)))
    × (node_wf (length bits) arrays side (ext_wf_of (length bits) arrays side (nodes_of nodes)) (get_or (nodes_of nodes) k no_node) ≡ false)
widths-node nodes bits side arrays lent out k c e = width-refused-node nodes bits side arrays lent (ap (λ (x : Answer). x.number) c) (ap (λ (x : Answer). x.count) c) e

-- Where they are not, the node count is told.
pub widths-uneven : (nodes bits side : List ℕ) (arrays : ArrayWidths) (lent out : List ℕ) (k : ℕ) → WidthContract (Err (Malformed k)) nodes bits side arrays lent out
    → (length arrays.index ≡ length arrays.value → ⊥) → k ≡ length (nodes_of nodes)
widths-uneven nodes bits side arrays lent out k c e = width-uneven nodes bits side arrays lent (ap (λ (x : Answer). x.number) c) (ap (λ (x : Answer). x.count) c) e

-- What it refuses leaves the slice zeroed.
pub widths-refused : (nodes bits side : List ℕ) (arrays : ArrayWidths) (lent out : List ℕ) (r : Result ℕ WidthError) (k : ℕ) → widths.number r ≡ suc k → WidthContract r nodes bits side arrays lent out
    → out ≡ replicate (length lent) 0
widths-refused nodes bits side arrays lent out r k h c =
    ap (λ (x : Answer). x.output) c ∙ width-refused nodes bits side arrays lent k (sym (ap (λ (x : Answer). x.number) c) ∙ h)

-- ---------------------------------------------------------------- symbols

-- The printer's table from kind to symbol and the standard's table from symbol to kind are inverse.
pub inverse-tables : (k : ℕ) → 2 ≤ k → k < 37 → (n : Name) → (symbol_of k ≡ n) ↔ T (SymbolTables.names n k operators)
inverse-tables = SymbolTables.tables-inverse
