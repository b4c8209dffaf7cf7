-- The text of a reading whose names hold no byte below 32 is a script by the law of lines, by whichever printer: each line but the last
-- begins as no check-sat line does, and holds no byte 10.
use Rattle.std.specs.Prelude.{ℕ, ◌≡◌, refl, Bool, not, T, leb, length}
use Rattle.std.proofs.Common.{ap, sym, ◌∙◌}
use Rattle.std.proofs.Math.Path.{subst}
use mathlib.Core.List.{List, [], ◌∷◌, ◌++◌, map, append_assoc}
use Rattle.lists.specs.Bytes.{bytes}
use Rattle.lists.specs.Tests.{same, among, in_list, All, and_T, or_l, or_r, or_elim, same_refl, same→eq}
use Rattle.reading.specs.Trees.{Name, Tree, Trees, none, more, Variable, Array, Function, Declarations, Reading}
use Rattle.smtlib.specs.Scopes.{Scope, bind, bound_names}
use Rattle.smtlib.specs.Readings.{declared_names}
use Rattle.smtlib.specs.Sorts.{TermSort, bool}
use Rattle.script_lines.specs.Lines.{check_sat_line, other_line, IsScript}
use Rattle.script_lines.specs.Building.{Lines, lines_none, lines-one, lines-append, lines-script}
use Rattle.echo_spec.specs.Input.{Problem, Dag, dag_of, query_of}
use Rattle.echo_spec.specs.Widths.{widths_of}
use Rattle.echo_spec.specs.Render.{term, quoted, sort_text, sorts_text, variable_text, array_text, function_text, texts, assertions_text, logic_of, logic_text, declarations_text, frame, render}
use Rattle.echo_spec.specs.Answers.{reading, script}
use Rattle.lets.specs.Lets.{binds, rising, let_name, Binding, binding_of, Assertion, assertion_of, assertions_of, let_text, let_assertions_text, render_let}
use Rattle.theorems.specs.Terms.{FitsAll, in-variables, in-arrays, in-functions}
use Rattle.theorems.specs.Lines.{Shown, shown-none, shown-append, shown-no-break, shown-text, shown-decimal, shown-quoted, term-shown}
use Rattle.theorems.specs.Scripts.{bools, SoundDeclarations, Sound}
use Rattle.theorems.specs.Answered as plain
use Rattle.theorems.specs.LetTerms.{FitsLet, FitsAssertions}
use Rattle.theorems.specs.LetPrinted as lets

-- ---------------------------------------------------------------- one line

-- a text that ends its line, and is shown up to there
pub record Ends (t : List ℕ) : Type 0 where
  pub line : List ℕ
  pub shown : Shown line
  pub text : t ≡ line ++ (10 ∷ [])

pub ends_more : (x t : List ℕ) → Shown x → Ends t → Ends (x ++ t)
ends_more x t h k = record {
  line = x ++ k.line;
  shown = shown-append h k.shown;
  text = ap (λ (l : List ℕ). x ++ l) k.text ∙ sym (append_assoc x k.line (10 ∷ []));
}

pub ends_close : Ends (bytes ")\n")
unfolding bytes
ends_close = record { line = bytes ")"; shown = shown-text ")" tt; text = refl }

-- a command that begins as no check-sat line does is a line, and not the last of a script
command : (x t : List ℕ) → Shown x → ((l : List ℕ) → T (not (same (x ++ l) (bytes "(check-sat)")))) → Ends t → Lines (x ++ t)
unfolding other_line
command x t h other k =
    let l : List ℕ = x ++ k.line in
    let line : Lines (l ++ (10 ∷ [])) =
    lines-one l (and_T (not (among l 10)) (not (same l (bytes "(check-sat)"))) (shown-no-break l (shown-append h k.shown)) (other k.line)) in
    subst Lines (append_assoc x k.line (10 ∷ []) ∙ ap (λ (y : List ℕ). x ++ y) (sym k.text)) line

-- ---------------------------------------------------------------- declarations

pub shown-sort : (w : ℕ) → Shown (sort_text w)
unfolding sort_text bytes
shown-sort w = shown-append (shown-text "(_ BitVec " tt) (shown-append (shown-decimal w) (shown-text ")" tt))

pub shown-sorts : (ws : List ℕ) → Shown (sorts_text ws)
unfolding sorts_text bytes
shown-sorts [] = shown-none
shown-sorts (w ∷ []) = shown-sort w
shown-sorts (w ∷ v ∷ ws) = shown-append (shown-sort w) (shown-append (shown-text " " tt) (shown-sorts (v ∷ ws)))

variable-line : (v : Variable) → All (leb 32) v.name → Lines (variable_text v)
unfolding variable_text bytes same
variable-line v h =
    command (bytes "(declare-const ") _ (shown-text "(declare-const " tt) (λ l. tt)
    (ends_more (quoted v.name) _ (shown-quoted v.name h)
    (ends_more (bytes " ") _ (shown-text " " tt) (ends_more (sort_text v.width) _ (shown-sort v.width) ends_close)))

array-line : (a : Array) → All (leb 32) a.name → Lines (array_text a)
unfolding array_text bytes same
array-line a h =
    command (bytes "(declare-const ") _ (shown-text "(declare-const " tt) (λ l. tt)
    (ends_more (quoted a.name) _ (shown-quoted a.name h)
    (ends_more (bytes " (Array ") _ (shown-text " (Array " tt)
    (ends_more (sort_text a.index) _ (shown-sort a.index)
    (ends_more (bytes " ") _ (shown-text " " tt)
    (ends_more (sort_text a.value) _ (shown-sort a.value) (ends_more (bytes ")") _ (shown-text ")" tt) ends_close))))))

function-line : (f : Function) → All (leb 32) f.name → Lines (function_text f)
unfolding function_text bytes same
function-line f h =
    command (bytes "(declare-fun ") _ (shown-text "(declare-fun " tt) (λ l. tt)
    (ends_more (quoted f.name) _ (shown-quoted f.name h)
    (ends_more (bytes " (") _ (shown-text " (" tt)
    (ends_more (sorts_text f.arguments) _ (shown-sorts f.arguments)
    (ends_more (bytes ") ") _ (shown-text ") " tt) (ends_more (sort_text f.width) _ (shown-sort f.width) ends_close)))))

-- a line for each entry of a table
lines-texts : {A : Type 0} (text : A → List ℕ) (name : A → Name) → ((x : A) → All (leb 32) (name x) → Lines (text x)) → (xs : List A)
    → ((n : Name) → T (in_list n (map name xs)) → All (leb 32) n) → Lines (texts text xs)
unfolding texts
lines-texts text name line [] h = lines_none
lines-texts text name line (x ∷ xs) h =
    lines-append (text x) (texts text xs) (line x (h (name x) (or_l (same (name x) (name x)) (in_list (name x) (map name xs)) (same_refl (name x)))))
    (lines-texts text name line xs (λ n k. h n (or_r (same n (name x)) (in_list n (map name xs)) k)))

logic-line : (D : Declarations) → Lines (logic_text D)
unfolding logic_text bytes same
logic-line D =
    command (bytes "(set-logic ") _ (shown-text "(set-logic " tt) (λ l. tt) (ends_more (logic_of D.functions D.arrays) _ (shown-logic D.functions D.arrays) ends_close)
  where
    shown-logic : (fs : List Function) (rs : List Array) → Shown (logic_of fs rs)
    shown-logic (f ∷ fs) rs = unfold logic_of in shown-text "QF_AUFBV" (unfold bytes in tt)
    shown-logic [] (a ∷ rs) = unfold logic_of in shown-text "QF_ABV" (unfold bytes in tt)
    shown-logic [] [] = unfold logic_of in shown-text "QF_BV" (unfold bytes in tt)

declaration-lines : (D : Declarations) → ((n : Name) → T (in_list n (declared_names D)) → All (leb 32) n) → Lines (declarations_text D)
unfolding declarations_text
declaration-lines D h =
    lines-append (texts variable_text D.variables) (texts array_text D.arrays ++ texts function_text D.functions)
    (lines-texts variable_text (λ (v : Variable). v.name) variable-line D.variables (λ n k. h n (in-variables D n k)))
    (lines-append (texts array_text D.arrays) (texts function_text D.functions)
    (lines-texts array_text (λ (a : Array). a.name) array-line D.arrays (λ n k. h n (in-arrays D n k)))
    (lines-texts function_text (λ (f : Function). f.name) function-line D.functions (λ n k. h n (in-functions D n k))))

-- ---------------------------------------------------------------- a script by its declarations and the text of its assertions

-- For any text of assertions that is lines: no printer has more to show.
pub frame-script : (D : Declarations) → ((n : Name) → T (in_list n (declared_names D)) → All (leb 32) n) → (text : List ℕ) → Lines text → IsScript (frame D text)
frame-script D h text k =
    subst IsScript (append_assoc (logic_text D) (declarations_text D ++ text) check_sat_line ∙ ap (λ (x : List ℕ). logic_text D ++ x) (append_assoc (declarations_text D) text check_sat_line))
    (lines-script (logic_text D ++ (declarations_text D ++ text))
    (lines-append (logic_text D) (declarations_text D ++ text) (logic-line D) (lines-append (declarations_text D) text (declaration-lines D h) k)))

-- an assertion by the text of its term, and those after it
assertion-line : (t rest : List ℕ) → Shown t → Lines rest → Lines (bytes "(assert " ++ (t ++ (bytes ")\n" ++ rest)))
unfolding bytes same
assertion-line t rest h k =
    subst Lines (append_assoc (bytes "(assert ") (t ++ bytes ")\n") rest ∙ ap (λ (x : List ℕ). bytes "(assert " ++ x) (append_assoc t (bytes ")\n") rest))
    (lines-append (bytes "(assert " ++ (t ++ bytes ")\n")) rest
    (command (bytes "(assert ") (t ++ bytes ")\n") (shown-text "(assert " tt) (λ l. tt) (ends_more t (bytes ")\n") h ends_close)) k)

-- ---------------------------------------------------------------- the plain script

assertion-lines : (D : Declarations) → ((n : Name) → T (in_list n (declared_names D)) → All (leb 32) n) → (ts : Trees) (us : List TermSort) → FitsAll D ts us → Lines (assertions_text ts)
unfolding assertions_text
assertion-lines D h none [] f = lines_none
assertion-lines D h none (u ∷ us) f = absurd f
assertion-lines D h (more t ts) [] f = absurd f
assertion-lines D h (more t ts) (u ∷ us) f =
    assertion-line (term t) (assertions_text ts) (term-shown D h [] (λ n k. absurd k) t u f.0) (assertion-lines D h ts us f.1)

-- Of any sound reading, whatever bits its constants have.
pub reading-script : (r : Reading) → Sound r → IsScript (render r)
unfolding render
reading-script r ok =
    frame-script r.declarations ok.declarations.printable (assertions_text r.assertions)
    (assertion-lines r.declarations ok.declarations.printable r.assertions (bools r.assertions) ok.assertions)

-- ---------------------------------------------------------------- the script with `let`

-- every name that is bound is shown
abbrev pub ShownBindings : List Binding → Type 0
ShownBindings [] = Unit
ShownBindings (b ∷ bs) = All (leb 32) b.name × ShownBindings bs

abbrev pub ShownNames : List Assertion → Type 0
ShownNames [] = Unit
ShownNames (a ∷ xs) = ShownBindings a.bindings × ShownNames xs

module _ (D : Declarations) (declared : (n : Name) → T (in_list n (declared_names D)) → All (leb 32) n) where
  let-shown : (bs : List Binding) (body : Tree) (s : TermSort) (E : Scope TermSort) → ((n : Name) → T (in_list n (bound_names E)) → All (leb 32) n)
      → FitsLet D E bs body s → ShownBindings bs → Shown (let_text bs (term body))
  unfolding let_text bytes
  let-shown [] body s E bound h k = term-shown D declared E bound body s h
  let-shown (b ∷ bs) body s E bound (u, f, t, h) (n, k) =
      shown-append (shown-text "(let ((" tt)
      (shown-append (shown-quoted b.name n)
      (shown-append (shown-text " " tt)
      (shown-append (term-shown D declared E bound b.tree u t)
      (shown-append (shown-text ")) " tt)
      (shown-append
      (let-shown bs body s (bind b.name u E)
      (λ m q. or_elim (same m b.name) (in_list m (bound_names E)) q (λ e. subst (All (leb 32)) (sym (same→eq m b.name e)) n) (bound m)) h k)
      (shown-text ")" tt))))))

  let-assertion-lines : (xs : List Assertion) → FitsAssertions D xs → ShownNames xs → Lines (let_assertions_text xs)
  unfolding let_assertions_text
  let-assertion-lines [] h k = lines_none
  let-assertion-lines (a ∷ xs) h k =
      assertion-line (let_text a.bindings (term a.body)) (let_assertions_text xs)
      (let-shown a.bindings a.body bool [] (λ n q. absurd q) h.0 k.0) (let-assertion-lines xs h.1 k.1)

-- Of any sound declarations and assertions that fit them.
pub assertions-script : (D : Declarations) → SoundDeclarations D → (xs : List Assertion) → FitsAssertions D xs → ShownNames xs → IsScript (render_let D xs)
unfolding render_let
assertions-script D ok xs h k = frame-script D ok.printable (let_assertions_text xs) (let-assertion-lines D ok.printable xs h k)

-- the printer's own names: `d` and digits
module _ (d : Dag) (ws bits : List ℕ) where
  name-shown : (i : ℕ) → All (leb 32) (let_name i)
  unfolding let_name bytes
  name-shown i = (tt, (shown-decimal i).bytes)

  bindings-shown : (bound : ℕ → Bool) (js : List ℕ) → ShownBindings (map (binding_of d ws bits bound) js)
  unfolding binding_of
  bindings-shown bound [] = tt
  bindings-shown bound (j ∷ js) = (name-shown j, bindings-shown bound js)

  names-shown : (us roots : List ℕ) → ShownNames (assertions_of d ws bits us roots)
  unfolding assertions_of assertion_of
  names-shown us [] = tt
  names-shown us (r ∷ rs) = (bindings-shown (binds d us r) (rising (binds d us r) 0 (length d.nodes)), names-shown us rs)

-- ---------------------------------------------------------------- accepted problems

pub plain-script : (p : Problem) → plain.Whole p → IsScript (plain.printed p)
unfolding script
plain-script p w = reading-script (reading p) (plain.sound p w)

pub let-script : (p : Problem) → lets.LetWhole p → IsScript (lets.let_printed p)
let-script p w =
    rw (lets.text-is p w)
    (assertions-script (reading p).declarations (lets.sound p w) (lets.let_assertions p) (lets.fit p w) (names-shown (dag_of p) (widths_of (query_of p)) p.bits (lets.uses_of p) p.roots))
