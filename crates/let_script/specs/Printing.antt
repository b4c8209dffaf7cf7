-- What is known of a lent problem when its script with `let` is written, and that script.
use Rattle.std.specs.Prelude.{ℕ, zero, suc, ◌<◌, ◌≡◌, refl, List, [], ◌∷◌, ◌++◌, map, Bool, true, length, get_or, Option, Some, None, Result, Ok, Err}
use Rattle.std.proofs.Common.{sym, ap, ◌∙◌, subst, append_assoc, arith}
use Rattle.std.proofs.Math.Decide.{dec_lt}
use Rattle.lists.specs.Bytes.{bytes}
use Rattle.lists.specs.Tests.{true→T, T→true}
use Rattle.echo_spec.specs.Refusals.{unless}
use Rattle.echo_spec.specs.Shapes.{is_bool}
use Rattle.echo_spec.specs.Input.{Problem, array_widths, shape, no_node, nodes_of, dag_of, query_of}
use Rattle.echo_spec.specs.Widths.{ext_wf_of}
use Rattle.echo_spec.specs.Sharing.{unshared}
use Rattle.echo_spec.specs.Tables.{declarations_of}
use Rattle.echo_spec.specs.Walk.{formula, sort_ok, walk_all, walk, walk_roots, table_checks, checks}
use Rattle.echo_spec.specs.Render.{logic_text, declarations_text, frame}
use Rattle.echo_spec.specs.Accepted.{or_else-passed}
use Rattle.echo_spec.specs.Answers.{endless_with}
use Rattle.lets.specs.Lets.{uses_in, shared, assertions_of, let_assertions_text, render_let, let_roots, names_clear, let_refusal_with, let_script, endless_let}
use Rattle.lets.proofs.Plain.{binds-none, text-plain, roots-plain, clear-unshared}
use Rattle.refusals.specs.declared.EchoError.{EchoError}
use Rattle.refusals.specs.Numbers.{error_number}
use Rattle.lent.specs.declared.Problem.{Problem as Lent}
use Rattle.lent.specs.Lent.{problem_at, dag_at}
use Rattle.echo_bytes.specs.declared.Place.{Place}
use Rattle.echo_bytes.specs.Page.{Page, page, start, written}
use Rattle.echo_bytes.specs.Laws.{written_then}
use Rattle.echo_tables.specs.Refused.{refused_at, walk-past, walk_is}
use Rattle.echo_tables.specs.Filling.{Refusable}
use Rattle.echo_checks.specs.Limits.{bounds}
use Rattle.echo_sharing.specs.Flags.{Flags, SharedIn}
use Rattle.echo_reach.specs.Marks.{Whole}
use Rattle.echo_bindings.specs.LetRefused.{roots-refused}
use Rattle.echo_bindings.specs.Checking.{uses_at, Sharing}
use Rattle.echo_bindings.specs.Naming.{Walkable, assertion_text}
use Rattle.echo_roots.specs.Roots.{root_text, roots_text}
use Rattle.echo_script.specs.declared.Tables.{Tables}
use Rattle.echo_script.specs.Scripts.{plain_script, declared_checks}
use Rattle.echo_script.specs.Outcomes.{Wrote}
use Rattle.echo_script.specs.Prepared.{WellFormed, Filled}
use Rattle.echo_script.proofs.Checking.{wrote_as, measured-checks}
use Rattle.echo_script.proofs.Printing.{ready}

-- ---------------------------------------------------------------- the script, and what it is refused with from the names on

-- over the widths ws
abbrev pub shared_script : Problem → List ℕ → List ℕ
shared_script p ws = frame (declarations_of (dag_of p) ws) (let_assertions_text (assertions_of (dag_of p) ws p.bits (uses_in (dag_of p) p.roots) p.roots))

unfoldable pub let_tables_refusal : Problem → List ℕ → ℕ
let_tables_refusal p ws = table_checks (dag_of p) ws (unless (names_clear (dag_of p) (uses_in (dag_of p) p.roots)) 11) (let_roots (dag_of p) ws (uses_in (dag_of p) p.roots) p.roots)

-- ---------------------------------------------------------------- before the roots

-- the lines before the roots
abbrev pub opening_text : Lent → List ℕ → List ℕ
opening_text p ws = logic_text (declarations_of (dag_at p) ws) ++ declarations_text (declarations_of (dag_at p) ws)

-- no declared variable or function is refused; the tables that were filled, whatever the first calls are, and the lines before the roots
pub record Declared (p : Lent) (ws lent : List ℕ) (q : Place) (tables : Tables) (l : List ℕ) : Type 0 where
  pub passed : (walked : ℕ) → declared_checks (dag_at p) ws walked ≡ walked
  pub first : List (Option ℕ)
  pub filled : Filled p ws tables first
  pub text : page q l ≡ written (page start lent) (opening_text p ws)

-- what they are refused with, whatever the roots are, or that
abbrev pub Opened : Lent → List ℕ → List ℕ → Result Place EchoError → Tables → List ℕ → Type 0
Opened p ws lent (Ok q) tables l = Declared p ws lent q tables l
Opened p ws lent (Err e) tables l = (walked : ℕ) → declared_checks (dag_at p) ws walked ≡ error_number e

-- ---------------------------------------------------------------- roots

-- every root is a node whose whole term is not refused
pub record RootsFree (p : Lent) (ws roots : List ℕ) : Type 0 where
  pub here : (k : ℕ) → k < length roots → get_or roots k 0 < length (dag_at p).nodes
  pub free : (k : ℕ) → k < length roots → refused_at (dag_at p) ws (get_or roots k 0) ≡ 0

pub roots-are : (p : Lent) (ws roots : List ℕ) → roots_text (assertion_text p ws) roots ≡ let_assertions_text (assertions_of (dag_at p) ws (problem_at p).bits (uses_at p) roots)
unfolding roots_text root_text let_assertions_text assertions_of bytes
roots-are p ws [] = refl
roots-are p ws (r ∷ rs) =
    ap (λ (t : List ℕ). (bytes "(assert" ++ ((32 ∷ assertion_text p ws r) ++ bytes ")\n")) ++ t) (roots-are p ws rs)
    ∙ simp append_assoc

-- ---------------------------------------------------------------- the tables that were filled

module _ {p : Lent} {ws : List ℕ} {tables : Tables} {first : List (Option ℕ)} (f : Filled p ws tables first) where
  whole : Whole p
  unfolding dag_of
  whole = record { within = (bounds (problem_at p) f.formed.within).nodes; formed = rw (← f.formed.widths) f.formed.counted }

  pub refusable : Refusable p ws tables.marks
  unfolding dag_of
  refusable = record { measured = record { widths = f.formed.widths; counted = f.formed.counted }; marked = f.marked }

  pub sharing : {s : List Bool} → Flags (shared (dag_at p) (uses_at p)) s → Sharing p ws s
  sharing h = record { whole = whole; measured = refusable.measured; flags = h }

  pub walkable : Walkable p ws tables.entries
  walkable = let r = ready f in record { side = r.entries; binary = r.binary; entered = r.entered; aligned = r.aligned }

  -- where no root's assertion is refused, no root's whole term is
  pub none-refused : let_roots (dag_at p) ws (uses_at p) (problem_at p).roots ≡ 0 → walk_roots (dag_at p) ws (problem_at p).roots ≡ 0
  unfolding dag_of
  none-refused e = roots-refused (dag_at p) ws (length (problem_at p).bits) f.formed.widths f.formed.counted (uses_at p) (problem_at p).roots e

-- roots none of whose walks refuses, whichever roots they are
module _ (p : Lent) {ws : List ℕ} (h : WellFormed (problem_at p) ws) where
  root-free : (roots : List ℕ) → walk_roots (dag_at p) ws roots ≡ 0 → (k : ℕ) → k < length roots → (get_or roots k 0 < length (dag_at p).nodes) × (refused_at (dag_at p) ws (get_or roots k 0) ≡ 0)
  unfolding walk_roots walk_all dag_of
  root-free [] e k l = absurd (omega arith)
  root-free (r ∷ rs) e (suc k) l = root-free rs (or_else-passed (walk (dag_at p) ws r true) (walk_all (walk (dag_at p) ws) (map formula rs)) e).1 k (omega arith)
  root-free (r ∷ rs) e zero l = by_place (dec_lt r (length (dag_at p).nodes))
    where
      own : walk (dag_at p) ws r true ≡ 0
      own = (or_else-passed (walk (dag_at p) ws r true) (walk_all (walk (dag_at p) ws) (map formula rs)) e).0

      by_place : Dec (r < length (dag_at p).nodes) → (r < length (dag_at p).nodes) × (refused_at (dag_at p) ws r ≡ 0)
      by_place (no m) = let z : ◌≡◌ {A = ℕ} 1 0 = sym (walk-past (dag_at p) ws r (omega arith) true) ∙ own in absurd (omega arith)
      by_place (yes m) =
          (m, (or_else-passed (unless (sort_ok true (is_bool (shape (get_or (dag_at p).nodes r no_node)))) 3) (refused_at (dag_at p) ws r) (sym (walk_is (dag_at p) ws (length (problem_at p).bits) h.widths h.counted r m true) ∙ own)).1)

  pub roots-free : (roots : List ℕ) → walk_roots (dag_at p) ws roots ≡ 0 → RootsFree p ws roots
  roots-free roots e = record { here = λ k l. (root-free roots e k l).0; free = λ k l. (root-free roots e k l).1 }

-- ---------------------------------------------------------------- the script

-- the lines before the roots, the roots, and the last line
pub print-in : (p : Lent) (ws l₀ : List ℕ) {a b c : Page}
    → a ≡ written (page start l₀) (opening_text p ws)
    → b ≡ written a (roots_text (assertion_text p ws) (problem_at p).roots) → c ≡ written b (bytes "(check-sat)\n")
    → c ≡ written (page start l₀) (shared_script (problem_at p) ws)
print-in p ws l₀ {a} {b} {c} e f g =
    let L : List ℕ = logic_text (declarations_of (dag_at p) ws) in
    let D : List ℕ = declarations_text (declarations_of (dag_at p) ws) in
    let A : List ℕ = let_assertions_text (assertions_of (dag_at p) ws (problem_at p).bits (uses_at p) (problem_at p).roots) in
    let C : List ℕ = bytes "(check-sat)\n" in
    let f' : b ≡ written a A = f ∙ ap (written a) (roots-are p ws (problem_at p).roots) in
    written_then (page start l₀) (L ++ D) (A ++ C) e (written_then a A C f' g) ∙ ap (written (page start l₀)) (append_assoc L D (A ++ C))

-- ---------------------------------------------------------------- the checks

-- by what `shared_nodes` tells: whether some operator is shared, and the table of them
abbrev pub SharedAt : Problem → Option (List Bool) → Type 0
SharedAt p o = SharedIn (nodes_of p.nodes) p.side p.roots o

pub none-shared : (p : Problem) {o : Option (List Bool)} → o ≡ None → SharedAt p o → unshared (nodes_of p.nodes) p.side p.roots ≡ true
none-shared p e s = rw e at s

pub some-shared : (p : Problem) {o : Option (List Bool)} {t : List Bool} → o ≡ Some t → SharedAt p o → Flags (shared (dag_of p) (uses_in (dag_of p) p.roots)) t
unfolding dag_of shared uses_in
some-shared p e s = (rw e at s).1

-- no operator is shared
module _ (p : Problem) (u : unshared (nodes_of p.nodes) p.side p.roots ≡ true) where
  pub clear-plain : names_clear (dag_of p) (uses_in (dag_of p) p.roots) ≡ true
  unfolding dag_of
  clear-plain = T→true (names_clear (dag_of p) (uses_in (dag_of p) p.roots)) (clear-unshared (dag_of p) p.roots (true→T u))

  pub as_plain : (ws : List ℕ) {pg : Page} {o : Result Place EchoError} {l : List ℕ} → Wrote (declared_checks (dag_of p) ws (walk_roots (dag_of p) ws p.roots)) (plain_script p ws) pg o l
      → Wrote (declared_checks (dag_of p) ws (let_roots (dag_of p) ws (uses_in (dag_of p) p.roots) p.roots)) (shared_script p ws) pg o l
  unfolding dag_of
  as_plain ws w =
      let none = binds-none (dag_of p) p.roots (true→T u) in
      rw (roots-plain (dag_of p) p.bits ws (uses_in (dag_of p) p.roots) none p.roots, text-plain (dag_of p) p.bits ws (uses_in (dag_of p) p.roots) none p.roots) w

module _ (p : Problem) where
  pub checked-passed : {ws : List ℕ} → WellFormed p ws → {pg : Page} {o : Result Place EchoError} {l : List ℕ} → Wrote (let_tables_refusal p ws) (shared_script p ws) pg o l → Wrote (endless_let p) (let_script (query_of p)) pg o l
  unfolding endless_let let_refusal_with let_tables_refusal let_script render_let dag_of
  checked-passed {ws} h {pg} {o} {l} w =
      subst (λ (z : List ℕ). Wrote (endless_let p) (shared_script p z) pg o l) h.widths
      (wrote_as
      (sym (measured-checks p ws h (unless (names_clear (dag_of p) (uses_in (dag_of p) p.roots)) 11) (let_roots (dag_of p) ws (uses_in (dag_of p) p.roots) p.roots))
      ∙ ap (λ (z : List ℕ). endless_with p (checks (dag_of p) (ext_wf_of (length p.bits) (array_widths p) p.side (nodes_of p.nodes)) (unless (names_clear (dag_of p) (uses_in (dag_of p) p.roots)) 11) (let_roots (dag_of p) z (uses_in (dag_of p) p.roots) p.roots))) h.widths) w)
