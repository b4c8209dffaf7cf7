-- A script that is read stands in the file as the text of its reading: where its declarations begin, and how many there are.
use Prim.Native.Nat.{ℕ, ◌+◌, ◌≤◌, ◌<◌}
use Rattle.std.specs.Prelude.{◌≡◌, refl, Bool, false, ◌&&◌, not, T, leb, eqb, length, take, get_or}
use Rattle.std.proofs.Math.Path.{ap, sym}
use Rattle.std.proofs.Common.{◌∙◌, subst, arith, leb→le, length-append, take-append-drop}
use mathlib.Core.List.{List, [], ◌∷◌, ◌++◌, map, append_assoc}
use Rattle.std.proofs.Math.ListN.{drop}
use Rattle.std.proofs.lemmas.List.{length-map}
use Rattle.lists.specs.Bytes.{bytes}
use Rattle.lists.specs.Tests.{every, All, and_0, and-1, by-test}
use Rattle.reading.specs.Trees.{Trees, none as noTrees, more, Variable, Array, Function, Declarations, Reading}
use Rattle.echo_spec.specs.Input.{Problem, nodes_within, column_within, arena_within, within_limits, root_limit}
use Rattle.echo_spec.specs.NameLaws.{name_ok}
use Rattle.echo_spec.specs.Render.{texts, assertions_text, logic_of, logic_text, declarations_text, render}
use Rattle.readback.specs.Printable.{variable_names_in, array_names_in, function_names_in, printable}
use Rattle.readback.specs.Records.{holdable, inputs}
use Rattle.readback.specs.Rebuild.{dag_for, rebuild}
use Rattle.readback.specs.ReadAnswers.{limits_passed}
use Rattle.rebuilt.specs.NameTables.{tables-named}
use Rattle.rebuilt.specs.Start.{checked}
use Rattle.reader_laws.specs.TermsRead.{Fails, NoBar}
use Rattle.reader_laws.specs.ScriptsRead.{AllOk}
use Rattle.readback_theorems.specs.Decided.{no-bar}
use Rattle.script_tokens.specs.Reached.{Stretch}
use Rattle.releases.specs.Release.{Declared, of_variable, of_array, of_function, all_declared}
use Rattle.releases.specs.ReleaseScripts.{names-all}
use Rattle.release_lines.specs.Lines.{line_text, ends_line, DeclaredAt}
use Rattle.release_lines.specs.Texts.{declarations-lines}
use Rattle.release_lines.specs.Walk.{stretch-known, further-on}

-- ---------------------------------------------------------------- names have no bar

all_plain : (xs : List Declared) → All name_ok (map (λ (x : Declared). x.name) xs) → AllOk (λ (x : Declared). NoBar x.name) xs
all_plain [] h = tt
all_plain (x ∷ xs) (h, k) = (no-bar x.name h, all_plain xs k)

plain : (r : Reading) → T (printable r) → AllOk (λ (x : Declared). NoBar x.name) (all_declared r.declarations)
plain r h =
    let D : Declarations = r.declarations in
    all_plain (all_declared D) (subst (All name_ok) (sym (names-all D)) (tables-named (variable_names_in D) (array_names_in D) (function_names_in D) (checked r h).names))

-- ---------------------------------------------------------------- the first line

-- the line of the logic, without its line feed
logic_line : Declarations → List ℕ
logic_line D = bytes "(set-logic " ++ (logic_of D.functions D.arrays ++ bytes ")")

logic-ends : (D : Declarations) (z : List ℕ) → logic_text D ++ z ≡ logic_line D ++ (10 ∷ z)
unfolding logic_text logic_line bytes
logic-ends D z =
    let l : List ℕ = logic_of D.functions D.arrays in
    ap (λ (x : List ℕ). bytes "(set-logic " ++ x) (append_assoc l (41 ∷ 10 ∷ []) z ∙ sym (append_assoc l (41 ∷ []) (10 ∷ z)))

logic-whole : (D : Declarations) → Fails ends_line (logic_line D)
unfolding logic_line logic_of bytes
logic-whole D = by_kind D.functions D.arrays
  where
    by_kind : (fs : List Function) (rs : List Array) → Fails ends_line (bytes "(set-logic " ++ (logic_of fs rs ++ bytes ")"))
    by_kind (f ∷ fs) rs = by-test (λ c. not (ends_line c)) (bytes "(set-logic QF_AUFBV)") tt
    by_kind [] (a ∷ rs) = by-test (λ c. not (ends_line c)) (bytes "(set-logic QF_ABV)") tt
    by_kind [] [] = by-test (λ c. not (ends_line c)) (bytes "(set-logic QF_BV)") tt

-- ---------------------------------------------------------------- the declarations

-- what follows the declarations is no declaration
no_more : (ts : Trees) (z : List ℕ) → eqb (get_or ((assertions_text ts ++ bytes "(check-sat)\n") ++ z) 1 0) 100 ≡ false
unfolding assertions_text bytes
no_more noTrees z = refl
no_more (more t ts) z = refl

module _ (file : List ℕ) (at n : ℕ) (r : Reading) (h : T (printable r)) (text : render r ≡ take n (drop at file)) where
  after : List ℕ
  after = (assertions_text r.assertions ++ bytes "(check-sat)\n") ++ drop n (drop at file)

  opened : drop at file ≡ logic_line r.declarations ++ (10 ∷ (texts line_text (all_declared r.declarations) ++ after))
  unfolding render after
  opened =
      let D : Declarations = r.declarations in
      let A : List ℕ = assertions_text r.assertions ++ bytes "(check-sat)\n" in
      let z : List ℕ = drop n (drop at file) in
      sym (take-append-drop n (drop at file)) ∙ ap (λ (x : List ℕ). x ++ z) (sym text)
      ∙ append_assoc (logic_text D) (declarations_text D ++ A) z
      ∙ ap (λ (x : List ℕ). logic_text D ++ x) (append_assoc (declarations_text D) A z ∙ ap (λ (x : List ℕ). x ++ (A ++ z)) (declarations-lines D))
      ∙ logic-ends D (texts line_text (all_declared D) ++ (A ++ z))

  module _ (d : ℕ) (st : Stretch ends_line file at d) where
    at-feed : drop d file ≡ 10 ∷ (texts line_text (all_declared r.declarations) ++ after)
    at-feed = (stretch-known ends_line file at d (logic_line r.declarations) 10 _ st opened (logic-whole r.declarations) tt).1

    pub feed-inside : d < length file
    feed-inside = (further-on file d 10 _ at-feed).0

    pub declared-at : DeclaredAt file (d + 1) (all_declared r.declarations)
    unfolding after
    declared-at =
        let f = further-on file d 10 _ at-feed in
        record {
          inside = omega (arith, f.0);
          rest = after;
          text = f.1;
          ends = no_more r.assertions (drop n (drop at file));
          plain = plain r h;
        }

-- ---------------------------------------------------------------- how many there are

record FewOf (p : Problem) : Type 0 where
  variables : length p.var_width ≤ 512
  arrays : length p.index_width ≤ 512
  functions : length p.func_width ≤ 512

few-of : (p : Problem) → T (within_limits p) → FewOf p
unfolding within_limits column_within
few-of p t =
    let n : Bool = nodes_within p.nodes p.bits p.side in
    let o : Bool = leb (length p.roots) root_limit in
    let columns : List (List ℕ) = p.name_start ∷ p.name_len ∷ p.var_node ∷ p.var_width ∷ p.aname_start ∷ p.aname_len ∷ p.index_width ∷ p.value_width ∷ p.fname_start ∷ p.fname_len ∷ p.func_width ∷ [] in
    let c : Bool = every column_within columns in
    let e : Bool = every arena_within (p.names ∷ p.anames ∷ p.fnames ∷ []) in
    let t₁ : T (o && (c && e)) = and-1 n (o && (c && e)) t in
    let t₂ : T (c && e) = and-1 o (c && e) t₁ in
    let all = by-test column_within columns (and_0 c e t₂) in
    record {
      variables = leb→le (length p.var_width) 512 all.1.1.1.0;
      arrays = leb→le (length p.index_width) 512 all.1.1.1.1.1.1.0;
      functions = leb→le (length p.func_width) 512 all.1.1.1.1.1.1.1.1.1.1.0;
    }

few-rebuilt : (r : Reading) → FewOf (inputs (rebuild r)) → (length r.declarations.variables ≤ 512) × (length r.declarations.arrays ≤ 512) × (length r.declarations.functions ≤ 512)
unfolding rebuild dag_for inputs
few-rebuilt r f = (
  omega (arith, f.variables, length-map r.declarations.variables (λ (v : Variable). v.width)),
  omega (arith, f.arrays, length-map r.declarations.arrays (λ (a : Array). a.index)),
  omega (arith, f.functions, length-map r.declarations.functions (λ (g : Function). g.width)),
)

all-counted : (D : Declarations) → length (all_declared D) ≡ length D.variables + (length D.arrays + length D.functions)
unfolding all_declared
all-counted D =
    let vs : List Declared = map of_variable D.variables in
    let rs : List Declared = map of_array D.arrays in
    let fs : List Declared = map of_function D.functions in
    omega (arith, length-append vs (rs ++ fs), length-append rs fs, length-map D.variables of_variable, length-map D.arrays of_array, length-map D.functions of_function)

pub few-declared : (r : Reading) → T (limits_passed (rebuild r)) → length (all_declared r.declarations) ≤ 1536
unfolding limits_passed
few-declared r t =
    let (v, a, f) = few-rebuilt r (few-of (inputs (rebuild r)) (and-1 (every holdable (rebuild r).dag.nodes) (within_limits (inputs (rebuild r))) t)) in
    omega (arith, v, a, f, all-counted r.declarations)
