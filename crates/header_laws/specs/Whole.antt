-- What the header decides of the whole script: where there is no header there is no reading, and else the reading is what the bytes
-- after the header make of its declarations, which may all be declared.
use Prim.Native.Nat.{ℕ, zero, suc}
use Rattle.std.specs.Prelude.{◌≡◌, Bool, true, false, ◌&&◌, ◌||◌, cond, eqb, length}
use Rattle.std.proofs.Math.Path.{refl, ap, subst}
use Rattle.std.proofs.Common.{sym, ◌∙◌}
use mathlib.Core.List.{List, [], ◌∷◌, ◌++◌, map}
use Rattle.std.proofs.Math.Option.{Option, none, some}
use Rattle.std.proofs.Math.Dec.{T}
use Rattle.lists.specs.Bytes.{bytes}
use Rattle.lists.specs.Tests.{same, every, and_T, and_0, and-1, true→T, T→true}
use Rattle.reading.specs.Trees.{Name, Tree, Array, Function, Declarations, Reading}
use Rattle.echo_spec.specs.Names.{table_ok}
use Rattle.echo_spec.specs.Render.{logic_of}
use Rattle.readback.specs.Printable.{variable_names_in, array_names_in, function_names_in, names_permitted, variable_ok, array_ok, function_ok, declarable, printable}
use Rattle.readback.specs.Reader.{Took, took, and_then, expect, up_to, name_read}
use Rattle.readback.specs.ScriptReader.{read_sort, read_variable, read_array, read_function, many, read_assertion, under_logic, is_empty, read_script, if_whole, reading_in}
use Rattle.reader_laws.specs.TermsStrict.{impossible, and-then, took-both, expected}
use Rattle.script_decls.specs.Lines.{LineType, name_in, line_of, checked}
use Rattle.script_header.specs.Header.{ends_logic, begins, begun, declared, header_in}
use Rattle.header_laws.specs.Body.{last_line, assertions_in, reading_of, if_bools, body_in}
use Rattle.header_laws.specs.Checked.{checked-names}
use Rattle.header_laws.specs.Strict.{variable-strict, array-strict, function-strict}

-- ---------------------------------------------------------------- as many lines as there are

no_none : {A : Type 0} {P : Type 0} {x : A} → none ≡ some x → P
no_none e = absurd (impossible e)

module _ {A : Type 0} (p : List ℕ → Option (Took A)) where
  -- where the lines stop no line begins
  many-stop : (f : ℕ) (b : List ℕ) (xs : List A) (r : List ℕ) → many p f b ≡ took xs r → p r ≡ none
  unfolding many
  many-stop zero b xs r e = no_none e
  many-stop (suc f) b xs r e = by-line (p b) refl e (λ b xs r e. many-stop f b xs r e)
    where
      by-line : (o : Option (Took A)) → p b ≡ o
          → elim o as (λ _. Option (Took (List A))) [ none ↦ took [] b | some t ↦ and_then (many p f t.rest) (λ xs r. took (t.value ∷ xs) r) ] ≡ took xs r
          → ((b : List ℕ) (xs : List A) (r : List ℕ) → many p f b ≡ took xs r → p r ≡ none) → p r ≡ none
      by-line none q e ih = subst (λ (x : List ℕ). p x ≡ none) (took-both {A = List A} [] xs b r e).1 q
      by-line (some t) q e ih =
          let (ys, z, g, j) = and-then (many p f t.rest) _ xs r e in
          let (m, n) = took-both (t.value ∷ ys) xs z r j in
          ih t.rest ys r (g ∙ ap (λ (x : List ℕ). took ys x) n)

  -- what holds where a line begins, and where they stop, holds where they begin
  many-first : (P : List ℕ → Type 0) (f : ℕ) (b : List ℕ) (xs : List A) (r : List ℕ) → many p f b ≡ took xs r → P r → ((x : A) (z : List ℕ) → p b ≡ took x z → P b) → P b
  unfolding many
  many-first P zero b xs r e h k = no_none e
  many-first P (suc f) b xs r e h k = by-line (p b) refl e
    where
      by-line : (o : Option (Took A)) → p b ≡ o
          → elim o as (λ _. Option (Took (List A))) [ none ↦ took [] b | some t ↦ and_then (many p f t.rest) (λ xs r. took (t.value ∷ xs) r) ] ≡ took xs r → P b
      by-line none q e = subst P (sym (took-both {A = List A} [] xs b r e).1) h
      by-line (some t) q e = k t.value t.rest q

-- a reader, and one that tests what it reads besides
module _ {A : Type 0} (strict lax : List ℕ → Option (Took A)) (ok : A → Bool) (law : (b : List ℕ) → strict b ≡ and_then (lax b) (λ x r. cond (ok x) (took x r) none)) where
  tested : (x y : A) (z r : List ℕ) (t : Bool) → ok x ≡ t → cond t (took x z) none ≡ took y r → (took x z ≡ took y r) × T (ok x)
  tested x y z r true q e = (e, true→T q)
  tested x y z r false q e = no_none e

  -- what passed the test was read
  pub strict-lax : (b : List ℕ) (x : A) (r : List ℕ) → strict b ≡ took x r → (lax b ≡ took x r) × T (ok x)
  strict-lax b x r e =
      let (y, z, g, h) = and-then (lax b) _ x r (sym (law b) ∙ e) in
      let (m, t) = tested y x z r (ok y) refl h in
      (g ∙ m, subst (λ (u : A). T (ok u)) (took-both y x z r m).0 t)

  lax-strict : (b : List ℕ) (x : A) (r : List ℕ) → lax b ≡ took x r → T (ok x) → strict b ≡ took x r
  unfolding and_then
  lax-strict b x r e t = law b ∙ rw (e, T→true (ok x) t) refl

  none-strict : (b : List ℕ) → lax b ≡ none → strict b ≡ none
  unfolding and_then
  none-strict b e = law b ∙ rw e refl

  -- lines that passed the test are the lines, if none begins where they stop
  many-lax : (f : ℕ) (b : List ℕ) (xs : List A) (r : List ℕ) → many strict f b ≡ took xs r → lax r ≡ none → (many lax f b ≡ took xs r) × T (every ok xs)
  unfolding many and_then
  many-lax zero b xs r e n = no_none e
  many-lax (suc f) b xs r e n = by-line (strict b) refl e (λ b xs e. many-lax f b xs r e n)
    where
      by-line : (o : Option (Took A)) → strict b ≡ o
          → elim o as (λ _. Option (Took (List A))) [ none ↦ took [] b | some t ↦ and_then (many strict f t.rest) (λ xs r. took (t.value ∷ xs) r) ] ≡ took xs r
          → ((b : List ℕ) (xs : List A) → many strict f b ≡ took xs r → (many lax f b ≡ took xs r) × T (every ok xs)) → (many lax (suc f) b ≡ took xs r) × T (every ok xs)
      by-line none q e ih =
          let (m, u) = took-both {A = List A} [] xs b r e in
          let g : lax b ≡ none = subst (λ (x : List ℕ). lax x ≡ none) (sym u) n in
          (rw (g, many) e, subst (λ (x : List A). T (every ok x)) m tt)
      by-line (some t) q e ih =
          let (ys, z, g, j) = and-then (many strict f t.rest) _ xs r e in
          let (m, u) = took-both (t.value ∷ ys) xs z r j in
          let (a, c) = strict-lax b t.value t.rest q in
          let (d, k) = ih t.rest ys (g ∙ ap (λ (x : List ℕ). took ys x) u) in
          (rw (a, many, d) (ap (λ (x : List A). took x r) m), subst (λ (x : List A). T (every ok x)) m (and_T (ok t.value) (every ok ys) c k))

  -- and lines that pass it are read by the reader that tests
  many-strict : (f : ℕ) (b : List ℕ) (xs : List A) (r : List ℕ) → many lax f b ≡ took xs r → T (every ok xs) → many strict f b ≡ took xs r
  unfolding many and_then
  many-strict zero b xs r e t = no_none e
  many-strict (suc f) b xs r e h = by-line (lax b) refl e (λ b xs e h. many-strict f b xs r e h)
    where
      by-line : (o : Option (Took A)) → lax b ≡ o
          → elim o as (λ _. Option (Took (List A))) [ none ↦ took [] b | some t ↦ and_then (many lax f t.rest) (λ xs r. took (t.value ∷ xs) r) ] ≡ took xs r
          → ((b : List ℕ) (xs : List A) → many lax f b ≡ took xs r → T (every ok xs) → many strict f b ≡ took xs r) → many strict (suc f) b ≡ took xs r
      by-line none q e ih = rw (none-strict b q, many) e
      by-line (some t) q e ih =
          let (ys, z, g, j) = and-then (many lax f t.rest) _ xs r e in
          let (m, u) = took-both (t.value ∷ ys) xs z r j in
          let k : T (every ok (t.value ∷ ys)) = subst (λ (x : List A). T (every ok x)) (sym m) h in
          let d = ih t.rest ys (g ∙ ap (λ (x : List ℕ). took ys x) u) (and-1 (ok t.value) (every ok ys) k) in
          rw (lax-strict b t.value t.rest q (and_0 (ok t.value) (every ok ys) k), many, d) (ap (λ (x : List A). took x r) m)

-- ---------------------------------------------------------------- lines with their names checked

module _ (k f : ℕ) (before : List Name) (b : List ℕ) (xs : List (LineType k)) (r : List ℕ) where
  checked-parts : checked k f before b ≡ took xs r → (many (line_of k) f b ≡ took xs r) × T (table_ok before (map (name_in k) xs))
  checked-parts e =
      let (ys, z, g, h) = and-then (many (line_of k) f b) _ xs r (sym (checked-names k f before b) ∙ e) in
      by-test ys z g (table_ok before (map (name_in k) ys)) refl h
    where
      by-test : (ys : List (LineType k)) (z : List ℕ) → many (line_of k) f b ≡ took ys z → (t : Bool) → table_ok before (map (name_in k) ys) ≡ t → cond t (took ys z) none ≡ took xs r
          → (many (line_of k) f b ≡ took xs r) × T (table_ok before (map (name_in k) xs))
      by-test ys z g true q h = (g ∙ h, subst (λ (x : List (LineType k)). T (table_ok before (map (name_in k) x))) (took-both ys xs z r h).0 (true→T q))
      by-test ys z g false q h = no_none h

  checked-whole : many (line_of k) f b ≡ took xs r → T (table_ok before (map (name_in k) xs)) → checked k f before b ≡ took xs r
  unfolding and_then
  checked-whole e t = checked-names k f before b ∙ rw (e, T→true (table_ok before (map (name_in k) xs)) t) refl

-- ---------------------------------------------------------------- what no line begins with

-- neither a variable, nor an array, nor a function is declared here
record Undeclared (b : List ℕ) : Type 0 where
  variable : read_variable b ≡ none
  array : read_array b ≡ none
  function : read_function b ≡ none

no-assertion : (x : List ℕ) → Undeclared (bytes "(assert " ++ x)
unfolding read_variable read_array read_function expect and_then bytes
no-assertion x = record { variable = refl; array = refl; function = refl }

no_last : (x : List ℕ) → Undeclared (last_line ++ x)
unfolding read_variable read_array read_function expect and_then bytes
no_last x = record { variable = refl; array = refl; function = refl }

-- an assertion and the last line declare nothing
begun-undeclared : (b : List ℕ) → T (begun b) → Undeclared b
unfolding begun begins
begun-undeclared b h = by_first (expect (bytes "(assert ") b) refl (expect last_line b) refl h
  where
    by_first : (o : Option (Took (List ℕ))) → expect (bytes "(assert ") b ≡ o → (o' : Option (Took (List ℕ))) → expect last_line b ≡ o' → T (begins o || begins o') → Undeclared b
    by_first (some t) e o' e' h = subst Undeclared (sym (expected (bytes "(assert ") b t.value t.rest e)) (no-assertion t.rest)
    by_first none e (some t) e' h = subst Undeclared (sym (expected last_line b t.value t.rest e')) (no_last t.rest)
    by_first none e none e' h = absurd h

function-word : (x : List ℕ) → (read_variable (bytes "(declare-fun |" ++ x) ≡ none) × (read_array (bytes "(declare-fun |" ++ x) ≡ none)
unfolding read_variable read_array expect and_then bytes
function-word x = (refl, refl)

-- a function is neither a variable nor an array
function-apart : (b : List ℕ) (g : Function) (r : List ℕ) → read_function b ≡ took g r → (read_variable b ≡ none) × (read_array b ≡ none)
unfolding read_function
function-apart b g r e =
    let (v, x, q, h) = and-then (expect (bytes "(declare-fun |") b) _ g r e in
    subst (λ (y : List ℕ). (read_variable y ≡ none) × (read_array y ≡ none)) (sym (expected (bytes "(declare-fun |") b v x q)) (function-word x)

array-word : (x : List ℕ) → (v : List ℕ) × (y : List ℕ) × (expect (bytes " ") (bytes " (Array " ++ x) ≡ took v y) × (read_sort y ≡ none)
unfolding read_sort expect and_then bytes
array-word x = ([], _, refl, refl)

-- an array is no variable
array_apart : (b : List ℕ) (a : Array) (r : List ℕ) → read_array b ≡ took a r → read_variable b ≡ none
unfolding read_array read_variable and_then
array_apart b a r e =
    let (v₁, b₁, e₁, g₁) = and-then (expect (bytes "(declare-const |") b) _ a r e in
    let (n, b₂, e₂, g₂) = and-then (name_read b₁) _ a r g₁ in
    let (v₃, b₃, e₃, g₃) = and-then (expect (bytes " (Array ") b₂) _ a r g₂ in
    let (v₄, b₄, e₄, n₄) = array-word b₃ in
    let q : expect (bytes " ") b₂ ≡ took v₄ b₄ = ap (expect (bytes " ")) (expected (bytes " (Array ") b₂ v₃ b₃ e₃) ∙ e₄ in
    rw (e₁, e₂, q, n₄)

-- ---------------------------------------------------------------- declarations

-- the three tables as the reader of scripts has them
record Tables (f : ℕ) (b : List ℕ) (D : Declarations) (r : List ℕ) : Type 0 where
  after_variables : List ℕ
  after_arrays : List ℕ
  variables : many read_variable f b ≡ took D.variables after_variables
  arrays : many read_array f after_variables ≡ took D.arrays after_arrays
  functions : many read_function f after_arrays ≡ took D.functions r

declared-parts : (f : ℕ) (b : List ℕ) (D : Declarations) (r : List ℕ) → declared f b ≡ took D r → T (begun r) → Tables f b D r × T (declarable D)
unfolding declared declarable
declared-parts f b D r e t =
    let (vs, b₁, c₀, h₁) = and-then (checked 0 f [] b) _ D r e in
    let (rs, b₂, c₁, h₂) = and-then (checked 1 f (map (name_in 0) vs) b₁) _ D r h₁ in
    let (fs, b₃, c₂, h₃) = and-then (checked 2 f (map (name_in 0) vs ++ map (name_in 1) rs) b₂) _ D r h₂ in
    let D' : Declarations = record { variables = vs; arrays = rs; functions = fs } in
    let (m, n) = took-both D' D b₃ r h₃ in
    let (l₀, t₀) = checked-parts 0 f [] b vs b₁ c₀ in
    let (l₁, t₁) = checked-parts 1 f (map (name_in 0) vs) b₁ rs b₂ c₁ in
    let (l₂, t₂) = checked-parts 2 f (map (name_in 0) vs ++ map (name_in 1) rs) b₂ fs b₃ c₂ in
    let u₃ : Undeclared b₃ = begun-undeclared b₃ (subst (λ (x : List ℕ). T (begun x)) (sym n) t) in
    let (u₁, u₂) = many-first (line_of 2) (λ x. (read_variable x ≡ none) × (read_array x ≡ none)) f b₂ fs b₃ l₂ (u₃.variable, u₃.array)
    (λ g z q. function-apart b₂ g z (strict-lax (line_of 2) read_function function_ok function-strict b₂ g z q).0) in
    let u₀ = many-first (line_of 1) (λ x. read_variable x ≡ none) f b₁ rs b₂ l₁ u₁ (λ a z q. array_apart b₁ a z (strict-lax (line_of 1) read_array array_ok array-strict b₁ a z q).0) in
    let (m₀, k₀) = many-lax (line_of 0) read_variable variable_ok variable-strict f b vs b₁ l₀ u₀ in
    let (m₁, k₁) = many-lax (line_of 1) read_array array_ok array-strict f b₁ rs b₂ l₁ u₂ in
    let (m₂, k₂) = many-lax (line_of 2) read_function function_ok function-strict f b₂ fs b₃ l₂ u₃.function in
    let names : T (names_permitted (variable_names_in D') (array_names_in D') (function_names_in D')) =
    and_T (table_ok [] (variable_names_in D')) _ t₀ (and_T (table_ok (variable_names_in D') (array_names_in D')) _ t₁ t₂) in
    let whole : T (declarable D') = and_T (names_permitted (variable_names_in D') (array_names_in D') (function_names_in D')) _ names (and_T (every variable_ok vs) _ k₀ (and_T (every array_ok rs) (every function_ok fs) k₁ k₂)) in
    let tables : Tables f b D' b₃ = record { after_variables = b₁; after_arrays = b₂; variables = m₀; arrays = m₁; functions = m₂ } in
    (subst (λ (x : List ℕ). Tables f b D x) n (subst (λ (x : Declarations). Tables f b x b₃) m tables), subst (λ (x : Declarations). T (declarable x)) m whole)

declared-whole : (f : ℕ) (b : List ℕ) (D : Declarations) (r : List ℕ) → Tables f b D r → T (declarable D) → declared f b ≡ took D r
unfolding declared declarable and_then
declared-whole f b D r x t =
    let ns = and_0 (names_permitted (variable_names_in D) (array_names_in D) (function_names_in D)) _ t in
    let ws = and-1 (names_permitted (variable_names_in D) (array_names_in D) (function_names_in D)) _ t in
    let ns₁ = and-1 (table_ok [] (variable_names_in D)) _ ns in
    let ws₁ = and-1 (every variable_ok D.variables) _ ws in
    let c₀ = checked-whole 0 f [] b D.variables x.after_variables
    (many-strict (line_of 0) read_variable variable_ok variable-strict f b D.variables x.after_variables x.variables (and_0 (every variable_ok D.variables) _ ws)) (and_0 (table_ok [] (variable_names_in D)) _ ns) in
    let c₁ = checked-whole 1 f (variable_names_in D) x.after_variables D.arrays x.after_arrays
    (many-strict (line_of 1) read_array array_ok array-strict f x.after_variables D.arrays x.after_arrays x.arrays (and_0 (every array_ok D.arrays) _ ws₁)) (and_0 (table_ok (variable_names_in D) (array_names_in D)) _ ns₁) in
    let c₂ = checked-whole 2 f (variable_names_in D ++ array_names_in D) x.after_arrays D.functions r
    (many-strict (line_of 2) read_function function_ok function-strict f x.after_arrays D.functions r x.functions (and-1 (every array_ok D.arrays) _ ws₁)) (and-1 (table_ok (variable_names_in D) (array_names_in D)) _ ns₁) in
    rw (c₀, c₁, c₂)

-- ---------------------------------------------------------------- the header

-- the logic's name, the declarations after it, and what a header is asked besides
record Parts (f : ℕ) (b : List ℕ) (D : Declarations) (r : List ℕ) : Type 0 where
  first : List ℕ
  after_logic : List ℕ
  word : List ℕ
  end : List ℕ
  opens : expect (bytes "(set-logic ") b ≡ took word first
  closes : expect (bytes ")\n") (up_to ends_logic first).rest ≡ took end after_logic
  lines : declared f after_logic ≡ took D r
  logic : same (up_to ends_logic first).value (logic_of D.functions D.arrays) ≡ true
  follows : T (begun r)

header-parts : (f : ℕ) (b : List ℕ) (D : Declarations) (r : List ℕ) → header_in f b ≡ took D r → Parts f b D r
unfolding header_in
header-parts f b D r e =
    let (v₁, b₁, e₁, g₁) = and-then (expect (bytes "(set-logic ") b) _ D r e in
    let (v₂, b₂, e₂, g₂) = and-then (expect (bytes ")\n") (up_to ends_logic b₁).rest) _ D r g₁ in
    let (D', r', e₃, g₃) = and-then (declared f b₂) _ D r g₂ in
    by_tests v₁ b₁ e₁ v₂ b₂ e₂ D' r' e₃ (same (up_to ends_logic b₁).value (logic_of D'.functions D'.arrays)) refl (begun r') refl g₃
  where
    by_tests : (v₁ b₁ : List ℕ) → expect (bytes "(set-logic ") b ≡ took v₁ b₁ → (v₂ b₂ : List ℕ) → expect (bytes ")\n") (up_to ends_logic b₁).rest ≡ took v₂ b₂
        → (D' : Declarations) (r' : List ℕ) → declared f b₂ ≡ took D' r' → (x : Bool) → same (up_to ends_logic b₁).value (logic_of D'.functions D'.arrays) ≡ x
        → (y : Bool) → begun r' ≡ y → cond (x && y) (took D' r') none ≡ took D r → Parts f b D r
    by_tests v₁ b₁ e₁ v₂ b₂ e₂ D' r' e₃ true p true q g =
        let (m, n) = took-both D' D r' r g in record {
          first = b₁;
          after_logic = b₂;
          word = v₁;
          end = v₂;
          opens = e₁;
          closes = e₂;
          lines = e₃ ∙ g;
          logic = subst (λ (x : Declarations). same (up_to ends_logic b₁).value (logic_of x.functions x.arrays) ≡ true) m p;
          follows = subst (λ (x : List ℕ). T (begun x)) n (true→T q);
        }
    by_tests v₁ b₁ e₁ v₂ b₂ e₂ D' r' e₃ true p false q g = no_none g
    by_tests v₁ b₁ e₁ v₂ b₂ e₂ D' r' e₃ false p true q g = no_none g
    by_tests v₁ b₁ e₁ v₂ b₂ e₂ D' r' e₃ false p false q g = no_none g

-- What a header declares may be declared.
pub header-declarable : (f : ℕ) (b : List ℕ) (D : Declarations) (r : List ℕ) → header_in f b ≡ took D r → T (declarable D)
header-declarable f b D r e = let x = header-parts f b D r e in (declared-parts f x.after_logic D r x.lines x.follows).1

-- ---------------------------------------------------------------- the whole script

module _ (D : Declarations) (t : T (declarable D)) where
  abbrev script_of : Option (Took (List Tree)) → Option (Took Reading)
  script_of o = and_then o (λ ts q. and_then (expect last_line q) (λ _ z. took (reading_of D ts) z))

  -- declarations that may be declared leave the assertions to be looked at
  whole-bools : (o : Option (Took (List Tree))) → if_whole (script_of o) ≡ if_bools D (and_then o (λ ts q. and_then (expect last_line q) (λ _ z. took ts z)))
  unfolding if_whole if_bools and_then printable
  whole-bools none = refl
  whole-bools (some x) = by_last (expect last_line x.rest)
    where
      by_last : (o : Option (Took (List ℕ))) → if_whole (and_then o (λ _ z. took (reading_of D x.value) z)) ≡ if_bools D (and_then o (λ _ z. took x.value z))
      by_last none = refl
      by_last (some y) = rw (T→true (declarable D) t) refl

-- The reading of a script that has a header is that of its declarations and the bytes after it.
pub header-reads : (b : List ℕ) (D : Declarations) (r : List ℕ) → header_in (suc (length b)) b ≡ took D r → reading_in b ≡ body_in (suc (length b)) D r
unfolding reading_in read_script body_in assertions_in and_then under_logic
header-reads b D r e =
    let x = header-parts (suc (length b)) b D r e in
    let (y, t) = declared-parts (suc (length b)) x.after_logic D r x.lines x.follows in
    rw (x.opens, x.closes, y.variables, y.arrays, y.functions, x.logic) (whole-bools D t (many (read_assertion D) (suc (length b)) r))

-- assertions begin, or the last line
or-true : (a : Bool) → T (a || true)
or-true true = tt
or-true false = tt

last-begun : (z v q : List ℕ) → expect last_line z ≡ took v q → T (begun z)
unfolding begun begins
last-begun z v q g = rw g (or-true (begins (expect (bytes "(assert ") z)))

assertion-begun : (D : Declarations) (b : List ℕ) (t : Tree) (y : List ℕ) → read_assertion D b ≡ took t y → T (begun b)
unfolding read_assertion begun begins
assertion-begun D b t y h =
    let (v, x, g, k) = and-then (expect (bytes "(assert ") b) _ t y h in
    rw g tt

body-begun : (f : ℕ) (D : Declarations) (b : List ℕ) (ts : List Tree) (z v q : List ℕ) → many (read_assertion D) f b ≡ took ts z → expect last_line z ≡ took v q → T (begun b)
body-begun f D b ts z v q e g = many-first (read_assertion D) (λ x. T (begun x)) f b ts z e (last-begun z v q g) (λ t y h. assertion-begun D b t y h)

under-logic : (x : Bool) {y : Bool} → y ≡ x → (u s : Reading) (w z : List ℕ) → under_logic y u w ≡ took s z → (y ≡ true) × (u ≡ s)
unfolding under_logic
under-logic true p u s w z g = (p, (took-both u s w z (rw p at g)).0)
under-logic false p u s w z g = no_none (rw p at g)

header-whole : (f : ℕ) (b b₁ b₂ v₁ v₂ : List ℕ) (D : Declarations) (r : List ℕ) → expect (bytes "(set-logic ") b ≡ took v₁ b₁ → expect (bytes ")\n") (up_to ends_logic b₁).rest ≡ took v₂ b₂
    → declared f b₂ ≡ took D r → same (up_to ends_logic b₁).value (logic_of D.functions D.arrays) ≡ true → T (begun r) → header_in f b ≡ took D r
unfolding header_in and_then
header-whole f b b₁ b₂ v₁ v₂ D r e₁ e₂ q l h = rw (e₁, e₂, q, l, T→true (begun r) h)

-- a script has a header
script-header : (b : List ℕ) (s : Reading) (z : List ℕ) → read_script b ≡ took s z → T (declarable s.declarations) → (r : List ℕ) × (header_in (suc (length b)) b ≡ took s.declarations r)
unfolding read_script
script-header b s z e t =
    let (v₁, b₁, e₁, g₁) = and-then (expect (bytes "(set-logic ") b) _ s z e in
    let (v₂, b₂, e₂, g₂) = and-then (expect (bytes ")\n") (up_to (λ c. eqb c 41) b₁).rest) _ s z g₁ in
    let (vs, b₃, e₃, g₃) = and-then (many read_variable (suc (length b)) b₂) _ s z g₂ in
    let (rs, b₄, e₄, g₄) = and-then (many read_array (suc (length b)) b₃) _ s z g₃ in
    let (fs, b₅, e₅, g₅) = and-then (many read_function (suc (length b)) b₄) _ s z g₄ in
    let D : Declarations = record { variables = vs; arrays = rs; functions = fs } in
    let (ts, b₆, e₆, g₆) = and-then (many (read_assertion D) (suc (length b)) b₅) _ s z g₅ in
    let (v₇, b₇, e₇, g₇) = and-then (expect (bytes "(check-sat)\n") b₆) _ s z g₆ in
    let (l, m) = under-logic (same (up_to ends_logic b₁).value (logic_of fs rs)) refl (reading_of D ts) s b₇ z g₇ in
    let d : D ≡ s.declarations = ap (λ (x : Reading). x.declarations) m in
    let q : declared (suc (length b)) b₂ ≡ took D b₅ =
    declared-whole (suc (length b)) b₂ D b₅ (record { after_variables = b₃; after_arrays = b₄; variables = e₃; arrays = e₄; functions = e₅ }) (subst (λ (x : Declarations). T (declarable x)) (sym d) t) in
    (b₅, header-whole (suc (length b)) b b₁ b₂ v₁ v₂ D b₅ e₁ e₂ q l (body-begun (suc (length b)) D b₅ ts b₆ v₇ b₇ e₆ e₇) ∙ ap (λ (x : Declarations). took x b₅) d)

-- A script without a header has no reading.
pub header-none : (b : List ℕ) → header_in (suc (length b)) b ≡ none → reading_in b ≡ none
unfolding reading_in if_whole printable
header-none b e = by-script (read_script b) refl
  where
    by-test : (t : Took Reading) → read_script b ≡ some t → (x y : Bool) → declarable t.value.declarations ≡ y → cond (x && printable t.value) (some t.value) none ≡ none
    by-test t q false y p = refl
    by-test t q true false p = rw p refl
    by-test t q true true p = let (r, h) = script-header b t.value t.rest q (true→T p) in no_none (sym e ∙ h)

    by-script : (o : Option (Took Reading)) → read_script b ≡ o → if_whole o ≡ none
    by-script none q = refl
    by-script (some t) q = by-test t q (is_empty t.rest) (declarable t.value.declarations) refl
