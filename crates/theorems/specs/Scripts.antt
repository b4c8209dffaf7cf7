-- The text of a reading whose trees fit its declarations: it holds the tokens of one script, the script says the reading, and
-- it is well sorted.
use Rattle.std.specs.Prelude.{ℕ, zero, suc, ◌+◌, ◌≤◌, ◌<◌, ◌≡◌, refl, Bool, true, false, ◌&&◌, not, T, leb, ltb, length}
use Rattle.std.proofs.Common.{ap, sym, ◌∙◌, subst}
use mathlib.Core.List.{List, [], ◌∷◌, ◌++◌, map, append_assoc, append-nil}
use Rattle.std.proofs.Math.Option.{Option, none as nothing, some}
use Rattle.lists.specs.Bytes.{bytes}
use Rattle.lists.specs.Tests.{same, in_list, every, All, distinct, and_T, and_0, and-1, or_l, or_r, all_append, all_map, all-always, same_refl, T→true, in_left, in_right}
use Rattle.reading.specs.Trees.{Name, Tree, Trees, none, more, Variable, Array, Function, Declarations, Reading}
use Rattle.smtlib.specs.Lexicon.{quotable, Token, open⁽, close⁾, reserved, reserved_words, symbol, Lex}
use Rattle.smtlib.specs.Grammar.{
  Sort,
  bit_vec,
  array,
  sort_tokens,
  sorts_tokens,
  Terms,
  term_tokens,
  Declaration,
  declare_const,
  declare_fun,
  declaration_tokens,
  declarations_tokens,
  assertions_tokens,
  Script,
  script_tokens,
}
use Rattle.smtlib.specs.LexText.{Next, lex-next, put-open, put-close, put-space, put-line-feed, put-reserved, put-underscore, simple_test, put-end}
use Rattle.smtlib.proofs.LexText.{put-simple}
use Rattle.smtlib.specs.Readings.{
  widths,
  declaring,
  declared,
  nothing_declared,
  add_variable,
  add_array,
  add_function,
  variable_names,
  array_names,
  function_names,
  declared_names,
  Apart,
  as_meanings,
  MeansAll,
  ScriptMeans,
  Reads,
}
use Rattle.smtlib.specs.Sorts.{
  TermSort,
  bool,
  bits,
  bits_array,
  name_of,
  sensible_sort,
  sensible_declaration,
  logics,
  is_bits,
  admits,
  free,
  AllBool,
  WellSorted,
  sort_of,
}
use Rattle.echo_spec.specs.Render.{
  decimal,
  quoted,
  term,
  sort_text,
  sorts_text,
  variable_text,
  array_text,
  function_text,
  texts,
  assertions_text,
  logic_of,
  logic_text,
  declarations_text,
  frame,
  render,
}
use Rattle.theorems.specs.Terms.{term_of, terms_of, Fits, FitsAll, fresh-none}
use Rattle.theorems.specs.Meanings.{means-terms}
use Rattle.theorems.specs.Texts.{Holds, decimal-numeral, put-decimal, put-name, lex-term}
use Rattle.theorems.specs.Sorting.{bit_vecs, declare_variable, declare_array, declare_function, commands_of, names-of-commands, sort-of-term}

-- the script of these declarations and assertions
abbrev pub script_with : Declarations → Terms → Script
script_with D ts = record { logic = logic_of D.functions D.arrays; declarations = commands_of D; assertions = ts }

-- the script that a reading is printed as
unfoldable pub script_of : Reading → Script
script_of r = script_with r.declarations (terms_of r.assertions)

-- as many times Bool as there are trees
abbrev pub bools : Trees → List TermSort
bools none = []
bools (more t ts) = bool ∷ bools ts

-- ---------------------------------------------------------------- lines

-- a text that ends its line
abbrev pub Line : List ℕ → List Token → Type 0
Line text tokens = (r : List ℕ) (us : List Token) → Lex r us → Lex (text ++ r) (tokens ++ us)

-- the end of a command
pub put-end-of-line : (r : List ℕ) (us : List Token) → Lex r us → Next (41 ∷ 10 ∷ r) (close⁾ ∷ us)
put-end-of-line r us l = put-close (10 ∷ r) us (put-line-feed r us l).0

put-sort : (w : ℕ) → Holds (sort_text w) (sort_tokens (bit_vec w))
unfolding sort_text sort_tokens bytes simple_test
put-sort w r us k =
    let l₁ = put-decimal w _ _ (put-close r us k.0) in
    let l₂ = put-simple (bytes "BitVec") _ _ tt (put-space _ _ l₁) in
    let l₃ = put-open _ _ (put-underscore _ _ (put-space _ _ l₂)) in
    simp append_assoc l₃

put-sorts : (ws : List ℕ) → Holds (sorts_text ws) (sorts_tokens (bit_vecs ws))
unfolding sorts_text sorts_tokens sort_tokens bytes
put-sorts [] r us k = k.0
put-sorts (w ∷ []) r us k = simp append_assoc (put-sort w r us k)
put-sorts (w ∷ v ∷ ws) r us k =
    let l = put-sort w _ _ (put-space _ _ (put-sorts (v ∷ ws) r us k)) in
    simp append_assoc l

put-variable : (v : Variable) → All quotable v.name → Line (variable_text v) (declaration_tokens (declare_variable v))
unfolding variable_text declaration_tokens reserved_words bytes same
put-variable v q r us l =
    let l₁ = put-space _ _ (put-sort v.width _ _ (put-end-of-line r us l)) in
    let l₂ = put-space _ _ (put-name v.name q _ _ l₁) in
    let l₃ = put-open _ _ (put-reserved (bytes "declare-const") _ _ tt l₂) in
    simp append_assoc l₃

put-array : (a : Array) → All quotable a.name → Line (array_text a) (declaration_tokens (declare_array a))
unfolding array_text declaration_tokens sort_tokens reserved_words bytes same simple_test
put-array a q r us l =
    let l₀ = put-space _ _ (put-sort a.value _ _ (put-close _ _ (put-end-of-line r us l).0)) in
    let l₁ = put-space _ _ (put-sort a.index _ _ l₀) in
    let l₂ = put-space _ _ (put-open _ _ (put-simple (bytes "Array") _ _ tt l₁)) in
    let l₃ = put-space _ _ (put-name a.name q _ _ l₂) in
    let l₄ = put-open _ _ (put-reserved (bytes "declare-const") _ _ tt l₃) in
    simp append_assoc l₄

put_function : (f : Function) → All quotable f.name → Line (function_text f) (declaration_tokens (declare_function f))
unfolding function_text declaration_tokens reserved_words bytes same
put_function f q r us l =
    let l₀ = put-space _ _ (put-sort f.width _ _ (put-end-of-line r us l)) in
    let l₁ = put-open _ _ (put-sorts f.arguments _ _ (put-close _ _ l₀.0)) in
    let l₂ = put-space _ _ (put-name f.name q _ _ (put-space _ _ l₁)) in
    let l₃ = put-open _ _ (put-reserved (bytes "declare-fun") _ _ tt l₂) in
    simp append_assoc l₃

-- each element has it
abbrev AllOk : {A : Type 0} → (A → Type 0) → List A → Type 0
AllOk ok [] = Unit
AllOk ok (x ∷ xs) = ok x × AllOk ok xs

-- lines one after the other
put-lines : {A : Type 0} (text : A → List ℕ) (command : A → Declaration) (ok : A → Type 0) → ((x : A) → ok x → Line (text x) (declaration_tokens (command x)))
    → (xs : List A) → AllOk ok xs → Line (texts text xs) (declarations_tokens (map command xs))
unfolding texts declarations_tokens
put-lines text command ok line [] h r us l = l
put-lines text command ok line (x ∷ xs) h r us l =
    simp append_assoc (line x h.0 _ _ (put-lines text command ok line xs h.1 r us l))

tokens_append : (xs ys : List Declaration) → declarations_tokens (xs ++ ys) ≡ declarations_tokens xs ++ declarations_tokens ys
unfolding declarations_tokens
tokens_append [] ys = refl
tokens_append (x ∷ xs) ys = rw (tokens_append xs ys) (sym (append_assoc (declaration_tokens x) (declarations_tokens xs) (declarations_tokens ys)))

-- ---------------------------------------------------------------- the whole text

logic-simple : (fs : List Function) (rs : List Array) → T (simple_test (logic_of fs rs))
unfolding logic_of simple_test
logic-simple (f ∷ fs) rs = tt
logic-simple [] (a ∷ rs) = tt
logic-simple [] [] = tt

put-logic : (D : Declarations) → Line (logic_text D) (open⁽ ∷ reserved (bytes "set-logic") ∷ symbol (logic_of D.functions D.arrays) ∷ close⁾ ∷ [])
unfolding logic_text reserved_words bytes same simple_test
put-logic D r us l =
    let l₁ = put-simple (logic_of D.functions D.arrays) _ _ (logic-simple D.functions D.arrays) (put-end-of-line r us l) in
    let l₂ = put-open _ _ (put-reserved (bytes "set-logic") _ _ tt (put-space _ _ l₁)) in
    simp append_assoc l₂

put-check-sat : Lex (bytes "(check-sat)\n") (open⁽ ∷ reserved (bytes "check-sat") ∷ close⁾ ∷ [])
unfolding reserved_words bytes same
put-check-sat = put-open _ _ (put-reserved (bytes "check-sat") _ _ tt (put-end-of-line [] [] put-end.0))

module _ (D : Declarations) (quotes : (n : Name) → T (in_list n (declared_names D)) → All quotable n) where
  put-assertions : (ts : Trees) (us : List TermSort) → FitsAll D ts us → Line (assertions_text ts) (assertions_tokens (terms_of ts))
  unfolding assertions_text assertions_tokens term_of reserved_words bytes same
  put-assertions none [] h r us l = l
  put-assertions none (v ∷ vs) h r us l = absurd h
  put-assertions (more t ts) [] h r us l = absurd h
  put-assertions (more t ts) (v ∷ vs) h r us l =
      let l₁ = lex-term D quotes [] (fresh-none D) t v h.0 _ _ (put-end-of-line _ _ (put-assertions ts vs h.1 r us l)) in
      let l₂ = put-open _ _ (put-reserved (bytes "assert") _ _ tt (put-space _ _ l₁)) in
      simp append_assoc l₂

-- what is known of each name is known of each that a list declares
names-known : {A : Type 0} (P : Name → Type 0) (name : A → Name) (xs : List A) → ((n : Name) → T (in_list n (map name xs)) → P n) → AllOk (λ x. P (name x)) xs
names-known P name [] h = tt
names-known P name (x ∷ xs) h = (
  h (name x) (or_l (same (name x) (name x)) (in_list (name x) (map name xs)) (same_refl (name x))),
  names-known P name xs (λ n k. h n (or_r (same n (name x)) (in_list n (map name xs)) k)),
)

-- ---------------------------------------------------------------- what is asked of a reading

abbrev pub wide : ℕ → Bool
wide w = ltb 0 w

-- the declarations, whatever is asserted
pub record SoundDeclarations (D : Declarations) : Type 0 where
  -- every declared name may stand between bars
  pub quotes : (n : Name) → T (in_list n (declared_names D)) → All quotable n
  -- and holds no line break: no byte is below 32
  pub printable : (n : Name) → T (in_list n (declared_names D)) → All (leb 32) n
  -- no name is declared twice, none is built in, none is the theories' or a solver's
  pub apart : Apart D
  pub names : All free (declared_names D)
  -- no width is 0
  pub variables : All (λ (v : Variable). wide v.width) D.variables
  pub arrays : All (λ (a : Array). wide a.index && wide a.value) D.arrays
  pub functions : All (λ (f : Function). every wide f.arguments && wide f.width) D.functions

pub record Sound (r : Reading) : Type 0 where
  pub declarations : SoundDeclarations r.declarations
  -- every assertion is a Bool over what is declared
  pub assertions : FitsAll r.declarations r.assertions (bools r.assertions)

-- ---------------------------------------------------------------- the text holds the script's tokens

module _ (D : Declarations) (ok : SoundDeclarations D) where
  quotes-in-variables : (n : Name) → T (in_list n (variable_names D)) → All quotable n
  quotes-in-variables n h = ok.quotes n (in_left n (variable_names D) (array_names D ++ function_names D) h)

  quotes-in-arrays : (n : Name) → T (in_list n (array_names D)) → All quotable n
  quotes-in-arrays n h = ok.quotes n (in_right n (variable_names D) (array_names D ++ function_names D) (in_left n (array_names D) (function_names D) h))

  quotes-in-functions : (n : Name) → T (in_list n (function_names D)) → All quotable n
  quotes-in-functions n h = ok.quotes n (in_right n (variable_names D) (array_names D ++ function_names D) (in_right n (array_names D) (function_names D) h))

  put-declarations : Line (declarations_text D) (declarations_tokens (commands_of D))
  unfolding declarations_text commands_of
  put-declarations s us l =
      let l₁ = put-lines function_text declare_function (λ (f : Function). All quotable f.name) put_function D.functions
      (names-known (All quotable) (λ (f : Function). f.name) D.functions quotes-in-functions) s us l in
      let l₂ = put-lines array_text declare_array (λ (a : Array). All quotable a.name) put-array D.arrays
      (names-known (All quotable) (λ (a : Array). a.name) D.arrays quotes-in-arrays) _ _ l₁ in
      let l₃ = put-lines variable_text declare_variable (λ (v : Variable). All quotable v.name) put-variable D.variables
      (names-known (All quotable) (λ (v : Variable). v.name) D.variables quotes-in-variables) _ _ l₂ in
      rw (
        tokens_append (map declare_variable D.variables) (map declare_array D.arrays ++ map declare_function D.functions),
        tokens_append (map declare_array D.arrays) (map declare_function D.functions),
      )
      (simp append_assoc l₃)

  pub lex-with : (text : List ℕ) (ts : Terms) → Line text (assertions_tokens ts) → Lex (frame D text) (script_tokens (script_with D ts))
  unfolding script_tokens
  lex-with text ts line = put-logic D _ _ (put-declarations _ _ (line _ _ put-check-sat))

-- ---------------------------------------------------------------- the script declares what the reading has

widths-of-sorts : (ws : List ℕ) → widths (bit_vecs ws) ≡ some ws
widths-of-sorts [] = refl
widths-of-sorts (w ∷ ws) = rw (widths-of-sorts ws)

-- declarations, with those of one kind put before the others of that kind
abbrev with_functions : List Function → Declarations → Declarations
with_functions fs E = record { variables = E.variables; arrays = E.arrays; functions = fs ++ E.functions }

abbrev with_arrays : List Array → Declarations → Declarations
with_arrays rs E = record { variables = E.variables; arrays = rs ++ E.arrays; functions = E.functions }

abbrev with_variables : List Variable → Declarations → Declarations
with_variables vs E = record { variables = vs ++ E.variables; arrays = E.arrays; functions = E.functions }

declares-function : (f : Function) (E : Declarations) → declaring (declare_function f) E ≡ some (add_function f.name f.arguments f.width E)
declares-function f E = rw (widths-of-sorts f.arguments, declaring)

declared-functions : (fs : List Function) (ds : List Declaration) (E : Declarations) → declared ds ≡ some E
    → declared (map declare_function fs ++ ds) ≡ some (with_functions fs E)
declared-functions [] ds E e = e
declared-functions (f ∷ fs) ds E e = rw (declared-functions fs ds E e) (declares-function f (with_functions fs E))

declared-arrays : (rs : List Array) (ds : List Declaration) (E : Declarations) → declared ds ≡ some E → declared (map declare_array rs ++ ds) ≡ some (with_arrays rs E)
declared-arrays [] ds E e = e
declared-arrays (a ∷ rs) ds E e = rw (declared-arrays rs ds E e)

declared-variables : (vs : List Variable) (ds : List Declaration) (E : Declarations) → declared ds ≡ some E
    → declared (map declare_variable vs ++ ds) ≡ some (with_variables vs E)
declared-variables [] ds E e = e
declared-variables (v ∷ vs) ds E e = rw (declared-variables vs ds E e)

pub declared-commands : (D : Declarations) → declared (commands_of D) ≡ some D
unfolding commands_of
declared-commands D =
    let f : declared (map declare_function D.functions) ≡ some (with_functions D.functions nothing_declared) =
    subst (λ (ds : List Declaration). declared ds ≡ some (with_functions D.functions nothing_declared)) (append-nil (map declare_function D.functions))
    (declared-functions D.functions [] nothing_declared refl) in
    let a = declared-arrays D.arrays (map declare_function D.functions) (with_functions D.functions nothing_declared) f in
    declared-variables D.variables (map declare_array D.arrays ++ map declare_function D.functions) _ a
    ∙ λ i. some (record { variables = append-nil D.variables i; arrays = append-nil D.arrays i; functions = append-nil D.functions i })

-- ---------------------------------------------------------------- the script is well sorted

sensible-sorts : (ws : List ℕ) → T (every wide ws) → T (every sensible_sort (bit_vecs ws))
sensible-sorts [] h = tt
sensible-sorts (w ∷ ws) h = and_T (wide w) (every sensible_sort (bit_vecs ws)) (and_0 (wide w) (every wide ws) h) (sensible-sorts ws (and-1 (wide w) (every wide ws) h))

sensible-functions : (fs : List Function) → All (λ (f : Function). every wide f.arguments && wide f.width) fs → All sensible_declaration (map declare_function fs)
sensible-functions [] h = tt
sensible-functions (f ∷ fs) h = (
  and_T (every sensible_sort (bit_vecs f.arguments)) (wide f.width)
      (sensible-sorts f.arguments (and_0 (every wide f.arguments) (wide f.width) h.0))
      (and-1 (every wide f.arguments) (wide f.width) h.0),
  sensible-functions fs h.1,
)

every-bits : (ws : List ℕ) → T (every is_bits (bit_vecs ws))
every-bits [] = tt
every-bits (w ∷ ws) = every-bits ws

admits-function : (f : Function) → T (admits (bytes "QF_AUFBV") (declare_function f))
unfolding bytes same
admits-function f = by-arguments f.arguments
  where
    by-arguments : (ws : List ℕ) → T (admits (bytes "QF_AUFBV") (declare_fun f.name (bit_vecs ws) (bit_vec f.width)))
    by-arguments [] = tt
    by-arguments (w ∷ ws) = rw (T→true (every is_bits (bit_vecs ws)) (every-bits ws)) tt

-- the declarations are admitted, whichever of the three logics is named for them
admitted : (vs : List Variable) (rs : List Array) (fs : List Function) → All (admits (logic_of fs rs)) (map declare_variable vs ++ (map declare_array rs ++ map declare_function fs))
unfolding logic_of bytes same
admitted vs rs (f ∷ fs) =
    all_append (admits (bytes "QF_AUFBV")) (map declare_variable vs) (map declare_array rs ++ map declare_function (f ∷ fs))
    (all_map (admits (bytes "QF_AUFBV")) declare_variable vs (all-always (λ v. admits (bytes "QF_AUFBV") (declare_variable v)) (λ v. tt) vs))
    (all_append (admits (bytes "QF_AUFBV")) (map declare_array rs) (map declare_function (f ∷ fs))
    (all_map (admits (bytes "QF_AUFBV")) declare_array rs (all-always (λ a. admits (bytes "QF_AUFBV") (declare_array a)) (λ a. tt) rs))
    (all_map (admits (bytes "QF_AUFBV")) declare_function (f ∷ fs) (all-always (λ g. admits (bytes "QF_AUFBV") (declare_function g)) admits-function (f ∷ fs))))
admitted vs (a ∷ rs) [] =
    all_append (admits (bytes "QF_ABV")) (map declare_variable vs) (map declare_array (a ∷ rs) ++ [])
    (all_map (admits (bytes "QF_ABV")) declare_variable vs (all-always (λ v. admits (bytes "QF_ABV") (declare_variable v)) (λ v. tt) vs))
    (subst (All (admits (bytes "QF_ABV"))) (sym (append-nil (map declare_array (a ∷ rs)))) (all_map (admits (bytes "QF_ABV")) declare_array (a ∷ rs) (all-always (λ a. admits (bytes "QF_ABV") (declare_array a)) (λ a. tt) (a ∷ rs))))
admitted vs [] [] =
    subst (All (admits (bytes "QF_BV"))) (sym (append-nil (map declare_variable vs))) (all_map (admits (bytes "QF_BV")) declare_variable vs (all-always (λ v. admits (bytes "QF_BV") (declare_variable v)) (λ v. tt) vs))

logic-known : (fs : List Function) (rs : List Array) → T (in_list (logic_of fs rs) logics)
unfolding logic_of logics bytes same
logic-known (f ∷ fs) rs = tt
logic-known [] (a ∷ rs) = tt
logic-known [] [] = tt

module _ (D : Declarations) (ok : SoundDeclarations D) where
  sensible-commands : All sensible_declaration (commands_of D)
  unfolding commands_of
  sensible-commands =
      all_append sensible_declaration (map declare_variable D.variables) (map declare_array D.arrays ++ map declare_function D.functions)
      (all_map sensible_declaration declare_variable D.variables ok.variables)
      (all_append sensible_declaration (map declare_array D.arrays) (map declare_function D.functions)
      (all_map sensible_declaration declare_array D.arrays ok.arrays) (sensible-functions D.functions ok.functions))

  pub sorted-with : (ts : Terms) → AllBool (commands_of D) ts → WellSorted (script_with D ts)
  sorted-with ts h = record {
    logic_known = logic-known D.functions D.arrays;
    admitted = unfold commands_of in admitted D.variables D.arrays D.functions;
    sensible_sorts = sensible-commands;
    declared_once = rw (names-of-commands D) ok.apart.once;
    names_free = rw (names-of-commands D) ok.names;
    assertions_bool = h;
  }

pub means-with : (r : Reading) (ts : Terms) → MeansAll r.declarations ts (as_meanings r.assertions) → ScriptMeans (script_with r.declarations ts) r
means-with r ts h = record { declares = declared-commands r.declarations; asserts = h }

-- ---------------------------------------------------------------- the plain script

module _ (r : Reading) (ok : Sound r) where
  assertions-bool : (ts : Trees) → FitsAll r.declarations ts (bools ts) → AllBool (commands_of r.declarations) (terms_of ts)
  unfolding term_of
  assertions-bool none h = tt
  assertions-bool (more t ts) h =
      (sort-of-term r.declarations ok.declarations.apart [] (fresh-none r.declarations) t bool h.0, assertions-bool ts h.1)

  pub lex-script : Lex (render r) (script_tokens (script_of r))
  unfolding render script_of
  lex-script =
      lex-with r.declarations ok.declarations (assertions_text r.assertions) (terms_of r.assertions)
      (put-assertions r.declarations ok.declarations.quotes r.assertions (bools r.assertions) ok.assertions)

  pub script-well-sorted : WellSorted (script_of r)
  unfolding script_of
  script-well-sorted = sorted-with r.declarations ok.declarations (terms_of r.assertions) (assertions-bool r.assertions ok.assertions)

  -- ---------------------------------------------------------------- the text is read as the reading

  pub script-means : ScriptMeans (script_of r) r
  unfolding script_of
  script-means = means-with r (terms_of r.assertions) (means-terms r.declarations r.assertions (bools r.assertions) ok.assertions)

  pub render-reads : Reads (render r) r
  render-reads = record { tokens = script_tokens (script_of r); script = script_of r; lexed = lex-script; parsed = refl; means = script-means }
