-- The text of a printable reading is read back as the reading, whatever follows.
use Prim.Native.Nat.{ℕ, zero, suc, ◌+◌, ◌≤◌, ◌<◌}
use Rattle.std.specs.Prelude.{◌≡◌, refl, Bool, false, ◌&&◌, not, T}
use Rattle.std.proofs.Math.Path.{ap}
use Rattle.std.proofs.Common.{sym, ◌∙◌, subst}
use mathlib.Core.List.{List, [], ◌∷◌, ◌++◌, map, append_assoc, append-nil}
use Rattle.std.proofs.Math.Bool.{true}
use Rattle.std.proofs.Math.Option.{Option, none, some}
use native.Mathlib.Omega.{arith}
use Rattle.std.proofs.Math.Dec.{eqb}
use Rattle.std.proofs.Math.ListN.{length, length-append}
use Rattle.lists.specs.Bytes.{bytes}
use Rattle.lists.specs.Tests.{same, and_0, and-1, T→true, same_refl, by-test}
use Rattle.reading.specs.Trees.{Name, Tree, Trees, none as noTrees, more, Variable, Array, Function, Declarations, Reading}
use Rattle.echo_spec.specs.Render.{decimal, quoted, term, sort_text, sorts_text, variable_text, array_text, function_text, texts, assertions_text, logic_of, logic_text, declarations_text, render}
use Rattle.echo_spec.specs.TreeSorts.{TreeSort, bool, has_sort, sort_under, tree_sort, all_bool}
use Rattle.echo_spec.specs.TreeSortLaws.{has-eq}
use Rattle.readback.specs.Reader.{Took, took, and_then, expect, up_to, name_read, read_numeral, read_term, word_end}
use Rattle.readback.specs.ScriptReader.{read_sort, read_variable, read_array, separator, read_sorts, read_function, many, term_steps, read_assertion, trees_from, under_logic, read_script}
use Rattle.reader_laws.specs.TermsRead.{Fails, up-to, NoBar, read_name, read-numeral, Barred, read-term}

-- ---------------------------------------------------------------- lines

pub read-sort : (w : ℕ) (r : List ℕ) → read_sort (sort_text w ++ r) ≡ took w r
unfolding read_sort sort_text bytes expect and_then
read-sort w r =
    let e : (decimal w ++ (41 ∷ [])) ++ r ≡ decimal w ++ (41 ∷ r) = append_assoc (decimal w) (41 ∷ []) r in
    rw (e, read-numeral w (41 ∷ r) tt)

read-variable : (v : Variable) → NoBar v.name → (r : List ℕ) → read_variable (variable_text v ++ r) ≡ took v r
unfolding read_variable variable_text quoted bytes expect and_then
read-variable v b r =
    let S : List ℕ = sort_text v.width in
    let e : ((v.name ++ (124 ∷ [])) ++ (32 ∷ (S ++ (41 ∷ 10 ∷ [])))) ++ r ≡ v.name ++ (124 ∷ (32 ∷ (S ++ (41 ∷ 10 ∷ r)))) =
    append_assoc (v.name ++ (124 ∷ [])) _ r ∙ append_assoc v.name (124 ∷ []) _ ∙ ap (λ (x : List ℕ). v.name ++ (124 ∷ (32 ∷ x))) (append_assoc S (41 ∷ 10 ∷ []) r) in
    rw (e, read_name v.name b (32 ∷ (S ++ (41 ∷ 10 ∷ r))), read-sort v.width (41 ∷ 10 ∷ r))

array-line : (a : Array) (r : List ℕ) → List ℕ
array-line a r = 124 ∷ (32 ∷ 40 ∷ 65 ∷ 114 ∷ 114 ∷ 97 ∷ 121 ∷ 32 ∷ (sort_text a.index ++ (32 ∷ (sort_text a.value ++ (41 ∷ 41 ∷ 10 ∷ r)))))

array-text : (a : Array) (r : List ℕ) → ((a.name ++ (124 ∷ [])) ++ (32 ∷ 40 ∷ 65 ∷ 114 ∷ 114 ∷ 97 ∷ 121 ∷ 32 ∷ (sort_text a.index ++ (32 ∷ (sort_text a.value ++ (41 ∷ 41 ∷ 10 ∷ [])))))) ++ r ≡ a.name ++ array-line a r
unfolding array-line
array-text a r =
    let I : List ℕ = sort_text a.index in
    let vt : List ℕ = sort_text a.value in
    append_assoc (a.name ++ (124 ∷ [])) _ r ∙ append_assoc a.name (124 ∷ []) _
    ∙ ap (λ (x : List ℕ). a.name ++ (124 ∷ (32 ∷ 40 ∷ 65 ∷ 114 ∷ 114 ∷ 97 ∷ 121 ∷ 32 ∷ x))) (append_assoc I _ r ∙ ap (λ (x : List ℕ). I ++ (32 ∷ x)) (append_assoc vt (41 ∷ 41 ∷ 10 ∷ []) r))

read-array : (a : Array) → NoBar a.name → (r : List ℕ) → read_array (array_text a ++ r) ≡ took a r
unfolding read_array array_text quoted bytes expect and_then array-line
read-array a b r =
    let vt : List ℕ = sort_text a.value ++ (41 ∷ 41 ∷ 10 ∷ r) in
    let tail : List ℕ = 32 ∷ 40 ∷ 65 ∷ 114 ∷ 114 ∷ 97 ∷ 121 ∷ 32 ∷ (sort_text a.index ++ (32 ∷ vt)) in
    rw (array-text a r, read_name a.name b tail, read-sort a.index (32 ∷ vt), read-sort a.value (41 ∷ 41 ∷ 10 ∷ r))

-- an array is no variable
array-no-variable : (a : Array) → NoBar a.name → (r : List ℕ) → read_variable (array_text a ++ r) ≡ none
unfolding read_variable array_text quoted bytes expect and_then read_sort array-line
array-no-variable a b r =
    let vt : List ℕ = sort_text a.value ++ (41 ∷ 41 ∷ 10 ∷ r) in
    let tail : List ℕ = 32 ∷ 40 ∷ 65 ∷ 114 ∷ 114 ∷ 97 ∷ 121 ∷ 32 ∷ (sort_text a.index ++ (32 ∷ vt)) in
    rw (array-text a r, read_name a.name b tail)

-- sorts after a first one, up to the bracket
unfoldable pub sorts-after : List ℕ → List ℕ
sorts-after [] = []
sorts-after (w ∷ ws) = 32 ∷ (sort_text w ++ sorts-after ws)

pub sorts-text : (w : ℕ) (ws : List ℕ) → sorts_text (w ∷ ws) ≡ sort_text w ++ sorts-after ws
unfolding sorts_text sorts-after bytes
sorts-text w [] = sym (append-nil (sort_text w))
sorts-text w (v ∷ ws) = ap (λ (x : List ℕ). sort_text w ++ (32 ∷ x)) (sorts-text v ws)

sort-first : (w : ℕ) (r : List ℕ) → (x : List ℕ) × (sort_text w ++ r ≡ 40 ∷ x)
unfolding sort_text bytes
sort-first w r = (_, refl)

read-after : (ws : List ℕ) (f : ℕ) (r : List ℕ) → length ws < f → read_sorts f false (sorts-after ws ++ (41 ∷ r)) ≡ took ws r
unfolding read_sorts sorts-after separator expect bytes and_then
read-after ws zero r l = absurd (omega arith)
read-after [] (suc f) r l = refl
read-after (w ∷ ws) (suc f) r l =
    let e : (sort_text w ++ sorts-after ws) ++ (41 ∷ r) ≡ sort_text w ++ (sorts-after ws ++ (41 ∷ r)) = append_assoc (sort_text w) (sorts-after ws) (41 ∷ r) in
    rw (e, read-sort w (sorts-after ws ++ (41 ∷ r)), read-after ws f r (omega arith))

pub read-sorts : (ws : List ℕ) (f : ℕ) (r : List ℕ) → length ws < f → read_sorts f true (sorts_text ws ++ (41 ∷ r)) ≡ took ws r
unfolding read_sorts separator and_then sorts_text
read-sorts ws zero r l = absurd (omega arith)
read-sorts [] (suc f) r l = refl
read-sorts (w ∷ ws) (suc f) r l =
    let tail : List ℕ = sorts-after ws ++ (41 ∷ r) in
    let e : sorts_text (w ∷ ws) ++ (41 ∷ r) ≡ sort_text w ++ tail = ap (λ (x : List ℕ). x ++ (41 ∷ r)) (sorts-text w ws) ∙ append_assoc (sort_text w) (sorts-after ws) (41 ∷ r) in
    let (x, q) = sort-first w tail in
    let s : read_sort (40 ∷ x) ≡ took w tail = ap read_sort (sym q) ∙ read-sort w tail in
    rw (e ∙ q, s, read-after ws f r (omega arith))

sorts-counted : (ws : List ℕ) → length ws ≤ length (sorts_text ws)
unfolding sorts_text sort_text bytes
sorts-counted [] = omega arith
sorts-counted (w ∷ []) = omega arith
sorts-counted (w ∷ v ∷ ws) =
    let a = sorts-counted (v ∷ ws) in
    let b = length-append (sort_text w) (32 ∷ sorts_text (v ∷ ws)) in
    omega arith

read-function : (f : Function) → NoBar f.name → (r : List ℕ) → read_function (function_text f ++ r) ≡ took f r
unfolding read_function function_text quoted bytes expect and_then
read-function f b r =
    let A : List ℕ = sorts_text f.arguments in
    let W : List ℕ = sort_text f.width in
    let x : List ℕ = A ++ (41 ∷ (32 ∷ (W ++ (41 ∷ 10 ∷ r)))) in
    let e : ((f.name ++ (124 ∷ [])) ++ (32 ∷ 40 ∷ (A ++ (41 ∷ 32 ∷ (W ++ (41 ∷ 10 ∷ [])))))) ++ r ≡ f.name ++ (124 ∷ (32 ∷ 40 ∷ x)) =
    append_assoc (f.name ++ (124 ∷ [])) _ r ∙ append_assoc f.name (124 ∷ []) _
    ∙ ap (λ (y : List ℕ). f.name ++ (124 ∷ (32 ∷ 40 ∷ y))) (append_assoc A _ r ∙ ap (λ (y : List ℕ). A ++ (41 ∷ 32 ∷ y)) (append_assoc W (41 ∷ 10 ∷ []) r)) in
    let a = sorts-counted f.arguments in
    let c = length-append A (41 ∷ (32 ∷ (W ++ (41 ∷ 10 ∷ r)))) in
    rw (e, read_name f.name b (32 ∷ 40 ∷ x), read-sorts f.arguments (suc (length x)) (32 ∷ (W ++ (41 ∷ 10 ∷ r))) (omega arith), read-sort f.width (41 ∷ 10 ∷ r))

-- ---------------------------------------------------------------- tables

abbrev pub AllOk : {A : Type 0} → (A → Type 0) → List A → Type 0
AllOk ok [] = Unit
AllOk ok (x ∷ xs) = ok x × AllOk ok xs

read-many : {A : Type 0} (p : List ℕ → Option (Took A)) (text : A → List ℕ) (ok : A → Type 0) → ((x : A) → ok x → (r : List ℕ) → p (text x ++ r) ≡ took x r)
    → (xs : List A) → AllOk ok xs → (f : ℕ) (r : List ℕ) → length xs < f → p r ≡ none → many p f (texts text xs ++ r) ≡ took xs r
unfolding many texts and_then
read-many p text ok h [] k zero r l e = absurd (omega arith)
read-many p text ok h [] k (suc f) r l e = rw (e, many)
read-many p text ok h (x ∷ xs) (k, ks) zero r l e = absurd (omega arith)
read-many {A} p text ok h (x ∷ xs) (k, ks) (suc f) r l e =
    let q : (text x ++ texts text xs) ++ r ≡ text x ++ (texts text xs ++ r) = append_assoc (text x) (texts text xs) r in
    let a = h x k (texts text xs ++ r) in
    let b = read-many p text ok h xs ks f r (omega arith) e in
    ap (many p (suc f)) q ∙ ap (λ (o : Option (Took A)). step f o (text x ++ (texts text xs ++ r))) a ∙ ap (λ (o : Option (Took (List A))). and_then o (λ ys z. took (x ∷ ys) z)) b
  where
    step : ℕ → Option (Took A) → List ℕ → Option (Took (List A))
    step f o y = elim o [ none ↦ took [] y | some t ↦ and_then (many p f t.rest) (λ xs r. took (t.value ∷ xs) r) ]

texts-counted : {A : Type 0} (text : A → List ℕ) → ((x : A) → 1 ≤ length (text x)) → (xs : List A) → length xs ≤ length (texts text xs)
unfolding texts
texts-counted text h [] = omega arith
texts-counted text h (x ∷ xs) =
    let a = h x in
    let b = texts-counted text h xs in
    let c = length-append (text x) (texts text xs) in
    omega arith

-- ---------------------------------------------------------------- what a table's reader stops at

unfoldable pub assertion_text : Tree → List ℕ
assertion_text t = 40 ∷ 97 ∷ 115 ∷ 115 ∷ 101 ∷ 114 ∷ 116 ∷ 32 ∷ (term t ++ (41 ∷ 10 ∷ []))

unfoldable pub trees_list : Trees → List Tree
trees_list noTrees = []
trees_list (more t ts) = t ∷ trees_list ts

pub assertions-text : (ts : Trees) → assertions_text ts ≡ texts assertion_text (trees_list ts)
unfolding assertions_text texts assertion_text trees_list bytes
assertions-text noTrees = refl
assertions-text (more t ts) =
    ap (λ (x : List ℕ). 40 ∷ 97 ∷ 115 ∷ 115 ∷ 101 ∷ 114 ∷ 116 ∷ 32 ∷ (term t ++ (41 ∷ 10 ∷ x))) (assertions-text ts)
    ∙ ap (λ (x : List ℕ). 40 ∷ 97 ∷ 115 ∷ 115 ∷ 101 ∷ 114 ∷ 116 ∷ 32 ∷ x) (sym (append_assoc (term t) (41 ∷ 10 ∷ []) (texts assertion_text (trees_list ts))))

trees-back : (ts : Trees) → trees_from (trees_list ts) ≡ ts
unfolding trees_from trees_list
trees-back noTrees = refl
trees-back (more t ts) = ap (more t) (trees-back ts)

unfoldable pub end_text : List ℕ → List ℕ
end_text z = bytes "(check-sat)\n" ++ z

assertions-stop : (ts : List Tree) (z : List ℕ)
    → (read_variable (texts assertion_text ts ++ end_text z) ≡ none) × (read_array (texts assertion_text ts ++ end_text z) ≡ none) × (read_function (texts assertion_text ts ++ end_text z) ≡ none)
unfolding texts assertion_text end_text bytes read_variable read_array read_function expect and_then
assertions-stop [] z = (refl, refl, refl)
assertions-stop (t ∷ ts) z = (refl, refl, refl)

end-stops : (D : Declarations) (z : List ℕ) → read_assertion D (end_text z) ≡ none
unfolding end_text bytes read_assertion expect and_then
end-stops D z = refl

functions-stop : (fs : List Function) (y : List ℕ) → read_variable y ≡ none → read_array y ≡ none
    → (read_variable (texts function_text fs ++ y) ≡ none) × (read_array (texts function_text fs ++ y) ≡ none)
unfolding texts function_text bytes read_variable read_array expect and_then
functions-stop [] y p q = (p, q)
functions-stop (f ∷ fs) y p q = (refl, refl)

arrays-stop : (rs : List Array) → AllOk (λ (a : Array). NoBar a.name) rs → (y : List ℕ) → read_variable y ≡ none → read_variable (texts array_text rs ++ y) ≡ none
unfolding texts
arrays-stop [] h y p = p
arrays-stop (a ∷ rs) (h, k) y p = ap read_variable (append_assoc (array_text a) (texts array_text rs) y) ∙ array-no-variable a h (texts array_text rs ++ y)

-- ---------------------------------------------------------------- assertions

read-assertion : (D : Declarations) → Barred D → (t : Tree) → tree_sort D t ≡ some bool → (r : List ℕ) → read_assertion D (assertion_text t ++ r) ≡ took t r
unfolding read_assertion assertion_text bytes expect and_then
read-assertion D b t h r =
    let e : (term t ++ (41 ∷ 10 ∷ [])) ++ r ≡ term t ++ (41 ∷ 10 ∷ r) = append_assoc (term t) (41 ∷ 10 ∷ []) r in
    let l = length-append (term t) (41 ∷ 10 ∷ r) in
    rw (e, read-term D b t bool (term_steps (term t ++ (41 ∷ 10 ∷ r))) (41 ∷ 10 ∷ r) h (omega arith) tt)

all-bools : (D : Declarations) (ts : Trees) → T (all_bool D ts) → AllOk (λ t. tree_sort D t ≡ some bool) (trees_list ts)
unfolding sort_under trees_list
all-bools D noTrees h = tt
all-bools D (more t ts) h = (has-eq (tree_sort D t) bool (and_0 (has_sort (tree_sort D t) bool) _ h), all-bools D ts (and-1 (has_sort (tree_sort D t) bool) _ h))

-- ---------------------------------------------------------------- logic

logic-word : (fs : List Function) (rs : List Array) → Fails (λ c. eqb c 41) (logic_of fs rs)
unfolding logic_of bytes
logic-word (f ∷ fs) rs = by-test (λ c. not (eqb c 41)) (bytes "QF_AUFBV") tt
logic-word [] (a ∷ rs) = by-test (λ c. not (eqb c 41)) (bytes "QF_ABV") tt
logic-word [] [] = by-test (λ c. not (eqb c 41)) (bytes "QF_BV") tt

-- ---------------------------------------------------------------- the whole script

-- every name may stand between bars
pub record NamesBarred (D : Declarations) : Type 0 where
  pub variables : AllOk (λ (v : Variable). NoBar v.name) D.variables
  pub arrays : AllOk (λ (a : Array). NoBar a.name) D.arrays
  pub functions : AllOk (λ (f : Function). NoBar f.name) D.functions

module _ (r : Reading) (z : List ℕ) where
  abbrev A-text : List ℕ
  A-text = texts assertion_text (trees_list r.assertions) ++ end_text z

  abbrev F-text : List ℕ
  F-text = texts function_text r.declarations.functions ++ A-text

  abbrev R-text : List ℕ
  R-text = texts array_text r.declarations.arrays ++ F-text

  abbrev V-text : List ℕ
  V-text = texts variable_text r.declarations.variables ++ R-text

  abbrev L-text : List ℕ
  L-text = logic_of r.declarations.functions r.declarations.arrays ++ (41 ∷ 10 ∷ V-text)

  render-text : render r ++ z ≡ bytes "(set-logic " ++ L-text
  unfolding render logic_text declarations_text bytes end_text
  render-text =
      let L : List ℕ = logic_of r.declarations.functions r.declarations.arrays in
      let v : List ℕ = texts variable_text r.declarations.variables in
      let a : List ℕ = texts array_text r.declarations.arrays in
      let f : List ℕ = texts function_text r.declarations.functions in
      let t : List ℕ = assertions_text r.assertions in
      let e : List ℕ = bytes "(check-sat)\n" in
      let p₁ : ((L ++ (41 ∷ 10 ∷ [])) ++ ((v ++ (a ++ f)) ++ (t ++ e))) ++ z ≡ L ++ (41 ∷ 10 ∷ (v ++ (a ++ (f ++ (t ++ (e ++ z)))))) = simp append_assoc in
      ap (λ (x : List ℕ). bytes "(set-logic " ++ x) (p₁ ∙ ap (λ (x : List ℕ). L ++ (41 ∷ 10 ∷ (v ++ (a ++ (f ++ (x ++ (e ++ z))))))) (assertions-text r.assertions))

  variable-line : (v : Variable) → 1 ≤ length (variable_text v)
  unfolding variable_text bytes
  variable-line v = omega arith

  array-lines : (a : Array) → 1 ≤ length (array_text a)
  unfolding array_text bytes
  array-lines a = omega arith

  function-line : (f : Function) → 1 ≤ length (function_text f)
  unfolding function_text bytes
  function-line f = omega arith

  assertion-line : (t : Tree) → 1 ≤ length (assertion_text t)
  unfolding assertion_text
  assertion-line t = omega arith

  pub read-script : Barred r.declarations → NamesBarred r.declarations → T (all_bool r.declarations r.assertions)
      → read_script (render r ++ z) ≡ took r z
  unfolding read_script expect and_then bytes under_logic end_text
  read-script b nb h =
      let D : Declarations = r.declarations in
      let ts : List Tree = trees_list r.assertions in
      let L : List ℕ = logic_of D.functions D.arrays in
      let size : ℕ = length (bytes "(set-logic " ++ L-text) in
      let (s₁, s₂, s₃) = assertions-stop ts z in
      let (s₄, s₅) = functions-stop D.functions A-text s₁ s₂ in
      let s₆ = arrays-stop D.arrays nb.arrays F-text s₄ in
      let cv = texts-counted variable_text variable-line D.variables in
      let cr = texts-counted array_text array-lines D.arrays in
      let cf = texts-counted function_text function-line D.functions in
      let ct = texts-counted assertion_text assertion-line ts in
      let l₁ = length-append (texts assertion_text ts) (end_text z) in
      let l₂ = length-append (texts function_text D.functions) A-text in
      let l₃ = length-append (texts array_text D.arrays) F-text in
      let l₄ = length-append (texts variable_text D.variables) R-text in
      let l₅ = length-append L (41 ∷ 10 ∷ V-text) in
      let u = up-to (λ c. eqb c 41) L (41 ∷ 10 ∷ V-text) (logic-word D.functions D.arrays) tt in
      let mv = read-many read_variable variable_text (λ (v : Variable). NoBar v.name) read-variable D.variables nb.variables (suc size) R-text (omega arith) s₆ in
      let mr = read-many read_array array_text (λ (a : Array). NoBar a.name) read-array D.arrays nb.arrays (suc size) F-text (omega arith) s₅ in
      let mf = read-many read_function function_text (λ (f : Function). NoBar f.name) read-function D.functions nb.functions (suc size) A-text (omega arith) s₃ in
      let mt = read-many (read_assertion D) assertion_text (λ t. tree_sort D t ≡ some bool) (read-assertion D b) ts (all-bools D r.assertions h) (suc size) (end_text z) (omega arith) (end-stops D z) in
      let lo : same L L ≡ true = T→true (same L L) (same_refl L) in
      ap read_script render-text ∙ rw (u, mv, mr, mf, mt, lo) (ap (λ (ts : Trees). took (record { declarations = D; assertions = ts }) z) (trees-back r.assertions))
