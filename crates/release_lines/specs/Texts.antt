-- What the line of a declaration says is known by its bytes: two lines that begin alike after the name mean the same.
use Rattle.std.specs.Prelude.{ℕ, suc, ◌+◌, ◌<◌, ◌≡◌, refl, true, not, T, leb, eqb, length, drop, get_or}
use Rattle.std.proofs.Math.Path.{ap, sym}
use Rattle.std.proofs.Common.{◌∙◌, subst, arith, eqb→eq}
use mathlib.Core.List.{List, [], ◌∷◌, ◌++◌, map, append_assoc}
use Rattle.std.proofs.Math.Dec.{not_T}
use Rattle.lists.specs.Bytes.{bytes}
use Rattle.lists.specs.Tests.{all-weaken}
use Rattle.reading.specs.Trees.{Declarations}
use Rattle.echo_spec.specs.Render.{sort_text, sorts_text, variable_text, array_text, function_text, texts, declarations_text}
use Rattle.theorems.specs.Lines.{Shown, shown-text}
use Rattle.theorems.specs.ScriptLines.{Ends, ends_more, ends_close, shown-sort, shown-sorts}
use Rattle.readback.specs.ScriptReader.{read_sort, read_sorts}
use Rattle.reader_laws.specs.TermsRead.{Fails}
use Rattle.reader_laws.specs.TermsStrict.{took-both}
use Rattle.reader_laws.specs.ScriptsRead.{read-sort, read-sorts}
use Rattle.releases.specs.Release.{Meaning, a_variable, an_array, a_function, Declared, of_variable, of_array, of_function, all_declared}
use Rattle.release_lines.specs.Lines.{word_text, meaning_text, line_text, ends_line}

-- ---------------------------------------------------------------- the declarations of a script

texts-map : {A B : Type 0} (f : A → B) (g : B → List ℕ) (h : A → List ℕ) → ((x : A) → h x ≡ g (f x)) → (xs : List A) → texts h xs ≡ texts g (map f xs)
unfolding texts
texts-map f g h e [] = refl
texts-map f g h e (x ∷ xs) = λ i. e x i ++ texts-map f g h e xs i

texts-join : {A : Type 0} (f : A → List ℕ) (xs ys : List A) → texts f (xs ++ ys) ≡ texts f xs ++ texts f ys
unfolding texts
texts-join f [] ys = refl
texts-join f (x ∷ xs) ys = ap (λ (l : List ℕ). f x ++ l) (texts-join f xs ys) ∙ sym (append_assoc (f x) (texts f xs) (texts f ys))

pub declarations-lines : (D : Declarations) → declarations_text D ≡ texts line_text (all_declared D)
unfolding declarations_text all_declared
declarations-lines D =
    let vs : List Declared = map of_variable D.variables in
    let rs : List Declared = map of_array D.arrays in
    let fs : List Declared = map of_function D.functions in
    (λ i. texts-map of_variable line_text variable_text (λ v. unfold line_text word_text meaning_text variable_text in refl) D.variables i
    ++ (texts-map of_array line_text array_text (λ a. unfold line_text word_text meaning_text array_text in refl) D.arrays i
    ++ texts-map of_function line_text function_text (λ f. unfold line_text word_text meaning_text function_text in refl) D.functions i))
    ∙ ap (λ (l : List ℕ). texts line_text vs ++ l) (sym (texts-join line_text rs fs)) ∙ sym (texts-join line_text vs (rs ++ fs))

-- ---------------------------------------------------------------- sorts are known by their bytes

-- a sort is read back, so it is known by its bytes, and so is what follows it
sort-known : (w v : ℕ) (q r : List ℕ) → sort_text w ++ q ≡ sort_text v ++ r → (w ≡ v) × (q ≡ r)
sort-known w v q r e = took-both w v q r (sym (read-sort w q) ∙ ap read_sort e ∙ read-sort v r)

sorts-known : (ws vs : List ℕ) (q r : List ℕ) → sorts_text ws ++ (41 ∷ q) ≡ sorts_text vs ++ (41 ∷ r) → (ws ≡ vs) × (q ≡ r)
sorts-known ws vs q r e =
    let f : ℕ = suc (length ws + length vs) in
    took-both ws vs q r (sym (read-sorts ws f q (omega arith)) ∙ ap (read_sorts f true) e ∙ read-sorts vs f r (omega arith))

-- ---------------------------------------------------------------- meanings are known by their bytes

-- the third byte tells the kind
sorts-third : (ws : List ℕ) (r : List ℕ) → get_or (32 ∷ 40 ∷ (sorts_text ws ++ (41 ∷ r))) 2 0 < 42
unfolding sorts_text sort_text bytes
sorts-third [] r = omega arith
sorts-third (w ∷ []) r = omega arith
sorts-third (w ∷ v ∷ ws) r = omega arith

variable-shape : (w : ℕ) (q : List ℕ) → meaning_text (a_variable w) ++ q ≡ 32 ∷ (sort_text w ++ (41 ∷ 10 ∷ q))
unfolding meaning_text bytes
variable-shape w q = ap (λ (l : List ℕ). 32 ∷ l) (append_assoc (sort_text w) (41 ∷ 10 ∷ []) q)

array_shape : (i v : ℕ) (q : List ℕ) → meaning_text (an_array i v) ++ q ≡ 32 ∷ 40 ∷ 65 ∷ 114 ∷ 114 ∷ 97 ∷ 121 ∷ 32 ∷ (sort_text i ++ (32 ∷ (sort_text v ++ (41 ∷ 41 ∷ 10 ∷ q))))
unfolding meaning_text bytes
array_shape i v q =
    ap (λ (l : List ℕ). 32 ∷ 40 ∷ 65 ∷ 114 ∷ 114 ∷ 97 ∷ 121 ∷ 32 ∷ l) (append_assoc (sort_text i) _ q ∙ ap (λ (l : List ℕ). sort_text i ++ (32 ∷ l)) (append_assoc (sort_text v) (41 ∷ 41 ∷ 10 ∷ []) q))

function-shape : (ws : List ℕ) (w : ℕ) (q : List ℕ) → meaning_text (a_function ws w) ++ q ≡ 32 ∷ 40 ∷ (sorts_text ws ++ (41 ∷ 32 ∷ (sort_text w ++ (41 ∷ 10 ∷ q))))
unfolding meaning_text bytes
function-shape ws w q =
    ap (λ (l : List ℕ). 32 ∷ 40 ∷ l) (append_assoc (sorts_text ws) _ q ∙ ap (λ (l : List ℕ). sorts_text ws ++ (41 ∷ 32 ∷ l)) (append_assoc (sort_text w) (41 ∷ 10 ∷ []) q))

sort-third : (w : ℕ) (q : List ℕ) → get_or (32 ∷ (sort_text w ++ q)) 2 0 ≡ 95
unfolding sort_text bytes
sort-third w q = refl

variable-array : (w i v : ℕ) (q r : List ℕ) → meaning_text (a_variable w) ++ q ≡ meaning_text (an_array i v) ++ r → ⊥
variable-array w i v q r e =
    let f = ap (λ (l : List ℕ). get_or l 2 0) (sym (variable-shape w q) ∙ e ∙ array_shape i v r) in
    let g = sort-third w (41 ∷ 10 ∷ q) in
    omega (arith, f, g)

variable-function : (w : ℕ) (ws : List ℕ) (v : ℕ) (q r : List ℕ) → meaning_text (a_variable w) ++ q ≡ meaning_text (a_function ws v) ++ r → ⊥
variable-function w ws v q r e =
    let f = ap (λ (l : List ℕ). get_or l 2 0) (sym (variable-shape w q) ∙ e ∙ function-shape ws v r) in
    let g = sort-third w (41 ∷ 10 ∷ q) in
    let h = sorts-third ws (32 ∷ (sort_text v ++ (41 ∷ 10 ∷ r))) in
    omega (arith, f, g, h)

array-function : (i j : ℕ) (ws : List ℕ) (v : ℕ) (q r : List ℕ) → meaning_text (an_array i j) ++ q ≡ meaning_text (a_function ws v) ++ r → ⊥
array-function i j ws v q r e =
    let f = ap (λ (l : List ℕ). get_or l 2 0) (sym (array_shape i j q) ∙ e ∙ function-shape ws v r) in
    let h = sorts-third ws (32 ∷ (sort_text v ++ (41 ∷ 10 ∷ r))) in
    omega (arith, f, h)

pub meaning-known : (m n : Meaning) (q r : List ℕ) → meaning_text m ++ q ≡ meaning_text n ++ r → m ≡ n
meaning-known (a_variable w) (a_variable v) q r e =
    ap a_variable (sort-known w v (41 ∷ 10 ∷ q) (41 ∷ 10 ∷ r) (ap (drop 1) (sym (variable-shape w q) ∙ e ∙ variable-shape v r))).0
meaning-known (a_variable w) (an_array i v) q r e = absurd (variable-array w i v q r e)
meaning-known (a_variable w) (a_function ws v) q r e = absurd (variable-function w ws v q r e)
meaning-known (an_array i v) (a_variable w) q r e = absurd (variable-array w i v r q (sym e))
meaning-known (an_array i v) (an_array j w) q r e =
    let (a, b) = sort-known i j (32 ∷ (sort_text v ++ (41 ∷ 41 ∷ 10 ∷ q))) (32 ∷ (sort_text w ++ (41 ∷ 41 ∷ 10 ∷ r))) (ap (drop 8) (sym (array_shape i v q) ∙ e ∙ array_shape j w r)) in
    let (c, d) = sort-known v w (41 ∷ 41 ∷ 10 ∷ q) (41 ∷ 41 ∷ 10 ∷ r) (ap (drop 1) b) in
    λ k. an_array (a k) (c k)
meaning-known (an_array i v) (a_function ws w) q r e = absurd (array-function i v ws w q r e)
meaning-known (a_function ws v) (a_variable w) q r e = absurd (variable-function w ws v r q (sym e))
meaning-known (a_function ws w) (an_array i v) q r e = absurd (array-function i v ws w r q (sym e))
meaning-known (a_function ws w) (a_function vs v) q r e =
    let (a, b) = sorts-known ws vs (32 ∷ (sort_text w ++ (41 ∷ 10 ∷ q))) (32 ∷ (sort_text v ++ (41 ∷ 10 ∷ r))) (ap (drop 2) (sym (function-shape ws w q) ∙ e ∙ function-shape vs v r)) in
    let (c, d) = sort-known w v (41 ∷ 10 ∷ q) (41 ∷ 10 ∷ r) (ap (drop 1) b) in
    λ k. a_function (a k) (c k)

-- ---------------------------------------------------------------- one line feed, at the end

-- a line feed is below 32
pub no-feed : (s : List ℕ) → Shown s → Fails ends_line s
no-feed s h = all-weaken (leb 32) (λ c. not (ends_line c)) (λ c l. not_T (eqb c 10) (λ e. subst (λ (x : ℕ). T (leb 32 x)) (eqb→eq c 10 e) l)) s h.bytes

pub meaning-ends : (m : Meaning) → Ends (meaning_text m)
unfolding meaning_text bytes
meaning-ends (a_variable w) = ends_more (bytes " ") _ (shown-text " " tt) (ends_more (sort_text w) _ (shown-sort w) ends_close)
meaning-ends (an_array i v) =
    ends_more (bytes " (Array ") _ (shown-text " (Array " tt)
    (ends_more (sort_text i) _ (shown-sort i)
    (ends_more (bytes " ") _ (shown-text " " tt)
    (ends_more (sort_text v) _ (shown-sort v) (ends_more (bytes ")") _ (shown-text ")" tt) ends_close))))
meaning-ends (a_function ws w) =
    ends_more (bytes " (") _ (shown-text " (" tt)
    (ends_more (sorts_text ws) _ (shown-sorts ws)
    (ends_more (bytes ") ") _ (shown-text ") " tt) (ends_more (sort_text w) _ (shown-sort w) ends_close)))
