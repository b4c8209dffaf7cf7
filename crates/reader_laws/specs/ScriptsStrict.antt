-- The reader of scripts is strict too: what it reads is what the printer writes.
use Rattle.std.specs.Prelude.{ℕ, zero, suc, ◌+◌, ◌≡◌, refl, List, [], ◌∷◌, ◌++◌, map, Bool, true, false, ◌&&◌, T, eqb, length}
use Rattle.std.proofs.Common.{ap, sym, ◌∙◌, subst, append_assoc, append-nil, arith, eqb→eq}
use Rattle.std.proofs.Math.Option.{Option, none, some}
use Rattle.lists.specs.Bytes.{bytes}
use Rattle.lists.specs.Tests.{same, true→T, same→eq}
use Rattle.reading.specs.Trees.{Name, Tree, Trees, none as noTrees, more, Variable, Array, Function, Declarations, Reading}
use Rattle.echo_spec.specs.Render.{decimal, quoted, term, sort_text, sorts_text, variable_text, array_text, function_text, texts, assertions_text, logic_of, logic_text, declarations_text, render}
use Rattle.readback.specs.Reader.{Took, took, and_then, expect, up_to, name_read, read_numeral, read_term}
use Rattle.readback.specs.ScriptReader.{read_sort, read_variable, read_array, separator, read_sorts, read_function, many, term_steps, read_assertion, trees_from, under_logic, read_script}
use Rattle.reader_laws.specs.ScriptsRead.{sorts-after, sorts-text, assertion_text, trees_list, assertions-text}
use Rattle.reader_laws.specs.TermsStrict.{impossible, and-then, took-both, expected, up-to-joins, name-strict, numeral-strict, term-strict}

sort-strict : (b : List ℕ) (w : ℕ) (r : List ℕ) → read_sort b ≡ took w r → b ≡ sort_text w ++ r
unfolding read_sort sort_text
sort-strict b w r e =
    let (v₁, b₁, e₁, g₁) = and-then (expect (bytes "(_ BitVec ") b) _ w r e in
    let (k, b₂, e₂, g₂) = and-then (read_numeral b₁) _ w r g₁ in
    let (v₃, b₃, e₃, g₃) = and-then (expect (bytes ")") b₂) _ w r g₂ in
    let (m, n) = took-both k w b₃ r g₃ in
    let p : b ≡ bytes "(_ BitVec " ++ (decimal k ++ (bytes ")" ++ b₃)) =
    expected (bytes "(_ BitVec ") b v₁ b₁ e₁ ∙ ap (λ (x : List ℕ). bytes "(_ BitVec " ++ x) (numeral-strict b₁ k b₂ e₂ ∙ ap (λ (x : List ℕ). decimal k ++ x) (expected (bytes ")") b₂ v₃ b₃ e₃)) in
    p ∙ (λ i. bytes "(_ BitVec " ++ (decimal (m i) ++ (bytes ")" ++ n i))) ∙ simp append_assoc

variable-shape : (n s w e z : List ℕ) → n ++ (124 ∷ (s ++ (w ++ (e ++ z)))) ≡ ((n ++ (124 ∷ [])) ++ (s ++ (w ++ e))) ++ z
variable-shape n s w e z = simp append_assoc

variable-strict : (b : List ℕ) (v : Variable) (r : List ℕ) → read_variable b ≡ took v r → b ≡ variable_text v ++ r
unfolding read_variable variable_text quoted bytes
variable-strict b v r e =
    let (v₁, b₁, e₁, g₁) = and-then (expect (bytes "(declare-const |") b) _ v r e in
    let (n, b₂, e₂, g₂) = and-then (name_read b₁) _ v r g₁ in
    let (v₃, b₃, e₃, g₃) = and-then (expect (bytes " ") b₂) _ v r g₂ in
    let (w, b₄, e₄, g₄) = and-then (read_sort b₃) _ v r g₃ in
    let (v₅, b₅, e₅, g₅) = and-then (expect (bytes ")\n") b₄) _ v r g₄ in
    let x : Variable = record { name = n; width = w } in
    let (m, k) = took-both x v b₅ r g₅ in
    let p : b ≡ bytes "(declare-const |" ++ (n ++ (124 ∷ (bytes " " ++ (sort_text w ++ (bytes ")\n" ++ b₅))))) =
    expected (bytes "(declare-const |") b v₁ b₁ e₁ ∙ ap (λ (y : List ℕ). bytes "(declare-const |" ++ y) (name-strict b₁ n b₂ e₂ ∙ ap (λ (y : List ℕ). n ++ (124 ∷ y))
    (expected (bytes " ") b₂ v₃ b₃ e₃ ∙ ap (λ (y : List ℕ). bytes " " ++ y) (sort-strict b₃ w b₄ e₄ ∙ ap (λ (y : List ℕ). sort_text w ++ y) (expected (bytes ")\n") b₄ v₅ b₅ e₅)))) in
    let q : bytes "(declare-const |" ++ (n ++ (124 ∷ (bytes " " ++ (sort_text w ++ (bytes ")\n" ++ b₅))))) ≡ variable_text x ++ b₅ =
    ap (λ (y : List ℕ). bytes "(declare-const |" ++ y) (variable-shape n (bytes " ") (sort_text w) (bytes ")\n") b₅) in
    p ∙ q ∙ (λ i. variable_text (m i) ++ k i)

array_shape : (n a i s v e z : List ℕ) → n ++ (124 ∷ (a ++ (i ++ (s ++ (v ++ (e ++ z)))))) ≡ ((n ++ (124 ∷ [])) ++ (a ++ (i ++ (s ++ (v ++ e))))) ++ z
array_shape n a i s v e z = simp append_assoc

function-shape : (n a w s v e z : List ℕ) → n ++ (124 ∷ (a ++ (w ++ (41 ∷ (s ++ (v ++ (e ++ z))))))) ≡ ((n ++ (124 ∷ [])) ++ (a ++ (w ++ (41 ∷ (s ++ (v ++ e)))))) ++ z
function-shape n a w s v e z = simp append_assoc

array-strict : (b : List ℕ) (a : Array) (r : List ℕ) → read_array b ≡ took a r → b ≡ array_text a ++ r
unfolding read_array array_text quoted bytes
array-strict b a r e =
    let (v₁, b₁, e₁, g₁) = and-then (expect (bytes "(declare-const |") b) _ a r e in
    let (n, b₂, e₂, g₂) = and-then (name_read b₁) _ a r g₁ in
    let (v₃, b₃, e₃, g₃) = and-then (expect (bytes " (Array ") b₂) _ a r g₂ in
    let (i, b₄, e₄, g₄) = and-then (read_sort b₃) _ a r g₃ in
    let (v₅, b₅, e₅, g₅) = and-then (expect (bytes " ") b₄) _ a r g₄ in
    let (v, b₆, e₆, g₆) = and-then (read_sort b₅) _ a r g₅ in
    let (v₇, b₇, e₇, g₇) = and-then (expect (bytes "))\n") b₆) _ a r g₆ in
    let x : Array = record { name = n; index = i; value = v } in
    let (m, k) = took-both x a b₇ r g₇ in
    let p : b ≡ bytes "(declare-const |" ++ (n ++ (124 ∷ (bytes " (Array " ++ (sort_text i ++ (bytes " " ++ (sort_text v ++ (bytes "))\n" ++ b₇))))))) =
    expected (bytes "(declare-const |") b v₁ b₁ e₁ ∙ ap (λ (y : List ℕ). bytes "(declare-const |" ++ y) (name-strict b₁ n b₂ e₂ ∙ ap (λ (y : List ℕ). n ++ (124 ∷ y))
    (expected (bytes " (Array ") b₂ v₃ b₃ e₃ ∙ ap (λ (y : List ℕ). bytes " (Array " ++ y) (sort-strict b₃ i b₄ e₄ ∙ ap (λ (y : List ℕ). sort_text i ++ y)
    (expected (bytes " ") b₄ v₅ b₅ e₅ ∙ ap (λ (y : List ℕ). bytes " " ++ y) (sort-strict b₅ v b₆ e₆ ∙ ap (λ (y : List ℕ). sort_text v ++ y) (expected (bytes "))\n") b₆ v₇ b₇ e₇)))))) in
    let q : bytes "(declare-const |" ++ (n ++ (124 ∷ (bytes " (Array " ++ (sort_text i ++ (bytes " " ++ (sort_text v ++ (bytes "))\n" ++ b₇))))))) ≡ array_text x ++ b₇ =
    ap (λ (y : List ℕ). bytes "(declare-const |" ++ y) (array_shape n (bytes " (Array ") (sort_text i) (bytes " ") (sort_text v) (bytes "))\n") b₇) in
    p ∙ q ∙ (λ i. array_text (m i) ++ k i)

-- sorts after a first one, or from the first one on
abbrev sorts_from : Bool → List ℕ → List ℕ
sorts_from true ws = sorts_text ws
sorts_from false ws = sorts-after ws

one-blank : (b v q : List ℕ) → expect (bytes " ") b ≡ took v q → b ≡ 32 ∷ q
unfolding bytes
one-blank b v q e = expected (bytes " ") b v q e

separated : (first : Bool) (b v q : List ℕ) → separator first b ≡ took v q → (w : ℕ) (ws : List ℕ) (r : List ℕ) → q ≡ sort_text w ++ (sorts-after ws ++ (41 ∷ r)) → b ≡ sorts_from first (w ∷ ws) ++ (41 ∷ r)
unfolding separator sorts-after
separated true b v q e w ws r p =
    (took-both {A = List ℕ} [] v b q e).1 ∙ p ∙ sym (append_assoc (sort_text w) (sorts-after ws) (41 ∷ r)) ∙ ap (λ (x : List ℕ). x ++ (41 ∷ r)) (sym (sorts-text w ws))
separated false b v q e w ws r p = one-blank b v q e ∙ ap (λ (x : List ℕ). 32 ∷ x) (p ∙ sym (append_assoc (sort_text w) (sorts-after ws) (41 ∷ r)))

none-sorts : (first : Bool) (r : List ℕ) → 41 ∷ r ≡ sorts_from first [] ++ (41 ∷ r)
unfolding sorts_text sorts-after
none-sorts true r = refl
none-sorts false r = refl

sorts-strict : (f : ℕ) (first : Bool) (b ws r : List ℕ) → read_sorts f first b ≡ took ws r → b ≡ sorts_from first ws ++ (41 ∷ r)
unfolding read_sorts
sorts-strict zero first b ws r e = absurd (impossible e)
sorts-strict (suc f) first [] ws r e = absurd (impossible e)
sorts-strict (suc f) first (c ∷ b) ws r e = by-close (eqb c 41) refl e (λ b ws r e. sorts-strict f false b ws r e)
  where
    by-close : (t : Bool) → eqb c 41 ≡ t → read_sorts (suc f) first (c ∷ b) ≡ took ws r → ((b ws r : List ℕ) → read_sorts f false b ≡ took ws r → b ≡ sorts-after ws ++ (41 ∷ r)) → c ∷ b ≡ sorts_from first ws ++ (41 ∷ r)
    by-close true q e ih =
        let (m, n) = took-both [] ws b r (rw (q, read_sorts) at e) in
        (λ i. eqb→eq c 41 (true→T q) i ∷ n i) ∙ none-sorts first r ∙ ap (λ (x : List ℕ). sorts_from first x ++ (41 ∷ r)) m
    by-close false q e ih =
        let (v₁, b₁, e₁, g₁) = and-then (separator first (c ∷ b)) _ ws r (rw (q, read_sorts) at e) in
        let (w, b₂, e₂, g₂) = and-then (read_sort b₁) _ ws r g₁ in
        let (us, b₃, e₃, g₃) = and-then (read_sorts f false b₂) _ ws r g₂ in
        let (m, n) = took-both (w ∷ us) ws b₃ r g₃ in
        separated first (c ∷ b) v₁ b₁ e₁ w us b₃ (sort-strict b₁ w b₂ e₂ ∙ ap (λ (x : List ℕ). sort_text w ++ x) (ih b₂ us b₃ e₃)) ∙ (λ i. sorts_from first (m i) ++ (41 ∷ n i))

function-strict : (b : List ℕ) (g : Function) (r : List ℕ) → read_function b ≡ took g r → b ≡ function_text g ++ r
unfolding read_function function_text quoted bytes
function-strict b g r e =
    let (v₁, b₁, e₁, g₁) = and-then (expect (bytes "(declare-fun |") b) _ g r e in
    let (n, b₂, e₂, g₂) = and-then (name_read b₁) _ g r g₁ in
    let (v₃, b₃, e₃, g₃) = and-then (expect (bytes " (") b₂) _ g r g₂ in
    let (ws, b₄, e₄, g₄) = and-then (read_sorts (suc (length b₃)) true b₃) _ g r g₃ in
    let (v₅, b₅, e₅, g₅) = and-then (expect (bytes " ") b₄) _ g r g₄ in
    let (w, b₆, e₆, g₆) = and-then (read_sort b₅) _ g r g₅ in
    let (v₇, b₇, e₇, g₇) = and-then (expect (bytes ")\n") b₆) _ g r g₆ in
    let x : Function = record { name = n; arguments = ws; width = w } in
    let (m, k) = took-both x g b₇ r g₇ in
    let p : b ≡ bytes "(declare-fun |" ++ (n ++ (124 ∷ (bytes " (" ++ (sorts_text ws ++ (41 ∷ (bytes " " ++ (sort_text w ++ (bytes ")\n" ++ b₇)))))))) =
    expected (bytes "(declare-fun |") b v₁ b₁ e₁ ∙ ap (λ (y : List ℕ). bytes "(declare-fun |" ++ y) (name-strict b₁ n b₂ e₂ ∙ ap (λ (y : List ℕ). n ++ (124 ∷ y))
    (expected (bytes " (") b₂ v₃ b₃ e₃ ∙ ap (λ (y : List ℕ). bytes " (" ++ y) (sorts-strict (suc (length b₃)) true b₃ ws b₄ e₄ ∙ ap (λ (y : List ℕ). sorts_text ws ++ (41 ∷ y))
    (expected (bytes " ") b₄ v₅ b₅ e₅ ∙ ap (λ (y : List ℕ). bytes " " ++ y) (sort-strict b₅ w b₆ e₆ ∙ ap (λ (y : List ℕ). sort_text w ++ y) (expected (bytes ")\n") b₆ v₇ b₇ e₇)))))) in
    let q : bytes "(declare-fun |" ++ (n ++ (124 ∷ (bytes " (" ++ (sorts_text ws ++ (41 ∷ (bytes " " ++ (sort_text w ++ (bytes ")\n" ++ b₇)))))))) ≡ function_text x ++ b₇ =
    ap (λ (y : List ℕ). bytes "(declare-fun |" ++ y) (function-shape n (bytes " (") (sorts_text ws) (bytes " ") (sort_text w) (bytes ")\n") b₇) in
    p ∙ q ∙ (λ i. function_text (m i) ++ k i)

-- ---------------------------------------------------------------- tables and assertions

many-strict : {A : Type 0} (p : List ℕ → Option (Took A)) (text : A → List ℕ) → ((b : List ℕ) (x : A) (r : List ℕ) → p b ≡ took x r → b ≡ text x ++ r)
    → (f : ℕ) (b : List ℕ) (xs : List A) (r : List ℕ) → many p f b ≡ took xs r → b ≡ texts text xs ++ r
unfolding many texts
many-strict p text h zero b xs r e = absurd (impossible e)
many-strict {A} p text h (suc f) b xs r e = by_one (p b) refl e (λ b xs r e. many-strict p text h f b xs r e)
  where
    by_one : (o : Option (Took A)) → p b ≡ o → elim o as (λ _. Option (Took (List A))) [ none ↦ took [] b | some t ↦ and_then (many p f t.rest) (λ xs r. took (t.value ∷ xs) r) ] ≡ took xs r
        → ((b : List ℕ) (xs : List A) (r : List ℕ) → many p f b ≡ took xs r → b ≡ texts text xs ++ r) → b ≡ texts text xs ++ r
    by_one none q e ih =
        let (m, n) = took-both {A = List A} [] xs b r e in
        n ∙ ap (λ (x : List A). texts text x ++ r) m
    by_one (some t) q e ih =
        let (ys, z, g, j) = and-then (many p f t.rest) _ xs r e in
        let (m, n) = took-both (t.value ∷ ys) xs z r j in
        h b t.value t.rest q ∙ ap (λ (x : List ℕ). text t.value ++ x) (ih t.rest ys z g) ∙ sym (append_assoc (text t.value) (texts text ys) z) ∙ (λ i. texts text (m i) ++ n i)

assertion-strict : (D : Declarations) (b : List ℕ) (t : Tree) (r : List ℕ) → read_assertion D b ≡ took t r → b ≡ assertion_text t ++ r
unfolding read_assertion assertion_text bytes
assertion-strict D b t r e =
    let (v₁, b₁, e₁, g₁) = and-then (expect (bytes "(assert ") b) _ t r e in
    let (u, b₂, e₂, g₂) = and-then (read_term (term_steps b₁) D b₁) _ t r g₁ in
    let (v₃, b₃, e₃, g₃) = and-then (expect (bytes ")\n") b₂) _ t r g₂ in
    let (m, n) = took-both u t b₃ r g₃ in
    let p : b ≡ bytes "(assert " ++ (term u ++ (41 ∷ 10 ∷ b₃)) =
    expected (bytes "(assert ") b v₁ b₁ e₁ ∙ ap (λ (y : List ℕ). bytes "(assert " ++ y) (term-strict D (term_steps b₁) b₁ u b₂ e₂ ∙ ap (λ (y : List ℕ). term u ++ y) (expected (bytes ")\n") b₂ v₃ b₃ e₃)) in
    p ∙ ap (λ (y : List ℕ). bytes "(assert " ++ y) (sym (append_assoc (term u) (41 ∷ 10 ∷ []) b₃)) ∙ (λ i. assertion_text (m i) ++ n i)

list_back : (ts : List Tree) → trees_list (trees_from ts) ≡ ts
unfolding trees_list trees_from
list_back [] = refl
list_back (t ∷ ts) = ap (λ (x : List Tree). t ∷ x) (list_back ts)

logic-is : (w l : List ℕ) (x : Bool) → same w l ≡ x → (s : Reading) (z : List ℕ) (r : Reading) (q : List ℕ) → under_logic x s z ≡ took r q → (w ≡ l) × (s ≡ r) × (z ≡ q)
unfolding under_logic
logic-is w l true e s z r q g = let (m, n) = took-both s r z q g in (same→eq w l (true→T e), m, n)
logic-is w l false e s z r q g = absurd (impossible g)

script-shape : (s l e v a f t c z : List ℕ) → s ++ (l ++ (e ++ (v ++ (a ++ (f ++ (t ++ (c ++ z))))))) ≡ ((s ++ (l ++ e)) ++ ((v ++ (a ++ f)) ++ (t ++ c))) ++ z
script-shape s l e v a f t c z = simp append_assoc

-- What is read of bytes as a script is the printer's text of it, and the bytes after it.
pub script-strict : (b : List ℕ) (r : Reading) (z : List ℕ) → read_script b ≡ took r z → b ≡ render r ++ z
unfolding read_script render logic_text declarations_text
script-strict b r z e =
    let (v₁, b₁, e₁, g₁) = and-then (expect (bytes "(set-logic ") b) _ r z e in
    let (v₂, b₂, e₂, g₂) = and-then (expect (bytes ")\n") (up_to (λ c. eqb c 41) b₁).rest) _ r z g₁ in
    let (vs, b₃, e₃, g₃) = and-then (many read_variable (suc (length b)) b₂) _ r z g₂ in
    let (rs, b₄, e₄, g₄) = and-then (many read_array (suc (length b)) b₃) _ r z g₃ in
    let (fs, b₅, e₅, g₅) = and-then (many read_function (suc (length b)) b₄) _ r z g₄ in
    let D : Declarations = record { variables = vs; arrays = rs; functions = fs } in
    let (ts, b₆, e₆, g₆) = and-then (many (read_assertion D) (suc (length b)) b₅) _ r z g₅ in
    let (v₇, b₇, e₇, g₇) = and-then (expect (bytes "(check-sat)\n") b₆) _ r z g₆ in
    let w : List ℕ = (up_to (λ c. eqb c 41) b₁).value in
    let s : Reading = record { declarations = D; assertions = trees_from ts } in
    let (l, m, n) = logic-is w (logic_of fs rs) (same w (logic_of fs rs)) refl s b₇ r z g₇ in
    let p₆ : b₅ ≡ texts assertion_text ts ++ (bytes "(check-sat)\n" ++ b₇) = many-strict (read_assertion D) assertion_text (assertion-strict D) (suc (length b)) b₅ ts b₆ e₆ ∙ ap (λ (y : List ℕ). texts assertion_text ts ++ y) (expected (bytes "(check-sat)\n") b₆ v₇ b₇ e₇) in
    let p₅ = many-strict read_function function_text function-strict (suc (length b)) b₄ fs b₅ e₅ ∙ ap (λ (y : List ℕ). texts function_text fs ++ y) p₆ in
    let p₄ = many-strict read_array array_text array-strict (suc (length b)) b₃ rs b₄ e₄ ∙ ap (λ (y : List ℕ). texts array_text rs ++ y) p₅ in
    let p₃ = many-strict read_variable variable_text variable-strict (suc (length b)) b₂ vs b₃ e₃ ∙ ap (λ (y : List ℕ). texts variable_text vs ++ y) p₄ in
    let p₂ = expected (bytes ")\n") (up_to (λ c. eqb c 41) b₁).rest v₂ b₂ e₂ ∙ ap (λ (y : List ℕ). bytes ")\n" ++ y) p₃ in
    let p₁ : b₁ ≡ logic_of fs rs ++ _ = sym (up-to-joins (λ c. eqb c 41) b₁) ∙ (λ i. l i ++ p₂ i) in
    let a : texts assertion_text ts ≡ assertions_text (trees_from ts) = ap (texts assertion_text) (sym (list_back ts)) ∙ sym (assertions-text (trees_from ts)) in
    let c = bytes "(check-sat)\n" in
    expected (bytes "(set-logic ") b v₁ b₁ e₁ ∙ ap (λ (y : List ℕ). bytes "(set-logic " ++ y) p₁
    ∙ script-shape (bytes "(set-logic ") (logic_of fs rs) (bytes ")\n") (texts variable_text vs) (texts array_text rs) (texts function_text fs) (texts assertion_text ts) c b₇
    ∙ ap (λ (y : List ℕ). ((bytes "(set-logic " ++ (logic_of fs rs ++ bytes ")\n")) ++ ((texts variable_text vs ++ (texts array_text rs ++ texts function_text fs)) ++ (y ++ c))) ++ b₇) a
    ∙ (λ i. render (m i) ++ n i)
