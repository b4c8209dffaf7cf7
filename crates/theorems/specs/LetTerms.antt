-- Terms under `let`: the term that nested bindings are printed as, what is asked of them, and that their text holds the term's
-- tokens, has its sort, and means the tree with the bindings unfolded.
use Rattle.std.specs.Prelude.{◌≡◌, T}
use Rattle.std.proofs.Math.Path.{refl, subst}
use Rattle.std.proofs.Common.{ap, sym}
use mathlib.Core.List.{List, [], ◌∷◌, append_assoc}
use Rattle.std.proofs.Math.Option.{Option, none as nothing, some}
use Rattle.lists.specs.Bytes.{bytes}
use Rattle.lists.specs.Tests.{same, in_list, All, or_elim, same→eq}
use Rattle.reading.specs.Trees.{Name, Tree, Trees, none, more, Declarations}
use Rattle.smtlib.specs.Lexicon.{quotable, close⁾, reserved_words}
use Rattle.smtlib.specs.Grammar.{Term, binding, term_tokens, Terms, none as no_terms, more as moreTerms, assertions_tokens}
use Rattle.smtlib.specs.LexText.{put-open, put-close, put-space, put-reserved, put-let}
use Rattle.smtlib.specs.Scopes.{Scope, bind, bound_names}
use Rattle.smtlib.specs.Readings.{built_in, declared_names, Apart, a_tree, as_meanings, MeansIn, MeansAll}
use Rattle.smtlib.specs.Sorts.{TermSort, bool, sort_in, AllBool}
use Rattle.echo_spec.specs.Render.{term}
use Rattle.lets.specs.Lets.{Binding, Assertion, let_text, let_assertions_text}
use Rattle.theorems.specs.Terms.{term_of, FitsIn, Fresh, fresh-none}
use Rattle.theorems.specs.Unfolding.{unfolded, meanings}
use Rattle.theorems.specs.Meanings.{means-term-in}
use Rattle.theorems.specs.Texts.{Holds, put-name, lex-term}
use Rattle.theorems.specs.Sorting.{commands_of, sort-of-term}
use Rattle.theorems.specs.Scripts.{Line, put-end-of-line}

-- ---------------------------------------------------------------- definitions

unfoldable pub let_term_of : List Binding → Tree → Term
let_term_of [] body = term_of body
let_term_of (b ∷ bs) body = binding b.name (term_of b.tree) (let_term_of bs body)

-- one term an assertion
unfoldable pub let_terms_of : List Assertion → Terms
let_terms_of [] = no_terms
let_terms_of (a ∷ xs) = moreTerms (let_term_of a.bindings a.body) (let_terms_of xs)

-- the tree, with every name as the tree that it is bound to
unfoldable pub unfolded_let : Scope Tree → List Binding → Tree → Tree
unfolded_let e [] body = unfolded e body
unfolded_let e (b ∷ bs) body = unfolded_let (bind b.name (unfolded e b.tree) e) bs body

unfoldable pub unfolded_assertions : List Assertion → Trees
unfolded_assertions [] = none
unfolded_assertions (a ∷ xs) = more (unfolded_let [] a.bindings a.body) (unfolded_assertions xs)

-- a name that may be bound
pub record FreshName (D : Declarations) (n : Name) : Type 0 where
  pub undeclared : T (in_list n (declared_names D)) → ⊥
  pub foreign : T (in_list n built_in) → ⊥
  pub quotes : All quotable n

-- each bound term fits under the bindings before it, and the body under all
abbrev pub FitsLet : Declarations → Scope TermSort → List Binding → Tree → TermSort → Type 0
FitsLet D E [] body s = FitsIn D E body s
FitsLet D E (b ∷ bs) body s = (u : TermSort) × FreshName D b.name × FitsIn D E b.tree u × FitsLet D (bind b.name u E) bs body s

-- every assertion is a Bool
abbrev pub FitsAssertions : Declarations → List Assertion → Type 0
FitsAssertions D [] = Unit
FitsAssertions D (a ∷ xs) = FitsLet D [] a.bindings a.body bool × FitsAssertions D xs

pub fresh-more : (D : Declarations) (n : Name) (ns : List Name) → FreshName D n → Fresh D ns → Fresh D (n ∷ ns)
fresh-more D n ns f fresh = record {
  undeclared = λ m h k.
      or_elim (same m n) (in_list m ns) h (λ e. f.undeclared (subst (λ (x : Name). T (in_list x (declared_names D))) (same→eq m n e) k)) (λ q. fresh.undeclared m q k);
  foreign = λ m h k.
      or_elim (same m n) (in_list m ns) h (λ e. f.foreign (subst (λ (x : Name). T (in_list x built_in)) (same→eq m n e) k)) (λ q. fresh.foreign m q k);
  quotes = λ m h. or_elim (same m n) (in_list m ns) h (λ e. subst (All quotable) (sym (same→eq m n e)) f.quotes) (λ q. fresh.quotes m q);
}

-- ---------------------------------------------------------------- tokens

module _ (D : Declarations) (quotes : (n : Name) → T (in_list n (declared_names D)) → All quotable n) where
  lex-binding : (b : Binding) (bs : List Binding) (body : Tree) → All quotable b.name → Holds (term b.tree) (term_tokens (term_of b.tree))
      → Holds (let_text bs (term body)) (term_tokens (let_term_of bs body)) → Holds (let_text (b ∷ bs) (term body)) (term_tokens (let_term_of (b ∷ bs) body))
  unfolding let_text let_term_of term_tokens bytes
  lex-binding b bs body q lt lb r us k =
      let l₁ = put-space _ _ (lb (41 ∷ r) (close⁾ ∷ us) (put-close r us k.0)) in
      let l₂ = put-close _ _ (put-close _ _ l₁.0).0 in
      let l₃ = put-space _ _ (lt _ _ l₂) in
      let l₄ = put-open _ _ (put-open _ _ (put-name b.name q _ _ l₃)) in
      let l₅ = put-open _ _ (put-let _ _ (put-space _ _ l₄)) in
      simp append_assoc l₅

  pub lex-let : (bs : List Binding) (body : Tree) (s : TermSort) (E : Scope TermSort) → Fresh D (bound_names E) → FitsLet D E bs body s
      → Holds (let_text bs (term body)) (term_tokens (let_term_of bs body))
  unfolding let_text let_term_of
  lex-let [] body s E fresh h r us k = lex-term D quotes E fresh body s h r us k
  lex-let (b ∷ bs) body s E fresh (u, f, t, h) r us k =
      lex-binding b bs body f.quotes (λ r us k. lex-term D quotes E fresh b.tree u t r us k)
      (lex-let bs body s (bind b.name u E) (fresh-more D b.name (bound_names E) f fresh) h) r us k

  pub put-let-assertions : (xs : List Assertion) → FitsAssertions D xs → Line (let_assertions_text xs) (assertions_tokens (let_terms_of xs))
  unfolding let_assertions_text let_terms_of assertions_tokens reserved_words bytes same
  put-let-assertions [] h r us l = l
  put-let-assertions (a ∷ xs) h r us l =
      let l₁ = lex-let a.bindings a.body bool [] (fresh-none D) h.0 _ _ (put-end-of-line _ _ (put-let-assertions xs h.1 r us l)) in
      let l₂ = put-open _ _ (put-reserved (bytes "assert") _ _ tt (put-space _ _ l₁)) in
      simp append_assoc l₂

-- ---------------------------------------------------------------- sorts

module _ (D : Declarations) (apart : Apart D) where
  pub sort-of-let : (bs : List Binding) (body : Tree) (s : TermSort) (E : Scope TermSort) → Fresh D (bound_names E) → FitsLet D E bs body s
      → sort_in (commands_of D) E (let_term_of bs body) ≡ some s
  unfolding let_term_of sort_in
  sort-of-let [] body s E fresh h = sort-of-term D apart E fresh body s h
  sort-of-let (b ∷ bs) body s E fresh (u, f, t, h) =
      subst (λ (o : Option TermSort). elim o [ nothing ↦ nothing | some v ↦ sort_in (commands_of D) (bind b.name v E) (let_term_of bs body) ] ≡ some s)
      (sym (sort-of-term D apart E fresh b.tree u t))
      (sort-of-let bs body s (bind b.name u E) (fresh-more D b.name (bound_names E) f fresh) h)

  pub let-assertions-bool : (xs : List Assertion) → FitsAssertions D xs → AllBool (commands_of D) (let_terms_of xs)
  unfolding let_terms_of
  let-assertions-bool [] h = tt
  let-assertions-bool (a ∷ xs) h = (sort-of-let a.bindings a.body bool [] (fresh-none D) h.0, let-assertions-bool xs h.1)

-- ---------------------------------------------------------------- meanings

module _ (D : Declarations) where
  pub means-let : (bs : List Binding) (body : Tree) (s : TermSort) (E : Scope TermSort) (trees : Scope Tree) → bound_names E ≡ bound_names trees
      → Fresh D (bound_names E) → FitsLet D E bs body s → MeansIn D (meanings trees) (let_term_of bs body) (a_tree (unfolded_let trees bs body))
  unfolding let_term_of unfolded_let MeansIn
  means-let [] body s E trees e fresh h = means-term-in D E trees e fresh body s h
  means-let (b ∷ bs) body s E trees e fresh (u, f, t, h) = (
    a_tree (unfolded trees b.tree),
    means-term-in D E trees e fresh b.tree u t,
    means-let bs body s (bind b.name u E) (bind b.name (unfolded trees b.tree) trees) (ap (λ (ns : List Name). b.name ∷ ns) e)
        (fresh-more D b.name (bound_names E) f fresh) h,
  )

  pub let-assertions-mean : (xs : List Assertion) → FitsAssertions D xs → MeansAll D (let_terms_of xs) (as_meanings (unfolded_assertions xs))
  unfolding let_terms_of unfolded_assertions MeansIn
  let-assertions-mean [] h = tt
  let-assertions-mean (a ∷ xs) h = (means-let a.bindings a.body bool [] [] refl (fresh-none D) h.0, let-assertions-mean xs h.1)
