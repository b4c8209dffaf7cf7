-- More steps read the same: what the reader of terms reads in some steps it reads in any larger number of them.
use Prim.Native.Nat.{ℕ, zero, suc}
use Rattle.std.specs.Prelude.{◌≡◌, refl, Bool, true, false, eqb}
use mathlib.Core.List.{List, [], ◌∷◌}
use Rattle.std.proofs.Math.Option.{Option, none, some}
use Rattle.lists.specs.Bytes.{bytes}
use Rattle.lists.specs.Tests.{same}
use Rattle.reading.specs.Trees.{Tree, Declarations}
use Rattle.readback.specs.Reader.{Took, took, and_then, expect, up_to, name_read, read_numeral, read_numerals, word_end, read_term, read_open, read_terms, read_stored}
use Rattle.reader_laws.specs.TermsStrict.{impossible}
use Rattle.sort_reader.specs.Selects.{raised}

-- what the first reads the second reads too
record Kept {A : Type 0} (o p : Option (Took A)) : Type 0 where
  again : (x : Took A) → o ≡ some x → p ≡ some x

kept_refl : {A : Type 0} (o : Option (Took A)) → Kept o o
kept_refl o = record { again = λ x e. e }

kept-none : {A : Type 0} (p : Option (Took A)) → Kept none p
kept-none p = record { again = λ x e. absurd (impossible e) }

kept_then : {A B : Type 0} (o p : Option (Took A)) (f g : A → List ℕ → Option (Took B)) → Kept o p → ((x : A) (r : List ℕ) → Kept (f x r) (g x r))
    → Kept (and_then o f) (and_then p g)
unfolding and_then
kept_then none p f g h k = kept-none (and_then p g)
kept_then (some t) p f g h k = rw (h.again t refl) (k t.value t.rest)

-- after a reader that is the same in both
kept-after : {A B : Type 0} (o : Option (Took A)) (f g : A → List ℕ → Option (Took B)) → ((x : A) (r : List ℕ) → Kept (f x r) (g x r)) → Kept (and_then o f) (and_then o g)
kept-after o f g k = kept_then o o f g (kept_refl o) k

kept_if : {A : Type 0} (t : Bool) (x y u v : Option (Took A)) → Kept x u → Kept y v
    → Kept {A = A} (elim t as (λ _. Option (Took A)) [ true ↦ x | false ↦ y ]) (elim t as (λ _. Option (Took A)) [ true ↦ u | false ↦ v ])
kept_if true x y u v h k = h
kept_if false x y u v h k = k

numerals-kept : (f : ℕ) (b : List ℕ) → Kept (read_numerals f b) (read_numerals (suc f) b)
unfolding read_numerals
numerals-kept zero b = kept-none _
numerals-kept (suc f) [] = kept-none _
numerals-kept (suc f) (c ∷ b) =
    kept_if (eqb c 41) _ _ _ _ (kept_refl _)
    (kept_if (eqb c 32) _ _ _ _ (kept-after (read_numeral b) _ _ (λ k r. kept_then (read_numerals f r) (read_numerals (suc f) r) _ _ (numerals-kept f r) (λ ks q. kept_refl _))) (kept-none _))

module _ (D : Declarations) where
  abbrev TermKept : ℕ → Type 0
  TermKept f = (b : List ℕ) → Kept (read_term f D b) (read_term (suc f) D b)

  abbrev OpenKept : ℕ → Type 0
  OpenKept f = (b : List ℕ) → Kept (read_open f D b) (read_open (suc f) D b)

  abbrev TermsKept : ℕ → Type 0
  TermsKept f = (b : List ℕ) → Kept (read_terms f D b) (read_terms (suc f) D b)

  abbrev StoredKept : ℕ → Type 0
  StoredKept f = (b : List ℕ) → Kept (read_stored f D b) (read_stored (suc f) D b)

  term-step : (f : ℕ) → OpenKept f → TermKept (suc f)
  unfolding read_term
  term-step f h [] = kept-none _
  term-step f h (c ∷ b) = kept_if (eqb c 35) _ _ _ _ (kept_refl _) (kept_if (eqb c 124) _ _ _ _ (kept_refl _) (kept_if (eqb c 40) _ _ _ _ (h b) (kept-none _)))

  open_step : (f : ℕ) → TermKept f → TermsKept f → StoredKept f → OpenKept (suc f)
  unfolding read_term
  open_step f term terms stored [] = kept-none _
  open_step f term terms stored (c ∷ b) =
      kept_if (eqb c 40) _ _ _ _
      (kept-after (expect (bytes "_ ") b) _ _ (λ _ q.
      kept_then (read_numerals f (up_to word_end q).rest) (read_numerals (suc f) (up_to word_end q).rest) _ _ (numerals-kept f (up_to word_end q).rest) (λ ks r.
      kept_then (read_terms f D r) (read_terms (suc f) D r) _ _ (terms r) (λ ts z. kept_refl _))))
      (kept_if (eqb c 124) _ _ _ _
      (kept-after (name_read b) _ _ (λ n r. kept_then (read_terms f D r) (read_terms (suc f) D r) _ _ (terms r) (λ ts z. kept_refl _)))
      (kept_if (same (up_to word_end (c ∷ b)).value (bytes "select")) _ _ _ _
      (kept-after (expect (bytes " ") (up_to word_end (c ∷ b)).rest) _ _ (λ _ q.
      kept_then (read_stored f D q) (read_stored (suc f) D q) _ _ (stored q) (λ a r.
      kept-after (expect (bytes " ") r) _ _ (λ _ x.
      kept_then (read_term f D x) (read_term (suc f) D x) _ _ (term x) (λ j y.
      kept-after (expect (bytes ")") y) _ _ (λ _ z. kept_refl _))))))
      (kept_then (read_terms f D (up_to word_end (c ∷ b)).rest) (read_terms (suc f) D (up_to word_end (c ∷ b)).rest) _ _ (terms (up_to word_end (c ∷ b)).rest) (λ ts z. kept_refl _))))

  terms-step : (f : ℕ) → TermKept f → TermsKept f → TermsKept (suc f)
  unfolding read_term
  terms-step f term terms [] = kept-none _
  terms-step f term terms (c ∷ b) =
      kept_if (eqb c 41) _ _ _ _ (kept_refl _)
      (kept_if (eqb c 32) _ _ _ _
      (kept_then (read_term f D b) (read_term (suc f) D b) _ _ (term b) (λ t r. kept_then (read_terms f D r) (read_terms (suc f) D r) _ _ (terms r) (λ ts q. kept_refl _))) (kept-none _))

  stored-step : (f : ℕ) → TermKept f → StoredKept f → StoredKept (suc f)
  unfolding read_term
  stored-step f term stored [] = kept-none _
  stored-step f term stored (c ∷ b) =
      kept_if (eqb c 124) _ _ _ _ (kept_refl _)
      (kept_if (eqb c 40) _ _ _ _
      (kept-after (expect (bytes "store ") b) _ _ (λ _ q.
      kept_then (read_stored f D q) (read_stored (suc f) D q) _ _ (stored q) (λ a r.
      kept-after (expect (bytes " ") r) _ _ (λ _ x.
      kept_then (read_term f D x) (read_term (suc f) D x) _ _ (term x) (λ i y.
      kept-after (expect (bytes " ") y) _ _ (λ _ z.
      kept_then (read_term f D z) (read_term (suc f) D z) _ _ (term z) (λ v p.
      kept-after (expect (bytes ")") p) _ _ (λ _ e. kept_refl _))))))))
      (kept-none _))

  all-kept : (f : ℕ) → TermKept f × OpenKept f × TermsKept f × StoredKept f
  unfolding read_term
  all-kept zero = ((λ b. kept-none _), (λ b. kept-none _), (λ b. kept-none _), (λ b. kept-none _))
  all-kept (suc f) =
      let (a, b, c, d) = all-kept f in
      (term-step f b, open_step f a c d, terms-step f a c, stored-step f a d)

  one_more : (f : ℕ) (b : List ℕ) (t : Tree) (r : List ℕ) → read_term f D b ≡ took t r → read_term (suc f) D b ≡ took t r
  one_more f b t r e = ((all-kept f).0 b).again (record { value = t; rest = r }) e

  -- k steps more
  pub more-steps : (k f : ℕ) (b : List ℕ) (t : Tree) (r : List ℕ) → read_term f D b ≡ took t r → read_term (raised k f) D b ≡ took t r
  more-steps zero f b t r e = e
  more-steps (suc k) f b t r e = one_more (raised k f) b t r (more-steps k f b t r e)
