-- Assertions one after the other: the next one and those after it, or the last line.
use Rattle.std.specs.Prelude.{ℕ, suc, ◌≤◌, ◌<◌, Bool, true, false, eqb, length}
use Rattle.std.proofs.Math.Path.{◌≡◌, refl, ap}
use Rattle.std.proofs.Common.{sym, ◌∙◌, arith}
use mathlib.Core.List.{List, [], ◌∷◌}
use Rattle.std.proofs.Math.Option.{Option, none, some}
use Rattle.std.proofs.Math.ListN.{drop}
use Rattle.lists.specs.Bytes.{bytes}
use Rattle.lists.specs.Tests.{and_0, and-1}
use Rattle.reading.specs.Trees.{Tree, Declarations}
use Rattle.echo_spec.specs.TreeSorts.{bool, has_sort, sort_under, tree_sort, all_bool}
use Rattle.echo_spec.specs.TreeSortLaws.{has-eq}
use Rattle.readback.specs.Reader.{Took, took, and_then, expect, read_term}
use Rattle.readback.specs.ScriptReader.{many, term_steps, read_assertion, trees_from}
use Rattle.reader_laws.specs.TermsStrict.{impossible, and-then, took-both}
use Rattle.header_laws.specs.Body.{last_line, AssertionsAt}

-- ---------------------------------------------------------------- one assertion

-- what is read of a word is nothing, and the bytes after it
pub word_read : (w b v r : List ℕ) → expect w b ≡ took v r → expect w b ≡ took [] r
unfolding expect
word_read [] b v r e = ap (λ (x : List ℕ). took [] x) (took-both {A = List ℕ} [] v b r e).1
word_read (c ∷ w) [] v r e = absurd (impossible e)
word_read (c ∷ w) (x ∷ b) v r e = by_first (eqb c x) refl e (λ q. word_read w b v r q)
  where
    by_first : (t : Bool) → eqb c x ≡ t → elim t as (λ _. Option (Took (List ℕ))) [ true ↦ expect w b | false ↦ none ] ≡ took v r → (expect w b ≡ took v r → expect w b ≡ took [] r)
        → expect (c ∷ w) (x ∷ b) ≡ took [] r
    by_first true q e rest = rw (q, expect) (rest e)
    by_first false q e rest = absurd (impossible e)

-- an assertion of the tree t: after its word q, after its term r, after its line z
pub record Assertion (D : Declarations) (b : List ℕ) (t : Tree) (z : List ℕ) : Type 0 where
  pub inside : List ℕ
  pub after : List ℕ
  pub opens : expect (bytes "(assert ") b ≡ took [] inside
  pub term : read_term (term_steps inside) D inside ≡ took t after
  pub closes : expect (bytes ")\n") after ≡ took [] z

pub assertion-read : (D : Declarations) (b : List ℕ) (t : Tree) (z : List ℕ) → read_assertion D b ≡ took t z → Assertion D b t z
unfolding read_assertion
assertion-read D b t z e =
    let (v₁, q, e₁, g₁) = and-then (expect (bytes "(assert ") b) _ t z e in
    let (u, r, e₂, g₂) = and-then (read_term (term_steps q) D q) _ t z g₁ in
    let (v₃, y, e₃, g₃) = and-then (expect (bytes ")\n") r) _ t z g₂ in
    let (m, n) = took-both u t y z g₃ in record {
      inside = q;
      after = r;
      opens = word_read (bytes "(assert ") b v₁ q e₁;
      term = e₂ ∙ ap (λ (x : Tree). took x r) m;
      closes = word_read (bytes ")\n") r v₃ y e₃ ∙ ap (λ (x : List ℕ). took [] x) n;
    }

pub read-assertion : (D : Declarations) (b : List ℕ) (t : Tree) (z : List ℕ) → Assertion D b t z → read_assertion D b ≡ took t z
unfolding read_assertion and_then
read-assertion D b t z x = rw (x.opens, x.term, x.closes)

-- ---------------------------------------------------------------- the next

pub record NextAssertion (s : List ℕ) (D : Declarations) (a : ℕ) (t : Tree) (ts : List Tree) : Type 0 where
  pub rest : List ℕ
  pub one : Assertion D (drop a s) t rest
  pub sort : tree_sort D t ≡ some bool
  pub later : (e : ℕ) → e ≤ length s → rest ≡ drop e s → AssertionsAt s D e ts

module _ (s : List ℕ) (D : Declarations) (a : ℕ) where
  -- the last line, where there is no assertion more
  pub assertion-last : AssertionsAt s D a [] → drop a s ≡ last_line
  unfolding many
  assertion-last x = by-line (read_assertion D (drop a s)) refl (x.read (suc (length s)) (omega arith))
    where
      by-line : (o : Option (Took Tree)) → read_assertion D (drop a s) ≡ o
          → elim o as (λ _. Option (Took (List Tree))) [ none ↦ took [] (drop a s) | some t ↦ and_then (many (read_assertion D) (length s) t.rest) (λ xs r. took (t.value ∷ xs) r) ] ≡ took {A = List Tree} [] last_line
          → drop a s ≡ last_line
      by-line none q e = (took-both {A = List Tree} [] [] (drop a s) last_line e).1
      by-line (some t) q e =
          let (ys, z, g, j) = and-then (many (read_assertion D) (length s) t.rest) _ ([]) last_line e in
          let (m, n) = took-both (t.value ∷ ys) [] z last_line j in
          absurd (let z : ◌≡◌ {A = ℕ} 0 1 = cc in omega arith)

  module _ (t : Tree) (ts : List Tree) (x : AssertionsAt s D a (t ∷ ts)) where
    -- the first assertion, and the others
    step : (f : ℕ) → length s < f → (z : List ℕ) × (read_assertion D (drop a s) ≡ took t z) × (many (read_assertion D) f z ≡ took ts last_line)
    unfolding many
    step f l = by-line (read_assertion D (drop a s)) refl (x.read (suc f) (omega arith))
      where
        by-line : (o : Option (Took Tree)) → read_assertion D (drop a s) ≡ o
            → elim o as (λ _. Option (Took (List Tree))) [ none ↦ took [] (drop a s) | some u ↦ and_then (many (read_assertion D) f u.rest) (λ xs r. took (u.value ∷ xs) r) ] ≡ took (t ∷ ts) last_line
            → (z : List ℕ) × (read_assertion D (drop a s) ≡ took t z) × (many (read_assertion D) f z ≡ took ts last_line)
        by-line none q e = absurd (let (m, n) = took-both {A = List Tree} [] (t ∷ ts) (drop a s) last_line e in let z : ◌≡◌ {A = ℕ} 0 1 = cc in omega arith)
        by-line (some u) q e =
            let (ys, z, g, j) = and-then (many (read_assertion D) f u.rest) _ (t ∷ ts) last_line e in
            let (m, n) = took-both (u.value ∷ ys) (t ∷ ts) z last_line j in
            let m₁ : u.value ≡ t = cc in
            let m₂ : ys ≡ ts = cc in
            (u.rest, q ∙ ap (λ (y : Tree). took y u.rest) m₁, g ∙ (λ i. took (m₂ i) (n i)))

    pub assertion-next : NextAssertion s D a t ts
    unfolding sort_under trees_from
    assertion-next =
        let (z, e, g) = step (suc (length s)) (omega arith) in record {
          rest = z;
          one = assertion-read D (drop a s) t z e;
          sort = has-eq (tree_sort D t) bool (and_0 (has_sort (tree_sort D t) bool) (all_bool D (trees_from ts)) x.bools);
          later = λ p l q. record {
            place = l;
            read = λ f m. (let (y, h, k) = step f m in ap (many (read_assertion D) f) (sym q ∙ (took-both t t z y (sym e ∙ h)).1) ∙ k);
            bools = and-1 (has_sort (tree_sort D t) bool) (all_bool D (trees_from ts)) x.bools;
          };
        }
