-- Which kinds a shape has.
use Rattle.std.specs.Prelude.{ℕ, ◌≤◌, ◌<◌, ◌≡◌, refl, List, [], ◌∷◌, Bool, true, false, ◌||◌, not, T, leb, eqb}
use Rattle.std.proofs.Common.{zero-le, sym, ◌∙◌, subst, arith, eqb→eq, leb→le}
use Rattle.std.proofs.Math.Dec.{nleb→lt}
use Rattle.std.proofs.Math.ListN.{get_or-eq_default}
use Rattle.lists.specs.Tests.{true→T, among, every_from, every-at, or-not}
use Rattle.echo_spec.specs.Shapes.{Shape, unknown, shapes, shape_of}

-- x is none of the keys, as the last arm of a match is told; the keys are those of the arms, the last first
abbrev pub NoneIn : List ℕ → ℕ → Type 0
NoneIn [] x = Unit {0}
NoneIn (k ∷ ks) x = NoneIn ks x × (x ≡ k → ⊥)

none_in : (ks : List ℕ) (x : ℕ) → T (among ks x) → NoneIn ks x → ⊥
none_in [] x h t = h
none_in (k ∷ ks) x h t = by_first (eqb x k) refl h (λ q. none_in ks x q t.0)
  where
    by_first : (b : Bool) → eqb x k ≡ b → T (b || among ks x) → (T (among ks x) → ⊥) → ⊥
    by_first true e h rest = t.1 (eqb→eq x k (true→T e))
    by_first false e h rest = rest h

-- do the keys have every kind whose shape passes the test
abbrev pub complete : (Shape → Bool) → List ℕ → Bool
complete test ks = every_from (λ k. not (test (shape_of k)) || among ks k) 0 39

module _ (test : Shape → Bool) (none : test unknown ≡ false) where
  kinds-of : (ks : List ℕ) → T (complete test ks) → (kind : ℕ) → test (shape_of kind) ≡ true → T (among ks kind)
  unfolding shapes
  kinds-of ks h kind e = by_size (leb 39 kind) refl
    where
      by_size : (b : Bool) → leb 39 kind ≡ b → T (among ks kind)
      by_size true q =
          let far : 39 ≤ kind = leb→le 39 kind (true→T q) in
          let z : test (shape_of kind) ≡ false = rw (get_or-eq_default shapes unknown far) none in
          let no : ◌≡◌ {A = Bool} true false = sym e ∙ z in
          cc
      by_size false q =
          let near : kind < 39 = nleb→lt 39 kind (subst (λ (x : Bool). T (not x)) (sym q) tt) in
          let t = every-at (λ k. not (test (shape_of k)) || among ks k) 0 39 h kind zero-le (omega arith) in
          or-not (not (test (shape_of kind))) (among ks kind) t (rw e tt)

  -- behind the arms for all kinds of a shape but one, that one is left
  pub last_of : (k : ℕ) (ks : List ℕ) → T (complete test (k ∷ ks)) → (kind : ℕ) → test (shape_of kind) ≡ true → NoneIn ks kind → kind ≡ k
  last_of k ks h kind e t = by_key (eqb kind k) refl (kinds-of (k ∷ ks) h kind e)
    where
      by_key : (b : Bool) → eqb kind k ≡ b → T (b || among ks kind) → kind ≡ k
      by_key true q m = eqb→eq kind k (true→T q)
      by_key false q m = absurd (none_in ks kind m t)
