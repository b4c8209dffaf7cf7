-- What lies ahead in a term whose head was read: its operands, each after a blank, the brackets of the stores among them, and its own
-- bracket. Operators, calls and selects alike.
use Prim.Native.Nat.{ℕ, zero, suc, ◌+◌}
use Rattle.std.specs.Prelude.{◌≡◌, Bool, true, false, eqb}
use Rattle.std.proofs.Math.Path.{refl, ap, sym, subst}
use Rattle.std.proofs.Common.{◌∙◌, eqb→eq}
use mathlib.Core.List.{List, [], ◌∷◌, ◌++◌}
use Rattle.std.proofs.Math.Option.{Option, none}
use native.Mathlib.Omega.{arith}
use Rattle.lists.specs.Bytes.{bytes}
use Rattle.lists.specs.Tests.{same, true→T}
use Rattle.reading.specs.Trees.{Name, Tree, apply, select, call, Trees, none as noTrees, more, Stores, base, store, Declarations}
use Rattle.readback.specs.Reader.{Took, took, and_then, expect, up_to, name_read, called, Stored, read_term, read_terms, read_stored}
use Rattle.reader_laws.specs.TermsRead.{expect-word}
use Rattle.reader_laws.specs.TermsStrict.{impossible, and-then, took-both, expected}
use Rattle.sort_reader.specs.Selects.{opened}
use Rattle.place_laws.specs.Steps.{more-steps}

-- The operands of stores in the order of the script, and then others: the innermost store first, its index before its value.
unfoldable pub stored_then : Stores → Trees → Trees
stored_then base ts = ts
stored_then (store i v ss) ts = stored_then ss (more i (more v ts))

-- how many stores there are
abbrev pub stores_in : Stores → ℕ
stores_in base = 0
stores_in (store i v ss) = suc (stores_in ss)

-- n brackets of stores to close among the operands ts, the closing bracket, and the bytes r after it
pub data Ahead (D : Declarations) : ℕ → List ℕ → Trees → List ℕ → Type 0 where
  -- the closing bracket
  ends : {n : ℕ} {b : List ℕ} {ts : Trees} {r : List ℕ} → n ≡ 0 → b ≡ 41 ∷ r → ts ≡ noTrees → Ahead D n b ts r
  -- a store's bracket
  closes : {n : ℕ} {b : List ℕ} {ts : Trees} {r : List ℕ} (m : ℕ) (q : List ℕ) → n ≡ suc m → b ≡ 41 ∷ q → Ahead D m q ts r → Ahead D n b ts r
  -- a blank, and an operand after it
  next : {n : ℕ} {b : List ℕ} {ts : Trees} {r : List ℕ} (f : ℕ) (q : List ℕ) (t : Tree) (y : List ℕ) (us : Trees) → b ≡ 32 ∷ q → ts ≡ more t us → read_term f D q ≡ took t y
      → Ahead D n y us r → Ahead D n b ts r

module _ (D : Declarations) where
  -- ---------------------------------------------------------------- at a byte

  pub record Next (n : ℕ) (q : List ℕ) (ts : Trees) (r : List ℕ) : Type 0 where
    pub tree : Tree
    pub others : Trees
    pub are : ts ≡ more tree others
    pub steps : ℕ
    pub rest : List ℕ
    pub read : read_term steps D q ≡ took tree rest
    pub ahead : Ahead D n rest others r

  same-tails : (c d : ℕ) (p q : List ℕ) → c ∷ p ≡ d ∷ q → p ≡ q
  same-tails c d p q e = cc

  not-both : {C : Type 0} (b p q : List ℕ) → b ≡ 41 ∷ p → b ≡ 32 ∷ q → C
  not-both b p q e f = absurd (let g : 41 ∷ p ≡ 32 ∷ q = sym e ∙ f in let h : ◌≡◌ {A = ℕ} 41 32 = cc in omega arith)

  -- at a blank an operand follows
  pub at-blank : {n : ℕ} {b : List ℕ} {ts : Trees} {r : List ℕ} → Ahead D n b ts r → (q : List ℕ) → b ≡ 32 ∷ q → Next n q ts r
  at-blank {n} {b} {ts} {r} (ends z e h) q f = not-both b r q e f
  at-blank {n} {b} {ts} {r} (closes m p z e a) q f = not-both b p q e f
  at-blank {n} {b} {ts} {r} (next g p t y us e h k a) q f =
      let i : p ≡ q = same-tails 32 32 p q (sym e ∙ f) in
      record { tree = t; others = us; are = h; steps = g; rest = y; read = subst (λ (x : List ℕ). read_term g D x ≡ took t y) i k; ahead = a }

  -- at a bracket with stores to close
  pub at-close : {n : ℕ} {b : List ℕ} {ts : Trees} {r : List ℕ} → Ahead D n b ts r → (m : ℕ) (q : List ℕ) → n ≡ suc m → b ≡ 41 ∷ q → Ahead D m q ts r
  at-close {n} {b} {ts} {r} (ends z e h) m q i f = absurd (omega arith)
  at-close {n} {b} {ts} {r} (closes k p z e a) m q i f =
      let j : k ≡ m = omega arith in
      let l : p ≡ q = same-tails 41 41 p q (sym e ∙ f) in
      subst (λ (x : List ℕ). Ahead D m x ts r) l (subst (λ (x : ℕ). Ahead D x p ts r) j a)
  at-close {n} {b} {ts} {r} (next g p t y us e h k a) m q i f = not-both b q p f e

  -- at a bracket with none to close
  pub at-end : {n : ℕ} {b : List ℕ} {ts : Trees} {r : List ℕ} → Ahead D n b ts r → (q : List ℕ) → n ≡ 0 → b ≡ 41 ∷ q → (ts ≡ noTrees) × (q ≡ r)
  at-end {n} {b} {ts} {r} (ends z e h) q i f = (h, same-tails 41 41 q r (sym f ∙ e))
  at-end {n} {b} {ts} {r} (closes k p z e a) q i f = absurd (omega arith)
  at-end {n} {b} {ts} {r} (next g p t y us e h k a) q i f = not-both b q p f e

  -- one of the two stands there
  pub record Begins (b : List ℕ) : Type 0 where
    pub byte : ℕ
    pub rest : List ℕ
    pub is : b ≡ byte ∷ rest
    pub either : eqb byte 32 ≡ false → byte ≡ 41

  pub begins : {n : ℕ} {b : List ℕ} {ts : Trees} {r : List ℕ} → Ahead D n b ts r → Begins b
  begins {n} {b} {ts} {r} (ends z e h) = record { byte = 41; rest = r; is = e; either = λ _. refl }
  begins {n} {b} {ts} {r} (closes m p z e a) = record { byte = 41; rest = p; is = e; either = λ _. refl }
  begins {n} {b} {ts} {r} (next g p t y us e h k a) = record { byte = 32; rest = p; is = e; either = λ x. absurd (let z : ◌≡◌ {A = Bool} true false = x in let w : ◌≡◌ {A = ℕ} 0 1 = cc in omega arith) }

  -- ---------------------------------------------------------------- operators and calls

  -- operands that are read up to the closing bracket
  terms-step : (f c : ℕ) (b : List ℕ) (ts : Trees) (r : List ℕ) → ((y : List ℕ) (us : Trees) → read_terms f D y ≡ took us r → Ahead D 0 y us r) → read_terms (suc f) D (c ∷ b) ≡ took ts r → Ahead D 0 (c ∷ b) ts r
  unfolding read_term
  terms-step f c b ts r rest e = by-close (eqb c 41) refl e
    where
      operand : Option (Took Trees)
      operand = and_then (read_term f D b) (λ t r. and_then (read_terms f D r) (λ ts q. took (more t ts) q))

      by-blank : (t : Bool) → eqb c 32 ≡ t → elim t as (λ _. Option (Took Trees)) [ true ↦ operand | false ↦ none ] ≡ took ts r → Ahead D 0 (c ∷ b) ts r
      by-blank true q e =
          let (t, y, g, h) = and-then (read_term f D b) (λ t r. and_then (read_terms f D r) (λ ts q. took (more t ts) q)) ts r e in
          let (us, z, i, j) = and-then (read_terms f D y) (λ ts q. took (more t ts) q) ts r h in
          let (k, l) = took-both (more t us) ts z r j in
          let a : c ≡ 32 = eqb→eq c 32 (true→T q) in
          next f b t y us (ap (λ (x : ℕ). x ∷ b) a) (sym k) g (rest y us (subst (λ (x : List ℕ). read_terms f D y ≡ took us x) l i))
      by-blank false q e = absurd (impossible e)

      by-close : (t : Bool) → eqb c 41 ≡ t
          → elim t as (λ _. Option (Took Trees)) [ true ↦ took noTrees b | false ↦ elim (eqb c 32) as (λ _. Option (Took Trees)) [ true ↦ operand | false ↦ none ] ] ≡ took ts r → Ahead D 0 (c ∷ b) ts r
      by-close true q e =
          let (k, l) = took-both noTrees ts b r e in
          let a : c ≡ 41 = eqb→eq c 41 (true→T q) in
          ends refl (λ i. a i ∷ l i) (sym k)
      by-close false q e = by-blank (eqb c 32) refl e

  pub terms-ahead : (f : ℕ) (b : List ℕ) (ts : Trees) (r : List ℕ) → read_terms f D b ≡ took ts r → Ahead D 0 b ts r
  unfolding read_term
  terms-ahead zero b ts r e = absurd (impossible e)
  terms-ahead (suc f) [] ts r e = absurd (impossible e)
  terms-ahead (suc f) (c ∷ b) ts r e = terms-step f c b ts r (λ y us q. terms-ahead f y us r q) e

  -- an operator, as its head says that it is read
  pub operator-ahead : (k : ℕ) (ks : List ℕ) (b x : List ℕ) → ((f : ℕ) → read_term (suc (suc (suc (suc (suc f))))) D b ≡ and_then (read_terms (suc (suc (suc f))) D x) (λ ts z. took (apply k ks ts) z))
      → (f : ℕ) (t : Tree) (r : List ℕ) → read_term f D b ≡ took t r → (ts : Trees) × (t ≡ apply k ks ts) × Ahead D 0 x ts r
  operator-ahead k ks b x h f t r e =
      let g : and_then (read_terms (suc (suc (suc f))) D x) (λ ts z. took (apply k ks ts) z) ≡ took t r = sym (h f) ∙ more-steps D (suc (suc (suc (suc (suc zero))))) f b t r e in
      let (ts, z, i, j) = and-then (read_terms (suc (suc (suc f))) D x) (λ ts z. took (apply k ks ts) z) t r g in
      let (l, m) = took-both (apply k ks ts) t z r j in
      (ts, sym l, terms-ahead (suc (suc (suc f))) x ts r (subst (λ (y : List ℕ). read_terms (suc (suc (suc f))) D x ≡ took ts y) m i))

  call-took : (n : Name) (ts : Trees) (z : List ℕ) (t : Tree) (r : List ℕ) → called n ts z ≡ took t r → (t ≡ call n ts) × (z ≡ r)
  unfolding called
  call-took n noTrees z t r e = absurd (impossible e)
  call-took n (more u us) z t r e = let (l, m) = took-both (call n (more u us)) t z r e in (sym l, m)

  pub call-ahead : (n : Name) (b x : List ℕ) → ((f : ℕ) → read_term (suc (suc f)) D b ≡ and_then (read_terms f D x) (λ ts z. called n ts z))
      → (f : ℕ) (t : Tree) (r : List ℕ) → read_term f D b ≡ took t r → (ts : Trees) × (t ≡ call n ts) × Ahead D 0 x ts r
  call-ahead n b x h f t r e =
      let g : and_then (read_terms f D x) (λ ts z. called n ts z) ≡ took t r = sym (h f) ∙ more-steps D (suc (suc zero)) f b t r e in
      let (ts, z, i, j) = and-then (read_terms f D x) (λ ts z. called n ts z) t r g in
      let (l, m) = call-took n ts z t r j in
      (ts, l, terms-ahead f x ts r (subst (λ (y : List ℕ). read_terms f D x ≡ took ts y) m i))

  -- ---------------------------------------------------------------- selects

  one-blank : (q : List ℕ) → bytes " " ++ q ≡ 32 ∷ q
  unfolding bytes
  one-blank q = refl

  one-bracket : (q : List ℕ) → bytes ")" ++ q ≡ 41 ∷ q
  unfolding bytes
  one-bracket q = refl

  pub blank-is : (b v q : List ℕ) → expect (bytes " ") b ≡ took v q → b ≡ 32 ∷ q
  blank-is b v q e = expected (bytes " ") b v q e ∙ one-blank q

  pub bracket-is : (b v q : List ℕ) → expect (bytes ")") b ≡ took v q → b ≡ 41 ∷ q
  bracket-is b v q e = expected (bytes ")") b v q e ∙ one-bracket q

  -- an array under n stores that open, and its name: after the name come the operands of the stores, with their brackets
  abbrev Reaches : ℕ → List ℕ → Stored → List ℕ → Type 0
  Reaches n q a r = (m : ℕ) (ts : Trees) (z : List ℕ) → Ahead D m r ts z → Ahead D (n + m) q (stored_then a.stores ts) z

  bare-array : (b : List ℕ) (a : Name) (q : List ℕ) (st : Stored) (r : List ℕ) → name_read b ≡ took a q → (g : ℕ) → read_stored (suc g) D (124 ∷ b) ≡ took st r
      → (st ≡ record { array = a; stores = base }) × (r ≡ q)
  unfolding read_term and_then
  bare-array b a q st r n g e =
      let f : took (record { array = a; stores = base }) q ≡ took st r = rw n at e in
      let (l, m) = took-both (record { array = a; stores = base }) st q r f in
      (sym l, sym m)

  bare-reaches : (a : Name) (q : List ℕ) (st : Stored) (r : List ℕ) → st ≡ record { array = a; stores = base } → r ≡ q → Reaches 0 q st r
  unfolding stored_then
  bare-reaches a q st r l m k ts z x =
      let e : stored_then st.stores ts ≡ ts = ap (λ (y : Stored). stored_then y.stores ts) l in
      let n : 0 + k ≡ k = omega arith in
      rw (n, e, ← m) x

  stored-ahead : (n f : ℕ) (b : List ℕ) (a : Name) (q : List ℕ) (st : Stored) (r : List ℕ) → name_read b ≡ took a q → read_stored f D (opened n (124 ∷ b)) ≡ took st r
      → (st.array ≡ a) × Reaches n q st r × (stores_in st.stores ≡ n)
  unfolding opened stored_then read_term
  stored-ahead zero zero b a q st r h e = absurd (impossible e)
  stored-ahead zero (suc g) b a q st r h e =
      let (l, m) = bare-array b a q st r h g e in
      (ap (λ (x : Stored). x.array) l, bare-reaches a q st r l m, ap (λ (x : Stored). stores_in x.stores) l)
  stored-ahead (suc n) zero b a q st r h e = absurd (impossible e)
  stored-ahead (suc n) (suc g) b a q st r h e =
      let o : List ℕ = opened n (124 ∷ b) in
      let (v₀, q₀, e₀, g₀) = and-then (expect (bytes "store ") (bytes "store " ++ o)) _ st r e in
      let o₀ : q₀ ≡ o = (took-both v₀ [] q₀ o (sym e₀ ∙ expect-word (bytes "store ") o)).1 in
      let (ar, r₁, e₁, g₁) = and-then (read_stored g D q₀) _ st r g₀ in
      let (v₂, x, e₂, g₂) = and-then (expect (bytes " ") r₁) _ st r g₁ in
      let (i, y, e₃, g₃) = and-then (read_term g D x) _ st r g₂ in
      let (v₄, z, e₄, g₄) = and-then (expect (bytes " ") y) _ st r g₃ in
      let (w, p, e₅, g₅) = and-then (read_term g D z) _ st r g₄ in
      let (v₆, u, e₆, g₆) = and-then (expect (bytes ")") p) _ st r g₅ in
      let (l, m) = took-both (record { array = ar.array; stores = store i w ar.stores }) st u r g₆ in
      let (c, d, w₀) = stored-ahead n g b a q ar r₁ h (subst (λ (x : List ℕ). read_stored g D x ≡ took ar r₁) o₀ e₁) in (
        ap (λ (x : Stored). x.array) (sym l) ∙ c,
        λ k ts t a.
            let j : n + suc k ≡ suc n + k = omega arith in
            let s : stored_then ar.stores (more i (more w ts)) ≡ stored_then st.stores ts = ap (λ (x : Stored). stored_then x.stores ts) l in
            let a₁ : Ahead D k u ts t = subst (λ (x : List ℕ). Ahead D k x ts t) (sym m) a in
            let a₂ = d (suc k) (more i (more w ts)) t (next g x i y (more w ts) (blank-is r₁ v₂ x e₂) refl e₃ (next g z w p ts (blank-is y v₄ z e₄) refl e₅ (closes k u refl (bracket-is p v₆ u e₆) a₁))) in
            subst (λ (x : ℕ). Ahead D x q (stored_then st.stores ts) t) j (subst (λ (x : Trees). Ahead D (n + suc k) q x t) s a₂),
        ap (λ (x : Stored). stores_in x.stores) (sym l) ∙ ap suc w₀,
      )

  select-opens : (f : ℕ) (q : List ℕ) → read_term (suc (suc f)) D (40 ∷ (bytes "select " ++ q))
      ≡ and_then (read_stored f D q) (λ a r. and_then (expect (bytes " ") r) (λ _ x. and_then (read_term f D x) (λ j y. and_then (expect (bytes ")") y) (λ _ z. took (select a.array j a.stores) z))))
  unfolding read_term bytes and_then expect up_to same
  select-opens f q = refl

  -- a select under n stores that open before the array's name
  pub select-ahead : (n : ℕ) (b : List ℕ) (a : Name) (q : List ℕ) → name_read b ≡ took a q → (f : ℕ) (t : Tree) (r : List ℕ)
      → read_term f D (40 ∷ (bytes "select " ++ opened n (124 ∷ b))) ≡ took t r → (j : Tree) × (ss : Stores) × (t ≡ select a j ss) × Ahead D n q (stored_then ss (more j noTrees)) r × (stores_in ss ≡ n)
  select-ahead n b a q h f t r e =
      let o : List ℕ = opened n (124 ∷ b) in
      let e₀ = sym (select-opens f o) ∙ more-steps D (suc (suc zero)) f (40 ∷ (bytes "select " ++ o)) t r e in
      let (st, r₁, e₁, g₁) = and-then (read_stored f D o) _ t r e₀ in
      let (v₂, x, e₂, g₂) = and-then (expect (bytes " ") r₁) _ t r g₁ in
      let (j, y, e₃, g₃) = and-then (read_term f D x) _ t r g₂ in
      let (v₄, z, e₄, g₄) = and-then (expect (bytes ")") y) _ t r g₃ in
      let (l, m) = took-both (select st.array j st.stores) t z r g₄ in
      let (c, d, w) = stored-ahead n f b a q st r₁ h e₁ in
      let k : n + 0 ≡ n = omega arith in
      let a₁ = d 0 (more j noTrees) r (next f x j y noTrees (blank-is r₁ v₂ x e₂) refl e₃ (ends refl (bracket-is y v₄ z e₄ ∙ ap (λ (x : List ℕ). 41 ∷ x) m) refl)) in
      (j, st.stores, sym l ∙ ap (λ (x : Name). select x j st.stores) c, subst (λ (x : ℕ). Ahead D x q (stored_then st.stores (more j noTrees)) r) k a₁, w)
