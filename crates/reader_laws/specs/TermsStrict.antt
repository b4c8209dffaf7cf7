-- The readers are strict: what they read is what the printer writes.
use Prim.Native.Nat.{ℕ, zero, suc, ◌+◌, ◌-◌, ◌≤◌, ◌<◌}
use Prim.Native.String.{String}
use Rattle.std.specs.Prelude.{◌≡◌, Bool, ◌&&◌, ◌||◌, not, T, leb, length, get_or}
use Rattle.std.proofs.Math.Path.{refl, ap, sym}
use Rattle.std.proofs.Common.{◌∙◌, subst, arith, T_not}
use mathlib.Core.List.{List, [], ◌∷◌, ◌++◌, map, append_assoc}
use Rattle.std.proofs.Math.Bool.{true, false}
use Rattle.std.proofs.Math.Option.{Option, none, some}
use Rattle.std.proofs.Math.Dec.{eqb, eqb→eq, not_T}
use Rattle.std.proofs.Math.ListN.{get_elem?}
use Rattle.lists.specs.Bytes.{bytes}
use Rattle.lists.specs.Tests.{same, All, among, or_elim, true→T, same→eq}
use Rattle.lists.specs.Build.{find_from}
use Rattle.reading.specs.Trees.{Name, Tree, variable, constant, apply, select, call, Trees, none as noTrees, more, Stores, base, store, Declarations}
use Rattle.smtlib.specs.Lexicon.{digit, binary_digit, value_from}
use Rattle.smtlib.specs.Readings.{bits_of}
use Rattle.echo_spec.specs.Render.{symbols, symbol_of, decimal, binary_digits, quoted, numerals_text, operator_text, call_text, term, terms, stores}
use Rattle.readback.specs.Rebuild.{variable_number}
use Rattle.lists.specs.Places.{find_at, at-get_or}
use Rattle.readback.specs.Reader.{Took, took, and_then, expect, up_to, name_read, read_constant, numeral_is, numeral_from, read_numeral, read_numerals, kind_of, named_tree, applied, applied_indexed, called, Stored, word_end, read_term, read_open, read_terms, read_stored}

pub impossible : {A : Type 0} {x : A} → none ≡ some x → ⊥
impossible e = let z : ◌≡◌ {A = ℕ} 0 1 = cc in omega arith

-- ---------------------------------------------------------------- one reader after another

pub and-then : {A B : Type 0} (o : Option (Took A)) (g : A → List ℕ → Option (Took B)) (y : B) (z : List ℕ) → and_then o g ≡ took y z → (x : A) × (q : List ℕ) × (o ≡ took x q) × (g x q ≡ took y z)
unfolding and_then
and-then none g y z e = absurd (impossible e)
and-then (some t) g y z e = (t.value, t.rest, refl, e)

pub took-both : {A : Type 0} (x y : A) (q z : List ℕ) → took x q ≡ took y z → (x ≡ y) × (q ≡ z)
took-both {A} x y q z e = (
  ap (λ (o : Option (Took A)). elim o as (λ _. A) [ none ↦ x | some t ↦ t.value ]) e,
  ap (λ (o : Option (Took A)). elim o as (λ _. List ℕ) [ none ↦ q | some t ↦ t.rest ]) e,
)

pub expected : (w b v r : List ℕ) → expect w b ≡ took v r → b ≡ w ++ r
unfolding expect
expected [] b v r e = (took-both {A = List ℕ} [] v b r e).1
expected (c ∷ w) [] v r e = absurd (impossible e)
expected (c ∷ w) (x ∷ b) v r e = by_first (eqb c x) refl e (λ q. expected w b v r q)
  where
    by_first : (t : Bool) → eqb c x ≡ t → expect (c ∷ w) (x ∷ b) ≡ took v r → (expect w b ≡ took v r → b ≡ w ++ r) → x ∷ b ≡ c ∷ (w ++ r)
    by_first true q e rest =
        let a : c ≡ x = eqb→eq c x (true→T q) in
        let f : b ≡ w ++ r = rest (rw (q, expect) at e) in
        λ i. sym a i ∷ f i
    by_first false q e rest = absurd (impossible (rw (q, expect) at e))

pub up-to-joins : (p : ℕ → Bool) (b : List ℕ) → (up_to p b).value ++ (up_to p b).rest ≡ b
unfolding up_to
up-to-joins p [] = refl
up-to-joins p (c ∷ b) = by_first (p c) refl (up-to-joins p b)
  where
    by_first : (t : Bool) → p c ≡ t → (up_to p b).value ++ (up_to p b).rest ≡ b → (up_to p (c ∷ b)).value ++ (up_to p (c ∷ b)).rest ≡ c ∷ b
    by_first true q e = rw (q, up_to)
    by_first false q e = rw (q, up_to) (ap (λ (x : List ℕ). c ∷ x) e)

pub up-to-fails : (p : ℕ → Bool) (b : List ℕ) → All (λ c. not (p c)) (up_to p b).value
unfolding up_to
up-to-fails p [] = tt
up-to-fails p (c ∷ b) = by_first (p c) refl (up-to-fails p b)
  where
    by_first : (t : Bool) → p c ≡ t → All (λ c. not (p c)) (up_to p b).value → All (λ c. not (p c)) (up_to p (c ∷ b)).value
    by_first true q h = rw (q, up_to) tt
    by_first false q h = rw (q, up_to) (rw q tt, h)

-- ---------------------------------------------------------------- leaves

one-bar : (q : List ℕ) → bytes "|" ++ q ≡ 124 ∷ q
unfolding bytes
one-bar q = refl

no_bits : binary_digits [] ≡ []
unfolding binary_digits
no_bits = refl

digits-snoc : (bs : List ℕ) (b : ℕ) → binary_digits (bs ++ (b ∷ [])) ≡ (48 + b) ∷ binary_digits bs
unfolding binary_digits
digits-snoc [] b = refl
digits-snoc (x ∷ bs) b = ap (λ (y : List ℕ). y ++ ((48 + x) ∷ [])) (digits-snoc bs b)

digit-back : (c : ℕ) → T (not (not (binary_digit c))) → 48 + (c - 48) ≡ c
digit-back c h = by-digit (binary_digit c) refl h
  where
    by-digit : (t : Bool) → binary_digit c ≡ t → T (not (not t)) → 48 + (c - 48) ≡ c
    by-digit true e h =
        or_elim (eqb c 48) (among (49 ∷ []) c) (true→T e) (λ q. let z : c ≡ 48 = eqb→eq c 48 q in omega arith)
        (λ q. or_elim (eqb c 49) false q (λ q. let z : c ≡ 49 = eqb→eq c 49 q in omega arith) (λ z. absurd z))
    by-digit false e h = absurd h

pub name-strict : (b : List ℕ) (n : Name) (r : List ℕ) → name_read b ≡ took n r → b ≡ n ++ (124 ∷ r)
unfolding name_read
name-strict b n r e =
    let v : List ℕ = (up_to (λ c. eqb c 124) b).value in
    let w : List ℕ = (up_to (λ c. eqb c 124) b).rest in
    let (x, q, f, g) = and-then (expect (bytes "|") w) (λ _ r. took v r) n r e in
    let (h, k) = took-both v n q r g in
    let a : w ≡ bytes "|" ++ q = expected (bytes "|") w x q f in
    sym (up-to-joins (λ c. eqb c 124) b) ∙ ap (λ (y : List ℕ). v ++ y) (a ∙ one-bar q) ∙ (λ i. h i ++ (124 ∷ k i))

binary-back : (ds : List ℕ) → All (λ c. not (not (binary_digit c))) ds → binary_digits (bits_of ds) ≡ ds
binary-back [] h = no_bits
binary-back (c ∷ ds) (h, k) = digits-snoc (bits_of ds) (c - 48) ∙ (let e = digit-back c h in let f = binary-back ds k in λ i. e i ∷ f i)

pub constant-strict : (b : List ℕ) (t : Tree) (r : List ℕ) → read_constant b ≡ took t r → 35 ∷ b ≡ term t ++ r
unfolding read_constant term bytes
constant-strict b t r e =
    let (x, q, f, g) = and-then (expect (bytes "b") b) (λ _ r. took (constant (bits_of (up_to (λ c. not (binary_digit c)) r).value)) (up_to (λ c. not (binary_digit c)) r).rest) t r e in
    let ds : List ℕ = (up_to (λ c. not (binary_digit c)) q).value in
    let w : List ℕ = (up_to (λ c. not (binary_digit c)) q).rest in
    let (h, k) = took-both (constant (bits_of ds)) t w r g in
    let a : b ≡ 98 ∷ q = expected (bytes "b") b x q f in
    let d : binary_digits (bits_of ds) ≡ ds = binary-back ds (up-to-fails (λ c. not (binary_digit c)) q) in
    let j : q ≡ binary_digits (bits_of ds) ++ r = sym (up-to-joins (λ c. not (binary_digit c)) q) ∙ (λ i. sym d i ++ k i) in
    ap (λ (y : List ℕ). 35 ∷ y) (a ∙ ap (λ (y : List ℕ). 98 ∷ y) j) ∙ ap (λ (t : Tree). term t ++ r) h

numeral-is : (k : ℕ) (ds : List ℕ) (t : Bool) → same ds (decimal k) ≡ t → (w : List ℕ) (n : ℕ) (r : List ℕ) → numeral_is k t w ≡ took n r → ds ++ w ≡ decimal n ++ r
unfolding numeral_is
numeral-is k ds true e w n r q =
    let (h, j) = took-both k n w r q in
    let a : ds ≡ decimal k = same→eq ds (decimal k) (true→T e) in
    λ i. (a ∙ ap decimal h) i ++ j i
numeral-is k ds false e w n r q = absurd (impossible q)

pub numeral-strict : (b : List ℕ) (n : ℕ) (r : List ℕ) → read_numeral b ≡ took n r → b ≡ decimal n ++ r
unfolding read_numeral numeral_from
numeral-strict b n r e =
    let ds : List ℕ = (up_to (λ c. not (digit c)) b).value in
    sym (up-to-joins (λ c. not (digit c)) b) ∙ numeral-is (value_from 0 ds) ds (same ds (decimal (value_from 0 ds))) refl (up_to (λ c. not (digit c)) b).rest n r e

pub kind-strict : (w : List ℕ) (k : ℕ) → kind_of w ≡ some k → symbol_of k ≡ w
unfolding kind_of symbol_of
kind-strict w k e =
    let (i, s, p, q, h) = find_at (λ (s : String). same w (bytes s)) 0 symbols k e in
    let z : k ≡ i = omega arith in
    let f : get_or symbols k "" ≡ s = subst (λ (j : ℕ). get_or symbols j "" ≡ s) (sym z) (at-get_or symbols i s "" q) in
    ap bytes f ∙ sym (same→eq w (bytes s) h)

-- ---------------------------------------------------------------- numerals

numerals-step : (f : ℕ) (c : ℕ) (b ks r : List ℕ) → ((b ks r : List ℕ) → read_numerals f b ≡ took ks r → b ≡ numerals_text ks ++ (41 ∷ r)) → read_numerals (suc f) (c ∷ b) ≡ took ks r
    → c ∷ b ≡ numerals_text ks ++ (41 ∷ r)
unfolding read_numerals numerals_text bytes
numerals-step f c b ks r ih e = by-close (eqb c 41) refl e
  where
    by-blank : (t : Bool) → eqb c 32 ≡ t → elim t as (λ _. Option (Took (List ℕ))) [ true ↦ and_then (read_numeral b) (λ k r. and_then (read_numerals f r) (λ ks q. took (k ∷ ks) q)) | false ↦ none ] ≡ took ks r
        → c ∷ b ≡ numerals_text ks ++ (41 ∷ r)
    by-blank true q e =
        let (k, y, g, h) = and-then (read_numeral b) (λ k r. and_then (read_numerals f r) (λ ks q. took (k ∷ ks) q)) ks r e in
        let (js, z, i, j) = and-then (read_numerals f y) (λ ks q. took (k ∷ ks) q) ks r h in
        let (m, n) = took-both (k ∷ js) ks z r j in
        let a : c ≡ 32 = eqb→eq c 32 (true→T q) in
        let s : b ≡ decimal k ++ y = numeral-strict b k y g in
        let t : y ≡ numerals_text js ++ (41 ∷ z) = ih y js z i in
        let u : b ≡ (decimal k ++ numerals_text js) ++ (41 ∷ z) = s ∙ ap (λ (x : List ℕ). decimal k ++ x) t ∙ sym (append_assoc (decimal k) (numerals_text js) (41 ∷ z)) in
        (λ i. a i ∷ u i) ∙ (λ i. numerals_text (m i) ++ (41 ∷ n i))
    by-blank false q e = absurd (impossible e)

    by-close : (t : Bool) → eqb c 41 ≡ t → read_numerals (suc f) (c ∷ b) ≡ took ks r → c ∷ b ≡ numerals_text ks ++ (41 ∷ r)
    by-close true q e =
        let (m, n) = took-both [] ks b r (rw (q, read_numerals) at e) in
        let a : c ≡ 41 = eqb→eq c 41 (true→T q) in
        (λ i. a i ∷ n i) ∙ ap (λ (x : List ℕ). numerals_text x ++ (41 ∷ r)) m
    by-close false q e = by-blank (eqb c 32) refl (rw (q, read_numerals) at e)

pub numerals-strict : (f : ℕ) (b ks r : List ℕ) → read_numerals f b ≡ took ks r → b ≡ numerals_text ks ++ (41 ∷ r)
unfolding read_numerals
numerals-strict zero b ks r e = absurd (impossible e)
numerals-strict (suc f) [] ks r e = absurd (impossible e)
numerals-strict (suc f) (c ∷ b) ks r e = numerals-step f c b ks r (λ b ks r e. numerals-strict f b ks r e) e

-- ---------------------------------------------------------------- terms

module _ (D : Declarations) (f : ℕ) where
  abbrev TermStrict : Type 0
  TermStrict = (b : List ℕ) (t : Tree) (r : List ℕ) → read_term f D b ≡ took t r → b ≡ term t ++ r

  abbrev OpenStrict : Type 0
  OpenStrict = (b : List ℕ) (t : Tree) (r : List ℕ) → read_open f D b ≡ took t r → 40 ∷ b ≡ term t ++ r

  abbrev TermsStrict : Type 0
  TermsStrict = (b : List ℕ) (ts : Trees) (r : List ℕ) → read_terms f D b ≡ took ts r → b ≡ terms ts ++ (41 ∷ r)

  abbrev StoredStrict : Type 0
  StoredStrict = (b : List ℕ) (a : Stored) (r : List ℕ) → read_stored f D b ≡ took a r → b ≡ stores a.array a.stores ++ r

  named-text : (n : Name) → term (named_tree D n) ≡ quoted n
  unfolding named_tree term call_text
  named-text n = by-found (variable_number D n) refl
    where
      by-found : (o : Option ℕ) → variable_number D n ≡ o → term (named_tree D n) ≡ quoted n
      by-found none e = rw (e, named_tree)
      by-found (some k) e = rw (e, named_tree)

  quoted-text : (n : Name) (r : List ℕ) → quoted n ++ r ≡ 124 ∷ (n ++ (124 ∷ r))
  unfolding quoted bytes
  quoted-text n r = ap (λ (x : List ℕ). 124 ∷ x) (append_assoc n (124 ∷ []) r)

  term-step : OpenStrict → (c : ℕ) (b : List ℕ) (t : Tree) (r : List ℕ) → read_term (suc f) D (c ∷ b) ≡ took t r → c ∷ b ≡ term t ++ r
  unfolding read_term
  term-step ih c b t r e = by-hash (eqb c 35) refl e
    where
      by-bracket : (x : Bool) → eqb c 40 ≡ x → elim x as (λ _. Option (Took Tree)) [ true ↦ read_open f D b | false ↦ none ] ≡ took t r → c ∷ b ≡ term t ++ r
      by-bracket true q e = (λ i. eqb→eq c 40 (true→T q) i ∷ b) ∙ ih b t r e
      by-bracket false q e = absurd (impossible e)

      by-bar : (x : Bool) → eqb c 124 ≡ x
          → elim x as (λ _. Option (Took Tree)) [ true ↦ and_then (name_read b) (λ n r. took (named_tree D n) r) | false ↦ elim (eqb c 40) [ true ↦ read_open f D b | false ↦ none ] ] ≡ took t r
          → c ∷ b ≡ term t ++ r
      by-bar true q e =
          let (n, y, g, h) = and-then (name_read b) (λ n r. took (named_tree D n) r) t r e in
          let (m, k) = took-both (named_tree D n) t y r h in
          let s : b ≡ n ++ (124 ∷ y) = name-strict b n y g in
          let a : c ≡ 124 = eqb→eq c 124 (true→T q) in
          (λ i. a i ∷ s i) ∙ sym (quoted-text n y) ∙ (λ i. sym (named-text n) i ++ k i) ∙ ap (λ (t : Tree). term t ++ r) m
      by-bar false q e = by-bracket (eqb c 40) refl e

      by-hash : (x : Bool) → eqb c 35 ≡ x → read_term (suc f) D (c ∷ b) ≡ took t r → c ∷ b ≡ term t ++ r
      by-hash true q e = (λ i. eqb→eq c 35 (true→T q) i ∷ b) ∙ constant-strict b t r (rw (q, read_term) at e)
      by-hash false q e = by-bar (eqb c 124) refl (rw (q, read_term) at e)

  terms-step : TermStrict → TermsStrict → (c : ℕ) (b : List ℕ) (ts : Trees) (r : List ℕ) → read_terms (suc f) D (c ∷ b) ≡ took ts r → c ∷ b ≡ terms ts ++ (41 ∷ r)
  unfolding read_term term bytes
  terms-step ih ihs c b ts r e = by-close (eqb c 41) refl e
    where
      by-blank : (x : Bool) → eqb c 32 ≡ x
          → elim x as (λ _. Option (Took Trees)) [ true ↦ and_then (read_term f D b) (λ t r. and_then (read_terms f D r) (λ ts q. took (more t ts) q)) | false ↦ none ] ≡ took ts r → c ∷ b ≡ terms ts ++ (41 ∷ r)
      by-blank true q e =
          let (t, y, g, h) = and-then (read_term f D b) (λ t r. and_then (read_terms f D r) (λ ts q. took (more t ts) q)) ts r e in
          let (us, z, i, j) = and-then (read_terms f D y) (λ ts q. took (more t ts) q) ts r h in
          let (m, n) = took-both (more t us) ts z r j in
          let a : c ≡ 32 = eqb→eq c 32 (true→T q) in
          let u : b ≡ (term t ++ terms us) ++ (41 ∷ z) = ih b t y g ∙ ap (λ (x : List ℕ). term t ++ x) (ihs y us z i) ∙ sym (append_assoc (term t) (terms us) (41 ∷ z)) in
          (λ i. a i ∷ u i) ∙ (λ i. terms (m i) ++ (41 ∷ n i))
      by-blank false q e = absurd (impossible e)

      by-close : (x : Bool) → eqb c 41 ≡ x → read_terms (suc f) D (c ∷ b) ≡ took ts r → c ∷ b ≡ terms ts ++ (41 ∷ r)
      by-close true q e =
          let (m, n) = took-both noTrees ts b r (rw (q, read_terms) at e) in
          (λ i. eqb→eq c 41 (true→T q) i ∷ n i) ∙ ap (λ (x : Trees). terms x ++ (41 ∷ r)) m
      by-close false q e = by-blank (eqb c 32) refl (rw (q, read_terms) at e)

  -- a head and operands
  plain-strict : (w : List ℕ) (y : List ℕ) (o : Option ℕ) → kind_of w ≡ o → (ts : Trees) (z : List ℕ) → y ≡ terms ts ++ (41 ∷ z) → (t : Tree) (r : List ℕ) → applied o [] ts z ≡ took t r → 40 ∷ (w ++ y) ≡ term t ++ r
  unfolding applied term operator_text bytes
  plain-strict w y none e ts z q t r g = absurd (impossible g)
  plain-strict w y (some k) e ts z q t r g =
      let (m, n) = took-both (apply k [] ts) t z r g in
      let s : symbol_of k ≡ w = kind-strict w k e in
      let a : w ++ y ≡ (symbol_of k ++ (terms ts ++ (41 ∷ []))) ++ z =
      (λ i. sym s i ++ q i) ∙ ap (λ (x : List ℕ). symbol_of k ++ x) (sym (append_assoc (terms ts) (41 ∷ []) z)) ∙ sym (append_assoc (symbol_of k) (terms ts ++ (41 ∷ [])) z) in
      ap (λ (x : List ℕ). 40 ∷ x) a ∙ (λ i. term (m i) ++ n i)

  indexed-strict : (w y : List ℕ) (o : Option ℕ) → kind_of w ≡ o → (ks : List ℕ) (x : List ℕ) → y ≡ numerals_text ks ++ (41 ∷ x) → (ts : Trees) (z : List ℕ) → x ≡ terms ts ++ (41 ∷ z)
      → (t : Tree) (r : List ℕ) → applied_indexed o ks ts z ≡ took t r → 40 ∷ 40 ∷ 95 ∷ 32 ∷ (w ++ y) ≡ term t ++ r
  unfolding applied applied_indexed term operator_text bytes
  indexed-strict w y o e [] x p ts z q t r g = absurd (impossible g)
  indexed-strict w y none e (k ∷ ks) x p ts z q t r g = absurd (impossible g)
  indexed-strict w y (some j) e (k ∷ ks) x p ts z q t r g =
      let (m, n) = took-both (apply j (k ∷ ks) ts) t z r g in
      let s : symbol_of j ≡ w = kind-strict w j e in
      let N : List ℕ = numerals_text (k ∷ ks) in
      let E : List ℕ = terms ts ++ (41 ∷ []) in
      let a : w ++ y ≡ ((symbol_of j ++ (N ++ (41 ∷ []))) ++ E) ++ z =
      (λ i. sym s i ++ p i) ∙ ap (λ (u : List ℕ). symbol_of j ++ (N ++ (41 ∷ u))) (q ∙ sym (append_assoc (terms ts) (41 ∷ []) z))
      ∙ ap (λ (u : List ℕ). symbol_of j ++ u) (sym (append_assoc N (41 ∷ []) (E ++ z))) ∙ sym (append_assoc (symbol_of j) (N ++ (41 ∷ [])) (E ++ z)) ∙ sym (append_assoc (symbol_of j ++ (N ++ (41 ∷ []))) E z) in
      ap (λ (u : List ℕ). 40 ∷ 40 ∷ 95 ∷ 32 ∷ u) a ∙ (λ i. term (m i) ++ n i)

  called-strict : (n : Name) (ts : Trees) (z : List ℕ) (t : Tree) (r : List ℕ) → called n ts z ≡ took t r → 40 ∷ 124 ∷ (n ++ (124 ∷ (terms ts ++ (41 ∷ z)))) ≡ term t ++ r
  unfolding called term call_text quoted bytes
  called-strict n noTrees z t r g = absurd (impossible g)
  called-strict n (more u us) z t r g =
      let (m, k) = took-both (call n (more u us)) t z r g in
      let X : List ℕ = terms (more u us) in
      let a : n ++ (124 ∷ (X ++ (41 ∷ z))) ≡ ((n ++ (124 ∷ [])) ++ (X ++ (41 ∷ []))) ++ z =
      sym (append_assoc n (124 ∷ []) (X ++ (41 ∷ z))) ∙ ap (λ (x : List ℕ). (n ++ (124 ∷ [])) ++ x) (sym (append_assoc X (41 ∷ []) z)) ∙ sym (append_assoc (n ++ (124 ∷ [])) (X ++ (41 ∷ [])) z) in
      ap (λ (x : List ℕ). 40 ∷ 124 ∷ x) a ∙ (λ i. term (m i) ++ k i)

  select-strict : (a : Name) (qs : Stores) (j : Tree) (z : List ℕ) → 40 ∷ (bytes "select" ++ (32 ∷ (stores a qs ++ (32 ∷ (term j ++ (41 ∷ z)))))) ≡ term (select a j qs) ++ z
  unfolding term bytes
  select-strict a qs j z =
      let A : List ℕ = stores a qs in
      let e : A ++ (32 ∷ (term j ++ (41 ∷ z))) ≡ (A ++ (32 ∷ (term j ++ (41 ∷ [])))) ++ z =
      ap (λ (x : List ℕ). A ++ (32 ∷ x)) (sym (append_assoc (term j) (41 ∷ []) z)) ∙ sym (append_assoc A (32 ∷ (term j ++ (41 ∷ []))) z) in
      ap (λ (x : List ℕ). 40 ∷ 115 ∷ 101 ∷ 108 ∷ 101 ∷ 99 ∷ 116 ∷ 32 ∷ x) e

  store-strict : (a : Name) (i v : Tree) (qs : Stores) (z : List ℕ) → 40 ∷ (bytes "store " ++ (stores a qs ++ (32 ∷ (term i ++ (32 ∷ (term v ++ (41 ∷ z))))))) ≡ stores a (store i v qs) ++ z
  unfolding term bytes
  store-strict a i v qs z =
      let A : List ℕ = stores a qs in
      let e : A ++ (32 ∷ (term i ++ (32 ∷ (term v ++ (41 ∷ z))))) ≡ (A ++ (32 ∷ (term i ++ (32 ∷ (term v ++ (41 ∷ [])))))) ++ z =
      ap (λ (x : List ℕ). A ++ (32 ∷ (term i ++ (32 ∷ x)))) (sym (append_assoc (term v) (41 ∷ []) z))
      ∙ ap (λ (x : List ℕ). A ++ (32 ∷ x)) (sym (append_assoc (term i) (32 ∷ (term v ++ (41 ∷ []))) z)) ∙ sym (append_assoc A (32 ∷ (term i ++ (32 ∷ (term v ++ (41 ∷ []))))) z) in
      ap (λ (x : List ℕ). 40 ∷ 115 ∷ 116 ∷ 111 ∷ 114 ∷ 101 ∷ 32 ∷ x) e

  blank-first : (w : List ℕ) (r : List ℕ) (q : List ℕ) → expect (bytes " ") w ≡ took r q → w ≡ 32 ∷ q
  unfolding bytes
  blank-first w r q e = expected (bytes " ") w r q e

  bracket-first : (w : List ℕ) (r : List ℕ) (q : List ℕ) → expect (bytes ")") w ≡ took r q → w ≡ 41 ∷ q
  unfolding bytes
  bracket-first w r q e = expected (bytes ")") w r q e

  store-first : (w : List ℕ) (r : List ℕ) (q : List ℕ) → expect (bytes "store ") w ≡ took r q → w ≡ bytes "store " ++ q
  store-first w r q e = expected (bytes "store ") w r q e

  under_first : (w : List ℕ) (r : List ℕ) (q : List ℕ) → expect (bytes "_ ") w ≡ took r q → w ≡ 95 ∷ 32 ∷ q
  unfolding bytes
  under_first w r q e = expected (bytes "_ ") w r q e

  open_step : TermStrict → TermsStrict → StoredStrict → (c : ℕ) (b : List ℕ) (t : Tree) (r : List ℕ) → read_open (suc f) D (c ∷ b) ≡ took t r → 40 ∷ c ∷ b ≡ term t ++ r
  unfolding read_term
  open_step ih ihs ia c b t r e = by-open (eqb c 40) refl e
    where
      w : List ℕ
      w = (up_to word_end (c ∷ b)).value

      y : List ℕ
      y = (up_to word_end (c ∷ b)).rest

      by-select : (x : Bool) → same (up_to word_end (c ∷ b)).value (bytes "select") ≡ x
          → elim x as (λ _. Option (Took Tree)) [
            | true ↦ and_then (expect (bytes " ") (up_to word_end (c ∷ b)).rest) (λ _ q.
                and_then (read_stored f D q) (λ a r. and_then (expect (bytes " ") r) (λ _ x. and_then (read_term f D x) (λ j y. and_then (expect (bytes ")") y) (λ _ z. took (select a.array j a.stores) z)))))
            | false ↦ and_then (read_terms f D (up_to word_end (c ∷ b)).rest) (λ ts z. applied (kind_of (up_to word_end (c ∷ b)).value) [] ts z)
          ] ≡ took t r
          → 40 ∷ c ∷ b ≡ term t ++ r
      by-select true q e =
          let (v₁, b₁, e₁, g₁) = and-then (expect (bytes " ") (up_to word_end (c ∷ b)).rest) _ t r e in
          let (a, b₂, e₂, g₂) = and-then (read_stored f D b₁) _ t r g₁ in
          let (v₃, b₃, e₃, g₃) = and-then (expect (bytes " ") b₂) _ t r g₂ in
          let (j, b₄, e₄, g₄) = and-then (read_term f D b₃) _ t r g₃ in
          let (v₅, b₅, e₅, g₅) = and-then (expect (bytes ")") b₄) _ t r g₄ in
          let (m, n) = took-both (select a.array j a.stores) t b₅ r g₅ in
          let s : (up_to word_end (c ∷ b)).value ≡ bytes "select" = same→eq (up_to word_end (c ∷ b)).value (bytes "select") (true→T q) in
          let p₃ : b₂ ≡ 32 ∷ (term j ++ (41 ∷ b₅)) = blank-first b₂ v₃ b₃ e₃ ∙ ap (λ (x : List ℕ). 32 ∷ x) (ih b₃ j b₄ e₄ ∙ ap (λ (x : List ℕ). term j ++ x) (bracket-first b₄ v₅ b₅ e₅)) in
          let p₁ : (up_to word_end (c ∷ b)).rest ≡ 32 ∷ (stores a.array a.stores ++ (32 ∷ (term j ++ (41 ∷ b₅)))) =
          blank-first (up_to word_end (c ∷ b)).rest v₁ b₁ e₁ ∙ ap (λ (x : List ℕ). 32 ∷ x) (ia b₁ a b₂ e₂ ∙ ap (λ (x : List ℕ). stores a.array a.stores ++ x) p₃) in
          ap (λ (x : List ℕ). 40 ∷ x) (sym (up-to-joins word_end (c ∷ b)) ∙ (λ i. s i ++ p₁ i)) ∙ select-strict a.array a.stores j b₅ ∙ (λ i. term (m i) ++ n i)
      by-select false q e =
          let (ts, z, g, h) = and-then (read_terms f D (up_to word_end (c ∷ b)).rest) _ t r e in
          ap (λ (x : List ℕ). 40 ∷ x) (sym (up-to-joins word_end (c ∷ b)))
          ∙ plain-strict (up_to word_end (c ∷ b)).value (up_to word_end (c ∷ b)).rest (kind_of (up_to word_end (c ∷ b)).value) refl ts z (ihs (up_to word_end (c ∷ b)).rest ts z g) t r h

      by-bar : (x : Bool) → eqb c 124 ≡ x
          → elim x as (λ _. Option (Took Tree)) [
            | true ↦ and_then (name_read b) (λ n r. and_then (read_terms f D r) (λ ts z. called n ts z))
            | false ↦ elim (same (up_to word_end (c ∷ b)).value (bytes "select")) as (λ _. Option (Took Tree)) [
              | true ↦ and_then (expect (bytes " ") (up_to word_end (c ∷ b)).rest) (λ _ q.
                  and_then (read_stored f D q) (λ a r. and_then (expect (bytes " ") r) (λ _ x. and_then (read_term f D x) (λ j y. and_then (expect (bytes ")") y) (λ _ z. took (select a.array j a.stores) z)))))
              | false ↦ and_then (read_terms f D (up_to word_end (c ∷ b)).rest) (λ ts z. applied (kind_of (up_to word_end (c ∷ b)).value) [] ts z)
            ]
          ] ≡ took t r
          → 40 ∷ c ∷ b ≡ term t ++ r
      by-bar true q e =
          let (n, b₁, e₁, g₁) = and-then (name_read b) _ t r e in
          let (ts, z, e₂, g₂) = and-then (read_terms f D b₁) _ t r g₁ in
          let s : b ≡ n ++ (124 ∷ (terms ts ++ (41 ∷ z))) = name-strict b n b₁ e₁ ∙ ap (λ (x : List ℕ). n ++ (124 ∷ x)) (ihs b₁ ts z e₂) in
          (λ i. 40 ∷ eqb→eq c 124 (true→T q) i ∷ s i) ∙ called-strict n ts z t r g₂
      by-bar false q e = by-select (same (up_to word_end (c ∷ b)).value (bytes "select")) refl e

      by-open : (x : Bool) → eqb c 40 ≡ x → read_open (suc f) D (c ∷ b) ≡ took t r → 40 ∷ c ∷ b ≡ term t ++ r
      by-open true q e =
          let e' = rw (q, read_open) at e in
          let (v₁, b₁, e₁, g₁) = and-then (expect (bytes "_ ") b) _ t r e' in
          let (ks, b₂, e₂, g₂) = and-then (read_numerals f (up_to word_end b₁).rest) _ t r g₁ in
          let (ts, z, e₃, g₃) = and-then (read_terms f D b₂) _ t r g₂ in
          let s : b ≡ 95 ∷ 32 ∷ ((up_to word_end b₁).value ++ (up_to word_end b₁).rest) = under_first b v₁ b₁ e₁ ∙ ap (λ (x : List ℕ). 95 ∷ 32 ∷ x) (sym (up-to-joins word_end b₁)) in
          (λ i. 40 ∷ eqb→eq c 40 (true→T q) i ∷ s i)
          ∙ indexed-strict (up_to word_end b₁).value (up_to word_end b₁).rest (kind_of (up_to word_end b₁).value) refl ks b₂ (numerals-strict f (up_to word_end b₁).rest ks b₂ e₂) ts z (ihs b₂ ts z e₃) t r g₃
      by-open false q e = by-bar (eqb c 124) refl (rw (q, read_open) at e)

  array-strict : (n : Name) (z : List ℕ) → 124 ∷ (n ++ (124 ∷ z)) ≡ stores n base ++ z
  unfolding term quoted bytes
  array-strict n z = ap (λ (x : List ℕ). 124 ∷ x) (sym (append_assoc n (124 ∷ []) z))

  stored-step : TermStrict → StoredStrict → (c : ℕ) (b : List ℕ) (a : Stored) (r : List ℕ) → read_stored (suc f) D (c ∷ b) ≡ took a r → c ∷ b ≡ stores a.array a.stores ++ r
  unfolding read_term
  stored-step ih ia c b a r e = by-bar (eqb c 124) refl e
    where
      by-bracket : (x : Bool) → eqb c 40 ≡ x
          → elim x as (λ _. Option (Took Stored)) [
            | true ↦ and_then (expect (bytes "store ") b) (λ _ q. and_then (read_stored f D q) (λ a r. and_then (expect (bytes " ") r) (λ _ x.
                and_then (read_term f D x) (λ i y. and_then (expect (bytes " ") y) (λ _ z. and_then (read_term f D z) (λ v p.
                and_then (expect (bytes ")") p) (λ _ e. took (record { array = a.array; stores = store i v a.stores }) e)))))))
            | false ↦ none
          ] ≡ took a r
          → c ∷ b ≡ stores a.array a.stores ++ r
      by-bracket true q e =
          let (v₁, b₁, e₁, g₁) = and-then (expect (bytes "store ") b) _ a r e in
          let (s, b₂, e₂, g₂) = and-then (read_stored f D b₁) _ a r g₁ in
          let (v₃, b₃, e₃, g₃) = and-then (expect (bytes " ") b₂) _ a r g₂ in
          let (i, b₄, e₄, g₄) = and-then (read_term f D b₃) _ a r g₃ in
          let (v₅, b₅, e₅, g₅) = and-then (expect (bytes " ") b₄) _ a r g₄ in
          let (v, b₆, e₆, g₆) = and-then (read_term f D b₅) _ a r g₅ in
          let (v₇, b₇, e₇, g₇) = and-then (expect (bytes ")") b₆) _ a r g₆ in
          let x : Stored = record { array = s.array; stores = store i v s.stores } in
          let (m, n) = took-both x a b₇ r g₇ in
          let p₄ : b₄ ≡ 32 ∷ (term v ++ (41 ∷ b₇)) = blank-first b₄ v₅ b₅ e₅ ∙ ap (λ (x : List ℕ). 32 ∷ x) (ih b₅ v b₆ e₆ ∙ ap (λ (x : List ℕ). term v ++ x) (bracket-first b₆ v₇ b₇ e₇)) in
          let p₂ : b₂ ≡ 32 ∷ (term i ++ (32 ∷ (term v ++ (41 ∷ b₇)))) = blank-first b₂ v₃ b₃ e₃ ∙ ap (λ (x : List ℕ). 32 ∷ x) (ih b₃ i b₄ e₄ ∙ ap (λ (x : List ℕ). term i ++ x) p₄) in
          let p₁ : b ≡ bytes "store " ++ (stores s.array s.stores ++ (32 ∷ (term i ++ (32 ∷ (term v ++ (41 ∷ b₇)))))) =
          store-first b v₁ b₁ e₁ ∙ ap (λ (x : List ℕ). bytes "store " ++ x) (ia b₁ s b₂ e₂ ∙ ap (λ (x : List ℕ). stores s.array s.stores ++ x) p₂) in
          (λ k. eqb→eq c 40 (true→T q) k ∷ p₁ k) ∙ store-strict s.array i v s.stores b₇ ∙ (λ k. stores (m k).array (m k).stores ++ n k)
      by-bracket false q e = absurd (impossible e)

      by-bar : (x : Bool) → eqb c 124 ≡ x → read_stored (suc f) D (c ∷ b) ≡ took a r → c ∷ b ≡ stores a.array a.stores ++ r
      by-bar true q e =
          let e' = rw (q, read_stored) at e in
          let (n, b₁, e₁, g₁) = and-then (name_read b) _ a r e' in
          let (m, k) = took-both (record { array = n; stores = base }) a b₁ r g₁ in
          (λ i. eqb→eq c 124 (true→T q) i ∷ name-strict b n b₁ e₁ i) ∙ array-strict n b₁ ∙ (λ i. stores (m i).array (m i).stores ++ k i)
      by-bar false q e = by-bracket (eqb c 40) refl (rw (q, read_stored) at e)

module _ (D : Declarations) where
  mutual
    unfolding read_term

    pub term-strict : (f : ℕ) (b : List ℕ) (t : Tree) (r : List ℕ) → read_term f D b ≡ took t r → b ≡ term t ++ r
    term-strict zero b t r e = absurd (impossible e)
    term-strict (suc f) [] t r e = absurd (impossible e)
    term-strict (suc f) (c ∷ b) t r e = term-step D f (λ b t r e. open-strict f b t r e) c b t r e

    open-strict : (f : ℕ) (b : List ℕ) (t : Tree) (r : List ℕ) → read_open f D b ≡ took t r → 40 ∷ b ≡ term t ++ r
    open-strict zero b t r e = absurd (impossible e)
    open-strict (suc f) [] t r e = absurd (impossible e)
    open-strict (suc f) (c ∷ b) t r e =
        open_step D f (λ b t r e. term-strict f b t r e) (λ b ts r e. terms-strict f b ts r e) (λ b a r e. stored-strict f b a r e) c b t r e

    terms-strict : (f : ℕ) (b : List ℕ) (ts : Trees) (r : List ℕ) → read_terms f D b ≡ took ts r → b ≡ terms ts ++ (41 ∷ r)
    terms-strict zero b ts r e = absurd (impossible e)
    terms-strict (suc f) [] ts r e = absurd (impossible e)
    terms-strict (suc f) (c ∷ b) ts r e = terms-step D f (λ b t r e. term-strict f b t r e) (λ b ts r e. terms-strict f b ts r e) c b ts r e

    stored-strict : (f : ℕ) (b : List ℕ) (a : Stored) (r : List ℕ) → read_stored f D b ≡ took a r → b ≡ stores a.array a.stores ++ r
    stored-strict zero b a r e = absurd (impossible e)
    stored-strict (suc f) [] a r e = absurd (impossible e)
    stored-strict (suc f) (c ∷ b) a r e = stored-step D f (λ b t r e. term-strict f b t r e) (λ b a r e. stored-strict f b a r e) c b a r e
