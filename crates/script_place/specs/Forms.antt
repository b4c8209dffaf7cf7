-- The form of a term by its head, and what lies ahead of it.
use Rattle.std.specs.Prelude.{ℕ, zero, suc, ◌+◌, ◌<◌, ◌≡◌, refl, List, [], ◌∷◌, ◌++◌, not, length, drop}
use Rattle.std.proofs.Common.{ap, sym, ◌∙◌, subst, arith}
use Rattle.std.proofs.Math.Option.{some}
use Rattle.lists.specs.Bytes.{bytes}
use Rattle.reading.specs.Trees.{Tree, constant, apply, select, call, Trees, none as noTrees, more, Stores, Declarations}
use Rattle.smtlib.specs.Lexicon.{binary_digit}
use Rattle.smtlib.specs.Readings.{bits_of}
use Rattle.echo_spec.specs.Render.{term, binary_digits}
use Rattle.echo_spec.specs.TreeSorts.{TreeSort, tree_sort}
use Rattle.readback.specs.Reader.{took, and_then, expect, up_to, read_constant, read_term}
use Rattle.reader_laws.specs.TermsStrict.{impossible, took-both, term-strict}
use Rattle.sort_reader.specs.Selects.{raised, raised_by}
use Rattle.heap_laws.specs.Heap.{bits_at}
use Rattle.place_laws.specs.Steps.{more-steps}
use Rattle.place_laws.specs.Ahead.{stored_then, stores_in, Ahead, operator-ahead, call-ahead, select-ahead}
use Rattle.script_heads.specs.Heads.{numerals_of, name_to, select_name, NothingAt, OperatorAt, CallAt, SelectAt}
use Rattle.script_terms.specs.SortLaws.{term-sorted}

-- ---------------------------------------------------------------- bytes at a place

-- what stands from a place on
pub at_byte : (s : List ℕ) (e c : ℕ) (q : List ℕ) → drop e s ≡ c ∷ q → (e < length s) × (q ≡ drop (e + 1) s)
at_byte [] zero c q d = absurd (let z : ◌≡◌ {A = ℕ} 0 1 = cc in omega arith)
at_byte [] (suc e) c q d = absurd (let z : ◌≡◌ {A = ℕ} 0 1 = cc in omega arith)
at_byte (x ∷ s) zero c q d = let f : s ≡ q = cc in (omega arith, sym f)
at_byte (x ∷ s) (suc e) c q d =
    let (a, b) = at_byte s e c q d in
    let z : suc e + 1 ≡ suc (e + 1) = omega arith in
    (omega arith, rw z b)

module _ (s : List ℕ) (D : Declarations) (at steps : ℕ) (tree : Tree) (rest : List ℕ) (read : read_term steps D (drop at s) ≡ took tree rest) where
  -- ---------------------------------------------------------------- leaves

  pub leaf-form : (u : Tree) (e : ℕ) → ((f : ℕ) → read_term (suc f) D (drop at s) ≡ took u (drop e s)) → (u ≡ tree) × (drop e s ≡ rest)
  leaf-form u e h = took-both u tree (drop e s) rest (sym (h steps) ∙ more-steps D (suc zero) steps (drop at s) tree rest read)

  -- a term that has a sort begins with something
  pub no-head : {C : Type 0} (σ : TreeSort) → tree_sort D tree ≡ some σ → NothingAt s D at → C
  no-head σ e n =
      let k : ℕ = suc (length (drop at s)) in
      let f : ℕ = raised k steps in
      let l : length (drop at s) < f = (let z = raised_by k steps in omega arith) in
      absurd (impossible (sym (n.unsorted f l) ∙ term-sorted f D (drop at s) tree σ rest (more-steps D k steps (drop at s) tree rest read) e))

  -- ---------------------------------------------------------------- terms with operands

  pub operator-form : {k m i j e : ℕ} → OperatorAt s D at k m i j e → (ts : Trees) × (tree ≡ apply k (numerals_of m i j) ts) × Ahead D 0 (drop e s) ts rest
  operator-form {k} {m} {i} {j} {e} x =
      operator-ahead D k (numerals_of m i j) (drop at s) (drop e s) (λ f. x.read (suc (suc (suc f))) (let z = x.few in omega arith)) steps tree rest read

  pub call-form : {g p w e : ℕ} → CallAt s D at g p w e → (ts : Trees) × (tree ≡ call (name_to s (at + 2) e) ts) × Ahead D 0 (drop e s) ts rest
  call-form {g} {p} {w} {e} x = call-ahead D (name_to s (at + 2) e) (drop at s) (drop e s) x.read steps tree rest read

  pub select-form : {a i v n e : ℕ} → SelectAt s D at a i v n e
      → (j : Tree) × (ss : Stores) × (tree ≡ select (name_to s (select_name at n) e) j ss) × Ahead D n (drop e s) (stored_then ss (more j noTrees)) rest × (stores_in ss ≡ n)
  select-form {a} {i} {v} {n} {e} x =
      select-ahead D n (drop (select_name at n) s) (name_to s (select_name at n) e) (drop e s) x.name.read steps tree rest
      (subst (λ (b : List ℕ). read_term steps D b ≡ took tree rest) x.begins read)

-- ---------------------------------------------------------------- the digits of a constant

constant-text : (bs r : List ℕ) → term (constant bs) ++ r ≡ 35 ∷ 98 ∷ (binary_digits bs ++ r)
unfolding term bytes
constant-text bs r = refl

constant-read : (D : Declarations) (f : ℕ) (b : List ℕ) → read_term (suc f) D (35 ∷ 98 ∷ b) ≡ took (constant (bits_of (up_to (λ c. not (binary_digit c)) b).value)) (up_to (λ c. not (binary_digit c)) b).rest
unfolding read_term read_constant and_then expect bytes
constant-read D f b = refl

pub constant-digits : (s : List ℕ) (D : Declarations) (at f : ℕ) (bs r : List ℕ) → read_term f D (drop at s) ≡ took (constant bs) r → bits_at s (at + 2) ≡ bs
unfolding bits_at
constant-digits s D at f bs r e =
    let q : drop at s ≡ 35 ∷ 98 ∷ (binary_digits bs ++ r) = term-strict D f (drop at s) (constant bs) r e ∙ constant-text bs r in
    let (_, a) = at_byte s at 35 (98 ∷ (binary_digits bs ++ r)) q in
    let (_, b) = at_byte s (at + 1) 98 (binary_digits bs ++ r) (sym a) in
    let z : at + 1 + 1 ≡ at + 2 = omega arith in
    let d : drop at s ≡ 35 ∷ 98 ∷ drop (at + 2) s = q ∙ (λ i. 35 ∷ 98 ∷ (b ∙ ap (λ (n : ℕ). drop n s) z) i) in
    let g = sym (constant-read D f (drop (at + 2) s)) ∙ ap (read_term (suc f) D) (sym d) ∙ more-steps D (suc zero) f (drop at s) (constant bs) r e in
    let (h, _) = took-both _ (constant bs) _ r g in
    cc
