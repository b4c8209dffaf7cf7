-- What is read takes bytes: a place that an operand must not end after.
use Prim.Native.Nat.{ℕ, zero, suc, ◌+◌, ◌≤◌, ◌<◌}
use Rattle.std.specs.Prelude.{◌≡◌, Bool, eqb, drop}
use Rattle.std.proofs.Math.Path.{refl, ap}
use Rattle.std.proofs.Common.{sym, ◌∙◌, subst, eqb-true, length-drop}
use mathlib.Core.List.{List, [], ◌∷◌}
use Rattle.std.proofs.Math.Bool.{true, false, cond}
use Rattle.std.proofs.Math.Option.{Option, none, some}
use native.Mathlib.Omega.{arith}
use Rattle.std.proofs.Math.ListN.{length, length-append}
use Rattle.lists.specs.Bytes.{bytes}
use Rattle.reading.specs.Trees.{Tree, variable, constant, apply, select, call, none as noTrees, more, Array, Declarations}
use Rattle.echo_spec.specs.Render.{quoted, call_text, term}
use Rattle.echo_spec.specs.Shapes.{comparison, connective}
use Rattle.echo_spec.specs.TreeSorts.{TreeSort, bool, bits, if_proper, has_sort, tree_sort}
use Rattle.readback.specs.Reader.{Took, took, and_then, expect, read_term}
use Rattle.reader_laws.specs.TermsStrict.{impossible, and-then, took-both, term-strict}
use Rattle.sort_reader.specs.Waits.{Wait, first, stuck, after_vector, after_bool, step, close}
use Rattle.sort_reader.specs.Sorted.{of_sort, sorted, operands, operands-none, operands_end, operands_next, operands-other}
use Rattle.sort_reader.specs.Selects.{operand_of, stores_then}
use Rattle.script_decls.specs.Tails.{word-less}
use Rattle.script_heads.specs.HeadLaws.{no-sort}
use Rattle.std.specs.Prelude.{None}
use Rattle.script_terms.specs.declared.TermState.{TermState}
use Rattle.script_terms.specs.declared.TermState.TheVariants.{Comparison, Connective}
use Rattle.script_terms.specs.States.{State, done, waits, index, value, stored, own, widths, rest, after_index, after, state_of, Asking, SortAt, SortedBy}
use Rattle.script_terms.specs.SortLaws.{of-sort}
use Rattle.script_terms.specs.Turns.{BeforeIs}

term-long : (t : Tree) → 0 < length (term t)
unfolding term quoted call_text bytes
term-long (variable n) = omega arith
term-long (constant bs) = omega arith
term-long (apply k ks ts) = omega arith
term-long (select a j ss) = omega arith
term-long (call n noTrees) = omega arith
term-long (call n (more t ts)) = omega arith

sort-rest : (o : Option TreeSort) (q : List ℕ) (σ : TreeSort) (r : List ℕ) → of_sort o q ≡ took σ r → q ≡ r
sort-rest o q σ r e = (of-sort o q σ r e).1

word-takes : (b v r : List ℕ) → expect (bytes ")") b ≡ took v r → length r < length b
unfolding bytes
word-takes b v r e = let n = word-less (bytes ")") b v r e in omega arith

blank-takes : (b v r : List ℕ) → expect (bytes " ") b ≡ took v r → length r < length b
unfolding bytes
blank-takes b v r e = let n = word-less (bytes " ") b v r e in omega arith

module _ (D : Declarations) where
  pub sorted-takes : (f : ℕ) (b : List ℕ) (σ : TreeSort) (r : List ℕ) → sorted f D b ≡ took σ r → length r < length b
  unfolding sorted
  sorted-takes f b σ r e =
      let (t, q, g, h) = and-then (read_term f D b) (λ t r. of_sort (tree_sort D t) r) σ r e in
      let n : length b ≡ length (term t) + length q = ap length (term-strict D f b t q g) ∙ length-append (term t) q in
      let m : length q ≡ length r = ap length (sort-rest (tree_sort D t) q σ r h) in
      let l = term-long t in
      omega arith

  -- ---------------------------------------------------------------- operands

  zero-operands : (w : Wait) (b : List ℕ) → operands zero D w b ≡ none
  unfolding operands read_term and_then
  zero-operands w b = refl

  -- a blank and an operand, and then those that follow
  next-takes : (f : ℕ) (w : Wait) (b : List ℕ) (τ : TreeSort) (z : List ℕ) → ((v : Wait) (r : List ℕ) → operands f D v r ≡ took τ z → length z < length r) → operands (suc f) D w (32 ∷ b) ≡ took τ z
      → suc (length z) < length b
  next-takes f w b τ z rec e =
      let (σ, r, g, h) = and-then (sorted f D b) (λ σ r. operands f D (step w σ) r) τ z (sym (operands_next D f w b) ∙ e) in
      let m = sorted-takes f b σ r g in
      let n = rec (step w σ) r h in
      omega arith

  end-takes : (f : ℕ) (w : Wait) (b : List ℕ) (τ : TreeSort) (z : List ℕ) → operands (suc f) D w (41 ∷ b) ≡ took τ z → length z ≡ length b
  end-takes f w b τ z e = sym (ap length (sort-rest (close w) b τ z (sym (operands_end D f w b) ∙ e)))

  operands-takes : (f : ℕ) (w : Wait) (b : List ℕ) (τ : TreeSort) (z : List ℕ) → operands f D w b ≡ took τ z → length z < length b
  operands-takes zero w b τ z e = absurd (impossible (sym (zero-operands w b) ∙ e))
  operands-takes (suc f) w [] τ z e = absurd (impossible (sym (operands-none D (suc f) w) ∙ e))
  operands-takes (suc f) w (c ∷ b) τ z e = by_byte (eqb c 41) refl (eqb c 32) refl (λ v r g. operands-takes f v r τ z g)
    where
      by_byte : (t : Bool) → eqb c 41 ≡ t → (u : Bool) → eqb c 32 ≡ u → ((v : Wait) (r : List ℕ) → operands f D v r ≡ took τ z → length z < length r) → length z < suc (length b)
      by_byte true p u q rec =
          let k : operands (suc f) D w (41 ∷ b) ≡ took τ z = ap (λ (i : ℕ). operands (suc f) D w (i ∷ b)) (sym (eqb-true c 41 p)) ∙ e in
          let n = end-takes f w b τ z k in
          omega arith
      by_byte false p true q rec =
          let k : operands (suc f) D w (32 ∷ b) ≡ took τ z = ap (λ (i : ℕ). operands (suc f) D w (i ∷ b)) (sym (eqb-true c 32 q)) ∙ e in
          let n = next-takes f w b τ z rec k in
          omega arith
      by_byte false p false q rec = absurd (impossible (sym (operands-other D (suc f) w c b p q) ∙ e))

  -- where a bracket will not do
  operands-more : (f : ℕ) (w : Wait) (b : List ℕ) (τ : TreeSort) (z : List ℕ) → close w ≡ none → operands f D w b ≡ took τ z → 3 + length z ≤ length b
  operands-more zero w b τ z n e = absurd (impossible (sym (zero-operands w b) ∙ e))
  operands-more (suc f) w [] τ z n e = absurd (impossible (sym (operands-none D (suc f) w) ∙ e))
  operands-more (suc f) w (c ∷ b) τ z n e = by_byte (eqb c 41) refl (eqb c 32) refl
    where
      by_byte : (t : Bool) → eqb c 41 ≡ t → (u : Bool) → eqb c 32 ≡ u → 3 + length z ≤ suc (length b)
      by_byte true p u q =
          let k : operands (suc f) D w (41 ∷ b) ≡ took τ z = ap (λ (i : ℕ). operands (suc f) D w (i ∷ b)) (sym (eqb-true c 41 p)) ∙ e in
          absurd (impossible (sym (no-sort b (close w) n) ∙ sym (operands_end D f w b) ∙ k))
      by_byte false p true q =
          let k : operands (suc f) D w (32 ∷ b) ≡ took τ z = ap (λ (i : ℕ). operands (suc f) D w (i ∷ b)) (sym (eqb-true c 32 q)) ∙ e in
          let m = next-takes f w b τ z (λ v r g. operands-takes f v r τ z g) k in
          omega arith
      by_byte false p false q = absurd (impossible (sym (operands-other D (suc f) w c b p q) ∙ e))

  -- ---------------------------------------------------------------- selects

  operand-takes : (f w : ℕ) (b v y : List ℕ) → operand_of f D w b ≡ took v y → length y < length b
  unfolding operand_of
  operand-takes f w b v y e =
      let (u, x, g, h) = and-then (expect (bytes " ") b) (λ _ x. and_then (sorted f D x) (λ σ y. cond (has_sort (some σ) (bits w)) (took [] y) none)) v y e in
      let (σ, q, i, j) = and-then (sorted f D x) (λ σ y. cond (has_sort (some σ) (bits w)) (took [] y) none) v y h in
      let m = blank-takes b u x g in
      let n = sorted-takes f x σ q i in
      let k = ap length (taken (has_sort (some σ) (bits w)) q j) in
      omega arith
    where
      taken : (t : Bool) (q : List ℕ) → cond t (took [] q) none ≡ took v y → q ≡ y
      taken true q j = (took-both [] v q y j).1
      taken false q j = absurd (impossible j)

  stores-takes : (n f : ℕ) (a : Array) (b : List ℕ) (τ : TreeSort) (z : List ℕ) → stores_then f D a n b ≡ took τ z → length z < length b
  unfolding stores_then
  stores-takes zero f a b τ z e =
      let (u, y, g, h) = and-then (operand_of f D a.index b) (λ _ y. and_then (expect (bytes ")") y) (λ _ z. of_sort (if_proper (bits a.value)) z)) τ z e in
      let (v, x, i, j) = and-then (expect (bytes ")") y) (λ _ z. of_sort (if_proper (bits a.value)) z) τ z h in
      let l = operand-takes f a.index b u y g in
      let m = word-takes y v x i in
      let k = ap length (sort-rest (if_proper (bits a.value)) x τ z j) in
      omega arith
  stores-takes (suc n) f a b τ z e =
      let (u, y, g, h) = and-then (operand_of f D a.index b) (λ _ y. and_then (operand_of f D a.value y) (λ _ x. and_then (expect (bytes ")") x) (λ _ z. stores_then (suc f) D a n z))) τ z e in
      let (v, x, i, j) = and-then (operand_of f D a.value y) (λ _ x. and_then (expect (bytes ")") x) (λ _ z. stores_then (suc f) D a n z)) τ z h in
      let (w, r, o, p) = and-then (expect (bytes ")") x) (λ _ z. stores_then (suc f) D a n z) τ z j in
      let l = operand-takes f a.index b u y g in
      let m = operand-takes f a.value y v x i in
      let k = word-takes x w r o in
      let q = stores-takes n (suc f) a r τ z p in
      omega arith

  own-takes : (f v : ℕ) (b : List ℕ) (τ : TreeSort) (z : List ℕ) → rest f D (own v) b ≡ took τ z → length z < length b
  unfolding rest
  own-takes f v b τ z e =
      let (u, y, g, h) = and-then (expect (bytes ")") b) (λ _ z. of_sort (if_proper (bits v)) z) τ z e in
      let m = word-takes b u y g in
      let k = ap length (sort-rest (if_proper (bits v)) y τ z h) in
      omega arith

  stored-takes : (f i v n : ℕ) (b : List ℕ) (τ : TreeSort) (z : List ℕ) → rest f D (stored i v n) b ≡ took τ z → length z < length b
  unfolding rest
  stored-takes f i v n b τ z e =
      let (u, y, g, h) = and-then (expect (bytes ")") b) (λ _ z. stores_then (suc f) D (widths i v) n z) τ z e in
      let m = word-takes b u y g in
      let k = stores-takes n (suc f) (widths i v) y τ z h in
      omega arith

  value-takes : (f i v n : ℕ) (b : List ℕ) (τ : TreeSort) (z : List ℕ) → rest f D (value i v n) b ≡ took τ z → length z < length b
  unfolding rest
  value-takes f i v n b τ z e =
      let (u, y, g, h) = and-then (operand_of f D v b) (λ _ x. and_then (expect (bytes ")") x) (λ _ z. stores_then (suc f) D (widths i v) n z)) τ z e in
      let (w, x, j, p) = and-then (expect (bytes ")") y) (λ _ z. stores_then (suc f) D (widths i v) n z) τ z h in
      let l = operand-takes f v b u y g in
      let m = word-takes y w x j in
      let k = stores-takes n (suc f) (widths i v) x τ z p in
      omega arith

  -- ---------------------------------------------------------------- states

  wait-takes : (g : ℕ) (w : Wait) (r : List ℕ) (τ : TreeSort) (z : List ℕ) → rest g D (waits w) r ≡ took τ z → length z < length r
  unfolding rest
  wait-takes g w r τ z e = operands-takes g w r τ z e

  wait-more : (g : ℕ) (w : Wait) (r : List ℕ) (τ : TreeSort) (z : List ℕ) → close w ≡ none → rest g D (waits w) r ≡ took τ z → 3 + length z ≤ length r
  unfolding rest
  wait-more g w r τ z n e = operands-more g w r τ z n e

  index-takes : (g i v n : ℕ) (r : List ℕ) (τ : TreeSort) (z : List ℕ) → rest g D (after_index i v n) r ≡ took τ z → length z < length r
  unfolding after_index
  index-takes g i v zero r τ z e = own-takes g v r τ z e
  index-takes g i v (suc n) r τ z e = value-takes g i v n r τ z e

  -- whatever the state before the operand was
  pub after-takes : (q : State) (σ : TreeSort) (g : ℕ) (r : List ℕ) (τ : TreeSort) (z : List ℕ) → rest g D (after q σ) r ≡ took τ z → length z < length r
  unfolding after
  after-takes (done ρ) σ g r τ z e = wait-takes g stuck r τ z e
  after-takes (waits w) σ g r τ z e = wait-takes g (step w σ) r τ z e
  after-takes (index i v n) σ g r τ z e = by-sort (has_sort (some σ) (bits i)) e
    where
      by-sort : (t : Bool) → rest g D (cond t (after_index i v n) (waits stuck)) r ≡ took τ z → length z < length r
      by-sort true k = index-takes g i v n r τ z k
      by-sort false k = wait-takes g stuck r τ z k
  after-takes (value i v n) σ g r τ z e = by-sort (has_sort (some σ) (bits v)) e
    where
      by-sort : (t : Bool) → rest g D (cond t (stored i v n) (waits stuck)) r ≡ took τ z → length z < length r
      by-sort true k = stored-takes g i v n r τ z k
      by-sort false k = wait-takes g stuck r τ z k
  after-takes (stored i v n) σ g r τ z e = wait-takes g stuck r τ z e
  after-takes (own v) σ g r τ z e = wait-takes g stuck r τ z e

  comparison-takes : (σ : TreeSort) (g : ℕ) (r : List ℕ) (τ : TreeSort) (z : List ℕ) → rest g D (after (waits (first comparison [])) σ) r ≡ took τ z → 3 + length z ≤ length r
  unfolding after step after_vector after_bool close
  comparison-takes bool g r τ z e = wait-more g stuck r τ z refl e
  comparison-takes (bits m) g r τ z e = wait-more g _ r τ z refl e

  connective-takes : (σ : TreeSort) (g : ℕ) (r : List ℕ) (τ : TreeSort) (z : List ℕ) → rest g D (after (waits (first connective [])) σ) r ≡ took τ z → 3 + length z ≤ length r
  unfolding after step after_vector after_bool close
  connective-takes bool g r τ z e = wait-more g _ r τ z refl e
  connective-takes (bits m) g r τ z e = wait-more g stuck r τ z refl e

-- ---------------------------------------------------------------- by state

pub before-comparison : {w : TermState} {l r : ℕ} → w ≡ Comparison → l ≤ r + 3 → BeforeIs w l r
unfolding state_of
before-comparison {w} {l} {r} e h = subst (λ (k : TermState). BeforeIs k l r) (sym e) (record { takes = λ D ws σ g b τ z q. let n = comparison-takes D σ g b τ z q in omega arith })

pub before-connective : {w : TermState} {l r : ℕ} → w ≡ Connective → l ≤ r + 3 → BeforeIs w l r
unfolding state_of
before-connective {w} {l} {r} e h = subst (λ (k : TermState). BeforeIs k l r) (sym e) (record { takes = λ D ws σ g b τ z q. let n = connective-takes D σ g b τ z q in omega arith })

pub before-any : (w : TermState) {l r : ℕ} → l ≤ r + 1 → BeforeIs w l r
before-any w h = record { takes = λ D ws σ g b τ z q. let n = after-takes D (state_of ws w) σ g b τ z q in omega arith }

-- ---------------------------------------------------------------- terms

-- a term without a sort
pub none-by : (s : List ℕ) (D : Declarations) (a l : ℕ) → SortAt s D a None → SortedBy s D a None 0 l
none-by s D a l x f i σ z q = absurd (impossible (sym (x f i) ∙ q))

-- no bytes are left for it
pub early-by : (s : List ℕ) (D : Declarations) (a l : ℕ) → l ≤ a → a ≤ length s → SortedBy s D a None 0 l
early-by s D a l h i f j σ z q = let m = sorted-takes D f (drop a s) σ z q in let u = length-drop a s in omega arith

-- an operand that is told to have no sort
pub gone-by : {s : List ℕ} {D : Declarations} {a : ℕ} {w : TermState} {p l r : ℕ} → Asking s D a w p → SortedBy s D p None 0 r → BeforeIs w l r → SortedBy s D a None 0 l
gone-by {s} {D} {a} {w} {p} {l} {r} x y b f i σ z q =
    let (g, j, t) = x.reads f i in
    let (ρ, v, h, o) = and-then (sorted g D (drop p s)) (λ σ r. rest g D (after x.state σ) r) σ z (sym t ∙ q) in
    let c = y g j ρ v h in
    let d = b.takes D x.held.sorts ρ g v σ z (ap (λ (st : State). rest g D (after st ρ) v) (sym x.held.is) ∙ o) in
    omega arith

-- the end of the script is no bound
pub none-whole : (s : List ℕ) (D : Declarations) (a : ℕ) → SortedBy s D a None 0 (length s) → SortAt s D a None
none-whole s D a x f h = by-sort (sorted f D (drop a s)) refl
  where
    by-sort : (o : Option (Took TreeSort)) → sorted f D (drop a s) ≡ o → o ≡ none
    by-sort none q = refl
    by-sort (some t) q = absurd (let m = x f h t.value t.rest q in omega arith)
