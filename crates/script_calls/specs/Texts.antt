-- A function's name stands between bars in the text of assertions exactly if one of them calls it.
use Prim.Native.Nat.{ℕ, zero, suc, ◌+◌}
use Prim.Native.String.{String}
use Rattle.std.specs.Prelude.{◌≡◌, Bool, true, false, ◌&&◌, ◌||◌, not, length, drop, get_or}
use Rattle.std.proofs.Math.Path.{refl, ap, sym, subst}
use Rattle.std.proofs.Common.{◌∙◌, arith}
use mathlib.Core.List.{List, [], ◌∷◌, ◌++◌, map, append_assoc}
use Rattle.std.proofs.Math.Option.{Option, none, some}
use lib.Dec.{T, leb, ltb, eqb, ltb→lt, nltb→le}
use Rattle.std.proofs.Math.ListN.{get_or-eq_default}
use Rattle.lists.specs.Bytes.{bytes}
use Rattle.lists.specs.Tests.{same, every, in_list, All, all_append, all-weaken, apart_by, and_0, and-1, true→T, no→false, by-test, every-place, same→eq}
use Rattle.reading.specs.Trees.{Name, Tree, variable, constant, apply, select, call, Trees, none as noTrees, more, Stores, base, store, Declarations}
use Rattle.smtlib.specs.Lexicon.{digit}
use Rattle.echo_spec.specs.Render.{symbols, symbol_of, decimal, binary_digits, quoted, numerals_text, operator_text, call_text, term, terms, stores}
use Rattle.echo_spec.specs.Shapes.{shape_of}
use Rattle.echo_spec.specs.TreeSorts.{TreeSort, bool, bits, has_sort, rule_for, sort_under, none_bound, tree_sort, tree_sorts, stores_have, all_bool}
use Rattle.echo_spec.specs.TreeSortLaws.{has-eq}
use Rattle.theorems.specs.Texts.{decimal-numeral}
use Rattle.readback.specs.Printable.{width_ok}
use Rattle.readback.specs.Rebuild.{variable_number, array_number, function_number, number_or0, calls, calls_any, calls_stored}
use Rattle.readback.specs.Reader.{Took, took, and_then}
use Rattle.readback.specs.ScriptReader.{many, term_steps, read_assertion, trees_from}
use Rattle.rebuilt.specs.Built.{array_at, function_at}
use Rattle.rebuilt.specs.Constants.{constant-ok}
use Rattle.rebuilt.specs.Known.{operands-are, variable-known, select-known, call_known}
use Rattle.reader_laws.specs.TermsRead.{NoBar, Barred}
use Rattle.reader_laws.specs.TermsStrict.{impossible, and-then, took-both, expected, term-strict}
use Rattle.header_laws.specs.Body.{last_line, AssertionsAt}
use Rattle.header_laws.specs.Assertions.{Assertion, assertion-read}
use Rattle.script_calls.specs.Bars.{names_from, stands, bars-skip, bars-name}

-- ---------------------------------------------------------------- bytes without a bar

digit-no-bar : (w : List ℕ) → All digit w → NoBar w
digit-no-bar w h = all-weaken digit (λ c. not (eqb c 124)) (apart_by digit 124 tt) w h

word-no-bar : (w : List ℕ) → T (every (λ c. not (eqb c 124)) w) → NoBar w
word-no-bar w h = by-test (λ c. not (eqb c 124)) w h

symbols-no-bar : T (every (λ (s : String). every (λ c. not (eqb c 124)) (bytes s)) symbols)
unfolding symbols bytes
symbols-no-bar = tt

symbol-no-bar : (k : ℕ) → NoBar (symbol_of k)
unfolding symbol_of bytes
symbol-no-bar k = by_size (ltb k (length symbols)) refl
  where
    by_size : (b : Bool) → ltb k (length symbols) ≡ b → NoBar (bytes (get_or symbols k ""))
    by_size true e =
        word-no-bar (bytes (get_or symbols k "")) (every-place (λ (s : String). every (λ c. not (eqb c 124)) (bytes s)) "" symbols symbols-no-bar k (ltb→lt k (length symbols) (true→T e)))
    by_size false e = let u : get_or symbols k "" ≡ "" = get_or-eq_default symbols "" (nltb→le k (length symbols) (rw e tt)) in rw u tt

numerals-no-bar : (ks : List ℕ) → NoBar (numerals_text ks)
unfolding numerals_text bytes
numerals-no-bar [] = tt
numerals-no-bar (k ∷ ks) =
    (tt, all_append (λ c. not (eqb c 124)) (decimal k) (numerals_text ks) (digit-no-bar (decimal k) (decimal-numeral k).digits) (numerals-no-bar ks))

operator-no-bar : (k : ℕ) (ks : List ℕ) → NoBar (operator_text (symbol_of k) ks)
unfolding operator_text bytes
operator-no-bar k [] = symbol-no-bar k
operator-no-bar k (j ∷ js) =
    (tt, (tt, (tt, all_append (λ c. not (eqb c 124)) (symbol_of k) _ (symbol-no-bar k) (all_append (λ c. not (eqb c 124)) (numerals_text (j ∷ js)) _ (numerals-no-bar (j ∷ js)) (tt, tt)))))

bits-no-bar : (bs : List ℕ) → T (every (λ b. leb b 1) bs) → NoBar (binary_digits bs)
unfolding binary_digits
bits-no-bar [] h = tt
bits-no-bar (b ∷ bs) h = all_append (λ c. not (eqb c 124)) (binary_digits bs) ((48 + b) ∷ []) (bits-no-bar bs (and-1 (leb b 1) _ h)) (one b (and_0 (leb b 1) _ h), tt)
  where
    one : (b : ℕ) → T (leb b 1) → T (not (eqb (48 + b) 124))
    one zero h = tt
    one (suc zero) h = tt
    one (suc (suc b)) h = absurd (let l = lib.Dec.leb→le (suc (suc b)) 1 h in omega arith)

-- ---------------------------------------------------------------- texts one after the other

or-false : (a : Bool) → (a || false) ≡ a
or-false true = refl
or-false false = refl

or_assoc : (a b c : Bool) → ((a || b) || c) ≡ (a || (b || c))
or_assoc true b c = refl
or_assoc false b c = refl

module _ (n : Name) where
  -- whatever follows, the name stands in these bytes or in those that follow
  record Tells (w : List ℕ) (x : Bool) : Type 0 where
    tells : (r : List ℕ) → stands n (w ++ r) ≡ (x || stands n r)

  silent : (w : List ℕ) → NoBar w → Tells w false
  silent w h = record { tells = λ r. ap (in_list n) (bars-skip w r h) }

  word : {w : List ℕ} → T (every (λ c. not (eqb c 124)) w) → Tells w false
  word {w} h = silent w (word-no-bar w h)

  then : {v w : List ℕ} {x y : Bool} → Tells v x → Tells w y → Tells (v ++ w) (x || y)
  then {v} {w} {x} {y} f g = record {
    tells = λ r. ap (stands n) (append_assoc v w r) ∙ f.tells (w ++ r) ∙ ap (λ (z : Bool). x || z) (g.tells r) ∙ sym (or_assoc x y (stands n r));
  }

  ended : {v w : List ℕ} {x : Bool} → Tells v x → Tells w false → Tells (v ++ w) x
  ended {v} {w} {x} f g = subst (Tells (v ++ w)) (or-false x) (then f g)

  name : (m : Name) → NoBar m → Tells (quoted m) (same n m)
  unfolding quoted bytes
  name m h = record { tells = λ r. ap (λ (b : List ℕ). stands n (124 ∷ b)) (append_assoc m (124 ∷ []) r) ∙ ap (in_list n) (bars-name m r h) }

  -- ---------------------------------------------------------------- words

  opening : Tells (bytes "(") false
  unfolding bytes
  opening = word tt

  closing : Tells (bytes ")") false
  unfolding bytes
  closing = word tt

  blank : Tells (bytes " ") false
  unfolding bytes
  blank = word tt

  selecting : Tells (bytes "(select ") false
  unfolding bytes
  selecting = word tt

  storing : Tells (bytes "(store ") false
  unfolding bytes
  storing = word tt

  hash : Tells (bytes "#b") false
  unfolding bytes
  hash = word tt

  -- ---------------------------------------------------------------- each form, by its parts

  tells-constant : (bs : List ℕ) → T (every (λ b. leb b 1) bs) → Tells (term (constant bs)) false
  unfolding term
  tells-constant bs h = then hash (silent (binary_digits bs) (bits-no-bar bs h))

  tells-apply : (k : ℕ) (ks : List ℕ) (ts : Trees) → Tells (terms ts) (calls_any n ts) → Tells (term (apply k ks ts)) (calls_any n ts)
  unfolding term
  tells-apply k ks ts h = then opening (then (silent (operator_text (symbol_of k) ks) (operator-no-bar k ks)) (ended h closing))

  tells-select : (a : Name) (j : Tree) (qs : Stores) → Tells (stores a qs) (calls_stored n qs) → Tells (term j) (calls n j) → Tells (term (select a j qs)) (calls n (select a j qs))
  unfolding term calls
  tells-select a j qs h k = then selecting (then h (then blank (ended k closing)))

  tells-call : (m : Name) (ts : Trees) → NoBar m → Tells (terms ts) (calls_any n ts) → Tells (term (call m ts)) (calls n (call m ts))
  unfolding term call_text calls
  tells-call m noTrees h k = subst (Tells (quoted m)) (sym (or-false (same n m))) (name m h)
  tells-call m (more t ts) h k = then opening (then (name m h) (ended k closing))

  tells_more : (t : Tree) (ts : Trees) → Tells (term t) (calls n t) → Tells (terms ts) (calls_any n ts) → Tells (terms (more t ts)) (calls_any n (more t ts))
  unfolding term calls
  tells_more t ts h k = then blank (then h k)

  tells-store : (a : Name) (i v : Tree) (qs : Stores) → Tells (stores a qs) (calls_stored n qs) → Tells (term i) (calls n i) → Tells (term v) (calls n v)
      → Tells (stores a (store i v qs)) (calls_stored n (store i v qs))
  unfolding term calls
  tells-store a i v qs h x y = then storing (then h (then blank (then x (then blank (ended y closing)))))

-- ---------------------------------------------------------------- terms

-- a function's name is no variable's and no array's
pub record FunctionName (D : Declarations) (n : Name) : Type 0 where
  pub variable : variable_number D n ≡ none
  pub array : array_number D n ≡ none

module _ (D : Declarations) (b : Barred D) (n : Name) (f : FunctionName D n) where
  not-variable : (m : Name) (k : ℕ) → variable_number D m ≡ some k → same n m ≡ false
  not-variable m k e = no→false (same n m) (λ t. impossible (sym f.variable ∙ ap (variable_number D) (same→eq n m t) ∙ e))

  not-array : (m : Name) (k : ℕ) → array_number D m ≡ some k → same n m ≡ false
  not-array m k e = no→false (same n m) (λ t. impossible (sym f.array ∙ ap (array_number D) (same→eq n m t) ∙ e))

  mutual
    unfolding sort_under calls term

    tells-term : (t : Tree) (σ : TreeSort) → tree_sort D t ≡ some σ → Tells n (term t) (calls n t)
    tells-term (variable m) σ e =
        let (q, l, s) = variable-known D m σ e in
        subst (Tells n (quoted m)) (not-variable m (number_or0 (variable_number D m)) q) (name n m (b.variables m (number_or0 (variable_number D m)) q))
    tells-term (constant bs) σ e = tells-constant n bs (and-1 (width_ok (length bs)) (every (λ b. leb b 1) bs) (constant-ok D bs σ e).0)
    tells-term (apply k ks ts) σ e = tells-apply n k ks ts (tells-terms ts (rule_for (shape_of k) ks (tree_sorts D ts)).operands (operands-are (shape_of k) ks (tree_sorts D ts) σ e))
    tells-term (select a j qs) σ e =
        let (q, l, sj, fits, s) = select-known D a j qs σ e in
        let k : ℕ = number_or0 (array_number D a) in
        tells-select n a j qs (tells-stored (array_at D k).index (array_at D k).value a k q qs fits) (tells-term j (bits (array_at D k).index) sj)
    tells-term (call m ts) σ e =
        let (q, g, s, w) = call_known D m ts σ e in
        let k : ℕ = number_or0 (function_number D m) in
        tells-call n m ts (b.functions m k q) (tells-terms ts (map bits (function_at D k).arguments) s)

    tells-terms : (ts : Trees) (us : List TreeSort) → tree_sorts D ts ≡ map some us → Tells n (terms ts) (calls_any n ts)
    tells-terms noTrees us e = silent n [] tt
    tells-terms (more t ts) [] e = absurd (let z : ◌≡◌ {A = ℕ} 0 1 = cc in omega arith)
    tells-terms (more t ts) (σ ∷ us) e =
        let h : tree_sort D t ≡ some σ = cc in
        let k : tree_sorts D ts ≡ map some us = cc in
        tells_more n t ts (tells-term t σ h) (tells-terms ts us k)

    tells-stored : (iw vw : ℕ) (a : Name) (k : ℕ) → array_number D a ≡ some k → (qs : Stores) → T (stores_have D none_bound iw vw qs) → Tells n (stores a qs) (calls_stored n qs)
    tells-stored iw vw a k e base h = subst (Tells n (quoted a)) (not-array a k e) (name n a (b.arrays a k e))
    tells-stored iw vw a k e (store i v qs) h =
        let h' : T (has_sort (tree_sort D i) (bits iw) && (has_sort (tree_sort D v) (bits vw) && stores_have D none_bound iw vw qs)) = h in
        let ei : tree_sort D i ≡ some (bits iw) = has-eq (tree_sort D i) (bits iw) (and_0 (has_sort (tree_sort D i) (bits iw)) _ h') in
        let h₁ = and-1 (has_sort (tree_sort D i) (bits iw)) _ h' in
        let ev : tree_sort D v ≡ some (bits vw) = has-eq (tree_sort D v) (bits vw) (and_0 (has_sort (tree_sort D v) (bits vw)) _ h₁) in
        tells-store n a i v qs (tells-stored iw vw a k e qs (and-1 (has_sort (tree_sort D v) (bits vw)) _ h₁)) (tells-term i (bits iw) ei) (tells-term v (bits vw) ev)

  -- ---------------------------------------------------------------- assertions

  asserting : Tells n (bytes "(assert ") false
  unfolding bytes
  asserting = word n tt

  line-end : Tells n (bytes ")\n") false
  unfolding bytes
  line-end = word n tt

  assertion-tells : (w : List ℕ) (t : Tree) (z : List ℕ) → Assertion D w t z → tree_sort D t ≡ some bool → stands n w ≡ (calls n t || stands n z)
  assertion-tells w t z x e =
      let q : w ≡ bytes "(assert " ++ (term t ++ (bytes ")\n" ++ z)) =
      expected (bytes "(assert ") w [] x.inside x.opens ∙ ap (λ (y : List ℕ). bytes "(assert " ++ y) (term-strict D (term_steps x.inside) x.inside t x.after x.term
      ∙ ap (λ (y : List ℕ). term t ++ y) (expected (bytes ")\n") x.after [] z x.closes)) in
      ap (stands n) q ∙ asserting.tells (term t ++ (bytes ")\n" ++ z)) ∙ (tells-term t bool e).tells (bytes ")\n" ++ z) ∙ ap (λ (y : Bool). calls n t || y) (line-end.tells z)

  many-tell : (k : ℕ) (w : List ℕ) (ts : List Tree) (z : List ℕ) → many (read_assertion D) k w ≡ took ts z → T (all_bool D (trees_from ts)) → stands n w ≡ (calls_any n (trees_from ts) || stands n z)
  unfolding many trees_from calls sort_under
  many-tell zero w ts z e h = absurd (impossible e)
  many-tell (suc k) w ts z e h = by-line (read_assertion D w) refl e (λ w ts e h. many-tell k w ts z e h)
    where
      by-line : (o : Option (Took Tree)) → read_assertion D w ≡ o
          → elim o as (λ _. Option (Took (List Tree))) [ none ↦ took [] w | some u ↦ and_then (many (read_assertion D) k u.rest) (λ xs r. took (u.value ∷ xs) r) ] ≡ took ts z
          → ((w : List ℕ) (ts : List Tree) → many (read_assertion D) k w ≡ took ts z → T (all_bool D (trees_from ts)) → stands n w ≡ (calls_any n (trees_from ts) || stands n z))
          → stands n w ≡ (calls_any n (trees_from ts) || stands n z)
      by-line none q e ih =
          let (m, y) = took-both {A = List Tree} [] ts w z e in
          ap (stands n) y ∙ ap (λ (us : List Tree). calls_any n (trees_from us) || stands n z) m
      by-line (some u) q e ih =
          let (ys, r, g, j) = and-then (many (read_assertion D) k u.rest) _ ts z e in
          let (m, y) = took-both (u.value ∷ ys) ts r z j in
          let h' : T (has_sort (tree_sort D u.value) bool && all_bool D (trees_from ys)) = subst (λ (us : List Tree). T (all_bool D (trees_from us))) (sym m) h in
          let s : tree_sort D u.value ≡ some bool = has-eq (tree_sort D u.value) bool (and_0 (has_sort (tree_sort D u.value) bool) _ h') in
          assertion-tells w u.value u.rest (assertion-read D w u.value u.rest q) s
          ∙ ap (λ (x : Bool). calls n u.value || x) (ih u.rest ys (g ∙ ap (λ (x : List ℕ). took ys x) y) (and-1 (has_sort (tree_sort D u.value) bool) _ h'))
          ∙ sym (or_assoc (calls n u.value) (calls_any n (trees_from ys)) (stands n z))
          ∙ ap (λ (us : List Tree). calls_any n (trees_from us) || stands n z) m

  last-silent : stands n last_line ≡ false
  unfolding bytes names_from
  last-silent = refl

  -- The name stands in the assertions exactly if one of them calls the function.
  pub assertions-call : (s : List ℕ) (a : ℕ) (ts : List Tree) → AssertionsAt s D a ts → stands n (drop a s) ≡ calls_any n (trees_from ts)
  assertions-call s a ts x =
      many-tell (suc (length s)) (drop a s) ts last_line (x.read (suc (length s)) (omega arith)) x.bools ∙ ap (λ (y : Bool). calls_any n (trees_from ts) || y) last-silent ∙ or-false (calls_any n (trees_from ts))
