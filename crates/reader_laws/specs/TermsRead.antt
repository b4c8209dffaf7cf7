-- What `term` wrote of a tree that has a sort is read back as the tree, whatever follows.
use Prim.Native.Nat.{ℕ, zero, suc, ◌+◌, ◌≤◌, ◌<◌}
use Rattle.std.specs.Prelude.{◌≡◌, Bool, true, false, ◌&&◌, ◌||◌, not, length}
use Rattle.std.proofs.Math.Path.{refl, ap}
use Rattle.std.proofs.Common.{sym, ◌∙◌, subst}
use mathlib.Core.List.{List, [], ◌∷◌, ◌++◌, map, append_assoc}
use Rattle.std.proofs.Math.Option.{Option, none, some}
use native.Mathlib.Omega.{arith}
use lib.Dec.{T, leb, ltb, eqb, eqb→eq, eqb_refl, ltb→lt, nltb→le, T_not}
use Rattle.std.proofs.Math.ListN.{length-append, get_or-eq_default}
use Rattle.lists.specs.Bytes.{bytes}
use Rattle.lists.specs.Tests.{same, every, every_from, every-at, All, all_append, and_0, and-1, or_elim, T→true, true→T, not→false, same_refl, by-test}
use Rattle.lists.specs.Build.{find_from}
use Rattle.reading.specs.Trees.{Name, Tree, variable, constant, apply, select, call, Trees, none as noTrees, more, Stores, base, store, Declarations}
use Rattle.smtlib.specs.Lexicon.{digit, binary_digit, Begins}
use Rattle.echo_spec.specs.Shapes.{Shape, var, const, binary, rotation, extraction, concat, extension, ite, comparison, negation, connective, unary, unknown, shapes, shape_of}
use Rattle.echo_spec.specs.Render.{symbols, symbol_of, decimal, binary_digits, quoted, numerals_text, operator_text, call_text, term, terms, stores}
use Rattle.echo_spec.specs.TreeSorts.{TreeSort, bits, has_sort, rule_of, rule_for, operator_sort, sort_under, none_bound, tree_sort, tree_sorts, stores_have}
use Rattle.echo_spec.specs.TreeSortLaws.{has-eq, operator-met}
use Rattle.theorems.specs.Texts.{decimal-numeral}
use Rattle.theorems.specs.Meanings.{bits-of-digits}
use Rattle.readback.specs.Printable.{width_ok}
use Rattle.readback.specs.Rebuild.{variable_number, array_number, function_number, number_or0}
use Rattle.readback.specs.Reader.{
  Took,
  took,
  and_then,
  expect,
  up_to,
  name_read,
  read_constant,
  numeral_is,
  numeral_from,
  read_numeral,
  read_numerals,
  kind_of,
  named_tree,
  applied,
  applied_indexed,
  called,
  Stored,
  word_end,
  read_term,
  read_open,
  read_terms,
  read_stored,
}
use Rattle.rebuilt.specs.Built.{array_at, function_at}
use Rattle.rebuilt.specs.Constants.{constant-ok}
use Rattle.rebuilt.specs.Known.{operands-are, variable-known, select-known, call_known}

-- ---------------------------------------------------------------- words

pub expect-word : (w r : List ℕ) → expect w (w ++ r) ≡ took [] r
unfolding expect
expect-word [] r = refl
expect-word (c ∷ w) r = rw (T→true (eqb c c) (eqb_refl c), expect) (expect-word w r)

abbrev pub Fails : (ℕ → Bool) → List ℕ → Type 0
Fails p w = All (λ c. not (p c)) w

pub up-to : (p : ℕ → Bool) (w r : List ℕ) → Fails p w → Begins p r → up_to p (w ++ r) ≡ record { value = w; rest = r }
unfolding up_to
up-to p [] [] h b = absurd b
up-to p [] (c ∷ r) h b = rw (T→true (p c) b)
up-to p (c ∷ w) r (h, k) b =
    let e = up-to p w r k b in
    rw (not→false (p c) h, up_to) (λ i. record { value = c ∷ (e i).value; rest = (e i).rest })

abbrev pub NoBar : Name → Type 0
NoBar n = Fails (λ c. eqb c 124) n

pub read_name : (n : Name) → NoBar n → (r : List ℕ) → name_read (n ++ (124 ∷ r)) ≡ took n r
unfolding name_read bytes and_then expect
read_name n h r =
    let e = up-to (λ c. eqb c 124) n (124 ∷ r) h tt in
    rw e

-- ---------------------------------------------------------------- numerals

not_digit : (c : ℕ) → T (word_end c) → T (not (digit c))
not_digit c h = or_elim (eqb c 32) (eqb c 41) h (λ e. rw (eqb→eq c 32 e) tt) (λ e. rw (eqb→eq c 41 e) tt)

not-binary : (c : ℕ) → T (word_end c) → T (not (binary_digit c))
not-binary c h = or_elim (eqb c 32) (eqb c 41) h (λ e. rw (eqb→eq c 32 e) tt) (λ e. rw (eqb→eq c 41 e) tt)

begins-as : (p q : ℕ → Bool) → ((c : ℕ) → T (p c) → T (q c)) → (r : List ℕ) → Begins p r → Begins q r
begins-as p q f [] h = absurd h
begins-as p q f (c ∷ r) h = f c h

fails-double : (p : ℕ → Bool) (w : List ℕ) → All p w → Fails (λ c. not (p c)) w
fails-double p [] h = tt
fails-double p (c ∷ w) (h, k) = (rw (T→true (p c) h) tt, fails-double p w k)

pub read-numeral : (k : ℕ) (r : List ℕ) → Begins word_end r → read_numeral (decimal k ++ r) ≡ took k r
unfolding read_numeral numeral_from numeral_is
read-numeral k r b =
    let n = decimal-numeral k in
    let e = up-to (λ c. not (digit c)) (decimal k) r (fails-double digit (decimal k) n.digits) (begins-as word_end (λ c. not (digit c)) not_digit r b) in
    let s : same (decimal k) (decimal k) ≡ true = T→true (same (decimal k) (decimal k)) (same_refl (decimal k)) in
    ap numeral_from e ∙ rw (n.value, s)

-- the texts of numerals begin as words end
numerals-begin : (ks : List ℕ) (r : List ℕ) → Begins word_end r → Begins word_end (numerals_text ks ++ r)
unfolding numerals_text bytes
numerals-begin [] r b = b
numerals-begin (k ∷ ks) r b = tt

read-numerals : (ks : List ℕ) (f : ℕ) (r : List ℕ) → length (numerals_text ks) < f → read_numerals f (numerals_text ks ++ (41 ∷ r)) ≡ took ks r
unfolding numerals_text bytes read_numerals and_then
read-numerals ks zero r l = absurd (omega arith)
read-numerals [] (suc f) r l = refl
read-numerals (k ∷ ks) (suc f) r l =
    let e : (decimal k ++ numerals_text ks) ++ (41 ∷ r) ≡ decimal k ++ (numerals_text ks ++ (41 ∷ r)) = append_assoc (decimal k) (numerals_text ks) (41 ∷ r) in
    let n = read-numeral k (numerals_text ks ++ (41 ∷ r)) (numerals-begin ks (41 ∷ r) tt) in
    let m = length-append (decimal k) (numerals_text ks) in
    let q = read-numerals ks f r (omega arith) in
    rw (e, n, q)

-- ---------------------------------------------------------------- constants

binary-digits : (bs : List ℕ) → T (every (λ b. leb b 1) bs) → All binary_digit (binary_digits bs)
unfolding binary_digits
binary-digits [] h = tt
binary-digits (b ∷ bs) h = all_append binary_digit (binary_digits bs) ((48 + b) ∷ []) (binary-digits bs (and-1 (leb b 1) _ h)) (one-digit b (and_0 (leb b 1) _ h), tt)
  where
    one-digit : (b : ℕ) → T (leb b 1) → T (binary_digit (48 + b))
    one-digit zero h = tt
    one-digit (suc zero) h = tt
    one-digit (suc (suc b)) h = absurd (let l = lib.Dec.leb→le (suc (suc b)) 1 h in omega arith)

read-constant : (bs : List ℕ) → T (every (λ b. leb b 1) bs) → (r : List ℕ) → Begins word_end r → read_constant (98 ∷ (binary_digits bs ++ r)) ≡ took (constant bs) r
unfolding read_constant bytes and_then expect
read-constant bs h r b =
    let e = up-to (λ c. not (binary_digit c)) (binary_digits bs) r (fails-double binary_digit (binary_digits bs) (binary-digits bs h)) (begins-as word_end (λ c. not (binary_digit c)) not-binary r b) in
    rw (e, bits-of-digits bs)

-- ---------------------------------------------------------------- symbols

abbrev op_shape : Shape → Bool
op_shape var = false
op_shape const = false
op_shape binary = true
op_shape rotation = true
op_shape extraction = true
op_shape concat = true
op_shape extension = true
op_shape ite = true
op_shape comparison = true
op_shape negation = true
op_shape connective = true
op_shape unary = true
op_shape Shape.select = false
op_shape Shape.call = false
op_shape unknown = false

op-shape : (h : Shape) (i j m n : ℕ) → T (rule_of h i j m n).condition → T (op_shape h)
unfolding rule_of
op-shape var i j m n c = c
op-shape const i j m n c = c
op-shape binary i j m n c = tt
op-shape rotation i j m n c = tt
op-shape extraction i j m n c = tt
op-shape concat i j m n c = tt
op-shape extension i j m n c = tt
op-shape ite i j m n c = tt
op-shape comparison i j m n c = tt
op-shape negation i j m n c = tt
op-shape connective i j m n c = tt
op-shape unary i j m n c = tt
op-shape Shape.select i j m n c = c
op-shape Shape.call i j m n c = c
op-shape unknown i j m n c = c

is_kind : ℕ → Option ℕ → Bool
is_kind k none = false
is_kind k (some j) = eqb j k

is-kind : (k : ℕ) (o : Option ℕ) → T (is_kind k o) → o ≡ some k
unfolding is_kind
is-kind k none h = absurd h
is-kind k (some j) h = ap (λ (n : ℕ). some n) (eqb→eq j k h)

abbrev pub first_ok : List ℕ → Bool
first_ok [] = false
first_ok (c ∷ w) = not (eqb c 40) && not (eqb c 124)

good_symbol : ℕ → Bool
unfolding is_kind
good_symbol k =
    first_ok (symbol_of k) && (every (λ c. not (word_end c)) (symbol_of k) && (not (same (symbol_of k) (bytes "select")) && is_kind k (kind_of (symbol_of k))))

symbols-good : T (every_from (λ k. not (op_shape (shape_of k)) || good_symbol k) 0 39)
unfolding good_symbol symbol_of symbols shapes bytes same kind_of find_from
symbols-good = tt

pub record Symbol (k : ℕ) : Type 0 where
  pub first : T (first_ok (symbol_of k))
  pub word : Fails word_end (symbol_of k)
  pub plain : same (symbol_of k) (bytes "select") ≡ false
  pub kind : kind_of (symbol_of k) ≡ some k

symbol : (k : ℕ) → T (op_shape (shape_of k)) → Symbol k
unfolding good_symbol shapes
symbol k h = by_size (ltb k 39) refl
  where
    good : T (good_symbol k) → Symbol k
    good g =
        let g₁ = and-1 (first_ok (symbol_of k)) _ g in
        let g₂ = and-1 (every (λ c. not (word_end c)) (symbol_of k)) _ g₁ in
        record {
          first = and_0 (first_ok (symbol_of k)) _ g;
          word = by-test (λ c. not (word_end c)) (symbol_of k) (and_0 (every (λ c. not (word_end c)) (symbol_of k)) _ g₁);
          plain = not→false (same (symbol_of k) (bytes "select")) (and_0 (not (same (symbol_of k) (bytes "select"))) _ g₂);
          kind = is-kind k (kind_of (symbol_of k)) (and-1 (not (same (symbol_of k) (bytes "select"))) _ g₂);
        }

    by_size : (b : Bool) → ltb k 39 ≡ b → Symbol k
    by_size true e =
        let t = every-at (λ k. not (op_shape (shape_of k)) || good_symbol k) 0 39 symbols-good k (omega arith) (omega (arith, ltb→lt k 39 (true→T e))) in
        or_elim (not (op_shape (shape_of k))) (good_symbol k) t (λ n. absurd (T_not (op_shape (shape_of k)) n h)) good
    by_size false e =
        let u : shape_of k ≡ unknown = get_or-eq_default shapes unknown (nltb→le k 39 (rw e tt)) in
        absurd (subst (λ (s : Shape). T (op_shape s)) u h)

-- ---------------------------------------------------------------- terms

-- what a reader asks of the names that trees call by
pub record Barred (D : Declarations) : Type 0 where
  pub variables : (n : Name) (k : ℕ) → variable_number D n ≡ some k → NoBar n
  pub arrays : (n : Name) (k : ℕ) → array_number D n ≡ some k → NoBar n
  pub functions : (n : Name) (k : ℕ) → function_number D n ≡ some k → NoBar n
  pub apart : (n : Name) (k : ℕ) → function_number D n ≡ some k → variable_number D n ≡ none

terms-begin : (ts : Trees) (r : List ℕ) → Begins word_end (terms ts ++ (41 ∷ r))
unfolding term bytes
terms-begin noTrees r = tt
terms-begin (more t ts) r = tt

module _ (D : Declarations) where
  -- an operator without numerals, after its opening bracket
  open_plain : (w : List ℕ) (k : ℕ) → T (first_ok w) → Fails word_end w → same w (bytes "select") ≡ false → kind_of w ≡ some k → (ts : Trees) (f : ℕ) (r : List ℕ)
      → read_terms f D (terms ts ++ (41 ∷ r)) ≡ took ts r → read_open (suc f) D (w ++ (terms ts ++ (41 ∷ r))) ≡ took (apply k [] ts) r
  unfolding read_term and_then applied
  open_plain [] k g w p e ts f r h = absurd g
  open_plain (c ∷ w) k g fails p e ts f r h =
      let a = not→false (eqb c 40) (and_0 (not (eqb c 40)) (not (eqb c 124)) g) in
      let b = not→false (eqb c 124) (and-1 (not (eqb c 40)) (not (eqb c 124)) g) in
      let u = up-to word_end (c ∷ w) (terms ts ++ (41 ∷ r)) fails (terms-begin ts r) in
      rw (a, read_open, b, u, p, u, h, e)

  open-indexed : (w : List ℕ) (k : ℕ) → Fails word_end w → kind_of w ≡ some k → (j : ℕ) (js : List ℕ) (ts : Trees) (f : ℕ) (r : List ℕ) → length (numerals_text (j ∷ js)) < f
      → read_terms f D (terms ts ++ (41 ∷ r)) ≡ took ts r → read_open (suc f) D (40 ∷ 95 ∷ 32 ∷ (w ++ (numerals_text (j ∷ js) ++ (41 ∷ (terms ts ++ (41 ∷ r)))))) ≡ took (apply k (j ∷ js) ts) r
  unfolding read_term and_then applied applied_indexed expect bytes
  open-indexed w k fails e j js ts f r l h =
      let tail : List ℕ = 41 ∷ (terms ts ++ (41 ∷ r)) in
      let u = up-to word_end w (numerals_text (j ∷ js) ++ tail) fails (numerals-begin (j ∷ js) tail tt) in
      let n = read-numerals (j ∷ js) f (terms ts ++ (41 ∷ r)) l in
      rw (u, n, h, e)

  opened : (f : ℕ) (b : List ℕ) (t : Tree) (r : List ℕ) → read_open f D b ≡ took t r → read_term (suc f) D (40 ∷ b) ≡ took t r
  unfolding read_term
  opened f b t r h = h

  open-call : (n : Name) → NoBar n → (t : Tree) (ts : Trees) (f : ℕ) (r : List ℕ) → read_terms f D (terms (more t ts) ++ (41 ∷ r)) ≡ took (more t ts) r
      → read_open (suc f) D (124 ∷ (n ++ (124 ∷ (terms (more t ts) ++ (41 ∷ r))))) ≡ took (call n (more t ts)) r
  unfolding read_term and_then called
  open-call n b t ts f r h = rw (read_name n b (terms (more t ts) ++ (41 ∷ r)), h)

  -- ---------------------------------------------------------------- each form, by what is read of its parts

  close-name : (n : Name) (r : List ℕ) → (n ++ (124 ∷ [])) ++ r ≡ n ++ (124 ∷ r)
  close-name n r = append_assoc n (124 ∷ []) r

  term-named : (n : Name) → NoBar n → (t : Tree) → named_tree D n ≡ t → (f : ℕ) (r : List ℕ) → read_term (suc f) D (quoted n ++ r) ≡ took t r
  unfolding read_term quoted bytes and_then
  term-named n b t e f r = rw (close-name n r, read_name n b r, e)

  named-variable : (n : Name) (k : ℕ) → variable_number D n ≡ some k → named_tree D n ≡ variable n
  unfolding named_tree
  named-variable n k e = rw (e, named_tree)

  named-call : (n : Name) → variable_number D n ≡ none → named_tree D n ≡ call n noTrees
  unfolding named_tree
  named-call n e = rw (e, named_tree)

  term-constant : (bs : List ℕ) → T (every (λ b. leb b 1) bs) → (f : ℕ) (r : List ℕ) → Begins word_end r → read_term (suc f) D (term (constant bs) ++ r) ≡ took (constant bs) r
  unfolding read_term term bytes
  term-constant bs h f r b = read-constant bs h r b

  close-plain : (w t r : List ℕ) → (w ++ (t ++ (41 ∷ []))) ++ r ≡ w ++ (t ++ (41 ∷ r))
  close-plain w t r = append_assoc w (t ++ (41 ∷ [])) r ∙ ap (λ (x : List ℕ). w ++ x) (append_assoc t (41 ∷ []) r)

  term-plain : (k : ℕ) → Symbol k → (ts : Trees) (f : ℕ) (r : List ℕ) → read_terms f D (terms ts ++ (41 ∷ r)) ≡ took ts r
      → read_term (suc (suc f)) D (term (apply k [] ts) ++ r) ≡ took (apply k [] ts) r
  unfolding term operator_text bytes
  term-plain k s ts f r h =
      let e = close-plain (symbol_of k) (terms ts) r in
      let o = open_plain (symbol_of k) k s.first s.word s.plain s.kind ts f r h in
      opened (suc f) _ (apply k [] ts) r (rw e o)

  term-indexed : (k : ℕ) → Symbol k → (j : ℕ) (js : List ℕ) (ts : Trees) (f : ℕ) (r : List ℕ) → length (numerals_text (j ∷ js)) < f → read_terms f D (terms ts ++ (41 ∷ r)) ≡ took ts r
      → read_term (suc (suc f)) D (term (apply k (j ∷ js) ts) ++ r) ≡ took (apply k (j ∷ js) ts) r
  unfolding term operator_text bytes
  term-indexed k s j js ts f r l h =
      let w : List ℕ = symbol_of k in
      let m : List ℕ = numerals_text (j ∷ js) in
      let e : ((w ++ (m ++ (41 ∷ []))) ++ (terms ts ++ (41 ∷ []))) ++ r ≡ w ++ (m ++ (41 ∷ (terms ts ++ (41 ∷ r)))) =
      append_assoc (w ++ (m ++ (41 ∷ []))) (terms ts ++ (41 ∷ [])) r ∙ ap (λ (x : List ℕ). (w ++ (m ++ (41 ∷ []))) ++ x) (append_assoc (terms ts) (41 ∷ []) r) ∙ close-plain w m (terms ts ++ (41 ∷ r)) in
      opened (suc f) _ (apply k (j ∷ js) ts) r (rw e (open-indexed w k s.word s.kind j js ts f r l h))

  term-call : (n : Name) → NoBar n → (t : Tree) (ts : Trees) (f : ℕ) (r : List ℕ) → read_terms f D (terms (more t ts) ++ (41 ∷ r)) ≡ took (more t ts) r
      → read_term (suc (suc f)) D (term (call n (more t ts)) ++ r) ≡ took (call n (more t ts)) r
  unfolding term call_text quoted bytes
  term-call n b t ts f r h =
      let x : List ℕ = terms (more t ts) in
      let e : ((n ++ (124 ∷ [])) ++ (x ++ (41 ∷ []))) ++ r ≡ n ++ (124 ∷ (x ++ (41 ∷ r))) =
      append_assoc (n ++ (124 ∷ [])) (x ++ (41 ∷ [])) r ∙ ap (λ (y : List ℕ). (n ++ (124 ∷ [])) ++ y) (append_assoc x (41 ∷ []) r) ∙ close-name n (x ++ (41 ∷ r)) in
      opened (suc f) _ (call n (more t ts)) r (rw e (open-call n b t ts f r h))

  terms-more : (t : Tree) (ts : Trees) (f : ℕ) (r : List ℕ) → read_term f D (term t ++ (terms ts ++ (41 ∷ r))) ≡ took t (terms ts ++ (41 ∷ r)) → read_terms f D (terms ts ++ (41 ∷ r)) ≡ took ts r
      → read_terms (suc f) D (terms (more t ts) ++ (41 ∷ r)) ≡ took (more t ts) r
  unfolding read_term term bytes and_then
  terms-more t ts f r h k =
      let e : (term t ++ terms ts) ++ (41 ∷ r) ≡ term t ++ (terms ts ++ (41 ∷ r)) = append_assoc (term t) (terms ts) (41 ∷ r) in
      rw (e, h, k)

  stored-array : (a : Name) → NoBar a → (f : ℕ) (r : List ℕ) → read_stored (suc f) D (stores a base ++ r) ≡ took (record { array = a; stores = base }) r
  unfolding read_term term quoted bytes and_then
  stored-array a b f r = rw (close-name a r, read_name a b r)

  stored-store : (a : Name) (i v : Tree) (qs : Stores) (f : ℕ) (r : List ℕ)
      → ((y : List ℕ) → Begins word_end y → read_stored f D (stores a qs ++ y) ≡ took (record { array = a; stores = qs }) y)
      → ((y : List ℕ) → Begins word_end y → read_term f D (term i ++ y) ≡ took i y) → ((y : List ℕ) → Begins word_end y → read_term f D (term v ++ y) ≡ took v y)
      → read_stored (suc f) D (stores a (store i v qs) ++ r) ≡ took (record { array = a; stores = store i v qs }) r
  unfolding read_term term bytes and_then expect
  stored-store a i v qs f r hs hi hv =
      let A : List ℕ = stores a qs in
      let e : (A ++ (32 ∷ (term i ++ (32 ∷ (term v ++ (41 ∷ [])))))) ++ r ≡ A ++ (32 ∷ (term i ++ (32 ∷ (term v ++ (41 ∷ r))))) =
      append_assoc A _ r ∙ ap (λ (x : List ℕ). A ++ (32 ∷ x)) (append_assoc (term i) _ r ∙ ap (λ (x : List ℕ). term i ++ (32 ∷ x)) (append_assoc (term v) (41 ∷ []) r)) in
      rw (e, hs (32 ∷ (term i ++ (32 ∷ (term v ++ (41 ∷ r))))) tt, hi (32 ∷ (term v ++ (41 ∷ r))) tt, hv (41 ∷ r) tt)

  term-select : (a : Name) (j : Tree) (qs : Stores) (f : ℕ) (r : List ℕ)
      → ((y : List ℕ) → Begins word_end y → read_stored f D (stores a qs ++ y) ≡ took (record { array = a; stores = qs }) y)
      → ((y : List ℕ) → Begins word_end y → read_term f D (term j ++ y) ≡ took j y)
      → read_term (suc (suc f)) D (term (select a j qs) ++ r) ≡ took (select a j qs) r
  unfolding read_term term bytes and_then expect up_to same
  term-select a j qs f r hs hj =
      let A : List ℕ = stores a qs in
      let e : (A ++ (32 ∷ (term j ++ (41 ∷ [])))) ++ r ≡ A ++ (32 ∷ (term j ++ (41 ∷ r))) = append_assoc A _ r ∙ ap (λ (x : List ℕ). A ++ (32 ∷ x)) (append_assoc (term j) (41 ∷ []) r) in
      rw (e, hs (32 ∷ (term j ++ (41 ∷ r))) tt, hj (41 ∷ r) tt)

  -- ---------------------------------------------------------------- lengths: fuel for a text is fuel for its parts

  plain-length : (k : ℕ) (ts : Trees) → suc (suc (length (terms ts))) ≤ length (term (apply k [] ts))
  unfolding term operator_text bytes
  plain-length k ts =
      let a = length-append (symbol_of k) (terms ts ++ (41 ∷ [])) in
      let b = length-append (terms ts) (41 ∷ []) in
      omega arith

  indexed-length : (k j : ℕ) (js : List ℕ) (ts : Trees) → suc (suc (length (numerals_text (j ∷ js)) + length (terms ts))) ≤ length (term (apply k (j ∷ js) ts))
  unfolding term operator_text bytes
  indexed-length k j js ts =
      let m : List ℕ = numerals_text (j ∷ js) in
      let w : List ℕ = symbol_of k in
      let a = length-append (w ++ (m ++ (41 ∷ []))) (terms ts ++ (41 ∷ [])) in
      let b = length-append w (m ++ (41 ∷ [])) in
      let c = length-append m (41 ∷ []) in
      let e = length-append (terms ts) (41 ∷ []) in
      omega arith

  call_length : (n : Name) (t : Tree) (ts : Trees) → suc (suc (length (terms (more t ts)))) ≤ length (term (call n (more t ts)))
  unfolding term call_text quoted bytes
  call_length n t ts =
      let x : List ℕ = terms (more t ts) in
      let a = length-append (n ++ (124 ∷ [])) (x ++ (41 ∷ [])) in
      let b = length-append x (41 ∷ []) in
      omega arith

  select-length : (a : Name) (j : Tree) (qs : Stores) → suc (suc (length (stores a qs) + length (term j))) ≤ length (term (select a j qs))
  unfolding term bytes
  select-length a j qs =
      let b = length-append (stores a qs) (32 ∷ (term j ++ (41 ∷ []))) in
      let c = length-append (term j) (41 ∷ []) in
      omega arith

  store_length : (a : Name) (i v : Tree) (qs : Stores) → suc (length (stores a qs) + (length (term i) + length (term v))) ≤ length (stores a (store i v qs))
  unfolding term bytes
  store_length a i v qs =
      let b = length-append (stores a qs) (32 ∷ (term i ++ (32 ∷ (term v ++ (41 ∷ []))))) in
      let c = length-append (term i) (32 ∷ (term v ++ (41 ∷ []))) in
      let e = length-append (term v) (41 ∷ []) in
      omega arith

  more-length : (t : Tree) (ts : Trees) → length (terms (more t ts)) ≡ suc (length (term t) + length (terms ts))
  unfolding term bytes
  more-length t ts = ap suc (length-append (term t) (terms ts))

  none-terms : (f : ℕ) (r : List ℕ) → read_terms (suc f) D (terms noTrees ++ (41 ∷ r)) ≡ took noTrees r
  unfolding read_term term
  none-terms f r = refl

  call_none : (n : Name) → term (call n noTrees) ≡ quoted n
  unfolding term call_text
  call_none n = refl

  variable-text : (n : Name) → term (variable n) ≡ quoted n
  unfolding term
  variable-text n = refl

  operator-symbol : (k : ℕ) (ks : List ℕ) (os : List (Option TreeSort)) (σ : TreeSort) → operator_sort (shape_of k) ks os ≡ some σ → Symbol k
  operator-symbol k ks os σ h = symbol k (op-shape (shape_of k) _ _ _ _ (operator-met (shape_of k) ks os σ h).condition)

  -- ---------------------------------------------------------------- every tree

  module _ (b : Barred D) where
    mutual
      unfolding sort_under

      pub read-term : (t : Tree) (σ : TreeSort) (f : ℕ) (r : List ℕ) → tree_sort D t ≡ some σ → length (term t) < f → Begins word_end r → read_term f D (term t ++ r) ≡ took t r
      read-term t σ zero r h l e = absurd (omega arith)
      read-term (variable n) σ (suc f) r h l e =
          let (q, m, s) = variable-known D n σ h in
          rw (variable-text n) (term-named n (b.variables n (number_or0 (variable_number D n)) q) (variable n) (named-variable n (number_or0 (variable_number D n)) q) f r)
      read-term (constant bs) σ (suc f) r h l e = term-constant bs (and-1 (width_ok (length bs)) (every (λ b. leb b 1) bs) (constant-ok D bs σ h).0) f r e
      read-term (apply k [] ts) σ (suc zero) r h l e = absurd (let m = plain-length k ts in omega arith)
      read-term (apply k (j ∷ js) ts) σ (suc zero) r h l e = absurd (let m = indexed-length k j js ts in omega arith)
      read-term (apply k [] ts) σ (suc (suc f)) r h l e =
          let m = plain-length k ts in
          term-plain k (operator-symbol k [] (tree_sorts D ts) σ h) ts f r (read-terms ts (rule_for (shape_of k) [] (tree_sorts D ts)).operands f r (operands-are (shape_of k) [] (tree_sorts D ts) σ h) (omega arith))
      read-term (apply k (j ∷ js) ts) σ (suc (suc f)) r h l e =
          let m = indexed-length k j js ts in
          term-indexed k (operator-symbol k (j ∷ js) (tree_sorts D ts) σ h) j js ts f r (omega arith)
          (read-terms ts (rule_for (shape_of k) (j ∷ js) (tree_sorts D ts)).operands f r (operands-are (shape_of k) (j ∷ js) (tree_sorts D ts) σ h) (omega arith))
      read-term (select a j qs) σ (suc zero) r h l e = absurd (let m = select-length a j qs in omega arith)
      read-term (select a j qs) σ (suc (suc f)) r h l e =
          let (q, la, sj, fits, s) = select-known D a j qs σ h in
          let n : ℕ = number_or0 (array_number D a) in
          let m = select-length a j qs in
          term-select a j qs f r (λ y c. read-stored (array_at D n).index (array_at D n).value a (b.arrays a n q) qs f y fits (omega arith))
          (λ y c. read-term j (bits (array_at D n).index) f y sj (omega arith) c)
      read-term (call n noTrees) σ (suc f) r h l e =
          let (q, g, s, w) = call_known D n noTrees σ h in
          let k : ℕ = number_or0 (function_number D n) in
          rw (call_none n) (term-named n (b.functions n k q) (call n noTrees) (named-call n (b.apart n k q)) f r)
      read-term (call n (more t ts)) σ (suc zero) r h l e = absurd (let m = call_length n t ts in omega arith)
      read-term (call n (more t ts)) σ (suc (suc f)) r h l e =
          let (q, g, s, w) = call_known D n (more t ts) σ h in
          let k : ℕ = number_or0 (function_number D n) in
          let m = call_length n t ts in
          term-call n (b.functions n k q) t ts f r (read-terms (more t ts) (map bits (function_at D k).arguments) f r s (omega arith))

      pub read-terms : (ts : Trees) (us : List TreeSort) (f : ℕ) (r : List ℕ) → tree_sorts D ts ≡ map some us → length (terms ts) < f → read_terms f D (terms ts ++ (41 ∷ r)) ≡ took ts r
      read-terms ts us zero r h l = absurd (omega arith)
      read-terms noTrees us (suc f) r h l = none-terms f r
      read-terms (more t ts) [] (suc f) r h l = absurd (let z : ◌≡◌ {A = ℕ} 0 1 = cc in omega arith)
      read-terms (more t ts) (σ ∷ us) (suc f) r h l =
          let m = more-length t ts in
          let e : tree_sort D t ≡ some σ = cc in
          let g : tree_sorts D ts ≡ map some us = cc in
          terms-more t ts f r (read-term t σ f (terms ts ++ (41 ∷ r)) e (omega arith) (terms-begin ts r)) (read-terms ts us f r g (omega arith))

      pub read-stored : (iw vw : ℕ) (a : Name) → NoBar a → (qs : Stores) (f : ℕ) (r : List ℕ) → T (stores_have D none_bound iw vw qs) → length (stores a qs) < f
          → read_stored f D (stores a qs ++ r) ≡ took (record { array = a; stores = qs }) r
      read-stored iw vw a nb qs zero r h l = absurd (omega arith)
      read-stored iw vw a nb base (suc f) r h l = stored-array a nb f r
      read-stored iw vw a nb (store i v qs) (suc f) r h l =
          let m = store_length a i v qs in
          let h' : T (has_sort (tree_sort D i) (bits iw) && (has_sort (tree_sort D v) (bits vw) && stores_have D none_bound iw vw qs)) = h in
          let ei : tree_sort D i ≡ some (bits iw) = has-eq (tree_sort D i) (bits iw) (and_0 (has_sort (tree_sort D i) (bits iw)) _ h') in
          let h₁ = and-1 (has_sort (tree_sort D i) (bits iw)) _ h' in
          let ev : tree_sort D v ≡ some (bits vw) = has-eq (tree_sort D v) (bits vw) (and_0 (has_sort (tree_sort D v) (bits vw)) _ h₁) in
          stored-store a i v qs f r
          (λ y c. read-stored iw vw a nb qs f y (and-1 (has_sort (tree_sort D v) (bits vw)) _ h₁) (omega arith))
          (λ y c. read-term i (bits iw) f y ei (omega arith) c)
          (λ y c. read-term v (bits vw) f y ev (omega arith) c)
