-- Laws of lines one after the other.
use Prim.Native.Nat.{ℕ, zero, suc, ◌+◌, ◌-◌, ◌≤◌, ◌<◌}
use Rattle.std.specs.Prelude.{◌≡◌, Bool, true, false, ◌||◌, not, T, eqb, drop}
use Rattle.std.proofs.Math.Path.{refl, sym}
use Rattle.std.proofs.Common.{ap, ◌∙◌, subst, eqb→eq}
use mathlib.Core.List.{List, [], ◌∷◌, ◌++◌, map, append_assoc, append-nil}
use Rattle.std.specs.Prelude.{Option as Maybe, Some, None}
use Rattle.std.proofs.Math.Option.{Option, none}
use native.Mathlib.Omega.{arith}
use Rattle.std.proofs.lemmas.Bool.{eqb-false}
use Rattle.std.proofs.Math.ListN.{length, length-drop}
use Rattle.lists.specs.Bytes.{bytes}
use Rattle.lists.specs.Tests.{same, in_list, every, true→T}
use Rattle.reading.specs.Trees.{Name}
use Rattle.echo_spec.specs.Names.{byte_ok, first_ok, reserved, entry_ok}
use Rattle.readback.specs.Reader.{Took, took, and_then, expect, up_to, name_read}
use Rattle.reader_laws.specs.TermsStrict.{expected}
use Rattle.script_tokens.specs.Reached.{between, NameTo}
use Rattle.script_names.specs.Entries.{after_bar, entry_from, name_at, Named, Sought, Tabled}
use Rattle.script_names.specs.Laws.{taken, entry_next, entered-name}
use Rattle.script_names.specs.declared.Found.{Found}
use Rattle.script_names.specs.declared.Table.{Table}
use Rattle.script_decls.specs.declared.Lines.{Lines}
use Rattle.script_decls.specs.Lines.{LineType, name_in, word_of, line_of, checked, TailAt, TailTo, LineAt, names_to, Ready, StageAt, StageTo}
use Rattle.script_decls.specs.Tails.{word-less}

-- ---------------------------------------------------------------- one line

pub word-bar : (k : ℕ) (y : List ℕ) → after_bar (word_of k ++ y) ≡ y
unfolding after_bar up_to bytes
word-bar zero y = refl
word-bar (suc zero) y = refl
word-bar (suc (suc k)) y = refl

module _ (k : ℕ) (s : List ℕ) (at : ℕ) where
  pub line-no-head : expect (word_of k) (drop at s) ≡ none → line_of k (drop at s) ≡ none
  unfolding line_of and_then
  line-no-head h = rw h

  module _ (a : ℕ) (h : expect (word_of k) (drop at s) ≡ took [] (drop a s)) where
    pub line-no-name : name_read (drop a s) ≡ none → line_of k (drop at s) ≡ none
    unfolding line_of and_then
    line-no-name g = rw (h, g)

    module _ (f : ℕ) (g : Named s a f) where
      pub line-no-tail : TailTo k s f None → line_of k (drop at s) ≡ none
      unfolding line_of and_then
      line-no-tail q = rw (h, g.read) (q (between s a (f - 1)))

      pub line-whole : (e : ℕ) → at ≤ length s → TailAt k s f e → LineAt k s at a f e
      unfolding line_of and_then
      line-whole e l q =
          let w = expected (word_of k) (drop at s) [] (drop a s) h in
          let x = word-less (word_of k) (drop at s) [] (drop a s) h in
          let y = length-drop at s in
          let z = length-drop a s in
          record {
            named = g;
            from = omega (arith, g.low, g.high);
            low = q.low;
            high = q.high;
            start = sym (ap after_bar w ∙ word-bar k (drop a s));
            tail = q.tail;
            value = q.value (between s a (f - 1));
            read = rw (h, g.read) (q.read (between s a (f - 1)));
            name = q.name (between s a (f - 1));
          }

-- ---------------------------------------------------------------- names declared before

in-snoc : (n m : Name) (xs : List Name) → in_list n (xs ++ (m ∷ [])) ≡ (in_list n xs || same n m)
in-snoc n m [] = or-false (same n m)
  where
    or-false : (b : Bool) → (b || false) ≡ b
    or-false true = refl
    or-false false = refl
in-snoc n m (x ∷ xs) = by_first (same n x) (in-snoc n m xs)
  where
    by_first : (b : Bool) → in_list n (xs ++ (m ∷ [])) ≡ (in_list n xs || same n m) → (b || in_list n (xs ++ (m ∷ []))) ≡ ((b || in_list n xs) || same n m)
    by_first true e = refl
    by_first false e = e

names-without : (b : List ℕ) (n : Name) (c : ℕ) → ((j : ℕ) → j < c → same n (name_at b j) ≡ false) → in_list n (names_to b c) ≡ false
unfolding names_to
names-without b n zero f = refl
names-without b n (suc c) f = in-snoc n (name_at b c) (names_to b c) ∙ rw (names-without b n c (λ j l. f j (omega arith)), f c (omega arith))

or-true : (b : Bool) → (b || true) ≡ true
or-true true = refl
or-true false = refl

names-with : (b : List ℕ) (n : Name) (c k : ℕ) → k < c → same n (name_at b k) ≡ true → in_list n (names_to b c) ≡ true
unfolding names_to
names-with b n zero k l e = absurd (omega arith)
names-with b n (suc c) k l e = in-snoc n (name_at b c) (names_to b c) ∙ by_place (eqb k c) refl (λ m. names-with b n c k m e)
  where
    by_place : (t : Bool) → eqb k c ≡ t → (k < c → in_list n (names_to b c) ≡ true) → (in_list n (names_to b c) || same n (name_at b c)) ≡ true
    by_place true q rest = rw (subst (λ (i : ℕ). same n (name_at b i) ≡ true) (eqb→eq k c (true→T q)) e) (or-true (in_list n (names_to b c)))
    by_place false q rest = let g = eqb-false k c q in rw (rest (omega arith)) refl

pub no_way : {P : Type 0} → false ≡ true → P
no_way e = absurd (subst T (sym e) tt)

module _ (before : List Name) (n : Name) where
  pub name-bytes : {r : Bool} → r ≡ every byte_ok n → r ≡ false → false ≡ entry_ok before n
  unfolding entry_ok
  name-bytes e q = rw (sym e ∙ q) refl

  module _ {r₁ : Bool} (e₁ : r₁ ≡ every byte_ok n) (q₁ : r₁ ≡ true) where
    pub name-first : {r : Bool} → r ≡ first_ok n → r ≡ false → false ≡ entry_ok before n
    unfolding entry_ok
    name-first e q = rw (sym e₁ ∙ q₁, sym e ∙ q) refl

    module _ {r₂ : Bool} (e₂ : r₂ ≡ first_ok n) (q₂ : r₂ ≡ true) where
      pub name-reserved : {r : Bool} → r ≡ in_list n reserved → r ≡ true → false ≡ entry_ok before n
      unfolding entry_ok
      name-reserved e q = rw (sym e₁ ∙ q₁, sym e₂ ∙ q₂, sym e ∙ q) refl

      module _ {r₃ : Bool} (e₃ : r₃ ≡ in_list n reserved) (q₃ : r₃ ≡ false) where
        pub name-before : (b : Bool) → in_list n before ≡ b → not b ≡ entry_ok before n
        unfolding entry_ok
        name-before b g = rw (sym e₁ ∙ q₁, sym e₂ ∙ q₂, sym e₃ ∙ q₃, g) refl

pub found_before : (s : List ℕ) (first count : ℕ) (n : Name) {x : Found} → Sought s first count n (Some x) → in_list n (names_to (drop first s) count) ≡ true
found_before s first count n {x} h = names-with (drop first s) n count x.line h.0 h.3

pub not-before : (s : List ℕ) (first count : ℕ) (n : Name) → Sought s first count n None → in_list n (names_to (drop first s) count) ≡ false
not-before s first count n h = names-without (drop first s) n count h

-- ---------------------------------------------------------------- lines

none_then : {A B : Type 0} (f : A → List ℕ → Option (Took B)) → and_then none f ≡ none
unfolding and_then
none_then f = refl

then_some : {A B : Type 0} (x : A) (r : List ℕ) (f : A → List ℕ → Option (Took B)) → and_then (took x r) f ≡ f x r
unfolding and_then
then_some x r f = refl

module _ (k : ℕ) (s : List ℕ) (first : ℕ) where
  abbrev B : List ℕ
  B = drop first s

  -- no further line
  pub stage-end : (t : Table) (c p : ℕ) → Ready s first t c p → line_of k (drop p s) ≡ none → StageAt k s first c p t c p
  unfolding checked
  stage-end t c p y e = record {
    lines = [];
    read = read;
    counted = omega arith;
    names = sym (append-nil (names_to B c));
    ready = y;
  }
    where
      read : (f : ℕ) → length (drop p s) < f → checked k f (names_to B c) (drop p s) ≡ took [] (drop p s)
      read zero m = absurd (omega arith)
      read (suc f) m = rw (e, checked)

  module _ (c p a f e : ℕ) (x : LineAt k s p a f e) where
    -- a name that may not be declared
    pub stage-bad : (t : Table) → entry_ok (names_to B c) (between s a (f - 1)) ≡ false → StageTo k s first c p t None
    unfolding checked
    stage-bad t q zero m = refl
    stage-bad t q (suc g) m = rw (x.read, checked, x.name, q) refl

    module _ (t t' : Table) (y : Ready s first t c p) where
      pub here-name : drop a s ≡ entry_from c B
      here-name = x.start ∙ sym y.here

      pub ready-more : Tabled s first t' (c + 1) → Ready s first t' (c + 1) e
      ready-more z = record {
        begin = y.begin;
        place = x.high;
        few = omega (arith, y.few, x.from, x.low);
        tabled = z;
        here = sym (entry_next c B (drop a s) (drop f s) (after_bar (drop e s)) here-name
            (sym (taken (drop a s) (between s a (f - 1)) (drop f s) x.named.read).after) (sym x.tail));
      }

      name-here : name_at B c ≡ name_in k x.value
      name-here = entered-name s a f (entry_from c B) x.named here-name ∙ sym x.name

      names_more : names_to B (c + 1) ≡ names_to B c ++ (name_in k x.value ∷ [])
      unfolding names_to
      names_more = let z : c + 1 ≡ suc c = omega arith in rw z (ap (λ (n : Name). names_to B c ++ (n ∷ [])) name-here)

      less : length (drop e s) < length (drop p s)
      less = let u = length-drop e s in let v = length-drop p s in omega (arith, x.from, x.low, x.high)

      step : entry_ok (names_to B c) (between s a (f - 1)) ≡ true → (g : ℕ)
          → checked k (suc g) (names_to B c) (drop p s) ≡ and_then (checked k g (names_to B (c + 1)) (drop e s)) (λ xs r. took (x.value ∷ xs) r)
      unfolding checked
      step q g = rw (x.read, checked, x.name ∙ refl, q) (ap (λ (ns : List Name). and_then (checked k g ns (drop e s)) (λ xs r. took (x.value ∷ xs) r)) (ap (λ (n : Name). names_to B c ++ (n ∷ [])) (sym x.name) ∙ sym names_more))

      pub stage-more : (u : Table) → entry_ok (names_to B c) (between s a (f - 1)) ≡ true → (r : Maybe Lines) → StageTo k s first (c + 1) e u r → StageTo k s first c p u r
      stage-more u q None h = by-none h
        where
          by-none : StageTo k s first (c + 1) e u None → StageTo k s first c p u None
          by-none h zero m = absurd (omega arith)
          by-none h (suc g) m = step q g ∙ rw (h g (omega (arith, less))) (none_then (λ xs r. took (x.value ∷ xs) r))
      stage-more u q (Some l) h = record {
        lines = x.value ∷ h.lines;
        read = read;
        counted = omega (arith, h.counted);
        names = h.names ∙ ap (λ (ns : List Name). ns ++ map (name_in k) h.lines) names_more ∙ append_assoc (names_to B c) (name_in k x.value ∷ []) (map (name_in k) h.lines);
        ready = h.ready;
      }
        where
          read : (g : ℕ) → length (drop p s) < g → checked k g (names_to B c) (drop p s) ≡ took (x.value ∷ h.lines) (drop l.end s)
          read zero m = absurd (omega arith)
          read (suc g) m = step q g ∙ ap (λ (o : Option (Took (List (LineType k)))). and_then o (λ xs r. took (x.value ∷ xs) r)) (h.read g (omega (arith, less))) ∙ then_some h.lines (drop l.end s) (λ xs r. took (x.value ∷ xs) r)

-- ---------------------------------------------------------------- what was answered

pub named-of : (s : List ℕ) (a : ℕ) {f : ℕ} → NameTo s a (name_read (drop a s)) (Some f) → Named s a f
named-of s a x = record { low = x.0; high = x.1; read = x.2 }
