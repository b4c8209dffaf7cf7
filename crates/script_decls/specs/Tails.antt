-- Laws of the rest of a line after its name, a step at a time.
use Prim.Native.Nat.{ℕ, zero, suc, ◌+◌, ◌≤◌, ◌<◌}
use Rattle.std.specs.Prelude.{◌≡◌, Bool, true, ◌&&◌, cond, T, eqb, ltb, leb, get_or}
use Rattle.std.proofs.Math.Path.{refl, ap}
use Rattle.std.proofs.Common.{sym, ◌∙◌, eqb→eq, length-append, drop_of_length-le}
use mathlib.Core.List.{List, [], ◌∷◌}
use Rattle.std.proofs.Math.Bool.{false}
use Rattle.std.specs.Prelude.{Option as Maybe, Some, None}
use Rattle.std.proofs.Math.Option.{Option, none}
use native.Mathlib.Omega.{arith}
use Rattle.std.proofs.Math.ListN.{length, drop, length-drop}
use Rattle.lists.specs.Bytes.{bytes}
use Rattle.lists.specs.Tests.{every, no→false}
use Rattle.echo_spec.specs.Input.{largest}
use Rattle.echo_spec.specs.Render.{decimal}
use Rattle.readback.specs.Reader.{Took, took, and_then, expect, read_numeral}
use Rattle.readback.specs.ScriptReader.{read_sort, separator}
use Rattle.reader_laws.specs.TermsStrict.{impossible, and-then, took-both, expected, numeral-strict}
use Rattle.script_tokens.specs.Stretches.{bytes-at}
use Rattle.script_names.specs.Entries.{after_bar}
use Rattle.script_decls.specs.Lines.{sort_in, sorts_in, variable_tail, array_tail_of, function_tail, TailTo}
use Rattle.script_decls.specs.Sorts.{no_bar, pass-word, pass-sort}

-- ---------------------------------------------------------------- places

pub word-less : (w b v r : List ℕ) → expect w b ≡ took v r → length w + length r ≡ length b
word-less w b v r e = sym (length-append w r) ∙ ap length (sym (expected w b v r e))

pub sort-less : (limit : ℕ) (b : List ℕ) (w : ℕ) (r : List ℕ) → sort_in limit b ≡ took w r → length r < length b
unfolding sort_in read_sort bytes
sort-less limit b w r e =
    let (x, q, h, g) = and-then (read_sort b) _ w r e in
    let m : q ≡ r = in-range x q (ltb 0 x && leb x limit) g in
    let (v₁, b₁, e₁, g₁) = and-then (expect (bytes "(_ BitVec ") b) _ x q h in
    let (k, b₂, e₂, g₂) = and-then (read_numeral b₁) _ x q g₁ in
    let (v₃, b₃, e₃, g₃) = and-then (expect (bytes ")") b₂) _ x q g₂ in
    let n : b₃ ≡ q = (took-both k x b₃ q g₃).1 in
    let l₁ = word-less (bytes "(_ BitVec ") b v₁ b₁ e₁ in
    let l₂ : length (decimal k) + length b₂ ≡ length b₁ = sym (length-append (decimal k) b₂) ∙ ap length (sym (numeral-strict b₁ k b₂ e₂)) in
    let l₃ = word-less (bytes ")") b₂ v₃ b₃ e₃ in
    let l₄ : length b₃ ≡ length r = ap length (n ∙ m) in
    omega arith
  where
    in-range : (x : ℕ) (q : List ℕ) (y : Bool) → cond y (took x q) none ≡ took w r → q ≡ r
    in-range x q true g = (took-both x w q r g).1
    in-range x q false g = absurd (impossible g)

-- a place with fewer bytes after it is later
later : (s : List ℕ) (a e : ℕ) → a ≤ length s → e ≤ length s → length (drop e s) ≤ length (drop a s) → a ≤ e
later s a e l m h =
    let x = length-drop a s in
    let y = length-drop e s in
    omega arith

-- one step of a line: a later place, and no bar between
pub record Past (s : List ℕ) (a e : ℕ) : Type 0 where
  pub low : a ≤ e
  pub tail : after_bar (drop a s) ≡ after_bar (drop e s)

pub past_word : (w s : List ℕ) (v : List ℕ) (a e : ℕ) → T (every no_bar w) → a ≤ length s → e ≤ length s → expect w (drop a s) ≡ took v (drop e s) → Past s a e
past_word w s v a e h l m q = record {
  low = later s a e l m (let x = word-less w (drop a s) v (drop e s) q in omega arith);
  tail = pass-word w (drop a s) v (drop e s) h q;
}

pub past-sort : (limit : ℕ) (s : List ℕ) (w a e : ℕ) → a ≤ length s → e ≤ length s → sort_in limit (drop a s) ≡ took w (drop e s) → Past s a e
past-sort limit s w a e l m q = record { low = later s a e l m (let x = sort-less limit (drop a s) w (drop e s) q in omega arith); tail = pass-sort limit (drop a s) w (drop e s) q }

pub past-both : {s : List ℕ} {a b c : ℕ} → Past s a b → Past s b c → Past s a c
past-both {s} {a} {b} {c} x y = record { low = omega (arith, x.low, y.low); tail = x.tail ∙ y.tail }

-- ---------------------------------------------------------------- variables

module _ (s : List ℕ) (f : ℕ) where
  pub variable-1 : expect (bytes " ") (drop f s) ≡ none → TailTo 0 s f None
  unfolding variable_tail and_then
  variable-1 h n = rw h

  pub variable-2 : (a : ℕ) → expect (bytes " ") (drop f s) ≡ took [] (drop a s) → sort_in largest (drop a s) ≡ none → TailTo 0 s f None
  unfolding variable_tail and_then
  variable-2 a h g n = rw (h, g)

  pub variable-3 : (a w e : ℕ) → expect (bytes " ") (drop f s) ≡ took [] (drop a s) → sort_in largest (drop a s) ≡ took w (drop e s) → expect (bytes ")\n") (drop e s) ≡ none → TailTo 0 s f None
  unfolding variable_tail and_then
  variable-3 a w e h g k n = rw (h, g, k)

  pub variable-whole : (a w e z : ℕ) → f ≤ length s → a ≤ length s → e ≤ length s → z ≤ length s → expect (bytes " ") (drop f s) ≡ took [] (drop a s)
      → sort_in largest (drop a s) ≡ took w (drop e s) → expect (bytes ")\n") (drop e s) ≡ took [] (drop z s) → TailTo 0 s f (Some z)
  unfolding variable_tail and_then bytes
  variable-whole a w e z l₁ l₂ l₃ l₄ h g k =
      let p : Past s f z = past-both (past_word (bytes " ") s [] f a tt l₁ l₂ h) (past-both (past-sort largest s w a e l₂ l₃ g) (past_word (bytes ")\n") s [] e z tt l₃ l₄ k)) in
      record { low = p.low; high = l₄; tail = p.tail; value = λ n. record { name = n; width = w }; read = λ n. rw (h, g, k); name = λ n. refl }

-- ---------------------------------------------------------------- arrays

module _ (s : List ℕ) (f : ℕ) where
  pub array-1 : expect (bytes " (Array ") (drop f s) ≡ none → TailTo 1 s f None
  unfolding array_tail_of and_then
  array-1 h n = rw h

  module _ (a : ℕ) (h : expect (bytes " (Array ") (drop f s) ≡ took [] (drop a s)) where
    pub array-2 : sort_in 65536 (drop a s) ≡ none → TailTo 1 s f None
    unfolding array_tail_of and_then
    array-2 g n = rw (h, g)

    module _ (i b : ℕ) (g : sort_in 65536 (drop a s) ≡ took i (drop b s)) where
      pub array-3 : expect (bytes " ") (drop b s) ≡ none → TailTo 1 s f None
      unfolding array_tail_of and_then
      array-3 k n = rw (h, g, k)

      module _ (c : ℕ) (k : expect (bytes " ") (drop b s) ≡ took [] (drop c s)) where
        pub array-4 : sort_in 65536 (drop c s) ≡ none → TailTo 1 s f None
        unfolding array_tail_of and_then
        array-4 m n = rw (h, g, k, m)

        module _ (v d : ℕ) (m : sort_in 65536 (drop c s) ≡ took v (drop d s)) where
          pub array-5 : expect (bytes "))\n") (drop d s) ≡ none → TailTo 1 s f None
          unfolding array_tail_of and_then
          array-5 q n = rw (h, g, k, m, q)

          pub array_whole : (z : ℕ) → f ≤ length s → a ≤ length s → b ≤ length s → c ≤ length s → d ≤ length s → z ≤ length s → expect (bytes "))\n") (drop d s) ≡ took [] (drop z s) → TailTo 1 s f (Some z)
          unfolding array_tail_of and_then bytes
          array_whole z l₁ l₂ l₃ l₄ l₅ l₆ q =
              let p : Past s f z = past-both (past_word (bytes " (Array ") s [] f a tt l₁ l₂ h) (past-both (past-sort 65536 s i a b l₂ l₃ g)
              (past-both (past_word (bytes " ") s [] b c tt l₃ l₄ k) (past-both (past-sort 65536 s v c d l₄ l₅ m) (past_word (bytes "))\n") s [] d z tt l₅ l₆ q)))) in
              record { low = p.low; high = l₆; tail = p.tail; value = λ n. record { name = n; index = i; value = v }; read = λ n. rw (h, g, k, m, q); name = λ n. refl }

-- ---------------------------------------------------------------- sorts of arguments

-- sorts read from place p on, up to and with the closing bracket before place e
pub record SortsAt (first : Bool) (s : List ℕ) (p e : ℕ) : Type 0 where
  pub high : e ≤ length s
  pub past : Past s p e
  pub value : List ℕ
  pub read : (f : ℕ) → length (drop p s) < f → sorts_in f first (drop p s) ≡ took value (drop e s)

abbrev pub SortsTo : Bool → List ℕ → ℕ → Maybe ℕ → Type 0
SortsTo first s p None = (f : ℕ) → length (drop p s) < f → sorts_in f first (drop p s) ≡ none
SortsTo first s p (Some e) = SortsAt first s p e

blank-free : T (every no_bar (bytes " "))
unfolding bytes
blank-free = tt

module _ (s : List ℕ) (p : ℕ) where
  -- past the end
  pub sorts-end : (first : Bool) → length s ≤ p → SortsTo first s p None
  unfolding sorts_in
  sorts-end first l zero m = refl
  sorts-end first l (suc f) m = rw (drop_of_length-le s l)

  -- the closing bracket
  pub sorts-close : (first : Bool) → p < length s → get_or s p 0 ≡ 41 → SortsTo first s p (Some (p + 1))
  unfolding sorts_in expect bytes
  sorts-close first l e = record {
    high = omega arith;
    past = past_word (bytes ")") s [] p (p + 1) tt (omega arith) (omega arith) (ap (expect (bytes ")")) (bytes-at s p l) ∙ rw e refl);
    value = [];
    read = read;
  }
    where
      read : (f : ℕ) → length (drop p s) < f → sorts_in f first (drop p s) ≡ took [] (drop (p + 1) s)
      read zero m = absurd (omega arith)
      read (suc f) m = ap (sorts_in (suc f) first) (bytes-at s p l) ∙ rw e refl

  -- a first sort that is none
  pub sorts-first-none : p < length s → (get_or s p 0 ≡ 41 → ⊥) → sort_in largest (drop p s) ≡ none → SortsTo true s p None
  unfolding sorts_in separator and_then
  sorts-first-none l x g zero m = refl
  sorts-first-none l x g (suc f) m =
      ap (sorts_in (suc f) true) (bytes-at s p l)
      ∙ rw (no→false (eqb (get_or s p 0) 41) (λ q. x (eqb→eq (get_or s p 0) 41 q)), sorts_in) (rw (← bytes-at s p l) (rw g))

  -- a first sort, and those after it
  pub sorts-first : (w e : ℕ) → p < length s → (get_or s p 0 ≡ 41 → ⊥) → e ≤ length s → sort_in largest (drop p s) ≡ took w (drop e s) → (r : Maybe ℕ) → SortsTo false s e r → SortsTo true s p r
  unfolding sorts_in separator and_then
  sorts-first w e l x k g = by-more
    where
      less : length (drop e s) < length (drop p s)
      less = sort-less largest (drop p s) w (drop e s) g

      step : (f : ℕ) → sorts_in (suc f) true (drop p s) ≡ and_then (sorts_in f false (drop e s)) (λ ws z. took (w ∷ ws) z)
      step f =
          ap (sorts_in (suc f) true) (bytes-at s p l)
          ∙ rw (no→false (eqb (get_or s p 0) 41) (λ q. x (eqb→eq (get_or s p 0) 41 q)), sorts_in) (rw (← bytes-at s p l) (rw g))

      by-none : SortsTo false s e None → SortsTo true s p None
      by-none h zero m = refl
      by-none h (suc f) m = step f ∙ rw (h f (omega (arith, less)))

      by-more : (r : Maybe ℕ) → SortsTo false s e r → SortsTo true s p r
      by-more None h = by-none h
      by-more (Some z) h = record {
        high = h.high;
        past = past-both (past-sort largest s w p e (omega arith) k g) h.past;
        value = w ∷ h.value;
        read = read;
      }
        where
          read : (f : ℕ) → length (drop p s) < f → sorts_in f true (drop p s) ≡ took (w ∷ h.value) (drop z s)
          read zero m = absurd (omega arith)
          read (suc f) m = step f ∙ rw (h.read f (omega (arith, less)))

  no-bracket : (get_or s p 0 ≡ 41 → ⊥) → eqb (get_or s p 0) 41 ≡ false
  no-bracket x = no→false (eqb (get_or s p 0) 41) (λ q. x (eqb→eq (get_or s p 0) 41 q))

  -- no blank
  pub sorts-no-blank : p < length s → (get_or s p 0 ≡ 41 → ⊥) → (get_or s p 0 ≡ 32 → ⊥) → SortsTo false s p None
  unfolding sorts_in separator and_then expect bytes
  sorts-no-blank l x y zero m = refl
  sorts-no-blank l x y (suc f) m =
      ap (sorts_in (suc f) false) (bytes-at s p l)
      ∙ rw (no-bracket x, sorts_in, no→false (eqb 32 (get_or s p 0)) (λ q. y (sym (eqb→eq 32 (get_or s p 0) q))), expect)

  after-blank : p < length s → get_or s p 0 ≡ 32 → expect (bytes " ") (drop p s) ≡ took [] (drop (p + 1) s)
  unfolding expect bytes
  after-blank l e = ap (expect (bytes " ")) (bytes-at s p l) ∙ rw e refl

  more-step : p < length s → get_or s p 0 ≡ 32 → (f : ℕ)
      → sorts_in (suc f) false (drop p s) ≡ and_then (sort_in largest (drop (p + 1) s)) (λ w r. and_then (sorts_in f false r) (λ ws z. took (w ∷ ws) z))
  unfolding sorts_in separator and_then
  more-step l e f =
      ap (sorts_in (suc f) false) (bytes-at s p l ∙ ap (λ (c : ℕ). c ∷ drop (p + 1) s) e) ∙ ap then (sym blank)
    where
      then : Option (Took (List ℕ)) → Option (Took (List ℕ))
      then o = and_then o (λ _ q. and_then (sort_in largest q) (λ w r. and_then (sorts_in f false r) (λ ws z. took (w ∷ ws) z)))

      blank : took [] (drop (p + 1) s) ≡ expect (bytes " ") (32 ∷ drop (p + 1) s)
      blank = sym (after-blank l e) ∙ ap (expect (bytes " ")) (bytes-at s p l ∙ ap (λ (c : ℕ). c ∷ drop (p + 1) s) e)

  pub sorts-more-none : p < length s → get_or s p 0 ≡ 32 → sort_in largest (drop (p + 1) s) ≡ none → SortsTo false s p None
  unfolding sorts_in and_then
  sorts-more-none l e g zero m = refl
  sorts-more-none l e g (suc f) m = more-step l e f ∙ rw g

  pub sorts-more : (w e : ℕ) → p < length s → get_or s p 0 ≡ 32 → e ≤ length s → sort_in largest (drop (p + 1) s) ≡ took w (drop e s) → (r : Maybe ℕ) → SortsTo false s e r → SortsTo false s p r
  unfolding sorts_in and_then
  sorts-more w e l x k g = by-more
    where
      less : length (drop e s) < length (drop p s)
      less = let a = sort-less largest (drop (p + 1) s) w (drop e s) g in let b = length-drop p s in let c = length-drop (p + 1) s in omega arith

      step : (f : ℕ) → sorts_in (suc f) false (drop p s) ≡ and_then (sorts_in f false (drop e s)) (λ ws z. took (w ∷ ws) z)
      step f = more-step l x f ∙ rw g refl

      by-none : SortsTo false s e None → SortsTo false s p None
      by-none h zero m = refl
      by-none h (suc f) m = step f ∙ rw (h f (omega (arith, less)))

      by-more : (r : Maybe ℕ) → SortsTo false s e r → SortsTo false s p r
      by-more None h = by-none h
      by-more (Some z) h = record {
        high = h.high;
        past = past-both (past_word (bytes " ") s [] p (p + 1) blank-free (omega arith) (omega arith) (after-blank l x)) (past-both (past-sort largest s w (p + 1) e (omega arith) k g) h.past);
        value = w ∷ h.value;
        read = read;
      }
        where
          read : (f : ℕ) → length (drop p s) < f → sorts_in f false (drop p s) ≡ took (w ∷ h.value) (drop z s)
          read zero m = absurd (omega arith)
          read (suc f) m = step f ∙ rw (h.read f (omega (arith, less)))

-- ---------------------------------------------------------------- functions

module _ (s : List ℕ) (f : ℕ) where
  pub function-1 : expect (bytes " (") (drop f s) ≡ none → TailTo 2 s f None
  unfolding function_tail and_then
  function-1 h n = rw h

  module _ (a : ℕ) (h : expect (bytes " (") (drop f s) ≡ took [] (drop a s)) where
    pub function-2 : SortsTo true s a None → TailTo 2 s f None
    unfolding function_tail and_then
    function-2 g n = rw (h, g (suc (length (drop a s))) (omega arith))

    module _ (b : ℕ) (g : SortsTo true s a (Some b)) where
      pub function-3 : expect (bytes " ") (drop b s) ≡ none → TailTo 2 s f None
      unfolding function_tail and_then
      function-3 k n = rw (h, g.read (suc (length (drop a s))) (omega arith), k)

      module _ (c : ℕ) (k : expect (bytes " ") (drop b s) ≡ took [] (drop c s)) where
        pub function-4 : sort_in largest (drop c s) ≡ none → TailTo 2 s f None
        unfolding function_tail and_then
        function-4 m n = rw (h, g.read (suc (length (drop a s))) (omega arith), k, m)

        module _ (w d : ℕ) (m : sort_in largest (drop c s) ≡ took w (drop d s)) where
          pub function-5 : expect (bytes ")\n") (drop d s) ≡ none → TailTo 2 s f None
          unfolding function_tail and_then
          function-5 q n = rw (h, g.read (suc (length (drop a s))) (omega arith), k, m, q)

          pub function-whole : (z : ℕ) → f ≤ length s → a ≤ length s → c ≤ length s → d ≤ length s → z ≤ length s → expect (bytes ")\n") (drop d s) ≡ took [] (drop z s) → TailTo 2 s f (Some z)
          unfolding function_tail and_then bytes
          function-whole z l₁ l₂ l₄ l₅ l₆ q =
              let p : Past s f z = past-both (past_word (bytes " (") s [] f a tt l₁ l₂ h) (past-both g.past
              (past-both (past_word (bytes " ") s [] b c tt g.high l₄ k) (past-both (past-sort largest s w c d l₄ l₅ m) (past_word (bytes ")\n") s [] d z tt l₅ l₆ q)))) in
              record { low = p.low; high = l₆; tail = p.tail; value = λ n. record { name = n; arguments = g.value; width = w }; read = λ n. rw (h, g.read (suc (length (drop a s))) (omega arith), k, m, q); name = λ n. refl }
