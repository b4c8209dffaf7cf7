-- Tokens are those of at most one phrase that keeps to the levels. A machine reads them from left to right, one step a token,
-- with a stack of what is not yet complete; it comes back with the phrase.
use Rattle.std.specs.Prelude.{ℕ, zero, suc, ◌≤◌, ◌<◌, ◌≡◌, refl, List, [], ◌∷◌, ◌++◌, map, Bool, true, false, ◌&&◌, not, T, leb, ltb, eqb}
use Rattle.std.proofs.Common.{ap, sym, ◌∙◌, append_assoc, append-nil, arith, leb→le, le→leb, ltb→lt, eqb→eq, T_not}
use Rattle.std.proofs.Math.Option.{Option, none as nothing, some}
use Rattle.std.proofs.Math.Dec.{nleb→lt, not_T}
use Rattle.lists.specs.Bytes.{bytes}
use Rattle.lists.specs.Tests.{same, in_list, every, distinct, and_0, and-1, T→true, no→false, every_in}
use Rattle.reading.specs.Trees.{Name}
use Rattle.formulas.specs.Tokens.{Token, open⁽, close⁾, comma, numeral, binary, name, word}
use Rattle.formulas.specs.Phrases.{
  Sign,
  infixes,
  prefixes,
  others,
  lookup,
  Head,
  function,
  operator,
  Phrase,
  literal,
  reference,
  brackets,
  prefixed,
  infixed,
  applied,
  Phrases,
  none,
  more,
  numerals_tokens,
  head_tokens,
  phrase_tokens,
  later_tokens,
  head_ok,
  stands,
  stand,
}

-- ---------------------------------------------------------------- the tables

pub infix-symbols-distinct : T (distinct (map (λ r. bytes r.symbol) infixes))
unfolding infixes bytes same
infix-symbols-distinct = tt

pub prefix-symbols-distinct : T (distinct (map (λ r. bytes r.symbol) prefixes))
unfolding prefixes bytes same
prefix-symbols-distinct = tt

-- a row that is found passes a test that all rows pass
pub found-passes : (q : Sign → Bool) (rs : List Sign) (w : Name) (r : Sign) → T (every q rs) → lookup rs w ≡ some r → T (q r)
unfolding lookup
found-passes q [] w r h e = absurd (let z : ◌≡◌ {A = ℕ} 0 1 = cc in omega arith)
found-passes q (x ∷ rs) w r h e = by_first (same w (bytes x.symbol)) refl e (λ f. found-passes q rs w r (and-1 (q x) (every q rs) h) f)
  where
    by_first : (b : Bool) → same w (bytes x.symbol) ≡ b → lookup (x ∷ rs) w ≡ some r → (lookup rs w ≡ some r → T (q r)) → T (q r)
    by_first true f e rest =
        let e' : some x ≡ some r = rw (f, lookup) at e in
        let g : x ≡ r = cc in
        rw (← g) (and_0 (q x) (every q rs) h)
    by_first false f e rest = rest (rw (f, lookup) at e)

pub infix-level : (w : Name) (r : Sign) → lookup infixes w ≡ some r → r.level < 10
unfolding infixes
infix-level w r e = ltb→lt r.level 10 (found-passes (λ r. ltb r.level 10) infixes w r tt e)

pub prefix-level : (w : Name) (r : Sign) → lookup prefixes w ≡ some r → r.level ≡ 10
unfolding prefixes
prefix-level w r e = eqb→eq r.level 10 (found-passes (λ r. eqb r.level 10) prefixes w r tt e)

missing : Option Sign → Bool
missing nothing = true
missing (some r) = false

missing-none : (o : Option Sign) → T (missing o) → o ≡ nothing
unfolding missing
missing-none nothing h = refl
missing-none (some r) h = absurd h

-- no name of an operator is a prefix
other-no-prefix : (w : Name) → T (in_list w others) → lookup prefixes w ≡ nothing
unfolding others prefixes lookup bytes same missing
other-no-prefix w h = missing-none (lookup prefixes w) (every_in (λ n. missing (lookup prefixes n)) others w tt h)

-- ---------------------------------------------------------------- the machine

-- what is open around the place reached
data Frame : Type 0 where
  prefix_frame : Name → Frame
  -- with the operator's level and its left operand
  infix_frame : ℕ → Phrase → Name → Frame
  bracket_frame : Frame
  -- with the arguments so far, the last first
  argument_frame : Head → List Phrase → Frame

data State : Type 0 where
  -- an operand is wanted
  wanting : List Frame → State
  -- an operand has just ended
  having : List Frame → Phrase → State
  -- an operator's name has just ended
  worded : List Frame → Name → State
  -- one of its numerals has just ended
  numbered : List Frame → Name → List ℕ → ℕ → State
  failed : State

-- the operators of level l and tighter ones have their operands
unfoldable reduce : ℕ → List Frame → Phrase → List Frame × Phrase
reduce l [] p = ([], p)
reduce l (prefix_frame w ∷ σ) p = reduce l σ (prefixed w p)
reduce l (infix_frame m q w ∷ σ) p = elim (leb l m) [ true ↦ reduce l σ (infixed q w p) | false ↦ (infix_frame m q w ∷ σ, p) ]
reduce l (bracket_frame ∷ σ) p = (bracket_frame ∷ σ, p)
reduce l (argument_frame h xs ∷ σ) p = (argument_frame h xs ∷ σ, p)

unfoldable build : Head → List Phrase → Phrase → Phrases → Phrase
build h [] q ps = applied h q ps
build h (a ∷ xs) q ps = build h xs a (more q ps)

unfoldable closing : List Frame → Phrase → State
closing [] q = failed
closing (prefix_frame w ∷ σ) q = failed
closing (infix_frame m p w ∷ σ) q = failed
closing (bracket_frame ∷ σ) q = having σ (brackets q)
closing (argument_frame h xs ∷ σ) q = having σ (build h xs q none)

unfoldable separating : List Frame → Phrase → State
separating [] q = failed
separating (prefix_frame w ∷ σ) q = failed
separating (infix_frame m p w ∷ σ) q = failed
separating (bracket_frame ∷ σ) q = failed
separating (argument_frame h xs ∷ σ) q = wanting (argument_frame h (q ∷ xs) ∷ σ)

unfoldable calling : List Frame → Phrase → State
calling σ (literal ds) = failed
calling σ (reference n) = wanting (argument_frame (function n) [] ∷ σ)
calling σ (brackets p) = failed
calling σ (prefixed w p) = failed
calling σ (infixed p w q) = failed
calling σ (applied h p ps) = failed

unfoldable numbering : List Frame → ℕ → State
numbering [] k = failed
numbering (prefix_frame w ∷ σ) k = failed
numbering (infix_frame m p w ∷ σ) k = failed
numbering (bracket_frame ∷ σ) k = failed
numbering (argument_frame (function n) xs ∷ σ) k = failed
numbering (argument_frame (operator w ks) [] ∷ σ) k = numbered σ w ks k
numbering (argument_frame (operator w ks) (a ∷ xs) ∷ σ) k = failed

unfoldable operating : ℕ → Name → List Frame × Phrase → State
operating l w x = wanting (infix_frame l x.1 w ∷ x.0)

unfoldable want : List Frame → Token → State
want σ open⁽ = wanting (bracket_frame ∷ σ)
want σ close⁾ = failed
want σ comma = failed
want σ (numeral k) = numbering σ k
want σ (binary ds) = having σ (literal ds)
want σ (name n) = having σ (reference n)
want σ (word w) = elim (lookup prefixes w) [ nothing ↦ worded σ w | some r ↦ wanting (prefix_frame w ∷ σ) ]

unfoldable have : List Frame → Phrase → Token → State
have σ p open⁽ = calling σ p
have σ p close⁾ = closing (reduce 0 σ p).0 (reduce 0 σ p).1
have σ p comma = separating (reduce 0 σ p).0 (reduce 0 σ p).1
have σ p (numeral k) = failed
have σ p (binary ds) = failed
have σ p (name n) = failed
have σ p (word w) = elim (lookup infixes w) [ nothing ↦ failed | some r ↦ operating r.level w (reduce r.level σ p) ]

unfoldable entering : List Frame → Name → Token → State
entering σ w open⁽ = wanting (argument_frame (operator w []) [] ∷ σ)
entering σ w close⁾ = failed
entering σ w comma = failed
entering σ w (numeral k) = failed
entering σ w (binary ds) = failed
entering σ w (name n) = failed
entering σ w (word v) = failed

unfoldable counting : List Frame → Name → List ℕ → ℕ → Token → State
counting σ w ks k open⁽ = failed
counting σ w ks k close⁾ = failed
counting σ w ks k comma = wanting (argument_frame (operator w (ks ++ (k ∷ []))) [] ∷ σ)
counting σ w ks k (numeral j) = failed
counting σ w ks k (binary ds) = failed
counting σ w ks k (name n) = failed
counting σ w ks k (word v) = failed

unfoldable step : State → Token → State
step (wanting σ) t = want σ t
step (having σ p) t = have σ p t
step (worded σ w) t = entering σ w t
step (numbered σ w ks k) t = counting σ w ks k t
step failed t = failed

unfoldable run : State → List Token → State
run s [] = s
run s (t ∷ ts) = run (step s t) ts

-- the phrase of a state that may be the last
unfoldable result : State → Phrase
result (wanting σ) = literal []
result (having σ p) = (reduce 0 σ p).1
result (worded σ w) = literal []
result (numbered σ w ks k) = literal []
result failed = literal []

run-append : (s : State) (ts us : List Token) → run s (ts ++ us) ≡ run (run s ts) us
unfolding run
run-append s [] us = refl
run-append s (t ∷ ts) us = run-append (step s t) ts us

-- ---------------------------------------------------------------- heads

run-numerals : (σ : List Frame) (w : Name) (js ks : List ℕ) (ts : List Token)
    → run (wanting (argument_frame (operator w js) [] ∷ σ)) (numerals_tokens ks ++ ts) ≡ run (wanting (argument_frame (operator w (js ++ ks)) [] ∷ σ)) ts
unfolding run step want counting numbering numerals_tokens
run-numerals σ w js [] ts = rw append-nil
run-numerals σ w js (k ∷ ks) ts =
    let e : (js ++ (k ∷ [])) ++ ks ≡ js ++ (k ∷ ks) = append_assoc js (k ∷ []) ks in
    run-numerals σ w (js ++ (k ∷ [])) ks ts ∙ ap (λ (x : List ℕ). run (wanting (argument_frame (operator w x) [] ∷ σ)) ts) e

run-head : (h : Head) (σ : List Frame) (ts : List Token) → T (head_ok h)
    → run (wanting σ) (head_tokens h ++ ts) ≡ run (wanting (argument_frame h [] ∷ σ)) ts
unfolding run step want have calling entering head_tokens
run-head (function n) σ ts k = refl
run-head (operator w ks) σ ts k =
    let e : want σ (word w) ≡ worded σ w = rw (other-no-prefix w k, want) in
    ap (λ (s : State). run s (open⁽ ∷ (numerals_tokens ks ++ ts))) e ∙ run-numerals σ w [] ks ts

-- ---------------------------------------------------------------- a phrase is read

-- no operator of level l or of a tighter one, up to 9, waits for its right operand
abbrev Ready : ℕ → List Frame → Type 0
Ready l σ = (m : ℕ) (p : Phrase) → l ≤ m → m < 10 → reduce m σ p ≡ (σ, p)

-- the machine has read p, and its operators down to level l are still open
record Ran (l : ℕ) (σ : List Frame) (p : Phrase) : Type 0 where
  stack : List Frame
  last : Phrase
  runs : run (wanting σ) (phrase_tokens p) ≡ having stack last
  reduces : (m : ℕ) → m ≤ l → reduce m stack last ≡ reduce m σ p

at_once : (l : ℕ) (σ : List Frame) (p : Phrase) → run (wanting σ) (phrase_tokens p) ≡ having σ p → Ran l σ p
at_once l σ p e = record { stack = σ; last = p; runs = e; reduces = λ m h. refl }

bracket-ready : (l : ℕ) (σ : List Frame) → Ready l (bracket_frame ∷ σ)
unfolding reduce
bracket-ready l σ m p h k = refl

argument-ready : (l : ℕ) (h : Head) (xs : List Phrase) (σ : List Frame) → Ready l (argument_frame h xs ∷ σ)
unfolding reduce
argument-ready l h xs σ m p k j = refl

prefix-ready : (l : ℕ) (σ : List Frame) → 10 ≤ l → Ready l σ
prefix-ready l σ h m p k j = absurd (omega arith)

infix-ready : (l : ℕ) (q : Phrase) (w : Name) (σ : List Frame) → Ready (suc l) (infix_frame l q w ∷ σ)
unfolding reduce
infix-ready l q w σ m p h k =
    let e : leb m l ≡ false = no→false (leb m l) (λ t. let z : m ≤ l = leb→le m l t in omega arith) in
    rw (e, reduce)

infix-reduces : (m l : ℕ) (q : Phrase) (w : Name) (σ : List Frame) (p : Phrase) → m ≤ l → reduce m (infix_frame l q w ∷ σ) p ≡ reduce m σ (infixed q w p)
unfolding reduce
infix-reduces m l q w σ p h = rw (T→true (leb m l) (le→leb m l h), reduce)

read-brackets : (l : ℕ) (σ : List Frame) (p : Phrase) → Ran 0 (bracket_frame ∷ σ) p → Ran l σ (brackets p)
unfolding run step want have closing reduce phrase_tokens
read-brackets l σ p r =
    at_once l σ (brackets p)
    (run-append (wanting (bracket_frame ∷ σ)) (phrase_tokens p) (close⁾ ∷ []) ∙ rw (r.runs, run, step, have, r.reduces 0 (omega arith), reduce, closing))

read-prefix : (l : ℕ) (σ : List Frame) (w : Name) (p : Phrase) (r : Sign) → lookup prefixes w ≡ some r → T (leb l r.level) → Ran r.level (prefix_frame w ∷ σ) p
    → Ran l σ (prefixed w p)
unfolding run step want reduce phrase_tokens
read-prefix l σ w p r e h x =
    let after : want σ (word w) ≡ wanting (prefix_frame w ∷ σ) = rw (e, want) in
    record {
      stack = x.stack;
      last = x.last;
      runs = ap (λ (s : State). run s (phrase_tokens p)) after ∙ x.runs;
      reduces = λ m k. let z : l ≤ r.level = leb→le l r.level h in x.reduces m (omega arith);
    }

read-infix : (l : ℕ) (σ : List Frame) (p : Phrase) (w : Name) (q : Phrase) (r : Sign) → lookup infixes w ≡ some r → T (leb l r.level) → Ready l σ
    → Ran r.level σ p → Ran (suc r.level) (infix_frame r.level p w ∷ σ) q → Ran l σ (infixed p w q)
unfolding run step have operating phrase_tokens
read-infix l σ p w q r e h ready x y =
    let j : r.level < 10 = infix-level w r e in
    let z : l ≤ r.level = leb→le l r.level h in
    let same-state : reduce r.level x.stack x.last ≡ (σ, p) = x.reduces r.level (omega arith) ∙ ready r.level p z j in
    let after : have x.stack x.last (word w) ≡ wanting (infix_frame r.level p w ∷ σ) = rw (e, have, same-state, operating) in
    record {
      stack = y.stack;
      last = y.last;
      runs = run-append (wanting σ) (phrase_tokens p) (word w ∷ phrase_tokens q) ∙ (ap (λ (s : State). run (step s (word w)) (phrase_tokens q)) x.runs
          ∙ (ap (λ (s : State). run s (phrase_tokens q)) after ∙ y.runs));
      reduces = λ m k. y.reduces m (omega arith) ∙ infix-reduces m r.level p w σ q (omega arith);
    }

-- arguments after those in the frame, up to the closing parenthesis
abbrev RanArguments : List Frame → Head → List Phrase → Phrase → Phrases → Type 0
RanArguments σ h xs p ps = run (wanting (argument_frame h xs ∷ σ)) (phrase_tokens p ++ later_tokens ps) ≡ having σ (build h xs p ps)

read-last : (σ : List Frame) (h : Head) (xs : List Phrase) (p : Phrase) → Ran 0 (argument_frame h xs ∷ σ) p → RanArguments σ h xs p none
unfolding run step have closing reduce later_tokens
read-last σ h xs p r =
    run-append (wanting (argument_frame h xs ∷ σ)) (phrase_tokens p) (close⁾ ∷ [])
    ∙ rw (r.runs, run, step, have, r.reduces 0 (omega arith), reduce, closing)

read_more : (σ : List Frame) (h : Head) (xs : List Phrase) (p q : Phrase) (ps : Phrases) → Ran 0 (argument_frame h xs ∷ σ) p → RanArguments σ h (p ∷ xs) q ps
    → RanArguments σ h xs p (more q ps)
unfolding run step have separating reduce later_tokens build
read_more σ h xs p q ps r x =
    let after : have r.stack r.last comma ≡ wanting (argument_frame h (p ∷ xs) ∷ σ) = rw (have, r.reduces 0 (omega arith), reduce, separating) in
    run-append (wanting (argument_frame h xs ∷ σ)) (phrase_tokens p) (comma ∷ (phrase_tokens q ++ later_tokens ps))
    ∙ (ap (λ (s : State). run (step s comma) (phrase_tokens q ++ later_tokens ps)) r.runs
    ∙ (ap (λ (s : State). run s (phrase_tokens q ++ later_tokens ps)) after ∙ x))

mutual
  unfolding stands phrase_tokens run step want build

  ran : (p : Phrase) (l : ℕ) (σ : List Frame) → T (stands l p) → Ready l σ → Ran l σ p
  ran (literal ds) l σ h k = at_once l σ (literal ds) refl
  ran (reference n) l σ h k = at_once l σ (reference n) refl
  ran (brackets p) l σ h k = read-brackets l σ p (ran p 0 (bracket_frame ∷ σ) h (bracket-ready 0 σ))
  ran (prefixed w p) l σ h k = by_row (lookup prefixes w) refl h (λ m σ' h' k'. ran p m σ' h' k')
    where
      by_row : (o : Option Sign) → lookup prefixes w ≡ o → T (elim o as (λ x. Bool) [ nothing ↦ false | some r ↦ leb l r.level && stands r.level p ])
          → ((m : ℕ) (σ' : List Frame) → T (stands m p) → Ready m σ' → Ran m σ' p) → Ran l σ (prefixed w p)
      by_row nothing e h ih = absurd h
      by_row (some r) e h ih =
          let z : r.level ≡ 10 = prefix-level w r e in
          read-prefix l σ w p r e (and_0 (leb l r.level) _ h) (ih r.level (prefix_frame w ∷ σ) (and-1 (leb l r.level) _ h) (prefix-ready r.level (prefix_frame w ∷ σ) (omega arith)))
  ran (infixed p w q) l σ h k = by_row (lookup infixes w) refl h (λ m σ' h' k'. ran p m σ' h' k') (λ m σ' h' k'. ran q m σ' h' k')
    where
      by_row : (o : Option Sign) → lookup infixes w ≡ o
          → T (elim o as (λ x. Bool) [ nothing ↦ false | some r ↦ leb l r.level && (stands r.level p && stands (suc r.level) q) ])
          → ((m : ℕ) (σ' : List Frame) → T (stands m p) → Ready m σ' → Ran m σ' p)
          → ((m : ℕ) (σ' : List Frame) → T (stands m q) → Ready m σ' → Ran m σ' q) → Ran l σ (infixed p w q)
      by_row nothing e h ih₁ ih₂ = absurd h
      by_row (some r) e h ih₁ ih₂ =
          let a : T (leb l r.level) = and_0 (leb l r.level) _ h in
          let b = and-1 (leb l r.level) (stands r.level p && stands (suc r.level) q) h in
          let z : l ≤ r.level = leb→le l r.level a in
          read-infix l σ p w q r e a k (ih₁ r.level σ (and_0 (stands r.level p) _ b) (λ m x y. k m x (omega arith)))
          (ih₂ (suc r.level) (infix_frame r.level p w ∷ σ) (and-1 (stands r.level p) _ b) (infix-ready r.level p w σ))
  ran (applied h p ps) l σ k x =
      at_once l σ (applied h p ps)
      (run-head h σ (phrase_tokens p ++ later_tokens ps) (and_0 (head_ok h) _ k)
      ∙ ran-arguments ps h [] p σ (and-1 (stands 0 p) (stand ps) (and-1 (head_ok h) _ k))
      (ran p 0 (argument_frame h [] ∷ σ) (and_0 (stands 0 p) _ (and-1 (head_ok h) _ k)) (argument-ready 0 h [] σ)))

  ran-arguments : (ps : Phrases) (h : Head) (xs : List Phrase) (p : Phrase) (σ : List Frame) → T (stand ps) → Ran 0 (argument_frame h xs ∷ σ) p → RanArguments σ h xs p ps
  ran-arguments none h xs p σ k x = read-last σ h xs p x
  ran-arguments (more q ps) h xs p σ k x =
      read_more σ h xs p q ps x
      (ran-arguments ps h (p ∷ xs) q σ (and-1 (stands 0 q) (stand ps) k) (ran q 0 (argument_frame h (p ∷ xs) ∷ σ) (and_0 (stands 0 q) (stand ps) k) (argument-ready 0 h (p ∷ xs) σ)))

-- ---------------------------------------------------------------- one phrase

read_back : (p : Phrase) → T (stands 0 p) → result (run (wanting []) (phrase_tokens p)) ≡ p
unfolding result reduce
read_back p h =
    let r = ran p 0 [] h (λ m q k j. refl) in
    ap result r.runs ∙ ap (λ (x : List Frame × Phrase). x.1) (r.reduces 0 (omega arith))

pub phrase-unique : (p q : Phrase) → T (stands 0 p) → T (stands 0 q) → phrase_tokens p ≡ phrase_tokens q → p ≡ q
phrase-unique p q h k e = sym (read_back p h) ∙ (ap (λ (ts : List Token). result (run (wanting []) ts)) e ∙ read_back q k)
