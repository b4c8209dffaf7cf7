-- Covering the constants of a sound reading's text gives the text of the hidden reading.
use Rattle.std.specs.Prelude.{ℕ, suc, ◌+◌, ◌≡◌, refl, Bool, false, not, ◌&&◌, T, leb, eqb}
use Rattle.std.proofs.Common.{sym, ap, ◌∙◌, arith, leb→le, eqb→eq}
use mathlib.Core.List.{List, [], ◌∷◌, ◌++◌, append_assoc, append-nil, map}
use Rattle.lists.specs.Bytes.{bytes}
use Rattle.lists.specs.Tests.{among, every, All, and_0, and-1, and_T, by-test, not→false, apart_by, all-weaken, or_elim, or_l, or_r, same, same_refl, in_list}
use Rattle.reading.specs.Trees.{Name, Tree, variable, constant, apply, select, call, Trees, none, more, Stores, base, store, Variable, Array, Function, Declarations, Reading}
use Rattle.smtlib.specs.Lexicon.{quotable, digit, symbol_byte}
use Rattle.smtlib.specs.LexText.{simple_test}
use Rattle.smtlib.specs.Readings.{declared_names}
use Rattle.smtlib.specs.Sorts.{TermSort, bits}
use Rattle.echo_spec.specs.Render.{
  symbol_of,
  decimal,
  binary_digits,
  quoted,
  numerals_text,
  operator_text,
  call_text,
  term,
  terms,
  stores,
  sort_text,
  sorts_text,
  variable_text,
  array_text,
  function_text,
  texts,
  assertions_text,
  logic_of,
  logic_text,
  declarations_text,
  render,
}
use Rattle.hidden.specs.Hidden.{zeros, hidden, hidden_all, hidden_stores, hidden_reading}
use Rattle.theorems.specs.Terms.{Fits, FitsAll, FitsStores, variable-declared, array-declared, function-declared, in-variables, in-arrays, in-functions}
use Rattle.theorems.specs.Texts.{decimal-numeral}
use Rattle.theorems.specs.Scripts.{bools, Sound}
use Rattle.echo_hidden.specs.Covered.{outside, inName, inConstant, shown, after, covered}

-- ---------------------------------------------------------------- texts one after the other

-- a text that is covered as this one, whatever follows
record Turns (a b : List ℕ) : Type 0 where
  turned : (rest : List ℕ) → covered outside (a ++ rest) ≡ b ++ covered outside rest

-- what a term stands before: a blank or a closing bracket
abbrev ending : ℕ → Bool
ending c = among (32 ∷ 41 ∷ []) c

-- a text that is covered as this one before a blank or a closing bracket
record TurnsTerm (a b : List ℕ) : Type 0 where
  turned : (c : ℕ) (rest : List ℕ) → T (ending c) → covered outside (a ++ (c ∷ rest)) ≡ b ++ covered outside (c ∷ rest)

then : {a b c d : List ℕ} → Turns a b → Turns c d → Turns (a ++ c) (b ++ d)
then {a} {b} {c} {d} f g = record {
  turned = λ rest. ap (covered outside) (append_assoc a c rest) ∙ f.turned (c ++ rest) ∙ ap (λ (x : List ℕ). b ++ x) (g.turned rest) ∙ sym (append_assoc b d (covered outside rest));
}

-- a term, and what begins with a blank or a closing bracket
behind : {a b : List ℕ} {c : ℕ} {t u : List ℕ} → T (ending c) → TurnsTerm a b → Turns (c ∷ t) (c ∷ u) → Turns (a ++ (c ∷ t)) (b ++ (c ∷ u))
behind {a} {b} {c} {t} {u} e f g = record {
  turned = λ rest.
      ap (covered outside) (append_assoc a (c ∷ t) rest) ∙ f.turned c (t ++ rest) e ∙ ap (λ (x : List ℕ). b ++ x) (g.turned rest)
      ∙ sym (append_assoc b (c ∷ u) (covered outside rest));
}

-- what is covered so whatever follows
anywhere : {a b : List ℕ} → Turns a b → TurnsTerm a b
anywhere f = record { turned = λ c rest e. f.turned (c ∷ rest) }

-- ---------------------------------------------------------------- what stays as it is

-- neither a bar nor `#`
abbrev calm : ℕ → Bool
calm c = not (eqb c 124) && not (eqb c 35)

calm_of : (p : ℕ → Bool) → T (not (p 124)) → T (not (p 35)) → (c : ℕ) → T (p c) → T (calm c)
calm_of p h k c t = and_T (not (eqb c 124)) (not (eqb c 35)) (apart_by p 124 h c t) (apart_by p 35 k c t)

all-calm : (a : List ℕ) → All calm a → (rest : List ℕ) → covered outside (a ++ rest) ≡ a ++ covered outside rest
unfolding covered after shown
all-calm [] h rest = refl
all-calm (c ∷ a) h rest =
    rw (not→false (eqb c 124) (and_0 (not (eqb c 124)) (not (eqb c 35)) h.0), not→false (eqb c 35) (and-1 (not (eqb c 124)) (not (eqb c 35)) h.0))
    (ap (λ (x : List ℕ). c ∷ x) (all-calm a h.1 rest))

stays : (a : List ℕ) → All calm a → Turns a a
stays a h = record { turned = all-calm a h }

literal : (a : List ℕ) → T (every calm a) → Turns a a
literal a h = stays a (by-test calm a h)

in-name : (n rest : List ℕ) → All quotable n → covered inName (n ++ (124 ∷ rest)) ≡ n ++ (124 ∷ covered outside rest)
unfolding covered after shown
in-name [] rest h = refl
in-name (c ∷ n) rest h = rw (not→false (eqb c 124) (apart_by quotable 124 tt c h.0)) (ap (λ (x : List ℕ). c ∷ x) (in-name n rest h.1))

name : (n : Name) → All quotable n → Turns (quoted n) (quoted n)
unfolding covered after shown quoted bytes
name n h = record {
  turned = λ rest.
      ap (λ (x : List ℕ). 124 ∷ x) (ap (covered inName) (append_assoc n (124 ∷ []) rest) ∙ in-name n rest h ∙ sym (append_assoc n (124 ∷ []) (covered outside rest)));
}

number : (n : ℕ) → Turns (decimal n) (decimal n)
number n = stays (decimal n) (all-weaken digit calm (calm_of digit tt tt) (decimal n) (decimal-numeral n).digits)

symbol : (w : List ℕ) → T (simple_test w) → Turns w w
unfolding simple_test symbol_byte
symbol [] h = absurd h
symbol (c ∷ w) h =
    stays (c ∷ w) (all-weaken symbol_byte calm (calm_of symbol_byte tt tt) (c ∷ w) (by-test symbol_byte (c ∷ w) (and_0 (every symbol_byte (c ∷ w)) _ (and-1 (not (digit c)) _ h))))

-- ---------------------------------------------------------------- constants

ended : (c : ℕ) (rest : List ℕ) → T (ending c) → covered inConstant (c ∷ rest) ≡ covered outside (c ∷ rest)
unfolding covered after shown
ended c rest t = or_elim (eqb c 32) (among (41 ∷ []) c) t (λ e. rw (eqb→eq c 32 e)) (λ u. or_elim (eqb c 41) false u (λ e. rw (eqb→eq c 41 e)) (λ z. absurd z))

-- the digits of a constant, of which some are left
zero-digits : (bs rest : List ℕ) → All (λ b. leb b 1) bs → covered inConstant (binary_digits bs ++ rest) ≡ binary_digits (zeros bs) ++ covered inConstant rest
unfolding covered after shown binary_digits zeros
zero-digits [] rest h = refl
zero-digits (b ∷ bs) rest h =
    ap (covered inConstant) (append_assoc (binary_digits bs) ((48 + b) ∷ []) rest)
    ∙ zero-digits bs ((48 + b) ∷ rest) h.1
    ∙ ap (λ (x : List ℕ). binary_digits (zeros bs) ++ x) (one-digit b h.0)
    ∙ sym (append_assoc (binary_digits (zeros bs)) (48 ∷ []) (covered inConstant rest))
  where
    one-digit : (b : ℕ) → T (leb b 1) → covered inConstant ((48 + b) ∷ rest) ≡ 48 ∷ covered inConstant rest
    one-digit ℕ.zero t = refl
    one-digit (suc ℕ.zero) t = refl
    one-digit (suc (suc b)) t = absurd (let l = leb→le (suc (suc b)) 1 t in omega arith)

digits : (bs : List ℕ) → All (λ b. leb b 1) bs → TurnsTerm (bytes "#b" ++ binary_digits bs) (bytes "#b" ++ binary_digits (zeros bs))
unfolding covered after shown bytes
digits bs h = record {
  turned = λ c rest e.
      ap (λ (x : List ℕ). 35 ∷ 98 ∷ x) (zero-digits bs (c ∷ rest) h ∙ ap (λ (x : List ℕ). binary_digits (zeros bs) ++ x) (ended c rest e));
}

-- ---------------------------------------------------------------- terms

numerals : (ks : List ℕ) → Turns (numerals_text ks) (numerals_text ks)
unfolding numerals_text bytes
numerals [] = literal [] tt
numerals (k ∷ ks) = then (literal (32 ∷ []) tt) (then (number k) (numerals ks))

operator : (w : Name) (ks : List ℕ) → T (simple_test w) → Turns (operator_text w ks) (operator_text w ks)
unfolding operator_text bytes
operator w [] h = symbol w h
operator w (k ∷ ks) h = then (literal (bytes "(_ ") tt) (then (symbol w h) (then (numerals (k ∷ ks)) (literal (bytes ")") tt)))

opened : Turns (bytes "(") (bytes "(")
unfolding bytes
opened = literal (bytes "(") tt

closed : Turns (bytes ")") (bytes ")")
unfolding bytes
closed = literal (bytes ")") tt

module _ (D : Declarations) (quotes : (n : Name) → T (in_list n (declared_names D)) → All quotable n) where
  variable-name : (n : Name) (s : TermSort) → Fits D (variable n) s → All quotable n
  variable-name n s h = quotes n (in-variables D n (variable-declared D n h.0 h.1))

  -- a term before operands, each after a blank, and the closing bracket
  before-operands : {a b : List ℕ} → TurnsTerm a b → (ts : Trees) → Turns (terms ts ++ bytes ")") (terms (hidden_all ts) ++ bytes ")")
      → Turns (a ++ (terms ts ++ bytes ")")) (b ++ (terms (hidden_all ts) ++ bytes ")"))
  unfolding term hidden bytes
  before-operands f none g = behind tt f g
  before-operands f (more t ts) g = behind tt f g

  one-operand : {a b : List ℕ} → TurnsTerm a b → (ts : Trees) → Turns (terms ts ++ bytes ")") (terms (hidden_all ts) ++ bytes ")")
      → Turns ((bytes " " ++ (a ++ terms ts)) ++ bytes ")") ((bytes " " ++ (b ++ terms (hidden_all ts))) ++ bytes ")")
  unfolding bytes
  one-operand {a} {b} f ts g =
      rw (append_assoc a (terms ts) (41 ∷ []), append_assoc b (terms (hidden_all ts)) (41 ∷ [])) (then (literal (32 ∷ []) tt) (before-operands f ts g))

  called : (n : Name) → All quotable n → (ts : Trees) → Turns (terms ts ++ bytes ")") (terms (hidden_all ts) ++ bytes ")")
      → Turns (call_text n ts (terms ts)) (call_text n (hidden_all ts) (terms (hidden_all ts)))
  unfolding call_text hidden bytes
  called n h none g = name n h
  called n h (more t ts) g = then (literal (bytes "(") tt) (then (name n h) g)

  selected : {a b c d : List ℕ} → Turns a b → TurnsTerm c d
      → Turns (bytes "(select " ++ (a ++ (bytes " " ++ (c ++ bytes ")")))) (bytes "(select " ++ (b ++ (bytes " " ++ (d ++ bytes ")"))))
  unfolding bytes
  selected f g = then (literal (bytes "(select ") tt) (then f (then (literal (bytes " ") tt) (behind tt g (literal (bytes ")") tt))))

  stored : {a b c d e f : List ℕ} → Turns a b → TurnsTerm c d → TurnsTerm e f
      → Turns (bytes "(store " ++ (a ++ (bytes " " ++ (c ++ (bytes " " ++ (e ++ bytes ")")))))) (bytes "(store " ++ (b ++ (bytes " " ++ (d ++ (bytes " " ++ (f ++ bytes ")"))))))
  unfolding bytes
  stored f g h =
      then (literal (bytes "(store ") tt) (then f (then (literal (bytes " ") tt) (behind tt g (then (literal (bytes " ") tt) (behind tt h (literal (bytes ")") tt))))))

  mutual
    unfolding term hidden

    term-turns : (t : Tree) (s : TermSort) → Fits D t s → TurnsTerm (term t) (term (hidden t))
    term-turns (variable n) s h = anywhere (name n (variable-name n s h))
    term-turns (constant bs) s h = digits bs h.1
    term-turns (apply k ks ts) s h = anywhere (then opened (then (operator (symbol_of k) ks h.3) (terms-turn ts (h.0 ∷ h.1) h.2)))
    term-turns (select a j ss) s h =
        anywhere (selected (stores-turn ss a h.0 h.1 (quotes a (in-arrays D a (array-declared D a h.0 h.1 h.2))) h.5) (term-turns j (bits h.0) h.4))
    term-turns (call n ts) s h = anywhere (called n (quotes n (in-functions D n (function-declared D n h.0 h.1 h.2))) ts (terms-turn ts (map bits h.0) h.3))

    terms-turn : (ts : Trees) (us : List TermSort) → FitsAll D ts us → Turns (terms ts ++ bytes ")") (terms (hidden_all ts) ++ bytes ")")
    terms-turn none [] h = closed
    terms-turn none (u ∷ us) h = absurd h
    terms-turn (more t ts) [] h = absurd h
    terms-turn (more t ts) (u ∷ us) h = one-operand (term-turns t u h.0) ts (terms-turn ts us h.1)

    stores-turn : (ss : Stores) (a : Name) (i v : ℕ) → All quotable a → FitsStores D ss i v → Turns (stores a ss) (stores a (hidden_stores ss))
    stores-turn base a i v q h = name a q
    stores-turn (store x y ss) a i v q h = stored (stores-turn ss a i v q h.2) (term-turns x (bits i) h.0) (term-turns y (bits v) h.1)

  assertions-turn : (ts : Trees) → FitsAll D ts (bools ts) → Turns (assertions_text ts) (assertions_text (hidden_all ts))
  unfolding assertions_text hidden bytes
  assertions-turn none h = literal [] tt
  assertions-turn (more t ts) h =
      then (literal (bytes "(assert ") tt) (behind tt (term-turns t TermSort.bool h.0) (then (literal (bytes ")\n") tt) (assertions-turn ts h.1)))

-- ---------------------------------------------------------------- lines

sort-turns : (w : ℕ) → Turns (sort_text w) (sort_text w)
unfolding sort_text bytes
sort-turns w = then (literal (bytes "(_ BitVec ") tt) (then (number w) (literal (bytes ")") tt))

sorts-turn : (ws : List ℕ) → Turns (sorts_text ws) (sorts_text ws)
unfolding sorts_text bytes
sorts-turn [] = literal [] tt
sorts-turn (w ∷ []) = sort-turns w
sorts-turn (w ∷ v ∷ ws) = then (sort-turns w) (then (literal (bytes " ") tt) (sorts-turn (v ∷ ws)))

variable-turns : (v : Variable) → All quotable v.name → Turns (variable_text v) (variable_text v)
unfolding variable_text bytes
variable-turns v h = then (literal (bytes "(declare-const ") tt) (then (name v.name h) (then (literal (bytes " ") tt) (then (sort-turns v.width) (literal (bytes ")\n") tt))))

array-turns : (a : Array) → All quotable a.name → Turns (array_text a) (array_text a)
unfolding array_text bytes
array-turns a h =
    then (literal (bytes "(declare-const ") tt)
    (then (name a.name h) (then (literal (bytes " (Array ") tt) (then (sort-turns a.index) (then (literal (bytes " ") tt) (then (sort-turns a.value) (literal (bytes "))\n") tt))))))

function-turns : (f : Function) → All quotable f.name → Turns (function_text f) (function_text f)
unfolding function_text bytes
function-turns f h =
    then (literal (bytes "(declare-fun ") tt)
    (then (name f.name h) (then (literal (bytes " (") tt) (then (sorts-turn f.arguments) (then (literal (bytes ") ") tt) (then (sort-turns f.width) (literal (bytes ")\n") tt))))))

-- one line after the other, whose names are all declared
lines-turn : {A : Type 0} (text : A → List ℕ) (name : A → Name) → ((x : A) → All quotable (name x) → Turns (text x) (text x)) → (xs : List A)
    → ((n : Name) → T (in_list n (map name xs)) → All quotable n) → Turns (texts text xs) (texts text xs)
unfolding texts
lines-turn text name f [] h = literal [] tt
lines-turn text name f (x ∷ xs) h =
    then (f x (h (name x) (or_l (same (name x) (name x)) (in_list (name x) (map name xs)) (same_refl (name x)))))
    (lines-turn text name f xs (λ n k. h n (or_r (same n (name x)) (in_list n (map name xs)) k)))

logic-turns : (fs : List Function) (arrays : List Array) → Turns (logic_of fs arrays) (logic_of fs arrays)
unfolding logic_of bytes
logic-turns (f ∷ fs) arrays = literal (bytes "QF_AUFBV") tt
logic-turns [] (a ∷ arrays) = literal (bytes "QF_ABV") tt
logic-turns [] [] = literal (bytes "QF_BV") tt

declarations-turn : (D : Declarations) → ((n : Name) → T (in_list n (declared_names D)) → All quotable n) → Turns (declarations_text D) (declarations_text D)
unfolding declarations_text
declarations-turn D quotes =
    then (lines-turn variable_text (λ (v : Variable). v.name) variable-turns D.variables (λ n h. quotes n (in-variables D n h)))
    (then (lines-turn array_text (λ (a : Array). a.name) array-turns D.arrays (λ n h. quotes n (in-arrays D n h)))
    (lines-turn function_text (λ (f : Function). f.name) function-turns D.functions (λ n h. quotes n (in-functions D n h))))

-- ---------------------------------------------------------------- the script

pub covered-script : (r : Reading) → Sound r → covered outside (render r) ≡ render (hidden_reading r)
unfolding render hidden_reading logic_text bytes covered
covered-script r ok =
    let D : Declarations = r.declarations in
    let quotes = ok.declarations.quotes in
    let logic = then (literal (bytes "(set-logic ") tt) (then (logic-turns D.functions D.arrays) (literal (bytes ")\n") tt)) in
    let whole = then logic (then (declarations-turn D quotes) (then (assertions-turn D quotes r.assertions ok.assertions) (literal (bytes "(check-sat)\n") tt))) in
    ap (covered outside) (sym (append-nil (render r))) ∙ whole.turned [] ∙ append-nil (render (hidden_reading r))
