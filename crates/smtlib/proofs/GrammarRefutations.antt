-- The grammar: a script that has every form, and texts that are no script, term or sort, each by one fault.
use Rattle.std.specs.Prelude.{ℕ, ◌≡◌, refl, List, [], ◌∷◌, ◌++◌, map, Bool, ◌&&◌, ◌||◌, not, T, take, drop, get_or}
use Prim.Native.String.{String}
use Rattle.std.proofs.Common.{ap, subst, append_assoc, T_not}
use Rattle.lists.specs.Bytes.{bytes}
use Rattle.lists.specs.Tests.{same, in_list, every_in, or_l, or_r, and_0, and-1}
use Rattle.reading.specs.Trees.{variable, apply, none as noTrees, more as moreTrees, Reading}
use Rattle.reading.specs.Kinds.{Eq}
use Rattle.smtlib.specs.Lexicon.{Token, open⁽, close⁾, reserved, numeral, binary, symbol, Lex}
use Rattle.smtlib.specs.Grammar.{
  Sort,
  bit_vec,
  array,
  sort_tokens,
  sorts_tokens,
  plain,
  indexed,
  numerals_tokens,
  operator_tokens,
  Term,
  literal,
  identifier,
  application,
  binding,
  Terms,
  none,
  more,
  term_tokens,
  Declaration,
  declare_const,
  declare_fun,
  declaration_tokens,
  declarations_tokens,
  assertions_tokens,
  Script,
  script_tokens,
}
use Rattle.smtlib.proofs.LexUnique.{lex-unique}
use Rattle.smtlib.proofs.LexTests.{lexemes, lexable, lex-text, is_number, is_constant, is_symbol, same_token, same_tokens, same-tokens}
use Rattle.smtlib.specs.GrammarUnique.{term-unique}
use Rattle.smtlib.specs.Readings.{operators, a_tree, is_variable, is_operator, MeansIn, Reads}
use Rattle.smtlib.specs.Sorts.{
  same_sort,
  same_sorts,
  ranks,
  result_of,
  rank,
  sort_applied,
  both_sorts,
  sort_over,
  sort_in,
  theory_symbols,
  logics,
  WellSorted,
}

-- ---------------------------------------------------------------- every form

forms_text : List ℕ
forms_text =
    bytes "(set-logic QF_AUFBV)\n(declare-const x (_ BitVec 8))(declare-const |b c| (Array (_ BitVec 8)(_ BitVec 16)))"
    ++ (bytes "(declare-fun c () (_ BitVec 8)) ( declare-fun f ((_ BitVec 8) (_ BitVec 8)) (_ BitVec 8) )"
    ++ bytes "(assert (= ((_ extract 5 2) x) #b0101))(assert (let ((|let| (bvnot c))) (bvult |let| (f x |x|))))(check-sat)")

forms_script : Script
forms_script =
    record {
      logic = bytes "QF_AUFBV";
      declarations = declare_const (bytes "x") (bit_vec 8)
          ∷ declare_const (bytes "b c") (array (bit_vec 8) (bit_vec 16))
          ∷ declare_fun (bytes "c") [] (bit_vec 8)
          ∷ declare_fun (bytes "f") (bit_vec 8 ∷ bit_vec 8 ∷ []) (bit_vec 8)
          ∷ [];
      assertions = more
          (application (plain (bytes "=")) (application (indexed (bytes "extract") 5 (2 ∷ [])) x none) (more (literal (bytes "0101")) none))
          (more
          (binding (bytes "let") (application (plain (bytes "bvnot")) (identifier (bytes "c")) none)
          (application (plain (bytes "bvult")) (identifier (bytes "let")) (more (application (plain (bytes "f")) x (more x none)) none)))
          none);
    }
  where
    x : Term
    x = identifier (bytes "x")

forms : Lex forms_text (script_tokens forms_script)
unfolding forms_text forms_script lexable script_tokens declarations_tokens declaration_tokens sort_tokens sorts_tokens assertions_tokens term_tokens operator_tokens
    numerals_tokens
forms = lex-text forms_text tt

-- ---------------------------------------------------------------- texts that are no script's

-- the bytes hold tokens, but no script's
abbrev NoScript : List ℕ → Type 0
NoScript b = T (lexable b) × ((s : Script) → Lex b (script_tokens s) → ⊥)

-- so they have no reading
no-reading : (b : List ℕ) → NoScript b → (r : Reading) → Reads b r → ⊥
no-reading b h r k = h.1 k.script (rw (← k.parsed) k.lexed)

-- what follows the declarations begins so
end_begins : List Token → Bool
unfolding same_tokens bytes
end_begins ts = same_tokens ts (open⁽ ∷ reserved (bytes "check-sat") ∷ close⁾ ∷ []) || same_tokens (take 2 ts) (open⁽ ∷ reserved (bytes "assert") ∷ [])

declares : List Token → Bool
unfolding same_tokens is_symbol bytes
declares ts =
    (same_tokens (take 2 ts) (open⁽ ∷ reserved (bytes "declare-const") ∷ []) && is_symbol (get_or ts 2 close⁾))
    || (same_tokens (take 2 ts) (open⁽ ∷ reserved (bytes "declare-fun") ∷ []) && (is_symbol (get_or ts 2 close⁾) && same_token (get_or ts 3 close⁾) open⁽))

-- what every script begins with: the logic line, and a first command as far as its first symbol or parenthesis
script_begins : List Token → Bool
unfolding end_begins declares
script_begins ts =
    same_tokens (take 2 ts) (open⁽ ∷ reserved (bytes "set-logic") ∷ [])
    && (is_symbol (get_or ts 2 close⁾) && (same_token (get_or ts 3 open⁽) close⁾ && (end_begins (drop 4 ts) || declares (drop 4 ts))))

-- the tokens behind the declarations
abbrev end : Terms → List Token
end ts = assertions_tokens ts ++ (open⁽ ∷ reserved (bytes "check-sat") ∷ close⁾ ∷ [])

end-begins : (ts : Terms) → T (end_begins (end ts))
unfolding end_begins assertions_tokens
end-begins none = tt
end-begins (more t ts) = tt

declaration-begins : (d : Declaration) (r : List Token) → T (declares (declaration_tokens d ++ r))
unfolding declares declaration_tokens
declaration-begins (declare_const n s) r = tt
declaration-begins (declare_fun n ss s) r = tt

body-begins : (ds : List Declaration) (ts : Terms)
    → T (end_begins (declarations_tokens ds ++ end ts) || declares (declarations_tokens ds ++ end ts))
unfolding declarations_tokens
body-begins [] ts = or_l (end_begins (end ts)) _ (end-begins ts)
body-begins (d ∷ ds) ts =
    or_r (end_begins ((declaration_tokens d ++ declarations_tokens ds) ++ end ts)) _ (rw append_assoc (declaration-begins d (declarations_tokens ds ++ end ts)))

script-begins : (s : Script) → T (script_begins (script_tokens s))
unfolding script_begins script_tokens
script-begins s = body-begins s.declarations s.assertions

no_scripts : List String
no_scripts =
    -- no logic line, or a wrong one
    ""
    ∷ "(check-sat)"
    ∷ "(|set-logic| QF_BV)(check-sat)"
    ∷ "(set-logic let)(check-sat)"
    ∷ "(set-logic QF_BV 1)(check-sat)"
    -- no end, or something behind it
    ∷ "(set-logic QF_BV)"
    ∷ "(set-logic QF_BV)(|check-sat|)"
    ∷ "(set-logic QF_BV)(check-sat)(check-sat)"
    ∷ "(set-logic QF_BV)(check-sat)(exit)"
    -- a reserved word or a numeral for a symbol
    ∷ "(set-logic QF_BV)(declare-const let (_ BitVec 8))(check-sat)"
    ∷ "(set-logic QF_BV)(declare-const 1 (_ BitVec 8))(check-sat)"
    ∷ "(set-logic QF_AUFBV)(declare-fun assert () (_ BitVec 8))(check-sat)"
    -- a symbol for a reserved word, and another command
    ∷ "(set-logic QF_BV)(|assert| (= #b1 #b1))(check-sat)"
    ∷ "(set-logic QF_BV)(|declare-const| x (_ BitVec 8))(check-sat)"
    ∷ "(set-logic QF_BV)(push 1)(check-sat)"
    -- no list of sorts
    ∷ "(set-logic QF_AUFBV)(declare-fun f x (_ BitVec 8))(check-sat)"
    ∷ []

no-scripts : (b : List ℕ) → T (in_list b (map bytes no_scripts)) → NoScript b
unfolding no_scripts lexable script_begins
no-scripts b h =
    let k = every_in (λ b. lexable b && not (script_begins (lexemes b))) (map bytes no_scripts) b tt h in
    let l = and_0 (lexable b) (not (script_begins (lexemes b))) k in (
      l,
      λ s m. T_not (script_begins (lexemes b)) (and-1 (lexable b) (not (script_begins (lexemes b))) k)
          (subst (λ (ts : List Token). T (script_begins ts)) (lex-unique b (script_tokens s) (lexemes b) m (lex-text b l)) (script-begins s)),
    )

-- two of them with their tokens: a bare `let` is no symbol, and `assert` between bars is no command

reserved_name : List ℕ
reserved_name = bytes "(set-logic QF_BV)(declare-const let (_ BitVec 8))(check-sat)"

reserved-name : (lexemes reserved_name
    ≡ open⁽ ∷ reserved (bytes "set-logic") ∷ symbol (bytes "QF_BV") ∷ close⁾
    ∷ open⁽ ∷ reserved (bytes "declare-const") ∷ reserved (bytes "let")
    ∷ open⁽ ∷ reserved (bytes "_") ∷ symbol (bytes "BitVec") ∷ numeral 8 ∷ close⁾ ∷ close⁾
    ∷ open⁽ ∷ reserved (bytes "check-sat") ∷ close⁾ ∷ [])
    × NoScript reserved_name
unfolding reserved_name no_scripts lexable
reserved-name = (refl, no-scripts reserved_name tt)

barred_command : List ℕ
barred_command = bytes "(set-logic QF_BV)(|assert| (= #b1 #b1))(check-sat)"

barred-command : (lexemes barred_command
    ≡ open⁽ ∷ reserved (bytes "set-logic") ∷ symbol (bytes "QF_BV") ∷ close⁾
    ∷ open⁽ ∷ symbol (bytes "assert") ∷ open⁽ ∷ symbol (bytes "=") ∷ binary (bytes "1") ∷ binary (bytes "1") ∷ close⁾ ∷ close⁾
    ∷ open⁽ ∷ reserved (bytes "check-sat") ∷ close⁾ ∷ [])
    × NoScript barred_command
unfolding barred_command no_scripts lexable
barred-command = (refl, no-scripts barred_command tt)

-- a declaration behind an assertion

disordered : String
disordered = "(set-logic QF_BV)(assert p)(declare-const p (_ BitVec 8))(check-sat)"

no-order : NoScript (bytes disordered)
unfolding disordered lexable script_tokens declarations_tokens assertions_tokens end_begins declares term_tokens
no-order =
    (tt, λ s l. no s.declarations s.assertions (ap (drop 4) (lex-unique (bytes disordered) (script_tokens s) (lexemes (bytes disordered)) l (lex-text (bytes disordered) tt))))
  where
    -- the tokens behind the assertion's term
    rest : List Token
    rest = drop 7 (lexemes (bytes disordered))

    behind : (ts : Terms) → end ts ≡ drop 4 (lexemes (bytes disordered)) → ⊥
    behind none e = subst (λ (us : List Token). T (same_tokens us (end none))) e (same-tokens (end none))
    behind (more t ts) e =
        let f = term-unique t (identifier (bytes "p")) (close⁾ ∷ end ts) rest (simp append_assoc at (ap (drop 2) e)) in
        subst (λ (us : List Token). T (end_begins (drop 1 us))) f.1 (end-begins ts)

    no : (ds : List Declaration) (ts : Terms) → declarations_tokens ds ++ end ts ≡ drop 4 (lexemes (bytes disordered)) → ⊥
    no [] ts e = behind ts e
    no (d ∷ ds) ts e = subst (λ (us : List Token). T (declares us)) (simp append_assoc at e) (declaration-begins d (declarations_tokens ds ++ end ts))

-- ---------------------------------------------------------------- texts that are no term's

-- an operator begins so: a symbol, or (_ symbol numeral
operator_begins : List Token → Bool
unfolding same_tokens is_symbol is_number bytes
operator_begins ts =
    is_symbol (get_or ts 0 close⁾) || (same_tokens (take 2 ts) (open⁽ ∷ reserved (bytes "_") ∷ []) && (is_symbol (get_or ts 2 close⁾) && is_number (get_or ts 3 close⁾)))

-- a term begins so: a constant, a symbol, (operator, or (let ((symbol
term_begins : List Token → Bool
unfolding operator_begins is_constant
term_begins ts =
    is_constant (get_or ts 0 close⁾)
    || (is_symbol (get_or ts 0 close⁾)
    || ((same_tokens (take 1 ts) (open⁽ ∷ []) && operator_begins (drop 1 ts))
    || (same_tokens (take 4 ts) (open⁽ ∷ reserved (bytes "let") ∷ open⁽ ∷ open⁽ ∷ []) && is_symbol (get_or ts 4 close⁾))))

term-begins : (t : Term) (r : List Token) → T (term_begins (term_tokens t ++ r))
unfolding term_begins term_tokens operator_tokens
term-begins (literal ds) r = tt
term-begins (identifier n) r = tt
term-begins (application (plain n) t ts) r = tt
term-begins (application (indexed n k ks) t ts) r = tt
term-begins (binding n t b) r = tt

-- a whole term: one token, or with a first operand or a bound term, in which another begins
term_shaped : List Token → Bool
unfolding term_begins
term_shaped ts =
    ((is_constant (get_or ts 0 close⁾) || is_symbol (get_or ts 0 close⁾)) && same_tokens (drop 1 ts) [])
    || ((same_tokens (take 1 ts) (open⁽ ∷ []) && (is_symbol (get_or ts 1 close⁾) && term_begins (drop 2 ts)))
    || ((same_tokens (take 2 ts) (open⁽ ∷ open⁽ ∷ []) && operator_begins (drop 1 ts))
    || (same_tokens (take 4 ts) (open⁽ ∷ reserved (bytes "let") ∷ open⁽ ∷ open⁽ ∷ []) && (is_symbol (get_or ts 4 close⁾) && term_begins (drop 5 ts)))))

term-shaped : (t : Term) → T (term_shaped (term_tokens t))
unfolding term_shaped term_tokens operator_tokens
term-shaped (literal ds) = tt
term-shaped (identifier n) = tt
term-shaped (application (plain n) t ts) = or_l (term_begins (term_tokens t ++ _)) _ (term-begins t _)
term-shaped (application (indexed n k ks) t ts) = tt
term-shaped (binding n t b) = term-begins t _

no_terms : List String
no_terms =
    ""
    ∷ "()"
    -- no operand, no operator
    ∷ "(f)"
    ∷ "(#b1 x)"
    ∷ "((f x) y)"
    -- an operator with numerals
    ∷ "((_ f) x)"
    ∷ "((_ f x) x)"
    ∷ "((|_| f 1) x)"
    ∷ "(_ f 1)"
    -- a binding
    ∷ "(let x y)"
    ∷ "(let () y)"
    ∷ "(let ((x)) y)"
    ∷ "(|let| ((x y)) x)"
    ∷ "let"
    ∷ "1"
    -- two terms
    ∷ "x y"
    ∷ "#b0 #b1"
    ∷ []

no-terms : (b : List ℕ) → T (in_list b (map bytes no_terms)) → (t : Term) → Lex b (term_tokens t) → ⊥
unfolding no_terms lexable term_shaped
no-terms b h t m =
    let k = every_in (λ b. lexable b && not (term_shaped (lexemes b))) (map bytes no_terms) b tt h in
    T_not (term_shaped (lexemes b)) (and-1 (lexable b) (not (term_shaped (lexemes b))) k)
    (subst (λ (ts : List Token). T (term_shaped ts)) (lex-unique b (term_tokens t) (lexemes b) m (lex-text b (and_0 (lexable b) _ k))) (term-shaped t))

-- ---------------------------------------------------------------- texts that are no sort's

sort_shaped : List Token → Bool
unfolding same_tokens is_number bytes
sort_shaped ts =
    (same_tokens (take 3 ts) (open⁽ ∷ reserved (bytes "_") ∷ symbol (bytes "BitVec") ∷ []) && (is_number (get_or ts 3 close⁾) && same_tokens (drop 4 ts) (close⁾ ∷ [])))
    || same_tokens (take 3 ts) (open⁽ ∷ symbol (bytes "Array") ∷ open⁽ ∷ [])

sort-shaped : (s : Sort) → T (sort_shaped (sort_tokens s))
unfolding sort_shaped sort_tokens
sort-shaped (bit_vec n) = tt
sort-shaped (array (bit_vec n) t) = tt
sort-shaped (array (array s u) t) = tt

no_sorts : List String
no_sorts =
    "BitVec" ∷ "(BitVec 8)" ∷ "(_ BitVec)" ∷ "(_ BitVec x)" ∷ "(_ BitVec 8 8)" ∷ "(_ bitvec 8)" ∷ "(|_| BitVec 8)" ∷ "(Array)" ∷ "(Array Bool Bool)" ∷ "Bool" ∷ "" ∷ []

no-sorts : (b : List ℕ) → T (in_list b (map bytes no_sorts)) → (s : Sort) → Lex b (sort_tokens s) → ⊥
unfolding no_sorts lexable sort_shaped
no-sorts b h s m =
    let k = every_in (λ b. lexable b && not (sort_shaped (lexemes b))) (map bytes no_sorts) b tt h in
    T_not (sort_shaped (lexemes b)) (and-1 (lexable b) (not (sort_shaped (lexemes b))) k)
    (subst (λ (ts : List Token). T (sort_shaped ts)) (lex-unique b (sort_tokens s) (lexemes b) m (lex-text b (and_0 (lexable b) _ k))) (sort-shaped s))

-- ---------------------------------------------------------------- a symbol that is a reserved word

barred_text : List ℕ
barred_text = bytes "(set-logic QF_BV)(declare-const |let| (_ BitVec 8))(assert (= |let| |let|))(check-sat)"

barred_script : Script
barred_script =
    record {
      logic = bytes "QF_BV";
      declarations = declare_const (bytes "let") (bit_vec 8) ∷ [];
      assertions = more (application (plain (bytes "=")) (identifier (bytes "let")) (more (identifier (bytes "let")) none)) none;
    }

barred_reading : Reading
barred_reading =
    record {
      declarations = record { variables = record { name = bytes "let"; width = 8 } ∷ []; arrays = []; functions = [] };
      assertions = moreTrees (apply Eq [] (moreTrees (variable (bytes "let")) (moreTrees (variable (bytes "let")) noTrees))) noTrees;
    }

barred-reads : Reads barred_text barred_reading
unfolding barred_text barred_script barred_reading lexable script_tokens declarations_tokens declaration_tokens sort_tokens assertions_tokens term_tokens operator_tokens
    MeansIn operators
barred-reads =
    let x = a_tree (variable (bytes "let")) in
    let xs = moreTrees (variable (bytes "let")) (moreTrees (variable (bytes "let")) noTrees) in
    record {
      tokens = lexemes barred_text;
      script = barred_script;
      lexed = lex-text barred_text tt;
      parsed = refl;
      means = record { declares = refl; asserts = ((x, x ∷ [], is_variable tt refl, (is_variable tt refl, tt), is_operator Eq xs tt refl refl), tt) };
    }

barred-sorted : WellSorted barred_script
unfolding barred_script sort_in both_sorts sort_over sort_applied rank ranks result_of same_sorts same_sort theory_symbols logics bytes same
barred-sorted =
    record { logic_known = tt; admitted = (tt, tt); sensible_sorts = (tt, tt); declared_once = tt; names_free = (tt, tt); assertions_bool = (refl, tt) }
