-- Every condition of well-sortedness, with scripts, terms and applications that fail by it alone and, beside them, the same
-- mended.
use Rattle.std.specs.Prelude.{ℕ, suc, ◌≡◌, refl, List, [], ◌∷◌, ◌++◌, map, Bool, true, false, ◌&&◌, ◌||◌, not, cond, T}
use Prim.Native.String.{String}
use Rattle.std.proofs.Common.{sym, subst}
use Rattle.std.proofs.Math.Option.{Option, none, some}
use Rattle.lists.specs.Bytes.{bytes}
use Rattle.lists.specs.Tests.{same, in_list, every, distinct, by-test, and_T, and_0, and-1, same→eq}
use Rattle.reading.specs.Trees.{Name}
use Rattle.smtlib.specs.Grammar.{Sort, bit_vec, array, plain, indexed, Term, literal, identifier, application, binding, Terms}
use Rattle.smtlib.specs.Grammar.{none as no_terms, more as moreTerms, Declaration, declare_const, declare_fun, Script}
use Rattle.smtlib.specs.Sorts.{TermSort, bool, bits, bits_array, same_sort, same_sorts, ranks, result_of, rank, name_of, sort_applied, both_sorts}
use Rattle.smtlib.specs.Sorts.{sort_over, sort_in, sort_of, AllBool, theory_symbols, free, sensible_declaration, logics, admits, WellSorted}
use Rattle.smtlib.specs.Deciding.{Decided, agree, decided, all→every}

-- ---------------------------------------------------------------- the conditions as tests

is_bool : Option TermSort → Bool
is_bool none = false
is_bool (some bool) = true
is_bool (some (bits n)) = false
is_bool (some (bits_array i v)) = false

all_bool : List Declaration → Terms → Bool
all_bool ds no_terms = true
all_bool ds (moreTerms t ts) = is_bool (sort_of ds t) && all_bool ds ts

bool-by-test : (o : Option TermSort) → T (is_bool o) → o ≡ some bool
unfolding is_bool
bool-by-test none h = absurd h
bool-by-test (some bool) h = refl
bool-by-test (some (bits n)) h = absurd h
bool-by-test (some (bits_array i v)) h = absurd h

all-bool-by-test : (ds : List Declaration) (ts : Terms) → T (all_bool ds ts) → AllBool ds ts
unfolding all_bool
all-bool-by-test ds no_terms h = tt
all-bool-by-test ds (moreTerms t ts) h =
    (bool-by-test (sort_of ds t) (and_0 (is_bool (sort_of ds t)) (all_bool ds ts) h), all-bool-by-test ds ts (and-1 (is_bool (sort_of ds t)) (all_bool ds ts) h))

all-bool→test : (ds : List Declaration) (ts : Terms) → AllBool ds ts → T (all_bool ds ts)
unfolding all_bool is_bool
all-bool→test ds no_terms h = tt
all-bool→test ds (moreTerms t ts) h =
    and_T (is_bool (sort_of ds t)) (all_bool ds ts) (subst (λ (o : Option TermSort). T (is_bool o)) (sym h.0) tt) (all-bool→test ds ts h.1)

-- the six conditions, in the order of `WellSorted`
conditions : Script → List Bool
conditions s =
    in_list s.logic logics
    ∷ every (admits s.logic) s.declarations
    ∷ every sensible_declaration s.declarations
    ∷ distinct (map name_of s.declarations)
    ∷ every free (map name_of s.declarations)
    ∷ all_bool s.declarations s.assertions
    ∷ []

-- the numbers of those that fail, from 1
faults : ℕ → List Bool → List ℕ
faults k [] = []
faults k (b ∷ bs) = cond b (faults (suc k) bs) (k ∷ faults (suc k) bs)

no-faults : (k : ℕ) (bs : List Bool) → T (same (faults k bs) []) → T (every (λ b. b) bs)
unfolding faults same
no-faults k [] h = tt
no-faults k (true ∷ bs) h = no-faults (suc k) bs h
no-faults k (false ∷ bs) h = h

faultless : (k : ℕ) (bs : List Bool) → T (every (λ b. b) bs) → T (same (faults k bs) [])
unfolding faults same
faultless k [] h = tt
faultless k (true ∷ bs) h = faultless (suc k) bs h
faultless k (false ∷ bs) h = h

faults_of : Script → List ℕ
unfolding faults conditions all_bool is_bool
faults_of s = faults 1 (conditions s)

sorted-by-test : (s : Script) → T (same (faults_of s) []) → WellSorted s
unfolding faults_of
sorted-by-test s h =
    let c₁ = in_list s.logic logics in
    let c₂ = every (admits s.logic) s.declarations in
    let c₃ = every sensible_declaration s.declarations in
    let c₄ = distinct (map name_of s.declarations) in
    let c₅ = every free (map name_of s.declarations) in
    let c₆ = all_bool s.declarations s.assertions in
    let h₁ : T (c₁ && (c₂ && (c₃ && (c₄ && (c₅ && (c₆ && true)))))) = no-faults 1 (conditions s) h in
    let h₂ = and-1 c₁ (c₂ && (c₃ && (c₄ && (c₅ && (c₆ && true))))) h₁ in
    let h₃ = and-1 c₂ (c₃ && (c₄ && (c₅ && (c₆ && true)))) h₂ in
    let h₄ = and-1 c₃ (c₄ && (c₅ && (c₆ && true))) h₃ in
    let h₅ = and-1 c₄ (c₅ && (c₆ && true)) h₄ in
    let h₆ = and-1 c₅ (c₆ && true) h₅ in
    record {
      logic_known = and_0 c₁ _ h₁;
      admitted = by-test (admits s.logic) s.declarations (and_0 c₂ _ h₂);
      sensible_sorts = by-test sensible_declaration s.declarations (and_0 c₃ _ h₃);
      declared_once = and_0 c₄ _ h₄;
      names_free = by-test free (map name_of s.declarations) (and_0 c₅ _ h₅);
      assertions_bool = all-bool-by-test s.declarations s.assertions (and_0 c₆ true h₆);
    }

sorted→test : (s : Script) → WellSorted s → T (same (faults_of s) [])
unfolding faults_of
sorted→test s h =
    faultless 1 (conditions s)
    (and_T (in_list s.logic logics) _ h.logic_known
    (and_T (every (admits s.logic) s.declarations) _ (all→every (admits s.logic) s.declarations h.admitted)
    (and_T (every sensible_declaration s.declarations) _ (all→every sensible_declaration s.declarations h.sensible_sorts)
    (and_T (distinct (map name_of s.declarations)) _ h.declared_once
    (and_T (every free (map name_of s.declarations)) _ (all→every free (map name_of s.declarations) h.names_free)
    (and_T (all_bool s.declarations s.assertions) true (all-bool→test s.declarations s.assertions h.assertions_bool) tt))))))

-- ---------------------------------------------------------------- scripts

-- a script, and the condition that it fails by, if any
record Case : Type 0 where
  script : Script
  failing : List ℕ

abbrev case : List ℕ → String → List Declaration → Terms → Case
case ks l ds ts = record { script = record { logic = bytes l; declarations = ds; assertions = ts }; failing = ks }

abbrev constant : String → Sort → Declaration
constant n s = declare_const (bytes n) s

abbrev function : String → List Sort → Sort → Declaration
function n ss s = declare_fun (bytes n) ss s

abbrev v : Sort
v = bit_vec 8

abbrev zero_wide : Sort
zero_wide = bit_vec 0

abbrev m : Sort
m = array v v

abbrev name : String → Term
name n = identifier (bytes n)

abbrev term₁ : String → Term → Term
term₁ n t = application (plain (bytes n)) t no_terms

abbrev term₂ : String → Term → Term → Term
term₂ n t u = application (plain (bytes n)) t (moreTerms u no_terms)

abbrev assert : Term → Terms
assert t = moreTerms t no_terms

fine : List ℕ
fine = []

cases : List Case
unfolding fine
cases =
    -- 1: the logic is one of three
    case fine "QF_BV" [] no_terms
    ∷ case fine "QF_ABV" [] no_terms
    ∷ case fine "QF_AUFBV" [] no_terms
    ∷ case (1 ∷ []) "QF_UFBV" [] no_terms
    ∷ case (1 ∷ []) "QF_bv" [] no_terms
    ∷ case (1 ∷ []) "" [] no_terms
    -- 2: the logic admits the declarations
    ∷ case fine "QF_BV" (constant "x" v ∷ function "c" [] v ∷ []) no_terms
    ∷ case fine "QF_ABV" (constant "x" v ∷ constant "a" m ∷ function "b" [] m ∷ []) no_terms
    ∷ case fine "QF_AUFBV" (constant "x" v ∷ constant "a" m ∷ function "b" [] m ∷ function "f" (v ∷ v ∷ []) v ∷ []) no_terms
    ∷ case (2 ∷ []) "QF_BV" (constant "a" m ∷ []) no_terms
    ∷ case (2 ∷ []) "QF_BV" (function "a" [] m ∷ []) no_terms
    ∷ case (2 ∷ []) "QF_BV" (constant "x" v ∷ constant "a" m ∷ []) no_terms
    ∷ case (2 ∷ []) "QF_BV" (function "f" (v ∷ []) v ∷ []) no_terms
    ∷ case (2 ∷ []) "QF_ABV" (function "f" (v ∷ []) v ∷ []) no_terms
    ∷ case (2 ∷ []) "QF_AUFBV" (function "f" (v ∷ []) m ∷ []) no_terms
    ∷ case (2 ∷ []) "QF_AUFBV" (function "f" (m ∷ []) v ∷ []) no_terms
    ∷ case (2 ∷ []) "QF_AUFBV" (function "f" (v ∷ m ∷ []) v ∷ []) no_terms
    -- 3: every sort is one of the theories', with widths above 0
    ∷ case (3 ∷ []) "QF_BV" (constant "x" zero_wide ∷ []) no_terms
    ∷ case (3 ∷ []) "QF_BV" (constant "x" v ∷ constant "y" zero_wide ∷ []) no_terms
    ∷ case (3 ∷ []) "QF_ABV" (constant "a" (array zero_wide v) ∷ []) no_terms
    ∷ case (3 ∷ []) "QF_ABV" (constant "a" (array v zero_wide) ∷ []) no_terms
    ∷ case (3 ∷ []) "QF_ABV" (constant "a" (array v m) ∷ []) no_terms
    ∷ case (3 ∷ []) "QF_ABV" (constant "a" (array m v) ∷ []) no_terms
    ∷ case (3 ∷ []) "QF_AUFBV" (function "f" (v ∷ []) zero_wide ∷ []) no_terms
    ∷ case (3 ∷ []) "QF_AUFBV" (function "f" (zero_wide ∷ []) v ∷ []) no_terms
    ∷ case (3 ∷ []) "QF_AUFBV" (function "f" (v ∷ zero_wide ∷ []) v ∷ []) no_terms
    -- 4: no symbol is declared twice
    ∷ case fine "QF_BV" (constant "x" v ∷ constant "X" v ∷ constant "y" v ∷ []) no_terms
    ∷ case (4 ∷ []) "QF_BV" (constant "x" v ∷ constant "x" v ∷ []) no_terms
    ∷ case (4 ∷ []) "QF_BV" (constant "x" v ∷ constant "y" v ∷ constant "x" (bit_vec 9) ∷ []) no_terms
    ∷ case (4 ∷ []) "QF_AUFBV" (constant "y" v ∷ constant "x" v ∷ function "x" (v ∷ []) v ∷ []) no_terms
    ∷ case (4 ∷ []) "QF_ABV" (constant "x" m ∷ function "x" [] v ∷ []) no_terms
    -- 5: no symbol is the theories' or a solver's
    ∷ case fine "QF_BV" (constant "bvadd2" v ∷ constant "x@" v ∷ constant "x." v ∷ constant "let" v ∷ constant "" v ∷ []) no_terms
    ∷ case (5 ∷ []) "QF_BV" (constant "bvadd" v ∷ []) no_terms
    ∷ case (5 ∷ []) "QF_BV" (constant "x" v ∷ constant "bvcomp" v ∷ []) no_terms
    ∷ case (5 ∷ []) "QF_AUFBV" (function "true" (v ∷ []) v ∷ []) no_terms
    ∷ case (5 ∷ []) "QF_BV" (constant "@x" v ∷ []) no_terms
    ∷ case (5 ∷ []) "QF_BV" (constant ".x" v ∷ []) no_terms
    -- 6: every assertion is a Bool
    ∷ case fine "QF_BV" (constant "x" v ∷ []) (assert (term₂ "=" (name "x") (name "x")))
    ∷ case (6 ∷ []) "QF_BV" (constant "x" v ∷ []) (assert (name "x"))
    ∷ case (6 ∷ []) "QF_ABV" (constant "a" m ∷ []) (assert (name "a"))
    ∷ case (6 ∷ []) "QF_BV" (constant "x" (bit_vec 1) ∷ []) (assert (name "x"))
    ∷ case (6 ∷ []) "QF_BV" [] (assert (name "x"))
    ∷ case (6 ∷ []) "QF_BV" (constant "x" v ∷ []) (assert (term₂ "=" (name "x") (name "y")))
    ∷ case (6 ∷ []) "QF_BV" (constant "x" v ∷ []) (moreTerms (term₂ "=" (name "x") (name "x")) (assert (name "x")))
    ∷ case (6 ∷ []) "QF_BV" (constant "x" v ∷ []) (moreTerms (name "x") (assert (term₂ "=" (name "x") (name "x"))))
    -- two at once
    ∷ case (1 ∷ 2 ∷ []) "QF_UFBV" (constant "x" v ∷ []) no_terms
    ∷ case (4 ∷ 5 ∷ []) "QF_BV" (constant "select" v ∷ constant "select" v ∷ []) no_terms
    ∷ []

is_fine : List ℕ → Bool
is_fine [] = true
is_fine (k ∷ ks) = false

fails : Case → Bool
unfolding faults_of is_fine sort_in both_sorts sort_over sort_applied rank ranks result_of same_sorts same_sort theory_symbols logics bytes same
fails c = same (faults_of c.script) c.failing && agree (same (faults_of c.script) []) (is_fine c.failing)

-- each script fails by the condition said, and by no other; it is well sorted if there is none
abbrev AllFail : List Case → Type 0
AllFail [] = Unit
AllFail (c ∷ cs) = (faults_of c.script ≡ c.failing) × Decided (is_fine c.failing) (WellSorted c.script) × AllFail cs

all-fail : (cs : List Case) → T (every fails cs) → AllFail cs
unfolding fails
all-fail [] h = tt
all-fail (c ∷ cs) h =
    let fine = same (faults_of c.script) [] in
    let as_said = same (faults_of c.script) c.failing in
    let k = and_0 (fails c) (every fails cs) h in (
      same→eq (faults_of c.script) c.failing (and_0 as_said _ k),
      decided fine (is_fine c.failing) (sorted-by-test c.script) (sorted→test c.script) (and-1 as_said _ k),
      all-fail cs (and-1 (fails c) (every fails cs) h),
    )

cases-fail : AllFail cases
unfolding cases fails
cases-fail = all-fail cases tt

-- the symbols of the theories, each refused
theories : List String
theories =
    "true" ∷ "false" ∷ "not" ∷ "and" ∷ "or" ∷ "xor" ∷ "=>" ∷ "=" ∷ "distinct" ∷ "ite" ∷ "select" ∷ "store" ∷ "concat" ∷ "extract" ∷ "repeat"
    ∷ "zero_extend" ∷ "sign_extend" ∷ "rotate_left" ∷ "rotate_right" ∷ "bvnot" ∷ "bvneg" ∷ "bvand" ∷ "bvor" ∷ "bvxor" ∷ "bvnand" ∷ "bvnor"
    ∷ "bvxnor" ∷ "bvcomp" ∷ "bvadd" ∷ "bvsub" ∷ "bvmul" ∷ "bvudiv" ∷ "bvurem" ∷ "bvsdiv" ∷ "bvsrem" ∷ "bvsmod" ∷ "bvshl" ∷ "bvlshr" ∷ "bvashr"
    ∷ "bvult" ∷ "bvule" ∷ "bvugt" ∷ "bvuge" ∷ "bvslt" ∷ "bvsle" ∷ "bvsgt" ∷ "bvsge" ∷ []

theories-taken : T (every (λ n. not (free (bytes n))) theories) × T (every (λ n. in_list n (map bytes theories)) theory_symbols)
unfolding theories theory_symbols bytes same
theories-taken = (tt, tt)

-- ---------------------------------------------------------------- terms

commands : List Declaration
commands =
    constant "x" v
    ∷ constant "w" (bit_vec 16)
    ∷ constant "a" m
    ∷ function "c" [] (bit_vec 4)
    ∷ function "b" [] (array (bit_vec 16) v)
    ∷ function "f" (v ∷ bit_vec 16 ∷ []) (bit_vec 3)
    ∷ function "g" (array m v ∷ []) v
    ∷ []

-- a term and its sort, if it has one
record Sorted : Type 0 where
  term : Term
  sort : Option TermSort

abbrev has : Term → Option TermSort → Sorted
has t s = record { term = t; sort = s }

abbrev let₁ : String → Term → Term → Term
let₁ n t b = binding (bytes n) t b

sorts : List Sorted
sorts =
    -- constants and names
    has (literal (bytes "0101")) (some (bits 4))
    ∷ has (literal []) none
    ∷ has (name "x") (some (bits 8))
    ∷ has (name "a") (some (bits_array 8 8))
    ∷ has (name "c") (some (bits 4))
    ∷ has (name "b") (some (bits_array 16 8))
    ∷ has (name "z") none
    ∷ has (name "true") none
    -- a function needs its arguments, each of its sort; a constant takes none
    ∷ has (term₂ "f" (name "x") (name "w")) (some (bits 3))
    ∷ has (name "f") none
    ∷ has (term₁ "f" (name "x")) none
    ∷ has (application (plain (bytes "f")) (name "x") (moreTerms (name "w") (moreTerms (name "x") no_terms))) none
    ∷ has (term₂ "f" (name "w") (name "w")) none
    ∷ has (term₂ "f" (name "x") (name "x")) none
    ∷ has (term₂ "f" (name "a") (name "w")) none
    ∷ has (term₂ "f" (term₂ "=" (name "x") (name "x")) (name "w")) none
    ∷ has (term₁ "g" (name "x")) none
    ∷ has (term₁ "c" (name "x")) none
    ∷ has (term₁ "a" (name "x")) none
    ∷ has (application (indexed (bytes "f") 1 []) (name "x") (moreTerms (name "w") no_terms)) none
    -- an operand without a sort
    ∷ has (term₁ "bvnot" (name "z")) none
    ∷ has (term₂ "bvnot" (name "z") (name "x")) none
    ∷ has (term₂ "bvnot" (name "x") (name "z")) none
    ∷ has (term₂ "=" (name "z") (name "x")) none
    ∷ has (term₂ "=" (name "x") (name "z")) none
    ∷ has (term₂ "bvadd" (name "x") (term₂ "bvadd" (name "x") (name "w"))) none
    -- operators with numerals and without
    ∷ has (application (indexed (bytes "rotate_left") 3 []) (name "x") no_terms) (some (bits 8))
    ∷ has (application (indexed (bytes "extract") 5 (2 ∷ [])) (name "x") no_terms) (some (bits 4))
    ∷ has (term₁ "rotate_left" (name "x")) none
    ∷ has (application (indexed (bytes "bvnot") 3 []) (name "x") no_terms) none
    ∷ has (term₂ "select" (name "b") (name "w")) (some (bits 8))
    ∷ has (term₂ "select" (name "b") (name "x")) none
    -- bound names: the innermost decides, in the body alone; the bound term needs a sort, used or not
    ∷ has (let₁ "y" (name "w") (name "y")) (some (bits 16))
    ∷ has (let₁ "x" (name "w") (name "x")) (some (bits 16))
    ∷ has (let₁ "x" (name "w") (let₁ "x" (name "c") (name "x"))) (some (bits 4))
    ∷ has (let₁ "y" (name "y") (name "x")) none
    ∷ has (let₁ "y" (name "z") (name "x")) none
    ∷ has (term₂ "=" (let₁ "y" (name "x") (name "y")) (name "y")) none
    ∷ has (let₁ "y" (name "a") (term₂ "select" (name "y") (name "x"))) (some (bits 8))
    -- a bound name hides the symbol that stands bare, and not the one with numerals
    ∷ has (let₁ "f" (name "x") (term₂ "f" (name "x") (name "w"))) none
    ∷ has (let₁ "bvnot" (name "x") (term₁ "bvnot" (name "x"))) none
    ∷ has (let₁ "rotate_left" (name "x") (application (indexed (bytes "rotate_left") 3 []) (name "x") no_terms)) (some (bits 8))
    ∷ []

sorts-hold : map (λ c. sort_of commands c.term) sorts ≡ map (λ c. c.sort) sorts
unfolding sorts commands sort_in both_sorts sort_over sort_applied rank ranks result_of same_sorts same_sort bytes same
sorts-hold = refl

-- a declared symbol goes before the theories': `WellSorted` asks that there is none such
declared-first : sort_of (constant "x" v ∷ function "bvnot" (v ∷ []) (bit_vec 3) ∷ []) (term₁ "bvnot" (name "x")) ≡ some (bits 3)
unfolding sort_in both_sorts sort_over sort_applied rank ranks result_of same_sorts same_sort bytes same
declared-first = refl

-- ---------------------------------------------------------------- ranks

-- symbols of the theories, with numerals, operands' sorts and the result's
record Used : Type 0 where
  names : List String
  numerals : List ℕ
  operands : List TermSort
  result : TermSort

abbrev given : List String → List ℕ → List TermSort → TermSort → Used
given ns ks ss s = record { names = ns; numerals = ks; operands = ss; result = s }

used : List Used
used =
    given ("not" ∷ []) [] (bool ∷ []) bool
    ∷ given ("and" ∷ "or" ∷ []) [] (bool ∷ bool ∷ []) bool
    ∷ given ("=" ∷ "distinct" ∷ []) [] (bits 8 ∷ bits 8 ∷ []) bool
    ∷ given ("=" ∷ "distinct" ∷ []) [] (bool ∷ bool ∷ []) bool
    ∷ given ("ite" ∷ []) [] (bool ∷ bits 8 ∷ bits 8 ∷ []) (bits 8)
    ∷ given ("ite" ∷ []) [] (bool ∷ bool ∷ bool ∷ []) bool
    ∷ given ("concat" ∷ []) [] (bits 8 ∷ bits 5 ∷ []) (bits 13)
    ∷ given ("extract" ∷ []) (5 ∷ 2 ∷ []) (bits 8 ∷ []) (bits 4)
    ∷ given ("extract" ∷ []) (7 ∷ 0 ∷ []) (bits 8 ∷ []) (bits 8)
    ∷ given ("extract" ∷ []) (3 ∷ 3 ∷ []) (bits 8 ∷ []) (bits 1)
    ∷ given ("bvnot" ∷ "bvneg" ∷ []) [] (bits 8 ∷ []) (bits 8)
    ∷ given ("bvand" ∷ "bvor" ∷ "bvxor" ∷ "bvadd" ∷ "bvsub" ∷ "bvmul" ∷ "bvudiv" ∷ "bvurem" ∷ []) [] (bits 8 ∷ bits 8 ∷ []) (bits 8)
    ∷ given ("bvsdiv" ∷ "bvsrem" ∷ "bvshl" ∷ "bvlshr" ∷ "bvashr" ∷ []) [] (bits 8 ∷ bits 8 ∷ []) (bits 8)
    ∷ given ("bvult" ∷ "bvule" ∷ "bvugt" ∷ "bvuge" ∷ "bvslt" ∷ "bvsle" ∷ "bvsgt" ∷ "bvsge" ∷ []) [] (bits 8 ∷ bits 8 ∷ []) bool
    ∷ given ("zero_extend" ∷ "sign_extend" ∷ []) (5 ∷ []) (bits 8 ∷ []) (bits 13)
    ∷ given ("zero_extend" ∷ "sign_extend" ∷ []) (0 ∷ []) (bits 8 ∷ []) (bits 8)
    ∷ given ("rotate_left" ∷ "rotate_right" ∷ []) (11 ∷ []) (bits 8 ∷ []) (bits 8)
    ∷ given ("select" ∷ []) [] (bits_array 32 8 ∷ bits 32 ∷ []) (bits 8)
    ∷ given ("store" ∷ []) [] (bits_array 32 8 ∷ bits 32 ∷ bits 8 ∷ []) (bits_array 32 8)
    ∷ []

-- the lists that differ in one place: an element changed
abbrev changed : {A : Type 0} → (A → A) → List A → List (List A)
changed f [] = []
changed f (x ∷ xs) = (f x ∷ xs) ∷ map (λ ys. x ∷ ys) (changed f xs)

-- one left out
abbrev shorter : {A : Type 0} → List A → List (List A)
shorter [] = []
shorter (x ∷ xs) = xs ∷ map (λ ys. x ∷ ys) (shorter xs)

-- a sort of another form
abbrev other_form : TermSort → TermSort
other_form bool = bits 8
other_form (bits n) = bool
other_form (bits_array i w) = bits w

-- the same with a width of 0
abbrev emptied : TermSort → TermSort
emptied bool = bool
emptied (bits n) = bits 0
emptied (bits_array i w) = bits_array i 0

is_of : Option TermSort → TermSort → Bool
is_of none s = false
is_of (some t) s = same_sort t s

is_none : Option TermSort → Bool
is_none none = true
is_none (some s) = false

-- The use has its sort. It has none with a numeral or an operand more or fewer, with an operand of another form, or where
-- operands of width 0 take the place of all.
ranked : Used → Bool
unfolding is_of is_none rank ranks result_of same_sorts same_sort bytes same
ranked u = every (λ n. ranked_as (bytes n)) u.names
  where
    ks : List ℕ
    ks = u.numerals

    ss : List TermSort
    ss = u.operands

    ranked_as : Name → Bool
    ranked_as n =
        is_of (rank n ks ss) u.result
        && (every (λ ks. is_none (rank n ks ss)) ((0 ∷ ks) ∷ (ks ++ (0 ∷ [])) ∷ shorter ks)
        && (every (λ ss. is_none (rank n ks ss)) ((bits 8 ∷ ss) ∷ (ss ++ (bits 8 ∷ [])) ∷ (ss ++ (bool ∷ [])) ∷ shorter ss)
        && (every (λ ss. is_none (rank n ks ss)) (changed other_form ss)
        && (every (same_sort bool) ss || is_none (rank n ks (map emptied ss))))))

all-ranked : T (every ranked used)
unfolding used ranked
all-ranked = tt

is_used : Name → List Used → Bool
is_used n [] = false
is_used n (u ∷ us) = in_list n (map bytes u.names) || is_used n us

-- every symbol of the ranks is used there
ranks-used : T (every (λ r. every (λ n. is_used (bytes n) used) r.symbols) ranks)
unfolding used is_used ranks bytes same
ranks-used = tt

-- operands' sorts that differ, and bounds that do not fit
misused : List Used
misused =
    given ("and" ∷ "or" ∷ []) [] (bits 8 ∷ bits 8 ∷ []) bool
    ∷ given ("bvadd" ∷ "bvult" ∷ "concat" ∷ []) [] (bool ∷ bool ∷ []) bool
    ∷ given ("=" ∷ []) [] (bits 8 ∷ bits 9 ∷ []) bool
    ∷ given ("distinct" ∷ []) [] (bits 8 ∷ bits 9 ∷ []) bool
    ∷ given ("=" ∷ []) [] (bits_array 8 8 ∷ bits 8 ∷ []) bool
    ∷ given ("=" ∷ []) [] (bits_array 8 8 ∷ bool ∷ []) bool
    ∷ given ("=" ∷ []) [] (bits 8 ∷ bits_array 8 8 ∷ []) bool
    ∷ given ("=" ∷ []) [] (bool ∷ bits_array 8 8 ∷ []) bool
    ∷ given ("=" ∷ []) [] (bits_array 8 8 ∷ bits_array 8 9 ∷ []) bool
    ∷ given ("=" ∷ []) [] (bits_array 8 8 ∷ bits_array 9 8 ∷ []) bool
    ∷ given ("ite" ∷ []) [] (bool ∷ bits 8 ∷ bits 9 ∷ []) (bits 8)
    ∷ given ("bvadd" ∷ []) [] (bits 8 ∷ bits 9 ∷ []) (bits 8)
    ∷ given ("bvshl" ∷ []) [] (bits 8 ∷ bits 9 ∷ []) (bits 8)
    ∷ given ("bvult" ∷ []) [] (bits 9 ∷ bits 8 ∷ []) bool
    ∷ given ("concat" ∷ []) [] (bits 8 ∷ bits 0 ∷ []) (bits 8)
    ∷ given ("concat" ∷ []) [] (bits 0 ∷ bits 8 ∷ []) (bits 8)
    ∷ given ("extract" ∷ []) (8 ∷ 4 ∷ []) (bits 8 ∷ []) (bits 5)
    ∷ given ("extract" ∷ []) (4 ∷ 5 ∷ []) (bits 8 ∷ []) (bits 1)
    ∷ given ("select" ∷ []) [] (bits_array 32 8 ∷ bits 8 ∷ []) (bits 8)
    ∷ given ("select" ∷ []) [] (bits_array 0 8 ∷ bits 0 ∷ []) (bits 8)
    ∷ given ("store" ∷ []) [] (bits_array 32 8 ∷ bits 8 ∷ bits 8 ∷ []) (bits_array 32 8)
    ∷ given ("store" ∷ []) [] (bits_array 32 8 ∷ bits 32 ∷ bits 32 ∷ []) (bits_array 32 8)
    ∷ given ("bvcomp" ∷ []) [] (bits 8 ∷ bits 8 ∷ []) (bits 1)
    ∷ given ("f" ∷ []) [] (bits 8 ∷ []) (bits 8)
    ∷ []

none-ranked : T (every (λ u. every (λ n. is_none (rank (bytes n) u.numerals u.operands)) u.names) misused)
unfolding misused is_none rank ranks result_of same_sorts same_sort bytes same
none-ranked = tt
