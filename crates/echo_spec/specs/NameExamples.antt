-- Examples of 2: which names a table may declare.
use Rattle.std.specs.Prelude.{ℕ, ◌+◌, ◌≡◌, refl, List, [], ◌∷◌, ◌++◌, map, Bool, true, false, ◌&&◌, T, eqb, length, replicate}
use Prim.Native.String.{String}
use Rattle.lists.specs.Bytes.{bytes}
use Rattle.lists.specs.Tests.{same, distinct}
use Rattle.lists.specs.Build.{tabulate}
use Rattle.reading.specs.Trees.{Name}
use Rattle.echo_spec.specs.Input.{Problem}
use Rattle.echo_spec.specs.Names.{byte_ok, first_ok, rust_words, smtlib27_words, reserved}
use Rattle.echo_spec.specs.Answers.{Answer, echo_ext_answer}
use Rattle.echo_spec.specs.Examples.{joined, problem, var, fun, Example, given, wanted, refuses, passes, all_meet}

-- ---------------------------------------------------------------- bytes

-- one variable of width 8 at this place of an arena
abbrev pub name_at : List ℕ → ℕ → ℕ → Problem
name_at arena start len = record {
  nodes = [];
  bits = [];
  side = [];
  roots = [];
  names = arena;
  name_start = start ∷ [];
  name_len = len ∷ [];
  var_node = 0 ∷ [];
  var_width = 8 ∷ [];
  anames = [];
  aname_start = [];
  aname_len = [];
  index_width = [];
  value_width = [];
  fnames = [];
  fname_start = [];
  fname_len = [];
  func_width = [];
}

-- 2, or 10 where there is no such refusal and no room
abbrev number : Problem → ℕ
number p = (echo_ext_answer p []).number

-- each number from 0 to 257: 32 to 255 but for \ (92), | (124) and 127
abbrev no : ℕ → List Bool
no n = replicate n false

abbrev yes : ℕ → List Bool
yes n = replicate n true

name-bytes : tabulate 258 byte_ok ≡ no 32 ++ (yes 60 ++ (no 1 ++ (yes 31 ++ (no 1 ++ (yes 2 ++ (no 1 ++ (yes 128 ++ no 2)))))))
unfolding byte_ok
name-bytes = refl

-- and as the first byte: any but the full stop (46) and @ (64)
first-bytes : tabulate 258 (λ c. first_ok (c ∷ [])) ≡ yes 46 ++ (no 1 ++ (yes 17 ++ (no 1 ++ yes 193)))
unfolding first_ok
first-bytes = refl

-- the bytes at which the rules change, and those that a bar, a backslash, a full stop or an @ would be with their highest bit set
edges : List ℕ
edges =
    0 ∷ 31 ∷ 32 ∷ 45 ∷ 46 ∷ 47 ∷ 63 ∷ 64 ∷ 65 ∷ 91 ∷ 92 ∷ 93 ∷ 123 ∷ 124 ∷ 125 ∷ 126 ∷ 127 ∷ 128 ∷ 174 ∷ 192 ∷ 220 ∷ 252 ∷ 254 ∷ 255 ∷ 256 ∷ []

-- alone, and before, between and after two letters Q; no reserved word is such a name
placed : ℕ → List ℕ
placed c =
    map (λ n. number (name_at n 0 (length n))) ((c ∷ []) ∷ (c ∷ 81 ∷ 81 ∷ []) ∷ (81 ∷ c ∷ 81 ∷ []) ∷ (81 ∷ 81 ∷ c ∷ []) ∷ [])

abbrev anywhere : List ℕ
anywhere = 10 ∷ 10 ∷ 10 ∷ 10 ∷ []

abbrev nowhere : List ℕ
nowhere = 2 ∷ 2 ∷ 2 ∷ 2 ∷ []

abbrev not_first : List ℕ
not_first = 2 ∷ 2 ∷ 10 ∷ 10 ∷ []

edge-bytes : map placed edges
    ≡ nowhere ∷ nowhere ∷ anywhere ∷ anywhere ∷ not_first ∷ anywhere ∷ anywhere ∷ not_first ∷ anywhere ∷ anywhere ∷ nowhere ∷ anywhere ∷ anywhere
    ∷ nowhere ∷ anywhere ∷ anywhere ∷ nowhere ∷ anywhere ∷ anywhere ∷ anywhere ∷ anywhere ∷ anywhere ∷ anywhere ∷ anywhere ∷ nowhere ∷ []
unfolding all_meet edges placed
edge-bytes = refl

-- ---------------------------------------------------------------- reserved words

-- the Rust's, in alphabetical order
words : List String
words =
    "!" ∷ "=" ∷ "=>" ∷ "Array" ∷ "BINARY" ∷ "BitVec" ∷ "Bool" ∷ "DECIMAL" ∷ "HEXADECIMAL" ∷ "NUMERAL" ∷ "QF_ABV" ∷ "QF_AUFBV" ∷ "QF_BV"
    ∷ "STRING" ∷ "_" ∷ "and" ∷ "as" ∷ "assert" ∷ "bv2int" ∷ "bv2nat" ∷ "bvadd" ∷ "bvand" ∷ "bvashr" ∷ "bvcomp" ∷ "bvlshr" ∷ "bvmul"
    ∷ "bvnand" ∷ "bvneg" ∷ "bvnego" ∷ "bvnor" ∷ "bvnot" ∷ "bvor" ∷ "bvredand" ∷ "bvredor" ∷ "bvsaddo" ∷ "bvsdiv" ∷ "bvsdivo" ∷ "bvsge"
    ∷ "bvsgt" ∷ "bvshl" ∷ "bvsle" ∷ "bvslt" ∷ "bvsmod" ∷ "bvsmulo" ∷ "bvsrem" ∷ "bvssubo" ∷ "bvsub" ∷ "bvuaddo" ∷ "bvudiv" ∷ "bvuge"
    ∷ "bvugt" ∷ "bvule" ∷ "bvult" ∷ "bvumulo" ∷ "bvurem" ∷ "bvusubo" ∷ "bvxnor" ∷ "bvxor" ∷ "check-sat" ∷ "check-sat-assuming" ∷ "concat"
    ∷ "declare-const" ∷ "declare-datatype" ∷ "declare-datatypes" ∷ "declare-fun" ∷ "declare-sort" ∷ "define-const" ∷ "define-fun"
    ∷ "define-fun-rec" ∷ "define-funs-rec" ∷ "define-sort" ∷ "distinct" ∷ "echo" ∷ "exists" ∷ "exit" ∷ "extract" ∷ "false" ∷ "forall"
    ∷ "get-assertions" ∷ "get-assignment" ∷ "get-info" ∷ "get-model" ∷ "get-option" ∷ "get-proof" ∷ "get-unsat-assumptions"
    ∷ "get-unsat-core" ∷ "get-value" ∷ "int2bv" ∷ "ite" ∷ "lambda" ∷ "let" ∷ "match" ∷ "nat2bv" ∷ "not" ∷ "or" ∷ "par" ∷ "pop" ∷ "push"
    ∷ "repeat" ∷ "reset" ∷ "reset-assertions" ∷ "rotate_left" ∷ "rotate_right" ∷ "select" ∷ "set-info" ∷ "set-logic" ∷ "set-option"
    ∷ "sign_extend" ∷ "store" ∷ "true" ∷ "xor" ∷ "zero_extend" ∷ []

abbrev one_variable : String → Problem
one_variable x = problem [] [] [] [] (var x 0 8 ∷ []) [] []

-- how many document 01 says that the Rust has
document_count : ℕ
document_count = 112

-- the words are as many and no two of them are equal, and each is refused: so they are these
reserved-count : T (eqb (length rust_words) document_count && distinct reserved)
unfolding bytes same rust_words smtlib27_words reserved document_count
reserved-count = tt

words-distinct : T (eqb (length words) document_count && distinct (map bytes words))
unfolding bytes same words document_count
words-distinct = tt

reserved-words : map (λ x. number (one_variable x)) words ≡ replicate (length words) 2
unfolding all_meet words
reserved-words = refl

-- ---------------------------------------------------------------- names

-- variables, arrays and functions of these names
abbrev declared : List String → List String → List String → Problem
declared xs ms fs = problem [] [] [] [] (map (λ x. var x 0 8) xs) ms (map (λ f. fun f 8) fs)

-- the words that SMT-LIB 2.7 added are these, and each is refused in each table
added_words : List String
added_words = "int_to_bv" ∷ "sbv_to_int" ∷ "ubv_to_int" ∷ []

-- the number of each name as a variable's, as an array's and as a function's
in_tables : List String → List ℕ
in_tables xs =
    map (λ x. number (declared (x ∷ []) [] [])) xs
    ++ (map (λ x. number (declared [] (x ∷ []) [])) xs ++ map (λ x. number (declared [] [] (x ∷ []))) xs)

added-words : (length smtlib27_words ≡ length added_words) × (in_tables added_words ≡ 2 ∷ 2 ∷ 2 ∷ 2 ∷ 2 ∷ 2 ∷ 2 ∷ 2 ∷ 2 ∷ [])
unfolding all_meet added_words in_tables
added-words = (refl, refl)

-- with a letter changed, left out, added, exchanged, or in the other case a name passes (a function that is never called is 7)
near_words : List String
near_words =
    "int_to_bw" ∷ "int_to_v" ∷ "int_to_bvs" ∷ "int_ot_bv" ∷ "Int_to_bv" ∷ "INT_TO_BV"
    ∷ "sbw_to_int" ∷ "sbv_to_in" ∷ " sbv_to_int" ∷ "sbv_to_nit" ∷ "sbv_to_Int" ∷ "SBV_TO_INT"
    ∷ "abv_to_int" ∷ "bv_to_int" ∷ "ubv__to_int" ∷ "ubv-to-int" ∷ "ubv_to_inT" ∷ "UBV_TO_INT" ∷ []

near-words : in_tables near_words
    ≡ replicate (length near_words) 10 ++ (replicate (length near_words) 10 ++ replicate (length near_words) 7)
unfolding all_meet near_words in_tables
near-words = refl

-- ---------------------------------------------------------------- names in other alphabets

-- where each name starts in an arena of names end to end
abbrev starts_of : ℕ → List Name → List ℕ
starts_of k [] = []
starts_of k (n ∷ ns) = k ∷ starts_of (k + length n) ns

-- variables, arrays and functions of these names, given by their bytes
abbrev spelt : List Name → List Name → List Name → Problem
spelt xs ms fs = record {
  nodes = [];
  bits = [];
  side = [];
  roots = [];
  names = joined xs;
  name_start = starts_of 0 xs;
  name_len = map (λ n. length n) xs;
  var_node = map (λ n. 0) xs;
  var_width = map (λ n. 8) xs;
  anames = joined ms;
  aname_start = starts_of 0 ms;
  aname_len = map (λ n. length n) ms;
  index_width = map (λ n. 32) ms;
  value_width = map (λ n. 8) ms;
  fnames = joined fs;
  fname_start = starts_of 0 fs;
  fname_len = map (λ n. length n) fs;
  func_width = map (λ n. 8) fs;
}

-- the letters b and c with two bytes from 128 on before, between and after them, as vowels with two dots are in UTF-8
abbrev umlauts : Name
umlauts = 195 ∷ 188 ∷ 98 ∷ 195 ∷ 164 ∷ 99 ∷ 195 ∷ 182 ∷ []

-- and with one of these bytes changed
other_first : Name
other_first = 194 ∷ 188 ∷ 98 ∷ 195 ∷ 164 ∷ 99 ∷ 195 ∷ 182 ∷ []

other_middle : Name
other_middle = 195 ∷ 188 ∷ 98 ∷ 195 ∷ 165 ∷ 99 ∷ 195 ∷ 182 ∷ []

other_last : Name
other_last = 195 ∷ 188 ∷ 98 ∷ 195 ∷ 164 ∷ 99 ∷ 195 ∷ 150 ∷ []

others : List Name
others = other_first ∷ other_middle ∷ other_last ∷ []

-- a name beside another, as the two of one table and of two (a function that is never called is 7)
beside : Name → Name → List ℕ
beside n m =
    number (spelt (n ∷ m ∷ []) [] []) ∷ number (spelt [] (n ∷ m ∷ []) []) ∷ number (spelt [] [] (n ∷ m ∷ []))
    ∷ number (spelt (n ∷ []) (m ∷ []) []) ∷ number (spelt (n ∷ []) [] (m ∷ [])) ∷ number (spelt [] (n ∷ []) (m ∷ [])) ∷ []

-- 2 where they are equal, and no refusal of a name where they differ in one byte from 128 on
beside-others : (beside umlauts umlauts ≡ replicate 6 2)
    × (map (beside umlauts) others ≡ replicate 3 (10 ∷ 10 ∷ 7 ∷ 10 ∷ 7 ∷ 7 ∷ []))
unfolding all_meet others other_first other_middle other_last beside
beside-others = (refl, refl)

name_cases : List (Example Answer)
name_cases =
    -- reserved words in the other tables
    refuses "2: an array's name" 2 (declared [] ("store" ∷ []) [])
    ∷ refuses "2: a function's name" 2 (declared [] [] ("bvmul" ∷ []))
    ∷ refuses "2: a later name" 2 (declared ("x" ∷ "let" ∷ []) [] [])
    -- a reserved word and a letter more or less, and another case
    ∷ passes "one letter more" (declared ("bvadd2" ∷ []) [] [])
    ∷ passes "one letter less" (declared ("bvad" ∷ []) [] [])
    ∷ passes "case counts" (declared ("Let" ∷ "LET" ∷ "x" ∷ "X" ∷ []) ("y" ∷ []) [])
    -- inside the arena, from its first byte to its last
    ∷ passes "all of the arena" (name_at (120 ∷ 121 ∷ 122 ∷ []) 0 3)
    ∷ passes "the last byte" (name_at (120 ∷ 121 ∷ 122 ∷ []) 2 1)
    ∷ refuses "2: one byte past" 2 (name_at (120 ∷ 121 ∷ 122 ∷ []) 0 4)
    ∷ refuses "2: starts at the end" 2 (name_at (120 ∷ 121 ∷ 122 ∷ []) 3 1)
    ∷ refuses "2: ends past the end" 2 (name_at (120 ∷ 121 ∷ 122 ∷ []) 2 2)
    ∷ refuses "2: start and length whose sum passes 64 bits" 2 (name_at (120 ∷ 121 ∷ 122 ∷ []) 18446744073709551615 2)
    ∷ refuses "2: length and start whose sum passes 64 bits" 2 (name_at (120 ∷ 121 ∷ 122 ∷ []) 2 18446744073709551615)
    -- one byte or more
    ∷ refuses "2: empty" 2 (name_at (120 ∷ 121 ∷ 122 ∷ []) 0 0)
    ∷ refuses "2: empty at the end" 2 (name_at (120 ∷ 121 ∷ 122 ∷ []) 3 0)
    -- only the name's own bytes count
    ∷ passes "a bar after the name" (name_at (120 ∷ 124 ∷ []) 0 1)
    ∷ passes "a full stop before the name" (name_at (46 ∷ 120 ∷ []) 1 1)
    ∷ refuses "2: a bar as the last byte" 2 (name_at (120 ∷ 121 ∷ 124 ∷ []) 0 3)
    -- no name twice, in one table or in two
    ∷ refuses "2: two variables" 2 (declared ("x" ∷ "x" ∷ []) [] [])
    ∷ refuses "2: two variables, apart" 2 (declared ("x" ∷ "y" ∷ "x" ∷ []) [] [])
    ∷ refuses "2: two arrays" 2 (declared [] ("m" ∷ "k" ∷ "m" ∷ []) [])
    ∷ refuses "2: two functions" 2 (declared [] [] ("f" ∷ "g" ∷ "f" ∷ []))
    ∷ refuses "2: a variable and an array" 2 (declared ("x" ∷ "y" ∷ []) ("m" ∷ "x" ∷ []) [])
    ∷ refuses "2: a variable and a function" 2 (declared ("x" ∷ "y" ∷ []) [] ("f" ∷ "y" ∷ []))
    ∷ refuses "2: an array and a function" 2 (declared ("x" ∷ []) ("m" ∷ "k" ∷ []) ("m" ∷ []))
    -- a byte with its highest bit set is another byte
    ∷ passes "let and a byte from 128 on" (spelt ((108 ∷ 101 ∷ 116 ∷ 128 ∷ []) ∷ (255 ∷ 108 ∷ 101 ∷ 116 ∷ []) ∷ []) ((108 ∷ 229 ∷ 116 ∷ []) ∷ []) [])
    ∷ passes "x and the byte 128 above it" (spelt ((120 ∷ []) ∷ (248 ∷ []) ∷ []) [] [])
    -- one letter, u with two dots, as one code point, as two, and in one byte
    ∷ passes "three spellings of a letter" (spelt ((195 ∷ 188 ∷ []) ∷ (117 ∷ 204 ∷ 136 ∷ []) ∷ (252 ∷ []) ∷ []) [] [])
    ∷ refuses "7, not 2: all names differ" 7 (declared ("x" ∷ "xx" ∷ []) ("m" ∷ "mm" ∷ []) ("f" ∷ "ff" ∷ []))
    ∷ []

name-cases : given name_cases ≡ wanted name_cases
unfolding all_meet name_cases
name-cases = refl
