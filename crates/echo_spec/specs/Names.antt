-- Names: which a table may declare.
use Rattle.std.specs.Prelude.{ℕ, List, [], ◌∷◌, ◌++◌, map, Bool, true, false, ◌&&◌, not, leb, eqb}
use Prim.Native.String.{String}
use Rattle.lists.specs.Bytes.{bytes}
use Rattle.lists.specs.Tests.{every, in_list}
use Rattle.reading.specs.Trees.{Name}
use Rattle.echo_spec.specs.Input.{Dag, name_table, aname_table, fname_table}

-- `byte_ok`, and above 127 the bytes that the Rust does not take: from 32 to 255 without 127, no bar (124) and no backslash (92).
-- A byte is a byte: nothing here knows of an encoding of letters.
unfoldable pub byte_ok : ℕ → Bool
byte_ok c = leb 32 c && (not (eqb c 127) && (leb c 255 && (not (eqb c 124) && not (eqb c 92))))

-- `first_ok`: there is a first byte, and it is no @ and no full stop
unfoldable pub first_ok : Name → Bool
first_ok [] = false
first_ok (c ∷ s) = not (eqb c 64) && not (eqb c 46)

-- the words of `reserved_0` to `reserved_4`, in that order; the Rust is the yardstick for these
unfoldable pub rust_words : List String
rust_words =
    "!" ∷ "_" ∷ "as" ∷ "BINARY" ∷ "DECIMAL" ∷ "exists" ∷ "HEXADECIMAL" ∷ "forall" ∷ "let" ∷ "match" ∷ "NUMERAL" ∷ "par" ∷ "STRING" ∷ "assert"
    ∷ "check-sat" ∷ "check-sat-assuming" ∷ "declare-const" ∷ "declare-datatype" ∷ "declare-datatypes" ∷ "declare-fun" ∷ "declare-sort"
    ∷ "define-fun" ∷ "define-fun-rec" ∷ "define-funs-rec"
    ∷ "define-sort" ∷ "echo" ∷ "exit" ∷ "get-assertions" ∷ "get-assignment" ∷ "get-info" ∷ "get-model" ∷ "get-option" ∷ "get-proof"
    ∷ "get-unsat-assumptions" ∷ "get-unsat-core" ∷ "get-value" ∷ "pop" ∷ "push" ∷ "reset" ∷ "reset-assertions" ∷ "set-info" ∷ "set-logic"
    ∷ "set-option"
    ∷ "Bool" ∷ "true" ∷ "false" ∷ "not" ∷ "=>" ∷ "and" ∷ "or" ∷ "xor" ∷ "=" ∷ "distinct" ∷ "ite" ∷ "QF_BV" ∷ "QF_ABV" ∷ "QF_AUFBV" ∷ "Array"
    ∷ "select" ∷ "store" ∷ "BitVec" ∷ "concat" ∷ "extract" ∷ "repeat" ∷ "zero_extend" ∷ "sign_extend" ∷ "rotate_left" ∷ "rotate_right"
    ∷ "bvnot" ∷ "bvneg" ∷ "bvand" ∷ "bvor" ∷ "bvxor" ∷ "bvnand" ∷ "bvnor" ∷ "bvxnor" ∷ "bvcomp" ∷ "bvadd" ∷ "bvsub" ∷ "bvmul" ∷ "bvudiv"
    ∷ "bvurem" ∷ "bvsdiv" ∷ "bvsrem" ∷ "bvsmod" ∷ "bvshl" ∷ "bvlshr" ∷ "bvashr" ∷ "bvult" ∷ "bvule" ∷ "bvugt" ∷ "bvuge" ∷ "bvslt" ∷ "bvsle"
    ∷ "bvsgt" ∷ "bvsge"
    ∷ "bvnego" ∷ "bvuaddo" ∷ "bvsaddo" ∷ "bvumulo" ∷ "bvsmulo" ∷ "bvusubo" ∷ "bvssubo" ∷ "bvsdivo" ∷ "lambda" ∷ "define-const" ∷ "bvredor"
    ∷ "bvredand" ∷ "bv2int" ∷ "int2bv" ∷ "bv2nat" ∷ "nat2bv" ∷ []

-- the function symbols from bit-vectors to integers and back that SMT-LIB 2.7 added; it is the yardstick for these, and the Rust, which
-- accepts them as names, is not
unfoldable pub smtlib27_words : List String
smtlib27_words = "ubv_to_int" ∷ "sbv_to_int" ∷ "int_to_bv" ∷ []

unfoldable pub reserved : List Name
reserved = map bytes rust_words ++ map bytes smtlib27_words

-- `entry_ok`: a name by itself, and after the names before it
unfoldable pub entry_ok : List Name → Name → Bool
entry_ok before n = every byte_ok n && (first_ok n && (not (in_list n reserved) && not (in_list n before)))

-- `table_ok`: each name of a table, after the names of the tables before it and those before it in its own
unfoldable pub table_ok : List Name → List Name → Bool
table_ok before [] = true
table_ok before (n ∷ ns) = entry_ok before n && table_ok (before ++ (n ∷ [])) ns

unfoldable pub names_ok : Dag → Bool
names_ok d = table_ok [] (name_table d) && (table_ok (name_table d) (aname_table d) && table_ok (name_table d ++ aname_table d) (fname_table d))
