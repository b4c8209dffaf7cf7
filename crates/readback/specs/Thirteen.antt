-- Computed examples of 13: bytes that are no problem's script, each beside one that is, from which it differs in the one thing named.
use Rattle.std.specs.Prelude.{ℕ, ◌≡◌, refl, List, [], ◌∷◌, ◌++◌, map, Bool, true, false}
use Prim.Native.String.{String}
use Rattle.std.proofs.Math.Option.{Option, none, some}
use Rattle.lists.specs.Bytes.{bytes}
use Rattle.reading.specs.Trees.{Reading}
use Rattle.readback.specs.ScriptReader.{reading_in}
use Rattle.readback.specs.Examples.{all_read}

abbrev found : Option Reading → Bool
found none = false
found (some r) = true

abbrev is_script : List ℕ → Bool
is_script b = found (reading_in b)

abbrev are_scripts : List String → List Bool
are_scripts ts = map (λ (t : String). is_script (bytes t)) ts

abbrev all : Bool → List String → List Bool
all b ts = map (λ (t : String). b) ts

-- lines between the logic line and the end
abbrev plain : String → List ℕ
plain t = bytes "(set-logic QF_BV)\n(declare-const |x| (_ BitVec 8))\n" ++ (bytes t ++ bytes "(check-sat)\n")

abbrev are_plain : List String → List Bool
are_plain ts = map (λ (t : String). is_script (plain t)) ts

-- ---------------------------------------------------------------- whole scripts

abbrev scripts : List String
scripts =
    "(set-logic QF_BV)\n(check-sat)\n"
    ∷ "(set-logic QF_ABV)\n(declare-const |m| (Array (_ BitVec 65536) (_ BitVec 1)))\n(check-sat)\n"
    ∷ "(set-logic QF_AUFBV)\n(declare-fun |f| () (_ BitVec 8))\n(check-sat)\n"
    ∷ "(set-logic QF_BV)\n(declare-const |x| (_ BitVec 1099511627776))\n(check-sat)\n"
    ∷ "(set-logic QF_BV)\n(declare-const |x| (_ BitVec 18446744073709551615))\n(check-sat)\n"
    ∷ "(set-logic QF_BV)\n(declare-const |a;b c| (_ BitVec 1))\n(check-sat)\n"
    ∷ "(set-logic QF_BV)\n(declare-const |x| (_ BitVec 65536))\n(assert (= ((_ rotate_right 65535) |x|) |x|))\n(check-sat)\n"
    ∷ "(set-logic QF_AUFBV)\n(declare-const |x| (_ BitVec 18446744073709551615))\n(declare-fun |f| ((_ BitVec 18446744073709551615)) (_ BitVec 8))\n(check-sat)\n"
    ∷ []

scripts-are : are_scripts scripts ≡ all true scripts
unfolding all_read
scripts-are = refl

abbrev no_scripts : List String
no_scripts =
    -- nothing, a part, more
    ""
    ∷ "(set-logic QF_BV)\n"
    ∷ "(set-logic QF_BV)\n(check-sat)"
    ∷ "(set-logic QF_BV)\n(check-sat)\n\n"
    ∷ "(set-logic QF_BV)\n(check-sat)\n(set-logic QF_BV)\n(check-sat)\n"
    -- other white space, a comment
    ∷ " (set-logic QF_BV)\n(check-sat)\n"
    ∷ "(set-logic  QF_BV)\n(check-sat)\n"
    ∷ "(set-logic QF_BV )\n(check-sat)\n"
    ∷ "(set-logic QF_BV) (check-sat)\n"
    ∷ "(set-logic QF_BV)\n\n(check-sat)\n"
    ∷ "; a comment\n(set-logic QF_BV)\n(check-sat)\n"
    -- another logic line than the printer's
    ∷ "(set-logic QF_ABV)\n(check-sat)\n"
    ∷ "(set-logic ALL)\n(check-sat)\n"
    ∷ "(set-logic QF_BV)\n(declare-const |m| (Array (_ BitVec 8) (_ BitVec 1)))\n(check-sat)\n"
    ∷ "(set-logic QF_ABV)\n(declare-fun |f| () (_ BitVec 8))\n(check-sat)\n"
    -- `declare-fun` for a variable, and a declaration out of order
    ∷ "(set-logic QF_BV)\n(declare-fun |x| () (_ BitVec 8))\n(check-sat)\n"
    ∷ "(set-logic QF_ABV)\n(declare-const |m| (Array (_ BitVec 8) (_ BitVec 1)))\n(declare-const |x| (_ BitVec 8))\n(check-sat)\n"
    -- widths: a leading zero, 0, 2^64 and more, an array's above 65,536
    ∷ "(set-logic QF_BV)\n(declare-const |x| (_ BitVec 08))\n(check-sat)\n"
    ∷ "(set-logic QF_BV)\n(declare-const |x| (_ BitVec 0))\n(check-sat)\n"
    ∷ "(set-logic QF_BV)\n(declare-const |x| (_ BitVec ))\n(check-sat)\n"
    ∷ "(set-logic QF_BV)\n(declare-const |x| (_ BitVec 18446744073709551616))\n(check-sat)\n"
    ∷ "(set-logic QF_AUFBV)\n(declare-fun |f| ((_ BitVec 18446744073709551616)) (_ BitVec 8))\n(check-sat)\n"
    ∷ "(set-logic QF_AUFBV)\n(declare-fun |f| () (_ BitVec 18446744073709551616))\n(check-sat)\n"
    ∷ "(set-logic QF_ABV)\n(declare-const |m| (Array (_ BitVec 65537) (_ BitVec 1)))\n(check-sat)\n"
    ∷ "(set-logic QF_ABV)\n(declare-const |m| (Array (_ BitVec 1) (_ BitVec 65537)))\n(check-sat)\n"
    ∷ "(set-logic QF_ABV)\n(declare-const |m| (Array (_ BitVec 0) (_ BitVec 1)))\n(check-sat)\n"
    -- a rotation wider than 65,536
    ∷ "(set-logic QF_BV)\n(declare-const |x| (_ BitVec 65537))\n(assert (= ((_ rotate_right 65535) |x|) |x|))\n(check-sat)\n"
    -- names: without bars, empty, a byte that is not permitted, a reserved word, one declared twice
    ∷ "(set-logic QF_BV)\n(declare-const x (_ BitVec 8))\n(check-sat)\n"
    ∷ "(set-logic QF_BV)\n(declare-const || (_ BitVec 8))\n(check-sat)\n"
    ∷ "(set-logic QF_BV)\n(declare-const |a\nb| (_ BitVec 8))\n(check-sat)\n"
    ∷ "(set-logic QF_BV)\n(declare-const |@x| (_ BitVec 8))\n(check-sat)\n"
    ∷ "(set-logic QF_BV)\n(declare-const |bvadd| (_ BitVec 8))\n(check-sat)\n"
    ∷ "(set-logic QF_BV)\n(declare-const |ubv_to_int| (_ BitVec 8))\n(check-sat)\n"
    ∷ "(set-logic QF_BV)\n(declare-const |x| (_ BitVec 8))\n(declare-const |x| (_ BitVec 8))\n(check-sat)\n"
    ∷ "(set-logic QF_AUFBV)\n(declare-const |x| (_ BitVec 8))\n(declare-fun |x| () (_ BitVec 8))\n(check-sat)\n"
    -- another command
    ∷ "(set-logic QF_BV)\n(check-sat)\n(exit)\n"
    ∷ "(set-logic QF_BV)\n(set-info :status sat)\n(check-sat)\n"
    ∷ []

no-scripts-are : are_scripts no_scripts ≡ all false no_scripts
unfolding all_read
no-scripts-are = refl

-- ---------------------------------------------------------------- assertions, over x of 8 bits

abbrev assertions : List String
assertions =
    "(assert (= |x| #b00000000))\n"
    ∷ "(assert (= |x| #b00000000))\n(assert (= |x| #b00000000))\n"
    ∷ "(assert (= ((_ rotate_left 7) |x|) |x|))\n"
    ∷ "(assert (= ((_ extract 7 0) |x|) |x|))\n"
    ∷ "(assert (= ((_ zero_extend 0) |x|) |x|))\n"
    ∷ "(assert (= ((_ extract 7 0) ((_ zero_extend 18446744073709551607) |x|)) |x|))\n"
    ∷ "(assert (= (bvnot |x|) |x|))\n"
    ∷ "(assert (not (not (not (not (not (not (not (not (bvult |x| |x|))))))))))\n"
    ∷ []

assertions-are : are_plain assertions ≡ all true assertions
unfolding all_read
assertions-are = refl

abbrev no_assertions : List String
no_assertions =
    -- white space, a comment
    "(assert (=  |x| #b00000000))\n"
    ∷ "(assert (= |x| #b00000000 ))\n"
    ∷ "(assert (= |x|\n#b00000000))\n"
    ∷ "(assert (= |x| #b00000000)) ; done\n"
    -- brackets too many or too few, around nothing, after the end
    ∷ "(assert (= |x| #b00000000)))\n"
    ∷ "(assert (= |x| #b00000000)\n"
    ∷ "(assert ((= |x| #b00000000)))\n"
    ∷ "(assert ())\n"
    ∷ "(assert (= |x| (|x|)))\n"
    -- constants in another notation, of another width, without digits
    ∷ "(assert (= |x| #x00))\n"
    ∷ "(assert (= |x| (_ bv0 8)))\n"
    ∷ "(assert (= |x| #b0000000))\n"
    ∷ "(assert (= |x| #b))\n"
    ∷ "(assert (= |x| #b00000002))\n"
    -- numerals: a leading zero, none, one too many
    ∷ "(assert (= ((_ rotate_left 07) |x|) |x|))\n"
    ∷ "(assert (= ((_ rotate_left) |x|) |x|))\n"
    ∷ "(assert (= ((_ rotate_left 1 2) |x|) |x|))\n"
    ∷ "(assert (= ((_ bvnot) |x|) |x|))\n"
    ∷ "(assert (= ((_ bvnot 1) |x|) |x|))\n"
    ∷ "(assert (= (rotate_left |x|) |x|))\n"
    -- a rotate amount not below the width
    ∷ "(assert (= ((_ rotate_left 8) |x|) |x|))\n"
    -- sorts
    ∷ "(assert |x|)\n"
    ∷ "(assert #b1)\n"
    ∷ "(assert (bvadd |x| |x|))\n"
    ∷ "(assert (= (bvult |x| |x|) (bvult |x| |x|)))\n"
    ∷ "(assert (not |x|))\n"
    ∷ "(assert (= ((_ extract 8 0) |x|) |x|))\n"
    ∷ "(assert (= ((_ extract 3 4) |x|) |x|))\n"
    ∷ "(assert (= ((_ extract 7 0) ((_ zero_extend 18446744073709551608) |x|)) |x|))\n"
    -- operands too few or too many
    ∷ "(assert (= |x|))\n"
    ∷ "(assert (= |x| |x| |x|))\n"
    ∷ "(assert (= (bvadd |x| |x| |x|) |x|))\n"
    ∷ "(assert (and))\n"
    -- words that the printer does not use, and names that are not declared
    ∷ "(assert true)\n"
    ∷ "(assert (=> (bvult |x| |x|) (bvult |x| |x|)))\n"
    ∷ "(assert (= (bvnand |x| |x|) |x|))\n"
    ∷ "(assert (= |x| |y|))\n"
    ∷ "(assert (= x x))\n"
    ∷ "(assert (let ((|y| |x|)) (= |y| |y|)))\n"
    ∷ "(assert (! (= |x| |x|) :named a))\n"
    -- a declaration after an assertion
    ∷ "(assert (= |x| |x|))\n(declare-const |y| (_ BitVec 8))\n"
    ∷ []

no-assertions-are : are_plain no_assertions ≡ all false no_assertions
unfolding all_read
no-assertions-are = refl

-- ---------------------------------------------------------------- arrays and calls

-- m from 3 bits to 2, f of an argument of 2 bits, g of none
abbrev mixed : String → List ℕ
mixed t =
    bytes "(set-logic QF_AUFBV)\n(declare-const |i| (_ BitVec 3))\n(declare-const |v| (_ BitVec 2))\n(declare-const |m| (Array (_ BitVec 3) (_ BitVec 2)))\n(declare-fun |f| ((_ BitVec 2)) (_ BitVec 2))\n(declare-fun |g| () (_ BitVec 2))\n"
    ++ (bytes t ++ bytes "(check-sat)\n")

abbrev are_mixed : List String → List Bool
are_mixed ts = map (λ (t : String). is_script (mixed t)) ts

abbrev terms : List String
terms =
    "(assert (= (select |m| |i|) |v|))\n"
    ∷ "(assert (= (select (store |m| |i| |v|) |i|) |v|))\n"
    ∷ "(assert (= (|f| |v|) |g|))\n"
    ∷ []

terms-are : are_mixed terms ≡ all true terms
unfolding all_read
terms-are = refl

abbrev no_terms : List String
no_terms =
    -- index and value of other widths, an array where none belongs, a store by itself, a select with one operand
    "(assert (= (select |m| |v|) |v|))\n"
    ∷ "(assert (= (select |m| |i|) |i|))\n"
    ∷ "(assert (= (select (store |m| |v| |v|) |i|) |v|))\n"
    ∷ "(assert (= (select (store |m| |i| |i|) |i|) |v|))\n"
    ∷ "(assert (= |m| |m|))\n"
    ∷ "(assert (= (store |m| |i| |v|) (store |m| |i| |v|)))\n"
    ∷ "(assert (= (select |m|) |v|))\n"
    ∷ "(assert (= (select |v| |i|) |v|))\n"
    -- arguments too few, too many, of another width; a call without arguments in brackets; a variable as a function
    ∷ "(assert (= |f| |v|))\n"
    ∷ "(assert (= (|f|) |v|))\n"
    ∷ "(assert (= (|f| |v| |v|) |v|))\n"
    ∷ "(assert (= (|f| |i|) |v|))\n"
    ∷ "(assert (= (|g|) |v|))\n"
    ∷ "(assert (= (|g| |v|) |v|))\n"
    ∷ "(assert (= (|v| |v|) |v|))\n"
    ∷ []

no-terms-are : are_mixed no_terms ≡ all false no_terms
unfolding all_read
no-terms-are = refl
