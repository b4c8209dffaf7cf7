-- The claims at problems: each speaks of something. One problem has an array, a function with arguments and one without, and a rotation.
use Rattle.std.specs.Prelude.{ℕ, ◌≤◌, ◌<◌, ◌≡◌, refl, List, [], ◌∷◌, ◌++◌, map, false, T, length, get_or, take, replicate, Ok, Err}
use Rattle.std.proofs.Common.{subst, arith}
use Rattle.lists.specs.Bytes.{bytes}
use Rattle.lists.specs.Tests.{same, same_refl}
use Rattle.reading.specs.Kinds.{Var, Const, ZeroExt, Eq, Rotl, Not, Select, Call}
use Rattle.reading.specs.Trees.{Name}
use Rattle.smtlib.specs.Lexicon.{Lex}
use Rattle.smtlib.specs.Grammar.{Script, script_tokens}
use Rattle.smtlib.specs.Sorts.{WellSorted}
use Rattle.smtlib.specs.Readings.{Reads}
use Rattle.echo_spec.specs.Input.{Problem, nodes_of, no_node}
use Rattle.echo_spec.specs.Widths.{node_wf, ext_wf_of}
use Rattle.echo_spec.specs.Names.{byte_ok}
use Rattle.echo_spec.specs.Answers.{reading, echo_ext_answer}
use Rattle.echo_spec.specs.Examples.{no_arrays, node, problem, var, fun, lent, eleven, all_meet}
use Rattle.refusals.specs.declared.EchoError.TheVariants.{Room}
use Rattle.sliver_kernel.specs.declared.WidthError.TheVariants.{Malformed}
use Rattle.theorems.specs.Scripts.{script_of}
use Rattle.theorems.specs.Answered.{Whole, printed, BeforeNames}
use Rattle.claims.specs.Claims.{
  Accepts,
  EchoContract,
  WidthContract,
  refusal-zeroes,
  accepts-exactly,
  room-only,
  added-words-refused,
  name-bytes,
  other-bytes-refused,
  well-sorted,
  one-lexing,
  one-reading,
  equal-scripts,
  printer-prints,
  printer-refuses,
  bytes-well-sorted,
  bytes_read,
  bytes-equal,
  widths-written,
  widths-count,
  widths-node,
  widths-refused,
}

-- f(rotate_left(x, amount), m[x extended]) = g, with the amount's eight bits
example : List ℕ → Problem
example amount =
    problem
    (node Var 8 0 0 0 ∷ node Const 0 8 0 0 ∷ node Rotl 0 1 0 0 ∷ node ZeroExt 0 24 0 0 ∷ node Select 0 3 0 0 ∷ node Call 0 8 0 2 ∷ node Call 1 8 0 0
    ∷ node Eq 5 6 0 0 ∷ [])
    amount (2 ∷ 4 ∷ []) (7 ∷ []) (var "x" 0 8 ∷ []) ("m" ∷ []) (fun "f" 8 ∷ fun "g" 8 ∷ [])

three : List ℕ
three = 1 ∷ 1 ∷ 0 ∷ 0 ∷ 0 ∷ 0 ∷ 0 ∷ 0 ∷ []

accepted-eleven : Accepts (example eleven) (lent 300)
unfolding all_meet example
accepted-eleven = refl

accepted-three : Accepts (example three) (lent 400)
unfolding all_meet example three
accepted-three = refl

-- the two have the same script, since 11 is 3 modulo 8
same-script : printed (example eleven) ≡ printed (example three)
unfolding all_meet example three
same-script = refl

its-script : printed (example eleven)
    ≡ bytes
    "(set-logic QF_AUFBV)\n(declare-const |x| (_ BitVec 8))\n(declare-const |m| (Array (_ BitVec 32) (_ BitVec 8)))\n(declare-fun |f| ((_ BitVec 8) (_ BitVec 8)) (_ BitVec 8))\n(declare-fun |g| () (_ BitVec 8))\n(assert (= (|f| ((_ rotate_left 3) |x|) (select |m| ((_ zero_extend 24) |x|))) |g|))\n(check-sat)\n"
unfolding all_meet example
its-script = refl

-- the bits of another amount
two : List ℕ
two = 0 ∷ 1 ∷ 0 ∷ 0 ∷ 0 ∷ 0 ∷ 0 ∷ 0 ∷ []

accepted-two : Accepts (example two) (lent 300)
unfolding all_meet example two
accepted-two = refl

-- its script is another
other-script : printed (example eleven) ≡ printed (example two) → ⊥
unfolding all_meet example two
other-script e = subst (λ (l : List ℕ). T (same (printed (example eleven)) l)) e (same_refl (printed (example eleven)))

-- ---------------------------------------------------------------- answers

whole : Whole (example eleven)
whole = ((accepts-exactly (example eleven) (lent 300)).0 accepted-eleven).0

-- it fits a buffer of its length, and none that is shorter
fits : Accepts (example eleven) (lent 299)
unfolding all_meet example
fits = refl

too_short : (echo_ext_answer (example eleven) (lent 298)).number ≡ 10
unfolding all_meet example
too_short = refl

longer : 298 < length (printed (example eleven))
longer = ((room-only (example eleven) (lent 298)).0 too_short).1

cleared : echo_ext_answer (example eleven) (lent 298) ≡ record { number = 10; count = 0; output = replicate 298 0 }
cleared = refusal-zeroes (example eleven) (lent 298) 9 too_short

-- a function that is called has the name of a word that SMT-LIB 2.7 added
integer : Problem
integer = problem (node Call 0 8 0 0 ∷ []) [] [] [] [] [] (fun "int_to_bv" 8 ∷ [])

before-names : BeforeNames integer
unfolding all_meet integer
before-names = record { limits = tt; encoding = tt; columns = tt; arrays = tt; widths = tt }

added-word : (echo_ext_answer integer (lent 200)).number ≡ 2
unfolding all_meet integer
added-word = added-words-refused integer (lent 200) (bytes "int_to_bv") tt tt before-names

-- bytes from 128 on are permitted
high-bytes : T (byte_ok 128) × T (byte_ok 255)
high-bytes =
    let permitted : (c : ℕ) → 128 ≤ c → c ≤ 255 → T (byte_ok c) =
    λ c l h. (name-bytes c).1 (record { printable = omega arith; no_delete = λ e. omega arith; in_byte = h; no-bar = λ e. omega arith; no_backslash = λ e. omega arith }) in
    (permitted 128 (omega arith) (omega arith), permitted 255 (omega arith) (omega arith))

-- ---------------------------------------------------------------- scripts

sorted : (s : Script) × WellSorted s
sorted =
    let w = well-sorted (example eleven) (lent 300) accepted-eleven in
    (w.0, w.2)

lexed : Lex (printed (example eleven)) (script_tokens (script_of (reading (example eleven))))
lexed = (one-lexing (example eleven) (lent 300) accepted-eleven (script_tokens (script_of (reading (example eleven))))).1 refl

read : Reads (printed (example eleven)) (reading (example eleven))
read = (one-reading (example eleven) (lent 300) accepted-eleven (reading (example eleven))).1 refl

equal : ((reading (example eleven)).declarations ≡ (reading (example three)).declarations)
    × ((reading (example eleven)).assertions ≡ (reading (example three)).assertions)
equal = (equal-scripts (example eleven) (example three) (lent 300) (lent 400) accepted-eleven accepted-three).0 same-script

-- so its assertions are others too, or its declarations
unequal : (((reading (example eleven)).declarations ≡ (reading (example two)).declarations)
    × ((reading (example eleven)).assertions ≡ (reading (example two)).assertions)) → ⊥
unequal h = other-script ((equal-scripts (example eleven) (example two) (lent 300) (lent 300) accepted-eleven accepted-two).1 h)

-- ---------------------------------------------------------------- names in other alphabets

-- a problem with names of these bytes: a variable of width 8, an array that is read at it and a function that is called on it
named : Name → Name → Name → Problem
named x m f = record {
  nodes = node Var 8 0 0 0 ++ (node ZeroExt 0 24 0 0 ++ (node Select 0 1 0 0 ++ (node Call 0 8 0 1 ++ node Eq 2 3 0 0)));
  bits = [];
  side = 0 ∷ [];
  roots = 4 ∷ [];
  names = x;
  name_start = 0 ∷ [];
  name_len = length x ∷ [];
  var_node = 0 ∷ [];
  var_width = 8 ∷ [];
  anames = m;
  aname_start = 0 ∷ [];
  aname_len = length m ∷ [];
  index_width = 32 ∷ [];
  value_width = 8 ∷ [];
  fnames = f;
  fname_start = 0 ∷ [];
  fname_len = length f ∷ [];
  func_width = 8 ∷ [];
}

-- German for a check sum, Japanese for a region in two characters, and German for a size; the bytes are those of UTF-8
checksum : Name
checksum = 80 ∷ 114 ∷ 195 ∷ 188 ∷ 102 ∷ 115 ∷ 117 ∷ 109 ∷ 109 ∷ 101 ∷ []

region : Name
region = 233 ∷ 160 ∷ 152 ∷ 229 ∷ 159 ∷ 159 ∷ []

size : Name
size = 71 ∷ 114 ∷ 195 ∷ 182 ∷ 195 ∷ 159 ∷ 101 ∷ []

-- the region with its last byte changed: another character
other_region : Name
other_region = 233 ∷ 160 ∷ 152 ∷ 229 ∷ 159 ∷ 160 ∷ []

foreign : Problem
foreign = named checksum region size

elsewhere : Problem
elsewhere = named checksum other_region size

accepted-foreign : Accepts foreign (lent 300)
unfolding all_meet named checksum region size foreign
accepted-foreign = refl

accepted-elsewhere : Accepts elsewhere (lent 300)
unfolding all_meet named checksum other_region size elsewhere
accepted-elsewhere = refl

-- the names stand in the script as they are
foreign-script : printed foreign
    ≡ bytes "(set-logic QF_AUFBV)\n(declare-const |" ++ (checksum ++ (bytes "| (_ BitVec 8))\n(declare-const |" ++ (region ++ (bytes "| (Array (_ BitVec 32) (_ BitVec 8)))\n(declare-fun |"
    ++ (size ++ (bytes "| ((_ BitVec 8)) (_ BitVec 8))\n(assert (= (select |" ++ (region ++ (bytes "| ((_ zero_extend 24) |" ++ (checksum ++ (bytes "|)) (|" ++ (size
    ++ (bytes "| |" ++ (checksum ++ bytes "|)))\n(check-sat)\n")))))))))))))
unfolding all_meet named checksum region size foreign
foreign-script = refl

foreign-sorted : (s : Script) × Lex (printed foreign) (script_tokens s) × WellSorted s
foreign-sorted = let w = well-sorted foreign (lent 300) accepted-foreign in (w.0, w.1, w.2)

foreign-read : Reads (printed foreign) (reading foreign)
foreign-read = (one-reading foreign (lent 300) accepted-foreign (reading foreign)).1 refl

-- the names that are read are those bytes
foreign-names : (map (λ v. v.name) (reading foreign).declarations.variables ≡ checksum ∷ [])
    × (map (λ a. a.name) (reading foreign).declarations.arrays ≡ region ∷ [])
    × (map (λ f. f.name) (reading foreign).declarations.functions ≡ size ∷ [])
unfolding all_meet named checksum region size foreign
foreign-names = (refl, refl, refl)

-- one byte of one name: other bytes, so other declarations or other trees
foreign-other : printed foreign ≡ printed elsewhere → ⊥
unfolding all_meet named checksum region other_region size foreign elsewhere
foreign-other e = subst (λ (l : List ℕ). T (same (printed foreign) l)) e (same_refl (printed foreign))

foreign-unequal : (((reading foreign).declarations ≡ (reading elsewhere).declarations)
    × ((reading foreign).assertions ≡ (reading elsewhere).assertions)) → ⊥
foreign-unequal h = foreign-other ((equal-scripts foreign elsewhere (lent 300) (lent 300) accepted-foreign accepted-elsewhere).1 h)

-- 127 in a name is 2
deleting : Problem
deleting = named checksum (109 ∷ 127 ∷ []) size

before-deleting : BeforeNames deleting
unfolding all_meet named checksum size deleting
before-deleting = record { limits = tt; encoding = tt; columns = tt; arrays = tt; widths = tt }

delete-refused : (echo_ext_answer deleting (lent 300)).number ≡ 2
unfolding all_meet named checksum size deleting
delete-refused = other-bytes-refused deleting (lent 300) (109 ∷ 127 ∷ []) 127 tt (λ b. b.no_delete refl) tt before-deleting

-- ---------------------------------------------------------------- calls of the printer

-- what a call leaves in the buffer
after : Problem → ℕ → List ℕ
after p room = (echo_ext_answer p (lent room)).output

called : EchoContract (Ok 299) (example eleven) (lent 300) (after (example eleven) 300)
unfolding all_meet example after
called = refl

called-three : EchoContract (Ok 299) (example three) (lent 400) (after (example three) 400)
unfolding all_meet example three after
called-three = refl

refused-call : EchoContract (Err Room) (example eleven) (lent 298) (after (example eleven) 298)
unfolding all_meet example after
refused-call = refl

length-told : 299 ≡ length (printed (example eleven))
length-told = (printer-prints (example eleven) (lent 300) (after (example eleven) 300) 299 called).1

zeroed-buffer : after (example eleven) 298 ≡ replicate 298 0
zeroed-buffer = (printer-refuses (example eleven) (lent 298) (after (example eleven) 298) Room refused-call).1

sorted-bytes : (s : Script) × Lex (take 299 (after (example eleven) 300)) (script_tokens s) × WellSorted s
sorted-bytes = let w = bytes-well-sorted (example eleven) (lent 300) (after (example eleven) 300) 299 called in (w.0, w.1, w.2)

read-bytes : Reads (take 299 (after (example eleven) 300)) (reading (example eleven))
read-bytes = (bytes_read (example eleven) (lent 300) (after (example eleven) 300) 299 called (reading (example eleven))).1 refl

equal-bytes : take 299 (after (example eleven) 300) ≡ take 299 (after (example three) 400)
equal-bytes =
    (bytes-equal (example eleven) (example three) (lent 300) (lent 400) (after (example eleven) 300) (after (example three) 400) 299 299 called called-three).1 equal

-- and of what a call writes for names in other alphabets
foreign-called : EchoContract (Ok 277) foreign (lent 300) (after foreign 300)
unfolding all_meet named checksum region size foreign after
foreign-called = refl

elsewhere-called : EchoContract (Ok 277) elsewhere (lent 300) (after elsewhere 300)
unfolding all_meet named checksum other_region size elsewhere after
elsewhere-called = refl

foreign-bytes-read : Reads (take 277 (after foreign 300)) (reading foreign)
foreign-bytes-read = (bytes_read foreign (lent 300) (after foreign 300) 277 foreign-called (reading foreign)).1 refl

foreign-bytes-differ : take 277 (after foreign 300) ≡ take 277 (after elsewhere 300) → ⊥
foreign-bytes-differ e =
    foreign-unequal ((bytes-equal foreign elsewhere (lent 300) (lent 300) (after foreign 300) (after elsewhere 300) 277 277 foreign-called elsewhere-called).0 e)

-- ---------------------------------------------------------------- calls of the width pass

-- two variables of width 8 and their equation; a variable of width 8 and its negation, which wants a width of 1
good : List ℕ
good = node Var 8 0 0 0 ++ (node Var 8 0 0 0 ++ node Eq 0 1 0 0)

bad : List ℕ
bad = node Var 8 0 0 0 ++ node Not 0 0 0 0

passed : WidthContract (Ok 3) good [] [] no_arrays (lent 4) (8 ∷ 8 ∷ 1 ∷ 170 ∷ [])
unfolding all_meet good
passed = refl

stopped : WidthContract (Err (Malformed 1)) bad [] [] no_arrays (lent 2) (0 ∷ 0 ∷ [])
unfolding all_meet bad
stopped = refl

every-width : 3 ≡ length (nodes_of good)
every-width = (widths-count good [] [] no_arrays (lent 4) (8 ∷ 8 ∷ 1 ∷ 170 ∷ []) 3 passed).0

widths-are : 3 ≡ length (ext_wf_of 0 no_arrays [] (nodes_of good))
widths-are = (widths-written good [] [] no_arrays (lent 4) (8 ∷ 8 ∷ 1 ∷ 170 ∷ []) 3 passed).0

ill-formed : node_wf 0 no_arrays [] (ext_wf_of 0 no_arrays [] (nodes_of bad)) (get_or (nodes_of bad) 1 no_node) ≡ false
ill-formed = (widths-node bad [] [] no_arrays (lent 2) (0 ∷ 0 ∷ []) 1 stopped refl).2

zeroed-widths : ◌≡◌ {A = List ℕ} (0 ∷ 0 ∷ []) (replicate 2 0)
zeroed-widths = widths-refused bad [] [] no_arrays (lent 2) (0 ∷ 0 ∷ []) (Err (Malformed 1)) 0 refl stopped
