-- Laws of heads, one for each arm of the code.
use Prim.Native.Nat.{ℕ, zero, suc, ◌+◌, ◌*◌, ◌-◌, ◌≤◌, ◌<◌}
use Rattle.std.proofs.Math.Path.{◌≡◌, refl, ap, sym}
use Rattle.std.proofs.Common.{◌∙◌, subst, leb→le, ltb→lt, le→leb, lt→ltb, length-append, length-drop, drop_of_length-le}
use mathlib.Core.List.{List, [], ◌∷◌, ◌++◌, map}
use Rattle.std.specs.Prelude.{Bool, not, cond, T, leb, ltb}
use Rattle.std.proofs.Math.Bool.{true, false}
use Rattle.std.specs.Prelude.{Option as Maybe, Some, None}
use Rattle.std.proofs.Math.Option.{Option, none, some}
use native.Mathlib.Omega.{arith}
use borrow.Author.Tests.{ltb-false, eqb-true, ne_eqb}
use Rattle.std.proofs.Math.Dec.{eqb}
use Rattle.std.proofs.Math.ListN.{length, drop, get_or}
use Rattle.lists.specs.Bytes.{bytes}
use Rattle.lists.specs.Tests.{same, every, All, and_0, and-1, and_T, true→T, same→eq}
use Rattle.lists.specs.Build.{find_from}
use Rattle.reading.specs.Trees.{Name, Tree, variable, constant, apply, select, call, Trees, none as noTrees, Stores, base, store, Function, Declarations}
use Rattle.smtlib.specs.Lexicon.{binary_digit}
use Rattle.smtlib.specs.Readings.{bits_of}
use Rattle.echo_spec.specs.Input.{largest, fits64}
use Rattle.echo_spec.specs.Render.{symbols, decimal}
use Rattle.echo_spec.specs.TreeSorts.{TreeSort, bits, proper, if_proper, have_sorts, variable_sort, call_sort, variable_named, function_named, tree_sort}
use Rattle.echo_spec.specs.TreeSortLaws.{if-proper}
use Rattle.echo_spec.specs.Widths.{array_width_ok}
use Rattle.readback.specs.Printable.{width_ok, array_ok}
use Rattle.readback.specs.Rebuild.{variable_number, array_number, function_number}
use Rattle.readback.specs.Reader.{Took, took, and_then, expect, up_to, name_read, read_constant, read_numeral, read_numerals, kind_of, named_tree, applied, applied_indexed, called, Stored, word_end, read_term, read_terms, read_stored}
use Rattle.reader_laws.specs.TermsStrict.{impossible, and-then, expected, up-to-joins, up-to-fails, numeral-strict}
use Rattle.rebuilt.specs.Built.{variable_at, array_at, function_at}
use Rattle.rebuilt.specs.Known.{Declared}
use Rattle.sort_reader.specs.Sorted.{of_sort, sorted, headed, plain-open, plain-sorted, indexed-sorted, indexed-none, indexed-no-numerals}
use Rattle.sort_reader.specs.Leaves.{nothing-sorted, other-sorted, open-nothing, constant-sort, constant-sorted, constant-none, name-sorted, name-none, variable-sort, function-sort, argued, called_by, call-sorted, call-no-name}
use Rattle.sort_reader.specs.Selects.{opened, raised, raised_by, raised-suc, and-nothing, one_store, unwind, one_same, stored-unwound, select-no-store, select-nothing, select-no-name, select-alone, select-no-array}
use Rattle.script_tokens.specs.Reached.{between, Stretch, ends_digits, ends_word, numeral64, Numbered}
use Rattle.script_tokens.specs.Stretches.{bytes-at}
use Rattle.script_tokens.specs.declared.Number.{Number}
use Rattle.script_names.specs.Entries.{Named}
use Rattle.script_names.specs.Laws.{between-length}
use Rattle.script_decls.specs.Sorts.{fits_read}
use Rattle.script_decls.specs.Tails.{word-less}
use Rattle.script_entries.specs.Entries.{NextArgument, Numbers, VariableIs, ArrayIs, FunctionIs, EntryIs}
use Rattle.script_entries.specs.declared.Entry.{Entry}
use Rattle.script_entries.specs.declared.Widths.{Widths}
use Rattle.script_entries.specs.declared.Signature.{Signature}
use Rattle.script_entries.specs.declared.Entry.TheVariants.{Variable as VariableEntry, Array as ArrayEntry, Function as FunctionEntry}
use Rattle.script_entries.specs.Named.{variable-named, function-named, array-unnamed, function-unnamed}
use Rattle.script_heads.specs.Heads.{numerals_of, select_then, name_to, NothingAt, ConstantAt, VariableAt, NullaryAt, OperatorAt, CallAt, select_name, SelectAt}
use Rattle.script_heads.specs.Numerals.{blank_numeral, Bad, first-wide, second-wide, bad-headed, numerals-end, numerals-next, numeral-fails, numeral-many}

-- ---------------------------------------------------------------- bytes by their places

-- what is not 0 stands before the end
pub byte-there : (s : List ℕ) (i : ℕ) {c : ℕ} → get_or s i 0 ≡ c → 0 < c → i < length s
byte-there [] i e h = absurd (omega arith)
byte-there (x ∷ s) zero e h = omega arith
byte-there (x ∷ s) (suc i) e h = let l = byte-there s i e h in omega arith

pub byte-here : (s : List ℕ) (i : ℕ) {c : ℕ} → get_or s i 0 ≡ c → 0 < c → drop i s ≡ c ∷ drop (i + 1) s
byte-here s i e h = bytes-at s i (byte-there s i e h) ∙ ap (λ (x : ℕ). x ∷ drop (i + 1) s) e

pub bytes-here : (s : List ℕ) (i : ℕ) {c d : ℕ} → get_or s i 0 ≡ c → 0 < c → get_or s (i + 1) 0 ≡ d → 0 < d → drop i s ≡ c ∷ d ∷ drop (i + 2) s
bytes-here s i {c} {d} e h g l =
    let z : i + 1 + 1 ≡ i + 2 = omega arith in
    byte-here s i e h ∙ ap (λ (x : List ℕ). c ∷ x) (byte-here s (i + 1) g l ∙ ap (λ (k : ℕ). d ∷ drop k s) z)

-- the end, or the byte that stands there
pub data Standing (s : List ℕ) (i : ℕ) : Type 0 where
  ended : drop i s ≡ [] → Standing s i
  stands : i < length s → drop i s ≡ get_or s i 0 ∷ drop (i + 1) s → Standing s i

pub standing : (s : List ℕ) (i : ℕ) → Standing s i
standing s i = by_order (ltb i (length s)) refl
  where
    by_order : (t : Bool) → ltb i (length s) ≡ t → Standing s i
    by_order true e = let l = ltb→lt i (length s) (true→T e) in stands l (bytes-at s i l)
    by_order false e = ended (drop_of_length-le s {i = i} (ltb-false i (length s) e))

pub byte-apart : (s : List ℕ) (i c : ℕ) → (get_or s i 0 ≡ c → ⊥) → expect (c ∷ []) (drop i s) ≡ none
unfolding expect
byte-apart s i c q = by-case (standing s i)
  where
    by-case : Standing s i → expect (c ∷ []) (drop i s) ≡ none
    by-case (ended e) = rw e
    by-case (stands l e) = rw (e, expect, ne_eqb c (get_or s i 0) (λ z. q (sym z)))

-- ---------------------------------------------------------------- sorts

pub no-sort : (z : List ℕ) (o : Option TreeSort) → o ≡ none → of_sort o z ≡ none
unfolding of_sort
no-sort z o e = rw e

pub width-zero : (w : ℕ) → w ≡ 0 → if_proper (bits w) ≡ none
unfolding if_proper
width-zero w e = rw e

pub width-proper : (w : ℕ) → 0 < w → w ≤ largest → T (proper (bits w))
width-proper w h l = and_T (ltb 0 w) (fits64 w) (lt→ltb 0 w h) (le→leb w largest l)

-- ---------------------------------------------------------------- nothing

pub other-head : (s : List ℕ) (at : ℕ) → (get_or s at 0 ≡ 35 → ⊥) → (get_or s at 0 ≡ 124 → ⊥) → (get_or s at 0 ≡ 40 → ⊥) → (D : Declarations) → NothingAt s D at
other-head s at p q r D = record { unsorted = λ f l. by-case f (standing s at) }
  where
    by-case : (f : ℕ) → Standing s at → sorted f D (drop at s) ≡ none
    by-case f (ended e) = ap (sorted f D) e ∙ nothing-sorted D f
    by-case f (stands l e) =
        ap (sorted f D) e ∙ other-sorted D f (get_or s at 0) (drop (at + 1) s) (ne_eqb (get_or s at 0) 35 p) (ne_eqb (get_or s at 0) 124 q) (ne_eqb (get_or s at 0) 40 r)

-- ---------------------------------------------------------------- constants

pub no-b : (s : List ℕ) (at : ℕ) → get_or s at 0 ≡ 35 → (get_or s (at + 1) 0 ≡ 98 → ⊥) → (D : Declarations) → NothingAt s D at
unfolding bytes
no-b s at h q D = record { unsorted = λ f l. ap (sorted f D) (byte-here s at h (omega arith)) ∙ constant-none D f (drop (at + 1) s) (byte-apart s (at + 1) 98 q) }

module _ (s : List ℕ) (at e : ℕ) (h : get_or s at 0 ≡ 35) (b : get_or s (at + 1) 0 ≡ 98) (st : Stretch ends_digits s (at + 2) e) where
  is_b : expect (bytes "b") (drop (at + 1) s) ≡ took [] (drop (at + 2) s)
  unfolding bytes expect
  is_b = let z : at + 1 + 1 ≡ at + 2 = omega arith in rw (byte-here s (at + 1) b (omega arith), z)

  pub no-digits : e ≡ at + 2 → (D : Declarations) → NothingAt s D at
  no-digits z D = record { unsorted = none-sorted }
    where
      none-sorted : (f : ℕ) → length (drop at s) < f → sorted f D (drop at s) ≡ none
      none-sorted zero l = absurd (omega arith)
      none-sorted (suc f) l =
          ap (sorted (suc f) D) (byte-here s at h (omega arith)) ∙ constant-sorted D f (drop (at + 1) s) (drop (at + 2) s) (between s (at + 2) e) (drop e s) is_b st.read
          ∙ no-sort (drop e s) _ (width-zero (length (between s (at + 2) e)) (between-length s (at + 2) e st.low st.high ∙ omega arith))

  digits : All (λ c. not (not (binary_digit c))) (between s (at + 2) e)
  digits = subst (λ (t : Took (List ℕ)). All (λ c. not (not (binary_digit c))) t.value) st.read (up-to-fails (λ c. not (binary_digit c)) (drop (at + 2) s))

  constant-read : (D : Declarations) (f : ℕ) → read_term (suc f) D (35 ∷ drop (at + 1) s) ≡ took (constant (bits_of (between s (at + 2) e))) (drop e s)
  unfolding read_term read_constant and_then
  constant-read D f = rw (is_b, st.read)

  pub constant-head : at + 2 < e → e ≤ largest → (D : Declarations) → ConstantAt s D at e
  constant-head l m D = record {
    low = l;
    high = st.high;
    read = λ f. ap (read_term (suc f) D) (byte-here s at h (omega arith)) ∙ constant-read D f;
    sort = constant-sort D (between s (at + 2) e) digits ∙ ap (λ (n : ℕ). if_proper (bits n)) (between-length s (at + 2) e st.low st.high)
        ∙ if-proper (bits (e - (at + 2))) (width-proper (e - (at + 2)) (omega arith) (omega arith));
  }

-- ---------------------------------------------------------------- what is told of a function's arguments

pub no-argument : (s : List ℕ) (p : ℕ) (ws : List ℕ) → NextArgument s p ws None → ws ≡ []
no-argument s p [] h = refl
no-argument s p (w ∷ ws) h = absurd h

pub an-argument : (s : List ℕ) (p : ℕ) (ws : List ℕ) (n : Number) → NextArgument s p ws (Some n) → 0 < length ws
an-argument s p [] n h = absurd h
an-argument s p (w ∷ ws) n h = omega arith

-- ---------------------------------------------------------------- what is told of a name

module _ (s : List ℕ) (D : Declarations) (n : Name) (r : Entry) (x : EntryIs s D n (Some r)) where
  pub told-variable : {k w : ℕ} → r ≡ VariableEntry k w → VariableIs D n k w
  told-variable {k} {w} q = let y : EntryIs s D n (Some (VariableEntry k w)) = subst (λ (e : Entry). EntryIs s D n (Some e)) q x in y

  pub told_array : {k : ℕ} {u : Widths} → r ≡ ArrayEntry k u → ArrayIs D n k u.index u.value
  told_array {k} {u} q = let y : EntryIs s D n (Some (ArrayEntry k u)) = subst (λ (e : Entry). EntryIs s D n (Some e)) q x in y

  pub told-function : {g : ℕ} {u : Signature} → r ≡ FunctionEntry g u → FunctionIs s D n g u.arguments u.width
  told-function {g} {u} q = let y : EntryIs s D n (Some (FunctionEntry g u)) = subst (λ (e : Entry). EntryIs s D n (Some e)) q x in y

-- an entry that is no function's, and one that is no array's
pub no-function : (s : List ℕ) (D : Declarations) (n : Name) (r : Entry) → EntryIs s D n (Some r) → ((g : ℕ) (u : Signature) → r ≡ FunctionEntry g u → ⊥) → function_number D n ≡ none
no-function s D n (VariableEntry k w) x f = x.numbers.function
no-function s D n (ArrayEntry k u) x f = x.numbers.function
no-function s D n (FunctionEntry g u) x f = absurd (f g u refl)

pub no_array : (s : List ℕ) (D : Declarations) (n : Name) (r : Entry) → EntryIs s D n (Some r) → ((k : ℕ) (u : Widths) → r ≡ ArrayEntry k u → ⊥) → array_number D n ≡ none
no_array s D n (VariableEntry k w) x f = x.numbers.array
no_array s D n (ArrayEntry k u) x f = absurd (f k u refl)
no_array s D n (FunctionEntry g u) x f = x.numbers.array

-- ---------------------------------------------------------------- names

pub no_name : (s : List ℕ) (at : ℕ) → get_or s at 0 ≡ 124 → name_read (drop (at + 1) s) ≡ none → (D : Declarations) → NothingAt s D at
no_name s at h q D = record { unsorted = λ f l. ap (sorted f D) (byte-here s at h (omega arith)) ∙ name-none D f (drop (at + 1) s) q }

none-called : (g : Option Function) → g ≡ none → call_sort g [] ≡ none
unfolding call_sort
none-called g e = rw e

some-argued : (f : Function) → 0 < length f.arguments → call_sort (some f) [] ≡ none
unfolding call_sort have_sorts
some-argued f h = by-arguments f.arguments h
  where
    by-arguments : (ws : List ℕ) → 0 < length ws → cond (have_sorts [] (map bits ws)) (if_proper (bits f.width)) none ≡ none
    by-arguments [] h = absurd (omega arith)
    by-arguments (w ∷ ws) h = refl

none-argued : (f : Function) → f.arguments ≡ [] → call_sort (some f) [] ≡ if_proper (bits f.width)
unfolding call_sort have_sorts
none-argued f e = rw e

module _ (s : List ℕ) (at e : ℕ) (h : get_or s at 0 ≡ 124) (x : Named s (at + 1) e) (D : Declarations) where
  abbrev n : Name
  n = name_to s (at + 1) e

  unsorted-name : tree_sort D (named_tree D n) ≡ none → NothingAt s D at
  unsorted-name q = record { unsorted = none-sorted }
    where
      none-sorted : (f : ℕ) → length (drop at s) < f → sorted f D (drop at s) ≡ none
      none-sorted zero l = absurd (omega arith)
      none-sorted (suc f) l = ap (sorted (suc f) D) (byte-here s at h (omega arith)) ∙ name-sorted D f (drop (at + 1) s) n (drop e s) x.read ∙ no-sort (drop e s) _ q

  -- nothing, or an array
  pub name-unknown : {a : Option ℕ} → Numbers D n none a none → NothingAt s D at
  name-unknown y = unsorted-name (function-sort D n y.variable ∙ none-called (function_named D n) (function-unnamed D n y.function))

  -- a function with arguments
  pub name-argued : {g p w : ℕ} → FunctionIs s D n g p w → 0 < length (function_at D g).arguments → NothingAt s D at
  name-argued {g} y l =
      unsorted-name (function-sort D n y.numbers.variable ∙ ap (λ (o : Option Function). call_sort o []) (function-named D n g y.numbers.function) ∙ some-argued (function_at D g) l)

  name-read : (f : ℕ) → read_term (suc f) D (124 ∷ drop (at + 1) s) ≡ took (named_tree D n) (drop e s)
  unfolding read_term and_then
  name-read f = rw x.read

  variable-tree : (k : ℕ) → variable_number D n ≡ some k → named_tree D n ≡ variable n
  unfolding named_tree
  variable-tree k q = rw (q, named_tree)

  function-tree : variable_number D n ≡ none → named_tree D n ≡ call n noTrees
  unfolding named_tree
  function-tree q = rw (q, named_tree)

  variable-sorted : (k : ℕ) → variable_named D n ≡ some (variable_at D k) → variable_sort none (variable_named D n) ≡ if_proper (bits (variable_at D k).width)
  unfolding variable_sort
  variable-sorted k q = rw q

  module _ (ok : Declared D) where
    pub variable-head : {k w : ℕ} → VariableIs D n k w → VariableAt s D at k w e
    variable-head {k} {w} y = record {
      low = x.low;
      high = x.high;
      entry = y;
      read = λ f. ap (read_term (suc f) D) (byte-here s at h (omega arith)) ∙ name-read f ∙ ap (λ (t : Tree). took t (drop e s)) tree;
      sort = ap (tree_sort D) (sym tree) ∙ variable-sort D n k y.numbers.variable ∙ variable-sorted k (variable-named D n k y.numbers.variable)
          ∙ if-proper (bits (variable_at D k).width) (ok.variables k y.low) ∙ ap (λ (m : ℕ). some (bits m)) y.width;
    }
      where
        tree : named_tree D n ≡ variable n
        tree = variable-tree k y.numbers.variable

    pub nullary-head : {g p w : ℕ} → FunctionIs s D n g p w → (function_at D g).arguments ≡ [] → NullaryAt s D at g w e
    nullary-head {g} {p} {w} y q = record {
      low = x.low;
      high = x.high;
      place = p;
      entry = y;
      read = λ f. ap (read_term (suc f) D) (byte-here s at h (omega arith)) ∙ name-read f ∙ ap (λ (t : Tree). took t (drop e s)) tree;
      sort = ap (tree_sort D) (sym tree) ∙ function-sort D n y.numbers.variable ∙ ap (λ (o : Option Function). call_sort o []) (function-named D n g y.numbers.function)
          ∙ none-argued (function_at D g) q ∙ if-proper (bits (function_at D g).width) (and-1 (every width_ok (function_at D g).arguments) (width_ok (function_at D g).width) (ok.functions g y.low)) ∙ ap (λ (m : ℕ). some (bits m)) y.width;
    }
      where
        tree : named_tree D n ≡ call n noTrees
        tree = function-tree y.numbers.variable

-- ---------------------------------------------------------------- calls

module _ (s : List ℕ) (at : ℕ) (h : get_or s at 0 ≡ 40) (k : get_or s (at + 1) 0 ≡ 124) where
  call-bytes : drop at s ≡ 40 ∷ 124 ∷ drop (at + 2) s
  call-bytes = bytes-here s at h (omega arith) k (omega arith)

  pub call-unnamed : name_read (drop (at + 2) s) ≡ none → (D : Declarations) → NothingAt s D at
  call-unnamed q D = record { unsorted = λ f l. ap (sorted f D) call-bytes ∙ call-no-name D f (drop (at + 2) s) q }

  module _ (e : ℕ) (x : Named s (at + 2) e) (D : Declarations) where
    abbrev m : Name
    m = name_to s (at + 2) e

    unsorted-call : ((f : ℕ) → called_by D f (function_named D m) (drop e s) ≡ none) → NothingAt s D at
    unsorted-call q = record { unsorted = none-sorted }
      where
        none-sorted : (f : ℕ) → length (drop at s) < f → sorted f D (drop at s) ≡ none
        none-sorted zero l = absurd (omega arith)
        none-sorted (suc zero) l = absurd (let z = ap length call-bytes in omega arith)
        none-sorted (suc (suc f)) l = ap (sorted (suc (suc f)) D) call-bytes ∙ call-sorted D f (drop (at + 2) s) m (drop e s) x.read ∙ q f

    pub call-unknown : function_number D m ≡ none → NothingAt s D at
    unfolding called_by
    call-unknown q = unsorted-call (λ f. rw (function-unnamed D m q))

    pub call-plain : {g p w : ℕ} → FunctionIs s D m g p w → (function_at D g).arguments ≡ [] → NothingAt s D at
    unfolding called_by argued
    call-plain {g} y q = unsorted-call (λ f. rw (function-named D m g y.numbers.function, q))

    call-read-on : (f : ℕ) → read_term (suc (suc f)) D (40 ∷ 124 ∷ drop (at + 2) s) ≡ and_then (read_terms f D (drop e s)) (λ ts z. called m ts z)
    unfolding read_term and_then
    call-read-on f = rw x.read

    pub call-head : Declared D → {g p w : ℕ} → FunctionIs s D m g p w → 0 < length (function_at D g).arguments → CallAt s D at g p w e
    call-head ok {g} y l = record {
      low = x.low;
      high = x.high;
      entry = y;
      some_arguments = l;
      width-proper = subst (λ (w : ℕ). T (proper (bits w))) y.width (and-1 (every width_ok (function_at D g).arguments) (width_ok (function_at D g).width) (ok.functions g y.low));
      read = λ f. ap (read_term (suc (suc f)) D) call-bytes ∙ call-read-on f;
    }

-- ---------------------------------------------------------------- plain operators

select-no-kind : kind_of (bytes "select") ≡ none
unfolding kind_of find_from symbols bytes same
select-no-kind = refl

module _ (s : List ℕ) (at e : ℕ) (h : get_or s at 0 ≡ 40) (p : get_or s (at + 1) 0 ≡ 40 → ⊥) (q : get_or s (at + 1) 0 ≡ 124 → ⊥) (there : at + 1 < length s) (st : Stretch ends_word s (at + 1) e)
    (n : expect (bytes "(select ") (drop at s) ≡ none) where
  abbrev c : ℕ
  c = get_or s (at + 1) 0

  abbrev b : List ℕ
  b = drop (at + 1 + 1) s

  abbrev w : List ℕ
  w = between s (at + 1) e

  plain-bytes : drop at s ≡ 40 ∷ c ∷ b
  plain-bytes = byte-here s at h (omega arith) ∙ ap (λ (x : List ℕ). 40 ∷ x) (bytes-at s (at + 1) there)

  word : up_to word_end (c ∷ b) ≡ record { value = w; rest = drop e s }
  word = ap (up_to word_end) (sym (bytes-at s (at + 1) there)) ∙ st.read

  -- the word `select` without a blank after it
  no-blank : w ≡ bytes "select" → expect (bytes " ") (drop e s) ≡ none
  unfolding bytes expect
  no-blank z =
      let j : w ++ drop e s ≡ drop (at + 1) s = ap (λ (t : Took (List ℕ)). t.value ++ t.rest) (sym st.read) ∙ up-to-joins word_end (drop (at + 1) s) in
      let k : drop at s ≡ 40 ∷ (bytes "select" ++ drop e s) = byte-here s at h (omega arith) ∙ ap (λ (x : List ℕ). 40 ∷ x) (sym j ∙ ap (λ (x : List ℕ). x ++ drop e s) z) in
      sym (ap (expect (bytes "(select ")) k) ∙ n

  pub plain-none : none ≡ kind_of w → (D : Declarations) → NothingAt s D at
  plain-none g D = record { unsorted = none-sorted }
    where
      by_word : (t : Bool) → same w (bytes "select") ≡ t → (f : ℕ) → sorted (suc (suc f)) D (40 ∷ c ∷ b) ≡ none
      by_word true u f =
          let v : w ≡ bytes "select" = same→eq w (bytes "select") (true→T u) in
          select-alone D f c b (drop e s) (ne_eqb c 40 p) (ne_eqb c 124 q) (word ∙ ap (λ (x : List ℕ). record { value = x; rest = drop e s }) v) (no-blank v)
      by_word false u f = plain-sorted D f c b w (drop e s) (ne_eqb c 40 p) (ne_eqb c 124 q) word u ∙ ap (λ (o : Option ℕ). headed D f o [] (drop e s)) (sym g)

      none-sorted : (f : ℕ) → length (drop at s) < f → sorted f D (drop at s) ≡ none
      none-sorted zero l = absurd (omega arith)
      none-sorted (suc zero) l = absurd (let z = ap length plain-bytes in omega arith)
      none-sorted (suc (suc f)) l = ap (sorted (suc (suc f)) D) plain-bytes ∙ by_word (same w (bytes "select")) refl f

  plain-read : (D : Declarations) (f : ℕ) → same w (bytes "select") ≡ false → read_term (suc (suc f)) D (40 ∷ c ∷ b) ≡ and_then (read_terms f D (drop e s)) (λ ts z. applied (kind_of w) [] ts z)
  unfolding read_term
  plain-read D f u = plain-open D f c b w (drop e s) (ne_eqb c 40 p) (ne_eqb c 124 q) word u

  plain-applied : (D : Declarations) (f k : ℕ) (o : Option ℕ) → o ≡ some k → and_then (read_terms f D (drop e s)) (λ ts z. applied o [] ts z) ≡ and_then (read_terms f D (drop e s)) (λ ts z. took (apply k (numerals_of 0 0 0) ts) z)
  unfolding applied numerals_of
  plain-applied D f k o z = rw z

  pub plain-head : {k : ℕ} → some k ≡ kind_of w → (D : Declarations) → OperatorAt s D at k 0 0 0 e
  plain-head {k} g D = record {
    low = omega (arith, st.low);
    room = omega (arith, st.low);
    high = st.high;
    few = omega arith;
    read = λ f l. ap (read_term (suc (suc f)) D) plain-bytes ∙ plain-read D f no-select ∙ plain-applied D f k (kind_of w) (sym g);
  }
    where
      no-select : same w (bytes "select") ≡ false
      no-select = by_word (same w (bytes "select")) refl
        where
          by_word : (t : Bool) → same w (bytes "select") ≡ t → t ≡ false
          by_word true u = absurd (impossible (sym select-no-kind ∙ ap kind_of (sym (same→eq w (bytes "select") (true→T u))) ∙ sym g))
          by_word false u = refl

-- the end after the bracket
pub open-end : (s : List ℕ) (at : ℕ) → get_or s at 0 ≡ 40 → length s ≤ at + 1 → (D : Declarations) → NothingAt s D at
open-end s at h l D = record {
  unsorted = λ f m. ap (sorted f D) (byte-here s at h (omega arith) ∙ ap (λ (x : List ℕ). 40 ∷ x) (drop_of_length-le s {i = at + 1} l)) ∙ open-nothing D f;
}

-- ---------------------------------------------------------------- a blank and a numeral

pub no-blank-there : (s : List ℕ) (at : ℕ) → (get_or s at 0 ≡ 32 → ⊥) → blank_numeral (drop at s) ≡ none
unfolding blank_numeral and_then bytes
no-blank-there s at q = rw (byte-apart s at 32 q)

pub blank-there : (s : List ℕ) (at : ℕ) (r : Maybe Number) → get_or s at 0 ≡ 32 → Numbered s (numeral64 (drop (at + 1) s)) r → Numbered s (blank_numeral (drop at s)) r
unfolding blank_numeral and_then bytes expect
blank-there s at r h x = subst (λ (o : Option (Took ℕ)). Numbered s o r) (sym (rw (byte-here s at h (omega arith)))) x

-- the word, and the numeral, take a place further on
pub past-word-there : (w s : List ℕ) (a e : ℕ) → a ≤ length s → e ≤ length s → expect w (drop a s) ≡ took [] (drop e s) → a ≤ e
past-word-there w s a e l m q =
    let k : length w + length (drop e s) ≡ length (drop a s) = word-less w (drop a s) [] (drop e s) q in
    let u = length-drop a s in
    let v = length-drop e s in
    omega arith

pub blank-further : (s : List ℕ) (a e : ℕ) {i : ℕ} → a ≤ length s → e ≤ length s → blank_numeral (drop a s) ≡ took i (drop e s) → a < e
unfolding blank_numeral bytes
blank-further s a e {i} l m q =
    let (v, b, g, h) = and-then (expect (bytes " ") (drop a s)) (λ _ q. numeral64 q) i (drop e s) q in
    let k : length (bytes " ") + length b ≡ length (drop a s) = word-less (bytes " ") (drop a s) v b g in
    let n : length b ≡ length (decimal i) + length (drop e s) = ap length (numeral-strict b i (drop e s) (fits_read b i (drop e s) h)) ∙ length-append (decimal i) (drop e s) in
    let x = length-drop a s in
    let y = length-drop e s in
    omega arith

-- ---------------------------------------------------------------- operators with numerals

module _ (s : List ℕ) (at : ℕ) (h : get_or s at 0 ≡ 40) (k : get_or s (at + 1) 0 ≡ 40) where
  open-bytes : drop at s ≡ 40 ∷ 40 ∷ drop (at + 2) s
  open-bytes = bytes-here s at h (omega arith) k (omega arith)

  unsorted-open : (D : Declarations) → ((f : ℕ) → sorted (suc (suc f)) D (40 ∷ 40 ∷ drop (at + 2) s) ≡ none) → NothingAt s D at
  unsorted-open D q = record { unsorted = none-sorted }
    where
      none-sorted : (f : ℕ) → length (drop at s) < f → sorted f D (drop at s) ≡ none
      none-sorted zero l = absurd (omega arith)
      none-sorted (suc zero) l = absurd (let z = ap length open-bytes in omega arith)
      none-sorted (suc (suc f)) l = ap (sorted (suc (suc f)) D) open-bytes ∙ q f

  pub no-underscore : expect (bytes "_ ") (drop (at + 2) s) ≡ none → (D : Declarations) → NothingAt s D at
  no-underscore q D = unsorted-open D (λ f. indexed-none D f (drop (at + 2) s) q)

  module _ (a e : ℕ) (u : expect (bytes "_ ") (drop (at + 2) s) ≡ took [] (drop a s)) (st : Stretch ends_word s a e) where
    abbrev name : List ℕ
    name = between s a e

    -- the sort by the numerals that are read
    numbered : Declarations → ℕ → List ℕ → List ℕ → Option (Took TreeSort)
    numbered D f [] r = none
    numbered D f (i ∷ is) r = headed D f (kind_of name) (i ∷ is) r

    no-numerals : (D : Declarations) (f : ℕ) (r : List ℕ) → read_numerals f (drop e s) ≡ took [] r → sorted (suc (suc f)) D (40 ∷ 40 ∷ drop (at + 2) s) ≡ none
    unfolding sorted read_term and_then applied_indexed
    no-numerals D f r q = rw (u, st.read, q) (by-terms (read_terms f D r))
      where
        by-terms : (o : Option (Took Trees)) → and_then (and_then o (λ ts z. applied_indexed (kind_of name) [] ts z)) (λ t r. of_sort (tree_sort D t) r) ≡ none
        by-terms none = refl
        by-terms (some t) = refl

    numerals-took : (D : Declarations) (f : ℕ) (ks r : List ℕ) → read_numerals f (drop e s) ≡ took ks r → sorted (suc (suc f)) D (40 ∷ 40 ∷ drop (at + 2) s) ≡ numbered D f ks r
    unfolding numbered
    numerals-took D f [] r q = no-numerals D f r q
    numerals-took D f (i ∷ is) r q = indexed-sorted D f (drop (at + 2) s) (drop a s) name (drop e s) r i is u st.read q

    indexed-is : (D : Declarations) (f : ℕ) → sorted (suc (suc f)) D (40 ∷ 40 ∷ drop (at + 2) s) ≡ and_then (read_numerals f (drop e s)) (λ ks r. numbered D f ks r)
    unfolding and_then
    indexed-is D f = by-numerals (read_numerals f (drop e s)) refl
      where
        by-numerals : (o : Option (Took (List ℕ))) → read_numerals f (drop e s) ≡ o → sorted (suc (suc f)) D (40 ∷ 40 ∷ drop (at + 2) s) ≡ and_then o (λ ks r. numbered D f ks r)
        by-numerals none q = indexed-no-numerals D f (drop (at + 2) s) (drop a s) u (ap (read_numerals f) (ap (λ (t : Took (List ℕ)). t.rest) st.read) ∙ q)
        by-numerals (some t) q = numerals-took D f t.value t.rest q

    bad-numbered : (D : Declarations) (f : ℕ) (ks r : List ℕ) → Bad ks → numbered D f ks r ≡ none
    unfolding numbered
    bad-numbered D f [] r p = refl
    bad-numbered D f (i ∷ is) r p = bad-headed D f (kind_of name) (i ∷ is) r p

    pub indexed-no-kind : none ≡ kind_of name → (D : Declarations) → NothingAt s D at
    unfolding numbered
    indexed-no-kind g D = unsorted-open D (λ f. indexed-is D f ∙ and-nothing (read_numerals f (drop e s)) _ (λ ks r. by-list f ks r))
      where
        by-list : (f : ℕ) (ks r : List ℕ) → numbered D f ks r ≡ none
        by-list f [] r = refl
        by-list f (i ∷ is) r = ap (λ (o : Option ℕ). headed D f o (i ∷ is) r) (sym g)

    pub no-first : blank_numeral (drop e s) ≡ none → (D : Declarations) → NothingAt s D at
    unfolding numbered
    no-first q D = unsorted-open D (λ f. indexed-is D f ∙ numeral-fails (drop e s) q _ (λ b z. refl) (λ i js r l. bad-numbered D f (i ∷ js) r (first-wide i js l)) f)

    blank-numeral : (x : List ℕ) (i : ℕ) (r : List ℕ) → blank_numeral x ≡ took i r → (b : List ℕ) × (x ≡ 32 ∷ b) × (read_numeral b ≡ took i r)
    unfolding blank_numeral and_then bytes expect
    blank-numeral [] i r q = absurd (impossible q)
    blank-numeral (c ∷ b) i r q = by-blank (eqb 32 c) refl
      where
        by-blank : (t : Bool) → eqb 32 c ≡ t → (d : List ℕ) × (c ∷ b ≡ 32 ∷ d) × (read_numeral d ≡ took i r)
        by-blank true z = (b, ap (λ (x : ℕ). x ∷ b) (sym (eqb-true 32 c z)), fits_read b i r (rw (z, expect) at q))
        by-blank false z = absurd (impossible (rw (z, expect) at q))

    -- one numeral more, and then what follows it
    numeral-then : {A : Type 0} (f : ℕ) (x : List ℕ) (i : ℕ) (r : List ℕ) (P : List ℕ → List ℕ → Option (Took A)) → blank_numeral x ≡ took i r
        → and_then (read_numerals (suc f) x) P ≡ and_then (read_numerals f r) (λ js q. P (i ∷ js) q)
    unfolding and_then
    numeral-then f x i r P q =
        let (b, z, g) = blank-numeral x i r q in
        ap (λ (y : List ℕ). and_then (read_numerals (suc f) y) P) z ∙ numerals-next f b P ∙ rw g

    module _ (i p : ℕ) (q : blank_numeral (drop e s) ≡ took i (drop p s)) where
      after_first : (D : Declarations) → ((f : ℕ) → and_then (read_numerals f (drop p s)) (λ js r. numbered D (suc f) (i ∷ js) r) ≡ none) → NothingAt s D at
      unfolding read_numerals and_then
      after_first D g = unsorted-open D (λ f. indexed-is D f ∙ by-steps f)
        where
          by-steps : (f : ℕ) → and_then (read_numerals f (drop e s)) (λ ks r. numbered D f ks r) ≡ none
          by-steps zero = refl
          by-steps (suc f) = numeral-then f (drop e s) i (drop p s) (λ ks r. numbered D (suc f) ks r) q ∙ g f

      not-close : (get_or s p 0 ≡ 41 → ⊥) → (b : List ℕ) → drop p s ≡ 41 ∷ b → ⊥
      not-close z b y = by-case (standing s p)
        where
          by-case : Standing s p → ⊥
          by-case (ended g) = let o : ◌≡◌ {A = ℕ} 0 1 = cc in omega arith
          by-case (stands l g) = let o : get_or s p 0 ≡ 41 = cc in z o

      pub no_second : (get_or s p 0 ≡ 41 → ⊥) → blank_numeral (drop p s) ≡ none → (D : Declarations) → NothingAt s D at
      no_second z y D = after_first D (λ f. numeral-fails (drop p s) y _ (λ b g. absurd (not-close z b g)) (λ j js r l. bad-numbered D (suc f) (i ∷ j ∷ js) r (second-wide i j js l)) f)

      indexed-read : (D : Declarations) (f : ℕ) → read_term (suc (suc f)) D (40 ∷ 40 ∷ drop (at + 2) s)
          ≡ and_then (read_numerals f (drop e s)) (λ ks r. and_then (read_terms f D r) (λ ts z. applied_indexed (kind_of name) ks ts z))
      unfolding read_term and_then
      indexed-read D f = rw (u, st.read)

      applied-is : (D : Declarations) (f c : ℕ) (m j : ℕ) (is r : List ℕ) (o : Option ℕ) → o ≡ some c → numerals_of m i j ≡ i ∷ is
          → and_then (read_terms f D r) (λ ts z. applied_indexed o (i ∷ is) ts z) ≡ and_then (read_terms f D r) (λ ts z. took (apply c (numerals_of m i j) ts) z)
      unfolding applied_indexed applied
      applied-is D f c m j is r o z y = rw (z, y)

      low_first : a ≤ e
      low_first = st.low

      pub one-numeral : {c : ℕ} → some c ≡ kind_of name → at < p → p < length s → get_or s p 0 ≡ 41 → (D : Declarations) → OperatorAt s D at c 1 i 0 (p + 1)
      unfolding numerals_of
      one-numeral {c} g l m y D = record { low = omega arith; room = omega arith; high = omega arith; few = omega arith; read = reads }
        where
          reads : (f : ℕ) → 1 < f → read_term (suc (suc f)) D (drop at s) ≡ and_then (read_terms f D (drop (p + 1) s)) (λ ts z. took (apply c (numerals_of 1 i 0) ts) z)
          reads zero n = absurd (omega arith)
          reads (suc zero) n = absurd (omega arith)
          reads (suc (suc f)) n =
              ap (read_term (suc (suc (suc (suc f)))) D) open-bytes ∙ indexed-read D (suc (suc f)) ∙ numeral-then (suc f) (drop e s) i (drop p s) _ q
              ∙ ap (λ (x : List ℕ). and_then (read_numerals (suc f) x) (λ js r. and_then (read_terms (suc (suc f)) D r) (λ ts z. applied_indexed (kind_of name) (i ∷ js) ts z))) (byte-here s p y (omega arith))
              ∙ numerals-end f (drop (p + 1) s) _ ∙ applied-is D (suc (suc f)) c 1 0 [] (drop (p + 1) s) (kind_of name) (sym g) refl

      module _ (j d : ℕ) (v : blank_numeral (drop p s) ≡ took j (drop d s)) where
        pub no_third : (get_or s d 0 ≡ 41 → ⊥) → (D : Declarations) → NothingAt s D at
        unfolding read_numerals and_then
        no_third z D = after_first D by-steps
          where
            not_end : (b : List ℕ) → drop d s ≡ 41 ∷ b → ⊥
            not_end b y = by-case (standing s d)
              where
                by-case : Standing s d → ⊥
                by-case (ended g) = let o : ◌≡◌ {A = ℕ} 0 1 = cc in omega arith
                by-case (stands l g) = let o : get_or s d 0 ≡ 41 = cc in z o

            by-steps : (f : ℕ) → and_then (read_numerals f (drop p s)) (λ js r. numbered D (suc f) (i ∷ js) r) ≡ none
            by-steps zero = refl
            by-steps (suc f) =
                numeral-then f (drop p s) j (drop d s) (λ js r. numbered D (suc (suc f)) (i ∷ js) r) v
                ∙ numeral-many (drop d s) _ not_end (λ k js r. bad-numbered D (suc (suc f)) (i ∷ j ∷ k ∷ js) r tt) f

        pub two-numerals : {c : ℕ} → some c ≡ kind_of name → at + 1 < d → d < length s → get_or s d 0 ≡ 41 → (D : Declarations) → OperatorAt s D at c 2 i j (d + 1)
        unfolding numerals_of
        two-numerals {c} g l m y D = record { low = omega arith; room = omega arith; high = omega arith; few = omega arith; read = reads }
          where
            reads : (f : ℕ) → 2 < f → read_term (suc (suc f)) D (drop at s) ≡ and_then (read_terms f D (drop (d + 1) s)) (λ ts z. took (apply c (numerals_of 2 i j) ts) z)
            reads zero n = absurd (omega arith)
            reads (suc zero) n = absurd (omega arith)
            reads (suc (suc zero)) n = absurd (omega arith)
            reads (suc (suc (suc f))) n =
                ap (read_term (suc (suc (suc (suc (suc f))))) D) open-bytes ∙ indexed-read D (suc (suc (suc f))) ∙ numeral-then (suc (suc f)) (drop e s) i (drop p s) _ q
                ∙ numeral-then (suc f) (drop p s) j (drop d s) _ v
                ∙ ap (λ (x : List ℕ). and_then (read_numerals (suc f) x) (λ js r. and_then (read_terms (suc (suc (suc f))) D r) (λ ts z. applied_indexed (kind_of name) (i ∷ j ∷ js) ts z))) (byte-here s d y (omega arith))
                ∙ numerals-end f (drop (d + 1) s) _ ∙ applied-is D (suc (suc (suc f))) c 2 j (j ∷ []) (drop (d + 1) s) (kind_of name) (sym g) refl

-- ---------------------------------------------------------------- selects

-- so many stores open from place at on
pub record Opens (s : List ℕ) (at n : ℕ) : Type 0 where
  pub high : at + 7 * n ≤ length s
  pub opens : drop at s ≡ opened n (drop (at + 7 * n) s)
  pub last : expect (bytes "(store ") (drop (at + 7 * n) s) ≡ none

-- so many so far, up to place p
pub record Opening (s : List ℕ) (at n p : ℕ) : Type 0 where
  pub place : p ≡ at + 7 * n
  pub high : p ≤ length s
  pub opens : drop at s ≡ opened n (drop p s)

pub opening-start : {s : List ℕ} {at : ℕ} → at ≤ length s → Opening s at 0 at
unfolding opened
opening-start l = record { place = omega arith; high = l; opens = refl }

opened-more : (n : ℕ) (b : List ℕ) → opened n (40 ∷ (bytes "store " ++ b)) ≡ opened (suc n) b
unfolding opened
opened-more zero b = refl
opened-more (suc n) b = ap (λ (x : List ℕ). 40 ∷ (bytes "store " ++ x)) (opened-more n b)

pub opening-more : {s : List ℕ} {at n p q : ℕ} → Opening s at n p → q ≤ length s → expect (bytes "(store ") (drop p s) ≡ took [] (drop q s) → Opening s at (n + 1) q
unfolding bytes
opening-more {s} {at} {n} {p} {q} x l e =
    let w : drop p s ≡ bytes "(store " ++ drop q s = expected (bytes "(store ") (drop p s) [] (drop q s) e in
    let u = length-drop p s in
    let v = length-drop q s in
    let k : length (drop p s) ≡ suc (suc (suc (suc (suc (suc (suc (length (drop q s)))))))) = ap length w in
    let z : n + 1 ≡ suc n = omega arith in
    record {
      place = omega (arith, x.place, x.high);
      high = l;
      opens = x.opens ∙ ap (opened n) w ∙ opened-more n (drop q s) ∙ ap (λ (m : ℕ). opened m (drop q s)) (sym z);
    }

pub opening-less : (s : List ℕ) (p q : ℕ) → p ≤ length s → q ≤ length s → expect (bytes "(store ") (drop p s) ≡ took [] (drop q s) → p + 7 ≡ q
unfolding bytes
opening-less s p q h l e =
    let k : length (drop p s) ≡ suc (suc (suc (suc (suc (suc (suc (length (drop q s)))))))) = ap length (expected (bytes "(store ") (drop p s) [] (drop q s) e) in
    let u = length-drop p s in
    let v = length-drop q s in
    omega arith

pub opening-end : {s : List ℕ} {at n p : ℕ} → Opening s at n p → expect (bytes "(store ") (drop p s) ≡ none → Opens s at n
opening-end {s} {at} {n} {p} x e =
    let z : p ≡ at + 7 * n = x.place in
    record {
      high = omega (arith, x.high);
      opens = x.opens ∙ ap (λ (k : ℕ). opened n (drop k s)) z;
      last = ap (λ (k : ℕ). expect (bytes "(store ") (drop k s)) (sym z) ∙ e;
    }

pub opened-long : (n : ℕ) (b : List ℕ) → length (opened n b) ≡ 7 * n + length b
unfolding opened bytes
opened-long zero b = omega arith
opened-long (suc n) b = let e = opened-long n b in omega arith

-- steps enough for n stores
steps-for : (n f : ℕ) → 2 + n ≤ f → f ≡ suc (suc (raised n (f - 2 - n)))
steps-for n f h = let e = raised_by n (f - 2 - n) in omega arith

module _ (s : List ℕ) (at n : ℕ) (begins : drop at s ≡ 40 ∷ (bytes "select " ++ drop (at + 8) s)) (o : Opens s (at + 8) n) where
  abbrev place : ℕ
  place = at + 8 + 7 * n

  select-bytes : drop at s ≡ 40 ∷ (bytes "select " ++ opened n (drop place s))
  select-bytes = begins ∙ ap (λ (x : List ℕ). 40 ∷ (bytes "select " ++ x)) o.opens

  select-long : 8 + 7 * n + length (drop place s) ≡ length (drop at s)
  unfolding bytes
  select-long =
      let e : length (drop at s) ≡ suc (suc (suc (suc (suc (suc (suc (suc (length (opened n (drop place s)))))))))) = ap length select-bytes in
      let g = opened-long n (drop place s) in
      omega arith

  unsorted-select : (D : Declarations) → ((f : ℕ) → sorted (suc (suc (raised n f))) D (40 ∷ (bytes "select " ++ opened n (drop place s))) ≡ none) → NothingAt s D at
  unsorted-select D g = record {
    unsorted = λ f l.
        let z : f ≡ suc (suc (raised n (f - 2 - n))) = steps-for n f (omega (arith, select-long)) in
        ap (λ (x : List ℕ). sorted f D x) select-bytes ∙ ap (λ (m : ℕ). sorted m D (40 ∷ (bytes "select " ++ opened n (drop place s)))) z ∙ g (f - 2 - n);
  }

  no-store-there : (c : ℕ) (b : List ℕ) → drop place s ≡ c ∷ b → eqb c 40 ≡ true → expect (bytes "store ") b ≡ none
  unfolding bytes expect
  no-store-there c b e q =
      let z : c ≡ 40 = eqb-true c 40 q in
      sym (ap (expect (bytes "(store ")) (e ∙ ap (λ (x : ℕ). x ∷ b) z)) ∙ o.last

  pub select-no-bar : (get_or s place 0 ≡ 124 → ⊥) → (D : Declarations) → NothingAt s D at
  select-no-bar q D = unsorted-select D (λ f. by-case f (standing s place))
    where
      by-case : (f : ℕ) → Standing s place → sorted (suc (suc (raised n f))) D (40 ∷ (bytes "select " ++ opened n (drop place s))) ≡ none
      by-case f (ended e) = ap (λ (x : List ℕ). sorted (suc (suc (raised n f))) D (40 ∷ (bytes "select " ++ opened n x))) e ∙ select-nothing D n f
      by-case f (stands l e) =
          ap (λ (x : List ℕ). sorted (suc (suc (raised n f))) D (40 ∷ (bytes "select " ++ opened n x))) e
          ∙ select-no-store D n f (get_or s place 0) (drop (place + 1) s) (ne_eqb (get_or s place 0) 124 q) (no-store-there (get_or s place 0) (drop (place + 1) s) e)

  module _ (bar : get_or s place 0 ≡ 124) where
    pub select-unnamed : name_read (drop (place + 1) s) ≡ none → (D : Declarations) → NothingAt s D at
    select-unnamed q D = unsorted-select D (λ f.
        ap (λ (x : List ℕ). sorted (suc (suc (raised n f))) D (40 ∷ (bytes "select " ++ opened n x))) (byte-here s place bar (omega arith)) ∙ select-no-name D n f (drop (place + 1) s) q)

    module _ (e : ℕ) (x : Named s (place + 1) e) (D : Declarations) where
      pub select-unknown : array_number D (name_to s (place + 1) e) ≡ none → NothingAt s D at
      select-unknown q = record {
        unsorted = λ f l.
            let z : f ≡ suc (suc (raised n (suc (f - 3 - n)))) = steps-past f (omega (arith, select-long)) in
            ap (λ (x : List ℕ). sorted f D x) (select-bytes ∙ ap (λ (x : List ℕ). 40 ∷ (bytes "select " ++ opened n x)) (byte-here s place bar (omega arith)))
            ∙ ap (λ (m : ℕ). sorted m D (40 ∷ (bytes "select " ++ opened n (124 ∷ drop (place + 1) s)))) z
            ∙ select-no-array D (name_to s (place + 1) e) (array-unnamed D (name_to s (place + 1) e) q) n (f - 3 - n) (drop (place + 1) s) (drop e s) x.read;
      }
        where
          steps-past : (f : ℕ) → 3 + n ≤ f → f ≡ suc (suc (raised n (suc (f - 3 - n))))
          steps-past f h = let g = raised_by n (suc (f - 3 - n)) in omega arith

      pub select-head : Declared D → {a i v : ℕ} → ArrayIs D (name_to s (place + 1) e) a i v → SelectAt s D at a i v n e
      select-head ok {a} {i} {v} y =
          let z : place + 1 ≡ select_name at n = omega arith in
          let g : T (array_ok (array_at D a)) = ok.arrays a y.low in
          let gi : T (array_width_ok (array_at D a).index) = and_0 (array_width_ok (array_at D a).index) (array_width_ok (array_at D a).value) g in
          let gv : T (array_width_ok (array_at D a).value) = and-1 (array_width_ok (array_at D a).index) (array_width_ok (array_at D a).value) g in
          record {
            begins = select-bytes ∙ ap (λ (x : List ℕ). 40 ∷ (bytes "select " ++ opened n x)) (byte-here s place bar (omega arith) ∙ ap (λ (k : ℕ). 124 ∷ drop k s) z);
            name = subst (λ (k : ℕ). Named s k e) z x;
            entry = subst (λ (k : ℕ). ArrayIs D (name_to s k e) a i v) z y;
            index_fits = width-within i (subst (λ (w : ℕ). T (array_width_ok w)) y.index gi);
            value_fits = width-within v (subst (λ (w : ℕ). T (array_width_ok w)) y.value gv);
          }
        where
          width-within : (w : ℕ) → T (array_width_ok w) → (0 < w) × (w ≤ 65536)
          width-within w t = (ltb→lt 0 w (and_0 (ltb 0 w) (leb w 65536) t), leb→le w 65536 (and-1 (ltb 0 w) (leb w 65536) t))

-- the word, where the script has it
pub select-there : (s : List ℕ) (at : ℕ) {e : ℕ} → at ≤ length s → e ≤ length s → expect (bytes "(select ") (drop at s) ≡ took [] (drop e s)
    → (at + 8 ≤ length s) × (drop at s ≡ 40 ∷ (bytes "select " ++ drop (at + 8) s))
unfolding bytes
select-there s at {e} l m q =
    let x : drop at s ≡ 40 ∷ (bytes "select " ++ drop e s) = expected (bytes "(select ") (drop at s) [] (drop e s) q in
    let k : length (drop at s) ≡ suc (suc (suc (suc (suc (suc (suc (suc (length (drop e s))))))))) = ap length x in
    let u = length-drop at s in
    let v = length-drop e s in
    let z : e ≡ at + 8 = omega arith in
    (omega arith, x ∙ ap (λ (k : ℕ). 40 ∷ (bytes "select " ++ drop k s)) z)

-- ---------------------------------------------------------------- selects as trees

module _ (D : Declarations) where
  -- the select's own index, after the array and its stores
  own_tree : ℕ → Stored → List ℕ → Option (Took Tree)
  own_tree f a r = and_then (expect (bytes " ") r) (λ _ x. and_then (read_term f D x) (λ j y. and_then (expect (bytes ")") y) (λ _ z. took (select a.array j a.stores) z)))

  select-open : (f : ℕ) (q : List ℕ) → read_term (suc (suc f)) D (40 ∷ (bytes "select " ++ q)) ≡ and_then (read_stored f D q) (own_tree f)
  unfolding own_tree read_term bytes and_then expect up_to same
  select-open f q = refl

  unwound : (n f : ℕ) (a : Name) (ss : Stores) (r : List ℕ) → unwind D n f a ss r (own_tree (raised n f)) ≡ select_then f D a n ss r
  unfolding unwind one_store own_tree select_then
  unwound zero f a ss r = refl
  unwound (suc n) f a ss r =
      one_same D f r _ _ (λ i v e. ap (λ (m : ℕ). unwind D n (suc f) a (store i v ss) e (own_tree m)) (sym (raised-suc n f)) ∙ unwound n (suc f) a (store i v ss) e)

  -- THE READING of a select: what follows its array's name.
  pub select-tree : {s : List ℕ} {at a i v n e : ℕ} → SelectAt s D at a i v n e → (g : ℕ)
      → read_term (suc (suc (raised n (suc g)))) D (drop at s) ≡ select_then (suc g) D (name_to s (select_name at n) e) n base (drop e s)
  select-tree {s} {at} {a} {i} {v} {n} {e} x g =
      ap (read_term (suc (suc (raised n (suc g)))) D) x.begins ∙ select-open (raised n (suc g)) (opened n (124 ∷ drop (select_name at n) s))
      ∙ stored-unwound D n g (drop (select_name at n) s) (name_to s (select_name at n) e) (drop e s) (own_tree (raised n (suc g))) x.name.read
      ∙ unwound n (suc g) (name_to s (select_name at n) e) base (drop e s)
