-- The steps of deciding.
use Prim.Native.Nat.{ℕ, zero, suc, ◌-◌, ◌*◌, ◌≤◌, ◌<◌}
use Rattle.std.specs.Prelude.{◌≡◌, ◌↔◌, IsTrue, EachIndex, Bool, true, false, ◌&&◌, T, leb, get_or, Ok, Err}
use Rattle.std.proofs.Math.Path.{refl, ap, sym}
use Rattle.std.proofs.Common.{◌∙◌, arith, leb→le, le→leb}
use mathlib.Core.List.{List, [], ◌∷◌, map}
use Rattle.std.proofs.Math.Option.{none, some}
use Rattle.std.proofs.Math.ListN.{length, length-map}
use Rattle.lists.specs.Tests.{T→true, no→false, and_0, and-1, and_T}
use Rattle.reading.specs.Trees.{Variable, Array, Function, Declarations, Reading}
use Rattle.echo_spec.specs.Input.{Problem}
use Rattle.readback.specs.Printable.{variable_names_in, array_names_in, function_names_in}
use Rattle.readback.specs.Rebuild.{Item, bits_in, side_in, joined, records_from, starts_counted_from, count_from, arena, node_of, dag_for, placed, rebuild}
use Rattle.readback.specs.Records.{records_bytes, inputs}
use Rattle.readback.specs.ScriptReader.{reading_in}
use Rattle.readback.specs.ReadAnswers.{lists_of, all_fit, limits_passed, rebuilt_refusal, read_as, nothing, read_from, read_script_answer}
use Rattle.rebuilt.specs.Layout.{length-starts, length-count}
use Rattle.script_entries.specs.Entries.{variables_of, arrays_of, names_of}
use Rattle.header_laws.specs.Body.{reading_of}
use Rattle.heap_laws.specs.Heap.{Held}
use Rattle.heap_laws.specs.declared.Heap.{Heap}
use Rattle.script_names.specs.declared.Table.{Table}
use Rattle.script_header.specs.declared.Header.{Header}
use Rattle.script_place.specs.declared.Unread.{Unread}
use Rattle.script_place.specs.declared.Unread.TheVariants.{NoScript, Limit}
use Rattle.script_rebuild.specs.declared.Sizes.{Sizes}
use Rattle.script_rebuild.specs.declared.ReadError.TheVariants.{Room}
use Rattle.heap_laws.specs.Within.{within-parts, length-all}
use Rattle.script_rebuild.specs.Limits.{Passes, passed, roots-counted}
use Rattle.script_rebuild.specs.Rebuilt.{WholeProblem, RebuiltTo}
use Rattle.script_rebuild.specs.Steps.{Counts}
use Rattle.script_rebuild.specs.ArenaLengths.{ArenasAre}
use Rattle.script_rebuild.specs.declared.Arenas.{Arenas}
use Rattle.script_rebuild.specs.Decided.{lengths_of, all_within, needs_of, refusal_of, Decided}

-- ---------------------------------------------------------------- room

fit-lengths : (xs ls : List (List ℕ)) → all_fit xs ls ≡ all_within (map length xs) (map length ls)
unfolding all_fit all_within
fit-lengths [] ls = refl
fit-lengths (x ∷ xs) [] = refl
fit-lengths (x ∷ xs) (l ∷ ls) = ap (λ (b : Bool). leb (length x) (length l) && b) (fit-lengths xs ls)

-- ---------------------------------------------------------------- refusals

pub no-script : (s : List ℕ) → reading_in s ≡ none → (lent : Problem) → read_script_answer s lent ≡ read_as 13 nothing lent
unfolding read_script_answer read_from
no-script s e lent = rw e refl

-- a refusal does not look at the problem
refused-alike : (n : ℕ) (p : Problem) (lent : Problem) → read_as (suc n) p lent ≡ read_as (suc n) nothing lent
unfolding read_as
refused-alike n p lent = refl

pub over-limit : (s : List ℕ) → (r : Reading) × (reading_in s ≡ some r) × (limits_passed (rebuild r) ≡ false) → (lent : Problem) → read_script_answer s lent ≡ read_as 9 nothing lent
unfolding read_script_answer read_from rebuilt_refusal
over-limit s (r, e, l) lent = rw (e, read_from, l) (refused-alike 8 (inputs (rebuild r)) lent)

pub refused : (s : List ℕ) (t : Table) (heap : Heap) (roots : List ℕ) {room : List ℕ} (u : Unread) → RebuiltTo s t heap roots (Err u) → Decided s t heap roots room (Err (refusal_of u))
refused s t heap roots NoScript h = λ lent l. no-script s h lent
refused s t heap roots Limit h = λ lent l. over-limit s h lent

pub no_room : (s : List ℕ) (r : Reading) → reading_in s ≡ some r → T (limits_passed (rebuild r)) → (lent : Problem) → all_within (lengths_of (inputs (rebuild r))) (lengths_of lent) ≡ false → read_script_answer s lent ≡ read_as 10 nothing lent
unfolding read_script_answer read_from rebuilt_refusal
no_room s r e l lent f =
    let q : all_fit (lists_of (inputs (rebuild r))) (lists_of lent) ≡ false = fit-lengths (lists_of (inputs (rebuild r))) (lists_of lent) ∙ f in
    rw (e, read_from, T→true (limits_passed (rebuild r)) l, q) (refused-alike 9 (inputs (rebuild r)) lent)

pub room-there : (s : List ℕ) (r : Reading) → reading_in s ≡ some r → T (limits_passed (rebuild r)) → (lent : Problem) → T (all_within (lengths_of (inputs (rebuild r))) (lengths_of lent)) → read_script_answer s lent ≡ read_as 0 (inputs (rebuild r)) lent
unfolding read_script_answer read_from rebuilt_refusal
room-there s r e l lent f =
    let q : all_fit (lists_of (inputs (rebuild r))) (lists_of lent) ≡ true = fit-lengths (lists_of (inputs (rebuild r))) (lists_of lent) ∙ T→true (all_within (lengths_of (inputs (rebuild r))) (lengths_of lent)) f in
    rw (e, read_from, T→true (limits_passed (rebuild r)) l, q) refl

-- ---------------------------------------------------------------- what is needed

-- there is room for the numbers
pub few-names : {h : Header} (r : Reading) → Counts h r.declarations → Passes r → names_of h ≤ 1536
few-names r c p = omega (arith, c.variables, c.arrays, c.functions, p.variables.entries, p.arrays.entries, p.functions.entries)

pub nodes-few : {heap : Heap} {s : List Item} → Held heap s → heap.count ≤ 2048
nodes-few {s = s} x = omega (arith, x.count, (within-parts s x.inside).nodes)

module _ {s : List ℕ} {t : Table} {h : Header} {heap : Heap} {roots : List ℕ} {n : ℕ} (x : WholeProblem s t h heap roots n) where
  abbrev r : Reading
  r = reading_of x.declarations x.trees

  abbrev D : Declarations
  D = x.declarations

  abbrev items : List Item
  items = (placed r).items

  -- the lengths in order, by the header's numbers, the counts of the heap and the lengths of the names
  abbrev pub need_of : ℕ → ℕ → ℕ → ℕ → ℕ → ℕ → ℕ → ℕ → ℕ → ℕ → List ℕ
  need_of nodes bits side roots names v anames a fnames f = nodes ∷ bits ∷ side ∷ roots ∷ names ∷ v ∷ v ∷ v ∷ v ∷ anames ∷ a ∷ a ∷ a ∷ a ∷ fnames ∷ f ∷ f ∷ f ∷ []

  lengths-are : lengths_of (inputs (rebuild r)) ≡
      need_of (17 * length items) (length (joined bits_in items)) (length (joined side_in items)) n (length (arena (variable_names_in D))) (length (variable_names_in D)) (length (arena (array_names_in D))) (length (array_names_in D)) (length (arena (function_names_in D))) (length (function_names_in D))
  unfolding inputs rebuild dag_for
  lengths-are =
      let e₀ : length (records_bytes (records_from 0 0 items)) ≡ 17 * length items = length-all items in
      let e₃ : length (map (node_of items) (placed r).refs) ≡ n = length-map (placed r).refs (node_of items) ∙ roots-counted D x.trees ∙ sym x.counted in
      let vs : length (starts_counted_from 0 (variable_names_in D)) ≡ length (variable_names_in D) = length-starts 0 (variable_names_in D) in
      let vl : length (map length (variable_names_in D)) ≡ length (variable_names_in D) = length-map (variable_names_in D) length in
      let vc : length (count_from 0 (length (variable_names_in D))) ≡ length (variable_names_in D) = length-count 0 (length (variable_names_in D)) in
      let vw : length (map (λ (v : Variable). v.width) D.variables) ≡ length (variable_names_in D) = length-map D.variables (λ (v : Variable). v.width) ∙ sym (length-map D.variables (λ (v : Variable). v.name)) in
      let an : length (starts_counted_from 0 (array_names_in D)) ≡ length (array_names_in D) = length-starts 0 (array_names_in D) in
      let al : length (map length (array_names_in D)) ≡ length (array_names_in D) = length-map (array_names_in D) length in
      let ai : length (map (λ (a : Array). a.index) D.arrays) ≡ length (array_names_in D) = length-map D.arrays (λ (a : Array). a.index) ∙ sym (length-map D.arrays (λ (a : Array). a.name)) in
      let av : length (map (λ (a : Array). a.value) D.arrays) ≡ length (array_names_in D) = length-map D.arrays (λ (a : Array). a.value) ∙ sym (length-map D.arrays (λ (a : Array). a.name)) in
      let fs : length (starts_counted_from 0 (function_names_in D)) ≡ length (function_names_in D) = length-starts 0 (function_names_in D) in
      let fl : length (map length (function_names_in D)) ≡ length (function_names_in D) = length-map (function_names_in D) length in
      let fw : length (map (λ (f : Function). f.width) D.functions) ≡ length (function_names_in D) = length-map D.functions (λ (f : Function). f.width) ∙ sym (length-map D.functions (λ (f : Function). f.name)) in
      λ i. e₀ i ∷ length (joined bits_in items) ∷ length (joined side_in items) ∷ e₃ i ∷ length (arena (variable_names_in D)) ∷ vs i ∷ vl i ∷ vc i ∷ vw i ∷ length (arena (array_names_in D)) ∷ an i ∷ al i ∷ ai i ∷ av i ∷ length (arena (function_names_in D)) ∷ fs i ∷ fl i ∷ fw i ∷ []

  -- the numbers that are at hand are those that are needed
  pub need-is : {q : Arenas} → Counts h D → ArenasAre D q → need_of (17 * heap.count) heap.bit_count heap.side_count n q.names (variables_of h) q.anames (arrays_of h - variables_of h) q.fnames (names_of h - arrays_of h)
      ≡ lengths_of (inputs (rebuild r))
  need-is {q} c a =
      let p = x.passes in
      let e₀ : 17 * heap.count ≡ 17 * length items = ap (λ (k : ℕ). 17 * k) x.held.count in
      let vn : q.names ≡ length (arena (variable_names_in D)) = a.names in
      let an : q.anames ≡ length (arena (array_names_in D)) = a.anames in
      let fn : q.fnames ≡ length (arena (function_names_in D)) = a.fnames in
      let v : variables_of h ≡ length (variable_names_in D) = c.variables in
      let ar : arrays_of h - variables_of h ≡ length (array_names_in D) = omega (arith, c.arrays) in
      let f : names_of h - arrays_of h ≡ length (function_names_in D) = omega (arith, c.functions) in
      (λ i. need_of (e₀ i) (x.held.bit_count i) (x.held.side_count i) n (vn i) (v i) (an i) (ar i) (fn i) (f i)) ∙ sym lengths-are

  limits-kept : T (limits_passed (rebuild r))
  limits-kept = passed r x.passes

  pub decided-ready : (z : Sizes) {room : List ℕ} → needs_of z ≡ lengths_of (inputs (rebuild r)) → T (all_within (needs_of z) room)
      → Decided s t heap roots room (Ok (record { header = h; sizes = z }))
  decided-ready z e f = record { count = n; whole = x; needed = e; fits = f }

  pub decided-short : (z : Sizes) {room : List ℕ} → needs_of z ≡ lengths_of (inputs (rebuild r)) → all_within (needs_of z) room ≡ false → Decided s t heap roots room (Err Room)
  decided-short z e f = λ lent l. no_room s r x.reading limits-kept lent ((λ i. all_within (sym e i) (l i)) ∙ f)

-- ---------------------------------------------------------------- the numbers in their places

pub all-within : (ns ms : List ℕ) → T (all_within ns ms) → (i : ℕ) → i < length ns → get_or ns i 0 ≤ get_or ms i 0
unfolding all_within
all-within [] ms h i l = absurd (omega arith)
all-within (n ∷ ns) [] h i l = absurd h
all-within (n ∷ ns) (m ∷ ms) h zero l = leb→le n m (and_0 (leb n m) (all_within ns ms) h)
all-within (n ∷ ns) (m ∷ ms) h (suc i) l = all-within ns ms (and-1 (leb n m) (all_within ns ms) h) i (omega arith)

pub within-each : (ns ms : List ℕ) → length ns ≤ length ms → ((i : ℕ) → i < length ns → get_or ns i 0 ≤ get_or ms i 0) → T (all_within ns ms)
unfolding all_within
within-each [] ms l h = tt
within-each (n ∷ ns) [] l h = absurd (omega arith)
within-each (n ∷ ns) (m ∷ ms) l h = and_T (leb n m) (all_within ns ms) (le→leb n m (h 0 (omega arith))) (within-each ns ms (omega arith) (λ i k. h (suc i) (omega arith)))

-- so a test of them tells
pub within-told : (ns ms : List ℕ) → length ns ≤ length ms → (b : Bool) → IsTrue b ↔ EachIndex ns (λ i. get_or ns i 0 ≤ get_or ms i 0) → b ≡ all_within ns ms
within-told ns ms l true h = sym (T→true (all_within ns ms) (within-each ns ms l (h.0 refl)))
within-told ns ms l false h = sym (no→false (all_within ns ms) (λ t. let e : IsTrue false = h.1 (all-within ns ms t) in cc))

pub need-long : {need : List ℕ} (p : Problem) → need ≡ lengths_of p → length need ≡ 18
need-long p e = ap length e
