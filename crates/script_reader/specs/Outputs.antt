-- The outputs of a script that is read back, all eighteen.
use Rattle.std.specs.Prelude.{ℕ, ◌≤◌, ◌<◌, ◌≡◌, get_or, Result, Ok, Err}
use Rattle.std.proofs.Math.Path.{ap, sym}
use Rattle.std.proofs.Common.{◌∙◌, subst, arith, length-take}
use mathlib.Core.List.{List, map}
use Rattle.std.proofs.Math.Dec.{T}
use Rattle.std.proofs.Math.ListN.{length, take, length-map}
use Rattle.reading.specs.Trees.{Variable, Array, Function, Declarations, Reading}
use Rattle.echo_spec.specs.Input.{Problem}
use Rattle.echo_spec.specs.Answers.{at_front, zeroed}
use Rattle.readback.specs.Printable.{variable_names_in, array_names_in, function_names_in}
use Rattle.readback.specs.Rebuild.{bits_in, side_in, joined, records_from, node_of, dag_for, placed, rebuild}
use Rattle.readback.specs.Records.{records_bytes, inputs}
use Rattle.readback.specs.ReadAnswers.{Sizes, no_sizes, sizes_of, each_with, ReadAnswer, read_as, nothing, read_script_answer}
use Rattle.rebuilt.specs.Layout.{length-starts, length-count}
use Rattle.header_laws.specs.Body.{reading_of}
use Rattle.heap_laws.specs.Within.{length-all}
use Rattle.script_fill.specs.Filling.{Few, VariablesFit, VariablesFilled, ArraysFit, ArraysFilled, FunctionsFit, FunctionsFilled}
use Rattle.script_rebuild.specs.Limits.{passed, roots-counted as assertions-counted}
use Rattle.script_rebuild.specs.Steps.{counts}
use Rattle.heap_laws.specs.declared.Heap.{Heap}
use Rattle.script_names.specs.declared.Table.{Table}
use Rattle.script_header.specs.declared.Header.{Header}
use Rattle.script_rebuild.specs.declared.Sizes.{Sizes as Told}
use Rattle.script_rebuild.specs.declared.ReadError.{ReadError}
use Rattle.script_rebuild.specs.declared.ReadError.TheVariants.{NoScript, Limit, Room}
use Rattle.script_rebuild.specs.Decided.{lengths_of, all_within, needs_of, error_number, Ready}
use Rattle.script_rebuild.specs.Deciding.{all-within, few-names, room-there}

-- ---------------------------------------------------------------- answers

abbrev pub sizes_from : Told → Sizes
sizes_from z = record {
  nodes = z.nodes;
  bits = z.bits;
  side = z.side;
  roots = z.roots;
  names = z.names;
  variables = z.variables;
  anames = z.anames;
  arrays = z.arrays;
  fnames = z.fnames;
  functions = z.functions;
}

-- an answer, with what the outputs became
abbrev pub read_back : Result Told ReadError → Problem → ReadAnswer
read_back (Ok z) p = record { number = 0; sizes = sizes_from z; output = p }
read_back (Err e) p = record { number = error_number e; sizes = no_sizes; output = p }

-- the sizes among the eighteen lengths
abbrev pub sizes_among : List ℕ → Sizes
sizes_among l = record {
  nodes = get_or l 0 0;
  bits = get_or l 1 0;
  side = get_or l 2 0;
  roots = get_or l 3 0;
  names = get_or l 4 0;
  variables = get_or l 5 0;
  anames = get_or l 9 0;
  arrays = get_or l 10 0;
  fnames = get_or l 14 0;
  functions = get_or l 15 0;
}

-- ---------------------------------------------------------------- nodes, bits, side entries, roots

-- the arrays have what is needed, and the outputs have room for it
pub record NodesFit (need : List ℕ) (heap : Heap) (tops a b c d : List ℕ) : Type 0 where
  pub nodes : get_or need 0 0 ≤ length heap.records
  pub nodes_room : length (take (get_or need 0 0) heap.records) ≤ length a
  pub bits : get_or need 1 0 ≤ length heap.bits
  pub bits_room : length (take (get_or need 1 0) heap.bits) ≤ length b
  pub side : get_or need 2 0 ≤ length heap.side
  pub side-room : length (take (get_or need 2 0) heap.side) ≤ length c
  pub roots : get_or need 3 0 ≤ length tops
  pub roots_room : length (take (get_or need 3 0) tops) ≤ length d

pub record NodesFilled (need : List ℕ) (heap : Heap) (tops a b c d a' b' c' d' : List ℕ) : Type 0 where
  pub nodes : a' ≡ at_front (take (get_or need 0 0) heap.records) a
  pub bits : b' ≡ at_front (take (get_or need 1 0) heap.bits) b
  pub side : c' ≡ at_front (take (get_or need 2 0) heap.side) c
  pub roots : d' ≡ at_front (take (get_or need 3 0) tops) d

-- ---------------------------------------------------------------- a problem that is ready

module _ {s : List ℕ} {t : Table} {h : Header} {heap : Heap} {tops need room : List ℕ} (x : Ready s t h heap tops need room) where
  abbrev D : Declarations
  D = x.whole.declarations

  abbrev r : Reading
  r = reading_of x.whole.declarations x.whole.trees

  abbrev p : Problem
  p = inputs (rebuild (reading_of x.whole.declarations x.whole.trees))

  at : (i : ℕ) → get_or need i 0 ≡ get_or (lengths_of p) i 0
  at i = ap (λ (ns : List ℕ). get_or ns i 0) x.needed

  pub ready-few : Few s t h D
  ready-few = record { known = x.whole.known; few = few-names r (counts s t h D x.whole.known) x.whole.passes }

  taken : {A : Type 0} (n : ℕ) (l : List A) (m : List A) → take n l ≡ m → length m ≡ n → n ≤ length l
  taken n l m e f = let q = length-take n l in let z = ap length e in omega (arith, q, z, f)

  n-records : get_or need 0 0 ≡ length (records_bytes (records_from 0 0 (placed r).items))
  unfolding inputs rebuild dag_for
  n-records = at 0

  n-bits : get_or need 1 0 ≡ length (joined bits_in (placed r).items)
  unfolding inputs rebuild dag_for
  n-bits = at 1

  n-side : get_or need 2 0 ≡ length (joined side_in (placed r).items)
  unfolding inputs rebuild dag_for
  n-side = at 2

  n-roots : get_or need 3 0 ≡ length (map (node_of (placed r).items) (placed r).refs)
  unfolding inputs rebuild dag_for
  n-roots = at 3

  records-are : take (get_or need 0 0) heap.records ≡ p.nodes
  unfolding inputs rebuild dag_for
  records-are = ap (λ (k : ℕ). take k heap.records) (n-records ∙ length-all (placed r).items) ∙ x.whole.held.records

  bits_are : take (get_or need 1 0) heap.bits ≡ p.bits
  unfolding inputs rebuild dag_for
  bits_are = ap (λ (k : ℕ). take k heap.bits) n-bits ∙ x.whole.held.bits_held

  side-are : take (get_or need 2 0) heap.side ≡ p.side
  unfolding inputs rebuild dag_for
  side-are = ap (λ (k : ℕ). take k heap.side) n-side ∙ x.whole.held.side_held

  roots-counted : get_or need 3 0 ≡ x.count
  roots-counted = n-roots ∙ length-map (placed r).refs (node_of (placed r).items) ∙ script-roots
    where
      script-roots : length (placed r).refs ≡ x.count
      script-roots = assertions-counted D x.whole.trees ∙ sym x.whole.counted

  roots-are : take (get_or need 3 0) tops ≡ p.roots
  unfolding inputs rebuild dag_for
  roots-are = ap (λ (k : ℕ). take k tops) roots-counted ∙ x.whole.rooted

  sizes-are : sizes_among need ≡ sizes_of p
  unfolding sizes_of
  sizes-are = ap sizes_among x.needed

  module _ (lent : Problem) (l : room ≡ lengths_of lent) where
    at_most : (i : ℕ) → i < 18 → get_or need i 0 ≤ get_or (lengths_of lent) i 0
    at_most i k = subst (λ (ms : List ℕ). get_or need i 0 ≤ get_or ms i 0) l (all-within need room x.fits i (let e : length need ≡ 18 = ap length x.needed in omega (arith, e, k)))

    part-room : (i : ℕ) (l : List ℕ) → i < 18 → length (take (get_or need i 0) l) ≤ get_or (lengths_of lent) i 0
    part-room i l k = let e = length-take (get_or need i 0) l in omega (arith, at_most i k)

    pub ready-nodes : NodesFit need heap tops lent.nodes lent.bits lent.side lent.roots
    unfolding inputs rebuild dag_for
    ready-nodes = record {
      nodes = taken _ heap.records _ records-are (sym n-records);
      nodes_room = part-room 0 heap.records (omega arith);
      bits = taken _ heap.bits _ bits_are (sym n-bits);
      bits_room = part-room 1 heap.bits (omega arith);
      side = taken _ heap.side _ side-are (sym n-side);
      side-room = part-room 2 heap.side (omega arith);
      roots = taken _ tops _ roots-are (sym n-roots);
      roots_room = part-room 3 tops (omega arith);
    }

    below : (i : ℕ) → i < 18 → get_or (lengths_of p) i 0 ≤ get_or (lengths_of lent) i 0
    below i k = omega (arith, at i, at_most i k)

    pub ready-variables : VariablesFit D lent.names lent.name_start lent.name_len lent.var_node lent.var_width
    unfolding inputs rebuild dag_for
    ready-variables = record {
      named = record { names = below 4 (omega arith); starts = (let z = below 5 (omega arith) in let e = length-starts 0 (variable_names_in D) in omega (arith, z, e)); lengths = (let z = below 6 (omega arith) in let e = length-map (variable_names_in D) length in omega (arith, z, e)) };
      nodes = (let z = below 8 (omega arith) in let y = below 7 (omega arith) in let e = length-count 0 (length (variable_names_in D)) in let f = length-map D.variables (λ (v : Variable). v.name) in omega (arith, y, e, f));
      widths = (let z = below 8 (omega arith) in let e = length-map D.variables (λ (v : Variable). v.width) in omega (arith, z, e));
    }

    pub ready-arrays : ArraysFit D lent.anames lent.aname_start lent.aname_len lent.index_width lent.value_width
    unfolding inputs rebuild dag_for
    ready-arrays = record {
      named = record { names = below 9 (omega arith); starts = (let z = below 10 (omega arith) in let e = length-starts 0 (array_names_in D) in omega (arith, z, e)); lengths = (let z = below 11 (omega arith) in let e = length-map (array_names_in D) length in omega (arith, z, e)) };
      index = (let z = below 12 (omega arith) in let e = length-map D.arrays (λ (a : Array). a.index) in omega (arith, z, e));
      value = (let z = below 13 (omega arith) in let e = length-map D.arrays (λ (a : Array). a.value) in omega (arith, z, e));
    }

    pub ready-functions : FunctionsFit D lent.fnames lent.fname_start lent.fname_len lent.func_width
    unfolding inputs rebuild dag_for
    ready-functions = record {
      named = record { names = below 14 (omega arith); starts = (let z = below 15 (omega arith) in let e = length-starts 0 (function_names_in D) in omega (arith, z, e)); lengths = (let z = below 16 (omega arith) in let e = length-map (function_names_in D) length in omega (arith, z, e)) };
      widths = (let z = below 17 (omega arith) in let e = length-map D.functions (λ (f : Function). f.width) in omega (arith, z, e));
    }

    -- the eighteen outputs are the problem at the front of what was lent
    pub ready-filled : {o : Problem} → NodesFilled need heap tops lent.nodes lent.bits lent.side lent.roots o.nodes o.bits o.side o.roots
        → VariablesFilled D lent.names lent.name_start lent.name_len lent.var_node lent.var_width o.names o.name_start o.name_len o.var_node o.var_width
        → ArraysFilled D lent.anames lent.aname_start lent.aname_len lent.index_width lent.value_width o.anames o.aname_start o.aname_len o.index_width o.value_width
        → FunctionsFilled D lent.fnames lent.fname_start lent.fname_len lent.func_width o.fnames o.fname_start o.fname_len o.func_width
        → o ≡ each_with at_front (inputs (rebuild (reading_of x.whole.declarations x.whole.trees))) lent
    unfolding inputs rebuild dag_for
    ready-filled {o} n v a f = λ i. record {
      nodes = (n.nodes ∙ ap (λ (k : List ℕ). at_front k lent.nodes) records-are) i;
      bits = (n.bits ∙ ap (λ (k : List ℕ). at_front k lent.bits) bits_are) i;
      side = (n.side ∙ ap (λ (k : List ℕ). at_front k lent.side) side-are) i;
      roots = (n.roots ∙ ap (λ (k : List ℕ). at_front k lent.roots) roots-are) i;
      names = v.named.names i;
      name_start = v.named.starts i;
      name_len = v.named.lengths i;
      var_node = v.nodes i;
      var_width = v.widths i;
      anames = a.named.names i;
      aname_start = a.named.starts i;
      aname_len = a.named.lengths i;
      index_width = a.index i;
      value_width = a.value i;
      fnames = f.named.names i;
      fname_start = f.named.starts i;
      fname_len = f.named.lengths i;
      func_width = f.widths i;
    }

    pub ready-answer : (z : Told) (o : Problem) → need ≡ needs_of z → o ≡ each_with at_front (inputs (rebuild (reading_of x.whole.declarations x.whole.trees))) lent → read_back (Ok z) o ≡ read_script_answer s lent
    unfolding read_as
    ready-answer z o e f =
        (λ i. record { number = 0; sizes = (sym (ap sizes_among e) ∙ sizes-are) i; output = f i })
        ∙ sym (room-there s r x.whole.reading (passed r x.whole.passes) lent (subst (λ (ns : List ℕ). T (all_within ns (lengths_of lent))) x.needed (subst (λ (ms : List ℕ). T (all_within need ms)) l x.fits)))

-- ---------------------------------------------------------------- a refusal

pub refused-answer : (s : List ℕ) (lent o : Problem) (e : ReadError) → read_script_answer s lent ≡ read_as (error_number e) nothing lent → o ≡ each_with (λ _. zeroed) nothing lent
    → read_back (Err e) o ≡ read_script_answer s lent
unfolding read_as
refused-answer s lent o NoScript e f = (λ i. record { number = 13; sizes = no_sizes; output = f i }) ∙ sym e
refused-answer s lent o Limit e f = (λ i. record { number = 9; sizes = no_sizes; output = f i }) ∙ sym e
refused-answer s lent o Room e f = (λ i. record { number = 10; sizes = no_sizes; output = f i }) ∙ sym e
