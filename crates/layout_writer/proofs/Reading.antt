-- What `read_script` answered, by what the bytes are. Assumes nothing.
use Prim.Native.Nat.{ℕ, ◌≤◌}
use mathlib.Core.Bool.{Bool, true, false}
use mathlib.Core.List.{List, ◌++◌}
use mathlib.Core.Option.{Option, none, some}
use mathlib.Core.Path.{◌≡◌, refl, ap, sym, subst, ◌∙◌}
use native.Mathlib.Omega.{arith}
use lib.Dec.{T, leb}
use lib.ListN.{length, take, length-append, length-map}
use lib.Seq.{take-append_seam}
use Rattle.lists.specs.Tests.{and_T, and-1, true→T, every}
use Rattle.reading.specs.Trees.{Variable, Array, Function, Declarations, Reading}
use Rattle.echo_spec.specs.Input.{Problem, within_limits}
use Rattle.echo_spec.specs.Answers.{at_front}
use Rattle.readback.specs.Printable.{variable_names_in, array_names_in, function_names_in}
use Rattle.readback.specs.Rebuild.{dag_for, rebuild}
use Rattle.readback.specs.Records.{holdable, inputs}
use Rattle.readback.specs.ScriptReader.{reading_in}
use Rattle.readback.specs.ReadAnswers.{Sizes as Lengths, sizes_of, each_with, ReadAnswer, read_as, limits_passed, read_script_answer}
use Rattle.rebuilt.specs.Layout.{length-starts, length-count}
use Rattle.script_rebuild.specs.Decided.{lengths_of, all_within}
use Rattle.script_rebuild.specs.Deciding.{no-script, over-limit, room-there}
use Rattle.script_rebuild.specs.Decided.{error_number}
use Rattle.script_rebuild.specs.declared.Sizes.{Sizes}
use Rattle.script_rebuild.specs.declared.ReadError.{ReadError}
use Rattle.script_rebuild.specs.declared.ReadError.TheVariants as error
use Rattle.script_reader.specs.Outputs.{sizes_from, read_back}
use Rattle.std.specs.Prelude.{Result, Ok, Err}
use Rattle.layout_writer.specs.declared.Unwritten.{Unwritten}
use Rattle.layout_writer.specs.Laws.{Within, within}
use Rattle.layout_writer.specs.Outputs.{first_of, Lies, rooms, said_by}
use Rattle.layout_writer.specs.Telling.{Script, no_script, over_limit, given, unless, rebuilt, said_of, written_to, Always, Answers}
use Rattle.problem_layout.specs.Telling.{Known}

-- ---------------------------------------------------------------- columns

-- the columns of a table are of one length
pub record OneLength (p : Problem) : Type 0 where
  pub name_len : length p.name_start ≡ length p.name_len
  pub var_node : length p.name_start ≡ length p.var_node
  pub var_width : length p.name_start ≡ length p.var_width
  pub aname_len : length p.aname_start ≡ length p.aname_len
  pub index_width : length p.aname_start ≡ length p.index_width
  pub value_width : length p.aname_start ≡ length p.value_width
  pub fname_len : length p.fname_start ≡ length p.fname_len
  pub func_width : length p.fname_start ≡ length p.func_width

columns_of : (r : Reading) → OneLength (inputs (rebuild r))
unfolding inputs rebuild dag_for
columns_of r =
    let D : Declarations = r.declarations in
    let v = length-starts 0 (variable_names_in D) in
    let a = length-starts 0 (array_names_in D) in
    let f = length-starts 0 (function_names_in D) in
    let vn = length-map D.variables (λ (v : Variable). v.name) in
    let an = length-map D.arrays (λ (a : Array). a.name) in
    let fn = length-map D.functions (λ (f : Function). f.name) in
    record {
      name_len = v ∙ sym (length-map (variable_names_in D) length);
      var_node = v ∙ sym (length-count 0 (length (variable_names_in D)));
      var_width = v ∙ vn ∙ sym (length-map D.variables (λ (v : Variable). v.width));
      aname_len = a ∙ sym (length-map (array_names_in D) length);
      index_width = a ∙ an ∙ sym (length-map D.arrays (λ (a : Array). a.index));
      value_width = a ∙ an ∙ sym (length-map D.arrays (λ (a : Array). a.value));
      fname_len = f ∙ sym (length-map (function_names_in D) length);
      func_width = f ∙ fn ∙ sym (length-map D.functions (λ (f : Function). f.width));
    }

-- ---------------------------------------------------------------- what lies at the front

front_of : (xs rest : List ℕ) {n : ℕ} {l : List ℕ} → n ≡ length xs → l ≡ xs ++ rest → take n l ≡ xs
front_of xs rest e f = (λ i. take (e i) (f i)) ∙ take-append_seam xs rest

front-there : (xs rest : List ℕ) {n : ℕ} {l : List ℕ} → n ≡ length xs → l ≡ xs ++ rest → n ≤ length l
front-there xs rest e f = omega (arith, e, ap length f ∙ length-append xs rest)

module _ (p lent o : Problem) (z : Sizes) (h : OneLength p) (s : sizes_from z ≡ sizes_of p) (f : o ≡ each_with at_front p lent) where
  n-nodes : z.nodes ≡ length p.nodes
  unfolding sizes_of
  n-nodes = ap (λ (x : Lengths). x.nodes) s

  n-bits : z.bits ≡ length p.bits
  unfolding sizes_of
  n-bits = ap (λ (x : Lengths). x.bits) s

  n-side : z.side ≡ length p.side
  unfolding sizes_of
  n-side = ap (λ (x : Lengths). x.side) s

  n-roots : z.roots ≡ length p.roots
  unfolding sizes_of
  n-roots = ap (λ (x : Lengths). x.roots) s

  n-names : z.names ≡ length p.names
  unfolding sizes_of
  n-names = ap (λ (x : Lengths). x.names) s

  n-variables : z.variables ≡ length p.name_start
  unfolding sizes_of
  n-variables = ap (λ (x : Lengths). x.variables) s

  n-anames : z.anames ≡ length p.anames
  unfolding sizes_of
  n-anames = ap (λ (x : Lengths). x.anames) s

  n-arrays : z.arrays ≡ length p.aname_start
  unfolding sizes_of
  n-arrays = ap (λ (x : Lengths). x.arrays) s

  n-fnames : z.fnames ≡ length p.fnames
  unfolding sizes_of
  n-fnames = ap (λ (x : Lengths). x.fnames) s

  n-functions : z.functions ≡ length p.fname_start
  unfolding sizes_of
  n-functions = ap (λ (x : Lengths). x.functions) s

  first-is : first_of z o ≡ p
  first-is = λ i. record {
    nodes = front_of p.nodes _ n-nodes (ap (λ (x : Problem). x.nodes) f) i;
    bits = front_of p.bits _ n-bits (ap (λ (x : Problem). x.bits) f) i;
    side = front_of p.side _ n-side (ap (λ (x : Problem). x.side) f) i;
    roots = front_of p.roots _ n-roots (ap (λ (x : Problem). x.roots) f) i;
    names = front_of p.names _ n-names (ap (λ (x : Problem). x.names) f) i;
    name_start = front_of p.name_start _ n-variables (ap (λ (x : Problem). x.name_start) f) i;
    name_len = front_of p.name_len _ (n-variables ∙ h.name_len) (ap (λ (x : Problem). x.name_len) f) i;
    var_node = front_of p.var_node _ (n-variables ∙ h.var_node) (ap (λ (x : Problem). x.var_node) f) i;
    var_width = front_of p.var_width _ (n-variables ∙ h.var_width) (ap (λ (x : Problem). x.var_width) f) i;
    anames = front_of p.anames _ n-anames (ap (λ (x : Problem). x.anames) f) i;
    aname_start = front_of p.aname_start _ n-arrays (ap (λ (x : Problem). x.aname_start) f) i;
    aname_len = front_of p.aname_len _ (n-arrays ∙ h.aname_len) (ap (λ (x : Problem). x.aname_len) f) i;
    index_width = front_of p.index_width _ (n-arrays ∙ h.index_width) (ap (λ (x : Problem). x.index_width) f) i;
    value_width = front_of p.value_width _ (n-arrays ∙ h.value_width) (ap (λ (x : Problem). x.value_width) f) i;
    fnames = front_of p.fnames _ n-fnames (ap (λ (x : Problem). x.fnames) f) i;
    fname_start = front_of p.fname_start _ n-functions (ap (λ (x : Problem). x.fname_start) f) i;
    fname_len = front_of p.fname_len _ (n-functions ∙ h.fname_len) (ap (λ (x : Problem). x.fname_len) f) i;
    func_width = front_of p.func_width _ (n-functions ∙ h.func_width) (ap (λ (x : Problem). x.func_width) f) i;
  }

  lies-there : Lies z o
  lies-there = record {
    nodes = front-there p.nodes _ n-nodes (ap (λ (x : Problem). x.nodes) f);
    bits = front-there p.bits _ n-bits (ap (λ (x : Problem). x.bits) f);
    side = front-there p.side _ n-side (ap (λ (x : Problem). x.side) f);
    roots = front-there p.roots _ n-roots (ap (λ (x : Problem). x.roots) f);
    names = front-there p.names _ n-names (ap (λ (x : Problem). x.names) f);
    name_start = front-there p.name_start _ n-variables (ap (λ (x : Problem). x.name_start) f);
    name_len = front-there p.name_len _ (n-variables ∙ h.name_len) (ap (λ (x : Problem). x.name_len) f);
    var_node = front-there p.var_node _ (n-variables ∙ h.var_node) (ap (λ (x : Problem). x.var_node) f);
    var_width = front-there p.var_width _ (n-variables ∙ h.var_width) (ap (λ (x : Problem). x.var_width) f);
    anames = front-there p.anames _ n-anames (ap (λ (x : Problem). x.anames) f);
    aname_start = front-there p.aname_start _ n-arrays (ap (λ (x : Problem). x.aname_start) f);
    aname_len = front-there p.aname_len _ (n-arrays ∙ h.aname_len) (ap (λ (x : Problem). x.aname_len) f);
    index_width = front-there p.index_width _ (n-arrays ∙ h.index_width) (ap (λ (x : Problem). x.index_width) f);
    value_width = front-there p.value_width _ (n-arrays ∙ h.value_width) (ap (λ (x : Problem). x.value_width) f);
    fnames = front-there p.fnames _ n-fnames (ap (λ (x : Problem). x.fnames) f);
    fname_start = front-there p.fname_start _ n-functions (ap (λ (x : Problem). x.fname_start) f);
    fname_len = front-there p.fname_len _ (n-functions ∙ h.fname_len) (ap (λ (x : Problem). x.fname_len) f);
    func_width = front-there p.func_width _ (n-functions ∙ h.func_width) (ap (λ (x : Problem). x.func_width) f);
  }

-- ---------------------------------------------------------------- room

-- a problem within the limits has room in the arrays
roomy : (p : Problem) → Within p → T (all_within (lengths_of p) rooms)
unfolding all_within
roomy p w =
    let c = w.columns in
    let a = w.arenas in
    and_T (leb (length p.nodes) 34816) _ w.nodes
    (and_T (leb (length p.bits) 131072) _ w.bits
    (and_T (leb (length p.side) 8192) _ w.side
    (and_T (leb (length p.roots) 256) _ w.roots
    (and_T (leb (length p.names) 16384) _ a.0
    (and_T (leb (length p.name_start) 512) _ c.0
    (and_T (leb (length p.name_len) 512) _ c.1.0
    (and_T (leb (length p.var_node) 512) _ c.1.1.0
    (and_T (leb (length p.var_width) 512) _ c.1.1.1.0
    (and_T (leb (length p.anames) 16384) _ a.1.0
    (and_T (leb (length p.aname_start) 512) _ c.1.1.1.1.0
    (and_T (leb (length p.aname_len) 512) _ c.1.1.1.1.1.0
    (and_T (leb (length p.index_width) 512) _ c.1.1.1.1.1.1.0
    (and_T (leb (length p.value_width) 512) _ c.1.1.1.1.1.1.1.0
    (and_T (leb (length p.fnames) 16384) _ a.1.1.0
    (and_T (leb (length p.fname_start) 512) _ c.1.1.1.1.1.1.1.1.0
    (and_T (leb (length p.fname_len) 512) _ c.1.1.1.1.1.1.1.1.1.0
    (and_T (leb (length p.func_width) 512) _ c.1.1.1.1.1.1.1.1.1.1.0 tt)))))))))))))))))

-- ---------------------------------------------------------------- the answer

known_by : (e : ReadError) (out : List ℕ) → Known Always (said_by e) (length out)
known_by error.NoScript out = tt
known_by error.Limit out = tt
known_by error.Room out = tt

-- an acceptance: the bytes are a problem's script, and the problem lies at the front of the outputs
pub record ReadAs (b : List ℕ) (z : Sizes) (o : Problem) : Type 0 where
  pub problem : Problem
  pub is : rebuilt (reading_in b) ≡ given problem
  pub first : first_of z o ≡ problem
  pub lies : Lies z o

number_of : {a c : ReadAnswer} → a ≡ c → a.number ≡ c.number
number_of e = ap (λ (x : ReadAnswer). x.number) e

module _ (b : List ℕ) (lent o : Problem) (room : lengths_of lent ≡ rooms) where
  limits-in : (r : Reading) → limits_passed (rebuild r) ≡ true → T (within_limits (inputs (rebuild r)))
  unfolding limits_passed
  limits-in r l = and-1 (every holdable (rebuild r).dag.nodes) _ (true→T l)

  answered-0 : (r : Reading) → reading_in b ≡ some r → limits_passed (rebuild r) ≡ true → read_script_answer b lent ≡ read_as 0 (inputs (rebuild r)) lent
  answered-0 r q l =
      let p : Problem = inputs (rebuild r) in
      room-there b r q (true→T l) lent (subst (λ (ms : List ℕ). T (all_within (lengths_of p) ms)) (sym room) (roomy p (within p (limits-in r l))))

  read-given : (z : Sizes) → read_back (Ok z) o ≡ read_script_answer b lent → ReadAs b z o
  unfolding read_as
  read-given z h = by-reading (reading_in b) refl
    where
      by-limits : (r : Reading) → reading_in b ≡ some r → (c : Bool) → limits_passed (rebuild r) ≡ c → ReadAs b z o
      by-limits r q false l = absurd (let e : 0 ≡ 9 = number_of (h ∙ over-limit b (r, q, l) lent) in omega arith)
      by-limits r q true l =
          let p : Problem = inputs (rebuild r) in
          let a = h ∙ answered-0 r q l in
          let s : sizes_from z ≡ sizes_of p = ap (λ (x : ReadAnswer). x.sizes) a in
          let f : o ≡ each_with at_front p lent = ap (λ (x : ReadAnswer). x.output) a in
          record {
            problem = p;
            is = ap rebuilt q ∙ ap (λ (x : Bool). unless x over_limit (given p)) l;
            first = first-is p lent o z (columns_of r) s f;
            lies = lies-there p lent o z (columns_of r) s f;
          }

      by-reading : (x : Option Reading) → reading_in b ≡ x → ReadAs b z o
      by-reading none q = absurd (let e : 0 ≡ 13 = number_of (h ∙ no-script b q lent) in omega arith)
      by-reading (some r) q = by-limits r q (limits_passed (rebuild r)) refl

  -- a refusal is 13 or 9
  read-refused : (out : List ℕ) (e : ReadError) → read_back (Err e) o ≡ read_script_answer b lent → Answers (rebuilt (reading_in b)) out (said_by e) out
  unfolding read_as
  read-refused out e h = by-reading (reading_in b) refl
    where
      nine : (e : ReadError) → error_number e ≡ 9 → said_by e ≡ said_by error.Limit
      nine error.NoScript f = absurd (omega arith)
      nine error.Limit f = refl
      nine error.Room f = absurd (omega arith)

      thirteen : (e : ReadError) → error_number e ≡ 13 → said_by e ≡ said_by error.NoScript
      thirteen error.NoScript f = refl
      thirteen error.Limit f = absurd (omega arith)
      thirteen error.Room f = absurd (omega arith)

      never : (e : ReadError) → error_number e ≡ 0 → ⊥
      never error.NoScript f = omega arith
      never error.Limit f = omega arith
      never error.Room f = omega arith

      answers : (x : Script) → rebuilt (reading_in b) ≡ x → said_by e ≡ said_of x out → out ≡ written_to x out → Answers (rebuilt (reading_in b)) out (said_by e) out
      answers x q f g = record { said = f ∙ ap (λ (y : Script). said_of y out) (sym q); output = g ∙ ap (λ (y : Script). written_to y out) (sym q); known = known_by e out }

      by-limits : (r : Reading) → reading_in b ≡ some r → (c : Bool) → limits_passed (rebuild r) ≡ c → Answers (rebuilt (reading_in b)) out (said_by e) out
      by-limits r q false l =
          answers over_limit (ap rebuilt q ∙ ap (λ (x : Bool). unless x over_limit (given (inputs (rebuild r)))) l) (nine e (number_of (h ∙ over-limit b (r, q, l) lent))) refl
      by-limits r q true l = absurd (never e (number_of (h ∙ answered-0 r q l)))

      by-reading : (x : Option Reading) → reading_in b ≡ x → Answers (rebuilt (reading_in b)) out (said_by e) out
      by-reading none q = answers no_script (ap rebuilt q) (thirteen e (number_of (h ∙ no-script b q lent))) refl
      by-reading (some r) q = by-limits r q (limits_passed (rebuild r)) refl

-- ---------------------------------------------------------------- of an answer that is one or the other

module _ (b : List ℕ) (lent o : Problem) (room : lengths_of lent ≡ rooms) (q : Result Sizes ReadError) (h : read_back q o ≡ read_script_answer b lent) where
  pub accepts-as : (z : Sizes) → q ≡ Ok z → ReadAs b z o
  accepts-as z e = read-given b lent o room z (subst (λ (x : Result Sizes ReadError). read_back x o ≡ read_script_answer b lent) e h)

  pub refuses-as : (out : List ℕ) (c : ReadError) {r : Result ℕ Unwritten} → q ≡ Err c → r ≡ said_by c → Answers (rebuilt (reading_in b)) out r out
  refuses-as out c e f =
      subst (λ (x : Result ℕ Unwritten). Answers (rebuilt (reading_in b)) out x out) (sym f)
      (read-refused b lent o room out c (subst (λ (x : Result Sizes ReadError). read_back x o ≡ read_script_answer b lent) e h))
