-- What is known of a node that can be evaluated, shape by shape, and that its value comes from its operands' values.
use Prim.Native.Nat.{ℕ, ◌+◌, ◌-◌, ◌^◌, ◌≤◌, ◌<◌}
use Rattle.std.specs.Prelude.{◌≡◌, Bool, Option, None}
use Rattle.std.specs.Option.{is_some}
use Rattle.std.proofs.Math.Path.{refl, ap, ap₂, sym, subst}
use Rattle.std.proofs.Common.{◌∙◌, mod-lt, ◌⊎◌, inl, inr}
use mathlib.Core.List.{List, [], ◌∷◌}
use Rattle.std.proofs.Math.Bool.{true, false, not}
use native.Mathlib.Omega.{arith}
use lib.Dec.{T, leb, ltb, eqb, leb→le, ltb→lt, eqb→eq, eqb_refl, le→leb, lt→ltb}
use lib.ListN.{length, take, drop, get_or}
use borrow.Author.Tests.{lt-ltb, le-leb}
use Rattle.trace_tables.specs.Digits.{number_lt}
use Rattle.std.proofs.Math.Logic.{∥∥₁_elim}
use Rattle.std.proofs.Math.Dec.{T_prop}
use Rattle.std.specs.Coded.{×_prop}
use Rattle.std.proofs.Math.Nat.{ℕ_set}
use Rattle.lists.specs.Tests.{every, and_0, and-1, T→true, not→false}
use Rattle.lists.specs.Build.{upto-below}
use Rattle.reading.specs.Kinds.{Const}
use Rattle.echo_spec.specs.Shapes.{Shape, var, const, binary, rotation, extraction, concat, extension, ite, comparison, negation, connective, unary, select, call, unknown, is_bool, shapes}
use Rattle.echo_spec.specs.Input.{Node, shape, no_node, nodes_of, ArrayWidths, array_columns, fits64}
use Rattle.echo_spec.specs.Widths.{width_at, wf_as, width_as, node_wf, node_width, un_wf, extend_wf, earlier, bin_wf, bool_bin_wf, earlier_of}
use Rattle.echo_spec.specs.WidthLaws.{Sized, bin-operands, un-operand, earlier-width, earlier-below, width-before}
use Rattle.echo_spec.specs.Walk.{Operand, vector, formula, operands_as, sort_ok}
use Rattle.echo_spec.specs.Trees.{constant_bits, bits_value}
use Rattle.vectors.specs.Values.{Value, truth, undefined, applied, meaning, meanings, number, on_vectors, on_one, on_truths}
use Rattle.vectors.specs.Values as values
use Rattle.values.specs.NodeValues.{value_as, value_step, values_below, value_at, value-below, amount_in}
use Rattle.operators.specs.Kinds.{complete, last_of}
use Rattle.blast_kernel.specs.Kinds.{shape_in}
use Rattle.blast_kernel.specs.declared.Shape as code
use Rattle.blast_kernel.specs.declared.Shape.TheVariants as codes
use Rattle.bv.specs.Ranges.{One}
use Rattle.bv.specs.declared.Vector.{Vector}
use Rattle.vectors.specs.Vectors as smt
use Rattle.trace_terms.specs.Ready.{variable_ready, own_as, bool_at, operand_ready, ready_step, ready_below, ready, held, Agree}
use Rattle.trace_tables.specs.Fixed.{Lent, Usable, widths-all, Fixed, fixed_as, fixed_of, place_in}
use Rattle.trace_terms.specs.Ready as on

-- the shapes of one kind
abbrev is_extraction : Shape → Bool
is_extraction extraction = true
is_extraction _ = false

abbrev is_concat : Shape → Bool
is_concat concat = true
is_concat _ = false

abbrev is_ite : Shape → Bool
is_ite ite = true
is_ite _ = false

abbrev is_negation : Shape → Bool
is_negation negation = true
is_negation _ = false

eqb_same : (w : ℕ) → eqb w w ≡ true
eqb_same w = T→true (eqb w w) (eqb_refl w)

module _ (nodes bits ws vw : List ℕ) (entry : List (Option ℕ)) (row : List ℕ) where
  abbrev ValuedOn : ℕ → ℕ → Type 0
  ValuedOn i r = on.ValuedOn nodes bits ws vw entry row i r

  -- the vector r is the value of node i
  pub record Held (i : ℕ) (r : Vector) : Type 0 where
    pub value : ValuedOn i r.number
    pub width : r.width ≡ width_at ws i

  -- node j is lower than i, can be evaluated and has the sort
  pub record Lower (i : ℕ) (bool : Bool) (j : ℕ) : Type 0 where
    pub less : j < i
    pub good : T (ready (nodes_of nodes) ws vw entry row j)
    pub sort : bool_at (nodes_of nodes) j ≡ bool

  pub record Whole (i : ℕ) (n : Node) : Type 0 where
    pub at : n ≡ get_or (nodes_of nodes) i no_node
    pub node : i < length (nodes_of nodes)
    pub exists : i < length ws
    pub narrow : width_at ws i ≤ 64
    pub own : T (own_as (nodes_of nodes) ws vw entry row i n (shape n))
    pub operands : T (every (operand_ready (nodes_of nodes) (ready_below (nodes_of nodes) ws vw entry row i)) (operands_as [] n (shape n)))
    pub wf : T (wf_as (length bits) (array_columns [] []) [] (take i ws) n (shape n))
    pub width : width_at ws i ≡ width_as (array_columns [] []) (take i ws) n (shape n)

  -- a node that can be evaluated is sized by no array and no side entry
  apart : (nbits : ℕ) (arrays : ArrayWidths) (side tws : List ℕ) (i : ℕ) (n : Node) (s : Shape) → T (own_as (nodes_of nodes) ws vw entry row i n s)
      → T (wf_as nbits arrays side tws n s) → T (wf_as nbits (array_columns [] []) [] tws n s) × (width_as arrays tws n s ≡ width_as (array_columns [] []) tws n s)
  unfolding own_as wf_as width_as
  apart nbits arrays side tws i n var o t = (t, refl)
  apart nbits arrays side tws i n const o t = (t, refl)
  apart nbits arrays side tws i n binary o t = (t, refl)
  apart nbits arrays side tws i n rotation o t = (t, refl)
  apart nbits arrays side tws i n extraction o t = (t, refl)
  apart nbits arrays side tws i n concat o t = (t, refl)
  apart nbits arrays side tws i n extension o t = (t, refl)
  apart nbits arrays side tws i n ite o t = (t, refl)
  apart nbits arrays side tws i n comparison o t = (t, refl)
  apart nbits arrays side tws i n negation o t = (t, refl)
  apart nbits arrays side tws i n connective o t = (t, refl)
  apart nbits arrays side tws i n unary o t = (t, refl)
  apart nbits arrays side tws i n select o t = absurd o
  apart nbits arrays side tws i n call o t = absurd o
  apart nbits arrays side tws i n unknown o t = absurd o

  sized-apart : (u : Usable nodes bits ws) (i : ℕ) → i < length ws → (n : Node) → n ≡ get_or (nodes_of nodes) i no_node → T (own_as (nodes_of nodes) ws vw entry row i n (shape n))
      → T (wf_as (length bits) (array_columns [] []) [] (take i ws) n (shape n)) × (width_at ws i ≡ width_as (array_columns [] []) (take i ws) n (shape n))
  unfolding node_wf node_width
  sized-apart u i h n at o =
      ∥∥₁_elim u (×_prop (T_prop (wf_as (length bits) (array_columns [] []) [] (take i ws) n (shape n))) (ℕ_set _ _))
      (λ (l : Lent nodes bits ws).
      let s : Sized (length bits) l.arrays l.side ws i n = subst (λ (x : Node). Sized (length bits) l.arrays l.side ws i x) (sym at) (l.sized i h) in
      let a = apart (length bits) l.arrays l.side (take i ws) i n (shape n) o s.wf in
      (a.0, s.width ∙ a.1))

  -- all that is known of node n at i
  pub whole : (u : Usable nodes bits ws) (i : ℕ) → T (ready (nodes_of nodes) ws vw entry row i) → (n : Node) → n ≡ get_or (nodes_of nodes) i no_node → Whole i n
  unfolding ready ready_step
  whole u i h n at =
      let ns : List Node = nodes_of nodes in
      let m : Node = get_or ns i no_node in
      let h₁ = and-1 (ltb i (length ns)) _ h in
      let h₂ = and-1 (leb (width_at ws i) 64) _ h₁ in
      let inside : i < length ns = ltb→lt i (length ns) (and_0 (ltb i (length ns)) _ h) in
      let short : i < length ws = omega (arith, inside, widths-all u) in
      let o : T (own_as ns ws vw entry row i n (shape n)) = subst (λ (x : Node). T (own_as ns ws vw entry row i x (shape x))) (sym at) (and_0 (own_as ns ws vw entry row i m (shape m)) _ h₂) in
      let s = sized-apart u i short n at o in
      record {
        at = at;
        node = inside;
        exists = short;
        narrow = leb→le (width_at ws i) 64 (and_0 (leb (width_at ws i) 64) _ h₁);
        own = o;
        operands =
            subst (λ (x : Node). T (every (operand_ready ns (ready_below ns ws vw entry row i)) (operands_as [] x (shape x)))) (sym at)
            (and-1 (own_as ns ws vw entry row i m (shape m)) _ h₂);
        wf = s.0;
        width = s.1;
      }

  sort-is : (wanted has : Bool) → T (sort_ok wanted has) → has ≡ wanted
  sort-is true has t = T→true has t
  sort-is false has t = not→false has t

  lower : (i : ℕ) (o : Operand) → T (operand_ready (nodes_of nodes) (ready_below (nodes_of nodes) ws vw entry row i) o) → o.node < i → Lower i o.bool o.node
  unfolding operand_ready ready
  lower i o t h =
      let ns : List Node = nodes_of nodes in
      let b = and-1 (sort_ok o.bool (bool_at ns o.node)) _ t in
      record {
        less = h;
        good = subst T (upto-below (ready_step ns ws vw entry row) false i o.node h) b;
        sort = sort-is o.bool (bool_at ns o.node) (and_0 (sort_ok o.bool (bool_at ns o.node)) _ t);
      }

  -- a node that can be evaluated is no wider than 64, so the number that is its value makes a vector of its width
  narrow_at : (j : ℕ) → T (ready (nodes_of nodes) ws vw entry row j) → width_at ws j ≤ 64
  unfolding ready ready_step
  narrow_at j h = leb→le (width_at ws j) 64 (and_0 (leb (width_at ws j) 64) _ (and-1 (ltb j (length (nodes_of nodes))) _ h))

  pub extraction-one : {i : ℕ} {bool : Bool} {c : ℕ} → Lower i bool c → 0 < width_at ws c → {x : ℕ} → ValuedOn c x → One (width_at ws c) x
  extraction-one {i} {bool} {c} o p u = record { some = p; word = narrow_at c o.good; below = u.below }

  pub comparison-two : {i : ℕ} {bool : Bool} {a b : ℕ} → Lower i bool a → 0 < width_at ws a → width_at ws a ≡ width_at ws b → {x y : ℕ} → ValuedOn a x → ValuedOn b y
      → One (width_at ws a) x × One (width_at ws a) y
  comparison-two {i} {bool} {a} o p q u v = (extraction-one o p u, record { some = p; word = narrow_at a o.good; below = rw (sym q) at v.below })

-- ---------------------------------------------------------------- a node and its operands

module _ {nodes bits ws vw : List ℕ} {entry : List (Option ℕ)} {row : List ℕ} {i : ℕ} {n : Node} (k : Whole nodes bits ws vw entry row i n) where
  abbrev ns : List Node
  ns = nodes_of nodes

  abbrev below : ℕ → Bool
  below = ready_below ns ws vw entry row i

  abbrev Under : Bool → ℕ → Type 0
  Under bool j = Lower nodes bits ws vw entry row i bool j

  abbrev Numbered : ℕ → ℕ → Type 0
  Numbered j x = on.ValuedOn nodes bits ws vw entry row j x

  abbrev Is : ℕ → Vector → Type 0
  Is j r = Held nodes bits ws vw entry row j r

  open-operands : (s : Shape) → shape n ≡ s → T (every (operand_ready ns below) (operands_as [] n s))
  open-operands s e = subst (λ (x : Shape). T (every (operand_ready ns below) (operands_as [] n x))) e k.operands

  open-wf : (s : Shape) → shape n ≡ s → T (wf_as (length bits) (array_columns [] []) [] (take i ws) n s)
  open-wf s e = subst (λ (x : Shape). T (wf_as (length bits) (array_columns [] []) [] (take i ws) n x)) e k.wf

  open-width : (s : Shape) → shape n ≡ s → width_at ws i ≡ width_as (array_columns [] []) (take i ws) n s
  open-width s e = subst (λ (x : Shape). width_at ws i ≡ width_as (array_columns [] []) (take i ws) n x) e k.width

  open_own : (s : Shape) → shape n ≡ s → T (own_as ns ws vw entry row i n s)
  open_own s e = subst (λ (x : Shape). T (own_as ns ws vw entry row i n x)) e k.own

  pub bool_is : (s : Shape) → shape n ≡ s → bool_at ns i ≡ is_bool s
  bool_is s e = ap (λ (x : Node). is_bool (shape x)) (sym k.at) ∙ ap is_bool e

  open-value : (vars : ℕ → Value) (s : Shape) → shape n ≡ s → value_at ns ws bits vars i ≡ value_as ns ws bits vars (values_below ns ws bits vars i) i n s
  unfolding value_at value_step
  open-value vars s e =
      ap (λ (x : Node). value_as ns ws bits vars (values_below ns ws bits vars i) i x (shape x)) (sym k.at)
      ∙ ap (value_as ns ws bits vars (values_below ns ws bits vars i) i n) e

  under : (o : Operand) → T (operand_ready ns below o) → o.node < i → Under o.bool o.node
  under o t h = lower nodes bits ws vw entry row i o t h

  -- an operand's value where the node's own value looks for it
  from_vector : (vars : ℕ → Value) → Agree nodes ws vw entry row vars → (j : ℕ) (x : Vector) → Under false j → Is j x
      → values_below ns ws bits vars i j ≡ values.vector x.width x.number
  from_vector vars ag j x o v =
      value-below ns ws bits vars i j o.less ∙ v.value.value vars ag ∙ ap (λ (b : Bool). held b (width_at ws j) x.number) o.sort
      ∙ ap (λ (w : ℕ). values.vector w x.number) (sym v.width)

  from-truth : (vars : ℕ → Value) → Agree nodes ws vw entry row vars → (j : ℕ) (x : Vector) → Under true j → Is j x
      → values_below ns ws bits vars i j ≡ truth (eqb x.number 1)
  from-truth vars ag j x o v =
      value-below ns ws bits vars i j o.less ∙ v.value.value vars ag ∙ ap (λ (b : Bool). held b (width_at ws j) x.number) o.sort

  to_vector : (s : Shape) → shape n ≡ s → is_bool s ≡ false → (r : Vector)
      → ((vars : ℕ → Value) → Agree nodes ws vw entry row vars → value_as ns ws bits vars (values_below ns ws bits vars i) i n s ≡ values.vector r.width r.number)
      → r.width ≡ width_at ws i → Is i r
  to_vector s e b r q z = record {
    value = record {
      value = λ vars ag.
          open-value vars s e ∙ q vars ag ∙ ap (λ (x : ℕ). values.vector x r.number) z ∙ ap (λ (x : Bool). held x (width_at ws i) r.number) (sym (bool_is s e ∙ b));
      below = subst (λ (x : ℕ). r.number < 2 ^ x) z r.one.below;
    };
    width = z;
  }

  to-truth : (s : Shape) → shape n ≡ s → is_bool s ≡ true → (r : Vector)
      → ((vars : ℕ → Value) → Agree nodes ws vw entry row vars → value_as ns ws bits vars (values_below ns ws bits vars i) i n s ≡ truth (eqb r.number 1))
      → r.width ≡ width_at ws i → Is i r
  to-truth s e b r q z = record {
    value = record {
      value = λ vars ag. open-value vars s e ∙ q vars ag ∙ ap (λ (x : Bool). held x (width_at ws i) r.number) (sym (bool_is s e ∙ b));
      below = subst (λ (x : ℕ). r.number < 2 ^ x) z r.one.below;
    };
    width = z;
  }

  -- ---------------------------------------------------------------- variables and constants

  pub var-width : shape n ≡ var → 0 < width_at ws i
  unfolding wf_as width_as
  var-width e = rw (open-width var e) (ltb→lt 0 n.a (and_0 (ltb 0 n.a) _ (open-wf var e)))

  pub var-entry : shape n ≡ var → T (is_some (get_or entry i None)) × (place_in entry i < length row) × (get_or row (place_in entry i) 0 < 2 ^ width_at ws i)
  unfolding own_as variable_ready
  var-entry e =
      let t = and-1 (eqb (get_or vw (place_in entry i) 0) (width_at ws i)) _ (open_own var e) in
      let t₁ = and-1 (is_some (get_or entry i None)) _ t in (
        and_0 (is_some (get_or entry i None)) _ t,
        ltb→lt (place_in entry i) (length row) (and_0 (ltb (place_in entry i) (length row)) _ t₁),
        ltb→lt (get_or row (place_in entry i) 0) (2 ^ width_at ws i) (and-1 (ltb (place_in entry i) (length row)) _ t₁),
      )

  -- what was worked out of the node
  fixed-here : {xs : List ℕ} → Fixed nodes bits ws entry xs → (s : Shape) → shape n ≡ s → get_or xs i 0 ≡ fixed_as ns ws bits entry i n s
  unfolding fixed_of
  fixed-here f s e = f.at i k.node ∙ ap (λ (x : Node). fixed_as ns ws bits entry i x (shape x)) (sym k.at) ∙ ap (fixed_as ns ws bits entry i n) e

  pub var-number : {xs : List ℕ} → Fixed nodes bits ws entry xs → shape n ≡ var → {x r : ℕ} → x ≡ get_or xs i 0 → r ≡ get_or row x 0 → r ≡ get_or row (place_in entry i) 0
  unfolding fixed_as
  var-number f e p q = q ∙ ap (λ (j : ℕ). get_or row j 0) (p ∙ fixed-here f var e)

  pub var-below : (e : shape n ≡ var) {r : ℕ} → r ≡ get_or row (place_in entry i) 0 → r < 2 ^ width_at ws i
  var-below e q = rw q (var-entry e).2

  pub var-arm : (e : shape n ≡ var) → T (ready ns ws vw entry row i) → (r : Vector) → r.width ≡ width_at ws i → r.number ≡ get_or row (place_in entry i) 0 → Is i r
  unfolding value_as is_bool
  var-arm e t r w q =
      to_vector var e refl r (λ vars ag. ag.at i t (ap shape (sym k.at) ∙ e) ∙ ap₂ values.vector (sym w) (sym q)) w

  pub const-width : shape n ≡ const → (0 < width_at ws i) × (n.b ≡ width_at ws i)
  unfolding wf_as width_as
  const-width e = (rw (open-width const e) (ltb→lt 0 n.b (and_0 (ltb 0 n.b) _ (open-wf const e))), sym (open-width const e))

  pub const-room : shape n ≡ const → (n.a + n.b ≤ length bits) × (n.b ≡ width_at ws i)
  unfolding wf_as
  const-room e = (leb→le (n.a + n.b) (length bits) (and-1 (fits64 n.b) _ (and-1 (ltb 0 n.b) _ (open-wf const e))), (const-width e).1)

  pub const-number : {xs : List ℕ} → Fixed nodes bits ws entry xs → shape n ≡ const → {r : ℕ} → r ≡ get_or xs i 0 → r ≡ number (take n.b (drop n.a bits))
  unfolding fixed_as constant_bits
  const-number f e q =
      let small : n.b ≤ 64 = rw (const-width e).1 k.narrow in
      q ∙ fixed-here f const e ∙ rw (le-leb n.b 64 small) refl

  pub const-below : (e : shape n ≡ const) → ((j : ℕ) → get_or bits j 0 ≤ 1) → {r : ℕ} → r ≡ number (take n.b (drop n.a bits)) → r < 2 ^ width_at ws i
  const-below e ds p = rw (p, ← (const-width e).1) (number_lt bits n.a n.b ds)

  pub const-arm : (e : shape n ≡ const) (r : Vector) → r.width ≡ width_at ws i → r.number ≡ number (take n.b (drop n.a bits)) → Is i r
  unfolding value_as is_bool constant_bits
  const-arm e r w p =
      let inside : n.a + n.b ≤ length bits = (const-room e).0 in
      let d : length (drop n.a bits) ≡ length bits - n.a = lib.ListN.length-drop n.a bits in
      let l : length (take n.b (drop n.a bits)) ≡ n.b = lib.Seq.length-take-le n.b (drop n.a bits) (omega arith) in
      to_vector const e refl r (λ vars ag. ap₂ values.vector (l ∙ (const-width e).1 ∙ sym w) (sym p)) w

  -- ---------------------------------------------------------------- two operands

  -- two operands of one width
  pub record Pair (bool : Bool) : Type 0 where
    pub first : Under bool n.a
    pub second : Under bool n.b
    pub some : 0 < width_at ws n.a
    pub same : width_at ws n.a ≡ width_at ws n.b

  both-lower : (s : Shape) → shape n ≡ s → operands_as [] n s ≡ vector n.a ∷ vector n.b ∷ [] → n.a < i → n.b < i → Under false n.a × Under false n.b
  both-lower s e q p r =
      let t = subst (λ (os : List Operand). T (every (operand_ready ns below) os)) q (open-operands s e) in
      let t₁ = and-1 (operand_ready ns below (vector n.a)) _ t in
      (under (vector n.a) (and_0 (operand_ready ns below (vector n.a)) _ t) p, under (vector n.b) (and_0 (operand_ready ns below (vector n.b)) _ t₁) r)

  two-vectors : (s : Shape) → shape n ≡ s → operands_as [] n s ≡ vector n.a ∷ vector n.b ∷ [] → T (bin_wf (take i ws) n.a n.b) → Pair false
  two-vectors s e q t =
      let o = bin-operands ws i k.exists n.a n.b t in
      let b = both-lower s e q o.0 o.1 in
      record { first = b.0; second = b.1; some = o.2; same = o.3 }

  pub same-widths : width_at ws n.a ≡ width_at ws n.b → {x y : Vector} → Is n.a x → Is n.b y → y.width ≡ x.width
  same-widths e u v = v.width ∙ sym e ∙ sym u.width

  pub binary-pair : shape n ≡ binary → Pair false
  unfolding wf_as operands_as
  binary-pair e = two-vectors binary e refl (open-wf binary e)

  pub binary-width : shape n ≡ binary → width_at ws n.a ≡ width_at ws i
  unfolding width_as
  binary-width e = sym (open-width binary e ∙ width-before ws i k.exists n.a (binary-pair e).first.less)

  pub binary-two : (e : shape n ≡ binary) {x y : ℕ} → Numbered n.a x → Numbered n.b y → One (width_at ws i) x × One (width_at ws i) y
  binary-two e u v =
      let p = binary-pair e in
      let w = binary-width e in
      let w' : width_at ws n.b ≡ width_at ws i = sym p.same ∙ w in
      (record { some = rw w at p.some; word = k.narrow; below = rw w at u.below }, record { some = rw w at p.some; word = k.narrow; below = rw w' at v.below })

  pub binary-arm : (e : shape n ≡ binary) (f : ℕ → ℕ → ℕ → ℕ) → meaning n.kind ≡ values.binary f → {x y r : Vector} → Is n.a x → Is n.b y
      → r.width ≡ x.width → r.number ≡ f x.width x.number y.number → Is i r
  unfolding value_as is_bool applied
  binary-arm e f m {x} {y} {r} u v w q =
      let p = binary-pair e in
      to_vector binary e refl r
      (λ vars ag.
      rw (from_vector vars ag n.a x p.first u, from_vector vars ag n.b y p.second v, m, same-widths p.same u v, eqb_same x.width) (ap₂ values.vector (sym w) (sym q)))
      (w ∙ u.width ∙ binary-width e)

  pub comparison-pair : shape n ≡ comparison → Pair false
  unfolding wf_as operands_as
  comparison-pair e = two-vectors comparison e refl (open-wf comparison e)

  pub comparison-arm : (e : shape n ≡ comparison) (f : ℕ → ℕ → ℕ → Bool) → meaning n.kind ≡ values.comparison f → {x y r : Vector} {b : Bool} → Is n.a x → Is n.b y
      → b ≡ f x.width x.number y.number → r.width ≡ 1 → eqb r.number 1 ≡ b → Is i r
  unfolding value_as is_bool applied width_as
  comparison-arm e f m {x} {y} {r} u v g w q =
      let p = comparison-pair e in
      to-truth comparison e refl r
      (λ vars ag.
      rw (from_vector vars ag n.a x p.first u, from_vector vars ag n.b y p.second v, m, same-widths p.same u v, eqb_same x.width) (ap truth (sym (q ∙ g))))
      (w ∙ sym (open-width comparison e))

  -- ---------------------------------------------------------------- one vector

  pub unary-lower : shape n ≡ unary → Under false n.a × (0 < width_at ws n.a) × (width_at ws n.a ≡ width_at ws i)
  unfolding wf_as width_as operands_as
  unary-lower e =
      let o = un-operand ws i k.exists n.a (open-wf unary e) in
      let t = open-operands unary e in (
        under (vector n.a) (and_0 (operand_ready ns below (vector n.a)) _ t) o.0,
        o.1,
        sym (open-width unary e ∙ width-before ws i k.exists n.a o.0),
      )

  pub unary-one : (e : shape n ≡ unary) {x : ℕ} → Numbered n.a x → One (width_at ws i) x
  unary-one e u =
      let p = unary-lower e in
      record { some = rw p.2 at p.1; word = k.narrow; below = rw p.2 at u.below }

  pub unary-arm : (e : shape n ≡ unary) (f : ℕ → ℕ → ℕ) → meaning n.kind ≡ values.unary f → {x r : Vector} → Is n.a x
      → r.width ≡ x.width → r.number ≡ f x.width x.number → Is i r
  unfolding value_as is_bool applied
  unary-arm e f m {x} {r} u w q =
      let p = unary-lower e in
      to_vector unary e refl r
      (λ vars ag. rw (from_vector vars ag n.a x p.0 u, m) (ap₂ values.vector (sym w) (sym q)))
      (w ∙ u.width ∙ p.2)

  -- ---------------------------------------------------------------- rotations

  rotation-operands : shape n ≡ rotation → (n.a < i) × (n.b < i) × (0 < width_at ws n.a) × (width_at ws n.a ≡ width_at ws n.b)
  unfolding wf_as
  rotation-operands e = bin-operands ws i k.exists n.a n.b (open-wf rotation e)

  pub rotation-lower : shape n ≡ rotation → Under false n.a × (0 < width_at ws i) × (width_at ws n.a ≡ width_at ws i) × (n.b < i)
  unfolding width_as operands_as
  rotation-lower e =
      let o = rotation-operands e in
      let t = open-operands rotation e in
      let w : width_at ws n.a ≡ width_at ws i = sym (open-width rotation e ∙ width-before ws i k.exists n.a o.0) in
      (under (vector n.a) (and_0 (operand_ready ns below (vector n.a)) _ t) o.0, rw w at o.2, w, o.1)

  pub rotation-amount : {xs : List ℕ} → Fixed nodes bits ws entry xs → shape n ≡ rotation → {a : ℕ} → a ≡ get_or xs i 0 → a ≡ amount_in ns ws bits i n
  unfolding fixed_as own_as
  rotation-amount f e q =
      let p : 0 < width_at ws i = (rotation-lower e).1 in
      let c : eqb (get_or ns n.b no_node).kind Const ≡ true = T→true (eqb (get_or ns n.b no_node).kind Const) (open_own rotation e) in
      q ∙ fixed-here f rotation e ∙ rw (lt-ltb 0 (width_at ws i) p, le-leb (width_at ws i) 64 k.narrow, c) refl

  pub rotation-turned : (e : shape n ≡ rotation) {x : Vector} {a : ℕ} → Is n.a x → a ≡ amount_in ns ws bits i n → a < x.width
  rotation-turned e u q =
      let p = rotation-lower e in
      rw (u.width, p.2, q) (mod-lt (bits_value (constant_bits bits (get_or ns n.b no_node))) p.1)

  pub rotation-arm : (e : shape n ≡ rotation) (f : ℕ → ℕ → ℕ → ℕ) → meaning n.kind ≡ values.moved f values.unchanged → {x r : Vector} {a : ℕ} → Is n.a x
      → a ≡ amount_in ns ws bits i n → r.width ≡ x.width → r.number ≡ f a x.width x.number → Is i r
  unfolding value_as is_bool applied
  rotation-arm e f m {x} {r} u q w g =
      let p = rotation-lower e in
      to_vector rotation e refl r
      (λ vars ag. rw (from_vector vars ag n.a x p.0 u, ← q, m) (ap₂ values.vector (sym w) (sym g)))
      (w ∙ u.width ∙ p.2)

  -- ---------------------------------------------------------------- parts

  -- the only kind of a shape
  only : (test : Shape → Bool) → test unknown ≡ false → (kind : ℕ) → T (complete test (kind ∷ [])) → test (shape n) ≡ true → n.kind ≡ kind
  only test none kind t e = last_of test none kind [] t n.kind e tt

  pub extraction-lower : shape n ≡ extraction → Under false n.c × (n.b ≤ n.a) × (n.a < width_at ws n.c) × (n.a - n.b + 1 ≡ width_at ws i)
  unfolding wf_as width_as operands_as
  extraction-lower e =
      let t = open-wf extraction e in
      let t₁ = and-1 (earlier (take i ws) n.c) _ t in
      let lo : n.c < i = earlier-below ws i k.exists n.c (and_0 (earlier (take i ws) n.c) _ t) in
      let q : n.a < width_at (take i ws) n.c = ltb→lt n.a (width_at (take i ws) n.c) (and-1 (leb n.b n.a) _ t₁) in (
        under (vector n.c) (and_0 (operand_ready ns below (vector n.c)) _ (open-operands extraction e)) lo,
        leb→le n.b n.a (and_0 (leb n.b n.a) _ t₁),
        rw (width-before ws i k.exists n.c lo) at q,
        sym (open-width extraction e),
      )

  pub extraction-places : (e : shape n ≡ extraction) {x : Vector} → Is n.c x → (n.b ≤ n.a) × (n.a < x.width)
  extraction-places e u = let p = extraction-lower e in (p.1, rw u.width p.2)

  pub extraction-arm : (e : shape n ≡ extraction) {x r : Vector} → Is n.c x → r.width ≡ n.a - n.b + 1 → r.number ≡ smt.extract n.a n.b x.number → Is i r
  unfolding value_as is_bool applied meanings shapes
  extraction-arm e {x} {r} u w q =
      let o = extraction-lower e in
      let p = extraction-places e u in
      let m : meaning n.kind ≡ values.extraction = ap meaning (only is_extraction refl 14 tt (ap is_extraction e)) in
      let b₁ : leb n.b n.a ≡ true = T→true (leb n.b n.a) (le→leb n.b n.a p.0) in
      let b₂ : ltb n.a x.width ≡ true = T→true (ltb n.a x.width) (lt→ltb n.a x.width p.1) in
      to_vector extraction e refl r
      (λ vars ag. rw (from_vector vars ag n.c x o.0 u, m, b₁, b₂) (ap₂ values.vector (sym w) (sym q)))
      (w ∙ o.3)

  pub concat-lower : shape n ≡ concat
      → Under false n.a × Under false n.b × (0 < width_at ws n.a) × (0 < width_at ws n.b) × (width_at ws n.a + width_at ws n.b ≡ width_at ws i)
  unfolding wf_as width_as operands_as
  concat-lower e =
      let t = open-wf concat e in
      let t₁ = and-1 (un_wf (take i ws) n.a) _ t in
      let p = un-operand ws i k.exists n.a (and_0 (un_wf (take i ws) n.a) _ t) in
      let q = un-operand ws i k.exists n.b (and_0 (un_wf (take i ws) n.b) _ t₁) in
      let b = both-lower concat e refl p.0 q.0 in
      (b.0, b.1, p.1, q.1, sym (open-width concat e ∙ ap₂ (λ (x y : ℕ). x + y) (width-before ws i k.exists n.a p.0) (width-before ws i k.exists n.b q.0)))

  pub concat-joined : (e : shape n ≡ concat) {x y : ℕ} → Numbered n.a x → Numbered n.b y
      → One (width_at ws n.a) x × One (width_at ws n.b) y × (width_at ws n.a + width_at ws n.b ≤ 64)
  concat-joined e u v =
      let p = concat-lower e in
      let w : width_at ws n.a + width_at ws n.b ≤ 64 = rw p.4 k.narrow in
      (record { some = p.2; word = omega arith; below = u.below }, record { some = p.3; word = omega arith; below = v.below }, w)

  concat-width : (e : shape n ≡ concat) {x y : Vector} → Is n.a x → Is n.b y → x.width + y.width ≡ width_at ws i
  concat-width e u v = ap₂ (λ (a b : ℕ). a + b) u.width v.width ∙ (concat-lower e).4

  pub concat-room : (e : shape n ≡ concat) {x y : Vector} → Is n.a x → Is n.b y → x.width + y.width ≤ 64
  concat-room e u v = rw (concat-width e u v) k.narrow

  pub concat-arm : (e : shape n ≡ concat) {x y r : Vector} → Is n.a x → Is n.b y
      → r.width ≡ x.width + y.width → r.number ≡ smt.concat x.width y.width x.number y.number → Is i r
  unfolding value_as is_bool applied meanings shapes
  concat-arm e {x} {y} {r} u v w q =
      let p = concat-lower e in
      let m : meaning n.kind ≡ values.concatenation = ap meaning (only is_concat refl 15 tt (ap is_concat e)) in
      to_vector concat e refl r
      (λ vars ag. rw (from_vector vars ag n.a x p.0 u, from_vector vars ag n.b y p.1 v, m) (ap₂ values.vector (sym w) (sym q)))
      (w ∙ concat-width e u v)

  pub extension-lower : shape n ≡ extension → Under false n.a × (0 < width_at ws n.a) × (width_at ws n.a + n.b ≡ width_at ws i)
  unfolding wf_as width_as operands_as extend_wf
  extension-lower e =
      let t = open-wf extension e in
      let p = un-operand ws i k.exists n.a (and_0 (un_wf (take i ws) n.a) _ t) in (
        under (vector n.a) (and_0 (operand_ready ns below (vector n.a)) _ (open-operands extension e)) p.0,
        p.1,
        sym (open-width extension e ∙ ap (λ (x : ℕ). x + n.b) (width-before ws i k.exists n.a p.0)),
      )

  pub extension-longer : (e : shape n ≡ extension) {x : ℕ} → Numbered n.a x → One (width_at ws n.a) x × (width_at ws n.a + n.b ≤ 64)
  extension-longer e u =
      let p = extension-lower e in
      let w : width_at ws n.a + n.b ≤ 64 = rw p.2 k.narrow in
      (record { some = p.1; word = omega arith; below = u.below }, w)

  extension-width : (e : shape n ≡ extension) {x : Vector} → Is n.a x → x.width + n.b ≡ width_at ws i
  extension-width e u = ap (λ (a : ℕ). a + n.b) u.width ∙ (extension-lower e).2

  pub extension-room : (e : shape n ≡ extension) {x : Vector} → Is n.a x → x.width + n.b ≤ 64
  extension-room e u = rw (extension-width e u) k.narrow

  pub extension-arm : (e : shape n ≡ extension) (f : ℕ → ℕ → ℕ → ℕ) → meaning n.kind ≡ values.moved f values.longer → {x r : Vector} → Is n.a x
      → r.width ≡ x.width + n.b → r.number ≡ f n.b x.width x.number → Is i r
  unfolding value_as is_bool applied
  extension-arm e f m {x} {r} u w q =
      to_vector extension e refl r
      (λ vars ag. rw (from_vector vars ag n.a x (extension-lower e).0 u, m) (ap₂ values.vector (sym w) (sym q)))
      (w ∙ extension-width e u)

  -- ---------------------------------------------------------------- ite

  pub ite-lower : shape n ≡ ite
      → Under true n.a × Under false n.b × Under false n.c × (width_at ws n.b ≡ width_at ws i) × (width_at ws n.c ≡ width_at ws i)
  unfolding wf_as width_as operands_as
  ite-lower e =
      let t = open-wf ite e in
      let o = bin-operands ws i k.exists n.b n.c (and-1 (earlier_of (take i ws) 1 n.a) _ t) in
      let c = earlier-width ws i k.exists 1 n.a (and_0 (earlier_of (take i ws) 1 n.a) _ t) in
      let s = open-operands ite e in
      let s₁ = and-1 (operand_ready ns below (formula n.a)) _ s in
      let s₂ = and-1 (operand_ready ns below (vector n.b)) _ s₁ in
      let w : width_at ws n.b ≡ width_at ws i = sym (open-width ite e ∙ width-before ws i k.exists n.b o.0) in (
        under (formula n.a) (and_0 (operand_ready ns below (formula n.a)) _ s) c.0,
        under (vector n.b) (and_0 (operand_ready ns below (vector n.b)) _ s₁) o.0,
        under (vector n.c) (and_0 (operand_ready ns below (vector n.c)) _ s₂) o.1,
        w,
        sym o.3 ∙ w,
      )

  ite-kind : shape n ≡ ite → meaning n.kind ≡ values.choice
  unfolding meanings shapes
  ite-kind e = ap meaning (only is_ite refl 18 tt (ap is_ite e))

  pub ite-then : (e : shape n ≡ ite) {x r : Vector} → Is n.a x → x.number ≡ 1 → Is n.b r → Is i r
  unfolding value_as is_bool applied
  ite-then e {x} {r} u q v =
      let p = ite-lower e in
      let one : eqb x.number 1 ≡ true = rw q refl in
      to_vector ite e refl r
      (λ vars ag. rw (from-truth vars ag n.a x p.0 u, ite-kind e, one) (from_vector vars ag n.b r p.1 v)) (v.width ∙ p.3)

  pub ite-else : (e : shape n ≡ ite) {x r : Vector} → Is n.a x → (x.number ≡ 1 → ⊥) → Is n.c r → Is i r
  unfolding value_as is_bool applied
  ite-else e {x} {r} u q v =
      let p = ite-lower e in
      let zero : eqb x.number 1 ≡ false = not→false (eqb x.number 1) (lib.Dec.not_T (eqb x.number 1) (λ t. q (eqb→eq x.number 1 t))) in
      to_vector ite e refl r
      (λ vars ag. rw (from-truth vars ag n.a x p.0 u, ite-kind e, zero) (from_vector vars ag n.c r p.2 v)) (v.width ∙ p.4)

  -- ---------------------------------------------------------------- Bools

  pub negation-lower : shape n ≡ negation → Under true n.a × (width_at ws n.a ≡ 1)
  unfolding wf_as operands_as
  negation-lower e =
      let c = earlier-width ws i k.exists 1 n.a (open-wf negation e) in
      (under (formula n.a) (and_0 (operand_ready ns below (formula n.a)) _ (open-operands negation e)) c.0, c.1)

  -- a Bool's number is 0 or 1
  pub bit-of : (j x : ℕ) → width_at ws j ≡ 1 → Numbered j x → x < 2
  bit-of j x w u = rw w at u.below

  pub negation-arm : (e : shape n ≡ negation) {x r : Vector} → Is n.a x → r.width ≡ 1 → eqb r.number 1 ≡ not (eqb x.number 1) → Is i r
  unfolding value_as is_bool applied meanings shapes width_as
  negation-arm e {x} {r} u w q =
      let m : meaning n.kind ≡ values.negation = ap meaning (only is_negation refl 29 tt (ap is_negation e)) in
      to-truth negation e refl r
      (λ vars ag. rw (from-truth vars ag n.a x (negation-lower e).0 u, m) (ap truth (sym q))) (w ∙ sym (open-width negation e))

  pub connective-lower : shape n ≡ connective → Under true n.a × Under true n.b × (width_at ws n.a ≡ 1) × (width_at ws n.b ≡ 1)
  unfolding wf_as operands_as bool_bin_wf
  connective-lower e =
      let t = open-wf connective e in
      let c = earlier-width ws i k.exists 1 n.a (and_0 (earlier_of (take i ws) 1 n.a) _ t) in
      let d = earlier-width ws i k.exists 1 n.b (and-1 (earlier_of (take i ws) 1 n.a) _ t) in
      let s = open-operands connective e in
      let s₁ = and-1 (operand_ready ns below (formula n.a)) _ s in (
        under (formula n.a) (and_0 (operand_ready ns below (formula n.a)) _ s) c.0,
        under (formula n.b) (and_0 (operand_ready ns below (formula n.b)) _ s₁) d.0,
        c.1,
        d.1,
      )

  pub connective-arm : (e : shape n ≡ connective) (f : Bool → Bool → Bool) → meaning n.kind ≡ values.connective f → {x y r : Vector} → Is n.a x → Is n.b y
      → r.width ≡ 1 → eqb r.number 1 ≡ f (eqb x.number 1) (eqb y.number 1) → Is i r
  unfolding value_as is_bool applied width_as
  connective-arm e f m {x} {y} {r} u v w q =
      let p = connective-lower e in
      to-truth connective e refl r
      (λ vars ag. rw (from-truth vars ag n.a x p.0 u, from-truth vars ag n.b y p.1 v, m) (ap truth (sym q))) (w ∙ sym (open-width connective e))

  -- no other shape can be evaluated
  pub no-shape : (s : code.Shape) → shape n ≡ shape_in s → (s ≡ codes.Select) ⊎ ((s ≡ codes.Call) ⊎ (s ≡ codes.Unknown)) → ⊥
  unfolding own_as
  no-shape s e (inl q) = open_own select (e ∙ ap shape_in q)
  no-shape s e (inr (inl q)) = open_own call (e ∙ ap shape_in q)
  no-shape s e (inr (inr q)) = open_own unknown (e ∙ ap shape_in q)

pub falls-to : {j i t : ℕ} → j < i → i ≡ t → j < t
falls-to {j} l e = subst (λ (k : ℕ). j < k) e l
