-- A problem that the checks pass, on a trace whose values fit: every root can be evaluated on every row, and the mask is that of the
-- assertions of the problem's reading.
use Prim.Native.Nat.{ℕ, zero, suc, ◌+◌, ◌-◌, ◌*◌, ◌/◌, ◌%◌, ◌^◌, ◌≤◌, ◌<◌}
use Rattle.std.specs.Prelude.{◌≡◌, leb, ltb, eqb, drop, Option}
use Rattle.std.proofs.Math.Path.{refl, sym}
use Rattle.std.proofs.Common.{ap, ◌∙◌, lt_of_lt_of_le, le_of_eq, suc-mul, mul-le-mul_right, ltb→lt, pow_mono}
use mathlib.Core.List.{List, [], ◌∷◌, map}
use Rattle.std.proofs.Math.Bool.{true}
use Rattle.std.proofs.Math.Nat.{le_trans, mul-add-mod_self_right, mod-eq_of_lt, div-mul-le_self}
use native.Mathlib.Omega.{arith}
use Rattle.std.proofs.Math.Dec.{T, leb→le}
use Rattle.std.proofs.Math.ListN.{length, get_or, length-drop}
use Rattle.std.proofs.Math.Seq.{length-take-le, get_or-take, get_or-drop}
use Rattle.lists.specs.Tests.{every, distinct-left, and_0, and-1, or_elim, every-at}
use Rattle.lists.specs.Build.{tabulate, length-tabulate}
use Rattle.reading.specs.Trees.{Name}
use Rattle.echo_spec.specs.Refusals.{unless}
use Rattle.echo_spec.specs.Input.{Problem, array_widths, dag_of, query_of, name_table, nodes_of, node_encoded, encoded, within_limits, nodes_within, node_at}
use Rattle.echo_spec.specs.Widths.{widths_of}
use Rattle.echo_spec.specs.WidthLaws.{sized}
use Rattle.echo_spec.specs.Tables.{declarations_of}
use Rattle.echo_spec.specs.Trees.{reading_of}
use Rattle.echo_spec.specs.ColumnLaws.{Aligned, columns-aligned, names-counted}
use Rattle.echo_spec.proofs.NameLaws.{names-distinct}
use Rattle.echo_spec.specs.Walk.{formula, walk_all, walk, walk_roots, refusal_with}
use Rattle.echo_spec.specs.Answers.{reading, endless_with, endless_refusal}
use Rattle.echo_spec.specs.Accepted.{Accepted, or_else-passed, unless-passed}
use Rattle.echo_spec.proofs.Accepted.{accepted}
use Rattle.echo_tables.specs.Found.{Entries}
use Rattle.vectors.specs.Values.{mask}
use Rattle.traces.specs.Trace.{fits, whole_rows, values_fit, row_count, row_of, narrow, holding}
use Rattle.trace_tables.specs.Fixed.{Lent, Measured, measured-lent}
use Rattle.trace_rows.specs.Masks.{Roots, Masked}
use Rattle.trace_theorems.specs.Bridge.{Given, walked-ready}
use Rattle.trace_theorems.specs.OnTrees.{mask-of-trees, Named, name_of}

-- ---------------------------------------------------------------- a row that fits

-- the row has a value for each width, and each fits
pub record Fitting (ws row : List ℕ) : Type 0 where
  pub long : length row ≡ length ws
  pub below : (k : ℕ) → k < length row → get_or row k 0 < 2 ^ get_or ws k 0

fits_below : (w x : ℕ) → x < 2 ^ 64 → T (fits w x) → x < 2 ^ w
unfolding fits
fits_below w x h t =
    or_elim (leb 64 w) (ltb x (2 ^ w)) t (λ l. let k : 64 ≤ w = leb→le 64 w l in lt_of_lt_of_le h (pow_mono k)) (λ l. ltb→lt x (2 ^ w) l)

-- ---------------------------------------------------------------- names

-- a list is what its places have
tabulated : (ns : List Name) (g : ℕ → ℕ) → map name_of (tabulate (length ns) (λ k. record { name = get_or ns k []; width = g k })) ≡ ns
tabulated [] g = refl
tabulated (n ∷ ns) g = ap (λ (t : List Name). n ∷ t) (tabulated ns (λ k. g (suc k)))

-- ---------------------------------------------------------------- a problem

module _ (p : Problem) (z : endless_refusal p ≡ 0) where
  abbrev ws : List ℕ
  ws = widths_of (query_of p)

  parts : T (within_limits p) × T (encoded p.nodes p.bits) × (refusal_with (dag_of p) ws p.roots ≡ 0)
  unfolding endless_refusal endless_with dag_of
  parts =
      let a = or_else-passed (unless (within_limits p) 9) _ z in
      let b = or_else-passed (unless (encoded p.nodes p.bits) 8) _ a.1 in
      (unless-passed (within_limits p) 8 a.0, unless-passed (encoded p.nodes p.bits) 7 b.0, b.1)

  ok : Accepted (dag_of p) ws p.roots
  ok = accepted (dag_of p) ws p.roots parts.2

  pub bytes-few : length p.nodes ≤ 34816
  unfolding within_limits nodes_within
  bytes-few = leb→le (length p.nodes) 34816 (and_0 (leb (length p.nodes) 34816) _ (and_0 (nodes_within p.nodes p.bits p.side) _ parts.0))

  pub few : length (nodes_of p.nodes) ≤ 2048
  unfolding nodes_of
  few =
      let h = bytes-few in
      let m = length-tabulate (length p.nodes / 17) (node_at p.nodes) in
      omega arith

  pub widths-whole : length ws ≡ length (nodes_of p.nodes)
  unfolding dag_of
  widths-whole = ok.checked.widths

  aligned : Aligned (dag_of p)
  aligned = columns-aligned (dag_of p) ok.checked.columns

  bits-digits : (bs : List ℕ) → T (every (λ b. leb b 1) bs) → (k : ℕ) → get_or bs k 0 ≤ 1
  bits-digits [] t k = omega arith
  bits-digits (b ∷ bs) t zero = leb→le b 1 (and_0 (leb b 1) _ t)
  bits-digits (b ∷ bs) t (suc k) = bits-digits bs (and-1 (leb b 1) _ t) k

  pub measured : Measured p ws
  unfolding dag_of encoded
  measured = record {
    widths = widths-whole;
    sized = λ i h. sized (length p.bits) (array_widths p) p.side (nodes_of p.nodes) i h;
    digits = bits-digits p.bits (and-1 (every node_encoded (nodes_of p.nodes)) _ (and-1 (eqb (length p.nodes % 17) 0) _ parts.1));
  }

  pub lent : Lent p.nodes p.bits ws
  lent = measured-lent measured

  module _ (entry : List (Option ℕ)) (row : List ℕ) (en : Entries p.var_node entry) (fit : Fitting p.var_width row) where
    given : Given (dag_of p) ws entry row
    unfolding dag_of
    given = record {
      nbits = length p.bits;
      sized = λ i h. sized (length p.bits) (dag_of p).array-widths p.side (nodes_of p.nodes) i (let w = widths-whole in omega arith);
      entries = en;
      few = few;
      columns = aligned.var_node ∙ sym aligned.var_width ∙ sym fit.long;
      fits = fit.below;
    }

    named : Named (dag_of p) ws row
    unfolding dag_of
    named = record {
      apart = rw (tabulated (name_table (dag_of p)) (λ k. get_or p.var_width k 0)) (distinct-left (name_table (dag_of p)) _ (names-distinct (dag_of p) ok.checked.names));
      names = names-counted p.names p.name_start p.name_len ∙ sym aligned.var_width ∙ sym fit.long;
    }

    roots-each : (rs : List ℕ) → walk_all (walk (dag_of p) ws) (map formula rs) ≡ 0 → T (every (narrow (dag_of p) ws) rs) → (k : ℕ) → k < length rs
        → (walk (dag_of p) ws (get_or rs k 0) true ≡ 0) × T (narrow (dag_of p) ws (get_or rs k 0))
    unfolding walk_all
    roots-each [] e t k h = absurd (omega arith)
    roots-each (r ∷ rs) e t zero h = ((or_else-passed (walk (dag_of p) ws r true) _ e).0, and_0 (narrow (dag_of p) ws r) _ t)
    roots-each (r ∷ rs) e t (suc k) h =
        roots-each rs (or_else-passed (walk (dag_of p) ws r true) _ e).1 (and-1 (narrow (dag_of p) ws r) _ t) k (omega arith)

    -- every root can be evaluated on the row
    pub roots-ready : length p.roots ≤ 64 → T (every (narrow (dag_of p) ws) p.roots) → Roots p.nodes ws p.var_width entry row p.roots
    unfolding dag_of walk_roots
    roots-ready l t = record {
      few = l;
      at = λ k h.
          let e = roots-each p.roots ok.walked t k h in
          let r = walked-ready (dag_of p) ws entry row given (get_or p.roots k 0) true e.0 e.1 in
          record { good = r.0; sort = r.1 };
    }

    -- the mask that was worked out is that of the reading's assertions
    pub mask-answers : {x : ℕ} → Masked p.nodes p.bits ws p.var_width entry row p.roots x → x ≡ mask (holding (reading p) row)
    unfolding dag_of holding reading_of declarations_of
    mask-answers m = mask-of-trees (dag_of p) ws entry row given named refl m

-- ---------------------------------------------------------------- the rows of a trace

module _ (ws values : List ℕ) where
  -- the rows lie inside the values
  pub rows_inside : row_count (length ws) (length values) * length ws ≤ length values
  unfolding row_count
  rows_inside = by_width (length ws)
    where
      by_width : (v : ℕ) → row_count v (length values) * v ≤ length values
      by_width zero = omega arith
      by_width (suc v) = div-mul-le_self (length values) (suc v)

  pub row_fits : ((k : ℕ) → get_or values k 0 < 2 ^ 64) → T (values_fit ws values) → (j : ℕ) → j < row_count (length ws) (length values) → Fitting ws (row_of (length ws) values j)
  unfolding values_fit
  row_fits small t j h =
      let v : ℕ = length ws in
      let n : ℕ = row_count v (length values) in
      let past : j * v + v ≤ n * v = le_trans (le_of_eq (sym (suc-mul j v))) (mul-le-mul_right v h) in
      let inside : j * v + v ≤ length values = le_trans past rows_inside in
      let dropped : length (drop (j * v) values) ≡ length values - j * v = length-drop (j * v) values in
      let long : length (row_of v values j) ≡ v = length-take-le v (drop (j * v) values) (omega arith) in
      record {
        long = long;
        below = λ k l.
            let k< : k < v = rw long at l in
            let e : get_or (row_of v values j) k 0 ≡ get_or values (j * v + k) 0 = get_or-take v (drop (j * v) values) k 0 k< ∙ get_or-drop (j * v) values k 0 in
            let c : (j * v + k) % v ≡ k = mul-add-mod_self_right j v k ∙ mod-eq_of_lt k< in
            let f : T (fits (get_or ws ((j * v + k) % v) 0) (get_or values (j * v + k) 0)) =
            every-at (λ i. fits (get_or ws (i % v) 0) (get_or values i 0)) 0 (length values) (and-1 (whole_rows v (length values)) _ t) (j * v + k) (omega arith) (omega arith) in
            rw e (fits_below (get_or ws k 0) (get_or values (j * v + k) 0) (small (j * v + k)) (rw c at f));
      }
