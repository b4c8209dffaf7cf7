-- What is read at a line's place is told of the entry that the line declares.
use Rattle.std.specs.Prelude.{ℕ, suc, ◌+◌, ◌-◌, ◌≤◌, ◌<◌, ◌≡◌, List, [], ◌∷◌, ◌++◌, true, length, drop}
use Rattle.std.specs.Prelude.{Some, None}
use Rattle.std.proofs.Common.{ap, sym, ◌∙◌, subst, append_assoc, arith, length-append, length-drop, drop-drop}
use Rattle.std.proofs.Math.Option.{none, some}
use Rattle.std.proofs.Math.Seq.{drop-append_seam}
use Rattle.lists.specs.Tests.{same, same→eq, true→T}
use Rattle.reading.specs.Trees.{Name, Variable, Array, Function, Declarations}
use Rattle.readback.specs.Reader.{took}
use Rattle.rebuilt.specs.Built.{variable_at, array_at, function_at}
use Rattle.script_header.specs.declared.Header.{Header}
use Rattle.script_names.specs.declared.Table.{Table}
use Rattle.script_tokens.specs.Reached.{between}
use Rattle.script_names.specs.Entries.{after_bar, entry_from, name_here, name_at, Named, Tabled, Sought}
use Rattle.script_names.specs.Laws.{taken, between-length}
use Rattle.script_names.specs.declared.Measure.{Measure}
use Rattle.script_decls.specs.declared.Stage.{Stage}
use Rattle.script_decls.specs.declared.Stage.TheVariants.{Variables, Arrays, Functions}
use Rattle.script_decls.specs.Lines.{LineType, stage_number, tail_of, variable_tail, array_tail_of, function_tail}
use Rattle.script_decls.specs.Told.{Tells}
use Rattle.script_entries.specs.declared.Entry.{Entry}
use Rattle.script_entries.specs.declared.Entry.TheVariants.{Variable as VariableEntry, Array as ArrayEntry, Function as FunctionEntry}
use Rattle.script_header.specs.Header.{Within}
use Rattle.script_entries.specs.Entries.{first_of, variables_of, arrays_of, names_of, Measured, KnownTo, ArgumentsAt, Numbers, EntryIs, EntryOf}
use Rattle.script_entries.specs.Lined.{DeclaredLines, declared-lines}
use Rattle.script_entries.specs.Widths.{arguments-at}
use Rattle.script_entries.specs.Finding.{no-numbers, variable-numbers, array-numbers, function-numbers}

-- ---------------------------------------------------------------- the place after a name

module _ {s : List ℕ} {first : ℕ} {t : Table} {c : ℕ} (x : Tabled s first t c) (k p : ℕ) (low : k < c) (here : drop p s ≡ entry_from k (drop first s)) where
  -- a name that is found is as long as the one that was looked for
  pub found_after : (a f : ℕ) → Named s a f → p ≤ length s → same (between s a (f - 1)) (name_at (drop first s) k) ≡ true
      → (p + (f - a) ≤ length s) × (drop (p + (f - a)) s ≡ after_bar (entry_from k (drop first s)))
  found_after a f h m e =
      let b : List ℕ = entry_from k (drop first s) in
      let r : List ℕ = (x.closed k low).rest in
      let t = taken b (name_here b) r (x.closed k low).read in
      let n : length (name_here b) ≡ f - 1 - a = ap length (sym (same→eq (between s a (f - 1)) (name_here b) (true→T e))) ∙ between-length s a (f - 1) (omega (arith, h.low)) (omega (arith, h.high)) in
      let w : drop p s ≡ (name_here b ++ (124 ∷ [])) ++ r = here ∙ t.whole ∙ sym (append_assoc (name_here b) (124 ∷ []) r) in
      let l : length (name_here b ++ (124 ∷ [])) ≡ f - a = length-append (name_here b) (124 ∷ []) ∙ omega (arith, n, h.low) in
      let d : length (drop p s) ≡ length (name_here b ++ (124 ∷ [])) + length r = ap length w ∙ length-append (name_here b ++ (124 ∷ [])) r in (
        let v = length-drop p s in omega (arith, v, d, l, m),
        sym (drop-drop (f - a) p s) ∙ ap (drop (f - a)) w ∙ ap (λ (i : ℕ). drop i ((name_here b ++ (124 ∷ [])) ++ r)) (sym l) ∙ drop-append_seam (name_here b ++ (124 ∷ [])) r ∙ sym t.after,
      )

-- ---------------------------------------------------------------- the entry of a line

module _ {m : ℕ} {s : List ℕ} {t : Table} {h : Header} {D : Declarations} (κ : KnownTo m s t h D) where
  known-lines : DeclaredLines (drop (first_of h) s) D
  known-lines = declared-lines (suc (length s)) (drop (first_of h) s) D (drop κ.end s) (κ.read (suc (length s)) (omega arith))

  abbrev after : ℕ → List ℕ
  after k = after_bar (entry_from k (drop (first_of h) s))

  module _ (i e : ℕ) where
    pub variable-told : i < variables_of h → drop e s ≡ after i → {w : ℕ} → ((n : Name) (v : Variable) (z : List ℕ) → variable_tail n (drop e s) ≡ took v z → v.width ≡ w) → (variable_at D i).width ≡ w
    variable-told l here f =
        let (z, q) = known-lines.variable i (omega (arith, κ.variables)) in
        f (variable_at D i).name (variable_at D i) z (ap (variable_tail (variable_at D i).name) here ∙ q)

    pub array_told : variables_of h + i < arrays_of h → drop e s ≡ after (variables_of h + i) → {x v : ℕ}
        → ((n : Name) (a : Array) (z : List ℕ) → array_tail_of n (drop e s) ≡ took a z → (a.index ≡ x) × (a.value ≡ v)) → ((array_at D i).index ≡ x) × ((array_at D i).value ≡ v)
    array_told l here f =
        let (z, q) = known-lines.array i (omega (arith, κ.arrays)) in
        f (array_at D i).name (array_at D i) z (ap (array_tail_of (array_at D i).name) (here ∙ ap (λ (j : ℕ). after (j + i)) κ.variables) ∙ q)

    pub function-told : arrays_of h + i < names_of h → drop e s ≡ after (arrays_of h + i) → {p w : ℕ}
        → ((n : Name) (g : Function) (z : List ℕ) → function_tail n (drop e s) ≡ took g z → ArgumentsAt s p g.arguments × (g.width ≡ w)) → ArgumentsAt s p (function_at D i).arguments × ((function_at D i).width ≡ w)
    function-told l here f =
        let (z, q) = known-lines.function i (omega (arith, κ.functions)) in
        let y : arrays_of h ≡ length D.variables + length D.arrays = omega (arith, κ.variables, κ.arrays) in
        f (function_at D i).name (function_at D i) z (ap (function_tail (function_at D i).name) (here ∙ ap (λ (j : ℕ). after (j + i)) y) ∙ q)

  module _ (k e : ℕ) (here : drop e s ≡ after k) where
    variable-measured : k < variables_of h → {w y : ℕ} → ((n : Name) (v : Variable) (z : List ℕ) → variable_tail n (drop e s) ≡ took v z → v.width ≡ w) → Measured s h D k w y
    variable-measured l f = record {
      variable = λ m. variable-told k e l here f;
      array = λ o m. absurd (omega arith);
      function = λ o. absurd (omega (arith, κ.arrays));
    }

    array-measured : variables_of h ≤ k → k < arrays_of h → {x v : ℕ} → ((n : Name) (a : Array) (z : List ℕ) → array_tail_of n (drop e s) ≡ took a z → (a.index ≡ x) × (a.value ≡ v))
        → Measured s h D k x v
    array-measured o l f =
        let y : k ≡ variables_of h + (k - variables_of h) = omega arith in
        record {
          variable = λ m. absurd (omega arith);
          array = λ p m. array_told (k - variables_of h) e (omega arith) (here ∙ ap after y) f;
          function = λ p. absurd (omega arith);
        }

    function-measured : arrays_of h ≤ k → k < names_of h → {p w : ℕ} → ((n : Name) (g : Function) (z : List ℕ) → function_tail n (drop e s) ≡ took g z → ArgumentsAt s p g.arguments × (g.width ≡ w))
        → Measured s h D k p w
    function-measured o l f =
        let y : k ≡ arrays_of h + (k - arrays_of h) = omega arith in
        record {
          variable = λ m. absurd (omega (arith, κ.arrays));
          array = λ p m. absurd (omega arith);
          function = λ p. function-told (k - arrays_of h) e (omega arith) (here ∙ ap after y) f;
        }

    -- by the line's stage
    pub stage-measured : (S : Stage) → Within h k S → k < names_of h → {x : Measure}
        → ((n : Name) (v : LineType (stage_number S)) (z : List ℕ) → tail_of (stage_number S) n (drop e s) ≡ took v z → Tells (stage_number S) s x v) → Measured s h D k x.first x.second
    stage-measured Variables l i f = variable-measured l f
    stage-measured Arrays l i f = array-measured l.0 l.1 f
    stage-measured Functions l i f = function-measured l i (λ n g z r. (let w = f n g z r in (arguments-at w.0, w.1)))

  -- ---------------------------------------------------------------- the entry of a name

  -- no line has the name
  pub entry-none : (n : Name) → Sought s (first_of h) (names_of h) n None → EntryIs s D n None
  entry-none n x = no-numbers κ n x

  -- line k has it
  pub entry-is : (n : Name) (k : ℕ) → k < names_of h → same n (name_at (drop (first_of h) s) k) ≡ true → (r : Entry) → EntryOf s h D k r → EntryIs s D n (Some r)
  entry-is n k l e (VariableEntry i w) (m, q, u) = record {
    numbers = subst (λ (j : ℕ). Numbers D n (some j) none none) (sym q) (variable-numbers κ n k l e m);
    low = omega (arith, κ.variables);
    width = u;
  }
  entry-is n k l e (ArrayEntry i x) (o, m, q, u₁, u₂) = record {
    numbers = subst (λ (j : ℕ). Numbers D n none (some j) none) (sym q) (array-numbers κ n k l e o m);
    low = omega (arith, κ.arrays);
    index = u₁;
    value = u₂;
  }
  entry-is n k l e (FunctionEntry g x) (o, q, u₁, u₂) = record {
    numbers = subst (λ (j : ℕ). Numbers D n none none (some j)) (sym q) (function-numbers κ n k l e o);
    low = omega (arith, κ.functions);
    arguments = u₁;
    width = u₂;
  }
