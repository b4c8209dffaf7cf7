-- What each check refuses with, and what the rows ask and give. Assumes nothing.
use Prim.Native.Nat.{ℕ, zero, suc, ◌+◌, ◌-◌, ◌≤◌, ◌<◌}
use mathlib.Core.Path.{◌≡◌, refl, sym, ap, ◌∙◌, subst}
use mathlib.Core.List.{List, ◌++◌}
use mathlib.Core.Bool.{Bool, true, false, ◌&&◌}
use native.Mathlib.Omega.{arith}
use borrow.Author.Tests.{ltb-true, ltb-false, le-leb, lt-leb}
use lib.Count.{ones}
use lib.Dec.{T, ltb, leb, leb→le}
use lib.ListN.{length, get_or, take, drop, length-append, length-drop, get_or-append}
use Rattle.std.specs.Prelude.{replicate}
use Rattle.lent.specs.Clearing.{left}
use lib.Seq.{ext_get_or, get_or-append-add, get_or-drop}
use Rattle.lists.specs.Tests.{every, and_0, and-1}
use Rattle.lists.specs.Build.{tabulate, length-tabulate, get_or-tabulate}
use Rattle.echo_spec.specs.Refusals.{unless, ◌or_else◌}
use Rattle.echo_spec.specs.Input.{Problem, array_widths, nodes_of, dag_of}
use Rattle.echo_spec.specs.Answers.{endless_refusal, at_front, zeroed}
use Rattle.echo_spec.specs.Accepted.{unless-passed, or_else-passed}
use Rattle.refusals.specs.declared.EchoError.{EchoError}
use Rattle.refusals.specs.Numbers.{error_number, error-number}
use Rattle.std.specs.Prelude.{Option, Result, Ok, Err}
use Rattle.std.proofs.Common.{◌⊎◌, inl, inr}
use Rattle.sliver_kernel.specs.Pass as pass
use Rattle.echo_tables.specs.Found.{Entries}
use Rattle.vectors.specs.Values.{mask, count}
use Rattle.traces.specs.Trace.{mask_limit, narrow, narrow_roots, values_fit, rows_of, row_of, holding_in, trace_refusal, TraceAnswer, trace_answer, replay_trace_answer}
use Rattle.trace_narrow.specs.Marks as marks
use Rattle.trace_tables.specs.Fixed.{Measured}
use Rattle.trace_rows.specs.Masks.{Roots, Masked, ones-mask}
use Rattle.trace_rows.specs.Rows.{Trace, Done}
use Rattle.trace_theorems.specs.Accepting.{few, Fitting, measured, roots-ready, mask-answers, rows_inside, row_fits}
use Rattle.replay_trace.specs.Errors.{trace_number}
use Rattle.replay_trace.specs.Traced.{answered, Ran, first_refusal, later_refusal, Widths, Full, Traceable, Written}
use Rattle.replay_trace.specs.declared.TraceError.{TraceError}
use Rattle.replay_trace.specs.declared.TraceError.TheVariants as error

-- ---------------------------------------------------------------- the checks

pub many-roots : (p : Problem) → 64 < length p.roots → 9 ≡ first_refusal p
unfolding first_refusal
many-roots p h = rw (lt-leb (length p.roots) 64 h) refl

pub then-printing : (p : Problem) {x : ℕ} → length p.roots ≤ 64 → endless_refusal p ≡ x → x ≡ first_refusal p
unfolding first_refusal
then-printing p h e = rw (le-leb (length p.roots) 64 h) (sym e)

module _ (p : Problem) (values : List ℕ) (n m c : ℕ) where
  pub too_wide : {r : Bool} → r ≡ narrow_roots p → r ≡ false → 14 ≡ later_refusal p values n m c
  unfolding later_refusal
  too_wide q e = rw (sym q ∙ e) refl

  module _ {r : Bool} (q : r ≡ narrow_roots p) (e : r ≡ true) {s : Bool} (q' : s ≡ values_fit p.var_width values) where
    pub no-values : s ≡ false → 15 ≡ later_refusal p values n m c
    unfolding later_refusal
    no-values f = rw (sym q ∙ e, sym q' ∙ f) refl

    module _ (f : s ≡ true) where
      pub no-room : (m < n) ⊎ ((n ≤ m) × (c < n)) → 10 ≡ later_refusal p values n m c
      unfolding later_refusal
      no-room (inl h) = rw (sym q ∙ e, sym q' ∙ f, lt-leb n m h) refl
      no-room (inr h) = rw (sym q ∙ e, sym q' ∙ f, le-leb n m h.0, lt-leb n c h.1) refl

      pub all_pass : n ≤ m → n ≤ c → 0 ≡ later_refusal p values n m c
      unfolding later_refusal
      all_pass h k = rw (sym q ∙ e, sym q' ∙ f, le-leb n m h, le-leb n c k) refl

-- 14's test over the widths as they were handed over
pub narrow-is : (p : Problem) {ws : List ℕ} {r : Bool} → Widths p ws → marks.RootsNarrow p.nodes ws p.roots r → r ≡ narrow_roots p
unfolding narrow_roots dag_of
narrow-is p w k = k.is (dag_of p) refl ∙ ap (λ (x : List ℕ). every (narrow (dag_of p) x) p.roots) w.are

printed-first : (p : Problem) → 0 ≡ first_refusal p → (length p.roots ≤ 64) × (endless_refusal p ≡ 0)
unfolding first_refusal
printed-first p e =
    let a = or_else-passed (unless (leb (length p.roots) 64) 9) (endless_refusal p) (sym e) in
    (leb→le (length p.roots) 64 (unless-passed (leb (length p.roots) 64) 8 a.0), a.1)

pub few_nodes : (p : Problem) → 0 ≡ first_refusal p → length (nodes_of p.nodes) ≤ 2048
few_nodes p e = few p (printed-first p e).1

-- ---------------------------------------------------------------- the two parts together

or_else-assoc : (a b n : ℕ) → ((a or_else b) or_else n) ≡ (a or_else (b or_else n))
or_else-assoc zero b n = refl
or_else-assoc (suc a) b n = refl

stops : (x y : ℕ) → 0 < x → (x or_else y) ≡ x
stops zero y h = absurd (omega arith)
stops (suc x) y h = refl

module _ (p : Problem) (values : List ℕ) (m c : ℕ) where
  split : trace_refusal p values m c ≡ (first_refusal p or_else later_refusal p values (rows_of p values) m c)
  unfolding trace_refusal first_refusal later_refusal
  split = sym (or_else-assoc (unless (leb (length p.roots) mask_limit) 9) (endless_refusal p) _)

  pub by_first : (e : EchoError) → error_number e ≡ first_refusal p → trace_refusal p values m c ≡ error_number e
  by_first e f =
      let q = error-number e in
      split ∙ ap (λ (z : ℕ). z or_else later_refusal p values (rows_of p values) m c) (sym f) ∙ stops (error_number e) _ (omega (arith, q))

  pub by-later : {n x : ℕ} → 0 ≡ first_refusal p → n ≡ rows_of p values → x ≡ later_refusal p values n m c → trace_refusal p values m c ≡ x
  by-later f r e =
      split ∙ ap (λ (y : ℕ). y or_else later_refusal p values (rows_of p values) m c) (sym f) ∙ ap (λ (k : ℕ). later_refusal p values k m c) (sym r) ∙ sym e

-- ---------------------------------------------------------------- the ways out

above : (e : TraceError) → 0 < trace_number e
above (error.Refused e) = let q = error-number e in omega (arith, q)
above error.Wide = omega arith
above error.Values = omega arith

module _ (p : Problem) (values masks counts : List ℕ) {masks' counts' : List ℕ} where
  pub refuses : (e : TraceError) → trace_refusal p values (length masks) (length counts) ≡ trace_number e → masks' ≡ zeroed masks → counts' ≡ zeroed counts
      → answered (Err e) masks' counts' ≡ replay_trace_answer p values masks counts
  unfolding replay_trace_answer trace_answer
  refuses e q a b =
      (λ i. record { number = trace_number e; rows = 0; masks = a i; counts = b i })
      ∙ none (trace_number e) (above e) ∙ ap (λ (y : ℕ). trace_answer y p values masks counts) (sym q)
    where
      none : (x : ℕ) → 0 < x → ◌≡◌ {A = TraceAnswer} (record { number = x; rows = 0; masks = zeroed masks; counts = zeroed counts }) (trace_answer x p values masks counts)
      none zero h = absurd (omega arith)
      none (suc x) h = refl

  pub accepts : {n : ℕ} → Ran p values masks counts (Ok n) masks' counts' → answered (Ok n) masks' counts' ≡ replay_trace_answer p values masks counts
  unfolding replay_trace_answer trace_answer
  accepts {n} (e, r, w) =
      (λ i. record { number = 0; rows = n; masks = w.masks_are i; counts = w.counts-are i })
      ∙ (λ i. record {
        number = 0;
        rows = r i;
        masks = at_front (tabulate (r i) (λ j. mask (holding_in p values j))) masks;
        counts = at_front (tabulate (r i) (λ j. count (holding_in p values j))) counts;
      })
      ∙ ap (λ (y : ℕ). trace_answer y p values masks counts) (sym e)

-- a refusal clears both outputs
pub settled : (p : Problem) (values masks counts masks' counts' : List ℕ) (r : Result ℕ TraceError) → Ran p values masks counts r masks' counts'
    → length masks' ≡ length masks → length counts' ≡ length counts → answered r (left 0 r masks') (left 0 r counts') ≡ replay_trace_answer p values masks counts
settled p values masks counts masks' counts' (Ok n) h a b = accepts p values masks counts h
settled p values masks counts masks' counts' (Err e) h a b = refuses p values masks counts e h (ap (λ (n : ℕ). replicate n 0) a) (ap (λ (n : ℕ). replicate n 0) b)

pub ran-refused : (p : Problem) (values masks counts masks' counts' : List ℕ) {r : Result ℕ TraceError} {e : TraceError} → r ≡ Err e
    → trace_refusal p values (length masks) (length counts) ≡ trace_number e → Ran p values masks counts r masks' counts'
ran-refused p values masks counts masks' counts' q t = rw q t

pub passes : (p : Problem) (values : List ℕ) {n m c : ℕ} → 0 ≡ first_refusal p → Full values → n ≡ rows_of p values → 0 ≡ later_refusal p values n m c
    → Traceable p values n m c
unfolding later_refusal
passes p values {n} {m} {c} f w r e =
    let a = or_else-passed (unless (narrow_roots p) 14) _ (sym e) in
    let b = or_else-passed (unless (values_fit p.var_width values) 15) _ a.1 in
    let room : T (leb n m && leb n c) = unless-passed (leb n m && leb n c) 9 b.1 in
    record {
      words = record { roots = (printed-first p f).0; words = w };
      narrow = unless-passed (narrow_roots p) 13 a.0;
      fit = unless-passed (values_fit p.var_width values) 14 b.0;
      rows = r;
      masks_room = leb→le n m (and_0 (leb n m) _ room);
      counts_room = leb→le n c (and-1 (leb n m) _ room);
    }

-- the widths that were filled in
pub widths-are : (p : Problem) {n : ℕ} {table : List ℕ} → 0 ≡ first_refusal p → pass.Passed (length p.bits) (array_widths p) p.side (nodes_of p.nodes) n table
    → Widths p (take n table)
unfolding dag_of
widths-are p f k = record { passed = (printed-first p f).1; are = k.table }

pub measured-at : (p : Problem) {ws : List ℕ} → Widths p ws → Measured p ws
measured-at p w = subst (λ (x : List ℕ). Measured p x) (sym w.are) (measured p w.passed)

-- ---------------------------------------------------------------- the rows

-- an output whose first n places have a list's elements, and whose others are as they were
front-is : (f : ℕ → ℕ) (n : ℕ) (old new : List ℕ) → length new ≡ length old → n ≤ length old → ((j : ℕ) → j < n → get_or new j 0 ≡ f j)
    → ((j : ℕ) → n ≤ j → get_or new j 0 ≡ get_or old j 0) → new ≡ at_front (tabulate n f) old
front-is f n old new l h e r =
    let t : List ℕ = tabulate n f in
    let tl : length t ≡ n = length-tabulate n f in
    let al : length (t ++ drop (length t) old) ≡ length t + length (drop (length t) old) = length-append t (drop (length t) old) in
    let dl : length (drop (length t) old) ≡ length old - length t = length-drop (length t) old in
    ext_get_or 0 new (at_front t old) (omega arith) (λ j m. by_place j (ltb j n) refl)
  where
    by_place : (j : ℕ) (b : Bool) → ltb j n ≡ b → get_or new j 0 ≡ get_or (at_front (tabulate n f) old) j 0
    by_place j true q =
        let k : j < n = ltb-true j n q in
        let tl : length (tabulate n f) ≡ n = length-tabulate n f in
        e j k ∙ sym (get_or-append (tabulate n f) (drop (length (tabulate n f)) old) 0 j (omega arith) ∙ get_or-tabulate n f 0 j k)
    by_place j false q =
        let k : n ≤ j = ltb-false j n q in
        let tl : length (tabulate n f) ≡ n = length-tabulate n f in
        let s : length (tabulate n f) + (j - n) ≡ j = omega arith in
        r j k
        ∙ sym (ap (λ (i : ℕ). get_or (at_front (tabulate n f) old) i 0) (sym s)
        ∙ get_or-append-add (tabulate n f) (drop (length (tabulate n f)) old) (j - n) 0 ∙ get_or-drop (length (tabulate n f)) old (j - n) 0
        ∙ ap (λ (i : ℕ). get_or old i 0) s)

module _ (p : Problem) {ws : List ℕ} (w : Widths p ws) {es : List (Option ℕ)} (en : Entries p.var_node es) where
  module _ (values : List ℕ) (n : ℕ) {m c : ℕ} (k : Traceable p values n m c) where
    fitting : (j : ℕ) → j < n → Fitting p.var_width (row_of (length p.var_width) values j)
    fitting j h = row_fits p.var_width values k.words.words.at k.fit j (rw k.rows at h)

    pub trace : Trace p.nodes ws p.var_width es values p.roots n
    unfolding narrow_roots
    trace = record {
      inside = rw k.rows (rows_inside p.var_width values);
      at = λ j h.
          subst (λ (x : List ℕ). Roots p.nodes x p.var_width es (row_of (length p.var_width) values j) p.roots) (sym w.are)
          (roots-ready p w.passed es (row_of (length p.var_width) values j) en (fitting j h) k.words.roots k.narrow);
    }

    mask_is : (j : ℕ) → j < n → {x : ℕ} → Masked p.nodes p.bits ws p.var_width es (row_of (length p.var_width) values j) p.roots x → x ≡ mask (holding_in p values j)
    mask_is j h {x} d =
        mask-answers p w.passed es (row_of (length p.var_width) values j) en (fitting j h)
        (subst (λ (y : List ℕ). Masked p.nodes p.bits y p.var_width es (row_of (length p.var_width) values j) p.roots x) w.are d)

    pub written : {masks counts masks' counts' : List ℕ} → n ≤ length masks → n ≤ length counts
        → Done p.nodes p.bits ws p.var_width es values p.roots masks counts n masks' counts' → Written p values n masks counts masks' counts'
    written {masks} {counts} {masks'} {counts'} hm hc d = record {
      masks_are = front-is (λ j. mask (holding_in p values j)) n masks masks' d.masks_length hm (λ j h. mask_is j h (d.masked j h)) d.masks_rest;
      counts-are =
          front-is (λ j. count (holding_in p values j)) n counts counts' d.counts_length hc
          (λ j h. d.counted j h ∙ ap ones (mask_is j h (d.masked j h)) ∙ ones-mask (holding_in p values j)) d.counts_rest;
    }
