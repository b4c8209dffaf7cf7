-- Replay of a probe trace: what is promised of `replay_trace`. Its definitions are those of crate `traces`, the values of
-- trees are the standard's side, in `vectors`.
use Rattle.std.specs.Prelude.{ℕ, zero, suc, ◌+◌, ◌*◌, ◌/◌, ◌%◌, ◌^◌, ◌≤◌, ◌<◌, ◌≡◌, List, [], ◌∷◌, Bool, true, false, ◌&&◌, cond, ◌↔◌, get_or, drop, Result}
use Rattle.std.proofs.Math.Path.{refl, sym, ap, subst}
use Rattle.std.proofs.Common.{◌∙◌, arith, le→leb}
use Rattle.std.proofs.Math.Dec.{T, leb, leb→le}
use Rattle.std.proofs.Math.ListN.{length, get_or-append}
use Rattle.std.proofs.Math.Nat.{zero-div}
use Rattle.lists.specs.Tests.{among, among-every, every, and_0, and-1, T→true, every-place, places-every}
use Rattle.lists.specs.Build.{tabulate, length-tabulate, get_or-tabulate}
use Rattle.reading.specs.Trees.{Name, Tree, Reading}
use Rattle.smtlib.specs.Readings.{operators, listed, Reads}
use Rattle.smtlib.specs.Sorts.{WellSorted}
use Rattle.vectors.specs.Vectors.{bit}
use Rattle.vectors.specs.BitLaws.{bit-zero, bit-suc}
use Rattle.vectors.specs.Values.{Value, mask, count, meaning, environment}
use Rattle.meanings.specs.Symbols.{symbol_meaning}
use Rattle.meanings.proofs.Symbols.{kind-means}
use Rattle.echo_spec.specs.Refusals.{unless}
use Rattle.echo_spec.specs.Input.{Problem, dag_of, query_of}
use Rattle.echo_spec.specs.Widths.{widths_of}
use Rattle.echo_spec.specs.Trees.{trees_over, tree_of, reading_of}
use Rattle.echo_spec.specs.Answers.{reading, endless_refusal, at_front, zeroed}
use Rattle.echo_spec.specs.Accepted.{unless-passed, or_else-passed, in-unless, in-or_else, endless_number}
use Rattle.echo_spec.proofs.Accepted.{endless-number}
use Rattle.traces.specs.Trace.{narrow_roots, values_fit, trace_refusal, rows_of, row_of, holding_all, holding, holding_in, TraceAnswer, trace_answer, replay_trace_answer}
use Rattle.replay_trace.specs.declared.TraceError.{TraceError}
use Rattle.replay_trace.specs.Traced.{answered}
use Rattle.replay_trace.proofs.replay_trace.Reads as replay-trace-code
use Rattle.lent.specs.Lent.{problem_at}
use Rattle.theorems.specs.Scripts.{script_of}
use Rattle.theorems.specs.Answered.{printed, endless-whole, script-sorted, script-reads-only}

-- What printing does not refuse is well sorted: at the place of 14 the words 'not well sorted' never apply, whatever is answered.
pub passed-sorted : (p : Problem) → endless_refusal p ≡ 0 → WellSorted (script_of (reading p))
passed-sorted p e = script-sorted p ((endless-whole p).0 e)

-- The replay accepts the problem with these values and these lent outputs.
abbrev pub Replays : Problem → List ℕ → List ℕ → List ℕ → Type 0
Replays p values masks counts = (replay_trace_answer p values masks counts).number ≡ 0

-- ---------------------------------------------------------------- every answer

number_is : (n : ℕ) (p : Problem) (values masks counts : List ℕ) → (trace_answer n p values masks counts).number ≡ n
unfolding trace_answer
number_is zero p values masks counts = refl
number_is (suc n) p values masks counts = refl

module _ (p : Problem) (values masks counts : List ℕ) where
  by_number : {n : ℕ} → (replay_trace_answer p values masks counts).number ≡ n → replay_trace_answer p values masks counts ≡ trace_answer n p values masks counts
  unfolding replay_trace_answer
  by_number e = ap (λ (n : ℕ). trace_answer n p values masks counts) (sym (number_is (trace_refusal p values (length masks) (length counts)) p values masks counts) ∙ e)

  -- An answer is an acceptance, a refusal of the printer, 14 or 15; 10 is about the two outputs.
  pub trace-listed : T (among (0 ∷ 1 ∷ 2 ∷ 3 ∷ 4 ∷ 5 ∷ 6 ∷ 7 ∷ 8 ∷ 9 ∷ 10 ∷ 12 ∷ 14 ∷ 15 ∷ []) (replay_trace_answer p values masks counts).number)
  unfolding replay_trace_answer trace_refusal endless_number
  trace-listed =
      let q : (ℕ → Bool) = among (0 ∷ 1 ∷ 2 ∷ 3 ∷ 4 ∷ 5 ∷ 6 ∷ 7 ∷ 8 ∷ 9 ∷ 10 ∷ 12 ∷ 14 ∷ 15 ∷ []) in
      subst (λ (n : ℕ). T (q n)) (sym (number_is (trace_refusal p values (length masks) (length counts)) p values masks counts))
      (in-or_else q (unless (leb (length p.roots) 64) 9) _ (in-unless q (leb (length p.roots) 64) 9 tt tt)
      (in-or_else q (endless_refusal p) _ (among-every q (0 ∷ 1 ∷ 2 ∷ 3 ∷ 4 ∷ 5 ∷ 6 ∷ 7 ∷ 8 ∷ 9 ∷ 12 ∷ []) tt (endless_refusal p) (endless-number p))
      (in-or_else q (unless (narrow_roots p) 14) _ (in-unless q (narrow_roots p) 14 tt tt)
      (in-or_else q (unless (values_fit p.var_width values) 15) _ (in-unless q (values_fit p.var_width values) 15 tt tt)
      (in-unless q (leb (rows_of p values) (length masks) && leb (rows_of p values) (length counts)) 10 tt tt)))))

  -- It accepts exactly where there are at most 64 roots, printing refuses nothing but for room, every root passes 14, the values pass 15, and
  -- both outputs have room for the rows.
  pub trace-accepts-exactly : Replays p values masks counts
      ↔ ((length p.roots ≤ 64) × (endless_refusal p ≡ 0) × T (narrow_roots p) × T (values_fit p.var_width values)
      × (rows_of p values ≤ length masks) × (rows_of p values ≤ length counts))
  unfolding replay_trace_answer trace_refusal
  trace-accepts-exactly = (
    λ e.
        let z : trace_refusal p values (length masks) (length counts) ≡ 0 = sym (number_is (trace_refusal p values (length masks) (length counts)) p values masks counts) ∙ e in
        let e₀ = or_else-passed (unless (leb (length p.roots) 64) 9) _ z in
        let e₁ = or_else-passed (endless_refusal p) _ e₀.1 in
        let e₂ = or_else-passed (unless (narrow_roots p) 14) _ e₁.1 in
        let e₃ = or_else-passed (unless (values_fit p.var_width values) 15) _ e₂.1 in
        let r = unless-passed (leb (rows_of p values) (length masks) && leb (rows_of p values) (length counts)) 9 e₃.1 in (
          leb→le (length p.roots) 64 (unless-passed (leb (length p.roots) 64) 8 e₀.0),
          e₁.0,
          unless-passed (narrow_roots p) 13 e₂.0,
          unless-passed (values_fit p.var_width values) 14 e₃.0,
          leb→le (rows_of p values) (length masks) (and_0 (leb (rows_of p values) (length masks)) _ r),
          leb→le (rows_of p values) (length counts) (and-1 (leb (rows_of p values) (length masks)) _ r),
        ),
    λ h.
        let z : trace_refusal p values (length masks) (length counts) ≡ 0 =
        rw (
          T→true (leb (length p.roots) 64) (le→leb (length p.roots) 64 h.0),
          h.1,
          T→true (narrow_roots p) h.2,
          T→true (values_fit p.var_width values) h.3,
          T→true (leb (rows_of p values) (length masks)) (le→leb (rows_of p values) (length masks) h.4),
          T→true (leb (rows_of p values) (length counts)) (le→leb (rows_of p values) (length counts) h.5),
        ) refl in
        number_is (trace_refusal p values (length masks) (length counts)) p values masks counts ∙ z,
  )

  -- A refusal has 0 rows, and both outputs are zeroed whole.
  pub trace-refusal-zeroes : (n : ℕ) → (replay_trace_answer p values masks counts).number ≡ suc n
      → replay_trace_answer p values masks counts ≡ record { number = suc n; rows = 0; masks = zeroed masks; counts = zeroed counts }
  unfolding trace_answer
  trace-refusal-zeroes n e = by_number e

  -- An acceptance has a mask and a count for each row at the front of the outputs, and the rest of both is as it was.
  pub trace-acceptance : Replays p values masks counts
      → replay_trace_answer p values masks counts ≡ record {
        number = 0;
        rows = rows_of p values;
        masks = at_front (tabulate (rows_of p values) (λ j. mask (holding_in p values j))) masks;
        counts = at_front (tabulate (rows_of p values) (λ j. count (holding_in p values j))) counts;
      }
  unfolding trace_answer
  trace-acceptance e = by_number e

  -- What is replayed passes every check of printing but the one for room.
  pub replayed-passes : Replays p values masks counts → endless_refusal p ≡ 0
  replayed-passes e = (trace-accepts-exactly.0 e).1

  -- So its script is well sorted.
  pub replayed-sorted : Replays p values masks counts → WellSorted (script_of (reading p))
  replayed-sorted e = passed-sorted p (replayed-passes e)

-- ---------------------------------------------------------------- masks and counts

-- bit k of a mask is that of assertion k; there is none past the last
mask-bit : (bs : List Bool) (k : ℕ) → bit (mask bs) k ≡ cond (get_or bs k false) 1 0
unfolding mask bit
mask-bit [] k = ap (λ (x : ℕ). x % 2) (zero-div (2 ^ k))
mask-bit (b ∷ bs) zero = bit-zero (cond b 1 0 + 2 * mask bs) ∙ odd b
  where
    odd : (b : Bool) → (cond b 1 0 + 2 * mask bs) % 2 ≡ cond b 1 0
    odd true = omega arith
    odd false = omega arith
mask-bit (b ∷ bs) (suc k) = bit-suc (cond b 1 0 + 2 * mask bs) k ∙ ap (λ (x : ℕ). bit x k) (half b) ∙ mask-bit bs k
  where
    half : (b : Bool) → (cond b 1 0 + 2 * mask bs) / 2 ≡ mask bs
    half true = omega arith
    half false = omega arith

one-exactly : (b : Bool) → (◌≡◌ {A = ℕ} (cond b 1 0) 1) ↔ T b
one-exactly true = (λ e. tt, λ t. refl)
one-exactly false = (λ e. absurd (let z : ◌≡◌ {A = ℕ} 0 1 = e in omega arith), λ t. absurd t)

count_most : (bs : List Bool) → count bs ≤ length bs
unfolding count
count_most [] = omega arith
count_most (true ∷ bs) = let h = count_most bs in omega arith
count_most (false ∷ bs) = let h = count_most bs in omega arith

all-counted : (bs : List Bool) → (count bs ≡ length bs) ↔ T (every (λ b. b) bs)
unfolding count
all-counted [] = (λ e. tt, λ t. refl)
all-counted (true ∷ bs) =
    let i = all-counted bs in
    (λ e. i.0 (let f : count bs ≡ length bs = omega arith in f), λ t. let f : count bs ≡ length bs = i.1 t in omega arith)
all-counted (false ∷ bs) = (λ e. absurd (let h = count_most bs in omega arith), λ t. absurd t)

front_at : (n : ℕ) (f : ℕ → ℕ) (lent : List ℕ) (j : ℕ) → j < n → get_or (at_front (tabulate n f) lent) j 0 ≡ f j
front_at n f lent j h =
    let l : length (tabulate n f) ≡ n = length-tabulate n f in
    get_or-append (tabulate n f) (drop (length (tabulate n f)) lent) 0 j (omega arith) ∙ get_or-tabulate n f 0 j h

-- a truth for each root
truths-many : (env : Name → Value) (f : ℕ → Tree) (is : List ℕ) → length (holding_all env (trees_over f is)) ≡ length is
unfolding holding_all trees_over
truths-many env f [] = refl
truths-many env f (i ∷ is) = ap suc (truths-many env f is)

module _ (p : Problem) (values masks counts : List ℕ) (a : Replays p values masks counts) (r : Reading) (reads : Reads (printed p) r) (j : ℕ) (h : j < rows_of p values) where
  abbrev row : List ℕ
  row = row_of (length p.var_width) values j

  the-reading : holding_in p values j ≡ holding r row
  the-reading = ap (λ (x : Reading). holding x row) (sym (script-reads-only p ((endless-whole p).0 (replayed-passes p values masks counts a)) r reads))

  mask_at : get_or (replay_trace_answer p values masks counts).masks j 0 ≡ mask (holding r row)
  mask_at =
      ap (λ (x : TraceAnswer). get_or x.masks j 0) (trace-acceptance p values masks counts a)
      ∙ front_at (rows_of p values) (λ i. mask (holding_in p values i)) masks j h ∙ ap mask the-reading

  -- THE CLAIM: bit k of row j's mask is 1 exactly when assertion k of the script's one reading is true under the row's values. (Past the last
  -- assertion there is none, and the bit is 0.)
  pub trace-bit : (k : ℕ) → (bit (get_or (replay_trace_answer p values masks counts).masks j 0) k ≡ 1) ↔ T (get_or (holding r row) k false)
  trace-bit k = rw (mask_at, mask-bit (holding r row) k) (one-exactly (get_or (holding r row) k false))

  -- The count beside it is how many assertions are true.
  pub trace-count : get_or (replay_trace_answer p values masks counts).counts j 0 ≡ count (holding r row)
  trace-count =
      ap (λ (x : TraceAnswer). get_or x.counts j 0) (trace-acceptance p values masks counts a)
      ∙ front_at (rows_of p values) (λ i. count (holding_in p values i)) counts j h ∙ ap count the-reading

  one_each : length (holding r row) ≡ length p.roots
  unfolding holding reading_of
  one_each = ap length (sym the-reading) ∙ truths-many (environment (reading p).declarations.variables row) (tree_of (dag_of p) (widths_of (query_of p)) p.bits) p.roots

  -- So a row whose mask has the bits of all roots is a model of the script, and no other row is.
  pub trace-model : ((k : ℕ) → k < length p.roots → bit (get_or (replay_trace_answer p values masks counts).masks j 0) k ≡ 1) ↔ T (every (λ b. b) (holding r row))
  trace-model = (
    λ h. places-every (λ b. b) false (holding r row) (λ k l. (trace-bit k).0 (h k (omega (arith, one_each)))),
    λ t k l. (trace-bit k).1 (every-place (λ b. b) false (holding r row) t k (omega (arith, one_each))),
  )

  -- The count tells it too: it is the number of roots.
  pub count-model : (get_or (replay_trace_answer p values masks counts).counts j 0 ≡ length p.roots) ↔ T (every (λ b. b) (holding r row))
  count-model = rw (trace-count, sym one_each) (all-counted (holding r row))

-- ---------------------------------------------------------------- what a symbol means

-- A kind means in a tree what the standard says of the symbol that is read as it.
pub symbols-mean : (n : Name) (k p a : ℕ) → T (listed n k p a operators) → meaning k ≡ symbol_meaning n
symbols-mean = kind-means

-- ---------------------------------------------------------------- the code

-- The contract of `replay_trace`: its answer and both outputs afterwards. It asks nothing of the caller.
abbrev pub TraceContract : Result ℕ TraceError → Problem → List ℕ → List ℕ → List ℕ → List ℕ → List ℕ → Type 0
TraceContract r p values masks counts masks' counts' = answered r masks' counts' ≡ replay_trace_answer p values masks counts

-- It is what the function is proved to ensure: x are its arguments as they are passed, y as they are when it returns.
pub trace-contract : (κs : _) (x : _) (r : _) (y : _) → replay-trace-code.Post κs x r y
    → TraceContract r (problem_at x.0.now) x.1.0.now x.1.1.0.now x.1.1.1.0.now y.1.1.0.now y.1.1.1.0.now
trace-contract κs x r y h = h
