-- Either way round gives back what was begun with, and how long a new form is. Assumes nothing.
use Rattle.std.specs.Prelude.{ℕ, zero, suc, ◌+◌, ◌*◌, ◌-◌, ◌/◌, ◌%◌, ◌≤◌, ◌≡◌, List, [], ◌∷◌, ◌++◌, Bool, true, false, T, leb, ltb, eqb, length, take, drop, get_or, replicate}
use Rattle.std.proofs.Math.Path.{refl}
use Rattle.std.proofs.Common.{ap, ◌∙◌, append_assoc, arith, eqb→eq, le→leb, leb→le, length-append, length-take, length-drop, take-append-drop, length-take-le, take_at, leb-true, le-leb, eq-eqb}
use Rattle.std.proofs.lemmas.List.{length-replicate}
use Rattle.std.proofs.Math.Seq.{drop_at}
use Rattle.lists.specs.Tests.{among, every, and_0, and-1, and_T, T→true, true→T}
use Rattle.lists.specs.Build.{tabulate, length-tabulate}
use Rattle.echo_spec.specs.Refusals.{unless, ◌or_else◌}
use Rattle.echo_spec.specs.Shapes.{shape_of, operand_count}
use Rattle.echo_spec.specs.Input.{Node, shape, node_at, nodes_of, node_encoded, encoded}
use Rattle.short_records.specs.Short.{operand_bytes, short_size, short_form, shortened, old_refusal, whole, short_refusal, filled, long_form, lengthened, new_refusal}
use Rattle.short_records.specs.RecordLaws.{operand-bytes, nodes-drop, known, cut-filled, filled-encoded}

-- ---------------------------------------------------------------- from the old form and back

no_bytes : (m : ℕ) → (short_refusal m [] ≡ 0) × (long_form m [] ≡ [])
unfolding short_refusal long_form
no_bytes zero = (refl, refl)
no_bytes (suc m) = (refl, refl)

-- one whole record, with others behind it
module _ (m k : ℕ) (x r : List ℕ) (size : length x ≡ operand_bytes k) where
  front-whole : T (ltb k 39) → whole k (x ++ r) ≡ true
  front-whole l = T→true _ (and_T (ltb k 39) _ l (le→leb (operand_bytes k) (length (x ++ r)) (omega (arith, length-append x r))))

  front-refusal : T (ltb k 39) → short_refusal (suc m) (k ∷ (x ++ r)) ≡ short_refusal m r
  unfolding short_refusal
  front-refusal l = rw (front-whole l, short_refusal) (ap (short_refusal m) (drop_at x r (operand_bytes k) size))

  front_long : long_form (suc m) (k ∷ (x ++ r)) ≡ filled (k ∷ x) ++ long_form m r
  unfolding long_form
  front_long = rw (take_at x r (operand_bytes k) size, drop_at x r (operand_bytes k) size) refl

-- n records, of which at most m are taken
back : (n m : ℕ) (s : List ℕ) → n ≤ m → length s ≡ 17 * n → T (every node_encoded (tabulate n (node_at s)))
    → (short_refusal m (short_form n s) ≡ 0) × (long_form m (short_form n s) ≡ s)
unfolding short_form
back zero m [] l e t = no_bytes m
back zero m (k ∷ s) l e t = absurd (omega arith)
back (suc n) zero s l e t = absurd (omega arith)
back (suc n) (suc m) [] l e t = absurd (omega arith)
back (suc n) (suc m) (k ∷ s) l e t =
    let b : operand_bytes k ≤ 16 = operand-bytes k in
    let first : T (node_encoded (node_at (k ∷ s) 0)) = and_0 (node_encoded (node_at (k ∷ s) 0)) _ t in
    let later : T (every node_encoded (tabulate n (node_at (drop 16 s)))) = rw (nodes-drop n (k ∷ s)) at (and-1 (node_encoded (node_at (k ∷ s) 0)) _ t) in
    let rest = back n m (drop 16 s) (omega arith) (omega (arith, length-drop 16 s)) later in
    let x : List ℕ = take (operand_bytes k) s in
    let r : List ℕ = short_form n (drop 16 s) in
    let size : length x ≡ operand_bytes k = length-take-le (operand_bytes k) s (omega arith) in (
      front-refusal m k x r size (known k s first) ∙ rest.0,
      front_long m k x r size ∙ (λ i. cut-filled k s first (omega arith) i ++ rest.1 i) ∙ ap (λ (y : List ℕ). k ∷ y) (take-append-drop 16 s),
    )

-- ---------------------------------------------------------------- from the new form and back

-- what new bytes that pass give: n records, each encoded, whose new form they are
pub record Given (m : ℕ) (s : List ℕ) : Type 0 where
  pub n : ℕ
  pub few : n ≤ m
  pub long : length (long_form m s) ≡ 17 * n
  pub well : T (every node_encoded (tabulate n (node_at (long_form m s))))
  pub same : short_form n (long_form m s) ≡ s

given-more : (m k : ℕ) (s : List ℕ) → whole k s ≡ true → Given m (drop (operand_bytes k) s) → Given (suc m) (k ∷ s)
unfolding long_form short_form
given-more m k s w g =
    let b : operand_bytes k ≤ 16 = operand-bytes k in
    let l : operand_bytes k ≤ length s = leb→le (operand_bytes k) (length s) (and-1 (ltb k 39) _ (true→T w)) in
    let x : List ℕ = take (operand_bytes k) s in
    let r : List ℕ = long_form m (drop (operand_bytes k) s) in
    let size : length x ≡ operand_bytes k = length-take-le (operand_bytes k) s l in
    let y : List ℕ = x ++ replicate (17 - suc (length x)) 0 in
    let z : length y ≡ 16 = omega (arith, length-append x (replicate (17 - suc (length x)) 0), length-replicate {A = ℕ} (17 - suc (length x)) 0) in
    let d : drop 16 (y ++ r) ≡ r = drop_at y r 16 z in
    let f : take (operand_bytes k) (y ++ r) ≡ x = rw append_assoc (take_at x (replicate (17 - suc (length x)) 0 ++ r) (operand_bytes k) size) in
    record {
      n = suc g.n;
      few = omega (arith, g.few);
      long = omega (arith, g.long, length-append y r);
      well = and_T (node_encoded (node_at (k ∷ (y ++ r)) 0)) _ (filled-encoded k x r (and_0 (ltb k 39) _ (true→T w)) size) (rw (nodes-drop g.n (k ∷ (y ++ r)), d) g.well);
      same = rw (f, d, g.same) (ap (λ (q : List ℕ). k ∷ q) (take-append-drop (operand_bytes k) s));
    }

given : (m : ℕ) (s : List ℕ) → short_refusal m s ≡ 0 → Given m s
unfolding short_refusal long_form short_form
given zero [] e = record { n = 0; few = omega arith; long = refl; well = tt; same = refl }
given zero (k ∷ s) e = absurd (omega arith)
given (suc m) [] e = record { n = 0; few = omega arith; long = refl; well = tt; same = refl }
given (suc m) (k ∷ s) e = by_whole (whole k s) refl e (λ q. given m (drop (operand_bytes k) s) q)
  where
    by_whole : (b : Bool) → whole k s ≡ b → ◌≡◌ {A = ℕ} (elim b [ true ↦ short_refusal m (drop (operand_bytes k) s) | false ↦ 16 ]) 0
        → (short_refusal m (drop (operand_bytes k) s) ≡ 0 → Given m (drop (operand_bytes k) s)) → Given (suc m) (k ∷ s)
    by_whole true w q rest = given-more m k s w (rest q)
    by_whole false w q rest = absurd (omega arith)

-- ---------------------------------------------------------------- what passes

-- the tests of an old form
pub record Passes (old : List ℕ) : Type 0 where
  pub short : length old ≤ 34816
  pub records : length old ≡ 17 * (length old / 17)
  pub well : T (every node_encoded (tabulate (length old / 17) (node_at old)))

passes : (old : List ℕ) → old_refusal old ≡ 0 → Passes old
unfolding old_refusal encoded nodes_of
passes old e = by_length (leb (length old) 34816) refl (encoded old []) refl e
  where
    by_length : (b : Bool) → leb (length old) 34816 ≡ b → (c : Bool) → encoded old [] ≡ c → (unless b 9 or_else unless c 8) ≡ 0 → Passes old
    by_length true l true w q =
        let t : T (encoded old []) = true→T w in
        let d : length old % 17 ≡ 0 = eqb→eq (length old % 17) 0 (and_0 (eqb (length old % 17) 0) _ t) in
        record { short = leb-true (length old) 34816 l; records = omega arith; well = and_0 (every node_encoded (nodes_of old)) true (and-1 (eqb (length old % 17) 0) _ t) }
    by_length true l false w q = absurd (omega arith)
    by_length false l c w q = absurd (omega arith)

passing : (old : List ℕ) → Passes old → old_refusal old ≡ 0
unfolding old_refusal encoded nodes_of
passing old p =
    let d : length old % 17 ≡ 0 = omega (arith, p.records) in
    rw (le-leb (length old) 34816 p.short, eq-eqb (length old % 17) 0 d, T→true (every node_encoded (tabulate (length old / 17) (node_at old))) p.well) refl

-- ---------------------------------------------------------------- the two ways round

pub old-back : (old : List ℕ) → old_refusal old ≡ 0 → (new_refusal (shortened old) ≡ 0) × (lengthened (shortened old) ≡ old)
old-back old e = let p = passes old e in back (length old / 17) 2048 old (omega (arith, p.short)) p.records p.well

pub new-back : (new : List ℕ) → new_refusal new ≡ 0 → (old_refusal (lengthened new) ≡ 0) × (shortened (lengthened new) ≡ new)
new-back new e =
    let g = given 2048 new e in
    let d : length (lengthened new) / 17 ≡ g.n = omega (arith, g.long) in (
      passing (lengthened new) (record { short = omega (arith, g.long, g.few); records = omega (arith, g.long); well = rw d g.well }),
      rw d g.same,
    )

-- ---------------------------------------------------------------- lengths

-- how many operands nodes have
abbrev pub operands_of : List Node → ℕ
operands_of [] = 0
operands_of (n ∷ ns) = operand_count (shape n) + operands_of ns

first-operands : (n : ℕ) (s : List ℕ) → operands_of (tabulate (suc n) (node_at s)) ≡ operand_count (shape_of (get_or s 0 0)) + operands_of (tabulate n (node_at (drop 17 s)))
unfolding node_at
first-operands n s = ap (λ (ns : List Node). operand_count (shape_of (get_or s 0 0)) + operands_of ns) (nodes-drop n s)

short-length : (n : ℕ) (s : List ℕ) → 17 * n ≤ length s → length (short_form n s) ≡ n + 4 * operands_of (tabulate n (node_at s))
unfolding short_form
short-length zero s l = refl
short-length (suc n) s l =
    let k : ℕ = get_or s 0 0 in
    let a : length (take (short_size k) s) ≡ short_size k = length-take-le (short_size k) s (omega (arith, operand-bytes k)) in
    let rest = short-length n (drop 17 s) (omega (arith, length-drop 17 s)) in
    let e : operands_of (tabulate (suc n) (node_at s)) ≡ operand_count (shape_of k) + operands_of (tabulate n (node_at (drop 17 s))) = first-operands n s in
    omega (arith, length-append (take (short_size k) s) (short_form n (drop 17 s)), e)

-- 1 byte a node and 4 an operand
pub shortened-length : (old : List ℕ) → length (shortened old) ≡ length (nodes_of old) + 4 * operands_of (nodes_of old)
unfolding nodes_of
shortened-length old =
    short-length (length old / 17) old (omega arith) ∙ rw (length-tabulate (length old / 17) (node_at old)) refl

pub form-bound : (n : ℕ) (s : List ℕ) → length (short_form n s) ≤ 17 * n
unfolding short_form
form-bound zero s = omega arith
form-bound (suc n) s =
    let k : ℕ = get_or s 0 0 in
    let rest = form-bound n (drop 17 s) in
    omega (arith, length-append (take (short_size k) s) (short_form n (drop 17 s)), length-take (short_size k) s, operand-bytes k)

-- never longer than the old form
pub shortened-bound : (old : List ℕ) → length (shortened old) ≤ length old
shortened-bound old = omega (arith, form-bound (length old / 17) old)

-- ---------------------------------------------------------------- which numbers there are

pub old-listed : (old : List ℕ) → T (among (0 ∷ 8 ∷ 9 ∷ 10 ∷ []) (old_refusal old))
unfolding old_refusal
old-listed old = by_tests (leb (length old) 34816) (encoded old [])
  where
    by_tests : (b c : Bool) → T (among (0 ∷ 8 ∷ 9 ∷ 10 ∷ []) (unless b 9 or_else unless c 8))
    by_tests true true = tt
    by_tests true false = tt
    by_tests false c = tt

pub new-listed : (m : ℕ) (s : List ℕ) → T (among (0 ∷ 9 ∷ 10 ∷ 16 ∷ []) (short_refusal m s))
unfolding short_refusal
new-listed zero [] = tt
new-listed zero (k ∷ s) = tt
new-listed (suc m) [] = tt
new-listed (suc m) (k ∷ s) = by_whole (whole k s) (new-listed m (drop (operand_bytes k) s))
  where
    by_whole : (b : Bool) → T (among (0 ∷ 9 ∷ 10 ∷ 16 ∷ []) (short_refusal m (drop (operand_bytes k) s)))
        → T (among (0 ∷ 9 ∷ 10 ∷ 16 ∷ []) (elim b [ true ↦ short_refusal m (drop (operand_bytes k) s) | false ↦ 16 ]))
    by_whole true h = h
    by_whole false h = tt
