-- One turn over the assertions: what is read of an assertion, by the sort that is told of its term.
use Rattle.std.specs.Prelude.{ℕ, zero, suc, ◌+◌, ◌≤◌, ◌<◌, ◌≡◌, refl, List, [], length, drop}
use Rattle.std.proofs.Common.{ap, sym, ◌∙◌, subst, length-append, length-drop}
use Rattle.std.specs.Prelude.{Option as Maybe, Some, None}
use Rattle.std.proofs.Math.Option.{none}
use native.Mathlib.Omega.{arith}
use Rattle.lists.specs.Bytes.{bytes}
use Rattle.reading.specs.Trees.{Declarations}
use Rattle.echo_spec.specs.TreeSorts.{TreeSort, bool, bits}
use Rattle.readback.specs.Reader.{took, expect}
use Rattle.readback.specs.ScriptReader.{term_steps, read_assertion, reading_in}
use Rattle.reader_laws.specs.TermsStrict.{expected}
use Rattle.sort_reader.specs.Sorted.{sorted}
use Rattle.script_names.specs.declared.Table.{Table}
use Rattle.script_header.specs.declared.Header.{Header}
use Rattle.script_header.specs.Header.{header_in, HeaderAt, HeaderTo, HeaderNoted, NoHeader}
use Rattle.script_entries.specs.LinesMeasured.{known-noted}
use Rattle.script_entries.specs.Named.{known-header}
use Rattle.header_laws.specs.Body.{last_line, AssertionsAt}
use Rattle.header_laws.specs.Whole.{header-none, header-reads, header-declarable}
use Rattle.script_terms.specs.declared.Sorted.{Sorted}
use Rattle.script_terms.specs.States.{sort_from, SortAt}
use Rattle.script_check.specs.Check.{Topped, TopTo, Checked, BodyAt, BodyTo}
use Rattle.script_check.specs.Steps.{Going, going-read, going-last, going_next, going-bad, bad-none, bad-sort, bad-close, good-assertion}

-- ---------------------------------------------------------------- sorts

sort-is : (s : List ℕ) (D : Declarations) (a : ℕ) (r : Sorted) → SortAt s D a (Some r) → (a < r.end) × (r.end ≤ length s) × (sorted (term_steps (drop a s)) D (drop a s) ≡ took (sort_from r.sort) (drop r.end s))
sort-is s D a r x = (x.0, x.1, x.2 (term_steps (drop a s)) (omega arith))

bits-sort : (w : ℕ) → (w ≡ 0 → ⊥) → sort_from w ≡ bits w
bits-sort zero h = absurd (h refl)
bits-sort (suc w) h = refl

-- ---------------------------------------------------------------- an assertion

word-further : (w : List ℕ) (s : List ℕ) (a e : ℕ) → 0 < length w → e ≤ length s → expect w (drop a s) ≡ took [] (drop e s) → a < e
word-further w s a e l m q =
    let x = ap length (expected w (drop a s) [] (drop e s) q) in
    let y = length-append w (drop e s) in
    let z = length-drop a s in
    let u = length-drop e s in
    omega arith

module _ {s : List ℕ} {D : Declarations} {from p n : ℕ} (g : Going s D from p n) (a : ℕ) (e : expect (bytes "(assert ") (drop p s) ≡ took [] (drop a s)) where
  -- no term that has a sort
  pub turn-none : SortAt s D a None → BodyTo s D from None
  turn-none h = going-bad g (drop a s) e (bad-none D (drop p s) (drop a s) e (h (term_steps (drop a s)) (omega arith)))

  module _ (r : Sorted) (h : SortAt s D a (Some r)) where
    abbrev w : ℕ
    w = r.sort

    abbrev f : ℕ
    f = r.end

    -- a bit-vector
    pub turn-bits : (w ≡ 0 → ⊥) → BodyTo s D from None
    turn-bits k =
        let (l, m, x) = sort-is s D a r h in
        going-bad g (drop a s) e (bad-sort D (drop p s) (drop a s) e w (drop f s) (x ∙ ap (λ (σ : TreeSort). took σ (drop f s)) (bits-sort w k)))

    bool-read : w ≡ 0 → sorted (term_steps (drop a s)) D (drop a s) ≡ took bool (drop f s)
    bool-read k = (sort-is s D a r h).2 ∙ ap (λ (i : ℕ). took (sort_from i) (drop f s)) k

    -- a Bool, and something else than the end of the line
    pub turn-open : w ≡ 0 → expect (bytes ")\n") (drop f s) ≡ none → BodyTo s D from None
    turn-open k c = going-bad g (drop a s) e (bad-close D (drop p s) (drop a s) e (drop f s) (bool-read k) c)

    pub turn-less : a ≤ length s → (z : ℕ) → z ≤ length s → expect (bytes ")\n") (drop f s) ≡ took [] (drop z s) → p < z
    unfolding bytes
    turn-less b z m c =
        let l₁ = word-further (bytes "(assert ") s p a (omega arith) b e in
        let l₂ = (sort-is s D a r h).0 in
        let l₃ = word-further (bytes ")\n") s f z (omega arith) m c in
        omega arith

    -- a Bool, and the next assertion
    pub turn_more : w ≡ 0 → a ≤ length s → (z : ℕ) → z ≤ length s → expect (bytes ")\n") (drop f s) ≡ took [] (drop z s) → Going s D from z (n + 1)
    turn_more k b z m c =
        let (t, x, σ) = good-assertion D (drop p s) (drop a s) e (drop f s) (drop z s) (bool-read k) c in
        going_next g t z x σ (turn-less b z m c) m

-- ---------------------------------------------------------------- the last line

pub turn_last : {s : List ℕ} {D : Declarations} {from p n : ℕ} → Going s D from p n → from ≤ length s → read_assertion D (drop p s) ≡ none → (z : ℕ) → expect last_line (drop p s) ≡ took [] (drop z s) → length s ≤ z
    → BodyAt s D from from n
turn_last g l e z q m = record { trees = g.trees; start = refl; read = going-read g e z q m; assertions = going-last g e z q m l; roots = g.counted }

-- ---------------------------------------------------------------- the whole script

check-none : (s : List ℕ) → NoHeader s 0 → reading_in s ≡ none
check-none s y = header-none s (y (suc (length s)) (omega arith))

module _ {s : List ℕ} {t : Table} {h : Header} (x : HeaderAt s 0 t h.first h.variables h.arrays h.names h.end) where
  header_read : header_in (suc (length s)) s ≡ took x.value (drop h.end s)
  header_read = x.read (suc (length s)) (omega arith)

  topped : HeaderNoted s t (Some h) → Topped s t h h.end
  topped n = record {
    declarations = x.value;
    known = known-noted (known-header x (header-declarable (suc (length s)) s x.value (drop h.end s) header_read)) n;
    place = x.place;
    read = header_read;
  }

pub topped-to : (s : List ℕ) (t : Table) (r : Maybe Header) → HeaderTo s 0 t r → HeaderNoted s t r → TopTo s t r
topped-to s t None y n = check-none s y
topped-to s t (Some h) x n = topped x n

-- what the bytes after the header tell is what the script tells
module _ {s : List ℕ} {t : Table} {h : Header} {e : ℕ} (x : Topped s t h e) where
  pub body-none : BodyTo s x.declarations e None → reading_in s ≡ none
  body-none b = header-reads s x.declarations (drop e s) x.read ∙ b (suc (length s)) (omega arith)

  abbrev pub body_checked : {a n : ℕ} → BodyAt s x.declarations e a n → Checked s t h a n
  body_checked b = record {
    declarations = x.declarations;
    trees = b.trees;
    reading = header-reads s x.declarations (drop e s) x.read ∙ b.read (suc (length s)) (omega arith);
    known = x.known;
    assertions = subst (λ (i : ℕ). AssertionsAt s x.declarations i b.trees) (sym b.start) b.assertions;
    roots = b.roots;
  }
