-- Lines by their number, one after the other, as a loop writes them. Assumes nothing.
use Rattle.std.specs.Prelude.{ℕ, zero, suc, ◌+◌, ◌^◌, ◌<◌, ◌≡◌, refl, List, [], ◌++◌, length}
use Rattle.std.proofs.Common.{ap, sym, ◌∙◌, append_assoc, append-nil}
use Rattle.std.proofs.Math.Numerals.{add-one}
use Rattle.lists.specs.Build.{tabulate}
use Rattle.echo_spec.specs.Render.{texts}
use Rattle.echo_bytes.specs.Page.{Page, written}
use Rattle.echo_bytes.specs.Laws.{written-nil, written_then, length-written}

-- f 0, f 1, .. f (k - 1), one after the other
unfoldable pub lines_to : (ℕ → List ℕ) → ℕ → List ℕ
lines_to f zero = []
lines_to f (suc k) = lines_to f k ++ f k

-- page q is p with the first k lines written
pub record LinesWritten (line : ℕ → List ℕ) (k : ℕ) (p q : Page) : Type 0 where
  pub lines : q ≡ written p (lines_to line k)

-- ---------------------------------------------------------------- laws

lines-first : (f : ℕ → List ℕ) (k : ℕ) → lines_to f (suc k) ≡ f 0 ++ lines_to (λ i. f (suc i)) k
unfolding lines_to
lines-first f zero = sym (append-nil (f 0))
lines-first f (suc k) = ap (λ (x : List ℕ). x ++ f (suc k)) (lines-first f k) ∙ append_assoc (f 0) (lines_to (λ i. f (suc i)) k) (f (suc k))

-- the lines of a table are the texts of its entries
lines_are : {A : Type 0} (g : A → List ℕ) (n : ℕ) (h : ℕ → A) → lines_to (λ i. g (h i)) n ≡ texts g (tabulate n h)
unfolding texts lines_to
lines_are g zero h = refl
lines_are g (suc n) h = lines-first (λ i. g (h i)) n ∙ ap (λ (x : List ℕ). g (h 0) ++ x) (lines_are g n (λ i. h (suc i)))

pub none_written : (line : ℕ → List ℕ) (p : Page) → p.place.need < 2 ^ 64 → LinesWritten line 0 p p
unfolding lines_to
none_written line p h = record { lines = sym (written-nil p h) }

module _ {line : ℕ → List ℕ} {k : ℕ} {p q : Page} (w : LinesWritten line k p q) where
  -- one line more
  pub more-written : {r : Page} → r ≡ written q (line k) → LinesWritten line (k + 1) p r
  unfolding lines_to
  more-written e = record { lines = rw add-one (written_then p (lines_to line k) (line k) w.lines e) }

  pub length-kept : length q.bytes ≡ length p.bytes
  length-kept = ap (λ (r : Page). length r.bytes) w.lines ∙ length-written p (lines_to line k)

-- the lines of n entries, which are all
pub all-written : {A : Type 0} (g : A → List ℕ) (n : ℕ) (h : ℕ → A) {k : ℕ} {p q : Page} → LinesWritten (λ i. g (h i)) k p q → k ≡ n
    → q ≡ written p (texts g (tabulate n h))
all-written g n h {p = p} w e = w.lines ∙ ap (written p) (ap (lines_to (λ i. g (h i))) e ∙ lines_are g n h)
