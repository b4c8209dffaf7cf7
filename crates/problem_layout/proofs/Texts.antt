-- A line at the front of a buffer. Assumes nothing.
use Prim.Native.Nat.{ℕ, ◌+◌, ◌-◌, ◌≤◌, min}
use mathlib.Core.Path.{◌≡◌, ap, ◌∙◌}
use mathlib.Core.List.{List, ◌++◌}
use native.Mathlib.Omega.{arith}
use native.Mathlib.Nat.{zero-add}
use lib.ListN.{length, take, drop}
use Rattle.echo_bytes.specs.declared.Place.{Place}
use Rattle.echo_bytes.specs.Page.{Page, page, start, written}
use Rattle.echo_bytes.specs.Laws.{at-written}
use Rattle.problem_layout.specs.Telling.{line_in}

pub at-start : (o line : List ℕ) {p : Place} {q : Page} → p ≡ start → q ≡ written (page p o) line → q ≡ written (page start o) line
at-start o line e h = h ∙ ap (λ (p : Place). written (page p o) line) e

-- a line that was written from the start of a buffer
module _ (lent line : List ℕ) {q : Place} {o : List ℕ} (h : page q o ≡ written (page start lent) line) where
  pub line-in : record { count = q.at; bytes = o } ≡ line_in line lent
  unfolding written line_in
  line-in =
      let k : ℕ = min (length line) (length lent - 0) in
      let e : k ≡ min (length line) (length lent) = omega arith in
      let z : 0 + k ≡ k = zero-add k in
      (λ i. record { count = (h i).place.at; bytes = (h i).bytes })
      ∙ (λ i. record { count = (z ∙ e) i; bytes = take (e i) line ++ drop ((z ∙ e) i) lent })

  pub line-inside : q.at ≤ length o
  line-inside =
      let a : q.at ≡ (written (page start lent) line).place.at = ap (λ (p : Page). p.place.at) h in
      let b : length o ≡ length (written (page start lent) line).bytes = ap (λ (p : Page). length p.bytes) h in
      omega (arith, at-written (page start lent) line (omega arith))
