-- The laws of the script's proof: one root, and roots one after the other.
use Rattle.std.specs.Prelude.{ℕ, ◌+◌, ◌-◌, ◌^◌, ◌≤◌, ◌<◌, ◌≡◌, List, [], ◌∷◌, ◌++◌, length, get_or, take, drop}
use Rattle.std.proofs.Common.{sym, ap, ◌∙◌, subst, append-nil, append_assoc, arith}
use Rattle.std.proofs.lemmas.List.{take_all, take_more}
use Rattle.lists.specs.Bytes.{bytes}
use Rattle.echo_bytes.specs.declared.Place.{Place}
use Rattle.echo_bytes.specs.Page.{Page, page, start, after, written}
use Rattle.echo_bytes.specs.Laws.{written_then, written-nil, written-lent, at-lent, at-written, length-written}
use Rattle.echo_roots.specs.Roots.{root_text, roots_text}

-- the assertion's opening, its term after a blank, and its end
pub root_in : (g : ℕ → List ℕ) (r : ℕ) (l₀ : List ℕ) {s : Place} {a b c : Page} → s ≡ start → a ≡ written (page s l₀) (bytes "(assert") → b ≡ written a (32 ∷ g r)
    → c ≡ written b (bytes ")\n") → c ≡ written (page start l₀) (root_text g r)
unfolding root_text
root_in g r l₀ {s} {a} e f h k =
    let f' = subst (λ (p : Place). a ≡ written (page p l₀) (bytes "(assert")) e f in
    written_then (page start l₀) _ _ f' (written_then a _ _ h k)

-- ---------------------------------------------------------------- roots in order

roots-append : (g : ℕ → List ℕ) (rs : List ℕ) (r : ℕ) → roots_text g (rs ++ (r ∷ [])) ≡ roots_text g rs ++ root_text g r
unfolding roots_text
roots-append g [] r = append-nil (root_text g r)
roots-append g (x ∷ rs) r = ap (λ (t : List ℕ). root_text g x ++ t) (roots-append g rs r) ∙ sym (append_assoc (root_text g x) (roots_text g rs) (root_text g r))

-- the first k roots are written
pub record RootsSoFar (g : ℕ → List ℕ) (roots : List ℕ) (p : Page) (k : ℕ) (q : Place) (out : List ℕ) : Type 0 where
  pub stands : page q out ≡ written p (roots_text g (take k roots))
  pub inside : q.at ≤ length out

pub no-roots : (g : ℕ → List ℕ) (roots : List ℕ) (p : Page) → p.place.need < 2 ^ 64 → p.place.at ≤ length p.bytes → RootsSoFar g roots p 0 p.place p.bytes
unfolding roots_text
no-roots g roots p h i = record { stands = sym (written-nil p h); inside = i }

module _ {g : ℕ → List ℕ} {roots : List ℕ} {p : Page} {k : ℕ} {q : Place} {out : List ℕ} (h : RootsSoFar g roots p k q out) where
  -- the buffer keeps its length
  pub roots-size : length out ≡ length p.bytes
  roots-size = ap (λ (z : Page). length z.bytes) h.stands ∙ length-written p (roots_text g (take k roots))

  -- all are written
  pub roots-end : length roots ≤ k → page q out ≡ written p (roots_text g roots)
  roots-end e = h.stands ∙ ap (λ (rs : List ℕ). written p (roots_text g rs)) (take_all k roots e)

  -- root k is written into the rest of the buffer
  module _ {r : Place} {ys : List ℕ} (w : page r ys ≡ written (page start (take (length out - q.at) (drop q.at out))) (root_text g (get_or roots k 0))) where
    pub root-inside : q.at + r.at ≤ length out
    root-inside = at-lent q r out ys (root_text g (get_or roots k 0)) h.inside w

    pub root-done : k < length roots → {q' : Place} → q' ≡ after q r → RootsSoFar g roots p (k + 1) q' (take q.at out ++ (ys ++ drop (length out - q.at) (drop q.at out)))
    root-done l {q'} e =
        let text : List ℕ = root_text g (get_or roots k 0) in
        let grown : List ℕ = take q.at out ++ (ys ++ drop (length out - q.at) (drop q.at out)) in
        let joined : page q' grown ≡ written (page q out) text = ap (λ (z : Place). page z grown) e ∙ written-lent q r out ys text h.inside w in
        record {
          stands = rw (take_more roots k 0 l, roots-append) (written_then p (roots_text g (take k roots)) text h.stands joined);
          inside =
              let a : q'.at ≡ (written (page q out) text).place.at = ap (λ (z : Page). z.place.at) joined in
              let b : length grown ≡ length (written (page q out) text).bytes = ap (λ (z : Page). length z.bytes) joined in
              omega (arith, at-written (page q out) text h.inside);
        }
