-- Laws of the sorts of arguments, a step at a time: what is read of them belongs to the entry.
use Rattle.std.specs.Prelude.{ℕ, suc, ◌+◌, ◌≤◌, ◌<◌, ◌≡◌, Bool, true, false, eqb, length, get_or}
use Rattle.std.specs.Prelude.{Option as Maybe, Some, None}
use Rattle.std.proofs.Math.Path.{refl, ap, sym, subst}
use Rattle.std.proofs.Common.{◌∙◌, arith, eqb→eq, length-drop}
use mathlib.Core.List.{List, [], ◌∷◌}
use Rattle.std.proofs.Math.Option.{Option, none}
use Rattle.std.proofs.Math.ListN.{drop, drop_of_length-le}
use Rattle.lists.specs.Bytes.{bytes}
use Rattle.lists.specs.Tests.{no→false}
use Rattle.echo_spec.specs.Input.{largest}
use Rattle.readback.specs.Reader.{Took, took, and_then, expect}
use Rattle.readback.specs.ScriptReader.{read_sort, separator}
use Rattle.reader_laws.specs.TermsStrict.{impossible, and-then, took-both}
use Rattle.script_tokens.specs.Reached.{Numbered}
use Rattle.script_tokens.specs.Stretches.{bytes-at}
use Rattle.script_tokens.specs.declared.Number.{Number}
use Rattle.script_decls.specs.Lines.{sort_in, sorts_in}
use Rattle.script_decls.specs.Tails.{sort-less}
use Rattle.script_decls.specs.Told.{SortsFrom}
use Rattle.script_entries.specs.Entries.{ArgumentsAt, NextArgument}

-- sorts that are read from their beginning on
pub arguments-at : {s : List ℕ} {p : ℕ} {ws : List ℕ} → SortsFrom s p ws → ArgumentsAt s p ws
arguments-at {s} {p} {ws} h = record {
  begin = h.low;
  first = true;
  end = h.end;
  inside = h.sorts.high;
  read = λ f l. h.sorts.read f (let x = length-drop p s in omega arith) ∙ ap (λ (us : List ℕ). took us (drop h.end s)) h.widths;
}

-- ---------------------------------------------------------------- one argument

-- what is read of sorts that go on with one at place q
abbrev onward : ℕ → List ℕ → ℕ → Option (Took (List ℕ))
onward f s q = and_then (sort_in largest (drop q s)) (λ w r. and_then (sorts_in f false r) (λ ws z. took (w ∷ ws) z))

-- the same list of sorts, for each number of steps
one_list : (e end : ℕ) (s : List ℕ) (v : ℕ) (ws : List ℕ) → ((f : ℕ) → length s < f → and_then (sorts_in f false (drop e s)) (λ us z. took (v ∷ us) z) ≡ took ws (drop end s))
    → (us : List ℕ) × (ws ≡ v ∷ us) × ((f : ℕ) → length s < f → sorts_in f false (drop e s) ≡ took us (drop end s))
one_list e end s v ws h =
    let (us, z, e₁, g₁) = and-then (sorts_in (suc (length s)) false (drop e s)) (λ us z. took (v ∷ us) z) ws (drop end s) (h (suc (length s)) (omega arith)) in
    let m : v ∷ us ≡ ws = (took-both (v ∷ us) ws z (drop end s) g₁).0 in
    (us, sym m, λ f l. each us m f l)
  where
    each : (us : List ℕ) → v ∷ us ≡ ws → (f : ℕ) → length s < f → sorts_in f false (drop e s) ≡ took us (drop end s)
    each us m f l =
        let (xs, z, e₁, g₁) = and-then (sorts_in f false (drop e s)) (λ us z. took (v ∷ us) z) ws (drop end s) (h f l) in
        let (i, j) = took-both (v ∷ xs) ws z (drop end s) g₁ in
        let k : v ∷ xs ≡ v ∷ us = i ∙ sym m in
        let n : xs ≡ us = cc in
        e₁ ∙ (λ a. took (n a) (j a))

next-is : (s : List ℕ) (p q : ℕ) → p ≤ q → q ≤ length s → (ws : List ℕ) (end : ℕ) → end ≤ length s → ((f : ℕ) → length s < f → onward f s q ≡ took ws (drop end s))
    → (r : Maybe Number) → Numbered s (sort_in largest (drop q s)) r → NextArgument s p ws r
unfolding and_then
next-is s p q l m ws end n h None e = absurd (impossible (sym (ap (λ (o : Option (Took ℕ)). and_then o (λ w r. and_then (sorts_in (suc (length s)) false r) (λ ws z. took (w ∷ ws) z))) e) ∙ h (suc (length s)) (omega arith)))
next-is s p q l m ws end n h (Some r) (o, e) =
    let (us, i, j) = one_list r.end end s r.value ws (λ f k. sym (ap (λ (o : Option (Took ℕ)). and_then o (λ w y. and_then (sorts_in f false y) (λ ws z. took (w ∷ ws) z))) e) ∙ h f k) in
    let less = sort-less largest (drop q s) r.value (drop r.end s) e in
    let d₁ = length-drop q s in
    let d₂ = length-drop r.end s in
    subst (λ (xs : List ℕ). NextArgument s p xs (Some r)) (sym i) (omega arith, o, refl, record { begin = o; first = false; end = end; inside = n; read = j })

module _ (s : List ℕ) (p : ℕ) (ws : List ℕ) (x : ArgumentsAt s p ws) where
  -- the sorts have a bracket after them
  pub next-end : length s ≤ p → NextArgument s p ws None
  unfolding sorts_in
  next-end l =
      let z : drop p s ≡ [] = drop_of_length-le s {i = p} l in
      absurd (impossible (sym (ap (sorts_in (suc (length s)) x.first) z) ∙ x.read (suc (length s)) (omega arith)))

  pub next-close : p < length s → get_or s p 0 ≡ 41 → NextArgument s p ws None
  unfolding sorts_in
  next-close l e =
      let g : took [] (drop (p + 1) s) ≡ took ws (drop x.end s) = sym (ap (sorts_in (suc (length s)) x.first) (bytes-at s p l ∙ ap (λ (c : ℕ). c ∷ drop (p + 1) s) e)) ∙ x.read (suc (length s)) (omega arith) in
      subst (λ (us : List ℕ). NextArgument s p us None) (took-both {A = List ℕ} [] ws (drop (p + 1) s) (drop x.end s) g).0 tt

  -- another byte: what is read goes through the separator
  separated : p < length s → (get_or s p 0 ≡ 41 → ⊥) → (f : ℕ) → sorts_in (suc f) x.first (drop p s)
      ≡ and_then (separator x.first (drop p s)) (λ _ q. and_then (sort_in largest q) (λ w r. and_then (sorts_in f false r) (λ ws z. took (w ∷ ws) z)))
  unfolding sorts_in
  separated l n f =
      ap (sorts_in (suc f) x.first) (bytes-at s p l)
      ∙ rw (no→false (eqb (get_or s p 0) 41) (λ q. n (eqb→eq (get_or s p 0) 41 q)), sorts_in) (rw (← bytes-at s p l) refl)

  -- no sort begins with a blank
  no-sort : p < length s → get_or s p 0 ≡ 32 → sort_in largest (drop p s) ≡ none
  unfolding sort_in read_sort and_then expect bytes
  no-sort l e = ap (sort_in largest) (bytes-at s p l ∙ ap (λ (c : ℕ). c ∷ drop (p + 1) s) e)

  pub next-blank : p < length s → get_or s p 0 ≡ 32 → (r : Maybe Number) → Numbered s (sort_in largest (drop (p + 1) s)) r → NextArgument s p ws r
  unfolding expect bytes and_then separator
  next-blank l e r h = next-is s p (p + 1) (omega arith) (omega arith) ws x.end x.inside (λ f m. by_first x.first refl f m) r h
    where
      blank : expect (bytes " ") (drop p s) ≡ took [] (drop (p + 1) s)
      blank = ap (expect (bytes " ")) (bytes-at s p l ∙ ap (λ (c : ℕ). c ∷ drop (p + 1) s) e)

      by_first : (t : Bool) → x.first ≡ t → (f : ℕ) → length s < f → onward f s (p + 1) ≡ took ws (drop x.end s)
      by_first true q f m =
          let g = sym (separated l (λ i. omega arith) f) ∙ x.read (suc f) (omega arith) in
          absurd (impossible (rw (q, no-sort l e) at g))
      by_first false q f m =
          let g = sym (separated l (λ i. omega arith) f) ∙ x.read (suc f) (omega arith) in
          rw (q, blank) at g

  pub next-first : p < length s → (get_or s p 0 ≡ 41 → ⊥) → (get_or s p 0 ≡ 32 → ⊥) → (r : Maybe Number) → Numbered s (sort_in largest (drop p s)) r → NextArgument s p ws r
  unfolding expect bytes and_then separator
  next-first l n b r h = next-is s p p (omega arith) (omega arith) ws x.end x.inside (λ f m. by_first x.first refl f m) r h
    where
      no-blank : expect (bytes " ") (drop p s) ≡ none
      no-blank = ap (expect (bytes " ")) (bytes-at s p l) ∙ rw (no→false (eqb 32 (get_or s p 0)) (λ q. b (sym (eqb→eq 32 (get_or s p 0) q))), expect)

      by_first : (t : Bool) → x.first ≡ t → (f : ℕ) → length s < f → onward f s p ≡ took ws (drop x.end s)
      by_first true q f m =
          let g = sym (separated l n f) ∙ x.read (suc f) (omega arith) in
          rw q at g
      by_first false q f m =
          let g = sym (separated l n f) ∙ x.read (suc f) (omega arith) in
          absurd (impossible (rw (q, no-blank) at g))
