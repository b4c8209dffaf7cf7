-- What is told of a declaration by the table: one of its name means the same, or differs, or there is none.
use Prim.Native.Nat.{ℕ, zero, suc, ◌+◌, ◌-◌, ◌*◌, ◌/◌, ◌%◌, ◌≤◌, ◌<◌}
use Rattle.std.specs.Prelude.{◌≡◌, refl, Bool, true, false, T, ltb, get_or, set}
use Rattle.std.proofs.Math.Path.{ap, sym, subst}
use Rattle.std.proofs.Common.{◌∙◌, arith, ltb→lt, nltb→le, take-append-drop, get_or-append-add}
use mathlib.Core.List.{List, [], ◌∷◌, ◌++◌, append_assoc, append-nil}
use Rattle.std.proofs.Math.ListN.{length, take, drop, length-append, get_or-append}
use Rattle.std.proofs.Math.Seq.{take-append_seam, drop-append_seam}
use Rattle.lists.specs.Tests.{same, same→eq, same_refl, T→true, true→T}
use Rattle.script_tokens.specs.Reached.{between}
use Rattle.script_names.specs.Laws.{between-length}
use Rattle.releases.specs.Release.{Declared}
use Rattle.script_decls.specs.declared.Line.{Line}
use Rattle.release_lines.specs.Lines.{meaning_text, LineAt, LineIs, DeclaredAt, NextLine}
use Rattle.release_lines.specs.Texts.{meaning-known}
use Rattle.std.specs.Prelude.{⊤, Option, Some, None, Result, Ok, Err}
use Rattle.std.specs.Result.{IsErr}
use Rattle.std.proofs.lemmas.Bool.{false≢true}
use Rattle.release_names.specs.declared.Clash.{Clash}
use Rattle.release_names.specs.declared.Names.{Names}
use Rattle.release_names.specs.Marks.{mark_of, chain_of, tag_of}
use Rattle.release_names.specs.Table.{entry, name_in, In, Table, Sought, Holds, Differs, Disagrees, ScriptTo}
use Rattle.release_names.specs.Chains.{table_more}

-- ---------------------------------------------------------------- members of lists

pub in_left : (xs ys : List Declared) (x : Declared) → In xs x → In (xs ++ ys) x
in_left xs ys x (k, l, e) = (k, omega (arith, l, length-append xs ys), get_or-append xs ys _ k l ∙ e)

pub in_right : (xs ys : List Declared) (x : Declared) → In ys x → In (xs ++ ys) x
in_right xs ys x (k, l, e) = (length xs + k, omega (arith, l, length-append xs ys), get_or-append-add xs ys k _ ∙ e)

pub in_one : (x : Declared) → In (x ∷ []) x
in_one x = (0, omega arith, refl)

pub in_either : {P : Type 0} (xs ys : List Declared) (x : Declared) → In (xs ++ ys) x → (In xs x → P) → (In ys x → P) → P
in_either {P} xs ys x (k, l, e) f g = go (ltb k (length xs)) refl
  where
    go : (b : Bool) → ltb k (length xs) ≡ b → P
    go true q = let m = ltb→lt k (length xs) (true→T q) in f (k, m, sym (get_or-append xs ys _ k m) ∙ e)
    go false q =
        let m : length xs ≤ k = nltb→le k (length xs) (rw q tt) in
        let z : k ≡ length xs + (k - length xs) = omega arith in
        g (k - length xs, omega (arith, l, length-append xs ys, m), sym (get_or-append-add xs ys (k - length xs) _) ∙ ap (entry (xs ++ ys)) (sym z) ∙ e)

in-last : {P : Type 0} (xs : List Declared) (x y : Declared) → In (xs ++ (x ∷ [])) y → (In xs y → P) → (x ≡ y → P) → P
in-last {P} xs x y i f g = in_either xs (x ∷ []) y i f only
  where
    only : In (x ∷ []) y → P
    only (zero, l, e) = g e
    only (suc k, l, e) = absurd (omega arith)

-- name and meaning are the whole of a declaration
whole : (x y : Declared) → x.name ≡ y.name → x.meaning ≡ y.meaning → x ≡ y
whole x y a b = λ i. record { name = a i; meaning = b i }

-- ---------------------------------------------------------------- lines

full : Declared → List ℕ
full x = x.name ++ (124 ∷ meaning_text x.meaning)

full-text : (x : Declared) (r : List ℕ) → x.name ++ (124 ∷ (meaning_text x.meaning ++ r)) ≡ full x ++ r
unfolding full
full-text x r = sym (append_assoc x.name (124 ∷ meaning_text x.meaning) r)

module _ (s : List ℕ) (a f e : ℕ) (x : Declared) (line : LineIs s a f e x) where
  full-long : e - a ≡ length (full x)
  unfolding full
  full-long =
      let n : length x.name ≡ f - 1 - a = sym (ap length line.name) ∙ between-length s a (f - 1) (omega (arith, line.named.low)) (omega (arith, line.named.high)) in
      let m : length (meaning_text x.meaning) ≡ e - f = sym (ap length line.meaning) ∙ between-length s f e line.low line.high in
      omega (arith, n, m, length-append x.name (124 ∷ meaning_text x.meaning), line.named.low, line.low)

  full-here : between s a e ≡ full x
  full-here = (λ i. take (full-long i) ((line.line.text ∙ full-text x line.line.rest) i)) ∙ take-append_seam (full x) line.line.rest

  module _ (q : ℕ) (y : Declared) (there : LineAt s q y) (name : y.name ≡ x.name) where
    pub line_same : same (between s a e) (take (length (between s a e)) (drop q s)) ≡ true → y.meaning ≡ x.meaning
    unfolding full
    line_same t =
        let u : take (length (between s a e)) (drop q s) ≡ full x = sym (same→eq (between s a e) (take (length (between s a e)) (drop q s)) (true→T t)) ∙ full-here in
        let r : List ℕ = drop (length (between s a e)) (drop q s) in
        let v : y.name ++ (124 ∷ (meaning_text y.meaning ++ there.rest)) ≡ x.name ++ (124 ∷ (meaning_text x.meaning ++ r)) =
        sym there.text ∙ sym (take-append-drop (length (between s a e)) (drop q s)) ∙ ap (λ (l : List ℕ). l ++ r) u ∙ sym (full-text x r) in
        let w : x.name ++ (124 ∷ (meaning_text y.meaning ++ there.rest)) ≡ x.name ++ (124 ∷ (meaning_text x.meaning ++ r)) =
        ap (λ (l : List ℕ). l ++ (124 ∷ (meaning_text y.meaning ++ there.rest))) (sym name) ∙ v in
        let z = sym (drop-append_seam x.name (124 ∷ (meaning_text y.meaning ++ there.rest))) ∙ ap (drop (length x.name)) w
        ∙ drop-append_seam x.name (124 ∷ (meaning_text x.meaning ++ r)) in
        meaning-known y.meaning x.meaning there.rest r (ap (drop 1) z)

    pub line_other : same (between s a e) (take (length (between s a e)) (drop q s)) ≡ false → y.meaning ≡ x.meaning → ⊥
    line_other t m =
        let w : y ≡ x = whole y x name m in
        let v : drop q s ≡ full x ++ there.rest = there.text ∙ full-text y there.rest ∙ ap (λ (d : Declared). full d ++ there.rest) w in
        let u : take (length (between s a e)) (drop q s) ≡ full x = (λ i. take (length (full-here i)) (v i)) ∙ take-append_seam (full x) there.rest in
        let b : same (between s a e) (take (length (between s a e)) (drop q s)) ≡ true = T→true _ (rw (u, full-here) (same_refl (full x))) in
        subst T (sym b ∙ t) tt

-- ---------------------------------------------------------------- one declaration

module _ (s p n h : List ℕ) (count a f e : ℕ) (r : Option ℕ) (sought : (xs : List Declared) → Table s p n h xs → Sought p xs (between s a (f - 1)) r)
    (seen : List Declared) (x : Declared) (hold : Holds s seen p n h count) (line : LineIs s a f e x) where
  abbrev es : List Declared
  es = hold.entries

  module _ {q : ℕ} (found : r ≡ Some q) where
    at : Sought p es (between s a (f - 1)) (Some q)
    at = subst (Sought p es (between s a (f - 1))) found (sought es hold.table)

    y : Declared
    y = entry es at.0

    there : LineAt s q y
    unfolding y
    there = subst (λ (i : ℕ). LineAt s i y) (sym at.2) (hold.table.line at.0 at.1)

    name : y.name ≡ x.name
    unfolding y
    name = sym (same→eq (between s a (f - 1)) (name_in es at.0) (true→T at.3)) ∙ line.name

    held : In es y
    unfolding y
    held = (at.0, at.1, refl)

    pub found_inside : (a ≤ e) × (e ≤ length s) × (q ≤ length s)
    found_inside = (omega (arith, line.named.low, line.low), line.high, there.inside)

    pub found-same : same (between s a e) (take (length (between s a e)) (drop q s)) ≡ true → Holds s (seen ++ (x ∷ [])) p n h count
    found-same t =
        let w : y ≡ x = whole y x name (line_same s a f e x line q y there name t) in
        record {
          entries = es;
          table = hold.table;
          counted = hold.counted;
          few = omega (arith, hold.few, length-append seen (x ∷ []));
          all = λ z i. in-last seen x z i (λ j. hold.all z j) (λ j. subst (In es) (w ∙ j) held);
          own = λ z i. in_left seen (x ∷ []) z (hold.own z i);
          one = hold.one;
        }

    pub found-other : same (between s a e) (take (length (between s a e)) (drop q s)) ≡ false → Differs seen x
    found-other t = record { other = y; met = hold.own y held; name = name; apart = line_other s a f e x line q y there name t }

  -- what leads to the entry before it, with the tag, is a number of 32 bits
  pub link-small : (i t : ℕ) → i < 4096 → t < 32768 → t * 131072 + get_or h i 0 < 4294967296
  link-small i t l m = let o = by_old (get_or h i 0) refl in omega (arith, m, o)
    where
      by_old : (y : ℕ) → get_or h i 0 ≡ y → y ≤ 98304
      by_old zero e = omega arith
      by_old (suc k) e = let r = hold.table.head-own i l k e in omega (arith, r.0, hold.table.few)

  found_none : r ≡ None → count < 98304 → (m : ℕ) → m ≡ mark_of (between s a (f - 1))
      → Holds s (seen ++ (x ∷ [])) (set p count a) (set n count ((m / 4096) * 131072 + get_or h (m % 4096) 0)) (set h (m % 4096) (count + 1)) (count + 1)
  found_none none l m q = record {
    entries = es ++ (x ∷ []);
    table = subst (λ (c : ℕ). Table s (set p c a) (set n c ((m / 4096) * 131072 + get_or h (m % 4096) 0)) (set h (m % 4096) (c + 1)) (es ++ (x ∷ []))) (sym hold.counted)
        (subst (λ (y : ℕ). Table s (set p (length es) a) (set n (length es) ((y / 4096) * 131072 + get_or h (m % 4096) 0)) (set h (m % 4096) (length es + 1)) (es ++ (x ∷ []))) (sym (q ∙ ap mark_of line.name))
        (table_more s p n h es x a (m % 4096) hold.table (omega (arith, l, hold.counted)) line.line (ap (λ (y : ℕ). y % 4096) (q ∙ ap mark_of line.name))));
    counted = omega (arith, hold.counted, length-append es (x ∷ []));
    few = omega (arith, hold.few, length-append es (x ∷ []), length-append seen (x ∷ []));
    all = λ z j. in-last seen x z j (λ o. in_left es (x ∷ []) z (hold.all z o)) (λ o. subst (In (es ++ (x ∷ []))) o (in_right es (x ∷ []) x (in_one x)));
    own = λ z j. in-last es x z j (λ o. in_left seen (x ∷ []) z (hold.own z o)) (λ o. subst (In (seen ++ (x ∷ []))) o (in_right seen (x ∷ []) x (in_one x)));
    one = λ y z j k e. in-last es x y j
        (λ o. in-last es x z k (λ o'. hold.one y z o o' e) (λ w. absurd (new y o (e ∙ ap (λ (d : Declared). d.name) (sym w)))))
        (λ w. in-last es x z k (λ o'. absurd (new z o' (sym e ∙ ap (λ (d : Declared). d.name) (sym w)))) (λ w'. ap (λ (d : Declared). d.meaning) (sym w ∙ w')));
  }
    where
      -- no entry has the name
      new : (y : Declared) → In es y → y.name ≡ x.name → ⊥
      new y (k, b, o) e =
          let t : same (between s a (f - 1)) (name_in es k) ≡ false = subst (Sought p es (between s a (f - 1))) none (sought es hold.table) k b in
          let w : between s a (f - 1) ≡ name_in es k = line.name ∙ sym e ∙ ap (λ (d : Declared). d.name) (sym o) in
          subst T (sym (ap (same (between s a (f - 1))) (sym w) ∙ T→true _ (same_refl (between s a (f - 1)))) ∙ t) tt

  pub found-new : r ≡ None → count < 98304 → (i t old : ℕ) → i ≡ chain_of (between s a (f - 1)) → t ≡ tag_of (between s a (f - 1)) → old ≡ get_or h i 0
      → Holds s (seen ++ (x ∷ [])) (set p count a) (set n count (t * 131072 + old)) (set h i (count + 1)) (count + 1)
  found-new none l i t old q w e =
      let m : ℕ = mark_of (between s a (f - 1)) in
      subst (λ (y : ℕ). Holds s (seen ++ (x ∷ [])) (set p count a) (set n count (t * 131072 + y)) (set h i (count + 1)) (count + 1)) (sym e)
      (subst (λ (y : ℕ). Holds s (seen ++ (x ∷ [])) (set p count a) (set n count (y * 131072 + get_or h i 0)) (set h i (count + 1)) (count + 1)) (sym w)
      (subst (λ (y : ℕ). Holds s (seen ++ (x ∷ [])) (set p count a) (set n count ((m / 4096) * 131072 + get_or h y 0)) (set h y (count + 1)) (count + 1)) (sym q)
      (found_none none l m refl)))

-- ---------------------------------------------------------------- a script

-- of the lines ys, those up to the place at are entered
pub record Gone (s : List ℕ) (seen ys : List Declared) (p n h : List ℕ) (c at : ℕ) : Type 0 where
  pub done : List Declared
  pub left : List Declared
  pub whole : ys ≡ done ++ left
  pub holds : Holds s (seen ++ done) p n h c
  pub lines : DeclaredAt s at left

-- whatever declarations are met before, and whatever the lines are
abbrev pub Going : List ℕ → List ℕ → List ℕ → List ℕ → ℕ → ℕ → List ℕ → List ℕ → List ℕ → ℕ → ℕ → Type 0
Going s p₀ n₀ h₀ count q p n h c at = (seen ys : List Declared) → Holds s seen p₀ n₀ h₀ count → DeclaredAt s q ys → Gone s seen ys p n h c at

pub going_start : (s p n h : List ℕ) (count q : ℕ) → Going s p n h count q p n h count q
going_start s p n h count q seen ys k d = record { done = []; left = ys; whole = refl; holds = subst (λ (l : List Declared). Holds s l p n h count) (sym (append-nil seen)) k; lines = d }

module _ (s : List ℕ) (seen ys : List Declared) (p n h : List ℕ) (c at : ℕ) (g : Gone s seen ys p n h c at) (r : Option Line) (next : (xs : List Declared) → DeclaredAt s at xs → NextLine s at xs r) where
  pub gone-end : r ≡ None → Holds s (seen ++ ys) p n h c
  gone-end e = by_left g.left g.whole (subst (NextLine s at g.left) e (next g.left g.lines))
    where
      by_left : (l : List Declared) → ys ≡ g.done ++ l → NextLine s at l None → Holds s (seen ++ ys) p n h c
      by_left [] w k = subst (λ (l : List Declared). Holds s (seen ++ l) p n h c) (sym (w ∙ append-nil g.done)) g.holds
      by_left (x ∷ xs) w k = absurd k

  -- a line that is found is that of the next declaration
  pub record Next (l : Line) : Type 0 where
    pub this : Declared
    pub later : List Declared
    pub whole : ys ≡ g.done ++ (this ∷ later)
    pub low : at < l.end
    pub line : LineIs s l.name l.name_end l.end this
    pub lines : DeclaredAt s l.end later

  pub gone-next : {l : Line} → r ≡ Some l → Next l
  gone-next {l = line} q = by_left g.left g.whole (subst (NextLine s at g.left) q (next g.left g.lines))
    where
      by_left : (l : List Declared) → ys ≡ g.done ++ l → NextLine s at l (Some line) → Next line
      by_left [] w k = absurd k
      by_left (x ∷ xs) w k = record { this = x; later = xs; whole = w; low = k.0; line = k.1; lines = k.2 }

  module _ {line : Line} (x : Next line) where
    pub next-few : length seen + length ys ≤ 98304 → c < 98304
    next-few l =
        omega (arith, l, ap length x.whole, length-append g.done (x.this ∷ x.later), g.holds.counted, g.holds.few, length-append seen g.done)

    module _ (d : Differs (seen ++ g.done) x.this) where
      pub next-clash : Disagrees seen ys
      next-clash =
          record {
            this = x.this;
            among = subst (λ (l : List Declared). In l x.this) (sym x.whole) (in_right g.done (x.this ∷ x.later) x.this (in_left (x.this ∷ []) x.later x.this (in_one x.this)));
            differs = record {
              other = d.other;
              met = subst (λ (l : List Declared). In l d.other) (append_assoc seen g.done (x.this ∷ x.later) ∙ ap (λ (l : List Declared). seen ++ l) (sym x.whole))
                  (in_left (seen ++ g.done) (x.this ∷ x.later) d.other d.met);
              name = d.name;
              apart = d.apart;
            };
          }

    pub next-gone : {p' n' h' : List ℕ} {d : ℕ} → Holds s ((seen ++ g.done) ++ (x.this ∷ [])) p' n' h' d → Gone s seen ys p' n' h' d line.end
    next-gone {p'} {n'} {h'} {d} k = record {
      done = g.done ++ (x.this ∷ []);
      left = x.later;
      whole = x.whole ∙ sym (append_assoc g.done (x.this ∷ []) x.later);
      holds = subst (λ (l : List Declared). Holds s l p' n' h' d) (append_assoc seen g.done (x.this ∷ [])) k;
      lines = x.lines;
    }

-- a clash that is handed on
pub told-clash : (s : List ℕ) (seen ys : List Declared) (t : Names) (r : Result ⊤ Clash) → IsErr r → Disagrees seen ys → ScriptTo s seen ys t r
told-clash s seen ys t (Err e) h d = d
told-clash s seen ys t (Ok u) h d = absurd (false≢true h)
