-- The names in the marks while an assertion is written: when node i comes, the bound nodes below it are named.
use Rattle.std.specs.Prelude.{ℕ, ◌+◌, ◌≤◌, ◌<◌, ◌≡◌, refl, List, [], ◌∷◌, ◌++◌, map, Bool, true, false, ◌&&◌, ◌||◌, not, T, leb, ltb, eqb, ◌≢◌, length, get_or, set, Option, None}
use Rattle.std.proofs.Common.{sym, ap, ◌∙◌, subst, arith, zero-le, eqb-true, lt-ltb, le-ltb}
use Rattle.std.proofs.Math.Bool.{and-false}
use Rattle.std.proofs.Math.Dec.{ltb→lt}
use Rattle.std.proofs.Math.Decide.{dec_lt}
use Rattle.std.proofs.Math.ListN.{get_or-map}
use Rattle.std.proofs.Math.Seq.{map-set_same}
use Rattle.std.proofs.lemmas.Bool.{eqb-false}
use Rattle.std.proofs.lemmas.List.{map-set, length-map}
use Rattle.lists.specs.Bytes.{bytes}
use Rattle.lists.specs.Tests.{among, every, true→T, and_0, and-1}
use Rattle.echo_spec.specs.Shapes.{is_leaf}
use Rattle.echo_spec.specs.Input.{Dag, shape, no_node}
use Rattle.echo_spec.specs.Sharing.{count, used_once}
use Rattle.echo_spec.specs.Tables.{find_node}
use Rattle.echo_spec.specs.ColumnLaws.{Aligned}
use Rattle.echo_spec.specs.Render.{term}
use Rattle.lets.specs.Lets.{named, named_of, shared, reached, binds, rising, binding_of, assertion_of, let_text}
use Rattle.lent.specs.declared.Problem.{Problem as Lent}
use Rattle.lent.specs.Lent.{problem_at, dag_at}
use Rattle.echo_bytes.specs.Page.{Page, written}
use Rattle.echo_bytes.specs.Laws.{written_then}
use Rattle.echo_tables.specs.declared.Mark.{Mark}
use Rattle.echo_tables.specs.declared.TheConstants.{BLANK}
use Rattle.echo_tables.specs.Found.{found_of}
use Rattle.echo_tables.specs.Marks.{mark_at, Marks}
use Rattle.echo_tables.specs.Refused.{refused_at}
use Rattle.echo_sharing.specs.Flags.{Flags, flags-more}
use Rattle.echo_walk.specs.Texts.{plain, planned, text_in}
use Rattle.echo_walk.specs.LetTexts.{own-text, use-text}
use Rattle.echo_bindings.specs.Checking.{uses_at, flagged, Sharing}
use Rattle.echo_bindings.specs.LetRefused.{reached-free}
use Rattle.echo_bindings.specs.LetLines.{opens_from, closes_from, let-lines}

-- ---------------------------------------------------------------- names

-- the mark without a name, and with one
abbrev pub unnamed : Mark → Mark
unnamed m = record { shape = m.shape; told = m.told; named = false }

abbrev pub with_name : Mark → Mark
with_name m = record { shape = m.shape; told = m.told; named = true }

-- node i gets its name
abbrev pub named_at : List Mark → ℕ → List Mark
named_at t i = set t i (with_name (mark_at t i))

-- which nodes are named
abbrev pub names : List Mark → List Bool
names t = map (λ (m : Mark). m.named) t

-- of the bound nodes those below i are named, and no other node is
pub record NamedTo (bound : ℕ → Bool) (i : ℕ) (t : List Mark) : Type 0 where
  pub flags : Flags (λ j. ltb j i && bound j) (names t)

-- ---------------------------------------------------------------- what is known

-- what the walk is lent, but for the marks
pub record Walkable (p : Lent) (ws : List ℕ) (e : List (Option ℕ)) : Type 0 where
  pub side : length (problem_at p).side ≤ 8192
  pub binary : T (every (λ b. leb b 1) (problem_at p).bits)
  pub entered : (i : ℕ) → i < length ws → get_or e i None ≡ found_of (find_node (problem_at p).var_node i)
  pub aligned : Aligned (dag_at p)

-- each node has its mark, whatever is named
pub record Told (d : Dag) (ws : List ℕ) (t : List Mark) : Type 0 where
  pub at : (i : ℕ) → i < length ws → Marks d ws i (mark_at t i)

-- the bound nodes, as the assertion has them: operators that are there and not refused
pub record Bindable (p : Lent) (ws : List ℕ) (bound : ℕ → Bool) : Type 0 where
  pub here : (i : ℕ) → bound i ≡ true → i < length ws
  pub inner : (i : ℕ) → bound i ≡ true → is_leaf (shape (get_or (dag_at p).nodes i no_node)) ≡ false
  pub free : (i : ℕ) → bound i ≡ true → refused_at (dag_at p) ws i ≡ 0

-- node i may be written with these marks
pub record Writable (p : Lent) (ws : List ℕ) (t : List Mark) (i : ℕ) : Type 0 where
  pub told : Told (dag_at p) ws t
  pub leaves : (j : ℕ) → T (is_leaf (shape (get_or (dag_at p).nodes j no_node))) → (mark_at t j).named ≡ false
  pub here : i < length ws
  pub free : refused_at (dag_at p) ws i ≡ 0

-- what is known of a root whose assertion is written
pub record Assertable (p : Lent) (ws : List ℕ) (t : List Mark) (root : ℕ) : Type 0 where
  pub told : Told (dag_at p) ws t
  pub here : root < length (dag_at p).nodes
  pub free : refused_at (dag_at p) ws root ≡ 0

-- ---------------------------------------------------------------- texts

-- the text of a node by the marks
abbrev pub text_by : Lent → List ℕ → List Mark → ℕ → List ℕ
text_by p ws t = text_in (planned (λ j. (mark_at t j).named) (plain (dag_at p) ws (problem_at p).bits))

-- the text of a bound node written out
abbrev pub own_text : Lent → List ℕ → (ℕ → Bool) → ℕ → List ℕ
own_text p ws bound i = term (named_of (dag_at p) ws (problem_at p).bits bound i)

-- an assertion's term
abbrev pub assertion_text : Lent → List ℕ → ℕ → List ℕ
assertion_text p ws root =
    let_text (assertion_of (dag_at p) ws (problem_at p).bits (binds (dag_at p) (uses_at p) root) root).bindings (term (assertion_of (dag_at p) ws (problem_at p).bits (binds (dag_at p) (uses_at p) root) root).body)

-- ---------------------------------------------------------------- marks that differ by names alone

same-mark : (a b : List Mark) → map unnamed b ≡ map unnamed a → (i : ℕ) → unnamed (mark_at b i) ≡ unnamed (mark_at a i)
same-mark a b e i = sym (get_or-map unnamed b i BLANK) ∙ ap (λ (t : List Mark). get_or t i BLANK) e ∙ get_or-map unnamed a i BLANK

pub same-size : (a b : List Mark) → map unnamed b ≡ map unnamed a → length b ≡ length a
same-size a b e = sym (length-map b unnamed) ∙ ap length e ∙ length-map a unnamed

pub told-over : {d : Dag} {ws : List ℕ} {a b : List Mark} → map unnamed b ≡ map unnamed a → Told d ws a → Told d ws b
told-over {a = a} {b = b} e h = record {
  at = λ i l.
      let s = same-mark a b e i in
      let m = h.at i l in
      record { shaped = rw (← ap (λ (x : Mark). x.shape) s) at m.shaped; refused = rw (← ap (λ (x : Mark). x.told) s) at m.refused };
}

pub same-named : (t : List Mark) (i : ℕ) → map unnamed (named_at t i) ≡ map unnamed t
same-named t i = map-set_same unnamed t i (with_name (mark_at t i)) BLANK refl

-- names taken out are out, and nothing else is
pub same-unnamed : (t : List Mark) → map unnamed (map unnamed t) ≡ map unnamed t
same-unnamed [] = refl
same-unnamed (m ∷ t) = ap (λ (l : List Mark). unnamed m ∷ l) (same-unnamed t)

-- ---------------------------------------------------------------- one name more

pub named-none : (bound : ℕ → Bool) (t : List Mark) → NamedTo bound 0 (map unnamed t)
named-none bound t = record { flags = record { at = λ j. get_or-map (λ (m : Mark). m.named) (map unnamed t) j BLANK ∙ ap (λ (m : Mark). m.named) (get_or-map unnamed t j BLANK) ∙ rw (le-ltb j 0 zero-le) refl } }

module _ {bound : ℕ → Bool} {t : List Mark} {i : ℕ} (h : NamedTo bound i t) where
  pub named-more : i < length t → bound i ≡ true → NamedTo bound (i + 1) (named_at t i)
  named-more l q = record { flags = rw map-set (flags-more bound (rw length-map l) (sym q) h.flags) }

  pub named-skip : bound i ≡ false → NamedTo bound (i + 1) t
  named-skip q = record { flags = record { at = λ j. h.flags.at j ∙ by_place j (dec_lt j i) (eqb j i) refl } }
    where
      by_place : (j : ℕ) → Dec (j < i) → (b : Bool) → eqb j i ≡ b → (ltb j i && bound j) ≡ (ltb j (i + 1) && bound j)
      by_place j (yes l) b e = let m : j < i + 1 = omega arith in rw (lt-ltb j i l, lt-ltb j (i + 1) m) refl
      by_place j (no l) true e = let z : j ≡ i = eqb-true j i e in rw (z, q, and-false (ltb i i), and-false (ltb i (i + 1))) refl
      by_place j (no l) false e =
          let z : j ≢ i = eqb-false j i e in
          let k : i ≤ j = omega arith in
          let m : i + 1 ≤ j = omega arith in
          rw (le-ltb j i k, le-ltb j (i + 1) m) refl

-- ---------------------------------------------------------------- the walk over these marks

module _ {p : Lent} {ws : List ℕ} {s : List Bool} (h : Sharing p ws s) where
  abbrev d : Dag
  d = dag_at p

  module _ {bound : ℕ → Bool} {i : ℕ} {t : List Mark} (n : NamedTo bound i t) where
    plan-is : (j : ℕ) → (mark_at t j).named ≡ (ltb j i && bound j)
    plan-is j = sym (get_or-map (λ (m : Mark). m.named) t j BLANK) ∙ n.flags.at j

    plan-below : (j : ℕ) → j < i → (mark_at t j).named ≡ bound j
    plan-below j l = plan-is j ∙ rw (lt-ltb j i l) refl

    plan-here : (mark_at t i).named ≡ false
    plan-here = let l : i ≤ i = omega arith in plan-is i ∙ rw (le-ltb i i l) refl

    module _ (b : Bindable p ws bound) where
      -- a leaf is not bound, so that it has no name
      leaf-free : (j : ℕ) → T (is_leaf (shape (get_or d.nodes j no_node))) → (mark_at t j).named ≡ false
      leaf-free j f = plan-is j ∙ by-bound (bound j) refl
        where
          by-bound : (v : Bool) → bound j ≡ v → (ltb j i && v) ≡ false
          by-bound false q = and-false (ltb j i)
          by-bound true q = absurd (subst T (b.inner j q) f)

      -- any node that is there and not refused may be written
      pub writes : Told d ws t → (j : ℕ) → j < length ws → refused_at d ws j ≡ 0 → Writable p ws t j
      writes m j l f = record { told = m; leaves = leaf-free; here = l; free = f }

      -- node i itself, written out
      pub text-own : bound i ≡ true → text_by p ws t i ≡ own_text p ws bound i
      text-own q = own-text d (length (problem_at p).bits) ws (problem_at p).bits h.measured.widths (λ j. (mark_at t j).named) bound i (b.here i q) plan-below plan-here

    -- a node below where it is used
    pub text-used : (j : ℕ) → j < length ws → j < i → text_by p ws t j ≡ term (named bound (named_of d ws (problem_at p).bits bound) j)
    text-used j l m =
        use-text d (length (problem_at p).bits) ws (problem_at p).bits h.measured.widths (λ j. (mark_at t j).named) bound j l
        (λ k o. plan-below k (omega arith))

  -- ---------------------------------------------------------------- an assertion

  no-leaf : (a b : Bool) → T (not (a || b)) → a ≡ false
  no-leaf true b t = absurd t
  no-leaf false b t = refl

  module _ {marks : List Mark} {root : ℕ} (a : Assertable p ws marks root) where
    pub root-bindable : Bindable p ws (binds d (uses_at p) root)
    unfolding binds shared used_once
    root-bindable = record {
      here = λ i q. let l = ltb→lt i (length d.nodes) (and_0 (ltb i (length d.nodes)) _ (and_0 (shared d (uses_at p) i) _ (true→T q))) in omega (arith, h.measured.counted);
      inner = λ i q. no-leaf (is_leaf (shape (get_or d.nodes i no_node))) (leb (count i (uses_at p)) 1) (and-1 (ltb i (length d.nodes)) _ (and_0 (shared d (uses_at p) i) _ (true→T q)));
      free = λ i q.
          reached-free d ws (length (problem_at p).bits) h.measured.widths h.measured.counted root a.here a.free i (and-1 (shared d (uses_at p) i) (among (reached d root) i) (true→T q));
    }

    pub root-here : root < length ws
    root-here = omega (arith, a.here, h.measured.counted)

    -- the pieces of the assertion, as they are written: of the first nodes' flags u, and the marks t in the end
    module _ (u : List Bool) (e : flagged u ≡ binds d (uses_at p) root) (m : length u ≡ length ws) {t : List Mark} (f : NamedTo (flagged u) (length u) t) where
      pub assertion-written : (o : Page) {a b r s v : Page} → a ≡ written o (bytes "(assert") → b ≡ written a (opens_from (own_text p ws (flagged u)) (flagged u) 0 (length u))
          → r ≡ written b (32 ∷ text_by p ws t root) → s ≡ written r (closes_from (flagged u) 0 (length u)) → v ≡ written s (bytes ")\n")
          → v ≡ written o (bytes "(assert" ++ ((32 ∷ assertion_text p ws root) ++ bytes ")\n"))
      unfolding assertion_of
      assertion-written o {a} {b} {r} {s} {v} p₁ p₂ p₃ p₄ p₅ =
          let bits : List ℕ = (problem_at p).bits in
          let used = text-used f root root-here (omega (arith, root-here)) in
          let body : List ℕ = term (named (flagged u) (named_of d ws bits (flagged u)) root) in
          let lines = let-lines d ws bits (flagged u) body 0 (length u) in
          let whole : v ≡ written o (bytes "(assert" ++ ((32 ∷ let_text (map (binding_of d ws bits (flagged u)) (rising (flagged u) 0 (length u))) body) ++ bytes ")\n")) =
          written_then o (bytes "(assert") _ p₁
          (written_then a _ (bytes ")\n") (written_then a _ _ p₂ (written_then b (32 ∷ body) (closes_from (flagged u) 0 (length u)) (p₃ ∙ ap (λ (x : List ℕ). written b (32 ∷ x)) used) p₄) ∙ ap (written a) (sym lines)) p₅) in
          whole
          ∙ λ k.
          written o (bytes "(assert" ++ ((32 ∷ let_text (map (binding_of d ws bits (e k)) (rising (e k) 0 ((m ∙ h.measured.counted) k))) (term (named (e k) (named_of d ws bits (e k)) root))) ++ bytes ")\n"))
