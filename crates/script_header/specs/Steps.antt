-- Laws of the header, a step at a time.
use Rattle.std.specs.Prelude.{ℕ, ◌-◌, ◌≤◌, ◌<◌, ◌≡◌, Bool, true, false, ◌&&◌, cond, length, drop}
use Rattle.std.proofs.Math.Path.{refl, ap, sym}
use Rattle.std.proofs.Common.{◌∙◌, subst, arith, length-drop}
use mathlib.Core.List.{List, [], ◌∷◌, ◌++◌, map}
use Rattle.std.specs.Prelude.{Option as Maybe, Some, None, is_some}
use Rattle.std.proofs.Math.Option.{none}
use Rattle.lists.specs.Bytes.{bytes}
use Rattle.lists.specs.Tests.{same}
use Rattle.reading.specs.Trees.{Name, Array, Function, Declarations}
use Rattle.echo_spec.specs.Render.{logic_of}
use Rattle.readback.specs.Printable.{array_names_in, function_names_in}
use Rattle.readback.specs.Reader.{took, and_then, expect}
use Rattle.script_tokens.specs.Reached.{between, Stretch, Reached}
use Rattle.script_names.specs.declared.Table.{Table}
use Rattle.script_names.specs.Entries.{entry_from, measure_of, Empty}
use Rattle.script_names.specs.Laws.{tabled_start}
use Rattle.script_decls.specs.Lines.{name_in, checked, names_to, Ready, StageAt, StageTo}
use Rattle.script_header.specs.Header.{ends_logic, begins, begun, declared, header_in, logic_for, Within, HeaderAt, NoHeader, HeaderNoted}
use Rattle.script_header.specs.declared.Header.{Header}
use Rattle.script_decls.specs.Lines.{stage_number}
use Rattle.script_decls.specs.Told.{LineNoted, NotedFrom}
use Rattle.script_decls.specs.declared.Stage.{Stage}
use Rattle.script_decls.specs.declared.Stage.TheVariants.{Variables, Arrays, Functions}

pub ready-start : (s : List ℕ) (t : Table) (first : ℕ) → first ≤ length s → Empty t → Ready s first t 0 first
unfolding entry_from
ready-start s t first l e = record { begin = l; place = l; few = omega arith; tabled = tabled_start s first t e; here = refl }

pub logic-for : (fs : List Function) (rs : List Array) {f a : ℕ} → f ≡ length fs → a ≡ length rs → logic_for f a ≡ logic_of fs rs
unfolding logic_for logic_of
logic-for [] [] p q = (λ i. logic_for (p i) (q i))
logic-for [] (r ∷ rs) p q = (λ i. logic_for (p i) (q i))
logic-for (f ∷ fs) rs p q = (λ i. logic_for (p i) (q i))

-- ---------------------------------------------------------------- what follows

pub begun_first : (s b : List ℕ) (r : Maybe ℕ) → Reached s (expect (bytes "(assert ") b) r → is_some r ≡ true → true ≡ begun b
unfolding begun begins
begun_first s b None h q = cc
begun_first s b (Some e) h q = rw h.1 refl

pub begun-second : (s b : List ℕ) (r q : Maybe ℕ) → Reached s (expect (bytes "(assert ") b) r → is_some r ≡ false → Reached s (expect (bytes "(check-sat)\n") b) q → is_some q ≡ begun b
unfolding begun begins
begun-second s b (Some e) q h p g = cc
begun-second s b None (Some f) h p g = rw (h, g.1) refl
begun-second s b None None h p g = rw (h, g) refl

-- ---------------------------------------------------------------- steps

module _ (s : List ℕ) (at : ℕ) where
  pub header-1 : expect (bytes "(set-logic ") (drop at s) ≡ none → NoHeader s at
  unfolding header_in and_then
  header-1 h f l = rw h

  module _ (p : ℕ) (h : expect (bytes "(set-logic ") (drop at s) ≡ took [] (drop p s)) (z : ℕ) (st : Stretch ends_logic s p z) where
    pub header-2 : expect (bytes ")\n") (drop z s) ≡ none → NoHeader s at
    unfolding header_in and_then
    header-2 g f l = rw (h, st.read, g)

    module _ (first : ℕ) (g : expect (bytes ")\n") (drop z s) ≡ took [] (drop first s)) where
      lines_then : (f : ℕ) → header_in f (drop at s) ≡ and_then (declared f (drop first s)) (λ D r. cond (same (between s p z) (logic_of D.functions D.arrays) && begun r) (took D r) none)
      unfolding header_in and_then
      lines_then f = rw (h, st.read, g) refl

      less : (f e : ℕ) → length s < f → length (drop e s) < f
      less f e l = let x = length-drop e s in omega arith

      pub header-3 : (t : Table) → StageTo 0 s first 0 first t None → NoHeader s at
      unfolding declared and_then names_to
      header-3 t q f l = lines_then f ∙ rw (q f (less f first l)) refl

      module _ (t₁ : Table) (v e₁ : ℕ) (x : StageAt 0 s first 0 first t₁ v e₁) where
        pub header-4 : (t : Table) → StageTo 1 s first v e₁ t None → NoHeader s at
        unfolding declared and_then names_to
        header-4 t q f l = lines_then f ∙ rw (x.read f (less f first l)) (rw (sym (ap (λ (ns : List Name). checked 1 f ns (drop e₁ s)) x.names) ∙ q f (less f e₁ l)) refl)

        module _ (t₂ : Table) (w e₂ : ℕ) (y : StageAt 1 s first v e₁ t₂ w e₂) where
          pub header-5 : (t : Table) → StageTo 2 s first w e₂ t None → NoHeader s at
          unfolding declared and_then names_to
          header-5 t q f l =
              lines_then f ∙ rw (x.read f (less f first l)) (rw (sym (ap (λ (ns : List Name). checked 1 f ns (drop e₁ s)) x.names) ∙ y.read f (less f e₁ l))
              (rw (sym (ap (λ (ns : List Name). checked 2 f ns (drop e₂ s)) (y.names ∙ ap (λ (ns : List Name). ns ++ map (name_in 1) y.lines) x.names)) ∙ q f (less f e₂ l)) refl))

          module _ (t₃ : Table) (c e₃ : ℕ) (k : StageAt 2 s first w e₂ t₃ c e₃) where
            abbrev D : Declarations
            D = record { variables = x.lines; arrays = y.lines; functions = k.lines }

            whole : (f : ℕ) → length s < f → declared f (drop first s) ≡ took D (drop e₃ s)
            unfolding declared and_then names_to
            whole f l =
                rw (x.read f (less f first l)) (rw (sym (ap (λ (ns : List Name). checked 1 f ns (drop e₁ s)) x.names) ∙ y.read f (less f e₁ l))
                (rw (sym (ap (λ (ns : List Name). checked 2 f ns (drop e₂ s)) (y.names ∙ ap (λ (ns : List Name). ns ++ map (name_in 1) y.lines) x.names)) ∙ k.read f (less f e₂ l)) refl))

            ending : (f : ℕ) → length s < f → header_in f (drop at s) ≡ cond (same (between s p z) (logic_of k.lines y.lines) && begun (drop e₃ s)) (took D (drop e₃ s)) none
            unfolding and_then
            ending f l = lines_then f ∙ rw (whole f l) refl

            logic-is : same (between s p z) (logic_for (c - w) (w - v)) ≡ same (between s p z) (logic_of k.lines y.lines)
            logic-is = ap (same (between s p z)) (logic-for k.lines y.lines (omega (arith, k.counted)) (omega (arith, y.counted)))

            pub header-6 : {r : Bool} → r ≡ same (between s p z) (logic_for (c - w) (w - v)) → r ≡ false → NoHeader s at
            header-6 u i f l = ending f l ∙ rw (sym (u ∙ logic-is) ∙ i) refl

            pub header-7 : {r : Bool} → r ≡ begun (drop e₃ s) → r ≡ false → NoHeader s at
            header-7 u i f l = ending f l ∙ rw (sym u ∙ i) (neither (same (between s p z) (logic_of k.lines y.lines)))
              where
                neither : (b : Bool) → cond (b && false) (took D (drop e₃ s)) none ≡ none
                neither true = refl
                neither false = refl

            pub header-whole : {r₁ r₂ : Bool} → first ≤ length s → r₁ ≡ same (between s p z) (logic_for (c - w) (w - v)) → r₁ ≡ true → r₂ ≡ begun (drop e₃ s) → r₂ ≡ true → HeaderAt s at t₃ first v w c e₃
            unfolding names_to
            header-whole l u i o j = record {
              value = D;
              read = λ f m. ending f m ∙ rw (sym (u ∙ logic-is) ∙ i, sym o ∙ j) refl;
              lines = whole;
              begin = l;
              place = k.ready.place;
              variables = omega (arith, x.counted);
              arrays = y.counted;
              functions = k.counted;
              names = k.names ∙ ap (λ (ns : List Name). ns ++ function_names_in D) (y.names ∙ ap (λ (ns : List Name). ns ++ array_names_in D) x.names);
              tabled = k.ready.tabled;
            }

-- ---------------------------------------------------------------- what the lines declare

-- the numbers of three kinds of lines, one kind after the other
pub header-noted : {s : List ℕ} {t₀ t₁ t₂ t₃ : Table} (h : Header) → NotedFrom 0 s h.first 0 t₀ t₁ h.variables → NotedFrom 1 s h.first h.variables t₁ t₂ h.arrays → NotedFrom 2 s h.first h.arrays t₂ t₃ h.names
    → HeaderNoted s t₃ (Some h)
header-noted {s} {t₀} {t₁} {t₂} {t₃} h x y z few k S w l = by_stage S w
  where
    by_stage : (S : Stage) → Within h k S → LineNoted (stage_number S) s h.first k (measure_of t₃ k)
    by_stage Variables i = subst (LineNoted 0 s h.first k) (sym (z.before k (omega (arith, i, y.up)) ∙ y.before k i)) (x.noted (omega (arith, y.up, z.up)) k (omega arith) i)
    by_stage Arrays (i, j) = subst (LineNoted 1 s h.first k) (sym (z.before k j)) (y.noted (omega (arith, z.up)) k i j)
    by_stage Functions i = z.noted few k i l
