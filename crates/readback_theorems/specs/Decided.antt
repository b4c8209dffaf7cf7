-- 13 is decided: the reader finds a reading exactly where the bytes are a problem's script.
use Rattle.std.specs.Prelude.{ℕ, zero, suc, ◌≡◌, refl, List, [], ◌∷◌, ◌++◌, map, Bool, true, false, ◌&&◌, not, cond, ◌↔◌, T, eqb, length}
use Rattle.std.proofs.Common.{ap, sym, ◌∙◌, subst, append-nil, arith, eqb→eq}
use Rattle.std.proofs.Math.Option.{Option, none, some}
use Rattle.std.proofs.Math.Dec.{not_T}
use Rattle.std.proofs.Math.ListN.{get_elem?}
use Rattle.lists.specs.Tests.{same, in_list, every, All, and_0, and-1, or_l, or_r, all_left, all_right, all-weaken, by-test, true→T, T→true, every-all, every_in, in_left, in_right, distinct_apart}
use Rattle.lists.specs.Build.{find_from}
use Rattle.lists.specs.Places.{find_at}
use Rattle.reading.specs.Trees.{Name, Variable, Array, Function, Declarations, Reading}
use Rattle.echo_spec.specs.Names.{byte_ok, first_ok, reserved}
use Rattle.echo_spec.specs.NameLaws.{NameByte, name_ok}
use Rattle.echo_spec.proofs.NameLaws.{name-byte}
use Rattle.echo_spec.specs.Render.{render}
use Rattle.readback.specs.Printable.{variable_names_in, array_names_in, function_names_in, printable}
use Rattle.readback.specs.Rebuild.{variable_number, function_number}
use Rattle.readback.specs.Reader.{Took, took}
use Rattle.readback.specs.ScriptReader.{is_empty, read_script, if_whole, reading_in}
use Rattle.rebuilt.specs.NameTables.{tables-distinct, tables-named}
use Rattle.rebuilt.specs.Start.{Checked, checked}
use Rattle.reader_laws.specs.TermsRead.{NoBar, Barred}
use Rattle.reader_laws.specs.ScriptsRead.{AllOk, NamesBarred, read-script}
use Rattle.reader_laws.specs.ScriptsStrict.{script-strict}
use Rattle.readback_theorems.specs.Printables.{ProblemScript, PrintableText, problem-script}

-- ---------------------------------------------------------------- names

pub no-bar : (n : Name) → T (name_ok n) → NoBar n
no-bar n h =
    all-weaken byte_ok (λ c. not (eqb c 124)) (λ c t. not_T (eqb c 124) (λ e. (name-byte c t).no-bar (eqb→eq c 124 e))) n (by-test byte_ok n (and_0 (every byte_ok n) _ h))

module _ {A : Type 0} (name : A → Name) where
  in-at : (xs : List A) (i : ℕ) (x : A) (n : Name) → get_elem? xs i ≡ some x → T (same n (name x)) → T (in_list n (map name xs))
  in-at [] i x n e h = absurd (let z : ◌≡◌ {A = ℕ} 0 1 = cc in omega arith)
  in-at (y ∷ xs) zero x n e h = let q : y ≡ x = cc in or_l (same n (name y)) (in_list n (map name xs)) (rw q h)
  in-at (y ∷ xs) (suc i) x n e h = or_r (same n (name y)) (in_list n (map name xs)) (in-at xs i x n e h)

  found_in : (xs : List A) (n : Name) (k : ℕ) → find_from (λ (x : A). same n (name x)) 0 xs ≡ some k → T (in_list n (map name xs))
  found_in xs n k e =
      let (i, x, p, q, h) = find_at (λ (x : A). same n (name x)) 0 xs k e in
      in-at xs i x n q h

  bars : (xs : List A) → All name_ok (map name xs) → AllOk (λ (x : A). NoBar (name x)) xs
  bars [] h = tt
  bars (x ∷ xs) (h, k) = (no-bar (name x) h, bars xs k)

module _ (r : Reading) (h : T (printable r)) where
  abbrev D : Declarations
  D = r.declarations

  abbrev vs : List Name
  vs = variable_names_in r.declarations

  abbrev rs : List Name
  rs = array_names_in r.declarations

  abbrev fs : List Name
  fs = function_names_in r.declarations

  named : All name_ok (vs ++ (rs ++ fs))
  named = tables-named vs rs fs (checked r h).names

  in-barred : (n : Name) → T (in_list n (vs ++ (rs ++ fs))) → NoBar n
  in-barred n m = no-bar n (every_in name_ok (vs ++ (rs ++ fs)) n (every-all name_ok (vs ++ (rs ++ fs)) named) m)

  names-barred : NamesBarred r.declarations
  names-barred =
      let later = all_right name_ok vs (rs ++ fs) named in
      record {
        variables = bars (λ (v : Variable). v.name) r.declarations.variables (all_left name_ok vs (rs ++ fs) named);
        arrays = bars (λ (a : Array). a.name) r.declarations.arrays (all_left name_ok rs fs later);
        functions = bars (λ (f : Function). f.name) r.declarations.functions (all_right name_ok rs fs later);
      }

  pub barred : Barred r.declarations
  barred = record {
    variables = λ n k e. in-barred n (in_left n vs (rs ++ fs) (found_in (λ (v : Variable). v.name) r.declarations.variables n k e));
    arrays = λ n k e. in-barred n (in_right n vs (rs ++ fs) (in_left n rs fs (found_in (λ (a : Array). a.name) r.declarations.arrays n k e)));
    functions = λ n k e. in-barred n (in_right n vs (rs ++ fs) (in_right n rs fs (found_in (λ (f : Function). f.name) r.declarations.functions n k e)));
    apart = λ n k e. no-variable n k e (variable_number r.declarations n) refl;
  }
    where
      no-variable : (n : Name) (k : ℕ) → function_number r.declarations n ≡ some k → (o : Option ℕ) → variable_number r.declarations n ≡ o → variable_number r.declarations n ≡ none
      no-variable n k e none q = q
      no-variable n k e (some j) q =
          absurd (distinct_apart vs (rs ++ fs) n (tables-distinct vs rs fs (checked r h).names) (found_in (λ (v : Variable). v.name) r.declarations.variables n j q)
          (in_right n rs fs (found_in (λ (f : Function). f.name) r.declarations.functions n k e)))

  -- What is read of a script's bytes, and what follows it, are what was joined.
  pub script-read : (z : List ℕ) → read_script (render r ++ z) ≡ took r z
  script-read z = read-script r z barred names-barred (checked r h).assertions

-- ---------------------------------------------------------------- 13

empty-is : (b : List ℕ) → T (is_empty b) → b ≡ []
empty-is [] h = refl
empty-is (c ∷ b) h = absurd h

whole-read : (o : Option (Took Reading)) (r : Reading) → if_whole o ≡ some r → (o ≡ took r []) × T (printable r)
unfolding if_whole
whole-read none r e = absurd (let z : ◌≡◌ {A = ℕ} 0 1 = cc in omega arith)
whole-read (some t) r e = by-test (is_empty t.rest && printable t.value) refl e
  where
    by-test : (b : Bool) → (is_empty t.rest && printable t.value) ≡ b → cond b (some t.value) none ≡ some r → (some t ≡ took r []) × T (printable r)
    by-test true q e =
        let v : t.value ≡ r = cc in
        let h = true→T q in
        let z : t.rest ≡ [] = empty-is t.rest (and_0 (is_empty t.rest) (printable t.value) h) in
        ((λ i. some (record { value = v i; rest = z i })), subst (λ (x : Reading). T (printable x)) v (and-1 (is_empty t.rest) (printable t.value) h))
    by-test false q e = absurd (let z : ◌≡◌ {A = ℕ} 0 1 = cc in omega arith)

reads-itself : (r : Reading) → T (printable r) → reading_in (render r) ≡ some r
unfolding reading_in if_whole
reads-itself r h =
    let e : read_script (render r) ≡ took r [] = ap read_script (sym (append-nil (render r))) ∙ script-read r h [] in
    rw (e, T→true (printable r) h)

-- The reader finds a reading exactly where it is printable and the bytes are its text.
pub reading-in : (b : List ℕ) (r : Reading) → (reading_in b ≡ some r) ↔ (T (printable r) × (render r ≡ b))
unfolding reading_in
reading-in b r = (
  λ e. (let (q, h) = whole-read (read_script b) r e in (h, sym (script-strict b r [] q ∙ append-nil (render r)))),
  λ (h, e). subst (λ (x : List ℕ). reading_in x ≡ some r) e (reads-itself r h),
)

-- 13 is answered where the reader finds nothing, and that is where the bytes are no problem's script.
pub thirteen : (b : List ℕ) → (reading_in b ≡ none) ↔ (ProblemScript b → ⊥)
thirteen b = (
  λ e p. (let (r, h, q) = (problem-script b).0 p in
      let f : none ≡ some r = sym e ∙ (reading-in b r).1 (h, q) in
      let z : ◌≡◌ {A = ℕ} 0 1 = cc in omega arith),
  λ f. by_read f (reading_in b) refl,
)
  where
    by_read : (ProblemScript b → ⊥) → (o : Option Reading) → reading_in b ≡ o → reading_in b ≡ none
    by_read f none e = e
    by_read f (some r) e = (let (h, q) = (reading-in b r).0 e in absurd (f ((problem-script b).1 (r, h, q))))

-- ---------------------------------------------------------------- scripts end to end

-- no script is the beginning of a longer one, and what is joined comes apart in one way
pub scripts-apart : (r r' : Reading) → T (printable r) → T (printable r') → (x y : List ℕ) → render r ++ x ≡ render r' ++ y → (r ≡ r') × (x ≡ y)
scripts-apart r r' h h' x y e =
    let q : took r x ≡ took r' y = sym (script-read r h x) ∙ ap read_script e ∙ script-read r' h' y in (
      ap (λ (o : Option (Took Reading)). elim o as (λ _. Reading) [ none ↦ r | some t ↦ t.value ]) q,
      ap (λ (o : Option (Took Reading)). elim o as (λ _. List ℕ) [ none ↦ x | some t ↦ t.rest ]) q,
    )
