-- What is known of declarations, for those who ask by name.
use Rattle.std.specs.Prelude.{ℕ, suc, ◌+◌, ◌≡◌, refl, List, [], ◌∷◌, Bool, true, false, ◌&&◌, T, get_or}
use Rattle.std.proofs.Common.{ap, ◌∙◌, arith}
use Rattle.std.proofs.Math.Option.{none, some}
use Rattle.lists.specs.Tests.{same, every, and_0, and-1}
use Rattle.lists.specs.Build.{find_from, find}
use Rattle.lists.specs.Places.{find-place}
use Rattle.reading.specs.Trees.{Name, Variable, Array, Function, Declarations}
use Rattle.echo_spec.specs.TreeSorts.{variable_named, array_named, function_named}
use Rattle.readback.specs.Printable.{variable_names_in, array_names_in, function_names_in, names_permitted, variable_ok, array_ok, function_ok, declarable}
use Rattle.readback.specs.Rebuild.{variable_number, array_number, function_number}
use Rattle.rebuilt.specs.Built.{no-variable, no-array, no-function, variable_at, array_at, function_at}
use Rattle.rebuilt.specs.Known as rebuilt
use Rattle.rebuilt.specs.Known.{Declared}
use Rattle.script_header.specs.declared.Header.{Header}
use Rattle.script_names.specs.declared.Table.{Table}
use Rattle.script_header.specs.Header.{HeaderAt}
use Rattle.script_entries.specs.Entries.{Entered, Known}

-- ---------------------------------------------------------------- the header

-- the numbers of a header that was read
pub known-header : {s : List ℕ} {t : Table} {h : Header} {at : ℕ} (x : HeaderAt s at t h.first h.variables h.arrays h.names h.end) → T (declarable x.value) → Entered s t h x.value
known-header {h = h} x d = record {
  begin = x.begin;
  end = h.end;
  inside = x.place;
  read = x.lines;
  variables = x.variables;
  arrays = x.arrays;
  functions = x.functions;
  names = x.names;
  tabled = x.tabled;
  declarable = d;
  measured = λ few k l. absurd (omega arith);
}

-- the widths are proper
pub known-declared : {s : List ℕ} {t : Table} {h : Header} {D : Declarations} → Known s t h D → Declared D
unfolding declarable
known-declared {s} {t} {h} {D} κ =
    let p : Bool = names_permitted (variable_names_in D) (array_names_in D) (function_names_in D) in
    let d = and-1 p (every variable_ok D.variables && (every array_ok D.arrays && every function_ok D.functions)) κ.declarable in
    let q = and-1 (every variable_ok D.variables) (every array_ok D.arrays && every function_ok D.functions) d in
    rebuilt.declared D (and_0 (every variable_ok D.variables) (every array_ok D.arrays && every function_ok D.functions) d)
    (and_0 (every array_ok D.arrays) (every function_ok D.functions) q) (and-1 (every array_ok D.arrays) (every function_ok D.functions) q)

-- ---------------------------------------------------------------- an entry by its number

numbered : {A : Type 0} (p : A → Bool) (d : A) (xs : List A) (k : ℕ) → find_from p 0 xs ≡ some k → find p xs ≡ some (get_or xs k d)
numbered p d xs k e = let z : k ≡ 0 + k = omega arith in find-place p d 0 xs k (e ∙ ap (λ (i : ℕ). some i) z)

unnumbered : {A : Type 0} (p : A → Bool) (k : ℕ) (xs : List A) → find_from p k xs ≡ none → find p xs ≡ none
unfolding find_from find
unnumbered p k [] e = refl
unnumbered p k (x ∷ xs) e = by_first (p x) refl e (λ q. unnumbered p (suc k) xs q)
  where
    by_first : (t : Bool) → p x ≡ t → find_from p k (x ∷ xs) ≡ none → (find_from p (suc k) xs ≡ none → find p xs ≡ none) → find p (x ∷ xs) ≡ none
    by_first true q e rest = absurd (let f : some k ≡ none = rw (q, find_from) at e in let z : ◌≡◌ {A = ℕ} 0 1 = cc in omega arith)
    by_first false q e rest = rw (q, find) (rest (rw (q, find_from) at e))

module _ (D : Declarations) (n : Name) where
  pub variable-named : (k : ℕ) → variable_number D n ≡ some k → variable_named D n ≡ some (variable_at D k)
  variable-named k e = numbered (λ (v : Variable). same n v.name) no-variable D.variables k e

  pub variable-unnamed : variable_number D n ≡ none → variable_named D n ≡ none
  variable-unnamed e = unnumbered (λ (v : Variable). same n v.name) 0 D.variables e

  pub array-named : (k : ℕ) → array_number D n ≡ some k → array_named D n ≡ some (array_at D k)
  array-named k e = numbered (λ (a : Array). same n a.name) no-array D.arrays k e

  pub array-unnamed : array_number D n ≡ none → array_named D n ≡ none
  array-unnamed e = unnumbered (λ (a : Array). same n a.name) 0 D.arrays e

  pub function-named : (k : ℕ) → function_number D n ≡ some k → function_named D n ≡ some (function_at D k)
  function-named k e = numbered (λ (f : Function). same n f.name) no-function D.functions k e

  pub function-unnamed : function_number D n ≡ none → function_named D n ≡ none
  function-unnamed e = unnumbered (λ (f : Function). same n f.name) 0 D.functions e
