-- A name's numbers in the three tables, by the line that has it: no two lines have one name.
use Prim.Native.Nat.{ℕ, zero, suc, ◌+◌, ◌-◌, ◌≤◌, ◌<◌}
use Rattle.std.specs.Prelude.{◌≡◌, Bool, true, false, ◌&&◌, not, eqb, length, drop, get_or}
use Rattle.std.proofs.Math.Path.{refl, subst}
use Rattle.std.proofs.Common.{ap, sym, ◌∙◌, eqb→eq, T_not, length-append, get_or-append-add}
use mathlib.Core.List.{List, [], ◌∷◌, ◌++◌, append_assoc}
use Rattle.std.proofs.Math.Option.{none, some}
use native.Mathlib.Omega.{arith}
use Rattle.std.proofs.Math.Dec.{T}
use Rattle.std.proofs.lemmas.Bool.{eqb-false}
use Rattle.std.proofs.lemmas.List.{length-map, get_or_at}
use Rattle.std.proofs.Math.ListN.{get_or-append, get_or-map}
use Rattle.lists.specs.Tests.{same, in_list, every, distinct, and_0, and-1, true→T, no→false, same→eq, in_place}
use Rattle.lists.specs.Build.{find_from}
use Rattle.reading.specs.Trees.{Name, Variable, Array, Function, Declarations}
use Rattle.readback.specs.Printable.{variable_names_in, array_names_in, function_names_in, names_permitted, variable_ok, array_ok, function_ok, declarable}
use Rattle.readback.specs.Rebuild.{variable_number, array_number, function_number}
use Rattle.rebuilt.specs.Built.{no-variable, no-array, no-function, variable_at, array_at, function_at}
use Rattle.rebuilt.specs.NameTables.{tables-distinct}
use Rattle.script_header.specs.declared.Header.{Header}
use Rattle.script_names.specs.declared.Table.{Table}
use Rattle.script_names.specs.Entries.{name_at}
use Rattle.script_decls.specs.Lines.{names_to}
use Rattle.script_entries.specs.Entries.{first_of, variables_of, arrays_of, names_of, KnownTo, Numbers}

-- ---------------------------------------------------------------- the first place that passes a test

module _ {A : Type 0} (p : A → Bool) (d : A) where
  find_none : (k : ℕ) (xs : List A) → ((i : ℕ) → i < length xs → p (get_or xs i d) ≡ false) → find_from p k xs ≡ none
  unfolding find_from
  find_none k [] h = refl
  find_none k (x ∷ xs) h = rw (h 0 (omega arith), find_from) (find_none (suc k) xs (λ i l. h (suc i) (omega arith)))

  find-here : (k : ℕ) (xs : List A) (i : ℕ) → i < length xs → p (get_or xs i d) ≡ true → ((j : ℕ) → j < i → p (get_or xs j d) ≡ false) → find_from p k xs ≡ some (k + i)
  unfolding find_from
  find-here k [] i l h f = absurd (omega arith)
  find-here k (x ∷ xs) zero l h f = let z : k + 0 ≡ k = omega arith in rw (h, find_from, z)
  find-here k (x ∷ xs) (suc i) l h f =
      let z : k + suc i ≡ suc k + i = omega arith in
      rw (f 0 (omega arith), find_from, z) (find-here (suc k) xs i (omega arith) h (λ j m. f (suc j) (omega arith)))

-- ---------------------------------------------------------------- names in order

-- distinct names are the same only at one place
apart : (ns : List Name) → T (distinct ns) → (i j : ℕ) → i < length ns → j < length ns → get_or ns i [] ≡ get_or ns j [] → i ≡ j
apart [] h i j l m e = absurd (omega arith)
apart (n ∷ ns) h zero zero l m e = refl
apart (n ∷ ns) h zero (suc j) l m e =
    absurd (T_not (in_list n ns) (and_0 (not (in_list n ns)) (distinct ns) h) (subst (λ (x : Name). T (in_list x ns)) (sym e) (in_place ns j (omega arith))))
apart (n ∷ ns) h (suc i) zero l m e =
    absurd (T_not (in_list n ns) (and_0 (not (in_list n ns)) (distinct ns) h) (subst (λ (x : Name). T (in_list x ns)) e (in_place ns i (omega arith))))
apart (n ∷ ns) h (suc i) (suc j) l m e = ap suc (apart ns (and-1 (not (in_list n ns)) (distinct ns) h) i j (omega arith) (omega arith) e)

names-long : (b : List ℕ) (c : ℕ) → length (names_to b c) ≡ c
unfolding names_to
names-long b zero = refl
names-long b (suc c) = let e = names-long b c in let l = length-append (names_to b c) (name_at b c ∷ []) in omega arith

names_at : (b : List ℕ) (c j : ℕ) → j < c → get_or (names_to b c) j [] ≡ name_at b j
unfolding names_to
names_at b zero j l = absurd (omega arith)
names_at b (suc c) j l = by_place (eqb j c) refl (λ m. names_at b c j m)
  where
    by_place : (t : Bool) → eqb j c ≡ t → (j < c → get_or (names_to b c) j [] ≡ name_at b j) → get_or (names_to b c ++ (name_at b c ∷ [])) j [] ≡ name_at b j
    by_place true q rest = let z : j ≡ c = eqb→eq j c (true→T q) in rw z (get_or_at (names_to b c) (name_at b c) [] [] c (names-long b c))
    by_place false q rest =
        let g = eqb-false j c q in
        let n = names-long b c in
        get_or-append (names_to b c) (name_at b c ∷ []) [] j (omega arith) ∙ rest (omega arith)

-- ---------------------------------------------------------------- the lines of the header

module _ {m : ℕ} {s : List ℕ} {t : Table} {h : Header} {D : Declarations} (κ : KnownTo m s t h D) where
  abbrev b : List ℕ
  b = drop (first_of h) s

  abbrev vs : List Name
  vs = variable_names_in D

  abbrev rs : List Name
  rs = array_names_in D

  abbrev fs : List Name
  fs = function_names_in D

  line-name : (j : ℕ) → j < names_of h → name_at b j ≡ get_or ((vs ++ rs) ++ fs) j []
  line-name j l = sym (names_at b (names_of h) j l) ∙ ap (λ (ns : List Name). get_or ns j []) κ.names

  pub variable-name : (i : ℕ) → i < length D.variables → name_at b i ≡ (variable_at D i).name
  variable-name i l =
      let m = length-map D.variables (λ (v : Variable). v.name) in
      let q = length-append vs rs in
      line-name i (omega (arith, κ.variables, κ.arrays, κ.functions)) ∙ get_or-append (vs ++ rs) fs [] i (omega arith) ∙ get_or-append vs rs [] i (omega arith)
      ∙ get_or-map (λ (v : Variable). v.name) D.variables i no-variable

  pub array-name : (i : ℕ) → i < length D.arrays → name_at b (variables_of h + i) ≡ (array_at D i).name
  array-name i l =
      let m = length-map D.variables (λ (v : Variable). v.name) in
      let n = length-map D.arrays (λ (a : Array). a.name) in
      let q = length-append vs rs in
      let z : variables_of h ≡ length vs = omega (arith, κ.variables) in
      line-name (variables_of h + i) (omega (arith, κ.variables, κ.arrays, κ.functions)) ∙ get_or-append (vs ++ rs) fs [] (variables_of h + i) (omega (arith, κ.variables))
      ∙ ap (λ (k : ℕ). get_or (vs ++ rs) (k + i) []) z ∙ get_or-append-add vs rs i [] ∙ get_or-map (λ (a : Array). a.name) D.arrays i no-array

  pub function-name : (i : ℕ) → i < length D.functions → name_at b (arrays_of h + i) ≡ (function_at D i).name
  function-name i l =
      let m = length-map D.variables (λ (v : Variable). v.name) in
      let n = length-map D.arrays (λ (a : Array). a.name) in
      let q = length-append vs rs in
      let z : arrays_of h ≡ length (vs ++ rs) = omega (arith, κ.variables, κ.arrays) in
      line-name (arrays_of h + i) (omega (arith, κ.functions)) ∙ ap (λ (k : ℕ). get_or ((vs ++ rs) ++ fs) (k + i) []) z ∙ get_or-append-add (vs ++ rs) fs i []
      ∙ get_or-map (λ (f : Function). f.name) D.functions i no-function

  all-distinct : T (distinct (names_to b (names_of h)))
  unfolding declarable
  all-distinct =
      let p : T (names_permitted vs rs fs) = and_0 (names_permitted vs rs fs) (every variable_ok D.variables && (every array_ok D.arrays && every function_ok D.functions)) κ.declarable in
      subst (λ (ns : List Name). T (distinct ns)) (sym (κ.names ∙ append_assoc vs rs fs)) (tables-distinct vs rs fs p)

  module _ (n : Name) where
    -- no line but line k has the name
    other-lines : (k : ℕ) → k < names_of h → same n (name_at b k) ≡ true → (j : ℕ) → j < names_of h → (j ≡ k → ⊥) → same n (name_at b j) ≡ false
    other-lines k l e j m f = no→false (same n (name_at b j)) (λ q.
        (let x : name_at b j ≡ name_at b k = sym (same→eq n (name_at b j) q) ∙ same→eq n (name_at b k) (true→T e) in
        let y = names-long b (names_of h) in
        f (apart (names_to b (names_of h)) all-distinct j k (omega arith) (omega arith) (names_at b (names_of h) j m ∙ x ∙ sym (names_at b (names_of h) k l)))))

    -- tables without the name
    no-variables : ((i : ℕ) → i < variables_of h → same n (name_at b i) ≡ false) → variable_number D n ≡ none
    no-variables f = find_none (λ (v : Variable). same n v.name) no-variable 0 D.variables (λ i l. ap (same n) (sym (variable-name i l)) ∙ f i (omega (arith, κ.variables)))

    no-arrays : ((i : ℕ) → variables_of h ≤ i → i < arrays_of h → same n (name_at b i) ≡ false) → array_number D n ≡ none
    no-arrays f =
        find_none (λ (a : Array). same n a.name) no-array 0 D.arrays
        (λ i l. ap (same n) (sym (array-name i l)) ∙ f (variables_of h + i) (omega arith) (omega (arith, κ.arrays)))

    no-functions : ((i : ℕ) → arrays_of h ≤ i → i < names_of h → same n (name_at b i) ≡ false) → function_number D n ≡ none
    no-functions f =
        find_none (λ (g : Function). same n g.name) no-function 0 D.functions
        (λ i l. ap (same n) (sym (function-name i l)) ∙ f (arrays_of h + i) (omega arith) (omega (arith, κ.functions)))

    pub no-numbers : ((j : ℕ) → j < names_of h → same n (name_at b j) ≡ false) → Numbers D n none none none
    no-numbers f = record {
      variable = no-variables (λ i l. f i (omega (arith, κ.arrays, κ.functions)));
      array = no-arrays (λ i m l. f i (omega (arith, κ.functions)));
      function = no-functions (λ i m l. f i l);
    }

    module _ (k : ℕ) (low : k < names_of h) (here : same n (name_at b k) ≡ true) where
      pub variable-numbers : k < variables_of h → Numbers D n (some k) none none
      variable-numbers l = record {
        variable =
            find-here (λ (v : Variable). same n v.name) no-variable 0 D.variables k (omega (arith, κ.variables)) (ap (same n) (sym (variable-name k (omega (arith, κ.variables)))) ∙ here)
            (λ j m. ap (same n) (sym (variable-name j (omega (arith, κ.variables)))) ∙ other-lines k low here j (omega arith) (λ e. omega arith))
            ∙ ap (λ (i : ℕ). some i) (let z : 0 + k ≡ k = omega arith in z);
        array = no-arrays (λ i m p. other-lines k low here i (omega (arith, κ.functions)) (λ e. omega arith));
        function = no-functions (λ i m p. other-lines k low here i p (λ e. omega (arith, κ.arrays)));
      }

      pub array-numbers : variables_of h ≤ k → k < arrays_of h → Numbers D n none (some (k - variables_of h)) none
      array-numbers o l =
          let z : variables_of h + (k - variables_of h) ≡ k = omega arith in
          let in_table : k - variables_of h < length D.arrays = omega (arith, κ.arrays) in
          record {
            variable = no-variables (λ i m. other-lines k low here i (omega arith) (λ e. omega arith));
            array =
                find-here (λ (a : Array). same n a.name) no-array 0 D.arrays (k - variables_of h) in_table
                (ap (same n) (sym (array-name (k - variables_of h) in_table) ∙ ap (name_at b) z) ∙ here)
                (λ j m. ap (same n) (sym (array-name j (omega arith))) ∙ other-lines k low here (variables_of h + j) (omega arith) (λ e. omega arith))
                ∙ ap (λ (i : ℕ). some i) (let y : 0 + (k - variables_of h) ≡ k - variables_of h = omega arith in y);
            function = no-functions (λ i m p. other-lines k low here i p (λ e. omega arith));
          }

      pub function-numbers : arrays_of h ≤ k → Numbers D n none none (some (k - arrays_of h))
      function-numbers o =
          let z : arrays_of h + (k - arrays_of h) ≡ k = omega arith in
          let in_table : k - arrays_of h < length D.functions = omega (arith, κ.functions) in
          record {
            variable = no-variables (λ i m. other-lines k low here i (omega (arith, κ.arrays)) (λ e. omega (arith, κ.arrays)));
            array = no-arrays (λ i m p. other-lines k low here i (omega arith) (λ e. omega arith));
            function =
                find-here (λ (f : Function). same n f.name) no-function 0 D.functions (k - arrays_of h) in_table
                (ap (same n) (sym (function-name (k - arrays_of h) in_table) ∙ ap (name_at b) z) ∙ here)
                (λ j m. ap (same n) (sym (function-name j (omega arith))) ∙ other-lines k low here (arrays_of h + j) (omega arith) (λ e. omega arith))
                ∙ ap (λ (i : ℕ). some i) (let y : 0 + (k - arrays_of h) ≡ k - arrays_of h = omega arith in y);
          }
