-- The names of lines, written one after the other; and the lines of a known table.
use Prim.Native.Nat.{ℕ, zero, suc, ◌+◌, ◌-◌, ◌≤◌, ◌<◌}
use Rattle.std.specs.Prelude.{◌≡◌, Bool, length, drop, set}
use Rattle.std.proofs.Math.Path.{refl, ap}
use Rattle.std.proofs.Common.{sym, ◌∙◌, subst, ext_get_or}
use mathlib.Core.List.{List, [], ◌∷◌, ◌++◌, map}
use Rattle.std.proofs.Math.Bool.{true, false}
use native.Mathlib.Omega.{arith}
use Rattle.std.proofs.Math.Dec.{eqb, eqb→eq}
use borrow.Author.Tests.{eqb-false}
use Rattle.std.proofs.Math.ListN.{get_or, length-append, get_or-append, get_or-map}
use Rattle.std.proofs.lemmas.List.{length-map, get_or_at}
use Rattle.std.proofs.lemmas.Slice.{put_mid-paste}
use borrow.Rule.Slice.PartMut.{put_mid}
use Rattle.std.proofs.Math.Seq.{paste}
use Rattle.lists.specs.Tests.{true→T}
use Rattle.reading.specs.Trees.{Name, Variable, Array, Function, Declarations}
use Rattle.echo_spec.specs.Answers.{at_front}
use Rattle.readback.specs.Printable.{variable_names_in, array_names_in, function_names_in}
use Rattle.readback.specs.Reader.{Took}
use Rattle.readback.specs.Rebuild.{starts_counted_from, arena}
use Rattle.rebuilt.specs.Built.{no-variable, no-array, no-function}
use Rattle.script_tokens.specs.Reached.{between, Stretch, ends_name}
use Rattle.script_names.specs.Entries.{name_here, name_at, place_of}
use Rattle.script_names.specs.declared.Table.{Table}
use Rattle.script_header.specs.declared.Header.{Header}
use Rattle.script_entries.specs.Entries.{first_of, variables_of, arrays_of, names_of, Known}
use Rattle.script_entries.specs.Finding.{variable-name, array-name, function-name}
use Rattle.script_fill.specs.Filling.{line_name, line_names, Lines, Few, NamesFit, NamesFilled, VariablesFit, ArraysFit, FunctionsFit}
use Rattle.script_fill.specs.Laws.{front-none, front_long, front-more, front-paste, arena-more, starts_more, starts-long, lengths-more}

-- ---------------------------------------------------------------- names of lines

module _ (s : List ℕ) (t : Table) (from : ℕ) where
  abbrev names : ℕ → List Name
  names c = line_names s t from c

  pub names-long : (c : ℕ) → length (names c) ≡ c
  unfolding line_names
  names-long zero = refl
  names-long (suc c) = let e = names-long c in let l = length-append (names c) (line_name s t (from + c) ∷ []) in omega arith

  names-next : (c : ℕ) → names (c + 1) ≡ names c ++ (line_name s t (from + c) ∷ [])
  unfolding line_names
  names-next c = let z : c + 1 ≡ suc c = omega arith in rw z refl

  names_at : (c i : ℕ) → i < c → get_or (names c) i [] ≡ line_name s t (from + i)
  unfolding line_names
  names_at zero i l = absurd (omega arith)
  names_at (suc c) i l = by_place (eqb i c) refl (λ m. names_at c i m)
    where
      by_place : (b : Bool) → eqb i c ≡ b → (i < c → get_or (names c) i [] ≡ line_name s t (from + i)) → get_or (names c ++ (line_name s t (from + c) ∷ [])) i [] ≡ line_name s t (from + i)
      by_place true q rest = let z : i ≡ c = eqb→eq i c (true→T q) in rw z (get_or_at (names c) (line_name s t (from + c)) [] [] c (names-long c))
      by_place false q rest =
          let g = eqb-false i c q in
          let n = names-long c in
          get_or-append (names c) (line_name s t (from + c) ∷ []) [] i (omega arith) ∙ rest (omega arith)

  -- with one name more the arena is longer by it
  arena-next : (c : ℕ) → length (arena (names (c + 1))) ≡ length (arena (names c)) + length (line_name s t (from + c))
  arena-next c = ap (λ (ns : List Name). length (arena ns)) (names-next c) ∙ ap length (arena-more (names c) (line_name s t (from + c))) ∙ length-append (arena (names c)) (line_name s t (from + c))

  arena-on : (c d : ℕ) → length (arena (names c)) ≤ length (arena (names (c + d)))
  arena-on c zero = let z : c + 0 ≡ c = omega arith in rw z (omega arith)
  arena-on c (suc d) =
      let z : c + suc d ≡ c + d + 1 = omega arith in
      let a = arena-on c d in
      let b = arena-next (c + d) in
      rw z (omega arith)

  pub arena-grows : (c e : ℕ) → c ≤ e → length (arena (names c)) ≤ length (arena (names e))
  arena-grows c e l = let z : c + (e - c) ≡ e = omega arith in subst (λ (k : ℕ). length (arena (names c)) ≤ length (arena (names k))) z (arena-on c (e - c))

-- the bytes of a line up to the bar are its name
pub name-between : {s : List ℕ} (t : Table) (k : ℕ) {p e : ℕ} → p ≡ place_of t k → Stretch ends_name s p e → between s p e ≡ line_name s t k
unfolding name_here
name-between {s} t k here st = sym (ap (λ (i : ℕ). name_here (drop i s)) (sym here) ∙ ap (λ (x : Took (List ℕ)). x.value) st.read)

-- ---------------------------------------------------------------- measuring them

-- the first i names of lines have n bytes, which is within the limit
pub record Summed (s : List ℕ) (t : Table) (from i n : ℕ) : Type 0 where
  pub size : n ≡ length (arena (line_names s t from i))
  pub few : n ≤ 16384

pub summed-none : (s : List ℕ) (t : Table) (from : ℕ) → Summed s t from 0 0
unfolding line_names arena
summed-none s t from = record { size = refl; few = omega arith }

module _ {s : List ℕ} {t : Table} {from i n : ℕ} (x : Summed s t from i n) where
  module _ {part : List ℕ} (is : part ≡ line_name s t (from + i)) where
    size-next : length (arena (line_names s t from (i + 1))) ≡ n + length part
    size-next = let y = arena-next s t from i in omega (arith, x.size, ap length is)

    pub summed_more : n + length part ≤ 16384 → Summed s t from (i + 1) (n + length part)
    summed_more l = record { size = sym size-next; few = l }

    pub summed-over : {count : ℕ} → i < count → 16384 - n < length part → length (arena (line_names s t from count)) ≤ 16384 → ⊥
    summed-over {count} l o m = let y = arena-grows s t from (i + 1) count (omega arith) in let z = size-next in omega (arith, x.few)

  pub summed_all : {count : ℕ} → i ≡ count → (length (arena (line_names s t from count)) ≤ 16384) × (n ≡ length (arena (line_names s t from count)))
  summed_all {count} q =
      let y : length (arena (line_names s t from i)) ≡ length (arena (line_names s t from count)) = ap (λ (k : ℕ). length (arena (line_names s t from k))) q in
      (omega (arith, x.size, x.few), omega (arith, x.size))

-- ---------------------------------------------------------------- writing them

-- the first i names of lines are written, and the next goes to place `at`
pub record Written (s : List ℕ) (t : Table) (from i at : ℕ) (a₀ b₀ c₀ a b c : List ℕ) : Type 0 where
  pub place : at ≡ length (arena (line_names s t from i))
  pub bytes : a ≡ at_front (arena (line_names s t from i)) a₀
  pub starts : b ≡ at_front (starts_counted_from 0 (line_names s t from i)) b₀
  pub lengths : c ≡ at_front (map length (line_names s t from i)) c₀

pub written_none : (s : List ℕ) (t : Table) (from : ℕ) (a b c : List ℕ) → Written s t from 0 0 a b c a b c
unfolding line_names arena starts_counted_from
written_none s t from a b c = record { place = refl; bytes = front-none a; starts = front-none b; lengths = front-none c }

module _ {s : List ℕ} {t : Table} {from count i at : ℕ} {a₀ b₀ c₀ a b c : List ℕ} (w : Written s t from i at a₀ b₀ c₀ a b c) where
  -- all names are written
  pub written_all : i ≡ count → NamesFilled (line_names s t from count) a₀ b₀ c₀ a b c
  written_all e =
      let q : line_names s t from i ≡ line_names s t from count = ap (line_names s t from) e in
      record {
        names = w.bytes ∙ ap (λ (ns : List Name). at_front (arena ns) a₀) q;
        starts = w.starts ∙ ap (λ (ns : List Name). at_front (starts_counted_from 0 ns) b₀) q;
        lengths = w.lengths ∙ ap (λ (ns : List Name). at_front (map length ns) c₀) q;
      }

  -- there is room for one name more
  module _ (l : i < count) (f : NamesFit (line_names s t from count) a₀ b₀ c₀) where
    pub starts-room : i < length b
    starts-room =
        let x = starts-long (line_names s t from i) in
        let y = names-long s t from i in
        let z = names-long s t from count in
        let u = front_long (starts_counted_from 0 (line_names s t from i)) b₀ (omega (arith, f.starts)) in
        omega (arith, ap length w.starts, f.starts)

    pub lengths-room : i < length c
    lengths-room =
        let x = length-map (line_names s t from i) length in
        let y = names-long s t from i in
        let z = names-long s t from count in
        let u = front_long (map length (line_names s t from i)) c₀ (omega (arith, f.lengths)) in
        omega (arith, ap length w.lengths, f.lengths)

    module _ {part : List ℕ} (is : part ≡ line_name s t (from + i)) where
      name-long : length (line_name s t (from + i)) ≡ length part
      name-long = ap length (sym is)

      pub names-room : at + length part ≤ length a
      names-room =
          let x = arena-grows s t from (i + 1) count (omega arith) in
          let y = arena-next s t from i in
          let z = front_long (arena (line_names s t from i)) a₀ (omega (arith, f.names)) in
          omega (arith, w.place, name-long, ap length w.bytes, f.names)

      pub written-more : {copied : List ℕ} → copied ≡ part
          → Written s t from (i + 1) (at + length part) a₀ b₀ c₀ (put_mid at (at + length part - at) a copied) (set b i at) (set c i (length part))
      written-more {copied} q =
          let n : Name = line_name s t (from + i) in
          let x = starts-long (line_names s t from i) in
          let y = length-map (line_names s t from i) length in
          let z = names-long s t from i in
          let next : line_names s t from (i + 1) ≡ line_names s t from i ++ (n ∷ []) = names-next s t from i in
          record {
            place = (let v = arena-next s t from i in omega (arith, w.place, name-long));
            bytes =
                put_mid-paste at (at + length part - at) a copied part (length part) q (omega arith) refl
                ∙ (λ j. paste (w.bytes j) at (is j) (length part)) ∙ front-paste (arena (line_names s t from i)) a₀ n at (length part) (sym w.place) name-long
                ∙ ap (λ (l : List ℕ). at_front l a₀) (sym (ap arena next ∙ arena-more (line_names s t from i) n));
            starts =
                ap (λ (l : List ℕ). set l i at) w.starts ∙ front-more (starts_counted_from 0 (line_names s t from i)) b₀ i at (omega arith) (omega (arith, f.starts, names-long s t from count))
                ∙ ap (λ (l : List ℕ). at_front l b₀)
                (ap (λ (k : ℕ). starts_counted_from 0 (line_names s t from i) ++ (k ∷ [])) w.place ∙ sym (ap (starts_counted_from 0) next ∙ starts_more (line_names s t from i) n));
            lengths =
                ap (λ (l : List ℕ). set l i (length part)) w.lengths ∙ front-more (map length (line_names s t from i)) c₀ i (length part) (omega arith) (omega (arith, f.lengths, names-long s t from count))
                ∙ ap (λ (l : List ℕ). at_front l c₀)
                (ap (λ (k : ℕ). map length (line_names s t from i) ++ (k ∷ [])) (sym name-long) ∙ sym (ap (map length) next ∙ lengths-more (line_names s t from i) n));
          }

-- ---------------------------------------------------------------- the lines of a known table

module _ {s : List ℕ} {t : Table} {h : Header} {D : Declarations} (x : Few s t h D) where
  abbrev κ : Known s t h D
  κ = x.known

  line-name : (k : ℕ) → k < names_of h → line_name s t k ≡ name_at (drop (first_of h) s) k
  line-name k l = ap name_here ((κ.tabled.chains x.few).entry k l)

  pub known-lines : (from count : ℕ) → from + count ≤ names_of h → Lines s t from count
  known-lines from count l = record { inside = omega (arith, x.few); place = λ i m. (κ.tabled.chains x.few).place (from + i) (omega arith) }

  -- lines with the names of a table
  lines_are : {A : Type 0} (name : A → Name) (d : A) → name d ≡ [] → (xs : List A) (from : ℕ) → from + length xs ≤ names_of h
      → ((i : ℕ) → i < length xs → name_at (drop (first_of h) s) (from + i) ≡ name (get_or xs i d)) → line_names s t from (length xs) ≡ map name xs
  lines_are name d e xs from l f =
      let a = names-long s t from (length xs) in
      let b = length-map xs name in
      ext_get_or [] (line_names s t from (length xs)) (map name xs) (omega arith)
      (λ i m. names_at s t from (length xs) i (omega arith) ∙ line-name (from + i) (omega arith) ∙ f i (omega arith) ∙ sym (ap (λ (n : Name). get_or (map name xs) i n) (sym e) ∙ get_or-map name xs i d))

  pub variable-lines : line_names s t 0 (variables_of h) ≡ variable_names_in D
  variable-lines =
      ap (line_names s t 0) κ.variables
      ∙ lines_are (λ (v : Variable). v.name) no-variable refl D.variables 0 (omega (arith, κ.variables, κ.arrays, κ.functions))
      (λ i l. ap (name_at (drop (first_of h) s)) (let z : 0 + i ≡ i = omega arith in z) ∙ variable-name κ i l)

  pub array-lines : line_names s t (variables_of h) (arrays_of h - variables_of h) ≡ array_names_in D
  array-lines =
      ap (line_names s t (variables_of h)) (let z : arrays_of h - variables_of h ≡ length D.arrays = omega (arith, κ.arrays) in z)
      ∙ lines_are (λ (a : Array). a.name) no-array refl D.arrays (variables_of h) (omega (arith, κ.arrays, κ.functions)) (λ i l. array-name κ i l)

  pub function-lines : line_names s t (arrays_of h) (names_of h - arrays_of h) ≡ function_names_in D
  function-lines =
      ap (line_names s t (arrays_of h)) (let z : names_of h - arrays_of h ≡ length D.functions = omega (arith, κ.functions) in z)
      ∙ lines_are (λ (f : Function). f.name) no-function refl D.functions (arrays_of h) (omega (arith, κ.functions)) (λ i l. function-name κ i l)

  -- ---------------------------------------------------------------- room for a table

  module _ {a b c d e : List ℕ} where
    pub variables-fit : VariablesFit D a b c d e → Lines s t 0 (variables_of h) × NamesFit (line_names s t 0 (variables_of h)) a b c
    variables-fit f = (known-lines 0 (variables_of h) (omega (arith, κ.arrays, κ.functions)), subst (λ (ns : List Name). NamesFit ns a b c) (sym variable-lines) f.named)

    pub arrays-fit : ArraysFit D a b c d e → Lines s t (variables_of h) (arrays_of h - variables_of h) × NamesFit (line_names s t (variables_of h) (arrays_of h - variables_of h)) a b c
    arrays-fit f = (
      known-lines (variables_of h) (arrays_of h - variables_of h) (omega (arith, κ.arrays, κ.functions)),
      subst (λ (ns : List Name). NamesFit ns a b c) (sym array-lines) f.named,
    )

  module _ {a b c d : List ℕ} where
    pub functions-fit : FunctionsFit D a b c d → Lines s t (arrays_of h) (names_of h - arrays_of h) × NamesFit (line_names s t (arrays_of h) (names_of h - arrays_of h)) a b c
    functions-fit f = (
      known-lines (arrays_of h) (names_of h - arrays_of h) (omega (arith, κ.functions)),
      subst (λ (ns : List Name). NamesFit ns a b c) (sym function-lines) f.named,
    )

  -- the variables are as many as their names
  pub variable-count : variables_of h ≡ length (variable_names_in D)
  variable-count = κ.variables ∙ sym (length-map D.variables (λ (v : Variable). v.name))
