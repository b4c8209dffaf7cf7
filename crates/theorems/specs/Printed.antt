-- An accepted problem: its reading is sound, so its script is read as it and as nothing else, and is well sorted.
use Rattle.std.specs.Prelude.{ℕ, ◌≡◌, refl, List, [], ◌∷◌, ◌++◌, Bool, true, false, ◌&&◌, ◌||◌, not, T, leb, ltb, eqb, length, get_or}
use Rattle.std.proofs.Common.{◌∙◌, arith, eqb→eq, le→leb, lt→ltb, T_not}
use Rattle.std.proofs.Math.Option.{Option, none as nothing, some}
use Rattle.std.proofs.Math.Dec.{nleb→lt, not_T}
use Rattle.lists.specs.Bytes.{bytes}
use Rattle.lists.specs.Tests.{
  same,
  among,
  in_list,
  every,
  All,
  and_0,
  and-1,
  and_T,
  or_l,
  or_r,
  or_elim,
  all-weaken,
  by-test,
  every-all,
  every-at,
  every_in,
  every-place,
  distinct,
}
use Rattle.lists.specs.Build.{map-tabulate, tabulate-places, all-tabulate}
use Rattle.reading.specs.Trees.{Name, Trees, none, more, Variable, Array, Function, Declarations}
use Rattle.smtlib.specs.Lexicon.{blank, quotable}
use Rattle.smtlib.specs.Readings.{built_in, operators, variable_names, array_names, function_names, declared_names}
use Rattle.smtlib.specs.Sorts.{bool, theory_symbols, solver_symbol, free}
use Rattle.echo_spec.specs.Input.{ArrayWidths, Dag, Query, no_node, name_table, aname_table, fname_table}
use Rattle.echo_spec.specs.Widths.{index_width_of, value_width_of, widths_of}
use Rattle.echo_spec.specs.Names.{byte_ok, first_ok, rust_words, smtlib27_words, reserved}
use Rattle.echo_spec.specs.Tables.{find_call, arguments_inside, decl_vars_ok, signature, decl_func_ok, decl_funcs_ok, declarations_of}
use Rattle.echo_spec.specs.Trees.{reading_of}
use Rattle.echo_spec.specs.TreeSorts.{TreeSort, has_sort, sort_under, none_bound, tree_sort, all_bool}
use Rattle.echo_spec.specs.TreeSortLaws.{has-eq}
use Rattle.echo_spec.specs.SortedTrees.{declarations_in}
use Rattle.echo_spec.proofs.SortedTrees.{roots-sorted}
use Rattle.echo_spec.specs.Walk.{refusal_with}
use Rattle.echo_spec.specs.Accepted.{Checked}
use Rattle.echo_spec.proofs.Accepted.{accepted}
use Rattle.echo_spec.proofs.NodeLaws.{index-bound, value-bound}
use Rattle.echo_spec.specs.ColumnLaws.{columns-aligned, names-counted}
use Rattle.echo_spec.specs.NameLaws.{NameByte, name_ok, all_names}
use Rattle.echo_spec.proofs.NameLaws.{name-byte, names-distinct, names-ok}
use Rattle.theorems.specs.Terms.{FitsAll}
use Rattle.theorems.specs.Fitting.{fits}
use Rattle.theorems.specs.Scripts.{bools, wide, SoundDeclarations, Sound}

-- ---------------------------------------------------------------- names

split : {C : Type 0} (a : Bool) → (T a → C) → (T (not a) → C) → C
split true f g = f tt
split false f g = g tt

-- the standard has the printable bytes in two ranges, below 127 and above
quotable-range : (c : ℕ) → NameByte c → T ((leb 32 c && leb c 126) || ((leb 128 c && leb c 255) || blank c))
quotable-range c b =
    split (leb c 126) (λ low. or_l (leb 32 c && leb c 126) _ (and_T (leb 32 c) (leb c 126) (le→leb 32 c b.printable) low)) λ high.
    or_r (leb 32 c && leb c 126) _
    (or_l (leb 128 c && leb c 255) (blank c)
    (and_T (leb 128 c) (leb c 255) (le→leb 128 c (omega (arith, nleb→lt c 126 high, b.no_delete))) (le→leb c 255 b.in_byte)))

pub quotable-byte : (c : ℕ) → T (byte_ok c) → T (quotable c)
quotable-byte c t =
    let b = name-byte c t in
    and_T ((leb 32 c && leb c 126) || ((leb 128 c && leb c 255) || blank c)) (not (among (124 ∷ 92 ∷ []) c)) (quotable-range c b)
    (not_T (among (124 ∷ 92 ∷ []) c) λ q.
    or_elim (eqb c 124) (among (92 ∷ []) c) q (λ e. b.no-bar (eqb→eq c 124 e))
    (λ q. or_elim (eqb c 92) false q (λ e. b.no_backslash (eqb→eq c 92 e)) (λ z. z)))

-- the words that the standard gives a meaning are among the words that no name may be
built-in-reserved : T (every (λ n. in_list n reserved) built_in)
unfolding built_in operators reserved rust_words smtlib27_words bytes same
built-in-reserved = tt

theory-reserved : T (every (λ n. in_list n reserved) theory_symbols)
unfolding theory_symbols reserved rust_words smtlib27_words bytes same
theory-reserved = tt

-- a name that is no reserved word is none of the words, if all of those are reserved
pub not-among : (words : List Name) → T (every (λ n. in_list n reserved) words) → (n : Name) → T (not (in_list n reserved)) → T (not (in_list n words))
not-among words h n t = not_T (in_list n words) λ q. T_not (in_list n reserved) t (every_in (λ n. in_list n reserved) words n h q)

pub no-solver-symbol : (n : Name) → T (first_ok n) → T (not (solver_symbol n))
unfolding first_ok
no-solver-symbol [] h = tt
no-solver-symbol (c ∷ s) h =
    not_T (among (64 ∷ 46 ∷ []) c) λ q.
    or_elim (eqb c 64) (among (46 ∷ []) c) q (T_not (eqb c 64) (and_0 (not (eqb c 64)) (not (eqb c 46)) h))
    (λ q. or_elim (eqb c 46) false q (T_not (eqb c 46) (and-1 (not (eqb c 64)) (not (eqb c 46)) h)) (λ z. z))

pub name-reserved : (n : Name) → T (name_ok n) → T (not (in_list n reserved))
name-reserved n h = and-1 (first_ok n) (not (in_list n reserved)) (and-1 (every byte_ok n) _ h)

pub name_free : (n : Name) → T (name_ok n) → T (free n)
name_free n h =
    and_T (not (in_list n theory_symbols)) (not (solver_symbol n)) (not-among theory_symbols theory-reserved n (name-reserved n h))
    (no-solver-symbol n (and_0 (first_ok n) _ (and-1 (every byte_ok n) _ h)))

pub name-foreign : (n : Name) → T (name_ok n) → T (not (in_list n built_in))
name-foreign n h = not-among built_in built-in-reserved n (name-reserved n h)

pub name-printable : (n : Name) → T (name_ok n) → All (leb 32) n
name-printable n h = all-weaken byte_ok (leb 32) (λ c t. le→leb 32 c (name-byte c t).printable) n (by-test byte_ok n (and_0 (every byte_ok n) _ h))

pub name-quotable : (n : Name) → T (name_ok n) → All quotable n
name-quotable n h = all-weaken byte_ok quotable quotable-byte n (by-test byte_ok n (and_0 (every byte_ok n) _ h))

-- ---------------------------------------------------------------- declarations of the tables

pub declared-names : (d : Dag) (ws : List ℕ) → declared_names (declarations_of d ws) ≡ all_names d
unfolding declarations_of
declared-names d ws =
    let v : variable_names (declarations_of d ws) ≡ name_table d =
    map-tabulate (λ (v : Variable). v.name) (length (name_table d)) _ ∙ tabulate-places [] (name_table d) in
    let a : array_names (declarations_of d ws) ≡ aname_table d =
    map-tabulate (λ (a : Array). a.name) (length (aname_table d)) _ ∙ tabulate-places [] (aname_table d) in
    let f : function_names (declarations_of d ws) ≡ fname_table d =
    map-tabulate (λ (f : Function). f.name) (length (fname_table d)) _ ∙ tabulate-places [] (fname_table d) in
    λ i. v i ++ (a i ++ f i)

-- ---------------------------------------------------------------- what makes a reading sound

-- trees that are all Bools fit as such
pub bools-fit : (D : Declarations) (ts : Trees) → T (all_bool D ts) → FitsAll D ts (bools ts)
unfolding sort_under
bools-fit D none h = tt
bools-fit D (more t ts) h =
    let s : Option TreeSort = tree_sort D t in
    (fits D none_bound [] (λ n. refl) t TreeSort.bool (has-eq s TreeSort.bool (and_0 (has_sort s TreeSort.bool) _ h)), bools-fit D ts (and-1 (has_sort s TreeSort.bool) _ h))

-- declarations whose names pass the printer's check, each once, and whose widths are above 0
pub sound-with : (D : Declarations) → All name_ok (declared_names D) → T (distinct (declared_names D)) → All (λ (v : Variable). wide v.width) D.variables
    → All (λ (a : Array). wide a.index && wide a.value) D.arrays → All (λ (f : Function). every wide f.arguments && wide f.width) D.functions
    → SoundDeclarations D
sound-with D names once variables arrays functions =
    let known : ((n : Name) → T (in_list n (declared_names D)) → T (name_ok n)) = λ n h. every_in name_ok (declared_names D) n (every-all name_ok (declared_names D) names) h in
    let foreign : (Name → Bool) = λ n. not (in_list n built_in) in
    record {
      quotes = λ n h. name-quotable n (known n h);
      printable = λ n h. name-printable n (known n h);
      apart = record { once = once; foreign = every-all foreign (declared_names D) (all-weaken name_ok foreign name-foreign (declared_names D) names) };
      names = all-weaken name_ok free name_free (declared_names D) names;
      variables = variables;
      arrays = arrays;
      functions = functions;
    }

-- ---------------------------------------------------------------- the reading of an accepted query

wide-function : (d : Dag) (ws : List ℕ) (g : ℕ) → T (decl_func_ok d ws g) → T (every wide (signature d ws g) && wide (get_or d.func_width g 0))
unfolding decl_func_ok
wide-function d ws g t =
    let w : T (wide (get_or d.func_width g 0)) = and_0 (ltb 0 (get_or d.func_width g 0)) _ t in
    and_T (every wide (signature d ws g)) (wide (get_or d.func_width g 0)) (by_first (find_call d.nodes g) (and-1 (ltb 0 (get_or d.func_width g 0)) _ t)) w
  where
    by_first : (o : Option ℕ) → T (elim o [ nothing ↦ false | some c ↦ arguments_inside d.side (get_or d.nodes c no_node) && every (ltb 0) (signature d ws g) ])
        → T (every wide (signature d ws g))
    by_first nothing t = absurd t
    by_first (some c) t = and-1 (arguments_inside d.side (get_or d.nodes c no_node)) (every (ltb 0) (signature d ws g)) t

-- what every way to print has in common
module _ (q : Query) (ok : Checked q.dag (widths_of q)) where
  sound-variables : All (λ (v : Variable). wide v.width) (declarations_in q).variables
  unfolding declarations_of decl_vars_ok
  sound-variables =
      all-tabulate (λ (v : Variable). wide v.width) (length (name_table q.dag)) _
      (λ i l. every-place (ltb 0) 0 q.dag.var_width ok.variables i (omega (arith, names-counted q.dag.names q.dag.name_start q.dag.name_len, (columns-aligned q.dag ok.columns).var_width)))

  sound-arrays : All (λ (a : Array). wide a.index && wide a.value) (declarations_in q).arrays
  unfolding declarations_of
  sound-arrays =
      let widths : ArrayWidths = q.dag.array-widths in
      all-tabulate (λ (a : Array). wide a.index && wide a.value) (length (aname_table q.dag)) _
      (λ k l.
      and_T (wide (index_width_of widths.index k)) (wide (value_width_of widths.value k)) (lt→ltb 0 (index_width_of widths.index k) (index-bound widths ok.arrays k).0)
      (lt→ltb 0 (value_width_of widths.value k) (value-bound widths ok.arrays k).0))

  sound-functions : All (λ (f : Function). every wide f.arguments && wide f.width) (declarations_in q).functions
  unfolding declarations_of decl_funcs_ok
  sound-functions =
      all-tabulate (λ (f : Function). every wide f.arguments && wide f.width) (length (fname_table q.dag)) _
      (λ g l. wide-function q.dag (widths_of q) g (every-at (decl_func_ok q.dag (widths_of q)) 0 (length (fname_table q.dag)) ok.functions g (omega arith) (omega arith)))

  pub declarations-sound : SoundDeclarations (reading_of q).declarations
  unfolding reading_of
  declarations-sound =
      sound-with (declarations_in q) (rw (declared-names q.dag (widths_of q)) (names-ok q.dag ok.names))
      (rw (declared-names q.dag (widths_of q)) (names-distinct q.dag ok.names)) sound-variables sound-arrays sound-functions

-- the plain way: bits are bits, and no check of 1 to 7 and 12 refuses
pub reading-sound : (q : Query) → All (λ b. leb b 1) q.bits → refusal_with q.dag (widths_of q) q.roots ≡ 0 → Sound (reading_of q)
unfolding reading_of
reading-sound q binary passed =
    let a = accepted q.dag (widths_of q) q.roots passed in
    record {
      declarations = declarations-sound q a.checked;
      assertions = bools-fit (declarations_in q) _ (roots-sorted q a.checked binary q.roots a.walked);
    }
