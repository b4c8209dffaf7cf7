-- The table has what the lines declare.
use Rattle.std.specs.Prelude.{ℕ, ◌+◌, ◌-◌, ◌≤◌, ◌<◌, ◌≡◌, List, Bool, true, false, ltb}
use Rattle.std.specs.Prelude.{Some}
use Rattle.std.proofs.Common.{subst, arith, ltb→lt, nltb→le}
use Rattle.std.proofs.Math.Path.{refl}
use Rattle.lists.specs.Tests.{true→T}
use Rattle.reading.specs.Trees.{Declarations}
use Rattle.rebuilt.specs.Built.{variable_at, array_at, function_at}
use Rattle.script_header.specs.declared.Header.{Header}
use Rattle.script_names.specs.declared.Table.{Table}
use Rattle.script_names.specs.Entries.{measure_of}
use Rattle.script_decls.specs.declared.Stage.{Stage}
use Rattle.script_decls.specs.declared.Stage.TheVariants.{Variables, Arrays, Functions}
use Rattle.script_header.specs.Header.{Within, HeaderNoted}
use Rattle.script_entries.specs.Entries.{variables_of, arrays_of, names_of, ArgumentsAt, Entered, Known}
use Rattle.script_entries.specs.Telling.{stage-measured}

stage_of : (h : Header) (k : ℕ) → (S : Stage) × Within h k S
stage_of h k = by_variables (ltb k h.variables) refl (ltb k h.arrays) refl
  where
    by_variables : (b : Bool) → ltb k h.variables ≡ b → (c : Bool) → ltb k h.arrays ≡ c → (S : Stage) × Within h k S
    by_variables true e c f = (Variables, ltb→lt k h.variables (true→T e))
    by_variables false e true f = (Arrays, (nltb→le k h.variables (rw e tt), ltb→lt k h.arrays (true→T f)))
    by_variables false e false f = (Functions, nltb→le k h.arrays (rw f tt))

-- the header is read, and the table has the numbers of its lines
pub known-noted : {s : List ℕ} {t : Table} {h : Header} {D : Declarations} → Entered s t h D → HeaderNoted s t (Some h) → Known s t h D
known-noted {s} {t} {h} {D} κ n = record {
  begin = κ.begin;
  end = κ.end;
  inside = κ.inside;
  read = κ.read;
  variables = κ.variables;
  arrays = κ.arrays;
  functions = κ.functions;
  names = κ.names;
  tabled = κ.tabled;
  declarable = κ.declarable;
  measured = λ few k l. (let (S, w) = stage_of h k in let x = n few k S w l in stage-measured κ k x.after x.here S w l x.told);
}

-- ---------------------------------------------------------------- an entry of each table by its number

module _ {s : List ℕ} {t : Table} {h : Header} {D : Declarations} (κ : Known s t h D) (few : names_of h ≤ 1536) where
  pub variable-known : (k : ℕ) → k < variables_of h → (variable_at D k).width ≡ (measure_of t k).first
  variable-known k l = (κ.measured few k (omega (arith, κ.arrays, κ.functions))).variable l

  pub array_known : (k : ℕ) → variables_of h + k < arrays_of h
      → ((array_at D k).index ≡ (measure_of t (variables_of h + k)).first) × ((array_at D k).value ≡ (measure_of t (variables_of h + k)).second)
  array_known k l =
      let z : variables_of h + k - variables_of h ≡ k = omega arith in
      subst (λ (i : ℕ). ((array_at D i).index ≡ (measure_of t (variables_of h + k)).first) × ((array_at D i).value ≡ (measure_of t (variables_of h + k)).second)) z
      ((κ.measured few (variables_of h + k) (omega (arith, κ.functions))).array (omega arith) l)

  pub function-known : (g : ℕ) → arrays_of h + g < names_of h
      → ArgumentsAt s (measure_of t (arrays_of h + g)).first (function_at D g).arguments × ((function_at D g).width ≡ (measure_of t (arrays_of h + g)).second)
  function-known g l =
      let z : arrays_of h + g - arrays_of h ≡ g = omega arith in
      subst (λ (i : ℕ). ArgumentsAt s (measure_of t (arrays_of h + g)).first (function_at D i).arguments × ((function_at D i).width ≡ (measure_of t (arrays_of h + g)).second)) z
      ((κ.measured few (arrays_of h + g) l).function (omega arith))
