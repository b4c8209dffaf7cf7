-- What the rest of a line after its name tells, by two numbers: of a variable the width; of an array the index width and the value width; of a
-- function where the sorts of its arguments begin, and its width.
use Rattle.std.specs.Prelude.{ℕ, suc, zero, ◌+◌, ◌-◌, ◌≤◌, ◌<◌, ◌≡◌, List, [], Bool, true, false, eqb, length, drop}
use Rattle.std.specs.Prelude.{Option as Maybe, Some, None}
use Rattle.std.proofs.Common.{ap, sym, ◌∙◌, subst, arith, eqb→eq}
use Rattle.std.proofs.Math.Path.{refl}
use Rattle.std.proofs.lemmas.Bool.{eqb-false}
use Rattle.std.proofs.Math.Option.{none}
use Rattle.lists.specs.Bytes.{bytes}
use Rattle.lists.specs.Tests.{true→T}
use Rattle.reading.specs.Trees.{Name, Variable, Array, Function}
use Rattle.echo_spec.specs.Input.{largest}
use Rattle.readback.specs.Reader.{took, and_then, expect}
use Rattle.reader_laws.specs.TermsStrict.{and-then, took-both}
use Rattle.script_tokens.specs.Reached.{between}
use Rattle.script_names.specs.declared.Measure.{Measure}
use Rattle.script_names.specs.declared.Table.{Table}
use Rattle.script_names.specs.Entries.{after_bar, entry_from, measure_of, Noted}
use Rattle.script_names.specs.Laws.{taken}
use Rattle.script_decls.specs.declared.Declaration.{Declaration}
use Rattle.script_decls.specs.declared.Lines.{Lines}
use Rattle.script_decls.specs.declared.Rest.{Rest}
use Rattle.script_decls.specs.Lines.{LineType, sort_in, variable_tail, array_tail_of, function_tail, tail_of, TailAt, LineAt, Ready}
use Rattle.script_decls.specs.Tails.{SortsAt}

-- sorts of these widths stand from place p on
pub record SortsFrom (s : List ℕ) (p : ℕ) (ws : List ℕ) : Type 0 where
  pub low : p ≤ length s
  pub end : ℕ
  pub sorts : SortsAt true s p end
  pub widths : sorts.value ≡ ws

abbrev pub Tells : (k : ℕ) → List ℕ → Measure → LineType k → Type 0
Tells zero s m v = v.width ≡ m.first
Tells (suc zero) s m x = (x.index ≡ m.first) × (x.value ≡ m.second)
Tells (suc (suc k)) s m g = SortsFrom s m.first g.arguments × (g.width ≡ m.second)

-- what the rest of a line tells, whose name ends before place f, by the numbers m
abbrev pub Telling : ℕ → List ℕ → ℕ → Measure → Type 0
Telling k s f m = (n : Name) (x : LineType k) (z : List ℕ) → tail_of k n (drop f s) ≡ took x z → Tells k s m x

-- the rest of a line from place f on, whatever its name: what it tells, and the place after it
abbrev pub TailTold : ℕ → List ℕ → ℕ → Maybe Rest → Type 0
TailTold k s f None = (n : Name) → tail_of k n (drop f s) ≡ none
TailTold k s f (Some t) = TailAt k s f t.end × Telling k s f t.measure

abbrev pub LineTold : ℕ → List ℕ → Maybe Declaration → Type 0
LineTold k s None = Unit
LineTold k s (Some d) = Telling k s d.line.name_end d.measure

-- ---------------------------------------------------------------- the numbers of lines

-- the numbers m are those of line j, of kind k, whose name ends before place `after`
pub record LineNoted (k : ℕ) (s : List ℕ) (first j : ℕ) (m : Measure) : Type 0 where
  pub after : ℕ
  pub here : drop after s ≡ after_bar (entry_from j (drop first s))
  pub told : Telling k s after m

-- The table t' has the numbers of the lines from line `from` up to line c, of kind k, where it has room for all; those before stand as they are in t.
pub record NotedFrom (k : ℕ) (s : List ℕ) (first from : ℕ) (t t' : Table) (c : ℕ) : Type 0 where
  pub up : from ≤ c
  pub before : (j : ℕ) → j < from → measure_of t' j ≡ measure_of t j
  pub noted : c ≤ 1536 → (j : ℕ) → from ≤ j → j < c → LineNoted k s first j (measure_of t' j)

abbrev pub NotedTo : ℕ → List ℕ → ℕ → ℕ → Table → Table → Maybe Lines → Type 0
NotedTo k s first from t t' None = Unit
NotedTo k s first from t t' (Some l) = NotedFrom k s first from t t' l.names

-- no line yet
pub noted_start : (k : ℕ) (s : List ℕ) (first from : ℕ) (t : Table) → NotedFrom k s first from t t from
noted_start k s first from t = record { up = omega arith; before = λ j l. refl; noted = λ few j l m. absurd (omega arith) }

-- a line more
pub noted_more : {k : ℕ} {s : List ℕ} {first from c p : ℕ} {t u v : Table} (d : Declaration) → NotedFrom k s first from t u c → Ready s first u c p → LineAt k s p d.line.name d.line.name_end d.line.end
    → LineTold k s (Some d) → Noted u v c d.measure → NotedFrom k s first from t v (c + 1)
noted_more {k} {s} {first} {from} {c} {p} {t} {u} {v} d x y a told z = record {
  up = omega (arith, x.up);
  before = λ j m. z.others j (λ e. omega (arith, x.up)) ∙ x.before j m;
  noted = λ few j m i. by_line few j m i (eqb j c) refl;
}
  where
    own : LineNoted k s first c d.measure
    own = record {
      after = d.line.name_end;
      here = sym (taken (drop d.line.name s) (between s d.line.name (d.line.name_end - 1)) (drop d.line.name_end s) a.named.read).after ∙ ap after_bar (a.start ∙ sym y.here);
      told = told;
    }

    by_line : c + 1 ≤ 1536 → (j : ℕ) → from ≤ j → j < c + 1 → (b : Bool) → eqb j c ≡ b → LineNoted k s first j (measure_of v j)
    by_line few j m i true e =
        let q : j ≡ c = eqb→eq j c (true→T e) in
        subst (λ (n : ℕ). LineNoted k s first n (measure_of v n)) (sym q) (subst (LineNoted k s first c) (sym (z.own (omega arith))) own)
    by_line few j m i false e =
        let q = eqb-false j c e in
        subst (LineNoted k s first j) (sym (z.others j q)) (x.noted (omega arith) j m (omega arith))

-- ---------------------------------------------------------------- widths

pub variable-width : (s : List ℕ) (f a w e : ℕ) → expect (bytes " ") (drop f s) ≡ took [] (drop a s) → sort_in largest (drop a s) ≡ took w (drop e s)
    → (n : Name) (v : Variable) (z : List ℕ) → variable_tail n (drop f s) ≡ took v z → v.width ≡ w
unfolding variable_tail and_then
variable-width s f a w e h g n v z q =
    let r : and_then (expect (bytes ")\n") (drop e s)) (λ _ z. took (record { name = n; width = w }) z) ≡ took v z = rw (h, g) at q in
    let (u, x, e₁, g₁) = and-then (expect (bytes ")\n") (drop e s)) (λ _ z. took (record { name = n; width = w }) z) v z r in
    ap (λ (y : Variable). y.width) (sym (took-both {A = Variable} (record { name = n; width = w }) v x z g₁).0)

pub array-widths : (s : List ℕ) (f a i b d v e : ℕ) → expect (bytes " (Array ") (drop f s) ≡ took [] (drop a s) → sort_in 65536 (drop a s) ≡ took i (drop b s)
    → expect (bytes " ") (drop b s) ≡ took [] (drop d s) → sort_in 65536 (drop d s) ≡ took v (drop e s)
    → (n : Name) (x : Array) (z : List ℕ) → array_tail_of n (drop f s) ≡ took x z → (x.index ≡ i) × (x.value ≡ v)
unfolding array_tail_of and_then
array-widths s f a i b d v e h₁ h₂ h₃ h₄ n x z q =
    let r : and_then (expect (bytes "))\n") (drop e s)) (λ _ z. took (record { name = n; index = i; value = v }) z) ≡ took x z = rw (h₁, h₂, h₃, h₄) at q in
    let (u, y, e₁, g₁) = and-then (expect (bytes "))\n") (drop e s)) (λ _ z. took (record { name = n; index = i; value = v }) z) x z r in
    let m = (took-both {A = Array} (record { name = n; index = i; value = v }) x y z g₁).0 in
    (ap (λ (y : Array). y.index) (sym m), ap (λ (y : Array). y.value) (sym m))

pub function-signature : (s : List ℕ) (f a b d w e : ℕ) → a ≤ length s → expect (bytes " (") (drop f s) ≡ took [] (drop a s) → SortsAt true s a b
    → expect (bytes " ") (drop b s) ≡ took [] (drop d s) → sort_in largest (drop d s) ≡ took w (drop e s)
    → (n : Name) (g : Function) (z : List ℕ) → function_tail n (drop f s) ≡ took g z → SortsFrom s a g.arguments × (g.width ≡ w)
unfolding function_tail and_then
function-signature s f a b d w e l h₁ h₂ h₃ h₄ n g z q =
    let k = h₂.read (suc (length (drop a s))) (omega arith) in
    let r : and_then (expect (bytes ")\n") (drop e s)) (λ _ z. took (record { name = n; arguments = h₂.value; width = w }) z) ≡ took g z = rw (h₁, k, h₃, h₄) at q in
    let (u, y, e₁, g₁) = and-then (expect (bytes ")\n") (drop e s)) (λ _ z. took (record { name = n; arguments = h₂.value; width = w }) z) g z r in
    let m = (took-both {A = Function} (record { name = n; arguments = h₂.value; width = w }) g y z g₁).0 in
    (record { low = l; end = b; sorts = h₂; widths = ap (λ (y : Function). y.arguments) m }, ap (λ (y : Function). y.width) (sym m))
