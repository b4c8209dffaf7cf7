-- The names between bars one after the other, and the functions flagged so far.
use Rattle.std.specs.Prelude.{ℕ, ◌+◌, ◌-◌, ◌≤◌, ◌<◌, ◌≡◌, refl, List, [], ◌∷◌, ◌++◌, Bool, true, false, ◌||◌, T, eqb, ltb, length, drop, get_or, set, replicate}
use Rattle.std.proofs.Common.{ap, sym, ◌∙◌, subst, arith, eqb→eq, ltb→lt, nltb→le, length-set, get_or-set_same, get_or-set_other}
use Rattle.std.specs.Prelude.{Some, None}
use Rattle.std.proofs.Math.Option.{Option, none, some}
use Rattle.std.proofs.lemmas.Bool.{eqb-false}
use Rattle.std.proofs.Math.Seq.{set_out}
use Rattle.std.proofs.lemmas.List.{length-replicate, get_or-replicate}
use Rattle.lists.specs.Bytes.{bytes}
use Rattle.lists.specs.Places.{find_at, at-get_or}
use Rattle.lists.specs.Tests.{same, in_list, same→eq, same_refl, and_T, true→T, T→true, no→false}
use Rattle.reading.specs.Trees.{Name, Tree, Function, Declarations}
use Rattle.echo_spec.specs.TreeSorts.{all_bool}
use Rattle.readback.specs.Printable.{declarable, printable}
use Rattle.readback.specs.Rebuild.{variable_number, array_number, function_number}
use Rattle.readback.specs.Reader.{Took, took, and_then, expect, up_to, name_read}
use Rattle.readback.specs.ScriptReader.{trees_from}
use Rattle.rebuilt.specs.Built.{no-function, function_at}
use Rattle.reader_laws.specs.TermsRead.{NoBar}
use Rattle.reader_laws.specs.TermsStrict.{impossible, up-to-fails}
use Rattle.readback_theorems.specs.Decided.{barred}
use Rattle.script_tokens.specs.Reached.{between, ends_name}
use Rattle.script_names.specs.Entries.{name_here, name_at, Named}
use Rattle.script_names.specs.Laws.{taken}
use Rattle.script_entries.specs.Entries.{first_of, arrays_of, Known, Numbers, EntryIs}
use Rattle.script_names.specs.declared.Table.{Table}
use Rattle.script_header.specs.declared.Header.{Header}
use Rattle.script_entries.specs.declared.Entry.{Entry}
use Rattle.script_entries.specs.declared.Signature.{Signature}
use Rattle.script_entries.specs.declared.Entry.TheVariants.{Variable as VariableEntry, Array as ArrayEntry, Function as FunctionEntry}
use Rattle.script_entries.specs.Finding.{function-name, function-numbers}
use Rattle.header_laws.specs.Body.{reading_of, AssertionsAt}
use Rattle.script_calls.specs.Bars.{names_from, stands, bars-skip, bars-name, bars-open, bars-none}
use Rattle.script_calls.specs.Flags.{Flagged}
use Rattle.script_calls.specs.Texts.{assertions-call}

-- ---------------------------------------------------------------- definitions

-- the function's flag is set
abbrev pub marked : Option ℕ → List Bool → List Bool
marked none l = l
marked (some g) l = set l g true

-- a function is flagged, or its name stands in the bytes left, exactly if it stands in those from the start on
pub record Scanned (s : List ℕ) (D : Declarations) (from p : ℕ) (l : List Bool) : Type 0 where
  pub long : length l ≡ 512
  pub told : (g : ℕ) → g < 512 → g < length D.functions → stands (function_at D g).name (drop from s) ≡ (get_or l g false || stands (function_at D g).name (drop p s))

-- ---------------------------------------------------------------- bytes up to a bar

-- where no name is read there is no bar
open-no-bar : (b : List ℕ) → name_read b ≡ none → NoBar b
unfolding name_read up_to and_then expect bytes
open-no-bar [] e = tt
open-no-bar (c ∷ b) e = by_first (eqb c 124) refl (λ q. open-no-bar b q)
  where
    later : (o : Option (Took (List ℕ))) (v w : List ℕ) → and_then o (λ _ r. took (c ∷ v) r) ≡ none → and_then o (λ _ r. took w r) ≡ none
    later none v w q = refl
    later (some t) v w q = absurd (impossible (sym q))

    by_first : (t : Bool) → eqb c 124 ≡ t → (name_read b ≡ none → NoBar b) → NoBar (c ∷ b)
    by_first true q rest =
        let z : c ≡ 124 = eqb→eq c 124 (true→T q) in
        let e' : name_read (124 ∷ b) ≡ none = subst (λ (x : ℕ). name_read (x ∷ b) ≡ none) z e in
        absurd (impossible (sym e'))
    by_first false q rest = (rw q tt, rest (later (expect (bytes "|") (up_to ends_name b).rest) (up_to ends_name b).value (up_to ends_name b).value (rw (q, up_to) at e)))

name-no-bar : (b : List ℕ) (n : Name) (r : List ℕ) → name_read b ≡ took n r → NoBar n
unfolding name_here
name-no-bar b n r e = subst NoBar (taken b n r e).name (up-to-fails (λ c. eqb c 124) b)

-- no bar is left
pub no-first : (b : List ℕ) → name_read b ≡ none → names_from none b ≡ []
no-first b e = bars-none b (open-no-bar b e)

module _ (b w r : List ℕ) (e : name_read b ≡ took w r) where
  -- one bar is left
  pub no_second : name_read r ≡ none → names_from none b ≡ []
  no_second q = ap (names_from none) (taken b w r e).whole ∙ bars-skip w (124 ∷ r) (name-no-bar b w r e) ∙ bars-open r (open-no-bar r q)

  pub next-name : (n z : List ℕ) → name_read r ≡ took n z → names_from none b ≡ n ∷ names_from none z
  next-name n z q =
      ap (names_from none) ((taken b w r e).whole ∙ ap (λ (x : List ℕ). w ++ (124 ∷ x)) (taken r n z q).whole) ∙ bars-skip w (124 ∷ (n ++ (124 ∷ z))) (name-no-bar b w r e)
      ∙ bars-name n z (name-no-bar r n z q)

-- ---------------------------------------------------------------- steps

module _ (s : List ℕ) (D : Declarations) (from : ℕ) where
  pub scan-start : Scanned s D from from (replicate 512 false)
  scan-start = record { long = length-replicate 512 false; told = λ g m k. ap (λ (y : Bool). y || stands (function_at D g).name (drop from s)) (sym (get_or-replicate 512 g false false m)) }

  -- no name is left
  pub scan-end : (p : ℕ) (l : List Bool) → Scanned s D from p l → names_from none (drop p s) ≡ [] → (g : ℕ) → g < 512 → g < length D.functions
      → get_or l g false ≡ stands (function_at D g).name (drop from s)
  scan-end p l x e g m k =
      sym (x.told g m k ∙ ap (λ (ns : List Name). get_or l g false || in_list (function_at D g).name ns) e ∙ or-false (get_or l g false))
    where
      or-false : (a : Bool) → (a || false) ≡ a
      or-false true = refl
      or-false false = refl

  -- the numbers of a function's own name
  own-numbers : {t : Table} {h : Header} → Known s t h D → (g : ℕ) → g < length D.functions → Numbers D (function_at D g).name none none (some g)
  own-numbers {t} {h} κ g l =
      let n : Name = (function_at D g).name in
      let q : same n (name_at (drop (first_of h) s) (arrays_of h + g)) ≡ true = ap (same n) (function-name κ g l) ∙ T→true (same n n) (same_refl n) in
      let z : arrays_of h + g - arrays_of h ≡ g = omega arith in
      subst (λ (i : ℕ). Numbers D n none none (some i)) z (function-numbers κ n (arrays_of h + g) (omega (arith, κ.functions)) q (omega arith))

  found_name : (n : Name) (j : ℕ) → function_number D n ≡ some j → T (same (function_at D j).name n)
  found_name n j e =
      let (i, x, p, q, h) = find_at (λ (f : Function). same n f.name) 0 D.functions j e in
      let w : i ≡ j = omega arith in
      let y : function_at D j ≡ x = subst (λ (k : ℕ). function_at D k ≡ x) w (at-get_or D.functions i x no-function q) in
      subst (λ (m : Name). T (same m n)) (same→eq n x.name h ∙ ap (λ (f : Function). f.name) (sym y)) (same_refl n)

  -- the next name, and its function flagged if it is one
  pub scan-next : {t : Table} {h : Header} → Known s t h D → (p f : ℕ) (l : List Bool) (n : Name) (v a : Option ℕ) (o : Option ℕ) → Scanned s D from p l → names_from none (drop p s) ≡ n ∷ names_from none (drop f s)
      → Numbers D n v a o → Scanned s D from f (marked o l)
  scan-next {t} {h} κ p f l n v a none x e i = record { long = x.long; told = told }
    where
      told : (g : ℕ) → g < 512 → g < length D.functions → stands (function_at D g).name (drop from s) ≡ (get_or l g false || stands (function_at D g).name (drop f s))
      told g m k =
          let y : Bool = get_or l g false in
          let c : Name = (function_at D g).name in
          let d : same c n ≡ false = no→false (same c n) (λ z. impossible (sym i.function ∙ ap (function_number D) (sym (same→eq c n z)) ∙ (own-numbers κ g k).function)) in
          x.told g m k ∙ ap (λ (ns : List Name). y || in_list c ns) e ∙ ap (λ (z : Bool). y || (z || stands c (drop f s))) d
  scan-next {t} {h} κ p f l n v a (some j) x e i = record { long = length-set l j true ∙ x.long; told = λ g m k. by-same g m k (eqb g j) refl }
    where
      or-true : (a b : Bool) → (a || (true || b)) ≡ (true || b)
      or-true true b = refl
      or-true false b = refl

      by-same : (g : ℕ) → g < 512 → g < length D.functions → (b : Bool) → eqb g j ≡ b → stands (function_at D g).name (drop from s) ≡ (get_or (set l j true) g false || stands (function_at D g).name (drop f s))
      by-same g m k true z =
          let y : Bool = get_or l g false in
          let c : Name = (function_at D g).name in
          let w : g ≡ j = eqb→eq g j (true→T z) in
          let d : same c n ≡ true = T→true (same c n) (subst (λ (k : ℕ). T (same (function_at D k).name n)) (sym w) (found_name n j i.function)) in
          let u : get_or (set l j true) g false ≡ true = subst (λ (k : ℕ). get_or (set l k true) g false ≡ true) w (get_or-set_same l g true false (omega (arith, x.long))) in
          x.told g m k ∙ ap (λ (ns : List Name). y || in_list c ns) e ∙ ap (λ (z : Bool). y || (z || stands c (drop f s))) d ∙ or-true y (stands c (drop f s))
          ∙ ap (λ (z : Bool). z || stands c (drop f s)) (sym u)
      by-same g m k false z =
          let y : Bool = get_or l g false in
          let c : Name = (function_at D g).name in
          let d : same c n ≡ false = no→false (same c n) (λ r.
          (let b : some g ≡ some j = sym (own-numbers κ g k).function ∙ ap (function_number D) (same→eq c n r) ∙ i.function in
          let w : g ≡ j = cc in
          eqb-false g j z w)) in
          x.told g m k ∙ ap (λ (ns : List Name). y || in_list c ns) e ∙ ap (λ (z : Bool). y || (z || stands c (drop f s))) d
          ∙ ap (λ (z : Bool). z || stands c (drop f s)) (sym (get_or-set_other l j g true false (eqb-false g j z)))

-- the next name, whatever it is, and its function flagged
pub scan-more : {s : List ℕ} {t : Table} {h : Header} {D : Declarations} → Known s t h D → (from p a f : ℕ) (l l' : List Bool) → Named s p a → Named s a f → Scanned s D from p l
    → l' ≡ marked (function_number D (between s a (f - 1))) l → Scanned s D from f l'
scan-more {s} {t} {h} {D} κ from p a f l l' x y z e =
    let n : Name = between s a (f - 1) in
    subst (Scanned s D from f) (sym e)
    (scan-next s D from κ p f l n (variable_number D n) (array_number D n) (function_number D n) z (next-name (drop p s) (between s p (a - 1)) (drop a s) x.read n (drop f s) y.read)
    (record { variable = refl; array = refl; function = refl }))

-- ---------------------------------------------------------------- what an enum answered

module _ (s : List ℕ) (D : Declarations) (n : Name) (l : List Bool) where
  pub marks-nothing : EntryIs s D n None → l ≡ marked (function_number D n) l
  marks-nothing x = ap (λ (o : Option ℕ). marked o l) (sym x.function)

  module _ {r : Entry} (h : EntryIs s D n (Some r)) where
    told : {e : Entry} → r ≡ e → EntryIs s D n (Some e)
    told q = subst (λ (e : Entry). EntryIs s D n (Some e)) q h

    pub marks-function : {g : ℕ} {u : Signature} → r ≡ FunctionEntry g u → set l g true ≡ marked (function_number D n) l
    marks-function {g} {u} q = let x : EntryIs s D n (Some (FunctionEntry g u)) = told q in ap (λ (o : Option ℕ). marked o l) (sym x.numbers.function)

    -- a function that has no flag
    pub marks-past : {g : ℕ} {u : Signature} → r ≡ FunctionEntry g u → length l ≤ g → l ≡ marked (function_number D n) l
    marks-past {g} {u} q m = sym (set_out l g true m) ∙ marks-function q

-- an entry that is no function's
pub marks-other : (s : List ℕ) (D : Declarations) (n : Name) (l : List Bool) (r : Entry) → EntryIs s D n (Some r) → ((g : ℕ) (u : Signature) → r ≡ FunctionEntry g u → ⊥)
    → l ≡ marked (function_number D n) l
marks-other s D n l (VariableEntry k w) x f = ap (λ (o : Option ℕ). marked o l) (sym x.numbers.function)
marks-other s D n l (ArrayEntry k u) x f = ap (λ (o : Option ℕ). marked o l) (sym x.numbers.function)
marks-other s D n l (FunctionEntry g u) x f = absurd (f g u refl)

-- ---------------------------------------------------------------- the assertions

-- The flags are those of the assertions, where they are those of the names in the bytes.
flagged-by : {s : List ℕ} {t : Table} {h : Header} {D : Declarations} → Known s t h D → (from : ℕ) (l : List Bool) (ts : List Tree) → AssertionsAt s D from ts → length l ≡ 512
    → ((g : ℕ) → g < 512 → g < length D.functions → get_or l g false ≡ stands (function_at D g).name (drop from s)) → Flagged D (trees_from ts) l
unfolding printable
flagged-by {s} {t} {h} {D} κ from l ts x y e = record {
  long = y;
  flags = λ g m k.
      (let i = own-numbers s D from κ g k in
      e g m k ∙ assertions-call D (barred (reading_of D ts) (and_T (declarable D) (all_bool D (trees_from ts)) κ.declarable x.bools)) (function_at D g).name
      (record { variable = i.variable; array = i.array }) s from ts x);
}

-- No name is left.
pub flagged : {s : List ℕ} {t : Table} {h : Header} {D : Declarations} → Known s t h D → (from p : ℕ) (l : List Bool) (ts : List Tree) → AssertionsAt s D from ts → Scanned s D from p l → names_from none (drop p s) ≡ []
    → Flagged D (trees_from ts) l
flagged {s} {D = D} κ from p l ts x y e = flagged-by κ from l ts x y.long (scan-end s D from p l y e)

-- Every function has its flag, whatever is left.
pub flagged-all : {s : List ℕ} {t : Table} {h : Header} {D : Declarations} → Known s t h D → (from p : ℕ) (l : List Bool) (ts : List Tree) → AssertionsAt s D from ts → Scanned s D from p l
    → ((g : ℕ) → g < 512 → g < length D.functions → get_or l g false ≡ true) → Flagged D (trees_from ts) l
flagged-all {s} {D = D} κ from p l ts x y all =
    flagged-by κ from l ts x y.long (λ g m k. all g m k ∙ sym (y.told g m k ∙ ap (λ (b : Bool). b || stands (function_at D g).name (drop p s)) (all g m k)))

-- a flag that is set stays
kept : (o : Option ℕ) (l : List Bool) (d : ℕ) → d ≤ length l → ((g : ℕ) → g < d → get_or l g false ≡ true) → (g : ℕ) → g < d → get_or (marked o l) g false ≡ true
kept none l d m h g k = h g k
kept (some j) l d m h g k = by_number (eqb g j) refl
  where
    by_number : (b : Bool) → eqb g j ≡ b → get_or (set l j true) g false ≡ true
    by_number true q = let z : g ≡ j = eqb→eq g j (true→T q) in rw z (get_or-set_same l j true false (omega arith))
    by_number false q = get_or-set_other l j g true false (eqb-false g j q) ∙ h g k

-- the flags up to d, and after one more name those from there up to e
pub flags-more : (o : Option ℕ) (l : List Bool) (d : ℕ) {l' : List Bool} {e : ℕ} → l' ≡ marked o l → d ≤ length l → ((g : ℕ) → g < d → get_or l g false ≡ true)
    → ((g : ℕ) → g < e → d ≤ g → get_or l' g false ≡ true) → (g : ℕ) → g < e → get_or l' g false ≡ true
flags-more o l d {l'} {e} q m x y g k = by-test (ltb g d) refl
  where
    by-test : (b : Bool) → ltb g d ≡ b → get_or l' g false ≡ true
    by-test true p = ap (λ (z : List Bool). get_or z g false) q ∙ kept o l d m x g (ltb→lt g d (true→T p))
    by-test false p = y g k (nltb→le g d (rw p tt))
