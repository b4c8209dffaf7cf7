-- A line with its widths checked is a line, and then the widths checked.
use Rattle.std.specs.Prelude.{ℕ, zero, suc, ◌≡◌, refl, List, [], ◌∷◌, Bool, false, ◌&&◌, eqb, ltb, length}
use Rattle.std.proofs.Common.{ap, ◌∙◌}
use Rattle.std.proofs.Math.Path.{sym}
use Rattle.std.proofs.Math.Bool.{true, cond}
use Rattle.std.proofs.Math.Option.{Option, none, some}
use Rattle.std.proofs.Math.Dec.{leb}
use Rattle.lists.specs.Tests.{every}
use Rattle.lists.specs.Bytes.{bytes}
use Rattle.reading.specs.Trees.{Name, Variable, Array, Function}
use Rattle.echo_spec.specs.Input.{largest}
use Rattle.echo_spec.specs.Widths.{array_width_ok}
use Rattle.readback.specs.Printable.{variable_ok, array_ok, function_ok, width_ok}
use Rattle.readback.specs.Reader.{Took, took, and_then, expect, name_read}
use Rattle.readback.specs.ScriptReader.{read_sort, read_variable, read_array, separator, read_sorts, read_function}
use Rattle.script_decls.specs.Lines.{sort_in, sorts_in, variable_tail, array_tail_of, function_tail, line_of}

-- ---------------------------------------------------------------- one reader after another

pub assoc : {A B C : Type 0} (o : Option (Took A)) (g : A → List ℕ → Option (Took B)) (h : B → List ℕ → Option (Took C))
    → and_then (and_then o g) h ≡ and_then o (λ x r. and_then (g x r) h)
unfolding and_then
assoc none g h = refl
assoc (some t) g h = refl

pub alike : {A B : Type 0} (o : Option (Took A)) (g h : A → List ℕ → Option (Took B)) → ((x : A) (r : List ℕ) → g x r ≡ h x r) → and_then o g ≡ and_then o h
unfolding and_then
alike none g h e = refl
alike (some t) g h e = e t.value t.rest

pub none_after : {A B : Type 0} (o : Option (Took A)) → none ≡ and_then {B = B} o (λ _ _. none)
unfolding and_then
none_after none = refl
none_after (some t) = refl

-- a test before the next step, or after it
guarded : {A B : Type 0} (t : Bool) (x : A) (y : List ℕ) (g : A → List ℕ → Option (Took B)) → and_then (cond t (took x y) none) g ≡ cond t (g x y) none
unfolding and_then
guarded true x y g = refl
guarded false x y g = refl

cond-after : {A B : Type 0} (t : Bool) (o : Option (Took A)) (g : A → List ℕ → Option (Took B)) → cond t (and_then o g) none ≡ and_then o (λ x r. cond t (g x r) none)
cond-after true o g = refl
cond-after false o g = none_after o

cond_both : {A : Type 0} (a b : Bool) (o : Option (Took A)) → cond a (cond b o none) none ≡ cond (a && b) o none
cond_both true b o = refl
cond_both false b o = refl

-- a sort whose width is tested, and then more
pub sort-after : {B : Type 0} (limit : ℕ) (x : List ℕ) (g : ℕ → List ℕ → Option (Took B))
    → and_then (sort_in limit x) g ≡ and_then (read_sort x) (λ w y. cond (ltb 0 w && leb w limit) (g w y) none)
unfolding sort_in
sort-after limit x g =
    assoc (read_sort x) (λ w r. cond (ltb 0 w && leb w limit) (took w r) none) g
    ∙ alike (read_sort x) (λ w y. and_then (cond (ltb 0 w && leb w limit) (took w y) none) g) (λ w y. cond (ltb 0 w && leb w limit) (g w y) none) (λ w y. guarded (ltb 0 w && leb w limit) w y g)

-- ---------------------------------------------------------------- variables

module _ (n : Name) where
  abbrev a_variable : ℕ → Variable
  a_variable w = record { name = n; width = w }

  abbrev checked_variable : Variable → List ℕ → Option (Took Variable)
  checked_variable v r = cond (variable_ok v) (took v r) none

  abbrev variable_end : ℕ → List ℕ → Option (Took Variable)
  variable_end w y = and_then (expect (bytes ")\n") y) (λ _ z. took (a_variable w) z)

  variable-end : (w : ℕ) (y : List ℕ) → cond (ltb 0 w && leb w largest) (variable_end w y) none ≡ and_then (variable_end w y) checked_variable
  unfolding and_then
  variable-end w y =
      cond-after (ltb 0 w && leb w largest) (expect (bytes ")\n") y) (λ _ z. took (a_variable w) z)
      ∙ sym (assoc (expect (bytes ")\n") y) (λ _ z. took (a_variable w) z) checked_variable)

  variable-tail : (r : List ℕ) → variable_tail n r ≡ and_then (and_then (expect (bytes " ") r) (λ _ x. and_then (read_sort x) variable_end)) checked_variable
  unfolding variable_tail
  variable-tail r =
      alike (expect (bytes " ") r) (λ _ x. and_then (sort_in largest x) variable_end) (λ _ x. and_then (and_then (read_sort x) variable_end) checked_variable)
      (λ _ x. sort-after largest x variable_end
      ∙ alike (read_sort x) (λ w y. cond (ltb 0 w && leb w largest) (variable_end w y) none) (λ w y. and_then (variable_end w y) checked_variable) variable-end
      ∙ sym (assoc (read_sort x) variable_end checked_variable))
      ∙ sym (assoc (expect (bytes " ") r) (λ _ x. and_then (read_sort x) variable_end) checked_variable)

pub variable-strict : (b : List ℕ) → line_of 0 b ≡ and_then (read_variable b) (λ v r. cond (variable_ok v) (took v r) none)
unfolding line_of read_variable
variable-strict b =
    alike (expect (bytes "(declare-const |") b) (λ _ q. and_then (name_read q) variable_tail) (λ _ q. and_then (and_then (name_read q) lax) check)
    (λ _ q. alike (name_read q) variable_tail (λ n r. and_then (lax n r) check) variable-tail ∙ sym (assoc (name_read q) lax check))
    ∙ sym (assoc (expect (bytes "(declare-const |") b) (λ _ q. and_then (name_read q) lax) check)
  where
    lax : Name → List ℕ → Option (Took Variable)
    lax n r = and_then (expect (bytes " ") r) (λ _ x. and_then (read_sort x) (variable_end n))

    check : Variable → List ℕ → Option (Took Variable)
    check v r = cond (variable_ok v) (took v r) none

-- ---------------------------------------------------------------- arrays

module _ (n : Name) where
  abbrev an_array : ℕ → ℕ → Array
  an_array i v = record { name = n; index = i; value = v }

  abbrev checked_array : Array → List ℕ → Option (Took Array)
  checked_array a r = cond (array_ok a) (took a r) none

  abbrev array_end : ℕ → ℕ → List ℕ → Option (Took Array)
  array_end i v t = and_then (expect (bytes "))\n") t) (λ _ z. took (an_array i v) z)

  abbrev array_second : ℕ → List ℕ → Option (Took Array)
  array_second i y = and_then (expect (bytes " ") y) (λ _ u. and_then (read_sort u) (array_end i))

  array-end : (i v : ℕ) (t : List ℕ) → cond (array_width_ok i) (cond (array_width_ok v) (array_end i v t) none) none ≡ and_then (array_end i v t) checked_array
  unfolding and_then
  array-end i v t =
      cond_both (array_width_ok i) (array_width_ok v) (array_end i v t)
      ∙ cond-after (array_width_ok i && array_width_ok v) (expect (bytes "))\n") t) (λ _ z. took (an_array i v) z)
      ∙ sym (assoc (expect (bytes "))\n") t) (λ _ z. took (an_array i v) z) checked_array)

  array-second : (i : ℕ) (y : List ℕ) → cond (array_width_ok i) (and_then (expect (bytes " ") y) (λ _ u. and_then (sort_in 65536 u) (array_end i))) none ≡ and_then (array_second i y) checked_array
  array-second i y =
      cond-after (array_width_ok i) (expect (bytes " ") y) (λ _ u. and_then (sort_in 65536 u) (array_end i))
      ∙ alike (expect (bytes " ") y) (λ _ u. cond (array_width_ok i) (and_then (sort_in 65536 u) (array_end i)) none) (λ _ u. and_then (and_then (read_sort u) (array_end i)) checked_array)
      (λ _ u. ap (λ (o : Option (Took Array)). cond (array_width_ok i) o none) (sort-after 65536 u (array_end i))
      ∙ cond-after (array_width_ok i) (read_sort u) (λ v t. cond (array_width_ok v) (array_end i v t) none)
      ∙ alike (read_sort u) (λ v t. cond (array_width_ok i) (cond (array_width_ok v) (array_end i v t) none) none) (λ v t. and_then (array_end i v t) checked_array) (array-end i)
      ∙ sym (assoc (read_sort u) (array_end i) checked_array))
      ∙ sym (assoc (expect (bytes " ") y) (λ _ u. and_then (read_sort u) (array_end i)) checked_array)

  array_tail : (r : List ℕ) → array_tail_of n r ≡ and_then (and_then (expect (bytes " (Array ") r) (λ _ x. and_then (read_sort x) array_second)) checked_array
  unfolding array_tail_of
  array_tail r =
      alike (expect (bytes " (Array ") r) (λ _ x. and_then (sort_in 65536 x) (λ i y. and_then (expect (bytes " ") y) (λ _ u. and_then (sort_in 65536 u) (array_end i))))
      (λ _ x. and_then (and_then (read_sort x) array_second) checked_array)
      (λ _ x. sort-after 65536 x (λ i y. and_then (expect (bytes " ") y) (λ _ u. and_then (sort_in 65536 u) (array_end i)))
      ∙ alike (read_sort x) (λ i y. cond (array_width_ok i) (and_then (expect (bytes " ") y) (λ _ u. and_then (sort_in 65536 u) (array_end i))) none) (λ i y. and_then (array_second i y) checked_array) array-second
      ∙ sym (assoc (read_sort x) array_second checked_array))
      ∙ sym (assoc (expect (bytes " (Array ") r) (λ _ x. and_then (read_sort x) array_second) checked_array)

pub array-strict : (b : List ℕ) → line_of 1 b ≡ and_then (read_array b) (λ a r. cond (array_ok a) (took a r) none)
unfolding line_of read_array
array-strict b =
    alike (expect (bytes "(declare-const |") b) (λ _ q. and_then (name_read q) array_tail_of) (λ _ q. and_then (and_then (name_read q) lax) check)
    (λ _ q. alike (name_read q) array_tail_of (λ n r. and_then (lax n r) check) array_tail ∙ sym (assoc (name_read q) lax check))
    ∙ sym (assoc (expect (bytes "(declare-const |") b) (λ _ q. and_then (name_read q) lax) check)
  where
    lax : Name → List ℕ → Option (Took Array)
    lax n r = and_then (expect (bytes " (Array ") r) (λ _ x. and_then (read_sort x) (array_second n))

    check : Array → List ℕ → Option (Took Array)
    check a r = cond (array_ok a) (took a r) none

-- ---------------------------------------------------------------- functions

abbrev checked_sorts : List ℕ → List ℕ → Option (Took (List ℕ))
checked_sorts ws r = cond (every width_ok ws) (took ws r) none

-- a sort before others
sort-cons : (w : ℕ) (y : List ℕ) (o : Option (Took (List ℕ)))
    → cond (width_ok w) (and_then (and_then o checked_sorts) (λ ws z. took (w ∷ ws) z)) none ≡ and_then (and_then o (λ ws z. took (w ∷ ws) z)) checked_sorts
unfolding and_then
sort-cons w y none = cond-none (width_ok w)
  where
    cond-none : (t : Bool) → ◌≡◌ {A = Option (Took (List ℕ))} (cond t none none) none
    cond-none true = refl
    cond-none false = refl
sort-cons w y (some t) =
    ap (λ (o : Option (Took (List ℕ))). cond (width_ok w) o none) (guarded (every width_ok t.value) t.value t.rest (λ ws z. took (w ∷ ws) z))
    ∙ cond_both (width_ok w) (every width_ok t.value) (took (w ∷ t.value) t.rest)

pub sorts-strict : (f : ℕ) (first : Bool) (b : List ℕ) → sorts_in f first b ≡ and_then (read_sorts f first b) checked_sorts
unfolding sorts_in read_sorts and_then
sorts-strict zero first b = refl
sorts-strict (suc f) first [] = refl
sorts-strict (suc f) first (c ∷ b) = by-close (eqb c 41) refl (λ r. sorts-strict f false r)
  where
    strictly : ℕ → List ℕ → Option (Took (List ℕ))
    strictly w r = and_then (sorts_in f false r) (λ ws z. took (w ∷ ws) z)

    laxly : ℕ → List ℕ → Option (Took (List ℕ))
    laxly w r = and_then (read_sorts f false r) (λ ws z. took (w ∷ ws) z)

    after : ((r : List ℕ) → sorts_in f false r ≡ and_then (read_sorts f false r) checked_sorts) → (q : List ℕ) → and_then (sort_in largest q) strictly ≡ and_then (and_then (read_sort q) laxly) checked_sorts
    after ih q =
        sort-after largest q strictly
        ∙ alike (read_sort q) (λ w y. cond (width_ok w) (strictly w y) none) (λ w y. and_then (laxly w y) checked_sorts)
        (λ w y. ap (λ (o : Option (Took (List ℕ))). cond (width_ok w) (and_then o (λ ws z. took (w ∷ ws) z)) none) (ih y) ∙ sort-cons w y (read_sorts f false y))
        ∙ sym (assoc (read_sort q) laxly checked_sorts)

    by-close : (t : Bool) → eqb c 41 ≡ t → ((r : List ℕ) → sorts_in f false r ≡ and_then (read_sorts f false r) checked_sorts) → sorts_in (suc f) first (c ∷ b) ≡ and_then (read_sorts (suc f) first (c ∷ b)) checked_sorts
    by-close true e ih = rw (e, sorts_in, read_sorts)
    by-close false e ih =
        rw (e, sorts_in, read_sorts)
        (alike (separator first (c ∷ b)) (λ _ q. and_then (sort_in largest q) strictly) (λ _ q. and_then (and_then (read_sort q) laxly) checked_sorts) (λ _ q. after ih q)
        ∙ sym (assoc (separator first (c ∷ b)) (λ _ q. and_then (read_sort q) laxly) checked_sorts))

sorts-after : {B : Type 0} (f : ℕ) (first : Bool) (x : List ℕ) (g : List ℕ → List ℕ → Option (Took B))
    → and_then (sorts_in f first x) g ≡ and_then (read_sorts f first x) (λ ws y. cond (every width_ok ws) (g ws y) none)
sorts-after f first x g =
    ap (λ (o : Option (Took (List ℕ))). and_then o g) (sorts-strict f first x) ∙ assoc (read_sorts f first x) checked_sorts g
    ∙ alike (read_sorts f first x) (λ ws y. and_then (checked_sorts ws y) g) (λ ws y. cond (every width_ok ws) (g ws y) none) (λ ws y. guarded (every width_ok ws) ws y g)

module _ (n : Name) where
  abbrev a_function : List ℕ → ℕ → Function
  a_function ws w = record { name = n; arguments = ws; width = w }

  abbrev checked_function : Function → List ℕ → Option (Took Function)
  checked_function f r = cond (function_ok f) (took f r) none

  abbrev function_end : List ℕ → ℕ → List ℕ → Option (Took Function)
  function_end ws w t = and_then (expect (bytes ")\n") t) (λ _ z. took (a_function ws w) z)

  abbrev function_second : List ℕ → List ℕ → Option (Took Function)
  function_second ws y = and_then (expect (bytes " ") y) (λ _ u. and_then (read_sort u) (function_end ws))

  function-end : (ws : List ℕ) (w : ℕ) (t : List ℕ) → cond (every width_ok ws) (cond (width_ok w) (function_end ws w t) none) none ≡ and_then (function_end ws w t) checked_function
  unfolding and_then
  function-end ws w t =
      cond_both (every width_ok ws) (width_ok w) (function_end ws w t)
      ∙ cond-after (every width_ok ws && width_ok w) (expect (bytes ")\n") t) (λ _ z. took (a_function ws w) z)
      ∙ sym (assoc (expect (bytes ")\n") t) (λ _ z. took (a_function ws w) z) checked_function)

  function-second : (ws y : List ℕ) → cond (every width_ok ws) (and_then (expect (bytes " ") y) (λ _ u. and_then (sort_in largest u) (function_end ws))) none ≡ and_then (function_second ws y) checked_function
  function-second ws y =
      cond-after (every width_ok ws) (expect (bytes " ") y) (λ _ u. and_then (sort_in largest u) (function_end ws))
      ∙ alike (expect (bytes " ") y) (λ _ u. cond (every width_ok ws) (and_then (sort_in largest u) (function_end ws)) none) (λ _ u. and_then (and_then (read_sort u) (function_end ws)) checked_function)
      (λ _ u. ap (λ (o : Option (Took Function)). cond (every width_ok ws) o none) (sort-after largest u (function_end ws))
      ∙ cond-after (every width_ok ws) (read_sort u) (λ w t. cond (width_ok w) (function_end ws w t) none)
      ∙ alike (read_sort u) (λ w t. cond (every width_ok ws) (cond (width_ok w) (function_end ws w t) none) none) (λ w t. and_then (function_end ws w t) checked_function) (function-end ws)
      ∙ sym (assoc (read_sort u) (function_end ws) checked_function))
      ∙ sym (assoc (expect (bytes " ") y) (λ _ u. and_then (read_sort u) (function_end ws)) checked_function)

  function-tail : (r : List ℕ) → function_tail n r ≡ and_then (and_then (expect (bytes " (") r) (λ _ x. and_then (read_sorts (suc (length x)) true x) function_second)) checked_function
  unfolding function_tail
  function-tail r =
      alike (expect (bytes " (") r) (λ _ x. and_then (sorts_in (suc (length x)) true x) (λ ws y. and_then (expect (bytes " ") y) (λ _ u. and_then (sort_in largest u) (function_end ws))))
      (λ _ x. and_then (and_then (read_sorts (suc (length x)) true x) function_second) checked_function)
      (λ _ x. sorts-after (suc (length x)) true x (λ ws y. and_then (expect (bytes " ") y) (λ _ u. and_then (sort_in largest u) (function_end ws)))
      ∙ alike (read_sorts (suc (length x)) true x) (λ ws y. cond (every width_ok ws) (and_then (expect (bytes " ") y) (λ _ u. and_then (sort_in largest u) (function_end ws))) none) (λ ws y. and_then (function_second ws y) checked_function) function-second
      ∙ sym (assoc (read_sorts (suc (length x)) true x) function_second checked_function))
      ∙ sym (assoc (expect (bytes " (") r) (λ _ x. and_then (read_sorts (suc (length x)) true x) function_second) checked_function)

pub function-strict : (b : List ℕ) → line_of 2 b ≡ and_then (read_function b) (λ f r. cond (function_ok f) (took f r) none)
unfolding line_of read_function
function-strict b =
    alike (expect (bytes "(declare-fun |") b) (λ _ q. and_then (name_read q) function_tail) (λ _ q. and_then (and_then (name_read q) lax) check)
    (λ _ q. alike (name_read q) function_tail (λ n r. and_then (lax n r) check) function-tail ∙ sym (assoc (name_read q) lax check))
    ∙ sym (assoc (expect (bytes "(declare-fun |") b) (λ _ q. and_then (name_read q) lax) check)
  where
    lax : Name → List ℕ → Option (Took Function)
    lax n r = and_then (expect (bytes " (") r) (λ _ x. and_then (read_sorts (suc (length x)) true x) (function_second n))

    check : Function → List ℕ → Option (Took Function)
    check f r = cond (function_ok f) (took f r) none
