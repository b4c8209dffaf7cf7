-- What each answer on a release says of the file's bytes; that it does is in proofs/ReleaseScripts.antt.
use Rattle.std.specs.Prelude.{ℕ, zero, suc, ◌≤◌, ◌<◌, ◌≡◌, refl, List, [], ◌∷◌, ◌++◌, map, Bool, true, false, not, T, length}
use Rattle.std.proofs.Math.Path.{ap, subst}
use Rattle.std.proofs.Common.{sym, ◌∙◌, append-nil, arith}
use Rattle.std.proofs.Math.Option.{Option, none, some}
use Rattle.std.proofs.Math.ListN.{get_elem?}
use Rattle.lists.specs.Tests.{same, same_refl, in_list, distinct, and_0, and-1, or_l, or_r}
use Rattle.reading.specs.Trees.{Name, Declarations, Reading}
use Rattle.echo_spec.specs.Refusals.{unless}
use Rattle.echo_spec.specs.EncodingLaws.{encodable-has}
use Rattle.script_lines.specs.Lines.{IsScript, following_script, scripts_of}
use Rattle.script_lines.proofs.Laws.{next-of-script}
use Rattle.theorems.specs.Scripts.{Sound}
use Rattle.theorems.specs.Printed.{reading-sound}
use Rattle.theorems.specs.ScriptLines.{reading-script}
use Rattle.readback.specs.Printable.{printable, variable_names_in, array_names_in, function_names_in}
use Rattle.readback.specs.Rebuild.{rebuild}
use Rattle.readback.specs.ScriptReader.{reading_in}
use Rattle.readback.specs.ReadAnswers.{limits_passed}
use Rattle.rebuilt.specs.NameTables.{tables-distinct}
use Rattle.rebuilt.specs.Start.{checked}
use Rattle.rebuilt.specs.Accepted.{rebuilt-passes, rebuilt-reading, rebuilt-encodable}
use Rattle.readback_theorems.specs.Decided.{reading-in}
use Rattle.releases.specs.Release.{Declared, of_variable, of_array, of_function, all_declared, script_limit, to_read, read_refusal, declarations_in, ReleaseAnswer, told}
use Rattle.releases.specs.ReleaseLaws.{Agree, At, Earliest}

-- ---------------------------------------------------------------- a script that is read

-- what is read is a script by its lines
pub read-lines : (s : List ℕ) (r : Reading) → reading_in s ≡ some r → IsScript s
read-lines s r e =
    let (h, t) = (reading-in s r).0 e in
    let sound : Sound r = subst Sound (rebuilt-reading r h) (reading-sound (rebuild r) (encodable-has (rebuild r) (rebuilt-encodable r h)).binary (rebuilt-passes r h)) in
    subst IsScript t (reading-script r sound)

-- bytes without a check-sat line are not read
pub rest-unread : (b : List ℕ) → following_script b ≡ none → reading_in b ≡ none
rest-unread b e = by_read (reading_in b) refl
  where
    by_read : (o : Option Reading) → reading_in b ≡ o → o ≡ none
    by_read none q = refl
    by_read (some r) q =
        let n : following_script (b ++ []) ≡ some (length b) = next-of-script b (read-lines b r q) [] in
        let z : none ≡ some (length b) = sym e ∙ ap following_script (sym (append-nil b)) ∙ n in
        absurd (let y : ◌≡◌ {A = ℕ} 0 1 = cc in omega arith)

-- ---------------------------------------------------------------- one script agrees with itself

module _ {A : Type 0} (name : A → Name) where
  found_name : (xs : List A) (i : ℕ) (x : A) → get_elem? xs i ≡ some x → (n : Name) → n ≡ name x → T (in_list n (map name xs))
  found_name [] i x g n e = absurd (let z : ◌≡◌ {A = ℕ} 0 1 = cc in omega arith)
  found_name (y ∷ xs) zero x g n e =
      let q : y ≡ x = cc in
      or_l (same n (name y)) (in_list n (map name xs)) (subst (λ (m : Name). T (same n m)) (e ∙ ap name (sym q)) (same_refl n))
  found_name (y ∷ xs) (suc i) x g n e = or_r (same n (name y)) (in_list n (map name xs)) (found_name xs i x g n e)

  not_in : (b : Bool) → T (not b) → T b → ⊥
  not_in true h k = h
  not_in false h k = k

  -- where names are apart, an entry is known by its name
  one_entry : (xs : List A) → T (distinct (map name xs)) → (i j : ℕ) (x y : A) → get_elem? xs i ≡ some x → get_elem? xs j ≡ some y → name x ≡ name y → x ≡ y
  one_entry [] d i j x y g h e = absurd (let z : ◌≡◌ {A = ℕ} 0 1 = cc in omega arith)
  one_entry (z ∷ xs) d zero zero x y g h e = let q : z ≡ x = cc in let r : z ≡ y = cc in sym q ∙ r
  one_entry (z ∷ xs) d zero (suc j) x y g h e =
      let q : z ≡ x = cc in
      absurd (not_in (in_list (name z) (map name xs)) (and_0 (not (in_list (name z) (map name xs))) (distinct (map name xs)) d) (found_name xs j y h (name z) (ap name q ∙ e)))
  one_entry (z ∷ xs) d (suc i) zero x y g h e =
      let q : z ≡ y = cc in
      absurd (not_in (in_list (name z) (map name xs)) (and_0 (not (in_list (name z) (map name xs))) (distinct (map name xs)) d) (found_name xs i x g (name z) (ap name q ∙ sym e)))
  one_entry (z ∷ xs) d (suc i) (suc j) x y g h e = one_entry xs (and-1 (not (in_list (name z) (map name xs))) (distinct (map name xs)) d) i j x y g h e

map-join : {A B : Type 0} (f : A → B) (xs ys : List A) → map f (xs ++ ys) ≡ map f xs ++ map f ys
map-join f [] ys = refl
map-join f (x ∷ xs) ys = ap (λ (l : List _). f x ∷ l) (map-join f xs ys)

map-map : {A B C : Type 0} (f : B → C) (g : A → B) (xs : List A) → map f (map g xs) ≡ map (λ x. f (g x)) xs
map-map f g [] = refl
map-map f g (x ∷ xs) = ap (λ (l : List _). f (g x) ∷ l) (map-map f g xs)

pub names-all : (D : Declarations) → map (λ (x : Declared). x.name) (all_declared D) ≡ variable_names_in D ++ (array_names_in D ++ function_names_in D)
unfolding all_declared
names-all D =
    let n : Declared → Name = λ x. x.name in
    let vs : List Declared = map of_variable D.variables in
    let rs : List Declared = map of_array D.arrays in
    let fs : List Declared = map of_function D.functions in
    map-join n vs (rs ++ fs) ∙ ap (λ (l : List Name). map n vs ++ l) (map-join n rs fs)
    ∙ (λ i. map-map n of_variable D.variables i ++ (map-map n of_array D.arrays i ++ map-map n of_function D.functions i))

pub agree-self : (r : Reading) → T (printable r) → Agree r.declarations r.declarations
agree-self r h x y (i, g) (j, k) n =
    let D : Declarations = r.declarations in
    let d : T (distinct (map (λ (x : Declared). x.name) (all_declared D))) = subst (λ (ns : List Name). T (distinct ns)) (sym (names-all D)) (tables-distinct (variable_names_in D) (array_names_in D) (function_names_in D) (checked r h).names) in
    ap (λ (z : Declared). z.meaning) (one_entry (λ (x : Declared). x.name) (all_declared D) d i j x y g k n)

-- ---------------------------------------------------------------- scripts in order

abbrev pub ScriptAt : List (List ℕ) → ℕ → List ℕ → Type 0
ScriptAt ss i s = get_elem? ss i ≡ some s

-- reading refuses none
abbrev pub AllRead : List (List ℕ) → Type 0
AllRead ss = (i : ℕ) (s : List ℕ) → ScriptAt ss i s → read_refusal (reading_in s) ≡ 0

-- reading refuses script k with this number, and none before it
pub record FirstUnread (ss : List (List ℕ)) (n k : ℕ) : Type 0 where
  pub script : List ℕ
  pub at : ScriptAt ss k script
  pub number : read_refusal (reading_in script) ≡ n
  pub refused : 0 < n
  pub before : (i : ℕ) (s : List ℕ) → i < k → ScriptAt ss i s → read_refusal (reading_in s) ≡ 0

pub all_read : (s : List ℕ) (ss : List (List ℕ)) → read_refusal (reading_in s) ≡ 0 → AllRead ss → AllRead (s ∷ ss)
all_read s ss e h zero t g = let q : s ≡ t = cc in subst (λ (u : List ℕ). read_refusal (reading_in u) ≡ 0) q e
all_read s ss e h (suc i) t g = h i t g

-- ---------------------------------------------------------------- what every answer says

abbrev pub declarations_of_all : List (List ℕ) → List Declarations
declarations_of_all ss = map (λ s. declarations_in (reading_in s)) ss

-- each script is read, and a name that two of them declare, or one, means the same wherever it is declared
pub record OneMeaning (file : List ℕ) : Type 0 where
  pub few : length (scripts_of file).scripts ≤ script_limit
  pub whole : (scripts_of file).rest ≡ []
  pub read : AllRead (scripts_of file).scripts
  pub agree : (i j : ℕ) (D E : Declarations) → At (declarations_of_all (scripts_of file).scripts) i D → At (declarations_of_all (scripts_of file).scripts) j E → Agree D E

-- every script is read, script k disagrees with one before it, and no script before it does so
pub record TwoMeanings (file : List ℕ) (k : ℕ) : Type 0 where
  pub few : length (scripts_of file).scripts ≤ script_limit
  pub whole : (scripts_of file).rest ≡ []
  pub read : AllRead (scripts_of file).scripts
  pub earliest : Earliest (declarations_of_all (scripts_of file).scripts) k

-- script k is not read, and those before it are; what follows the last check-sat line counts as a script
pub record Unread (file : List ℕ) (n k : ℕ) : Type 0 where
  pub few : length (scripts_of file).scripts ≤ script_limit
  pub first : FirstUnread (to_read (scripts_of file)) n k

pub data Says (file : List ℕ) : ReleaseAnswer → Type 0 where
  too_many_given : script_limit < length (scripts_of file).scripts → Says file (told 9 script_limit)
  unread : (n k : ℕ) → Unread file n k → Says file (told n k)
  two_meanings : (k : ℕ) → TwoMeanings file k → Says file (told 17 k)
  one_meaning : OneMeaning file → Says file (told 0 0)

-- ---------------------------------------------------------------- the proof

-- what reading does not refuse has a reading
pub has-reading : (s : List ℕ) → read_refusal (reading_in s) ≡ 0 → (r : Reading) × (reading_in s ≡ some r) × T (limits_passed (rebuild r))
unfolding read_refusal
has-reading s e = by_read (reading_in s) refl e
  where
    passed : (b : Bool) → unless b 9 ≡ 0 → T b
    passed true e = tt
    passed false e = absurd (omega (arith, e))

    by_read : (o : Option Reading) → reading_in s ≡ o → read_refusal o ≡ 0 → (r : Reading) × (reading_in s ≡ some r) × T (limits_passed (rebuild r))
    by_read none q e = absurd (omega (arith, e))
    by_read (some r) q e = (r, q, passed (limits_passed (rebuild r)) e)
