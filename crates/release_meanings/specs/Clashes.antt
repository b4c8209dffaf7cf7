-- The scripts are held beside those before them: what the table tells is what the definitions say.
use Rattle.std.specs.Prelude.{ℕ, zero, suc, ◌+◌, ◌*◌, ◌≤◌, ◌<◌, ◌≡◌, refl, List, [], ◌∷◌, ◌++◌, Bool, true, false, T, length, take, drop, get_or}
use Rattle.std.proofs.Math.Path.{ap}
use Rattle.std.proofs.Common.{sym, ◌∙◌, subst, append_assoc, append-nil, arith, length-append}
use Rattle.std.proofs.Math.Option.{none, some}
use Rattle.std.proofs.Math.ListN.{get_elem?}
use Rattle.reading.specs.Trees.{Declarations, Reading}
use Rattle.echo_spec.specs.Render.{render}
use Rattle.script_lines.specs.Lines.{following_script, Cut, scripts_of}
use Rattle.script_lines.proofs.Cuts.{cut-rest}
use Rattle.readback.specs.Printable.{printable}
use Rattle.readback.specs.Rebuild.{rebuild}
use Rattle.readback.specs.ScriptReader.{reading_in}
use Rattle.readback.specs.ReadAnswers.{limits_passed}
use Rattle.readback_theorems.specs.Decided.{reading-in}
use Rattle.script_tokens.specs.Reached.{Stretch}
use Rattle.releases.specs.Release.{Declared, all_declared, any_of, disagree, earliest, declarations_in}
use Rattle.releases.specs.ReleaseLaws.{Declares, Agree, At, none_of, one_of}
use Rattle.releases.proofs.ReleaseLaws.{agree-if-not, differing}
use Rattle.releases.specs.ReleaseScripts.{AllRead, agree-self, has-reading, declarations_of_all}
use Rattle.release_lines.specs.Lines.{ends_line, DeclaredAt}
use Rattle.release_names.specs.declared.Names.{Names}
use Rattle.release_names.specs.Table.{entry, In, Holds, Fresh, Disagrees}
use Rattle.release_names.specs.Chains.{table-start}
use Rattle.release_names.specs.Held.{in_left, in_right, in_either}
use Rattle.std.specs.Prelude.{Some, None}
use Rattle.release_meanings.specs.Told.{MeaningsTo}
use Rattle.release_meanings.specs.Cutting.{Step}
use Rattle.release_meanings.specs.Headers.{feed-inside, declared-at, few-declared}

-- ---------------------------------------------------------------- all declarations of some scripts

unfoldable pub flat : List Declarations → List Declared
flat [] = []
flat (D ∷ Ds) = all_declared D ++ flat Ds

flat-join : (Ds Es : List Declarations) → flat (Ds ++ Es) ≡ flat Ds ++ flat Es
unfolding flat
flat-join [] Es = refl
flat-join (D ∷ Ds) Es = ap (λ (l : List Declared). all_declared D ++ l) (flat-join Ds Es) ∙ sym (append_assoc (all_declared D) (flat Ds) (flat Es))

flat-last : (Ds : List Declarations) (D : Declarations) → flat (Ds ++ (D ∷ [])) ≡ flat Ds ++ all_declared D
unfolding flat
flat-last Ds D = flat-join Ds (D ∷ []) ∙ ap (λ (l : List Declared). flat Ds ++ l) (append-nil (all_declared D))

-- a place in a list, by either way of looking
declared-in : (xs : List Declared) (i : ℕ) (x : Declared) → get_elem? xs i ≡ some x → In xs x
declared-in [] i x e = absurd (let z : ◌≡◌ {A = ℕ} 0 1 = cc in omega arith)
declared-in (y ∷ xs) zero x e = (0, omega arith, (let q : y ≡ x = cc in q))
declared-in (y ∷ xs) (suc i) x e = let (k, l, q) = declared-in xs i x e in (suc k, omega (arith, l), q)

in-declared : (xs : List Declared) (k : ℕ) (x : Declared) → k < length xs → entry xs k ≡ x → get_elem? xs k ≡ some x
in-declared [] k x l e = absurd (omega arith)
in-declared (y ∷ xs) zero x l e = ap some e
in-declared (y ∷ xs) (suc k) x l e = in-declared xs k x (omega arith) e

flat_has : (Ds : List Declarations) (j : ℕ) (E : Declarations) (y : Declared) → At Ds j E → Declares E y → In (flat Ds) y
unfolding flat
flat_has [] j E y a d = absurd (let z : ◌≡◌ {A = ℕ} 0 1 = cc in omega arith)
flat_has (D ∷ Ds) zero E y a (i, d) =
    let q : D ≡ E = cc in
    in_left (all_declared D) (flat Ds) y (declared-in (all_declared D) i y (subst (λ (F : Declarations). get_elem? (all_declared F) i ≡ some y) (sym q) d))
flat_has (D ∷ Ds) (suc j) E y a d = in_right (all_declared D) (flat Ds) y (flat_has Ds j E y a d)

flat-from : (Ds : List Declarations) (y : Declared) → In (flat Ds) y → (j : ℕ) × (E : Declarations) × At Ds j E × Declares E y
unfolding flat
flat-from [] y (k, l, e) = absurd (omega arith)
flat-from (D ∷ Ds) y i =
    in_either (all_declared D) (flat Ds) y i
    (λ (k, l, e). (0, D, refl, (k, in-declared (all_declared D) k y l e)))
    (λ o. (let (j, E, a, d) = flat-from Ds y o in (suc j, E, a, d)))

-- ---------------------------------------------------------------- one script beside those before it

module _ (s : List ℕ) (before : List Declarations) (D : Declarations) (self : Agree D D) where
  clash-so : Disagrees (flat before) (all_declared D) → any_of (disagree D) before ≡ true
  clash-so c = by-any (any_of (disagree D) before) refl
    where
      this-in : Declares D c.this
      this-in = let (k, l, e) = c.among in (k, in-declared (all_declared D) k c.this l e)

      never : any_of (disagree D) before ≡ false → ⊥
      never f =
          in_either (flat before) (all_declared D) c.differs.other c.differs.met
          (λ o. (let (j, E, a, d) = flat-from before c.differs.other o in
          c.differs.apart (sym (agree-if-not D E (none_of (disagree D) before f j E a) c.this c.differs.other this-in d (sym c.differs.name)))))
          (λ (k, l, e). c.differs.apart (sym (self c.this c.differs.other this-in (k, in-declared (all_declared D) k c.differs.other l e) (sym c.differs.name))))

      by-any : (b : Bool) → any_of (disagree D) before ≡ b → any_of (disagree D) before ≡ true
      by-any true e = e
      by-any false e = absurd (never e)

  agree-so : {p n h : List ℕ} {c : ℕ} → Holds s (flat before ++ all_declared D) p n h c → any_of (disagree D) before ≡ false
  agree-so k = by-any (any_of (disagree D) before) refl
    where
      never : any_of (disagree D) before ≡ true → ⊥
      never t =
          let (j, E, a, q) = one_of (disagree D) before t in
          let d = differing D E q in
          d.apart (k.one d.here d.there
          (k.all d.here (in_right (flat before) (all_declared D) d.here (declared-in (all_declared D) d.in_this.0 d.here d.in_this.1)))
          (k.all d.there (in_left (flat before) (all_declared D) d.there (flat_has before j E d.there a d.in_that)))
          d.name)

      by-any : (b : Bool) → any_of (disagree D) before ≡ b → any_of (disagree D) before ≡ false
      by-any true e = absurd (never e)
      by-any false e = e

-- ---------------------------------------------------------------- scripts in order

earliest-here : (k : ℕ) (before : List Declarations) (D : Declarations) (Ds : List Declarations) → any_of (disagree D) before ≡ true → earliest k before (D ∷ Ds) ≡ some k
unfolding earliest
earliest-here k before D Ds e = rw (e, earliest) refl

earliest-on : (k : ℕ) (before : List Declarations) (D : Declarations) (Ds : List Declarations) → any_of (disagree D) before ≡ false
    → earliest k before (D ∷ Ds) ≡ earliest (suc k) (before ++ (D ∷ [])) Ds
unfolding earliest
earliest-on k before D Ds e = rw (e, earliest) refl

-- the scripts before place at are entered, and none of them disagrees with one before it
pub record Met (file p n h : List ℕ) (count at k : ℕ) : Type 0 where
  pub inside : at ≤ length file
  pub before : List Declarations
  pub order : earliest 0 [] (declarations_of_all (scripts_of file).scripts) ≡ earliest k before (declarations_of_all (scripts_of (drop at file)).scripts)
  pub holds : Holds file (flat before) p n h count
  pub few : k + length (scripts_of (drop at file)).scripts ≤ 64
  pub short : length (flat before) ≤ 1536 * k
  pub read : AllRead (scripts_of (drop at file)).scripts

pub met_start : (file : List ℕ) → length (scripts_of file).scripts ≤ 64 → AllRead (scripts_of file).scripts
    → (p n h : List ℕ) → length p ≡ 98304 → length n ≡ 98304 → length h ≡ 4096 → ((i : ℕ) → i < 4096 → get_or h i 0 ≡ 0) → Met file p n h 0 0 0
unfolding flat
met_start file l r p n h a b c z = record {
  inside = omega arith;
  before = [];
  order = refl;
  holds = record {
    entries = [];
    table = table-start file p n h a b c z;
    counted = refl;
    few = omega arith;
    all = λ x (k, m, e). absurd (omega arith);
    own = λ x (k, m, e). absurd (omega arith);
    one = λ x y (k, m, e). absurd (omega arith);
  };
  few = omega (arith, l);
  short = omega arith;
  read = r;
}

-- as the code has it
pub met_fresh : (file : List ℕ) → length (scripts_of file).scripts ≤ 64 → AllRead (scripts_of file).scripts → (t : Names) → Fresh t
    → Met file t.places t.links t.heads t.count 0 0
met_fresh file l r t f =
    subst (λ (c : ℕ). Met file t.places t.links t.heads c 0 0) (sym f.none) (met_start file l r t.places t.links t.heads f.places f.links f.heads f.zeros)

module _ (file p n h : List ℕ) (count at k : ℕ) (m : Met file p n h count at k) where
  pub met-end : following_script (drop at file) ≡ none → MeaningsTo file None
  unfolding earliest
  met-end e = m.order ∙ ap (λ (c : Cut). earliest k m.before (declarations_of_all c.scripts)) (cut-rest (drop at file) e)

  module _ (l : ℕ) (s : Step file at l) where
    script : List ℕ
    script = take l (drop at file)

    reads : (r : Reading) × (reading_in script ≡ some r) × T (limits_passed (rebuild r))
    unfolding script
    reads = has-reading (take l (drop at file)) (subst (λ (c : Cut). AllRead c.scripts) s.cut m.read 0 (take l (drop at file)) refl)

    r : Reading
    r = reads.0

    ok : T (printable r) × (render r ≡ script)
    unfolding r
    ok = (reading-in script reads.0).0 reads.1

    D : Declarations
    D = r.declarations

    head : declarations_in (reading_in script) ≡ D
    unfolding declarations_in D r
    head = ap declarations_in reads.1

    few-here : length (all_declared D) ≤ 1536
    unfolding D r
    few-here = few-declared reads.0 reads.2

    self : Agree D D
    unfolding D
    self = agree-self r ok.0

    here : earliest 0 [] (declarations_of_all (scripts_of file).scripts) ≡ earliest k m.before (D ∷ declarations_of_all (scripts_of (drop (at + l) file)).scripts)
    unfolding script
    here =
        m.order ∙ ap (λ (c : Cut). earliest k m.before (declarations_of_all c.scripts)) s.cut
        ∙ ap (λ (E : Declarations). earliest k m.before (E ∷ declarations_of_all (scripts_of (drop (at + l) file)).scripts)) head

    left : length (scripts_of (drop at file)).scripts ≡ suc (length (scripts_of (drop (at + l) file)).scripts)
    left = ap (λ (c : Cut). length c.scripts) s.cut

    module _ (d : ℕ) (st : Stretch ends_line file at d) where
      pub feed-in : d < length file
      unfolding script
      feed-in = feed-inside file at l r ok.0 ok.1 d st

      lines : DeclaredAt file (d + 1) (all_declared D)
      unfolding script D
      lines = declared-at file at l r ok.0 ok.1 d st

      -- what is asked where the declarations are entered
      pub to-enter : (seen : List Declared) × (ys : List Declared) × Holds file seen p n h count × DeclaredAt file (d + 1) ys × (length seen + length ys ≤ 98304)
      to-enter = (flat m.before, all_declared D, m.holds, lines, omega (arith, few-here, m.short, m.few, left))

      pub met-clash : ((seen ys : List Declared) → Holds file seen p n h count → DeclaredAt file (d + 1) ys → Disagrees seen ys) → MeaningsTo file (Some k)
      met-clash to =
          here ∙ earliest-here k m.before D _ (clash-so file m.before D self (to (flat m.before) (all_declared D) m.holds lines))

      module _ {p' n' h' : List ℕ} {c : ℕ}
          (to : (seen ys : List Declared) → Holds file seen p n h count → DeclaredAt file (d + 1) ys → Holds file (seen ++ ys) p' n' h' c) where
        pub met-more : Met file p' n' h' c (at + l) (k + 1)
        met-more =
            let e : Holds file (flat m.before ++ all_declared D) p' n' h' c = to (flat m.before) (all_declared D) m.holds lines in
            record {
              inside = s.inside;
              before = m.before ++ (D ∷ []);
              order = here ∙ earliest-on k m.before D _ (agree-so file m.before D self e) ∙ ap (λ (i : ℕ). earliest i (m.before ++ (D ∷ [])) (declarations_of_all (scripts_of (drop (at + l) file)).scripts)) (let w : suc k ≡ k + 1 = omega arith in w);
              holds = subst (λ (x : List Declared). Holds file x p' n' h' c) (sym (flat-last m.before D)) e;
              few = omega (arith, left, m.few);
              short = omega (arith, ap length (flat-last m.before D), length-append (flat m.before) (all_declared D), few-here, m.short);
              read = λ i t g. subst (λ (x : Cut). AllRead x.scripts) s.cut m.read (suc i) t g;
            }
