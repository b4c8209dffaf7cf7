-- Lines with their names checked are lines, and then the names checked.
use Rattle.std.specs.Prelude.{ℕ, zero, suc, ◌≡◌, refl, List, [], ◌∷◌, ◌++◌, map, Bool, true, false, cond}
use Rattle.std.proofs.Common.{ap, ◌∙◌}
use Rattle.std.proofs.Math.Option.{Option, none, some}
use Rattle.reading.specs.Trees.{Name}
use Rattle.echo_spec.specs.Names.{entry_ok, table_ok}
use Rattle.readback.specs.Reader.{Took, took, and_then}
use Rattle.readback.specs.ScriptReader.{many}
use Rattle.script_decls.specs.Lines.{LineType, name_in, line_of, checked}

abbrev named : (k : ℕ) → List Name → List (LineType k) → List ℕ → Option (Took (List (LineType k)))
named k before xs r = cond (table_ok before (map (name_in k) xs)) (took xs r) none

pub checked-names : (k f : ℕ) (before : List Name) (b : List ℕ) → checked k f before b ≡ and_then (many (line_of k) f b) (named k before)
unfolding checked many and_then table_ok
checked-names k zero before b = refl
checked-names k (suc f) before b = by-line (line_of k b) refl (λ before b. checked-names k f before b)
  where
    after : (v : LineType k) → (e : Bool) → entry_ok before (name_in k v) ≡ e → (o : Option (Took (List (LineType k))))
        → cond e (and_then (and_then o (named k (before ++ (name_in k v ∷ [])))) (λ xs r. took (v ∷ xs) r)) none ≡ and_then (and_then o (λ xs r. took (v ∷ xs) r)) (named k before)
    after v true q none = refl
    after v false q none = refl
    after v true q (some t) = rw (q, table_ok) (by-rest (table_ok (before ++ (name_in k v ∷ [])) (map (name_in k) t.value)))
      where
        by-rest : (g : Bool) → and_then (cond g (took t.value t.rest) none) (λ xs r. took (v ∷ xs) r) ≡ cond g (took (v ∷ t.value) t.rest) none
        by-rest true = refl
        by-rest false = refl
    after v false q (some t) = rw (q, table_ok) refl

    by-line : (o : Option (Took (LineType k))) → line_of k b ≡ o → ((before : List Name) (b : List ℕ) → checked k f before b ≡ and_then (many (line_of k) f b) (named k before)) → checked k (suc f) before b ≡ and_then (many (line_of k) (suc f) b) (named k before)
    by-line none e ih = rw (e, checked, many)
    by-line (some t) e ih =
        rw (e, checked, many)
        (ap (λ (o : Option (Took (List (LineType k)))). cond (entry_ok before (name_in k t.value)) (and_then o (λ xs r. took (t.value ∷ xs) r)) none) (ih (before ++ (name_in k t.value ∷ [])) t.rest)
        ∙ after t.value (entry_ok before (name_in k t.value)) refl (many (line_of k) f t.rest))
