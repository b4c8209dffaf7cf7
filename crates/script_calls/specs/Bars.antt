-- The names that stand between bars in a stretch of bytes.
use Rattle.std.specs.Prelude.{ℕ, ◌≡◌, refl, List, [], ◌∷◌, ◌++◌, Bool, true, false, eqb}
use Rattle.std.proofs.Common.{ap, sym, ◌∙◌, append_assoc, append-nil}
use Rattle.std.proofs.Math.Option.{Option, none, some}
use Rattle.lists.specs.Tests.{in_list, not→false}
use Rattle.reading.specs.Trees.{Name}
use Rattle.reader_laws.specs.TermsRead.{NoBar}

-- each first bar opens a name and the next ends it; of a name that is open, the bytes so far
unfoldable pub names_from : Option Name → List ℕ → List Name
names_from o [] = []
names_from none (c ∷ b) = elim (eqb c 124) [ true ↦ names_from (some []) b | false ↦ names_from none b ]
names_from (some n) (c ∷ b) = elim (eqb c 124) [ true ↦ n ∷ names_from none b | false ↦ names_from (some (n ++ (c ∷ []))) b ]

-- does the name stand between bars
abbrev pub stands : Name → List ℕ → Bool
stands n b = in_list n (names_from none b)

-- ---------------------------------------------------------------- laws

-- bytes without a bar
pub bars-skip : (w b : List ℕ) → NoBar w → names_from none (w ++ b) ≡ names_from none b
unfolding names_from
bars-skip [] b h = refl
bars-skip (c ∷ w) b (h, k) = rw (not→false (eqb c 124) h, names_from) (bars-skip w b k)

-- the rest of a name, and its bar
bars-close : (m n b : List ℕ) → NoBar n → names_from (some m) (n ++ (124 ∷ b)) ≡ (m ++ n) ∷ names_from none b
unfolding names_from
bars-close m [] b h = ap (λ (x : Name). x ∷ names_from none b) (sym (append-nil m))
bars-close m (c ∷ n) b (h, k) =
    rw (not→false (eqb c 124) h, names_from) (bars-close (m ++ (c ∷ [])) n b k ∙ ap (λ (x : Name). x ∷ names_from none b) (append_assoc m (c ∷ []) n))

-- a name between bars
pub bars-name : (n b : List ℕ) → NoBar n → names_from none (124 ∷ (n ++ (124 ∷ b))) ≡ n ∷ names_from none b
unfolding names_from
bars-name n b h = bars-close [] n b h

-- a name that no bar ends
open_none : (m w : List ℕ) → NoBar w → names_from (some m) w ≡ []
unfolding names_from
open_none m [] h = refl
open_none m (c ∷ w) (h, k) = rw (not→false (eqb c 124) h, names_from) (open_none (m ++ (c ∷ [])) w k)

pub bars-open : (w : List ℕ) → NoBar w → names_from none (124 ∷ w) ≡ []
unfolding names_from
bars-open w h = open_none [] w h

pub bars-none : (w : List ℕ) → NoBar w → names_from none w ≡ []
unfolding names_from
bars-none [] h = refl
bars-none (c ∷ w) (h, k) = rw (not→false (eqb c 124) h, names_from) (bars-none w k)
