-- A number below 2²⁷ for a name: its chain, and a mark by which most other names of the chain are passed over.
-- Nothing rests on which it is.
use Rattle.std.specs.Prelude.{ℕ, suc, ◌+◌, ◌*◌, ◌-◌, ◌/◌, ◌%◌, ◌≤◌, ◌<◌, ◌≡◌, refl, List, [], ◌∷◌, length, take, drop, get_or}
use Rattle.std.proofs.Common.{ap, sym, ◌∙◌, arith, drop-cons, drop_of_length-le}
use Rattle.reading.specs.Trees.{Name}
use Rattle.script_tokens.specs.Reached.{between}

unfoldable pub mark_from : ℕ → List ℕ → ℕ
mark_from h [] = h
mark_from h (c ∷ w) = mark_from ((h * 16777619 + c) % 134217728) w

abbrev pub mark_of : Name → ℕ
mark_of n = mark_from 0 n

-- which chain the name is in
abbrev pub chain_of : Name → ℕ
chain_of n = mark_of n % 4096

-- what tells it from most others there
abbrev pub tag_of : Name → ℕ
tag_of n = mark_of n / 4096

mark-from-small : (h : ℕ) (w : List ℕ) → h < 134217728 → mark_from h w < 134217728
unfolding mark_from
mark-from-small h [] l = l
mark-from-small h (c ∷ w) l = mark-from-small ((h * 16777619 + c) % 134217728) w (omega arith)

pub mark-small : (n : Name) → mark_of n < 134217728
mark-small n = mark-from-small 0 n (omega arith)

between_first : (s : List ℕ) (i e : ℕ) → i < e → e ≤ length s → between s i e ≡ get_or s i 0 ∷ between s (i + 1) e
between_first s i e l h =
    let z : e - i ≡ suc (e - (i + 1)) = omega arith in
    let y : i + 1 ≡ suc i = omega arith in
    (λ j. take (z j) (drop-cons s i 0 (omega arith) j)) ∙ ap (λ (k : ℕ). get_or s i 0 ∷ take (e - (i + 1)) (drop k s)) (sym y)

pub mark-more : (s : List ℕ) (h i e : ℕ) → i < e → e ≤ length s → mark_from h (between s i e) ≡ mark_from ((h * 16777619 + get_or s i 0) % 134217728) (between s (i + 1) e)
unfolding mark_from
mark-more s h i e l m = ap (mark_from h) (between_first s i e l m)

pub mark-end : (s : List ℕ) (h i : ℕ) → mark_from h (between s i i) ≡ h
unfolding mark_from
mark-end s h i = let z : i - i ≡ 0 = omega arith in rw z refl

-- the same of the bytes that are left
pub mark-drop : (w : List ℕ) (h i : ℕ) → i < length w → mark_from h (drop i w) ≡ mark_from ((h * 16777619 + get_or w i 0) % 134217728) (drop (i + 1) w)
unfolding mark_from
mark-drop w h i l =
    let z : suc i ≡ i + 1 = omega arith in
    ap (mark_from h) (drop-cons w i 0 l) ∙ ap (λ (k : ℕ). mark_from ((h * 16777619 + get_or w i 0) % 134217728) (drop k w)) z

pub mark-drop-end : (w : List ℕ) (h i : ℕ) → length w ≤ i → mark_from h (drop i w) ≡ h
unfolding mark_from
mark-drop-end w h i l = ap (mark_from h) (drop_of_length-le w l)
