-- A list with other elements from a place on: what a store there and after it makes of an array. Assumes nothing.
use Prim.Native.Nat.{ℕ, suc, ◌+◌, ◌-◌, ◌≤◌, ◌<◌}
use Rattle.std.specs.Prelude.{◌≡◌, get_or}
use Rattle.std.proofs.Math.Path.{ap, sym}
use Rattle.std.proofs.Common.{◌∙◌, arith, length-drop, take-append-drop}
use mathlib.Core.List.{List, [], ◌∷◌, ◌++◌, append_assoc}
use Rattle.std.proofs.Math.ListN.{length, take, drop, set, length-append}
use lib.Seq.{length-take-le, drop-cons, take-add, drop-append-add, drop-drop, take-append_seam, get_or-take, set_at, take_at, drop_at}

unfoldable pub filled : List ℕ → ℕ → List ℕ → List ℕ
filled l at xs = take at l ++ (xs ++ drop (at + length xs) l)

pub filled_none : (l : List ℕ) (at : ℕ) → filled l at [] ≡ l
unfolding filled
filled_none l at =
    let z : at + 0 ≡ at = omega arith in
    rw z (take-append-drop at l)

module _ (l : List ℕ) (at : ℕ) (xs : List ℕ) where
  -- the front with the new elements
  abbrev head : List ℕ
  head = take at l ++ xs

  abbrev next : ℕ
  next = at + length xs

  head-long : at ≤ length l → length head ≡ next
  head-long h = length-append (take at l) xs ∙ ap (λ (k : ℕ). k + length xs) (length-take-le at l h)

  split : filled l at xs ≡ head ++ drop next l
  unfolding filled
  split = sym (append_assoc (take at l) xs (drop next l))

  -- one store more, after the last
  pub filled_more : (v : ℕ) → at + length xs < length l → set (filled l at xs) (at + length xs) v ≡ filled l at (xs ++ (v ∷ []))
  unfolding filled
  filled_more v h =
      let tail : List ℕ = drop (suc next) l in
      let opened : filled l at xs ≡ head ++ (get_or l next 0 ∷ tail) = split ∙ ap (λ (y : List ℕ). head ++ y) (drop-cons l next 0 h) in
      let stored : set (head ++ (get_or l next 0 ∷ tail)) next v ≡ head ++ (v ∷ tail) = set_at head (get_or l next 0) tail v next (head-long (omega arith)) in
      let m : suc next ≡ at + length (xs ++ (v ∷ [])) = omega (arith, length-append xs (v ∷ [])) in
      ap (λ (y : List ℕ). set y next v) opened ∙ stored ∙ append_assoc (take at l) xs (v ∷ tail)
      ∙ ap (λ (y : List ℕ). take at l ++ y) (sym (append_assoc xs (v ∷ []) tail) ∙ ap (λ (k : ℕ). (xs ++ (v ∷ [])) ++ drop k l) m)

  pub length-filled : at + length xs ≤ length l → length (filled l at xs) ≡ length l
  length-filled h =
      ap length split ∙ length-append head (drop next l)
      ∙ (let a = head-long (omega arith) in let b = length-drop next l in omega arith)

  -- up to the last new element
  pub take-filled : at ≤ length l → take (at + length xs) (filled l at xs) ≡ take at l ++ xs
  take-filled h = ap (take next) split ∙ take_at head (drop next l) next (head-long h)

  pub front-filled : at ≤ length l → take at (filled l at xs) ≡ take at l
  unfolding filled
  front-filled h = take_at (take at l) (xs ++ drop next l) at (length-take-le at l h)

  -- the new elements
  pub part_filled : at ≤ length l → take (length xs) (drop at (filled l at xs)) ≡ xs
  unfolding filled
  part_filled h = ap (take (length xs)) (drop_at (take at l) (xs ++ drop next l) at (length-take-le at l h)) ∙ take-append_seam xs (drop next l)

  -- what lies behind them
  pub drop-filled : (b : ℕ) → at ≤ length l → at + length xs ≤ b → drop b (filled l at xs) ≡ drop b l
  drop-filled b h m =
      let k : ℕ = b - next in
      let e : b ≡ length head + k = omega (arith, head-long h) in
      let f : next + k ≡ b = omega arith in
      (λ i. drop (e i) (split i)) ∙ drop-append-add head (drop next l) k ∙ drop-drop k next l ∙ ap (λ (j : ℕ). drop j l) f

  -- an element before them
  pub get_or-filled : (j : ℕ) → at ≤ length l → j < at → get_or (filled l at xs) j 0 ≡ get_or l j 0
  get_or-filled j h m =
      sym (get_or-take at (filled l at xs) j 0 m) ∙ ap (λ (y : List ℕ). get_or y j 0) (front-filled h) ∙ get_or-take at l j 0 m

  -- elements behind the new ones
  pub filled-filled : (ys : List ℕ) → at + length xs ≤ length l → filled (filled l at xs) (at + length xs) ys ≡ filled l at (xs ++ ys)
  unfolding filled
  filled-filled ys h =
      let m : next + length ys ≡ at + length (xs ++ ys) = omega (arith, length-append xs ys) in
      let t : take next (filled l at xs) ≡ head = take-filled (omega arith) in
      let d : drop (next + length ys) (filled l at xs) ≡ drop (next + length ys) l = drop-filled (next + length ys) (omega arith) (omega arith) in
      (λ i. t i ++ (ys ++ d i)) ∙ append_assoc (take at l) xs (ys ++ drop (next + length ys) l)
      ∙ ap (λ (y : List ℕ). take at l ++ y) (sym (append_assoc xs ys (drop (next + length ys) l)) ∙ ap (λ (k : ℕ). (xs ++ ys) ++ drop k l) m)

-- ---------------------------------------------------------------- in a region that starts at place k

-- the region's front with the new elements
pub region-filled : (l : List ℕ) (k at : ℕ) (xs : List ℕ) → k + at ≤ length l → take (at + length xs) (drop k (filled l (k + at) xs)) ≡ take at (drop k l) ++ xs
region-filled l k at xs h =
    let w : List ℕ = filled l (k + at) xs in
    let n : ℕ = at + length xs in
    let e : k + n ≡ k + at + length xs = omega arith in
    let fk : length (take k l) ≡ k = length-take-le k l (omega arith) in
    let a : take (k + n) w ≡ take k l ++ (take at (drop k l) ++ xs) =
    ap (λ (j : ℕ). take j w) e ∙ take-filled l (k + at) xs h ∙ ap (λ (y : List ℕ). y ++ xs) (take-add k at l) ∙ append_assoc (take k l) (take at (drop k l)) xs in
    let b : take (k + n) w ≡ take k w ++ take n (drop k w) = take-add k n w in
    let f : take k w ≡ take k l = front k (omega arith) in
    sym (drop_at (take k l) (take n (drop k w)) k fk) ∙ ap (drop k) (ap (λ (y : List ℕ). y ++ take n (drop k w)) (sym f) ∙ sym b ∙ a) ∙ drop_at (take k l) (take at (drop k l) ++ xs) k fk
  where
    front : (j : ℕ) → j ≤ k + at → take j (filled l (k + at) xs) ≡ take j l
    front j m =
        let w : List ℕ = filled l (k + at) xs in
        sym (lib.Seq.take-take j (k + at) w m) ∙ ap (take j) (front-filled l (k + at) xs h) ∙ lib.Seq.take-take j (k + at) l m
