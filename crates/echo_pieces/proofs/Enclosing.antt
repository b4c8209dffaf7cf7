-- Three words stored one behind the other, as one piece that fits. Assumes nothing.
use Prim.Native.Nat.{ℕ, ◌+◌, ◌-◌, ◌≤◌}
use mathlib.Core.Path.{◌≡◌, ap, ◌∙◌}
use mathlib.Core.List.{List, ◌++◌}
use native.Mathlib.Omega.{arith}
use lib.ListN.{length}
use borrow.Rule.Slice.PartMut.{put_mid}
use Rattle.echo_bytes.specs.declared.Place.{Place}
use Rattle.echo_bytes.specs.Page.{Page, page, saturated, written}
use Rattle.echo_bytes.specs.Laws.{length-written, written_then}
use Rattle.echo_bytes.proofs.Copying.{written-whole}

place-is : {a b m n : ℕ} → a ≡ b → m ≡ n → let x : Place = record { at = a; need = m } in let y : Place = record { at = b; need = n } in x ≡ y
place-is p q = λ i. record { at = p i; need = q i }

-- f, l and e are where the first word ends, the second and the third
pub written-enclosed : (p : Place) (o a w b : List ℕ) (f l e : ℕ) (u v x : List ℕ) {q : Place} → f ≡ length a → l ≡ f + length w → e ≡ l + length b → e ≤ length o - p.at
    → u ≡ a → v ≡ w → x ≡ b → q ≡ record { at = p.at + e; need = saturated p.need e }
    → page q (put_mid (p.at + l) (p.at + e - (p.at + l)) (put_mid (p.at + f) (p.at + l - (p.at + f)) (put_mid p.at (p.at + f - p.at) o u) v) x) ≡ written (page p o) (a ++ (w ++ b))
written-enclosed p o a w b f l e u v x d g h room i j k q =
    let y : Place = record { at = p.at + f; need = saturated p.need f } in
    let z : Place = record { at = p.at + l; need = saturated p.need l } in
    let s : List ℕ = put_mid p.at (p.at + f - p.at) o u in
    let t : List ℕ = put_mid (p.at + f) (p.at + l - (p.at + f)) s v in
    let first : page y s ≡ written (page p o) a = written-whole p o a u (p.at + f) (omega arith) (omega arith) i (place-is (omega arith) (omega arith)) in
    let m : length s ≡ length o = ap (λ (r : Page). length r.bytes) first ∙ length-written (page p o) a in
    let second : page z t ≡ written (page y s) w = written-whole y s w v (p.at + l) (omega arith) (omega arith) j (place-is (omega arith) (omega arith)) in
    let n : length t ≡ length s = ap (λ (r : Page). length r.bytes) second ∙ length-written (page y s) w in
    written_then (page p o) a (w ++ b) first
    (written_then (page y s) w b second (written-whole z t b x (p.at + e) (omega arith) (omega arith) k (q ∙ place-is (omega arith) (omega arith))))
