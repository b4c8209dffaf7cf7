-- `stands` meets its contract: there is no room for the name, or the bytes there are compared with it.
use Rattle.std.specs.Prelude.{ℕ, ◌+◌, ◌-◌, ◌<◌, ◌≡◌, refl, List, length, take, drop}
use Rattle.std.proofs.Common.{sym, ◌∙◌, ap, arith, length-drop}
use Rattle.std.proofs.lemmas.Bool.{lt-leb}
use Rattle.std.proofs.lemmas.List.{length-take}
use Rattle.echo_names.specs.Steps.{same_not}
use Rattle.script_names.proofs.stands.Goals as goal

-- what is too short is not the name
no-room : (s name : List ℕ) (p : ℕ) → length s - p < length name → name ≡ take (length name) (drop p s) → ⊥
no-room s name p h e =
    let l : length name ≡ length (take (length name) (drop p s)) = ap length e in
    let a = length-take (length name) (drop p s) in
    let b = length-drop p s in
    omega arith

pub returns-then-n-s : goal.returns-then-n-s
returns-then-n-s c =
    let a = c.args in
    let n : a.p + length a.name.now - a.p ≡ length a.name.now = omega arith in
    c.same_bytes.ensures ∙ rw n refl

pub returns-else-n-s : goal.returns-else-n-s
returns-else-n-s c =
    let a = c.args in
    let n = length a.name.now in
    let h : length a.s.now - a.p < n = omega (arith, c.if-n-s.false) in
    lt-leb n (length a.s.now - a.p) h ∙ sym (same_not a.name.now (take n (drop a.p a.s.now)) (no-room a.s.now a.name.now a.p h))
