-- The claims on `echo_hidden` at a problem: x rotated by 11, of width 8, and an address added, is x. The bits of the address may be others,
-- and the hidden script is the same; those of the amount may not.
use Rattle.std.specs.Prelude.{ℕ, zero, suc, ◌+◌, ◌<◌, ◌≡◌, refl, List, [], ◌∷◌, ◌++◌, length, get_or, drop, Ok, Err}
use Rattle.std.proofs.Common.{subst, arith}
use Rattle.lists.specs.Bytes.{bytes}
use Rattle.reading.specs.Kinds.{Var, Const, Add, Eq, Rotl}
use Rattle.echo_spec.specs.Shapes.{rotation}
use Rattle.echo_spec.specs.Input.{Problem, Node, shape, no_node, nodes_of}
use Rattle.echo_spec.specs.Examples.{node, problem, var, lent, eleven, five, all_meet}
use Rattle.hidden.specs.Hidden.{zeros, hidden, hidden_reading, hidden_script, echo_hidden_answer}
use Rattle.hidden.specs.Alike.{with_bits, Alike}
use Rattle.refusals.specs.declared.EchoError.TheVariants.{Room}
use Rattle.theorems.specs.Answered.{printed}
use Rattle.claims.specs.Claims.{Accepts}
use Rattle.claims.specs.HiddenClaims.{hidden_printed, as_long, hidden-alike, HiddenContract, hidden-prints, hidden-refuses}

-- these bits: of the amount, and of the address
example : List ℕ → List ℕ → Problem
example amount address =
    problem (node Var 8 0 0 0 ∷ node Const 0 8 0 0 ∷ node Rotl 0 1 0 0 ∷ node Const 8 8 0 0 ∷ node Add 2 3 0 0 ∷ node Eq 4 0 0 0 ∷ [])
    (amount ++ address) [] (5 ∷ []) (var "x" 0 8 ∷ []) [] []

another : List ℕ
another = 0 ∷ 1 ∷ 1 ∷ 0 ∷ 1 ∷ 1 ∷ 1 ∷ 1 ∷ []

its-script : printed (example eleven five)
    ≡ bytes "(set-logic QF_BV)\n(declare-const |x| (_ BitVec 8))\n(assert (= (bvadd ((_ rotate_left 3) |x|) #b00000101) |x|))\n(check-sat)\n"
unfolding all_meet example
its-script = refl

its-hidden-script : hidden_printed (example eleven five)
    ≡ bytes "(set-logic QF_BV)\n(declare-const |x| (_ BitVec 8))\n(assert (= (bvadd ((_ rotate_left 3) |x|) #b00000000) |x|))\n(check-sat)\n"
unfolding all_meet example zeros hidden hidden_reading hidden_script
its-hidden-script = refl

fits : Accepts (example eleven five) (lent 123)
unfolding all_meet example
fits = refl

as-long-here : length (hidden_printed (example eleven five)) ≡ length (printed (example eleven five))
as-long-here = as_long (example eleven five) (lent 123) fits

-- ---------------------------------------------------------------- another address

-- node 2 is the one rotation
one-rotation : (i : ℕ) → shape (get_or (nodes_of (example eleven five).nodes) i no_node) ≡ rotation → i ≡ 2
unfolding all_meet example
one-rotation zero e = absurd (let z : ◌≡◌ {A = ℕ} 0 1 = cc in omega arith)
one-rotation (suc zero) e = absurd (let z : ◌≡◌ {A = ℕ} 0 1 = cc in omega arith)
one-rotation (suc (suc zero)) e = refl
one-rotation (suc (suc (suc zero))) e = absurd (let z : ◌≡◌ {A = ℕ} 0 1 = cc in omega arith)
one-rotation (suc (suc (suc (suc zero)))) e = absurd (let z : ◌≡◌ {A = ℕ} 0 1 = cc in omega arith)
one-rotation (suc (suc (suc (suc (suc zero))))) e = absurd (let z : ◌≡◌ {A = ℕ} 0 1 = cc in omega arith)
one-rotation (suc (suc (suc (suc (suc (suc i)))))) e = absurd (let z : ◌≡◌ {A = ℕ} 0 1 = cc in omega arith)

-- its amount has the first eight bits
first-eight : (i k : ℕ) → i ≡ 2 → k < (get_or (nodes_of (example eleven five).nodes) (get_or (nodes_of (example eleven five).nodes) i no_node).b no_node).a
    + (get_or (nodes_of (example eleven five).nodes) (get_or (nodes_of (example eleven five).nodes) i no_node).b no_node).b → k < 8
unfolding all_meet example
first-eight i k e h =
    let ns : List Node = nodes_of (example eleven five).nodes in
    subst (λ (j : ℕ). k < (get_or ns (get_or ns j no_node).b no_node).a + (get_or ns (get_or ns j no_node).b no_node).b) e h

same-eight : (k : ℕ) → k < 8 → get_or (eleven ++ another) k 0 ≡ get_or (eleven ++ five) k 0
same-eight zero h = refl
same-eight (suc zero) h = refl
same-eight (suc (suc zero)) h = refl
same-eight (suc (suc (suc zero))) h = refl
same-eight (suc (suc (suc (suc zero)))) h = refl
same-eight (suc (suc (suc (suc (suc zero))))) h = refl
same-eight (suc (suc (suc (suc (suc (suc zero)))))) h = refl
same-eight (suc (suc (suc (suc (suc (suc (suc zero))))))) h = refl
same-eight (suc (suc (suc (suc (suc (suc (suc (suc k)))))))) h = absurd (omega arith)

alike : Alike (example eleven five) (eleven ++ another)
unfolding example another
alike = record {
  counted = refl;
  binary = tt;
  binary_too = tt;
  amounts = λ k h. same-eight k (first-eight h.node k (one-rotation h.node h.rotates) h.below);
}

same-hidden : echo_hidden_answer (with_bits (example eleven five) (eleven ++ another)) (lent 130) ≡ echo_hidden_answer (example eleven five) (lent 130)
same-hidden = hidden-alike (example eleven five) (eleven ++ another) alike (lent 130)

-- the plain scripts differ, and so do the hidden ones where the amounts do
other-plain : printed (example eleven another)
    ≡ bytes "(set-logic QF_BV)\n(declare-const |x| (_ BitVec 8))\n(assert (= (bvadd ((_ rotate_left 3) |x|) #b11110110) |x|))\n(check-sat)\n"
unfolding all_meet example another
other-plain = refl

other-amount : hidden_printed (example five five)
    ≡ bytes "(set-logic QF_BV)\n(declare-const |x| (_ BitVec 8))\n(assert (= (bvadd ((_ rotate_left 5) |x|) #b00000000) |x|))\n(check-sat)\n"
unfolding all_meet example zeros hidden hidden_reading hidden_script
other-amount = refl

-- ---------------------------------------------------------------- calls

-- what a call leaves in the buffer
after : ℕ → List ℕ
after room = (echo_hidden_answer (example eleven five) (lent room)).output

hidden-call : HiddenContract (Ok 123) (example eleven five) (lent 130) (after 130)
unfolding all_meet example zeros hidden hidden_reading hidden_script echo_hidden_answer after
hidden-call = refl

its-bytes : after 130 ≡ hidden_printed (example eleven five) ++ drop (length (hidden_printed (example eleven five))) (lent 130)
its-bytes = (hidden-prints (example eleven five) (lent 130) (after 130) 123 hidden-call).2

refused-call : HiddenContract (Err Room) (example eleven five) (lent 3) (after 3)
unfolding all_meet example zeros hidden hidden_reading hidden_script echo_hidden_answer after
refused-call = refl

zeroed : after 3 ≡ 0 ∷ 0 ∷ 0 ∷ []
zeroed = (hidden-refuses (example eleven five) (lent 3) (after 3) Room refused-call).1
