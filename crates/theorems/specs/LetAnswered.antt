-- The answer of the printer with `let` taken apart: which numbers it has, when it is 11, and that it is the plain printer's where
-- no operator is used twice.
use Rattle.std.specs.Prelude.{ℕ, zero, suc, ◌≤◌, ◌<◌, ◌≡◌, refl, List, [], ◌∷◌, ◌++◌, Bool, true, false, ◌&&◌, not, cond, ◌↔◌, ◌≢◌, ltb, eqb, length, drop, replicate}
use Rattle.std.proofs.Common.{ap, arith, ltb→lt, T_not}
use Rattle.std.proofs.Math.Path.{subst}
use Rattle.std.proofs.Math.Dec.{T}
use Rattle.lists.specs.Tests.{among, among-every, in_list, every_from, every-at, and_0, and-1, no→false, not→false, T→true}
use Rattle.echo_spec.specs.Refusals.{unless, ◌or_else◌}
use Rattle.echo_spec.specs.Input.{Problem, within_limits, encoded, Dag, dag_of, query_of, name_table, aname_table, fname_table}
use Rattle.echo_spec.specs.Widths.{array_widths_ok}
use Rattle.echo_spec.specs.Names.{names_ok}
use Rattle.echo_spec.specs.Sharing.{uses_of_all, used_once, unshared}
use Rattle.echo_spec.specs.Tables.{columns_ok, decl_vars_ok, decl_funcs_ok}
use Rattle.echo_spec.specs.Trees.{trees_over, tree_of, reading_of}
use Rattle.echo_spec.specs.Walk.{walk_all, sort_ok, walk, walk_roots, refusal_with}
use Rattle.echo_spec.specs.Render.{term, assertions_text, render}
use Rattle.echo_spec.specs.Accepted.{in-or_else, in-unless, walk_number, WalkNumbers, all-number, step-number}
use Rattle.echo_spec.proofs.Accepted.{checks-number}
use Rattle.lists.specs.Build.{upto_all}
use Rattle.echo_spec.specs.Answers.{script, endless_with, endless_refusal, text_answer, echo_ext_answer}
use Rattle.lets.specs.Lets.{
  uses_in,
  shared,
  reached,
  binds,
  rising,
  named,
  named_step,
  named_of,
  assertion_of,
  assertions_of,
  let_text,
  let_assertions_text,
  render_let,
  bool_at,
  used_as,
  let_step,
  let_walks_below,
  let_walk,
  assertion_refusal,
  let_roots,
  names_clear,
  let_refusal_with,
  let_script,
  let_refusal,
  endless_let,
  echo_let_answer,
}
use Rattle.lets.specs.Numbers.{query_number, endless_number}
use Rattle.lets.proofs.Numbers.{roots-number, query-number, endless-let-number}
use Rattle.lets.proofs.Plain.{binds-none, text-plain, roots-plain, clear-unshared}
use Rattle.theorems.specs.Answered.{text-acceptance, text-refused, text-accepted, text-room, text-told, text-listed, endless-passes, endless-listed, endless-told}
use Rattle.theorems.specs.LetPrinted.{LetWhole, let_printed}

-- ---------------------------------------------------------------- acceptance and refusal

pub endless-let-whole : (p : Problem) → (endless_let p ≡ 0) ↔ LetWhole p
unfolding endless_let
endless-let-whole p = endless-passes p _

pub let-acceptance : (p : Problem) (lent : List ℕ) → (echo_let_answer p lent).number ≡ 0
    → echo_let_answer p lent ≡ record { number = 0; count = length (let_printed p); output = let_printed p ++ drop (length (let_printed p)) lent }
unfolding echo_let_answer
let-acceptance p lent e = text-acceptance (endless_let p) (let_printed p) lent e

pub let-refused : (p : Problem) (lent : List ℕ) (n : ℕ) → (echo_let_answer p lent).number ≡ suc n
    → echo_let_answer p lent ≡ record { number = suc n; count = 0; output = replicate (length lent) 0 }
unfolding echo_let_answer
let-refused p lent n e = text-refused (endless_let p) (let_printed p) lent n e

-- accepted exactly where every check passes and the script fits
pub let-accepted-exactly : (p : Problem) (lent : List ℕ) → ((echo_let_answer p lent).number ≡ 0) ↔ (LetWhole p × (length (let_printed p) ≤ length lent))
unfolding echo_let_answer
let-accepted-exactly p lent =
    let a = text-accepted (endless_let p) (let_printed p) lent in
    (λ e. let h = a.0 e in ((endless-let-whole p).0 h.0, h.1), λ h. a.1 ((endless-let-whole p).1 h.0, h.1))

-- ---------------------------------------------------------------- the numbers

-- 6 does not occur, and no number above 12
pub let-number : (p : Problem) (lent : List ℕ) → T (among (0 ∷ 1 ∷ 2 ∷ 3 ∷ 4 ∷ 5 ∷ 7 ∷ 8 ∷ 9 ∷ 10 ∷ 11 ∷ 12 ∷ []) (echo_let_answer p lent).number)
unfolding echo_let_answer
let-number p lent =
    let q : (ℕ → Bool) = among (0 ∷ 1 ∷ 2 ∷ 3 ∷ 4 ∷ 5 ∷ 7 ∷ 8 ∷ 9 ∷ 10 ∷ 11 ∷ 12 ∷ []) in
    text-listed q (endless_let p) (let_printed p) lent tt tt (among-every q (0 ∷ 1 ∷ 2 ∷ 3 ∷ 4 ∷ 5 ∷ 7 ∷ 8 ∷ 9 ∷ 11 ∷ 12 ∷ []) tt (endless_let p) (endless-let-number p))

-- ---------------------------------------------------------------- 11

-- a refusal that is not the number told was passed
past : (b : Bool) (n x k : ℕ) → suc n ≢ k → (unless b (suc n) or_else x) ≡ k → T b × (x ≡ k)
past true n x k h e = (tt, e)
past false n x k h e = absurd (h e)

-- every check before that of sharing
pub record Before (d : Dag) (ws : List ℕ) : Type 0 where
  pub columns : T (columns_ok d)
  pub arrays : T (array_widths_ok d.array-widths)
  pub widths : T (eqb (length ws) (length d.nodes))
  pub names : T (names_ok d)

pub clash-query : (d : Dag) (ws roots : List ℕ) → (let_refusal_with d ws roots ≡ 11) ↔ (Before d ws × T (not (names_clear d (uses_in d roots))))
unfolding let_refusal_with
clash-query d ws roots = (there, λ h. back h.0 h.1)
  where
    later : ℕ
    later = unless (decl_vars_ok d) 4 or_else unless (decl_funcs_ok d ws) 7 or_else let_roots d ws (uses_in d roots) roots

    later-number : T (walk_number (unless (decl_vars_ok d) 4 or_else unless (decl_funcs_ok d ws) 7 or_else let_roots d ws (uses_in d roots) roots))
    later-number =
        in-or_else walk_number (unless (decl_vars_ok d) 4) _ (in-unless walk_number (decl_vars_ok d) 4 (unfold walk_number in tt) (unfold walk_number in tt))
        (in-or_else walk_number (unless (decl_funcs_ok d ws) 7) _ (in-unless walk_number (decl_funcs_ok d ws) 7 (unfold walk_number in tt) (unfold walk_number in tt))
        (roots-number d ws (uses_in d roots) roots))

    not-eleven : (n : ℕ) → T (walk_number n) → n ≢ 11
    not-eleven n h e = unfold walk_number in subst (λ (k : ℕ). T (walk_number k)) e h

    by-clear : (b : Bool) → (unless b 11 or_else unless (decl_vars_ok d) 4 or_else unless (decl_funcs_ok d ws) 7 or_else let_roots d ws (uses_in d roots) roots) ≡ 11 → T (not b)
    by-clear true e = absurd (not-eleven _ later-number e)
    by-clear false e = tt

    there : let_refusal_with d ws roots ≡ 11 → Before d ws × T (not (names_clear d (uses_in d roots)))
    there e =
        let (c, e₀) = past (columns_ok d) 0 _ 11 (λ q. omega arith) e in
        let (a, e₁) = past (array_widths_ok d.array-widths) 11 _ 11 (λ q. omega arith) e₀ in
        let (w, e₂) = past (eqb (length ws) (length d.nodes)) 0 _ 11 (λ q. omega arith) e₁ in
        let (n, e₃) = past (names_ok d) 1 _ 11 (λ q. omega arith) e₂ in
        (record { columns = c; arrays = a; widths = w; names = n }, by-clear (names_clear d (uses_in d roots)) e₃)

    back : Before d ws → T (not (names_clear d (uses_in d roots))) → let_refusal_with d ws roots ≡ 11
    back b h =
        rw (
          T→true (columns_ok d) b.columns,
          T→true (array_widths_ok d.array-widths) b.arrays,
          T→true (eqb (length ws) (length d.nodes)) b.widths,
          T→true (names_ok d) b.names,
          not→false (names_clear d (uses_in d roots)) h,
        )

-- ---------------------------------------------------------------- without shared operators

script-plain : (p : Problem) → T (unshared (dag_of p).nodes (dag_of p).side p.roots) → let_script (query_of p) ≡ script (query_of p)
unfolding let_script script render_let render reading_of
script-plain p h = rw (text-plain (dag_of p) p.bits _ (uses_in (dag_of p) p.roots) (binds-none (dag_of p) p.roots h) p.roots)

endless-plain : (p : Problem) → T (unshared (dag_of p).nodes (dag_of p).side p.roots) → endless_let p ≡ endless_refusal p
unfolding endless_let endless_refusal let_refusal_with refusal_with
endless-plain p h =
    rw (
      T→true (names_clear (dag_of p) (uses_in (dag_of p) p.roots)) (clear-unshared (dag_of p) p.roots h),
      T→true (unshared (dag_of p).nodes (dag_of p).side p.roots) h,
      roots-plain (dag_of p) p.bits _ (uses_in (dag_of p) p.roots) (binds-none (dag_of p) p.roots h) p.roots,
    )

-- the two printers give one answer
pub plain-answer : (p : Problem) → T (unshared (dag_of p).nodes (dag_of p).side p.roots) → (lent : List ℕ) → echo_let_answer p lent ≡ echo_ext_answer p lent
unfolding echo_let_answer echo_ext_answer
plain-answer p h lent = λ i. text_answer (endless-plain p h i) (script-plain p h i) lent

-- ---------------------------------------------------------------- 10 and 11 as answers

-- 11 is answered only, and always, where every check before that of sharing passes and a declared name is that of a shared node
pub clash-only : (p : Problem) (lent : List ℕ)
    → ((echo_let_answer p lent).number ≡ 11)
    ↔ (T (within_limits p) × T (encoded p.nodes p.bits) × (let_refusal (dag_of p) (length p.bits) p.roots ≡ 11))
unfolding echo_let_answer endless_let
clash-only p lent =
    let r : ℕ = let_refusal (dag_of p) (length p.bits) p.roots in
    let a = text-told (endless_with p r) (let_printed p) lent 10 (λ e. omega arith) in
    let b = endless-told p r 10 (λ e. omega arith) (λ e. omega arith) in
    (λ e. b.0 (a.0 e), λ h. a.1 (b.1 h))

-- 10 is answered only, and always, where every other check passes and the script is longer than the buffer
pub let-room : (p : Problem) (lent : List ℕ) → ((echo_let_answer p lent).number ≡ 10) ↔ (LetWhole p × (length lent < length (let_printed p)))
unfolding echo_let_answer
let-room p lent =
    let a = text-room (endless_let p) (let_printed p) lent (λ e. subst (λ (k : ℕ). T (endless_number k)) e (endless-let-number p)) in
    (λ e. let h = a.0 e in ((endless-let-whole p).0 h.0, h.1), λ h. a.1 ((endless-let-whole p).1 h.0, h.1))
