-- Laws of the checks of a query: what one has passed that is not refused, and which numbers a refusal can have.
use Rattle.std.specs.Prelude.{ℕ, ◌≡◌, List, [], ◌∷◌, map, Bool, length}
use Rattle.lists.specs.Tests.{among-every, every, by-test}
use Rattle.lists.specs.Build.{upto_all}
use lib.Dec.{T, eqb, eqb→eq}
use Rattle.echo_spec.specs.Refusals.{unless}
use Rattle.echo_spec.specs.Input.{Dag, Problem, within_limits, encoded, dag_of}
use Rattle.echo_spec.specs.Widths.{array_widths_ok, ext_wf_of}
use Rattle.echo_spec.specs.Answers.{endless_with, endless_refusal}
use Rattle.echo_spec.specs.Names.{names_ok}
use Rattle.echo_spec.specs.Sharing.{unshared}
use Rattle.echo_spec.specs.Tables.{columns_ok, decl_vars_ok, decl_funcs_ok}
use Rattle.echo_spec.specs.Walk.{refusal, formula, step_of_walk, walks_below, walk, walk_roots, checks, refusal_with}
use Rattle.echo_spec.specs.Accepted.{unless-passed, or_else-passed, in-or_else, in-unless, all-number, step-number, walk_number, WalkNumbers, query_number, endless_number, Checked, Accepted}

pub checks-passed : (d : Dag) (ws : List ℕ) (sharing walked : ℕ) → checks d ws sharing walked ≡ 0 → Checked d ws × (sharing ≡ 0) × (walked ≡ 0)
checks-passed d ws sharing walked e =
    let c = or_else-passed (unless (columns_ok d) 1) _ e in
    let e₁ = or_else-passed (unless (array_widths_ok d.array-widths) 12) _ c.1 in
    let e₂ = or_else-passed (unless (eqb (length ws) (length d.nodes)) 1) _ e₁.1 in
    let e₃ = or_else-passed (unless (names_ok d) 2) _ e₂.1 in
    let e₄ = or_else-passed sharing _ e₃.1 in
    let e₅ = or_else-passed (unless (decl_vars_ok d) 4) _ e₄.1 in
    let e₆ = or_else-passed (unless (decl_funcs_ok d ws) 7) _ e₅.1 in (
      record {
        columns = unless-passed (columns_ok d) 0 c.0;
        arrays = unless-passed (array_widths_ok d.array-widths) 11 e₁.0;
        widths = eqb→eq (length ws) (length d.nodes) (unless-passed (eqb (length ws) (length d.nodes)) 0 e₂.0);
        names = unless-passed (names_ok d) 1 e₃.0;
        variables = unless-passed (decl_vars_ok d) 3 e₅.0;
        functions = unless-passed (decl_funcs_ok d ws) 6 e₆.0;
      },
      e₄.0,
      e₆.1,
    )

pub accepted : (d : Dag) (ws roots : List ℕ) → refusal_with d ws roots ≡ 0 → Accepted d ws roots
unfolding refusal_with
accepted d ws roots e =
    let (ok, once, walked) = checks-passed d ws (unless (unshared d.nodes d.side roots) 6) (walk_roots d ws roots) e in
    record { checked = ok; sharing = unless-passed (unshared d.nodes d.side roots) 5 once; walked = walked }

walk-number : (d : Dag) (ws : List ℕ) → WalkNumbers (walk d ws)
unfolding walk walk_number
walk-number d ws i =
    step-number d ws (walks_below d ws i)
    (upto_all (λ (f : Bool → ℕ). (b : Bool) → T (walk_number (f b))) (step_of_walk d ws) (λ _. 1) (λ b. tt) (λ below h k. step-number d ws below h k) i) i

-- the checks that every way to print has tell 1, 2, 4, 7 and 12, besides what its own two tell
pub checks-number : (t : ℕ → Bool) (d : Dag) (ws : List ℕ) (sharing walked : ℕ) → T (every t (0 ∷ 1 ∷ 2 ∷ 4 ∷ 7 ∷ 12 ∷ [])) → T (t sharing) → T (t walked) → T (t (checks d ws sharing walked))
checks-number t d ws sharing walked h s w =
    let (t₀, (t₁, (t₂, (t₄, (t₇, (t₁₂, end)))))) = by-test t (0 ∷ 1 ∷ 2 ∷ 4 ∷ 7 ∷ 12 ∷ []) h in
    in-or_else t (unless (columns_ok d) 1) _ (in-unless t (columns_ok d) 1 t₀ t₁)
    (in-or_else t (unless (array_widths_ok d.array-widths) 12) _ (in-unless t (array_widths_ok d.array-widths) 12 t₀ t₁₂)
    (in-or_else t (unless (eqb (length ws) (length d.nodes)) 1) _ (in-unless t (eqb (length ws) (length d.nodes)) 1 t₀ t₁)
    (in-or_else t (unless (names_ok d) 2) _ (in-unless t (names_ok d) 2 t₀ t₂)
    (in-or_else t sharing _ s
    (in-or_else t (unless (decl_vars_ok d) 4) _ (in-unless t (decl_vars_ok d) 4 t₀ t₄)
    (in-or_else t (unless (decl_funcs_ok d ws) 7) walked (in-unless t (decl_funcs_ok d ws) 7 t₀ t₇) w))))))

pub refusal-number : (d : Dag) (ws roots : List ℕ) → T (query_number (refusal_with d ws roots))
unfolding refusal_with walk_roots walk_number query_number
refusal-number d ws roots =
    checks-number query_number d ws (unless (unshared d.nodes d.side roots) 6) (walk_roots d ws roots) tt (in-unless query_number (unshared d.nodes d.side roots) 6 tt tt)
    (among-every query_number (0 ∷ 1 ∷ 3 ∷ 4 ∷ 5 ∷ 7 ∷ []) tt (walk_roots d ws roots) (all-number (walk d ws) (walk-number d ws) (map formula roots)))

pub endless-number : (p : Problem) → T (endless_number (endless_refusal p))
unfolding endless_refusal endless_with endless_number query_number
endless-number p =
    let d : Dag = dag_of p in
    let asked : ℕ = refusal d (length p.bits) p.roots in
    in-or_else endless_number (unless (within_limits p) 9) _ (in-unless endless_number (within_limits p) 9 tt tt)
    (in-or_else endless_number (unless (encoded p.nodes p.bits) 8) asked (in-unless endless_number (encoded p.nodes p.bits) 8 tt tt)
    (among-every endless_number (0 ∷ 1 ∷ 2 ∷ 3 ∷ 4 ∷ 5 ∷ 6 ∷ 7 ∷ 12 ∷ []) tt asked
    (refusal-number d (ext_wf_of (length p.bits) d.array-widths d.side d.nodes) p.roots)))
