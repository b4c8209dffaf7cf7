-- Examples of 9: each input at its limit and one past it. The lists are not written out: a limit is about a length alone.
use Rattle.std.specs.Prelude.{ℕ, ◌≡◌, List, [], ◌∷◌, map, Bool, true, false, cond, leb, eqb, length, get_or, replicate}
use Rattle.std.proofs.Common.{ap}
use Rattle.std.proofs.lemmas.List.{length-replicate}
use Rattle.lists.specs.Tests.{and-true}
use Rattle.echo_spec.specs.Input.{Problem, ArrayWidths, array_columns, nodes_within, column_within, pass_within, arena_within, within_limits}
use Rattle.echo_spec.specs.Answers.{Answer, width_refusal, width_answer, ext_wf_answer, endless_with, endless_refusal, text_refusal, echo_answer, text_answer, echo_ext_answer}

-- input k, counted from 0 in the Rust's order, is this list, and the others are empty
abbrev pub only : ℕ → List ℕ → Problem
only k xs =
    let at : ℕ → List ℕ = λ j. cond (eqb j k) xs [] in
    record {
      nodes = at 0;
      bits = at 1;
      side = at 2;
      roots = at 3;
      names = at 4;
      name_start = at 5;
      name_len = at 6;
      var_node = at 7;
      var_width = at 8;
      anames = at 9;
      aname_start = at 10;
      aname_len = at 11;
      index_width = at 12;
      value_width = at 13;
      fnames = at 14;
      fname_start = at 15;
      fname_len = at 16;
      func_width = at 17;
    }

-- is a problem within the limits whose one input that is not empty has this length: for each of the eighteen
abbrev within : ℕ → List Bool
within n = map (λ k. within_limits (only k (replicate n 0))) (0 ∷ 1 ∷ 2 ∷ 3 ∷ 4 ∷ 5 ∷ 6 ∷ 7 ∷ 8 ∷ 9 ∷ 10 ∷ 11 ∷ 12 ∷ 13 ∷ 14 ∷ 15 ∷ 16 ∷ 17 ∷ [])

-- nodes, bits, side entries, roots; the variables' arena and four columns; the arrays' arena and four; the functions' arena and three
printer-limits : (n : ℕ)
    → within n
    ≡ map (leb n) (34816 ∷ 131072 ∷ 8192 ∷ 256 ∷ 16384 ∷ 512 ∷ 512 ∷ 512 ∷ 512 ∷ 16384 ∷ 512 ∷ 512 ∷ 512 ∷ 512 ∷ 16384 ∷ 512 ∷ 512 ∷ 512 ∷ [])
unfolding nodes_within column_within arena_within within_limits
printer-limits n = simp (length-replicate, and-true)

-- nodes, bits, side entries, the two columns of the array table
width-pass-limits : (n : ℕ)
    → pass_within (replicate n 0) [] [] (array_columns [] [])
    ∷ pass_within [] (replicate n 0) [] (array_columns [] [])
    ∷ pass_within [] [] (replicate n 0) (array_columns [] [])
    ∷ pass_within [] [] [] (array_columns (replicate n 0) [])
    ∷ pass_within [] [] [] (array_columns [] (replicate n 0))
    ∷ []
    ≡ map (leb n) (34816 ∷ 131072 ∷ 8192 ∷ 512 ∷ 512 ∷ [])
unfolding nodes_within column_within pass_within
width-pass-limits n = simp (length-replicate, and-true)

-- 9 before all else
abbrev nine : List ℕ → Answer
nine lent = record { number = 9; count = 0; output = replicate (length lent) 0 }

printer-over : (p : Problem) (lent : List ℕ) → within_limits p ≡ false → echo_ext_answer p lent ≡ nine lent
unfolding endless_with endless_refusal text_refusal echo_answer text_answer echo_ext_answer
printer-over p lent h = rw h

width-pass-over : (nodes bits side : List ℕ) (arrays : ArrayWidths) (lent : List ℕ) → pass_within nodes bits side arrays ≡ false → ext_wf_answer nodes bits side arrays lent ≡ nine lent
unfolding width_refusal width_answer ext_wf_answer
width-pass-over nodes bits side arrays lent h = rw h

-- one past: node bytes that are no whole number of records (so 9 before 8), and a root past the nodes (so 9 before 1)
too-many-node-bytes : (lent : List ℕ) → echo_ext_answer (only 0 (replicate 34817 0)) lent ≡ nine lent
too-many-node-bytes lent = printer-over (only 0 (replicate 34817 0)) lent (ap (λ (bs : List Bool). get_or bs 0 true) (printer-limits 34817))

too-many-roots : (lent : List ℕ) → echo_ext_answer (only 3 (replicate 257 0)) lent ≡ nine lent
too-many-roots lent = printer-over (only 3 (replicate 257 0)) lent (ap (λ (bs : List Bool). get_or bs 3 true) (printer-limits 257))
