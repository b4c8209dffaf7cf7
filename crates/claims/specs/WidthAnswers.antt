-- The width pass's answer taken apart: its number, its count, and the node that it refuses.
use Prim.Native.Nat.{ℕ, zero, suc, ◌+◌, ◌≤◌, ◌<◌}
use Rattle.std.specs.Prelude.{◌≡◌, leb, eqb, get_or}
use Rattle.std.proofs.Math.Path.{refl, sym, ap}
use Rattle.std.proofs.Common.{◌∙◌, subst}
use mathlib.Core.List.{List, [], ◌∷◌, ◌++◌}
use Rattle.std.proofs.Math.Bool.{Bool, true, false, cond}
use native.Mathlib.Omega.{arith}
use Rattle.std.proofs.Math.Dec.{T, eqb→eq, eqb_refl}
use Rattle.std.proofs.Math.ListN.{length, length-append}
use Rattle.lists.specs.Tests.{among, and_0, and-1, and_T, T→true, no→false}
use Rattle.echo_spec.specs.Refusals.{unless, ◌or_else◌}
use Rattle.echo_spec.specs.Input.{ArrayWidths, Node, no_node, nodes_of, pass_within, encoded}
use Rattle.echo_spec.specs.Widths.{array_widths_ok, node_wf, node_width, ext_wf_from, ext_wf_of}
use Rattle.echo_spec.specs.Answers.{width_refusal, refused_node, width_answer, ext_wf_answer}
use Rattle.echo_spec.specs.Tables.{one_length}
use Rattle.echo_spec.specs.Accepted.{in-or_else, in-unless}
use Rattle.sliver_kernel.specs.Pass.{from-formed, from-refused, ext-wf-short}

-- ---------------------------------------------------------------- where the pass stops short, the next node is not well formed

module _ (nbits : ℕ) (arrays : ArrayWidths) (side : List ℕ) where
  from-long : (ns : List Node) (ws : List ℕ) → length ws ≤ length (ext_wf_from nbits arrays side ws ns)
  unfolding ext_wf_from
  from-long [] ws = omega arith
  from-long (n ∷ ns) ws = by-node (node_wf nbits arrays side ws n) refl (from-long ns (ws ++ (node_width arrays ws n ∷ [])))
    where
      by-node : (b : Bool) → node_wf nbits arrays side ws n ≡ b → length (ws ++ (node_width arrays ws n ∷ [])) ≤ length (ext_wf_from nbits arrays side (ws ++ (node_width arrays ws n ∷ [])) ns)
          → length ws ≤ length (ext_wf_from nbits arrays side ws (n ∷ ns))
      by-node true t h = rw (from-formed nbits arrays side ws n ns t) (omega (arith, h, length-append ws (node_width arrays ws n ∷ [])))
      by-node false t h = rw (from-refused nbits arrays side ws n ns t) (omega arith)

  refused-from : (ns : List Node) (ws : List ℕ) (k : ℕ) → length (ext_wf_from nbits arrays side ws ns) ≡ length ws + k → k < length ns
      → node_wf nbits arrays side (ext_wf_from nbits arrays side ws ns) (get_or ns k no_node) ≡ false
  refused-from [] ws k e l = absurd (omega arith)
  refused-from (n ∷ ns) ws k e l = by-node (node_wf nbits arrays side ws n) refl k e l (λ j. refused-from ns (ws ++ (node_width arrays ws n ∷ [])) j)
    where
      by-node : (b : Bool) → node_wf nbits arrays side ws n ≡ b → (k : ℕ) → length (ext_wf_from nbits arrays side ws (n ∷ ns)) ≡ length ws + k → k < suc (length ns)
          → ((j : ℕ) → length (ext_wf_from nbits arrays side (ws ++ (node_width arrays ws n ∷ [])) ns) ≡ length (ws ++ (node_width arrays ws n ∷ [])) + j → j < length ns
          → node_wf nbits arrays side (ext_wf_from nbits arrays side (ws ++ (node_width arrays ws n ∷ [])) ns) (get_or ns j no_node) ≡ false)
          → node_wf nbits arrays side (ext_wf_from nbits arrays side ws (n ∷ ns)) (get_or (n ∷ ns) k no_node) ≡ false
      by-node true t zero e l rest =
          let e' : length (ext_wf_from nbits arrays side (ws ++ (node_width arrays ws n ∷ [])) ns) ≡ length ws + 0 = sym (ap length (from-formed nbits arrays side ws n ns t)) ∙ e in
          absurd (omega (arith, e', from-long ns (ws ++ (node_width arrays ws n ∷ [])), length-append ws (node_width arrays ws n ∷ [])))
      by-node true t (suc j) e l rest =
          let e' : length (ext_wf_from nbits arrays side (ws ++ (node_width arrays ws n ∷ [])) ns) ≡ length ws + suc j = sym (ap length (from-formed nbits arrays side ws n ns t)) ∙ e in
          rw (from-formed nbits arrays side ws n ns t) (rest j (omega (arith, e', length-append ws (node_width arrays ws n ∷ []))) (omega arith))
      by-node false t zero e l rest = rw (from-refused nbits arrays side ws n ns t) t
      by-node false t (suc j) e l rest =
          let e' : length ws ≡ length ws + suc j = sym (ap length (from-refused nbits arrays side ws n ns t)) ∙ e in
          absurd (omega (arith, e'))

-- ---------------------------------------------------------------- the answer

answer-number : (n at : ℕ) (ws lent : List ℕ) → (width_answer n at ws lent).number ≡ n
unfolding width_answer
answer-number zero at ws lent = refl
answer-number (suc zero) at ws lent = refl
answer-number (suc (suc n)) at ws lent = refl

-- with 0 it is how many nodes were passed, and with 1 the node that is told
answer-passed : (n at : ℕ) (ws lent : List ℕ) → n ≡ 0 → (width_answer n at ws lent).count ≡ length ws
unfolding width_answer
answer-passed zero at ws lent h = refl
answer-passed (suc n) at ws lent h = absurd (omega arith)

answer-told : (n at : ℕ) (ws lent : List ℕ) → n ≡ 1 → (width_answer n at ws lent).count ≡ at
unfolding width_answer
answer-told zero at ws lent h = absurd (omega arith)
answer-told (suc zero) at ws lent h = refl
answer-told (suc (suc n)) at ws lent h = absurd (omega arith)

-- the test of the two columns, by their lengths
pub even : (a b : List ℕ) → length a ≡ length b → one_length (a ∷ b ∷ []) ≡ true
unfolding one_length
even a b e =
    T→true (one_length (a ∷ b ∷ []))
    (and_T (eqb (length a) (length a)) _ (eqb_refl (length a)) (and_T (eqb (length b) (length a)) true (subst (λ (n : ℕ). T (eqb (length b) n)) (sym e) (eqb_refl (length b))) tt))

pub uneven : (a b : List ℕ) → (length a ≡ length b → ⊥) → one_length (a ∷ b ∷ []) ≡ false
unfolding one_length
uneven a b e =
    no→false (one_length (a ∷ b ∷ []))
    (λ t. e (sym (eqb→eq (length b) (length a) (and_0 (eqb (length b) (length a)) true (and-1 (eqb (length a) (length a)) _ t)))))

module _ (nodes bits side : List ℕ) (arrays : ArrayWidths) (lent : List ℕ) where
  abbrev passed : List ℕ
  passed = ext_wf_of (length bits) arrays side (nodes_of nodes)

  abbrev columns : Bool
  columns = one_length (arrays.index ∷ arrays.value ∷ [])

  abbrev number : ℕ
  number = width_refusal nodes bits side arrays passed (length lent)

  told : {n : ℕ} → n ≡ (ext_wf_answer nodes bits side arrays lent).number → number ≡ n
  unfolding ext_wf_answer
  told e = sym (answer-number number (refused_node nodes arrays passed) passed lent) ∙ sym e

  -- acceptance or 1, 8, 9, 10 or 12
  pub width-listed : T (among (0 ∷ 1 ∷ 8 ∷ 9 ∷ 10 ∷ 12 ∷ []) (ext_wf_answer nodes bits side arrays lent).number)
  unfolding ext_wf_answer width_refusal
  width-listed =
      let q : ℕ → Bool = among (0 ∷ 1 ∷ 8 ∷ 9 ∷ 10 ∷ 12 ∷ []) in
      rw (answer-number number (refused_node nodes arrays passed) passed lent)
      (in-or_else q (unless (pass_within nodes bits side arrays) 9) _ (in-unless q (pass_within nodes bits side arrays) 9 tt tt)
      (in-or_else q (unless (encoded nodes bits) 8) _ (in-unless q (encoded nodes bits) 8 tt tt)
      (in-or_else q (unless columns 1) _ (in-unless q columns 1 tt tt)
      (in-or_else q (unless (array_widths_ok arrays) 12) _ (in-unless q (array_widths_ok arrays) 12 tt tt)
      (in-or_else q (unless (eqb (length passed) (length (nodes_of nodes))) 1) _ (in-unless q (eqb (length passed) (length (nodes_of nodes))) 1 tt tt)
      (in-unless q (leb (length passed) (length lent)) 10 tt tt))))))

  -- with 0 all nodes were passed, and with 1 they were not where the columns are of one length
  by_count : {n : ℕ} → number ≡ n → (n ≡ 0 → length passed ≡ length (nodes_of nodes)) × (n ≡ 1 → columns ≡ true → length passed ≡ length (nodes_of nodes) → ⊥)
  unfolding width_refusal
  by_count {n} e = (
    λ z. eqb→eq (length passed) (length (nodes_of nodes))
        (all (pass_within nodes bits side arrays) (encoded nodes bits) columns (array_widths_ok arrays) (eqb (length passed) (length (nodes_of nodes))) (leb (length passed) (length lent)) (e ∙ z)),
    λ o k q. short (pass_within nodes bits side arrays) (encoded nodes bits) columns (array_widths_ok arrays) (eqb (length passed) (length (nodes_of nodes))) (leb (length passed) (length lent)) k (e ∙ o)
        (subst (λ (x : ℕ). T (eqb (length passed) x)) q (eqb_refl (length passed))),
  )
    where
      all : (a b k o c d : Bool) → (unless a 9 or_else unless b 8 or_else unless k 1 or_else unless o 12 or_else unless c 1 or_else unless d 10) ≡ 0 → T c
      all true true true true true d e = tt
      all true true true true false d e = absurd (omega arith)
      all true true true false c d e = absurd (omega arith)
      all true true false o c d e = absurd (omega arith)
      all true false k o c d e = absurd (omega arith)
      all false b k o c d e = absurd (omega arith)

      short : (a b k o c d : Bool) → k ≡ true → (unless a 9 or_else unless b 8 or_else unless k 1 or_else unless o 12 or_else unless c 1 or_else unless d 10) ≡ 1 → T c → ⊥
      short true true true true true true h e t = absurd (omega arith)
      short true true true true true false h e t = absurd (omega arith)
      short true true true true false d h e t = t
      short true true true false c d h e t = absurd (omega arith)
      short true true false o c d h e t = subst T (sym h) tt
      short true false k o c d h e t = absurd (omega arith)
      short false b k o c d h e t = absurd (omega arith)

  -- an acceptance has a width for every node
  pub width-count : 0 ≡ (ext_wf_answer nodes bits side arrays lent).number → {n : ℕ} → n ≡ (ext_wf_answer nodes bits side arrays lent).count
      → (n ≡ length (nodes_of nodes)) × (length passed ≡ length (nodes_of nodes))
  unfolding ext_wf_answer
  width-count e q =
      let n = told e in
      let a = (by_count n).0 refl in
      (q ∙ answer-passed number (refused_node nodes arrays passed) passed lent n ∙ a, a)

  -- with 1 the count is the first node that is not well formed after the widths of those before it, where the columns are of one length
  pub width-refused-node : 1 ≡ (ext_wf_answer nodes bits side arrays lent).number → {k : ℕ} → k ≡ (ext_wf_answer nodes bits side arrays lent).count
      → length arrays.index ≡ length arrays.value
      → (k < length (nodes_of nodes)) × (k ≡ length passed) × (node_wf (length bits) arrays side passed (get_or (nodes_of nodes) k no_node) ≡ false)
  unfolding ext_wf_of ext_wf_answer refused_node
  width-refused-node e {k} q h =
      let n = told e in
      let t : columns ≡ true = even arrays.index arrays.value h in
      let c : k ≡ length passed =
      q ∙ answer-told number (refused_node nodes arrays passed) passed lent n ∙ ap (λ (b : Bool). cond b (length passed) (length (nodes_of nodes))) t in
      let s = ext-wf-short (length bits) arrays side (nodes_of nodes) in
      let far = (by_count n).1 refl t in
      let l : k < length (nodes_of nodes) = omega (arith, c, s, far) in
      (l, c, refused-from (length bits) arrays side (nodes_of nodes) [] k (omega (arith, c)) l)

  -- and the node count where they are not
  pub width-uneven : 1 ≡ (ext_wf_answer nodes bits side arrays lent).number → {k : ℕ} → k ≡ (ext_wf_answer nodes bits side arrays lent).count
      → (length arrays.index ≡ length arrays.value → ⊥) → k ≡ length (nodes_of nodes)
  unfolding ext_wf_answer refused_node
  width-uneven e q h =
      q ∙ answer-told number (refused_node nodes arrays passed) passed lent (told e)
      ∙ ap (λ (b : Bool). cond b (length passed) (length (nodes_of nodes))) (uneven arrays.index arrays.value h)
