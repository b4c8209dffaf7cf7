-- Texts made of lines, put together: what a printer needs to show of its script.
use Rattle.std.specs.Prelude.{ℕ, ◌≡◌, refl, List, [], ◌∷◌, ◌++◌, T}
use Rattle.std.proofs.Common.{ap, sym, ◌∙◌, append_assoc}
use Rattle.lists.specs.Tests.{All, all_append}
use Rattle.script_lines.specs.Lines.{check_sat_line, other_line, lines_text, IsScript}

-- lines none of which is a script's last
pub record Lines (s : List ℕ) : Type 0 where
  pub lines : List (List ℕ)
  pub others : All other_line lines
  pub text : s ≡ lines_text lines

pub lines_none : Lines []
unfolding lines_text
lines_none = record { lines = []; others = tt; text = refl }

pub lines-one : (l : List ℕ) → T (other_line l) → Lines (l ++ (10 ∷ []))
unfolding lines_text
lines-one l h = record { lines = l ∷ []; others = (h, tt); text = refl }

text-append : (xs ys : List (List ℕ)) → lines_text (xs ++ ys) ≡ lines_text xs ++ lines_text ys
unfolding lines_text
text-append [] ys = refl
text-append (x ∷ xs) ys = rw (text-append xs ys) (sym (append_assoc x (10 ∷ lines_text xs) (lines_text ys)))

pub lines-append : (s t : List ℕ) → Lines s → Lines t → Lines (s ++ t)
lines-append s t h k = record {
  lines = h.lines ++ k.lines;
  others = all_append other_line h.lines k.lines h.others k.others;
  text = (λ i. h.text i ++ k.text i) ∙ sym (text-append h.lines k.lines);
}

-- with the check-sat line at the end they are a script
pub lines-script : (s : List ℕ) → Lines s → IsScript (s ++ check_sat_line)
lines-script s h = record { lines = h.lines; others = h.others; text = ap (λ (x : List ℕ). x ++ check_sat_line) h.text }
