-- The heads of selects and calls: all of their text that stands before the operands. Assumes nothing.
use Rattle.std.specs.Prelude.{ℕ, zero, suc, ◌+◌, ◌≡◌, List, [], ◌++◌}
use Rattle.std.proofs.Common.{ap, sym, ◌∙◌, append_assoc, append-nil, add-one}
use Rattle.lists.specs.Bytes.{bytes}

-- n times the same bytes
unfoldable pub repeated : ℕ → List ℕ → List ℕ
repeated zero bs = []
repeated (suc n) bs = bs ++ repeated n bs

-- by the number of arguments: a call without arguments is the bare name
unfoldable pub call_head : ℕ → List ℕ → List ℕ
call_head zero name = name
call_head (suc n) name = bytes "(" ++ name

-- once more, behind the others
pub repeated-more : (n : ℕ) (bs : List ℕ) → repeated n bs ++ bs ≡ repeated (n + 1) bs
unfolding repeated
repeated-more n bs = rw add-one (go n)
  where
    go : (k : ℕ) → repeated k bs ++ bs ≡ bs ++ repeated k bs
    go zero = sym (append-nil bs)
    go (suc k) = append_assoc bs (repeated k bs) bs ∙ ap (λ (t : List ℕ). bs ++ t) (go k)
