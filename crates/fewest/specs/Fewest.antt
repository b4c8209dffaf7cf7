-- The fewest roots with which a problem is still refused by the same number (document 02, L14).
use Rattle.std.specs.Prelude.{ℕ, zero, suc, List, [], ◌∷◌, ◌++◌, map, Bool, ◌&&◌, cond, leb, eqb, length, get_or}
use Rattle.std.proofs.Math.Option.{Option, none, some}
use Rattle.lists.specs.Build.{find}
use Rattle.echo_spec.specs.Input.{Problem}
use Rattle.echo_spec.specs.Answers.{endless_refusal}

-- ---------------------------------------------------------------- a problem with some of its roots

-- the problem with these roots and no others
abbrev pub with_roots : Problem → List ℕ → Problem
with_roots p roots = record {
  nodes = p.nodes;
  bits = p.bits;
  side = p.side;
  roots = roots;
  names = p.names;
  name_start = p.name_start;
  name_len = p.name_len;
  var_node = p.var_node;
  var_width = p.var_width;
  anames = p.anames;
  aname_start = p.aname_start;
  aname_len = p.aname_len;
  index_width = p.index_width;
  value_width = p.value_width;
  fnames = p.fnames;
  fname_start = p.fname_start;
  fname_len = p.fname_len;
  func_width = p.func_width;
}

-- the roots at these positions, in this order
abbrev pub roots_at : Problem → List ℕ → List ℕ
roots_at p ks = map (λ k. get_or p.roots k 0) ks

-- with the roots at these positions alone the problem has the number that it has with all
unfoldable pub same_number : Problem → List ℕ → Bool
same_number p ks = eqb (endless_refusal (with_roots p (roots_at p ks))) (endless_refusal p)

-- ---------------------------------------------------------------- rising lists of positions

-- the rising lists of k of the m positions from i on: by their first position, and then by the next
unfoldable pub rising : ℕ → ℕ → ℕ → List (List ℕ)
rising zero i m = [] ∷ []
rising (suc k) i zero = []
rising (suc k) i (suc m) = map (λ ks. i ∷ ks) (rising k (suc i) m) ++ rising (suc k) (suc i) m

-- the rising lists of the positions below n, of l lengths from k on, the shorter first
unfoldable pub by_length : ℕ → ℕ → ℕ → List (List ℕ)
by_length n k zero = []
by_length n k (suc l) = rising k 0 n ++ by_length n (suc k) l

-- all rising lists of the positions below n
abbrev pub all_rising : ℕ → List (List ℕ)
all_rising n = by_length n 0 (suc n)

-- ---------------------------------------------------------------- the answer

-- a refusal for which there is a list: 1 to 7
abbrev pub listed : ℕ → Bool
listed n = leb 1 n && leb n 7

abbrev pub or_empty : Option (List ℕ) → List ℕ
or_empty none = []
or_empty (some ks) = ks

-- the first list with which the number stays the same
unfoldable pub fewest : Problem → List ℕ
fewest p = cond (listed (endless_refusal p)) (or_empty (find (same_number p) (all_rising (length p.roots)))) []

pub record FewestAnswer : Type 0 where
  pub number : ℕ
  pub positions : List ℕ

unfoldable pub fewest_roots_answer : Problem → FewestAnswer
fewest_roots_answer p = record { number = endless_refusal p; positions = fewest p }
