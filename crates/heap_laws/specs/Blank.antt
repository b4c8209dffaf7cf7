-- Arrays that hold zeros are fit to begin with. Assumes nothing.
use Rattle.std.specs.Prelude.{ℕ, zero, suc, ◌≡◌, refl, List, length, get_or, replicate, Option, None}
use Rattle.std.proofs.Common.{subst}
use Rattle.std.proofs.lemmas.List.{length-replicate}
use Rattle.heap_laws.specs.declared.Constant.{Constant}
use Rattle.heap_laws.specs.declared.Heap.{Heap}
use Rattle.heap_laws.specs.Start.{Blank}

abbrev zeros_of : ℕ → List ℕ
zeros_of n = replicate n 0

long : {A : Type 0} (n m : ℕ) (x : A) → n ≡ m → length (replicate n x) ≡ m
long n m x e = subst (λ (k : ℕ). length (replicate n x) ≡ k) e (length-replicate n x)

none_at : (n i : ℕ) → ◌≡◌ {A = Option ℕ} (get_or (replicate n None) i None) None
none_at zero i = refl
none_at (suc n) zero = refl
none_at (suc n) (suc i) = none_at n i

blank_of : (a b c d e f : ℕ) (x : Constant) → a ≡ 8192 → b ≡ 2048 → c ≡ 4096 → d ≡ 16384 → e ≡ 34816 → f ≡ 262144
    → Blank (record {
      count = 0;
      bit_count = 0;
      side_count = 0;
      top = 0;
      side = zeros_of a;
      constants = replicate b x;
      heads = replicate c None;
      stack = zeros_of d;
      records = zeros_of e;
      bits = zeros_of f;
    })
blank_of a b c d e f x ea eb ec ed ee ef = record {
  side_long = long a 8192 0 ea;
  constants_long = long b 2048 x eb;
  heads_long = long c 4096 None ec;
  stack_long = long d 16384 0 ed;
  nodes_long = long e 34816 0 ee;
  bits-long = long f 262144 0 ef;
  count = refl;
  bit_count = refl;
  side_count = refl;
  top = refl;
  heads = λ i. none_at c i;
}

-- no nodes yet
abbrev pub blank_heap : Heap
blank_heap = record {
  count = 0;
  bit_count = 0;
  side_count = 0;
  top = 0;
  side = replicate 8192 0;
  constants = replicate 2048 (record { start = 0; width = 0; before = None });
  heads = replicate 4096 None;
  stack = replicate 16384 0;
  records = replicate 34816 0;
  bits = replicate 262144 0;
}

pub fresh-heap : Blank blank_heap
fresh-heap = blank_of 8192 2048 4096 16384 34816 262144 (record { start = 0; width = 0; before = None }) refl refl refl refl refl refl
