-- `find_bits` meets its contract: at each turn the constant, if it has a node, stands no later than the node that is next in the chain.
use Rattle.std.proofs.Common.{◌≡◌, ◌∙◌, ℕ, ap, sym, subst, true, false, get_or, arith, Option, Some, None}
use Rattle.heap_laws.specs.Heap.{past}
use Rattle.heap_laws.specs.Entering.{hash-small}
use Rattle.heap_laws.specs.Chains.{Sought, sought-first}
use Rattle.script_heap.specs.Constants.{sought-at, chain-small, chain-constant, chain-found, chain_next, chain-less, chain-none, compared-as}
use Rattle.script_heap.proofs.find_bits.Goals as goal

link-is : {o : Option ℕ} {n k : ℕ} → o ≡ Some n → k ≡ n → o ≡ Some k
link-is e q = e ∙ ap (λ (i : ℕ). Some i) (sym q)

pub offset_bounds-heap-j : goal.offset_bounds-heap-j
offset_bounds-heap-j c = omega (arith, c.requires.hash, hash-small c.args.bits.now)

pub bounds-heap-j : goal.bounds-heap-j
bounds-heap-j c = omega (arith, c.requires.hash, hash-small c.args.bits.now)

pub loop-link-init : goal.loop-link-init
loop-link-init c = λ s h. subst (λ (j : ℕ). Sought s c.args.bits.now (past (get_or c.args.heap.now.heads j None))) (sym c.requires.hash) (sought-first h c.args.bits.now (hash-small c.args.bits.now))

pub is_at-requires : goal.is_at-requires
is_at-requires c = chain-constant c.requires.holds.1 _ c.from-k.result (sought-at (link-is c.in-Some.is c.from-k.ensures) (c.loop-link.invariant c.requires.holds.0 c.requires.holds.1))

pub returns-then-is_at : goal.returns-then-is_at
returns-then-is_at c = λ s h. ap (λ (i : ℕ). Some i) (sym c.from-k.ensures) ∙ chain-found h _ c.from-k.result (sought-at (link-is c.in-Some.is c.from-k.ensures) (c.loop-link.invariant s h)) (λ ds e. compared-as ds c.args.bits.now c.is_at.result true c.if-is_at.true (c.is_at.ensures s ds h e))

pub bounds-heap-k : goal.bounds-heap-k
bounds-heap-k c = chain-small c.requires.holds.1 _ c.from-k.result (sought-at (link-is c.in-Some.is c.from-k.ensures) (c.loop-link.invariant c.requires.holds.0 c.requires.holds.1))

pub loop-link-smaller : goal.loop-link-smaller
loop-link-smaller c = omega (arith, ap past (link-is c.in-Some.is c.from-k.ensures), chain-less c.requires.holds.1 _ c.from-k.result (sought-at (link-is c.in-Some.is c.from-k.ensures) (c.loop-link.invariant c.requires.holds.0 c.requires.holds.1)))

pub loop-link-preserved : goal.loop-link-preserved
loop-link-preserved c = λ s h. chain_next h _ c.from-k.result (sought-at (link-is c.in-Some.is c.from-k.ensures) (c.loop-link.invariant s h)) (λ ds e. compared-as ds c.args.bits.now c.is_at.result false c.if-is_at.false (c.is_at.ensures s ds h e))

pub returns : goal.returns
returns c = λ s h. chain-none h c.args.bits.now (subst (λ (o : Option ℕ). Sought s c.args.bits.now (past o)) c.in_default.is (c.loop-link.invariant s h))
