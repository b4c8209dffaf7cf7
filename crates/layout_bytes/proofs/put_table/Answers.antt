-- `layout_bytes::put_table` meets its contract: the arena and the columns before the index are written. Assumes nothing.
use Prim.Native.Nat.{ℕ}
use mathlib.Core.List.{List}
use denote.Ref.{Bor}
use native.Mathlib.Omega.{arith}
use Rattle.layout_bytes.proofs.Writing.{columns_begin, columns_go_on, columns-end}
use Rattle.layout_bytes.specs.Encoding.{numbers}
use Rattle.layout_bytes.proofs.put_table.Goals as goal

pub loop-column-init : goal.loop-column-init
loop-column-init c = columns_begin _ _ (λ (c : Bor (List ℕ)). numbers c.now) c.args.columns.now c.put_bytes-q.ensures

pub loop-column-preserved : goal.loop-column-preserved
loop-column-preserved c =
    columns_go_on _ _ (λ (c : Bor (List ℕ)). numbers c.now) c.args.columns.now c.loop-column.column-index _ (omega arith) c.loop-column.invariant c.put_numbers-q.ensures

pub returns : goal.returns
returns c = columns-end _ _ (λ (c : Bor (List ℕ)). numbers c.now) c.args.columns.now c.loop-column.column-index (omega arith) c.loop-column.invariant
