-- `echo_lines::symbol` meets its contract: one computed test of the table, kind by kind. Assumes nothing.
use Prim.Native.Nat.{ℕ}
use mathlib.Core.Path.{◌≡◌, sym}
use mathlib.Core.List.{List, map}
use lib.ListN.{get_or, get_or-map}
use denote.Bor.{Bor}
use Rattle.lists.specs.Bytes.{bytes}
use Rattle.echo_spec.specs.Render.{symbols, symbol_of}
use Rattle.echo_lines.proofs.symbol.Goals as goal

texts-at : (table : List (Bor (List ℕ))) (k : ℕ) (past : Bor (List ℕ))
    → (get_or table k past).now ≡ get_or (map (λ b. b.now) table) k past.now
texts-at table k past = sym (get_or-map (λ b. b.now) table k past)

pub returns : goal.returns
unfolding bytes symbols symbol_of
returns c = rw (c.at.ensures, texts-at, c.from.ensures) (get_or-map bytes symbols c.args.kind "")
