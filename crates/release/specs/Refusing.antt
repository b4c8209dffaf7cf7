-- What reading a script is refused with, by what its problem was rebuilt as.
use Rattle.std.specs.Prelude.{Ok, Err, ℕ, ◌≡◌, List, Bool}
use Rattle.std.proofs.Math.Path.{ap}
use Rattle.std.proofs.Common.{sym, ◌∙◌}
use Rattle.lists.specs.Tests.{T→true}
use Rattle.reading.specs.Trees.{Reading}
use Rattle.echo_spec.specs.Refusals.{unless}
use Rattle.readback.specs.Rebuild.{rebuild}
use Rattle.readback.specs.ScriptReader.{reading_in}
use Rattle.readback.specs.ReadAnswers.{limits_passed}
use Rattle.releases.specs.Release.{read_refusal}
use Rattle.header_laws.specs.Body.{reading_of}
use Rattle.heap_laws.specs.declared.Heap.{Heap}
use Rattle.script_names.specs.declared.Table.{Table}
use Rattle.script_place.specs.declared.Unread.{Unread}
use Rattle.script_place.specs.declared.Unread.TheVariants.{NoScript, Limit}
use Rattle.script_rebuild.specs.Limits.{passed}
use Rattle.script_rebuild.specs.declared.Rebuilt.{Rebuilt}
use Rattle.script_rebuild.specs.Rebuilt.{RebuiltTo}
use Rattle.release.specs.Told.{reason_number, reason_of}

module _ (s : List ℕ) (t : Table) (heap : Heap) (roots : List ℕ) where
  pub refused_none : RebuiltTo s t heap roots (Err NoScript) → 13 ≡ read_refusal (reading_in s)
  unfolding read_refusal
  refused_none q = ap read_refusal (sym q)

  pub refused-limit : RebuiltTo s t heap roots (Err Limit) → 9 ≡ read_refusal (reading_in s)
  unfolding read_refusal
  refused-limit (x, q, l) = ap (λ (b : Bool). unless b 9) (sym l) ∙ ap read_refusal (sym q)

  pub refused-whole : {x : Rebuilt} → RebuiltTo s t heap roots (Ok x) → 0 ≡ read_refusal (reading_in s)
  unfolding read_refusal
  refused-whole (w, _) =
      let r : Reading = reading_of w.declarations w.trees in
      ap (λ (b : Bool). unless b 9) (sym (T→true (limits_passed (rebuild r)) (passed r w.passes))) ∙ ap read_refusal (sym w.reading)

  -- a script that is not read, for the same reason
  pub refused-as : (u : Unread) → RebuiltTo s t heap roots (Err u) → reason_number (reason_of u) ≡ read_refusal (reading_in s)
  refused-as NoScript = refused_none
  refused-as Limit = refused-limit
