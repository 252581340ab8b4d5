use Rattle.std.proofs.Common.{inl, inr, subst, sym}
use Rattle.std.specs.Prelude.{All, IsTrue}
use Rattle.file_blocks.specs.Store.{was_blank}
use Rattle.relay_folder.specs.Origin.{IsFormatted}
use Rattle.buffer_files.specs.Files.{WasBlank}
use Rattle.buffer_files.proofs.Founds.{found_there}
use Rattle.buffer_files.proofs.begun.begin_over.Goals as goal

-- all is formatted where that was asked for, or where no buffer was found in the files, which were
-- emptied
pub invariant_of-result : goal.invariant_of-result
invariant_of-result g c =
    let stores = c.args.unbegun.stores.items in
    let emptied = c.in_ok-empty_files-in-Ok-Formatted in
    record {
      formatted = λ formats. ∣ elim (c.in-Ok-Formatted.ensures.formatted
          (subst IsFormatted (sym c.in-Ok-Formatted.field-0-is) tt)) [
            | inl asked ↦ inl asked
            | inr blank ↦ inr (found_there IsTrue was_blank emptied.field-0.items stores
                emptied.ensures.found
                (subst (All WasBlank) c.deref.ensures.value (c.are_blank-blank.ensures.0 blank)))
          ] ∣₁;
      emptied = λ formats. ∣ emptied.ensures.emptied ∣₁;
    }
