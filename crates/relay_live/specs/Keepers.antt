-- What a keeper goes by once a text was stored, or wasn't (docs/PROTOCOL.md, Store).
use Rattle.std.specs.Prelude.{Bool, true, false}
use Rattle.cyc_buffer.specs.declared.answers.FaultKind.{FaultKind}
use Rattle.cyc_buffer.specs.declared.answers.FaultKind.TheVariants as kinds
use Rattle.live_store.specs.declared.record.StorePremises.{Ghosts}
use Rattle.live_store.specs.declared.stored.Stored.{Stored}
use Rattle.live_store.specs.declared.stored.Stored.TheVariants as stored

-- it was a write that failed
abbrev pub is_of_write : FaultKind → Bool
is_of_write kinds.Read = false
is_of_write kinds.Write = true
is_of_write kinds.Worn = false

-- the text was begun in its buffer: it is kept, or a write of it failed
abbrev pub was_begun : {J : Type 0} {g : Ghosts J} → Stored J g → Bool
was_begun (stored.Kept finished) = true
was_begun (stored.Failed fault) = is_of_write fault.kind
was_begun (stored.Conflict conflict) = false
