-- The open write that each group's writer has.
use Rattle.std.specs.Prelude.{ℕ, Option, None, Some}
use Rattle.block_shelf.specs.Openings.{Opening, IsOpen, IsBroken}
use Rattle.relay_model.specs.World.{Writer, Idle, Popped, Writing, Finished, Failed, Settled}
use Rattle.relay_model.specs.World.{Forgotten}

-- the open write of a writer
abbrev pub opening_of : Writer → Option Opening
opening_of Idle = None
opening_of (Popped job) = None
opening_of (Writing job token written) = Some (IsOpen token job.article.text written)
opening_of (Finished job token) = None
opening_of (Failed job None) = None
opening_of (Failed job (Some token)) = Some (IsBroken token)
opening_of (Settled session) = None
opening_of (Forgotten session) = None

-- of each group
abbrev pub openings : (ℕ → Writer) → ℕ → Option Opening
openings writer g = opening_of (writer g)
