use Rattle.relay_explain.proofs.Rooms.{room_is_the_relays}
use Rattle.relay_explain.proofs.laws.rooms_are_the_relays.Goals as goal

pub returns : goal.returns
returns c = room_is_the_relays
