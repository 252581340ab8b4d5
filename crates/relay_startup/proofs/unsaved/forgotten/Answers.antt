use Rattle.relay_log.proofs.Rooms.{has_room}
use Rattle.relay_startup.proofs.unsaved.forgotten.Goals as goal

-- the parts of what was read have room, and stay
pub write-left-requires : goal.write-left-requires
write-left-requires c =
    let room = has_room c.in_ok-history.history c.in_ok-history.ensures.reads.fits in
    record {
      groups = rw c.forget_unsaved-history.ensures.positions room.groups;
      feeds = rw c.forget_unsaved-history.ensures.feeds room.feeds;
      waiting = rw c.forget_unsaved-history.ensures.feeds room.waiting;
    }
