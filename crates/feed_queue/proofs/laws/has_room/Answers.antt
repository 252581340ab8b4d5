use Rattle.std.proofs.Common.{◌<◌, ◌^◌, sym, subst}
use Rattle.feed_queue.proofs.laws.has_room.Goals as goal

-- each count is that of a list
pub returns : goal.returns
returns c sizes feeds keeps few f none within =
    subst (λ n. n < 2 ^ 62) (sym (keeps.each f none within).gained) (few f within)
