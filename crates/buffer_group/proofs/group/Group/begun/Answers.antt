use Rattle.std.proofs.Common.{◌≡◌, ◌∙◌, ℕ, ◌+◌, ◌<◌, ◌≤◌, length, get_or, false}
use Rattle.std.proofs.Common.{sym, ap, arith}
use Rattle.std.proofs.lemmas.Option.{same_Some, slice_get-get_or}
use Rattle.buffer_group.proofs.Picking.{stays_here, turn_there}
use Rattle.news_terms.specs.Courses.{course_next, pick_in, position_in}
use Rattle.news_terms.specs.Picks as picks
use Rattle.news_terms.specs.Places.{size_of}
use Rattle.buffer_group.proofs.group.Group.begun.Goals as goal

pub returns-else-pick-clause-places : goal.returns-else-pick-clause-places
returns-else-pick-clause-places c = λ group begun keeps picked.
    let code = c.args.self.now in
    let size : ℕ = size_of c.args.length in
    let inside : code.position < length code.blocks.items = code.within in
    let plain : (pick_in group begun size).fresh ≡ false =
    ap (λ (k : picks.Pick). k.fresh) (sym picked) ∙ c.if-pick.false in
    let stays : (code.used + size ≤ get_or code.blocks.items code.position 0)
    × (position_in group (course_next group begun size)
    ≡ record { index = code.position; used = code.used + size }) =
    stays_here code group begun keeps size c.in-Sequential.is
    (c.positions_follow.ensures.moves group begun (turn_there code group begun keeps) size) plain in
    let room : get_or code.blocks.items code.position 0 ≡ c.room.result =
    same_Some _ _ (sym (slice_get-get_or code.blocks.items code.position 0 inside)
    ∙ c.room.ensures) in
    let fits : code.used + size ≤ get_or code.blocks.items code.position 0 = stays.0 in
    let used : c.min-self.result ≡ code.used + size = omega
    (arith, c.saturating_add.ensures, c.size_of-size.ensures) in
    record {
      mode = keeps.mode;
      blocks = keeps.blocks;
      position = stays.1 ∙ ap (λ n. record { index = code.position; used = n }) (sym used);
    }
