use Rattle.std.proofs.Common.{◌∙◌, ap, take}
use Rattle.relay_explain.specs.Buffers.{buffer_odds, first_with, is_in_group}
use Rattle.relay_explain.proofs.Puts.{two}
use Rattle.relay_explain.proofs.buffers.put_odds.Goals as goal

pub returns : goal.returns
unfolding buffer_odds
returns c =
    let first = c.first_with-first.ensures
    ∙ ap (first_with c.as_slice-file.result.now) c.first_ones.ensures
    ∙ ap (λ buffers. first_with c.as_slice-file.result.now (take c.args.number buffers))
    c.deref.ensures.value
    ∙ ap (λ file. first_with file (take c.args.number c.args.config.now.buffers.buffers.items))
    c.as_slice-file.ensures in
    let grouped = c.is_in_group.ensures
    ∙ ap (λ groups. is_in_group c.args.number groups) c.deref-2.ensures.value in
    rw (← grouped, ← first, ← c.largest_stored.ensures)
    (two (two c.put_odd-text.ensures c.put_shared-text.ensures) c.put_room_odd.ensures)
