use Rattle.std.proofs.Common.{◌≡◌}
use Rattle.history_names.proofs.Lines.{adds_four}
use Rattle.history_names.proofs.changes.told_changes.Goals as goal

-- each kind behind the others
pub returns : goal.returns
returns c =
    adds_four _ _ _ _ _ _ _ _ _ c.new-out.ensures.items
    (
    rw (c.deref.ensures.value, c.deref-2.ensures.value, c.deref-3.ensures.value) at
    c.in_ok-put_feeds.ensures
    )
    (
    rw (c.deref-4.ensures.value, c.deref-5.ensures.value, c.deref-6.ensures.value) at
    c.in_ok-put_gone_feeds.ensures
    )
    (rw (c.deref-7.ensures.value, c.deref-8.ensures.value) at c.in_ok-put_groups.ensures)
    (rw (c.deref-9.ensures.value, c.deref-10.ensures.value) at c.in_ok-put_groups-2.ensures)
