use Rattle.std.proofs.Common.{map, refl}
use Rattle.id_history.specs.Views.{history_view}
use Rattle.relay_log.specs.Views.{entry_view, journal_view}
use Rattle.relay_log.proofs.Foldings.{same_stop, with_buffers}
use Rattle.relay_log.proofs.FoldsIn.{with_holds}
use Rattle.relay_log.proofs.folding.folded.Goals as goal

-- the ids are folded in, in each setting with so many buffers
pub returns-in-Ok-clause-folded : goal.returns-in-Ok-clause-folded
returns-in-Ok-clause-folded c setting same =
    same_stop (history_view c.args.history) (journal_view c.args.journal) setting _
    c.if-journal-history.false
    (with_buffers (history_view c.args.history) (map entry_view c.args.journal.entries.items)
    setting _ c.args.buffers same c.in-Ok.ensures refl)

-- it holds what the history held
pub returns-in-Ok-clause-holds : goal.returns-in-Ok-clause-holds
returns-in-Ok-clause-holds c setting same holds are =
    with_holds (history_view c.args.history) (map entry_view c.args.journal.entries.items)
    setting _ holds are
    (with_buffers (history_view c.args.history) (map entry_view c.args.journal.entries.items)
    setting _ c.args.buffers same c.in-Ok.ensures refl)
