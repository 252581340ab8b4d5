use Rattle.std.proofs.Common.{◌∙◌, sym}
use Rattle.std.proofs.lemmas.Result.{on_ok_weaker}
use Rattle.relay_log.specs.Journal.{Refused}
use Rattle.live_journal.proofs.Entries.{put_behind}
use Rattle.live_journal.proofs.batch.Batch.refused.Goals as goal

-- the entry stands behind the others
pub invariant_of-self-else-is_err : goal.invariant_of-self-else-is_err
invariant_of-self-else-is_err c =
    put_behind c.append_refused.result c.self.inside.octets.items c.append_refused.new.out.items
    (Refused c.args.id.now c.args.moment) (sym c.is_err.ensures.value ∙ c.if-is_err.false)
    (on_ok_weaker c.append_refused.result (λ is. is c.requires) c.append_refused.ensures.entry)
    c.append_refused.ensures.octets c.self.invariant
