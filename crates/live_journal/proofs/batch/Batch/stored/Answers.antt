use Rattle.std.proofs.Common.{◌∙◌, sym}
use Rattle.std.proofs.lemmas.Result.{on_ok_weaker}
use Rattle.cyc_token.specs.Token.{token_view}
use Rattle.relay_log.specs.Journal.{Stored}
use Rattle.live_journal.proofs.Entries.{put_behind}
use Rattle.live_journal.proofs.batch.Batch.stored.Goals as goal

-- the entry stands behind the others
pub invariant_of-self-else-is_err : goal.invariant_of-self-else-is_err
invariant_of-self-else-is_err c =
    put_behind c.append_stored.result c.self.inside.octets.items c.append_stored.new.out.items
    (Stored c.args.id.now c.args.moment (token_view c.args.token.now))
    (sym c.is_err.ensures.value ∙ c.if-is_err.false)
    (on_ok_weaker c.append_stored.result (λ is. is c.requires) c.append_stored.ensures.entry)
    c.append_stored.ensures.octets c.self.invariant
