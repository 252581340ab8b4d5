use Rattle.nntp_text.proofs.Ids.{parts_from_no_fault}
use Rattle.nntp_text.proofs.id.MsgId.as_bytes.Goals as goal

pub returns-clause-parts : goal.returns-clause-parts
returns-clause-parts c =
    parts_from_no_fault c.args.self.now (rw (← c.self.view_is) c.self.invariant.no_fault)
