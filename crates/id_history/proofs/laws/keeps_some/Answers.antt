use Rattle.std.proofs.Common.{sym}
use Rattle.id_history.specs.Shard.{mark_at}
use Rattle.id_history.specs.Mark.{claim_of}
use Rattle.id_history.proofs.ClaimLemmas.{mark_of-claim_of}
use Rattle.id_history.proofs.laws.keeps_some.Goals as goal

-- of each id a claim of what the shard has
pub returns : goal.returns
returns c =
    let mark = mark_at c.args.shard.now in
    (λ id. claim_of (mark id), record { agrees = λ id. sym (mark_of-claim_of (mark id)) })
