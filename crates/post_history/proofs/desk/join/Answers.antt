use Rattle.std.proofs.Common.{sym}
use Rattle.post_history.proofs.PostLemmas.{either_of}
use Rattle.post_history.proofs.desk.join.Goals as goal

pub returns : goal.returns
returns g c =
    sym (either_of c.args.number c.args.all.now c.args.own.now c.compare.ensures (sym c.requires))
