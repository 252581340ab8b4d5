use Rattle.std.proofs.Common.{◌∙◌, sym}
use Rattle.live_jobs.specs.Desks.{desk_of}
use Rattle.relay_live.proofs.Gaining.{gained_tried}
use Rattle.relay_live.proofs.posting.RelayDesk.take.Goals as goal

-- a feed that takes of what it has gained has gained no more
pub invariant_of-self : goal.invariant_of-self
invariant_of-self g c =
    let old = c.args.self.now in
    let told = c.take.ensures in
    record {
      as_many = λ found. old.as_many found ∙ sym told.posts;
      gained = λ found. gained_tried (desk_of old.counted) (desk_of c.take.new.self)
          g.J.Naming.began g.J.Naming.rings old.posts.all.history c.args.feed c.args.most
          c.take.result told.keeps told.none told.err (old.gained found);
    }
