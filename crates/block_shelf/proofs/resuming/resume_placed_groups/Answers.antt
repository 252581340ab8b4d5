use Rattle.block_shelf.proofs.Resumes.{placed_groups_resumed}
use Rattle.block_shelf.proofs.Starts.{ok_so}
use Rattle.block_shelf.proofs.resuming.resume_placed_groups.Goals as goal

pub returns : goal.returns
returns c =
    let result = c.placed_groups_at.result in
    let are = c.placed_groups_at.ensures in
    record {
      placed_groups = ok_so result are are (λ placed_groups each also.
          placed_groups_resumed c.args.settings.now c.args.positions.now c.args.used.now
          placed_groups.items each);
      count = ok_so result are are (λ placed_groups each also. each.count);
    }
