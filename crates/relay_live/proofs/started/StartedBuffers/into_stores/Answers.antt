use Rattle.std.proofs.Common.{◌∙◌, ◌++◌, ap, length}
use Rattle.relay_live.proofs.Rooms.{whole_fits}
use Rattle.relay_live.specs.Starting.{stores_of}
use Rattle.relay_live.proofs.started.StartedBuffers.into_stores.Goals as goal

-- nothing was in the room for them
pub returns : goal.returns
returns g c =
    c.give_back.ensures.items
    ∙ ap (λ room. room ++ stores_of c.into_iter.result.rest.items) c.args.self.none_back
    ∙ ap stores_of c.into_iter.ensures.rest

pub give_back-requires : goal.give_back-requires
give_back-requires g c =
    whole_fits _ _ _ _ _ c.args.self.stores_room c.args.self.buffers.ok.0
    (ap length c.into_iter.ensures.rest) (c.args.self.stores.ok.0 ∙ ap length c.args.self.none_back)
