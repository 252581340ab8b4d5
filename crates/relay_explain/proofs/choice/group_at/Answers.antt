use Rattle.std.proofs.Common.{◌∙◌, ap}
use Rattle.std.specs.List.{slice_get}
use Rattle.relay_explain.proofs.Places.{got}
use Rattle.relay_explain.proofs.choice.group_at.Goals as goal

pub returns : goal.returns
returns c =
    got _ _ c.get.result c.get.ensures.lookup.0 c.get.ensures.lookup.1
    ∙ ap (λ groups. slice_get groups c.from.result) c.deref.ensures.value
    ∙ ap (slice_get c.args.config.now.buffers.groups.items) c.from.ensures
