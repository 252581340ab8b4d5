use Rattle.std.proofs.Common.{◌∙◌, ap, subst, sym}
use Rattle.relay_folder.specs.declared.origin.Origin.{Origin}
use Rattle.relay_serve.specs.Lives.{IsUnbegun, text_in}
use Rattle.relay_serve.proofs.running.begun_by.Goals as goal

-- from nothing it isn't begun for another reason than a start,
pub returns-in-Err-clause-unbegun : goal.returns-in-Err-clause-unbegun
returns-in-Err-clause-unbegun g c =
    let stores = c.args.beginning.stores.items in
    subst (λ (origin : Origin). IsUnbegun g.S.BlockStore c.args.config.now stores origin
    c.unshared.result)
    (sym c.in-Formatted.is)
    (c.unshared.ensures.other, c.unshared.ensures.fault stores c.in-Err.ensures.refusal)

-- from what it was stopped with for the first reason that there is
pub returns-in-Err-start-clause-unbegun : goal.returns-in-Err-start-clause-unbegun
returns-in-Err-start-clause-unbegun g c =
    subst (λ (origin : Origin). IsUnbegun g.S.BlockStore c.args.config.now
    c.args.beginning.stores.items origin c.unstarted.result)
    (sym c.in-Stopped.is)
    (record {
      refused = c.in-Err-start.refused;
      rightly = c.in-Err-start.ensures.refused;
      told = c.unstarted.ensures;
    })

-- from nothing no text is begun from, else from this one
pub new-requires-clause-posts : goal.new-requires-clause-posts
new-requires-clause-posts g c =
    (c.requires.posts.0, c.requires.posts.1 ∙ ap text_in c.in-Formatted.is)

pub start-requires-clause-posts : goal.start-requires-clause-posts
start-requires-clause-posts g c κs within =
    (c.requires.posts.0, c.requires.posts.1 ∙ ap text_in c.in-Stopped.is)
