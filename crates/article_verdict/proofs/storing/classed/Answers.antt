use Rattle.std.proofs.Common.{◌∙◌, ◌<◌, ◌^◌, subst, sym}
use Rattle.article_verdict.proofs.ShortTexts.{short}
use Rattle.article_verdict.proofs.storing.classed.Goals as goal

-- what the group has room for is short
pub stored-requires : goal.stored-requires
stored-requires c =
    subst (λ n. n < 2 ^ 32) c.in_ok-octets.ensures.octets
    (short c.args.config.now.buffers c.from.result c.in_ok-octets.octets
    (sym c.has_room.ensures ∙ c.if-not-has_room.false))
