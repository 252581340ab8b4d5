-- What is no image is none of this block.
use Rattle.std.proofs.Common.{◌∙◌, ap, sym}
use Rattle.std.proofs.lemmas.Bool.{false≢true}
use Rattle.cyc_buffer.proofs.Stamps.{agree, stamp_in}
use Rattle.cyc_token.specs.Token.{token_view}
use Rattle.cyc_buffer.specs.Stopped.{block_under}
use Rattle.cyc_buffer.proofs.articles.is_image_under.Goals as goal

-- an image of this block has its stamp
pub returns-else-eq : goal.returns-else-eq
returns-else-eq c = (
  λ e. absurd (false≢true (sym c.if-eq.false ∙ e)),
  λ h.
      let same = agree c.in-Some.image.stamp _ (ap stamp_in (c.in-Some.ensures.read
      (block_under (token_view c.args.token.now) c.args.k h.payload) h.block h.image)) in
      absurd (false≢true (sym c.if-eq.false ∙ c.eq.ensures ∙ same)),
)

pub returns-in_default : goal.returns-in_default
returns-in_default c = (
  λ e. absurd (false≢true e),
  λ h. absurd (c.in_default.ensures.read
      (block_under (token_view c.args.token.now) c.args.k h.payload) h.block h.image),
)
