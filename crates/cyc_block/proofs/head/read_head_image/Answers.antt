-- The octets are an image exactly where they are that of the numbers that they say.
use Rattle.std.proofs.Common.{◌∙◌, sym, ap, rules, not}
use Rattle.std.proofs.lemmas.Bool.{false≢true}
use Rattle.std.proofs.lemmas.Slice.Eq.{bytes_eq-Decides}
use Rattle.news_terms.specs.HeadBlocks.{head_image}
use Rattle.cyc_block.proofs.Images.{not_false}
use Rattle.cyc_block.proofs.head.read_head_image.Goals as goal

pub returns-then-ne-clause-read : goal.returns-then-ne-clause-read
returns-then-ne-clause-read c b h e =
    let same = e ∙ ap head_image (sym (c.read_numbers-numbers.ensures b h e))
    ∙ sym c.head_image.ensures in
    absurd (false≢true
    (sym (ap not ((bytes_eq-Decides c.args.image.now c.head_image.result).1 same))
    ∙ sym c.ne.ensures ∙ c.if-ne.true))

pub returns-clause-image : goal.returns-clause-image
returns-clause-image c = (
  search rules,
  (bytes_eq-Decides c.args.image.now c.head_image.result).0
      (not_false _ (sym c.ne.ensures ∙ c.if-ne.false)) ∙ c.head_image.ensures,
)

pub returns-clause-read : goal.returns-clause-read
returns-clause-read c b h e = c.read_numbers-numbers.ensures b h e
