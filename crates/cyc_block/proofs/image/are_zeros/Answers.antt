-- Each octet that was looked at is 0, and at the end that is each.
use Rattle.std.proofs.Common.{◌≡◌, ◌∙◌, ℕ, get_or, refl, arith}
use Rattle.std.proofs.lemmas.List.{get_or_default}
use borrow.Author.Count.{below_more}
use Rattle.cyc_block.proofs.image.are_zeros.Goals as goal

pub returns : goal.returns
returns c = (
  λ zero k d h. c.loop-octet.invariant k (omega (arith, h, c.loop-octet-test.false)) d,
  λ all. refl,
)

pub loop-octet-preserved : goal.loop-octet-preserved
loop-octet-preserved c =
    let octets = c.args.octets.now in
    let k = c.loop-octet.octet-index in
    below_more (λ m. (d : ℕ) → get_or octets m d ≡ 0) k c.loop-octet.invariant
    (λ d. get_or_default octets k d 0 c.loop-octet-test.true ∙ c.if-octet-ne0.false)
