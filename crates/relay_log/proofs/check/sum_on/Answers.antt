use Rattle.std.proofs.Common.{◌∙◌, ap, sym, refl, take}
use Rattle.std.proofs.lemmas.List.{take_all}
use Rattle.relay_log.specs.Check.{sum_on, sum_step}
use Rattle.relay_log.proofs.Sums.{sum_more}
use Rattle.relay_log.proofs.check.sum_on.Goals as goal

-- none was gone through
pub loop-octet-init : goal.loop-octet-init
unfolding sum_on
loop-octet-init c = refl

-- one more
pub loop-octet-preserved : goal.loop-octet-preserved
unfolding sum_step
loop-octet-preserved c =
    let octets = c.args.octets.now in
    let i = c.loop-octet.octet-index in
    ap (λ s. sum_step s c.from.result) c.loop-octet.invariant
    ∙ ap (λ o. sum_step (sum_on c.args.sum (take i octets)) o) c.from.ensures
    ∙ sym (sum_more c.args.sum octets i 0 c.loop-octet-test.true)

-- all were gone through
pub returns : goal.returns
returns c =
    c.loop-octet.invariant
    ∙ ap (sum_on c.args.sum)
    (take_all c.loop-octet.octet-index c.args.octets.now c.loop-octet-test.false)
