use Rattle.std.proofs.Common.{◌∙◌, ◌<◌, ◌≤◌, ℕ, List, ap, length, get_or, rules, subst}
use Rattle.std.proofs.lemmas.List.{take_all}
use Rattle.block_shelf.specs.Filling.{members}
use Rattle.relay_core.proofs.Fillings.{member_more, member_none}
use Rattle.relay_startup.proofs.causes.members.Goals as goal
use Rattle.relay_startup.proofs.causes.members.Goals.{then-number-len, else-number-len}

-- one number more
pub loop-number-preserved : goal.loop-number-preserved
loop-number-preserved c =
    let all = c.args.settings.now.buffers.items in
    let list = c.args.group.now.buffers.items in
    let k = c.loop-number.number-index in
    let within : k < length list = search rules in
    elim c.if-number-len.branch [
      | then-number-len w ↦
          let less : get_or list k 0 < length all = search rules in
          record {
            few = search rules;
            said = w.count-is ∙ member_more all list k c.loop-number.count within less
                c.loop-number.invariant.said;
          }
      | else-number-len w ↦
          let past : length all ≤ get_or list k 0 = search rules in
          record {
            few = search rules;
            said = w.count-is ∙ member_none all list k c.loop-number.count within past
                c.loop-number.invariant.said;
          }
    ]

-- that was the last
pub returns : goal.returns
returns c =
    let list = c.args.group.now.buffers.items in
    c.loop-number.invariant.said
    ∙ ap (λ (ns : List ℕ). length (members c.args.settings.now.buffers.items ns))
    (take_all c.loop-number.number-index list
    (subst (λ (n : ℕ). n ≤ c.loop-number.number-index)
    (ap length c.deref-number-items.ensures.value) c.loop-number-test.false))
