use Rattle.std.proofs.Common.{◌≤◌, arith, drop, length, refl, subst, sym}
use Rattle.std.specs.Prelude.{count_by}
use Rattle.std.specs.List.{list_any}
use Rattle.std.proofs.Common.{◌∙◌, ap}
use Rattle.id_history.specs.Shards.{KeepsAll}
use Rattle.found_again.specs.Claiming.{has_id}
use Rattle.found_again.specs.Taken.{taken}
use Rattle.found_again.proofs.BackLemmas.{after_before, front_before}
use Rattle.found_again.proofs.ClaimLemmas.{all_claimed, one_claimed, one_has, same_ids}
use Rattle.found_again.proofs.claiming.claim_ids.Goals as goal

-- one text more has its id, or not
pub loop-text-preserved : goal.loop-text-preserved
loop-text-preserved c =
    let texts = c.args.texts.items in
    let left = c.loop-text.left.items in
    let older = c.pop.new.self.items in
    let text = c.in-Some.text in
    let later = drop (length left) texts in
    let front = c.loop-text.invariant.front in
    let split = c.in-Some.ensures.items in
    record {
      front = front_before texts left older text front split;
      claimed = one_claimed c.loop-text.newest_first.items c.push.new.self.items text
          c.unless_had.result c.in_ok-had.had later (drop (length older) texts)
          c.in_ok-push.ensures.items c.unless_had.ensures
          (c.in_ok-had.ensures.answer later c.loop-text.invariant.known)
          c.loop-text.invariant.claimed (after_before texts left older text front split);
      known = subst (λ xs. KeepsAll c.is_taken.new.known (taken xs))
          (sym (after_before texts left older text front split))
          (c.in_ok-had.ensures.after text later refl c.loop-text.invariant.known);
    }

-- each id has one text
pub returns-clause-once : goal.returns-clause-once
returns-clause-once c id =
    subst (λ xs. count_by (has_id id) xs ≤ 1)
    (sym (all_claimed c.loop-text.newest_first.items c.reverse.new.self.items
    c.loop-text.left.items c.args.texts.items
    (omega (arith, c.in_default.ensures.cases.0, c.loop-text.left.ok.0)) c.reverse.ensures.items
    c.loop-text.invariant.claimed))
    (one_has id c.args.texts.items)

-- if it had one
pub returns-clause-kept : goal.returns-clause-kept
returns-clause-kept c id =
    ap (list_any (has_id id))
    (all_claimed c.loop-text.newest_first.items c.reverse.new.self.items
    c.loop-text.left.items c.args.texts.items
    (omega (arith, c.in_default.ensures.cases.0, c.loop-text.left.ok.0)) c.reverse.ensures.items
    c.loop-text.invariant.claimed)
    ∙ same_ids id c.args.texts.items
