use Rattle.std.proofs.Common.{◌≡◌, ◌∙◌, ◌-◌, ◌+◌, ◌++◌, suc, ap, arith, map, subst, sym}
use Rattle.std.specs.Prelude.{IsPermutation, reverse}
use Rattle.std.specs.List.{AllByRecursion}
use Rattle.std.proofs.Common.{◌==◌, length, not, rules}
use Rattle.std.proofs.lemmas.List.Elements.{All-from_recursion, filter_from_retain}
use Rattle.found_again.specs.Dealing.{HasNewest, IsWithin, dealt, longest, rounds}
use Rattle.found_again.specs.Lists.{all_of, texts_of}
use Rattle.found_again.proofs.DealLemmas.{all_dealt, each_shown, joined_map, round_more}
use Rattle.found_again.proofs.DealLemmas.{rounds_shown}
use Rattle.found_again.proofs.DealtLemmas.{dealt_permutes, dealt_within}
use Rattle.found_again.proofs.NewestLemmas.{has_newest}
use Rattle.found_again.proofs.dealing.deal.Goals as goal

-- one round more was dealt
pub loop-preserved : goal.loop-preserved
loop-preserved c =
    let all = map texts_of c.args.per_buffer.items in
    let k = c.loop.counter in
    let most : c.longest-end.result ≡ longest all =
    c.longest-end.ensures ∙ ap (λ xs. longest (map texts_of xs)) c.deref.ensures.value in
    let next : suc (longest all - (k + 1)) ≡ longest all - k =
    omega (arith, c.loop-test.true, most) in
    ap (λ xs. xs ++ reverse c.deal_round.new.newest_first.items)
    (rounds_shown texts_of (longest all - (k + 1)) c.deal_round.new.buffers.items
    c.retain.new.self.items
    (filter_from_retain _ (λ buffer. not (length (texts_of buffer) == 0))
    (λ f buffer kept after called. search (rules, called)) _ c.deal_round.new.buffers.items
    c.retain.new.self.items c.retain.ensures.filtered))
    ∙ round_more (longest all - (k + 1)) (map texts_of c.loop.left.items)
    (map texts_of c.deal_round.new.buffers.items) c.loop.newest_first.items
    c.deal_round.new.newest_first.items c.in_ok-deal_round.ensures.left
    c.in_ok-deal_round.ensures.given
    ∙ ap (λ n. rounds n (map texts_of c.loop.left.items) ++ reverse c.loop.newest_first.items)
    next
    ∙ c.loop.invariant

-- each text is there once
pub returns-clause-once : goal.returns-clause-once
returns-clause-once c =
    let all = map texts_of c.args.per_buffer.items in
    let most : c.longest-end.result ≡ longest all =
    c.longest-end.ensures ∙ ap (λ xs. longest (map texts_of xs)) c.deref.ensures.value in
    subst (IsPermutation (all_of c.args.per_buffer.items))
    (sym (all_dealt (longest all - c.loop.counter) (map texts_of c.loop.left.items)
    c.loop.newest_first.items c.reverse.new.self.items (dealt all)
    (omega (arith, c.loop-test.false, most)) c.reverse.ensures.items c.loop.invariant))
    (subst (λ xs. IsPermutation xs (dealt all)) (joined_map texts_of c.args.per_buffer.items)
    (dealt_permutes all))

-- those of a buffer are in its order
pub returns-clause-within : goal.returns-clause-within
returns-clause-within c =
    let all = map texts_of c.args.per_buffer.items in
    let texts = c.reverse.new.self.items in
    let most : c.longest-end.result ≡ longest all =
    c.longest-end.ensures ∙ ap (λ xs. longest (map texts_of xs)) c.deref.ensures.value in
    let are : texts ≡ dealt all =
    all_dealt (longest all - c.loop.counter) (map texts_of c.loop.left.items)
    c.loop.newest_first.items c.reverse.new.self.items (dealt all)
    (omega (arith, c.loop-test.false, most)) c.reverse.ensures.items c.loop.invariant in
    All-from_recursion (λ buffer. IsWithin (texts_of buffer) texts) c.args.per_buffer.items
    (each_shown (λ items. IsWithin items texts) texts_of c.args.per_buffer.items
    (subst (λ xs. AllByRecursion (λ items. IsWithin items xs) all) (sym are)
    (dealt_within all)))

-- the newest of each are at the end
pub returns-clause-newest : goal.returns-clause-newest
returns-clause-newest c k within =
    let all = map texts_of c.args.per_buffer.items in
    let most : c.longest-end.result ≡ longest all =
    c.longest-end.ensures ∙ ap (λ xs. longest (map texts_of xs)) c.deref.ensures.value in
    subst (HasNewest k all)
    (sym (all_dealt (longest all - c.loop.counter) (map texts_of c.loop.left.items)
    c.loop.newest_first.items c.reverse.new.self.items (dealt all)
    (omega (arith, c.loop-test.false, most)) c.reverse.ensures.items c.loop.invariant))
    (has_newest all k within)
