use Rattle.std.proofs.Common.{◌≡◌, ◌<◌, ◌∙◌, ◌-◌, ◌+◌, ◌++◌, ◌∷◌, [], ap}
use Rattle.std.proofs.Common.{arith, length, map, subst, sym}
use Rattle.std.proofs.Common.{take}
use Rattle.std.specs.Prelude.{flat_map, option_to_list}
use Rattle.std.proofs.Math.ListN.{get_or, set}
use Rattle.std.proofs.lemmas.List.{append-nil, get_or-map, length-map, map-set}
use Rattle.news_terms.specs.Ring.{last_of}
use Rattle.found_again.specs.Dealing.{but_last}
use Rattle.found_again.specs.Lists.{texts_of}
use Rattle.found_again.proofs.DealLemmas.{HaveGiven, given_last, given_more, gives_more, next_has}
use Rattle.found_again.proofs.DealLemmas.{none_given, same_count}
use Rattle.found_again.proofs.dealing.deal_round.Goals as goal
use Rattle.found_again.proofs.dealing.deal_round.Goals.{in-Some+in_ok-push, in_default}

-- one buffer more has given its last
pub loop-place-preserved : goal.loop-place-preserved
loop-place-preserved c =
    let all = map texts_of c.args.buffers.now.items in
    let now = map texts_of c.loop-place.buffers.items in
    let k = c.loop-place.place in
    let items = c.index_mut.result.now.items in
    let rest = c.pop.new.self.items in
    let given = c.loop-place.invariant.left in
    let there : k < length all =
    omega (
      arith,
      c.loop-place-test.true,
      c.len-place-end.ensures,
      c.args.buffers.now.ok.0,
      length-map c.args.buffers.now.items texts_of,
    ) in
    let within : k < length c.loop-place.buffers.items =
    omega (
      arith,
      there,
      same_count all now k (omega (arith, there)) given,
      length-map c.loop-place.buffers.items texts_of,
    ) in
    let has : items ≡ get_or all k [] =
    ap texts_of c.index_mut.ensures.value
    ∙ sym (get_or-map texts_of c.loop-place.buffers.items k c.index_mut.result.now [] within)
    ∙ next_has all now k there given in
    let front : rest ≡ but_last items =
    c.pop.ensures.rest ∙ ap (λ n. take (n - 1) items) c.index_mut.result.now.ok.0 in
    let left : HaveGiven all (map texts_of (set c.loop-place.buffers.items k c.pop.new.self))
    (k + 1) =
    subst (λ xs. HaveGiven all xs (k + 1))
    (sym (map-set texts_of c.loop-place.buffers.items k c.pop.new.self))
    (given_more all now k rest there (front ∙ ap but_last has) given) in
    elim c.match-pop.branch [
      | in-Some+in_ok-push s ↦ record {
        left = left;
        given = ap (λ v. v.items) s.newest_first-is ∙ s.in_ok-push.ensures.items
            ∙ ap (λ xs. xs ++ s.in-Some.text ∷ []) c.loop-place.invariant.given
            ∙ gives_more c.args.newest_first.now.items all k (s.in-Some.text ∷ []) there
            (sym (given_last items rest s.in-Some.text
            (c.pop.ensures.items ∙ ap (λ r. rest ++ option_to_list r) s.in-Some.is))
            ∙ ap (last_of 1) has);
      }
      | in_default s ↦ record {
        left = left;
        given = ap (λ v. v.items) s.newest_first-is ∙ c.loop-place.invariant.given
            ∙ sym (append-nil (c.args.newest_first.now.items
            ++ flat_map (last_of 1) (take k all)))
            ∙ gives_more c.args.newest_first.now.items all k [] there
            (sym (none_given items rest
            (c.pop.ensures.items ∙ ap (λ r. rest ++ option_to_list r) s.in_default.is) front)
            ∙ ap (last_of 1) has);
      }
    ]
