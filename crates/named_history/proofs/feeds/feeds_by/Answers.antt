use Rattle.std.proofs.Common.{◌⊎◌, inl, inr, ℕ, ◌+◌, ◌≤◌, List, [], ◌∷◌, ◌++◌, length, drop}
use Rattle.std.proofs.Common.{refl, map, get_or, ap, sym, ◌∙◌, arith, append-nil, length-drop}
use Rattle.std.proofs.Common.{All, ◌<◌, ◌^◌, subst}
use Rattle.std.proofs.lemmas.List.Elements.{All-push}
use Rattle.std.proofs.lemmas.Bool.{cases_lt}
use Rattle.std.proofs.lemmas.List.{length_push, map-append}
use Rattle.id_history.specs.History as kept
use Rattle.id_history.specs.Views.{feed_view}
use Rattle.id_history.specs.declared.kept.KeptFeed.{KeptFeed}
use Rattle.named_history.specs.Fitting.{feed_by}
use Rattle.named_history.specs.Naming.{feeds_by}
use Rattle.named_history.proofs.FeedLemmas.{feeds_done, feeds_more}
use Rattle.named_history.proofs.feeds.feeds_by.Goals as goal

pub loop-place-preserved : goal.loop-place-preserved
loop-place-preserved c =
    let known = c.args.known.now in
    let own = c.args.own.now in
    let rings = c.args.rings.now in
    let place = c.loop-place.place in
    let ring = get_or rings place 0 in
    let name = c.as_slice.result.now in
    let left = map feed_view c.loop-place.left.items in
    let next = map feed_view c.take_kept.new.left.items in
    let new = c.in_ok-feed_by.field-0 in
    let feeds = c.loop-place.feeds.items in
    let fits = λ (feed : KeptFeed). length feed.waiting.items < 2 ^ 32 in
    let rest = feeds_by known next (drop (place + 1) own) (drop (place + 1) rings) in
    record {
      made =
          ap (λ (all : List KeptFeed). map feed_view all ++ rest) c.in_ok-push.ensures.items
          ∙ ap (λ (all : List kept.KeptFeed). all ++ rest) (map-append feed_view feeds (new ∷ []))
          ∙ feeds_more known own rings left next (map feed_view feeds) (feed_view new) place name
          c.index-own-place.result ring
          (omega (arith, c.loop-place-test.true, c.min-count.ensures))
          (omega (arith, c.loop-place-test.true, c.min-count.ensures))
          (c.as_slice.ensures ∙ c.index-own-place.is) refl
          (c.in_ok-feed_by.ensures.feed ∙ ap (feed_by ring) c.in_ok-kept.ensures.kept)
          c.in_ok-kept.ensures.left
          ∙ c.loop-place.invariant.made;
      count =
          ap length c.in_ok-push.ensures.items ∙ length_push feeds new
          ∙ ap (λ (n : ℕ). n + 1) c.loop-place.invariant.count;
      room =
          subst (All fits) (sym c.in_ok-push.ensures.items)
          (All-push fits feeds new c.loop-place.invariant.room
          (omega (arith, c.in_ok-feed_by.ensures.room, c.type_inv.rings place)));
    }

pub returns-clause-feeds : goal.returns-clause-feeds
returns-clause-feeds c =
    let own = c.args.own.now in
    let rings = c.args.rings.now in
    let place = c.loop-place.place in
    let made = map feed_view c.loop-place.feeds.items in
    let names = length-drop place own in
    let sizes = length-drop place rings in
    let none : (length (drop place own) ≤ 0) ⊎ (length (drop place rings) ≤ 0) =
    elim (cases_lt (length own) (length rings)) [
      | inl less ↦
          inl (omega (arith, less, names, c.loop-place-test.false, c.min-count.ensures))
      | inr more ↦
          inr (omega (arith, more, sizes, c.loop-place-test.false, c.min-count.ensures))
    ] in
    sym (append-nil made)
    ∙ ap (λ (all : List kept.KeptFeed). made ++ all)
    (sym (feeds_done c.args.known.now (map feed_view c.loop-place.left.items) (drop place own)
    (drop place rings) none))
    ∙ c.loop-place.invariant.made
