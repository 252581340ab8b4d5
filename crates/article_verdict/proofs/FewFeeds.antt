-- A configuration has fewer feeds than there are numbers for them, since no peer has two.
use Rattle.std.proofs.Common.{◌≡◌, ◌∙◌, ◌<◌, ◌≤◌, ℕ, Bool, true, false, List, [], ◌∷◌, length, map}
use Rattle.std.proofs.Common.{All, ap, arith, get_or, inl, inr, nat_eq, refl, subst, sym}
use Rattle.std.proofs.Common.{take}
use Rattle.std.proofs.lemmas.Bool.{cases_Bool, eqb-true}
use Rattle.std.proofs.lemmas.List.{length-map, take_all}
use Rattle.std.proofs.lemmas.List.Elements.{All-head, All-map, All-tail}
use Rattle.std.proofs.lemmas.Map.Keys.{IsDistinct-from_apart}
use Rattle.std.proofs.lemmas.Map.Steps.{length-le_from_distinct_below}
use Rattle.std.proofs.lemmas.Option.{slice_get-get_or}
use Rattle.std.specs.List.{list_any}
use Rattle.std.specs.Prelude.{◌||◌}
use Rattle.feed_queue.specs.Permission.{HasFeeds, feed_view}
use Rattle.news_terms.proofs.ListPlaces.{mapped_at}
use Rattle.relay_conf.specs.declared.relay.Feed.{Feed}
use Rattle.relay_conf.specs.declared.settings.Config.{Config}
use Rattle.article_verdict.specs.Config.{terms_of}

-- one of some numbers is below what all are below
any_below : (numbers : List ℕ) (n : ℕ) → All (λ number. number < n) numbers → (q : ℕ)
    → list_any (nat_eq q) numbers ≡ true → q < n
any_below [] n below q any = absurd (cc)
any_below (number ∷ numbers) n below q any =
    by_test (any_below numbers n (All-tail (λ k. k < n) number numbers below) q)
    (nat_eq q number) refl any
  where
    by_test : (list_any (nat_eq q) numbers ≡ true → q < n) → (b : Bool)
        → nat_eq q number ≡ b → (b || list_any (nat_eq q) numbers) ≡ true → q < n
    by_test later true same is =
        subst (λ k. k < n) (sym (eqb-true q number same))
        (All-head (λ k. k < n) number numbers below)
    by_test later false other is = later is

-- the number of a feed's peer
abbrev pub peer_of : Feed → ℕ
peer_of feed = feed.peer

-- a peer has at most one feed, so there are no more feeds than peers
pub few_feeds : (config : Config) → length config.relay.feeds.items ≤ 1024
few_feeds config =
    let feeds = config.relay.feeds.items in
    let peers = map peer_of feeds in
    let count : length peers ≡ length feeds = length-map feeds peer_of in
    let below : All (λ number. number < length config.relay.peers.items) peers =
    All-map (λ number. number < length config.relay.peers.items) peer_of feeds
    config.relay.sound.of_peers in
    let few : length peers ≤ length config.relay.peers.items =
    length-le_from_distinct_below peers (length config.relay.peers.items)
    (IsDistinct-from_apart nat_eq peers apart) (any_below peers _ below) in
    omega (arith, few, count, config.relay.sound.few_peers)
  where
    apart : (i j d : ℕ) → i < j → j < length (map peer_of config.relay.feeds.items)
        → nat_eq (get_or (map peer_of config.relay.feeds.items) i d)
        (get_or (map peer_of config.relay.feeds.items) j d) ≡ false
    apart i j d before within =
        let feeds = config.relay.feeds.items in
        let peers = map peer_of feeds in
        elim (cases_Bool (nat_eq (get_or peers i d) (get_or peers j d))) [
          | inl same ↦
              let one = mapped_at peer_of feeds i (get_or peers i d)
              (slice_get-get_or peers i d (omega (arith, before, within))) in
              let two = mapped_at peer_of feeds j (get_or peers j d)
              (slice_get-get_or peers j d within) in
              let places : i ≡ j = config.relay.sound.own_feed i j one.0 two.0 one.1 two.1
              (one.2 ∙ eqb-true _ _ same ∙ sym two.2) in
              absurd (omega (arith, places, before))
          | inr other ↦ other
        ]

-- so the terms have the feeds that have a number: all of them
pub has_feeds : (config : Config)
    → HasFeeds (terms_of config) config.relay.peers.items (take 65536 config.relay.feeds.items)
has_feeds config = record {
  identities = refl;
  each = ap (map feed_view) (sym (take_all 65536 config.relay.feeds.items
      (omega (arith, few_feeds config))));
}
