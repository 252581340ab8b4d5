-- The terms of a configuration are sound.
use Rattle.std.proofs.Common.{◌≤◌, ◌<◌, ◌^◌, ℕ, List, get_or, ap, sym, ◌∙◌, IsTrue}
use Rattle.std.proofs.lemmas.List.Elements.{All-map}
use Rattle.news_terms.specs.Path.{is_agent}
use Rattle.news_terms.specs.StorageClass.{Entry}
use Rattle.feed_queue.specs.Permission.{feed_view, identity_view}
use Rattle.news_terms.proofs.ListPlaces.{mapped_at}
use Rattle.relay_conf.specs.Storage.{entry_view}
use Rattle.relay_conf.specs.declared.settings.Config.{Config}
use Rattle.relay_facts.specs.Sound.{IsSound}
use Rattle.relay_model.specs.Terms.{FeedTerms}
use Rattle.article_verdict.specs.Config.{terms_of}

-- by what holds of each value of the settings
pub are_sound : (config : Config) → IsSound (terms_of config)
are_sound config = record {
  places = config.buffers.sound;
  classes = All-map (λ (entry : Entry). entry.class < 2 ^ 8) entry_view config.storage_entries.items
      (λ k d within. (get_or config.storage_entries.items k d).fits);
  rings = All-map (λ (feed : FeedTerms). 1 ≤ feed.ring) feed_view config.relay.feeds.items
      (λ k d within. (config.relay.sound.rings k d within).0);
  own_feed = λ i j a b at other same.
      let one = mapped_at feed_view config.relay.feeds.items i a at in
      let two = mapped_at feed_view config.relay.feeds.items j b other in
      config.relay.sound.own_feed i j one.0 two.0 one.1 two.1
      (ap (λ (feed : FeedTerms). feed.peer) one.2 ∙ same
      ∙ sym (ap (λ (feed : FeedTerms). feed.peer) two.2));
  own = config.relay.sound.own;
  peers = All-map (λ (peer : List ℕ). IsTrue (is_agent peer)) identity_view
      config.relay.peers.items config.relay.sound.identities;
}
