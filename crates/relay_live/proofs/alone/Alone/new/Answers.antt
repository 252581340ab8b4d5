use Rattle.std.proofs.Common.{◌∙◌, List, ap, length, map, refl, subst, sym}
use Rattle.std.proofs.lemmas.List.{length-map}
use Rattle.id_history.specs.Shards.{EachKeeps}
use Rattle.relay_model.specs.Claims.{Unknown}
use Rattle.article_verdict.proofs.FewFeeds.{few_feeds}
use Rattle.block_shelf.proofs.HostFaults.{host_refuses}
use Rattle.block_shelf.proofs.NewBufferSet.{same_count}
use Rattle.feed_queue.specs.Feeds.{KeepsFeeds, no_feed, ring_size}
use Rattle.live_jobs.specs.Desks.{desk_of}
use Rattle.relay_conf.specs.declared.relay.Feed.{Feed}
use Rattle.post_history.proofs.Begun.{none_taken}
use Rattle.relay_live.proofs.Begins.{keeps_nothing}
use Rattle.relay_live.proofs.Gaining.{begins_new}
use Rattle.relay_live.proofs.Rooms.{no_more}
use Rattle.std.proofs.lemmas.Result.{IfOk-from_err}
use Rattle.relay_live.proofs.alone.Alone.new.Goals as goal

-- as many buffers as stores, and so no more than a configuration has
pub invariant_of-result : goal.invariant_of-result
invariant_of-result g c = record {
  sixteen = sym (length-map c.in_ok-shards.shards.items (λ one. one.shard))
      ∙ ap length c.in_ok-shards.ensures.shards ∙ c.into_shards-shards.ensures.sixteen;
  as_many = λ found. ap length c.open-posts.ensures.none ∙ sym c.in_ok-desk.ensures.posts;
  gained = λ found.
      begins_new (desk_of c.in_ok-desk.desk) g.J.Naming.began g.J.Naming.rings
      (map ring_size c.args.config.now.relay.feeds.items) _
      c.requires.posts.1 c.requires.rings c.open-posts.ensures.none
      (subst (λ (fs : List Feed). KeepsFeeds (desk_of c.in_ok-desk.desk) (map ring_size fs)
      (λ f. no_feed)) c.deref.ensures.value c.in_ok-desk.ensures.desk);
  few = no_more _ _ _
      (c.in-Ok.ensures.over.count
      ∙ same_count g.S.BlockStore c.args.config.now.buffers c.args.stores.items c.requires.stores)
      c.args.config.now.buffers.few_buffers;
  few_placed_groups =
      no_more _ _ _ c.in_ok-placed_groups.ensures.count c.args.config.now.buffers.few_groups;
  few_feeds = no_more _ _ _ (c.len-2.ensures ∙ c.args.config.now.relay.feeds.ok.0)
      (few_feeds c.args.config.now);
  ring_each = ap length c.requires.rings
      ∙ length-map c.args.config.now.relay.feeds.items ring_size
      ∙ sym (c.len-2.ensures ∙ c.args.config.now.relay.feeds.ok.0);
}

-- nothing was stored before
pub remember_all-requires-clause-take : goal.remember_all-requires-clause-take
remember_all-requires-clause-take g c =
    none_taken g.J.Naming.began c.into_shards-shards.result.items c.requires.posts.1

-- the stores are honest where they are trusted, and no more than a configuration has
pub new_buffers-requires-clause-few : goal.new_buffers-requires-clause-few
new_buffers-requires-clause-few g c =
    no_more _ _ _
    (same_count g.S.BlockStore c.args.config.now.buffers c.args.stores.items c.requires.stores)
    c.args.config.now.buffers.few_buffers

pub new_buffers-requires-clause-honest : goal.new_buffers-requires-clause-honest
new_buffers-requires-clause-honest g c = c.requires.honest

-- each part is as it is before anything has come
pub returns : goal.returns
returns g c =
    let relay = c.args.config.now.relay in
    let claims = subst (λ shards. EachKeeps shards (λ id. Unknown)) (sym c.in_ok-shards.ensures.shards)
    (c.into_shards-shards.ensures.keeps _ c.in_ok-new.ensures) in
    let feeds = subst (λ (fs : List Feed). KeepsFeeds (desk_of c.in_ok-desk.desk) (map ring_size fs)
    (λ f. no_feed)) c.deref.ensures.value c.in_ok-desk.ensures.desk in
    let count = c.len-2.ensures ∙ relay.feeds.ok.0 in
    record {
      begins = record {
        claims = claims;
        feeds = feeds;
        placed_groups = c.in_ok-placed_groups.ensures.placed_groups;
        placed_group_count = c.in_ok-placed_groups.ensures.count;
        buffers = c.in-Ok.ensures.over;
        newest = c.after-last.ensures;
        stop_is = refl;
        feed_count = count;
        remembers = refl;
        keeps = λ honest. keeps_nothing c.args.config.now c.args.stores.items _ c.requires.stores
            c.in-Ok.ensures.over claims feeds
            c.in_ok-placed_groups.ensures.placed_groups c.in_ok-placed_groups.ensures.count
            c.after-last.ensures count honest;
      };
      refusal = tt;
    }

-- what the making of the buffers blames is blamed
pub returns-in-Err : goal.returns-in-Err
returns-in-Err g c =
    record {
      begins = tt;
      refusal = c.unbegun.ensures c.args.stores.items c.in-Err.ensures.refusal;
    }

-- the host has no seed, or no memory
pub returns-in_err-new : goal.returns-in_err-new
returns-in_err-new g c =
    let told = c.from_residual in
    record {
      begins = IfOk-from_err told.result _ told.ensures.0;
      refusal = host_refuses g.S.BlockStore c.args.stores.items told.result told.ensures.1;
    }

pub returns-in_err-shards : goal.returns-in_err-shards
returns-in_err-shards g c =
    let told = c.from_residual-in_err-shards in
    record {
      begins = IfOk-from_err told.result _ told.ensures.0;
      refusal = host_refuses g.S.BlockStore c.args.stores.items told.result told.ensures.1;
    }

pub returns-in_err-placed_groups : goal.returns-in_err-placed_groups
returns-in_err-placed_groups g c =
    let told = c.from_residual-in_err-placed_groups in
    record {
      begins = IfOk-from_err told.result _ told.ensures.0;
      refusal = host_refuses g.S.BlockStore c.args.stores.items told.result told.ensures.1;
    }

pub returns-in_err-desk : goal.returns-in_err-desk
returns-in_err-desk g c =
    let told = c.from_residual-in_err-desk in
    record {
      begins = IfOk-from_err told.result _ told.ensures.0;
      refusal = host_refuses g.S.BlockStore c.args.stores.items told.result told.ensures.1;
    }
