use Rattle.std.proofs.Common.{◌≡◌, ◌∙◌, ◌++◌, ◌∷◌, [], ap, length, length-append, map}
use Rattle.std.proofs.Common.{sym}
use Rattle.std.proofs.lemmas.List.{nil_from_length}
use Rattle.std.specs.Vec.Iter.{into_iter_items}
use Rattle.article_verdict.specs.Config.{terms_of}
use Rattle.relay_live.specs.PeerServers.{kept_of, peer_of, terms_at}
use Rattle.relay_live.proofs.Accounts.{all_read, map_next}
use Rattle.std.proofs.lemmas.Result.{IfOk-from_err}
use Rattle.relay_live.proofs.Rooms.{none_yet, one_came, room_of, still_fits}
use Rattle.relay_live.proofs.running.ends_of.Goals as goal

pub loop-peer_source-init : goal.loop-peer_source-init
loop-peer_source-init g c =
    let gives = c.into_iter-peer_source-iterator.ensures.into_iter_gives in
    let none = c.in_ok-ends.ensures.items in
    record {
      count = none_yet _ _ _ (ap length none) (gives.1 ∙ c.args.serving.peer_sources.ok.0);
      room = room_of _ _ _ c.in_ok-ends.ensures.capacity
          (c.len.ensures ∙ c.args.serving.peer_sources.ok.0);
      peers = λ i. map peer_of (none i) ++ map (λ d. d.peer) (gives.0 i);
      terms = λ i. map terms_at (none i)
          ++ map (λ d. terms_of c.args.serving.config.now) (gives.0 i);
      new = λ i. map kept_of (none i) ++ map (λ d. []) (gives.0 i);
    }

pub loop-peer_source-preserved : goal.loop-peer_source-preserved
loop-peer_source-preserved g c =
    let inv = c.loop-peer_source.invariant in
    let steps = c.in-Some.ensures.steps in
    let pushed = c.push_reserved.ensures in
    let ends = c.loop-peer_source.ends.items in
    let more = c.push_reserved.new.self.items in
    let sources = c.args.serving.peer_sources.items in
    let left = into_iter_items c.loop-peer_source.peer_source-iterator in
    let next = into_iter_items c.next.new.self in
    let long = ap length pushed.items ∙ length-append ends (c.new.result ∷ []) in
    record {
      count = one_came _ _ _ _ _ long steps.1 inv.count;
      room = still_fits _ _ _ inv.room pushed.capacity;
      peers = map_next (λ d. d.peer) peer_of ends more c.new.result c.in-Some.peer_source
          (map (λ d. d.peer) sources) left next inv.peers pushed.items steps.0 c.new.ensures.peer;
      terms = map_next (λ d. terms_of c.args.serving.config.now) terms_at ends more c.new.result
          c.in-Some.peer_source (map (λ d. terms_of c.args.serving.config.now) sources) left next
          inv.terms
          pushed.items steps.0 c.new.ensures.terms;
      new = map_next (λ d. []) kept_of ends more c.new.result c.in-Some.peer_source
          (map (λ d. []) sources) left next inv.new pushed.items steps.0 c.new.ensures.none;
    }

pub returns : goal.returns
returns g c =
    let inv = c.loop-peer_source.invariant in
    let ends = c.loop-peer_source.ends.items in
    let sources = c.args.serving.peer_sources.items in
    let rest = c.loop-peer_source.peer_source-iterator in
    let left = into_iter_items rest in
    let none : left ≡ [] = nil_from_length rest.rest.items
    (sym rest.rest.ok.0 ∙ c.in-None.ensures.steps.0) in
    record {
      peers = all_read (λ d. d.peer) peer_of ends left (map (λ d. d.peer) sources) inv.peers none;
      terms = all_read (λ d. terms_of c.args.serving.config.now) terms_at ends left
          (map (λ d. terms_of c.args.serving.config.now) sources) inv.terms none;
      new = all_read (λ d. []) kept_of ends left (map (λ d. []) sources) inv.new none;
    }

-- where memory is refused there is none
pub returns-in_err-ends : goal.returns-in_err-ends
returns-in_err-ends g c =
    let told = c.from_residual in
    record {
      peers = IfOk-from_err told.result _ told.ensures.0;
      terms = IfOk-from_err told.result _ told.ensures.0;
      new = IfOk-from_err told.result _ told.ensures.0;
    }
