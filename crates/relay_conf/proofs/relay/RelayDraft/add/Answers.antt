use Rattle.std.proofs.Common.{refl, ap, Some, Ok, List, ℕ, Option}
use Rattle.relay_conf.specs.RelayLines.{Skipped, Own, MaxArticle, Cutoff, Remember, Patience, Sync}
use Rattle.relay_conf.specs.RelayLines.{Offers, Log}
use Rattle.relay_conf.specs.declared.settings.NewsLog.{NewsLog}
use Rattle.relay_conf.specs.RelayLines.{PeerLine, Bind}
use Rattle.relay_conf.specs.RelayDraft.{Reading, draft_view, after_line}
use Rattle.relay_conf.proofs.LinesRead.{read_by}
use Rattle.relay_conf.proofs.RelayReadings.{no_memory, peers_listed, still}
use Rattle.relay_conf.proofs.relay.RelayDraft.add.Goals as goal

pub returns-in-Skipped : goal.returns-in-Skipped
returns-in-Skipped c = λ listed.
    rw c.in-Skipped.is (record {
      step = record { line = Skipped; says = refl; none = refl; reading = refl };
      listed = listed;
    })

pub returns-in_ok-copied-in-Own : goal.returns-in_ok-copied-in-Own
returns-in_ok-copied-in-Own c = λ listed.
    let own = c.in_ok-copied-in-Own.field-0 in
    rw c.in-Own.is
    (record {
      step = read_by _ _ (after_line c.args.number) _
          (λ (slot : Option (List ℕ)). draft_view (record c.args.self.now { own = slot }))
          c.set_once.new.slot (Some own) (Own own) c.set_once.result
          (ap (λ (identity : List ℕ). Ok (Own identity)) c.in_ok-copied-in-Own.ensures)
          c.set_once.ensures.fault c.set_once.ensures.set refl;
      listed = still c.set_once.result listed;
    })

pub returns-in-MaxArticle : goal.returns-in-MaxArticle
returns-in-MaxArticle c = λ listed.
    let set = c.set_once-in-MaxArticle in
    rw c.in-MaxArticle.is
    (record {
      step = read_by _ _ (after_line c.args.number) _
          (λ (slot : Option ℕ). draft_view (record c.args.self.now { max_article = slot })) _ _
          (MaxArticle c.in-MaxArticle.octets) set.result refl set.ensures.fault set.ensures.set
          refl;
      listed = still set.result listed;
    })

pub returns-in-Cutoff : goal.returns-in-Cutoff
returns-in-Cutoff c = λ listed.
    let set = c.set_once-in-Cutoff in
    rw c.in-Cutoff.is
    (record {
      step = read_by _ _ (after_line c.args.number) _
          (λ (slot : Option ℕ). draft_view (record c.args.self.now { cutoff = slot })) _ _
          (Cutoff c.in-Cutoff.seconds) set.result refl set.ensures.fault set.ensures.set refl;
      listed = still set.result listed;
    })

pub returns-in-Remember : goal.returns-in-Remember
returns-in-Remember c = λ listed.
    let set = c.set_once-in-Remember in
    rw c.in-Remember.is
    (record {
      step = read_by _ _ (after_line c.args.number) _
          (λ (slot : Option ℕ). draft_view (record c.args.self.now { remember = slot })) _ _
          (Remember c.in-Remember.seconds) set.result refl set.ensures.fault set.ensures.set refl;
      listed = still set.result listed;
    })

pub returns-in-Patience : goal.returns-in-Patience
returns-in-Patience c = λ listed.
    let set = c.set_once-in-Patience in
    rw c.in-Patience.is
    (record {
      step = read_by _ _ (after_line c.args.number) _
          (λ (slot : Option ℕ). draft_view (record c.args.self.now { patience = slot })) _ _
          (Patience c.in-Patience.seconds) set.result refl set.ensures.fault set.ensures.set refl;
      listed = still set.result listed;
    })

pub returns-in-Sync : goal.returns-in-Sync
returns-in-Sync c = λ listed.
    let set = c.set_once-in-Sync in
    rw c.in-Sync.is
    (record {
      step = read_by _ _ (after_line c.args.number) _
          (λ (slot : Option ℕ). draft_view (record c.args.self.now { sync = slot })) _ _
          (Sync c.in-Sync.seconds) set.result refl set.ensures.fault set.ensures.set refl;
      listed = still set.result listed;
    })

pub returns-in-Offers : goal.returns-in-Offers
returns-in-Offers c = λ listed.
    let set = c.set_once-in-Offers in
    rw c.in-Offers.is
    (record {
      step = read_by _ _ (after_line c.args.number) _
          (λ (slot : Option ℕ). draft_view (record c.args.self.now { offers = slot })) _ _
          (Offers c.in-Offers.seconds) set.result refl set.ensures.fault set.ensures.set refl;
      listed = still set.result listed;
    })

pub returns-in_ok-path-in-Log : goal.returns-in_ok-path-in-Log
returns-in_ok-path-in-Log c = λ listed.
    let path = c.in_ok-path-in-Log.path in
    let set = c.set_once-in-Log in
    rw c.in-Log.is
    (record {
      step = read_by _ _ (after_line c.args.number) _
          (λ (slot : Option NewsLog). draft_view (record c.args.self.now { log = slot }))
          set.new.slot (Some (record { all = c.in-Log.all; path = path }))
          (Log c.in-Log.all path) set.result
          (ap (λ (octets : List ℕ). Ok (Log c.in-Log.all octets)) c.in_ok-path-in-Log.ensures)
          set.ensures.fault set.ensures.set refl;
      listed = still set.result listed;
    })

pub returns-in_err-path-in-Log : goal.returns-in_err-path-in-Log
returns-in_err-path-in-Log c = λ listed. no_memory _ c.from_residual-in_err-path-in-Log.ensures.1

pub returns-in-Bind : goal.returns-in-Bind
returns-in-Bind c = λ listed.
    let add = c.add_bind in
    rw c.in-Bind.is
    (record {
      step = read_by _ _ (after_line c.args.number) _
          (λ (items : List (List ℕ)). record (draft_view c.args.self.now) { binds = items })
          add.new.binds.items _ (Bind c.in-Bind.address) add.result refl add.ensures.fault
          add.ensures.kept refl;
      listed = still add.result listed;
    })

pub returns-in-Peer : goal.returns-in-Peer
returns-in-Peer c = λ listed.
    let peer = PeerLine c.in-Peer.name.now c.in-Peer.identity.now c.in-Peer.port in
    rw c.in-Peer.is
    (record {
      step = read_by _ _ (after_line c.args.number) _ (λ (r : Reading). r)
          (draft_view c.add_peer.new.self) _
          peer c.add_peer.result refl c.add_peer.ensures.fault c.add_peer.ensures.peers refl;
      listed = peers_listed c.args.self.now c.add_peer.new.self _ c.add_peer.result
          c.add_peer.ensures.peers
          c.add_peer.ensures.names c.add_peer.ensures.connected listed;
    })

pub returns-in_err-copied-in-Own : goal.returns-in_err-copied-in-Own
returns-in_err-copied-in-Own c = λ listed. no_memory _ c.from_residual.ensures.1

pub returns-in-Connections : goal.returns-in-Connections
returns-in-Connections c = λ listed. rw c.in-Connections.is (c.add_connections.ensures listed)

pub returns-in-Allow : goal.returns-in-Allow
returns-in-Allow c = λ listed. rw c.in-Allow.is (c.add_allow.ensures listed)

pub returns-in-Feed : goal.returns-in-Feed
returns-in-Feed c = λ listed. rw c.in-Feed.is (c.add_feed.ensures listed)
