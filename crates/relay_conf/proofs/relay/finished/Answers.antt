use Rattle.std.proofs.Common.{◌≡◌, ◌∙◌, ℕ, List, map, Some, Ok, ap, sym, arith, length}
use Rattle.std.proofs.lemmas.List.{length-map, take_at}
use Rattle.relay_conf.specs.declared.relay.NamedLine.{NamedLine}
use Rattle.relay_conf.specs.declared.relay.Peer.{Peer}
use Rattle.relay_conf.specs.declared.relay.PeerConnections.{PeerConnections}
use Rattle.relay_conf.specs.Relay.{connected}
use Rattle.relay_conf.specs.RelayDraft.{Reading, draft_view, draft_said, named_said, numbered_feed}
use Rattle.relay_conf.specs.RelayDraft.{reading_settings, numbered_allow}
use Rattle.relay_conf.proofs.relay.finished.Goals.{After-unwrap_or-3}
use Rattle.relay_conf.proofs.relay.finished.Goals as goal

-- Where the own identity stands and each name is a peer's, a draft says settings.
settled : (r : Reading) (own : List ℕ) → r.own ≡ Some own → named_said r.peers r.named ≡ Ok tt
    → draft_said r ≡ Ok (record (reading_settings r) { own = own })
settled r own is named = grind arith

-- So it is with this draft.
says : (c : After-unwrap_or-3)
    → draft_said (draft_view c.args.draft)
    ≡ Ok (record (reading_settings (draft_view c.args.draft)) { own = c.in-Some.own })
says c =
    let r = draft_view c.args.draft in
    let named : named_said r.peers r.named ≡ Ok tt =
    ap (λ (peers : List Peer). named_said peers r.named) (sym c.deref.ensures.value)
    ∙ ap (λ (names : List NamedLine). named_said c.deref.result.now names)
    (sym c.deref-2.ensures.value)
    ∙ c.in_ok-known_names.ensures in
    settled r c.in-Some.own c.in-Some.is named

-- the peers have their connections,
peers : (c : After-unwrap_or-3)
    → c.connect.new.peers
    ≡ map (connected c.args.draft.connections.items) c.args.draft.peers.items
peers c =
    c.connect.ensures
    ∙ ap (map (connected c.deref-5.result.now)) c.deref_mut.ensures.value
    ∙ ap (λ (all : List PeerConnections). map (connected all) c.args.draft.peers.items)
    c.deref-5.ensures.value

-- and are as many,
as_many : (c : After-unwrap_or-3) → length c.connect.new.peers ≡ c.args.draft.peers.len
as_many c =
    let draft = c.args.draft in
    omega (
      arith,
      ap (λ (all : List Peer). length all) (peers c),
      length-map draft.peers.items (connected draft.connections.items),
      draft.peers.ok.0,
    )

-- the ranges of addresses the numbers of theirs,
allows : (c : After-unwrap_or-3)
    → c.in_ok-allows.allows.items
    ≡ map (numbered_allow c.args.draft.peers.items) c.args.draft.allows.items
allows c =
    c.in_ok-allows.ensures
    ∙ ap (λ (peers : List Peer). map (numbered_allow peers) c.args.draft.allows.items)
    c.deref-4.ensures.value

-- and the feeds the numbers of theirs.
feeds : (c : After-unwrap_or-3)
    → c.in_ok-feeds.feeds.items
    ≡ map (numbered_feed c.args.draft.peers.items) c.args.draft.feeds.items
feeds c =
    c.in_ok-feeds.ensures
    ∙ ap (λ (peers : List Peer). map (numbered_feed peers) c.args.draft.feeds.items)
    c.deref-3.ensures.value

pub invariant_of-result : goal.invariant_of-result
invariant_of-result c =
    let long = as_many c in
    record {
      sound = rw (
        c.unwrap_or.ensures,
        c.unwrap_or-2.ensures,
        c.unwrap_or-3.ensures,
        c.in_ok-binds.ensures,
        take_at,
        peers c,
        feeds c,
        allows c,
      ) (c.requires.sound _ (says c));
    }

pub returns : goal.returns
returns c =
    let made = (goal.at.returns c).After-unwrap_or-3 in
    let long = as_many made in
    rw (
      made.unwrap_or.ensures,
      made.unwrap_or-2.ensures,
      made.unwrap_or-3.ensures,
      made.in_ok-binds.ensures,
      take_at,
      peers made,
      feeds made,
      allows made,
    ) (says made)
