-- Settings that relay.conf says are sound.
use Rattle.std.proofs.lemmas.Bool.Decides.{nat_tests}
use Rattle.std.proofs.Common.{◌≡◌, ◌≢◌, ℕ, zero, suc, ◌<◌, ◌≤◌, true, List, [], ◌∷◌, All, length}
use Rattle.std.proofs.Common.{None, Some, Ok, slice_get, get_or, ap, ◌∙◌, sym, subst, refl, arith}
use Rattle.std.proofs.Common.{append-nil, lit≤}
use Rattle.std.specs.Prelude.{filter_map, flat_map, bytes_eq, IsTrue}
use Rattle.std.specs.List.{list_any}
use Rattle.std.specs.Option.{ForSome, IfSome, option_to_list}
use Rattle.std.proofs.lemmas.Bool.{cond_both}
use Rattle.std.proofs.lemmas.List.{length-map}
use Rattle.std.proofs.lemmas.List.Elements.{All-append, All-head, All-map, All-nil, All-tail}
use Rattle.std.proofs.lemmas.List.Sums.{passes_at_first}
use Rattle.std.proofs.lemmas.Option.{same_Some, slice_get-get_or}
use Rattle.std.proofs.lemmas.Slice.Eq.{bytes_eq-Decides}
use Rattle.news_terms.specs.Path.{is_agent}
use Rattle.news_terms.proofs.ListPlaces.{Apart, apart_more, found_at, holds_at}
use Rattle.relay_conf.specs.declared.faults.Fault.TheVariants.{Duplicate}
use Rattle.relay_conf.specs.declared.reach.Allow.{Allow}
use Rattle.relay_conf.specs.declared.relay.Feed.{Feed}
use Rattle.relay_conf.specs.declared.relay.Peer.{Peer}
use Rattle.relay_conf.specs.declared.relay.PeerConnections.{PeerConnections}
use Rattle.relay_conf.specs.Faults.{first_fault}
use Rattle.relay_conf.specs.RelayLines.{SaidLine, AllowLine, Bind, FeedLine}
use Rattle.relay_conf.specs.Relay.{feed_name_of, feed_of, allow_of, allows_of, peer_number}
use Rattle.relay_conf.specs.Relay.{name_in, unknown_fault}
use Rattle.relay_conf.specs.Relay.{line_fault, stand_of, early_fault, late_fault, no_own_fault}
use Rattle.relay_conf.specs.Relay.{settings_of, RelaySettings, Stand, again_fault, connected}
use Rattle.relay_conf.specs.Relay.{binds_or_each, connections_for, each_address, first_or}
use Rattle.relay_conf.specs.Relay.{first_of}
use Rattle.relay_conf.specs.RelayViews.{HasSettings}
use Rattle.relay_conf.specs.SoundRelay.{IsSoundRelay}
use Rattle.relay_conf.proofs.FaultlessLines.{all_option, behind_trials, given_keeps}
use Rattle.relay_conf.proofs.FaultlessLines.{listed_without_fault}
use Rattle.relay_conf.proofs.RangedRelay.{are_ranged}
use Rattle.relay_conf.proofs.RelayReadings.{join, stand_kept, few_joined}

-- THE PEERS OF FEEDS

-- A name that passes is none of these.
is_new : (names : List (List ℕ)) (name : List ℕ) → again_fault names name ≡ None → (i : ℕ)
    → slice_get names i ≢ Some name
is_new names name e i at =
    let t : list_any (bytes_eq name) names ≡ true =
    found_at (bytes_eq name) names i name at ((bytes_eq-Decides name name).1 refl) in
    let k : Some Duplicate ≡ None = rw t at e in
    cc

-- Names stay apart behind a line without a fault.
apart_next : (stand : Stand) (line : SaidLine) → line_fault stand line ≡ None
    → Apart stand.feed_names → Apart (join stand line).feed_names
apart_next stand (Ok (FeedLine name ring expression hash)) e apart =
    apart_more stand.feed_names name (is_new stand.feed_names name e) apart
apart_next stand line e apart = subst Apart (sym (append-nil stand.feed_names)) apart

-- So do addresses to listen on.
binds_apart : (stand : Stand) (line : SaidLine) → line_fault stand line ≡ None
    → Apart stand.binds → Apart (join stand line).binds
binds_apart stand (Ok (Bind address)) e apart =
    apart_more stand.binds address (is_new stand.binds address e) apart
binds_apart stand line e apart = subst Apart (sym (append-nil stand.binds)) apart

-- A feed behind a line without a fault is of a peer.
name_known : (peers : List Peer) (line : SaidLine) → unknown_fault peers (name_in line) ≡ None
    → IfSome (feed_name_of line) (λ name. peer_number peers name < length peers)
name_known peers line e = grind (arith, nat_tests)

-- So is each feed.
names_known : (peers : List Peer) (said : List SaidLine)
    → first_fault (late_fault peers) [] said ≡ None
    → All (λ name. peer_number peers name < length peers) (filter_map feed_name_of said)
names_known peers said none =
    let P : List ℕ → Type 0 = λ name. peer_number peers name < length peers in
    given_keeps (late_fault peers) feed_name_of (All P) (All-nil P)
    (λ before line e all. All-append P (filter_map feed_name_of before)
    (option_to_list (feed_name_of line)) all
    (all_option P (feed_name_of line) (name_known peers line e))) said none

-- A feed is of the peer whose name stands at its place.
name_at : (peers : List Peer) (said : List SaidLine) (i : ℕ) (feed : Feed)
    → slice_get (filter_map (feed_of peers) said) i ≡ Some feed
    → (name : List ℕ) × (slice_get (filter_map feed_name_of said) i ≡ Some name)
    × (feed.peer ≡ peer_number peers name)
name_at peers [] i feed e = cc
name_at peers (Ok (FeedLine name ring expression hash) ∷ said) zero feed e =
    let one : Feed =
    record {
      peer = peer_number peers name;
      ring = ring;
      expression = expression;
      hash = hash;
    } in
    (name, refl, ap (λ (f : Feed). f.peer) (sym (same_Some one feed e)))
name_at peers (Ok (FeedLine name ring expression hash) ∷ said) (suc i) feed e =
    name_at peers said i feed e
name_at peers (line ∷ said) i feed e = name_at peers said i feed e

-- Names of one peer are one name.
one_name : (peers : List Peer) (one other : List ℕ) → peer_number peers one < length peers
    → peer_number peers one ≡ peer_number peers other → one ≡ other
one_name peers one other within same =
    let none : Peer = record { name = []; identity = []; port = 0; connections = 0 } in
    let there = get_or peers (peer_number peers one) none in
    let first = passes_at_first (λ (peer : Peer). bytes_eq one peer.name) peers none within in
    let second = passes_at_first (λ (peer : Peer). bytes_eq other peer.name) peers none
    (subst (λ n. n < length peers) same within) in
    (bytes_eq-Decides one there.name).0 first
    ∙ sym ((bytes_eq-Decides other there.name).0
    (subst (λ n. bytes_eq other (get_or peers n none).name ≡ true) (sym same) second))

-- The peer of a feed is one of the peers, which has no other.
pub record HaveOwnFeeds (peers : List Peer) (feeds : List Feed) : Type 0 where
  pub within : (i : ℕ) (feed : Feed) → slice_get feeds i ≡ Some feed → feed.peer < length peers
  pub own : (i j : ℕ) (a b : Feed) → slice_get feeds i ≡ Some a → slice_get feeds j ≡ Some b
      → a.peer ≡ b.peer → i ≡ j

-- So it is with those of lines without a fault.
own_feeds : (peers : List Peer) (said : List SaidLine) → first_fault early_fault [] said ≡ None
    → first_fault (late_fault peers) [] said ≡ None
    → HaveOwnFeeds peers (filter_map (feed_of peers) said)
own_feeds peers said early late =
    let P : List ℕ → Type 0 = λ name. peer_number peers name < length peers in
    let known = holds_at P (filter_map feed_name_of said) (names_known peers said late) in
    let apart = stand_kept (λ stand. Apart stand.feed_names) apart_next said early
    (λ i j x at other. cc) in
    record {
      within = λ i feed at.
          let one = name_at peers said i feed at in
          subst (λ n. n < length peers) (sym one.2) (known i one.0 one.1);
      own = λ i j a b at other same.
          let one = name_at peers said i a at in
          let two = name_at peers said j b other in
          let names : one.0 ≡ two.0 = one_name peers one.0 two.0 (known i one.0 one.1)
          (sym one.2 ∙ same ∙ two.2) in
          apart i j one.0 one.1 (two.1 ∙ ap (λ (name : List ℕ). Some name) (sym names));
    }

-- THE PEERS OF RANGES

-- A range behind a line without a fault is of a peer.
range_known : (peers : List Peer) (line : SaidLine) → unknown_fault peers (name_in line) ≡ None
    → All (λ (allow : Allow). allow.peer < length peers) (allows_of peers line)
range_known peers (Ok (AllowLine name ranges)) e =
    let known : peer_number peers name < length peers = by_name e in
    All-map (λ (allow : Allow). allow.peer < length peers) (allow_of peers name) ranges
    (λ k d less. known)
  where
    by_name : unknown_fault peers (Some name) ≡ None → peer_number peers name < length peers
    by_name none = grind (arith, nat_tests)
range_known peers line e = All-nil (λ (allow : Allow). allow.peer < length peers)

-- So is each range.
ranges_known : (peers : List Peer) (said : List SaidLine)
    → first_fault (late_fault peers) [] said ≡ None
    → All (λ (allow : Allow). allow.peer < length peers) (flat_map (allows_of peers) said)
ranges_known peers said none =
    listed_without_fault (late_fault peers) (λ (allow : Allow). allow.peer < length peers)
    (allows_of peers) (λ before line e. range_known peers line e) said none

-- WHAT IS SAID, OR STANDS WITHOUT A LINE

-- The connections of a peer are in their range, where those that are said are.
connections_ranged : (all : List PeerConnections)
    → All (λ (one : PeerConnections). (1 ≤ one.connections) × (one.connections ≤ 64)) all
    → (name : List ℕ) → (1 ≤ connections_for all name) × (connections_for all name ≤ 64)
connections_ranged [] each name = (omega arith, omega arith)
connections_ranged (one ∷ more) each name =
    let P : PeerConnections → Type 0 = λ (c : PeerConnections).
    (1 ≤ c.connections) × (c.connections ≤ 64) in
    cond_both (bytes_eq name one.name) _ _ (λ n. (1 ≤ n) × (n ≤ 64))
    (λ e. All-head P one more each)
    (λ e. connections_ranged more (All-tail P one more each) name)

-- The first of numbers, else another, is as each of them and the other are.
first_holds : (P : ℕ → Type 0) (other : ℕ) (numbers : List ℕ) → P other → All P numbers
    → P (first_or other numbers)
first_holds P other [] h all = h
first_holds P other (n ∷ more) h all = All-head P n more all

first_known : (P : ℕ → Type 0) (numbers : List ℕ) → All P numbers → ForSome (first_of numbers) P
first_known P [] all = λ n e. cc
first_known P (n ∷ more) all = λ m e. subst P (same_Some n m e) (All-head P n more all)

-- There is an address to listen on,
some_bind : (binds : List (List ℕ)) → 1 ≤ length (binds_or_each binds)
some_bind [] = omega arith
some_bind (first ∷ more) = omega arith

-- and where none stands twice, none does with that which stands without a line.
one_apart : (bind : List ℕ) → Apart (bind ∷ [])
one_apart bind zero zero x at other = refl
one_apart bind zero (suc j) x at other = cc
one_apart bind (suc i) j x at other = cc

each_apart : (binds : List (List ℕ)) → Apart binds → Apart (binds_or_each binds)
each_apart [] apart = one_apart each_address
each_apart (first ∷ more) apart = apart

first_own : (owns : List (List ℕ)) → no_own_fault owns ≡ None
    → All (λ own. IsTrue (is_agent own)) owns → IsTrue (is_agent (first_or [] owns))
first_own [] e all = cc
first_own (own ∷ more) e all = All-head (λ own. IsTrue (is_agent own)) own more all

-- Settings that lines say are sound.
pub relay_is_sound : (lines : List (List ℕ)) (settings : RelaySettings)
    → HasSettings lines settings → IsSoundRelay settings
relay_is_sound lines settings h =
    let said = h.said in
    let stand = stand_of said in
    let none = behind_trials (first_fault early_fault [] said) (no_own_fault stand.owns)
    (first_fault (late_fault stand.peers) [] said) (settings_of said) settings h.gives in
    let ranged = are_ranged lines said h.says in
    let feeds = own_feeds stand.peers said none.0 none.2 in
    let as_many = length-map stand.peers (connected stand.connections) in
    let octets = first_holds (λ n. (1 ≤ n) × (n ≤ 16777216)) 1000000 stand.sizes
    (omega arith, omega arith) ranged.sizes in
    let patience = first_holds (λ n. (1 ≤ n) × (n ≤ 86400)) 3600 stand.patiences
    (omega arith, omega arith) ranged.patiences in
    subst IsSoundRelay none.3
    (record {
      own = first_own stand.owns none.1 ranged.owns;
      identities = All-map (λ (peer : Peer). IsTrue (is_agent peer.identity))
          (connected stand.connections) stand.peers ranged.peers;
      few_peers = subst (λ n. n ≤ 1024) (sym as_many)
          (stand_kept (λ stand. length stand.peers ≤ 1024) few_joined said none.0 (lit≤ tt));
      connections = All-map (λ (peer : Peer). (1 ≤ peer.connections) × (peer.connections ≤ 64))
          (connected stand.connections) stand.peers (λ k d less.
          connections_ranged stand.connections ranged.connections (get_or stand.peers k d).name);
      rings = ranged.rings stand.peers;
      of_peers = λ k d less. subst (λ n. (get_or (settings_of said).feeds k d).peer < n)
          (sym as_many) (feeds.within k _ (slice_get-get_or (settings_of said).feeds k d less));
      own_feed = feeds.own;
      some_binds = some_bind stand.binds;
      apart_binds = each_apart stand.binds
          (stand_kept (λ stand. Apart stand.binds) binds_apart said none.0 (λ i j x at other. cc));
      bits = ranged.bits stand.peers;
      allows_of_peers = λ k d less. subst (λ n. (get_or (settings_of said).allows k d).peer < n)
          (sym as_many) (ranges_known stand.peers said none.2 k d less);
      some_octets = octets.0;
      most_octets = octets.1;
      cutoff = first_holds (λ n. n ≤ 4000000000) 864000 stand.cutoffs (omega arith)
          ranged.cutoffs;
      remember = first_known (λ n. n ≤ 4000000000) stand.remembers ranged.remembers;
      some_patience = patience.0;
      most_patience = patience.1;
      sync = first_known (λ n. (1 ≤ n) × (n ≤ 86400)) stand.syncs ranged.syncs;
      offers = first_known (λ n. (1 ≤ n) × (n ≤ 86400)) stand.offers ranged.offers;
    })
