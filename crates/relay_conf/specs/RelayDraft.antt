-- How far the lines of relay.conf are read. No public contract cites it.
use Rattle.std.specs.Prelude.{◌≡◌, ℕ, ◌+◌, ◌≤◌, List, [], ◌∷◌, ◌++◌, length, map, bytes_eq}
use Rattle.std.specs.Prelude.{filter_map, flat_map, unwrap_or, Option, None, Some, Result, Ok, Err}
use Rattle.std.specs.Prelude.{if◌then◌else◌, OnOk}
use Rattle.std.specs.List.{list_any}
use Rattle.std.specs.Option.{option_to_list}
use Rattle.std.specs.HashSet.{contains_text}
use Rattle.news_terms.specs.Pattern.{Marked}
use Rattle.relay_conf.specs.declared.faults.Fault.{Fault}
use Rattle.relay_conf.specs.declared.faults.Fault.TheVariants.{UnknownName}
use Rattle.relay_conf.specs.declared.faults.LineFault.{LineFault}
use Rattle.relay_conf.specs.declared.faults.Refusal.{Refusal}
use Rattle.relay_conf.specs.declared.hash_feeds.HashFeed.{HashFeed}
use Rattle.relay_conf.specs.declared.reach.Allow.{Allow}
use Rattle.relay_conf.specs.declared.reach.NamedAllow.{NamedAllow}
use Rattle.relay_conf.specs.declared.reach.Range.{Range}
use Rattle.relay_conf.specs.declared.relay.Peer.{Peer}
use Rattle.relay_conf.specs.declared.relay.Feed.{Feed}
use Rattle.relay_conf.specs.declared.relay.NamedFeed.{NamedFeed}
use Rattle.relay_conf.specs.declared.relay.NamedLine.{NamedLine}
use Rattle.relay_conf.specs.declared.relay.PeerConnections.{PeerConnections}
use Rattle.relay_conf.specs.declared.relay.RelayDraft.{RelayDraft}
use Rattle.relay_conf.specs.declared.settings.NewsLog.{NewsLog}
use Rattle.relay_conf.specs.Faults.{whole_fault, unless_fault}
use Rattle.relay_conf.specs.Drafts.{ReadingGives}
use Rattle.relay_conf.specs.RelayLines.{RelayLine, RawLine, SaidLine, RawSays, Skipped, Own}
use Rattle.relay_conf.specs.RelayLines.{MaxArticle, Cutoff, Remember, Patience, Sync, Offers, Bind}
use Rattle.relay_conf.specs.RelayLines.{Log, PeerLine, ConnectionsLine, AllowLine, FeedLine}
use Rattle.relay_conf.specs.Relay.{Stand, stand_of, connected, binds_or_each, line_fault}
use Rattle.relay_conf.specs.Relay.{peer_number, is_peer, allow_of, no_own_fault, RelaySettings}

-- what lines so far say
pub record Reading : Type 0 where
  pub own : Option (List ℕ)
  pub max_article : Option ℕ
  pub cutoff : Option ℕ
  pub remember : Option ℕ
  pub patience : Option ℕ
  pub sync : Option ℕ
  pub offers : Option ℕ
  pub log : Option NewsLog
  pub binds : List (List ℕ)
  pub peers : List Peer
  pub connections : List PeerConnections
  pub named : List NamedLine
  pub feeds : List NamedFeed
  pub allows : List NamedAllow

-- the draft as a reading
abbrev pub draft_view : RelayDraft → Reading
draft_view d =
    record {
      own = d.own;
      max_article = d.max_article;
      cutoff = d.cutoff;
      remember = d.remember;
      patience = d.patience;
      sync = d.sync;
      offers = d.offers;
      log = d.log;
      binds = d.binds.items;
      peers = d.peers.items;
      connections = d.connections.items;
      named = d.named.items;
      feeds = d.feeds.items;
      allows = d.allows.items;
    }

-- the reading of no lines
abbrev pub nothing : Reading
nothing =
    record {
      own = None;
      max_article = None;
      cutoff = None;
      remember = None;
      patience = None;
      sync = None;
      offers = None;
      log = None;
      binds = [];
      peers = [];
      connections = [];
      named = [];
      feeds = [];
      allows = [];
    }

-- the reading with other peers
abbrev pub with_peers : Reading → List Peer → Reading
with_peers r peers = record r { peers = peers }

-- what of a reading a further line may double
abbrev pub stand_view : Reading → Stand
stand_view r =
    record {
      owns = option_to_list r.own;
      sizes = option_to_list r.max_article;
      cutoffs = option_to_list r.cutoff;
      remembers = option_to_list r.remember;
      patiences = option_to_list r.patience;
      syncs = option_to_list r.sync;
      offers = option_to_list r.offers;
      logs = option_to_list r.log;
      binds = r.binds;
      peers = r.peers;
      connections = r.connections;
      feed_names = map (λ feed. feed.name) r.feeds;
    }

-- a range by the name of its peer
abbrev pub named_allow : (name : List ℕ) → Range → NamedAllow
named_allow name range = record { name = name; range = range }

-- the reading after a line of this number that has no fault
abbrev pub after_line : ℕ → Reading → RelayLine (List Marked) → Reading
after_line number r Skipped = r
after_line number r (Own identity) = record r { own = Some identity }
after_line number r (MaxArticle octets) = record r { max_article = Some octets }
after_line number r (Cutoff seconds) = record r { cutoff = Some seconds }
after_line number r (Remember seconds) = record r { remember = Some seconds }
after_line number r (Patience seconds) = record r { patience = Some seconds }
after_line number r (Sync seconds) = record r { sync = Some seconds }
after_line number r (Offers seconds) = record r { offers = Some seconds }
after_line number r (Log all path) = record r { log = Some (record { all = all; path = path }) }
after_line number r (Bind address) = record r { binds = r.binds ++ address ∷ [] }
after_line number r (PeerLine name identity port) =
    record r {
      peers = r.peers
          ++ record { name = name; identity = identity; port = port; connections = 1 } ∷ [];
    }
after_line number r (ConnectionsLine name connections) =
    record r {
      connections = r.connections ++ record { name = name; connections = connections } ∷ [];
      named = r.named ++ record { line = number; name = name } ∷ [];
    }
after_line number r (AllowLine name ranges) =
    record r {
      allows = r.allows ++ map (named_allow name) ranges;
      named = r.named ++ record { line = number; name = name } ∷ [];
    }
after_line number r (FeedLine name ring expression hash) =
    record r {
      feeds = r.feeds ++ record { name = name; ring = ring; expression = expression; hash = hash } ∷ [];
      named = r.named ++ record { line = number; name = name } ∷ [];
    }

-- what is wrong with a line behind a reading
abbrev pub fault_behind : Reading → SaidLine → Option Fault
fault_behind r said = line_fault (stand_view r) said

-- the answer is what a line of this number says behind a reading, unless memory ran out
abbrev pub RelayStep : ℕ → Reading → RawLine → (after : Reading) → Result (Unit {0}) Refusal
    → Type 0
RelayStep number r raw after result =
    ReadingGives (RawSays raw) fault_behind (after_line number) r after result

-- the set has just the names of the feeds
abbrev pub ListsFeeds : RelayDraft → Type 0
ListsFeeds d =
    (name : List ℕ)
    → contains_text d.feed_names name
    ≡ list_any (bytes_eq name) (map (λ feed. feed.name) d.feeds.items)

-- the other set has just the names of the peers whose connections are said
abbrev pub ListsConnections : RelayDraft → Type 0
ListsConnections d =
    (name : List ℕ)
    → contains_text d.connected_names name
    ≡ list_any (bytes_eq name) (map (λ one. one.name) d.connections.items)

-- the sets have just these names
abbrev pub Lists : RelayDraft → Type 0
Lists d = ListsFeeds d × ListsConnections d

-- a line of this number was added to a draft whose sets have the names they list: the answer is
-- what the line says, and the sets have them still
pub record AddsLine (number : ℕ) (raw : RawLine) (old after : RelayDraft)
    (result : Result (Unit {0}) Refusal)
    : Type 0 where
  pub step : RelayStep number (draft_view old) raw (draft_view after) result
  pub listed : OnOk result (Lists after)

-- a line of the connections of a peer is added
abbrev pub AddsConnections : ℕ → (name : List ℕ) (connections : ℕ) → (old after : RelayDraft)
    → Result (Unit {0}) Refusal → Type 0
AddsConnections number name connections old after result =
    Lists old → AddsLine number (Ok (ConnectionsLine name connections)) old after result

-- a line of the ranges of a peer is added
abbrev pub AddsAllow : ℕ → (name : List ℕ) (ranges : List Range) → (old after : RelayDraft)
    → Result (Unit {0}) Refusal → Type 0
AddsAllow number name ranges old after result =
    Lists old → AddsLine number (Ok (AllowLine name ranges)) old after result

-- a line of a feed is added
abbrev pub AddsFeed : ℕ → (name : List ℕ) (ring : ℕ) (text : List ℕ) (hash : Option HashFeed)
    → (old after : RelayDraft) → Result (Unit {0}) Refusal → Type 0
AddsFeed number name ring text hash old after result =
    Lists old → AddsLine number (Ok (FeedLine name ring text hash)) old after result

-- the feed that a line says, by the name of its peer
abbrev pub named_feed_of : SaidLine → Option NamedFeed
named_feed_of (Err fault) = None
named_feed_of (Ok Skipped) = None
named_feed_of (Ok (Own identity)) = None
named_feed_of (Ok (MaxArticle octets)) = None
named_feed_of (Ok (Cutoff seconds)) = None
named_feed_of (Ok (Remember seconds)) = None
named_feed_of (Ok (Patience seconds)) = None
named_feed_of (Ok (Sync seconds)) = None
named_feed_of (Ok (Offers seconds)) = None
named_feed_of (Ok (Log all path)) = None
named_feed_of (Ok (Bind address)) = None
named_feed_of (Ok (PeerLine name identity port)) = None
named_feed_of (Ok (ConnectionsLine name connections)) = None
named_feed_of (Ok (AllowLine name ranges)) = None
named_feed_of (Ok (FeedLine name ring expression hash)) =
    Some (record { name = name; ring = ring; expression = expression; hash = hash })

-- the ranges that a line says, by the name of their peer
abbrev pub named_allows_of : SaidLine → List NamedAllow
named_allows_of (Err fault) = []
named_allows_of (Ok Skipped) = []
named_allows_of (Ok (Own identity)) = []
named_allows_of (Ok (MaxArticle octets)) = []
named_allows_of (Ok (Cutoff seconds)) = []
named_allows_of (Ok (Remember seconds)) = []
named_allows_of (Ok (Patience seconds)) = []
named_allows_of (Ok (Sync seconds)) = []
named_allows_of (Ok (Offers seconds)) = []
named_allows_of (Ok (Log all path)) = []
named_allows_of (Ok (Bind address)) = []
named_allows_of (Ok (PeerLine name identity port)) = []
named_allows_of (Ok (ConnectionsLine name connections)) = []
named_allows_of (Ok (AllowLine name ranges)) = map (named_allow name) ranges
named_allows_of (Ok (FeedLine name ring expression hash)) = []

-- the name of a peer that a line of this number says something of
abbrev pub named_of : ℕ → SaidLine → Option NamedLine
named_of number (Err fault) = None
named_of number (Ok Skipped) = None
named_of number (Ok (Own identity)) = None
named_of number (Ok (MaxArticle octets)) = None
named_of number (Ok (Cutoff seconds)) = None
named_of number (Ok (Remember seconds)) = None
named_of number (Ok (Patience seconds)) = None
named_of number (Ok (Sync seconds)) = None
named_of number (Ok (Offers seconds)) = None
named_of number (Ok (Log all path)) = None
named_of number (Ok (Bind address)) = None
named_of number (Ok (PeerLine name identity port)) = None
named_of number (Ok (ConnectionsLine name connections)) =
    Some (record { line = number; name = name })
named_of number (Ok (AllowLine name ranges)) = Some (record { line = number; name = name })
named_of number (Ok (FeedLine name ring expression hash)) =
    Some (record { line = number; name = name })

-- the names of peers that lines from this number on say something of
abbrev pub named_from : ℕ → List SaidLine → List NamedLine
named_from number [] = []
named_from number (line ∷ more) =
    option_to_list (named_of number line) ++ named_from (number + 1) more

-- a reading is that of these lines
pub record IsReadingOf (said : List SaidLine) (r : Reading) : Type 0 where
  pub stand : stand_view r ≡ stand_of said
  pub feeds : r.feeds ≡ filter_map named_feed_of said
  pub allows : r.allows ≡ flat_map named_allows_of said
  pub named : r.named ≡ named_from 1 said
  pub few : length r.peers ≤ 1024

-- a draft is that of these lines
pub record IsDraftOf (said : List SaidLine) (d : RelayDraft) : Type 0 where
  pub reading : IsReadingOf said (draft_view d)
  pub listed : Lists d

-- the first line that says something of no peer
abbrev pub first_unknown : List Peer → List NamedLine → Option LineFault
first_unknown peers [] = None
first_unknown peers (one ∷ more) =
    if is_peer peers one.name then first_unknown peers more
    else Some (record { line = one.line; fault = UnknownName })

-- nothing, or the first line that says something of no peer
abbrev pub named_said : List Peer → List NamedLine → Result (Unit {0}) LineFault
named_said peers named = unless_fault (first_unknown peers named) (Ok tt)

-- a feed by the number of its peer
abbrev pub numbered_feed : List Peer → NamedFeed → Feed
numbered_feed peers feed =
    record {
      peer = peer_number peers feed.name;
      ring = feed.ring;
      expression = feed.expression;
      hash = feed.hash;
    }

-- a range by the number of its peer
abbrev pub numbered_allow : List Peer → NamedAllow → Allow
numbered_allow peers allow = allow_of peers allow.name allow.range

-- the settings of a reading
abbrev pub reading_settings : Reading → RelaySettings
reading_settings r =
    record {
      own = unwrap_or r.own [];
      max_article = unwrap_or r.max_article 1000000;
      cutoff = unwrap_or r.cutoff 864000;
      remember = r.remember;
      patience = unwrap_or r.patience 3600;
      sync = r.sync;
      offers = r.offers;
      log = r.log;
      binds = binds_or_each r.binds;
      peers = map (connected r.connections) r.peers;
      feeds = map (numbered_feed r.peers) r.feeds;
      allows = map (numbered_allow r.peers) r.allows;
    }

-- what a reading without early fault says
abbrev pub draft_said : Reading → Result RelaySettings LineFault
draft_said r =
    unless_fault (whole_fault (no_own_fault (option_to_list r.own)))
    (unless_fault (first_unknown r.peers r.named) (Ok (reading_settings r)))
