-- relay.conf: what its lines say together.
use Rattle.std.specs.Prelude.{ℕ, nat_le, nat_lt, Bool, List, [], ◌∷◌, length, map, filter_map}
use Rattle.std.specs.Prelude.{flat_map}
use Rattle.std.specs.Prelude.{bytes_eq, Option, None, Some, Result, Ok, Err, if◌then◌else◌}
use Rattle.std.specs.List.{list_any, position_or_len}
use Rattle.relay_conf.specs.declared.faults.Fault.{Fault}
use Rattle.relay_conf.specs.declared.faults.Fault.TheVariants.{Syntax, Duplicate, UnknownName}
use Rattle.relay_conf.specs.declared.faults.Fault.TheVariants.{Number}
use Rattle.relay_conf.specs.declared.faults.LineFault.{LineFault}
use Rattle.relay_conf.specs.declared.relay.Peer.{Peer}
use Rattle.relay_conf.specs.declared.relay.Feed.{Feed}
use Rattle.relay_conf.specs.declared.relay.PeerConnections.{PeerConnections}
use Rattle.relay_conf.specs.declared.reach.Allow.{Allow}
use Rattle.relay_conf.specs.declared.reach.Range.{Range}
use Rattle.relay_conf.specs.declared.settings.NewsLog.{NewsLog}
use Rattle.relay_conf.specs.Faults.{first_fault, whole_fault, unless_fault}
use Rattle.relay_conf.specs.RelayLines.{SaidLine, Skipped, Own, MaxArticle, Cutoff, Remember}
use Rattle.relay_conf.specs.RelayLines.{Patience, Sync, Offers, Bind, PeerLine, ConnectionsLine}
use Rattle.relay_conf.specs.RelayLines.{Log, AllowLine}
use Rattle.relay_conf.specs.RelayLines.{FeedLine, mapped}

-- the own identity that a line says
abbrev pub own_of : SaidLine → Option (List ℕ)
own_of (Err fault) = None
own_of (Ok Skipped) = None
own_of (Ok (Own identity)) = Some identity
own_of (Ok (MaxArticle octets)) = None
own_of (Ok (Cutoff seconds)) = None
own_of (Ok (Remember seconds)) = None
own_of (Ok (Patience seconds)) = None
own_of (Ok (Sync seconds)) = None
own_of (Ok (Offers seconds)) = None
own_of (Ok (Log all path)) = None
own_of (Ok (Bind address)) = None
own_of (Ok (PeerLine name identity port)) = None
own_of (Ok (ConnectionsLine name connections)) = None
own_of (Ok (AllowLine name ranges)) = None
own_of (Ok (FeedLine name ring expression hash)) = None

-- the largest article that a line says
abbrev pub max_article_of : SaidLine → Option ℕ
max_article_of (Err fault) = None
max_article_of (Ok Skipped) = None
max_article_of (Ok (Own identity)) = None
max_article_of (Ok (MaxArticle octets)) = Some octets
max_article_of (Ok (Cutoff seconds)) = None
max_article_of (Ok (Remember seconds)) = None
max_article_of (Ok (Patience seconds)) = None
max_article_of (Ok (Sync seconds)) = None
max_article_of (Ok (Offers seconds)) = None
max_article_of (Ok (Log all path)) = None
max_article_of (Ok (Bind address)) = None
max_article_of (Ok (PeerLine name identity port)) = None
max_article_of (Ok (ConnectionsLine name connections)) = None
max_article_of (Ok (AllowLine name ranges)) = None
max_article_of (Ok (FeedLine name ring expression hash)) = None

-- the cutoff that a line says
abbrev pub cutoff_of : SaidLine → Option ℕ
cutoff_of (Err fault) = None
cutoff_of (Ok Skipped) = None
cutoff_of (Ok (Own identity)) = None
cutoff_of (Ok (MaxArticle octets)) = None
cutoff_of (Ok (Cutoff seconds)) = Some seconds
cutoff_of (Ok (Remember seconds)) = None
cutoff_of (Ok (Patience seconds)) = None
cutoff_of (Ok (Sync seconds)) = None
cutoff_of (Ok (Offers seconds)) = None
cutoff_of (Ok (Log all path)) = None
cutoff_of (Ok (Bind address)) = None
cutoff_of (Ok (PeerLine name identity port)) = None
cutoff_of (Ok (ConnectionsLine name connections)) = None
cutoff_of (Ok (AllowLine name ranges)) = None
cutoff_of (Ok (FeedLine name ring expression hash)) = None

-- how long a line says that ids are remembered
abbrev pub remember_of : SaidLine → Option ℕ
remember_of (Err fault) = None
remember_of (Ok Skipped) = None
remember_of (Ok (Own identity)) = None
remember_of (Ok (MaxArticle octets)) = None
remember_of (Ok (Cutoff seconds)) = None
remember_of (Ok (Remember seconds)) = Some seconds
remember_of (Ok (Patience seconds)) = None
remember_of (Ok (Sync seconds)) = None
remember_of (Ok (Offers seconds)) = None
remember_of (Ok (Log all path)) = None
remember_of (Ok (Bind address)) = None
remember_of (Ok (PeerLine name identity port)) = None
remember_of (Ok (ConnectionsLine name connections)) = None
remember_of (Ok (AllowLine name ranges)) = None
remember_of (Ok (FeedLine name ring expression hash)) = None

-- how long a line says that a silent peer is waited for
abbrev pub patience_of : SaidLine → Option ℕ
patience_of (Err fault) = None
patience_of (Ok Skipped) = None
patience_of (Ok (Own identity)) = None
patience_of (Ok (MaxArticle octets)) = None
patience_of (Ok (Cutoff seconds)) = None
patience_of (Ok (Remember seconds)) = None
patience_of (Ok (Patience seconds)) = Some seconds
patience_of (Ok (Sync seconds)) = None
patience_of (Ok (Offers seconds)) = None
patience_of (Ok (Log all path)) = None
patience_of (Ok (Bind address)) = None
patience_of (Ok (PeerLine name identity port)) = None
patience_of (Ok (ConnectionsLine name connections)) = None
patience_of (Ok (AllowLine name ranges)) = None
patience_of (Ok (FeedLine name ring expression hash)) = None

-- how often a line says that files are flushed
abbrev pub sync_of : SaidLine → Option ℕ
sync_of (Err fault) = None
sync_of (Ok Skipped) = None
sync_of (Ok (Own identity)) = None
sync_of (Ok (MaxArticle octets)) = None
sync_of (Ok (Cutoff seconds)) = None
sync_of (Ok (Remember seconds)) = None
sync_of (Ok (Patience seconds)) = None
sync_of (Ok (Sync seconds)) = Some seconds
sync_of (Ok (Offers seconds)) = None
sync_of (Ok (Log all path)) = None
sync_of (Ok (Bind address)) = None
sync_of (Ok (PeerLine name identity port)) = None
sync_of (Ok (ConnectionsLine name connections)) = None
sync_of (Ok (AllowLine name ranges)) = None
sync_of (Ok (FeedLine name ring expression hash)) = None

-- after how long a line says that an offer runs out
abbrev pub offers_of : SaidLine → Option ℕ
offers_of (Err fault) = None
offers_of (Ok Skipped) = None
offers_of (Ok (Own identity)) = None
offers_of (Ok (MaxArticle octets)) = None
offers_of (Ok (Cutoff seconds)) = None
offers_of (Ok (Remember seconds)) = None
offers_of (Ok (Patience seconds)) = None
offers_of (Ok (Sync seconds)) = None
offers_of (Ok (Offers seconds)) = Some seconds
offers_of (Ok (Log all path)) = None
offers_of (Ok (Bind address)) = None
offers_of (Ok (PeerLine name identity port)) = None
offers_of (Ok (ConnectionsLine name connections)) = None
offers_of (Ok (AllowLine name ranges)) = None
offers_of (Ok (FeedLine name ring expression hash)) = None

-- the news log that a line says
abbrev pub log_of : SaidLine → Option NewsLog
log_of (Err fault) = None
log_of (Ok Skipped) = None
log_of (Ok (Own identity)) = None
log_of (Ok (MaxArticle octets)) = None
log_of (Ok (Cutoff seconds)) = None
log_of (Ok (Remember seconds)) = None
log_of (Ok (Patience seconds)) = None
log_of (Ok (Sync seconds)) = None
log_of (Ok (Offers seconds)) = None
log_of (Ok (Log all path)) = Some (record { all = all; path = path })
log_of (Ok (Bind address)) = None
log_of (Ok (PeerLine name identity port)) = None
log_of (Ok (ConnectionsLine name connections)) = None
log_of (Ok (AllowLine name ranges)) = None
log_of (Ok (FeedLine name ring expression hash)) = None

-- the address to listen on that a line says
abbrev pub bind_of : SaidLine → Option (List ℕ)
bind_of (Err fault) = None
bind_of (Ok Skipped) = None
bind_of (Ok (Own identity)) = None
bind_of (Ok (MaxArticle octets)) = None
bind_of (Ok (Cutoff seconds)) = None
bind_of (Ok (Remember seconds)) = None
bind_of (Ok (Patience seconds)) = None
bind_of (Ok (Sync seconds)) = None
bind_of (Ok (Offers seconds)) = None
bind_of (Ok (Log all path)) = None
bind_of (Ok (Bind address)) = Some address
bind_of (Ok (PeerLine name identity port)) = None
bind_of (Ok (ConnectionsLine name connections)) = None
bind_of (Ok (AllowLine name ranges)) = None
bind_of (Ok (FeedLine name ring expression hash)) = None

-- the peer that a line says, with one connection
abbrev pub peer_of : SaidLine → Option Peer
peer_of (Err fault) = None
peer_of (Ok Skipped) = None
peer_of (Ok (Own identity)) = None
peer_of (Ok (MaxArticle octets)) = None
peer_of (Ok (Cutoff seconds)) = None
peer_of (Ok (Remember seconds)) = None
peer_of (Ok (Patience seconds)) = None
peer_of (Ok (Sync seconds)) = None
peer_of (Ok (Offers seconds)) = None
peer_of (Ok (Log all path)) = None
peer_of (Ok (Bind address)) = None
peer_of (Ok (PeerLine name identity port)) =
    Some (record { name = name; identity = identity; port = port; connections = 1 })
peer_of (Ok (ConnectionsLine name connections)) = None
peer_of (Ok (AllowLine name ranges)) = None
peer_of (Ok (FeedLine name ring expression hash)) = None

-- the connections that a line says, by the name of their peer
abbrev pub connections_of : SaidLine → Option PeerConnections
connections_of (Err fault) = None
connections_of (Ok Skipped) = None
connections_of (Ok (Own identity)) = None
connections_of (Ok (MaxArticle octets)) = None
connections_of (Ok (Cutoff seconds)) = None
connections_of (Ok (Remember seconds)) = None
connections_of (Ok (Patience seconds)) = None
connections_of (Ok (Sync seconds)) = None
connections_of (Ok (Offers seconds)) = None
connections_of (Ok (Log all path)) = None
connections_of (Ok (Bind address)) = None
connections_of (Ok (PeerLine name identity port)) = None
connections_of (Ok (ConnectionsLine name connections)) =
    Some (record { name = name; connections = connections })
connections_of (Ok (AllowLine name ranges)) = None
connections_of (Ok (FeedLine name ring expression hash)) = None

-- the name of the peer whose feed a line says
abbrev pub feed_name_of : SaidLine → Option (List ℕ)
feed_name_of (Err fault) = None
feed_name_of (Ok Skipped) = None
feed_name_of (Ok (Own identity)) = None
feed_name_of (Ok (MaxArticle octets)) = None
feed_name_of (Ok (Cutoff seconds)) = None
feed_name_of (Ok (Remember seconds)) = None
feed_name_of (Ok (Patience seconds)) = None
feed_name_of (Ok (Sync seconds)) = None
feed_name_of (Ok (Offers seconds)) = None
feed_name_of (Ok (Log all path)) = None
feed_name_of (Ok (Bind address)) = None
feed_name_of (Ok (PeerLine name identity port)) = None
feed_name_of (Ok (ConnectionsLine name connections)) = None
feed_name_of (Ok (AllowLine name ranges)) = None
feed_name_of (Ok (FeedLine name ring expression hash)) = Some name

-- the name of a peer that a line says something of: its connections, who may connect, or its feed
abbrev pub name_in : SaidLine → Option (List ℕ)
name_in (Err fault) = None
name_in (Ok Skipped) = None
name_in (Ok (Own identity)) = None
name_in (Ok (MaxArticle octets)) = None
name_in (Ok (Cutoff seconds)) = None
name_in (Ok (Remember seconds)) = None
name_in (Ok (Patience seconds)) = None
name_in (Ok (Sync seconds)) = None
name_in (Ok (Offers seconds)) = None
name_in (Ok (Log all path)) = None
name_in (Ok (Bind address)) = None
name_in (Ok (PeerLine name identity port)) = None
name_in (Ok (ConnectionsLine name connections)) = Some name
name_in (Ok (AllowLine name ranges)) = Some name
name_in (Ok (FeedLine name ring expression hash)) = Some name

-- the number of the peer of a name: how many stand before the first of that name (docs/FORMATS.md,
-- Configuration)
abbrev pub peer_number : List Peer → (name : List ℕ) → ℕ
peer_number peers name = position_or_len (λ peer. bytes_eq name peer.name) peers

-- a peer has this name (docs/FORMATS.md, Configuration)
abbrev pub is_peer : List Peer → (name : List ℕ) → Bool
is_peer peers name = nat_lt (peer_number peers name) (length peers)

-- the feed that a line says, over these peers (docs/FORMATS.md, Configuration)
abbrev pub feed_of : List Peer → SaidLine → Option Feed
feed_of peers (Err fault) = None
feed_of peers (Ok Skipped) = None
feed_of peers (Ok (Own identity)) = None
feed_of peers (Ok (MaxArticle octets)) = None
feed_of peers (Ok (Cutoff seconds)) = None
feed_of peers (Ok (Remember seconds)) = None
feed_of peers (Ok (Patience seconds)) = None
feed_of peers (Ok (Sync seconds)) = None
feed_of peers (Ok (Offers seconds)) = None
feed_of peers (Ok (Log all path)) = None
feed_of peers (Ok (Bind address)) = None
feed_of peers (Ok (PeerLine name identity port)) = None
feed_of peers (Ok (ConnectionsLine name connections)) = None
feed_of peers (Ok (AllowLine name ranges)) = None
feed_of peers (Ok (FeedLine name ring expression hash)) =
    Some (record {
      peer = peer_number peers name;
      ring = ring;
      expression = expression;
      hash = hash;
    })

-- a range of the peer of a name, over these peers (docs/FORMATS.md, Configuration)
abbrev pub allow_of : List Peer → (name : List ℕ) → Range → Allow
allow_of peers name range = record { peer = peer_number peers name; range = range }

-- the ranges of addresses that a line says, over these peers (docs/FORMATS.md, Configuration)
abbrev pub allows_of : List Peer → SaidLine → List Allow
allows_of peers (Err fault) = []
allows_of peers (Ok Skipped) = []
allows_of peers (Ok (Own identity)) = []
allows_of peers (Ok (MaxArticle octets)) = []
allows_of peers (Ok (Cutoff seconds)) = []
allows_of peers (Ok (Remember seconds)) = []
allows_of peers (Ok (Patience seconds)) = []
allows_of peers (Ok (Sync seconds)) = []
allows_of peers (Ok (Offers seconds)) = []
allows_of peers (Ok (Log all path)) = []
allows_of peers (Ok (Bind address)) = []
allows_of peers (Ok (PeerLine name identity port)) = []
allows_of peers (Ok (ConnectionsLine name connections)) = []
allows_of peers (Ok (AllowLine name ranges)) = map (allow_of peers name) ranges
allows_of peers (Ok (FeedLine name ring expression hash)) = []

-- what lines say that a further line may double
pub record Stand : Type 0 where
  pub owns : List (List ℕ)
  pub sizes : List ℕ
  pub cutoffs : List ℕ
  pub remembers : List ℕ
  pub patiences : List ℕ
  pub syncs : List ℕ
  pub offers : List ℕ
  pub logs : List NewsLog
  pub binds : List (List ℕ)
  pub peers : List Peer
  pub connections : List PeerConnections
  pub feed_names : List (List ℕ)

-- the same of these lines
abbrev pub stand_of : List SaidLine → Stand
stand_of said =
    record {
      owns = filter_map own_of said;
      sizes = filter_map max_article_of said;
      cutoffs = filter_map cutoff_of said;
      remembers = filter_map remember_of said;
      patiences = filter_map patience_of said;
      syncs = filter_map sync_of said;
      offers = filter_map offers_of said;
      logs = filter_map log_of said;
      binds = filter_map bind_of said;
      peers = filter_map peer_of said;
      connections = filter_map connections_of said;
      feed_names = filter_map feed_name_of said;
    }

-- a key that stands once may not stand again (docs/FORMATS.md, Configuration)
abbrev pub once : {X : Type 0} → List X → Option Fault
once [] = None
once (first ∷ more) = Some Duplicate

-- one peer more: at most 1,024, and no name twice (docs/FORMATS.md, Configuration)
abbrev pub peer_fault : List Peer → (name : List ℕ) → Option Fault
peer_fault peers name =
    if nat_le 1024 (length peers) then Some Number
    else if is_peer peers name then Some Duplicate
    else None

-- one more of what may stand once each: the name of a peer in lines of its feed, and in those of
-- its connections, and an address to listen on (docs/FORMATS.md, Configuration)
abbrev pub again_fault : (names : List (List ℕ)) → (name : List ℕ) → Option Fault
again_fault names name = if list_any (bytes_eq name) names then Some Duplicate else None

-- what is wrong with a line behind what stands, looked for line by line (docs/FORMATS.md,
-- Configuration)
abbrev pub line_fault : Stand → SaidLine → Option Fault
line_fault stand (Err fault) = Some fault
line_fault stand (Ok Skipped) = None
line_fault stand (Ok (Own identity)) = once stand.owns
line_fault stand (Ok (MaxArticle octets)) = once stand.sizes
line_fault stand (Ok (Cutoff seconds)) = once stand.cutoffs
line_fault stand (Ok (Remember seconds)) = once stand.remembers
line_fault stand (Ok (Patience seconds)) = once stand.patiences
line_fault stand (Ok (Sync seconds)) = once stand.syncs
line_fault stand (Ok (Offers seconds)) = once stand.offers
line_fault stand (Ok (Log all path)) = once stand.logs
line_fault stand (Ok (Bind address)) = again_fault stand.binds address
line_fault stand (Ok (PeerLine name identity port)) = peer_fault stand.peers name
line_fault stand (Ok (ConnectionsLine name connections)) =
    again_fault (map (λ one. one.name) stand.connections) name
line_fault stand (Ok (AllowLine name ranges)) = None
line_fault stand (Ok (FeedLine name ring expression hash)) = again_fault stand.feed_names name

-- the same behind the lines before it (docs/FORMATS.md, Configuration)
abbrev pub early_fault : (before : List SaidLine) → SaidLine → Option Fault
early_fault before line = line_fault (stand_of before) line

-- a feed, a number of connections, or ranges of addresses, of no peer (docs/FORMATS.md,
-- Configuration)
abbrev pub unknown_fault : List Peer → Option (List ℕ) → Option Fault
unknown_fault peers None = None
unknown_fault peers (Some name) = if is_peer peers name then None else Some UnknownName

-- what is wrong with a line, looked for after the last line (docs/FORMATS.md, Configuration)
abbrev pub late_fault : List Peer → (before : List SaidLine) → SaidLine → Option Fault
late_fault peers before line = unknown_fault peers (name_in line)

-- a file without `own` (docs/FORMATS.md, Configuration)
abbrev pub no_own_fault : (owns : List (List ℕ)) → Option Fault
no_own_fault [] = Some Syntax
no_own_fault (own ∷ more) = None

-- the first of these, else what stands without one
abbrev pub first_or : {X : Type 0} → X → List X → X
first_or other [] = other
first_or other (x ∷ more) = x

-- the first of these, where there is one
abbrev pub first_of : {X : Type 0} → List X → Option X
first_of [] = None
first_of (x ∷ more) = Some x

-- what relay.conf says (docs/FORMATS.md, Configuration)
pub record RelaySettings : Type 0 where
  pub own : List ℕ
  pub max_article : ℕ
  pub cutoff : ℕ
  pub remember : Option ℕ
  pub patience : ℕ
  pub sync : Option ℕ
  pub offers : Option ℕ
  pub log : Option NewsLog
  pub binds : List (List ℕ)
  pub peers : List Peer
  pub feeds : List Feed
  pub allows : List Allow

-- the connections of the peer of a name: what the first of these says that is of it, else one
-- (docs/FORMATS.md, Configuration)
abbrev pub connections_for : List PeerConnections → (name : List ℕ) → ℕ
connections_for [] name = 1
connections_for (one ∷ more) name =
    if bytes_eq name one.name then one.connections else connections_for more name

-- a peer with its connections (docs/FORMATS.md, Configuration)
abbrev pub connected : List PeerConnections → Peer → Peer
connected all peer =
    record {
      name = peer.name;
      identity = peer.identity;
      port = peer.port;
      connections = connections_for all peer.name;
    }

-- the address without `bind`, 0.0.0.0, which stands for all IPv4 addresses of the machine
-- (docs/FORMATS.md, Configuration)
abbrev pub each_address : List ℕ
each_address = mapped (0 ∷ 0 ∷ 0 ∷ 0 ∷ [])

-- the addresses to listen on: those that lines say, in their order, else that without `bind`
-- (docs/FORMATS.md, Configuration)
abbrev pub binds_or_each : (said : List (List ℕ)) → List (List ℕ)
binds_or_each [] = each_address ∷ []
binds_or_each (first ∷ more) = first ∷ more

-- the settings that lines without fault say (docs/FORMATS.md, Configuration)
abbrev pub settings_of : List SaidLine → RelaySettings
settings_of said =
    record {
      own = first_or [] (stand_of said).owns;
      max_article = first_or 1000000 (stand_of said).sizes;
      cutoff = first_or 864000 (stand_of said).cutoffs;
      remember = first_of (stand_of said).remembers;
      patience = first_or 3600 (stand_of said).patiences;
      sync = first_of (stand_of said).syncs;
      offers = first_of (stand_of said).offers;
      log = first_of (stand_of said).logs;
      binds = binds_or_each (stand_of said).binds;
      peers = map (connected (stand_of said).connections) (stand_of said).peers;
      feeds = filter_map (feed_of (stand_of said).peers) said;
      allows = flat_map (allows_of (stand_of said).peers) said;
    }

-- what lines say together: the first fault of a line, else that of the whole file, else the first
-- that is looked for after the last line, else the settings (docs/FORMATS.md, Configuration)
abbrev pub relay_said : List SaidLine → Result RelaySettings LineFault
relay_said said =
    unless_fault (first_fault early_fault [] said)
    (unless_fault (whole_fault (no_own_fault (stand_of said).owns))
    (unless_fault (first_fault (late_fault (stand_of said).peers) [] said)
    (Ok (settings_of said))))
