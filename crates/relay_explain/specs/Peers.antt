-- What is told of the peers and the feeds of relay.conf.
use Rattle.std.specs.Prelude.{ℕ, ◌-◌, ◌==◌, ◌&&◌, Bool, false, List, [], ◌++◌, codes, decimal}
use Rattle.std.specs.Prelude.{find, flat_map, take}
use Rattle.std.specs.Prelude.{bytes_eq, slice_get, Option, Some, None, option_map}
use Rattle.std.specs.Prelude.{if◌then◌else◌}
use Rattle.std.specs.List.{enumerate_from}
use Rattle.relay_conf.specs.Reach.{has_allow}
use Rattle.relay_conf.specs.declared.hash_feeds.HashFeed.{HashFeed}
use Rattle.relay_conf.specs.declared.relay.Feed.{Feed}
use Rattle.relay_conf.specs.declared.relay.Peer.{Peer}
use Rattle.relay_conf.specs.declared.settings.Relay.{Relay}
use Rattle.relay_explain.specs.Callers.{anyone_text, callers_text}
use Rattle.relay_explain.specs.Lines.{line_at, odd_line, peer_line, shared_line, told_line}
use Rattle.relay_explain.specs.Lines.{words_in}
use Rattle.relay_explain.specs.Patterns.{pattern_odds}
use Rattle.relay_explain.specs.Settings.{relay_conf}

-- where a peer is served, how many of its connections at once, and from where where none of its
-- ranges is said
unfoldable pub port_text : (has_ranges : Bool) → Peer → List ℕ
port_text has_ranges peer =
    if peer.port == 0 then codes "no port: it isn't served"
    else codes "port " ++ decimal peer.port ++ codes ", connections at once: "
    ++ decimal peer.connections ++ anyone_text has_ranges

-- `peer p1, identity one.example, port 1119, connections at once: 4, from any address`
unfoldable pub peer_told : Relay → (number : ℕ) → Peer → List ℕ
peer_told relay number peer =
    codes "peer " ++ peer.name ++ codes ", identity " ++ peer.identity ++ codes ", "
    ++ port_text (has_allow relay.allows.items number) peer

-- the name of the first peer, of these, that has this port
unfoldable pub first_of_port : (port : ℕ) → List Peer → Option (List ℕ)
first_of_port port peers =
    option_map (λ other. other.name) (find (λ other. other.port == port) peers)

-- the name of the first peer, of these, that is served on this port; on port 0 none is
unfoldable pub first_on : (port : ℕ) → List Peer → Option (List ℕ)
first_on port peers =
    if port == 0 then None else first_of_port port peers

-- the name of the first peer, of these, that has this identity
unfoldable pub first_known_as : (identity : List ℕ) → List Peer → Option (List ℕ)
first_known_as identity peers =
    option_map (λ other. other.name) (find (λ other. bytes_eq other.identity identity) peers)

-- what is odd in a peer of this number: an earlier one has its port, an earlier one has its
-- identity, the relay has it
unfoldable pub peer_odds : Relay → (line number : ℕ) → Peer → List ℕ
peer_odds relay line number peer =
    shared_line relay_conf line
    (codes "the port is taken: no start serves it beside that of peer ")
    (first_on peer.port (take number relay.peers.items))
    ++ shared_line relay_conf line (codes "the identity is that of peer ")
    (first_known_as peer.identity (take number relay.peers.items))
    ++ odd_line (bytes_eq peer.identity relay.own) relay_conf line
    (codes "the identity is the relay's own")

-- what is told of a peer of this number
abbrev pub peer_text : Relay → (lines : List (List ℕ)) → ℕ × Peer → List ℕ
peer_text relay lines one =
    let line = peer_line (codes "peer") one.1.name lines in
    told_line relay_conf line (peer_told relay one.0 one.1) ++ peer_odds relay line one.0 one.1
    ++ callers_text relay lines one.0 one.1

-- what is told of all peers
unfoldable pub peers_text : Relay → (lines : List (List ℕ)) → List ℕ
peers_text relay lines = flat_map (peer_text relay lines) (enumerate_from 0 relay.peers.items)

-- the name of a peer; one that isn't there has none
abbrev pub name_of : Option Peer → List ℕ
name_of None = []
name_of (Some peer) = peer.name

-- the port of a peer; one that isn't there has none, as port 0 is none
abbrev pub port_of : Option Peer → ℕ
port_of None = 0
port_of (Some peer) = peer.port

-- the text of the expression that a line of a feed has: its fourth word
abbrev pub newsgroups_on : List ℕ → List ℕ
newsgroups_on line = line_at 3 (words_in line)

-- the text of the expression that the line of a feed of this number, counted from 1, has
unfoldable pub newsgroups_at : (line : ℕ) → (lines : List (List ℕ)) → List ℕ
newsgroups_at line lines = newsgroups_on (line_at (line - 1) lines)

-- which of these articles a feed may have, where not each: `, of their articles those of hash 1-1/2`
abbrev pub hash_told : Option HashFeed → List ℕ
hash_told None = []
hash_told (Some hash) =
    codes ", of their articles those of hash " ++ decimal hash.first ++ codes "-"
    ++ decimal hash.last ++ codes "/" ++ decimal hash.parts

-- the part is of all articles
abbrev pub is_whole : Option HashFeed → Bool
is_whole None = false
is_whole (Some hash) = hash.first == 1 && hash.last == hash.parts

-- `feed of p2: newsgroups *, tokens that wait at most: 2`; a part stands behind the newsgroups
unfoldable pub feed_told : (name newsgroups : List ℕ) → (hash : Option HashFeed) → (ring : ℕ)
    → List ℕ
feed_told name newsgroups hash ring =
    codes "feed of " ++ name ++ codes ": newsgroups " ++ newsgroups ++ hash_told hash
    ++ codes ", tokens that wait at most: " ++ decimal ring

-- what is told of a feed of this peer, which this line says with these newsgroups
unfoldable pub feed_told_on : (line : ℕ) → (newsgroups : List ℕ) → Option Peer → Feed → List ℕ
feed_told_on line newsgroups peer feed =
    told_line relay_conf line (feed_told (name_of peer) newsgroups feed.hash feed.ring)
    ++ pattern_odds relay_conf line newsgroups
    ++ odd_line (port_of peer == 0) relay_conf line
    (codes "the peer has no port, so nobody takes the feed")
    ++ odd_line (feed.ring == 1) relay_conf line
    (codes "of a ring of 1 only the newest token is ever there")
    ++ odd_line (is_whole feed.hash) relay_conf line
    (codes "the hash leaves out no article")

-- what is told of a feed
abbrev pub feed_text : Relay → (lines : List (List ℕ)) → Feed → List ℕ
feed_text relay lines feed =
    let peer = slice_get relay.peers.items feed.peer in
    let line = peer_line (codes "feed") (name_of peer) lines in
    feed_told_on line (newsgroups_at line lines) peer feed

-- what is told of all feeds
unfoldable pub feeds_text : Relay → (lines : List (List ℕ)) → List ℕ
feeds_text relay lines = flat_map (feed_text relay lines) relay.feeds.items
