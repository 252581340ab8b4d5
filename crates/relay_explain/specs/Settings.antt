-- What is told of the settings of relay.conf that are of the relay itself.
use Rattle.std.specs.Prelude.{ℕ, ◌+◌, Bool, List, [], ◌∷◌, ◌++◌, bytes_eq, codes, decimal, drop}
use Rattle.std.specs.Prelude.{flat_map, length, nat_le, nat_lt, take}
use Rattle.std.specs.Prelude.{Option, Some, None, if◌then◌else◌}
use Rattle.std.specs.Net.Addr.{octets_of, segments_of}
use Rattle.std.specs.Net.Text.{ipv4_text, ipv6_text}
use Rattle.relay_conf.specs.declared.settings.NewsLog.{NewsLog}
use Rattle.relay_conf.specs.declared.settings.Relay.{Relay}
use Rattle.relay_explain.specs.Lines.{key_line, odd_line, told_line}

-- the file in which the relay and its peers are said
abbrev pub relay_conf : List ℕ
relay_conf = codes "relay.conf"

-- a setting, its value, and what it means, at the line that says it; one that no line says has its
-- value without one, and no line's number
unfoldable pub setting_text : (lines : List (List ℕ)) → (key value meaning : List ℕ) → List ℕ
setting_text lines key value meaning =
    if nat_lt (length lines) (key_line key lines)
    then codes "relay.conf: " ++ key ++ codes " " ++ value ++ codes " (no line says it): "
    ++ meaning ++ codes "\n"
    else told_line relay_conf (key_line key lines)
    (key ++ codes " " ++ value ++ codes ": " ++ meaning)

-- the seconds that the date of an article may lie ahead (docs/FORMATS.md, Dates)
abbrev pub day : ℕ
day = 86400

-- an id may be forgotten while its article would still be taken
abbrev pub is_soon_forgotten : (cutoff seconds : ℕ) → Bool
is_soon_forgotten cutoff seconds = nat_le seconds (cutoff + day)

-- what is told of how long ids are remembered; it is odd where they are forgotten while their
-- articles would still be taken
unfoldable pub remembered_text : (lines : List (List ℕ)) → (cutoff seconds : ℕ) → List ℕ
remembered_text lines cutoff seconds =
    setting_text lines (codes "remember") (decimal seconds)
    (codes "seconds for which a message-id is remembered at least")
    ++ odd_line (is_soon_forgotten cutoff seconds) relay_conf
    (key_line (codes "remember") lines)
    (codes "an article of a message-id that is forgotten may come again: "
    ++ codes "remember isn't above cutoff by more than 86400")

-- what is told of how long ids are remembered, where that is said
unfoldable pub remember_text : (lines : List (List ℕ)) → (cutoff : ℕ) → Option ℕ → List ℕ
remember_text lines cutoff None =
    codes "relay.conf: remember (no line says it): no message-id is forgotten\n"
remember_text lines cutoff (Some seconds) = remembered_text lines cutoff seconds

-- what is told of how often files are flushed while the relay is served
unfoldable pub sync_text : (lines : List (List ℕ)) → Option ℕ → List ℕ
sync_text lines None =
    codes "relay.conf: sync (no line says it): articles are flushed when the relay stops\n"
sync_text lines (Some seconds) =
    setting_text lines (codes "sync") (decimal seconds)
    (codes "seconds between two flushes of the files of buffers")

-- what is told of how long an offer lasts
unfoldable pub offers_text : (lines : List (List ℕ)) → Option ℕ → List ℕ
offers_text lines None = codes "relay.conf: offers (no line says it): no offer runs out\n"
offers_text lines (Some seconds) =
    setting_text lines (codes "offers") (decimal seconds)
    (codes "seconds after which an offer runs out")

-- the word that says of which articles the news log has lines, and a space
abbrev pub log_articles : (all : Bool) → List ℕ
log_articles all = if all then codes "all " else codes "refused "

-- the news log as a line says it
abbrev pub log_value : NewsLog → List ℕ
log_value log = log_articles log.all ++ log.path

-- what the news log has
abbrev pub log_meaning : (all : Bool) → List ℕ
log_meaning all =
    if all then codes "the file with a line for each article that is accepted or refused"
    else codes "the file with a line for each article that is refused"

-- what is told of the news log
unfoldable pub log_text : (lines : List (List ℕ)) → Option NewsLog → List ℕ
log_text lines None = codes "relay.conf: log (no line says it): nothing is logged\n"
log_text lines (Some log) =
    setting_text lines (codes "log") (log_value log) (log_meaning log.all)

-- the segments before those of an IPv4 address (RFC 4291 section 2.5.5.2)
abbrev pub before_ipv4 : List ℕ
before_ipv4 = 0 ∷ 0 ∷ 0 ∷ 0 ∷ 0 ∷ 65535 ∷ []

-- an address of these eight segments as it is written: one of IPv4 as four numbers, another as RFC
-- 5952 section 4 has it
unfoldable pub segments_text : (segments : List ℕ) → List ℕ
segments_text segments =
    if bytes_eq (take 6 segments) before_ipv4 then ipv4_text (octets_of (drop 6 segments))
    else ipv6_text segments

-- an address, its sixteen octets, as it is written
abbrev pub address_text : (address : List ℕ) → List ℕ
address_text address = segments_text (segments_of address)

-- addresses, a space between two
abbrev pub addresses_text : (addresses : List (List ℕ)) → List ℕ
addresses_text [] = []
addresses_text (first ∷ more) =
    address_text first ++ flat_map (λ address. codes " " ++ address_text address) more

-- what is told of the relay itself
unfoldable pub settings_text : Relay → (lines : List (List ℕ)) → List ℕ
settings_text relay lines =
    setting_text lines (codes "own") relay.own (codes "the relay's identity")
    ++ setting_text lines (codes "maxart") (decimal relay.max_article)
    (codes "octets of the largest article that is received")
    ++ setting_text lines (codes "cutoff") (decimal relay.cutoff)
    (codes "seconds past which an article is too old")
    ++ remember_text lines relay.cutoff relay.remember
    ++ setting_text lines (codes "patience") (decimal relay.patience)
    (codes "seconds for which a silent peer is waited for")
    ++ sync_text lines relay.sync
    ++ offers_text lines relay.offers
    ++ log_text lines relay.log
    ++ setting_text lines (codes "bind") (addresses_text relay.binds.items)
    (codes "the addresses on which ports listen, 0.0.0.0 for all of IPv4, :: for all")
