-- Worked lines of the news log.
use Rattle.std.specs.Prelude.{◌≡◌, ℕ, List, [], ◌∷◌, codes, None, Some}
use Rattle.relay_conf.specs.declared.settings.Relay.{Relay}
use Rattle.news_log.specs.Lines.{IsAcceptedLine, IsNewsStamp, IsRefusedLine, name_of_feed}
use Rattle.news_log.specs.declared.moments.Moment.{Moment}

-- a moment of these seconds and thousandths begins a line with this text
abbrev pub IsStampedAs : (second millis : ℕ) → (text : List ℕ) → Type 0
IsStampedAs second millis text =
    (moment : Moment) → moment.second ≡ second → moment.millis ≡ millis → IsNewsStamp moment text

-- an article without a date that can be read, refused on the 29th of November 2026
abbrev pub Refusal : Type 0
Refusal =
    (moment : Moment) → moment.second ≡ 1795955696 → moment.millis ≡ 789
    → IsRefusedLine moment (codes "peer") (codes "<id>") (codes "439") (codes "Date")
    (codes "Nov 29 12:34:56.789 - peer <id> 439 Date\n")

-- an article of 1,234 octets, accepted on the 5th of November 2026 and fed to the feeds 0 and 1;
-- there is no feed 2
abbrev pub Acceptance : Type 0
Acceptance =
    (moment : Moment) → moment.second ≡ 1793840523 → moment.millis ≡ 4
    → (relay : Relay) → name_of_feed relay 0 ≡ Some (codes "feed1")
    → name_of_feed relay 1 ≡ Some (codes "feed2") → name_of_feed relay 2 ≡ None
    → IsAcceptedLine moment (codes "peer") (codes "<id>") 1234 relay (0 ∷ 2 ∷ 1 ∷ [])
    (codes "Nov  5 01:02:03.004 + peer <id> 1234 feed1 feed2\n")
