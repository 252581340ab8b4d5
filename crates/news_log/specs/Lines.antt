-- The lines of the news log, in the form of INN's `news` log file.
use Rattle.std.specs.Prelude.{◌≡◌, ℕ, ◌+◌, ◌-◌, ◌/◌, ◌%◌, ◌==◌, List, [], ◌∷◌, ◌++◌, take, drop}
use Rattle.std.specs.Prelude.{codes, decimal, flat_map, get_or, if◌then◌else◌, option_map}
use Rattle.std.specs.Prelude.{slice_get, Option, None, Some}
use Rattle.std.specs.Str.{byte}
use Rattle.std.specs.Str.Parse.{digits_value}
use Rattle.news_terms.specs.Dates.{two_digits}
use Rattle.news_terms.specs.Stamps.{IsStamp}
use Rattle.relay_conf.specs.declared.relay.Feed.{Feed}
use Rattle.relay_conf.specs.declared.relay.Peer.{Peer}
use Rattle.relay_conf.specs.declared.settings.Relay.{Relay}
use Rattle.news_log.specs.declared.moments.Moment.{Moment}

-- THE MOMENT

-- the names of the months, in their order (RFC 5322, section 3.3, month)
abbrev pub month_names : List (List ℕ)
month_names =
    codes "Jan" ∷ codes "Feb" ∷ codes "Mar" ∷ codes "Apr" ∷ codes "May" ∷ codes "Jun"
    ∷ codes "Jul" ∷ codes "Aug" ∷ codes "Sep" ∷ codes "Oct" ∷ codes "Nov" ∷ codes "Dec" ∷ []

-- two of the fourteen digits of a moment, behind so many of them
abbrev pub two_behind : (count : ℕ) → (digits : List ℕ) → List ℕ
two_behind count digits = take 2 (drop count digits)

-- the name of the month, whose number the fifth and the sixth digit are
abbrev pub month_text : (digits : List ℕ) → List ℕ
month_text digits = get_or month_names (digits_value 10 (two_behind 4 digits) - 1) []

-- digits with a space in place of a zero in front
abbrev pub with_space : List ℕ → List ℕ
with_space [] = []
with_space (first ∷ more) = (if first == byte "0" then byte " " else first) ∷ more

-- the time of day: hour, minute and second, of two digits each
abbrev pub clock_text : (digits : List ℕ) → List ℕ
clock_text digits =
    two_behind 8 digits ++ (codes ":" ++ (two_behind 10 digits ++ (codes ":"
    ++ two_behind 12 digits)))

-- the three decimal digits of a number below 1,000, with leading zeros
abbrev pub three_digits : ℕ → List ℕ
three_digits n = (byte "0" + n / 100) ∷ two_digits (n % 100)

-- a moment as a line begins with it, of its fourteen digits and its thousandths of a second: the
-- month's name, the day in two places, the time of day, and behind a dot the thousandths
abbrev pub news_stamp : (digits : List ℕ) → (millis : ℕ) → List ℕ
news_stamp digits millis =
    month_text digits ++ (codes " " ++ (with_space (two_behind 6 digits) ++ (codes " "
    ++ (clock_text digits ++ (codes "." ++ three_digits millis)))))

-- this is how a line begins with the moment: by the fourteen digits of its second in UTC
pub record IsNewsStamp (moment : Moment) (text : List ℕ) : Type 0 where
  pub digits : List ℕ
  pub of_second : IsStamp moment.second digits
  pub written : text ≡ news_stamp digits moment.millis

-- THE LINES

-- the line of an article that was refused: the moment, a minus, the peer, the message-id, the code
-- of the answer and why; one space between them, and LF
abbrev pub refused_text : (stamp peer id code why : List ℕ) → List ℕ
refused_text stamp peer id code why =
    stamp ++ (codes " - " ++ (peer ++ (codes " " ++ (id ++ (codes " " ++ (code ++ (codes " "
    ++ (why ++ codes "\n"))))))))

-- the name of the peer of a feed, where there are that feed and its peer
abbrev pub feed_name : List Peer → Option Feed → Option (List ℕ)
feed_name peers None = None
feed_name peers (Some feed) = option_map (λ peer. peer.name) (slice_get peers feed.peer)

-- the name of the peer of the feed of a number, where there is one
abbrev pub name_of_feed : Relay → (number : ℕ) → Option (List ℕ)
name_of_feed relay number = feed_name relay.peers.items (slice_get relay.feeds.items number)

-- a word with a space in front; nothing where there is none
abbrev pub spaced_word : Option (List ℕ) → List ℕ
spaced_word None = []
spaced_word (Some word) = codes " " ++ word

-- the names of the peers of the feeds of these numbers, a space in front of each; a number of no
-- feed adds nothing
abbrev pub feed_words : Relay → (numbers : List ℕ) → List ℕ
feed_words relay numbers = flat_map (λ number. spaced_word (name_of_feed relay number)) numbers

-- the line of an article that was accepted: the moment, a plus, the peer, the message-id, the
-- article's size in octets and the names of the peers that it is fed to; one space between them,
-- and LF
abbrev pub accepted_text : (stamp peer id : List ℕ) → (size : ℕ) → (words : List ℕ) → List ℕ
accepted_text stamp peer id size words =
    stamp ++ (codes " + " ++ (peer ++ (codes " " ++ (id ++ (codes " " ++ (decimal size
    ++ (words ++ codes "\n")))))))

-- this is the line of an article that was refused at this moment
pub record IsRefusedLine (moment : Moment) (peer id code why text : List ℕ) : Type 0 where
  pub stamp : List ℕ
  pub of_moment : IsNewsStamp moment stamp
  pub written : text ≡ refused_text stamp peer id code why

-- this is the line of an article that was accepted at this moment, and is fed to the feeds of these
-- numbers
pub record IsAcceptedLine (moment : Moment) (peer id : List ℕ) (size : ℕ) (relay : Relay)
    (feeds text : List ℕ) : Type 0 where
  pub stamp : List ℕ
  pub of_moment : IsNewsStamp moment stamp
  pub written : text ≡ accepted_text stamp peer id size (feed_words relay feeds)
