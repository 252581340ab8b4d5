-- Feeds of a part of the articles, in examples (docs/FORMATS.md, Configuration).
use Rattle.std.specs.Prelude.{ℕ, List, [], ◌∷◌, codes, Option, None, option_map}
use Rattle.std.specs.Result.{result_ok}
use Rattle.relay_conf.specs.declared.hash_feeds.HashFeed.{HashFeed}
use Rattle.relay_conf.specs.declared.relay.Feed.{Feed}
use Rattle.relay_conf.specs.HashLines.{part_of, hash_part}
use Rattle.relay_conf.specs.K1.{every_newsgroup}
use Rattle.relay_conf.specs.ReachExamples.{settings_with, unserved}
use Rattle.relay_conf.specs.Relay.{RelaySettings, each_address}

-- three peers: two share all articles, and the third has each of them
abbrev pub hash_lines : List (List ℕ)
hash_lines =
    codes "own a" ∷ codes "peer p b 0" ∷ codes "peer q c 0" ∷ codes "peer r d 0"
    ∷ codes "feed p 2 * hash 1-1/2" ∷ codes "feed q 2 * hash 2/2" ∷ codes "feed r 2 *" ∷ []

-- a feed of all newsgroups of the peer of this number, with a ring of two tokens
abbrev pub feed_in : (peer : ℕ) → (hash : Option HashFeed) → Feed
feed_in peer hash =
    record { peer = peer; ring = 2; expression = every_newsgroup; hash = hash }

-- what they say: the first part of two, the second, and all
abbrev pub hash_settings : RelaySettings
hash_settings =
    record (settings_with (each_address ∷ [])
    (unserved (codes "p") (codes "b") ∷ unserved (codes "q") (codes "c")
    ∷ unserved (codes "r") (codes "d") ∷ []) []) {
      feeds = feed_in 0 (hash_part 1 1 2) ∷ feed_in 1 (hash_part 2 2 2) ∷ feed_in 2 None ∷ [];
    }

-- FROM, TO and OF of the part that a word is, where it is one
abbrev pub numbers_of : (word : List ℕ) → Option (ℕ × ℕ × ℕ)
numbers_of word =
    option_map (λ (hash : HashFeed). (hash.first, hash.last, hash.parts))
    (result_ok (part_of word))
