-- What lines of relay.conf say is as it may be configured: identities, and numbers in their ranges.
use Rattle.std.proofs.Common.{◌≡◌, ℕ, ◌+◌, ◌≤◌, Bool, true, List, [], ◌∷◌, All, Option, None, Some}
use Rattle.std.proofs.Common.{Result, Ok, Err, sym, subst, arith}
use Rattle.std.specs.Prelude.{◌&&◌, filter_map, flat_map, codes, bytes_eq, option_map, IsTrue}
use Rattle.std.proofs.lemmas.Bool.{and_parts, cond_both}
use Rattle.std.proofs.lemmas.List.Elements.{All-cons, All-map, All-nil}
use Rattle.line_words.specs.Numbers.{number_within}
use Rattle.line_words.specs.Parts.{parts}
use Rattle.news_terms.specs.Article.{without_outer_white}
use Rattle.news_terms.specs.Path.{is_agent}
use Rattle.line_words.specs.Comments.{is_skipped}
use Rattle.line_words.specs.Parts.{one_of, two_of, three_of}
use Rattle.relay_conf.specs.declared.faults.Fault.{Fault}
use Rattle.relay_conf.specs.declared.hash_feeds.HashFeed.{HashFeed}
use Rattle.relay_conf.specs.declared.reach.Allow.{Allow}
use Rattle.relay_conf.specs.declared.reach.Range.{Range}
use Rattle.relay_conf.specs.declared.relay.Feed.{Feed}
use Rattle.relay_conf.specs.declared.relay.Peer.{Peer}
use Rattle.relay_conf.specs.declared.relay.PeerConnections.{PeerConnections}
use Rattle.relay_conf.specs.HashLines.{hash_behind}
use Rattle.relay_conf.specs.LineByLine.{SayEach}
use Rattle.relay_conf.specs.RelayLines.{RelayLine, RawLine, SaidLine, Own, MaxArticle, Cutoff}
use Rattle.relay_conf.specs.RelayLines.{Remember, Patience, Sync, Offers, PeerLine, ConnectionsLine}
use Rattle.relay_conf.specs.RelayLines.{FeedLine}
use Rattle.relay_conf.specs.RelayLines.{RawSays, LineSays, own_line, number_line, number_or_fault}
use Rattle.relay_conf.specs.RelayLines.{log_line, log_in, logs_all}
use Rattle.relay_conf.specs.RelayLines.{with_number, bind_line, peer_ported, peer_line}
use Rattle.relay_conf.specs.RelayLines.{connections_numbered, connections_line, allow_line}
use Rattle.relay_conf.specs.RelayLines.{allow_ranged}
use Rattle.relay_conf.specs.RelayLines.{AllowLine, address_of, bits_behind, feed_ringed, ipv4_of}
use Rattle.relay_conf.specs.RelayLines.{range_and_more}
use Rattle.relay_conf.specs.RelayLines.{range_of, range_of_parts, ranged, ranges_of}
use Rattle.relay_conf.specs.RelayLines.{feed_line, relay_words, relay_line}
use Rattle.relay_conf.specs.Relay.{own_of, max_article_of, cutoff_of, remember_of, patience_of}
use Rattle.relay_conf.specs.Relay.{sync_of, offers_of, peer_of, connections_of, feed_of, allow_of}
use Rattle.relay_conf.specs.Relay.{allows_of}
use Rattle.relay_conf.specs.Cycbuff.{is_file}
use Rattle.relay_conf.specs.Words.{words, is_name, is_identity}
use Rattle.relay_conf.proofs.FaultlessLines.{all_given, all_listed, all_said, within_range}
use Rattle.relay_conf.proofs.PathIdentities.{identity_is_agent}

-- the identity of a line is one, and its numbers are in their ranges
abbrev IsRanged : {E : Type 0} → Result (RelayLine E) Fault → Type 0
IsRanged (Ok (Own identity)) = is_identity identity ≡ true
IsRanged (Ok (MaxArticle octets)) = (1 ≤ octets) × (octets ≤ 16777216)
IsRanged (Ok (Cutoff seconds)) = seconds ≤ 4000000000
IsRanged (Ok (Remember seconds)) = seconds ≤ 4000000000
IsRanged (Ok (Patience seconds)) = (1 ≤ seconds) × (seconds ≤ 86400)
IsRanged (Ok (Sync seconds)) = (1 ≤ seconds) × (seconds ≤ 86400)
IsRanged (Ok (Offers seconds)) = (1 ≤ seconds) × (seconds ≤ 86400)
IsRanged (Ok (PeerLine name identity port)) = is_identity identity ≡ true
IsRanged (Ok (ConnectionsLine name connections)) = (1 ≤ connections) × (connections ≤ 64)
IsRanged (Ok (AllowLine name ranges)) = All (λ range. range.bits ≤ 128) ranges
IsRanged (Ok (FeedLine name ring expression hash)) = (1 ≤ ring) × (ring ≤ 65536)
IsRanged said = Unit {0}

-- So it is with a line of a number,
of_number : (line : ℕ → RelayLine (List ℕ)) (least most : ℕ) (word : Option (List ℕ))
    → ((n : ℕ) → least ≤ n → n ≤ most → IsRanged (Ok (line n)))
    → IsRanged (with_number line (number_line least most word))
of_number line least most None h = tt
of_number line least most (Some word) h =
    within_range IsRanged (λ o. with_number line (number_or_fault o)) least most word tt h

-- with what follows `own`, `log`, `bind`, `peer`, `connections`, `allow` and `feed`,
of_own : (word : Option (List ℕ)) → IsRanged (own_line word)
of_own word = grind arith

of_log : (two : Option (List ℕ × List ℕ)) → IsRanged (log_line two)
of_log None = tt
of_log (Some two) = by_word (logs_all two.0)
  where
    by_word : (all : Option Bool) → IsRanged (log_in all two.1)
    by_word None = tt
    by_word (Some all) = cond_both (is_file two.1) _ _ IsRanged (λ e. tt) (λ e. tt)

of_bind : (word : Option (List ℕ)) → IsRanged (bind_line word)
of_bind word = grind arith

of_peer : (three : Option (List ℕ × List ℕ × List ℕ)) → IsRanged (peer_line three)
of_peer None = tt
of_peer (Some three) =
    cond_both (is_name three.0 && is_identity three.1) _ _ IsRanged
    (λ e. within_range IsRanged (peer_ported three.0 three.1) 0 65535 three.2 tt
    (λ n least most. (and_parts (is_name three.0) (is_identity three.1) e).1)) (λ e. tt)

of_connections : (two : Option (List ℕ × List ℕ)) → IsRanged (connections_line two)
of_connections None = tt
of_connections (Some two) =
    cond_both (is_name two.0) _ _ IsRanged
    (λ e. within_range IsRanged (connections_numbered two.0) 1 64 two.1 tt
    (λ n least most. (least, most))) (λ e. tt)

-- a range counts 0 to 128 bits
abbrev HasBits : Result Range Fault → Type 0
HasBits (Err fault) = Unit {0}
HasBits (Ok range) = range.bits ≤ 128

-- each of them does
abbrev HaveBits : Result (List Range) Fault → Type 0
HaveBits (Err fault) = Unit {0}
HaveBits (Ok ranges) = All (λ (range : Range). range.bits ≤ 128) ranges

of_whole : (address : Option (List ℕ)) → HasBits (ranged address (Some 128))
of_whole None = tt
of_whole (Some address) = omega arith

of_bits : (address four : Option (List ℕ)) (bits : List ℕ)
    → HasBits (ranged address (bits_behind four bits))
of_bits None four bits = tt
of_bits (Some address) None bits =
    within_range HasBits (ranged (Some address)) 0 128 bits tt (λ n least most. most)
of_bits (Some address) (Some octets) bits =
    within_range HasBits (λ (o : Option ℕ). ranged (Some address) (option_map (λ n. 96 + n) o)) 0 32
    bits tt (λ n least most. omega (arith, most))

of_range : (parts : List (List ℕ)) → HasBits (range_of_parts parts)
of_range [] = tt
of_range (address ∷ []) = of_whole (address_of address)
of_range (address ∷ bits ∷ []) = of_bits (address_of address) (ipv4_of address) bits
of_range (address ∷ bits ∷ other ∷ more) = tt

of_one_more : (one : Result Range Fault) (more : Result (List Range) Fault) → HasBits one
    → HaveBits more → HaveBits (range_and_more one more)
of_one_more (Err fault) more h k = tt
of_one_more (Ok range) (Err fault) h k = tt
of_one_more (Ok range) (Ok ranges) h k =
    All-cons (λ (range : Range). range.bits ≤ 128) range ranges h k

of_ranges : (words : List (List ℕ)) → HaveBits (ranges_of words)
of_ranges [] = All-nil (λ (range : Range). range.bits ≤ 128)
of_ranges (word ∷ more) =
    of_one_more (range_of word) (ranges_of more) (of_range (parts 47 word)) (of_ranges more)

of_allowed : (name : List ℕ) (ranges : Result (List Range) Fault) → HaveBits ranges
    → IsRanged (allow_ranged name ranges)
of_allowed name (Err fault) h = tt
of_allowed name (Ok ranges) h = h

of_allow : (after : List (List ℕ)) → IsRanged (allow_line after)
of_allow [] = tt
of_allow (name ∷ []) = tt
of_allow (name ∷ first ∷ more) =
    cond_both (is_name name) _ _ IsRanged (λ e. of_allowed name (ranges_of (first ∷ more))
    (of_ranges (first ∷ more)))
    (λ e. tt)

of_ringed : (name text : List ℕ) (hash : Result (Option HashFeed) Fault) (ring : List ℕ)
    → IsRanged (feed_ringed name text hash (number_within 1 65536 ring))
of_ringed name text (Err fault) ring = tt
of_ringed name text (Ok hash) ring =
    within_range IsRanged (feed_ringed name text (Ok hash)) 1 65536 ring tt
    (λ n least most. (least, most))

of_feed : (after : List (List ℕ)) → IsRanged (feed_line after)
of_feed [] = tt
of_feed (name ∷ []) = tt
of_feed (name ∷ ring ∷ []) = tt
of_feed (name ∷ ring ∷ text ∷ more) =
    cond_both (is_name name) _ _ IsRanged (λ e. of_ringed name text (hash_behind more) ring)
    (λ e. tt)

-- with the words of a line,
of_words : (said : List (List ℕ)) → IsRanged (relay_words said)
of_words [] = tt
of_words (word ∷ after) =
    cond_both (bytes_eq word (codes "own")) _ _ IsRanged (λ e. of_own (one_of after))
    (λ e. cond_both (bytes_eq word (codes "maxart")) _ _ IsRanged
    (λ e. of_number MaxArticle 1 16777216 (one_of after) (λ n least most. (least, most)))
    (λ e. cond_both (bytes_eq word (codes "cutoff")) _ _ IsRanged
    (λ e. of_number Cutoff 0 4000000000 (one_of after) (λ n least most. most))
    (λ e. cond_both (bytes_eq word (codes "remember")) _ _ IsRanged
    (λ e. of_number Remember 0 4000000000 (one_of after) (λ n least most. most))
    (λ e. cond_both (bytes_eq word (codes "patience")) _ _ IsRanged
    (λ e. of_number Patience 1 86400 (one_of after) (λ n least most. (least, most)))
    (λ e. cond_both (bytes_eq word (codes "sync")) _ _ IsRanged
    (λ e. of_number Sync 1 86400 (one_of after) (λ n least most. (least, most)))
    (λ e. cond_both (bytes_eq word (codes "offers")) _ _ IsRanged
    (λ e. of_number Offers 1 86400 (one_of after) (λ n least most. (least, most)))
    (λ e. cond_both (bytes_eq word (codes "log")) _ _ IsRanged (λ e. of_log (two_of after))
    (λ e. cond_both (bytes_eq word (codes "bind")) _ _ IsRanged (λ e. of_bind (one_of after))
    (λ e. cond_both (bytes_eq word (codes "peer")) _ _ IsRanged (λ e. of_peer (three_of after))
    (λ e. cond_both (bytes_eq word (codes "connections")) _ _ IsRanged
    (λ e. of_connections (two_of after))
    (λ e. cond_both (bytes_eq word (codes "allow")) _ _ IsRanged (λ e. of_allow after)
    (λ e. cond_both (bytes_eq word (codes "feed")) _ _ IsRanged (λ e. of_feed after)
    (λ e. tt)))))))))))))

-- with a line,
of_line : (line : List ℕ) → IsRanged (relay_line line)
of_line line =
    let trimmed = without_outer_white line in
    cond_both (is_skipped trimmed) _ _ IsRanged (λ e. tt) (λ e. of_words (words trimmed))

-- and with what the line says.
of_said : (raw : RawLine) (said : SaidLine) → RawSays raw said → IsRanged raw → IsRanged said
of_said (Ok (FeedLine name ring text hash)) (Err fault) h k = tt
of_said (Ok (FeedLine name ring text hash)) (Ok line) h k =
    subst (λ (l : _). IsRanged (Ok l)) (sym h.2) k
of_said raw said h k = subst IsRanged (sym h) k

-- what lines say is as it may be configured
pub record AreRanged (said : List SaidLine) : Type 0 where
  pub owns : All (λ own. IsTrue (is_agent own)) (filter_map own_of said)
  pub sizes : All (λ n. (1 ≤ n) × (n ≤ 16777216)) (filter_map max_article_of said)
  pub cutoffs : All (λ n. n ≤ 4000000000) (filter_map cutoff_of said)
  pub remembers : All (λ n. n ≤ 4000000000) (filter_map remember_of said)
  pub patiences : All (λ n. (1 ≤ n) × (n ≤ 86400)) (filter_map patience_of said)
  pub syncs : All (λ n. (1 ≤ n) × (n ≤ 86400)) (filter_map sync_of said)
  pub offers : All (λ n. (1 ≤ n) × (n ≤ 86400)) (filter_map offers_of said)
  pub peers : All (λ (peer : Peer). IsTrue (is_agent peer.identity)) (filter_map peer_of said)
  pub connections : All (λ (one : PeerConnections). (1 ≤ one.connections) × (one.connections ≤ 64))
      (filter_map connections_of said)
  pub rings : (peers : List Peer) → All (λ (feed : Feed). (1 ≤ feed.ring) × (feed.ring ≤ 65536))
      (filter_map (feed_of peers) said)
  pub bits : (peers : List Peer) → All (λ (allow : Allow). allow.range.bits ≤ 128)
      (flat_map (allows_of peers) said)

-- What lines say is so.
pub are_ranged : (lines : List (List ℕ)) (said : List SaidLine) → SayEach LineSays [] lines said
    → AreRanged said
are_ranged lines said h =
    let all = all_said LineSays (IsRanged {E = _}) (λ before line one says.
    of_said (relay_line line) one says (of_line line)) [] lines said h in
    record {
      owns = all_given IsRanged (λ own. IsTrue (is_agent own)) own_of
          (elim [ Ok (Own own) ↦ identity_is_agent own | one ↦ λ is. tt ]) said all;
      sizes = all_given IsRanged (λ n. (1 ≤ n) × (n ≤ 16777216)) max_article_of
          (elim [ Ok (MaxArticle n) ↦ λ is. is | one ↦ λ is. tt ]) said all;
      cutoffs = all_given IsRanged (λ n. n ≤ 4000000000) cutoff_of
          (elim [ Ok (Cutoff n) ↦ λ is. is | one ↦ λ is. tt ]) said all;
      remembers = all_given IsRanged (λ n. n ≤ 4000000000) remember_of
          (elim [ Ok (Remember n) ↦ λ is. is | one ↦ λ is. tt ]) said all;
      patiences = all_given IsRanged (λ n. (1 ≤ n) × (n ≤ 86400)) patience_of
          (elim [ Ok (Patience n) ↦ λ is. is | one ↦ λ is. tt ]) said all;
      syncs = all_given IsRanged (λ n. (1 ≤ n) × (n ≤ 86400)) sync_of
          (elim [ Ok (Sync n) ↦ λ is. is | one ↦ λ is. tt ]) said all;
      offers = all_given IsRanged (λ n. (1 ≤ n) × (n ≤ 86400)) offers_of
          (elim [ Ok (Offers n) ↦ λ is. is | one ↦ λ is. tt ]) said all;
      peers = all_given IsRanged (λ (peer : Peer). IsTrue (is_agent peer.identity)) peer_of
          (elim [ Ok (PeerLine name own port) ↦ identity_is_agent own | one ↦ λ is. tt ]) said all;
      connections = all_given IsRanged
          (λ (one : PeerConnections). (1 ≤ one.connections) × (one.connections ≤ 64))
          connections_of
          (elim [ Ok (ConnectionsLine name n) ↦ λ is. is | one ↦ λ is. tt ]) said all;
      rings = λ peers. all_given IsRanged
          (λ (feed : Feed). (1 ≤ feed.ring) × (feed.ring ≤ 65536)) (feed_of peers)
          (elim [ Ok (FeedLine name n expression hash) ↦ λ is. is | one ↦ λ is. tt ]) said all;
      bits = λ peers. all_listed IsRanged (λ (allow : Allow). allow.range.bits ≤ 128)
          (allows_of peers)
          (elim [
            | Ok (AllowLine name ranges) ↦ λ is.
                All-map (λ (allow : Allow). allow.range.bits ≤ 128) (allow_of peers name) ranges is
            | one ↦ λ is. All-nil (λ (allow : Allow). allow.range.bits ≤ 128)
          ]) said all;
    }
