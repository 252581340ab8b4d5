-- Rows on feeds: session 1 sends articles, session 2 asks for the second peer's queue.
use Rattle.std.specs.Prelude.{List, [], ◌∷◌, ◌++◌, codes}
use Rattle.std.specs.Str.{byte}
use Rattle.relay_model.specs.Run.{Event, Open, Bytes}
use Rattle.relay_model.specs.World.{Output, Quiet, Sent}
use Rattle.relay_laws.specs.Rows.{block_of, greeted, turns, writes, quiet, both_open}
use Rattle.relay_laws.specs.Rows.{both_greeted}

-- the queue of a peer that has no feed
abbrev pub no_feed : List Event
no_feed = Open 2 1 ∷ Bytes 2 (codes "XTAKE 5\r\n") ∷ turns 2 1

-- 490
abbrev pub no_feed_replies : List Output
no_feed_replies = greeted 2 ∷ Quiet ∷ Sent 2 (codes "490 No feed\r\n") ∷ []

-- the second peer asks for its queue, then the first for its own, each twice
abbrev pub two_feeds : List Event
two_feeds =
    both_open
    ++ Bytes 1 (codes "XTAKE 5\r\nXTAKE 5\r\n") ∷ Bytes 2 (codes "XTAKE 5\r\nXTAKE 5\r\n")
    ∷ turns 2 1 ++ turns 1 2 ++ turns 2 1

-- the last two of the second feed, one missed; the last of the first, two missed; then nothing
abbrev pub two_feeds_replies : List Output
two_feeds_replies =
    both_greeted ++ quiet 2
    ++ Sent 2 (codes "290 Queue follows\r\n1\r\n2 @01000000000100000003000005A0@\r\n"
    ++ codes "3 @01000000000300000000000005A0@\r\n.\r\n")
    ∷ Sent 1 (codes "290 Queue follows\r\n2\r\n3 @01000000000200000000000005A0@\r\n.\r\n")
    ∷ Sent 1 (codes "290 Queue follows\r\n0\r\n.\r\n")
    ∷ Sent 2 (codes "290 Queue follows\r\n0\r\n.\r\n") ∷ []

-- three articles come, and the queue is taken one by one
abbrev pub ring_in_parts : List Event
ring_in_parts =
    both_open
    ++ Bytes 1 (codes "TAKETHIS <1@x>\r\n" ++ block_of (byte "1"))
    ∷ Bytes 1 (codes "TAKETHIS <2@x>\r\n" ++ block_of (byte "2"))
    ∷ Bytes 1 (codes "TAKETHIS <3@x>\r\n" ++ block_of (byte "3"))
    ∷ turns 1 3 ++ writes 6 ++ turns 1 4 ++ writes 6 ++ turns 1 4 ++ writes 6 ++ turns 1 1
    ++ Bytes 2 (codes "XTAKE 1\r\nXTAKE 1\r\nXTAKE 1\r\n") ∷ turns 2 3

-- one was missed and the second is listed; then the third, which the first take left; then nothing
abbrev pub ring_in_parts_replies : List Output
ring_in_parts_replies =
    both_greeted ++ quiet 3 ++ quiet 9
    ++ Sent 1 (codes "239 <1@x>\r\n") ∷ quiet 9
    ++ Sent 1 (codes "239 <2@x>\r\n") ∷ quiet 9
    ++ Sent 1 (codes "239 <3@x>\r\n") ∷ Quiet
    ∷ Sent 2 (codes "290 Queue follows\r\n1\r\n2 @01000000000000000001000000A4@\r\n.\r\n")
    ∷ Sent 2 (codes "290 Queue follows\r\n0\r\n3 @01000000000000000002000000A4@\r\n.\r\n")
    ∷ Sent 2 (codes "290 Queue follows\r\n0\r\n.\r\n") ∷ []

-- an article comes whose newsgroups the feed may not have
abbrev pub kept_from_feed_replies : List Output
kept_from_feed_replies =
    both_greeted ++ quiet 11 ++ Sent 1 (codes "239 <a@x>\r\n")
    ∷ Sent 2 (codes "290 Queue follows\r\n0\r\n.\r\n") ∷ []

-- an article comes and is taken; then it is offered and sent once more
abbrev pub sent_again : List Event
sent_again =
    both_open
    ++ Bytes 1 (codes "TAKETHIS <a@x>\r\n" ++ block_of (byte "a"))
    ∷ Bytes 1 (codes "CHECK <a@x>\r\nTAKETHIS <a@x>\r\n" ++ block_of (byte "a"))
    ∷ Bytes 2 (codes "XTAKE 5\r\nXTAKE 5\r\n")
    ∷ turns 1 3 ++ writes 6 ++ turns 1 1 ++ turns 2 1 ++ turns 1 3 ++ writes 6 ++ turns 2 1

-- the feed gained it once
abbrev pub sent_again_replies : List Output
sent_again_replies =
    both_greeted ++ quiet 12 ++ Sent 1 (codes "239 <a@x>\r\n")
    ∷ Sent 2 (codes "290 Queue follows\r\n0\r\n1 @01000000000000000000000000A4@\r\n.\r\n")
    ∷ Sent 1 (codes "438 <a@x>\r\n") ∷ Quiet ∷ Sent 1 (codes "439 <a@x>\r\n") ∷ quiet 6
    ++ Sent 2 (codes "290 Queue follows\r\n0\r\n.\r\n") ∷ []
