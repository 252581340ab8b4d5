-- The worked rows from the empty world: their events, and what these are answered. Session 1 is
-- that of the first peer, session 2 that of the second.
use Rattle.std.specs.Prelude.{ℕ, ◌+◌, List, [], ◌∷◌, ◌++◌, codes, replicate}
use Rattle.std.specs.Str.{byte}
use Rattle.news_terms.specs.Article.{article_text, worked_article}
use Rattle.relay_model.specs.Run.{Event, Open, Bytes, Turn, Write, Break}
use Rattle.relay_model.specs.Terms.{Reason, Grammar, Size}
use Rattle.relay_model.specs.World.{Output, Quiet, Sent, Rejects, Ended, Refuses, NoSession}
use Rattle.relay_model.specs.World.{SessionTaken}
use Rattle.relay_model.specs.World.{NoGroup, NoPeer, BadMoment, NoShard}
use Rattle.relay_model.specs.Run as runs
use Rattle.relay_laws.specs.Terms.{now}

-- the block that sends the article A(i, 1)
abbrev pub block_of : ℕ → List ℕ
block_of i = article_text (worked_article i 1) ++ codes ".\r\n"

-- the greeting of a session
abbrev pub greeted : ℕ → Output
greeted s = Sent s (codes "201 cnrelay ready, posting prohibited\r\n")

-- so many Turns of a session
abbrev pub turns : ℕ → ℕ → List Event
turns s n = replicate n (Turn s now)

-- so many Writes of the group
abbrev pub writes : ℕ → List Event
writes n = replicate n (Write 0 now)

-- nothing is said, so often
abbrev pub quiet : ℕ → List Output
quiet n = replicate n Quiet

-- the sessions 1 and 2 are opened
abbrev pub both_open : List Event
both_open = Open 1 0 ∷ Open 2 1 ∷ []

-- both are greeted
abbrev pub both_greeted : List Output
both_greeted = greeted 1 ∷ greeted 2 ∷ []

-- first script: CHECK, TAKETHIS with the article, STAT; the Writes stand where the session waits
abbrev pub first_script : List Event
first_script =
    Open 1 0 ∷ Bytes 1 (codes "CHECK <a@x>\r\nTAKETHIS <a@x>\r\n")
    ∷ Bytes 1 (block_of (byte "a") ++ codes "STAT <a@x>\r\n")
    ∷ turns 1 4 ++ writes 6 ++ turns 1 3

-- 238, 239, 223
abbrev pub first_replies : List Output
first_replies =
    greeted 1 ∷ quiet 2 ++ Sent 1 (codes "238 <a@x>\r\n") ∷ quiet 3 ++ quiet 6
    ++ Sent 1 (codes "239 <a@x>\r\n") ∷ Quiet ∷ Sent 1 (codes "223 0 <a@x>\r\n") ∷ []

-- one claim: both sessions CHECK one id; the first breaks off, and its offer ends in its next Turn
abbrev pub one_claim : List Event
one_claim =
    both_open
    ++ Bytes 1 (codes "CHECK <b@x>\r\n")
    ∷ Bytes 2 (codes "CHECK <b@x>\r\nCHECK <b@x>\r\nCHECK <b@x>\r\n")
    ∷ Turn 1 now ∷ Turn 2 now ∷ Break 1 ∷ Turn 2 now ∷ Turn 1 now ∷ Turn 2 now ∷ Turn 1 now
    ∷ Turn 1 now ∷ []

-- 238 to the first, 431 to the second until the offer has ended, then 238
abbrev pub one_claim_replies : List Output
one_claim_replies =
    both_greeted ++ quiet 2
    ++ Sent 1 (codes "238 <b@x>\r\n") ∷ Sent 2 (codes "431 <b@x>\r\n") ∷ Ended 1 []
    ∷ Sent 2 (codes "431 <b@x>\r\n") ∷ Quiet ∷ Sent 2 (codes "238 <b@x>\r\n") ∷ Quiet
    ∷ Refuses NoSession ∷ []

-- offer taken over: the first session offers, the second sends the article, then the first does
abbrev pub taken_over : List Event
taken_over =
    both_open
    ++ Bytes 1 (codes "CHECK <a@x>\r\nTAKETHIS <a@x>\r\n" ++ block_of (byte "a"))
    ∷ Bytes 2 (codes "TAKETHIS <a@x>\r\n" ++ block_of (byte "a"))
    ∷ turns 1 1 ++ turns 2 3 ++ writes 6 ++ turns 2 1 ++ turns 1 2

-- 238, then 239 to the second and 439 to the first
abbrev pub taken_over_replies : List Output
taken_over_replies =
    both_greeted ++ quiet 2
    ++ Sent 1 (codes "238 <a@x>\r\n") ∷ quiet 9
    ++ Sent 2 (codes "239 <a@x>\r\n") ∷ Quiet ∷ Sent 1 (codes "439 <a@x>\r\n") ∷ []

-- an offer runs out: half a minute after the first session was told to send, the second one asks,
-- and a second later again; then the first does, by IHAVE, and sends the article all the same
abbrev pub run_out : List Event
run_out =
    both_open
    ++ Bytes 1 (codes "CHECK <a@x>\r\nIHAVE <a@x>\r\nTAKETHIS <a@x>\r\n" ++ block_of (byte "a"))
    ∷ Bytes 2 (codes "CHECK <a@x>\r\nCHECK <a@x>\r\nTAKETHIS <a@x>\r\n" ++ block_of (byte "a"))
    ∷ Turn 1 now ∷ Turn 2 (now + 30) ∷ Turn 2 (now + 31)
    ∷ replicate 5 (Turn 1 (now + 31)) ++ writes 6 ++ Turn 1 (now + 32)
    ∷ replicate 2 (Turn 2 (now + 32))

-- 238 to the first, 431 and then 238 to the second; the first's offer ends, it is told 436, and its
-- article is stored: 239, and 439 to the second
abbrev pub run_out_replies : List Output
run_out_replies =
    both_greeted ++ quiet 2
    ++ Sent 1 (codes "238 <a@x>\r\n") ∷ Sent 2 (codes "431 <a@x>\r\n")
    ∷ Sent 2 (codes "238 <a@x>\r\n") ∷ Quiet ∷ Sent 1 (codes "436 Try again later\r\n")
    ∷ quiet 3 ++ quiet 6 ++ Sent 1 (codes "239 <a@x>\r\n") ∷ Quiet
    ∷ Sent 2 (codes "439 <a@x>\r\n") ∷ []

-- two bodies at once: the first session is told to send by IHAVE; the second's article is being
-- stored when the first's comes
abbrev pub two_bodies : List Event
two_bodies =
    both_open
    ++ Bytes 1 (codes "IHAVE <a@x>\r\n" ++ block_of (byte "a"))
    ∷ Bytes 2 (codes "TAKETHIS <a@x>\r\n" ++ block_of (byte "a"))
    ∷ turns 1 1 ++ turns 2 2 ++ turns 1 1 ++ turns 2 1 ++ writes 6 ++ turns 2 1

-- 335, then 436 to the first, and later 239 to the second
abbrev pub two_bodies_replies : List Output
two_bodies_replies =
    both_greeted ++ quiet 2
    ++ Sent 1 (codes "335 Send it\r\n") ∷ quiet 2
    ++ Sent 1 (codes "436 Try again later\r\n") ∷ quiet 7
    ++ Sent 2 (codes "239 <a@x>\r\n") ∷ []

-- two bodies at once by TAKETHIS: the first session's article is held until the other is stored
abbrev pub held_body : List Event
held_body =
    both_open
    ++ Bytes 1 (codes "TAKETHIS <a@x>\r\n" ++ block_of (byte "a"))
    ∷ Bytes 2 (codes "TAKETHIS <a@x>\r\n" ++ block_of (byte "a"))
    ∷ turns 2 2 ++ turns 1 3 ++ turns 2 1 ++ writes 4 ++ turns 1 1 ++ writes 1 ++ turns 1 1
    ++ writes 1 ++ turns 2 1

-- nothing until it is stored; then 439 to the first and 239 to the second
abbrev pub held_body_replies : List Output
held_body_replies =
    both_greeted ++ quiet 2 ++ quiet 12
    ++ Sent 1 (codes "439 <a@x>\r\n") ∷ Quiet ∷ Sent 2 (codes "239 <a@x>\r\n") ∷ []

-- an article sent by IHAVE, once more offered, and once more sent without an offer
abbrev pub by_ihave : List Event
by_ihave =
    Open 1 0 ∷ Bytes 1 (codes "IHAVE <a@x>\r\n" ++ block_of (byte "a") ++ codes "IHAVE <a@x>\r\n")
    ∷ turns 1 3 ++ writes 6 ++ turns 1 2

-- 335, 235, 435
abbrev pub by_ihave_replies : List Output
by_ihave_replies =
    greeted 1 ∷ Quiet ∷ Sent 1 (codes "335 Send it\r\n") ∷ quiet 8
    ++ Sent 1 (codes "235 Transferred\r\n") ∷ Sent 1 (codes "435 Not wanted\r\n") ∷ []

-- an empty block is no article, and one can be too long: they are refused, and their ids
-- remembered; session 2 has offered another id
abbrev pub refused_block : List Event
refused_block =
    both_open
    ++ Bytes 2 (codes "CHECK <f@x>\r\n")
    ∷ Bytes 1 (codes "CHECK <e@x>\r\nTAKETHIS <e@x>\r\n.\r\nTAKETHIS <f@x>\r\n.\r\n")
    ∷ Bytes 1 (codes "IHAVE <g@x>\r\n" ++ replicate 199 (byte "x") ++ codes "\r\n.\r\n")
    ∷ Bytes 1 (codes "CHECK <e@x>\r\nCHECK <f@x>\r\nIHAVE <g@x>\r\nSTAT <e@x>\r\n")
    ∷ turns 2 1 ++ turns 1 11

-- 439 and 437; then 438 and 435, but 431 for what is offered to session 2; 430
abbrev pub refused_block_replies : List Output
refused_block_replies =
    both_greeted ++ quiet 4
    ++ Sent 2 (codes "238 <f@x>\r\n") ∷ Sent 1 (codes "238 <e@x>\r\n") ∷ Quiet
    ∷ Rejects 1 (codes "439 <e@x>\r\n") Grammar ∷ Quiet
    ∷ Rejects 1 (codes "439 <f@x>\r\n") Grammar ∷ Sent 1 (codes "335 Send it\r\n")
    ∷ Rejects 1 (codes "437 Rejected\r\n") Size
    ∷ Sent 1 (codes "438 <e@x>\r\n") ∷ Sent 1 (codes "431 <f@x>\r\n")
    ∷ Sent 1 (codes "435 Not wanted\r\n") ∷ Sent 1 (codes "430 No such article\r\n") ∷ []

-- TAKETHIS without a message-id, and what else a line may ask that changes nothing
abbrev pub single_lines : List Event
single_lines =
    Open 1 0 ∷ Bytes 1 (codes "TAKETHIS nonsense\r\nx\r\n.\r\nFOO\r\nCHECK a@x\r\nSTAT\r\n")
    ∷ Bytes 1 (codes "mode stream\r\nMODE READER\r\nXTAKE 5\r\nCAPABILITIES\r\nHELP\r\nQUIT\r\n")
    ∷ turns 1 13

-- 501 after the block, then 500, 501, 412, 203, 201, 490, 101, 100, 205 and the end
abbrev pub single_lines_replies : List Output
single_lines_replies =
    greeted 1 ∷ quiet 3
    ++ Sent 1 (codes "501 Syntax error\r\n") ∷ Sent 1 (codes "500 Unknown command\r\n")
    ∷ Sent 1 (codes "501 Syntax error\r\n") ∷ Sent 1 (codes "412 No group selected\r\n")
    ∷ Sent 1 (codes "203 Streaming permitted\r\n") ∷ Sent 1 (codes "201 Posting prohibited\r\n")
    ∷ Sent 1 (codes "490 No feed\r\n")
    ∷ Sent 1 (codes "101 Capability list:\r\nVERSION 2\r\nIMPLEMENTATION cnrelay\r\nIHAVE\r\n"
    ++ codes "STREAMING\r\nXTAKE\r\nXFETCH\r\n.\r\n")
    ∷ Sent 1 (codes "100 Help text follows\r\nCHECK TAKETHIS IHAVE STAT ARTICLE HEAD BODY OVER "
    ++ codes "XTAKE XFETCH MODE DATE CAPABILITIES HELP QUIT\r\n.\r\n")
    ∷ Ended 1 (codes "205 Bye\r\n") ∷ Quiet ∷ Refuses NoSession ∷ []

-- events that are refused, among them those of a session that leaves or has ended
abbrev pub refused_events : List Event
refused_events =
    Open 1 0 ∷ Open 1 0 ∷ Open 0 0 ∷ Open 2 2 ∷ Turn 9 now ∷ Bytes 9 [] ∷ Break 9
    ∷ Turn 1 253370764800 ∷ Turn 1 253370764799 ∷ Write 1 now ∷ Write 0 253370764800
    ∷ runs.Expire 16 now ∷ runs.Expire 15 253370764800 ∷ Turn 9 253370764800
    ∷ Write 1 253370764800 ∷ runs.Expire 16 253370764800 ∷ Open 1 2 ∷ Break 1 ∷ Bytes 1 [] ∷ Break 1
    ∷ Turn 1 now ∷ Turn 1 now ∷ []

-- the first reason of each
abbrev pub refused_events_replies : List Output
refused_events_replies =
    greeted 1 ∷ Refuses SessionTaken ∷ Refuses SessionTaken ∷ Refuses NoPeer ∷ Refuses NoSession
    ∷ Refuses NoSession ∷ Refuses NoSession ∷ Refuses BadMoment ∷ Quiet ∷ Refuses NoGroup
    ∷ Refuses BadMoment ∷ Refuses NoShard ∷ Refuses BadMoment ∷ Refuses NoSession
    ∷ Refuses NoGroup ∷ Refuses NoShard ∷ Refuses SessionTaken ∷ Ended 1 [] ∷ Refuses NoSession
    ∷ Refuses NoSession ∷ Quiet ∷ Refuses NoSession ∷ []

-- sessions are numbered from 0 on, and a number may be left out
abbrev pub numbers : List Event
numbers = Open 0 0 ∷ Open 0 1 ∷ Open 1 1 ∷ Open 5 0 ∷ Open 5 0 ∷ Open 3 0 ∷ Open 6 0 ∷ []

-- each number that isn't above all earlier ones is refused
abbrev pub numbers_replies : List Output
numbers_replies =
    greeted 0 ∷ Refuses SessionTaken ∷ greeted 1 ∷ greeted 5 ∷ Refuses SessionTaken
    ∷ Refuses SessionTaken ∷ greeted 6 ∷ []

-- a Turn, a Write and an Expire of the last shard, at the last moment that there is
abbrev pub last_moment : List Event
last_moment =
    Open 1 0 ∷ Turn 1 253370764799 ∷ Write 0 253370764799 ∷ runs.Expire 15 253370764799 ∷ []

-- each finds nothing to do
abbrev pub last_moment_replies : List Output
last_moment_replies = greeted 1 ∷ quiet 3

-- ring: three articles from the first peer, and the queue of the second, twice
abbrev pub ring : List Event
ring =
    both_open
    ++ Bytes 1 (codes "TAKETHIS <1@x>\r\n" ++ block_of (byte "1"))
    ∷ Bytes 1 (codes "TAKETHIS <2@x>\r\n" ++ block_of (byte "2"))
    ∷ Bytes 1 (codes "TAKETHIS <3@x>\r\n" ++ block_of (byte "3"))
    ∷ turns 1 3 ++ writes 6 ++ turns 1 4 ++ writes 6 ++ turns 1 4 ++ writes 6 ++ turns 1 1
    ++ Bytes 2 (codes "XTAKE 5\r\nXTAKE 5\r\n") ∷ turns 2 2

-- what the ring of two holds, the first missed; then nothing
abbrev pub ring_replies : List Output
ring_replies =
    both_greeted ++ quiet 3 ++ quiet 9
    ++ Sent 1 (codes "239 <1@x>\r\n") ∷ quiet 9
    ++ Sent 1 (codes "239 <2@x>\r\n") ∷ quiet 9
    ++ Sent 1 (codes "239 <3@x>\r\n") ∷ Quiet
    ∷ Sent 2 (codes "290 Queue follows\r\n1\r\n2 @01000000000000000001000000A4@\r\n"
    ++ codes "3 @01000000000000000002000000A4@\r\n.\r\n")
    ∷ Sent 2 (codes "290 Queue follows\r\n0\r\n.\r\n") ∷ []

-- an article of session 1 is being stored when session 2 offers one of its id
abbrev pub offered_meanwhile : List Event
offered_meanwhile =
    both_open
    ++ Bytes 1 (codes "TAKETHIS <a@x>\r\n" ++ block_of (byte "a"))
    ∷ Bytes 2 (codes "CHECK <a@x>\r\nIHAVE <a@x>\r\nCHECK <a@x>\r\nCHECK <a@x>\r\n")
    ∷ turns 1 2 ++ turns 2 2 ++ turns 1 1 ++ writes 4 ++ turns 2 1 ++ writes 1 ++ turns 2 1
    ++ writes 1 ++ turns 1 1

-- 431 and 436 until it is accepted, then 438
abbrev pub offered_meanwhile_replies : List Output
offered_meanwhile_replies =
    both_greeted ++ quiet 4
    ++ Sent 2 (codes "431 <a@x>\r\n") ∷ Sent 2 (codes "436 Try again later\r\n") ∷ quiet 5
    ++ Sent 2 (codes "431 <a@x>\r\n") ∷ Quiet ∷ Sent 2 (codes "438 <a@x>\r\n") ∷ Quiet
    ∷ Sent 1 (codes "239 <a@x>\r\n") ∷ []

-- an id whose article was refused, and then an article of it
abbrev pub refused_stays : List Event
refused_stays =
    Open 1 0 ∷ Bytes 1 (codes "TAKETHIS <a@x>\r\n.\r\nTAKETHIS <a@x>\r\n" ++ block_of (byte "a"))
    ∷ turns 1 4

-- 439 both times
abbrev pub refused_stays_replies : List Output
refused_stays_replies =
    greeted 1 ∷ quiet 2
    ++ Rejects 1 (codes "439 <a@x>\r\n") Grammar ∷ Quiet ∷ Sent 1 (codes "439 <a@x>\r\n") ∷ []

-- an article whose session breaks off before its job is pushed
abbrev pub broken_off : List Event
broken_off =
    both_open
    ++ Bytes 1 (codes "TAKETHIS <a@x>\r\n" ++ block_of (byte "a"))
    ∷ Bytes 2 (codes "STAT <a@x>\r\n")
    ∷ turns 1 2 ++ Break 1 ∷ turns 1 1 ++ writes 6 ++ turns 1 2 ++ turns 2 2

-- it is stored all the same: 223
abbrev pub broken_off_replies : List Output
broken_off_replies =
    both_greeted ++ quiet 4
    ++ Ended 1 [] ∷ quiet 8 ++ Refuses NoSession ∷ Quiet ∷ Sent 2 (codes "223 0 <a@x>\r\n") ∷ []

-- a session with two offers leaves: the older offer ends first
abbrev pub two_offers : List Event
two_offers =
    both_open
    ++ Bytes 1 (codes "CHECK <a@x>\r\nCHECK <b@x>\r\nCHECK <a@x>\r\nQUIT\r\n")
    ∷ Bytes 2 (codes "CHECK <b@x>\r\nCHECK <a@x>\r\nCHECK <b@x>\r\n")
    ∷ turns 1 5 ++ turns 2 2 ++ turns 1 1 ++ turns 2 1 ++ turns 1 2

-- 431 of the newer one, 238 of the older; then 238 of both
abbrev pub two_offers_replies : List Output
two_offers_replies =
    both_greeted ++ quiet 2
    ++ Sent 1 (codes "238 <a@x>\r\n") ∷ Sent 1 (codes "238 <b@x>\r\n")
    ∷ Sent 1 (codes "238 <a@x>\r\n") ∷ Ended 1 (codes "205 Bye\r\n") ∷ Quiet
    ∷ Sent 2 (codes "431 <b@x>\r\n") ∷ Sent 2 (codes "238 <a@x>\r\n") ∷ Quiet
    ∷ Sent 2 (codes "238 <b@x>\r\n") ∷ Quiet ∷ Refuses NoSession ∷ []

-- an article that is held goes with its session
abbrev pub held_and_broken : List Event
held_and_broken =
    both_open
    ++ Bytes 1 (codes "TAKETHIS <a@x>\r\n" ++ block_of (byte "a"))
    ∷ Bytes 2 (codes "TAKETHIS <a@x>\r\n" ++ block_of (byte "a"))
    ∷ turns 2 2 ++ turns 1 2 ++ Break 1 ∷ turns 1 2 ++ turns 2 1 ++ writes 6 ++ turns 2 1

-- nothing more of it
abbrev pub held_and_broken_replies : List Output
held_and_broken_replies =
    both_greeted ++ quiet 6 ++ Ended 1 [] ∷ Quiet ∷ Refuses NoSession ∷ quiet 7
    ++ Sent 2 (codes "239 <a@x>\r\n") ∷ []

-- parts of an article that session 1 sent, and the moment
abbrev pub parts : List Event
parts =
    Open 1 0 ∷ Bytes 1 (codes "TAKETHIS <a@x>\r\n" ++ block_of (byte "a"))
    ∷ Bytes 1 (codes "ARTICLE <a@x>\r\nHEAD <a@x>\r\nBODY <a@x>\r\nOVER <a@x>\r\nDATE\r\n")
    ∷ turns 1 3 ++ writes 6 ++ turns 1 10

-- the header of A(a, 1), as session 1 sent it and with its Path updated
abbrev pub header_a : List ℕ
header_a =
    codes "Path: relay.example!!one.example!not-for-mail\r\nFrom: a@x.example\r\n"
    ++ codes "Newsgroups: misc.test\r\nSubject: t\r\nMessage-ID: <a@x>\r\n"
    ++ codes "Date: Fri, 01 Jan 2021 00:00:00 +0000\r\n"

-- 220, 221, 222 and 224, each with its octets, and 111
abbrev pub parts_replies : List Output
parts_replies =
    greeted 1 ∷ quiet 11 ++ Sent 1 (codes "239 <a@x>\r\n") ∷ Quiet
    ∷ Sent 1 (codes "220 0 <a@x>\r\n" ++ header_a ++ codes "\r\nx\r\n.\r\n") ∷ Quiet
    ∷ Sent 1 (codes "221 0 <a@x>\r\n" ++ header_a ++ codes ".\r\n") ∷ Quiet
    ∷ Sent 1 (codes "222 0 <a@x>\r\nx\r\n.\r\n") ∷ Quiet
    ∷ Sent 1 (codes "224 Overview follows\r\n0\tt\ta@x.example\t"
    ++ codes "Fri, 01 Jan 2021 00:00:00 +0000\t<a@x>\t\t164\t1\r\n.\r\n")
    ∷ Sent 1 (codes "111 20210101000000\r\n") ∷ []

-- an article from the second peer, whose feed may have none of its own, and whose Path it isn't at
-- the front of
abbrev pub from_second : List Event
from_second =
    Open 2 1 ∷ Bytes 2 (codes "TAKETHIS <a@x>\r\n" ++ block_of (byte "a"))
    ∷ Bytes 2 (codes "XTAKE 5\r\nARTICLE <a@x>\r\n")
    ∷ turns 2 3 ++ writes 6 ++ turns 2 4

-- an empty queue, and the mismatch in the Path
abbrev pub from_second_replies : List Output
from_second_replies =
    greeted 2 ∷ quiet 11 ++ Sent 2 (codes "239 <a@x>\r\n")
    ∷ Sent 2 (codes "290 Queue follows\r\n0\r\n.\r\n") ∷ Quiet
    ∷ Sent 2 (codes "220 0 <a@x>\r\n"
    ++ codes "Path: relay.example!.MISMATCH.two.example!one.example!not-for-mail\r\n"
    ++ codes "From: a@x.example\r\nNewsgroups: misc.test\r\nSubject: t\r\n"
    ++ codes "Message-ID: <a@x>\r\nDate: Fri, 01 Jan 2021 00:00:00 +0000\r\n\r\nx\r\n.\r\n") ∷ []

-- the same where the feed is of the first peer, which is in the Path
abbrev pub for_first : List Event
for_first =
    both_open ++ Bytes 2 (codes "TAKETHIS <a@x>\r\n" ++ block_of (byte "a"))
    ∷ Bytes 1 (codes "XTAKE 5\r\n") ∷ turns 2 3 ++ writes 6 ++ turns 2 1 ++ turns 1 1

-- an empty queue
abbrev pub for_first_replies : List Output
for_first_replies =
    both_greeted ++ quiet 11 ++ Sent 2 (codes "239 <a@x>\r\n")
    ∷ Sent 1 (codes "290 Queue follows\r\n0\r\n.\r\n") ∷ []

-- an article of the first peer, and the queue of the second
abbrev pub classed : List Event
classed =
    both_open ++ Bytes 1 (codes "TAKETHIS <a@x>\r\n" ++ block_of (byte "a"))
    ∷ Bytes 2 (codes "XTAKE 5\r\n") ∷ turns 1 3 ++ writes 6 ++ turns 1 1 ++ turns 2 1

-- its token has the class of its entry
abbrev pub classed_replies : List Output
classed_replies =
    both_greeted ++ quiet 11 ++ Sent 1 (codes "239 <a@x>\r\n")
    ∷ Sent 2 (codes "290 Queue follows\r\n0\r\n1 @02000000000000000000000000A4@\r\n.\r\n") ∷ []

-- one article
abbrev pub one_article : (k : ℕ) → List Event
one_article k =
    Open 1 0 ∷ Bytes 1 (codes "TAKETHIS <a@x>\r\n" ++ article_text (worked_article (byte "a") k))
    ∷ Bytes 1 (codes ".\r\n") ∷ turns 1 2

-- 439, for this reason
abbrev pub one_refused : Reason → List Output
one_refused reason = greeted 1 ∷ quiet 3 ++ Rejects 1 (codes "439 <a@x>\r\n") reason ∷ []

-- nothing yet: it is being stored
abbrev pub one_stored : List Output
one_stored = greeted 1 ∷ quiet 4
