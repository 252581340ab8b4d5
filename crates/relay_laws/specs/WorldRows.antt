-- The worked rows from other worlds: their events, and what these are answered.
use Rattle.std.specs.Prelude.{ℕ, ◌+◌, List, [], ◌∷◌, ◌++◌, codes, replicate, flat_map}
use Rattle.std.specs.Str.{byte}
use Rattle.news_terms.specs.Article.{Article, field_text}
use Rattle.news_terms.specs.Overview.{overview_line}
use Rattle.news_terms.specs.Reply.{ArticleFollows, HeaderFollows, BodyFollows, OverviewFollows}
use Rattle.news_terms.specs.Reply.{TokenFollows, reply_text}
use Rattle.relay_model.specs.Run.{Event, Bytes, Turn, Break, Expire}
use Rattle.relay_model.specs.Terms.{Grammar}
use Rattle.relay_model.specs.World.{Output, Quiet, Sent, Rejects, Ended, Refuses, NoSession}
use Rattle.relay_laws.specs.Rows.{block_of, turns, writes, quiet}
use Rattle.relay_laws.specs.Terms.{now}
use Rattle.relay_laws.specs.Worlds.{three_blocks_at}

-- lost while reading: session 2 has read two of three blocks when the third article is begun
abbrev pub lost_while_reading : List Event
lost_while_reading = Bytes 2 (codes "ARTICLE <1@x>\r\n") ∷ turns 2 3 ++ writes 2 ++ turns 2 1

-- 430
abbrev pub lost_replies : List Output
lost_replies = quiet 6 ++ Sent 2 (codes "430 No such article\r\n") ∷ []

-- the same with the last block read before the begin
abbrev pub read_before : List Event
read_before = Bytes 2 (codes "ARTICLE <1@x>\r\n") ∷ turns 2 3 ++ writes 1 ++ turns 2 1 ++ writes 1

-- 220 and the whole article
abbrev pub read_replies : List ℕ → List Output
read_replies one =
    quiet 5 ++ Sent 2 (reply_text (ArticleFollows (codes "<1@x>") one)) ∷ Quiet ∷ []

-- the same by this command, with the begin before the second block is read
abbrev pub lost_early : List ℕ → List Event
lost_early command = Bytes 2 command ∷ turns 2 2 ++ writes 2 ++ turns 2 1

-- 430 at once
abbrev pub lost_early_replies : List Output
lost_early_replies = quiet 5 ++ Sent 2 (codes "430 No such article\r\n") ∷ []

-- parts of an article of three blocks
abbrev pub parts_of_three_blocks : List Event
parts_of_three_blocks =
    Bytes 2 (codes "HEAD <2@x>\r\nBODY <2@x>\r\nOVER <2@x>\r\n") ∷ turns 2 12

-- each is looked up, then it comes by the Turn that reads the third block
abbrev pub parts_replies : Article → List Output
parts_replies a =
    quiet 4 ++ Sent 2 (reply_text (HeaderFollows (codes "<2@x>") (flat_map field_text a.fields)))
    ∷ quiet 3 ++ Sent 2 (reply_text (BodyFollows (codes "<2@x>") a.body))
    ∷ quiet 3 ++ Sent 2 (reply_text (OverviewFollows (overview_line a))) ∷ []

-- before the last block is read octets come
abbrev pub octets_during_fetch : List Event
octets_during_fetch = Bytes 2 (codes "FOO\r\n") ∷ turns 2 2

-- they are read behind it
abbrev pub octets_during_fetch_replies : List ℕ → List Output
octets_during_fetch_replies one =
    Quiet ∷ Sent 2 (reply_text (ArticleFollows (codes "<1@x>") one))
    ∷ Sent 2 (codes "500 Unknown command\r\n") ∷ []

-- before the last block is read the connection is gone
abbrev pub break_during_fetch : List Event
break_during_fetch = Break 2 ∷ turns 2 2

-- the session leaves
abbrev pub break_during_fetch_replies : List Output
break_during_fetch_replies = Ended 2 [] ∷ Quiet ∷ Refuses NoSession ∷ []

-- three articles were begun: XFETCH of two tokens that the front has passed, and of two that never
-- were, though it has passed their block: one without a length, one past the buffer's end
abbrev pub passed_or_never : List Event
passed_or_never =
    Bytes 2 (codes "XFETCH @01000000000000000000000005A0@\r\n")
    ∷ Bytes 2 (codes "XFETCH @0100000000000000000100000D20@\r\n")
    ∷ Bytes 2 (codes "XFETCH @0100000000000000000000000000@\r\n")
    ∷ Bytes 2 (codes "XFETCH @0100000000000000000200000D20@\r\n")
    ∷ turns 2 4

-- 492, and 493
abbrev pub passed_or_never_replies : List Output
passed_or_never_replies =
    quiet 4
    ++ Sent 2 (codes "492 @01000000000000000000000005A0@ gone\r\n")
    ∷ Sent 2 (codes "492 @0100000000000000000100000D20@ gone\r\n")
    ∷ Sent 2 (codes "493 @0100000000000000000000000000@ unknown\r\n")
    ∷ Sent 2 (codes "493 @0100000000000000000200000D20@ unknown\r\n") ∷ []

-- overwrite: the third article is stored, and STAT and XFETCH ask for what is gone, what is there,
-- and what never was: nothing began at that block, a cycle to come, no such buffer, no length,
-- another class or one octet less than what is there
abbrev pub overwrite : List Event
overwrite =
    writes 8
    ++ Bytes 2 (codes "STAT <1@x>\r\nXFETCH @01000000000000000000000005A0@\r\n")
    ∷ Bytes 2 (codes "STAT <2@x>\r\nXFETCH @01000000000000000003000005A0@\r\n")
    ∷ Bytes 2 (codes "XFETCH @01000000000000000004000005A0@\r\n")
    ∷ Bytes 2 (codes "XFETCH @01000000000200000000000005A0@\r\n")
    ∷ Bytes 2 (codes "XFETCH @01010000000000000003000005A0@\r\n")
    ∷ Bytes 2 (codes "XFETCH @0100000000000000000300000000@\r\n")
    ∷ Bytes 2 (codes "XFETCH @02000000000000000003000005A0@\r\n")
    ∷ Bytes 2 (codes "XFETCH @010000000000000000030000059F@\r\n")
    ∷ Bytes 2 (codes "XFETCH @01000000000100000000000005a0@\r\n")
    ∷ turns 2 15

-- 430, 492; 223, 292 and the whole article; 493 of each that never was; 501 of a lower case letter
abbrev pub overwrite_replies : List ℕ → List Output
overwrite_replies two =
    quiet 17 ++ Quiet ∷ Sent 2 (codes "430 No such article\r\n")
    ∷ Sent 2 (codes "492 @01000000000000000000000005A0@ gone\r\n") ∷ Quiet
    ∷ Sent 2 (codes "223 0 <2@x>\r\n") ∷ quiet 2
    ++ Sent 2 (reply_text (TokenFollows (three_blocks_at 0 3) two))
    ∷ Sent 2 (codes "493 @01000000000000000004000005A0@ unknown\r\n")
    ∷ Sent 2 (codes "493 @01000000000200000000000005A0@ unknown\r\n")
    ∷ Sent 2 (codes "493 @01010000000000000003000005A0@ unknown\r\n")
    ∷ Sent 2 (codes "493 @0100000000000000000300000000@ unknown\r\n")
    ∷ Sent 2 (codes "493 @02000000000000000003000005A0@ unknown\r\n")
    ∷ Sent 2 (codes "493 @010000000000000000030000059F@ unknown\r\n")
    ∷ Sent 2 (codes "501 Syntax error\r\n") ∷ []

-- failed write: after the failure the third article is given up and session 1 told; its id may be
-- offered again, the first article stays gone, and the fourth is stored at block 3 of cycle 1
abbrev pub after_failure : List Event
after_failure =
    writes 3 ++ turns 1 2 ++ Bytes 2 (codes "CHECK <3@x>\r\nSTAT <1@x>\r\nXTAKE 5\r\n") ∷ turns 2 3
    ++ writes 8 ++ turns 3 1 ++ turns 2 1

-- 400 and the end; 238, 430; 235, and its token
abbrev pub after_failure_replies : List Output
after_failure_replies =
    quiet 3 ++ Ended 1 (codes "400 Not stored, closing\r\n") ∷ quiet 2
    ++ Sent 2 (codes "238 <3@x>\r\n") ∷ Quiet ∷ Sent 2 (codes "430 No such article\r\n")
    ∷ quiet 8 ++ Sent 3 (codes "235 Transferred\r\n")
    ∷ Sent 2 (codes "290 Queue follows\r\n0\r\n1 @01000000000100000003000005A0@\r\n.\r\n") ∷ []

-- a failed IHAVE is told 436, and the session goes on
abbrev pub fourth_fails : List Event
fourth_fails = writes 3 ++ turns 3 2

-- 436, and nothing more is due
abbrev pub fourth_fails_replies : List Output
fourth_fails_replies = quiet 3 ++ Sent 3 (codes "436 Try again later\r\n") ∷ Quiet ∷ []

-- last cycle: the third article is begun at block 3 of it, the fourth has no room behind it; then
-- the queue is asked for
abbrev pub last_cycle : List Event
last_cycle =
    writes 8 ++ turns 1 1 ++ writes 4 ++ turns 3 1 ++ Bytes 2 (codes "XTAKE 5\r\n") ∷ turns 2 1

-- 239, 436; the third alone is in the queue
abbrev pub last_cycle_replies : List Output
last_cycle_replies =
    quiet 8 ++ Sent 1 (codes "239 <3@x>\r\n") ∷ quiet 4
    ++ Sent 3 (codes "436 Try again later\r\n") ∷ Quiet
    ∷ Sent 2 (codes "290 Queue follows\r\n0\r\n1 @0100FFFFFFFF00000003000005A0@\r\n.\r\n") ∷ []

-- the front is read first, and nothing is forgotten; then, a second too early, nothing either; then
-- the first id is forgotten, whose article is gone, and the refused one, but not that of the
-- second, which is live, nor one that is offered
abbrev pub forgotten_ids : List Event
forgotten_ids =
    Bytes 2 (codes "CHECK <1@x>\r\nCHECK <1@x>\r\nCHECK <1@x>\r\nCHECK <1@x>\r\nCHECK <2@x>\r\n")
    ∷ Bytes 2 (codes "CHECK <e@x>\r\nCHECK <e@x>\r\nCHECK <o@x>\r\n")
    ∷ Expire 3 (now + 100) ∷ Turn 2 now ∷ Expire 3 (now + 99) ∷ Turn 2 now
    ∷ Expire 4 (now + 100) ∷ Turn 2 now ∷ Expire 3 (now + 100) ∷ Turn 2 now
    ∷ Expire 4 (now + 100) ∷ Turn 2 now ∷ Expire 7 (now + 99) ∷ Turn 2 now
    ∷ Expire 7 (now + 100) ∷ Turn 2 now ∷ Expire 1 (now + 100) ∷ Turn 2 now ∷ []

-- 438 until an id is forgotten, then 238; 431 of the one that is offered
abbrev pub forgotten_replies : List Output
forgotten_replies =
    quiet 3
    ++ Sent 2 (codes "438 <1@x>\r\n") ∷ Quiet ∷ Sent 2 (codes "438 <1@x>\r\n") ∷ Quiet
    ∷ Sent 2 (codes "438 <1@x>\r\n") ∷ Quiet ∷ Sent 2 (codes "238 <1@x>\r\n") ∷ Quiet
    ∷ Sent 2 (codes "438 <2@x>\r\n") ∷ Quiet ∷ Sent 2 (codes "438 <e@x>\r\n") ∷ Quiet
    ∷ Sent 2 (codes "238 <e@x>\r\n") ∷ Quiet ∷ Sent 2 (codes "431 <o@x>\r\n") ∷ []

-- two buffers: both fronts are read, then the ids of a shard are forgotten; a second too early none
-- is, and what is live in either buffer never is
abbrev pub forgotten_in_two : List Event
forgotten_in_two =
    Bytes 2 (codes "CHECK <1@x>\r\nCHECK <1@x>\r\nCHECK <1@x>\r\nCHECK <1@x>\r\n")
    ∷ Bytes 2 (codes "CHECK <2@x>\r\nCHECK <3@x>\r\n")
    ∷ Expire 3 (now + 100) ∷ Turn 2 now ∷ Expire 3 (now + 100) ∷ Turn 2 now
    ∷ Expire 3 (now + 99) ∷ Turn 2 now ∷ Expire 3 (now + 100) ∷ Turn 2 now
    ∷ Expire 4 (now + 100) ∷ Turn 2 now ∷ Expire 5 (now + 100) ∷ Turn 2 now ∷ []

-- 238 of what is overwritten in the second buffer, 438 else
abbrev pub forgotten_in_two_replies : List Output
forgotten_in_two_replies =
    quiet 3
    ++ Sent 2 (codes "438 <1@x>\r\n") ∷ Quiet ∷ Sent 2 (codes "438 <1@x>\r\n") ∷ Quiet
    ∷ Sent 2 (codes "438 <1@x>\r\n") ∷ Quiet ∷ Sent 2 (codes "238 <1@x>\r\n") ∷ Quiet
    ∷ Sent 2 (codes "438 <2@x>\r\n") ∷ Quiet ∷ Sent 2 (codes "438 <3@x>\r\n") ∷ []

-- sixteen Expires forget, then the front is read again
abbrev pub sixteen_expires : List Event
sixteen_expires =
    replicate 16 (Expire 7 now) ++ Expire 3 (now + 100) ∷ Expire 7 (now + 100)
    ∷ Bytes 2 (codes "CHECK <1@x>\r\nCHECK <e@x>\r\nCHECK <e@x>\r\n") ∷ turns 2 2
    ++ Expire 7 (now + 100) ∷ Turn 2 now ∷ []

-- 238 of what the sixteenth forgot, 438 of what the next Expire leaves, 238 after the one behind it
abbrev pub sixteen_replies : List Output
sixteen_replies =
    quiet 19 ++ Sent 2 (codes "238 <1@x>\r\n") ∷ Sent 2 (codes "438 <e@x>\r\n") ∷ Quiet
    ∷ Sent 2 (codes "238 <e@x>\r\n") ∷ []

-- offers of a new id, of one that is open, and of the new one again
abbrev pub offers : List Event
offers =
    Bytes 1 (codes "CHECK <n@x>\r\nIHAVE <m@x>\r\n") ∷ turns 1 2

-- 431 and 436: no further offer may be opened
abbrev pub full_replies : List Output
full_replies =
    Quiet ∷ Sent 1 (codes "431 <n@x>\r\n") ∷ Sent 1 (codes "436 Try again later\r\n") ∷ []

-- 238 for the one that there is room for, then 436
abbrev pub last_replies : List Output
last_replies =
    Quiet ∷ Sent 1 (codes "238 <n@x>\r\n") ∷ Sent 1 (codes "436 Try again later\r\n") ∷ []

-- a new id, half a minute after the oldest offer was opened, and a second later
abbrev pub new_again : List Event
new_again =
    Bytes 1 (codes "CHECK <n@x>\r\nCHECK <n@x>\r\n")
    ∷ Turn 1 (now + 30) ∷ Turn 1 (now + 31) ∷ Turn 1 (now + 31) ∷ []

-- 431; then the oldest offer has run out and ends, and there is room: 238
abbrev pub new_again_replies : List Output
new_again_replies =
    Quiet ∷ Sent 1 (codes "431 <n@x>\r\n") ∷ Quiet ∷ Sent 1 (codes "238 <n@x>\r\n") ∷ []

-- where offers don't run out: 431 twice
abbrev pub staying_replies : List Output
staying_replies =
    Quiet ∷ Sent 1 (codes "431 <n@x>\r\n") ∷ Sent 1 (codes "431 <n@x>\r\n") ∷ Quiet ∷ []

-- an offer of an id that is open
abbrev pub open_again : List Event
open_again = Bytes 1 (codes "CHECK <o@x>\r\n") ∷ turns 1 1

-- 238
abbrev pub open_again_replies : List Output
open_again_replies = Quiet ∷ Sent 1 (codes "238 <o@x>\r\n") ∷ []

-- a new id, an open one that is being stored for another session, the new one again and a second
-- one; then an open one that is stored, and the second new one again
abbrev pub outdated_offers : List Event
outdated_offers =
    Bytes 1 (codes "CHECK <n@x>\r\nCHECK <3@x>\r\nCHECK <n@x>\r\nCHECK <m@x>\r\n")
    ∷ Bytes 1 (codes "CHECK <2@x>\r\nCHECK <m@x>\r\n") ∷ turns 1 6

-- 431 and 438 end an offer: a new id has room after each
abbrev pub outdated_replies : List Output
outdated_replies =
    quiet 2
    ++ Sent 1 (codes "431 <n@x>\r\n") ∷ Sent 1 (codes "431 <3@x>\r\n")
    ∷ Sent 1 (codes "238 <n@x>\r\n") ∷ Sent 1 (codes "431 <m@x>\r\n")
    ∷ Sent 1 (codes "438 <2@x>\r\n") ∷ Sent 1 (codes "238 <m@x>\r\n") ∷ []

-- the same by IHAVE
abbrev pub outdated_by_ihave : List Event
outdated_by_ihave =
    Bytes 1 (codes "CHECK <n@x>\r\nIHAVE <3@x>\r\nCHECK <n@x>\r\nCHECK <m@x>\r\n")
    ∷ Bytes 1 (codes "IHAVE <2@x>\r\nCHECK <m@x>\r\n") ∷ turns 1 6

-- 436 and 435 end an offer too
abbrev pub outdated_by_ihave_replies : List Output
outdated_by_ihave_replies =
    quiet 2
    ++ Sent 1 (codes "431 <n@x>\r\n") ∷ Sent 1 (codes "436 Try again later\r\n")
    ∷ Sent 1 (codes "238 <n@x>\r\n") ∷ Sent 1 (codes "431 <m@x>\r\n")
    ∷ Sent 1 (codes "435 Not wanted\r\n") ∷ Sent 1 (codes "238 <m@x>\r\n") ∷ []

-- a new id where no further offer may be opened, an article of an open one, and the new id again
abbrev pub sent_is_no_offer : List Event
sent_is_no_offer =
    Bytes 1 (codes "CHECK <n@x>\r\nTAKETHIS <3@x>\r\n.\r\nCHECK <n@x>\r\n") ∷ turns 1 4

-- 431, 439; the offer has ended, and the new one has room
abbrev pub sent_is_no_offer_replies : List Output
sent_is_no_offer_replies =
    Quiet ∷ Sent 1 (codes "431 <n@x>\r\n") ∷ Quiet
    ∷ Rejects 1 (codes "439 <3@x>\r\n") Grammar
    ∷ Sent 1 (codes "238 <n@x>\r\n") ∷ []

-- the same by IHAVE
abbrev pub sent_by_ihave : List Event
sent_by_ihave =
    Bytes 1 (codes "CHECK <n@x>\r\nIHAVE <3@x>\r\n.\r\nCHECK <n@x>\r\n") ∷ turns 1 4

-- 431, 335, 437; the offer has ended
abbrev pub sent_by_ihave_replies : List Output
sent_by_ihave_replies =
    Quiet ∷ Sent 1 (codes "431 <n@x>\r\n") ∷ Sent 1 (codes "335 Send it\r\n")
    ∷ Rejects 1 (codes "437 Rejected\r\n") Grammar ∷ Sent 1 (codes "238 <n@x>\r\n") ∷ []

-- the same by TAKETHIS, with an article that can be stored
abbrev pub stored_is_no_offer : List Event
stored_is_no_offer =
    Bytes 1 (codes "CHECK <n@x>\r\nTAKETHIS <3@x>\r\n" ++ block_of (byte "3"))
    ∷ Bytes 1 (codes "CHECK <n@x>\r\n") ∷ turns 1 4 ++ writes 6 ++ turns 1 2

-- 431, 239; the offer has ended here too
abbrev pub stored_is_no_offer_replies : List Output
stored_is_no_offer_replies =
    quiet 2 ++ Sent 1 (codes "431 <n@x>\r\n") ∷ quiet 9 ++ Sent 1 (codes "239 <3@x>\r\n")
    ∷ Sent 1 (codes "238 <n@x>\r\n") ∷ []

-- session 1 leaves, ids are forgotten, and an article of a stored id is refused
abbrev pub kept_from_others : List Event
kept_from_others =
    Break 1 ∷ turns 1 5 ++ Expire 1 (now + 100) ∷ Expire 1 (now + 100) ∷ Expire 6 (now + 100)
    ∷ Bytes 2 (codes "CHECK <o@x>\r\nCHECK <3@x>\r\nCHECK <4@x>\r\nSTAT <2@x>\r\n")
    ∷ Bytes 2 (codes "TAKETHIS <2@x>\r\n.\r\nSTAT <2@x>\r\n") ∷ turns 2 9

-- 431 of what is offered to another or being stored; 223 of what is stored, before and after
-- the 439
abbrev pub kept_from_others_replies : List Output
kept_from_others_replies =
    Ended 1 [] ∷ quiet 10
    ++ Sent 2 (codes "431 <o@x>\r\n") ∷ Sent 2 (codes "431 <3@x>\r\n")
    ∷ Sent 2 (codes "431 <4@x>\r\n") ∷ Quiet ∷ Sent 2 (codes "223 0 <2@x>\r\n") ∷ Quiet
    ∷ Rejects 2 (codes "439 <2@x>\r\n") Grammar ∷ Quiet ∷ Sent 2 (codes "223 0 <2@x>\r\n") ∷ []
