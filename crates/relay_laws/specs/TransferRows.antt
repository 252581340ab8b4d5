-- Rows on what becomes of articles.
use Rattle.std.specs.Prelude.{ℕ, List, [], ◌∷◌, ◌++◌, codes}
use Rattle.std.specs.Str.{byte}
use Rattle.news_terms.specs.Article.{article_text, worked_article}
use Rattle.news_terms.specs.Reply.{TokenFollows, reply_text}
use Rattle.news_terms.specs.Token.{Token}
use Rattle.relay_model.specs.Run.{Event, Open, Bytes, Turn, Write, Break}
use Rattle.relay_model.specs.Terms.{IdMismatch, Date}
use Rattle.relay_model.specs.World.{Output, Quiet, Sent, Rejects, Ended, Refuses, NoSession}
use Rattle.relay_laws.specs.Judgements.{stored_plain}
use Rattle.relay_laws.specs.Rows.{block_of, greeted, turns, writes, quiet, both_open}
use Rattle.relay_laws.specs.Rows.{both_greeted}
use Rattle.relay_laws.specs.Terms.{now}

-- an article of another message-id than the one that it is sent under
abbrev pub another_id : List Event
another_id =
    Open 1 0 ∷ Bytes 1 (codes "TAKETHIS <b@x>\r\n" ++ block_of (byte "a"))
    ∷ Bytes 1 (codes "CHECK <a@x>\r\nCHECK <b@x>\r\n") ∷ turns 1 4

-- 439; it is the id of the command that is remembered
abbrev pub another_id_replies : List Output
another_id_replies =
    greeted 1 ∷ quiet 3
    ++ Rejects 1 (codes "439 <b@x>\r\n") IdMismatch ∷ Sent 1 (codes "238 <a@x>\r\n")
    ∷ Sent 1 (codes "438 <b@x>\r\n") ∷ []

-- an article whose block is read at a moment of its own
abbrev pub read_at : ℕ → List Event
read_at moment =
    Open 1 0 ∷ Bytes 1 (codes "TAKETHIS <a@x>\r\n" ++ block_of (byte "a")) ∷ Turn 1 now
    ∷ Turn 1 moment ∷ []

-- nothing yet: it is being stored
abbrev pub taken_replies : List Output
taken_replies = greeted 1 ∷ quiet 3

-- 439, by its date
abbrev pub refused_replies : List Output
refused_replies = greeted 1 ∷ quiet 2 ++ Rejects 1 (codes "439 <a@x>\r\n") Date ∷ []

-- session 1 is told to send by IHAVE, and before it does session 2's article is stored
abbrev pub ihave_comes_late : List Event
ihave_comes_late =
    both_open
    ++ Bytes 1 (codes "IHAVE <a@x>\r\n")
    ∷ Bytes 2 (codes "TAKETHIS <a@x>\r\n" ++ block_of (byte "a"))
    ∷ turns 1 1 ++ turns 2 3 ++ writes 6 ++ turns 2 1 ++ Bytes 1 (block_of (byte "a")) ∷ turns 1 1

-- 335, 239 to the second, then 437
abbrev pub ihave_comes_late_replies : List Output
ihave_comes_late_replies =
    both_greeted ++ quiet 2
    ++ Sent 1 (codes "335 Send it\r\n") ∷ quiet 9
    ++ Sent 2 (codes "239 <a@x>\r\n") ∷ Quiet ∷ Sent 1 (codes "437 Rejected\r\n") ∷ []

-- an article whose session breaks off once its job is queued
abbrev pub queued_and_broken : List Event
queued_and_broken =
    both_open
    ++ Bytes 1 (codes "TAKETHIS <a@x>\r\n" ++ block_of (byte "a"))
    ∷ Bytes 2 (codes "STAT <a@x>\r\n")
    ∷ turns 1 3 ++ Break 1 ∷ turns 1 2 ++ writes 6 ++ turns 2 2

-- it is stored all the same: 223
abbrev pub queued_and_broken_replies : List Output
queued_and_broken_replies =
    both_greeted ++ quiet 5
    ++ Ended 1 [] ∷ Quiet ∷ Refuses NoSession ∷ quiet 7 ++ Sent 2 (codes "223 0 <a@x>\r\n") ∷ []

-- a Write of the second group, and one of the first, six times
abbrev pub both_write : List Event
both_write =
    Write 1 now ∷ Write 0 now ∷ Write 1 now ∷ Write 0 now ∷ Write 1 now ∷ Write 0 now
    ∷ Write 1 now ∷ Write 0 now ∷ Write 1 now ∷ Write 0 now ∷ Write 1 now ∷ Write 0 now ∷ []

-- A(a, 1) from session 1 goes to the first group, A(b, 2) from session 3 to the second, whose
-- writer is the first to settle; session 2 asks for the queue, and for both texts
abbrev pub two_writers : List Event
two_writers =
    both_open
    ++ Open 3 0 ∷ Bytes 1 (codes "TAKETHIS <a@x>\r\n" ++ block_of (byte "a"))
    ∷ Bytes 3
    (codes "TAKETHIS <b@x>\r\n" ++ article_text (worked_article (byte "b") 2) ++ codes ".\r\n")
    ∷ Bytes 2 (codes "XTAKE 5\r\nXFETCH @02010000000000000000000000A5@\r\n")
    ∷ Bytes 2 (codes "XFETCH @01000000000000000000000000A4@\r\n")
    ∷ turns 1 3 ++ turns 3 3 ++ both_write ++ turns 3 1 ++ turns 1 1 ++ turns 2 3

-- the token of A(a, 1), and that of A(b, 2)
abbrev pub token_of_a : Token
token_of_a = record { class = 1; buffer = 0; cycle = 0; first = 0; length = 164 }

abbrev pub token_of_b : Token
token_of_b = record { class = 2; buffer = 1; cycle = 0; first = 0; length = 165 }

-- A(b, 2) from the first peer, as it is stored
abbrev pub stored_b : List ℕ
stored_b =
    codes "Path: relay.example!!one.example!not-for-mail\r\nFrom: a@x.example\r\n"
    ++ codes "Newsgroups: misc.test\r\nSubject: t\r\nMessage-ID: <b@x>\r\n"
    ++ codes "Date: Fri, 01 Jan 2021 00:00:00 +0000\r\n\r\nxx\r\n"

-- each has its class, its buffer and its text, and the queue has them as they were settled
abbrev pub two_writers_replies : List Output
two_writers_replies =
    both_greeted ++ greeted 3 ∷ quiet 4 ++ quiet 6 ++ quiet 12
    ++ Sent 3 (codes "239 <b@x>\r\n") ∷ Sent 1 (codes "239 <a@x>\r\n")
    ∷ Sent 2 (codes "290 Queue follows\r\n0\r\n1 @02010000000000000000000000A5@\r\n"
    ++ codes "2 @01000000000000000000000000A4@\r\n.\r\n")
    ∷ Sent 2 (reply_text (TokenFollows token_of_b stored_b))
    ∷ Sent 2 (reply_text (TokenFollows token_of_a stored_plain)) ∷ []
