-- Rows on lines, and on when octets and breaks come.
use Rattle.std.specs.Prelude.{List, [], ◌∷◌, ◌++◌, codes, replicate}
use Rattle.std.specs.Str.{byte}
use Rattle.news_terms.specs.Article.{article_text, worked_article}
use Rattle.relay_model.specs.Run.{Event, Open, Bytes, Break}
use Rattle.relay_model.specs.World.{Output, Quiet, Sent, Ended, Refuses, NoSession}
use Rattle.relay_laws.specs.Rows.{greeted, turns, writes, quiet, header_a}

-- a line of 512 octets, one of 513, and QUIT
abbrev pub long_line : List Event
long_line =
    Open 1 0 ∷ Bytes 1 (replicate 510 (byte "x") ++ codes "\r\n")
    ∷ Bytes 1 (replicate 511 (byte "x") ++ codes "\r\nQUIT\r\n") ∷ turns 1 4

-- 500 of the first, 501 of the second, after which the session leaves
abbrev pub long_line_replies : List Output
long_line_replies =
    greeted 1 ∷ quiet 2
    ++ Sent 1 (codes "500 Unknown command\r\n") ∷ Ended 1 (codes "501 Line too long\r\n") ∷ Quiet
    ∷ Refuses NoSession ∷ []

-- octets come while a block is owed, while the session waits, and during a fetch
abbrev pub octets_at_any_time : List Event
octets_at_any_time =
    Open 1 0 ∷ Bytes 1 (codes "TAKETHIS <a@x>\r\n") ∷ turns 1 1
    ++ Bytes 1 (article_text (worked_article (byte "a") 1)) ∷ turns 1 1
    ++ Bytes 1 (codes ".\r\n") ∷ turns 1 2 ++ Bytes 1 (codes "ARTICLE <a@x>\r\n") ∷ turns 1 1
    ++ writes 6 ++ turns 1 2 ++ Bytes 1 (codes "FOO\r\n") ∷ turns 1 2

-- they are read when they are due: 239, 220, 500
abbrev pub octets_replies : List Output
octets_replies =
    greeted 1 ∷ quiet 9 ++ quiet 6 ++ Sent 1 (codes "239 <a@x>\r\n") ∷ quiet 2
    ++ Sent 1 (codes "220 0 <a@x>\r\n" ++ header_a ++ codes "\r\nx\r\n.\r\n")
    ∷ Sent 1 (codes "500 Unknown command\r\n") ∷ []

-- the connection is gone while a block is owed
abbrev pub broken_block : List Event
broken_block =
    Open 1 0 ∷ Bytes 1 (codes "TAKETHIS <a@x>\r\n") ∷ turns 1 1 ++ Break 1 ∷ turns 1 2

-- the session leaves
abbrev pub broken_block_replies : List Output
broken_block_replies = greeted 1 ∷ quiet 2 ++ Ended 1 [] ∷ Quiet ∷ Refuses NoSession ∷ []

-- a line comes in pieces, cut in its word, before its last octet, and before another line's end; a
-- Turn comes behind each
abbrev pub in_pieces : List Event
in_pieces =
    Open 1 0 ∷ Bytes 1 (codes "CHE") ∷ turns 1 1 ++ Bytes 1 (codes "CK <a@x>\r") ∷ turns 1 1
    ++ Bytes 1 (codes "\nFOO") ∷ turns 1 2 ++ Bytes 1 (codes "\r\n") ∷ turns 1 1

-- nothing until it is whole; then 238, and 500 of the other
abbrev pub in_pieces_replies : List Output
in_pieces_replies =
    greeted 1 ∷ quiet 5 ++ Sent 1 (codes "238 <a@x>\r\n") ∷ quiet 2
    ++ Sent 1 (codes "500 Unknown command\r\n") ∷ []
