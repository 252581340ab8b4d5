-- What a session says, as the definitions have it (docs/FORMATS.md, Replies), and room for it.
use Rattle.std.specs.Prelude.{◌≡◌, ◌≤◌, ℕ, ◌+◌, ◌*◌, List, ◌++◌}
use Rattle.std.specs.Prelude.{length, map, flat_map, codes, decimal}
use Rattle.news_terms.specs.Blocks.{stuffed, stuffed_room}
use Rattle.news_terms.specs.Reply.{line_of, queue_line}
use Rattle.news_terms.specs.Reply as terms
use Rattle.news_terms.specs.Token as token_terms
use Rattle.news_terms.specs.Token.{token_text}
use Rattle.cyc_token.specs.Token.{token_view}
use Rattle.cyc_token.specs.declared.Token.{Token}
use Rattle.nntp_text.specs.declared.reply.Reply.{Reply}
use Rattle.nntp_text.specs.declared.reply.Reply.TheVariants as replies
use Rattle.nntp_text.specs.declared.parts.Named.{Named}
use Rattle.nntp_text.specs.declared.parts.Named.TheVariants as named
use Rattle.nntp_text.specs.declared.parts.Rest.{Rest}
use Rattle.nntp_text.specs.declared.parts.Rest.TheVariants as rests
use Rattle.nntp_text.specs.declared.parts.Parts.{Parts}

-- an item of a queue as the definitions have it: its serial number and its token
abbrev pub item_view : ℕ × Token → ℕ × token_terms.Token
item_view item = (item.0, token_view item.1)

-- a reply as the definitions have it
abbrev pub reply_view : Reply → terms.Reply
reply_view replies.Greeting = terms.Greeting
reply_view replies.CapabilityList = terms.CapabilityList
reply_view replies.HelpText = terms.HelpText
reply_view (replies.DateIs digits) = terms.DateIs digits
reply_view replies.Bye = terms.Bye
reply_view replies.StreamingPermitted = terms.StreamingPermitted
reply_view replies.PostingProhibited = terms.PostingProhibited
reply_view (replies.SendIt id) = terms.SendIt id.now
reply_view (replies.AskLater id) = terms.AskLater id.now
reply_view (replies.NotWanted id) = terms.NotWanted id.now
reply_view (replies.Kept id) = terms.Kept id.now
reply_view (replies.Rejected id) = terms.Rejected id.now
reply_view replies.NotStored = terms.NotStored
reply_view replies.IhaveSend = terms.IhaveSend
reply_view replies.IhaveNotWanted = terms.IhaveNotWanted
reply_view replies.IhaveLater = terms.IhaveLater
reply_view replies.IhaveKept = terms.IhaveKept
reply_view replies.IhaveRejected = terms.IhaveRejected
reply_view (replies.ArticleFollows id text) = terms.ArticleFollows id.now text.now
reply_view (replies.HeaderFollows id text) = terms.HeaderFollows id.now text.now
reply_view (replies.BodyFollows id text) = terms.BodyFollows id.now text.now
reply_view (replies.Exists id) = terms.Exists id.now
reply_view (replies.OverviewFollows line) = terms.OverviewFollows line.now
reply_view replies.NoArticle = terms.NoArticle
reply_view replies.NoGroup = terms.NoGroup
reply_view replies.DeviceFault = terms.DeviceFault
reply_view (replies.QueueFollows missed items) = terms.QueueFollows missed (map item_view items.now)
reply_view replies.NoFeed = terms.NoFeed
reply_view (replies.TokenFollows token text) = terms.TokenFollows (token_view token) text.now
reply_view (replies.TokenGone token) = terms.TokenGone (token_view token)
reply_view (replies.TokenUnknown token) = terms.TokenUnknown (token_view token)
reply_view replies.UnknownCommand = terms.UnknownCommand
reply_view replies.SyntaxError = terms.SyntaxError
reply_view replies.LineTooLong = terms.LineTooLong

-- the most octets of a reply but for what it shows of an article or a queue
abbrev pub reply_room : ℕ
reply_room = 258

-- the most octets of a line of a queue: 20 digits, SP, a token of 30 octets, CRLF
abbrev pub item_room : ℕ
item_room = 53

-- the most octets of a reply, by the length of what it shows: the block that sends a text, an
-- overview line, the items of a queue
abbrev pub room_of : Reply → ℕ
room_of (replies.ArticleFollows id text) = reply_room + stuffed_room (length text.now)
room_of (replies.HeaderFollows id text) = reply_room + stuffed_room (length text.now)
room_of (replies.BodyFollows id text) = reply_room + stuffed_room (length text.now)
room_of (replies.TokenFollows token text) = reply_room + stuffed_room (length text.now)
room_of (replies.OverviewFollows line) = reply_room + length line.now
room_of (replies.QueueFollows missed items) = reply_room + item_room * length items.now
room_of replies.Greeting = reply_room
room_of replies.CapabilityList = reply_room
room_of replies.HelpText = reply_room
room_of (replies.DateIs digits) = reply_room
room_of replies.Bye = reply_room
room_of replies.StreamingPermitted = reply_room
room_of replies.PostingProhibited = reply_room
room_of (replies.SendIt id) = reply_room
room_of (replies.AskLater id) = reply_room
room_of (replies.NotWanted id) = reply_room
room_of (replies.Kept id) = reply_room
room_of (replies.Rejected id) = reply_room
room_of replies.NotStored = reply_room
room_of replies.IhaveSend = reply_room
room_of replies.IhaveNotWanted = reply_room
room_of replies.IhaveLater = reply_room
room_of replies.IhaveKept = reply_room
room_of replies.IhaveRejected = reply_room
room_of (replies.Exists id) = reply_room
room_of replies.NoArticle = reply_room
room_of replies.NoGroup = reply_room
room_of replies.DeviceFault = reply_room
room_of replies.NoFeed = reply_room
room_of (replies.TokenGone token) = reply_room
room_of (replies.TokenUnknown token) = reply_room
room_of replies.UnknownCommand = reply_room
room_of replies.SyntaxError = reply_room
room_of replies.LineTooLong = reply_room

-- what a first line names, after its words
abbrev pub named_after : List ℕ → Named → List ℕ
named_after words named.Nothing = words
named_after words (named.Id id) = words ++ id.now
named_after words (named.Token token) = words ++ token_text (token_view token)
named_after words (named.Gone token) = words ++ token_text (token_view token) ++ codes " gone"
named_after words (named.Unknown token) =
    words ++ token_text (token_view token) ++ codes " unknown"
named_after words (named.Digits digits) = words ++ digits

-- the most octets of what a first line names
abbrev pub named_room : Named → ℕ
named_room named.Nothing = 0
named_room (named.Id id) = 250
named_room (named.Token token) = 30
named_room (named.Gone token) = 35
named_room (named.Unknown token) = 38
named_room (named.Digits digits) = 14

-- what follows a first line, after it
abbrev pub rest_after : List ℕ → Rest → List ℕ
rest_after first rests.Nothing = first
rest_after first (rests.Text text) = first ++ stuffed text.now
rest_after first (rests.Line line) = first ++ line_of line.now ++ line_of (codes ".")
rest_after first (rests.Queue missed items) =
    first ++ line_of (decimal missed) ++ flat_map queue_line (map item_view items.now)
    ++ line_of (codes ".")

-- the most octets of what follows a first line
abbrev pub rest_room : Rest → ℕ
rest_room rests.Nothing = 0
rest_room (rests.Text text) = stuffed_room (length text.now)
rest_room (rests.Line line) = length line.now + 5
rest_room (rests.Queue missed items) = item_room * length items.now + 25

-- what the first line of a reply names
abbrev pub named_of : Reply → Named
named_of (replies.DateIs digits) = named.Digits digits
named_of (replies.SendIt id) = named.Id id
named_of (replies.AskLater id) = named.Id id
named_of (replies.NotWanted id) = named.Id id
named_of (replies.Kept id) = named.Id id
named_of (replies.Rejected id) = named.Id id
named_of (replies.ArticleFollows id text) = named.Id id
named_of (replies.HeaderFollows id text) = named.Id id
named_of (replies.BodyFollows id text) = named.Id id
named_of (replies.Exists id) = named.Id id
named_of (replies.TokenFollows token text) = named.Token token
named_of (replies.TokenGone token) = named.Gone token
named_of (replies.TokenUnknown token) = named.Unknown token
named_of reply = named.Nothing

-- what follows the first line of a reply
abbrev pub rest_of : Reply → Rest
rest_of (replies.ArticleFollows id text) = rests.Text text
rest_of (replies.HeaderFollows id text) = rests.Text text
rest_of (replies.BodyFollows id text) = rests.Text text
rest_of (replies.TokenFollows token text) = rests.Text text
rest_of (replies.OverviewFollows line) = rests.Line line
rest_of (replies.QueueFollows missed items) = rests.Queue missed items
rest_of reply = rests.Nothing

-- the octets of a reply by the words of its first line, what that names and what follows it
abbrev pub text_by : (words : List ℕ) → Named → Rest → List ℕ
text_by words named rest = rest_after (line_of (named_after words named)) rest

-- the octets of a reply by its parts
abbrev pub text_of : Parts → List ℕ
text_of parts = text_by parts.words.now parts.named parts.rest

-- the most octets of a first line by its words and what it names
abbrev pub first_room_by : (words : List ℕ) → Named → ℕ
first_room_by words named = length words + named_room named + 2

-- the most octets of a first line
abbrev pub first_room : Parts → ℕ
first_room parts = first_room_by parts.words.now parts.named

-- These are the words of a reply's first line: they make its text with what it names and what
-- follows it, and there is room for them.
pub record HasWords (reply : Reply) (words : List ℕ) : Type 0 where
  pub text : terms.reply_text (reply_view reply) ≡ text_by words (named_of reply) (rest_of reply)
  pub first : first_room_by words (named_of reply) ≤ reply_room
  pub room : first_room_by words (named_of reply) + rest_room (rest_of reply) ≤ room_of reply
