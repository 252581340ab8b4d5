-- Replies (RFC 3977 section 3.2, RFC 4644; docs/FORMATS.md, Replies).
use Rattle.std.specs.Prelude.{ℕ, List, ◌++◌, flat_map, codes, decimal}
use Rattle.news_terms.specs.Lines.{crlf}
use Rattle.news_terms.specs.Blocks.{stuffed}
use Rattle.news_terms.specs.Token.{Token, token_text}

-- what a session says
pub data Reply : Type 0 where
  Greeting : Reply
  CapabilityList : Reply
  HelpText : Reply
  -- the moment as 14 digits
  DateIs : (digits : List ℕ) → Reply
  Bye : Reply
  StreamingPermitted : Reply
  PostingProhibited : Reply
  -- CHECK: to send it, to ask later, that it isn't wanted
  SendIt : (id : List ℕ) → Reply
  AskLater : (id : List ℕ) → Reply
  NotWanted : (id : List ℕ) → Reply
  -- TAKETHIS: that it was kept, that it was refused, that it couldn't be stored
  Kept : (id : List ℕ) → Reply
  Rejected : (id : List ℕ) → Reply
  NotStored : Reply
  -- IHAVE, first: the same three
  IhaveSend : Reply
  IhaveNotWanted : Reply
  IhaveLater : Reply
  -- IHAVE, second: that it was kept, that it was refused
  IhaveKept : Reply
  IhaveRejected : Reply
  -- fetches by message-id: the text that is sent
  ArticleFollows : (id text : List ℕ) → Reply
  HeaderFollows : (id text : List ℕ) → Reply
  BodyFollows : (id text : List ℕ) → Reply
  Exists : (id : List ℕ) → Reply
  OverviewFollows : (line : List ℕ) → Reply
  NoArticle : Reply
  NoGroup : Reply
  DeviceFault : Reply
  -- a feed's queue: how many were missed, and the items with their serial numbers
  QueueFollows : (missed : ℕ) (items : List (ℕ × Token)) → Reply
  NoFeed : Reply
  -- fetches by token
  TokenFollows : (token : Token) (text : List ℕ) → Reply
  TokenGone : (token : Token) → Reply
  TokenUnknown : (token : Token) → Reply
  -- faults
  UnknownCommand : Reply
  SyntaxError : Reply
  LineTooLong : Reply

-- a line of its own
abbrev pub line_of : List ℕ → List ℕ
line_of text = text ++ crlf

-- a line of a queue: serial number and token
abbrev pub queue_line : ℕ × Token → List ℕ
queue_line item = line_of (decimal item.0 ++ codes " " ++ token_text item.1)

-- the octets of a reply
abbrev pub reply_text : Reply → List ℕ
reply_text Greeting = line_of (codes "201 cnrelay ready, posting prohibited")
reply_text CapabilityList =
    line_of (codes "101 Capability list:") ++ line_of (codes "VERSION 2")
    ++ line_of (codes "IMPLEMENTATION cnrelay") ++ line_of (codes "IHAVE")
    ++ line_of (codes "STREAMING") ++ line_of (codes "XTAKE") ++ line_of (codes "XFETCH")
    ++ line_of (codes ".")
reply_text HelpText =
    line_of (codes "100 Help text follows")
    ++ line_of (codes "CHECK TAKETHIS IHAVE STAT ARTICLE HEAD BODY OVER XTAKE XFETCH "
    ++ codes "MODE DATE CAPABILITIES HELP QUIT")
    ++ line_of (codes ".")
reply_text (DateIs digits) = line_of (codes "111 " ++ digits)
reply_text Bye = line_of (codes "205 Bye")
reply_text StreamingPermitted = line_of (codes "203 Streaming permitted")
reply_text PostingProhibited = line_of (codes "201 Posting prohibited")
reply_text (SendIt id) = line_of (codes "238 " ++ id)
reply_text (AskLater id) = line_of (codes "431 " ++ id)
reply_text (NotWanted id) = line_of (codes "438 " ++ id)
reply_text (Kept id) = line_of (codes "239 " ++ id)
reply_text (Rejected id) = line_of (codes "439 " ++ id)
reply_text NotStored = line_of (codes "400 Not stored, closing")
reply_text IhaveSend = line_of (codes "335 Send it")
reply_text IhaveNotWanted = line_of (codes "435 Not wanted")
reply_text IhaveLater = line_of (codes "436 Try again later")
reply_text IhaveKept = line_of (codes "235 Transferred")
reply_text IhaveRejected = line_of (codes "437 Rejected")
reply_text (ArticleFollows id text) = line_of (codes "220 0 " ++ id) ++ stuffed text
reply_text (HeaderFollows id text) = line_of (codes "221 0 " ++ id) ++ stuffed text
reply_text (BodyFollows id text) = line_of (codes "222 0 " ++ id) ++ stuffed text
reply_text (Exists id) = line_of (codes "223 0 " ++ id)
reply_text (OverviewFollows line) =
    line_of (codes "224 Overview follows") ++ line_of line ++ line_of (codes ".")
reply_text NoArticle = line_of (codes "430 No such article")
reply_text NoGroup = line_of (codes "412 No group selected")
reply_text DeviceFault = line_of (codes "403 Device fault")
reply_text (QueueFollows missed items) =
    line_of (codes "290 Queue follows") ++ line_of (decimal missed) ++ flat_map queue_line items
    ++ line_of (codes ".")
reply_text NoFeed = line_of (codes "490 No feed")
reply_text (TokenFollows token text) = line_of (codes "292 " ++ token_text token) ++ stuffed text
reply_text (TokenGone token) = line_of (codes "492 " ++ token_text token ++ codes " gone")
reply_text (TokenUnknown token) = line_of (codes "493 " ++ token_text token ++ codes " unknown")
reply_text UnknownCommand = line_of (codes "500 Unknown command")
reply_text SyntaxError = line_of (codes "501 Syntax error")
reply_text LineTooLong = line_of (codes "501 Line too long")
