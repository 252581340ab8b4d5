-- The judgement of articles (RFC 5537 section 3.6; docs/PROTOCOL.md, Judging): the first reason
-- that applies, or what is stored and which feeds may have it.
use Rattle.std.specs.Prelude.{◌≡◌, ℕ, ℤ, ◌==◌, ◌&&◌, not, nat_le, Bool, false, List, [], length}
use Rattle.std.specs.Prelude.{filter, map, slice_get, unwrap_or, bytes_eq, Option, None, Some}
use Rattle.std.specs.Prelude.{is_some, Result, Ok, Err, if◌then◌else◌}
use Rattle.std.specs.List.{list_all, enumerate_from}
use Rattle.std.specs.Option.{option_and_then}
use Rattle.std.specs.Char.{is_ascii_graphic}
use Rattle.news_terms.specs.Article.{Article, IsArticleText, article_text, content_or_empty}
use Rattle.news_terms.specs.Article.{message_id, name_of, newsgroups}
use Rattle.news_terms.specs.Article as articles
use Rattle.news_terms.specs.Dates.{date_fault, judged_date, prepared_date}
use Rattle.news_terms.specs.Path.{has_identity, path_octets, updated_article}
use Rattle.news_terms.specs.Pattern.{permits}
use Rattle.news_terms.specs.Places.{Buffer, Group, size_of}
use Rattle.news_terms.specs.StorageClass.{Entry, chosen_entry}
use Rattle.relay_model.specs.Claims.{Accepted}
use Rattle.relay_model.specs.HashFeeds.{in_hash_feed}
use Rattle.relay_model.specs.Terms.{Terms, FeedTerms, Reason, Size, Grammar, IdMismatch, BadPath}
use Rattle.relay_model.specs.Terms.{Loop, Date, NoClass, TooLarge}

-- the identity of a peer (RFC 5536 section 3.1.5)
abbrev pub identity_of : Terms → ℕ → List ℕ
identity_of w peer = unwrap_or (slice_get w.peers peer) []

-- the Path of an article as it was received
abbrev pub path_of : Article → List ℕ
path_of a = content_or_empty (name_of articles.Path) a.fields

-- the feed may have an article from this peer (RFC 5537 section 3.6): its expression permits the
-- newsgroups, its peer isn't in the Path and isn't where the article came from, and the message-id
-- falls in its part
abbrev pub is_permitted : Terms → ℕ → Article → FeedTerms → Bool
is_permitted w from a feed =
    permits feed.expression (newsgroups a.fields)
    && not (has_identity (identity_of w feed.peer) (path_of a)) && not (feed.peer == from)
    && in_hash_feed feed.hash (message_id a.fields)

-- the numbers of the feeds that may have an article from this peer
abbrev pub permitted : Terms → ℕ → Article → List ℕ
permitted w from a =
    map (λ (one : ℕ × FeedTerms). one.0)
    (filter (λ (one : ℕ × FeedTerms). is_permitted w from a one.1) (enumerate_from 0 w.feeds))

-- each buffer of the group has room for so many blocks
abbrev pub fits : Option Group → ℕ → Bool
fits None size = false
fits (Some group) size = list_all (λ (buffer : Buffer). nat_le size buffer.blocks) group.buffers

-- the text that is stored: that of the article with its Path updated (RFC 5537 section 3.2.1)
abbrev pub stored_text : Terms → ℕ → Article → List ℕ
stored_text w from a = article_text (updated_article w.own (identity_of w from) a)

-- by the storage class that the article falls to; sizes are those of the updated text
abbrev pub classed : Terms → ℕ → Article → Option Entry → Result Accepted Reason
classed w from a None = Err NoClass
classed w from a (Some entry) =
    if fits (slice_get w.groups entry.group) (size_of (length (stored_text w from a)))
    then Ok (record {
      class = entry.class;
      group = entry.group;
      permitted = permitted w from a;
      text = stored_text w from a;
    })
    else Err TooLarge

-- the second of the date that an article is judged by, where it reads as one
abbrev pub second_of : Terms → Article → Option ℤ
second_of w a = option_and_then w.second_read (prepared_date (judged_date a.fields))

-- an article that was read, from this peer, offered under this id, at this moment: the reasons in
-- their order
abbrev pub judged : Terms → (from : ℕ) (id : List ℕ) (now : ℕ) → Article → Result Accepted Reason
judged w from id now a =
    if not (bytes_eq (message_id a.fields) id) then Err IdMismatch
    else (if not (list_all is_ascii_graphic (path_octets (path_of a))) then Err BadPath
    else (if has_identity w.own (path_of a) then Err Loop
    else (if is_some (date_fault now w.cutoff (second_of w a)) then Err Date
    else classed w from a
    (chosen_entry w.entries (newsgroups a.fields) (length (stored_text w from a))))))

-- what becomes of a block from this peer, offered under this id, at this moment: its text, or None
-- where it was oversize
pub data Judges (w : Terms) (from : ℕ) (id : List ℕ) (now : ℕ) (text : Option (List ℕ))
    (verdict : Result Accepted Reason) : Type 0 where
  IsOversize : text ≡ None → verdict ≡ Err Size → Judges w from id now text verdict
  IsNone : (octets : List ℕ) → text ≡ Some octets → ((a : Article) → ¬ IsArticleText octets a)
      → verdict ≡ Err Grammar → Judges w from id now text verdict
  IsRead : (octets : List ℕ) (a : Article) → text ≡ Some octets → IsArticleText octets a
      → verdict ≡ judged w from id now a → Judges w from id now text verdict
