-- Which reasons against an article apply to it (RFC 5537 section 3.6; docs/PROTOCOL.md, Judging).
use Rattle.std.specs.Prelude.{◌≡◌, ◌≢◌, ℕ, true, false, List, length, slice_get, None}
use Rattle.std.specs.Prelude.{is_some, IsSomeAnd}
use Rattle.std.specs.List.{list_all}
use Rattle.std.specs.Char.{is_ascii_graphic}
use Rattle.news_terms.specs.Article.{Article, message_id, newsgroups}
use Rattle.news_terms.specs.Dates.{date_fault}
use Rattle.news_terms.specs.Path.{has_identity, path_octets}
use Rattle.news_terms.specs.Places.{size_of}
use Rattle.news_terms.specs.StorageClass.{chosen_entry}
use Rattle.relay_model.specs.Judging.{fits, path_of, second_of, stored_text}
use Rattle.relay_model.specs.Terms.{Terms, Reason, Size, Grammar, IdMismatch, BadPath, Loop, Date}
use Rattle.relay_model.specs.Terms.{NoClass, TooLarge}

-- the reason applies to an article from this peer, offered under this id, at this moment
abbrev pub Applies : Terms → (from : ℕ) (id : List ℕ) (now : ℕ) → Article → Reason → Type 0
-- what was read as an article is neither oversize nor without grammar
Applies w from id now a Size = ⊥
Applies w from id now a Grammar = ⊥
-- its message-id is another
Applies w from id now a IdMismatch = message_id a.fields ≢ id
-- its Path has an octet that isn't printable
Applies w from id now a BadPath =
    list_all is_ascii_graphic (path_octets (path_of a)) ≡ false
-- the own identity is in its Path: it has been here
Applies w from id now a Loop = has_identity w.own (path_of a) ≡ true
-- its date can't be read, or is outside of the window
Applies w from id now a Date = is_some (date_fault now w.cutoff (second_of w a)) ≡ true
-- it falls to no storage class
Applies w from id now a NoClass =
    chosen_entry w.entries (newsgroups a.fields) (length (stored_text w from a)) ≡ None
-- a buffer of the group of its class has no room for it
Applies w from id now a TooLarge =
    IsSomeAnd (chosen_entry w.entries (newsgroups a.fields) (length (stored_text w from a)))
    (λ entry. fits (slice_get w.groups entry.group) (size_of (length (stored_text w from a)))
    ≡ false)
