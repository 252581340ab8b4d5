-- Articles that are judged one by one: what each has against it, and what of it is stored.
use Rattle.std.specs.Prelude.{ℕ, ◌+◌, pos, List, [], ◌∷◌, ◌++◌, Some, codes, bytes_eq}
use Rattle.std.specs.Prelude.{if◌then◌else◌}
use Rattle.std.specs.Str.{byte}
use Rattle.news_terms.specs.Article.{Article, Field, worked_article}
use Rattle.relay_model.specs.Claims.{Accepted}
use Rattle.relay_model.specs.Terms.{Terms}
use Rattle.relay_laws.specs.Terms.{k1, now, buffer_a, every_article, group_g, own_is_first}
use Rattle.relay_laws.specs.Terms.{second_read}

-- A(a, 1), with this Path and these further fields
abbrev pub article_with : (path : List ℕ) → List Field → Article
article_with path more =
    record {
      fields =
          record { name = codes "Path"; content = path }
          ∷ record { name = codes "From"; content = codes " a@x.example" }
          ∷ record { name = codes "Newsgroups"; content = codes " misc.test" }
          ∷ record { name = codes "Subject"; content = codes " t" }
          ∷ record { name = codes "Message-ID"; content = codes " <a@x>" }
          ∷ record { name = codes "Date"; content = codes " Fri, 01 Jan 2021 00:00:00 +0000" }
          ∷ more;
      body = codes "x\r\n";
    }

-- A(a, 1)
abbrev pub plain : Article
plain = worked_article (byte "a") 1

-- its Path has an octet that isn't printable, behind the identity of the first peer
abbrev pub bad_path : Article
bad_path = article_with (codes " one.example!not-for-mail" ++ 127 ∷ []) []

-- the Path has no identity
abbrev pub without_identity : Article
without_identity = article_with (codes " not-for-mail") []

-- a relay before this one has numbered the article
abbrev pub numbered : Article
numbered =
    article_with (codes " one.example!not-for-mail")
    (record { name = codes "Xref"; content = codes " one.example misc.test:7" } ∷ [])

-- it has an Injection-Date of this content
abbrev pub injected : (content : List ℕ) → Article
injected content =
    article_with (codes " one.example!not-for-mail")
    (record { name = codes "Injection-Date"; content = content } ∷ [])

-- an Injection-Date of a year before the Date
abbrev pub injection_2020 : List ℕ
injection_2020 = codes " Wed, 01 Jan 2020 00:00:00 +0000"

-- the first second of 2020
abbrev pub first_of_2020 : ℕ
first_of_2020 = 1577836800

-- the terms where that date is read too
abbrev pub reading_2020 : Terms
reading_2020 =
    record k1 {
      second_read = λ content.
          if bytes_eq content (codes "01 Jan 2020 00:00:00 +0000") then Some (pos first_of_2020)
          else second_read content;
    }

-- the first moment at which the date is more than the cutoff ago
abbrev pub too_late : ℕ
too_late = now + 864_001

-- the terms without a storage class
abbrev pub without_class : Terms
without_class = record k1 { entries = [] }

-- the same for the first peer's relay
abbrev pub own_without_class : Terms
own_without_class = record own_is_first { entries = [] }

-- two groups, the class of every article going to the second
abbrev pub second_group : Terms
second_group =
    record k1 {
      groups = group_g ∷ group_g ∷ [];
      entries = record every_article { class = 7; group = 1 } ∷ [];
    }

-- one group of two buffers, one of which has eight blocks, and the other one
abbrev pub smaller_behind : Terms
smaller_behind =
    record k1 {
      groups = record group_g {
        buffers = buffer_a ∷ record buffer_a { number = 1; blocks = 1 } ∷ [];
      } ∷ [];
    }

-- the same the other way round
abbrev pub smaller_in_front : Terms
smaller_in_front =
    record k1 {
      groups = record group_g {
        buffers = record buffer_a { number = 1; blocks = 1 } ∷ buffer_a ∷ [];
      } ∷ [];
    }

-- the fields between Path and the others of A(a, 1), as they came
abbrev pub other_fields : List ℕ
other_fields =
    codes "From: a@x.example\r\nNewsgroups: misc.test\r\nSubject: t\r\nMessage-ID: <a@x>\r\n"
    ++ codes "Date: Fri, 01 Jan 2021 00:00:00 +0000\r\n"

-- A(a, 1) from the first peer, as it is stored
abbrev pub stored_plain : List ℕ
stored_plain =
    codes "Path: relay.example!!one.example!not-for-mail\r\n" ++ other_fields ++ codes "\r\nx\r\n"

-- that is accepted with this class, for this group, and permitted for the second peer's feed
abbrev pub accepted_plain : (class group : ℕ) → Accepted
accepted_plain class group =
    record { class = class; group = group; permitted = 0 ∷ []; text = stored_plain }

-- the one with an Injection-Date is accepted too, which stays as it came
abbrev pub accepted_injected : Accepted
accepted_injected =
    record (accepted_plain 1 0) {
      text =
          codes "Path: relay.example!!one.example!not-for-mail\r\n" ++ other_fields
          ++ codes "Injection-Date: Wed, 01 Jan 2020 00:00:00 +0000\r\n\r\nx\r\n";
    }
