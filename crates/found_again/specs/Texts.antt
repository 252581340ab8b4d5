-- What is found again, as the program's values show it (docs/PROTOCOL.md, Crashes).
use Rattle.std.specs.Prelude.{◌≡◌, ℕ, ◌≤◌, ◌<◌, List, [], map, Option, None, Some, All, unwrap_or}
use Rattle.std.specs.Prelude.{option_map, false, IfSome}
use Rattle.std.specs.Borrow.{Bor}
use Rattle.std.specs.List.{AllZip}
use Rattle.cyc_token.specs.Token.{token_view}
use Rattle.id_history.specs.History as terms
use Rattle.id_history.specs.declared.kept.History.{History}
use Rattle.id_history.specs.declared.kept.KeptId.{KeptId}
use Rattle.news_terms.specs.Article.{is_empty}
use Rattle.relay_model.specs.Crash.{Again, Found, Listed, permitted_again}
use Rattle.relay_model.specs.Terms.{Terms, FeedTerms, last_moment}
use Rattle.found_again.specs.declared.text.FoundText.{FoundText}

-- the octets of a message-id; none where a text is no id's
abbrev pub octets_of : Option (List ℕ) → List ℕ
octets_of id = unwrap_or id []

-- what a text has is some id, or none
abbrev pub HasSome : FoundText → Type 0
HasSome text = IfSome text.id (λ id. is_empty id ≡ false)

-- it is this text: its token, its message-id, and the feeds that may have it
pub record IsText (w : Terms) (text : FoundText) (one : Again) : Type 0 where
  pub token : token_view text.token ≡ one.kept.token
  pub id : octets_of text.id ≡ one.kept.id
  pub feeds : text.feeds.items ≡ permitted_again w one.read

-- a message-id that a history lists, and since when; its token isn't believed
abbrev pub listed_view : KeptId → Listed
listed_view one = record { id = one.id; moment = one.moment }

-- the message-ids that a history lists; none without one
abbrev pub ids_listed : Option (Bor History) → List KeptId
ids_listed None = []
ids_listed (Some old) = old.now.ids.items

-- the newest session of a history
abbrev pub newest_of : Option (Bor History) → Option ℕ
newest_of old = option_map (λ (history : Bor History). history.now.newest) old

-- how many tokens the ring of each feed has room for
abbrev pub ring_sizes : Terms → List ℕ
ring_sizes w = map (λ (feed : FeedTerms). feed.ring) w.feeds

-- this is found at this moment: these texts, in a relay with these rings, whose last stop left this
-- history
pub record IsOf (w : Terms) (texts : List FoundText) (old : Option (Bor History)) (rings : List ℕ)
    (now : ℕ) (found : Found)
    : Type 0 where
  pub texts_are : AllZip (IsText w) texts found.texts
  pub rings_are : ring_sizes w ≡ rings
  pub listed_is : found.listed ≡ map listed_view (ids_listed old)
  pub newest_is : found.newest ≡ newest_of old
  pub moment_is : found.moment ≡ now

-- a setting to which all fits that is found: it has these groups and rings, each token is of one of
-- its buffers, and each moment is one that there is
pub record FitsSetting (setting : terms.Setting) (texts : List FoundText)
    (old : Option (Bor History)) (positions rings : List ℕ) (now : ℕ)
    : Type 0 where
  pub groups : AllZip (λ position m. position < m) positions setting.groups
  pub rings_are : setting.rings ≡ rings
  pub tokens : All (λ (text : FoundText). text.token.buffer < setting.buffers) texts
  pub moments : All (λ (one : KeptId). one.moment ≤ last_moment) (ids_listed old)
  pub moment : now ≤ last_moment
