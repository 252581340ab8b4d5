-- What is remembered of message-ids fits the setting.
use Rattle.std.proofs.Common.{◌≡◌, sym, subst, ◌<◌, ◌≤◌, Bool, true, false, ℕ, List}
use Rattle.std.proofs.Common.{[], ◌∷◌, cond, nat_eq, Option, None, Some}
use Rattle.std.specs.Prelude.{All}
use Rattle.std.specs.List.{AllByRecursion}
use Rattle.std.specs.Str.{bytes_eq}
use Rattle.std.proofs.lemmas.List.Elements.{All-head, All-tail}
use Rattle.cyc_token.specs.Token.{token_view}
use Rattle.id_history.specs.History.{IdHolds}
use Rattle.id_history.specs.History as terms
use Rattle.id_history.specs.Lasting.{AreLasting, claim_of_kept, claim_since, lasting}
use Rattle.id_history.specs.declared.kept.KeptId.{KeptId}
use Rattle.news_terms.specs.Token.{Token}
use Rattle.relay_model.specs.Claims.{Claim, Unknown, Offered, Storing, Stored, Refused}
use Rattle.relay_model.specs.Claims.{after_refuse}
use Rattle.relay_model.specs.State.{put_id}
use Rattle.relay_model.specs.Terms.{last_moment}
use Rattle.found_again.specs.Finding.{after_found, found_of, all_found, all_refused, known_again}
use Rattle.found_again.specs.declared.text.FoundText.{FoundText}

-- the claim is of a token of one of so many buffers, and of a moment that there is
abbrev pub ClaimHolds : (buffers : ℕ) → Claim → Type 0
ClaimHolds buffers Unknown = Unit {0}
ClaimHolds buffers (Offered session since) = Unit {0}
ClaimHolds buffers (Storing session article stage) = Unit {0}
ClaimHolds buffers (Stored token moment) = (token.buffer < buffers) × (moment ≤ last_moment)
ClaimHolds buffers (Refused moment) = moment ≤ last_moment

-- each claim is
abbrev AllHold : (buffers : ℕ) → (List ℕ → Claim) → Type 0
AllHold buffers claims = (id : List ℕ) → ClaimHolds buffers (claims id)

-- one more that is put
put_holds : (buffers : ℕ) (claims : List ℕ → Claim) (own : List ℕ) (claim : Claim)
    → ClaimHolds buffers claim → AllHold buffers claims → AllHold buffers (put_id claims own claim)
put_holds buffers claims own claim holds all id = by (bytes_eq id own)
  where
    by : (same : Bool) → ClaimHolds buffers (cond same claim (claims id))
    by true = holds
    by false = all id

-- a text that is found
after_holds : (buffers : ℕ) (token : Token) (now : ℕ) (claim : Claim) → token.buffer < buffers
    → now ≤ last_moment → ClaimHolds buffers claim
    → ClaimHolds buffers (after_found token now claim)
after_holds buffers token now Unknown there in_time holds = (there, in_time)
after_holds buffers token now (Offered session since) there in_time holds = (there, in_time)
after_holds buffers token now (Storing session article stage) there in_time holds = tt
after_holds buffers token now (Stored had moment) there in_time holds = holds
after_holds buffers token now (Refused moment) there in_time holds = holds

-- an id that is listed
refuse_holds : (buffers moment : ℕ) (claim : Claim) → moment ≤ last_moment
    → ClaimHolds buffers claim → ClaimHolds buffers (after_refuse 0 moment claim)
refuse_holds buffers moment Unknown in_time holds = in_time
refuse_holds buffers moment (Offered session since) in_time holds = by (nat_eq session 0)
  where
    by : (own : Bool) → ClaimHolds buffers (cond own (Refused moment) (Offered session since))
    by true = in_time
    by false = tt
refuse_holds buffers moment (Storing session article stage) in_time holds = tt
refuse_holds buffers moment (Stored had before) in_time holds = holds
refuse_holds buffers moment (Refused before) in_time holds = holds

-- all texts that are found
found_holds : (buffers now : ℕ) (texts : List FoundText) (claims : List ℕ → Claim)
    → All (λ (text : FoundText). text.token.buffer < buffers) texts → now ≤ last_moment
    → AllHold buffers claims → AllHold buffers (all_found now claims texts)
found_holds buffers now [] claims there in_time all = all
found_holds buffers now (text ∷ texts) claims there in_time all =
    found_holds buffers now texts (found_of text.id (token_view text.token) now claims)
    (All-tail There text texts there) in_time (by text.id)
  where
    There : FoundText → Type 0
    There one = one.token.buffer < buffers

    by : (own : Option (List ℕ))
        → AllHold buffers (found_of own (token_view text.token) now claims)
    by None = all
    by (Some own) =
        put_holds buffers claims own (after_found (token_view text.token) now (claims own))
        (after_holds buffers (token_view text.token) now (claims own)
        (All-head There text texts there) in_time (all own)) all

-- all ids that are listed
refused_holds : (buffers : ℕ) (listed : List KeptId) (claims : List ℕ → Claim)
    → All (λ (one : KeptId). one.moment ≤ last_moment) listed → AllHold buffers claims
    → AllHold buffers (all_refused claims listed)
refused_holds buffers [] claims in_time all = all
refused_holds buffers (one ∷ listed) claims in_time all =
    refused_holds buffers listed
    (put_id claims one.id (after_refuse 0 one.moment (claims one.id)))
    (All-tail InTime one listed in_time)
    (put_holds buffers claims one.id (after_refuse 0 one.moment (claims one.id))
    (refuse_holds buffers one.moment (claims one.id) (All-head InTime one listed in_time)
    (all one.id)) all)
  where
    InTime : KeptId → Type 0
    InTime kept = kept.moment ≤ last_moment

-- what lasts of a claim
lasting_holds : (buffers : ℕ) (claim : Claim) → ClaimHolds buffers claim
    → ClaimHolds buffers (lasting claim)
lasting_holds buffers Unknown holds = tt
lasting_holds buffers (Offered session since) holds = tt
lasting_holds buffers (Storing session article stage) holds = tt
lasting_holds buffers (Stored token moment) holds = holds
lasting_holds buffers (Refused moment) holds = holds

-- an id that is remembered
id_holds : (buffers : ℕ) (id : List ℕ) (token : Option Token) (moment : ℕ)
    → ClaimHolds buffers (claim_since token moment)
    → IdHolds buffers (record { id = id; token = token; moment = moment })
id_holds buffers id None moment holds = record { token = tt; moment = holds }
id_holds buffers id (Some token) moment holds = record { token = holds.0; moment = holds.1 }

each_holds : (buffers : ℕ) (claims : List ℕ → Claim) (ids : List terms.KeptId)
    → AllHold buffers claims
    → AllByRecursion (λ (one : terms.KeptId). claim_of_kept one ≡ lasting (claims one.id)) ids
    → AllByRecursion (IdHolds buffers) ids
each_holds buffers claims [] all each = tt
each_holds buffers claims (one ∷ ids) all each = (
  id_holds buffers one.id one.token one.moment
      (subst (ClaimHolds buffers) (sym each.0)
      (lasting_holds buffers (claims one.id) (all one.id))),
  each_holds buffers claims ids all each.1,
)

-- what is remembered once texts are found and ids listed
pub ids_hold : (buffers now : ℕ) (texts : List FoundText) (listed : List KeptId)
    (ids : List terms.KeptId) → All (λ (text : FoundText). text.token.buffer < buffers) texts
    → All (λ (one : KeptId). one.moment ≤ last_moment) listed → now ≤ last_moment
    → AreLasting ids (known_again now texts listed) → AllByRecursion (IdHolds buffers) ids
ids_hold buffers now texts listed ids there in_time now_is are =
    each_holds buffers (known_again now texts listed) ids
    (refused_holds buffers listed (all_found now (λ id. Unknown) texts) in_time
    (found_holds buffers now texts (λ id. Unknown) there now_is (λ id. tt))) are.each
