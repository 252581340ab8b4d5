-- What is known of message-ids once texts were found and others are listed (docs/PROTOCOL.md,
-- Crashes): as if each text that is found had been stored now, and each listed id refused since.
use Rattle.std.specs.Prelude.{ℕ, List, [], ◌∷◌, Option, None, Some}
use Rattle.cyc_token.specs.Token.{token_view}
use Rattle.id_history.specs.declared.kept.KeptId.{KeptId}
use Rattle.news_terms.specs.Token.{Token}
use Rattle.relay_model.specs.Claims.{Claim, Unknown, Offered, Storing, Stored, Refused}
use Rattle.relay_model.specs.Claims.{after_refuse}
use Rattle.relay_model.specs.State.{put_id}
use Rattle.found_again.specs.declared.text.FoundText.{FoundText}

-- a text of the id is found: it is stored since now, where nothing is known of it but an offer
abbrev pub after_found : Token → (now : ℕ) → Claim → Claim
after_found token now Unknown = Stored token now
after_found token now (Offered session since) = Stored token now
after_found token now (Storing session article stage) = Storing session article stage
after_found token now (Stored had moment) = Stored had moment
after_found token now (Refused moment) = Refused moment

-- the claims once a text of this id, if it has one, was found
abbrev pub found_of : Option (List ℕ) → Token → (now : ℕ) → (List ℕ → Claim) → List ℕ → Claim
found_of None token now claims = claims
found_of (Some id) token now claims = put_id claims id (after_found token now (claims id))

-- the claims once these texts were found, in turn
abbrev pub all_found : (now : ℕ) → (List ℕ → Claim) → List FoundText → List ℕ → Claim
all_found now claims [] = claims
all_found now claims (text ∷ others) =
    all_found now (found_of text.id (token_view text.token) now claims) others

-- the claims once these ids were refused, in turn, each at its moment
abbrev pub all_refused : (List ℕ → Claim) → List KeptId → List ℕ → Claim
all_refused claims [] = claims
all_refused claims (one ∷ others) =
    all_refused (put_id claims one.id (after_refuse 0 one.moment (claims one.id))) others

-- the claims of a relay that knew nothing, once these texts were found and these ids listed
abbrev pub known_again : (now : ℕ) → List FoundText → List KeptId → List ℕ → Claim
known_again now texts listed = all_refused (all_found now (λ id. Unknown) texts) listed
