-- What is said where the device failed.
use Rattle.std.proofs.Common.{◌≡◌, ◌≤◌, ℕ, List, length, refl}
use Rattle.news_terms.specs.Reply.{DeviceFault, reply_text}
use Rattle.news_terms.specs.Token.{Token}
use Rattle.relay_model.specs.Fetches as fetches
use Rattle.relay_model.specs.State.{Asked, OfId, OfToken}
use Rattle.article_fetch.specs.Fetch.{Replies}

-- whatever was asked, the fault is said
pub fault_said : (asked : Asked) (token : Token) (octets : List ℕ)
    → octets ≡ reply_text DeviceFault → 1 ≤ length octets
    → Replies asked token fetches.NotRead octets
fault_said (OfId part id) token octets e some = (DeviceFault, refl, e, some)
fault_said OfToken token octets e some = (DeviceFault, refl, e, some)
