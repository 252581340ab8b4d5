-- What a session's octets say.
use Rattle.std.specs.Prelude.{◌≡◌, ℕ, ◌≤◌, Bool, true, false, List, [], length}
use Rattle.news_terms.specs.Reply.{Reply, reply_text}
use Rattle.relay_model.specs.World.{Said, Silent, Speaks, Parts}

-- the octets are those of the reply, and there are some
pub record IsReply (octets : List ℕ) (reply : Reply) : Type 0 where
  pub text : octets ≡ reply_text reply
  pub some : 1 ≤ length octets

-- the octets are those of what is said; `parted` tells whether the session has said its last
-- reply. What is said is never empty.
abbrev pub IsSaid : List ℕ → Bool → Said → Type 0
IsSaid octets parted Silent = octets ≡ []
IsSaid octets parted (Speaks reply) = IsReply octets reply × (parted ≡ false)
IsSaid octets parted (Parts reply) = IsReply octets reply × (parted ≡ true)
