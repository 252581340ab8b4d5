-- What a call does to the claims of message-ids (docs/PROTOCOL.md, Claims), of whatever keeps them:
-- `Kept`, `Before` and `After` say which claims it keeps.
use Rattle.std.specs.Prelude.{ℕ, List}
use Rattle.relay_model.specs.Claims.{Claim}
use Rattle.relay_model.specs.State.{put_id}

-- this holds of the message-id's claim, whichever claims are kept
abbrev pub OfClaim : ((List ℕ → Claim) → Type 0) → List ℕ → (Claim → Type 0) → Type 0
OfClaim Kept id P = (claims : List ℕ → Claim) → Kept claims → P (claims id)

-- the message-id's claim becomes what `after` makes of it, and every other claim stays
abbrev pub ChangesClaim : (Before After : (List ℕ → Claim) → Type 0) → List ℕ → (Claim → Claim)
    → Type 0
ChangesClaim Before After id after =
    (claims : List ℕ → Claim) → Before claims → After (put_id claims id (after (claims id)))

-- every claim stays
abbrev pub KeepsClaims : (Before After : (List ℕ → Claim) → Type 0) → Type 0
KeepsClaims Before After = (claims : List ℕ → Claim) → Before claims → After claims
