-- Each mark is that of some claim; and a claim stands where offers don't run out.
use Rattle.std.proofs.Common.{◌≡◌, ℕ, None, refl}
use Rattle.relay_model.specs.Claims.{Claim, standing}
use Rattle.relay_model.specs.Claims as claim
use Rattle.id_history.specs.Mark.{Mark, Unknown, Offered, Storing, Stored, Refused}
use Rattle.id_history.specs.Mark.{mark_of, claim_of}

-- the claim of a mark has it
pub mark_of-claim_of : (mark : Mark) → mark_of (claim_of mark) ≡ mark
mark_of-claim_of Unknown = refl
mark_of-claim_of (Offered session since) = refl
mark_of-claim_of (Storing session) = refl
mark_of-claim_of (Stored token moment) = refl
mark_of-claim_of (Refused moment) = refl

-- where offers don't run out each claim stands
pub stands : (now : ℕ) (known : Claim) → standing None now known ≡ known
stands now claim.Unknown = refl
stands now (claim.Offered session since) = refl
stands now (claim.Storing session article stage) = refl
stands now (claim.Stored token moment) = refl
stands now (claim.Refused moment) = refl
