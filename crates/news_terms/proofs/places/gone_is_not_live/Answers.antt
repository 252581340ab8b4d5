use Rattle.std.proofs.Common.{ℕ, ◌+◌, ◌<◌, ◌⊎◌, inl, inr, arith}
use Rattle.std.proofs.lemmas.Bool.{cases_lt}
use Rattle.news_terms.specs.Places.{IsLive, IsGone}
use Rattle.news_terms.proofs.places.gone_is_not_live.Goals as goal

-- an article that was begun is live where the front is no further than a buffer past it
one_of_both : (blocks front place : ℕ) → place < front
    → IsLive blocks front place ⊎ IsGone blocks front place
one_of_both blocks front place begun = elim (cases_lt (place + blocks) front) [
  | inl passed ↦ inr (record { passed = passed })
  | inr here ↦ inl (record { begun = begun; here = here })
]

pub returns : goal.returns
returns c =
    record {
      begun = λ blocks front place gone. omega arith;
      apart = λ blocks front place gone live. omega arith;
      one_of_both = one_of_both;
    }
