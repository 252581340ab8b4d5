-- Which message-ids were taken by texts that are found.
use Rattle.std.specs.Prelude.{ℕ, List, if◌then◌else◌}
use Rattle.std.specs.List.{list_any}
use Rattle.id_history.specs.Mark.{no_article}
use Rattle.relay_model.specs.Claims.{Claim, Unknown, Storing, Waiting}
use Rattle.found_again.specs.Claiming.{has_id}
use Rattle.found_again.specs.declared.text.FoundText.{FoundText}

-- the ids of these texts are taken, and nothing is known of any other
abbrev pub taken : List FoundText → List ℕ → Claim
taken texts id =
    if list_any (has_id id) texts then Storing 0 no_article Waiting else Unknown
