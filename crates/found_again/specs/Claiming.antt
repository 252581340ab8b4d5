-- Which text has a message-id, of several that are found of it (docs/decisions/found-again.md).
use Rattle.std.specs.Prelude.{ℕ, Bool, false, List, [], ◌∷◌, Option, None, Some, bytes_eq}
use Rattle.std.specs.Prelude.{if◌then◌else◌}
use Rattle.std.specs.List.{list_any}
use Rattle.found_again.specs.declared.text.FoundText.{FoundText}

-- what a text has is this id
abbrev pub is_id : List ℕ → Option (List ℕ) → Bool
is_id id None = false
is_id id (Some own) = bytes_eq id own

-- the text has this id
abbrev pub has_id : List ℕ → FoundText → Bool
has_id id text = is_id id text.id

-- the id, if there is one, is that of one of these texts
abbrev pub is_had : Option (List ℕ) → List FoundText → Bool
is_had None texts = false
is_had (Some id) texts = list_any (has_id id) texts

-- the text as no id's
abbrev pub without_id : FoundText → FoundText
without_id text = record text { id = None }

-- the text, before these: it has its id where none of them has it
abbrev pub claimed_before : List FoundText → FoundText → FoundText
claimed_before later text = if is_had text.id later then without_id text else text

-- the texts, of which each has its id where no later one has it
abbrev pub claimed_by_last : List FoundText → List FoundText
claimed_by_last [] = []
claimed_by_last (text ∷ later) = claimed_before later text ∷ claimed_by_last later
