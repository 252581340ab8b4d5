-- Message-ids (RFC 3977 section 3.6; docs/FORMATS.md, Message-ids).
use Rattle.std.specs.Prelude.{◌≡◌, ◌≢◌, ℕ, ◌-◌, ◌≤◌, ◌==◌, nat_le, ◌&&◌, not, Bool, List, length}
use Rattle.std.specs.Prelude.{take, All, slice_index, Option, None, Some, if◌then◌else◌}
use Rattle.std.specs.List.{list_all}

-- why a text is no message-id, in the order of trial
pub data IdFault : Type 0 where
  -- not 3 to 250 octets
  Length : IdFault
  -- not `<` first, not `>` last, or a `>` before the last octet
  Brackets : IdFault
  -- an octet outside 0x21 to 0x7E
  Octet : IdFault

-- 3 to 250 octets
abbrev pub has_id_length : List ℕ → Bool
has_id_length text = nat_le 3 (length text) && nat_le (length text) 250

-- `<` first, `>` last, and no other `>`; a further `<` is allowed
abbrev pub has_brackets : List ℕ → Bool
has_brackets text =
    slice_index text 0 == 60 && slice_index text (length text - 1) == 62
    && list_all (λ c. not (c == 62)) (take (length text - 1) text)

-- an octet that is graphic in ASCII: 0x21 to 0x7E
abbrev pub is_graphic : ℕ → Bool
is_graphic c = nat_le 33 c && nat_le c 126

-- the first reason in that order why a text is no message-id, or None where it is one
abbrev pub id_fault : List ℕ → Option IdFault
id_fault text =
    if has_id_length text then
    (if has_brackets text then
    (if list_all is_graphic text then None else Some Octet)
    else Some Brackets)
    else Some Length

-- the text is a message-id
pub record IsMessageId (text : List ℕ) : Type 0 where
  pub least : 3 ≤ length text
  pub most : length text ≤ 250
  pub opens : slice_index text 0 ≡ 60
  pub closes : slice_index text (length text - 1) ≡ 62
  pub closes_once : All (λ c. c ≢ 62) (take (length text - 1) text)
  pub graphic : All (λ c. (33 ≤ c) × (c ≤ 126)) text
