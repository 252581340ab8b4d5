-- What reading a text as a message-id gives (RFC 3977 section 3.6).
use Rattle.std.specs.Prelude.{◌≡◌, ℕ, List, Option, None, Some, Result, Ok, Err}
use Rattle.std.specs.Str.{IsAscii}
use Rattle.news_terms.specs.MessageId.{IdFault, id_fault}
use Rattle.news_terms.specs.MessageId as ids
use Rattle.nntp_text.specs.declared.id.IdError.{IdError}
use Rattle.nntp_text.specs.declared.id.IdError.TheVariants.{Memory, Length, Brackets, Octet}

-- the answer is the one that the first fault of the text asks for; memory ran out only where the
-- text has none
abbrev pub IdGives : {X : Type 0} → Result X IdError → Option IdFault → Type 0
IdGives (Ok id) fault = fault ≡ None
IdGives (Err Memory) fault = fault ≡ None
IdGives (Err Length) fault = fault ≡ Some ids.Length
IdGives (Err Brackets) fault = fault ≡ Some ids.Brackets
IdGives (Err Octet) fault = fault ≡ Some ids.Octet

-- what is known of the octets of each message-id
pub record IsId (text : List ℕ) : Type 0 where
  pub no_fault : id_fault text ≡ None
  pub ascii : IsAscii text
