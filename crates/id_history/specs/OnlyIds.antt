-- What the map of a shard is keyed by (RFC 3977 section 3.6).
use Rattle.std.specs.Prelude.{◌≡◌, ◌≢◌, ℕ, List, None, String}
use Rattle.std.specs.HashMap.{HashMap, get_by_text}
use Rattle.news_terms.specs.MessageId.{id_fault}

-- the map has nothing of a text that is no message-id
pub record OnlyIds {Y E S : Type 0} (entries : HashMap (String Y) E S) : Type 0 where
  pub none : (text : List ℕ) → id_fault text ≢ None → get_by_text entries text ≡ None
