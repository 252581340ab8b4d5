-- Which part of the articles a hash feed may have (RFC 1321; INN's newsfeeds(5), flag Q).
use Rattle.std.specs.Prelude.{ℕ, ◌+◌, ◌%◌, ◌&&◌, nat_le, Bool, true, List, drop, Option, None, Some}
use Rattle.std.specs.Int.{from_be_bytes, w32}
use Rattle.md5.specs.Md5.{md5}

-- a part of all message-ids: those whose place among so many is from `first` to `last`
pub record HashFeed : Type 0 where
  pub first : ℕ
  pub last : ℕ
  pub parts : ℕ

-- the last four octets of the MD5 digest of a message-id, as a number (highest octet first)
abbrev pub hash_of : List ℕ → ℕ
hash_of id = from_be_bytes w32 (drop 12 (md5 id))

-- the place of a message-id among so many, from 1 on
abbrev pub hash_place : (parts : ℕ) → List ℕ → ℕ
hash_place parts id = hash_of id % parts + 1

-- the message-id falls in the part; in each where none is set
abbrev pub in_hash_feed : Option HashFeed → List ℕ → Bool
in_hash_feed None id = true
in_hash_feed (Some part) id =
    nat_le part.first (hash_place part.parts id) && nat_le (hash_place part.parts id) part.last
