-- Where the place of a number is. Places lie in buckets, sixteen to an octave; a bucket of an
-- octave has twice as many places as one of the octave before it. They are counted from 512, so
-- that an octave's first place is a power of two.
use Rattle.std.specs.Prelude.{◌≡◌, ℕ, ◌+◌, ◌*◌, ◌^◌, ◌<◌, List, []}
use Rattle.boxcar.specs.Slot.{Named}
use Rattle.boxcar.specs.Table.{Tagged, first}

-- how many places a bucket of the octave has
abbrev pub span : ℕ → ℕ
span octave = 32 * 2 ^ octave

-- the number of a part of an octave among all buckets
abbrev pub bucket_of : (octave part : ℕ) → ℕ
bucket_of octave part = octave * 16 + part

-- the place of a number: the octave is there, it has the part, that has the place; and the places
-- from 512 on that come before it are as many as the number says
pub record IsAt (index octave part place : ℕ) : Type 0 where
  pub octaves : octave < 54
  pub parts : part < 16
  pub places : place < span octave
  pub before : (16 + part) * span octave + place ≡ index + 512

-- a bucket that is tagged with its number has as many places as one of its octave has
abbrev pub IsBucket : (tag : List ℕ) → (places : ℕ) → Type 0
IsBucket tag places = (octave part : ℕ) → part < 16 → first tag ≡ bucket_of octave part
    → places ≡ span octave

-- all buckets, each tagged with its number
abbrev pub AreBuckets : List Named → Type 0
AreBuckets buckets = Tagged [] 0 864 buckets
