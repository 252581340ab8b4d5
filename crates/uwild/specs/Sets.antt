-- How the octets between brackets are cut into ranges. No public contract cites it.
use Rattle.std.specs.Prelude.{◌≡◌, ◌+◌, ◌<◌, ℕ, true, List, ◌∷◌, length, take, drop}
use Rattle.std.specs.Str.{byte}
use Rattle.std.specs.Borrow.{Bor}
use Rattle.news_terms.specs.Pattern.{ranges_of, has_no_bracket}
use Rattle.news_terms.specs.Pattern as terms
use Rattle.uwild.specs.declared.set.Range.{Range}
use Rattle.uwild.specs.declared.set.SetFault.{SetFault}
use Rattle.uwild.specs.declared.set.SetFault.TheVariants.{BadRange, NonAscii}

-- a range as the definitions have it
abbrev pub range_view : Range → terms.Range
range_view r = record { low = r.low; high = r.high }

-- a fault of a set as the definitions have it
abbrev pub fault_view : SetFault → terms.ExpressionFault
fault_view BadRange = terms.BadRange
fault_view NonAscii = terms.NonAscii

-- the set begins with this range, and these octets stand behind it
pub record IsFirstRange (set : List ℕ) (cut : Range × Bor (List ℕ)) : Type 0 where
  pub ranges : ranges_of set ≡ range_view cut.0 ∷ ranges_of cut.1.now
  pub fewer : length cut.1.now < length set

-- the first `]` of the text stands at this place
pub record IsBracketAt (text : List ℕ) (place : ℕ) : Type 0 where
  pub within : place < length text
  pub before : has_no_bracket (take place text) ≡ true
  pub cut : drop place text ≡ byte "]" ∷ drop (place + 1) text
