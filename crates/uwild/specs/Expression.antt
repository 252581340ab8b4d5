-- Expressions that were read, as the definitions have them.
use Rattle.std.specs.Prelude.{map}
use Rattle.news_terms.specs.Pattern.{ExpressionFault, Marked}
use Rattle.news_terms.specs.Pattern as terms
use Rattle.uwild.specs.declared.expression.Verdict.{Verdict}
use Rattle.uwild.specs.declared.expression.Verdict.TheVariants as verdicts
use Rattle.uwild.specs.declared.expression.WildError.{WildError}
use Rattle.uwild.specs.declared.expression.WildError.TheVariants as errors
use Rattle.uwild.specs.declared.item.Item.{Item}
use Rattle.uwild.specs.declared.item.Item.TheVariants as items
use Rattle.uwild.specs.declared.pattern.Pattern.{Pattern}

-- a verdict as the definitions have it
abbrev pub verdict_view : Verdict → terms.Verdict
verdict_view verdicts.Match = terms.Match
verdict_view verdicts.Fail = terms.Fail
verdict_view verdicts.Poison = terms.Poison

-- a part of a pattern as the definitions have it
abbrev pub item_view : Item → terms.Item
item_view items.Star = terms.Star
item_view items.AnyOctet = terms.AnyOctet
item_view (items.Literal c) = terms.Literal c
item_view (items.Escaped c) = terms.Escaped c
item_view (items.OneOf set) = terms.OneOf set.items
item_view (items.NoneOf set) = terms.NoneOf set.items

-- a pattern and its mark as the definitions have them
abbrev pub pattern_view : Pattern → Marked
pattern_view p = record { mark = verdict_view p.mark; pattern = map item_view p.items.items }

-- the error is a fault of which this holds, unless memory ran out
abbrev pub IsFault : (ExpressionFault → Type 0) → WildError → Type 0
IsFault Holds errors.Memory = Unit {0}
IsFault Holds errors.OpenSet = Holds terms.OpenSet
IsFault Holds errors.EmptySet = Holds terms.EmptySet
IsFault Holds errors.BadRange = Holds terms.BadRange
IsFault Holds errors.DanglingEscape = Holds terms.DanglingEscape
IsFault Holds errors.NonAscii = Holds terms.NonAscii
