use Rattle.std.proofs.Common.{◌≡◌, ◌⊎◌, ◌↔◌, ℕ, length, take}
use Rattle.std.specs.List.{Contains}
use Rattle.news_terms.specs.Places.{on_line}
use Rattle.cyc_token.specs.declared.Token.{Token}
use Rattle.cyc_buffer.specs.Crash.{AreOnLine}
use Rattle.cyc_buffer.specs.Scanning.{AreMarksOf, IsLiveOf, end_after}
use Rattle.cyc_buffer.proofs.found.list_live.Given as goal

-- the live ones of the articles before this one are listed and marked
abbrev pub invariant-loop-token : goal.invariant-loop-token
invariant-loop-token l = record {
  listed : (t : Token) → Contains l.tokens.items t ↔ (Contains l.initial.tokens.items t
      ⊎ IsLiveOf l.scan.line (take l.token-index l.scan.tokens.items) l.cycle t);
  marks : AreMarksOf l.initial.tokens.items l.initial.starts.words.items
      l.initial.kept.words.items
      → AreMarksOf l.tokens.items l.starts.words.items l.kept.words.items;
  order : (from : ℕ) → AreOnLine l.scan.line.blocks from (on_line l.scan.line.blocks l.cycle 0)
      l.initial.tokens.items
      → AreOnLine l.scan.line.blocks from (on_line l.scan.line.blocks l.cycle
      (end_after 0 (take l.token-index l.scan.tokens.items))) l.tokens.items;
  starts_room : length l.starts.words.items ≡ length l.initial.starts.words.items;
  kept_room : length l.kept.words.items ≡ length l.initial.kept.words.items;
}
