use Rattle.std.proofs.Common.{◌≡◌, ◌+◌, ◌≤◌, ℕ, length}
use Rattle.std.specs.List.{Contains}
use Rattle.cyc_token.specs.declared.Token.{Token}
use Rattle.cyc_buffer.specs.Marks.{is_marked}
use Rattle.cyc_buffer.specs.Reads.{StaysHeld, HasRead}
use Rattle.cyc_buffer.specs.Remembered.{AreWithin, ListsStarts}
use Rattle.cyc_buffer.specs.Starting.{blocks_in}
use Rattle.cyc_buffer.proofs.articles.read_articles.Given as goal

-- the articles that begin before the block are read, and the store holds what it held
abbrev pub invariant-loop-first : goal.invariant-loop-first
invariant-loop-first g l = record {
  range : l.from ≤ l.first;
  held : StaysHeld g.S.BlockStore l.initial.store l.store;
  failures : g.S.BlockStore.failures l.store ≡ g.S.BlockStore.failures l.initial.store;
  calls : g.S.BlockStore.calls l.store + blocks_in l.initial.tokens.items
      ≡ g.S.BlockStore.calls l.initial.store + blocks_in l.tokens.items;
  listed : ListsStarts l.from l.first (is_marked l.starts.words.items) l.tokens.items;
  stay_listed : (t : Token) → Contains l.initial.tokens.items t → Contains l.tokens.items t;
  within : (blocks : ℕ) → l.stretch.end ≤ blocks → AreWithin blocks l.initial.tokens.items
      → AreWithin blocks l.tokens.items;
  room : length l.kept.words.items ≡ length l.initial.kept.words.items;
  read : g.S.BlockStore.honest l.initial.store
      → HasRead (is_marked l.starts.words.items) (g.S.BlockStore.blocks l.initial.store)
      l.stretch.number l.stretch.cycle l.stretch.end l.from l.first l.initial.tokens.items
      l.tokens.items l.initial.kept.words.items l.kept.words.items;
}
