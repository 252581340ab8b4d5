use Rattle.std.proofs.Common.{◌≡◌, Bool, length}
use Rattle.cyc_buffer.specs.Agreement.{Agrees, store_of}
use Rattle.cyc_buffer.specs.Head.{inside}
use Rattle.cyc_buffer.specs.History.{History}
use Rattle.cyc_buffer.specs.Starting.{ListsLive}
use Rattle.live_store.specs.Started.{AreNumberedTo, HaveFirsts, IsMerelyRead}
use Rattle.live_store.specs.Tied.{AreShown}
use Rattle.live_store.proofs.writing.reading_back.enter_articles.Given as goal

-- the articles of the tokens so far have their numbers, and the buffer was merely read
abbrev pub invariant-loop-token : goal.invariant-loop-token
invariant-loop-token g l = record {
  read : IsMerelyRead (inside l.initial.buffer) (inside l.buffer);
  failures : g.S.BlockStore.failures (store_of (inside l.buffer))
      ≡ g.S.BlockStore.failures (store_of (inside l.initial.buffer));
  firsts : HaveFirsts l.tokens l.token-index l.numbers.items;
  room : length l.numbers.items ≡ length l.initial.numbers.items;
  shown : AreShown l.register l.initial.numbers.items → AreShown l.register l.numbers.items;
  numbered : (trusted : Bool) (h : History) → Agrees trusted (inside l.initial.buffer) h
      → ListsLive l.tokens h
      → AreNumberedTo trusted l.register h l.tokens l.token-index l.numbers.items;
}
