use Rattle.std.proofs.Common.{◌≡◌, ◌*◌, true, take}
use Rattle.news_terms.specs.BlockImage.{chunk_size}
use Rattle.cyc_buffer.specs.Agreement.{Agrees, store_of}
use Rattle.cyc_buffer.specs.Head.{inside}
use Rattle.cyc_buffer.specs.History.{History}
use Rattle.cyc_buffer.specs.Stopped.{IsLiveToken}
use Rattle.cyc_token.specs.Token.{token_view}
use Rattle.live_store.specs.Started.{IsMerelyRead}
use Rattle.live_store.proofs.writing.reading_back.read_text.Given as goal

-- what was gathered is the front of the text of a live article, and the buffer was merely read
abbrev pub invariant-loop-k : goal.invariant-loop-k
invariant-loop-k g l = record {
  read : IsMerelyRead (inside l.initial.buffer) (inside l.buffer);
  failures : g.S.BlockStore.failures (store_of (inside l.buffer))
      ≡ g.S.BlockStore.failures (store_of (inside l.initial.buffer));
  gathered : (h : History) → Agrees true (inside l.initial.buffer) h
      → (live : IsLiveToken h (token_view l.token))
      → l.text.items ≡ take (chunk_size * l.k) live.article.text;
}
