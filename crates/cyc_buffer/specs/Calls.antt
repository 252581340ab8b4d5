-- What a write and a read of a block say and do.
use Rattle.std.specs.Prelude.{◌≡◌, ◌<◌, ◌+◌, ◌⊎◌, ◌==◌, ℕ, Bool, true, false, List, length, drop}
use Rattle.std.specs.Prelude.{Result, Ok, Err, IfOk, IfErr, IsOkAnd, OnOk, OnErr}
use Rattle.cyc_block.specs.declared.store.BlockStore.{Ghosts}
use Rattle.cyc_token.specs.Token.{token_view}
use Rattle.cyc_token.specs.declared.Token.{Token}
use Rattle.cyc_buffer.specs.Agreement.{Agrees, Follows, Owns, Continues, store_of, buffer_state_of}
use Rattle.cyc_buffer.specs.Agreement.{blocks_written, is_broken, length_of}
use Rattle.cyc_buffer.specs.Answers.{Shows, answer, by_numbers, HasRoom, IsDeviceFault, IsOther}
use Rattle.cyc_buffer.specs.Answers.{IsRead, IsUnread}
use Rattle.cyc_buffer.specs.Head.{has_open_head}
use Rattle.cyc_buffer.specs.History.{History, front_of, with_block, with_failure}
use Rattle.cyc_buffer.specs.declared.answers.BufError.{BufError}
use Rattle.cyc_buffer.specs.declared.answers.FaultKind.TheVariants as kinds
use Rattle.cyc_buffer.specs.declared.answers.Found.{Found}
use Rattle.cyc_buffer.specs.declared.answers.Found.TheVariants as found
use Rattle.cyc_buffer.specs.declared.buffer.Buffer.{Buffer}
use Rattle.cyc_buffer.specs.declared.buffer_state.Open.{Open}
use Rattle.news_terms.specs.Places.{size_of}

-- what a call of the device leaves of it, and what its failure has to do with the result
pub record LeavesDevice {S X : Type 0} {g : Ghosts S} (old : Buffer S g)
    (result : Result X BufError) (new : Buffer S g)
    : Type 0 where
  -- With an error it has failed.
  pub failed : OnErr result (g.failures (store_of old) < g.failures (store_of new))
  -- With Ok it hasn't.
  pub no_failure : OnOk result (g.failures (store_of new) ≡ g.failures (store_of old))
  -- An honest one stays honest.
  pub honest : g.honest (store_of old) → g.honest (store_of new)
  -- It keeps its number of blocks.
  pub blocks : length (g.blocks (store_of new)) ≡ length (g.blocks (store_of old))

-- the next block of a text, which can be written, is written, or the device fails
pub record WritesNext {S : Type 0} {g : Ghosts S} (old : Buffer S g) (write : Open)
    (text : List ℕ) (result : Result Bool BufError) (new : Buffer S g)
    : Type 0 where
  -- The result. Ok says whether the block was the last one of the article.
  pub last : IfOk result (λ last. last ≡ (blocks_written new == size_of (length_of write)))
  -- An error is the device's fault at a write of this article.
  pub fault : IfErr result (λ e. (trusted : Bool) (h : History) → Agrees trusted old h
      → IsDeviceFault h.buffer kinds.Write (length_of write) e)
  -- The buffer after. With Ok one more block of the text is written, in each history that is
  -- written with this text.
  pub written : OnOk result ((trusted : Bool) (h : History) → Continues text h
      → Agrees trusted old h → Agrees trusted new (with_block text h))
  -- With Ok one more block is counted.
  pub count : OnOk result (blocks_written new ≡ blocks_written old + 1)
  -- With Ok the write isn't broken.
  pub whole : OnOk result (is_broken new ≡ false)
  -- With an error it is broken, and nothing else is changed in any history.
  pub broken : OnErr result (Follows with_failure old new)
  -- Either way it is still the open write.
  pub owned : Owns new write
  -- The device. It is called once, whether it fails or not.
  pub calls : g.calls (store_of new) ≡ g.calls (store_of old) + 1

-- behind a chunk the slice is as it was, and where there is no chunk all of it is
abbrev pub LeavesRest : Result Found BufError → List ℕ → List ℕ → Type 0
LeavesRest (Ok (found.Chunk n)) before after = drop n after ≡ drop n before
LeavesRest (Ok (found.Gone front)) before after = after ≡ before
LeavesRest (Ok found.Unknown) before after = after ≡ before
LeavesRest (Err e) before after = after ≡ before

-- block k of the article under a token is looked for, in a slice that is to have its octets
pub record ReadsBlock {S : Type 0} {g : Ghosts S} (old : Buffer S g) (token : Token) (k : ℕ)
    (before : List ℕ) (result : Result Found BufError) (after : List ℕ) (new : Buffer S g)
    : Type 0 where
  -- The result. Over an honest store what is found is what the history says.
  pub found : (h : History) → Agrees true old h
      → IfOk result (λ found. Shows found after (answer h (token_view token) k))
  -- Over any store that is so where the device isn't asked: where the numbers decide, or nothing
  -- was finished there.
  pub unread : (trusted : Bool) (h : History) → Agrees trusted old h
      → IsUnread h (token_view token) k
      → IsOkAnd result (λ found. Shows found after (answer h (token_view token) k))
  -- Over any store nothing is said to be gone unless the numbers say so.
  pub other : (trusted : Bool) (h : History) → Agrees trusted old h
      → IfOk result (λ found. IsOther found
      (by_numbers h.buffer (front_of h) (token_view token) k))
  -- An error is the device's fault at a read of this article.
  pub fault : IfErr result (λ e. (trusted : Bool) (h : History) → Agrees trusted old h
      → IsDeviceFault h.buffer kinds.Read token.length e)
  -- The slice. A chunk has no more octets than it.
  pub room : IfOk result (λ found. HasRoom found)
  -- Nothing but a chunk is put there.
  pub rest : LeavesRest result before after
  -- The buffer after. It agrees with the same histories.
  pub same : Follows (λ h. h) old new
  -- What it keeps in memory is the same, and what its head says.
  pub buffer_state : buffer_state_of new ≡ buffer_state_of old
  pub opened : has_open_head new ≡ has_open_head old
  -- The device. It is called once, whether it fails or not, or not at all.
  pub calls : (store_of new ≡ store_of old)
      ⊎ (g.calls (store_of new) ≡ g.calls (store_of old) + 1)
  -- It isn't called where the numbers decide, or nothing was finished there.
  pub uncalled : (trusted : Bool) (h : History) → Agrees trusted old h
      → IsUnread h (token_view token) k → store_of new ≡ store_of old
  -- It is called where the block is one of a live finished article's.
  pub read : (trusted : Bool) (h : History) → Agrees trusted old h
      → IsRead h (token_view token) k → g.calls (store_of new) ≡ g.calls (store_of old) + 1
  -- It failed or not, as the result says.
  pub device : LeavesDevice old result new
