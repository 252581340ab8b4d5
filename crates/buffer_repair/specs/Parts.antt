-- A buffer that was found again: its store, its stop, its tokens, and what is left of it
-- (docs/PROTOCOL.md, Crashes).
use Rattle.std.specs.Prelude.{◌≡◌, ℕ, false, List, [], All, Option, None, Some}
use Rattle.cyc_block.specs.declared.store.BlockStore.{Ghosts}
use Rattle.cyc_buffer.specs.Agreement.{buffer_state_of, store_of}
use Rattle.cyc_buffer.specs.Head.{inside, is_busy}
use Rattle.cyc_buffer.specs.Remembered.{place_of}
use Rattle.cyc_buffer.specs.declared.buffer.Buffer.{Buffer}
use Rattle.cyc_buffer.specs.declared.starting.Started.{Started}
use Rattle.cyc_token.specs.declared.Token as code
use Rattle.buffer_repair.specs.Remains.{Remains}

-- the buffer that was found again
abbrev pub buffer_in : {S : Type 0} {g : Ghosts S} → Started S g → Buffer S g
buffer_in one = inside one.buffer

-- its store
abbrev pub store_in : {S : Type 0} {g : Ghosts S} → Started S g → S
store_in one = store_of (buffer_in one)

-- the number of the stop that its head says
abbrev pub stop_in : {S : Type 0} {g : Ghosts S} → Started S g → ℕ
stop_in one = one.stop

-- the tokens of what was found in it
abbrev pub tokens_in : {S : Type 0} {g : Ghosts S} → Option (Started S g) → List code.Token
tokens_in None = []
tokens_in (Some one) = one.tokens.items

-- what is left of a buffer that was found again, whose device is this store: the front is the one
-- that it keeps in memory
abbrev pub remains_of : {S : Type 0} {g : Ghosts S} → Started S g → Remains
remains_of {g = g} one =
    let line = (buffer_state_of (buffer_in one)).line in
    record {
      buffer = place_of (buffer_in one);
      blocks = g.blocks (store_in one);
      cycle = line.cycle;
      used = line.used;
      tokens = one.tokens.items;
    }

-- no write is open in any of them
abbrev pub AreIdle : {S : Type 0} {g : Ghosts S} → List (Started S g) → Type 0
AreIdle {S} {g} found = All (λ (one : Started S g). is_busy (buffer_in one) ≡ false) found
