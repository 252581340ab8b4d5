-- What is known of the open write of a register.
use Rattle.std.proofs.Common.{◌≡◌, ◌∙◌, ◌+◌, ◌<◌, Bool, false, List, length, Option, None, Some}
use Rattle.std.proofs.Common.{ap, sym, subst, arith, ℕ, refl}
use Rattle.news_terms.specs.Places.{size_of}
use Rattle.news_terms.specs.Token as tokens
use Rattle.cyc_block.specs.declared.store.BlockStore.{Ghosts}
use Rattle.cyc_token.specs.Token.{token_view}
use Rattle.cyc_token.specs.declared.Token.{Token}
use Rattle.cyc_buffer.specs.Agreement.{Agrees, IsOpenAs, CanWrite, CanFinish, token_of}
use Rattle.cyc_buffer.specs.History.{Begin, History, Writing, open_token, token_of_open}
use Rattle.cyc_buffer.specs.History.{newest_token}
use Rattle.cyc_buffer.specs.Progress.{has_failed, written_of}
use Rattle.cyc_buffer.specs.BufferState.{Writes}
use Rattle.cyc_buffer.specs.declared.buffer.Buffer.{Buffer}
use Rattle.cyc_buffer.specs.Progress.{IsTheOpen, end_of, start_of, open_count}
use Rattle.cyc_buffer.specs.declared.buffer_state.Open.{Open}
use Rattle.cyc_buffer.specs.declared.buffer_state.Progress.{Progress}
use Rattle.cyc_buffer.proofs.Finished.{same_some}

-- its article ends where the register says
pub open_end : (write : Open) (p : Option Progress) → IsTheOpen write p
    → end_of p ≡ write.token.first + size_of write.token.length
open_end write None h = absurd h
open_end write (Some p) h = ap (λ (t : Token). t.first + size_of t.length) h

-- and begins there too
pub open_start : (write : Open) (p : Option Progress) → IsTheOpen write p
    → start_of p ≡ write.token.first + 1
open_start write None h = absurd h
open_start write (Some p) h = ap (λ (t : Token). t.first + 1) h

-- there is one
pub open_one : (write : Open) (p : Option Progress) → IsTheOpen write p → open_count p ≡ 1
open_one write None h = absurd h
open_one write (Some p) h = refl

-- where the article of the open write lies, and that it is one
pub ruleset open_place = (open_end, open_start, open_one)

-- the token that a definition's token stands for
abbrev from_view : tokens.Token → Token
from_view t = record {
  class = t.class;
  buffer = t.buffer;
  cycle = t.cycle;
  first = t.first;
  length = t.length;
}

-- what is known of the progress where the handle has the token of the history's open write
record IsProgressAs (p : Option Progress) (write : Open) (w : Writing) : Type 0 where
  owned : IsTheOpen write p
  broken : has_failed p ≡ w.broken
  blocks : written_of p ≡ w.blocks
  octets : write.token.length ≡ w.octets

progress_as : (h : History) (write : Open) (w : Writing) (p : Option Progress)
    → Writes h p (Some w) → Some (token_view write.token) ≡ token_of_open h.buffer h.begins (Some w)
    → IsProgressAs p write w
progress_as h write w None writes token = absurd writes
progress_as h write w (Some p) writes token =
    let same : token_view write.token ≡ token_view p.token =
    same_some (token
    ∙ ap (λ (b : List Begin). newest_token h.buffer b w.class w.octets) writes.newest
    ∙ ap (λ (t : tokens.Token). Some t) (sym writes.token)) in
    record {
      owned = ap from_view (sym same);
      broken = writes.broken;
      blocks = writes.written;
      octets = ap (λ (t : tokens.Token). t.length) (same ∙ writes.token);
    }

-- the handle with the token of a history's open write is the buffer's that agrees with it
pub is_open : {S : Type 0} {g : Ghosts S} (buffer : Buffer S g) (write : Open) (trusted : Bool)
    (h : History) (w : Writing) → Agrees trusted buffer h → h.writing ≡ Some w
    → Some (token_view (token_of write)) ≡ open_token h → IsOpenAs buffer write w
is_open buffer write trusted h w agrees writing token =
    let known = progress_as h write w buffer.buffer_state.progress
    (subst (Writes h buffer.buffer_state.progress) writing agrees.keeps.writing)
    (token ∙ ap (token_of_open h.buffer h.begins) writing) in
    record {
      owned = known.owned;
      broken = known.broken;
      blocks = known.blocks;
      octets = known.octets;
    }

-- and its next block can be written where the history has one left
pub can_write : {S : Type 0} {g : Ghosts S} (buffer : Buffer S g) (write : Open) (w : Writing)
    (text : List ℕ) → IsOpenAs buffer write w → w.broken ≡ false → w.blocks < size_of w.octets
    → length text ≡ w.octets → CanWrite buffer write text
can_write buffer write w text known whole left octets = record {
  owned = known.owned;
  whole = known.broken ∙ whole;
  left = omega (arith, left, known.blocks, ap size_of known.octets);
  octets = octets ∙ sym known.octets;
}

-- and it can be finished where the history has none left
pub can_finish : {S : Type 0} {g : Ghosts S} (buffer : Buffer S g) (write : Open) (w : Writing)
    → IsOpenAs buffer write w → w.broken ≡ false → w.blocks ≡ size_of w.octets
    → CanFinish buffer write
can_finish buffer write w known whole all = record {
  owned = known.owned;
  whole = known.broken ∙ whole;
  written = known.blocks ∙ all ∙ ap size_of (sym known.octets);
}
