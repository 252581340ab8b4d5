-- What a start says of a device (docs/PROTOCOL.md, Clean stop and start).
use Rattle.std.specs.Prelude.{◌≡◌, ◌↔◌, ℕ, List, map}
use Rattle.std.specs.List.{Contains, sum_by}
use Rattle.news_terms.specs.HeadBlocks.{HeadBlock, Open, Closed}
use Rattle.news_terms.specs.Places.{Buffer, size_of}
use Rattle.cyc_token.specs.Token.{token_view}
use Rattle.cyc_token.specs.declared.Token.{Token}
use Rattle.cyc_buffer.specs.History.{History}
use Rattle.cyc_buffer.specs.Stopped.{Says, IsDamaged, IsWhole, IsLiveToken, IsRising}
use Rattle.cyc_buffer.specs.declared.answers.StartError.{StartError}
use Rattle.cyc_buffer.specs.declared.answers.StartError.TheVariants as errors

-- the head block is this buffer's, which was not stopped
pub record IsUnclosed (heads : List (List ℕ)) (buffer : Buffer) : Type 0 where
  pub numbers : HeadBlock
  pub says : Says heads buffer numbers
  pub opened : numbers.state ≡ Open

-- the head block is this buffer's, which was stopped, and something is wrong with it
pub record IsDamagedStop (heads blocks : List (List ℕ)) (buffer : Buffer) : Type 0 where
  pub numbers : HeadBlock
  pub says : Says heads buffer numbers
  pub closed : numbers.state ≡ Closed
  pub damaged : IsDamaged heads blocks numbers

-- why a start is refused, as far as the device's blocks decide it
abbrev pub IsReason : (heads blocks : List (List ℕ)) → Buffer → StartError → Type 0
IsReason heads blocks buffer errors.Memory = Unit {0}
IsReason heads blocks buffer errors.Device = Unit {0}
IsReason heads blocks buffer errors.NoHead = (b : HeadBlock) → Says heads buffer b → ⊥
IsReason heads blocks buffer errors.Unclosed = IsUnclosed heads buffer
IsReason heads blocks buffer errors.Damaged = IsDamagedStop heads blocks buffer

-- the refusal has nothing to do with what the device's blocks hold
abbrev pub IsOutside : StartError → Type 0
IsOutside errors.Memory = Unit {0}
IsOutside errors.Device = Unit {0}
IsOutside errors.NoHead = ⊥
IsOutside errors.Unclosed = ⊥
IsOutside errors.Damaged = ⊥

-- the blocks that the articles under tokens take
abbrev pub blocks_in : List Token → ℕ
blocks_in tokens = sum_by (λ (t : Token). size_of t.length) tokens

-- the tokens are those of the history's live finished articles, rising by place
pub record ListsLive (tokens : List Token) (h : History) : Type 0 where
  pub all : (t : Token) → Contains tokens t ↔ IsLiveToken h (token_view t)
  pub rising : IsRising h.buffer.blocks (map token_view tokens)

-- the device is that of a buffer that was stopped under this number, nothing is wrong with it, and
-- the tokens are those of the whole articles that its bitmap says, rising by place
pub record Starts (heads blocks : List (List ℕ)) (buffer : Buffer) (stop : ℕ) (tokens : List Token)
    : Type 0 where
  pub numbers : HeadBlock
  pub says : Says heads buffer numbers
  pub closed : numbers.state ≡ Closed
  pub stop_is : numbers.stop ≡ stop
  pub sound : IsDamaged heads blocks numbers → ⊥
  pub all : (t : Token) → Contains tokens t ↔ IsWhole heads blocks numbers (token_view t)
  pub rising : IsRising buffer.blocks (map token_view tokens)
