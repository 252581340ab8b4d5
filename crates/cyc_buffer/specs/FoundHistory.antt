-- The history of a buffer that was found again (docs/PROTOCOL.md, Crashes): of what was begun
-- before no more is known than what the device has, so each block that the front passed and that is
-- no found article's is a begin of its own, which was never finished.
use Rattle.std.specs.Prelude.{ℕ, zero, suc, ◌+◌, ◌-◌, ◌*◌, List, [], ◌∷◌, ◌++◌, min, take, drop}
use Rattle.std.specs.Prelude.{false, None, Some}
use Rattle.news_terms.specs.BlockImage.{chunk_size}
use Rattle.news_terms.specs.Places.{Buffer, size_of}
use Rattle.cyc_block.specs.Store.{block_at}
use Rattle.cyc_token.specs.declared.Token.{Token}
use Rattle.cyc_buffer.specs.History.{Article, Begin, History}

-- the octets that a block holds of an article of so many octets, as its block k
abbrev pub payload_in : List ℕ → (octets k : ℕ) → List ℕ
payload_in image octets k = take (min chunk_size (octets - chunk_size * k)) (drop 32 image)

-- the octets of the first n blocks of an article that begins at a block
unfoldable pub text_in : (blocks : List (List ℕ)) → (first octets n : ℕ) → List ℕ
text_in blocks first octets zero = []
text_in blocks first octets (suc n) =
    text_in blocks first octets n ++ payload_in (block_at blocks (first + n)) octets n

-- the article that a device has under a token
abbrev pub article_in : (blocks : List (List ℕ)) → Token → Article
article_in blocks t = record {
  class = t.class;
  text = text_in blocks t.first t.length (size_of t.length);
}

-- a block that is no found article's
abbrev pub lost : Begin
lost = record { size = 1; fresh = false; finished = None }

-- begins with so many lost blocks behind them
unfoldable pub with_lost : ℕ → List Begin → List Begin
with_lost zero begins = begins
with_lost (suc n) begins = lost ∷ with_lost n begins

-- the begin of an article that is found again
abbrev pub found_begin : (blocks : List (List ℕ)) → Token → Begin
found_begin blocks t = record {
  size = size_of t.length;
  fresh = false;
  finished = Some (article_in blocks t);
}

-- the blocks before a block of a cycle, from the first cycle on
abbrev pub blocks_before : Buffer → (cycle block : ℕ) → ℕ
blocks_before buffer cycle block = (cycle - buffer.first_cycle) * buffer.blocks + block

-- the begins up to so many blocks, with those up to block `at` and of these articles behind it
unfoldable pub begins_on : Buffer → (blocks : List (List ℕ)) → (at to : ℕ) → List Begin → List Token
    → List Begin
begins_on buffer blocks at to begins [] = with_lost (to - at) begins
begins_on buffer blocks at to begins (t ∷ later) =
    begins_on buffer blocks (blocks_before buffer t.cycle t.first + size_of t.length) to
    (found_begin blocks t ∷ with_lost (blocks_before buffer t.cycle t.first - at) begins) later

-- the history of a buffer that was found again with this front and these articles, rising by place
abbrev pub found_history : Buffer → (blocks : List (List ℕ)) → (cycle used : ℕ) → List Token
    → History
found_history buffer blocks cycle used tokens = record {
  buffer = buffer;
  begins = begins_on buffer blocks 0 (blocks_before buffer cycle used) [] tokens;
  writing = None;
}
