-- The numbers of the register that stand beside a buffer: what the type of a buffer under a lock
-- says (docs/PROTOCOL.md, Store).
use Rattle.std.specs.Prelude.{◌≡◌, ◌<◌, ℕ, Bool, true, false, List, length, slice_index_or, Option}
use Rattle.std.specs.Prelude.{None, Some, IfSome, IsSomeAnd}
use Rattle.boxcar.specs.Table.{Shelves, Where, Shows}
use Rattle.cyc_block.specs.declared.store.BlockStore.{Ghosts}
use Rattle.cyc_buffer.specs.Agreement.{Agrees, Owns, Continues, blocks_written, is_broken, token_of}
use Rattle.cyc_buffer.specs.Agreement.{store_of}
use Rattle.cyc_buffer.specs.Head.{is_busy}
use Rattle.cyc_buffer.specs.History.{History, Article, finished_at, front_of}
use Rattle.cyc_buffer.specs.Remembered.{is_start}
use Rattle.cyc_buffer.specs.declared.buffer.Buffer.{Buffer}
use Rattle.cyc_buffer.specs.declared.buffer_state.Open.{Open}
use Rattle.cyc_token.specs.Token.{token_view}
use Rattle.cyc_token.specs.declared.Token as codes
use Rattle.live_store.specs.declared.open_write.OpenWrite.{OpenWrite}
use Rattle.live_store.specs.declared.writing.entering.Record.{Record}
use Rattle.news_terms.specs.Places as places
use Rattle.news_terms.specs.Places.{IsLive, on_line}
use Rattle.news_terms.specs.Token.{Token}

-- the token of the record of a number, as the code has it
abbrev pub named_in : Where Record → codes.Token
named_in shown = shown.value.token.value

-- the token of the record of a number
abbrev pub token_in : Where Record → Token
token_in shown = token_view (named_in shown)

-- whether the article of the record of a number was begun at the front of a cycle
abbrev pub fresh_in : Where Record → Bool
fresh_in shown = shown.value.fresh.value

-- the text of the record of a number
abbrev pub text_in : Where Record → List ℕ
text_in shown = shown.value.text.value.items

-- two numbers are one, and so they are of one record
abbrev pub IsSameRecord : Where Record → Where Record → Type 0
IsSameRecord a b = (a.index ≡ b.index) × (a.value ≡ b.value)

-- the token of an article that a buffer finished
abbrev pub article_token : places.Buffer → (cycle first : ℕ) → Article → Token
article_token buffer cycle first article = record {
  class = article.class;
  buffer = buffer.number;
  cycle = cycle;
  first = first;
  length = length article.text;
}

-- the number is one of the register, whose record has the token of an article that a buffer
-- finished and, where the stores are trusted, its text
pub record IsRecordOf (trusted : Bool) (register : Shelves) (buffer : places.Buffer)
    (cycle first : ℕ) (article : Article) (shown : Where Record)
    : Type 0 where
  pub shows : Shows register shown
  pub text : trusted ≡ true → text_in shown ≡ article.text
  pub token : token_in shown ≡ article_token buffer cycle first article

-- there is such a number
abbrev pub HasRecord : Bool → Shelves → places.Buffer → (cycle first : ℕ) → Article
    → Option (Where Record) → Type 0
HasRecord trusted register buffer cycle first article None = ⊥
HasRecord trusted register buffer cycle first article (Some shown) =
    IsRecordOf trusted register buffer cycle first article shown

-- the number at a block
abbrev pub number_at : List (Option (Where Record)) → (block : ℕ) → Option (Where Record)
number_at numbers block = slice_index_or numbers block None

-- each live finished article has its record's number at its first block
abbrev pub AreNumbered : Bool → Shelves → History → List (Option (Where Record)) → Type 0
AreNumbered trusted register h numbers = (cycle first : ℕ) (article : Article)
    → finished_at h.buffer h.begins cycle first ≡ Some article
    → IsLive h.buffer.blocks (front_of h) (on_line h.buffer.blocks cycle first)
    → HasRecord trusted register h.buffer cycle first article (number_at numbers first)

-- each number that stands at a block is one of the register
abbrev pub AreShown : Shelves → List (Option (Where Record)) → Type 0
AreShown register numbers = (block : ℕ) (shown : Where Record)
    → number_at numbers block ≡ Some shown → Shows register shown

-- the record of this number is that of the open write: it has its token and as many octets
pub record IsWrittenAs (register : Shelves) (write : Open) (shown : Where Record) : Type 0 where
  pub shows : Shows register shown
  pub named : token_view (token_of write) ≡ token_in shown
  pub octets : length (text_in shown) ≡ (token_in shown).length

-- the number beside an open write is its record's; before one stands there nothing is written
abbrev pub HasNumber : Shelves → OpenWrite → Option (Where Record) → Type 0
HasNumber register b None = b.written ≡ 0
HasNumber register b (Some shown) = IsWrittenAs register b.write shown

-- no write of a block of it failed, and what stands beside it says how far it has come
pub record IsWhole {S : Type 0} {g : Ghosts S} (register : Shelves) (buffer : Buffer S g)
    (b : OpenWrite)
    : Type 0 where
  pub unbroken : is_broken buffer ≡ false
  pub written : b.written ≡ blocks_written buffer
  pub number : HasNumber register b b.shown

-- the record of this number is an open write's: it has the write's number, or, where that has none
-- yet, the write's token
abbrev pub IsNamed : Open → Option (Where Record) → Where Record → Type 0
IsNamed write None shown = named_in shown ≡ token_of write
IsNamed write (Some own) shown = IsSameRecord own shown

-- what stands beside a buffer is its open write
pub record IsOpen {S : Type 0} {g : Ghosts S} (register : Shelves) (buffer : Buffer S g)
    (b : OpenWrite)
    : Type 0 where
  pub owns : Owns buffer b.write
  pub shown : IfSome b.shown (λ shown. Shows register shown)
  pub whole : b.broken ≡ false → IsWhole register buffer b

-- what stands beside a buffer is its open write, and where nothing stands there none is open
abbrev pub IsOpenWrite : {S : Type 0} {g : Ghosts S} → Shelves → Buffer S g
    → Option OpenWrite → Type 0
IsOpenWrite register buffer None = is_busy buffer ≡ false
IsOpenWrite register buffer (Some b) = IsOpen register buffer b

-- the article of the record of this number begins at the block
abbrev pub IsFirstAt : (block : ℕ) → Where Record → Type 0
IsFirstAt block shown = (named_in shown).first ≡ block

-- at each block where a finished article begins there stands a number, of a record whose article
-- begins there
abbrev pub HaveNumbers : {S : Type 0} {g : Ghosts S} → Buffer S g → List (Option (Where Record))
    → Type 0
HaveNumbers buffer numbers = (block : ℕ) → block < length numbers → is_start buffer block ≡ true
    → IsSomeAnd (number_at numbers block) (IsFirstAt block)

-- what is written of the history's open write is what the text begins with of the record whose
-- number stands beside it, where no write of a block failed
abbrev pub IsBegunOpenWrite : History → Option OpenWrite → Type 0
IsBegunOpenWrite h None = Unit {0}
IsBegunOpenWrite h (Some b) = b.broken ≡ false
    → IfSome b.shown (λ shown. Continues (text_in shown) h)

-- The buffer, whose store is honest, agrees with a history, in which each live finished article has
-- its record's number at its first block.
pub record IsKnown {S : Type 0} {g : Ghosts S} (register : Shelves) (buffer : Buffer S g)
    (open_write : Option OpenWrite) (numbers : List (Option (Where Record)))
    : Type 0 where
  pub history : History
  pub agrees : Agrees true buffer history
  pub begun : IsBegunOpenWrite history open_write
  pub numbered : AreNumbered true register history numbers

-- What stands beside the buffer is its open write, and at its blocks there stand the numbers of the
-- articles that begin there, whatever its store holds. Where the store is trusted a history is
-- known that the buffer agrees with; where it isn't there may be none, as after a start of what
-- nobody stopped.
pub record Tied {S : Type 0} {g : Ghosts S} (trusted : Bool) (register : Shelves)
    (buffer : Buffer S g) (open_write : Option OpenWrite) (numbers : List (Option (Where Record)))
    : Type 0 where
  pub own_write : IsOpenWrite register buffer open_write
  pub started : HaveNumbers buffer numbers
  pub shown : AreShown register numbers
  pub places : length numbers ≡ length (g.blocks (store_of buffer))
  pub known : trusted ≡ true → IsKnown register buffer open_write numbers
