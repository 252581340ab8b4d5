-- What is given and kept of all texts that are found, once each was read and judged
-- (docs/PROTOCOL.md, Crashes).
use Rattle.std.specs.Prelude.{◌≡◌, ℕ, List, ◌++◌, All, flat_map, length, map, Option, IfSome, Vec}
use Rattle.std.specs.List.{AllZip, Contains}
use Rattle.std.specs.declared.alloc.Global.{Global}
use Rattle.block_shelf.specs.Each.{AreEach}
use Rattle.buffer_repair.specs.Keeping.{KeepsFound}
use Rattle.buffer_repair.specs.declared.found_set.FoundBufferSet.{FoundBufferSet}
use Rattle.cyc_block.specs.declared.store.BlockStore.{Ghosts}
use Rattle.cyc_buffer.specs.declared.starting.Started.{Started}
use Rattle.cyc_token.specs.Token.{token_view}
use Rattle.cyc_token.specs.declared.Token as code
use Rattle.found_again.specs.Reading.{AreArticlesOf, IsArticleOf}
use Rattle.found_again.specs.declared.text.FoundText.{FoundText}
use Rattle.news_terms.specs.Courses.{Course}
use Rattle.relay_conf.specs.declared.settings.Relay.{Relay}
use Rattle.relay_model.specs.State.{Kept}
use Rattle.relay_model.specs.Terms.{Terms}
use Rattle.found_texts.specs.Judging.{IsSetUp}

-- the tokens of what was found in a buffer
abbrev pub tokens_of : {S : Type 0} {g : Ghosts S} → Started S g → List code.Token
tokens_of one = one.tokens.items

-- the tokens of all that was found, one buffer after the other
abbrev pub all_tokens_in : {S : Type 0} {g : Ghosts S} → FoundBufferSet S g → List code.Token
all_tokens_in {S} {g} found_set =
    flat_map (λ (one : Started S g). tokens_of one) found_set.found.items

-- these texts are under these tokens, in their order
abbrev pub AreUnder : List code.Token → (kept : List Kept) → Type 0
AreUnder tokens kept = map (λ (one : Kept). one.token) kept ≡ map token_view tokens

-- each text is as long as its token says
abbrev pub AreAsLong : (kept : List Kept) → Type 0
AreAsLong kept = All (λ (one : Kept). one.token.length ≡ length one.text) kept

-- All texts that were kept have been read: those that are articles are left, these are the
-- program's values of them, and the others aren't kept any more.
pub record HasRead {S : Type 0} {g : Ghosts S} (w : Terms) (begun : ℕ → Course) (kept : List Kept)
    (failures : ℕ → ℕ) (texts : List FoundText) (new : FoundBufferSet S g)
    : Type 0 where
  pub left : List Kept
  pub articles : AreArticlesOf kept left
  pub values : AllZip (IsArticleOf w) texts left
  pub keeps : KeepsFound new w begun left failures

-- so it is of whatever texts the buffers kept under the tokens of what was found, each as long as
-- its token says
abbrev pub ReadsAll : {S : Type 0} {g : Ghosts S} → Relay → (old : FoundBufferSet S g)
    → (texts : List FoundText) → (new : FoundBufferSet S g) → Type 0
ReadsAll relay old texts new =
    (w : Terms) (begun : ℕ → Course) (kept : List Kept) (failures : ℕ → ℕ) → IsSetUp w relay
    → AreUnder (all_tokens_in old) kept → AreAsLong kept → KeepsFound old w begun kept failures
    → HasRead w begun kept failures texts new

-- each of these values is of a text under one of these tokens
abbrev pub AreAmong : List code.Token → (texts : List FoundText) → Type 0
AreAmong tokens texts = All (λ (text : FoundText). Contains tokens text.token) texts

-- these values are of texts of this buffer
pub record AreOfBuffer {S : Type 0} {g : Ghosts S} (number : ℕ) (one : Started S g)
    (texts : Vec FoundText Global)
    : Type 0 where
  pub among : AreAmong (tokens_of one) texts.items

-- of each buffer that was found again some values are given, in the order of the buffers
abbrev pub AreByBuffer : {S : Type 0} {g : Ghosts S} → FoundBufferSet S g
    → (texts : List (Vec FoundText Global)) → Type 0
AreByBuffer old texts = AreEach AreOfBuffer old.found.items texts

-- STEP BY STEP

-- the value of a text, where there is one, has its token
abbrev pub HasToken : code.Token → Option FoundText → Type 0
HasToken token judged = IfSome judged (λ text. text.token ≡ token)

-- values among which others were put are of the same texts, where the token is one of theirs
abbrev pub StayAmong : code.Token → (before after : List FoundText) → Type 0
StayAmong token before after =
    (tokens : List code.Token) → Contains tokens token → AreAmong tokens before
    → AreAmong tokens after

-- Of the texts that were kept some have been read, and those before and behind them are kept on: of
-- the ones that were read the articles are left, and these are the program's values of them.
pub record HasReadAmong {S : Type 0} {g : Ghosts S} (w : Terms) (begun : ℕ → Course)
    (before read after : List Kept) (failures : ℕ → ℕ) (texts : List FoundText)
    (new : FoundBufferSet S g)
    : Type 0 where
  pub left : List Kept
  pub articles : AreArticlesOf read left
  pub values : AllZip (IsArticleOf w) texts left
  pub keeps : KeepsFound new w begun (before ++ (left ++ after)) failures

-- so it is of whatever texts are kept under these tokens, each as long as its token says
abbrev pub ReadsEach : {S : Type 0} {g : Ghosts S} → Relay → List code.Token
    → (old : FoundBufferSet S g) → (texts : List FoundText) → (new : FoundBufferSet S g) → Type 0
ReadsEach relay tokens old texts new =
    (w : Terms) (begun : ℕ → Course) (before read after : List Kept) (failures : ℕ → ℕ)
    → IsSetUp w relay → AreUnder tokens read → AreAsLong read
    → KeepsFound old w begun (before ++ (read ++ after)) failures
    → HasReadAmong w begun before read after failures texts new

-- what was read is put behind the values before it
pub record ReadsFurther {S : Type 0} {g : Ghosts S} (relay : Relay) (tokens : List code.Token)
    (old : FoundBufferSet S g) (before : List FoundText) (new : FoundBufferSet S g)
    (after : List FoundText)
    : Type 0 where
  pub texts : List FoundText
  pub behind : after ≡ before ++ texts
  pub reads : ReadsEach relay tokens old texts new
