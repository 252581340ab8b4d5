-- What a stop and a start have to do with the register (docs/PROTOCOL.md, Clean stop and start).
use Rattle.std.specs.Prelude.{◌≡◌, ℕ, ◌<◌, Bool, true, List, length, slice_index_or, Option, None}
use Rattle.std.specs.Prelude.{◌⊎◌, Some, IsSomeAnd, Result, IfErr, IfOk, OnOk, Vec}
use Rattle.std.specs.declared.alloc.Global.{Global}
use Rattle.article_parse.specs.declared.faults.ArtError.{ArtError}
use Rattle.article_parse.specs.declared.faults.ArtError.TheVariants as faults
use Rattle.boxcar.specs.Table.{Shelves, Where, Shows}
use Rattle.cyc_block.specs.declared.store.BlockStore.{Ghosts}
use Rattle.cyc_buffer.specs.Agreement.{Agrees, Follows, buffer_state_of, store_of}
use Rattle.cyc_buffer.specs.Head.{has_open_head, stop_of}
use Rattle.cyc_buffer.specs.History.{History, Article, finished_at, front_of}
use Rattle.cyc_buffer.specs.Reads.{IsBlamed, StaysHeld}
use Rattle.cyc_buffer.specs.Starting.{IsReason, ListsLive, Starts}
use Rattle.cyc_buffer.specs.Stopped.{HoldsStopped, IsLiveToken}
use Rattle.cyc_buffer.specs.declared.answers.StartError.{StartError}
use Rattle.cyc_buffer.specs.declared.answers.StartError.TheVariants as errors
use Rattle.cyc_buffer.specs.declared.buffer.Buffer.{Buffer}
use Rattle.cyc_buffer.specs.declared.unopened.Unopened.{Unopened}
use Rattle.cyc_token.specs.Token.{token_view}
use Rattle.cyc_token.specs.declared.Token as codes
use Rattle.live_store.specs.declared.record.StorePremises as store_premises
use Rattle.live_store.specs.declared.unopened.UnopenedNumbered.{UnopenedNumbered}
use Rattle.live_store.specs.declared.writing.entering.Record.{Record}
use Rattle.live_store.specs.Tied.{AreNumbered, HasRecord, IsFirstAt, named_in, number_at}
use Rattle.live_store.specs.Tied.{text_in, token_in}
use Rattle.news_terms.specs.ArticleTexts.{IsArticle}
use Rattle.news_terms.specs.Places as places
use Rattle.news_terms.specs.Places.{IsLive, on_line}
use Rattle.news_terms.specs.Token.{Token}

-- an article was finished at this cycle and block, and is live
pub record IsThere (h : History) (cycle first : ℕ) (article : Article) : Type 0 where
  pub finished : finished_at h.buffer h.begins cycle first ≡ Some article
  pub live : IsLive h.buffer.blocks (front_of h) (on_line h.buffer.blocks cycle first)

-- the token of an article that a buffer finished, as the code has it
abbrev pub code_token : places.Buffer → (cycle first : ℕ) → Article → codes.Token
code_token buffer cycle first article = record {
  class = article.class;
  buffer = buffer.number;
  cycle = cycle;
  first = first;
  length = length article.text;
}

-- A buffer that was started agrees with a history, and these are the tokens of its live finished
-- articles.
pub record IsStarted {S : Type 0} {g : Ghosts S} (buffer : Buffer S g)
    (tokens : List codes.Token) : Type 0 where
  pub history : History
  pub agrees : Agrees true buffer history
  pub lists : ListsLive tokens history

-- the octets are the text of the live finished article of a token
abbrev pub IsTextOfLive : History → Token → List ℕ → Type 0
IsTextOfLive h token octets = (live : IsLiveToken h token) → octets ≡ live.article.text

-- each live finished article whose token is one of the first so many has its record's number at its
-- first block
abbrev pub AreNumberedTo : Bool → Shelves → History → List codes.Token → (count : ℕ)
    → List (Option (Where Record)) → Type 0
AreNumberedTo trusted register h tokens count numbers = (cycle first : ℕ) (article : Article)
    → IsThere h cycle first article → (j : ℕ) → j < count
    → slice_index_or tokens j (code_token h.buffer cycle first article)
    ≡ code_token h.buffer cycle first article
    → HasRecord trusted register h.buffer cycle first article (number_at numbers first)

-- at the first block of the article of each of the first so many tokens there stands a number, of a
-- record whose article begins there
abbrev pub HaveFirsts : List codes.Token → (count : ℕ) → List (Option (Where Record)) → Type 0
HaveFirsts tokens count numbers = (j : ℕ) (d : codes.Token) → j < count → j < length tokens
    → IsSomeAnd (number_at numbers (slice_index_or tokens j d).first)
    (IsFirstAt (slice_index_or tokens j d).first)

-- A buffer was read and nothing else: it agrees with the same histories, and nothing is another in
-- memory or on its device.
pub record IsMerelyRead {S : Type 0} {g : Ghosts S} (old new : Buffer S g) : Type 0 where
  pub same : Follows (λ h. h) old new
  pub buffer_state : buffer_state_of new ≡ buffer_state_of old
  pub opened : has_open_head new ≡ has_open_head old
  pub stop : stop_of new ≡ stop_of old
  pub held : StaysHeld g (store_of old) (store_of new)

-- why an article isn't entered: memory was refused, a read of the device failed, or what it holds
-- under the token is damaged, and then this isn't so of it
abbrev pub IsUnentered : Type 0 → StartError → Type 0
IsUnentered sound errors.Memory = Unit {0}
IsUnentered sound errors.Device = Unit {0}
IsUnentered sound errors.NoHead = ⊥
IsUnentered sound errors.Unclosed = ⊥
IsUnentered sound errors.Damaged = sound → ⊥

-- What a reading of articles leaves of a buffer, and what it is refused for: the buffer was merely
-- read; it is refused for memory, the device or damage, and for the device where that failed, and
-- only there.
pub record ReadsArticles {S A : Type 0} {g : Ghosts S} (old new : Buffer S g)
    (result : Result A StartError)
    : Type 0 where
  pub read : IsMerelyRead old new
  pub fault : IfErr result (IsUnentered ⊥)
  pub failed : IfErr result (IsBlamed g (store_of old) (store_of new))
  pub no_failure : OnOk result (g.failures (store_of new) ≡ g.failures (store_of old))

-- the text of the article under a token is read, if that is live; a live article is refused for
-- want of memory alone, or where a read of the device failed
pub record ReadsText {S : Type 0} {g : Ghosts S} (old new : Buffer S g) (token : codes.Token)
    (result : Result (Vec ℕ Global) StartError)
    : Type 0 where
  pub text : IfOk result (λ text. (h : History) → Agrees true old h
      → IsTextOfLive h (token_view token) text.items)
  pub refused : (h : History) → Agrees true old h → IsLiveToken h (token_view token)
      → IfErr result (IsUnentered (Unit {0}))
  pub reads : ReadsArticles old new result

-- a record is entered for the article under a token, with its text, if that is live; a live one
-- whose text is an article isn't damaged
pub record EntersArticle {S : Type 0} {g : Ghosts S} (register : Shelves) (old new : Buffer S g)
    (token : codes.Token) (result : Result (Where Record) StartError)
    : Type 0 where
  pub shown : IfOk result (Shows register)
  pub named : IfOk result (λ shown. named_in shown ≡ token)
  pub text : IfOk result (λ shown. (h : History) → Agrees true old h
      → IsTextOfLive h (token_view token) (text_in shown))
  pub refused : (h : History) → Agrees true old h → (live : IsLiveToken h (token_view token))
      → IfErr result (IsUnentered ∥ IsArticle live.article.text ∥₁)
  pub reads : ReadsArticles old new result

-- a text is refused for want of memory, or as it is no article
abbrev pub IsNoArticle : (text : List ℕ) → StartError → Type 0
IsNoArticle text errors.Memory = Unit {0}
IsNoArticle text errors.Device = ⊥
IsNoArticle text errors.NoHead = ⊥
IsNoArticle text errors.Unclosed = ⊥
IsNoArticle text errors.Damaged = IsArticle text → ⊥

-- a fault of a text is told as damage, and want of memory as itself
abbrev pub IsToldAs : ArtError → StartError → Type 0
IsToldAs faults.Memory told = told ≡ errors.Memory
IsToldAs faults.NoBlankLine told = told ≡ errors.Damaged
IsToldAs faults.BadHeader told = told ≡ errors.Damaged
IsToldAs faults.BareCrLf told = told ≡ errors.Damaged
IsToldAs faults.Nul told = told ≡ errors.Damaged
IsToldAs (faults.Missing name) told = told ≡ errors.Damaged
IsToldAs (faults.Twice name) told = told ≡ errors.Damaged
IsToldAs (faults.EmptyField name) told = told ≡ errors.Damaged
IsToldAs faults.BadId told = told ≡ errors.Damaged
IsToldAs faults.BadGroups told = told ≡ errors.Damaged

-- nothing is wrong with the buffer that was stopped under this number
pub record IsStartable (heads blocks : List (List ℕ)) (buffer : places.Buffer) (stop : ℕ)
    : Type 0 where
  pub tokens : List codes.Token
  pub starts : Starts heads blocks buffer stop tokens

-- the text of each live finished article is an article
abbrev pub AreArticles : History → Type 0
AreArticles h = (cycle first : ℕ) (article : Article) → IsThere h cycle first article
    → ∥ IsArticle article.text ∥₁

-- nothing is wrong with the buffer, and yet it is said to be damaged: of whatever history it holds
-- some live text is no article
pub record IsTextFault (heads blocks : List (List ℕ)) (buffer : places.Buffer) (e : StartError)
    : Type 0 where
  pub damaged : e ≡ errors.Damaged
  pub stop : ℕ
  pub startable : IsStartable heads blocks buffer stop
  pub text : (under : ℕ) (h : History) → HoldsStopped heads blocks under h → h.buffer ≡ buffer
      → AreArticles h → ⊥

-- why a start is refused: for what is wrong with the buffer, from without, or as damaged where
-- nothing is wrong with the buffer, as a text that is no article is
abbrev pub IsRefusedFor : (heads blocks : List (List ℕ)) → places.Buffer → StartError → Type 0
IsRefusedFor heads blocks buffer e =
    IsReason heads blocks buffer e ⊎ IsTextFault heads blocks buffer e

-- the device holds this buffer as it was stopped
pub record WasStopped (heads blocks : List (List ℕ)) (buffer : places.Buffer) : Type 0 where
  pub stop : ℕ
  pub history : History
  pub held : HoldsStopped heads blocks stop history
  pub same : history.buffer ≡ buffer

-- the device holds a buffer as it was stopped, each live text of which is that of a record of the
-- register
pub record ShutWith (register : Shelves) (stop : ℕ) (heads blocks : List (List ℕ)) : Type 0 where
  pub history : History
  pub shut : HoldsStopped heads blocks stop history
  pub numbers : List (Option (Where Record))
  pub numbered : AreNumbered true register history numbers

-- two records, each of its own register, have this token and one text
pub record IsSaidAgain (before after : Shelves) (token : Token) (old new : Where Record) : Type 0
  where
    pub shown_before : Shows before old
    pub shown_after : Shows after new
    pub named_before : token_in old ≡ token
    pub named_after : token_in new ≡ token
    pub text : text_in new ≡ text_in old

-- at a block there stand two such numbers
abbrev pub AreSaidAgain : (before after : Shelves) → Token → (old new : Option (Where Record))
    → Type 0
AreSaidAgain before after token None new = ⊥
AreSaidAgain before after token (Some old) None = ⊥
AreSaidAgain before after token (Some old) (Some new) = IsSaidAgain before after token old new

-- the started buffer, before its head is open
abbrev pub unopened_in : {S : Type 0} {s : Ghosts S} {J : Type 0} {j : store_premises.Ghosts J}
    → UnopenedNumbered S J s j → Unopened S s
unopened_in numbered = numbered.buffer

-- the numbers that stand at its blocks
abbrev pub numbers_on : {S : Type 0} {s : Ghosts S} {J : Type 0} {j : store_premises.Ghosts J}
    → UnopenedNumbered S J s j → List (Option (Where Record))
numbers_on numbered = numbered.numbers.items
