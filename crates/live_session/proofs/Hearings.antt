-- What a session heard, over honest stores or any.
use Rattle.std.proofs.Common.{◌≡◌, ◌⊎◌, ℕ, Bool, true, false, List, [], Option, Some, refl, sym, ap}
use Rattle.std.proofs.Common.{subst, ◌∙◌, inl, inr}
use Rattle.article_fetch.specs.Fetch.{Fetch, FoundAs}
use Rattle.article_fetch.specs.Given.{given}
use Rattle.article_fetch.specs.declared.chunk.Chunk.{Chunk}
use Rattle.article_fetch.specs.declared.chunk.Chunk.TheVariants as chunks
use Rattle.live_session.specs.Course.{HearsAny, gathered_after}
use Rattle.live_session.specs.Going.{AnswersBy, HeardFor, IsAnyAnswerTo, chunk_in}
use Rattle.news_terms.specs.Token.{Token}
use Rattle.peer_session.specs.Answers.{IsAnswerTo, SharesNone, handed}
use Rattle.peer_session.specs.Given.{HeardOfRead, HeedsRead, gathered_on}
use Rattle.peer_session.specs.Hearing.{Gathers, HeardBy, Heeds}
use Rattle.peer_session.specs.Planning.{Planned}
use Rattle.peer_session.specs.declared.session.Session.{Session}
use Rattle.peer_session.specs.declared.steps.Answer.{Answer}
use Rattle.peer_session.specs.declared.steps.Answer.TheVariants as answers
use Rattle.relay_model.specs.Asks as asks
use Rattle.relay_model.specs.Asks.{Ask, Due}
use Rattle.relay_model.specs.Fetches.{Fetched}
use Rattle.relay_model.specs.Hears.{Heard, Hears, goes_on}
use Rattle.relay_model.specs.Shares as shares
use Rattle.relay_model.specs.State as model
use Rattle.relay_model.specs.Terms.{Terms}

-- a block is to be read
abbrev pub reads_block : Ask → Bool
reads_block (asks.Reads asked token had) = true
reads_block asks.Rests = false
reads_block asks.GoesOn = false
reads_block (asks.Says reply) = false
reads_block (asks.Leaves reply) = false
reads_block (asks.Offers transfer id) = false
reads_block (asks.Looks part id) = false
reads_block (asks.TakesQueue feed most) = false
reads_block (asks.Refuses transfer id reason) = false
reads_block (asks.Takes transfer id article) = false
reads_block (asks.Pushes job) = false
reads_block (asks.LooksInSlot transfer id) = false
reads_block (asks.Releases id) = false
reads_block asks.Ends = false

-- of what isn't read, any answer is one of the definitions
plain_answer : (ask : Ask) (gathered : List ℕ) (answer : Answer) (told : shares.Answer)
    → reads_block ask ≡ false → IsAnswerTo ask gathered answer told
    → IsAnyAnswerTo ask gathered answer told
plain_answer (asks.Reads asked token had) gathered answer told plain is = cc
plain_answer asks.Rests gathered answer told plain is = is
plain_answer asks.GoesOn gathered answer told plain is = is
plain_answer (asks.Says reply) gathered answer told plain is = is
plain_answer (asks.Leaves reply) gathered answer told plain is = is
plain_answer (asks.Offers transfer id) gathered answer told plain is = is
plain_answer (asks.Looks part id) gathered answer told plain is = is
plain_answer (asks.TakesQueue feed most) gathered answer told plain is = is
plain_answer (asks.Refuses transfer id reason) gathered answer told plain is = is
plain_answer (asks.Takes transfer id article) gathered answer told plain is = is
plain_answer (asks.Pushes job) gathered answer told plain is = is
plain_answer (asks.LooksInSlot transfer id) gathered answer told plain is = is
plain_answer (asks.Releases id) gathered answer told plain is = is
plain_answer asks.Ends gathered answer told plain is = is

pub answers_by : (honest : Bool) (ask : Ask) (gathered : List ℕ) (answer : Answer)
    (told : shares.Answer) → reads_block ask ≡ false → IsAnswerTo ask gathered answer told
    → AnswersBy honest ask gathered answer told
answers_by true ask gathered answer told plain is = is
answers_by false ask gathered answer told plain is =
    plain_answer ask gathered answer told plain is

-- where nothing is shared no block is read
pub none_read : (ask : Ask) → SharesNone ask → reads_block ask ≡ false
none_read (asks.Reads asked token had) none = absurd none
none_read asks.Rests none = refl
none_read asks.GoesOn none = refl
none_read (asks.Says reply) none = refl
none_read (asks.Leaves reply) none = refl
none_read (asks.Offers transfer id) none = refl
none_read (asks.Looks part id) none = refl
none_read (asks.TakesQueue feed most) none = refl
none_read (asks.Refuses transfer id reason) none = refl
none_read (asks.Takes transfer id article) none = refl
none_read (asks.Pushes job) none = refl
none_read (asks.LooksInSlot transfer id) none = refl
none_read (asks.Releases id) none = refl
none_read asks.Ends none = refl

-- nothing is gathered by what isn't read
none_gathered : (ask : Ask) (read : Option Chunk) (told : shares.Answer) (gathered : List ℕ)
    → reads_block ask ≡ false → gathered_after ask read told gathered ≡ []
none_gathered (asks.Reads asked token had) read told gathered plain = cc
none_gathered asks.Rests read told gathered plain = refl
none_gathered asks.GoesOn read told gathered plain = refl
none_gathered (asks.Says reply) read told gathered plain = refl
none_gathered (asks.Leaves reply) read told gathered plain = refl
none_gathered (asks.Offers transfer id) read told gathered plain = refl
none_gathered (asks.Looks part id) read told gathered plain = refl
none_gathered (asks.TakesQueue feed most) read told gathered plain = refl
none_gathered (asks.Refuses transfer id reason) read told gathered plain = refl
none_gathered (asks.Takes transfer id article) read told gathered plain = refl
none_gathered (asks.Pushes job) read told gathered plain = refl
none_gathered (asks.LooksInSlot transfer id) read told gathered plain = refl
none_gathered (asks.Releases id) read told gathered plain = refl
none_gathered asks.Ends read told gathered plain = refl

-- so nothing is gathered after it
plain_gathers : (ask : Ask) (told : shares.Answer) (phase : model.Phase) (later : List ℕ)
    → reads_block ask ≡ false → Gathers ask told phase later → later ≡ []
plain_gathers ask told model.Ready later plain is = is
plain_gathers ask told (model.AwaitsBlock transfer id) later plain is = is
plain_gathers ask told (model.Holds id article) later plain is = is
plain_gathers ask told (model.Waits transfer id) later plain is = is
plain_gathers ask told (model.Fetches asked token had) later plain (inl none) = none.0
plain_gathers ask told (model.Fetches asked token had) later plain (inr some) =
    absurd (let reads : true ≡ false = sym (ap reads_block some.2) ∙ plain in cc)
plain_gathers ask told model.Leaving later plain is = is
plain_gathers ask told model.Ended later plain is = is

-- a fetch goes on by what it found as by what it was given
goes_same : (fetch : Fetch) (chunk : Chunk) (found : Fetched) → FoundAs fetch chunk found
    → goes_on fetch.asked fetch.token fetch.had (given fetch.gathered chunk)
    ≡ goes_on fetch.asked fetch.token fetch.had found
goes_same fetch (chunks.Found octets) found is =
    ap (goes_on fetch.asked fetch.token fetch.had) (sym is.1)
goes_same fetch (chunks.Gone front) found is =
    ap (goes_on fetch.asked fetch.token fetch.had) (sym is)
goes_same fetch chunks.Unknown found is =
    ap (goes_on fetch.asked fetch.token fetch.had) (sym is)
goes_same fetch (chunks.Device fault) found is =
    ap (goes_on fetch.asked fetch.token fetch.had) (sym is)

-- a block is to be read, or something else is due
read_or_not : (ask : Ask)
    → ((asked : model.Asked) × (token : Token) × (had : ℕ) × (ask ≡ asks.Reads asked token had))
    ⊎ (reads_block ask ≡ false)
read_or_not (asks.Reads asked token had) = inl (asked, token, had, refl)
read_or_not asks.Rests = inr refl
read_or_not asks.GoesOn = inr refl
read_or_not (asks.Says reply) = inr refl
read_or_not (asks.Leaves reply) = inr refl
read_or_not (asks.Offers transfer id) = inr refl
read_or_not (asks.Looks part id) = inr refl
read_or_not (asks.TakesQueue feed most) = inr refl
read_or_not (asks.Refuses transfer id reason) = inr refl
read_or_not (asks.Takes transfer id article) = inr refl
read_or_not (asks.Pushes job) = inr refl
read_or_not (asks.LooksInSlot transfer id) = inr refl
read_or_not (asks.Releases id) = inr refl
read_or_not asks.Ends = inr refl

-- a block was read, or it was something else
module _ (s : ℕ) (old : Session) (answer : Answer) (said : List ℕ) (new : Session)
    (heeds : Heeds s old answer said new) (reads : HeedsRead old answer said new) (w : Terms)
    (m : model.Session) (d : Due) (gathered : List ℕ) (told : shares.Answer)
    (planned : Planned w old m d gathered (handed answer)) where
  -- what a session that heard a block has gathered
  read_later : (asked : model.Asked) (token : Token) (had : ℕ) (chunk : Chunk)
      → d.ask ≡ asks.Reads asked token had → answer ≡ answers.Chunk chunk
      → HeardOfRead w d.after asked token had gathered chunk said new
  read_later asked token had chunk at is =
      let plain : Planned w old m d gathered false =
      subst (λ (b : Bool). Planned w old m d gathered b) (ap handed is) planned in
      reads w m d gathered asked token had chunk plain at is

  -- so it is gathered behind the others
  read_after : (asked : model.Asked) (token : Token) (had : ℕ) (chunk : Chunk) (found : Fetched)
      (later : List ℕ) → d.ask ≡ asks.Reads asked token had → answer ≡ answers.Chunk chunk
      → told ≡ shares.ToRead found
      → later ≡ gathered_on (goes_on asked token had found) gathered chunk
      → later ≡ gathered_after d.ask (chunk_in answer) told gathered
  read_after asked token had chunk found later at is tells after =
      after
      ∙ ap (λ one. gathered_after (asks.Reads asked token had) (Some chunk) one gathered)
      (sym tells)
      ∙ ap (λ one. gathered_after (asks.Reads asked token had) (chunk_in one) told gathered)
      (sym is)
      ∙ ap (λ one. gathered_after one (chunk_in answer) told gathered) (sym at)

  -- what is gathered by the answer of the definitions
  later_same : IsAnswerTo d.ask gathered answer told → (by : HeardBy w s d told said new)
      → by.later ≡ gathered_after d.ask (chunk_in answer) told gathered
  later_same is by = choose (read_or_not d.ask)
    where
      choose : ((asked : model.Asked) × (token : Token) × (had : ℕ)
          × (d.ask ≡ asks.Reads asked token had))
          ⊎ (reads_block d.ask ≡ false)
          → by.later ≡ gathered_after d.ask (chunk_in answer) told gathered
      choose (inr plain) =
          plain_gathers d.ask told by.heard.session.phase by.later plain by.gathers
          ∙ sym (none_gathered d.ask (chunk_in answer) told gathered plain)
      choose (inl (asked, token, had, at)) =
          let one = subst (λ a. IsAnswerTo a gathered answer told) at is in
          let read = read_later asked token had one.0 at one.2 in
          let fetch : Fetch = record {
            asked = asked;
            token = token;
            had = had;
            gathered = gathered;
            prepared = true;
          } in
          read_after asked token had one.0 one.1 by.later at one.2 one.3
          (by.stands.gathers ∙ sym read.stands.gathers ∙ read.gathers
          ∙ ap (λ goes. gathered_on goes gathered one.0) (goes_same fetch one.0 one.1 one.4))

  -- what the definitions say of an answer was heard
  heard_same : IsAnswerTo d.ask gathered answer told
      → HeardFor true w s d gathered answer told said new
  heard_same is =
      let by = heeds w m d gathered told planned is in
      record {
        heard = by.heard;
        later = by.later;
        later_is = later_same is by;
        hears = by.hears;
        is_said = by.is_said;
        stands = by.stands;
        gathers = λ honest. by.gathers;
      }

  -- of what isn't read, the same under another name
  heard_other : (ask : Ask) → d.ask ≡ ask
      → (IsAnyAnswerTo ask gathered answer told → IsAnswerTo ask gathered answer told)
      → ((heard : Heard) → Hears s d.after ask told heard → HearsAny s d.after ask told heard)
      → IsAnyAnswerTo ask gathered answer told → HeardFor false w s d gathered answer told said new
  heard_other ask at as_is same is =
      let told_so = subst (λ a. IsAnswerTo a gathered answer told) (sym at) (as_is is) in
      let by = heeds w m d gathered told planned told_so in
      record {
        heard = by.heard;
        later = by.later;
        later_is = later_same told_so by;
        hears = subst (λ a. (heard : Heard) → Hears s d.after a told heard
            → HearsAny s d.after a told heard) (sym at) same by.heard by.hears;
        is_said = by.is_said;
        stands = by.stands;
        gathers = λ honest. cc;
      }

  heard_any : (ask : Ask) → d.ask ≡ ask → IsAnyAnswerTo ask gathered answer told
      → HeardFor false w s d gathered answer told said new
  heard_any (asks.Reads asked token had) at is =
      let by = read_later asked token had is.0 at is.1 in
      record {
        heard = by.heard;
        later = by.later;
        later_is = read_after asked token had is.0 (given gathered is.0) by.later at is.1 is.2
            by.gathers;
        hears = subst (λ a. HearsAny s d.after a told by.heard) (sym at)
            (given gathered is.0, is.2, by.hears);
        is_said = by.is_said;
        stands = by.stands;
        gathers = λ honest. cc;
      }
  heard_any asks.Rests at is =
      heard_other asks.Rests at (λ a. a) (λ heard a. a) is
  heard_any asks.GoesOn at is =
      heard_other asks.GoesOn at (λ a. a) (λ heard a. a) is
  heard_any (asks.Says reply) at is =
      heard_other (asks.Says reply) at (λ a. a) (λ heard a. a) is
  heard_any (asks.Leaves reply) at is =
      heard_other (asks.Leaves reply) at (λ a. a) (λ heard a. a) is
  heard_any (asks.Offers transfer id) at is =
      heard_other (asks.Offers transfer id) at (λ a. a) (λ heard a. a) is
  heard_any (asks.Looks part id) at is =
      heard_other (asks.Looks part id) at (λ a. a) (λ heard a. a) is
  heard_any (asks.TakesQueue feed most) at is =
      heard_other (asks.TakesQueue feed most) at (λ a. a) (λ heard a. a) is
  heard_any (asks.Refuses transfer id reason) at is =
      heard_other (asks.Refuses transfer id reason) at (λ a. a) (λ heard a. a) is
  heard_any (asks.Takes transfer id article) at is =
      heard_other (asks.Takes transfer id article) at (λ a. a) (λ heard a. a) is
  heard_any (asks.Pushes job) at is =
      heard_other (asks.Pushes job) at (λ a. a) (λ heard a. a) is
  heard_any (asks.LooksInSlot transfer id) at is =
      heard_other (asks.LooksInSlot transfer id) at (λ a. a) (λ heard a. a) is
  heard_any (asks.Releases id) at is =
      heard_other (asks.Releases id) at (λ a. a) (λ heard a. a) is
  heard_any asks.Ends at is =
      heard_other asks.Ends at (λ a. a) (λ heard a. a) is

  -- over honest stores or any
  pub heard_for : (honest : Bool) → AnswersBy honest d.ask gathered answer told
      → HeardFor honest w s d gathered answer told said new
  heard_for true is = heard_same is
  heard_for false is = heard_any d.ask refl is
