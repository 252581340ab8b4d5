-- A read of a block, and a front, in what the buffer set keeps.
use Rattle.std.proofs.Common.{◌≡◌, ◌∙◌, ℕ, ◌+◌, ◌<◌, ◌==◌, ◌||◌, inl, inr, nat_lt, nat_le, max}
use Rattle.std.proofs.Common.{zero, suc, Bool, false, refl, sym, ap, subst, arith, length, List, []}
use Rattle.std.proofs.Common.{◌∷◌, Option, None, Some, is_some, slice_get, Result, Ok, Err}
use Rattle.std.proofs.Common.{unwrap_or}
use Rattle.std.proofs.lemmas.Bool.Decides.{nat_tests}
use Rattle.std.proofs.lemmas.Option.{same_Some}
use Rattle.std.specs.Prelude.{find}
use Rattle.cyc_block.specs.declared.store.BlockStore.{Ghosts}
use Rattle.cyc_buffer.specs.Agreement.{Agrees, store_of}
use Rattle.cyc_buffer.specs.Answers as answers
use Rattle.cyc_buffer.specs.Answers.{Answer, Shows, answer, by_numbers, by_text, front_view}
use Rattle.cyc_buffer.specs.Answers.{is_beyond, or_by_text}
use Rattle.cyc_buffer.specs.Calls.{ReadsBlock}
use Rattle.cyc_buffer.specs.History as histories
use Rattle.cyc_buffer.specs.History.{History, Article, finished_at}
use Rattle.cyc_buffer.specs.Reads.{StaysHeld}
use Rattle.cyc_buffer.specs.declared.answers.BufError.{BufError}
use Rattle.cyc_buffer.specs.declared.answers.BufError.TheVariants.{Device}
use Rattle.cyc_buffer.specs.declared.answers.FaultKind.TheVariants as kinds
use Rattle.cyc_buffer.specs.declared.answers.Found.{Found}
use Rattle.cyc_buffer.specs.declared.answers.Found.TheVariants as found
use Rattle.cyc_buffer.specs.declared.answers.Front.{Front}
use Rattle.cyc_buffer.specs.declared.buffer.Buffer.{Buffer}
use Rattle.cyc_token.specs.Token.{token_view}
use Rattle.cyc_token.specs.declared.Token as tokens
use Rattle.news_terms.specs.BlockImage.{chunk}
use Rattle.news_terms.specs.Places as places
use Rattle.news_terms.specs.Places.{size_of, on_line}
use Rattle.news_terms.specs.Token.{Token}
pub use Rattle.news_terms.proofs.ListPlaces.{there_within as some_there}
use Rattle.relay_facts.proofs.Puts.{put_at_here, put_at_there}
use Rattle.relay_model.specs.Fetches as fetches
use Rattle.relay_model.specs.Fetches.{Fetched, fetched, decided, decided_in, decided_at, article_of}
use Rattle.relay_model.specs.Fetches.{buffer_of}
use Rattle.relay_model.specs.State.{State, put_at}
use Rattle.relay_model.specs.Terms.{Terms}
use Rattle.block_shelf.proofs.Reported.{fronts_agree}
use Rattle.block_shelf.proofs.Shelving.{AreKept, KeptAt, buffers_kept, failed_once, groups_kept}
use Rattle.block_shelf.proofs.Shelving.{held_stays, kept_at, past_last, still, with_buffer}
use Rattle.block_shelf.specs.Keeping.{KeepsTexts}
use Rattle.block_shelf.specs.Openings.{Opening}
use Rattle.block_shelf.specs.Reading.{IsFoundOf, IsFrontFor, IsNowhere, BlockRead, HasFound}
use Rattle.block_shelf.specs.Reading.{HasNotFound, IsFrontAt}
use Rattle.block_shelf.specs.declared.buffer_set.BufferSet.{BufferSet}
use Rattle.block_shelf.specs.Leaving.{Trust}

-- WHAT A HISTORY ANSWERS, AND WHAT A FETCH FINDS

-- what is answered for block k is what is found
abbrev IsAnswerFor : Answer → (k : ℕ) → Front → Fetched → Type 0
IsAnswerFor (answers.Chunk octets) k passed (fetches.Article text) = octets ≡ chunk k text
IsAnswerFor (answers.Gone front) k passed fetches.Gone = front ≡ passed
IsAnswerFor answers.Unknown k passed fetches.NotKnown = Unit {0}
IsAnswerFor answer k passed found = ⊥

-- what was found, where it is the answer
shown_found : (w : Terms) (σ : State) (token : Token) (k : ℕ) (one : Found) (slice : List ℕ)
    (a : Answer) (passed : Front) (what : Fetched) → Shows one slice a → IsAnswerFor a k passed what
    → IsFrontFor w σ token passed → IsFoundOf w σ token k one slice what
shown_found w σ token k (found.Chunk n) slice (answers.Chunk octets) passed (fetches.Article text)
    shows is front =
    (shows.0 ∙ ap length is, shows.1 ∙ is)
shown_found w σ token k (found.Gone f) slice (answers.Gone p) passed fetches.Gone shows is front =
    subst (IsFrontFor w σ token) (sym (shows ∙ is)) front
shown_found w σ token k found.Unknown slice answers.Unknown passed fetches.NotKnown shows is front =
    tt
shown_found w σ token k one slice a passed what shows is front = search

-- the buffer of a number stands at its place, where they are numbered in their order, from n on
find_numbered : (n k : ℕ) (buffers : List places.Buffer)
    → ((b : ℕ) (one : places.Buffer) → slice_get buffers b ≡ Some one → one.number ≡ n + b)
    → (m : ℕ) → m ≡ n + k
    → find (λ (one : places.Buffer). one.number == m) buffers ≡ slice_get buffers k
find_numbered n k [] numbered m is = refl
find_numbered n zero (first ∷ rest) numbered m is =
    grind (arith, nat_tests, numbered 0 first refl)
find_numbered n (suc k) (first ∷ rest) numbered m is =
    grind (
      arith,
      nat_tests,
      numbered 0 first refl,
      find_numbered (suc n) k rest (λ b one at. omega (arith, numbered (suc b) one at)) m
          (omega arith),
    )

module _ (buffer : places.Buffer) (token : Token) (k front : ℕ)
    (here : token.buffer ≡ buffer.number) (within : k < max 1 (size_of token.length)) where
  -- where its place is on the line
  abbrev place : ℕ
  place = on_line buffer.blocks token.cycle token.first

  -- that no article of this buffer has this token and this block doesn't rest on the block
  abbrev is_nowhere : Bool
  is_nowhere =
      token.length == 0 || nat_lt buffer.blocks (token.first + size_of token.length)
      || nat_le front place

  beyond : is_beyond buffer front token k ≡ is_nowhere
  beyond = grind (arith, nat_tests)

  -- the numbers decide both, or neither, and the history's answer is what is found
  answered : (text : Option (List ℕ))
      → (is_some (by_numbers buffer front token k) ≡ is_some (decided_at token buffer place front))
      × IsAnswerFor (or_by_text (by_numbers buffer front token k) (by_text k text)) k
      (front_view buffer front) (unwrap_or (decided_at token buffer place front) (article_of text))
  answered text = grind (arith, beyond)

module _ {S : Type 0} {g : Ghosts S} {trusted : Trust} {codes : List (Buffer S g)} {w : Terms}
    (σ : State) {openings : ℕ → Option Opening} {failures : ℕ → ℕ}
    (are : AreKept trusted codes w σ.begun σ.kept openings failures) where
  -- the buffer that a token names stands at its number
  pub named_buffer : (token : Token) → buffer_of w token ≡ slice_get w.buffers token.buffer
  named_buffer token =
      find_numbered 0 token.buffer w.buffers (λ b one is. omega (arith, are.numbered b one is))
      token.buffer (omega arith)

  -- the front of a buffer's history, as the relay's state says it
  front_here : {i : ℕ} {code : Buffer S g}
      (at : KeptAt trusted w σ.begun σ.kept openings failures i code)
      → histories.front_of at.now ≡ fetches.front_of w σ at.now.buffer
  front_here {i} at =
      fronts_agree w σ at.now are.sound are.laid are.numbered i at.there at.said.begins

  -- the front that a buffer of this place says
  pub fronts_are : (i : ℕ) {code : Buffer S g} (front : Front) → slice_get codes i ≡ Some code
      → ((t : Bool) (h : History) → Agrees t code h
      → front ≡ front_view h.buffer (histories.front_of h))
      → IsFrontAt w σ (slice_get w.buffers i) (Some front)
  fronts_are i front is says =
      let at = kept_at are is in
      rw at.there
      (ap Some (says trusted.honest at.now at.agrees ∙ ap (front_view at.now.buffer)
      (front_here at)))

module _ {S : Type 0} {g : Ghosts S} {trusted : Trust} {old : BufferSet S g} {w : Terms} (σ : State)
    {openings : ℕ → Option Opening} {failures : ℕ → ℕ}
    (keeps : KeepsTexts trusted old w σ.begun σ.kept openings failures) where
  -- where no buffer has the token's number nothing is found
  pub no_buffer : (token : Token) (k : ℕ) {i : ℕ} (slice : List ℕ) → i ≡ token.buffer
      → false ≡ nat_lt i (length old.buffers.items)
      → BlockRead trusted w σ openings failures token k (Ok found.Unknown) slice old
  no_buffer token k slice number missing =
      let nothing : decided w σ token ≡ Some fetches.NotKnown =
      ap (decided_in w σ token)
      (named_buffer σ (buffers_kept keeps) token ∙ ap (slice_get w.buffers) (sym number)
      ∙ past_last (buffers_kept keeps) _ missing) in
      let found_nothing : IsFoundOf w σ token k found.Unknown slice (fetched w σ token) =
      rw nothing tt in
      HasFound found.Unknown refl keeps (λ honest. found_nothing)
      (λ what is. rw (same_Some what fetches.NotKnown (sym is ∙ nothing)) tt)
      (λ nowhere. found_nothing)

  module _ (token : tokens.Token) (k : ℕ) {i : ℕ} {code : Buffer S g} (number : i ≡ token.buffer)
      (is : slice_get old.buffers.items i ≡ Some code)
      (has_block : k < max 1 (size_of token.length)) where
    at : KeptAt trusted w σ.begun σ.kept openings failures i code
    at = kept_at (buffers_kept keeps) is

    -- its history
    abbrev now : History
    now = at.now

    number_is : token.buffer ≡ now.buffer.number
    number_is = sym number ∙ sym at.number

    buffer_is : buffer_of w (token_view token) ≡ Some now.buffer
    buffer_is =
        named_buffer σ (buffers_kept keeps) (token_view token)
        ∙ ap (slice_get w.buffers) (sym number) ∙ at.there

    decided_is : decided w σ (token_view token)
        ≡ decided_at (token_view token) now.buffer
        (on_line now.buffer.blocks token.cycle token.first) (histories.front_of now)
    decided_is = cc (buffer_is, front_here σ (buffers_kept keeps) at)

    -- the history's answer is what a fetch finds
    found_of : (after : List ℕ) (one : Found) → Shows one after (answer now (token_view token) k)
        → IsFoundOf w σ (token_view token) k one after (fetched w σ (token_view token))
    found_of after one shows =
        shown_found w σ (token_view token) k one after (answer now (token_view token) k)
        (front_view now.buffer (histories.front_of now)) (fetched w σ (token_view token)) shows
        (rw (decided_is, ← at.said.texts (token_view token) number_is)
        (answered now.buffer (token_view token) k (histories.front_of now) number_is has_block
        (histories.text_under now (token_view token))).1)
        (record {
          buffer = now.buffer;
          named = buffer_is;
          number = refl;
          blocks = refl;
          front_is = front_here σ (buffers_kept keeps) at;
        })

    -- where the numbers decide, the device isn't asked
    unread_by_numbers : {what : Fetched} → decided w σ (token_view token) ≡ Some what
        → answers.IsUnread now (token_view token) k
    unread_by_numbers decides =
        inl
        ((answered now.buffer (token_view token) k (histories.front_of now) number_is has_block
        None).0
        ∙ ap is_some (sym decided_is ∙ decides))

    -- nor where nothing whole begins there
    unread_nowhere : IsNowhere σ.kept (token_view token) → answers.IsUnread now (token_view token) k
    unread_nowhere nowhere =
        let own : Article → Token =
        λ article. record (token_view token) {
          class = article.class;
          length = length article.text;
        } in
        let never : (article : Article)
        → finished_at now.buffer now.begins token.cycle token.first ≡ Some article → ⊥ =
        λ article is. grind (
          arith,
          nat_tests,
          is,
          nowhere article.class (length article.text),
          at.said.texts (own article) number_is,
        ) in
        inr (inl (grind (arith, never)))

    -- what a read of the buffer does is what the buffer set says
    pub reads : {before after : List ℕ} {code' : Buffer S g} (result : Result Found BufError)
        → ReadsBlock code token k before result after code'
        → StaysHeld g (store_of code) (store_of code')
        → BlockRead trusted w σ openings failures (token_view token) k result after
        (with_buffer old i code' old.placed_groups)
    reads {after = after} (Ok one) does held =
        HasFound one refl
        (still keeps at does.same (held_stays held (omega (arith, does.device.no_failure)))
        (at.failed ∙ sym does.device.no_failure) (λ n apart. refl)
        (groups_kept keeps))
        (λ honest.
        found_of after one (does.found now (subst (λ b. Agrees b code now) honest at.agrees)))
        (λ what decides. rw decides at
        (found_of after one (does.unread trusted.honest now at.agrees (unread_by_numbers decides))))
        (λ nowhere. found_of after one
        (does.unread trusted.honest now at.agrees (unread_nowhere nowhere)))
    reads {code' = code'} (Err e) does held =
        let never : (what : Fetched) → decided w σ (token_view token) ≡ Some what → ⊥ =
        λ what decides. does.unread trusted.honest now at.agrees (unread_by_numbers decides) in
        HasNotFound e (put_at failures token.buffer (g.failures (store_of code'))) refl
        (does.fault trusted.honest now at.agrees
        ∙ ap (λ n. Device (record { kind = kinds.Read; buffer = n; length = token.length }))
        (sym number_is))
        (still keeps at does.same (held_stays held (omega (arith, does.device.failed)))
        (put_at_here failures token.buffer (g.failures (store_of code')) i number)
        (λ n apart. put_at_there failures token.buffer (g.failures (store_of code')) n
        (λ e. apart (e ∙ sym number)))
        (groups_kept keeps))
        (failed_once failures (ap failures (sym number) ∙ at.failed) does.device.failed)
        (grind (arith, never))
        (λ nowhere. does.unread trusted.honest now at.agrees (unread_nowhere nowhere))
