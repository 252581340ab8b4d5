-- What buffers that were found again keep once one of them was read.
use Rattle.std.proofs.Common.{◌≡◌, ◌≢◌, ◌∙◌, ℕ, ◌<◌, ◌≤◌, true, inl, inr, refl, sym, ap, subst}
use Rattle.std.proofs.Common.{arith, List, Option, None, Some, slice_get, Result, Ok, Err}
use Rattle.std.proofs.lemmas.Bool.{cases_eq, cases_lt}
use Rattle.std.proofs.lemmas.List.{length-map}
use Rattle.std.proofs.lemmas.List.Elements.{All-contains}
use Rattle.std.proofs.lemmas.Option.{none-some, same_Some, slice_get_within}
use Rattle.block_shelf.proofs.Shelving.{KeptAt, StaysAsLeft, failed_once, held_stays, stays_left}
use Rattle.block_shelf.specs.Leaving.{honestly}
use Rattle.cyc_block.specs.declared.store.BlockStore.{Ghosts}
use Rattle.cyc_buffer.specs.Agreement.{Agrees}
use Rattle.cyc_buffer.specs.Answers as answers
use Rattle.cyc_buffer.specs.Answers.{Answer, Shows, answer, by_numbers, by_text, or_by_text}
use Rattle.cyc_buffer.specs.History as histories
use Rattle.cyc_buffer.specs.History.{Article, History, finished_at, front_of}
use Rattle.cyc_buffer.specs.declared.answers.BufError.{BufError}
use Rattle.cyc_buffer.specs.declared.answers.BufError.TheVariants.{Device}
use Rattle.cyc_buffer.specs.declared.answers.FaultKind.TheVariants as kinds
use Rattle.cyc_buffer.specs.declared.answers.Found.{Found}
use Rattle.cyc_buffer.specs.declared.answers.Found.TheVariants as found
use Rattle.cyc_buffer.specs.declared.starting.Started.{Started}
use Rattle.cyc_token.specs.Token.{token_view}
use Rattle.cyc_token.specs.declared.Token as codes
use Rattle.news_terms.proofs.ListPlaces.{there_within}
use Rattle.news_terms.specs.BlockImage.{chunk}
use Rattle.news_terms.specs.Courses.{Course}
use Rattle.news_terms.specs.Places as places
use Rattle.news_terms.specs.Places.{size_of}
use Rattle.news_terms.specs.Token.{Token}
use Rattle.relay_facts.proofs.Puts.{put_at_here, put_at_there}
use Rattle.relay_model.specs.Fetches as fetches
use Rattle.relay_model.specs.Fetches.{is_at}
use Rattle.relay_model.specs.State.{Kept, put_at}
use Rattle.relay_model.specs.Terms.{Terms}
use Rattle.buffer_repair.proofs.RejectedTexts.{asked_for, by_parts_beyond}
use Rattle.buffer_repair.proofs.Without.{here, under_some}
use Rattle.buffer_repair.specs.Parts.{buffer_in, store_in}
use Rattle.buffer_repair.specs.Keeping.{ChangesAt, IsBlockOf, IsLiveText, IsReadFrom}
use Rattle.buffer_repair.specs.Keeping.{KeepsFound, KeepsReadBy, ReadsAt}
use Rattle.buffer_repair.specs.declared.found_set.FoundBufferSet.{FoundBufferSet}
use Rattle.buffer_repair.proofs.KeptOn.{IsNow, all_now, found_kept, left_now, same_keeps}

-- what was found, of two answers that are one
same_ok : (x y : Found) (a b : Result Found BufError) → a ≡ Ok x → b ≡ Ok y → a ≡ b → x ≡ y
same_ok x y a b e f same = cc

err_ok : (x : Found) (e : BufError) (a : Result Found BufError) → a ≡ Err e → a ≡ Ok x → ⊥
err_ok x e a is also = cc

-- where there is no text no chunk is found
none_read : (token : Token) (k : ℕ) (numbers : Option Answer) (one : Found) (after : List ℕ)
    → ((octets : List ℕ) → numbers ≡ Some (answers.Chunk octets) → ⊥)
    → Shows one after (or_by_text numbers answers.Unknown) → IsBlockOf token k None one after
none_read token k None (found.Chunk n) after never shows = shows
none_read token k (Some (answers.Chunk octets)) (found.Chunk n) after never shows =
    never octets refl
none_read token k (Some (answers.Gone front)) (found.Chunk n) after never shows = shows
none_read token k (Some answers.Unknown) (found.Chunk n) after never shows = shows
none_read token k numbers (found.Gone front) after never shows = tt
none_read token k numbers found.Unknown after never shows = tt

-- the numbers never give a chunk
never_chunk : (buffer : places.Buffer) (front : ℕ) (token : Token) (k : ℕ) (octets : List ℕ)
    → by_numbers buffer front token k ≡ Some (answers.Chunk octets) → ⊥
never_chunk buffer front token k octets e = grind arith

-- where there is one, its block is found
text_read : (token : Token) (k : ℕ) (text : List ℕ) (one : Found) (after : List ℕ)
    → k < size_of token.length → Shows one after (answers.Chunk (chunk k text))
    → IsBlockOf token k (Some text) one after
text_read token k text (found.Chunk n) after inside shows = (inside, shows.0, shows.1)
text_read token k text (found.Gone front) after inside shows = absurd shows
text_read token k text found.Unknown after inside shows = absurd shows

-- and none past its last
past_read : (token : Token) (k : ℕ) (text : List ℕ) (one : Found) (after : List ℕ)
    → size_of token.length ≤ k → Shows one after answers.Unknown
    → IsBlockOf token k (Some text) one after
past_read token k text (found.Chunk n) after past shows = absurd shows
past_read token k text (found.Gone front) after past shows = past
past_read token k text found.Unknown after past shows = past

module _ {S : Type 0} {g : Ghosts S} (old new : FoundBufferSet S g) (token : codes.Token) (k : ℕ)
    (before after : List ℕ) {w : Terms} {begun : ℕ → Course} {kept : List Kept}
    {failures : ℕ → ℕ} (keeps : KeepsFound old w begun kept failures) where
  -- what is read under it
  abbrev named : Token
  named = token_view token

  -- what a buffer's history answers is that block of the text that is kept
  block_read : (one : Started S g) (is : slice_get old.found.items token.buffer ≡ Some one)
      (what : Found)
      → Shows what after (answer (found_kept old keeps.texts keeps.left is).now named k)
      → IsBlockOf named k (fetches.text_under kept named) what after
  block_read one is what shows = by (fetches.text_under kept named) refl
    where
      at : KeptAt (honestly true) w begun kept (λ h. None) failures token.buffer (buffer_in one)
      at = found_kept old keeps.texts keeps.left is

      now : History
      now = at.now

      numbers : Option Answer
      numbers = by_numbers now.buffer (front_of now) named k

      -- the history has that text
      text_is : histories.text_under now named ≡ fetches.text_under kept named
      text_is = at.said.texts named (sym at.number)

      by : (text : Option (List ℕ)) → fetches.text_under kept named ≡ text
          → IsBlockOf named k text what after
      by None none =
          none_read named k numbers what after
          (never_chunk now.buffer (front_of now) named k)
          (subst (λ o. Shows what after (or_by_text numbers (by_text k o))) (text_is ∙ none) shows)
      by (Some text) some =
          let shows_text : Shows what after (or_by_text numbers (answers.Chunk (chunk k text))) =
          subst (λ o. Shows what after (or_by_text numbers (by_text k o))) (text_is ∙ some) shows in
          elim (cases_lt k (size_of token.length)) [
            | inl inside ↦
                text_read named k text what after inside
                (subst (λ o. Shows what after (or_by_text o (answers.Chunk (chunk k text))))
                (asked_for w named now keeps.texts.sound keeps.texts.numbered keeps.texts.laid
                at.said at.agrees.keeps.sizes at.there keeps.live k text some inside) shows_text)
            | inr past ↦
                past_read named k text what after past
                (subst (λ o. Shows what after (or_by_text o (answers.Chunk (chunk k text))))
                (by_parts_beyond now.buffer (front_of now) named k past) shows_text)
          ]

  -- where no buffer has the token's number nothing is kept under it
  none_named : slice_get old.found.items token.buffer ≡ None
      → IsBlockOf named k (fetches.text_under kept named) found.Unknown after
  none_named missing = by (fetches.text_under kept named) refl
    where
      by : (text : Option (List ℕ)) → fetches.text_under kept named ≡ text
          → IsBlockOf named k text found.Unknown after
      by None none = tt
      by (Some text) some =
          let one = under_some kept named text some in
          let live = All-contains (IsLiveText w begun) kept one.one keeps.live one.among in
          let there = there_within old.found.items token.buffer
          (omega (
            arith,
            slice_get_within w.buffers one.one.token.buffer live.buffer live.there,
            ap (λ (x : Token). x.buffer) one.this,
            keeps.texts.count,
            length-map old.found.items (λ (x : Started S g). buffer_in x),
          )) in
          absurd (none-some there.0 (sym missing ∙ there.1))

  -- each of the buffers after a read of one of them
  each_after : {result : Result Found BufError} (one now : Started S g)
      (is : slice_get old.found.items token.buffer ≡ Some one)
      → ChangesAt token (IsReadFrom token k before result after) old new
      → slice_get new.found.items token.buffer ≡ Some now
      → IsReadFrom token k before result after one now → (failures' : ℕ → ℕ)
      → failures' token.buffer ≡ g.failures (store_in now)
      → ((n : ℕ) → n ≢ token.buffer → failures' n ≡ failures n)
      → StaysAsLeft g (store_in one) (store_in now) → (b : ℕ) (each : Started S g)
      (at_each : slice_get old.found.items b ≡ Some each)
      → IsNow old keeps.texts keeps.left new kept failures' b
      (found_kept old keeps.texts keeps.left at_each).now.buffer
  each_after {result} one now is changes there comes failures' here others stays b each at_each =
      elim (cases_eq b token.buffer) [
        | inl same ↦ subst
            (λ n. (each_is : slice_get old.found.items n ≡ Some each)
            → IsNow old keeps.texts keeps.left new kept failures' n
            (found_kept old keeps.texts keeps.left each_is).now.buffer)
            (sym same)
            (λ each_is.
            let at = found_kept old keeps.texts keeps.left each_is in
            record {
              now = now;
              there = there;
              history = at.now;
              same = refl;
              agrees = comes.reads.same true at.now
                  (subst (λ (x : Started S g). Agrees true (buffer_in x) at.now)
                  (same_Some each one (sym each_is ∙ is)) at.agrees);
              said = at.said;
              failed = here;
              is_left = stays_left
                  (subst (λ (x : Started S g). StaysAsLeft g (store_in x) (store_in now))
                  (same_Some one each (sym is ∙ each_is)) stays)
                  (at.agrees.honest refl) (at.left refl refl);
            })
            at_each
        | inr apart ↦
            let at = found_kept old keeps.texts keeps.left at_each in
            record {
              now = each;
              there = changes.others b apart ∙ at_each;
              history = at.now;
              same = refl;
              agrees = at.agrees;
              said = at.said;
              failed = others b apart ∙ at.failed;
              is_left = at.left refl refl;
            }
      ]

  -- so they keep what they kept
  texts_after : {result : Result Found BufError} (one now : Started S g)
      (is : slice_get old.found.items token.buffer ≡ Some one)
      → ChangesAt token (IsReadFrom token k before result after) old new
      → slice_get new.found.items token.buffer ≡ Some now
      → IsReadFrom token k before result after one now → (failures' : ℕ → ℕ)
      → failures' token.buffer ≡ g.failures (store_in now)
      → ((n : ℕ) → n ≢ token.buffer → failures' n ≡ failures n)
      → StaysAsLeft g (store_in one) (store_in now) → KeepsFound new w begun kept failures'
  texts_after one now is changes there comes failures' here others stays =
      let each = each_after one now is changes there comes failures' here others stays in
      record {
        texts = all_now old keeps.texts keeps.left changes.count each;
        live = keeps.live;
        places = keeps.places;
        left = left_now old keeps.texts keeps.left each;
      }

  -- so a read finds what is kept, and all that is kept stays
  pub read_keeps : (result : Result Found BufError) → ReadsAt token k old before result after new
      → KeepsReadBy w begun kept failures named k result after new
  read_keeps (Ok what) reads = by (slice_get old.found.items token.buffer) refl
    where
      by : (there : Option (Started S g)) → slice_get old.found.items token.buffer ≡ there
          → IsBlockOf named k (fetches.text_under kept named) what after
          × KeepsFound new w begun kept failures
      by None missing = (
        subst (λ x. IsBlockOf named k (fetches.text_under kept named) x after)
            (sym (same_ok what found.Unknown (Ok what) (Ok found.Unknown) refl refl
            (reads.missing missing))) (none_named missing),
        same_keeps old new (reads.changes.missing missing) keeps,
      )
      by (Some one) is =
          let has = reads.changes.here one is in
          let at = found_kept old keeps.texts keeps.left is in (
            block_read one is what (has.comes.reads.found at.now at.agrees),
            texts_after one has.now is reads.changes has.there has.comes failures
                (at.failed ∙ sym has.comes.reads.device.no_failure) (λ n apart. refl)
                (held_stays has.comes.held (omega (arith, has.comes.reads.device.no_failure))),
          )
  read_keeps (Err e) reads = by (slice_get old.found.items token.buffer) refl
    where
      by : (there : Option (Started S g)) → slice_get old.found.items token.buffer ≡ there
          → KeepsReadBy w begun kept failures named k (Err e) after new
      by None missing = absurd (err_ok found.Unknown e (Err e) refl (reads.missing missing))
      by (Some one) is =
          let has = reads.changes.here one is in
          let at = found_kept old keeps.texts keeps.left is in
          let now = g.failures (store_in has.now) in
          let later = put_at failures token.buffer now in (
            has.comes.reads.fault true at.now at.agrees
                ∙ ap (λ n. Device (record { kind = kinds.Read; buffer = n; length = token.length }))
                at.number,
            (
              later,
              failed_once failures at.failed has.comes.reads.device.failed,
              texts_after one has.now is reads.changes has.there has.comes later
                  (put_at_here failures token.buffer now token.buffer refl)
                  (λ n apart. put_at_there failures token.buffer now n apart)
                  (held_stays has.comes.held (omega (arith, has.comes.reads.device.failed))),
            ),
          )
