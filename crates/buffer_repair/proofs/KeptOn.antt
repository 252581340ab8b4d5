-- What buffers that were found again keep once an article of one of them was rejected.
use Rattle.std.proofs.Common.{◌≡◌, ◌≢◌, ◌∙◌, ℕ, true, inl, inr, refl, sym, ap, subst, arith, List}
use Rattle.std.proofs.Common.{map, length, Option, None, Some, slice_get, option_map, false}
use Rattle.std.proofs.lemmas.Bool.{cases_eq, false≢true}
use Rattle.std.proofs.lemmas.List.{length-map}
use Rattle.std.proofs.lemmas.List.Elements.{All-filter}
use Rattle.std.proofs.lemmas.Option.{none-some, same_Some, slice_get-map, slice_get_within}
use Rattle.std.specs.Global.{Vec}
use Rattle.std.specs.Prelude.{not}
use Rattle.block_shelf.proofs.BegunBufferSet.{same_agrees}
use Rattle.block_shelf.proofs.Shelving.{KeptAt, kept_at, left_kept, same_stays, stays_left}
use Rattle.block_shelf.specs.Keeping.{AreLeft}
use Rattle.block_shelf.specs.Leaving.{MayBeLeft, honestly}
use Rattle.block_shelf.specs.Histories.{IsHistoryOf}
use Rattle.block_shelf.specs.Starting.{BuffersKeep}
use Rattle.cyc_block.specs.declared.store.BlockStore.{Ghosts}
use Rattle.cyc_buffer.specs.Agreement.{Agrees}
use Rattle.cyc_buffer.specs.History.{Article, History, finished_at}
use Rattle.cyc_buffer.specs.Rejecting.{without_article}
use Rattle.cyc_buffer.specs.declared.starting.Started.{Started}
use Rattle.cyc_token.specs.Token.{token_view}
use Rattle.cyc_token.specs.declared.Token as codes
use Rattle.news_terms.proofs.ListPlaces.{there_within}
use Rattle.news_terms.specs.Courses.{Course}
use Rattle.news_terms.specs.Places as places
use Rattle.news_terms.specs.Places.{size_of}
use Rattle.news_terms.specs.Token.{Token}
use Rattle.relay_model.specs.Fetches.{is_at}
use Rattle.relay_model.specs.State.{Kept}
use Rattle.relay_model.specs.Terms.{Terms}
use Rattle.buffer_repair.proofs.RejectedTexts.{live_there, none_here, said_beside, said_without}
use Rattle.buffer_repair.proofs.Without.{all_stay, count_fewer, here}
use Rattle.buffer_repair.specs.Finding.{buffers_in}
use Rattle.buffer_repair.specs.Parts.{buffer_in, store_in}
use Rattle.buffer_repair.specs.Keeping.{HasNow, IsLiveText, KeepsFound, IsRejectedFrom, RejectsAt}
use Rattle.buffer_repair.specs.Keeping.{without_text}
use Rattle.buffer_repair.specs.declared.found_set.FoundBufferSet.{FoundBufferSet}
use Rattle.cyc_buffer.proofs.RejectLaws.{left_without}

module _ {S : Type 0} {g : Ghosts S} (old : FoundBufferSet S g) {w : Terms} {begun : ℕ → Course}
    {kept : List Kept} {failures : ℕ → ℕ}
    (keeps : BuffersKeep (buffers_in old) w begun kept failures)
    (left : AreLeft (buffers_in old) w begun kept failures) where
  -- the history of a buffer that was found again
  pub found_kept : {b : ℕ} {one : Started S g} → slice_get old.found.items b ≡ Some one
      → KeptAt (honestly true) w begun kept (λ h. None) failures b (buffer_in one)
  found_kept {b} {one} is =
      kept_at (left_kept keeps left)
      (slice_get-map (λ (each : Started S g). buffer_in each) old.found.items b
      ∙ ap (option_map (λ (each : Started S g). buffer_in each)) is)

  -- what is said of a buffer now
  pub record IsNow (new : FoundBufferSet S g) (kept' : List Kept) (failures' : ℕ → ℕ) (b : ℕ)
      (buffer : places.Buffer)
      : Type 0 where
    pub now : Started S g
    pub there : slice_get new.found.items b ≡ Some now
    pub history : History
    pub same : history.buffer ≡ buffer
    pub agrees : Agrees true (buffer_in now) history
    pub said : IsHistoryOf w.groups begun kept' (λ h. None) history
    pub failed : failures' b ≡ g.failures (store_in now)
    pub is_left : MayBeLeft g (store_in now) history

  -- where something is said of each, a crash may leave their stores
  pub left_now : {new : FoundBufferSet S g} {kept' : List Kept} {failures' : ℕ → ℕ}
      → ((b : ℕ) (one : Started S g) (is : slice_get old.found.items b ≡ Some one)
      → IsNow new kept' failures' b (found_kept is).now.buffer)
      → AreLeft (buffers_in new) w begun kept' failures'
  left_now {new} {kept'} {failures'} each b buffer at =
      let one = there_within old.found.items b
      (omega (
        arith,
        slice_get_within w.buffers b buffer at,
        keeps.count,
        length-map old.found.items (λ (x : Started S g). buffer_in x),
      )) in
      let was = found_kept one.1 in
      let n = each b one.0 one.1 in
      let same : was.now.buffer ≡ buffer =
      same_Some was.now.buffer buffer (sym was.there ∙ at) in
      record {
        has = record {
          code = buffer_in n.now;
          there = slice_get-map (λ (x : Started S g). buffer_in x) new.found.items b
              ∙ ap (option_map (λ (x : Started S g). buffer_in x)) n.there;
          keeps = record {
            history = n.history;
            is_of_buffer = n.same ∙ same;
            agrees = n.agrees;
            is_said = n.said;
            failed = ap failures' (keeps.numbered b buffer at) ∙ n.failed;
          };
        };
        left = λ sure yes. n.is_left;
      }

  -- and the set keeps that
  pub all_now : {new : FoundBufferSet S g} {kept' : List Kept} {failures' : ℕ → ℕ}
      → length new.found.items ≡ length old.found.items
      → ((b : ℕ) (one : Started S g) (is : slice_get old.found.items b ≡ Some one)
      → IsNow new kept' failures' b (found_kept is).now.buffer)
      → BuffersKeep (buffers_in new) w begun kept' failures'
  all_now {new} {kept'} {failures'} count each = record {
    sound = keeps.sound;
    numbered = keeps.numbered;
    fit = keeps.fit;
    laid = keeps.laid;
    count = length-map new.found.items (λ (one : Started S g). buffer_in one) ∙ count
        ∙ sym (length-map old.found.items (λ (one : Started S g). buffer_in one)) ∙ keeps.count;
    buffers = λ b buffer at. (left_now each b buffer at).has;
  }

-- of the same buffers all that was kept is
pub same_keeps : {S : Type 0} {g : Ghosts S} (old new : FoundBufferSet S g) → new.found ≡ old.found
    → {w : Terms} {begun : ℕ → Course} {kept : List Kept} {failures : ℕ → ℕ}
    → KeepsFound old w begun kept failures → KeepsFound new w begun kept failures
same_keeps {S} {g} old new same {w} {begun} {kept} {failures} keeps = record {
  texts = subst (λ (found : Vec (Started S g)).
      BuffersKeep (map (λ (one : Started S g). buffer_in one) found.items) w begun kept failures)
      (sym same) keeps.texts;
  live = keeps.live;
  places = keeps.places;
  left = subst (λ (found : Vec (Started S g)).
      AreLeft (map (λ (one : Started S g). buffer_in one) found.items) w begun kept failures)
      (sym same) keeps.left;
}

module _ {S : Type 0} {g : Ghosts S} (old new : FoundBufferSet S g) (token : codes.Token)
    (rejects : RejectsAt token old new) {w : Terms} {begun : ℕ → Course} {kept : List Kept}
    {failures : ℕ → ℕ} (keeps : KeepsFound old w begun kept failures) where
  abbrev t : Token
  t = token_view token

  -- the buffer of the token
  now_here : (one : Started S g) (is : slice_get old.found.items token.buffer ≡ Some one)
      → IsNow old keeps.texts keeps.left new (without_text t kept) failures token.buffer
      (found_kept old keeps.texts keeps.left is).now.buffer
  now_here one is =
      by (finished_at now.buffer now.begins token.cycle token.first) refl
    where
      at : KeptAt (honestly true) w begun kept (λ h. None) failures token.buffer (buffer_in one)
      at = found_kept old keeps.texts keeps.left is

      now : History
      now = at.now

      has : HasNow (IsRejectedFrom token) new token.buffer one
      has = rejects.here one is

      failed : failures token.buffer ≡ g.failures (store_in has.now)
      failed = at.failed ∙ ap g.failures (sym has.comes.store)

      is_left : MayBeLeft g (store_in has.now) now
      is_left =
          stays_left {g = g} {h = now} (same_stays {g = g} has.comes.store) (at.agrees.honest refl)
          (at.left refl refl)

      by : (found : Option Article)
          → finished_at now.buffer now.begins token.cycle token.first ≡ found
          → IsNow old keeps.texts keeps.left new (without_text t kept) failures token.buffer
          now.buffer
      by (Some article) finished = record {
        now = has.now;
        there = has.there;
        history = without_article t now;
        same = refl;
        agrees = has.comes.rejected true now at.agrees
            (live_there w t now keeps.texts.sound keeps.texts.numbered keeps.texts.laid at.said
            at.agrees.keeps.sizes at.there keeps.live article finished);
        said = said_without t now at.said (sym at.number) article finished
            (keeps.places token.buffer token.cycle token.first);
        failed = failed;
        is_left = λ none.
            left_without now t (λ u. false) (λ u. false) (g.blocks (store_in has.now))
            (is_left none) (λ u never. absurd (false≢true never));
      }
      by None finished = record {
        now = has.now;
        there = has.there;
        history = now;
        same = refl;
        agrees = same_agrees
            (has.comes.unknown true now at.agrees
            (λ live. none-some live.article (sym finished ∙ live.finished)))
            has.comes.store true now at.agrees;
        said = rw (all_stay t kept (none_here t now at.said (sym at.number) finished)) at.said;
        failed = failed;
        is_left = is_left;
      }

  -- each other buffer
  now_beside : (b : ℕ) → b ≢ token.buffer → (one : Started S g)
      (is : slice_get old.found.items b ≡ Some one)
      → IsNow old keeps.texts keeps.left new (without_text t kept) failures b
      (found_kept old keeps.texts keeps.left is).now.buffer
  now_beside b apart one is =
      let at = found_kept old keeps.texts keeps.left is in
      record {
        now = one;
        there = rejects.others b apart ∙ is;
        history = at.now;
        same = refl;
        agrees = at.agrees;
        said = said_beside t at.now at.said (λ e. apart (sym at.number ∙ e));
        failed = at.failed;
        is_left = at.left refl refl;
      }

  -- each of them
  now_each : (b : ℕ) (one : Started S g) (is : slice_get old.found.items b ≡ Some one)
      → IsNow old keeps.texts keeps.left new (without_text t kept) failures b
      (found_kept old keeps.texts keeps.left is).now.buffer
  now_each b one is = elim (cases_eq b token.buffer) [
    | inl same ↦ subst
        (λ n. (one_is : slice_get old.found.items n ≡ Some one)
        → IsNow old keeps.texts keeps.left new (without_text t kept) failures n
        (found_kept old keeps.texts keeps.left one_is).now.buffer)
        (sym same) (now_here one) is
    | inr apart ↦ now_beside b apart one is
  ]

  -- so the set keeps all but what begins there
  pub rejected_keeps : KeepsFound new w begun (without_text t kept) failures
  rejected_keeps = record {
    texts = all_now old keeps.texts keeps.left rejects.count now_each;
    left = left_now old keeps.texts keeps.left now_each;
    live = All-filter (λ one. not (here t one)) (IsLiveText w begun) kept keeps.live;
    places = λ buffer cycle first. omega (
      arith,
      count_fewer t (is_at buffer cycle first) kept,
      keeps.places buffer cycle first,
    );
  }
