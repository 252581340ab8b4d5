-- What is found of a relay is shut as the stop of a world that a crash leads to.
use Rattle.std.proofs.Common.{◌≡◌, ◌∙◌, ℕ, ◌<◌, false, List, [], length, map, min, Option, None}
use Rattle.std.proofs.Common.{Some, unwrap_or, slice_get, refl, sym, ap, subst}
use Rattle.std.specs.Borrow.{Bor}
use Rattle.std.proofs.lemmas.Simd.{map-map}
use Rattle.std.proofs.Math.Nat.{min-le_right}
use Rattle.article_verdict.proofs.FewFeeds.{has_feeds}
use Rattle.article_verdict.specs.Config.{terms_of}
use Rattle.block_shelf.specs.Stopping.{ArePositions}
use Rattle.buffer_repair.specs.Finding.{remains_in}
use Rattle.buffer_repair.specs.Keeping.{KeepsFound}
use Rattle.buffer_repair.specs.Remains.{AreTurns, all_texts_left, courses_left}
use Rattle.buffer_repair.specs.Shutting.{HoldsFound, HoldsFoundLeft}
use Rattle.buffer_repair.specs.declared.found_set.FoundBufferSet.{FoundBufferSet}
use Rattle.cyc_block.specs.declared.store.BlockStore.{Ghosts}
use Rattle.feed_queue.specs.Feeds.{ring_size}
use Rattle.feed_queue.specs.Permission.{feed_view}
use Rattle.found_again.specs.Claiming.{claimed_by_last}
use Rattle.found_again.specs.Texts.{IsOf, listed_view, ids_listed, newest_of, ring_sizes}
use Rattle.found_texts.proofs.LeftLemmas.{left_under}
use Rattle.found_texts.specs.Reading.{HasRead}
use Rattle.id_history.specs.Views.{id_view}
use Rattle.id_history.specs.declared.kept.History.{History}
use Rattle.news_terms.specs.Token.{Token}
use Rattle.relay_conf.specs.declared.settings.Config.{Config}
use Rattle.relay_crashes.proofs.WellAgain.{again_well, never_storing}
use Rattle.relay_model.specs.Claims.{Claim, Unknown, Offered, Storing, Stored, Refused, is_storing}
use Rattle.relay_model.specs.Crash.{Again, Found, IsFound, claim_again, world_again}
use Rattle.relay_model.specs.Terms.{FeedTerms, last_moment}
use Rattle.repair_laws.proofs.FoundWhole.{found_is_of_crash}
use Rattle.repair_laws.proofs.Positions.{turn_positions}
use Rattle.repair_laws.proofs.SameKept.{same_kept}
use Rattle.repair_laws.specs.FoundAll.{AreBuffersFound, AreClaimed, IsOfCrash, found_with}
use Rattle.relay_repair.specs.Repairing.{AreInTime, ShutsFound}
use Rattle.relay_repair.specs.Telling.{TellsFound, last_lent, last_listed, listed_of, stop_again}

-- the turns that these positions tell
abbrev pub turns_at : List ℕ → ℕ → ℕ
turns_at positions h = unwrap_or (slice_get positions h) 0

-- no id for any text
abbrev pub nameless : Token → List ℕ
nameless token = []

-- the feeds of the terms have the rings of the configuration
rings_are : (config : Config)
    → ring_sizes (terms_of config) ≡ map ring_size config.relay.feeds.items
rings_are config =
    map-map (λ (feed : FeedTerms). feed.ring) feed_view config.relay.feeds.items

-- the last history lists what its value does
listed_is : (old : Option (Bor History))
    → last_listed (last_lent old) ≡ map listed_view (ids_listed old)
listed_is None = refl
listed_is (Some old) = map-map listed_of id_view old.now.ids.items

-- nothing is being stored after a repair
at_rest : (found : Found) (id : List ℕ) → is_storing (claim_again found id) ≡ false
at_rest found id = by (claim_again found id) refl
  where
    by : (claim : Claim) → claim_again found id ≡ claim → is_storing claim ≡ false
    by Unknown is = refl
    by (Offered session since) is = refl
    by (Storing session article stage) is =
        absurd (never_storing found id session article stage is)
    by (Stored token moment) is = refl
    by (Refused moment) is = refl

module _ {S : Type 0} {g : Ghosts S} (config : Config) (old : Option (Bor History)) (now : ℕ)
    (before after : FoundBufferSet S g) (text : List ℕ) (stores : List S)
    (told : TellsFound config old now before after text)
    (held : HoldsFound (stop_again old) after stores)
    (left : HoldsFoundLeft (stop_again old) after stores) where
  -- each turn is of a buffer of its group
  in_turn : AreTurns (terms_of config).groups (turns_at told.positions)
  in_turn h group there some =
      let has = told.are_positions.each h group there in
      let is : turns_at told.positions h ≡ has.position =
      ap (λ position. unwrap_or position 0) has.there in
      subst (λ turn. turn < length group.buffers) (sym is) has.within

  -- the positions are whose turn it is
  turned : ArePositions (terms_of config).groups
      (courses_left (terms_of config).groups (turns_at told.positions) (remains_in before))
      told.positions
  turned =
      turn_positions (terms_of config).groups (turns_at told.positions) (remains_in before)
      told.positions told.are_positions.count
      (λ h group there.
      let has = told.are_positions.each h group there in
      has.there ∙ ap Some (sym (ap (λ position. unwrap_or position 0) has.there)))

  -- what is given is the stop of a world that a crash leads to
  pub is_repaired : AreInTime (last_listed (last_lent old))
      → ShutsFound config before (last_lent old) now stores text
  is_repaired in_time w saved x is =
      let turns = turns_at told.positions in
      let begun = courses_left (terms_of config).groups turns (remains_in before) in
      let kept = all_texts_left nameless (remains_in before) in
      let buffers : AreBuffersFound before w (terms_of config) saved x begun kept =
      is turns in_turn in
      let failures = buffers.failures in
      let read : HasRead (terms_of config) begun kept failures told.found_texts after =
      told.reads (terms_of config) begun kept failures (has_feeds config)
      (left_under nameless before) buffers.on_record.lengths buffers.keeps in
      let claims : AreClaimed (terms_of config) kept read.left
      (claimed_by_last told.tells.ordered) = record {
        articles = read.articles;
        texts = told.found_texts;
        are_articles = read.values;
        ordered = told.tells.ordered;
        order = told.tells.permuted;
        by_last = refl;
      } in
      let crash : IsOfCrash w (terms_of config) saved x begun read.left
      (claimed_by_last told.tells.ordered) =
      found_is_of_crash buffers claims in
      let found : Found =
      found_with crash.again begun (last_listed (last_lent old)) (newest_of old)
      (min now last_moment) in
      let is_found : IsFound w (terms_of config) saved x.state found =
      crash.is_found (last_listed (last_lent old)) (newest_of old) (min now last_moment)
      (min-le_right now last_moment) in_time in
      let is_of : IsOf (terms_of config) (claimed_by_last told.tells.ordered) old
      (map ring_size config.relay.feeds.items) (min now last_moment) found = record {
        texts_are = crash.texts_are;
        rings_are = rings_are config;
        listed_is = listed_is old;
        newest_is = refl;
        moment_is = refl;
      } in
      let keeps_again : KeepsFound after (terms_of config) begun
      (map (λ (one : Again). one.kept) crash.again) failures =
      same_kept after (terms_of config) begun read.left
      (map (λ (one : Again). one.kept) crash.again) failures read.keeps crash.same in
      record {
        repair = record {
          after = world_again (terms_of config) found failures;
          crash = record {
            found = found;
            failures = failures;
            is_found = is_found;
            after = refl;
          };
          listed = refl;
          moment = refl;
          shut = record {
            tells = told.tells.tells found is_of turned;
            buffer_set =
                held (terms_of config) begun (map (λ (one : Again). one.kept) crash.again)
                failures keeps_again;
            idle = at_rest found;
            well = again_well w (terms_of config) saved x.state found failures is_found;
          };
        };
        left = left (terms_of config) begun (map (λ (one : Again). one.kept) crash.again)
            failures keeps_again;
      }
