-- What is well before a stop is well after the start.
use Rattle.std.proofs.Common.{◌≡◌, ◌∙◌, ◌<◌, ◌==◌, ℕ, false, List, find, Option, None, Some, refl}
use Rattle.std.proofs.Common.{sym, ap, subst}
use Rattle.std.proofs.lemmas.List.Elements.{All-weaker}
use Rattle.news_terms.specs.Places.{Buffer, Group, front_after, on_line}
use Rattle.news_terms.specs.Token.{Token}
use Rattle.relay_model.specs.Fetches.{extents_from}
use Rattle.relay_model.specs.Invariants.{IsWell}
use Rattle.relay_model.specs.OnRecord.{IsOnRecord, IsBelow}
use Rattle.relay_model.specs.Run.{is_taken}
use Rattle.relay_model.specs.State.{Kept}
use Rattle.relay_model.specs.Terms.{Terms}
use Rattle.relay_model.specs.World.{World}
use Rattle.relay_facts.specs.Started.{HasSameStore, newest_kept, started}
use Rattle.relay_facts.proofs.ClaimMoves.{restart_goes, goes_timed, goes_stored}
use Rattle.relay_facts.proofs.CountedSteps.{stopped_counted}
use Rattle.relay_facts.proofs.Orderly.{orderly_of, well_of}
use Rattle.relay_facts.proofs.Restarted.{IsIdle, none_stored, stopped, stopped_awaited}
use Rattle.relay_facts.proofs.Restarted.{stopped_orderly}

-- a number that is free after a start was free before
free_before : (newest : Option ℕ) (s : ℕ) → is_taken (Some (newest_kept newest)) s ≡ false
    → is_taken newest s ≡ false
free_before None s e = refl
free_before (Some n) s e = e

-- what is below the front of its buffer is so by the settings of the start
still_below : (w v : Terms) → HasSameStore w v → (x : World) (failures : ℕ → ℕ)
    (newest : Option ℕ) (token : Token) → IsBelow w x.state token
    → IsBelow v (stopped x failures newest).state token
still_below w v same x failures newest token is = record {
  buffer = is.buffer;
  named =
      ap (λ (list : List Buffer). find (λ buffer. buffer.number == token.buffer) list) same.buffers
      ∙ is.named;
  fits = is.fits;
  some = is.some;
  inside = is.inside;
  below =
      subst (λ (groups : List Group). on_line is.buffer.blocks token.cycle token.first
      < front_after is.buffer (extents_from 0 groups x.state.begun)) (sym same.groups) is.below;
}

-- what is on record before a stop is so after the start
stopped_on_record : (w v : Terms) → HasSameStore w v → (x : World) (failures : ℕ → ℕ)
    (newest : Option ℕ) → IsIdle x → IsOnRecord w x.state
    → IsOnRecord v (stopped x failures newest).state
stopped_on_record w v same x failures newest idle is =
    let y = stopped x failures newest in
    record {
      moments = λ id.
          goes_timed (x.state.claim id) (y.state.claim id) (restart_goes (x.state.claim id))
          (is.moments id);
      begun = λ id s article token e. absurd (none_stored x idle id s article _ e);
      kept = All-weaker (λ (one : Kept). IsBelow w x.state one.token)
          (λ (one : Kept). IsBelow v y.state one.token)
          (λ one. still_below w v same x failures newest one.token) x.state.kept is.kept;
      whole = λ id s article token e. absurd (none_stored x idle id s article _ e);
      stored = λ id token moment e.
          is.stored id token moment
          (goes_stored (x.state.claim id) (y.state.claim id) (restart_goes (x.state.claim id)) token
          moment e);
      gained = is.gained;
      feeds = is.feeds;
    }

-- all of it
pub started_well : (w v : Terms) (x : World) (failures : ℕ → ℕ) → HasSameStore w v → IsIdle x
    → IsWell w x → IsWell v (started x failures)
started_well w v x failures same idle well =
    let newest = Some (newest_kept x.state.newest) in
    well_of v (started x failures)
    (stopped_orderly w v same x failures newest (free_before x.state.newest) idle
    (orderly_of w x well))
    (stopped_awaited x failures newest idle)
    (stopped_counted w v same x failures newest well.counted)
    (stopped_on_record w v same x failures newest idle well.on_record)
