-- Turns that were had one after the other.
use Rattle.std.proofs.Common.{List, refl, ◌∙◌, ⊎_elim, inl, inr}
use Rattle.live_jobs.specs.Seats.{IsSeatOf}
use Rattle.live_jobs.specs.declared.channel.JobChannel.{JobChannel}
use Rattle.live_session.specs.Carried.{Carried}
use Rattle.live_session.specs.Turns.{Conversed, HadLastTurn}
use Rattle.live_session.specs.declared.commands.Command.{Command}
use Rattle.live_session.specs.declared.counts.Counts.{Counts}
use Rattle.live_session.specs.declared.live.LiveSession.{LiveSession}
use Rattle.live_store.specs.declared.record.StorePremises.{Ghosts}
use Rattle.relay_model.specs.Terms.{Terms}

module _ {J : Type 0} {g : Ghosts J} {w : Terms} {channels : List JobChannel}
    {first : LiveSession J g} {a : Carried} where
  -- nothing was conversed yet
  pub conversed_none : {refuses : Command → Type 0} → IsSeatOf channels first.seat
      → Conversed w refuses channels first first a a
  conversed_none seat = record {
    seat = seat;
    end = refl;
    served = λ honest trust s end begun read written here. here;
    ends = record { ended = λ e. e; unspent = λ e. e; held = inl };
  }

module _ {J : Type 0} {g : Ghosts J} {w : Terms} {channels : List JobChannel}
    {first mid last : LiveSession J g} {a b c : Carried} where
  -- what was conversed goes on by a turn
  pub conversed_on : {refuses : Command → Type 0} → Conversed w refuses channels first mid a b
      → Conversed w refuses channels mid last b c → Conversed w refuses channels first last a c
  conversed_on so round = record {
    seat = round.seat;
    end = round.end ∙ so.end;
    served = λ honest trust s end first read written here.
        round.served honest trust s end first read written
        (so.served honest trust s end first read written here);
    ends = record {
      ended = λ none. so.ends.ended (round.ends.ended none);
      unspent = λ spent. so.ends.unspent (round.ends.unspent spent);
      held = λ held. ⊎_elim (λ was. so.ends.held was) (λ refusal. inr refusal)
          (round.ends.held held);
    };
  }

  -- the turns of a session that leaves are as one
  pub leaving_on : {x y z : Counts} → HadLastTurn w channels first mid a b x y
      → HadLastTurn w channels mid last b c y z → HadLastTurn w channels first last a c x z
  leaving_on so turn = record {
    seat = turn.seat;
    end = turn.end ∙ so.end;
    served = λ honest trust s end first read written here.
        turn.served honest trust s end first read written
        (so.served honest trust s end first read written here);
    ends = record {
      ended = λ none. so.ends.ended (turn.ends.ended none);
      unspent = λ spent. so.ends.unspent (turn.ends.unspent spent);
      unheld = λ held. so.ends.unheld (turn.ends.unheld held);
    };
    turns = turn.turns ∙ so.turns;
  }
