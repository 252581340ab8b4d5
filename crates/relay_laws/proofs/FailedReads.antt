-- A read may fail, whatever was asked of a token that is live.
use Rattle.std.proofs.Common.{◌≡◌, ℕ, Some, None, refl, sym, subst}
use Rattle.news_terms.specs.Reply.{DeviceFault, reply_text}
use Rattle.news_terms.specs.Token.{Token}
use Rattle.relay_model.specs.Asks.{IsDueIn, Reads, due_as}
use Rattle.relay_model.specs.Fetches.{NotRead, decided}
use Rattle.relay_model.specs.Hears.{ReplyIs, says}
use Rattle.relay_model.specs.Run.{Step, IsDone, Turn, refusal}
use Rattle.relay_model.specs.Shares.{HasNotRead, ToRead}
use Rattle.relay_model.specs.State.{Session, Phase, Asked, OfId, OfToken, Fetches, Ready, in_phase}
use Rattle.relay_model.specs.Terms.{Terms}
use Rattle.relay_model.specs.World.{World, Sent, HasFailedAt, with_failures, with_session}

-- what is said then
not_read : (asked : Asked) (token : Token) → ReplyIs asked token NotRead DeviceFault
not_read (OfId part id) token = refl
not_read OfToken token = refl

-- a Turn that reads a token, in which the read fails
pub may_fail : (w : Terms) (x : World) (s now : ℕ) (session : Session) (asked : Asked)
    (token : Token) (had : ℕ) (after : ℕ → ℕ) → refusal w x.state (Turn s now) ≡ None
    → x.state.session s ≡ Some session → session.phase ≡ Fetches asked token had
    → decided w x.state token ≡ None → HasFailedAt token.buffer x.work.failures after
    → (y : World) × Step w x (Turn s now) (Sent s (reply_text DeviceFault)) y
may_fail w x s now session asked token had after free there phase live failed =
    let reading = in_phase session Ready in
    let heard = says reading DeviceFault in (
      with_session (with_failures x after) s heard.session,
      IsDone free (record {
        session = session;
        there = there;
        due = due_as (Reads asked token had) reading;
        is_due =
            subst
            (λ (p : Phase). IsDueIn w session now p (due_as (Reads asked token had) reading))
            (sym phase) refl;
        answer = ToRead NotRead;
        between = with_failures x after;
        shares = HasNotRead after live failed refl refl;
        heard = heard;
        hears = (NotRead, refl, (DeviceFault, not_read asked token, refl));
        output_is = refl;
        after = refl;
      }),
    )
