use Rattle.std.proofs.Common.{◌≡◌, ◌∙◌, ℕ, List, Option, None, Some, refl, sym}
use Rattle.relay_model.specs.Asks.{reason_of}
use Rattle.relay_model.specs.Run.{Step, Turn, Turns, IsRefused, WantsMemory, IsDone}
use Rattle.relay_model.specs.Terms.{Terms, Reason}
use Rattle.relay_model.specs.World.{World, Output, Rejects, Said, Silent, Speaks, Parts, output_of}
use Rattle.relay_laws.specs.Rules.{WasJudged}
use Rattle.relay_laws.proofs.RefusalDues.{due_judged}
use Rattle.relay_laws.proofs.rules.refusals_are_judged.Goals as goal

-- the reason that is told is the one that was asked
why_told : (s to : ℕ) (said : Said) (why : Option Reason) (octets : List ℕ) (reason : Reason)
    → output_of s said why ≡ Rejects to octets reason → why ≡ Some reason
why_told s to Silent why octets reason e = absurd (cc)
why_told s to (Speaks reply) None octets reason e = absurd (cc)
why_told s to (Speaks reply) (Some other) octets reason e = cc
why_told s to (Parts reply) why octets reason e = absurd (cc)

-- a Turn that refuses an article
judged : (w : Terms) (x y : World) (s now to : ℕ) (octets : List ℕ) (reason : Reason)
    (output : Output) → output ≡ Rejects to octets reason → Turns w x s now output y
    → WasJudged w x s now reason
judged w x y s now to octets reason output is t =
    let why = why_told s to t.heard.said (reason_of t.due.ask) octets reason
    (sym t.output_is ∙ is) in
    let had = due_judged w now t.session t.due t.is_due reason why in
    record {
      session = t.session;
      there = t.there;
      id = had.0;
      text = had.1;
      judges = had.2;
    }

-- a step that does
stepped : (w : Terms) (x y : World) (s now to : ℕ) (octets : List ℕ) (reason : Reason)
    (output : Output) → output ≡ Rejects to octets reason → Step w x (Turn s now) output y
    → WasJudged w x s now reason
stepped w x y s now to octets reason output is (IsRefused why first said same) =
    absurd (cc (is, said))
stepped w x y s now to octets reason output is (WantsMemory takes said same) =
    absurd (cc (is, said))
stepped w x y s now to octets reason output is (IsDone free does) =
    judged w x y s now to octets reason output is does

pub returns : goal.returns
returns c = λ w x y s now to octets reason step.
    stepped w x y s now to octets reason (Rejects to octets reason) refl step
