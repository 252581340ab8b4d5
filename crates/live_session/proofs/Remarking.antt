-- What is remarked of a step that reads no block.
use Rattle.std.proofs.Common.{◌≢◌, ℕ, List, refl}
use Rattle.cyc_token.specs.declared.Token.{Token}
use Rattle.live_jobs.specs.declared.channel.JobChannel.{JobChannel}
use Rattle.live_session.specs.Remarks.{HasRemarked, RemarksOn}
use Rattle.live_session.specs.declared.live.LiveSession.{LiveSession}
use Rattle.live_session.specs.declared.live.Turned.{Turned}
use Rattle.live_session.specs.declared.remarks.Remarks.{Remarks}
use Rattle.live_store.specs.declared.record.StorePremises.{Ghosts}
use Rattle.peer_session.specs.declared.steps.Step.{Step}
use Rattle.peer_session.specs.declared.steps.Step.TheVariants as steps

-- each of them is remarked as it is answered
pub remarks_on : {J : Type 0} {g : Ghosts J} (channels : List JobChannel) (step : Step)
    (old : LiveSession J g) (turned : Turned) (new : LiveSession J g) (before after : Remarks)
    → ((token : Token) (k : ℕ) → step ≢ steps.Read token k)
    → HasRemarked channels step old turned new before after
    → RemarksOn channels step old turned new before after
remarks_on channels (steps.Read token k) old turned new before after other has =
    absurd (other token k refl)
remarks_on channels steps.Nothing old turned new before after other has = has
remarks_on channels (steps.Offer id) old turned new before after other has = has
remarks_on channels (steps.Look id) old turned new before after other has = has
remarks_on channels (steps.TakeQueue feed most) old turned new before after other has = has
remarks_on channels (steps.Refuse id reason) old turned new before after other has = has
remarks_on channels (steps.Take id) old turned new before after other has = has
remarks_on channels (steps.Push group) old turned new before after other has = has
remarks_on channels steps.Slot old turned new before after other has = has
remarks_on channels (steps.Release id) old turned new before after other has = has
