-- Which step of a writer each case of a Write is (docs/PROTOCOL.md, Groups and writers).
use Rattle.std.specs.Prelude.{ℕ}
use Rattle.buffer_group.specs.declared.writer.WriterStep.{WriterStep}
use Rattle.buffer_group.specs.declared.writer.WriterStep.TheVariants as steps
use Rattle.relay_model.specs.Terms.{Terms}
use Rattle.relay_model.specs.World.{World}
use Rattle.relay_model.specs.Writers.{Writes, NoJob, Pops, HasBegun, FindsWorn, WritesBlock}
use Rattle.relay_model.specs.Writers.{FailsToWrite, HasStored, Settles, Closes, Forgets, TellsKept}
use Rattle.relay_model.specs.Writers.{TellsFailed}

-- the step that a Write tries, whatever comes of it
abbrev pub step_tried : {w : Terms} {x : World} {g now : ℕ} {x' : World} → Writes w x g now x'
    → WriterStep
step_tried (NoJob idle none same) = steps.Pop
step_tried (Pops job rest idle oldest after) = steps.Pop
step_tried (HasBegun job token σ' popped begins after) = steps.Begin
step_tried (FindsWorn job popped worn after) = steps.Begin
step_tried (WritesBlock job token written failures writing left rises after) = steps.Block
step_tried (FailsToWrite job token written failures σ' writing left failed fails after) =
    steps.Block
step_tried (HasStored job token written σ' writing all stores after) = steps.Finish
step_tried (Settles job token σ' finished accepts after) = steps.Settle
step_tried (Closes job token failed after) = steps.Abandon
step_tried (Forgets job σ' failed abandons after) = steps.Forget
step_tried (TellsKept s settled after) = steps.Answer
step_tried (TellsFailed s forgotten after) = steps.Answer
