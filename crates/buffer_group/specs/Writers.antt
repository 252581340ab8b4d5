-- The writer of a group as the definitions have it, and the step that each of its phases is
-- followed by (docs/PROTOCOL.md, Groups and writers).
use Rattle.std.specs.Prelude.{nat_lt, Option, None, Some, option_map, if◌then◌else◌}
use Rattle.buffer_group.specs.Jobs.{job_view}
use Rattle.buffer_group.specs.declared.writer.Writer.{Writer}
use Rattle.buffer_group.specs.declared.writer.Writer.TheVariants as phases
use Rattle.buffer_group.specs.declared.writer.WriterStep.{WriterStep}
use Rattle.buffer_group.specs.declared.writer.WriterStep.TheVariants as steps
use Rattle.cyc_token.specs.Token.{token_view}
use Rattle.news_terms.specs.Token as terms
use Rattle.relay_model.specs.World as world
use Rattle.relay_model.specs.Writers.{job_size}

-- a writer as the definitions have it, where an open write has this token
abbrev pub writer_view : {B : Type 0} → (token_of : B → terms.Token) → Writer B → world.Writer
writer_view token_of phases.Idle = world.Idle
writer_view token_of (phases.Popped job) = world.Popped (job_view job)
writer_view token_of (phases.Writing job open_one written) =
    world.Writing (job_view job) (token_of open_one) written
writer_view token_of (phases.Finished job token) =
    world.Finished (job_view job) (token_view token)
writer_view token_of (phases.Failed job open_one) =
    world.Failed (job_view job) (option_map token_of open_one)
writer_view token_of (phases.Settled session) = world.Settled session
writer_view token_of (phases.Forgotten session) = world.Forgotten session

-- the step of a writer that has a job which can't be stored: its write is abandoned where it is
-- still open, and then the article is given up
abbrev pub step_of_failed : Option terms.Token → WriterStep
step_of_failed (Some token) = steps.Abandon
step_of_failed None = steps.Forget

-- what a writer does next
abbrev pub step_of : world.Writer → WriterStep
step_of world.Idle = steps.Pop
step_of (world.Popped job) = steps.Begin
step_of (world.Writing job token written) =
    if nat_lt written (job_size job) then steps.Block else steps.Finish
step_of (world.Finished job token) = steps.Settle
step_of (world.Failed job open_one) = step_of_failed open_one
step_of (world.Settled session) = steps.Answer
step_of (world.Forgotten session) = steps.Answer
