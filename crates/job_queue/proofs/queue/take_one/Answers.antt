use Rattle.job_queue.proofs.Steps.{writer_takes}
use Rattle.job_queue.proofs.queue.take_one.Goals as goal

pub pop_as-requires-clause-rule : goal.pop_as-requires-clause-rule
pop_as-requires-clause-rule g c = (writer_takes _ _ c.requires.writer, λ items views h at. tt)
