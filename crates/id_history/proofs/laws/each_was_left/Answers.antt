use Rattle.relay_model.specs.Claims.{Unknown}
use Rattle.id_history.specs.Lasting.{put_all}
use Rattle.id_history.proofs.LastingLaws.{some_left}
use Rattle.id_history.proofs.laws.each_was_left.Goals as goal

pub returns : goal.returns
returns c = λ entries up. (put_all (λ id. Unknown) entries, some_left entries up)
