use Rattle.buffer_ages.proofs.Sinces.{is_there}
use Rattle.buffer_ages.proofs.laws.what_came_since_is_there.Goals as goal

pub returns : goal.returns
returns c front_at marks front blocks moment place are told came =
    is_there front_at marks front blocks moment place are told came
