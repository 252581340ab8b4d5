use Rattle.std.proofs.Common.{[], refl}
use Rattle.relay_laws.specs.WorldRows as rows
use Rattle.relay_laws.specs.Worlds.{forgetting, sharing}
use Rattle.relay_laws.proofs.Articles.{empty_is_none}
use Rattle.relay_laws.proofs.Playing.{are_answered}
use Rattle.relay_laws.proofs.worlds.kept_from_others.Goals as goal

pub returns : goal.returns
returns c = λ failures one two. are_answered forgetting (sharing failures one two) []
    rows.kept_from_others rows.kept_from_others_replies (empty_is_none, tt) refl refl
