use Rattle.std.proofs.Common.{[], codes, refl}
use Rattle.relay_laws.specs.Terms.{k1}
use Rattle.relay_laws.specs.WorldRows as rows
use Rattle.relay_laws.specs.Worlds.{two_stored}
use Rattle.relay_laws.proofs.Playing.{are_answered}
use Rattle.relay_laws.proofs.worlds.lost_early.Goals as goal

pub returns-clause-article : goal.returns-clause-article
returns-clause-article c = λ failures one two. are_answered k1 (two_stored failures one two) []
    (rows.lost_early (codes "ARTICLE <1@x>\r\n")) rows.lost_early_replies
    (refl, (refl, tt)) refl refl

pub returns-clause-head : goal.returns-clause-head
returns-clause-head c = λ failures one two. are_answered k1 (two_stored failures one two) []
    (rows.lost_early (codes "HEAD <1@x>\r\n")) rows.lost_early_replies
    (refl, (refl, tt)) refl refl

pub returns-clause-body : goal.returns-clause-body
returns-clause-body c = λ failures one two. are_answered k1 (two_stored failures one two) []
    (rows.lost_early (codes "BODY <1@x>\r\n")) rows.lost_early_replies
    (refl, (refl, tt)) refl refl

pub returns-clause-overview : goal.returns-clause-overview
returns-clause-overview c = λ failures one two. are_answered k1 (two_stored failures one two) []
    (rows.lost_early (codes "OVER <1@x>\r\n")) rows.lost_early_replies
    (refl, (refl, tt)) refl refl
