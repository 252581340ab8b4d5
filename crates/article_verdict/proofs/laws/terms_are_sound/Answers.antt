use Rattle.article_verdict.proofs.SoundTerms.{are_sound}
use Rattle.article_verdict.proofs.laws.terms_are_sound.Goals as goal

pub returns : goal.returns
returns c = are_sound
