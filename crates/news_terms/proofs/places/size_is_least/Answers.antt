use Rattle.std.proofs.Common.{arith}
use Rattle.news_terms.proofs.places.size_is_least.Goals as goal

pub returns : goal.returns
returns c = λ octets. record { enough = omega arith; least = λ m h. omega arith }
