use Rattle.std.proofs.Common.{[], ◌∷◌, ◌++◌, refl, arith}
use Rattle.std.specs.Str.{byte}
use Rattle.std.specs.Fmt.{digits}
use Rattle.news_terms.specs.Article.{worked_article}
use Rattle.relay_model.specs.World.{empty_world}
use Rattle.relay_laws.specs.TransferRows as rows
use Rattle.std.specs.Prelude.{replicate}
use Rattle.relay_laws.specs.OtherTerms.{two_groups}
use Rattle.relay_laws.proofs.Dues.{NamesToken}
use Rattle.relay_laws.proofs.Articles.{article_b_is}
use Rattle.news_terms.specs.Token.{IsToken}
use Rattle.relay_laws.proofs.Articles.{article_a_is}
use Rattle.relay_laws.proofs.Dues.{NoHint, ReadsAs}
use Rattle.relay_laws.proofs.Playing.{are_answered}
use Rattle.relay_laws.proofs.Premises.{five}
use Rattle.relay_laws.proofs.transfers.two_writers.Goals as goal

-- both are tokens
token_of_a_is : IsToken rows.token_of_a
token_of_a_is = record {
  class = omega arith;
  buffer = omega arith;
  cycle = omega arith;
  first = omega arith;
  length = omega arith;
}

token_of_b_is : IsToken rows.token_of_b
token_of_b_is = record {
  class = omega arith;
  buffer = omega arith;
  cycle = omega arith;
  first = omega arith;
  length = omega arith;
}

pub returns : goal.returns
unfolding digits
returns c = λ failures. are_answered two_groups (empty_world failures)
    (replicate 8 NoHint ++ ReadsAs (worked_article (byte "a") 1) ∷ replicate 2 NoHint
    ++ ReadsAs (worked_article (byte "b") 2) ∷ replicate 16 NoHint
    ++ NamesToken rows.token_of_b ∷ NamesToken rows.token_of_a ∷ [])
    rows.two_writers rows.two_writers_replies
    (article_a_is, (article_b_is, five (five ((token_of_b_is, refl), ((token_of_a_is, refl), tt)))))
    refl refl
