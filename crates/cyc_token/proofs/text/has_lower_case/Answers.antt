-- The test of one octet, at each octet in turn.
use Rattle.std.proofs.Common.{rules, tests}
use Rattle.std.specs.Char.{is_ascii_lowercase}
use Rattle.std.proofs.lemmas.Iterator.{YieldsList-from_slice}
use Rattle.std.proofs.lemmas.Iterator.Search.{any_from_yields_List}
use Rattle.cyc_token.proofs.text.has_lower_case.Goals as goal

pub returns : goal.returns
returns c =
    any_from_yields_List is_ascii_lowercase _ _ _ c.any.ensures.ran
    (YieldsList-from_slice c.args.digits.now cc) (λ x b q k. search (rules, tests))
