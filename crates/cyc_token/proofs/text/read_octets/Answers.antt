-- Digits that decode, none of them in lower case, are those of the octets.
use Rattle.std.proofs.Common.{◌∙◌, sym}
use Rattle.cyc_token.specs.Faults.{digits_of}
use Rattle.cyc_token.proofs.Digits.{decodes_from}
use Rattle.cyc_token.proofs.text.read_octets.Goals as goal

pub returns-clause-spelled : goal.returns-clause-spelled
returns-clause-spelled c =
    sym (decodes_from 0 (digits_of c.args.text.now) c.in-Some.octets c.in-Some.ensures.octets
    (sym c.has_lower_case.ensures ∙ c.if-has_lower_case.false))

pub returns-then-has_lower_case-clause-none : goal.returns-then-has_lower_case-clause-none
returns-then-has_lower_case-clause-none c = tt

pub returns-then-has_lower_case-clause-spelled : goal.returns-then-has_lower_case-clause-spelled
returns-then-has_lower_case-clause-spelled c = tt
