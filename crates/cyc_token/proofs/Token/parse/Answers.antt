-- What the octets tell of the token, and the fault of the text, tell each answer.
use Rattle.std.proofs.Common.{◌∙◌, ap, sym, Ok}
use Rattle.std.specs.List.{flat_map}
use Rattle.news_terms.specs.Token.{octet_digits}
use Rattle.cyc_token.specs.declared.text.TokenError.TheVariants.{Length, Marks, Digit, LowerCase}
use Rattle.cyc_token.proofs.Texts.{Gives, gives_fault, answers_fault, answers_token, length_fault}
use Rattle.cyc_token.proofs.Texts.{marks_fault, digit_fault, lower_fault, marked_text}
use Rattle.cyc_token.proofs.Token.parse.Goals as goal
use Rattle.cyc_token.proofs.Token.parse.Goals.{After-from_residual, After-from_octets}

-- the fault of the text is the answer's
refused : (c : After-from_residual) → Gives c.from_residual.result c.args.text.now
refused c =
    gives_fault c.from_residual.result c.args.text.now c.in_err-octets.field-0.0
    c.from_residual.ensures.1
    c.in_err-octets.ensures.fault

-- the octets that the text spells are the answer's
read : (c : After-from_octets) → Gives (Ok c.from_octets.result) c.args.text.now
read c =
    let digits = c.in_ok-octets.ensures.spelled
    ∙ ap (flat_map octet_digits) (sym c.from_octets.ensures.octets) in
    (c.from_octets.ensures.parts, marked_text c.args.text.now _ c.in_ok-octets.ensures.none digits)

pub returns-in_err-octets-clause-token : goal.returns-in_err-octets-clause-token
returns-in_err-octets-clause-token c =
    answers_token c.from_residual.result c.args.text.now (refused c)

pub returns-in_err-octets-clause-length : goal.returns-in_err-octets-clause-length
returns-in_err-octets-clause-length c =
    answers_fault c.from_residual.result c.args.text.now Length _ (refused c)
    (length_fault c.args.text.now)

pub returns-in_err-octets-clause-marks : goal.returns-in_err-octets-clause-marks
returns-in_err-octets-clause-marks c =
    answers_fault c.from_residual.result c.args.text.now Marks _ (refused c)
    (marks_fault c.args.text.now)

pub returns-in_err-octets-clause-digit : goal.returns-in_err-octets-clause-digit
returns-in_err-octets-clause-digit c =
    answers_fault c.from_residual.result c.args.text.now Digit _ (refused c)
    (digit_fault c.args.text.now)

pub returns-in_err-octets-clause-lower_case : goal.returns-in_err-octets-clause-lower_case
returns-in_err-octets-clause-lower_case c =
    answers_fault c.from_residual.result c.args.text.now LowerCase _ (refused c)
    (lower_fault c.args.text.now)

pub returns-clause-token : goal.returns-clause-token
returns-clause-token c = answers_token (Ok c.from_octets.result) c.args.text.now (read c)

pub returns-clause-length : goal.returns-clause-length
returns-clause-length c =
    answers_fault (Ok c.from_octets.result) c.args.text.now Length _ (read c)
    (length_fault c.args.text.now)

pub returns-clause-marks : goal.returns-clause-marks
returns-clause-marks c =
    answers_fault (Ok c.from_octets.result) c.args.text.now Marks _ (read c)
    (marks_fault c.args.text.now)

pub returns-clause-digit : goal.returns-clause-digit
returns-clause-digit c =
    answers_fault (Ok c.from_octets.result) c.args.text.now Digit _ (read c)
    (digit_fault c.args.text.now)

pub returns-clause-lower_case : goal.returns-clause-lower_case
returns-clause-lower_case c =
    answers_fault (Ok c.from_octets.result) c.args.text.now LowerCase _ (read c)
    (lower_fault c.args.text.now)
