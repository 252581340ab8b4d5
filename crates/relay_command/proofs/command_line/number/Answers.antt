use Rattle.std.proofs.Common.{◌∙◌, ap}
use Rattle.std.specs.Prelude.{option_and_then}
use Rattle.std.specs.Str.Parse.{ParsesUnsigned, ExplainsUnsignedError, HasUnsignedDigitsIfOk}
use Rattle.clap.specs.Words.{found_of, one_text}
use Rattle.clap.proofs.WalkLemmas.{one_text-rows}
use Rattle.relay_command.specs.Numbers.{number_of}
use Rattle.relay_command.proofs.Numbers.{number_given}
use Rattle.relay_command.proofs.command_line.number.Goals as goal

pub returns : goal.returns
returns c =
    let found = found_of c.args.given.now in
    number_given
    (λ text r. ParsesUnsigned 32 10 text r × ExplainsUnsignedError 10 text r
    × HasUnsignedDigitsIfOk text r)
    (one_text found c.args.name.now) c.get_one.result (λ text r gives. gives.0)
    c.get_one.ensures.none c.get_one.ensures.value
    ∙ ap (option_and_then number_of) (one_text-rows found c.args.name.now)
