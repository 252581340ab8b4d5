use Rattle.std.proofs.Common.{◌∙◌, sym, ap, unwrap_or, []}
use Rattle.std.specs.Option.{option_map}
use Rattle.std.proofs.lemmas.Result.{IfOk-weaker}
use Rattle.clap.specs.Words.{found_of}
use Rattle.clap.proofs.WalkLemmas.{first_value-rows}
use Rattle.relay_command.proofs.command_line.word.Goals as goal

pub returns-in-Some : goal.returns-in-Some
returns-in-Some c =
    let given = sym (first_value-rows (found_of c.args.given.now) c.args.name.now)
    ∙ sym c.get_str.ensures ∙ ap (option_map (λ s. s.now)) c.in-Some.is in
    IfOk-weaker c.from_str.result _ _
    (λ w same. same ∙ sym (ap (λ t. unwrap_or t []) given)) c.from_str.ensures.ok

pub returns-in-None : goal.returns-in-None
returns-in-None c =
    let given = sym (first_value-rows (found_of c.args.given.now) c.args.name.now)
    ∙ sym c.get_str.ensures ∙ ap (option_map (λ s. s.now)) c.in-None.is in
    c.new.ensures.bytes ∙ sym (ap (λ t. unwrap_or t []) given)
