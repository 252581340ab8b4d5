use Rattle.std.proofs.Common.{◌∙◌, sym, ap, unwrap_or, [], codes}
use Rattle.std.specs.Option.{option_map}
use Rattle.std.specs.Str.{bytes_eq}
use Rattle.clap.specs.Words.{found_of}
use Rattle.clap.proofs.WalkLemmas.{first_value-rows}
use Rattle.relay_command.proofs.command_line.flag.Goals as goal

pub returns-in-Some : goal.returns-in-Some
returns-in-Some c =
    let given = sym (first_value-rows (found_of c.args.given.now) c.args.name.now)
    ∙ sym c.get_str.ensures ∙ ap (option_map (λ s. s.now)) c.in-Some.is in
    c.eq.ensures ∙ sym (ap (λ t. bytes_eq (unwrap_or t []) (codes "true")) given)

pub returns-in-None : goal.returns-in-None
returns-in-None c =
    let given = sym (first_value-rows (found_of c.args.given.now) c.args.name.now)
    ∙ sym c.get_str.ensures ∙ ap (option_map (λ s. s.now)) c.in-None.is in
    sym (ap (λ t. bytes_eq (unwrap_or t []) (codes "true")) given)
