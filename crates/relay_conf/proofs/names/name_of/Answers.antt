use Rattle.std.proofs.Common.{◌≡◌, ◌∙◌, ap, sym, Bool, true, Option, Some, None, List, ℕ}
use Rattle.std.specs.Prelude.{if◌then◌else◌}
use Rattle.std.specs.Option.{option_copied}
use Rattle.relay_conf.specs.Words.{is_name}
use Rattle.relay_conf.proofs.NameTexts.{text_of_name}
use Rattle.relay_conf.proofs.names.name_of.Goals as goal

pub returns : goal.returns
returns c =
    let word : List ℕ = c.args.word.now in
    let named : is_name word ≡ true = sym c.is_name.ensures ∙ c.if-not-is_name.false in
    let answer : Bool → Option (List ℕ) = λ is. if is then Some word else None in
    ap option_copied c.ok.ensures.value
    ∙ text_of_name _ word c.from_utf8.result named c.from_utf8.ensures.cases
    ∙ sym (ap answer named)
