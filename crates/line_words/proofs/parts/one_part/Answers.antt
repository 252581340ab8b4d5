use Rattle.std.proofs.Common.{◌≡◌, ◌∷◌, ◌==◌, sym}
use Rattle.line_words.specs.Parts.{parts}
use Rattle.line_words.proofs.Cuts.{not_one}
use Rattle.line_words.proofs.parts.one_part.Goals as goal

pub returns-in_default-Some : goal.returns-in_default-Some
returns-in_default-Some c =
    let word = c.cut.result.0.now in
    let rest = c.in_default-Some.field-0-1.now in
    let cut : parts c.args.octet c.in_ok-rest.field-0.now ≡ word ∷ parts c.args.octet rest =
    rw c.in_default-Some.is-1 at c.cut.ensures in
    rw (c.in_ok-rest.was, cut) (sym (not_one (λ other. other == c.args.octet) word rest))
