use Rattle.std.proofs.Common.{◌≡◌, ◌∙◌, ◌∷◌, sym, ap, List, ℕ}
use Rattle.line_words.specs.Parts.{parts}
use Rattle.relay_conf.specs.StorageLines as terms
use Rattle.relay_conf.proofs.StorageWords.{two_commas}
use Rattle.relay_conf.proofs.storage_lines.sizes_of.Goals as goal

pub returns-in_default-Some : goal.returns-in_default-Some
returns-in_default-Some c =
    let one : parts 44 c.args.value.now ≡ c.cut.result.0.now ∷ parts 44 c.in-Some.rest.now =
    rw c.in-Some.is at c.cut.ensures in
    let two : parts 44 c.in-Some.rest.now ≡ c.cut-2.result.0.now ∷ parts 44
    c.in_default-Some.field-0-1.now = rw c.in_default-Some.is-1 at c.cut-2.ensures in
    sym (ap terms.sizes_of (one ∙ ap (λ (more : List (List ℕ)). c.cut.result.0.now ∷ more) two)
    ∙ two_commas c.cut.result.0.now c.cut-2.result.0.now c.in_default-Some.field-0-1.now)
