use Rattle.std.proofs.Common.{rules, tests, ◌∙◌, ◌==◌, sym}
use Rattle.std.proofs.lemmas.List.{take_rest}
use Rattle.std.proofs.lemmas.Iterator.{YieldsList-from_slice}
use Rattle.std.proofs.lemmas.Iterator.Search.{position_from_yields_List}
use Rattle.line_words.proofs.Cuts.{cut_at, uncut}
use Rattle.line_words.proofs.parts.cut.Goals as goal

pub returns-in-Some : goal.returns-in-Some
returns-in-Some c =
    let found = position_from_yields_List (λ x. x == c.args.octet) _ _ c.position.result
    c.position.ensures.ran
    (YieldsList-from_slice c.args.text.now c.iter.ensures.rest)
    (λ x b q k. search (rules, tests)) in
    rw take_rest
    (cut_at (λ x. x == c.args.octet) c.args.text.now c.in-Some.at (sym found ∙ c.in-Some.is))

pub returns-in-None : goal.returns-in-None
returns-in-None c =
    let found = position_from_yields_List (λ x. x == c.args.octet) _ _ c.position.result
    c.position.ensures.ran
    (YieldsList-from_slice c.args.text.now c.iter.ensures.rest)
    (λ x b q k. search (rules, tests)) in
    uncut (λ x. x == c.args.octet) c.args.text.now (sym found ∙ c.in-None.is)
