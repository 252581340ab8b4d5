use Rattle.std.proofs.Common.{arith, ◌∙◌, rules, tests}
use Rattle.std.proofs.lemmas.Iterator.{YieldsList-from_slice}
use Rattle.std.proofs.lemmas.Iterator.Search.{position_from_yields_List}
use Rattle.line_words.specs.Words.{separates}
use Rattle.line_words.proofs.LineWords.{first_or_length, first_within}
use Rattle.line_words.proofs.words.word_length.Goals as goal

pub returns-clause-value : goal.returns-clause-value
returns-clause-value c =
    let ends = separates c.args.between in
    let found = position_from_yields_List ends _ _ c.position.result c.position.ensures.ran
    (YieldsList-from_slice c.args.line.now c.iter.ensures.rest)
    (λ x b q k. search (rules, tests)) in
    c.unwrap_or.ensures ∙ first_or_length ends c.args.line.now c.position.result found

pub returns-clause-within : goal.returns-clause-within
returns-clause-within c =
    let value = returns-clause-value c in
    omega (arith, value, first_within (separates c.args.between) c.args.line.now)
