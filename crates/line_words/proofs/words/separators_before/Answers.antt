use Rattle.std.proofs.Common.{ℕ, Bool, arith, ◌∙◌, rules, tests}
use Rattle.std.specs.Prelude.{not}
use Rattle.std.proofs.lemmas.Iterator.{YieldsList-from_slice}
use Rattle.std.proofs.lemmas.Iterator.Search.{position_from_yields_List}
use Rattle.line_words.specs.Words.{separates}
use Rattle.line_words.proofs.LineWords.{first_or_length, first_within}
use Rattle.line_words.proofs.words.separators_before.Goals as goal

pub returns-clause-value : goal.returns-clause-value
returns-clause-value c =
    let begins : ℕ → Bool = λ octet. not (separates c.args.between octet) in
    let found = position_from_yields_List begins _ _ c.position.result c.position.ensures.ran
    (YieldsList-from_slice c.args.line.now c.iter.ensures.rest)
    (λ x b q k. search (rules, tests)) in
    c.unwrap_or.ensures ∙ first_or_length begins c.args.line.now c.position.result found

pub returns-clause-within : goal.returns-clause-within
returns-clause-within c =
    let value = returns-clause-value c in
    let begins : ℕ → Bool = λ octet. not (separates c.args.between octet) in
    omega (arith, value, first_within begins c.args.line.now)
