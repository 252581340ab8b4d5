use Rattle.std.proofs.Common.{◌∙◌, sym, ap, unwrap_or}
use Rattle.std.specs.Option.{option_map}
use Rattle.clap.specs.Words.{found_of, rows_of}
use Rattle.clap.proofs.WalkLemmas.{first_value-rows}
use Rattle.relay_command.proofs.Questions.{asks_nothing, asks_of}
use Rattle.relay_command.proofs.question.question_in.Goals as goal

pub returns-in-None : goal.returns-in-None
returns-in-None c =
    asks_nothing (rows_of (found_of c.args.given.now))
    (sym (first_value-rows (found_of c.args.given.now) _)
    ∙ sym c.get_str.ensures ∙ ap (option_map (λ s. s.now)) c.in-None.is)

pub returns-in_ok-newsgroups-in-Some : goal.returns-in_ok-newsgroups-in-Some
returns-in_ok-newsgroups-in-Some c =
    asks_of (rows_of (found_of c.args.given.now)) c.in-Some.newsgroups.now
    (record {
      newsgroups = c.in_ok-newsgroups-in-Some.newsgroups;
      size = c.unwrap_or-size.result;
    })
    (sym (first_value-rows (found_of c.args.given.now) _)
    ∙ sym c.get_str.ensures ∙ ap (option_map (λ s. s.now)) c.in-Some.is)
    c.in_ok-newsgroups-in-Some.ensures.ok
    (c.unwrap_or-size.ensures ∙ ap (λ size. unwrap_or size 2000) c.number.ensures)
