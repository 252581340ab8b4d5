-- Of which article it is asked where it goes, by what clap states of the words
-- (docs/PROTOCOL.md, Commands).
use Rattle.std.specs.Prelude.{ℕ, List, Option, None, Some, codes, option_and_then, option_map, pos}
use Rattle.std.specs.Prelude.{string_bytes, unwrap_or}
use Rattle.clap.specs.Words.{App, Row, Rule, Text, first_of, new_app, new_rule, one_of, with_rule}
use Rattle.clap.specs.declared.builder.ArgAction.TheVariants.{Set}
use Rattle.clap.specs.declared.builder.ValueParser.TheVariants.{Signed}
use Rattle.relay_command.specs.Numbers.{number_of}
use Rattle.relay_command.specs.declared.question.Question.{Question}

-- the newsgroups of an article, with commas between them, and its octets
pub record Asking : Type 0 where
  pub newsgroups : List ℕ
  pub size : ℕ

-- what is asked of an article
abbrev pub asked_of : Question → Asking
asked_of question =
    record { newsgroups = string_bytes question.newsgroups; size = question.size }

-- what is asked, where something is
abbrev pub question_of : Option Question → Option Asking
question_of None = None
question_of (Some question) = Some (asked_of question)

-- a word that may be left out
abbrev pub optional : Text → Rule
optional name = record (new_rule name) { action = Some Set }

-- SIZE, a number of 1 to 16,777,356 that may be left out
abbrev pub size_rule : Rule
size_rule = record (new_rule (codes "SIZE")) {
  parser = Some (Signed (pos 1) (pos 16777356));
  action = Some Set;
}

-- `explain DIR [NEWSGROUPS] [SIZE]`
abbrev pub explain_words : Rule → App
explain_words folder =
    with_rule
    (with_rule (with_rule (new_app (codes "explain")) folder) (optional (codes "NEWSGROUPS")))
    size_rule

-- the number given for SIZE, where there is one
abbrev pub size_said : List Row → Option ℕ
size_said rows = option_and_then number_of (one_of (codes "SIZE") rows)

-- the number given for SIZE, 2,000 where there is none
abbrev pub size_given : List Row → ℕ
size_given rows = unwrap_or (size_said rows) 2000

-- what is asked with what is given for NEWSGROUPS and SIZE; nothing without NEWSGROUPS
abbrev pub question_given : List Row → Option Asking
question_given rows =
    option_map (λ newsgroups. record { newsgroups = newsgroups; size = size_given rows })
    (first_of (codes "NEWSGROUPS") rows)
