-- What is asked of an article, by what is given for the words.
use Rattle.std.proofs.Common.{◌≡◌, ◌∙◌, ap, ap₂, sym, ℕ, List, Option, None, Some, codes}
use Rattle.std.proofs.Common.{string_bytes}
use Rattle.std.specs.Prelude.{option_map}
use Rattle.clap.specs.Words.{Row, first_of}
use Rattle.relay_command.specs.Questions.{Asking, question_given, question_of, size_given}
use Rattle.relay_command.specs.declared.question.Question.{Question}

-- Where no newsgroups are given nothing is asked.
pub asks_nothing : (rows : List Row) → first_of (codes "NEWSGROUPS") rows ≡ None
    → question_of None ≡ question_given rows
asks_nothing rows none = sym (ap (option_map (λ newsgroups. record {
  newsgroups = newsgroups;
  size = size_given rows;
})) none)

-- Where newsgroups are given it is asked of these, and of the size that is given.
pub asks_of : (rows : List Row) (given : List ℕ) (question : Question)
    → first_of (codes "NEWSGROUPS") rows ≡ Some given
    → string_bytes question.newsgroups ≡ given → question.size ≡ size_given rows
    → question_of (Some question) ≡ question_given rows
asks_of rows given question some same sized =
    let made : List ℕ → ℕ → Option Asking =
    λ newsgroups size. Some (record { newsgroups = newsgroups; size = size }) in
    ap₂ made same sized ∙ sym (ap (option_map (λ (newsgroups : List ℕ). record {
      newsgroups = newsgroups;
      size = size_given rows;
    })) some)
