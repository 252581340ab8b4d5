-- Each law is the one on three tests, at the tests of a message-id.
use Rattle.std.specs.List.{list_all}
use Rattle.news_terms.specs.MessageId.{has_id_length, has_brackets, is_graphic}
use Rattle.news_terms.proofs.IdFaults.{Decides-length, Decides-brackets, Decides-graphic}
use Rattle.news_terms.proofs.IdFaults.{id_fault-none, brackets_fault, octet_fault}
use Rattle.news_terms.proofs.ids.fault_laws.Goals as goal

pub returns-clause-accepted : goal.returns-clause-accepted
returns-clause-accepted c = id_fault-none

pub returns-clause-brackets : goal.returns-clause-brackets
returns-clause-brackets c = λ text.
    let law = brackets_fault (has_id_length text) (has_brackets text) (list_all is_graphic text)
    (Decides-length text) (Decides-brackets text) in
    (λ e. let w = law.0 e in (w.0.0, w.0.1, w.1), λ m. law.1 ((m.0, m.1), m.2))

pub returns-clause-octet : goal.returns-clause-octet
returns-clause-octet c = λ text.
    let law = octet_fault (has_id_length text) (has_brackets text) (list_all is_graphic text)
    (Decides-length text) (Decides-brackets text) (Decides-graphic text) in (
      λ e. let w = law.0 e in (w.0.0, w.0.1, w.1.0, w.1.1, w.1.2, w.2),
      λ m. law.1 ((m.0, m.1), (m.2, m.3, m.4), m.5),
    )
