use Rattle.std.proofs.Common.{◌∙◌, ap, inl, inr, sym}
use Rattle.id_history.specs.Answers.{take_view}
use Rattle.id_history.specs.Mark.{no_article}
use Rattle.found_again.specs.Claiming.{is_had}
use Rattle.found_again.specs.Taken.{taken}
use Rattle.found_again.proofs.ClaimLemmas.{had_of, keeps_same, old_of, taken_with}
use Rattle.found_again.proofs.claiming.is_taken.Goals as goal

-- it is taken from now on
pub returns-in-Mine-clause-after : goal.returns-in-Mine-clause-after
returns-in-Mine-clause-after c text later is keeps =
    keeps_same c.take.new.self _ _ (taken_with text later _ (is ∙ c.in-Some.is))
    (c.in_ok-take-in-Some.ensures.claims no_article (taken later) keeps)

-- it was taken before
pub returns-in-Held : goal.returns-in-Held
returns-in-Held c = record {
  answer = λ later keeps. elim c.in-Held.is [
    | inl is ↦ sym (ap (λ own. is_had own later) c.in-Some.is
        ∙ old_of _ (ap take_view (sym is)
        ∙ c.in_ok-take-in-Some.ensures.answer (taken later) keeps))
    | inr is ↦ sym (ap (λ own. is_had own later) c.in-Some.is
        ∙ had_of _ (ap take_view (sym is)
        ∙ c.in_ok-take-in-Some.ensures.answer (taken later) keeps))
  ];
  after = λ text later is keeps.
      keeps_same c.take.new.self _ _ (taken_with text later _ (is ∙ c.in-Some.is))
      (c.in_ok-take-in-Some.ensures.claims no_article (taken later) keeps);
}
