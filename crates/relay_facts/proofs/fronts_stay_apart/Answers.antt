use Rattle.std.proofs.Common.{◌∙◌, ap, subst, sym, zero-add}
use Rattle.relay_facts.proofs.Skipping.{groups_skipped, one_group}
use Rattle.news_terms.specs.Courses.{IsLaid}
use Rattle.news_terms.specs.Places.{front_after, on_line}
use Rattle.relay_facts.proofs.fronts_stay_apart.Goals as goal

pub returns-clause-one : goal.returns-clause-one
returns-clause-one c = λ groups begun laid g group buffer there none.
    one_group 0 groups begun g group buffer there none
    (λ h other at. subst (λ k. IsLaid other (begun k)) (sym (zero-add h)) (laid h other at))
    (on_line buffer.blocks buffer.first_cycle 0)
    ∙ ap (λ k. front_after buffer (begun k).articles) (zero-add g)

pub returns-clause-none : goal.returns-clause-none
returns-clause-none c = λ groups begun laid buffer none.
    groups_skipped 0 groups begun buffer none
    (λ h other at. subst (λ k. IsLaid other (begun k)) (sym (zero-add h)) (laid h other at))
    (on_line buffer.blocks buffer.first_cycle 0)
