use Rattle.std.specs.Prelude.{IsFalse}
use Rattle.std.proofs.lemmas.List.Elements.{recursion_from_All}
use Rattle.news_terms.specs.StorageClass.{Entry, takes}
use Rattle.news_terms.proofs.Choices.{find-first, find-none}
use Rattle.news_terms.proofs.classes.first_entry.Goals as goal

pub returns-clause-first : goal.returns-clause-first
returns-clause-first c before after entry groups size none h =
    find-first (λ (x : Entry). takes x groups size) before after entry
    (recursion_from_All (λ (x : Entry). IsFalse (takes x groups size)) before none) h

pub returns-clause-none : goal.returns-clause-none
returns-clause-none c entries groups size none =
    find-none (λ (x : Entry). takes x groups size) entries
    (recursion_from_All (λ (x : Entry). IsFalse (takes x groups size)) entries none)
