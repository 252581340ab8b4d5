-- The texts that say what a repair forgets.
use Rattle.std.proofs.Common.{◌≡◌, ℕ, List, subst}
use Rattle.news_terms.specs.HeadBlocks.{HeadBlock}
use Rattle.relay_conf.specs.declared.settings.Config.{Config}
use Rattle.relay_startup.specs.Unsaved.{IsWithoutUnsaved}

-- it is said of texts and heads that are the same
pub same_without : (config : Config) {kept kept' last last' found left left' : List ℕ}
    {heads heads' : List HeadBlock} → kept ≡ kept' → last ≡ last' → heads ≡ heads' → left ≡ left'
    → IsWithoutUnsaved config kept last heads found left
    → IsWithoutUnsaved config kept' last' heads' found left'
same_without config {kept} {kept'} {last} {last'} {found} {left} {left'} {heads} {heads'} k l h t
    is =
    subst (λ (x : List ℕ). IsWithoutUnsaved config x last' heads' found left') k
    (subst (λ (x : List ℕ). IsWithoutUnsaved config kept x heads' found left') l
    (subst (λ (x : List HeadBlock). IsWithoutUnsaved config kept last x found left') h
    (subst (λ (x : List ℕ). IsWithoutUnsaved config kept last heads found x) t is)))
