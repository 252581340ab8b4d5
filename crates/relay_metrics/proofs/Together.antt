-- What the parts of an exposition make together.
use Rattle.std.proofs.Common.{◌≡◌, ◌∙◌, ◌++◌, [], List, ℕ, ap, codes, count_by}
use Rattle.std.proofs.Common.{flat_map}
use Rattle.relay_metrics.specs.Exposition.{count_text, exposition_lines, family_text, is_unread}
use Rattle.relay_metrics.specs.Families.{report_families, unread_family}
use Rattle.relay_metrics.specs.Lines.{Line}

-- The families, how many lines aren't known, and the end are the exposition of the lines.
pub together : (lines : List Line) (count : ℕ) (empty told counted all : List ℕ) → empty ≡ []
    → told ≡ empty ++ flat_map (family_text lines) report_families
    → count ≡ count_by is_unread lines → counted ≡ told ++ count_text unread_family count
    → all ≡ counted ++ codes "# EOF\n" → all ≡ exposition_lines lines
together lines count empty told counted all begins tells counts adds ends =
    let some = flat_map (family_text lines) report_families in
    let more = count_text unread_family count in
    ends ∙ ap (λ (o : List ℕ). o ++ codes "# EOF\n")
    (adds ∙ ap (λ (o : List ℕ). o ++ more) (tells ∙ ap (λ (o : List ℕ). o ++ some) begins))
    ∙ ap (λ (o : ℕ). some ++ count_text unread_family o ++ codes "# EOF\n") counts
