-- What the parts of a page make together.
use Rattle.std.proofs.Common.{◌≡◌, ◌∙◌, ◌++◌, [], List, ℕ, ap, count_by, flat_map}
use Rattle.relay_metrics.specs.Exposition.{is_unread}
use Rattle.relay_metrics.specs.Lines.{Line}
use Rattle.relay_page.specs.Page.{first_section, foot, other_sections, page_lines, section_text}
use Rattle.relay_page.specs.Page.{sized_rows}
use Rattle.relay_page.specs.Selected.{most_waiting}

-- The first section, the buffers, the other sections and the foot are the page of the lines.
pub together : (lines : List Line) (most unread : ℕ) (empty first sized others all : List ℕ)
    → most ≡ most_waiting lines → empty ≡ []
    → first ≡ empty ++ section_text most lines first_section
    → sized ≡ first ++ sized_rows lines
    → others ≡ sized ++ flat_map (section_text most lines) other_sections
    → unread ≡ count_by is_unread lines → all ≡ others ++ foot unread → all ≡ page_lines lines
together lines most unread empty first sized others all is begins one two third counts ends =
    let start = section_text most lines first_section in
    let rows = sized_rows lines in
    let more = flat_map (section_text most lines) other_sections in
    ends ∙ ap (λ (o : List ℕ). o ++ foot unread)
    (third ∙ ap (λ (o : List ℕ). o ++ more)
    (two ∙ ap (λ (o : List ℕ). o ++ rows) (one ∙ ap (λ (o : List ℕ). o ++ start) begins)))
    ∙ ap (λ (o : ℕ). start ++ rows ++ more ++ foot o) counts
    ∙ ap (λ (o : ℕ). section_text o lines first_section ++ rows
    ++ flat_map (section_text o lines) other_sections ++ foot (count_by is_unread lines)) is
