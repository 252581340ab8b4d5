-- Where the rows of a report's lines stand on the page.
use Rattle.std.proofs.Common.{◌≡◌, ◌∙◌, ◌+◌, ◌++◌, ◌∷◌, [], suc, List, ℕ, Some, ap, arith, sym}
use Rattle.std.proofs.Common.{append_assoc, count_by, flat_map, length, slice_get, subst}
use Rattle.relay_metrics.proofs.Samples.{one_of_all, within}
use Rattle.relay_metrics.specs.Exposition.{is_unread}
use Rattle.relay_metrics.specs.Laws.{HasPart}
use Rattle.relay_metrics.specs.Lines.{Line, report_lines}
use Rattle.relay_page.specs.Figures.{Figure, figure_text, figures_text, number_or_none, number_text}
use Rattle.relay_page.specs.Page.{Section, first_section, foot, other_sections, page_of}
use Rattle.relay_page.specs.Page.{section_text, sized_rows}
use Rattle.relay_page.specs.Rows.{buffer_row, buffer_rows, oldest_of, row_of, size_at}
use Rattle.relay_page.specs.Selected.{buffers_in, most_waiting, oldest_in, sizes_in}

-- The other sections are a part of the page,
others_there : (report : List ℕ) → HasPart (page_of report)
    (flat_map (section_text (most_waiting (report_lines report)) (report_lines report))
    other_sections)
others_there report =
    let lines = report_lines report in
    let start = section_text (most_waiting lines) lines first_section in
    let more = flat_map (section_text (most_waiting lines) lines) other_sections in
    let end = foot (count_by is_unread lines) in
    record {
      before = start ++ sized_rows lines;
      after = end;
      whole = append_assoc (start ++ sized_rows lines) more end;
    }

-- and so are the buffers.
sized_there : (report : List ℕ) → HasPart (page_of report) (sized_rows (report_lines report))
sized_there report =
    let lines = report_lines report in
    let start = section_text (most_waiting lines) lines first_section in
    let rows = sized_rows lines in
    let more = flat_map (section_text (most_waiting lines) lines) other_sections in
    let end = foot (count_by is_unread lines) in
    record {
      before = start;
      after = more ++ end;
      whole = append_assoc (start ++ rows) more end ∙ append_assoc start rows (more ++ end);
    }

-- The rows of a section are a part of it.
rows_in : (most : ℕ) (lines : List Line) (section : Section)
    → HasPart (section_text most lines section) (flat_map (row_of section.part most) lines)
rows_in most lines section = record {
  before = section.opening;
  after = section.closing;
  whole = append_assoc section.opening (flat_map (row_of section.part most) lines) section.closing;
}

-- The row of a line is a part of the page.
pub row_there : (report : List ℕ) (line : Line) (front back : List Line) (section : Section)
    (before after : List Section) → report_lines report ≡ front ++ line ∷ back
    → other_sections ≡ before ++ section ∷ after
    → HasPart (page_of report) (row_of section.part (most_waiting (report_lines report)) line)
row_there report line front back section before after are these =
    let lines = report_lines report in
    let most = most_waiting lines in
    let row = row_of section.part most in
    let in_all : HasPart (flat_map (section_text most lines) other_sections)
    (section_text most lines section) =
    subst (λ (all : List Section). HasPart (flat_map (section_text most lines) all)
    (section_text most lines section)) (sym these)
    (one_of_all (section_text most lines) before after section) in
    let in_rows : HasPart (flat_map row lines) (row line) =
    subst (λ (all : List Line). HasPart (flat_map row all) (row line)) (sym are)
    (one_of_all row front back line) in
    within _ _ _ (others_there report)
    (within _ _ _ in_all (within _ _ _ (rows_in most lines section) in_rows))

-- The row of a buffer is a part of those of all from a place on.
row_in : (sizes oldest : List Line) (place at : ℕ) (front back : List Line) (line : Line)
    → at ≡ place + length front
    → HasPart (buffer_rows sizes oldest place (front ++ line ∷ back))
    (buffer_row (size_at sizes at line.name) (oldest_of oldest line.name) line)
row_in sizes oldest place at [] back line is =
    let here : at ≡ place = omega (arith, is) in
    record {
      before = [];
      after = buffer_rows sizes oldest (suc place) back;
      whole = ap (λ (o : ℕ).
          buffer_row (size_at sizes o line.name) (oldest_of oldest line.name) line
          ++ buffer_rows sizes oldest (suc place) back) (sym here);
    }
row_in sizes oldest place at (other ∷ front) back line is =
    let first =
    buffer_row (size_at sizes place other.name) (oldest_of oldest other.name) other in
    let rest = row_in sizes oldest (suc place) at front back line (omega (arith, is)) in
    record {
      before = first ++ rest.before;
      after = rest.after;
      whole = ap (λ (o : List ℕ). first ++ o) rest.whole
          ∙ sym (append_assoc first rest.before
          (buffer_row (size_at sizes at line.name) (oldest_of oldest line.name) line
          ++ rest.after));
    }

-- So it is a part of the page.
pub buffer_there : (report : List ℕ) (line : Line) (front back : List Line)
    → buffers_in (report_lines report) ≡ front ++ line ∷ back
    → HasPart (page_of report)
    (buffer_row (size_at (sizes_in (report_lines report)) (length front) line.name)
    (oldest_of (oldest_in (report_lines report)) line.name) line)
buffer_there report line front back are =
    let sizes = sizes_in (report_lines report) in
    let oldest = oldest_in (report_lines report) in
    let row =
    buffer_row (size_at sizes (length front) line.name) (oldest_of oldest line.name) line in
    within _ _ _ (sized_there report)
    (subst (λ (all : List Line). HasPart (buffer_rows sizes oldest 0 all) row) (sym are)
    (row_in sizes oldest 0 (length front) front back line (omega arith)))

-- A number of a line stands among those that its row has.
pub number_there : (line : Line) (number : List ℕ) (figure : Figure) (before after : List Figure)
    → slice_get line.numbers figure.place ≡ Some number
    → HasPart (figures_text (before ++ figure ∷ after) line) (number_text figure number)
number_there line number figure before after is =
    subst (λ (o : List ℕ). HasPart (figures_text (before ++ figure ∷ after) line) o)
    (ap (number_or_none figure) is) (one_of_all (figure_text line) before after figure)
