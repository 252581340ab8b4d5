-- The text exposition of a report (docs/FORMATS.md, Metrics): metric families, each with its
-- samples together.
use Rattle.std.specs.Prelude.{ℕ, Bool, List, [], ◌++◌, codes, count_by, decimal, flat_map}
use Rattle.std.specs.Prelude.{is_some, Option, None, Some, true, false, if◌then◌else◌}
use Rattle.std.specs.List.{list_any}
use Rattle.news_terms.specs.Article.{is_empty}
use Rattle.relay_metrics.specs.Families.{Family, kind_word, name_end, report_families}
use Rattle.relay_metrics.specs.Families.{unread_family, value_in}
use Rattle.relay_metrics.specs.Labels.{escaped}
use Rattle.relay_metrics.specs.Lines.{Line, report_lines}
use Rattle.relay_metrics.specs.declared.lines.Subject.{Subject}
use Rattle.relay_metrics.specs.declared.lines.Subject.TheVariants.{Unread}

-- texts, one behind the other
abbrev pub joined : (parts : List (List ℕ)) → List ℕ
joined parts = flat_map (λ part. part) parts

-- the name of a family, which its samples have too
abbrev pub family_name : Family → List ℕ
family_name family = family.base ++ name_end family.kind

-- the unit of a family, where it has one: of a counter its name without `_total`
abbrev pub unit_line : Family → List ℕ
unit_line family =
    if is_empty family.unit then []
    else codes "# UNIT " ++ family.base ++ codes " " ++ family.unit ++ codes "\n"

-- what stands before the samples of a family
abbrev pub family_head : Family → List ℕ
family_head family =
    codes "# HELP " ++ family_name family ++ codes " " ++ family.help ++ codes "\n"
    ++ codes "# TYPE " ++ family_name family ++ codes " " ++ kind_word family.kind ++ codes "\n"
    ++ unit_line family

-- a label with its value, where a family has one: `{buffer="A"}`
abbrev pub label_text : (label value : List ℕ) → List ℕ
label_text label value =
    if is_empty label then []
    else codes "{" ++ label ++ codes "=\"" ++ escaped value ++ codes "\"}"

-- a sample with this value: `cnrelay_feed_tokens_waiting{peer="p2"} 1`
abbrev pub sample_text : Family → (name value : List ℕ) → List ℕ
sample_text family name value =
    family_name family ++ label_text family.label name ++ codes " " ++ value ++ codes "\n"

-- a sample with this value, where there is one
abbrev pub sample_of : Family → (name : List ℕ) → Option (List ℕ) → List ℕ
sample_of family name None = []
sample_of family name (Some value) = sample_text family name value

-- the sample that a family has of a line
abbrev pub sample : Family → Line → List ℕ
sample family line = sample_of family line.name (value_in family line)

-- the family has a sample of the line
abbrev pub has_sample : Family → Line → Bool
has_sample family line = is_some (value_in family line)

-- a family that has samples of these lines, with them in the lines' order; one that has none is
-- left out
abbrev pub family_text : List Line → Family → List ℕ
family_text lines family =
    if list_any (has_sample family) lines
    then family_head family ++ flat_map (sample family) lines
    else []

-- it is about something that isn't known
abbrev pub is_unread_about : Subject → Bool
is_unread_about Unread = true
is_unread_about subject = false

-- the line isn't known
abbrev pub is_unread : Line → Bool
is_unread line = is_unread_about line.subject

-- a family whose one sample is this number
abbrev pub count_text : Family → ℕ → List ℕ
count_text family count = family_head family ++ sample_text family [] (decimal count)

-- The exposition of these lines: the families that have samples of them, how many of the lines
-- aren't known, and `# EOF` at the end.
abbrev pub exposition_lines : List Line → List ℕ
exposition_lines lines =
    flat_map (family_text lines) report_families
    ++ count_text unread_family (count_by is_unread lines) ++ codes "# EOF\n"

-- the exposition of a report
abbrev pub exposition_of : (report : List ℕ) → List ℕ
exposition_of report = exposition_lines (report_lines report)
