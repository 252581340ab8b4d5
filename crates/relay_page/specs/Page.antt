-- The page of a report (docs/FORMATS.md, Page): one HTML page, with nothing from elsewhere.
use Rattle.std.specs.Prelude.{ℕ, List, [], ◌∷◌, ◌++◌, codes, count_by, decimal, flat_map}
use Rattle.relay_metrics.specs.Exposition.{is_unread}
use Rattle.relay_metrics.specs.Lines.{Line, report_lines}
use Rattle.relay_page.specs.Rows.{buffer_rows, row_of}
use Rattle.relay_page.specs.Selected.{buffers_in, most_waiting, oldest_in, sizes_in}
use Rattle.relay_page.specs.declared.frame.Section as code
use Rattle.relay_page.specs.declared.rows.Part.{Part}
use Rattle.relay_page.specs.declared.rows.Part.TheVariants as parts

-- how the page looks: bars as wide as the page, and a table that scrolls by itself where it is
-- wider than a telephone
abbrev pub style : List ℕ
style =
    codes "<style>\n"
    ++ codes "body{font:1em/1.4 sans-serif;margin:0 auto;max-width:60em;padding:.5em}\n"
    ++ codes "h3{margin:1em 0 .2em;overflow-wrap:anywhere}\n"
    ++ codes "p{margin:.2em 0}\n"
    ++ codes "span{display:inline-block;margin-right:1em}\n"
    ++ codes ".bar{background:#ddd;height:1em}\n"
    ++ codes ".bar div{background:#36c;height:1em}\n"
    ++ codes ".wide{overflow-x:auto}\n"
    ++ codes "table{border-collapse:collapse}\n"
    ++ codes "th,td{border:1px solid #bbb;padding:.2em .4em;text-align:right}\n"
    ++ codes "</style>\n"

-- what stands before all else: what the page is, its title, and how it looks
abbrev pub head : List ℕ
head =
    codes "<!DOCTYPE html>\n"
    ++ codes "<html lang=\"en\">\n"
    ++ codes "<head>\n"
    ++ codes "<meta charset=\"utf-8\">\n"
    ++ codes "<meta name=\"viewport\" content=\"width=device-width, initial-scale=1\">\n"
    ++ codes "<title>cnrelay</title>\n"
    ++ style
    ++ codes "</head>\n"
    ++ codes "<body>\n"
    ++ codes "<h1>cnrelay</h1>\n"

-- the first row of the table of peers
abbrev pub peer_heads : List ℕ
peer_heads =
    codes "<tr><th>peer</th><th>open</th><th>accepted</th><th>known</th>"
    ++ codes "<th>refused</th><th>later</th><th>octets</th><th>offers</th></tr>\n"

-- the first row of the table of what was refused: the reasons of docs/PROTOCOL.md, Judging, in
-- their order
abbrev pub refusal_heads : List ℕ
refusal_heads =
    codes "<tr><th>peer</th><th>more than maxart</th><th>no article</th>"
    ++ codes "<th>another id</th><th>wrong Path</th><th>was here before</th>"
    ++ codes "<th>wrong date</th><th>no entry of storage.conf</th>"
    ++ codes "<th>larger than a buffer</th></tr>\n"

-- A section: a part of the page, and what stands before and behind that.
pub record Section : Type 0 where
  pub opening : List ℕ
  pub part : Part
  pub closing : List ℕ

-- a section of the code as the definitions have it
abbrev pub section_view : code.Section → Section
section_view section =
    record {
      opening = section.opening.now;
      part = section.part;
      closing = section.closing.now;
    }

-- a heading, and a part below it
abbrev pub headed : (title : List ℕ) → Part → Section
headed title part =
    record { opening = codes "<h2>" ++ title ++ codes "</h2>\n"; part = part; closing = [] }

-- the section before the buffers
abbrev pub first_section : Section
first_section =
    record { opening = head; part = parts.Notice; closing = codes "<h2>Buffers</h2>\n" }

-- the buffers of a relay that is being repaired, under the same heading
abbrev pub repaired_section : Section
repaired_section = record { opening = []; part = parts.Repaired; closing = [] }

-- a heading, and a table below it, of a part whose rows stand below this first one
abbrev pub tabled : (heading heads : List ℕ) → Part → Section
tabled heading heads part =
    record {
      opening = heading ++ codes "\n<div class=\"wide\"><table>\n" ++ heads;
      part = part;
      closing = codes "</table></div>\n";
    }

-- the peers: a table with a row for each
abbrev pub peers_section : Section
peers_section = tabled (codes "<h2>Peers</h2>") peer_heads parts.Peers

-- what was refused of the peers: a table with a row for each of whom anything was
abbrev pub refusals_section : Section
refusals_section = tabled (codes "<h3>Refused, by reason</h3>") refusal_heads parts.Refusals

-- the addresses that the newest connections of the peers came from
abbrev pub addresses_section : Section
addresses_section =
    record {
      opening = codes "<h3>Newest connections</h3>\n<p>\n";
      part = parts.Addresses;
      closing = codes "</p>\n";
    }

-- the sections behind the buffers
abbrev pub other_sections : List Section
other_sections =
    repaired_section ∷ headed (codes "Feeds") parts.Feeds
    ∷ headed (codes "Message-ids") parts.Ids ∷ peers_section ∷ refusals_section
    ∷ addresses_section ∷ []

-- a section of these lines; in no feed wait more tokens than `most`
abbrev pub section_text : (most : ℕ) → List Line → Section → List ℕ
section_text most lines section =
    section.opening ++ flat_map (row_of section.part most) lines ++ section.closing

-- the buffers of a relay that is served, each with its size, and with what is told of its oldest
-- article
abbrev pub sized_rows : List Line → List ℕ
sized_rows lines = buffer_rows (sizes_in lines) (oldest_in lines) 0 (buffers_in lines)

-- how many lines aren't known, and the end of the page
abbrev pub foot : (unread : ℕ) → List ℕ
foot unread =
    codes "<p>Lines of the report that are not known here: <b>" ++ decimal unread
    ++ codes "</b></p>\n</body>\n</html>\n"

-- The page of these lines: what stands before all else, and that the relay is being repaired, or
-- paused, where it is; the buffers with their sizes; the other sections; how many of the lines
-- aren't known.
abbrev pub page_lines : List Line → List ℕ
page_lines lines =
    section_text (most_waiting lines) lines first_section
    ++ sized_rows lines
    ++ flat_map (section_text (most_waiting lines) lines) other_sections
    ++ foot (count_by is_unread lines)

-- the page of a report
abbrev pub page_of : (report : List ℕ) → List ℕ
page_of report = page_lines (report_lines report)
