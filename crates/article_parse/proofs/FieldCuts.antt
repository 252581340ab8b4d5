-- A field at the front of a text: its line, its content, and what follows it.
use Rattle.std.proofs.Common.{◌≡◌, ℕ, zero, suc, ◌+◌, ◌-◌, ◌<◌, ◌≤◌, true, false, List}
use Rattle.std.proofs.Common.{[], ◌∷◌, ◌++◌, length, take, drop, get_or, sym, ap, subst, ◌∙◌, arith}
use Rattle.std.proofs.Common.{⊎_elim, refl, append-nil}
use Rattle.std.proofs.Common.{take-append-drop, length-drop, append_assoc}
use Rattle.std.specs.Prelude.{◌&&◌}
use Rattle.std.specs.List.{AllByRecursion, list_any, position_or_len}
use Rattle.std.specs.Str.{byte}
use Rattle.std.proofs.lemmas.Bool.{and_parts, cases_lt, both_ways, eqb-true}
use Rattle.std.proofs.lemmas.List.{drop-drop, drop-take, take-take, get_or-take, drop_more}
use Rattle.std.proofs.lemmas.List.Concat.{flat_map-append}
use Rattle.std.specs.Prelude.{flat_map, IsTrue}
use Rattle.news_terms.specs.Article.{Field, IsField, field_text}
use Rattle.news_terms.specs.Lines.{crlf}
use Rattle.news_terms.specs.Article.{begins_field, is_field_name, is_set_off, has_empty_line}
use Rattle.news_terms.specs.Article.{are_header_lines, header_lines, is_paired}
use Rattle.article_parse.specs.Header.{is_plain, goes_on, IsLineCut, IsWholeContent}
use Rattle.article_parse.specs.Header.{IsFieldAt, IsEmptyLineAt, AreFieldsTo}
use Rattle.article_parse.specs.Reads.{IsHeader}
use Rattle.article_parse.proofs.Pairs.{at_first}
use Rattle.article_parse.proofs.FieldLines.{is_colon, no_colon}
use Rattle.article_parse.proofs.HeaderCuts.{line_length, blank_of, begins_of, goes_as_header}
use Rattle.article_parse.proofs.ContentCuts.{set_off_more}

-- octets behind others are plain where all are
pub plain_drop : (n : ℕ) (s : List ℕ) → is_plain s ≡ true → is_plain (drop n s) ≡ true
plain_drop zero s h = h
plain_drop (suc n) [] h = h
plain_drop (suc n) (c ∷ s) h = plain_drop n s (and_parts _ (is_plain s) h).1

-- a line without its first octets ends where it ended
pub line_behind : (s : List ℕ) (first m : ℕ) → IsLineCut s first → m ≤ first
    → IsLineCut (drop m s) (first - m)
line_behind s first m h le =
    let k = first - m in
    let fits = h.fits in
    let whole : m + k ≡ first = omega arith in
    let next : m + (k + 2) ≡ first + 2 = omega arith in
    let left : drop (first + 2) s ≡ drop (k + 2) (drop m s) =
    ap (λ n. drop n s) (sym next) ∙ sym (drop-drop (k + 2) m s) in
    record {
      fits = omega (arith, length-drop m s);
      plain = ap is_plain (sym (drop-take m k s) ∙ ap (λ n. drop m (take n s)) whole)
          ∙ plain_drop m (take first s) h.plain;
      cut = drop-drop k m s ∙ ap (λ n. drop n s) whole ∙ h.cut ∙ ap (λ x. 13 ∷ 10 ∷ x) left;
      paired = ap is_paired (sym left) ∙ h.paired;
    }

-- a line that begins a field has a colon
pub colon_within : (line : List ℕ) (n : ℕ) → n ≡ position_or_len is_colon line → n ≤ length line
    → begins_field line ≡ true → n < length line
colon_within line n e le begins = ⊎_elim (λ lt. lt)
    (λ past. absurd (both_ways _ (no_colon line (sym e ∙ omega (arith, le, past))) begins))
    (cases_lt n (length line))

-- the parts of a line that begins a field
pub begins_parts : (line : List ℕ) (n : ℕ) → n ≡ position_or_len is_colon line
    → begins_field line ≡ true
    → (is_field_name (take n line) ≡ true) × (is_set_off (drop (n + 1) line) ≡ true)
begins_parts line n e h =
    let p = and_parts (is_field_name (take (position_or_len is_colon line) line)
    && list_any is_colon line)
    (is_set_off (drop (position_or_len is_colon line + 1) line)) h in
    let q = and_parts (is_field_name (take (position_or_len is_colon line) line))
    (list_any is_colon line) p.0 in (
      ap (λ m. is_field_name (take m line)) e ∙ q.0,
      ap (λ m. is_set_off (drop (m + 1) line)) e
          ∙ p.1,
    )

-- the colon of such a line stands in the text
colon_in : (s : List ℕ) (first n : ℕ) → n ≡ position_or_len is_colon (take first s) → n < first
    → n < length (take first s) → first ≤ length s → drop n s ≡ byte ":" ∷ drop (n + 1) s
colon_in s first n e lt within le =
    let found : is_colon (get_or (take first s) n 0) ≡ true =
    ap (λ m. is_colon (get_or (take first s) m 0)) e
    ∙ at_first is_colon (take first s) (omega (arith, e, within)) in
    let is : get_or s n 0 ≡ byte ":" =
    sym (get_or-take first s n 0 lt) ∙ eqb-true (get_or (take first s) n 0) (byte ":") found in
    drop_more s n 0 (omega (arith, lt, le)) ∙ ap (λ c. c ∷ drop (n + 1) s) is

-- a name, a colon, a content and CRLF
spelled_parts : (s : List ℕ) (n end : ℕ) → drop n s ≡ byte ":" ∷ drop (n + 1) s
    → drop end (drop (n + 1) s) ≡ 13 ∷ 10 ∷ drop (end + 2) (drop (n + 1) s)
    → s ≡ field_text (record { name = take n s; content = take end (drop (n + 1) s) })
    ++ drop (end + 2) (drop (n + 1) s)
spelled_parts s n end colon ends =
    let content = drop (n + 1) s in
    let rest = drop (end + 2) content in
    let name = take n s in
    let first = take end content in
    let behind : content ≡ first ++ 13 ∷ 10 ∷ rest =
    sym (take-append-drop end content) ∙ ap (λ x. first ++ x) ends in
    let grouped : ((name ++ byte ":" ∷ first) ++ crlf) ++ rest
    ≡ name ++ byte ":" ∷ (first ++ 13 ∷ 10 ∷ rest) =
    append_assoc (name ++ byte ":" ∷ first) crlf rest
    ∙ append_assoc name (byte ":" ∷ first) (13 ∷ 10 ∷ rest) in
    sym (take-append-drop n s) ∙ ap (λ x. name ++ x) colon
    ∙ ap (λ x. name ++ byte ":" ∷ x) behind ∙ sym grouped

-- a line that begins a field, and the content that begins in it, are a field
pub field_whole : (s : List ℕ) (first n end : ℕ) → IsLineCut s first → 0 < first
    → n ≡ position_or_len is_colon (take first s) → n ≤ length (take first s)
    → begins_field (take first s) ≡ true
    → IsWholeContent (drop (n + 1) s) (first - (n + 1)) end
    → IsFieldAt s (record { name = take n s; content = take end (drop (n + 1) s) })
    (n + 1 + end + 2)
field_whole s first n end h some e le begins whole =
    let long = line_length s first h in
    let within = colon_within (take first s) n e le begins in
    let lt : n < first = omega arith in
    let k = first - (n + 1) in
    let content = drop (n + 1) s in
    let line = line_behind s first (n + 1) h (omega arith) in
    let parts = begins_parts (take first s) n e begins in
    let fits = h.fits in
    let rest = whole.content in
    let fits' = rest.fits in
    let colon = colon_in s first n e lt within (omega arith) in
    let sum : n + 1 + (end + 2) ≡ n + 1 + end + 2 = omega arith in
    let left : drop (end + 2) content ≡ drop (n + 1 + end + 2) s =
    drop-drop (end + 2) (n + 1) s ∙ ap (λ m. drop m s) sum in
    let next : n + 1 + (k + 2) ≡ first + 2 = omega arith in
    let same : drop (first + 2) s ≡ drop (k + 2) content =
    ap (λ m. drop m s) (sym next) ∙ sym (drop-drop (k + 2) (n + 1) s) in
    let whole_line : n + 1 + k ≡ first = omega arith in
    let off : is_set_off (take k content) ≡ true =
    ap is_set_off (sym (drop-take (n + 1) k s) ∙ ap (λ m. drop (n + 1) (take m s)) whole_line)
    ∙ parts.1 in
    record {
      fits = omega (arith, fits', length-drop (n + 1) s);
      some = omega arith;
      spelled = spelled_parts s n end colon rest.cut
          ∙ ap (λ x. field_text (record { name = take n s; content = take end content }) ++ x) left;
      is_field = record {
        named = ap is_field_name (sym (take-take n first s (omega arith))) ∙ parts.0;
        set_off = set_off_more content k end line rest.behind off;
        folded = rest.folded;
      };
      paired = ap is_paired (sym left) ∙ rest.paired;
      empty = blank_of s first h some ∙ ap has_empty_line same ∙ rest.empty
          ∙ ap has_empty_line left;
      good = begins_of s first h some
          ∙ ap (λ b. b && goes_on (drop (first + 2) s)) begins
          ∙ ap goes_on same ∙ rest.good
          ∙ goes_as_header (drop (end + 2) content) rest.paired whole.ended
          ∙ ap (λ x. are_header_lines (header_lines x)) left;
    }

-- the same, of what was sliced off
pub field_sliced : (s content : List ℕ) (first n end : ℕ) → content ≡ drop (n + 1) s
    → IsLineCut s first → 0 < first
    → n ≡ position_or_len is_colon (take first s) → n ≤ length (take first s)
    → begins_field (take first s) ≡ true → IsWholeContent content (first - (n + 1)) end
    → IsFieldAt s (record { name = take n s; content = take end content }) (n + 1 + end + 2)
field_sliced s content first n end same h some e le begins whole =
    subst (λ (x : List ℕ). IsFieldAt s (record { name = take n s; content = take end x })
    (n + 1 + end + 2))
    (sym same)
    (field_whole s first n end h some e le begins
    (subst (λ (x : List ℕ). IsWholeContent x (first - (n + 1)) end) same whole))

-- where no content ends, there is no empty line
pub field_lost : (s content : List ℕ) (first n : ℕ) → content ≡ drop (n + 1) s
    → IsLineCut s first → 0 < first → n < first
    → has_empty_line (drop (first - (n + 1) + 2) content) ≡ false → has_empty_line s ≡ false
field_lost s content first n same h some lt none =
    let next : n + 1 + (first - (n + 1) + 2) ≡ first + 2 = omega arith in
    blank_of s first h some
    ∙ ap (λ m. has_empty_line (drop m s)) (sym next)
    ∙ ap has_empty_line (sym (drop-drop (first - (n + 1) + 2) (n + 1) s))
    ∙ ap (λ x. has_empty_line (drop (first - (n + 1) + 2) x)) (sym same)
    ∙ none

-- a line that begins no field is a fault
pub no_field : (s : List ℕ) (first : ℕ) → IsLineCut s first → 0 < first
    → begins_field (take first s) ≡ false → are_header_lines (header_lines s) ≡ false
no_field s first h some f =
    begins_of s first h some ∙ ap (λ b. b && goes_on (drop (first + 2) s)) f

-- fields, and an empty line behind them, are a header
pub header_ends : (s rest : List ℕ) (fields : List Field) (at : ℕ) → rest ≡ drop at s
    → AreFieldsTo s fields at → IsEmptyLineAt rest → IsHeader s fields (at + 2)
header_ends s rest fields at e h line =
    let fits = line.fits in
    let within = h.within in
    let front = flat_map field_text fields in
    let behind : drop at s ≡ crlf ++ drop (at + 2) s =
    sym e ∙ line.spelled ∙ ap (λ x. crlf ++ x) (ap (drop 2) e ∙ drop-drop 2 at s) in
    record {
      within = omega (arith, fits, ap length e, length-drop at s);
      spelled = h.spelled ∙ ap (λ x. front ++ x) behind
          ∙ sym (append_assoc front crlf (drop (at + 2) s));
      each_field = h.each_field;
    }

-- no fields stand in front of a text
pub no_fields : (s : List ℕ) → IsTrue (is_paired s) → AreFieldsTo s [] 0
no_fields s paired = record {
  within = omega arith;
  spelled = refl;
  each_field = tt;
  paired = paired;
  empty = refl;
  good = refl;
}

each_and_one : (fields : List Field) (field : Field) → AllByRecursion IsField fields → IsField field
    → AllByRecursion IsField (fields ++ field ∷ [])
each_and_one [] field each one = (one, tt)
each_and_one (f ∷ fields) field each one = (each.0, each_and_one fields field each.1 one)

-- a field behind fields is one more of them
pub one_more_field : (s rest : List ℕ) (fields : List Field) (field : Field) (at octets : ℕ)
    → rest ≡ drop at s → AreFieldsTo s fields at → IsFieldAt rest field octets
    → AreFieldsTo s (fields ++ field ∷ []) (at + octets)
one_more_field s rest fields field at octets e h one =
    let front = flat_map field_text fields in
    let left : drop octets rest ≡ drop (at + octets) s =
    ap (drop octets) e ∙ drop-drop octets at s in
    let text : flat_map field_text (fields ++ field ∷ []) ≡ front ++ field_text field =
    flat_map-append field_text fields (field ∷ [])
    ∙ ap (λ x. front ++ x) (append-nil (field_text field)) in
    let behind : drop at s ≡ field_text field ++ drop (at + octets) s =
    sym e ∙ one.spelled ∙ ap (λ x. field_text field ++ x) left in
    record {
      within = omega (arith, one.fits, one.some, ap length e, length-drop at s);
      spelled = h.spelled ∙ ap (λ x. front ++ x) behind
          ∙ sym (append_assoc front (field_text field) (drop (at + octets) s))
          ∙ ap (λ x. x ++ drop (at + octets) s) (sym text);
      each_field = each_and_one fields field h.each_field one.is_field;
      paired = subst (λ (x : List ℕ). IsTrue (is_paired x)) left one.paired;
      empty = h.empty ∙ ap has_empty_line (sym e) ∙ one.empty ∙ ap has_empty_line left;
      good = h.good ∙ ap (λ x. are_header_lines (header_lines x)) (sym e) ∙ one.good
          ∙ ap (λ x. are_header_lines (header_lines x)) left;
    }
