-- A text without a fault of a whole text is laid out as an article.
use Rattle.std.proofs.Common.{◌≡◌, ◌≢◌, ℕ, zero, suc, ◌+◌, ◌≤◌, ◌<◌, Bool, true, false, List, []}
use Rattle.std.proofs.Common.{◌∷◌, ◌++◌, length, take, drop, get_or, refl, sym, ap, subst, ◌∙◌}
use Rattle.std.proofs.Common.{inl, inr, arith, append_assoc, take-append-drop, le_refl}
use Rattle.std.specs.Prelude.{not, ◌&&◌, ◌||◌, IsTrue, flat_map, ◌⊎◌}
use Rattle.std.specs.List.{AllByRecursion, list_all, position_or_len, before_first, after_first}
use Rattle.std.specs.Str.{byte}
use Rattle.std.proofs.lemmas.Bool.{and_parts, and_from, eqb-true, eqb-false, ne_eqb}
use Rattle.std.proofs.lemmas.Bool.{not-true, cases_eq, cases_Bool, both_ways}
use Rattle.std.proofs.lemmas.List.{drop_more, length-append}
use Rattle.std.proofs.lemmas.List.Sums.{prefix_len-le-length}
use Rattle.news_terms.specs.Article.{Article, Field, IsField, IsLaidOut, field_text}
use Rattle.news_terms.specs.Article.{is_set_off, is_paired, is_paired_after}
use Rattle.news_terms.specs.Article.{begins_field, continues_field, header_lines, has_nul}
use Rattle.news_terms.specs.Article.{are_header_lines, has_empty_line, is_empty}
use Rattle.news_terms.specs.Lines.{crlf, spelled}
use Rattle.news_terms.proofs.HeaderLines.{no_line_feed, then_line_feed}
use Rattle.article_parse.specs.Header.{is_plain, may_follow}
use Rattle.article_parse.proofs.ContentCuts.{plain_folded, folded_more}
use Rattle.article_parse.proofs.FieldCuts.{begins_parts, colon_within, plain_drop}
use Rattle.article_parse.proofs.FieldLines.{is_colon}
use Rattle.article_parse.proofs.HeaderCuts.{blank_behind, header_behind, plain_no_blank}
use Rattle.article_parse.proofs.Pairs.{at_first}

-- a text up to its first CRLF
record Cut (text : List ℕ) : Type 0 where
  line : List ℕ
  rest : List ℕ
  whole : text ≡ line ++ 13 ∷ 10 ∷ rest
  plain : is_plain line ≡ true
  paired : IsTrue (is_paired_after 10 rest)

-- an octet that is no part of a line end stays in the line
plain_on : (c : ℕ) (rest : List ℕ) → c ≢ 13 → c ≢ 10 → is_plain rest ≡ true
    → is_plain (c ∷ rest) ≡ true
plain_on c rest no_cr no_lf plain = rw (ne_eqb c 13 no_cr, ne_eqb c 10 no_lf) plain

-- a CR, and the LF behind it
at_cr : (c : ℕ) (rest : List ℕ) → c ≡ 13 → IsTrue (is_paired_after c rest) → Cut (c ∷ rest)
at_cr c [] e h = absurd (eqb-false c 13 (not-true _ h) e)
at_cr c (d ∷ rest) e h =
    let is_lf : d ≡ 10 = then_line_feed c d rest e h in
    record {
      line = [];
      rest = rest;
      whole = ap (λ x. x ∷ d ∷ rest) e ∙ ap (λ x. 13 ∷ x ∷ rest) is_lf;
      plain = refl;
      paired = subst (λ x. IsTrue (is_paired_after x rest)) is_lf (and_parts _ _ h).1;
    }

-- a text whose line ends are pairs has no line end, or a first line
first_cut : (before : ℕ) (text : List ℕ) → before ≢ 13 → IsTrue (is_paired_after before text)
    → (is_plain text ≡ true) ⊎ Cut text
first_cut before [] no_cr h = inl refl
first_cut before (c ∷ rest) no_cr h =
    let later : IsTrue (is_paired_after c rest) = (and_parts _ _ h).1 in
    let no_lf = no_line_feed before c rest no_cr h in
    elim (cases_eq c 13) [
      | inl e ↦ inr (at_cr c rest e later)
      | inr n ↦ elim (first_cut c rest n later) [
        | inl plain ↦ inl (plain_on c rest n no_lf plain)
        | inr cut ↦ inr (record {
          line = c ∷ cut.line;
          rest = cut.rest;
          whole = ap (λ x. c ∷ x) cut.whole;
          plain = plain_on c cut.line n no_lf cut.plain;
          paired = cut.paired;
        })
      ]
    ]

-- the lines are plain, and each has something in it
abbrev is_header_line : List ℕ → Bool
is_header_line line = is_plain line && not (is_empty line)

-- a text as lines, the first empty one, and what follows it
record Headed (text : List ℕ) : Type 0 where
  lines : List (List ℕ)
  body : List ℕ
  whole : text ≡ spelled lines ++ crlf ++ body
  each : list_all is_header_line lines ≡ true
  header : header_lines text ≡ lines

-- one line more
with_line : (line rest : List ℕ) → is_plain line ≡ true → 0 < length line → Headed rest
    → Headed (line ++ 13 ∷ 10 ∷ rest)
with_line [] rest plain some h = absurd (omega (arith, some))
with_line (c ∷ line) rest plain some h = record {
  lines = (c ∷ line) ∷ h.lines;
  body = h.body;
  whole = ap (λ x. (c ∷ line) ++ 13 ∷ 10 ∷ x) h.whole
      ∙ sym (append_assoc (c ∷ line) crlf (spelled h.lines ++ crlf ++ h.body))
      ∙ sym (append_assoc ((c ∷ line) ++ crlf) (spelled h.lines ++ crlf) h.body)
      ∙ ap (λ x. x ++ h.body) (sym (append_assoc ((c ∷ line) ++ crlf) (spelled h.lines) crlf));
  each = and_from (is_header_line (c ∷ line)) (list_all is_header_line h.lines)
      (and_from (is_plain (c ∷ line)) true plain refl) h.each;
  header = header_behind (c ∷ line) rest some plain ∙ ap (λ x. (c ∷ line) ∷ x) h.header;
}

-- a first line, and what is known of the text behind it
behind : (n : ℕ) (line rest : List ℕ) → is_plain line ≡ true
    → length (line ++ 13 ∷ 10 ∷ rest) ≤ suc n
    → (length rest ≤ n → has_empty_line rest ≡ true → Headed rest)
    → has_empty_line (line ++ 13 ∷ 10 ∷ rest) ≡ true → Headed (line ++ 13 ∷ 10 ∷ rest)
behind n [] rest plain short later blank =
    record { lines = []; body = rest; whole = refl; each = refl; header = refl }
behind n (c ∷ line) rest plain short later blank =
    let sum : length (line ++ 13 ∷ 10 ∷ rest) ≡ length line + length (13 ∷ 10 ∷ rest) =
    length-append line (13 ∷ 10 ∷ rest) in
    with_line (c ∷ line) rest plain (omega arith)
    (later (omega (arith, short, sum))
    (sym (blank_behind (c ∷ line) rest (omega arith) plain) ∙ blank))

-- a text with an empty line is so
headed : (n before : ℕ) (text : List ℕ) → length text ≤ n → before ≢ 13
    → IsTrue (is_paired_after before text) → has_empty_line text ≡ true → Headed text
headed zero before [] short no_cr h blank = absurd (both_ways _ refl blank)
headed zero before (c ∷ text) short no_cr h blank = absurd (omega (arith, short))
headed (suc n) before text short no_cr h blank = elim (first_cut before text no_cr h) [
  | inl plain ↦ absurd (both_ways _ (plain_no_blank text plain) blank)
  | inr cut ↦ subst Headed (sym cut.whole) (behind n cut.line cut.rest cut.plain
      (subst (λ (x : List ℕ). length x ≤ suc n) cut.whole short)
      (λ fewer later. headed n 10 cut.rest fewer (λ e. omega (arith, e)) cut.paired later)
      (subst (λ (x : List ℕ). has_empty_line x ≡ true) cut.whole blank))
]

-- the field that a line begins
abbrev field_in : List ℕ → Field
field_in line =
    record { name = before_first is_colon line; content = after_first is_colon line }

-- a field that goes on by one line
abbrev field_on : Field → List ℕ → Field
field_on f line = record f { content = f.content ++ 13 ∷ 10 ∷ line }

-- a line that begins a field is its name, a colon and its content
line_of_field : (line : List ℕ) → begins_field line ≡ true
    → line ≡ before_first is_colon line ++ byte ":" ∷ after_first is_colon line
line_of_field line begins =
    let n = position_or_len is_colon line in
    let within : n < length line =
    colon_within line n refl (prefix_len-le-length (λ c. not (is_colon c)) line) begins in
    let found : get_or line n 0 ≡ byte ":" =
    eqb-true (get_or line n 0) (byte ":") (at_first is_colon line within) in
    sym (take-append-drop n line)
    ∙ ap (λ x. take n line ++ x)
    (drop_more line n 0 within ∙ ap (λ c. c ∷ drop (n + 1) line) found)

-- a plain line that begins a field is one
begun_field : (line : List ℕ) → is_plain line ≡ true → begins_field line ≡ true
    → IsField (field_in line)
begun_field line plain begins =
    let n = position_or_len is_colon line in
    let parts = begins_parts line n refl begins in
    record {
      named = parts.0;
      set_off = parts.1;
      folded = plain_folded (drop (n + 1) line) (plain_drop (n + 1) line plain);
    }

-- what is set off stays so when more follows behind a CRLF
set_off_on : (content line : List ℕ) → is_set_off content ≡ true
    → is_set_off (content ++ 13 ∷ 10 ∷ line) ≡ true
set_off_on [] line h = refl
set_off_on (c ∷ content) line h = h

-- a field that goes on is one
continued_field : (f : Field) (line : List ℕ) → IsField f → is_plain line ≡ true
    → continues_field line ≡ true → IsField (field_on f line)
continued_field f line is plain continues = record {
  named = is.named;
  set_off = set_off_on f.content line is.set_off;
  folded = folded_more f.content line is.folded continues plain;
}

-- fields whose octets these are
record Fields (octets : List ℕ) : Type 0 where
  fields : List Field
  whole : octets ≡ flat_map field_text fields
  each : AllByRecursion IsField fields

-- the octets of a field that goes on
octets_on : (f : Field) (line : List ℕ) (more : List (List ℕ))
    → field_text f ++ spelled (line ∷ more) ≡ field_text (field_on f line) ++ spelled more
octets_on f line more =
    let front = f.name ++ byte ":" ∷ f.content in
    let rest = spelled more in
    append_assoc front crlf ((line ++ crlf) ++ rest)
    ∙ ap (λ x. front ++ 13 ∷ 10 ∷ x) (append_assoc line crlf rest)
    ∙ sym (append_assoc front (crlf ++ line) (crlf ++ rest))
    ∙ sym (append_assoc (front ++ (crlf ++ line)) crlf rest)
    ∙ ap (λ x. (x ++ crlf) ++ rest) (append_assoc f.name (byte ":" ∷ f.content) (crlf ++ line))

-- one field before others
with_field : (f : Field) (octets : List ℕ) → IsField f → Fields octets
    → Fields (field_text f ++ octets)
with_field f octets is others = record {
  fields = f ∷ others.fields;
  whole = ap (λ x. field_text f ++ x) others.whole;
  each = (is, others.each);
}

-- a field, and the lines behind it
fields_from : (f : Field) (lines : List (List ℕ)) → IsField f
    → list_all is_header_line lines ≡ true → list_all may_follow lines ≡ true
    → Fields (field_text f ++ spelled lines)
fields_from f [] is each follow =
    record { fields = f ∷ []; whole = refl; each = (is, tt) }
fields_from f (line ∷ more) is each follow =
    let parts = and_parts (is_header_line line) (list_all is_header_line more) each in
    let plain = (and_parts (is_plain line) (not (is_empty line)) parts.0).0 in
    let may = and_parts (may_follow line) (list_all may_follow more) follow in
    elim (cases_Bool (begins_field line)) [
      | inl begins ↦ subst (λ (x : List ℕ). Fields (field_text f ++ ((x ++ crlf) ++ spelled more)))
          (sym (line_of_field line begins))
          (with_field f (field_text (field_in line) ++ spelled more) is
          (fields_from (field_in line) more (begun_field line plain begins) parts.1 may.1))
      | inr goes ↦ subst Fields (sym (octets_on f line more))
          (fields_from (field_on f line) more (continued_field f line is plain
          (second_of (begins_field line) (continues_field line) goes may.0)) parts.1 may.1)
    ]
  where
    second_of : (a b : Bool) → a ≡ false → (a || b) ≡ true → b ≡ true
    second_of true b e h = absurd (both_ways _ e refl)
    second_of false b e h = h

-- header lines are fields
header_fields : (lines : List (List ℕ)) → list_all is_header_line lines ≡ true
    → are_header_lines lines ≡ true → Fields (spelled lines)
header_fields [] each good = record { fields = []; whole = refl; each = tt }
header_fields (line ∷ more) each good =
    let parts = and_parts (is_header_line line) (list_all is_header_line more) each in
    let plain = (and_parts (is_plain line) (not (is_empty line)) parts.0).0 in
    let begins = and_parts (begins_field line) (list_all may_follow more) good in
    subst (λ (x : List ℕ). Fields ((x ++ crlf) ++ spelled more))
    (sym (line_of_field line begins.0))
    (fields_from (field_in line) more (begun_field line plain begins.0) parts.1 begins.1)

-- a text without a fault of a whole text is laid out
pub each_layout : (text : List ℕ) → has_nul text ≡ false → is_paired text ≡ true
    → has_empty_line text ≡ true → are_header_lines (header_lines text) ≡ true
    → (a : Article) × IsLaidOut text a
each_layout text nul paired blank good =
    let h = headed (length text) 0 text (le_refl (length text)) (λ e. omega (arith, e)) paired blank
    in
    let f = header_fields h.lines h.each
    (subst (λ (lines : List (List ℕ)). are_header_lines lines ≡ true) h.header good) in (
      record { fields = f.fields; body = h.body },
      record {
        without_nul = nul;
        paired = paired;
        spelled = h.whole ∙ ap (λ x. (x ++ crlf) ++ h.body) f.whole;
        each_field = f.each;
      },
    )
