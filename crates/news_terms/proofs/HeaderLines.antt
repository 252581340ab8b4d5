-- A text that is laid out as an article has none of the faults of a whole text.
use Rattle.std.proofs.Common.{◌≡◌, ◌≢◌, ℕ, ◌+◌, ◌<◌, Bool, true, false, not, ◌||◌, List, [], ◌∷◌}
use Rattle.std.proofs.Common.{◌++◌, length, take, drop, refl, sym, ap, subst, ◌∙◌, inl, inr}
use Rattle.std.proofs.Common.{append_assoc, arith}
use Rattle.std.specs.Prelude.{◌==◌, IsTrue, IsFalse, flat_map}
use Rattle.std.specs.Bool.{beq}
use Rattle.std.specs.List.{AllByRecursion, list_all, list_any, onto_first, position_or_len}
use Rattle.std.specs.List.{before_first, after_first, take_while}
use Rattle.std.specs.Str.{byte}
use Rattle.std.proofs.lemmas.Bool.{and_parts, and_from, or_left, or_right, eqb-true, eq-eqb, ne_eqb}
use Rattle.std.proofs.lemmas.Bool.{both_ways, cases_eq}
use Rattle.std.proofs.Math.Seq.{take-append_seam, drop-append-add}
use Rattle.std.proofs.lemmas.List.Folds.{list_any-append}
use Rattle.std.proofs.lemmas.List.Sums.{take_while-cons}
use Rattle.news_terms.specs.Article.{Field, field_text, line_feed, carriage_return, space}
use Rattle.news_terms.specs.Lines.{crlf}
use Rattle.news_terms.specs.Article.{is_white, is_empty, is_folded, is_set_off, is_name_octet}
use Rattle.news_terms.specs.Article.{is_field_name, is_paired_after, IsField, HasEmptyLine}
use Rattle.news_terms.specs.Article.{continues_field, begins_field, text_lines, header_lines}
use Rattle.news_terms.specs.Article.{are_header_lines}
use Rattle.news_terms.proofs.ArticleReadings.{header_parts, white_behind, no_end, no_colon}
use Rattle.news_terms.proofs.ArticleReadings.{graphic_above, is_folded-tail}
use Rattle.news_terms.proofs.EmptyLines.{regrouped}

-- an article's text has an empty line
pub has_line : (fields : List Field) (body : List ℕ)
    → HasEmptyLine (flat_map field_text fields ++ crlf ++ body)
has_line [] body = ([], body, refl)
has_line (f ∷ fields) body =
    let later = has_line fields body in
    let rest = flat_map field_text fields ++ crlf ++ body in
    let front : List ℕ = crlf ++ (f.name ++ byte ":" ∷ f.content) in
    let named : (f.name ++ byte ":" ∷ f.content) ++ (crlf ++ rest)
    ≡ f.name ++ byte ":" ∷ (f.content ++ (crlf ++ rest)) =
    append_assoc f.name (byte ":" ∷ f.content) (crlf ++ rest) in
    let whole : crlf ++ (flat_map field_text (f ∷ fields) ++ crlf ++ body)
    ≡ front ++ (crlf ++ rest) =
    ap (λ x. crlf ++ x) (header_parts f fields body ∙ sym named) in (
      front ++ later.0,
      later.1,
      whole
          ∙ ap (λ x. front ++ x) (later.2 ∙ regrouped later.0 later.1)
          ∙ sym (append_assoc front later.0 ((crlf ++ crlf) ++ later.1))
          ∙ sym (regrouped (front ++ later.0) later.1),
    )

-- behind an octet that is no part of a line end, the first line is longer by it
lines_on : (c : ℕ) (rest first : List ℕ) (more : List (List ℕ)) → c ≢ carriage_return
    → c ≢ line_feed
    → text_lines rest ≡ first ∷ more → text_lines (c ∷ rest) ≡ (c ∷ first) ∷ more
lines_on c rest first more no_cr no_lf e =
    rw (ne_eqb c line_feed no_lf, ne_eqb c carriage_return no_cr) (ap (onto_first c) e)

-- line ends in pairs are in pairs behind any octet
pub paired-tail : (before c : ℕ) (x y : List ℕ) → IsTrue (is_paired_after before (x ++ c ∷ y))
    → IsTrue (is_paired_after c y)
paired-tail before c [] y h = (and_parts _ _ h).1
paired-tail before c (d ∷ x) y h = paired-tail d c x y (and_parts _ _ h).1

-- behind an octet other than CR comes no LF
pub no_line_feed : (before c : ℕ) (rest : List ℕ) → before ≢ carriage_return
    → IsTrue (is_paired_after before (c ∷ rest)) → c ≢ line_feed
no_line_feed before c rest no_cr h e =
    let b : beq (before == carriage_return) (c == line_feed) ≡ true = (and_parts _ _ h).0 in
    absurd (both_ways _ refl (rw (ne_eqb before carriage_return no_cr, eq-eqb c line_feed e) at b))

-- what is the same as true is true
same_as_true : (b : Bool) → beq true b ≡ true → b ≡ true
same_as_true true h = refl
same_as_true false h = h

-- behind CR comes LF
pub then_line_feed : (before c : ℕ) (rest : List ℕ) → before ≡ carriage_return
    → IsTrue (is_paired_after before (c ∷ rest)) → c ≡ line_feed
then_line_feed before c rest is_cr h =
    let b : beq (before == carriage_return) (c == line_feed) ≡ true = (and_parts _ _ h).0 in
    eqb-true c line_feed (same_as_true _ (rw (eq-eqb before carriage_return is_cr) at b))

-- what the lines of a content are: what ends its first line, and lines that continue it
record ContentLines (content rest : List ℕ) : Type 0 where
  first : List ℕ
  further : List (List ℕ)
  cut : text_lines (content ++ carriage_return ∷ line_feed ∷ rest)
      ≡ first ∷ (further ++ text_lines rest)
  continue : IsTrue (list_all continues_field further)
  set_off : IsTrue (is_set_off content) → IsTrue (is_set_off first)

-- an SP or TAB is no CR
white_not_cr : (c : ℕ) → IsTrue (is_white c) → c ≢ carriage_return
white_not_cr c w e = both_ways _ (subst (λ x. IsFalse (is_white x)) (sym e) refl) w

-- an octet that is no part of a line end stands in the first line
longer : (c : ℕ) (content rest : List ℕ) → c ≢ carriage_return → c ≢ line_feed
    → ContentLines content rest → ContentLines (c ∷ content) rest
longer c content rest no_cr no_lf l = record {
  first = c ∷ l.first;
  further = l.further;
  cut = lines_on c (content ++ carriage_return ∷ line_feed ∷ rest) l.first
      (l.further ++ text_lines rest) no_cr no_lf l.cut;
  continue = l.continue;
  set_off = λ h. h;
}

-- the lines of a content
content_lines : (before : ℕ) (content rest : List ℕ) → before ≢ carriage_return
    → IsTrue (is_paired_after before (content ++ carriage_return ∷ line_feed ∷ rest))
    → IsTrue (is_folded content) → ContentLines content rest
content_lines before [] rest no_cr paired folded =
    record { first = []; further = []; cut = refl; continue = refl; set_off = λ _. refl }
content_lines before (c ∷ []) rest no_cr paired folded =
    let no_lf = no_line_feed before c (carriage_return ∷ line_feed ∷ rest) no_cr paired in
    let later = (and_parts (beq (before == carriage_return) (c == line_feed))
    (is_paired_after c (carriage_return ∷ line_feed ∷ rest)) paired).1 in
    elim (cases_eq c carriage_return) [
      | inl e ↦ let same : carriage_return ≡ line_feed =
          then_line_feed c carriage_return (line_feed ∷ rest) e later in absurd (omega arith)
      | inr n ↦ longer c [] rest n no_lf (content_lines c [] rest n later refl)
    ]
content_lines before (c ∷ d ∷ []) rest no_cr paired folded =
    let no_lf = no_line_feed before c (d ∷ carriage_return ∷ line_feed ∷ rest) no_cr paired in
    let later = (and_parts (beq (before == carriage_return) (c == line_feed))
    (is_paired_after c (d ∷ carriage_return ∷ line_feed ∷ rest)) paired).1 in
    elim (cases_eq c carriage_return) [
      | inl e ↦ absurd (no_end d (is_folded-tail c (d ∷ []) folded)
          (then_line_feed c d (carriage_return ∷ line_feed ∷ rest) e later))
      | inr n ↦ longer c (d ∷ []) rest n no_lf
          (content_lines c (d ∷ []) rest n later (is_folded-tail c (d ∷ []) folded))
    ]
content_lines before (c ∷ d ∷ w ∷ content) rest no_cr paired folded =
    let tail = content ++ carriage_return ∷ line_feed ∷ rest in
    let no_lf = no_line_feed before c (d ∷ w ∷ tail) no_cr paired in
    let later = (and_parts (beq (before == carriage_return) (c == line_feed))
    (is_paired_after c (d ∷ w ∷ tail)) paired).1 in
    elim (cases_eq c carriage_return) [
      | inl e ↦
          let is_lf : d ≡ line_feed = then_line_feed c d (w ∷ tail) e later in
          let white = white_behind d w content (is_folded-tail c (d ∷ w ∷ content) folded) is_lf in
          let no_cr' = white_not_cr w white in
          let no_lf' : w ≢ line_feed =
          λ x. both_ways _ (subst (λ y. IsFalse (is_white y)) (sym x) refl) white in
          let after = paired-tail c w (d ∷ []) tail later in
          let folded' = is_folded-tail w content
          (is_folded-tail d (w ∷ content) (is_folded-tail c (d ∷ w ∷ content) folded)) in
          let l = content_lines w content rest no_cr' after folded' in
          let cut = lines_on w tail l.first (l.further ++ text_lines rest) no_cr' no_lf' l.cut in
          record {
            first = [];
            further = (w ∷ l.first) ∷ l.further;
            cut = ap (λ x. text_lines (x ∷ d ∷ w ∷ tail)) e
                ∙ ap (λ x. text_lines (carriage_return ∷ x ∷ w ∷ tail)) is_lf
                ∙ ap (λ x. [] ∷ x) cut;
            continue = and_from _ _ white l.continue;
            set_off = λ _. refl;
          }
      | inr n ↦ longer c (d ∷ w ∷ content) rest n no_lf
          (content_lines c (d ∷ w ∷ content) rest n later
          (is_folded-tail c (d ∷ w ∷ content) folded))
    ]

-- a name stands in the first line
name_on : (name rest first : List ℕ) (more : List (List ℕ)) → IsTrue (list_all is_name_octet name)
    → text_lines rest ≡ first ∷ more → text_lines (name ++ rest) ≡ (name ++ first) ∷ more
name_on [] rest first more h e = e
name_on (c ∷ name) rest first more h e =
    let octet = (and_parts _ _ (and_parts (is_name_octet c) (list_all is_name_octet name) h).0).0 in
    let above : space < c = graphic_above c octet in
    let no_cr : c ≢ carriage_return = λ x. omega (arith, x, above) in
    let no_lf : c ≢ line_feed = λ x. omega (arith, x, above) in
    lines_on c (name ++ rest) (name ++ first) more no_cr no_lf
    (name_on name rest first more (and_parts (is_name_octet c) (list_all is_name_octet name) h).1 e)

-- a name ends at the first colon behind it
colon_at : (name rest : List ℕ) → IsTrue (list_all is_name_octet name)
    → position_or_len (λ c. c == byte ":") (name ++ byte ":" ∷ rest) ≡ length name
colon_at [] rest h = refl
colon_at (c ∷ name) rest h =
    let h' = and_parts (is_name_octet c) (list_all is_name_octet name) h in
    rw (ne_eqb c (byte ":") (no_colon c h'.0))
    (ap (λ n. 1 + n) (colon_at name rest h'.1) ∙ omega arith)

-- the first line of a field begins a field
field_begins : (name first : List ℕ) → IsTrue (is_field_name name) → IsTrue (is_set_off first)
    → IsTrue (begins_field (name ++ byte ":" ∷ first))
field_begins name first named set_off =
    let at = colon_at name first (and_parts _ _ named).1 in
    let before : before_first (λ c. c == byte ":") (name ++ byte ":" ∷ first) ≡ name =
    ap (λ n. take n (name ++ byte ":" ∷ first)) at ∙ take-append_seam name (byte ":" ∷ first) in
    let after : after_first (λ c. c == byte ":") (name ++ byte ":" ∷ first) ≡ first =
    ap (λ n. drop (n + 1) (name ++ byte ":" ∷ first)) at
    ∙ drop-append-add name (byte ":" ∷ first) 1 in
    let there : list_any (λ c. c == byte ":") (name ++ byte ":" ∷ first) ≡ true =
    list_any-append (λ c. c == byte ":") name (byte ":" ∷ first) ∙ or_right _ _ refl in
    and_from _ _ (and_from _ _ (subst (λ x. IsTrue (is_field_name x)) (sym before) named) there)
    (subst (λ x. IsTrue (is_set_off x)) (sym after) set_off)

-- a line that begins a field or continues one
abbrev may_follow : List ℕ → Bool
may_follow line = begins_field line || continues_field line

-- lines of a header may follow other ones
all_follow : (lines : List (List ℕ)) → IsTrue (are_header_lines lines)
    → IsTrue (list_all may_follow lines)
all_follow [] h = refl
all_follow (line ∷ more) h =
    let h' = and_parts (begins_field line) (list_all may_follow more) h in
    and_from _ _ (or_left _ _ h'.0) h'.1

-- the lines before the first empty one
abbrev before_empty : List (List ℕ) → List (List ℕ)
before_empty lines = take_while (λ line. not (is_empty line)) lines

-- a line with something in it stands before the first empty one, and then those behind it
goes_on : (line : List ℕ) (more : List (List ℕ)) → IsFalse (is_empty line)
    → before_empty (line ∷ more) ≡ line ∷ before_empty more
goes_on line more h =
    take_while-cons (λ x. not (is_empty x)) line more ∙ rw h refl

-- a line that begins a field has something in it
begins_with : (line : List ℕ) → IsTrue (begins_field line) → IsFalse (is_empty line)
begins_with [] h = absurd (both_ways _ refl h)
begins_with (c ∷ line) h = refl

-- lines that continue a field, and header lines behind them, may follow other ones
continued_follow : (further more : List (List ℕ)) → IsTrue (list_all continues_field further)
    → IsTrue (list_all may_follow (before_empty more))
    → IsTrue (list_all may_follow (before_empty (further ++ more)))
continued_follow [] more h k = k
continued_follow ([] ∷ further) more h k = absurd (both_ways _ refl h)
continued_follow ((c ∷ line) ∷ further) more h k =
    let h' = and_parts (is_white c) (list_all continues_field further) h in
    let later = continued_follow further more h'.1 k in
    subst (λ (x : List (List ℕ)). IsTrue (list_all may_follow x))
    (sym (goes_on (c ∷ line) (further ++ more) refl))
    (and_from _ _ (or_right (begins_field (c ∷ line)) (is_white c) h'.0) later)

-- the lines before the empty line of an article begin fields and continue them
pub header_is_good : (before : ℕ) (fields : List Field) (body : List ℕ) → before ≢ carriage_return
    → AllByRecursion IsField fields
    → IsTrue (is_paired_after before (flat_map field_text fields ++ crlf ++ body))
    → IsTrue (are_header_lines (header_lines (flat_map field_text fields ++ crlf ++ body)))
header_is_good before [] body no_cr h paired = refl
header_is_good before (f ∷ fields) body no_cr h paired =
    let rest = flat_map field_text fields ++ crlf ++ body in
    let content = f.content ++ carriage_return ∷ line_feed ∷ rest in
    let whole = header_parts f fields body in
    let paired' = subst (λ (x : List ℕ). IsTrue (is_paired_after before x)) whole paired in
    let inside = paired-tail before (byte ":") f.name content paired' in
    let no_cr' : byte ":" ≢ carriage_return = λ e. omega (arith, e) in
    let no_lf' : byte ":" ≢ line_feed = λ e. omega (arith, e) in
    let l = content_lines (byte ":") f.content rest no_cr' inside h.0.folded in
    let behind = (and_parts (beq (carriage_return == carriage_return) (line_feed == line_feed))
    (is_paired_after line_feed rest)
    (paired-tail (byte ":") carriage_return f.content (line_feed ∷ rest) inside)).1 in
    let others = header_is_good line_feed fields body (λ e. omega (arith, e)) h.1 behind in
    let line = f.name ++ byte ":" ∷ l.first in
    let more = l.further ++ text_lines rest in
    let cut : text_lines (flat_map field_text (f ∷ fields) ++ crlf ++ body) ≡ line ∷ more =
    ap text_lines whole
    ∙ name_on f.name (byte ":" ∷ content) (byte ":" ∷ l.first) more (and_parts _ _ h.0.named).1
    (lines_on (byte ":") content l.first more no_cr' no_lf' l.cut) in
    let begins = field_begins f.name l.first h.0.named (l.set_off h.0.set_off) in
    subst (λ (x : List (List ℕ)). IsTrue (are_header_lines x))
    (sym (ap before_empty cut ∙ goes_on line more (begins_with line begins)))
    (and_from _ _ begins (continued_follow l.further (text_lines rest) l.continue
    (all_follow (header_lines rest) others)))
