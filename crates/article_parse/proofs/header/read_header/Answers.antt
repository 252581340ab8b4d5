-- Each field stands behind those before it.
use Rattle.std.proofs.Common.{◌≡◌, ◌∙◌, ◌++◌, ◌∷◌, [], ◌+◌, ◌-◌, ◌<◌, ◌≤◌, ℕ, List, sym, ap, subst}
use Rattle.std.proofs.Common.{arith, false, length, Result, Ok, Err}
use Rattle.std.specs.Prelude.{map, IsTrue, if◌then◌else◌}
use Rattle.std.specs.Result.{is_err, is_ok}
use Rattle.std.proofs.lemmas.Bool.{true≢false}
use Rattle.std.proofs.lemmas.List.{map-append, take_rest}
use Rattle.news_terms.specs.Article.{are_header_lines, has_empty_line, header_lines, is_paired}
use Rattle.news_terms.specs.Article as terms
use Rattle.article_parse.specs.Header.{AreFieldsTo, field_view}
use Rattle.article_parse.specs.declared.header.Field.{Field}
use Rattle.article_parse.proofs.FieldCuts.{header_ends, no_fields, one_more_field}
use Rattle.article_parse.proofs.header.read_header.Goals as goal

-- what is added where there is no error
added : {T E : Type 0} (r : Result T E) (new longer old : List Field) → is_err r ≡ false
    → new ≡ (if is_ok r then longer else old) → new ≡ longer
added (Ok x) new longer old none e = e
added (Err y) new longer old none e = absurd (true≢false none)

less_left : (at more len : ℕ) → 0 < more → at + more ≤ len → len - (at + more) < len - at
less_left at more len some fits = omega (arith, some, fits)

pub loop-field-init : goal.loop-field-init
loop-field-init c =
    subst (λ (fields : List Field). AreFieldsTo c.args.text.now (map field_view fields) 0)
    (sym c.new-fields.ensures.items) (no_fields c.args.text.now c.requires)

pub front_of-requires : goal.front_of-requires
front_of-requires c =
    subst (λ (x : List ℕ). IsTrue (is_paired x))
    (sym (take_rest c.args.text.now c.loop-field.at)) c.loop-field.invariant.paired

pub loop-field-smaller : goal.loop-field-smaller
loop-field-smaller c =
    let s = c.args.text.now in
    let l = c.loop-field in
    let read = one_more_field s _ (map field_view l.fields.items) (field_view c.in-Field.field) l.at
    c.in-Field.octets (take_rest s l.at) l.invariant c.in-Field.ensures in
    less_left l.at c.in-Field.octets (length s) c.in-Field.ensures.some read.within

pub loop-field-preserved : goal.loop-field-preserved
loop-field-preserved c =
    let s = c.args.text.now in
    let l = c.loop-field in
    let field = c.in-Field.field in
    let at = l.at + c.in-Field.octets in
    let pushed : c.push.new.self.items ≡ l.fields.items ++ field ∷ [] =
    added c.push.result c.push.new.self.items (l.fields.items ++ field ∷ []) l.fields.items
    (sym c.is_err.ensures.value ∙ c.if-is_err.false) c.push.ensures.items in
    subst (λ (fields : List terms.Field). AreFieldsTo s fields at)
    (sym (ap (map field_view) pushed ∙ map-append field_view l.fields.items (field ∷ [])))
    (one_more_field s _ (map field_view l.fields.items) (field_view field) l.at c.in-Field.octets
    (take_rest s l.at) l.invariant c.in-Field.ensures)

pub returns-in-EmptyLine : goal.returns-in-EmptyLine
returns-in-EmptyLine c =
    let s = c.args.text.now in
    let l = c.loop-field in
    header_ends s _ (map field_view l.fields.items) l.at (take_rest s l.at) l.invariant
    c.in-EmptyLine.ensures

pub returns-in-NoBlankLine : goal.returns-in-NoBlankLine
returns-in-NoBlankLine c =
    c.loop-field.invariant.empty
    ∙ ap has_empty_line (sym (take_rest c.args.text.now c.loop-field.at))
    ∙ c.in-NoBlankLine.ensures

pub returns-in-BadHeader : goal.returns-in-BadHeader
returns-in-BadHeader c =
    c.loop-field.invariant.good
    ∙ ap (λ x. are_header_lines (header_lines x))
    (sym (take_rest c.args.text.now c.loop-field.at))
    ∙ c.in-BadHeader.ensures
