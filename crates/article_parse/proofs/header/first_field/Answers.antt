use Rattle.std.proofs.Common.{◌+◌, ◌-◌, sym, subst, List, ℕ, arith, take}
use Rattle.std.proofs.lemmas.List.{take_rest}
use Rattle.article_parse.specs.Header.{IsLineCut}
use Rattle.article_parse.proofs.HeaderCuts.{line_length}
use Rattle.article_parse.proofs.FieldCuts.{no_field, line_behind, colon_within, field_lost}
use Rattle.article_parse.proofs.FieldCuts.{field_sliced}
use Rattle.article_parse.proofs.header.first_field.Goals as goal

pub returns-then-not-begins_field : goal.returns-then-not-begins_field
returns-then-not-begins_field c =
    no_field c.args.text.now c.args.first c.requires.cut c.requires.some
    (sym c.if-not-begins_field.ensures)

pub overflow_sub-first : goal.overflow_sub-first
overflow_sub-first c =
    let s = c.args.text.now in
    let first = c.args.first in
    let within = colon_within (take first s) c.colon_place-colon.result
    c.colon_place-colon.ensures.value c.colon_place-colon.ensures.within
    (sym c.if-not-begins_field.ensures) in
    omega (arith, within, line_length s first c.requires.cut)

pub content_end-requires : goal.content_end-requires
content_end-requires c =
    let s = c.args.text.now in
    let n = c.colon_place-colon.result in
    subst (λ (x : List ℕ). IsLineCut x (c.args.first - (n + 1))) (sym (take_rest s (n + 1)))
    (line_behind s c.args.first (n + 1) c.requires.cut (overflow_sub-first c))

pub returns-in_default : goal.returns-in_default
returns-in_default c =
    let s = c.args.text.now in
    let n = c.colon_place-colon.result in
    let first = c.args.first in
    let within = colon_within (take first s) n
    c.colon_place-colon.ensures.value c.colon_place-colon.ensures.within
    (sym c.if-not-begins_field.ensures) in
    field_lost s _ first n (take_rest s (n + 1)) c.requires.cut c.requires.some
    (omega (arith, within, line_length s first c.requires.cut)) c.in_default.ensures

pub returns : goal.returns
returns c =
    let s = c.args.text.now in
    let n = c.colon_place-colon.result in
    field_sliced s _ c.args.first n c.in-Some.end
    (take_rest s (n + 1)) c.requires.cut c.requires.some
    c.colon_place-colon.ensures.value c.colon_place-colon.ensures.within
    (sym c.if-not-begins_field.ensures) c.in-Some.ensures
