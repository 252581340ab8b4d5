use Rattle.std.proofs.Common.{◌+◌, ◌∷◌, ◌++◌, [], ap, drop, length}
use Rattle.std.proofs.lemmas.List.{take_rest}
use Rattle.news_terms.specs.Article.{Article}
use Rattle.article_parse.specs.Header.{field_view}
use Rattle.article_parse.proofs.FieldCuts.{header_ends}
use Rattle.article_parse.proofs.FirstFaults.{laid_out}
use Rattle.article_fetch.proofs.Walks.{field_passed, no_line, no_header, rest_paired}
use Rattle.article_fetch.proofs.finding.read_parts.Goals as goal

pub loop-field-preserved : goal.loop-field-preserved
loop-field-preserved c =
    let s = c.args.text.now in
    let l = c.loop-field in
    let fields = l.invariant.0 in
    let f = field_view c.in-Field.field in (
      fields ++ f ∷ [],
      field_passed s _ fields f l.at c.in-Field.octets (take_rest s l.at) l.invariant.1
          c.in-Field.ensures,
      c.with-found.ensures fields l.invariant.2,
    )

pub returns-in-EmptyLine : goal.returns-in-EmptyLine
returns-in-EmptyLine c =
    let s = c.args.text.now in
    let l = c.loop-field in
    let fields = l.invariant.0 in
    let a : Article = record { fields = fields; body = drop (l.at + 2) s } in
    let header = header_ends s _ fields l.at (take_rest s l.at) l.invariant.1
    c.in-EmptyLine.ensures in
    let laid = laid_out s fields (l.at + 2) c.requires.nul c.requires.paired header in (
      a,
      laid,
      c.parts.ensures a l.invariant.2 (ap length laid.spelled) (take_rest s (l.at + 2)),
    )

pub returns-in-NoBlankLine : goal.returns-in-NoBlankLine
returns-in-NoBlankLine c =
    let s = c.args.text.now in
    let l = c.loop-field in
    no_line s _ l.invariant.0 l.at (take_rest s l.at) l.invariant.1 c.in-NoBlankLine.ensures

pub returns-in-BadHeader : goal.returns-in-BadHeader
returns-in-BadHeader c =
    let s = c.args.text.now in
    let l = c.loop-field in
    no_header s _ l.invariant.0 l.at (take_rest s l.at) l.invariant.1 c.in-BadHeader.ensures

pub front_of-requires : goal.front_of-requires
front_of-requires c =
    rest_paired c.args.text.now c.loop-field.invariant.0 c.loop-field.at c.loop-field.invariant.1
