use Rattle.std.proofs.Common.{◌∷◌, ◌++◌, []}
use Rattle.std.proofs.lemmas.List.{take_rest}
use Rattle.article_parse.specs.Header.{field_view}
use Rattle.article_fetch.proofs.Walks.{field_passed, no_line, no_header, rest_paired}
use Rattle.article_fetch.proofs.EmptyLinePlaces.{place_found}
use Rattle.article_fetch.proofs.layout.header_end.Goals as goal

pub loop-octets-preserved : goal.loop-octets-preserved
loop-octets-preserved c =
    let s = c.args.text.now in
    let l = c.loop-octets in
    let fields = l.invariant.0 in
    let f = field_view c.in-Field.field-0 in (
      fields ++ f ∷ [],
      field_passed s _ fields f l.at c.in-Field.octets (take_rest s l.at) l.invariant.1
          c.in-Field.ensures,
    )

pub returns-in-EmptyLine : goal.returns-in-EmptyLine
returns-in-EmptyLine c =
    let s = c.args.text.now in
    let l = c.loop-octets in
    place_found s _ l.invariant.0 l.at c.requires.nul c.requires.paired (take_rest s l.at)
    l.invariant.1 c.in-EmptyLine.ensures

pub returns-in-NoBlankLine : goal.returns-in-NoBlankLine
returns-in-NoBlankLine c =
    let s = c.args.text.now in
    let l = c.loop-octets in
    no_line s _ l.invariant.0 l.at (take_rest s l.at) l.invariant.1 c.in-NoBlankLine.ensures

pub returns-in-BadHeader : goal.returns-in-BadHeader
returns-in-BadHeader c =
    let s = c.args.text.now in
    let l = c.loop-octets in
    no_header s _ l.invariant.0 l.at (take_rest s l.at) l.invariant.1 c.in-BadHeader.ensures

pub front_of-requires : goal.front_of-requires
front_of-requires c =
    rest_paired c.args.text.now c.loop-octets.invariant.0 c.loop-octets.at c.loop-octets.invariant.1
