use Rattle.std.proofs.Common.{◌<◌, ◌^◌, arith, length}
use Rattle.news_terms.specs.Article.{article_text}
use Rattle.article_parse.specs.Article.{article_view}
use Rattle.article_fetch.proofs.Lines.{line_fits}
use Rattle.article_fetch.proofs.overview.line.Goals as goal

pub put_parts-requires : goal.put_parts-requires
put_parts-requires c =
    let a = article_view c.args.article.now in
    let parts = c.parts_of-parts.result in
    let small : length (article_text a) < 2 ^ 64 = omega (arith, c.parts_of-parts.ensures.octets) in
    let fits = line_fits parts a c.header_octets.result c.parts_of-parts.ensures small
    c.header_octets.ensures in
    omega (arith, fits, c.in_ok-room.ensures.exact, c.in_ok-room.ensures.len, c.in-Some.ensures)
