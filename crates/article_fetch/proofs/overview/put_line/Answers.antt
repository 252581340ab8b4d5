use Rattle.std.proofs.Common.{◌<◌, ◌^◌, ◌++◌, ◌∙◌, ap, arith, refl, length, List, ℕ}
use Rattle.news_terms.specs.Article.{Article, article_text}
use Rattle.news_terms.specs.Overview.{overview_line}
use Rattle.news_terms.proofs.ArticleReadings.{one_article}
use Rattle.article_fetch.proofs.Lines.{line_fits, not_less, ok_no_err, same_line}
use Rattle.article_fetch.proofs.overview.put_line.Goals as goal

pub put_parts-requires : goal.put_parts-requires
put_parts-requires c =
    let made = c.in-Some.ensures in
    let a = made.0 in
    let room = c.if-not-has_room.ensures.0 refl in
    let small : length (article_text a) < 2 ^ 64 = omega (arith, ap length made.1.spelled) in
    omega (
      arith,
      room,
      line_fits c.in-Some.parts a c.header_octets.result made.2 small c.header_octets.ensures,
    )

pub returns-clause-line : goal.returns-clause-line
returns-clause-line c = λ a laid.
    let made = c.in-Some.ensures in
    c.put_parts.ensures.items
    ∙ ap (λ (x : List ℕ). c.args.room.now.items ++ x) (same_line c.in-Some.parts made.0 made.2)
    ∙ ap (λ (x : Article). c.args.room.now.items ++ overview_line x)
    (one_article c.args.text.now made.0 a made.1 laid)

pub returns-clause-no_room : goal.returns-clause-no_room
returns-clause-no_room c = (
  λ e. absurd (ok_no_err _ _ e),
  λ w. let made = c.in-Some.ensures in
      let room = c.if-not-has_room.ensures.0 refl in
      let same = one_article c.args.text.now w.0 made.0 w.1 made.1 in
      absurd (omega (
        arith,
        room,
        w.2,
        ap (λ (x : Article). length x.body) same,
        ap length made.1.spelled,
        ap length made.2.body,
        made.2.octets,
        c.header_octets.ensures,
      )),
)

pub returns-then-not-has_room-clause-no_room : goal.returns-then-not-has_room-clause-no_room
returns-then-not-has_room-clause-no_room c = (
  λ e. let made = c.in-Some.ensures in (
    made.0,
    made.1,
    not_less _ _ (λ enough. c.if-not-has_room.ensures.1 (omega (
      arith,
      enough,
      ap length made.1.spelled,
      ap length made.2.body,
      made.2.octets,
      c.header_octets.ensures,
      c.capacity.ensures,
      c.len.ensures,
    ))),
  ),
  λ w. refl,
)
