use Rattle.std.proofs.Common.{◌∙◌, ◌++◌, ap, arith, codes, drop, inl, inr, length, refl}
use Rattle.std.proofs.Math.Seq.{drop-append_seam}
use Rattle.news_terms.specs.Article.{Article, IsLaidOut}
use Rattle.news_terms.specs.Overview.{overview_line}
use Rattle.news_terms.specs.Reply.{DeviceFault, OverviewFollows, line_of}
use Rattle.article_fetch.proofs.Lines.{ok_no_err}
use Rattle.article_fetch.proofs.Overviews.{line_said, no_article_in, rest_fits, some_line}
use Rattle.article_fetch.proofs.shown.overview_reply.Goals as goal

pub put_octets-requires-in-Ok : goal.put_octets-requires-in-Ok
put_octets-requires-in-Ok c =
    let front = c.put_octets.new.room in
    let after = c.put_line.new.room in
    let put = c.in-Ok.ensures in
    let fits = rest_fits front.items after.items c.args.text.now after.cap
    (omega arith)
    (omega (
      arith,
      c.requires.room,
      front.ok,
      ap length c.requires.empty,
      c.args.room.ok,
      c.put_octets.ensures.len,
      c.put_octets.ensures.capacity,
      put.capacity,
    ))
    put.line
    (λ none. ok_no_err _ _ (put.no_article.1 none)) in
    omega (arith, fits, after.ok)

pub returns-in-Ok-clause-given : goal.returns-in-Ok-clause-given
returns-in-Ok-clause-given c =
    let front = c.put_octets.new.room.items in
    let after = c.put_line.new.room.items in
    let put = c.in-Ok.ensures in
    let line = drop (length front) after in
    let some : ((a : Article) → IsLaidOut c.args.text.now a → ⊥) → ⊥ =
    λ none. ok_no_err _ _ (put.no_article.1 none) in (
      OverviewFollows line,
      inr (
        line,
        some,
        λ a laid. ap (drop (length front)) (put.line a laid)
            ∙ drop-append_seam front (overview_line a),
        refl,
      ),
      line_said front line after c.put_octets-in-Ok.new.room.items
          (c.put_octets.ensures.items
          ∙ ap (λ l. l ++ line_of (codes "224 Overview follows")) c.requires.empty)
          (some_line front after c.args.text.now put.line some)
          c.put_octets-in-Ok.ensures.items,
      omega (arith, c.put_octets-in-Ok.ensures.len, c.put_octets-in-Ok.new.room.ok),
    )

pub returns-in-Err-clause-given : goal.returns-in-Err-clause-given
returns-in-Err-clause-given c =
    let front = c.put_octets.new.room in
    let put = c.in-Err.ensures in (
      DeviceFault,
      inl (
        no_article_in _ c.in-Err.field-0 refl put.no_article.0
            (λ is. let room = put.no_room.0 is in
            omega (
              arith,
              room.2,
              c.requires.room,
              front.ok,
              ap length c.requires.empty,
              c.args.room.ok,
              c.put_octets.ensures.len,
              c.put_octets.ensures.capacity,
            )),
        refl,
      ),
      c.said.ensures.octets,
      c.said.ensures.some,
    )

pub returns-in-Ok-clause-octets : goal.returns-in-Ok-clause-octets
returns-in-Ok-clause-octets c = λ a laid.
    line_said c.put_octets.new.room.items (overview_line a) c.put_line.new.room.items
    c.put_octets-in-Ok.new.room.items
    (c.put_octets.ensures.items
    ∙ ap (λ l. l ++ line_of (codes "224 Overview follows")) c.requires.empty)
    (c.in-Ok.ensures.line a laid)
    c.put_octets-in-Ok.ensures.items
