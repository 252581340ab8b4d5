use Rattle.std.proofs.Common.{inl, inr, refl, sym, take}
use Rattle.news_terms.specs.Reply.{DeviceFault, HeaderFollows}
use Rattle.article_fetch.proofs.shown.header_reply.Goals as goal

pub returns-in-Some-clause-given : goal.returns-in-Some-clause-given
returns-in-Some-clause-given c =
    let front = take c.in-Some.at c.args.text.now in
    let place = c.in-Some.ensures in (
      HeaderFollows c.args.id.now front,
      inr (
        front,
        λ none. none place.article place.laid_out,
        λ a laid. sym (place.header a laid),
        refl,
      ),
      c.said.ensures.octets,
      c.said.ensures.some,
    )

pub returns-in-None-clause-given : goal.returns-in-None-clause-given
returns-in-None-clause-given c = (
  DeviceFault,
  inl (c.in-None.ensures, refl),
  c.said-in-None.ensures.octets,
  c.said-in-None.ensures.some,
)
