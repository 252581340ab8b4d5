use Rattle.std.proofs.Common.{◌+◌, ◌-◌, ◌∙◌, drop, inl, inr, length, refl, sym, take}
use Rattle.std.proofs.lemmas.List.{take_rest}
use Rattle.news_terms.specs.Reply.{BodyFollows, DeviceFault}
use Rattle.article_fetch.proofs.shown.body_reply.Goals as goal

pub returns-in-Some-clause-given : goal.returns-in-Some-clause-given
returns-in-Some-clause-given c =
    let text = c.args.text.now in
    let at = c.in-Some.at + 2 in
    let rest = take (length text - at) (drop at text) in
    let place = c.in-Some.ensures in (
      BodyFollows c.args.id.now rest,
      inr (
        rest,
        λ none. none place.article place.laid_out,
        λ a laid. take_rest text at ∙ sym (place.body a laid),
        refl,
      ),
      c.said.ensures.octets,
      c.said.ensures.some,
    )

pub returns-in-None-clause-given : goal.returns-in-None-clause-given
returns-in-None-clause-given c = (
  DeviceFault,
  inl (c.in-None.ensures, refl),
  c.said-in-None.ensures.octets,
  c.said-in-None.ensures.some,
)
