use Rattle.std.proofs.Common.{◌∙◌, ◌∷◌, arith, subst, sym, take}
use Rattle.std.specs.Prelude.{filter}
use Rattle.std.proofs.Math.ListN.{get_or}
use Rattle.std.proofs.lemmas.List.{get_or_default, take_all, take_more}
use Rattle.cyc_token.specs.Token.{token_view}
use Rattle.relay_model.specs.Crash.{has_room}
use Rattle.found_again.specs.Filling.{FillEach}
use Rattle.found_again.proofs.FillLemmas.{new_number}
use Rattle.found_again.proofs.feeds.Fillings.gain_all.Goals as goal

-- one feed more has gained the token
pub loop-feed-preserved : goal.loop-feed-preserved
loop-feed-preserved c =
    let feeds = c.args.feeds.now in
    let n = c.loop-feed.feed-index in
    record {
      sizes = c.in_ok-gain_one.ensures.sizes ∙ c.loop-feed.invariant.sizes;
      fill = λ w later once fill.
          subst (λ xs. FillEach w c.gain_one.new.self.rings.items
          ((token_view c.args.token, filter (has_room w later) xs) ∷ later))
          (sym (take_more feeds n 0 (omega arith)))
          (c.in_ok-gain_one.ensures.fill w later (take n feeds)
          (new_number feeds n (get_or feeds n 0) once (omega arith)
          (get_or_default feeds n 0 (get_or feeds n 0) (omega arith)))
          (c.loop-feed.invariant.fill w later once fill));
      there = λ buffers is all. c.in_ok-gain_one.ensures.there buffers is
          (c.loop-feed.invariant.there buffers is all);
    }

-- all have
pub returns-clause-fill : goal.returns-clause-fill
returns-clause-fill c w later once fill =
    subst (λ xs. FillEach w c.loop-feed.self.rings.items
    ((token_view c.args.token, filter (has_room w later) xs) ∷ later))
    (take_all c.loop-feed.feed-index c.args.feeds.now (omega arith))
    (c.loop-feed.invariant.fill w later once fill)
