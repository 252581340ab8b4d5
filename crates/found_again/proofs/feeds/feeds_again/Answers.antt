use Rattle.std.proofs.Common.{◌∙◌}
use Rattle.relay_model.specs.Crash.{accepted_again}
use Rattle.found_again.specs.Filling.{IsTokenThere}
use Rattle.found_again.specs.declared.text.FoundText.{FoundText}
use Rattle.found_again.proofs.BackLemmas.{front_before, there_last}
use Rattle.found_again.proofs.LeftLemmas.{all_gained, gains_back}
use Rattle.found_again.proofs.LeftLemmas.{all_few, all_hold, are_left, as_many}
use Rattle.found_again.proofs.feeds.feeds_again.Goals as goal

-- the feeds have gained one text more
pub loop-text-preserved : goal.loop-text-preserved
loop-text-preserved c =
    let texts = c.args.texts.now in
    let left = c.loop-text.left.now in
    let older = c.in-Some.older.now in
    let text = c.in-Some.text.now in
    let front = c.loop-text.invariant.front in
    let split = c.in-Some.ensures.cases.0 in
    record {
      front = front_before texts left older text front split;
      sizes = c.in_ok-gain_text.ensures.sizes ∙ c.loop-text.invariant.sizes;
      fill = λ w again are rings.
          gains_back w texts left older text c.loop-text.fillings.rings.items
          c.gain_text.new.self.rings.items front split
          (λ more zip. c.loop-text.invariant.fill w more zip rings)
          (λ one later is fill. c.in_ok-gain_text.ensures.fill w one later is fill) again are;
      there = λ buffers all. c.in_ok-gain_text.ensures.there buffers
          (there_last (λ (one : FoundText). IsTokenThere buffers one.token) texts left older text
          front split all)
          (c.loop-text.invariant.there buffers all);
    }

-- all have been gained
pub returns-clause-left : goal.returns-clause-left
returns-clause-left c w again are rings =
    are_left w c.loop-text.fillings.rings.items _ c.args.sizes.now (accepted_again w again)
    c.in_ok-feeds.ensures rings
    (all_gained w c.args.texts.now c.loop-text.left.now c.loop-text.fillings.rings.items
    c.in_default.ensures.cases
    (λ more zip. c.loop-text.invariant.fill w more zip rings) again are)

-- what is left fits the setting
pub returns-clause-holds : goal.returns-clause-holds
returns-clause-holds c buffers all =
    all_hold buffers c.loop-text.fillings.rings.items _ c.args.sizes.now c.in_ok-feeds.ensures
    c.loop-text.invariant.sizes (c.loop-text.invariant.there buffers all)

pub returns-clause-count : goal.returns-clause-count
returns-clause-count c =
    as_many c.loop-text.fillings.rings.items c.in_ok-feeds.feeds.items c.args.sizes.now
    c.in_ok-feeds.ensures c.loop-text.invariant.sizes

pub returns-clause-room : goal.returns-clause-room
returns-clause-room c =
    all_few c.loop-text.fillings.rings.items c.in_ok-feeds.feeds.items c.in_ok-feeds.ensures
