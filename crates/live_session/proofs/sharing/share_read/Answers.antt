use Rattle.std.proofs.Common.{refl, subst}
use Rattle.std.proofs.lemmas.Option.{same_Some}
use Rattle.live_session.proofs.Differs.{chunk-memory}
use Rattle.live_session.proofs.Sharings.{was_read}
use Rattle.live_session.proofs.sharing.share_read.Goals as goal
use Rattle.live_session.specs.Going.{IsReadAt}

pub returns : goal.returns
returns g c =
    let live = c.args.live.now in
    let new = record live { reads = c.read.new.reads } in
    record {
      seat = c.requires.seat;
      place = record { number = refl; end_is = refl };
      shared = λ w. was_read w live c.args.token.now c.args.k c.read.result new
          (record { session = refl; hands = refl; place = record { number = refl; end_is = refl } })
          c.read.ensures.reads;
      reads = λ k is. subst (λ n. ∥ IsReadAt n live.reads.shown new.reads.shown c.read.result ∥₁)
          (same_Some c.args.k k is) c.read.ensures.cause;
      slot = tt;
      push = tt;
      memory = λ is. absurd (chunk-memory c.read.result is);
    }
