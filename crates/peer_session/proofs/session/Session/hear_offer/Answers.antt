use Rattle.std.proofs.Common.{◌≡◌, ◌∙◌, refl, rules, subst, sym}
use Rattle.id_history.specs.Answers.{offer_view}
use Rattle.id_history.specs.declared.claims.Offer.{Offer}
use Rattle.id_history.specs.declared.claims.Offer.TheVariants as offer_answers
use Rattle.relay_model.specs.Hears.{Heard, offer_heard}
use Rattle.peer_session.specs.Hearing.{HeardIs}
use Rattle.peer_session.specs.Session.{passed, transfer_view}
use Rattle.peer_session.proofs.HearLines.{heard_without, is_wanted}
use Rattle.peer_session.proofs.session.Session.hear_offer.Goals as goal

-- another answer isn't heard
pub returns-in_default : goal.returns-in_default
returns-in_default c = record {
  heard = λ told is owed free ready. absurd (c.in_default.not-Offer told is);
  other = λ other. (c.unheard.ensures, refl);
}

-- one that isn't wanted ends, and leaves the others
pub returns-in_default-told : goal.returns-in_default-told
returns-in_default-told c = record {
  heard = λ told is owed free ready.
      let same : told ≡ c.in-Offer.told = cc in
      subst (λ (heard : Heard). HeardIs c.say-octets.result.items c.args.self.now heard
      (record c.args.self.now { cutter = c.pass.new.self; offers = c.close.new.self }))
      (sym (heard_without c.args.read c.args.self.now c.args.offer.id c.args.offer.since
      (transfer_view c.args.transfer) (offer_view told)
      (λ e. c.in_default-told.not-Wanted (sym same ∙ is_wanted told e))))
      (search rules);
  other = λ other. absurd (other c.in-Offer.told c.in-Offer.is);
}
