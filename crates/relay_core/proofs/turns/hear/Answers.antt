use Rattle.std.proofs.Common.{List, ℕ, ap, refl, sym, ◌∙◌}
use Rattle.peer_session.specs.Session.{has_parted}
use Rattle.std.specs.Prelude.{option_map}
use Rattle.article_verdict.specs.Verdict.{reason_view}
use Rattle.relay_model.specs.World as world
use Rattle.relay_model.specs.World.{spoken}
use Rattle.relay_core.proofs.Hearing.{ended, quiet, sent, told_other, voiced}
use Rattle.relay_core.proofs.Refusing.{never_refuses, spoken_is_said}
use Rattle.relay_core.specs.declared.event.Output.TheVariants as outputs
use Rattle.relay_core.proofs.turns.hear.Goals as goal

-- want of memory is told as it is
pub returns-in-Memory : goal.returns-in-Memory
returns-in-Memory c =
    record {
      heard = λ w m d gathered told for other. absurd (other c.in-Memory.is);
      memory = record {
        told = λ e. refl;
        forgets = λ e. c.absorb.ensures.memory refl;
        only = λ fault is. c.in-Memory.is;
      };
    }

-- nothing is said
pub returns-then-is_empty : goal.returns-then-is_empty
returns-then-is_empty c =
    record {
      heard = voiced c.args.number (option_map reason_view c.args.why) c.args.session.now
          c.absorb-said.new.self c.args.answer
          c.absorb-said.result.items outputs.Quiet c.absorb-said.ensures.heard
          (quiet c.args.number (option_map reason_view c.args.why) c.absorb-said.result
          (has_parted c.absorb-said.new.self)
          (sym c.is_empty.ensures ∙ c.if-is_empty.true));
      memory = told_other c.args.session.now c.args.answer outputs.Quiet c.absorb-said.new.self
          c.in_default.not-Memory (λ fault is. never_refuses _ fault is refl);
    }

-- the last reply is said
pub returns-then-has_parted : goal.returns-then-has_parted
returns-then-has_parted c =
    record {
      heard = voiced c.args.number (option_map reason_view c.args.why) c.args.session.now
          c.absorb-said.new.self c.args.answer
          c.absorb-said.result.items (outputs.Ended c.args.number c.new.result)
          c.absorb-said.ensures.heard
          (λ s is. ap (λ (octets : List ℕ). world.Ended c.args.number octets) c.new.ensures
          ∙ ended c.args.number (option_map reason_view c.args.why) c.absorb-said.result
          (has_parted c.absorb-said.new.self)
          (sym c.is_empty.ensures ∙ c.if-is_empty.false)
          (sym c.has_parted.ensures ∙ c.if-has_parted.true) s is);
      memory = told_other c.args.session.now c.args.answer
          (outputs.Ended c.args.number c.new.result) c.absorb-said.new.self
          c.in_default.not-Memory (λ fault is. never_refuses _ fault is refl);
    }

-- another reply is said
pub returns-else-has_parted : goal.returns-else-has_parted
returns-else-has_parted c =
    record {
      heard = voiced c.args.number (option_map reason_view c.args.why) c.args.session.now
          c.absorb-said.new.self c.args.answer
          c.absorb-said.result.items c.spoken.result c.absorb-said.ensures.heard
          (λ s is. c.spoken.ensures
          ∙ ap (λ (octets : List ℕ). spoken c.args.number octets
          (option_map reason_view c.args.why)) c.new-else-has_parted.ensures
          ∙ sent c.args.number (option_map reason_view c.args.why) c.absorb-said.result
          (has_parted c.absorb-said.new.self)
          (sym c.is_empty.ensures ∙ c.if-is_empty.false)
          (sym c.has_parted.ensures ∙ c.if-has_parted.false) s is);
      memory = told_other c.args.session.now c.args.answer c.spoken.result
          c.absorb-said.new.self c.in_default.not-Memory
          (λ fault is. never_refuses _ fault (sym c.spoken.ensures ∙ is)
          (spoken_is_said c.args.number c.new-else-has_parted.result
          (option_map reason_view c.args.why)));
    }
