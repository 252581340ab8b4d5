use Rattle.std.proofs.Common.{◌+◌, ◌≤◌, arith, le_refl}
use Rattle.relay_model.specs.Terms.{last_moment}
use Rattle.relay_laws.proofs.records.moments.Goals as goal

-- no moment is past the last one
none_past : last_moment + 1 ≤ last_moment → ⊥
none_past past = omega (arith, past)

pub returns-clause-last_stored : goal.returns-clause-last_stored
returns-clause-last_stored c = λ token. le_refl last_moment

pub returns-clause-last_refused : goal.returns-clause-last_refused
returns-clause-last_refused c = le_refl last_moment

pub returns-clause-stored_past : goal.returns-clause-stored_past
returns-clause-stored_past c = λ token past. none_past past

pub returns-clause-refused_past : goal.returns-clause-refused_past
returns-clause-refused_past c = λ past. none_past past
