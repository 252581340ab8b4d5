use Rattle.std.proofs.Common.{◌+◌, ◌≤◌, ◌<◌, [], arith, refl, codes}
use Rattle.std.proofs.lemmas.List.Elements.{All-head}
use Rattle.relay_model.specs.OnRecord.{IsBelow, HasText}
use Rattle.relay_model.specs.State.{State, Kept}
use Rattle.relay_model.specs.Terms.{last_moment}
use Rattle.relay_laws.specs.FigureRuns.{one_of_two}
use Rattle.relay_laws.specs.Records.{one_block_at, with_one_text}
use Rattle.relay_laws.specs.Terms.{k1, buffer_a}
use Rattle.relay_laws.specs.Worlds.{three_blocks_at}
use Rattle.relay_laws.proofs.Recording.{below_front, has_none}
use Rattle.relay_laws.proofs.records.off_record.Goals as goal

-- the second article isn't whole
none_second : HasText one_of_two.kept (three_blocks_at 0 3) → ⊥
none_second = has_none one_of_two.kept (three_blocks_at 0 3) refl

pub returns-clause-moment : goal.returns-clause-moment
returns-clause-moment c = λ is.
    let past : last_moment + 1 ≤ last_moment = is.moments (codes "<1@x>") in omega (arith, past)

pub returns-clause-begun : goal.returns-clause-begun
returns-clause-begun c = λ s article is.
    let at = is.begun (codes "<1@x>") s article (one_block_at 6) refl in
    let below : 6 < 6 = below_front k1 _ (one_block_at 6) buffer_a refl at in
    omega (arith, below)

pub returns-clause-kept : goal.returns-clause-kept
returns-clause-kept c = λ is.
    let σ : State = with_one_text (one_block_at 6) in
    let at : IsBelow k1 σ (one_block_at 6) =
    All-head (λ (one : Kept). IsBelow k1 σ one.token)
    (record { token = one_block_at 6; id = []; text = [] }) [] is.kept in
    let below : 6 < 6 = below_front k1 σ (one_block_at 6) buffer_a refl at in
    omega (arith, below)

pub returns-clause-whole : goal.returns-clause-whole
returns-clause-whole c = λ s article is.
    none_second (is.whole (codes "<1@x>") s article (three_blocks_at 0 3) refl)

pub returns-clause-stored : goal.returns-clause-stored
returns-clause-stored c = λ moment is.
    none_second (is.stored (codes "<1@x>") (three_blocks_at 0 3) moment refl)

pub returns-clause-gained : goal.returns-clause-gained
returns-clause-gained c = λ is.
    none_second (All-head (HasText one_of_two.kept) (three_blocks_at 0 3) [] (is.gained 0))

pub returns-clause-passed : goal.returns-clause-passed
returns-clause-passed c = λ is.
    let passed : 1 ≤ 0 = (is.feeds 0).passed in omega (arith, passed)
