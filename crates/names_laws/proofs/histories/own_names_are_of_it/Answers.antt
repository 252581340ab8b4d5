use Rattle.std.proofs.Common.{◌==◌, length, map}
use Rattle.std.proofs.lemmas.Bool.{and_from, eq-eqb}
use Rattle.id_history.specs.Conditions.{are_positions}
use Rattle.named_history.specs.Naming.{buffer_count, feeds_by, positions_by}
use Rattle.names_laws.proofs.Turns.{positions_pass}
use Rattle.names_laws.proofs.Waiting.{one_feed_a_name}
use Rattle.names_laws.proofs.histories.own_names_are_of_it.Goals as goal

pub returns : goal.returns
returns c known own rings kept long some =
    let feeds = feeds_by known.feeds kept.feeds own.feeds rings in
    let positions = positions_by known.groups kept.positions own.groups in
    and_from (length own.feeds == length feeds)
    (are_positions positions (map buffer_count own.groups))
    (eq-eqb (length own.feeds) (length feeds)
    (one_feed_a_name known.feeds kept.feeds own.feeds rings long))
    (positions_pass known.groups kept.positions own.groups some)
