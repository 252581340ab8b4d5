use Rattle.std.proofs.Common.{refl}
use Rattle.id_history.specs.Views.{setting_view}
use Rattle.relay_log.proofs.laws.folded_reads.Goals as goal

-- it holds the setting still
pub read_back-requires-clause-holds : goal.read_back-requires-clause-holds
read_back-requires-clause-holds c =
    c.in-Ok.ensures.holds (setting_view c.args.setting.now) refl c.requires.holds
    c.requires.entries
