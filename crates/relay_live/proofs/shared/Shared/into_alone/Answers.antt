use Rattle.std.proofs.Common.{◌∙◌, refl, sym}
use Rattle.relay_live.proofs.shared.Shared.into_alone.Goals as goal

-- as many parts come out as there are locks
pub returns-clause-parts : goal.returns-clause-parts
returns-clause-parts g c = record {
  buffers = sym (c.values_of-2.ensures.count ∙ c.free.ensures.count);
  groups = sym (c.values_of-3.ensures.count ∙ c.free_all-2.ensures.count);
  feeds = refl;
  ends = refl;
  remembers = refl;
  stop_is = refl;
}
