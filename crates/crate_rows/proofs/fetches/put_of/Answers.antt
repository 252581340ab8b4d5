use Rattle.std.proofs.Common.{◌∙◌, ap, map, sym}
use Rattle.crate_rows.proofs.fetches.put_of.Goals as goal

-- the one device has the blocks of K1's one buffer
pub new-made-requires-clause-stores : goal.new-made-requires-clause-stores
new-made-requires-clause-stores g c =
    c.requires.devices ∙ sym (ap (λ settings. map (λ buffer. buffer.blocks) settings.buffers)
    c.requires.config.buffers)
