use Rattle.std.proofs.Common.{◌∙◌, ap, sym}
use Rattle.std.specs.Option.{option_copied}
use Rattle.relay_explain.specs.Buffers.{buffer_name}
use Rattle.relay_explain.proofs.Places.{got}
use Rattle.relay_explain.proofs.groups.buffer_name.Goals as goal

pub returns-in-Some : goal.returns-in-Some
returns-in-Some c =
    c.as_slice.ensures ∙ ap buffer_name (sym (ap option_copied c.in-Some.is)
    ∙ got _ _ c.get.result c.get.ensures.lookup.0 c.get.ensures.lookup.1)

pub returns-in-None : goal.returns-in-None
returns-in-None c =
    ap buffer_name (sym (ap option_copied c.in-None.is)
    ∙ got _ _ c.get.result c.get.ensures.lookup.0 c.get.ensures.lookup.1)
