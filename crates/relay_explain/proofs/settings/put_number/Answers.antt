use Rattle.std.proofs.Common.{◌∙◌}
use Rattle.relay_explain.proofs.settings.put_number.Goals as goal

pub returns : goal.returns
returns c =
    let digits = c.as_bytes.ensures.value ∙ c.format.ensures.text in
    rw (← digits) c.put_setting.ensures
