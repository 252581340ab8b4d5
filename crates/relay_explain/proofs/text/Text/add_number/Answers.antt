use Rattle.std.proofs.Common.{◌∙◌}
use Rattle.relay_explain.proofs.text.Text.add_number.Goals as goal

pub returns : goal.returns
returns c =
    let number = c.as_bytes.ensures.value ∙ c.format.ensures.text in
    rw (← number) c.add.ensures
