use Rattle.relay_command.proofs.Addings.{handed_to}
use Rattle.relay_command.proofs.check.tell_config.Goals as goal

-- what tells how the relay stands was handed this configuration and the folder, behind what was
-- printed
pub returns-in-Ok-stand : goal.returns-in-Ok-stand
returns-in-Ok-stand g c = record {
  between = g.W.Write.contents c.print_counts.new.writer;
  told = c.in-Ok.ensures;
  stands = handed_to _ _ _ _ _ _ _ c.in-Ok-stand.ensures;
}

pub returns-in-Err-stand : goal.returns-in-Err-stand
returns-in-Err-stand g c = record {
  between = g.W.Write.contents c.print_counts.new.writer;
  told = c.in-Ok.ensures;
  stands = handed_to _ _ _ _ _ _ _ c.in-Err-stand.ensures;
}
