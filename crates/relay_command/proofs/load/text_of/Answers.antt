use Rattle.relay_command.proofs.TextsRead.{not_built_in, read_gives}
use Rattle.relay_command.proofs.load.text_of.Goals as goal

pub returns : goal.returns
returns g c =
    read_gives c.args.folder.now c.args.file c.text_in.result
    (not_built_in c.args.folder.now c.is_built_in.result c.is_built_in.ensures
    c.if-is_built_in.false)
    c.text_in.ensures
