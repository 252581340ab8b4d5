use Rattle.std.proofs.Common.{refl}
use Rattle.relay_command.specs.declared.load.CheckError.TheVariants.{Memory}
use Rattle.relay_command.proofs.Memories.{gives_none, wants_memory}
use Rattle.relay_command.proofs.look.look_at_files.Goals as goal

-- there is no memory for the list
pub returns-in_err-found : goal.returns-in_err-found
returns-in_err-found g c = record {
  count = gives_none _ c.from_residual.result c.from_residual.ensures.0;
  memory = wants_memory c.from_residual.result Memory c.from_residual.ensures.1 refl;
}

-- or to look at a file
pub returns-in_err-look_at_file : goal.returns-in_err-look_at_file
returns-in_err-look_at_file g c = record {
  count =
      gives_none _ c.from_residual-in_err-look_at_file.result
      c.from_residual-in_err-look_at_file.ensures.0;
  memory =
      wants_memory c.from_residual-in_err-look_at_file.result _
      c.from_residual-in_err-look_at_file.ensures.1 c.in_err-look_at_file.ensures;
}
