use Rattle.file_blocks.proofs.fitted.FittedFile.look.Goals as goal

-- what was read is what is found
pub returns-in-Ok-clause-blank : goal.returns-in-Ok-clause-blank
returns-in-Ok-clause-blank g c = λ honest all_read. c.in-Ok.ensures.blank honest
