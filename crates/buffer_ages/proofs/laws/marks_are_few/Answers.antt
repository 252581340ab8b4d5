use Rattle.buffer_ages.proofs.Few.{noted_few, read_few}
use Rattle.buffer_ages.proofs.laws.marks_are_few.Goals as goal

pub returns-clause-noted : goal.returns-clause-noted
returns-clause-noted c marks front blocks moment few = noted_few marks front blocks moment few

pub returns-clause-read : goal.returns-clause-read
returns-clause-read c lines name = read_few lines name
