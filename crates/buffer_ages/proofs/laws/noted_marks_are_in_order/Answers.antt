use Rattle.buffer_ages.proofs.Ordered.{noted_order}
use Rattle.buffer_ages.proofs.Few.{noted_few}
use Rattle.buffer_ages.proofs.laws.noted_marks_are_in_order.Goals as goal

pub returns : goal.returns
returns c marks front blocks moment are = record {
  ascending = noted_order marks front blocks moment are.ascending;
  few = noted_few marks front blocks moment are.few;
}
