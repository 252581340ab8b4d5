use Rattle.peer_session.specs.Answers.{IsOther}
use Rattle.peer_session.specs.declared.phase.Todo.{Todo}
use Rattle.peer_session.specs.declared.phase.Todo.TheVariants as todos
use Rattle.peer_session.specs.declared.steps.Answer.TheVariants as answers
use Rattle.peer_session.proofs.laws.memory_is_other.Goals as goal

memory_of : (todo : Todo) → IsOther todo answers.Memory
memory_of todos.Rest = λ e. cc
memory_of (todos.Owe id) = λ e. cc
memory_of (todos.Say octets) = λ e. cc
memory_of (todos.Leave octets) = λ e. cc
memory_of (todos.Check id room since) = λ told e. cc
memory_of (todos.Ihave id copy room since) = λ told e. cc
memory_of (todos.Look part id room) = λ told e. cc
memory_of (todos.Fetch reading) = λ chunk e. cc
memory_of todos.ReadOn = λ chunk e. cc
memory_of (todos.Queue room) = λ taken e. cc
memory_of (todos.Refuse room) = λ e. cc
memory_of (todos.Take id article room) = λ told e. cc
memory_of (todos.TakeHeld id) = λ told e. cc
memory_of todos.Push = λ has_room e. cc
memory_of todos.Slot = λ told e. cc
memory_of todos.Release = λ e. cc
memory_of todos.End = λ e. cc

pub returns : goal.returns
returns c = memory_of
