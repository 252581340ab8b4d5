-- What the system says of files and connections.
use Rattle.std.specs.declared.io.ErrorKind.{ErrorKind}
use Rattle.std.specs.declared.io.ErrorKind.TheVariants as kinds
use Rattle.relay_folder.specs.declared.words.Word.{Word}
use Rattle.relay_folder.specs.declared.words.Word.TheVariants as words

-- a folder can't be flushed: its owner may not read it, or its file system has no such flush
abbrev pub HasNoFlush : ErrorKind → Type 0
HasNoFlush kinds.PermissionDenied = Unit {0}
HasNoFlush kinds.InvalidInput = Unit {0}
HasNoFlush kinds.Unsupported = Unit {0}
HasNoFlush kind = ⊥

-- a part of a wait has passed, and nothing came
abbrev pub IsWait : ErrorKind → Type 0
IsWait kinds.WouldBlock = Unit {0}
IsWait kinds.TimedOut = Unit {0}
IsWait kinds.Interrupted = Unit {0}
IsWait kind = ⊥

-- no socket is there, or nobody listens at it
abbrev pub HasNobody : ErrorKind → Type 0
HasNobody kinds.NotFound = Unit {0}
HasNobody kinds.ConnectionRefused = Unit {0}
HasNobody kind = ⊥

-- It is an end in order that this word was answered by: a relay that was told to stop may end
-- before it has read the word, and then the connection breaks.
abbrev pub IsEnd : Word → ErrorKind → Type 0
IsEnd words.Stop kinds.ConnectionReset = Unit {0}
IsEnd word kind = ⊥
