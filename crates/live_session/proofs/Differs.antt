-- What one answer is, another isn't: over few values, where it is found at once.
use Rattle.std.proofs.Common.{◌≢◌, ℕ, Bool, Option}
use Rattle.std.specs.Global.{Vec}
use Rattle.article_fetch.specs.declared.chunk.Chunk.{Chunk}
use Rattle.live_session.specs.declared.live.Turned.TheVariants as turned
use Rattle.live_session.specs.declared.wire.Finish.TheVariants as finishes
use Rattle.peer_session.specs.declared.steps.Answer.TheVariants as answers
use Rattle.peer_session.specs.declared.steps.Outcome.{Outcome}

pub slot-memory : (outcome : Option Outcome) → answers.Slot outcome ≢ answers.Memory
slot-memory outcome is = cc

pub pushed-memory : (has_room : Bool) → answers.Pushed has_room ≢ answers.Memory
pushed-memory has_room is = cc

pub chunk-memory : (chunk : Chunk) → answers.Chunk chunk ≢ answers.Memory
chunk-memory chunk is = cc

pub says-held : (octets : Vec ℕ) → turned.Says octets ≢ turned.Held
says-held octets is = cc

pub rests-held : turned.Rests ≢ turned.Held
rests-held is = cc

pub memory-held : turned.Memory ≢ turned.Held
memory-held is = cc

pub memory-says : (octets : Vec ℕ) → turned.Memory ≢ turned.Says octets
memory-says octets is = cc

pub rests-says : (octets : Vec ℕ) → turned.Rests ≢ turned.Says octets
rests-says octets is = cc

pub held-says : (octets : Vec ℕ) → turned.Held ≢ turned.Says octets
held-says octets is = cc

pub held-spent : finishes.Held ≢ finishes.TurnsSpent
held-spent is = cc

pub broken-spent : finishes.Broken ≢ finishes.TurnsSpent
broken-spent is = cc

pub broken-held : finishes.Broken ≢ finishes.Held
broken-held is = cc
