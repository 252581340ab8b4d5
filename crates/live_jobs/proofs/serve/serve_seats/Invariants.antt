use Rattle.std.proofs.Common.{length}
use Rattle.live_jobs.proofs.serve.serve_seats.Given as goal

-- the premises of the run are its channels and the number of its ends
abbrev pub ghosts-serve_placed : goal.ghosts-serve_placed
ghosts-serve_placed g a = record { channels = a.channels.now; ends = length a.plans.items }
