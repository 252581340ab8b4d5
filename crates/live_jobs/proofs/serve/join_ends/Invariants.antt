use Rattle.std.proofs.Common.{◌≡◌, ◌+◌, ◌≤◌, ◌++◌, length, map}
use Rattle.std.specs.Prelude.{vec_capacity}
use Rattle.std.specs.Vec.Iter.{into_iter_items, into_iter_len}
use Rattle.live_jobs.specs.Rows.{From}
use Rattle.live_jobs.specs.Gathered.{hands_of}
use Rattle.live_jobs.specs.Started.{Serves, Left, AllKept}
use Rattle.live_jobs.proofs.serve.join_ends.Given as goal

abbrev pub invariant-loop-handle : goal.invariant-loop-handle
invariant-loop-handle g l =
    let rest = l.handle-iterator in record {
      count : length l.lefts.items + into_iter_len rest ≡ length l.fn.serving.items;
      room : length l.fn.serving.items ≤ vec_capacity l.lefts;
      todo : From (λ n h. Serves l.channels n h.promise.channels.now h.promise.end)
          (length l.lefts.items) (into_iter_items rest);
      both : length l.services.items ≡ length l.lefts.items;
      spare : length l.fn.serving.items ≤ vec_capacity l.services;
      fit : From (λ n x. Left l.channels n x) 0 l.lefts.items;
      marks : map g.V.Accounts.mark l.services.items
          ++ map (λ h. g.V.Accounts.mark h.promise.service.value) (into_iter_items rest)
          ≡ map (λ h. g.V.Accounts.mark h.promise.service.value) l.fn.serving.items;
      kept : AllKept g.V.Accounts.fits (hands_of l.lefts.items) l.services.items;
    }
