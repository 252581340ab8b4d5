-- The writer of a group, taken out of its group writer.
use Rattle.std.proofs.Common.{◌≡◌, ◌≢◌, ℕ, Bool, true, false, Option, refl, sym, ap, subst, ◌∙◌}
use Rattle.std.specs.Prelude.{nat_eq, slice_get, if◌then◌else◌}
use Rattle.block_shelf.specs.Calls.{token_of}
use Rattle.block_shelf.specs.Keeping.{KeepsTexts}
use Rattle.block_shelf.specs.Openings.{Opening}
use Rattle.block_shelf.specs.declared.buffer_set.Begun.{Begun}
use Rattle.block_shelf.specs.declared.buffer_set.BufferSet.{BufferSet}
use Rattle.block_shelf.specs.Leaving.{honestly}
use Rattle.buffer_group.specs.Writers.{writer_view}
use Rattle.buffer_group.specs.declared.writer.Writer.{Writer}
use Rattle.cyc_block.specs.declared.store.BlockStore.{Ghosts}
use Rattle.feed_queue.specs.Feeds.{KeepsFeeds}
use Rattle.feed_queue.specs.declared.desk.FeedDesk.{FeedDesk}
use Rattle.id_history.specs.Shards.{KeepsAll}
use Rattle.id_history.specs.declared.shards.Shards.{Shards}
use Rattle.relay_facts.proofs.Puts.{put_at_here, put_at_there}
use Rattle.relay_model.specs.Invariants.{IsAt, IsWell}
use Rattle.relay_model.specs.State.{State, put_at}
use Rattle.relay_model.specs.Terms.{Terms}
use Rattle.relay_model.specs.World as world
use Rattle.relay_model.specs.World.{World, with_failures}
use Rattle.relay_model.specs.Writers.{writer_at}
use Rattle.relay_core.specs.Peers.{peer_at}
use Rattle.relay_core.proofs.GroupWriters.{same_or_other}
use Rattle.relay_core.specs.Agreement.{GroupWriterIs, PeerIs, ring_sizes}
use Rattle.relay_core.specs.Openings.{opening_of, openings}
use Rattle.relay_core.specs.Writing.{WriterOut}
use Rattle.relay_core.specs.declared.system.System.{System}

opening_if : (b : Bool) (v u : world.Writer)
    → opening_of (if b then v else u) ≡ (if b then opening_of v else opening_of u)
opening_if true v u = refl
opening_if false v u = refl

-- the open writes, when a writer was put
pub openings_put : (writer : ℕ → world.Writer) (h : ℕ) (v : world.Writer)
    → openings (put_at writer h v) ≡ put_at (openings writer) h (opening_of v)
openings_put writer h v = λ i k. opening_if (nat_eq k h) v (writer k) i

put_same_at : {A : Type 0} (f : ℕ → A) (h : ℕ) (v : A) → f h ≡ v → (k : ℕ) → put_at f h v k ≡ f k
put_same_at f h v is k =
    same_or_other k h
    (λ same. put_at_here f h v k same ∙ sym is ∙ ap f (sym same))
    (λ differ. put_at_there f h v k differ)

-- to put what is there changes nothing
pub put_same : {A : Type 0} (f : ℕ → A) (h : ℕ) (v : A) → f h ≡ v → put_at f h v ≡ f
put_same f h v is = λ i k. put_same_at f h v is k i

-- the open writes, where this group's stays
pub openings_stay : (writer : ℕ → world.Writer) (h : ℕ) (v : world.Writer)
    → opening_of (writer h) ≡ opening_of v → openings writer ≡ openings (put_at writer h v)
openings_stay writer h v is =
    sym (openings_put writer h v ∙ put_same (openings writer) h (opening_of v) is)

module _ {S : Type 0} {g : Ghosts S} {leaving : Bool} (w : Terms) (h : ℕ) (v : Writer Begun)
    (old : System S g)
    (x : World) (out : WriterOut leaving w h v old x) where
  -- all other group writers stay
  pub group_writers_same : (u : world.Writer) (k : ℕ) → k ≢ h
      → GroupWriterIs (slice_get old.group_writers.items k) (x.work.queue k)
      (put_at x.work.writer h u k)
  group_writers_same u k differ =
      let P : world.Writer → Type 0 = λ z. GroupWriterIs (slice_get old.group_writers.items k)
      (x.work.queue k) z in
      subst P (sym (put_at_there x.work.writer h u k differ)) (out.group_writers k differ)

  -- the writer is another, and parts and state are such
  pub moved : (v' : Writer Begun) (u : world.Writer) (σ : State) (failures : ℕ → ℕ)
      (shards : Shards) (desk : FeedDesk) (buffer_set : BufferSet S g) → u ≡ writer_view token_of v'
      → σ.newest ≡ x.state.newest → KeepsAll shards σ.claim
      → KeepsFeeds desk (ring_sizes w) σ.feed
      → KeepsTexts (honestly leaving) buffer_set w σ.begun σ.kept
      (put_at (openings x.work.writer) h (opening_of u)) failures
      → ((s : ℕ) → PeerIs true w σ.kept (peer_at old.peers s) (σ.session s) (x.work.slot s))
      → WriterOut leaving w h v'
      (record old { shards = shards; desk = desk; buffer_set = buffer_set })
      (with_failures (writer_at x σ h u) failures)
  moved v' u σ failures shards desk buffer_set is newest claims feeds texts peers =
      record {
        newest = newest ∙ out.newest;
        claims = claims;
        count = out.count;
        queue = out.queue;
        writer_is = put_at_here x.work.writer h u h refl ∙ is;
        group_writers = group_writers_same u;
        desk = feeds;
        expirer = out.expirer;
        buffer_set =
            let P : (ℕ → Option Opening)
            → Type 0 = λ all. KeepsTexts (honestly leaving) buffer_set w σ.begun σ.kept
            all failures in
            subst P (sym (openings_put x.work.writer h u)) texts;
        peers = peers;
      }

  -- where the open write stays as it is
  pub same_opening : (buffer_set : BufferSet S g) (o : Option Opening)
      → opening_of (writer_view token_of v) ≡ o
      → KeepsTexts (honestly leaving) buffer_set w x.state.begun x.state.kept
      (openings x.work.writer)
      x.work.failures
      → KeepsTexts (honestly leaving) buffer_set w x.state.begun x.state.kept
      (put_at (openings x.work.writer) h o) x.work.failures
  same_opening buffer_set o is keeps =
      let P : (ℕ → Option Opening)
      → Type 0 = λ all. KeepsTexts (honestly leaving) buffer_set w x.state.begun
      x.state.kept all x.work.failures in
      subst P (sym (put_same (openings x.work.writer) h o (ap opening_of out.writer_is ∙ is)))
      keeps

  -- what a well world says of the writer
  pub is_at : IsWell w x → IsAt w x.state h (writer_view token_of v)
  is_at well =
      subst (λ (u : world.Writer). IsAt w x.state h u) out.writer_is (well.placed.writer h)
