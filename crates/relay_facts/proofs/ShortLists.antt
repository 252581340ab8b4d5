-- How long a feed's list gets: it gains what was accepted, that was begun, and there is room for
-- 2^54 in each of 256 buffers.
use Rattle.std.proofs.Common.{◌≡◌, ℕ, zero, suc, ◌*◌, ◌^◌, ◌≤◌, ◌<◌, length}
use Rattle.std.proofs.Common.{ap, arith}
use Rattle.std.proofs.lemmas.List.Elements.{All-weaker}
use Rattle.news_terms.specs.Token.{Token}
use Rattle.news_terms.proofs.ListPlaces.{there_within}
use Rattle.relay_model.specs.Counted.{sum_below, to_settle, all_begun}
use Rattle.relay_model.specs.Invariants.{IsWell, job_at}
use Rattle.relay_model.specs.State.{Job}
use Rattle.relay_model.specs.Terms.{Terms}
use Rattle.relay_model.specs.World.{World, Finished}
use Rattle.relay_facts.specs.Sound.{IsSound}
use Rattle.relay_facts.proofs.BegunFronts.{Is_some, begun_bounded}
use Rattle.relay_facts.proofs.BufferCount.{buffer_sound, buffers_in}
use Rattle.relay_facts.proofs.BufferCount.{buffers_below, few_buffers, own_numbers}
use Rattle.relay_facts.proofs.CountedWrites.{writer_within}
use Rattle.relay_facts.proofs.Orderly.{orderly_of}
use Rattle.relay_facts.proofs.SessionOrderly.{FitsOne}
use Rattle.relay_facts.proofs.Sums.{term_within}

-- the first groups began at most 2^54 articles for each of their buffers
begun_below : (w : Terms) → IsSound w → (x : World) → IsWell w x → (n : ℕ) → n ≤ length w.groups
    → sum_below (λ g. length (x.state.begun g).articles) n ≤ buffers_below w n * 2 ^ 54
begun_below w sound x well zero within = omega arith
begun_below w sound x well (suc n) within =
    let one = there_within w.groups n (omega (arith, within)) in
    omega (
      arith,
      begun_below w sound x well n (omega (arith, within)),
      begun_bounded one.0 (own_numbers w sound n one.0 one.1)
          (λ i buffer there. (buffer_sound w sound n i buffer
          (record { group = one.0; is_group = one.1; is_buffer = there })).most)
          (x.state.begun n) (well.sized.laid n one.0 one.1)
          (All-weaker (FitsOne one.0) Is_some (λ extent fits. fits.0) (x.state.begun n).articles
          (well.sized.begun n one.0 one.1))
          (well.counted.in_time n one.0 one.1),
      ap buffers_in one.1,
    )

-- all groups together began at most 2^62 articles
begun_at_most : (w : Terms) (x : World) → IsSound w → IsWell w x → all_begun w x.state ≤ 2 ^ 62
begun_at_most w x sound well =
    omega (
      arith,
      begun_below w sound x well (length w.groups) (omega arith),
      few_buffers w sound,
    )

-- a feed gained at most 2^62 tokens
pub gained_at_most : (w : Terms) (x : World) (f : ℕ) → IsSound w → IsWell w x
    → length (x.state.feed f).gained ≤ 2 ^ 62
gained_at_most w x f sound well =
    omega (arith, well.counted.gained f, well.counted.settled, begun_at_most w x sound well)

-- and fewer while an article is to be settled
pub gained_below : (w : Terms) (x : World) (f g : ℕ) (job : Job) (token : Token) → IsSound w
    → IsWell w x → x.work.writer g ≡ Finished job token
    → length (x.state.feed f).gained < 2 ^ 62
gained_below w x f g job token sound well has =
    omega (
      arith,
      well.counted.gained f,
      well.counted.settled,
      begun_at_most w x sound well,
      ap to_settle has,
      term_within (λ h. to_settle (x.work.writer h)) g (length w.groups)
          (writer_within w x (orderly_of w x well) g job (ap job_at has)),
    )
