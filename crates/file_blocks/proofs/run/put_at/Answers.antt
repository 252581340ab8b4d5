-- The octets are put in the middle, and what is around them stays.
use Rattle.std.proofs.Common.{◌≡◌, ◌∙◌, ◌+◌, ◌-◌, ◌≤◌, ◌++◌, ℕ, List, length, take, drop, sym, ap}
use Rattle.std.proofs.Common.{arith}
use Rattle.std.proofs.lemmas.List.{length-take-le}
use Rattle.std.proofs.Math.Seq.{take-append_seam, drop-append_seam}
use borrow.Rule.Slice.PartMut.{put_mid, post_of, take_put, drop_put}
use Rattle.cyc_block.specs.declared.TheConstants.{BLOCK_OCTETS}
use Rattle.file_blocks.specs.Blocks.{octets_at}
use Rattle.file_blocks.proofs.run.put_at.Goals as goal

-- what was put at a place is read there
mid_there : (place size : ℕ) (all block : List ℕ) → place ≤ length all
    → length block ≡ BLOCK_OCTETS → octets_at (put_mid place size all block) place ≡ block
mid_there place size all block h long =
    let rest : List ℕ = post_of {X = ℕ} place size all in
    ap (λ (o : List ℕ). take BLOCK_OCTETS o)
    (ap (λ (n : ℕ). drop n (take place all ++ (block ++ rest))) (sym (length-take-le place all h))
    ∙ drop-append_seam (take place all) (block ++ rest))
    ∙ ap (λ (n : ℕ). take n (block ++ rest)) (sym long)
    ∙ take-append_seam block rest

pub returns-clause-octets : goal.returns-clause-octets
returns-clause-octets c =
    let put = c.copy_from_slice.ensures.after in
    mid_there c.args.place (c.args.place + 512 - c.args.place) c.args.all.now
    c.copy_from_slice.new.self (omega (arith, c.requires))
    (ap (λ (o : List ℕ). length o) put ∙ c.told-octets)
    ∙ put

pub returns-clause-others : goal.returns-clause-others
returns-clause-others c =
    let place = c.args.place in
    let all = c.args.all.now in
    let put = c.copy_from_slice.new.self in
    let long : length put ≡ place + 512 - place =
    ap (λ (o : List ℕ). length o) c.copy_from_slice.ensures.after ∙ c.told-octets
    ∙ (omega arith) in
    record {
      before = take_put place (place + 512 - place) all put (omega (arith, c.requires));
      behind = drop_put place (place + 512) all put (omega arith) c.requires long;
    }
