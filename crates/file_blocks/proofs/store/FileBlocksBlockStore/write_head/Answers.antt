-- What is gathered is written first; then a write at the place of head block k changes it alone.
use Rattle.std.proofs.Common.{◌∙◌, ◌+◌, List, ℕ, [], get_or, set, ap, refl, sym, subst}
use Rattle.std.proofs.Common.{arith}
use Rattle.std.proofs.lemmas.Result.{on_err_weaker, on_ok_weaker}
use Rattle.file_blocks.proofs.HeadLemmas.{blocks_stay, other_heads, written_head}
use Rattle.file_blocks.specs.File.{octets_in}
use Rattle.file_blocks.specs.Overlay.{overlaid}
use Rattle.file_blocks.specs.Run.{blocks_in}
use Rattle.file_blocks.specs.Store.{IsCopy}
use Rattle.file_blocks.proofs.CallLemmas.{any_err, any_ok, block_change, head_within, honest_as}
use Rattle.file_blocks.proofs.CallLemmas.{same_seen}
use Rattle.file_blocks.proofs.SeenLemmas.{two_seen}
use Rattle.file_blocks.proofs.store.FileBlocksBlockStore.write_head.Goals as goal

pub returns-in_err-clear_way-clause-count : goal.returns-in_err-clear_way-clause-count
returns-in_err-clear_way-clause-count g c =
    same_seen g.F.RunFile c.args.self.now c.clear_way.new.self c.clear_way.ensures.seen.count

pub returns-clause-written : goal.returns-clause-written
returns-clause-written g c honest =
    let f = g.F.RunFile in
    let mid = c.clear_way.new.self in
    let seen = c.clear_way.ensures.seen in
    let file = (seen.honest (honest_as f c.args.self.now _ refl refl refl honest)).file in
    let old = f.held mid.file in
    let new = f.held c.write.new.self in
    let place = c.head_place_of.result in
    let k = c.args.k in
    on_ok_weaker c.write.result
    (λ is. written_head mid.count k place old new c.args.octets.now
    (head_within f c.args.self.now mid.count k old seen.count c.requires) c.head_place_of.ensures
    (block_change place _ old new c.told-octets (c.write.ensures.others file))
    (sym (ap (λ (size : ℕ). octets_in new place size) c.told-octets) ∙ is)
    ∙ ap (λ (heads : List (List ℕ)). set heads k c.args.octets.now)
    (seen.heads (honest_as f c.args.self.now _ refl refl refl honest)))
    (c.write.ensures.written file)

pub returns-clause-others : goal.returns-clause-others
returns-clause-others g c honest j other =
    let f = g.F.RunFile in
    let mid = c.clear_way.new.self in
    let seen = c.clear_way.ensures.seen in
    let file = (seen.honest (honest_as f c.args.self.now _ refl refl refl honest)).file in
    let old = f.held mid.file in
    let new = f.held c.write.new.self in
    let place = c.head_place_of.result in
    let k = c.args.k in
    other_heads mid.count k place old new
    (head_within f c.args.self.now mid.count k old seen.count c.requires) c.head_place_of.ensures
    (block_change place _ old new c.told-octets (c.write.ensures.others file)) j other
    ∙ ap (λ (heads : List (List ℕ)). get_or heads j [])
    (seen.heads (honest_as f c.args.self.now _ refl refl refl honest))

pub returns-clause-blocks : goal.returns-clause-blocks
returns-clause-blocks g c honest =
    let f = g.F.RunFile in
    let mid = c.clear_way.new.self in
    let seen = c.clear_way.ensures.seen in
    let file = (seen.honest (honest_as f c.args.self.now _ refl refl refl honest)).file in
    let old = f.held mid.file in
    let new = f.held c.write.new.self in
    let place = c.head_place_of.result in
    ap (λ (blocks : List (List ℕ)). overlaid mid.gathered.first (blocks_in mid.gathered) blocks)
    (blocks_stay mid.count c.args.k place old new c.head_place_of.ensures
    (block_change place _ old new c.told-octets (c.write.ensures.others file)))
    ∙ seen.blocks (honest_as f c.args.self.now _ refl refl refl honest)

pub returns-clause-honest : goal.returns-clause-honest
returns-clause-honest g c honest =
    let f = g.F.RunFile in
    let mid = c.clear_way.new.self in
    let after = c.clear_way.ensures.seen.honest
    (honest_as f c.args.self.now _ refl refl refl honest) in
    let old = f.held mid.file in
    let new = f.held c.write.new.self in
    let place = c.head_place_of.result in
    record {
      file = c.write.ensures.honest after.file;
      ahead = subst (λ (blocks : List (List ℕ)). IsCopy mid.ahead blocks)
          (sym (blocks_stay mid.count c.args.k place old new c.head_place_of.ensures
          (block_change place _ old new c.told-octets (c.write.ensures.others after.file))))
          after.ahead;
    }

pub returns-clause-count : goal.returns-clause-count
returns-clause-count g c =
    let store = c.args.self.now in
    let mid = c.clear_way.new.self in
    two_seen store.count mid.count store.gathered.first store.gathered.count mid.gathered.first
    mid.gathered.count (g.F.RunFile.held store.file) (g.F.RunFile.held c.write.new.self)
    store.gathered.octets.items mid.gathered.octets.items c.clear_way.ensures.seen.count
    store.gathered_within mid.gathered_within

pub returns-clause-aside : goal.returns-clause-aside
returns-clause-aside g c = any_err c.write.result c.in_ok-clear_way.ensures.rest

pub returns-clause-flushed : goal.returns-clause-flushed
returns-clause-flushed g c free =
    any_ok c.write.result (c.in_ok-clear_way.ensures.written free)

pub returns-clause-file : goal.returns-clause-file
returns-clause-file g c =
    let way = c.in_ok-clear_way.ensures.file in
    record {
      calls = omega (arith, way.calls, c.write.ensures.calls);
      failed = on_err_weaker c.write.result (λ is. is ∙ ap (λ n. n + 1) way.no_failure)
          c.write.ensures.failed;
      no_failure = on_ok_weaker c.write.result (λ is. is ∙ way.no_failure)
          c.write.ensures.no_failure;
    }

pub returns-clause-once : goal.returns-clause-once
returns-clause-once g c aside =
    let same = c.clear_way.ensures.unasked aside in
    let f = g.F.RunFile in
    record {
      calls = omega (arith, c.write.ensures.calls, ap (λ file. f.calls file) same);
      failed = on_err_weaker c.write.result (λ is. is ∙ ap (λ file. f.failures file + 1) same)
          c.write.ensures.failed;
      no_failure = on_ok_weaker c.write.result (λ is. is ∙ ap (λ file. f.failures file) same)
          c.write.ensures.no_failure;
    }

pub returns-clause-calls : goal.returns-clause-calls
returns-clause-calls g c =
    c.clear_way.ensures.asked ∙ c.add_one.ensures

pub returns-in_err-clear_way-clause-calls : goal.returns-in_err-clear_way-clause-calls
returns-in_err-clear_way-clause-calls g c =
    c.clear_way.ensures.asked ∙ c.add_one.ensures
