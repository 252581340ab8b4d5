use Rattle.std.proofs.Common.{◌∙◌, List, ap, map, sym}
use Rattle.file_blocks.specs.declared.host.HostFile.{HostFile}
use Rattle.file_blocks.specs.Store.{count_of}
use Rattle.file_blocks.specs.declared.store.FileBlocks.{FileBlocks}
use Rattle.relay_devices.proofs.Sizes.{watched_sizes}
use Rattle.relay_startup.proofs.Sizes.{same_count}
use Rattle.relay_serve.proofs.beginning.run_begun.Goals as goal

-- there is a store for each buffer,
pub watch-requires : goal.watch-requires
watch-requires g c = record {
  count = same_count count_of (λ buffer. buffer.blocks) c.args.begun.stores.items
      c.args.config.now.buffers.buffers.items c.requires.stores;
}

-- which, watched and in a file, has as many blocks as the file was opened for,
pub complete_first-requires : goal.complete_first-requires
complete_first-requires g c = record {
  stores = watched_sizes _
      ∙ ap (λ (stores : List (FileBlocks HostFile)). map count_of stores)
      c.in_ok-watched.ensures.stores
      ∙ c.requires.stores;
}

-- and so once it is completed,
pub begin_again-requires-clause-stores : goal.begin_again-requires-clause-stores
begin_again-requires-clause-stores g c κs within = c.in_ok-completed.ensures.stores

-- or repaired
pub run_watched-requires-clause-stores : goal.run_watched-requires-clause-stores
run_watched-requires-clause-stores g c κs within =
    sym (watched_sizes _) ∙ c.in_ok-begun.ensures.stores
