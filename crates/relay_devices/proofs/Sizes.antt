-- How many blocks stores in files have.
use Rattle.std.proofs.Common.{◌≡◌, ◌∙◌, ℕ, List, [], ◌∷◌, ap, length, map, refl}
use Rattle.file_blocks.specs.Blocks.{blocks_of}
use Rattle.file_blocks.specs.declared.host.HostFile.{HostFile}
use Rattle.file_blocks.specs.Overlay.{overlaid}
use Rattle.file_blocks.specs.Run.{blocks_in}
use Rattle.file_blocks.specs.Store.{count_of}
use Rattle.file_blocks.specs.declared.store.FileBlocks.{FileBlocks}
use Rattle.file_blocks.proofs.SeenLemmas.{length-seen}
use Rattle.relay_devices.specs.Watched.{store_in}
use Rattle.relay_devices.specs.declared.watched.Watched.{Watched}

-- how many blocks are seen of a store in a file of the machine, of which contracts see no octet
abbrev pub seen_of : FileBlocks HostFile → ℕ
seen_of store =
    length (overlaid store.gathered.first (blocks_in store.gathered) (blocks_of store.count []))

-- it is as many as were asked for
pub seen_count : (store : FileBlocks HostFile) → seen_of store ≡ count_of store
seen_count store =
    length-seen store.count store.gathered.first store.gathered.count []
    store.gathered.octets.items store.gathered_within

-- Those that are watched are these.
pub watched_sizes : {R : Type 0} (all : List (Watched (FileBlocks HostFile) R))
    → map (λ (one : Watched (FileBlocks HostFile) R). seen_of one.store) all
    ≡ map count_of (map store_in all)
watched_sizes [] = refl
watched_sizes {R} (one ∷ all) =
    ap (λ n. n ∷ map (λ (other : Watched (FileBlocks HostFile) R). seen_of other.store) all)
    (seen_count one.store)
    ∙ ap (λ (ns : List ℕ). one.store.count ∷ ns) (watched_sizes all)
