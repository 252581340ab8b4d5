-- What is told of the buffers and the groups of cycbuff.conf.
use Rattle.std.specs.Prelude.{ℕ, ◌+◌, ◌*◌, ◌==◌, Bool, List, [], ◌++◌, codes, decimal, find, not}
use Rattle.std.specs.Prelude.{bytes_eq, flat_map, nat_lt, slice_get, take, Option, Some, None}
use Rattle.std.specs.Prelude.{option_map}
use Rattle.std.specs.List.{enumerate_from, list_any}
use Rattle.news_terms.specs.HeadBlocks.{head_blocks}
use Rattle.news_terms.specs.Places.{block_size, chunk_size}
use Rattle.relay_conf.specs.declared.cycbuff.BufferConf.{BufferConf}
use Rattle.relay_conf.specs.declared.cycbuff.GroupConf.{GroupConf}
use Rattle.relay_conf.specs.declared.cycbuff.Mode.{Mode}
use Rattle.relay_conf.specs.declared.cycbuff.Mode.TheVariants.{Interleave, Sequential}
use Rattle.relay_conf.specs.declared.settings.Config.{Config}
use Rattle.relay_explain.specs.Found.{cycbuff, found_text}
use Rattle.relay_explain.specs.Lines.{named_line, odd_line, shared_line, told_line}
use Rattle.relay_explain.specs.declared.found.Found.{Found}

-- the octets of articles that so many blocks hold (docs/FORMATS.md, Blocks on the device)
unfoldable pub room_of : (blocks : ℕ) → ℕ
room_of blocks = blocks * chunk_size

-- the octets of a file of so many blocks, with its head blocks (docs/FORMATS.md, Head blocks)
unfoldable pub file_octets : (blocks : ℕ) → ℕ
file_octets blocks = (blocks + head_blocks blocks) * block_size

-- the octets that are put into the Path of an article at most (docs/FORMATS.md, Path)
abbrev pub most_added : ℕ
most_added = 140

-- the octets of the largest article, as it is stored
unfoldable pub largest_stored : Config → ℕ
largest_stored config = config.relay.max_article + most_added

-- what so many blocks are and hold: `8 blocks, 3840 octets of articles, 5120 octets of disk`
unfoldable pub sizes_text : (blocks : ℕ) → List ℕ
sizes_text blocks =
    decimal blocks ++ codes " blocks, " ++ decimal (room_of blocks)
    ++ codes " octets of articles, " ++ decimal (file_octets blocks) ++ codes " octets of disk"

-- `buffer A, file a.buf: 8 blocks, 3840 octets of articles, 5120 octets of disk`
unfoldable pub buffer_told : BufferConf → List ℕ
buffer_told buffer =
    codes "buffer " ++ buffer.name ++ codes ", file " ++ buffer.file ++ codes ": "
    ++ sizes_text buffer.blocks

-- a group has the buffer of this number
unfoldable pub is_in_group : (number : ℕ) → List GroupConf → Bool
is_in_group number groups = list_any (λ g. list_any (λ i. i == number) g.buffers.items) groups

-- the name of the first buffer, of these, that has this file
unfoldable pub first_with : (file : List ℕ) → List BufferConf → Option (List ℕ)
first_with file buffers = option_map (λ b. b.name) (find (λ b. bytes_eq b.file file) buffers)

-- what is odd in a buffer of so many blocks: the largest article finds no room
unfoldable pub room_odd : (line blocks largest : ℕ) → List ℕ
room_odd line blocks largest =
    odd_line (nat_lt (room_of blocks) largest) cycbuff line
    (codes "the buffer has no room for the largest article, of " ++ decimal largest
    ++ codes " octets")

-- what is odd in a buffer of this number: no group has it, an earlier one has its file, the largest
-- article finds no room
unfoldable pub buffer_odds : Config → (line number : ℕ) → BufferConf → List ℕ
buffer_odds config line number buffer =
    odd_line (not (is_in_group number config.buffers.groups.items)) cycbuff line
    (codes "the buffer is in no group: it takes no article")
    ++ shared_line cycbuff line (codes "the file is that of buffer ")
    (first_with buffer.file (take number config.buffers.buffers.items))
    ++ room_odd line buffer.blocks (largest_stored config)

-- what is told of a buffer of this number, with what lies where its file is to be
abbrev pub buffer_text : Config → (lines : List (List ℕ)) → List Found → ℕ × BufferConf → List ℕ
buffer_text config lines found one =
    let line = named_line (codes "cycbuff") one.1.name lines in
    told_line cycbuff line (buffer_told one.1)
    ++ found_text line one.1.file (slice_get found one.0)
    ++ buffer_odds config line one.0 one.1

-- what is told of all buffers
unfoldable pub buffers_text : Config → (lines : List (List ℕ)) → List Found → List ℕ
buffers_text config lines found =
    flat_map (buffer_text config lines found) (enumerate_from 0 config.buffers.buffers.items)

-- how a group of this mode fills its buffers
unfoldable pub mode_text : Mode → List ℕ
mode_text Interleave = codes ", article by article in turn:"
mode_text Sequential = codes ", one to its end before the next:"

-- the name of a buffer; one that isn't there has none
abbrev pub buffer_name : Option BufferConf → List ℕ
buffer_name None = []
buffer_name (Some buffer) = buffer.name

-- a buffer in the list of a group
abbrev pub member_text : List BufferConf → ℕ → List ℕ
member_text buffers number = codes " " ++ buffer_name (slice_get buffers number)

-- `group G, article by article in turn: A B`
unfoldable pub group_told : List BufferConf → GroupConf → List ℕ
group_told buffers group =
    codes "group " ++ group.name ++ mode_text group.mode
    ++ flat_map (member_text buffers) group.buffers.items

-- what is told of a group
abbrev pub group_text : Config → (lines : List (List ℕ)) → GroupConf → List ℕ
group_text config lines group =
    told_line cycbuff (named_line (codes "metacycbuff") group.name lines)
    (group_told config.buffers.buffers.items group)

-- what is told of all groups
unfoldable pub groups_text : Config → (lines : List (List ℕ)) → List ℕ
groups_text config lines = flat_map (group_text config lines) config.buffers.groups.items
