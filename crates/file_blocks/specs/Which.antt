-- Which file it is.
use Rattle.std.specs.Prelude.{◌≡◌, bit_and}
use Rattle.std.specs.Fs.{metadata_mode}
use Rattle.std.specs.declared.fs.attrs.Metadata.{Metadata}
use Rattle.file_blocks.specs.declared.which.Identity.{Identity}
use Rattle.file_blocks.specs.declared.which.Identity.TheVariants.{Device, Regular}

-- that is a block device of which this was found: the bits of the mode under `S_IFMT` are `S_IFBLK`
-- (stat(2))
abbrev pub IsBlockDevice : Metadata → Type 0
IsBlockDevice found = bit_and (metadata_mode found) 0o170000 ≡ 0o060000

-- it is a block device
abbrev pub IsOfDevice : Identity → Type 0
IsOfDevice (Regular device inode) = ⊥
IsOfDevice (Device number) = Unit {0}
