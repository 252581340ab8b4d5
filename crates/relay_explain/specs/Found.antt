-- What lies where the file of a buffer is to be, and how it is told.
use Rattle.std.specs.Prelude.{ℕ, ◌==◌, ◌||◌, true, Bool, List, [], ◌++◌, codes, if◌then◌else◌}
use Rattle.std.specs.Prelude.{decimal, nat_eq, nat_lt, Option, Some, None}
use Rattle.std.specs.List.{list_all, starts_with}
use Rattle.relay_explain.specs.Lines.{odd_line, told_line}
use Rattle.relay_explain.specs.declared.found.Found.{Found}
use Rattle.relay_explain.specs.declared.found.Found.TheVariants.{Fit, Absent, NoFolder, Inn, Other}
use Rattle.relay_explain.specs.declared.found.Found.TheVariants.{Device, OtherDevice, SmallDevice}
use Rattle.relay_explain.specs.declared.found.Found.TheVariants.{NotRegular, Unseen}

-- the file in which buffers and groups are said
abbrev pub cycbuff : List ℕ
cycbuff = codes "cycbuff.conf"

-- octets that a buffer of this program begins with: a block, or nothing but zeros
-- (docs/FORMATS.md, Blocks on the device)
abbrev pub is_own : (front : List ℕ) → Bool
is_own front = starts_with nat_eq front (codes "CNB1") || list_all (λ c. c == 0) front

-- octets that a buffer of INN begins with (cnfs-private.h of INN)
abbrev pub is_inn : (front : List ℕ) → Bool
is_inn front =
    starts_with nat_eq front (codes "CBuf") || starts_with nat_eq front (codes "Cycbuff")

-- what a file is that begins with these octets
abbrev pub found_of : (front : List ℕ) → Found
found_of front = if is_own front then Fit else if is_inn front then Inn else Other

-- what a block device of so many octets is, for a buffer that takes so many, and that begins with
-- these octets
abbrev pub found_device : (octets size : ℕ) → (front : List ℕ) → Found
found_device octets size front =
    if nat_lt octets size then SmallDevice octets
    else if is_own front then Device octets
    else OtherDevice octets

-- what is told of a block device of so many octets
abbrev pub device_told : (octets : ℕ) → (told : List ℕ) → List ℕ
device_told octets told = codes " is a block device of " ++ decimal octets ++ told

-- what is odd of the file of a buffer, which this line names
abbrev pub odd_file : (line : ℕ) → (file told : List ℕ) → List ℕ
odd_file line file told = odd_line true cycbuff line (codes "file " ++ file ++ told)

-- what is told of the file of a buffer, which this line names, by what lies there; of a regular one
-- that is as it should be nothing
unfoldable pub found_text : (line : ℕ) → (file : List ℕ) → Option Found → List ℕ
found_text line file None = []
found_text line file (Some Fit) = []
found_text line file (Some Absent) =
    told_line cycbuff line (codes "file " ++ file ++ codes " isn't there: a start makes it")
found_text line file (Some NoFolder) =
    odd_file line file (codes " can't be made: its folder isn't there")
found_text line file (Some Inn) =
    odd_file line file (codes " is a buffer of INN, over whose articles a start writes")
found_text line file (Some Other) =
    odd_file line file (codes " is no buffer of this program, and a start writes over it")
found_text line file (Some (Device octets)) =
    told_line cycbuff line (codes "file " ++ file ++ device_told octets (codes " octets"))
found_text line file (Some (SmallDevice octets)) =
    odd_file line file (device_told octets (codes " octets, smaller than the buffer"))
found_text line file (Some (OtherDevice octets)) =
    odd_file line file (device_told octets
    (codes " octets with something else on it, which a start without --fresh refuses"))
found_text line file (Some NotRegular) = odd_file line file (codes " is no regular file")
found_text line file (Some Unseen) = odd_file line file (codes " can't be read")
