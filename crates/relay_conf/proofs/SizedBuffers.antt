-- Buffers that cycbuff.conf says have a size, and there are few of them and few groups.
use Rattle.std.proofs.lemmas.Bool.Decides.{nat_tests}
use Rattle.std.proofs.Common.{◌≡◌, ℕ, ◌^◌, ◌≤◌, List, [], ◌∷◌, ◌++◌, length, map, All, None, Result}
use Rattle.std.proofs.Common.{Ok, get_or, refl, arith, append-nil}
use Rattle.std.specs.Prelude.{◌&&◌, codes, bytes_eq}
use Rattle.std.specs.Option.{option_to_list}
use Rattle.std.proofs.lemmas.Bool.{cond_both}
use Rattle.std.proofs.lemmas.List.{length-append, length-map}
use Rattle.std.proofs.lemmas.List.Elements.{All-map}
use Rattle.relay_conf.specs.declared.cycbuff.BufferConf.{BufferConf}
use Rattle.relay_conf.specs.declared.faults.Fault.{Fault}
use Rattle.relay_conf.specs.Cycbuff.{CycbuffLine, BufferLine, buffer_sized, buffer_line, group_line}
use Rattle.relay_conf.specs.Cycbuff.{cycbuff_parts, cycbuff_line, buffer_of, buffers_of}
use Rattle.relay_conf.specs.Cycbuff.{group_name_of, group_names, early_fault, groups_of, is_file}
use Rattle.relay_conf.specs.Faults.{first_fault}
use Rattle.relay_conf.specs.Words.{is_name}
use Rattle.relay_conf.proofs.FaultlessLines.{all_given, given_keeps, within_range}

-- THE SIZES OF BUFFERS

-- a buffer has a size that a token has room for
abbrev pub Has_size : BufferConf → Type 0
Has_size buffer = (1 ≤ buffer.blocks) × (buffer.blocks ≤ 2 ^ 22)

-- so has the buffer that a line says, where it says one
abbrev Is_sized : Result CycbuffLine Fault → Type 0
Is_sized (Ok (BufferLine name file blocks)) = (1 ≤ blocks) × (blocks ≤ 2 ^ 22)
Is_sized said = Unit {0}

-- So has that of what follows `cycbuff`,
sized_buffer : (after : List (List ℕ)) → Is_sized (buffer_line after)
sized_buffer (name ∷ file ∷ size ∷ []) =
    cond_both (is_name name && is_file file) _ _ Is_sized
    (λ e. within_range Is_sized (buffer_sized name file) 1 2097152 size tt
    (λ n least most. (omega arith, omega arith))) (λ e. tt)
sized_buffer after = tt

-- of what follows another key,
sized_group : (after : List (List ℕ)) → Is_sized (group_line after)
sized_group after = grind arith

-- of the parts of a line,
sized_parts : (all : List (List ℕ)) → Is_sized (cycbuff_parts all)
sized_parts [] = tt
sized_parts (word ∷ after) =
    cond_both (bytes_eq word (codes "cycbuff")) _ _ Is_sized (λ e. sized_buffer after)
    (λ e. cond_both (bytes_eq word (codes "metacycbuff")) _ _ Is_sized (λ e. sized_group after)
    (λ e. cond_both (bytes_eq word (codes "cycbuffupdate")) _ _ Is_sized
    (λ e. grind arith)
    (λ e. cond_both (bytes_eq word (codes "refreshinterval")) _ _ Is_sized
    (λ e. grind arith) (λ e. tt))))

-- and of a line.
sized_line : (line : List ℕ) → Is_sized (cycbuff_line line)
sized_line line = grind (arith, sized_parts)

-- The buffers of lines have such sizes.
pub sized_lines : (lines : List (List ℕ)) → All Has_size (buffers_of (map cycbuff_line lines))
sized_lines lines =
    all_given Is_sized Has_size buffer_of
    (elim [ Ok (BufferLine name file blocks) ↦ λ is. is | one ↦ λ is. tt ])
    (map cycbuff_line lines)
    (All-map Is_sized cycbuff_line lines (λ k d less. sized_line (get_or lines k d)))

-- HOW MANY BUFFERS AND GROUPS

-- A line without a fault adds a buffer to fewer than 256,
few_with : (before : List (Result CycbuffLine Fault)) (line : Result CycbuffLine Fault)
    → early_fault before line ≡ None → length (buffers_of before) ≤ 256
    → length (buffers_of before ++ option_to_list (buffer_of line)) ≤ 256
few_with before line e few = grind (arith, nat_tests, length-append, length-map, append-nil)

-- so there are at most so many,
pub few_buffers : (said : List (Result CycbuffLine Fault)) → first_fault early_fault [] said ≡ None
    → length (buffers_of said) ≤ 256
few_buffers said none =
    given_keeps early_fault buffer_of (λ buffers. length buffers ≤ 256) (omega arith) few_with said
    none

-- and so it is with groups.
few_named : (before : List (Result CycbuffLine Fault)) (line : Result CycbuffLine Fault)
    → early_fault before line ≡ None → length (group_names before) ≤ 256
    → length (group_names before ++ option_to_list (group_name_of line)) ≤ 256
few_named before line e few = grind (arith, nat_tests, length-append, append-nil)

-- A group has a name, and a name a group.
as_many : (buffers : List BufferConf) (said : List (Result CycbuffLine Fault))
    → length (groups_of buffers said) ≡ length (group_names said)
as_many buffers [] = refl
as_many buffers (line ∷ said) = grind (arith, as_many buffers said)

-- So there are at most so many groups.
pub few_groups : (buffers : List BufferConf) (said : List (Result CycbuffLine Fault))
    → first_fault early_fault [] said ≡ None → length (groups_of buffers said) ≤ 256
few_groups buffers said none =
    let few = given_keeps early_fault group_name_of (λ names. length names ≤ 256) (omega arith)
    few_named said none in
    omega (arith, few, as_many buffers said)
