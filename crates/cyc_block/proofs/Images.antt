-- The octets of a block: what is written is the image, and what is read off an image is its block.
use Rattle.std.proofs.Common.{◌≡◌, ◌∙◌, ℕ, ◌+◌, ◌-◌, ◌≤◌, List, [], ◌∷◌, ◌++◌, length, take, drop}
use Rattle.std.proofs.Common.{replicate, get_or, append_assoc, refl, sym, ap, arith, Bool, true}
use Rattle.std.proofs.Common.{false, not, All, suc}
use Rattle.std.specs.Int.{w16, from_be_bytes}
use Rattle.std.proofs.lemmas.Nat.{from_be_bytes-to_be_bytes_2}
use Rattle.std.proofs.lemmas.List.{drop-replicate, drop-drop, length-drop, length-replicate}
use Rattle.std.proofs.lemmas.List.{length-take, take-append-drop, take_all}
use Rattle.std.proofs.Math.Seq.{take-append_seam, drop-append_seam}
use borrow.Rule.Slice.PartMut.{post_of}
use Rattle.news_terms.specs.BlockImage.{Block, IsBlock, block_head, block_image, chunk_size}
use Rattle.cyc_block.specs.declared.TheConstants.{BLOCK_OCTETS}
use Rattle.cyc_block.specs.declared.image.TheConstants.{HEAD_OCTETS}
use Rattle.cyc_block.specs.declared.image.Stamp.{Stamp}
use Rattle.cyc_block.specs.Image.{stamped}

-- a head, a payload and the zeros left behind it are the image of the block
pub written_image : (s : Stamp) (payload head held : List ℕ) (used : ℕ)
    → head ≡ block_head (stamped s payload) → held ≡ payload → used ≡ length payload
    → head ++ (held ++ post_of {X = ℕ} HEAD_OCTETS used (replicate BLOCK_OCTETS 0))
    ≡ block_image (stamped s payload)
written_image s payload head held used is_head is_payload is_used =
    let filled : post_of {X = ℕ} HEAD_OCTETS used (replicate BLOCK_OCTETS 0)
    ≡ replicate (chunk_size - length payload) 0 =
    drop-replicate used chunk_size 0 ∙ ap (λ n. replicate (chunk_size - n) 0) is_used in
    rw (is_head, is_payload, filled) (sym (append_assoc (block_head (stamped s payload)) payload
    (replicate (chunk_size - length payload) 0)))

-- how many octets an image says that its block holds
pub used_of_image : (octets : List ℕ) (b : Block) → IsBlock b → octets ≡ block_image b
    → from_be_bytes w16 (get_or octets 20 0 ∷ get_or octets 21 0 ∷ []) ≡ length b.payload
used_of_image octets b h is_image =
    ap (λ (o : List ℕ). from_be_bytes w16 (get_or o 20 0 ∷ get_or o 21 0 ∷ [])) is_image
    ∙ from_be_bytes-to_be_bytes_2 (length b.payload) (omega (arith, h.at_most))

-- the octets that a block holds, read off its image
pub payload_of_image : (b : Block)
    → take (length b.payload) (drop HEAD_OCTETS (block_image b)) ≡ b.payload
payload_of_image b = take-append_seam b.payload (replicate (chunk_size - length b.payload) 0)

-- the head of the stamp that an image says stands at the front of it
pub head_of_image : (octets head : List ℕ) (s : Stamp) (b : Block) → octets ≡ block_image b
    → stamped s b.payload ≡ b → head ≡ block_head (stamped s b.payload)
    → take HEAD_OCTETS octets ≡ head
head_of_image octets head s b is_image is_stamp is_head =
    ap (λ (o : List ℕ). take HEAD_OCTETS o) is_image ∙ ap block_head (sym is_stamp) ∙ sym is_head

-- zeros stand behind the payload of an image
pub zeros_of_image : (octets : List ℕ) (used : ℕ) (b : Block) → octets ≡ block_image b
    → used ≡ length b.payload
    → drop (HEAD_OCTETS + used) octets
    ≡ replicate (length (drop (HEAD_OCTETS + used) octets)) 0
zeros_of_image octets used b is_image is_used =
    let zeros : drop (HEAD_OCTETS + used) octets
    ≡ replicate (chunk_size - length b.payload) 0 =
    ap (λ n. drop (HEAD_OCTETS + n) octets) is_used
    ∙ ap (λ (o : List ℕ). drop (HEAD_OCTETS + length b.payload) o) is_image
    ∙ sym (drop-drop (length b.payload) HEAD_OCTETS (block_image b))
    ∙ drop-append_seam b.payload (replicate (chunk_size - length b.payload) 0) in
    zeros
    ∙ ap (λ n. replicate n 0)
    (sym (ap (λ (o : List ℕ). length o) zeros
    ∙ length-replicate (chunk_size - length b.payload) 0))

-- what is behind so many octets of a block, cut at the block's end, is all that is behind them
pub behind : (octets : List ℕ) (end : ℕ) → length octets ≡ BLOCK_OCTETS
    → take (BLOCK_OCTETS - end) (drop end octets) ≡ drop end octets
behind octets end long = take_all (BLOCK_OCTETS - end) (drop end octets)
    (omega (arith, long, length-drop end octets))

-- how many octets are cut off behind a head
pub cut_length : (octets : List ℕ) (used cut : ℕ) → length octets ≡ BLOCK_OCTETS
    → used ≤ chunk_size → cut ≡ used → length (take cut (drop HEAD_OCTETS octets)) ≡ used
cut_length octets used cut long room is_cut =
    let whole = length-drop HEAD_OCTETS octets in
    let part = length-take cut (drop HEAD_OCTETS octets) in
    omega (arith, whole, part, long, room, is_cut)

-- how many are left behind a payload
left_behind : (long used size : ℕ) → long ≡ BLOCK_OCTETS → size ≡ used
    → long - (HEAD_OCTETS + used) ≡ chunk_size - size
left_behind long used size is_long is_size = omega (arith, is_long, is_size)

-- what isn't false is true
pub not_false : (b : Bool) → not b ≡ false → b ≡ true
not_false true e = refl
not_false false e = sym e

-- octets that begin with a head, and have zeros behind the payload, are an image
pub joined_image : (octets head : List ℕ) (s : Stamp) (used cut : ℕ)
    → length octets ≡ BLOCK_OCTETS → used ≤ chunk_size → cut ≡ used
    → take HEAD_OCTETS octets ≡ head
    → head ≡ block_head (stamped s (take cut (drop HEAD_OCTETS octets)))
    → drop (HEAD_OCTETS + used) octets
    ≡ replicate (length (drop (HEAD_OCTETS + used) octets)) 0
    → octets ≡ block_image (stamped s (take cut (drop HEAD_OCTETS octets)))
joined_image octets head s used cut long room is_cut first is_head zeros =
    let payload : List ℕ = take cut (drop HEAD_OCTETS octets) in
    let size : length payload ≡ used = cut_length octets used cut long room is_cut in
    let rest : drop cut (drop HEAD_OCTETS octets) ≡ replicate (chunk_size - length payload) 0 =
    ap (λ n. drop n (drop HEAD_OCTETS octets)) is_cut ∙ drop-drop used HEAD_OCTETS octets ∙ zeros
    ∙ ap (λ n. replicate n 0)
    (length-drop (HEAD_OCTETS + used) octets ∙ left_behind (length octets) used (length payload)
    long size) in
    sym (take-append-drop HEAD_OCTETS octets)
    ∙ ap (λ (o : List ℕ). o ++ drop HEAD_OCTETS octets) (first ∙ is_head)
    ∙ ap (λ (o : List ℕ). block_head (stamped s payload) ++ o)
    (sym (take-append-drop cut (drop HEAD_OCTETS octets))
    ∙ ap (λ (o : List ℕ). payload ++ o) rest)
    ∙ sym (append_assoc (block_head (stamped s payload)) payload
    (replicate (chunk_size - length payload) 0))

-- the payload that the octets of a block say, cut at the place that they say
pub payload_cut : (octets : List ℕ) (end : ℕ) (b : Block) → octets ≡ block_image b
    → end ≡ length b.payload → take end (drop HEAD_OCTETS octets) ≡ b.payload
payload_cut octets end b is_image is_end =
    ap (λ n. take n (drop HEAD_OCTETS octets)) is_end
    ∙ ap (λ (o : List ℕ). take (length b.payload) (drop HEAD_OCTETS o)) is_image
    ∙ payload_of_image b

-- octets each of which is 0 are so many zeros
pub zeros_alone : (octets : List ℕ) → All (λ octet. octet ≡ 0) octets
    → octets ≡ replicate (length octets) 0
zeros_alone [] all = refl
zeros_alone (octet ∷ octets) all =
    ap (λ (first : ℕ). first ∷ octets) (all 0 0 (omega arith))
    ∙ ap (λ (rest : List ℕ). 0 ∷ rest)
    (zeros_alone octets (λ k d h. all (suc k) d (omega (arith, h))))
