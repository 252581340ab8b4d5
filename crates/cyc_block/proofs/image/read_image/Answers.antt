-- An image says its own stamp and payload, and what stands around the payload.
use Rattle.std.proofs.Common.{◌≡◌, ◌∙◌, ℕ, ◌+◌, ◌-◌, ◌≤◌, List, length, take, drop, replicate, not}
use Rattle.std.proofs.Common.{sym, ap, arith, rules, All, refl, subst}
use Rattle.std.proofs.lemmas.List.Elements.{All-replicate}
use Rattle.std.proofs.lemmas.Bool.{false≢true}
use Rattle.std.proofs.lemmas.Slice.Eq.{bytes_eq-Decides}
use Rattle.news_terms.specs.BlockImage.{chunk_size}
use Rattle.cyc_block.specs.Image.{stamped}
use Rattle.cyc_block.specs.declared.image.TheConstants.{HEAD_OCTETS}
use Rattle.cyc_block.proofs.Images.{used_of_image, payload_cut, head_of_image, zeros_of_image}
use Rattle.cyc_block.proofs.Images.{joined_image, behind, cut_length, not_false, zeros_alone}
use Rattle.cyc_block.proofs.image.read_image.Goals as goal

pub returns-then-ne-clause-read : goal.returns-then-ne-clause-read
returns-then-ne-clause-read c b h e =
    let image = c.args.image.now in
    let used = c.from_be_bytes-used.ensures ∙ used_of_image image b h e in
    let stamp = c.read_stamp-stamp.ensures b h e in
    let same = head_of_image image c.head.result c.read_stamp-stamp.result b e stamp
    (c.head.ensures b.payload (sym used)) in
    absurd (false≢true
    (sym (ap not ((bytes_eq-Decides (take HEAD_OCTETS image) c.head.result).1 same))
    ∙ sym c.ne.ensures ∙ c.if-ne.true))

pub returns-then-not-are_zeros-clause-read : goal.returns-then-not-are_zeros-clause-read
returns-then-not-are_zeros-clause-read c b h e =
    let image = c.args.image.now in
    let used = c.from-end.ensures ∙ c.from_be_bytes-used.ensures ∙ used_of_image image b h e in
    let rest = behind image (HEAD_OCTETS + c.from-end.result) c.told-image in
    let zeros = rest ∙ zeros_of_image image c.from-end.result b e used in
    absurd (false≢true (sym c.if-not-are_zeros.true ∙ c.are_zeros.ensures.1
    (subst (All (λ (octet : ℕ). octet ≡ 0)) (sym zeros)
    (All-replicate (λ (octet : ℕ). octet ≡ 0) _ 0 refl))))

pub returns-clause-image : goal.returns-clause-image
returns-clause-image c =
    let image = c.args.image.now in
    let used = c.from-end.result in
    let cut : ℕ = HEAD_OCTETS + used - HEAD_OCTETS in
    let room : used ≤ chunk_size =
    omega (arith, c.from-end.ensures, c.from.ensures, c.if-from-gt-CHUNK_OCTETS.false) in
    let size = cut_length image used cut c.told-image room (omega arith) in
    let rest = behind image (HEAD_OCTETS + used) c.told-image in
    let first = (bytes_eq-Decides (take HEAD_OCTETS image) c.head.result).0
    (not_false _ (sym c.ne.ensures ∙ c.if-ne.false)) in (
      search rules,
      joined_image image c.head.result c.read_stamp-stamp.result used cut c.told-image
          room (omega arith) first
          (c.head.ensures (take cut (drop HEAD_OCTETS image)) (size ∙ c.from-end.ensures))
          (sym rest ∙ zeros_alone _ (c.are_zeros.ensures.0 c.if-not-are_zeros.false)
          ∙ ap (λ (o : List ℕ). replicate (length o) 0) rest),
    )

pub returns-clause-read : goal.returns-clause-read
returns-clause-read c b h e =
    let used = c.from-end.ensures ∙ c.from_be_bytes-used.ensures
    ∙ used_of_image c.args.image.now b h e in
    let payload = payload_cut c.args.image.now _ b e (omega (arith, used)) in
    ap (stamped c.read_stamp-stamp.result) payload ∙ c.read_stamp-stamp.ensures b h e
