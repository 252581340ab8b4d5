-- The digits that hex writes, in upper case, are those of the definition.
use Rattle.std.proofs.Common.{◌∙◌, ap, map, List, ℕ, rules}
use Rattle.std.specs.Char.{to_ascii_uppercase}
use Rattle.hex.specs.Hex.{encode_lower, IsBytes}
use Rattle.cyc_token.proofs.Digits.{upper_text}
use Rattle.cyc_token.proofs.text.upper_digits.Goals as goal

pub returns : goal.returns
returns c =
    let written = rw c.unwrap.ensures at c.encode_to_slice.ensures.written in
    let fit : IsBytes c.args.octets.now = search rules in
    c.make_ascii_uppercase.ensures.after ∙ ap (map to_ascii_uppercase) written
    ∙ ap (λ (l : List ℕ). map to_ascii_uppercase (encode_lower l)) c.as_slice.ensures
    ∙ upper_text c.args.octets.now fit
