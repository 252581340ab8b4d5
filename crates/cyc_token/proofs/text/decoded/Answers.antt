-- Hex decodes digits in pairs exactly where each octet is one.
use Rattle.std.proofs.Common.{◌∙◌, ap, sym, inl, inr}
use Rattle.std.specs.Result.{is_ok}
use Rattle.std.specs.List.{list_all}
use Rattle.std.proofs.lemmas.Bool.{cases_Bool, false≢true}
use Rattle.std.proofs.lemmas.List.Sums.{AllPass-from_list_all, list_all-from_AllPass}
use Rattle.hex.specs.Hex.{is_hex_digit}
use Rattle.hex.proofs.HexLemmas.{IsOk-decode_sized, IsOk-written}
use Rattle.cyc_token.proofs.text.decoded.Goals as goal

pub returns-in-Ok-clause-digits : goal.returns-in-Ok-clause-digits
returns-in-Ok-clause-digits c =
    let written = IsOk-written _ _ _ c.decode_to_slice.ensures.value in
    let digits = IsOk-decode_sized c.args.digits.now 14 in
    list_all-from_AllPass is_hex_digit c.args.digits.now
    (digits.0 (written.0 (ap is_ok c.in-Ok.is))).1

pub returns-in-Err-clause-digits : goal.returns-in-Err-clause-digits
returns-in-Err-clause-digits c =
    let written = IsOk-written _ _ _ c.decode_to_slice.ensures.value in
    let digits = IsOk-decode_sized c.args.digits.now 14 in
    elim (cases_Bool (list_all is_hex_digit c.args.digits.now)) [
      | inl all ↦
          let each = AllPass-from_list_all is_hex_digit c.args.digits.now all in
          absurd (false≢true (sym (ap is_ok c.in-Err.is) ∙ written.1 (digits.1 (c.requires, each))))
      | inr some ↦ some
    ]
