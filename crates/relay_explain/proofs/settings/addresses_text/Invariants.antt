use Rattle.std.proofs.Common.{◌≡◌, ◌++◌, codes, flat_map, take}
use Rattle.relay_explain.specs.Settings.{address_text}
use Rattle.relay_explain.proofs.settings.addresses_text.Given as goal

-- behind the first stand those so far
abbrev pub invariant-loop-address : goal.invariant-loop-address
invariant-loop-address l =
    l.text.items
    ≡ l.initial.text.items
    ++ flat_map (λ one. codes " " ++ address_text one) (take l.address-index l.more)
