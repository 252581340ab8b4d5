use Rattle.std.proofs.Common.{◌≡◌, ◌+◌, ◌-◌, ◌^◌, ◌≤◌, min, drop}
use Rattle.path_rules.proofs.UpdateLengths.{octets_of}
use Rattle.path_rules.proofs.update.updated_octets.Given as goal

-- the octets so far and those of the updates left are those of all, as far as a number can say
abbrev pub invariant-loop-field : goal.invariant-loop-field
invariant-loop-field l = record {
  within : l.octets ≤ 2 ^ 64 - 1;
  summed : min (l.octets + octets_of l.own l.expected (drop l.field-index l.field-items))
      (2 ^ 64 - 1)
      ≡ min (l.initial.octets + octets_of l.own l.expected l.field-items) (2 ^ 64 - 1);
}
