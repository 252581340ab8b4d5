-- Each part stands at its place, high octet first.
use Rattle.std.proofs.Common.{refl}
use Rattle.cyc_token.proofs.Token.octets.Goals as goal

pub returns-clause-octets : goal.returns-clause-octets
returns-clause-octets c =
    rw (
      c.to_be_bytes-cycle.ensures,
      c.to_be_bytes-first.ensures,
      c.to_be_bytes-length.ensures,
    ) refl
