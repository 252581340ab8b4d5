-- The buffers of the configuration K2: what its cycbuff.conf says (docs/FORMATS.md, K2).
use Rattle.std.specs.Prelude.{ℕ, List, [], ◌∷◌, codes}
use Rattle.relay_conf.specs.declared.cycbuff.Mode.TheVariants.{Sequential}
use Rattle.relay_conf.specs.Cycbuff.{CycbuffSettings}

-- the lines of cycbuff.conf in K2 (docs/FORMATS.md, K2)
abbrev pub k2_cycbuff : List (List ℕ)
k2_cycbuff =
    codes "cycbuff:P:p.buf:4" ∷ codes "cycbuff:Q:q.buf:3"
    ∷ codes "metacycbuff:G:P,Q:SEQUENTIAL" ∷ []

-- the buffers P of 8 blocks and Q of 6, and one group G that fills the one and then the other
-- (docs/FORMATS.md, K2)
abbrev pub k2_buffers : CycbuffSettings
k2_buffers =
    record {
      buffers = record { name = codes "P"; file = codes "p.buf"; blocks = 8 }
          ∷ record { name = codes "Q"; file = codes "q.buf"; blocks = 6 } ∷ [];
      groups = record { name = codes "G"; buffers = 0 ∷ 1 ∷ []; mode = Sequential } ∷ [];
    }
