-- The texts of several buffers, as the program's values show them.
use Rattle.std.specs.Prelude.{List, Vec, flat_map}
use Rattle.std.specs.declared.alloc.Global.{Global}
use Rattle.found_again.specs.declared.text.FoundText.{FoundText}

-- the texts of a buffer
abbrev pub texts_of : Vec FoundText Global → List FoundText
texts_of buffer = buffer.items

-- those of all buffers, one buffer after the other
abbrev pub all_of : List (Vec FoundText Global) → List FoundText
all_of buffers = flat_map texts_of buffers
