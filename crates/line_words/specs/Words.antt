-- What stands between the words of a line.
use Rattle.std.specs.Prelude.{ℕ, ◌==◌, Bool, List}
use Rattle.news_terms.specs.Lines.{space, is_white, words_between}
use Rattle.line_words.specs.declared.words.Between.{Between}
use Rattle.line_words.specs.declared.words.Between.TheVariants.{Spaces, White}

-- an octet that is an SP (RFC 5234, appendix B.1)
abbrev pub is_space : ℕ → Bool
is_space c = c == space

-- an octet that stands between words: an SP, or an SP or a TAB (docs/FORMATS.md, Configuration and
-- Command lines)
abbrev pub separates : Between → ℕ → Bool
separates Spaces = is_space
separates White = is_white

-- the words of a line, by what stands between them (docs/FORMATS.md, Configuration and Command
-- lines)
abbrev pub words : Between → List ℕ → List (List ℕ)
words between line = words_between (separates between) line
