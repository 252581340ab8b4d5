use Rattle.std.proofs.Common.{◌≡◌, drop, map}
use Rattle.relay_drill.specs.Fault.{keyword_among, keyword_view}
use Rattle.relay_drill.proofs.script.keyword_among.Given as goal

-- none so far is spelled so
abbrev pub invariant-loop-spelling : goal.invariant-loop-spelling
invariant-loop-spelling l =
    keyword_among (map (λ one. (one.0.now, keyword_view one.1)) l.spelled) l.word
    ≡ keyword_among (map (λ one. (one.0.now, keyword_view one.1)) (drop l.spelling-index l.spelled))
    l.word
