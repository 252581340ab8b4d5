use Rattle.std.proofs.Common.{◌∙◌, ap, drop, take}
use Rattle.news_terms.specs.BlockImage.{chunk_size}
use Rattle.live_store.proofs.AheadLemmas.{taken_front}
use Rattle.live_store.proofs.ahead.Ahead.give.Goals as goal

pub returns-clause-chunk : goal.returns-clause-chunk
returns-clause-chunk c =
    taken_front c.min-octets.result c.in_ok-place.place c.deref.result.now
    c.copy_from_slice.new.self _ c.min-octets.ensures c.copy_from_slice.ensures.after
    ∙ ap (λ l. take chunk_size (drop c.in_ok-place.place l)) c.deref.ensures.value
    ∙ ap (λ p. take chunk_size (drop p c.args.self.now.octets.items)) c.in_ok-place.ensures.place
