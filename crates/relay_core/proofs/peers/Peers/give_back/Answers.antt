use Rattle.std.proofs.Common.{◌∙◌, None, Some, refl, sym, true≢false}
use Rattle.relay_core.proofs.PeerLemmas.{GivesPeer-from_write, SamePlaces-from_write}
use Rattle.relay_core.proofs.PeerLemmas.{has_place-entry}
use Rattle.relay_core.proofs.peers.Peers.give_back.Goals as goal

-- the peer is written to the place
pub returns-in-Some-clause-given : goal.returns-in-Some-clause-given
returns-in-Some-clause-given c = λ has.
    GivesPeer-from_write _ _ _ _ c.in-Some.place.now _ (sym c.in-Some.ensures.value)
    c.replace.ensures.after (c.get_mut.follows.holds c.replace.new.self)

-- a number without a place isn't found
pub returns-in-Some-clause-dropped : goal.returns-in-Some-clause-dropped
returns-in-Some-clause-dropped c = λ has.
    let found = has_place-entry c.args.self.now c.args.number (Some c.in-Some.place.now)
    (sym c.in-Some.ensures.value) in
    absurd (true≢false (sym found ∙ has))

-- the place stays
pub returns-in-Some-clause-places : goal.returns-in-Some-clause-places
returns-in-Some-clause-places c =
    SamePlaces-from_write _ _ _ _ (c.get_mut.follows.holds c.replace.new.self)

-- a number that has a place is found
pub returns-in-None-clause-given : goal.returns-in-None-clause-given
returns-in-None-clause-given c = λ has.
    let missed = has_place-entry c.args.self.now c.args.number None (sym c.in-None.ensures.value) in
    absurd (true≢false (sym has ∙ missed))

-- a number without a place has no peer
pub returns-in-None-clause-dropped : goal.returns-in-None-clause-dropped
returns-in-None-clause-dropped c = rw c.get_mut.follows.holds-at-none (λ has s. refl)

-- nor has it a place then
pub returns-in-None-clause-places : goal.returns-in-None-clause-places
returns-in-None-clause-places c =
    rw c.get_mut.follows.holds-at-none (record { each = λ s. refl; count = refl })
