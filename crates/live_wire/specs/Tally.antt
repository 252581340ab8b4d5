-- Replies and octets, counted.
use Rattle.std.specs.Prelude.{ℕ, ◌||◌, Bool, true, false, List, codes, cond, take}
use Rattle.std.specs.Hash.DefaultHasher.{wrapping_add}
use Rattle.std.specs.Str.{bytes_eq}
use Rattle.live_wire.specs.declared.tally.Tally.{Tally}

-- of a session that said and read nothing
abbrev pub no_tally : Tally
no_tally = record { accepted = 0; known = 0; refused = 0; later = 0; octets = 0 }

-- a reply of one of two codes counts as one
abbrev pub worth_of : (code one other : List ℕ) → ℕ
worth_of code one other = cond (bytes_eq code one || bytes_eq code other) 1 0

-- once more of one of two codes, if the reply has it
abbrev pub on_code : (one other said : List ℕ) → ℕ → ℕ
on_code one other said n = wrapping_add n (worth_of (take 3 said) one other)

-- what is counted once this was said: 239 and 235 take an article, 438 and 435 know it, 439 and 437
-- refuse it, 431 and 436 ask for it later (RFC 4644 section 2, RFC 3977 section 6.3.2); one that
-- was known when it was sent is known, by the code that refuses it too
abbrev pub after_reply : (was_known : Bool) → (said : List ℕ) → Tally → Tally
after_reply true said tally = record tally { known = wrapping_add tally.known 1 }
after_reply false said tally =
    record tally {
      accepted = on_code (codes "239") (codes "235") said tally.accepted;
      known = on_code (codes "438") (codes "435") said tally.known;
      refused = on_code (codes "439") (codes "437") said tally.refused;
      later = on_code (codes "431") (codes "436") said tally.later;
    }

-- what is counted once so many octets were read
abbrev pub after_octets : (octets : ℕ) → Tally → Tally
after_octets octets tally = record tally { octets = wrapping_add tally.octets octets }

-- what two have counted
abbrev pub tally_sum : (one other : Tally) → Tally
tally_sum one other =
    record {
      accepted = wrapping_add one.accepted other.accepted;
      known = wrapping_add one.known other.known;
      refused = wrapping_add one.refused other.refused;
      later = wrapping_add one.later other.later;
      octets = wrapping_add one.octets other.octets;
    }
