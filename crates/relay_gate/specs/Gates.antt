-- What is told of a peer's sessions (docs/OPERATING.md, Lines).
use Rattle.std.specs.Prelude.{◌≡◌, ◌⊎◌, ℕ, Bool, List, [], ◌∷◌, ◌++◌, Option, codes, decimal}
use Rattle.std.specs.Prelude.{map}
use Rattle.std.specs.Option.{option_map}
use Rattle.live_session.specs.declared.wire.Finish.{Finish}
use Rattle.live_session.specs.declared.wire.Finish.TheVariants as finishes
use Rattle.live_wire.specs.declared.tally.Tally.{Tally}
use Rattle.relay_gate.specs.News.{all_in}
use Rattle.relay_gate.specs.declared.gate.CountingGate.{CountingGate}
use Rattle.relay_gate.specs.declared.refusals.Placed.{Placed}
use Rattle.relay_gate.specs.declared.refusals.Refused.{Refused}
use Rattle.relay_gate.specs.declared.refusals.Worded.{Worded}

-- how a session ended, in one word
abbrev pub finish_word : Finish → List ℕ
finish_word finishes.Quit = codes "Quit"
finish_word finishes.Broken = codes "Broken"
finish_word finishes.Fault = codes "Fault"
finish_word finishes.TurnsSpent = codes "TurnsSpent"
finish_word finishes.Held = codes "Held"

-- what was said and read, as a line tells it
abbrev pub told_text : Tally → List ℕ
told_text tally =
    codes "accepted=" ++ (decimal tally.accepted
    ++ (codes " known=" ++ (decimal tally.known
    ++ (codes " refused=" ++ (decimal tally.refused
    ++ (codes " later=" ++ (decimal tally.later
    ++ (codes " octets=" ++ decimal tally.octets))))))))

-- how many articles were refused for what their text or their id is, as a line tells it
abbrev pub worded_text : Worded → List ℕ
worded_text worded =
    codes "Size=" ++ (decimal worded.size
    ++ (codes " Grammar=" ++ (decimal worded.grammar
    ++ (codes " IdMismatch=" ++ (decimal worded.id_mismatch
    ++ (codes " BadPath=" ++ decimal worded.bad_path))))))

-- the same of where and when they come from, and of where they would go
abbrev pub placed_text : Placed → List ℕ
placed_text placed =
    codes "Loop=" ++ (decimal placed.loops
    ++ (codes " Date=" ++ (decimal placed.date
    ++ (codes " NoClass=" ++ (decimal placed.no_class
    ++ (codes " TooLarge=" ++ decimal placed.too_large))))))

-- how many were refused for each reason
abbrev pub refusals_text : Refused → List ℕ
refusals_text refused =
    worded_text refused.worded ++ (codes " " ++ placed_text refused.placed)

-- the line of a peer in a report: its name, how many of its sessions are open, what they have said
-- and read so far, and how many offers they have open
abbrev pub peer_line : (name : List ℕ) → (sessions : ℕ) → Tally → (offers : ℕ) → List ℕ
peer_line name sessions tally offers =
    codes "peer " ++ (name ++ (codes " open=" ++ (decimal sessions
    ++ (codes " " ++ (told_text tally ++ (codes " offers=" ++ (decimal offers
    ++ codes "\n")))))))

-- the line of a peer that tells for which reasons its articles were refused
abbrev pub reasons_line : (name : List ℕ) → Refused → List ℕ
reasons_line name refused =
    codes "refused " ++ (name ++ (codes " " ++ (refusals_text refused ++ codes "\n")))

-- the line of a peer that tells from which address its newest session is connected
abbrev pub from_line : (name address : List ℕ) → List ℕ
from_line name address = codes "from " ++ (name ++ (codes "=" ++ (address ++ codes "\n")))

-- the line of a peer of this name, whatever was counted
abbrev pub IsPeerLine : (name line : List ℕ) → Type 0
IsPeerLine name line =
    (sessions : ℕ) × (tally : Tally) × (offers : ℕ)
    × (line ≡ peer_line name sessions tally offers)

-- its line of reasons
abbrev pub IsReasonsLine : (name line : List ℕ) → Type 0
IsReasonsLine name line = (refused : Refused) × (line ≡ reasons_line name refused)

-- its line of an address, none where it had no session
abbrev pub IsFromLine : (name line : List ℕ) → Type 0
IsFromLine name line = (line ≡ []) ⊎ ((address : List ℕ) × (line ≡ from_line name address))

-- the names of a gate's peers, in their order
abbrev pub names_of : CountingGate → List (List ℕ)
names_of gate = map (λ counts. counts.name.now) gate.counts.items

-- of which articles a gate has lines put, where it has any put
abbrev pub news_in : CountingGate → Option Bool
news_in gate = option_map all_in gate.news

-- the text is what is told of each of these peers, in their order
abbrev pub AreLinesOf : (IsLine : List ℕ → List ℕ → Type 0) → (names : List (List ℕ))
    → (text : List ℕ) → Type 0
AreLinesOf IsLine [] text = text ≡ []
AreLinesOf IsLine (name ∷ more) text =
    (line : List ℕ) × (rest : List ℕ) × IsLine name line × (text ≡ line ++ rest)
    × AreLinesOf IsLine more rest

-- a line for each of these peers
abbrev pub ArePeerLines : (names : List (List ℕ)) → (text : List ℕ) → Type 0
ArePeerLines names text = AreLinesOf IsPeerLine names text

-- a line of reasons for each
abbrev pub AreReasonsLines : (names : List (List ℕ)) → (text : List ℕ) → Type 0
AreReasonsLines names text = AreLinesOf IsReasonsLine names text

-- a line of an address for each that had a session
abbrev pub AreFromLines : (names : List (List ℕ)) → (text : List ℕ) → Type 0
AreFromLines names text = AreLinesOf IsFromLine names text

-- what a report tells of these peers: a line of each, then their reasons, then their addresses
pub record ArePeersTold (names : List (List ℕ)) (text : List ℕ) : Type 0 where
  pub peers : List ℕ
  pub reasons : List ℕ
  pub addresses : List ℕ
  pub are_peers : ArePeerLines names peers
  pub are_reasons : AreReasonsLines names reasons
  pub are_addresses : AreFromLines names addresses
  pub is : text ≡ peers ++ (reasons ++ addresses)
