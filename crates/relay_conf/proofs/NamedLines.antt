-- Lines of relay.conf that begin with the name of a peer.
use Rattle.std.proofs.Common.{◌≡◌, ℕ, ◌+◌, ◌<◌, Bool, true, false, List, length, drop, get_or}
use Rattle.std.proofs.Common.{Option, Some, None, Err, refl, ap, ◌∙◌}
use Rattle.std.specs.Prelude.{bytes_eq, if◌then◌else◌}
use Rattle.line_words.specs.Numbers.{number_within}
use Rattle.relay_conf.specs.declared.faults.Fault.TheVariants.{Syntax}
use Rattle.relay_conf.specs.RelayLines.{RawLine, connections_line, connections_numbered}
use Rattle.relay_conf.specs.Relay.{connections_for, is_peer}
use Rattle.relay_conf.specs.RelayDraft.{first_unknown}
use Rattle.relay_conf.specs.Words.{is_name}
use Rattle.relay_conf.specs.declared.relay.NamedLine.{NamedLine}
use Rattle.relay_conf.specs.declared.relay.Peer.{Peer}
use Rattle.relay_conf.specs.declared.relay.PeerConnections.{PeerConnections}
use Rattle.relay_conf.proofs.FirstFaults.{drop_one}

-- what a line of this name says, Syntax where there is none
abbrev pub named : (List ℕ → RawLine) → (name : Option (List ℕ)) → RawLine
named line None = Err Syntax
named line (Some name) = line name

-- Where the name is the word, if that is one, so it is by whether it is one.
pub named_if : (line : List ℕ → RawLine) (is : Bool) (word : List ℕ) (name : Option (List ℕ))
    → name ≡ (if is then Some word else None)
    → named line name ≡ (if is then line word else Err Syntax)
named_if line true word name e = ap (named line) e
named_if line false word name e = ap (named line) e

-- So it is with the connections of a peer.
pub connections_said : (words : Option (List ℕ × List ℕ)) (word number : List ℕ)
    (name : Option (List ℕ)) (connections : Option ℕ) → Some (word, number) ≡ words
    → name ≡ (if is_name word then Some word else None)
    → connections ≡ number_within 1 64 number
    → named (λ n. connections_numbered n connections) name ≡ connections_line words
connections_said words word number name connections two names numbers =
    named_if (λ n. connections_numbered n connections) (is_name word) word name names
    ∙ ap (λ (c : Option ℕ). if is_name word then connections_numbered word c else Err Syntax)
    numbers
    ∙ ap connections_line two

-- The connections of a name aren't those of another one,
pub of_another : (all : List PeerConnections) (name : List ℕ) (i : ℕ) (d : PeerConnections)
    → i < length all → bytes_eq name (get_or all i d).name ≡ false
    → connections_for (drop i all) name ≡ connections_for (drop (i + 1) all) name
of_another all name i d less other =
    ap (λ (rest : List PeerConnections). connections_for rest name) (drop_one all i d less)
    ∙ rw other refl

-- and are those of the first that has it.
pub of_name : (all : List PeerConnections) (name : List ℕ) (i : ℕ) (d : PeerConnections)
    → i < length all → bytes_eq name (get_or all i d).name ≡ true
    → connections_for (drop i all) name ≡ (get_or all i d).connections
of_name all name i d less same =
    ap (λ (rest : List PeerConnections). connections_for rest name) (drop_one all i d less)
    ∙ rw same refl

-- A name that is a peer's is passed.
pub known_next : (peers : List Peer) (named : List NamedLine) (i : ℕ) (d : NamedLine)
    → i < length named → is_peer peers (get_or named i d).name ≡ true
    → first_unknown peers (drop i named) ≡ first_unknown peers (drop (i + 1) named)
known_next peers named i d less known =
    ap (first_unknown peers) (drop_one named i d less) ∙ rw known refl
