use Rattle.std.proofs.Common.{◌∙◌, ap, ap₂, refl, map, List, ℕ, ◌∷◌, ◌++◌, [], Ok}
use Rattle.std.specs.HashSet.{contains_text}
use Rattle.relay_conf.specs.RelayDraft.{Reading, draft_view}
use Rattle.relay_conf.specs.RelayLines.{ConnectionsLine}
use Rattle.relay_conf.specs.declared.relay.NamedLine.{NamedLine}
use Rattle.relay_conf.specs.declared.relay.PeerConnections.{PeerConnections}
use Rattle.relay_conf.proofs.NameTexts.{listed_more}
use Rattle.relay_conf.proofs.RelayReadings.{name_listed, no_memory}
use Rattle.relay_conf.proofs.relay.RelayDraft.add_connections.Goals as goal

-- the name of connections
abbrev name_of : PeerConnections → List ℕ
name_of one = one.name

pub returns-in_err-add_name : goal.returns-in_err-add_name
returns-in_err-add_name c = λ listed. no_memory _ c.from_residual.ensures.1

pub returns-then-not-branch : goal.returns-then-not-branch
returns-then-not-branch c = λ listed. record {
  step = record {
    said = Ok (ConnectionsLine c.args.name.now c.args.connections);
    says = refl;
    found = (name_listed (map name_of c.args.self.now.connections.items) c.args.name.now
        (contains_text c.args.self.now.connected_names c.args.name.now) c.in_ok-add_name.field-0
        (listed.1 c.args.name.now) c.in_ok-add_name.ensures.added).0
        c.if-not-branch.true;
  };
  listed = tt;
}

pub returns-in_err-push_connections : goal.returns-in_err-push_connections
returns-in_err-push_connections c = λ listed.
    no_memory _ c.from_residual-in_err-push_connections.ensures.1

pub returns-in_err-push_named : goal.returns-in_err-push_named
returns-in_err-push_named c = λ listed. no_memory _ c.from_residual-in_err-push_named.ensures.1

pub returns : goal.returns
returns c = λ listed.
    let old = c.args.self.now in
    let text = c.as_bytes-name.ensures.value in
    let under : List ℕ → PeerConnections =
    λ name. record { name = name; connections = c.args.connections } in
    let grown : List ℕ → List PeerConnections =
    λ name. old.connections.items ++ under name ∷ [] in
    let named : List ℕ → List NamedLine =
    λ name. old.named.items ++ record { line = c.args.line; name = name } ∷ [] in
    let more : List PeerConnections → List NamedLine → Reading =
    λ connections names. record (draft_view old) { connections = connections; named = names } in
    let kept = c.in_ok-push_connections.ensures ∙ ap grown text in
    record {
      step = record {
        line = ConnectionsLine c.args.name.now c.args.connections;
        says = refl;
        none = (name_listed (map name_of old.connections.items) c.args.name.now
            (contains_text old.connected_names c.args.name.now) c.in_ok-add_name.field-0
            (listed.1 c.args.name.now) c.in_ok-add_name.ensures.added).1
            c.if-not-branch.false;
        reading = ap₂ more kept (c.in_ok-push_named.ensures ∙ ap named text);
      };
      listed = (
        listed.0,
        λ name. listed_more name_of old.connections.items _ (under c.args.name.now) _ _ name
            (c.in_ok-add_name.ensures.names name) (listed.1 name) kept,
      );
    }
