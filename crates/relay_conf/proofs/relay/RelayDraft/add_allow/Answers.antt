use Rattle.std.proofs.Common.{◌∙◌, ap, ap₂, refl, map, List, ℕ, ◌∷◌, ◌++◌, []}
use Rattle.relay_conf.specs.RelayDraft.{Reading, draft_view, named_allow}
use Rattle.relay_conf.specs.RelayLines.{AllowLine}
use Rattle.relay_conf.specs.RelayViews.{ranges_in}
use Rattle.relay_conf.specs.declared.reach.NamedAllow.{NamedAllow}
use Rattle.relay_conf.specs.declared.relay.NamedLine.{NamedLine}
use Rattle.relay_conf.proofs.RelayReadings.{no_memory}
use Rattle.relay_conf.proofs.relay.RelayDraft.add_allow.Goals as goal

pub returns-in_err-push_ranges : goal.returns-in_err-push_ranges
returns-in_err-push_ranges c = λ listed. no_memory _ c.from_residual.ensures.1

pub returns-in_err-push_named : goal.returns-in_err-push_named
returns-in_err-push_named c = λ listed. no_memory _ c.from_residual-in_err-push_named.ensures.1

pub returns : goal.returns
returns c = λ listed.
    let old = c.args.self.now in
    let text = c.as_bytes-name.ensures.value in
    let ranges = ranges_in c.args.ranges.now in
    let grown : List ℕ → List NamedAllow =
    λ name. old.allows.items ++ map (named_allow name) ranges in
    let named : List ℕ → List NamedLine =
    λ name. old.named.items ++ record { line = c.args.line; name = name } ∷ [] in
    let more : List NamedAllow → List NamedLine → Reading =
    λ allows names. record (draft_view old) { allows = allows; named = names } in
    record {
      step = record {
        line = AllowLine c.args.name.now ranges;
        says = refl;
        none = refl;
        reading = ap₂ more (c.in_ok-push_ranges.ensures ∙ ap grown text)
            (c.in_ok-push_named.ensures ∙ ap named text);
      };
      listed = listed;
    }
