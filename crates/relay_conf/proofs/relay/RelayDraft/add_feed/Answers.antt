use Rattle.std.proofs.Common.{◌∙◌, ap, ap₂, refl, map, List, ℕ, ◌∷◌, ◌++◌, [], Ok, Err}
use Rattle.std.specs.HashSet.{contains_text}
use Rattle.relay_conf.specs.RelayDraft.{Reading, after_line, draft_view, fault_behind}
use Rattle.relay_conf.specs.RelayLines.{FeedLine, FeedSays}
use Rattle.relay_conf.specs.declared.relay.NamedFeed.{NamedFeed}
use Rattle.relay_conf.specs.declared.relay.NamedLine.{NamedLine}
use Rattle.relay_conf.proofs.NameTexts.{listed_more}
use Rattle.relay_conf.proofs.LinesRead.{unread}
use Rattle.relay_conf.proofs.RelayReadings.{name_listed, no_memory, still}
use Rattle.relay_conf.proofs.relay.RelayDraft.add_feed.Goals as goal

-- the name of a feed
abbrev name_of : NamedFeed → List ℕ
name_of feed = feed.name

pub returns-in_err-expression : goal.returns-in_err-expression
returns-in_err-expression c = λ listed. record {
  step = unread (FeedSays c.args.name.now c.args.ring c.args.text.now c.args.hash) fault_behind
      (after_line c.args.line) (draft_view c.args.self.now) (draft_view c.args.self.now)
      c.from_residual.result c.args.text.now c.in_err-expression.field-0.0 c.from_residual.ensures.1
      c.in_err-expression.ensures (λ fault g. record { said = Err fault; says = g; found = refl });
  listed = still c.from_residual.result listed;
}

pub returns-in_err-add_name : goal.returns-in_err-add_name
returns-in_err-add_name c = λ listed. no_memory _ c.from_residual-in_err-add_name.ensures.1

pub returns-then-not-branch : goal.returns-then-not-branch
returns-then-not-branch c = λ listed. record {
  step = record {
    said = Ok (FeedLine c.args.name.now c.args.ring c.in_ok-expression.expression c.args.hash);
    says = (c.in_ok-expression.expression, c.in_ok-expression.ensures, refl);
    found = (name_listed (map name_of c.args.self.now.feeds.items) c.args.name.now
        (contains_text c.args.self.now.feed_names c.args.name.now) c.in_ok-add_name.field-0
        (listed.0 c.args.name.now) c.in_ok-add_name.ensures.added).0
        c.if-not-branch.true;
  };
  listed = tt;
}

pub returns-in_err-push_feed : goal.returns-in_err-push_feed
returns-in_err-push_feed c = λ listed. no_memory _ c.from_residual-in_err-push_feed.ensures.1

pub returns-in_err-push_named : goal.returns-in_err-push_named
returns-in_err-push_named c = λ listed. no_memory _ c.from_residual-in_err-push_named.ensures.1

pub returns : goal.returns
returns c = λ listed.
    let old = c.args.self.now in
    let text = c.as_bytes-name.ensures.value in
    let expression = c.in_ok-expression.expression in
    let under : List ℕ → NamedFeed =
    λ name. record { name = name; ring = c.args.ring; expression = expression; hash = c.args.hash } in
    let grown : List ℕ → List NamedFeed = λ name. old.feeds.items ++ under name ∷ [] in
    let named : List ℕ → List NamedLine =
    λ name. old.named.items ++ record { line = c.args.line; name = name } ∷ [] in
    let more : List NamedFeed → List NamedLine → Reading =
    λ feeds names. record (draft_view old) { feeds = feeds; named = names } in
    let kept = c.in_ok-push_feed.ensures ∙ ap grown text in
    record {
      step = record {
        line = FeedLine c.args.name.now c.args.ring expression c.args.hash;
        says = (expression, c.in_ok-expression.ensures, refl);
        none = (name_listed (map name_of old.feeds.items) c.args.name.now
            (contains_text old.feed_names c.args.name.now) c.in_ok-add_name.field-0
            (listed.0 c.args.name.now) c.in_ok-add_name.ensures.added).1
            c.if-not-branch.false;
        reading = ap₂ more kept (c.in_ok-push_named.ensures ∙ ap named text);
      };
      listed = (
        λ name. listed_more name_of old.feeds.items _ (under c.args.name.now) _ _ name
            (c.in_ok-add_name.ensures.names name) (listed.0 name) kept,
        listed.1,
      );
    }
