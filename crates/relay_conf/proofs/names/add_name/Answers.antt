use Rattle.std.proofs.Common.{◌≡◌, ◌∙◌, ap, string_bytes, List, ℕ, true}
use Rattle.std.specs.Prelude.{◌||◌, bytes_eq}
use Rattle.std.specs.HashSet.{contains_text}
use Rattle.std.proofs.lemmas.Map.Text.{hash_set_updates_text}
use Rattle.relay_conf.proofs.NameTexts.{cond_or}
use Rattle.relay_conf.proofs.names.add_name.Goals as goal

pub returns-clause-names : goal.returns-clause-names
returns-clause-names c = λ other.
    let is : string_bytes c.in_ok-key.key ≡ c.args.name.now = c.in_ok-key.ensures.ok in
    hash_set_updates_text (string_bytes c.in_ok-key.key) c.args.names.now c.insert.new.self
    true c.in_ok-added.ensures.updates other
    ∙ cond_or (bytes_eq (string_bytes c.in_ok-key.key) other)
    (contains_text c.args.names.now other)
    ∙ ap (λ (name : List ℕ). bytes_eq name other || contains_text c.args.names.now other) is
