use Rattle.std.proofs.Common.{◌≡◌, drop}
use Rattle.std.specs.List.{list_all}
use Rattle.news_terms.specs.Article.{is_component_octet}
use Rattle.relay_explain.proofs.newsgroups.has_component_octets.Given as goal

-- each octet so far may stand in a component
abbrev pub invariant-loop-octet : goal.invariant-loop-octet
invariant-loop-octet l =
    list_all is_component_octet (drop l.octet-index l.text) ≡ list_all is_component_octet l.text
