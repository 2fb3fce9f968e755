-- What stands before the signs that are left holds more where what stands before all of them does.
use Rattle.std.proofs.Common.{◌≡◌, map, drop}
use Rattle.fk_syntax.specs.Tree.{links_of}
use Rattle.fk_syntax.specs.View.{link_of}
use Rattle.fk_types_judgments.specs.Term.{Term, with_links}
use Rattle.fk_types_forms.specs.Scope.{env_in}
use Rattle.fk_types_rules.specs.Constant.{is_more}
use Rattle.fk_types_checker.proofs.constant.+expression.Given as goal

abbrev pub invariant-are_more-loop-link : goal.invariant-are_more-loop-link
invariant-are_more-loop-link l = (before : Term) → (u : Term) × (is_more (env_in l.scope) u ≡ is_more (env_in l.scope) before)
    × (with_links u (links_of (map link_of (drop l.link-index l.links))) ≡ with_links before (links_of (map link_of l.links)))
