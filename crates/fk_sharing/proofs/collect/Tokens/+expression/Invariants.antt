-- The tokens so far, and those of what is left, are those before and those of all; and what is left
-- is shared, by what stands before it, where the whole is.
use Rattle.std.proofs.Common.{◌≡◌, ◌+◌, ◌*◌, ◌++◌, map, drop}
use Rattle.std.specs.Prelude.{max}
use Rattle.fk_syntax.specs.Tree.{links_of, trees_of, suffixes_of}
use Rattle.fk_syntax.specs.View.{tree_of, link_of, suffix_of}
use Rattle.fk_sharing_class.specs.Things.{thing_in}
use Rattle.fk_sharing_class.specs.Class.{is_chain_shared, is_postfix_shared}
use Rattle.fk_sharing.specs.Tokens.{links_tokens, trees_tokens, suffixes_tokens}
use Rattle.fk_sharing.specs.TokensView.{seen_in}
use Rattle.fk_sharing.proofs.collect.Tokens.+expression.Given as goal

abbrev pub invariant-add_expressions-loop-expression : goal.invariant-add_expressions-loop-expression
invariant-add_expressions-loop-expression l = seen_in l.into ++ (trees_tokens (thing_in l.names) l.around (trees_of (map tree_of (drop l.expression-index l.expressions)))) ≡ seen_in l.fn.into ++ (trees_tokens (thing_in l.names) l.around (trees_of (map tree_of l.expressions)))

abbrev pub invariant-add_links-loop-link : goal.invariant-add_links-loop-link
invariant-add_links-loop-link l = record {
  tokens : seen_in l.into ++ (links_tokens (thing_in l.names) l.around l.shared (links_of (map link_of (drop l.link-index l.links)))) ≡ seen_in l.fn.into ++ (links_tokens (thing_in l.names) l.around l.first (links_of (map link_of l.links)));
  class : is_chain_shared (thing_in l.names) l.shared (links_of (map link_of (drop l.link-index l.links))) ≡ is_chain_shared (thing_in l.names) l.first (links_of (map link_of l.links));
}

abbrev pub invariant-add_suffixes-loop-suffix : goal.invariant-add_suffixes-loop-suffix
invariant-add_suffixes-loop-suffix l = record {
  tokens : seen_in l.into ++ (suffixes_tokens (thing_in l.names) l.around l.shared l.called (suffixes_of (map suffix_of (drop l.suffix-index l.suffixes)))) ≡ seen_in l.fn.into ++ (suffixes_tokens (thing_in l.names) l.around l.whole l.call (suffixes_of (map suffix_of l.suffixes)));
  class : is_postfix_shared (thing_in l.names) l.shared l.called (suffixes_of (map suffix_of (drop l.suffix-index l.suffixes))) ≡ is_postfix_shared (thing_in l.names) l.whole l.call (suffixes_of (map suffix_of l.suffixes));
}

-- how deep the deepest expression is; a function that is given several passes each of them on
abbrev pub decreases-add_expression : goal.decreases-add_expression
decreases-add_expression l = 2 * goal.size-add_expression l

abbrev pub decreases-add_links : goal.decreases-add_links
decreases-add_links l = 2 * goal.size-add_links l

abbrev pub decreases-add_suffixes : goal.decreases-add_suffixes
decreases-add_suffixes l = 2 * goal.size-add_suffixes l

abbrev pub decreases-add_expressions : goal.decreases-add_expressions
decreases-add_expressions l = 2 * goal.size-add_expressions l + 1

abbrev pub decreases-add_prefix : goal.decreases-add_prefix
decreases-add_prefix l = 2 * goal.size-add_prefix l + 1

abbrev pub decreases-add_assigned : goal.decreases-add_assigned
decreases-add_assigned l = 2 * max (goal.size-add_assigned l) (goal.size-add_assigned (record l { target = l.value })) + 1

abbrev pub decreases-add_choice : goal.decreases-add_choice
decreases-add_choice l = 2 * max (goal.size-add_choice l) (max (goal.size-add_choice (record l { condition = l.first })) (goal.size-add_choice (record l { condition = l.second }))) + 1
