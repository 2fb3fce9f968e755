-- What was read so far, with what is left, is the whole.
use Rattle.std.proofs.Common.{◌≡◌, List, Option, map, drop}
use Rattle.fk_syntax.specs.Tree.{links_of, suffixes_of, trees_of}
use Rattle.fk_syntax.specs.View.{tree_of, link_of, suffix_of}
use Rattle.fk_types_operators.specs.declared.values.ExpressionType.{ExpressionType}
use Rattle.fk_types_judgments.specs.Term.{Term, Terms, no_terms, with_links, with_suffixes, with_arguments, count_of}
use Rattle.fk_types_judgments.specs.Typing.{parameters_of}
use Rattle.fk_types_forms.specs.Scope.{meant_of, env_in}
use Rattle.fk_types_expressions.specs.Read.{IsRead, AreRead}
use Rattle.fk_types_expressions.proofs.walk.+expression.Given as goal

abbrev pub invariant-chain-loop-link : goal.invariant-chain-loop-link
invariant-chain-loop-link l = (start : List (Option ExpressionType)) (t : Term) → IsRead (env_in l.scope) t start l.fn.types l.fn.first
    → (u : Term) × IsRead (env_in l.scope) u start l.types l.before
    × (with_links u (links_of (map link_of (drop l.link-index l.links))) ≡ with_links t (links_of (map link_of l.links)))

abbrev pub invariant-postfix-loop-after : goal.invariant-postfix-loop-after
invariant-postfix-loop-after l = (start : List (Option ExpressionType)) (t : Term) → IsRead (env_in l.scope) t start l.fn.types l.fn.whole
    → (u : Term) × IsRead (env_in l.scope) u start l.types l.before
    × (with_suffixes u (suffixes_of (map suffix_of (drop l.after-index l.suffixes))) ≡ with_suffixes t (suffixes_of (map suffix_of l.suffixes)))

abbrev pub invariant-arguments-loop-index : goal.invariant-arguments-loop-index
invariant-arguments-loop-index l = (ts : Terms) × AreRead (env_in l.scope) (parameters_of (meant_of l.thing)) ts l.fn.types l.types l.known
    × (l.index ≡ count_of ts)
    × (with_arguments ts (trees_of (map tree_of (drop l.index l.given))) ≡ with_arguments no_terms (trees_of (map tree_of l.given)))
