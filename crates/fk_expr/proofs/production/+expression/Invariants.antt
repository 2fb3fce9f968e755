use Rattle.std.proofs.Common.{◌≡◌, ◌+◌, ◌*◌, ◌-◌, ◌≤◌, ◌++◌, List, Ok, length, map}
use Rattle.fk_syntax.specs.Tree.{Tree}
use Rattle.fk_syntax.specs.View.{tree_of, link_of, suffix_of}
use Rattle.fk_expr.specs.Grammar.{operator_at}
use Rattle.fk_expr.specs.Reading.{inner, begins_suffix, read_suffix, read_comma_link, read_next_argument, read_joined}
use Rattle.fk_parse_combinators.specs.Readers.{tells}
use Rattle.fk_parse_combinators.specs.Ahead.{Shortens}
use Rattle.fk_expr.specs.Ahead.{readers, read_link}
use Rattle.fk_parse_combinators.proofs.Repeats.{Going}
use Rattle.fk_expr.proofs.production.+expression.Given as goal
use Rattle.fk_parse_combinators.specs.Kinds.{just}
use Rattle.fk_lex.specs.declared.token.TokenKind.TheVariants as kind

abbrev pub decreases-comma : goal.decreases-comma
decreases-comma l = 64 * l.left + 54

abbrev pub decreases-comma_links : goal.decreases-comma_links
decreases-comma_links l = 64 * l.left + 53

abbrev pub decreases-assignment : goal.decreases-assignment
decreases-assignment l = 64 * l.left + 52

abbrev pub decreases-assigned : goal.decreases-assigned
decreases-assigned l = 64 * l.left + 51

abbrev pub decreases-otherwise : goal.decreases-otherwise
decreases-otherwise l = 64 * l.left + 51

abbrev pub decreases-choice : goal.decreases-choice
decreases-choice l = 64 * l.left + 50

abbrev pub decreases-branches : goal.decreases-branches
decreases-branches l = 64 * l.left + 49

abbrev pub decreases-joined : goal.decreases-joined
decreases-joined l = 64 * l.left + 4 * l.looseness + 8

abbrev pub decreases-level : goal.decreases-level
decreases-level l = 64 * l.left + 4 * l.looseness + 7

abbrev pub decreases-links : goal.decreases-links
decreases-links l = 64 * l.left + 4 * l.looseness + 6

abbrev pub decreases-link : goal.decreases-link
decreases-link l = 64 * l.left + 4 * l.looseness + 5

abbrev pub decreases-prefix : goal.decreases-prefix
decreases-prefix l = 64 * l.left + 7

abbrev pub decreases-signed : goal.decreases-signed
decreases-signed l = 64 * l.left + 6

abbrev pub decreases-cast : goal.decreases-cast
decreases-cast l = 64 * l.left + 6

abbrev pub decreases-postfix : goal.decreases-postfix
decreases-postfix l = 64 * l.left + 6

abbrev pub decreases-primary : goal.decreases-primary
decreases-primary l = 64 * l.left + 5

abbrev pub decreases-parenthesized : goal.decreases-parenthesized
decreases-parenthesized l = 64 * l.left + 4

abbrev pub decreases-suffixes : goal.decreases-suffixes
decreases-suffixes l = 64 * l.left + 5

abbrev pub decreases-suffix : goal.decreases-suffix
decreases-suffix l = 64 * l.left + 4

abbrev pub decreases-index : goal.decreases-index
decreases-index l = 64 * l.left + 3

abbrev pub decreases-call : goal.decreases-call
decreases-call l = 64 * l.left + 3

abbrev pub decreases-arguments : goal.decreases-arguments
decreases-arguments l = 64 * l.left + 53

abbrev pub invariant-arguments-loop-comma : goal.invariant-arguments-loop-comma
invariant-arguments-loop-comma l = record {
  others : List Tree;
  all : map tree_of l.arguments.items ≡ map tree_of l.initial.arguments.items ++ others;
  going : Going (just kind.Comma) (read_next_argument (readers l.left)) l.initial.cursor others l.cursor;
}

abbrev pub decreases-arguments-loop-comma : goal.decreases-arguments-loop-comma
decreases-arguments-loop-comma l = length l.cursor

abbrev pub invariant-comma_links-loop-sign : goal.invariant-comma_links-loop-sign
invariant-comma_links-loop-sign l = Going (just kind.Comma) (read_comma_link (inner l.left)) l.initial.cursor (map link_of l.links.items) l.cursor

abbrev pub decreases-comma_links-loop-sign : goal.decreases-comma_links-loop-sign
decreases-comma_links-loop-sign l = length l.cursor

abbrev pub invariant-joined-loop-next : goal.invariant-joined-loop-next
invariant-joined-loop-next l = record {
  read : read_joined (inner l.left) l.tighter l.fn.cursor ≡ Ok (tree_of l.whole, l.cursor);
  within : l.tighter ≤ l.looseness;
  shorter : Shortens l.fn.cursor l.cursor;
}

abbrev pub decreases-joined-loop-next : goal.decreases-joined-loop-next
decreases-joined-loop-next l = l.looseness - l.tighter

abbrev pub invariant-links-loop-alloc : goal.invariant-links-loop-alloc
invariant-links-loop-alloc l = Going (tells (operator_at l.looseness)) (read_link (inner l.left) l.looseness (l.looseness - 1)) l.initial.cursor (map link_of l.links.items) l.cursor

abbrev pub decreases-links-loop-alloc : goal.decreases-links-loop-alloc
decreases-links-loop-alloc l = length l.cursor

abbrev pub invariant-suffixes-loop-alloc : goal.invariant-suffixes-loop-alloc
invariant-suffixes-loop-alloc l = Going begins_suffix (read_suffix (inner l.left)) l.initial.cursor (map suffix_of l.suffixes.items) l.cursor

abbrev pub decreases-suffixes-loop-alloc : goal.decreases-suffixes-loop-alloc
decreases-suffixes-loop-alloc l = length l.cursor
