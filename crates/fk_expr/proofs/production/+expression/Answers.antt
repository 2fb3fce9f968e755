use Rattle.std.proofs.Common.{Ok, refl, [], ◌∷◌, ◌++◌, map, sym, ap, ◌∙◌, arith}
use Rattle.std.proofs.lemmas.List.{append-nil}
use Rattle.fk_syntax.specs.View.{tree_of, link_of, suffix_of}
use Rattle.fk_expr.specs.Reading.{inner}
use Rattle.fk_expr.specs.Ahead.{readers}
use Rattle.fk_lex.specs.declared.token.TokenKind.TheVariants as kind
use Rattle.fk_parse_combinators.specs.Readers.{expect}
use Rattle.fk_parse_combinators.proofs.Behind.{behind_reads, behind_halts, gives_fault}
use Rattle.fk_expr.proofs.Behind.{comma_link_reads, comma_link_halts, link_reads, comma_gives, assignment_gives, choice_gives, postfix_gives, arguments_reads, arguments_halts, more_behind, level_reads, level_halts, joined_start, prefix_halts, joined_passes}
use Rattle.fk_parse_combinators.proofs.Repeats.{going_start, going_more, going_end, going_ended, items_more}
use Rattle.fk_parse_combinators.proofs.Halting.{halts_going}
use Rattle.fk_expr.proofs.Completing.{whole_shortens, whole_leaves}
use Rattle.fk_expr.proofs.production.+expression.Goals as goal

pub comma-returns-clause-read : goal.comma-returns-clause-read
comma-returns-clause-read t c =
    comma_gives (inner c.args.left) _ _ _ _ _ c.in_ok-first.ensures.read (c.with_links.ensures.read _ _ c.comma_links-links.ensures.read)

pub comma-returns-clause-shorter : goal.comma-returns-clause-shorter
comma-returns-clause-shorter t c =
    whole_shortens _ _ _ _ _ c.in_ok-first.ensures.shorter c.comma_links-links.ensures.few c.with_links.ensures.both

pub comma_links-returns-in_err-right-clause-read : goal.comma_links-returns-in_err-right-clause-read
comma_links-returns-in_err-right-clause-read t c =
    gives_fault _ _ _ _ _ c.from_residual.ensures.1
    (halts_going _ _ _ _ _ _ _ c.in-Some.ensures.next
    (comma_link_halts (inner c.args.left) _ _ _ _ _ c.in-Some.ensures.read c.in_err-right.ensures.read) c.loop-sign.invariant)

pub comma_links-loop-sign-preserved : goal.comma_links-loop-sign-preserved
comma_links-loop-sign-preserved t c =
    items_more _ _ _ _ _ link_of _ _ c.new.result c.in-Some.ensures.next
    (comma_link_reads (inner c.args.left) _ _ _ _ _ _ c.in-Some.ensures.read c.in_ok-right.ensures.read (c.new.ensures.spot ∙ c.spot.ensures) c.new.ensures.sign c.new.ensures.right)
    (omega (arith, c.in-Some.ensures.shorter, c.in_ok-right.ensures.shorter)) c.in_ok-push.ensures.items c.loop-sign.invariant

pub comma_links-returns-clause-read : goal.comma_links-returns-clause-read
comma_links-returns-clause-read t c =
    going_ended _ _ _ _ _ _ c.in_default.ensures.next c.in_default.ensures.same c.loop-sign.invariant

pub assignment-returns-clause-read : goal.assignment-returns-clause-read
assignment-returns-clause-read t c =
    assignment_gives (inner c.args.left) _ _ _ _ _ c.in_ok-target.ensures.read (sym c.assignment_is_next.ensures ∙ c.if-not-assignment_is_next.false)
    (c.with_value.ensures.read _ _ c.assigned-value.ensures.read)

pub assignment-returns-clause-shorter : goal.assignment-returns-clause-shorter
assignment-returns-clause-shorter t c =
    whole_shortens _ _ _ _ _ c.in_ok-target.ensures.shorter c.assigned-value.ensures.few c.with_value.ensures.both

pub choice-returns-clause-read : goal.choice-returns-clause-read
choice-returns-clause-read t c =
    choice_gives (inner c.args.left) _ _ _ _ _ c.in_ok-condition.ensures.read (sym c.next_is.ensures.next ∙ c.if-not-next_is.false)
    (c.with_branches.ensures.read _ _ c.branches-branches.ensures.read)

pub choice-returns-clause-shorter : goal.choice-returns-clause-shorter
choice-returns-clause-shorter t c =
    whole_shortens _ _ _ _ _ c.in_ok-condition.ensures.shorter c.branches-branches.ensures.few c.with_branches.ensures.both

pub joined-returns-in_err-whole-clause-read : goal.joined-returns-in_err-whole-clause-read
joined-returns-in_err-whole-clause-read t c =
    gives_fault _ _ _ _ _ c.from_residual.ensures.1 (prefix_halts (inner c.args.left) c.args.looseness _ _ c.prefix.new.cursor c.in_err-whole.ensures.read)

pub joined-loop-next-init : goal.joined-loop-next-init
joined-loop-next-init t c = record {
  read = joined_start (inner c.args.left) _ _ _ c.in_ok-whole.ensures.read;
  within = omega arith;
  shorter = c.in_ok-whole.ensures.shorter;
}

pub joined-loop-next-preserved : goal.joined-loop-next-preserved
joined-loop-next-preserved t c = record {
  read = level_reads (inner c.args.left) c.loop-next.tighter c.in-Some.next _ _ _ _ c.in_ok-whole-2.ensures.read.0 c.in-Some.ensures.some.0 c.in-Some.ensures.some.2 c.loop-next.invariant.read c.in_ok-whole-2.ensures.read.1
      ∙ ap (λ e. Ok (e, c.level.new.cursor)) c.in_ok-whole-2.ensures.read.2;
  within = c.in-Some.ensures.some.1;
  shorter = (omega (arith, c.loop-next.invariant.shorter, c.in_ok-whole-2.ensures.fewer), c.loop-next.invariant.shorter.1);
}

pub joined-returns-in_err-whole-2-clause-read : goal.joined-returns-in_err-whole-2-clause-read
joined-returns-in_err-whole-2-clause-read t c =
    gives_fault _ _ _ _ _ c.from_residual-in_err-whole-2.ensures.1
    (level_halts (inner c.args.left) c.loop-next.tighter c.in-Some.next c.args.looseness _ _ _ _ c.level.new.cursor
    c.in-Some.ensures.some.0 c.in-Some.ensures.some.1 c.in-Some.ensures.some.2 c.loop-next.invariant.read c.in_err-whole-2.ensures.read)

pub joined-returns-clause-read : goal.joined-returns-clause-read
joined-returns-clause-read t c =
    joined_passes (inner c.args.left) c.loop-next.tighter c.args.looseness _ _ _ c.loop-next.invariant.within (c.in_default.ensures.none refl) c.loop-next.invariant.read

pub level-returns-clause-read : goal.level-returns-clause-read
level-returns-clause-read t c = c.with_links.ensures.read _ _ c.links-links.ensures.read

pub level-returns-clause-fewer : goal.level-returns-clause-fewer
level-returns-clause-fewer t c = whole_leaves _ _ _ _ c.links-links.ensures.few c.with_links.ensures.both

pub links-returns-in_err-link-clause-read : goal.links-returns-in_err-link-clause-read
links-returns-in_err-link-clause-read t c =
    gives_fault _ _ _ _ _ c.from_residual-in_err-link.ensures.1
    (halts_going _ _ _ _ _ _ _ (sym c.operator_is_next.ensures ∙ c.loop-alloc-test.true) c.in_err-link.ensures.read c.loop-alloc.invariant)

pub links-loop-alloc-preserved : goal.links-loop-alloc-preserved
links-loop-alloc-preserved t c =
    items_more _ _ _ _ _ link_of _ _ c.in_ok-link.field-0 (sym c.operator_is_next.ensures ∙ c.loop-alloc-test.true) c.in_ok-link.ensures.read
    (omega (arith, c.in_ok-link.ensures.shorter)) c.in_ok-push.ensures.items c.loop-alloc.invariant

pub links-returns-clause-read : goal.links-returns-clause-read
links-returns-clause-read t c = going_end _ _ _ _ _ (sym c.operator_is_next.ensures ∙ c.loop-alloc-test.false) c.loop-alloc.invariant

pub link-returns-clause-read : goal.link-returns-clause-read
link-returns-clause-read t c =
    link_reads (inner c.args.left) c.args.looseness _ _ _ _ _ _ (link_of c.new.result) c.in_ok-token.ensures.read c.in_ok-right.ensures.read (c.new.ensures.spot ∙ c.spot.ensures) c.new.ensures.sign c.new.ensures.right

pub postfix-returns-clause-read : goal.postfix-returns-clause-read
postfix-returns-clause-read t c =
    postfix_gives (inner c.args.left) _ _ _ _ _ c.in_ok-whole.ensures.read (c.with_suffixes.ensures.read _ _ c.suffixes-suffixes.ensures.read)

pub postfix-returns-clause-shorter : goal.postfix-returns-clause-shorter
postfix-returns-clause-shorter t c =
    whole_shortens _ _ _ _ _ c.in_ok-whole.ensures.shorter c.suffixes-suffixes.ensures.few c.with_suffixes.ensures.both

pub suffixes-returns-in_err-suffix-clause-read : goal.suffixes-returns-in_err-suffix-clause-read
suffixes-returns-in_err-suffix-clause-read t c =
    gives_fault _ _ _ _ _ c.from_residual.ensures.1
    (halts_going _ _ _ _ _ _ _ (sym c.suffix_is_next.ensures ∙ c.loop-alloc-test.true) c.in_err-suffix.ensures.read c.loop-alloc.invariant)

pub suffixes-loop-alloc-preserved : goal.suffixes-loop-alloc-preserved
suffixes-loop-alloc-preserved t c =
    items_more _ _ _ _ _ suffix_of _ _ c.in_ok-suffix.field-0 (sym c.suffix_is_next.ensures ∙ c.loop-alloc-test.true) c.in_ok-suffix.ensures.read
    (omega (arith, c.in_ok-suffix.ensures.shorter)) c.in_ok-push.ensures.items c.loop-alloc.invariant

pub suffixes-returns-clause-read : goal.suffixes-returns-clause-read
suffixes-returns-clause-read t c =
    going_end _ _ _ _ _ (sym c.suffix_is_next.ensures ∙ c.loop-alloc-test.false) c.loop-alloc.invariant

pub arguments-loop-comma-init : goal.arguments-loop-comma-init
arguments-loop-comma-init t c = record {
  others = [];
  all = sym (append-nil _);
  going = going_start _ _ _;
}

pub arguments-returns-in_err-assignment-2-clause-read : goal.arguments-returns-in_err-assignment-2-clause-read
arguments-returns-in_err-assignment-2-clause-read t c =
    gives_fault _ _ _ _ _ c.from_residual-in_err-assignment-2.ensures.1
    (arguments_halts (readers c.args.left) _ _ _ _ c.assignment-in-Some.new.cursor (sym c.expression_is_next.ensures.next ∙ c.if-not-expression_is_next.false) c.in_ok-assignment.ensures.read
    (halts_going _ _ _ _ _ _ _ c.in-Some.ensures.next
    (behind_halts (λ x. x.1) (expect kind.Comma) (readers c.args.left).assignment _ _ _ _ _ c.in-Some.ensures.read c.in_err-assignment-2.ensures.read) c.loop-comma.invariant.going))

pub arguments-loop-comma-preserved : goal.arguments-loop-comma-preserved
arguments-loop-comma-preserved t c = record {
  others = c.loop-comma.invariant.others ++ tree_of c.in_ok-assignment-2.field-0 ∷ [];
  all = more_behind tree_of _ _ c.in_ok-assignment-2.field-0 _ _ c.in_ok-push-2.ensures.items c.loop-comma.invariant.all;
  going = going_more _ _ _ _ _ _ _ c.in-Some.ensures.next
      (behind_reads (λ x. x.1) (expect kind.Comma) (readers c.args.left).assignment _ _ _ _ _ c.in-Some.ensures.read c.in_ok-assignment-2.ensures.read)
      (omega (arith, c.in-Some.ensures.shorter, c.in_ok-assignment-2.ensures.shorter)) c.loop-comma.invariant.going;
}

pub arguments-returns-clause-read : goal.arguments-returns-clause-read
arguments-returns-clause-read t c =
    arguments_reads (readers c.args.left) _ _ _ (tree_of c.in_ok-assignment.field-0) _ _ (sym c.expression_is_next.ensures.next ∙ c.if-not-expression_is_next.false) c.in_ok-assignment.ensures.read
    (going_ended _ _ _ _ _ _ c.in_default.ensures.next c.in_default.ensures.same c.loop-comma.invariant.going)
    (c.loop-comma.invariant.all ∙ ap (λ items. map tree_of items ++ c.loop-comma.invariant.others) (c.in_ok-push.ensures.items ∙ ap (λ items. items ++ c.in_ok-assignment.field-0 ∷ []) c.new-arguments.ensures.items))
