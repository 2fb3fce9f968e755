use Rattle.std.proofs.Common.{[], refl, sym, ◌∙◌, rules, arith}
use Rattle.std.proofs.lemmas.List.{append-nil}
use Rattle.std.proofs.lemmas.Grind.{common_steps}
use Rattle.fk_parse_combinators.proofs.Loops.{loops_start, loops_more, loops_end}
use Rattle.fk_parse_combinators.proofs.Halting.{halts_going}
use Rattle.fk_parse_declarations.proofs.Steps.{joined_lists-push}
use Rattle.fk_parse_declarations.proofs.declaration.add_members.Goals as goal

pub loop-cursor-init : goal.loop-cursor-init
loop-cursor-init c = record { lists = []; same = sym (append-nil _); loops = loops_start _ _ _ }

pub loop-cursor-preserved : goal.loop-cursor-preserved
loop-cursor-preserved c =
    let r = c.in_ok-add_member.ensures.read in
    record {
      lists = _;
      same = grind (arith, common_steps, joined_lists-push);
      loops = loops_more _ _ _ _ _ _ _ (sym c.type_is_next.ensures.next ∙ c.loop-cursor-test.true) r.1 c.in_ok-add_member.ensures.shorter c.loop-cursor.invariant.loops;
    }

pub returns-in_err-add_member-clause-read : goal.returns-in_err-add_member-clause-read
returns-in_err-add_member-clause-read c =
    let r = halts_going _ _ _ _ _ _ _ (sym c.type_is_next.ensures.next ∙ c.loop-cursor-test.true) c.in_err-add_member.ensures.read c.loop-cursor.invariant.loops.going in
    search rules

pub returns-clause-read : goal.returns-clause-read
returns-clause-read c =
    let e = loops_end _ _ _ _ _ _ (sym c.type_is_next.ensures.next ∙ c.loop-cursor-test.false) refl c.type_is_next.ensures.few c.loop-cursor.invariant.loops in
    (_, e.0, sym c.loop-cursor.invariant.same)
