use Rattle.std.proofs.Common.{◌≡◌, None, Some, ◌∙◌, ap, subst, sym, arith}
use Rattle.std.proofs.lemmas.Option.{slice_get-get_or}
use Rattle.std.proofs.lemmas.Result.{on_ok_weaker}
use Rattle.fk_asm.specs.Assembly.{AreFollowed}
use Rattle.fk_asm.specs.Block.{with_block}
use Rattle.fk_gen.proofs.Emitted.{followed}
use Rattle.fk_gen_group.specs.Splits.{fork_label, fork_lines}
use Rattle.fk_gen_list.proofs.splitting.emit_forking.Goals as goal

pub bind-requires : goal.bind-requires
bind-requires c =
    let made = c.requires.made in
    record { unbound = slice_get-get_or c.args.into.now.bound fork_label None (omega arith) ∙ ap Some c.requires.free }

pub returns-clause-added : goal.returns-clause-added
returns-clause-added c =
    let lines = fork_lines in
    on_ok_weaker c.emit_fork.result
    (λ (added : c.emit_fork.new.into ≡ with_block c.bind.new.self lines). added ∙ ap (λ a. with_block a lines) c.in_ok-bind.ensures.bound)
    c.emit_fork.ensures.added

pub returns-clause-followed : goal.returns-clause-followed
returns-clause-followed c =
    let lines = fork_lines in
    let bound = subst AreFollowed (sym c.in_ok-bind.ensures.bound) c.requires.followed in
    on_ok_weaker c.emit_fork.result
    (λ (added : c.emit_fork.new.into ≡ with_block c.bind.new.self lines). followed c.bind.new.self c.emit_fork.new.into lines bound added)
    c.emit_fork.ensures.added
