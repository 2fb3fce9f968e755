use Rattle.std.proofs.Common.{◌≡◌, None, Some, ◌∙◌, ap, subst, sym, arith}
use Rattle.std.proofs.lemmas.Option.{slice_get-get_or}
use Rattle.std.proofs.lemmas.Result.{on_ok_weaker}
use Rattle.fk_asm.specs.Assembly.{AreFollowed}
use Rattle.fk_asm.specs.Block.{with_block}
use Rattle.fk_gen.proofs.Emitted.{followed}
use Rattle.fk_gen_access.specs.Heap.{heap_label, heap_lines}
use Rattle.fk_gen_list.proofs.hiring.emit_hiring.Goals as goal

pub bind-requires : goal.bind-requires
bind-requires c =
    let made = c.requires.made in
    record { unbound = slice_get-get_or c.args.into.now.bound heap_label None (omega arith) ∙ ap Some c.requires.free }

pub returns-clause-added : goal.returns-clause-added
returns-clause-added c =
    let lines = heap_lines c.args.globals in
    on_ok_weaker c.emit_heap.result
    (λ (added : c.emit_heap.new.into ≡ with_block c.bind.new.self lines). added ∙ ap (λ a. with_block a lines) c.in_ok-bind.ensures.bound)
    c.emit_heap.ensures.added

pub returns-clause-followed : goal.returns-clause-followed
returns-clause-followed c =
    let lines = heap_lines c.args.globals in
    let bound = subst AreFollowed (sym c.in_ok-bind.ensures.bound) c.requires.followed in
    on_ok_weaker c.emit_heap.result
    (λ (added : c.emit_heap.new.into ≡ with_block c.bind.new.self lines). followed c.bind.new.self c.emit_heap.new.into lines bound added)
    c.emit_heap.ensures.added
