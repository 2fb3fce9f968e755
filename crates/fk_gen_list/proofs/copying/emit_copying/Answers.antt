use Rattle.std.proofs.Common.{◌≡◌, ◌-◌, ◌≤◌, arith}
use Rattle.std.proofs.lemmas.Result.{on_ok_weaker}
use Rattle.fk_asm.specs.Block.{with_block}
use Rattle.fk_gen.specs.Lines.{copy_label}
use Rattle.fk_gen_flow.specs.Calls.{copy_lines, back_lines, most_privates}
use Rattle.fk_gen_list.specs.Layout.{copy_offset}
use Rattle.fk_gen_list.proofs.Chain.{copying_chain, next_added, next_free, none_left, unbound, at_end}
use Rattle.fk_gen_list.proofs.copying.emit_copying.Goals as goal

pub bind-requires : goal.bind-requires
bind-requires c = record {
  unbound =
      next_free copy_label copy_offset copy_lines 2 copying_chain c.loop-copied.copied (most_privates - 1 - c.loop-copied.copied) _ c.args.into.now c.loop-copied.into
      c.loop-copied-test.true (omega arith) (omega arith) c.requires.made c.loop-copied.invariant;
}

pub loop-copied-preserved : goal.loop-copied-preserved
loop-copied-preserved c =
    next_added copy_label copy_offset copy_lines 2 copying_chain c.loop-copied.copied (most_privates - 1 - c.loop-copied.copied) _ c.args.into.now c.loop-copied.into c.bind.new.self c.emit_copy.new.into
    c.loop-copied-test.true (omega arith) (omega arith) c.requires.made c.in_ok-bind.ensures.bound c.in_ok-emit_copy.ensures.added c.loop-copied.invariant

pub bind-requires-2 : goal.bind-requires-2
bind-requires-2 c =
    let all : most_privates ≤ c.loop-copied.copied = omega arith in
    record {
      unbound =
          unbound copy_label copy_offset copy_lines 2 copying_chain 0 c.args.into.now c.loop-copied.into
          (none_left copy_label copy_offset copy_lines 2 copying_chain c.loop-copied.copied c.args.into.now c.loop-copied.into all c.loop-copied.invariant) c.requires.made;
    }

pub returns-clause-added : goal.returns-clause-added
returns-clause-added c =
    let all : most_privates ≤ c.loop-copied.copied = omega arith in
    let old = c.args.into.now in
    let now = c.loop-copied.into in
    on_ok_weaker c.emit_back.result
    (λ (added : c.emit_back.new.into ≡ with_block c.bind-2.new.self back_lines).
    at_end copy_label copy_offset copy_lines 2 copying_chain old now c.bind-2.new.self c.emit_back.new.into c.requires.made c.in_ok-bind-2.ensures.bound added
    (none_left copy_label copy_offset copy_lines 2 copying_chain c.loop-copied.copied old now all c.loop-copied.invariant))
    c.emit_back.ensures.added
