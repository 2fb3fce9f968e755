use Rattle.std.proofs.Common.{◌≡◌, ◌-◌, ◌≤◌, arith}
use Rattle.std.proofs.lemmas.Result.{on_ok_weaker}
use Rattle.fk_asm.specs.Block.{with_block}
use Rattle.fk_gen.specs.Lines.{clear_label}
use Rattle.fk_gen_flow.specs.Calls.{clear_lines, back_lines, most_privates}
use Rattle.fk_gen_list.specs.Layout.{clear_offset}
use Rattle.fk_gen_list.proofs.Chain.{clearing_chain, next_added, next_free, none_left, unbound, at_end}
use Rattle.fk_gen_list.proofs.copying.emit_clearing.Goals as goal

pub bind-requires : goal.bind-requires
bind-requires c = record {
  unbound =
      next_free clear_label clear_offset clear_lines 1 clearing_chain c.loop-cleared.cleared (most_privates - 1 - c.loop-cleared.cleared) _ c.args.into.now c.loop-cleared.into
      c.loop-cleared-test.true (omega arith) (omega arith) c.requires.made c.loop-cleared.invariant;
}

pub loop-cleared-preserved : goal.loop-cleared-preserved
loop-cleared-preserved c =
    next_added clear_label clear_offset clear_lines 1 clearing_chain c.loop-cleared.cleared (most_privates - 1 - c.loop-cleared.cleared) _ c.args.into.now c.loop-cleared.into c.bind.new.self c.emit_clear.new.into
    c.loop-cleared-test.true (omega arith) (omega arith) c.requires.made c.in_ok-bind.ensures.bound c.in_ok-emit_clear.ensures.added c.loop-cleared.invariant

pub bind-requires-2 : goal.bind-requires-2
bind-requires-2 c =
    let all : most_privates ≤ c.loop-cleared.cleared = omega arith in
    record {
      unbound =
          unbound clear_label clear_offset clear_lines 1 clearing_chain 0 c.args.into.now c.loop-cleared.into
          (none_left clear_label clear_offset clear_lines 1 clearing_chain c.loop-cleared.cleared c.args.into.now c.loop-cleared.into all c.loop-cleared.invariant) c.requires.made;
    }

pub returns-clause-added : goal.returns-clause-added
returns-clause-added c =
    let all : most_privates ≤ c.loop-cleared.cleared = omega arith in
    let old = c.args.into.now in
    let now = c.loop-cleared.into in
    on_ok_weaker c.emit_back.result
    (λ (added : c.emit_back.new.into ≡ with_block c.bind-2.new.self back_lines).
    at_end clear_label clear_offset clear_lines 1 clearing_chain old now c.bind-2.new.self c.emit_back.new.into c.requires.made c.in_ok-bind-2.ensures.bound added
    (none_left clear_label clear_offset clear_lines 1 clearing_chain c.loop-cleared.cleared old now all c.loop-cleared.invariant))
    c.emit_back.ensures.added
