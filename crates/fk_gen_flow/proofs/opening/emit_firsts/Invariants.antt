use Rattle.std.proofs.Common.{◌≡◌, take}
use Rattle.fk_asm.specs.Assembly.{AreFollowed}
use Rattle.fk_asm.specs.Block.{with_block}
use Rattle.fk_gen_flow.specs.Opening.{first_lines}
use Rattle.fk_gen_flow.proofs.opening.emit_firsts.Given as goal

-- those of the values that were read are added
abbrev pub invariant-loop-i : goal.invariant-loop-i
invariant-loop-i l = (l.into ≡ with_block l.initial.into (first_lines 0 (take l.i l.firsts))) × AreFollowed l.into
