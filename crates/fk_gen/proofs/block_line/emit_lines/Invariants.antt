use Rattle.std.proofs.Common.{◌≡◌, map, take}
use Rattle.fk_asm.specs.Assembly.{AreFollowed}
use Rattle.fk_asm.specs.Block.{with_block}
use Rattle.fk_gen.specs.Lines.{marked}
use Rattle.fk_gen.proofs.block_line.emit_lines.Given as goal

-- as many lines as were read are added
abbrev pub invariant-loop-line : goal.invariant-loop-line
invariant-loop-line l = (l.into ≡ with_block l.initial.into (take l.line-index (map marked l.lines))) × AreFollowed l.into
