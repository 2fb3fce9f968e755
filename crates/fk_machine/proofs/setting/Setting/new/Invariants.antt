use Rattle.std.proofs.Common.{◌≡◌, map, take}
use Rattle.fk_isa.specs.Find.{row}
use Rattle.fk_machine.specs.View.{row_of}
use Rattle.fk_machine.proofs.setting.Setting.new.Given as goal

abbrev pub invariant-loop-word : goal.invariant-loop-word
invariant-loop-word l = record {
  decoded : map row_of l.decoded.items ≡ map row (take l.word-index l.code);
}
