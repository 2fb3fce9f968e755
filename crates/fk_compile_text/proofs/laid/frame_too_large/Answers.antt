use Rattle.std.proofs.Common.{refl}
use Rattle.fk_compile_text.proofs.laid.frame_too_large.Goals as goal

pub unreachable-requires : goal.unreachable-requires
unreachable-requires c = c.in_default.ensures.none refl c.requires.0 c.requires.1
