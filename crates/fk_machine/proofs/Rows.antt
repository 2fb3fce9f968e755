-- The instructions of the code.
use Rattle.std.proofs.Common.{◌≡◌, ℕ, List, map}
use Rattle.std.specs.Prelude.{slice_get, option_map}
use Rattle.std.proofs.lemmas.Option.{slice_get-map}
use Rattle.fk_machine.specs.declared.setting.CodeWord.{CodeWord}
use Rattle.fk_machine.specs.View.{row_of}

pub row_there : (ws : List CodeWord) (i : ℕ) → slice_get (map row_of ws) i ≡ option_map row_of (slice_get ws i)
row_there ws i = slice_get-map row_of ws i
