-- The texts of the code, as those of the definitions.
use Rattle.std.specs.Prelude.{ℕ, List}
use denote.Ref.{Bor}

abbrev pub text : Bor (List ℕ) → List ℕ
text piece = piece.now
