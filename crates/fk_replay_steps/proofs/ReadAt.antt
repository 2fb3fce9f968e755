-- What a read of a list gives.
use Rattle.std.proofs.Common.{◌≡◌, ℕ, ◌<◌, List, Some, length, get_or, sym, ap, ◌∙◌}
use Rattle.std.proofs.lemmas.Option.{slice_get-get_or}
use Rattle.std.specs.Prelude.{slice_get}

pub read_at : {X : Type 0} (items : List X) (i : ℕ) (x : X) → i < length items → ((d : X) → x ≡ get_or items i d) → slice_get items i ≡ Some x
read_at {X} items i x low read = slice_get-get_or items i x low ∙ ap (λ (y : X). Some y) (sym (read x))
