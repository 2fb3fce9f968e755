-- The number of values that the running call has before each operation of a list, given by the
-- sites.
use Rattle.std.specs.Prelude.{◌≡◌, ℕ, List, slice_get, unwrap_or}
use Rattle.std.specs.List.{All}
use Rattle.fk_core.specs.declared.op.CoreOp.{CoreOp}

-- The depth before the operation of a site, and 0 if none is given.
abbrev pub depth_at : (depths : List ℕ) → (site : ℕ) → ℕ
depth_at depths site = unwrap_or (slice_get depths site) 0

abbrev pub told : (depths : List ℕ) → CoreOp → CoreOp
told depths op = record op { depth = depth_at depths op.site }

-- Each operation of a list has the depth of its site.
abbrev pub AreTold : (depths : List ℕ) → List CoreOp → Type 0
AreTold depths core = All (λ op. op.depth ≡ depth_at depths op.site) core
