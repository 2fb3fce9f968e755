-- Structs that are being visited.
use Rattle.std.specs.Prelude.{ℕ, ◌<◌, List, All}
use Rattle.fk_types_structs.specs.declared.order.Visit.{Visit}

-- the visits are of structs with indices below `count`
abbrev pub AreVisits : ℕ → List Visit → Type 0
AreVisits count visits = All (λ (v : Visit). v.index < count) visits
