-- The contents of a table of names.
use Rattle.std.specs.Prelude.{ℕ, List, Option, Some, None, cond, nat_eq}
use Rattle.std.specs.Cmp.Lexicographic.{pointwise}
use Rattle.indexmap.specs.IndexMap.{get_by}
use Rattle.fk_types_names.specs.declared.table.Table.{Table}

-- the mark of a name
abbrev pub shown : Table → List ℕ → Option ℕ
shown table name = get_by (λ key. pointwise nat_eq name key.now) table.marks

-- the mark of another name, after a name without a mark got one
abbrev pub first_set : List ℕ → ℕ → List ℕ → Option ℕ → Option ℕ
first_set name mark other (Some k) = Some k
first_set name mark other None = cond (pointwise nat_eq other name) (Some mark) None
