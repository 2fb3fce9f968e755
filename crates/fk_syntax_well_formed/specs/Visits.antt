-- The states of the visitors after they are shown an index.
use Rattle.std.specs.Prelude.{ℕ, List, ◌+◌, ◌&&◌, nat_lt, nat_le, nat_eq, min, cond, count_by, ◌^◌}
use Rattle.std.specs.Prelude.{◌-◌}
use Rattle.fk_syntax.specs.declared.nodes.Index.{Index}
use Rattle.fk_syntax.specs.declared.nodes.Index.TheVariants.{Node, StructName}
use Rattle.fk_syntax_well_formed.specs.declared.visitors.Bound.{Bound}
use Rattle.fk_syntax_well_formed.specs.declared.visitors.Rising.{Rising}
use Rattle.fk_syntax_well_formed.specs.declared.visitors.Tally.{Tally}
use Rattle.fk_syntax_well_formed.specs.declared.visitors.Distinct.{Distinct}
use Rattle.fk_syntax.specs.Nodes.{items_indices}
use Rattle.fk_syntax.specs.ProgramView.{program_of}
use Rattle.fk_syntax.specs.WellFormed.{token, nodes}

-- the number of occurrences of a number in a list
abbrev pub times_of : ℕ → List ℕ → ℕ
times_of at xs = count_by (λ x. nat_eq x at) xs

abbrev pub bound_after : Bound → Index → Bound
bound_after bound index = record bound { holds = bound.holds && nat_lt (token index) bound.tokens }

abbrev pub rising_after : Rising → Index → Rising
rising_after rising (Node at) =
    record rising { least = at + 1; holds = rising.holds && nat_le rising.least at }
rising_after rising (StructName at) = rising

abbrev pub tally_after : Tally → Index → Tally
tally_after tally (Node at) = record tally
    { count = cond (nat_eq at tally.at) (min (tally.count + 1) (2 ^ 32 - 1)) tally.count }
tally_after tally (StructName at) = tally

abbrev pub distinct_after : Distinct → Index → Distinct
distinct_after distinct (Node at) = record distinct {
  holds = distinct.holds
      && nat_le (times_of at (nodes (items_indices (program_of distinct.program.now).items))) 1;
}
distinct_after distinct (StructName at) = distinct
