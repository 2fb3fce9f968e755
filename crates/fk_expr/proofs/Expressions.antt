-- Expressions are read as the grammar says, at each level.
use Rattle.std.proofs.Common.{◌≡◌, ℕ, zero, suc, ◌+◌, ◌-◌, ◌≤◌, List, inl, inr, refl, arith}
use Rattle.fk_parse_combinators.specs.Languages.{Placed}
use Rattle.fk_parse_combinators.specs.Reads.{Reads}
use Rattle.fk_parse_combinators.specs.declared.limits.TheConstants.{LEVELS}
use Rattle.fk_expr.specs.Grammar.{deeper, Comma, Assignment}
use Rattle.fk_expr.specs.Reading.{inner, begins_suffix, begins_expression, read_comma, read_assignment}
use Rattle.fk_expr.specs.Ahead.{readers}
use Rattle.fk_parse_combinators.proofs.Productions.{reads_nothing}
use Rattle.fk_expr.proofs.Beginnings.{deeper_shapes}
use Rattle.fk_expr.proofs.Followers.{goes_choice, goes_assignment, goes_comma}
use Rattle.fk_expr.proofs.Inner.{Inner}
use Rattle.fk_expr.proofs.Prefixes.{reads_prefix}
use Rattle.fk_expr.proofs.Operands.{reads_choice, reads_assignment_at, reads_comma_at}
use Rattle.fk_parse_combinators.proofs.Longest.{Faithful, reads}

-- where so many levels are left, there are readers for the next level, or that is past the bound
pub inner_at : {levels : ℕ} {room : Type 0} (left l bound : ℕ) → left + l ≡ levels → (room → left + 2 ≤ bound) → Inner levels (deeper bound) l (inner left) room
inner_at {levels} zero l bound all enough = record {
  level = omega arith;
  shapes = deeper_shapes bound (l + 1) (λ r. let h : 0 + 2 ≤ bound = enough r in omega arith);
  readers = inl (record { is = refl; past = omega arith });
}
inner_at {levels} {room} (suc left) l zero all enough = record {
  level = omega arith;
  shapes = deeper_shapes zero (l + 1) (λ r. let h : suc left + 2 ≤ 0 = enough r in omega arith);
  readers = inr (record {
    readers = readers left;
    deep = refl;
    shallow = omega arith;
    comma = reads_nothing _ (l + 1) begins_expression goes_comma none;
    assignment = reads_nothing _ (l + 1) begins_expression goes_assignment none;
    choice = reads_nothing _ (l + 1) begins_expression goes_choice none;
    prefix = reads_nothing _ (l + 1) begins_expression begins_suffix none;
  });
}
  where
    none : room → ⊥
    none r = let h : suc left + 2 ≤ 0 = enough r in omega arith
inner_at {levels} {room} (suc left) l (suc bound) all enough =
    let next : Inner levels (deeper bound) (l + 1) (inner left) room =
    inner_at left (l + 1) bound (omega arith) (λ r. let h : suc left + 2 ≤ suc bound = enough r in omega arith) in
    record {
      level = omega arith;
      shapes = deeper_shapes (suc bound) (l + 1) (λ r. let h : suc left + 2 ≤ suc bound = enough r in omega arith);
      readers = inr (record {
        readers = readers left;
        deep = refl;
        shallow = omega arith;
        comma = reads_comma_at (deeper bound) (l + 1) (inner left) next;
        assignment = reads_assignment_at (deeper bound) (l + 1) (inner left) next;
        choice = reads_choice (deeper bound) (l + 1) (inner left) next;
        prefix = reads_prefix (deeper bound) (l + 1) (inner left) next;
      });
    }

-- ---- what the readers answer

-- the bound on levels leaves room where so many are left
abbrev room_at : (levels : ℕ) → ℕ → ℕ → Type 0
room_at levels level bound = (levels - level) + 2 ≤ bound

-- expressions with commas are read exactly
pub faithful_comma : {levels : ℕ} (level : ℕ) → level ≤ levels → Faithful levels (Comma level) (read_comma (inner (levels - level))) goes_comma (room_at levels level)
faithful_comma {levels} level h = record {
  enough = (levels - level) + 2;
  has_room = omega arith;
  exact = λ bound. (reads_comma_at (deeper bound) level (inner (levels - level))
      (inner_at (levels - level) level bound (omega arith) (λ r. r))).exact;
}

-- assignments are read exactly
pub faithful_assignment : {levels : ℕ} (level : ℕ) → level ≤ levels
    → Faithful levels (Assignment level) (read_assignment (inner (levels - level))) goes_assignment (room_at levels level)
faithful_assignment {levels} level h = record {
  enough = (levels - level) + 2;
  has_room = omega arith;
  exact = λ bound. (reads_assignment_at (deeper bound) level (inner (levels - level))
      (inner_at (levels - level) level bound (omega arith) (λ r. r))).exact;
}

-- what is answered of an expression with commas
pub reads_comma : (level : ℕ) (ts : List Placed) → level ≤ LEVELS → Reads (Comma level) ts (read_comma (inner (LEVELS - level)) ts)
reads_comma level ts h = reads (faithful_comma level h) ts

-- what is answered of an assignment
pub reads_assignment : (level : ℕ) (ts : List Placed) → level ≤ LEVELS → Reads (Assignment level) ts (read_assignment (inner (LEVELS - level)) ts)
reads_assignment level ts h = reads (faithful_assignment level h) ts
