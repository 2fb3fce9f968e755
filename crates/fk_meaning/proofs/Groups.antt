-- In each state of these runs the members of each group in lockstep have the same operations left, and levels that differ
-- in `$` alone.
use Rattle.std.proofs.Common.{◌≡◌, ℕ, zero, suc, Bool, true, false, List, [], ◌∷◌, slice_get, Option, Some, refl}
use Rattle.std.specs.Prelude.{◌==◌, ◌&&◌}
use Rattle.fk_space.specs.Space.{Space}
use Rattle.fk_tree.specs.Tree as t
use Rattle.fk_tree.specs.declared.node.Kind.{Kind}
use Rattle.fk_tree.specs.declared.node.Kind.TheVariants.{Lockstep}
use Rattle.fk_meaning.specs.Processor.{Level, Setting, setting_of}
use Rattle.fk_meaning.specs.Round.{Step, Runner, State, result}
use Rattle.fk_meaning.specs.Schedule.{Schedule}
use Rattle.fk_meaning_forms.specs.Code.{Code, sites}
use Rattle.fk_meaning.specs.Next.{Work}
use Rattle.fk_meaning.specs.Program.{next_in, program_opening}
use Rattle.fk_meaning.proofs.Programs.{last_writer_program, last_writer_tables, last_writer_rounds, ascending_mpadd_program, ascending_mpadd_tables, ascending_mpadd_rounds, private_if_program, private_if_tables, private_if_rounds, shrinking_while_program, shrinking_while_tables, shrinking_while_rounds, three_way_fork_program, three_way_fork_tables, three_way_fork_rounds, farm_barrier_program, farm_barrier_tables, farm_barrier_rounds, lowest_alone_program, lowest_alone_tables, lowest_alone_rounds, no_space_program, no_space_tables, no_space_rounds, bad_address_program, bad_address_tables, bad_address_rounds, group_frame_program, group_frame_tables, group_frame_rounds, private_and_program, private_and_tables, private_and_rounds, private_choice_program, private_choice_tables, private_choice_rounds, input_sum_program, input_sum_tables, input_sum_rounds, shared_condition_program, shared_condition_tables, shared_condition_rounds}

abbrev same_sites : List (ℕ × ℕ) → List (ℕ × ℕ) → Bool
same_sites [] [] = true
same_sites (a ∷ more) (b ∷ others) = (a.0 == b.0) && (a.1 == b.1) && same_sites more others
same_sites more others = false

-- operations are told by their sites, each of which has its own number
abbrev same_codes : List (Code ℕ) → List (Code ℕ) → Bool
same_codes [] [] = true
same_codes (c ∷ cs) (d ∷ ds) = same_sites (sites c) (sites d) && same_codes cs ds
same_codes cs ds = false

abbrev same_space : Space → Space → Bool
same_space s u = (s.low == u.low) && (s.high == u.high) && (s.frames == u.frames) && (s.blocks == u.blocks)

abbrev same_levels : List Level → List Level → Bool
same_levels [] [] = true
same_levels (l ∷ ls) (m ∷ ms) = (l.number == m.number) && (l.size == m.size) && same_space l.space m.space && same_levels ls ms
same_levels ls ms = false

abbrev are_alike : Option (Runner Work) → Option (Runner Work) → Bool
are_alike (Some r) (Some q) =
    same_codes (r.left.left ∷ r.left.callers) (q.left.left ∷ q.left.callers) && same_levels (r.has.level ∷ r.has.outer) (q.has.level ∷ q.has.outer)
are_alike r q = false

-- each member and the one after it
abbrev members_agree : List (Runner Work) → (members : List ℕ) → Bool
members_agree runners [] = true
members_agree runners (h ∷ []) = true
members_agree runners (h ∷ g ∷ hs) = are_alike (slice_get runners h) (slice_get runners g) && members_agree runners (g ∷ hs)

abbrev agree_by : State Work → (n : ℕ) → Option Kind → Bool
agree_by s n (Some Lockstep) = members_agree s.runners (t.members s.tree n)
agree_by s n kind = true

abbrev agree_below : State Work → (n : ℕ) → Bool
agree_below s zero = true
agree_below s (suc n) = agree_by s n (t.kind s.tree n) && agree_below s n

abbrev all_agree : (Work → Option (Step Work)) → Setting → Schedule → State Work → Bool
all_agree next set [] s = agree_below s s.tree.given
all_agree next set (round ∷ rounds) s = agree_below s s.tree.given && all_agree next set rounds (result next set round s)

-- sh int x; void main(void) { start { x = $; } }
last_writer : all_agree (next_in last_writer_tables last_writer_program) (setting_of 2 (0 ∷ []) []) last_writer_rounds (program_opening last_writer_tables last_writer_program (0 ∷ []) [] [] 2) ≡ true
last_writer = refl

-- sh int c; sh int r[3]; void main(void) { start { r[$] = mpadd(&c, -1); } }
ascending_mpadd : all_agree (next_in ascending_mpadd_tables ascending_mpadd_program) (setting_of 3 (0 ∷ 0 ∷ 0 ∷ 0 ∷ []) []) ascending_mpadd_rounds (program_opening ascending_mpadd_tables ascending_mpadd_program (0 ∷ 0 ∷ 0 ∷ 0 ∷ []) [] [] 3) ≡ true
ascending_mpadd = refl

-- sh int z[2]; void main(void) { start { if ($ % 2) z[0] = $; else z[1] = groupsize(); } }
private_if : all_agree (next_in private_if_tables private_if_program) (setting_of 3 (0 ∷ 0 ∷ []) []) private_if_rounds (program_opening private_if_tables private_if_program (0 ∷ 0 ∷ []) [] [] 3) ≡ true
private_if = refl

-- sh int r[3]; void main(void) { start { pr int i; i = $; while (i) { mpadd(&r[0], 1); i--; } r[1] = $; r[2] = groupsize(); } }
shrinking_while : all_agree (next_in shrinking_while_tables shrinking_while_program) (setting_of 3 (0 ∷ 0 ∷ 0 ∷ []) []) shrinking_while_rounds (program_opening shrinking_while_tables shrinking_while_program (0 ∷ 0 ∷ 0 ∷ []) [] [] 3) ≡ true
shrinking_while = refl

-- sh int s[3]; void main(void) { start fork (3; @=$%3; $=$/3) s[@] = groupsize() + 10 * $; }
three_way_fork : all_agree (next_in three_way_fork_tables three_way_fork_program) (setting_of 4 (0 ∷ 0 ∷ 0 ∷ []) []) three_way_fork_rounds (program_opening three_way_fork_tables three_way_fork_program (0 ∷ 0 ∷ 0 ∷ []) [] [] 4) ≡ true
three_way_fork = refl

-- sh int c; void main(void) { start { farm { mpadd(&c, $); barrier; if ($ == 1) putint(c); } c = groupsize(); } }
farm_barrier : all_agree (next_in farm_barrier_tables farm_barrier_program) (setting_of 3 (0 ∷ []) []) farm_barrier_rounds (program_opening farm_barrier_tables farm_barrier_program (0 ∷ []) [] [] 3) ≡ true
farm_barrier = refl

-- void main(void) { start (2) { seq putint($ + 5); } }
lowest_alone : all_agree (next_in lowest_alone_tables lowest_alone_program) (setting_of 3 [] []) lowest_alone_rounds (program_opening lowest_alone_tables lowest_alone_program [] [] [] 3) ≡ true
lowest_alone = refl

-- void main(void) { start { fork (26215; @=0; $=0) seq putint(1); } }
no_space : all_agree (next_in no_space_tables no_space_program) (setting_of 2 [] []) no_space_rounds (program_opening no_space_tables no_space_program [] [] [] 2) ≡ true
no_space = refl

-- sh int x; void main(void) { start { pr int *p = &x; if ($ == 1) p = 0; putint($); x = *p; } }
bad_address : all_agree (next_in bad_address_tables bad_address_program) (setting_of 3 (0 ∷ []) []) bad_address_rounds (program_opening bad_address_tables bad_address_program (0 ∷ []) [] [] 3) ≡ true
bad_address = refl

-- sh int r; sync int twice(sh int n) { sh int k; k = n + n; return k; } void main(void) { start { r = twice($); } }
group_frame : all_agree (next_in group_frame_tables group_frame_program) (setting_of 2 (0 ∷ []) []) group_frame_rounds (program_opening group_frame_tables group_frame_program (0 ∷ []) [] [] 2) ≡ true
group_frame = refl

-- sh int r[2]; void main(void) { start { pr int a; a = $ > 1 && mpadd(&r[0], 1) >= 0; r[1] = groupsize(); } }
private_and : all_agree (next_in private_and_tables private_and_program) (setting_of 4 (0 ∷ 0 ∷ []) []) private_and_rounds (program_opening private_and_tables private_and_program (0 ∷ 0 ∷ []) [] [] 4) ≡ true
private_and = refl

-- sh int r[3]; void main(void) { start r[$] = $ ? 10 + $ : 7; }
private_choice : all_agree (next_in private_choice_tables private_choice_program) (setting_of 3 (0 ∷ 0 ∷ 0 ∷ []) []) private_choice_rounds (program_opening private_choice_tables private_choice_program (0 ∷ 0 ∷ 0 ∷ []) [] [] 3) ≡ true
private_choice = refl

-- sh int t; void main(void) { start { int i; for (i = 0; i < __inputs; i++) t += __input[i]; } }
input_sum : all_agree (next_in input_sum_tables input_sum_program) (setting_of 2 (0 ∷ []) (4 ∷ 5 ∷ [])) input_sum_rounds (program_opening input_sum_tables input_sum_program (0 ∷ []) [] (4 ∷ 5 ∷ []) 2) ≡ true
input_sum = refl

-- sh int x; void main(void) { start { sh int k; k = $; if (k) x = k + 3; else x = 9; } }
shared_condition : all_agree (next_in shared_condition_tables shared_condition_program) (setting_of 2 (0 ∷ []) []) shared_condition_rounds (program_opening shared_condition_tables shared_condition_program (0 ∷ []) [] [] 2) ≡ true
shared_condition = refl
