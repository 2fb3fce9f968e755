-- Runs of flat lists, evaluated. Lists, rounds and expected values are those of another interpreter of the same rules.
use Rattle.std.proofs.Common.{◌≡◌, ℕ, Bool, true, List, [], ◌∷◌, length, slice_get, Option, Some, None, refl}
use Rattle.std.specs.Prelude.{◌==◌, ◌&&◌}
use Rattle.std.specs.List.{list_all}
use Rattle.fk_meaning.specs.Processor.{Setting, setting_of, values}
use Rattle.fk_meaning.specs.Round.{Runner, State, result}
use Rattle.fk_meaning.specs.Schedule.{Schedule, SourceFinished, SourceFaulted}
use Rattle.fk_meaning.proofs.Seen.{Line, Byte, lines, seen}
use Rattle.fk_core.specs.declared.op.CoreOp.{CoreOp}
use Rattle.fk_core.specs.Next.{Position, landing, next, list_opening}

abbrev pub op : (kind site number target depth : ℕ) → CoreOp
op kind site number target depth = record { kind = kind; site = site; number = number; target = target; depth = depth }

-- before each round everybody has as many values as the depth of its next operation says
abbrev deep_by : Option CoreOp → List ℕ → Bool
deep_by None vs = true
deep_by (Some op) vs = op.depth == length vs

module _ (core : List CoreOp) (set : Setting) where
  abbrev is_deep : Runner Position → Bool
  is_deep r = deep_by (slice_get core (landing core r.left.at)) (values r.has)

  abbrev all_deep : Schedule → State Position → Bool
  all_deep [] s = list_all is_deep s.runners
  all_deep (round ∷ rounds) s = list_all is_deep s.runners && all_deep rounds (result (next core) set round s)

-- sh int x; void main(void) { start { pr int *p = &x; if ($ == 1) p = 0; putint($); x = *p; } }
abbrev bad_address_core : List CoreOp
bad_address_core =
    op 2 0 5 0 0 ∷ op 23 1 0 23 1 ∷ op 1 2 268435456 0 0 ∷ op 3 3 0 0 1 ∷ op 4 4 0 0 1 ∷
    op 2 5 2 0 0 ∷ op 1 6 1 0 1 ∷ op 7 7 40 0 2 ∷ op 27 8 0 13 1 ∷ op 1 9 0 0 0 ∷ op 3 10 0 0 1 ∷
    op 4 11 0 0 1 ∷ op 29 12 0 13 0 ∷ op 30 13 0 0 0 ∷ op 2 14 2 0 0 ∷ op 19 15 0 0 1 ∷
    op 1 16 268435456 0 0 ∷ op 2 17 0 0 1 ∷ op 12 18 0 0 2 ∷ op 13 19 0 0 2 ∷ op 14 20 0 0 2 ∷
    op 4 21 0 0 1 ∷ op 29 22 0 23 0 ∷ op 30 23 0 0 0 ∷ op 34 24 0 0 0 ∷ []

abbrev bad_address_rounds : Schedule
bad_address_rounds =
    (1 ∷ 1 ∷ 1 ∷ []) ∷ (1 ∷ 1 ∷ 1 ∷ []) ∷ (7 ∷ 7 ∷ 7 ∷ []) ∷ (0 ∷ 4 ∷ 0 ∷ []) ∷
    (1 ∷ 1 ∷ 1 ∷ []) ∷ (2 ∷ 2 ∷ 2 ∷ []) ∷ []

bad_address : seen (next bad_address_core) (setting_of 3 (0 ∷ []) []) bad_address_rounds (Some (3 ∷ 3 ∷ 3 ∷ [])) (0 ∷ []) (list_opening 0 (0 ∷ []) [] [] 3)
    ≡ (lines [] (Line 0 ∷ Line 1 ∷ Line 2 ∷ []), (0 ∷ []), SourceFaulted (record { site = 18; processor = 1 }), true)
bad_address = refl

bad_address_depths : all_deep bad_address_core (setting_of 3 (0 ∷ []) []) bad_address_rounds (list_opening 0 (0 ∷ []) [] [] 3) ≡ true
bad_address_depths = refl

-- sh int r; sync int twice(sh int n) { sh int k; k = n + n; return k; } void main(void) { start { r = twice($); } }
abbrev group_frame_core : List CoreOp
group_frame_core =
    op 2 0 1162 0 0 ∷ op 1 1 0 0 1 ∷ op 14 2 0 0 2 ∷ op 4 3 0 0 1 ∷ op 2 4 1162 0 0 ∷
    op 2 5 1 0 1 ∷ op 13 6 0 0 2 ∷ op 2 7 1 0 2 ∷ op 13 8 0 0 3 ∷ op 7 9 0 0 3 ∷ op 14 10 0 0 2 ∷
    op 4 11 0 0 1 ∷ op 2 12 1162 0 0 ∷ op 13 13 0 0 1 ∷ op 11 14 3 0 1 ∷ op 1 15 0 0 0 ∷
    op 11 16 3 0 1 ∷ op 2 17 5 0 0 ∷ op 23 18 0 32 1 ∷ op 1 19 268435456 0 0 ∷ op 2 20 2 0 1 ∷
    op 24 21 0 0 2 ∷ op 22 22 1 0 2 ∷ op 25 23 258 0 0 ∷ op 2 24 1 0 0 ∷ op 2 25 0 0 1 ∷
    op 14 26 0 0 2 ∷ op 4 27 0 0 1 ∷ op 0 0 0 0 0 ∷ op 14 28 0 0 2 ∷ op 4 29 0 0 1 ∷
    op 29 30 0 32 0 ∷ op 30 31 0 0 0 ∷ op 34 32 0 0 0 ∷ []

abbrev group_frame_rounds : Schedule
group_frame_rounds =
    (1 ∷ 1 ∷ []) ∷ (1 ∷ 1 ∷ []) ∷ (3 ∷ 3 ∷ []) ∷ (1 ∷ 1 ∷ []) ∷ (1 ∷ 1 ∷ []) ∷ (3 ∷ 3 ∷ []) ∷
    (4 ∷ 4 ∷ []) ∷ (4 ∷ 4 ∷ []) ∷ (2 ∷ 2 ∷ []) ∷ (2 ∷ 2 ∷ []) ∷ (3 ∷ 3 ∷ []) ∷ (2 ∷ 2 ∷ []) ∷
    (2 ∷ 2 ∷ []) ∷ (1 ∷ 1 ∷ []) ∷ (1 ∷ 1 ∷ []) ∷ []

group_frame : seen (next group_frame_core) (setting_of 2 (0 ∷ []) []) group_frame_rounds None (0 ∷ []) (list_opening 17 (0 ∷ []) [] [] 2)
    ≡ (lines [] [], (2 ∷ []), SourceFinished, true)
group_frame = refl

group_frame_depths : all_deep group_frame_core (setting_of 2 (0 ∷ []) []) group_frame_rounds (list_opening 17 (0 ∷ []) [] [] 2) ≡ true
group_frame_depths = refl

-- int f(int n) { return n ? 1 + f(n - 1) : 0; } void main(void) { putint(f(3)); }
abbrev pub recursion_core : List CoreOp
recursion_core =
    op 2 0 0 0 0 ∷ op 9 1 1 10 1 ∷ op 1 2 1 0 0 ∷ op 2 3 0 0 1 ∷ op 1 4 1 0 2 ∷ op 7 5 2 0 3 ∷
    op 22 6 1 0 2 ∷ op 0 0 0 0 0 ∷ op 7 7 0 0 2 ∷ op 0 0 0 11 0 ∷ op 1 8 0 0 0 ∷ op 11 9 2 0 1 ∷
    op 1 10 0 0 0 ∷ op 11 11 2 0 1 ∷ op 1 12 3 0 0 ∷ op 22 13 1 0 1 ∷ op 0 0 0 0 0 ∷
    op 19 14 0 0 1 ∷ op 34 15 0 0 0 ∷ []

abbrev recursion_rounds : Schedule
recursion_rounds =
    (2 ∷ []) ∷ (7 ∷ []) ∷ (7 ∷ []) ∷ (7 ∷ []) ∷ (11 ∷ []) ∷ (1 ∷ []) ∷ []

recursion : seen (next recursion_core) (setting_of 1 [] []) recursion_rounds None [] (list_opening 14 [] [] [] 1)
    ≡ (lines [] (Line 3 ∷ []), [], SourceFinished, true)
recursion = refl

recursion_depths : all_deep recursion_core (setting_of 1 [] []) recursion_rounds (list_opening 14 [] [] [] 1) ≡ true
recursion_depths = refl

-- void main(void) { int i; int s = 0; for (i = 0; i < 9; i++) { if (i == 1) continue; if (i == 4) break; s += i; } do { s = s * 2; } while (s < 30); putint(s); puts("a\n"); }
abbrev pub loops_core : List CoreOp
loops_core =
    op 1 0 0 0 0 ∷ op 3 1 0 0 1 ∷ op 4 2 0 0 1 ∷ op 1 3 0 0 0 ∷ op 3 4 2 0 1 ∷ op 4 5 0 0 1 ∷
    op 1 6 0 0 0 ∷ op 3 7 0 0 1 ∷ op 4 8 0 0 1 ∷ op 2 9 0 0 0 ∷ op 1 10 9 0 1 ∷ op 7 11 32 0 2 ∷
    op 9 12 1 36 1 ∷ op 2 13 0 0 0 ∷ op 1 14 1 0 1 ∷ op 7 15 40 0 2 ∷ op 9 16 1 18 1 ∷
    op 0 0 0 28 0 ∷ op 2 17 0 0 0 ∷ op 1 18 4 0 1 ∷ op 7 19 40 0 2 ∷ op 9 20 1 23 1 ∷
    op 0 0 0 36 0 ∷ op 2 21 18 0 0 ∷ op 2 22 0 0 1 ∷ op 7 23 0 0 2 ∷ op 3 24 2 0 1 ∷
    op 4 25 0 0 1 ∷ op 2 26 0 0 0 ∷ op 1 27 1 0 1 ∷ op 7 28 0 0 2 ∷ op 3 29 0 0 1 ∷
    op 1 30 1 0 1 ∷ op 7 31 2 0 2 ∷ op 4 32 0 0 1 ∷ op 0 0 0 9 0 ∷ op 2 33 18 0 0 ∷
    op 1 34 2 0 1 ∷ op 7 35 4 0 2 ∷ op 3 36 2 0 1 ∷ op 4 37 0 0 1 ∷ op 2 38 18 0 0 ∷
    op 1 39 30 0 1 ∷ op 7 40 32 0 2 ∷ op 9 41 1 46 1 ∷ op 0 0 0 36 0 ∷ op 2 42 18 0 0 ∷
    op 19 43 0 0 1 ∷ op 1 44 97 0 0 ∷ op 20 45 0 0 1 ∷ op 1 46 10 0 0 ∷ op 20 47 0 0 1 ∷
    op 34 48 0 0 0 ∷ []

abbrev loops_rounds : Schedule
loops_rounds =
    (137 ∷ []) ∷ (2 ∷ []) ∷ (2 ∷ []) ∷ (1 ∷ []) ∷ []

loops : seen (next loops_core) (setting_of 1 [] []) loops_rounds None [] (list_opening 0 [] [] [] 1)
    ≡ (lines [] (Line 40 ∷ Byte 97 ∷ Byte 10 ∷ []), [], SourceFinished, true)
loops = refl

loops_depths : all_deep loops_core (setting_of 1 [] []) loops_rounds (list_opening 0 [] [] [] 1) ≡ true
loops_depths = refl
