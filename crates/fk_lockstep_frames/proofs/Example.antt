-- The frames that a list tells, and those that its runs take, counted by hand:
-- sync void g(void) { sh int a, b; &b; } void main(void) { start { sh int k; g(); &k; } }
use Rattle.std.proofs.Common.{◌≡◌, ℕ, zero, suc, ◌+◌, ◌*◌, Bool, true, false, List, [], ◌∷◌, slice_get, Option, Some, None, refl, subst, arith}
use Rattle.std.specs.Prelude.{option_map}
use Rattle.fk_meaning_operation.specs.declared.operation.OwnValue.TheVariants.{Processors, FrameAddress}
use Rattle.fk_meaning_operation.specs.declared.operation.Operation.{Operation}
use Rattle.fk_meaning_operation.specs.declared.operation.Operation.TheVariants as o
use Rattle.fk_meaning.specs.Processor.{Processor, setting_of, values}
use Rattle.fk_meaning.specs.Round.{Runner, State}
use Rattle.fk_meaning.specs.Schedule.{Schedule, run}
use Rattle.fk_core.specs.declared.op.CoreOp.{CoreOp}
use Rattle.fk_core.specs.Numbers.{operation_of}
use Rattle.fk_core.specs.Next.{Position, is_jump, next, list_opening}
use Rattle.fk_core.proofs.Examples.{op}
use Rattle.fk_lockstep_frames.specs.Nests.{Nest, OfFunction, OfPart}
use Rattle.fk_lockstep_frames.specs.Lists.{Leads, Asks, GoesOn, Fits, HasLocalFrames, HasToldFrames}
use Rattle.fk_lockstep_frames.proofs.Lists.{lists_tell_frames}

-- `main` ends at 10, and g begins at 11. The frame of g is taken at 4, before the jump there
abbrev core : List CoreOp
core =
    op 2 0 5 0 0 ∷ op 23 1 0 9 1 ∷ op 25 2 130 0 0 ∷ op 22 3 0 11 0 ∷ op 25 4 258 0 0 ∷
    op 0 0 0 11 0 ∷ op 2 5 10 0 0 ∷ op 4 6 0 0 1 ∷ op 29 7 0 9 0 ∷ op 30 8 0 0 0 ∷
    op 34 9 0 0 0 ∷ op 2 10 1162 0 0 ∷ op 4 11 0 0 1 ∷ op 11 12 1 0 0 ∷ []

-- ---- what its indices tell

abbrev outermost : List Nest
outermost = OfFunction None ∷ []

abbrev in_start : (frame : Option ℕ) → List Nest
in_start frame = OfPart true frame ∷ outermost

abbrev in_g : List Nest
in_g = OfFunction (Some 2) ∷ []

abbrev nth : {A : Type 0} → (otherwise : A) → List A → ℕ → A
nth otherwise [] i = otherwise
nth otherwise (x ∷ xs) zero = x
nth otherwise (x ∷ xs) (suc i) = nth otherwise xs i

abbrev nests : ℕ → List Nest
nests =
    nth outermost (outermost ∷ outermost ∷ in_start None ∷ in_start (Some 1) ∷ outermost ∷ in_g ∷ in_start (Some 1)
    ∷ in_start (Some 1) ∷ in_start (Some 1) ∷ outermost ∷ outermost ∷ in_g ∷ in_g ∷ in_g ∷ [])

abbrev in_main : ℕ → Bool
in_main =
    nth true (true ∷ true ∷ true ∷ true ∷ false ∷ false ∷ true ∷ true ∷ true ∷ true ∷ true ∷ false ∷ false ∷ false ∷ [])

-- what holds of each operation of a list holds of the one at an index
abbrev Each : (ℕ → CoreOp → Type 0) → List CoreOp → Type 0
Each P [] = Unit {0}
Each P (x ∷ ops) = P 0 x × Each (λ i. P (suc i)) ops

each_at : (P : ℕ → CoreOp → Type 0) (ops : List CoreOp) → Each P ops → (i : ℕ) (x : CoreOp) → slice_get ops i ≡ Some x → P i x
each_at P [] all i x e = absurd (cc)
each_at P (y ∷ ops) all zero x e = let same : y ≡ x = cc in subst (P 0) same all.0
each_at P (y ∷ ops) all (suc i) x e = each_at (λ j. P (suc j)) ops all.1 i x e

abbrev FitsBy : (i target : ℕ) → Option Operation → Type 0
FitsBy i target None = Unit {0}
FitsBy i target (Some operation) = Fits core in_main nests i target operation

abbrev LeadsBy : (i target : ℕ) → (jump : Bool) → Type 0
LeadsBy i target false = Unit {0}
LeadsBy i target true = Leads core in_main nests (nests i) i target

leads : (there : List Nest) (i j : ℕ) → in_main j ≡ in_main i → nests j ≡ there → Leads core in_main nests there i j
leads there i j main nested = record { main = main; nested = nested }

fits : (operation : Operation) (i target : ℕ) → Asks core in_main nests operation i → GoesOn core in_main nests operation i target
    → Fits core in_main nests i target operation
fits operation i target asks goes_on = record { asks = asks; goes_on = goes_on }

all_fit : Each (λ i x. FitsBy i x.target (operation_of x.kind x.number)) core
all_fit = (
  fits (o.Get Processors) 0 0 tt (elim [ true ↦ leads outermost 0 1 refl refl | false ↦ leads outermost 0 1 refl refl ]),
  (
    fits o.Begin 1 9 (record { main = refl; nested = refl }) (elim [ true ↦ leads (in_start None) 1 2 refl refl | false ↦ leads outermost 1 9 refl refl ]),
    (
      fits (o.Frame 1 1) 2 0 (refl, refl) (elim [ true ↦ leads (in_start (Some 1)) 2 3 refl refl | false ↦ leads (in_start (Some 1)) 2 3 refl refl ]),
      (
        fits (o.Enter 0) 3 11 tt (record { main = refl; begins = refl; back = leads (in_start (Some 1)) 3 6 refl refl }),
        (
          fits (o.Frame 0 2) 4 0 (refl, refl) (elim [ true ↦ leads in_g 4 5 refl refl | false ↦ leads in_g 4 5 refl refl ]),
          (
            tt,
            (
              fits (o.Get (FrameAddress 1 0)) 6 0 refl (elim [ true ↦ leads (in_start (Some 1)) 6 7 refl refl | false ↦ leads (in_start (Some 1)) 6 7 refl refl ]),
              (
                fits o.DropLast 7 0 tt (elim [ true ↦ leads (in_start (Some 1)) 7 8 refl refl | false ↦ leads (in_start (Some 1)) 7 8 refl refl ]),
                (
                  fits o.End 8 9 tt (elim [ true ↦ leads outermost 8 9 refl refl | false ↦ leads outermost 8 9 refl refl ]),
                  (
                    fits o.Resume 9 0 tt (elim [ true ↦ leads outermost 9 10 refl refl | false ↦ leads outermost 9 10 refl refl ]),
                    (
                      fits o.Halt 10 0 tt (record { main = refl; nested = refl }),
                      (
                        fits (o.Get (FrameAddress 0 1)) 11 0 refl (elim [ true ↦ leads in_g 11 12 refl refl | false ↦ leads in_g 11 12 refl refl ]),
                        (
                          fits o.DropLast 12 0 tt (elim [ true ↦ leads in_g 12 13 refl refl | false ↦ leads in_g 12 13 refl refl ]),
                          (
                            fits (o.Leave false true) 13 0 tt (record { main = refl; frame = Some 2; nested = refl; gives_back = refl }),
                            tt,
                          ),
                        ),
                      ),
                    ),
                  ),
                ),
              ),
            ),
          ),
        ),
      ),
    ),
  ),
)

all_lead : Each (λ i x. LeadsBy i x.target (is_jump x)) core
all_lead = (tt, (tt, (tt, (tt, (tt, (leads in_g 5 11 refl refl, (tt, (tt, (tt, (tt, (tt, (tt, (tt, (tt, tt))))))))))))))

local : HasLocalFrames core 0
local = record {
  in_main = in_main;
  nests = nests;
  begins = record { main = refl; nested = refl };
  ends = record { main = refl; nested = refl };
  jumps = λ i x stands jumps. subst (LeadsBy i x.target) jumps (each_at (λ j y. LeadsBy j y.target (is_jump y)) core all_lead i x stands);
  fits = λ i x operation stands reads.
      subst (FitsBy i x.target) reads (each_at (λ j y. FitsBy j y.target (operation_of y.kind y.number)) core all_fit i x stands);
}

-- ---- what its runs take, with two processors and three globals

abbrev state : Schedule → State Position
state schedule = run (next core) (setting_of 2 (0 ∷ 0 ∷ 0 ∷ []) []) schedule (list_opening 0 (0 ∷ 0 ∷ 0 ∷ []) [] [] 2)

told_always : (schedule : Schedule) (h : ℕ) (r : Runner Position) → slice_get (state schedule).runners h ≡ Some r
    → HasToldFrames core 0 local (setting_of 2 (0 ∷ 0 ∷ 0 ∷ []) []) r
told_always schedule h r at =
    lists_tell_frames core 0 local (0 ∷ 0 ∷ 0 ∷ []) [] [] 2 schedule
    (record { header = omega arith; ordered = omega arith; within = omega arith; shared = omega arith }) h r at

abbrev rounds : (count : ℕ) → Schedule
rounds zero = []
rounds (suc n) = (1 ∷ 1 ∷ []) ∷ rounds n

-- the second processor after some rounds: the first words of the frames of its call by their numbers, the first free word of
-- its group, and its values
abbrev seen : Processor → List ℕ × ℕ × List ℕ
seen p = (p.call.frames 0 ∷ p.call.frames 1 ∷ [], p.level.space.frames, values p)

abbrev after : (count : ℕ) → Option (List ℕ × ℕ × List ℕ)
after n = option_map (λ (r : Runner Position). seen r.has) (slice_get (state (rounds n)).runners 1)

-- the group space begins at word 3, behind which is a header of 8 words
in_the_group : after 2 ≡ Some (0 ∷ 0 ∷ [], 11, [])
in_the_group = refl

with_its_frame : after 3 ≡ Some (0 ∷ 11 ∷ [], 12, [])
with_its_frame = refl

-- the frame of g comes after it, and its second word is word 13
in_the_call : after 5 ≡ Some (12 ∷ 0 ∷ [], 14, [])
in_the_call = refl

second_word : after 6 ≡ Some (12 ∷ 0 ∷ [], 14, (0x10000000 + 4 * 13) ∷ [])
second_word = refl

-- the call gives its frame back, and that of the group is where it was
behind_the_call : after 9 ≡ Some (0 ∷ 11 ∷ [], 12, (0x10000000 + 4 * 11) ∷ [])
behind_the_call = refl

in_the_root : after 11 ≡ Some (0 ∷ 11 ∷ [], 11, [])
in_the_root = refl
