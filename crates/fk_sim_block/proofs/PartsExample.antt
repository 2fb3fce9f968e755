-- What a split, a turn of a loop and the end of a part make of the five processors of a group, by hand: `if ($ % 2)` in a space of 100 words, from word 2 on.
use Rattle.std.proofs.Common.{◌≡◌, ℕ, ◌+◌, ◌-◌, ◌*◌, ◌^◌, List, [], ◌∷◌, true, false, Option, Some, None, arith, refl}
use Rattle.std.specs.Prelude.{◌==◌, if◌then◌else◌}
use Rattle.fk_num.specs.Word.{Memory}
use Rattle.fk_space.specs.Space.{whole}
use Rattle.fk_meaning_operation.specs.declared.operation.SplitKind.TheVariants.{IfAlone, IfElse, Fork}
use Rattle.fk_meaning_operation.specs.declared.operation.Operation.TheVariants.{Split, Shrink, End}
use Rattle.fk_meaning.specs.Processor.{Level}
use Rattle.fk_meaning.specs.Group.{has_parts}
use Rattle.fk_core.specs.declared.op.CoreOp.{CoreOp}
use Rattle.fk_core.specs.Next.{position}
use Rattle.fk_sim_block.specs.Owner.{Owner}
use Rattle.fk_sim_block.specs.Node.{Nestings, HasSaved, control_address}
use Rattle.fk_sim_block.specs.Parts.{IsToFork, IsToDivide, AreToDivide, IsInPart, AllRest, parts_of, size_behind, moved}

abbrev splits : CoreOp
splits = record { kind = 27; site = 0; number = 0; target = 7; depth = 1 }

abbrev root : ℕ → Level
root n = record { number = 0; rank = n; size = 5; space = whole 2 100 }

abbrev group : ℕ → Level
group n = record { number = 0; rank = n; size = 5; space = whole 2 100 }

abbrev has : (n : ℕ) → List ℕ → Owner
has n values = record {
  runner = record {
    left = position 3 [];
    has = record {
      number = n;
      level = group n;
      outer = root n ∷ [];
      call = record { values = values; privates = λ i. 0; frames = λ i. 0 };
      callers = [];
      own = λ i. 0;
      top = 0;
    };
  };
  heap = record { words = λ i. 0; full = false };
}

abbrev who : (n value : ℕ) → Owner
who n value = has n (value ∷ [])

abbrev all : List Owner
all = who 0 0 ∷ who 1 1 ∷ who 2 0 ∷ who 3 1 ∷ who 4 0 ∷ []

-- the levels in the frame of the call
abbrev with_levels : (count : ℕ) → (forks : ℕ → Option ℕ) → Nestings
with_levels count forks = record {
  levels = λ i. count;
  behind = λ i. 0;
  nest = λ i. 2;
  forks = λ i. forks;
  start = record { there = λ i. record { at = 0; changes = λ r. false }; coming = λ i h. h };
}

-- ---- the split

is_to_divide : (n value : ℕ) → IsToDivide (with_levels 0 (λ l. None)) IfAlone (whole 2 100) 1 (who n value)
is_to_divide n value = record { group = record { around = root n; further = []; outer = refl }; space_is = refl; count_is = refl; asked = tt }

divides : AreToDivide (with_levels 0 (λ l. None)) IfAlone (whole 2 100) 1 all
divides = record {
  some = omega arith;
  few = omega arith;
  is_space = record { header = omega arith; ordered = omega arith; within = omega arith; shared = omega arith };
  all = (is_to_divide 0 0, (is_to_divide 1 1, (is_to_divide 2 0, (is_to_divide 3 1, (is_to_divide 4 0, tt)))));
}

there_is_room : has_parts (whole 2 100) 1 ≡ true
there_is_room = refl

-- two enter, into a space of 88 words from word 14 on
two_enter : size_behind (Split IfAlone) all (who 1 1) ≡ 2
two_enter = refl

abbrev inside : Owner
inside = moved [] 3 splits (Split IfAlone) 0 all (who 1 1)

in_part : inside.runner.has.level ≡ record { number = 0; rank = 1; size = 2; space = whole 14 88 }
in_part = refl

goes_in : inside.runner.left ≡ position 4 []
goes_in = refl

-- the others wait in their group
abbrev waiting : Owner
waiting = moved [] 3 splits (Split IfAlone) 0 all (who 2 0)

waits : waiting.runner.has.level ≡ group 2
waits = refl

goes_on : waiting.runner.left ≡ position 7 []
goes_on = refl

rests : AllRest (λ i. 0) (inside ∷ waiting ∷ [])
rests = (record { barrier = refl; closing = refl }, (record { barrier = refl; closing = refl }, tt))

-- of two parts each has 42 words
abbrev second : Owner
second = moved [] 3 splits (Split IfElse) 0 all (who 2 0)

in_second : second.runner.has.level ≡ record { number = 0; rank = 2; size = 3; space = whole 60 42 }
in_second = refl

-- ---- in the part

ends : IsInPart (with_levels 1 (λ l. None)) inside
ends = record {
  around = group 1;
  beyond = root 1;
  further = [];
  outer = refl;
  is_space = record { header = omega arith; ordered = omega arith; within = omega arith; shared = omega arith };
  saved = omega arith;
  numbers = (refl, refl);
}

-- the words of its frame that tell the level around it
abbrev saved : Memory
saved i =
    if i == 7 then 5 else (if i == 8 then control_address 2 else (if i == 9 then control_address 102 else (if i == 10 then control_address 10 else 0)))

has_saved : HasSaved saved (λ l. None) 4 7 1 inside.runner.has.outer
has_saved = (record { size = refl; node = refl; blocks = refl; frames = refl }, tt)

gone_back : (moved [] 4 splits End 0 (inside ∷ []) inside).runner.has.level ≡ group 1
gone_back = refl

-- of all five two stay in a loop
two_stay : size_behind Shrink all (who 3 1) ≡ 2
two_stay = refl

-- ---- `fork (3; @=$%3; $=$/3)` of seven

abbrev forking : (k part rank n : ℕ) → Owner
forking k part rank n = has n (rank ∷ part ∷ k ∷ [])

abbrev seven : List Owner
seven = forking 3 0 0 0 ∷ forking 3 1 0 1 ∷ forking 3 2 0 2 ∷ forking 3 0 1 3 ∷ forking 3 1 1 4 ∷ forking 3 2 1 5 ∷ forking 3 0 2 6 ∷ []

three_in_first : size_behind (Split Fork) seven (forking 3 0 1 3) ≡ 3
three_in_first = refl

two_in_third : size_behind (Split Fork) seven (forking 3 2 0 2) ≡ 2
two_in_third = refl

-- the three parts have 26 words each
abbrev forked : Owner
forked = moved [] 3 splits (Split Fork) 0 seven (forking 3 1 1 4)

in_forked : forked.runner.has.level ≡ record { number = 1; rank = 1; size = 2; space = whole 48 26 }
in_forked = refl

forks_here : IsToFork (with_levels 0 (λ l. Some 0)) (forking 3 1 1 4)
forks_here = record { number = omega arith; size = omega arith; frames = tt }

-- the words of its frame that tell the level around it, with that of the header
abbrev saved_by_fork : Memory
saved_by_fork i =
    if i == 4 then control_address 10
    else (if i == 7 then 5 + 2048 * 0 else (if i == 8 then control_address 2 else (if i == 9 then control_address 102 else (if i == 10 then 4 else 0))))

has_forked : HasSaved saved_by_fork (λ l. Some 0) 4 7 1 forked.runner.has.outer
has_forked = (record { size = refl; few = omega arith; node = refl; blocks = refl; rank = refl; frames = refl }, tt)

forks_end : IsInPart (with_levels 1 (λ l. Some 0)) forked
forks_end = record {
  around = group 4;
  beyond = root 4;
  further = [];
  outer = refl;
  is_space = record { header = omega arith; ordered = omega arith; within = omega arith; shared = omega arith };
  saved = omega arith;
  numbers = tt;
}

-- ---- other forks

-- without parts all wait, and no space is needed
abbrev nowhere : (k : ℕ) → Owner
nowhere k = moved [] 3 splits (Split Fork) 0 (forking k 0 0 0 ∷ forking k 0 1 1 ∷ []) (forking k 0 1 1)

nobody_enters : (nowhere 0).runner.left ≡ position 7 []
nobody_enters = refl

below_zero : (parts_of Fork (forking (2 ^ 32 - 1) 0 0 0) ≡ 0) × ((nowhere (2 ^ 32 - 1)).runner.left ≡ position 7 [])
below_zero = (refl, refl)

no_room_needed : has_parts (whole 2 8) 0 ≡ true
no_room_needed = refl

-- who is in no part waits: with a part that is the count, or below zero
third_waits : (moved [] 3 splits (Split Fork) 0 (forking 2 0 0 0 ∷ forking 2 1 0 1 ∷ forking 2 2 0 2 ∷ []) (forking 2 2 0 2)).runner.left ≡ position 7 []
third_waits = refl

negative_waits : (moved [] 3 splits (Split Fork) 0 (forking 2 (2 ^ 32 - 1) 0 0 ∷ []) (forking 2 (2 ^ 32 - 1) 0 0)).runner.left ≡ position 7 []
negative_waits = refl
