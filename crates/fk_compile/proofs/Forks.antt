-- The frames whose words a `fork` tells are small, if all frames of the list are.
use Rattle.std.proofs.Common.{◌≡◌, ℕ, zero, suc, ◌^◌, ◌<◌, Bool, true, false, List, [], ◌∷◌, map, slice_get, Option, Some, refl, sym, subst, arith}
use Rattle.std.specs.Prelude.{if◌then◌else◌}
use Rattle.fk_meaning_operation.specs.declared.operation.Operation.{Operation}
use Rattle.fk_meaning_operation.specs.declared.operation.Operation.TheVariants as o
use Rattle.fk_meaning_operation.specs.declared.operation.SplitKind.{SplitKind}
use Rattle.fk_meaning_operation.specs.declared.operation.SplitKind.TheVariants as sk
use Rattle.fk_core.specs.declared.op.CoreOp.{CoreOp}
use Rattle.fk_core_levels.specs.Count.{read, opens}
use Rattle.fk_core_levels.specs.Forks.{OpenPart, Parts, no_part, closed, come_to, fork_of, left_by, taken, leave, open_from, open_parts}
use Rattle.fk_core_levels.specs.Levels.{AreLevels}
use Rattle.fk_gen.specs.declared.placed.Levels.{Levels}
use Rattle.fk_gen.specs.Levels.{levels_in}
use Rattle.fk_gen_group.specs.Blocks.{HasFewWords}

-- the frames of a list are small
abbrev pub FramesAreSmall : List CoreOp → Type 0
FramesAreSmall core = (i : ℕ) (op : CoreOp) (number words : ℕ) → slice_get core i ≡ Some op → read op ≡ Some (o.Frame number words) → words < 2 ^ 21

-- so are those of the parts that are open
abbrev AreSmall : List OpenPart → Type 0
AreSmall [] = Unit {0}
AreSmall (part ∷ held) = HasFewWords part.fork × (part.words < 2 ^ 21) × AreSmall held

record IsSmall (held : Parts) : Type 0 where
  pub parts : AreSmall held.parts
  pub words : held.words < 2 ^ 21

no_words : 0 < 2 ^ 21
no_words = omega arith

closed_small : (held : List OpenPart) → AreSmall held → IsSmall (closed held)
closed_small [] small = record { parts = tt; words = no_words }
closed_small (part ∷ held) small = record { parts = small.2; words = small.1 }

come_small : (r : Option Operation) (held : Parts) → IsSmall held → IsSmall (come_to r held)
come_small (Some o.Resume) held small = closed_small held.parts small.parts
come_small r held small = small

left_small : (by : SplitKind) (words : ℕ) → words < 2 ^ 21 → HasFewWords (left_by by words)
left_small sk.Fork words less = less
left_small by words less = tt

taken_small : (number words : ℕ) (held : Parts) → words < 2 ^ 21 → IsSmall held → IsSmall (taken number words held)
taken_small zero words held less small = small
taken_small (suc number) words held less small = record { parts = small.parts; words = less }

leave_small : (r : Option Operation) (held : Parts) → ((number words : ℕ) → r ≡ Some (o.Frame number words) → words < 2 ^ 21) → IsSmall held → IsSmall (leave r held)
leave_small (Some (o.Split by)) held frame small = record { parts = (left_small by held.words small.words, small.words, small.parts); words = no_words }
leave_small (Some (o.Frame number words)) held frame small = taken_small number words held (frame number words refl) small
leave_small (Some o.Begin) held frame small = record { parts = small.parts; words = no_words }
leave_small (Some o.End) held frame small = record { parts = small.parts; words = no_words }
leave_small r held frame small = small

fork_small : (held : List OpenPart) → AreSmall held → HasFewWords (fork_of held)
fork_small [] small = tt
fork_small (part ∷ held) small = small.0

told_small : (opening : Bool) (held : List OpenPart) → AreSmall held → HasFewWords (fork_of (if opening then [] else held))
told_small true held small = tt
told_small false held small = fork_small held small

abbrev AllSmall : List (List OpenPart) → Type 0
AllSmall [] = Unit {0}
AllSmall (held ∷ all) = HasFewWords (fork_of held) × AllSmall all

all_small : (held : Parts) (opening : Bool) (ops : List CoreOp) → FramesAreSmall ops → IsSmall held → AllSmall (open_from held opening ops)
all_small held opening [] frames small = tt
all_small held opening (op ∷ ops) frames small =
    let there = come_small (read op) held small in (
      told_small opening (come_to (read op) held).parts there.parts,
      all_small (leave (read op) (come_to (read op) held)) (opens opening op) ops (λ i. frames (suc i))
          (leave_small (read op) (come_to (read op) held) (λ number words is. frames 0 op number words refl is) there),
    )

small_at : (saved : List Levels) (stacks : List (List OpenPart)) → map (λ (l : Levels). l.fork) saved ≡ map fork_of stacks → AllSmall stacks → (i : ℕ) → HasFewWords (levels_in saved i).fork
small_at [] stacks forks all i = tt
small_at (l ∷ saved) [] forks all i = absurd (cc)
small_at (l ∷ saved) (held ∷ stacks) forks all zero =
    let fork : l.fork ≡ fork_of held = cc in
    subst HasFewWords (sym fork) all.0
small_at (l ∷ saved) (held ∷ stacks) forks all (suc i) = small_at saved stacks (cc) all.1 i

pub forks_are_small : (core : List CoreOp) (saved : List Levels) → AreLevels core saved → FramesAreSmall core → (i : ℕ) → HasFewWords (levels_in saved i).fork
forks_are_small core saved are frames i = small_at saved (open_parts core) are.fork (all_small no_part false core frames (record { parts = tt; words = no_words })) i
