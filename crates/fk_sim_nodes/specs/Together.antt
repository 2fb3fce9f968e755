-- Members in lockstep: cycles of the node alone up to a commit of all.
use Rattle.std.specs.Prelude.{◌≡◌, ℕ, zero, suc, ◌+◌, List, [], ◌∷◌, length, Bool, true, false, map}
use Rattle.std.specs.Prelude.{◌⊎◌}
use Rattle.fk_num.specs.Word.{Memory}
use Rattle.fk_image.specs.declared.Image.{Image}
use Rattle.fk_machine.specs.declared.stand.Stand.TheVariants.{Faulted}
use Rattle.fk_machine.specs.Hart.{Hart, Shared, Setting, Stops}
use Rattle.fk_machine.specs.Step.{step}
use Rattle.fk_machine.specs.Run.{count_of}
use Rattle.fk_sim_nodes.specs.Node.{Member, Words, Has, AreApart}
use Rattle.fk_sim_nodes.specs.Source.{Source, Passes, Breaks, Shows}
use Rattle.fk_sim_nodes.specs.Chain.{runs, Passing, Faulting, Chain}
use Rattle.fk_sim_nodes.specs.Alone.{later, in_cycles, NodeCycle, NodeRun}

-- The addresses that the members are about to run have this count.
abbrev pub AllCount : Image → (c : ℕ) → List Member → Type 0
AllCount image c [] = Unit {0}
AllCount image c (m ∷ ms) = (count_of image (runs m.hart) ≡ c) × AllCount image c ms

-- Processors' parts with count c leave every store as it is, and make these of the processors, one
-- for each member.
abbrev pub AllTake : {S P D : Type 0} → Source S P D → (c : ℕ) → List Member → List P
    → List D → Type 0
AllTake source c [] [] [] = Unit {0}
AllTake {S = S} source c (m ∷ ms) (p ∷ ps) (d ∷ ds) = ((s : S) → source.part c s p ≡ Passes s d)
    × AllTake source c ms ps ds
AllTake source c ms ps ds = ⊥

-- Members' turns one after another, each as `Moves` says, from the words that it finds to those
-- that it leaves.
abbrev pub AllMove : {P D : Type 0} → (Memory → Member → P → Memory → Hart → D → Type 0)
    → (own : Memory) → List Member → List P → (own' : Memory) → List Member → List D → Type 0
AllMove Moves own [] [] own' [] [] = own' ≡ own
AllMove Moves own (m ∷ ms) (p ∷ ps) own' (m' ∷ ms') (d ∷ ds) =
    (own1 : Memory) × (m'.number ≡ m.number) × Moves own m p own1 m'.hart d
    × AllMove Moves own1 ms ps own' ms' ds
AllMove Moves own ms ps own' ms' ds = ⊥

module _ {S P D : Type 0} (source : Source S P D) (image : Image) (mine : Words) where
  -- In this cycle all members take part with count c, by such a chain.
  pub record Commits (t : Setting) (c : ℕ) (ms : List Member) (ps : List P) (own : Memory)
      (Then : List Member → List D → Memory → Type 0) : Type 0 where
    pub counted : AllCount image c ms
    pub chain : Chain source image mine t ms ps own Then

  -- All members take part `cycles` cycles from now, and until then the node runs alone.
  abbrev pub Together : Setting → (c cycles : ℕ) → List Member → List P → (own : Memory)
      → (List Member → List D → Memory → Type 0) → Type 0
  Together t c zero ms ps own Then = Commits t c ms ps own Then
  Together t c (suc d) ms ps own Then =
      NodeCycle image mine t 0 ms own (λ ms' own'. Together (later t) c d ms' ps own' Then)

  -- Each member's turn is as `Moves` says, whatever words of the node it finds.
  abbrev pub EachMoves : Setting → (Memory → Member → P → Memory → Hart → D → Type 0) → List Member
      → List P → Type 0
  EachMoves t Moves [] [] = Unit {0}
  EachMoves t Moves (m ∷ ms) (p ∷ ps) =
      ((own : Memory) (earlier : List ℕ) (sh : Shared) (s : S) → Shows source earlier sh s
      → Has mine sh.control own
      → Passing source image mine t m p earlier sh s (λ h d own'. Moves own m p own' h d)
      ⊎ Faulting source image mine t m p sh s)
      × EachMoves t Moves ms ps
  EachMoves t Moves ms ps = ⊥

-- A cycle of a node alone is a commit, with its count, where the processors' parts leave every
-- store as it is.
abbrev pub NodeCyclesAreCommits : (S P D : Type 0) → Type 0
NodeCyclesAreCommits S P D =
    (source : Source S P D) (image : Image) (mine : Words) (t : Setting) (c : ℕ) (ms : List Member)
    (ps : List P) (ds : List D) (own : Memory)
    (test : List Member → Memory → Bool)
    → AreApart mine source.common → AllTake source c ms ps ds
    → NodeCycle image mine t c ms own (λ ms' own'. test ms' own' ≡ true)
    → Commits source image mine t c ms ps own (λ ms' ds' own'. (ds' ≡ ds) × (test ms' own' ≡ true))

-- In a cycle before their commit members are not in the round, and come one cycle nearer to it.
abbrev pub MembersComeNearer : (S P D : Type 0) → Type 0
MembersComeNearer S P D =
    (source : Source S P D) (image : Image) (mine : Words) (t : Setting) (c d : ℕ) (idle : P → D)
    (ms : List Member) (ps : List P) (own : Memory)
    (test : List Member → List D → Memory → Bool)
    → AreApart mine source.common → ((s : S) (p : P) → source.part 0 s p ≡ Passes s (idle p))
    → length ms ≡ length ps
    → Together source image mine t c (suc d) ms ps own (λ ms' ds own'. test ms' ds own' ≡ true)
    → Commits source image mine t 0 ms ps own
    (λ ms' ds own'. (ds ≡ map idle ps) × Together source image mine (later t) c d ms' ps own'
    (λ ms'' ds' own''. test ms'' ds' own'' ≡ true))

-- A run of b cycles of a node, after which its members are `a` cycles before their commit, starts b
-- + a cycles before it.
abbrev pub RunsLeadToCommits : (S P D : Type 0) → Type 0
RunsLeadToCommits S P D =
    (source : Source S P D) (image : Image) (mine : Words) (t : Setting) (c b a : ℕ)
    (ms : List Member) (ps : List P) (own : Memory)
    (test : List Member → List D → Memory → Bool)
    → NodeRun image mine t b ms own (λ ms' own'. Together source image mine
    (in_cycles b t) c a ms' ps own' (λ ms'' ds own''. test ms'' ds own'' ≡ true))
    → Together source image mine t c (b + a) ms ps own (λ ms'' ds own''. test ms'' ds own'' ≡ true)

-- What members do depends on their node's own words alone: other words may be put beside these.
abbrev pub MembersRestOnOwnWords : (S P D : Type 0) → Type 0
MembersRestOnOwnWords S P D =
    (source : Source S P D) (image : Image) (mine : Words) (t : Setting) (c d : ℕ) (m : Member)
    (ms : List Member) (ps : List P) (own own2 : Memory)
    (test : List Member → List D → Memory → Bool)
    → Has mine own own2
    → Together source image mine t c d (m ∷ ms) ps own (λ ms' ds own'. test ms' ds own' ≡ true)
    → Together source image mine t c d (m ∷ ms) ps own2 (λ ms' ds own'. test ms' ds own' ≡ true)

-- Members whose turns are as a test says, on whatever words, have a chain of such turns.
abbrev pub MovesAreChains : (S P D : Type 0) → Type 0
MovesAreChains S P D =
    (source : Source S P D) (image : Image) (mine : Words) (t : Setting)
    (test : Memory → Member → P → Memory → Hart → D → Bool)
    (ms : List Member) (ps : List P) (own : Memory)
    → EachMoves source image mine t (λ before m p after h d. test before m p after h d ≡ true) ms ps
    → Chain source image mine t ms ps own (λ ms' ds own'.
    AllMove (λ before m p after h d. test before m p after h d ≡ true) own ms ps own' ms' ds)

-- A cycle is cut at the lowest member of a group, where that faults, whatever the store: no other
-- member is served.
abbrev pub LowestFaultsForAll : (S P D : Type 0) → Type 0
LowestFaultsForAll S P D =
    (source : Source S P D) (image : Image) (mine : Words) (t : Setting) (c site : ℕ) (m : Member)
    (ms : List Member) (p : P) (ps : List P) (own : Memory)
    → AllCount image c (m ∷ ms) → m.hart.ended ≡ false → ((s : S) → source.part c s p ≡ Breaks site)
    → ((sh : Shared) → Has mine sh.control own
    → step t m.number m.hart sh ≡ Stops (Faulted site m.number))
    → Commits source image mine t c (m ∷ ms) (p ∷ ps) own (λ ms' ds own'. ⊥)
