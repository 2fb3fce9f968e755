-- A node some of whose members meet, while others go on by themselves.
use Rattle.std.specs.Prelude.{◌≡◌, ℕ, List, [], ◌∷◌, Bool, true, ◌⊎◌}
use Rattle.fk_num.specs.Word.{Memory}
use Rattle.fk_image.specs.declared.Image.{Image}
use Rattle.fk_machine.specs.Hart.{Hart, Shared, Setting}
use Rattle.fk_sim_nodes.specs.Node.{Member, Words, Has, AreApart}
use Rattle.fk_sim_nodes.specs.Source.{Source, Passes, Shows}
use Rattle.fk_sim_nodes.specs.Chain.{Passing, Faulting, Chain}
use Rattle.fk_sim_nodes.specs.Alone.{Holds}
use Rattle.fk_sim_nodes.specs.Phase.{Phase, Outside, Away, AllMove}
use Rattle.fk_gen_group.specs.Meeting.{Meeting, count_for, lead}
use Rattle.fk_gen_group.specs.Together.{Comer, IsInLines, GoesOn, phases}

module _ {S P D : Type 0} (source : Source S P D) (g : Meeting) (image : Image) (bound : ℕ → ℕ)
    (mine : Words) (w n : ℕ) (test : Member → P → Hart → D → Bool) where
  -- A member that is not in the lines of the meeting has the turn of its processor, or faults. It
  -- leaves the arrival word as it is.
  abbrev pub TurnsElsewhere : Setting → Member → P → Type 0
  TurnsElsewhere t m p =
      (own : Memory) (earlier : List ℕ) (sh : Shared) (s : S) → Shows source earlier sh s
      → Has mine sh.control own
      → Passing source image mine t m p earlier sh s
      (λ h d own'. (own' w ≡ own w) × (test m p h d ≡ true)) ⊎ Faulting source image mine t m p sh s

  -- A member in these lines takes part with the count of its phase, and makes no request.
  pub record TurnsInside (t : Setting) (c : Comer) (m : Member) (p : P) (d : D) : Type 0 where
    pub stands : IsInLines g image bound w n t c m
    pub takes : (s : S) → source.part (count_for g c.phase) s p ≡ Passes s d

  abbrev pub Turns : Setting → Phase → Comer → Member → P → D → Type 0
  Turns t Outside c m p d = TurnsElsewhere t m p
  Turns t Away c m p d = TurnsElsewhere t m p
  Turns t f c m p d = TurnsInside t c m p d

  abbrev pub AllTurn : Setting → List Comer → List Member → List P → List D → Type 0
  AllTurn t [] [] [] [] = Unit {0}
  AllTurn t (c ∷ cs) (m ∷ ms) (p ∷ ps) (d ∷ ds) = Turns t c.phase c m p d × AllTurn t cs ms ps ds
  AllTurn t cs ms ps ds = ⊥

  -- What becomes of a member.
  abbrev pub Became : Setting → Phase → Comer → Member → P → D → Phase → Hart → D → Type 0
  Became t Outside c m p d f' h d' = (f' ≡ Outside) × (test m p h d' ≡ true)
  Became t Away c m p d f' h d' = (f' ≡ Away) × (test m p h d' ≡ true)
  Became t f c m p d f' h d' = GoesOn g image bound w n t f c m f' h × (d' ≡ d)

  abbrev pub AllBecame : Setting → List Comer → List Member → List P → List D → List Phase
      → List Member → List D → Type 0
  AllBecame t [] [] [] [] [] [] [] = Unit {0}
  AllBecame t (c ∷ cs) (m ∷ ms) (p ∷ ps) (d ∷ ds) (f' ∷ fs') (m' ∷ ms') (d' ∷ ds') =
      (m'.number ≡ m.number) × Became t c.phase c m p d f' m'.hart d'
      × AllBecame t cs ms ps ds fs' ms' ds'
  AllBecame t cs ms ps ds fs' ms' ds' = ⊥

  -- The turns of all members are moves of those who meet.
  pub record HaveTurned (t : Setting) (cs : List Comer) (ms : List Member)
      (ps : List P) (ds : List D) (before : Memory) (ms' : List Member) (ds' : List D)
      (own : Memory) : Type 0 where
    pub phases' : List Phase
    pub moves : AllMove t.finished n lead (phases cs) (before w) phases' (own w)
    pub became : AllBecame t cs ms ps ds phases' ms' ds'

-- The members of a node have a chain, whatever all other nodes do.
abbrev pub MeetersHaveChains : (S P D : Type 0) → Type 0
MeetersHaveChains S P D =
    (source : Source S P D) (g : Meeting) (image : Image) (bound : ℕ → ℕ) (mine : Words) (w n : ℕ)
    (test : Member → P → Hart → D → Bool)
    (t : Setting) (cs : List Comer) (ms : List Member) (ps : List P) (ds : List D) (own : Memory)
    → AreApart mine source.common → mine w ≡ true → Holds image t
    → AllTurn source g image bound mine w n test t cs ms ps ds
    → Chain source image mine t ms ps own
    (λ ms' ds' own'. HaveTurned source g image bound mine w n test t cs ms ps ds own ms' ds' own')
