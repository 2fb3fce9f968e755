-- The whole cycle, node by node: the chains of all nodes together.
use Rattle.std.specs.Prelude.{◌≡◌, ℕ, zero, suc, ◌+◌, List, [], ◌∷◌, Some, None, Bool, true, map}
use Rattle.std.specs.Prelude.{◌⊎◌}
use Rattle.fk_num.specs.Word.{Memory}
use Rattle.fk_image.specs.declared.Image.{Image}
use Rattle.fk_machine.specs.declared.stand.Stand.TheVariants.{Faulted}
use Rattle.fk_machine.specs.Hart.{Hart, Shared, Setting}
use Rattle.fk_machine.specs.Cycle.{Turns, turns}
use Rattle.fk_machine.specs.Run.{count_of}
use Rattle.fk_sim_nodes.specs.Node.{Member, numbered, of_node, AreAsMany, Words, Has, OwnApart}
use Rattle.fk_sim_nodes.specs.Source.{Source, Shows, AllPass, FaultsAfter}
use Rattle.fk_sim_nodes.specs.Chain.{runs, Chain}

-- The counts of the addresses that harts are about to run, and of those that they have run.
abbrev pub planned : Image → List Hart → List ℕ
planned image hs = map (λ h. count_of image (runs h)) hs

abbrev pub counted : Image → Turns → List ℕ
counted image done = map (count_of image) done.ran

-- The first n counts, and 0 in place of the others.
abbrev pub first_of : ℕ → List ℕ → List ℕ
first_of n [] = []
first_of zero (c ∷ counts) = 0 ∷ first_of zero counts
first_of (suc n) (c ∷ counts) = c ∷ first_of n counts

module _ {S P D : Type 0} (source : Source S P D) (image : Image) (words : ℕ → Words) where
  -- All harts from a number on have had their turns, each as its processor's part, and each node
  -- has come to what holds after its chain.
  pub record IsWhole (After : ℕ → List Member → List D → Memory → Type 0)
      (earlier : List ℕ) (number : ℕ) (nodes : List ℕ) (hs : List Hart) (ps : List P) (s : S)
      (done : Turns) : Type 0 where
    pub own : ℕ → Memory
    pub store : S
    pub did : List D
    pub as_many : AreAsMany nodes done.harts did
    pub going : done.stop ≡ None
    pub counts : counted image done ≡ planned image hs
    pub parts : AllPass source (planned image hs) ps s did store
    pub shows : Shows source earlier done.shared store
    pub has : (g : ℕ) → Has (words g) done.shared.control (own g)
    pub after : (g : ℕ)
        → After g (of_node g nodes (numbered number done.harts)) (of_node g nodes did) (own g)

  -- One of these harts has ended the machine, with the first fault of the processors' parts, and no
  -- hart above it was served.
  pub record IsCut (earlier : List ℕ) (number : ℕ) (hs : List Hart) (ps : List P) (s : S)
      (done : Turns) : Type 0 where
    pub site : ℕ
    pub place : ℕ
    pub store : S
    pub stops : done.stop ≡ Some (Faulted site (number + place))
    pub counts : counted image done ≡ first_of (suc place) (planned image hs)
    pub faults : FaultsAfter source place site (planned image hs) ps s store
    pub shows : Shows source earlier done.shared store

  abbrev pub IsRound : (ℕ → List Member → List D → Memory → Type 0) → List ℕ → ℕ → List ℕ
      → List Hart → List P → S → Turns → Type 0
  IsRound After earlier number nodes hs ps s done =
      IsWhole After earlier number nodes hs ps s done ⊎ IsCut earlier number hs ps s done

-- Nodes own words apart, and each has a chain from its own words on. A test tells what holds of
-- each afterwards.
abbrev pub ChainsAreTheCycle : (S P D : Type 0) → Type 0
ChainsAreTheCycle S P D =
    (source : Source S P D) (image : Image) (words : ℕ → Words) (t : Setting)
    (test : ℕ → List Member → List D → Memory → Bool)
    (earlier nodes : List ℕ) (hs : List Hart) (ps : List P) (own : ℕ → Memory) (sh : Shared) (s : S)
    → OwnApart words source.common → AreAsMany nodes hs ps → Shows source earlier sh s
    → ((g : ℕ) → Has (words g) sh.control (own g))
    → ((g : ℕ) → Chain source image (words g) t (of_node g nodes (numbered 0 hs))
    (of_node g nodes ps) (own g) (λ ms ds own'. test g ms ds own' ≡ true))
    → IsRound source image words (λ g ms ds own'. test g ms ds own' ≡ true) earlier 0 nodes hs ps s
    (turns t 0 hs sh)
