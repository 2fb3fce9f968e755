-- What holds of one hart holds of a group: members that each do an operation by themselves do it
-- together.
use Rattle.std.specs.Prelude.{◌≡◌, ℕ, List, [], ◌∷◌, Bool, true, false, ◌⊎◌}
use Rattle.fk_num.specs.Word.{Memory}
use Rattle.fk_image.specs.declared.Image.{Image}
use Rattle.fk_machine.specs.declared.stand.Stand.TheVariants.{Faulted}
use Rattle.fk_machine.specs.Hart.{Hart, Shared, Setting, Goes, Stops}
use Rattle.fk_machine.specs.Step.{step}
use Rattle.fk_machine.specs.Run.{count_in}
use Rattle.fk_sim_nodes.specs.Node.{Member, Words, AreApart}
use Rattle.fk_sim_nodes.specs.Source.{Source, Passes, Breaks, Shows}
use Rattle.fk_sim_nodes.specs.Alone.{later, in_cycles, RunsPrivately, NodeRun}
use Rattle.fk_sim_nodes.specs.Together.{Together}

module _ {S P D : Type 0} (source : Source S P D) (image : Image) where
  -- On this store an instruction of a member is its processor's part with count c. No control words
  -- change but common ones.
  pub record Serves (t : Setting) (c : ℕ) (m : Member) (p : P) (s : S)
      (Then : Hart → D → Type 0) : Type 0 where
    pub hart : Hart
    pub store : S
    pub done : D
    pub part : source.part c s p ≡ Passes store done
    pub goes : (earlier : List ℕ) (sh : Shared) → Shows source earlier sh s
        → (sh' : Shared) × (step t m.number m.hart sh ≡ Goes hart sh')
        × Shows source earlier sh' store
        × ((i : ℕ) → source.common i ≡ false → sh'.control i ≡ sh.control i)
    pub follows : Then hart done

  -- On this store the instruction is the fault of that part.
  pub record Faults (t : Setting) (c : ℕ) (m : Member) (p : P) (s : S) : Type 0 where
    pub site : ℕ
    pub part : source.part c s p ≡ Breaks site
    pub stops : (earlier : List ℕ) (sh : Shared) → Shows source earlier sh s
        → step t m.number m.hart sh ≡ Stops (Faulted site m.number)

  -- In this cycle a member runs an address of count c. On every store that is its processor's part
  -- or fault.
  pub record OneCommits (t : Setting) (c : ℕ) (m : Member) (p : P)
      (Then : Hart → D → Type 0) : Type 0 where
    pub live : m.hart.ended ≡ false
    pub counted : count_in image.commits.items m.hart.pc ≡ c
    pub does : (s : S) → Serves t c m p s Then ⊎ Faults t c m p s

  -- A member commits so after `before` private instructions, and then runs `after` private ones.
  pub record OneDoes (t : Setting) (c before after : ℕ) (m : Member) (p : P)
      (Then : Hart → D → Type 0) : Type 0 where
    pub committing : Hart
    pub runs : RunsPrivately image t m.number before m.hart committing
    pub commits : OneCommits (in_cycles before t) c (record m { hart = committing }) p
        (λ h d. (h' : Hart)
        × RunsPrivately image (later (in_cycles before t)) m.number after h h' × Then h' d)

  -- Each member commits so, and comes to what `Goal` says of its number and its processor.
  abbrev pub EachDoes : Setting → (c before after : ℕ) → (ℕ → P → Hart → D → Type 0) → List Member
      → List P → Type 0
  EachDoes t c before after Goal [] [] = Unit {0}
  EachDoes t c before after Goal (m ∷ ms) (p ∷ ps) =
      OneDoes t c before after m p (Goal m.number p) × EachDoes t c before after Goal ms ps
  EachDoes t c before after Goal ms ps = ⊥

-- What `Goal` says of members, by their numbers and processors, holds.
abbrev pub AllReach : {P D : Type 0} → (ℕ → P → Hart → D → Type 0) → List P → List Member
    → List D → Type 0
AllReach Goal [] [] [] = Unit {0}
AllReach Goal (p ∷ ps) (m ∷ ms) (d ∷ ds) = Goal m.number p m.hart d × AllReach Goal ps ms ds
AllReach Goal ps ms ds = ⊥

-- Members that each have `before` private instructions before their commits, and `after` after
-- them, commit together, each with its own request, and go on together. Their node's words stay as
-- they are.
abbrev pub MembersDoAsEach : (S P D : Type 0) → Type 0
MembersDoAsEach S P D =
    (source : Source S P D) (image : Image) (mine : Words) (t : Setting) (c before after : ℕ)
    (test : ℕ → P → Hart → D → Bool)
    (ms : List Member) (ps : List P) (own : Memory)
    → AreApart mine source.common
    → EachDoes source image t c before after (λ number p h d. test number p h d ≡ true) ms ps
    → Together source image mine t c before ms ps own
    (λ ms' ds own'.
    NodeRun image mine (later (in_cycles before t)) after ms' own'
    (λ ms'' own''. (own'' ≡ own) × AllReach (λ number p h d. test number p h d ≡ true) ps ms'' ds))
