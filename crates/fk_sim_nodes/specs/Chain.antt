-- What the members of a node do in one cycle, each in its turn, in terms of the node's own words.
use Rattle.std.specs.Prelude.{◌≡◌, ℕ, List, [], ◌∷◌, Option, Some, None, false, cond, ◌⊎◌}
use Rattle.fk_num.specs.Word.{Memory}
use Rattle.fk_image.specs.declared.Image.{Image}
use Rattle.fk_machine.specs.declared.stand.Stand.TheVariants.{Faulted}
use Rattle.fk_machine.specs.Hart.{Hart, Shared, Setting, Stops}
use Rattle.fk_machine.specs.Cycle.{Turns, before, after_effect, turn}
use Rattle.fk_machine.specs.Run.{count_of}
use Rattle.fk_sim_nodes.specs.Node.{Member, Words, Has, KeepsOthers}
use Rattle.fk_sim_nodes.specs.Source.{Source, Passes, Breaks, Shows}

-- The address that a hart runs in a cycle, if it has not ended.
abbrev pub runs : Hart → Option ℕ
runs h = cond h.ended None (Some h.pc)

module _ {S P D : Type 0} (source : Source S P D) (image : Image) (mine : Words) (t : Setting) where
  -- A member's turn is its processor's part. No control words change but the node's own and common
  -- ones.
  pub record Passing (m : Member) (p : P) (earlier : List ℕ) (sh : Shared) (s : S)
      (Then : Hart → D → Memory → Type 0) : Type 0 where
    pub hart : Hart
    pub shared : Shared
    pub own : Memory
    pub store : S
    pub done : D
    pub part : source.part (count_of image (runs m.hart)) s p ≡ Passes store done
    pub turned : (hs : List Hart) (others : Shared → Turns)
        → turn m.hart.ended t m.number m.hart hs others sh
        ≡ before hart (runs m.hart) (others shared)
    pub shows : Shows source earlier shared store
    pub has : Has mine shared.control own
    pub keeps : KeepsOthers mine source.common sh.control shared.control
    pub follows : Then hart done own

  -- A member's turn ends the machine with its processor's fault.
  pub record Faulting (m : Member) (p : P) (sh : Shared) (s : S) : Type 0 where
    pub site : ℕ
    pub live : m.hart.ended ≡ false
    pub part : source.part (count_of image (runs m.hart)) s p ≡ Breaks site
    pub turned : (hs : List Hart) (others : Shared → Turns)
        → turn m.hart.ended t m.number m.hart hs others sh
        ≡ after_effect m.hart hs others sh (Stops (Faulted site m.number))

  -- The members have their turns in this order, from the node's own words on, whatever the store,
  -- the other control words and the earlier output are by then. In the end `Then` holds of what
  -- they have become and of the words.
  abbrev pub Chain : List Member → List P → (own : Memory)
      → (List Member → List D → Memory → Type 0) → Type 0
  Chain [] [] own Then = Then [] [] own
  Chain (m ∷ ms) (p ∷ ps) own Then =
      (earlier : List ℕ) (sh : Shared) (s : S) → Shows source earlier sh s → Has mine sh.control own
      → Passing m p earlier sh s
      (λ h d own'. Chain ms ps own' (λ ms' ds. Then (record m { hart = h } ∷ ms') (d ∷ ds)))
      ⊎ Faulting m p sh s
  Chain ms ps own Then = ⊥
