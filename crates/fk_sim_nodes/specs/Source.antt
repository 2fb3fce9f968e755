-- What the turns of harts stand for, in any meaning: each hart's turn is its processor's part in a
-- round, on one store.
use Rattle.std.specs.Prelude.{◌≡◌, ℕ, zero, suc, List, [], ◌∷◌, ◌++◌}
use Rattle.fk_num.specs.Word.{Memory}
use Rattle.fk_machine.specs.Hart.{Shared}
use Rattle.fk_sim_nodes.specs.Node.{Words, Has}

-- A processor's part: it leaves a store and what has become of the processor, or it is a fault at a
-- site.
pub data Part (S D : Type 0) : Type 0 where
  Passes : (store : S) (done : D) → Part S D
  Breaks : (site : ℕ) → Part S D

-- A meaning, with stores S, processors P, and what becomes of a processor by its part, D. Data and
-- output show a store, and so do control words that are common to all harts. A processor takes part
-- with a count, 0 where it does nothing.
pub record Source (S P D : Type 0) : Type 0 where
  pub words : S → Memory
  pub output : S → List ℕ
  pub common : Words
  pub control : S → Memory
  pub part : (count : ℕ) → S → P → Part S D

-- What harts share shows a store. This cycle's bytes come after those of earlier ones.
pub record Shows {S P D : Type 0} (source : Source S P D) (earlier : List ℕ) (shared : Shared)
    (s : S) : Type 0 where
  pub words : shared.words ≡ source.words s
  pub output : earlier ++ shared.output ≡ source.output s
  pub common : Has source.common shared.control (source.control s)

module _ {S P D : Type 0} (source : Source S P D) where
  -- Processors take part with their counts, one after another, each on the store that those before
  -- it have left.
  abbrev pub AllPass : (counts : List ℕ) → List P → S → List D → S → Type 0
  AllPass [] [] s [] s' = s' ≡ s
  AllPass (c ∷ counts) (p ∷ ps) s (d ∷ ds) s' = (s1 : S) × (source.part c s p ≡ Passes s1 d)
      × AllPass counts ps s1 ds s'
  AllPass counts ps s ds s' = ⊥

  -- `place` processors take part, and then one faults.
  abbrev pub FaultsAfter : (place site : ℕ) → (counts : List ℕ) → List P → S → S → Type 0
  FaultsAfter zero site (c ∷ counts) (p ∷ ps) s s' = (source.part c s p ≡ Breaks site) × (s' ≡ s)
  FaultsAfter (suc place) site (c ∷ counts) (p ∷ ps) s s' =
      (s1 : S) × (d : D) × (source.part c s p ≡ Passes s1 d)
      × FaultsAfter place site counts ps s1 s'
  FaultsAfter place site counts ps s s' = ⊥
