-- A group in lockstep that has done a step of the tree, behind which each of its members goes on by itself.
use Rattle.std.proofs.Common.{◌≡◌, ℕ, suc, List, [], ◌∷◌, length, Option, Some, Bool, true, false, sym, ap, subst, ◌∙◌, refl, ◌⊎◌, inl, inr, ⊎_elim, eq-eqb}
use Rattle.std.specs.Prelude.{◌==◌, map}
use Rattle.std.proofs.lemmas.Bool.{false≢true}
use Rattle.fk_num.specs.Word.{Memory}
use Rattle.fk_tree.specs.Tree.{Tree}
use Rattle.fk_meaning_operation.specs.declared.operation.Operation.{Operation}
use Rattle.fk_meaning_operation.specs.declared.operation.Operation.TheVariants.{Begin, Agree, Frame, Block}
use Rattle.fk_meaning.specs.Processor.{Setting}
use Rattle.fk_core.specs.declared.op.CoreOp.{CoreOp}
use Rattle.fk_image.specs.declared.Image.{Image}
use Rattle.fk_machine.specs.Hart.{Hart, Setting as MachineSetting}
use Rattle.fk_sim_nodes.specs.Node.{Member, numbered, add, of_node, AreAsMany}
use Rattle.fk_sim_match.specs.Stage.{Stage}
use Rattle.fk_sim_match.specs.Plan.{Plan, Blocks}
use Rattle.fk_sim_match.specs.Cycle.{AllHaveCommitted, GroupIsLeft}
use Rattle.fk_lockstep.specs.Untouched.{changes_tree}
use Rattle.fk_sim_block.specs.Owner.{Owner, Doing, idle, core_source}
use Rattle.fk_sim_block.specs.Stands.{Places}
use Rattle.fk_sim_block.specs.Node.{Nestings}
use Rattle.fk_sim_block.specs.Lockstep.{is_due}
use Rattle.fk_sim_block.specs.Law.{stays_in_step}
use Rattle.fk_sim_match.specs.Behind.{HaveMoved, HaveBegun, AllHaveGone, IsGroupBehind, blocks_of}
use Rattle.fk_sim_rounds.specs.After.{DoesStep, ArePlaces}
use Rattle.fk_sim_rounds.proofs.Lists.{run_end}
use Rattle.fk_sim_rounds.proofs.Harts.{AllAre}
use Rattle.fk_sim_rounds.proofs.Changed.{Here}
use Rattle.fk_sim_rounds.proofs.Close.{AllDo}

-- ---- what two lists say, element by element

abbrev pub Both : (Member → Doing → Type 0) → List Member → List Doing → Type 0
Both Own [] [] = Unit {0}
Both Own (m ∷ ms) (d ∷ ds) = Own m d × Both Own ms ds
Both Own ms ds = ⊥

both_parts : (Own : Member → Doing → Type 0) (b : Bool) (m : Member) (ms : List Member) (d : Doing) (ds : List Doing) → Both Own (add b m ms) (add b d ds)
    → (b ≡ true → Own m d) × Both Own ms ds
both_parts Own true m ms d ds all = (λ e. all.0, all.1)
both_parts Own false m ms d ds all = (λ e. absurd (false≢true e), all)

pub both_are : (A B : Member → Doing → Type 0) → ((m : Member) (d : Doing) → A m d → B m d) → (ms : List Member) (ds : List Doing) → Both A ms ds → Both B ms ds
both_are A B each [] [] both = tt
both_are A B each (m ∷ ms) (d ∷ ds) both = (each m d both.0, both_are A B each ms ds both.1)
both_are A B each ms ds both = absurd (assumption both)

-- they are as many
pub both_there : (g number : ℕ) (ns : List ℕ) (hs : List Hart) (ds : List Doing) → AreAsMany ns hs ds → Both (λ m d. Unit {0}) (of_node g ns (numbered number hs)) (of_node g ns ds)
both_there g number [] [] [] many = tt
both_there g number (n ∷ ns) (h ∷ hs) (d ∷ ds) many = both_add (n == g) (both_there g (suc number) ns hs ds many)
  where
    both_add : (b : Bool) → Both (λ m d. Unit {0}) (of_node g ns (numbered (suc number) hs)) (of_node g ns ds)
        → Both (λ m d. Unit {0}) (add b (record { number = number; hart = h }) (of_node g ns (numbered (suc number) hs))) (add b d (of_node g ns ds))
    both_add true both = (tt, both)
    both_add false both = both
both_there g number ns hs ds many = absurd (assumption many)

-- what is so of those of a node is so of each hart that stands there
pub spread : (old : Tree) (does : ℕ → Option Operation) (Own : Member → Doing → Type 0) (number : ℕ) (ns : List ℕ) (hs : List Hart) (ds : List Doing) → ArePlaces old number ns → AreAsMany ns hs ds
    → ((g : ℕ) (operation : Operation) → does g ≡ Some operation → Both (λ m d. old.places m.number ≡ g → Own m d) (of_node g ns (numbered number hs)) (of_node g ns ds))
    → AllAre (Here old does Own) number hs ds
spread old does Own number [] [] [] places many all = tt
spread old does Own number (n ∷ ns) (h ∷ hs) (d ∷ ds) places many all =
    let m : Member = record { number = number; hart = h } in
    let At : ℕ → Member → Doing → Type 0 = λ g m' d'. old.places m'.number ≡ g → Own m' d' in (
      λ operation e.
          let g = old.places number in
          (both_parts (At g) (n == g) m (of_node g ns (numbered (suc number) hs)) d (of_node g ns ds) (all g operation e)).0 (eq-eqb n g places.0) refl,
      spread old does Own (suc number) ns hs ds places.1 many
          (λ g operation e. (both_parts (At g) (n == g) m (of_node g ns (numbered (suc number) hs)) d (of_node g ns ds) (all g operation e)).1),
    )
spread old does Own number ns hs ds places many all = absurd (assumption many)

-- ---- what the step has left

-- none of them does nothing, or something else
not_idle : (operation : Operation) (ps : List Owner) (ds : List Doing) → AllDo operation ds → ds ≡ map idle ps → length ds ≡ 0
not_idle operation ps [] do' e = refl
not_idle operation [] (d ∷ ds) do' e = absurd (cc)
not_idle operation (p ∷ ps) (d ∷ ds) do' e =
    let same : d ≡ idle p = cc in absurd (subst (λ x. DoesStep operation x.acting.due) same do'.0)

-- steps after which a group is in lockstep still leave the tree
stays_keep : (operation : Operation) → stays_in_step operation ≡ true → changes_tree operation ≡ false
stays_keep Agree stays = refl
stays_keep (Frame number words) stays = refl
stays_keep Block stays = refl
stays_keep operation stays = absurd (cc)

first_does : (core : List CoreOp) (i : ℕ) (op : CoreOp) (operation done : Operation) (ps : List Owner) → AllDo operation (map (is_due core i op done) ps) → (length (map (is_due core i op done) ps) ≡ 0 → ⊥)
    → done ≡ operation
first_does core i op operation done [] do' some = absurd (some refl)
first_does core i op operation done (p ∷ ps) do' some = do'.0

module _ (core : List CoreOp) (image : Image) (places : Places) (nestings : Nestings) (setting : Setting) (plan : Plan) (first : ℕ → ℕ) (t : MachineSetting) (g : ℕ)
    (afters : List (Option Stage)) (ms : List Member) (ps : List Owner) (ds : List Doing) (own : Memory) (operation : Operation)
    (all_step : AllDo operation ds) (some : length ds ≡ 0 → ⊥) (changes : changes_tree operation ≡ true) where
  abbrev blocks : Blocks Owner Doing
  blocks = blocks_of core image places nestings setting plan first

  -- each goes on by itself, or the group of `start` has begun
  pub record Acted : Type 0 where
    pub committed : AllHaveCommitted afters
    pub how : ((x : HaveMoved core image places nestings setting (first g) t ds ms own) × (x.operation ≡ operation))
        ⊎ (HaveBegun core image places nestings setting t ds ms own × (Begin ≡ operation))

  does_it : (i : ℕ) (op : CoreOp) (done : Operation) (xs : List Owner) → ds ≡ map (is_due core i op done) xs → done ≡ operation
  does_it i op done xs e = first_does core i op operation done xs (subst (AllDo operation) e all_step) (λ none. some (ap (λ l. length l) e ∙ none))

  -- they have not gone on alone, and do no step that leaves the tree
  none_gone : (ms' : List Member) (xs : List Doing) → AllDo operation xs → (length xs ≡ 0 → ⊥) → AllHaveGone core image places nestings setting ms' xs → ⊥
  none_gone [] [] do' some' gone = some' refl
  none_gone (m ∷ ms') (d ∷ xs) do' some' gone = subst (DoesStep operation) gone.0.done.done.done do'.0
  none_gone ms' xs do' some' gone = absurd (assumption gone)

  none_stayed : (done : Operation) → stays_in_step done ≡ true → done ≡ operation → ⊥
  none_stayed done stays e = let same = sym (stays_keep done stays) ∙ ap changes_tree e ∙ changes in absurd (false≢true same)

  pub acted : GroupIsLeft (core_source core setting) image plan blocks t g afters ms ps ds own → Acted
  acted (inr x) = absurd (some (not_idle operation ps ds all_step x.3))
  acted (inl x) =
      ⊎_elim
      (λ led.
      let end = run_end image (plan.words g) t x.1.0 ms own (λ ms' own'. IsGroupBehind core image places nestings setting (first g) ds ms' own') led in
      absurd (⊎_elim (λ gone. none_gone end.0 ds all_step some gone) (λ stayed. none_stayed stayed.operation stayed.stays (does_it stayed.i stayed.op stayed.operation stayed.ps stayed.due)) end.2.1))
      (λ other.
      record {
        committed = x.0;
        how = ⊎_elim (λ moved. inl (moved, does_it moved.i moved.op moved.operation moved.ps moved.due))
            (λ begun. inr (begun, does_it begun.i begun.op Begin begun.ps begun.due)) other;
      })
      x.1.2
