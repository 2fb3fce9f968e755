-- Those who come by themselves to a group that begins behind a round, or that others have left, are in lockstep there.
use Rattle.std.proofs.Common.{◌≡◌, ◌≢◌, ℕ, suc, ◌+◌, ◌<◌, List, [], ◌∷◌, length, Option, None, Bool, true, false, sym, ap, subst, ◌∙◌, refl, arith}
use Rattle.std.specs.Prelude.{◌==◌, map}
use Rattle.std.proofs.lemmas.Bool.{eqb-true}
use Rattle.fk_space.specs.Space.{Space}
use Rattle.fk_tree.specs.Tree.{Tree}
use Rattle.fk_meaning.specs.Processor.{Setting}
use Rattle.fk_core.specs.declared.op.CoreOp.{CoreOp}
use Rattle.fk_image.specs.declared.Image.{Image}
use Rattle.fk_machine.specs.Hart.{Hart, Setting as MachineSetting}
use Rattle.fk_sim_nodes.specs.Node.{Member, numbered, add, of_node, AreAsMany}
use Rattle.fk_sim_nodes.specs.Alone.{RunsPrivately, AllRunPrivately, with_harts}
use Rattle.fk_sim_match.specs.Stage.{Stage}
use Rattle.fk_sim_block.specs.Owner.{Owner, Doing}
use Rattle.fk_sim_block.specs.Stands as law
use Rattle.fk_sim_block.specs.Stands.{Places}
use Rattle.fk_sim_block.specs.Node.{Nestings, StandsInNode}
use Rattle.fk_sim_block.specs.Lockstep.{AreMembers}
use Rattle.fk_sim_match.specs.Nodes.{first_of}
use Rattle.fk_sim_rounds.specs.Next.{HasRange, IsHome}
use Rattle.fk_sim_rounds.specs.Comes.{AllHave, AllBelow}
use Rattle.fk_sim_rounds.specs.After.{ArePlaces, AllGoOn}
use Rattle.fk_sim_rounds.proofs.Harts.{AllAre}

-- so many private instructions lead one to where its processor goes on
pub record GoesInto (image : Image) (places : Places) (nestings : Nestings) (setting : Setting) (t : MachineSetting) (b : ℕ) (settle : Doing → Owner) (m : Member) (d : Doing) : Type 0 where
  pub hart : Hart
  pub private : RunsPrivately image t m.number b m.hart hart
  pub at : law.StandsAt places (settle d) hart
  pub node : StandsInNode places nestings setting None (settle d) hart

module _ (core : List CoreOp) (image : Image) (places : Places) (nestings : Nestings) (setting : Setting) (new : Tree) (spaces : ℕ → Space) (t : MachineSetting) (settle : Doing → Owner)
    (g b : ℕ) (not_root : g ≢ 0) where
  abbrev Goes : Member → Doing → Type 0
  Goes m d = GoesInto image places nestings setting t b settle m d

  pub record Gathered (ms : List Member) (xs : List Doing) : Type 0 where
    pub harts : List Hart
    pub runs : AllRunPrivately image t b ms harts
    pub members : AreMembers places nestings setting (λ p. None) (first_of spaces g) (with_harts ms harts) (map settle xs)
    pub below : AllBelow setting.processors (map settle xs)
    pub ranges : AllHave (spaces g) (map settle xs)

  one_more : (c : Bool) (m : Member) (ms : List Member) (d : Doing) (xs : List Doing) → (c ≡ true → new.places m.number ≡ g) → m.number < setting.processors
      → IsHome new spaces m.number (settle d) → (new.places m.number ≡ g → Goes m d) → Gathered ms xs → Gathered (add c m ms) (add c d xs)
  one_more false m ms d xs at lt home goes more = more
  one_more true m ms d xs at lt home goes more =
      let here = at refl in
      let one = goes here in
      record {
        harts = one.hart ∷ more.harts;
        runs = (one.private, more.runs);
        members = (record { number = sym home.number_is; at = one.at; node = one.node; words = home.words ∙ ap (first_of spaces) here }, more.members);
        below = (subst (λ k. k < setting.processors) (sym home.number_is) lt, more.below);
        ranges = (subst (λ k. HasRange (spaces k) (settle d).runner.has.level.space) here (home.range (λ e. not_root (sym here ∙ e))), more.ranges);
      }

  pub gathered : (number : ℕ) (ns' : List ℕ) (gs : List Hart) (afters : List (Option Stage)) (xs : List Doing) → number + length ns' ≡ setting.processors → ArePlaces new number ns'
      → AreAsMany ns' gs afters → AreAsMany ns' gs xs → AllGoOn core nestings setting new spaces number afters xs (map settle xs)
      → AllAre (λ m d. new.places m.number ≡ g → Goes m d) number gs xs → Gathered (of_node g ns' (numbered number gs)) (of_node g ns' xs)
  gathered number [] [] [] [] many here as_a as_d on all = record { harts = []; runs = tt; members = tt; below = tt; ranges = tt }
  gathered number (n ∷ ns') (h ∷ gs) (a ∷ afters) (d ∷ xs) many here as_a as_d on all =
      one_more (n == g) (record { number = number; hart = h }) (of_node g ns' (numbered (suc number) gs)) d (of_node g ns' xs) (λ e. sym here.0 ∙ eqb-true n g e) (omega (arith, many)) on.0 all.0
      (gathered (suc number) ns' gs afters xs (omega (arith, many)) here.1 as_a as_d on.2 all.1)
  gathered number ns' gs afters xs many here as_a as_d on all = absurd (assumption (as_a, as_d))
