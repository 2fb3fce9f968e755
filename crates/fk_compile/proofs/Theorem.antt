-- An image that has the blocks of a text's list is faithful to the text.
use Rattle.std.proofs.Common.{◌≡◌, ℕ, List, subst}
use Rattle.std.specs.Prelude.{map}
use Rattle.fk_syntax.specs.declared.facts.Facts.{Facts}
use Rattle.fk_syntax.specs.Program.{ProgramTree}
use Rattle.fk_meaning_forms.specs.Program.{main_of, sites_of}
use Rattle.fk_meaning.specs.Program.{next_in, program_opening}
use Rattle.fk_layout.specs.Layout.{tables_by}
use Rattle.fk_core.specs.declared.op.CoreOp.{CoreOp}
use Rattle.fk_image.specs.declared.Image.{Image}
use Rattle.fk_image.specs.Limits.{IsWithinLimits}
use Rattle.fk_sim_rounds.specs.Follows.{Follows}
use Rattle.fk_sim_rounds.specs.Programs.{ProgramsAreFollowed}
use Rattle.fk_sim_block.specs.Stands.{Places}
use Rattle.fk_sim_block.specs.Node.{Nestings}
use Rattle.fk_sim_block.specs.Law.{Cycles}
use Rattle.fk_sim_runs.specs.Follow.{CarriesTrees, MachinesFollowTrees}
use Rattle.fk_compile.specs.Lists.{HasListOf}
use Rattle.fk_compile.specs.Faithful.{in_image, words_by, firsts_by, IsFaithfulTo}

module _ (program : ProgramTree) (facts : Facts) (core : List CoreOp) (main : ℕ) (image : Image) where
  -- what the parts of the compiler say of the list and the image
  pub record IsCompiled : Type 0 where
    pub list : HasListOf (tables_by program facts) program core main
    pub places : Places
    pub nestings : Nestings
    pub cycles : Cycles
    pub carries : CarriesTrees core main (firsts_by program facts) places nestings cycles image
    pub limits : IsWithinLimits image
    pub sites_are : image.sites.items ≡ map in_image (sites_of (tables_by program facts) program)
    pub globals_are : image.globals.items ≡ words_by program facts

  pub is_faithful : MachinesFollowTrees → ProgramsAreFollowed → IsCompiled → IsFaithfulTo program facts image
  is_faithful law programs c = record {
    limits = c.limits;
    sites_are = c.sites_are;
    globals_are = c.globals_are;
    follows = λ input p n within some few bound.
        let entry = c.list.entry in
        let tables = tables_by program facts in
        let firsts = firsts_by program facts in
        let carries = subst (λ (m : ℕ). CarriesTrees core m firsts c.places c.nestings c.cycles image) c.list.begins c.carries in
        let follows = law core (entry (main_of tables program)) firsts c.places c.nestings c.cycles image carries input p n within some few in
        subst (λ (words : List ℕ). Follows (next_in tables program) image input p n (program_opening tables program words firsts input p)) c.globals_are
        (programs tables program core entry firsts image input p n c.list.code follows);
  }
