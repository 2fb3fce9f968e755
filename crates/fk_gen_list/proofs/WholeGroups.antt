-- The whole law.
use Rattle.std.proofs.Common.{ℕ, ◌≤◌, ◌^◌, List, ap, subst, arith, refl}
use Rattle.fk_core.specs.declared.op.CoreOp.{CoreOp}
use Rattle.fk_asm.specs.declared.code.Code.{Code}
use Rattle.fk_core_liveness.specs.declared.set.Set.{Set}
use Rattle.fk_gen.specs.declared.placed.Levels.{Levels}
use Rattle.fk_gen_list.specs.Generable.{IsGenerable, GivesWholeCode, places_in}
use Rattle.fk_gen_list.proofs.Done.{site_few, number_few}
use Rattle.fk_sim_block.specs.Law.{GroupLaw}
use Rattle.fk_gen_group.specs.Start.{gathering_of}
use Rattle.fk_gen_list.specs.Cycles.{cycles_of}
use Rattle.fk_gen.specs.Levels.{levels_in}
use Rattle.fk_gen_list.specs.Laws.{AreInRange, nestings_of}
use Rattle.fk_gen_list.specs.Whole.{CodeHasTheLaw, GivesGroupLaw}
use Rattle.fk_gen_list.proofs.Generated.{generated_code_is_whole}
use Rattle.fk_gen_list.proofs.Opening.{groups_begin}
use Rattle.fk_gen_list.proofs.Groups.{lists_have_the_law}

pub code_has_the_law : CodeHasTheLaw
code_has_the_law core kept saved image bound places firsts main forks suits are ranges looks firsts_are tells levels code =
    let nestings = nestings_of saved forks (gathering_of core bound) in
    lists_have_the_law core kept saved image bound places nestings firsts main suits are ranges code.alone levels.alone code.steps looks levels.steps
    (λ i. ap (λ f. let l : Levels = record (levels_in saved i) { fork = f } in l) (tells i)) refl
    (groups_begin core image bound places nestings firsts main code.opening firsts_are suits.begins suits.none levels.none levels.room)

-- so has each image with the code that is made of a list
pub gives_group_law : (core : List CoreOp) (kept : List Set) (saved : List Levels) (main : ℕ) (firsts : List ℕ) (globals : ℕ) → IsGenerable core kept saved main firsts → globals ≤ 2 ^ 19 → (code : Code)
    → GivesWholeCode core kept saved main firsts globals code → GivesGroupLaw core kept saved main firsts globals code
gives_group_law core kept saved main firsts globals is few code stands image frames has suits keeps of_file looks forks tells levels =
    let all = stands image frames has of_file in
    let places = places_in core all.0 frames in
    let start = gathering_of core all.1.0 in
    let ranges : AreInRange core image = record {
      words = λ i op at. (site_few core kept saved main firsts globals is few i op at, number_few core kept saved main firsts globals is few i op at);
      globals = let e = has.globals_of in omega arith;
    } in
    let law = code_has_the_law core kept saved image all.1.0 places firsts main forks suits keeps ranges looks
    (record { few = suits.few; within = omega arith; words = is.first_words }) tells (levels all.0 start) (generated_code_is_whole core kept saved image all.1.0 places firsts main all.1.1.0) in
    (all.0, start, subst (λ n. GroupLaw core image places (nestings_of saved forks start) (cycles_of core n kept saved) firsts main) has.globals_of law)
