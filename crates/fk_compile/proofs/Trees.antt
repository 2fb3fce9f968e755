-- The lists of programs keep their processors in the tree of groups.
use Rattle.std.proofs.Common.{◌≡◌, ℕ, zero, suc, List, [], ◌∷◌, map, slice_get, Some, ap, ◌∙◌, arith}
use Rattle.fk_meaning_forms.specs.Program.{bodies_of, main_of}
use Rattle.fk_layout.specs.Layout.{tables_by}
use Rattle.fk_core_flat.proofs.FlatCode.{flat_lists_have_code}
use Rattle.fk_core_flat.proofs.Programs.{forms_are_shaped}
use Rattle.fk_check_laws.specs.Valid.{may_call}
use Rattle.fk_check_laws.proofs.Programs.{correct_programs_fit}
use Rattle.fk_check_laws.proofs.PlacedPrograms.{valid_programs_are_in_place}
use Rattle.fk_check_laws.proofs.Spaces.{valid_programs_are_inner}
use Rattle.fk_gen.specs.declared.placed.Levels.{Levels}
use Rattle.fk_gen.specs.Levels.{levels_in}
use Rattle.fk_lockstep_structure.specs.Pending.{fork_counts}
use Rattle.fk_lockstep_structure.proofs.Programs.{programs_follow, gives_of, none_pending, programs_are_counted}
use Rattle.fk_lockstep_structure.proofs.Whole.{code_is_framed}
use Rattle.fk_lockstep_structure.proofs.FramePrograms.{programs_are_framed}
use Rattle.fk_lockstep_tree.proofs.Lists.{lists_stay_in_trees}
use Rattle.fk_lower_laws.proofs.Lists.{lowered_lists_can_have_groups}
use Rattle.fk_compile.proofs.OneProgram.{asked, valid}
use Rattle.fk_compile.proofs.Led.{programs_are_led}
use Rattle.fk_compile.proofs.Rooms.{told_count}
use Rattle.fk_compile.proofs.Sites.{sites_are_own}
use Rattle.fk_compile.specs.Trees.{ProgramsStayInTrees, ListsAreOfTree}

pub programs_stay_in_trees : ProgramsStayInTrees
programs_stay_in_trees program facts laid core entry flat own local =
    let tables = tables_by program facts in
    let bodies = bodies_of tables program in
    let main = main_of tables program in
    let text = valid program facts laid in
    let placed = valid_programs_are_in_place program facts text in
    let inner = valid_programs_are_inner program facts text in
    let none = (asked program facts laid).0 in
    let shaped = forms_are_shaped tables program (correct_programs_fit program facts laid.correct laid.trim) in
    let stands = flat_lists_have_code tables program core entry shaped flat in
    lists_stay_in_trees (may_call program) bodies core entry main (fork_counts (gives_of tables program (may_call program) placed)) stands.leads_on stands.stands own local
    (programs_are_led tables program (may_call program) placed inner none shaped) (programs_follow tables program (may_call program) placed)
    (none_pending tables program (may_call program) placed) (programs_are_counted tables program (may_call program) placed)
    (code_is_framed (may_call program) bodies main (programs_are_framed tables program (may_call program) placed inner none))

told_nest : (saved : List Levels) (i n : ℕ) → slice_get (map (λ (l : Levels). l.nest) saved) i ≡ Some n → (levels_in saved i).nest ≡ n
told_nest [] zero n e = absurd (cc)
told_nest [] (suc i) n e = absurd (cc)
told_nest (l ∷ saved) zero n e = cc
told_nest (l ∷ saved) (suc i) n e = told_nest saved i n e

pub lists_are_of_tree : ListsAreOfTree
lists_are_of_tree program facts known of_program laid core entry flat told sites saved are start =
    let tables = tables_by program facts in
    let can = lowered_lists_can_have_groups program facts known of_program laid.correct laid.trim laid.proper laid.fits core entry flat told in
    let stands = flat_lists_have_code tables program core entry (forms_are_shaped tables program (correct_programs_fit program facts laid.correct laid.trim)) flat in
    record {
      begins = can.steady.within.begins;
      jumps = can.steady.within.leads.jumps;
      within = λ i op operation at. can.steady.within.leads.within i op operation at.stands at.is_read;
      frames = can.nests.local;
      levels = λ i lt. told_count saved i _ (ap (λ (ns : List ℕ). slice_get ns i) are.count ∙ can.nests.levels.levels i lt);
      nest = λ i lt. told_nest saved i _ (ap (λ (ns : List ℕ). slice_get ns i) are.nest ∙ can.nests.levels.parts i lt);
      forks = λ i level lt less.
          let many = told_count saved i _ (ap (λ (ns : List ℕ). slice_get ns i) are.count ∙ can.nests.levels.levels i lt) in
          can.nests.levels.forks i level lt (omega (arith, less, many));
      in_tree = programs_stay_in_trees program facts laid core entry flat (sites_are_own known core sites) can.nests.local;
      well_formed = record { leads_on = stands.leads_on; depths = can.depths };
      may = can.steady.may;
    }
