use Rattle.fk_gen_list.specs.Generable.{GivesWholeCode}
use Rattle.fk_gen_list.proofs.Steps.{if_ok_two}
use Rattle.fk_gen_list.specs.Whole.{GivesGroupLaw}
use Rattle.fk_gen_list.proofs.WholeGroups.{gives_group_law}
use Rattle.fk_gen_list.proofs.list.generate.Goals as goal

pub returns-clause-group_law : goal.returns-clause-group_law
returns-clause-group_law c =
    let stands = GivesWholeCode c.args.ops.now c.args.kept.now c.args.saved.now c.args.main c.args.firsts.now c.args.globals in
    if_ok_two c.assemble_list.result stands stands (GivesGroupLaw c.args.ops.now c.args.kept.now c.args.saved.now c.args.main c.args.firsts.now c.args.globals)
    (λ code is again. gives_group_law c.args.ops.now c.args.kept.now c.args.saved.now c.args.main c.args.firsts.now c.args.globals c.requires.list c.requires.globals code is)
    c.assemble_list.ensures.stands c.assemble_list.ensures.stands
