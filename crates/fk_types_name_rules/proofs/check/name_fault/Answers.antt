use Rattle.std.proofs.Common.{map, subst}
use Rattle.fk_syntax.specs.ProgramView.{item_of, program_of}
use Rattle.fk_check_rules.specs.declared.rule.Rule.TheVariants as r
use Rattle.fk_check_rules.specs.Least.{IsLeast, either, among}
use Rattle.fk_check_rules.specs.Told.{told}
use Rattle.fk_check_rules.proofs.LeastLemmas.{IsLeast-either}
use Rattle.fk_types_names.specs.Outline.{outline}
use Rattle.fk_types_name_rules.specs.Headers.{HasNoMain}
use Rattle.fk_types_name_rules.specs.Found.{MarkBreaks, ItemBreaks}
use Rattle.fk_types_name_rules.proofs.Whole.{whole}
use Rattle.fk_types_name_rules.proofs.check.name_fault.Goals as goal

pub returns : goal.returns
returns c =
    let program = program_of c.args.program.now in
    let marks = c.marks_fault-marks.result in
    let named = subst (λ ms. IsLeast (among (MarkBreaks ms) ms) marks) c.requires.marks c.marks_fault-marks.ensures in
    let functions = subst (λ xs. IsLeast (either (told r.NoMain program.end (HasNoMain (map item_of xs))) (among (ItemBreaks (map item_of xs)) (map item_of xs))) c.in_ok-functions.functions) c.deref.ensures.value c.in_ok-functions.ensures in
    let Named = among (MarkBreaks (outline program)) (outline program) in
    let Main = told r.NoMain program.end (HasNoMain program.items) in
    let Headers = among (ItemBreaks program.items) program.items in
    whole program c.first_of.result
    (IsLeast-either Named (either Main Headers) marks c.in_ok-functions.functions c.first_of.result named functions c.first_of.ensures)
