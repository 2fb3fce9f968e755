use Rattle.std.proofs.Common.{◌≡◌, Some, None, ap}
use Rattle.std.specs.Option.{option_map}
use Rattle.fk_syntax.specs.View.{tree_of}
use Rattle.fk_syntax.specs.ProgramView.{declared_of}
use Rattle.fk_check_rules.proofs.LeastLemmas.{IsLeast-either}
use Rattle.fk_types_struct_rules.specs.Declarations.{DeclarationBreaks}
use Rattle.fk_types_judgments.specs.Term.{term_of}
use Rattle.fk_types_forms.specs.Scope.{env_in}
use Rattle.fk_types_rules.specs.Noted.{declared_noted}
use Rattle.fk_types_rules.specs.Pieces.{InitialBreaks}
use Rattle.fk_types_checker.proofs.PieceLemmas.{least-there, least-absent, notes-there, notes-absent}
use Rattle.fk_types_checker.proofs.judge.variable_fault.Goals as goal

pub returns-in-Some : goal.returns-in-Some
returns-in-Some c =
    let E = env_in c.args.scope.now in
    let v = declared_of c.args.variable.now in
    let value = tree_of c.in-Some.value in
    let is : v.first ≡ Some value = ap (option_map tree_of) c.in-Some.is in
    let Declared = DeclarationBreaks E.structs v in
    let read = c.expression-part.ensures in
    record {
      least = least-there Declared (InitialBreaks E v) v.first c.first_of.result value is
          (IsLeast-either Declared (InitialBreaks E v (term_of value)) c.declaration_fault-declaration.result c.initial_fault.result c.first_of.result
          c.declaration_fault-declaration.ensures (c.initial_fault.ensures (term_of value) read.is) c.first_of.ensures);
      types = notes-there E (declared_noted E v) v.first c.args.types.now value c.note_declared.new.types c.expression-part.new.types is c.note_declared.ensures read.types;
    }

pub returns-in-None : goal.returns-in-None
returns-in-None c =
    let E = env_in c.args.scope.now in
    let v = declared_of c.args.variable.now in
    let is : v.first ≡ None = ap (option_map tree_of) c.in-None.is in
    record {
      least = least-absent (DeclarationBreaks E.structs v) (InitialBreaks E v) v.first c.declaration_fault-declaration.result is c.declaration_fault-declaration.ensures;
      types = notes-absent E (declared_noted E v) v.first c.args.types.now c.note_declared.new.types is c.note_declared.ensures;
    }
