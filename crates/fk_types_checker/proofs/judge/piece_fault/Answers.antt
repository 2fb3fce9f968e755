use Rattle.std.proofs.Common.{sym, subst}
use Rattle.fk_types_forms.specs.Scope.{env_in}
use Rattle.fk_types_obligations.specs.View.{piece_of}
use Rattle.fk_types_checker.specs.Read.{IsPieceRead}
use Rattle.fk_types_checker.proofs.judge.piece_fault.Goals as goal

pub returns-in-FileVariable : goal.returns-in-FileVariable
returns-in-FileVariable c = subst (λ piece. IsPieceRead (env_in c.args.scope.now) (piece_of piece) c.args.types.now c.file_variable_fault.new.types c.file_variable_fault.result) (sym c.in-FileVariable.is) c.file_variable_fault.ensures

pub returns-in-Variable : goal.returns-in-Variable
returns-in-Variable c = subst (λ piece. IsPieceRead (env_in c.args.scope.now) (piece_of piece) c.args.types.now c.variable_fault.new.types c.variable_fault.result) (sym c.in-Variable.is) c.variable_fault.ensures

pub returns-in-Parameter : goal.returns-in-Parameter
returns-in-Parameter c = subst (λ piece. IsPieceRead (env_in c.args.scope.now) (piece_of piece) c.args.types.now c.parameter_read.new.types c.parameter_read.result) (sym c.in-Parameter.is) c.parameter_read.ensures

pub returns-in-Header : goal.returns-in-Header
returns-in-Header c = subst (λ piece. IsPieceRead (env_in c.args.scope.now) (piece_of piece) c.args.types.now c.header_fault.new.types c.header_fault.result) (sym c.in-Header.is) c.header_fault.ensures
