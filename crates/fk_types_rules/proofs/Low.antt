-- All that is broken here is one of the rules 1 to 20.
use Rattle.std.proofs.Common.{inl, inr, ℕ, ◌≤◌, List, Option, Some, None, sym, subst, arith}
use Rattle.fk_syntax.specs.declared.place.Place.{Place}
use Rattle.fk_syntax.specs.declared.sign.Sign.{Sign}
use Rattle.fk_syntax.specs.declared.sign.Sign.TheVariants as s
use Rattle.fk_syntax.specs.Tree.{Tree}
use Rattle.fk_syntax.specs.Program.{DeclaredTree, ProgramTree}
use Rattle.fk_check_rules.specs.declared.rule.Rule.{Rule}
use Rattle.fk_check_rules.specs.declared.rule.Rule.TheVariants as rules
use Rattle.fk_check_rules.specs.Rules.{number_of}
use Rattle.fk_check_rules.specs.Least.{Breaks, only, either, among}
use Rattle.fk_types_structs.specs.Types.{StructTree}
use Rattle.fk_types_struct_rules.specs.Declarations.{DeclarationBreaks}
use Rattle.fk_types_struct_rules.specs.Structs.{HoldingBreaks, MemberBreaks, StructBreaks, StructsBreak}
use Rattle.fk_types_name_rules.specs.Broken.{NamesBreak}
use Rattle.fk_types_judgments.specs.Term.{Term, Terms, Number, Puts, Sizeof, Use, GroupNumber, GroupRank, Prefix, Dereference, Address, Count, Cast, Binary, Comma, Index, Call, Member, Through, Assign, Choose, no_terms, also, term_of}
use Rattle.fk_types_judgments.specs.Names.{Parameter, Env}
use Rattle.fk_types_judgments.specs.Broken as y
use Rattle.fk_types_obligations.specs.Pieces.{PieceTree, pieces}
use Rattle.fk_types_obligations.specs.Pieces as p
use Rattle.fk_types_obligations.specs.declared.piece.Role.{Role}
use Rattle.fk_types_obligations.specs.declared.piece.Role.TheVariants as role
use Rattle.fk_types_rules.specs.Pieces.{if_there, InitialBreaks, FileInitialBreaks, UsedBreaks, PieceBreaks}
use Rattle.fk_types_rules.specs.Broken.{Broken}

-- only such rules are broken
abbrev IsLow : Breaks → Type 0
IsLow broken = (place : Place) (rule : Rule) → broken place rule → number_of rule ≤ 20

one : (forbidden : Rule) (P : Place → Type 0) → number_of forbidden ≤ 20 → IsLow (only forbidden P)
one forbidden P low place rule h = subst (λ r. number_of r ≤ 20) (sym h.0) low

both : (P Q : Breaks) → IsLow P → IsLow Q → IsLow (either P Q)
both P Q left right place rule h = elim h [ inl x ↦ left place rule x | inr x ↦ right place rule x ]

each : {X : Type 0} (P : ℕ → X → Breaks) (xs : List X) → ((i : ℕ) (x : X) → IsLow (P i x)) → IsLow (among P xs)
each P xs low place rule h = low h.0 h.1 place rule h.3

none : IsLow y.nothing
none place rule h = absurd h

-- ---- structs and declarations

low_declaration : (structs : List StructTree) (declared : DeclaredTree) → IsLow (DeclarationBreaks structs declared)
low_declaration structs declared = both _ _ (one rules.NoStruct _ (omega arith)) (both _ _ (one rules.NoVariable _ (omega arith)) (one rules.WrongSize _ (omega arith)))

low_member : (structs : List StructTree) (index place : ℕ) (member : DeclaredTree) → IsLow (MemberBreaks structs index place member)
low_member structs index place member = both _ _ (one rules.DeclaredTwice _ (omega arith)) (low_declaration structs member)

low_struct : (structs : List StructTree) (index : ℕ) (s : StructTree) → IsLow (StructBreaks structs index s)
low_struct structs index s = both _ _ (both _ _ (one rules.DeclaredTwice _ (omega arith)) (one rules.WrongSize _ (omega arith)))
    (each (MemberBreaks structs index) s.members (low_member structs index))

low_structs : (structs : List StructTree) → IsLow (StructsBreak structs)
low_structs structs = both _ _ (each (HoldingBreaks structs) structs (λ index s. one rules.NoStruct _ (omega arith)))
    (each (StructBreaks structs) structs (low_struct structs))

low_names : (program : ProgramTree) → IsLow (NamesBreak program)
low_names program = both _ _ (one rules.Undeclared _ (omega arith)) (both _ _ (one rules.DeclaredTwice _ (omega arith))
    (both _ _ (one rules.HeadersDiffer _ (omega arith)) (one rules.NoMain _ (omega arith))))

-- ---- expressions

low_value : (env : Env) (x : Term) → IsLow (y.Broken env x) → IsLow (y.as_value env x (y.Broken env x))
low_value env x low = both _ _ low (one rules.NoValue _ (omega arith))

low_condition : (env : Env) (x : Term) → IsLow (y.Broken env x) → IsLow (y.as_condition env x (y.Broken env x))
low_condition env x low = both _ _ low (one rules.NoCondition _ (omega arith))

low_statement : (env : Env) (x : Term) → IsLow (y.Broken env x) → IsLow (y.as_statement env x (y.Broken env x))
low_statement env x low = both _ _ low (one rules.NoValue _ (omega arith))

low_called : (env : Env) (x : Term) → IsLow (y.Broken env x) → IsLow (y.as_called env x (y.Broken env x))
low_called env (Use name) low = both _ _ (one rules.Undeclared _ (omega arith)) (one rules.MainCalled _ (omega arith))
low_called env _ low = low

low_assign : (sign : Sign) → number_of (y.assign_rule sign) ≤ 20
low_assign s.Assign = omega arith
low_assign _ = omega arith

mutual
  low_term : (env : Env) (x : Term) → IsLow (y.Broken env x)
  low_term env (Number spot value unsigned) = none
  low_term env (Puts spot) = none
  low_term env (Sizeof spot type) = both _ _ (one rules.NoStruct _ (omega arith)) (one rules.NoVariable _ (omega arith))
  low_term env (Use name) = both _ _ (one rules.Undeclared _ (omega arith)) (one rules.NoFunction _ (omega arith))
  low_term env (GroupNumber spot) = none
  low_term env (GroupRank spot) = none
  low_term env (Prefix spot sign operand) = both _ _ (low_value env operand (low_term env operand)) (one rules.WrongOperands _ (omega arith))
  low_term env (Dereference spot pointer) = both _ _ (low_value env pointer (low_term env pointer)) (one rules.NoPointer _ (omega arith))
  low_term env (Address spot place) = both _ _ (low_term env place) (one rules.NoTarget _ (omega arith))
  low_term env (Count spot is_before place) = both _ _ (low_term env place) (both _ _ (one rules.NoTarget _ (omega arith))
      (both _ _ (one rules.WholeAssigned _ (omega arith)) (one rules.WrongOperands _ (omega arith))))
  low_term env (Cast spot type operand) = both _ _ (low_value env operand (low_term env operand))
      (both _ _ (one rules.NoStruct _ (omega arith)) (one rules.WrongOperands _ (omega arith)))
  low_term env (Binary spot sign left right) = both _ _ (both _ _ (low_value env left (low_term env left)) (low_value env right (low_term env right)))
      (one rules.WrongOperands _ (omega arith))
  low_term env (Comma spot left right) = both _ _ (low_statement env left (low_term env left)) (low_statement env right (low_term env right))
  low_term env (Index spot whole by) = both _ _ (both _ _ (low_value env whole (low_term env whole)) (low_value env by (low_term env by)))
      (both _ _ (one rules.NoPointer _ (omega arith)) (one rules.WrongOperands _ (omega arith)))
  low_term env (Call spot callee arguments) = both _ _ (both _ _ (low_called env callee (low_term env callee)) (low_arguments env _ arguments))
      (both _ _ (one rules.NoFunction _ (omega arith)) (one rules.WrongCount _ (omega arith)))
  low_term env (Member spot whole member) = both _ _ (low_term env whole) (one rules.NoMember _ (omega arith))
  low_term env (Through spot pointer member) = both _ _ (low_value env pointer (low_term env pointer)) (one rules.NoMember _ (omega arith))
  low_term env (Assign spot sign place value) = both _ _ (both _ _ (low_term env place) (low_value env value (low_term env value)))
      (both _ _ (one rules.NoTarget _ (omega arith)) (both _ _ (one rules.WholeAssigned _ (omega arith)) (one (y.assign_rule sign) _ (low_assign sign))))
  low_term env (Choose spot condition first second) = both _ _ (both _ _ (low_condition env condition (low_term env condition))
      (both _ _ (low_value env first (low_term env first)) (low_value env second (low_term env second)))) (one rules.WrongOperands _ (omega arith))

  low_arguments : (env : Env) (parameters : List Parameter) (xs : Terms) → IsLow (y.ArgumentsBreak env parameters xs)
  low_arguments env parameters no_terms = none
  low_arguments env parameters (also before last) = both _ _ (low_arguments env parameters before)
      (both _ _ (low_value env last (low_term env last)) (one rules.NoConversion _ (omega arith)))

-- ---- pieces

low_if_there : (P : Term → Breaks) (x : Option Tree) → ((t : Term) → IsLow (P t)) → IsLow (if_there P x)
low_if_there P None low = none
low_if_there P (Some tree) low = low (term_of tree)

low_initial : (env : Env) (variable : DeclaredTree) (x : Term) → IsLow (InitialBreaks env variable x)
low_initial env variable x = both _ _ (low_value env x (low_term env x)) (both _ _ (one rules.NoConversion _ (omega arith)) (one rules.WholeAssigned _ (omega arith)))

low_used : (env : Env) (r : Role) (x : Term) → IsLow (UsedBreaks env r x)
low_used env role.Condition x = low_condition env x (low_term env x)
low_used env role.Alone x = low_statement env x (low_term env x)
low_used env role.Word x = low_value env x (low_term env x)

low_piece : (env : Env) (x : PieceTree) → IsLow (PieceBreaks env x)
low_piece env (p.FileVariable variable) = both _ _ (low_declaration env.structs variable)
    (low_if_there (FileInitialBreaks env variable) variable.first (λ x. both _ _ (low_initial env variable x) (one rules.NotConstant _ (omega arith))))
low_piece env (p.Variable variable) = both _ _ (low_declaration env.structs variable) (low_if_there (InitialBreaks env variable) variable.first (low_initial env variable))
low_piece env (p.Parameter parameter) = both _ _ (low_declaration env.structs parameter) (one rules.NoVariable _ (omega arith))
low_piece env (p.Header function) = both _ _ (one rules.NoStruct _ (omega arith)) (one rules.NoVariable _ (omega arith))
low_piece env (p.Used r value) = low_used env r (term_of value)
low_piece env (p.Return result spot None) = one rules.WrongReturn _ (omega arith)
low_piece env (p.Return result spot (Some value)) = both _ _ (low_value env (term_of value) (low_term env (term_of value)))
    (both _ _ (one rules.NoConversion _ (omega arith)) (one rules.WrongReturn _ (omega arith)))

pub low_program : (env : Env) (program : ProgramTree) → IsLow (Broken env program)
low_program env program = both _ _ (both _ _ (low_structs env.structs) (low_names program)) (each (λ i. PieceBreaks env) (pieces program) (λ i. low_piece env))
