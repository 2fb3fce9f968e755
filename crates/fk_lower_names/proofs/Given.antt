-- What is given of a program: that it keeps all rules, is as a text spells it, and has a layout; and what is known of its pieces by that.
use Rattle.std.proofs.Common.{◌≡◌, inl, ℕ, zero, suc, ◌≤◌, List, [], ◌∷◌, flat_map, length, Some, slice_get, Contains, sym, ap, subst, ◌∙◌, arith}
use Rattle.std.specs.Option.{option_map}
use Rattle.std.proofs.lemmas.Option.{same_Some}
use Rattle.fk_syntax.specs.declared.facts.Facts.{Facts}
use Rattle.fk_syntax.specs.Program.{DeclaredTree, ItemTree, ProgramTree, StructItem, VariablesItem, FunctionItem}
use Rattle.fk_types_structs.specs.declared.types.DataType.{DataType}
use Rattle.fk_types_structs.specs.Types.{StructTree, structs_of, type_declared}
use Rattle.fk_types_structs.specs.Sizes.{HasTypeWords}
use Rattle.fk_types_struct_rules.specs.Declarations.{DeclarationBreaks}
use Rattle.fk_types_struct_rules.specs.Structs.{StructsBreak}
use Rattle.fk_types_names.specs.Outline.{DeclarationTree, Variable, Header, declarations}
use Rattle.fk_types_operators.specs.declared.values.ExpressionType.TheVariants.{Stored}
use Rattle.fk_types_obligations.specs.Pieces as q
use Rattle.fk_types_obligations.specs.Pieces.{PieceTree, pieces}
use Rattle.fk_types_references.specs.References.{ReferenceTree}
use Rattle.fk_types_rules.specs.Pieces.{PieceBreaks}
use Rattle.fk_types_rules.specs.Bound.{piece_references}
use Rattle.fk_types_rules.specs.Noted.{piece_noted, pieces_noted}
use Rattle.fk_types_rules.proofs.Pieces.{declared_by_piece, of_items}
use Rattle.fk_types_judgments.specs.Names.{Env}
use Rattle.fk_types_judgments.specs.Typing.{Noted}
use Rattle.fk_parse_laws.specs.Trim.{ProgramIsTrim}
use Rattle.fk_layout.specs.Layout.{tables_by}
use Rattle.fk_layout.specs.Refusal.{Fits}
use Rattle.fk_check_laws.specs.Correct.{IsCorrect}
use Rattle.fk_check_laws.proofs.Each.{Each, each, one_of, front_of, rest_of}
use Rattle.fk_check_laws.proofs.Typed.{Unbroken}
use Rattle.fk_check_laws.proofs.Notes.{among}
use Rattle.fk_check_laws.proofs.Named.{env as env_of, unbroken_pieces}
use Rattle.fk_lower_names.specs.Proper.{HasMembers, ItemsAreProper, ProgramIsProper}
use Rattle.fk_lower_names.proofs.References.{Referred as AmongAll, AllReferred, all_refer}
use Rattle.fk_lower_names.proofs.Sizes.{IsSound, sound_words, declared_words}

pub record IsGiven (program : ProgramTree) (facts : Facts) : Type 0 where
  pub correct : IsCorrect program facts
  pub trim : ProgramIsTrim program
  pub proper : ProgramIsProper program
  pub fits : Fits (tables_by program facts) program.items

some_members : (members : List DeclaredTree) → HasMembers members → 1 ≤ length members
some_members [] h = absurd h
some_members (x ∷ xs) h = omega arith

full_structs : (xs : List ItemTree) → ItemsAreProper xs → (i : ℕ) (s : StructTree) → slice_get (structs_of xs) i ≡ Some s → 1 ≤ length s.members
full_structs [] h i s at = absurd (cc)
full_structs (StructItem name members ∷ xs) h zero s at = subst (λ (x : StructTree). 1 ≤ length x.members) (same_Some (record { name = name; members = members }) s at) (some_members members h.0)
full_structs (StructItem name members ∷ xs) h (suc i) s at = full_structs xs h.1 i s at
full_structs (VariablesItem variables ∷ xs) h i s at = full_structs xs h.1 i s at
full_structs (FunctionItem f ∷ xs) h i s at = full_structs xs h.1 i s at

module _ (program : ProgramTree) (facts : Facts) (given : IsGiven program facts) where
  abbrev pub env : Env
  env = env_of program facts given.correct

  abbrev pub structs : List StructTree
  structs = env.structs

  abbrev pub Referred : ReferenceTree → Type 0
  Referred = AmongAll program

  abbrev pub Noting : Noted → Type 0
  Noting x = Contains (pieces_noted env (pieces program)) x

  -- ---- the words of types

  structs_whole : Unbroken (StructsBreak structs)
  structs_whole place rule broken = given.correct.known.types.kept place rule (inl (inl broken))

  full : (i : ℕ) (s : StructTree) → slice_get structs i ≡ Some s → 1 ≤ length s.members
  full i s at = full_structs program.items given.proper.0 i s (ap (λ ss. slice_get ss i) (sym given.correct.known.types.right.structs) ∙ at)

  pub words_of : (type : DataType) → IsSound structs type → (w : ℕ) × HasTypeWords structs type w × (1 ≤ w)
  words_of type sound = sound_words structs structs_whole full type sound

  pub words_declared : (d : DeclaredTree) (type : DataType) → Unbroken (DeclarationBreaks structs d) → type_declared structs d ≡ Some type
      → (w : ℕ) × HasTypeWords structs type w × (1 ≤ w) × (w ≤ 524288)
  words_declared d type right is = declared_words structs structs_whole full d type right is

  -- ---- the pieces of the program

  -- a piece breaks no rule, and what it names and notes is among that of the program
  pub record IsPiece (x : PieceTree) : Type 0 where
    pub whole : Unbroken (PieceBreaks env x)
    pub refers : Each Referred (piece_references x)
    pub notes : Each Noting (piece_noted env x)

  all_pieces : (ps : List PieceTree) → Each (λ x. Unbroken (PieceBreaks env x)) ps → Each (AllReferred program) ps → Each Noting (pieces_noted env ps) → Each IsPiece ps
  all_pieces [] u c n = tt
  all_pieces (x ∷ ps) u c n = (
    record { whole = u.0; refers = c.0; notes = front_of Noting (piece_noted env x) (pieces_noted env ps) n },
    all_pieces ps u.1 c.1 (rest_of Noting (piece_noted env x) (pieces_noted env ps) n),
  )

  pub are_pieces : Each IsPiece (pieces program)
  are_pieces = all_pieces (pieces program) (unbroken_pieces program facts given.correct)
      (all_refer program)
      (each Noting (pieces_noted env (pieces program)) (λ i x is. among (pieces_noted env (pieces program)) i x is))

  -- ---- what is declared is noted

  abbrev NotedDeclared : DeclarationTree → Type 0
  NotedDeclared (Variable x) = Noting (record { at = x.name.at; type = option_map Stored (type_declared structs x) })
  NotedDeclared (Header f) = Unit {0}

  noted_by : (ps : List PieceTree) → Each IsPiece ps → Each NotedDeclared (flat_map declared_by_piece ps)
  noted_by [] k = tt
  noted_by (q.FileVariable x ∷ ps) k = (k.0.notes.0, noted_by ps k.1)
  noted_by (q.Variable x ∷ ps) k = (k.0.notes.0, noted_by ps k.1)
  noted_by (q.Parameter x ∷ ps) k = (k.0.notes.0, noted_by ps k.1)
  noted_by (q.Header f ∷ ps) k = (tt, noted_by ps k.1)
  noted_by (q.Used role value ∷ ps) k = noted_by ps k.1
  noted_by (q.Return result spot value ∷ ps) k = noted_by ps k.1

  pub noted_at : (number : ℕ) (x : DeclaredTree) → slice_get (declarations program) number ≡ Some (Variable x)
      → Noting (record { at = x.name.at; type = option_map Stored (type_declared structs x) })
  noted_at number x is = one_of NotedDeclared (declarations program)
      (subst (Each NotedDeclared) (of_items program.items).declared (noted_by (pieces program) are_pieces)) number (Variable x) is
