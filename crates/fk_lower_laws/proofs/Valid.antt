-- What there is about a program that keeps all rules, is as a text spells it, and has a layout.
use Rattle.std.proofs.Common.{◌≡◌, ℕ, List, Option, Some, slice_get, Contains, refl}
use Rattle.fk_syntax.specs.declared.facts.Facts.{Facts}
use Rattle.fk_syntax.specs.Tree.{Named}
use Rattle.fk_syntax.specs.Program.{DeclaredTree, ProgramTree}
use Rattle.fk_types_structs.specs.declared.types.DataType.{DataType}
use Rattle.fk_types_structs.specs.Types.{StructTree}
use Rattle.fk_types_names.specs.Outline.{MarkTree, Variable, declarations, outline}
use Rattle.fk_types_names.specs.Means.{UsesAt}
use Rattle.fk_types_obligations.specs.Pieces.{pieces}
use Rattle.fk_types_references.specs.References.{ReferenceTree, Name}
use Rattle.fk_types_rules.specs.Noted.{pieces_noted}
use Rattle.fk_sharing_class.specs.declared.thing.Thing.{Thing}
use Rattle.fk_types_judgments.specs.Names.{Env}
use Rattle.fk_types_judgments.specs.Typing.{Noted}
use Rattle.fk_meaning_forms.specs.Tables.{Tables}
use Rattle.fk_meaning_forms.specs.Expressions.{Signature}
use Rattle.fk_meaning_forms.specs.Program.{functions_of, signature_in}
use Rattle.fk_core_liveness.specs.declared.places.FunctionKind.{FunctionKind}
use Rattle.fk_check_laws.proofs.Each.{Each, each}
use Rattle.fk_check_laws.proofs.Named.{env as env_of}
use Rattle.fk_check_laws.proofs.Things.{thing as thing_of, thing_tells}
use Rattle.fk_layout.specs.Layout.{tables_by}
use Rattle.fk_sharing.specs.declared.around.Holder.{Holder}
use Rattle.fk_sharing.specs.Tokens as sharing
use Rattle.fk_lower_laws.specs.Asked.{place_of}
use Rattle.fk_lower_names.proofs.Given.{IsGiven}
use Rattle.fk_lockstep_frames.specs.Nests.{Nest}
use Rattle.fk_core_typing.specs.declared.constants.Constant.{Constant as Address}
use Rattle.fk_lower_laws.proofs.Addresses.{HasRoomAt}
use Rattle.fk_lower_laws.proofs.Scalars.{Kept as KeptBy, IsScalar, is_scalar as scalar_by}
use Rattle.fk_lower_names.proofs.References.{Referred as AmongAll}

-- what there is about a program
pub record About : Type 1 where
  pub env : Env
  pub structs : List StructTree
  pub tables : Tables
  pub functions : (binding : ℕ) → Signature
  pub places : (binding : ℕ) → FunctionKind
  pub thing : ℕ → Option Thing
  -- a type has its words at an address, or in a frame of nests
  pub Room : List Nest → Address → DataType → Type 0
  -- a token breaks no rule
  pub Kept : sharing.TokenIn (List Holder) → Type 0
  -- marks, references and notes among those of the program, and names that are used in it
  pub Stands : MarkTree → Type 0
  pub Referred : ReferenceTree → Type 0
  pub Noting : Noted → Type 0
  pub IsUsed : Named → Type 0

module _ (program : ProgramTree) (facts : Facts) (given : IsGiven program facts) where
  abbrev pub about : About
  about = record {
    env = env_of program facts given.correct;
    structs = (env_of program facts given.correct).structs;
    tables = tables_by program facts;
    functions = signature_in (tables_by program facts) (functions_of program.items);
    places = place_of (tables_by program facts) program;
    thing = thing_of program given.correct.well_formed;
    Room = HasRoomAt (env_of program facts given.correct).structs;
    Kept = KeptBy (thing_of program given.correct.well_formed);
    Stands = λ mark. ((i : ℕ) × (slice_get (outline program) i ≡ Some mark));
    Referred = AmongAll program;
    Noting = λ x. Contains (pieces_noted (env_of program facts given.correct) (pieces program)) x;
    IsUsed = λ name. ((from : ℕ) × UsesAt (outline program) name from × AmongAll program (Name name));
  }

  open about use {env, structs, thing, Kept, Referred, Noting}

  -- ---- tokens keep all rules, so private variables are scalars

  pub all_kept : Each Kept (sharing.tokens thing program)
  all_kept = each Kept (sharing.tokens thing program)
      (λ i token is rule broken. given.correct.known.sharing.kept token.spot.place rule (thing, thing_tells program given.correct.well_formed, i, token, is, refl, broken))

  pub is_scalar : (number : ℕ) (x : DeclaredTree) → slice_get (declarations program) number ≡ Some (Variable x) → IsScalar x
  is_scalar number x is = scalar_by program facts given.correct given.proper.0 thing all_kept number x is
