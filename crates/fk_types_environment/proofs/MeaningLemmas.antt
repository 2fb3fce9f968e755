-- What is known of names and members is right about a program.
use Rattle.std.proofs.Common.{◌≡◌, inl, inr, ℕ, zero, suc, List, [], ◌∷◌, map, Option, Some, slice_get, Vec, Global, refl, sym, subst, ap, ◌∙◌}
use Rattle.std.specs.List.{AllZip}
use Rattle.std.specs.Option.{option_and_then}
use Rattle.fk_syntax.specs.Tree.{Named}
use Rattle.fk_syntax.specs.Program.{DeclaredTree, ProgramTree}
use Rattle.fk_types_structs.specs.declared.types.DataType.{DataType}
use Rattle.fk_types_structs.specs.declared.structs.Structs.{Structs}
use Rattle.fk_types_structs.specs.Types.{StructTree, structs_of}
use Rattle.fk_types_structs.specs.Whole.{structs_in}
use Rattle.fk_types_names.specs.declared.names.Meaning.{Meaning}
use Rattle.fk_types_names.specs.declared.names.Meaning.TheVariants as m
use Rattle.fk_types_names.specs.declared.names.Names.{Names}
use Rattle.fk_types_names.specs.Outline.{DeclarationTree, MarkTree, Variable, Header, Opens, Closes, Declares, Uses, declared_in, outline}
use Rattle.fk_types_names.specs.View.{declaration_of}
use Rattle.fk_types_names.specs.Means.{Means, MeansAt, Denotes, HasBodyAt, binding}
use Rattle.fk_types_names.specs.Names.{AreNames, meaning_in}
use Rattle.fk_types_judgments.specs.Names.{Env, IsEnv, IsMeant, IsDeclared}
use Rattle.fk_types_forms.specs.declared.names.Entity.{Entity}
use Rattle.fk_types_forms.specs.Scope.{meant_by, known_meant, member_in}
use Rattle.fk_types_environment.specs.Types.{HasVariableType, AreMemberTypes}
use Rattle.fk_types_environment.specs.Known.{IsKnown}
use Rattle.fk_types_environment.proofs.ListLemmas.{zip-at}

-- ---- a declaration has the number of its mark

same_mark : (mark : MarkTree) (d : DeclarationTree) → Some mark ≡ Some (Declares d) → mark ≡ Declares d
same_mark mark d e = cc

declared-at : (marks : List MarkTree) (at : ℕ) (d : DeclarationTree) → slice_get marks at ≡ Some (Declares d) → slice_get (declared_in marks) (binding marks at) ≡ Some d
declared-at [] at d e = absurd cc
declared-at (mark ∷ marks) zero d e = ap (λ x. slice_get (declared_in (x ∷ marks)) 0) (same_mark mark d e)
declared-at (Opens ∷ marks) (suc at) d e = declared-at marks at d e
declared-at (Closes ∷ marks) (suc at) d e = declared-at marks at d e
declared-at (Declares x ∷ marks) (suc at) d e = declared-at marks at d e
declared-at (Uses name ∷ marks) (suc at) d e = declared-at marks at d e

-- a mark that defines a function declares it
defines : (marks : List MarkTree) (bytes : List ℕ) (at : ℕ) → HasBodyAt marks bytes at → (d : DeclarationTree) × (slice_get marks at ≡ Some (Declares d))
defines [] bytes at h = absurd h
defines (Opens ∷ marks) bytes zero h = absurd h
defines (Closes ∷ marks) bytes zero h = absurd h
defines (Declares (Variable variable) ∷ marks) bytes zero h = absurd h
defines (Declares (Header function) ∷ marks) bytes zero h = (Header function, refl)
defines (Uses name ∷ marks) bytes zero h = absurd h
defines (mark ∷ marks) bytes (suc at) h = defines marks bytes at h

stands : (marks : List MarkTree) (bytes : List ℕ) (at : ℕ) (d : DeclarationTree) (meant : ℕ) → slice_get marks at ≡ Some (Declares d) → Denotes marks bytes at d meant
    → (e : DeclarationTree) × (slice_get marks meant ≡ Some (Declares e))
stands marks bytes at (Variable variable) meant here same = (Variable variable, ap (slice_get marks) same ∙ here)
stands marks bytes at (Header function) meant here (inl defined) = defines marks bytes meant defined.body
stands marks bytes at (Header function) meant here (inr same) = (Header function, ap (slice_get marks) same.0 ∙ here)

-- what a name means has its number among the declarations
numbered : (marks : List MarkTree) (bytes : List ℕ) (from number : ℕ) → MeansAt marks bytes from (m.Declared number) → (d : DeclarationTree) × (slice_get (declared_in marks) number ≡ Some d)
numbered marks bytes from number h =
    let meant = stands marks bytes h.0 h.1 h.2 h.4 h.5 in
    (meant.0, ap (slice_get (declared_in marks)) h.6 ∙ declared-at marks h.2 meant.0 meant.1)

-- ---- what is known, by lists

-- it is known with these structs and names
abbrev pub env_with : Structs → Names → List Entity → List (Vec (Option DataType) Global) → Env
env_with structs names known members = record {
  structs = structs_in structs;
  meant = λ name. meant_by known name.bytes (meaning_in names name.at);
  member_type = member_in members;
}

pub env_with-same : (structs : Structs) (names : Names) (known same : List Entity) (members others : List (Vec (Option DataType) Global)) → known ≡ same → members ≡ others → env_with structs names known members ≡ env_with structs names same others
env_with-same structs names known same members others p q = ap (λ k. env_with structs names k members) p ∙ ap (λ ms. env_with structs names same ms) q

member-at : (members : List (Vec (Option DataType) Global)) (index place : ℕ) (v : Vec (Option DataType) Global) (type : Option DataType) → slice_get members index ≡ Some v → slice_get v.items place ≡ Some type → member_in members index place ≡ type
member-at members index place v type here there =
    ap (option_and_then (λ (w : Vec (Option DataType) Global). option_and_then (λ (t : Option DataType). t) (slice_get w.items place))) here
    ∙ ap (option_and_then (λ (t : Option DataType). t)) there

module _ (program : ProgramTree) (structs : Structs) (names : Names) (known : List Entity) (members : List (Vec (Option DataType) Global)) where
  is_meant : structs_in structs ≡ structs_of program.items → AreNames program names → AllZip (IsKnown (structs_in structs)) (map declaration_of names.declarations.items) known
      → (name : Named) (meaning : Meaning) → Means program name.at meaning → IsMeant program name.bytes meaning (meant_by known name.bytes (Some meaning))
  is_meant same are all name (m.Declared number) h =
      let d = numbered (outline program) h.name.bytes h.from number h.meant in
      let here : slice_get (map declaration_of names.declarations.items) number ≡ Some d.0 = ap (λ ds. slice_get ds number) are.declared ∙ d.1 in
      let found = zip-at (IsKnown (structs_in structs)) (map declaration_of names.declarations.items) known all number d.0 here in
      (d.0, d.1, subst (λ ss. IsDeclared ss d.0 (known_meant (slice_get known number))) same (subst (λ o. IsDeclared (structs_in structs) d.0 (known_meant o)) (sym found.1) found.2))
  is_meant same are all name m.Predeclared h = refl
  is_meant same are all name m.Undeclared h = refl

  member-typed : AllZip (AreMemberTypes (structs_in structs)) (structs_in structs) members → (index place : ℕ) (s : StructTree) (d : DeclaredTree)
      → slice_get (structs_in structs) index ≡ Some s → slice_get s.members place ≡ Some d → HasVariableType (structs_in structs) d (member_in members index place)
  member-typed all index place s d here there =
      let row = zip-at (AreMemberTypes (structs_in structs)) (structs_in structs) members all index s here in
      let type = zip-at (HasVariableType (structs_in structs)) s.members row.0.items row.2 place d there in
      subst (HasVariableType (structs_in structs) d) (sym (member-at members index place row.0 type.0 row.1 type.1)) type.2

  pub right-env : structs_in structs ≡ structs_of program.items → AreNames program names
      → AllZip (IsKnown (structs_in structs)) (map declaration_of names.declarations.items) known
      → AllZip (AreMemberTypes (structs_in structs)) (structs_in structs) members
      → IsEnv program (env_with structs names known members)
  right-env same are declared typed = record {
    structs = same;
    meant = λ name meaning h. subst (λ o. IsMeant program name.bytes meaning (meant_by known name.bytes o)) (sym ((are.means name.at meaning).1 h)) (is_meant same are declared name meaning h);
    member_type = member-typed typed;
  }
