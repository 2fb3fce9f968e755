-- What a name that has a value begins with; and that no address of a private variable is taken.
use Rattle.std.proofs.Common.{◌≡◌, ℕ, zero, suc, ◌<◌, Bool, true, false, List, [], ◌++◌, get_or, codes, Option, Some, None, slice_get, refl, sym, subst, ◌∙◌, arith}
use Rattle.std.proofs.lemmas.List.{get_or_default}
use Rattle.std.specs.Option.{option_map}
use Rattle.std.specs.Prelude.{map, Contains, ◌==◌, bytes_eq, if◌then◌else◌}
use Rattle.std.proofs.lemmas.Bool.{false≢true, eqb-true, eq-eqb}
use Rattle.fk_syntax.specs.declared.facts.Facts.{Facts}
use Rattle.fk_syntax.specs.declared.sign.Sign.{Sign}
use Rattle.fk_syntax.specs.declared.sign.Sign.TheVariants as g
use Rattle.fk_syntax.specs.Tree as t
use Rattle.fk_syntax.specs.Tree.{Named, Tree, Links}
use Rattle.fk_syntax.specs.Program.{DeclaredTree, ProgramTree}
use Rattle.fk_check_rules.specs.declared.rule.Rule.{Rule}
use Rattle.fk_check_rules.specs.declared.rule.Rule.TheVariants as rules
use Rattle.fk_types_names.specs.declared.names.Meaning.{Meaning}
use Rattle.fk_types_names.specs.declared.names.Meaning.TheVariants as m
use Rattle.fk_types_names.specs.Outline.{DeclarationTree, Variable, Header, declarations, outline}
use Rattle.fk_types_names.specs.Means.{Means, UsesAt, MeansAt, predeclared}
use Rattle.fk_types_structs.specs.Types.{structs_of}
use Rattle.fk_types_operators.specs.declared.values.ExpressionType.{ExpressionType}
use Rattle.fk_types_operators.specs.Values.{result_of}
use Rattle.fk_types_judgments.specs.Names.{Env, Meant, Called, Main, Typed, Always, IsDeclared, is_text, predeclared_meant}
use Rattle.fk_types_judgments.specs.Typing.{value_in, name_type}
use Rattle.fk_types_obligations.specs.Pieces.{pieces}
use Rattle.fk_types_references.specs.References.{Name}
use Rattle.fk_types_rules.specs.Bound.{pieces_references}
use Rattle.fk_sharing_class.specs.declared.thing.Thing.{Thing}
use Rattle.fk_sharing_class.specs.declared.thing.Thing.TheVariants.{PrivateVariable}
use Rattle.fk_sharing.specs.declared.around.Holder.{Holder}
use Rattle.fk_sharing.specs.declared.token.Word.TheVariants as w
use Rattle.fk_sharing.specs.Tokens as s
use Rattle.fk_sharing.specs.Broken as sb
use Rattle.fk_meaning_forms.specs.declared.tables.Home.{Home}
use Rattle.fk_meaning_forms.specs.declared.tables.Home.TheVariants as h
use Rattle.fk_meaning_forms.specs.Tables.{no_binding, note, slot}
use Rattle.fk_meaning_forms.specs.Expressions.{Coded, ResultLocation, InWord, Signature, variable, placed}
use Rattle.fk_meaning_forms.specs.Expressions as x
use Rattle.fk_lockstep.specs.Told.{Told, LinksTold}
use Rattle.fk_parse_laws.specs.Every.{TreeHas, LinksHave}
use Rattle.fk_parse_laws.specs.Trim.{ItemsAreTrim, nonempty_lists}
use Rattle.fk_check_laws.specs.Correct.{IsCorrect}
use Rattle.fk_check_laws.proofs.Each.{Each, each, front_of, rest_of}
use Rattle.fk_check_laws.proofs.Typed.{There}
use Rattle.fk_check_laws.proofs.Notes.{tables}
use Rattle.fk_check_laws.proofs.Named.{env, IsKnown, meant_at, declared_low}
use Rattle.fk_check_laws.proofs.Declared.{IsHomeFor}
use Rattle.fk_check_laws.proofs.Homes.{home_of}
use Rattle.fk_check_laws.proofs.Things.{thing, thing_tells}
use Rattle.fk_check_laws.proofs.Read.{Any}
use Rattle.fk_check_laws.proofs.Begins.{First}
use Rattle.fk_check_laws.proofs.Valued as v

-- ---- the names that are declared before each text

module _ (c1 c2 c3 c4 others : Coded) (h1 : First c1) (h2 : First c2) (h3 : First c3) (h4 : First c4) where
  abbrev Chosen : List ℕ → Type 0
  Chosen name = First (if bytes_eq name (codes "__PROC_NR__") then c1 else (if bytes_eq name (codes "__STARTED_PROCS__") then c2
      else (if bytes_eq name (codes "__inputs") then c3 else (if bytes_eq name (codes "__input") then c4 else others))))

  abbrev Fine : List ℕ → Type 0
  Fine name = There (name_type (predeclared_meant name)) → Chosen name

  at_number : (k : ℕ) → k < 14 → Fine (get_or predeclared k [])
  at_number zero low h = absurd (h refl)
  at_number (suc zero) low h = absurd (h refl)
  at_number (suc (suc zero)) low h = absurd (h refl)
  at_number (suc (suc (suc zero))) low h = absurd (h refl)
  at_number (suc (suc (suc (suc zero)))) low h = absurd (h refl)
  at_number (suc (suc (suc (suc (suc zero))))) low h = absurd (h refl)
  at_number (suc (suc (suc (suc (suc (suc zero)))))) low h = absurd (h refl)
  at_number (suc (suc (suc (suc (suc (suc (suc zero))))))) low h = absurd (h refl)
  at_number (suc (suc (suc (suc (suc (suc (suc (suc zero)))))))) low h = absurd (h refl)
  at_number (suc (suc (suc (suc (suc (suc (suc (suc (suc zero))))))))) low h = absurd (h refl)
  at_number (suc (suc (suc (suc (suc (suc (suc (suc (suc (suc zero)))))))))) low h = h1
  at_number (suc (suc (suc (suc (suc (suc (suc (suc (suc (suc (suc zero))))))))))) low h = h2
  at_number (suc (suc (suc (suc (suc (suc (suc (suc (suc (suc (suc (suc zero)))))))))))) low h = h4
  at_number (suc (suc (suc (suc (suc (suc (suc (suc (suc (suc (suc (suc (suc zero))))))))))))) low h = h3
  at_number (suc (suc (suc (suc (suc (suc (suc (suc (suc (suc (suc (suc (suc (suc k)))))))))))))) low h = absurd (omega (arith, low))

  -- one that has a type is one of four
  one_of_four : (name : List ℕ) → Contains predeclared name → Fine name
  one_of_four name (k, low, is) = subst Fine (get_or_default predeclared k [] name low ∙ is) (at_number k low)

module _ (program : ProgramTree) (facts : Facts) (valid : IsCorrect program facts) (trim : ItemsAreTrim program.items) (functions : (binding : ℕ) → Signature) where
  abbrev pub thing_at : ℕ → Option Thing
  thing_at = thing program valid.well_formed

  -- a name in an expression of the program
  abbrev pub IsUsed : Named → Type 0
  IsUsed name = (from : ℕ) × UsesAt (outline program) name from × Contains (pieces_references (pieces program)) (Name name)

  -- a function has no type without a call
  no_type : (is_main : Bool) (m : Meant) → name_type m ≡ None → There (name_type (if is_main then Main else m)) → ⊥
  no_type true m e some = some refl
  no_type false m e some = some e

  module _ (name : Named) (used : IsUsed name) (some : There (name_type ((env program facts valid).meant name))) (k : ResultLocation → Coded)
      (first : (word : _) → thing_at name.at ≡ Some PrivateVariable → First (k (InWord word))) where
    abbrev bound : ℕ
    bound = (note (tables program facts valid) name.at).binding

    private_first : (number : ℕ) (v : DeclaredTree) → Means program name.at (m.Declared number) → slice_get (declarations program) number ≡ Some (Variable v) → v.shared ≡ false
        → (word : _) → First (k (InWord word))
    private_first number v means is alone word = first word ((thing_tells program valid.well_formed name.at PrivateVariable).1 (number, v, means, is, alone))

    home_first : (shared : Bool) (home : Home) (index : ℕ) → (shared ≡ false → (word : _) → First (k (InWord word))) → IsHomeFor shared home
        → First (placed (tables program facts valid) functions home index name k)
    home_first true h.Global index alone is = λ n. refl
    home_first true (h.Group r) index alone is = λ n. refl
    home_first true h.FilePrivate index alone is = absurd is
    home_first true h.Private index alone is = absurd is
    home_first true h.NoWord index alone is = absurd is
    home_first false h.FilePrivate index alone is = alone refl _
    home_first false h.Private index alone is = alone refl _
    home_first false h.Global index alone is = absurd is
    home_first false (h.Group r) index alone is = absurd is
    home_first false h.NoWord index alone is = absurd is

    by : (meaning : Meaning) → MeansAt (outline program) name.bytes used.0 meaning → IsKnown program facts valid name meaning → First (variable (tables program facts valid) functions name k)
    by (m.Declared number) at known = declared known.meant.0 known.meant.1 known.meant.2
      where
        declared : (d : DeclarationTree) → slice_get (declarations program) number ≡ Some d → IsDeclared (structs_of program.items) d ((env program facts valid).meant name)
            → First (variable (tables program facts valid) functions name k)
        declared (Header f) is meant = absurd (no_type (is_text f.name.bytes (codes "main")) (Called (map Typed meant.0) (Always (option_map result_of meant.1))) refl (subst (λ (y : Meant). There (name_type y)) meant.3 some))
        declared (Variable v) is meant = picked (bound == no_binding) refl
          where
            picked : (b : Bool) → (bound == no_binding) ≡ b
                → First (if b then x.predeclared (tables program facts valid) functions name k
                else placed (tables program facts valid) functions (slot (tables program facts valid) bound).home (slot (tables program facts valid) bound).index name k)
            picked true e = absurd (omega (arith, known.binds, eqb-true bound no_binding e, declared_low program facts valid number (Variable v) is))
            picked false e = home_first v.shared _ _ (private_first number v known.means is)
                (subst (λ (n : ℕ). IsHomeFor v.shared (slot (tables program facts valid) n).home) (sym known.binds) (home_of program facts valid trim name.at number v known.means is))
    by m.Predeclared at known = picked (bound == no_binding) refl
      where
        picked : (b : Bool) → (bound == no_binding) ≡ b
            → First (if b then x.predeclared (tables program facts valid) functions name k
            else placed (tables program facts valid) functions (slot (tables program facts valid) bound).home (slot (tables program facts valid) bound).index name k)
        picked true e = one_of_four _ _ _ _ _ (λ n. refl) (λ n. refl) (λ n. refl) (λ n. refl) name.bytes at.1 (subst (λ (y : Meant). There (name_type y)) known.meant some)
        picked false e = absurd (false≢true (sym e ∙ eq-eqb bound no_binding known.binds))
    by m.Undeclared at known = absurd known.binds

    pub first_of_name : First (variable (tables program facts valid) functions name k)
    first_of_name = let found = meant_at program facts valid name used.0 used.1 used.2 in by found.0 found.1 found.2

  abbrev E : Env
  E = env program facts valid

  value_typed : (T : Option ExpressionType) → There (value_in T) → There T
  value_typed None h = absurd (h refl)
  value_typed (Some type) h = λ e. cc

  pub name_fact : (name : Named) → IsUsed name → v.NameFact E (tables program facts valid) functions name
  name_fact name used some k h = first_of_name name used (value_typed (name_type (E.meant name)) some) k (λ word e. h word)

  address_fact : (name : Named) → IsUsed name → (thing_at name.at ≡ Some PrivateVariable → ⊥) → v.AddressFact E (tables program facts valid) functions name
  address_fact name used shared some k = first_of_name name used some k (λ word e. absurd (shared e))

  -- ---- the addresses that are taken in an expression

  abbrev pub Theirs : Type 0
  Theirs = s.TokenIn (List Holder)

  -- a token breaks no rule of sharing
  abbrev pub Kept : Theirs → Type 0
  Kept token = (rule : Rule) → sb.BreaksRule token.around token.word rule → ⊥

  pub all_kept : Each Kept (s.tokens thing_at program)
  all_kept = each Kept (s.tokens thing_at program)
      (λ i token is rule broken. valid.known.sharing.kept token.spot.place rule (thing_at, thing_tells program valid.well_formed, i, token, is, refl, broken))

  abbrev Told' : Tree → Type 0
  Told' e = Told Any IsUsed e

  abbrev Addresses : Tree → Type 0
  Addresses e = v.AddressesTold E (tables program facts valid) functions e

  module _ (around : List Holder) where
    operand_told : (spot : _) (shared : Bool) (operand : Tree) → TreeHas nonempty_lists operand → Told' operand
        → Kept (s.token_in around spot shared (w.Prefix g.Ampersand (s.named_thing thing_at operand))) → v.OperandTold E (tables program facts valid) functions operand
    operand_told spot shared (t.Variable name) trim' used kept =
        address_fact name used (λ is. kept rules.PrivateAddress (subst (λ o. sb.BreaksRule around (w.Prefix g.Ampersand o) rules.PrivateAddress) (sym is) sb.private_address))
    operand_told spot shared (t.Chain first t.no_links) trim' used kept = absurd trim'.0
    operand_told spot shared (t.Postfix whole t.no_suffixes) trim' used kept = absurd trim'.0
    operand_told spot shared other trim' used kept = tt

    by_ampersand : (sign : Sign) (V : Type 0) → (sign ≡ g.Ampersand → V) → v.by_sign E (tables program facts valid) functions sign V
    by_ampersand g.Ampersand V go = go refl
    by_ampersand sign V go = tt

    mutual
      pub addresses : (e : Tree) → TreeHas nonempty_lists e → Told' e → Each Kept (s.tree_tokens thing_at around e) → Addresses e
      addresses (t.Number spot value unsigned) trim' used kept = tt
      addresses (t.Puts spot text) trim' used kept = tt
      addresses (t.Sizeof spot type) trim' used kept = tt
      addresses (t.Variable name) trim' used kept = tt
      addresses (t.GroupNumber spot) trim' used kept = tt
      addresses (t.GroupRank spot) trim' used kept = tt
      addresses (t.Prefix spot sign operand) trim' used kept = (
        by_ampersand sign _ (λ is. operand_told spot true operand trim' used
            (subst (λ sign'. Kept (s.token_in around spot true (w.Prefix sign' (s.named_thing thing_at operand)))) is (rest_of Kept (s.tree_tokens thing_at around operand) _ kept).0)),
        addresses operand trim' used (front_of Kept (s.tree_tokens thing_at around operand) _ kept),
      )
      addresses (t.Cast spot type operand) trim' used kept = addresses operand trim' used (front_of Kept (s.tree_tokens thing_at around operand) _ kept)
      addresses (t.Chain first links) trim' used kept = (
        addresses first trim'.1 used.0 (front_of Kept (s.tree_tokens thing_at around first) _ kept),
        links_addresses _ links trim'.2 used.1 (rest_of Kept (s.tree_tokens thing_at around first) _ kept),
      )
      addresses (t.Postfix whole others) trim' used kept = addresses whole trim'.1 used.0 (front_of Kept (s.tree_tokens thing_at around whole) _ kept)
      addresses (t.Assign spot sign target value) trim' used kept =
          let parts = front_of Kept (s.tree_tokens thing_at around target ++ s.tree_tokens thing_at around value) _ kept in (
            addresses target trim'.0 used.0 (front_of Kept (s.tree_tokens thing_at around target) (s.tree_tokens thing_at around value) parts),
            addresses value trim'.1 used.1 (rest_of Kept (s.tree_tokens thing_at around target) (s.tree_tokens thing_at around value) parts),
          )
      addresses (t.Choose spot condition first second) trim' used kept = tt

      links_addresses : (before : Bool) (links : Links) → LinksHave nonempty_lists links → LinksTold Any IsUsed links → Each Kept (s.links_tokens thing_at around before links)
          → v.LinksAddressesTold E (tables program facts valid) functions links
      links_addresses before t.no_links trim' used kept = tt
      links_addresses before (t.link spot sign right others) trim' used kept = (
        addresses right trim'.0 used.1 (front_of Kept (s.tree_tokens thing_at around right) _ kept),
        links_addresses _ others trim'.1 used.2 (rest_of Kept (s.tree_tokens thing_at around right) _ kept).1,
      )
