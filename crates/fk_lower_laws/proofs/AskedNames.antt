-- How the names in a program stand.
use Rattle.std.proofs.Common.{◌≡◌, ◌⊎◌, inl, inr, ℕ, zero, suc, ◌+◌, ◌*◌, ◌<◌, ◌≤◌, Bool, true, false, List, codes, Option, Some, None, slice_get, Contains, refl, sym, ap, subst, ◌∙◌, arith}
use Rattle.std.specs.Prelude.{◌==◌, is_some, map, if◌then◌else◌}
use Rattle.std.specs.Option.{option_map}
use Rattle.std.proofs.lemmas.Bool.{false≢true, eq-eqb, ne_eqb}
use Rattle.std.proofs.lemmas.Option.{same_Some}
use Rattle.fk_meaning_forms.specs.Expressions.{is_name}
use Rattle.fk_num.specs.Word.{word}
use Rattle.fk_syntax.specs.declared.facts.Facts.{Facts}
use Rattle.fk_syntax.specs.Tree as t
use Rattle.fk_syntax.specs.Tree.{Named, BaseType}
use Rattle.fk_syntax.specs.Program.{DeclaredTree, FunctionTree, ProgramTree}
use Rattle.fk_types_structs.specs.declared.types.Root.{Root}
use Rattle.fk_types_structs.specs.declared.types.Root.TheVariants as r
use Rattle.fk_types_structs.specs.declared.types.DataType.{DataType}
use Rattle.fk_types_structs.specs.Types.{StructTree, struct_named, type_declared, type_spelled}
use Rattle.fk_types_struct_rules.specs.Declarations.{DeclarationBreaks}
use Rattle.fk_types_names.specs.declared.names.Meaning.{Meaning}
use Rattle.fk_types_names.specs.declared.names.Meaning.TheVariants as m
use Rattle.fk_types_names.specs.Outline.{DeclarationTree, Variable, Header, declarations, outline}
use Rattle.fk_types_names.specs.Means.{Means, MeansAt, predeclared}
use Rattle.fk_types_operators.specs.declared.values.ExpressionType.{ExpressionType}
use Rattle.fk_types_operators.specs.declared.values.ExpressionType.TheVariants.{Stored, Computed, Nothing}
use Rattle.fk_types_operators.specs.Values.{result_of}
use Rattle.fk_types_judgments.specs.Names.{Result, Pointed, Meant, Kept, Constant, Called, Main, Undeclared, Always, Typed, IsDeclared, HasDeclaredType, is_text, predeclared_meant, input}
use Rattle.fk_types_judgments.specs.Typing.{name_type, struct_of_root}
use Rattle.fk_sharing_class.specs.declared.thing.Thing.TheVariants.{PrivateVariable}
use Rattle.fk_sharing.specs.Tokens.{is_struct}
use Rattle.fk_meaning_forms.specs.declared.tables.Home.{Home}
use Rattle.fk_meaning_forms.specs.declared.tables.Home.TheVariants as h
use Rattle.fk_meaning_forms.specs.Tables.{no_binding, note, slot, region, kind_at, is_array}
use Rattle.fk_types_structs.specs.Sizes.{HasTypeWords}
use Rattle.fk_lockstep_frames.specs.Nests.{Nest}
use Rattle.fk_core_typing.specs.declared.constants.Constant.TheVariants.{Number, FrameWord}
use Rattle.fk_lower_names.proofs.Given.{IsGiven, words_declared, noted_at}
use Rattle.fk_lower_names.proofs.NotedTypes.{kind_is, kind_words, array_is}
use Rattle.fk_lower_names.specs.OpenFrames.{IsOpen, IsOpenAt, BindsOpen, words_of}
use Rattle.fk_check_laws.proofs.Each.{of_each}
use Rattle.fk_check_laws.proofs.Typed.{Unbroken, IsGood}
use Rattle.fk_check_laws.proofs.Named.{IsKnown, meant_at, declared_low}
use Rattle.fk_check_laws.proofs.Declared.{IsHomeFor, header_at}
use Rattle.fk_check_laws.proofs.Homes.{home_of}
use Rattle.fk_check_laws.proofs.Things.{thing_tells}
use Rattle.fk_lockstep_structure.specs.Valued.{predeclared_gives}
use Rattle.fk_lower_laws.specs.Ways.{Way, Valued, Array, Word, Function, placed_way, predeclared_way, named_way}
use Rattle.fk_lower_laws.specs.Asked.{NameAsks}
use Rattle.fk_lower_laws.specs.Typed.{IsWayOf, IsNoWord}
use Rattle.fk_lower_names.proofs.Sizes.{IsSound, has_sound}
use Rattle.fk_lower_laws.proofs.Tokens.{IsSoundType}
use Rattle.fk_lower_laws.proofs.Places.{lies_within}
use Rattle.fk_lower_laws.proofs.Addresses.{room_may}
use Rattle.fk_lower_laws.proofs.Valid.{about, is_scalar}

module _ (structs : List StructTree) where
  -- a type that is spelled by words that aren't those of a struct
  no_struct : (base : BaseType) (stars : ℕ) (length : Option ℕ) (type : DataType) → is_struct (record { base = base; stars = stars }) ≡ false
      → type_spelled structs (record { base = base; stars = stars }) length ≡ Some type → (type.length ≡ length) × (struct_of_root type.root type.stars ≡ None)
  no_struct t.Int stars length type plain is = subst (λ (x : DataType). (x.length ≡ length) × (struct_of_root x.root x.stars ≡ None)) (same_Some _ type is) (refl, refl)
  no_struct t.Unsigned stars length type plain is = subst (λ (x : DataType). (x.length ≡ length) × (struct_of_root x.root x.stars ≡ None)) (same_Some _ type is) (refl, refl)
  no_struct t.Void stars length type plain is = subst (λ (x : DataType). (x.length ≡ length) × (struct_of_root x.root x.stars ≡ None)) (same_Some _ type is) (refl, refl)
  no_struct (t.Struct name) zero length type plain is = absurd (false≢true (sym plain))
  no_struct (t.Struct name) (suc stars) length type plain is = by (struct_named structs name.bytes) is
    where
      by : (o : Option ℕ) → option_map (λ (root : Root). record { root = root; stars = suc stars; length = length }) (option_map r.Struct o) ≡ Some type
          → (type.length ≡ length) × (struct_of_root type.root type.stars ≡ None)
      by None is' = absurd (cc)
      by (Some i) is' = subst (λ (x : DataType). (x.length ≡ length) × (struct_of_root x.root x.stars ≡ None)) (same_Some _ type is') (refl, refl)

-- ---- names that are declared before each text

-- what a function gives: a value or nothing
abbrev pub Gives : Result → Bool → Type 0
Gives Pointed gives = gives ≡ true
Gives (Always (Some (Computed value))) gives = gives ≡ true
Gives (Always (Some Nothing)) gives = gives ≡ false
Gives result gives = ⊥

-- so such a name stands by what it is: a function, an integer or the input
abbrev pub IsSo : Named → Meant → Type 0
IsSo name (Called parameters result) = (predeclared_way name ≡ Function name) × Gives result (predeclared_gives name)
IsSo name (Constant value) = predeclared_way name ≡ Valued
IsSo name (Kept (Some type)) = (predeclared_way name ≡ Array) × (type ≡ input)
IsSo name meant = ⊥

pub predeclared_so : (name : Named) → Contains predeclared name.bytes → IsSo name (predeclared_meant name.bytes)
predeclared_so name there =
    of_each (λ bytes. IsSo (record name { bytes = bytes }) (predeclared_meant bytes)) predeclared
    ((refl, refl), ((refl, refl), ((refl, refl), ((refl, refl), ((refl, refl), ((refl, refl), ((refl, refl), ((refl, refl), ((refl, refl), ((refl, refl), (refl, (refl, ((refl, refl), (refl, tt))))))))))))))
    name.bytes there

module _ (program : ProgramTree) (facts : Facts) (given : IsGiven program facts) where
  open about program facts given use {env, structs, tables, functions, places, thing, Room, Noting, IsUsed}

  abbrev bound : Named → ℕ
  bound name = (note tables name.at).binding

  abbrev pub Stood : List Nest → Way → ExpressionType → Type 0
  Stood nests w type = IsWayOf (Room nests) w type

  -- ---- a variable stands by its home

  pub record IsVariable (number : ℕ) (x : DeclaredTree) (type : DataType) : Type 0 where
    pub there : slice_get (declarations program) number ≡ Some (Variable x)
    pub is : type_declared structs x ≡ Some type
    pub right : Unbroken (DeclarationBreaks structs x)
    pub home : IsHomeFor x.shared (slot tables number).home

  module _ (number : ℕ) (x : DeclaredTree) (type : DataType) (v : IsVariable number x type) where
    -- the words of its type, as the tables tell them
    words : (w : ℕ) × HasTypeWords structs type w × (1 ≤ w) × (w ≤ 524288)
    words = words_declared program facts given x type v.right v.is

    same : (kind_at tables x.name.at).words ≡ words.0
    same =
        let noted = subst (λ o. Noting (record { at = x.name.at; type = option_map Stored o })) v.is (noted_at program facts given number x v.there) in
        kind_words structs type (kind_at tables x.name.at) words.0 words.1 words.3 (kind_is program facts given.correct x.name.at (Stored type) noted)

    -- its words, in a frame that is open
    in_frame : (nests : List Nest) (r : ℕ) (first : ℕ) → IsOpen nests (region tables r) first (words_of program tables (slice_get (declarations program) number))
        → Room nests (FrameWord (region tables r).level first) type
    in_frame nests r first is_open =
        let told : words_of program tables (slice_get (declarations program) number) ≡ words.0 = ap (words_of program tables) v.there ∙ same in
        record {
          words = words.0;
          region = (region tables r).words;
          has = words.1;
          some = words.2;
          few = words.3;
          frame = is_open.frame;
          within = λ small. (let fits = is_open.ends small in omega (arith, told, fits));
        }

    global : (nests : List Nest) → (slot tables number).home ≡ h.Global → Room nests (Number (0x10000000 + 4 * (slot tables number).index)) type
    global nests e =
        record {
          index = (slot tables number).index;
          words = words.0;
          is = refl;
          has = words.1;
          within = omega (arith, lies_within program facts given.correct given.fits number x v.there e, same);
        }

    in_word : (nests : List Nest) → x.shared ≡ false → Stood nests Word (Stored type)
    in_word nests private =
        let plain = is_scalar program facts given number x v.there private in
        let none = no_struct structs x.kind.base x.kind.stars x.length type plain.1 v.is in
        (ap is_some (none.0 ∙ plain.0), none.1)

    word_is : (i : ℕ) → i ≤ 524288 → word (0x10000000 + 4 * i) ≡ 0x10000000 + 4 * i
    word_is i low = omega (arith, low)

    by_home : (nests : List Nest) (shared : Bool) → x.shared ≡ shared → (home : Home) → (slot tables number).home ≡ home → IsHomeFor shared home
        → IsOpenAt program tables nests home (slot tables number).index (words_of program tables (slice_get (declarations program) number)) → (name : Named) (at : ℕ)
        → NameAsks tables functions places nests at (placed_way tables home (slot tables number).index name) × Stood nests (placed_way tables home (slot tables number).index name) (Stored type)
    by_home nests true is h.Global e home is_open name at =
        let room = global nests e in
        let few = room.within in
        let one : word (0x10000000 + 4 * (slot tables number).index) ≡ 0x10000000 + 4 * (slot tables number).index = word_is (slot tables number).index (omega (arith, few)) in
        let here = subst (λ a. Room nests (Number a) type) (sym one) room in
        (room_may structs nests (Number (word (0x10000000 + 4 * (slot tables number).index))) type here, here)
    by_home nests true is (h.Group r) e home is_open name at =
        let here = in_frame nests r (slot tables number).index is_open in
        (room_may structs nests (FrameWord (region tables r).level (slot tables number).index) type here, here)
    by_home nests true is h.FilePrivate e home is_open name at = absurd home
    by_home nests true is h.Private e home is_open name at = absurd home
    by_home nests true is h.NoWord e home is_open name at = absurd home
    by_home nests false is h.FilePrivate e home is_open name at = (tt, in_word nests is)
    by_home nests false is h.Private e home is_open name at = (tt, in_word nests is)
    by_home nests false is h.Global e home is_open name at = absurd home
    by_home nests false is (h.Group r') e home is_open name at = absurd home
    by_home nests false is h.NoWord e home is_open name at = absurd home

    pub variable_stands : (nests : List Nest) → BindsOpen program tables nests number → (name : Named) (at : ℕ)
        → let w = placed_way tables (slot tables number).home (slot tables number).index name in NameAsks tables functions places nests at w × Stood nests w (Stored type)
    variable_stands nests is_open name at = by_home nests x.shared refl (slot tables number).home refl v.home is_open name at

  -- ---- what a name means

  pub record MeansVariable (name : Named) : Type 0 where
    pub number : ℕ
    pub variable : DeclaredTree
    pub type : DataType
    pub known : IsVariable number variable type
    pub means : Means program name.at (m.Declared number)
    pub meant : env.meant name ≡ Kept (Some type)
    pub binds : bound name ≡ number
    pub low : number < no_binding

  pub record MeansFunction (name : Named) : Type 0 where
    pub number : ℕ
    pub function : FunctionTree
    pub there : slice_get (declarations program) number ≡ Some (Header function)
    pub is : IsDeclared structs (Header function) (env.meant name)
    pub means : Means program name.at (m.Declared number)
    pub binds : bound name ≡ number
    pub low : number < no_binding

  pub record MeansPredeclared (name : Named) : Type 0 where
    pub there : Contains predeclared name.bytes
    pub meant : env.meant name ≡ predeclared_meant name.bytes
    pub binds : bound name ≡ no_binding

  abbrev pub MeansOne : Named → Type 0
  MeansOne name = MeansVariable name ⊎ (MeansFunction name ⊎ MeansPredeclared name)

  module _ (name : Named) where
    declared_one : (number : ℕ) (d : DeclarationTree) → slice_get (declarations program) number ≡ Some d → Means program name.at (m.Declared number) → bound name ≡ number
        → IsGood (env.meant name) → IsDeclared structs d (env.meant name) → MeansOne name
    declared_one number (Header f) there means binds good is =
        inr (inl (record { number = number; function = f; there = there; is = is; means = means; binds = binds; low = declared_low program facts given.correct number (Header f) there }))
    declared_one number (Variable x) there means binds good is = by is.0 is.1 is.2
      where
        by : (type : Option DataType) → HasDeclaredType structs (DeclarationBreaks structs x) (type_declared structs x) type → env.meant name ≡ Kept type → MeansOne name
        by None has meant = absurd (subst IsGood meant good)
        by (Some type) has meant = inl (record {
          number = number;
          variable = x;
          type = type;
          known = record { there = there; is = has.0; right = has.1; home = home_of program facts given.correct given.trim name.at number x means there };
          means = means;
          meant = meant;
          binds = binds;
          low = declared_low program facts given.correct number (Variable x) there;
        })

    pub means_one : IsUsed name → MeansOne name
    means_one used = let found = meant_at program facts given.correct name used.0 used.1 used.2 in by found.0 found.1 found.2
      where
        by : (meaning : Meaning) → MeansAt (outline program) name.bytes used.0 meaning → IsKnown program facts given.correct name meaning → MeansOne name
        by (m.Declared number) at known =
            declared_one number known.meant.0 known.meant.1 known.means known.binds known.good
            (subst (λ (ss : List StructTree). IsDeclared ss known.meant.0 (env.meant name)) (sym given.correct.known.types.right.structs) known.meant.2)
        by m.Predeclared at known = inr (inr (record { there = at.1; meant = known.meant; binds = known.binds }))
        by m.Undeclared at known = absurd known.binds

    abbrev pub way_of : Way
    way_of = named_way tables places name

    picked : (b : Bool) (x y : Way) → b ≡ false → (if b then x else y) ≡ y
    picked false x y e = refl
    picked true x y e = absurd (false≢true (sym e))

    picked_first : (b : Bool) (x y : Way) → b ≡ true → (if b then x else y) ≡ x
    picked_first true x y e = refl
    picked_first false x y e = absurd (false≢true e)

    pub way_declared : (number : ℕ) → bound name ≡ number → number < no_binding → way_of ≡ placed_way tables (slot tables number).home (slot tables number).index name
    way_declared number binds low =
        picked (bound name == no_binding) _ _ (ne_eqb (bound name) no_binding (λ e. omega (arith, e, binds, low)))
        ∙ ap (λ (n : ℕ). placed_way tables (slot tables n).home (slot tables n).index name) binds

    pub way_predeclared : bound name ≡ no_binding → way_of ≡ predeclared_way name
    way_predeclared binds = picked_first (bound name == no_binding) _ _ (eq-eqb (bound name) no_binding binds)

    pub way_function : MeansFunction name → way_of ≡ Function name
    way_function f =
        way_declared f.number f.binds f.low
        ∙ ap (λ (home : Home). placed_way tables home (slot tables f.number).index name) (header_at program facts given.correct f.number f.function f.there).0

  -- ---- a name that has a type

  abbrev NameStands : List Nest → Named → ExpressionType → Type 0
  NameStands nests name type = NameAsks tables functions places nests name.at (way_of name) × Stood nests (way_of name) type

  no_type : (is_main : Bool) (other : Meant) (type : ExpressionType) → name_type other ≡ None → name_type (if is_main then Main else other) ≡ Some type → ⊥
  no_type true other type none e = cc
  no_type false other type none e = let clash = sym none ∙ e in cc

  predeclared_stands : (nests : List Nest) (name : Named) → Contains predeclared name.bytes → (type : ExpressionType) → name_type (predeclared_meant name.bytes) ≡ Some type
      → ((t' : DataType) → type ≡ Stored t' → is_some t'.length ≡ true → is_array tables name.at ≡ true)
      → NameAsks tables functions places nests name.at (predeclared_way name) × Stood nests (predeclared_way name) type
  predeclared_stands nests name there type e array = by (predeclared_meant name.bytes) e (predeclared_so name there)
    where
      by : (meant : Meant) → name_type meant ≡ Some type → IsSo name meant → NameAsks tables functions places nests name.at (predeclared_way name) × Stood nests (predeclared_way name) type
      by (Called parameters result) e' so = absurd (cc)
      by (Constant value) e' so = subst (λ (w : Way). NameAsks tables functions places nests name.at w × Stood nests w type) (sym so) (tt, subst (Stood nests Valued) (same_Some _ type e') tt)
      by (Kept (Some t)) e' so =
          let same = same_Some _ type e' in
          let long = subst (λ (x : DataType). is_some x.length ≡ true) (sym so.1) refl in
          subst (λ (w : Way). NameAsks tables functions places nests name.at w × Stood nests w type) (sym so.0) (array t (sym same) long, subst (Stood nests Array) same long)
      by (Kept None) e' so = absurd so
      by Main e' so = absurd so
      by Undeclared e' so = absurd so

  stored_array : (name : Named) (type : ExpressionType) → Noting (record { at = name.at; type = Some type }) → (t' : DataType) → type ≡ Stored t'
      → is_some t'.length ≡ true → is_array tables name.at ≡ true
  stored_array name type noted t' same some = array_is program facts given.correct name.at t' (subst (λ x. Noting (record { at = name.at; type = Some x })) same noted) some

  pub name_stands : (nests : List Nest) (name : Named) → IsUsed name → BindsOpen program tables nests (bound name) → Noting (record { at = name.at; type = name_type (env.meant name) })
      → (type : ExpressionType) → name_type (env.meant name) ≡ Some type → NameStands nests name type
  name_stands nests name used is_open noted type e = elim (means_one name used) [
    | inl v ↦
        let here = variable_stands v.number v.variable v.type v.known nests (subst (BindsOpen program tables nests) v.binds is_open) name name.at in
        let same : Stored v.type ≡ type = same_Some _ type (sym (ap name_type v.meant) ∙ e) in
        subst (λ (w : Way). NameAsks tables functions places nests name.at w × Stood nests w type) (sym (way_declared name v.number v.binds v.low))
        (here.0, subst (Stood nests _) same here.1)
    | inr (inl f) ↦ absurd (no_type (is_text f.function.name.bytes (codes "main")) (Called (map Typed f.is.0) (Always (option_map result_of f.is.1))) type refl (sym (ap name_type f.is.3) ∙ e))
    | inr (inr p) ↦
        subst (λ (w : Way). NameAsks tables functions places nests name.at w × Stood nests w type) (sym (way_predeclared name p.binds))
        (predeclared_stands nests name p.there type (sym (ap name_type p.meant) ∙ e)
        (stored_array name type (subst (λ o. Noting (record { at = name.at; type = o })) e noted)))
  ]

  -- and its type may be declared
  input_sound : IsSound structs input
  input_sound = record { root = tt; length = λ n e. omega (arith, same_Some 65536 n e) }

  predeclared_sound : (name : Named) → Contains predeclared name.bytes → (type : ExpressionType) → name_type (predeclared_meant name.bytes) ≡ Some type → IsSoundType structs type
  predeclared_sound name there type e = by (predeclared_meant name.bytes) e (predeclared_so name there)
    where
      by : (meant : Meant) → name_type meant ≡ Some type → IsSo name meant → IsSoundType structs type
      by (Called parameters result) e' so = absurd (cc)
      by (Constant value) e' so = subst (IsSoundType structs) (same_Some _ type e') tt
      by (Kept (Some t)) e' so = subst (IsSoundType structs) (same_Some _ type e') (λ some. subst (IsSound structs) (sym so.1) input_sound)
      by (Kept None) e' so = absurd so
      by Main e' so = absurd so
      by Undeclared e' so = absurd so

  pub name_sound : (name : Named) → IsUsed name → (type : ExpressionType) → name_type (env.meant name) ≡ Some type → IsSoundType structs type
  name_sound name used type e = elim (means_one name used) [
    | inl v ↦
        let has = has_sound structs v.variable v.known.right in
        let one : has.type ≡ v.type = same_Some has.type v.type (sym has.is ∙ v.known.is) in
        subst (IsSoundType structs) (same_Some _ type (sym (ap name_type v.meant) ∙ e)) (λ some. subst (IsSound structs) one has.sound)
    | inr (inl f) ↦ absurd (no_type (is_text f.function.name.bytes (codes "main")) (Called (map Typed f.is.0) (Always (option_map result_of f.is.1))) type refl (sym (ap name_type f.is.3) ∙ e))
    | inr (inr p) ↦ predeclared_sound name p.there type (sym (ap name_type p.meant) ∙ e)
  ]

  -- ---- the address of a private variable isn't taken

  no_predeclared_word : (name : Named) → IsNoWord (predeclared_way name)
  no_predeclared_word name =
      by (is_name name (codes "__PROC_NR__")) (is_name name (codes "__STARTED_PROCS__")) (is_name name (codes "__inputs")) (is_name name (codes "__input"))
    where
      by : (a b c d : Bool) → IsNoWord (if a then Valued else if b then Valued else if c then Valued else if d then Array else Function name)
      by true b c d = tt
      by false true c d = tt
      by false false true d = tt
      by false false false true = tt
      by false false false false = tt

  shared_word : (home : Home) (index : ℕ) (name : Named) → IsHomeFor true home → IsNoWord (placed_way tables home index name)
  shared_word h.Global index name is = tt
  shared_word (h.Group r') index name is = tt
  shared_word h.FilePrivate index name is = is
  shared_word h.Private index name is = is
  shared_word h.NoWord index name is = tt

  pub no_word : (name : Named) → IsUsed name → (thing name.at ≡ Some PrivateVariable → ⊥) → IsNoWord (way_of name)
  no_word name used shared = elim (means_one name used) [
    | inl v ↦
        subst IsNoWord (sym (way_declared name v.number v.binds v.low)) (by v v.variable.shared refl v.known.home)
    | inr (inl f) ↦ subst IsNoWord (sym (way_function name f)) tt
    | inr (inr p) ↦ subst IsNoWord (sym (way_predeclared name p.binds)) (no_predeclared_word name)
  ]
    where
      by : (v : MeansVariable name) (b : Bool) → v.variable.shared ≡ b → IsHomeFor b (slot tables v.number).home → IsNoWord (placed_way tables (slot tables v.number).home (slot tables v.number).index name)
      by v true is home = shared_word (slot tables v.number).home (slot tables v.number).index name home
      by v false is home = absurd (shared ((thing_tells program given.correct.well_formed name.at PrivateVariable).1 (v.number, v.variable, v.means, v.known.there, is)))
