-- What the names of a valid program mean, and that a call of one is such as `Fits` asks.
use Rattle.std.proofs.Common.{◌≡◌, inl, inr, ℕ, suc, ◌<◌, ◌^◌, ◌-◌, Bool, true, false, nat_eq, List, [], ◌∷◌, flat_map, codes, Option, Some, None, slice_get, refl, sym, ap, subst, ◌∙◌, arith}
use Rattle.std.specs.Prelude.{◌==◌, map, bytes_eq, Contains, if◌then◌else◌}
use Rattle.std.specs.Option.{option_map, option_and_then}
use Rattle.std.specs.Cmp.Lexicographic.{pointwise}
use Rattle.std.proofs.lemmas.Bool.{false≢true, true_from_ne_false, false_from_ne_true, or_cases, eqb-true, eq-eqb}
use Rattle.std.proofs.lemmas.Option.{same_Some}
use Rattle.std.proofs.lemmas.Slice.Eq.{bytes_eq-Decides}
use Rattle.fk_syntax.specs.declared.facts.Facts.{Facts}
use Rattle.fk_syntax.specs.Tree as t
use Rattle.fk_syntax.specs.Tree.{Named, Trees}
use Rattle.fk_syntax.specs.Program.{DeclaredTree, FunctionTree, ProgramTree}
use Rattle.fk_check_rules.specs.declared.rule.Rule.TheVariants as rules
use Rattle.fk_types_structs.specs.declared.types.DataType.{DataType}
use Rattle.fk_types_structs.specs.Types.{StructTree, structs_of, first_of, member_names, type_declared, type_spelled}
use Rattle.fk_types_struct_rules.specs.Declarations.{DeclarationBreaks, ResultBreaks}
use Rattle.fk_types_names.specs.declared.names.Meaning.{Meaning}
use Rattle.fk_types_names.specs.declared.names.Meaning.TheVariants as m
use Rattle.fk_types_names.specs.Outline.{DeclarationTree, Variable, Header, declarations, outline}
use Rattle.fk_types_names.specs.Means.{Means, UsesAt, MeansAt}
use Rattle.fk_types_operators.specs.declared.values.Value.TheVariants.{Int}
use Rattle.fk_types_operators.specs.declared.values.ExpressionType.TheVariants.{Computed, Nothing}
use Rattle.fk_types_operators.specs.Values.{result_of}
use Rattle.fk_types_judgments.specs.Term.{count_of, no_terms, with_arguments}
use Rattle.fk_types_judgments.specs.Names.{Env, Meant, Kept, Constant, Called, Main, Always, IsMeant, IsDeclared, HasDeclaredType, is_text, is_multiprefix, is_request, is_output, predeclared_meant, int, void_pointer, input, Words, Pointed, Typed as Takes}
use Rattle.fk_types_judgments.specs.Broken.{is_no_function, is_wrong_count}
use Rattle.fk_types_obligations.specs.Pieces as q
use Rattle.fk_types_obligations.specs.Pieces.{PieceTree, pieces}
use Rattle.fk_types_references.specs.References.{Name}
use Rattle.fk_types_rules.specs.Pieces.{PieceBreaks}
use Rattle.fk_types_rules.proofs.Meanings.{means-something}
use Rattle.fk_types_rules.specs.Bound as b
use Rattle.fk_types_rules.specs.Bound.{pieces_references}
use Rattle.fk_types_rules.proofs.Pieces.{declared_by_piece, of_items}
use Rattle.fk_types_bindings.proofs.Below.{references_below}
use Rattle.fk_meaning_forms.specs.declared.tables.Home.{Home}
use Rattle.fk_meaning_forms.specs.declared.tables.Home.TheVariants as h
use Rattle.fk_meaning_forms.specs.Tables.{no_binding, note, slot}
use Rattle.fk_meaning_forms.specs.Expressions.{Coded, ResultLocation, ToCall, Signature, is_name, variable, placed, predeclared}
use Rattle.fk_meaning.specs.Calls.{takes_two}
use Rattle.fk_meaning.specs.Shaped.{Takes as TakesIn}
use Rattle.fk_check_laws.specs.Correct.{IsCorrect}
use Rattle.fk_check_laws.proofs.Each.{Each, each, one_of}
use Rattle.fk_check_laws.proofs.Typed.{Unbroken, Not, IsGood, MembersTyped}
use Rattle.fk_check_laws.proofs.Notes.{tables, binding_is}
use Rattle.fk_check_laws.proofs.Numbers.{number_low}
use Rattle.fk_check_laws.proofs.Declared.{header_at}

-- ---- the names that are declared before each text

same_bytes : (xs ys : List ℕ) → bytes_eq xs ys ≡ true → xs ≡ ys
same_bytes xs ys e = (bytes_eq-Decides xs ys).0 e

-- a name that is called by its meaning, and one that is a value
is_value : (bytes : List ℕ) (text : List ℕ) → is_no_function (predeclared_meant text) ≡ true → bytes_eq bytes text ≡ true → Not (is_no_function (predeclared_meant bytes)) → ⊥
is_value bytes text is e un = un (subst (λ x. is_no_function (predeclared_meant x) ≡ true) (sym (same_bytes bytes text e)) is)

counts_as : (count : ℕ) (bytes : List ℕ) (text : List ℕ) → is_wrong_count (predeclared_meant text) count ≡ true → bytes_eq bytes text ≡ true → Not (is_wrong_count (predeclared_meant bytes) count) → ⊥
counts_as count bytes text is e un = un (subst (λ x. is_wrong_count (predeclared_meant x) count ≡ true) (sym (same_bytes bytes text e)) is)

-- one that takes two has them
two : (name : Named) (count : ℕ) → is_wrong_count (predeclared_meant (codes "mpadd")) count ≡ true → is_wrong_count (predeclared_meant (codes "mpmax")) count ≡ true
    → is_wrong_count (predeclared_meant (codes "mpand")) count ≡ true → is_wrong_count (predeclared_meant (codes "mpor")) count ≡ true
    → Not (is_wrong_count (predeclared_meant name.bytes) count) → takes_two name ≡ true → ⊥
two name count a b c d un is = elim (or_cases (is_name name (codes "mpadd")) _ is) [
  | inl e ↦ counts_as count name.bytes (codes "mpadd") a e un
  | inr rest ↦ elim (or_cases (is_name name (codes "mpmax")) _ rest) [
    | inl e ↦ counts_as count name.bytes (codes "mpmax") b e un
    | inr more ↦ elim (or_cases (is_name name (codes "mpand")) _ more) [
      | inl e ↦ counts_as count name.bytes (codes "mpand") c e un
      | inr e ↦ counts_as count name.bytes (codes "mpor") d e un
    ]
  ]
]

-- what it is by which of them it is
abbrev meant_by : (multiprefix request output size input' : Bool) → Meant
meant_by p q r s i =
    if p then Called (Words ∷ Takes (Some int) ∷ []) Pointed
    else (if q then Called (Takes (Some int) ∷ []) (Always (Some (result_of void_pointer)))
    else (if r then Called (Takes (Some int) ∷ []) (Always (Some Nothing))
    else (if s then Called [] (Always (Some (Computed Int)))
    else (if i then Kept (Some input)
    else Constant Int))))

-- one that takes nothing is `groupsize`
sized : (bytes : List ℕ) → bytes_eq bytes (codes "groupsize") ≡ false → Not (is_no_function (predeclared_meant bytes)) → Not (is_wrong_count (predeclared_meant bytes) 0) → ⊥
sized bytes other f c = by (is_multiprefix bytes) (is_request bytes) (is_output bytes) (is_text bytes (codes "groupsize")) (is_text bytes (codes "__input")) other f c
  where
    by : (p q r s i : Bool) → s ≡ false → Not (is_no_function (meant_by p q r s i)) → Not (is_wrong_count (meant_by p q r s i) 0) → ⊥
    by true q r s i other f c = c refl
    by false true r s i other f c = c refl
    by false false true s i other f c = c refl
    by false false false true i other f c = false≢true (sym other)
    by false false false false true other f c = f refl
    by false false false false false other f c = f refl

good_predeclared : (bytes : List ℕ) → IsGood (predeclared_meant bytes)
good_predeclared bytes = by (is_multiprefix bytes) (is_request bytes) (is_output bytes) (is_text bytes (codes "groupsize")) (is_text bytes (codes "__input"))
  where
    by : (p q r s i : Bool) → IsGood (meant_by p q r s i)
    by true q r s i = (Takes (Some int) ∷ [], refl)
    by false true r s i = tt
    by false false true s i = tt
    by false false false true i = tt
    by false false false false true = tt
    by false false false false false = tt

module _ (program : ProgramTree) (facts : Facts) (valid : IsCorrect program facts) where
  abbrev pub env : Env
  env = valid.known.types.env

  -- ---- what is declared breaks nothing, so all names are typed

  pub unbroken_pieces : Each (λ x. Unbroken (PieceBreaks env x)) (pieces program)
  unbroken_pieces = each (λ x. Unbroken (PieceBreaks env x)) (pieces program) (λ i x is place rule broken. valid.known.types.kept place rule (inr (i, x, is, broken)))

  abbrev IsDeclaredRight : DeclarationTree → Type 0
  IsDeclaredRight (Variable x) = Unbroken (DeclarationBreaks env.structs x)
  IsDeclaredRight (Header f) = Unbroken (ResultBreaks env.structs f.result f.name.place)

  declared_right : (ps : List PieceTree) → Each (λ x. Unbroken (PieceBreaks env x)) ps → Each IsDeclaredRight (flat_map declared_by_piece ps)
  declared_right [] h = tt
  declared_right (q.FileVariable x ∷ ps) h = ((λ place rule broken. h.0 place rule (inl broken)), declared_right ps h.1)
  declared_right (q.Variable x ∷ ps) h = ((λ place rule broken. h.0 place rule (inl broken)), declared_right ps h.1)
  declared_right (q.Parameter x ∷ ps) h = ((λ place rule broken. h.0 place rule (inl broken)), declared_right ps h.1)
  declared_right (q.Header f ∷ ps) h = (h.0, declared_right ps h.1)
  declared_right (q.Used role value ∷ ps) h = declared_right ps h.1
  declared_right (q.Return result spot value ∷ ps) h = declared_right ps h.1

  right_at : (number : ℕ) (d : DeclarationTree) → slice_get (declarations program) number ≡ Some d → IsDeclaredRight d
  right_at number d is = one_of IsDeclaredRight (declarations program)
      (subst (Each IsDeclaredRight) (of_items program.items).declared (declared_right (pieces program) unbroken_pieces)) number d is

  same_structs : env.structs ≡ structs_of program.items
  same_structs = valid.known.types.right.structs

  kept_good : (x : DeclaredTree) (type : Option DataType) → HasDeclaredType (structs_of program.items) (DeclarationBreaks (structs_of program.items) x) (type_declared (structs_of program.items) x) type
      → Unbroken (DeclarationBreaks (structs_of program.items) x) → IsGood (Kept type)
  kept_good x None has un = un has.0 has.1 has.2
  kept_good x (Some type) has un = tt

  gives_good : (f : FunctionTree) (parameters : List (Option DataType)) (result : Option DataType)
      → HasDeclaredType (structs_of program.items) (ResultBreaks (structs_of program.items) f.result f.name.place) (type_spelled (structs_of program.items) f.result None) result
      → Unbroken (ResultBreaks (structs_of program.items) f.result f.name.place) → (main : Bool)
      → IsGood (if main then Main else Called (map Takes parameters) (Always (option_map result_of result)))
  gives_good f parameters result has un true = tt
  gives_good f parameters None has un false = un has.0 has.1 has.2
  gives_good f parameters (Some type) has un false = tt

  declared_good : (d : DeclarationTree) (x : Meant) → IsDeclaredRight d → IsDeclared (structs_of program.items) d x → IsGood x
  declared_good (Variable v) x right is =
      subst IsGood (sym is.2) (kept_good v is.0 is.1 (subst (λ structs. Unbroken (DeclarationBreaks structs v)) same_structs right))
  declared_good (Header f) x right is =
      subst IsGood (sym is.3) (gives_good f is.0 is.1 is.2.gives (subst (λ structs. Unbroken (ResultBreaks structs f.result f.name.place)) same_structs right) (is_text f.name.bytes (codes "main")))

  meant_good : (name : Named) (meaning : Meaning) → IsMeant program name.bytes meaning (env.meant name) → IsGood (env.meant name)
  meant_good name (m.Declared number) is = declared_good is.0 (env.meant name) (right_at number is.0 is.1) is.2
  meant_good name m.Predeclared is = subst IsGood (sym is) (good_predeclared name.bytes)
  meant_good name m.Undeclared is = subst IsGood (sym is) tt

  first_by : (text : List ℕ) (d : DeclaredTree) (members : List DeclaredTree)
      → ((n : ℕ) → first_of text (member_names members) ≡ Some n → (e : DeclaredTree) × (slice_get members n ≡ Some e))
      → (b : Bool) (o : Option ℕ) → first_of text (member_names members) ≡ o → (place : ℕ) → (if b then Some 0 else option_map suc o) ≡ Some place
      → (e : DeclaredTree) × (slice_get (d ∷ members) place ≡ Some e)
  first_by text d members rest true o found place is = (d, subst (λ k. slice_get (d ∷ members) k ≡ Some d) (same_Some 0 place is) refl)
  first_by text d members rest false None found place is = absurd (cc)
  first_by text d members rest false (Some n) found place is =
      let h = rest n found in (h.0, subst (λ k. slice_get (d ∷ members) k ≡ Some h.0) (same_Some (suc n) place is) h.1)

  first_at : (text : List ℕ) (members : List DeclaredTree) (place : ℕ) → first_of text (member_names members) ≡ Some place → (d : DeclaredTree) × (slice_get members place ≡ Some d)
  first_at text [] place is = absurd (cc)
  first_at text (d ∷ members) place is = first_by text d members (λ n found. first_at text members n found) (pointwise nat_eq text d.name.bytes) (first_of text (member_names members)) refl place is

  pub members_typed : MembersTyped env
  members_typed index place bytes is none = by (slice_get env.structs index) refl is
    where
      by : (o : Option StructTree) → slice_get env.structs index ≡ o → option_and_then (λ (s : StructTree). first_of bytes (member_names s.members)) o ≡ Some place → ⊥
      by None at is = cc
      by (Some s) at is =
          let d = first_at bytes s.members place is in
          let has = valid.known.types.right.member_type index place s d.0 at d.1 in
          let broken = subst (HasDeclaredType env.structs (DeclarationBreaks env.structs d.0) (type_declared env.structs d.0)) none has in
          valid.known.types.kept broken.0 broken.1 (inl (inl (inr (index, s, at, inr (place, d.0, d.1, inr broken.2)))))

  -- ---- what each name means

  abbrev pub Binds : Meaning → ℕ → Type 0
  Binds (m.Declared number) binding = binding ≡ number
  Binds m.Predeclared binding = binding ≡ 2 ^ 32 - 1
  Binds m.Undeclared binding = ⊥

  -- it is typed, and its note has the number of what it means
  pub record IsKnown (name : Named) (meaning : Meaning) : Type 0 where
    pub means : Means program name.at meaning
    pub meant : IsMeant program name.bytes meaning (env.meant name)
    pub binds : Binds meaning (note (tables program facts valid) name.at).binding
    pub good : IsGood (env.meant name)

  abbrev pub Known : Named → Type 0
  Known name = ((meaning : Meaning) → IsKnown name meaning → ⊥) → ⊥

  module _ (name : Named) (from : ℕ) (used : UsesAt (outline program) name from) (referred : Contains (pieces_references (pieces program)) (Name name)) where
    low : name.at < program.tokens
    low = references_below program valid.well_formed (Name name) referred

    number_is : (number : ℕ) → b.Refers env program (Name name) number → (note (tables program facts valid) name.at).binding ≡ number
    number_is number refers = binding_is program facts valid name.at number low (b.refers (Name name) number referred refl refers)

    means : (meaning : Meaning) → MeansAt (outline program) name.bytes from meaning → Means program name.at meaning
    means meaning is = record { name = name; from = from; used = used; here = refl; meant = is }

    binds : (meaning : Meaning) → MeansAt (outline program) name.bytes from meaning → Binds meaning (note (tables program facts valid) name.at).binding
    binds (m.Declared number) is = number_is number (b.declared name number (means (m.Declared number) is))
    binds m.Predeclared is = number_is (2 ^ 32 - 1) (b.predeclared name (means m.Predeclared is))
    binds m.Undeclared is = valid.known.types.kept name.place rules.Undeclared (inl (inr (inl (refl, (from, name, used, is, refl)))))

    -- it means something
    pub meant_at : (meaning : Meaning) × MeansAt (outline program) name.bytes from meaning × IsKnown name meaning
    meant_at =
        let found = means-something (outline program) name.bytes from in
        let meant = valid.known.types.right.meant name found.0 (means found.0 found.1) in
        (found.0, found.1, record { means = means found.0 found.1; meant = meant; binds = binds found.0 found.1; good = meant_good name found.0 meant })

    pub known : Known name
    known none = let found = meant_at in none found.0 found.2

  pub declared_low : (number : ℕ) (d : DeclarationTree) → slice_get (declarations program) number ≡ Some d → number < 2 ^ 32 - 1
  declared_low number d is = omega (arith, number_low program valid.well_formed number d is, valid.small)

  -- ---- calls

  module _ (name : Named) (is_known : Known name) (count : ℕ) (callable : Not (is_no_function (env.meant name))) (counted : Not (is_wrong_count (env.meant name) count)) where
    abbrev binding : ℕ
    binding = (note (tables program facts valid) name.at).binding

    -- by its number it is predeclared, or a function of the program
    as_predeclared : (binding == no_binding) ≡ true → (env.meant name ≡ predeclared_meant name.bytes → ⊥) → ⊥
    as_predeclared is none = is_known by
      where
        by : (meaning : Meaning) → IsKnown name meaning → ⊥
        by (m.Declared number) k = omega (arith, k.binds, eqb-true binding no_binding is, declared_low number k.meant.0 k.meant.1)
        by m.Predeclared k = none k.meant
        by m.Undeclared k = k.binds

    not_value : (text : List ℕ) → (binding == no_binding) ≡ true → is_no_function (predeclared_meant text) ≡ true → is_name name text ≡ false
    not_value text is value' = false_from_ne_true (is_name name text) (λ e.
        as_predeclared is (λ meant. is_value name.bytes text value' e (subst (λ x. Not (is_no_function x)) meant callable)))

    abbrev is_no_word : Home → Bool
    is_no_word h.NoWord = true
    is_no_word home = false

    no_word : (home : Home) → is_no_word home ≡ true → home ≡ h.NoWord
    no_word h.NoWord e = refl
    no_word h.Global e = absurd (false≢true e)
    no_word h.FilePrivate e = absurd (false≢true e)
    no_word h.Private e = absurd (false≢true e)
    no_word (h.Group r) e = absurd (false≢true e)

    as_declared : (binding == no_binding) ≡ false → is_no_word (slot (tables program facts valid) binding).home ≡ true
    as_declared is = true_from_ne_false _ (λ word. is_known (by word))
      where
        by_header : (d : DeclarationTree) (number : ℕ) → slice_get (declarations program) number ≡ Some d → IsDeclared (structs_of program.items) d (env.meant name) → IsGood (env.meant name)
            → is_no_word (slot (tables program facts valid) number).home ≡ false → ⊥
        by_header (Header f) number at meant good word = false≢true (sym word ∙ ap is_no_word (header_at program facts valid number f at).0)
        by_header (Variable x) number at meant good word = by_type meant.0 meant.2
          where
            by_type : (type : Option DataType) → env.meant name ≡ Kept type → ⊥
            by_type None e = subst IsGood e good
            by_type (Some type) e = callable (ap is_no_function e)

        by : is_no_word (slot (tables program facts valid) binding).home ≡ false → (meaning : Meaning) → IsKnown name meaning → ⊥
        by word (m.Declared number) k = by_header k.meant.0 number k.meant.1 k.meant.2 k.good (subst (λ n. is_no_word (slot (tables program facts valid) n).home ≡ false) k.binds word)
        by word m.Predeclared k = false≢true (sym is ∙ eq-eqb binding no_binding k.binds)
        by word m.Undeclared k = k.binds

    module _ (functions : (binding : ℕ) → Signature) where
      -- so it stands to be called
      pub stands_called : (k : ResultLocation → Coded) → variable (tables program facts valid) functions name k ≡ k (ToCall name)
      stands_called k = by (binding == no_binding) refl
        where
          picks : (p q r s : Bool) (a c d e f : Coded) → p ≡ false → q ≡ false → r ≡ false → s ≡ false → (if p then a else (if q then c else (if r then d else (if s then e else f)))) ≡ f
          picks false false false false a c d e f p q r s = refl
          picks true q' r' s' a c d e f p q r s = absurd (false≢true (sym p))
          picks false true r' s' a c d e f p q r s = absurd (false≢true (sym q))
          picks false false true s' a c d e f p q r s = absurd (false≢true (sym r))
          picks false false false true a c d e f p q r s = absurd (false≢true (sym s))

          at_home : (home : Home) (index : ℕ) → home ≡ h.NoWord → placed (tables program facts valid) functions home index name k ≡ k (ToCall name)
          at_home home index e = subst (λ x. placed (tables program facts valid) functions x index name k ≡ k (ToCall name)) (sym e) refl

          by : (is : Bool) → (binding == no_binding) ≡ is
              → (if is then predeclared (tables program facts valid) functions name k else placed (tables program facts valid) functions (slot (tables program facts valid) binding).home (slot (tables program facts valid) binding).index name k) ≡ k (ToCall name)
          by true is = picks _ _ _ _ _ _ _ _ _
              (not_value (codes "__PROC_NR__") is refl) (not_value (codes "__STARTED_PROCS__") is refl) (not_value (codes "__inputs") is refl) (not_value (codes "__input") is refl)
          by false is = at_home (slot (tables program facts valid) binding).home (slot (tables program facts valid) binding).index (no_word _ (as_declared is))

  -- with the arguments that it takes
  pub takes : (name : Named) → Known name → (arguments : Trees) → Not (is_no_function (env.meant name)) → Not (is_wrong_count (env.meant name) (count_of (with_arguments no_terms arguments)))
      → TakesIn (tables program facts valid) name arguments
  takes name is_known t.no_trees callable counted is = (
    false_from_ne_true (takes_two name) (λ e. as_predeclared name is_known 0 callable counted is (λ meant.
        two name 0 refl refl refl refl (subst (λ x. Not (is_wrong_count x 0)) meant counted) e)),
    true_from_ne_false (is_name name (codes "groupsize")) (λ e. as_predeclared name is_known 0 callable counted is (λ meant.
        sized name.bytes e (subst (λ x. Not (is_no_function x)) meant callable) (subst (λ x. Not (is_wrong_count x 0)) meant counted))),
  )
  takes name is_known (t.tree first t.no_trees) callable counted is =
      false_from_ne_true (takes_two name) (λ e. as_predeclared name is_known 1 callable counted is (λ meant.
      two name 1 refl refl refl refl (subst (λ x. Not (is_wrong_count x 1)) meant counted) e))
  takes name is_known (t.tree first (t.tree second others)) callable counted is = tt
