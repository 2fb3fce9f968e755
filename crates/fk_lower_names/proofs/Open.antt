-- Each name in a function is open where it is used: it is declared in a part around its use, and lies in the frame of that part.
use Rattle.std.proofs.Common.{◌≡◌, ◌⊎◌, inl, inr, ℕ, zero, suc, ◌+◌, ◌-◌, ◌<◌, ◌≤◌, Bool, true, false, List, [], ◌∷◌, ◌++◌, length, flat_map, Option, Some, None, slice_get, refl, sym, ap, subst, ◌∙◌, length-append, arith}
use Rattle.std.specs.Prelude.{◌==◌, ◌&&◌, min, All, AllPairs, if◌then◌else◌}
use Rattle.std.specs.Option.{option_map}
use Rattle.std.proofs.lemmas.Bool.{false≢true, cases_lt, eqb-true, eq-eqb, ne_eqb}
use Rattle.std.proofs.lemmas.Option.{same_Some}
use Rattle.fk_syntax.specs.declared.facts.Facts.{Facts}
use Rattle.fk_syntax.specs.Nodes.{tree_indices, optional_indices, statement_indices, statements_indices}
use Rattle.fk_syntax.specs.Tree.{Named, Tree}
use Rattle.fk_syntax.specs.Program as p
use Rattle.fk_syntax.specs.Program.{DeclaredTree, Statement, Statements, FunctionTree, ProgramTree}
use Rattle.fk_types_structs.specs.Types.{StructTree}
use Rattle.fk_types_struct_rules.specs.Declarations.{DeclarationBreaks}
use Rattle.fk_types_names.specs.declared.names.Meaning.{Meaning}
use Rattle.fk_types_names.specs.declared.names.Meaning.TheVariants as m
use Rattle.fk_types_names.specs.Outline.{DeclarationTree, MarkTree, Variable, Header, Opens, Closes, Declares, Uses, declared_by, declared_in, declarations, outline, tree_marks, optional_marks, variables_marks, scope, statement_marks, statements_marks}
use Rattle.fk_types_names.specs.Visible.{is_opening, is_closing, IsVisible, IsInnermost}
use Rattle.fk_types_names.specs.Means.{MeansAt, binding, DefinesHere}
use Rattle.fk_types_names.proofs.SurveyLemmas.{binding_more}
use Rattle.fk_types_name_rules.proofs.ListLemmas.{at_some}
use Rattle.fk_types_operators.specs.declared.values.ExpressionType.TheVariants.{Stored}
use Rattle.fk_types_obligations.specs.Pieces as q
use Rattle.fk_types_obligations.specs.Pieces.{PieceTree, pieces}
use Rattle.fk_types_rules.specs.Bound.{declares}
use Rattle.fk_types_rules.proofs.Pieces.{declared_by_piece, of_items}
use Rattle.fk_types_rules.proofs.References.{optional_refers}
use Rattle.fk_types_bindings.proofs.Below.{declared_below}
use Rattle.fk_types_bindings.proofs.BodyLemmas.{declared_here}
use Rattle.fk_meaning_forms.specs.declared.tables.Home.{Home}
use Rattle.fk_meaning_forms.specs.declared.tables.Home.TheVariants as h
use Rattle.fk_meaning_forms.specs.declared.tables.Region.{Region}
use Rattle.fk_meaning_forms.specs.declared.tables.Slot.{Slot}
use Rattle.fk_meaning_forms.specs.Tables.{Tables, nth, no_slot, no_region, no_binding, note, slot, region}
use Rattle.fk_meaning_forms.specs.Tables as t
use Rattle.fk_layout_slots.specs.Told.{Told, words_at, splits_at, more}
use Rattle.fk_layout_slots.specs.Words.{declared_words, variables_words, statement_words, statements_words}
use Rattle.fk_layout_slots.specs.Frames.{last_word, deeper, body_frame, frames_in, all_frames_in}
use Rattle.fk_layout_slots.specs.Places.{none_taken, slot_in, within, behind_variable, behind_parameter, variables_slots, parameters_slots}
use Rattle.fk_layout_slots.specs.Slots.{behind_body_frame, begun, begun_two, behind, slots_in, all_slots_in}
use Rattle.fk_layout.specs.Frames.{file_privates}
use Rattle.fk_layout.specs.Layout.{told_by}
use Rattle.fk_lockstep_frames.specs.Nests as n
use Rattle.fk_lockstep_frames.specs.Nests.{Nest, OfFunction, OfPart, nesting}
use Rattle.fk_lockstep_structure.specs.Placed.{Who, OfGroup, OfBody, OfMain, is_group, is_outermost, inner}
use Rattle.fk_lockstep_structure.proofs.Forms.{inner_group}
use Rattle.fk_parse_laws.specs.Order.{IsBefore, AreInOrder}
use Rattle.fk_check_laws.specs.Correct.{IsCorrect}
use Rattle.fk_check_laws.proofs.Each.{Each, front_of, rest_of, three_of, four_of, one_of}
use Rattle.fk_check_laws.proofs.Typed.{Unbroken}
use Rattle.fk_check_laws.proofs.Notes.{tables, among, binding_is, nth_at, nth_past}
use Rattle.fk_check_laws.proofs.Named.{IsKnown, meant_at}
use Rattle.fk_check_laws.proofs.Declared.{header_at}
use Rattle.fk_check_laws.proofs.Shut.{opened, closed}
use Rattle.fk_lower_names.proofs.Given.{IsGiven, structs as structs_of, Noting, IsPiece, are_pieces, words_declared, noted_at}
use Rattle.fk_lower_names.proofs.NotedTypes.{kind_is, kind_words}
use Rattle.fk_lower_names.specs.OpenFrames.{IsOpen, is_group as is_in_group, frame_words, words_of, IsOpenAt, BindsOpen, IsOpenFor, AreOpenFor, in_part, in_split, StatementIsOpen, StatementsAreOpen}
use Rattle.fk_lower_names.proofs.Sizes.{has_sound}
use Rattle.fk_lower_names.proofs.WordRoom.{few_slots}
use Rattle.fk_lower_names.proofs.Outer.{IsOfFile, OfFile, outer_items}
use Rattle.fk_lower_names.proofs.Referring.{IsReferred}
use Rattle.fk_lower_names.proofs.Offsets.{At, past, at_front, at_rest, past_both, past_sum}
use Rattle.fk_lower_names.proofs.Scoped.{counted, Kept, scope_encloses, statement_kept, all_kept}
use Rattle.fk_lower_names.proofs.Placing.{OfGroupAlone, Placed, AllPlaced}
use Rattle.fk_lower_names.proofs.FrameCounts.{most, count, count_both, within_is, body_frame_counts, variable_words, parameter_words, statement_counts, variables_grow, words_grow, all_words_grow}

-- ---- frames that nests have

skipped : (b : Bool) (x y : Option ℕ) → b ≡ false → (if b then x else y) ≡ y
skipped true x y e = absurd (false≢true (sym e))
skipped false x y e = refl

taken_first : (b : Bool) (x y : Option ℕ) → b ≡ true → (if b then x else y) ≡ x
taken_first true x y e = refl
taken_first false x y e = absurd (false≢true e)

low_frame : (nests : List Nest) (number words : ℕ) → n.frame_at nests number ≡ Some words → number ≤ nesting nests
low_frame [] number words e = absurd (cc)
low_frame (OfFunction frame ∷ nests) number words e = by (number == 0) refl e
  where
    by : (b : Bool) → (number == 0) ≡ b → (if b then frame else None) ≡ Some words → number ≤ 0
    by true same e' = let zero' = eqb-true number 0 same in omega (arith, zero')
    by false same e' = absurd (cc)
low_frame (OfPart numbered frame ∷ nests) number words e = by (number == suc (nesting nests)) refl e (low_frame nests number words)
  where
    by : (b : Bool) → (number == suc (nesting nests)) ≡ b → (if b then frame else n.frame_at nests number) ≡ Some words → (n.frame_at nests number ≡ Some words → number ≤ nesting nests)
        → number ≤ suc (nesting nests)
    by true same e' inner = let equal = eqb-true number (suc (nesting nests)) same in omega (arith, equal)
    by false same e' inner = let low = inner e' in omega (arith, low)

-- a frame stays where it is in a part
in_more : (nests : List Nest) (numbered : Bool) (frame : Option ℕ) (number words : ℕ) → n.frame_at nests number ≡ Some words → n.frame_at (OfPart numbered frame ∷ nests) number ≡ Some words
in_more nests numbered frame number words e =
    let low = low_frame nests number words e in
    skipped (number == suc (nesting nests)) frame (n.frame_at nests number) (ne_eqb number (suc (nesting nests)) (λ same. omega (arith, same, low))) ∙ e

-- ---- the region at a token

all_at : {X : Type 0} (P : X → Type 0) (xs : List X) → All P xs → (i : ℕ) (x : X) → slice_get xs i ≡ Some x → P x
all_at P [] h i x is = absurd (cc)
all_at P (y ∷ xs) h zero x is = subst P (same_Some y x is) (h zero y (omega arith))
all_at P (y ∷ xs) h (suc i) x is = all_at P xs (λ k d low. h (suc k) d (omega arith)) i x is

pub found : (known : Tables) (rs : List Region) → AllPairs IsBefore rs → (i : ℕ) (r : Region) → slice_get rs i ≡ Some r → t.frame_in known rs r.at r.part ≡ Some r
found known [] pairs i r is = absurd (cc)
found known (x ∷ rs) pairs zero r is = subst (λ (y : Region). t.frame_in known (x ∷ rs) y.at y.part ≡ Some y) (same_Some x r is) (first (x.at == x.at) (x.part == x.part) (eq-eqb x.at x.at refl) (eq-eqb x.part x.part refl))
  where
    first : (a b : Bool) → a ≡ true → b ≡ true → (if a && b then Some x else t.frame_in known rs x.at x.part) ≡ Some x
    first true true d e = refl
    first true false d e = absurd (false≢true e)
    first false b d e = absurd (false≢true d)
found known (x ∷ rs) pairs (suc i) r is =
    let head : All (IsBefore x) rs = λ k d low. pairs zero (suc k) d (omega arith) (omega arith) in
    let tail : AllPairs IsBefore rs = λ j k d less low. pairs (suc j) (suc k) d (omega arith) (omega arith) in
    next (x.at == r.at) (x.part == r.part) (λ a b. apart (all_at (IsBefore x) rs head i r is) (eqb-true x.at r.at a) (eqb-true x.part r.part b)) ∙ found known rs tail i r is
  where
    apart : IsBefore x r → x.at ≡ r.at → x.part ≡ r.part → ⊥
    apart (inl less) a b = omega (arith, less, a)
    apart (inr both) a b = omega (arith, both.1, b)

    next : (a b : Bool) → (a ≡ true → b ≡ true → ⊥) → (if a && b then Some x else t.frame_in known rs r.at r.part) ≡ t.frame_in known rs r.at r.part
    next true true differs = absurd (differs refl refl)
    next true false differs = refl
    next false b differs = refl

-- who is known to be on a level of the layout
abbrev pub IsLevelled : Who → Type 0
IsLevelled who = (is_group who ≡ true) ⊎ (is_outermost who ≡ true)

inner_levelled : (who : Who) → IsLevelled (inner who) → is_group who ≡ true
inner_levelled OfGroup e = refl
inner_levelled OfBody (inl e) = e
inner_levelled OfBody (inr e) = e
inner_levelled (OfMain outermost) (inl e) = e
inner_levelled (OfMain outermost) (inr e) = absurd (false≢true e)

module _ (program : ProgramTree) (facts : Facts) (given : IsGiven program facts) (order : AreInOrder (tables program facts given.correct).regions) where
  abbrev valid : IsCorrect program facts
  valid = given.correct

  abbrev pub T : Tables
  T = tables program facts valid

  abbrev pub told : Told
  told = told_by facts

  abbrev pub marks : List MarkTree
  marks = outline program

  abbrev Binds : List Nest → ℕ → Type 0
  Binds nests number = BindsOpen program T nests number

  abbrev Refers : MarkTree → Type 0
  Refers = IsReferred program given.trim

  abbrev Open : List Nest → List MarkTree → Type 0
  Open nests ms = AreOpenFor program T nests ms

  open_both : (nests : List Nest) (xs ys : List MarkTree) → Open nests xs → Open nests ys → Open nests (xs ++ ys)
  open_both nests [] ys h k = k
  open_both nests (x ∷ xs) ys h k = (h.0, open_both nests xs ys h.1 k)

  -- ---- what is declared has words

  abbrev structs : List StructTree
  structs = structs_of program facts given

  abbrev IsRight : DeclarationTree → Type 0
  IsRight (Variable x) = Unbroken (DeclarationBreaks structs x)
  IsRight (Header f) = Unit {0}

  rights : (ps : List PieceTree) → Each (IsPiece program facts given) ps → Each IsRight (flat_map declared_by_piece ps)
  rights [] k = tt
  rights (q.FileVariable x ∷ ps) k = ((λ place rule broken. k.0.whole place rule (inl broken)), rights ps k.1)
  rights (q.Variable x ∷ ps) k = ((λ place rule broken. k.0.whole place rule (inl broken)), rights ps k.1)
  rights (q.Parameter x ∷ ps) k = ((λ place rule broken. k.0.whole place rule (inl broken)), rights ps k.1)
  rights (q.Header f ∷ ps) k = (tt, rights ps k.1)
  rights (q.Used role value ∷ ps) k = rights ps k.1
  rights (q.Return result spot value ∷ ps) k = rights ps k.1

  has_words : (number : ℕ) (x : DeclaredTree) → slice_get (declarations program) number ≡ Some (Variable x) → 1 ≤ words_at told x.name.at
  has_words number x is =
      let right : IsRight (Variable x) = one_of IsRight (declarations program)
      (subst (Each IsRight) (of_items program.items).declared (rights (pieces program) (are_pieces program facts given))) number (Variable x) is in
      let sound = has_sound structs x right in
      let words = words_declared program facts given x sound.type right sound.is in
      let noted = subst (λ o. Noting program facts given (record { at = x.name.at; type = option_map Stored o })) sound.is (noted_at program facts given number x is) in
      let same : words_at told x.name.at ≡ words.0 = kind_words structs sound.type (t.kind_at T x.name.at) words.0 words.1 words.3 (kind_is program facts valid x.name.at (Stored sound.type) noted) in
      omega (arith, same, words.2)

  -- ---- what is visible is open

  pub record Seen (i b : ℕ) (nests : List Nest) : Type 0 where
    pub number : binding marks i ≡ b
    pub sees : (k : ℕ) (x : DeclaredTree) → k < i → slice_get marks k ≡ Some (Declares (Variable x)) → IsVisible marks k i → Binds nests (binding marks k)

  stays_at : (nests : List Nest) (numbered : Bool) (frame : Option ℕ) (home : Home) (first words : ℕ) → IsOpenAt program T nests home first words → IsOpenAt program T (OfPart numbered frame ∷ nests) home first words
  stays_at nests numbered frame (h.Group r) first words o =
      record { frame = in_more nests numbered frame (region T r).level (region T r).words o.frame; begins = o.begins; ends = o.ends }
  stays_at nests numbered frame h.Global first words o = tt
  stays_at nests numbered frame h.FilePrivate first words o = tt
  stays_at nests numbered frame h.Private first words o = tt
  stays_at nests numbered frame h.NoWord first words o = tt

  pub in_deeper : (i b : ℕ) (nests : List Nest) (numbered : Bool) (frame : Option ℕ) → Seen i b nests → Seen i b (OfPart numbered frame ∷ nests)
  in_deeper i b nests numbered frame s = record {
    number = s.number;
    sees = λ k x less is seen.
        let number = binding marks k in
        stays_at nests numbered frame (slot T number).home (slot T number).index (words_of program T (slice_get (declarations program) number)) (s.sees k x less is seen);
  }

  before : (k i : ℕ) → k < i → IsVisible marks k (suc i) → IsVisible marks k i
  before k i less v = record { before = λ inside. less; within = λ j low high. v.within j low (omega (arith, high)) }

  none_more : (n : ℕ) → n + 0 ≡ n
  none_more n = omega arith

  one_more : (n : ℕ) → n + 1 ≡ suc n
  one_more n = omega arith

  next_number : (i b : ℕ) (mark : MarkTree) → slice_get marks i ≡ Some mark → binding marks i ≡ b → binding marks (suc i) ≡ b + length (declared_by mark)
  next_number i b mark is number =
      let same : i + 1 ≡ suc i = omega arith in
      let one = subst (λ k. binding marks k ≡ binding marks i + length (declared_by mark)) same (binding_more marks i mark is) in
      omega (arith, one, number)

  quiet_mark : (x : DeclaredTree) (mark : MarkTree) → declared_by mark ≡ [] → Some mark ≡ Some (Declares (Variable x)) → ⊥
  quiet_mark x Opens quiet e = cc
  quiet_mark x Closes quiet e = cc
  quiet_mark x (Uses name) quiet e = cc
  quiet_mark x (Declares d) quiet e = cc

  -- behind a mark that declares nothing, and behind a declaration
  passes : (i b : ℕ) (nests : List Nest) (mark : MarkTree) → slice_get marks i ≡ Some mark → declared_by mark ≡ [] → Seen i b nests → Seen (suc i) b nests
  passes i b nests mark is quiet s = record {
    number = (let number = next_number i b mark is s.number in let none = ap (λ (ds : List DeclarationTree). length ds) quiet in omega (arith, number, none));
    sees = λ k x less here seen. elim (cases_lt k i) [
      | inl low ↦ s.sees k x low here (before k i low seen)
      | inr high ↦ let same : k ≡ i = omega (arith, less, high) in absurd (quiet_mark x mark quiet (sym is ∙ ap (slice_get marks) (sym same) ∙ here))
    ];
  }

  declared : (i b : ℕ) (nests : List Nest) (x : DeclaredTree) → slice_get marks i ≡ Some (Declares (Variable x)) → Binds nests (binding marks i) → Seen i b nests → Seen (suc i) (suc b) nests
  declared i b nests x is open_here s = record {
    number = next_number i b (Declares (Variable x)) is s.number ∙ one_more b;
    sees = λ k y less here seen. elim (cases_lt k i) [
      | inl low ↦ s.sees k y low here (before k i low seen)
      | inr high ↦ let same : k ≡ i = omega (arith, less, high) in subst (λ j. Binds nests (binding marks j)) (sym same) open_here
    ];
  }

  -- behind a scope what it declares is no longer visible
  leaves : (nests : List Nest) (ms : List MarkTree) → Kept marks ms → (i b b' : ℕ) → closed marks i ≤ opened marks i → At marks i (scope ms) → Seen i b nests
      → binding marks (past ms (suc i)) ≡ b' → Seen (past (scope ms) i) b' nests
  leaves nests ms kept i b b' level at s number =
      let e = scope_encloses marks ms kept i at in
      let onward = e.onward in
      let same = e.same in
      record {
        number = subst (λ j. binding marks j ≡ b') (sym (past_both ms (Closes ∷ []) (suc i)))
            (next_number (past ms (suc i)) b' Closes (at_rest marks (suc i) ms (Closes ∷ []) at.1).0 number ∙ none_more b');
        sees = λ k x less is seen. elim (cases_lt k i) [
          | inl low ↦ s.sees k x low is (record { before = λ inside. low; within = λ j up to. seen.within j up (omega (arith, to, onward)) })
          | inr high ↦ absurd (
              let inside = e.deeper k (Variable x) high less is in
              let lower : opened marks k - closed marks k ≤ opened marks (past (scope ms) i) - closed marks (past (scope ms) i) = seen.within (past (scope ms) i) less (omega arith) in
              let z : ⊥ = omega (arith, inside, lower, same, level) in z)
        ];
      }

  -- a scope whose marks are read with other nests
  in_scope : {A : Type 0} (nests inside : List Nest) (ms : List MarkTree) → Kept marks ms → (i b b' : ℕ) → closed marks i ≤ opened marks i → At marks i (scope ms) → Seen i b nests
      → (Seen (suc i) b nests → Seen (suc i) b inside) → (Seen (suc i) b inside → A × Seen (past ms (suc i)) b' inside) → A × Seen (past (scope ms) i) b' nests
  in_scope nests inside ms kept i b b' level at s deepen walk =
      let there = walk (deepen (passes i b nests Opens at.0 refl s)) in
      (there.0, leaves nests ms kept i b b' level at s there.1.number)

  -- ---- names

  pub outer : (at : ℕ) (x : DeclaredTree) → slice_get marks at ≡ Some (Declares (Variable x)) → OfFile (file_privates program.items) (slot T (binding marks at)) ⊎ (closed marks at < opened marks at)
  outer at x is = outer_items (file_privates program.items) told program.items none_taken (omega arith) at x is

  of_file : (nests : List Nest) (home : Home) (first words : ℕ) → IsOfFile (file_privates program.items) home first → IsOpenAt program T nests home first words
  of_file nests h.Global first words is = tt
  of_file nests h.FilePrivate first words is = tt
  of_file nests h.NoWord first words is = tt
  of_file nests h.Private first words is = tt
  of_file nests (h.Group r) first words is = absurd is

  pub file_binds : (nests : List Nest) (number : ℕ) → OfFile (file_privates program.items) (slot T number) → Binds nests number
  file_binds nests number is = of_file nests (slot T number).home (slot T number).index (words_of program T (slice_get (declarations program) number)) is

  no_word : (nests : List Nest) (number : ℕ) → (slot T number).home ≡ h.NoWord → Binds nests number
  no_word nests number is =
      subst (λ (home : Home). IsOpenAt program T nests home (slot T number).index (words_of program T (slice_get (declarations program) number))) (sym is) tt

  header_binds : (nests : List Nest) (number : ℕ) (f : FunctionTree) → slice_get (declarations program) number ≡ Some (Header f) → Binds nests number
  header_binds nests number f is = no_word nests number (header_at program facts valid number f is).0

  predeclared_binds : (nests : List Nest) → Binds nests no_binding
  predeclared_binds nests =
      no_word nests no_binding (ap (λ (s : Slot). s.home) (nth_past no_slot T.slots no_binding (let few = few_slots program facts valid given.fits in omega (arith, few))))

  module _ (nests : List Nest) (i b : ℕ) (s : Seen i b nests) where
    variable_binds : (bytes : List ℕ) (at : ℕ) (x : DeclaredTree) → IsInnermost marks bytes i at → slice_get marks at ≡ Some (Declares (Variable x)) → Binds nests (binding marks at)
    variable_binds bytes at x inner is = elim (cases_lt at i) [
      | inl less ↦ s.sees at x less is inner.visible
      | inr more ↦ elim (outer at x is) [
        | inl file ↦ file_binds nests (binding marks at) file
        | inr inside ↦ absurd (let less = inner.visible.before (omega (arith, inside)) in let z : ⊥ = omega (arith, less, more) in z)
      ]
    ]

    defined_binds : (meant : ℕ) (bytes : List ℕ) (x : MarkTree) → slice_get marks meant ≡ Some x → DefinesHere bytes x → Binds nests (binding marks meant)
    defined_binds meant bytes Opens is here = absurd here
    defined_binds meant bytes Closes is here = absurd here
    defined_binds meant bytes (Uses name) is here = absurd here
    defined_binds meant bytes (Declares (Variable v)) is here = absurd here
    defined_binds meant bytes (Declares (Header g)) is here = header_binds nests (binding marks meant) g (declared_here marks meant (Header g) is)

    meant_binds : (bytes : List ℕ) (number : ℕ) → MeansAt marks bytes i (m.Declared number) → Binds nests number
    meant_binds bytes number (at, Variable x, meant, inner, is, stands, same) =
        subst (Binds nests) (sym (same ∙ ap (binding marks) stands)) (variable_binds bytes at x inner is)
    meant_binds bytes number (at, Header g, meant, inner, is, inl defined, same) =
        let x = at_some (DefinesHere bytes) marks meant defined.body in
        subst (Binds nests) (sym same) (defined_binds meant bytes x.0 x.1 x.2)
    meant_binds bytes number (at, Header g, meant, inner, is, inr alone, same) =
        subst (Binds nests) (sym (same ∙ ap (binding marks) alone.0)) (header_binds nests (binding marks at) g (declared_here marks at (Header g) is))

    use_binds : (name : Named) (meaning : Meaning) → MeansAt marks name.bytes i meaning → IsKnown program facts valid name meaning → Binds nests (note T name.at).binding
    use_binds name (m.Declared number) means known = subst (Binds nests) (sym known.binds) (meant_binds name.bytes number means)
    use_binds name m.Predeclared means known = subst (Binds nests) (sym known.binds) (predeclared_binds nests)
    use_binds name m.Undeclared means known = absurd known.binds

    used : (name : Named) → slice_get marks i ≡ Some (Uses name) → Refers (Uses name) → Binds nests (note T name.at).binding
    used name is refers = let found' = meant_at program facts valid name i is refers in use_binds name found'.0 found'.1 found'.2

  -- the marks of expressions
  names : (nests : List Nest) (ms : List MarkTree) → declared_in ms ≡ [] → (i b : ℕ) → At marks i ms → Each Refers ms → Seen i b nests → Open nests ms × Seen (past ms i) b nests
  names nests [] quiet i b at refers s = (tt, s)
  names nests (Uses name ∷ ms) quiet i b at refers s =
      let rest = names nests ms quiet (suc i) b at.1 refers.1 (passes i b nests (Uses name) at.0 refl s) in
      ((used nests i b s name at.0 refers.0, rest.0), rest.1)
  names nests (Opens ∷ ms) quiet i b at refers s = let rest = names nests ms quiet (suc i) b at.1 refers.1 (passes i b nests Opens at.0 refl s) in ((tt, rest.0), rest.1)
  names nests (Closes ∷ ms) quiet i b at refers s = let rest = names nests ms quiet (suc i) b at.1 refers.1 (passes i b nests Closes at.0 refl s) in ((tt, rest.0), rest.1)
  names nests (Declares d ∷ ms) quiet i b at refers s = absurd (cc)

  of_tree : (nests : List Nest) (x : Tree) (i b : ℕ) → At marks i (tree_marks x) → Each Refers (tree_marks x) → Seen i b nests → Open nests (tree_marks x) × Seen (past (tree_marks x) i) b nests
  of_tree nests x i b at refers s = names nests (tree_marks x) (optional_refers (Some x)).quiet i b at refers s

  of_option : (nests : List Nest) (x : Option Tree) (i b : ℕ) → At marks i (optional_marks x) → Each Refers (optional_marks x) → Seen i b nests
      → Open nests (optional_marks x) × Seen (past (optional_marks x) i) b nests
  of_option nests x i b at refers s = names nests (optional_marks x) (optional_refers x).quiet i b at refers s

  -- ---- declarations

  -- a region, if it has words, is open
  pub record InFrame (frame total level : ℕ) (nests : List Nest) : Type 0 where
    pub has : 1 ≤ total → (r : Region) × (slice_get T.regions frame ≡ Some r) × (r.level ≡ level) × (r.words ≡ min total (last_word + 1)) × (n.frame_at nests level ≡ Some r.words)

  opens : (frame total level : ℕ) (nests : List Nest) → InFrame frame total level nests → (words size : ℕ) → 1 ≤ size → more words size ≤ total
      → IsOpen nests (region T frame) (min words last_word) size
  opens frame total level nests in_frame words size some few =
      let here = in_frame.has (omega (arith, some, few)) in
      let wide = here.3 in
      subst (λ (r : Region). IsOpen nests r (min words last_word) size) (sym (nth_at no_region T.regions frame here.0 here.1))
      (record {
        frame = ap (n.frame_at nests) here.2 ∙ here.4;
        begins = omega (arith, wide, some, few);
        ends = λ low. omega (arith, wide, some, few, low);
      })

  slot_is : (frame : ℕ) (taken : _) (x : DeclaredTree) → let here = slot_in frame taken x in
      (x.shared ≡ true → here ≡ record { home = h.Group frame; index = min taken.words last_word }) × (x.shared ≡ false → here ≡ record { home = h.Private; index = taken.privates })
  unfolding slot_in
  slot_is frame taken x = by x.shared (record { home = h.Group frame; index = min taken.words last_word }) (record { home = h.Private; index = taken.privates })
    where
      by : (b : Bool) (one other : Slot) → (b ≡ true → (if b then one else other) ≡ one) × (b ≡ false → (if b then one else other) ≡ other)
      by true one other = ((λ e. refl), (λ e. absurd (false≢true (sym e))))
      by false one other = ((λ e. absurd (false≢true e)), (λ e. refl))

  abbrev IsHomed : DeclaredTree → (number : ℕ) → Type 0
  IsHomed x number = x.shared ≡ true → is_in_group (slot T number).home ≡ true

  group_binds : (nests : List Nest) (number frame index : ℕ) (x : DeclaredTree) → slice_get (declarations program) number ≡ Some (Variable x)
      → slot T number ≡ record { home = h.Group frame; index = index } → IsOpen nests (region T frame) index (words_at told x.name.at) → Binds nests number × IsHomed x number
  group_binds nests number frame index x is same o = (
    subst (λ (s : Slot). IsOpenAt program T nests s.home s.index (words_of program T (slice_get (declarations program) number))) (sym same)
        (subst (λ (d : Option DeclarationTree). IsOpen nests (region T frame) index (words_of program T d)) (sym is) o),
    λ e. ap (λ (s : Slot). is_in_group s.home) same,
  )

  private_binds : (nests : List Nest) (number index : ℕ) (x : DeclaredTree) → slot T number ≡ record { home = h.Private; index = index } → x.shared ≡ false → Binds nests number × IsHomed x number
  private_binds nests number index x same private = (
    subst (λ (s : Slot). IsOpenAt program T nests s.home s.index (words_of program T (slice_get (declarations program) number))) (sym same) tt,
    λ e. absurd (false≢true (sym private ∙ e)),
  )

  one_declared : (frame total level : ℕ) (taken : _) (nests : List Nest) (x : DeclaredTree) (i b : ℕ) → let here = slot_in frame taken x in
      slice_get marks i ≡ Some (Declares (Variable x)) → binding marks i ≡ b → slice_get T.slots b ≡ Some here
      → (x.shared ≡ true → InFrame frame total level nests × (declared_words told taken.words x ≤ total)) → Binds nests (binding marks i) × IsHomed x (binding marks i)
  one_declared frame total level taken nests x i b is number there in_frame = by x.shared refl
    where
      known : slice_get (declarations program) (binding marks i) ≡ Some (Variable x)
      known = declared_here marks i (Variable x) is

      same : slot T (binding marks i) ≡ slot_in frame taken x
      same = ap (nth no_slot T.slots) number ∙ nth_at no_slot T.slots b (slot_in frame taken x) there

      by : (shared : Bool) → x.shared ≡ shared → Binds nests (binding marks i) × IsHomed x (binding marks i)
      by true e =
          let f = in_frame e in
          let size = words_at told x.name.at in
          let wide : declared_words told taken.words x ≡ more taken.words size = ap (λ (c : Bool). if c then more taken.words size else taken.words) e in
          group_binds nests (binding marks i) frame (min taken.words last_word) x known (same ∙ (slot_is frame taken x).0 e)
          (opens frame total level nests f.0 taken.words size (has_words (binding marks i) x known) (let few = f.1 in omega (arith, few, wide)))
      by false e = private_binds nests (binding marks i) taken.privates x (same ∙ (slot_is frame taken x).1 e) e

  -- the number in the note of a declared name
  noted : (i : ℕ) (x : DeclaredTree) → slice_get marks i ≡ Some (Declares (Variable x)) → (note T x.name.at).binding ≡ binding marks i
  noted i x is =
      let number = declared_here marks i (Variable x) is in
      let low = declared_below program valid.well_formed (Variable x) (among (declarations program) (binding marks i) (Variable x) number) in
      binding_is program facts valid x.name.at (binding marks i) low (declares (Variable x) i i is refl refl)

  open_declared : (nests : List Nest) (i : ℕ) (x : DeclaredTree) → slice_get marks i ≡ Some (Declares (Variable x)) → Binds nests (binding marks i) × IsHomed x (binding marks i)
      → IsOpenFor program T nests (Declares (Variable x))
  open_declared nests i x is o = subst (λ number. Binds nests number × IsHomed x number) (sym (noted i x is)) o

  -- behind the marks of one, and behind those of others after them
  both_marks : (nests : List Nest) (x : DeclaredTree) (ms ns : List MarkTree) (i b : ℕ) → IsOpenFor program T nests (Declares (Variable x)) → Open nests ms → Open nests ns
      → Seen (past ns (past ms (suc i))) b nests → Open nests ((Declares (Variable x) ∷ ms) ++ ns) × Seen (past ((Declares (Variable x) ∷ ms) ++ ns) i) b nests
  both_marks nests x ms ns i b o h k s = ((o, open_both nests ms ns h k), subst (λ j. Seen j b nests) (sym (past_both ms ns (suc i))) s)

  -- what is known of variables of a group
  abbrev pub InWords : (frame total level words after : ℕ) → List Nest → Type 0
  InWords frame total level words after nests = InFrame frame total level nests × (after ≤ total) × (words ≤ most)

  first_in : (frame total level words : ℕ) (nests : List Nest) (x : DeclaredTree) (xs : List DeclaredTree) → InWords frame total level words (variables_words told words (x ∷ xs)) nests
      → InFrame frame total level nests × (declared_words told words x ≤ total)
  first_in frame total level words nests x xs k =
      let one = variables_grow told words k.2 (x ∷ []) in
      let rest = variables_grow told (declared_words told words x) one.1 xs in
      let few = k.1 in
      (k.0, omega (arith, rest.0, few))

  rest_in : (frame total level words words' : ℕ) (nests : List Nest) (x : DeclaredTree) (xs : List DeclaredTree) → words' ≡ declared_words told words x
      → InWords frame total level words (variables_words told words (x ∷ xs)) nests → InWords frame total level words' (variables_words told words' xs) nests
  rest_in frame total level words words' nests x xs same k =
      let one = variables_grow told words k.2 (x ∷ []) in
      subst (λ w. InWords frame total level w (variables_words told w xs) nests) (sym same) (k.0, k.1, one.1)

  variables : (who : Who) (frame total level : ℕ) (taken : _) (nests : List Nest) (xs : List DeclaredTree) (i b : ℕ) → let slots = variables_slots told frame taken xs in
      OfGroupAlone T who xs → (is_group who ≡ true → InWords frame total level taken.words (variables_words told taken.words xs) nests)
      → Each Refers (variables_marks xs) → At marks i (variables_marks xs) → At T.slots b slots → Seen i b nests
      → Open nests (variables_marks xs) × Seen (past (variables_marks xs) i) (past slots b) nests
  variables who frame total level taken nests [] i b alone k refers at slots s = (tt, s)
  variables who frame total level taken nests (x ∷ xs) i b alone k refers at slots s =
      let opt = optional_marks x.first in
      let vs = variables_marks xs in
      let here = one_declared frame total level taken nests x i b at.0 s.number slots.0 (λ e. first_in frame total level taken.words nests x xs (k (alone.0 e))) in
      let first = of_option nests x.first (suc i) (suc b) (at_front marks (suc i) opt vs at.1) (front_of Refers opt vs refers.1) (declared i b nests x at.0 here.0 s) in
      let rest = variables who frame total level (behind_variable told taken x) nests xs (past opt (suc i)) (suc b) alone.1
      (λ e. rest_in frame total level taken.words _ nests x xs (variable_words told taken x).0 (k e))
      (rest_of Refers opt vs refers.1) (at_rest marks (suc i) opt vs at.1) slots.1 first.1 in
      both_marks nests x opt vs i _ (open_declared nests i x at.0 here) first.0 rest.0 rest.1

  pub parameters : (who : Who) (frame total level : ℕ) (taken : _) (nests : List Nest) (xs : List DeclaredTree) (i b : ℕ) → let slots = parameters_slots told frame taken xs in
      OfGroupAlone T who xs → (is_group who ≡ true → InWords frame total level taken.words (variables_words told taken.words xs) nests)
      → Each Refers (variables_marks xs) → At marks i (variables_marks xs) → At T.slots b slots → Seen i b nests
      → Open nests (variables_marks xs) × Seen (past (variables_marks xs) i) (past slots b) nests
  parameters who frame total level taken nests [] i b alone k refers at slots s = (tt, s)
  parameters who frame total level taken nests (x ∷ xs) i b alone k refers at slots s =
      let opt = optional_marks x.first in
      let vs = variables_marks xs in
      let here = one_declared frame total level taken nests x i b at.0 s.number slots.0 (λ e. first_in frame total level taken.words nests x xs (k (alone.0 e))) in
      let first = of_option nests x.first (suc i) (suc b) (at_front marks (suc i) opt vs at.1) (front_of Refers opt vs refers.1) (declared i b nests x at.0 here.0 s) in
      let rest = parameters who frame total level (behind_parameter told taken x) nests xs (past opt (suc i)) (suc b) alone.1
      (λ e. rest_in frame total level taken.words _ nests x xs (parameter_words told taken x).0 (k e))
      (rest_of Refers opt vs refers.1) (at_rest marks (suc i) opt vs at.1) slots.1 first.1 in
      both_marks nests x opt vs i _ (open_declared nests i x at.0 here) first.0 rest.0 rest.1

  -- ---- parts

  part_frame : (numbered : Bool) (at part level frame : ℕ) (nests : List Nest) (body : Statement) → nesting nests ≡ level → level ≤ 1048576
      → At T.regions frame (body_frame told at part (deeper level) body) → InFrame frame (statement_words told 0 body) (deeper level) (in_part program T numbered at part nests)
  part_frame numbered at part level frame nests body nested deep there = record { has = λ some. by (statement_words told 0 body == 0) refl there some }
    where
      r : Region
      r = record { at = at; part = part; level = deeper level; words = min (statement_words told 0 body) (last_word + 1) }

      level_is : (deeper level == suc (nesting nests)) ≡ true
      level_is = eq-eqb (deeper level) (suc (nesting nests)) (omega (arith, nested, deep))

      by : (b : Bool) → (statement_words told 0 body == 0) ≡ b → At T.regions frame (if b then [] else r ∷ []) → 1 ≤ statement_words told 0 body
          → (s : Region) × (slice_get T.regions frame ≡ Some s) × (s.level ≡ deeper level) × (s.words ≡ min (statement_words told 0 body) (last_word + 1))
          × (n.frame_at (in_part program T numbered at part nests) (deeper level) ≡ Some s.words)
      by true zero' there' some = absurd (omega (arith, some, eqb-true (statement_words told 0 body) 0 zero'))
      by false some' there' some = (
        r,
        there'.0,
        refl,
        refl,
        taken_first (deeper level == suc (nesting nests)) (frame_words (t.frame_at T at part)) (n.frame_at nests (deeper level)) level_is
            ∙ ap frame_words (found T T.regions order frame r there'.0),
      )

  -- the frames that begin in a statement are those from a number on, and there are not too many levels
  pub record Laid (level r : ℕ) (nests : List Nest) (frames nodes : ℕ) (rs : List Region) : Type 0 where
    pub nested : nesting nests ≡ level
    pub deep : level + nodes ≤ 1048576
    pub same : frames ≡ r
    pub regions : At T.regions r rs
    pub few : r + length rs ≤ most

  -- what is known where a statement stands, before which so many words and frames are taken
  pub record Known (who : Who) (frame total level r : ℕ) (nests : List Nest) (words frames after nodes : ℕ) (rs : List Region) : Type 0 where
    pub group : is_group who ≡ true → InWords frame total level words after nests
    pub laid : IsLevelled who → Laid level r nests frames nodes rs

  first_laid : (level r : ℕ) (nests : List Nest) (frames nodes nodes' : ℕ) (rs qs : List Region) → nodes' ≤ nodes → Laid level r nests frames nodes (rs ++ qs) → Laid level r nests frames nodes' rs
  first_laid level r nests frames nodes nodes' rs qs fewer l =
      let deep = l.deep in
      let few = l.few in
      record {
        nested = l.nested;
        deep = omega (arith, deep, fewer);
        same = l.same;
        regions = at_front T.regions r rs qs l.regions;
        few = omega (arith, few, length-append rs qs);
      }

  rest_laid : (level r : ℕ) (nests : List Nest) (frames frames' nodes nodes' : ℕ) (rs qs : List Region) → nodes' ≤ nodes → (frames + length rs ≤ most → frames' ≡ frames + length rs)
      → Laid level r nests frames nodes (rs ++ qs) → Laid level (past rs r) nests frames' nodes' qs
  rest_laid level r nests frames frames' nodes nodes' rs qs fewer counted l =
      let deep = l.deep in
      let few = l.few in
      let same = l.same in
      let long = length-append rs qs in
      let sum = past_sum rs r in
      let now = counted (omega (arith, few, same, long)) in
      record {
        nested = l.nested;
        deep = omega (arith, deep, fewer);
        same = omega (arith, now, same, sum);
        regions = at_rest T.regions r rs qs l.regions;
        few = omega (arith, few, sum, long);
      }

  fewer_laid : (level r : ℕ) (nests : List Nest) (frames nodes nodes' : ℕ) (rs : List Region) → nodes' ≤ nodes → Laid level r nests frames nodes rs → Laid level r nests frames nodes' rs
  fewer_laid level r nests frames nodes nodes' rs fewer l =
      let deep = l.deep in record { nested = l.nested; deep = omega (arith, deep, fewer); same = l.same; regions = l.regions; few = l.few }

  -- of the first of two that follow each other, and of the second
  first_known : (who : Who) (frame total level r : ℕ) (nests : List Nest) (words frames after after' nodes nodes' : ℕ) (rs qs : List Region) → nodes' ≤ nodes → (words ≤ most → after' ≤ after)
      → Known who frame total level r nests words frames after nodes (rs ++ qs) → Known who frame total level r nests words frames after' nodes' rs
  first_known who frame total level r nests words frames after after' nodes nodes' rs qs fewer grows k = record {
    group = λ e. let g = k.group e in let less = grows g.2 in let few = g.1 in (g.0, omega (arith, less, few), g.2);
    laid = λ l. first_laid level r nests frames nodes nodes' rs qs fewer (k.laid l);
  }

  rest_known : (who : Who) (frame total level r : ℕ) (nests : List Nest) (words words' frames frames' after after' nodes nodes' : ℕ) (rs qs : List Region) → nodes' ≤ nodes → (words ≤ most → words' ≤ most)
      → after' ≡ after → (frames + length rs ≤ most → frames' ≡ frames + length rs)
      → Known who frame total level r nests words frames after nodes (rs ++ qs) → Known who frame total level (past rs r) nests words' frames' after' nodes' qs
  rest_known who frame total level r nests words words' frames frames' after after' nodes nodes' rs qs fewer low same counted k = record {
    group = λ e. let g = k.group e in let few = g.1 in (g.0, omega (arith, few, same), low g.2);
    laid = λ l. rest_laid level r nests frames frames' nodes nodes' rs qs fewer counted (k.laid l);
  }

  -- of a body that is no part
  arm_known : (who : Who) (frame total level r : ℕ) (nests : List Nest) (words frames after nodes nodes' : ℕ) (rs : List Region) → nodes' ≤ nodes
      → Known who frame total level r nests words frames after nodes rs → Known (inner who) frame total level r nests words frames after nodes' rs
  arm_known who frame total level r nests words frames after nodes nodes' rs fewer k = record {
    group = λ e. k.group (sym (inner_group who) ∙ e);
    laid = λ l. fewer_laid level r nests frames nodes nodes' rs fewer (k.laid (inl (inner_levelled who l)));
  }

  -- of a body that is a part, with the number of its frame, and of the first one inside it
  part_known : (numbered : Bool) (at part level number r words frames nodes : ℕ) (nests : List Nest) (body : Statement) → nesting nests ≡ level → level + suc nodes ≤ 1048576
      → At T.regions number (body_frame told at part (deeper level) body) → words ≡ 0 → frames ≡ r → At T.regions r (frames_in told (deeper level) body)
      → r + length (frames_in told (deeper level) body) ≤ most
      → Known OfGroup number (statement_words told 0 body) (deeper level) r (in_part program T numbered at part nests) words frames (statement_words told words body) nodes (frames_in told (deeper level) body)
  part_known numbered at part level number r words frames nodes nests body nested deep there zero' same inside few = record {
    group = λ e. (
      part_frame numbered at part level number nests body nested (omega (arith, deep)) there,
      subst (λ w. statement_words told w body ≤ statement_words told 0 body) (sym zero') (omega arith),
      omega (arith, zero'),
    );
    laid = λ l. record {
      nested = (let up : suc (nesting nests) ≡ deeper level = omega (arith, nested, deep) in up);
      deep = omega (arith, deep);
      same = same;
      regions = inside;
      few = few;
    };
  }

  group_placed : (who : Who) (x : Statement) → is_group who ≡ true → Placed T (inner who) x → Placed T OfGroup x
  group_placed OfGroup x e h = h
  group_placed OfBody x e h = absurd (false≢true e)
  group_placed (OfMain outermost) x e h = absurd (false≢true e)

  -- ---- marks of scopes

  pub kept_level : (ms : List MarkTree) → Kept marks ms → (i : ℕ) → At marks i ms → closed marks i ≤ opened marks i → closed marks (past ms i) ≤ opened marks (past ms i)
  kept_level ms kept i at level = let k = kept i at in let same = k.same in omega (arith, same, level)

  inner_level : (i : ℕ) → slice_get marks i ≡ Some Opens → closed marks i ≤ opened marks i → closed marks (suc i) ≤ opened marks (suc i)
  inner_level i is level =
      let o : opened marks (suc i) ≡ opened marks i + 1 = counted marks is_opening i Opens is in
      let c : closed marks (suc i) ≡ closed marks i + 0 = counted marks is_closing i Opens is in
      omega (arith, o, c, level)

  scope_kept : (x : Statement) → Kept marks (scope (statement_marks x))
  scope_kept x i at = let e = scope_encloses marks (statement_marks x) (statement_kept marks x) i at in
      record { onward = e.onward; same = e.same; deep = λ k d low high is. let less = e.deeper k d low high is in omega (arith, less) }

  scoped : (ms : List MarkTree) → Each Refers (scope ms) → Each Refers ms
  scoped ms refers = front_of Refers ms (Closes ∷ []) refers.1

  -- what is shown of a statement with these nests, whose slots are these
  abbrev Shown : List Nest → Statement → (i b : ℕ) → List Slot → Type 0
  Shown nests x i b slots = StatementIsOpen program T nests x × Seen (past (statement_marks x) i) (past slots b) nests

  -- what is shown of a body in its own scope, where the nests inside it are others
  abbrev ShownBody : (nests inside : List Nest) → Statement → (i b : ℕ) → List Slot → Type 0
  ShownBody nests inside x i b slots = StatementIsOpen program T inside x × Seen (past (scope (statement_marks x)) i) (past slots b) nests

  -- how a statement is gone through, from the mark behind the beginning of its scope on
  abbrev Walks : List Nest → Statement → (i b : ℕ) → List Slot → Type 0
  Walks nests x i b slots = Each Refers (statement_marks x) → closed marks (suc i) ≤ opened marks (suc i) → At marks (suc i) (statement_marks x) → At T.slots b slots → Seen (suc i) b nests
      → Shown nests x (suc i) b slots

  same_scope : (nests : List Nest) (body : Statement) (i b : ℕ) (slots : List Slot) → Walks nests body i b slots
      → Each Refers (scope (statement_marks body)) → closed marks i ≤ opened marks i → At marks i (scope (statement_marks body)) → At T.slots b slots → Seen i b nests
      → ShownBody nests nests body i b slots
  same_scope nests body i b slots walk refers level at there s =
      let ms = statement_marks body in
      in_scope nests nests ms (statement_kept marks body) i b (past slots b) level at s (λ s'. s')
      (walk (scoped ms refers) (inner_level i at.0 level) (at_front marks (suc i) ms (Closes ∷ []) at.1) there)

  part_scope : (numbered : Bool) (token part : ℕ) (nests : List Nest) (body : Statement) (i b : ℕ) (slots : List Slot) → Walks (in_part program T numbered token part nests) body i b slots
      → Each Refers (scope (statement_marks body)) → closed marks i ≤ opened marks i → At marks i (scope (statement_marks body)) → At T.slots b slots → Seen i b nests
      → ShownBody nests (in_part program T numbered token part nests) body i b slots
  part_scope numbered token part nests body i b slots walk refers level at there s =
      let ms = statement_marks body in
      in_scope nests (in_part program T numbered token part nests) ms (statement_kept marks body) i b (past slots b) level at s (in_deeper (suc i) b nests numbered (frame_words (t.frame_at T token part)))
      (walk (scoped ms refers) (inner_level i at.0 level) (at_front marks (suc i) ms (Closes ∷ []) at.1) there)

  by_split : (A : Bool → Type 0) (splits : Bool) → (splits ≡ true → A true) → (splits ≡ false → A false) → A splits
  by_split A true f g = f refl
  by_split A false f g = g refl

  -- a body that is always a part
  part_body : (numbered : Bool) (at level r nodes : ℕ) (taken : _) (nests : List Nest) (body : Statement) (i b : ℕ) → let start = begun told taken body in
      let slots = slots_in told taken.frames (begun told taken body) body in
      Laid level r nests taken.frames nodes (body_frame told at 0 (deeper level) body ++ frames_in told (deeper level) body) → suc (count (statement_indices body)) ≤ nodes
      → (Known OfGroup taken.frames (statement_words told 0 body) (deeper level) (past (body_frame told at 0 (deeper level) body) r) (in_part program T numbered at 0 nests) start.words start.frames
      (statement_words told start.words body) (count (statement_indices body)) (frames_in told (deeper level) body) → Walks (in_part program T numbered at 0 nests) body i b slots)
      → Each Refers (scope (statement_marks body)) → closed marks i ≤ opened marks i → At marks i (scope (statement_marks body)) → At T.slots b slots → Seen i b nests
      → ShownBody nests (in_part program T numbered at 0 nests) body i b slots
  part_body numbered at level r nodes taken nests body i b l fewer walk =
      let bf = body_frame told at 0 (deeper level) body in
      let fs = frames_in told (deeper level) body in
      let nested = l.nested in
      let deep = l.deep in
      let same = l.same in
      let few = l.few in
      let long = length-append bf fs in
      let sum = past_sum bf r in
      let begins = within_is (behind_body_frame told taken body) in
      let counts = body_frame_counts told at 0 (deeper level) taken body (omega (arith, few, same, long)) in
      part_scope numbered at 0 nests body i b (slots_in told taken.frames (begun told taken body) body)
      (walk (part_known numbered at 0 level taken.frames (past bf r) (begun told taken body).words (begun told taken body).frames (count (statement_indices body)) nests body nested (omega (arith, deep, fewer))
      (subst (λ (f : ℕ). At T.regions f bf) (sym same) (at_front T.regions r bf fs l.regions)) begins.0 (omega (arith, begins.1, counts, same, sum))
      (at_rest T.regions r bf fs l.regions) (omega (arith, few, long, sum))))

  -- a body that is a part where the group splits
  one_body : (who : Who) (frame total level r nodes : ℕ) (taken : _) (nests : List Nest) (body : Statement) (at i b : ℕ) → let start = begun told taken body in
      let parted = slots_in told taken.frames (begun told taken body) body in let own = slots_in told frame taken body in
      ((note T at).splits ≡ true → is_group who ≡ true)
      → Known who frame total level r nests taken.words taken.frames (if splits_at told at then taken.words else statement_words told taken.words body) nodes
      (if splits_at told at then body_frame told at 0 (deeper level) body ++ frames_in told (deeper level) body else frames_in told level body)
      → suc (count (statement_indices body)) ≤ nodes
      → (is_group who ≡ true → Known OfGroup taken.frames (statement_words told 0 body) (deeper level) (past (body_frame told at 0 (deeper level) body) r) (in_part program T false at 0 nests) start.words start.frames
      (statement_words told start.words body) (count (statement_indices body)) (frames_in told (deeper level) body) → Walks (in_part program T false at 0 nests) body i b parted)
      → (Known (inner who) frame total level r nests taken.words taken.frames (statement_words told taken.words body) (count (statement_indices body)) (frames_in told level body) → Walks nests body i b own)
      → Each Refers (scope (statement_marks body)) → closed marks i ≤ opened marks i → At marks i (scope (statement_marks body)) → At T.slots b (if splits_at told at then parted else own) → Seen i b nests
      → ShownBody nests (in_split program T at 0 nests) body i b (if splits_at told at then parted else own)
  one_body who frame total level r nodes taken nests body at i b alone k fewer part same refers level_at marks_at there s =
      let parted = slots_in told taken.frames (begun told taken body) body in
      let own = slots_in told frame taken body in
      let rs = body_frame told at 0 (deeper level) body ++ frames_in told (deeper level) body in
      let splits = splits_at told at in
      by_split (λ c. ShownBody nests (if c then in_part program T false at 0 nests else nests) body i b (if c then parted else own)) splits
      (λ e.
      let k' = subst (λ c. Known who frame total level r nests taken.words taken.frames (if c then taken.words else statement_words told taken.words body) nodes (if c then rs else frames_in told level body)) e k in
      part_body false at level r nodes taken nests body i b (k'.laid (inl (alone e))) fewer (part (alone e)) refers level_at marks_at (subst (λ c. At T.slots b (if c then parted else own)) e there) s)
      (λ e.
      let k' = subst (λ c. Known who frame total level r nests taken.words taken.frames (if c then taken.words else statement_words told taken.words body) nodes (if c then rs else frames_in told level body)) e k in
      same_scope nests body i b own (same (arm_known who frame total level r nests taken.words taken.frames (statement_words told taken.words body) nodes (count (statement_indices body)) (frames_in told level body) (omega (arith, fewer)) k'))
      refers level_at marks_at (subst (λ c. At T.slots b (if c then parted else own)) e there) s)

  -- ---- two bodies

  both_past : (nests : List Nest) (ms ns : List MarkTree) (ss ts : List Slot) (i b : ℕ) → Seen (past ns (past ms i)) (past ts (past ss b)) nests → Seen (past (ms ++ ns) i) (past (ss ++ ts) b) nests
  both_past nests ms ns ss ts i b s =
      subst (λ j. Seen j (past (ss ++ ts) b) nests) (sym (past_both ms ns i)) (subst (λ c. Seen (past ns (past ms i)) c nests) (sym (past_both ss ts b)) s)

  -- what is known behind the first of two that follow each other, where `g` gives the words behind the second
  second_known : (who : Who) (frame total level r : ℕ) (nests : List Nest) (taken : _) (first : Statement) (g : ℕ → ℕ) (nodes nodes' : ℕ) (qs : List Region) → let next = behind told taken first in
      nodes' ≤ nodes → Known who frame total level r nests taken.words taken.frames (g (statement_words told taken.words first)) nodes (frames_in told level first ++ qs)
      → Known who frame total level (past (frames_in told level first) r) nests next.words next.frames (g next.words) nodes' qs
  second_known who frame total level r nests taken first g nodes nodes' qs fewer k =
      let c = statement_counts told level taken first in
      rest_known who frame total level r nests taken.words (behind told taken first).words taken.frames (behind told taken first).frames (g (statement_words told taken.words first)) (g (behind told taken first).words) nodes nodes' (frames_in told level first) qs fewer
      (λ low. subst (λ w. w ≤ most) (sym c.0) (words_grow told taken.words low first).1) (ap g c.0) c.1 k

  -- what is shown of two bodies, in scopes that follow each other
  abbrev ShownBoth : (nests one two : List Nest) → (first second : Statement) → (i b : ℕ) → List Slot → Type 0
  ShownBoth nests one two first second i b slots =
      (StatementIsOpen program T one first × StatementIsOpen program T two second) × Seen (past (scope (statement_marks second)) (past (scope (statement_marks first)) i)) (past slots b) nests

  then_second : (nests one two : List Nest) (first second : Statement) (i b : ℕ) (ss ts : List Slot) → ShownBody nests one first i b ss
      → (Seen (past (scope (statement_marks first)) i) (past ss b) nests → ShownBody nests two second (past (scope (statement_marks first)) i) (past ss b) ts)
      → ShownBoth nests one two first second i b (ss ++ ts)
  then_second nests one two first second i b ss ts a next =
      let c = next a.1 in
      ((a.0, c.0), subst (λ d. Seen (past (scope (statement_marks second)) (past (scope (statement_marks first)) i)) d nests) (sym (past_both ss ts b)) c.1)

  two_parts : (at level r nodes : ℕ) (taken : _) (nests : List Nest) (first second : Statement) (i b : ℕ) → let start = begun_two told taken first second in
      let later = within (behind told (begun_two told taken first second) first) in let other = behind_body_frame told taken first in
      let a0 = body_frame told at 0 (deeper level) first in let b0 = body_frame told at 1 (deeper level) second in
      let a = frames_in told (deeper level) first in let c = frames_in told (deeper level) second in
      let ss = slots_in told taken.frames (begun_two told taken first second) first in
      let ts = slots_in told (behind_body_frame told taken first).frames (within (behind told (begun_two told taken first second) first)) second in
      Laid level r nests taken.frames nodes (a0 ++ b0 ++ a ++ c) → suc (count (statement_indices first) + count (statement_indices second)) ≤ nodes
      → (Known OfGroup taken.frames (statement_words told 0 first) (deeper level) (past b0 (past a0 r)) (in_part program T false at 0 nests) start.words start.frames
      (statement_words told start.words first) (count (statement_indices first)) a → Walks (in_part program T false at 0 nests) first i b ss)
      → (Known OfGroup other.frames (statement_words told 0 second) (deeper level) (past a (past b0 (past a0 r))) (in_part program T false at 1 nests) later.words later.frames
      (statement_words told later.words second) (count (statement_indices second)) c → Walks (in_part program T false at 1 nests) second (past (scope (statement_marks first)) i) (past ss b) ts)
      → Each Refers (scope (statement_marks first)) → Each Refers (scope (statement_marks second)) → closed marks i ≤ opened marks i
      → At marks i (scope (statement_marks first)) → At marks (past (scope (statement_marks first)) i) (scope (statement_marks second)) → At T.slots b (ss ++ ts) → Seen i b nests
      → ShownBoth nests (in_part program T false at 0 nests) (in_part program T false at 1 nests) first second i b (ss ++ ts)
  two_parts at level r nodes taken nests first second i b l fewer walk_first walk_second refers_first refers_second level_at at_first at_second there s =
      let a0 = body_frame told at 0 (deeper level) first in
      let b0 = body_frame told at 1 (deeper level) second in
      let a = frames_in told (deeper level) first in
      let c = frames_in told (deeper level) second in
      let ss = slots_in told taken.frames (begun_two told taken first second) first in
      let ts = slots_in told (behind_body_frame told taken first).frames (within (behind told (begun_two told taken first second) first)) second in
      let nested = l.nested in
      let deep = l.deep in
      let same = l.same in
      let few = l.few in
      let l1 = length-append (a0 ++ b0 ++ a) c in
      let l2 = length-append (a0 ++ b0) a in
      let l3 = length-append a0 b0 in
      let p1 = past_sum a0 r in
      let p2 = past_sum b0 (past a0 r) in
      let p3 = past_sum a (past b0 (past a0 r)) in
      let inner_both = at_front T.regions r (a0 ++ b0 ++ a) c l.regions in
      let heads = at_front T.regions r (a0 ++ b0) a inner_both in
      let f1 = body_frame_counts told at 0 (deeper level) taken first (omega (arith, few, same, l1, l2, l3)) in
      let f2 = body_frame_counts told at 1 (deeper level) (behind_body_frame told taken first) second (omega (arith, few, same, l1, l2, l3, f1)) in
      let w1 = within_is (behind_body_frame told (behind_body_frame told taken first) second) in
      let inside = (statement_counts told (deeper level) (begun_two told taken first second) first).1 (omega (arith, few, same, l1, l2, l3, f1, f2, w1.1)) in
      let w2 = within_is (behind told (begun_two told taken first second) first) in
      let at_a : At T.regions (past b0 (past a0 r)) a = subst (λ j. At T.regions j a) (past_both a0 b0 r) (at_rest T.regions r (a0 ++ b0) a inner_both) in
      let at_c : At T.regions (past a (past b0 (past a0 r))) c =
      subst (λ j. At T.regions j c) (past_both (a0 ++ b0) a r ∙ ap (past a) (past_both a0 b0 r)) (at_rest T.regions r (a0 ++ b0 ++ a) c l.regions) in
      then_second nests (in_part program T false at 0 nests) (in_part program T false at 1 nests) first second i b ss ts
      (part_scope false at 0 nests first i b ss
      (walk_first (part_known false at 0 level taken.frames (past b0 (past a0 r)) (begun_two told taken first second).words (begun_two told taken first second).frames (count (statement_indices first)) nests first nested (omega (arith, deep, fewer))
      (subst (λ (f : ℕ). At T.regions f a0) (sym same) (at_front T.regions r a0 b0 heads)) w1.0 (omega (arith, w1.1, f1, f2, same, p1, p2)) at_a (omega (arith, few, l1, l2, l3, p1, p2))))
      refers_first level_at at_first (at_front T.slots b ss ts there) s)
      (λ s'. part_scope false at 1 nests second (past (scope (statement_marks first)) i) (past ss b) ts
      (walk_second (part_known false at 1 level (behind_body_frame told taken first).frames (past a (past b0 (past a0 r))) (within (behind told (begun_two told taken first second) first)).words
      (within (behind told (begun_two told taken first second) first)).frames (count (statement_indices second)) nests second nested (omega (arith, deep, fewer))
      (subst (λ (f : ℕ). At T.regions f b0) (omega (arith, f1, same, p1)) (at_rest T.regions r a0 b0 heads)) w2.0 (omega (arith, w2.1, inside, w1.1, f1, f2, same, p1, p2, p3)) at_c (omega (arith, few, l1, l2, l3, p1, p2, p3))))
      refers_second (kept_level (scope (statement_marks first)) (scope_kept first) i at_first level_at) at_second (at_rest T.slots b ss ts there) s')

  two_arms : (who : Who) (frame total level r nodes : ℕ) (taken : _) (nests : List Nest) (first second : Statement) (i b : ℕ) → let next = behind told taken first in
      let a = frames_in told level first in let c = frames_in told level second in
      let ss = slots_in told frame taken first in let ts = slots_in told frame (behind told taken first) second in
      Known who frame total level r nests taken.words taken.frames (statement_words told (statement_words told taken.words first) second) nodes (a ++ c)
      → suc (count (statement_indices first) + count (statement_indices second)) ≤ nodes
      → (Known (inner who) frame total level r nests taken.words taken.frames (statement_words told taken.words first) (count (statement_indices first)) a → Walks nests first i b ss)
      → (Known (inner who) frame total level (past a r) nests next.words next.frames (statement_words told next.words second) (count (statement_indices second)) c
      → Walks nests second (past (scope (statement_marks first)) i) (past ss b) ts)
      → Each Refers (scope (statement_marks first)) → Each Refers (scope (statement_marks second)) → closed marks i ≤ opened marks i
      → At marks i (scope (statement_marks first)) → At marks (past (scope (statement_marks first)) i) (scope (statement_marks second)) → At T.slots b (ss ++ ts) → Seen i b nests
      → ShownBoth nests nests nests first second i b (ss ++ ts)
  two_arms who frame total level r nodes taken nests first second i b k fewer walk_first walk_second refers_first refers_second level_at at_first at_second there s =
      let a = frames_in told level first in
      let c = frames_in told level second in
      let ss = slots_in told frame taken first in
      let ts = slots_in told frame (behind told taken first) second in
      let nf = count (statement_indices first) in
      let ns = count (statement_indices second) in
      let words = statement_words told taken.words first in
      then_second nests nests nests first second i b ss ts
      (same_scope nests first i b ss
      (walk_first (arm_known who frame total level r nests taken.words taken.frames words nf nf a (omega arith)
      (first_known who frame total level r nests taken.words taken.frames (statement_words told words second) words nodes nf a c (omega (arith, fewer))
      (λ low. (words_grow told words (words_grow told taken.words low first).1 second).0) k)))
      refers_first level_at at_first (at_front T.slots b ss ts there) s)
      (λ s'. same_scope nests second (past (scope (statement_marks first)) i) (past ss b) ts
      (walk_second (arm_known who frame total level (past a r) nests (behind told taken first).words (behind told taken first).frames (statement_words told (behind told taken first).words second) ns ns c (omega arith)
      (second_known who frame total level r nests taken first (λ w. statement_words told w second) nodes ns c (omega (arith, fewer)) k)))
      refers_second (kept_level (scope (statement_marks first)) (scope_kept first) i at_first level_at) at_second (at_rest T.slots b ss ts there) s')

  -- marks that are open stay so in a part
  open_deeper : (nests : List Nest) (numbered : Bool) (frame : Option ℕ) (ms : List MarkTree) → Open nests ms → Open (OfPart numbered frame ∷ nests) ms
  open_deeper nests numbered frame [] o = tt
  open_deeper nests numbered frame (Opens ∷ ms) o = (tt, open_deeper nests numbered frame ms o.1)
  open_deeper nests numbered frame (Closes ∷ ms) o = (tt, open_deeper nests numbered frame ms o.1)
  open_deeper nests numbered frame (Declares (Header f) ∷ ms) o = (tt, open_deeper nests numbered frame ms o.1)
  open_deeper nests numbered frame (Declares (Variable x) ∷ ms) o =
      let number = (note T x.name.at).binding in
      ((stays_at nests numbered frame (slot T number).home (slot T number).index (words_of program T (slice_get (declarations program) number)) o.0.0, o.0.1), open_deeper nests numbered frame ms o.1)
  open_deeper nests numbered frame (Uses name ∷ ms) o =
      let number = (note T name.at).binding in
      (stays_at nests numbered frame (slot T number).home (slot T number).index (words_of program T (slice_get (declarations program) number)) o.0, open_deeper nests numbered frame ms o.1)

  open_split : (at : ℕ) (nests : List Nest) (ms : List MarkTree) → Open nests ms → Open (in_split program T at 0 nests) ms
  open_split at nests ms o =
      by_split (λ c. Open (if c then in_part program T false at 0 nests else nests) ms) (note T at).splits (λ e. open_deeper nests false (frame_words (t.frame_at T at 0)) ms o) (λ e. o)

  alone_known : (frame total level r : ℕ) (nests : List Nest) (words frames after nodes : ℕ) (rs : List Region) → Known OfBody frame total level r nests words frames after nodes rs
  alone_known frame total level r nests words frames after nodes rs = record { group = λ e. absurd (false≢true e); laid = λ l. by l }
    where
      by : IsLevelled OfBody → Laid level r nests frames nodes rs
      by (inl e) = absurd (false≢true e)
      by (inr e) = absurd (false≢true e)

  -- ---- statements

  abbrev AllShown : List Nest → Statements → (i b : ℕ) → List Slot → Type 0
  AllShown nests xs i b slots = StatementsAreOpen program T nests xs × Seen (past (statements_marks xs) i) (past slots b) nests

  moved : (nests : List Nest) (i j b : ℕ) → i ≡ j → Seen i b nests → Seen j b nests
  moved nests i j b same s = subst (λ k. Seen k b nests) same s

  mutual
    statement : (who : Who) (frame total level r : ℕ) (taken : _) (nests : List Nest) (x : Statement) (i b : ℕ) → let slots = slots_in told frame taken x in
        Placed T who x → Known who frame total level r nests taken.words taken.frames (statement_words told taken.words x) (count (statement_indices x)) (frames_in told level x)
        → Each Refers (statement_marks x) → closed marks i ≤ opened marks i → At marks i (statement_marks x) → At T.slots b slots → Seen i b nests → Shown nests x i b slots
    statement who frame total level r taken nests p.Empty i b placed k refers low at there s = (tt, s)
    statement who frame total level r taken nests (p.Expression e) i b placed k refers low at there s = of_tree nests e i b at refers s
    statement who frame total level r taken nests (p.Block list) i b placed k refers low at there s =
        let ms = statements_marks list in
        in_scope nests nests ms (all_kept marks list) i b _ low at s (λ s'. s')
        (statements who frame total level r taken nests list (suc i) b placed k (scoped ms refers) (inner_level i at.0 low) (at_front marks (suc i) ms (Closes ∷ []) at.1) there)
    statement who frame total level r taken nests (p.Declare xs) i b placed k refers low at there s = variables who frame total level taken nests xs i b placed k.group refers at there s
    statement who frame total level r taken nests (p.If spot condition first) i b placed k refers low at there s =
        let ms = tree_marks condition in
        let sc = scope (statement_marks first) in
        let j = past ms i in
        let head = of_tree nests condition i b (at_front marks i ms sc at) (front_of Refers ms sc refers) s in
        let body = one_body who frame total level r (count (statement_indices (p.If spot condition first))) taken nests first spot.at j b placed.0 k
        (omega (arith, count_both (tree_indices condition) (statement_indices first)))
        (λ g k'. statement OfGroup taken.frames (statement_words told 0 first) (deeper level) (past (body_frame told spot.at 0 (deeper level) first) r) (begun told taken first) (in_part program T false spot.at 0 nests) first (suc j) b
        (group_placed who first g placed.1) k')
        (λ k'. statement (inner who) frame total level r taken nests first (suc j) b placed.1 k')
        (rest_of Refers ms sc refers) (kept_level ms (statement_kept marks (p.Expression condition)) i (at_front marks i ms sc at) low) (at_rest marks i ms sc at) there head.1 in
        ((head.0, body.0), moved nests _ _ _ (sym (past_both ms sc i)) body.1)
    statement who frame total level r taken nests (p.IfElse spot condition first second) i b placed k refers low at there s =
        let ms = tree_marks condition in
        let sa = scope (statement_marks first) in
        let sb = scope (statement_marks second) in
        let j = past ms i in
        let front = at_front marks i (ms ++ sa) sb at in
        let rs = three_of Refers ms sa sb refers in
        let head = of_tree nests condition i b (at_front marks i ms sa front) rs.0 s in
        let nodes = count (statement_indices (p.IfElse spot condition first second)) in
        let fewer : suc (count (statement_indices first) + count (statement_indices second)) ≤ nodes =
        omega (arith, count_both (tree_indices condition ++ statement_indices first) (statement_indices second), count_both (tree_indices condition) (statement_indices first)) in
        let a0 = body_frame told spot.at 0 (deeper level) first in
        let b0 = body_frame told spot.at 1 (deeper level) second in
        let parted = slots_in told taken.frames (begun_two told taken first second) first
        ++ slots_in told (behind_body_frame told taken first).frames (within (behind told (begun_two told taken first second) first)) second in
        let own = slots_in told frame taken first ++ slots_in told frame (behind told taken first) second in
        let words_own = statement_words told (statement_words told taken.words first) second in
        let frames_parted = a0 ++ b0 ++ frames_in told (deeper level) first ++ frames_in told (deeper level) second in
        let frames_own = frames_in told level first ++ frames_in told level second in
        let down = kept_level ms (statement_kept marks (p.Expression condition)) i (at_front marks i ms sa front) low in
        let at_second = subst (λ m'. At marks m' sb) (past_both ms sa i) (at_rest marks i (ms ++ sa) sb at) in
        let both = by_split (λ c. ShownBoth nests (if c then in_part program T false spot.at 0 nests else nests) (if c then in_part program T false spot.at 1 nests else nests) first second j b (if c then parted else own))
        (splits_at told spot.at)
        (λ e.
        let k' = subst (λ c. Known who frame total level r nests taken.words taken.frames (if c then taken.words else words_own) nodes (if c then frames_parted else frames_own)) e k in
        two_parts spot.at level r nodes taken nests first second j b (k'.laid (inl (placed.0 e))) fewer
        (λ k''. statement OfGroup taken.frames (statement_words told 0 first) (deeper level) (past b0 (past a0 r)) (begun_two told taken first second) (in_part program T false spot.at 0 nests) first (suc j) b
        (group_placed who first (placed.0 e) placed.1) k'')
        (λ k''. statement OfGroup (behind_body_frame told taken first).frames (statement_words told 0 second) (deeper level) (past (frames_in told (deeper level) first) (past b0 (past a0 r)))
        (within (behind told (begun_two told taken first second) first)) (in_part program T false spot.at 1 nests) second (suc (past sa j)) _ (group_placed who second (placed.0 e) placed.2) k'')
        rs.1 rs.2 down (at_rest marks i ms sa front) at_second (subst (λ c. At T.slots b (if c then parted else own)) e there) head.1)
        (λ e.
        let k' = subst (λ c. Known who frame total level r nests taken.words taken.frames (if c then taken.words else words_own) nodes (if c then frames_parted else frames_own)) e k in
        two_arms who frame total level r nodes taken nests first second j b k' fewer
        (λ k''. statement (inner who) frame total level r taken nests first (suc j) b placed.1 k'')
        (λ k''. statement (inner who) frame total level (past (frames_in told level first) r) (behind told taken first) nests second (suc (past sa j)) _ placed.2 k'')
        rs.1 rs.2 down (at_rest marks i ms sa front) at_second (subst (λ c. At T.slots b (if c then parted else own)) e there) head.1) in
        ((head.0, both.0.0, both.0.1), moved nests _ _ _ (sym (past_both (ms ++ sa) sb i ∙ ap (past sb) (past_both ms sa i))) both.1)
    statement who frame total level r taken nests (p.While spot condition body) i b placed k refers low at there s =
        let ms = tree_marks condition in
        let sc = scope (statement_marks body) in
        let j = past ms i in
        let head = of_tree nests condition i b (at_front marks i ms sc at) (front_of Refers ms sc refers) s in
        let inside = one_body who frame total level r (count (statement_indices (p.While spot condition body))) taken nests body spot.at j b placed.0 k
        (omega (arith, count_both (tree_indices condition) (statement_indices body)))
        (λ g k'. statement OfGroup taken.frames (statement_words told 0 body) (deeper level) (past (body_frame told spot.at 0 (deeper level) body) r) (begun told taken body) (in_part program T false spot.at 0 nests) body (suc j) b
        (group_placed who body g placed.1) k')
        (λ k'. statement (inner who) frame total level r taken nests body (suc j) b placed.1 k')
        (rest_of Refers ms sc refers) (kept_level ms (statement_kept marks (p.Expression condition)) i (at_front marks i ms sc at) low) (at_rest marks i ms sc at) there head.1 in
        ((open_split spot.at nests ms head.0, inside.0), moved nests _ _ _ (sym (past_both ms sc i)) inside.1)
    statement who frame total level r taken nests (p.DoWhile spot body condition) i b placed k refers low at there s =
        let ms = tree_marks condition in
        let sc = scope (statement_marks body) in
        let inside = one_body who frame total level r (count (statement_indices (p.DoWhile spot body condition))) taken nests body spot.at i b placed.0 k
        (omega (arith, count_both (statement_indices body) (tree_indices condition)))
        (λ g k'. statement OfGroup taken.frames (statement_words told 0 body) (deeper level) (past (body_frame told spot.at 0 (deeper level) body) r) (begun told taken body) (in_part program T false spot.at 0 nests) body (suc i) b
        (group_placed who body g placed.1) k')
        (λ k'. statement (inner who) frame total level r taken nests body (suc i) b placed.1 k')
        (front_of Refers sc ms refers) low (at_front marks i sc ms at) there s in
        let head = of_tree nests condition (past sc i) _ (at_rest marks i sc ms at) (rest_of Refers sc ms refers) inside.1 in
        ((open_split spot.at nests ms head.0, inside.0), moved nests _ _ _ (sym (past_both sc ms i)) head.1)
    statement who frame total level r taken nests (p.For spot first condition after body) i b placed k refers low at there s =
        let ma = optional_marks first in
        let mb = optional_marks condition in
        let mc = optional_marks after in
        let sc = scope (statement_marks body) in
        let rs = four_of Refers ma mb mc sc refers in
        let three = at_front marks i (ma ++ mb ++ mc) sc at in
        let two = at_front marks i (ma ++ mb) mc three in
        let one = of_option nests first i b (at_front marks i ma mb two) rs.0 s in
        let two' = of_option nests condition (past ma i) b (at_rest marks i ma mb two) rs.1 one.1 in
        let at_c = subst (λ m'. At marks m' mc) (past_both ma mb i) (at_rest marks i (ma ++ mb) mc three) in
        let three' = of_option nests after (past mb (past ma i)) b at_c rs.2 two'.1 in
        let same : past (ma ++ mb ++ mc) i ≡ past mc (past mb (past ma i)) = past_both (ma ++ mb) mc i ∙ ap (past mc) (past_both ma mb i) in
        let j = past mc (past mb (past ma i)) in
        let at_body = subst (λ m'. At marks m' sc) same (at_rest marks i (ma ++ mb ++ mc) sc at) in
        let down_a = kept_level ma (statement_kept marks (p.Return spot first)) i (at_front marks i ma mb two) low in
        let down_b = kept_level mb (statement_kept marks (p.Return spot condition)) (past ma i) (at_rest marks i ma mb two) down_a in
        let down_c = kept_level mc (statement_kept marks (p.Return spot after)) (past mb (past ma i)) at_c down_b in
        let inside = one_body who frame total level r (count (statement_indices (p.For spot first condition after body))) taken nests body spot.at j b placed.0 k
        (omega (arith, count_both (optional_indices first ++ optional_indices condition ++ optional_indices after) (statement_indices body)))
        (λ g k'. statement OfGroup taken.frames (statement_words told 0 body) (deeper level) (past (body_frame told spot.at 0 (deeper level) body) r) (begun told taken body) (in_part program T false spot.at 0 nests) body (suc j) b
        (group_placed who body g placed.1) k')
        (λ k'. statement (inner who) frame total level r taken nests body (suc j) b placed.1 k')
        rs.3 down_c at_body there three'.1 in
        ((one.0, open_split spot.at nests mb two'.0, open_split spot.at nests mc three'.0, inside.0), moved nests _ _ _ (sym (past_both (ma ++ mb ++ mc) sc i ∙ ap (past sc) same)) inside.1)
    statement who frame total level r taken nests (p.Start spot number body) i b placed k refers low at there s =
        let ms = optional_marks number in
        let sc = scope (statement_marks body) in
        let j = past ms i in
        let head = of_option nests number i b (at_front marks i ms sc at) (front_of Refers ms sc refers) s in
        let inside = part_body true spot.at level r (count (statement_indices (p.Start spot number body))) taken nests body j b (k.laid (inr placed.0))
        (omega (arith, count_both (optional_indices number) (statement_indices body)))
        (λ k'. statement OfGroup taken.frames (statement_words told 0 body) (deeper level) (past (body_frame told spot.at 0 (deeper level) body) r) (begun told taken body) (in_part program T true spot.at 0 nests) body (suc j) b placed.1 k')
        (rest_of Refers ms sc refers) (kept_level ms (statement_kept marks (p.Return spot number)) i (at_front marks i ms sc at) low) (at_rest marks i ms sc at) there head.1 in
        ((head.0, inside.0), moved nests _ _ _ (sym (past_both ms sc i)) inside.1)
    statement who frame total level r taken nests (p.Fork spot parts part rank body) i b placed k refers low at there s =
        let ma = tree_marks parts in
        let mb = tree_marks part in
        let mc = optional_marks rank in
        let sc = scope (statement_marks body) in
        let rs = four_of Refers ma mb mc sc refers in
        let three = at_front marks i (ma ++ mb ++ mc) sc at in
        let two = at_front marks i (ma ++ mb) mc three in
        let one = of_tree nests parts i b (at_front marks i ma mb two) rs.0 s in
        let two' = of_tree nests part (past ma i) b (at_rest marks i ma mb two) rs.1 one.1 in
        let at_c = subst (λ m'. At marks m' mc) (past_both ma mb i) (at_rest marks i (ma ++ mb) mc three) in
        let three' = of_option nests rank (past mb (past ma i)) b at_c rs.2 two'.1 in
        let same : past (ma ++ mb ++ mc) i ≡ past mc (past mb (past ma i)) = past_both (ma ++ mb) mc i ∙ ap (past mc) (past_both ma mb i) in
        let j = past mc (past mb (past ma i)) in
        let at_body = subst (λ m'. At marks m' sc) same (at_rest marks i (ma ++ mb ++ mc) sc at) in
        let down_a = kept_level ma (statement_kept marks (p.Expression parts)) i (at_front marks i ma mb two) low in
        let down_b = kept_level mb (statement_kept marks (p.Expression part)) (past ma i) (at_rest marks i ma mb two) down_a in
        let down_c = kept_level mc (statement_kept marks (p.Return spot rank)) (past mb (past ma i)) at_c down_b in
        let inside = part_body true spot.at level r (count (statement_indices (p.Fork spot parts part rank body))) taken nests body j b (k.laid (inl placed.0))
        (omega (arith, count_both (tree_indices parts ++ tree_indices part ++ optional_indices rank) (statement_indices body)))
        (λ k'. statement OfGroup taken.frames (statement_words told 0 body) (deeper level) (past (body_frame told spot.at 0 (deeper level) body) r) (begun told taken body) (in_part program T true spot.at 0 nests) body (suc j) b placed.1 k')
        rs.3 down_c at_body there three'.1 in
        ((one.0, two'.0, three'.0, inside.0), moved nests _ _ _ (sym (past_both (ma ++ mb ++ mc) sc i ∙ ap (past sc) same)) inside.1)
    statement who frame total level r taken nests (p.Farm spot body) i b placed k refers low at there s =
        same_scope nests body i b _ (statement OfBody frame total (deeper level) r taken nests body (suc i) b placed (alone_known frame total (deeper level) r nests _ _ _ _ _)) refers low at there s
    statement who frame total level r taken nests (p.Seq spot body) i b placed k refers low at there s =
        same_scope nests body i b _ (statement OfBody frame total (deeper level) r taken nests body (suc i) b placed (alone_known frame total (deeper level) r nests _ _ _ _ _)) refers low at there s
    statement who frame total level r taken nests (p.Barrier spot) i b placed k refers low at there s = (tt, s)
    statement who frame total level r taken nests (p.Break spot) i b placed k refers low at there s = (tt, s)
    statement who frame total level r taken nests (p.Continue spot) i b placed k refers low at there s = (tt, s)
    statement who frame total level r taken nests (p.Return spot e) i b placed k refers low at there s = of_option nests e i b at refers s

    pub statements : (who : Who) (frame total level r : ℕ) (taken : _) (nests : List Nest) (xs : Statements) (i b : ℕ) → let slots = all_slots_in told frame taken xs in
        AllPlaced T who xs → Known who frame total level r nests taken.words taken.frames (statements_words told taken.words xs) (count (statements_indices xs)) (all_frames_in told level xs)
        → Each Refers (statements_marks xs) → closed marks i ≤ opened marks i → At marks i (statements_marks xs) → At T.slots b slots → Seen i b nests → AllShown nests xs i b slots
    statements who frame total level r taken nests p.no_statements i b placed k refers low at there s = (tt, s)
    statements who frame total level r taken nests (p.statement first others) i b placed k refers low at there s =
        let ms = statement_marks first in
        let ns = statements_marks others in
        let ss = slots_in told frame taken first in
        let ts = all_slots_in told frame (behind told taken first) others in
        let words = statement_words told taken.words first in
        let nodes = count (statements_indices (p.statement first others)) in
        let both = count_both (statement_indices first) (statements_indices others) in
        let front = at_front marks i ms ns at in
        let one = statement who frame total level r taken nests first i b placed.0
        (first_known who frame total level r nests taken.words taken.frames (statements_words told words others) words nodes (count (statement_indices first)) (frames_in told level first) (all_frames_in told level others)
        (omega (arith, both)) (λ few. (all_words_grow told words (words_grow told taken.words few first).1 others).0) k)
        (front_of Refers ms ns refers) low front (at_front T.slots b ss ts there) s in
        let two = statements who frame total level (past (frames_in told level first) r) (behind told taken first) nests others (past ms i) (past ss b) placed.1
        (second_known who frame total level r nests taken first (λ w. statements_words told w others) nodes (count (statements_indices others)) (all_frames_in told level others) (omega (arith, both)) k)
        (rest_of Refers ms ns refers) (kept_level ms (statement_kept marks first) i front low) (at_rest marks i ms ns at) (at_rest T.slots b ss ts there) one.1 in
        ((one.0, two.0), both_past nests ms ns ss ts i b two.1)
