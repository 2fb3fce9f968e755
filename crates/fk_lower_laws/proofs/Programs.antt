-- The functions of a program that keeps all rules are as they are asked; and its `main` has its place.
use Rattle.std.proofs.Common.{◌≡◌, ◌⊎◌, inl, inr, ℕ, zero, suc, ◌+◌, ◌<◌, arith, Bool, true, false, not, List, [], ◌∷◌, ◌++◌, length, codes, Option, Some, None, slice_get, refl, sym, ap, subst, ◌∙◌}
use Rattle.std.specs.Prelude.{◌==◌, ◌&&◌, nat_lt, IsSome, if◌then◌else◌, All}
use Rattle.fk_syntax.specs.Tree.{Tree}
use Rattle.std.proofs.lemmas.Bool.{false≢true, eqb-true, eq-eqb, lt-ltb, or_left, and_parts, false_from_ne_true}
use Rattle.std.proofs.lemmas.Slice.Eq.{bytes_eq-Decides}
use Rattle.fk_syntax.specs.declared.facts.Facts.{Facts}
use Rattle.fk_syntax.specs.Program.{DeclaredTree, Statements, FunctionTree, ItemTree, ProgramTree, StructItem, VariablesItem, FunctionItem}
use Rattle.fk_types_names.specs.Outline.{MarkTree, declarations, outline, tree_marks, optional_marks, variables_marks, body_marks, item_marks, items_marks}
use Rattle.fk_types_obligations.specs.Pieces.{PieceTree, parameters_pieces, body_pieces, item_pieces, items_pieces}
use Rattle.fk_sharing.specs.declared.around.Holder.{Holder}
use Rattle.fk_sharing.specs.Tokens as s
use Rattle.fk_regions.specs.Tokens as r
use Rattle.fk_layout_slots.specs.Places.{none_taken}
use Rattle.fk_layout_slots.specs.Slots.{item_slots, behind_item}
use Rattle.fk_layout.specs.Layout.{told_by, tables_by}
use Rattle.fk_meaning_forms.specs.Statements.{is_nothing}
use Rattle.fk_meaning_forms.specs.Program.{functions_of, with_body, binding_of, is_main, main_in, main_of}
use Rattle.fk_core_liveness.specs.declared.places.FunctionKind.TheVariants.{Main, Called}
use Rattle.fk_layout_slots.specs.Frames.{regions_of}
use Rattle.fk_parse_laws.specs.Order.{frame_tokens}
use Rattle.fk_parse_laws.proofs.Ordered.{frames_above}
use Rattle.fk_parse_laws.specs.Every.{BodyHas}
use Rattle.fk_parse_laws.specs.Trim.{ItemsAreTrim, nonempty_lists}
use Rattle.fk_check_laws.specs.Correct.{IsCorrect}
use Rattle.fk_check_laws.proofs.Each.{Each, each, front_of, rest_of}
use Rattle.fk_check_laws.proofs.Declared.{same_function, function_number}
use Rattle.fk_check_laws.proofs.Main.{there_is_main}
use Rattle.fk_check_laws.proofs.Notes.{Theirs, Unmisplaced, all_unmisplaced}
use Rattle.fk_meaning_forms.specs.declared.tables.Home.{Home}
use Rattle.fk_meaning_forms.specs.declared.tables.Home.TheVariants.{Group}
use Rattle.fk_meaning_forms.specs.declared.tables.Region.{Region}
use Rattle.fk_meaning_forms.specs.Tables.{Tables, note, slot, region, frame_at, frame_in}
use Rattle.fk_lockstep_frames.specs.Nests.{Nest, OfFunction, frame_has, has_word}
use Rattle.fk_lower_names.proofs.Given.{IsGiven, IsPiece, are_pieces}
use Rattle.fk_lower_names.specs.OpenFrames.{IsOpen, IsOpenAt, is_group, frame_words, words_of, AreOpenFor, StatementsAreOpen, BodyIsOpen, own_frame, FunctionsAreOpen}
use Rattle.fk_lower_laws.specs.Asked.{BodyAsked, FunctionsAsked, IsOpenIf, AreOpen, place_by, frame_with}
use Rattle.fk_lower_laws.specs.TypedLaws.{HasMain, IsMainAlone}
use Rattle.fk_lower_laws.proofs.Mains.{main_has_its_place}
use Rattle.fk_lower_names.proofs.Proper.{others_ascend}
use Rattle.fk_lower_laws.specs.AskedLaws.{CorrectProgramsAreAsked, MainsHaveTheirPlace}
use Rattle.fk_lower_laws.proofs.Places.{AreFrom, from_first, from_next, item_homed, Homes, by_pieces}
use Rattle.fk_lower_laws.proofs.Valid.{about, all_kept}
use Rattle.fk_lower_laws.proofs.Calls.{header_same}
use Rattle.fk_lower_laws.proofs.Statements as st
use Rattle.fk_lower_laws.proofs.Statements.{IsPlaceOf, statements}
use Rattle.fk_lower_laws.proofs.Parts.{body_starts}
use Rattle.fk_lower_laws.proofs.FrameLevels.{BodyHasLevels, HasLevels, HaveLevels, frames_have_levels}
use Rattle.fk_lower_names.proofs.OpenPrograms.{names_are_open}

-- the place of a function is that of its result
place_for : (g : FunctionTree) → IsPlaceOf (place_by g) g.result
place_for g = by (is_main g)
  where
    by : (main : Bool) → IsPlaceOf (if main then Main else Called (not (is_nothing g.result))) g.result
    by true = tt
    by false = refl

module _ (program : ProgramTree) (facts : Facts) (given : IsGiven program facts) where
  open about program facts given use {tables, functions, places, thing, Kept, Stands as S}

  abbrev Piece : PieceTree → Type 0
  Piece x = IsPiece program facts given x

  abbrev One : PieceTree → Type 0
  One x = st.IsOne program facts given x

  ones : (ps : List PieceTree) → Each Piece ps → Each (λ x. Homes program facts given.correct x) ps → Each One ps
  ones [] f h = tt
  ones (x ∷ ps) f h = (record { piece = f.0; homes = h.0 }, ones ps f.1 h.1)

  abbrev nests_of : FunctionTree → List Nest
  nests_of g = OfFunction (frame_with (place_by g) (frame_at tables g.name.at 0)) ∷ []

  -- the nest of a function is as it is told where its names are
  same_nest : (g : FunctionTree) → OfFunction (own_frame program tables g) ∷ [] ≡ nests_of g
  same_nest g = ap (λ (frame : Option ℕ). OfFunction frame ∷ []) (by (is_main g))
    where
      by : (main : Bool) → (if main then None else frame_words (frame_at tables g.name.at 0)) ≡ frame_with (if main then Main else Called (not (is_nothing g.result))) (frame_at tables g.name.at 0)
      by true = refl
      by false = refl

  -- a word in the nest of a function is in its own frame
  in_own : (frame : Option ℕ) (r : Region) (first words : ℕ) → IsOpen (OfFunction frame ∷ []) r first words → has_word (OfFunction frame ∷ []) 0 first ≡ true
  in_own frame r first words is_open = by (r.level == 0) is_open.frame
    where
      by : (b : Bool) → (if b then frame else None) ≡ Some r.words → frame_has frame first ≡ true
      by true e = ap (λ (f : Option ℕ). frame_has f first) e ∙ or_left (nat_lt first r.words) _ (lt-ltb first r.words is_open.begins)
      by false e = absurd (cc)

  parameters_open : (frame : Option ℕ) (xs : List DeclaredTree) → AreOpenFor program tables (OfFunction frame ∷ []) (variables_marks xs) → AreOpen tables (OfFunction frame ∷ []) xs
  parameters_open frame [] w = tt
  parameters_open frame (x ∷ xs) w =
      (by x.shared refl (slot tables (note tables x.name.at).binding).home w.0.0 w.0.1, parameters_open frame xs (others x.first w.1))
    where
      by : (shared : Bool) → x.shared ≡ shared → (home : Home)
          → IsOpenAt program tables (OfFunction frame ∷ []) home (slot tables (note tables x.name.at).binding).index (words_of program tables (slice_get (declarations program) (note tables x.name.at).binding))
          → (x.shared ≡ true → is_group home ≡ true) → IsOpenIf tables (OfFunction frame ∷ []) shared x
      by false is home is_open group = tt
      by true is (Group r) is_open group = in_own frame (region tables r) _ _ is_open
      by true is home is_open group = absurd (false≢true (group is))

      behind : (ms : List MarkTree) → AreOpenFor program tables (OfFunction frame ∷ []) (ms ++ variables_marks xs) → AreOpenFor program tables (OfFunction frame ∷ []) (variables_marks xs)
      behind [] w' = w'
      behind (m ∷ ms) w' = behind ms w'.1

      others : (first : Option Tree) → AreOpenFor program tables (OfFunction frame ∷ []) (optional_marks first ++ variables_marks xs) → AreOpenFor program tables (OfFunction frame ∷ []) (variables_marks xs)
      others None w' = w'
      others (Some e) w' = behind (tree_marks e) w'

  abbrev R : Theirs program facts given.correct → Type 0
  R x = Unmisplaced program facts given.correct x

  abbrev AllAsked : List FunctionTree → Type 0
  AllAsked gs = FunctionsAsked tables functions places gs

  with_asked : (g : FunctionTree) (around : List Holder) (o : Option Statements) → g.body ≡ o → BodyHas nonempty_lists o → Each Kept (s.body_tokens thing ◌∷◌ around o) → Each S (body_marks o)
      → (IsSome g.body → Each One (body_pieces g.result o)) → Each R (r.body_tokens ◌∷◌ (r.holder_of g ∷ []) o) → HasLevels (told_by facts) tables (λ at. refl) (FunctionItem g) → (others : List FunctionTree) → (FunctionsAreOpen program tables others → AllAsked others)
      → FunctionsAreOpen program tables (with_body g o others) → AllAsked (with_body g o others)
  with_asked g around None has t k m f i v others go w = go w
  with_asked g around (Some body) has t k m f i v others go w = (
    subst (BodyAsked tables functions places (place_by g) (frame_at tables g.name.at 0)) (sym has) (
      statements program facts given (place_by g) g.result (place_for g) around (nests_of g) body
          (subst (λ nests. StatementsAreOpen program tables nests body) (same_nest g) (subst (BodyIsOpen program tables (OfFunction (own_frame program tables g) ∷ [])) has w.0.1)) t k m
          (f (subst IsSome (sym has) refl)),
      subst (BodyHasLevels (told_by facts) tables (λ at. refl)) has v.1,
      body_starts program facts given.correct g body i,
    ),
    (λ other. record {
      level = v.0;
      parameters = parameters_open (frame_with (place_by g) (frame_at tables g.name.at 0)) g.parameters
          (subst (λ nests. AreOpenFor program tables nests (variables_marks g.parameters)) (same_nest g) w.0.0);
    }),
    go w.1,
  )

  all_asked : (xs : List ItemTree) (n : ℕ) (file : _) → AreFrom program facts given.correct n file xs → ItemsAreTrim xs → Each Kept (s.items_tokens thing ◌∷◌ [] xs) → Each S (items_marks xs)
      → Each Piece (items_pieces xs) → Each R (r.items_tokens ◌∷◌ [] xs) → HaveLevels (told_by facts) tables (λ at. refl) xs → FunctionsAreOpen program tables (functions_of xs) → AllAsked (functions_of xs)
  all_asked [] n file h t k m f i v w = tt
  all_asked (StructItem name members ∷ xs) n file h t k m f i v w =
      let x = StructItem name members in all_asked xs (n + length (item_slots (told_by facts) file x)) (behind_item (told_by facts) file x) (from_next program facts given.correct n file x xs h) t.1 k m f i v.1 w
  all_asked (VariablesItem variables ∷ xs) n file h t k m f i v w =
      let x = VariablesItem variables in
      all_asked xs (n + length (item_slots (told_by facts) file x)) (behind_item (told_by facts) file x) (from_next program facts given.correct n file x xs h) t.1
      (rest_of Kept (s.item_tokens thing ◌∷◌ [] x) _ k) (rest_of S (item_marks x) (items_marks xs) m) (rest_of Piece (item_pieces x) (items_pieces xs) f)
      (rest_of R (r.item_tokens ◌∷◌ [] x) (r.items_tokens ◌∷◌ [] xs) i) v.1 w
  all_asked (FunctionItem g ∷ xs) n file h t k m f i v w =
      let x = FunctionItem g in
      let marks' = st.scope_of program facts given (variables_marks g.parameters ++ body_marks g.body) (front_of S (item_marks x) (items_marks xs) m).1 in
      let own = front_of Piece (item_pieces x) (items_pieces xs) f in
      let homed : IsSome g.body → Each One (body_pieces g.result g.body) =
      λ whole. rest_of One (parameters_pieces g.parameters) (body_pieces g.result g.body)
      (ones (item_pieces x) own (by_pieces program facts given.correct (item_pieces x) (item_homed program facts given.correct n file x xs whole h))).1 in
      with_asked g _ g.body refl t.0.1 (rest_of Kept (s.parameters_tokens [] g.mode g.parameters) _ (front_of Kept (s.item_tokens thing ◌∷◌ [] x) _ k))
      (rest_of S (variables_marks g.parameters) (body_marks g.body) marks') homed (front_of R (r.item_tokens ◌∷◌ [] x) (r.items_tokens ◌∷◌ [] xs) i) v.0 (functions_of xs)
      (all_asked xs (n + length (item_slots (told_by facts) file x)) (behind_item (told_by facts) file x) (from_next program facts given.correct n file x xs h) t.1
      (rest_of Kept (s.item_tokens thing ◌∷◌ [] x) _ k) (rest_of S (item_marks x) (items_marks xs) m) (rest_of Piece (item_pieces x) (items_pieces xs) f)
      (rest_of R (r.item_tokens ◌∷◌ [] x) (r.items_tokens ◌∷◌ [] xs) i) v.1) w

-- no frame is at the first token
none_first : (tables : Tables) (frames : List Region) → All (λ frame. 0 < frame.at) frames → frame_in tables frames 0 0 ≡ None
none_first tables [] h = refl
none_first tables (r ∷ rs) h =
    by (none_first tables rs (λ k d within. h (suc k) d (omega arith))) ((r.at == 0) && (r.part == 0)) refl
  where
    by : frame_in tables rs 0 0 ≡ None → (b : Bool) → ((r.at == 0) && (r.part == 0)) ≡ b → (if b then Some r else frame_in tables rs 0 0) ≡ None
    by others true e = absurd (omega (arith, h zero r (omega arith), eqb-true r.at 0 (and_parts (r.at == 0) (r.part == 0) e).0))
    by others false e = others

pub correct_programs_are_asked : CorrectProgramsAreAsked
correct_programs_are_asked program facts valid trim proper fits =
    let given : IsGiven program facts = record { correct = valid; trim = trim; proper = proper; fits = fits } in
    let tokens = others_ascend (frame_tokens program.items) proper.1 in (
      none_first (tables_by program facts) (regions_of (told_by facts) program.items) (frames_above (told_by facts) program.items 0 tokens.1),
      all_asked program facts given program.items 0 none_taken (from_first program facts valid) trim (all_kept program facts given)
          (each (about program facts given).Stands (outline program) (λ i x is. (i, is))) (are_pieces program facts given) (all_unmisplaced program facts valid) (frames_have_levels program facts valid) (names_are_open program facts valid trim proper fits),
    )

-- ---- `main`

module _ (program : ProgramTree) (facts : Facts) (valid : IsCorrect program facts) where
  abbrev bound : FunctionTree → ℕ
  bound g = binding_of (tables_by program facts) g

  pub record IsThere (g : FunctionTree) : Type 0 where
    pub index : ℕ
    pub there : slice_get program.items index ≡ Some (FunctionItem g)
    pub body : IsSome g.body

  pub all_there : (xs : List ItemTree) → ((j : ℕ) (x : ItemTree) → slice_get xs j ≡ Some x → (i : ℕ) × (slice_get program.items i ≡ Some x)) → Each IsThere (functions_of xs)
  all_there [] among = tt
  all_there (StructItem name members ∷ xs) among = all_there xs (λ j x is. among (suc j) x is)
  all_there (VariablesItem variables ∷ xs) among = all_there xs (λ j x is. among (suc j) x is)
  all_there (FunctionItem g ∷ xs) among = by g.body refl (all_there xs (λ j x is. among (suc j) x is))
    where
      by : (o : Option Statements) → g.body ≡ o → Each IsThere (functions_of xs) → Each IsThere (with_body g o (functions_of xs))
      by None has others = others
      by (Some body) has others = let at = among 0 (FunctionItem g) refl in (record { index = at.0; there = at.1; body = subst IsSome (sym has) refl }, others)

  has_main : (gs : List FunctionTree) → (Each (λ g. is_main g ≡ false) gs → ⊥) → HasMain gs
  has_main [] none = none tt
  has_main (g ∷ gs) none = by (is_main g) refl (λ e. has_main gs (λ all. none (e, all)))
    where
      by : (b : Bool) → is_main g ≡ b → (is_main g ≡ false → HasMain gs) → (is_main g ≡ true) ⊎ HasMain gs
      by true e others = inl e
      by false e others = inr (others e)

  record IsMain (gs : List FunctionTree) : Type 0 where
    function : FunctionTree
    there : IsThere function
    main : is_main function ≡ true
    binds : main_in (tables_by program facts) gs ≡ bound function

  main_there : (gs : List FunctionTree) → Each IsThere gs → HasMain gs → IsMain gs
  main_there [] there has = absurd has
  main_there (g ∷ gs) there has = by (is_main g) refl has (λ more. main_there gs there.1 more)
    where
      by : (b : Bool) → is_main g ≡ b → (is_main g ≡ true) ⊎ HasMain gs → (HasMain gs → IsMain gs) → IsMain (g ∷ gs)
      by true e has' others = record { function = g; there = there.0; main = e; binds = ap (λ (c : Bool). if c then bound g else main_in (tables_by program facts) gs) e }
      by false e (inl is) others = absurd (false≢true (sym e ∙ is))
      by false e (inr more) others =
          let x = others more in
          record {
            function = x.function;
            there = x.there;
            main = x.main;
            binds = ap (λ (c : Bool). if c then bound g else main_in (tables_by program facts) gs) e ∙ x.binds;
          }

  main_bytes : (g : FunctionTree) → is_main g ≡ true → g.name.bytes ≡ codes "main"
  main_bytes g is = (bytes_eq-Decides g.name.bytes (codes "main")).0 is

  module _ (main : ℕ) (x : FunctionTree) (x_there : IsThere x) (x_main : is_main x ≡ true) (binds : main ≡ bound x) where
    one_alone : (g : FunctionTree) → IsThere g → (bound g == main) ≡ is_main g
    one_alone g there = by (is_main g) refl
      where
        by : (b : Bool) → is_main g ≡ b → (bound g == main) ≡ b
        by true e =
            let one = same_function program facts valid there.index x_there.index g x there.there x_there.there there.body x_there.body (main_bytes g e ∙ sym (main_bytes x x_main)) in
            eq-eqb (bound g) main (ap bound one ∙ sym binds)
        by false e = false_from_ne_true (bound g == main) (λ same.
            let number = function_number program facts valid there.index g there.there there.body in
            let other = function_number program facts valid x_there.index x x_there.there x_there.body in
            let one = header_same g x (sym number ∙ ap (slice_get (declarations program)) (eqb-true (bound g) main same ∙ binds) ∙ other) in
            false≢true (sym e ∙ ap is_main one ∙ x_main))

    all_alone : (gs : List FunctionTree) → Each IsThere gs → IsMainAlone (tables_by program facts) main gs
    all_alone [] there = tt
    all_alone (g ∷ gs) there = (one_alone g there.0, all_alone gs there.1)

  abbrev gs : List FunctionTree
  gs = functions_of program.items

  there : Each IsThere gs
  there = all_there program.items (λ j x is. (j, is))

  has : HasMain gs
  has = has_main gs (λ none. there_is_main program facts valid none)

  -- no other function has the binding of `main`
  pub main_alone : IsMainAlone (tables_by program facts) (main_of (tables_by program facts) program) gs
  main_alone = let x = main_there gs there has in all_alone (main_of (tables_by program facts) program) x.function x.there x.main x.binds gs there

pub mains_have_their_place : MainsHaveTheirPlace
mains_have_their_place program facts valid =
    main_has_its_place (tables_by program facts) program (has program facts valid) (main_alone program facts valid)
