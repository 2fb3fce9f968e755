-- What a valid program declares: a function's name has no slot, and its number is that of the header with its body.
use Rattle.std.proofs.Common.{◌≡◌, inl, inr, ℕ, zero, suc, ◌<◌, Bool, true, false, List, [], ◌∷◌, ◌++◌, length, take, flat_map, Option, Some, None, slice_get, refl, sym, ap, subst, ◌∙◌, append-nil, arith}
use Rattle.std.specs.Prelude.{min, IsSome, if◌then◌else◌}
use Rattle.std.proofs.lemmas.Bool.{false≢true, cases_order}
use Rattle.std.proofs.lemmas.List.Concat.{flat_map-append}
use Rattle.std.proofs.lemmas.Option.{same_Some}
use Rattle.fk_syntax.specs.declared.facts.Facts.{Facts}
use Rattle.fk_syntax.specs.Tree.{TypeTree, Tree}
use Rattle.fk_syntax.specs.Program as p
use Rattle.fk_syntax.specs.Program.{DeclaredTree, Statement, Statements, FunctionTree, ItemTree, ProgramTree, StructItem, VariablesItem, FunctionItem}
use Rattle.fk_check_rules.specs.declared.rule.Rule.TheVariants as rules
use Rattle.fk_types_names.specs.Outline.{DeclarationTree, MarkTree, Variable, Header, Opens, Closes, Declares, Uses, outline, item_marks, items_marks, declared_in, declarations}
use Rattle.fk_types_names.specs.Means.{binding, DefinesHere, IsDefinition}
use Rattle.fk_types_name_rules.specs.Headers.{BodyHere}
use Rattle.fk_types_name_rules.proofs.ListLemmas.{here_at, at_some}
use Rattle.fk_types_obligations.specs.declared.piece.Role.{Role}
use Rattle.fk_types_obligations.specs.declared.piece.Role.TheVariants as role
use Rattle.fk_types_obligations.specs.Pieces as q
use Rattle.fk_types_obligations.specs.Pieces.{PieceTree, pieces, optional_pieces, variables_pieces, file_pieces, parameters_pieces, statement_pieces, statements_pieces, body_pieces, item_pieces, items_pieces}
use Rattle.fk_types_rules.specs.Bound.{declares}
use Rattle.fk_types_rules.proofs.Pieces.{declared_by_piece, of_items}
use Rattle.fk_types_rules.proofs.Tokens.{tokens_apart}
use Rattle.fk_types_bindings.proofs.Below.{declared_below}
use Rattle.fk_types_bindings.proofs.BodyLemmas.{declared_here}
use Rattle.fk_meaning_forms.specs.declared.tables.Home.{Home}
use Rattle.fk_meaning_forms.specs.declared.tables.Home.TheVariants.{Global, FilePrivate, Private, Group, NoWord}
use Rattle.fk_meaning_forms.specs.declared.tables.Slot.{Slot}
use Rattle.fk_meaning_forms.specs.Tables.{nth, no_slot, slot}
use Rattle.fk_meaning_forms.specs.Program.{binding_of}
use Rattle.fk_layout_slots.specs.Told.{Told, splits_at}
use Rattle.fk_layout_slots.specs.Frames.{last_word}
use Rattle.fk_layout_slots.specs.Places as l
use Rattle.fk_layout_slots.specs.Places.{none_taken, no_slots, slot_in, file_slot, variables_slots, parameters_slots, file_slots, behind_variable, behind_parameter, behind_parameters}
use Rattle.fk_layout_slots.specs.Slots.{slots_in, all_slots_in, behind, behind_body_frame, begun, begun_two, taken_first, body_slots, item_slots, items_slots, slots_of, behind_item}
use Rattle.fk_layout.specs.Layout.{told_by}
use Rattle.fk_check_laws.specs.Correct.{IsCorrect}
use Rattle.fk_check_laws.proofs.Notes.{tables, among, binding_is}

-- ---- slots beside declarations

module _ (Q : Slot → DeclarationTree → Type 0) where
  abbrev pub Beside : List Slot → List DeclarationTree → Type 0
  Beside [] [] = Unit {0}
  Beside [] (d ∷ ds) = ⊥
  Beside (s ∷ ss) [] = ⊥
  Beside (s ∷ ss) (d ∷ ds) = Q s d × Beside ss ds

  join : (ss ts : List Slot) (ds es : List DeclarationTree) → Beside ss ds → Beside ts es → Beside (ss ++ ts) (ds ++ es)
  join [] ts [] es h k = k
  join [] ts (d ∷ ds) es h k = absurd h
  join (s ∷ ss) ts [] es h k = absurd h
  join (s ∷ ss) ts (d ∷ ds) es h k = (h.0, join ss ts ds es h.1 k)

  pub beside_at : (ss : List Slot) (ds : List DeclarationTree) → Beside ss ds → (i : ℕ) (d : DeclarationTree) → slice_get ds i ≡ Some d → Q (nth no_slot ss i) d
  beside_at [] [] h i d is = absurd (cc)
  beside_at [] (e ∷ ds) h i d is = absurd h
  beside_at (s ∷ ss) [] h i d is = absurd h
  beside_at (s ∷ ss) (e ∷ ds) h zero d is = subst (Q s) (same_Some e d is) h.0
  beside_at (s ∷ ss) (e ∷ ds) h (suc i) d is = beside_at ss ds h.1 i d is

weaker : (Q R : Slot → DeclarationTree → Type 0) → ((s : Slot) (d : DeclarationTree) → Q s d → R s d) → (ss : List Slot) (ds : List DeclarationTree) → Beside Q ss ds → Beside R ss ds
weaker Q R f [] [] h = tt
weaker Q R f [] (d ∷ ds) h = absurd h
weaker Q R f (s ∷ ss) [] h = absurd h
weaker Q R f (s ∷ ss) (d ∷ ds) h = (f s d h.0, weaker Q R f ss ds h.1)

-- a variable, whatever its slot
abbrev IsVariable : Slot → DeclarationTree → Type 0
IsVariable s (Variable x) = Unit {0}
IsVariable s (Header f) = ⊥

-- the words of `sh` variables are shared, and a private one has a private place
abbrev pub IsHomeFor : (shared : Bool) → Home → Type 0
IsHomeFor true Global = Unit {0}
IsHomeFor true (Group number) = Unit {0}
IsHomeFor true home = ⊥
IsHomeFor false FilePrivate = Unit {0}
IsHomeFor false Private = Unit {0}
IsHomeFor false home = ⊥

abbrev HasHome : Slot → DeclarationTree → Type 0
HasHome s (Variable x) = IsHomeFor x.shared s.home
HasHome s (Header f) = ⊥

a_variable : (s : Slot) (d : DeclarationTree) → HasHome s d → IsVariable s d
a_variable s (Variable x) h = tt
a_variable s (Header f) h = h

home_by : (shared : Bool) (a b : Slot) → IsHomeFor true a.home → IsHomeFor false b.home → (λ (s : Slot). IsHomeFor shared s.home) (if shared then a else b)
home_by true a b h k = h
home_by false a b h k = k

home_in : (frame : ℕ) (taken : _) (x : DeclaredTree) → HasHome (slot_in frame taken x) (Variable x)
unfolding slot_in
home_in frame taken x = home_by x.shared (record { home = Group frame; index = min taken.words last_word }) (record { home = Private; index = taken.privates }) tt tt

file_home : (taken : _) (x : DeclaredTree) → HasHome (file_slot taken x) (Variable x)
unfolding file_slot
file_home taken x = home_by x.shared (record { home = Global; index = taken.words }) (record { home = FilePrivate; index = taken.privates }) tt tt

abbrev pub Declared : List PieceTree → List DeclarationTree
Declared ps = flat_map declared_by_piece ps

abbrev Fits : List Slot → List PieceTree → Type 0
Fits ss ps = Beside HasHome ss (Declared ps)

joined : (Q : Slot → DeclarationTree → Type 0) (ss ts : List Slot) (ps qs : List PieceTree) → Beside Q ss (Declared ps) → Beside Q ts (Declared qs)
    → Beside Q (ss ++ ts) (Declared (ps ++ qs))
joined Q ss ts ps qs h k = subst (Beside Q (ss ++ ts)) (sym (flat_map-append declared_by_piece ps qs)) (join Q ss ts (Declared ps) (Declared qs) h k)

both : (ss ts : List Slot) (ps qs : List PieceTree) → Fits ss ps → Fits ts qs → Fits (ss ++ ts) (ps ++ qs)
both ss ts ps qs h k = joined HasHome ss ts ps qs h k

either_way : (b : Bool) (ss ts : List Slot) (ps : List PieceTree) → Fits ss ps → Fits ts ps → Fits (if b then ss else ts) ps
either_way true ss ts ps h k = h
either_way false ss ts ps h k = k

no_slots_of : (r : Role) (x : Option Tree) → Fits [] (optional_pieces r x)
no_slots_of r None = tt
no_slots_of r (Some x) = tt

condition_behind : (ss : List Slot) (ps : List PieceTree) (x : Tree) → Fits ss ps → Fits ss (ps ++ q.Used role.Condition x ∷ [])
condition_behind ss ps x h = subst (λ xs. Fits xs (ps ++ q.Used role.Condition x ∷ [])) (append-nil ss) (both ss [] ps (q.Used role.Condition x ∷ []) h tt)

module _ (told : Told) where
  of_variables : (frame : ℕ) (taken : _) (xs : List DeclaredTree) → Fits (variables_slots told frame taken xs) (variables_pieces xs)
  of_variables frame taken [] = tt
  of_variables frame taken (x ∷ xs) = (home_in frame taken x, of_variables frame (behind_variable told taken x) xs)

  of_parameters : (frame : ℕ) (taken : _) (xs : List DeclaredTree) → Fits (parameters_slots told frame taken xs) (parameters_pieces xs)
  of_parameters frame taken [] = tt
  of_parameters frame taken (x ∷ xs) = (home_in frame taken x, of_parameters frame (behind_parameter told taken x) xs)

  of_file : (taken : _) (xs : List DeclaredTree) → Fits (file_slots told taken xs) (file_pieces xs)
  of_file taken [] = tt
  of_file taken (x ∷ xs) = (file_home taken x, of_file (behind_variable told taken x) xs)

  of_header : (xs : List DeclaredTree) → Beside IsVariable (no_slots xs) (Declared (parameters_pieces xs))
  of_header [] = tt
  of_header (x ∷ xs) = (tt, of_header xs)

  mutual
    of_statement : (r : TypeTree) (frame : ℕ) (taken : _) (x : Statement) → Fits (slots_in told frame taken x) (statement_pieces r x)
    of_statement r frame taken p.Empty = tt
    of_statement r frame taken (p.Expression value) = tt
    of_statement r frame taken (p.Block statements) = of_statements r frame taken statements
    of_statement r frame taken (p.Declare variables) = of_variables frame taken variables
    of_statement r frame taken (p.If spot condition body) =
        either_way (splits_at told spot.at) _ _ (statement_pieces r body) (of_statement r taken.frames (begun told taken body) body) (of_statement r frame taken body)
    of_statement r frame taken (p.IfElse spot condition body otherwise) =
        either_way (splits_at told spot.at) _ _ (statement_pieces r body ++ statement_pieces r otherwise)
        (both _ _ (statement_pieces r body) (statement_pieces r otherwise) (of_statement r taken.frames (begun_two told taken body otherwise) body)
        (of_statement r (behind_body_frame told taken body).frames (l.within (behind told (begun_two told taken body otherwise) body)) otherwise))
        (both _ _ (statement_pieces r body) (statement_pieces r otherwise) (of_statement r frame taken body) (of_statement r frame (behind told taken body) otherwise))
    of_statement r frame taken (p.While spot condition body) =
        either_way (splits_at told spot.at) _ _ (statement_pieces r body) (of_statement r taken.frames (begun told taken body) body) (of_statement r frame taken body)
    of_statement r frame taken (p.DoWhile spot body condition) =
        condition_behind _ (statement_pieces r body) condition
        (either_way (splits_at told spot.at) _ _ (statement_pieces r body) (of_statement r taken.frames (begun told taken body) body) (of_statement r frame taken body))
    of_statement r frame taken (p.For spot first condition after body) =
        let heads = both [] [] (optional_pieces role.Alone first ++ optional_pieces role.Condition condition) (optional_pieces role.Alone after)
        (both [] [] (optional_pieces role.Alone first) (optional_pieces role.Condition condition) (no_slots_of role.Alone first) (no_slots_of role.Condition condition))
        (no_slots_of role.Alone after) in
        both [] _ (optional_pieces role.Alone first ++ optional_pieces role.Condition condition ++ optional_pieces role.Alone after) (statement_pieces r body) heads
        (either_way (splits_at told spot.at) _ _ (statement_pieces r body) (of_statement r taken.frames (begun told taken body) body) (of_statement r frame taken body))
    of_statement r frame taken (p.Start spot count body) =
        both [] _ (optional_pieces role.Word count) (statement_pieces r body) (no_slots_of role.Word count) (of_statement r taken.frames (begun told taken body) body)
    of_statement r frame taken (p.Fork spot parts part rank body) =
        both [] _ (optional_pieces role.Word rank) (statement_pieces r body) (no_slots_of role.Word rank) (of_statement r taken.frames (begun told taken body) body)
    of_statement r frame taken (p.Farm spot body) = of_statement r frame taken body
    of_statement r frame taken (p.Seq spot body) = of_statement r frame taken body
    of_statement r frame taken (p.Barrier spot) = tt
    of_statement r frame taken (p.Break spot) = tt
    of_statement r frame taken (p.Continue spot) = tt
    of_statement r frame taken (p.Return spot value) = tt

    of_statements : (r : TypeTree) (frame : ℕ) (taken : _) (x : Statements) → Fits (all_slots_in told frame taken x) (statements_pieces r x)
    of_statements r frame taken p.no_statements = tt
    of_statements r frame taken (p.statement first others) =
        both _ _ (statement_pieces r first) (statements_pieces r others) (of_statement r frame taken first) (of_statements r frame (behind told taken first) others)

  with_body : (r : TypeTree) (file : _) (parameters : List DeclaredTree) (body : Statements)
      → Fits (body_slots told file parameters (Some body)) (parameters_pieces parameters ++ statements_pieces r body)
  with_body r file parameters body =
      both _ _ (parameters_pieces parameters) (statements_pieces r body) (of_parameters file.frames (taken_first told file parameters body) parameters)
      (of_statements r file.frames (behind_parameters told (taken_first told file parameters body) parameters) body)

  of_body : (r : TypeTree) (file : _) (parameters : List DeclaredTree) (body : Option Statements)
      → Beside IsVariable (body_slots told file parameters body) (Declared (parameters_pieces parameters ++ body_pieces r body))
  of_body r file parameters None = subst (λ ss. Beside IsVariable ss (Declared (parameters_pieces parameters ++ []))) (append-nil (no_slots parameters))
      (joined IsVariable (no_slots parameters) [] (parameters_pieces parameters) [] (of_header parameters) tt)
  of_body r file parameters (Some body) = weaker HasHome IsVariable a_variable _ _ (with_body r file parameters body)

  -- a function's name has no word, and the function stands among these items
  abbrev pub IsOf : List ItemTree → Slot → DeclarationTree → Type 0
  IsOf items s d = (f : FunctionTree) → d ≡ Header f → (s.home ≡ NoWord) × (j : ℕ) × (slice_get items j ≡ Some (FunctionItem f))

  no_header : (items : List ItemTree) (s : Slot) (d : DeclarationTree) → IsVariable s d → IsOf items s d
  no_header items s (Variable x) h f e = absurd (cc)
  no_header items s (Header g) h f e = absurd h

  further : (x : ItemTree) (items : List ItemTree) (s : Slot) (d : DeclarationTree) → IsOf items s d → IsOf (x ∷ items) s d
  further x items s d h f e = let g = h f e in (g.0, suc g.1, g.2)

  of_item : (file : _) (x : ItemTree) (xs : List ItemTree) → Beside (IsOf (x ∷ xs)) (item_slots told file x) (Declared (item_pieces x))
  of_item file (StructItem name members) xs = tt
  of_item file (VariablesItem variables) xs = weaker HasHome (IsOf (VariablesItem variables ∷ xs)) (λ s d h. no_header (VariablesItem variables ∷ xs) s d (a_variable s d h)) _ _ (of_file file variables)
  of_item file (FunctionItem f) xs = (
    (λ g e. (refl, 0, cc)),
    weaker IsVariable (IsOf (FunctionItem f ∷ xs)) (no_header (FunctionItem f ∷ xs)) _ _ (of_body f.result file f.parameters f.body),
  )

  of_all : (file : _) (xs : List ItemTree) → Beside (IsOf xs) (items_slots told file xs) (Declared (items_pieces xs))
  of_all file [] = tt
  of_all file (x ∷ xs) = subst (Beside (IsOf (x ∷ xs)) (items_slots told file (x ∷ xs))) (sym (flat_map-append declared_by_piece (item_pieces x) (items_pieces xs)))
      (join (IsOf (x ∷ xs)) (item_slots told file x) (items_slots told (behind_item told file x) xs) (Declared (item_pieces x)) (Declared (items_pieces xs)) (of_item file x xs)
      (weaker (IsOf xs) (IsOf (x ∷ xs)) (further x xs) _ _ (of_all (behind_item told file x) xs)))

  -- a variable has its home, unless it is a parameter of a header without a body
  abbrev pub MayHaveHome : Slot → DeclarationTree → Type 0
  MayHaveHome s (Variable x) = IsHomeFor x.shared s.home
  MayHaveHome s (Header f) = Unit {0}

  has_home : (s : Slot) (d : DeclarationTree) → HasHome s d → MayHaveHome s d
  has_home s (Variable x) h = h
  has_home s (Header f) h = tt

  -- what is declared, with a body where it is a function
  abbrev pub IsWholeItem : ItemTree → Type 0
  IsWholeItem (FunctionItem f) = IsSome f.body
  IsWholeItem x = Unit {0}

  pub item_homes : (file : _) (x : ItemTree) → IsWholeItem x → Beside MayHaveHome (item_slots told file x) (Declared (item_pieces x))
  item_homes file (StructItem name members) whole = tt
  item_homes file (VariablesItem variables) whole = weaker HasHome MayHaveHome has_home _ _ (of_file file variables)
  item_homes file (FunctionItem f) whole = (tt, by f.body whole)
    where
      by : (o : Option Statements) → IsSome o → Beside MayHaveHome (body_slots told file f.parameters o) (Declared (parameters_pieces f.parameters ++ body_pieces f.result o))
      by None whole = absurd (false≢true whole)
      by (Some body) whole = weaker HasHome MayHaveHome has_home _ _ (with_body f.result file f.parameters body)

  -- and there are as many slots as declarations
  abbrev Any : Slot → DeclarationTree → Type 0
  Any s d = Unit {0}

  as_many : (ss : List Slot) (ds : List DeclarationTree) → Beside Any ss ds → length ss ≡ length ds
  as_many [] [] h = refl
  as_many [] (d ∷ ds) h = absurd h
  as_many (s ∷ ss) [] h = absurd h
  as_many (s ∷ ss) (d ∷ ds) h = ap suc (as_many ss ds h.1)

  pub item_length : (file : _) (x : ItemTree) → length (item_slots told file x) ≡ length (Declared (item_pieces x))
  item_length file x = as_many _ _ (weaker (IsOf (x ∷ [])) Any (λ s d h. tt) _ _ (of_item file x []))

module _ (program : ProgramTree) (facts : Facts) (valid : IsCorrect program facts) where
  pub header_at : (number : ℕ) (f : FunctionTree) → slice_get (declarations program) number ≡ Some (Header f)
      → ((slot (tables program facts valid) number).home ≡ NoWord) × (j : ℕ) × (slice_get program.items j ≡ Some (FunctionItem f))
  header_at number f is =
      let told = told_by facts in
      beside_at (IsOf told program.items) (slots_of told program.items) (declarations program)
      (subst (Beside (IsOf told program.items) (slots_of told program.items)) (of_items program.items).declared (of_all told none_taken program.items)) number (Header f) is f refl

  -- ---- one header has the body

  repeated : (i j : ℕ) (f g : FunctionTree) → i < j → slice_get program.items i ≡ Some (FunctionItem f) → slice_get program.items j ≡ Some (FunctionItem g)
      → IsSome f.body → IsSome g.body → f.name.bytes ≡ g.name.bytes → ⊥
  repeated i j f g less is other some has same = valid.known.types.kept g.name.place rules.HeadersDiffer
      (inl (inr (inr (inr (inl (refl, (j, g, other, inr (inl (has, i, less, here_at (BodyHere g.name.bytes) program.items i (FunctionItem f) is (same, some))), refl)))))))

  pub same_function : (i j : ℕ) (f g : FunctionTree) → slice_get program.items i ≡ Some (FunctionItem f) → slice_get program.items j ≡ Some (FunctionItem g)
      → IsSome f.body → IsSome g.body → f.name.bytes ≡ g.name.bytes → f ≡ g
  same_function i j f g is other some has same = elim (cases_order i j) [
    | inl e ↦ item_same (same_Some (FunctionItem f) (FunctionItem g) (sym is ∙ ap (λ k. slice_get program.items k) e ∙ other))
    | inr (inl less) ↦ absurd (repeated i j f g less is other some has same)
    | inr (inr more) ↦ absurd (repeated j i g f more other is has some (sym same))
  ]
    where
      item_same : FunctionItem f ≡ FunctionItem g → f ≡ g
      item_same e = cc

  -- ---- its number

  abbrev behind_all : {X : Type 0} → List X → ℕ → ℕ
  behind_all [] i = i
  behind_all (x ∷ xs) i = suc (behind_all xs i)

  behind_at : {X : Type 0} (xs ys : List X) (i : ℕ) → slice_get (xs ++ ys) (behind_all xs i) ≡ slice_get ys i
  behind_at [] ys i = refl
  behind_at (x ∷ xs) ys i = behind_at xs ys i

  pub marked : (items : List ItemTree) (j : ℕ) (f : FunctionTree) → slice_get items j ≡ Some (FunctionItem f) → (here : ℕ) × (slice_get (items_marks items) here ≡ Some (Declares (Header f)))
  marked [] j f is = absurd (cc)
  marked (x ∷ items) zero f is = (0, subst (λ y. slice_get (item_marks y ++ items_marks items) 0 ≡ Some (Declares (Header f))) (sym (same_Some x (FunctionItem f) is)) refl)
  marked (x ∷ items) (suc j) f is = let h = marked items j f is in (behind_all (item_marks x) h.0, behind_at (item_marks x) (items_marks items) h.0 ∙ h.1)

  one_less : (marks : List MarkTree) (k here : ℕ) (d : DeclarationTree) → slice_get marks k ≡ Some (Declares d) → k < here → binding marks k < binding marks here
  one_less [] k here d is less = absurd (cc)
  one_less (m ∷ marks) zero zero d is less = absurd (omega (arith, less))
  one_less (m ∷ marks) zero (suc here) d is less = subst (λ x. 0 < length (declared_in (x ∷ take here marks))) (sym (same_Some m (Declares d) is)) (omega arith)
  one_less (m ∷ marks) (suc k) zero d is less = absurd (omega (arith, less))
  one_less (Opens ∷ marks) (suc k) (suc here) d is less = one_less marks k here d is (omega (arith, less))
  one_less (Closes ∷ marks) (suc k) (suc here) d is less = one_less marks k here d is (omega (arith, less))
  one_less (Declares e ∷ marks) (suc k) (suc here) d is less = omega (arith, one_less marks k here d is (omega (arith, less)))
  one_less (Uses name ∷ marks) (suc k) (suc here) d is less = one_less marks k here d is (omega (arith, less))

  -- the first header with the body of a function is its own
  defines : (j here : ℕ) (f : FunctionTree) → slice_get program.items j ≡ Some (FunctionItem f) → IsSome f.body → slice_get (outline program) here ≡ Some (Declares (Header f))
      → IsDefinition (outline program) f.name.bytes here
  defines j here f is some there = record {
    body = here_at (DefinesHere f.name.bytes) (outline program) here (Declares (Header f)) there (refl, some);
    first = λ k less h. let m = at_some (DefinesHere f.name.bytes) (outline program) k h in earlier k less m.0 m.1 m.2;
  }
    where
      earlier : (k : ℕ) → k < here → (m : MarkTree) → slice_get (outline program) k ≡ Some m → DefinesHere f.name.bytes m → ⊥
      earlier k less Opens at h = h
      earlier k less Closes at h = h
      earlier k less (Uses name) at h = h
      earlier k less (Declares (Variable x)) at h = h
      earlier k less (Declares (Header g)) at h =
          let number = declared_here (outline program) k (Header g) at in
          let item = header_at (binding (outline program) k) g number in
          let same = same_function j item.1 f g is item.2 some h.1 (sym h.0) in
          (tokens_apart program valid.well_formed).declared (binding (outline program) k) (binding (outline program) here) (Header g) (Header f)
          (one_less (outline program) k here (Header g) at less) number (declared_here (outline program) here (Header f) there) (ap (λ (x : FunctionTree). x.name.at) (sym same))

  pub function_number : (j : ℕ) (f : FunctionTree) → slice_get program.items j ≡ Some (FunctionItem f) → IsSome f.body
      → slice_get (declarations program) (binding_of (tables program facts valid) f) ≡ Some (Header f)
  function_number j f is some =
      let here = marked program.items j f is in
      let number = declared_here (outline program) here.0 (Header f) here.1 in
      let low = declared_below program valid.well_formed (Header f) (among (declarations program) (binding (outline program) here.0) (Header f) number) in
      ap (slice_get (declarations program)) (binding_is program facts valid f.name.at (binding (outline program) here.0) low
      (declares (Header f) here.0 here.0 here.1 refl (inl (defines j here.0 f is some here.1)))) ∙ number
