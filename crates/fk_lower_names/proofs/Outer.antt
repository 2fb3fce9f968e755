-- A variable of a text is one of file scope, whose word is there, or its scope is not that of the file.
use Rattle.std.proofs.Common.{◌≡◌, ◌⊎◌, inl, inr, ℕ, zero, suc, ◌+◌, ◌-◌, ◌<◌, ◌≤◌, Bool, true, false, cond, List, [], ◌∷◌, ◌++◌, length, take, Option, Some, None, slice_get, refl, sym, ap, subst, ◌∙◌, append-nil, length-append, arith}
use Rattle.std.specs.Prelude.{count_by, not, if◌then◌else◌}
use Rattle.std.proofs.Math.Seq.{take-append-add}
use Rattle.std.proofs.lemmas.Bool.{cases_lt}
use Rattle.std.proofs.lemmas.List.{take-append-le}
use Rattle.std.proofs.lemmas.List.Sums.{sum_by-append}
use Rattle.std.proofs.lemmas.Option.{slice_get_within}
use Rattle.fk_syntax.specs.Program.{DeclaredTree, Statements, FunctionTree, ItemTree, StructItem, VariablesItem, FunctionItem}
use Rattle.fk_types_names.specs.Outline.{DeclarationTree, MarkTree, Variable, Opens, Closes, Declares, Uses, declared_in, variables_marks, body_marks, function_marks, item_marks, items_marks}
use Rattle.fk_types_names.specs.Visible.{is_opening, is_closing}
use Rattle.fk_types_names.specs.Means.{binding}
use Rattle.fk_types_obligations.specs.Pieces.{item_pieces}
use Rattle.fk_types_rules.proofs.References.{declared_in-append}
use Rattle.fk_types_rules.proofs.Pieces.{of_items}
use Rattle.fk_meaning_forms.specs.declared.tables.Home.{Home}
use Rattle.fk_meaning_forms.specs.declared.tables.Home.TheVariants as h
use Rattle.fk_meaning_forms.specs.declared.tables.Slot.{Slot}
use Rattle.fk_meaning_forms.specs.Tables.{nth, no_slot}
use Rattle.fk_layout_globals.specs.Variables.{kept, variables_of}
use Rattle.fk_layout_slots.specs.Told.{Told}
use Rattle.fk_layout_slots.specs.Places.{file_slot, file_slots, behind_words, behind_private, behind_variable, behind_variables}
use Rattle.fk_layout_slots.specs.Slots.{item_slots, items_slots, behind_body}
use Rattle.fk_check_laws.proofs.Each.{Each}
use Rattle.fk_check_laws.proofs.Declared.{Declared, item_length}
use Rattle.fk_check_laws.proofs.Homes.{back_get}
use Rattle.fk_check_laws.proofs.Level.{IsLevel, level_item}
use Rattle.fk_check_laws.proofs.Shut.{opened, closed}
use Rattle.fk_lower_names.proofs.Nested.{in_function}

-- ---- lists behind one another

pub front_get : {X : Type 0} (xs ys : List X) (i : ℕ) → i < length xs → slice_get (xs ++ ys) i ≡ slice_get xs i
front_get [] ys i less = absurd (omega (arith, less))
front_get (x ∷ xs) ys zero less = refl
front_get (x ∷ xs) ys (suc i) less = front_get xs ys i (omega (arith, less))

front_nth : {X : Type 0} (other : X) (xs ys : List X) (i : ℕ) → i < length xs → nth other (xs ++ ys) i ≡ nth other xs i
front_nth other [] ys i less = absurd (omega (arith, less))
front_nth other (x ∷ xs) ys zero less = refl
front_nth other (x ∷ xs) ys (suc i) less = front_nth other xs ys i (omega (arith, less))

abbrev behind_all : {X : Type 0} → List X → ℕ → ℕ
behind_all [] i = i
behind_all (x ∷ xs) i = suc (behind_all xs i)

behind_sum : {X : Type 0} (xs : List X) (i : ℕ) → behind_all xs i ≡ length xs + i
behind_sum [] i = omega arith
behind_sum (x ∷ xs) i = omega (arith, behind_sum xs i)

back_nth_all : {X : Type 0} (other : X) (xs ys : List X) (i : ℕ) → nth other (xs ++ ys) (behind_all xs i) ≡ nth other ys i
back_nth_all other [] ys i = refl
back_nth_all other (x ∷ xs) ys i = back_nth_all other xs ys i

back_nth : {X : Type 0} (other : X) (xs ys : List X) (i : ℕ) → nth other (xs ++ ys) (length xs + i) ≡ nth other ys i
back_nth other xs ys i = ap (nth other (xs ++ ys)) (sym (behind_sum xs i)) ∙ back_nth_all other xs ys i

each_nth : (P : Slot → Type 0) → P no_slot → (ss : List Slot) → Each P ss → (i : ℕ) → P (nth no_slot ss i)
each_nth P none [] h i = none
each_nth P none (s ∷ ss) h zero = h.0
each_nth P none (s ∷ ss) h (suc i) = each_nth P none ss h.1 i

-- ---- numbers of declarations among marks

pub number_front : (ms ns : List MarkTree) (k : ℕ) → k ≤ length ms → binding (ms ++ ns) k ≡ binding ms k
number_front ms ns k less = ap (λ (xs : List MarkTree). length (declared_in xs)) (take-append-le k ms ns less)

pub number_back : (ms ns : List MarkTree) (k : ℕ) → binding (ms ++ ns) (length ms + k) ≡ length (declared_in ms) + binding ns k
number_back ms ns k =
    ap (λ (xs : List MarkTree). length (declared_in xs)) (take-append-add ms ns k) ∙ ap (λ (ds : List DeclarationTree). length ds) (declared_in-append ms (take k ns))
    ∙ length-append (declared_in ms) (declared_in (take k ns))

more_declared : (ms : List MarkTree) (k : ℕ) (d : DeclarationTree) → slice_get ms k ≡ Some (Declares d) → binding ms k < length (declared_in ms)
more_declared [] k d is = absurd (cc)
more_declared (m ∷ ms) zero d is = by m is
  where
    by : (mark : MarkTree) → Some mark ≡ Some (Declares d) → 0 < length (declared_in (mark ∷ ms))
    by (Declares e) is' = omega arith
    by Opens is' = absurd (cc)
    by Closes is' = absurd (cc)
    by (Uses name) is' = absurd (cc)
more_declared (Opens ∷ ms) (suc k) d is = more_declared ms k d is
more_declared (Closes ∷ ms) (suc k) d is = more_declared ms k d is
more_declared (Declares e ∷ ms) (suc k) d is = omega (arith, more_declared ms k d is)
more_declared (Uses name ∷ ms) (suc k) d is = more_declared ms k d is

-- a declaration in the middle of marks has its slot in the middle of slots
pub in_middle : (P : Slot → Type 0) → P no_slot → (pre fm post : List MarkTree) (spre ss spost : List Slot) → length spre ≡ length (declared_in pre) → length ss ≡ length (declared_in fm)
    → Each P ss → (k : ℕ) (d : DeclarationTree) → slice_get fm k ≡ Some (Declares d) → P (nth no_slot (spre ++ (ss ++ spost)) (binding (pre ++ (fm ++ post)) (length pre + k)))
in_middle P none pre fm post spre ss spost first own h k d is =
    let within = slice_get_within fm k (Declares d) is in
    let few = more_declared fm k d is in
    let number = number_back pre (fm ++ post) k in
    let local = number_front fm post k (omega (arith, within)) in
    let at : binding (pre ++ (fm ++ post)) (length pre + k) ≡ length spre + binding fm k = omega (arith, number, local, first) in
    subst P (sym (ap (nth no_slot (spre ++ (ss ++ spost))) at ∙ back_nth no_slot spre (ss ++ spost) (binding fm k)
    ∙ front_nth no_slot ss spost (binding fm k) (omega (arith, few, own)))) (each_nth P none ss h (binding fm k))

-- as many slots as declarations
item_declared : (x : ItemTree) → Declared (item_pieces x) ≡ declared_in (item_marks x)
item_declared x =
    ap Declared (sym (append-nil (item_pieces x))) ∙ (of_items (x ∷ [])).declared ∙ ap declared_in (append-nil (item_marks x))

pub as_many : (told : Told) (file : _) (x : ItemTree) → length (item_slots told file x) ≡ length (declared_in (item_marks x))
as_many told file x = item_length told file x ∙ ap (λ (ds : List DeclarationTree). length ds) (item_declared x)

-- ---- the words of file scope

module _ (firsts : ℕ) where
  abbrev pub IsOfFile : Home → (index : ℕ) → Type 0
  IsOfFile h.Global i = Unit {0}
  IsOfFile h.FilePrivate i = i < firsts
  IsOfFile h.NoWord i = Unit {0}
  IsOfFile home i = ⊥

  abbrev pub OfFile : Slot → Type 0
  OfFile s = IsOfFile s.home s.index

  counted : (x : DeclaredTree) (xs : List DeclaredTree) → length (kept false (x ∷ xs)) ≡ (if x.shared then 0 else 1) + length (kept false xs)
  counted x xs = by x.shared
    where
      by : (b : Bool) → length (cond (not b) (x ∷ kept false xs) (kept false xs)) ≡ (if b then 0 else 1) + length (kept false xs)
      by true = let same : length (cond (not true) (x ∷ kept false xs) (kept false xs)) ≡ length (kept false xs) = refl in omega (arith, same)
      by false = let same : length (cond (not false) (x ∷ kept false xs) (kept false xs)) ≡ suc (length (kept false xs)) = refl in omega (arith, same)

  one_file : (taken : _) (x : DeclaredTree) → let s = file_slot taken x in taken.privates + (if x.shared then 0 else 1) ≤ firsts → OfFile s
  unfolding file_slot
  one_file taken x few = by x.shared few
    where
      by : (b : Bool) → taken.privates + (if b then 0 else 1) ≤ firsts
          → OfFile (if b then record { home = h.Global; index = taken.words } else record { home = h.FilePrivate; index = taken.privates })
      by true few' = tt
      by false few' = omega (arith, few')

  module _ (told : Told) where
    one_behind : (taken : _) (x : DeclaredTree) → let after = behind_variable told taken x in after.privates ≤ taken.privates + (if x.shared then 0 else 1)
    unfolding behind_variable behind_words behind_private
    one_behind taken x = by x.shared
      where
        by : (b : Bool) → (if b then behind_words told taken x else behind_private taken).privates ≤ taken.privates + (if b then 0 else 1)
        by true = omega arith
        by false = omega arith

    all_behind : (xs : List DeclaredTree) (taken : _) → let after = behind_variables told taken xs in after.privates ≤ taken.privates + length (kept false xs)
    all_behind [] taken = omega arith
    all_behind (x ∷ xs) taken = omega (arith, counted x xs, one_behind taken x, all_behind xs (behind_variable told taken x))

    of_file : (xs : List DeclaredTree) (taken : _) → let slots = file_slots told taken xs in taken.privates + length (kept false xs) ≤ firsts → Each OfFile slots
    of_file [] taken few = tt
    of_file (x ∷ xs) taken few = (
      one_file taken x (omega (arith, few, counted x xs)),
      of_file xs (behind_variable told taken x) (omega (arith, few, counted x xs, one_behind taken x)),
    )

    -- ---- each variable among marks

    abbrev pub AreOuter : List Slot → List MarkTree → Type 0
    AreOuter slots marks = (at : ℕ) (x : DeclaredTree) → slice_get marks at ≡ Some (Declares (Variable x))
        → OfFile (nth no_slot slots (binding marks at)) ⊎ (closed marks at < opened marks at)

    count_both : (test : MarkTree → Bool) (xs ys : List MarkTree) → count_by test (xs ++ ys) ≡ count_by test xs + count_by test ys
    count_both test xs ys = sum_by-append (λ (m : MarkTree). cond (test m) 1 0) xs ys

    outer_both : (ss ts : List Slot) (ms ns : List MarkTree) → length ss ≡ length (declared_in ms) → IsLevel ms → AreOuter ss ms → AreOuter ts ns → AreOuter (ss ++ ts) (ms ++ ns)
    outer_both ss ts ms ns same level h k at x is = elim (cases_lt at (length ms)) [
      | inl less ↦
          let here : slice_get ms at ≡ Some (Declares (Variable x)) = sym (front_get ms ns at less) ∙ is in
          let number = number_front ms ns at (omega (arith, less)) in
          let taken = take-append-le at ms ns (omega (arith, less)) in
          let low = more_declared ms at (Variable x) here in
          elim (h at x here) [
            | inl file ↦ inl (subst OfFile (sym (ap (nth no_slot (ss ++ ts)) number ∙ front_nth no_slot ss ts (binding ms at) (omega (arith, low, same)))) file)
            | inr inside ↦ inr (subst (λ (zs : List MarkTree). count_by is_closing zs < count_by is_opening zs) (sym taken) inside)
          ]
      | inr more ↦
          let n = at - length ms in
          let sum : at ≡ length ms + n = omega (arith, more) in
          let here : slice_get ns n ≡ Some (Declares (Variable x)) = sym (back_get ms ns n) ∙ ap (slice_get (ms ++ ns)) (sym sum) ∙ is in
          let number : binding (ms ++ ns) at ≡ length ss + binding ns n = ap (binding (ms ++ ns)) sum ∙ number_back ms ns n ∙ ap (λ i. i + binding ns n) (sym same) in
          let taken = ap (λ i. take i (ms ++ ns)) sum ∙ take-append-add ms ns n in
          elim (k n x here) [
            | inl file ↦ inl (subst OfFile (sym (ap (nth no_slot (ss ++ ts)) number ∙ back_nth no_slot ss ts (binding ns n))) file)
            | inr inside ↦ inr (subst (λ (zs : List MarkTree). count_by is_closing zs < count_by is_opening zs) (sym taken)
                (let even = level.even in omega (arith, inside, even, count_both is_closing ms (take n ns), count_both is_opening ms (take n ns))))
          ]
    ]

    function_outer : (f : FunctionTree) (slots : List Slot) → AreOuter slots (function_marks f)
    function_outer f slots zero x is = absurd (cc)
    function_outer f slots (suc zero) x is = absurd (cc)
    function_outer f slots (suc (suc k)) x is =
        let inner = variables_marks f.parameters ++ body_marks f.body in
        let within = slice_get_within (inner ++ Closes ∷ []) k (Declares (Variable x)) is in
        let long = length-append inner (Closes ∷ []) in
        inr (in_function f k (omega (arith, within, long)))

    same_file : (file : _) (parameters : List DeclaredTree) (body : Option Statements) → let after = behind_body told file parameters body in after.privates ≡ file.privates
    same_file file parameters None = refl
    same_file file parameters (Some body) = refl

    pub outer_items : (xs : List ItemTree) (file : _) → let slots = items_slots told file xs in file.privates + length (variables_of false xs) ≤ firsts → AreOuter slots (items_marks xs)
    outer_items [] file few at x is = absurd (cc)
    outer_items (StructItem name members ∷ xs) file few at x is = outer_items xs file few at x is
    outer_items (VariablesItem variables ∷ xs) file few at x is =
        let item = VariablesItem variables in
        let after = behind_variables told file variables in
        let all = length-append (kept false variables) (variables_of false xs) in
        let few' : file.privates + length (kept false variables ++ variables_of false xs) ≤ firsts = few in
        outer_both (item_slots told file item) (items_slots told after xs) (item_marks item) (items_marks xs) (as_many told file item) (level_item item)
        (λ i y here. inl (each_nth OfFile tt (file_slots told file variables) (of_file variables file (omega (arith, few', all))) (binding (item_marks item) i)))
        (outer_items xs after (omega (arith, few', all, all_behind variables file))) at x is
    outer_items (FunctionItem f ∷ xs) file few at x is =
        let item = FunctionItem f in
        let after = behind_body told file f.parameters f.body in
        outer_both (item_slots told file item) (items_slots told after xs) (item_marks item) (items_marks xs) (as_many told file item) (level_item item)
        (function_outer f (item_slots told file item)) (outer_items xs after (let few' : file.privates + length (variables_of false xs) ≤ firsts = few in omega (arith, few', same_file file f.parameters f.body))) at x is
