-- Each operation of a correct program with a layout has a number, and each number that it takes has room in a word.
use Rattle.std.proofs.Common.{◌≡◌, ℕ, zero, suc, ◌+◌, ◌^◌, ◌<◌, ◌≤◌, Bool, true, false, cond, List, [], ◌∷◌, length, sum_by, Some, refl, sym, ap, subst, ◌∙◌, length-append, arith}
use Rattle.std.specs.Prelude.{◌==◌, ◌&&◌, if◌then◌else◌}
use Rattle.std.proofs.lemmas.List.Sums.{sum_by-cons, sum_by-append}
use Rattle.std.proofs.lemmas.List.Concat.{flat_map-append, flat_map-cons}
use Rattle.fk_syntax.specs.declared.facts.Facts.{Facts}
use Rattle.fk_syntax.specs.declared.facts.Kind.{Kind}
use Rattle.fk_syntax.specs.Program.{DeclaredTree, ItemTree, ProgramTree, StructItem, VariablesItem, FunctionItem}
use Rattle.fk_types_names.specs.Outline.{DeclarationTree, declarations}
use Rattle.fk_types_obligations.specs.Pieces.{item_pieces, items_pieces}
use Rattle.fk_types_rules.proofs.Pieces.{declared_by_piece, of_items}
use Rattle.fk_meaning_forms.specs.declared.tables.Region.{Region}
use Rattle.fk_meaning_forms.specs.declared.tables.Slot.{Slot}
use Rattle.fk_meaning_forms.specs.Tables.{Tables, nth, slot, frame_in, no_kind, no_slot, no_region}
use Rattle.fk_layout_globals.specs.Constants.{told}
use Rattle.fk_layout_globals.specs.Rows as g
use Rattle.fk_layout_globals.specs.Variables.{variables_in, kept, variables_of}
use Rattle.fk_layout_slots.specs.Told.{Told}
use Rattle.fk_layout_slots.specs.Places.{none_taken}
use Rattle.fk_layout_slots.specs.Slots.{item_slots, items_slots, behind_item}
use Rattle.fk_layout.specs.Layout.{told_by, tables_by}
use Rattle.fk_layout.specs.Refusal.{Fits}
use Rattle.fk_layout_walk.specs.Known.{items_in}
use Rattle.fk_layout_walk_statements.specs.Texts.{functions_in}
use Rattle.fk_lower_names.specs.WordRoom.{most_words, HasRoom, IsSmall, HasSmallFrames, ItemsAreNear}
use Rattle.fk_lower_names.proofs.Whole.{all_fit}
use Rattle.fk_lower_names.proofs.Fine.{AreFit, are_whole, are_numbered}
use Rattle.fk_parse_laws.specs.Words.{ItemsHaveWords}
use Rattle.fk_parse_laws.specs.Levels.{FramesAreShallow}
use Rattle.fk_check_laws.specs.Correct.{IsCorrect}
use Rattle.fk_check_laws.proofs.Each.{Each, one_of}
use Rattle.fk_check_laws.proofs.Declared.{Declared, item_length}
use Rattle.fk_lower_names.specs.WordLaws.{NumbersHaveRoom}
use Rattle.fk_lower_names.proofs.WordNumbers.{all_entries, kinds_low, all_notes_low}
use Rattle.fk_lower_names.proofs.Near.{declared_few, all_near}
use Rattle.fk_lower_names.proofs.Regions as r
use Rattle.fk_lower_names.proofs.WordSlots as s

-- ---- as many slots as declarations

as_many : (told : Told) (file : _) (xs : List ItemTree) → length (items_slots told file xs) ≡ length (Declared (items_pieces xs))
as_many told file [] = refl
as_many told file (x ∷ xs) =
    let all = ap (λ (ds : List DeclarationTree). length ds) (flat_map-append declared_by_piece (item_pieces x) (items_pieces xs)) in
    omega (
      arith,
      length-append (item_slots told file x) (items_slots told (behind_item told file x) xs),
      item_length told file x,
      as_many told (behind_item told file x) xs,
      all,
      length-append (Declared (item_pieces x)) (Declared (items_pieces xs)),
    )

-- ---- the words of shared variables of file scope

module _ (program : ProgramTree) (facts : Facts) where
  abbrev of_globals : Tables
  of_globals = told facts.notes.items facts.kinds.items

  abbrev words : DeclaredTree → ℕ
  words x = g.words_of of_globals x

  kept_words : (xs : List DeclaredTree) → sum_by words (kept true xs) ≡ s.all_words (told_by facts) xs
  kept_words [] = refl
  kept_words (x ∷ xs) = by x.shared (kept_words xs)
    where
      by : (b : Bool) → sum_by words (kept true xs) ≡ s.all_words (told_by facts) xs
          → sum_by words (cond b (x ∷ kept true xs) (kept true xs)) ≡ cond b (words x) 0 + s.all_words (told_by facts) xs
      by true h = omega (arith, sum_by-cons words x (kept true xs), h)
      by false h = omega (arith, h)

  item_words : (x : ItemTree) (xs : List ItemTree) (n : ℕ) → n ≡ s.file_words (told_by facts) xs → sum_by words (kept true (variables_in x)) + n ≡ s.file_words (told_by facts) (x ∷ xs)
  item_words (StructItem name members) xs n h = omega (arith, h)
  item_words (VariablesItem variables) xs n h = omega (arith, h, kept_words variables)
  item_words (FunctionItem f) xs n h = omega (arith, h)

  pub total_words : (xs : List ItemTree) → g.total of_globals xs ≡ s.file_words (told_by facts) xs
  total_words [] = refl
  total_words (x ∷ xs) =
      ap (sum_by words) (flat_map-cons (λ (item : ItemTree). kept true (variables_in item)) x xs)
      ∙ sum_by-append words (kept true (variables_in x)) (variables_of true xs) ∙ item_words x xs (g.total of_globals xs) (total_words xs)

module _ (program : ProgramTree) (facts : Facts) (valid : IsCorrect program facts) (fits : Fits (tables_by program facts) program.items) where
  pub few_slots : length (items_slots (told_by facts) none_taken program.items) ≤ 2 ^ 20
  few_slots = omega (
    arith,
    as_many (told_by facts) none_taken program.items,
    ap (λ (ds : List DeclarationTree). length ds) (of_items program.items).declared,
    declared_few program facts valid (length (declarations program)) refl,
    valid.small,
  )

  has_room : FramesAreShallow program.items → HasRoom (tables_by program facts)
  has_room shallow =
      let T = tables_by program facts in
      let regions = r.regions_low (told_by facts) program.items in
      let slots = s.slots_low (told_by facts) program.items few_slots (omega (arith, total_words program facts program.items, fits.words)) in
      record {
        notes = all_notes_low program facts valid;
        words = all_entries no_kind (λ (kind : Kind). kind.words < most_words) T.kinds (λ i x is. let low = kinds_low program facts valid i x is in omega (arith, low.0));
        steps = all_entries no_kind (λ (kind : Kind). kind.step < 2 ^ 32) T.kinds (λ i x is. let low = kinds_low program facts valid i x is in omega (arith, low.1));
        slots = all_entries no_slot (λ (slot : Slot). slot.index < 2 ^ 21) T.slots (λ i x is. let low = one_of s.IsLow T.slots slots i x is in omega (arith, low));
        levels = λ k d within. let low = shallow (told_by facts) k d within in omega (arith, low);
        frames = all_entries no_region (λ (region : Region). region.words < 2 ^ 21) T.regions (λ i x is. one_of r.IsLow T.regions regions i x is);
      }

-- ---- words of group frames

each_nth : {X : Type 0} (P : X → Type 0) (other : X) → P other → (xs : List X) → Each P xs → (n : ℕ) → P (nth other xs n)
each_nth P other none [] h n = none
each_nth P other none (x ∷ xs) h zero = h.0
each_nth P other none (x ∷ xs) h (suc n) = each_nth P other none xs h.1 n

small_in : (tables : Tables) (rs : List Region) → Each r.IsLow rs → (at part : ℕ) → IsSmall (frame_in tables rs at part)
small_in tables [] h at part = tt
small_in tables (x ∷ rs) h at part = by ((x.at == at) && (x.part == part)) (small_in tables rs h.1 at part)
  where
    by : (here : Bool) → IsSmall (frame_in tables rs at part) → IsSmall (if here then Some x else frame_in tables rs at part)
    by true more = h.0
    by false more = more

pub small_frames : (program : ProgramTree) (facts : Facts) → IsCorrect program facts → Fits (tables_by program facts) program.items → HasSmallFrames (tables_by program facts)
small_frames program facts valid fits =
    let T = tables_by program facts in
    let slots = s.slots_low (told_by facts) program.items (few_slots program facts valid fits) (omega (arith, total_words program facts program.items, fits.words)) in
    record {
      places = λ binding. let low : (slot T binding).index ≤ 2 ^ 20 = each_nth s.IsLow no_slot (omega arith) T.slots slots binding in omega (arith, low);
      frames = λ at part. small_in T T.regions (r.regions_low (told_by facts) program.items) at part;
    }

pub numbers_have_room : NumbersHaveRoom
numbers_have_room program facts known valid proper fits words tables items =
    let near = subst (λ (xs : List ItemTree). ItemsAreNear (tables_by program facts) xs) (sym items) (all_near program facts valid) in
    let all : AreFit known (functions_in known) =
    all_fit known (subst HasRoom (sym tables) (has_room program facts valid fits proper.2))
    (subst (λ (t : Tables). ItemsAreNear t (items_in known)) (sym tables) near) (subst ItemsHaveWords (sym items) words) in
    (are_whole known (functions_in known) all, are_numbered known (functions_in known) all)
