-- Where shared variables of file scope lie: within the words that a layout has for them. And each declaration with its slot.
use Rattle.std.proofs.Common.{◌≡◌, ℕ, zero, suc, ◌+◌, ◌≤◌, Bool, true, false, List, [], ◌∷◌, ◌++◌, length, Option, Some, None, slice_get, refl, sym, ap, subst, ◌∙◌, arith}
use Rattle.std.specs.Prelude.{if◌then◌else◌}
use Rattle.std.proofs.lemmas.List.Concat.{flat_map-append}
use Rattle.fk_syntax.specs.declared.facts.Facts.{Facts}
use Rattle.fk_syntax.specs.Program.{DeclaredTree, Statements, ItemTree, ProgramTree, StructItem, VariablesItem, FunctionItem}
use Rattle.fk_types_name_rules.proofs.ListLemmas.{some_at}
use Rattle.fk_types_names.specs.Outline.{DeclarationTree, Variable, Header, declarations}
use Rattle.fk_types_obligations.specs.Pieces as q
use Rattle.fk_types_obligations.specs.Pieces.{PieceTree, file_pieces, item_pieces, items_pieces}
use Rattle.fk_types_rules.proofs.Pieces.{declared_by_piece, of_items}
use Rattle.fk_meaning_forms.specs.declared.tables.Home.TheVariants.{Global, FilePrivate}
use Rattle.fk_meaning_forms.specs.declared.tables.Slot.{Slot}
use Rattle.fk_meaning_forms.specs.Tables.{Tables, no_slot, slot, kind_at}
use Rattle.fk_layout_slots.specs.Told.{Told, words_at}
use Rattle.fk_layout_slots.specs.Places.{none_taken, file_slot, file_slots, behind_words, behind_private, behind_variable, behind_variables}
use Rattle.fk_layout_slots.specs.Slots.{body_slots, item_slots, items_slots, slots_of, behind_item, behind_body}
use Rattle.fk_layout.specs.Layout.{told_by}
use Rattle.fk_layout.specs.Refusal.{Fits}
use Rattle.fk_check_laws.specs.Correct.{IsCorrect}
use Rattle.fk_check_laws.proofs.Each.{Each, each}
use Rattle.fk_check_laws.proofs.Notes.{tables, nth_at}
use Rattle.fk_check_laws.proofs.Declared.{Beside, beside_at, Declared, MayHaveHome, IsWholeItem, item_homes, item_length}
use Rattle.fk_check_laws.proofs.Homes.{back_get}
use Rattle.fk_lower_names.proofs.Regions.{join}
use Rattle.fk_lower_names.proofs.Walk.{Joins, of_body, of_header}
use Rattle.fk_lower_names.proofs.WordRoom.{total_words}
use Rattle.fk_lower_names.proofs.WordSlots.{words_of, all_words, file_words}

-- ---- slots beside declarations

beside_both : (Q : Slot → DeclarationTree → Type 0) (ss ts : List Slot) (ds es : List DeclarationTree) → Beside Q ss ds → Beside Q ts es → Beside Q (ss ++ ts) (ds ++ es)
beside_both Q [] ts [] es h k = k
beside_both Q [] ts (d ∷ ds) es h k = absurd h
beside_both Q (s ∷ ss) ts [] es h k = absurd h
beside_both Q (s ∷ ss) ts (d ∷ ds) es h k = (h.0, beside_both Q ss ts ds es h.1 k)

beside_each : (P : Slot → Type 0) (Q : Slot → DeclarationTree → Type 0) → ((s : Slot) (d : DeclarationTree) → P s → Q s d) → (ss : List Slot) (ds : List DeclarationTree) → Each P ss
    → length ss ≡ length ds → Beside Q ss ds
beside_each P Q go [] [] h same = tt
beside_each P Q go [] (d ∷ ds) h same = absurd (omega (arith, same))
beside_each P Q go (s ∷ ss) [] h same = absurd (omega (arith, same))
beside_each P Q go (s ∷ ss) (d ∷ ds) h same = (go s d h.0, beside_each P Q go ss ds h.1 (omega (arith, same)))

-- ---- no slot in a function is one of shared data

abbrev IsElsewhere : Slot → Type 0
IsElsewhere s = s.home ≡ Global → ⊥

abbrev AreElsewhere : List Slot → (from to : ℕ) → Type 0
AreElsewhere slots from to = Each IsElsewhere slots

elsewhere : Joins AreElsewhere
elsewhere = record {
  none = λ n. tt;
  both = λ xs ys a b c h k. join IsElsewhere xs ys h k;
  own = λ n. ((λ e. cc), tt);
  word = λ frame words n. ((λ e. cc), tt);
  counted = λ frame words n. ((λ e. cc), tt);
}

module _ (told : Told) where
  body_elsewhere : (file : _) (parameters : List DeclaredTree) (body : Option Statements) → Each IsElsewhere (body_slots told file parameters body)
  body_elsewhere file parameters None = of_header IsElsewhere (λ e. cc) parameters
  body_elsewhere file parameters (Some body) = of_body AreElsewhere elsewhere told file parameters body

  -- ---- a slot of shared data lies with its words within those of the layout

  abbrev pub LiesWithin : Slot → DeclarationTree → Type 0
  LiesWithin s (Variable x) = s.home ≡ Global → s.index + words_at told x.name.at ≤ 524288
  LiesWithin s (Header f) = Unit {0}

  away : (s : Slot) (d : DeclarationTree) → IsElsewhere s → LiesWithin s d
  away s (Variable x) h = λ e. absurd (h e)
  away s (Header f) h = tt

  one_within : (taken : _) (x : DeclaredTree) → let s = file_slot taken x in taken.words + words_of told x ≤ 524288 → LiesWithin s (Variable x)
  unfolding file_slot
  one_within taken x = by x.shared
    where
      by : (b : Bool) → taken.words + (if b then words_at told x.name.at else 0) ≤ 524288
          → LiesWithin (if b then record { home = Global; index = taken.words } else record { home = FilePrivate; index = taken.privates }) (Variable x)
      by true few e = few
      by false few e = absurd (cc)

  one_behind : (taken : _) (x : DeclaredTree) → let after = behind_variable told taken x in after.words ≤ taken.words + words_of told x
  unfolding behind_variable behind_words behind_private
  one_behind taken x = by x.shared
    where
      by : (b : Bool) → (if b then behind_words told taken x else behind_private taken).words ≤ taken.words + (if b then words_at told x.name.at else 0)
      by true = omega arith
      by false = omega arith

  all_behind : (taken : _) (xs : List DeclaredTree) → let after = behind_variables told taken xs in after.words ≤ taken.words + all_words told xs
  all_behind taken [] = omega arith
  all_behind taken (x ∷ xs) = omega (arith, one_behind taken x, all_behind (behind_variable told taken x) xs)

  file_within : (taken : _) (xs : List DeclaredTree) → let slots = file_slots told taken xs in taken.words + all_words told xs ≤ 524288 → Beside LiesWithin slots (Declared (file_pieces xs))
  file_within taken [] few = tt
  file_within taken (x ∷ xs) few =
      (one_within taken x (omega (arith, few)), file_within (behind_variable told taken x) xs (omega (arith, few, one_behind taken x)))

  same_words : (file : _) (parameters : List DeclaredTree) (body : Option Statements) → let after = behind_body told file parameters body in after.words ≡ file.words
  same_words file parameters None = refl
  same_words file parameters (Some body) = refl

  items_within : (file : _) (xs : List ItemTree) → let slots = items_slots told file xs in file.words + file_words told xs ≤ 524288 → Beside LiesWithin slots (Declared (items_pieces xs))
  items_within file [] few = tt
  items_within file (StructItem name members ∷ xs) few = items_within file xs few
  items_within file (VariablesItem variables ∷ xs) few =
      subst (Beside LiesWithin (items_slots told file (VariablesItem variables ∷ xs))) (sym (flat_map-append declared_by_piece (file_pieces variables) (items_pieces xs)))
      (beside_both LiesWithin (file_slots told file variables) (items_slots told (behind_variables told file variables) xs) (Declared (file_pieces variables)) (Declared (items_pieces xs)) (file_within file variables (omega (arith, few)))
      (items_within (behind_variables told file variables) xs (omega (arith, few, all_behind file variables))))
  items_within file (FunctionItem f ∷ xs) few =
      let x = FunctionItem f in
      subst (Beside LiesWithin (items_slots told file (x ∷ xs))) (sym (flat_map-append declared_by_piece (item_pieces x) (items_pieces xs)))
      (beside_both LiesWithin (item_slots told file x) (items_slots told (behind_body told file f.parameters f.body) xs) (Declared (item_pieces x)) (Declared (items_pieces xs))
      (beside_each IsElsewhere LiesWithin away (item_slots told file x) (Declared (item_pieces x)) ((λ e. cc), body_elsewhere file f.parameters f.body) (item_length told file x))
      (items_within (behind_body told file f.parameters f.body) xs (omega (arith, few, same_words file f.parameters f.body))))

module _ (program : ProgramTree) (facts : Facts) (valid : IsCorrect program facts) where
  abbrev T : Tables
  T = tables program facts valid

  abbrev told : Told
  told = told_by facts

  pub lies_within : Fits T program.items → (number : ℕ) (x : DeclaredTree) → slice_get (declarations program) number ≡ Some (Variable x) → (slot T number).home ≡ Global
      → (slot T number).index + (kind_at T x.name.at).words ≤ 524288
  lies_within fits number x is =
      beside_at (LiesWithin told) (slots_of told program.items) (declarations program)
      (subst (Beside (LiesWithin told) (slots_of told program.items)) (of_items program.items).declared
      (items_within told none_taken program.items (omega (arith, total_words program facts program.items, fits.words)))) number (Variable x) is

  -- ---- each item with its slots

  front_some : {X : Type 0} (xs ys : List X) (i : ℕ) (x : X) → slice_get xs i ≡ Some x → slice_get (xs ++ ys) i ≡ Some x
  front_some [] ys i x is = absurd (cc)
  front_some (y ∷ xs) ys zero x is = is
  front_some (y ∷ xs) ys (suc i) x is = front_some xs ys i x is

  -- items from so many declarations on
  pub record AreFrom (n : ℕ) (file : _) (xs : List ItemTree) : Type 0 where
    pub slots : (k : ℕ) (s : Slot) → slice_get (items_slots told file xs) k ≡ Some s → slice_get T.slots (n + k) ≡ Some s
    pub declared : (k : ℕ) (d : DeclarationTree) → slice_get (Declared (items_pieces xs)) k ≡ Some d → slice_get (declarations program) (n + k) ≡ Some d

  pub from_first : AreFrom 0 none_taken program.items
  from_first = record {
    slots = λ k s is. let sum : 0 + k ≡ k = omega arith in ap (slice_get T.slots) sum ∙ is;
    declared = λ k d is. let sum : 0 + k ≡ k = omega arith in ap (slice_get (declarations program)) sum ∙ ap (λ ds. slice_get ds k) (sym (of_items program.items).declared) ∙ is;
  }

  together : (x : ItemTree) (xs : List ItemTree) → Declared (items_pieces (x ∷ xs)) ≡ Declared (item_pieces x) ++ Declared (items_pieces xs)
  together x xs = flat_map-append declared_by_piece (item_pieces x) (items_pieces xs)

  pub from_next : (n : ℕ) (file : _) (x : ItemTree) (xs : List ItemTree) → AreFrom n file (x ∷ xs) → AreFrom (n + length (item_slots told file x)) (behind_item told file x) xs
  from_next n file x xs h =
      let m = length (item_slots told file x) in
      record {
        slots = λ k s is.
            let sum : n + m + k ≡ n + (m + k) = omega arith in
            ap (slice_get T.slots) sum ∙ h.slots (m + k) s (back_get (item_slots told file x) (items_slots told (behind_item told file x) xs) k ∙ is);
        declared = λ k d is.
            let long = item_length told file x in
            let sum : n + m + k ≡ n + (length (Declared (item_pieces x)) + k) = omega (arith, long) in
            ap (slice_get (declarations program)) sum
            ∙ h.declared (length (Declared (item_pieces x)) + k) d
            (ap (λ (ds : List DeclarationTree). slice_get ds (length (Declared (item_pieces x)) + k)) (together x xs) ∙ back_get (Declared (item_pieces x)) (Declared (items_pieces xs)) k ∙ is);
      }

  -- what is declared has a number, and a home
  pub record IsHomed (d : DeclarationTree) : Type 0 where
    pub number : ℕ
    pub there : slice_get (declarations program) number ≡ Some d
    pub home : MayHaveHome told (slot T number) d

  pub item_homed : (n : ℕ) (file : _) (x : ItemTree) (xs : List ItemTree) → IsWholeItem told x → AreFrom n file (x ∷ xs) → Each IsHomed (Declared (item_pieces x))
  item_homed n file x xs whole h = each IsHomed (Declared (item_pieces x)) (λ k d is.
      let here = h.declared k d (ap (λ (ds : List DeclarationTree). slice_get ds k) (together x xs) ∙ front_some (Declared (item_pieces x)) (Declared (items_pieces xs)) k d is) in
      let s = some_at (item_slots told file x) k (omega (arith, item_length told file x, within (Declared (item_pieces x)) k d is)) in
      let same = nth_at no_slot (item_slots told file x) k s.0 s.1 in
      let own = nth_at no_slot T.slots (n + k) s.0 (h.slots k s.0 (front_some (item_slots told file x) (items_slots told (behind_item told file x) xs) k s.0 s.1)) in
      record {
        number = n + k;
        there = here;
        home = subst (λ (t : Slot). MayHaveHome told t d) (same ∙ sym own)
            (beside_at (MayHaveHome told) (item_slots told file x) (Declared (item_pieces x)) (item_homes told file x whole) k d is);
      })
    where
      within : (ds : List DeclarationTree) (k : ℕ) (d : DeclarationTree) → slice_get ds k ≡ Some d → suc k ≤ length ds
      within [] k d is = absurd (cc)
      within (e ∷ ds) zero d is = omega arith
      within (e ∷ ds) (suc k) d is = omega (arith, within ds k d is)

  -- what a piece declares
  abbrev pub Homes : PieceTree → Type 0
  Homes piece = Each IsHomed (declared_by_piece piece)

  pub by_pieces : (ps : List PieceTree) → Each IsHomed (Declared ps) → Each Homes ps
  by_pieces [] h = tt
  by_pieces (q.FileVariable x ∷ ps) h = ((h.0, tt), by_pieces ps h.1)
  by_pieces (q.Variable x ∷ ps) h = ((h.0, tt), by_pieces ps h.1)
  by_pieces (q.Parameter x ∷ ps) h = ((h.0, tt), by_pieces ps h.1)
  by_pieces (q.Header f ∷ ps) h = ((h.0, tt), by_pieces ps h.1)
  by_pieces (q.Used role value ∷ ps) h = (tt, by_pieces ps h)
  by_pieces (q.Return result spot value ∷ ps) h = (tt, by_pieces ps h)
