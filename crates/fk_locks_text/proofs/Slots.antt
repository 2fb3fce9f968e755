-- Where the variables of the lock's functions lie, and that these functions have no group frames.
use Rattle.std.proofs.Common.{◌≡◌, ℕ, suc, ◌<◌, Bool, true, false, List, [], ◌∷◌, ◌++◌, None, refl, ap, ◌∙◌, arith, if◌then◌else◌}
use Rattle.std.specs.Prelude.{All}
use Rattle.fk_syntax.specs.declared.facts.Facts.{Facts}
use Rattle.fk_syntax.specs.declared.place.Place.{Place}
use Rattle.fk_syntax.specs.Program.{ItemTree, FunctionItem}
use Rattle.fk_meaning_forms.specs.declared.tables.Home.TheVariants as h
use Rattle.fk_meaning_forms.specs.declared.tables.Slot.{Slot}
use Rattle.fk_meaning_forms.specs.declared.tables.Region.{Region}
use Rattle.fk_meaning_forms.specs.Tables.{Tables, slot, frame_in, frame_at}
use Rattle.fk_layout_slots.specs.Told.{Told, splits_at}
use Rattle.fk_layout_slots.specs.Places.{none_taken, no_slot, slot_in, behind_private, behind_parameter, behind_variable}
use Rattle.fk_layout_slots.specs.Slots.{item_slots, items_slots, slots_of, behind_item}
use Rattle.fk_layout_slots.specs.Frames.{frame, item_frames, regions_of}
use Rattle.fk_layout.specs.Layout.{told_by, tables_by}
use Rattle.fk_parse_laws.specs.Order.{Ascend, frame_tokens}
use Rattle.fk_parse_laws.proofs.Ordered.{frames_above}
use Rattle.fk_check_laws.proofs.Each.{Each}
use Rattle.fk_check_laws.proofs.Frames.{found_none}
use Rattle.fk_locks_tree.specs.Items.{lock_struct, lock_take, lock_give}
use Rattle.fk_locks_text.proofs.Known.{lock_program}

pub same_if : {X : Type 0} (b : Bool) (x : X) → (if b then x else x) ≡ x
same_if true x = refl
same_if false x = refl

-- a private word of a call
abbrev pub private_word : ℕ → Slot
private_word i = record { home = h.Private; index = i }

-- ---- slots

module _ (told : Told) where
  take_slots : (file : _) → item_slots told file (FunctionItem lock_take) ≡ no_slot ∷ private_word 0 ∷ private_word 1 ∷ []
  unfolding slot_in behind_private behind_parameter behind_variable
  take_slots file = ap (λ (l : List Slot). no_slot ∷ private_word 0 ∷ private_word 1 ∷ (l ++ [])) (same_if (splits_at told 34) [])

  give_slots : (file : _) → item_slots told file (FunctionItem lock_give) ≡ no_slot ∷ private_word 0 ∷ []
  unfolding slot_in behind_private behind_parameter behind_variable
  give_slots file = refl

  -- those of the other items
  abbrev rest_of : List ItemTree → List Slot
  rest_of others = items_slots told (behind_item told (behind_item told none_taken (FunctionItem lock_take)) (FunctionItem lock_give)) others

  slots_are : (others : List ItemTree) → slots_of told (lock_struct ∷ FunctionItem lock_take ∷ FunctionItem lock_give ∷ others)
      ≡ no_slot ∷ private_word 0 ∷ private_word 1 ∷ no_slot ∷ private_word 0 ∷ rest_of others
  slots_are others =
      ap (λ (l : List Slot). l ++ (item_slots told (behind_item told none_taken (FunctionItem lock_take)) (FunctionItem lock_give) ++ rest_of others)) (take_slots none_taken)
      ∙ ap (λ (l : List Slot). no_slot ∷ private_word 0 ∷ private_word 1 ∷ (l ++ rest_of others)) (give_slots (behind_item told none_taken (FunctionItem lock_take)))

  -- ---- group frames

  take_frames : item_frames told (FunctionItem lock_take) ≡ []
  take_frames = ap (λ words. frame 12 0 0 words ++ ((if splits_at told 34 then [] else []) ++ [])) (same_if (splits_at told 34) 0) ∙ ap (λ (l : List Region). l ++ []) (same_if (splits_at told 34) [])

  give_frames : item_frames told (FunctionItem lock_give) ≡ []
  give_frames = refl

  regions_are : (others : List ItemTree) → regions_of told (lock_struct ∷ FunctionItem lock_take ∷ FunctionItem lock_give ∷ others) ≡ regions_of told others
  regions_are others = ap (λ (l : List Region). l ++ (item_frames told (FunctionItem lock_give) ++ regions_of told others)) take_frames

-- the frames of the other items are at later tokens

each_of : {X : Type 0} (P : X → Type 0) (xs : List X) → All P xs → Each P xs
each_of P [] all = tt
each_of P (x ∷ xs) all = (all 0 x (omega arith), each_of P xs (λ k d low. all (suc k) d (omega (arith, low))))

abbrev IsLater : Region → Type 0
IsLater r = 45 < r.at

later : (told : Told) (others : List ItemTree) → Ascend (0 ∷ 12 ∷ 34 ∷ 45 ∷ frame_tokens others) → Each IsLater (regions_of told others)
later told others ascend =
    each_of IsLater (regions_of told others)
    (frames_above told others 45 (λ k d low. ascend 3 (suc (suc (suc (suc k)))) d (omega arith) (omega (arith, low))))

no_frame : (tables : Tables) (at : ℕ) → at < 46 → (regions others : List Region) → regions ≡ others → Each IsLater others → frame_in tables regions at 0 ≡ None
no_frame tables at small regions others is all =
    ap (λ rs. frame_in tables rs at 0) is ∙ found_none tables IsLater at 0 (λ r late same. absurd (omega (arith, late, same, small))) others all

-- ---- in the tables of a text

module _ (others : List ItemTree) (end : Place) (count : ℕ) (facts : Facts) where
  abbrev T : Tables
  T = tables_by (lock_program others end count) facts

  abbrev all_slots : List Slot
  all_slots = no_slot ∷ private_word 0 ∷ private_word 1 ∷ no_slot ∷ private_word 0 ∷ rest_of (told_by facts) others

  abbrev with_slots : List Slot → Tables
  with_slots slots = record T { slots = slots }

  slot_is : (n : ℕ) → slot T n ≡ slot (with_slots all_slots) n
  slot_is n = ap (λ slots. slot (with_slots slots) n) (slots_are (told_by facts) others)

  pub take_parameter_slot : slot T 1 ≡ private_word 0
  take_parameter_slot = slot_is 1

  pub ticket_slot : slot T 2 ≡ private_word 1
  ticket_slot = slot_is 2

  pub give_parameter_slot : slot T 4 ≡ private_word 0
  give_parameter_slot = slot_is 4

  module _ (ascend : Ascend (0 ∷ frame_tokens (lock_program others end count).items)) where
    pub take_unframed : frame_at T 12 0 ≡ None
    take_unframed = no_frame T 12 (omega arith) T.regions (regions_of (told_by facts) others) (regions_are (told_by facts) others) (later (told_by facts) others ascend)

    pub give_unframed : frame_at T 45 0 ≡ None
    give_unframed = no_frame T 45 (omega arith) T.regions (regions_of (told_by facts) others) (regions_are (told_by facts) others) (later (told_by facts) others ascend)
