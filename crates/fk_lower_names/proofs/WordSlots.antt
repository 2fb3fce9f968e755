-- The places of the declarations of a text are low: there are few private ones, and shared words are few.
use Rattle.std.proofs.Common.{◌≡◌, ℕ, ◌+◌, ◌^◌, ◌≤◌, Bool, true, false, List, [], ◌∷◌, ◌++◌, length, Option, Some, None, refl, length-append, arith}
use Rattle.std.specs.Prelude.{if◌then◌else◌}
use Rattle.fk_syntax.specs.Program as p
use Rattle.fk_syntax.specs.Program.{DeclaredTree, Statements, ItemTree}
use Rattle.fk_meaning_forms.specs.declared.tables.Home.TheVariants as h
use Rattle.fk_meaning_forms.specs.declared.tables.Slot.{Slot}
use Rattle.fk_layout_slots.specs.Told.{Told, words_at}
use Rattle.fk_layout_slots.specs.Places.{none_taken, within, outside, behind_private, file_slot, no_slot, behind_words, behind_variable, behind_variables, file_slots}
use Rattle.fk_layout_slots.specs.Slots.{body_slots, items_slots, behind_body}
use Rattle.fk_check_laws.proofs.Each.{Each}
use Rattle.fk_lower_names.proofs.Regions.{join}
use Rattle.fk_lower_names.proofs.Walk.{Joins, of_body, of_header}

abbrev pub most : ℕ
most = 2 ^ 20

abbrev pub IsLow : Slot → Type 0
IsLow s = s.index ≤ most

-- slots that begin with so many private places before them, and end with so many: low, where these are few enough
record Good (slots : List Slot) (from to : ℕ) : Type 0 where
  low : from + length slots ≤ most → Each IsLow slots
  few : to ≤ from + length slots

none : (n : ℕ) → Good [] n n
none n = record { low = λ h. tt; few = omega arith }

both : (xs ys : List Slot) (a b c : ℕ) → Good xs a b → Good ys b c → Good (xs ++ ys) a c
both xs ys a b c h k = record {
  low = λ few.
      let sum = length-append xs ys in
      let hf = h.few in
      join IsLow xs ys (h.low (omega (arith, few, sum))) (k.low (omega (arith, few, sum, hf)));
  few = let sum = length-append xs ys in let hf = h.few in let kf = k.few in omega (arith, sum, hf, kf);
}

joined : Joins Good
joined = record {
  none = none;
  both = both;
  own = λ n. record { low = λ few. (omega (arith, few), tt); few = omega arith };
  word = λ frame words n. record { low = λ few. (omega arith, tt); few = omega arith };
  counted = λ frame words n. record { low = λ few. (omega arith, tt); few = omega arith };
}

module _ (told : Told) where
  body_low : (file : _) (parameters : List DeclaredTree) (body : Option Statements) → length (body_slots told file parameters body) ≤ most → Each IsLow (body_slots told file parameters body)
  body_low file parameters None few = of_header IsLow (omega arith) parameters
  body_low file parameters (Some body) few = (of_body Good joined told file parameters body).low (omega (arith, few))

  -- ---- items

  -- slots of file scope, by the private places and the words that are taken before and behind them, and the words that they take
  record GoodFile (slots : List Slot) (from to before after words : ℕ) : Type 0 where
    low : from + length slots ≤ most → before + words ≤ 524288 → Each IsLow slots
    few : to ≤ from + length slots
    wide : after ≤ before + words

  abbrev pub words_of : DeclaredTree → ℕ
  words_of x = if x.shared then words_at told x.name.at else 0

  abbrev pub all_words : List DeclaredTree → ℕ
  all_words [] = 0
  all_words (x ∷ xs) = words_of x + all_words xs

  file_or : (b : Bool) (taken : _) (x : DeclaredTree)
      → GoodFile ((if b then record { home = h.Global; index = taken.words } else record { home = h.FilePrivate; index = taken.privates }) ∷ [])
      (within taken).privates (within (if b then behind_words told taken x else behind_private taken)).privates (outside taken taken).words
      (outside (if b then behind_words told taken x else behind_private taken) (if b then behind_words told taken x else behind_private taken)).words
      (if b then words_at told x.name.at else 0)
  unfolding within outside behind_words behind_private
  file_or true taken x = record { low = λ few wide. (omega (arith, wide), tt); few = omega arith; wide = omega arith }
  file_or false taken x = record { low = λ few wide. (omega (arith, few), tt); few = omega arith; wide = omega arith }

  one_file : (taken : _) (x : DeclaredTree) → GoodFile (file_slot taken x ∷ []) (within taken).privates (within (behind_variable told taken x)).privates (outside taken taken).words
      (outside (behind_variable told taken x) (behind_variable told taken x)).words (words_of x)
  unfolding file_slot behind_variable
  one_file taken x = file_or x.shared taken x

  file_both : (xs ys : List Slot) (a b c u v w s t : ℕ) → GoodFile xs a b u v s → GoodFile ys b c v w t → GoodFile (xs ++ ys) a c u w (s + t)
  file_both xs ys a b c u v w s t h k = record {
    low = λ few wide.
        let sum = length-append xs ys in
        let hf = h.few in
        let hw = h.wide in
        join IsLow xs ys (h.low (omega (arith, few, sum)) (omega (arith, wide))) (k.low (omega (arith, few, sum, hf)) (omega (arith, wide, hw)));
    few = let sum = length-append xs ys in let hf = h.few in let kf = k.few in omega (arith, sum, hf, kf);
    wide = let hw = h.wide in let kw = k.wide in omega (arith, hw, kw);
  }

  file_none : (n u : ℕ) → GoodFile [] n n u u 0
  file_none n u = record { low = λ few wide. tt; few = omega arith; wide = omega arith }

  of_file : (taken : _) (xs : List DeclaredTree) → GoodFile (file_slots told taken xs) (within taken).privates (within (behind_variables told taken xs)).privates (outside taken taken).words
      (outside (behind_variables told taken xs) (behind_variables told taken xs)).words (all_words xs)
  of_file taken [] = file_none _ _
  of_file taken (x ∷ xs) = file_both _ _ _ _ _ _ _ _ _ _ (one_file taken x) (of_file (behind_variable told taken x) xs)

  same_places : (file : _) (parameters : List DeclaredTree) (body : Option Statements) → (within (behind_body told file parameters body)).privates ≡ (within file).privates
  unfolding within
  same_places file parameters None = refl
  same_places file parameters (Some body) = refl

  same_words : (file : _) (parameters : List DeclaredTree) (body : Option Statements)
      → (outside (behind_body told file parameters body) (behind_body told file parameters body)).words ≡ (outside file file).words
  unfolding outside
  same_words file parameters None = refl
  same_words file parameters (Some body) = refl

  abbrev pub file_words : List ItemTree → ℕ
  file_words [] = 0
  file_words (p.StructItem name members ∷ xs) = file_words xs
  file_words (p.VariablesItem variables ∷ xs) = all_words variables + file_words xs
  file_words (p.FunctionItem f ∷ xs) = 0 + file_words xs

  -- slots of a function: it leaves what is taken of the file
  of_function : (slots : List Slot) (a b u v : ℕ) → (length slots ≤ most → Each IsLow slots) → b ≡ a → v ≡ u → GoodFile slots a b u v 0
  of_function slots a b u v low same wide = record { low = λ few w. low (omega (arith, few)); few = omega (arith, same); wide = omega (arith, wide) }

  head_low : (slots : List Slot) → (length slots ≤ most → Each IsLow slots) → length (no_slot ∷ slots) ≤ most → Each IsLow (no_slot ∷ slots)
  head_low slots h few = (omega arith, h (omega (arith, few)))

  of_items : (file : _) (xs : List ItemTree) → (to after : ℕ) × GoodFile (items_slots told file xs) (within file).privates to (outside file file).words after (file_words xs)
  of_items file [] = ((within file).privates, (outside file file).words, file_none _ _)
  of_items file (p.StructItem name members ∷ xs) = of_items file xs
  of_items file (p.VariablesItem variables ∷ xs) =
      let others = of_items (behind_variables told file variables) xs in
      (others.0, others.1, file_both _ _ _ _ _ _ _ _ _ _ (of_file file variables) others.2)
  of_items file (p.FunctionItem f ∷ xs) =
      let others = of_items (behind_body told file f.parameters f.body) xs in (
        others.0,
        others.1,
        file_both _ _ _ _ _ _ _ _ _ _
            (of_function (no_slot ∷ body_slots told file f.parameters f.body) _ _ _ _ (head_low _ (body_low file f.parameters f.body)) (same_places file f.parameters f.body) (same_words file f.parameters f.body)) others.2,
      )

  nothing_taken : ((within none_taken).privates ≡ 0) × ((outside none_taken none_taken).words ≡ 0)
  unfolding within outside
  nothing_taken = (refl, refl)

  pub slots_low : (xs : List ItemTree) → length (items_slots told none_taken xs) ≤ most → file_words xs ≤ 524288 → Each IsLow (items_slots told none_taken xs)
  slots_low xs few wide =
      let all = of_items none_taken xs in
      let zero = nothing_taken in
      all.2.low (omega (arith, few, zero.0)) (omega (arith, wide, zero.1))
