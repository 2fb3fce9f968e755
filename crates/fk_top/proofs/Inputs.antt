-- The numbers of an input text are words, and as few as they may be.
use Rattle.std.proofs.Common.{◌≡◌, ℕ, ℤ, pos, negsuc, ◌+◌, ◌^◌, ◌<◌, ◌≤◌, Bool, true, false, List, [], ◌∷◌, Option, Some, None, Ok, Err, All, length, map, refl, sym, ap, ◌∙◌, subst, arith}
use Rattle.std.specs.Prelude.{nat_lt, vec_len}
use Rattle.std.proofs.lemmas.Bool.{ltb-false}
use Rattle.std.proofs.lemmas.List.{length-map}
use Rattle.std.proofs.lemmas.List.Elements.{All-nil, All-cons}
use Rattle.fk_num.specs.Limits.{most_text_bytes}
use Rattle.fk_num.specs.Op.{residue}
use Rattle.fk_top_input.specs.declared.fault.InputFault.{InputFault}
use Rattle.fk_top_input.specs.Input.{words, number_of, value_of, number_fault, faults_from, input_of}
use Rattle.fk_image.specs.declared.Image.{Image}
use Rattle.fk_image.specs.Limits.{IsWithinLimits}
use Rattle.fk_sim_rounds.specs.Follows.{IsInput}
use Rattle.fk_top.specs.Outcome.{most_numbers, numbers_for}

residue_below : (z : ℤ) → residue 32 z < 2 ^ 32
residue_below (pos a) = omega arith
residue_below (negsuc a) = omega arith

are_words : (ws : List (List ℕ)) → All (λ n. n < 2 ^ 32) (map number_of ws)
are_words [] = All-nil (λ n. n < 2 ^ 32)
are_words (w ∷ ws) = All-cons (λ n. n < 2 ^ 32) (number_of w) (map number_of ws) (residue_below (value_of w)) (are_words ws)

-- words without a fault, where the first has a place within the limit or just behind it, end within it
few_from : (limit place : ℕ) (ws : List (List ℕ)) → faults_from limit place ws ≡ [] → place ≤ limit + 1 → place + length ws ≤ limit + 1
few_from limit place [] none le = omega arith
few_from limit place (w ∷ ws) none le = by (few_from limit (place + 1) ws) (nat_lt limit place) refl (number_fault place w) refl
  where
    by : (faults_from limit (place + 1) ws ≡ [] → place + 1 ≤ limit + 1 → place + 1 + length ws ≤ limit + 1)
        → (b : Bool) → nat_lt limit place ≡ b → (f : Option InputFault) → number_fault place w ≡ f → place + length (w ∷ ws) ≤ limit + 1
    by behind true past f is = absurd (let bad = rw past at none in cc)
    by behind false within (Some f) is = absurd (let bad = rw (within, is) at none in cc)
    by behind false within None is =
        let rest : faults_from limit (place + 1) ws ≡ [] = rw (within, is) at none in
        let more = behind rest (let low = ltb-false limit place within in omega arith) in
        omega arith

-- what there is where a text gives numbers
pub record GivesNumbers (limit : ℕ) (text numbers : List ℕ) : Type 0 where
  pub are : numbers ≡ map number_of (words text)
  pub none : faults_from limit 1 (words text) ≡ []

gives : (limit : ℕ) (text numbers : List ℕ) → input_of limit text ≡ Ok numbers → GivesNumbers limit text numbers
gives limit text numbers e = by (nat_lt most_text_bytes (length text)) refl (faults_from limit 1 (words text)) refl
  where
    by : (b : Bool) → nat_lt most_text_bytes (length text) ≡ b → (fs : List InputFault) → faults_from limit 1 (words text) ≡ fs → GivesNumbers limit text numbers
    by true long fs is = absurd (let bad = rw long at e in cc)
    by false short (f ∷ fs) is = absurd (let bad = rw (short, is) at e in cc)
    by false short [] is =
        let same : Ok (map number_of (words text)) ≡ Ok numbers = rw (short, is) at e in
        record { are = cc; none = is }

pub few_numbers : (limit : ℕ) (text numbers : List ℕ) → input_of limit text ≡ Ok numbers → length numbers ≤ limit
few_numbers limit text numbers e =
    let given = gives limit text numbers e in
    let few = few_from limit 1 (words text) given.none (omega arith) in
    subst (λ (ns : List ℕ). length ns ≤ limit) (sym given.are) (omega (arith, length-map (words text) number_of))

-- what is read for an image is an input of its machine
pub is_input : (image : Image) (text numbers : List ℕ) → IsWithinLimits image → numbers_for image text ≡ Ok numbers → IsInput image numbers
is_input image text numbers limits e =
    let few = few_numbers (most_numbers (vec_len image.globals)) text numbers e in
    record {
      few = omega arith;
      room = omega (arith, limits.globals);
      words = subst (All (λ n. n < 2 ^ 32)) (sym (gives _ text numbers e).are) (are_words (words text));
    }

-- so is what is read within a limit that goes by its globals
pub is_input_within : (image : Image) (text numbers : List ℕ) (limit globals : ℕ) → IsWithinLimits image → limit ≡ most_numbers globals → globals ≡ vec_len image.globals → input_of limit text ≡ Ok numbers
    → IsInput image numbers
is_input_within image text numbers limit globals limits limited counted read =
    is_input image text numbers limits (ap (λ (n : ℕ). input_of n text) (sym (limited ∙ ap most_numbers counted)) ∙ read)

-- the empty text is not refused
pub none_refused : (image : Image) (fault : InputFault) → numbers_for image [] ≡ Err fault → ⊥
none_refused image fault e = let bad : Ok [] ≡ Err fault = e in cc
