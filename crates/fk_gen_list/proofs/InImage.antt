-- Lines that were assembled stand in an image.
use Rattle.std.proofs.Common.{◌≡◌, ℕ, zero, suc, ◌+◌, ◌*◌, ◌<◌, ◌≤◌, List, [], ◌∷◌, ◌++◌, length, Option, Some, None, IsSome, cond, All, sym, ap, subst, ◌∙◌, arith, refl, eq-eqb}
use Rattle.std.specs.Prelude.{map, slice_get, slice_index_or, option_map}
use Rattle.std.specs.List.{enumerate_from}
use Rattle.std.specs.Option.{option_map_or}
use Rattle.std.proofs.lemmas.Bool.{ne_eqb}
use Rattle.std.proofs.lemmas.List.Elements.{All-head, All-tail}
use Rattle.std.proofs.lemmas.Option.{slice_get-map, slice_get_within}
use Rattle.fk_image.specs.declared.Image.{Image}
use Rattle.fk_image.specs.Limits.{count_of_word}
use Rattle.fk_isa.specs.declared.instruction.Instruction.{Instruction}
use Rattle.fk_isa.specs.Find.{row}
use Rattle.fk_asm.specs.Jump.{distance, with_distance}
use Rattle.fk_asm.specs.Assembly.{IsBound, placed, instructions}
use Rattle.fk_asm.specs.Block.{MarkedLine, lines_of, entry_at, entries_from}
use Rattle.fk_machine.specs.Run.{count_in}
use Rattle.fk_sim_nodes.specs.Alone.{IsAt}
use Rattle.fk_gen.specs.InPlace.{resolved, count_of_commit, LinesAt}

-- ---- a part of the lines

-- these stand in the list from an index on
abbrev pub Within : List MarkedLine → ℕ → List MarkedLine → Type 0
Within all k [] = Unit {0}
Within all k (m ∷ part) = (slice_get all k ≡ Some m) × Within all (suc k) part

within_shift : (x : MarkedLine) (all : List MarkedLine) (k : ℕ) (part : List MarkedLine) → Within all k part → Within (x ∷ all) (suc k) part
within_shift x all k [] w = tt
within_shift x all k (m ∷ part) w = (w.0, within_shift x all (suc k) part w.1)

pub within_self : (all : List MarkedLine) → Within all 0 all
within_self [] = tt
within_self (m ∷ all) = (refl, within_shift m all 0 all (within_self all))

pub within_front : (all a b : List MarkedLine) (k : ℕ) → Within all k (a ++ b) → Within all k a
within_front all [] b k w = tt
within_front all (m ∷ a) b k w = (w.0, within_front all a b (suc k) w.1)

pub within_back : (all a b : List MarkedLine) (k : ℕ) → Within all k (a ++ b) → Within all (k + length a) b
within_back all [] b k w = let e : k ≡ k + 0 = omega arith in subst (λ j. Within all j b) e w
within_back all (m ∷ a) b k w = let e : suc k + length a ≡ k + suc (length a) = omega arith in subst (λ j. Within all j b) e (within_back all a b (suc k) w.1)

-- ---- counts

skip : (j : ℕ) (commit : Option ℕ) (later : List (ℕ × ℕ)) (a : ℕ) → (4 * j ≡ a → ⊥) → count_in (entry_at j commit ++ later) a ≡ count_in later a
skip j None later a ne = refl
skip j (Some commit) later a ne = ap (λ b. cond b (count_of_word commit) (count_in later a)) (ne_eqb (4 * j) a ne)

here : (j : ℕ) (commit : Option ℕ) (later : List (ℕ × ℕ)) (a : ℕ) → a ≡ 4 * j → count_in later a ≡ 0
    → count_in (entry_at j commit ++ later) a ≡ count_of_commit commit
here j None later a e none' = none'
here j (Some commit) later a e none' = ap (λ b. cond b (count_of_word commit) (count_in later a)) (eq-eqb (4 * j) a (sym e))

none_below : (j : ℕ) (all : List MarkedLine) (a : ℕ) → a < 4 * j → count_in (entries_from j all) a ≡ 0
none_below j [] a lt = refl
none_below j (m ∷ all) a lt = skip j m.commit (entries_from (j + 1) all) a (omega arith) ∙ none_below (j + 1) all a (omega arith)

count_get : (all : List MarkedLine) (j k : ℕ) (m : MarkedLine) (a : ℕ) → slice_get all k ≡ Some m → a ≡ 4 * (j + k)
    → count_in (entries_from j all) a ≡ count_of_commit m.commit
count_get [] j k m a h same = absurd (cc)
count_get (x ∷ all) j zero m a h same =
    let one : x ≡ m = cc in
    here j x.commit (entries_from (j + 1) all) a (omega arith) (none_below (j + 1) all a (omega arith)) ∙ ap (λ l. count_of_commit l.commit) one
count_get (x ∷ all) j (suc k) m a h same = skip j x.commit (entries_from (j + 1) all) a (omega arith) ∙ count_get all (j + 1) k m a h (omega arith)

-- ---- instructions

-- the word of each label: one that is not bound is taken for the end of the code
abbrev pub word_or : (end : ℕ) → Option ℕ → ℕ
word_or end None = end
word_or end (Some word) = word

abbrev pub bound_in : List (Option ℕ) → (end label : ℕ) → ℕ
bound_in bound end label = word_or end (slice_index_or bound label None)

resolved_to : (i : Instruction) (k end : ℕ) (to : Option ℕ) → IsSome to
    → option_map_or (with_distance i) (option_map (distance k) to) i ≡ with_distance i (distance k (word_or end to))
resolved_to i k end None is = absurd (cc)
resolved_to i k end (Some to) is = refl

resolved_by : (bound : List (Option ℕ)) (end k : ℕ) (i : Instruction) (label : Option ℕ)
    → IsBound bound (record { instruction = i; label = label })
    → placed bound k (record { instruction = i; label = label }) ≡ resolved (bound_in bound end) k (record { instruction = i; label = label })
resolved_by bound end k i None is = refl
resolved_by bound end k i (Some label) is = resolved_to i k end (slice_index_or bound label None) is

placed_get : (bound : List (Option ℕ)) (all : List MarkedLine) (j k n : ℕ) (m : MarkedLine) → slice_get all k ≡ Some m → n ≡ j + k
    → slice_get (map (λ word. placed bound word.0 word.1) (enumerate_from j (lines_of all))) k ≡ Some (placed bound n m.line)
placed_get bound [] j k n m h same = absurd (cc)
placed_get bound (x ∷ all) j zero n m h same =
    let one : x ≡ m = cc in
    let at : j ≡ n = omega arith in
    ap (λ l. Some (placed bound j l.line)) one ∙ ap (λ i. Some (placed bound i m.line)) at
placed_get bound (x ∷ all) j (suc k) n m h same = placed_get bound all (j + 1) k n m h (omega arith)

bound_get : (bound : List (Option ℕ)) (all : List MarkedLine) (k : ℕ) (m : MarkedLine) → slice_get all k ≡ Some m
    → All (IsBound bound) (lines_of all) → IsBound bound m.line
bound_get bound [] k m h is = absurd (cc)
bound_get bound (x ∷ all) zero m h is =
    let one : x ≡ m = cc in
    subst (λ l. IsBound bound l.line) one (All-head (IsBound bound) x.line (lines_of all) is)
bound_get bound (x ∷ all) (suc k) m h is = bound_get bound all k m h (All-tail (IsBound bound) x.line (lines_of all) is)

-- ---- an image of assembled lines

pub record IsAssembled (image : Image) (bound : List (Option ℕ)) (all : List MarkedLine) : Type 0 where
  pub few : length all ≤ 262144
  pub code : map row image.code.items ≡ map Some (instructions bound (lines_of all))
  pub commits : image.commits.items ≡ entries_from 0 all
  pub are_bound : All (IsBound bound) (lines_of all)

module _ (image : Image) (bound : List (Option ℕ)) (all : List MarkedLine) (is : IsAssembled image bound all) where
  is_at : (end k : ℕ) (m : MarkedLine) → slice_get all k ≡ Some m
      → IsAt image k (resolved (bound_in bound end) k m.line) (count_of_commit m.commit)
  is_at end k m h = record {
    within = let lt = slice_get_within all k m h in let few = is.few in omega arith;
    fetched =
        ap (λ c. slice_get c k) is.code
        ∙ slice_get-map Some (instructions bound (lines_of all)) k
        ∙ ap (option_map Some) (placed_get bound all 0 k k m h (omega arith))
        ∙ ap (λ i. Some (Some i)) (resolved_by bound end k m.line.instruction m.line.label (bound_get bound all k m h is.are_bound));
    counted = ap (λ c. count_in c (4 * k)) is.commits ∙ count_get all 0 k m (4 * k) h (omega arith);
  }

  -- each part stands where it begins
  pub lines_at : (end k : ℕ) (part : List MarkedLine) → Within all k part → LinesAt image (bound_in bound end) k part
  lines_at end k [] w = tt
  lines_at end k (m ∷ part) w = (is_at end k m w.0, lines_at end (suc k) part w.1)
