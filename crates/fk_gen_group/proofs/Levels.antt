-- The levels round a processor stay where no word of theirs is written.
use Rattle.std.proofs.Common.{◌≡◌, ℕ, zero, suc, ◌+◌, ◌-◌, ◌*◌, ◌<◌, ◌≤◌, List, [], ◌∷◌, length, false, Option, Some, None, sym, ap, subst, ◌∙◌, arith, refl}
use Rattle.std.specs.Prelude.{◌==◌}
use Rattle.std.proofs.lemmas.Bool.{ne_eqb}
use Rattle.fk_num.specs.Word.{Memory}
use Rattle.fk_meaning.specs.Processor.{Level, Call}
use Rattle.fk_sim_block.specs.Stands.{Places, HasWaiting, ahead, frame_start, frame_end}
use Rattle.fk_sim_block.specs.Node.{Nestings, HasLevelRoom, HasFramesEnd, HasLevelBy, HasSaved, HasOuter, LieBelow, past_levels, saved_at, frames_word}
use Rattle.fk_sim_block.specs.Lockstep.{LevelsStay}

-- where the frames of a level end
end_kept : (m m' : Memory) (header number words : ℕ) (l : Level) (outer : List Level) → m' header ≡ m header → HasFramesEnd m header number words l outer → HasFramesEnd m' header number words l outer
end_kept m m' header zero words l outer same held = same ∙ held
end_kept m m' header (suc n) words l outer same held = held

level_kept : (m m' : Memory) (fork : Option ℕ) (header at number : ℕ) (l : Level) (outer : List Level) → m' header ≡ m header → ((j : ℕ) → at ≤ j → j < at + 4 → m' j ≡ m j)
    → HasLevelBy fork m header at number l outer → HasLevelBy fork m' header at number l outer
level_kept m m' None header at number l outer head same held = record {
  size = same at (omega arith) (omega arith) ∙ held.size;
  node = same (at + 1) (omega arith) (omega arith) ∙ held.node;
  blocks = same (at + 2) (omega arith) (omega arith) ∙ held.blocks;
  frames = same (at + 3) (omega arith) (omega arith) ∙ held.frames;
}
level_kept m m' (Some words) header at number l outer head same held = record {
  size = same at (omega arith) (omega arith) ∙ held.size;
  few = held.few;
  node = same (at + 1) (omega arith) (omega arith) ∙ held.node;
  blocks = same (at + 2) (omega arith) (omega arith) ∙ held.blocks;
  rank = same (at + 3) (omega arith) (omega arith) ∙ held.rank;
  frames = end_kept m m' header number words l outer head held.frames;
}

pub saved_kept : (m m' : Memory) (forks : ℕ → Option ℕ) (header at count : ℕ) (levels : List Level) → m' header ≡ m header → ((j : ℕ) → at ≤ j → j < at + 4 * count → m' j ≡ m j)
    → HasSaved m forks header at count levels → HasSaved m' forks header at count levels
saved_kept m m' forks header at zero levels head same held = tt
saved_kept m m' forks header at (suc n) [] head same held = absurd held
saved_kept m m' forks header at (suc n) (l ∷ levels) head same held = (
  level_kept m m' (forks n) header (at + 4 * n) n l levels head (λ j le lt. same j (omega arith) (omega arith)) held.0,
  saved_kept m m' forks header at n levels head (λ j le lt. same j le (omega arith)) held.1,
)

-- forks left the same levels
pub saved_by : (m : Memory) (forks forks' : ℕ → Option ℕ) (header at count : ℕ) (levels : List Level) → ((n : ℕ) → n < count → forks' n ≡ forks n)
    → HasSaved m forks header at count levels → HasSaved m forks' header at count levels
saved_by m forks forks' header at zero levels same held = tt
saved_by m forks forks' header at (suc n) [] same held = absurd held
saved_by m forks forks' header at (suc n) (l ∷ levels) same held = (
  subst (λ f. HasLevelBy f m header (at + 4 * n) n l levels) (sym (same n (omega arith))) held.0,
  saved_by m forks forks' header at n levels (λ k lt. same k (omega arith)) held.1,
)

module _ (places : Places) (nestings : Nestings) where
  pub starts_behind : (n index : ℕ) → places.frames.of_file ≤ 56 → places.frames.of_file + 7 ≤ saved_at places nestings n index
  starts_behind zero index few = omega arith
  starts_behind (suc n) index few = omega arith

  -- those of calls that wait lie below the running call's frame, and behind the variables of file scope
  pub outer_kept : (processors number : ℕ) (m m' : Memory) (indices : List ℕ) (levels : List Level) → places.frames.of_file ≤ 56
      → (0 < length indices → m' 4 ≡ m 4) → ((j : ℕ) → places.frames.of_file + 7 ≤ j → j < 64 * length indices → m' j ≡ m j)
      → HasOuter places nestings processors number m indices levels → HasOuter places nestings processors number m' indices levels
  outer_kept processors number m m' [] levels few head same held = held
  outer_kept processors number m m' (i ∷ indices) levels few head same held =
      let room = held.0 in
      let start = starts_behind (length indices) i few in (
        held.0,
        saved_kept m m' (nestings.forks i) (frames_word (length indices)) (saved_at places nestings (length indices) i) (nestings.levels i) levels
            (header_kept (length indices) (omega arith)) (λ j le lt. same j (omega arith) (omega arith)) held.1,
        outer_kept processors number m m' indices (past_levels (nestings.levels i) levels) few (λ lt. head (omega arith)) (λ j le lt. same j le (omega arith)) held.2,
      )
    where
      header_kept : (n : ℕ) → n < suc (length indices) → m' (frames_word n) ≡ m (frames_word n)
      header_kept zero lt = head (omega arith)
      header_kept (suc n) lt = same (frames_word (suc n)) (omega arith) (omega arith)

  -- the running call goes on at another index with the same levels in its frame, and no word of theirs is written
  pub outer_by : (processors number : ℕ) (m m' : Memory) (i j : ℕ) (callers : List ℕ) (levels : List Level) → places.frames.of_file ≤ 56 → LevelsStay nestings i j
      → m' 4 ≡ m 4 → m' (frames_word (length callers)) ≡ m (frames_word (length callers)) → ((x : ℕ) → places.frames.of_file + 7 ≤ x → x < 64 * length callers → m' x ≡ m x)
      → ((x : ℕ) → saved_at places nestings (length callers) i ≤ x → x < saved_at places nestings (length callers) i + 4 * nestings.levels i → m' x ≡ m x)
      → HasOuter places nestings processors number m (i ∷ callers) levels → HasOuter places nestings processors number m' (j ∷ callers) levels
  outer_by processors number m m' i j callers levels few stay main head low here held =
      let n = length callers in
      let e = stay.levels in
      let f = stay.behind in
      let room = held.0 in (
        subst (λ c. saved_at places nestings n j + 4 * c ≤ frame_end n) (sym e) (omega arith),
        subst (λ c. HasSaved m' (nestings.forks j) (frames_word n) (saved_at places nestings n j) c levels) (sym e)
            (subst (λ b. HasSaved m' (nestings.forks j) (frames_word n) (frame_start places n + 7 + b) (nestings.levels i) levels) (sym f)
            (saved_by m' (nestings.forks i) (nestings.forks j) (frames_word n) (saved_at places nestings n i) (nestings.levels i) levels stay.forks
            (saved_kept m m' (nestings.forks i) (frames_word n) (saved_at places nestings n i) (nestings.levels i) levels head here held.1))),
        subst (λ c. HasOuter places nestings processors number m' callers (past_levels c levels)) (sym e)
            (outer_kept processors number m m' callers (past_levels (nestings.levels i) levels) few (λ lt. main) low held.2),
      )

  -- so many values lie behind them
  abbrev pub below_values : (waiting index values : ℕ) → Type 0
  below_values waiting index values = saved_at places nestings waiting index + 4 * nestings.levels index ≤ frame_end waiting - values

  pub lies_below : (waiting index values : ℕ) → places.frames.is_main index ≡ (waiting == 0) → HasLevelRoom places.frames nestings index values → below_values waiting index values
  lies_below zero index values home room =
      let e : ahead places.frames (places.frames.is_main index) ≡ places.frames.of_file = ap (ahead places.frames) home in
      let r = room.room in
      omega arith
  lies_below (suc n) index values home room =
      let other : (suc n == 0) ≡ false = ne_eqb (suc n) 0 (λ e. omega arith) in
      let e : ahead places.frames (places.frames.is_main index) ≡ 0 = ap (ahead places.frames) (home ∙ other) in
      let r = room.room in
      omega arith

  starts_above : (n : ℕ) → 64 * n ≤ frame_start places n
  starts_above zero = omega arith
  starts_above (suc n) = omega arith

  -- where only values are written
  pub outer_on : (processors number : ℕ) (m m' : Memory) (i j count : ℕ) (callers : List ℕ) (levels : List Level) → places.frames.of_file ≤ 56 → LevelsStay nestings i j
      → below_values (length callers) i count → ((x : ℕ) → x < frame_end (length callers) - count → m' x ≡ m x) → 64 * length callers ≤ frame_end (length callers) - count
      → HasOuter places nestings processors number m (i ∷ callers) levels → HasOuter places nestings processors number m' (j ∷ callers) levels
  outer_on processors number m m' i j count callers levels few stay below same above held =
      let start = starts_above (length callers) in
      outer_by processors number m m' i j callers levels few stay (same 4 (omega arith)) (same (frames_word (length callers)) (omega arith)) (λ x le lt. same x (omega arith)) (λ x le lt. same x (omega arith)) held

  -- as many calls wait as there are indices where they go on
  pub many_callers : (m : Memory) (backs : List ℕ) (calls : List Call) → HasWaiting places m backs calls → length backs ≡ length calls
  many_callers m [] [] held = refl
  many_callers m (b ∷ backs) (c ∷ calls) held = ap (λ k. suc k) (many_callers m backs calls held.2)
  many_callers m backs calls held = absurd (assumption held)

  -- a call begins, whose frame has no levels: all below it is as it was
  pub outer_of_call : (processors number : ℕ) (m m' : Memory) (i back entry : ℕ) (callers : List ℕ) (levels : List Level) → places.frames.of_file ≤ 56 → LevelsStay nestings i back
      → nestings.levels entry ≡ 0 → nestings.behind entry ≤ 57 → ((x : ℕ) → x < frame_end (length callers) → m' x ≡ m x)
      → HasOuter places nestings processors number m (i ∷ callers) levels → HasOuter places nestings processors number m' (entry ∷ back ∷ callers) levels
  outer_of_call processors number m m' i back entry callers levels few stay none low same held =
      let room = held.0 in
      let on = outer_by processors number m m' i back callers levels few stay (same 4 (omega arith)) (same (frames_word (length callers)) (omega arith)) (λ x from lt. same x (omega arith)) (λ x from lt. same x (omega arith)) held in (
        omega arith,
        subst (λ c. HasSaved m' (nestings.forks entry) (frames_word (suc (length callers))) (saved_at places nestings (suc (length callers)) entry) c levels) (sym none) tt,
        subst (λ c. HasOuter places nestings processors number m' (back ∷ callers) (past_levels c levels)) (sym none) on,
      )

  -- one ends, whose frame has no levels: all below the word that takes its result is as it was
  pub outer_of_caller : (processors number : ℕ) (m m' : Memory) (i b : ℕ) (c : Call) (callers : List ℕ) (calls : List Call) (levels : List Level) → places.frames.of_file ≤ 56
      → nestings.levels i ≡ 0 → LieBelow places nestings (b ∷ callers) (c ∷ calls) → length callers ≡ length calls
      → ((x : ℕ) → x < frame_end (length calls) - suc (length c.values) → m' x ≡ m x)
      → HasOuter places nestings processors number m (i ∷ b ∷ callers) levels → HasOuter places nestings processors number m' (b ∷ callers) levels
  outer_of_caller processors number m m' i b c callers calls levels few none below many same held =
      let room = below.0 in
      let start = starts_above (length calls) in
      let starts = ap (frame_start places) many in
      outer_by processors number m m' b b callers levels few (record { levels = refl; behind = refl; forks = λ n lt. refl })
      (same 4 (omega arith))
      (same (frames_word (length callers)) (omega arith))
      (λ x from lt. same x (omega arith))
      (λ x from lt. same x (omega arith))
      (subst (λ k. HasOuter places nestings processors number m (b ∷ callers) (past_levels k levels)) none held.2)

  -- as many values more have room behind the levels
  pub values_behind : (waiting index values : ℕ) → below_values waiting index values → saved_at places nestings waiting index + 4 * nestings.levels index + values ≤ frame_end waiting
  values_behind waiting index values below = omega arith
