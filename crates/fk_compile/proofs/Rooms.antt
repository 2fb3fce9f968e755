-- The levels that are found for a list have room in its frames, and go with its operations.
use Rattle.std.proofs.Common.{◌≡◌, ◌⊎◌, ℕ, zero, suc, ◌+◌, ◌-◌, ◌*◌, ◌<◌, ◌≤◌, Bool, true, false, List, [], ◌∷◌, length, map, slice_get, Option, Some, None, inl, inr, refl, sym, ap, ◌∙◌, subst, arith}
use Rattle.std.specs.Prelude.{◌==◌, ◌&&◌, not, nat_lt, if◌then◌else◌}
use Rattle.std.proofs.lemmas.Bool.{ltb-true, lt-ltb, eqb-true, eq-eqb, ne_eqb, and_parts}
use Rattle.std.proofs.lemmas.List.Elements.{All-head}
use Rattle.std.proofs.lemmas.Option.{slice_get_within}
use Rattle.fk_meaning_operation.specs.declared.operation.Operation.{Operation}
use Rattle.fk_meaning_operation.specs.declared.operation.Operation.TheVariants as o
use Rattle.fk_meaning_operation.specs.declared.operation.OwnValue.TheVariants as own
use Rattle.fk_meaning_operation.specs.declared.operation.Variable.TheVariants as v
use Rattle.fk_meaning_operation.specs.declared.operation.SplitKind.{SplitKind}
use Rattle.fk_meaning_operation.specs.declared.operation.SplitKind.TheVariants as sk
use Rattle.fk_meaning.specs.Group.{taken_by}
use Rattle.fk_meaning.proofs.Spine.{untrue}
use Rattle.fk_meaning.specs.Behind.{tail}
use Rattle.fk_core.specs.declared.op.CoreOp.{CoreOp}
use Rattle.fk_core.specs.Numbers.{operation_of}
use Rattle.fk_core.specs.Next.{is_jump, behind_jump, follows}
use Rattle.fk_core.proofs.Leading.{op_stops}
use Rattle.fk_core_levels.specs.Count.{read, counts}
use Rattle.fk_core_levels.specs.Count as counting
use Rattle.fk_core_levels.specs.Behind.{up_to, named, leads_by, leads, goes_on_by, goes_on}
use Rattle.fk_core_levels.specs.Forks.{level_forks}
use Rattle.fk_core_levels.proofs.Lasts.{levels_tell_forks}
use Rattle.fk_core_levels.specs.Levels.{behind_in, AreLevels}
use Rattle.fk_compile.proofs.Forks.{FramesAreSmall, forks_are_small}
use Rattle.fk_core_liveness.specs.declared.set.Set.{Set}
use Rattle.fk_core_liveness.specs.declared.places.FunctionKind.TheVariants.{Main}
use Rattle.fk_core_liveness.specs.Frames.{is_main_place}
use Rattle.fk_core_liveness.specs.Live.{reads, kept_behind, asked_by, asked_of, IsLive, IsLeast, words_in}
use Rattle.fk_core_liveness.proofs.Asked.{split_or}
use Rattle.fk_core_typing.specs.Laws.{LeadsWithin}
use Rattle.fk_core_typing.specs.Values.{Place, entered, place_behind}
use Rattle.fk_lockstep_frames.specs.Nests.{Nest, OfFunction, OfPart, nesting, levels_of, left_by_fork, forks_of, is_numbered, take_frame, IsInPart}
use Rattle.fk_gen.specs.declared.placed.Levels.{Levels}
use Rattle.fk_gen.specs.Levels.{levels_in}
use Rattle.fk_gen.specs.Keeps.{peak}
use Rattle.fk_gen_group.specs.Blocks.{is_group_step, HasLevelWords}
use Rattle.fk_gen_group.specs.InNode.{LevelsFit}
use Rattle.fk_gen_group.specs.Laws.{GoesOnWith, GoesAside, LeavesBy, last_fork}
use Rattle.fk_gen_list.specs.Generable.{places_in}
use Rattle.fk_gen_list.specs.Laws.{leads_away, nestings_of, EndsLevel, OpensLevel}
use Rattle.fk_gen_list.specs.Whole.{HaveAllLevels}
use Rattle.fk_sim_block.specs.Next.{OpAt}
use Rattle.fk_sim_block.specs.Node.{Gathering, Nestings, HasLevelRoom}
use Rattle.fk_sim_block.specs.Ready.{is_alone}
use Rattle.fk_sim_block.specs.Stands.{Frames, Places, ahead}
use Rattle.fk_sim_block.specs.Suits.{writes}
use Rattle.fk_sim_block.specs.Lists.{is_end}
use Rattle.fk_sim_block.specs.Lockstep.{LevelsStay, LevelOpens}
use Rattle.fk_lower_laws.specs.Certain.{HasFrames}
use Rattle.fk_lower_laws.specs.Laws.{TellsNests}
use Rattle.fk_lower_laws.specs.Levels as rooms

-- ---- levels at a place

module _ (p : Place) where
  split_level : (main numbered : Bool) (nests : List Nest) → (main ≡ true → 1 ≤ nesting nests) → levels_of main (OfPart numbered None ∷ nests) ≡ suc (levels_of main nests)
  split_level true numbered nests some = let low = some refl in omega (arith, low)
  split_level false numbered nests some = omega arith

  frame_level : (main : Bool) (words : ℕ) (nests : List Nest) → levels_of main (take_frame words nests) ≡ levels_of main nests
  frame_level main words [] = refl
  frame_level main words (OfFunction frame ∷ nests) = refl
  frame_level main words (OfPart numbered frame ∷ nests) = refl

  -- behind a part
  end_level : (main : Bool) (nests : List Nest) → IsInPart nests
      → (levels_of main nests ≡ 0 → levels_of main (tail nests) ≡ levels_of main nests) × (1 ≤ levels_of main nests → levels_of main nests ≡ suc (levels_of main (tail nests)))
  end_level true (OfPart numbered frame ∷ nest ∷ nests) within = ((λ e. omega (arith, e)), (λ e. omega (arith, e)))
  end_level false (OfPart numbered frame ∷ nest ∷ nests) within = ((λ e. omega (arith, e)), (λ e. omega arith))
  end_level main nests within = absurd (assumption within)

-- ---- how levels were left

further_out : (main : Bool) (deep n : ℕ) → n < deep - (if main then 1 else 0) → suc n ≡ suc deep - (if main then 1 else 0) → ⊥
further_out true deep n less e = omega (arith, less, e)
further_out false deep n less e = omega (arith, less, e)

-- a part changes nothing further out
open_forks : (main numbered : Bool) (frame : Option ℕ) (nests : List Nest) (n : ℕ) → n < levels_of main nests → forks_of main (OfPart numbered frame ∷ nests) n ≡ forks_of main nests n
open_forks main numbered frame nests n less =
    ap (λ (b : Bool). if b then left_by_fork numbered nests else forks_of main nests n) (ne_eqb (suc n) (levels_of main (OfPart numbered frame ∷ nests)) (further_out main (nesting nests) n less))

tail_forks : (main : Bool) (nests : List Nest) (n : ℕ) → IsInPart nests → n < levels_of main (tail nests) → forks_of main nests n ≡ forks_of main (tail nests) n
tail_forks main (OfPart numbered frame ∷ nest ∷ nests) n within less = open_forks main numbered frame (nest ∷ nests) n less
tail_forks main nests n within less = absurd (assumption within)

-- nor does a frame
frame_forks : (main : Bool) (words : ℕ) (nests : List Nest) (n : ℕ) → forks_of main (take_frame words nests) n ≡ forks_of main nests n
frame_forks main words [] n = refl
frame_forks main words (OfFunction frame ∷ nests) n = refl
frame_forks main words (OfPart numbered frame ∷ nests) n = refl

-- the innermost level
last_of : (main numbered : Bool) (frame : Option ℕ) (nests : List Nest) (n : ℕ) → levels_of main (OfPart numbered frame ∷ nests) ≡ suc n
    → forks_of main (OfPart numbered frame ∷ nests) n ≡ left_by_fork numbered nests
last_of main numbered frame nests n e =
    ap (λ (b : Bool). if b then left_by_fork numbered nests else forks_of main nests n) (eq-eqb (suc n) (levels_of main (OfPart numbered frame ∷ nests)) (sym e))

last_no_fork : (main : Bool) (nests : List Nest) (n : ℕ) → IsInPart nests → is_numbered nests ≡ false → levels_of main nests ≡ suc n → forks_of main nests n ≡ None
last_no_fork main (OfPart numbered frame ∷ nest ∷ nests) n within not_numbered e =
    last_of main numbered frame (nest ∷ nests) n e ∙ ap (λ (b : Bool). left_by_fork b (nest ∷ nests)) not_numbered
last_no_fork main nests n within not_numbered e = absurd (assumption within)

pub told_count : (saved : List Levels) (i n : ℕ) → slice_get (map (λ (l : Levels). l.count) saved) i ≡ Some n → (levels_in saved i).count ≡ n
told_count [] zero n e = absurd (cc)
told_count [] (suc i) n e = absurd (cc)
told_count (l ∷ saved) zero n e = cc
told_count (l ∷ saved) (suc i) n e = told_count saved i n e

peak_low : (operation : Operation) (depth : ℕ) → peak operation depth ≤ suc depth
peak_low (o.Push n) depth = omega arith
peak_low (o.Get known) depth = omega arith
peak_low o.CopyLast depth = omega arith
peak_low operation depth = omega arith

-- ---- room, in numbers

room_low : (a b w m l c values : ℕ) → b ≤ w → c ≡ l → a + 8 + w + m + 4 * l ≤ 64 → values ≤ suc m → a + 7 + b + 4 * c + values ≤ 64
room_low a b w m l c values e f room few = omega (arith, e, f, room, few)

room_moved : (a w m l a' w' m' l' : ℕ) → a' ≡ a → w' ≡ w → m' ≡ m → l' ≡ l → a + 8 + w + m + 4 * l ≤ 64 → a' + 8 + w' + m' + 4 * l' ≤ 64
room_moved a w m l a' w' m' l' e f g h room = omega (arith, e, f, g, h, room)

room_words : (a b w m l c : ℕ) → b ≤ w → c ≡ l → a + 8 + w + m + 4 * l ≤ 64 → b + 4 * c ≤ 57
room_words a b w m l c e f room = omega (arith, e, f, room)

few_low : (values depth most : ℕ) → values ≤ suc depth → depth ≤ most → values ≤ suc most
few_low values depth most e f = omega (arith, e, f)

taken_low : (depth taken most : ℕ) → depth ≤ most → depth - taken ≤ suc most
taken_low depth taken most e = omega (arith, e)

result_low : (depth taken most most' : ℕ) → depth ≤ most → most' ≡ most → suc (depth - taken) ≤ suc most'
result_low depth taken most most' e f = omega (arith, e, f)

word_low : (a word depth : ℕ) → a + 7 + word + depth < 64 → word < 64
word_low a word depth e = omega (arith, e)

some_of : (n m : ℕ) → n ≡ m → 0 < n → 1 ≤ m
some_of n m e f = omega (arith, e, f)

is_some_of : (n m : ℕ) → n ≡ m → 1 ≤ m → 0 < n
is_some_of n m e f = omega (arith, e, f)

named_low : (word bound : ℕ) → word < 64 → up_to word ≤ bound → word < bound
named_low word bound low = by (nat_lt word 64) (lt-ltb word 64 low)
  where
    by : (b : Bool) → b ≡ true → (if b then suc word else 0) ≤ bound → word < bound
    by true e h = omega (arith, h)
    by false e h = untrue e

-- what a list tells of the operations by which loops shrink
some_same : (n m : ℕ) (x : Option ℕ) → x ≡ Some n → x ≡ Some m → n ≡ m
some_same n m x e f = cc

pub shrinks_deep : (core : List CoreOp) (main : ℕ) → TellsNests core main → (i : ℕ) (op : CoreOp) → slice_get core i ≡ Some op → read op ≡ Some o.Shrink
    → (n : ℕ) → slice_get (counts core) i ≡ Some n → 1 ≤ n
shrinks_deep core main tells i op at is n counted =
    let local = tells.local in
    let level = levels_of (local.in_main i) (local.nests i) in
    let same = some_same level n (slice_get (counts core) i) (tells.levels.levels i (slice_get_within core i op at)) counted in
    subst (λ m. 1 ≤ m) same (tells.levels.shrinks i op at is)

-- and of the parts that a call is in
parts_low : (main : Bool) (nests : List Nest) → nesting nests ≤ suc (levels_of main nests)
parts_low true nests = omega arith
parts_low false nests = omega arith

abbrev pub AreDeep : List CoreOp → Type 0
AreDeep core = (i n m : ℕ) → i < length core → slice_get (counts core) i ≡ Some n → slice_get (counting.nests core) i ≡ Some m → m ≤ suc n

pub parts_deep : (core : List CoreOp) (main : ℕ) → TellsNests core main → AreDeep core
parts_deep core main tells i n m lt counted nested =
    let local = tells.local in
    let level = levels_of (local.in_main i) (local.nests i) in
    let parts = nesting (local.nests i) in
    let same = some_same level n (slice_get (counts core) i) (tells.levels.levels i lt) counted in
    let same' = some_same parts m (slice_get (counting.nests core) i) (tells.levels.parts i lt) nested in
    subst (λ x. x ≤ suc n) same' (subst (λ x. parts ≤ suc x) same (parts_low (local.in_main i) (local.nests i)))

count_at : (saved : List Levels) (i : ℕ) → i < length saved → slice_get (map (λ (l : Levels). l.count) saved) i ≡ Some (levels_in saved i).count
count_at [] i lt = absurd (let z : ⊥ = omega (arith, lt) in z)
count_at (l ∷ saved) zero lt = refl
count_at (l ∷ saved) (suc i) lt = count_at saved i (omega (arith, lt))

nest_at : (saved : List Levels) (i : ℕ) → i < length saved → slice_get (map (λ (l : Levels). l.nest) saved) i ≡ Some (levels_in saved i).nest
nest_at [] i lt = absurd (let z : ⊥ = omega (arith, lt) in z)
nest_at (l ∷ saved) zero lt = refl
nest_at (l ∷ saved) (suc i) lt = nest_at saved i (omega (arith, lt))

module _ (core : List CoreOp) (main firsts : ℕ) (kept : List Set) (begins : main < length core) (within : LeadsWithin core) (held : HasFrames core kept main firsts) (least : IsLeast core (words_in kept))
    (saved : List Levels) (are : AreLevels core saved)
    (shrinks : (i : ℕ) (op : CoreOp) → slice_get core i ≡ Some op → read op ≡ Some o.Shrink → (n : ℕ) → slice_get (counts core) i ≡ Some n → 1 ≤ n)
    (deep : AreDeep core) where
  abbrev places : ℕ → Place
  places = held.rooms.rooms.places

  abbrev words : ℕ → ℕ
  words = held.rooms.rooms.words

  abbrev most : ℕ → ℕ
  most = held.rooms.rooms.most

  abbrev level : ℕ → ℕ
  level i = rooms.levels_in (places i)

  abbrev behind : ℕ → ℕ
  behind i = behind_in saved i

  abbrev frames : Frames
  frames = held.frames

  count_is : (i : ℕ) → i < length core → (levels_in saved i).count ≡ level i
  count_is i lt = told_count saved i (level i) (ap (λ (ns : List ℕ). slice_get ns i) are.count ∙ held.rooms.counted i lt)

  -- the frame has the levels of all parts but one
  nest_low : (i : ℕ) → i < length core → (levels_in saved i).nest ≤ suc (levels_in saved i).count
  nest_low i lt =
      let in_saved : i < length saved = subst (λ n. i < n) (sym are.long) lt in
      deep i (levels_in saved i).count (levels_in saved i).nest lt
      (ap (λ (ns : List ℕ). slice_get ns i) (sym are.count) ∙ count_at saved i in_saved)
      (ap (λ (ns : List ℕ). slice_get ns i) (sym are.nest) ∙ nest_at saved i in_saved)

  low : (i : ℕ) → behind i ≤ words i
  low i = are.least words held.rooms.bound i

  -- ---- where the call goes on

  leads_is : (i : ℕ) (op : CoreOp) (operation : Operation) → OpAt core i op operation → (onward : Bool) → leads core i onward ≡ goes_on core operation i op.target onward
  leads_is i op operation at onward =
      ap (λ x. leads_by core x i onward) at.stands ∙ ap (λ b. if b then op.target else goes_on_by core (read op) i op.target onward) at.no_jump
      ∙ ap (λ r. goes_on_by core r i op.target onward) at.is_read

  jump_leads : (i : ℕ) (op : CoreOp) → slice_get core i ≡ Some op → is_jump op ≡ true → leads core i true ≡ op.target
  jump_leads i op at jump = ap (λ x. leads_by core x i true) at ∙ ap (λ b. if b then op.target else goes_on_by core (read op) i op.target true) jump

  same_behind : (i j : ℕ) (onward : Bool) → i < length core → j < length core → leads core i onward ≡ j → behind j ≡ behind i
  same_behind i j onward lt lt' e = subst (λ k. behind k ≡ behind i) e (are.bound.stays i onward lt (subst (λ k. k < length core) (sym e) lt'))

  target_within : (i : ℕ) (op : CoreOp) → slice_get core i ≡ Some op → is_jump op ≡ true → op.target < length core
  target_within i op at jump = let there = within.jumps i op at jump in slice_get_within core op.target there.op there.stands

  -- ---- words below the levels are live

  abbrev below : (index word : ℕ) → Bool
  below index word = nat_lt word (behind index)

  from_there : (i j word : ℕ) (onward : Bool) → i < length core → j < length core → leads core i onward ≡ j → below j word ≡ true → below i word ≡ true
  from_there i j word onward lt lt' e h = ap (λ n. nat_lt word n) (sym (same_behind i j onward lt lt' e)) ∙ h

  reads_low : (operation : Operation) (i word : ℕ) (op : CoreOp) → OpAt core i op operation → reads operation word ≡ true → below i word ≡ true
  reads_low (o.Get (own.Value (v.Private k))) i word op at e =
      let both = and_parts (word == k) (nat_lt word 64) e in
      let same : word ≡ k = eqb-true word k both.0 in
      let small : word < 64 = ltb-true word 64 both.1 in
      let holds : up_to k ≤ behind i = subst (λ r. named r ≤ behind i) at.is_read (are.bound.holds i op at.stands) in
      lt-ltb word (behind i) (named_low word (behind i) small (subst (λ w. up_to w ≤ behind i) (sym same) holds))
  reads_low operation i word op at e = absurd (cc)

  kept_low : (operation : Operation) (i word : ℕ) (op : CoreOp) → OpAt core i op operation → kept_behind core below operation i op.target word ≡ true → below i word ≡ true
  kept_low (o.Enter n) i word op at e =
      let lt = slice_get_within core i op at.stands in
      let there = All-head (λ j. j < length core) (behind_jump core (suc i)) [] (within.within i op (o.Enter n) at.stands at.is_read refl true).callers in
      from_there i (behind_jump core (suc i)) word true lt there (leads_is i op (o.Enter n) at true) e
  kept_low (o.Leave gives framed) i word op at e = untrue e
  kept_low o.Halt i word op at e = untrue e
  kept_low operation i word op at e =
      by (split_or (below (follows core operation i op.target [] true).at word) (below (follows core operation i op.target [] false).at word) e)
    where
      by : (below (follows core operation i op.target [] true).at word ≡ true) ⊎ (below (follows core operation i op.target [] false).at word ≡ true) → below i word ≡ true
      by (inl h) =
          from_there i (follows core operation i op.target [] true).at word true (slice_get_within core i op at.stands) (within.within i op operation at.stands at.is_read refl true).at
          (leads_is i op operation at true) h
      by (inr h) =
          from_there i (follows core operation i op.target [] false).at word false (slice_get_within core i op at.stands) (within.within i op operation at.stands at.is_read refl false).at
          (leads_is i op operation at false) h

  live : IsLive core below
  live i word e = by_op (slice_get core i) refl e
    where
      by_operation : (op : CoreOp) (operation : Option Operation) → slice_get core i ≡ Some op → is_jump op ≡ false → operation_of op.kind op.number ≡ operation
          → asked_by core below operation i op.target word ≡ true → below i word ≡ true
      by_operation op None s j r e' = untrue e'
      by_operation op (Some operation) s j r e' =
          let stands : OpAt core i op operation = record { stands = s; no_jump = j; is_read = r } in
          by (split_or (kept_behind core below operation i op.target word && not (writes operation word)) (reads operation word) e') stands
        where
          by : (kept_behind core below operation i op.target word && not (writes operation word)) ≡ true ⊎ (reads operation word ≡ true) → OpAt core i op operation → below i word ≡ true
          by (inl k) stands = kept_low operation i word op stands (and_parts _ _ k).0
          by (inr k) stands = reads_low operation i word op stands k

      by_jump : (op : CoreOp) (b : Bool) → slice_get core i ≡ Some op → is_jump op ≡ b
          → (if b then below op.target word else asked_by core below (operation_of op.kind op.number) i op.target word) ≡ true → below i word ≡ true
      by_jump op true s j e' = from_there i op.target word true (slice_get_within core i op s) (target_within i op s j) (jump_leads i op s j) e'
      by_jump op false s j e' = by_operation op (operation_of op.kind op.number) s j refl e'

      by_op : (op : Option CoreOp) → slice_get core i ≡ op → asked_of core below op i word ≡ true → below i word ≡ true
      by_op None s e' = untrue e'
      by_op (Some op) s e' = by_jump op (is_jump op) s refl e'

  -- the part that a loop shrinks is no part of a `fork`
  shrink_last : (i : ℕ) (op : CoreOp) → OpAt core i op o.Shrink → level_forks core i ((levels_in saved i).count - 1) ≡ None
  shrink_last i op at =
      let here = slice_get_within core i op at.stands in
      let f = held.rooms.fits i op o.Shrink at in
      let some = shrinks i op at.stands at.is_read (level i) (held.rooms.counted i here) in
      ap (λ n. level_forks core i (n - 1)) (count_is i here) ∙ held.rooms.forked i (level i - 1) here (omega (arith, some))
      ∙ last_no_fork (is_main_place (places i).function) (places i).nests (level i - 1) f.may.0 f.may.1 (omega (arith, some))

  small_frames : FramesAreSmall core
  small_frames i op number words' stands is =
      (held.suits.fits i op (o.Frame number words') (record { stands = stands; no_jump = op_stops core (λ n. n) i op (o.Frame number words') stands is op stands; is_read = is })).place

  kept_below : (i word : ℕ) → frames.keeps i word ≡ true → word < behind i
  kept_below i word k = ltb-true word (behind i) (least below live i word (held.keeps i word k))

  module _ (start : Gathering) where
    abbrev nestings : Nestings
    nestings = nestings_of saved (level_forks core) start

    -- ---- levels where the call goes on

    -- levels further out were left as they were
    abbrev KeepsForks : (here there : Place) → Type 0
    KeepsForks here there = (n : ℕ) → n < rooms.levels_in here → rooms.forks_in there n ≡ rooms.forks_in here n

    forks_are : (i j : ℕ) → i < length core → j < length core → level i ≤ level j → KeepsForks (places i) (places j) → (n : ℕ) → n < nestings.levels i → nestings.forks j n ≡ nestings.forks i n
    forks_are i j lt lt' most' keep n less =
        let many = count_is i lt in
        let l : n < level i = omega (arith, less, many) in
        held.rooms.forked j n lt' (omega (arith, l, most')) ∙ keep n l ∙ sym (held.rooms.forked i n lt l)

    stays : (i j : ℕ) (onward : Bool) → i < length core → j < length core → leads core i onward ≡ j → level j ≡ level i → KeepsForks (places i) (places j) → LevelsStay nestings i j
    stays i j onward lt lt' e same keep = record {
      levels = count_is j lt' ∙ same ∙ sym (count_is i lt);
      behind = same_behind i j onward lt lt' e;
      forks = forks_are i j lt lt' (omega (arith, same)) keep;
    }

    opens_there : (i j : ℕ) (onward : Bool) → i < length core → j < length core → leads core i onward ≡ j → level j ≡ suc (level i) → KeepsForks (places i) (places j) → LevelOpens nestings i j
    opens_there i j onward lt lt' e more keep = record {
      levels = count_is j lt' ∙ more ∙ sym (ap suc (count_is i lt));
      behind = same_behind i j onward lt lt' e;
      forks = forks_are i j lt lt' (omega (arith, more)) keep;
    }

    closes_there : (i j : ℕ) (onward : Bool) → i < length core → j < length core → leads core i onward ≡ j → level i ≡ suc (level j) → KeepsForks (places j) (places i) → LevelOpens nestings j i
    closes_there i j onward lt lt' e more keep = record {
      levels = count_is i lt ∙ more ∙ sym (ap suc (count_is j lt'));
      behind = sym (same_behind i j onward lt lt' e);
      forks = forks_are j i lt' lt (omega (arith, more)) keep;
    }

    room_at : (i values : ℕ) → i < length core → ahead frames (frames.is_main i) + 8 + words i + most i + 4 * level i ≤ 64 → values ≤ suc (most i) → HasLevelRoom frames nestings i values
    room_at i values lt room few = record {
      room = room_low (ahead frames (frames.is_main i)) (behind i) (words i) (most i) (level i) (levels_in saved i).count values (low i) (count_is i lt) room few;
      apart = λ some word k. kept_below i word k;
    }

    -- an operation in the list
    module _ (i : ℕ) (op : CoreOp) (operation : Operation) (at : OpAt core i op operation) where
      lt : i < length core
      lt = slice_get_within core i op at.stands

      abbrev fits : rooms.FitsRoom core frames held.rooms.rooms i op operation
      fits = held.rooms.fits i op operation at

      room_here : (values : ℕ) → values ≤ suc op.depth → HasLevelRoom frames nestings i values
      room_here values few = room_at i values lt fits.room (few_low values op.depth (most i) few fits.values)

    -- ---- what processors do alone

    same_on : (i : ℕ) (op : CoreOp) (operation : Operation) (at : OpAt core i op operation) (onward : Bool) (j : ℕ) → leads core i onward ≡ j → j < length core
        → (there : Place) → rooms.GoesTo core frames held.rooms.rooms there i j → rooms.levels_in there ≡ level i → KeepsForks (places i) there → LevelsStay nestings i j
    same_on i op operation at onward j e lt' there goes same keep =
        stays i j onward (lt i op operation at) lt' e (ap rooms.levels_in goes.place ∙ same) (λ n less. ap (λ p. rooms.forks_in p n) goes.place ∙ keep n less)

    within_on : (i : ℕ) (op : CoreOp) (operation : Operation) → OpAt core i op operation → is_end operation ≡ false → (onward : Bool) → (follows core operation i op.target [] onward).at < length core
    within_on i op operation at e onward = (within.within i op operation at.stands at.is_read e onward).at

    module _ (block : (index : ℕ) → ℕ) where
      abbrev blocks : Places
      blocks = places_in core block frames

      abbrev Room : (i level : ℕ) → Type 0
      Room i n = rooms.HasRoomFor core frames held.rooms.rooms n i

      alone_fit : (i : ℕ) (op : CoreOp) (operation : Operation) → OpAt core i op operation → is_alone operation ≡ true → LevelsFit core blocks nestings i op operation
      alone_fit i op o.Begin at alone = untrue alone
      alone_fit i op o.Agree at alone = untrue alone
      alone_fit i op (o.Frame nesting' words') at alone = untrue alone
      alone_fit i op o.Block at alone = untrue alone
      alone_fit i op (o.Split by) at alone = untrue alone
      alone_fit i op o.Shrink at alone = untrue alone
      alone_fit i op o.End at alone = untrue alone
      alone_fit i op o.Resume at alone = untrue alone
      alone_fit i op o.Farm at alone = untrue alone
      alone_fit i op o.Seq at alone = untrue alone
      alone_fit i op (o.Meet closing) at alone = untrue alone
      alone_fit i op o.Halt at alone = untrue alone
      alone_fit i op (o.Leave gives framed) at alone =
          let f = fits i op (o.Leave gives framed) at in
          record { few = held.suits.few; none = count_is i (lt i op (o.Leave gives framed) at) ∙ ap rooms.levels_in f.goes_on.1 }
      alone_fit i op (o.Enter n) at alone =
          let f = fits i op (o.Enter n) at in
          let e = f.goes_on in
          let calls = (held.suits.fits i op (o.Enter n) at).goes_on in
          let inside = within.within i op (o.Enter n) at.stands at.is_read refl true in
          let there = All-head (λ j. j < length core) (behind_jump core (suc i)) [] inside.callers in
          let back = e.back in
          record {
            few = held.suits.few;
            stay = same_on i op (o.Enter n) at true (behind_jump core (suc i)) (leads_is i op (o.Enter n) at true) there (places i) back refl (λ n less. refl);
            room = room_at (behind_jump core (suc i)) (suc (op.depth - n)) there
                (room_moved (ahead frames (frames.is_main i)) (words i) (most i) (level i) (ahead frames (frames.is_main (behind_jump core (suc i)))) (words (behind_jump core (suc i)))
                (most (behind_jump core (suc i))) (level (behind_jump core (suc i))) (ap (ahead frames) calls.back.main) back.words back.most (ap rooms.levels_in back.place) f.room)
                (result_low op.depth n (most i) (most (behind_jump core (suc i))) f.values back.most);
            none = count_is (suc i) inside.at ∙ ap rooms.levels_in e.begins;
            entry = room_at (suc i) 0 inside.at (subst (Room (suc i)) (sym (ap rooms.levels_in e.begins)) e.room) (omega arith);
          }
      alone_fit i op (o.Set (v.Private k)) at alone =
          let f = fits i op (o.Set (v.Private k)) at in
          record {
            few = held.suits.few;
            room = room_here i op (o.Set (v.Private k)) at op.depth (omega arith);
            apart = λ some word w.
                (let same : word ≡ k = eqb-true word k w in
                let small = word_low (ahead frames (frames.is_main i)) k op.depth (held.suits.fits i op (o.Set (v.Private k)) at).place in
                let holds : up_to k ≤ behind i = subst (λ r. named r ≤ behind i) at.is_read (are.bound.holds i op at.stands) in
                subst (λ x. x < behind i) (sym same) (named_low k (behind i) small holds));
            stay = λ onward.
                same_on i op (o.Set (v.Private k)) at onward (follows core (o.Set (v.Private k)) i op.target [] onward).at (leads_is i op (o.Set (v.Private k)) at onward)
                (within_on i op (o.Set (v.Private k)) at refl onward) (places i) (f.goes_on onward) refl (λ n less. refl);
            nest = nest_low i (lt i op (o.Set (v.Private k)) at);
          }
      alone_fit i op operation at alone =
          let f = fits i op operation at in
          record {
            few = held.suits.few;
            room = room_here i op operation at (peak operation op.depth) (peak_low operation op.depth);
            apart = λ some word w. untrue w;
            stay = λ onward.
                same_on i op operation at onward (follows core operation i op.target [] onward).at (leads_is i op operation at onward) (within_on i op operation at refl onward)
                (places i) (f.goes_on onward) refl (λ n less. refl);
            nest = nest_low i (lt i op operation at);
          }

      -- ---- steps of groups

      abbrev fit : (i : ℕ) (op : CoreOp) (operation : Operation) → OpAt core i op operation → rooms.FitsRoom core frames held.rooms.rooms i op operation
      fit i op operation at = held.rooms.fits i op operation at

      parted : (i : ℕ) (op : CoreOp) (by : SplitKind) (at : OpAt core i op (o.Split by)) → rooms.levels_in (place_behind (o.Split by) true (places i)) ≡ suc (level i)
      parted i op sk.IfAlone at = split_level (places i) (is_main_place (places i).function) false (places i).nests (fit i op (o.Split sk.IfAlone) at).grouped
      parted i op sk.IfElse at = split_level (places i) (is_main_place (places i).function) false (places i).nests (fit i op (o.Split sk.IfElse) at).grouped
      parted i op sk.AndThen at = split_level (places i) (is_main_place (places i).function) false (places i).nests (fit i op (o.Split sk.AndThen) at).grouped
      parted i op sk.OrElse at = split_level (places i) (is_main_place (places i).function) false (places i).nests (fit i op (o.Split sk.OrElse) at).grouped
      parted i op sk.Loop at = split_level (places i) (is_main_place (places i).function) false (places i).nests (fit i op (o.Split sk.Loop) at).grouped
      parted i op sk.Fork at = split_level (places i) (is_main_place (places i).function) true (places i).nests (fit i op (o.Split sk.Fork) at).grouped

      parted_forks : (i : ℕ) (by : SplitKind) → KeepsForks (places i) (place_behind (o.Split by) true (places i))
      parted_forks i sk.IfAlone n less = open_forks (is_main_place (places i).function) false None (places i).nests n less
      parted_forks i sk.IfElse n less = open_forks (is_main_place (places i).function) false None (places i).nests n less
      parted_forks i sk.AndThen n less = open_forks (is_main_place (places i).function) false None (places i).nests n less
      parted_forks i sk.OrElse n less = open_forks (is_main_place (places i).function) false None (places i).nests n less
      parted_forks i sk.Loop n less = open_forks (is_main_place (places i).function) false None (places i).nests n less
      parted_forks i sk.Fork n less = open_forks (is_main_place (places i).function) true None (places i).nests n less

      -- how a split leaves the level around its parts
      left_there : (i : ℕ) (op : CoreOp) (by : SplitKind) (at : OpAt core i op (o.Split by)) (j : ℕ) → j < length core → places j ≡ place_behind (o.Split by) true (places i)
          → nestings.forks j (nestings.levels i) ≡ rooms.forks_in (place_behind (o.Split by) true (places i)) (level i)
      left_there i op by at j there place =
          let more = ap rooms.levels_in place ∙ parted i op by at in
          ap (λ n. level_forks core j n) (count_is i (lt i op (o.Split by) at))
          ∙ held.rooms.forked j (level i) there (omega (arith, more)) ∙ ap (λ p. rooms.forks_in p (level i)) place

      left_last : (i : ℕ) (op : CoreOp) (by : SplitKind) (at : OpAt core i op (o.Split by)) (numbered : Bool)
          → rooms.levels_in (place_behind (o.Split by) true (places i)) ≡ levels_of (is_main_place (places i).function) (OfPart numbered None ∷ (places i).nests)
          → forks_of (is_main_place (places i).function) (OfPart numbered None ∷ (places i).nests) (level i) ≡ left_by_fork numbered (places i).nests
      left_last i op by at numbered same = last_of (is_main_place (places i).function) numbered None (places i).nests (level i) (sym same ∙ parted i op by at)

      left : (i : ℕ) (op : CoreOp) (by : SplitKind) (at : OpAt core i op (o.Split by)) (j : ℕ) → j < length core → places j ≡ place_behind (o.Split by) true (places i)
          → LeavesBy by (nestings.forks j (nestings.levels i))
      left i op sk.IfAlone at j there place = left_there i op sk.IfAlone at j there place ∙ left_last i op sk.IfAlone at false refl
      left i op sk.IfElse at j there place = left_there i op sk.IfElse at j there place ∙ left_last i op sk.IfElse at false refl
      left i op sk.AndThen at j there place = left_there i op sk.AndThen at j there place ∙ left_last i op sk.AndThen at false refl
      left i op sk.OrElse at j there place = left_there i op sk.OrElse at j there place ∙ left_last i op sk.OrElse at false refl
      left i op sk.Loop at j there place = left_there i op sk.Loop at j there place ∙ left_last i op sk.Loop at false refl
      left i op sk.Fork at j there place =
          subst (λ (x : Option ℕ). LeavesBy sk.Fork x) (sym (left_there i op sk.Fork at j there place ∙ left_last i op sk.Fork at true refl)) tt

      none_begun : (i n : ℕ) → places i ≡ entered Main → n < level i → ⊥
      none_begun i n e less = let none' = ap rooms.levels_in e in omega (arith, none', less)

      back_forks : (i j : ℕ) → places j ≡ record (places i) { nests = tail (places i).nests } → IsInPart (places i).nests → KeepsForks (places j) (places i)
      back_forks i j e within n less =
          tail_forks (is_main_place (places i).function) (places i).nests n within (subst (λ p. n < rooms.levels_in p) e less) ∙ sym (ap (λ p. rooms.forks_in p n) e)

      begun : (i : ℕ) (onward : Bool) → places i ≡ entered Main → rooms.levels_in (place_behind o.Begin onward (places i)) ≡ level i
      begun i true e = ap (λ p. rooms.levels_in (place_behind o.Begin true p)) e ∙ sym (ap rooms.levels_in e)
      begun i false e = refl

      goes_with : (i : ℕ) (op : CoreOp) (operation : Operation) → OpAt core i op operation → is_group_step (Some operation) ≡ true → GoesOnWith operation nestings i
      goes_with i op o.End at step = tt
      goes_with i op (o.Enter n) at step = untrue step
      goes_with i op (o.Leave gives framed) at step = untrue step
      goes_with i op o.Halt at step = untrue step
      goes_with i op (o.Split by) at step =
          let goes = (fit i op (o.Split by) at).goes_on true in
          record {
            opens = opens_there i (suc i) true (lt i op (o.Split by) at) (within_on i op (o.Split by) at refl true) (leads_is i op (o.Split by) at true) (ap rooms.levels_in goes.place ∙ parted i op by at)
                (λ n less. ap (λ p. rooms.forks_in p n) goes.place ∙ parted_forks i by n less);
            left = left i op by at (suc i) (within_on i op (o.Split by) at refl true) goes.place;
          }
      goes_with i op o.Begin at step =
          let f = fit i op o.Begin at in
          same_on i op o.Begin at true (suc i) (leads_is i op o.Begin at true) (within_on i op o.Begin at refl true) (place_behind o.Begin true (places i)) (f.goes_on true) (begun i true f.may)
          (λ n less. absurd (none_begun i n f.may less))
      goes_with i op (o.Frame number words') at step =
          let f = fit i op (o.Frame number words') at in
          same_on i op (o.Frame number words') at true (suc i) (leads_is i op (o.Frame number words') at true) (within_on i op (o.Frame number words') at refl true)
          (place_behind (o.Frame number words') true (places i)) (f.goes_on true) (frame_level (places i) (is_main_place (places i).function) words' (places i).nests)
          (λ n less. frame_forks (is_main_place (places i).function) words' (places i).nests n)
      goes_with i op operation at step =
          same_on i op operation at true (suc i) (leads_is i op operation at true) (within_on i op operation at refl true) (places i) ((fit i op operation at).goes_on true) refl (λ n less. refl)

      led : (i : ℕ) (op : CoreOp) (operation : Operation) → OpAt core i op operation → leads_away operation ≡ true → LevelsStay nestings i op.target
      led i op o.Begin at away =
          same_on i op o.Begin at false op.target (leads_is i op o.Begin at false) (within_on i op o.Begin at refl false) (places i) ((fit i op o.Begin at).goes_on false) refl (λ n less. refl)
      led i op o.Seq at away =
          same_on i op o.Seq at false op.target (leads_is i op o.Seq at false) (within_on i op o.Seq at refl false) (places i) ((fit i op o.Seq at).goes_on false) refl (λ n less. refl)
      led i op operation at away = untrue away

      ended : (i : ℕ) (op : CoreOp) → OpAt core i op o.End → EndsLevel nestings i op.target
      ended i op at =
          let f = fit i op o.End at in
          let here = lt i op o.End at in
          let there = within_on i op o.End at refl true in
          let leads' = leads_is i op o.End at true in
          let out = end_level (places i) (is_main_place (places i).function) (places i).nests f.may in
          let to = ap rooms.levels_in (f.goes_on true).place in
          record {
            start = λ none. stays i op.target true here there leads' (to ∙ out.0 (sym (count_is i here) ∙ none))
                (λ n less. let many = count_is i here in let z : ⊥ = omega (arith, none, many, less) in absurd z);
            part = λ some. closes_there i op.target true here there leads' (out.1 (some_of (levels_in saved i).count (level i) (count_is i here) some) ∙ ap suc (sym to))
                (back_forks i op.target (f.goes_on true).place f.may);
          }

      shrunk : (i : ℕ) (op : CoreOp) → OpAt core i op o.Shrink → LevelOpens nestings op.target i × (last_fork nestings i ≡ None)
      shrunk i op at =
          let f = fit i op o.Shrink at in
          let here = lt i op o.Shrink at in
          let out = end_level (places i) (is_main_place (places i).function) (places i).nests f.may.0 in
          let some = shrinks i op at.stands at.is_read (level i) (held.rooms.counted i here) in (
            closes_there i op.target false here (within_on i op o.Shrink at refl false) (leads_is i op o.Shrink at false) (out.1 some ∙ ap suc (sym (ap rooms.levels_in (f.goes_on false).place)))
                (back_forks i op.target (f.goes_on false).place f.may.0),
            shrink_last i op at,
          )

      -- where a part begins there is room for its level
      room_in : (i : ℕ) (op : CoreOp) (by : SplitKind) (at : OpAt core i op (o.Split by)) (onward : Bool) (j values : ℕ) → (follows core (o.Split by) i op.target [] onward).at ≡ j → j < length core
          → values ≤ suc (most i) → HasLevelRoom frames nestings j values
      room_in i op by at onward j values e there few =
          let f = fit i op (o.Split by) at in
          let goes = subst (λ k. rooms.GoesTo core frames held.rooms.rooms (place_behind (o.Split by) onward (places i)) i k) e (f.goes_on onward) in
          let main' = subst (λ k. frames.is_main k ≡ frames.is_main i) e ((held.suits.fits i op (o.Split by) at).goes_on onward).main in
          room_at j values there
          (room_moved (ahead frames (frames.is_main i)) (words i) (most i) (rooms.levels_in (place_behind (o.Split by) onward (places i))) (ahead frames (frames.is_main j)) (words j) (most j) (level j)
          (ap (ahead frames) main') goes.words goes.most (ap rooms.levels_in goes.place) (f.further onward)) (subst (λ n. values ≤ suc n) (sym goes.most) few)

      waits_there : (i : ℕ) (op : CoreOp) (by : SplitKind) (at : OpAt core i op (o.Split by)) → place_behind (o.Split by) false (places i) ≡ places i → LevelsStay nestings i op.target
      waits_there i op by at same =
          let goes = (fit i op (o.Split by) at).goes_on false in
          stays i op.target false (lt i op (o.Split by) at) (within_on i op (o.Split by) at refl false) (leads_is i op (o.Split by) at false) (ap rooms.levels_in goes.place ∙ ap rooms.levels_in same)
          (λ n less. ap (λ p. rooms.forks_in p n) goes.place ∙ ap (λ p. rooms.forks_in p n) same)

      aside : (i : ℕ) (op : CoreOp) (by : SplitKind) (at : OpAt core i op (o.Split by)) (values : ℕ) → values ≤ suc (most i) → GoesAside by blocks nestings i op.target values
      aside i op sk.IfElse at values few =
          let goes = (fit i op (o.Split sk.IfElse) at).goes_on false in
          let there = within_on i op (o.Split sk.IfElse) at refl false in (
            record {
              opens = opens_there i op.target false (lt i op (o.Split sk.IfElse) at) there (leads_is i op (o.Split sk.IfElse) at false) (ap rooms.levels_in goes.place ∙ parted i op sk.IfElse at)
                  (λ n less. ap (λ p. rooms.forks_in p n) goes.place ∙ parted_forks i sk.IfElse n less);
              left = left i op sk.IfElse at op.target there goes.place;
            },
            room_in i op sk.IfElse at false op.target values refl there few,
          )
      aside i op sk.IfAlone at values few = waits_there i op sk.IfAlone at refl
      aside i op sk.AndThen at values few = waits_there i op sk.AndThen at refl
      aside i op sk.OrElse at values few = waits_there i op sk.OrElse at refl
      aside i op sk.Loop at values few = waits_there i op sk.Loop at refl
      aside i op sk.Fork at values few = waits_there i op sk.Fork at refl

      opened : (i : ℕ) (op : CoreOp) (by : SplitKind) → OpAt core i op (o.Split by) → OpensLevel blocks nestings by i op.target (op.depth - taken_by by)
      opened i op by at =
          let few = taken_low op.depth (taken_by by) (most i) (fit i op (o.Split by) at).values in
          record {
            room = room_in i op by at true (suc i) (op.depth - taken_by by) refl (within_on i op (o.Split by) at refl true) few;
            aside = aside i op by at (op.depth - taken_by by) few;
          }

      pub all_levels : HaveAllLevels core blocks nestings main
      all_levels = record {
        alone = record {
          operations = λ i op operation at alone. alone_fit i op operation at alone;
          jumps = λ i op at jump.
              stays i op.target true (slice_get_within core i op at) (target_within i op at jump) (jump_leads i op at jump) (ap rooms.levels_in (held.rooms.jumps i op at jump).place)
              (λ n less. ap (λ p. rooms.forks_in p n) (held.rooms.jumps i op at jump).place);
        };
        steps = record {
          room = λ i op operation at step. room_here i op operation at op.depth (omega arith);
          stay = λ i op operation at step. goes_with i op operation at step;
          leads = λ i op operation at away. led i op operation at away;
          ends = λ i op at. ended i op at;
          shrinks = λ i op at. shrunk i op at;
          opens = λ i op by at. opened i op by at;
        };
        none = count_is main begins ∙ ap rooms.levels_in held.rooms.begins;
        room = room_at main 0 begins (subst (Room main) (sym (ap rooms.levels_in held.rooms.begins)) held.rooms.opens) (omega arith);
      }

    -- ---- the words of levels

    words_low : (i : ℕ) (op : CoreOp) (operation : Operation) → OpAt core i op operation → (levels_in saved i).behind + 4 * (levels_in saved i).count ≤ 57
    words_low i op operation at =
        room_words (ahead frames (frames.is_main i)) (behind i) (words i) (most i) (level i) (levels_in saved i).count (low i) (count_is i (lt i op operation at)) (fits i op operation at).room

    one_more : (count : ℕ) → count + 1 ≡ suc count
    one_more count = omega arith

    pub level_words : (i : ℕ) (op : CoreOp) (operation : Operation) → OpAt core i op operation → HasLevelWords (Some operation) (levels_in saved i)
    level_words i op (o.Split by) at =
        let f = fits i op (o.Split by) at in
        let count = (levels_in saved i).count in
        room_words (ahead frames (frames.is_main i)) (behind i) (words i) (most i) (rooms.levels_in (place_behind (o.Split by) true (places i))) (count + 1) (low i)
        (one_more count ∙ ap suc (count_is i (lt i op (o.Split by) at)) ∙ sym (parted (λ index. 0) i op by at)) (f.further true)
    level_words i op o.Shrink at =
        let here = lt i op o.Shrink at in (
          words_low i op o.Shrink at,
          is_some_of (levels_in saved i).count (level i) (count_is i here) (shrinks i op at.stands at.is_read (level i) (held.rooms.counted i here)),
          levels_tell_forks core saved are i ∙ shrink_last i op at,
        )
    level_words i op o.End at = (words_low i op o.End at, forks_are_small core saved are small_frames i)
    level_words i op operation at = words_low i op operation at
