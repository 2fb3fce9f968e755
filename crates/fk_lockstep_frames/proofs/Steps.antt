-- What operations make of the spaces and the frames of a processor.
use Rattle.std.proofs.Common.{◌≡◌, ◌≢◌, ℕ, zero, suc, ◌+◌, ◌-◌, ◌*◌, ◌^◌, ◌<◌, ◌≤◌, ◌==◌, nat_lt, Bool, true, false, true≢false, List, [], ◌∷◌, map, Option, Some, None, is_some, if◌then◌else◌, refl, sym, ap, ◌∙◌, subst, arith, ltb-true, ltb-false, ne_eqb, eq-eqb}
use Rattle.std.proofs.Math.Nat.{mul-le-mul_left}
use Rattle.fk_num.specs.Word.{Memory, put}
use Rattle.fk_space.specs.Space.{Space, IsSpace, free, equal_part, share, child, block}
use Rattle.fk_space.proofs.Parts.{roomy_of, part_ends}
use Rattle.fk_meaning_operation.specs.declared.operation.Operation.{Operation}
use Rattle.fk_meaning_operation.specs.declared.operation.Operation.TheVariants as o
use Rattle.fk_meaning_operation.specs.declared.operation.Multiprefix.{Multiprefix}
use Rattle.fk_meaning_operation.specs.declared.operation.Multiprefix.TheVariants.{MpAdd, MpMax, MpAnd, MpOr}
use Rattle.fk_meaning_operation.specs.declared.operation.SplitKind.{SplitKind}
use Rattle.fk_meaning_operation.specs.declared.operation.SplitKind.TheVariants as s
use Rattle.fk_meaning_operation.specs.declared.operation.Variable.TheVariants as v
use Rattle.fk_meaning_operation.specs.declared.kinds.Class.TheVariants.{Local, Request, Tree}
use Rattle.fk_meaning_operation.specs.Kinds.{class_of}
use Rattle.fk_meaning_store.specs.Store.{private_words, private_address}
use Rattle.fk_meaning_store.specs.Serve.{words_of}
use Rattle.fk_meaning.specs.Processor.{Level, Call, Processor, Setting, values, last, before, in_place, drop_last, enter_level, to_outer, leave_level}
use Rattle.fk_meaning.specs.Local.{local, is_onward, taken as taken_words, to_caller, unframed}
use Rattle.fk_meaning.specs.Request.{entered, with_answer}
use Rattle.fk_meaning.specs.Behind.{tail}
use Rattle.fk_meaning.specs.Group.{parts, part, if_below, taken_by, part_number, part_rank, part_level, divided, start_level, is_taken, framed, allotted, with_block, with_size, stays, does, enters, goes_onward, has_parts, has_room}
use Rattle.fk_lockstep_frames.specs.Nests.{Nest, OfFunction, OfPart, nesting, is_numbered, taken, outward, take_frame, numbers, behind, MayLeave, MayTake, IsInPart, May}
use Rattle.fk_lockstep_frames.specs.Taken.{spaces_of, lows_of, numbers_of, frames_of, HasTaken, AreTaken, Begins, AreBegun, AreNumbered, HasNests}

never : {A : Type 0} → true ≡ false → A
never e = absurd (true≢false e)

-- ---- spaces

-- a part has a space with nothing taken
child_space : (s : Space) (k i : ℕ) → IsSpace s → is_some (share s k) ≡ true → i < k → IsSpace (child s k i)
child_space s k i space some below =
    let roomy = roomy_of s k some in
    let ends = part_ends s k i some below in
    record {
      header = omega arith;
      ordered = (let large = roomy.large in omega (arith, large));
      within = omega arith;
      shared = (let ordered = space.ordered in let within = space.within in let shared = space.shared in omega (arith, ends, ordered, within, shared));
    }

child_taken : (s : Space) (k i : ℕ) → IsSpace s → is_some (share s k) ≡ true → i < k → HasTaken 0 (child s k i)
child_taken s k i space some below = record { space = child_space s k i space some below; frames = omega arith }

-- there is room for some parts
parts_share : (s : Space) (k i : ℕ) → i < k → has_parts s k ≡ true → is_some (share s k) ≡ true
parts_share s zero i below room = absurd (let z : ⊥ = omega (arith, below) in z)
parts_share s (suc k) i below room = room

more_taken : (a b words : ℕ) (s : Space) → a + words ≡ b → words ≤ free s → HasTaken a s → HasTaken b (record s { frames = s.frames + words })
more_taken a b words s sum few has =
    let space = has.space in
    let frames = has.frames in
    let header = space.header in
    let ordered = space.ordered in
    record {
      space = record { header = omega (arith, header); ordered = omega (arith, few, ordered); within = space.within; shared = space.shared };
      frames = omega (arith, frames, sum);
    }

fewer_taken : (a b first : ℕ) (s : Space) → a ≤ b → first ≡ s.low + 8 + a → HasTaken b s → HasTaken a (record s { frames = first })
fewer_taken a b first s fewer is has =
    let space = has.space in
    let frames = has.frames in
    let ordered = space.ordered in
    record {
      space = record { header = omega (arith, is); ordered = omega (arith, is, fewer, frames, ordered); within = space.within; shared = space.shared };
      frames = is;
    }

block_taken : (a words : ℕ) (s : Space) → words ≤ free s → HasTaken a s → HasTaken a (record s { blocks = s.blocks - words })
block_taken a words s few has =
    let space = has.space in
    let ordered = space.ordered in
    let within = space.within in
    record {
      space = record { header = space.header; ordered = omega (arith, few, ordered); within = omega (arith, within); shared = space.shared };
      frames = has.frames;
    }

same_taken : (a b : ℕ) (s : Space) → a ≡ b → HasTaken a s → HasTaken b s
same_taken a b s e has = subst (λ n. HasTaken n s) e has

few_words : (s : Space) (words : ℕ) → nat_lt (free s) words ≡ false → words ≤ free s
few_words s words e = ltb-false (free s) words e

-- ---- frames

-- another frame of the running function is taken, with a higher number
put_other : (first : Memory) (i v j : ℕ) → j ≢ i → put first i v j ≡ first j
put_other first i v j other = by (j == i) (ne_eqb j i other)
  where
    by : (b : Bool) → b ≡ false → (if b then v else first j) ≡ first j
    by true e = never e
    by false e = refl

put_same : (first : Memory) (i v j : ℕ) → j ≡ i → put first i v j ≡ v
put_same first i v j same = by (j == i) (eq-eqb j i same)
  where
    by : (b : Bool) → b ≡ true → (if b then v else first j) ≡ v
    by true e = refl
    by false e = never (sym e)

begins_same : (f : Option ℕ) (a b word : ℕ) → b ≡ a → Begins f a word → Begins f b word
begins_same f a b word e h = subst (λ n. Begins f n word) (sym e) h

put_above : (nests : List Nest) (first : Memory) (calls : List Memory) (lows : List ℕ) (i v : ℕ) → nesting nests < i → AreBegun nests (first ∷ calls) lows
    → AreBegun nests (put first i v ∷ calls) lows
put_above [] first calls lows i v above h = absurd h
put_above (OfFunction f ∷ nests) first calls [] i v above h = absurd h
put_above (OfFunction f ∷ nests) first calls (low ∷ lows) i v above h =
    (begins_same f (first 0) (put first i v 0) (low + 8 + taken nests) (put_other first i v 0 (λ e. let z : ⊥ = omega (arith, above, e) in z)) h.0, h.1)
put_above (OfPart b f ∷ nests) first calls [] i v above h = absurd h
put_above (OfPart b f ∷ nests) first calls (low ∷ lows) i v above h = (
  begins_same f (first (suc (nesting nests))) (put first i v (suc (nesting nests))) (low + 8) (put_other first i v (suc (nesting nests)) (λ e. let z : ⊥ = omega (arith, above, e) in z)) h.0,
  put_above nests first calls lows i v (omega (arith, above)) h.1,
)

no_calls : (nest : Nest) (nests : List Nest) (lows : List ℕ) → AreBegun (nest ∷ nests) [] lows → ⊥
no_calls (OfFunction f) nests lows h = absurd h
no_calls (OfPart b f) nests lows h = absurd h

no_nests : (nest : Nest) (nests : List Nest) → nest ∷ nests ≡ [] → ⊥
no_nests nest nests e = absurd (cc)

-- ---- numbers

numbered_same : (nests others : List Nest) (ns : List (ℕ × ℕ)) → is_numbered others ≡ is_numbered nests → outward others ≡ outward nests → AreNumbered nests ns → AreNumbered others ns
numbered_same nests others [] own around h = tt
numbered_same nests others (n ∷ []) own around h = h
numbered_same nests others (n ∷ m ∷ ns) own around h =
    (h.0, λ e. h.1 (sym own ∙ e), subst (λ (ms : List Nest). AreNumbered ms (m ∷ ns)) (sym around) h.2)

-- there are fewer parts than words for them
few_parts : (s : Space) (k i : ℕ) → IsSpace s → is_some (share s k) ≡ true → i < k → i < 2 ^ 16
few_parts s k i space some below =
    let roomy = roomy_of s k some in
    let large : i * 16 ≤ i * equal_part s k = mul-le-mul_left i roomy.large in
    let ends = part_ends s k i some below in
    let ordered = space.ordered in
    let within = space.within in
    let shared = space.shared in
    omega (arith, large, ends, below, ordered, within, shared)

-- ---- operations that leave the spaces and the frames as they are

stays_same : (nests : List Nest) (p q : Processor) → spaces_of q ≡ spaces_of p → lows_of q ≡ lows_of p → numbers_of q ≡ numbers_of p → frames_of q ≡ frames_of p → HasNests nests p
    → HasNests nests q
stays_same nests p q spaces lows numbers frames h = record {
  spaces = subst (AreTaken nests) (sym spaces) h.spaces;
  numbers = subst (AreNumbered nests) (sym numbers) h.numbers;
  frames = subst (λ (l : List ℕ). AreBegun nests (frames_of q) l) (sym lows) (subst (λ (f : List Memory). AreBegun nests f (lows_of p)) (sym frames) h.frames);
}

words_taken : (nests : List Nest) (words : ℕ) (p : Processor) → HasNests nests p → HasNests nests (taken_words words p)
words_taken nests words p h = by (words == 0) (nat_lt (private_words - p.top) words)
  where
    by : (none large : Bool)
        → HasNests nests (if none then in_place 0 p else if large then in_place 0 p else in_place (private_address p.top) (record p { top = p.top + words }))
    by true large = stays_same nests p (in_place 0 p) refl refl refl refl h
    by false true = stays_same nests p (in_place 0 p) refl refl refl refl h
    by false false = stays_same nests p (in_place (private_address p.top) (record p { top = p.top + words })) refl refl refl refl h

-- ---- calls

entering : (arguments : ℕ) (nests : List Nest) (p : Processor) → HasNests nests p → HasNests (OfFunction None ∷ nests) (entered arguments p)
entering arguments nests p h =
    let s = h.spaces in
    record {
      spaces = (same_taken (taken nests) (taken nests + 0) p.level.space (omega arith) s.0, s.1);
      frames = (tt, h.frames);
      numbers = numbered_same nests (OfFunction None ∷ nests) (numbers_of p) refl refl h.numbers;
    }

-- a function gives its frame back
gives_back : (framed : Bool) (f : Option ℕ) (nest : Nest) (nests : List Nest) (p : Processor) → is_some f ≡ framed → HasNests (OfFunction f ∷ nest ∷ nests) p
    → HasNests (OfFunction None ∷ nest ∷ nests) (unframed framed p)
gives_back true None nest nests p e h = never (sym e)
gives_back false (Some words) nest nests p e h = never e
gives_back false None nest nests p e h = h
gives_back true (Some words) nest nests p e h =
    let s = h.spaces in
    let f = h.frames in
    record {
      spaces = (
        fewer_taken (taken (nest ∷ nests) + 0) (taken (nest ∷ nests) + words) (p.call.frames 0) p.level.space (omega arith) (let is = f.0 in omega (arith, is)) s.0,
        s.1,
      );
      frames = (tt, f.1);
      numbers = numbered_same (OfFunction (Some words) ∷ nest ∷ nests) (OfFunction None ∷ nest ∷ nests) (numbers_of p) refl refl h.numbers;
    }

-- the caller goes on
returning : (gives : Bool) (v : ℕ) (nest : Nest) (nests : List Nest) (p : Processor) (callers : List Call) → AreTaken (OfFunction None ∷ nest ∷ nests) (spaces_of p)
    → AreBegun (nest ∷ nests) (map (λ (c : Call). c.frames) callers) (lows_of p) → AreNumbered (OfFunction None ∷ nest ∷ nests) (numbers_of p)
    → HasNests (nest ∷ nests) (to_caller gives v p callers)
returning gives v nest nests p [] s f ns = absurd (no_calls nest nests (lows_of p) f)
returning true v nest nests p (c ∷ cs) s f ns = record {
  spaces = (same_taken (taken (nest ∷ nests) + 0) (taken (nest ∷ nests)) p.level.space (omega arith) s.0, s.1);
  frames = f;
  numbers = numbered_same (OfFunction None ∷ nest ∷ nests) (nest ∷ nests) (numbers_of p) refl refl ns;
}
returning false v nest nests p (c ∷ cs) s f ns = record {
  spaces = (same_taken (taken (nest ∷ nests) + 0) (taken (nest ∷ nests)) p.level.space (omega arith) s.0, s.1);
  frames = f;
  numbers = numbered_same (OfFunction None ∷ nest ∷ nests) (nest ∷ nests) (numbers_of p) refl refl ns;
}

back : (gives : Bool) (v : ℕ) (framed : Bool) (p : Processor) (nest : Nest) (nests : List Nest) → HasNests (OfFunction None ∷ nest ∷ nests) (unframed framed p)
    → HasNests (nest ∷ nests) (to_caller gives v (unframed framed p) p.callers)
back gives v true p nest nests h = let f = h.frames in returning gives v nest nests (unframed true p) p.callers h.spaces f.1 h.numbers
back gives v false p nest nests h = let f = h.frames in returning gives v nest nests p p.callers h.spaces f.1 h.numbers

leaving : (gives framed : Bool) (v : ℕ) (nests : List Nest) (p : Processor) → MayLeave framed nests → HasNests nests p
    → HasNests (behind (o.Leave gives framed) true nests) (to_caller gives v (unframed framed p) p.callers)
leaving gives framed v [] p may h = absurd may
leaving gives framed v (OfPart b f ∷ nests) p may h = absurd may
leaving gives framed v (OfFunction f ∷ []) p may h = absurd may
leaving gives framed v (OfFunction f ∷ nest ∷ nests) p may h = back gives v framed p nest nests (gives_back framed f nest nests p may h)

-- ---- steps of the tree

-- a frame
taking_frame : (number words : ℕ) (nests : List Nest) (p : Processor) → MayTake number nests → words ≤ free p.level.space → HasNests nests p
    → HasNests (take_frame words nests) (framed number p (Some (record (p.level.space) { frames = p.level.space.frames + words })))
taking_frame number words [] p may few h = absurd may
taking_frame number words (OfFunction (Some w) ∷ nests) p may few h = let e = may.1 in absurd (cc)
taking_frame number words (OfPart b (Some w) ∷ nests) p may few h = let e = may.1 in absurd (cc)
taking_frame number words (OfFunction None ∷ nests) p may few h =
    let s = h.spaces in
    let f = h.frames in
    let filled = s.0 in
    let space = p.level.space in
    let is = filled.frames in
    let number_is = may.0 in
    record {
      spaces = (more_taken (taken nests + 0) (taken nests + words) words space (omega arith) few filled, s.1);
      frames = (
        begins_same (Some words) space.frames (put p.call.frames number space.frames 0) (space.low + 8 + taken nests) (put_same p.call.frames number space.frames 0 (sym number_is)) (omega (arith, is)),
        f.1,
      );
      numbers = numbered_same (OfFunction None ∷ nests) (OfFunction (Some words) ∷ nests) (numbers_of p) refl refl h.numbers;
    }
taking_frame number words (OfPart b None ∷ nests) p may few h =
    let s = h.spaces in
    let f = h.frames in
    let filled = s.0 in
    let space = p.level.space in
    let is = filled.frames in
    let number_is = may.0 in
    record {
      spaces = (more_taken 0 words words space (omega arith) few filled, s.1);
      frames = (
        begins_same (Some words) space.frames (put p.call.frames number space.frames (suc (nesting nests))) (space.low + 8) (put_same p.call.frames number space.frames (suc (nesting nests)) (sym number_is)) (omega (arith, is)),
        put_above nests p.call.frames (map (λ (c : Call). c.frames) p.callers) (map (λ (l : Level). l.space.low) p.outer) number space.frames (omega (arith, number_is)) f.1,
      );
      numbers = numbered_same (OfPart b None ∷ nests) (OfPart b (Some words) ∷ nests) (numbers_of p) refl refl h.numbers;
    }

taking : (number words : ℕ) (nests : List Nest) (p : Processor) → MayTake number nests → HasNests nests p
    → (large : Bool) → nat_lt (free p.level.space) words ≡ large
    → is_some (if large then None else Some (record (p.level.space) { frames = p.level.space.frames + words })) ≡ true
    → HasNests (take_frame words nests) (framed number p (if large then None else Some (record (p.level.space) { frames = p.level.space.frames + words })))
taking number words nests p may h true e room = never (sym room)
taking number words nests p may h false e room = taking_frame number words nests p may (few_words p.level.space words e) h

-- a block
allotting : (words : ℕ) (nests : List Nest) (p : Processor) → HasNests nests p → (large : Bool) → nat_lt (free p.level.space) words ≡ large
    → HasNests nests (allotted p (if large then None else Some (p.level.space.blocks - words, record (p.level.space) { blocks = p.level.space.blocks - words })))
allotting words nests p h true e = stays_same nests p (in_place 0 p) refl refl refl refl h
allotting words nests p h false e =
    let s = h.spaces in
    record { spaces = (block_taken (taken nests) words p.level.space (few_words p.level.space words e) s.0, s.1); frames = h.frames; numbers = h.numbers }

with_block_taken : (words : ℕ) (nests : List Nest) (p : Processor) → HasNests nests p → HasNests nests (with_block words p)
with_block_taken words nests p h = by (words == 0)
  where
    by : (none : Bool) → HasNests nests (if none then in_place 0 p else allotted p (block p.level.space words))
    by true = stays_same nests p (in_place 0 p) refl refl refl refl h
    by false = allotting words nests p h (nat_lt (free p.level.space) words) refl

-- a part
entering_part : (numbered : Bool) (nests : List Nest) (level : Level) (p : Processor) → HasTaken 0 level.space → level.number < 2 ^ 16
    → (numbered ≡ false → ◌≡◌ {A = ℕ × ℕ} (level.number, level.rank) (p.level.number, p.level.rank)) → HasNests nests p → HasNests (OfPart numbered None ∷ nests) (enter_level level p)
entering_part numbered nests level p empty few same h = record { spaces = (empty, h.spaces); frames = (tt, h.frames); numbers = (few, same, h.numbers) }

part_below : (by : SplitKind) (vs : List ℕ) (i : ℕ) → part by vs ≡ Some i → i < parts by vs
part_below s.IfAlone vs i e = one (last vs == 0) e
  where
    one : (b : Bool) → (if b then None else Some 0) ≡ Some i → i < 1
    one true f = absurd (cc)
    one false f = let z : 0 ≡ i = cc in omega (arith, z)
part_below s.IfElse vs i e = two (last vs == 0) e
  where
    two : (b : Bool) → (if b then Some 1 else Some 0) ≡ Some i → i < 2
    two true f = let z : 1 ≡ i = cc in omega (arith, z)
    two false f = let z : 0 ≡ i = cc in omega (arith, z)
part_below s.AndThen vs i e = one (last vs == 0) e
  where
    one : (b : Bool) → (if b then None else Some 0) ≡ Some i → i < 1
    one true f = absurd (cc)
    one false f = let z : 0 ≡ i = cc in omega (arith, z)
part_below s.OrElse vs i e = one (last vs == 0) e
  where
    one : (b : Bool) → (if b then Some 0 else None) ≡ Some i → i < 1
    one true f = let z : 0 ≡ i = cc in omega (arith, z)
    one false f = absurd (cc)
part_below s.Loop vs i e = let z : 0 ≡ i = cc in omega (arith, z)
part_below s.Fork vs i e = below (last (before 1 vs)) (parts s.Fork vs) e
  where
    below : (j k : ℕ) → if_below j k ≡ Some i → i < k
    below j k f = by (nat_lt j k) refl f
      where
        by : (b : Bool) → nat_lt j k ≡ b → (if b then Some j else None) ≡ Some i → i < k
        by true g f = let same : j ≡ i = cc in subst (λ n. n < k) same (ltb-true j k g)
        by false g f = absurd (cc)

abbrev of_two : Bool → Option ℕ
of_two first = if first then Some 1 else Some 0

waiting : (by : SplitKind) (size : ℕ) (nests : List Nest) (p : Processor) → part by (values p) ≡ None → HasNests nests (divided by size p None)
    → HasNests (behind (o.Split by) (enters by None) nests) (divided by size p None)
waiting s.IfElse size nests p e h = two (last (values p) == 0) e
  where
    two : (first : Bool) → of_two first ≡ None → HasNests (OfPart false None ∷ nests) (divided s.IfElse size p None)
    two true f = absurd (cc)
    two false f = absurd (cc)
waiting s.Loop size nests p e h = absurd (cc)
waiting s.IfAlone size nests p e h = h
waiting s.AndThen size nests p e h = h
waiting s.OrElse size nests p e h = h
waiting s.Fork size nests p e h = h

goes_in : (by : SplitKind) (i : ℕ) (nests : List Nest) (q : Processor) → HasNests (OfPart (numbers by) None ∷ nests) q → HasNests (behind (o.Split by) (enters by (Some i)) nests) q
goes_in s.IfAlone i nests q h = h
goes_in s.IfElse i nests q h = h
goes_in s.AndThen i nests q h = h
goes_in s.OrElse i nests q h = h
goes_in s.Loop i nests q h = h
goes_in s.Fork i nests q h = h

-- the numbers of a part
part_few : (by : SplitKind) (old i : ℕ) → old < 2 ^ 16 → i < 2 ^ 16 → part_number by old i < 2 ^ 16
part_few s.Fork old i was is = is
part_few s.IfAlone old i was is = was
part_few s.IfElse old i was is = was
part_few s.AndThen old i was is = was
part_few s.OrElse old i was is = was
part_few s.Loop old i was is = was

part_same : (by : SplitKind) (old i rank v : ℕ) → numbers by ≡ false → ◌≡◌ {A = ℕ × ℕ} (part_number by old i, part_rank by rank v) (old, rank)
part_same s.Fork old i rank v e = never e
part_same s.IfAlone old i rank v e = refl
part_same s.IfElse old i rank v e = refl
part_same s.AndThen old i rank v e = refl
part_same s.OrElse old i rank v e = refl
part_same s.Loop old i rank v e = refl

own_few : (nests : List Nest) (n : ℕ × ℕ) (ns : List (ℕ × ℕ)) → AreNumbered nests (n ∷ ns) → n.0 < 2 ^ 16
own_few nests n [] h = h
own_few nests n (m ∷ ns) h = h.0

dividing : (by : SplitKind) (size : ℕ) (nests : List Nest) (p : Processor) → has_parts p.level.space (parts by (values p)) ≡ true → HasNests nests p
    → (chosen : Option ℕ) → part by (values p) ≡ chosen → HasNests (behind (o.Split by) (enters by chosen) nests) (divided by size p chosen)
dividing by size nests p room h None e = waiting by size nests p e (stays_same nests p (divided by size p None) refl refl refl refl h)
dividing by size nests p room h (Some i) e =
    let s = h.spaces in
    let filled = s.0 in
    let k = parts by (values p) in
    let below = part_below by (values p) i e in
    goes_in by i nests (divided by size p (Some i))
    (entering_part (numbers by) nests (part_level by p size i) (drop_last (taken_by by) p)
    (child_taken p.level.space k i filled.space (parts_share p.level.space k i below room) below)
    (part_few by p.level.number i (own_few nests (p.level.number, p.level.rank) (map (λ (l : Level). (l.number, l.rank)) p.outer) h.numbers)
    (few_parts p.level.space k i filled.space (parts_share p.level.space k i below room) below))
    (λ e. part_same by p.level.number i p.level.rank (last (values p)) e)
    (stays_same nests p (drop_last (taken_by by) p) refl refl refl refl h))

beginning : (size : ℕ) (nests : List Nest) (p : Processor) → nests ≡ OfFunction None ∷ [] → HasNests nests p → (way : Bool)
    → HasNests (behind o.Begin way nests) (if way then enter_level (start_level p size) (drop_last 1 p) else drop_last 1 p)
beginning size nests p is h false = stays_same nests p (drop_last 1 p) refl refl refl refl h
beginning size nests p is h true =
    entering_part true nests (start_level p size) (drop_last 1 p)
    (let s = h.spaces in subst (λ n. HasTaken n p.level.space) (ap taken is) s.0) (omega arith) (λ e. never e)
    (stays_same nests p (drop_last 1 p) refl refl refl refl h)

-- the end of a part
to_group_around : (nest : Nest) (nests : List Nest) (p : Processor) (outer : List Level) → AreTaken (nest ∷ nests) (map (λ (l : Level). l.space) outer)
    → AreBegun (nest ∷ nests) (frames_of p) (map (λ (l : Level). l.space.low) outer) → (b : Bool) → AreNumbered (OfPart b None ∷ nest ∷ nests) ((p.level.number, p.level.rank) ∷ map (λ (l : Level). (l.number, l.rank)) outer)
    → HasNests (nest ∷ nests) (to_outer p outer)
to_group_around nest nests p [] s f b ns = absurd (no_nests nest nests s)
to_group_around nest nests p (l ∷ ls) s f b ns = record { spaces = s; frames = f; numbers = ns.2 }

leaving_part : (nests : List Nest) (p : Processor) → IsInPart nests → HasNests nests p → HasNests (tail nests) (leave_level p)
leaving_part [] p inside h = absurd inside
leaving_part (OfFunction f ∷ nests) p inside h = absurd inside
leaving_part (OfPart b f ∷ []) p inside h = absurd inside
leaving_part (OfPart b f ∷ nest ∷ nests) p inside h = let s = h.spaces in let fs = h.frames in to_group_around nest nests p p.outer s.1 fs.1 b
    (numbered_same (OfPart b f ∷ nest ∷ nests) (OfPart b None ∷ nest ∷ nests) (numbers_of p) refl refl h.numbers)

shrinking : (size : ℕ) (nests : List Nest) (p : Processor) → IsInPart nests → HasNests nests p → (way : Bool)
    → HasNests (behind o.Shrink way nests) (if way then with_size size (drop_last 1 p) else leave_level (drop_last 1 p))
shrinking size nests p inside h true = stays_same nests p (with_size size (drop_last 1 p)) refl refl refl refl h
shrinking size nests p inside h false = leaving_part nests (drop_last 1 p) inside (stays_same nests p (drop_last 1 p) refl refl refl refl h)

-- ---- each operation

no_local : (by : Multiprefix) → class_of (o.Combine by) ≡ Local → ⊥
no_local MpAdd e = absurd (cc)
no_local MpMax e = absurd (cc)
no_local MpAnd e = absurd (cc)
no_local MpOr e = absurd (cc)

no_step : (by : Multiprefix) → class_of (o.Combine by) ≡ Tree → ⊥
no_step MpAdd e = absurd (cc)
no_step MpMax e = absurd (cc)
no_step MpAnd e = absurd (cc)
no_step MpOr e = absurd (cc)

pub local_keeps : (set : Setting) (op : Operation) (nests : List Nest) (p : Processor) → class_of op ≡ Local → May op nests → HasNests nests p
    → HasNests (behind op (is_onward op p) nests) (local set op p)
local_keeps set (o.Push n) nests p e may h = stays_same nests p (local set (o.Push n) p) refl refl refl refl h
local_keeps set (o.Get k) nests p e may h = stays_same nests p (local set (o.Get k) p) refl refl refl refl h
local_keeps set (o.Set (v.Private i)) nests p e may h = stays_same nests p (local set (o.Set (v.Private i)) p) refl refl refl refl h
local_keeps set (o.Set (v.OfFile i)) nests p e may h = stays_same nests p (local set (o.Set (v.OfFile i)) p) refl refl refl refl h
local_keeps set o.DropLast nests p e may h = stays_same nests p (local set o.DropLast p) refl refl refl refl h
local_keeps set o.CopyLast nests p e may h = stays_same nests p (local set o.CopyLast p) refl refl refl refl h
local_keeps set (o.Apply sign) nests p e may h = stays_same nests p (local set (o.Apply sign) p) refl refl refl refl h
local_keeps set (o.Binary sign turned) nests p e may h = stays_same nests p (local set (o.Binary sign turned) p) refl refl refl refl h
local_keeps set (o.Index size) nests p e may h = stays_same nests p (local set (o.Index size) p) refl refl refl refl h
local_keeps set (o.Branch onward) nests p e may h = stays_same nests p (local set (o.Branch onward) p) refl refl refl refl h
local_keeps set o.Take nests p e may h = words_taken nests (words_of (last (values p))) p h
local_keeps set (o.Leave gives framed) nests p e may h = leaving gives framed (last (values p)) nests p may h
local_keeps set (o.Combine by) nests p e may h = absurd (no_local by e)
local_keeps set op nests p e may h = absurd (cc)

pub request_keeps : (answer : ℕ) (op : Operation) (nests : List Nest) (p : Processor) → class_of op ≡ Request → HasNests nests p
    → HasNests (behind op true nests) (with_answer op answer p)
request_keeps answer (o.Check shared_alone) nests p e h = h
request_keeps answer o.Read nests p e h = stays_same nests p (with_answer o.Read answer p) refl refl refl refl h
request_keeps answer o.Write nests p e h = stays_same nests p (with_answer o.Write answer p) refl refl refl refl h
request_keeps answer (o.Combine by) nests p e h = stays_same nests p (with_answer (o.Combine by) answer p) refl refl refl refl h
request_keeps answer o.PrintNumber nests p e h = stays_same nests p (with_answer o.PrintNumber answer p) refl refl refl refl h
request_keeps answer o.PrintByte nests p e h = stays_same nests p (with_answer o.PrintByte answer p) refl refl refl refl h
request_keeps answer o.Heap nests p e h = stays_same nests p (with_answer o.Heap answer p) refl refl refl refl h
request_keeps answer (o.Enter arguments) nests p e h = entering arguments nests p h
request_keeps answer op nests p e h = absurd (cc)

pub step_keeps : (highest lowest size : ℕ) (op : Operation) (nests : List Nest) (p : Processor) → class_of op ≡ Tree → May op nests → has_room op p ≡ true → HasNests nests p
    → HasNests (behind op (goes_onward op highest lowest p) nests) (does op highest size p)
step_keeps highest lowest size o.Begin nests p e may room h = beginning size nests p may h (is_taken highest p)
step_keeps highest lowest size o.Agree nests p e may room h = stays_same nests p (in_place highest p) refl refl refl refl h
step_keeps highest lowest size (o.Frame number words) nests p e may room h = taking number words nests p may h (nat_lt (free p.level.space) words) refl room
step_keeps highest lowest size o.Block nests p e may room h = with_block_taken (words_of (last (values p))) nests p h
step_keeps highest lowest size (o.Split by) nests p e may room h = dividing by size nests p room h (part by (values p)) refl
step_keeps highest lowest size o.Shrink nests p e may room h = shrinking size nests p may.0 h (stays p)
step_keeps highest lowest size o.End nests p e may room h = leaving_part nests p may h
step_keeps highest lowest size o.Resume nests p e may room h = h
step_keeps highest lowest size o.Farm nests p e may room h = h
step_keeps highest lowest size o.Seq nests p e may room h = h
step_keeps highest lowest size (o.Meet closing) nests p e may room h = h
step_keeps highest lowest size o.Halt nests p e may room h = h
step_keeps highest lowest size (o.Combine by) nests p e may room h = absurd (no_step by e)
step_keeps highest lowest size op nests p e may room h = absurd (cc)
