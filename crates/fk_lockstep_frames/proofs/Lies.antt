-- Frames lie in the spaces of their groups.
use Rattle.std.proofs.Common.{◌≡◌, ℕ, suc, ◌+◌, ◌*◌, ◌%◌, ◌^◌, ◌<◌, ◌≤◌, ◌==◌, ◌||◌, nat_lt, Bool, true, false, List, [], ◌∷◌, map, Option, Some, None, if◌then◌else◌, refl, sym, ap, subst, arith, eqb-true}
use Rattle.std.proofs.lemmas.Bool.{and_from, or_left, le-leb, lt-ltb, ltb-true, eq-eqb}
use Rattle.fk_num.specs.Word.{Memory, word}
use Rattle.fk_space.specs.Space.{Space}
use Rattle.fk_meaning_operation.specs.declared.operation.OwnValue.TheVariants.{FrameAddress}
use Rattle.fk_meaning_store.specs.Store.{address_of}
use Rattle.fk_meaning_store.specs.Serve.{may_use}
use Rattle.fk_meaning.specs.Processor.{Level, Call, Processor, Setting}
use Rattle.fk_meaning.specs.Local.{known}
use Rattle.fk_lockstep_frames.specs.Nests.{Nest, OfFunction, OfPart, words_in, nesting, frame_at, frame_has, has_word, taken, outward}
use Rattle.fk_lockstep_frames.specs.Taken.{spaces_of, frames_of, HasTaken, AreTaken, Begins, AreBegun, HasNests, Lies, AllLie, FramesLieInSpaces}

abbrev lows_in : List Space → List ℕ
lows_in spaces = map (λ (s : Space). s.low) spaces

same_lows : (ls : List Level) → map (λ (l : Level). l.space.low) ls ≡ lows_in (map (λ (l : Level). l.space) ls)
same_lows [] = refl
same_lows (l ∷ ls) = ap (λ (rest : List ℕ). l.space.low ∷ rest) (same_lows ls)

-- a frame that begins where it should, and after which others may have been taken
lies : (f : Option ℕ) (first before words : ℕ) (s : Space) → HasTaken words s → before + words_in f ≤ words → Begins f first (s.low + 8 + before) → Lies f first s
lies None first before words s has few is = tt
lies (Some n) first before words s has few is = let frames = has.frames in (omega (arith, is), omega (arith, is, few, frames))

begins_at : (f : Option ℕ) (first low : ℕ) → Begins f first (low + 8) → Begins f first (low + 8 + 0)
begins_at f first low h = let e : low + 8 ≡ low + 8 + 0 = omega arith in subst (λ n. Begins f first n) e h

no_lows : (nests : List Nest) (first : Memory) (calls : List Memory) → nests ≡ [] → AreBegun nests (first ∷ calls) [] → ⊥
no_lows [] first calls e begun = begun
no_lows (n ∷ nests) first calls e begun = absurd (cc)

-- in a group in which more words may have been taken than up to these nests
all_lie : (nests : List Nest) (calls : List Memory) (spaces : List Space) (s : Space) (words : ℕ) → HasTaken words s → taken nests ≤ words
    → AreTaken (outward nests) spaces → AreBegun nests calls (s.low ∷ lows_in spaces) → AllLie nests calls (s ∷ spaces)
all_lie [] [] spaces s words has few outer begun = tt
all_lie [] (first ∷ calls) spaces s words has few outer begun = absurd begun
all_lie (OfFunction f ∷ nests) [] spaces s words has few outer begun = absurd begun
all_lie (OfFunction f ∷ nests) (first ∷ calls) spaces s words has few outer begun =
    (lies f (first 0) (taken nests) words s has few begun.0, all_lie nests calls spaces s words has (omega (arith, few)) outer begun.1)
all_lie (OfPart b f ∷ nests) [] spaces s words has few outer begun = absurd begun
all_lie (OfPart b f ∷ nests) (first ∷ calls) [] s words has few outer begun = absurd (no_lows nests first calls outer begun.1)
all_lie (OfPart b f ∷ nests) (first ∷ calls) (around ∷ spaces) s words has few outer begun = (
  lies f (first (suc (nesting nests))) 0 words s has (omega (arith, few)) (begins_at f (first (suc (nesting nests))) s.low begun.0),
  all_lie nests (first ∷ calls) spaces around (taken nests) outer.0 (omega arith) outer.1 begun.1,
)

-- a word of a frame of the running call
ends : (f : Option ℕ) (first words taken_words : ℕ) (s : Space) → f ≡ Some words → HasTaken taken_words s → Lies f first s → first + words ≤ 2 ^ 20
ends None first words taken_words s e has lies = absurd (cc)
ends (Some n) first words taken_words s e has lies =
    let same : n ≡ words = cc in
    let space = has.space in
    let ordered = space.ordered in
    let within = space.within in
    let shared = space.shared in
    let end = lies.1 in
    omega (arith, same, ordered, within, shared, end)

none_some : (words : ℕ) → None ≡ Some words → ⊥
none_some words e = absurd (cc)

no_spaces : (nests : List Nest) (first : Memory) (calls : List Memory) → nests ≡ [] → AllLie nests (first ∷ calls) [] → ⊥
no_spaces [] first calls e lie = lie
no_spaces (n ∷ nests) first calls e lie = absurd (cc)

pub pick : {P : Type 0} (here there : Option ℕ) (number k words : ℕ) (b : Bool) → (number == k) ≡ b → (if b then here else there) ≡ Some words
    → (number ≡ k → here ≡ Some words → P) → (there ≡ Some words → P) → P
pick here there number k words true same is at_it other = at_it (eqb-true number k same) is
pick here there number k words false same is at_it other = other is

in_space : (nests : List Nest) (first : Memory) (calls : List Memory) (spaces : List Space) (s : Space) (taken_words number words : ℕ) → HasTaken taken_words s
    → AreTaken (outward nests) spaces → AllLie nests (first ∷ calls) (s ∷ spaces) → frame_at nests number ≡ Some words → first number + words ≤ 2 ^ 20
in_space [] first calls spaces s taken_words number words has outer lie e = absurd (none_some words e)
in_space (OfFunction f ∷ nests) first calls spaces s taken_words number words has outer lie e =
    pick f None number 0 words (number == 0) refl e
    (λ zero_is is. subst (λ n. first n + words ≤ 2 ^ 20) (sym zero_is) (ends f (first 0) words taken_words s is has lie.0)) (λ is. absurd (none_some words is))
in_space (OfPart b f ∷ nests) first calls [] s taken_words number words has outer lie e = absurd (no_spaces nests first calls outer lie.1)
in_space (OfPart b f ∷ nests) first calls (around ∷ spaces) s taken_words number words has outer lie e =
    pick f (frame_at nests number) number (suc (nesting nests)) words (number == suc (nesting nests)) refl e
    (λ number_is is. subst (λ n. first n + words ≤ 2 ^ 20) (sym number_is) (ends f (first (suc (nesting nests))) words taken_words s is has lie.0))
    (λ is. in_space nests first calls spaces around (taken nests) number words outer.0 outer.1 lie.1 is)

may_use_word : (n : ℕ) → n < 2 ^ 20 → may_use true (word (address_of n)) ≡ true
may_use_word n low =
    let a = 0x10000000 + 4 * n in
    let is : a % 2 ^ 32 ≡ a = omega (arith, low) in
    subst (λ x. may_use true x ≡ true) (sym is)
    (and_from _ _ (eq-eqb (a % 4) 0 (omega arith))
    (or_left _ _ (and_from _ _ (le-leb 0x10000000 a (omega arith)) (lt-ltb a (0x10000000 + 4 * 2 ^ 20) (omega (arith, low))))))

module _ (nests : List Nest) (p : Processor) (h : HasNests nests p) where
  abbrev around : List Space
  around = map (λ (l : Level). l.space) p.outer

  lie : AllLie nests (frames_of p) (spaces_of p)
  lie =
      let s = h.spaces in
      all_lie nests (frames_of p) around p.level.space (taken nests) s.0 (omega arith) s.1 (subst (AreBegun nests (frames_of p)) (same_lows (p.level ∷ p.outer)) h.frames)

  usable_in : (number offset : ℕ) (frame : Option ℕ) → frame_at nests number ≡ frame → frame_has frame offset ≡ true
      → may_use true (word (address_of (p.call.frames number + offset))) ≡ true
  usable_in number offset None e is = absurd (cc)
  usable_in number offset (Some words) e is =
      let s = h.spaces in
      let end = in_space nests p.call.frames (map (λ (c : Call). c.frames) p.callers) around p.level.space (taken nests) number words s.0 s.1 lie e in
      by (nat_lt offset words) refl is end
    where
      by : (b : Bool) → nat_lt offset words ≡ b → (b || nat_lt (2 ^ 20) words) ≡ true → p.call.frames number + words ≤ 2 ^ 20
          → may_use true (word (address_of (p.call.frames number + offset))) ≡ true
      by true is' any end = let low = ltb-true offset words is' in may_use_word (p.call.frames number + offset) (omega (arith, low, end))
      by false is' large end = let high = ltb-true (2 ^ 20) words large in absurd (omega (arith, high, end))

  usable : (setting : Setting) (number offset : ℕ) → has_word nests number offset ≡ true → may_use true (known setting p (FrameAddress number offset)) ≡ true
  usable setting number offset is = usable_in number offset (frame_at nests number) refl is

pub frames_lie_in_spaces : FramesLieInSpaces
frames_lie_in_spaces nests p h = record { lie = lie nests p h; usable = usable nests p h }
