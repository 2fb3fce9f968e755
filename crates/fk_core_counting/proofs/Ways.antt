-- How the parts around a call change where code goes on.
use Rattle.std.proofs.Common.{◌≡◌, ◌⊎◌, ℕ, suc, ◌-◌, ◌≤◌, Bool, true, false, true≢false, List, [], ◌∷◌, Option, Some, None, inl, inr, refl, sym, ap, ◌∙◌, subst, arith, zero}
use Rattle.fk_meaning_operation.specs.declared.operation.Operation.{Operation}
use Rattle.fk_meaning_operation.specs.declared.operation.Operation.TheVariants as o
use Rattle.fk_meaning_operation.specs.declared.operation.SplitKind.{SplitKind}
use Rattle.fk_meaning_operation.specs.declared.operation.SplitKind.TheVariants as sk
use Rattle.fk_meaning.specs.Shape.{splits, waits, is_quit}
use Rattle.fk_meaning.proofs.Spine.{untrue}
use Rattle.fk_core_flat.specs.Items as w
use Rattle.fk_core_flat.specs.Items.{way_of}
use Rattle.fk_core_liveness.specs.declared.places.FunctionKind.{FunctionKind}
use Rattle.fk_core_liveness.specs.declared.places.FunctionKind.TheVariants.{Main, Called}
use Rattle.fk_core_liveness.specs.Frames.{is_main_place}
use Rattle.fk_core_typing.specs.Values.{Place, with_frame, entered, place_behind, MayBeIn}
use Rattle.fk_lockstep_frames.specs.Nests.{Nest, OfFunction, OfPart, nesting, levels_of, left_by_fork, words_in_part, MayTake}
use Rattle.fk_lockstep_structure.specs.Placed.{Who, OfGroup, OfBody, OfMain, is_main, inner, who_in, may_perform, may_choose}
use Rattle.fk_core_levels.specs.Count.{here, enters}
use Rattle.fk_core_levels.specs.Forks.{OpenPart, Parts as OpenParts, taken, left_by}
use Rattle.fk_core_counting.specs.Laws.{under, takes_in_part}
use Rattle.fk_core_counting.proofs.Folding.{Parts, parts, none, at, past, worded}

-- the levels in the frame of a call at a place, and the parts around it
abbrev pub levels_at : Place → ℕ
levels_at p = levels_of (is_main_place p.function) p.nests

-- the parts of a call that are open, as its nests have them
abbrev pub open_by : (levels : ℕ) → OpenPart → List OpenPart → List OpenPart
open_by zero part more = []
open_by (suc n) part more = part ∷ more

abbrev pub around_by : (numbered : Bool) → (around : List Nest) → OpenPart
around_by numbered nests = record { fork = left_by_fork numbered nests; words = words_in_part nests }

abbrev pub open_in : (main : Bool) → List Nest → List OpenPart
open_in main [] = []
open_in main (OfFunction frame ∷ nests) = []
open_in main (OfPart numbered frame ∷ nests) = open_by (levels_of main (OfPart numbered frame ∷ nests)) (around_by numbered nests) (open_in main nests)

abbrev pub forks_at : Place → OpenParts
forks_at p = record { parts = open_in (is_main_place p.function) p.nests; words = words_in_part p.nests }

abbrev pub parts_at : Place → Parts
parts_at p = parts (levels_at p) (nesting p.nests) (forks_at p)

-- so many they are. In `main` only those who are in the group of a `start` are in a group
pub record Stand (who : Who) (p : Place) (k : Parts) : Type 0 where
  pub is : parts_at p ≡ k
  pub within : is_main who ≡ false → is_main_place p.function ≡ true → 1 ≤ nesting p.nests

pub stand_at : (who : Who) (p q : Place) (k : Parts) → p ≡ q → Stand who q k → Stand who p k
stand_at who p q k e h = subst (λ (place : Place). Stand who place k) (sym e) h

inner_main : (who : Who) → is_main (inner who) ≡ is_main who
inner_main OfGroup = refl
inner_main OfBody = refl
inner_main (OfMain b) = refl

pub stand_inner : (who : Who) (p : Place) (k : Parts) → Stand who p k → Stand (inner who) p k
stand_inner who p k h = record { is = h.is; within = λ e. h.within (sym (inner_main who) ∙ e) }

-- a function begins outside of all parts
pub stand_begun : (who : Who) (kind : FunctionKind) (frame : Option ℕ) → (is_main who ≡ false → is_main_place kind ≡ false) → Stand who (with_frame kind frame) none
stand_begun who Main frame h = record { is = refl; within = λ e f. absurd (true≢false (h e)) }
stand_begun who (Called gives) frame h = record { is = refl; within = λ e f. absurd (true≢false (sym f)) }

-- what is open where code begins that may resume
abbrev pub Enters : (resuming : Bool) → (there here : Parts) → Type 0
Enters true m k = at (Some o.Resume) m ≡ k
Enters false m k = m ≡ k

-- ---- what holds of splits, and of the tests of loops that split

abbrev pub Says : Operation → Place → Type 0
Says (o.Split by) p = is_main_place p.function ≡ true → 1 ≤ nesting p.nests
Says o.Shrink p = 1 ≤ levels_at p
Says op p = Unit {0}

pub says_straight : (op : Operation) (p : Place) → way_of op ≡ w.straight → Says op p
says_straight (o.Split by) p e = absurd (cc)
says_straight o.Shrink p e = absurd (cc)
says_straight op p e = tt

pub says_onto : (op : Operation) (p : Place) → way_of op ≡ w.onto → Says op p
says_onto (o.Split by) p e = absurd (cc)
says_onto o.Shrink p e = absurd (cc)
says_onto op p e = tt

pub says_into : (op : Operation) (p : Place) → way_of op ≡ w.into → Says op p
says_into (o.Split by) p e = absurd (cc)
says_into o.Shrink p e = absurd (cc)
says_into op p e = tt

pub says_out : (op : Operation) (p : Place) → way_of op ≡ w.out → Says op p
says_out (o.Split by) p e = absurd (cc)
says_out o.Shrink p e = absurd (cc)
says_out op p e = tt

-- ---- one way

-- what goes straight on leaves the parts as they are, and may take a frame in the innermost one
pub straight_on : (who : Who) (op : Operation) (p : Place) (k : Parts) → way_of op ≡ w.straight → MayBeIn op p → Stand who p k → Stand who (place_behind op true p) (past (Some op) k)
straight_on who (o.Frame number words) p k e may h = by p.nests may h.is h.within
  where
    by : (nests : List Nest) → MayTake number nests → parts_at (record { function = p.function; nests = nests }) ≡ k → (is_main who ≡ false → is_main_place p.function ≡ true → 1 ≤ nesting nests)
        → Stand who (place_behind (o.Frame number words) true (record { function = p.function; nests = nests })) (past (Some (o.Frame number words)) k)
    by [] may is within = absurd may
    by (OfFunction frame ∷ nests) may is within = record { is = is ∙ ap (λ n. parts k.levels k.around (taken n words k.forks)) (sym may.0); within = within }
    by (OfPart numbered frame ∷ nests) may is within = record {
      is = ap (λ (x : Parts). worded words x) is ∙ ap (λ n. parts k.levels k.around (taken n words k.forks)) (sym may.0);
      within = within;
    }
straight_on who (o.Branch onward) p k e may h = absurd (cc)
straight_on who o.Begin p k e may h = absurd (cc)
straight_on who (o.Split by) p k e may h = absurd (cc)
straight_on who o.Shrink p k e may h = absurd (cc)
straight_on who o.Farm p k e may h = absurd (cc)
straight_on who o.Seq p k e may h = absurd (cc)
straight_on who o.End p k e may h = absurd (cc)
straight_on who (o.Enter arguments) p k e may h = absurd (cc)
straight_on who (o.Leave gives framed) p k e may h = absurd (cc)
straight_on who o.Halt p k e may h = absurd (cc)
straight_on who op p k e may h = h

-- so does a test that goes on in its loop, and an operation that ends a function
pub quit_on : (who : Who) (op : Operation) (p : Place) (k : Parts) → is_quit op ≡ true → Stand who p k → Stand who (place_behind op true p) k
quit_on who (o.Branch onward) p k e h = h
quit_on who o.Shrink p k e h = h
quit_on who op p k e h = untrue e

pub says_quit : (who : Who) (op : Operation) (p : Place) (k : Parts) → is_quit op ≡ true → (op ≡ o.Shrink → 1 ≤ k.levels) → Stand who p k → Says op p
says_quit who (o.Branch onward) p k e deep h = tt
says_quit who o.Shrink p k e deep h = subst (λ (x : Parts). 1 ≤ x.levels) (sym h.is) (deep refl)
says_quit who op p k e deep h = untrue e

pub out_on : (who : Who) (op : Operation) (p : Place) (k : Parts) → way_of op ≡ w.out → Stand who p k → Stand who (place_behind op true p) k
out_on who (o.Leave gives framed) p k e h = h
out_on who o.Halt p k e h = h
out_on who op p k e h = absurd (let z = e in cc)

-- ---- what is told

pub here_of : (op : Operation) (k : Parts) → may_perform false op ≡ true → at (Some op) k ≡ k
here_of o.Resume k e = untrue e
here_of op k e = refl

pub resume_of : (op : Operation) → may_perform true op ≡ true → op ≡ o.Resume
resume_of o.Resume e = refl
resume_of o.Halt e = untrue e
resume_of op e = untrue e

-- only a frame of a part changes what is open
pub after_straight : (op : Operation) (k : Parts) → way_of op ≡ w.straight → (takes_in_part op ≡ true → ⊥) → past (Some op) k ≡ k
after_straight (o.Split by) k e free = absurd (cc)
after_straight o.Begin k e free = absurd (cc)
after_straight o.End k e free = absurd (cc)
after_straight (o.Frame zero words) k e free = refl
after_straight (o.Frame (suc number) words) k e free = absurd (free refl)
after_straight op k e free = refl

-- outside of parts there is no such frame
pub outside_parts : (op : Operation) (p : Place) → MayBeIn op p → nesting p.nests ≡ 0 → takes_in_part op ≡ true → ⊥
outside_parts (o.Frame zero words) p may out takes = untrue takes
outside_parts (o.Frame (suc number) words) p may out takes = by p.nests may out
  where
    by : (nests : List Nest) → MayTake (suc number) nests → nesting nests ≡ 0 → ⊥
    by [] may' out' = may'
    by (nest ∷ nests) may' out' = let e = may'.0 in omega (arith, e, out')
outside_parts op p may out takes = untrue takes

pub straight_worded : (op : Operation) (k : Parts) (words : ℕ) → way_of op ≡ w.straight → worded words (past (Some op) k) ≡ worded words k
straight_worded (o.Split by) k words e = absurd (cc)
straight_worded o.Begin k words e = absurd (cc)
straight_worded o.End k words e = absurd (cc)
straight_worded (o.Frame zero more) k words e = refl
straight_worded (o.Frame (suc number) more) k words e = refl
straight_worded op k words e = refl

-- at the end of a part its frame is left
pub after_onto : (op : Operation) (k : Parts) → way_of op ≡ w.onto → past (Some op) k ≡ worded 0 k
after_onto o.End k e = refl
after_onto op k e = absurd (let z = e in cc)

pub after_quit : (op : Operation) (k : Parts) → is_quit op ≡ true → past (Some op) k ≡ k
after_quit (o.Branch onward) k e = refl
after_quit o.Shrink k e = refl
after_quit op k e = untrue e

pub no_enter : (op : Operation) (b : Bool) → (way_of op ≡ w.into → ⊥) → enters b (Some op) ≡ b
no_enter (o.Enter arguments) b e = absurd (e refl)
no_enter op b e = refl

pub either_here : (op : Operation) (k : Parts) → way_of op ≡ w.either → at (Some op) k ≡ k
either_here o.Resume k e = absurd (cc)
either_here op k e = refl

pub out_here : (op : Operation) (k : Parts) → way_of op ≡ w.out → (at (Some op) k ≡ k) × (past (Some op) k ≡ k)
out_here (o.Leave gives framed) k e = (refl, refl)
out_here o.Halt k e = (refl, refl)
out_here op k e = absurd (let z = e in cc)

pub into_here : (op : Operation) (k : Parts) (b : Bool) → way_of op ≡ w.into → (at (Some op) k ≡ k) × (past (Some op) k ≡ k) × (enters b (Some op) ≡ true)
into_here (o.Enter arguments) k b e = (refl, refl, refl)
into_here op k b e = absurd (let z = e in cc)

-- ---- two ways

-- on the first way the code stands with what is open behind the operation; on the second way too, or nothing is done there; and what
-- comes behind both finds as much open as it needs
pub record Ways (who : Who) (op : Operation) (p : Place) (k : Parts) : Type 0 where
  pub says : Says op p
  pub first : Stand (who_in who op) (place_behind op true p) (past (Some op) k)
  pub second : Stand (who_in who op) (place_behind op false p) (past (Some op) k) ⊎ (waits op ≡ true)
  pub behind : Enters (splits op) (past (Some op) k) k
  pub deep : (b : Bool) → (b ≡ true → 1 ≤ k.levels) → under op b ≡ true → 1 ≤ (past (Some op) k).levels

same_parts : (k : Parts) (a b : ℕ) → a ≡ k.levels → b ≡ k.around → parts a b k.forks ≡ k
same_parts k a b e f = ap (λ x. parts x b k.forks) e ∙ ap (λ x. parts k.levels x k.forks) f

module _ (p : Place) (k : Parts) where
  -- one part more
  deeper : (numbered b : Bool) → levels_of b p.nests ≡ k.levels → (b ≡ true → 1 ≤ nesting p.nests) → levels_of b (OfPart numbered None ∷ p.nests) ≡ suc k.levels
  deeper numbered true e within = let some = within refl in omega (arith, e, some)
  deeper numbered false e within = omega (arith, e)

  parted : (by : SplitKind) (numbered : Bool) → left_by_fork numbered p.nests ≡ left_by by (words_in_part p.nests) → Stand OfGroup p k
      → Stand OfGroup (record p { nests = OfPart numbered None ∷ p.nests }) (past (Some (o.Split by)) k)
  parted by numbered left h = record {
    is = ap (λ n. parts n (suc (nesting p.nests)) (record { parts = open_by n (around_by numbered p.nests) (open_in (is_main_place p.function) p.nests); words = 0 }))
        (deeper numbered (is_main_place p.function) (ap (λ (x : Parts). x.levels) h.is) (h.within refl))
        ∙ ap (λ (f : Option ℕ). parts (suc k.levels) (suc (nesting p.nests))
        (record { parts = record { fork = f; words = words_in_part p.nests } ∷ open_in (is_main_place p.function) p.nests; words = 0 })) left
        ∙ ap (λ (x : Parts). parts (suc k.levels) (suc x.around) (record { parts = record { fork = left_by by x.forks.words; words = x.forks.words } ∷ x.forks.parts; words = 0 })) h.is;
    within = λ e f. omega arith;
  }

  back : (by : SplitKind) → at (Some o.Resume) (past (Some (o.Split by)) k) ≡ k
  back by = same_parts k (suc k.levels - 1) (suc k.around - 1) (omega arith) (omega arith)

  some : 1 ≤ suc k.levels
  some = omega arith

  split_ways : (by : SplitKind) → Stand OfGroup p k → Ways OfGroup (o.Split by) p k
  split_ways sk.IfAlone h = record { says = h.within refl; first = parted sk.IfAlone false refl h; second = inr refl; behind = back sk.IfAlone; deep = λ b d e. some }
  split_ways sk.IfElse h = record { says = h.within refl; first = parted sk.IfElse false refl h; second = inl (parted sk.IfElse false refl h); behind = back sk.IfElse; deep = λ b d e. some }
  split_ways sk.AndThen h = record { says = h.within refl; first = parted sk.AndThen false refl h; second = inr refl; behind = back sk.AndThen; deep = λ b d e. some }
  split_ways sk.OrElse h = record { says = h.within refl; first = parted sk.OrElse false refl h; second = inr refl; behind = back sk.OrElse; deep = λ b d e. some }
  split_ways sk.Loop h = record { says = h.within refl; first = parted sk.Loop false refl h; second = inr refl; behind = back sk.Loop; deep = λ b d e. some }
  split_ways sk.Fork h = record { says = h.within refl; first = parted sk.Fork true refl h; second = inr refl; behind = back sk.Fork; deep = λ b d e. some }

  begin_ways : (who : Who) → p ≡ entered Main → Stand who p k → Ways who o.Begin p k
  begin_ways who e h =
      let empty : k ≡ none = sym h.is ∙ ap parts_at e in
      record {
        says = tt;
        first = record {
          is = ap (λ (q : Place). parts_at (record q { nests = OfPart true None ∷ q.nests })) e ∙ sym (ap (λ (x : Parts). past (Some o.Begin) x) empty);
          within = λ f g. omega arith;
        };
        second = inr refl;
        behind = ap (λ (x : Parts). at (Some o.Resume) (past (Some o.Begin) x)) empty ∙ sym empty;
        deep = λ b d f. untrue f;
      }

  as_body : Stand OfGroup p k → Stand OfBody p k
  as_body h = record { is = h.is; within = λ e. h.within refl }

  body_ways : (op : Operation) → Says op p → Stand OfBody (place_behind op true p) (past (Some op) k) → waits op ≡ true → Enters (splits op) (past (Some op) k) k
      → ((b : Bool) → (b ≡ true → 1 ≤ k.levels) → under op b ≡ true → 1 ≤ (past (Some op) k).levels) → who_in OfGroup op ≡ OfBody → Ways OfGroup op p k
  body_ways op s first waiting behind deep who = record {
    says = s;
    first = subst (λ (x : Who). Stand x (place_behind op true p) (past (Some op) k)) (sym who) first;
    second = inr waiting;
    behind = behind;
    deep = deep;
  }

  pub ways : (who : Who) (op : Operation) → may_choose who op ≡ true → MayBeIn op p → Stand who p k → Ways who op p k
  ways who (o.Branch onward) e may h = let same = stand_inner who p k h in record { says = tt; first = same; second = inl same; behind = refl; deep = λ b d f. d f }
  ways OfGroup (o.Split by) e may h = split_ways by h
  ways OfBody (o.Split by) e may h = untrue e
  ways (OfMain b) (o.Split by) e may h = untrue e
  ways who o.Begin e may h = begin_ways who may h
  ways OfGroup o.Farm e may h = body_ways o.Farm tt (as_body h) refl refl (λ b d f. d f) refl
  ways OfBody o.Farm e may h = untrue e
  ways (OfMain b) o.Farm e may h = untrue e
  ways OfGroup o.Seq e may h = body_ways o.Seq tt (as_body h) refl refl (λ b d f. d f) refl
  ways OfBody o.Seq e may h = untrue e
  ways (OfMain b) o.Seq e may h = untrue e
  ways who op e may h = untrue e
