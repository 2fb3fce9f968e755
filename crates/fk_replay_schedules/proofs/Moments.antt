-- The moments of a trace, and its rounds.
use Rattle.std.proofs.Common.{◌≡◌, ℕ, zero, suc, ◌+◌, ◌<◌, ◌≤◌, Bool, true, false, List, [], ◌∷◌, length, Some, refl, ap, ◌∙◌, subst, arith, eq-eqb, ne_eqb}
use Rattle.std.specs.Prelude.{◌==◌, if◌then◌else◌, slice_get, slice_index}
use Rattle.fk_trace.specs.Text.{Range}
use Rattle.fk_trace.specs.declared.column.Column.{Column}
use Rattle.fk_trace.specs.declared.column.Column.TheVariants.{Counts, Of}
use Rattle.fk_replay_text.specs.Trace.{Told, AreRanges, Follows, AreInOrder, rank, with_moment, moments_of}
use Rattle.fk_replay_text.specs.Rounds.{counts_from, round_of, ranges_at, rounds_from, schedule_of}
use Rattle.fk_replay_schedules.specs.Moments.{Moments, AreMoments, AreToCome, TracesHaveMoments}

-- ---- lines

ordered : (harts last cycle before : ℕ) (lines : List Told) → AreInOrder harts last cycle before lines → AreMoments harts last cycle (moments_of lines)
ordered harts last cycle before [] x = x
ordered harts last cycle before (told ∷ lines) x =
    by told.column told.cycle told.ranges (moments_of lines) x.0.ranges x.1 (ordered harts last told.cycle (rank told.column) lines x.2)
  where
    by : (column : Column) (now : ℕ) (ranges : List Range) (moments : Moments) → AreRanges column harts ranges → Follows cycle before column now → AreMoments harts last now moments
        → AreMoments harts last cycle (with_moment column now ranges moments)
    by Counts now ranges moments are follows rest = (follows, are, rest)
    by (Of event) now ranges moments are follows rest = subst (λ (c : ℕ). AreMoments harts last c moments) follows.0 rest

pub traces_have_moments : TracesHaveMoments
traces_have_moments harts last lines text is = ordered harts last 0 0 lines is.body.order

-- ---- moments

within_last : (harts last behind : ℕ) (moments : Moments) → AreMoments harts last behind moments → behind ≤ last
within_last harts last behind [] x = x
within_last harts last behind ((cycle, ranges) ∷ moments) x =
    let low = within_last harts last cycle moments x.2 in let less = x.0 in omega arith

-- a cycle before the moments has none
none_before : (harts last behind : ℕ) (moments : Moments) → AreMoments harts last behind moments → (cycle : ℕ) → cycle ≤ behind → ranges_at moments cycle ≡ []
none_before harts last behind [] x cycle low = refl
none_before harts last behind ((at, ranges) ∷ moments) x cycle low =
    let less = x.0 in
    by (at == cycle) (ne_eqb at cycle (λ e. omega (arith, e, less, low))) (none_before harts last at moments x.2 cycle (omega arith))
  where
    by : (b : Bool) → b ≡ false → ranges_at moments cycle ≡ [] → (if b then ranges else ranges_at moments cycle) ≡ []
    by true e rest = absurd (cc)
    by false e rest = rest

pub to_come_first : (harts last : ℕ) (moments : Moments) → AreMoments harts last 0 moments → AreToCome harts last moments 0 moments
to_come_first harts last moments x = record { ordered = x; same = λ cycle low. refl }

-- the next moment
module _ (harts last : ℕ) (moments : Moments) (behind at : ℕ) (ranges : List Range) (rest : Moments) (x : AreToCome harts last moments behind ((at, ranges) ∷ rest)) where
  pub later : behind < at
  later = x.ordered.0

  pub at_most_last : at ≤ last
  at_most_last = within_last harts last at rest x.ordered.2

  pub ranges_are : AreRanges Counts harts ranges
  ranges_are = x.ordered.1

  is_at : (b : Bool) → b ≡ true → (if b then ranges else ranges_at rest at) ≡ ranges
  is_at true e = refl
  is_at false e = absurd (cc)

  pub ranges_there : ranges_at moments at ≡ ranges
  ranges_there = x.same at later ∙ is_at (at == at) (eq-eqb at at refl)

  not_at : (cycle : ℕ) (b : Bool) → b ≡ false → (if b then ranges else ranges_at rest cycle) ≡ ranges_at rest cycle
  not_at cycle true e = absurd (cc)
  not_at cycle false e = refl

  pub empty_before : (cycle : ℕ) → behind < cycle → cycle < at → ranges_at moments cycle ≡ []
  empty_before cycle low high =
      x.same cycle low ∙ not_at cycle (at == cycle) (ne_eqb at cycle (λ e. omega (arith, e, high)))
      ∙ none_before harts last at rest x.ordered.2 cycle (omega arith)

  pub to_come_next : AreToCome harts last moments at rest
  to_come_next = record {
    ordered = x.ordered.2;
    same = λ cycle low. let less = later in
        x.same cycle (omega arith) ∙ not_at cycle (at == cycle) (ne_eqb at cycle (λ e. omega (arith, e, low)));
  }

pub empty_behind : (harts last : ℕ) (moments : Moments) (behind : ℕ) → AreToCome harts last moments behind [] → (cycle : ℕ) → behind < cycle → ranges_at moments cycle ≡ []
empty_behind harts last moments behind x cycle low = x.same cycle low

-- ---- rounds

rounds_length : (harts : ℕ) (moments : Moments) (first number : ℕ) → length (rounds_from harts moments first number) ≡ number
rounds_length harts moments first zero = refl
rounds_length harts moments first (suc n) = ap suc (rounds_length harts moments (suc first) n)

round_there : (harts : ℕ) (moments : Moments) (first number k : ℕ) → k < number
    → slice_get (rounds_from harts moments first number) k ≡ Some (round_of harts (ranges_at moments (first + k)))
round_there harts moments first zero k low = absurd (omega arith)
round_there harts moments first (suc n) zero low = ap (λ (c : ℕ). Some (round_of harts (ranges_at moments c))) (omega arith)
round_there harts moments first (suc n) (suc k) low =
    round_there harts moments (suc first) n k (omega arith) ∙ ap (λ (c : ℕ). Some (round_of harts (ranges_at moments c))) (omega arith)

pub schedule_length : (harts : ℕ) (moments : Moments) (cycles : ℕ) → length (schedule_of harts moments cycles) ≡ cycles
schedule_length harts moments cycles = rounds_length harts moments 1 cycles

pub round_at : (harts : ℕ) (moments : Moments) (cycles k : ℕ) → k < cycles
    → slice_get (schedule_of harts moments cycles) k ≡ Some (round_of harts (ranges_at moments (suc k)))
round_at harts moments cycles k low = round_there harts moments 1 cycles k low ∙ ap (λ (c : ℕ). Some (round_of harts (ranges_at moments c))) (omega arith)

pub counts_length : (ranges : List Range) (first number : ℕ) → length (counts_from ranges first number) ≡ number
counts_length ranges first zero = refl
counts_length ranges first (suc n) = ap suc (counts_length ranges (suc first) n)

no_counts : (first number h : ℕ) → slice_index (counts_from [] first number) h ≡ 0
no_counts first zero h = refl
no_counts first (suc n) zero = refl
no_counts first (suc n) (suc h) = no_counts (suc first) n h

-- a round without ranges
pub empty_length : (harts : ℕ) → length (round_of harts []) ≡ harts
empty_length harts = counts_length [] 0 harts

pub nobody_acts : (harts h : ℕ) → slice_index (round_of harts []) h ≡ 0
nobody_acts harts h = no_counts 0 harts h
