-- Processors that begin a round.
use Rattle.std.proofs.Common.{◌≡◌, ℕ, zero, suc, ◌+◌, ◌<◌, ◌≤◌, Bool, true, false, ◌&&◌, List, [], ◌∷◌, length, get_or, set, drop, Some, None, ap, refl, sym, ◌∙◌, subst, arith}
use Rattle.std.specs.Prelude.{slice_index, slice_get, option_map}
use Rattle.std.proofs.lemmas.Option.{slice_get-map}
use Rattle.fk_meaning.specs.Processor.{Setting}
use Rattle.fk_meaning.specs.Round as rounds
use Rattle.fk_meaning.specs.Round.{Round, may_act, all_may_act, asking, is_local_next, are_local, after_one, after_locals}
use Rattle.fk_core.specs.declared.op.CoreOp.{CoreOp}
use Rattle.fk_core.specs.Next.{Position, next}
use Rattle.fk_replay_steps.specs.Steps.{step_at, callers_of, runner_of}
use Rattle.fk_replay_phases.specs.Safe.{IsAbout, IsSafeRunner, AreSafe}
use Rattle.fk_replay_phases.specs.Present.{present, numbers_of}
use Rattle.fk_replay_phases.specs.Actors.{CanBeAsked, acting_of, actings_of, runners_of, modes_of, asked, BeganAs, HasBegun, HaveBegun, HaveNone, HasDoneOne, HasDoneLocals}
use Rattle.fk_replay_phases.specs.declared.acting.Acting.{Acting}
use Rattle.fk_replay_phases.specs.declared.actor.Actor.{Actor}
use Rattle.fk_replay_steps.specs.declared.list.Due.{Due}
use Rattle.fk_replay_steps.specs.declared.runner.Runner.{Runner}
use Rattle.fk_replay_phases.proofs.Present.{next_acting, none_acting}
use Rattle.fk_replay_phases.proofs.Sparse.{SoFar, begun, more, at_end}

module _ (core : List CoreOp) (setting : Setting) where
  -- ---- one processor

  -- a safe processor is safe after a local operation
  pub safe_behind : (r : rounds.Runner Position) → is_local_next (next core) setting (next core r.left) ≡ true → IsSafeRunner core setting r → IsSafeRunner core setting (after_one (next core) setting r)
  safe_behind r local safe = record {
    asks = λ step about. safe.asks step (before step about);
    leaves = λ step about. safe.leaves step (before step about);
  }
    where
      before : (step : rounds.Step Position) → IsAbout core setting (after_one (next core) setting r) step → IsAbout core setting r step
      before step about = record {
        count = suc about.count;
        local = ap (λ (b : Bool). b && are_local (next core) setting about.count (after_one (next core) setting r)) local ∙ about.local;
        due = about.due;
      }

  -- so many operations are left of those that a processor does
  pub record DoesLocals (count left : ℕ) (old now : Runner) : Type 0 where
    pub whether : are_local (next core) setting count (runner_of old) ≡ are_local (next core) setting left (runner_of now)
    pub after : after_locals (next core) setting count (runner_of old) ≡ after_locals (next core) setting left (runner_of now)
    pub safe : IsSafeRunner core setting (runner_of now)

  pub does_first : (count : ℕ) (old : Runner) → IsSafeRunner core setting (runner_of old) → DoesLocals count count old old
  does_first count old safe = record { whether = refl; after = refl; safe = safe }

  pub does_one : (count left : ℕ) (old now new : Runner) → DoesLocals count (suc left) old now → HasDoneOne core setting now new true → DoesLocals count left old new
  does_one count left old now new does one =
      let local : is_local_next (next core) setting (next core (runner_of now).left) ≡ true = sym one.whether in
      let is : runner_of new ≡ after_one (next core) setting (runner_of now) = one.done refl in
      record {
        whether = does.whether ∙ ap (λ (b : Bool). b && are_local (next core) setting left (after_one (next core) setting (runner_of now))) local ∙ ap (are_local (next core) setting left) (sym is);
        after = does.after ∙ ap (after_locals (next core) setting left) (sym is);
        safe = subst (IsSafeRunner core setting) (sym is) (safe_behind (runner_of now) local does.safe);
      }

  pub does_none : (count left : ℕ) (old now new : Runner) → DoesLocals count (suc left) old now → HasDoneOne core setting now new false → are_local (next core) setting count (runner_of old) ≡ false
  does_none count left old now new does one =
      does.whether ∙ ap (λ (b : Bool). b && are_local (next core) setting left (after_one (next core) setting (runner_of now))) (sym one.whether)

  pub does_all : (count : ℕ) (old now : Runner) → DoesLocals count 0 old now → HasDoneLocals core setting count old now true
  does_all count old now does = record {
    whether = sym does.whether;
    done = λ e. sym does.after;
  }

  -- ---- all processors

  -- the processor with a number has begun
  pub record Began (round : Round) (old : List Actor) (h : ℕ) (x : Actor) : Type 0 where
    pub from : (a : Actor) → slice_get old h ≡ Some a → BeganAs core setting (slice_index round h) a x
    pub asks : CanBeAsked core x

  taken_none : (a : Actor) → a.taken ≡ None → acting_of core a ≡ asked core setting 0 (runner_of a.runner)
  taken_none a none = ap (λ o. record { due = option_map (step_at core (callers_of a.runner)) o; runner = runner_of a.runner }) none

  pub free_asks : (a : Actor) → a.taken ≡ None → CanBeAsked core a
  free_asks a none = record {
    due = record { within = λ due e. absurd (no due e); class = λ due e. absurd (no due e) };
    known = λ due e. absurd (no due e);
  }
    where
      no : (due : Due) → a.taken ≡ Some due → ⊥
      no due e = cc

  -- who isn't in the round has nothing to do
  pub absent : (round : Round) (old : List Actor) → HaveNone old → (h : ℕ) (x : Actor) → slice_get old h ≡ Some x → slice_index round h ≡ 0 → Began round old h x
  absent round old none h x is zero_count = record { from = λ a at. let same : x ≡ a = cc in subst (λ (y : Actor). BeganAs core setting (slice_index round h) y x) same (here x (none.none h x is)); asks = free_asks x (none.none h x is) }
    where
      here : (a : Actor) → a.taken ≡ None → BeganAs core setting (slice_index round h) a a
      here a free = subst (λ (c : ℕ). BeganAs core setting c a a) (sym zero_count) (record { may = refl; begun = taken_none a free; mode = refl })

  -- after some of the processors of a round
  pub record BeginsAt (round : Round) (acting : List Acting) (old : List Actor) (index : ℕ) (now : List Actor) : Type 0 where
    pub n : ℕ
    pub ahead : present n (drop n round) ≡ numbers_of (drop index acting)
    pub so : SoFar (Began round old) old n now

  pub begins_first : (round : Round) (acting : List Acting) (old : List Actor) → numbers_of acting ≡ present 0 round → BeginsAt round acting old 0 old
  begins_first round acting old numbers = record { n = 0; ahead = sym numbers; so = begun (Began round old) old }

  -- what is known of the next one
  pub record BeginsNext (round : Round) (now : List Actor) (h : ℕ) : Type 0 where
    pub within : h < length round
    pub high : h < length now
    pub some : 1 ≤ slice_index round h
    pub untaken : (a : Actor) → slice_get now h ≡ Some a → a.taken ≡ None
    pub safe : (a : Actor) → slice_get now h ≡ Some a → IsSafeRunner core setting (runner_of a.runner)

  pub begins_next : (round : Round) (acting : List Acting) (old now : List Actor) (i : ℕ) (x : Acting) → BeginsAt round acting old i now → HaveNone old → AreSafe core setting (runners_of old)
      → length round ≡ length old → i < length acting → x ≡ get_or acting i x → BeginsNext round now x.number
  begins_next round acting old now i x at none safe many lt is =
      let next = (next_acting round at.n acting i x at.ahead lt is).next.1 in
      let before : slice_get now x.number ≡ slice_get old x.number = at.so.rest x.number next.low in
      record {
        within = next.high;
        high = let high = next.high in let all = at.so.many in omega arith;
        some = next.some;
        untaken = λ a here. none.none x.number a (sym before ∙ here);
        safe = λ a here. safe.each x.number (runner_of a.runner) (slice_get-map (λ (y : Actor). runner_of y.runner) old x.number ∙ ap (option_map (λ (y : Actor). runner_of y.runner)) (sym before ∙ here));
      }

  pub begins_more : (round : Round) (acting : List Acting) (old now : List Actor) (i : ℕ) (x : Acting) (a new : Actor) (can : Bool) → BeginsAt round acting old i now → HaveNone old → length round ≡ length old
      → i < length acting → x ≡ get_or acting i x → slice_get now x.number ≡ Some a → HasBegun core setting (slice_index round x.number) a new can → can ≡ true
      → BeginsAt round acting old (i + 1) (set now x.number new)
  begins_more round acting old now i x a new can at none many lt is here tells holds =
      let has : HasBegun core setting (slice_index round x.number) a new true = subst (HasBegun core setting (slice_index round x.number) a new) holds tells in
      let ahead = next_acting round at.n acting i x at.ahead lt is in
      record {
        n = suc x.number;
        ahead = ahead.rest;
        so = more (Began round old) old round (absent round old none) at.n x.number new ahead.next.0 now ahead.next.1 at.so
            (let high = ahead.next.1.high in let all = at.so.many in omega arith)
            (record {
              from = λ b there.
                  let same : Some b ≡ Some a = sym there ∙ sym (at.so.rest x.number ahead.next.1.low) ∙ here in
                  let b_is : b ≡ a = cc in
                  subst (λ (y : Actor). BeganAs core setting (slice_index round x.number) y new) (sym b_is)
                  (record { may = sym has.whether; begun = has.begun refl; mode = has.mode refl });
              asks = has.asks refl;
            });
      }

  all_may : (round : Round) (old now : List Actor) → length round ≡ length old → length now ≡ length old → ((h : ℕ) (x : Actor) → slice_get now h ≡ Some x → Began round old h x)
      → all_may_act (next core) setting round (runners_of old) ≡ true
  all_may [] [] now many all began = refl
  all_may [] (a ∷ old) now many all began = absurd (let z : ⊥ = omega arith in z)
  all_may (c ∷ round) [] now many all began = absurd (let z : ⊥ = omega arith in z)
  all_may (c ∷ round) (a ∷ old) [] many all began = absurd (let z : ⊥ = omega arith in z)
  all_may (c ∷ round) (a ∷ old) (x ∷ now) many all began =
      let first : may_act (next core) setting c (runner_of a.runner) ≡ true = ((began 0 x refl).from a refl).may in
      ap (λ (b : Bool). b && all_may_act (next core) setting round (runners_of old)) first
      ∙ all_may round old now (omega arith) (omega arith) (λ h y is. record { from = λ b there. (began (suc h) y is).from b there; asks = (began (suc h) y is).asks })

  all_asked : (round : Round) (old now : List Actor) → length round ≡ length old → length now ≡ length old → ((h : ℕ) (x : Actor) → slice_get now h ≡ Some x → Began round old h x)
      → actings_of core now ≡ asking (next core) setting round (runners_of old)
  all_asked [] [] [] many all began = refl
  all_asked [] [] (x ∷ now) many all began = absurd (let z : ⊥ = omega arith in z)
  all_asked [] (a ∷ old) now many all began = absurd (let z : ⊥ = omega arith in z)
  all_asked (c ∷ round) [] now many all began = absurd (let z : ⊥ = omega arith in z)
  all_asked (c ∷ round) (a ∷ old) [] many all began = absurd (let z : ⊥ = omega arith in z)
  all_asked (c ∷ round) (a ∷ old) (x ∷ now) many all began =
      let first : acting_of core x ≡ asked core setting c (runner_of a.runner) = ((began 0 x refl).from a refl).begun in
      let others = all_asked round old now (omega arith) (omega arith) (λ h y is. record { from = λ b there. (began (suc h) y is).from b there; asks = (began (suc h) y is).asks }) in
      ap (λ y. y ∷ actings_of core now) first ∙ ap (λ ys. asked core setting c (runner_of a.runner) ∷ ys) others

  all_modes : (round : Round) (old now : List Actor) → length now ≡ length old → ((h : ℕ) (x : Actor) → slice_get now h ≡ Some x → Began round old h x)
      → modes_of now ≡ modes_of old
  all_modes round [] [] all began = refl
  all_modes round [] (x ∷ now) all began = absurd (let z : ⊥ = omega arith in z)
  all_modes round (a ∷ old) [] all began = absurd (let z : ⊥ = omega arith in z)
  all_modes [] (a ∷ old) (x ∷ now) all began =
      let first : x.mode ≡ a.mode = ((began 0 x refl).from a refl).mode in
      ap (λ y. y ∷ modes_of now) first ∙ ap (λ ys. a.mode ∷ ys) (all_modes [] old now (omega arith) (λ h y is. record { from = λ b there. (began (suc h) y is).from b there; asks = (began (suc h) y is).asks }))
  all_modes (c ∷ round) (a ∷ old) (x ∷ now) all began =
      let first : x.mode ≡ a.mode = ((began 0 x refl).from a refl).mode in
      ap (λ y. y ∷ modes_of now) first ∙ ap (λ ys. a.mode ∷ ys) (all_modes round old now (omega arith) (λ h y is. record { from = λ b there. (began (suc h) y is).from b there; asks = (began (suc h) y is).asks }))

  pub begins_end : (round : Round) (acting : List Acting) (old now : List Actor) (i : ℕ) → BeginsAt round acting old i now → HaveNone old → length round ≡ length old → length acting ≤ i
      → HaveBegun core setting round old now true
  begins_end round acting old now i at none many le =
      let began = at_end (Began round old) old round (absent round old none) at.n now at.so (λ h low. none_acting round at.n h acting i at.ahead le low) in
      record {
        whether = sym (all_may round old now many at.so.many began);
        begun = λ e. all_asked round old now many at.so.many began;
        modes = λ e. all_modes round old now at.so.many began;
        asks = λ e. record { each = λ h x is. (began h x is).asks };
      }

  -- one that can't begin
  one_not : (round : Round) (old : List Actor) (h : ℕ) (a : Actor) → slice_get old h ≡ Some a → h < length round → may_act (next core) setting (slice_index round h) (runner_of a.runner) ≡ false
      → all_may_act (next core) setting round (runners_of old) ≡ false
  one_not [] old h a is lt not_it = absurd (let z : ⊥ = omega arith in z)
  one_not (c ∷ round) [] h a is lt not_it = absurd (let bad : None ≡ Some a = is in cc)
  one_not (c ∷ round) (b ∷ old) zero a is lt not_it =
      let same : b ≡ a = cc in
      ap (λ (t : Bool). t && all_may_act (next core) setting round (runners_of old)) (ap (λ (y : Actor). may_act (next core) setting c (runner_of y.runner)) same ∙ not_it)
  one_not (c ∷ round) (b ∷ old) (suc h) a is lt not_it =
      ap (λ (t : Bool). may_act (next core) setting c (runner_of b.runner) && t) (one_not round old h a is (omega arith) not_it)
      ∙ and_false (may_act (next core) setting c (runner_of b.runner))
    where
      and_false : (t : Bool) → t && false ≡ false
      and_false true = refl
      and_false false = refl

  pub begins_not : (round : Round) (acting : List Acting) (old now new : List Actor) (i : ℕ) (x : Acting) (a b : Actor) (can : Bool) → BeginsAt round acting old i now
      → i < length acting → x ≡ get_or acting i x → slice_get now x.number ≡ Some a → HasBegun core setting (slice_index round x.number) a b can → can ≡ false
      → HaveBegun core setting round old new false
  begins_not round acting old now new i x a b can at lt is here has not =
      let ahead = next_acting round at.n acting i x at.ahead lt is in
      let there : slice_get old x.number ≡ Some a = sym (at.so.rest x.number ahead.next.1.low) ∙ here in
      record {
        whether = sym (one_not round old x.number a there ahead.next.1.high (sym has.whether ∙ not));
        begun = λ e. absurd (let bad : false ≡ true = e in cc);
        modes = λ e. absurd (let bad : false ≡ true = e in cc);
        asks = λ e. absurd (let bad : false ≡ true = e in cc);
      }
