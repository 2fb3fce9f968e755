-- The events of a round, at most one for each processor.
use Rattle.std.proofs.Common.{◌≡◌, ◌+◌, ◌<◌, ℕ, zero, suc, List, [], ◌∷◌, ◌++◌, Option, Some, None, arith, ap, ◌∙◌, refl, sym, subst}
use Rattle.std.specs.Prelude.{fold, slice_get, take}
use Rattle.fk_meaning.specs.Round.{Acting}
use Rattle.fk_meaning.specs.Touch.{touch}
use Rattle.fk_tickets.specs.Lock.{Act, Draw, Look, Give, Event, Lock, MayDo, IsFair, after, at, event, opening, Waiting, Outside, looked}
use Rattle.fk_tickets.proofs.Counts.{other_stage}
use Rattle.fk_locks_runs.specs.Locks.{AreOfLock, IsOfNext, IsOfNow, act_by, events, told_by}

-- ---- fair histories, from any lock on

abbrev pub FairFrom : (processors : ℕ) → Lock → List Event → Type 0
FairFrom p l [] = Unit {0}
FairFrom p l (e ∷ es) = (e.processor < p) × MayDo e.act (l.stage e.processor) × FairFrom p (after l e) es

pub fair_append : (p : ℕ) (l : Lock) (es fs : List Event) → FairFrom p l es → FairFrom p (fold after l es) fs → FairFrom p l (es ++ fs)
fair_append p l [] fs h g = g
fair_append p l (e ∷ es) fs h g = (h.0, h.1, fair_append p (after l e) es fs h.2 g)

fair_at : (p : ℕ) (l : Lock) (es : List Event) → FairFrom p l es → (k : ℕ) (e : Event) → slice_get es k ≡ Some e
    → (e.processor < p) × MayDo e.act ((fold after l (take k es)).stage e.processor)
fair_at p l [] h k e is = absurd (cc)
fair_at p l (f ∷ es) h zero e is =
    let same : f ≡ e = cc in subst (λ (g : Event). (g.processor < p) × MayDo g.act (l.stage g.processor)) same (h.0, h.1)
fair_at p l (f ∷ es) h (suc k) e is = fair_at p (after l f) es h.2 k e is

pub is_fair : (p : ℕ) (history : List Event) → FairFrom p opening history → IsFair p history
is_fair p history h k e is = fair_at p opening history h k e is

-- ---- the events of one processor change no other one's stage

pub other_act : (l : Lock) (h : ℕ) (act : Act) (g : ℕ) → (g ≡ h → ⊥) → (after l (event h act)).stage g ≡ l.stage g
other_act l h Draw g not = other_stage l.stage h (Waiting l.next) g not
other_act l h Look g not = other_stage l.stage h (looked l.now (l.stage h)) g not
other_act l h Give g not = other_stage l.stage h Outside g not

other_told : (l : Lock) (h : ℕ) (o : Option Act) (g : ℕ) → (g ≡ h → ⊥) → (fold after l (told_by o h [])).stage g ≡ l.stage g
other_told l h None g not = refl
other_told l h (Some act) g not = other_act l h act g not

told_fold : (l : Lock) (h : ℕ) (o : Option Act) (es : List Event) → fold after l (told_by o h es) ≡ fold after (fold after l (told_by o h [])) es
told_fold l h None es = refl
told_fold l h (Some act) es = refl

told_fair : (p : ℕ) (l : Lock) (h : ℕ) (o : Option Act) (es : List Event) → h < p → ((act : Act) → o ≡ Some act → MayDo act (l.stage h)) → FairFrom p (fold after l (told_by o h [])) es
    → FairFrom p l (told_by o h es)
told_fair p l h None es low may rest = rest
told_fair p l h (Some act) es low may rest = (low, may act refl, rest)

module _ {W : Type 0} (x : ℕ) where
  abbrev pub act_of : Acting W → Option Act
  act_of a = act_by (touch x a) (touch (suc x) a)

  -- the acting processors have their numbers, from n on
  abbrev pub Numbered : ℕ → List (Acting W) → Type 0
  Numbered n [] = Unit {0}
  Numbered n (a ∷ actings) = (a.runner.has.number ≡ n) × Numbered (suc n) actings

  pub numbered : (n : ℕ) (actings : List (Acting W)) → ((i : ℕ) (a : Acting W) → slice_get actings i ≡ Some a → a.runner.has.number ≡ n + i) → Numbered n actings
  numbered n [] all = tt
  numbered n (a ∷ actings) all = (
    (let e = all 0 a refl in omega (arith, e)),
    numbered (suc n) actings (λ i b at. let e = all (suc i) b at in omega (arith, e)),
  )

  abbrev own : Lock → Acting W → Lock
  own l a = fold after l (told_by (act_of a) a.runner.has.number [])

  -- a processor with a lower number keeps its stage
  lower_kept : (n : ℕ) (actings : List (Acting W)) (l : Lock) (g : ℕ) → Numbered n actings → g < n → (fold after l (events x actings)).stage g ≡ l.stage g
  lower_kept n [] l g has lt = refl
  lower_kept n (a ∷ actings) l g has lt =
      let number = has.0 in
      ap (λ (k : Lock). k.stage g) (told_fold l a.runner.has.number (act_of a) (events x actings))
      ∙ lower_kept (suc n) actings (own l a) g has.1 (omega (arith, lt))
      ∙ other_told l a.runner.has.number (act_of a) g (λ is. omega (arith, is, number, lt))

  -- the stage of a processor after the round, by its own act after the acts of the lower ones
  pub stage_after : (n : ℕ) (actings : List (Acting W)) (l : Lock) (i : ℕ) (a : Acting W) → Numbered n actings → slice_get actings i ≡ Some a
      → (fold after l (events x actings)).stage (n + i) ≡ (fold after (fold after l (events x (take i actings))) (told_by (act_of a) (n + i) [])).stage (n + i)
  stage_after n [] l i a has at = absurd (cc)
  stage_after n (b ∷ actings) l zero a has at =
      let same : b ≡ a = cc in
      let number = has.0 in
      let here : n + 0 ≡ n = omega arith in
      let low : n + 0 < suc n = omega arith in
      ap (λ (k : Lock). k.stage (n + 0)) (told_fold l b.runner.has.number (act_of b) (events x actings))
      ∙ lower_kept (suc n) actings (own l b) (n + 0) has.1 low
      ∙ ap (λ m. (fold after l (told_by (act_of b) m [])).stage (n + 0)) (number ∙ sym here)
      ∙ ap (λ (c : Acting W). (fold after l (told_by (act_of c) (n + 0) [])).stage (n + 0)) same
  stage_after n (b ∷ actings) l (suc i) a has at =
      let m : suc n + i ≡ n + suc i = omega arith in
      let rest = stage_after (suc n) actings (own l b) i a has.1 at in
      ap (λ (k : Lock). k.stage (n + suc i)) (told_fold l b.runner.has.number (act_of b) (events x actings))
      ∙ subst (λ k. (fold after (own l b) (events x actings)).stage k ≡ (fold after (fold after (own l b) (events x (take i actings))) (told_by (act_of a) k [])).stage k) m rest
      ∙ ap (λ (k : Lock). (fold after k (told_by (act_of a) (n + suc i) [])).stage (n + suc i)) (sym (told_fold l b.runner.has.number (act_of b) (events x (take i actings))))

  -- the acts of the lower ones leave it
  pub stage_before : (n : ℕ) (actings : List (Acting W)) (l : Lock) (i : ℕ) → Numbered n actings → (fold after l (events x (take i actings))).stage (n + i) ≡ l.stage (n + i)
  stage_before n [] l zero has = refl
  stage_before n [] l (suc i) has = refl
  stage_before n (b ∷ actings) l zero has = refl
  stage_before n (b ∷ actings) l (suc i) has =
      let m : suc n + i ≡ n + suc i = omega arith in
      let number = has.0 in
      ap (λ (k : Lock). k.stage (n + suc i)) (told_fold l b.runner.has.number (act_of b) (events x (take i actings)))
      ∙ subst (λ k. (fold after (own l b) (events x (take i actings))).stage k ≡ (own l b).stage k) m (stage_before (suc n) actings (own l b) i has.1)
      ∙ other_told l b.runner.has.number (act_of b) (n + suc i) (λ is. omega (arith, is, number))

  -- ---- the round is fair if each of its acts may be done in the stage that its processor has before

  pub round_fair : (p n : ℕ) (actings : List (Acting W)) (l : Lock) → Numbered n actings
      → ((i : ℕ) (a : Acting W) → slice_get actings i ≡ Some a → (n + i < p) × ((act : Act) → act_of a ≡ Some act → MayDo act (l.stage (n + i))))
      → FairFrom p l (events x actings)
  round_fair p n [] l has may = tt
  round_fair p n (a ∷ actings) l has may =
      let number = has.0 in
      let here : n + 0 ≡ a.runner.has.number = omega (arith, number) in
      let own_may = may 0 a refl in
      let low = own_may.0 in
      told_fair p l a.runner.has.number (act_of a) (events x actings) (omega (arith, low, number))
      (λ act is. subst (λ k. MayDo act (l.stage k)) here (own_may.1 act is))
      (round_fair p (suc n) actings (own l a) has.1
      (λ i b at.
      let m : n + suc i ≡ suc n + i = omega arith in
      let next_may = may (suc i) b at in
      let next_low = next_may.0 in (
        omega (arith, next_low),
        λ act is.
            subst (λ s. MayDo act s) (sym (other_told l a.runner.has.number (act_of a) (suc n + i) (λ same. omega (arith, same, number))))
            (subst (λ k. MayDo act (l.stage k)) m (next_may.1 act is)),
      )))

  -- ---- all requests are those of a lock if each one's are

  pub are_of_lock : (actings : List (Acting W)) → ((i : ℕ) (a : Acting W) → slice_get actings i ≡ Some a → IsOfNext (touch x a) × IsOfNow (touch (suc x) a)) → AreOfLock x actings
  are_of_lock [] all = tt
  are_of_lock (a ∷ actings) all = let own = all 0 a refl in (own.0, own.1, are_of_lock actings (λ i b at. all (suc i) b at))
