-- Whole histories: what holds after each event, and the two laws.
use Rattle.std.proofs.Common.{◌≡◌, ℕ, zero, suc, ◌<◌, ◌≤◌, ◌^◌, List, [], ◌∷◌, Option, Some, None, refl, sym, ap, ◌∙◌, subst, arith, inl, inr}
use Rattle.std.specs.Prelude.{fold, slice_get, take}
use Rattle.std.proofs.lemmas.Bool.{cases_lt}
use Rattle.fk_tickets.specs.Lock.{Act, Draw, Look, Give, Event, IsFair, Enters, Excludes, FirstDrawnEntersFirst, after, at, event, opening}
use Rattle.fk_tickets.proofs.Counts.{Count, count_act, counted, counts, first_count, other_drawn, its_drawn, ticket_of}
use Rattle.fk_tickets.proofs.Kept.{Holds, holds_first, kept}

-- ---- one event more

pub step : {S : Type 0} (f : S → Event → S) (s : S) (es : List Event) (k : ℕ) (e : Event) → slice_get es k ≡ Some e → fold f s (take (suc k) es) ≡ f (fold f s (take k es)) e
step f s [] k e is = cc
step f s (x ∷ es) zero e is = let same : x ≡ e = cc in ap (λ y. f s y) same
step f s (x ∷ es) (suc k) e is = step f (f s x) es k e is

pub past : {S : Type 0} (f : S → Event → S) (s : S) (es : List Event) (k : ℕ) → slice_get es k ≡ None → fold f s (take (suc k) es) ≡ fold f s (take k es)
past f s [] zero is = refl
past f s [] (suc k) is = refl
past f s (x ∷ es) zero is = cc
past f s (x ∷ es) (suc k) is = past f (f s x) es k is

-- what holds before an event holds after it
holds_next : (p : ℕ) (history : List Event) → p < 2 ^ 32 → IsFair p history → (k : ℕ) → Holds p (at history k) (counts history k) → Holds p (at history (suc k)) (counts history (suc k))
holds_next p history few fair k before = by (slice_get history k) refl
  where
    by : (o : Option Event) → slice_get history k ≡ o → Holds p (at history (suc k)) (counts history (suc k))
    by None e =
        subst (λ l. Holds p l (counts history (suc k))) (sym (past after opening history k e)) (subst (λ c. Holds p (at history k) c) (sym (past counted first_count history k e)) before)
    by (Some x) e =
        let may = fair k x e in
        subst (λ l. Holds p l (counts history (suc k))) (sym (step after opening history k x e))
        (subst (λ c. Holds p (after (at history k) x) c) (sym (step counted first_count history k x e))
        (kept p x.processor (at history k) (counts history k) few may.0 before x.act may.1))

pub holds : (p : ℕ) (history : List Event) → p < 2 ^ 32 → IsFair p history → (k : ℕ) → Holds p (at history k) (counts history k)
holds p history few fair zero = holds_first p
holds p history few fair (suc k) = holds_next p history few fair k (holds p history few fair k)

pub excludes : Excludes
excludes p history few fair k g h inside also =
    let all = holds p history few fair k in
    all.apart g h (ap ticket_of inside) (ap ticket_of also) (all.first g inside ∙ sym (all.first h also))

-- ---- the order

-- the counts don't fall
draws_act : (h : ℕ) (act : Act) (c : Count) → c.draws ≤ (count_act h act c).draws
draws_act h Draw c = omega arith
draws_act h Look c = omega arith
draws_act h Give c = omega arith

gives_act : (h : ℕ) (act : Act) (c : Count) → c.gives ≤ (count_act h act c).gives
gives_act h Draw c = omega arith
gives_act h Look c = omega arith
gives_act h Give c = omega arith

draws_step : (history : List Event) (k : ℕ) → (counts history k).draws ≤ (counts history (suc k)).draws
draws_step history k = by (slice_get history k) refl
  where
    by : (o : Option Event) → slice_get history k ≡ o → (counts history k).draws ≤ (counts history (suc k)).draws
    by None e = let same = ap (λ (c : Count). c.draws) (past counted first_count history k e) in omega (arith, same)
    by (Some x) e =
        let same = ap (λ (c : Count). c.draws) (step counted first_count history k x e) in
        let more = draws_act x.processor x.act (counts history k) in
        omega (arith, same, more)

gives_step : (history : List Event) (k : ℕ) → (counts history k).gives ≤ (counts history (suc k)).gives
gives_step history k = by (slice_get history k) refl
  where
    by : (o : Option Event) → slice_get history k ≡ o → (counts history k).gives ≤ (counts history (suc k)).gives
    by None e = let same = ap (λ (c : Count). c.gives) (past counted first_count history k e) in omega (arith, same)
    by (Some x) e =
        let same = ap (λ (c : Count). c.gives) (step counted first_count history k x e) in
        let more = gives_act x.processor x.act (counts history k) in
        omega (arith, same, more)

rises : (f : ℕ → ℕ) → ((k : ℕ) → f k ≤ f (suc k)) → (i j : ℕ) → i ≤ j → f i ≤ f j
rises f up i zero le = let is : i ≡ zero = omega (arith, le) in subst (λ k. f i ≤ f k) is (omega arith)
rises f up i (suc j) le =
    elim (cases_lt i (suc j)) [
      | inl lt ↦ let a = rises f up i j (omega (arith, lt)) in let b = up j in omega (arith, a, b)
      | inr ge ↦ let is : i ≡ suc j = omega (arith, le, ge) in subst (λ k. f i ≤ f k) is (omega arith)
    ]

-- an event that isn't a draw of processor h leaves its draw as it is
kept_drawn : (h g : ℕ) (act : Act) (c : Count) → (event g act ≡ event h Draw → ⊥) → (count_act g act c).drawn h ≡ c.drawn h
kept_drawn h g Draw c not = other_drawn c.drawn g c.draws h (λ same. not (ap (λ q. event q Draw) (sym same)))
kept_drawn h g Look c not = refl
kept_drawn h g Give c not = refl

step_drawn : (history : List Event) (h k : ℕ) → (slice_get history k ≡ Some (event h Draw) → ⊥) → (counts history (suc k)).drawn h ≡ (counts history k).drawn h
step_drawn history h k not = by (slice_get history k) refl
  where
    by : (o : Option Event) → slice_get history k ≡ o → (counts history (suc k)).drawn h ≡ (counts history k).drawn h
    by None e = ap (λ (c : Count). c.drawn h) (past counted first_count history k e)
    by (Some x) e =
        ap (λ (c : Count). c.drawn h) (step counted first_count history k x e)
        ∙ kept_drawn h x.processor x.act (counts history k) (λ is. not (e ∙ ap (λ y. Some y) is))

drawn_at : (history : List Event) (h i : ℕ) → slice_get history i ≡ Some (event h Draw) → (counts history (suc i)).drawn h ≡ (counts history i).draws
drawn_at history h i draws =
    ap (λ (c : Count). c.drawn h) (step counted first_count history i (event h Draw) draws) ∙ its_drawn (counts history i).drawn h (counts history i).draws h refl

-- from its draw on, up to the next
still_drawn : (history : List Event) (h i k : ℕ) → slice_get history i ≡ Some (event h Draw) → i < k → ((j : ℕ) → i < j → j < k → slice_get history j ≡ Some (event h Draw) → ⊥)
    → (counts history k).drawn h ≡ (counts history i).draws
still_drawn history h i zero draws lt alone = absurd (omega (arith, lt))
still_drawn history h i (suc k) draws lt alone =
    elim (cases_lt i k) [
      | inl low ↦
          step_drawn history h k (alone k low (omega arith)) ∙ still_drawn history h i k draws low (λ j later early. alone j later (omega (arith, early)))
      | inr high ↦
          let is : i ≡ k = omega (arith, high, lt) in
          subst (λ q. (counts history (suc q)).drawn h ≡ (counts history i).draws) is (drawn_at history h i draws)
    ]

-- who enters drew after as many draws as there are gives
enters_at : (p : ℕ) (history : List Event) → p < 2 ^ 32 → IsFair p history → (h i k : ℕ) → Enters history h i k → (counts history i).draws ≡ (counts history (suc k)).gives
enters_at p history few fair h i k enters =
    let there = still_drawn history h i k enters.draws enters.later enters.alone in
    let look = ap (λ (c : Count). c.drawn h) (step counted first_count history k (event h Look) enters.looks) in
    let first = (holds p history few fair (suc k)).first h enters.inside in
    sym there ∙ sym look ∙ first

pub first_drawn_enters_first : FirstDrawnEntersFirst
first_drawn_enters_first p history few fair g h i j k m one other before =
    elim (cases_lt k m) [
      | inl lt ↦ lt
      | inr le ↦
          let a = enters_at p history few fair g i k one in
          let b = enters_at p history few fair h j m other in
          let gives = rises (λ q. (counts history q).gives) (gives_step history) (suc m) (suc k) (omega (arith, le)) in
          let draw = ap (λ (c : Count). c.draws) (step counted first_count history i (event g Draw) one.draws) in
          let draws = rises (λ q. (counts history q).draws) (draws_step history) (suc i) j (omega (arith, before)) in
          absurd (omega (arith, a, b, gives, draw, draws))
    ]
