-- What holds of the words, the stages and the counts after each event.
use Rattle.std.proofs.Common.{◌≡◌, ℕ, zero, suc, ◌+◌, ◌<◌, ◌≤◌, ◌^◌, ◌%◌, ◌==◌, Bool, true, false, refl, sym, ap, ◌∙◌, subst, arith, inl, inr}
use Rattle.std.specs.Prelude.{if◌then◌else◌}
use Rattle.std.proofs.lemmas.Bool.{cases_eq, cases_lt, eqb-true}
use Rattle.fk_tickets.specs.Lock.{Act, Draw, Look, Give, Stage, Outside, Waiting, Inside, Lock, MayDo, after_act, looked, one_more, opening, with_stage}
use Rattle.fk_tickets.proofs.Counts.{Count, change_out, count_act, first_count, its_drawn, its_stage, other_drawn, other_stage, out, out_few, ticket_of, with_drawn}

-- The words are the counts, which wrap. As many tickets are out as were drawn and not given back. The processors that have one drew it after the last give, each at another draw, and who is inside has the first of them.
pub record Holds (p : ℕ) (l : Lock) (c : Count) : Type 0 where
  pub next : l.next ≡ c.draws % 2 ^ 32
  pub now : l.now ≡ c.gives % 2 ^ 32
  pub all_out : c.draws ≡ c.gives + out p l.stage
  pub within : (h : ℕ) → ticket_of (l.stage h) ≡ 1 → (c.gives ≤ c.drawn h) × (c.drawn h < c.draws)
  pub ticket : (h t : ℕ) → l.stage h ≡ Waiting t → t ≡ c.drawn h % 2 ^ 32
  pub first : (h : ℕ) → l.stage h ≡ Inside → c.drawn h ≡ c.gives
  pub apart : (g h : ℕ) → ticket_of (l.stage g) ≡ 1 → ticket_of (l.stage h) ≡ 1 → c.drawn g ≡ c.drawn h → g ≡ h

none_out : (p : ℕ) → out p opening.stage ≡ 0
none_out zero = refl
none_out (suc p) = let rest = none_out p in omega (arith, rest)

pub holds_first : (p : ℕ) → Holds p opening first_count
holds_first p = record {
  next = refl;
  now = refl;
  all_out = let none = none_out p in omega (arith, none);
  within = λ h has. let bad : 0 ≡ 1 = has in absurd (omega (arith, bad));
  ticket = λ h t is. let bad : Outside ≡ Waiting t = is in absurd (cc);
  first = λ h is. let bad : Outside ≡ Inside = is in absurd (cc);
  apart = λ g h has. let bad : 0 ≡ 1 = has in absurd (omega (arith, bad));
}

-- the stages in which something may be done
outside_of : (s : Stage) → MayDo Draw s → s ≡ Outside
outside_of Outside may = refl
outside_of (Waiting t) may = absurd may
outside_of Inside may = absurd may

waiting_of : (s : Stage) → MayDo Look s → (t : ℕ) × (s ≡ Waiting t)
waiting_of Outside may = absurd may
waiting_of (Waiting t) may = (t, refl)
waiting_of Inside may = absurd may

inside_of : (s : Stage) → MayDo Give s → s ≡ Inside
inside_of Outside may = absurd may
inside_of (Waiting t) may = absurd may
inside_of Inside may = refl

module _ (p h : ℕ) (l : Lock) (c : Count) (few : p < 2 ^ 32) (low : h < p) (holds : Holds p l c) where
  -- ---- a draw

  module _ (none : l.stage h ≡ Outside) where
    drawn_out : suc c.draws ≡ c.gives + out p (with_stage l.stage h (Waiting l.next))
    drawn_out =
        let change = change_out p h l.stage (with_stage l.stage h (Waiting l.next)) low (λ g not. ap ticket_of (sym (other_stage l.stage h (Waiting l.next) g not))) in
        let new : ticket_of (with_stage l.stage h (Waiting l.next) h) ≡ 1 = ap ticket_of (its_stage l.stage h (Waiting l.next) h refl) in
        let old : ticket_of (l.stage h) ≡ 0 = ap ticket_of none in
        let all = holds.all_out in
        omega (arith, change, new, old, all)

    draw_next : one_more l.next ≡ suc c.draws % 2 ^ 32
    draw_next = let next = holds.next in omega (arith, next)

    drawn_within : (g : ℕ) → ticket_of (with_stage l.stage h (Waiting l.next) g) ≡ 1
        → (c.gives ≤ with_drawn c.drawn h c.draws g) × (with_drawn c.drawn h c.draws g < suc c.draws)
    drawn_within g has =
        elim (cases_eq g h) [
          | inl is ↦
              let d = its_drawn c.drawn h c.draws g is in
              let all = holds.all_out in
              (omega (arith, d, all), omega (arith, d))
          | inr not ↦
              let d = other_drawn c.drawn h c.draws g not in
              let before = holds.within g (sym (ap ticket_of (other_stage l.stage h (Waiting l.next) g not)) ∙ has) in
              let a = before.0 in
              let b = before.1 in
              (omega (arith, d, a), omega (arith, d, b))
        ]

    drawn_ticket : (g t : ℕ) → with_stage l.stage h (Waiting l.next) g ≡ Waiting t → t ≡ with_drawn c.drawn h c.draws g % 2 ^ 32
    drawn_ticket g t is =
        elim (cases_eq g h) [
          | inl same ↦
              let waits : Waiting l.next ≡ Waiting t = sym (its_stage l.stage h (Waiting l.next) g same) ∙ is in
              let word : l.next ≡ t = cc in
              sym word ∙ holds.next ∙ sym (ap (λ n. n % 2 ^ 32) (its_drawn c.drawn h c.draws g same))
          | inr not ↦
              holds.ticket g t (sym (other_stage l.stage h (Waiting l.next) g not) ∙ is) ∙ sym (ap (λ n. n % 2 ^ 32) (other_drawn c.drawn h c.draws g not))
        ]

    drawn_first : (g : ℕ) → with_stage l.stage h (Waiting l.next) g ≡ Inside → with_drawn c.drawn h c.draws g ≡ c.gives
    drawn_first g is =
        elim (cases_eq g h) [
          | inl same ↦
              let bad : Waiting l.next ≡ Inside = sym (its_stage l.stage h (Waiting l.next) g same) ∙ is in
              absurd (cc)
          | inr not ↦ other_drawn c.drawn h c.draws g not ∙ holds.first g (sym (other_stage l.stage h (Waiting l.next) g not) ∙ is)
        ]

    -- one that had a ticket before drew it before
    old_drawn : (g : ℕ) → (g ≡ h → ⊥) → ticket_of (with_stage l.stage h (Waiting l.next) g) ≡ 1 → with_drawn c.drawn h c.draws g ≡ c.draws → ⊥
    old_drawn g not has is =
        let before = (holds.within g (sym (ap ticket_of (other_stage l.stage h (Waiting l.next) g not)) ∙ has)).1 in
        let d = other_drawn c.drawn h c.draws g not in
        omega (arith, before, d, is)

    drawn_apart : (f g : ℕ) → ticket_of (with_stage l.stage h (Waiting l.next) f) ≡ 1 → ticket_of (with_stage l.stage h (Waiting l.next) g) ≡ 1
        → with_drawn c.drawn h c.draws f ≡ with_drawn c.drawn h c.draws g → f ≡ g
    drawn_apart f g has also same =
        elim (cases_eq f h) [
          | inl fh ↦
              elim (cases_eq g h) [
                | inl gh ↦ fh ∙ sym gh
                | inr not ↦ absurd (old_drawn g not also (sym same ∙ its_drawn c.drawn h c.draws f fh))
              ]
          | inr other ↦
              elim (cases_eq g h) [
                | inl gh ↦ absurd (old_drawn f other has (same ∙ its_drawn c.drawn h c.draws g gh))
                | inr not ↦
                    holds.apart f g (sym (ap ticket_of (other_stage l.stage h (Waiting l.next) f other)) ∙ has) (sym (ap ticket_of (other_stage l.stage h (Waiting l.next) g not)) ∙ also)
                    (sym (other_drawn c.drawn h c.draws f other) ∙ same ∙ other_drawn c.drawn h c.draws g not)
              ]
        ]

    kept_draw : Holds p (after_act h Draw l) (count_act h Draw c)
    kept_draw = record {
      next = draw_next;
      now = holds.now;
      all_out = drawn_out;
      within = drawn_within;
      ticket = drawn_ticket;
      first = drawn_first;
      apart = drawn_apart;
    }

  -- ---- a look

  -- the ticket that is read is the first that is out
  first_is : (t : ℕ) → l.stage h ≡ Waiting t → l.now ≡ t → c.drawn h ≡ c.gives
  first_is t waits read =
      let in_range = holds.within h (ap ticket_of waits) in
      let a = in_range.0 in
      let b = in_range.1 in
      let mine = holds.ticket h t waits in
      let now = holds.now in
      let all = holds.all_out in
      let most = out_few p l.stage in
      omega (arith, a, b, mine, now, all, most, few, read)

  module _ (x : Stage) (as_before : ticket_of (l.stage h) ≡ ticket_of x) (waits : (t : ℕ) → x ≡ Waiting t → l.stage h ≡ Waiting t) (enters : x ≡ Inside → c.drawn h ≡ c.gives) where
    same_tickets : (g : ℕ) → ticket_of (with_stage l.stage h x g) ≡ ticket_of (l.stage g)
    same_tickets g =
        elim (cases_eq g h) [
          | inl is ↦ ap ticket_of (its_stage l.stage h x g is) ∙ sym as_before ∙ ap (λ q. ticket_of (l.stage q)) (sym is)
          | inr not ↦ ap ticket_of (other_stage l.stage h x g not)
        ]

    looked_out : c.draws ≡ c.gives + out p (with_stage l.stage h x)
    looked_out =
        let change = change_out p h l.stage (with_stage l.stage h x) low (λ g not. sym (same_tickets g)) in
        let here = same_tickets h in
        let all = holds.all_out in
        omega (arith, change, here, all)

    looked_ticket : (g t : ℕ) → with_stage l.stage h x g ≡ Waiting t → t ≡ c.drawn g % 2 ^ 32
    looked_ticket g t is =
        elim (cases_eq g h) [
          | inl same ↦ holds.ticket g t (ap l.stage same ∙ waits t (sym (its_stage l.stage h x g same) ∙ is))
          | inr not ↦ holds.ticket g t (sym (other_stage l.stage h x g not) ∙ is)
        ]

    looked_first : (g : ℕ) → with_stage l.stage h x g ≡ Inside → c.drawn g ≡ c.gives
    looked_first g is =
        elim (cases_eq g h) [
          | inl same ↦ ap c.drawn same ∙ enters (sym (its_stage l.stage h x g same) ∙ is)
          | inr not ↦ holds.first g (sym (other_stage l.stage h x g not) ∙ is)
        ]

    kept_stage : Holds p (record l { stage = with_stage l.stage h x }) c
    kept_stage = record {
      next = holds.next;
      now = holds.now;
      all_out = looked_out;
      within = λ g has. holds.within g (sym (same_tickets g) ∙ has);
      ticket = looked_ticket;
      first = looked_first;
      apart = λ f g has also same. holds.apart f g (sym (same_tickets f) ∙ has) (sym (same_tickets g) ∙ also) same;
    }

  looked_as : (t : ℕ) → l.stage h ≡ Waiting t → (b : Bool) → (l.now == t) ≡ b → Holds p (record l { stage = with_stage l.stage h (if b then Inside else Waiting t) }) c
  looked_as t waits true e =
      kept_stage Inside (ap ticket_of waits) (λ u is. absurd (let bad : Inside ≡ Waiting u = is in cc)) (λ _. first_is t waits (eqb-true l.now t e))
  looked_as t waits false e =
      kept_stage (Waiting t) (ap ticket_of waits) (λ u is. waits ∙ is) (λ is. absurd (let bad : Waiting t ≡ Inside = is in cc))

  kept_look : (t : ℕ) → l.stage h ≡ Waiting t → Holds p (after_act h Look l) c
  kept_look t waits =
      let is : looked l.now (l.stage h) ≡ (if l.now == t then Inside else Waiting t) = ap (looked l.now) waits in
      subst (λ x. Holds p (record l { stage = with_stage l.stage h x }) c) (sym is) (looked_as t waits (l.now == t) refl)

  -- ---- a give

  module _ (inside : l.stage h ≡ Inside) where
    given_out : c.draws ≡ suc c.gives + out p (with_stage l.stage h Outside)
    given_out =
        let change = change_out p h l.stage (with_stage l.stage h Outside) low (λ g not. ap ticket_of (sym (other_stage l.stage h Outside g not))) in
        let new : ticket_of (with_stage l.stage h Outside h) ≡ 0 = ap ticket_of (its_stage l.stage h Outside h refl) in
        let old : ticket_of (l.stage h) ≡ 1 = ap ticket_of inside in
        let all = holds.all_out in
        omega (arith, change, new, old, all)

    give_now : one_more l.now ≡ suc c.gives % 2 ^ 32
    give_now = let now = holds.now in omega (arith, now)

    -- who still has a ticket is another one, and had it before
    other_has : (g : ℕ) → ticket_of (with_stage l.stage h Outside g) ≡ 1 → (g ≡ h → ⊥)
    other_has g has is =
        let new : ticket_of (with_stage l.stage h Outside g) ≡ 0 = ap ticket_of (its_stage l.stage h Outside g is) in
        omega (arith, new, has)

    had : (g : ℕ) → ticket_of (with_stage l.stage h Outside g) ≡ 1 → ticket_of (l.stage g) ≡ 1
    had g has = sym (ap ticket_of (other_stage l.stage h Outside g (other_has g has))) ∙ has

    later : (g : ℕ) → ticket_of (with_stage l.stage h Outside g) ≡ 1 → c.drawn g ≡ c.gives → ⊥
    later g has is = other_has g has (holds.apart g h (had g has) (ap ticket_of inside) (is ∙ sym (holds.first h inside)))

    given_within : (g : ℕ) → ticket_of (with_stage l.stage h Outside g) ≡ 1 → (suc c.gives ≤ c.drawn g) × (c.drawn g < c.draws)
    given_within g has =
        let before = holds.within g (had g has) in
        let a = before.0 in (
          elim (cases_eq (c.drawn g) c.gives) [
            | inl is ↦ absurd (later g has is)
            | inr not ↦ elim (cases_lt c.gives (c.drawn g)) [
              | inl lt ↦ omega (arith, lt)
              | inr le ↦ absurd (not (omega (arith, a, le)))
            ]
          ],
          before.1,
        )

    given_ticket : (g t : ℕ) → with_stage l.stage h Outside g ≡ Waiting t → t ≡ c.drawn g % 2 ^ 32
    given_ticket g t is = holds.ticket g t (sym (other_stage l.stage h Outside g (other_has g (ap ticket_of is))) ∙ is)

    given_first : (g : ℕ) → with_stage l.stage h Outside g ≡ Inside → c.drawn g ≡ suc c.gives
    given_first g is =
        let has = ap ticket_of is in
        absurd (later g has (holds.first g (sym (other_stage l.stage h Outside g (other_has g has)) ∙ is)))

    kept_give : Holds p (after_act h Give l) (count_act h Give c)
    kept_give = record {
      next = holds.next;
      now = give_now;
      all_out = given_out;
      within = given_within;
      ticket = given_ticket;
      first = given_first;
      apart = λ f g has also same. holds.apart f g (had f has) (had g also) same;
    }

  pub kept : (act : Act) → MayDo act (l.stage h) → Holds p (after_act h act l) (count_act h act c)
  kept Draw may = kept_draw (outside_of (l.stage h) may)
  kept Look may = let waits = waiting_of (l.stage h) may in kept_look waits.0 waits.1
  kept Give may = kept_give (inside_of (l.stage h) may)
