-- How many have come to a joint operation, where the numbers of one processor are replaced.
use Rattle.std.proofs.Common.{◌≡◌, ◌⊎◌, inl, inr, ℕ, suc, ◌+◌, ◌<◌, ◌^◌, Bool, true, false, true≢false, List, length, set, slice_get, get_or, Some, refl, sym, ap, ◌∙◌, subst, arith, if◌then◌else◌}
use Rattle.std.proofs.lemmas.Bool.{cases_eq}
use Rattle.std.proofs.lemmas.Option.{slice_get_within, slice_get_read}
use Rattle.fk_meaning_operation.specs.declared.kinds.Joint.{Joint}
use Rattle.fk_meaning_operation.specs.declared.kinds.Joint.TheVariants.{Alone, Starting, AtBarrier, Closing, Resuming}
use Rattle.fk_meaning.specs.Round.{same_joint}
use Rattle.fk_replay_phases.specs.declared.actor.Actor.{Actor}
use Rattle.fk_replay_phases.specs.declared.acting.Acting.{Acting}
use Rattle.fk_replay_able.proofs.Able.{same_is, same_self}
use Rattle.fk_replay_arrivals.specs.declared.arrived.Arrived.{Arrived}
use Rattle.fk_replay_arrivals.specs.Arrived.{number_in, number_for, arrived_in, is_counted, joint_taken, HasNumber, HasOneMore, IsDoneBy, HaveForgotten}
use Rattle.fk_replay_arrivals.proofs.Begun.{set_length, set_here, set_there}

-- one of the three numbers is another
pub sets_starting : (a : Arrived) (n : ℕ) → HasNumber Starting n a (record a { starting = n })
sets_starting a n Alone = refl
sets_starting a n Starting = refl
sets_starting a n AtBarrier = refl
sets_starting a n Closing = refl
sets_starting a n Resuming = refl

pub sets_at_barrier : (a : Arrived) (n : ℕ) → HasNumber AtBarrier n a (record a { at_barrier = n })
sets_at_barrier a n Alone = refl
sets_at_barrier a n Starting = refl
sets_at_barrier a n AtBarrier = refl
sets_at_barrier a n Closing = refl
sets_at_barrier a n Resuming = refl

pub sets_closing : (a : Arrived) (n : ℕ) → HasNumber Closing n a (record a { closing = n })
sets_closing a n Alone = refl
sets_closing a n Starting = refl
sets_closing a n AtBarrier = refl
sets_closing a n Closing = refl
sets_closing a n Resuming = refl

-- one of them is one more
module _ (a : Arrived) (joint : Joint) (number result : ℕ) (few : number_in joint a + 1 < 2 ^ 32) (result_is : result ≡ number) where
  pub more_starting : joint ≡ Starting → (a.starting + 1 < 2 ^ 32 → number ≡ a.starting + 1) → HasOneMore joint result a (record a { starting = number })
  more_starting is new =
      let same = ap (λ (j : Joint). number_in j a) is in
      let more = new (omega (arith, few, same)) in
      subst (λ (j : Joint). HasOneMore j result a (record a { starting = number })) (sym is) (record {
        number_is = omega (arith, more, result_is);
        one = subst (λ (n : ℕ). HasNumber Starting n a (record a { starting = number })) (sym result_is) (sets_starting a number);
      })

  pub more_at_barrier : joint ≡ AtBarrier → (a.at_barrier + 1 < 2 ^ 32 → number ≡ a.at_barrier + 1) → HasOneMore joint result a (record a { at_barrier = number })
  more_at_barrier is new =
      let same = ap (λ (j : Joint). number_in j a) is in
      let more = new (omega (arith, few, same)) in
      subst (λ (j : Joint). HasOneMore j result a (record a { at_barrier = number })) (sym is) (record {
        number_is = omega (arith, more, result_is);
        one = subst (λ (n : ℕ). HasNumber AtBarrier n a (record a { at_barrier = number })) (sym result_is) (sets_at_barrier a number);
      })

  pub more_closing : joint ≡ Closing → (a.closing + 1 < 2 ^ 32 → number ≡ a.closing + 1) → HasOneMore joint result a (record a { closing = number })
  more_closing is new =
      let same = ap (λ (j : Joint). number_in j a) is in
      let more = new (omega (arith, few, same)) in
      subst (λ (j : Joint). HasOneMore j result a (record a { closing = number })) (sym is) (record {
        number_is = omega (arith, more, result_is);
        one = subst (λ (n : ℕ). HasNumber Closing n a (record a { closing = number })) (sym result_is) (sets_closing a number);
      })

-- the joint kinds that are counted
pub is_closing : (joint : Joint) → is_counted joint ≡ true → (joint ≡ Starting → ⊥) → (joint ≡ AtBarrier → ⊥) → joint ≡ Closing
is_closing Starting counted other others = absurd (other refl)
is_closing AtBarrier counted other others = absurd (others refl)
is_closing Closing counted other others = refl
is_closing Alone counted other others = absurd (true≢false (sym counted))
is_closing Resuming counted other others = absurd (true≢false (sym counted))

joint_or : (a b : Joint) → (a ≡ b) ⊎ ((a ≡ b → ⊥) × (same_joint a b ≡ false))
joint_or a b = by (same_joint a b) refl
  where
    by : (c : Bool) → same_joint a b ≡ c → (a ≡ b) ⊎ ((a ≡ b → ⊥) × (same_joint a b ≡ false))
    by true e = inl (sym (same_is a b e))
    by false e = inr (λ same. true≢false (sym (ap (λ (j : Joint). same_joint j b) same ∙ same_self b) ∙ e), e)

-- one joint kind has another number at one processor
pub record IsSetAt (g : ℕ) (joint : Joint) (number : ℕ) (old new : List Arrived) : Type 0 where
  pub many : length new ≡ length old
  pub here : arrived_in new g joint ≡ number
  pub kept : (h : ℕ) (j : Joint) → ((h ≡ g) × (j ≡ joint) → ⊥) → arrived_in new h j ≡ arrived_in old h j

pub is_set : (was : List Arrived) (g : ℕ) (x y : Arrived) (joint : Joint) (number : ℕ) → slice_get was g ≡ Some x → HasNumber joint number x y
    → IsSetAt g joint number was (set was g y)
is_set was g x y joint number there has = record {
  many = set_length was g y;
  here = now joint ∙ has joint ∙ ap (λ (b : Bool). if b then number else number_in joint x) (same_self joint);
  kept = λ h j other. by h j other (cases_eq h g);
}
  where
    now : (j : Joint) → arrived_in (set was g y) g j ≡ number_in j y
    now j = ap (number_for j) (set_here was g y (slice_get_within was g x there))

    others : (j : Joint) → (j ≡ joint → ⊥) → (j ≡ joint) ⊎ ((j ≡ joint → ⊥) × (same_joint j joint ≡ false)) → number_in j y ≡ number_in j x
    others j ne (inl e) = absurd (ne e)
    others j ne (inr off) = has j ∙ ap (λ (b : Bool). if b then number else number_in j x) off.1

    by : (h : ℕ) (j : Joint) → ((h ≡ g) × (j ≡ joint) → ⊥) → (h ≡ g) ⊎ (h ≡ g → ⊥) → arrived_in (set was g y) h j ≡ arrived_in was h j
    by h j other (inr ne) = ap (number_for j) (set_there was g h y ne)
    by h j other (inl is) =
        ap (λ (i : ℕ). arrived_in (set was g y) i j) is ∙ now j ∙ others j (λ e. other (is, e)) (joint_or j joint)
        ∙ sym (ap (number_for j) there) ∙ sym (ap (λ (i : ℕ). arrived_in was i j) is)

-- ---- joint operations that are done

module _ (acting : List Acting) (actors : List Actor) (old : List Arrived) where
  -- those that the first of a round do are forgotten
  pub record HaveForgottenAt (i : ℕ) (now : List Arrived) : Type 0 where
    pub many : length now ≡ length old
    pub done : (h : ℕ) (joint : Joint) (by : IsDoneBy acting actors h joint) → by.index < i → arrived_in now h joint ≡ 0
    pub kept : (h : ℕ) (joint : Joint) → ((by : IsDoneBy acting actors h joint) → by.index < i → ⊥) → arrived_in now h joint ≡ arrived_in old h joint

  pub forgets_first : HaveForgottenAt 0 old
  forgets_first = record { many = refl; done = λ h joint by low. absurd (omega (arith, low)); kept = λ h joint none. refl }

  before_or_at : (j i : ℕ) → j < suc i → (j < i) ⊎ (j ≡ i)
  before_or_at j i lt = grind arith

  module _ (i : ℕ) (now : List Arrived) (x : Acting) (at : slice_get acting i ≡ Some x) (so_far : HaveForgottenAt i now) where
    member_is : (h : ℕ) (joint : Joint) (by : IsDoneBy acting actors h joint) → by.index ≡ i → by.member ≡ x
    member_is h joint by e =
        let both : Some by.member ≡ Some x = sym by.at ∙ ap (slice_get acting) e ∙ at in
        let same : by.member ≡ x = cc in
        same

    -- this one isn't the lowest member
    pub forgets_not : (x.number ≡ x.lowest → ⊥) → HaveForgottenAt (suc i) now
    forgets_not other = record {
      many = so_far.many;
      done = λ h joint by low. done h joint by (before_or_at by.index i low);
      kept = λ h joint none. so_far.kept h joint (λ by low. none by (omega (arith, low)));
    }
      where
        done : (h : ℕ) (joint : Joint) (by : IsDoneBy acting actors h joint) → (by.index < i) ⊎ (by.index ≡ i) → arrived_in now h joint ≡ 0
        done h joint by (inl low) = so_far.done h joint by low
        done h joint by (inr e) =
            let same = member_is h joint by e in
            absurd (other (ap (λ (m : Acting). m.number) (sym same) ∙ by.number ∙ sym by.lowest ∙ ap (λ (m : Acting). m.lowest) same))

    module _ (a : Actor) (there : slice_get actors x.number ≡ Some a) (low : x.number ≡ x.lowest) (new : List Arrived) (sets : IsSetAt x.number (joint_taken a.taken) 0 now new) where
      by_this : IsDoneBy acting actors x.number (joint_taken a.taken)
      by_this = record { index = i; member = x; at = at; number = refl; lowest = sym low; actor = a; there = there; taken = refl }

      abbrev Is : ℕ → Joint → Type 0
      Is h joint = (h ≡ x.number) × (joint ≡ joint_taken a.taken)

      is_or : (h : ℕ) (joint : Joint) → Is h joint ⊎ (Is h joint → ⊥)
      is_or h joint = by (cases_eq h x.number) (joint_or joint (joint_taken a.taken))
        where
          by : (h ≡ x.number) ⊎ (h ≡ x.number → ⊥) → (joint ≡ joint_taken a.taken) ⊎ ((joint ≡ joint_taken a.taken → ⊥) × (same_joint joint (joint_taken a.taken) ≡ false)) → Is h joint ⊎ (Is h joint → ⊥)
          by (inr ne) b = inr (λ is. ne is.0)
          by (inl e) (inr ne) = inr (λ is. ne.0 is.1)
          by (inl e) (inl f) = inl (e, f)

      here : (h : ℕ) (joint : Joint) → Is h joint → arrived_in new h joint ≡ 0
      here h joint is = ap (λ (g : ℕ). arrived_in new g joint) is.0 ∙ ap (arrived_in new x.number) is.1 ∙ sets.here

      done : (h : ℕ) (joint : Joint) (by : IsDoneBy acting actors h joint) → (by.index < i) ⊎ (by.index ≡ i) → Is h joint ⊎ (Is h joint → ⊥) → arrived_in new h joint ≡ 0
      done h joint by before (inl is) = here h joint is
      done h joint by (inl before) (inr other) = sets.kept h joint other ∙ so_far.done h joint by before
      done h joint by (inr e) (inr other) = absurd (other (number_is, joint_is))
        where
          number_is : h ≡ x.number
          number_is = sym by.number ∙ ap (λ (m : Acting). m.number) (member_is h joint by e)

          actor_is : by.actor ≡ a
          actor_is =
              let both : Some by.actor ≡ Some a = sym by.there ∙ ap (slice_get actors) number_is ∙ there in
              let same : by.actor ≡ a = cc in
              same

          joint_is : joint ≡ joint_taken a.taken
          joint_is = by.taken ∙ ap (λ (b : Actor). joint_taken b.taken) actor_is

      kept : (h : ℕ) (joint : Joint) → ((by : IsDoneBy acting actors h joint) → by.index < suc i → ⊥) → Is h joint ⊎ (Is h joint → ⊥) → arrived_in new h joint ≡ arrived_in old h joint
      kept h joint none (inr other) = sets.kept h joint other ∙ so_far.kept h joint (λ by before. none by (omega (arith, before)))
      kept h joint none (inl is) = absurd (none (record { index = i; member = x; at = at; number = sym is.0; lowest = sym low ∙ sym is.0; actor = a; there = ap (slice_get actors) is.0 ∙ there; taken = is.1 }) (omega arith))

      forgets_one : HaveForgottenAt (suc i) new
      forgets_one = record {
        many = sets.many ∙ so_far.many;
        done = λ h joint by before. done h joint by (before_or_at by.index i before) (is_or h joint);
        kept = λ h joint none. kept h joint none (is_or h joint);
      }

    -- as the code reads and writes it
    pub forgets_there : (a : Actor) (z y : Arrived) (joint : Joint) → length old ≡ length actors → x.number < length actors → a ≡ get_or actors x.number a → x.number ≡ x.lowest → z ≡ get_or now x.number z
        → joint ≡ joint_taken (get_or actors x.number a).taken → HasNumber joint 0 z y → HaveForgottenAt (suc i) (set now x.number y)
    forgets_there a z y joint many within actor_is low number_is joint_is has =
        let size = so_far.many in
        let here : slice_get now x.number ≡ Some z = slice_get_read now (length actors) x.number z (omega (arith, many, size)) within number_is in
        let taken : joint ≡ joint_taken a.taken = joint_is ∙ ap (λ (b : Actor). joint_taken b.taken) (sym actor_is) in
        forgets_one a (slice_get_read actors (length actors) x.number a refl within actor_is) low (set now x.number y)
        (subst (λ (j : Joint). IsSetAt x.number j 0 now (set now x.number y)) taken (is_set now x.number z y joint 0 here has))

  pub forgets_all : (i : ℕ) (now : List Arrived) → i ≡ length acting → HaveForgottenAt i now → HaveForgotten acting actors old now
  forgets_all i now all at = record {
    many = at.many;
    done = λ h joint by. at.done h joint by (let low = slice_get_within acting by.index by.member by.at in omega (arith, low, all));
    kept = λ h joint none. at.kept h joint (λ by low. none by);
  }
