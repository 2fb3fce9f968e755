-- Between two cycles: members set out, and words get members.
use Rattle.std.proofs.Common.{◌≡◌, ℕ, suc, List, [], ◌∷◌, sym, ap, subst, ◌∙◌, refl, inl, inr}
use Rattle.fk_sim_nodes.specs.Phase.{Phase, Outside, Away, Coming, Waiting, Leaving, InStep, members, arrived, and_member, and_arrived, Each, Stays, Leaves, AreTogether, AllSetOut, IsIdle}
use Rattle.fk_sim_nodes.specs.Meeting.{MembersMaySetOut, WordsOpenAtZero}

-- those who set out
record Out (t : ℕ) (fs fs' : List Phase) : Type 0 where
  size : members fs' ≡ members fs
  count : arrived fs' ≡ arrived fs
  in_step : Each (InStep t) fs'
  stay : Each Stays fs → Each Stays fs'
  leave : (d : ℕ) → Each (Leaves d) fs → Each (Leaves d) fs'

out_by : (t : ℕ) (f f' : Phase) (fs fs' : List Phase) → Out t fs fs' → members (f' ∷ fs') ≡ members (f ∷ fs) → arrived (f' ∷ fs') ≡ arrived (f ∷ fs)
    → InStep t f' → (Stays f → Stays f') → ((d : ℕ) → Leaves d f → Leaves d f') → Out t (f ∷ fs) (f' ∷ fs')
out_by t f f' fs fs' o a b c d e = record {
  size = a;
  count = b;
  in_step = (c, o.in_step);
  stay = λ s. (d s.0, o.stay s.1);
  leave = λ k l. (e k l.0, o.leave k l.1);
}

-- one that does not
out_same : (t : ℕ) (f f' : Phase) (fs fs' : List Phase) → Out t fs fs' → f' ≡ f → InStep t f → Out t (f ∷ fs) (f' ∷ fs')
out_same t f f' fs fs' o e step =
    subst (λ x. Out t (f ∷ fs) (x ∷ fs')) (sym e)
    (out_by t f f fs fs' o (ap (and_member f) o.size) (ap (and_arrived f) o.count) step (λ s. s) (λ k l. l))

out : (t : ℕ) (fs fs' : List Phase) → Each (InStep t) fs → AllSetOut t fs fs' → Out t fs fs'
out t [] [] step sets = record { size = refl; count = refl; in_step = tt; stay = λ s. tt; leave = λ k l. tt }
out t (Outside ∷ fs) (f' ∷ fs') step sets = out_same t Outside f' fs fs' (out t fs fs' step.1 sets.1) sets.0 tt
out t (Away ∷ fs) (Away ∷ fs') step sets = out_same t Away Away fs fs' (out t fs fs' step.1 sets.1) refl tt
out t (Away ∷ fs) (Coming d ∷ fs') step sets =
    let o = out t fs fs' step.1 sets.1 in
    out_by t Away (Coming d) fs fs' o (ap suc o.size) o.count sets.0 (λ s. tt) (λ k l. l)
out t (Coming d ∷ fs) (f' ∷ fs') step sets = out_same t (Coming d) f' fs fs' (out t fs fs' step.1 sets.1) sets.0 step.0
out t (Waiting ∷ fs) (f' ∷ fs') step sets = out_same t Waiting f' fs fs' (out t fs fs' step.1 sets.1) sets.0 tt
out t (Leaving d ∷ fs) (f' ∷ fs') step sets = out_same t (Leaving d) f' fs fs' (out t fs fs' step.1 sets.1) sets.0 step.0
out t fs fs' step sets = absurd (assumption sets)

out_together : (fs fs' : List Phase) → (Each Stays fs → Each Stays fs') → ((d : ℕ) → Each (Leaves d) fs → Each (Leaves d) fs')
    → AreTogether fs → AreTogether fs'
out_together fs fs' stay leave (inl s) = inl (stay s)
out_together fs fs' stay leave (inr (d, l)) = inr (d, leave d l)

pub members_may_set_out : MembersMaySetOut
members_may_set_out t n v fs fs' s sets =
    let o = out t fs fs' s.in_step sets in
    record { size = o.size ∙ s.size; count = o.count ∙ s.count; in_step = o.in_step; together = out_together fs fs' o.stay o.leave s.together }

-- a word of 0 at which no member is
idle_parts : (t : ℕ) (fs : List Phase) → Each (IsIdle t) fs → (arrived fs ≡ 0) × Each (InStep t) fs × Each Stays fs
idle_parts t [] all = (refl, tt, tt)
idle_parts t (Outside ∷ fs) all = let r = idle_parts t fs all.1 in (r.0, (tt, r.1), (tt, r.2))
idle_parts t (Away ∷ fs) all = let r = idle_parts t fs all.1 in (r.0, (tt, r.1), (tt, r.2))
idle_parts t (Coming d ∷ fs) all = let r = idle_parts t fs all.1 in (r.0, (all.0, r.1), (tt, r.2))
idle_parts t (f ∷ fs) all = absurd (assumption all)

pub words_open_at_zero : WordsOpenAtZero
words_open_at_zero t fs all =
    let r = idle_parts t fs all in
    record { size = refl; count = r.0; in_step = r.1; together = inl r.2 }
