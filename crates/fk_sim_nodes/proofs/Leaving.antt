-- All leave in one cycle, not before the last has arrived, and soon after that.
use Rattle.std.proofs.Common.{◌≡◌, ℕ, zero, suc, ◌+◌, ◌%◌, ◌^◌, ◌<◌, ◌≤◌, ◌≢◌, List, [], ◌∷◌, length, sym, ap, subst, ◌∙◌, arith, refl, ◌⊎◌, inl, inr, ⊎_elim}
use Rattle.std.proofs.lemmas.Bool.{cases_lt, ne_eqb}
use Rattle.fk_num.specs.Word.{word_sum}
use Rattle.fk_sim_nodes.specs.Phase.{Phase, Outside, Away, Coming, Waiting, Leaving, InStep, AllMove, members, arrived, Each, Stays, Leaves, AreTogether, Settled, SomeCommits, HasTime, IsNear, IsDue}
use Rattle.fk_sim_nodes.specs.Meeting.{CyclesKeepArrivals}
use Rattle.fk_sim_nodes.proofs.Phases.{nearer, Waits, all_wait, see, grown, small, kept, IsParity, parity, IsFull, full}

-- ---- all leave in one cycle, and not before all have arrived

none_commits : (fs : List Phase) → Each Stays fs → SomeCommits fs → ⊥
none_commits [] stay some = some
none_commits (Leaving d ∷ fs) stay some = stay.0
none_commits (f ∷ fs) stay (inl c) = absurd (assumption (stay, c))
none_commits (f ∷ fs) stay (inr c) = none_commits fs stay.1 c

leave_now : (d : ℕ) (fs : List Phase) → Each (Leaves d) fs → SomeCommits fs → d ≡ 0
leave_now d [] all some = absurd some
leave_now d (Leaving zero ∷ fs) all (inl c) = sym all.0
leave_now d (f ∷ fs) all (inl c) = absurd (assumption (all, c))
leave_now d (f ∷ fs) all (inr c) = leave_now d fs all.1 c

all_there : (d : ℕ) (fs : List Phase) → Each (Leaves d) fs → arrived fs ≡ members fs
all_there d [] all = refl
all_there d (Outside ∷ fs) all = all_there d fs all.1
all_there d (Leaving e ∷ fs) all = ap suc (all_there d fs all.1)
all_there d (f ∷ fs) all = absurd (assumption all)

-- where one commits, every member does, and all have arrived
pub record LeavesAll (n v : ℕ) (fs : List Phase) : Type 0 where
  pub leave : Each (Leaves 0) fs
  pub all : v ≡ n

leaves_by : (t n v : ℕ) (fs : List Phase) (s : Settled t n v fs) → SomeCommits fs → AreTogether fs → LeavesAll n v fs
leaves_by t n v fs s some (inl stay) = absurd (none_commits fs stay some)
leaves_by t n v fs s some (inr (d, leave)) =
    record { leave = subst (λ k. Each (Leaves k) fs) (leave_now d fs leave some) leave; all = sym s.count ∙ all_there d fs leave ∙ s.size }

pub leaves_all : (t n v : ℕ) (fs : List Phase) → Settled t n v fs → SomeCommits fs → LeavesAll n v fs
leaves_all t n v fs s some = leaves_by t n v fs s some s.together

-- ---- from the cycle in which the last has entered

-- one who is on its way comes nearer or arrives
soon_even : (t n lead v v' k : ℕ) (fs fs' : List Phase) → t % 2 ≡ 0 → Each Stays fs → Each (HasTime lead (suc k)) fs → AllMove t n lead fs v fs' v' → Each (HasTime lead k) fs'
soon_even t n lead v v' k [] [] even stay soon moves = tt
soon_even t n lead v v' k (Outside ∷ fs) (f' ∷ fs') even stay soon moves =
    (subst (HasTime lead k) (sym moves.0) tt, soon_even t n lead v v' k fs fs' even stay.1 soon.1 moves.1)
soon_even t n lead v v' k (Coming zero ∷ fs) (f' ∷ fs') even stay soon moves =
    (subst (HasTime lead k) (sym moves.0) tt, soon_even t n lead (word_sum v 1) v' k fs fs' even stay.1 soon.1 moves.1)
soon_even t n lead v v' k (Coming (suc d) ∷ fs) (f' ∷ fs') even stay soon moves =
    let one : HasTime lead k (Coming d) = let e = soon.0 in omega arith in
    (subst (HasTime lead k) (sym moves.0) one, soon_even t n lead v v' k fs fs' even stay.1 soon.1 moves.1)
soon_even t n lead v v' k (Waiting ∷ fs) (f' ∷ fs') even stay soon moves =
    let e : f' ≡ Waiting = moves.0 ∙ rw even refl in
    (subst (HasTime lead k) (sym e) tt, soon_even t n lead v v' k fs fs' even stay.1 soon.1 moves.1)
soon_even t n lead v v' k fs fs' even stay soon moves = absurd (assumption (stay, soon, moves))

soon_few : (t n lead v v' k : ℕ) (fs fs' : List Phase) → t % 2 ≡ 1 → v ≢ n → Each Stays fs → Each (InStep t) fs → Each (HasTime lead (suc k)) fs
    → AllMove t n lead fs v fs' v' → Each (HasTime lead k) fs'
soon_few t n lead v v' k [] [] odd few stay step soon moves = tt
soon_few t n lead v v' k (Outside ∷ fs) (f' ∷ fs') odd few stay step soon moves =
    (subst (HasTime lead k) (sym moves.0) tt, soon_few t n lead v v' k fs fs' odd few stay.1 step.1 soon.1 moves.1)
soon_few t n lead v v' k (Coming zero ∷ fs) (f' ∷ fs') odd few stay step soon moves = absurd (let e = step.0 in omega arith)
soon_few t n lead v v' k (Coming (suc d) ∷ fs) (f' ∷ fs') odd few stay step soon moves =
    let one : HasTime lead k (Coming d) = let e = soon.0 in omega arith in
    (subst (HasTime lead k) (sym moves.0) one, soon_few t n lead v v' k fs fs' odd few stay.1 step.1 soon.1 moves.1)
soon_few t n lead v v' k (Waiting ∷ fs) (f' ∷ fs') odd few stay step soon moves =
    let e : f' ≡ Waiting = moves.0 ∙ rw (odd, ne_eqb v n few) refl in
    (subst (HasTime lead k) (sym e) tt, soon_few t n lead v v' k fs fs' odd few stay.1 step.1 soon.1 moves.1)
soon_few t n lead v v' k fs fs' odd few stay step soon moves = absurd (assumption (stay, soon, moves))

soon_leave : (lead d k : ℕ) (fs : List Phase) → d ≤ k → Each (Leaves d) fs → Each (HasTime lead k) fs
soon_leave lead d k [] le all = tt
soon_leave lead d k (Outside ∷ fs) le all = (tt, soon_leave lead d k fs le all.1)
soon_leave lead d k (Leaving e ∷ fs) le all = (let g = all.0 in omega arith, soon_leave lead d k fs le all.1)
soon_leave lead d k (f ∷ fs) le all = absurd (assumption all)

-- who has not lead + 3 cycles left in an odd one is not on its way
late : (t lead k : ℕ) (fs : List Phase) → t % 2 ≡ 1 → k < lead + 3 → Each Stays fs → Each (InStep t) fs → Each (HasTime lead k) fs → arrived fs ≡ members fs
late t lead k [] odd lt stay step soon = refl
late t lead k (Outside ∷ fs) odd lt stay step soon = late t lead k fs odd lt stay.1 step.1 soon.1
late t lead k (Coming zero ∷ fs) odd lt stay step soon = absurd (let e = step.0 in omega arith)
late t lead k (Coming (suc d) ∷ fs) odd lt stay step soon = absurd (let e = soon.0 in omega arith)
late t lead k (Waiting ∷ fs) odd lt stay step soon = ap suc (late t lead k fs odd lt stay.1 step.1 soon.1)
late t lead k (f ∷ fs) odd lt stay step soon = absurd (assumption (stay, soon))

-- all commit now, or one cycle later there is one cycle less to go
abbrev pub Proceeds : ℕ → ℕ → ℕ → List Phase → List Phase → Type 0
Proceeds lead k t fs fs' = Each (Leaves 0) fs ⊎ IsDue lead k (t + 1) fs'

due_few : (t n lead v v' k : ℕ) (fs fs' : List Phase) (s : Settled t n v fs) → t % 2 ≡ 1 → v ≢ n → Each Stays fs → Each (HasTime lead (suc k)) fs
    → AllMove t n lead fs v fs' v' → (k < lead + 2 ⊎ lead + 2 ≤ k) → IsDue lead k (t + 1) fs'
due_few t n lead v v' k fs fs' s odd few stay soon moves (inl lt) =
    let e = late t lead (suc k) fs odd (omega arith) stay s.in_step soon in
    absurd (few (sym s.count ∙ e ∙ s.size))
due_few t n lead v v' k fs fs' s odd few stay soon moves (inr le) =
    record { time = soon_few t n lead v v' k fs fs' odd few stay s.in_step soon moves; near = inl (omega arith) }

due_all : (t n lead v v' k : ℕ) (fs fs' : List Phase) (s : Settled t n v fs) → t % 2 ≡ 1 → v ≡ n → Each Stays fs → lead + 2 ≤ suc k + t % 2
    → AllMove t n lead fs v fs' v' → IsDue lead k (t + 1) fs'
due_all t n lead v v' k fs fs' s odd all stay room moves =
    let r = see t n lead v v' fs fs' odd all (all_wait fs stay (s.count ∙ all ∙ sym s.size)) moves in
    record { time = soon_leave lead lead k fs' (omega arith) r.leave; near = inr (lead, omega arith, r.leave) }

due_leave : (t n lead v v' d k : ℕ) (fs fs' : List Phase) (s : Settled t n v fs) → d ≤ suc k → Each (Leaves d) fs → AllMove t n lead fs v fs' v' → Proceeds lead k t fs fs'
due_leave t n lead v v' zero k fs fs' s le leave moves = inl leave
due_leave t n lead v v' (suc d) k fs fs' s le leave moves =
    let r = nearer t n lead v v' d fs fs' leave s.in_step moves in
    inr (record { time = soon_leave lead d k fs' (omega arith) r.leave; near = inr (d, omega arith, r.leave) })

-- where there is a member it has so many steps at most
leave_soon : (lead d k : ℕ) (fs : List Phase) → Each (Leaves d) fs → Each (HasTime lead k) fs → (d ≤ k) ⊎ Each (Leaves 0) fs
leave_soon lead d k [] leave soon = inr tt
leave_soon lead d k (Outside ∷ fs) leave soon = ⊎_elim (λ le. inl le) (λ none. inr (tt, none)) (leave_soon lead d k fs leave.1 soon.1)
leave_soon lead d k (Leaving e ∷ fs) leave soon = let a = leave.0 in let b = soon.0 in inl (omega arith)
leave_soon lead d k (f ∷ fs) leave soon = absurd (assumption leave)

due_by : (t n lead v v' k : ℕ) (fs fs' : List Phase) (s : Settled t n v fs) → Each (HasTime lead (suc k)) fs → AllMove t n lead fs v fs' v'
    → AreTogether fs → IsNear lead (suc k) t fs → IsParity t → IsFull v n
    → Proceeds lead k t fs fs'
due_by t n lead v v' k fs fs' s soon moves (inl stay) (inl room) (inl even) f =
    inr (record { time = soon_even t n lead v v' k fs fs' even stay soon moves; near = inl (omega arith) })
due_by t n lead v v' k fs fs' s soon moves (inl stay) (inl room) (inr odd) (inl all) = inr (due_all t n lead v v' k fs fs' s odd all stay room moves)
due_by t n lead v v' k fs fs' s soon moves (inl stay) (inl room) (inr odd) (inr few) =
    inr (due_few t n lead v v' k fs fs' s odd few stay soon moves (cases_lt k (lead + 2)))
due_by t n lead v v' k fs fs' s soon moves (inr (d, leave)) (inl room) p f =
    ⊎_elim (λ le. due_leave t n lead v v' d k fs fs' s le leave moves) (λ none. inl none) (leave_soon lead d (suc k) fs leave soon)
due_by t n lead v v' k fs fs' s soon moves together (inr (d, le, leave)) p f = due_leave t n lead v v' d k fs fs' s le leave moves

-- where all commit within k + 1 cycles they do now, or within k after this one
pub due_next : (t n lead v v' k : ℕ) (fs fs' : List Phase) → Settled t n v fs → IsDue lead (suc k) t fs → AllMove t n lead fs v fs' v' → Proceeds lead k t fs fs'
due_next t n lead v v' k fs fs' s due moves = due_by t n lead v v' k fs fs' s due.time moves s.together due.near (parity t) (full v n)

at_once : (t lead : ℕ) (fs : List Phase) → IsNear lead 0 t fs → Each (Leaves 0) fs
at_once t lead fs (inl le) = absurd (omega arith)
at_once t lead fs (inr (d, le, leave)) = let e : d ≡ 0 = omega arith in subst (λ k. Each (Leaves k) fs) e leave

-- and where there is no cycle to go they do now
pub due_now : (t n lead v : ℕ) (fs : List Phase) → Settled t n v fs → IsDue lead 0 t fs → Each (Leaves 0) fs
due_now t n lead v fs s due = at_once t lead fs due.near

-- ---- after the last arrival

waiting_soon : (lead : ℕ) (fs : List Phase) → Each Waits fs → Each (HasTime lead (lead + 1)) fs
waiting_soon lead [] all = tt
waiting_soon lead (Outside ∷ fs) all = (tt, waiting_soon lead fs all.1)
waiting_soon lead (Waiting ∷ fs) all = (tt, waiting_soon lead fs all.1)
waiting_soon lead (f ∷ fs) all = absurd (assumption all)

-- all have arrived, none has seen it: the next odd cycle shows it, and all commit two cycles after that
pub due_arrived : (t n lead v : ℕ) (fs : List Phase) → Settled t n v fs → v ≡ n → Each Stays fs → (t % 2 ≡ 1) → IsDue lead (lead + 1) t fs
due_arrived t n lead v fs s all stay odd =
    record { time = waiting_soon lead fs (all_wait fs stay (s.count ∙ all ∙ sym s.size)); near = inl (omega arith) }

-- in an odd cycle in which none leaves the word stays
unchanged : (t n lead v v' : ℕ) (fs fs' : List Phase) → t % 2 ≡ 1 → Each Stays fs → Each (InStep t) fs → AllMove t n lead fs v fs' v' → v' ≡ v
unchanged t n lead v v' [] [] odd stay step moves = moves
unchanged t n lead v v' (Outside ∷ fs) (f' ∷ fs') odd stay step moves = unchanged t n lead v v' fs fs' odd stay.1 step.1 moves.1
unchanged t n lead v v' (Away ∷ fs) (f' ∷ fs') odd stay step moves = unchanged t n lead v v' fs fs' odd stay.1 step.1 moves.1
unchanged t n lead v v' (Coming zero ∷ fs) (f' ∷ fs') odd stay step moves = absurd (let e = step.0 in omega arith)
unchanged t n lead v v' (Coming (suc d) ∷ fs) (f' ∷ fs') odd stay step moves = unchanged t n lead v v' fs fs' odd stay.1 step.1 moves.1
unchanged t n lead v v' (Waiting ∷ fs) (f' ∷ fs') odd stay step moves = unchanged t n lead v v' fs fs' odd stay.1 step.1 moves.1
unchanged t n lead v v' fs fs' odd stay step moves = absurd (assumption (stay, moves))

arrived_by : (t n lead v v' : ℕ) (fs fs' : List Phase) → v + length fs < 2 ^ 32 → (s : Settled t n v fs) → (s' : Settled (t + 1) n v' fs') → AllMove t n lead fs v fs' v' → v ≢ n → v' ≡ n
    → AreTogether fs → IsParity t → IsDue lead (lead + 1) (t + 1) fs'
arrived_by t n lead v v' fs fs' fits s s' moves few all (inl stay) (inl even) =
    due_arrived (t + 1) n lead v' fs' s' all (grown t n lead v v' fs fs' even fits stay s.in_step moves).stay (omega arith)
arrived_by t n lead v v' fs fs' fits s s' moves few all (inl stay) (inr odd) = absurd (few (sym (unchanged t n lead v v' fs fs' odd stay s.in_step moves) ∙ all))
arrived_by t n lead v v' fs fs' fits s s' moves few all (inr (d, leave)) p = absurd (few (sym s.count ∙ all_there d fs leave ∙ s.size))

-- two cycles after the one that follows the last arrival all commit
pub last_arrived : (t n lead v v' : ℕ) (fs fs' : List Phase) → length fs < 2 ^ 31 → Settled t n v fs → AllMove t n lead fs v fs' v' → v ≢ n → v' ≡ n
    → IsDue lead (lead + 1) (t + 1) fs'
last_arrived t n lead v v' fs fs' short s moves few all =
    arrived_by t n lead v v' fs fs' (small t n v fs short s) s (kept t n lead v v' fs fs' short s moves) moves few all s.together (parity t)

pub cycles_keep_arrivals : CyclesKeepArrivals
cycles_keep_arrivals t n lead v v' fs fs' short s moves = record {
  settled = kept t n lead v v' fs fs' short s moves;
  together = λ some. let l = leaves_all t n v fs s some in (l.leave, l.all);
  prompt = λ few all. last_arrived t n lead v v' fs fs' short s moves few all;
  nearer = λ k due. due_next t n lead v v' k fs fs' s due moves;
  now = λ due. due_now t n lead v fs s due;
}
