-- A cycle keeps what holds of an arrival word.
use Rattle.std.proofs.Common.{◌≡◌, ℕ, zero, suc, ◌+◌, ◌%◌, ◌^◌, ◌<◌, ◌≤◌, ◌≢◌, List, [], ◌∷◌, length, sym, ap, subst, ◌∙◌, arith, refl, ◌⊎◌, inl, inr, eq-eqb}
use Rattle.std.proofs.lemmas.Bool.{ne_eqb, cases_eq}
use Rattle.fk_num.specs.Word.{word_sum}
use Rattle.fk_sim_nodes.specs.Phase.{Phase, Outside, Away, Coming, Waiting, Leaving, InStep, AllMove, members, arrived, Each, Stays, Leaves, AreTogether, Settled}

-- ---- while all leave

-- those who are more than one step before their commit come one step nearer
pub record Nearer (t v v' : ℕ) (fs fs' : List Phase) (d : ℕ) : Type 0 where
  pub size : members fs' ≡ members fs
  pub count : arrived fs' ≡ arrived fs
  pub same : v' ≡ v
  pub in_step : Each (InStep (t + 1)) fs'
  pub leave : Each (Leaves d) fs'

pub nearer : (t n lead v v' d : ℕ) (fs fs' : List Phase) → Each (Leaves (suc d)) fs → Each (InStep t) fs → AllMove t n lead fs v fs' v' → Nearer t v v' fs fs' d
nearer t n lead v v' d [] [] all step moves = record { size = refl; count = refl; same = moves; in_step = tt; leave = tt }
nearer t n lead v v' d (Outside ∷ fs) (f' ∷ fs') all step moves =
    let r = nearer t n lead v v' d fs fs' all.1 step.1 moves.1 in
    subst (λ f. Nearer t v v' (Outside ∷ fs) (f ∷ fs') d) (sym moves.0)
    (record { size = r.size; count = r.count; same = r.same; in_step = (tt, r.in_step); leave = (tt, r.leave) })
nearer t n lead v v' d (Leaving zero ∷ fs) (f' ∷ fs') all step moves = absurd (let e = all.0 in omega arith)
nearer t n lead v v' d (Leaving (suc e) ∷ fs) (f' ∷ fs') all step moves =
    let r = nearer t n lead v v' d fs fs' all.1 step.1 moves.1 in
    let same : e ≡ d = let g = all.0 in omega arith in
    subst (λ f. Nearer t v v' (Leaving (suc e) ∷ fs) (f ∷ fs') d) (sym moves.0)
    (record { size = ap suc r.size; count = ap suc r.count; same = r.same; in_step = (tt, r.in_step); leave = (same, r.leave) })
nearer t n lead v v' d fs fs' all step moves = absurd (assumption (all, step, moves))

-- those who commit are free
pub record Free (t : ℕ) (fs fs' : List Phase) : Type 0 where
  pub size : members fs' ≡ members fs
  pub count : arrived fs' ≡ 0
  pub in_step : Each (InStep (t + 1)) fs'
  pub stay : Each Stays fs'

free : (t n lead v v' : ℕ) (fs fs' : List Phase) → Each (Leaves 0) fs → AllMove t n lead fs v fs' v' → Free t fs fs'
free t n lead v v' [] [] all moves = record { size = refl; count = refl; in_step = tt; stay = tt }
free t n lead v v' (Outside ∷ fs) (f' ∷ fs') all moves =
    let r = free t n lead v v' fs fs' all.1 moves.1 in
    subst (λ f. Free t (Outside ∷ fs) (f ∷ fs')) (sym moves.0)
    (record { size = r.size; count = r.count; in_step = (tt, r.in_step); stay = (tt, r.stay) })
free t n lead v v' (Leaving (suc e) ∷ fs) (f' ∷ fs') all moves = absurd (let e = all.0 in omega arith)
free t n lead v v' (Leaving zero ∷ fs) (Away ∷ fs') all moves =
    let r = free t n lead 0 v' fs fs' all.1 moves.1 in
    record { size = ap suc r.size; count = r.count; in_step = (tt, r.in_step); stay = (tt, r.stay) }
free t n lead v v' (Leaving zero ∷ fs) (Coming d ∷ fs') all moves =
    let r = free t n lead 0 v' fs fs' all.1 moves.1 in
    record { size = ap suc r.size; count = r.count; in_step = (moves.0, r.in_step); stay = (tt, r.stay) }
free t n lead v v' fs fs' all moves = absurd (assumption (all, moves))

-- the word is 0 after the first of them
stays_zero : (t n lead v' : ℕ) (fs fs' : List Phase) → Each (Leaves 0) fs → AllMove t n lead fs 0 fs' v' → v' ≡ 0
stays_zero t n lead v' [] [] all moves = moves
stays_zero t n lead v' (Outside ∷ fs) (f' ∷ fs') all moves = stays_zero t n lead v' fs fs' all.1 moves.1
stays_zero t n lead v' (Leaving zero ∷ fs) (f' ∷ fs') all moves = stays_zero t n lead v' fs fs' all.1 moves.1
stays_zero t n lead v' (Leaving (suc e) ∷ fs) (f' ∷ fs') all moves = absurd (let e = all.0 in omega arith)
stays_zero t n lead v' fs fs' all moves = absurd (assumption (all, moves))

cleared : (t n lead v' : ℕ) (fs fs' : List Phase) → Each (Leaves 0) fs → AllMove t n lead fs (arrived fs) fs' v' → v' ≡ 0
cleared t n lead v' [] [] all moves = moves
cleared t n lead v' (Outside ∷ fs) (f' ∷ fs') all moves = cleared t n lead v' fs fs' all.1 moves.1
cleared t n lead v' (Leaving zero ∷ fs) (f' ∷ fs') all moves = stays_zero t n lead v' fs fs' all.1 moves.1
cleared t n lead v' (Leaving (suc e) ∷ fs) (f' ∷ fs') all moves = absurd (let e = all.0 in omega arith)
cleared t n lead v' fs fs' all moves = absurd (assumption (all, moves))

-- ---- while none leaves

-- in an even cycle each that arrives adds 1, and nobody polls
pub record Grown (t v v' : ℕ) (fs fs' : List Phase) : Type 0 where
  pub size : members fs' ≡ members fs
  pub count : arrived fs' + v ≡ v' + arrived fs
  pub in_step : Each (InStep (t + 1)) fs'
  pub stay : Each Stays fs'

-- one that does neither
grown_by : (t v v' : ℕ) (f f' : Phase) (fs fs' : List Phase) (r : Grown t v v' fs fs')
    → members (f' ∷ fs') ≡ members (f ∷ fs) → arrived (f' ∷ fs') + v ≡ v' + arrived (f ∷ fs) → InStep (t + 1) f' → Stays f'
    → Grown t v v' (f ∷ fs) (f' ∷ fs')
grown_by t v v' f f' fs fs' r a b c d = record { size = a; count = b; in_step = (c, r.in_step); stay = (d, r.stay) }

pub grown : (t n lead v v' : ℕ) (fs fs' : List Phase) → t % 2 ≡ 0 → v + length fs < 2 ^ 32 → Each Stays fs → Each (InStep t) fs → AllMove t n lead fs v fs' v'
    → Grown t v v' fs fs'
grown t n lead v v' [] [] even small stay step moves = record { size = refl; count = omega arith; in_step = tt; stay = tt }
grown t n lead v v' (Outside ∷ fs) (f' ∷ fs') even small stay step moves =
    let r = grown t n lead v v' fs fs' even (omega arith) stay.1 step.1 moves.1 in
    subst (λ f. Grown t v v' (Outside ∷ fs) (f ∷ fs')) (sym moves.0) (grown_by t v v' Outside Outside fs fs' r r.size r.count tt tt)
grown t n lead v v' (Away ∷ fs) (Away ∷ fs') even small stay step moves =
    let r = grown t n lead v v' fs fs' even (omega arith) stay.1 step.1 moves.1 in
    grown_by t v v' Away Away fs fs' r (ap suc r.size) r.count tt tt
grown t n lead v v' (Away ∷ fs) (Coming d ∷ fs') even small stay step moves =
    let r = grown t n lead v v' fs fs' even (omega arith) stay.1 step.1 moves.1 in
    grown_by t v v' Away (Coming d) fs fs' r (ap suc r.size) r.count moves.0 tt
grown t n lead v v' (Coming zero ∷ fs) (f' ∷ fs') even small stay step moves =
    let r = grown t n lead (word_sum v 1) v' fs fs' even (omega arith) stay.1 step.1 moves.1 in
    let count = r.count in
    subst (λ f. Grown t v v' (Coming zero ∷ fs) (f ∷ fs')) (sym moves.0)
    (record { size = ap suc r.size; count = omega arith; in_step = (tt, r.in_step); stay = (tt, r.stay) })
grown t n lead v v' (Coming (suc d) ∷ fs) (f' ∷ fs') even small stay step moves =
    let r = grown t n lead v v' fs fs' even (omega arith) stay.1 step.1 moves.1 in
    let now = step.0 in
    subst (λ f. Grown t v v' (Coming (suc d) ∷ fs) (f ∷ fs')) (sym moves.0)
    (grown_by t v v' (Coming (suc d)) (Coming d) fs fs' r (ap suc r.size) r.count (omega arith) tt)
grown t n lead v v' (Waiting ∷ fs) (f' ∷ fs') even small stay step moves =
    let r = grown t n lead v v' fs fs' even (omega arith) stay.1 step.1 moves.1 in
    let count = r.count in
    let e : f' ≡ Waiting = moves.0 ∙ rw even refl in
    subst (λ f. Grown t v v' (Waiting ∷ fs) (f ∷ fs')) (sym e)
    (grown_by t v v' Waiting Waiting fs fs' r (ap suc r.size) (omega arith) tt tt)
grown t n lead v v' fs fs' even small stay step moves = absurd (assumption (stay, moves))

-- in an odd cycle nobody arrives, and those who poll find that not all are there
polls_on : (t n lead v v' : ℕ) (fs fs' : List Phase) → t % 2 ≡ 1 → v ≢ n → Each Stays fs → Each (InStep t) fs → AllMove t n lead fs v fs' v'
    → Grown t v v' fs fs'
polls_on t n lead v v' [] [] odd few stay step moves = record { size = refl; count = omega arith; in_step = tt; stay = tt }
polls_on t n lead v v' (Outside ∷ fs) (f' ∷ fs') odd few stay step moves =
    let r = polls_on t n lead v v' fs fs' odd few stay.1 step.1 moves.1 in
    subst (λ f. Grown t v v' (Outside ∷ fs) (f ∷ fs')) (sym moves.0) (grown_by t v v' Outside Outside fs fs' r r.size r.count tt tt)
polls_on t n lead v v' (Away ∷ fs) (Away ∷ fs') odd few stay step moves =
    let r = polls_on t n lead v v' fs fs' odd few stay.1 step.1 moves.1 in
    grown_by t v v' Away Away fs fs' r (ap suc r.size) r.count tt tt
polls_on t n lead v v' (Away ∷ fs) (Coming d ∷ fs') odd few stay step moves =
    let r = polls_on t n lead v v' fs fs' odd few stay.1 step.1 moves.1 in
    grown_by t v v' Away (Coming d) fs fs' r (ap suc r.size) r.count moves.0 tt
polls_on t n lead v v' (Coming zero ∷ fs) (f' ∷ fs') odd few stay step moves = absurd (let e = step.0 in omega arith)
polls_on t n lead v v' (Coming (suc d) ∷ fs) (f' ∷ fs') odd few stay step moves =
    let r = polls_on t n lead v v' fs fs' odd few stay.1 step.1 moves.1 in
    let now = step.0 in
    subst (λ f. Grown t v v' (Coming (suc d) ∷ fs) (f ∷ fs')) (sym moves.0)
    (grown_by t v v' (Coming (suc d)) (Coming d) fs fs' r (ap suc r.size) r.count (omega arith) tt)
polls_on t n lead v v' (Waiting ∷ fs) (f' ∷ fs') odd few stay step moves =
    let r = polls_on t n lead v v' fs fs' odd few stay.1 step.1 moves.1 in
    let count = r.count in
    let e : f' ≡ Waiting = moves.0 ∙ rw (odd, ne_eqb v n few) refl in
    subst (λ f. Grown t v v' (Waiting ∷ fs) (f ∷ fs')) (sym e)
    (grown_by t v v' Waiting Waiting fs fs' r (ap suc r.size) (omega arith) tt tt)
polls_on t n lead v v' fs fs' odd few stay step moves = absurd (assumption (stay, moves))

-- each member polls
abbrev pub Waits : Phase → Type 0
Waits Outside = Unit {0}
Waits Waiting = Unit {0}
Waits f = ⊥

at_most : (fs : List Phase) → arrived fs ≤ members fs
at_most [] = omega arith
at_most (Outside ∷ fs) = at_most fs
at_most (Away ∷ fs) = let r = at_most fs in omega arith
at_most (Coming d ∷ fs) = let r = at_most fs in omega arith
at_most (Waiting ∷ fs) = let r = at_most fs in omega arith
at_most (Leaving d ∷ fs) = let r = at_most fs in omega arith

-- none leaves and all have arrived
pub all_wait : (fs : List Phase) → Each Stays fs → arrived fs ≡ members fs → Each Waits fs
all_wait [] stay e = tt
all_wait (Outside ∷ fs) stay e = (tt, all_wait fs stay.1 e)
all_wait (Away ∷ fs) stay e = absurd (let r = at_most fs in omega arith)
all_wait (Coming d ∷ fs) stay e = absurd (let r = at_most fs in omega arith)
all_wait (Waiting ∷ fs) stay e = (tt, all_wait fs stay.1 (omega arith))
all_wait (Leaving d ∷ fs) stay e = absurd stay.0

-- in an odd cycle all of them see it
pub see : (t n lead v v' : ℕ) (fs fs' : List Phase) → t % 2 ≡ 1 → v ≡ n → Each Waits fs → AllMove t n lead fs v fs' v' → Nearer t v v' fs fs' lead
see t n lead v v' [] [] odd all wait moves = record { size = refl; count = refl; same = moves; in_step = tt; leave = tt }
see t n lead v v' (Outside ∷ fs) (f' ∷ fs') odd all wait moves =
    let r = see t n lead v v' fs fs' odd all wait.1 moves.1 in
    subst (λ f. Nearer t v v' (Outside ∷ fs) (f ∷ fs') lead) (sym moves.0)
    (record { size = r.size; count = r.count; same = r.same; in_step = (tt, r.in_step); leave = (tt, r.leave) })
see t n lead v v' (Waiting ∷ fs) (f' ∷ fs') odd all wait moves =
    let r = see t n lead v v' fs fs' odd all wait.1 moves.1 in
    let e : f' ≡ Leaving lead = moves.0 ∙ rw (odd, eq-eqb v n all) refl in
    subst (λ f. Nearer t v v' (Waiting ∷ fs) (f ∷ fs') lead) (sym e)
    (record { size = ap suc r.size; count = ap suc r.count; same = r.same; in_step = (tt, r.in_step); leave = (refl, r.leave) })
see t n lead v v' fs fs' odd all wait moves = absurd (assumption (wait, moves))

-- ---- a cycle

settled_even : (t n lead v v' : ℕ) (fs fs' : List Phase) → v + length fs < 2 ^ 32 → (s : Settled t n v fs) → Each Stays fs → t % 2 ≡ 0
    → AllMove t n lead fs v fs' v' → Settled (t + 1) n v' fs'
settled_even t n lead v v' fs fs' small s stay even moves =
    let r = grown t n lead v v' fs fs' even small stay s.in_step moves in
    let count = r.count in
    let before = s.count in
    record { size = r.size ∙ s.size; count = omega arith; in_step = r.in_step; together = inl r.stay }

settled_few : (t n lead v v' : ℕ) (fs fs' : List Phase) → (s : Settled t n v fs) → Each Stays fs → t % 2 ≡ 1 → v ≢ n
    → AllMove t n lead fs v fs' v' → Settled (t + 1) n v' fs'
settled_few t n lead v v' fs fs' s stay odd few moves =
    let r = polls_on t n lead v v' fs fs' odd few stay s.in_step moves in
    let count = r.count in
    let before = s.count in
    record { size = r.size ∙ s.size; count = omega arith; in_step = r.in_step; together = inl r.stay }

settled_near : (t n lead v v' d : ℕ) (fs fs' : List Phase) → (s : Settled t n v fs) → Nearer t v v' fs fs' d → Settled (t + 1) n v' fs'
settled_near t n lead v v' d fs fs' s r =
    record { size = r.size ∙ s.size; count = r.count ∙ s.count ∙ sym r.same; in_step = r.in_step; together = inr (d, r.leave) }

settled_all : (t n lead v v' : ℕ) (fs fs' : List Phase) → (s : Settled t n v fs) → Each Stays fs → t % 2 ≡ 1 → v ≡ n
    → AllMove t n lead fs v fs' v' → Settled (t + 1) n v' fs'
settled_all t n lead v v' fs fs' s stay odd all moves =
    settled_near t n lead v v' lead fs fs' s (see t n lead v v' fs fs' odd all (all_wait fs stay (s.count ∙ all ∙ sym s.size)) moves)

settled_free : (t n lead v v' : ℕ) (fs fs' : List Phase) → (s : Settled t n v fs) → Each (Leaves 0) fs → AllMove t n lead fs v fs' v' → Settled (t + 1) n v' fs'
settled_free t n lead v v' fs fs' s leave moves =
    let r = free t n lead v v' fs fs' leave moves in
    let zero_after = cleared t n lead v' fs fs' leave (subst (λ k. AllMove t n lead fs k fs' v') (sym s.count) moves) in
    record { size = r.size ∙ s.size; count = r.count ∙ sym zero_after; in_step = r.in_step; together = inl r.stay }

abbrev pub IsParity : ℕ → Type 0
IsParity t = (t % 2 ≡ 0) ⊎ (t % 2 ≡ 1)

pub parity : (t : ℕ) → IsParity t
parity t = grind arith

abbrev pub IsFull : ℕ → ℕ → Type 0
IsFull v n = (v ≡ n) ⊎ (v ≢ n)

pub full : (v n : ℕ) → IsFull v n
full v n = cases_eq v n

kept_by : (t n lead v v' : ℕ) (fs fs' : List Phase) → v + length fs < 2 ^ 32 → (s : Settled t n v fs) → AllMove t n lead fs v fs' v'
    → AreTogether fs → IsParity t → IsFull v n → Settled (t + 1) n v' fs'
kept_by t n lead v v' fs fs' small s moves (inl stay) (inl even) f = settled_even t n lead v v' fs fs' small s stay even moves
kept_by t n lead v v' fs fs' small s moves (inl stay) (inr odd) (inl all) = settled_all t n lead v v' fs fs' s stay odd all moves
kept_by t n lead v v' fs fs' small s moves (inl stay) (inr odd) (inr few) = settled_few t n lead v v' fs fs' s stay odd few moves
kept_by t n lead v v' fs fs' small s moves (inr (zero, leave)) p f = settled_free t n lead v v' fs fs' s leave moves
kept_by t n lead v v' fs fs' small s moves (inr (suc d, leave)) p f =
    settled_near t n lead v v' d fs fs' s (nearer t n lead v v' d fs fs' leave s.in_step moves)

-- so its count and all turns fit a word
arrived_few : (fs : List Phase) → arrived fs ≤ length fs
arrived_few [] = omega arith
arrived_few (Outside ∷ fs) = let r = arrived_few fs in omega arith
arrived_few (Away ∷ fs) = let r = arrived_few fs in omega arith
arrived_few (Coming d ∷ fs) = let r = arrived_few fs in omega arith
arrived_few (Waiting ∷ fs) = let r = arrived_few fs in omega arith
arrived_few (Leaving d ∷ fs) = let r = arrived_few fs in omega arith

pub small : (t n v : ℕ) (fs : List Phase) → length fs < 2 ^ 31 → Settled t n v fs → v + length fs < 2 ^ 32
small t n v fs few s = let count = s.count in let r = arrived_few fs in omega arith

-- a cycle keeps it
pub kept : (t n lead v v' : ℕ) (fs fs' : List Phase) → length fs < 2 ^ 31 → Settled t n v fs → AllMove t n lead fs v fs' v' → Settled (t + 1) n v' fs'
kept t n lead v v' fs fs' few s moves = kept_by t n lead v v' fs fs' (small t n v fs few s) s moves s.together (parity t) (full v n)
