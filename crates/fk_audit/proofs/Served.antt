-- The touches of a cycle are those of the harts that were served and didn't trap.
use Rattle.std.proofs.Common.{◌≡◌, ℕ, suc, ◌+◌, ◌<◌, ◌≤◌, List, [], ◌∷◌, map, cond, Bool, true, false, ◌&&◌, Option, Some, None, refl, sym, ap, ◌∙◌, arith}
use Rattle.std.proofs.Common.{◌/◌, eq-eqb, ne_eqb, lt-ltb, le-ltb, le-leb}
use Rattle.std.specs.Prelude.{◌==◌, count_by, slice_get}
use Rattle.std.specs.Option.{option_flatten}
use Rattle.std.proofs.Math.Path.{fun_ext}
use Rattle.std.proofs.lemmas.Bool.{lt-leb}
use Rattle.std.proofs.lemmas.List.Sums.{sum_by-cons}
use Rattle.fk_isa.specs.declared.instruction.Instruction.{Instruction}
use Rattle.fk_isa.specs.declared.effect.Effect.TheVariants.{Next, Ended, Fault, Trap}
use Rattle.fk_isa.specs.Step.{HartState, Outcome, After, step as outcome}
use Rattle.fk_machine.specs.declared.place.Location.{Location}
use Rattle.fk_machine.specs.declared.place.Location.TheVariants.{SharedWord, ControlWord, LocalWord, DeviceWord, Nowhere}
use Rattle.fk_machine.specs.declared.stand.Stand.{Stand}
use Rattle.fk_machine.specs.declared.stand.Stand.TheVariants.{Running, Finished, Faulted, Trapped}
use Rattle.fk_machine.specs.Place.{place_of}
use Rattle.fk_machine.specs.Hart.{Hart, Shared, Setting, Effect, Goes, Stops}
use Rattle.fk_machine.specs.Reach.{Reach, tells}
use Rattle.fk_machine.specs.Step.{state_of, reach_of, on_outcome, on_row, on_fetch, step}
use Rattle.fk_machine.specs.Cycle.{Machine, Turns, after_effect, turn, turns, turns_of, no_address, setting_of, unprinted, stand_after, all_ended, is_running, after_turns, cycle}
use Rattle.fk_audit.specs.declared.access.Access.{Access}
use Rattle.fk_audit.specs.declared.access.AccessKind.{AccessKind}
use Rattle.fk_audit.specs.declared.touch.Touch.{Touch}
use Rattle.fk_audit.specs.Access.{is_kind, access_by}
use Rattle.fk_audit.specs.Touch.{touch_at, touch_by, touch_of, with_touch, has_trapped, touches_from}
use Rattle.fk_audit.specs.Clash.{is_of, touching}
use Rattle.fk_audit.specs.Mark.{next_touch, next_touches, is_served, is_counted, counted}

-- ---- who ends a cycle

-- the status names this hart
IsBy : ℕ → Stand → Type 0
IsBy number Running = ⊥
IsBy number Finished = ⊥
IsBy number (Faulted site hart) = hart ≡ number
IsBy number (Trapped hart pc kind) = hart ≡ number

StopsBy : ℕ → Effect → Type 0
StopsBy number (Goes h s) = Unit {0}
StopsBy number (Stops stand) = IsBy number stand

by_outcome : (number : ℕ) (h : Hart) (o : Outcome Reach) → StopsBy number (on_outcome number h o)
unfolding IsBy StopsBy
by_outcome number h (After Next h' r) = tt
by_outcome number h (After Ended h' r) = tt
by_outcome number h (After (Fault site) h' r) = refl
by_outcome number h (After (Trap kind) h' r) = refl

by_row : (t : Setting) (number : ℕ) (r : Option Instruction) (h : Hart) (s : Shared) → StopsBy number (on_row t number r h s)
unfolding IsBy StopsBy
by_row t number None h s = refl
by_row t number (Some i) h s = by_outcome number h (outcome tells number i (state_of h) (reach_of t h s))

by_fetch : (t : Setting) (number : ℕ) (r : Option (Option Instruction)) (h : Hart) (s : Shared) → StopsBy number (on_fetch t number r h s)
unfolding IsBy StopsBy
by_fetch t number None h s = refl
by_fetch t number (Some r) h s = by_row t number r h s

-- a hart that ends the cycle is named
stops_by : (t : Setting) (number : ℕ) (h : Hart) (s : Shared) → StopsBy number (step t number h s)
stops_by t number h s = by_fetch t number (slice_get t.code (h.pc / 4)) h s

-- a hart from this number on has this status
record IsFrom (number : ℕ) (stand : Stand) : Type 0 where
  pub k : ℕ
  pub above : number ≤ k
  pub by : IsBy k stand

-- the cycle goes on, or is ended by a hart from this number on
EndsFrom : ℕ → Option Stand → Type 0
EndsFrom number None = Unit {0}
EndsFrom number (Some stand) = IsFrom number stand

ends_later : (number : ℕ) (stop : Option Stand) → EndsFrom (suc number) stop → EndsFrom number stop
unfolding EndsFrom
ends_later number None ends = tt
ends_later number (Some stand) ends = record { k = ends.k; above = omega (arith, ends.above); by = ends.by }

ends_effect : (number : ℕ) (h : Hart) (hs : List Hart) (others : Shared → Turns) (s : Shared) (e : Effect) → StopsBy number e → ((s' : Shared) → EndsFrom (suc number) (others s').stop)
    → EndsFrom number (after_effect h hs others s e).stop
unfolding EndsFrom StopsBy
ends_effect number h hs others s (Goes h' s') by ends = ends_later number (others s').stop (ends s')
ends_effect number h hs others s (Stops stand) by ends = record { k = number; above = omega arith; by = by }

ends_turn : (b : Bool) (t : Setting) (number : ℕ) (h : Hart) (hs : List Hart) (others : Shared → Turns) (s : Shared) → ((s' : Shared) → EndsFrom (suc number) (others s').stop)
    → EndsFrom number (turn b t number h hs others s).stop
ends_turn true t number h hs others s ends = ends_later number (others s).stop (ends s)
ends_turn false t number h hs others s ends = ends_effect number h hs others s (step t number h s) (stops_by t number h s) ends

ends_from : (t : Setting) (number : ℕ) (hs : List Hart) (s : Shared) → EndsFrom number (turns t number hs s).stop
unfolding EndsFrom
ends_from t number [] s = tt
ends_from t number (h ∷ hs) s = ends_turn h.ended t number h hs (turns t (suc number) hs) s (λ s'. ends_from t (suc number) hs s')

-- ---- counts of touches

-- whether a hart was served and didn't trap, by the status that ended the cycle, if one did
abbrev is_served_by : Option Stand → ℕ → Bool
is_served_by None number = true
is_served_by (Some stand) number = is_served stand number

-- the touches that a test counts, of harts that were served
abbrev served : Option Stand → (Touch → Bool) → Touch → Bool
served stop p t = is_served_by stop t.hart && p t

abbrev count_one : (Touch → Bool) → Option Touch → ℕ
count_one p None = 0
count_one p (Some t) = cond (p t) 1 0

count_with : (p : Touch → Bool) (o : Option Touch) (ts : List Touch) → count_by p (with_touch o ts) ≡ count_one p o + count_by p ts
count_with p None ts = omega arith
count_with p (Some t) ts = sum_by-cons (λ x. cond (p x) 1 0) t ts

both : (a b : Bool) → ◌≡◌ {A = ℕ} (cond (a && b) 1 0) (cond a (cond b 1 0) 0)
both true b = refl
both false b = refl

nothing : (a : Bool) → ◌≡◌ {A = ℕ} 0 (cond a 0 0)
nothing true = refl
nothing false = refl

count_at : (q : ℕ → Bool) (p : Touch → Bool) (number : ℕ) (kind : AccessKind) (place : Location)
    → count_one (λ t. q t.hart && p t) (touch_at number kind place) ≡ cond (q number) (count_one p (touch_at number kind place)) 0
count_at q p number kind (SharedWord word) = both (q number) (p (record { hart = number; word = word; kind = kind }))
count_at q p number kind (ControlWord word) = nothing (q number)
count_at q p number kind (LocalWord word) = nothing (q number)
count_at q p number kind (DeviceWord device) = nothing (q number)
count_at q p number kind Nowhere = nothing (q number)

count_access : (q : ℕ → Bool) (p : Touch → Bool) (number : ℕ) (access : Option Access)
    → count_one (λ t. q t.hart && p t) (touch_by number access) ≡ cond (q number) (count_one p (touch_by number access)) 0
count_access q p number None = nothing (q number)
count_access q p number (Some access) = count_at q p number access.kind (place_of access.address)

-- a hart's touch is its own
count_own : (q : ℕ → Bool) (p : Touch → Bool) (code : List (Option Instruction)) (number : ℕ) (h : HartState)
    → count_one (λ t. q t.hart && p t) (touch_of code number h) ≡ cond (q number) (count_one p (touch_of code number h)) 0
count_own q p code number h = count_access q p number (access_by (option_flatten (slice_get code (h.pc / 4))) h)

-- ---- harts above the one that ended the cycle

not_above : (stand : Stand) (k number : ℕ) → IsBy k stand → k < number → is_served stand number ≡ false
unfolding IsBy
not_above Running k number by above = absurd by
not_above Finished k number by above = absurd by
not_above (Faulted site hart) k number by above = lt-leb number hart (omega arith)
not_above (Trapped hart pc kind) k number by above = le-ltb number hart (omega arith)

none_next : (b : Bool) (stand : Stand) (p : Touch → Bool) (code : List (Option Instruction)) (number : ℕ) (h : HartState) → is_served stand number ≡ false
    → count_one (served (Some stand) p) (cond b None (touch_of code number h)) ≡ 0
none_next true stand p code number h out = refl
none_next false stand p code number h out =
    count_own (is_served stand) p code number h ∙ ap (λ b. cond b (count_one p (touch_of code number h)) 0) out

none_above : (stand : Stand) (p : Touch → Bool) (k : ℕ) → IsBy k stand → (code : List (Option Instruction)) (number : ℕ) (hs : List HartState) → k < number
    → count_by (served (Some stand) p) (next_touches code number hs) ≡ 0
none_above stand p k by code number [] above = refl
none_above stand p k by code number (h ∷ hs) above =
    let first = none_next h.ended stand p code number h (not_above stand k number by above) in
    let rest = none_above stand p k by code (suc number) hs (omega arith) in
    count_with (served (Some stand) p) (next_touch code number h) (next_touches code (suc number) hs) ∙ omega (arith, first, rest)

none_ran : (code : List (Option Instruction)) (stop : Option Stand) (number : ℕ) (hs : List Hart) → touches_from code stop number hs (map no_address hs) ≡ []
none_ran code stop number [] = refl
none_ran code stop number (h ∷ hs) = none_ran code stop (suc number) hs

-- ---- harts below it

is_below : (number : ℕ) (stop : Option Stand) → EndsFrom (suc number) stop → (is_served_by stop number ≡ true) × (has_trapped stop number ≡ false)
unfolding EndsFrom IsBy
is_below number None ends = (refl, refl)
is_below number (Some Running) ends = absurd ends.by
is_below number (Some Finished) ends = absurd ends.by
is_below number (Some (Faulted site hart)) ends = (le-leb number hart (omega (arith, ends.above, ends.by)), refl)
is_below number (Some (Trapped hart pc kind)) ends =
    (lt-ltb number hart (omega (arith, ends.above, ends.by)), ne_eqb hart number (λ e. absurd (omega (arith, e, ends.above, ends.by))))

-- the one that ended it has trapped, or touches what it touches
ended_it : (number : ℕ) (stand : Stand) (n : ℕ) → IsBy number stand → cond (is_served stand number) n 0 ≡ cond (has_trapped (Some stand) number) 0 n
unfolding IsBy
ended_it number Running n by = absurd by
ended_it number Finished n by = absurd by
ended_it number (Faulted site hart) n by = ap (λ b. cond b n 0) (le-leb number hart (omega arith))
ended_it number (Trapped hart pc kind) n by =
    ap (λ b. cond b n 0) (le-ltb number hart (omega arith)) ∙ ap (λ b. cond b 0 n) (sym (eq-eqb hart number by))

unless_trapped : (b : Bool) (p : Touch → Bool) (o : Option Touch) → count_one p (cond b None o) ≡ cond b 0 (count_one p o)
unless_trapped true p o = refl
unless_trapped false p o = refl

-- ---- the touches of turns

-- the touches of harts from a number on, as the turns t say, and as they are collected
AreServed : (Touch → Bool) → List (Option Instruction) → ℕ → List Hart → Turns → Type 0
AreServed p code number hs t =
    count_by (served t.stop p) (next_touches code number (map state_of hs)) ≡ count_by p (touches_from code t.stop number hs t.ran)

served_effect : (p : Touch → Bool) (code : List (Option Instruction)) (number : ℕ) (h : Hart) (hs : List Hart) (others : Shared → Turns) (s : Shared) (e : Effect) → StopsBy number e
    → ((s' : Shared) → EndsFrom (suc number) (others s').stop) → ((s' : Shared) → AreServed p code (suc number) hs (others s'))
    → let t = after_effect h hs others s e in
    count_by (served t.stop p) (with_touch (touch_of code number (state_of h)) (next_touches code (suc number) (map state_of hs))) ≡ count_by p (touches_from code t.stop number (h ∷ hs) t.ran)
unfolding StopsBy AreServed
served_effect p code number h hs others s (Goes h' s') by ends rest =
    let stop = (others s').stop in
    let own = touch_of code number (state_of h) in
    let below = is_below number stop (ends s') in
    let mine : count_one (served stop p) own ≡ count_one p (cond (has_trapped stop number) None own) =
    count_own (is_served_by stop) p code number (state_of h)
    ∙ ap (λ b. cond b (count_one p own) 0) below.0
    ∙ ap (λ b. count_one p (cond b None own)) (sym below.1) in
    let others_are = rest s' in
    count_with (served stop p) own (next_touches code (suc number) (map state_of hs))
    ∙ ap (λ n. n + count_by (served stop p) (next_touches code (suc number) (map state_of hs))) mine
    ∙ ap (λ n. count_one p (cond (has_trapped stop number) None own) + n) others_are
    ∙ sym (count_with p (cond (has_trapped stop number) None own) (touches_from code stop (suc number) hs (others s').ran))
served_effect p code number h hs others s (Stops stand) by ends rest =
    let own = touch_of code number (state_of h) in
    let above = next_touches code (suc number) (map state_of hs) in
    let mine : count_one (served (Some stand) p) own ≡ count_one p (cond (has_trapped (Some stand) number) None own) =
    count_own (is_served stand) p code number (state_of h)
    ∙ ended_it number stand (count_one p own) by
    ∙ sym (unless_trapped (has_trapped (Some stand) number) p own) in
    let none : count_by (served (Some stand) p) above ≡ 0 = none_above stand p number by code (suc number) (map state_of hs) (omega arith) in
    let empty : count_by p (touches_from code (Some stand) (suc number) hs (map no_address hs)) ≡ 0 = ap (count_by p) (none_ran code (Some stand) (suc number) hs) in
    count_with (served (Some stand) p) own above
    ∙ omega (arith, mine, none, empty)
    ∙ sym (count_with p (cond (has_trapped (Some stand) number) None own) (touches_from code (Some stand) (suc number) hs (map no_address hs)))

served_turn : (b : Bool) (p : Touch → Bool) (code : List (Option Instruction)) (t : Setting) (number : ℕ) (h : Hart) (hs : List Hart) (others : Shared → Turns) (s : Shared)
    → ((s' : Shared) → EndsFrom (suc number) (others s').stop) → ((s' : Shared) → AreServed p code (suc number) hs (others s'))
    → let ts = turn b t number h hs others s in
    count_by (served ts.stop p) (with_touch (cond b None (touch_of code number (state_of h))) (next_touches code (suc number) (map state_of hs))) ≡ count_by p (touches_from code ts.stop number (h ∷ hs) ts.ran)
unfolding AreServed
served_turn true p code t number h hs others s ends rest = rest s
served_turn false p code t number h hs others s ends rest =
    served_effect p code number h hs others s (step t number h s) (stops_by t number h s) ends rest

served_turns : (p : Touch → Bool) (code : List (Option Instruction)) (t : Setting) (number : ℕ) (hs : List Hart) (s : Shared) → AreServed p code number hs (turns t number hs s)
unfolding AreServed
served_turns p code t number [] s = refl
served_turns p code t number (h ∷ hs) s =
    served_turn h.ended p code t number h hs (turns t (suc number) hs) s (λ s'. ends_from t (suc number) hs s') (λ s'. served_turns p code t (suc number) hs s')

-- ---- by the status after the cycle

ended_or_not : (b : Bool) (number : ℕ) → is_served (cond b Finished Running) number ≡ true
ended_or_not true number = refl
ended_or_not false number = refl

by_stand : (stop : Option Stand) (hs : List Hart) (number : ℕ) → is_served (stand_after stop hs) number ≡ is_served_by stop number
by_stand None hs number = ended_or_not (all_ended hs) number
by_stand (Some stand) hs number = refl

three : (a b c : Bool) → ((a && b) && c) ≡ (a && (b && c))
three true b c = refl
three false b c = refl

-- what is collected before a cycle, and counted by the status after it, are the touches of the cycle
pub counted_touches : (m : Machine) (kind : AccessKind) (word : ℕ) → is_running m.stand ≡ true → counted (cycle m).stand kind (next_touches m.code 0 (map state_of m.harts)) word ≡ touching kind m word
unfolding AreServed
counted_touches m kind word running =
    let t = turns_of m in
    let collected = next_touches m.code 0 (map state_of m.harts) in
    let stand : (cycle m).stand ≡ stand_after t.stop t.harts = ap (λ b. (cond b (after_turns m t) m).stand) running in
    let test : (λ (x : Touch). is_counted (stand_after t.stop t.harts) kind x && (x.word == word)) ≡ served t.stop (is_of kind word) =
    fun_ext (λ x. three (is_served (stand_after t.stop t.harts) x.hart) (is_kind kind x.kind) (x.word == word) ∙ ap (λ b. b && is_of kind word x) (by_stand t.stop t.harts x.hart)) in
    ap (λ st. counted st kind collected word) stand
    ∙ ap (λ p. count_by p collected) test
    ∙ served_turns (is_of kind word) m.code (setting_of m) 0 m.harts (unprinted m.shared)
