-- The turn of the first hart, and those of the others.
use Rattle.std.proofs.Common.{◌≡◌, ℕ, suc, ◌+◌, ◌-◌, ◌*◌, ◌≤◌, List, [], ◌∷◌, ◌++◌, length, take, drop, map, get_or, length-drop, length-take-le, add-one, Option, Some, None, true, false, refl, sym, ap, subst, ◌∙◌, arith, append-nil}
use Rattle.std.specs.Prelude.{slice_index, slice_set}
use Rattle.std.proofs.Math.Path.{fun_ext}
use Rattle.std.proofs.lemmas.List.{drop-drop, drop_all, take_all, take-take, take-append-le}
use Rattle.std.proofs.Math.Seq.{take-append_seam, drop-append_seam}
use borrow.Rule.Slice.PartMut.{put_mid}
use Rattle.fk_num.specs.Word.{Memory}
use Rattle.fk_machine.specs.declared.hart.TrackedHart.{TrackedHart}
use Rattle.fk_machine.specs.declared.stand.Stand.{Stand}
use Rattle.fk_machine.specs.Hart.{Hart, Shared, Setting, Goes, Stops}
use Rattle.fk_machine.specs.Step.{step}
use Rattle.fk_machine.specs.Cycle.{Turns, before, no_address, after_effect, turn, turns}
use Rattle.fk_machine.specs.View.{hart_of, harts_of, local_of, ran_of, unserved}
use Rattle.fk_machine.specs.Does.{TurnsGive}

-- Lists

-- what is written to the end of a list
pub put_end : {X : Type 0} (a : ℕ) (xs ys : List X) → a ≤ length xs → put_mid a (length xs - a) xs ys ≡ take a xs ++ ys
put_end a xs ys le =
    let none : drop (length xs - a) (drop a xs) ≡ [] = drop-drop (length xs - a) a xs ∙ drop_all (a + (length xs - a)) xs (omega arith) in
    ap (λ l. take a xs ++ (ys ++ l)) none ∙ ap (λ l. take a xs ++ l) (append-nil ys)

take-longer : {X : Type 0} (a b : ℕ) (xs ys : List X) → a ≤ b → b ≤ length xs → take a (take b xs ++ ys) ≡ take a xs
take-longer a b xs ys le in_xs =
    let len = length-take-le b xs in_xs in
    take-append-le a (take b xs) ys (omega (arith, len, le)) ∙ take-take a b xs le

take-front : {X : Type 0} (n : ℕ) (xs ys : List X) → length xs ≡ n → take n (xs ++ ys) ≡ xs
take-front n xs ys e = ap (λ k. take k (xs ++ ys)) (sym e) ∙ take-append_seam xs ys

drop-front : {X : Type 0} (n : ℕ) (xs ys : List X) → length xs ≡ n → drop n (xs ++ ys) ≡ ys
drop-front n xs ys e = ap (λ k. drop k (xs ++ ys)) (sym e) ∙ drop-append_seam xs ys

-- Views

-- the harts above the first one, whose memory is at the front
abbrev pub above : List TrackedHart → List ℕ → List Hart
above others xs = harts_of 0 others (local_of (drop 32784 xs))

harts_of-next : (n : ℕ) (hs : List TrackedHart) (w : ℕ → Memory) → harts_of (suc n) hs w ≡ harts_of n hs (λ k. w (suc k))
harts_of-next n [] w = refl
harts_of-next n (h ∷ hs) w = ap (λ l. hart_of h.state (w (suc n)) ∷ l) (harts_of-next (suc n) hs w)

local_of-next : (xs : List ℕ) (n : ℕ) → local_of xs (suc n) ≡ local_of (drop 32784 xs) n
local_of-next xs n =
    let size : 32784 * suc n + 32768 - 32784 * suc n ≡ 32784 * n + 32768 - 32784 * n = omega arith in
    let start : 32784 * suc n ≡ 32784 + 32784 * n = omega arith in
    ap (λ k. slice_index (take k (drop (32784 * suc n) xs))) size
    ∙ ap (λ l. slice_index (take (32784 * n + 32768 - 32784 * n) l)) (ap (λ k. drop k xs) start ∙ sym (drop-drop (32784 * n) 32784 xs))

pub harts_of-cons : (h : TrackedHart) (others : List TrackedHart) (xs : List ℕ) → harts_of 0 (h ∷ others) (local_of xs) ≡ hart_of h.state (local_of xs 0) ∷ above others xs
harts_of-cons h others xs =
    ap (λ l. hart_of h.state (local_of xs 0) ∷ l) (harts_of-next 0 others (local_of xs) ∙ ap (harts_of 0 others) (fun_ext (local_of-next xs)))

-- the memory of the first hart is written
own_front : (xs own : List ℕ) → length own ≡ 32768 → local_of (own ++ drop 32768 xs) 0 ≡ slice_index own
own_front xs own len = ap slice_index (take-front 32768 own (drop 32768 xs) len)

own_above : (xs own : List ℕ) → length own ≡ 32768 → drop 32784 (own ++ drop 32768 xs) ≡ drop 32784 xs
own_above xs own len =
    sym (drop-drop 16 32768 (own ++ drop 32768 xs)) ∙ ap (drop 16) (drop-front 32768 own (drop 32768 xs) len) ∙ drop-drop 16 32768 xs

-- harts that are not served stay as they are, and have run nothing
harts_of-unserved : (n : ℕ) (hs : List TrackedHart) (w : ℕ → Memory) → harts_of n (map unserved hs) w ≡ harts_of n hs w
harts_of-unserved n [] w = refl
harts_of-unserved n (h ∷ hs) w = ap (λ l. hart_of h.state (w n) ∷ l) (harts_of-unserved (suc n) hs w)

ran_of-unserved : (n : ℕ) (hs : List TrackedHart) (w : ℕ → Memory) → map no_address (harts_of n hs w) ≡ ran_of (map unserved hs)
ran_of-unserved n [] w = refl
ran_of-unserved n (h ∷ hs) w = ap (λ l. None ∷ l) (ran_of-unserved (suc n) hs w)

-- Turns

-- the first hart h has had its turn, and the turns of the others follow
pub record Turned (t : Setting) (n : ℕ) (whole : Turns) (h : TrackedHart) (others : List TrackedHart) (xs : List ℕ) (s : Shared) : Type 0 where
  pub is : whole ≡ before (hart_of h.state (local_of xs 0)) h.ran (turns t (suc n) (above others xs) s)

-- it has gone on
pub goes_first : (t : Setting) (n : ℕ) (h h' : TrackedHart) (others : List TrackedHart) (xs own : List ℕ) (s s' : Shared) → length own ≡ 32768 → h.state.ended ≡ false → h'.ran ≡ Some h.state.pc → step t n (hart_of h.state (slice_index (take 32768 xs))) s ≡ Goes (hart_of h'.state (slice_index own)) s' → Turned t n (turns t n (harts_of 0 (h ∷ others) (local_of xs)) s) h' others (own ++ drop 32768 xs) s'
goes_first t n h h' others xs own s s' len live ran e =
    let g = hart_of h.state (slice_index (take 32768 xs)) in
    let rest = turns t (suc n) (above others xs) in
    record {
      is =
          ap (λ l. turns t n l s) (harts_of-cons h others xs)
          ∙ ap (λ b. turn b t n g (above others xs) rest s) live
          ∙ ap (after_effect g (above others xs) rest s) e
          ∙ ap (λ a. before (hart_of h'.state (slice_index own)) a (rest s')) (sym ran)
          ∙ ap (λ m. before (hart_of h'.state m) h'.ran (rest s')) (sym (own_front xs own len))
          ∙ ap (λ l. before (hart_of h'.state (local_of (own ++ drop 32768 xs) 0)) h'.ran (turns t (suc n) (harts_of 0 others (local_of l)) s')) (sym (own_above xs own len));
    }

-- it has ended, and is passed by
pub passes_first : (t : Setting) (n : ℕ) (h h' : TrackedHart) (others : List TrackedHart) (xs : List ℕ) (s : Shared) → h.state.ended ≡ true → h'.state ≡ h.state → h'.ran ≡ None → Turned t n (turns t n (harts_of 0 (h ∷ others) (local_of xs)) s) h' others xs s
passes_first t n h h' others xs s ended same ran =
    let g = hart_of h.state (local_of xs 0) in
    let rest = turns t (suc n) (above others xs) in
    record {
      is =
          ap (λ l. turns t n l s) (harts_of-cons h others xs)
          ∙ ap (λ b. turn b t n g (above others xs) rest s) ended
          ∙ ap (λ a. before g a (rest s)) (sym ran)
          ∙ ap (λ state. before (hart_of state (local_of xs 0)) h'.ran (rest s)) (sym same);
    }

-- it has ended the machine, and nothing has changed
pub stops_first : (t : Setting) (n : ℕ) (h h' : TrackedHart) (others : List TrackedHart) (xs own : List ℕ) (s s' : Shared) (stand : Stand) → length own ≡ 32768 → h.state.ended ≡ false → h'.ran ≡ Some h.state.pc → step t n (hart_of h.state (slice_index (take 32768 xs))) s ≡ Stops stand → hart_of h'.state (slice_index own) ≡ hart_of h.state (slice_index (take 32768 xs)) → s' ≡ s → TurnsGive (turns t n (harts_of 0 (h ∷ others) (local_of xs)) s) (Some stand) (harts_of 0 (h' ∷ map unserved others) (local_of (own ++ drop 32768 xs))) (ran_of (h' ∷ map unserved others)) s'
stops_first t n h h' others xs own s s' stand len live ran e same_hart same =
    let g = hart_of h.state (slice_index (take 32768 xs)) in
    let rest = turns t (suc n) (above others xs) in
    let whole =
    ap (λ l. turns t n l s) (harts_of-cons h others xs) ∙ ap (λ b. turn b t n g (above others xs) rest s) live ∙ ap (after_effect g (above others xs) rest s) e in
    let harts : harts_of 0 (h' ∷ map unserved others) (local_of (own ++ drop 32768 xs)) ≡ g ∷ above others xs =
    harts_of-cons h' (map unserved others) (own ++ drop 32768 xs)
    ∙ ap (λ m. hart_of h'.state m ∷ above (map unserved others) (own ++ drop 32768 xs)) (own_front xs own len)
    ∙ ap (λ l. hart_of h'.state (slice_index own) ∷ harts_of 0 (map unserved others) (local_of l)) (own_above xs own len)
    ∙ ap (λ l. hart_of h'.state (slice_index own) ∷ l) (harts_of-unserved 0 others (local_of (drop 32784 xs)))
    ∙ ap (λ k. k ∷ above others xs) same_hart in
    record {
      harts_are = ap (λ (w : Turns). w.harts) whole ∙ sym harts;
      ran_are =
          ap (λ (w : Turns). w.ran) whole
          ∙ ap (λ l. Some h.state.pc ∷ l) (ran_of-unserved 0 others (local_of (drop 32784 xs)))
          ∙ ap (λ a. a ∷ ran_of (map unserved others)) (sym ran);
      shared_is = ap (λ (w : Turns). w.shared) whole ∙ sym same;
      stop_is = ap (λ (w : Turns). w.stop) whole;
    }

-- the others have taken theirs
pub joined : (t : Setting) (n : ℕ) (whole : Turns) (h : TrackedHart) (others others' : List TrackedHart) (xs ys : List ℕ) (s s' : Shared) (stop : Option Stand) → Turned t n whole h others xs s → 32784 ≤ length xs → TurnsGive (turns t (suc n) (above others xs) s) stop (harts_of 0 others' (local_of ys)) (ran_of others') s' → TurnsGive whole stop (harts_of 0 (h ∷ others') (local_of (take 32784 xs ++ ys))) (ran_of (h ∷ others')) s'
joined t n whole h others others' xs ys s s' stop turned long g =
    let front : local_of (take 32784 xs ++ ys) 0 ≡ local_of xs 0 = ap slice_index (take-longer 32768 32784 xs ys (omega arith) long) in
    let back : drop 32784 (take 32784 xs ++ ys) ≡ ys = drop-front 32784 (take 32784 xs) ys (length-take-le 32784 xs long) in
    let harts : harts_of 0 (h ∷ others') (local_of (take 32784 xs ++ ys)) ≡ hart_of h.state (local_of xs 0) ∷ harts_of 0 others' (local_of ys) =
    harts_of-cons h others' (take 32784 xs ++ ys)
    ∙ ap (λ m. hart_of h.state m ∷ above others' (take 32784 xs ++ ys)) front
    ∙ ap (λ l. hart_of h.state (local_of xs 0) ∷ harts_of 0 others' (local_of l)) back in
    record {
      harts_are = ap (λ (w : Turns). w.harts) turned.is ∙ ap (λ l. hart_of h.state (local_of xs 0) ∷ l) g.harts_are ∙ sym harts;
      ran_are = ap (λ (w : Turns). w.ran) turned.is ∙ ap (λ l. h.ran ∷ l) g.ran_are;
      shared_is = ap (λ (w : Turns). w.shared) turned.is ∙ g.shared_is;
      stop_is = ap (λ (w : Turns). w.stop) turned.is ∙ g.stop_is;
    }

-- Turns of lists of harts

-- the first of these harts has had its turn
pub record Begun (t : Setting) (n : ℕ) (whole : Turns) (hs : List TrackedHart) (xs : List ℕ) (s : Shared) : Type 0 where
  pub first : TrackedHart
  pub others : List TrackedHart
  pub are : hs ≡ first ∷ others
  pub turned : Turned t n whole first others xs s

pub goes_on : (t : Setting) (n : ℕ) (hs : List TrackedHart) (d h' : TrackedHart) (xs own : List ℕ) (s s' : Shared) → 1 ≤ length hs → length own ≡ 32768 → (get_or hs 0 d).state.ended ≡ false → h'.ran ≡ Some (get_or hs 0 d).state.pc → step t n (hart_of (get_or hs 0 d).state (slice_index (take 32768 xs))) s ≡ Goes (hart_of h'.state (slice_index own)) s' → Begun t n (turns t n (harts_of 0 hs (local_of xs)) s) (slice_set hs 0 h') (own ++ drop 32768 xs) s'
goes_on t n [] d h' xs own s s' some len live ran e = absurd (omega (arith, some))
goes_on t n (h ∷ hs) d h' xs own s s' some len live ran e = record { first = h'; others = hs; are = refl; turned = goes_first t n h h' hs xs own s s' len live ran e }

pub is_passed : (t : Setting) (n : ℕ) (hs : List TrackedHart) (d h' : TrackedHart) (xs : List ℕ) (s : Shared) → 1 ≤ length hs → (get_or hs 0 d).state.ended ≡ true → h'.state ≡ (get_or hs 0 d).state → h'.ran ≡ None → Begun t n (turns t n (harts_of 0 hs (local_of xs)) s) (slice_set hs 0 h') xs s
is_passed t n [] d h' xs s some ended same ran = absurd (omega (arith, some))
is_passed t n (h ∷ hs) d h' xs s some ended same ran = record { first = h'; others = hs; are = refl; turned = passes_first t n h h' hs xs s ended same ran }

-- what is passed over above the first hart
rest-unserved : (h : TrackedHart) (hs : List TrackedHart) → put_mid 1 (length (h ∷ hs) - 1) (h ∷ hs) (map unserved (take (length (h ∷ hs) - 1) (drop 1 (h ∷ hs)))) ≡ h ∷ map unserved hs
rest-unserved h hs =
    let n : length (h ∷ hs) - 1 ≡ length hs = omega arith in
    put_end 1 (h ∷ hs) (map unserved (take (length (h ∷ hs) - 1) hs)) (omega arith)
    ∙ ap (λ k. h ∷ map unserved (take k hs)) n
    ∙ ap (λ l. h ∷ map unserved l) (take_all (length hs) hs (omega arith))

pub is_stopped : (t : Setting) (n : ℕ) (hs : List TrackedHart) (d h' : TrackedHart) (xs own : List ℕ) (s s' : Shared) (stand : Stand) → 1 ≤ length hs → length own ≡ 32768 → (get_or hs 0 d).state.ended ≡ false → h'.ran ≡ Some (get_or hs 0 d).state.pc → step t n (hart_of (get_or hs 0 d).state (slice_index (take 32768 xs))) s ≡ Stops stand → hart_of h'.state (slice_index own) ≡ hart_of (get_or hs 0 d).state (slice_index (take 32768 xs)) → s' ≡ s
    → (rest : List TrackedHart) → rest ≡ map unserved (take (length (slice_set hs 0 h') - 1) (drop 1 (slice_set hs 0 h')))
    → TurnsGive (turns t n (harts_of 0 hs (local_of xs)) s) (Some stand) (harts_of 0 (put_mid 1 (length (slice_set hs 0 h') - 1) (slice_set hs 0 h') rest) (local_of (own ++ drop 32768 xs))) (ran_of (put_mid 1 (length (slice_set hs 0 h') - 1) (slice_set hs 0 h') rest)) s'
is_stopped t n [] d h' xs own s s' stand some len live ran e same_hart same rest is = absurd (omega (arith, some))
is_stopped t n (h ∷ hs) d h' xs own s s' stand some len live ran e same_hart same rest is =
    let given = stops_first t n h h' hs xs own s s' stand len live ran e same_hart same in
    let end = ap (put_mid 1 (length (h' ∷ hs) - 1) (h' ∷ hs)) is ∙ rest-unserved h' hs in
    subst (λ l. TurnsGive (turns t n (harts_of 0 (h ∷ hs) (local_of xs)) s) (Some stand) (harts_of 0 l (local_of (own ++ drop 32768 xs))) (ran_of l) s') (sym end) given

-- the turns of those above the first one complete them
pub completed : (t : Setting) (n : ℕ) (whole : Turns) (hs hs' : List TrackedHart) (xs xs' : List ℕ) (s s' : Shared) (stop : Option Stand) → Begun t n whole hs xs s → 32784 ≤ length xs → TurnsGive (turns t (n + 1) (harts_of 0 (take (length hs - 1) (drop 1 hs)) (local_of (take (length xs - 32784) (drop 32784 xs)))) s) stop (harts_of 0 hs' (local_of xs')) (ran_of hs') s' → TurnsGive whole stop (harts_of 0 (put_mid 1 (length hs - 1) hs hs') (local_of (put_mid 32784 (length xs - 32784) xs xs'))) (ran_of (put_mid 1 (length hs - 1) hs hs')) s'
completed t n whole hs hs' xs xs' s s' stop b long g =
    let some : 1 ≤ length hs = omega (arith, ap length b.are) in
    let len : length hs ≡ suc (length b.others) = ap length b.are in
    let others : take (length hs - 1) (drop 1 hs) ≡ b.others =
    ap (λ l. take (length hs - 1) (drop 1 l)) b.are ∙ take_all (length hs - 1) b.others (omega (arith, len)) in
    let memories : take (length xs - 32784) (drop 32784 xs) ≡ drop 32784 xs = take_all (length xs - 32784) (drop 32784 xs) (omega (arith, length-drop 32784 xs)) in
    let a = subst (λ l. TurnsGive (turns t (n + 1) (harts_of 0 l (local_of (take (length xs - 32784) (drop 32784 xs)))) s) stop (harts_of 0 hs' (local_of xs')) (ran_of hs') s') others g in
    let c = subst (λ l. TurnsGive (turns t (n + 1) (harts_of 0 b.others (local_of l)) s) stop (harts_of 0 hs' (local_of xs')) (ran_of hs') s') memories a in
    let d = subst (λ k. TurnsGive (turns t k (above b.others xs) s) stop (harts_of 0 hs' (local_of xs')) (ran_of hs') s') (add-one n) c in
    let j = joined t n whole b.first b.others hs' xs xs' s s' stop b.turned long d in
    let harts : put_mid 1 (length hs - 1) hs hs' ≡ b.first ∷ hs' = put_end 1 hs hs' some ∙ ap (λ l. take 1 l ++ hs') b.are in
    let e = subst (λ l. TurnsGive whole stop (harts_of 0 (b.first ∷ hs') (local_of l)) (ran_of (b.first ∷ hs')) s') (sym (put_end 32784 xs xs' long)) j in
    subst (λ l. TurnsGive whole stop (harts_of 0 l (local_of (put_mid 32784 (length xs - 32784) xs xs'))) (ran_of l) s') (sym harts) e
