-- A round of requests.
use Rattle.std.proofs.Common.{◌≡◌, ℕ, suc, ◌+◌, ◌<◌, ◌≤◌, List, [], ◌∷◌, length, Bool, true, false, Option, Some, None, ap, subst, sym, ◌∙◌, arith, refl}
use Rattle.fk_num.specs.Word.{word_sum}
use Rattle.fk_meaning_store.specs.Store.{Store}
use Rattle.fk_meaning_store.specs.Serve.{Served}
use Rattle.fk_sim_heap.specs.Count.{added_by, is_past}
use Rattle.fk_sim_heap.specs.Shows.{and_full, number_full, ShowsTop, AllHire, AllCount}
use Rattle.fk_sim_heap.specs.Laws.{RoundsAreCounted}
use Rattle.fk_sim_heap.proofs.Requests.{requests_are_counted}

-- with harts before them that have noted that the heap is full
others_first : (f g : Bool) (n : ℕ) → and_full f (and_full g n) ≡ and_full g (and_full f n)
others_first true true n = refl
others_first true false n = refl
others_first false true n = refl
others_first false false n = refl

-- how many there are, with those of a list
abbrev pub beside : (others : ℕ) → List Bool → ℕ
beside others [] = others
beside others (f ∷ fs) = beside (and_full f others) fs

pub beside_and : (f : Bool) (others : ℕ) (fs : List Bool) → beside (and_full f others) fs ≡ and_full f (beside others fs)
beside_and f others [] = refl
beside_and f others (g ∷ gs) = ap (λ n. beside n gs) (others_first g f others) ∙ beside_and f (and_full g others) gs

pub beside_few : (others : ℕ) (fs : List Bool) → beside others fs ≤ others + length fs
beside_few others [] = omega arith
beside_few others (true ∷ fs) =
    let le = beside_few (suc others) fs in
    let e : beside others (true ∷ fs) ≡ beside (suc others) fs = refl in
    omega arith
beside_few others (false ∷ fs) =
    let le = beside_few others fs in
    let e : beside others (false ∷ fs) ≡ beside others fs = refl in
    omega arith

pub and_few : (f : Bool) (others n : ℕ) → others + suc n ≤ 1024 → and_full f others + n ≤ 1024
and_few true others n le = let f : suc others + n ≤ 1024 = omega arith in f
and_few false others n le = let f : others + n ≤ 1024 = omega arith in f

pub number_is : (fs : List Bool) → beside 0 fs ≡ number_full fs
number_is [] = refl
number_is (f ∷ fs) = beside_and f 0 fs ∙ ap (and_full f) (number_is fs)

pub record HaveHired (first count' : ℕ) (others : ℕ) (full' : List Bool) (asks : List (Option ℕ)) (answers : List ℕ) (s : Store) : Type 0 where
  pub store : Store
  pub hire : AllHire asks s answers store
  pub shows : ShowsTop first store.top count' (beside others full')

round_by : (first count count' others : ℕ) (full : List Bool) (asks : List (Option ℕ)) (answers : List ℕ) (full' : List Bool) (s : Store) → 0 < first
    → others + length full ≤ 1024 → ShowsTop first s.top count (beside others full) → AllCount first count full asks answers count' full'
    → HaveHired first count' others full' asks answers s
round_by first count count' others [] [] [] [] s begins few shows all =
    record { store = s; hire = refl; shows = subst (λ n. ShowsTop first s.top n others) (sym all) shows }
round_by first count count' others (f ∷ fs) (None ∷ asks) answers (f' ∷ fs') s begins few shows all =
    let rest = round_by first count count' (and_full f others) fs asks answers fs' s begins (and_few f others (length fs) few) shows all.1 in
    record {
      store = rest.store;
      hire = rest.hire;
      shows = subst (λ b. ShowsTop first rest.store.top count' (beside (and_full b others) fs')) (sym all.0) rest.shows;
    }
round_by first count count' others (f ∷ fs) (Some words ∷ asks) (answer ∷ answers) (f' ∷ fs') s begins few shows all =
    let one = requests_are_counted first count (beside others fs) words f s begins (let le = beside_few others fs in let most : others + suc (length fs) ≤ 1024 = few in omega arith) (subst (ShowsTop first s.top count) (beside_and f others fs) shows) in
    let past = is_past first (word_sum count (added_by f words)) in
    let next = record s { top = one.top } in
    let rest = round_by first (word_sum count (added_by f words)) count' (and_full past others) fs asks answers fs' next begins (and_few past others (length fs) few)
    (subst (ShowsTop first one.top (word_sum count (added_by f words))) (sym (beside_and past others fs)) one.shows) all.2 in
    record {
      store = rest.store;
      hire = (next, one.served ∙ ap (Served next) (sym all.0), rest.hire);
      shows = subst (λ b. ShowsTop first rest.store.top count' (beside (and_full b others) fs')) (sym all.1) rest.shows;
    }
round_by first count count' others full asks answers full' s begins few shows all = absurd (assumption all)

pub rounds_are_counted : RoundsAreCounted
rounds_are_counted first count count' full full' asks answers s begins few shows all =
    let done = round_by first count count' 0 full asks answers full' s begins (omega arith) (subst (ShowsTop first s.top count) (sym (number_is full)) shows) all in
    (done.store, done.hire, subst (ShowsTop first done.store.top count') (number_is full') done.shows)
