-- Events in their places, and how many operations there are behind each.
use Rattle.std.proofs.Common.{◌≡◌, ℕ, suc, ◌+◌, ◌*◌, ◌^◌, ◌<◌, ◌≤◌, Bool, true, List, [], ◌∷◌, ◌++◌, length, map, drop, get_or, ap, ◌∙◌, refl, arith}
use Rattle.std.proofs.Math.Seq.{drop-cons}
use Rattle.fk_lower.specs.declared.event.CodeEvent.{CodeEvent}
use Rattle.fk_lower.specs.BuilderView.{event_of}
use Rattle.std.specs.List.{count_by}
use Rattle.std.specs.Prelude.{cond}
use Rattle.std.proofs.lemmas.List.Sums.{sum_by-append}
use Rattle.fk_syntax.specs.declared.place.Place.{Place}
use Rattle.fk_meaning_forms.specs.Code as c
use Rattle.fk_meaning_forms.specs.Code.{Code, append, size}
use Rattle.fk_lower.specs.declared.fault.LowerFault.{LowerFault}
use Rattle.fk_lower.specs.declared.fault.LowerFault.TheVariants as v
use Rattle.fk_lower.specs.Building.{Event, Perform, Choose, Aside, Joined, Quit, Call, Returned, Ends, While, Until, Part, Behind, Break, Continue, has_site, events_of, IsUnbegun, IsPlaced, Open, OnwardWay, AsideWay, Test, Body, Step, FirstBody, LastTest, Opening, Building, building, after}
use Rattle.fk_lower.specs.Faults.{IsBuildFault, IsEventFault, size_of_outer, IsFew}

-- all of them are in their places, from what is built on
abbrev pub AllPlaced : Building → List Event → Type 0
AllPlaced b [] = Unit {0}
AllPlaced b (x ∷ xs) = IsPlaced x b.outer × AllPlaced (after b x) xs

size_both : (code more : Code ℕ) → size (append code more) ≡ size code + size more
size_both c.done more = omega arith
size_both (c.perform t op rest) more = omega (arith, size_both rest more)
size_both (c.choose t op a b rest) more = omega (arith, size_both rest more)
size_both (c.while test body step rest) more = omega (arith, size_both rest more)
size_both (c.until body test rest) more = omega (arith, size_both rest more)
size_both (c.turn test body step rest) more = omega (arith, size_both rest more)
size_both (c.again test body step rest) more = omega (arith, size_both rest more)
size_both (c.quit t op rest) more = omega (arith, size_both rest more)
size_both (c.break rest) more = omega (arith, size_both rest more)
size_both (c.continue rest) more = omega (arith, size_both rest more)
size_both (c.call t op f opening rest) more = omega (arith, size_both rest more)
size_both (c.ends t op rest) more = omega (arith, size_both rest more)

-- ---- the operations that are built

abbrev Low : (site : ℕ) → Event → Type 0
Low site x = has_site x ≡ true → 3 * (site + 1) < 2 ^ 32

-- a piece behind what there is
with_piece : (site : ℕ) (outer : List Open) (before piece : Code ℕ) → size before + size piece + size_of_outer outer ≤ site
    → 3 * (size before + size piece + size_of_outer outer) < 2 ^ 32 → IsFew (building site outer (append before piece))
with_piece site outer before piece h k =
    let e = size_both before piece in record { sites = omega (arith, e, h); entries = omega (arith, e, k) }

few : (site : ℕ) (outer : List Open) (code : Code ℕ) (x : Event) → size code + size_of_outer outer ≤ site → 3 * (size code + size_of_outer outer) < 2 ^ 32
    → Low site x → IsFew (after (building site outer code) x)
few site outer code (Perform op) h k low = let l = low refl in with_piece (suc site) outer code (c.perform site op c.done) (omega arith) (omega arith)
few site outer code (Quit op) h k low = let l = low refl in with_piece (suc site) outer code (c.quit site op c.done) (omega arith) (omega arith)
few site outer code (Ends op) h k low = let l = low refl in with_piece (suc site) outer code (c.ends site op c.done) (omega arith) (omega arith)
few site outer code Break h k low = with_piece site outer code (c.break c.done) (omega arith) (omega arith)
few site outer code Continue h k low = with_piece site outer code (c.continue c.done) (omega arith) (omega arith)
few site outer code (Choose op) h k low = let l = low refl in record { sites = omega arith; entries = omega arith }
few site outer code (Call op f) h k low = let l = low refl in record { sites = omega arith; entries = omega arith }
few site outer code While h k low = record { sites = omega arith; entries = omega arith }
few site outer code Until h k low = record { sites = omega arith; entries = omega arith }
few site [] code Aside h k low = record { sites = h; entries = k }
few site (OnwardWay before n op ∷ outer) code Aside h k low = record { sites = omega arith; entries = omega arith }
few site (AsideWay before n op x ∷ outer) code Aside h k low = record { sites = h; entries = k }
few site (Test before ∷ outer) code Aside h k low = record { sites = h; entries = k }
few site (Body before test ∷ outer) code Aside h k low = record { sites = h; entries = k }
few site (Step before test body ∷ outer) code Aside h k low = record { sites = h; entries = k }
few site (FirstBody before ∷ outer) code Aside h k low = record { sites = h; entries = k }
few site (LastTest before body ∷ outer) code Aside h k low = record { sites = h; entries = k }
few site (Opening before n op f ∷ outer) code Aside h k low = record { sites = h; entries = k }
few site [] code Joined h k low = record { sites = h; entries = k }
few site (OnwardWay before n op ∷ outer) code Joined h k low = record { sites = h; entries = k }
few site (AsideWay before n op x ∷ outer) code Joined h k low = with_piece site outer before (c.choose n op x code c.done) (omega arith) (omega arith)
few site (Test before ∷ outer) code Joined h k low = record { sites = h; entries = k }
few site (Body before test ∷ outer) code Joined h k low = record { sites = h; entries = k }
few site (Step before test body ∷ outer) code Joined h k low = record { sites = h; entries = k }
few site (FirstBody before ∷ outer) code Joined h k low = record { sites = h; entries = k }
few site (LastTest before body ∷ outer) code Joined h k low = record { sites = h; entries = k }
few site (Opening before n op f ∷ outer) code Joined h k low = record { sites = h; entries = k }
few site [] code Returned h k low = record { sites = h; entries = k }
few site (OnwardWay before n op ∷ outer) code Returned h k low = record { sites = h; entries = k }
few site (AsideWay before n op x ∷ outer) code Returned h k low = record { sites = h; entries = k }
few site (Test before ∷ outer) code Returned h k low = record { sites = h; entries = k }
few site (Body before test ∷ outer) code Returned h k low = record { sites = h; entries = k }
few site (Step before test body ∷ outer) code Returned h k low = record { sites = h; entries = k }
few site (FirstBody before ∷ outer) code Returned h k low = record { sites = h; entries = k }
few site (LastTest before body ∷ outer) code Returned h k low = record { sites = h; entries = k }
few site (Opening before n op f ∷ outer) code Returned h k low = with_piece site outer before (c.call n op f code c.done) (omega arith) (omega arith)
few site [] code Part h k low = record { sites = h; entries = k }
few site (OnwardWay before n op ∷ outer) code Part h k low = record { sites = h; entries = k }
few site (AsideWay before n op x ∷ outer) code Part h k low = record { sites = h; entries = k }
few site (Test before ∷ outer) code Part h k low = record { sites = omega arith; entries = omega arith }
few site (Body before test ∷ outer) code Part h k low = record { sites = omega arith; entries = omega arith }
few site (Step before test body ∷ outer) code Part h k low = record { sites = h; entries = k }
few site (FirstBody before ∷ outer) code Part h k low = record { sites = omega arith; entries = omega arith }
few site (LastTest before body ∷ outer) code Part h k low = record { sites = h; entries = k }
few site (Opening before n op f ∷ outer) code Part h k low = record { sites = h; entries = k }
few site [] code Behind h k low = record { sites = h; entries = k }
few site (OnwardWay before n op ∷ outer) code Behind h k low = record { sites = h; entries = k }
few site (AsideWay before n op x ∷ outer) code Behind h k low = record { sites = h; entries = k }
few site (Test before ∷ outer) code Behind h k low = record { sites = h; entries = k }
few site (Body before test ∷ outer) code Behind h k low = record { sites = h; entries = k }
few site (Step before test body ∷ outer) code Behind h k low = with_piece site outer before (c.while test body code c.done) (omega arith) (omega arith)
few site (FirstBody before ∷ outer) code Behind h k low = record { sites = h; entries = k }
few site (LastTest before body ∷ outer) code Behind h k low = with_piece site outer before (c.until body code c.done) (omega arith) (omega arith)
few site (Opening before n op f ∷ outer) code Behind h k low = record { sites = h; entries = k }

pub few_after : (b : Building) (x : Event) → IsFew b → Low b.site x → IsFew (after b x)
few_after b x h low = few b.site b.outer b.code x h.sites h.entries low

pub few_at_start : (site : ℕ) → IsFew (building site [] c.done)
few_at_start site = record { sites = omega arith; entries = omega arith }

-- ---- the sites

abbrev one : Bool → ℕ
one b = cond b 1 0

sited : (site : ℕ) (outer : List Open) (code : Code ℕ) (x : Event) → (after (building site outer code) x).site ≡ site + one (has_site x)
sited site outer code (Perform op) = omega arith
sited site outer code (Quit op) = omega arith
sited site outer code (Ends op) = omega arith
sited site outer code Break = omega arith
sited site outer code Continue = omega arith
sited site outer code (Choose op) = omega arith
sited site outer code (Call op f) = omega arith
sited site outer code While = omega arith
sited site outer code Until = omega arith
sited site [] code Aside = omega arith
sited site (OnwardWay before n op ∷ outer) code Aside = omega arith
sited site (AsideWay before n op x ∷ outer) code Aside = omega arith
sited site (Test before ∷ outer) code Aside = omega arith
sited site (Body before test ∷ outer) code Aside = omega arith
sited site (Step before test body ∷ outer) code Aside = omega arith
sited site (FirstBody before ∷ outer) code Aside = omega arith
sited site (LastTest before body ∷ outer) code Aside = omega arith
sited site (Opening before n op f ∷ outer) code Aside = omega arith
sited site [] code Joined = omega arith
sited site (OnwardWay before n op ∷ outer) code Joined = omega arith
sited site (AsideWay before n op x ∷ outer) code Joined = omega arith
sited site (Test before ∷ outer) code Joined = omega arith
sited site (Body before test ∷ outer) code Joined = omega arith
sited site (Step before test body ∷ outer) code Joined = omega arith
sited site (FirstBody before ∷ outer) code Joined = omega arith
sited site (LastTest before body ∷ outer) code Joined = omega arith
sited site (Opening before n op f ∷ outer) code Joined = omega arith
sited site [] code Returned = omega arith
sited site (OnwardWay before n op ∷ outer) code Returned = omega arith
sited site (AsideWay before n op x ∷ outer) code Returned = omega arith
sited site (Test before ∷ outer) code Returned = omega arith
sited site (Body before test ∷ outer) code Returned = omega arith
sited site (Step before test body ∷ outer) code Returned = omega arith
sited site (FirstBody before ∷ outer) code Returned = omega arith
sited site (LastTest before body ∷ outer) code Returned = omega arith
sited site (Opening before n op f ∷ outer) code Returned = omega arith
sited site [] code Part = omega arith
sited site (OnwardWay before n op ∷ outer) code Part = omega arith
sited site (AsideWay before n op x ∷ outer) code Part = omega arith
sited site (Test before ∷ outer) code Part = omega arith
sited site (Body before test ∷ outer) code Part = omega arith
sited site (Step before test body ∷ outer) code Part = omega arith
sited site (FirstBody before ∷ outer) code Part = omega arith
sited site (LastTest before body ∷ outer) code Part = omega arith
sited site (Opening before n op f ∷ outer) code Part = omega arith
sited site [] code Behind = omega arith
sited site (OnwardWay before n op ∷ outer) code Behind = omega arith
sited site (AsideWay before n op x ∷ outer) code Behind = omega arith
sited site (Test before ∷ outer) code Behind = omega arith
sited site (Body before test ∷ outer) code Behind = omega arith
sited site (Step before test body ∷ outer) code Behind = omega arith
sited site (FirstBody before ∷ outer) code Behind = omega arith
sited site (LastTest before body ∷ outer) code Behind = omega arith
sited site (Opening before n op f ∷ outer) code Behind = omega arith

both : (xs ys : List Event) → count_by has_site (xs ++ ys) ≡ count_by has_site xs + count_by has_site ys
both xs ys = sum_by-append _ xs ys

counts : (x : Event) (xs : List Event) → count_by has_site (x ∷ xs) ≡ one (has_site x) + count_by has_site xs
counts x xs =
    let first : count_by has_site (x ∷ []) ≡ 0 + one (has_site x) = refl in
    let more = both (x ∷ []) xs in
    omega (arith, first, more)

pub sites_after : (b : Building) (x : Event) (xs : List Event) (n : ℕ) → b.site + count_by has_site (x ∷ xs) ≡ n → (after b x).site + count_by has_site xs ≡ n
sites_after b x xs n h = omega (arith, sited b.site b.outer b.code x, counts x xs, h)

-- ---- faults

pub fault_at : (site : ℕ) (events : List Event) (b : Building) (x : Event) (xs : List Event) (fault : LowerFault)
    → b.site + count_by has_site (x ∷ xs) ≡ site + count_by has_site events
    → ((code : Code Place) → IsUnbegun code → events_of code ≡ events → AllPlaced b (x ∷ xs))
    → IsEventFault b x fault → IsBuildFault site events fault
fault_at site events b x xs v.TooLong counted placed h =
    let o : one (has_site x) ≡ 1 = ap one h.0 in
    let l = h.1 in
    omega (arith, counts x xs, counted, o, l)
fault_at site events b x xs v.Misplaced counted placed h = λ code w e. h (placed code w e).0
fault_at site events b x xs v.OutOfRange counted placed h = h
fault_at site events b x xs v.Memory counted placed h = tt

-- ---- the events that are left, one after the other

pub one_left : (events : List CodeEvent) (i : ℕ) (d : CodeEvent) → i < length events
    → map event_of (drop i events) ≡ event_of (get_or events i d) ∷ map event_of (drop (i + 1) events)
one_left events i d h =
    let n : suc i ≡ i + 1 = omega arith in
    ap (λ (l : List CodeEvent). map event_of l) (drop-cons events i d h)
    ∙ ap (λ n. event_of (get_or events i d) ∷ map event_of (drop n events)) n
