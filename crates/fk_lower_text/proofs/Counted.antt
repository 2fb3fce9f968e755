-- A count of code counts all that is shown of it.
use Rattle.std.proofs.Common.{◌≡◌, ℕ, ◌+◌, ◌-◌, ◌^◌, ◌≤◌, min, List, [], ◌∷◌, ◌++◌, length, refl, ap, arith, length-append}
use Rattle.fk_meaning_forms.specs.Code as c
use Rattle.fk_meaning_forms.specs.Expressions.{Coded, Signature}
use Rattle.fk_layout_walk.specs.Through.{through}
use Rattle.fk_lower.specs.Building as b
use Rattle.fk_lower.specs.Building.{events_of, IsUnbegun}
use Rattle.fk_lower_text.specs.declared.count.Count.{Count}
use Rattle.fk_lower_text.specs.Counting.{count_after, no_mark}

-- so many more, up to the greatest number
record Adds (from : Count) (es : List b.Event) (to : Count) : Type 0 where
  more : from.events ≤ 2 ^ 64 - 1 → to.events ≡ min (from.events + length es) (2 ^ 64 - 1)

nothing : (from : Count) → Adds from [] from
nothing from = record { more = λ h. omega (arith, h) }

abbrev next : Count → Count
next count = record { events = min (count.events + 1) (2 ^ 64 - 1) }

one : (from : Count) (e : b.Event) → Adds from (e ∷ []) (next from)
one from e = record { more = λ h. refl }

both : {from to last : Count} {xs ys : List b.Event} → Adds from xs to → Adds to ys last → Adds from (xs ++ ys) last
both {from = from} {to = to} {last = last} {xs = xs} {ys = ys} x y = record {
  more = λ h.
      let e = x.more h in
      let low : to.events ≤ 2 ^ 64 - 1 = omega (arith, e) in
      let f = y.more low in
      let n = length-append xs ys in
      omega (arith, e, f, n);
}

module _ (functions : (binding : ℕ) → Signature) where
  abbrev past : Count → Coded → Count
  past count code = through count_after no_mark functions count code

  counted : (code : Coded) → IsUnbegun code → (count : Count) → Adds count (events_of code) (past count code)
  counted c.done u count = nothing count
  counted (c.perform t op rest) u count = both (one count (b.Perform op)) (counted rest u _)
  counted (c.choose t op x y rest) u count =
      both (both (both (one count (b.Choose op)) (counted x u.0 _)) (both (one _ b.Aside) (counted y u.1 _)))
      (both (one _ b.Joined) (counted rest u.2 _))
  counted (c.while test body step rest) u count =
      both (both (both (both (one count b.While) (counted test u.0 _)) (both (one _ b.Part) (counted body u.1 _)))
      (both (one _ b.Part) (counted step u.2 _))) (both (one _ b.Behind) (counted rest u.3 _))
  counted (c.until body test rest) u count =
      both (both (both (one count b.Until) (counted body u.0 _)) (both (one _ b.Part) (counted test u.1 _)))
      (both (one _ b.Behind) (counted rest u.2 _))
  counted (c.turn test body step rest) u count = absurd u
  counted (c.again test body step rest) u count = absurd u
  counted (c.quit t op rest) u count = both (one count (b.Quit op)) (counted rest u _)
  counted (c.break rest) u count = both (one count b.Break) (counted rest u _)
  counted (c.continue rest) u count = both (one count b.Continue) (counted rest u _)
  counted (c.call t op f opening rest) u count =
      both (both (one count (b.Call op f)) (counted opening u.0 _)) (both (one _ b.Returned) (counted rest u.1 _))
  counted (c.ends t op rest) u count = both (one count (b.Ends op)) (counted rest u _)

-- a count that has not come to the greatest number is exact
pub exactly : (functions : (binding : ℕ) → Signature) (code : Coded) → IsUnbegun code → (count : Count)
    → count ≡ through count_after no_mark functions (record { events = 0 }) code → (count.events ≡ 2 ^ 64 - 1 → ⊥) → count.events ≡ length (events_of code)
exactly functions code u count e h =
    let start : Count = record { events = 0 } in
    let all = counted functions code u start in
    let m = all.more (omega arith) in
    let n = ap (λ (c : Count). c.events) e in
    omega (arith, m, n, h)
