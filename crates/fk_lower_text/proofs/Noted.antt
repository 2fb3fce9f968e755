-- A visitor with room for them writes down all that is shown of code.
use Rattle.std.proofs.Common.{◌≡◌, ℕ, ◌+◌, ◌≤◌, ◌<◌, Bool, if◌then◌else◌, List, [], ◌∷◌, ◌++◌, length, map, take, refl, ◌∙◌, sym, ap, subst, arith, length-append}
use Rattle.std.proofs.lemmas.List.{append_assoc, append-nil, length-set, map-append, take_more_set}
use Rattle.std.proofs.lemmas.Bool.{lt-ltb}
use Rattle.std.proofs.Math.Seq.{take-length}
use Rattle.fk_meaning_forms.specs.Code as c
use Rattle.fk_meaning_forms.specs.Expressions.{Coded, Signature}
use Rattle.fk_layout_walk.specs.declared.visitor.Event.{Event}
use Rattle.fk_layout_walk.specs.declared.visitor.Event.TheVariants as v
use Rattle.fk_layout_walk.specs.Shown.{shown}
use Rattle.fk_layout_walk.specs.Through.{through}
use Rattle.fk_lower.specs.Building as b
use Rattle.fk_lower.specs.Building.{events_of}
use Rattle.fk_lower.specs.BuilderView.{event_of}
use Rattle.fk_lower.specs.declared.event.CodeEvent.{CodeEvent}
use Rattle.fk_lower_text.specs.declared.noting.Noting.{Noting}
use Rattle.fk_lower_text.specs.Noting.{told, written, noted, noting_after, no_mark}
use Rattle.fk_lower_text.specs.Whole.{IsPlain}

-- what is written
abbrev kept : Noting → List b.Event
kept noting = map event_of (take noting.filled noting.events.items)

-- these more are written
record Adds (from : Noting) (es : List b.Event) (to : Noting) : Type 0 where
  filled : to.filled ≡ from.filled + length es
  room : length to.events.items ≡ length from.events.items
  are : kept to ≡ kept from ++ es

-- where there is room for them
record Notes (from : Noting) (es : List b.Event) (to : Noting) : Type 0 where
  adds : from.filled + length es ≤ length from.events.items → Adds from es to

nothing : (from : Noting) → Notes from [] from
nothing from = record { adds = λ h. record { filled = omega arith; room = refl; are = sym (append-nil (kept from)) } }

both : {from to last : Noting} {xs ys : List b.Event} → Notes from xs to → Notes to ys last → Notes from (xs ++ ys) last
both {from = from} {to = to} {last = last} {xs = xs} {ys = ys} x y = record {
  adds = λ h.
      let n = length-append xs ys in
      let p = x.adds (omega (arith, h, n)) in
      let pf = p.filled in
      let pr = p.room in
      let q = y.adds (omega (arith, h, n, pf, pr)) in
      let qf = q.filled in
      record {
        filled = omega (arith, pf, qf, n);
        room = q.room ∙ p.room;
        are = q.are ∙ ap (λ (front : List b.Event). front ++ ys) p.are ∙ append_assoc (kept from) xs ys;
      };
}

one : (from : Noting) (event : Event) (e : b.Event) → event_of (told event) ≡ e → Notes from (e ∷ []) (noting_after from event)
one from event e same = record {
  adds = λ h.
      let less : from.filled < length from.events.items = omega (arith, h) in
      let x = told event in
      subst (λ (b : Bool). Adds from (e ∷ []) (if b then written from x else from))
      (sym (lt-ltb from.filled (length from.events.items) less))
      (record {
        filled = omega arith;
        room = length-set from.events.items from.filled x;
        are = ap (λ (xs : List CodeEvent). map event_of xs) (take_more_set from.events.items from.filled x less)
            ∙ map-append event_of (take from.filled from.events.items) (x ∷ [])
            ∙ ap (λ (e : b.Event). kept from ++ (e ∷ [])) same;
      });
}

-- one that has room writes down what it is shown
pub writes : (from : Noting) (event : CodeEvent) → from.filled < length from.events.items → written from event ≡ noted from event
writes from event less = ap (λ (b : Bool). if b then written from event else from) (sym (lt-ltb from.filled (length from.events.items) less))

module _ (functions : (binding : ℕ) → Signature) where
  abbrev past : Noting → Coded → Noting
  past noting code = through noting_after no_mark functions noting code

  shows : (code : Coded) → IsPlain code → (noting : Noting) → Notes noting (events_of code) (past noting code)
  shows c.done p noting = nothing noting
  shows (c.perform t op rest) p noting = both (one noting (v.Perform (shown op) t) (b.Perform op) (ap b.Perform p.1.0)) (shows rest (p.0, p.1.1) _)
  shows (c.choose t op x y rest) p noting =
      let first = noting_after noting (v.Choose (shown op) t) in
      let second = past first x in
      let third = past (noting_after second (v.Aside (no_mark first))) y in
      both (both (both (one noting (v.Choose (shown op) t) (b.Choose op) (ap b.Choose p.1.0)) (shows x (p.0.0, p.1.1) first))
      (both (one second (v.Aside (no_mark first)) b.Aside refl) (shows y (p.0.1, p.1.2) _)))
      (both (one third (v.Joined (no_mark noting) (no_mark second)) b.Joined refl) (shows rest (p.0.2, p.1.3) _))
  shows (c.while test body step rest) p noting =
      both (both (both (both (one noting v.While b.While refl) (shows test (p.0.0, p.1.0) _)) (both (one _ v.Part b.Part refl) (shows body (p.0.1, p.1.1) _)))
      (both (one _ v.Part b.Part refl) (shows step (p.0.2, p.1.2) _))) (both (one _ v.Behind b.Behind refl) (shows rest (p.0.3, p.1.3) _))
  shows (c.until body test rest) p noting =
      both (both (both (one noting v.Until b.Until refl) (shows body (p.0.0, p.1.0) _)) (both (one _ v.Part b.Part refl) (shows test (p.0.1, p.1.1) _)))
      (both (one _ v.Behind b.Behind refl) (shows rest (p.0.2, p.1.2) _))
  shows (c.turn test body step rest) p noting = absurd p.0
  shows (c.again test body step rest) p noting = absurd p.0
  shows (c.quit t op rest) p noting = both (one noting (v.Quit (shown op) t) (b.Quit op) (ap b.Quit p.1.0)) (shows rest (p.0, p.1.1) _)
  shows (c.break rest) p noting = both (one noting v.Break b.Break refl) (shows rest p _)
  shows (c.continue rest) p noting = both (one noting v.Continue b.Continue refl) (shows rest p _)
  shows (c.call t op f opening rest) p noting =
      let entered = noting_after noting (v.Call (shown op) t f) in
      both (both (one noting (v.Call (shown op) t f) (b.Call op f) (ap (λ o. b.Call o f) p.1.0)) (shows opening (p.0.0, p.1.1) entered))
      (both (one _ (v.Returned (no_mark entered) (functions f).void) b.Returned refl) (shows rest (p.0.1, p.1.2) _))
  shows (c.ends t op rest) p noting = both (one noting (v.Ends (shown op) t) (b.Ends op) (ap b.Ends p.1.0)) (shows rest (p.0, p.1.1) _)

-- with room for just these, they are all that is written
pub all_noted : (functions : (binding : ℕ) → Signature) (code : Coded) → IsPlain code → (first last : Noting)
    → last ≡ through noting_after no_mark functions first code → first.filled ≡ 0 → length first.events.items ≡ length (events_of code)
    → map event_of last.events.items ≡ events_of code
all_noted functions code p first last e z n =
    let end = through noting_after no_mark functions first code in
    let all = shows functions code p first in
    let a = all.adds (omega (arith, z, n)) in
    let f = a.filled in
    let r = a.room in
    let full : end.filled ≡ length end.events.items = omega (arith, f, r, z, n) in
    ap (λ (noting : Noting). map event_of noting.events.items) e
    ∙ ap (λ (xs : List CodeEvent). map event_of xs) (sym (take-length end.events.items) ∙ ap (λ (k : ℕ). take k end.events.items) (sym full))
    ∙ a.are ∙ ap (λ (k : ℕ). map event_of (take k first.events.items) ++ events_of code) z
