use Rattle.std.proofs.Common.{◌≡◌, Bool, true, false, inl, inr, refl, sym, arith}
use Rattle.std.specs.Prelude.{nat_le, nat_lt}
use Rattle.std.specs.Bool.{OnFalse, OnTrue}
use Rattle.std.proofs.lemmas.Bool.{leb-false, leb-true, ltb-false, ltb-true}
use Rattle.fk_check_rules.specs.Least.{IsNoLater}
use Rattle.fk_check_rules.proofs.fault.Fault.is_no_later.Goals as goal

on_true : (b : Bool) (P : Type 0) → (b ≡ true → P) → OnTrue b P
on_true true P h = h refl
on_true false P h = tt

on_false : (b : Bool) (P : Type 0) → (b ≡ false → P) → OnFalse b P
on_false true P h = tt
on_false false P h = h refl

pub returns-then-self-other-clause-yes : goal.returns-then-self-other-clause-yes
returns-then-self-other-clause-yes c =
    let f = c.args.self.now in
    let g = c.args.other.now in
    on_true (nat_lt f.place.line g.place.line) (IsNoLater f g) (λ t. inl (ltb-true f.place.line g.place.line t))

pub returns-then-self-other-clause-no : goal.returns-then-self-other-clause-no
returns-then-self-other-clause-no c =
    let f = c.args.self.now in
    let g = c.args.other.now in
    on_false (nat_lt f.place.line g.place.line) (IsNoLater g f) (λ t. inl (omega (arith, ltb-false f.place.line g.place.line t, c.if-self-other.true)))

pub returns-then-self-other-2-clause-yes : goal.returns-then-self-other-2-clause-yes
returns-then-self-other-2-clause-yes c =
    let f = c.args.self.now in
    let g = c.args.other.now in
    on_true (nat_lt f.place.column g.place.column) (IsNoLater f g) (λ t. inr (c.if-self-other.false, inl (ltb-true f.place.column g.place.column t)))

pub returns-then-self-other-2-clause-no : goal.returns-then-self-other-2-clause-no
returns-then-self-other-2-clause-no c =
    let f = c.args.self.now in
    let g = c.args.other.now in
    on_false (nat_lt f.place.column g.place.column) (IsNoLater g f)
    (λ t. inr (sym c.if-self-other.false, inl (omega (arith, ltb-false f.place.column g.place.column t, c.if-self-other-2.true))))

pub returns-clause-yes : goal.returns-clause-yes
returns-clause-yes c =
    on_true (nat_le c.number.result c.number-2.result) (IsNoLater c.args.self.now c.args.other.now)
    (λ t. inr (c.if-self-other.false, inr (c.if-self-other-2.false, omega (arith, leb-true c.number.result c.number-2.result t, c.number.ensures, c.number-2.ensures))))

pub returns-clause-no : goal.returns-clause-no
returns-clause-no c =
    on_false (nat_le c.number.result c.number-2.result) (IsNoLater c.args.other.now c.args.self.now)
    (λ t. inr (sym c.if-self-other.false, inr (sym c.if-self-other-2.false, omega (arith, leb-false c.number.result c.number-2.result t, c.number.ensures, c.number-2.ensures))))
