use Rattle.std.proofs.Common.{◌≡◌, ℕ, List, Option, None, subst, sym}
use Rattle.std.proofs.lemmas.Bool.{eqb-true, eq-eqb}
use Rattle.fk_replay_steps.specs.Pace.{since}
use Rattle.fk_replay_steps.proofs.Counted.{none_since, all_since}
use Rattle.fk_replay_steps.proofs.pace.Pace.is_idle.Goals as goal

pub returns : goal.returns
returns c =
    let able = c.self.inside.able in
    let items = c.self.inside.since.items in
    let parts = c.self.inside.counts.items in (
      λ zero h.
          let is : able ≡ 0 = eqb-true able 0 zero in
          let none : since items h ≡ None = none_since items parts able c.self.invariant is h in
          subst (λ (a : List (Option ℕ)). since a h ≡ None) c.self.view_is none,
      λ none.
          let in_items : (h : ℕ) → since items h ≡ None = λ h. subst (λ (a : List (Option ℕ)). since a h ≡ None) (sym c.self.view_is) (none h) in
          eq-eqb able 0 (all_since items parts able c.self.invariant in_items),
    )
