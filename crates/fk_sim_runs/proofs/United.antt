-- Behind the cycles in which all have met at the beginning of `start` nobody meets others, and all are near their common commit.
use Rattle.std.proofs.Common.{◌≡◌, ℕ, zero, suc, ◌+◌, List, [], ◌∷◌, Some, true, sym, ap, subst, ◌∙◌, refl}
use Rattle.std.specs.Prelude.{slice_get}
use Rattle.std.proofs.lemmas.Bool.{false≢true}
use Rattle.fk_sim_nodes.specs.Phase.{Phase, Outside, Away, Coming, Waiting, Leaving}
use Rattle.fk_sim_match.specs.Stage.{Ending, Commits, Unites, Stage, Ended, Acts, Meets, distance, Nears}
use Rattle.fk_sim_match.specs.Uniting.{unites_now}
use Rattle.fk_sim_rounds.specs.Unite.{AllUnite}
use Rattle.fk_sim_rounds.specs.Union.{IsNearBegin, AreNearBegin}
use Rattle.fk_sim_runs.specs.Pace.{HasUnited, Sight}
use Rattle.fk_sim_runs.specs.Turning.{UnionsTurn, UnitedTurn}
use Rattle.fk_sim_runs.proofs.Stages.{related_at}
use Rattle.fk_sim_runs.proofs.Soon.{near_begin_in_time}

unites_at : (stages : List Stage) (h : ℕ) (s : Stage) → AllUnite stages → slice_get stages h ≡ Some s → unites_now s ≡ true
unites_at [] h s all at = absurd (cc)
unites_at (x ∷ stages) zero s all at = let same : x ≡ s = cc in sym (ap unites_now same) ∙ all.0
unites_at (x ∷ stages) (suc h) s all at = unites_at stages h s all.1 at

leaves_now : (e : Ending) (w : ℕ) (f : Phase) → unites_now (Meets e w f) ≡ true → f ≡ Leaving 0
leaves_now Unites w (Leaving zero) is = refl
leaves_now Unites w (Leaving (suc d)) is = absurd (false≢true is)
leaves_now Unites w Outside is = absurd (false≢true is)
leaves_now Unites w Away is = absurd (false≢true is)
leaves_now Unites w (Coming d) is = absurd (false≢true is)
leaves_now Unites w Waiting is = absurd (false≢true is)
leaves_now Commits w f is = absurd (false≢true is)

near_at : (stages : List Stage) (h : ℕ) (s : Stage) → AreNearBegin stages → slice_get stages h ≡ Some s → IsNearBegin s
near_at [] h s all at = absurd (cc)
near_at (x ∷ stages) zero s all at = let same : x ≡ s = cc in subst IsNearBegin same all.0
near_at (x ∷ stages) (suc h) s all at = near_at stages h s all.1 at

has_united : (v : Sight) (h : ℕ) (s : Stage) → slice_get v.stages h ≡ Some s → IsNearBegin s → HasUnited v h
has_united v h (Acts d inner) at near = record { left = d; inner = inner; at = at; few = near.0 }
has_united v h Ended at near = absurd near
has_united v h (Meets e w f) at near = absurd near

pub unions_turn : UnionsTurn
unions_turn plan plan' stages stages' control control' finished few all near begin = (
  near_begin_in_time stages' begin,
  record {
    few = few;
    next = refl;
    near = near;
    meet = λ h e g w f stands ne. absurd (ne (leaves_now e w f (unites_at stages h (Meets e w f) all stands.at)));
    unite = λ h w at.
        let r = related_at (λ x y. Nears (distance x) (distance y)) stages stages' h (Meets Unites w (Leaving 0)) near at in
        has_united (record { plan = plan'; stages = stages'; control = control'; finished = finished + 1 }) h r.other r.at (near_at stages' h r.other begin r.at);
  },
)

pub united_turn : UnitedTurn
united_turn plan plan' stages stages' control control' finished few begin near = record {
  few = few;
  next = refl;
  near = near;
  meet = λ h e g w f stands ne. absurd (near_at stages h (Meets e w f) begin stands.at);
  unite = λ h w at. absurd (near_at stages h (Meets Unites w (Leaving 0)) begin at);
}
