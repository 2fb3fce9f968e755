-- Who leave the word where all processors meet are about to begin the group of `start`.
use Rattle.std.proofs.Common.{◌≡◌, ℕ, zero, suc, List, [], ◌∷◌, Some, sym, ap, subst, ◌∙◌}
use Rattle.std.specs.Prelude.{map, slice_get, true}
use Rattle.fk_space.specs.Space.{Space}
use Rattle.fk_tree.specs.Tree.{Tree}
use Rattle.fk_meaning.specs.Round.{Runner}
use Rattle.fk_core.specs.declared.op.CoreOp.{CoreOp}
use Rattle.fk_core.specs.Next.{Position, next}
use Rattle.fk_sim_nodes.specs.Phase.{Leaving}
use Rattle.fk_sim_match.specs.Stage.{Stage}
use Rattle.fk_sim_match.specs.Uniting.{unites_now}
use Rattle.fk_sim_match.specs.Rounds.{IsDueAt, AllDue}
use Rattle.fk_sim_rounds.specs.Next.{JumpsLead}
use Rattle.fk_sim_rounds.specs.Unite.{AllUnite}
use Rattle.fk_sim_rounds.proofs.Unite.{unites_is}
use Rattle.fk_sim_rounds.specs.Beside.{landed_runner}
use Rattle.fk_sim_rounds.proofs.Landed.{next_landed}
use Rattle.fk_sim_runs.specs.Begins.{Begins}
use Rattle.fk_sim_runs.proofs.Begins.{uniters_begin}

module _ (core : List CoreOp) where
  abbrev pub AllBegin : List (Runner Position) → Type 0
  AllBegin [] = Unit {0}
  AllBegin (r ∷ rs) = Begins core r × AllBegin rs

  module _ (leads : JumpsLead core) (tree : Tree) (spaces : ℕ → Space) where
    begins : (g : ℕ) (s : Stage) (r q : Runner Position) → unites_now s ≡ true → IsDueAt core tree spaces g s q → q ≡ landed_runner core r → Begins core r
    begins g s r q is due same =
        let u = unites_is s is in
        let b = uniters_begin core tree spaces g u.0 (Leaving 0) q (subst (λ x. IsDueAt core tree spaces g x q) u.1 due) in
        (b.0, sym (next_landed core leads r.left) ∙ ap (λ x. next core x.left) (sym same) ∙ b.1, b.2)

    pub all_begin : (number : ℕ) (stages : List Stage) (rs qs : List (Runner Position)) → AllUnite stages → AllDue core tree spaces number stages qs → qs ≡ map (landed_runner core) rs → AllBegin rs
    all_begin number stages [] qs all due same = tt
    all_begin number (s ∷ stages) (r ∷ rs) (q ∷ qs) all due same =
        let first : q ≡ landed_runner core r = cc in
        let others : qs ≡ map (landed_runner core) rs = cc in
        (begins (tree.places number) s r q all.0 due.1 first, all_begin (suc number) stages rs qs all.1 due.2 others)
    all_begin number [] (r ∷ rs) (q ∷ qs) all due same = absurd due
    all_begin number stages (r ∷ rs) [] all due same = absurd (cc)

  pub begins_at : (rs : List (Runner Position)) (h : ℕ) (r : Runner Position) → AllBegin rs → slice_get rs h ≡ Some r → Begins core r
  begins_at [] h r all at = absurd (cc)
  begins_at (x ∷ rs) zero r all at = let same : x ≡ r = cc in subst (Begins core) same all.0
  begins_at (x ∷ rs) (suc h) r all at = begins_at rs h r all.1 at
