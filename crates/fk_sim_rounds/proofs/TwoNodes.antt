-- Known rounds in which two nodes step: one group ends while another one comes to a body, divides, or forks.
use Rattle.std.proofs.Common.{◌≡◌, ℕ, zero, suc, ◌==◌, ◌||◌, Bool, true, false, [], ◌∷◌, Option, Some, None, refl, sym, subst, eqb-true}
use Rattle.std.proofs.lemmas.Bool.{false≢true}
use Rattle.fk_tree.specs.declared.node.Kind.TheVariants.{Lockstep, Waiting}
use Rattle.fk_tree.specs.Tree.{Tree, Node, members, is_member}
use Rattle.fk_meaning.specs.Processor.{values}
use Rattle.fk_meaning.specs.Group.{parts}
use Rattle.fk_meaning.specs.Round.{lowest, who}
use Rattle.fk_meaning_operation.specs.declared.operation.SplitKind.{SplitKind}
use Rattle.fk_meaning_operation.specs.declared.operation.SplitKind.TheVariants.{Fork}
use Rattle.fk_meaning_operation.specs.declared.operation.Operation.{Operation}
use Rattle.fk_meaning_operation.specs.declared.operation.Operation.TheVariants as o
use Rattle.fk_sim_block.specs.Owner.{Doing}
use Rattle.fk_sim_rounds.specs.After.{actings, DoesStep}
use Rattle.fk_sim_rounds.specs.Rounds.{StepIsKnown, IsKnownRound}

-- the root waits for two groups of one member each
abbrev nodes : ℕ → Option Node
nodes zero = Some (record { members = 0 ∷ 1 ∷ []; parent = 0; kind = Waiting 1 2 })
nodes (suc zero) = Some (record { members = 0 ∷ []; parent = 0; kind = Lockstep })
nodes (suc (suc zero)) = Some (record { members = 1 ∷ []; parent = 0; kind = Lockstep })
nodes k = None

abbrev two_groups : Tree
two_groups = record { nodes = nodes; given = 3; places = λ h. suc h }

abbrev both : ℕ → Option Operation
both (suc zero) = Some o.End
both (suc (suc zero)) = Some o.Farm
both k = None

known : (g : ℕ) (operation : Operation) → both g ≡ Some operation → StepIsKnown two_groups g operation
known zero operation is = absurd (cc)
known (suc zero) o.End is = refl
known (suc zero) operation is = absurd (cc)
known (suc (suc zero)) o.Farm is = refl
known (suc (suc zero)) operation is = absurd (cc)
known (suc (suc (suc g))) operation is = absurd (cc)

-- no group has more than one member
one_member : (P : ℕ → Type 0) (h m : ℕ) → is_member h (m ∷ []) ≡ true → P m → P h
one_member P h m is holds = by (h == m) refl is
  where
    by : (b : Bool) → (h == m) ≡ b → (b || false) ≡ true → P h
    by true e is' = subst P (sym (eqb-true h m e)) holds
    by false e is' = absurd (false≢true is')

pub two_step : (d e : Doing) → d.acting.runner.has.number ≡ 0 → e.acting.runner.has.number ≡ 1 → DoesStep o.End d.acting.due → DoesStep o.Farm e.acting.due
    → IsKnownRound two_groups (d ∷ e ∷ [])
two_step d e first second ends comes = record { does = both; steps = (first, ends, (second, comes, tt)); known = known; divide = no_split }
  where
    no_split : (g h : ℕ) (by : SplitKind) → both g ≡ Some (o.Split by) → is_member h (members two_groups g) ≡ true
        → parts by (values (who (actings (d ∷ e ∷ [])) h)) ≡ parts by (values (who (actings (d ∷ e ∷ [])) (lowest (members two_groups g))))
    no_split zero h by is member = absurd (cc)
    no_split (suc zero) h by is member = absurd (cc)
    no_split (suc (suc zero)) h by is member = absurd (cc)
    no_split (suc (suc (suc g))) h by is member = absurd (cc)

-- the other one divides
module _ (kind : SplitKind) where
  abbrev ends_and_divides : ℕ → Option Operation
  ends_and_divides (suc zero) = Some o.End
  ends_and_divides (suc (suc zero)) = Some (o.Split kind)
  ends_and_divides k = None

  known_too : (g : ℕ) (operation : Operation) → ends_and_divides g ≡ Some operation → StepIsKnown two_groups g operation
  known_too zero operation is = absurd (cc)
  known_too (suc zero) o.End is = refl
  known_too (suc zero) operation is = absurd (cc)
  known_too (suc (suc zero)) (o.Split by) is = refl
  known_too (suc (suc zero)) operation is = absurd (cc)
  known_too (suc (suc (suc g))) operation is = absurd (cc)

  pub one_divides : (d e : Doing) → d.acting.runner.has.number ≡ 0 → e.acting.runner.has.number ≡ 1 → DoesStep o.End d.acting.due → DoesStep (o.Split kind) e.acting.due
      → IsKnownRound two_groups (d ∷ e ∷ [])
  one_divides d e first second ends divides = record { does = ends_and_divides; steps = (first, ends, (second, divides, tt)); known = known_too; divide = as_many }
    where
      as_many : (g h : ℕ) (by : SplitKind) → ends_and_divides g ≡ Some (o.Split by) → is_member h (members two_groups g) ≡ true
          → parts by (values (who (actings (d ∷ e ∷ [])) h)) ≡ parts by (values (who (actings (d ∷ e ∷ [])) (lowest (members two_groups g))))
      as_many zero h by is member = absurd (cc)
      as_many (suc zero) h by is member = absurd (cc)
      as_many (suc (suc zero)) h by is member =
          one_member (λ k. parts by (values (who (actings (d ∷ e ∷ [])) k)) ≡ parts by (values (who (actings (d ∷ e ∷ [])) 1))) h 1 member refl
      as_many (suc (suc (suc g))) h by is member = absurd (cc)

-- as by a `fork`
pub one_forks : (d e : Doing) → d.acting.runner.has.number ≡ 0 → e.acting.runner.has.number ≡ 1 → DoesStep o.End d.acting.due → DoesStep (o.Split Fork) e.acting.due
    → IsKnownRound two_groups (d ∷ e ∷ [])
one_forks d e first second ends divides = one_divides Fork d e first second ends divides
