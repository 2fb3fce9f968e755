-- What a step of a group in lockstep makes of a word that it alone touches.
use Rattle.std.proofs.Common.{◌≡◌, ℕ, zero, suc, Bool, true, false, List, [], ◌∷◌, take, Option, Some, None, ap, ◌∙◌, sym, refl, subst}
use Rattle.std.specs.Prelude.{slice_get, fold, if◌then◌else◌}
use Rattle.fk_num.specs.Op.{applied}
use Rattle.fk_meaning_operation.specs.Kinds.{multiprefix_of, multiprefix_kind}
use Rattle.fk_meaning_operation.specs.declared.operation.Multiprefix.{Multiprefix}
use Rattle.fk_meaning_operation.specs.declared.operation.Multiprefix.TheVariants.{MpAdd, MpMax, MpAnd, MpOr}
use Rattle.fk_meaning_operation.specs.declared.operation.Operation.{Operation}
use Rattle.fk_meaning_operation.specs.declared.operation.Operation.TheVariants as o
use Rattle.fk_meaning_store.specs.declared.request.Request.{Request}
use Rattle.fk_meaning_store.specs.Serve.{operator_of}
use Rattle.fk_meaning.specs.Processor.{Processor, Setting, values, last}
use Rattle.fk_meaning.specs.Request.{request as request_of}
use Rattle.fk_meaning.specs.Round.{Step, State, Round, Acting, asking}
use Rattle.fk_meaning.specs.Touch.{touch_of, operation_due, touch, combined_with, after, answer, after_touch, word_after, brought_by, brought, last_or, IsGroupStep, Reads, Writes, Combines, GroupStep}
use Rattle.fk_meaning.proofs.Turns.{in_turn}

-- all who touch the word stand at one operation
abbrev AllAt : {W : Type 0} → Operation → (x : ℕ) → List (Acting W) → Type 0
AllAt {W = W} operation x actings =
    (h : ℕ) (a : Acting W) → slice_get actings h ≡ Some a → (q : Request) → touch x a ≡ Some q → operation_due a.due ≡ Some operation

in_front : {A : Type 0} (n : ℕ) (xs : List A) (i : ℕ) (a : A) → slice_get (take n xs) i ≡ Some a → slice_get xs i ≡ Some a
in_front zero xs i a e = absurd (cc)
in_front (suc n) [] i a e = absurd (cc)
in_front (suc n) (x ∷ xs) zero a e = e
in_front (suc n) (x ∷ xs) (suc i) a e = in_front n xs i a e

first_all : {W : Type 0} (operation : Operation) (x n : ℕ) (actings : List (Acting W)) → AllAt operation x actings → AllAt operation x (take n actings)
first_all operation x n actings all h a at q touched = all h a (in_front n actings h a at) q touched

the_one : (b : Bool) (r q : Request) → (if b then Some r else None) ≡ Some q → r ≡ q
the_one true r q e = cc
the_one false r q e = absurd (cc)

due_is : {W : Type 0} (operation : Operation) (x : ℕ) (a : Acting W) (q : Request) → operation_due a.due ≡ Some operation → touch x a ≡ Some q
    → touch_of x a.runner.has (Some operation) ≡ Some q
due_is operation x a q is touched = sym (ap (touch_of x a.runner.has) is) ∙ touched

-- reads
after_read : (p : Processor) (q : Request) (w : ℕ) → request_of o.Read p ≡ q → (after q w ≡ w) × (answer q w ≡ w)
after_read p q w e = subst (λ r. (after r w ≡ w) × (answer r w ≡ w)) e (refl, refl)

read_alone : {W : Type 0} (x : ℕ) (a : Acting W) (w : ℕ) → ((q : Request) → touch x a ≡ Some q → operation_due a.due ≡ Some o.Read)
    → (touched : Option Request) → touch x a ≡ touched → after_touch touched w ≡ w
read_alone x a w one None e = refl
read_alone x a w one (Some q) e = (after_read a.runner.has q w (the_one _ (request_of o.Read a.runner.has) q (due_is o.Read x a q (one q e) e))).0

all_read : {W : Type 0} (x : ℕ) (actings : List (Acting W)) (w : ℕ) → AllAt o.Read x actings → word_after x actings w ≡ w
all_read x [] w all = refl
all_read x (a ∷ actings) w all =
    all_read x actings (after_touch (touch x a) w) (λ h b at q touched. all (suc h) b at q touched)
    ∙ read_alone x a w (λ q touched. all 0 a refl q touched) (touch x a) refl

-- writes
after_write : (p : Processor) (q : Request) (w : ℕ) (vs : List ℕ) → request_of o.Write p ≡ q → last_or (after q w) vs ≡ last_or w (brought_by (Some q) vs)
after_write p q w vs e = subst (λ r. last_or (after r w) vs ≡ last_or w (brought_by (Some r) vs)) e refl

write_alone : {W : Type 0} (x : ℕ) (a : Acting W) (w : ℕ) (vs : List ℕ) → ((q : Request) → touch x a ≡ Some q → operation_due a.due ≡ Some o.Write)
    → (touched : Option Request) → touch x a ≡ touched → last_or (after_touch touched w) vs ≡ last_or w (brought_by touched vs)
write_alone x a w vs one None e = refl
write_alone x a w vs one (Some q) e = after_write a.runner.has q w vs (the_one _ (request_of o.Write a.runner.has) q (due_is o.Write x a q (one q e) e))

all_write : {W : Type 0} (x : ℕ) (actings : List (Acting W)) (w : ℕ) → AllAt o.Write x actings → word_after x actings w ≡ last_or w (brought x actings)
all_write x [] w all = refl
all_write x (a ∷ actings) w all =
    all_write x actings (after_touch (touch x a) w) (λ h b at q touched. all (suc h) b at q touched)
    ∙ write_alone x a w (brought x actings) (λ q touched. all 0 a refl q touched) (touch x a) refl

-- multiprefixes
is_one : (by : Multiprefix) → multiprefix_of (multiprefix_kind by) ≡ Some by
is_one MpAdd = refl
is_one MpMax = refl
is_one MpAnd = refl
is_one MpOr = refl

abbrev combine : Multiprefix → ℕ → ℕ → ℕ
combine by = applied (operator_of by)

after_combine : (by : Multiprefix) (p : Processor) (q : Request) (w : ℕ) (vs : List ℕ) → request_of (o.Combine by) p ≡ q
    → (fold (combine by) (after q w) vs ≡ fold (combine by) w (brought_by (Some q) vs)) × (answer q w ≡ w)
after_combine by p q w vs e =
    subst (λ r. (fold (combine by) (after r w) vs ≡ fold (combine by) w (brought_by (Some r) vs)) × (answer r w ≡ w)) e
    (ap (λ b. fold (combine by) (combined_with b w (last (values p))) vs) (is_one by), refl)

-- its class is known by its kind
combined_by : {W : Type 0} (by : Multiprefix) (x : ℕ) (a : Acting W) (q : Request) → operation_due a.due ≡ Some (o.Combine by) → touch x a ≡ Some q
    → request_of (o.Combine by) a.runner.has ≡ q
combined_by by x a q is touched = from by (due_is (o.Combine by) x a q is touched)
  where
    from : (by' : Multiprefix) → touch_of x a.runner.has (Some (o.Combine by')) ≡ Some q → request_of (o.Combine by') a.runner.has ≡ q
    from MpAdd e = the_one _ (request_of (o.Combine MpAdd) a.runner.has) q e
    from MpMax e = the_one _ (request_of (o.Combine MpMax) a.runner.has) q e
    from MpAnd e = the_one _ (request_of (o.Combine MpAnd) a.runner.has) q e
    from MpOr e = the_one _ (request_of (o.Combine MpOr) a.runner.has) q e

combine_alone : {W : Type 0} (by : Multiprefix) (x : ℕ) (a : Acting W) (w : ℕ) (vs : List ℕ)
    → ((q : Request) → touch x a ≡ Some q → operation_due a.due ≡ Some (o.Combine by))
    → (touched : Option Request) → touch x a ≡ touched → fold (combine by) (after_touch touched w) vs ≡ fold (combine by) w (brought_by touched vs)
combine_alone by x a w vs one None e = refl
combine_alone by x a w vs one (Some q) e =
    (after_combine by a.runner.has q w vs (combined_by by x a q (one q e) e)).0

all_combine : {W : Type 0} (by : Multiprefix) (x : ℕ) (actings : List (Acting W)) (w : ℕ) → AllAt (o.Combine by) x actings
    → word_after x actings w ≡ fold (combine by) w (brought x actings)
all_combine by x [] w all = refl
all_combine by x (a ∷ actings) w all =
    all_combine by x actings (after_touch (touch x a) w) (λ h b at q touched. all (suc h) b at q touched)
    ∙ combine_alone by x a w (brought x actings) (λ q touched. all 0 a refl q touched) (touch x a) refl

module _ {W : Type 0} (next : W → Option (Step W)) (set : Setting) (round : Round) (s : State W) (n x : ℕ) where
  abbrev asks : List (Acting W)
  asks = asking next set round s.runners

  pub reads : IsGroupStep next set round s n x o.Read → Reads next set round s x
  reads g =
      let turn = in_turn next set round s x g.no_fault in
      record {
        answers = λ h q touched.
            let a = touched.0 in
            let asked = the_one _ (request_of o.Read a.runner.has) q (due_is o.Read x a q (g.one h a touched.1 q touched.2) touched.2) in
            let below = word_after x (take h asks) (s.store.words x) in
            turn.answers h q touched
            ∙ ap (λ v. Some v) ((after_read a.runner.has q below asked).1 ∙ all_read x (take h asks) (s.store.words x) (first_all o.Read x h asks g.one));
        word = turn.word ∙ all_read x asks (s.store.words x) g.one;
      }

  pub writes : IsGroupStep next set round s n x o.Write → Writes next set round s x
  writes g = (in_turn next set round s x g.no_fault).word ∙ all_write x asks (s.store.words x) g.one

  pub combines : (by : Multiprefix) → IsGroupStep next set round s n x (o.Combine by) → Combines next set by round s x
  combines by g =
      let turn = in_turn next set round s x g.no_fault in
      record {
        answers = λ h q touched.
            let a = touched.0 in
            let asked = combined_by by x a q (g.one h a touched.1 q touched.2) touched.2 in
            let below = word_after x (take h asks) (s.store.words x) in
            turn.answers h q touched
            ∙ ap (λ v. Some v) ((after_combine by a.runner.has q below [] asked).1 ∙ all_combine by x (take h asks) (s.store.words x) (first_all (o.Combine by) x h asks g.one));
        word = turn.word ∙ all_combine by x asks (s.store.words x) g.one;
      }

pub group_step : (W : Type 0) → GroupStep W
group_step W = record {
  read = λ next set round s n x g. reads next set round s n x g;
  write = λ next set round s n x g. writes next set round s n x g;
  combine = λ next set round s n x by g. combines next set round s n x by g;
}
