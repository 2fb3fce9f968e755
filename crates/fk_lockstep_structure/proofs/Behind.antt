-- What code of a text has behind it, and how far it follows there.
use Rattle.std.proofs.Common.{◌≡◌, ℕ, zero, suc, Bool, true, false, true≢false, List, [], ◌∷◌, ◌++◌, None, ap, ◌∙◌, sym, refl, subst}
use Rattle.fk_meaning_operation.specs.declared.operation.Operation.TheVariants as o
use Rattle.fk_meaning_forms.specs.Code.{Code, perform, append}
use Rattle.fk_meaning.specs.Left.{broken, continued, settled}
use Rattle.fk_meaning.specs.Next.{Work, going, returned, next}
use Rattle.fk_meaning.specs.Behind.{works, waiting, outs}
use Rattle.fk_meaning.specs.Shape.{Exits, none, of_function, of_arm, begins, Either, Shape}
use Rattle.fk_meaning.proofs.Spine.{untrue, past_append, broken_append, continued_append}
use Rattle.fk_meaning.proofs.Nested.{Allows, Nested, settles, no_exits, way_allows, allows_append}
use Rattle.fk_meaning.proofs.Steps.{WorkNested, is_stepped}
use Rattle.fk_lockstep.specs.InStep.{InStep}
use Rattle.fk_lockstep.specs.Course.{Context, InGroup, Waits, ByItself, after_waiting, DoesNext, FollowsFor}
use Rattle.fk_lockstep_structure.specs.Placed.{Who, OfGroup, OfBody, OfMain, is_outermost, Placed}
use Rattle.fk_lockstep_structure.specs.Ahead.{starts, all_outs}
use Rattle.fk_lockstep_structure.proofs.Even.{at, settled_times, stable, same_starts, Even, EvenBehind}
use Rattle.fk_lockstep_structure.proofs.Far.{context_of, joined}

pub either_yes : (b : Bool) (E G : Type 0) → Either b E G → b ≡ true → E
either_yes true E G h e = h
either_yes false E G h e = untrue e

pub either_no : (b : Bool) (E G : Type 0) → Either b E G → b ≡ false → G
either_no true E G h e = absurd (true≢false e)
either_no false E G h e = h

pub behind_part : (a y : Code ℕ) (callers : List (Code ℕ)) (x : Exits) → Shape true false x a → Nested y → Nested (append a y)
    → outs (going (append a y) callers) ≡ going y callers ∷ outs (going y callers)
behind_part a y callers x s h g =
    ap (λ cs. works callers cs ++ waiting callers) ((settles (append a y) g).same ∙ past_append true false x a y s)
    ∙ ap (λ cs. going y callers ∷ (works callers cs ++ waiting callers)) (sym (settles y h).same)

module _ (may_call : (in_group : Bool) → (function : ℕ) → Bool) (bodies : ℕ → Code ℕ) where
  abbrev pub F : ℕ → Context → Work → Type 0
  F n = FollowsFor (next bodies) all_outs n

  abbrev pub FollowsTo : ℕ → Context → Work → Type 0
  FollowsTo zero context w = Unit {0}
  FollowsTo (suc n) context w = F (suc n) context w × FollowsTo n context w

  pub exactly : (n : ℕ) (context : Context) (w : Work) → FollowsTo n context w → F n context w
  exactly zero context w h = tt
  exactly (suc n) context w h = h.0

  abbrev pub Far : ℕ → Context → List (Code ℕ) → Code ℕ → Type 0
  Far n context callers code = (k : ℕ) → FollowsTo n context (at (settled_times k code) callers)

  pub far_fewer : (n : ℕ) (context : Context) (callers : List (Code ℕ)) (code : Code ℕ) → Far (suc n) context callers code → Far n context callers code
  far_fewer n context callers code h k = (h k).1

  pub far_stable : (n : ℕ) (context : Context) (callers : List (Code ℕ)) (code : Code ℕ) → settled code ≡ code → FollowsTo n context (at code callers) → Far n context callers code
  far_stable n context callers code e h k = subst (λ c. FollowsTo n context (at c callers)) (sym (stable code e k)) h

  pub far_settled : (n : ℕ) (context : Context) (callers : List (Code ℕ)) (code : Code ℕ) → FollowsTo n context (at code callers) → Far n context callers (settled code) → Far n context callers code
  far_settled n context callers code h g zero = h
  far_settled n context callers code h g (suc k) = g k

  pub idle : (n : ℕ) (context : Context) (w : Work) → next bodies w ≡ None → FollowsTo n context w
  idle zero context w e = tt
  idle (suc n) context w e = (subst (λ u. DoesNext (next bodies) all_outs (F n) context w u) (sym e) tt, idle n context w e)

  abbrev pub Returns : ℕ → Who → (within : Bool) → List Work → List (Code ℕ) → Type 0
  Returns n (OfMain outermost) within ahead callers = callers ≡ []
  Returns n who within ahead callers = (starts (returned callers) ≡ ahead) × FollowsTo n (context_of who false within) (returned callers)

  pub returns_fewer : (n : ℕ) (who : Who) (within : Bool) (ahead : List Work) (callers : List (Code ℕ)) → Returns (suc n) who within ahead callers → Returns n who within ahead callers
  returns_fewer n OfGroup within ahead callers h = (h.0, h.1.1)
  returns_fewer n OfBody within ahead callers h = (h.0, h.1.1)
  returns_fewer n (OfMain b) within ahead callers h = h

  pub record Behind (n : ℕ) (who : Who) (within : Bool) (ahead : List Work) (callers : List (Code ℕ)) (part : Bool) (x : Exits) (d : Code ℕ) : Type 0 where
    pub nested : WorkNested (at d callers)
    pub allows : Allows x d
    pub quiet : part ≡ true → x ≡ none
    pub first : part ≡ true → begins d ≡ true
    pub in_group : part ≡ true → who ≡ OfGroup
    pub even : EvenBehind may_call ahead callers x d
    pub even_tests : x.tests ≡ true → Even ahead callers (broken d)
    pub onward : part ≡ false → Far n (context_of who false within) callers d
    pub breaks : x.breaks ≡ true → Far n (context_of who false within) callers (broken d)
    pub continues : x.continues ≡ true → Far n (context_of who false within) callers (continued d)
    pub tests : x.tests ≡ true → x.shrinking ≡ false → Far n (context_of who false within) callers (broken d)
    pub returns : x.returns ≡ true → Returns n who within ahead callers

  pub behind_fewer : (n : ℕ) (who : Who) (within : Bool) (ahead : List Work) (callers : List (Code ℕ)) (part : Bool) (x : Exits) (d : Code ℕ)
      → Behind (suc n) who within ahead callers part x d → Behind n who within ahead callers part x d
  behind_fewer n who within ahead callers part x d b = record {
    nested = b.nested;
    allows = b.allows;
    quiet = b.quiet;
    first = b.first;
    in_group = b.in_group;
    even = b.even;
    even_tests = b.even_tests;
    onward = λ e k. (b.onward e k).1;
    breaks = λ e k. (b.breaks e k).1;
    continues = λ e k. (b.continues e k).1;
    tests = λ e f k. (b.tests e f k).1;
    returns = λ e. returns_fewer n who within ahead callers (b.returns e);
  }

  abbrev pub Steps : Who → (agreed : Bool) → Code ℕ → Type 0
  Steps OfGroup agreed code = InStep (may_call true) agreed code
  Steps who agreed code = Unit {0}

  -- code behind which so much is known follows so far
  abbrev pub All : ℕ → Type 0
  All n =
      (who : Who) (agreed within : Bool) (ahead : List Work) (callers : List (Code ℕ)) (part : Bool) (x : Exits) (code d : Code ℕ)
      → Shape part false x code → Placed may_call who false code → is_outermost who ≡ false → Steps who agreed code
      → Behind n who within ahead callers part x d → Far n (context_of who agreed within) callers (append code d)

  -- behind the parts of a group, and at the end of a body
  pub part_behind : (n : ℕ) (within : Bool) (ahead : List Work) (callers : List (Code ℕ)) (y : Code ℕ) → WorkNested (at y callers) → begins y ≡ true → Even ahead callers y
      → Behind n OfGroup within ahead callers true none y
  part_behind n within ahead callers y h e even = record {
    nested = h;
    allows = no_exits y;
    quiet = λ f. refl;
    first = λ f. e;
    in_group = λ f. refl;
    even = record { onward = even; breaks = λ f. untrue f; continues = λ f. untrue f };
    even_tests = λ f. untrue f;
    onward = λ f. absurd (true≢false f);
    breaks = λ f. untrue f;
    continues = λ f. untrue f;
    tests = λ f. untrue f;
    returns = λ f. untrue f;
  }

  pub before_more : (n : ℕ) (who : Who) (within : Bool) (ahead : List Work) (callers : List (Code ℕ)) (y : Code ℕ) → WorkNested (at y callers) → Even ahead callers y
      → Far n (context_of who false within) callers y → Behind n who within ahead callers false none y
  before_more n who within ahead callers y h even far = record {
    nested = h;
    allows = no_exits y;
    quiet = λ f. untrue f;
    first = λ f. untrue f;
    in_group = λ f. untrue f;
    even = record { onward = even; breaks = λ f. untrue f; continues = λ f. untrue f };
    even_tests = λ f. untrue f;
    onward = λ f. far;
    breaks = λ f. untrue f;
    continues = λ f. untrue f;
    tests = λ f. untrue f;
    returns = λ f. untrue f;
  }

  -- behind the arms of a branch
  pub arm_behind : (n : ℕ) (who : Who) (within : Bool) (ahead : List Work) (callers : List (Code ℕ)) (part : Bool) (x : Exits) (rest d : Code ℕ) → Shape part false x rest
      → Behind n who within ahead callers part x d → Nested (append rest d) → Even ahead callers (append rest d) → Far n (context_of who false within) callers (append rest d)
      → Behind n who within ahead callers false (of_arm x) (append rest d)
  arm_behind n who within ahead callers part x rest d s b h even far =
      let breaks_as = sym (broken_append part false x rest d s) in
      let continues_as = sym (continued_append part false x rest d s) in
      let context = context_of who false within in
      record {
        nested = record { left = h; callers = b.nested.callers };
        allows = way_allows false x (append rest d) (λ f. allows_append part x rest d s b.quiet b.allows);
        quiet = λ f. untrue f;
        first = λ f. untrue f;
        in_group = λ f. untrue f;
        even = record {
          onward = even;
          breaks = λ f. subst (λ c. Even ahead callers c) breaks_as (b.even.breaks f);
          continues = λ f. subst (λ c. Even ahead callers c) continues_as (b.even.continues f);
        };
        even_tests = λ f. untrue f;
        onward = λ f. far;
        breaks = λ f. subst (λ c. Far n context callers c) breaks_as (b.breaks f);
        continues = λ f. subst (λ c. Far n context callers c) continues_as (b.continues f);
        tests = λ f. untrue f;
        returns = b.returns;
      }

  module _ (all_bodies : (f : ℕ) → Shape false false of_function (bodies f)) where
    -- who waits goes on where all resume
    pub waits : (n : ℕ) (within : Bool) (t : ℕ) (y : Code ℕ) (callers : List (Code ℕ)) → WorkNested (at (perform t o.Resume y) callers)
        → starts (going y callers) ≡ starts (at y callers) → Far n (after_waiting within) callers y → F n (Waits within) (at (perform t o.Resume y) callers)
    waits zero within t y callers h e far = tt
    waits (suc n) within t y callers h e far =
        let here = at (perform t o.Resume y) callers in
        let goes : (onward : Bool) → outs (going y callers) ≡ outs here = (is_stepped bodies all_bodies here h).goes_on in (
          joined (outs (going y callers)) (starts (going y callers)) (outs here) (starts here) (goes true)
              (e ∙ sym (same_starts (perform t o.Resume y) y callers refl)),
          exactly n (after_waiting within) (going y callers) (far 1).1,
        )

    -- who is at the end of a body goes on in the group
    pub meets : (n : ℕ) (t : ℕ) (y : Code ℕ) (callers : List (Code ℕ)) → WorkNested (at (perform t (o.Meet true) y) callers)
        → starts (going y callers) ≡ starts (at y callers) → Far n (InGroup false) callers y → FollowsTo n (ByItself true) (at (perform t (o.Meet true) y) callers)
    meets zero t y callers h e far = tt
    meets (suc n) t y callers h e far =
        let here = at (perform t (o.Meet true) y) callers in
        let goes : outs here ≡ here ∷ outs (going y callers) = (is_stepped bodies all_bodies here h).goes_on in (
          (
            joined (outs here) (starts here) (here ∷ outs (going y callers)) (starts (going y callers)) goes
                (same_starts (perform t (o.Meet true) y) y callers refl ∙ sym e),
            exactly n (InGroup false) (going y callers) (far 1).1,
          ),
          meets n t y callers h e (λ k. (far k).1),
        )
