-- The number of parts that a `fork` takes. It is among the values of its call from the agree on it
-- up to the `fork`. The code in between takes no value from below it, and leaves one value more for
-- each expression, whichever branches are taken. A function called in between has values of its
-- own, and replaces its arguments by its result or by nothing.
use Rattle.std.specs.Prelude.{◌≡◌, ℕ, zero, suc, ◌==◌, Bool, true, false, not, ◌&&◌, ◌||◌, List, []}
use Rattle.std.specs.Prelude.{◌∷◌, length, Option, Some, None, is_some, refl, if◌then◌else◌}
use Rattle.std.proofs.Common.{ap}
use Rattle.std.proofs.lemmas.Bool.{false≢true, and_parts}
use Rattle.fk_meaning_operation.specs.declared.operation.Operation.{Operation}
use Rattle.fk_meaning_operation.specs.declared.operation.Operation.TheVariants as o
use Rattle.fk_meaning_operation.specs.declared.operation.SplitKind.TheVariants.{IfElse, AndThen}
use Rattle.fk_meaning_operation.specs.declared.operation.SplitKind.TheVariants.{OrElse, Fork}
use Rattle.fk_meaning.specs.Processor.{Call, values, last, before}
use Rattle.fk_meaning_forms.specs.Code.{Code, done, perform, choose, while, until, turn, again}
use Rattle.fk_meaning_forms.specs.Code.{quit, break, continue, call, ends}
use Rattle.fk_meaning.specs.Next.{Work, going, next}
use Rattle.fk_meaning.specs.Shape.{of_function, ends_part, is_of_call, Shape}
use Rattle.fk_lockstep.specs.Counts.{Counts, IsCounted}
use Rattle.fk_lockstep_structure.specs.Placed.{is_begin}
use Rattle.fk_lockstep_structure.specs.Ahead.{all_outs}

abbrev pub is_fork : Operation → Bool
is_fork (o.Split Fork) = true
is_fork op = false

abbrev pub is_enter : Operation → Bool
is_enter (o.Enter arguments) = true
is_enter op = false

-- a called function leaves with a result, or without one
abbrev pub leaves : (gives : Bool) → Operation → Bool
leaves true (o.Leave true framed) = true
leaves false (o.Leave false framed) = true
leaves gives op = false

-- the number of values above the pending number before an operation, if `above` are above it after
-- the operation. Other operations may not occur in between
abbrev pub above_before : Operation → (above : ℕ) → Option ℕ
above_before (o.Push n) (suc m) = Some m
above_before (o.Get known) (suc m) = Some m
above_before (o.Set variable) m = Some m
above_before o.DropLast m = Some (suc m)
above_before o.CopyLast (suc m) = Some m
above_before (o.Apply sign) (suc m) = Some (suc m)
above_before (o.Binary operator turned) (suc m) = Some (suc (suc m))
above_before (o.Index bytes) (suc m) = Some (suc (suc m))
above_before o.Take (suc m) = Some (suc m)
above_before (o.Check shared_alone) m = Some m
above_before o.Read (suc m) = Some (suc m)
above_before o.Write (suc m) = Some (suc (suc m))
above_before (o.Combine by) (suc m) = Some (suc (suc m))
above_before o.PrintNumber m = Some (suc m)
above_before o.PrintByte m = Some (suc m)
above_before o.Heap (suc m) = Some (suc m)
above_before o.Agree (suc m) = Some (suc m)
above_before o.Block (suc m) = Some (suc m)
above_before o.End m = Some m
above_before o.Resume m = Some m
above_before op m = None

abbrev pub before_it : Operation → Option ℕ → Option ℕ
before_it op None = None
before_it op (Some m) = above_before op m

-- the number of values above it before a choice, if `above` are above it at the beginning of one of
-- its branches. Processors that wait at `&&` and `||` have the value of the whole
abbrev pub above_choice : Operation → (onward : Bool) → (above : ℕ) → Option ℕ
above_choice (o.Branch by) onward m = Some (suc m)
above_choice (o.Split IfElse) onward m = Some (suc m)
above_choice (o.Split AndThen) true m = Some (suc m)
above_choice (o.Split AndThen) false (suc m) = Some (suc m)
above_choice (o.Split OrElse) true m = Some (suc m)
above_choice (o.Split OrElse) false (suc m) = Some (suc m)
above_choice op onward m = None

abbrev pub before_way : Operation → (onward : Bool) → Option ℕ → Option ℕ
before_way op onward None = None
before_way op onward (Some m) = above_choice op onward m

-- that many values more are above it
abbrev pub more : (values above : ℕ) → ℕ
more zero m = m
more (suc n) m = more n (suc m)

-- the number of values above it before a call, whose arguments are there in place of its result
abbrev pub above_call : (gives : Bool) → Operation → (above : ℕ) → Option ℕ
above_call true (o.Enter arguments) (suc m) = Some (more arguments m)
above_call false (o.Enter arguments) m = Some (more arguments m)
above_call gives op m = None

abbrev pub before_call : (gives : Bool) → Operation → Option ℕ → Option ℕ
before_call gives op None = None
before_call gives op (Some m) = above_call gives op m

-- `gives` tells which functions give a result
module _ (gives : (function : ℕ) → Bool) where
  -- the number of values above the number that the next `fork` takes, if `after` are above it at
  -- the end of the code
  abbrev pub above : {A : Type 0} → (after : Option ℕ) → Code A → Option ℕ
  above after done = after
  above after (perform t op rest) = before_it op (above after rest)
  above after (choose t op a b rest) = if is_fork op then Some 2
      else before_way op true (above (above after rest) a)
  above after (call t op f opening rest) = before_call (gives f) op (above after rest)
  above after code = None

-- code leads straight to a `fork`, in the part that it is in
abbrev pub leads : {A : Type 0} → Code A → Bool
leads (perform t op rest) = not (ends_part op) && leads rest
leads (choose t op a b rest) = is_fork op || leads rest
leads (call t op f opening rest) = leads rest
leads code = false

-- an agree may occur directly on the number, if the code leads to the `fork`; or an operation
-- leaves the number where it is
abbrev pub MayStand : Operation → (above : Option ℕ) → (leads : Bool) → Type 0
MayStand op None to_fork = Unit {0}
MayStand o.Agree (Some zero) to_fork = to_fork ≡ true
MayStand op (Some m) to_fork = is_some (above_before op m) ≡ true

-- nothing is pending on the branches of a choice, or equally many values are above the number
-- before it, whichever branch is taken
abbrev pub MayChoose : Operation → (behind onward aside : Option ℕ) → Type 0
MayChoose op None onward aside = (onward ≡ None) × (aside ≡ None)
MayChoose op (Some m) onward aside = (is_some (before_way op true onward) ≡ true)
    × (before_way op false aside ≡ before_way op true onward)

-- nothing is pending after a call, or the call finds its arguments above the number
abbrev pub MayCall : (gives : Bool) → Operation → (behind : Option ℕ) → Type 0
MayCall gives op None = Unit {0}
MayCall gives op (Some m) = is_some (above_call gives op m) ≡ true

-- the kinds of functions: `main`, or a called one, which ends with a result or without one, and in
-- which no group begins
abbrev pub MayEnd : (called : Option Bool) → Operation → Type 0
MayEnd None op = Unit {0}
MayEnd (Some gives) op = leaves gives op ≡ true

abbrev pub MayBegin : (called : Option Bool) → Operation → Type 0
MayBegin None op = Unit {0}
MayBegin (Some gives) op = is_begin op ≡ false

-- an operation that isn't a `fork`, and neither begins nor ends a call
abbrev pub stands_alone : Operation → Bool
stands_alone op = not (is_fork op) && not (is_of_call op)

module _ {A : Type 0} (may_call gives : (function : ℕ) → Bool) where
  -- code of a function in which each `fork` keeps these rules, in each part and after it. No number
  -- of its own is pending at a loop or at the end of a function
  abbrev pub Counted : (called : Option Bool) → (after : Option ℕ) → Code A → Type 0
  Counted called after done = Unit {0}
  Counted called after (perform t op rest) = (stands_alone op ≡ true)
      × MayStand op (above gives after rest) (leads rest) × Counted called after rest
  Counted called after (choose t op a b rest) =
      (MayChoose op (above gives after rest) (above gives (above gives after rest) a)
      (above gives (above gives after rest) b)
      × Counted called (above gives after rest) a × Counted called (above gives after rest) b)
      × Counted called after rest × MayBegin called op
  Counted called after (while test body step rest) =
      ((above gives None test ≡ None) × Counted called None test)
      × ((above gives None body ≡ None) × Counted called None body)
      × ((above gives None step ≡ None) × Counted called None step)
      × ((above gives after rest ≡ None) × Counted called after rest)
  Counted called after (until body test rest) =
      ((above gives None body ≡ None) × Counted called None body)
      × ((above gives None test ≡ None) × Counted called None test)
      × ((above gives after rest ≡ None) × Counted called after rest)
  Counted called after (turn test body step rest) =
      ((above gives None test ≡ None) × Counted called None test)
      × ((above gives None body ≡ None) × Counted called None body)
      × ((above gives None step ≡ None) × Counted called None step)
      × ((above gives after rest ≡ None) × Counted called after rest)
  Counted called after (again test body step rest) =
      ((above gives None test ≡ None) × Counted called None test)
      × ((above gives None body ≡ None) × Counted called None body)
      × ((above gives None step ≡ None) × Counted called None step)
      × ((above gives after rest ≡ None) × Counted called after rest)
  Counted called after (quit t op rest) = (is_fork op ≡ false)
      × ((above gives after rest ≡ None) × Counted called after rest)
  Counted called after (break rest) = (above gives after rest ≡ None) × Counted called after rest
  Counted called after (continue rest) = (above gives after rest ≡ None) × Counted called after rest
  Counted called after (call t op f opening rest) =
      (is_enter op ≡ true) × (may_call f ≡ true)
      × ((above gives None opening ≡ None) × Counted (Some (gives f)) None opening)
      × (MayCall (gives f) op (above gives after rest) × Counted called after rest)
  Counted called after (ends t op rest) = MayEnd called op
      × ((above gives after rest ≡ None) × Counted called after rest)

  abbrev pub Idle : (called : Option Bool) → Code A → Type 0
  Idle called code = (above gives None code ≡ None) × Counted called None code

  -- `m` values are above the number where the code begins. On the way to the `fork` itself the code
  -- leads to it
  pub record At (called : Option Bool) (on_way : Bool) (after : Option ℕ) (m : ℕ)
      (code : Code A) : Type 0 where
    pub there : above gives after code ≡ Some m
    pub counted : Counted called after code
    pub leading : on_way ≡ true → leads code ≡ true

-- all ends in the code leave with a result, or all leave without one
abbrev pub all_leave : (gives : Bool) → Code ℕ → Bool
all_leave g done = true
all_leave g (perform t op rest) = all_leave g rest
all_leave g (choose t op a b rest) = all_leave g a && (all_leave g b && all_leave g rest)
all_leave g (while test body step rest) =
    all_leave g test && (all_leave g body && (all_leave g step && all_leave g rest))
all_leave g (until body test rest) = all_leave g body && (all_leave g test && all_leave g rest)
all_leave g (turn test body step rest) =
    all_leave g test && (all_leave g body && (all_leave g step && all_leave g rest))
all_leave g (again test body step rest) =
    all_leave g test && (all_leave g body && (all_leave g step && all_leave g rest))
all_leave g (quit t op rest) = all_leave g rest
all_leave g (break rest) = all_leave g rest
all_leave g (continue rest) = all_leave g rest
all_leave g (call t op f opening rest) = all_leave g rest
all_leave g (ends t op rest) = leaves g op && all_leave g rest

-- the pending number of a call is the first of the pending numbers; the others belong to calls that
-- wait
abbrev pub has_number : (above : Option ℕ) → (values : List ℕ) → (others : List ℕ → Bool)
    → (numbers : List ℕ) → Bool
has_number None vs others ns = others ns
has_number (Some m) vs others [] = false
has_number (Some m) vs others (n ∷ ns) = (n == last (before m vs)) && others ns

-- a call that waits doesn't have a result among its values yet
abbrev pub waits_with : (gives : Bool) → (above : Option ℕ) → (values : List ℕ)
    → (others : List ℕ → Bool) → (numbers : List ℕ) → Bool
waits_with true (Some zero) vs others ns = false
waits_with true (Some (suc m)) vs others ns = has_number (Some m) vs others ns
waits_with gives x vs others ns = has_number x vs others ns

abbrev pub is_none : List ℕ → Bool
is_none [] = true
is_none (n ∷ ns) = false

-- what follows from each of two tests follows if one of them holds
abbrev pub of_either : {X : Type 0} (a b : Bool) → (a || b) ≡ true → (a ≡ true → X)
    → (b ≡ true → X) → X
of_either true b h first second = first refl
of_either false b h first second = second h

-- one more than `k` if there is a pending number, else `k`
abbrev pub one_more : Option ℕ → ℕ → ℕ
one_more None k = k
one_more (Some m) k = suc k

abbrev pub as_many : (x : Option ℕ) (vs : List ℕ) (others : List ℕ → Bool) (ns : List ℕ) (k : ℕ)
    → ((ms : List ℕ) → others ms ≡ true → length ms ≡ k)
    → has_number x vs others ns ≡ true → length ns ≡ one_more x k
as_many None vs others ns k size h = size ns h
as_many (Some m) vs others [] k size h = absurd (false≢true h)
as_many (Some m) vs others (n ∷ ns) k size h =
    ap (λ (i : ℕ). suc i) (size ns (and_parts (n == last (before m vs)) (others ns) h).1)

abbrev pub as_many_waiting : (g : Bool) (x : Option ℕ) (vs : List ℕ) (others : List ℕ → Bool)
    (ns : List ℕ) (k : ℕ) → ((ms : List ℕ) → others ms ≡ true → length ms ≡ k)
    → waits_with g x vs others ns ≡ true → length ns ≡ one_more x k
as_many_waiting true None vs others ns k size h = size ns h
as_many_waiting true (Some zero) vs others ns k size h = absurd (false≢true h)
as_many_waiting true (Some (suc m)) vs others ns k size h = as_many (Some m) vs others ns k size h
as_many_waiting false x vs others ns k size h = as_many x vs others ns k size h

module _ (gives : (function : ℕ) → Bool) where
  -- the pending numbers of the calls that wait for the running function, which leaves with a result
  -- or without one
  abbrev pub are_waiting : (running : Code ℕ) → List (Code ℕ) → List Call
      → (numbers : List ℕ) → Bool
  are_waiting running [] calls ns = is_none ns
  are_waiting running (code ∷ codes) [] ns = false
  are_waiting running (code ∷ codes) (c ∷ calls) ns =
      (all_leave true running && waits_with true (above gives None code) c.values
      (λ ms. are_waiting code codes calls ms) ns)
      || (all_leave false running && waits_with false (above gives None code) c.values
      (λ ms. are_waiting code codes calls ms) ns)

  abbrev pub many_waiting : List (Code ℕ) → ℕ
  many_waiting [] = 0
  many_waiting (code ∷ codes) = one_more (above gives None code) (many_waiting codes)

  abbrev pub all_waiting : (running : Code ℕ) (codes : List (Code ℕ)) (calls : List Call)
      (ns : List ℕ) → are_waiting running codes calls ns ≡ true
      → length ns ≡ many_waiting codes
  all_waiting running [] calls [] h = refl
  all_waiting running [] calls (n ∷ ns) h = absurd (false≢true h)
  all_waiting running (code ∷ codes) [] ns h = absurd (false≢true h)
  all_waiting running (code ∷ codes) (c ∷ calls) ns h =
      let others : List ℕ → Bool = λ ms. are_waiting code codes calls ms in
      let size : (g : Bool)
      → (all_leave g running && waits_with g (above gives None code) c.values others ns) ≡ true
      → length ns ≡ many_waiting (code ∷ codes)
      = λ g e. as_many_waiting g (above gives None code) c.values others ns (many_waiting codes)
      (all_waiting code codes calls)
      (and_parts (all_leave g running)
      (waits_with g (above gives None code) c.values others ns) e).1 in
      of_either
      (all_leave true running && waits_with true (above gives None code) c.values others ns)
      (all_leave false running && waits_with false (above gives None code) c.values others ns) h
      (size true) (size false)

  abbrev pub fork_counts : Counts Work
  fork_counts = record {
    pending = λ work. one_more (above gives None work.left) (many_waiting work.callers);
    are_pending = λ work p ns. has_number (above gives None work.left) (values p)
        (λ ms. are_waiting work.left work.callers p.callers ms) ns;
    many = λ work p ns h. as_many (above gives None work.left) (values p)
        (λ ms. are_waiting work.left work.callers p.callers ms) ns (many_waiting work.callers)
        (all_waiting work.left work.callers p.callers) h;
  }

-- code that keeps these rules keeps the number up to the `fork`, if its parts are nested
abbrev pub CodeIsCounted : Type 0
CodeIsCounted =
    (may_call gives : (function : ℕ) → Bool) (bodies : (binding : ℕ) → Code ℕ)
    → ((function : ℕ) → Shape false false of_function (bodies function))
    → ((function : ℕ) → may_call function ≡ true
    → Idle may_call gives (Some (gives function)) (bodies function))
    → (main : ℕ) → Idle may_call gives None (bodies main)
    → IsCounted (next bodies) all_outs (fork_counts gives) (going (bodies main) [])
