-- The state of a visitor after it has been shown code: the operations in their order, and the
-- structure of choices, loops and calls around them.
use Rattle.std.specs.Prelude.{◌≡◌, ℕ, Option}
use Rattle.fk_meaning_forms.specs.Code.{done, perform, choose, while, until, turn, again, quit}
use Rattle.fk_meaning_forms.specs.Code.{break, continue, call, ends}
use Rattle.fk_meaning_forms.specs.Expressions as f
use Rattle.fk_meaning_forms.specs.Expressions.{Coded, Signature, Evaluation}
use Rattle.fk_layout_walk.specs.declared.visitor.Event.{Event}
use Rattle.fk_layout_walk.specs.declared.visitor.Event.TheVariants as v
use Rattle.fk_layout_walk.specs.declared.visitor.Mark.{Mark}
use Rattle.fk_layout_walk.specs.declared.location.ResultLocation.{ResultLocation}
use Rattle.fk_layout_walk.specs.Shown.{shown}
use Rattle.fk_layout_walk.specs.Location.{behind, behind_value}

module _ {S : Type 0} (after : S → Event → S) (mark : S → Mark)
    (functions : (binding : ℕ) → Signature) where
  -- both branches of a choice begin with the same state, and the second one is shown after the
  -- first. A loop that is under way doesn't occur in a text; of such a loop only the operations are
  -- shown
  abbrev pub through : S → Coded → S
  through s done = s
  through s (perform t op rest) = through (after s (v.Perform (shown op) t)) rest
  through s (choose t op a b rest) =
      let first = after s (v.Choose (shown op) t) in
      let second = through first a in
      let third = through (after second (v.Aside (mark first))) b in
      through (after third (v.Joined (mark s) (mark second))) rest
  through s (while test body step rest) =
      let tested = through (after s v.While) test in
      let turned = through (after tested v.Part) body in
      let stepped = through (after turned v.Part) step in
      through (after stepped v.Behind) rest
  through s (until body test rest) =
      let turned = through (after s v.Until) body in
      let tested = through (after turned v.Part) test in
      through (after tested v.Behind) rest
  through s (turn test body step rest) = through (through (through (through s test) body) step) rest
  through s (again test body step rest) =
      through (through (through (through s test) body) step) rest
  through s (quit t op rest) = through (after s (v.Quit (shown op) t)) rest
  through s (break rest) = through (after s v.Break) rest
  through s (continue rest) = through (after s v.Continue) rest
  through s (call t op f opening rest) =
      let entered = after s (v.Call (shown op) t f) in
      through (after (through entered opening) (v.Returned (mark entered) (functions f).void)) rest
  through s (ends t op rest) = through (after s (v.Ends (shown op) t)) rest

  -- an expression leads a visitor from one state to another: for each continuation `k` of the code,
  -- what follows the expression is what `k` gives for the location of its result, or nothing
  abbrev pub Leads : (from to : S) → Option ResultLocation → Evaluation → Type 0
  Leads from to result e = (k : f.ResultLocation → Coded)
      → through from (e k) ≡ through to (behind result k)

  abbrev pub LeadsOn : (from to : S) → Option Unit → (Coded → Coded) → Type 0
  LeadsOn from to result f = (rest : Coded)
      → through from (f rest) ≡ through to (behind_value result rest)

  abbrev pub Passes : (from to : S) → (Coded → Coded) → Type 0
  Passes from to f = (rest : Coded) → through from (f rest) ≡ through to rest
