-- The rules that a token breaks, by the surroundings that the code keeps.
use Rattle.std.specs.Prelude.{◌≡◌, ◌⊎◌, Bool, true, false, ◌&&◌, Option, Some, None}
use Rattle.fk_syntax.specs.declared.place.Place.{Place}
use Rattle.fk_syntax.specs.declared.program.Mode.TheVariants.{Sync, Async, Straight}
use Rattle.fk_check_rules.specs.declared.rule.Rule.{Rule}
use Rattle.fk_check_rules.specs.declared.rule.Rule.TheVariants as r
use Rattle.fk_regions.specs.declared.around.Around.{Around}
use Rattle.fk_regions.specs.declared.around.Region.{Region}
use Rattle.fk_regions.specs.declared.around.Region.TheVariants.{Synchronous, Asynchronous, Neither}
use Rattle.fk_regions.specs.declared.around.Loops.{Loops}
use Rattle.fk_regions.specs.declared.around.Loops.TheVariants.{Outside, Inside, Beyond}
use Rattle.fk_regions.specs.declared.token.Word.{Word}
use Rattle.fk_regions.specs.declared.token.Word.TheVariants as w
use Rattle.fk_regions.specs.declared.token.Spelling.{Spelling}
use Rattle.fk_regions.specs.declared.token.Spelling.TheVariants as s
use Rattle.fk_regions.specs.declared.callee.Callee.{Callee}
use Rattle.fk_regions.specs.declared.callee.Callee.TheVariants as c
use Rattle.fk_regions.specs.Tokens.{TokenIn}

-- the rule, unless the region is synchronous
abbrev pub unless_synchronous : Region → Rule → Option Rule
unless_synchronous Synchronous rule = None
unless_synchronous Asynchronous rule = Some rule
unless_synchronous Neither rule = Some rule

-- the rule, if the region is synchronous
abbrev pub where_synchronous : Region → Rule → Option Rule
where_synchronous Synchronous rule = Some rule
where_synchronous Asynchronous rule = None
where_synchronous Neither rule = None

-- the rule, if a test fails
abbrev pub unless : Bool → Rule → Option Rule
unless true rule = None
unless false rule = Some rule

-- the rule, if a test holds
abbrev pub where_true : Bool → Rule → Option Rule
where_true true rule = Some rule
where_true false rule = None

abbrev pub called_rule : Region → Spelling → Option Callee → Option Rule
called_rule region spelling None = None
called_rule region spelling (Some (c.Function Sync)) = unless_synchronous region r.SyncCalledOutside
called_rule region spelling (Some (c.Function Async)) = where_synchronous region r.AsyncCalledInside
called_rule region spelling (Some (c.Function Straight)) = None
called_rule region s.Shalloc (Some c.Predeclared) = unless_synchronous region r.ShallocOutside
called_rule region s.Other (Some c.Predeclared) = None

abbrev pub leaving_rule : Loops → Option Rule
leaving_rule Outside = Some r.NoLoop
leaving_rule Inside = None
leaving_rule Beyond = Some r.LoopLeavesBody

abbrev pub misplaced_rule : Around → Word → Option Callee → Option Rule
misplaced_rule around w.Start callee = unless around.in_main r.StartNotInMain
misplaced_rule around w.Farm callee = unless_synchronous around.region r.FarmOutside
misplaced_rule around w.Seq callee = unless_synchronous around.region r.SeqOutside
misplaced_rule around w.Fork callee = unless_synchronous around.region r.ForkOutside
misplaced_rule around w.Barrier callee = where_synchronous around.region r.BarrierInside
misplaced_rule around (w.Name spelling) callee = called_rule around.region spelling callee
misplaced_rule around w.Break callee = leaving_rule around.loops
misplaced_rule around w.Continue callee = leaving_rule around.loops
misplaced_rule around w.Return callee = where_true around.in_body r.ReturnFromBody
misplaced_rule around w.If callee = None
misplaced_rule around w.Loop callee = None
misplaced_rule around w.Branching callee = None
misplaced_rule around w.Other callee = None

abbrev pub is_not_straight : Option Callee → Bool
is_not_straight None = false
is_not_straight (Some (c.Function Sync)) = true
is_not_straight (Some (c.Function Async)) = true
is_not_straight (Some (c.Function Straight)) = false
is_not_straight (Some c.Predeclared) = false

abbrev pub is_deciding : Word → Option Callee → Bool
is_deciding w.If callee = true
is_deciding w.Loop callee = true
is_deciding w.Branching callee = true
is_deciding w.Barrier callee = true
is_deciding (w.Name spelling) callee = is_not_straight callee
is_deciding _ callee = false

abbrev pub straight_rule : Around → Word → Option Callee → Option Rule
straight_rule around word callee =
    where_true (around.straight && is_deciding word callee) r.NotStraight

-- the rules that one token breaks, at its place
abbrev pub Breaks : Option Callee → TokenIn Around → Place → Rule → Type 0
Breaks callee token at rule =
    ((at ≡ token.spot.place) × (misplaced_rule token.around token.word callee ≡ Some rule))
    ⊎ ((at ≡ token.spot.place) × (straight_rule token.around token.word callee ≡ Some rule))
