-- The numbers of the rules.
use Rattle.std.specs.Prelude.{ℕ}
use Rattle.fk_check_rules.specs.declared.rule.Rule.{Rule}
use Rattle.fk_check_rules.specs.declared.rule.Rule.TheVariants as r

abbrev pub number_of : Rule → ℕ
number_of r.Undeclared = 1
number_of r.DeclaredTwice = 2
number_of r.HeadersDiffer = 3
number_of r.NoMain = 4
number_of r.MainCalled = 5
number_of r.NoStruct = 6
number_of r.NoVariable = 7
number_of r.WrongSize = 8
number_of r.NotConstant = 9
number_of r.WrongOperands = 10
number_of r.NoTarget = 11
number_of r.NoConversion = 12
number_of r.WrongCount = 13
number_of r.NoFunction = 14
number_of r.NoMember = 15
number_of r.NoPointer = 16
number_of r.NoCondition = 17
number_of r.WrongReturn = 18
number_of r.NoValue = 19
number_of r.WholeAssigned = 20
number_of r.StartNotInMain = 21
number_of r.FarmOutside = 22
number_of r.SeqOutside = 23
number_of r.ForkOutside = 24
number_of r.BarrierInside = 25
number_of r.SyncCalledOutside = 26
number_of r.AsyncCalledInside = 27
number_of r.NotStraight = 28
number_of r.ShallocOutside = 29
number_of r.NoLoop = 30
number_of r.ReturnFromBody = 31
number_of r.LoopLeavesBody = 32
number_of r.ReturnFromSplit = 33
number_of r.BreakFromSplit = 34
number_of r.ContinueFromSplit = 35
number_of r.PrivateAddress = 36
number_of r.PrivateArray = 37
number_of r.PrivateStruct = 38
number_of r.SharedOutside = 39
number_of r.SharedParameter = 40
