-- An operation that may be done has a request that can be served.
use Rattle.std.proofs.Common.{◌≡◌, true, refl}
use Rattle.std.specs.Prelude.{is_some}
use Rattle.std.proofs.lemmas.Bool.{and_from}
use Rattle.fk_meaning_operation.specs.declared.operation.Multiprefix.{Multiprefix}
use Rattle.fk_meaning_operation.specs.declared.operation.Multiprefix.TheVariants.{MpAdd, MpMax, MpAnd, MpOr}
use Rattle.fk_meaning_operation.specs.declared.operation.Operation.{Operation}
use Rattle.fk_meaning_operation.specs.declared.operation.Operation.TheVariants as o
use Rattle.fk_meaning_operation.specs.Kinds.{multiprefix_kind, multiprefix_of}
use Rattle.fk_meaning_store.specs.Serve.{can_serve, may_use}
use Rattle.fk_meaning.specs.Request.{address, request}
use Rattle.fk_meaning.specs.Round.{Runner}
use Rattle.fk_core.specs.Next.{Position}
use Rattle.fk_sim_block.specs.Ready.{MayDo}
use Rattle.fk_replay_steps.specs.Served.{CanAsk}

is_multiprefix : (by : Multiprefix) → is_some (multiprefix_of (multiprefix_kind by)) ≡ true
is_multiprefix MpAdd = refl
is_multiprefix MpMax = refl
is_multiprefix MpAnd = refl
is_multiprefix MpOr = refl

can_ask : (operation : Operation) (r : Runner Position) → MayDo operation r → can_serve 12 (request operation r.has) ≡ true
can_ask o.Read r may = may
can_ask o.Write r may = may
can_ask (o.Combine by) r may = and_from (is_some (multiprefix_of (multiprefix_kind by))) (may_use true (address r.has)) (is_multiprefix by) may
can_ask o.PrintNumber r may = refl
can_ask o.PrintByte r may = refl
can_ask o.Heap r may = refl
can_ask (o.Check shared_alone) r may = refl
can_ask operation r may = refl

pub asks : (operation : Operation) (r : Runner Position) → MayDo operation r → CanAsk operation r.has
asks operation r may = can_ask operation r may
