use Rattle.fk_syntax.specs.View.{named}
use Rattle.fk_types_structs.specs.Whole.{structs_in}
use Rattle.fk_types_bindings.proofs.KnownLemmas.{IsTold-untyped, IsTold-no_struct, IsTold-member}
use Rattle.fk_types_bindings.proofs.known.TypedProgram.words_before.Goals as goal

pub returns-in_err-kind : goal.returns-in_err-kind
returns-in_err-kind c = λ env program known. IsTold-untyped env program c.args.self.now.types.now known.types c.args.whole c.args.is_arrow (named c.args.member.now) c.from_residual.result c.from_residual.ensures c.in_err-kind.ensures

pub returns-in_err-index : goal.returns-in_err-index
returns-in_err-index c = λ env program known. IsTold-no_struct env program c.args.self.now.types.now known.types c.args.whole c.args.is_arrow (named c.args.member.now) c.from_residual-in_err-index.result c.in_ok-kind.kind c.from_residual-in_err-index.ensures c.in_ok-kind.ensures c.in_err-index.ensures

pub returns : goal.returns
returns c = λ env program known. IsTold-member env program c.args.self.now.types.now known.types c.args.whole c.args.is_arrow (named c.args.member.now) c.offset.result c.in_ok-kind.kind c.in_ok-index.index (structs_in c.args.self.now.structs.now)
    c.in_ok-kind.ensures c.in_ok-index.ensures known.structs c.offset.ensures.found c.offset.ensures.right
