use Rattle.std.proofs.Common.{ap, ◌∙◌}
use Rattle.fk_syntax.specs.View.{named}
use Rattle.fk_types_bindings.specs.Known.{number_meant}
use Rattle.fk_types_bindings.proofs.KnownLemmas.{IsTold-name}
use Rattle.fk_types_bindings.proofs.known.TypedProgram.meant.Goals as goal

pub returns : goal.returns
returns c = λ env program known. IsTold-name env program c.args.self.now.names.now known.names (named c.args.name.now) c.number_meant.result (c.number_meant.ensures ∙ ap number_meant c.meaning.ensures)
