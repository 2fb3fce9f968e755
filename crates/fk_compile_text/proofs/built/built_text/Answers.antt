use Rattle.std.proofs.Common.{sym, subst}
use Rattle.fk_compile_text.specs.Refusal.{IsRefusedText}
use Rattle.fk_compile_text.proofs.Parts.{passes_on}
use Rattle.fk_compile_text.proofs.built.built_text.Goals as goal

-- want of memory refuses no text
pub returns-in_err-lookup-clause-refused : goal.returns-in_err-lookup-clause-refused
returns-in_err-lookup-clause-refused c =
    passes_on c.from_residual-in_err-lookup.result c.in_err-lookup.field-0.0 c.args.source.now c.from_residual-in_err-lookup.ensures.1
    (subst (IsRefusedText c.args.source.now) (sym c.in_err-lookup.ensures.memory.1) tt)
