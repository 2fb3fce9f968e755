use Rattle.std.proofs.Common.{None, Some, ◌*◌, ap, sym, ◌∙◌, arith}
use Rattle.std.proofs.lemmas.Option.{none-some, same_Some}
use Rattle.fk_syntax.specs.View.{type_of}
use Rattle.fk_types_structs.specs.Whole.{structs_in}
use Rattle.fk_types_bindings.proofs.KnownLemmas.{IsTold-unspelled, IsTold-size}
use Rattle.fk_types_bindings.proofs.SizeLemmas.{capped-words}
use Rattle.fk_types_bindings.proofs.known.TypedProgram.size.Goals as goal

pub returns-in_err-kind : goal.returns-in_err-kind
returns-in_err-kind c = λ env program spot known. IsTold-unspelled env program (structs_in c.args.self.now.structs.now) known.structs spot (type_of c.args.kind.now) c.from_residual.result c.from_residual.ensures c.in_err-kind.ensures

pub returns-in_err-words : goal.returns-in_err-words
returns-in_err-words c = λ env program spot known.
    let structs = structs_in c.args.self.now.structs.now in
    IsTold-size env program structs known.structs spot (type_of c.args.kind.now) None c.from_residual-in_err-words.result c.in_ok-kind.kind c.in_ok-kind.ensures
    (capped-words structs c.in_ok-kind.kind None c.in_err-words.ensures.some c.in_err-words.ensures.none) (λ w e. absurd (none-some w e)) (λ number e. absurd (none-some number (sym c.from_residual-in_err-words.ensures ∙ e)))

pub overflow_mul-result : goal.overflow_mul-result
overflow_mul-result c = omega (arith, c.in_ok-words.ensures.some.2)

pub returns : goal.returns
returns c = λ env program spot known.
    let structs = structs_in c.args.self.now.structs.now in
    let words = c.in_ok-words.words in
    IsTold-size env program structs known.structs spot (type_of c.args.kind.now) (Some words) (Some (4 * words)) c.in_ok-kind.kind c.in_ok-kind.ensures
    (capped-words structs c.in_ok-kind.kind (Some words) c.in_ok-words.ensures.some c.in_ok-words.ensures.none) (λ w e. ap (λ k. Some (4 * k)) (same_Some words w e))
    (λ number e. let some = c.in_ok-words.ensures.some in (some.0, some.1, sym (same_Some (4 * words) number e) ∙ ap (λ k. 4 * k) some.2))
