use Rattle.std.proofs.Common.{◌≡◌, ◌%◌, sym, ◌∙◌, codes, arith}
use Rattle.std.specs.Fmt.{decimal}
use Rattle.std.proofs.lemmas.Result.{IfOk-weaker}
use Rattle.fk_top_selftest.proofs.Statements.{of_kind, two, three, four}
use Rattle.fk_top_selftest.proofs.text.statement.Goals as goal

pub returns-in-0 : goal.returns-in-0
returns-in-0 c =
    let i = c.args.number in
    IfOk-weaker c.format.result _ _ (λ text e. e ∙ sym (of_kind i 0 c.in-0.is ∙ two (codes "mpadd(&c[") (decimal (i % 8)) (codes "], ") _ (codes ");"))) c.format.ensures.ok

pub returns-in-1 : goal.returns-in-1
returns-in-1 c =
    let i = c.args.number in
    IfOk-weaker c.format-in-1.result _ _ (λ text e. e ∙ sym (of_kind i 1 c.in-1.is ∙ two (codes "if ($ % 2 == 0) mpadd(&c[") (decimal (i % 8)) (codes "], 1); else mpadd(&c[") _ (codes "], 2);"))) c.format-in-1.ensures.ok

pub returns-in-2 : goal.returns-in-2
returns-in-2 c =
    let i = c.args.number in
    IfOk-weaker c.format-in-2.result _ _ (λ text e. e ∙ sym (of_kind i 2 c.in-2.is ∙ two (codes "turn(") (decimal (i % 8)) (codes ", ") _ (codes ");"))) c.format-in-2.ensures.ok

pub returns-in-3 : goal.returns-in-3
returns-in-3 c =
    let i = c.args.number in
    IfOk-weaker c.format-in-3.result _ _ (λ text e. e ∙ sym (of_kind i 3 c.in-3.is ∙ four (codes "fork (") _ (codes "; @=$%") _ (codes "; $=$/") _ (codes ") mpadd(&c[") (decimal (i % 8)) (codes "], groupsize());"))) c.format-in-3.ensures.ok

pub returns-in-4 : goal.returns-in-4
returns-in-4 c =
    let i = c.args.number in
    IfOk-weaker c.format-in-4.result _ _ (λ text e. e ∙ sym (of_kind i 4 c.in-4.is ∙ two (codes "farm mpadd(&c[") (decimal (i % 8)) (codes "], ") _ (codes ");"))) c.format-in-4.ensures.ok

pub returns-in_default : goal.returns-in_default
returns-in_default c =
    let i = c.args.number in
    let five : i % 6 ≡ 5 = omega (arith, c.in_default) in
    IfOk-weaker c.format-in_default.result _ _ (λ text e. e ∙ sym (of_kind i 5 five ∙ three (codes "seq c[") (decimal (i % 8)) (codes "] = c[") (decimal (i % 8)) (codes "] + ") _ (codes ";"))) c.format-in_default.ensures.ok
