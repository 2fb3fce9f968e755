use Rattle.std.proofs.Common.{◌<◌, length, sym, ap, subst, ◌∙◌, arith}
use Rattle.fk_machine.specs.Fits.{IsInMachine}
use Rattle.fk_machine.specs.Reach.{cleared, stored}
use Rattle.fk_machine.specs.Does.{reach_of}
use Rattle.fk_machine.proofs.Words.{index_set}
use Rattle.fk_machine.proofs.bus.HartBus.store_word.Goals as goal

pub returns-in-SharedWord-clause-stored : goal.returns-in-SharedWord-clause-stored
returns-in-SharedWord-clause-stored c =
    let r = reach_of c.args.self.now in
    let s = c.args.self.now.shared.now in
    let i = c.in-SharedWord.index in
    let within = subst IsInMachine c.in-SharedWord.is c.requires.within in
    let inside : i < length s.words.items = omega (arith, within, s.sized, s.words.ok.0) in
    ap (λ after. record r { shared = after }) c.clear.ensures.reserved
    ∙ ap (λ m. record r { shared = record r.shared { words = m; reserved = cleared r.shared.reserved c.args.word } }) (index_set s.words.items i c.args.value inside)
    ∙ ap (λ p. stored r c.args.number c.args.word p c.args.value) (sym c.in-SharedWord.is)

pub returns-in-ControlWord-clause-stored : goal.returns-in-ControlWord-clause-stored
returns-in-ControlWord-clause-stored c =
    let r = reach_of c.args.self.now in
    let s = c.args.self.now.shared.now in
    let i = c.in-ControlWord.index in
    let within = subst IsInMachine c.in-ControlWord.is c.requires.within in
    let inside : i < length s.control.items = omega (arith, within, s.control_sized, s.control.ok.0) in
    ap (λ after. record r { shared = after }) c.clear-in-ControlWord.ensures.reserved
    ∙ ap (λ m. record r { shared = record r.shared { control = m; reserved = cleared r.shared.reserved c.args.word } }) (index_set s.control.items i c.args.value inside)
    ∙ ap (λ p. stored r c.args.number c.args.word p c.args.value) (sym c.in-ControlWord.is)
