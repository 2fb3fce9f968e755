-- Words are at most one command.
use Rattle.std.proofs.Common.{◌≡◌, List, Option, Some, false, codes, refl, sym, ◌∙◌, subst}
use Rattle.std.specs.Str.{bytes_eq}
use Rattle.clap.specs.Walk.{Row}
use Rattle.fk_top_words.specs.Arguments.{Text}
use Rattle.fk_top_words.specs.Asked.{AsksFor, AsksOf}
use Rattle.fk_top_words.specs.Command.{Command, Run, Build, Exec, ListCode, Elf, Unelf, Audit, Trace, Replay, Selftest, Locks, OneCommand}
use Rattle.fk_top_words.proofs.Whole.{asked, differ}

-- a name is that of one command
apart : {A : Type 0} (name a b : Text) → bytes_eq a b ≡ false → name ≡ a → name ≡ b → A
apart name a b other e f = absurd (differ a b other (sym e ∙ f))

same_asked : (name : Text) (rows : List Row) (c d : Command) → AsksFor name rows c → AsksFor name rows d → c ≡ d
same_asked name rows (Run file harts cycles show) (Run file' harts' cycles' show') asks other =
    let f : Some file ≡ Some file' = sym asks.1 ∙ other.1 in
    let h : Some harts ≡ Some harts' = sym asks.2.harts_are ∙ other.2.harts_are in
    let n : Some cycles ≡ Some cycles' = sym asks.2.cycles_are ∙ other.2.cycles_are in
    let s : show ≡ show' = sym asks.3 ∙ other.3 in
    cc
same_asked name rows (Build file image) (Build file' image') asks other =
    let f : Some file ≡ Some file' = sym asks.1 ∙ other.1 in
    let i : Some image ≡ Some image' = sym asks.2 ∙ other.2 in
    cc
same_asked name rows (Exec file harts cycles) (Exec file' harts' cycles') asks other =
    let f : Some file ≡ Some file' = sym asks.1 ∙ other.1 in
    let h : Some harts ≡ Some harts' = sym asks.2.harts_are ∙ other.2.harts_are in
    let n : Some cycles ≡ Some cycles' = sym asks.2.cycles_are ∙ other.2.cycles_are in
    cc
same_asked name rows (Audit file harts cycles) (Audit file' harts' cycles') asks other =
    let f : Some file ≡ Some file' = sym asks.1 ∙ other.1 in
    let h : Some harts ≡ Some harts' = sym asks.2.harts_are ∙ other.2.harts_are in
    let n : Some cycles ≡ Some cycles' = sym asks.2.cycles_are ∙ other.2.cycles_are in
    cc
same_asked name rows (Trace file harts cycles) (Trace file' harts' cycles') asks other =
    let f : Some file ≡ Some file' = sym asks.1 ∙ other.1 in
    let h : Some harts ≡ Some harts' = sym asks.2.harts_are ∙ other.2.harts_are in
    let n : Some cycles ≡ Some cycles' = sym asks.2.cycles_are ∙ other.2.cycles_are in
    cc
same_asked name rows (ListCode image) (ListCode image') asks other =
    let f : Some image ≡ Some image' = sym asks.1 ∙ other.1 in
    cc
same_asked name rows (Elf image file) (Elf image' file') asks other =
    let i : Some image ≡ Some image' = sym asks.1 ∙ other.1 in
    let f : Some file ≡ Some file' = sym asks.2 ∙ other.2 in
    cc
same_asked name rows (Unelf file image) (Unelf file' image') asks other =
    let f : Some file ≡ Some file' = sym asks.1 ∙ other.1 in
    let i : Some image ≡ Some image' = sym asks.2 ∙ other.2 in
    cc
same_asked name rows (Run file harts cycles show) (Build file' image') asks other = apart name (codes "run") (codes "build") refl asks.0 other.0
same_asked name rows (Run file harts cycles show) (Exec image' harts' cycles') asks other = apart name (codes "run") (codes "exec") refl asks.0 other.0
same_asked name rows (Run file harts cycles show) (ListCode image') asks other = apart name (codes "run") (codes "list") refl asks.0 other.0
same_asked name rows (Run file harts cycles show) (Elf image' file') asks other = apart name (codes "run") (codes "elf") refl asks.0 other.0
same_asked name rows (Run file harts cycles show) (Unelf file' image') asks other = apart name (codes "run") (codes "unelf") refl asks.0 other.0
same_asked name rows (Build file image) (Run file' harts' cycles' show') asks other = apart name (codes "build") (codes "run") refl asks.0 other.0
same_asked name rows (Build file image) (Exec image' harts' cycles') asks other = apart name (codes "build") (codes "exec") refl asks.0 other.0
same_asked name rows (Build file image) (ListCode image') asks other = apart name (codes "build") (codes "list") refl asks.0 other.0
same_asked name rows (Build file image) (Elf image' file') asks other = apart name (codes "build") (codes "elf") refl asks.0 other.0
same_asked name rows (Build file image) (Unelf file' image') asks other = apart name (codes "build") (codes "unelf") refl asks.0 other.0
same_asked name rows (Exec image harts cycles) (Run file' harts' cycles' show') asks other = apart name (codes "exec") (codes "run") refl asks.0 other.0
same_asked name rows (Exec image harts cycles) (Build file' image') asks other = apart name (codes "exec") (codes "build") refl asks.0 other.0
same_asked name rows (Exec image harts cycles) (ListCode image') asks other = apart name (codes "exec") (codes "list") refl asks.0 other.0
same_asked name rows (Exec image harts cycles) (Elf image' file') asks other = apart name (codes "exec") (codes "elf") refl asks.0 other.0
same_asked name rows (Exec image harts cycles) (Unelf file' image') asks other = apart name (codes "exec") (codes "unelf") refl asks.0 other.0
same_asked name rows (ListCode image) (Run file' harts' cycles' show') asks other = apart name (codes "list") (codes "run") refl asks.0 other.0
same_asked name rows (ListCode image) (Build file' image') asks other = apart name (codes "list") (codes "build") refl asks.0 other.0
same_asked name rows (ListCode image) (Exec image' harts' cycles') asks other = apart name (codes "list") (codes "exec") refl asks.0 other.0
same_asked name rows (ListCode image) (Elf image' file') asks other = apart name (codes "list") (codes "elf") refl asks.0 other.0
same_asked name rows (ListCode image) (Unelf file' image') asks other = apart name (codes "list") (codes "unelf") refl asks.0 other.0
same_asked name rows (Elf image file) (Run file' harts' cycles' show') asks other = apart name (codes "elf") (codes "run") refl asks.0 other.0
same_asked name rows (Elf image file) (Build file' image') asks other = apart name (codes "elf") (codes "build") refl asks.0 other.0
same_asked name rows (Elf image file) (Exec image' harts' cycles') asks other = apart name (codes "elf") (codes "exec") refl asks.0 other.0
same_asked name rows (Elf image file) (ListCode image') asks other = apart name (codes "elf") (codes "list") refl asks.0 other.0
same_asked name rows (Elf image file) (Unelf file' image') asks other = apart name (codes "elf") (codes "unelf") refl asks.0 other.0
same_asked name rows (Unelf file image) (Run file' harts' cycles' show') asks other = apart name (codes "unelf") (codes "run") refl asks.0 other.0
same_asked name rows (Unelf file image) (Build file' image') asks other = apart name (codes "unelf") (codes "build") refl asks.0 other.0
same_asked name rows (Unelf file image) (Exec image' harts' cycles') asks other = apart name (codes "unelf") (codes "exec") refl asks.0 other.0
same_asked name rows (Unelf file image) (ListCode image') asks other = apart name (codes "unelf") (codes "list") refl asks.0 other.0
same_asked name rows (Unelf file image) (Elf image' file') asks other = apart name (codes "unelf") (codes "elf") refl asks.0 other.0
same_asked name rows (Run file harts cycles show) (Audit file' harts' cycles') asks other = apart name (codes "run") (codes "audit") refl asks.0 other.0
same_asked name rows (Run file harts cycles show) (Trace file' harts' cycles') asks other = apart name (codes "run") (codes "trace") refl asks.0 other.0
same_asked name rows (Build file image) (Audit file' harts' cycles') asks other = apart name (codes "build") (codes "audit") refl asks.0 other.0
same_asked name rows (Build file image) (Trace file' harts' cycles') asks other = apart name (codes "build") (codes "trace") refl asks.0 other.0
same_asked name rows (Exec image harts cycles) (Audit file' harts' cycles') asks other = apart name (codes "exec") (codes "audit") refl asks.0 other.0
same_asked name rows (Exec image harts cycles) (Trace file' harts' cycles') asks other = apart name (codes "exec") (codes "trace") refl asks.0 other.0
same_asked name rows (ListCode image) (Audit file' harts' cycles') asks other = apart name (codes "list") (codes "audit") refl asks.0 other.0
same_asked name rows (ListCode image) (Trace file' harts' cycles') asks other = apart name (codes "list") (codes "trace") refl asks.0 other.0
same_asked name rows (Audit file harts cycles) (Run file' harts' cycles' show') asks other = apart name (codes "audit") (codes "run") refl asks.0 other.0
same_asked name rows (Trace file harts cycles) (Run file' harts' cycles' show') asks other = apart name (codes "trace") (codes "run") refl asks.0 other.0
same_asked name rows (Audit file harts cycles) (Build file' image') asks other = apart name (codes "audit") (codes "build") refl asks.0 other.0
same_asked name rows (Trace file harts cycles) (Build file' image') asks other = apart name (codes "trace") (codes "build") refl asks.0 other.0
same_asked name rows (Audit file harts cycles) (Exec image' harts' cycles') asks other = apart name (codes "audit") (codes "exec") refl asks.0 other.0
same_asked name rows (Trace file harts cycles) (Exec image' harts' cycles') asks other = apart name (codes "trace") (codes "exec") refl asks.0 other.0
same_asked name rows (Audit file harts cycles) (ListCode image') asks other = apart name (codes "audit") (codes "list") refl asks.0 other.0
same_asked name rows (Trace file harts cycles) (ListCode image') asks other = apart name (codes "trace") (codes "list") refl asks.0 other.0
same_asked name rows (Elf image file) (Audit file' harts' cycles') asks other = apart name (codes "elf") (codes "audit") refl asks.0 other.0
same_asked name rows (Elf image file) (Trace file' harts' cycles') asks other = apart name (codes "elf") (codes "trace") refl asks.0 other.0
same_asked name rows (Unelf file image) (Audit file' harts' cycles') asks other = apart name (codes "unelf") (codes "audit") refl asks.0 other.0
same_asked name rows (Unelf file image) (Trace file' harts' cycles') asks other = apart name (codes "unelf") (codes "trace") refl asks.0 other.0
same_asked name rows (Audit file harts cycles) (Elf image' file') asks other = apart name (codes "audit") (codes "elf") refl asks.0 other.0
same_asked name rows (Trace file harts cycles) (Elf image' file') asks other = apart name (codes "trace") (codes "elf") refl asks.0 other.0
same_asked name rows (Audit file harts cycles) (Unelf file' image') asks other = apart name (codes "audit") (codes "unelf") refl asks.0 other.0
same_asked name rows (Trace file harts cycles) (Unelf file' image') asks other = apart name (codes "trace") (codes "unelf") refl asks.0 other.0
same_asked name rows (Audit file harts cycles) (Trace file' harts' cycles') asks other = apart name (codes "audit") (codes "trace") refl asks.0 other.0
same_asked name rows (Trace file harts cycles) (Audit file' harts' cycles') asks other = apart name (codes "trace") (codes "audit") refl asks.0 other.0
same_asked name rows (Selftest statements) (Selftest statements') asks other =
    let n : Some statements ≡ Some statements' = sym asks.1.statements_are ∙ other.1.statements_are in
    cc
same_asked name rows (Run file harts cycles show) (Selftest statements') asks other = apart name (codes "run") (codes "selftest") refl asks.0 other.0
same_asked name rows (Selftest statements) (Run file' harts' cycles' show') asks other = apart name (codes "selftest") (codes "run") refl asks.0 other.0
same_asked name rows (Build file image) (Selftest statements') asks other = apart name (codes "build") (codes "selftest") refl asks.0 other.0
same_asked name rows (Selftest statements) (Build file' image') asks other = apart name (codes "selftest") (codes "build") refl asks.0 other.0
same_asked name rows (Exec image harts cycles) (Selftest statements') asks other = apart name (codes "exec") (codes "selftest") refl asks.0 other.0
same_asked name rows (Selftest statements) (Exec image' harts' cycles') asks other = apart name (codes "selftest") (codes "exec") refl asks.0 other.0
same_asked name rows (ListCode image) (Selftest statements') asks other = apart name (codes "list") (codes "selftest") refl asks.0 other.0
same_asked name rows (Selftest statements) (ListCode image') asks other = apart name (codes "selftest") (codes "list") refl asks.0 other.0
same_asked name rows (Elf image file) (Selftest statements') asks other = apart name (codes "elf") (codes "selftest") refl asks.0 other.0
same_asked name rows (Selftest statements) (Elf image' file') asks other = apart name (codes "selftest") (codes "elf") refl asks.0 other.0
same_asked name rows (Unelf file image) (Selftest statements') asks other = apart name (codes "unelf") (codes "selftest") refl asks.0 other.0
same_asked name rows (Selftest statements) (Unelf file' image') asks other = apart name (codes "selftest") (codes "unelf") refl asks.0 other.0
same_asked name rows (Audit file harts cycles) (Selftest statements') asks other = apart name (codes "audit") (codes "selftest") refl asks.0 other.0
same_asked name rows (Selftest statements) (Audit file' harts' cycles') asks other = apart name (codes "selftest") (codes "audit") refl asks.0 other.0
same_asked name rows (Trace file harts cycles) (Selftest statements') asks other = apart name (codes "trace") (codes "selftest") refl asks.0 other.0
same_asked name rows (Selftest statements) (Trace file' harts' cycles') asks other = apart name (codes "selftest") (codes "trace") refl asks.0 other.0
same_asked name rows (Replay file trace) (Replay file' trace') asks other =
    let f : Some file ≡ Some file' = sym asks.1 ∙ other.1 in
    let t : Some trace ≡ Some trace' = sym asks.2 ∙ other.2 in
    cc
same_asked name rows (Run file harts cycles show) (Replay file' trace') asks other = apart name (codes "run") (codes "replay") refl asks.0 other.0
same_asked name rows (Replay file trace) (Run file' harts' cycles' show') asks other = apart name (codes "replay") (codes "run") refl asks.0 other.0
same_asked name rows (Build file image) (Replay file' trace') asks other = apart name (codes "build") (codes "replay") refl asks.0 other.0
same_asked name rows (Replay file trace) (Build file' image') asks other = apart name (codes "replay") (codes "build") refl asks.0 other.0
same_asked name rows (Exec image harts cycles) (Replay file' trace') asks other = apart name (codes "exec") (codes "replay") refl asks.0 other.0
same_asked name rows (Replay file trace) (Exec image' harts' cycles') asks other = apart name (codes "replay") (codes "exec") refl asks.0 other.0
same_asked name rows (ListCode image) (Replay file' trace') asks other = apart name (codes "list") (codes "replay") refl asks.0 other.0
same_asked name rows (Replay file trace) (ListCode image') asks other = apart name (codes "replay") (codes "list") refl asks.0 other.0
same_asked name rows (Elf image file) (Replay file' trace') asks other = apart name (codes "elf") (codes "replay") refl asks.0 other.0
same_asked name rows (Replay file trace) (Elf image' file') asks other = apart name (codes "replay") (codes "elf") refl asks.0 other.0
same_asked name rows (Unelf file image) (Replay file' trace') asks other = apart name (codes "unelf") (codes "replay") refl asks.0 other.0
same_asked name rows (Replay file trace) (Unelf file' image') asks other = apart name (codes "replay") (codes "unelf") refl asks.0 other.0
same_asked name rows (Audit file harts cycles) (Replay file' trace') asks other = apart name (codes "audit") (codes "replay") refl asks.0 other.0
same_asked name rows (Replay file trace) (Audit file' harts' cycles') asks other = apart name (codes "replay") (codes "audit") refl asks.0 other.0
same_asked name rows (Trace file harts cycles) (Replay file' trace') asks other = apart name (codes "trace") (codes "replay") refl asks.0 other.0
same_asked name rows (Replay file trace) (Trace file' harts' cycles') asks other = apart name (codes "replay") (codes "trace") refl asks.0 other.0
same_asked name rows (Selftest statements) (Replay file' trace') asks other = apart name (codes "selftest") (codes "replay") refl asks.0 other.0
same_asked name rows (Replay file trace) (Selftest statements') asks other = apart name (codes "replay") (codes "selftest") refl asks.0 other.0
same_asked name rows Locks (Replay file' trace') asks other = apart name (codes "locks") (codes "replay") refl asks other.0
same_asked name rows (Replay file trace) Locks asks other = apart name (codes "replay") (codes "locks") refl asks.0 other
same_asked name rows Locks Locks asks other = refl
same_asked name rows (Run file harts cycles show) Locks asks other = apart name (codes "run") (codes "locks") refl asks.0 other
same_asked name rows Locks (Run file' harts' cycles' show') asks other = apart name (codes "locks") (codes "run") refl asks other.0
same_asked name rows (Build file image) Locks asks other = apart name (codes "build") (codes "locks") refl asks.0 other
same_asked name rows Locks (Build file' image') asks other = apart name (codes "locks") (codes "build") refl asks other.0
same_asked name rows (Exec image harts cycles) Locks asks other = apart name (codes "exec") (codes "locks") refl asks.0 other
same_asked name rows Locks (Exec image' harts' cycles') asks other = apart name (codes "locks") (codes "exec") refl asks other.0
same_asked name rows (ListCode image) Locks asks other = apart name (codes "list") (codes "locks") refl asks.0 other
same_asked name rows Locks (ListCode image') asks other = apart name (codes "locks") (codes "list") refl asks other.0
same_asked name rows (Elf image file) Locks asks other = apart name (codes "elf") (codes "locks") refl asks.0 other
same_asked name rows Locks (Elf image' file') asks other = apart name (codes "locks") (codes "elf") refl asks other.0
same_asked name rows (Unelf file image) Locks asks other = apart name (codes "unelf") (codes "locks") refl asks.0 other
same_asked name rows Locks (Unelf file' image') asks other = apart name (codes "locks") (codes "unelf") refl asks other.0
same_asked name rows (Audit file harts cycles) Locks asks other = apart name (codes "audit") (codes "locks") refl asks.0 other
same_asked name rows Locks (Audit file' harts' cycles') asks other = apart name (codes "locks") (codes "audit") refl asks other.0
same_asked name rows (Trace file harts cycles) Locks asks other = apart name (codes "trace") (codes "locks") refl asks.0 other
same_asked name rows Locks (Trace file' harts' cycles') asks other = apart name (codes "locks") (codes "trace") refl asks other.0
same_asked name rows (Selftest statements) Locks asks other = apart name (codes "selftest") (codes "locks") refl asks.0 other
same_asked name rows Locks (Selftest statements') asks other = apart name (codes "locks") (codes "selftest") refl asks other.0

pub one_command : OneCommand
one_command words c d reads other =
    let a = asked words c reads in
    let b = asked words d other in
    same_asked a.name a.found c d a.asks (subst (λ (met : Option (Text × List Row)). AsksOf met d) (sym b.matches ∙ a.matches) b.asks)
