use Rattle.std.proofs.Common.{◌≡◌, ℕ, ◌<◌, List, sym, subst, arith}
use Rattle.std.specs.Prelude.{slice_index}
use Rattle.fk_audit.specs.declared.access.AccessKind.TheVariants.{Read, Write}
use Rattle.fk_audit.specs.Mark.{IsLeast, IsMark, counted}
use Rattle.fk_audit.proofs.Marked.{least_read, least_write}
use Rattle.fk_audit.proofs.marking.least_words.Goals as goal

-- the marks of writes, where no word has the cycle's mark of a read yet
marks : (cycle : ℕ) (earlier : List ℕ) (P : ℕ → Type 0) → ((w : ℕ) → slice_index earlier w < cycle) → ((w : ℕ) → (slice_index earlier w ≡ cycle → ⊥) → P w) → (w : ℕ) → P w
marks cycle earlier P before are w = let less = before w in are w (λ e. absurd (omega (arith, less, e)))

pub returns-clause-least_read : goal.returns-clause-least_read
returns-clause-least_read c =
    let ts = c.args.touches.now in
    let read = counted c.args.stand Read ts in
    let write = counted c.args.stand Write ts in
    let written = c.mark-twice.new.marks in
    least_read c.args.cycle written read write c.mark.result
    (marks c.args.cycle c.args.read.now (λ w. IsMark c.args.cycle (write w) (slice_index written w)) c.requires.read_earlier c.mark-twice.ensures.marks) c.mark.ensures.least

pub returns-clause-least_write : goal.returns-clause-least_write
returns-clause-least_write c =
    let ts = c.args.touches.now in
    let read = counted c.args.stand Read ts in
    let write = counted c.args.stand Write ts in
    let written = c.mark-twice.new.marks in
    subst (IsLeast _) (sym c.least_of.ensures)
    (least_write c.args.cycle c.args.read.now written read write c.mark-twice.result c.least_shared-shared.result c.requires.read_earlier
    (marks c.args.cycle c.args.read.now (λ w. IsMark c.args.cycle (write w) (slice_index written w)) c.requires.read_earlier c.mark-twice.ensures.marks) c.mark-twice.ensures.least c.least_shared-shared.ensures)
