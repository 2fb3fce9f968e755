use Rattle.std.proofs.Common.{◌≡◌, ◌+◌, ◌-◌, ◌<◌, ◌≤◌, length, vec_len, ap, ◌∙◌, arith}
use Rattle.std.specs.Prelude.{slice_index}
use Rattle.fk_replay_steps.proofs.Words.{grown, put_at}
use Rattle.fk_replay_steps.proofs.values.put_word.Goals.{then-len-place+in_ok-resize, else-len-place}
use Rattle.fk_replay_steps.proofs.values.put_word.Goals as goal

pub returns : goal.returns
returns c =
    let old = c.args.memory.now.items in
    let new = c.if-len-place.memory.items in
    let place = c.args.index in
    let ok = c.args.memory.now.ok in
    let len = c.len.ensures in
    let both : (slice_index new ≡ slice_index old) × (place < length new) = elim c.if-len-place.branch [
      | then-len-place+in_ok-resize w ↦
          let is = w.in_ok-resize.ensures in
          let same : new ≡ w.resize.new.self.items = cc in
          let le = w.if-len-place.true in
          let short : length old ≤ place + 1 = omega arith in
          let new_ok = w.resize.new.self.ok in
          let new_len = is.len in
          let same_length : length new ≡ length w.resize.new.self.items = ap length same in
          (grown old new (place + 1) (place + 1 - vec_len c.args.memory.now) (same ∙ is.items) short, omega arith)
      | else-len-place w ↦
          let same : new ≡ old = cc in
          let within = w.if-len-place.false in
          let same_length : length new ≡ length old = ap length same in
          (ap slice_index same, omega arith)
    ] in
    put_at old new place c.args.word both.0 both.1
