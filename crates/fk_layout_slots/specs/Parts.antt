-- The frames and slots of bodies, in the order in which the code goes through them.
use Rattle.std.specs.Prelude.{ℕ, List, ◌++◌, if◌then◌else◌}
use Rattle.fk_syntax.specs.Program.{Statement}
use Rattle.fk_meaning_forms.specs.declared.tables.Slot.{Slot}
use Rattle.fk_meaning_forms.specs.declared.tables.Region.{Region}
use Rattle.fk_layout_slots.specs.declared.taken.Taken.{Taken}
use Rattle.fk_layout_slots.specs.Told.{Told, splits_at}
use Rattle.fk_layout_slots.specs.Frames.{deeper, body_frame, frames_in}
use Rattle.fk_layout_slots.specs.Places.{within, outside}
use Rattle.fk_layout_slots.specs.Slots.{behind_body_frame, begun, begun_two, behind, slots_in}

module _ (told : Told) where
  -- a body that has a frame: its frames, its slots, and what is taken after it
  abbrev pub framed_frames : (at level : ℕ) → Statement → List Region
  framed_frames at level body =
      body_frame told at 0 (deeper level) body ++ frames_in told (deeper level) body

  abbrev pub framed_slots : Taken → Statement → List Slot
  framed_slots taken body = slots_in told taken.frames (begun told taken body) body

  abbrev pub behind_framed : Taken → Statement → Taken
  behind_framed taken body = outside taken (behind told (begun told taken body) body)

  -- a body that has a frame of its own if the group splits
  abbrev pub split_frames : (at level : ℕ) → Statement → List Region
  split_frames at level body = if splits_at told at then framed_frames at level body
      else frames_in told level body

  abbrev pub split_slots : (at frame : ℕ) → Taken → Statement → List Slot
  split_slots at frame taken body = if splits_at told at then framed_slots taken body
      else slots_in told frame taken body

  abbrev pub behind_split : (at : ℕ) → Taken → Statement → Taken
  behind_split at taken body = if splits_at told at then behind_framed taken body
      else behind told taken body

  -- two bodies that have frames
  abbrev pub both_framed_frames : (at level : ℕ) → (first second : Statement) → List Region
  both_framed_frames at level first second =
      body_frame told at 0 (deeper level) first ++ body_frame told at 1 (deeper level) second
      ++ frames_in told (deeper level) first ++ frames_in told (deeper level) second

  abbrev pub both_framed_slots : Taken → (first second : Statement) → List Slot
  both_framed_slots taken first second =
      slots_in told taken.frames (begun_two told taken first second) first
      ++ slots_in told (behind_body_frame told taken first).frames
      (within (behind told (begun_two told taken first second) first)) second

  abbrev pub behind_both_framed : Taken → (first second : Statement) → Taken
  behind_both_framed taken first second = outside taken
      (behind told (within (behind told (begun_two told taken first second) first)) second)

  -- two bodies that have frames of their own if the group splits
  abbrev pub both_frames : (at level : ℕ) → (first second : Statement) → List Region
  both_frames at level first second =
      if splits_at told at then both_framed_frames at level first second
      else frames_in told level first ++ frames_in told level second

  abbrev pub both_slots : (at frame : ℕ) → Taken → (first second : Statement) → List Slot
  both_slots at frame taken first second =
      if splits_at told at
      then both_framed_slots taken first second
      else slots_in told frame taken first ++ slots_in told frame (behind told taken first) second

  abbrev pub behind_both : (at : ℕ) → Taken → (first second : Statement) → Taken
  behind_both at taken first second =
      if splits_at told at then behind_both_framed taken first second
      else behind told (behind told taken first) second
