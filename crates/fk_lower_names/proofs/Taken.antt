-- How many private words are taken within a frame: as many before it as behind it.
use Rattle.std.proofs.Common.{◌≡◌, ℕ, ◌+◌, ◌-◌, ◌^◌, Bool, true, false, refl, ◌∙◌}
use Rattle.std.specs.Prelude.{◌==◌, min, if◌then◌else◌}
use Rattle.fk_syntax.specs.Program.{Statement}
use Rattle.fk_layout_slots.specs.Told.{Told}
use Rattle.fk_layout_slots.specs.Places.{behind_frame, within, outside}
use Rattle.fk_layout_slots.specs.Slots.{behind_body_frame, begun, begun_two}
use Rattle.fk_layout_slots.specs.Words.{statement_words}

pub same_within : (taken : _) → (within (within taken)).privates ≡ (within taken).privates
unfolding within
same_within taken = refl

pub same_outside : (before taken : _) → (within (outside before taken)).privates ≡ (within taken).privates
unfolding within outside
same_outside before taken = refl

frame_or : (b : Bool) (taken : _) → (within (if b then taken else record taken { frames = min (taken.frames + 1) (2 ^ 32 - 1) })).privates ≡ (within taken).privates
unfolding within
frame_or true taken = refl
frame_or false taken = refl

pub same_frame : (taken : _) (words : ℕ) → (within (behind_frame taken words)).privates ≡ (within taken).privates
unfolding behind_frame
same_frame taken words = frame_or (words == 0) taken

pub same_body_frame : (told : Told) (taken : _) (x : Statement) → (within (begun told taken x)).privates ≡ (within taken).privates
same_body_frame told taken x = same_within (behind_body_frame told taken x) ∙ same_frame taken (statement_words told 0 x)

pub same_two : (told : Told) (taken : _) (x y : Statement) → (within (begun_two told taken x y)).privates ≡ (within taken).privates
same_two told taken x y = same_body_frame told (behind_body_frame told taken x) y ∙ same_frame taken (statement_words told 0 x)
