-- Where processors meet at the beginning of `start`.
use Rattle.std.specs.Prelude.{ℕ, ◌+◌, ◌-◌, ◌*◌, ◌/◌, ◌==◌, ◌||◌, List, slice_get}
use Rattle.std.specs.Option.{option_map_or}
use Rattle.fk_num.specs.Word.{word_sum}
use Rattle.fk_core.specs.declared.op.CoreOp.{CoreOp}
use Rattle.fk_isa.specs.Step.{set_register}
use Rattle.fk_machine.specs.Hart.{Hart}
use Rattle.fk_sim_block.specs.Stands.{end_register}
use Rattle.fk_gen.specs.Registers.{ra, t0, t1, t2, t3}
use Rattle.fk_gen.specs.Lines.{at_value}
use Rattle.fk_sim_block.specs.Node.{Polling, Gathering, node_register, closing_word}
use Rattle.fk_gen_group.specs.Blocks.{start_label}

-- The harts poll after the meeting in the code that all beginnings of `start` share.
abbrev pub gathered_at : (bound : ℕ → ℕ) → Polling
gathered_at bound = record { at = bound start_label + 11; changes = λ r. (r == t0) || (r == t1) }

-- The value at a place, where the address of the frame's end leads.
abbrev pub value_found : (place : ℕ) → Hart → ℕ
value_found place h =
    h.local ((word_sum (h.registers end_register) (at_value place) - 0x20000000) / 4)

-- What a hart is when it comes to that meeting: it has loaded its last value, of `depth` values,
-- into t3, has linked to the word after its jump, and has the address of the root's closing word in
-- t2.
abbrev pub who_comes : (bound : ℕ → ℕ) → (depth : ℕ) → Hart → Hart
who_comes bound depth h =
    let loaded = set_register h.registers t3 (value_found depth h) in
    let linked = set_register loaded ra (word_sum (word_sum h.pc 4) 4) in
    record h {
      registers = set_register linked t2 (word_sum (linked node_register) (4 * closing_word));
      pc = word_sum (4 * bound start_label) 4;
    }

-- Where the processors of a list meet.
abbrev pub gathering_of : List CoreOp → (bound : ℕ → ℕ) → Gathering
gathering_of core bound = record {
  there = λ i. gathered_at bound;
  coming = λ i. who_comes bound (option_map_or (λ op. op.depth) (slice_get core i) 0);
}
