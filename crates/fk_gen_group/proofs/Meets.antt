-- The blocks that lead harts to a meeting.
use Rattle.std.proofs.Common.{◌≡◌, ◌≢◌, ℕ, suc, ◌+◌, ◌*◌, ◌<◌, List, true, false, Option, ap, subst, ◌∙◌, arith, refl}
use Rattle.std.specs.Prelude.{IfSome}
use Rattle.std.proofs.lemmas.Bool.{ne_eqb}
use Rattle.fk_num.specs.Word.{word_sum}
use Rattle.fk_meaning_operation.specs.declared.operation.Operation.{Operation}
use Rattle.fk_meaning_operation.specs.declared.operation.Operation.TheVariants.{Resume, Meet}
use Rattle.fk_meaning.specs.Processor.{Setting}
use Rattle.fk_core.specs.declared.op.CoreOp.{CoreOp}
use Rattle.fk_image.specs.declared.Image.{Image}
use Rattle.fk_image.specs.declared.event.Event.{Event}
use Rattle.fk_image.specs.declared.event.Event.TheVariants as events
use Rattle.fk_isa.specs.declared.instruction.Instruction.TheVariants.{Addi}
use Rattle.fk_machine.specs.Hart.{Hart, Setting as MachineSetting}
use Rattle.fk_machine.proofs.Performs.{writes, addi}
use Rattle.fk_sim_nodes.specs.Node.{Member, Words}
use Rattle.fk_sim_nodes.specs.Alone.{later}
use Rattle.fk_sim_nodes.specs.Phase.{Coming}
use Rattle.fk_sim_block.specs.Owner.{Owner}
use Rattle.fk_sim_block.specs.Stands.{Places, StandsAt, size_register}
use Rattle.fk_sim_block.specs.Suits.{Flows, nothing}
use Rattle.fk_sim_block.specs.Block.{Enters, gone_to}
use Rattle.fk_gen.specs.InPlace.{HasBlock}
use Rattle.fk_gen.proofs.Walk.{private}
use Rattle.fk_sim_block.specs.Node.{Nestings, StandsInNode, OwnsHeader, control_address, barrier_word, closing_word, body_register, node_register}
use Rattle.fk_gen_group.specs.Meeting.{IsMeeting, HasMeeting, IsReadyToMeet}
use Rattle.fk_sim_block.proofs.Spaces.{space_kept}
use Rattle.fk_sim_block.specs.Lockstep.{IsMember, LevelsStay}
use Rattle.fk_gen_group.specs.Blocks.{meeting_of, meet_block}
use Rattle.fk_sim_block.specs.Joint.{is_meeting}
use Rattle.fk_gen.specs.Registers.{t0, t1, t2}
use Rattle.fk_gen_group.specs.Meet.{ComesToMeet, BlockComesToMeet}
use Rattle.fk_gen_group.specs.Laws.{IsInPlace}
use Rattle.fk_gen_group.proofs.Steps.{harts_arrive}
use Rattle.fk_gen_group.proofs.Behind.{KeepsMost, kept, same_registers, body_kept, goes_behind}

-- a register with the number of members, which the lines leave
record IsCount (size : ℕ) : Type 0 where
  pub not_t0 : size ≢ t0
  pub not_t1 : size ≢ t1
  pub not_t2 : size ≢ t2

meeting_is : (event : Event) (size : ℕ) → IsCount size → IsMeeting (meeting_of event size)
meeting_is event size is = record { arrivals_t0 = λ e. omega arith; arrivals_t1 = λ e. omega arith; size_t0 = is.not_t0; size_t1 = is.not_t1 }

module _ (core : List CoreOp) (image : Image) (bound : ℕ → ℕ) (places : Places) (nestings : Nestings) (i : ℕ) (op : CoreOp) (operation : Operation)
    (place : IsInPlace core image bound places nestings i op operation) (flows : Flows core places.frames nothing i (suc i)) (stay : LevelsStay nestings i (suc i)) where
  behind : (setting : Setting) (t : MachineSetting) (runs : Option ℕ) (begin : ℕ) (m : Member) (p : Owner) (h : Hart) → Enters core image places setting t i op operation p m.hart
      → IsMember places nestings setting runs begin m p → KeepsMost m.hart h → h.pc ≡ 4 * places.block (suc i)
      → StandsAt places (gone_to (suc i) p) h × StandsInNode places nestings setting runs (gone_to (suc i) p) h
  behind setting t runs begin m p h en member same pc =
      let next = goes_behind core image bound places nestings i op operation place (suc i) flows stay setting t runs begin m p h en member same.live same.local
      (same_registers m.hart h same) (kept m.hart h 21 same (omega arith)) pc in (
        next.0,
        record {
          node = kept m.hart h 10 same (omega arith) ∙ member.node.node;
          body = body_kept runs (m.hart.registers body_register) (h.registers body_register) (kept m.hart h 11 same (omega arith)) member.node.body;
          space = space_kept p.runner.has.level p.runner.has.outer m.hart h (kept m.hart h 12 same (omega arith)) (kept m.hart h 13 same (omega arith)) member.node.space;
          outer = next.1;
        },
      )

  -- with the address of a word of its node
  abbrev with_word : (word : ℕ) → Hart → Hart
  with_word word h = writes h t2 (word_sum (h.registers node_register) (4 * word))

  ready : (setting : Setting) (t : MachineSetting) (mine : Words) (runs : Option ℕ) (event : Event) (first word size n : ℕ) (m : Member) (p : Owner) → OwnsHeader mine first → word < 8 → IsCount size
      → Enters core image places setting t i op operation p m.hart → IsMember places nestings setting runs first m p → m.hart.registers size ≡ n
      → IsReadyToMeet (meeting_of event size) (first + word) n (with_word word m.hart)
  ready setting t mine runs event first word size n m p owns lt is en member so_many =
      let within = owns.within in
      let e = member.node.node ∙ ap control_address member.words in
      record {
        live = en.at.live;
        nought = en.at.stands.nought;
        within = omega arith;
        arrivals = omega arith;
        size = rw (ne_eqb size t2 is.not_t2) so_many;
      }

  meets : (event : Event) (word size : ℕ) → word < 8 → IsCount size → HasBlock image bound places i (meet_block event word size) → (setting : Setting) (t : MachineSetting) (mine : Words) (runs : Option ℕ) (first n : ℕ) (m : Member) (p : Owner)
      → OwnsHeader mine first → Enters core image places setting t i op operation p m.hart → IsMember places nestings setting runs first m p
      → m.hart.registers size ≡ n → ComesToMeet core image bound places nestings i op operation (meeting_of event size) (first + word) setting t runs n m p
  meets event word size lt is block setting t mine runs first n m p owns en member so_many =
      let k = places.block i in
      let g = meeting_of event size in
      let lines = block.lines in
      let within = lines.0.within in
      let next = block.next in
      let h1 = with_word word m.hart in
      let pc : m.hart.pc ≡ 4 * k = en.at.at ∙ ap (λ j. 4 * places.block j) en.index in
      let has : HasMeeting g image bound (suc k) = record { fits = meeting_is event size is; lines = lines.1 } in
      let ready_is = ready setting t mine runs event first word size n m p owns lt is en member so_many in
      let comes = harts_arrive g image bound (suc k) (first + word) n m.number (later t) h1 has en.running.code ready_is (omega arith) in
      let few = comes.2 in
      let d = comes.0 in
      let parity = comes.3.0 in
      record {
        comer = record { phase = Coming (suc d); lines = suc k; first = h1 };
        steps = suc d;
        few = omega arith;
        comes = refl;
        stands = record {
          meeting = has;
          ready = ready_is;
          stands = (
            omega arith,
            (
              comes.3.1.0,
              (h1, private image t m.number k (Addi t2 node_register (4 * word)) m.hart h1 en.running.code lines.0 pc en.at.live (λ s. (s.reserved, addi t m.number 7 10 (4 * word) m.hart s)), comes.3.1.1),
              comes.3.1.2,
            ),
          );
        };
        leaves = λ h left.
            let at = left.at in
            behind setting t runs first m p h en member
            (record {
              live = left.keeps.live ∙ en.at.live;
              local = left.keeps.local;
              others = λ r a b c. left.keeps.others r a b ∙ rw (ne_eqb r 7 c);
            })
            (omega arith);
      }

body_is : IsCount body_register
body_is = record { not_t0 = λ e. omega arith; not_t1 = λ e. omega arith; not_t2 = λ e. omega arith }

size_is : IsCount size_register
size_is = record { not_t0 = λ e. omega arith; not_t1 = λ e. omega arith; not_t2 = λ e. omega arith }

pub blocks_come : (core : List CoreOp) (image : Image) (bound : ℕ → ℕ) (places : Places) (nestings : Nestings) (i : ℕ) (op : CoreOp) (operation : Operation) → is_meeting operation ≡ true
    → IsInPlace core image bound places nestings i op operation → BlockComesToMeet core image bound places nestings i op operation
blocks_come core image bound places nestings i op (Meet false) is place =
    λ setting t mine runs first n m p owns en member so_many.
    meets core image bound places nestings i op (Meet false) place (place.fits.goes_on true) place.stay events.Meet barrier_word body_register (omega arith) body_is place.block setting t mine runs first n m p owns en member
    (subst (λ r. IfSome r (λ k. m.hart.registers body_register ≡ k)) so_many member.node.body)
blocks_come core image bound places nestings i op (Meet true) is place =
    λ setting t mine runs first n m p owns en member so_many.
    meets core image bound places nestings i op (Meet true) place (place.fits.goes_on true) place.stay events.Meet closing_word size_register (omega arith) size_is place.block setting t mine runs first n m p owns en member
    (en.at.stands.size ∙ so_many)
blocks_come core image bound places nestings i op Resume is place =
    λ setting t mine runs first n m p owns en member so_many.
    meets core image bound places nestings i op Resume place (place.fits.goes_on true) place.stay events.Resume closing_word size_register (omega arith) size_is place.block setting t mine runs first n m p owns en member
    (en.at.stands.size ∙ so_many)
blocks_come core image bound places nestings i op operation is place = absurd (cc)
