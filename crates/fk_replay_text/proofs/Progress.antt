-- The lines behind the first two, as far as they were read.
use Rattle.std.proofs.Common.{◌≡◌, ℕ, ◌+◌, ◌-◌, ◌^◌, ◌<◌, ◌≤◌, List, [], ◌∷◌, ◌++◌, length, refl, sym, ap, ◌∙◌, arith, length-append}
use Rattle.fk_trace.specs.Text.{Range, last_line}
use Rattle.fk_replay_text.specs.Texts.{IsCut}
use Rattle.fk_replay_text.specs.Lines.{IsBadLine}
use Rattle.fk_replay_text.specs.Trace.{Follows, HasBody, IsBody, IsLine, Told, moments_of, rank, told_text}
use Rattle.fk_replay_text.specs.BodyView.{IsBadBody}
use Rattle.fk_replay_text.specs.declared.fault.ReplayFault.TheVariants.{BadTrace}
use Rattle.fk_replay_text.proofs.Bodies.{HasNoNext, IsReadTo, bad_line, begins, body_is, line_too_many, moments_push, reads_on}

-- these lines were read, and this is the number of the next one in the whole text
pub record IsReading (harts : ℕ) (text rest : List ℕ) (moments : List (ℕ × List Range)) (now event number : ℕ) : Type 0 where
  pub told : List Told
  pub reads : IsReadTo harts text rest told now event
  pub moments_are : moments ≡ moments_of told
  pub number_is : number ≡ length told + 3
  pub small : now < 2 ^ 32
  pub room : number + length rest ≤ length text + 3

pub started : (harts : ℕ) (text : List ℕ) → IsReading harts text text [] 0 0 3
started harts text = record {
  told = [];
  reads = begins harts text;
  moments_are = refl;
  number_is = refl;
  small = omega arith;
  room = omega arith;
}

cut_length : (rest line behind : List ℕ) → IsCut 10 rest line behind → length behind + 1 ≤ length rest
cut_length rest line behind cut =
    let whole : length rest ≡ length (line ++ (10 ∷ behind)) = ap length cut.parts in
    let parts = length-append line (10 ∷ behind) in
    omega arith

pub cut_shorter : (rest line behind : List ℕ) → IsCut 10 rest line behind → length behind < length rest
cut_shorter rest line behind cut = let less = cut_length rest line behind cut in omega arith

pub goes_on : (harts : ℕ) (text rest line behind : List ℕ) (moments : List (ℕ × List Range)) (now event number : ℕ) (t : Told)
    → IsReading harts text rest moments now event number → IsCut 10 rest line behind → line ++ (10 ∷ []) ≡ told_text t → IsLine harts t
    → Follows now event t.column t.cycle → IsReading harts text behind (moments ++ moments_of (t ∷ [])) t.cycle (rank t.column) (number + 1)
goes_on harts text rest line behind moments now event number t r cut e is follows =
    let less = cut_length rest line behind cut in
    let room = r.room in
    let number_is = r.number_is in
    let more = length-append r.told (t ∷ []) in
    record {
      told = r.told ++ (t ∷ []);
      reads = reads_on harts text rest line behind r.told now event t r.reads cut e is follows;
      moments_are = ap (λ l. l ++ moments_of (t ∷ [])) r.moments_are ∙ sym (moments_push r.told t);
      number_is = omega arith;
      small = is.word;
      room = omega arith;
    }

bad_at : (harts : ℕ) (text : List ℕ) (line number : ℕ) → 0 < line → number ≡ line + 2 → IsBadLine (HasBody harts) line text → IsBadBody harts text (BadTrace number)
bad_at harts text line number one e bad = record { line = line; one = one; fault_is = ap BadTrace e; bad = bad }

pub no_next : (harts : ℕ) (text rest : List ℕ) (moments : List (ℕ × List Range)) (now event number : ℕ) → harts < 2 ^ 32
    → IsReading harts text rest moments now event number → HasNoNext harts now event rest → IsBadBody harts text (BadTrace number)
no_next harts text rest moments now event number few r none =
    let number_is = r.number_is in
    bad_at harts text (length r.told + 1) number (omega arith) (omega arith) (bad_line harts text rest r.told now event few r.small r.reads none)

pub too_many : (harts : ℕ) (text rest line behind : List ℕ) (moments : List (ℕ × List Range)) (now event number last : ℕ) → harts < 2 ^ 32 → last < 2 ^ 32
    → IsReading harts text rest moments now event number → IsCut 10 rest line behind → 0 < length behind → line ++ (10 ∷ []) ≡ last_line last → now ≤ last
    → IsBadBody harts text (BadTrace (number + 1))
too_many harts text rest line [] moments now event number last few small r cut some e le = absurd (omega arith)
too_many harts text rest line (b ∷ behind) moments now event number last few small r cut some e le =
    let number_is = r.number_is in
    bad_at harts text (length r.told + 2) (number + 1) (omega arith) (omega arith)
    (line_too_many harts text rest line b behind r.told now event last few small r.reads cut e le)

pub finished : (harts : ℕ) (text rest line behind : List ℕ) (moments : List (ℕ × List Range)) (now event number last : ℕ) → last < 2 ^ 32
    → (r : IsReading harts text rest moments now event number) → IsCut 10 rest line behind → length behind ≡ 0 → line ++ (10 ∷ []) ≡ last_line last → now ≤ last
    → IsBody harts last r.told text
finished harts text rest line [] moments now event number last small r cut none e le = body_is harts text rest line r.told now event last small r.reads cut e le
finished harts text rest line (b ∷ behind) moments now event number last small r cut none e le = absurd (omega arith)
