-- What a call copies, and its new frame.
use Rattle.std.proofs.Common.{◌≡◌, ℕ, zero, suc, ◌+◌, ◌-◌, ◌*◌, ◌<◌, ◌≤◌, List, [], ◌∷◌, length, false, ap, subst, sym, ◌∙◌, arith, refl, inl, inr}
use Rattle.std.specs.Prelude.{◌==◌, ◌⊎◌}
use Rattle.std.proofs.lemmas.Bool.{cases_lt}
use Rattle.fk_num.specs.Word.{Memory, put, word_sum}
use Rattle.fk_meaning.specs.Request.{arguments}
use Rattle.fk_image.specs.declared.Image.{Image}
use Rattle.fk_machine.specs.Hart.{Hart, Setting}
use Rattle.fk_machine.proofs.Performs.{writes, moves}
use Rattle.fk_sim_nodes.specs.Alone.{later}
use Rattle.fk_sim_block.specs.Stands.{HasValues, local_address, frame_register, end_register}
use Rattle.fk_gen.specs.Lines.{at_value, at_private, copy_label}
use Rattle.fk_gen.specs.InPlace.{LinesAt}
use Rattle.fk_gen.proofs.Values.{same_word, other_word}
use Rattle.fk_gen.proofs.Jumps.{jumps}
use Rattle.fk_gen.specs.Registers.{ra, t0, t2}
use Rattle.fk_gen_flow.specs.Calls.{copy_lines, own_copies, frame_lines, HasChain}
use Rattle.fk_gen_flow.proofs.Walk.{Comes, IsAbout, there, first, writing, storing, word_before, near_word, lw_goes, sw_goes, skip_goes}

-- ---- arguments

-- argument a of n is a + 1 places behind the values below them
pub arguments_at : (at : ℕ → ℕ) (n : ℕ) (vs : List ℕ) (a k : ℕ) → HasValues at vs → n ≤ length vs → a < n → k ≡ suc a + (length vs - n) → at k ≡ arguments n vs a
arguments_at at zero vs a k held le lt is = absurd (omega arith)
arguments_at at (suc n) [] a k held le lt is = absurd (omega arith)
arguments_at at (suc n) (v ∷ vs) a k held le lt is = by_case (λ less. arguments_at at n vs a k held.1 (omega arith) less (omega arith)) (cases_lt a n)
  where
    by_case : (a < n → at k ≡ arguments n vs a) → ((a < n) ⊎ (n ≤ a)) → at k ≡ put (arguments n vs) n v a
    by_case before (inl less) = before less ∙ sym (other_word (arguments n vs) n v a (λ f. omega arith))
    by_case before (inr more) =
        let here : k ≡ suc (length vs) = omega arith in
        let last : a ≡ n = omega arith in
        ap at here ∙ held.0 ∙ sym (ap (put (arguments n vs) n v) last ∙ same_word (arguments n vs) n v)

-- ---- copies

-- a memory in which so many words, which stand before word s, follow the header at word e, the last one first
pub record Copied (m m' : Memory) (s e n : ℕ) : Type 0 where
  pub copies : (a : ℕ) → a < n → m' (e + 7 + a) ≡ m (s - suc a)
  pub others : (j : ℕ) → ((j < e + 7) ⊎ (e + 7 + n ≤ j)) → m' j ≡ m j

copied_more : (m m' : Memory) (s e n : ℕ) → s ≤ e → Copied (put m (e + 7 + n) (m (s - suc n))) m' s e n → Copied m m' s e (suc n)
copied_more m m' s e n le rest = record {
  copies = λ a lt. by_case a lt (cases_lt a n);
  others = λ j out. apart j out;
}
  where
    by_case : (a : ℕ) → a < suc n → ((a < n) ⊎ (n ≤ a)) → m' (e + 7 + a) ≡ m (s - suc a)
    by_case a lt (inl less) = rest.copies a less ∙ other_word m (e + 7 + n) (m (s - suc n)) (s - suc a) (λ f. omega arith)
    by_case a lt (inr more) =
        let last : n ≡ a = omega arith in
        subst (λ b. m' (e + 7 + b) ≡ m (s - suc b)) last (rest.others (e + 7 + n) (inr (omega arith)) ∙ same_word m (e + 7 + n) (m (s - suc n)))

    apart : (j : ℕ) → ((j < e + 7) ⊎ (e + 7 + suc n ≤ j)) → m' j ≡ m j
    apart j (inl lt) = rest.others j (inl lt) ∙ other_word m (e + 7 + n) (m (s - suc n)) j (λ f. omega arith)
    apart j (inr le') = rest.others j (inr (omega arith)) ∙ other_word m (e + 7 + n) (m (s - suc n)) j (λ f. omega arith)

-- how many cycles the copies take, and what follows them
abbrev pub copy_cycles : (n rest : ℕ) → ℕ
copy_cycles zero rest = rest
copy_cycles (suc n) rest = suc (suc (copy_cycles n rest))

pub few_copies : (n rest : ℕ) → copy_cycles n rest ≡ 2 * n + rest
few_copies zero rest = omega arith
few_copies (suc n) rest = let e = few_copies n rest in omega arith

-- lines that copy so many arguments, where those for the last k begin at a word
pub record AreCopies (image : Image) (bound : ℕ → ℕ) (n : ℕ) (word : ℕ → ℕ) : Type 0 where
  pub copies : (k : ℕ) → k < n → LinesAt image bound (word (suc k)) (copy_lines k)
  pub next : (k : ℕ) → k < n → word k ≡ word (suc k) + 2

-- what follows the copies
abbrev pub AfterCopies : (image : Image) (number s e n end rest : ℕ) (h : Hart) (Goal : Hart → Type 0) → Type 0
AfterCopies image number s e n end rest h Goal =
    (t' : Setting) (h' : Hart) → IsAbout image t' end h' → ((r : ℕ) → (r == 5) ≡ false → h'.registers r ≡ h.registers r)
    → Copied h.local h'.local s e n → Comes image t' number rest h' Goal

pub copies_come : (image : Image) (bound : ℕ → ℕ) (number s e rest most : ℕ) (word : ℕ → ℕ) (Goal : Hart → Type 0) → AreCopies image bound most word → s ≤ e → e + 64 ≤ 16384
    → most ≤ 56 → (n : ℕ) (t : Setting) (h : Hart) → n ≤ most → n ≤ s → IsAbout image t (word n) h → h.registers t2 ≡ local_address (s - 1) → h.registers end_register ≡ local_address e
    → AfterCopies image number s e n (word 0) rest h Goal → Comes image t number (copy_cycles n rest) h Goal
copies_come image bound number s e rest most word Goal copying le few many zero t h within enough about from to next =
    next t h about (λ r f. refl) (record { copies = λ a lt. absurd (omega arith); others = λ j out. refl })
copies_come image bound number s e rest most word Goal copying le few many (suc n) t h within enough about from to next =
    let k = word (suc n) in
    let lines = copying.copies n (omega arith) in
    let below = copying.next n (omega arith) in
    let v = h.local (s - suc n) in
    let h1 = writes h t0 v in
    let m2 = put h.local (e + 7 + n) v in
    let h2 : Hart = record (moves h1) { local = m2 } in
    let about1 = writing image t k h 5 v about lines.0.within in
    let about2 = storing image (later t) (suc k) h1 m2 about1 lines.1.0.within in
    let at2 = about2.at in
    let about3 : IsAbout image (later (later t)) (word n) h2 = record { code = about2.code; live = about2.live; at = omega arith } in
    first image t number (suc (copy_cycles n rest)) k _ h h1 Goal about lines.0 (lw_goes t number 5 7 (at_value n) (s - suc n) h (word_before s n (h.registers t2) from (omega arith) (omega arith)))
    (first image (later t) number (copy_cycles n rest) (suc k) _ h1 h2 Goal about1 lines.1.0 (sw_goes (later t) number 9 5 (at_private n) (e + 7 + n) h1 (near_word e (7 + n) (e + 7 + n) (h1.registers end_register) (at_private n) to refl (omega arith) (omega arith)))
    (copies_come image bound number s e rest most word Goal copying le few many n (later (later t)) h2 (omega arith) (omega arith) about3 from to
    (λ t' h' about' same copied. next t' h' about' (λ r f. same r f ∙ rw f) (copied_more h.local h'.local s e n le copied))))

-- those in the block of a call
pub own_are_copies : (image : Image) (bound : ℕ → ℕ) (n k : ℕ) → LinesAt image bound k (own_copies n) → AreCopies image bound n (λ m. k + 2 * (n - m))
own_are_copies image bound zero k lines = record { copies = λ j lt. absurd (omega arith); next = λ j lt. absurd (omega arith) }
own_are_copies image bound (suc n) k lines =
    let rest = own_are_copies image bound n (suc (suc k)) lines.1.1 in
    record {
      copies = λ j lt. at j lt (cases_lt j n) rest;
      next = λ j lt. omega arith;
    }
  where
    at : (j : ℕ) → j < suc n → ((j < n) ⊎ (n ≤ j)) → AreCopies image bound n (λ m. suc (suc k) + 2 * (n - m)) → LinesAt image bound (k + 2 * (suc n - suc j)) (copy_lines j)
    at j lt (inl less) rest =
        let e : suc (suc k) + 2 * (n - suc j) ≡ k + 2 * (suc n - suc j) = omega arith in
        subst (λ w. LinesAt image bound w (copy_lines j)) e (rest.copies j less)
    at j lt (inr more) rest =
        let last : n ≡ j = omega arith in
        let e : k ≡ k + 2 * (suc n - suc j) = omega arith in
        subst (λ w. LinesAt image bound w (copy_lines j)) e (subst (λ m. LinesAt image bound k (copy_lines m)) last (lines.0, (lines.1.0, tt)))

pub shared_are_copies : (image : Image) (bound : ℕ → ℕ) → HasChain image bound copy_label copy_lines 2 → AreCopies image bound 56 (λ m. bound (copy_label m))
shared_are_copies image bound copying = record { copies = copying.parts; next = copying.next }

-- ---- the new frame

-- a hart whose frame is the new one, that has stored the address of the line behind its link, and goes on behind the lines of the frame
pub record Framed (h h' : Hart) (e k : ℕ) : Type 0 where
  pub live : h'.ended ≡ false
  pub at : h'.pc ≡ 4 * (k + 5)
  pub same : (r : ℕ) → (r == 1) ≡ false → (r == 8) ≡ false → (r == 9) ≡ false → h'.registers r ≡ h.registers r
  pub start : h'.registers frame_register ≡ local_address e
  pub behind : h'.registers end_register ≡ local_address (e + 64)
  pub code : h'.local e ≡ 4 * suc k
  pub others : (j : ℕ) → (j ≡ e → ⊥) → h'.local j ≡ h.local j

pub frame_comes : (image : Image) (bound : ℕ → ℕ) (number e k back : ℕ) (Goal : Hart → Type 0) (t : Setting) (h : Hart) → LinesAt image bound k (frame_lines back)
    → e + 64 ≤ 16384 → IsAbout image t k h → h.registers end_register ≡ local_address e → ((h' : Hart) → Framed h h' e k → Goal h') → Comes image t number 4 h Goal
frame_comes image bound number e k back Goal t h lines few about to goal =
    let l0 = lines.0 in
    let l1 = lines.1.1.0 in
    let l2 = lines.1.1.1.0 in
    let l3 = lines.1.1.1.1.0 in
    let within = l3.within in
    let h1 = jumps h ra (4 * suc (suc k)) in
    let link = h1.registers ra in
    let m = put h.local e link in
    let h2 : Hart = record (moves h1) { local = m } in
    let h3 = writes h2 frame_register (word_sum (h.registers end_register) 0) in
    let h4 = writes h3 end_register (word_sum (h.registers end_register) 256) in
    let cycle1 = later t in
    let cycle2 = later cycle1 in
    let cycle3 = later cycle2 in
    let about1 : IsAbout image cycle1 (suc (suc k)) h1 = record { code = about.code; live = about.live; at = refl } in
    let about2 = storing image cycle1 (suc (suc k)) h1 m about1 l1.within in
    let about3 = writing image cycle2 (suc (suc (suc k))) h2 8 (word_sum (h.registers end_register) 0) about2 l2.within in
    let about4 = writing image cycle3 (suc (suc (suc (suc k)))) h3 9 (word_sum (h.registers end_register) 256) about3 l3.within in
    let pc = about.at in
    let at4 = about4.at in
    first image t number 3 k _ h h1 Goal about l0 (skip_goes t number 1 k h about.at l0.within)
    (first image cycle1 number 2 (suc (suc k)) _ h1 h2 Goal about1 l1 (sw_goes cycle1 number 9 1 0 e h1 (near_word e 0 e (h.registers end_register) 0 to refl (omega arith) (omega arith)))
    (first image cycle2 number 1 (suc (suc (suc k))) _ h2 h3 Goal about2 l2 (λ s. (s.reserved, refl))
    (first image cycle3 number 0 (suc (suc (suc (suc k)))) _ h3 h4 Goal about3 l3 (λ s. (s.reserved, refl))
    (there image _ number _ Goal (goal h4 (record {
      live = about.live;
      at = omega arith;
      same = λ x a b c. rw (c, b, a);
      start = omega (arith, to);
      behind = omega (arith, to);
      code = same_word h.local e link ∙ omega (arith, pc);
      others = λ j ne. other_word h.local e link j ne;
    }))))))
