-- Members that stand at one place.
use Rattle.std.proofs.Common.{◌≡◌, ℕ, suc, ◌<◌, List, [], ◌∷◌, ◌++◌, Bool, true, false, sym, ap, subst, ◌∙◌, arith, refl}
use Rattle.std.proofs.lemmas.Bool.{ne_eqb, eqb-true}
use Rattle.std.specs.Prelude.{◌==◌, if◌then◌else◌}
use Rattle.fk_num.specs.Word.{Memory, put, word_sum}
use Rattle.fk_image.specs.declared.Image.{Image}
use Rattle.fk_isa.specs.declared.instruction.Instruction.{Instruction}
use Rattle.fk_isa.specs.declared.instruction.Instruction.TheVariants.{Lw, Sw, AmoAddW}
use Rattle.fk_machine.specs.Hart.{Hart, Shared, Setting, Goes}
use Rattle.fk_machine.specs.Reach.{cleared}
use Rattle.fk_machine.specs.Step.{perform}
use Rattle.fk_machine.specs.Run.{count_in}
use Rattle.fk_machine.proofs.Performs.{lw-control, sw-control}
use Rattle.fk_sim_nodes.specs.Node.{Member, add, Words, Has}
use Rattle.fk_sim_nodes.specs.Alone.{Holds, IsAt, GoesWithin, NodeCycle}
use Rattle.fk_sim_nodes.specs.OnePlace.{AllAreAt, on_each, onward, onward_with, AllAtOwn, values_for, last_or, sum_from, each_finds, AllGoAlone, PrivateOfAll, LoadsOfAll, StoresOfAll, AddsOfAll}
use Rattle.fk_sim_nodes.proofs.InPlace.{step_at, amoadd-control}

-- ---- an instruction of all, by what it makes of a member's hart and of the node's words

module _ (f : Member → Memory → Hart) (g : Member → Memory → Memory) where
  abbrev pub all_after : List Member → Memory → List Member
  all_after [] own = []
  all_after (m ∷ ms) own = record m { hart = f m own } ∷ all_after ms (g m own)

  abbrev pub words_after : List Member → Memory → Memory
  words_after [] own = own
  words_after (m ∷ ms) own = words_after ms (g m own)

  abbrev pub AllWithin : Words → Setting → Instruction → List Member → Type 0
  AllWithin mine t i [] = Unit {0}
  AllWithin mine t i (m ∷ ms) =
      ((own : Memory) (sh : Shared) → Has mine sh.control own → GoesWithin mine (perform t m.number i m.hart sh) (f m own) sh (g m own))
      × AllWithin mine t i ms

  pub one_instruction : (image : Image) (mine : Words) (t : Setting) (k c : ℕ) (i : Instruction) (ms : List Member) (own : Memory) (Then : List Member → Memory → Type 0)
      → Holds image t → IsAt image k i c → AllAreAt k ms → AllWithin mine t i ms → Then (all_after ms own) (words_after ms own)
      → NodeCycle image mine t c ms own Then
  one_instruction image mine t k c i [] own Then holds at stand within follows = follows
  one_instruction image mine t k c i (m ∷ ms) own Then holds at stand within follows = (
    f m own,
    g m own,
    record {
      live = stand.1;
      counted = ap (count_in image.commits.items) stand.0 ∙ at.counted;
      goes = λ sh has.
          subst (λ e. GoesWithin mine e (f m own) sh (g m own)) (sym (step_at image k c i at t holds m.number m.hart sh stand.0)) (within.0 own sh has);
    },
    one_instruction image mine t k c i ms (g m own) (λ ms' own'. Then (record m { hart = f m own } ∷ ms') own') holds at stand.2 within.1 follows,
  )

  -- all stand at the next word of the code
  pub stand_next : (k : ℕ) (ms : List Member) (own : Memory) → k < 262144
      → ((m : Member) (own : Memory) → ((f m own).pc ≡ word_sum m.hart.pc 4) × ((f m own).ended ≡ m.hart.ended))
      → AllAreAt k ms → AllAreAt (suc k) (all_after ms own)
  stand_next k [] own lt next stand = tt
  stand_next k (m ∷ ms) own lt next stand =
      let n = next m own in
      (omega (arith, n.0, stand.0, lt), n.1 ∙ stand.1, stand_next k ms (g m own) lt next stand.2)

-- ---- private instructions

private_after : (f : Member → Hart) (ms : List Member) (own : Memory) → all_after (λ m own. f m) (λ m own. own) ms own ≡ on_each f ms
private_after f [] own = refl
private_after f (m ∷ ms) own = ap (λ l. record m { hart = f m } ∷ l) (private_after f ms own)

same_words : (f : Member → Memory → Hart) (ms : List Member) (own : Memory) → words_after f (λ m own. own) ms own ≡ own
same_words f [] own = refl
same_words f (m ∷ ms) own = same_words f ms own

private_within : (mine : Words) (t : Setting) (i : Instruction) (f : Member → Hart) (ms : List Member) → AllGoAlone t i f ms
    → AllWithin (λ m own. f m) (λ m own. own) mine t i ms
private_within mine t i f [] alone = tt
private_within mine t i f (m ∷ ms) alone = (
  λ own sh has.
      let a = alone.0 sh in
      record { control = sh.control; reserved = a.0; goes = a.1; has = has; keeps = λ j others. refl },
  private_within mine t i f ms alone.1,
)

pub private_of_all : PrivateOfAll
private_of_all image mine t k c i f ms own holds at stand alone =
    one_instruction (λ m own. f m) (λ m own. own) image mine t k c i ms own (λ ms' own'. (ms' ≡ on_each f ms) × (own' ≡ own)) holds at stand
    (private_within mine t i f ms alone) (private_after f ms own, same_words (λ m own. f m) ms own)

-- ---- loads

load_within : (mine : Words) (t : Setting) (rd rs imm : ℕ) (word : Member → ℕ) (ms : List Member) → AllAtOwn mine (λ h. word_sum (h.registers rs) imm) word ms
    → AllWithin (λ m own. onward_with rd (own (word m)) m.hart) (λ m own. own) mine t (Lw rd rs imm) ms
load_within mine t rd rs imm word [] all = tt
load_within mine t rd rs imm word (m ∷ ms) all = (
  λ own sh has. record {
    control = sh.control;
    reserved = sh.reserved;
    goes =
        lw-control t m.number rd rs imm (word m) m.hart sh all.0.aligned all.0.place
        ∙ ap (λ v. Goes (onward_with rd v m.hart) sh) (has (word m) all.0.own);
    has = has;
    keeps = λ j others. refl;
  },
  load_within mine t rd rs imm word ms all.1,
)

loaded : (rd : ℕ) (word : Member → ℕ) (ms : List Member) (own : Memory)
    → all_after (λ m own. onward_with rd (own (word m)) m.hart) (λ m own. own) ms own ≡ on_each (λ m. onward_with rd (own (word m)) m.hart) ms
loaded rd word [] own = refl
loaded rd word (m ∷ ms) own = ap (λ l. record m { hart = onward_with rd (own (word m)) m.hart } ∷ l) (loaded rd word ms own)

pub loads_of_all : LoadsOfAll
loads_of_all image mine t k c rd rs imm word ms own holds at stand all =
    let f : Member → Memory → Hart = λ m own. onward_with rd (own (word m)) m.hart in
    one_instruction f (λ m own. own) image mine t k c (Lw rd rs imm) ms own
    (λ ms' own'. (ms' ≡ on_each (λ m. onward_with rd (own (word m)) m.hart) ms) × (own' ≡ own) × AllAreAt (suc k) ms') holds at stand
    (load_within mine t rd rs imm word ms all)
    (loaded rd word ms own, same_words f ms own, stand_next f (λ m own. own) k ms own at.within (λ m own. (refl, refl)) stand)

-- ---- stores

put_off : (m : Memory) (i v j : ℕ) → (j ≡ i → ⊥) → put m i v j ≡ m j
put_off m i v j f = rw (ne_eqb j i f)

-- a word that is put into both is seen alike
has_put : (mine : Words) (control own : Memory) (i v w : ℕ) → v ≡ w → Has mine control own → Has mine (put control i v) (put own i w)
has_put mine control own i v w e has = λ j o. ap (λ x. put control i x j) e ∙ ap (λ y. if j == i then w else y) (has j o)

-- a word that is put is one of the node's
keeps_put : (mine : Words) (control : Memory) (i v : ℕ) → mine i ≡ true → (j : ℕ) → mine j ≡ false → put control i v j ≡ control j
keeps_put mine control i v own j others = put_off control i v j (λ e. let f : false ≡ true = sym others ∙ ap mine e ∙ own in cc)

abbrev putting : (word : Member → ℕ) → (rv : ℕ) → Member → Memory → Memory
putting word rv m own = put own (word m) (m.hart.registers rv)

store_within : (mine : Words) (t : Setting) (rs rv imm : ℕ) (word : Member → ℕ) (ms : List Member) → AllAtOwn mine (λ h. word_sum (h.registers rs) imm) word ms
    → AllWithin (λ m own. onward m.hart) (putting word rv) mine t (Sw rs rv imm) ms
store_within mine t rs rv imm word [] all = tt
store_within mine t rs rv imm word (m ∷ ms) all = (
  λ own sh has. record {
    control = put sh.control (word m) (m.hart.registers rv);
    reserved = _;
    goes = sw-control t m.number rs rv imm (word m) m.hart sh all.0.aligned all.0.place;
    has = has_put mine sh.control own (word m) _ _ refl has;
    keeps = keeps_put mine sh.control (word m) (m.hart.registers rv) all.0.own;
  },
  store_within mine t rs rv imm word ms all.1,
)

last_pick : (b : Bool) (old v : ℕ) (vs : List ℕ) → last_or (if b then v else old) vs ≡ last_or old (add b v vs)
last_pick true old v vs = refl
last_pick false old v vs = refl

stored : (word : Member → ℕ) (rv w : ℕ) (f : Member → Memory → Hart) (ms : List Member) (own : Memory)
    → words_after f (putting word rv) ms own w ≡ last_or (own w) (values_for word rv w ms)
stored word rv w f [] own = refl
stored word rv w f (m ∷ ms) own =
    stored word rv w f ms (putting word rv m own) ∙ last_pick (w == word m) (own w) (m.hart.registers rv) (values_for word rv w ms)

stored_after : (word : Member → ℕ) (rv : ℕ) (ms : List Member) (own : Memory)
    → all_after (λ m own. onward m.hart) (putting word rv) ms own ≡ on_each (λ m. onward m.hart) ms
stored_after word rv [] own = refl
stored_after word rv (m ∷ ms) own = ap (λ l. record m { hart = onward m.hart } ∷ l) (stored_after word rv ms (putting word rv m own))

pub stores_of_all : StoresOfAll
stores_of_all image mine t k c rs rv imm word ms own holds at stand all =
    let f : Member → Memory → Hart = λ m own. onward m.hart in
    one_instruction f (putting word rv) image mine t k c (Sw rs rv imm) ms own
    (λ ms' own'. (ms' ≡ on_each (λ m. onward m.hart) ms) × ((w : ℕ) → own' w ≡ last_or (own w) (values_for word rv w ms)) × AllAreAt (suc k) ms')
    holds at stand (store_within mine t rs rv imm word ms all)
    (stored_after word rv ms own, λ w. stored word rv w f ms own, stand_next f (putting word rv) k ms own at.within (λ m own. (refl, refl)) stand)

-- ---- additions

abbrev finding : (word : Member → ℕ) → (rd : ℕ) → Member → Memory → Hart
finding word rd m own = onward_with rd (own (word m)) m.hart

abbrev adding : (word : Member → ℕ) → (rv : ℕ) → Member → Memory → Memory
adding word rv m own = put own (word m) (word_sum (own (word m)) (m.hart.registers rv))

add_within : (mine : Words) (t : Setting) (rd rs rv : ℕ) (word : Member → ℕ) (ms : List Member) → AllAtOwn mine (λ h. h.registers rs) word ms
    → AllWithin (finding word rd) (adding word rv) mine t (AmoAddW rd rs rv false false) ms
add_within mine t rd rs rv word [] all = tt
add_within mine t rd rs rv word (m ∷ ms) all = (
  λ own sh has.
      let i = word m in
      let h = m.hart in
      let same : sh.control i ≡ own i = has i all.0.own in
      record {
        control = put sh.control i (word_sum (sh.control i) (h.registers rv));
        reserved = cleared sh.reserved (h.registers rs);
        goes =
            amoadd-control t m.number rd rs rv i h sh all.0.aligned all.0.place
            ∙ ap (λ v. Goes (onward_with rd v h) (record sh { control = put sh.control i (word_sum (sh.control i) (h.registers rv)); reserved = cleared sh.reserved (h.registers rs) })) same;
        has = has_put mine sh.control own i _ _ (ap (λ v. word_sum v (h.registers rv)) same) has;
        keeps = keeps_put mine sh.control i _ all.0.own;
      },
  add_within mine t rd rs rv word ms all.1,
)

-- what an addition makes of a word
added_by : (b : Bool) (w i v : ℕ) (own : Memory) (vs : List ℕ) → (w == i) ≡ b
    → sum_from (if b then word_sum (own i) v else own w) vs ≡ sum_from (own w) (add b v vs)
added_by true w i v own vs e = ap (λ j. sum_from (word_sum (own j) v) vs) (sym (eqb-true w i e))
added_by false w i v own vs e = refl

added : (word : Member → ℕ) (rv w : ℕ) (f : Member → Memory → Hart) (ms : List Member) (own : Memory)
    → words_after f (adding word rv) ms own w ≡ sum_from (own w) (values_for word rv w ms)
added word rv w f [] own = refl
added word rv w f (m ∷ ms) own =
    added word rv w f ms (adding word rv m own) ∙ added_by (w == word m) w (word m) (m.hart.registers rv) own (values_for word rv w ms) refl

sum-append : (v : ℕ) (xs ys : List ℕ) → sum_from v (xs ++ ys) ≡ sum_from (sum_from v xs) ys
sum-append v [] ys = refl
sum-append v (x ∷ xs) ys = sum-append (word_sum v x) xs ys

add-append : (b : Bool) (x : ℕ) (xs ys : List ℕ) → add b x xs ++ ys ≡ add b x (xs ++ ys)
add-append true x xs ys = refl
add-append false x xs ys = refl

values-append : (word : Member → ℕ) (r w : ℕ) (before : List Member) (m : Member)
    → values_for word r w (before ++ m ∷ []) ≡ values_for word r w before ++ add (w == word m) (m.hart.registers r) []
values-append word r w [] m = refl
values-append word r w (e ∷ before) m =
    ap (add (w == word e) (e.hart.registers r)) (values-append word r w before m)
    ∙ sym (add-append (w == word e) (e.hart.registers r) (values_for word r w before) (add (w == word m) (m.hart.registers r) []))

-- the words hold what those before have added
one_more : (word : Member → ℕ) (rv w : ℕ) (own now : Memory) (before : List Member) (m : Member)
    → now w ≡ sum_from (own w) (values_for word rv w before) → adding word rv m now w ≡ sum_from (own w) (values_for word rv w (before ++ m ∷ []))
one_more word rv w own now before m e =
    let vs = add (w == word m) (m.hart.registers rv) [] in
    added_by (w == word m) w (word m) (m.hart.registers rv) now [] refl
    ∙ ap (λ v. sum_from v vs) e
    ∙ sym (sum-append (own w) (values_for word rv w before) vs)
    ∙ ap (sum_from (own w)) (sym (values-append word rv w before m))

found : (word : Member → ℕ) (rd rv : ℕ) (own now : Memory) (before ms : List Member) → ((w : ℕ) → now w ≡ sum_from (own w) (values_for word rv w before))
    → all_after (finding word rd) (adding word rv) ms now ≡ each_finds word rd rv own before ms
found word rd rv own now before [] held = refl
found word rd rv own now before (m ∷ ms) held =
    ap (λ v. let m' : Member = record { number = m.number; hart = onward_with rd v m.hart } in m' ∷ all_after (finding word rd) (adding word rv) ms (adding word rv m now)) (held (word m))
    ∙ ap (λ l. record m { hart = onward_with rd (sum_from (own (word m)) (values_for word rv (word m) before)) m.hart } ∷ l)
    (found word rd rv own (adding word rv m now) (before ++ m ∷ []) ms (λ w. one_more word rv w own now before m (held w)))

pub adds_of_all : AddsOfAll
adds_of_all image mine t k c rd rs rv word ms own holds at stand all =
    let f = finding word rd in
    let g = adding word rv in
    one_instruction f g image mine t k c (AmoAddW rd rs rv false false) ms own
    (λ ms' own'. (ms' ≡ each_finds word rd rv own [] ms) × ((w : ℕ) → own' w ≡ sum_from (own w) (values_for word rv w ms)) × AllAreAt (suc k) ms')
    holds at stand (add_within mine t rd rs rv word ms all)
    (found word rd rv own own [] ms (λ w. refl), λ w. added word rv w f ms own, stand_next f g k ms own at.within (λ m own. (refl, refl)) stand)
