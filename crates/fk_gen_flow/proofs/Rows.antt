-- Lists that are alike element by element, and what is added to an assembler one after another.
use Rattle.std.proofs.Common.{◌≡◌, ℕ, zero, suc, ◌+◌, ◌*◌, ◌<◌, ◌≤◌, List, [], ◌∷◌, ◌++◌, length, take, ap, sym, Option, Bool, false, ◌∙◌, refl, arith, get_or}
use Rattle.std.specs.Prelude.{if◌then◌else◌, All}
use Rattle.std.proofs.lemmas.List.Elements.{All-nil, All-cons, All-head, All-tail}
use Rattle.fk_asm.specs.Assembly.{Assembly}
use Rattle.fk_asm.specs.Block.{with_block}
use Rattle.fk_asm.proofs.Straight.{with_block-append}
use Rattle.fk_meaning_operation.specs.declared.operation.Operation.{Operation}
use Rattle.fk_core.specs.declared.op.CoreOp.{CoreOp}
use Rattle.fk_core.specs.Next.{is_jump}
use Rattle.fk_core.specs.Numbers.{operation_of}
use Rattle.fk_gen_flow.specs.Flow.{jump_block}
use Rattle.fk_gen_flow.specs.Opening.{register_lines, first_line, first_lines, opening_lines}
use Rattle.fk_gen_flow.specs.Blocks.{flow_block, block_by}

pub row : {A : Type 0} {x y : A} {xs ys : List A} → x ≡ y → xs ≡ ys → x ∷ xs ≡ y ∷ ys
row {A} {x} {y} {xs} {ys} e f = ap (λ z. z ∷ xs) e ∙ ap (λ zs. y ∷ zs) f

-- the lines of one first value more
first_lines_push : (i n : ℕ) (firsts : List ℕ) → n < length firsts → first_lines i (take n firsts) ++ first_line (i + n) (get_or firsts n 0) ≡ first_lines i (take (suc n) firsts)
first_lines_push i n [] lt = absurd (omega arith)
first_lines_push i zero (v ∷ firsts) lt = let e : i + 0 ≡ i = omega arith in ap (λ k. first_line k v) e
first_lines_push i (suc n) (v ∷ firsts) lt =
    let e : i + suc n ≡ suc i + n = omega arith in
    ap (λ k. first_line i v ++ (first_lines (suc i) (take n firsts) ++ first_line k (get_or firsts n 0))) e
    ∙ ap (λ ms. first_line i v ++ ms) (first_lines_push (suc i) n firsts (omega arith))

pub first_lines_more : (n k : ℕ) (firsts : List ℕ) → n < length firsts → k ≡ n + 1 → first_lines 0 (take n firsts) ++ first_line n (get_or firsts n 0) ≡ first_lines 0 (take k firsts)
first_lines_more n k firsts lt is =
    let e : 0 + n ≡ n = omega arith in
    let f : suc n ≡ k = omega arith in
    ap (λ j. first_lines 0 (take n firsts) ++ first_line j (get_or firsts n 0)) (sym e) ∙ first_lines_push 0 n firsts lt ∙ ap (λ j. first_lines 0 (take j firsts)) f

pub many_first_lines : (i n : ℕ) (firsts : List ℕ) → n ≤ length firsts → length (first_lines i (take n firsts)) ≡ 3 * n
many_first_lines i zero firsts le = refl
many_first_lines i (suc n) [] le = absurd (omega arith)
many_first_lines i (suc n) (v ∷ firsts) le = let e = many_first_lines (suc i) n firsts (omega arith) in omega arith

pub one_first_more : (old mid new : Assembly) (firsts : List ℕ) (n k : ℕ) → n < length firsts → k ≡ n + 1 → mid ≡ with_block old (first_lines 0 (take n firsts))
    → new ≡ with_block mid (first_line n (get_or firsts n 0)) → new ≡ with_block old (first_lines 0 (take k firsts))
one_first_more old mid new firsts n k lt is e f =
    f ∙ ap (λ a. with_block a (first_line n (get_or firsts n 0))) e ∙ with_block-append old (first_lines 0 (take n firsts)) (first_line n (get_or firsts n 0))
    ∙ ap (with_block old) (first_lines_more n k firsts lt is)

pub opening_joined : (a b c d : Assembly) (of_file : ℕ) (firsts : List ℕ) (main : ℕ) → b ≡ with_block a (register_lines of_file) → c ≡ with_block b (first_lines 0 firsts)
    → d ≡ with_block c (jump_block main) → d ≡ with_block a (opening_lines of_file firsts main)
opening_joined a b c d of_file firsts main e f g =
    g ∙ ap (λ x. with_block x (jump_block main)) f ∙ with_block-append b (first_lines 0 firsts) (jump_block main)
    ∙ ap (λ x. with_block x (first_lines 0 firsts ++ jump_block main)) e ∙ with_block-append a (register_lines of_file) (first_lines 0 firsts ++ jump_block main)

-- an operation that is no jump has its block
pub chosen : (clears back : ℕ) (op : CoreOp) (operation : Option Operation) → is_jump op ≡ false → operation ≡ operation_of op.kind op.number
    → flow_block clears back op ≡ block_by clears back op operation
chosen clears back op operation e f =
    ap (λ b. if b then jump_block op.target else block_by clears back op (operation_of op.kind op.number)) e ∙ ap (block_by clears back op) (sym f)

pub many_firsts : (i : ℕ) (firsts : List ℕ) → length (first_lines i firsts) ≡ 3 * length firsts
many_firsts i [] = refl
many_firsts i (v ∷ firsts) = let e = many_firsts (suc i) firsts in omega arith

-- what is so of all of two lists is so of each
pub all_front : {X : Type 0} (P : X → Type 0) (xs ys : List X) → All P (xs ++ ys) → All P xs
all_front P [] ys all = All-nil P
all_front P (x ∷ xs) ys all = All-cons P x xs (All-head P x (xs ++ ys) all) (all_front P xs ys (All-tail P x (xs ++ ys) all))

pub all_back : {X : Type 0} (P : X → Type 0) (xs ys : List X) → All P (xs ++ ys) → All P ys
all_back P [] ys all = all
all_back P (x ∷ xs) ys all = all_back P xs ys (All-tail P x (xs ++ ys) all)
