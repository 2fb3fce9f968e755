-- The numbers of operations are their ranks.
use Rattle.std.proofs.Common.{◌≡◌, ℕ, suc, ◌+◌, List, [], ◌∷◌, ◌++◌, length, ap, ap₂, ◌∙◌, sym, refl, arith, length-append}
use Rattle.fk_meaning_operation.specs.Kinds.{kind_of}
use Rattle.fk_meaning_forms.specs.Code.{Code, done, perform, choose, while, until, turn, again, quit, break, continue, call, ends, size, sites, numbered}
use Rattle.fk_meaning_forms.specs.Ranks.{ranked, SitesAreRanks}

four : {A : Type 0} (a b c d : Code A) → length (sites a) ≡ size a → length (sites b) ≡ size b → length (sites c) ≡ size c → length (sites d) ≡ size d
    → length (sites a ++ sites b ++ sites c ++ sites d) ≡ size a + size b + size c + size d
four a b c d x y z w =
    let e = length-append (sites a) (sites b) in
    let e' = length-append (sites a ++ sites b) (sites c) in
    let e'' = length-append (sites a ++ sites b ++ sites c) (sites d) in
    omega arith

-- as many as the code has
pub counted : {A : Type 0} (code : Code A) → length (sites code) ≡ size code
counted done = refl
counted (perform t op rest) = ap (λ n. suc n) (counted rest)
counted (choose t op a b rest) =
    let x = counted a in let y = counted b in let z = counted rest in
    let e = length-append (sites a) (sites b) in let e' = length-append (sites a ++ sites b) (sites rest) in
    let n : length (sites a ++ sites b ++ sites rest) ≡ size a + size b + size rest = omega arith in
    ap (λ n. suc n) n
counted (while test body step rest) = four test body step rest (counted test) (counted body) (counted step) (counted rest)
counted (until body test rest) =
    let x = counted body in let y = counted test in let z = counted rest in
    let e = length-append (sites body) (sites test) in let e' = length-append (sites body ++ sites test) (sites rest) in
    omega arith
counted (turn test body step rest) = four test body step rest (counted test) (counted body) (counted step) (counted rest)
counted (again test body step rest) = four test body step rest (counted test) (counted body) (counted step) (counted rest)
counted (quit t op rest) = ap (λ n. suc n) (counted rest)
counted (break rest) = counted rest
counted (continue rest) = counted rest
counted (call t op f opening rest) =
    let x = counted opening in let y = counted rest in
    let e = length-append (sites opening) (sites rest) in
    let n : length (sites opening ++ sites rest) ≡ size opening + size rest = omega arith in
    ap (λ n. suc n) n
counted (ends t op rest) = ap (λ n. suc n) (counted rest)

-- one list behind the other
behind : {A : Type 0} (n : ℕ) (xs ys : List (ℕ × A)) → ranked n (xs ++ ys) ≡ ranked n xs ++ ranked (n + length xs) ys
behind n [] ys = ap (λ m. ranked m ys) (let m : n ≡ n + 0 = omega arith in m)
behind n (x ∷ xs) ys =
    let m : suc n + length xs ≡ n + suc (length xs) = omega arith in
    ap (λ more. (x.0, n) ∷ more) (behind (suc n) xs ys ∙ ap (λ k. ranked (suc n) xs ++ ranked k ys) m)

both : {A : Type 0} (n m : ℕ) (xs ys : List (ℕ × A)) (xs' ys' : List (ℕ × ℕ)) → n + length xs ≡ m → xs' ≡ ranked n xs → ys' ≡ ranked m ys
    → xs' ++ ys' ≡ ranked n (xs ++ ys)
both n m xs ys xs' ys' e x y = ap₂ (λ front back. front ++ back) x (y ∙ ap (λ k. ranked k ys) (sym e)) ∙ sym (behind n xs ys)

three_ranked : {A : Type 0} (n : ℕ) (a b c : Code A) → ((m : ℕ) → sites (numbered m a) ≡ ranked m (sites a)) → ((m : ℕ) → sites (numbered m b) ≡ ranked m (sites b)) → ((m : ℕ) → sites (numbered m c) ≡ ranked m (sites c))
    → sites (numbered n a) ++ sites (numbered (n + size a) b) ++ sites (numbered (n + size a + size b) c) ≡ ranked n (sites a ++ sites b ++ sites c)
three_ranked n a b c x y z =
    let na = counted a in let nb = counted b in
    let e = length-append (sites a) (sites b) in
    let m : n + length (sites a ++ sites b) ≡ n + size a + size b = omega arith in
    both n (n + size a + size b) (sites a ++ sites b) (sites c) (sites (numbered n a) ++ sites (numbered (n + size a) b)) (sites (numbered (n + size a + size b) c)) m
    (both n (n + size a) (sites a) (sites b) (sites (numbered n a)) (sites (numbered (n + size a) b)) (ap (λ k. n + k) na) (x n) (y (n + size a)))
    (z (n + size a + size b))

four_ranked : {A : Type 0} (n : ℕ) (a b c d : Code A) → ((m : ℕ) → sites (numbered m a) ≡ ranked m (sites a)) → ((m : ℕ) → sites (numbered m b) ≡ ranked m (sites b)) → ((m : ℕ) → sites (numbered m c) ≡ ranked m (sites c)) → ((m : ℕ) → sites (numbered m d) ≡ ranked m (sites d))
    → sites (numbered n a) ++ sites (numbered (n + size a) b) ++ sites (numbered (n + size a + size b) c) ++ sites (numbered (n + size a + size b + size c) d) ≡ ranked n (sites a ++ sites b ++ sites c ++ sites d)
four_ranked n a b c d x y z w =
    let na = counted a in let nb = counted b in let nc = counted c in
    let e = length-append (sites a) (sites b) in
    let e' = length-append (sites a ++ sites b) (sites c) in
    let m : n + length (sites a ++ sites b ++ sites c) ≡ n + size a + size b + size c = omega arith in
    both n (n + size a + size b + size c) (sites a ++ sites b ++ sites c) (sites d) (sites (numbered n a) ++ sites (numbered (n + size a) b) ++ sites (numbered (n + size a + size b) c)) (sites (numbered (n + size a + size b + size c) d)) m
    (three_ranked n a b c x y z)
    (w (n + size a + size b + size c))

ranks : {A : Type 0} (code : Code A) (n : ℕ) → sites (numbered n code) ≡ ranked n (sites code)
ranks done n = refl
ranks (perform t op rest) n = ap (λ more. (kind_of op, n) ∷ more) (ranks rest (suc n))
ranks (choose t op a b rest) n = ap (λ more. (kind_of op, n) ∷ more) (three_ranked (suc n) a b rest (ranks a) (ranks b) (ranks rest))
ranks (while test body step rest) n = four_ranked n test body step rest (ranks test) (ranks body) (ranks step) (ranks rest)
ranks (until body test rest) n = three_ranked n body test rest (ranks body) (ranks test) (ranks rest)
ranks (turn test body step rest) n = four_ranked n test body step rest (ranks test) (ranks body) (ranks step) (ranks rest)
ranks (again test body step rest) n = four_ranked n test body step rest (ranks test) (ranks body) (ranks step) (ranks rest)
ranks (quit t op rest) n = ap (λ more. (kind_of op, n) ∷ more) (ranks rest (suc n))
ranks (break rest) n = ranks rest n
ranks (continue rest) n = ranks rest n
ranks (call t op f opening rest) n =
    ap (λ more. (kind_of op, n) ∷ more)
    (both (suc n) (suc n + size opening) (sites opening) (sites rest) (sites (numbered (suc n) opening)) (sites (numbered (suc n + size opening) rest))
    (ap (λ k. suc n + k) (counted opening)) (ranks opening (suc n)) (ranks rest (suc n + size opening)))
ranks (ends t op rest) n = ap (λ more. (kind_of op, n) ∷ more) (ranks rest (suc n))

pub sites_are_ranks : (A : Type 0) → SitesAreRanks A
sites_are_ranks A first code = ranks code first
