-- The bodies of a program's functions have its sites.
use Rattle.std.proofs.Common.{◌≡◌, ℕ, suc, ◌+◌, Bool, true, false, List, [], ◌∷◌, ◌++◌, length, Some, ap, refl, subst, arith, length-append}
use Rattle.std.specs.Prelude.{◌==◌, if◌then◌else◌}
use Rattle.fk_syntax.specs.declared.place.Place.{Place}
use Rattle.fk_syntax.specs.Program.{FunctionTree}
use Rattle.fk_meaning_operation.specs.Kinds.{kind_of}
use Rattle.fk_meaning_operation.specs.declared.operation.Operation.{Operation}
use Rattle.fk_meaning_forms.specs.Code.{Code, done, perform, choose, while, until, turn, again, quit, break, continue, call, ends, size, sites, numbered}
use Rattle.fk_meaning_forms.specs.Tables.{Tables}
use Rattle.fk_meaning_forms.specs.Program.{functions_of, binding_of, code_of, sites_in, sites_of, body_in, bodies_of, main_of}
use Rattle.fk_meaning_forms.proofs.Ranks.{counted}
use Rattle.fk_meaning.specs.Sites.{kind_at, SitesHaveTheirKinds}
use Rattle.fk_meaning.proofs.Sited.{All, goes, next_sited}

module _ (all : List (ℕ × Place)) where
  abbrev HasKind : ℕ → Operation → Type 0
  HasKind n op = kind_at all n ≡ Some (kind_of op)

  -- some sites stand among all of them, from a number on
  abbrev StandFrom : ℕ → List (ℕ × Place) → Type 0
  StandFrom n [] = Unit {0}
  StandFrom n (site ∷ more) = (kind_at all n ≡ Some site.0) × StandFrom (suc n) more

  front : (n : ℕ) (xs ys : List (ℕ × Place)) → StandFrom n (xs ++ ys) → StandFrom n xs
  front n [] ys h = tt
  front n (x ∷ xs) ys h = (h.0, front (suc n) xs ys h.1)

  back : (n m : ℕ) (xs ys : List (ℕ × Place)) → n + length xs ≡ m → StandFrom n (xs ++ ys) → StandFrom m ys
  back n m [] ys e h = let P : ℕ → Type 0 = λ k. StandFrom k ys in subst P (let same : n ≡ m = omega arith in same) h
  back n m (x ∷ xs) ys e h = back (suc n) m xs ys (let same : suc n + length xs ≡ m = omega arith in same) h.1

  -- three and four pieces of code, one behind the other
  record Three (n : ℕ) (a b c : Code Place) : Type 0 where
    first : StandFrom n (sites a)
    second : StandFrom (n + size a) (sites b)
    third : StandFrom (n + size a + size b) (sites c)

  three : (n : ℕ) (a b c : Code Place) → StandFrom n (sites a ++ sites b ++ sites c) → Three n a b c
  three n a b c h =
      let na = counted a in let nb = counted b in
      let e = length-append (sites a) (sites b) in
      let two = front n (sites a ++ sites b) (sites c) h in
      record {
        first = front n (sites a) (sites b) two;
        second = back n (n + size a) (sites a) (sites b) (ap (λ k. n + k) na) two;
        third = back n (n + size a + size b) (sites a ++ sites b) (sites c) (omega arith) h;
      }

  record Four (n : ℕ) (a b c d : Code Place) : Type 0 where
    three_of : Three n a b c
    fourth : StandFrom (n + size a + size b + size c) (sites d)

  four : (n : ℕ) (a b c d : Code Place) → StandFrom n (sites a ++ sites b ++ sites c ++ sites d) → Four n a b c d
  four n a b c d h =
      let na = counted a in let nb = counted b in let nc = counted c in
      let e = length-append (sites a) (sites b) in
      let e' = length-append (sites a ++ sites b) (sites c) in
      record {
        three_of = three n a b c (front n (sites a ++ sites b ++ sites c) (sites d) h);
        fourth = back n (n + size a + size b + size c) (sites a ++ sites b ++ sites c) (sites d) (omega arith) h;
      }

  all_numbered : (code : Code Place) (n : ℕ) → StandFrom n (sites code) → All HasKind (numbered n code)
  all_numbered done n h = tt
  all_numbered (perform t op rest) n h = (h.0, all_numbered rest (suc n) h.1)
  all_numbered (choose t op a b rest) n h =
      let g = three (suc n) a b rest h.1 in
      (h.0, all_numbered a (suc n) g.first, all_numbered b (suc n + size a) g.second, all_numbered rest (suc n + size a + size b) g.third)
  all_numbered (while test body after rest) n h =
      let g = four n test body after rest h in
      (all_numbered test n g.three_of.first, all_numbered body (n + size test) g.three_of.second, all_numbered after (n + size test + size body) g.three_of.third, all_numbered rest (n + size test + size body + size after) g.fourth)
  all_numbered (until body test rest) n h =
      let g = three n body test rest h in
      (all_numbered body n g.first, all_numbered test (n + size body) g.second, all_numbered rest (n + size body + size test) g.third)
  all_numbered (turn test body after rest) n h =
      let g = four n test body after rest h in
      (all_numbered test n g.three_of.first, all_numbered body (n + size test) g.three_of.second, all_numbered after (n + size test + size body) g.three_of.third, all_numbered rest (n + size test + size body + size after) g.fourth)
  all_numbered (again test body after rest) n h =
      let g = four n test body after rest h in
      (all_numbered test n g.three_of.first, all_numbered body (n + size test) g.three_of.second, all_numbered after (n + size test + size body) g.three_of.third, all_numbered rest (n + size test + size body + size after) g.fourth)
  all_numbered (quit t op rest) n h = (h.0, all_numbered rest (suc n) h.1)
  all_numbered (break rest) n h = all_numbered rest n h
  all_numbered (continue rest) n h = all_numbered rest n h
  all_numbered (call t op f opening rest) n h = (
    h.0,
    all_numbered opening (suc n) (front (suc n) (sites opening) (sites rest) h.1),
    all_numbered rest (suc n + size opening) (back (suc n) (suc n + size opening) (sites opening) (sites rest) (ap (λ k. suc n + k) (counted opening)) h.1),
  )
  all_numbered (ends t op rest) n h = (h.0, all_numbered rest (suc n) h.1)

  -- function by function
  bodies_stand : (tables : Tables) (everyone fs : List FunctionTree) (n b : ℕ) → StandFrom n (sites_in tables everyone fs) → All HasKind (body_in tables everyone n fs b)
  bodies_stand tables everyone [] n b h = tt
  bodies_stand tables everyone (f ∷ fs) n b h = by (binding_of tables f == b) (bodies_stand tables everyone fs (n + size code) b later)
    where
      code : Code Place
      code = code_of tables everyone f

      later : StandFrom (n + size code) (sites_in tables everyone fs)
      later = back n (n + size code) (sites code) (sites_in tables everyone fs) (ap (λ k. n + k) (counted code)) h

      by : (is : Bool) → All HasKind (body_in tables everyone (n + size code) fs b)
          → All HasKind (if is then numbered n code else body_in tables everyone (n + size code) fs b)
      by true g = all_numbered code n (front n (sites code) (sites_in tables everyone fs) h)
      by false g = g

-- all of them stand from 0 on
one_further : (y : ℕ × Place) (all : List (ℕ × Place)) (n : ℕ) (xs : List (ℕ × Place)) → StandFrom all n xs → StandFrom (y ∷ all) (suc n) xs
one_further y all n [] h = tt
one_further y all n (x ∷ xs) h = (h.0, one_further y all (suc n) xs h.1)

whole : (all : List (ℕ × Place)) → StandFrom all 0 all
whole [] = tt
whole (x ∷ xs) = (refl, one_further x xs 0 xs (whole xs))

pub sites_have_their_kinds : SitesHaveTheirKinds
sites_have_their_kinds tables program ways t e =
    let fs = functions_of program.items in
    let all = sites_of tables program in
    let bodies : (b : ℕ) → All (HasKind all) (bodies_of tables program b) = λ b. bodies_stand all tables fs fs 0 b (whole all) in
    next_sited (HasKind all) (bodies_of tables program) bodies ways _ t
    (goes (HasKind all) (bodies_of tables program (main_of tables program)) [] (bodies (main_of tables program)) tt) e
