-- A visitor that measures code has seen its places.
use Rattle.std.proofs.Common.{◌≡◌, ℕ, Bool, suc, ◌+◌, ◌*◌, ◌^◌, ◌<◌, ◌≤◌, max, List, [], ◌∷◌, ◌++◌, refl, ◌∙◌, ap, arith, subst}
use Rattle.fk_meaning_operation.specs.declared.operation.Operation.{Operation}
use Rattle.fk_meaning_forms.specs.Code.{done, perform, choose, while, until, turn, again, quit, break, continue, call, ends, size}
use Rattle.fk_meaning_forms.specs.Expressions.{Coded, Signature}
use Rattle.fk_layout_walk.specs.declared.visitor.Event.TheVariants.{Aside, Joined}
use Rattle.fk_syntax.specs.Program.{FunctionTree}
use Rattle.fk_layout_walk.specs.declared.known.ProgramTables.{ProgramTables}
use Rattle.fk_layout_walk.specs.Known.{functions_of}
use Rattle.fk_layout_walk_statements.specs.Texts.{code_in}
use Rattle.fk_layout_walk.specs.Shown.{shown}
use Rattle.fk_layout_walk.specs.Through.{through}
use Rattle.fk_layout_sizes.specs.declared.measure.Measure.{Measure}
use Rattle.fk_layout_sizes.specs.Measure.{measure_after, mark_of, mark_after, performed, returned}
use Rattle.fk_layout_sizes.specs.Places.{At, behind_operation, behind_call, behind, places, most_values, deepest, places_in, nesting_in}
use Rattle.fk_layout_sizes.proofs.Shown.{pushes_one, nests_one, results_one, same_takes, same_pushes, same_nests}

abbrev at : Measure → At
at s = record { values = s.mark.values; nesting = s.mark.nesting }

-- what there is has been counted among what there was
record IsSeen (s : Measure) : Type 0 where
  values : s.mark.values ≤ s.mark.most
  nesting : s.mark.nesting ≤ s.mark.deepest

-- the visitor's numbers have room for what so many operations do
record Fits (p : At) (n : ℕ) : Type 0 where
  values : p.values + 2 * n < 2 ^ 32
  nesting : p.nesting + n < 2 ^ 32

part : (p : At) (n m : ℕ) → Fits p (n + m) → Fits p n
part p n m fits =
    let v = fits.values in
    let d = fits.nesting in
    record { values = omega (arith, v); nesting = omega (arith, d) }

-- the visitor behind an operation; behind the first way of a choice, where the second begins; behind both; and behind a call
abbrev done_by : Measure → Operation → Measure
done_by s op = record { mark = performed s.mark (shown op) }

abbrev aside : (first behind : Measure) → Measure
aside first behind = record { mark = mark_after behind.mark (Aside first.mark) }

abbrev joined : (before first behind : Measure) → Measure
joined before first behind = record { mark = mark_after behind.mark (Joined before.mark first.mark) }

abbrev back_from : (entered : Measure) → (void : Bool) → Measure
back_from entered void = record { mark = returned entered.mark void }

-- one operation brought it to a place, from which so many follow
record Operated (s : Measure) (q : At) (n : ℕ) (t : Measure) : Type 0 where
  values : t.mark.values ≡ q.values
  nesting : t.mark.nesting ≡ q.nesting
  most : t.mark.most ≡ max s.mark.most q.values
  deepest : t.mark.deepest ≡ max s.mark.deepest q.nesting
  seen : IsSeen t
  fits : Fits q n

-- it came to a place, and saw these
record Comes (s : Measure) (q : At) (ps : List At) (t : Measure) : Type 0 where
  values : t.mark.values ≡ q.values
  nesting : t.mark.nesting ≡ q.nesting
  most : t.mark.most ≡ max s.mark.most (most_values ps)
  deepest : t.mark.deepest ≡ max s.mark.deepest (deepest ps)

-- code of so many operations leads from one place to another, and these are its places
record Bounds (p last : At) (ps : List At) (n : ℕ) : Type 0 where
  values : last.values ≤ p.values + 2 * n
  nesting : last.nesting ≤ p.nesting + n
  first_values : p.values ≤ most_values ps
  first_nesting : p.nesting ≤ deepest ps
  last_values : last.values ≤ most_values ps
  last_nesting : last.nesting ≤ deepest ps

most_append : (xs ys : List At) → most_values (xs ++ ys) ≡ max (most_values xs) (most_values ys)
most_append [] ys = omega arith
most_append (x ∷ xs) ys = let h = most_append xs ys in omega (arith, h)

deepest_append : (xs ys : List At) → deepest (xs ++ ys) ≡ max (deepest xs) (deepest ys)
deepest_append [] ys = omega arith
deepest_append (x ∷ xs) ys = let h = deepest_append xs ys in omega (arith, h)

same_place : (p q : At) → p.values ≡ q.values → p.nesting ≡ q.nesting → p ≡ q
same_place p q e f = grind (arith, e, f)

-- one piece of code behind another
both : (p q r : At) (ps qs : List At) (n m : ℕ) → Bounds p q ps n → Bounds q r qs m → Bounds p r (ps ++ qs) (n + m)
both p q r ps qs n m a b =
    let e = most_append ps qs in
    let f = deepest_append ps qs in
    let av = a.values in
    let an = a.nesting in
    let bv = b.values in
    let bn = b.nesting in
    let afv = a.first_values in
    let afn = a.first_nesting in
    let blv = b.last_values in
    let bln = b.last_nesting in
    record {
      values = omega (arith, av, bv);
      nesting = omega (arith, an, bn);
      first_values = omega (arith, e, afv);
      first_nesting = omega (arith, f, afn);
      last_values = omega (arith, e, blv);
      last_nesting = omega (arith, f, bln);
    }

-- code behind one operation
next : (p q r : At) (qs : List At) (n : ℕ) → q.values ≤ p.values + 2 → q.nesting ≤ p.nesting + 1 → Bounds q r qs n → Bounds p r (p ∷ qs) (suc n)
next p q r qs n few near b =
    let v = b.values in
    let d = b.nesting in
    let lv = b.last_values in
    let ld = b.last_nesting in
    record {
      values = omega (arith, few, v);
      nesting = omega (arith, near, d);
      first_values = omega arith;
      first_nesting = omega arith;
      last_values = omega (arith, lv);
      last_nesting = omega (arith, ld);
    }

-- a choice, both of its ways, and code behind it
chosen_bounded : (p q a b r : At) (xs ys zs : List At) (n m k : ℕ) → q.values ≤ p.values + 1 → q.nesting ≤ p.nesting + 1
    → Bounds q a xs n → Bounds q b ys m → Bounds (record { values = a.values; nesting = p.nesting }) r zs k
    → Bounds p r (p ∷ (xs ++ ys ++ zs)) (suc (n + m + k))
chosen_bounded p q a b r xs ys zs n m k few near x y z =
    let e = most_append (xs ++ ys) zs in
    let f = deepest_append (xs ++ ys) zs in
    let xv = x.values in
    let zv = z.values in
    let zd = z.nesting in
    let lv = z.last_values in
    let ld = z.last_nesting in
    record {
      values = omega (arith, few, xv, zv);
      nesting = omega (arith, zd);
      first_values = omega arith;
      first_nesting = omega arith;
      last_values = omega (arith, e, lv);
      last_nesting = omega (arith, f, ld);
    }

few_more : (p : At) (op : Operation) → (behind_operation p op).values ≤ p.values + 1
few_more p op = let h = pushes_one op in omega (arith, h)

near_by : (p : At) (op : Operation) → (behind_operation p op).nesting ≤ p.nesting + 1
near_by p op = let h = nests_one op in omega (arith, h)

-- an operation, with the numbers that it names or without
operated : (s : Measure) (op : Operation) (n : ℕ) → IsSeen s → Fits (at s) (suc n) → Operated s (behind_operation (at s) op) n (done_by s op)
operated s op n h fits =
    let v = fits.values in
    let d = fits.nesting in
    let taken = same_takes op s.mark.values (omega (arith, v)) in
    let pushed = same_pushes op in
    let nested = same_nests op in
    let one = pushes_one op in
    let other = nests_one op in
    let e : (done_by s op).mark.values ≡ (behind_operation (at s) op).values = omega (arith, v, taken, pushed, one) in
    let f : (done_by s op).mark.nesting ≡ (behind_operation (at s) op).nesting = omega (arith, d, nested, other) in
    record {
      values = e;
      nesting = f;
      most = ap (λ (k : ℕ). max s.mark.most k) e;
      deepest = ap (λ (k : ℕ). max s.mark.deepest k) f;
      seen = record { values = omega arith; nesting = omega arith };
      fits = record { values = omega (arith, v, one); nesting = omega (arith, d, other) };
    }

module _ (functions : (binding : ℕ) → Signature) where
  abbrev past : Measure → Coded → Measure
  past s code = through measure_after mark_of functions s code

  abbrev behind_all : At → Coded → At
  behind_all p code = behind functions p code

  abbrev seen : At → Coded → List At
  seen p code = places functions p code

  abbrev IsBounded : Coded → Type 0
  IsBounded code = (p : At) → Bounds p (behind_all p code) (seen p code) (size code)

  two_bounded : (a b : Coded) → IsBounded a → IsBounded b → (p : At)
      → Bounds p (behind_all (behind_all p a) b) (seen p a ++ seen (behind_all p a) b) (size a + size b)
  two_bounded a b x y p =
      let q = behind_all p a in
      both p q (behind_all q b) (seen p a) (seen q b) (size a) (size b) (x p) (y q)

  three_bounded : (a b c : Coded) → IsBounded a → IsBounded b → IsBounded c → (p : At)
      → Bounds p (behind_all (behind_all (behind_all p a) b) c) (seen p a ++ seen (behind_all p a) b ++ seen (behind_all (behind_all p a) b) c)
      (size a + size b + size c)
  three_bounded a b c x y z p =
      let q = behind_all p a in
      let r = behind_all q b in
      both p r (behind_all r c) (seen p a ++ seen q b) (seen r c) (size a + size b) (size c) (two_bounded a b x y p) (z r)

  four_bounded : (a b c d : Coded) → IsBounded a → IsBounded b → IsBounded c → IsBounded d → (p : At)
      → Bounds p (behind_all (behind_all (behind_all (behind_all p a) b) c) d)
      (seen p a ++ seen (behind_all p a) b ++ seen (behind_all (behind_all p a) b) c ++ seen (behind_all (behind_all (behind_all p a) b) c) d)
      (size a + size b + size c + size d)
  four_bounded a b c d x y z w p =
      let q = behind_all p a in
      let r = behind_all q b in
      let u = behind_all r c in
      both p u (behind_all u d) (seen p a ++ seen q b ++ seen r c) (seen u d) (size a + size b + size c) (size d) (three_bounded a b c x y z p) (w u)

  next_bounded : (op : Operation) (rest : Coded) → IsBounded rest → (p : At)
      → Bounds p (behind_all (behind_operation p op) rest) (p ∷ seen (behind_operation p op) rest) (suc (size rest))
  next_bounded op rest x p =
      let q = behind_operation p op in
      let few = few_more p op in
      next p q (behind_all q rest) (seen q rest) (size rest) (omega (arith, few)) (near_by p op) (x q)

  call_bounded : (op : Operation) (f : ℕ) (n : ℕ) (rest : Coded) → IsBounded rest → (p : At)
      → Bounds p (behind_all (behind_call functions p op f) rest)
      (p ∷ behind_operation p op ∷ seen (behind_call functions p op f) rest) (suc (n + size rest))
  call_bounded op f n rest x p =
      let q = behind_call functions p op f in
      let few = few_more p op in
      let near = near_by p op in
      let result = results_one (functions f).void in
      let b = x q in
      let v = b.values in
      let d = b.nesting in
      let lv = b.last_values in
      let ld = b.last_nesting in
      record {
        values = omega (arith, few, result, v);
        nesting = omega (arith, near, d);
        first_values = omega arith;
        first_nesting = omega arith;
        last_values = omega (arith, lv);
        last_nesting = omega (arith, ld);
      }

  bounded : (code : Coded) → IsBounded code
  bounded done p = record {
    values = omega arith;
    nesting = omega arith;
    first_values = omega arith;
    first_nesting = omega arith;
    last_values = omega arith;
    last_nesting = omega arith;
  }
  bounded (perform t op rest) p = next_bounded op rest (bounded rest) p
  bounded (choose t op a b rest) p =
      let q = behind_operation p op in
      let x = bounded a q in
      let y = bounded b q in
      let j : At = record { values = (behind_all q a).values; nesting = p.nesting } in
      let z = bounded rest j in
      chosen_bounded p q (behind_all q a) (behind_all q b) (behind_all j rest) (seen q a) (seen q b) (seen j rest) (size a) (size b) (size rest)
      (few_more p op) (near_by p op) x y z
  bounded (while test body step rest) p = four_bounded test body step rest (bounded test) (bounded body) (bounded step) (bounded rest) p
  bounded (until body test rest) p = three_bounded body test rest (bounded body) (bounded test) (bounded rest) p
  bounded (turn test body step rest) p = four_bounded test body step rest (bounded test) (bounded body) (bounded step) (bounded rest) p
  bounded (again test body step rest) p = four_bounded test body step rest (bounded test) (bounded body) (bounded step) (bounded rest) p
  bounded (quit t op rest) p = next_bounded op rest (bounded rest) p
  bounded (break rest) p = bounded rest p
  bounded (continue rest) p = bounded rest p
  bounded (call t op f opening rest) p = call_bounded op f (size opening) rest (bounded rest) p
  bounded (ends t op rest) p = next_bounded op rest (bounded rest) p

  -- the visitor came to a place, and so goes on through code from there
  abbrev IsMeasured : Coded → Type 0
  IsMeasured code = (s : Measure) → IsSeen s → Fits (at s) (size code) → Comes s (behind_all (at s) code) (seen (at s) code) (past s code)

  onward : (s t : Measure) (p q : At) (ps : List At) (n : ℕ) (code : Coded) → at s ≡ p → IsSeen s → Fits p (n + size code) → Bounds p q ps n
      → IsMeasured code → Comes s q ps t → Comes s (behind_all q code) (ps ++ seen q code) (past t code)
  onward s t p q ps n code e seen_s fits b x c =
      let v = c.values in
      let d = c.nesting in
      let m = c.most in
      let k = c.deepest in
      let bv = b.values in
      let bd = b.nesting in
      let lv = b.last_values in
      let ld = b.last_nesting in
      let fv = fits.values in
      let fd = fits.nesting in
      let here : at t ≡ q = same_place (at t) q v d in
      let first : Comes t (behind_all (at t) code) (seen (at t) code) (past t code) =
      x t (record { values = omega (arith, v, m, lv); nesting = omega (arith, d, k, ld) })
      (record { values = omega (arith, v, bv, fv); nesting = omega (arith, d, bd, fd) }) in
      let y : Comes t (behind_all q code) (seen q code) (past t code) =
      subst (λ (r : At). Comes t (behind_all r code) (seen r code) (past t code)) here first in
      let ym = y.most in
      let yk = y.deepest in
      let am = most_append ps (seen q code) in
      let ak = deepest_append ps (seen q code) in
      record {
        values = y.values;
        nesting = y.nesting;
        most = omega (arith, m, ym, am);
        deepest = omega (arith, k, yk, ak);
      }

  two : (a b : Coded) → IsMeasured a → IsMeasured b → (s : Measure) → IsSeen s → Fits (at s) (size a + size b)
      → Comes s (behind_all (behind_all (at s) a) b) (seen (at s) a ++ seen (behind_all (at s) a) b) (past (past s a) b)
  two a b x y s h fits =
      onward s (past s a) (at s) (behind_all (at s) a) (seen (at s) a) (size a) b refl h fits (bounded a (at s)) y
      (x s h (part (at s) (size a) (size b) fits))

  three : (a b c : Coded) → IsMeasured a → IsMeasured b → IsMeasured c → (s : Measure) → IsSeen s → Fits (at s) (size a + size b + size c)
      → Comes s (behind_all (behind_all (behind_all (at s) a) b) c)
      (seen (at s) a ++ seen (behind_all (at s) a) b ++ seen (behind_all (behind_all (at s) a) b) c) (past (past (past s a) b) c)
  three a b c x y z s h fits =
      let q = behind_all (at s) a in
      onward s (past (past s a) b) (at s) (behind_all q b) (seen (at s) a ++ seen q b) (size a + size b) c refl h fits
      (two_bounded a b (bounded a) (bounded b) (at s)) z
      (two a b x y s h (part (at s) (size a + size b) (size c) fits))

  four : (a b c d : Coded) → IsMeasured a → IsMeasured b → IsMeasured c → IsMeasured d → (s : Measure) → IsSeen s
      → Fits (at s) (size a + size b + size c + size d)
      → Comes s (behind_all (behind_all (behind_all (behind_all (at s) a) b) c) d)
      (seen (at s) a ++ seen (behind_all (at s) a) b ++ seen (behind_all (behind_all (at s) a) b) c ++ seen (behind_all (behind_all (behind_all (at s) a) b) c) d)
      (past (past (past (past s a) b) c) d)
  four a b c d x y z w s h fits =
      let q = behind_all (at s) a in
      let r = behind_all q b in
      onward s (past (past (past s a) b) c) (at s) (behind_all r c) (seen (at s) a ++ seen q b ++ seen r c) (size a + size b + size c) d refl h fits
      (three_bounded a b c (bounded a) (bounded b) (bounded c) (at s)) w
      (three a b c x y z s h (part (at s) (size a + size b + size c) (size d) fits))

  -- from a place that it came to
  starts : (t : Measure) (q : At) (code : Coded) → t.mark.values ≡ q.values → t.mark.nesting ≡ q.nesting → IsSeen t → Fits q (size code)
      → IsMeasured code → Comes t (behind_all q code) (seen q code) (past t code)
  starts t q code v d h fits x =
      let fv = fits.values in
      let fd = fits.nesting in
      subst (λ (r : At). Comes t (behind_all r code) (seen r code) (past t code)) (same_place (at t) q v d)
      (x t h (record { values = omega (arith, v, fv); nesting = omega (arith, d, fd) }))

  -- code behind one operation
  after_one : (op : Operation) (rest : Coded) → IsMeasured rest → (s : Measure) → IsSeen s → Fits (at s) (suc (size rest))
      → Comes s (behind_all (behind_operation (at s) op) rest) (at s ∷ seen (behind_operation (at s) op) rest)
      (past (done_by s op) rest)
  after_one op rest x s h fits =
      let q = behind_operation (at s) op in
      let t : Measure = done_by s op in
      let o = operated s op (size rest) h fits in
      let ov = o.values in
      let om = o.most in
      let ok = o.deepest in
      let b = bounded rest q in
      let bv = b.first_values in
      let bd = b.first_nesting in
      let hv = h.values in
      let hd = h.nesting in
      let y : Comes t (behind_all q rest) (seen q rest) (past t rest) = starts t q rest ov o.nesting o.seen (o.fits) x in
      let ym = y.most in
      let yk = y.deepest in
      record {
        values = y.values;
        nesting = y.nesting;
        most = omega (arith, om, ym, bv, hv);
        deepest = omega (arith, ok, yk, bd, hd);
      }

  -- a choice, and code behind it
  after_both : (op : Operation) (a b rest : Coded) → IsMeasured a → IsMeasured b → IsMeasured rest → (s : Measure) → IsSeen s
      → Fits (at s) (suc (size a + size b + size rest))
      → let q = behind_operation (at s) op in
      let j : At = record { values = (behind_all q a).values; nesting = s.mark.nesting } in
      let t : Measure = done_by s op in
      let u : Measure = past t a in
      Comes s (behind_all j rest) (at s ∷ (seen q a ++ seen q b ++ seen j rest)) (past (joined s u (past (aside t u) b)) rest)
  after_both op a b rest x y z s h fits =
      let q = behind_operation (at s) op in
      let j : At = record { values = (behind_all q a).values; nesting = s.mark.nesting } in
      let t : Measure = done_by s op in
      let u : Measure = past t a in
      let v : Measure = aside t u in
      let w : Measure = past v b in
      let e : Measure = joined s u w in
      let o = operated s op (size a + size b + size rest) h fits in
      let of = o.fits in
      let ofv = of.values in
      let ofd = of.nesting in
      let os = o.seen in
      let osv = os.values in
      let osd = os.nesting in
      let om = o.most in
      let ok = o.deepest in
      let first : Comes t (behind_all q a) (seen q a) u =
      starts t q a o.values o.nesting os (record { values = omega (arith, ofv); nesting = omega (arith, ofd) }) x in
      let fv = first.values in
      let fm = first.most in
      let fk = first.deepest in
      let second : Comes v (behind_all q b) (seen q b) w =
      starts v q b o.values o.nesting (record { values = omega (arith, fm, osv); nesting = omega (arith, fk, osd) })
      (record { values = omega (arith, ofv); nesting = omega (arith, ofd) }) y in
      let sm = second.most in
      let sk = second.deepest in
      let ba = bounded a q in
      let bav = ba.values in
      let bal = ba.last_values in
      let hv = h.values in
      let hd = h.nesting in
      let gv = fits.values in
      let gd = fits.nesting in
      let few = few_more (at s) op in
      let third : Comes e (behind_all j rest) (seen j rest) (past e rest) =
      starts e j rest fv refl (record { values = omega (arith, fv, bal, fm, sm); nesting = omega (arith, hd, ok, fk, sk) })
      (record { values = omega (arith, gv, few, bav); nesting = omega (arith, gd) }) z in
      let tm = third.most in
      let tk = third.deepest in
      let bq = ba.first_values in
      let bn = ba.first_nesting in
      let m = most_append (seen q a ++ seen q b) (seen j rest) in
      let m' = most_append (seen q a) (seen q b) in
      let k = deepest_append (seen q a ++ seen q b) (seen j rest) in
      let k' = deepest_append (seen q a) (seen q b) in
      record {
        values = third.values;
        nesting = third.nesting;
        most = omega (arith, tm, sm, fm, om, bq, hv, m, m');
        deepest = omega (arith, tk, sk, fk, ok, bn, hd, k, k');
      }

  -- a call, and code behind it
  after_call : (op : Operation) (f : ℕ) (n : ℕ) (rest : Coded) → IsMeasured rest → (s : Measure) → IsSeen s → Fits (at s) (suc (n + size rest))
      → Comes s (behind_all (behind_call functions (at s) op f) rest)
      (at s ∷ behind_operation (at s) op ∷ seen (behind_call functions (at s) op f) rest)
      (past (back_from (done_by s op) (functions f).void) rest)
  after_call op f n rest x s h fits =
      let q = behind_operation (at s) op in
      let r = behind_call functions (at s) op f in
      let t : Measure = done_by s op in
      let u : Measure = back_from t (functions f).void in
      let o = operated s op (n + size rest) h fits in
      let ov = o.values in
      let on = o.nesting in
      let om = o.most in
      let ok = o.deepest in
      let gv = fits.values in
      let gd = fits.nesting in
      let few = few_more (at s) op in
      let near = near_by (at s) op in
      let one = results_one (functions f).void in
      let uv : u.mark.values ≡ r.values = omega (arith, ov, gv, few, one) in
      let third : Comes u (behind_all r rest) (seen r rest) (past u rest) =
      starts u r rest uv on (record { values = omega arith; nesting = omega arith })
      (record { values = omega (arith, gv, few, one); nesting = omega (arith, gd, near) }) x in
      let tm = third.most in
      let tk = third.deepest in
      let b = bounded rest r in
      let bv = b.first_values in
      let bd = b.first_nesting in
      let hv = h.values in
      let hd = h.nesting in
      let um : u.mark.most ≡ max t.mark.most u.mark.values = refl in
      let uk : u.mark.deepest ≡ max t.mark.deepest u.mark.nesting = refl in
      record {
        values = third.values;
        nesting = third.nesting;
        most = omega (arith, tm, um, uv, om, bv, hv);
        deepest = omega (arith, tk, uk, on, ok, bd, hd);
      }

  measured : (code : Coded) → IsMeasured code
  measured done s h fits = record {
    values = refl;
    nesting = refl;
    most = (let v = h.values in omega (arith, v));
    deepest = (let d = h.nesting in omega (arith, d));
  }
  measured (perform t op rest) s h fits = after_one op rest (measured rest) s h fits
  measured (choose t op a b rest) s h fits = after_both op a b rest (measured a) (measured b) (measured rest) s h fits
  measured (while test body step rest) s h fits = four test body step rest (measured test) (measured body) (measured step) (measured rest) s h fits
  measured (until body test rest) s h fits = three body test rest (measured body) (measured test) (measured rest) s h fits
  measured (turn test body step rest) s h fits = four test body step rest (measured test) (measured body) (measured step) (measured rest) s h fits
  measured (again test body step rest) s h fits = four test body step rest (measured test) (measured body) (measured step) (measured rest) s h fits
  measured (quit t op rest) s h fits = after_one op rest (measured rest) s h fits
  measured (break rest) s h fits = measured rest s h fits
  measured (continue rest) s h fits = measured rest s h fits
  measured (call t op f opening rest) s h fits = after_call op f (size opening) rest (measured rest) s h fits
  measured (ends t op rest) s h fits = after_one op rest (measured rest) s h fits

abbrev start : Measure
start = record { mark = record { values = 0; most = 0; nesting = 0; deepest = 0 } }

pub function_measured : (known : ProgramTables) (f : FunctionTree) (t : Measure) → t ≡ past (functions_of known) start (code_in known f)
    → size (code_in known f) < 2 ^ 31
    → (t.mark.most ≡ most_values (places_in known f)) × (t.mark.deepest ≡ nesting_in known f)
function_measured known f t e h =
    let c = measured (functions_of known) (code_in known f) start (record { values = omega arith; nesting = omega arith })
    (record { values = omega (arith, h); nesting = omega (arith, h) }) in
    let m = c.most in
    let k = c.deepest in
    (ap (λ (s : Measure). s.mark.most) e ∙ omega (arith, m), ap (λ (s : Measure). s.mark.deepest) e ∙ omega (arith, k))
