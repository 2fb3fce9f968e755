-- Code of places that has the shape of flat lists, whichever numbers it gets.
use Rattle.std.proofs.Common.{◌≡◌, ℕ, suc, ◌+◌, Bool, true, false, true≢false, inl, inr, refl, sym}
use Rattle.std.specs.Prelude.{◌||◌}
use Rattle.fk_syntax.specs.declared.place.Place.{Place}
use Rattle.fk_meaning_operation.specs.declared.operation.Operation.{Operation}
use Rattle.fk_meaning_operation.specs.declared.operation.Operation.TheVariants as o
use Rattle.fk_meaning_forms.specs.Code.{done, perform, choose, while, until, quit, break, continue, call, ends, size, numbered}
use Rattle.fk_meaning_forms.specs.Expressions.{Coded, plain}
use Rattle.fk_core.specs.CodeAt.{is_first, is_start}
use Rattle.fk_core_flat.specs.Items.{straight, either, into, out, way_of}
use Rattle.fk_core_flat.specs.Shape.{is_done, is_closed, IsOpening, IsShaped}

-- what is wanted of code: that it is right in a loop or out of one, that it ends its function, that it can begin a step
pub record Want : Type 0 where
  pub in_loop : Bool
  pub closed : Bool
  pub starts : Bool

abbrev pub at : (in_loop closed : Bool) → Want
at l c = record { in_loop = l; closed = c; starts = false }

abbrev pub inner : Want → Want
inner x = at x.in_loop false

pub record Ok (has_body : ℕ → Bool) (x : Want) (code : Coded) : Type 0 where
  pub shape : (n : ℕ) → IsShaped has_body x.in_loop (numbered n code)
  pub closes : x.closed ≡ true → (n : ℕ) → is_closed (numbered n code) ≡ true
  pub begins : x.starts ≡ true → (n : ℕ) → is_start (numbered n code) ≡ true

pub never : {A : Type 0} → false ≡ true → A
never e = absurd (true≢false (sym e))

or_true : (a b : Bool) → b ≡ true → (a || b) ≡ true
or_true true b e = refl
or_true false b e = e

module _ {has_body : ℕ → Bool} where
  pub on : {x : Want} {t : Place} {op : Operation} {rest : Coded} → way_of op ≡ straight → Ok has_body x rest → Ok has_body x (perform t op rest)
  on e p = record { shape = λ n. (inl e, p.shape (suc n)); closes = λ c n. p.closes c (suc n); begins = λ s n. refl }

  pub branch : {x : Want} {t : Place} {op : Operation} {a b rest : Coded} → way_of op ≡ either
      → Ok has_body (inner x) a → Ok has_body (inner x) b → Ok has_body x rest → Ok has_body x (choose t op a b rest)
  branch {a = a} {b = b} e p q r = record {
    shape = λ n. (e, p.shape (suc n), q.shape (suc n + size a), r.shape (suc n + size a + size b));
    closes = λ c n. r.closes c (suc n + size a + size b);
    begins = λ s n. refl;
  }

  pub enter : {x : Want} {t : Place} {op : Operation} {f : ℕ} {opening rest : Coded} → way_of op ≡ into → has_body f ≡ true
      → ((n : ℕ) → IsOpening (numbered n opening)) → Ok has_body x rest → Ok has_body x (call t op f opening rest)
  enter {opening = opening} e b o p = record {
    shape = λ n. (e, b, o (suc n), p.shape (suc n + size opening));
    closes = λ c n. p.closes c (suc n + size opening);
    begins = λ s n. refl;
  }

  pub ended : (x : Want) → Ok has_body (inner x) done
  ended x = record { shape = λ n. tt; closes = λ c n. never c; begins = λ s n. never s }

  pub end : (x : Want) → Ok has_body (inner x) (plain o.End done)
  end x = record { shape = λ n. (inr (refl, refl), tt); closes = λ c n. never c; begins = λ s n. never s }

  -- the end of a function is closed, whatever follows it or nothing
  pub left : {l c : Bool} {t : Place} {op : Operation} {rest : Coded} → way_of op ≡ out → Ok has_body (at l c) rest → Ok has_body (at l c) (ends t op rest)
  left {rest = rest} e p = record {
    shape = λ n. (e, p.shape (suc n));
    closes = λ c n. or_true (is_done (numbered (suc n) rest)) (is_closed (numbered (suc n) rest)) (p.closes c (suc n));
    begins = λ s n. never s;
  }

  pub left_last : {l : Bool} {t : Place} {op : Operation} → way_of op ≡ out → Ok has_body (at l true) (ends t op done)
  left_last e = record { shape = λ n. (e, tt); closes = λ c n. refl; begins = λ s n. never s }

  pub broken : {l c : Bool} {rest : Coded} → l ≡ true → Ok has_body (at l c) rest → Ok has_body (at l c) (break rest)
  broken e p = record { shape = λ n. (e, p.shape n); closes = λ c n. p.closes c n; begins = λ s n. never s }

  pub continued : {l c : Bool} {rest : Coded} → l ≡ true → Ok has_body (at l c) rest → Ok has_body (at l c) (continue rest)
  continued e p = record { shape = λ n. (e, p.shape n); closes = λ c n. p.closes c n; begins = λ s n. never s }

  pub quits : {t : Place} {op : Operation} → way_of op ≡ either → Ok has_body (at true false) (quit t op done)
  quits e = record { shape = λ n. (refl, e, tt); closes = λ c n. never c; begins = λ s n. never s }

  pub looped : {l c : Bool} {test body step rest : Coded} → ((n : ℕ) → is_first (numbered n test) ≡ true)
      → Ok has_body (at true false) test → Ok has_body (at true false) body → Ok has_body (record { in_loop = true; closed = false; starts = true }) step
      → Ok has_body (at l c) rest → Ok has_body (at l c) (while test body step rest)
  looped {test = test} {body = body} {step = step} f t b s p = record {
    shape = λ n. (
      f n,
      s.begins refl (n + size test + size body),
      t.shape n,
      b.shape (n + size test),
      s.shape (n + size test + size body),
      p.shape (n + size test + size body + size step),
    );
    closes = λ c n. p.closes c (n + size test + size body + size step);
    begins = λ e n. never e;
  }

  pub looped_first : {l c : Bool} {body test rest : Coded} → ((n : ℕ) → is_first (numbered n test) ≡ true)
      → Ok has_body (at true false) body → Ok has_body (at true false) test
      → Ok has_body (at l c) rest → Ok has_body (at l c) (until body test rest)
  looped_first {body = body} {test = test} f b t p = record {
    shape = λ n. (f (n + size body), b.shape n, t.shape (n + size body), p.shape (n + size body + size test));
    closes = λ c n. p.closes c (n + size body + size test);
    begins = λ e n. never e;
  }
