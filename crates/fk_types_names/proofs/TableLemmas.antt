-- What a table shows after a change.
use Rattle.std.proofs.Common.{◌≡◌, ◌≢◌, ℕ, Bool, true, false, cond, List, Bor, Option, Some, None, Decides, nat_eq, unwrap_or, refl, sym, subst, ap, ◌∙◌}
use Rattle.std.specs.Cmp.Lexicographic.{pointwise}
use Rattle.std.specs.HashMap.{HashMap, UpdatesBy, get_by}
use Rattle.std.proofs.lemmas.Bool.{false≢true}
use Rattle.std.proofs.lemmas.Map.Text.{hash_map_updates_str}
use Rattle.std.proofs.lemmas.Slice.Eq.{bytes_eq-Decides}
use Rattle.fk_types_names.specs.TableView.{first_set}

pub others_stay : {S : Type 0} → (name : List ℕ) (m n : HashMap (Bor (List ℕ)) ℕ S) (w : Option ℕ) → UpdatesBy (λ x y. pointwise nat_eq x.now y.now) (λ k. pointwise nat_eq name k.now) m n w
    → (other : List ℕ) → other ≢ name → get_by (λ k. pointwise nat_eq other k.now) n ≡ get_by (λ k. pointwise nat_eq other k.now) m
others_stay name m n w updates other apart =
    hash_map_updates_str name m n w updates other ∙ by (pointwise nat_eq name other) (bytes_eq-Decides name other)
  where
    by : (b : Bool) → Decides b (name ≡ other) → cond b w (get_by (λ k. pointwise nat_eq other k.now) m) ≡ get_by (λ k. pointwise nat_eq other k.now) m
    by true d = absurd (apart (sym (d.0 refl)))
    by false d = refl

-- a table in which a name has the mark that it had, or else this one
pub first_stays : (name : List ℕ) (mark : ℕ) (old new : List ℕ → Option ℕ) → new name ≡ Some (unwrap_or (old name) mark) → ((other : List ℕ) → other ≢ name → new other ≡ old other) → (q : List ℕ) → new q ≡ first_set name mark q (old q)
first_stays name mark old new same others q = by (pointwise nat_eq q name) (bytes_eq-Decides q name) refl (old q) refl
  where
    named : q ≡ name → (o : Option ℕ) → old q ≡ o → new q ≡ Some (unwrap_or o mark)
    named s o e = ap new s ∙ (same ∙ ap (λ x. Some (unwrap_or x mark)) (sym (ap old s) ∙ e))

    by : (b : Bool) → Decides b (q ≡ name) → pointwise nat_eq q name ≡ b → (o : Option ℕ) → old q ≡ o → new q ≡ first_set name mark q o
    by true d t (Some k) e = named (d.0 refl) (Some k) e
    by true d t None e = named (d.0 refl) None e ∙ ap (λ b. cond b (Some mark) None) (sym t)
    by false d t (Some k) e = others q (λ s. false≢true (d.1 s)) ∙ e
    by false d t None e = others q (λ s. false≢true (d.1 s)) ∙ (e ∙ ap (λ b. cond b (Some mark) None) (sym t))

-- a table in which a name has its mark again
pub put_back : (name : List ℕ) (old new : List ℕ → Option ℕ) → new name ≡ old name → ((other : List ℕ) → other ≢ name → new other ≡ old other) → (q : List ℕ) → new q ≡ old q
put_back name old new same others q = by (pointwise nat_eq q name) (bytes_eq-Decides q name)
  where
    by : (b : Bool) → Decides b (q ≡ name) → new q ≡ old q
    by true d = subst (λ n. new n ≡ old n) (sym (d.0 refl)) same
    by false d = others q (λ e. false≢true (d.1 e))
