-- A finite map after a key is written or removed.
use Rattle.std.proofs.Common.{◌≡◌, cond, List, Option, Some, None, sym, ap, ◌∙◌}
use Rattle.std.specs.declared.cmp.Ordering.{Ordering}
use Rattle.std.specs.Ordering.{eq_by_cmp}
use Rattle.std.specs.Cmp.{IsTotalOrder, eq_by_cmp_equiv}
use Rattle.std.specs.FinMap as map

module _ {K X : Type 0} {R : K → K → Ordering} (o : IsTotalOrder R) (same : map.IsAntisymmetric R) where
  turn : (k q : K) (w z : Option X) → cond (eq_by_cmp R k q) w z ≡ cond (eq_by_cmp R q k) w z
  turn k q w z = ap (λ b. cond b w z) ((eq_by_cmp_equiv o).symm k q)

  pub written : (m n : map.FinMap R X) (k : K) (v : X)
      → ((q : K) → map.get n q ≡ cond (eq_by_cmp R k q) (Some v) (map.get m q)) → n ≡ map.insert m k v
  written m n k v is =
      map.same_map o same n (map.insert m k v) (λ q. is q ∙ turn k q (Some v) (map.get m q)
      ∙ sym (map.get-insert o m k v q))

  pub removed : (m n : map.FinMap R X) (k : K)
      → ((q : K) → map.get n q ≡ cond (eq_by_cmp R k q) None (map.get m q)) → n ≡ map.remove m k
  removed m n k is =
      map.same_map o same n (map.remove m k) (λ q. is q ∙ turn k q None (map.get m q)
      ∙ sym (map.get-remove o m k q))

  pub kept : (m n : map.FinMap R X) → ((q : K) → map.get n q ≡ map.get m q) → n ≡ m
  kept m n is = map.same_map o same n m is

  -- of maps that are given by their entries
  pub written_entries : (es fs : List (K × X)) (k : K) (v : X)
      → ((q : K) → map.find R q fs ≡ cond (eq_by_cmp R k q) (Some v) (map.find R q es))
      → map.from_entries {R = R} fs ≡ map.insert (map.from_entries es) k v
  written_entries es fs k v is =
      written _ _ k v (λ q. map.get-from_entries o fs q ∙ is q
      ∙ ap (cond (eq_by_cmp R k q) (Some v)) (sym (map.get-from_entries o es q)))

  pub removed_entries : (es fs : List (K × X)) (k : K)
      → ((q : K) → map.find R q fs ≡ cond (eq_by_cmp R k q) None (map.find R q es))
      → map.from_entries {R = R} fs ≡ map.remove (map.from_entries es) k
  removed_entries es fs k is =
      removed _ _ k (λ q. map.get-from_entries o fs q ∙ is q
      ∙ ap (cond (eq_by_cmp R k q) None) (sym (map.get-from_entries o es q)))
