-- The search for the first false name. It goes from entry to entry, so what is left to search from 0 on is what is left from k on while all names
-- before k are true; what it finds is false, and every name before it is true. Assumes nothing.
use Rattle.std.specs.Prelude.{None, Some}
use mathlib.Core.Path.{◌≡◌, refl, sym, ◌∙◌, subst}
use Prim.Native.Nat.{ℕ, zero, suc, ◌+◌, ◌-◌, ◌≤◌, ◌<◌}
use mathlib.Core.Bool.{true, false}
use mathlib.Core.List.{List}
use mathlib.Core.Logic.{⊎_elim}
use native.Mathlib.Omega.{arith}
use native.Mathlib.Nat.{eq-or-lt_of_le}
use Rattle.hash.specs.Bytes.{eq_id, width_of}
use Rattle.hash.specs.declared.Kind.{Kind}
use Rattle.hash.proofs.Tests.{by_cases, some_in, no-some}
use Rattle.odb.specs.Store.{entries, store_is_ok}
use Rattle.odb.specs.Lookup.{entry_id, entry_body}
use Rattle.odb.proofs.Nth.{good-id, good-body}
use Rattle.commitid.specs.Name.{commit_id}
use Rattle.fsck.specs.Names.{true_name, first_false}

-- an entry's id and body, as the store gives them by its number
pub name-told : (kind : Kind) (b : List ℕ) (k : ℕ) → store_is_ok (width_of kind) b ≡ true → k < entries b
    → eq_id (commit_id kind (entry_body (width_of kind) b k)) (entry_id (width_of kind) b k) ≡ true_name kind b k
unfolding true_name
name-told kind b k ok h = rw (good-id (width_of kind) b k ok h, good-body (width_of kind) b k ok h)

module _ (kind : Kind) (b : List ℕ) where
  -- ---- the loop's steps

  pub none_left : (k n : ℕ) → n ≡ 0 → first_false kind b k n ≡ None
  unfolding first_false
  none_left k zero e = refl
  none_left k (suc n) e = absurd (omega arith)

  pub one-false : (k n : ℕ) → 0 < n → true_name kind b k ≡ false → first_false kind b k n ≡ Some k
  unfolding first_false
  one-false k zero h e = absurd (omega arith)
  one-false k (suc n) h e = rw e

  pub one-true : (k n : ℕ) → 0 < n → true_name kind b k ≡ true → first_false kind b k n ≡ first_false kind b (k + 1) (n - 1)
  unfolding first_false
  one-true k zero h e = absurd (omega arith)
  one-true k (suc n) h e =
      let p : suc k ≡ k + 1 = omega arith in
      let q : n ≡ suc n - 1 = omega arith in
      rw e (λ i. first_false kind b (p i) (q i))

  -- the same, of one entry more
  next-true : (k n : ℕ) → true_name kind b k ≡ true → first_false kind b k (suc n) ≡ first_false kind b (suc k) n
  unfolding first_false
  next-true k n e = rw e

  -- ---- what is found

  pub false-at : (n k j : ℕ) → first_false kind b k n ≡ Some j → (k ≤ j) × (j < k + n) × (true_name kind b j ≡ false) × ((i : ℕ) → k ≤ i → i < j → true_name kind b i ≡ true)
  unfolding first_false
  false-at zero k j e = no-some e
  false-at (suc n) k j e =
      by_cases (true_name kind b k)
      (λ t.
      let r = false-at n (suc k) j (sym (next-true k n t) ∙ e) in (
        omega (arith, r.0),
        omega (arith, r.1),
        r.2,
        λ i h l. ⊎_elim (λ q. subst (λ (x : ℕ). true_name kind b x ≡ true) q t) (λ m. r.3 i (omega arith) l) (eq-or-lt_of_le h),
      ))
      (λ f.
      let q : k ≡ j = some_in (sym (one-false k (suc n) (omega arith) f) ∙ e) in
      (omega (arith, q), omega (arith, q), subst (λ (x : ℕ). true_name kind b x ≡ false) q f, λ i h l. absurd (omega (arith, q))))

  pub all_true : (n k : ℕ) → first_false kind b k n ≡ None → (i : ℕ) → k ≤ i → i < k + n → true_name kind b i ≡ true
  all_true zero k e i h l = absurd (omega arith)
  all_true (suc n) k e i h l =
      by_cases (true_name kind b k)
      (λ t.
      let r = all_true n (suc k) (sym (next-true k n t) ∙ e) in
      ⊎_elim (λ q. subst (λ (x : ℕ). true_name kind b x ≡ true) q t) (λ m. r i (omega arith) (omega arith)) (eq-or-lt_of_le h))
      (λ f. no-some (sym e ∙ one-false k (suc n) (omega arith) f))

  -- and the other way round
  pub true-all : (n k : ℕ) → ((i : ℕ) → k ≤ i → i < k + n → true_name kind b i ≡ true) → first_false kind b k n ≡ None
  true-all zero k f = none_left k 0 refl
  true-all (suc n) k f =
      next-true k n (f k (omega arith) (omega arith))
      ∙ true-all n (suc k) (λ i h l. f i (omega arith) (omega arith))

  pub at_first : (n k j : ℕ) → k ≤ j → j < k + n → true_name kind b j ≡ false → ((i : ℕ) → k ≤ i → i < j → true_name kind b i ≡ true) → first_false kind b k n ≡ Some j
  at_first zero k j h l f g = absurd (omega arith)
  at_first (suc n) k j h l f g =
      ⊎_elim
      (λ q. one-false k (suc n) (omega arith) (subst (λ (x : ℕ). true_name kind b x ≡ false) (sym q) f) ∙ (λ i. Some (q i)))
      (λ m.
      next-true k n (g k (omega arith) m)
      ∙ at_first n (suc k) j m (omega arith) f (λ i p r. g i (omega arith) r))
      (eq-or-lt_of_le h)
