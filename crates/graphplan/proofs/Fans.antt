-- The fan-out entry by entry: among first bytes that never fall, those of at most x stand before those above x. Assumes nothing.
use mathlib.Core.Path.{◌≡◌, sym, ◌∙◌, ap, subst}
use mathlib.Core.Bool.{true}
use mathlib.Core.List.{List}
use Prim.Native.Nat.{ℕ, zero, suc, ◌+◌, ◌-◌, ◌≤◌, ◌<◌}
use native.Mathlib.Omega.{arith}
use lib.ListN.{length, get_or}
use lib.Dec.{ltb}
use borrow.Author.Tests.{le-leb, lt-leb, lt-ltb, ltb-true, ltb-false}
use Rattle.hash.specs.Bytes.{lt_id}
use Rattle.hash.proofs.Tests.{by_cases}
use Rattle.idlist.specs.IdList.{id_of, rises_at, rising}
use Rattle.idlist.proofs.Rising.{rising-less, rising-first}
use Rattle.odb.specs.Store.{entry_ids, standing_entries}
use Rattle.odb.specs.Lookup.{entry_id}
use Rattle.commitgraph.proofs.Fan.{heads_up}
use Rattle.levels.proofs.Stored.{good-rises}
use Rattle.graphfile.specs.GraphFile.{Row, row_at, at_most_in, u32, words, fan_from}
use Rattle.graphfile.proofs.Pieces.{nth, nth_words, length_fan, fan_there}
use Rattle.graphplan.specs.StoreRows.{Writable, row_of, rows_of}
use Rattle.graphplan.specs.Entries.{byte_of, Advanced}
use Rattle.graphplan.proofs.RowLaws.{length_rows, row-at}

-- the count is where the values pass x
at_most-is : (rs : List Row) (f : ℕ → ℕ) (x k n : ℕ) → ((j : ℕ) → j < n → f j ≡ get_or (row_at rs j).id 0 0) → k ≤ n → ((j : ℕ) → j < k → f j ≤ x) → ((j : ℕ) → k ≤ j → j < n → x < f j) → at_most_in rs x n ≡ k
unfolding at_most_in
at_most-is rs f x k zero s h a b = omega arith
at_most-is rs f x k (suc n) s h a b =
    by_cases (ltb n k)
    (λ e. let l : n < k = ltb-true n k e in
    rw (le-leb (get_or (row_at rs n).id 0 0) x (omega (arith, s n (omega arith), a n l))) (omega (arith, at_most-is rs f x n n (λ j d. s j (omega arith)) (omega arith) (λ j d. a j (omega arith)) (λ j d g. absurd (omega arith)))))
    (λ e. let l : k ≤ n = ltb-false n k e in
    rw (lt-leb (get_or (row_at rs n).id 0 0) x (omega (arith, s n (omega arith), b n l (omega arith)))) (omega (arith, at_most-is rs f x k n (λ j d. s j (omega arith)) l a (λ j d g. b j d (omega arith)))))

-- values that never fall
up_by : (f : ℕ → ℕ) (n : ℕ) → ((j : ℕ) → suc j < n → f j ≤ f (suc j)) → (j d : ℕ) → j + d < n → f j ≤ f (j + d)
up_by f n s j zero h = omega (arith, ap f (let z : j + 0 ≡ j = omega arith in z))
up_by f n s j (suc d) h =
    let a = up_by f n s j d (omega arith) in
    let b = s (j + d) (omega arith) in
    omega (arith, ap f (let z : j + suc d ≡ suc (j + d) = omega arith in z))

module _ (w : ℕ) (b : List ℕ) (n : ℕ) (W : Writable w b n) where
  pub entry-is : (k : ℕ) → k < n → entry_id w b k ≡ id_of (entry_ids w b) k
  unfolding entry_id
  entry-is k h = rw (lt-ltb k (standing_entries w b) (omega (arith, W.many)))

  -- first bytes never fall
  pub bytes_up : (j : ℕ) → suc j < n → byte_of w b j ≤ byte_of w b (suc j)
  unfolding rises_at
  bytes_up j h =
      let r : rising (entry_ids w b) (suc (suc j)) ≡ true = rising-first (entry_ids w b) (suc (suc j)) (standing_entries w b) (omega (arith, W.many)) (good-rises w b W.ok) in
      let u : lt_id (id_of (entry_ids w b) j) (id_of (entry_ids w b) (suc j)) ≡ true = (rising-less (entry_ids w b) (suc j) r).1 in
      let v = heads_up (id_of (entry_ids w b) j) (id_of (entry_ids w b) (suc j)) u in
      omega (arith, v, ap (λ (x : List ℕ). get_or x 0 0) (entry-is j (omega arith)), ap (λ (x : List ℕ). get_or x 0 0) (entry-is (suc j) h))

  pub byte-is : (k : ℕ) → k < n → byte_of w b k ≡ get_or (row_at (rows_of w b) k).id 0 0
  unfolding row_of
  byte-is k h = ap (λ (r : Row). get_or r.id 0 0) (sym (row-at w b k (omega (arith, W.many))))

  -- one entry more: from the ids passed before to those passed now
  pub fan-entry : (k i r : ℕ) → i < 256 → k ≤ n → ((j : ℕ) → j < k → byte_of w b j < i) → Advanced (byte_of w b) n k i r
      → (u32 r ≡ nth (words (fan_from (rows_of w b) 0 256)) i) × ((j : ℕ) → j < r → byte_of w b j < i + 1)
  fan-entry k i r few h a v =
      let low : (j : ℕ) → j < r → byte_of w b j ≤ i =
      λ j d. by_cases (ltb j k) (λ e. omega (arith, a j (ltb-true j k e))) (λ e. v.low j (ltb-false j k e) d) in
      let c : at_most_in (rows_of w b) i n ≡ r =
      at_most-is (rows_of w b) (byte_of w b) i r n byte-is (v.to h) low
      (λ j d g. let u = up_by (byte_of w b) n bytes_up r (j - r) (omega arith) in
      omega (arith, u, ap (byte_of w b) (let z : r + (j - r) ≡ j = omega arith in z), v.stop (omega arith))) in
      let m : length (rows_of w b) ≡ n = length_rows w b ∙ sym W.many in (
        sym (nth_words (fan_from (rows_of w b) 0 256) i (omega (arith, length_fan (rows_of w b) 0 256))
            ∙ ap u32 (fan_there (rows_of w b) 0 256 i few ∙ ap (λ (x : ℕ). at_most_in (rows_of w b) x (length (rows_of w b))) (let z : 0 + i ≡ i = omega arith in z) ∙ ap (at_most_in (rows_of w b) i) m ∙ c)),
        λ j d. omega (arith, low j d),
      )

pub below_next : (f : ℕ → ℕ) (k i x : ℕ) → ((j : ℕ) → k ≤ j → j < i → f j ≤ x) → f i ≤ x → (j : ℕ) → k ≤ j → j < i + 1 → f j ≤ x
below_next f k i x h e j a b =
    by_cases (ltb j i) (λ t. h j a (ltb-true j i t)) (λ t. let z : i ≡ j = omega (arith, ltb-false j i t) in subst (λ (y : ℕ). f y ≤ x) z e)
