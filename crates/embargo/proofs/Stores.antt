-- Two stores with the same bytes from the start of the entries on have the same entries: each id, each end and the trailer stand there. So both are
-- good, and an id is found in both under the same number. Assumes nothing.
use Rattle.std.specs.Prelude.{None, Option, Some}
use mathlib.Core.Path.{◌≡◌, refl, sym, ap, ◌∙◌, subst}
use mathlib.Core.Bool.{Bool, true, false, cond, ◌&&◌}
use mathlib.Core.List.{List}
use Prim.Native.Nat.{ℕ, zero, suc, ◌+◌, ◌*◌, ◌-◌, ◌≤◌, ◌<◌}
use native.Mathlib.Omega.{arith}
use lib.ListN.{length, take, drop, get_or}
use lib.Seq.{drop-drop, get_or-drop}
use lib.Dec.{eqb, leb}
use Rattle.hash.specs.Bytes.{Id, eq_id, lt_id, at, u32_at, if_some}
use Rattle.idlist.specs.IdList.{IdList, id_of, rises_at, rising, find_in}
use Rattle.odb.specs.Store.{start, entries, entry_size, entry_ids, body_end, body_start, body, ends_rise, standing, store_is_ok, find_entry}
use Rattle.odb.proofs.Store.{good-size}

-- the same bytes from a place on: the same bytes at each later place
module _ (a b : List ℕ) (s : ℕ) (e : drop s a ≡ drop s b) where
  byte-same : (i : ℕ) → s ≤ i → get_or a i 0 ≡ get_or b i 0
  byte-same i h =
      let k : s + (i - s) ≡ i = omega arith in
      let p : get_or a (s + (i - s)) 0 ≡ get_or b (s + (i - s)) 0 = sym (get_or-drop s a (i - s) 0) ∙ ap (λ (l : List ℕ). get_or l (i - s) 0) e ∙ get_or-drop s b (i - s) 0 in
      subst (λ (n : ℕ). get_or a n 0 ≡ get_or b n 0) k p

  part_same : (i n : ℕ) → s ≤ i → at a i n ≡ at b i n
  unfolding at
  part_same i n h =
      let k : s + (i - s) ≡ i = omega arith in
      let p : drop (s + (i - s)) a ≡ drop (s + (i - s)) b = sym (drop-drop (i - s) s a) ∙ ap (λ (l : List ℕ). drop (i - s) l) e ∙ drop-drop (i - s) s b in
      ap (take n) (subst (λ (m : ℕ). drop m a ≡ drop m b) k p)

  word_same : (i : ℕ) → s ≤ i → u32_at a i ≡ u32_at b i
  unfolding u32_at
  word_same i h = rw (byte-same i h, byte-same (i + 1) (omega arith), byte-same (i + 2) (omega arith), byte-same (i + 3) (omega arith))

-- two lists of ids that have the same ids
module _ (l m : IdList) (e : (k : ℕ) → id_of l k ≡ id_of m k) where
  rises-same : (k : ℕ) → rises_at l k ≡ rises_at m k
  unfolding rises_at
  rises-same zero = refl
  rises-same (suc k) = λ j. lt_id (e k j) (e (suc k) j)

  rising-same : (n : ℕ) → rising l n ≡ rising m n
  unfolding rising
  rising-same zero = refl
  rising-same (suc n) = λ j. cond (rising-same n j) (rises-same n j) false

  find_same : (x : Id) (n : ℕ) → find_in l x n ≡ find_in m x n
  unfolding find_in
  find_same x zero = refl
  find_same x (suc n) = λ j. if_some (find_same x n j) (cond (eq_id x (e n j)) (Some n) None) (λ k. Some k)

module _ (w : ℕ) (a b : List ℕ) (ok : store_is_ok w a ≡ true) (long : length a ≡ length b) (e : drop (start a) a ≡ drop (start a) b) where
  pub start-same : start a ≡ start b
  unfolding start
  start-same = word_same a b (start a) e (length a - 8) (omega (arith, good-size w a ok)) ∙ ap (λ (n : ℕ). u32_at b (n - 8)) long

  pub entries-same : entries a ≡ entries b
  unfolding entries
  entries-same = word_same a b (start a) e (length a - 4) (omega (arith, good-size w a ok)) ∙ ap (λ (n : ℕ). u32_at b (n - 4)) long

  pub id_same : (k : ℕ) → id_of (entry_ids w a) k ≡ id_of (entry_ids w b) k
  unfolding id_of entry_ids
  id_same k = part_same a b (start a) e (start a + entry_size w * k) w (omega arith) ∙ ap (λ (n : ℕ). at b (n + entry_size w * k) w) start-same

  pub end_same : (k : ℕ) → body_end w a k ≡ body_end w b k
  unfolding body_end
  end_same k = word_same a b (start a) e (start a + entry_size w * k + w) (omega arith) ∙ ap (λ (n : ℕ). u32_at b (n + entry_size w * k + w)) start-same

  pub begin-same : (k : ℕ) → body_start w a k ≡ body_start w b k
  unfolding body_start
  begin-same zero = refl
  begin-same (suc k) = end_same k

  ends_same : (n : ℕ) → ends_rise w a n ≡ ends_rise w b n
  unfolding ends_rise
  ends_same zero = refl
  ends_same (suc n) = λ j. cond (ends_same n j) (leb (begin-same n j) (end_same n j)) false

  -- both are good
  pub ok_same : store_is_ok w a ≡ store_is_ok w b
  unfolding store_is_ok standing
  ok_same =
      (λ j.
      cond (leb 8 (long j) && eqb (long j) (start-same j + entry_size w * entries-same j + 8))
      (rising-at j && ends_at j && eqb (begins-at j) (start-same j)) false)
    where
      rising-at : rising (entry_ids w a) (entries a) ≡ rising (entry_ids w b) (entries b)
      rising-at = rising-same (entry_ids w a) (entry_ids w b) id_same (entries a) ∙ ap (rising (entry_ids w b)) entries-same

      ends_at : ends_rise w a (entries a) ≡ ends_rise w b (entries b)
      ends_at = ends_same (entries a) ∙ ap (ends_rise w b) entries-same

      begins-at : body_start w a (entries a) ≡ body_start w b (entries b)
      begins-at = begin-same (entries a) ∙ ap (body_start w b) entries-same

  -- the same number for each id
  pub found-same : (x : Id) → find_entry w a x ≡ find_entry w b x
  unfolding find_entry
  found-same x = find_same (entry_ids w a) (entry_ids w b) id_same x (entries a) ∙ ap (find_in (entry_ids w b) x) entries-same
