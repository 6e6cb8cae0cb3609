-- Laws of lists of ids: a list looked through id by id, and the id at a place of it. Assumes nothing.
use mathlib.Core.Path.{◌≡◌, refl, sym, ◌∙◌, ap}
use Prim.Native.Nat.{ℕ, zero, suc, ◌+◌, ◌*◌, ◌-◌, ◌/◌, ◌≤◌, ◌<◌}
use mathlib.Core.Bool.{Bool, true, false, cond}
use mathlib.Core.List.Memᴰ
use mathlib.Core.List.{List, [], ◌∷◌, ◌++◌}
use native.Mathlib.Omega.{arith}
use native.Mathlib.Nat.{mul-zero, mul-div-le}
use native.Mathlib.Numerals.{add-one}
use lib.ListN.{length, take, drop, get_or}
use lib.Seq.{take-suc, drop-drop}
use Rattle.hash.specs.Bytes.{Id, at, eq_id, among, ids_of}
use Rattle.hash.proofs.Bytes.{length_at}
use Rattle.hash.proofs.Widths.{apart}
use Rattle.walk.specs.Opening.{list_ids}
use Rattle.walk.specs.Reach.{Mem}

-- n ids, of which k were passed
abbrev pub from_id : ℕ → List ℕ → ℕ → ℕ → List Id
from_id w b n k = ids_of w (n - k) (drop (w * k) b)

pub among-start : (w : ℕ) (x : Id) (b : List ℕ) → among x (list_ids w b) ≡ among x (from_id w b (length b / w) 0)
unfolding list_ids
among-start w x b =
    let m : length b / w ≡ length b / w - 0 = omega arith in
    ap (λ (j : ℕ). among x (ids_of w j b)) m ∙ ap (λ (j : ℕ). among x (ids_of w (length b / w - 0) (drop j b))) (sym (mul-zero w))

module _ (w : ℕ) (x : Id) (b : List ℕ) (n k : ℕ) (h : k < n) where
  next-id : from_id w b n k ≡ at b (w * k) w ∷ (from_id w) b n (k + 1)
  unfolding ids_of at
  next-id =
      let m : n - k ≡ suc (n - (k + 1)) = omega arith in
      let d : w * k + w ≡ w * (k + 1) = omega arith in
      ap (λ (j : ℕ). ids_of w j (drop (w * k) b)) m
      ∙ ap (λ (c : List ℕ). take w (drop (w * k) b) ∷ ids_of w (n - (k + 1)) c) (drop-drop w (w * k) b ∙ ap (λ (j : ℕ). drop j b) d)

  pub among-here : eq_id x (at b (w * k) w) ≡ true → among x (from_id w b n k) ≡ true
  unfolding among
  among-here e = ap (among x) next-id ∙ ap (λ (t : Bool). cond t true (among x (from_id w b n (k + 1)))) e

  pub among_later : eq_id x (at b (w * k) w) ≡ false → among x (from_id w b n k) ≡ among x (from_id w b n (k + 1))
  unfolding among
  among_later e = ap (among x) next-id ∙ ap (λ (t : Bool). cond t true (among x (from_id w b n (k + 1)))) e

pub among_none : (w : ℕ) (x : Id) (b : List ℕ) (n k : ℕ) → n ≤ k → among x (from_id w b n k) ≡ false
unfolding among ids_of
among_none w x b n k h = let m : n - k ≡ 0 = omega arith in ap (λ (j : ℕ). among x (ids_of w j (drop (w * k) b))) m

-- ---- the id at a place

ids_at : (w : ℕ) (k : ℕ) (b : List ℕ) (i : ℕ) → i < k → get_or (ids_of w k b) i [] ≡ at b (w * i) w
unfolding ids_of at
ids_at w zero b i h = absurd (omega arith)
ids_at w (suc k) b zero h = ap (λ (j : ℕ). take w (drop j b)) (sym (mul-zero w))
ids_at w (suc k) b (suc i) h =
    let e : w + w * i ≡ w * suc i = omega arith in
    ids_at w k (drop w b) i (omega arith) ∙ ap (take w) (drop-drop (w * i) w b ∙ ap (λ (j : ℕ). drop j b) e)

pub list_at : (w : ℕ) (b : List ℕ) (i : ℕ) → i < length b / w → at b (w * i) w ≡ get_or (list_ids w b) i []
unfolding list_ids
list_at w b i h = sym (ids_at w (length b / w) b i h)

pub list-width : (w : ℕ) (b : List ℕ) (i : ℕ) → i < length b / w → length (at b (w * i) w) ≡ w
list-width w b i h = length_at b (w * i) w (omega (arith, apart w h, mul-div-le (length b) w))

-- ---- a list of ids, place by place

pub mem-at : (xs : List Id) (i : ℕ) → i < length xs → Mem (get_or xs i []) xs
mem-at [] i h = absurd (omega arith)
mem-at (x ∷ xs) zero h = Memᴰ.head refl
mem-at (x ∷ xs) (suc i) h = Memᴰ.tail (mem-at xs i (omega arith))

pub one_more : (xs : List Id) (i : ℕ) → i < length xs → take (i + 1) xs ≡ take i xs ++ (get_or xs i [] ∷ [])
one_more xs i h = rw add-one (take-suc xs i [] h)
