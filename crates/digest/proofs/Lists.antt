-- Laws of lists: places in two lists joined, bytes set down one part after the other, lists of zeros, lists made element by element.
-- Assumes nothing.
use mathlib.Core.Path.{◌≡◌, refl, sym, ◌∙◌, ap}
use mathlib.Core.Logic.{◌⊎◌, inl, inr, ⊎_elim}
use Prim.Native.Nat.{ℕ, zero, suc, ◌+◌, ◌-◌, ◌*◌, ◌≤◌, ◌<◌}
use mathlib.Core.List.{List, [], ◌∷◌, ◌++◌, append_assoc, append-nil}
use native.Mathlib.Omega.{arith}
use native.Mathlib.Numerals.{add-one}
use lib.ListN.{length, get_or, take, drop, set, length-take, length-drop, length-append, length-replicate, length-set}
use lib.Seq.{drop-cons, drop-set-lt, get_or-set_same, take_all, take_at, drop_at, set_at, drop-drop, take-append-le, drop-append-le, take-append-add, drop-append-add, take-suc-set, get_or-take}
use Rattle.hash.specs.Bytes.{at, set_down}
use Rattle.hash.proofs.Bytes.{set_down-fits, length_at_le}
use Rattle.digest.specs.Blocks.{made, times, zeros, filled}

le_or : (a b : ℕ) → (a ≤ b) ⊎ (b < a)
le_or zero b = inl (omega arith)
le_or (suc a) zero = inr (omega arith)
le_or (suc a) (suc b) = ⊎_elim (λ (h : a ≤ b). inl (omega arith)) (λ (h : b < a). inr (omega arith)) (le_or a b)

-- ---- the first bytes of two lists

pub take_append : (n : ℕ) (a b : List ℕ) → take n (a ++ b) ≡ take n a ++ take (n - length (take n a)) b
take_append n a b =
    ⊎_elim
    (λ (h : n ≤ length a).
    let e : n - length (take n a) ≡ 0 = simp length-take (omega arith) in
    rw e (take-append-le n a b h ∙ sym (append-nil (take n a))))
    (λ (h : length a < n).
    let t : take n a ≡ a = take_all n a (omega arith) in
    let e : n ≡ length a + (n - length a) = omega arith in
    rw t (ap (λ (k : ℕ). take k (a ++ b)) e ∙ take-append-add a b (n - length a)))
    (le_or n (length a))

pub at_second : (a b : List ℕ) (i n : ℕ) → length a ≤ i → at (a ++ b) i n ≡ at b (i - length a) n
unfolding at
at_second a b i n h =
    let e : i ≡ length a + (i - length a) = omega arith in
    ap (take n) (ap (λ (k : ℕ). drop k (a ++ b)) e ∙ drop-append-add a b (i - length a))

pub at_both : (a b : List ℕ) (i n : ℕ) → i ≤ length a → at (a ++ b) i n ≡ at a i n ++ at b 0 (n - length (at a i n))
unfolding at
at_both a b i n h = ap (take n) (drop-append-le i a b h) ∙ take_append n (drop i a) b

pub at_first : (a b : List ℕ) (i n : ℕ) → i + n ≤ length a → at (a ++ b) i n ≡ at a i n
unfolding at
at_first a b i n h = ap (take n) (drop-append-le i a b (omega arith)) ∙ take-append-le n (drop i a) b (simp length-drop (omega arith))

-- ---- bytes set down

pub length_down : (b : List ℕ) (i : ℕ) (x : List ℕ) → i + length x ≤ length b → length (take i b ++ (x ++ drop (i + length x) b)) ≡ length b
length_down b i x h = simp (length-append, length-take, length-drop) (omega arith)

-- one part right after the other is both at once
pub down_two : (b : List ℕ) (i : ℕ) (x y : List ℕ) (k : ℕ) → i + length x ≡ k → k + length y ≤ length b
    → set_down (set_down b i x) k y ≡ set_down b i (x ++ y)
down_two b i x y k e h =
    let u : List ℕ = take i b ++ x in
    let lu : length u ≡ k = length-append (take i b) x ∙ simp length-take (omega arith) in
    let first : set_down b i x ≡ u ++ drop k b =
    set_down-fits b i x (omega arith) ∙ sym (append_assoc (take i b) x (drop (i + length x) b)) ∙ ap (λ (j : ℕ). u ++ drop j b) e in
    let size : length (u ++ drop k b) ≡ length b = length-append u (drop k b) ∙ simp length-drop (omega (arith, lu)) in
    let front : take k (u ++ drop k b) ≡ u = take_at u (drop k b) k lu in
    let past : k + length y ≡ length u + length y = omega (arith, lu) in
    let back : drop (k + length y) (u ++ drop k b) ≡ drop (k + length y) b =
    ap (λ (j : ℕ). drop j (u ++ drop k b)) past ∙ drop-append-add u (drop k b) (length y) ∙ drop-drop (length y) k b in
    let whole : i + length (x ++ y) ≡ k + length y = ap (λ (j : ℕ). i + j) (length-append x y) ∙ omega (arith, e) in
    ap (λ (s : List ℕ). set_down s k y) first
    ∙ set_down-fits (u ++ drop k b) k y (omega (arith, size))
    ∙ (λ p. front p ++ (y ++ back p))
    ∙ append_assoc (take i b) x (y ++ drop (k + length y) b)
    ∙ ap (λ (s : List ℕ). take i b ++ s) (sym (append_assoc x y (drop (k + length y) b)))
    ∙ ap (λ (j : ℕ). take i b ++ ((x ++ y) ++ drop j b)) (sym whole)
    ∙ sym (set_down-fits b i (x ++ y) (omega (arith, whole)))

-- ---- zeros

pub drop_zeros : (n k : ℕ) → drop k (zeros n) ≡ zeros (n - k)
drop_zeros n zero = let e : n ≡ n - 0 = omega arith in ap (λ (j : ℕ). zeros j) e
drop_zeros zero (suc k) = let e : 0 ≡ 0 - suc k = omega arith in ap (λ (j : ℕ). zeros j) e
drop_zeros (suc n) (suc k) = let e : n - k ≡ suc n - suc k = omega arith in drop_zeros n k ∙ ap (λ (j : ℕ). zeros j) e

pub take_zeros : (n k : ℕ) → k ≤ n → take k (zeros n) ≡ zeros k
take_zeros n zero h = refl
take_zeros zero (suc k) h = absurd (omega arith)
take_zeros (suc n) (suc k) h = ap (λ (s : List ℕ). 0 ∷ s) (take_zeros n k (omega arith))

-- a part set down at the front of zeros
pub down-filled : (x : List ℕ) → length x ≤ 64 → set_down (zeros 64) 0 x ≡ filled x
down-filled x h =
    let e : 0 + length x ≡ length x = omega arith in
    set_down-fits (zeros 64) 0 x (omega arith) ∙ ap (λ (s : List ℕ). x ++ s) (ap (λ (j : ℕ). drop j (zeros 64)) e ∙ drop_zeros 64 (length x))

pub length_filled : (x : List ℕ) → length x ≤ 64 → length (filled x) ≡ 64
length_filled x h = length-append x (zeros (64 - length x)) ∙ simp length-replicate (omega arith)

pub filled-whole : (x : List ℕ) → length x ≡ 64 → filled x ≡ x
filled-whole x h = let e : 64 - length x ≡ 0 = omega arith in rw e (append-nil x)

-- ---- lists made element by element

pub length_made : (f : ℕ → List ℕ → ℕ) (n : ℕ) → length (made f n) ≡ n
unfolding made
length_made f zero = refl
length_made f (suc n) = length-append (made f n) (f n (made f n) ∷ []) ∙ omega (arith, length_made f n)

module _ (f : ℕ → List ℕ → ℕ) (w : List ℕ) (t : ℕ) (e : take t w ≡ made f t) where
  -- one more element, as a loop stores it
  pub made_again : (v : ℕ) → t < length w → v ≡ f t (made f t) → take (t + 1) (set w t v) ≡ made f (t + 1)
  unfolding made
  made_again v h q = rw add-one (take-suc-set w t v h ∙ (λ p. e p ++ (q p ∷ [])))

  -- an element that was made
  pub made_at : (k : ℕ) → k < t → get_or w k 0 ≡ get_or (made f t) k 0
  made_at k h = sym (get_or-take t w k 0 h) ∙ ap (λ (s : List ℕ). get_or s k 0) e

  pub made_all : length w ≡ t → w ≡ made f t
  made_all h = sym (take_all t w (omega arith)) ∙ e

-- ---- one turn more

pub times-again : {S : Type 0} (f : ℕ → S → S) (n : ℕ) (s v : S) → v ≡ times f n s → f n v ≡ times f (n + 1) s
unfolding times
times-again f n s v e = rw add-one (ap (f n) e)

-- ---- a message of two parts: what of it lies in the first, then what lies in the second, set down in zeros

pub filled_two : (a b : List ℕ) (i : ℕ) (x y s t : List ℕ) → i ≤ length a → x ≡ at a i 64 → y ≡ at b 0 (64 - length x) → s ≡ set_down (zeros 64) 0 x
    → t ≡ set_down s (length x) y → t ≡ filled (at (a ++ b) i 64)
filled_two a b i x y s t h ex ey es et =
    let lx : length x ≤ 64 = rw ex (length_at_le a i 64) in
    let ly : length y ≤ 64 - length x = rw ey (length_at_le b 0 (64 - length x)) in
    let lxy : length (x ++ y) ≤ 64 = simp length-append (omega arith) in
    let z : 0 + length x ≡ length x = omega arith in
    let both : x ++ y ≡ at (a ++ b) i 64 = (λ p. ex p ++ (ey ∙ ap (λ (u : List ℕ). at b 0 (64 - length u)) ex) p) ∙ sym (at_both a b i 64 h) in
    et ∙ ap (λ (u : List ℕ). set_down u (length x) y) es ∙ down_two (zeros 64) 0 x y (length x) z (omega arith) ∙ down-filled (x ++ y) lxy ∙ ap filled both

-- ---- one element stored in front of what stands there

pub drop_set : (s : List ℕ) (j v : ℕ) → j < length s → drop j (set s j v) ≡ v ∷ drop (suc j) s
drop_set s j v h =
    drop-cons (set s j v) j 0 (simp length-set (omega arith)) ∙ (λ p. get_or-set_same s j v 0 h p ∷ drop-set-lt (suc j) s j v (omega arith) p)

pub drop_down : (s : List ℕ) (i : ℕ) (x : List ℕ) → i + length x ≤ length s → drop i (set_down s i x) ≡ x ++ drop (i + length x) s
drop_down s i x h = ap (drop i) (set_down-fits s i x h) ∙ drop_at (take i s) (x ++ drop (i + length x) s) i (simp length-take (omega arith))

pub times-then : {S : Type 0} (f : ℕ → S → S) (n m : ℕ) (s v r : S) → v ≡ times f n s → r ≡ f n v → n + 1 ≡ m → r ≡ times f m s
times-then f n m s v r e q k = q ∙ times-again f n s v e ∙ ap (λ (j : ℕ). times f j s) k
