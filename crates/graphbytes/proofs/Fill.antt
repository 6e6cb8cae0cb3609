-- Parts set down one after another are one part; parts of one width fill a place one by one. Assumes nothing.
use mathlib.Core.Path.{◌≡◌, sym, ◌∙◌, ap, subst}
use mathlib.Core.List.{List, [], ◌∷◌, ◌++◌, append_assoc, append-nil}
use Prim.Native.Nat.{ℕ, zero, suc, ◌+◌, ◌*◌, ◌≤◌, ◌<◌}
use native.Mathlib.Omega.{arith}
use native.Mathlib.Numerals.{add-one}
use native.Mathlib.Nat.{mul-suc, mul-zero}
use lib.ListN.{length, take, drop, length-append, take-append-drop}
use lib.Seq.{take_at, take_all, drop-append-add, length-take-le, drop-drop}
use Rattle.hash.specs.Bytes.{set_down}
use Rattle.hash.proofs.Bytes.{set_down-fits, length_set_down}
use Rattle.hash.proofs.Widths.{apart}
use Rattle.object.specs.Ids.{id_in}
use Rattle.graphfile.specs.GraphFile.{flat}
use Rattle.graphfile.proofs.Pieces.{nth, Wide}

-- ---- parts set down

pub join : (b x y : List ℕ) (i : ℕ) → i + length x + length y ≤ length b → set_down (set_down b i x) (i + length x) y ≡ set_down b i (x ++ y)
join b x y i h =
    let d = drop (i + length x) b in
    let p = take i b ++ x in
    let e : set_down b i x ≡ p ++ d = set_down-fits b i x (omega arith) ∙ sym (append_assoc (take i b) x d) in
    let l : length p ≡ i + length x = omega (arith, length-append (take i b) x, length-take-le i b (omega arith)) in
    let t : take (i + length x) (p ++ d) ≡ p = take_at p d (i + length x) l in
    let q : i + length x + length y ≡ length p + length y = omega arith in
    let r : drop (i + length x + length y) (p ++ d) ≡ drop (i + length x + length y) b =
    ap (λ (k : ℕ). drop k (p ++ d)) q ∙ drop-append-add p d (length y) ∙ drop-drop (length y) (i + length x) b in
    let s : length (p ++ d) ≡ length b = ap length (sym e) ∙ length_set_down b i x in
    let z : i + length (x ++ y) ≡ i + length x + length y = omega (arith, length-append x y) in
    ap (λ (a : List ℕ). set_down a (i + length x) y) e
    ∙ set_down-fits (p ++ d) (i + length x) y (omega arith)
    ∙ ap (λ (a : List ℕ). a ++ (y ++ drop (i + length x + length y) (p ++ d))) t
    ∙ ap (λ (a : List ℕ). p ++ (y ++ a)) r
    ∙ append_assoc (take i b) x (y ++ drop (i + length x + length y) b)
    ∙ ap (λ (a : List ℕ). take i b ++ a) (sym (append_assoc x y (drop (i + length x + length y) b)))
    ∙ ap (λ (k : ℕ). take i b ++ ((x ++ y) ++ drop k b)) (sym z)
    ∙ sym (set_down-fits b i (x ++ y) (omega arith))

-- the same of lists that were left one after another: y stands where x ends
pub then : (b : List ℕ) {c d : List ℕ} (i j : ℕ) (x y : List ℕ) → c ≡ set_down b i x → d ≡ set_down c j y → j ≡ i + length x → j + length y ≤ length b → d ≡ set_down b i (x ++ y)
then b {c} {d} i j x y p q e h =
    q ∙ ap (λ (a : List ℕ). set_down a j y) p ∙ ap (λ (k : ℕ). set_down (set_down b i x) k y) e ∙ join b x y i (omega arith)

pub none-down : (b : List ℕ) (i : ℕ) → i ≤ length b → set_down b i [] ≡ b
none-down b i h =
    set_down-fits b i [] (omega arith) ∙ ap (λ (k : ℕ). take i b ++ drop k b) (let z : i + 0 ≡ i = omega arith in z) ∙ take-append-drop i b

-- what was set down at the start is read back
pub read_down : (b x : List ℕ) (n : ℕ) → length x ≡ n → n ≤ length b → take n (set_down b 0 x) ≡ x
read_down b x n e h = ap (take n) (set_down-fits b 0 x (omega arith)) ∙ take_at x (drop (0 + length x) b) n e

-- ---- parts of one width

flat-next : (xs : List (List ℕ)) (i : ℕ) → i < length xs → flat (take (suc i) xs) ≡ flat (take i xs) ++ nth xs i
unfolding flat nth
flat-next [] i h = absurd (omega arith)
flat-next (x ∷ xs) zero h = append-nil x
flat-next (x ∷ xs) (suc i) h = ap (λ (a : List ℕ). x ++ a) (flat-next xs i (omega arith)) ∙ sym (append_assoc x (flat (take i xs)) (nth xs i))

pub length_filled : (w : ℕ) (xs : List (List ℕ)) (i : ℕ) → Wide w xs → i ≤ length xs → length (flat (take i xs)) ≡ w * i
unfolding flat
length_filled w xs zero h l = sym (mul-zero w)
length_filled w xs (suc i) h l =
    ap length (flat-next xs i (omega arith))
    ∙ length-append (flat (take i xs)) (nth xs i)
    ∙ (let e : length (flat (take i xs)) + length (nth xs i) ≡ w * suc i = omega (arith, length_filled w xs i h (omega arith), h.each i (omega arith), mul-suc w i) in e)

-- the first i parts stand at a place
pub record Filled (b s : List ℕ) (from : ℕ) (xs : List (List ℕ)) (i : ℕ) : Type 0 where
  pub is : s ≡ set_down b from (flat (take i xs))

pub fill_none : (b : List ℕ) (from : ℕ) (xs : List (List ℕ)) → from ≤ length b → Filled b b from xs 0
unfolding flat
fill_none b from xs h = record { is = sym (none-down b from h) }

pub fill_next : {b s s' : List ℕ} {from : ℕ} {xs : List (List ℕ)} {i : ℕ} (w p : ℕ) (x : List ℕ) → Wide w xs → i < length xs → from + w * length xs ≤ length b → Filled b s from xs i
    → s' ≡ set_down s p x → p ≡ from + w * i → x ≡ nth xs i → Filled b s' from xs (i + 1)
fill_next {b} {s} {s'} {from} {xs} {i} w p x h l room f e ep ex =
    let n = length_filled w xs i h (omega arith) in
    let t : length (nth xs i) ≡ w = h.each i l in
    let r : w * i + w ≤ w * length xs = apart w l in
    record {
      is = then b from p (flat (take i xs)) (nth xs i) f.is (e ∙ ap (set_down s p) ex) (omega arith) (omega arith)
          ∙ ap (set_down b from) (sym (flat-next xs i l))
          ∙ ap (λ (k : ℕ). set_down b from (flat (take k xs))) (sym (add-one i));
    }

-- the same, the number of parts told otherwise
pub fill_step : {b s s' : List ℕ} {from : ℕ} {xs : List (List ℕ)} {i m : ℕ} (w p : ℕ) (x : List ℕ) → Wide w xs → i < length xs → from + w * length xs ≤ length b → Filled b s from xs i
    → s' ≡ set_down s p x → p ≡ from + w * i → x ≡ nth xs i → m ≡ i + 1 → Filled b s' from xs m
fill_step {b} {s} {s'} {from} {xs} {i} {m} w p x h l room f e ep ex em = subst (λ (k : ℕ). Filled b s' from xs k) (sym em) (fill_next w p x h l room f e ep ex)

pub fill_all : {b s : List ℕ} {from : ℕ} {xs : List (List ℕ)} {i : ℕ} → Filled b s from xs i → length xs ≤ i → s ≡ set_down b from (flat xs)
fill_all {b} {s} {from} {xs} {i} f h = f.is ∙ ap (λ (a : List (List ℕ)). set_down b from (flat a)) (take_all i xs h)

pub four_same : {a b c d p q r s : ℕ} → a ≡ p → b ≡ q → c ≡ r → d ≡ s → ◌≡◌ {A = List ℕ} (a ∷ b ∷ c ∷ d ∷ []) (p ∷ q ∷ r ∷ s ∷ [])
four_same e f g h = λ t. e t ∷ f t ∷ g t ∷ h t ∷ []

-- a digest set down in an array is read back
pub sum-read : (z d : List ℕ) (w : ℕ) → length d ≡ w → w ≤ length z → id_in w (set_down z 0 d) ≡ d
unfolding id_in
sum-read z d w e h = read_down z d w e h
